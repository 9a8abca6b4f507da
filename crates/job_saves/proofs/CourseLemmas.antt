-- Saves and other calls go on with a job's course.
use Rattle.std.proofs.Common.{◌≡◌, inl, inr, ℕ, ◌+◌, ◌<◌, ◌≤◌, Bool, true, false, List, Option, Some, None, Result, Ok, Err, length, refl, sym, ap, subst, ◌∙◌, arith}
use Rattle.std.specs.Prelude.{IfSome, OnOk}
use Rattle.std.proofs.lemmas.Bool.{cases_Bool}
use Rattle.nb_model.specs.declared.notebook.Notebook.{Notebook}
use Rattle.out_fold.specs.declared.used.Used.{Used}
use Rattle.world.specs.declared.entry.Entry.{Entry}
use Rattle.world.specs.Counts.{Counts, CountsGrow, Rose}
use Rattle.world.specs.Moments.{Since, Told}
use Rattle.world.specs.Disk.{place}
use Rattle.words.specs.declared.ask.Ask.{Ask}
use Rattle.said_lines.specs.Lines.{saved_line}
use Rattle.said_lines.specs.Speech.{Says, heard}
use Rattle.world.specs.Touched.{Spares}
use Rattle.world.proofs.MomentsLemmas.{told_as as moments_as, since_then}
use Rattle.save_disk.specs.Places.{durable_place, save_count}
use Rattle.job_end.specs.declared.end.End.{End}
use Rattle.job_end.specs.declared.end.End.TheVariants as end
use Rattle.world.proofs.CountsLemmas.{grow_start, grow_then, rose_since, rose_still}
use Rattle.progress_save.specs.declared.progress_fault.ProgressFault.{ProgressFault}
use Rattle.progress_save.specs.declared.progress_fault.ProgressFault.TheVariants as fault
use Rattle.progress_save.specs.Prefix.{prefix}
use Rattle.progress_save.specs.Saved.{line_of, SavesAs, SavesSilently, EndsAs, OnRefusal, SaveCause, IsSaveFault}
use Rattle.nb_text.specs.Notebooks.{text_of}
use Rattle.save_course.specs.Course.{PrefixSave, prefix_text}
use Rattle.save_course.proofs.CourseLemmas.{saved_goes_on}
use Rattle.save_course.proofs.RestLemmas.{spared_go_on, spared_rest, saved_rests}
use Rattle.job_notebook.specs.declared.notebook.JobNotebook.{JobNotebook}
use Rattle.job_notebook.specs.State.{notebook_of, settled_of, merge_of, output_of, is_closed, Keeps, KeepsParts, KeepsRead, OnCall, closed_after}
use Rattle.job_saves.specs.Course.{Origin, IsFor, IsSaved, IsOnCourse, HasSaved, Begins, Stands, Ends, CountsWork, HasCalled, HasPart, TellsAll, stays_open, answer_of}
use Rattle.job_saves.specs.Calls.{Cast, IsCall}
use Rattle.job_saves.specs.Speaking.{ends_line, IsWhole, SpeaksWhole, SavesNone, IsLine}
use Rattle.job_saves.proofs.CallLemmas.{saves_called, line_called, says_whole, saves_whole}
use Rattle.job_saves.proofs.SpeakingLemmas.{line_ends}
use Rattle.job_saves.proofs.TellingLemmas.{not_both, not_stopped, save_line, save_tells_all, tells_pass, tells_stay}

-- ---- what is told and what was held

pub told_on : (j k : Option (List Entry)) (R : List Entry → List Entry → Type 0) (P Q : List Entry → Type 0) → Told j k R → IfSome j P
    → ((x y : List Entry) → P x → R x y → Q y) → IfSome k Q
told_on j None R P Q told held turns = tt
told_on None (Some y) R P Q told held turns = absurd told.so
told_on (Some x) (Some y) R P Q told held turns = turns x y held told.so

-- what holds where it is told
pub told_as : (j : Option (List Entry)) (P Q : List Entry → Type 0) → ((x : List Entry) → P x → Q x) → IfSome j P → IfSome j Q
told_as None P Q turns held = tt
told_as (Some x) P Q turns held = turns x held

pub save_grows : (old new : Counts) (failed : Type 0) → SaveCause old new failed → CountsGrow old new
save_grows old new failed c =
    subst (CountsGrow old) (sym c.others) (record {
      disk = c.disk.later;
      net = omega arith;
      waits = omega arith;
      child = omega arith;
      rand = omega arith;
      say = c.say.later;
      last = omega arith;
    })

-- ---- a save

module _ (o : Origin) (was now : JobNotebook) (p : ℕ) (stop : Option ℕ) (line : List ℕ) (failed : Type 0) (past after : List Entry) (h : IsOnCourse o was true past)
    (merge : merge_of was ≡ o.merge) (above : settled_of was ≤ p) where
  -- the save that it would be
  abbrev next_save : List Used → PrefixSave
  next_save us = record { us = us; settled = p; stop = stop }

  -- the notebook is closed: no call was made
  still : (is_closed now ≡ true) → after ≡ past → IsOnCourse o now true after
  still closed same = record {
    settled = h.settled;
    is = subst (IsSaved o true h.settled) (sym same) h.is;
    above = λ e f. not_both (is_closed now) closed f;
    keeps = λ e f. not_both (is_closed now) closed f;
  }

  -- its text was saved
  went : (result : Result (Unit {0}) ProgressFault) (k : KeepsRead was o.first) → h.settled ≤ p → notebook_of now ≡ prefix (merge_of was) k.us p stop o.first
      → SavesAs o.output (text_of (notebook_of now)) line failed result past after → SavesAs o.output (prefix_text o.merge o.first (next_save k.us)) line failed result past after
  went result k more is did =
      let same : notebook_of now ≡ prefix o.merge k.us p stop o.first = subst (λ m. notebook_of now ≡ prefix m k.us p stop o.first) merge is in
      subst (λ n. SavesAs o.output (text_of n) line failed result past after) same did

  pub save_goes_on : (result : Result (Unit {0}) ProgressFault)
      → OnCall result ((first : Notebook) (us : List Used) → Keeps was first us → notebook_of now ≡ prefix (merge_of was) us p stop first)
      → OnOk result (stop ≡ None → (first : Notebook) → KeepsRead was first → KeepsRead now first)
      → OnCall result (settled_of now ≡ p) → is_closed now ≡ closed_after result stop
      → (is_closed was ≡ true → result ≡ Err fault.Closed)
      → SavesAs o.output (text_of (notebook_of now)) line failed result past after
      → IsOnCourse o now (stays_open (answer_of result)) after
  save_goes_on (Ok u) is keeps settles closes shut did =
      elim (cases_Bool (is_closed was)) [
        | inl closed ↦ let no = shut closed in absurd (cc)
        | inr on ↦
            let k : KeepsRead was o.first = h.keeps refl on in
            let more : h.settled ≤ p = omega (arith, h.above refl on, above) in
            let saved = went (Ok u) k more (is o.first k.us k.keeps) did in
            record {
              settled = p;
              is = record {
                course = saved_goes_on o.output o.merge o.first 0 o.before line failed h.settled (Ok u) (next_save k.us) past after h.is.course more k.read saved;
                rested = saved_rests o.output (prefix_text o.merge o.first (next_save k.us)) line failed (Ok u) past after h.is.rested saved;
              };
              above = λ e f. omega (arith, settles);
              keeps = λ e f. keeps (not_stopped stop (Ok u) u refl (sym closes ∙ f)) o.first k;
            }
      ]
  save_goes_on (Err (fault.Save f)) is keeps settles closes shut did =
      elim (cases_Bool (is_closed was)) [
        | inl closed ↦ let no = shut closed in absurd (cc)
        | inr on ↦
            let k : KeepsRead was o.first = h.keeps refl on in
            let more : h.settled ≤ p = omega (arith, h.above refl on, above) in
            let saved = went (Err (fault.Save f)) k more (is o.first k.us k.keeps) did in
            record {
              settled = p;
              is = record {
                course = saved_goes_on o.output o.merge o.first 0 o.before line failed h.settled (Err (fault.Save f)) (next_save k.us) past after h.is.course more k.read saved;
                rested = saved_rests o.output (prefix_text o.merge o.first (next_save k.us)) line failed (Err (fault.Save f)) past after h.is.rested saved;
              };
              above = λ e f. absurd (cc);
              keeps = λ e f. absurd (cc);
            }
      ]
  save_goes_on (Err fault.Closed) is keeps settles closes shut did = still closes did
  save_goes_on (Err fault.NoMemory) is keeps settles closes shut did = still closes did

-- a failed save rose
failed_rose : (result : Result (Unit {0}) ProgressFault) (old new : ℕ) → (IsSaveFault result → Rose old new) → stays_open (answer_of result) ≡ false → Rose old new
failed_rose (Ok u) old new rose e = absurd (cc)
failed_rose (Err (fault.Save f)) old new rose e = rose tt
failed_rose (Err fault.Closed) old new rose e = absurd (cc)
failed_rose (Err fault.NoMemory) old new rose e = absurd (cc)

pub save_stands : (o : Origin) (was now : JobNotebook) (p : ℕ) (stop : Option ℕ) (line : List ℕ) (failed : Type 0) (result : Result (Unit {0}) ProgressFault)
    (j k : Option (List Entry)) (c d : Counts)
    → settled_of was ≤ p
    → OnCall result ((first : Notebook) (us : List Used) → Keeps was first us → notebook_of now ≡ prefix (merge_of was) us p stop first)
    → OnOk result (stop ≡ None → (first : Notebook) → KeepsRead was first → KeepsRead now first)
    → OnCall result (settled_of now ≡ p) → is_closed now ≡ closed_after result stop
    → (is_closed was ≡ true → result ≡ Err fault.Closed)
    → Told j k (SavesAs (output_of was) (text_of (notebook_of now)) line failed result)
    → SaveCause c d (IsSaveFault result)
    → merge_of now ≡ merge_of was → output_of now ≡ output_of was
    → Stands o was true j c → Stands o now (stays_open (answer_of result)) k d
save_stands o was now p stop line failed result j k c d above is keeps settles closes shut did cause merge output s = record {
  output = output ∙ s.output;
  merge = merge ∙ s.merge;
  told = λ on. told_on j k (SavesAs (output_of was) (text_of (notebook_of now)) line failed result) (IsOnCourse o was true) (IsOnCourse o now (stays_open (answer_of result))) did (s.told on)
      (λ x y h saved. save_goes_on o was now p stop line failed x y h s.merge above result is keeps settles closes shut
      (subst (λ q. SavesAs q (text_of (notebook_of now)) line failed result x y) s.output saved));
  grow = grow_then s.grow (save_grows c d (IsSaveFault result) cause);
  cause = λ e. rose_since o.counts.disk c.disk d.disk s.grow.disk (failed_rose result c.disk d.disk cause.disk.cause e);
}

-- ---- the calls of a job

pub work_start : (c : Counts) → CountsWork c c
work_start c = record { grow = grow_start c; waits = refl }

pub work_then : (a b c : Counts) → CountsWork a b → CountsWork b c → CountsWork a c
work_then a b c first then = record { grow = grow_then first.grow then.grow; waits = then.waits ∙ first.waits }

pub save_works : (old new : Counts) (failed : Type 0) → SaveCause old new failed → CountsWork old new
save_works old new failed c = record { grow = save_grows old new failed c; waits = ap (λ (n : Counts). n.waits) c.others }

pub calls_with : (cast : Cast) (since : List Entry) (from c d : Counts) (j k : Option (List Entry)) → Told j k (Since (IsCall cast)) → CountsWork c d
    → (cast.clean ≡ true → SpeaksWhole j c → SpeaksWhole k d) → HasCalled cast since from j c → HasCalled cast since from k d
calls_with cast since from c d j k told work speaks s = record {
  told = told_on j k (Since (IsCall cast)) (Since (IsCall cast) since) (Since (IsCall cast) since) told s.told (λ x y held more. since_then held more);
  counts_work = work_then from c d s.counts_work work;
  spoken = λ e. speaks e (s.spoken e);
}

-- no say has failed where none has later
none_before : (c d : Counts) → CountsGrow c d → ((0 < d.say) → ⊥) → (0 < c.say) → ⊥
none_before c d grow none failed = none (omega (arith, failed, grow.say))

-- calls that say nothing
pub quiet_speaks : (j k : Option (List Entry)) (c d : Counts) → Told j k (λ before after. heard after ≡ heard before) → CountsGrow c d → SpeaksWhole j c → SpeaksWhole k d
quiet_speaks j k c d quiet grow speaks =
    λ none. told_on j k (λ before after. heard after ≡ heard before) IsWhole IsWhole quiet (speaks (none_before c d grow none))
    (λ x y whole same. subst (λ xs. ends_line xs ≡ true) (sym same) whole)

-- a line that was said
pub line_speaks : (clean : Bool) (a : Ask) (line : List ℕ) → ((begin : List Entry) → IsLine clean a begin line) → (j k : Option (List Entry)) (c d : Counts) → Told j k (Says line (0 < d.say))
    → CountsGrow c d → SpeaksWhole j c → SpeaksWhole k d
line_speaks clean a line is j k c d told grow speaks =
    λ none. told_on j k (Says line (0 < d.say)) IsWhole IsWhole told (speaks (none_before c d grow none))
    (λ x y whole said. says_whole (line_ends clean a x line (is x)) none said whole)

saves_speak : (a : Ask) (text : List ℕ) (settled cells : ℕ) (result : Result (Unit {0}) ProgressFault) (j k : Option (List Entry)) (c d : Counts)
    → Told j k (SavesAs a.output text (saved_line a.output settled cells) (0 < d.say) result) → CountsGrow c d → SpeaksWhole j c → SpeaksWhole k d
saves_speak a text settled cells result j k c d told grow speaks =
    λ none. told_on j k (SavesAs a.output text (saved_line a.output settled cells) (0 < d.say) result) IsWhole IsWhole told (speaks (none_before c d grow none))
    (λ x y whole did. saves_whole a text settled cells (0 < d.say) result x y none did whole)

pub calls_on : (cast : Cast) (since : List Entry) (from c d : Counts) (j k : Option (List Entry)) → Told j k (Since (IsCall cast))
    → Told j k (λ before after. heard after ≡ heard before) → CountsWork c d → HasCalled cast since from j c → HasCalled cast since from k d
calls_on cast since from c d j k told quiet work s = calls_with cast since from c d j k told work (λ e. quiet_speaks j k c d quiet work.grow) s

-- a line that a job of the cast says by itself
pub line_on : (cast : Cast) (number : ℕ) (a : Ask) → cast.job number ≡ Some a → (line : List ℕ) → ((begin : List Entry) → IsLine cast.clean a begin line) → (since : List Entry)
    → (from c d : Counts) (j k : Option (List Entry)) → Told j k (Says line (0 < d.say)) → (0 < c.say → k ≡ j) → CountsWork c d → HasCalled cast since from j c
    → HasCalled cast since from k d
line_on cast number a has line is since from c d j k told silent work s =
    calls_with cast since from c d j k (line_called cast number a has line is j k c d s.spoken told silent) work (λ e. line_speaks cast.clean a line is j k c d told work.grow) s

part_with : (cast : Cast) (since : List Entry) (from c d : Counts) (was now : JobNotebook) (j k : Option (List Entry)) → output_of now ≡ output_of was
    → (HasCalled cast since from j c → HasCalled cast since from k d) → (p : HasPart cast since from was j c) → (cast.clean ≡ true → TellsAll p.ask now k d)
    → HasPart cast since from now k d
part_with cast since from c d was now j k output calls s told =
    record { number = s.number; ask = s.ask; has = s.has; output = output ∙ s.output; so = calls s.so; told = told }

-- calls that save nothing
pub calls_part : (cast : Cast) (since : List Entry) (from c d : Counts) (b : JobNotebook) (j k : Option (List Entry)) → Told j k (Since (IsCall cast))
    → Told j k (λ before after. heard after ≡ heard before) → Told j k (Since SavesNone) → CountsWork c d → HasPart cast since from b j c → HasPart cast since from b k d
calls_part cast since from c d b j k told quiet none work s =
    part_with cast since from c d b b j k refl (calls_on cast since from c d j k told quiet work) s (λ e. tells_pass s.ask b j k c d none work.grow (s.told e))

pub save_called : (cast : Cast) (since : List Entry) (from : Counts) (was now : JobNotebook) (p : ℕ) (stop : Option ℕ)
    (result : Result (Unit {0}) ProgressFault) (j k : Option (List Entry)) (c d : Counts)
    → settled_of was ≤ p → p ≤ length (notebook_of was).cells
    → OnCall result ((first : Notebook) (us : List Used) → Keeps was first us → notebook_of now ≡ prefix (merge_of was) us p stop first)
    → OnOk result (stop ≡ None → (first : Notebook) → KeepsRead was first → KeepsRead now first)
    → OnCall result (settled_of now ≡ p) → is_closed now ≡ closed_after result stop → (is_closed was ≡ true → result ≡ Err fault.Closed)
    → merge_of now ≡ merge_of was → length (notebook_of now).cells ≡ length (notebook_of was).cells → output_of now ≡ output_of was
    → Told j k (SavesAs (output_of was) (text_of (notebook_of now)) (line_of (output_of was) p (notebook_of now)) (0 < d.say) result)
    → (0 < c.say → Told j k (SavesSilently (output_of was) (text_of (notebook_of now)) result))
    → SaveCause c d (IsSaveFault result) → HasPart cast since from was j c → HasPart cast since from now k d
save_called cast since from was now p stop result j k c d above within is keeps settles closes shut merge size output did silent cause s =
    let text = text_of (notebook_of now) in
    let cells = length (notebook_of now).cells in
    let told = subst (λ q. Told j k (SavesAs q text (line_of q p (notebook_of now)) (0 < d.say) result)) s.output did in
    let unsaid : 0 < c.say → Told j k (SavesSilently (Ask.output s.ask) text result) = λ f. subst (λ q. Told j k (SavesSilently q text result)) s.output (silent f) in
    let work = save_works c d (IsSaveFault result) cause in
    part_with cast since from c d was now j k output
    (calls_with cast since from c d j k
    (saves_called cast s.number s.ask s.has text (saved_line (Ask.output s.ask) p cells) result j k c d
    (save_line cast.clean s.ask was now p stop result j c above within is shut merge size s.told) s.so.spoken told unsaid) work
    (λ e. saves_speak s.ask text p cells result j k c d told work.grow)) s
    (λ e. save_tells_all s.ask was now p stop result j k c d above within is keeps settles closes shut merge size told work.grow (s.told e))

-- ---- what is used changes nothing of the course

pub stays : (was now : JobNotebook) → KeepsParts was now → ((first : Notebook) → KeepsRead was first → KeepsRead now first)
    → (o : Origin) (is_open : Bool) (j : Option (List Entry)) (c : Counts) → Stands o was is_open j c → Stands o now is_open j c
stays was now parts reads o is_open j c s = record {
  output = parts.output ∙ s.output;
  merge = parts.merge ∙ s.merge;
  told = λ on. told_as j (IsOnCourse o was is_open) (IsOnCourse o now is_open) (λ past h. record {
    settled = h.settled;
    is = h.is;
    above = λ e f. subst (λ n. h.settled ≤ n) (sym parts.settled) (h.above e (sym parts.closed ∙ f));
    keeps = λ e f. reads o.first (h.keeps e (sym parts.closed ∙ f));
  }) (s.told on);
  grow = s.grow;
  cause = s.cause;
}

pub keeps_part : (was now : JobNotebook) (cast : Cast) (since : List Entry) (from : Counts) (j : Option (List Entry)) (c : Counts) → KeepsParts was now
    → ((first : Notebook) → KeepsRead was first → KeepsRead now first) → HasPart cast since from was j c → HasPart cast since from now j c
keeps_part was now cast since from j c parts reads s = record {
  number = s.number;
  ask = s.ask;
  has = s.has;
  output = parts.output ∙ s.output;
  so = s.so;
  told = λ e. tells_stay s.ask was now j c parts reads (s.told e);
}

-- ---- other calls

pub others_pass : (o : Origin) (b : JobNotebook) (is_open : Bool) (j k : Option (List Entry)) (c d : Counts) → Told j k (Since (Spares o.output)) → CountsGrow c d
    → Stands o b is_open j c → Stands o b is_open k d
others_pass o b is_open j k c d told grow s = record {
  output = s.output;
  merge = s.merge;
  told = λ on. told_on j k (Since (Spares o.output)) (IsOnCourse o b is_open) (IsOnCourse o b is_open) told (s.told on) (λ x y h since. record {
    settled = h.settled;
    is = record { course = spared_go_on o.output o.merge o.first 0 o.before h.is.course h.is.rested since; rested = spared_rest o.output h.is.rested since };
    above = h.above;
    keeps = h.keeps;
  });
  grow = grow_then s.grow grow;
  cause = λ e. rose_still o.counts.disk c.disk d.disk (s.cause e) grow.disk;
}

-- ---- begin and end

pub begins_pass : (o : Origin) (j k : Option (List Entry)) (c d : Counts) → Told j k (Since (Spares o.output)) → CountsGrow c d → Begins o j c → Begins o k d
begins_pass o j k c d told grow s = record {
  told = λ on. told_on j k (Since (Spares o.output)) (IsSaved o true 0) (IsSaved o true 0) told (s.told on) (λ x y h since. record {
    course = spared_go_on o.output o.merge o.first 0 o.before h.course h.rested since;
    rested = spared_rest o.output h.rested since;
  });
  grow = grow_then s.grow grow;
}

pub ends_pass : (o : Origin) (is_open : Bool) (j k : Option (List Entry)) (c d : Counts) → Told j k (Since (Spares o.output)) → CountsGrow c d → Ends o is_open j c → Ends o is_open k d
ends_pass o is_open j k c d told grow s = record {
  told = λ on. told_on j k (Since (Spares o.output)) (HasSaved o is_open) (HasSaved o is_open) told (s.told on) (λ x y h since. record {
    settled = h.settled;
    is = record {
      course = spared_go_on o.output o.merge o.first 0 o.before h.is.course h.is.rested since;
      rested = spared_rest o.output h.is.rested since;
    };
  });
  grow = grow_then s.grow grow;
  cause = λ e. rose_still o.counts.disk c.disk d.disk (s.cause e) grow.disk;
}

pub job_begins : (b : JobNotebook) (first : Notebook) (o : Origin) (j : Option (List Entry)) (c : Counts) → KeepsRead b first → IsFor (output_of b) (merge_of b) first o
    → Begins o j c → Stands o b true j c
job_begins b first o j c keeps for s = record {
  output = sym for.output_is;
  merge = sym for.merge_is;
  told = λ on. told_as j (IsSaved o true 0) (IsOnCourse o b true) (λ past h. record {
    settled = 0;
    is = h;
    above = λ e f. omega arith;
    keeps = λ e f. subst (KeepsRead b) (sym for.first_is) keeps;
  }) (s.told on);
  grow = s.grow;
  cause = λ e. absurd (cc);
}

pub job_ends : (o : Origin) (b : JobNotebook) (is_open : Bool) (j : Option (List Entry)) (c : Counts) → Stands o b is_open j c → Ends o is_open j c
job_ends o b is_open j c s = record {
  told = λ on. told_as j (IsOnCourse o b is_open) (HasSaved o is_open) (λ past h. record { settled = h.settled; is = h.is }) (s.told on);
  grow = s.grow;
  cause = s.cause;
}

-- ---- what a save leaves, by its answer

made_durable : (r : Result (Unit {0}) ProgressFault) (output text : List ℕ) (j k : Option (List Entry)) → Told j k (EndsAs output text r)
    → OnOk (answer_of r) (Told j k (λ before after. place after output ≡ durable_place text))
made_durable (Ok u) output text j k told = moments_as told (λ x y e. e.place_is)
made_durable (Err (fault.Save f)) output text j k told = tt
made_durable (Err fault.Closed) output text j k told = tt
made_durable (Err fault.NoMemory) output text j k told = tt

-- the same by the answer of the job's save
pub durable_answer : (r : Result (Unit {0}) ProgressFault) (q : Result (Unit {0}) End) (output text : List ℕ) (j k : Option (List Entry)) → q ≡ answer_of r
    → Told j k (EndsAs output text r) → OnOk q (Told j k (λ before after. place after output ≡ durable_place text))
durable_answer r q output text j k is told = subst (λ s. OnOk s (Told j k (λ before after. place after output ≡ durable_place text))) (sym is) (made_durable r output text j k told)

-- and one save more is acknowledged
made_acknowledged : (r : Result (Unit {0}) ProgressFault) (output text : List ℕ) (j k : Option (List Entry)) → Told j k (EndsAs output text r)
    → OnOk (answer_of r) (Told j k (λ before after. save_count output after ≡ save_count output before + 1))
made_acknowledged (Ok u) output text j k told = moments_as told (λ x y e. e.count_is)
made_acknowledged (Err (fault.Save f)) output text j k told = tt
made_acknowledged (Err fault.Closed) output text j k told = tt
made_acknowledged (Err fault.NoMemory) output text j k told = tt

pub acknowledged_answer : (r : Result (Unit {0}) ProgressFault) (q : Result (Unit {0}) End) (output text : List ℕ) (j k : Option (List Entry)) → q ≡ answer_of r
    → Told j k (EndsAs output text r) → OnOk q (Told j k (λ before after. save_count output after ≡ save_count output before + 1))
acknowledged_answer r q output text j k is told =
    subst (λ s. OnOk s (Told j k (λ before after. save_count output after ≡ save_count output before + 1))) (sym is) (made_acknowledged r output text j k told)

pub left_alone : (r : Result (Unit {0}) ProgressFault) (A : Type 0) → OnRefusal r A → answer_of r ≡ Err end.NoMemory → A
left_alone (Ok u) A h e = absurd (cc)
left_alone (Err (fault.Save f)) A h e = absurd (cc)
left_alone (Err fault.Closed) A h e = h
left_alone (Err fault.NoMemory) A h e = h
