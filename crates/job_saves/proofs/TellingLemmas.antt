-- What the lines of a job's saves tell, save after save.
use Rattle.std.proofs.Common.{◌≡◌, ◌≢◌, ℕ, ◌+◌, ◌<◌, ◌≤◌, Bool, true, false, List, [], ◌∷◌, ◌++◌, length, take, append_assoc, Option, Some, None, Result, Ok, Err, refl, sym, ◌∙◌, ap, subst, arith, inl, inr}
use Rattle.std.specs.Prelude.{IfSome, OnOk, if◌then◌else◌}
use Rattle.std.proofs.lemmas.Bool.{and_left, and_right}
use Rattle.nb_model.specs.declared.notebook.Notebook.{Notebook}
use Rattle.out_fold.specs.declared.used.Used.{Used}
use Rattle.words.specs.declared.ask.Ask.{Ask}
use Rattle.world.specs.declared.entry.Entry.{Entry}
use Rattle.world.specs.declared.entry.Entry.TheVariants as made
use Rattle.world.specs.declared.did.Did.{Did}
use Rattle.world.specs.declared.did.Did.TheVariants as did
use Rattle.world.specs.Acked.{is_acknowledging, is_renamed, renames, syncs_folder}
use Rattle.world.specs.Counts.{Counts, CountsGrow}
use Rattle.world.specs.Disk.{place, folder_of}
use Rattle.world.specs.Moments.{Since, start, more as later, Told}
use Rattle.world.specs.Parts.{Part, OnDisk, part_of, IsOf}
use Rattle.world.specs.Touched.{Spares}
use Rattle.world.proofs.MomentsLemmas.{since_as, since_then, told_as as moments_as}
use Rattle.said_lines.specs.Lines.{saved_line}
use Rattle.said_lines.specs.Speech.{Speech, Says}
use Rattle.said_lines.specs.Speech as said
use Rattle.said_lines.proofs.SpeechLemmas.{says_since}
use Rattle.save_disk.specs.declared.save_fault.SaveFault.{SaveFault}
use Rattle.save_disk.specs.declared.save_fault.SaveFault.TheVariants as failed_at
use Rattle.save_disk.specs.Entries.{Writes, SaveOf}
use Rattle.save_disk.specs.Entries as disk
use Rattle.save_disk.specs.Places.{save_count, durable_place}
use Rattle.world.specs.Save.{temporary_of}
use Rattle.save_disk.proofs.Laws.{end_of, part_of_save}
use Rattle.progress_save.specs.declared.progress_fault.ProgressFault.{ProgressFault}
use Rattle.progress_save.specs.declared.progress_fault.ProgressFault.TheVariants as fault
use Rattle.progress_save.specs.Prefix.{prefix}
use Rattle.progress_save.specs.Saved.{done, failure, SavesAs}
use Rattle.nb_text.specs.Notebooks.{text_of}
use Rattle.kernel_start.specs.declared.connection_fault.ConnectionFault.{ConnectionFault}
use Rattle.kernel_start.specs.declared.connection_fault.ConnectionFault.TheVariants as file
use Rattle.kernel_start.specs.ConnectionFile.{WritesAndSyncs, FailsAtFile, not_created, not_written, not_synced, WritesFile}
use Rattle.save_course.specs.Course.{IsRested}
use Rattle.save_course.proofs.RestLemmas.{none_waits, spared_rest, saved_rests}
use Rattle.job_notebook.specs.declared.notebook.JobNotebook.{JobNotebook}
use Rattle.job_notebook.specs.State.{notebook_of, settled_of, merge_of, is_closed, Keeps, KeepsParts, KeepsRead, OnCall, closed_after}
use Rattle.job_saves.specs.Course.{LacksSaves, HasOnlyRead, IsTold, TellsAll}
use Rattle.job_saves.specs.Reads.{IsFirstOf}
use Rattle.job_saves.specs.Speaking.{WasTold, TellsEach, TellsEarlier, SavesNone, IsPrefixOf, IsLine, of_save}
use Rattle.job_saves.proofs.ReadLemmas.{input_later}

-- ---- one more entry

abbrev tail_of : List Entry → List Entry
tail_of [] = []
tail_of (entry ∷ past) = past

-- it stands in a longer journal too
told_later : (output : List ℕ) (most cells : ℕ) (begin past front : List Entry) → WasTold output most cells begin past → WasTold output most cells begin (front ++ past)
told_later output most cells begin past front t = record {
  settled = t.settled;
  less = t.less;
  said = t.said;
  speech = t.speech;
  later = front ++ t.later;
  is = ap (λ xs. front ++ xs) t.is ∙ sym (append_assoc front t.later t.said);
}

-- an entry that acknowledges nothing
tells_more : (output : List ℕ) (most cells : ℕ) (entry : Entry) (past : List Entry) → is_acknowledging (temporary_of output) output (entry ∷ past) ≡ false
    → TellsEach output most cells past → TellsEach output most cells (entry ∷ past)
tells_more output most cells entry past not_one h begin [] is one =
    let wrong : is_acknowledging (temporary_of output) output (entry ∷ past) ≡ true = subst (λ x. is_acknowledging (temporary_of output) output x ≡ true) (sym is) one in
    let no : true ≡ false = sym wrong ∙ not_one in absurd (cc)
tells_more output most cells entry past not_one h begin (x ∷ front) is one =
    told_later output most cells begin past (entry ∷ []) (h begin front (ap tail_of is) one)

-- more cells may be settled
tells_rising : (output : List ℕ) (most now cells : ℕ) (past : List Entry) → most ≤ now → TellsEach output most cells past → TellsEach output now cells past
tells_rising output most now cells past less h begin front is one =
    let t = h begin front is one in
    let below : t.settled ≤ now = omega (arith, t.less, less) in
    record { settled = t.settled; less = below; said = t.said; speech = t.speech; later = t.later; is = t.is }

-- ---- calls that don't touch the output

waits_not : (output : List ℕ) (entry : Entry) (past : List Entry) → IsRested output past → is_acknowledging (temporary_of output) output (entry ∷ past) ≡ false
waits_not output entry past rested = and_right (syncs_folder output entry) (is_renamed (temporary_of output) output past) rested

spared_tells : (output : List ℕ) (most cells : ℕ) {past after : List Entry} → IsRested output past → Since (Spares output) past after → TellsEach output most cells past
    → TellsEach output most cells after
spared_tells output most cells rested start h = h
spared_tells output most cells rested (later {past} {entry} since spared) h =
    tells_more output most cells entry past (waits_not output entry past (spared_rest output rested since)) (spared_tells output most cells rested since h)

first_later : {P : List Entry → Type 0} (a : Ask) (n : Notebook) {before after : List Entry} → Since P before after → IsFirstOf a before n → IsFirstOf a after n
first_later a n since h = record { given = h.given; input = input_later a h.given since h.input; is = h.is }

pub told_since : (a : Ask) (b : JobNotebook) {past after : List Entry} → Since (Spares a.output) past after → IsTold a b past → IsTold a b after
told_since a b since h = record {
  first = h.first;
  own = first_later a h.first since h.own;
  size = h.size;
  merge = h.merge;
  keeps = h.keeps;
  rested = spared_rest a.output h.rested since;
  lines = spared_tells a.output (settled_of b) (length h.first.cells) h.rested since h.lines;
}

-- wherever it is told
pub tells_spared : (a : Ask) (b : JobNotebook) (j k : Option (List Entry)) (c d : Counts) → Told j k (Since (Spares a.output)) → CountsGrow c d → TellsAll a b j c → TellsAll a b k d
tells_spared a b j k c d told grow h still none = by j k told (h still (λ failed. none (omega (arith, failed, grow.say))))
  where
    by : (j k : Option (List Entry)) → Told j k (Since (Spares a.output)) → IfSome j (IsTold a b) → IfSome k (IsTold a b)
    by j None told h = tt
    by None (Some y) told h = absurd told.so
    by (Some x) (Some y) told h = told_since a b told.so h

-- ---- calls that are none of a save

syncs_none : (output : List ℕ) (entry : Entry) (past : List Entry) → SavesNone (entry ∷ past) → syncs_folder output entry ≡ false
syncs_none output (made.DirSynced dir d) past none = absurd none
syncs_none output _ past none = refl

renames_none : (from to : List ℕ) (entry : Entry) (past : List Entry) → SavesNone (entry ∷ past) → renames from to entry ≡ false
renames_none from to (made.Renamed a b d) past none = absurd none
renames_none from to _ past none = refl

none_tells : (output : List ℕ) (most cells : ℕ) {past after : List Entry} → Since SavesNone past after → TellsEach output most cells past → TellsEach output most cells after
none_tells output most cells start h = h
none_tells output most cells (later {past} {entry} since none) h =
    tells_more output most cells entry past (and_left (syncs_folder output entry) (is_renamed (temporary_of output) output past) (syncs_none output entry past none))
    (none_tells output most cells since h)

none_rests : (output : List ℕ) {past after : List Entry} → Since SavesNone past after → IsRested output past → IsRested output after
none_rests output start rested = rested
none_rests output (later {past} {entry} since none) rested = renames_none (temporary_of output) output entry past none

none_told : (a : Ask) (b : JobNotebook) {past after : List Entry} → Since SavesNone past after → IsTold a b past → IsTold a b after
none_told a b since h = record {
  first = h.first;
  own = first_later a h.first since h.own;
  size = h.size;
  merge = h.merge;
  keeps = h.keeps;
  rested = none_rests a.output since h.rested;
  lines = none_tells a.output (settled_of b) (length h.first.cells) since h.lines;
}

pub tells_pass : (a : Ask) (b : JobNotebook) (j k : Option (List Entry)) (c d : Counts) → Told j k (Since SavesNone) → CountsGrow c d → TellsAll a b j c → TellsAll a b k d
tells_pass a b j k c d told grow h still none = by j k told (h still (λ failed. none (omega (arith, failed, grow.say))))
  where
    by : (j k : Option (List Entry)) → Told j k (Since SavesNone) → IfSome j (IsTold a b) → IfSome k (IsTold a b)
    by j None told h = tt
    by None (Some y) told h = absurd told.so
    by (Some x) (Some y) told h = none_told a b told.so h

-- calls of another part than the disk
part_none : (entry : Entry) (past : List Entry) → part_of entry ≢ OnDisk → SavesNone (entry ∷ past)
part_none (made.Renamed from to d) past other = absurd (other refl)
part_none (made.DirSynced dir d) past other = absurd (other refl)
part_none _ past other = tt

each_none : (part : Part) → part ≢ OnDisk → (now : List Entry) → IsOf part now → SavesNone now
each_none part other [] is = absurd is
each_none part other (entry ∷ past) is = part_none entry past (λ e. other (sym is ∙ e))

pub part_saves_none : {part : Part} {j k : Option (List Entry)} → part ≢ OnDisk → Told j k (Since (IsOf part)) → Told j k (Since SavesNone)
part_saves_none {part} other told = moments_as told (λ x y s. since_as (each_none part other) s)

-- the making of a connection file
writes_none : {path text : List ℕ} {before : List Entry} {rest : List ℕ} {after : List Entry} → Writes path text before rest after → Since SavesNone before after
writes_none disk.none = start
writes_none (disk.more n before) = later (writes_none before) tt

sync_none : (path text : List ℕ) (ended : Did) (before after : List Entry) → WritesAndSyncs path text ended before after → Since SavesNone before after
sync_none path text ended before after w = subst (Since SavesNone before) (sym w.ends) (later (since_then (later start tt) (writes_none w.writes)) tt)

fails_none : (path text : List ℕ) (before after : List Entry) → FailsAtFile path text before after → Since SavesNone before after
fails_none path text before after not_created = later start tt
fails_none path text before after (not_written w) = subst (Since SavesNone before) (sym w.fails) (later (since_then (later start tt) (writes_none w.writes)) tt)
fails_none path text before after (not_synced w) = sync_none path text did.Failed before after w

file_none : (path text : List ℕ) (result : Result (Unit {0}) ConnectionFault) (before after : List Entry) → WritesFile path text result before after → Since SavesNone before after
file_none path text (Ok u) before after w = sync_none path text did.Done before after w
file_none path text (Err file.Failed) before after w = fails_none path text before after w
file_none path text (Err file.NoMemory) before after same = subst (Since SavesNone before) (sym same) start

pub file_saves_none : (path text : List ℕ) (result : Result (Unit {0}) ConnectionFault) {j k : Option (List Entry)} → Told j k (WritesFile path text result) → Told j k (Since SavesNone)
file_saves_none path text result told = moments_as told (λ x y w. file_none path text result x y w)

-- ---- before the first save

pub spared_count : (output : List ℕ) {past after : List Entry} → IsRested output past → Since (Spares output) past after → save_count output after ≡ save_count output past
spared_count output rested start = refl
spared_count output rested (later {past} {entry} since spared) =
    none_waits (temporary_of output) output entry past (spared_rest output rested since) ∙ spared_count output rested since

lacks_since : (output : List ℕ) {past after : List Entry} → Since (Spares output) past after → LacksSaves output past → LacksSaves output after
lacks_since output since h = record { rested = spared_rest output h.rested since; none = spared_count output h.rested since ∙ h.none }

only_since : (a : Ask) (first : Notebook) {past after : List Entry} → Since (Spares a.output) past after → HasOnlyRead a first past → HasOnlyRead a first after
only_since a first since h = record { own = first_later a first since h.own; lacks = lacks_since a.output since h.lacks }

pub lacks_later : (output : List ℕ) (j k : Option (List Entry)) → Told j k (Since (Spares output)) → IfSome j (LacksSaves output) → IfSome k (LacksSaves output)
lacks_later output j None told h = tt
lacks_later output None (Some y) told h = absurd told.so
lacks_later output (Some x) (Some y) told h = lacks_since output told.so h

pub only_later : (a : Ask) (first : Notebook) (j k : Option (List Entry)) → Told j k (Since (Spares a.output)) → IfSome j (HasOnlyRead a first) → IfSome k (HasOnlyRead a first)
only_later a first j None told h = tt
only_later a first None (Some y) told h = absurd told.so
only_later a first (Some x) (Some y) told h = only_since a first told.so h

-- ---- what is used for a request

pub tells_stay : (a : Ask) (was now : JobNotebook) (j : Option (List Entry)) (c : Counts) → KeepsParts was now → ((first : Notebook) → KeepsRead was first → KeepsRead now first)
    → TellsAll a was j c → TellsAll a now j c
tells_stay a was now j c parts reads h still none = by j (h (sym parts.closed ∙ still) none)
  where
    one : (past : List Entry) → IsTold a was past → IsTold a now past
    one past t = record {
      first = t.first;
      own = t.own;
      size = ap (λ (n : Notebook). length n.cells) parts.notebook ∙ t.size;
      merge = parts.merge ∙ t.merge;
      keeps = reads t.first t.keeps;
      rested = t.rested;
      lines = subst (λ n. TellsEach a.output n (length t.first.cells) past) (sym parts.settled) t.lines;
    }

    by : (j : Option (List Entry)) → IfSome j (IsTold a was) → IfSome j (IsTold a now)
    by None t = tt
    by (Some past) t = one past t

-- ---- the first save

one_less : (b : Bool) (n : ℕ) → (if b then n + 1 else n) ≡ 0 → (b ≡ false) × (n ≡ 0)
one_less true n e = absurd (omega (arith, e))
one_less false n e = (refl, e)

-- a journal with no acknowledged save has no acknowledgment
none_acknowledges : (output : List ℕ) (past begin front : List Entry) → save_count output past ≡ 0 → past ≡ front ++ begin
    → is_acknowledging (temporary_of output) output begin ≡ true → ⊥
none_acknowledges output past [] [] none is one = absurd (cc)
none_acknowledges output past (entry ∷ begin) [] none is one =
    let here : save_count output (entry ∷ begin) ≡ 0 = subst (λ x. save_count output x ≡ 0) is none in
    let no : true ≡ false = sym one ∙ (one_less (is_acknowledging (temporary_of output) output (entry ∷ begin)) (save_count output begin) here).0 in absurd (cc)
none_acknowledges output past begin (entry ∷ front) none is one =
    let here : save_count output (entry ∷ (front ++ begin)) ≡ 0 = subst (λ x. save_count output x ≡ 0) is none in
    none_acknowledges output (front ++ begin) begin front
    (one_less (is_acknowledging (temporary_of output) output (entry ∷ (front ++ begin))) (save_count output (front ++ begin)) here).1 refl one

pub told_first : (a : Ask) (b : JobNotebook) (first : Notebook) (past : List Entry) → length (notebook_of b).cells ≡ length first.cells → merge_of b ≡ a.merge → KeepsRead b first
    → HasOnlyRead a first past → IsTold a b past
told_first a b first past size merge keeps h = record {
  first = first;
  own = h.own;
  size = size;
  merge = merge;
  keeps = keeps;
  rested = h.lacks.rested;
  lines = λ begin front is one. absurd (none_acknowledges a.output past begin front h.lacks.none is one);
}

pub tells_first : (a : Ask) (b : JobNotebook) (first : Notebook) (j : Option (List Entry)) (c : Counts) → length (notebook_of b).cells ≡ length first.cells → merge_of b ≡ a.merge → KeepsRead b first
    → IfSome j (HasOnlyRead a first) → TellsAll a b j c
tells_first a b first None c size merge keeps h still none = tt
tells_first a b first (Some past) c size merge keeps h still none = told_first a b first past size merge keeps h

-- ---- a save

writes_tell : (output text : List ℕ) (most cells : ℕ) {before : List Entry} {rest : List ℕ} {after : List Entry} → Writes (temporary_of output) text before rest after
    → TellsEach output most cells before → TellsEach output most cells after
writes_tell output text most cells disk.none h = h
writes_tell output text most cells (disk.more {rest} {past} n writes) h =
    tells_more output most cells (made.Wrote (temporary_of output) (take n rest) did.Done) past refl (writes_tell output text most cells writes h)

created_tells : (output : List ℕ) (most cells : ℕ) (before : List Entry) → TellsEach output most cells before
    → TellsEach output most cells (made.Created (temporary_of output) did.Done ∷ before)
created_tells output most cells before h = tells_more output most cells (made.Created (temporary_of output) did.Done) before refl h

-- one that was acknowledged, by the lines before it
save_tells : (output text : List ℕ) (most cells : ℕ) (before after : List Entry) → SaveOf output text done before after → TellsEach output most cells before
    → TellsEarlier output most cells after
save_tells output text most cells before after s h =
    subst (TellsEarlier output most cells) (sym s.ends)
    (tells_more output most cells (made.Renamed (temporary_of output) output did.Done) (made.Synced (temporary_of output) did.Done ∷ s.past) refl
    (tells_more output most cells (made.Synced (temporary_of output) did.Done) s.past refl
    (writes_tell output text most cells s.writes (created_tells output most cells before h))))

-- one that failed
failure_tells : (output text : List ℕ) (most cells : ℕ) (f : SaveFault) (before after : List Entry) → SaveOf output text (failure f) before after → TellsEach output most cells before
    → TellsEach output most cells after
failure_tells output text most cells failed_at.DirSync before after s h =
    subst (TellsEach output most cells) (sym s.ends)
    (tells_more output most cells (made.DirSynced (folder_of output) did.Failed) (made.Renamed (temporary_of output) output did.Done ∷ made.Synced (temporary_of output) did.Done ∷ s.past) refl
    (tells_more output most cells (made.Renamed (temporary_of output) output did.Done) (made.Synced (temporary_of output) did.Done ∷ s.past) refl
    (tells_more output most cells (made.Synced (temporary_of output) did.Done) s.past refl
    (writes_tell output text most cells s.writes (created_tells output most cells before h)))))
failure_tells output text most cells failed_at.Rename before after s h =
    subst (TellsEach output most cells) (sym s.ends)
    (tells_more output most cells (made.Renamed (temporary_of output) output did.Failed) (made.Synced (temporary_of output) did.Done ∷ s.past) refl
    (tells_more output most cells (made.Synced (temporary_of output) did.Done) s.past refl
    (writes_tell output text most cells s.writes (created_tells output most cells before h))))
failure_tells output text most cells failed_at.Sync before after s h =
    subst (TellsEach output most cells) (sym s.ends)
    (tells_more output most cells (made.Synced (temporary_of output) did.Failed) s.past refl (writes_tell output text most cells s.writes (created_tells output most cells before h)))
failure_tells output text most cells failed_at.Write before after (inl e) h =
    subst (TellsEach output most cells) (sym e) (tells_more output most cells (made.Created (temporary_of output) did.Failed) before refl h)
failure_tells output text most cells failed_at.Write before after (inr w) h =
    subst (TellsEach output most cells) (sym w.fails)
    (tells_more output most cells (made.Wrote (temporary_of output) w.rest did.Failed) w.past refl (writes_tell output text most cells w.writes (created_tells output most cells before h)))

-- ---- its line

-- what was said stands in front
record Front (before after : List Entry) : Type 0 where
  entries : List Entry
  is : after ≡ entries ++ before

speech_front : {text : List ℕ} {before : List Entry} {rest : List ℕ} {after : List Entry} → Speech text before rest after → Front before after
speech_front said.none = record { entries = []; is = refl }
speech_front (said.more {rest} n speech) =
    let f = speech_front speech in
    record { entries = made.Said (take n rest) did.Done ∷ f.entries; is = ap (λ xs. made.Said (take n rest) did.Done ∷ xs) f.is }

module _ (output : List ℕ) (settled cells : ℕ) (begin after : List Entry) (speech : Speech (saved_line output settled cells) begin [] after) (earlier : TellsEarlier output settled cells begin) where
  -- each acknowledgment up to a moment of the line was told by its end
  abbrev TellsTo : List Entry → Type 0
  TellsTo past = (b front : List Entry) → past ≡ front ++ b → is_acknowledging (temporary_of output) output b ≡ true → WasTold output settled cells b after

  own : (b : List Entry) → begin ≡ b → WasTold output settled cells b after
  own b is = record { settled = settled; less = omega arith; said = after; speech = subst (λ x. Speech (saved_line output settled cells) x [] after) is speech; later = []; is = refl }

  old : (past : List Entry) → TellsEarlier output settled cells past → Front past after → (b : List Entry) (entry : Entry) (front : List Entry) → past ≡ entry ∷ (front ++ b)
      → is_acknowledging (temporary_of output) output b ≡ true → WasTold output settled cells b after
  old [] h f b entry front is one = absurd (cc)
  old (first ∷ past) h f b entry front is one =
      subst (WasTold output settled cells b) (sym f.is)
      (told_later output settled cells b (first ∷ past) f.entries (told_later output settled cells b past (first ∷ []) (h b front (ap tail_of is) one)))

  at_begin : TellsTo begin
  at_begin b [] is one = own b is
  at_begin b (entry ∷ front) is one = old begin earlier (speech_front speech) b entry front is one

  to_more : (bytes : List ℕ) (past : List Entry) → TellsTo past → TellsTo (made.Said bytes did.Done ∷ past)
  to_more bytes past h b [] is one =
      let wrong : false ≡ true = subst (λ x. is_acknowledging (temporary_of output) output x ≡ true) (sym is) one in absurd (cc)
  to_more bytes past h b (entry ∷ front) is one = h b front (ap tail_of is) one

  through : {rest : List ℕ} {past : List Entry} → Speech (saved_line output settled cells) begin rest past → TellsTo past
  through said.none = at_begin
  through (said.more {rest} {past} n before) = to_more (take n rest) past (through before)

  pub line_tells : TellsEach output settled cells after
  line_tells = through speech

-- ---- a save and its line

pub not_both : {A : Type 0} (b : Bool) → b ≡ true → b ≡ false → A
not_both b e f = let no : true ≡ false = subst (λ c. c ≡ false) e f in absurd (cc)

module _ (a : Ask) (was now : JobNotebook) (p : ℕ) (stop : Option ℕ) (above : settled_of was ≤ p) (within : p ≤ length (notebook_of was).cells)
    (merge : merge_of now ≡ merge_of was) (size : length (notebook_of now).cells ≡ length (notebook_of was).cells) where
  -- what was acknowledged last is a prefix of what the job has read
  pub prefix_saved : (before after : List Entry) → ((first : Notebook) (us : List Used) → Keeps was first us → notebook_of now ≡ prefix (merge_of was) us p stop first)
      → SaveOf a.output (text_of (notebook_of now)) done before after → IsTold a was before → IsPrefixOf a p (length (notebook_of now).cells) after
  prefix_saved before after is s h =
      let same : notebook_of now ≡ prefix a.merge h.keeps.us p stop h.first = subst (λ m. notebook_of now ≡ prefix m h.keeps.us p stop h.first) h.merge (is h.first h.keeps.us h.keeps.keeps) in
      let cells : length (notebook_of now).cells ≡ length h.first.cells = size ∙ h.size in
      let few : p ≤ length (notebook_of now).cells = omega (arith, within, size) in
      record {
        first = h.first;
        own = first_later a h.first (part_of_save a.output (text_of (notebook_of now)) before done after s) h.own;
        size = cells;
        within = few;
        us = h.keeps.us;
        read = h.keeps.read;
        stop = stop;
        text = subst (λ n. place after a.output ≡ durable_place (text_of n)) same (end_of a.output (text_of (notebook_of now)) before done after s).place_is;
        rises = earlier_by after
            (subst (λ n. TellsEarlier a.output (settled_of was) n after) (sym cells) (save_tells a.output (text_of (notebook_of now)) (settled_of was) (length h.first.cells) before after s h.lines));
      }
    where
      earlier_by : (past : List Entry) → TellsEarlier a.output (settled_of was) (length (notebook_of now).cells) past → TellsEarlier a.output p (length (notebook_of now).cells) past
      earlier_by [] h = tt
      earlier_by (entry ∷ past) h = tells_rising a.output (settled_of was) p (length (notebook_of now).cells) past above h

  -- and its line tells so; the next save goes on
  save_told : (failed : Type 0) (before after : List Entry) → (failed → ⊥) → ((first : Notebook) (us : List Used) → Keeps was first us → notebook_of now ≡ prefix (merge_of was) us p stop first)
      → ((first : Notebook) → KeepsRead was first → KeepsRead now first) → settled_of now ≡ p
      → SavesAs {U = Unit {0}} a.output (text_of (notebook_of now)) (saved_line a.output p (length (notebook_of now).cells)) failed (Ok tt) before after
      → IsTold a was before → IsTold a now after
  save_told failed before after none is keeps settles s h =
      let fact : IsPrefixOf a p (length (notebook_of now).cells) s.past = prefix_saved before s.past is s.saves h in
      let cells : length (notebook_of now).cells ≡ length h.first.cells = size ∙ h.size in
      record {
        first = h.first;
        own = first_later a h.first (says_since s.says) (first_later a h.first (part_of_save a.output (text_of (notebook_of now)) before done s.past s.saves) h.own);
        size = cells;
        merge = merge ∙ h.merge;
        keeps = keeps h.first h.keeps;
        rested = saved_rests a.output (text_of (notebook_of now)) (saved_line a.output p (length (notebook_of now).cells)) failed (Ok tt) before after h.rested s;
        lines = subst (λ m. TellsEach a.output m (length h.first.cells) after) (sym settles)
            (subst (λ n. TellsEach a.output p n after) cells (whole_tells s.past after s.says fact.rises));
      }
    where
      whole_tells : (begin after : List Entry) → Says (saved_line a.output p (length (notebook_of now).cells)) failed begin after
          → TellsEarlier a.output p (length (notebook_of now).cells) begin → TellsEach a.output p (length (notebook_of now).cells) after
      whole_tells begin after (said.whole speech) h = line_tells a.output p (length (notebook_of now).cells) begin after speech h
      whole_tells begin after (said.cut f speech) h = absurd (none f)
      whole_tells begin after (said.refused f speech) h = absurd (none f)

open_before : (result : Result (Unit {0}) ProgressFault) (closed : Bool) (u : Unit {0}) → result ≡ Ok u → (closed ≡ true → result ≡ Err fault.Closed) → closed ≡ false
open_before result false u ok shut = refl
open_before result true u ok shut = let wrong : Err fault.Closed ≡ Ok u = sym (shut refl) ∙ ok in absurd (cc)

pub not_stopped : (stop : Option ℕ) (r : Result (Unit {0}) ProgressFault) (u : Unit {0}) → r ≡ Ok u → closed_after r stop ≡ false → stop ≡ None
not_stopped None r u e closed = refl
not_stopped (Some cell) r u e closed = let no : true ≡ false = subst (λ q. closed_after q (Some cell) ≡ false) e closed in absurd (cc)

pub save_tells_all : (a : Ask) (was now : JobNotebook) (p : ℕ) (stop : Option ℕ) (result : Result (Unit {0}) ProgressFault) (j k : Option (List Entry)) (c d : Counts)
    → settled_of was ≤ p → p ≤ length (notebook_of was).cells
    → OnCall result ((first : Notebook) (us : List Used) → Keeps was first us → notebook_of now ≡ prefix (merge_of was) us p stop first)
    → OnOk result (stop ≡ None → (first : Notebook) → KeepsRead was first → KeepsRead now first)
    → OnCall result (settled_of now ≡ p) → is_closed now ≡ closed_after result stop → (is_closed was ≡ true → result ≡ Err fault.Closed)
    → merge_of now ≡ merge_of was → length (notebook_of now).cells ≡ length (notebook_of was).cells
    → Told j k (SavesAs a.output (text_of (notebook_of now)) (saved_line a.output p (length (notebook_of now).cells)) (0 < d.say) result)
    → CountsGrow c d → TellsAll a was j c → TellsAll a now k d
save_tells_all a was now p stop (Ok u) j k c d above within is keeps settles closes shut merge size told grow h still none =
    by j k told (h (open_before (Ok u) (is_closed was) u refl shut) (λ failed. none (omega (arith, failed, grow.say))))
  where
    by : (j k : Option (List Entry)) → Told j k (SavesAs a.output (text_of (notebook_of now)) (saved_line a.output p (length (notebook_of now).cells)) (0 < d.say) (Ok u))
        → IfSome j (IsTold a was) → IfSome k (IsTold a now)
    by j None told h = tt
    by None (Some y) told h = absurd told.so
    by (Some x) (Some y) told h =
        save_told a was now p stop above within merge size (0 < d.say) x y none is (keeps (not_stopped stop (Ok u) u refl (sym closes ∙ still))) settles told.so h
save_tells_all a was now p stop (Err e) j k c d above within is keeps settles closes shut merge size told grow h still none = not_both (is_closed now) closes still

-- what is said behind a save of a job is a line
abbrev pub SaysLine : Bool → Ask → List ℕ → List ℕ → Result (Unit {0}) ProgressFault → List Entry → Type 0
SaysLine clean a text line result before = (u : Unit {0}) → result ≡ Ok u → (past : List Entry) → SaveOf a.output text done before past
    → is_acknowledging (temporary_of a.output) a.output past ≡ true → IsLine clean a past line

pub save_line : (clean : Bool) (a : Ask) (was now : JobNotebook) (p : ℕ) (stop : Option ℕ) (result : Result (Unit {0}) ProgressFault) (j : Option (List Entry)) (c : Counts)
    → settled_of was ≤ p → p ≤ length (notebook_of was).cells
    → OnCall result ((first : Notebook) (us : List Used) → Keeps was first us → notebook_of now ≡ prefix (merge_of was) us p stop first)
    → (is_closed was ≡ true → result ≡ Err fault.Closed)
    → merge_of now ≡ merge_of was → length (notebook_of now).cells ≡ length (notebook_of was).cells
    → (clean ≡ true → TellsAll a was j c) → ((0 < c.say) → ⊥)
    → IfSome j (SaysLine clean a (text_of (notebook_of now)) (saved_line a.output p (length (notebook_of now).cells)) result)
save_line clean a was now p stop result None c above within is shut merge size h none = tt
save_line clean a was now p stop result (Some x) c above within is shut merge size h none =
    λ u ok past saved one. of_save p (length (notebook_of now).cells) one
    (λ e. prefix_saved a was now p stop above within merge size x past (on_call result u ok is) saved (h e (open_before result (is_closed was) u ok shut) none))
  where
    on_call : {A : Type 0} (r : Result (Unit {0}) ProgressFault) (u : Unit {0}) → r ≡ Ok u → OnCall r A → A
    on_call {A} r u ok h = subst (λ q. OnCall q A) ok h
