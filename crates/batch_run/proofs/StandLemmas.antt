-- How the jobs of a run go on standing, call by call.
use Rattle.std.proofs.Common.{◌≡◌, ◌≢◌, inl, inr, ℕ, ◌+◌, ◌-◌, ◌<◌, ◌≤◌, Bool, true, false, List, [], ◌∷◌, length, set, Option, Some, refl, sym, ◌∙◌, ap, subst, arith}
use Rattle.std.specs.Prelude.{slice_get, IfSome}
use Rattle.std.proofs.lemmas.Bool.{cases_eq}
use Rattle.std.proofs.lemmas.List.{length-set}
use Rattle.std.proofs.lemmas.Option.{slice_get_within, same_Some}
use Rattle.words.specs.declared.ask.Ask.{Ask}
use Rattle.world.specs.declared.entry.Entry.{Entry}
use Rattle.world.specs.declared.entry.Entry.TheVariants.{Read}
use Rattle.world.specs.declared.read_file.ReadFile.TheVariants as found
use Rattle.world.specs.Counts.{Counts, CountsGrow}
use Rattle.world.specs.Moments.{Since, start, Told}
use Rattle.ready_loop.specs.declared.readiness.Loop.{Loop}
use Rattle.ready_loop.specs.Begins.{is_of_job}
use Rattle.ready_loop.specs.Offers.{Extends}
use Rattle.ready_loop.specs.Standing.{IsOfLoop}
use Rattle.ready_loop.specs.Wires.{ports_in, IsWired, HasPorts}
use Rattle.job_saves.specs.Children.{ports_of}
use Rattle.batch_run.proofs.WireLemmas.{loop_calls, told_begun, wired_calls, wired_told}
use Rattle.world.specs.Touched.{Spares}
use Rattle.said_lines.specs.Speech.{Says}
use Rattle.world.proofs.CountsLemmas.{grow_then}
use Rattle.world.proofs.MomentsLemmas.{told_start, told_then, told_as, since_then, since_as}
use Rattle.save_course.specs.Course.{IsRested}
use Rattle.job_end.specs.declared.answer.Answer.{Answer}
use Rattle.job_end.specs.Answers.{starved_answer}
use Rattle.nb_model.specs.declared.notebook.Notebook.{Notebook}
use Rattle.job_saves.specs.Course.{Origin, CountsWork, HasSaved}
use Rattle.job_saves.specs.Reads.{first_of}
use Rattle.job_saves.proofs.TellingLemmas.{lacks_later, tells_spared}
use Rattle.job_saves.proofs.CourseLemmas.{others_pass, ends_pass, work_start, quiet_speaks, line_speaks}
use Rattle.job_run.specs.declared.job.Job.{Job}
use Rattle.job_run.specs.Run.{IsOther, Runs, IsNew}
use Rattle.job_saves.specs.Left.{output_at}
use Rattle.job_saves.proofs.LeftLemmas.{spared_left}
use Rattle.job_run.proofs.CountLemmas.{caused_later}
use Rattle.job_run.proofs.TurnLemmas.{count_passes}
use Rattle.cell_core.specs.Task.{Task}
use Rattle.job_saves.specs.Calls.{IsCall}
use Rattle.job_saves.specs.Children.{KeepsEnd}
use Rattle.job_saves.specs.Speaking.{IsAnswer, IsLine, of_end, SpeaksWhole}
use Rattle.job_saves.proofs.CallLemmas.{line_called}
use Rattle.job_saves.proofs.ChildLemmas.{told_keeps_end, told_asks_none}
use Rattle.job_begin.specs.Begun.{counted_task, IsUnread, origin_of}
use Rattle.job_begin.proofs.CauseLemmas.{starved_caused}
use Rattle.job_begin.proofs.EndLemmas.{starved_end, unread_starved, unread_pass, kernel_pass}
use Rattle.batch_run.specs.declared.slot.Slot.{Slot}
use Rattle.batch_run.specs.declared.slot.Slot.TheVariants.{Waiting, Running, Ended}
use Rattle.batch_run.specs.Batch.{IsApart, HasSaid, HasWaited}
use Rattle.batch_run.specs.Owed.{Owed, AreClosed, Served, may_wait, owed_to, unknown}
use Rattle.batch_run.specs.Stands.{Outset, SlotPlays, SlotTells, SlotEnds, SlotRuns, SlotKernel, SlotCounted, Stands, waits, spared, begun, AllStand, HasEnded, PassBy, AreWired, hush, more_waits, owing, served_by, wires_of}
use Rattle.batch_run.proofs.FollowLemmas.{slot_rested, served_as, served_calls, waits_each}
use Rattle.batch_run.proofs.PassLemmas.{OnePass, Tells, one_quiet, one_stays, served_moves}
use Rattle.batch_run.proofs.SaidLemmas.{said_later, said_nothing, said_now, speaks}
use Rattle.job_turns.specs.OwedTo.{OwedTo}
use Rattle.job_run.proofs.SaveLemmas.{says_quiet}
use Rattle.ready_loop.specs.Standing.{AllShut}
use Rattle.save_course.proofs.RestLemmas.{spared_rest}
use Rattle.batch_run.proofs.CallLemmas.{sole, sole_here, sole_at, calls_wide, calls_spare, loop_spares, loop_keeps_end, loop_quiet, loop_asks_none}
use Rattle.world.proofs.CountsLemmas.{rose_still}
use Rattle.batch_run.proofs.CauseLemmas.{cause_still, waited_still, waited_more}
use Rattle.batch_run.proofs.JournalLemmas.{told_at, told_back, says_touch}
use Rattle.ready_loop.proofs.LookLemmas.{extends_of}
use Rattle.jtext.proofs.Lists.{slice_get-set_same, slice_get-set_other, set_given}

-- ---- calls that touch no path of a job

runs_pass : (o : Origin) (task : Option Task) (slot : Slot) (past after : List Entry) (c d : Counts) → Since (Spares o.output) past after → CountsGrow c d
    → SlotRuns o task slot (Some past) c → SlotRuns o task slot (Some after) d
runs_pass o task Waiting past after c d s g r = r
runs_pass o task (Running j) past after c d s g r = record {
  is_open = r.is_open;
  stands = others_pass o j.run.book r.is_open (Some past) (Some after) c d (record { so = s }) g r.stands;
  apart = r.apart;
  shut = r.shut;
  fails = r.fails;
  counted = λ fresh. count_passes o j.run.book r.is_open j.run j.outcome (Some past) (Some after) (record { so = s }) (r.stands.told fresh.watched) (r.counted fresh);
}
runs_pass o task (Ended answer) past after c d s g r = record {
  is_open = r.is_open;
  ends = ends_pass o r.is_open (Some past) (Some after) c d (record { so = s }) g r.ends;
  shut = r.shut;
  fails = λ e. rose_still o.counts.disk c.disk d.disk (r.fails e) g.disk;
  counted = λ t same fresh.
      let saved : HasSaved o r.is_open past = r.ends.told fresh.watched in
      caused_later (output_at o past) (output_at o after) t answer.status (spared_left o saved.is.rested s) (r.counted t same fresh);
}

kernel_slot : (a : Ask) (first : Notebook) (slot : Slot) (read past after : List Entry) → Since (Spares a.output) past after → SlotKernel a first slot read past
    → SlotKernel a first slot read after
kernel_slot a first Waiting read past after s k = tt
kernel_slot a first (Running j) read past after s k = tt
kernel_slot a first (Ended answer) read past after s k = kernel_pass a first answer.status read past after s k

pass_one : (o r : OwedTo) (i : ℕ) (a : Ask) (from : Counts) (before past after : List Entry) (c d : Counts) (slot : Slot) → IsRested a.output before → Since (Spares a.output) past after → CountsGrow c d
    → (AllShut before → IsRested a.output past → OnePass o r i a before past after slot) → Stands o i a from before past c slot → Stands r i a from before after d slot
pass_one o r i a from before past after c d slot rested s g one (waits e h fresh) = waits e (since_then h s) (λ shut. (one shut (spared_rest a.output rested h)).fresh e (fresh shut))
pass_one o r i a from before past after c d slot rested s g one (spared answer e u h) = spared answer e (unread_pass a answer.status before before past after start s u) (since_then h s)
pass_one o r i a from before past after c d slot rested s g one (begun bytes n begin then acc h gr ext task kernel runs follows) =
    begun bytes n begin then acc h gr (since_then ext (extends_of s)) task (kernel_slot a (first_of a n) slot (Read a.input 33554432 (found.Whole bytes) ∷ begin) past after s kernel) (runs_pass (origin_of a n begin then) (counted_task a (first_of a n)) slot past after c d s g runs)
    (λ shut. (one shut (slot_rested a n begin then (counted_task a (first_of a n)) slot past c runs)).follows n (extends_of s) (follows shut))

-- ---- by the counts alone

-- what isn't watched isn't new
pub unwatched : {A : Type 0} (o : Origin) → o.is_watched ≡ false → IsNew o → A
unwatched o off fresh = let no : true ≡ false = sym fresh.watched ∙ off in absurd (cc)

-- a job of which the counts alone are looked at
unwatched_pass : (o : Origin) (j : Job) (p q : Option (List Entry)) (c d : Counts) → o.is_watched ≡ false → CountsGrow c d → Runs o j p c → Runs o j q d
unwatched_pass o j p q c d off g r = record {
  is_open = r.is_open;
  stands = record {
    output = r.stands.output;
    merge = r.stands.merge;
    told = λ on. let no : true ≡ false = sym on ∙ off in absurd (cc);
    grow = grow_then r.stands.grow g;
    cause = λ e. rose_still o.counts.disk c.disk d.disk (r.stands.cause e) g.disk;
  };
  apart = r.apart;
  shut = r.shut;
  fails = r.fails;
  counted = λ fresh. unwatched o off fresh;
}

counted_pass : (a : Ask) (from : Counts) (most : ℕ) (slot : Slot) (p q : Option (List Entry)) (c d : Counts) → CountsGrow c d → SlotCounted a from most slot p c
    → SlotCounted a from most slot q d
counted_pass a from most Waiting p q c d g r = tt
counted_pass a from most (Running j) p q c d g r = record {
  output = r.output;
  runs = record { origin = r.runs.origin; unwatched = r.runs.unwatched; grow = r.runs.grow; runs = unwatched_pass r.runs.origin j p q c d r.runs.unwatched g r.runs.runs };
  lost = λ l. rose_still from.net c.net d.net (r.lost l) g.net;
  spent = λ l. waited_still most c d g (r.spent l);
}
counted_pass a from most (Ended answer) p q c d g r = record {
  is = record { is = r.is.is; cause = cause_still from c d answer.status g r.is.cause };
  spent = λ e. waited_still most c d g (r.spent e);
}

-- what its lines tell
tells_passed : (a : Ask) (slot : Slot) (p q : Option (List Entry)) (c d : Counts) → Told p q (Since (Spares a.output)) → CountsGrow c d → SlotTells a slot p c → SlotTells a slot q d
tells_passed a Waiting p q c d told grow h = tt
tells_passed a (Running j) p q c d told grow h = tells_spared a j.run.book p q c d told grow h
tells_passed a (Ended answer) p q c d told grow h = tt

ends_then : (n : ℕ) (slot : Slot) (first p q : Option (List Entry)) → KeepsEnd n p q → SlotEnds n slot first p → SlotEnds n slot first q
ends_then n Waiting first p q keeps h = λ s. keeps (h s)
ends_then n (Running j) first p q keeps h = tt
ends_then n (Ended answer) first p q keeps h = λ s. keeps (h s)

-- what calls leave of what each job stands for by the journal, and of the loop, where all connections were closed before the run
pub record Follow (asks : ℕ → Option Ask) (first : Option (List Entry)) (from : Outset) (slots : List Slot) (p q : Option (List Entry)) (rest : Owed) (next : Loop) : Type 0 where
  pub each : (before x y : List Entry) → first ≡ Some before → p ≡ Some x → q ≡ Some y → AllShut before → Served asks from.owed from.loop slots x
      → (i : ℕ) (a : Ask) (slot : Slot) → asks i ≡ Some a → slice_get slots i ≡ Some slot → OnePass (owed_to from.owed i) (owed_to rest i) i a before x y slot
  pub served : (before x y : List Entry) → first ≡ Some before → p ≡ Some x → q ≡ Some y → AllShut before → Served asks from.owed from.loop slots x → Served asks rest next slots y
  pub known : from.owed ≡ unknown → rest ≡ unknown

-- calls that leave the jobs as they stand
pub calls_pass : (asks : ℕ → Option Ask) (first : Option (List Entry)) (from : Outset) (slots : List Slot) (p q : Option (List Entry)) (c d : Counts) (most : ℕ) (rest : Owed) (next : Loop)
    → d.waits ≤ most → HasWaited most d → PassBy asks from.here from.clean (wires_of from) (ports_in next) p q c d → Follow asks first from slots p q rest next → AllStand asks first from slots p c
    → AllStand asks first (record from { waits = most; loop = next; owed = rest }) slots q d
calls_pass asks first from slots p q c d most rest next few all pass follow s = record {
  size = s.size;
  asked = s.asked;
  grow = grow_then s.grow pass.grow;
  waits = few;
  waited = all;
  told = told_then s.told (pass.spares []) (λ x y z a b. since_then a (extends_of b));
  calls = told_then s.calls pass.calls (λ x y z a b. since_then a b);
  spoken = λ e. pass.spoken e (s.spoken e);
  idle = λ e i a at got. pass.idle i a (s.idle e i a at got);
  apart = s.apart;
  tells = λ e i a slot at got. tells_passed a slot p q c d (pass.spares a.output) pass.grow (s.tells e i a slot at got);
  wired = λ e. pass.wired e (s.wired e);
  few = s.few;
  plays = s.plays;
  ends = λ i a slot at got. ends_then i slot first p q (pass.ends i) (s.ends i a slot at got);
  counted = λ i a slot at got. counted_pass a from.counts from.most slot p q c d pass.grow (s.counted i a slot at got);
  each = λ before after st e i a slot at got apart rested.
      let back = told_back p q (Since (Spares a.output)) after (pass.spares a.output) e in
      pass_one (owed_to from.owed i) (owed_to rest i) i a from.counts before back.0 after c d slot rested back.2 pass.grow
      (λ shut clean. follow.each before back.0 after st back.1 e shut (s.served before back.0 st back.1 shut) i a slot at got)
      (s.each before back.0 st back.1 i a slot at got apart rested);
  served = λ before after st e shut.
      let back = told_back p q (Since (Spares [])) after (pass.spares []) e in
      follow.served before back.0 after st back.1 e shut (s.served before back.0 st back.1 shut);
  said = λ known before after st e i a answer loud at got.
      let back = told_back p q (Since (Spares [])) after (pass.spares []) e in
      said_later answer.line c d before back.0 after (extends_of back.2) pass.grow
      (s.said (λ u. known (follow.known u)) before back.0 st back.1 i a answer loud at got);
}

loop_passes : (asks : ℕ → Option Ask) (here : List ℕ) (clean : Bool) (was wires : List (Option ℕ)) (p q : Option (List Entry)) (c d : Counts) → Told p q (Since IsOfLoop) → Told p q (Since (IsWired wires))
    → CountsGrow c d → (clean ≡ true → IfSome p (AreWired wires)) → PassBy asks here clean was wires p q c d
loop_passes asks here clean was wires p q c d told wired grow at = record {
  calls = told_as (loop_calls clean wires p q told wired at) (λ x y b. since_as (λ now is. inr is) b);
  spoken = λ e. quiet_speaks p q c d (loop_quiet told) grow;
  idle = λ n a h. record {
    childless = loop_keeps_end n p q told h.childless;
    portless = loop_asks_none n p q told h.portless;
    lacks = lacks_later a.output p q (told_as told (λ x y b. since_as (loop_spares a.output) b)) h.lacks;
  };
  wired = λ e h. wired_told wires p q told (at e);
  spares = λ path. told_as told (λ x y b. since_as (loop_spares path) b);
  ends = λ n. loop_keeps_end n p q told;
  grow = grow;
}

-- calls of the loop that keep the ports
pub loop_keeps : {p q : Option (List Entry)} {c d : Counts} (old new : Loop) → ports_in new ≡ ports_in old → Told p q (Since (IsWired (ports_in new))) → Told p q (Since IsOfLoop) → CountsGrow c d → d.waits ≡ c.waits
    → (asks : ℕ → Option Ask) (first : Option (List Entry)) (from : Outset) (slots : List Slot) (o rest : Owed) → Follow asks first (served_by o old from) slots p q rest new
    → AllStand asks first (served_by o old from) slots p c → AllStand asks first (served_by rest new from) slots q d
loop_keeps {p} {q} {c} {d} old new same wired told grow still = λ asks first from slots o rest follow s.
    calls_pass asks first (served_by o old from) slots p q c d from.waits rest new (omega (arith, still, s.waits)) (waited_still from.waits c d grow s.waited)
    (loop_passes asks from.here from.clean (ports_in old) (ports_in new) p q c d told wired grow (λ e. subst (λ w. IfSome p (AreWired w)) (sym same) (s.wired e))) follow s

-- those that begin the connections of a job
pub loop_begins : {p q : Option (List Entry)} {c d : Counts} (job : ℕ) (ports : List ℕ) (old new : Loop) → HasPorts job ports new
    → ((n : ℕ) → is_of_job job n ≡ false → slice_get (ports_in new) n ≡ slice_get (ports_in old) n)
    → Told p q (Since (IsWired (ports_in new))) → Told p q (Since IsOfLoop) → CountsGrow c d → d.waits ≡ c.waits
    → (asks : ℕ → Option Ask) (first : Option (List Entry)) (from : Outset) (slots : List Slot) (o rest : Owed) → (from.clean ≡ true → IfSome p (λ past. ports_of job past ≡ Some ports))
    → Follow asks first (served_by o old from) slots p q rest new
    → AllStand asks first (served_by o old from) slots p c → AllStand asks first (served_by rest new from) slots q d
loop_begins {p} {q} {c} {d} job ports old new has others wired told grow still = λ asks first from slots o rest given follow s.
    calls_pass asks first (served_by o old from) slots p q c d from.waits rest new (omega (arith, still, s.waits)) (waited_still from.waits c d grow s.waited)
    (loop_passes asks from.here from.clean (ports_in old) (ports_in new) p q c d told wired grow (λ e. told_begun job ports old new p has others (given e) (s.wired e))) follow s

-- and those that wait
pub loop_waits : {p q : Option (List Entry)} {c d : Counts} (old new : Loop) → ports_in new ≡ ports_in old → Told p q (Since (IsWired (ports_in new))) → Told p q (Since IsOfLoop) → CountsGrow c d → (left rest : ℕ)
    → d.waits ≤ c.waits + (left - rest) → HasWaited (c.waits + (left - rest)) d
    → (asks : ℕ → Option Ask) (first : Option (List Entry)) (from : Outset) (slots : List Slot) (o owed : Owed) → Follow asks first (served_by o old from) slots p q owed new
    → AllStand asks first (served_by o old from) slots p c → AllStand asks first (served_by owed new (more_waits (left - rest) from)) slots q d
loop_waits {p} {q} {c} {d} old new same wired told grow left rest few all = λ asks first from slots o owed follow s.
    calls_pass asks first (served_by o old from) slots p q c d (from.waits + (left - rest)) owed new (omega (arith, few, s.waits)) (waited_more from.waits (left - rest) c d s.waited all)
    (loop_passes asks from.here from.clean (ports_in old) (ports_in new) p q c d told wired grow (λ e. subst (λ w. IfSome p (AreWired w)) (sym same) (s.wired e))) follow s

-- the last line of a job that has ended
abbrev line_in : Slot → List ℕ
line_in (Ended answer) = answer.line
line_in Waiting = []
line_in (Running j) = []

-- what is said of the end of a job
pub saying_keeps : {p q : Option (List Entry)} {c d : Counts} {line : List ℕ} (answer : Answer) → line ≡ answer.line → Told p q (Says line (0 < d.say)) → (0 < c.say → q ≡ p)
    → CountsWork c d
    → (asks : ℕ → Option Ask) (first : Option (List Entry)) (from : Outset) (slots : List Slot) (i : ℕ) (a : Ask) → may_wait from.owed ≡ true → asks i ≡ Some a
    → slice_get slots i ≡ Some (Ended answer) → IsAnswer a.output answer → AllStand asks first (hush i from) slots p c → AllStand asks first from slots q d
saying_keeps {p} {q} {c} {d} {line} answer same told silent work = λ asks first from slots i a wait own ended is s.
    speaks asks first from slots q d i (λ before after st f grown b x at got.
    let back = told_back p q (Says line (0 < d.say)) after told f in
    let was : Extends before back.0 = told_at first p Extends before back.0 s.told st back.1 in
    subst (λ (l : List ℕ). HasSaid l (0 < d.say) before after) (same ∙ ap (λ (y : Slot). line_in y) (same_Some _ _ (sym ended ∙ got))) (said_now line (0 < d.say) before back.0 after was back.2))
    (calls_pass asks first (hush i from) slots p q c d from.waits from.owed from.loop (omega (arith, work.waits, s.waits)) (waited_still from.waits c d work.grow s.waited) (record {
      calls = told_as (said_by i a from.here true from.clean is s.spoken) (λ x y b. calls_wide asks from.here from.clean i a own b);
      spoken = λ e. line_speaks from.clean a line (line_is from.clean a is) p q c d told work.grow;
      idle = λ n b h. record {
        childless = told_keeps_end (sole i a from.here false false) n (λ number b has starts. absurd (cc)) p q (said_by i a from.here false false is (λ e. absurd (cc))) h.childless;
        portless = told_asks_none (sole i a from.here false false) n (λ number b has starts. absurd (cc)) p q (said_by i a from.here false false is (λ e. absurd (cc))) h.portless;
        lacks = lacks_later b.output p q (says_touch told b.output) h.lacks;
      };
      wired = λ e h. wired_calls (sole i a from.here true true) (wires_of from) p q refl (said_by i a from.here true true is (λ on. s.spoken e)) h;
      spares = says_touch told;
      ends = λ n. told_keeps_end (sole i a from.here false false) n (λ number b has starts. absurd (cc)) p q (said_by i a from.here false false is (λ e. absurd (cc)));
      grow = work.grow;
    }) (record {
      each = λ before x y st e f shut served n b slot at got.
          let said = told_at p q (Says line (0 < d.say)) x y told e f in
          one_quiet (owed_to from.owed n) n b before x y slot (waits_each from.owed n wait) (λ j number. says_quiet j line (0 < d.say) x y said);
      served = λ before x y st e f shut served.
          let calls = told_at p q (Since (IsCall (sole i a from.here false false))) x y (said_by i a from.here false false is (λ e. absurd (cc))) e f in
          served_as asks from.owed from.loop from.loop slots slots x y (λ t. served_calls asks from.owed from.loop slots (sole i a from.here false false) x y calls t) served;
      known = λ u. u;
    }) s)
  where
    line_is : (clean : Bool) (a : Ask) → IsAnswer a.output answer → (begin : List Entry) → IsLine clean a begin line
    line_is clean a is begin = subst (IsLine clean a begin) (sym same) (of_end answer is)

    said_by : (i : ℕ) (a : Ask) (here : List ℕ) (starts clean : Bool) → IsAnswer a.output answer → (clean ≡ true → SpeaksWhole p c) → Told p q (Since (IsCall (sole i a here starts clean)))
    said_by i a here starts clean is spoken = line_called (sole i a here starts clean) i a (sole_here i a) line (line_is clean a is) p q c d spoken told silent

-- ---- one job changes

pub change : (asks : ℕ → Option Ask) (first : Option (List Entry)) (from : Outset) (slots : List Slot) (p q : Option (List Entry)) (c d : Counts) (k : ℕ) (was next : Slot) (rest : Owed)
    → slice_get slots k ≡ Some was → (HasEnded was → ⊥) → Tells from rest k was next → CountsWork c d → (next ≡ Waiting → ⊥) → (from.clean ≡ true → SpeaksWhole q d)
    → ((a : Ask) → asks k ≡ Some a → SlotPlays k a was → Told p q (Since (IsCall (sole k a from.here true from.clean))) × SlotPlays k a next)
    → (from.clean ≡ true → (a : Ask) → asks k ≡ Some a → SlotPlays k a was → SlotTells a next q d)
    → ((a : Ask) → asks k ≡ Some a → SlotPlays k a was → SlotEnds k was first p → SlotEnds k next first q)
    → ((a : Ask) (before past after : List Entry) → asks k ≡ Some a → SlotPlays k a was → p ≡ Some past → q ≡ Some after → IsRested a.output before
    → Stands (owed_to from.owed k) k a from.counts before past c was → Stands (owed_to rest k) k a from.counts before after d next)
    → ((a : Ask) → asks k ≡ Some a → SlotCounted a from.counts from.most was p c → SlotCounted a from.counts from.most next q d)
    → ((b : Ask) (before x y : List Entry) → p ≡ Some x → q ≡ Some y → asks k ≡ Some b → SlotPlays k b was → Since (IsCall (sole k b from.here true from.clean)) x y
    → (i : ℕ) (a : Ask) (slot : Slot) → i ≢ k → IsOther b.output a.output → IsRested a.output x → OnePass (owed_to from.owed i) (owed_to rest i) i a before x y slot)
    → ((answer : Answer) (before past after : List Entry) → next ≡ Ended answer → from.hushed k ≡ false → p ≡ Some past → q ≡ Some after → Extends before past → HasSaid answer.line (0 < d.say) before after)
    → AllStand asks first from slots p c → AllStand asks first (owing rest from) (set slots k next) q d
change asks first from slots p q c d k was next rest found runs fits work moved spoken calls tells ends step count others says s = record {
  size = length-set slots k next ∙ s.size;
  asked = λ i slot got. elim (cases_eq i k) [
    | inl e ↦ inr (own.0, subst (λ m. asks m ≡ Some own.0) (sym e) own.1)
    | inr ne ↦ s.asked i slot (sym (slice_get-set_other slots k i next ne) ∙ got)
  ];
  grow = grow_then s.grow work.grow;
  waits = omega (arith, work.waits, s.waits);
  waited = waited_still from.waits c d work.grow s.waited;
  told = told_then s.told made (λ x y z a b. since_then a (extends_of b));
  calls = told_then s.calls made (λ x y z a b. since_then a (calls_wide asks from.here from.clean k own.0 own.1 b));
  spoken = spoken;
  idle = λ e i b at got. elim (cases_eq i k) [
    | inl same ↦ absurd (moved (here i Waiting same got))
    | inr ne ↦
        let h = s.idle e i b at (sym (slice_get-set_other slots k i next ne) ∙ got) in
        record {
          childless = told_keeps_end (sole k own.0 from.here true from.clean) i (λ number x has starts f. ne (sym (sym (sole_at number k own.0 x has).0 ∙ f))) p q made h.childless;
          portless = told_asks_none (sole k own.0 from.here true from.clean) i (λ number x has starts f. ne (sym (sym (sole_at number k own.0 x has).0 ∙ f))) p q made h.portless;
          lacks = lacks_later b.output p q (others_spared b (s.apart e i b at k own.0 own.1 (λ f. ne (sym f)))) h.lacks;
        }
  ];
  apart = s.apart;
  tells = λ e i b slot at got. elim (cases_eq i k) [
    | inl same ↦
        let at_k = subst (λ m. asks m ≡ Some b) same at in
        subst (λ x. SlotTells b x q d) (here i slot same got) (tells e b at_k (s.plays k b was at_k found))
    | inr ne ↦
        tells_passed b slot p q c d (others_spared b (s.apart e i b at k own.0 own.1 (λ f. ne (sym f)))) work.grow
        (s.tells e i b slot at (sym (slice_get-set_other slots k i next ne) ∙ got))
  ];
  wired = λ e. wired_calls (sole k own.0 from.here true from.clean) (wires_of from) p q e made (s.wired e);
  few = subst (λ n. n ≤ 16) (sym (length-set slots k next)) s.few;
  plays = λ i b slot at got. elim (cases_eq i k) [
    | inl e ↦
        let at_k = subst (λ m. asks m ≡ Some b) e at in
        subst (λ m. SlotPlays m b slot) (sym e) (subst (λ x. SlotPlays k b x) (here i slot e got) (calls b at_k (s.plays k b was at_k found)).1)
    | inr ne ↦ s.plays i b slot at (sym (slice_get-set_other slots k i next ne) ∙ got)
  ];
  ends = λ i b slot at got. elim (cases_eq i k) [
    | inl e ↦
        let at_k = subst (λ m. asks m ≡ Some b) e at in
        subst (λ m. SlotEnds m slot first q) (sym e) (subst (λ x. SlotEnds k x first q) (here i slot e got) (ends b at_k (s.plays k b was at_k found) (s.ends k b was at_k found)))
    | inr ne ↦
        ends_then i slot first p q (told_keeps_end (sole k own.0 from.here true from.clean) i (λ number x has starts f. ne (sym (sym (sole_at number k own.0 x has).0 ∙ f))) p q made)
        (s.ends i b slot at (sym (slice_get-set_other slots k i next ne) ∙ got))
  ];
  counted = λ i b slot at got. elim (cases_eq i k) [
    | inl e ↦
        let at_k = subst (λ m. asks m ≡ Some b) e at in
        subst (λ x. SlotCounted b from.counts from.most x q d) (here i slot e got) (count b at_k (s.counted k b was at_k found))
    | inr ne ↦ counted_pass b from.counts from.most slot p q c d work.grow (s.counted i b slot at (sym (slice_get-set_other slots k i next ne) ∙ got))
  ];
  each = λ before after st f i b slot at got apart rested.
      let back = told_back p q (Since (IsCall (sole k own.0 from.here true from.clean))) after made f in
      elim (cases_eq i k) [
        | inl e ↦
            let at_k = subst (λ m. asks m ≡ Some b) e at in
            let apart_k = subst (λ m. IsApart asks m b) e apart in
            subst (λ m. Stands (owed_to rest m) m b from.counts before after d slot) (sym e) (subst (λ x. Stands (owed_to rest k) k b from.counts before after d x) (here i slot e got)
            (step b before back.0 after at_k (s.plays k b was at_k found) back.1 f rested (s.each before back.0 st back.1 k b was at_k found apart_k rested)))
        | inr ne ↦
            let other = apart k own.0 own.1 (λ e. ne (sym e)) in
            pass_one (owed_to from.owed i) (owed_to rest i) i b from.counts before back.0 after c d slot rested (calls_spare k own.0 from.here b.output true from.clean other back.2) work.grow
            (λ shut clean. others own.0 before back.0 after back.1 f own.1 (s.plays k own.0 was own.1 found) back.2 i b slot ne other clean)
            (s.each before back.0 st back.1 i b slot at (sym (slice_get-set_other slots k i next ne) ∙ got) apart rested)
      ];
  served = λ before after st f shut.
      let back = told_back p q (Since (IsCall (sole k own.0 from.here true from.clean))) after made f in
      served_moves asks from rest slots k was next (sole k own.0 from.here true from.clean) back.0 after found fits back.2 (s.served before back.0 st back.1 shut);
  said = λ known before after st f i b answer loud at got.
      let back = told_back p q (Since (IsCall (sole k own.0 from.here true from.clean))) after made f in
      elim (cases_eq i k) [
        | inl e ↦
            says answer before back.0 after (here i (Ended answer) e got) (subst (λ m. from.hushed m ≡ false) e loud) back.1 f
            (told_at first p Extends before back.0 s.told st back.1)
        | inr ne ↦
            said_later answer.line c d before back.0 after (extends_of back.2) work.grow
            (s.said (λ u. known (fits.known u)) before back.0 st back.1 i b answer loud at (sym (slice_get-set_other slots k i next ne) ∙ got))
      ];
}
  where
    low : k < length slots
    low = slice_get_within slots k was found

    own : (a : Ask) × (asks k ≡ Some a)
    own = elim (s.asked k was found) [ inl ended ↦ absurd (runs ended) | inr is ↦ is ]

    made : Told p q (Since (IsCall (sole k own.0 from.here true from.clean)))
    made = (calls own.0 own.1 (s.plays k own.0 was own.1 found)).0

    others_spared : (b : Ask) → IsOther (Ask.output own.0) b.output → Told p q (Since (Spares b.output))
    others_spared b other = told_as made (λ x y made_so. calls_spare k own.0 from.here b.output true from.clean other made_so)

    here : (i : ℕ) (slot : Slot) → i ≡ k → slice_get (set slots k next) i ≡ Some slot → next ≡ slot
    here i slot e got = same_Some _ _ (sym (slice_get-set_same slots k next low) ∙ subst (λ m. slice_get (set slots k next) m ≡ Some slot) e got)

-- ---- one slot

pub slot_rests : (asks : ℕ → Option Ask) (first : Option (List Entry)) (from : Outset) (slots : List Slot) (k : ℕ) (was : Slot) (p : Option (List Entry)) (c : Counts)
    → slice_get slots k ≡ Some was → AllStand asks first from slots p c → AllStand asks first from (set slots k was) p c
slot_rests asks first from slots k was p c found s = subst (λ x. AllStand asks first from x p c) (sym (set_given slots k was found)) s

-- what stays to be told to others, where nothing is called
pub others_stay : (from : Outset) (rest : Owed) (k : ℕ) (p : Option (List Entry)) → ((i : ℕ) → i ≢ k → owed_to rest i ≡ owed_to from.owed i) → (before x y : List Entry) → p ≡ Some x → p ≡ Some y
    → (i : ℕ) (a : Ask) (slot : Slot) → i ≢ k → OnePass (owed_to from.owed i) (owed_to rest i) i a before x y slot
others_stay from rest k p same before x y e f i a slot ne = one_stays (owed_to from.owed i) (owed_to rest i) i a before x y slot (same i ne) (same_Some _ _ (sym e ∙ f))

-- a job that hasn't begun ends
pub waiting_ends : (asks : ℕ → Option Ask) (first : Option (List Entry)) (from : Outset) (slots : List Slot) (p : Option (List Entry)) (c : Counts) (k : ℕ) (answer : Answer)
    → answer ≡ starved_answer → AreClosed from.loop k → slice_get slots k ≡ Some Waiting → AllStand asks first from slots p c → AllStand asks first from (set slots k (Ended answer)) p c
waiting_ends asks first from slots p c k answer is closed found s =
    change asks first from slots p p c c k Waiting (Ended answer) from.owed found (λ e. e) fits (work_start c) (λ e. absurd (cc)) s.spoken (λ a at role. (told_start (λ x. start), tt)) (λ e a at role. tt) (λ a at role h. h) step count
    (λ b before x y e f own role calls i a slot ne other rested. others_stay from from.owed k p (λ i ne. refl) before x y e f i a slot ne)
    (λ x before past after ends loud e f grown.
    let none : x.line ≡ [] = sym (ap line_in ends) ∙ ap (λ (y : Answer). y.line) is in
    subst (λ (l : List ℕ). HasSaid l (0 < c.say) before after) (sym none) (subst (λ j. HasSaid [] (0 < c.say) before j) (same_Some _ _ (sym e ∙ f)) (said_nothing (0 < c.say) before past grown))) s
  where
    fits : Tells from from.owed k Waiting (Ended answer)
    fits = record { known = λ e. e; lines = λ i e. e; runs = λ j e. absurd (cc); closed = λ x e. closed }

    count : (a : Ask) → asks k ≡ Some a → SlotCounted a from.counts from.most Waiting p c → SlotCounted a from.counts from.most (Ended answer) p c
    count a at w = record {
      is = record { is = starved_end a.output answer is; cause = starved_caused from.counts c answer is };
      spent = λ e. let no : 12 ≡ 16 = sym (ap (λ (x : Answer). x.status) is) ∙ e in absurd (cc);
    }

    step : (a : Ask) (before past after : List Entry) → asks k ≡ Some a → Unit {0} → p ≡ Some past → p ≡ Some after → IsRested a.output before
        → Stands (owed_to from.owed k) k a from.counts before past c Waiting → Stands (owed_to from.owed k) k a from.counts before after c (Ended answer)
    step a before past after at role e f rested (waits g h fresh) = spared answer refl (subst (λ x. IsUnread a answer.status before x) (same_Some _ _ (sym e ∙ f)) (unread_pass a answer.status before past past past h start (unread_starved a answer past is)))
        (subst (λ x. Since (Spares a.output) before x) (same_Some _ _ (sym e ∙ f)) h)
    step a before past after at role e f rested (spared x g u h) = absurd (cc)
    step a before past after at role e f rested (begun bytes n begin then acc h gr ext of kernel r follows) = absurd r
