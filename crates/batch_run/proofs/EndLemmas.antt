-- How a run begins and ends.
use Rattle.std.proofs.Common.{◌≡◌, ◌⊎◌, inl, inr, ℕ, zero, suc, ◌+◌, ◌-◌, Bool, ◌<◌, ◌≤◌, List, ◌∷◌, length, Option, Some, None, Result, Ok, Err, true, false, refl, sym, ◌∙◌, ap, subst, arith}
use Rattle.std.specs.Prelude.{slice_get, IfOk, IfSome}
use Rattle.std.proofs.lemmas.Bool.{cases_lt}
use Rattle.std.proofs.lemmas.Option.{slice_get_within, same_Some}
use Rattle.jtext.proofs.Lists.{some_at}
use Rattle.jtext.specs.declared.no_memory.NoMemory.{NoMemory}
use Rattle.words.specs.declared.ask.Ask.{Ask}
use Rattle.world.specs.declared.entry.Entry.{Entry}
use Rattle.world.specs.declared.entry.Entry.TheVariants.{Read}
use Rattle.world.specs.declared.read_file.ReadFile.TheVariants as found
use Rattle.world.specs.Counts.{Counts}
use Rattle.world.specs.Moments.{Since, start, Told}
use Rattle.world.specs.Places.{time}
use Rattle.world.specs.Touched.{Spares}
use Rattle.world.proofs.CountsLemmas.{grow_start}
use Rattle.world.proofs.MomentsLemmas.{told_start, since_as}
use Rattle.ready_loop.specs.Offers.{Extends}
use Rattle.job_end.specs.declared.answer.Answer.{Answer}
use Rattle.cell_core.specs.Task.{Task}
use Rattle.job_journal.specs.Ended.{HasAnswered}
use Rattle.job_saves.specs.Course.{Origin}
use Rattle.job_saves.proofs.CourseLemmas.{job_ends}
use Rattle.nb_model.specs.declared.notebook.Notebook.{Notebook}
use Rattle.job_saves.specs.Reads.{first_of}
use Rattle.job_begin.specs.Begun.{origin_of, counted_task}
use Rattle.batch_run.specs.declared.slot.Slot.{Slot}
use Rattle.batch_run.specs.declared.slot.Slot.TheVariants.{Waiting, Running, Ended}
use Rattle.batch_run.specs.Batch.{HasStopped, HasWaited, EndsBy, EndsFollowing, EndsUnread, EndsRead, AreEnds, AreSaid, Makes, nothing, saves, MakesEach, LeavesOthers, CallsOfJobs, CallsOfRun, EndsChildren, IsApart, IsClean, numbered}
use Rattle.job_run.specs.declared.job.Job.{Job}
use Rattle.job_turns.specs.OwedTo.{OwedTo, StandsEnded}
use Rattle.job_turns.specs.OwedTo as to
use Rattle.other_jobs.proofs.Refusals.{shut_unread}
use Rattle.ready_loop.specs.declared.readiness.Loop.{Loop}
use Rattle.ready_loop.specs.History.{History}
use Rattle.ready_loop.specs.Standing.{AllShut, StandsFor}
use Rattle.ready_loop.specs.Wires.{ports_in}
use Rattle.batch_run.specs.Due.{is_slot_over}
use Rattle.batch_run.specs.Owed.{AreServed, Owed, SlotFollows, StaysFresh, owed_to}
use Rattle.batch_run.specs.Owed.{none, begins, unknown}
use Rattle.batch_run.proofs.FollowLemmas.{follows_on, fresh_start}
use Rattle.job_saves.specs.Children.{has_child, HasEnd}
use Rattle.job_saves.specs.Speaking.{IsWhole, SpeaksWhole}
use Rattle.batch_run.proofs.CallLemmas.{run_spares}
use Rattle.batch_run.specs.Stands.{Outset, AreWired, IsIdle, SlotPlays, SlotTells, SlotEnds, SlotRuns, SlotTask, SlotKernel, SlotCounted, EndCounted, Stands, waits, spared, begun, AllStand, AllEnded, AreAnswers, EndedBelow, HasEnded, NoneOver, WaitingFrom, answer_of, answers_from}
use Rattle.batch_run.proofs.JournalLemmas.{extension, told_at}
use Rattle.batch_run.proofs.SlotLemmas.{are_answers}

-- ---- numbers

-- the jobs of a run have the numbers from the first on
pub numbered_at : (n : ℕ) (asks : List Ask) (i : ℕ) → numbered n asks (n + i) ≡ slice_get asks i
numbered_at zero asks i = let same : 0 + i ≡ i = omega arith in ap (slice_get asks) same
numbered_at (suc n) asks i = let same : suc n + i ≡ suc (n + i) = omega arith in ap (numbered (suc n) asks) same ∙ numbered_at n asks i

-- and no others
pub numbered_only : (n : ℕ) (asks : List Ask) (k : ℕ) (a : Ask) → numbered n asks k ≡ Some a → (i : ℕ) × (k ≡ n + i) × (slice_get asks i ≡ Some a)
numbered_only zero asks k a e = (k, omega arith, e)
numbered_only (suc n) asks zero a e = absurd (cc)
numbered_only (suc n) asks (suc k) a e =
    let r = numbered_only n asks k a e in
    let same : k ≡ n + r.0 = r.1 in
    (r.0, omega (arith, same), r.2)

asked_start : (n : ℕ) (asks : List Ask) (slots : List Slot) → length slots ≡ n + length asks → EndedBelow n slots → (i : ℕ) (slot : Slot) → slice_get slots i ≡ Some slot
    → HasEnded slot ⊎ ((a : Ask) × (numbered n asks i ≡ Some a))
asked_start n asks slots size below i slot got = elim (cases_lt i n) [
  | inl low ↦ inl (below.each i slot low got)
  | inr high ↦
      let within = slice_get_within slots i slot got in
      let own = some_at asks (i - n) (omega (arith, within, size, high)) in
      let same : n + (i - n) ≡ i = omega (arith, high) in
      inr (own.0, subst (λ m. numbered n asks m ≡ Some own.0) same (numbered_at n asks (i - n) ∙ own.1))
]

waiting_start : (n : ℕ) (asks : List Ask) (slots : List Slot) → WaitingFrom n slots → (i : ℕ) (a : Ask) (slot : Slot) → numbered n asks i ≡ Some a → slice_get slots i ≡ Some slot → slot ≡ Waiting
waiting_start n asks slots waiting i a slot at got = let r = numbered_only n asks i a at in let same : i ≡ n + r.0 = r.1 in waiting.each i slot (omega (arith, same)) got

-- ---- the begin

-- the jobs of a run before a clean one
pub record AreIdle (asks : ℕ → Option Ask) (p : Option (List Entry)) : Type 0 where
  pub idle : (i : ℕ) (a : Ask) → asks i ≡ Some a → IsIdle i a p
  pub apart : (i : ℕ) (a : Ask) → asks i ≡ Some a → IsApart asks i a

-- no job runs yet
none_runs : (n : ℕ) (slots : List Slot) → EndedBelow n slots → WaitingFrom n slots → (i : ℕ) (j : Job) → slice_get slots i ≡ Some (Running j) → ⊥
none_runs n slots below waiting i j got = elim (cases_lt i n) [
  | inl low ↦ below.each i (Running j) low got
  | inr high ↦ let no : Running j ≡ Waiting = waiting.each i (Running j) high got in absurd (cc)
]

pub none_over_start : {n : ℕ} {slots : List Slot} → EndedBelow n slots → WaitingFrom n slots → NoneOver slots
none_over_start {n} {slots} below waiting = record { each = λ i. at i (slice_get slots i) refl }
  where
    at : (i : ℕ) (o : Option Slot) → slice_get slots i ≡ o → is_slot_over (slice_get slots i) ≡ false
    at i None e = ap is_slot_over e
    at i (Some Waiting) e = ap is_slot_over e
    at i (Some (Running j)) e = absurd (none_runs n slots below waiting i j e)
    at i (Some (Ended answer)) e = ap is_slot_over e

-- the loop at the start
served_start : (n : ℕ) (asks : List Ask) (slots : List Slot) (l : Loop) (before : List Entry) → EndedBelow n slots → WaitingFrom n slots
    → (h : History) × StandsFor l h before → AllShut before → AreServed (numbered n asks) (begins n) l slots before
served_start n asks slots l before below waiting stands shut = record {
  history = stands.0;
  stands = stands.1;
  unread = shut_unread before shut;
  listens = λ i j got has. absurd (none_runs n slots below waiting i j got);
  closed = λ i a answer at got. let no : Ended answer ≡ Waiting = waiting_start n asks slots waiting i a (Ended answer) at got in absurd (cc);
}

pub all_start : (n : ℕ) (asks : List Ask) (slots : List Slot) (p : Option (List Entry)) (c : Counts) (here : List ℕ) (most : ℕ) (l : Loop) (clean : Bool) → length slots ≡ n + length asks → length slots ≤ 16
    → EndedBelow n slots → WaitingFrom n slots → ((journal : List Entry) → AllShut journal → (h : History) × StandsFor l h journal)
    → (clean ≡ true → SpeaksWhole p c) → (clean ≡ true → AreIdle (numbered n asks) p) → IfSome p (AreWired (ports_in l))
    → AllStand (numbered n asks) p (record { size = n + length asks; here = here; counts = c; waits = c.waits; most = most; clean = clean; loop = l; owed = begins n; hushed = λ i. false }) slots p c
all_start n asks slots p c here most l clean size few below waiting stands spoken idle wired = record {
  size = size;
  asked = asked_start n asks slots size below;
  grow = grow_start c;
  waits = omega arith;
  waited = omega arith;
  told = told_start (λ x. start);
  calls = told_start (λ x. start);
  spoken = spoken;
  idle = λ e i a at got. (idle e).idle i a at;
  apart = λ e. (idle e).apart;
  tells = λ e i a slot at got. subst (λ x. SlotTells a x p c) (sym (waiting_start n asks slots waiting i a slot at got)) tt;
  wired = λ e. wired;
  few = few;
  plays = λ i a slot at got. subst (λ x. SlotPlays i a x) (sym (waiting_start n asks slots waiting i a slot at got)) tt;
  ends = λ i a slot at got. subst (λ x. SlotEnds i x p p) (sym (waiting_start n asks slots waiting i a slot at got)) (λ h. h);
  counted = λ i a slot at got. subst (λ x. SlotCounted a c most x p c) (sym (waiting_start n asks slots waiting i a slot at got)) tt;
  each = λ before past st e i a slot at got apart rested.
      let same : before ≡ past = same_Some _ _ (sym st ∙ e) in
      waits (waiting_start n asks slots waiting i a slot at got) (subst (λ x. Since (Spares a.output) before x) same start)
      (λ shut. subst (λ x. StaysFresh to.first_clock i a before x) same (fresh_start to.first_clock i a before));
  served = λ before past st e shut.
      let same : before ≡ past = same_Some _ _ (sym st ∙ e) in
      subst (λ x. AreServed (numbered n asks) (begins n) l slots x) same (served_start n asks slots l before below waiting (stands before shut) shut);
  said = λ known before past st e i a answer loud at got. let no : Ended answer ≡ Waiting = waiting_start n asks slots waiting i a (Ended answer) at got in absurd (cc);
}

-- the clock that a world tells
pub clock_stands : (p : Option (List Entry)) (ms : ℕ) → IfSome p (λ past. ms ≡ time past) → IfSome p (λ past. time past ≡ ms)
clock_stands None ms at = tt
clock_stands (Some past) ms at = sym at

-- what holds of the journals holds where they are told
told_of : (p q : Option (List Entry)) (R S : List Entry → List Entry → Type 0) → Told p q R
    → ((x y : List Entry) → p ≡ Some x → q ≡ Some y → S x y) → Told p q S
told_of p None R S told so = record { so = tt }
told_of None (Some y) R S told so = absurd told.so
told_of (Some x) (Some y) R S told so = record { so = so x y refl refl }

-- the journal before a clean run
clean_speaks : (asks : ℕ → Option Ask) (p : Option (List Entry)) (c : Counts) (x : List Entry) → p ≡ Some x → IsClean asks x → SpeaksWhole p c
clean_speaks asks p c x st h = λ none. subst (λ j. IfSome j IsWhole) (sym st) h.whole

clean_idle : (asks : ℕ → Option Ask) (p : Option (List Entry)) (x : List Entry) → p ≡ Some x → IsClean asks x → AreIdle asks p
clean_idle asks p x st h = record {
  idle = λ i a at. subst (IsIdle i a) (sym st) (record { childless = h.childless i a at; portless = h.portless i a at; lacks = h.lacks i a at });
  apart = h.apart;
}

-- the calls of a run, by how it stands at its end where it began so
pub run_calls : (asks : ℕ → Option Ask) (here : List ℕ) (p q : Option (List Entry)) (c : Counts) → Told p q Extends
    → ((clean : Bool) → (clean ≡ true → SpeaksWhole p c) → (clean ≡ true → AreIdle asks p) → Told p q (CallsOfJobs asks here clean)) → Told p q (CallsOfRun asks here)
run_calls asks here p q c told calls = told_of p q Extends (CallsOfRun asks here) told (λ x y st f clean begins.
    told_at p q (CallsOfJobs asks here clean) x y (calls clean (λ e. clean_speaks asks p c x st (begins e)) (λ e. clean_idle asks p x st (begins e))) st f)

-- ---- the end

stopped : (o : Origin) (task : Option Task) (slot : Slot) (j : Option (List Entry)) (d : Counts) → SlotRuns o task slot j d → HasStopped o j d
stopped o task Waiting j d r = absurd r
stopped o task (Running job) j d r = record { is_open = r.is_open; ends = job_ends o job.run.book r.is_open j d r.stands }
stopped o task (Ended answer) j d r = record { is_open = r.is_open; ends = r.ends }

ends_by : (o : Origin) (task : Option Task) (slot : Slot) (j : Option (List Entry)) (d : Counts) → HasEnded slot → SlotRuns o task slot j d → EndsBy o task (answer_of (Some slot)) j d
ends_by o task Waiting j d h r = absurd h
ends_by o task (Running job) j d h r = absurd h
ends_by o task (Ended answer) j d h r = r

made_stopped : (o : OwedTo) (i : ℕ) (a : Ask) (from : Counts) (before past : List Entry) (d : Counts) (slot : Slot) → Stands o i a from before past d slot → Makes i a None from d before past
made_stopped o i a from before past d slot (waits e h fresh) = nothing tt h
made_stopped o i a from before past d slot (spared answer e u h) = nothing tt h
made_stopped o i a from before past d slot (begun bytes n begin then acc h g ext of kernel r follows) =
    let front = extension ext in
    saves bytes n begin then front.0 acc tt h g front.1 (stopped (origin_of a n begin then) (counted_task a (first_of a n)) slot (Some past) d r) (λ shut. tt)

-- a job that has ended, and to which nothing is still to be told
ends_following : (i : ℕ) (a : Ask) (n : Notebook) (slot : Slot) (before past : List Entry) → HasEnded slot → SlotFollows to.nothing i a n slot before past
    → EndsFollowing i a n (answer_of (Some slot)) before past
ends_following i a n Waiting before past ended h = absurd ended
ends_following i a n (Running j) before past ended h = absurd ended
ends_following i a n (Ended answer) before past ended h =
    follows_on i a n before past past (λ p. StandsEnded p answer past) (λ p. HasAnswered p answer past) start (λ p plot fresh e. e.answered) h

slot_read : (a : Ask) (first : Notebook) (slot : Slot) (x y : List Entry) → SlotTask a first slot → SlotKernel a first slot x y → EndsRead a first (answer_of (Some slot)) x y
slot_read a first Waiting x y of kernel = tt
slot_read a first (Running j) x y of kernel = tt
slot_read a first (Ended answer) x y of kernel = (of, kernel)

made_ended : (i : ℕ) (a : Ask) (from : Counts) (before past : List Entry) (d : Counts) (slot : Slot) → HasEnded slot → Stands to.nothing i a from before past d slot
    → Makes i a (answer_of (Some slot)) from d before past
made_ended i a from before past d slot ended (waits e h fresh) = nothing (subst (λ x. EndsUnread a (answer_of (Some x)) before past) (sym e) tt) h
made_ended i a from before past d slot ended (spared answer e u h) = nothing (subst (λ x. EndsUnread a (answer_of (Some x)) before past) (sym e) u) h
made_ended i a from before past d slot ended (begun bytes n begin then acc h g ext of kernel r follows) =
    let front = extension ext in
    saves bytes n begin then front.0 acc (slot_read a (first_of a n) slot (Read a.input 33554432 (found.Whole bytes) ∷ begin) past of kernel) h g front.1 (ends_by (origin_of a n begin then) (counted_task a (first_of a n)) slot (Some past) d ended r)
    (λ shut. ends_following i a n slot before past ended (follows shut))

module _ (n : ℕ) (asks : List Ask) (first : Option (List Entry)) (from : Outset) (slots : List Slot) (q : Option (List Entry)) (d : Counts)
    (size : from.size ≡ n + length asks) (s : AllStand (numbered n asks) first from slots q d) where
  role : (i : ℕ) (a : Ask) → slice_get asks i ≡ Some a → numbered n asks (n + i) ≡ Some a
  role i a at = numbered_at n asks i ∙ at

  slot_at : (i : ℕ) (a : Ask) → numbered n asks i ≡ Some a → (slot : Slot) × (slice_get slots i ≡ Some slot)
  slot_at i a at =
      let r = numbered_only n asks i a at in
      let same : i ≡ n + r.0 = r.1 in
      let low : r.0 < length asks = slice_get_within asks r.0 a r.2 in
      some_at slots i (omega (arith, same, low, size, s.size))

  apart_at : (i : ℕ) (a : Ask) → IsApart (numbered 0 asks) i a → IsApart (numbered n asks) (n + i) a
  apart_at i a apart = λ k b at ne. let r = numbered_only n asks k b at in apart r.0 b r.2 (λ e. ne (r.1 ∙ ap (λ m. n + m) e))

  pub made_without : (e : NoMemory) → Told first q (MakesEach n asks (Err e) from.counts d)
  made_without e = told_of first q Extends (MakesEach n asks (Err e) from.counts d) s.told (λ x y st f i a at apart rested.
      let slot = slot_at (n + i) a (role i a at) in
      made_stopped (owed_to from.owed (n + i)) (n + i) a from.counts x y d slot.0 (s.each x y st f (n + i) a slot.0 (role i a at) slot.1 (apart_at i a apart) rested))

  pub made_with : (answers : List Answer) → from.owed ≡ none → AllEnded slots → AreAnswers n slots answers → Told first q (MakesEach {E = NoMemory} n asks (Ok answers) from.counts d)
  made_with answers owed ended are = told_of first q Extends (MakesEach {E = NoMemory} n asks (Ok answers) from.counts d) s.told (λ x y st f i a at apart rested.
      let slot = slot_at (n + i) a (role i a at) in
      let stands = subst (λ (o : Owed). Stands (owed_to o (n + i)) (n + i) a from.counts x y d slot.0) owed (s.each x y st f (n + i) a slot.0 (role i a at) slot.1 (apart_at i a apart) rested) in
      subst (λ o. Makes (n + i) a o from.counts d x y) (sym (are.each i ∙ ap answer_of slot.1))
      (made_ended (n + i) a from.counts x y d slot.0 (ended.each (n + i) slot.0 slot.1) stands))

  slot_end : (a : Ask) (slot : Slot) (answer : Answer) → answer_of (Some slot) ≡ Some answer → SlotCounted a from.counts from.most slot q d
      → EndCounted a from.counts from.most answer d
  slot_end a Waiting answer is h = absurd (cc)
  slot_end a (Running j) answer is h = absurd (cc)
  slot_end a (Ended x) answer is h = subst (λ y. EndCounted a from.counts from.most y d) (same_Some _ _ is) h

  -- an answer is that of an end
  end_at : (answers : List Answer) → AreAnswers n slots answers → (i : ℕ) (a : Ask) (answer : Answer) → slice_get asks i ≡ Some a → slice_get answers i ≡ Some answer
      → EndCounted a from.counts from.most answer d
  end_at answers are i a answer at got =
      let slot = slot_at (n + i) a (role i a at) in
      slot_end a slot.0 answer (sym (are.each i ∙ ap answer_of slot.1) ∙ got) (s.counted (n + i) a slot.0 (role i a at) slot.1)

  pub are_ends : (answers : List Answer) → AreAnswers n slots answers → AreEnds asks from.counts d answers
  are_ends answers are i a answer at got = (end_at answers are i a answer at got).is

  -- 16 is that of one only where all waits were made
  pub end_spent : (answers : List Answer) → AreAnswers n slots answers → (i : ℕ) (answer : Answer) → slice_get answers i ≡ Some answer → answer.status ≡ 16 → HasWaited from.most d
  end_spent answers are i answer got is =
      let low : i < length answers = slice_get_within answers i answer got in
      let own = some_at asks i (omega (arith, low, are.size, s.size, size)) in
      (end_at answers are i own.0 answer own.1 got).spent is

  answer_is : (slot : Slot) (answer : Answer) → answer_of (Some slot) ≡ Some answer → slot ≡ Ended answer
  answer_is Waiting answer e = absurd (cc)
  answer_is (Running j) answer e = absurd (cc)
  answer_is (Ended x) answer e = ap (λ (y : Answer). Ended y) (same_Some _ _ e)

  -- the last line of each was said
  pub are_said : (answers : List Answer) → from.owed ≡ none → ((i : ℕ) → from.hushed i ≡ false) → AreAnswers n slots answers → Told first q (AreSaid asks answers (0 < d.say))
  are_said answers owed loud are = told_of first q Extends (AreSaid asks answers (0 < d.say)) s.told (λ x y st f. record {
    each = λ i a answer at got.
        let slot = slot_at (n + i) a (role i a at) in
        let is = answer_is slot.0 answer (sym (are.each i ∙ ap answer_of slot.1) ∙ got) in
        s.said (λ u. let no : none ≡ unknown = sym owed ∙ u in absurd (cc)) x y st f (n + i) a answer (loud (n + i)) (role i a at) (slot.1 ∙ ap (λ z. Some z) is);
  })

  pub others_left : Told first q (LeavesOthers asks)
  others_left = told_of first q (CallsOfJobs (numbered n asks) from.here from.clean) (LeavesOthers asks) s.calls (λ x y st f path none.
      since_as (run_spares (numbered n asks) from.here path from.clean (λ k b at. let r = numbered_only n asks k b at in none r.0 b r.2))
      (told_at first q (CallsOfJobs (numbered n asks) from.here from.clean) x y s.calls st f))

  ended_at : (i : ℕ) (slot : Slot) (x y : List Entry) → HasEnded slot → SlotEnds i slot first q → first ≡ Some x → q ≡ Some y → has_child i x ≡ false → has_child i y ≡ false
  ended_at i Waiting x y ended keeps st f h = absurd ended
  ended_at i (Running j) x y ended keeps st f h = absurd ended
  ended_at i (Ended answer) x y ended keeps st f h = subst (HasEnd i) f (keeps (subst (HasEnd i) (sym st) h))

  pub children_end : AllEnded slots → Told first q (EndsChildren (numbered n asks))
  children_end ended = told_of first q Extends (EndsChildren (numbered n asks)) s.told (λ x y st f i a at h.
      let slot = slot_at i a at in
      ended_at i slot.0 x y (ended.each i slot.0 slot.1) (s.ends i a slot.0 at slot.1) st f h)

-- ---- by the answer of the run

module _ (n : ℕ) (asks : List Ask) (first : Option (List Entry)) (from : Outset) (slots : List Slot) (q : Option (List Entry)) (d : Counts)
    (size : from.size ≡ n + length asks) (s : AllStand (numbered n asks) first from slots q d) (ended : AllEnded slots) where
  all_answers : AreAnswers n slots (answers_from n slots)
  all_answers = are_answers (omega (arith, size, s.size)) ended

  pub made_by : (result : Result (List Answer) NoMemory) → from.owed ≡ none → IfOk result (λ answers. answers ≡ answers_from n slots) → Told first q (MakesEach n asks result from.counts d)
  made_by (Ok answers) owed is = made_with n asks first from slots q d size s answers owed ended (subst (AreAnswers n slots) (sym is) all_answers)
  made_by (Err e) owed is = made_without n asks first from slots q d size s e

  pub ends_by_answers : (result : Result (List Answer) NoMemory) → IfOk result (λ answers. answers ≡ answers_from n slots) → IfOk result (AreEnds asks from.counts d)
  ends_by_answers (Ok answers) is = are_ends n asks first from slots q d size s answers (subst (AreAnswers n slots) (sym is) all_answers)
  ends_by_answers (Err e) is = tt

  pub spent_by : (result : Result (List Answer) NoMemory) → IfOk result (λ answers. answers ≡ answers_from n slots)
      → IfOk result (λ answers. (i : ℕ) (answer : Answer) → slice_get answers i ≡ Some answer → answer.status ≡ 16 → HasWaited from.most d)
  spent_by (Ok answers) is = end_spent n asks first from slots q d size s answers (subst (AreAnswers n slots) (sym is) all_answers)
  spent_by (Err e) is = tt

  pub said_by : (result : Result (List Answer) NoMemory) → from.owed ≡ none → ((i : ℕ) → from.hushed i ≡ false) → IfOk result (λ answers. answers ≡ answers_from n slots)
      → IfOk result (λ answers. Told first q (AreSaid asks answers (0 < d.say)))
  said_by (Ok answers) owed loud is = are_said n asks first from slots q d size s answers owed loud (subst (AreAnswers n slots) (sym is) all_answers)
  said_by (Err e) owed loud is = tt

  pub count_by : (result : Result (List Answer) NoMemory) → IfOk result (λ answers. answers ≡ answers_from n slots) → IfOk result (λ answers. length answers ≡ length asks)
  count_by (Ok answers) is = let same = ap length is in let long = all_answers.size in omega (arith, same, long, size, s.size)
  count_by (Err e) is = tt
