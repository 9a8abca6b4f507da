-- How the jobs of a run go on standing once one of them is told something, or isn't, since none runs there.
use Rattle.std.proofs.Common.{◌≡◌, ◌≢◌, ◌⊎◌, inl, inr, ℕ, suc, true, false, List, set, Option, Some, refl, sym, ◌∙◌, ap, subst}
use Rattle.std.specs.Prelude.{slice_get, IfSome}
use Rattle.std.proofs.lemmas.Bool.{cases_eq, false≢true}
use Rattle.std.proofs.lemmas.Option.{same_Some}
use Rattle.words.specs.declared.ask.Ask.{Ask}
use Rattle.world.specs.declared.chan.Chan.{Chan}
use Rattle.world.specs.declared.entry.Entry.{Entry}
use Rattle.world.specs.Counts.{Counts}
use Rattle.world.specs.Moments.{Since, start, Told}
use Rattle.world.specs.Parts.{IsNotOf, OnClock}
use Rattle.world.specs.Places.{time}
use Rattle.ready_loop.specs.History.{conn_on}
use Rattle.job_saves.specs.Calls.{Cast}
use Rattle.job_saves.specs.Course.{Origin}
use Rattle.job_journal.specs.Plot.{Plot}
use Rattle.job_end.specs.declared.answer.Answer.{Answer}
use Rattle.job_run.specs.declared.job.Job.{Job}
use Rattle.job_run.specs.JobStanding.{JobStands, JobStandsUntold, KeepsStanding}
use Rattle.job_run.specs.Run.{HasRole, KeepsRole, KeepsRun, IsLost, IsSpent, Runs, outcome_of}
use Rattle.job_run.specs.Steps.{JobKeeps, JobStays}
use Rattle.job_run.specs.Task.{task_of_job, output_of_job}
use Rattle.job_turns.specs.OwedTo.{OwedTo, StandsEnded, StandsOwed, is_open}
use Rattle.job_turns.specs.OwedTo.{may_wait as waits_for}
use Rattle.job_turns.specs.OwedTo as to
use Rattle.batch_run.specs.declared.slot.Slot.{Slot}
use Rattle.batch_run.specs.declared.slot.Slot.TheVariants.{Waiting, Running, Ended}
use Rattle.batch_run.specs.Owed.{Owed, EndedOwed, Served, SlotFollows, has_lines, owed_to}
use Rattle.batch_run.specs.Owed.{none, first_clock, turn_clock, piece, unknown}
use Rattle.batch_run.specs.Stands.{Outset, AllStand, Stands, waits, spared, begun, IsCutOff, IsOutOfWaits, is_slot_running, owing}
use Rattle.batch_run.proofs.FollowLemmas.{clock_other, clock_own, clock_told, first_other, first_own, first_told, follows_as, follows_changed, piece_other, piece_own, waits_each}
use Rattle.batch_run.proofs.JobStandLemmas.{job_goes_on}
use Rattle.batch_run.proofs.JournalLemmas.{told_at}
use Rattle.batch_run.proofs.OweLemmas.{reowe}
use Rattle.batch_run.proofs.PassLemmas.{Tells, one_as, one_others}
use Rattle.batch_run.proofs.StandLemmas.{others_stay, slot_rests}

-- ---- a job that runs

fits_runs : (from : Outset) (rest : Owed) (k : ℕ) (was next : Job) → (from.owed ≡ unknown → rest ≡ unknown) → ((i : ℕ) → has_lines rest i ≡ true → has_lines from.owed i ≡ true)
    → Tells from rest k (Running was) (Running next)
fits_runs from rest k was next known lines = record { known = known; lines = lines; runs = λ j e lined. refl; closed = λ answer e. absurd (cc) }

module _ (asks : ℕ → Option Ask) (first : Option (List Entry)) (from : Outset) (slots : List Slot) (p : Option (List Entry)) (c : Counts) (k : ℕ) (was next : Job) where
  -- it is told something without a call of the world
  pub job_changes : KeepsRun was next → KeepsRole was next → KeepsStanding was next → task_of_job next ≡ task_of_job was → output_of_job next ≡ output_of_job was
      → (IsLost (outcome_of next) → (IsLost (outcome_of was)) ⊎ (IsCutOff from c)) → (IsSpent (outcome_of next) → (IsSpent (outcome_of was)) ⊎ (IsOutOfWaits from c))
      → is_open (owed_to from.owed k) ≡ true → slice_get slots k ≡ Some (Running was)
      → AllStand asks first from slots p c → AllStand asks first from (set slots k (Running next)) p c
  job_changes course calls keeps task output lost spent opens found s =
      job_goes_on asks first from slots p p c c k was next from.owed (fits_runs from from.owed k was next (λ e. e) (λ i e. e))
      (λ a n before x y e f grown h.
      follows_changed (owed_to from.owed k) k a n was next before y opens keeps (subst (λ z. SlotFollows (owed_to from.owed k) k a n (Running was) before z) (same_Some _ _ (sym e ∙ f)) h))
      (λ b before x y e f own called i a slot ne other rested. others_stay from from.owed k p (λ m differs. refl) before x y e f i a slot ne)
      (λ o r. course o p c r) (λ cast since then l. calls cast since then p c l) task output lost spent found s

  -- so it goes where it ends as it had
  pub job_stays : JobStays was next → is_open (owed_to from.owed k) ≡ true → slice_get slots k ≡ Some (Running was)
      → AllStand asks first from slots p c → AllStand asks first from (set slots k (Running next)) p c
  job_stays stays opens found s =
      job_changes stays.course stays.calls stays.stands stays.keeps.task stays.keeps.output (λ l. inl (stays.keeps.still.lost l)) (λ l. inl (stays.keeps.still.spent l)) opens found s

  -- its first clock
  pub job_reads : (ms : ℕ) → KeepsRun was next → KeepsRole was next → JobKeeps was next → ((plot : Plot) (now : List Entry) → time now ≡ ms → JobStandsUntold plot was now → JobStands plot next now)
      → IfSome p (λ past. time past ≡ ms) → slice_get slots k ≡ Some (Running was)
      → AllStand asks first (owing (first_clock k) from) slots p c → AllStand asks first (owing (first_clock (suc k)) from) (set slots k (Running next)) p c
  job_reads ms course calls keeps stands at found s =
      job_goes_on asks first (owing (first_clock k) from) slots p p c c k was next (first_clock (suc k)) (fits_runs (owing (first_clock k) from) (first_clock (suc k)) k was next (λ e. absurd (cc)) (λ i e. e))
      (λ a n before x y e f grown h.
      let at_x : time x ≡ ms = subst (λ z. IfSome z (λ past. time past ≡ ms)) e at in
      let told = follows_as to.first_clock to.nothing k a n (Running was) (Running next) before x x start (λ plot is fresh w. stands plot x at_x w.untold)
      (subst (λ t. SlotFollows t k a n (Running was) before x) (first_own k) h) in
      subst (λ z. SlotFollows (owed_to (first_clock (suc k)) k) k a n (Running next) before z) (same_Some _ _ (sym e ∙ f)) (subst (λ t. SlotFollows t k a n (Running next) before x) (sym (first_told k)) told))
      (λ b before x y e f own called i a slot ne other rested. others_stay (owing (first_clock k) from) (first_clock (suc k)) k p (λ m differs. first_other k m differs) before x y e f i a slot ne)
      (λ o r. course o p c r) (λ cast since then l. calls cast since then p c l) keeps.task keeps.output (λ l. inl (keeps.still.lost l)) (λ l. inl (keeps.still.spent l)) found s

-- what a job is told with calls of the world: this was still to be told to it, and nothing is then
module _ (asks : ℕ → Option Ask) (first : Option (List Entry)) (from : Outset) (slots : List Slot) (p q : Option (List Entry)) (c d : Counts) (k : ℕ) (was next : Job)
    (course : (o : Origin) → Runs o was p c → Runs o next q d) (calls : (cast : Cast) (since : List Entry) (then : Counts) → HasRole cast since then was p c → HasRole cast since then next q d)
    (keeps : JobKeeps was next) (clock : Told p q (Since (IsNotOf OnClock))) (found : slice_get slots k ≡ Some (Running was)) where
  job_told : (o rest : Owed) (m : OwedTo) → (o ≡ unknown → rest ≡ unknown) → ((i : ℕ) → has_lines rest i ≡ true → has_lines o i ≡ true) → owed_to o k ≡ m → owed_to rest k ≡ to.nothing
      → ((i : ℕ) → i ≢ k → owed_to rest i ≡ owed_to o i) → ((i : ℕ) → i ≢ k → waits_for (owed_to o i) ≡ true)
      → ((plot : Plot) → Told p q (λ x y. StandsOwed m plot was x → JobStands plot next y))
      → AllStand asks first (owing o from) slots p c → AllStand asks first (owing rest from) (set slots k (Running next)) q d
  job_told o rest m known lines here gone same wait stands s =
      job_goes_on asks first (owing o from) slots p q c d k was next rest (fits_runs (owing o from) rest k was next known lines)
      (λ a n before x y e f grown h.
      subst (λ t. SlotFollows t k a n (Running next) before y) (sym gone)
      (follows_as m to.nothing k a n (Running was) (Running next) before x y grown (λ plot is fresh w. told_at p q (λ x y. StandsOwed m plot was x → JobStands plot next y) x y (stands plot) e f w)
      (subst (λ t. SlotFollows t k a n (Running was) before x) here h)))
      (λ b before x y e f own called i a slot ne other rested.
      one_as (owed_to o i) (owed_to o i) (owed_to rest i) i a before x y slot (same i ne)
      (one_others (owed_to o i) i a k b from.here from.clean before x y slot (wait i ne) other called (told_at p q (Since (IsNotOf OnClock)) x y clock e f) rested))
      course calls keeps.task keeps.output (λ l. inl (keeps.still.lost l)) (λ l. inl (keeps.still.spent l)) found s

  pub job_turned : (ms : ℕ) → ((plot : Plot) → Told p q (λ x y. StandsOwed (to.clock ms) plot was x → JobStands plot next y))
      → AllStand asks first (owing (turn_clock ms k) from) slots p c → AllStand asks first (owing (turn_clock ms (suc k)) from) (set slots k (Running next)) q d
  job_turned ms stands s =
      job_told (turn_clock ms k) (turn_clock ms (suc k)) (to.clock ms) (λ e. absurd (cc)) (λ i e. e) (clock_own ms k) (clock_told ms k) (λ i ne. clock_other ms k i ne)
      (λ i ne. waits_each (turn_clock ms k) i refl) stands s

  pub job_got : (chan : Chan) (bytes : List ℕ) → ((plot : Plot) → Told p q (λ x y. StandsOwed (to.piece chan bytes) plot was x → JobStands plot next y))
      → AllStand asks first (owing (piece (conn_on k chan) bytes) from) slots p c → AllStand asks first (owing none from) (set slots k (Running next)) q d
  job_got chan bytes stands s =
      job_told (piece (conn_on k chan) bytes) none (to.piece chan bytes) (λ e. absurd (cc)) (λ i e. e) (piece_own (conn_on k chan) bytes k refl) refl
      (λ i ne. sym (piece_other (conn_on k chan) bytes i (λ e. ne (sym e))))
      (λ i ne. subst (λ t. waits_for t ≡ true) (sym (piece_other (conn_on k chan) bytes i (λ e. ne (sym e)))) refl) stands s

  pub job_looked : ((plot : Plot) → Told p q (λ x y. StandsOwed to.nothing plot was x → JobStands plot next y))
      → AllStand asks first (owing none from) slots p c → AllStand asks first (owing none from) (set slots k (Running next)) q d
  job_looked stands s = job_told none none to.nothing (λ e. absurd (cc)) (λ i e. e) refl refl (λ i ne. refl) (λ i ne. refl) stands s

-- ---- a slot in which none runs

ended_known : (o : OwedTo) (p : Plot) (answer : Answer) (now : List Entry) → (o ≡ to.anything → ⊥) → EndedOwed o p answer now → StandsEnded p answer now
ended_known to.nothing p answer now known e = e
ended_known to.first_clock p answer now known e = e
ended_known (to.clock ms) p answer now known e = e
ended_known (to.piece chan bytes) p answer now known e = e
ended_known to.anything p answer now known e = absurd (known refl)

-- it needs to be told nothing
stands_told : (o : OwedTo) (i : ℕ) (a : Ask) (from : Counts) (before past : List Entry) (c : Counts) (slot : Slot) → is_slot_running (Some slot) ≡ false → (o ≡ to.anything → ⊥)
    → Stands o i a from before past c slot → Stands to.nothing i a from before past c slot
stands_told o i a from before past c slot gone known (waits e h fresh) = waits e h (λ shut. tt)
stands_told o i a from before past c slot gone known (spared answer e u h) = spared answer e u h
stands_told o i a from before past c Waiting gone known (begun bytes n begin then acc h gr ext task kernel runs follows) = absurd runs
stands_told o i a from before past c (Running j) gone known (begun bytes n begin then acc h gr ext task kernel runs follows) = absurd (false≢true (sym gone))
stands_told o i a from before past c (Ended answer) gone known (begun bytes n begin then acc h gr ext task kernel runs follows) =
    begun bytes n begin then acc h gr ext task kernel runs
    (λ shut. follows_as o to.nothing i a n (Ended answer) (Ended answer) before past past start (λ p is fresh w. ended_known o p answer past known w) (follows shut))

slot_told : (asks : ℕ → Option Ask) (first : Option (List Entry)) (from : Outset) (slots : List Slot) (p : Option (List Entry)) (c : Counts) (k : ℕ) (was : Slot) (o rest : Owed) (m : OwedTo)
    → is_slot_running (Some was) ≡ false → slice_get slots k ≡ Some was → owed_to o k ≡ m → (m ≡ to.anything → ⊥) → owed_to rest k ≡ to.nothing → ((i : ℕ) → i ≢ k → owed_to rest i ≡ owed_to o i)
    → ((past : List Entry) → Served asks o from.loop slots past → Served asks rest from.loop slots past)
    → AllStand asks first (owing o from) slots p c → AllStand asks first (owing rest from) (set slots k was) p c
slot_told asks first from slots p c k was o rest m idle found here known gone same served s =
    slot_rests asks first (owing rest from) slots k was p c found (reowe asks first from o rest slots p c (λ u. absurd (known (sym here ∙ ap (λ (x : Owed). owed_to x k) u))) each served s)
  where
    each : (before past : List Entry) (i : ℕ) (a : Ask) (slot : Slot) → slice_get slots i ≡ Some slot → Stands (owed_to o i) i a from.counts before past c slot
        → Stands (owed_to rest i) i a from.counts before past c slot
    each before past i a slot got h = elim (cases_eq i k) [
      | inl e ↦
          let is : was ≡ slot = same_Some _ _ (sym found ∙ subst (λ n. slice_get slots n ≡ Some slot) e got) in
          let at : owed_to o i ≡ m = subst (λ n. owed_to o n ≡ m) (sym e) here in
          let told : owed_to rest i ≡ to.nothing = subst (λ n. owed_to rest n ≡ to.nothing) (sym e) gone in
          subst (λ t. Stands t i a from.counts before past c slot) (sym told)
          (stands_told m i a from.counts before past c slot (subst (λ x. is_slot_running (Some x) ≡ false) is idle) known (subst (λ t. Stands t i a from.counts before past c slot) at h))
      | inr ne ↦ subst (λ t. Stands t i a from.counts before past c slot) (sym (same i ne)) h
    ]

module _ (asks : ℕ → Option Ask) (first : Option (List Entry)) (from : Outset) (slots : List Slot) (p : Option (List Entry)) (c : Counts) (k : ℕ) (was : Slot) (idle : is_slot_running (Some was) ≡ false)
    (found : slice_get slots k ≡ Some was) where
  pub slot_turned : (ms : ℕ) → AllStand asks first (owing (turn_clock ms k) from) slots p c → AllStand asks first (owing (turn_clock ms (suc k)) from) (set slots k was) p c
  slot_turned ms s =
      slot_told asks first from slots p c k was (turn_clock ms k) (turn_clock ms (suc k)) (to.clock ms) idle found (clock_own ms k) (λ e. absurd (cc)) (clock_told ms k) (λ i ne. clock_other ms k i ne)
      (λ past h. record { history = h.history; stands = h.stands; unread = h.unread; listens = λ i j got e. h.listens i j got refl; closed = h.closed }) s

  pub slot_reads : AllStand asks first (owing (first_clock k) from) slots p c → AllStand asks first (owing (first_clock (suc k)) from) (set slots k was) p c
  slot_reads s =
      slot_told asks first from slots p c k was (first_clock k) (first_clock (suc k)) to.first_clock idle found (first_own k) (λ e. absurd (cc)) (first_told k) (λ i ne. first_other k i ne)
      (λ past h. record { history = h.history; stands = h.stands; unread = h.unread; listens = λ i j got e. h.listens i j got refl; closed = h.closed }) s

  pub slot_got : (chan : Chan) (bytes : List ℕ) → AllStand asks first (owing (piece (conn_on k chan) bytes) from) slots p c → AllStand asks first (owing none from) (set slots k was) p c
  slot_got chan bytes s =
      slot_told asks first from slots p c k was (piece (conn_on k chan) bytes) none (to.piece chan bytes) idle found (piece_own (conn_on k chan) bytes k refl) (λ e. absurd (cc)) refl
      (λ i ne. sym (piece_other (conn_on k chan) bytes i (λ e. ne (sym e))))
      (λ past h. record { history = h.history; stands = h.stands; unread = h.unread; listens = λ i j got e. h.listens i j got refl; closed = h.closed }) s
