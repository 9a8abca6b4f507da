-- What is still to be told to the jobs of a run, as it is told to one after another.
use Rattle.std.proofs.Common.{◌≡◌, inl, inr, ◌<◌, ◌≤◌, ◌+◌, ◌++◌, min, ℕ, suc, true, false, List, [], length, drop, Option, Some, None, Result, Ok, Err, OnOk, refl, sym, ◌∙◌, ap, subst, arith}
use Rattle.std.specs.Prelude.{not, slice_get, take}
use Rattle.std.proofs.lemmas.List.{append-nil, drop_all, take_all, take_min}
use Rattle.std.proofs.lemmas.Bool.{cases_eq, false≢true}
use Rattle.std.proofs.lemmas.Option.{slice_get_within}
use Rattle.std.proofs.lemmas.Result.{err_from_is_err_and}
use Rattle.std.specs.Result.{IsErrAnd}
use Rattle.words.specs.declared.ask.Ask.{Ask}
use Rattle.world.specs.declared.conn.Conn.{Conn}
use Rattle.world.specs.declared.entry.Entry.{Entry}
use Rattle.world.specs.Counts.{Counts}
use Rattle.world.specs.Moments as moments
use Rattle.world.specs.declared.chan.Chan.{Chan}
use Rattle.world.specs.declared.chan.Chan.TheVariants.{Iopub}
use Rattle.world.specs.Places.{place_of}
use Rattle.ready_loop.specs.declared.link.Link.{Link}
use Rattle.ready_loop.specs.declared.next.Next.{Next}
use Rattle.ready_loop.specs.declared.readiness.Loop.{Loop}
use Rattle.ready_loop.specs.declared.stage.Stage.{Stage}
use Rattle.ready_loop.specs.declared.stage.Stage.TheVariants.{Fresh, Begun, Closed}
use Rattle.ready_loop.specs.History.{conn_on}
use Rattle.ready_loop.specs.Link.{is_begun, is_known}
use Rattle.ready_loop.specs.States.{begun_in, known_in}
use Rattle.ready_loop.specs.Standing.{StandsFor}
use Rattle.job_run.specs.declared.job.Job.{Job}
use Rattle.job_turns.specs.OwedTo.{OwedTo}
use Rattle.job_turns.specs.OwedTo as to
use Rattle.batch_run.specs.declared.slot.Slot.{Slot}
use Rattle.batch_run.specs.declared.slot.Slot.TheVariants.{Running}
use Rattle.batch_run.specs.Owed.{Owed, AreClosed, AreServed, Served, after, after_read, has_lines, owed_to}
use Rattle.batch_run.specs.Owed.{none, begins, first_clock, turn_clock, piece, unknown}
use Rattle.batch_run.specs.Stands.{Outset, AllStand, AreTaken, KeepsOthers, Stands, waits, spared, begun, is_slot_running, owing, served_by}
use Rattle.batch_run.specs.Telling.{AreTakenBelow, IsTakenOn}
use Rattle.batch_run.specs.Kept.{IsFreshFrom}
use Rattle.batch_run.specs.declared.lines.Lines.{Lines}
use Rattle.batch_run.proofs.FollowLemmas.{clock_other, clock_past, first_other, first_past, follows_anything, from_other, from_past, piece_other}

-- ---- all jobs

-- where each job and the loop stand so with something else still to be told, all stand
pub reowe : (asks : ℕ → Option Ask) (start : Option (List Entry)) (from : Outset) (o m : Owed) (slots : List Slot) (p : Option (List Entry)) (c : Counts)
    → (o ≡ unknown → m ≡ unknown)
    → ((before past : List Entry) (i : ℕ) (a : Ask) (slot : Slot) → slice_get slots i ≡ Some slot → Stands (owed_to o i) i a from.counts before past c slot
    → Stands (owed_to m i) i a from.counts before past c slot)
    → ((past : List Entry) → Served asks o from.loop slots past → Served asks m from.loop slots past)
    → AllStand asks start (owing o from) slots p c → AllStand asks start (owing m from) slots p c
reowe asks start from o m slots p c known each served s = record {
  size = s.size;
  asked = s.asked;
  grow = s.grow;
  waits = s.waits;
  waited = s.waited;
  told = s.told;
  calls = s.calls;
  spoken = s.spoken;
  idle = s.idle;
  apart = s.apart;
  tells = s.tells;
  wired = s.wired;
  few = s.few;
  plays = s.plays;
  ends = s.ends;
  counted = s.counted;
  each = λ before past st e i a slot at got apart rested. each before past i a slot got (s.each before past st e i a slot at got apart rested);
  served = λ before past st e shut. served past (s.served before past st e shut);
  said = λ is_known. s.said (λ u. is_known (known u));
}

-- ---- nothing is known any more

stands_anything : (o : OwedTo) (i : ℕ) (a : Ask) (from : Counts) (before past : List Entry) (c : Counts) (slot : Slot) → Stands o i a from before past c slot
    → Stands to.anything i a from before past c slot
stands_anything o i a from before past c slot (waits e h fresh) = waits e h (λ shut. tt)
stands_anything o i a from before past c slot (spared answer e u h) = spared answer e u h
stands_anything o i a from before past c slot (begun bytes n begin then acc h g ext task kernel runs follows) =
    begun bytes n begin then acc h g ext task kernel runs (λ shut. follows_anything o i a n slot slot before past past moments.start (follows shut))

pub forgets : (asks : ℕ → Option Ask) (start : Option (List Entry)) (from : Outset) (o : Owed) {slots : List Slot} {p : Option (List Entry)} {c : Counts}
    → AllStand asks start (owing o from) slots p c → AllStand asks start (owing unknown from) slots p c
forgets asks start from o {slots} {p} {c} s =
    reowe asks start from o unknown slots p c (λ u. refl) (λ before past i a slot got h. stands_anything (owed_to o i) i a from.counts before past c slot h) (λ past h. tt) s

-- so it is with the connections that there are
pub forgets_lines : (asks : ℕ → Option Ask) (start : Option (List Entry)) (from : Outset) (o : Owed) (l : Loop) {slots : List Slot} {p : Option (List Entry)} {c : Counts}
    → AllStand asks start (served_by o l from) slots p c → AllStand asks start (served_by unknown l from) slots p c
forgets_lines asks start from o l s = forgets asks start (served_by o l from) o s

-- a call had no memory, and so its caller had none
pub exits : {U E : Type 0} (Q : E → Type 0) (asks : ℕ → Option Ask) (start : Option (List Entry)) (from : Outset) (o : Owed) (l : Loop) {slots : List Slot} {p : Option (List Entry)} {c : Counts}
    (r : Result U E) → IsErrAnd r Q → AllStand asks start (served_by unknown l from) slots p c → AllStand asks start (served_by (after r o) l from) slots p c
exits {U} {E} Q asks start from o l {slots} {p} {c} r refused s =
    let same = err_from_is_err_and r refused in
    subst (λ (x : Result U E). AllStand asks start (served_by (after x o) l from) slots p c) (sym same.1) s

-- ---- one is told after another

-- what is owed to each job is the same
same_each : (o m : Owed) (slots : List Slot) → ((i : ℕ) → i < length slots → owed_to m i ≡ owed_to o i) → (from : Counts) (before past : List Entry) (c : Counts) (i : ℕ) (a : Ask) (slot : Slot)
    → slice_get slots i ≡ Some slot → Stands (owed_to o i) i a from before past c slot → Stands (owed_to m i) i a from before past c slot
same_each o m slots same from before past c i a slot got h =
    subst (λ (x : OwedTo). Stands x i a from before past c slot) (sym (same i (slice_get_within slots i slot got))) h

-- the loop serves the jobs, of which the connections were begun where they run
served_anew : (asks : ℕ → Option Ask) (o m : Owed) (l : Loop) (slots : List Slot) (past : List Entry)
    → ((i : ℕ) (j : Job) → slice_get slots i ≡ Some (Running j) → has_lines m i ≡ true → has_lines o i ≡ true) → AreServed asks o l slots past → AreServed asks m l slots past
served_anew asks o m l slots past has s = record {
  history = s.history;
  stands = s.stands;
  unread = s.unread;
  listens = λ i j got e. s.listens i j got (has i j got e);
  closed = s.closed;
}

module _ (asks : ℕ → Option Ask) (start : Option (List Entry)) (from : Outset) {slots : List Slot} {p : Option (List Entry)} {c : Counts} where
  -- the clock of a turn was told to all
  pub clock_done : (ms n : ℕ) → length slots ≤ n → AllStand asks start (owing (turn_clock ms n) from) slots p c → AllStand asks start (owing none from) slots p c
  clock_done ms n few s =
      reowe asks start from (turn_clock ms n) none slots p c (λ u. absurd (cc))
      (λ before past. same_each (turn_clock ms n) none slots (λ i low. sym (clock_past ms n i (omega (arith, low, few)))) from.counts before past c)
      (λ past. served_anew asks (turn_clock ms n) none from.loop slots past (λ i j got e. refl)) s

  -- and the first clock
  pub first_done : (n : ℕ) → length slots ≤ n → AllStand asks start (owing (first_clock n) from) slots p c → AllStand asks start (owing none from) slots p c
  first_done n few s =
      reowe asks start from (first_clock n) none slots p c (λ u. absurd (cc))
      (λ before past. same_each (first_clock n) none slots (λ i low. sym (first_past n i (omega (arith, low, few)))) from.counts before past c)
      (λ past. served_anew asks (first_clock n) none from.loop slots past (λ i j got e. refl)) s

  -- once all have begun, the first clock is to be told to each
  pub all_begun : (n : ℕ) → length slots ≤ n → AllStand asks start (owing (begins n) from) slots p c → AllStand asks start (owing (first_clock 0) from) slots p c
  all_begun n few s =
      reowe asks start from (begins n) (first_clock 0) slots p c (λ u. absurd (cc)) (λ before past i a slot got h. h)
      (λ past. served_anew asks (begins n) (first_clock 0) from.loop slots past
      (λ i j got e. let low = slice_get_within slots i (Running j) got in ap not (from_past n i (omega (arith, low, few))))) s

  -- a job that doesn't run after its begin wants no connections
  pub one_more_begun : (n : ℕ) → is_slot_running (slice_get slots n) ≡ false → AllStand asks start (owing (begins n) from) slots p c → AllStand asks start (owing (begins (suc n)) from) slots p c
  one_more_begun n gone s =
      reowe asks start from (begins n) (begins (suc n)) slots p c (λ u. absurd (cc)) (λ before past i a slot got h. h)
      (λ past. served_anew asks (begins n) (begins (suc n)) from.loop slots past (λ i j got e. elim (cases_eq i n) [
        | inl same ↦
            let runs : is_slot_running (slice_get slots n) ≡ true = ap is_slot_running (subst (λ m. slice_get slots m ≡ Some (Running j)) same got) in
            absurd (false≢true (sym gone ∙ runs))
        | inr ne ↦ ap not (sym (from_other n i ne)) ∙ e
      ])) s

  -- a job that isn't there is told as well as one that is
  pub reads_past : (n : ℕ) → length slots ≤ n → AllStand asks start (owing (first_clock n) from) slots p c → AllStand asks start (owing (first_clock (suc n)) from) slots p c
  reads_past n few s =
      reowe asks start from (first_clock n) (first_clock (suc n)) slots p c (λ u. absurd (cc))
      (λ before past. same_each (first_clock n) (first_clock (suc n)) slots (λ i low. first_other n i (λ e. omega (arith, low, few, e))) from.counts before past c)
      (λ past. served_anew asks (first_clock n) (first_clock (suc n)) from.loop slots past (λ i j got e. refl)) s

  pub clock_past_all : (ms n : ℕ) → length slots ≤ n → AllStand asks start (owing (turn_clock ms n) from) slots p c → AllStand asks start (owing (turn_clock ms (suc n)) from) slots p c
  clock_past_all ms n few s =
      reowe asks start from (turn_clock ms n) (turn_clock ms (suc n)) slots p c (λ u. absurd (cc))
      (λ before past. same_each (turn_clock ms n) (turn_clock ms (suc n)) slots (λ i low. clock_other ms n i (λ e. omega (arith, low, few, e))) from.counts before past c)
      (λ past. served_anew asks (turn_clock ms n) (turn_clock ms (suc n)) from.loop slots past (λ i j got e. refl)) s

  pub piece_past : (n : ℕ) (chan : Chan) (bytes : List ℕ) → length slots ≤ n → AllStand asks start (owing (piece (conn_on n chan) bytes) from) slots p c
      → AllStand asks start (owing none from) slots p c
  piece_past n chan bytes few s =
      reowe asks start from (piece (conn_on n chan) bytes) none slots p c (λ u. absurd (cc))
      (λ before past. same_each (piece (conn_on n chan) bytes) none slots (λ i low. sym (piece_other (conn_on n chan) bytes i (λ e. omega (arith, low, few, e)))) from.counts before past c)
      (λ past. served_anew asks (piece (conn_on n chan) bytes) none from.loop slots past (λ i j got e. refl)) s

  -- where a call may have had no memory
  pub owes_after : (o : Owed) {U E : Type 0} (r : Result U E) → AllStand asks start (owing o from) slots p c → AllStand asks start (owing (after r o) from) slots p c
  owes_after o (Ok u) s = s
  owes_after o (Err e) s = forgets asks start from o s

-- the next number
pub next_owed : (to_one : ℕ → Owed) (asks : ℕ → Option Ask) (start : Option (List Entry)) (from : Outset) {slots : List Slot} {p : Option (List Entry)} {c : Counts} (n : ℕ)
    → AllStand asks start (owing (to_one (suc n)) from) slots p c → AllStand asks start (owing (to_one (n + 1)) from) slots p c
next_owed to_one asks start from {slots} {p} {c} n s =
    let same : suc n ≡ n + 1 = omega arith in
    subst (λ (m : ℕ). AllStand asks start (owing (to_one m) from) slots p c) same s

-- after the connections of a job were begun, or it was lost
pub joined : {U E : Type 0} (asks : ℕ → Option Ask) (start : Option (List Entry)) (from : Outset) (l : Loop) {slots : List Slot} {p : Option (List Entry)} {c : Counts} (r : Result U E) (n : ℕ)
    → OnOk r (is_slot_running (slice_get slots n) ≡ false) → AllStand asks start (served_by (after r (begins n)) l from) slots p c
    → AllStand asks start (served_by (after r (begins (suc n))) l from) slots p c
joined asks start from l (Ok u) n gone s = one_more_begun asks start (served_by (begins n) l from) n gone s
joined asks start from l (Err e) n gone s = s

-- after a read that was answered so
pub read_as : (E : Type 0) (asks : ℕ → Option Ask) (start : Option (List Entry)) (from : Outset) (l : Loop) (buffer : List ℕ) {slots : List Slot} {p : Option (List Entry)} {c : Counts} (r x : Next) → r ≡ x
    → AllStand asks start (served_by (after_read {E = E} (Ok r) buffer) l from) slots p c → AllStand asks start (served_by (after_read {E = E} (Ok x) buffer) l from) slots p c
read_as E asks start from l buffer {slots} {p} {c} r x e s = subst (λ (y : Next). AllStand asks start (served_by (after_read {E = E} (Ok y) buffer) l from) slots p c) e s

-- the bytes of a piece are those of the buffer
pub piece_as : (asks : ℕ → Option Ask) (start : Option (List Entry)) (from : Outset) (l : Loop) (conn : Conn) (was now : List ℕ) {slots : List Slot} {p : Option (List Entry)} {c : Counts} → now ≡ was
    → AllStand asks start (served_by (piece conn was) l from) slots p c → AllStand asks start (served_by (piece (conn_on conn.job conn.chan) now) l from) slots p c
piece_as asks start from l conn was now {slots} {p} {c} same s = subst (λ (bytes : List ℕ). AllStand asks start (served_by (piece conn bytes) l from) slots p c) (sym same) s

pub piece_bytes : (n k size : ℕ) (view items : List ℕ) → view ≡ items → k ≡ min n size → size ≡ length items → take k view ≡ take n items
piece_bytes n k size view items same is all = ap (λ i. take i view) (is ∙ ap (min n) all) ∙ ap (take (min n (length items))) same ∙ take_min n items

-- of a buffer that was lent as a slice, what was written is there
pub written_back : (n room : ℕ) (now was : List ℕ) → length now ≡ length was → length was ≤ room → take n (take room (now ++ drop (length now) was)) ≡ take n now
written_back n room now was same fits =
    let rest : drop (length now) was ≡ [] = drop_all (length now) was (omega (arith, same)) in
    let whole : now ++ drop (length now) was ≡ now = ap (λ ys. now ++ ys) rest ∙ append-nil now in
    ap (take n) (ap (take room) whole ∙ take_all room now (omega (arith, same, fits)))

-- ---- connections that were never begun

stage_unbegun : (s : Stage) → is_known s ≡ false → is_begun s ≡ false
stage_unbegun Fresh e = refl
stage_unbegun Begun e = absurd (false≢true (sym e))
stage_unbegun Closed e = absurd (false≢true (sym e))

link_unbegun : (o : Option Link) → known_in o ≡ false → begun_in o ≡ false
link_unbegun None e = refl
link_unbegun (Some link) e = stage_unbegun link.stage e

pub fresh_closed : {job : ℕ} {l : Loop} → IsFreshFrom job l → AreClosed l job
fresh_closed {job} {l} f = λ chan. link_unbegun (slice_get l.links (place_of (conn_on job chan))) (f.each (place_of (conn_on job chan)) (omega arith))

-- ---- octets that were taken

pub taken_none : (l : Loop) (xs : List Slot) → AreTakenBelow 0 l xs
taken_none l xs = record { each = λ i low. absurd (omega (arith, low)) }

pub taken_more : {n : ℕ} {was now : Lines} {xs ys : List Slot} → now ≡ was → KeepsOthers n xs ys → IsTakenOn Iopub n now.connections ys → AreTakenBelow n was.connections xs
    → AreTakenBelow (n + 1) now.connections ys
taken_more {n} {was} {now} {xs} {ys} same others here below = record {
  each = λ i low. elim (cases_eq i n) [
    | inl e ↦ subst (λ m. IsTakenOn Iopub m now.connections ys) (sym e) here
    | inr ne ↦ λ j got h journal stands.
        below.each i (omega (arith, low, ne)) j (sym (others i ne) ∙ got) h journal (subst (λ (l : Lines). StandsFor l.connections h journal) same stands)
  ];
}

pub taken_all : {n : ℕ} {l : Loop} {xs : List Slot} → length xs ≤ n → AreTakenBelow n l xs → AreTaken l xs
taken_all {n} {l} {xs} few below = record {
  each = λ i j got h journal stands. below.each i (let low = slice_get_within xs i (Running j) got in omega (arith, low, few)) j got h journal stands;
}
