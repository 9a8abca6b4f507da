-- Lists of jobs, one after another.
use Rattle.std.proofs.Common.{◌≡◌, ◌≢◌, ◌⊎◌, inl, inr, ℕ, ◌+◌, ◌<◌, ◌≤◌, ◌++◌, List, [], ◌∷◌, length, set, Some, true, false, Result, Ok, arith, refl, sym, ◌∙◌, ap, subst, suc, zero, Option, None, Err}
use Rattle.std.specs.Prelude.{slice_get, IfOk, IfSome}
use Rattle.std.proofs.lemmas.Bool.{cases_eq, cases_lt, false≢true}
use Rattle.std.proofs.lemmas.List.{length-set}
use Rattle.std.proofs.lemmas.Option.{slice_get_past, slice_get_within, same_Some}
use Rattle.job_end.specs.declared.answer.Answer.{Answer}
use Rattle.world.specs.declared.chan.Chan.{Chan}
use Rattle.job_run.specs.declared.job.Job.{Job}
use Rattle.job_run.specs.Queues.{NotesTaken}
use Rattle.batch_run.specs.declared.slot.Slot.{Slot}
use Rattle.batch_run.specs.declared.slot.Slot.TheVariants.{Waiting, Running, Ended}
use Rattle.batch_run.specs.Stands.{WaitingFrom, EndedBelow, AllEnded, HasEnded, AreAnswers, ChangesAt, EndsSaying, KeepsOthers, NoneOver, NoneOverBelow, SameOver, SlotNotes, answer_of, answers_from, answers_of, is_slot_running}
use Rattle.world.specs.declared.entry.Entry.{Entry}
use Rattle.world.specs.Moments.{Told}
use Rattle.said_lines.specs.Speech.{Says}
use Rattle.batch_run.specs.Due.{is_slot_over}
use Rattle.jtext.proofs.Lists.{some_at, slice_get-set_same, slice_get-set_other}

-- one at a number is one there, or the new one at the end
push_at : (xs : List Slot) (x : Slot) (i : ℕ) (slot : Slot) → slice_get (xs ++ x ∷ []) i ≡ Some slot → (slice_get xs i ≡ Some slot) ⊎ ((i ≡ length xs) × (x ≡ slot))
push_at [] x zero slot e = inr (refl, same_Some _ _ e)
push_at [] x (suc i) slot e = absurd (cc)
push_at (y ∷ xs) x zero slot e = inl e
push_at (y ∷ xs) x (suc i) slot e = elim (push_at xs x i slot e) [ inl h ↦ inl h | inr h ↦ inr (ap suc h.0, h.1) ]

pub waiting_none : (n : ℕ) → WaitingFrom n []
waiting_none n = record { each = λ i slot low e. absurd (cc) }

pub waiting_push : {n : ℕ} {xs : List Slot} (x : Slot) → (n ≤ length xs → x ≡ Waiting) → WaitingFrom n xs → WaitingFrom n (xs ++ x ∷ [])
waiting_push {n} {xs} x is w = record {
  each = λ i slot low e. elim (push_at xs x i slot e) [ inl h ↦ w.each i slot low h | inr h ↦ sym h.1 ∙ is (subst (λ k. n ≤ k) h.0 low) ];
}

pub ended_push : {n : ℕ} {xs : List Slot} (x : Slot) → (length xs < n → HasEnded x) → EndedBelow n xs → EndedBelow n (xs ++ x ∷ [])
ended_push {n} {xs} x is b = record {
  each = λ i slot low e. elim (push_at xs x i slot e) [ inl h ↦ b.each i slot low h | inr h ↦ subst HasEnded h.1 (is (subst (λ k. k < n) h.0 low)) ];
}

pub below_none : (n : ℕ) → EndedBelow n []
below_none n = record { each = λ i slot low e. absurd (cc) }

pub waiting_set : {n : ℕ} {xs : List Slot} (x : Slot) → WaitingFrom n xs → WaitingFrom (n + 1) (set xs n x)
waiting_set {n} {xs} x w = record {
  each = λ i slot low e.
      let ne : i ≢ n = λ e. omega (arith, e, low) in
      w.each i slot (omega (arith, low)) (sym (slice_get-set_other xs n i x ne) ∙ e);
}

-- the one at this number
pub waiting_at : {n : ℕ} {xs : List Slot} → WaitingFrom n xs → n < length xs → slice_get xs n ≡ Some Waiting
waiting_at {n} {xs} w low = let here = some_at xs n low in here.1 ∙ ap Some (w.each n here.0 (omega arith) here.1)

pub ended_none : AllEnded []
ended_none = record { each = λ i slot e. absurd (cc) }

-- one more
pub ended_more : {n : ℕ} {xs : List Slot} {x : Slot} → slice_get xs n ≡ Some x → HasEnded x → EndedBelow n xs → EndedBelow (n + 1) xs
ended_more {n} {xs} {x} at here b = record {
  each = λ i slot low e. elim (cases_eq i n) [
    | inl same ↦ subst HasEnded (same_Some _ _ (sym at ∙ subst (λ j. slice_get xs j ≡ Some slot) same e)) here
    | inr ne ↦ b.each i slot (omega (arith, low, ne)) e
  ];
}

pub ended_past : {n : ℕ} {xs : List Slot} → length xs ≤ n → EndedBelow n xs → EndedBelow (n + 1) xs
ended_past {n} {xs} past b = record {
  each = λ i slot low e. b.each i slot (let within = slice_get_within xs i slot e in omega (arith, within, past)) e;
}

pub ended_start : (xs : List Slot) → EndedBelow 0 xs
ended_start xs = record { each = λ i slot low e. absurd (omega (arith, low)) }

pub ended_all : {n : ℕ} {xs : List Slot} → length xs ≤ n → EndedBelow n xs → AllEnded xs
ended_all {n} {xs} past b = record {
  each = λ i slot e. b.each i slot (let within = slice_get_within xs i slot e in omega (arith, within, past)) e;
}

-- ---- answers

pub answers_push : (xs : List Slot) (x : Slot) → answers_of (xs ++ x ∷ []) ≡ answers_of xs ++ answers_of (x ∷ [])
answers_push [] x = refl
answers_push (Waiting ∷ xs) x = answers_push xs x
answers_push (Running j ∷ xs) x = answers_push xs x
answers_push (Ended answer ∷ xs) x = ap (λ ys. answer ∷ ys) (answers_push xs x)

-- a job before this number has no answer here
answers_before : (n : ℕ) (xs : List Slot) (x : Slot) → length xs < n → answers_from n (xs ++ x ∷ []) ≡ answers_from n xs
answers_before zero xs x low = absurd (omega (arith, low))
answers_before (suc n) [] x low = none_from n
  where
    none_from : (n : ℕ) → answers_from n [] ≡ []
    none_from zero = refl
    none_from (suc n) = refl
answers_before (suc n) (y ∷ xs) x low = answers_before n xs x (omega (arith, low))

answers_behind : (n : ℕ) (xs : List Slot) (x : Slot) → n ≤ length xs → answers_from n (xs ++ x ∷ []) ≡ answers_from n xs ++ answers_of (x ∷ [])
answers_behind zero xs x low = answers_push xs x
answers_behind (suc n) [] x low = absurd (omega (arith, low))
answers_behind (suc n) (y ∷ xs) x low = answers_behind n xs x (omega (arith, low))

pub answers_after : (n : ℕ) (xs : List Slot) (x : Slot) (was now : List Answer) → n ≤ length xs → was ≡ answers_from n xs → now ≡ was ++ answers_of (x ∷ []) → now ≡ answers_from n (xs ++ x ∷ [])
answers_after n xs x was now low e f = f ∙ ap (λ ys. ys ++ answers_of (x ∷ [])) e ∙ sym (answers_behind n xs x low)

pub answers_still : (n : ℕ) (xs : List Slot) (x : Slot) (was now : List Answer) → length xs < n → was ≡ answers_from n xs → now ≡ was → now ≡ answers_from n (xs ++ x ∷ [])
answers_still n xs x was now low e f = f ∙ e ∙ sym (answers_before n xs x low)

pub answers_none : (n : ℕ) → [] ≡ answers_from n []
answers_none zero = refl
answers_none (suc n) = refl

none_more : (xs : List Answer) → xs ≡ xs ++ []
none_more [] = refl
none_more (x ∷ xs) = ap (λ ys. x ∷ ys) (none_more xs)

-- a job that waits or runs has no answer
pub waiting_none_more : (xs : List Answer) (s : Slot) → s ≡ Waiting → xs ≡ xs ++ answers_of (s ∷ [])
waiting_none_more xs s is = none_more xs ∙ ap (λ (q : Slot). xs ++ answers_of (q ∷ [])) (sym is)

pub running_none_more : (xs : List Answer) (s : Slot) (j : Job) → s ≡ Running j → xs ≡ xs ++ answers_of (s ∷ [])
running_none_more xs s j is = none_more xs ∙ ap (λ (q : Slot). xs ++ answers_of (q ∷ [])) (sym is)

pub ended_one_more : (xs ys : List Answer) (s : Slot) (a : Answer) → s ≡ Ended a → ys ≡ xs ++ a ∷ [] → ys ≡ xs ++ answers_of (s ∷ [])
ended_one_more xs ys s a is more = more ∙ ap (λ (q : Slot). xs ++ answers_of (q ∷ [])) (sym is)

size_of : (xs : List Slot) → ((i : ℕ) (slot : Slot) → slice_get xs i ≡ Some slot → HasEnded slot) → length (answers_of xs) ≡ length xs
size_of [] all = refl
size_of (Waiting ∷ xs) all = absurd (all zero Waiting refl)
size_of (Running j ∷ xs) all = absurd (all zero (Running j) refl)
size_of (Ended answer ∷ xs) all = ap suc (size_of xs (λ i s e. all (suc i) s e))

each_of : (xs : List Slot) → ((i : ℕ) (slot : Slot) → slice_get xs i ≡ Some slot → HasEnded slot)
    → (i : ℕ) → slice_get (answers_of xs) i ≡ answer_of (slice_get xs i)
each_of [] all i = refl
each_of (Waiting ∷ xs) all i = absurd (all zero Waiting refl)
each_of (Running j ∷ xs) all i = absurd (all zero (Running j) refl)
each_of (Ended answer ∷ xs) all zero = refl
each_of (Ended answer ∷ xs) all (suc i) = each_of xs (λ j s e. all (suc j) s e) i

size_from : (n : ℕ) (xs : List Slot) → n ≤ length xs → ((i : ℕ) (slot : Slot) → slice_get xs i ≡ Some slot → HasEnded slot) → length xs ≡ n + length (answers_from n xs)
size_from zero xs low all = let h = size_of xs all in omega (arith, h)
size_from (suc n) [] low all = absurd (omega (arith, low))
size_from (suc n) (x ∷ xs) low all = let h = size_from n xs (omega (arith, low)) (λ i s e. all (suc i) s e) in omega (arith, h)

each_from : (n : ℕ) (xs : List Slot) → ((i : ℕ) (slot : Slot) → slice_get xs i ≡ Some slot → HasEnded slot)
    → (i : ℕ) → slice_get (answers_from n xs) i ≡ answer_of (slice_get xs (n + i))
each_from zero xs all i = let same : i ≡ 0 + i = omega arith in each_of xs all i ∙ ap (λ k. answer_of (slice_get xs k)) same
each_from (suc n) [] all i = refl
each_from (suc n) (x ∷ xs) all i =
    let same : suc (n + i) ≡ suc n + i = omega arith in
    each_from n xs (λ j s e. all (suc j) s e) i ∙ ap (λ k. answer_of (slice_get (x ∷ xs) k)) same

pub are_answers : {n : ℕ} {xs : List Slot} → n ≤ length xs → AllEnded xs → AreAnswers n xs (answers_from n xs)
are_answers {n} {xs} low a = record { size = size_from n xs low a.each; each = λ i. each_from n xs a.each i }

-- ---- jobs that are over

over_ended : (s : Slot) → HasEnded s → is_slot_over (Some s) ≡ false
over_ended Waiting e = absurd e
over_ended (Running j) e = absurd e
over_ended (Ended answer) e = refl

pub over_set : (xs : List Slot) (n : ℕ) (s : Slot) → n < length xs → HasEnded s → is_slot_over (slice_get (set xs n s) n) ≡ false
over_set xs n s low e = ap is_slot_over (slice_get-set_same xs n s low) ∙ over_ended s e

pub over_past : (xs : List Slot) (n : ℕ) → length xs ≤ n → is_slot_over (slice_get xs n) ≡ false
over_past xs n past = ap is_slot_over (slice_get_past xs n past)

running_over : (o : Option Slot) → is_slot_over o ≡ true → is_slot_running o ≡ true
running_over (Some (Running j)) e = refl
running_over (Some Waiting) e = absurd (false≢true e)
running_over (Some (Ended answer)) e = absurd (false≢true e)
running_over None e = absurd (false≢true e)

pub runs_over : (xs : List Slot) (n : ℕ) → is_slot_over (slice_get xs n) ≡ true → is_slot_running (slice_get xs n) ≡ true
runs_over xs n e = running_over (slice_get xs n) e

-- one that runs is there
pub over_within : (xs : List Slot) (n : ℕ) → is_slot_over (slice_get xs n) ≡ true → n < length xs
over_within xs n e = elim (cases_lt n (length xs)) [ inl low ↦ low | inr past ↦ absurd (false≢true (sym (over_past xs n past) ∙ e)) ]

pub running_within : (xs : List Slot) (n : ℕ) → is_slot_running (slice_get xs n) ≡ true → n < length xs
running_within xs n e = elim (cases_lt n (length xs)) [ inl low ↦ low | inr past ↦ absurd (false≢true (sym (ap is_slot_running (slice_get_past xs n past)) ∙ e)) ]

pub none_below : (xs : List Slot) → NoneOverBelow 0 xs
none_below xs = record { each = λ i low. absurd (omega (arith, low)) }

-- one more
pub over_more : {n : ℕ} {xs ys : List Slot} → KeepsOthers n xs ys → is_slot_over (slice_get ys n) ≡ false → NoneOverBelow n xs → NoneOverBelow (n + 1) ys
over_more {n} {xs} {ys} others here b = record {
  each = λ i low. elim (cases_eq i n) [
    | inl e ↦ subst (λ j. is_slot_over (slice_get ys j) ≡ false) (sym e) here
    | inr ne ↦ ap is_slot_over (others i ne) ∙ b.each i (omega (arith, low, ne))
  ];
}

pub none_all : {n : ℕ} {xs : List Slot} → length xs ≤ n → NoneOverBelow n xs → NoneOver xs
none_all {n} {xs} few b = record { each = λ i. elim (cases_lt i n) [ inl low ↦ b.each i low | inr past ↦ over_past xs i (omega (arith, few, past)) ] }

-- one is over no more
pub none_one : {n : ℕ} {xs ys : List Slot} → KeepsOthers n xs ys → is_slot_over (slice_get ys n) ≡ false → NoneOver xs → NoneOver ys
none_one {n} {xs} {ys} others here none = record {
  each = λ i. elim (cases_eq i n) [
    | inl e ↦ subst (λ j. is_slot_over (slice_get ys j) ≡ false) (sym e) here
    | inr ne ↦ ap is_slot_over (others i ne) ∙ none.each i
  ];
}

pub none_ended : {xs : List Slot} → AllEnded xs → NoneOver xs
none_ended {xs} all = record { each = λ i. at (slice_get xs i) i refl }
  where
    at : (o : Option Slot) (i : ℕ) → slice_get xs i ≡ o → is_slot_over (slice_get xs i) ≡ false
    at None i e = ap is_slot_over e
    at (Some s) i e = ap is_slot_over e ∙ over_ended s (all.each i s e)

-- ---- jobs that end no more than they had

pub over_start : (xs : List Slot) → SameOver xs xs
over_start xs = record { each = λ i. refl }

pub over_then : {xs ys zs : List Slot} → SameOver xs ys → SameOver ys zs → SameOver xs zs
over_then f g = record { each = λ i. g.each i ∙ f.each i }

pub none_same : {xs ys : List Slot} → SameOver xs ys → NoneOver xs → NoneOver ys
none_same f none = record { each = λ i. f.each i ∙ none.each i }

-- ---- jobs of which one changes

pub changes_start : (n : ℕ) (xs : List Slot) → ChangesAt n xs xs
changes_start n xs = record { size = refl; others = λ k ne. refl; runs = refl }

pub changes_then : {n : ℕ} {xs ys zs : List Slot} → ChangesAt n xs ys → ChangesAt n ys zs → ChangesAt n xs zs
changes_then f g = record { size = g.size ∙ f.size; others = λ k ne. g.others k ne ∙ f.others k ne; runs = g.runs ∙ f.runs }

pub changes_set : (xs : List Slot) (n : ℕ) (was now : Slot) → slice_get xs n ≡ Some was → is_slot_running (Some now) ≡ is_slot_running (Some was) → ChangesAt n xs (set xs n now)
changes_set xs n was now found same = record {
  size = length-set xs n now;
  others = λ k ne. slice_get-set_other xs n k now ne;
  runs = ap is_slot_running (slice_get-set_same xs n now (slice_get_within xs n was found)) ∙ same ∙ sym (ap is_slot_running found);
}

pub ended_others : {n : ℕ} {xs ys : List Slot} → KeepsOthers n xs ys → EndedBelow n xs → EndedBelow n ys
ended_others {n} others b = record {
  each = λ i slot low e. let ne : i ≢ n = λ same. omega (arith, same, low) in b.each i slot low (sym (others i ne) ∙ e);
}

pub waiting_others : {n : ℕ} {xs ys : List Slot} → KeepsOthers n xs ys → WaitingFrom (n + 1) xs → WaitingFrom (n + 1) ys
waiting_others {n} others w = record {
  each = λ i slot low e. let ne : i ≢ n = λ same. omega (arith, same, low) in w.each i slot low (sym (others i ne) ∙ e);
}

-- what holds of a slot once it was replaced
pub at_set : (P : Option Slot → Type 0) (xs : List Slot) (n : ℕ) (s : Slot) → n < length xs → P (Some s) → P (slice_get (set xs n s) n)
at_set P xs n s low p = subst P (sym (slice_get-set_same xs n s low)) p

-- ---- what was said

pub told_saying : {line : List ℕ} {F : Type 0} (p q : Option (List Entry)) → Told p q (Says line F) → IfSome q (EndsSaying line F)
told_saying p None told = tt
told_saying None (Some y) told = absurd told.so
told_saying (Some x) (Some y) told = record { begin = x; says = told.so }

-- where nothing is wanted
pub none_wanted : {A E : Type 0} (r : Result (Option A) E) (P : A → Type 0) → IfOk r (λ o. o ≡ None) → IfOk r (λ o. IfSome o P)
none_wanted (Ok o) P none = subst (λ x. IfSome x P) (sym none) tt
none_wanted (Err e) P none = tt

-- one slot changes, of which the job is over where it was
pub over_set_same : (xs : List Slot) (n : ℕ) (was now : Slot) → slice_get xs n ≡ Some was → is_slot_over (Some now) ≡ is_slot_over (Some was) → SameOver xs (set xs n now)
over_set_same xs n was now found same = record {
  each = λ i. elim (cases_eq i n) [
    | inl e ↦
        subst (λ m. is_slot_over (slice_get (set xs n now) m) ≡ is_slot_over (slice_get xs m)) (sym e)
        (ap is_slot_over (slice_get-set_same xs n now (slice_get_within xs n was found)) ∙ same ∙ sym (ap is_slot_over found))
    | inr ne ↦ ap is_slot_over (slice_get-set_other xs n i now ne)
  ];
}

-- none runs in a slot once it was replaced, or where there is none
pub ended_gone : (s : Slot) → HasEnded s → is_slot_running (Some s) ≡ false
ended_gone Waiting e = absurd e
ended_gone (Running j) e = absurd e
ended_gone (Ended answer) e = refl

-- one that hasn't begun, or has ended
pub idle_of : (s : Slot) → (s ≡ Waiting) ⊎ ((a : Answer) × (s ≡ Ended a)) → is_slot_running (Some s) ≡ false
idle_of s (inl e) = ap (λ x. is_slot_running (Some x)) e
idle_of s (inr e) = ap (λ x. is_slot_running (Some x)) e.1

pub gone_set : (xs : List Slot) (n : ℕ) (s : Slot) → n < length xs → HasEnded s → is_slot_running (slice_get (set xs n s) n) ≡ false
gone_set xs n s low e = ap is_slot_running (slice_get-set_same xs n s low) ∙ ended_gone s e

pub gone_past : (xs : List Slot) (n : ℕ) → length xs ≤ n → is_slot_running (slice_get xs n) ≡ false
gone_past xs n past = ap is_slot_running (slice_get_past xs n past)

-- ---- octets that were taken

pub notes_set : (chan : Chan) (count : ℕ) (xs : List Slot) (n : ℕ) (was now : Slot) → slice_get xs n ≡ Some was → SlotNotes chan count (Some was) (Some now)
    → SlotNotes chan count (slice_get xs n) (slice_get (set xs n now) n)
notes_set chan count xs n was now found notes =
    subst (λ o. SlotNotes chan count o (slice_get (set xs n now) n)) (sym found)
    (subst (λ o. SlotNotes chan count (Some was) o) (sym (slice_get-set_same xs n now (slice_get_within xs n was found))) notes)

pub notes_past : (chan : Chan) (count : ℕ) (xs : List Slot) (n : ℕ) → length xs ≤ n → SlotNotes chan count (slice_get xs n) (slice_get xs n)
notes_past chan count xs n past = λ j e. absurd (false≢true (sym (gone_past xs n past) ∙ ap is_slot_running e))

abbrev running_or : Job → Slot → Job
running_or other (Running j) = j
running_or other Waiting = other
running_or other (Ended answer) = other

pub notes_one : (chan : Chan) (count : ℕ) (was : Slot) (j k : Job) → was ≡ Running j → NotesTaken chan count j k → SlotNotes chan count (Some was) (Some (Running k))
notes_one chan count was j k is notes = λ next e. record {
  job = j;
  ran = ap Some is;
  notes = subst (λ x. NotesTaken chan count j x) (ap (running_or k) (same_Some _ _ e)) notes;
}

pub notes_none : (chan : Chan) (count : ℕ) {slot : Slot} → is_slot_running (Some slot) ≡ false → SlotNotes chan count (Some slot) (Some slot)
notes_none chan count idle = λ j e. absurd (false≢true (sym idle ∙ ap is_slot_running e))
