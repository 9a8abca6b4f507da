-- The clock when a request comes to stand among events, and at its first reply among them.
use Rattle.std.proofs.Common.{◌≡◌, ◌⊎◌, inl, inr, ℕ, suc, List, [], ◌∷◌, ◌++◌, length, drop, Bool, true, false, ◌||◌, Option, Some, None, refl, sym, ◌∙◌, ap}
use Rattle.std.specs.Prelude.{is_some}
use Rattle.std.proofs.lemmas.Bool.{or_parts, cond-true, cond-false, cases_Bool}
use Rattle.std.proofs.lemmas.Option.{same_Some, none-some}
use Rattle.cell_core.specs.declared.event.Event.{Event}
use Rattle.cell_core.specs.declared.event.Event.TheVariants as event
use Rattle.cell_core.specs.Task.{Task}
use Rattle.cell_core.specs.Deadlines.{reply_age}
use Rattle.cell_core.specs.Events as events
use Rattle.cell_core.specs.Requests as core
use Rattle.run_journal.specs.Agreement.{IsOther, moment, looked, lost, broken, told_on}
use Rattle.run_journal.proofs.Agreeing.{stands_at, after_more, not_now, none_more, stands_later}
use Rattle.run_journal.proofs.Hearing.{IsComing, io, replied, AreComing, after_on}
use Rattle.run_journal.proofs.Flowing.{AreOther}
use Rattle.run_journal.proofs.Telling.{came_append}
use Rattle.run_journal.proofs.Truths.{not_both}

-- ---- one event after another

-- the clock when a request came to stand stays
pub stood_on : (es later told : List Event) → events.time (drop (length (told_on es later)) (told_on es told)) ≡ events.time (drop (length later) told)
stood_on [] later told = refl
stood_on (e ∷ es) later told = stood_on es (e ∷ later) (e ∷ told)

pub reply_more : (e : Event) (later : List Event) → is_some (core.reply later) ≡ true → is_some (core.reply (e ∷ later)) ≡ true
reply_more (event.Reply f) later h = ap is_some (cond-true (is_some (core.reply later)) (core.reply later) (Some f) h) ∙ h
reply_more event.Saved later h = h
reply_more event.Ready later h = h
reply_more (event.Io b) later h = h
reply_more (event.Moment ms) later h = h
reply_more event.Looked later h = h
reply_more event.Lost later h = h
reply_more event.Broken later h = h

pub age_more : (e : Event) (later : List Event) → is_some (core.reply later) ≡ true → reply_age (e ∷ later) ≡ suc (reply_age later)
age_more (event.Reply f) later h = cond-true (is_some (core.reply later)) _ 1 h
age_more event.Saved later h = refl
age_more event.Ready later h = refl
age_more (event.Io b) later h = refl
age_more (event.Moment ms) later h = refl
age_more event.Looked later h = refl
age_more event.Lost later h = refl
age_more event.Broken later h = refl

-- so does that at the reply that has come
pub kept_on : (es later told : List Event) → is_some (core.reply later) ≡ true → events.time (drop (reply_age (told_on es later)) (told_on es told)) ≡ events.time (drop (reply_age later) told)
kept_on [] later told h = refl
kept_on (e ∷ es) later told h = kept_on es (e ∷ later) (e ∷ told) (reply_more e later h) ∙ ap (λ n. events.time (drop n (e ∷ told))) (age_more e later h)

-- ---- the clock at the first reply among events

abbrev pub is_reply : Event → Bool
is_reply (event.Reply f) = true
is_reply event.Saved = false
is_reply event.Ready = false
is_reply (event.Io b) = false
is_reply (event.Moment ms) = false
is_reply event.Looked = false
is_reply event.Lost = false
is_reply event.Broken = false

abbrev pub at_reply : ℕ → List Event → ℕ
at_reply t [] = t
at_reply t (event.Reply f ∷ es) = t
at_reply t (event.Moment ms ∷ es) = at_reply ms es
at_reply t (event.Saved ∷ es) = at_reply t es
at_reply t (event.Ready ∷ es) = at_reply t es
at_reply t (event.Io b ∷ es) = at_reply t es
at_reply t (event.Looked ∷ es) = at_reply t es
at_reply t (event.Lost ∷ es) = at_reply t es
at_reply t (event.Broken ∷ es) = at_reply t es

pub new_on : (es later told : List Event) → core.reply later ≡ None → is_some (core.reply (told_on es later)) ≡ true → events.time (drop (reply_age (told_on es later)) (told_on es told)) ≡ at_reply (events.time told) es
new_on [] later told n h = absurd (not_both (is_some (core.reply later)) h (ap is_some n))
new_on (event.Reply f ∷ es) later told n h =
    kept_on es (event.Reply f ∷ later) (event.Reply f ∷ told) (ap is_some (cond-false (is_some (core.reply later)) (core.reply later) (Some f) (ap is_some n)))
    ∙ ap (λ k. events.time (drop k (event.Reply f ∷ told))) (cond-false (is_some (core.reply later)) _ 1 (ap is_some n))
new_on (event.Moment ms ∷ es) later told n h = new_on es (event.Moment ms ∷ later) (event.Moment ms ∷ told) n h
new_on (event.Saved ∷ es) later told n h = new_on es (event.Saved ∷ later) (event.Saved ∷ told) n h
new_on (event.Ready ∷ es) later told n h = new_on es (event.Ready ∷ later) (event.Ready ∷ told) n h
new_on (event.Io b ∷ es) later told n h = new_on es (event.Io b ∷ later) (event.Io b ∷ told) n h
new_on (event.Looked ∷ es) later told n h = new_on es (event.Looked ∷ later) (event.Looked ∷ told) n h
new_on (event.Lost ∷ es) later told n h = new_on es (event.Lost ∷ later) (event.Lost ∷ told) n h
new_on (event.Broken ∷ es) later told n h = new_on es (event.Broken ∷ later) (event.Broken ∷ told) n h

pub reply_came : (es later : List Event) → core.reply later ≡ None → is_some (core.reply (told_on es later)) ≡ true → events.came is_reply es ≡ true
reply_came [] later n h = absurd (not_both (is_some (core.reply later)) h (ap is_some n))
reply_came (event.Reply f ∷ es) later n h = refl
reply_came (event.Moment ms ∷ es) later n h = reply_came es (event.Moment ms ∷ later) n h
reply_came (event.Saved ∷ es) later n h = reply_came es (event.Saved ∷ later) n h
reply_came (event.Ready ∷ es) later n h = reply_came es (event.Ready ∷ later) n h
reply_came (event.Io b ∷ es) later n h = reply_came es (event.Io b ∷ later) n h
reply_came (event.Looked ∷ es) later n h = reply_came es (event.Looked ∷ later) n h
reply_came (event.Lost ∷ es) later n h = reply_came es (event.Lost ∷ later) n h
reply_came (event.Broken ∷ es) later n h = reply_came es (event.Broken ∷ later) n h

pub reply_front : (t : ℕ) (xs zs : List Event) → events.came is_reply xs ≡ true → at_reply t (xs ++ zs) ≡ at_reply t xs
reply_front t [] zs h = cc
reply_front t (event.Reply f ∷ xs) zs h = refl
reply_front t (event.Moment ms ∷ xs) zs h = reply_front ms xs zs h
reply_front t (event.Saved ∷ xs) zs h = reply_front t xs zs h
reply_front t (event.Ready ∷ xs) zs h = reply_front t xs zs h
reply_front t (event.Io b ∷ xs) zs h = reply_front t xs zs h
reply_front t (event.Looked ∷ xs) zs h = reply_front t xs zs h
reply_front t (event.Lost ∷ xs) zs h = reply_front t xs zs h
reply_front t (event.Broken ∷ xs) zs h = reply_front t xs zs h

pub other_reply : {e : Event} → IsOther e → is_reply e ≡ false
other_reply (moment ms) = refl
other_reply looked = refl
other_reply lost = refl
other_reply broken = refl

pub reply_step : {e : Event} → IsOther e → (told xs : List Event) → at_reply (events.time told) (e ∷ xs) ≡ at_reply (events.time (e ∷ told)) xs
reply_step (moment ms) told xs = refl
reply_step looked told xs = refl
reply_step lost told xs = refl
reply_step broken told xs = refl

pub reply_behind : (es ws told : List Event) → AreOther es → at_reply (events.time told) (es ++ ws) ≡ at_reply (events.time (told_on es told)) ws
reply_behind [] ws told o = refl
reply_behind (e ∷ es) ws told o = reply_step o.0 told (es ++ ws) ∙ reply_behind es ws (e ∷ told) o.1

pub no_reply_in : (es : List Event) → AreOther es → events.came is_reply es ≡ false
no_reply_in [] o = refl
no_reply_in (e ∷ es) o = ap (λ b. b || events.came is_reply es) (other_reply o.0) ∙ no_reply_in es o.1

pub coming_step : {e : Event} → IsComing e → (t : ℕ) (xs : List Event) (rest : Bool) → (rest ≡ true → at_reply t xs ≡ t) → (is_reply e || rest) ≡ true → at_reply t (e ∷ xs) ≡ t
coming_step (io b) t xs rest f h = f h
coming_step (replied g) t xs rest f h = refl

pub reply_coming : (t : ℕ) (es ws : List Event) → AreComing es → events.came is_reply es ≡ true → at_reply t (es ++ ws) ≡ t
reply_coming t [] ws c h = cc
reply_coming t (e ∷ es) ws c h = coming_step c.0 t (es ++ ws) (events.came is_reply es) (reply_coming t es ws c.1) h

-- ---- the clock at the first acknowledgement or readiness

abbrev pub is_mark : Event → Bool
is_mark e = events.is_saved e || events.is_ready e

abbrev pub at_mark : ℕ → List Event → ℕ
at_mark t [] = t
at_mark t (event.Saved ∷ es) = t
at_mark t (event.Ready ∷ es) = t
at_mark t (event.Moment ms ∷ es) = at_mark ms es
at_mark t (event.Reply f ∷ es) = at_mark t es
at_mark t (event.Io b ∷ es) = at_mark t es
at_mark t (event.Looked ∷ es) = at_mark t es
at_mark t (event.Lost ∷ es) = at_mark t es
at_mark t (event.Broken ∷ es) = at_mark t es

-- at most one of these
abbrev pub AreFew : List Event → Type 0
AreFew [] = Unit {0}
AreFew (e ∷ es) = (is_mark e ≡ true → events.came is_mark es ≡ false) × AreFew es

pub marked_time : (e : Event) (told es : List Event) → is_mark e ≡ true → events.time (e ∷ told) ≡ at_mark (events.time told) (e ∷ es)
marked_time event.Saved told es h = refl
marked_time event.Ready told es h = refl
marked_time (event.Moment ms) told es h = cc
marked_time (event.Reply f) told es h = cc
marked_time (event.Io b) told es h = cc
marked_time event.Looked told es h = cc
marked_time event.Lost told es h = cc
marked_time event.Broken told es h = cc

pub unmarked_time : (e : Event) (told es : List Event) → is_mark e ≡ false → at_mark (events.time (e ∷ told)) es ≡ at_mark (events.time told) (e ∷ es)
unmarked_time event.Saved told es h = cc
unmarked_time event.Ready told es h = cc
unmarked_time (event.Moment ms) told es h = refl
unmarked_time (event.Reply f) told es h = refl
unmarked_time (event.Io b) told es h = refl
unmarked_time event.Looked told es h = refl
unmarked_time event.Lost told es h = refl
unmarked_time event.Broken told es h = refl

-- without any of these a request doesn't come to stand
pub none_now : (task : Task) (k : ℕ) (e : Event) (told : List Event) → is_mark e ≡ false → core.after task k told ≡ None → stands_at task k (e ∷ told) ≡ false
none_now task k e told m n = let p = or_parts (events.is_saved e) (events.is_ready e) m in stands_later task k e told p.0 p.1 (not_now task k told n)

pub none_through : (task : Task) (k : ℕ) (es told : List Event) → events.came is_mark es ≡ false → core.after task k told ≡ None → core.after task k (told_on es told) ≡ None
none_through task k [] told m n = n
none_through task k (e ∷ es) told m n =
    let p = or_parts (is_mark e) (events.came is_mark es) m in
    none_through task k es (e ∷ told) p.1 (after_more task k e told ∙ none_more (stands_at task k) e told (core.after task k told) n (none_now task k e told p.0 n))

pub some_once : (test : List Event → Bool) (e : Event) (told : List Event) (o : Option (List Event)) → o ≡ None → test (e ∷ told) ≡ true → events.since_more test e told o ≡ Some []
some_once test e told None n h = cond-true (test (e ∷ told)) (Some []) None h
some_once test e told (Some later) n h = cc

-- a request that comes to stand among these has the clock at that event
pub mark_time : (task : Task) (k : ℕ) (es told later : List Event) → AreFew es → core.after task k told ≡ None → core.after task k (told_on es told) ≡ Some later
    → events.time (drop (length later) (told_on es told)) ≡ at_mark (events.time told) es
mark_time task k [] told later f n s = absurd (none-some later (sym n ∙ s))
mark_time task k (e ∷ es) told later f n s = by (cases_Bool (stands_at task k (e ∷ told))) (cases_Bool (is_mark e)) (mark_time task k es (e ∷ told) later f.1)
  where
    stood : stands_at task k (e ∷ told) ≡ true → events.time (drop (length later) (told_on es (e ∷ told))) ≡ events.time (e ∷ told)
    stood h =
        let now : core.after task k (e ∷ told) ≡ Some [] = after_more task k e told ∙ some_once (stands_at task k) e told (core.after task k told) n h in
        ap (λ xs. events.time (drop (length xs) (told_on es (e ∷ told)))) (same_Some _ _ (sym s ∙ after_on task k es (e ∷ told) [] now)) ∙ stood_on es [] (e ∷ told)

    by : (stands_at task k (e ∷ told) ≡ true) ⊎ (stands_at task k (e ∷ told) ≡ false) → (is_mark e ≡ true) ⊎ (is_mark e ≡ false)
        → (core.after task k (e ∷ told) ≡ None → core.after task k (told_on es (e ∷ told)) ≡ Some later → events.time (drop (length later) (told_on es (e ∷ told))) ≡ at_mark (events.time (e ∷ told)) es)
        → events.time (drop (length later) (told_on es (e ∷ told))) ≡ at_mark (events.time told) (e ∷ es)
    by (inl h) (inl m) rec = stood h ∙ marked_time e told es m
    by (inl h) (inr m) rec = absurd (not_both (stands_at task k (e ∷ told)) h (none_now task k e told m n))
    by (inr h) (inl m) rec =
        absurd (none-some later (sym (none_through task k es (e ∷ told) (f.0 m) (after_more task k e told ∙ none_more (stands_at task k) e told (core.after task k told) n h)) ∙ s))
    by (inr h) (inr m) rec =
        rec (after_more task k e told ∙ none_more (stands_at task k) e told (core.after task k told) n h) s ∙ unmarked_time e told es m

pub mark_front : (t : ℕ) (xs zs : List Event) → events.came is_mark xs ≡ true → at_mark t (xs ++ zs) ≡ at_mark t xs
mark_front t [] zs h = cc
mark_front t (event.Saved ∷ xs) zs h = refl
mark_front t (event.Ready ∷ xs) zs h = refl
mark_front t (event.Moment ms ∷ xs) zs h = mark_front ms xs zs h
mark_front t (event.Reply f ∷ xs) zs h = mark_front t xs zs h
mark_front t (event.Io b ∷ xs) zs h = mark_front t xs zs h
mark_front t (event.Looked ∷ xs) zs h = mark_front t xs zs h
mark_front t (event.Lost ∷ xs) zs h = mark_front t xs zs h
mark_front t (event.Broken ∷ xs) zs h = mark_front t xs zs h

pub other_mark : {e : Event} → IsOther e → is_mark e ≡ false
other_mark (moment ms) = refl
other_mark looked = refl
other_mark lost = refl
other_mark broken = refl

pub mark_step : {e : Event} → IsOther e → (told xs : List Event) → at_mark (events.time told) (e ∷ xs) ≡ at_mark (events.time (e ∷ told)) xs
mark_step (moment ms) told xs = refl
mark_step looked told xs = refl
mark_step lost told xs = refl
mark_step broken told xs = refl

pub mark_behind : (es ws told : List Event) → AreOther es → at_mark (events.time told) (es ++ ws) ≡ at_mark (events.time (told_on es told)) ws
mark_behind [] ws told o = refl
mark_behind (e ∷ es) ws told o = mark_step o.0 told (es ++ ws) ∙ mark_behind es ws (e ∷ told) o.1

pub no_mark_in : (es : List Event) → AreOther es → events.came is_mark es ≡ false
no_mark_in [] o = refl
no_mark_in (e ∷ es) o = ap (λ b. b || events.came is_mark es) (other_mark o.0) ∙ no_mark_in es o.1

pub few_none : (es : List Event) → events.came is_mark es ≡ false → AreFew es
few_none [] h = tt
few_none (e ∷ es) h = let p = or_parts (is_mark e) (events.came is_mark es) h in ((λ m. p.1), few_none es p.1)

pub few_behind : (es ws : List Event) → AreOther es → AreFew ws → AreFew (es ++ ws)
few_behind [] ws o f = f
few_behind (e ∷ es) ws o f = ((λ m. absurd (not_both (is_mark e) m (other_mark o.0))), few_behind es ws o.1 f)

pub front_none : (xs zs : List Event) → events.came is_mark (xs ++ zs) ≡ false → events.came is_mark xs ≡ false
front_none xs zs h = (or_parts (events.came is_mark xs) (events.came is_mark zs) (sym (came_append is_mark xs zs) ∙ h)).0

pub few_front : (xs zs : List Event) → AreFew (xs ++ zs) → AreFew xs
few_front [] zs f = tt
few_front (e ∷ xs) zs f = ((λ m. front_none xs zs (f.0 m)), few_front xs zs f.1)
