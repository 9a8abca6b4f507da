-- A wait comes only after all that was awake was read.
use Rattle.std.proofs.Common.{◌≡◌, ◌⊎◌, inl, inr, ◌<◌, ◌≤◌, ◌||◌, ℕ, zero, suc, Bool, true, false, if◌then◌else◌, List, [], ◌∷◌, arith, refl, sym, ◌∙◌, ap}
use Rattle.std.proofs.lemmas.Bool.{cases_eq, false≢true, cases_Bool}
use Rattle.world.specs.declared.connected.Connected.TheVariants as connected
use Rattle.world.specs.declared.entry.Entry.{Entry}
use Rattle.world.specs.declared.entry.Entry.TheVariants as made
use Rattle.world.specs.Places.{Status, status, status_after, time, is_at}
use Rattle.world.specs.Waits.{is_wait, to_wait}
use Rattle.ready_loop.specs.Between.{ends_reading, was_ended, ReadsAll}
use Rattle.ready_loop.specs.History.{History}
use Rattle.ready_loop.specs.Waits.{AllServed, IsServed, SomeAwake}

-- still awake, or read to its end, or failed
data Good (s : Status) (ended : Bool) : Type 0 where
  awake : s.awake ≡ true → Good s ended
  ended : ended ≡ true → Good s ended
  failed : s.failed ≡ true → Good s ended

ended_step : (b : Bool) (t s : Status) (d : Bool) → Good s d → Good (if b then t else s) (b || d)
ended_step true t s d g = ended refl
ended_step false t s d g = g

failed_step : (b : Bool) (t s : Status) (d : Bool) → t.failed ≡ true → Good s d → Good (if b then t else s) (false || d)
failed_step true t s d f g = failed f
failed_step false t s d f g = g

as_before : (t s : Status) (d : Bool) → t.awake ≡ s.awake → t.failed ≡ s.failed → Good s d → Good t d
as_before t s d a f (awake e) = awake (a ∙ e)
as_before t s d a f (ended e) = ended e
as_before t s d a f (failed e) = failed (f ∙ e)

same_step : (b : Bool) (t s : Status) (d : Bool) → t.awake ≡ s.awake → t.failed ≡ s.failed → Good s d
    → Good (if b then t else s) (false || d)
same_step true t s d a f g = as_before t s d a f g
same_step false t s d a f g = g

step : (p clock : ℕ) (entry : Entry) (s : Status) (d : Bool) → is_wait entry ≡ false → Good s d
    → Good (status_after p clock entry s) (ends_reading p entry || d)
step p clock (made.Connected conn port connected.Begun) s d w g = same_step (is_at p conn) _ s d refl refl g
step p clock (made.Connected conn port connected.Refused) s d w g = same_step (is_at p conn) _ s d refl refl g
step p clock (made.Connected conn port connected.Failed) s d w g = failed_step (is_at p conn) _ s d refl g
step p clock (made.Closed conn) s d w g = ended_step (is_at p conn) _ s d g
step p clock (made.Got conn room bytes) s d w g = same_step (is_at p conn) _ s d refl refl g
step p clock (made.Dry conn) s d w g = ended_step (is_at p conn) _ s d g
step p clock (made.Ended conn by) s d w g = ended_step (is_at p conn) _ s d g
step p clock (made.Refused conn by) s d w g = ended_step (is_at p conn) _ s d g
step p clock (made.ReadFailed conn) s d w g = failed_step (is_at p conn) _ s d refl g
step p clock (made.Put conn bytes) s d w g = same_step (is_at p conn) _ s d refl refl g
step p clock (made.Stuck conn) s d w g = same_step (is_at p conn) _ s d refl refl g
step p clock (made.PutFailed conn) s d w g = failed_step (is_at p conn) _ s d refl g
step p clock (made.Waited ms reports did) s d w g = cc
step p clock _ s d w g = g

since_at : (p : ℕ) (entry : Entry) (past : List Entry) (b : Bool) → is_wait entry ≡ b
    → (status p (if b then entry ∷ past else to_wait past)).awake ≡ true
    → ((status p (to_wait past)).awake ≡ true → Good (status p past) (was_ended p past))
    → Good (status p (entry ∷ past)) (if b then false else ends_reading p entry || was_ended p past)
since_at p entry past true w a ih = awake a
since_at p entry past false w a ih = step p (time past) entry (status p past) (was_ended p past) w (ih a)

since : (p : ℕ) (past : List Entry) → (status p (to_wait past)).awake ≡ true → Good (status p past) (was_ended p past)
since p [] a = awake a
since p (entry ∷ past) a = since_at p entry past (is_wait entry) refl a (since p past)

one_read : (p : ℕ) (queued : List ℕ) (past : List Entry) → Good (status p past) (was_ended p past)
    → IsServed queued (status p past)
    → (was_ended p past ≡ true) ⊎ (64 ≤ (status p past).count)
one_read p queued past (awake e) s = inr (s.drained e)
one_read p queued past (ended e) s = inl e
one_read p queued past (failed e) s = absurd (false≢true (sym s.sound ∙ e))

pub reads_all : (h : History) (past : List Entry) → AllServed h past → ReadsAll past
reads_all h past served = record { each = λ p low a. one_read p (h.queued p) past (since p past a) (served p low) }

-- some connection of the first n is awake, or none is
data Search (n : ℕ) (f : ℕ → Bool) : Type 0 where
  found : (p : ℕ) → p < n → f p ≡ true → Search n f
  none : ((p : ℕ) → p < n → f p ≡ false) → Search n f

search_more : (n : ℕ) (f : ℕ → Bool) → Search n f → Search (suc n) f
search_more n f (found p low e) = found p (omega arith) e
search_more n f (none all) = elim (cases_Bool (f n)) [
  | inl e ↦ found n (omega arith) e
  | inr e ↦ none (λ p low. elim (cases_eq p n) [ inl same ↦ ap f same ∙ e | inr ne ↦ all p (omega arith) ])
]

search_at : (n : ℕ) (f : ℕ → Bool) → Search n f
search_at zero f = none (λ p low. absurd (omega arith))
search_at (suc n) f = search_more n f (search_at n f)

pub some_awake : (past : List Entry) → SomeAwake past ⊎ ((p : ℕ) → p < 64 → (status p past).awake ≡ false)
some_awake past = of (search_at 64 (λ p. (status p past).awake))
  where
    of : Search 64 (λ p. (status p past).awake) → SomeAwake past ⊎ ((p : ℕ) → p < 64 → (status p past).awake ≡ false)
    of (found p low e) = inl (record { place = p; low = low; awake = e })
    of (none all) = inr all
