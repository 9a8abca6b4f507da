-- Where the clock is read as the loop's rule has it, a turn's clock entry stands directly after a wait.
use Rattle.std.proofs.Common.{◌≡◌, ℕ, List, [], ◌∷◌, Bool, true, false, ◌||◌, not, cond, Option, Some, None, refl}
use Rattle.world.specs.declared.did.Did.TheVariants.{Done, Failed}
use Rattle.world.specs.declared.entry.Entry.{Entry}
use Rattle.world.specs.declared.entry.Entry.TheVariants as made
use Rattle.world.specs.Waits.{is_after_wait, has_wait, turn_moment}
use Rattle.run_journal.specs.Job.{Job}
use Rattle.run_journal.specs.Parts.{turn_clock}
use Rattle.run_journal.specs.Awake.{reads_clock}

no_clock : (a b : Bool) → ◌≡◌ {A = Option ℕ} (cond a None None) (cond b None None)
no_clock true true = refl
no_clock true false = refl
no_clock false true = refl
no_clock false false = refl

no_wait : (ms : ℕ) (b : Bool) → (not b || false) ≡ true → cond b (Some ms) None ≡ None
no_wait ms true e = cc
no_wait ms false e = refl

-- it is the one that some wait precedes
pub turn_is : (jobs : List Job) (entry : Entry) (past : List Entry) → reads_clock jobs (entry ∷ past) ≡ true → turn_clock (entry ∷ past) ≡ turn_moment (entry ∷ past)
turn_is jobs (made.Moment ms) [] e = refl
turn_is jobs (made.Moment ms) (made.Waited limit reports Done ∷ past) e = refl
turn_is jobs (made.Moment ms) (made.Waited limit reports Failed ∷ past) e = refl
turn_is jobs (made.Moment ms) (x ∷ past) e = no_wait ms (has_wait past) e
turn_is jobs _ past e = no_clock (has_wait past) (is_after_wait past)
