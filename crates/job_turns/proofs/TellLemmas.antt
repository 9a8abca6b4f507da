-- Jobs that are told something without a call of the world, and that end.
use Rattle.std.proofs.Common.{◌≡◌, ◌≢◌, ◌⊎◌, inl, inr, ℕ, true, false, List, ◌∷◌, Option, Some, None, refl, sym, ◌∙◌, ap, subst}
use Rattle.std.specs.Prelude.{is_some}
use Rattle.std.proofs.Math.Bool.{true≢false}
use Rattle.std.proofs.lemmas.Bool.{cases_Bool}
use Rattle.world.specs.declared.entry.Entry.{Entry}
use Rattle.world.specs.declared.entry.Entry.TheVariants.{Moment}
use Rattle.job_end.specs.declared.answer.Answer.{Answer}
use Rattle.job_journal.specs.Ended.{HasAnswered, cause_of}
use Rattle.job_journal.specs.Plot.{Plot, facts}
use Rattle.job_journal.specs.Quiet.{is_unread}
use Rattle.job_journal.specs.Standing.{HasEndedAs}
use Rattle.job_journal.proofs.Ended.{answered_on}
use Rattle.job_run.specs.declared.job.Job.{Job}
use Rattle.job_run.specs.JobStanding.{IsTurnedFor, JobStands, JobStandsUntold, KeepsStanding}
use Rattle.job_run.specs.Run.{number_of, outcome_of}
use Rattle.job_run.proofs.JobLemmas.{job_untold, untold_ends}
use Rattle.other_jobs.proofs.Ended.{ended_clock}
use Rattle.job_turns.specs.OwedTo.{IsLeftWith, OwedTo, StandsEnded, StandsOwed, anything, clock, first_clock, is_open, may_wait, nothing, piece}

pub owed_first : (p : Plot) (j : Job) (now : List Entry) → JobStands p j now → is_unread (facts p) now ≡ true → StandsOwed first_clock p j now
owed_first p j now s unread = record { untold = job_untold p j now s; unread = unread }

pub owed_changes : (o : OwedTo) (p : Plot) (was now : Job) (journal : List Entry) → is_open o ≡ true → KeepsStanding was now → StandsOwed o p was journal
    → StandsOwed o p now journal
owed_changes nothing p was now journal e k s = k.stands p journal s
owed_changes first_clock p was now journal e k s = record { untold = k.untold p journal s.untold; unread = s.unread }
owed_changes (clock ms) p was now journal e k s = absurd (true≢false (sym e))
owed_changes (piece c bytes) p was now journal e k s = absurd (true≢false (sym e))
owed_changes anything p was now journal e k s = tt

-- ---- where a job ends

-- a job that has ended has its answer
over_ended : (p : Plot) (j : Job) (a : Answer) (now : List Entry) (o : Option Answer) → outcome_of j ≡ o → is_some o ≡ true → IsLeftWith j a
    → ((answer : Answer) → outcome_of j ≡ Some answer → HasAnswered p answer now) → HasAnswered p a now
over_ended p j a now None e over left ended = absurd (true≢false (sym over))
over_ended p j a now (Some answer) e over left ended = subst (λ (x : Answer). HasAnswered p x now) (sym (left.over answer e)) (ended answer e)

none_of : (o : Option Answer) → is_some o ≡ false → o ≡ None
none_of None e = refl
none_of (Some answer) e = absurd (true≢false e)

-- One that runs names no cause: it ends for want of memory.
starved_ended : (p : Plot) (j : Job) (a : Answer) (now : List Entry) → is_some (outcome_of j) ≡ false → IsLeftWith j a → HasEndedAs p now → HasAnswered p a now
starved_ended p j a now running left ended = record {
  ended = ended;
  stopped = λ cause e.
      let none : None ≡ Some cause = sym (ap cause_of (left.starved (none_of (outcome_of j) running))) ∙ e in
      absurd (cc);
}

untold_ended : (p : Plot) (j : Job) (a : Answer) (now : List Entry) → IsLeftWith j a → JobStandsUntold p j now → StandsEnded p a now
untold_ended p j a now left s = record { undated = s.undated; answered = by (cases_Bool (is_some (outcome_of j))) }
  where
    by : (is_some (outcome_of j) ≡ true) ⊎ (is_some (outcome_of j) ≡ false) → HasAnswered p a now
    by (inl e) = over_ended p j a now (outcome_of j) refl e left s.ended
    by (inr e) = starved_ended p j a now e left (untold_ends p (number_of j) j.run now (s.runs e))

-- the clock of a turn, and what is quiet behind it, saves nothing
turned_ended : (p : Plot) (j : Job) (a : Answer) (ms : ℕ) (now : List Entry) → IsLeftWith j a → IsTurnedFor p j ms now → StandsEnded p a now
turned_ended p j a ms now left t =
    let plain = t.stands.undated in
    let before : StandsEnded p a t.past = untold_ended p j a t.past left t.stands in
    record { undated = plain; answered = answered_on p a (Moment ms ∷ t.past) now plain t.since (ended_clock p a ms t.past plain before.answered) }

pub owed_ended : (o : OwedTo) (p : Plot) (j : Job) (a : Answer) (now : List Entry) → may_wait o ≡ true → o ≢ anything → IsLeftWith j a → StandsOwed o p j now
    → StandsEnded p a now
owed_ended nothing p j a now e other left s = untold_ended p j a now left (job_untold p j now s)
owed_ended first_clock p j a now e other left s = untold_ended p j a now left s.untold
owed_ended (clock ms) p j a now e other left s = turned_ended p j a ms now left s
owed_ended (piece c bytes) p j a now e other left s = absurd (true≢false (sym e))
owed_ended anything p j a now e other left s = absurd (other refl)
