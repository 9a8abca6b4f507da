-- What a turn and a read of the loop make of what jobs stand for.
use Rattle.std.proofs.Common.{◌≡◌, ◌≢◌, ◌≤◌, ℕ, false, List, ◌∷◌, length, sym, ◌∙◌, ap, subst}
use Rattle.std.specs.Prelude.{is_some}
use Rattle.world.specs.declared.chan.Chan.TheVariants.{Iopub}
use Rattle.world.specs.declared.conn.Conn.{Conn}
use Rattle.world.specs.declared.entry.Entry.{Entry}
use Rattle.world.specs.declared.entry.Entry.TheVariants.{Moment}
use Rattle.world.specs.Moments.{Since, start}
use Rattle.world.specs.Places.{time}
use Rattle.kernel_lines.specs.Line.{taken_of}
use Rattle.job_end.specs.declared.answer.Answer.{Answer}
use Rattle.run_journal.specs.Parts.{bytes_put}
use Rattle.job_journal.specs.Plot.{Plot, facts}
use Rattle.job_journal.specs.Quiet.{IsQuietNow}
use Rattle.job_journal.proofs.Ended.{answered_on}
use Rattle.job_run.specs.declared.job.Job.{Job}
use Rattle.job_run.specs.Due.{WantsLook}
use Rattle.job_run.specs.JobStanding.{JobStands}
use Rattle.job_run.specs.Queues.{line_of}
use Rattle.job_run.specs.Run.{outcome_of}
use Rattle.job_run.proofs.JobLemmas.{job_quiet, job_untold}
use Rattle.other_jobs.specs.Reads.{BringsBytes}
use Rattle.other_jobs.specs.Turns.{BringsMoment}
use Rattle.other_jobs.proofs.Ended.{ended_clock}
use Rattle.job_turns.specs.OwedTo.{StandsEnded, StandsOwed, clock, nothing, piece}
use Rattle.job_turns.proofs.WaitLemmas.{ended_waits}

-- ---- turns

pub turn_owed : (ms : ℕ) (p : Plot) (j : Job) (before after : List Entry) → BringsMoment ms before after → time before ≤ ms → is_some (outcome_of j) ≡ false
    → WantsLook j false → taken_of (line_of j Iopub) ≡ length (bytes_put (facts p) Iopub before) → JobStands p j before → StandsOwed (clock ms) p j after
turn_owed ms p j before after came rises running unlooked taken s = record {
  running = running;
  unlooked = unlooked;
  past = came.past;
  stands = job_untold p j came.past (job_quiet p j before came.past (came.quiet (facts p)) s);
  taken = taken ∙ ap (λ (bytes : List ℕ). length bytes) (sym (came.put (facts p) Iopub));
  rises = subst (λ t. t ≤ ms) (sym came.clock) rises;
  since = subst (Since (IsQuietNow (facts p)) (Moment ms ∷ came.past)) (sym came.newest) start;
}

pub turn_ended : (ms : ℕ) (p : Plot) (a : Answer) (before after : List Entry) → BringsMoment ms before after → StandsEnded p a before → StandsEnded p a after
turn_ended ms p a before after came g =
    let ended = ended_clock p a ms came.past g.undated (answered_on p a before came.past g.undated (came.quiet (facts p)) g.answered) in
    subst (StandsEnded p a) (sym came.newest) (record { undated = g.undated; answered = ended })

-- ---- reads

module _ (conn : Conn) (room : ℕ) (bytes : List ℕ) (p : Plot) where
  pub read_owed : (j : Job) (before after : List Entry) → BringsBytes conn room bytes before after → conn.job ≡ (facts p).number → is_some (outcome_of j) ≡ false
      → JobStands p j before → StandsOwed (piece conn.chan bytes) p j after
  read_owed j before after came own running s = record {
    running = running;
    conn = conn;
    room = room;
    past = came.past;
    is = came.newest;
    at = came.own (facts p) own;
    stands = job_quiet p j before came.past (came.quiet (facts p)) s;
  }

  pub read_apart : (j : Job) (before after : List Entry) → BringsBytes conn room bytes before after → conn.job ≢ (facts p).number → StandsOwed nothing p j before
      → StandsOwed nothing p j after
  read_apart j before after came other s = job_quiet p j before after (came.others (facts p) other) s

  pub read_ended : (a : Answer) (before after : List Entry) → BringsBytes conn room bytes before after → conn.job ≢ (facts p).number → StandsEnded p a before
      → StandsEnded p a after
  read_ended a before after came other g = ended_waits p a before after (came.others (facts p) other) g
