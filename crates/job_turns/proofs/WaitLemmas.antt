-- Jobs that wait: what they stand for goes on over entries that bring them nothing.
use Rattle.std.proofs.Common.{◌≡◌, ◌≤◌, arith, ℕ, true, List, ◌∷◌, refl, sym, ◌∙◌}
use Rattle.std.proofs.Math.Bool.{true≢false}
use Rattle.world.specs.declared.entry.Entry.{Entry}
use Rattle.world.specs.declared.entry.Entry.TheVariants as made
use Rattle.world.specs.Moments.{Since, start, more}
use Rattle.world.specs.Parts.{IsNotOf, OnClock}
use Rattle.world.specs.Places.{time}
use Rattle.world.proofs.MomentsLemmas.{since_then}
use Rattle.save_course.specs.Course.{IsRested}
use Rattle.job_saves.specs.Calls.{Cast, IsCall, IsCallBy}
use Rattle.job_end.specs.declared.answer.Answer.{Answer}
use Rattle.job_journal.specs.Plot.{Plot, facts}
use Rattle.job_journal.specs.Quiet.{IsQuietNow, is_unread}
use Rattle.job_journal.proofs.Breaking.{unread_whole}
use Rattle.job_journal.proofs.Ended.{answered_on}
use Rattle.job_run.specs.Beginning.{IsFresh}
use Rattle.job_run.specs.declared.execution.Execution.{Execution}
use Rattle.job_run.specs.declared.job.Job.{Job}
use Rattle.job_run.specs.JobStanding.{IsTurnedFor}
use Rattle.job_run.specs.Standing.{Stands}
use Rattle.job_run.proofs.JobLemmas.{job_quiet, job_quiet_untold, stands_quiet}
use Rattle.job_run.proofs.StartLemmas.{clock_read}
use Rattle.other_jobs.specs.Elsewhere.{SavesElsewhere}
use Rattle.other_jobs.proofs.Calling.{call_quiet, calls_quiet, calls_rest}
use Rattle.other_jobs.proofs.Ended.{ended_calls, renamed_calls, renamed_quiet}
use Rattle.other_jobs.proofs.Firsts.{unread_calls, unread_quiet}
use Rattle.job_turns.specs.OwedTo.{OwedTo, StandsEnded, StandsFirst, StandsOwed, anything, clock, first_clock, may_wait, nothing, piece}

-- ---- entries that are quiet for the job

-- the moment of a turn may be told later
turned_waits : (p : Plot) (j : Job) (ms : ℕ) (before now : List Entry) → Since (IsQuietNow (facts p)) before now → IsTurnedFor p j ms before → IsTurnedFor p j ms now
turned_waits p j ms before now w t = record {
  running = t.running;
  unlooked = t.unlooked;
  past = t.past;
  stands = t.stands;
  taken = t.taken;
  rises = t.rises;
  since = since_then t.since w;
}

pub owed_waits : (o : OwedTo) (p : Plot) (j : Job) (before now : List Entry) → may_wait o ≡ true → Since (IsQuietNow (facts p)) before now → StandsOwed o p j before
    → StandsOwed o p j now
owed_waits nothing p j before now e w s = job_quiet p j before now w s
owed_waits first_clock p j before now e w s = record {
  untold = job_quiet_untold p j before now w s.untold;
  unread = unread_quiet (facts p) before now w ∙ s.unread;
}
owed_waits (clock ms) p j before now e w s = turned_waits p j ms before now w s
owed_waits (piece c bytes) p j before now e w s = absurd (true≢false (sym e))
owed_waits anything p j before now e w s = tt

pub ended_waits : (p : Plot) (a : Answer) (before now : List Entry) → Since (IsQuietNow (facts p)) before now → StandsEnded p a before → StandsEnded p a now
ended_waits p a before now w g = record { undated = g.undated; answered = answered_on p a before now g.undated w g.answered }

pub fresh_waits : (p : Plot) (before now : List Entry) → Since (IsQuietNow (facts p)) before now → IsFresh p before → IsFresh p now
fresh_waits p before now w f = record {
  undated = f.undated;
  runs = f.runs;
  unread = unread_quiet (facts p) before now w ∙ f.unread;
  unrenamed = renamed_quiet (facts p) before now w ∙ f.unrenamed;
}

-- ---- calls of jobs that save elsewhere

pub owed_waits_for : (o : OwedTo) (p : Plot) (j : Job) (c : Cast) (before now : List Entry) → SavesElsewhere c (facts p).output → Since (IsCall c) before now
    → IsRested (facts p).output before → may_wait o ≡ true → Since (IsNotOf OnClock) before now → StandsOwed o p j before → StandsOwed o p j now
owed_waits_for o p j c before now elsewhere since rested e off s = owed_waits o p j before now e (calls_quiet (facts p) c before now elsewhere since off rested) s

pub ended_waits_for : (p : Plot) (a : Answer) (c : Cast) (before now : List Entry) → SavesElsewhere c (facts p).output → Since (IsCall c) before now
    → IsRested (facts p).output before → StandsEnded p a before → StandsEnded p a now
ended_waits_for p a c before now elsewhere since rested g = record { undated = g.undated; answered = ended_calls p a c g.undated elsewhere since rested g.answered }

pub fresh_waits_for : (p : Plot) (c : Cast) (before now : List Entry) → SavesElsewhere c (facts p).output → Since (IsCall c) before now → IsFresh p before → IsFresh p now
fresh_waits_for p c before now elsewhere since f = record {
  undated = f.undated;
  runs = f.runs;
  unread = unread_calls (facts p) c before now since ∙ f.unread;
  unrenamed = renamed_calls (facts p) c before now elsewhere since ∙ f.unrenamed;
}

-- ---- those that read the clock, before any byte was got for the job

module _ (p : Plot) (number : ℕ) (x : Execution) where
  abbrev at_clock : ℕ → Execution
  at_clock ms = record x { clock = ms }

  one_call : (c : Cast) → SavesElsewhere c (facts p).output → (entry : Entry) (past : List Entry) → IsCallBy c past entry → IsRested (facts p).output past
      → is_unread (facts p) past ≡ true → Stands p number (at_clock (time past)) past → Stands p number (at_clock (time (entry ∷ past))) (entry ∷ past)
  one_call c elsewhere (made.Moment ms) past is rested unread s =
      clock_read p number (at_clock 0) (at_clock ms) ms past (record { stands = s; clock = refl; unread = unread }) refl (λ least. refl)
  one_call c elsewhere entry past is rested unread s =
      stands_quiet p number (at_clock (time past)) past (entry ∷ past)
      (more start
      (call_quiet (facts p) c.here c.starts c.clean is.number is.ask (elsewhere.each is.number is.ask is.has) entry past is.is (λ e. absurd (cc)) rested))
      s

  -- the execution goes on with the clock
  calls_go_on : (c : Cast) → SavesElsewhere c (facts p).output → (before now : List Entry) → Since (IsCall c) before now → IsRested (facts p).output before
      → is_unread (facts p) before ≡ true → Stands p number (at_clock (time before)) before → Stands p number (at_clock (time now)) now
  calls_go_on c elsewhere before now start rested unread s = s
  calls_go_on c elsewhere before now (more {past} {entry} since is) rested unread s =
      one_call c elsewhere entry past is (calls_rest (facts p).output c elsewhere since rested) (unread_calls (facts p) c before past since ∙ unread)
      (calls_go_on c elsewhere before past since rested unread s)

pub first_waits_for : (p : Plot) (j : Job) (c : Cast) (before now : List Entry) → SavesElsewhere c (facts p).output → Since (IsCall c) before now
    → IsRested (facts p).output before → time before ≤ time now → StandsFirst p j before → StandsFirst p j now
first_waits_for p j c before now elsewhere since rested rises s = record {
  untold = record {
    number_is = s.untold.number_is;
    output_is = s.untold.output_is;
    undated = s.untold.undated;
    runs = λ e.
        let u = s.untold.runs e in
        record {
          stands = calls_go_on p j.number j.run c elsewhere before now since rested s.unread u.stands;
          earlier = omega (arith, u.earlier, rises);
        };
    whole = λ e. unread_whole p now (unread_calls (facts p) c before now since ∙ s.unread);
    ended = λ a e. ended_calls p a c s.untold.undated elsewhere since rested (s.untold.ended a e);
  };
  unread = unread_calls (facts p) c before now since ∙ s.unread;
}
