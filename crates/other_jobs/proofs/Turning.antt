-- What a turn and a last look of the loop bring.
use Rattle.std.proofs.Common.{◌<◌, ℕ, List, Bool, true, Some, None, Option, Result, Ok, Err, refl, sym, ap, subst}
use Rattle.world.specs.declared.did.Did.{Did}
use Rattle.world.specs.declared.entry.Entry.{Entry}
use Rattle.world.specs.declared.entry.Entry.TheVariants as made
use Rattle.world.specs.Moments.{Since, start, more}
use Rattle.world.specs.Places.{time}
use Rattle.world.specs.Waits.{is_after_wait}
use Rattle.world.proofs.MomentsLemmas.{since_as}
use Rattle.ready_loop.specs.declared.fault.LoopFault.{LoopFault}
use Rattle.ready_loop.specs.declared.fault.LoopFault.TheVariants.{NetFault, Spent}
use Rattle.ready_loop.specs.declared.readiness.Loop.{Loop}
use Rattle.ready_loop.specs.History.{History}
use Rattle.ready_loop.specs.Standing.{StandsFor}
use Rattle.ready_loop.specs.States.{IsCalm}
use Rattle.ready_loop.specs.Waits.{LookCame, Looked, LooksThenWaits, TurnCame, Turned, Waits}
use Rattle.run_journal.specs.Job.{Job}
use Rattle.run_journal.specs.Parts.{bytes_put}
use Rattle.job_journal.specs.Quiet.{IsQuietNow}
use Rattle.job_journal.proofs.Quiet.{quiet_kind}
use Rattle.other_jobs.specs.Refused.{RefusedUnread}
use Rattle.other_jobs.specs.Turns.{TurnBrings}
use Rattle.other_jobs.proofs.Connecting.{looks_quiet}
use Rattle.other_jobs.proofs.Refusals.{look_offer, offers_unread, unread_next}

-- ---- a turn

wait_quiet : (j : Job) (due : Option ℕ) (h : History) (how : Did) (before after : List Entry) → Waits due h how before after → Since (IsQuietNow j) before after
wait_quiet j due h how before after w =
    subst (Since (IsQuietNow j) before) (sym w.is) (more start (quiet_kind j (made.Waited w.ms w.reports how) before refl))

turn_by : (due : Option ℕ) (result : Result ℕ LoopFault) (h : History) (before after : List Entry) → TurnCame due result h before after
    → TurnBrings result before after
turn_by due (Ok now) h before after came = record {
  past = came.past;
  quiet = λ j. wait_quiet j due h _ before came.past came.waits;
  put = λ j c. ap (λ x. bytes_put j c x) came.waits.is;
  clock = ap time came.waits.is;
  waited = ap is_after_wait came.waits.is;
  newest = came.is;
}
turn_by due (Err (NetFault None)) h before after came = λ j. wait_quiet j due h _ before after came
turn_by due (Err (NetFault (Some conn))) h before after came = absurd came
turn_by due (Err Spent) h before after came = λ j. subst (Since (IsQuietNow j) before) (sym came) start

pub turn_brings : (due : Option ℕ) (result : Result ℕ LoopFault) (last : ℕ) (old new : Loop) (h : History) (before after : List Entry) → StandsFor old h before
    → Turned due result last old new before after → TurnBrings result before after
turn_brings due result last old new h before after stand turned = turn_by due result h before after (turned.so h stand).1

-- ---- a last look

module _ (j : Job) (low : j.number < 16) (jobs : List Bool) (h : History) (before after : List Entry) (unread : RefusedUnread before) where
  wait_behind : (calm : Type 0) (how : Did) → LooksThenWaits jobs calm h how before after → Since (IsQuietNow j) before after
  wait_behind calm how came =
      subst (Since (IsQuietNow j) before) (sym came.is)
      (more (looks_quiet j jobs h before came.past low unread came.looks) (quiet_kind j (made.Waited 0 came.reports how) came.past refl))

  look_by : (calm : Type 0) (result : Result (List Bool) LoopFault) → LookCame jobs calm result h before after → Since (IsQuietNow j) before after
  look_by calm (Ok names) came = wait_behind calm _ came
  look_by calm (Err (NetFault None)) came = wait_behind calm _ came
  look_by calm (Err (NetFault (Some conn))) came = looks_quiet j jobs h before after low unread came.looks
  look_by calm (Err Spent) came = subst (Since (IsQuietNow j) before) (sym came) start

pub look_brings : (j : Job) (jobs : List Bool) (result : Result (List Bool) LoopFault) (last : ℕ) (old new : Loop) (h : History) (before after : List Entry)
    → j.number < 16 → StandsFor old h before → Looked jobs result last old new before after → RefusedUnread before
    → Since (IsQuietNow j) before after
look_brings j jobs result last old new h before after low stand looked unread =
    look_by j low jobs h before after unread (IsCalm last old) result (looked.so h stand).1

-- ---- refused connections

wait_unread : (due : Option ℕ) (h : History) (how : Did) (before after : List Entry) → Waits due h how before after → RefusedUnread before → RefusedUnread after
wait_unread due h how before after w was = subst RefusedUnread (sym w.is) (unread_next (made.Waited w.ms w.reports how) before tt was)

turn_unread : (due : Option ℕ) (result : Result ℕ LoopFault) (h : History) (before after : List Entry) → TurnCame due result h before after → RefusedUnread before
    → RefusedUnread after
turn_unread due (Ok now) h before after came was =
    subst RefusedUnread (sym came.is) (unread_next (made.Moment now) came.past tt (wait_unread due h _ before came.past came.waits was))
turn_unread due (Err (NetFault None)) h before after came was = wait_unread due h _ before after came was
turn_unread due (Err (NetFault (Some conn))) h before after came was = absurd came
turn_unread due (Err Spent) h before after came was = subst RefusedUnread (sym came) was

pub turns_unread : (due : Option ℕ) (result : Result ℕ LoopFault) (last : ℕ) (old new : Loop) (h : History) (before after : List Entry) → StandsFor old h before
    → Turned due result last old new before after → RefusedUnread before → RefusedUnread after
turns_unread due result last old new h before after stand turned was = turn_unread due result h before after (turned.so h stand).1 was

module _ (jobs : List Bool) (h : History) (before after : List Entry) (was : RefusedUnread before) where
  unread_behind : (calm : Type 0) (how : Did) → LooksThenWaits jobs calm h how before after → RefusedUnread after
  unread_behind calm how came =
      subst RefusedUnread (sym came.is)
      (unread_next (made.Waited 0 came.reports how) came.past tt (offers_unread true h before came.past (since_as (look_offer jobs h) came.looks) was))

  look_unread : (calm : Type 0) (result : Result (List Bool) LoopFault) → LookCame jobs calm result h before after → RefusedUnread after
  look_unread calm (Ok names) came = unread_behind calm _ came
  look_unread calm (Err (NetFault None)) came = unread_behind calm _ came
  look_unread calm (Err (NetFault (Some conn))) came = offers_unread true h before after (since_as (look_offer jobs h) came.looks) was
  look_unread calm (Err Spent) came = subst RefusedUnread (sym came) was

pub looks_unread : (jobs : List Bool) (result : Result (List Bool) LoopFault) (last : ℕ) (old new : Loop) (h : History) (before after : List Entry)
    → StandsFor old h before → Looked jobs result last old new before after → RefusedUnread before → RefusedUnread after
looks_unread jobs result last old new h before after stand looked was =
    look_unread jobs h before after was (IsCalm last old) result (looked.so h stand).1
