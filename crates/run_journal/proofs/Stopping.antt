-- A cause that no deadline brings stops the core where it stops the job.
use Rattle.std.proofs.Common.{◌≡◌, ◌<◌, List, [], length, Bool, true, false, cond, Option, Some, None, refl, sym, ◌∙◌, ap}
use Rattle.std.specs.Prelude.{is_some}
use Rattle.world.specs.declared.entry.Entry.{Entry}
use Rattle.world.specs.Waits.{before_wait}
use Rattle.cell_core.specs.declared.why.Why.{Why}
use Rattle.cell_core.specs.declared.why.Why.TheVariants as cause
use Rattle.cell_core.specs.Events as events
use Rattle.cell_core.specs.Requests as core
use Rattle.cell_core.specs.Saves as core_saves
use Rattle.run_journal.specs.Job.{Job}
use Rattle.run_journal.specs.Parts.{saves_of, is_running}
use Rattle.run_journal.specs.Looks.{is_lost}
use Rattle.run_journal.specs.Requests.{or_later, requests, last_request}
use Rattle.run_journal.specs.Why.{bad_stream, is_done, is_error, is_not_ready, is_no_idle, is_timed_out, cause_if, why}
use Rattle.run_journal.specs.Decoding.{IsDecoding}
use Rattle.run_journal.specs.Course.{course}
use Rattle.run_journal.specs.Agreement.{Flows, Hears, EndsLooks, at_once, is_undated, BeginsUnread}
use Rattle.run_journal.proofs.Telling.{first_rows, core_rows, at_once_same}
use Rattle.run_journal.proofs.Finding.{undated_unlooked, lost_seen}
use Rattle.run_journal.proofs.Dropping.{dropped}
use Rattle.run_journal.proofs.Lasting.{hears_kept}

-- what is kept is there
pub from_at_once : (o : Option Why) (w : Why) → at_once o ≡ Some w → o ≡ Some w
from_at_once None w e = cc
from_at_once (Some cause.Done) w e = e
from_at_once (Some cause.CellError) w e = e
from_at_once (Some cause.BadPeer) w e = e
from_at_once (Some cause.KernelLost) w e = cc
from_at_once (Some cause.NotReady) w e = cc
from_at_once (Some cause.NoIdle) w e = cc
from_at_once (Some cause.TimedOut) w e = cc

-- where none of the first three rows holds, and a look has found a loss
core_lost : (d e b l n i t : Bool) → first_rows d e b ≡ None → l ≡ true
    → cond d (Some cause.Done) (cond e (Some cause.CellError) (cond b (Some cause.BadPeer) (cond l (Some cause.KernelLost) (cond n (Some cause.NotReady) (cond i (Some cause.NoIdle) (cond t (Some cause.TimedOut) None)))))) ≡ Some cause.KernelLost
core_lost true e b l n i t f g = cc
core_lost false true b l n i t f g = cc
core_lost false false true l n i t f g = cc
core_lost false false false true n i t f g = refl
core_lost false false false false n i t f g = cc

-- the row of a lost kernel holds where that is the cause
journal_lost : (d e b l n i t : Bool)
    → or_later (cause_if d cause.Done) (or_later (cause_if e cause.CellError) (or_later (cause_if b cause.BadPeer) (or_later (cause_if l cause.KernelLost) (or_later (cause_if n cause.NotReady) (or_later (cause_if i cause.NoIdle) (cause_if t cause.TimedOut)))))) ≡ Some cause.KernelLost
    → l ≡ true
journal_lost true e b l n i t f = cc
journal_lost false true b l n i t f = cc
journal_lost false false true l n i t f = cc
journal_lost false false false true n i t f = refl
journal_lost false false false false true i t f = cc
journal_lost false false false false false true t f = cc
journal_lost false false false false false false true f = cc
journal_lost false false false false false false false f = cc

module _ (j : Job) (d : IsDecoding j.codec) (plan : 0 < length j.task.plan) (past : List Entry) (u : BeginsUnread j past) (f : Flows j past) (h : Hears j past) (s : EndsLooks j past)
    (none : (course j past).held ≡ []) (runs : is_running j (before_wait past) ≡ true) where
  same : at_once (core_saves.why j.task (course j past).told) ≡ at_once (why j past)
  same = at_once_same j d plan past u f none

  unfound : why j past ≡ Some cause.KernelLost → is_some (at_once (why j past)) ≡ false
  unfound e = ap (λ o. is_some (at_once o)) e

  lost : why j past ≡ Some cause.KernelLost → core_saves.why j.task (course j past).told ≡ Some cause.KernelLost
  lost e =
      let stands : Option core.Standing = core.standing j.task (course j past).told in
      core_lost (core_saves.is_done j.task (course j past).told) (core_saves.is_cell_error stands) (events.came events.is_broken (course j past).told) (events.look_since events.is_lost (course j past).told)
      (core_saves.is_not_ready j.task stands (course j past).told) (core_saves.is_no_idle stands (course j past).told) (core_saves.is_timed_out j.task stands (course j past).told)
      (sym (core_rows (core_saves.is_done j.task (course j past).told) (core_saves.is_cell_error stands) (events.came events.is_broken (course j past).told) (events.look_since events.is_lost (course j past).told)
      (core_saves.is_not_ready j.task stands (course j past).told) (core_saves.is_no_idle stands (course j past).told) (core_saves.is_timed_out j.task stands (course j past).told))
      ∙ same ∙ ap at_once e)
      (lost_seen j past (undated_unlooked (dropped j past) (hears_kept j d plan past u h (unfound e))) s none runs
      (journal_lost (is_done j (saves_of j past) (requests j past)) (is_error j (last_request 0 (requests j past))) (is_some (bad_stream j past)) (is_lost j past)
      (is_not_ready j (requests j past) past) (is_no_idle j (last_request 0 (requests j past)) past) (is_timed_out j (last_request 0 (requests j past)) past) e))

  pub undated_same : (w : Why) → is_undated w ≡ true → why j past ≡ Some w → core_saves.why j.task (course j past).told ≡ Some w
  undated_same cause.Done k e = from_at_once _ cause.Done (same ∙ ap at_once e)
  undated_same cause.CellError k e = from_at_once _ cause.CellError (same ∙ ap at_once e)
  undated_same cause.BadPeer k e = from_at_once _ cause.BadPeer (same ∙ ap at_once e)
  undated_same cause.KernelLost k e = lost e
  undated_same cause.NotReady k e = cc
  undated_same cause.NoIdle k e = cc
  undated_same cause.TimedOut k e = cc
