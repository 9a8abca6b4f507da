-- An event is told to the core.
use Rattle.std.proofs.Common.{◌≡◌, ℕ, ◌≤◌, List, [], ◌∷◌, true, false, ◌&&◌, Option, Some, None, refl, sym, ◌∙◌, ap, arith}
use Rattle.std.specs.Prelude.{is_some}
use Rattle.std.proofs.Math.Bool.{true≢false}
use Rattle.std.proofs.lemmas.Bool.{cond-false}
use Rattle.cell_core.specs.declared.act.Act.{Act}
use Rattle.cell_core.specs.declared.act.Act.TheVariants as act
use Rattle.cell_core.specs.declared.event.Event.{Event}
use Rattle.cell_core.specs.declared.event.Event.TheVariants as event
use Rattle.cell_core.specs.declared.machine.Core.{Core}
use Rattle.cell_core.specs.declared.why.Why.{Why}
use Rattle.cell_core.specs.Acts.{IsTimely, act_at, act_by, act_of, awaits_saved, has_stopped, heard, is_empty}
use Rattle.cell_core.specs.Events.{is_saved}
use Rattle.cell_core.specs.Events as events
use Rattle.cell_core.specs.Saves.{Prefix, why, pending_saves}
use Rattle.cell_core.specs.StandsFor.{StandsFor, task_of, awaits_saved_of}
use Rattle.cell_core.specs.Task.{Task}
use Rattle.run_journal.specs.Job.{Job}
use Rattle.world.specs.declared.entry.Entry.{Entry}
use Rattle.world.specs.Places.{time}
use Rattle.world.specs.Waits.{moment_of}
use Rattle.run_journal.specs.Parts.{is_acknowledging}
use Rattle.run_journal.specs.Arrivals.{is_ready}
use Rattle.run_journal.specs.Requests.{last_request, requests}
use Rattle.run_journal.specs.Course.{came_for}
use Rattle.run_journal.specs.Agreement.{Agrees, BringsNothing, IsOther, told_on}
use Rattle.run_journal.proofs.Agreeing.{agree_first, agree_other, agree_saved, agree_unheard}
use Rattle.run_journal.proofs.Hearing.{agree_came, agree_ready}
use Rattle.job_journal.specs.Told.{is_stop, Hears, AgreesBut, KeepsUp, was_asked}
use Rattle.job_journal.proofs.KeepingUp.{clock_stays, clocks_came, clocks_other, clocks_quiet, clocks_ready, clocks_saved, time_grows}

-- with one more event the core heard it too, while nothing has stopped the job
heard_one : (task : Task) (e : Event) (told : List Event) → has_stopped task (heard task told) ≡ false → heard task (e ∷ told) ≡ e ∷ heard task told
heard_one task e told on = cond-false (has_stopped task (heard task told)) (heard task told) (e ∷ heard task told) on

-- while the act doesn't stop the job it hasn't stopped
stops_by : (task : Task) (es : List Event) (rest : List Prefix) (cause : Option Why) → is_stop (act_by task es rest cause) ≡ false → (is_some cause && is_empty rest) ≡ false
stops_by task es (p ∷ rest) None e = refl
stops_by task es (p ∷ rest) (Some cause) e = refl
stops_by task es [] None e = refl
stops_by task es [] (Some cause) e = absurd (true≢false e)

-- A core that goes on still does after an event to which its act doesn't stop the job.
pub goes_next : (task : Task) (e : Event) (told : List Event) (answer : Act) → has_stopped task (heard task told) ≡ false → answer ≡ act_of task e told → is_stop answer ≡ false
    → has_stopped task (heard task (e ∷ told)) ≡ false
goes_next task e told answer on is go =
    ap (has_stopped task) (heard_one task e told on)
    ∙ stops_by task (e ∷ heard task told) (pending_saves task (e ∷ heard task told)) (why task (e ∷ heard task told))
    (ap is_stop (sym (is ∙ cond-false (has_stopped task (heard task told)) act.Nothing (act_at task (e ∷ heard task told)) on)) ∙ go)

-- The core goes on where it is told an event that comes in time, and its act doesn't stop the job.
pub hears_next : (j : Job) (core next : Core) (e : Event) (told : List Event) (answer : Act) → Hears j core told → task_of core ≡ j.task
    → is_saved e ≡ awaits_saved_of core → IsTimely j.task e told → StandsFor next (e ∷ told) → answer ≡ act_of j.task e told → is_stop answer ≡ false
    → Hears j next (e ∷ told)
hears_next j core next e told answer h same order timely stands is go = record {
  stands = stands;
  meets = (order ∙ h.stands.awaited ∙ ap (λ task. awaits_saved task told) same, timely, h.meets);
  goes_on = goes_next j.task e told answer h.goes_on is go;
}

-- ---- the core's clock

until : {m n k : ℕ} → m ≤ n → n ≤ k → m ≤ k
until f g = omega (arith, f, g)

-- what comes for the last request leaves the clock that the core knows
pub up_came : (j : Job) (entry : Entry) (told : List Event) (past : List Entry) → is_acknowledging j (entry ∷ past) ≡ false → moment_of entry ≡ None
    → is_ready j (entry ∷ past) ≡ is_ready j past → Agrees j told past → KeepsUp j told [] past → KeepsUp j told (came_for j (last_request 0 (requests j past)) entry past) (entry ∷ past)
up_came j entry told past acks e ready a up = record {
  requests = clocks_came j entry past told a up.requests up.clock acks ready (agree_came j entry told past acks ready a);
  clock = clock_stays j entry past (events.time told) e up.clock;
}

-- so does an entry that brings nothing and isn't of the clock
pub up_still : (j : Job) (entry : Entry) (told : List Event) (past : List Entry) → BringsNothing j entry past → is_acknowledging j (entry ∷ past) ≡ false → moment_of entry ≡ None
    → Agrees j told past → KeepsUp j told [] past → KeepsUp j told [] (entry ∷ past)
up_still j entry told past none acks e a up = record {
  requests = clocks_quiet j entry past told a up.requests none acks (agree_unheard j entry told past none acks a);
  clock = clock_stays j entry past (events.time told) e up.clock;
}

-- an acknowledgement is told
pub up_saved : (j : Job) (entry : Entry) (told : List Event) (past : List Entry) → is_acknowledging j (entry ∷ past) ≡ true → moment_of entry ≡ None → Agrees j told past
    → Agrees j (event.Saved ∷ told) (entry ∷ past) → KeepsUp j told [] past → KeepsUp j (event.Saved ∷ told) [] (entry ∷ past)
up_saved j entry told past acks e a b up = record {
  requests = clocks_saved j entry past told a up.requests up.clock acks b;
  clock = clock_stays j entry past (events.time told) e up.clock;
}

-- another event is told
pub up_other : (j : Job) (core next : Core) (e : Event) (told : List Event) (now : List Entry) → Hears j core told → Hears j next (e ∷ told) → Agrees j told now
    → Agrees j (e ∷ told) now → KeepsUp j told [] now → KeepsUp j (e ∷ told) [] now
up_other j core next e told now h g a b up = record {
  requests = clocks_other j e told now a b up.requests;
  clock = λ asked. until (up.clock asked) (time_grows j core next e told h g);
}

-- ---- the requests agree

-- a pending event is told
pub agrees_next : (j : Job) (core next : Core) (e : Event) (es : List Event) (now : List Entry) (t : AgreesBut j core (e ∷ es) now) → Hears j next (e ∷ t.told) → AgreesBut j next es now
agrees_next j core next e es now t h = record {
  told = e ∷ t.told;
  hears = h;
  agrees = t.agrees;
  up = record { requests = t.up.requests; clock = λ asked. until (t.up.clock asked) (time_grows j core next e t.told t.hears h) };
}

-- an entry that brings nothing changes nothing, where the core's clock isn't behind after it
pub agrees_quiet : (j : Job) (core : Core) (pending : List Event) (entry : Entry) (past : List Entry) → BringsNothing j entry past → is_acknowledging j (entry ∷ past) ≡ false
    → (t : AgreesBut j core pending past) → (was_asked j (entry ∷ past) ≡ true → time (entry ∷ past) ≤ events.time t.told) → AgreesBut j core pending (entry ∷ past)
agrees_quiet j core pending entry past none acks t clock =
    let agreed = agree_unheard j entry (told_on pending t.told) past none acks t.agrees in
    record {
      told = t.told;
      hears = t.hears;
      agrees = agreed;
      up = record { requests = clocks_quiet j entry past (told_on pending t.told) t.agrees t.up.requests none acks agreed; clock = clock };
    }

-- so it does where it isn't of the clock
pub agrees_still : (j : Job) (core : Core) (pending : List Event) (entry : Entry) (past : List Entry) → BringsNothing j entry past → is_acknowledging j (entry ∷ past) ≡ false
    → moment_of entry ≡ None → AgreesBut j core pending past → AgreesBut j core pending (entry ∷ past)
agrees_still j core pending entry past none acks e t = agrees_quiet j core pending entry past none acks t (clock_stays j entry past (events.time t.told) e t.up.clock)

-- what comes for the last request is pending
pub agrees_came : (j : Job) (core : Core) (entry : Entry) (past : List Entry) → is_acknowledging j (entry ∷ past) ≡ false → moment_of entry ≡ None
    → is_ready j (entry ∷ past) ≡ is_ready j past → AgreesBut j core [] past → AgreesBut j core (came_for j (last_request 0 (requests j past)) entry past) (entry ∷ past)
agrees_came j core entry past acks e ready t = record {
  told = t.told;
  hears = t.hears;
  agrees = agree_came j entry t.told past acks ready t.agrees;
  up = up_came j entry t.told past acks e ready t.agrees t.up;
}

-- readiness is told
pub agrees_ready : (j : Job) (core next : Core) (entry : Entry) (past : List Entry) → is_acknowledging j (entry ∷ past) ≡ false → moment_of entry ≡ None → is_ready j past ≡ false
    → is_ready j (entry ∷ past) ≡ true → (t : AgreesBut j core [] past) → Hears j next (event.Ready ∷ t.told) → AgreesBut j next [] (entry ∷ past)
agrees_ready j core next entry past acks e was now t h =
    let agreed = agree_ready j entry t.told past acks t.agrees was now in
    record {
      told = event.Ready ∷ t.told;
      hears = h;
      agrees = agreed;
      up = record {
        requests = clocks_ready j entry past t.told t.agrees t.up.requests t.up.clock acks was now agreed;
        clock = clock_stays j entry past (events.time t.told) e t.up.clock;
      };
    }

-- an acknowledgement is told
pub agrees_saved : (j : Job) (core next : Core) (entry : Entry) (past : List Entry) → BringsNothing j entry past → is_acknowledging j (entry ∷ past) ≡ true → moment_of entry ≡ None
    → (t : AgreesBut j core [] past) → Hears j next (event.Saved ∷ t.told) → AgreesBut j next [] (entry ∷ past)
agrees_saved j core next entry past none acks e t h =
    let agreed = agree_saved j entry t.told past none acks t.agrees in
    record {
      told = event.Saved ∷ t.told;
      hears = h;
      agrees = agreed;
      up = up_saved j entry t.told past acks e t.agrees agreed t.up;
    }

-- another event is told
pub agrees_other : (j : Job) (core next : Core) (e : Event) (now : List Entry) → IsOther e → (t : AgreesBut j core [] now) → Hears j next (e ∷ t.told) → AgreesBut j next [] now
agrees_other j core next e now o t h =
    let agreed = agree_other j e t.told now o t.agrees in
    record { told = e ∷ t.told; hears = h; agrees = agreed; up = up_other j core next e t.told now t.hears h t.agrees agreed t.up }

-- at first
pub agrees_first : (j : Job) (core : Core) → Hears j core [] → AgreesBut j core [] []
agrees_first j core h = record { told = []; hears = h; agrees = agree_first j; up = record { requests = λ k r e. cc; clock = λ e. omega arith } }
