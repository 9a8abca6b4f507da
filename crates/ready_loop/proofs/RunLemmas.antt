-- What holds after any list of calls.
use Rattle.std.proofs.Common.{◌≡◌, inl, inr, ◌+◌, ◌<◌, ◌≤◌, ℕ, Bool, true, false, List, [], ◌∷◌, Option, Some, None, Result, Ok, Err, arith, refl, sym, ◌∙◌, ap, subst}
use Rattle.world.specs.declared.conn.Conn.{Conn}
use Rattle.world.specs.declared.did.Did.{Did}
use Rattle.world.specs.declared.did.Did.TheVariants.{Done, Failed}
use Rattle.world.specs.declared.entry.Entry.{Entry}
use Rattle.world.specs.declared.entry.Entry.TheVariants as made
use Rattle.world.specs.Moments.{Since, start, more}
use Rattle.world.proofs.MomentsLemmas.{since_then, since_as}
use Rattle.world.specs.Places.{status, concerns}
use Rattle.world.specs.Waits.{is_after_wait}
use Rattle.world.proofs.StatusLemmas.{status_elsewhere}
use Rattle.world.proofs.WaitsLemmas.{not_counted}
use Rattle.ready_loop.specs.declared.fault.LoopFault.{LoopFault}
use Rattle.ready_loop.specs.declared.fault.LoopFault.TheVariants.{NetFault, Spent}
use Rattle.ready_loop.specs.declared.readiness.Loop.{Loop}
use Rattle.ready_loop.specs.Begins.{BeginMoment, CloseMoment}
use Rattle.ready_loop.specs.History.{History}
use Rattle.ready_loop.specs.Offers.{Offers, again, writes, JobMoment, OfferMoment, LookMoment}
use Rattle.ready_loop.specs.Reads.{ReadMoment}
use Rattle.ready_loop.specs.Runs as runs
use Rattle.ready_loop.specs.Runs.{Calls, Runs, IsFair, IsFairWait, FairMoment}
use Rattle.ready_loop.specs.Standing.{StandsFor, IsElsewhere, MadeElsewhere}
use Rattle.ready_loop.specs.States.{IsCalm}
use Rattle.ready_loop.specs.Waits.{
  NoneDue,
  most,
  IsTurnWait,
  AllServed,
  LooksThenWaits,
  LookCame,
  Waits,
  TurnCame,
}
use Rattle.ready_loop.proofs.ReadAllLemmas.{reads_all, some_awake}
use Rattle.ready_loop.proofs.StandLemmas.{stands_as, ended_elsewhere}

-- ---- calls of others

concerns_none : (p : ℕ) (entry : Entry) → IsElsewhere entry → concerns p entry ≡ false
concerns_none p (made.Connected conn port how) e = let c = e.conn in cc
concerns_none p (made.Closed conn) e = let c = e.conn in cc
concerns_none p (made.Got conn room bytes) e = let c = e.conn in cc
concerns_none p (made.Dry conn) e = let c = e.conn in cc
concerns_none p (made.Ended conn by) e = let c = e.conn in cc
concerns_none p (made.Refused conn by) e = let c = e.conn in cc
concerns_none p (made.ReadFailed conn) e = let c = e.conn in cc
concerns_none p (made.Put conn bytes) e = let c = e.conn in cc
concerns_none p (made.Stuck conn) e = let c = e.conn in cc
concerns_none p (made.PutFailed conn) e = let c = e.conn in cc
concerns_none p (made.Waited ms reports did) e = let c = e.wait in cc
concerns_none p _ e = refl

other_stands : (l : Loop) (h : History) (entry : Entry) (past : List Entry) → IsElsewhere entry → StandsFor l h past
    → StandsFor l h (entry ∷ past)
other_stands l h entry past e stand = record {
  size = stand.size;
  waits = ap (λ n. n + l.left) (not_counted entry past e.wait) ∙ stand.waits;
  each = λ p link found.
      let none = concerns_none p entry e in
      stands_as refl refl refl refl (status_elsewhere p entry past none) (ended_elsewhere p entry past none) (stand.each p link found);
}

pub others_stand : (l : Loop) (h : History) (before after : List Entry) → Since MadeElsewhere before after
    → StandsFor l h before → StandsFor l h after
others_stand l h before _ start stand = stand
others_stand l h before _ (more {past} {entry} s e) stand = other_stands l h entry past e (others_stand l h before past s stand)

-- ---- the rules of each call

fair_begin : (now : List Entry) (h : History) → BeginMoment h now → FairMoment now
fair_begin [] h m = m
fair_begin (made.Connected conn port how ∷ past) h m = runs.begun conn port how m
fair_begin (_ ∷ past) h m = absurd m

fair_close : (now : List Entry) (h : History) → CloseMoment h now → FairMoment now
fair_close [] h m = m
fair_close (made.Closed conn ∷ past) h m = runs.closed conn m
fair_close (_ ∷ past) h m = absurd m

fair_read : (now : List Entry) (h : History) → ReadMoment h now → FairMoment now
fair_read [] h m = m
fair_read (entry ∷ past) h m = runs.read m.0 entry m.1

fair_offers : (forced : Bool) (h : History) (past : List Entry) (conn : Conn) (entry : Entry)
    → Offers forced h past conn entry → IsFair past entry
fair_offers forced h past conn entry (again port how r) = runs.again forced conn port how r
fair_offers forced h past conn entry (writes answer piece r unused) = runs.write conn answer piece r.writable

fair_offer : (now : List Entry) (h : History) → OfferMoment false h now → FairMoment now
fair_offer [] h m = m
fair_offer (entry ∷ past) h m = fair_offers false h past m.0 entry m.1

fair_job : (job : ℕ) (now : List Entry) (h : History) → JobMoment job h now → FairMoment now
fair_job job [] h m = m
fair_job job (entry ∷ past) h m = fair_offers false h past m.0 entry m.2

fair_look : (jobs : List Bool) (now : List Entry) (h : History) → LookMoment jobs h now → FairMoment now
fair_look jobs [] h m = m
fair_look jobs (entry ∷ past) h m = fair_offers true h past m.0 entry m.2

fair_other : (now : List Entry) → MadeElsewhere now → FairMoment now
fair_other [] m = m
fair_other (entry ∷ past) m = runs.other entry m

-- ---- waits

pub limit_most : (due : Option ℕ) (h : History) (ms : ℕ) (past : List Entry) → IsTurnWait due h ms past → ms ≤ 500
limit_most due h ms past rule = elim (some_awake past) [
  | inl some ↦ let zero_is = rule.limit.awaits some.place some.low some.awake in omega arith
  | inr none ↦ (rule.limit.rests none).least 500 most
]

pub sleeps_asleep : (due : Option ℕ) (h : History) (ms : ℕ) (past : List Entry) → IsTurnWait due h ms past → 0 < ms
    → (p : ℕ) → p < 64 → (status p past).awake ≡ false
sleeps_asleep due h ms past rule lt = elim (some_awake past) [
  | inl some ↦ let zero_is = rule.limit.awaits some.place some.low some.awake in absurd (omega arith)
  | inr none ↦ none
]

fair_turn : (due : Option ℕ) (h : History) (ms : ℕ) (past : List Entry) → IsTurnWait due h ms past → NoneDue past
    → IsFairWait ms past
fair_turn due h ms past rule calm = record {
  most = limit_most due h ms past rule;
  sleeps = sleeps_asleep due h ms past rule;
  sound = λ p low. (rule.served p low).sound;
  reads = reads_all h past rule.served;
  calm = calm;
}

fair_zero : (h : History) (past : List Entry) → AllServed h past → NoneDue past → IsFairWait 0 past
fair_zero h past served calm = record {
  most = omega arith;
  sleeps = λ lt. absurd (omega arith);
  sound = λ p low. (served p low).sound;
  reads = reads_all h past served;
  calm = calm;
}

one_wait : (due : Option ℕ) (h : History) (did : Did) (before after : List Entry) → NoneDue before
    → Waits due h did before after → Since FairMoment before after
one_wait due h did before after calm w = subst (Since FairMoment before) (sym w.is) (more start (runs.waited w.ms w.reports did (fair_turn due h w.ms before w.rule calm)))

behind_wait : (due : Option ℕ) (h : History) (did : Did) (before after : List Entry) → Waits due h did before after
    → is_after_wait after ≡ true
behind_wait due h did before after w = subst (λ j. is_after_wait j ≡ true) (sym w.is) refl

turn_fair : (due : Option ℕ) (result : Result ℕ LoopFault) (h : History) (before after : List Entry) → NoneDue before
    → TurnCame due result h before after → Since FairMoment before after
turn_fair due (Ok now) h before after calm came =
    subst (Since FairMoment before) (sym came.is) (more (one_wait due h Done before came.past calm came.waits) (runs.clock now (behind_wait due h Done before came.past came.waits)))
turn_fair due (Err (NetFault None)) h before after calm came = one_wait due h Failed before after calm came
turn_fair due (Err (NetFault (Some conn))) h before after calm came = absurd came
turn_fair due (Err Spent) h before after calm came = subst (Since FairMoment before) (sym came) start

look_wait : (jobs : List Bool) (C : Type 0) (h : History) (did : Did) (before after : List Entry) → C
    → LooksThenWaits jobs C h did before after → Since FairMoment before after
look_wait jobs C h did before after calm l =
    subst (Since FairMoment before) (sym l.is) (more (since_as (λ now m. fair_look jobs now h m) l.looks) (runs.waited 0 l.reports did (fair_zero h l.past l.served (l.none_due calm))))

look_fair : (jobs : List Bool) (C : Type 0) (result : Result (List Bool) LoopFault) (h : History) (before after : List Entry)
    → C → LookCame jobs C result h before after → Since FairMoment before after
look_fair jobs C (Ok names) h before after calm came = look_wait jobs C h Done before after calm came
look_fair jobs C (Err (NetFault None)) h before after calm came = look_wait jobs C h Failed before after calm came
look_fair jobs C (Err (NetFault (Some conn))) h before after calm came = since_as (λ now m. fair_look jobs now h m) came.looks
look_fair jobs C (Err Spent) h before after calm came = subst (Since FairMoment before) (sym came) start

-- ---- any calls

call_holds : (old new : Loop) (h k : History) (before after : List Entry) → Calls old h before new k after
    → StandsFor old h before → StandsFor new k after × Since FairMoment before after
call_holds old _ h _ before _ (runs.begins job heart result new after goes) stand = let r = goes.so h stand in (r.0, since_as (λ now m. fair_begin now h m) r.1)
call_holds old _ h _ before _ (runs.queues conn bytes result new goes) stand = (goes stand, start)
call_holds old _ h _ before _ (runs.offers result new after goes) stand = let r = goes.so h stand in (r.0, since_as (λ now m. fair_offer now h m) r.1)
call_holds old _ h _ before _ (runs.offers_job job new after goes) stand = let r = goes.so h stand in (r.0, since_as (λ now m. fair_job job now h m) r.1)
call_holds old _ h _ before _ (runs.turns due result last new after calm goes) stand = let r = goes.so h stand in (r.0, turn_fair due result h before after (goes.calm h stand calm) r.1)
call_holds old _ h _ before _ (runs.looks jobs result last new after calm goes) stand = let r = goes.so h stand in (r.0, look_fair jobs (IsCalm last old) result h before after calm r.1)
call_holds old _ h _ before _ (runs.reads result new after goes) stand = let r = goes.so h stand in (r.0, since_as (λ now m. fair_read now h m) r.1)
call_holds old _ h _ before _ (runs.closes new after goes) stand = let r = goes.so h stand in (r.0, since_as (λ now m. fair_close now h m) r.1)
call_holds old _ h _ before _ (runs.elsewhere after since) stand = (others_stand old h before after since stand, since_as fair_other since)

pub runs_hold : (first : Loop) (asked : History) (start_at : List Entry) → StandsFor first asked start_at
    → (l : Loop) (h : History) (journal : List Entry) → Runs first asked start_at l h journal
    → StandsFor l h journal × Since FairMoment start_at journal
runs_hold first asked start_at stand _ _ _ runs.none = (stand, start)
runs_hold first asked start_at stand _ _ _ (runs.then l new h k before after run call) =
    let was = runs_hold first asked start_at stand l h before run in
    let r = call_holds l new h k before after call was.0 in
    (r.0, since_then was.1 r.1)
