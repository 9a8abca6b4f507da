-- What the clock, a loss and a last look make of what an execution stands for.
use Rattle.std.proofs.Common.{◌≡◌, ◌⊎◌, inl, inr, ◌+◌, ◌≤◌, arith, ℕ, Bool, true, false, List, [], ◌∷◌, ◌++◌, length, Some, Result, Ok, Err, refl, sym, ◌∙◌, ap, subst}
use Rattle.std.specs.Prelude.{codes, if◌then◌else◌, OnOk}
use Rattle.std.proofs.Math.Bool.{true≢false}
use Rattle.std.proofs.lemmas.Bool.{cases_Bool}
use Rattle.world.specs.declared.chan.Chan.TheVariants.{Shell, Iopub, Heart}
use Rattle.world.specs.declared.entry.Entry.{Entry}
use Rattle.world.specs.declared.entry.Entry.TheVariants as made
use Rattle.world.specs.Moments.{Since}
use Rattle.world.specs.Places as places
use Rattle.zmtp_wire.proofs.MeaningLemmas.{meant, newer_grows, shaken_grows, shaken_meant}
use Rattle.zmtp_wire.proofs.ShakenLemmas.{none_before}
use Rattle.zmtp_wire.specs.Meaning.{messages_in, contexts_in, answer_to}
use Rattle.zmtp_peer.proofs.OwedLemmas.{owed_grows, owed_none}
use Rattle.jmsg.specs.Encoded.{encode}
use Rattle.jcontent.specs.Requests.{empty}
use Rattle.kernel_talk.specs.Asking.{Asked, asks, is_ready as has_answer}
use Rattle.kernel_talk.specs.Pinging.{Pinged}
use Rattle.kernel_talk.specs.Requests.{Identity, message_id, request}
use Rattle.kernel_lines.specs.Happened.{Given, History}
use Rattle.kernel_lines.specs.Line.{StandsFor as LineStandsFor, role_of, taken_of}
use Rattle.kernel_lines.specs.Lines.{OthersStay, line_on}
use Rattle.kernel_lines.specs.Lines as sides
use Rattle.kernel_lines.specs.declared.lines.Lines.{Lines}
use Rattle.cell_core.specs.declared.act.Act.{Act}
use Rattle.cell_core.specs.declared.act.Act.TheVariants.{Nothing, Start, Send, Look, Interrupt, Save, Stop}
use Rattle.cell_core.specs.declared.event.Event.{Event}
use Rattle.cell_core.specs.declared.event.Event.TheVariants.{Saved, Ready, Io, Reply, Moment, Looked, Lost, Broken}
use Rattle.cell_core.specs.declared.step.Step.{Step}
use Rattle.cell_core.specs.declared.machine.Core.{Core}
use Rattle.cell_core.specs.Acts.{IsTimely, has_stopped, heard, wants_look_of}
use Rattle.cell_core.specs.StandsFor.{Hears as CoreHears}
use Rattle.cell_core.specs.Answering.{can_answer}
use Rattle.cell_core.specs.Events.{came, is_broken, is_looked, is_saved, time}
use Rattle.cell_core.specs.Holds.{is_save, now_of}
use Rattle.cell_core.specs.StandsFor.{StandsFor, awaits_saved_of, task_of}
use Rattle.cell_core.proofs.Answering.{answers_kind, heard_all}
use Rattle.job_end.specs.declared.end.End.{End}
use Rattle.job_end.specs.declared.end.End.TheVariants.{NoMemory}
use Rattle.run_journal.specs.Agreement.{IsOther, moment, lost}
use Rattle.run_journal.specs.Arrivals.{ask_state, can_ask, is_ready}
use Rattle.run_journal.specs.Codec.{Info}
use Rattle.run_journal.specs.Job.{Job}
use Rattle.run_journal.specs.Parts.{bytes_put}
use Rattle.run_journal.specs.Requests.{requests}
use Rattle.job_journal.specs.Line.{parts_of as message_of}
use Rattle.job_journal.specs.Ended.{IsWhole}
use Rattle.job_journal.specs.Plot.{Plot, IsFor, facts, speaker}
use Rattle.job_journal.specs.Quiet.{IsQuietNow}
use Rattle.job_journal.specs.Standing.{HasEndedAs, Sends, StandsBy, question}
use Rattle.job_journal.proofs.Acking.{requests_on}
use Rattle.job_journal.proofs.Books.{none_anew}
use Rattle.job_journal.proofs.Clocked.{clock_asks, clock_passes, question_sent}
use Rattle.job_journal.proofs.Ending.{ends_standing}
use Rattle.job_journal.proofs.Handing.{sends_ping}
use Rattle.job_journal.proofs.Plots.{for_still}
use Rattle.job_journal.proofs.Quiet.{requests_same, stands_on}
use Rattle.job_journal.proofs.Subscribing.{OwedLaws, asks_by_lines}
use Rattle.job_journal.proofs.Talks.{asks_at}
use Rattle.job_journal.proofs.Steps.{goes_next}
use Rattle.job_journal.specs.Told.{is_stop}
use Rattle.job_run.specs.declared.execution.Execution.{Execution}
use Rattle.job_run.specs.Held.{IsSaid}
use Rattle.job_run.specs.Said.{QueuesNext, next_message}
use Rattle.job_run.specs.Standing.{EndsSo, GoesBy, GoesOnBy, HasTurned, HearsClock, IsTurned, KeepsClock, KnowsBy, NotesError, PassesBy, Stands, StandsOrEnds, StandsTo, StaysStill, is_idle, is_passing, parts_of}
use Rattle.job_run.specs.Told.{Hears, MayCome}
use Rattle.job_run.specs.Used.{TakesEvent}
use Rattle.job_run.proofs.ActLemmas.{idle_stands}
use Rattle.job_run.proofs.EndLemmas.{starved_so}
use Rattle.job_run.proofs.BrokenLemmas.{none_broke}
use Rattle.job_run.proofs.LiveLemmas.{heard_so, within_clock}
use Rattle.job_run.proofs.StandingLemmas.{answered_kind, told_other}
use Rattle.job_run.proofs.ToldLemmas.{timely_by}

-- ---- an event that is told comes in time

pub timely_told : (x : Execution) (named : Bool) (e : Event) (told : List Event) → Hears x.core x.clock named → MayCome x.core x.clock named e → awaits_saved_of x.core ≡ false → StandsFor x.core told
    → has_stopped (task_of x.core) (heard (task_of x.core) told) ≡ false → IsTimely (task_of x.core) e told
timely_told x named e told hears may calm stands on =
    timely_by x.core x.clock named e told may stands
    (subst (λ es. time es ≤ x.clock) (sym (heard_all (task_of x.core) told on)) (within_clock x.core told stands calm on x.clock named hears))

-- ---- an event of the clock, or a loss

passing_other : (e : Event) → is_passing e ≡ true → IsOther e
passing_other (Moment ms) q = moment ms
passing_other Lost q = lost
passing_other Saved q = absurd (true≢false (sym q))
passing_other Ready q = absurd (true≢false (sym q))
passing_other (Io m) q = absurd (true≢false (sym q))
passing_other (Reply f) q = absurd (true≢false (sym q))
passing_other Looked q = absurd (true≢false (sym q))
passing_other Broken q = absurd (true≢false (sym q))

-- it tells of no broken stream
passing_whole : (e : Event) → is_passing e ≡ true → is_broken e ≡ false
passing_whole (Moment ms) q = refl
passing_whole Lost q = refl
passing_whole Saved q = refl
passing_whole Ready q = refl
passing_whole (Io m) q = refl
passing_whole (Reply f) q = refl
passing_whole Looked q = refl
passing_whole Broken q = absurd (true≢false (sym q))

-- and is no look
passing_unlooked : {A : Type 0} (e : Event) → is_passing e ≡ true → is_looked e ≡ true → A
passing_unlooked (Moment ms) q l = absurd (true≢false (sym l))
passing_unlooked Lost q l = absurd (true≢false (sym l))
passing_unlooked Saved q l = absurd (true≢false (sym l))
passing_unlooked Ready q l = absurd (true≢false (sym l))
passing_unlooked (Io m) q l = absurd (true≢false (sym l))
passing_unlooked (Reply f) q l = absurd (true≢false (sym l))
passing_unlooked Looked q l = absurd (true≢false (sym q))
passing_unlooked Broken q l = absurd (true≢false (sym l))

-- it is answered by a look at most
passing_idle : (e : Event) (act : Act) → IsOther e → is_passing e ≡ true → can_answer e act ≡ true → is_idle act ≡ true
passing_idle e Nothing o q k = refl
passing_idle e Start o q k = refl
passing_idle e Look o q k = refl
passing_idle _ (Send cell) (moment ms) q k = absurd (true≢false (sym k))
passing_idle _ Interrupt (moment ms) q k = absurd (true≢false (sym k))
passing_idle _ (Save n) (moment ms) q k = absurd (true≢false (sym k))
passing_idle _ (Stop cause) (moment ms) q k = absurd (true≢false (sym k))
passing_idle _ (Send cell) lost q k = absurd (true≢false (sym k))
passing_idle _ Interrupt lost q k = absurd (true≢false (sym k))
passing_idle _ (Save n) lost q k = absurd (true≢false (sym k))
passing_idle _ (Stop cause) lost q k = absurd (true≢false (sym k))
passing_idle Looked act o q k = absurd (true≢false (sym q))
passing_idle Broken act o q k = absurd (true≢false (sym q))

module _ (p : Plot) (number : ℕ) (x z : Execution) (e : Event) (answer : Step) (named : Bool) (rest : z ≡ record x { core = z.core }) (took : TakesEvent e answer x.core z.core)
    (hears : Hears x.core x.clock named) (may : MayCome x.core x.clock named e) (calm : awaits_saved_of x.core ≡ false) (other : is_saved e ≡ false) where
  going : (clock : ℕ) (now : List Entry) (s : Stands p number (record x { clock = clock }) now) → has_stopped (task_of x.core) (heard (task_of x.core) s.parts.core.told) ≡ false
  going clock now s = subst (λ task. has_stopped task (heard task s.parts.core.told) ≡ false) (sym s.parts.is_for.task_is) s.parts.core.hears.goes_on

  timely_by_stands : (clock : ℕ) (now : List Entry) (s : Stands p number (record x { clock = clock }) now) → IsTimely (task_of x.core) e s.parts.core.told
  timely_by_stands clock now s = timely_told x named e s.parts.core.told hears may calm s.parts.core.hears.stands (going clock now s)

  -- no broken stream was told
  unbroken : {A : Type 0} (clock : ℕ) (now : List Entry) (s : Stands p number (record x { clock = clock }) now) → is_broken e ≡ false → came is_broken (e ∷ s.parts.core.told) ≡ true → A
  unbroken clock now s whole = none_broke (facts p) x.core s.parts.core.told s.parts.core.hears s.parts.is_for.task_is calm e whole

  idle_by : (clock : ℕ) (now : List Entry) → Stands p number (record x { clock = clock }) now → is_passing e ≡ true → is_idle answer.act ≡ true
  idle_by clock now s q =
      passing_idle e answer.act (passing_other e q) q
      (answered_kind p number (record x { clock = clock }) z.core e answer now s took (other ∙ sym calm) (timely_by_stands clock now s))

  -- nothing is to be done, and nothing but the core has changed
  pub told_goes_by : (clock : ℕ) (now : List Entry) → is_passing e ≡ true → Stands p number (record x { clock = clock }) now → GoesBy p number clock x z now
  told_goes_by clock now q s =
      let k : Execution = record x { clock = clock } in
      let to : StandsTo p number (record k { core = z.core }) answer.act now
      = told_other p number k z.core e answer now s took (other ∙ sym calm) (timely_by_stands clock now s) (record k { core = z.core }) refl (unbroken clock now s (passing_whole e q))
      (passing_unlooked e q) (passing_other e q) in
      let so : Stands p number (record (record x { core = z.core }) { clock = clock }) now = idle_stands p number (record k { core = z.core }) answer.act now (idle_by clock now s q) to in
      record { rest = rest; stands = subst (λ (v : Execution). Stands p number (record v { clock = clock }) now) (sym rest) so }

  pub step_passes : {U : Type 0} (y : Execution) (r : Result U End) (before after : List Entry) → is_passing e ≡ true → (is_idle answer.act ≡ true → StaysStill z y r)
      → (is_idle answer.act ≡ true → after ≡ before) → PassesBy p number x y r before after
  step_passes y r before after q still same clock now s =
      let idle : is_idle answer.act ≡ true = idle_by clock now s q in
      let stays : StaysStill z y r = still idle in
      (subst (λ (v : Execution). GoesBy p number clock x v now) (sym stays.same) (told_goes_by clock now q s), stays.no_end, same idle)

  -- another event that changes no request: what its act is for is due by the journal
  pub step_stands : (now : List Entry) → IsOther e → is_broken e ≡ false → (is_looked e ≡ true → IsWhole (facts p) now) → Stands p number x now → StandsTo p number z answer.act now
  step_stands now o whole seen s =
      told_other p number x z.core e answer now s took (other ∙ sym calm) (timely_by_stands x.clock now s) z rest (unbroken x.clock now s whole)
      (λ l. (seen l, subst (λ n. time s.parts.core.told ≤ n) s.parts.clock (within_clock x.core s.parts.core.told s.parts.core.hears.stands calm (going x.clock now s) x.clock named hears))) o

-- ---- the clock that the core knows

-- the core of an execution that goes on was told an event of the clock, or a loss
module _ (x z : Execution) (e : Event) (answer : Step) (named : Bool) (took : TakesEvent e answer x.core z.core) (hears : Hears x.core x.clock named) (may : MayCome x.core x.clock named e)
    (calm : awaits_saved_of x.core ≡ false) (other : is_saved e ≡ false) (passing : is_passing e ≡ true) (awaited : awaits_saved_of z.core ≡ is_save answer.act)
    (told : List Event) (on : GoesOnBy x.core told) where
  timely : IsTimely (task_of x.core) e told
  timely = timely_told x named e told hears may calm on.stands on.goes_on

  kind : can_answer e answer.act ≡ true
  kind = subst (λ (act : Act). can_answer e act ≡ true) (sym (took.act told on.stands timely))
      (answers_kind (task_of x.core) x.core.clock x.core.lost x.core.state e told on.stands.so (other ∙ sym calm) timely on.goes_on x.core.later)

  idle : is_idle answer.act ≡ true
  idle = passing_idle e answer.act (passing_other e passing) passing kind

  idle_goes : (act : Act) → is_idle act ≡ true → (is_stop act ≡ false) × (is_save act ≡ false)
  idle_goes Nothing i = (refl, refl)
  idle_goes Start i = (refl, refl)
  idle_goes Look i = (refl, refl)
  idle_goes (Send cell) i = absurd (true≢false (sym i))
  idle_goes Interrupt i = absurd (true≢false (sym i))
  idle_goes (Save n) i = absurd (true≢false (sym i))
  idle_goes (Stop cause) i = absurd (true≢false (sym i))

  goes_then : has_stopped (task_of z.core) (heard (task_of z.core) (e ∷ told)) ≡ false
  goes_then =
      subst (λ task. has_stopped task (heard task (e ∷ told)) ≡ false) (sym took.same)
      (goes_next (task_of x.core) e told answer.act on.goes_on (took.act told on.stands timely) (idle_goes answer.act idle).0)

  -- it knows the clock by that event
  knows_then : now_of z.core.clock ≡ time (e ∷ told)
  knows_then = sym (heard_so z.core (e ∷ told) (took.stands told on.stands timely) (awaited ∙ (idle_goes answer.act idle).1) goes_then).now

  pub step_knows : {U : Type 0} (y : Execution) (r : Result U End) → (is_idle answer.act ≡ true → StaysStill z y r) → OnOk r (now_of y.core.clock ≡ time (e ∷ told))
  step_knows y (Ok u) still = ap (λ (v : Execution). now_of v.core.clock) (still idle).same ∙ knows_then
  step_knows y (Err k) still = tt

-- where an execution wants no look its core is told the clock
pub clock_heard : {U : Type 0} (x y : Execution) (r : Result U End) → KnowsBy (Moment x.clock) x y r → HearsClock x y r
clock_heard x y (Ok u) knows told on still = let same : now_of y.core.clock ≡ x.clock = knows told on in omega (arith, same)
clock_heard x y (Err e) knows told on still = tt

-- a loss leaves the clock
pub loss_keeps : {U : Type 0} (x y : Execution) (r : Result U End) → awaits_saved_of x.core ≡ false → KnowsBy Lost x y r → KeepsClock x y r
loss_keeps x y (Ok u) calm knows told on =
    let same : now_of y.core.clock ≡ now_of x.core.clock = knows told on ∙ (heard_so x.core told on.stands calm on.goes_on).now in
    omega (arith, same)
loss_keeps x y (Err e) calm knows told on = tt

-- nothing was told
pub passes_still : (p : Plot) (number : ℕ) (x : Execution) (now : List Entry) → PassesBy {U = Unit {0}} p number x x (Ok tt) now now
passes_still p number x now clock at s = (record { rest = refl; stands = s }, tt, refl)

-- where the execution stood for the journal, it does again
pub passes_on : {U : Type 0} (p : Plot) (number : ℕ) (x y : Execution) (r : Result U End) (before after : List Entry) → PassesBy p number x y r before after → Stands p number x before
    → StandsOrEnds p number y r after
passes_on p number x y (Err e) before after pass s = absurd (pass x.clock before s).1
passes_on p number x y (Ok u) before after pass s =
    let g = pass x.clock before s in
    let clock_is : y.clock ≡ x.clock = ap (λ (v : Execution). v.clock) g.0.rest in
    subst (λ now. Stands p number y now) (sym g.2) (subst (λ c. Stands p number (record y { clock = c }) before) (sym clock_is) g.0.stands)

-- ---- a turn

-- the core of an execution that stands for the journal goes on by what it was told
goes_by : (p : Plot) (number : ℕ) (x : Execution) (past : List Entry) (s : Stands p number (record x { clock = places.time past }) past) → GoesOnBy x.core s.parts.core.told
goes_by p number x past s = record {
  stands = s.parts.core.hears.stands;
  goes_on = subst (λ task. has_stopped task (heard task s.parts.core.told) ≡ false) (sym s.parts.is_for.task_is) s.parts.core.hears.goes_on;
}

-- and knows the clock by it
told_so : (p : Plot) (number : ℕ) (x : Execution) (past : List Entry) (s : Stands p number (record x { clock = places.time past }) past) → awaits_saved_of x.core ≡ false
    → CoreHears x.core.clock x.core.lost s.parts.core.told
told_so p number x past s calm = let g = goes_by p number x past s in heard_so x.core s.parts.core.told g.stands calm g.goes_on

-- the moment of a turn is noted: before it the execution stood for the journal
module _ (p : Plot) (number : ℕ) (x y : Execution) (ms : ℕ) (now : List Entry) (rest : y ≡ record x { clock = y.clock }) (turns : x.clock ≤ ms → y.clock ≡ ms) (t : IsTurned p number x ms now) where
  noted_is : y.clock ≡ ms
  noted_is = turns (omega (arith, t.stands.earlier, t.rises))

  abbrev stood : Stands p number (record y { clock = places.time t.past }) t.past
  stood = subst (λ (v : Execution). Stands p number (record v { clock = places.time t.past }) t.past) (sym rest) t.stands.stands

  turned_on : GoesOnBy y.core stood.parts.core.told
  turned_on = record {
    stands = stood.parts.core.hears.stands;
    goes_on = subst (λ task. has_stopped task (heard task stood.parts.core.told) ≡ false) (sym stood.parts.is_for.task_is) stood.parts.core.hears.goes_on;
  }

  unlooked : wants_look_of (task_of y.core) stood.parts.core.told ≡ false
  unlooked = subst (λ (c : Core). StandsFor c stood.parts.core.told → wants_look_of (task_of c) stood.parts.core.told ≡ false) (sym (ap (λ (v : Execution). v.core) rest)) (t.unlooked stood.parts.core.told)
      turned_on.stands

  -- its core is told the clock: it has turned
  pub has_turned : (z : Execution) (after : List Entry) → PassesBy {U = Unit {0}} p number y z (Ok tt) now after → HearsClock {U = Unit {0}} y z (Ok tt) → awaits_saved_of z.core ≡ false
      → HasTurned p number z after
  has_turned z after pass hears calm =
      let g = pass (places.time t.past) t.past stood in
      record {
        past = t.past;
        stands = g.0.stands;
        knows = knows_clock z y.clock t.past g.0.stands calm (ap (λ (v : Execution). v.clock) g.0.rest) (hears stood.parts.core.told turned_on unlooked);
        taken = subst (λ (v : Execution). taken_of (line_on v.lines Iopub) ≡ length (bytes_put (facts p) Iopub t.past)) (sym (g.0.rest ∙ ap (λ (v : Execution). record v { core = z.core }) rest)) t.taken;
        since = subst (λ n. Since (IsQuietNow (facts p)) (made.Moment n ∷ t.past) after) (sym (ap (λ (v : Execution). v.clock) g.0.rest ∙ noted_is))
            (subst (λ es. Since (IsQuietNow (facts p)) (made.Moment ms ∷ t.past) es) (sym g.2) t.since);
      }
    where
      knows_clock : (z : Execution) (clock : ℕ) (past : List Entry) (s : Stands p number (record z { clock = places.time past }) past) → awaits_saved_of z.core ≡ false → z.clock ≡ clock
          → clock ≤ now_of z.core.clock → z.clock ≤ time s.parts.core.told
      knows_clock z clock past s calm same within =
          let now = (told_so p number z past s calm).now in omega (arith, same, within, now)

  pub turned_goes : (z : Execution) (e : End) (after : List Entry) → PassesBy {U = Unit {0}} p number y z (Err e) now after → ⊥
  turned_goes z e after pass = (pass (places.time t.past) t.past stood).1

-- a loss is told after it
pub turned_loses : (p : Plot) (number : ℕ) (x y : Execution) (before after : List Entry) → PassesBy {U = Unit {0}} p number x y (Ok tt) before after → KeepsClock {U = Unit {0}} x y (Ok tt)
    → awaits_saved_of x.core ≡ false → awaits_saved_of y.core ≡ false → HasTurned p number x before → HasTurned p number y after
turned_loses p number x y before after pass keeps calm calm_then h =
    let g = pass (places.time h.past) h.past h.stands in
    let was = (told_so p number x h.past h.stands calm).now in
    let now = (told_so p number y h.past g.0.stands calm_then).now in
    let within : now_of x.core.clock ≤ now_of y.core.clock = keeps h.stands.parts.core.told (goes_by p number x h.past h.stands) in
    let clock : y.clock ≡ x.clock = ap (λ (v : Execution). v.clock) g.0.rest in
    let knew : x.clock ≤ time h.stands.parts.core.told = h.knows in
    record {
      past = h.past;
      stands = g.0.stands;
      knows = omega (arith, was, now, within, clock, knew);
      taken = subst (λ (v : Execution). taken_of (line_on v.lines Iopub) ≡ length (bytes_put (facts p) Iopub h.past)) (sym g.0.rest) h.taken;
      since = subst (λ now. Since (IsQuietNow (facts p)) (made.Moment y.clock ∷ h.past) now) (sym g.2)
          (subst (λ (v : Execution). Since (IsQuietNow (facts p)) (made.Moment v.clock ∷ h.past) before) (sym g.0.rest) h.since);
    }

pub loss_goes : (p : Plot) (number : ℕ) (x y : Execution) (e : End) (before after : List Entry) → PassesBy {U = Unit {0}} p number x y (Err e) before after → HasTurned p number x before → ⊥
loss_goes p number x y e before after pass h = (pass (places.time h.past) h.past h.stands).1

-- ---- the requests at a clock entry

-- no request comes to stand with it, and those that stand go on as they are
ready_clocked : (j : Job) (ms : ℕ) (past : List Entry) → is_ready j (made.Moment ms ∷ past) ≡ is_ready j past
ready_clocked j ms past = ap (λ (a : Asked). has_answer a) (asks_at j ms past) ∙ by (asks (ask_state j past) (can_ask j past) ms)
  where
    by : (b : Bool)
        → has_answer (if b then record { ids = (ask_state j past).ids ++ j.msg_id (length (ask_state j past).ids + 1) ∷ []; at = Some ms; told = (ask_state j past).told; heard = (ask_state j past).heard } else ask_state j past)
        ≡ is_ready j past
    by true = refl
    by false = refl

pub requests_clocked : (j : Job) (ms : ℕ) (past : List Entry) → j.task.times.interrupt ≡ false → requests j (made.Moment ms ∷ past) ≡ requests j past
requests_clocked j ms past plain =
    none_anew j (made.Moment ms) past refl (ready_clocked j ms past) ∙ requests_same j plain (made.Moment ms) past (λ c. refl) (requests j past)

-- ---- the kernel is asked

-- what the wire promises
wire_laws : OwedLaws
wire_laws = record {
  grows = owed_grows;
  none = owed_none;
  first = λ r b e. (none_before b r (messages_in r b) (contexts_in r b) (answer_to r b) (meant r b) (λ s. true≢false (sym ((shaken_meant r b).1 s) ∙ e))).1;
  shaken = λ r b e. (shaken_meant r b).0 e;
  stays = shaken_grows;
  newer = newer_grows;
}

module _ (p : Plot) (number : ℕ) (x : Execution) (now : List Entry) (h : HasTurned p number x now) where
  abbrev j : Job
  j = facts p

  -- the kernel can be asked where it can by the journal
  pub can_by_lines : (can : Bool)
      → ((shell iopub : History) (out given : List ℕ) → LineStandsFor (line_on x.lines Shell) shell out → LineStandsFor (line_on x.lines Iopub) iopub given → can ≡ sides.can_ask x.lines shell iopub)
      → can ≡ can_ask j h.past
  can_by_lines can is =
      let ls = h.stands.parts.lines in
      is ls.shell.past ls.iopub.past ls.shell.out ls.iopub.out ls.shell.stands ls.iopub.stands
      ∙ asks_by_lines wire_laws p x.lines [] [] h.past ls.shell ls.iopub h.taken

  -- the same requests stand
  turned_noted : NotesError j x.request (requests j now)
  turned_noted =
      subst (NotesError j x.request)
      (sym (requests_on j (made.Moment x.clock ∷ h.past) now h.stands.parts.undated h.since ∙ requests_clocked j x.clock h.past h.stands.parts.undated)) h.stands.noted

  -- it isn't asked
  pub unasked_stands : (can : Bool) → can ≡ can_ask j h.past → asks x.asking can x.clock ≡ false → Stands p number x now
  unasked_stands can is e = record {
    parts = stands_on p number (parts_of x) [] [] (made.Moment x.clock ∷ h.past) now h.since
        (clock_passes p number (parts_of (record x { clock = places.time h.past })) h.past x.clock h.stands.parts can is (λ asked. h.knows) e);
    asked = record { terms = h.stands.asked.terms; tagged = h.stands.asked.tagged };
    noted = turned_noted;
  }

  -- the asking with one question more
  abbrev more : Asked
  more = record { ids = x.asking.ids ++ message_id p.setting.session (x.session.made + 1) ∷ []; at = Some x.clock; told = x.asking.told; heard = x.asking.heard }

  -- it is asked: the question is to be sent
  asked_parts : (can : Bool) → can ≡ can_ask j h.past → asks x.asking can x.clock ≡ true
      → StandsBy p number (parts_of (record x { asking = more })) (question (x.session.made + 1) x.clock ∷ []) [] now
  asked_parts can is e =
      stands_on p number (parts_of (record x { asking = more })) (question (x.session.made + 1) x.clock ∷ []) [] (made.Moment x.clock ∷ h.past) now h.since
      (clock_asks p number (parts_of (record x { clock = places.time h.past })) h.past x.clock h.stands.parts can is h.knows e)

  -- wherever a job ends then, the saves that were made are the first that are due
  turned_ends : HasEndedAs p now
  turned_ends = by (cases_Bool (asks x.asking (can_ask j h.past) x.clock))
    where
      by : (asks x.asking (can_ask j h.past) x.clock ≡ true) ⊎ (asks x.asking (can_ask j h.past) x.clock ≡ false) → HasEndedAs p now
      by (inl e) =
          ends_standing p number (parts_of (record x { asking = more })) (question (x.session.made + 1) x.clock ∷ []) [] now (asked_parts (can_ask j h.past) refl e)
      by (inr e) = ends_standing p number (parts_of x) [] [] now (unasked_stands (can_ask j h.past) refl e).parts

  -- so it ends for want of memory
  pub turned_starved : EndsSo p NoMemory now
  turned_starved = starved_so p now turned_ends

  module _ (z : Execution) (said : IsSaid x z) (q : QueuesNext Shell (codes "kernel_info_request") empty x z) where
    made_is : z.session.made ≡ x.session.made + 1
    made_is = ap (λ (i : Identity). i.made) q.made

    name_is : z.session.name ≡ x.session.name
    name_is = ap (λ (i : Identity). i.name) q.made

    message_is : next_message x (codes "kernel_info_request") empty ≡ message_of (speaker p) Info z.session.made x.clock
    message_is =
        ap (λ key. encode key (request x.session.name (x.session.made + 1) x.clock (codes "kernel_info_request") empty)) h.stands.parts.is_for.key_is
        ∙ ap (λ name. encode p.setting.key (request name (x.session.made + 1) x.clock (codes "kernel_info_request") empty)) h.stands.parts.is_for.session_is
        ∙ ap (λ n. encode p.setting.key (request p.setting.session n x.clock (codes "kernel_info_request") empty)) (sym made_is)

    sends : Sends x.lines z.lines (message_of (speaker p) Info z.session.made x.clock)
    sends = record {
      others = q.others;
      role = q.role;
      stands = λ past out st. subst (λ v. LineStandsFor (line_on z.lines Shell) (Given v ∷ past) out) message_is (q.line past out st);
    }

    is_for : IsFor p number z.session x.core x.book
    is_for = for_still p number x.session z.session x.core x.core x.book x.book h.stands.parts.is_for name_is (ap (λ (i : Identity). i.key) q.made) refl refl refl

    id_is : message_id z.session.name z.session.made ≡ message_id p.setting.session (x.session.made + 1)
    id_is = ap (λ (i : Identity). message_id i.name i.made) q.made ∙ ap (λ name. message_id name (x.session.made + 1)) h.stands.parts.is_for.session_is

    -- the question was queued
    pub asked_stands : (can : Bool) → can ≡ can_ask j h.past → asks x.asking can x.clock ≡ true → (id : List ℕ) → id ≡ message_id z.session.name z.session.made → (asking : Asked)
        → asking ≡ record { ids = z.asking.ids ++ id ∷ []; at = Some z.clock; told = z.asking.told; heard = z.asking.heard } → Stands p number (record z { asking = asking }) now
    asked_stands can is e id own asking asking_is =
        let full : record z { asking = asking } ≡ record x { session = z.session; lines = z.lines; asking = more }
        = ap (λ (a : Asked). record z { asking = a }) asking_is
        ∙ ap (λ (v : Execution). record v { asking = record { ids = v.asking.ids ++ id ∷ []; at = Some v.clock; told = v.asking.told; heard = v.asking.heard } }) said
        ∙ ap (λ i. record x { session = z.session; lines = z.lines; asking = record { ids = x.asking.ids ++ i ∷ []; at = Some x.clock; told = x.asking.told; heard = x.asking.heard } }) (own ∙ id_is) in
        subst (λ (v : Execution). Stands p number v now) (sym full) (record {
          parts = question_sent p number (parts_of (record x { asking = more })) now z.lines z.session (asked_parts can is e) is_for sends made_is;
          asked = record { terms = h.stands.asked.terms; tagged = h.stands.asked.tagged };
          noted = turned_noted;
        })

-- ---- the kernel is pinged

pub pinged_stands : (p : Plot) (number : ℕ) (x : Execution) (now : List Entry) (lines : Lines) (pings : Pinged) (parts : List (List ℕ)) → OthersStay Heart x.lines lines
    → role_of (line_on lines Heart) ≡ role_of (line_on x.lines Heart)
    → ((past : History) (out : List ℕ) → LineStandsFor (line_on x.lines Heart) past out → LineStandsFor (line_on lines Heart) (Given parts ∷ past) out) → Stands p number x now
    → Stands p number (record x { lines = lines; pings = pings }) now
pinged_stands p number x now lines pings parts others role stands s = record {
  parts = sends_ping p number (parts_of x) [] [] now lines parts others role stands s.parts;
  asked = record { terms = s.asked.terms; tagged = s.asked.tagged };
  noted = s.noted;
}

-- ---- asked, and then pinged

pub asked_then : {U E : Type 0} (r : Result U E) (x y z : Execution) → ((p : Plot) (number : ℕ) (now : List Entry) → HasTurned p number x now → Stands p number y now)
    → ((p : Plot) (number : ℕ) (now : List Entry) → Stands p number y now → OnOk r (Stands p number z now))
    → OnOk r ((p : Plot) (number : ℕ) (now : List Entry) → HasTurned p number x now → Stands p number z now)
asked_then (Ok u) x y z first then_ = λ p number now h. then_ p number now (first p number now h)
asked_then (Err e) x y z first then_ = tt
