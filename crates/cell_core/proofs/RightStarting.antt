-- Each move before readiness keeps the relation, and its answer is the definitions'.
use Rattle.std.proofs.Common.{◌≡◌, ℕ, ◌+◌, ◌<◌, ◌≤◌, List, [], ◌∷◌, length, Bool, true, false, ◌||◌, if◌then◌else◌, Option, Some, None, is_some, option_map, refl, sym, ap, subst, ◌∙◌, true≢false, arith, inl, inr}
use Rattle.std.specs.Option.{ForSome}
use Rattle.std.proofs.lemmas.Bool.{cases_Bool}
use Rattle.cell_core.specs.declared.event.Event.{Event}
use Rattle.cell_core.specs.declared.event.Event.TheVariants.{Saved, Ready, Io, Reply, Moment, Looked, Lost, Broken}
use Rattle.cell_core.specs.declared.why.Why.{Why}
use Rattle.cell_core.specs.declared.why.Why.TheVariants.{NotReady, KernelLost, BadPeer}
use Rattle.cell_core.specs.declared.act.Act.{Act}
use Rattle.cell_core.specs.declared.act.Act.TheVariants.{Nothing, Send, Look}
use Rattle.cell_core.specs.declared.state.State.TheVariants.{Starting}
use Rattle.cell_core.specs.Task.{Task, cell_of}
use Rattle.cell_core.specs.Events.{is_moment, is_looked, is_turn_at, ever, time, start_time, is_saved, is_ready, is_broken, is_lost, came, look_since}
use Rattle.cell_core.specs.Requests.{Standing, standing}
use Rattle.cell_core.specs.Saves.{why_not_done, why}
use Rattle.cell_core.specs.Acts.{is_late, answers, is_used}
use Rattle.cell_core.specs.declared.clock.Clock.{Clock}
use Rattle.cell_core.specs.declared.clock.Clock.TheVariants.{Unread, Started, Turned}
use Rattle.cell_core.specs.Holds.{now_of, is_read, is_past, read_again, clock_after, lost_after}
use Rattle.cell_core.specs.Deadlines.{first_deadline, start_from, start_deadline, by_limit, looked_by}
use Rattle.cell_core.specs.Moves.{move, stays, limit_from, sends, stops, start_due, in_starting}
use Rattle.cell_core.specs.StandsFor.{Hears, Reached, Stands, IsStarting, IsRunning, HasStopped}
use Rattle.cell_core.proofs.Requests.{reached_waits, reached_first, standing_none}
use Rattle.cell_core.proofs.SavesLemmas.{at, rest_of_none, unacked_none, saves_none, failing_none, no_stop_none}
use Rattle.cell_core.proofs.Moving.{all_done, rest_none, why_waits, no_cause_none}
use Rattle.cell_core.proofs.Clocks.{unread_none, looked_none, since_unheld, past_is, ahead, Rises, hears_more, queued_none, deadline_unreplied}
use Rattle.cell_core.proofs.Right.{Right, act_from, act_on, unlooked_by}
use Rattle.cell_core.proofs.RightRunning.{first_by, late_now, looked_calm, looked_passed, Keeps}

-- before readiness
pub started_read : (events : List Event) → is_some (start_time events) ≡ came is_moment events
started_read [] = refl
started_read (Moment t ∷ past) = elim (cases_Bool (is_some (start_time past))) [ inl e ↦ rw e e | inr e ↦ rw e refl ]
started_read (Saved ∷ past) = started_read past
started_read (Ready ∷ past) = started_read past
started_read (Io m ∷ past) = started_read past
started_read (Reply f ∷ past) = started_read past
started_read (Looked ∷ past) = started_read past
started_read (Lost ∷ past) = started_read past
started_read (Broken ∷ past) = started_read past

pub started_stays : (event : Event) (past : List Event) → is_moment event ≡ false → start_time (event ∷ past) ≡ start_time past
started_stays (Moment t) past m = absurd (true≢false m)
started_stays Saved past m = refl
started_stays Ready past m = refl
started_stays (Io f) past m = refl
started_stays (Reply f) past m = refl
started_stays Looked past m = refl
started_stays Lost past m = refl
started_stays Broken past m = refl

pub waits : {task : Task} {clock : Clock} {lost : Bool} {due : Option ℕ} {past : List Event} (event : Event) → IsStarting task clock lost due past → is_saved event ≡ false → is_ready event ≡ false → is_moment event ≡ false → is_broken event ≡ false
    → Rises event past → (is_looked event ≡ true → lost ≡ false) → looked_by due (event ∷ past) ≡ false → IsStarting task (clock_after clock event) (lost_after lost event) due (event ∷ past)
waits {task} {clock} {lost} {due} {past} event a h g m b rises found calm =
    record {
      planned = a.planned;
      reached = reached_waits a.reached event h g a.ready;
      ready = rw g a.ready;
      hears = hears_more a.hears event rises found b;
      until = ap (λ (o : Option ℕ). start_from task o) (started_stays event past m) ∙ a.until;
      calm = calm;
    }

-- nothing stops it yet
pub waits_right : {task : Task} {clock : Clock} {lost : Bool} {to : Option ℕ} {past : List Event} (event : Event) (act : Act) {b : ℕ} → Reached task 0 None b past → IsStarting task (clock_after clock event) (lost_after lost event) to (event ∷ past)
    → answers task None (event ∷ past) ≡ act → false ≡ is_used event None → Right task clock lost (move (Starting to) false act) event past
waits_right {task} {clock} {lost} {to} {past} event act r a n t =
    record {
      stands = a;
      act = sym (act_from task (event ∷ past) [] None (unacked_none a.reached ∙ rest_none task a.planned) (why_waits a.reached a.planned ∙ no_cause_none a)
          ∙ ap (λ (v : Option Standing). answers task v (event ∷ past)) (standing_none a.reached) ∙ n);
      takes = t ∙ sym (ap (λ (v : Option Standing). is_used event v) (standing_none r));
    }

pub stops_none : (task : Task) (events : List Event) (w : Why) → Reached task 0 None 1 events → rest_of_none task ≡ [] → why task events ≡ Some w → HasStopped task None events
stops_none task events w r e c =
    record {
      stopped = all_done task events w c (unacked_none r ∙ e);
      names = failing_none task events _ (saves_none r) (no_stop_none task);
    }

pub stops_right : {task : Task} {clock : Clock} {lost : Bool} {past : List Event} (event : Event) (w : Why) → 0 < length task.plan → Reached task 0 None 1 past → is_saved event ≡ false → is_ready event ≡ false → came is_ready past ≡ false
    → why_not_done task None (event ∷ past) ≡ Some w → false ≡ is_used event None → Right task clock lost (stops w) event past
stops_right {task} {clock} {lost} {past} event w planned reached h g ready cause t =
    let r = reached_waits reached event h g ready in
    let e = rest_none task planned in
    let c = why_waits r planned ∙ cause in
    record {
      stands = stops_none task (event ∷ past) w r e c;
      act = sym (act_from task (event ∷ past) [] (Some w) (unacked_none r ∙ e) c);
      takes = t ∙ sym (ap (λ (v : Option Standing). is_used event v) (standing_none reached));
    }

-- a request comes to stand
pub limit_lies : (o : Option ℕ) (now first : ℕ) → option_map (λ limit. now + limit) o ≡ Some first → ForSome o (λ limit. 0 < limit) → now < first
limit_lies None now first e later = (let clash : None ≡ Some first = e in absurd (cc))
limit_lies (Some limit) now first e later =
    let same : now + limit ≡ first = (let both : Some (now + limit) ≡ Some first = e in cc) in
    let more : 0 < limit = later limit refl in
    omega (arith, same, more)

pub limit_all : (task : Task) (k : ℕ) (o : Option ℕ) (events : List Event) → ((first : ℕ) → o ≡ Some first → ever (is_turn_at first) events ≡ false) → by_limit task k o events ≡ o
limit_all task k None events far = refl
limit_all task k (Some first) events far = first_by task k first events (queued_none task k first events (far first refl))

pub calm_all : (o : Option ℕ) (events : List Event) → ((first : ℕ) → o ≡ Some first → ever (is_turn_at first) events ≡ false) → looked_by o events ≡ false
calm_all None events far = refl
calm_all (Some first) events far = looked_none (is_turn_at first) events (far first refl)

pub sent_runs : {task : Task} {clock : Clock} {lost : Bool} {k : ℕ} {events : List Event} → Stands task k [] (k + 1) events → Hears clock lost events → ForSome task.times.limit_ms (λ limit. 0 < limit)
    → IsRunning task clock lost k None false (limit_from task (now_of clock)) false events
sent_runs {task} {clock} {lost} {k} {events} s hears later =
    let now = hears.now in
    let same : first_deadline task (at k []) events ≡ limit_from task (now_of clock) = ap (λ (n : ℕ). limit_from task n) now in
    let far = λ (first : ℕ) (e : limit_from task (now_of clock) ≡ Some first). ahead hears first (let lt = limit_lies task.times.limit_ms (now_of clock) first e later in omega (arith, lt, now)) in
    record {
      later = [];
      stands = s;
      replied = refl;
      idled = refl;
      on = refl;
      hears = hears;
      until = deadline_unreplied task (at k []) events refl ∙ ap (λ (o : Option ℕ). by_limit task k o events) same ∙ limit_all task k (limit_from task (now_of clock)) events far;
      calm = calm_all (limit_from task (now_of clock)) events far;
      asked = λ n first f on.
          let there = far first (sym same ∙ f) in
          (queued_none task k first events there, λ between b. (let clash : None ≡ Some between = sym (since_unheld (is_turn_at first) events there) ∙ b in absurd (cc)));
    }

pub sent_right : {task : Task} {clock : Clock} {lost : Bool} {k : ℕ} {past : List Event} (event : Event) → Stands task k [] (k + 1) (event ∷ past) → Hears clock lost (event ∷ past) → ForSome task.times.limit_ms (λ limit. 0 < limit)
    → clock_after clock event ≡ clock → lost_after lost event ≡ lost → answers task (Some (at k [])) (event ∷ past) ≡ Send (cell_of task k) → false ≡ is_used event (standing task past) → Right task clock lost (sends task clock k) event past
sent_right {task} {clock} {lost} {k} {past} event s hears later c l n t =
    let runs = sent_runs s hears later in
    record {
      stands = subst (λ (b : Bool). IsRunning task (clock_after clock event) b k None false (limit_from task (now_of clock)) false (event ∷ past)) (sym l)
          (subst (λ (d : Clock). IsRunning task d lost k None false (limit_from task (now_of clock)) false (event ∷ past)) (sym c) runs);
      act = sym (act_on runs s ∙ n);
      takes = t;
    }

pub stopped_by : (b h l : Bool) (d : Option Why) → b ≡ false → h ≡ true → (if b then Some BadPeer else if h || l then Some KernelLost else d) ≡ Some KernelLost
stopped_by b h l d p q = rw (p, q) refl

pub late_start : (b h l looks : Bool) → b ≡ false → h ≡ false → l ≡ false → looks ≡ true → (if b then Some BadPeer else if h || l then Some KernelLost else if looks then Some NotReady else None) ≡ Some NotReady
late_start b h l looks p q r t = rw (p, q, r, t) refl

pub look_starting : (task : Task) (clock : Clock) (lost : Bool) (due : Option ℕ) (past : List Event) → IsStarting task clock lost due past → Right task clock lost (in_starting task clock lost due Looked) Looked past
look_starting task clock true due past a =
    stops_right Looked KernelLost a.planned a.reached refl refl a.ready (stopped_by (came is_broken past) (ever is_lost past) (look_since is_lost past) _ a.hears.unbroken a.hears.lost_is) refl
look_starting task clock false due past a =
    let same = past_is a.hears due in
    elim (cases_Bool (is_past clock due)) [
      | inl yet ↦ subst (λ (b : Bool). Right task clock false (if b then stops NotReady else stays (Starting due)) Looked past) (sym yet)
          (stops_right Looked NotReady a.planned a.reached refl refl a.ready
          (late_start (came is_broken past) (ever is_lost past) (look_since is_lost past) _ a.hears.unbroken a.hears.lost_is a.hears.unseen
          (ap (λ (o : Option ℕ). looked_by o (Looked ∷ past)) a.until ∙ looked_passed due past (same ∙ yet))) refl)
      | inr before ↦ subst (λ (b : Bool). Right task clock false (if b then stops NotReady else stays (Starting due)) Looked past) (sym before)
          (waits_right Looked Nothing a.reached (waits Looked a refl refl refl refl tt (λ e. refl) (looked_calm due past (same ∙ before) a.calm)) refl refl)
    ]

pub start_by : (task : Task) (clock : Clock) (due : Option ℕ) (t : ℕ) (o : Option ℕ) → is_some o ≡ is_read clock → start_from task o ≡ due → start_from task (if is_some o then o else Some t) ≡ start_due task clock due t
start_by task clock due t (Some s) r e = e ∙ (rw (sym r) refl)
start_by task clock due t None r e = rw (sym r) refl

pub start_moment : {task : Task} {clock : Clock} {lost : Bool} {due : Option ℕ} {past : List Event} (t : ℕ) → IsStarting task clock lost due past → start_deadline task (Moment t ∷ past) ≡ start_due task clock due t
start_moment {task} {clock} {lost} {due} {past} t a = start_by task clock due t (start_time past) (started_read past ∙ a.hears.read) a.until

pub start_calm : (task : Task) (clock : Clock) (due : Option ℕ) (t : ℕ) (past : List Event) → (is_read clock ≡ false → (d : ℕ) → ever (is_turn_at d) past ≡ false) → looked_by due past ≡ false → looked_by (start_due task clock due t) (Moment t ∷ past) ≡ false
start_calm task Unread due t past none calm = looked_none (is_turn_at (t + task.times.start_ms)) past (none refl (t + task.times.start_ms))
start_calm task (Started s) due t past none calm = unlooked_by due (Moment t) past refl calm
start_calm task (Turned s) due t past none calm = unlooked_by due (Moment t) past refl calm

pub moment_starting : (task : Task) (clock : Clock) (lost : Bool) (due : Option ℕ) (t : ℕ) (past : List Event) → IsStarting task clock lost due past → time past ≤ t → Right task clock lost (in_starting task clock lost due (Moment t)) (Moment t) past
moment_starting task clock lost due t past a rises =
    let to = start_due task clock due t in
    let b : IsStarting task (read_again clock t) lost to (Moment t ∷ past) =
    record {
      planned = a.planned;
      reached = reached_waits a.reached (Moment t) refl refl a.ready;
      ready = a.ready;
      hears = hears_more a.hears (Moment t) rises (λ e. absurd (true≢false (sym e))) refl;
      until = start_moment t a;
      calm = start_calm task clock due t past (λ u d. unread_none d past (a.hears.read ∙ u)) a.calm;
    } in
    waits_right (Moment t) _ a.reached b
    (ap (λ (v : Bool). if v then Look else Nothing) (ap (λ (o : Option ℕ). is_late o (Moment t ∷ past)) (start_moment t a) ∙ late_now a.hears t to)) refl

pub right_starting : (task : Task) (clock : Clock) (lost : Bool) (due : Option ℕ) (event : Event) (past : List Event) → IsStarting task clock lost due past → is_saved event ≡ false → Keeps task event past → ForSome task.times.limit_ms (λ limit. 0 < limit)
    → Right task clock lost (in_starting task clock lost due event) event past
right_starting task clock lost due Saved past a h keeps later = absurd (true≢false h)
right_starting task clock lost due (Io m) past a h keeps later = waits_right (Io m) Nothing a.reached (waits (Io m) a refl refl refl refl tt (λ e. absurd (true≢false (sym e))) (unlooked_by due (Io m) past refl a.calm)) refl refl
right_starting task clock lost due (Reply f) past a h keeps later = waits_right (Reply f) Nothing a.reached (waits (Reply f) a refl refl refl refl tt (λ e. absurd (true≢false (sym e))) (unlooked_by due (Reply f) past refl a.calm)) refl refl
right_starting task clock lost due Lost past a h keeps later = waits_right Lost Look a.reached (waits Lost a refl refl refl refl tt (λ e. absurd (true≢false (sym e))) (unlooked_by due Lost past refl a.calm)) refl refl
right_starting task clock lost due Looked past a h keeps later = look_starting task clock lost due past a
right_starting task clock lost due (Moment t) past a h keeps later = moment_starting task clock lost due t past a keeps.0
right_starting task clock lost due Broken past a h keeps later = stops_right Broken BadPeer a.planned a.reached refl refl a.ready refl refl
right_starting task clock lost due Ready past a h keeps later =
    let s : Stands task 0 [] (0 + 1) (Ready ∷ past) = record { planned = a.planned; reached = reached_first a.reached; ready = refl } in
    sent_right Ready s (hears_more a.hears Ready tt (λ e. absurd (true≢false (sym e))) refl) later refl refl refl (sym (ap (λ (v : Option Standing). is_used Ready v) (standing_none a.reached)))
