-- The laws over every list of events.
use Rattle.std.proofs.Common.{◌≡◌, ℕ, zero, suc, ◌+◌, ◌<◌, List, [], ◌∷◌, length, Bool, true, false, not, if◌then◌else◌, nat_lt, ◌==◌, Option, Some, None, refl, sym, ap, subst, ◌∙◌, true≢false, arith, inl, inr}
use Rattle.std.proofs.lemmas.Bool.{cases_Bool, and_parts, and_left, cases_eq, cases_order}
use Rattle.cell_core.specs.declared.event.Event.{Event}
use Rattle.cell_core.specs.declared.event.Event.TheVariants.{Saved, Ready, Io, Reply, Moment, Looked, Lost, Broken}
use Rattle.cell_core.specs.declared.why.Why.{Why}
use Rattle.cell_core.specs.declared.act.Act.{Act}
use Rattle.cell_core.specs.declared.act.Act.TheVariants.{Nothing, Start, Send, Look, Interrupt, Save, Stop}
use Rattle.cell_core.specs.Task.{Task, cell_of}
use Rattle.cell_core.specs.Events.{is_saved, ack_count, since}
use Rattle.cell_core.specs.Requests.{after, both_came, is_next, is_over, is_fatal, is_passed_in, or_before, last_below, Standing, standing}
use Rattle.cell_core.specs.Saves.{Prefix, why, pending_saves}
use Rattle.cell_core.specs.Acts.{is_empty_list, has_stopped, heard, is_late, due_at, is_queued_now, answers, act_by, act_at, act_of}
use Rattle.cell_core.specs.Deadlines.{first_deadline}
use Rattle.cell_core.specs.Laws.{IsOpen, IsFree, IsSent, IsAskedFor, StopsBy}
use Rattle.cell_core.proofs.Lists.{since_some, since_none}
use Rattle.cell_core.proofs.Requests.{passed_in}
use Rattle.cell_core.proofs.RightClosing.{saved_is}

-- where the next request stands, this one is passed
next_parts : (task : Task) (k : ℕ) (event : Event) (past : List Event) → is_next task k (after task k) (event ∷ past) ≡ true → (event ≡ Saved) × (is_passed_in (after task k past) ≡ true)
next_parts task k event past h =
    let a = and_parts _ (nat_lt (k + 1) (length task.plan)) h in
    let b = and_parts _ (is_passed_in (after task k past)) a.0 in
    let c = and_parts (is_saved event) (ack_count past == k + 1) b.0 in
    (saved_is event c.0, b.1)

next_passed_by : (task : Task) (k : ℕ) (event : Event) (past later : List Event) (v : Option (List Event)) → after task (suc k) past ≡ v → ((l : List Event) → after task (suc k) past ≡ Some l → is_passed_in (after task k past) ≡ true)
    → after task (suc k) (event ∷ past) ≡ Some later → is_passed_in (after task k past) ≡ true
next_passed_by task k event past later (Some l) e before h = before l e
next_passed_by task k event past later None e before h =
    elim (cases_Bool (is_next task k (after task k) (event ∷ past))) [
      | inl holds ↦ (next_parts task k event past holds).1
      | inr fails ↦ (let clash : None ≡ Some later = sym (since_none (is_next task k (after task k)) event past e fails) ∙ h in absurd (cc))
    ]

next_passed : (task : Task) (k : ℕ) (events later : List Event) → after task (suc k) events ≡ Some later → is_passed_in (after task k events) ≡ true
next_passed task k [] later h = (let clash : None ≡ Some later = h in absurd (cc))
next_passed task k (event ∷ past) later h =
    passed_in task k event past (after task k past) refl (next_passed_by task k event past later (after task (suc k) past) refl (λ l e. next_passed task k past l e) h)

stands_in : (v : Option (List Event)) → is_passed_in v ≡ true → (l : List Event) × (v ≡ Some l)
stands_in (Some l) h = (l, refl)
stands_in None h = absurd (true≢false (sym h))

-- each request before one that stands is passed
earlier_passed : (task : Task) (k j : ℕ) (events later : List Event) → j < k → after task k events ≡ Some later → is_passed_in (after task j events) ≡ true
earlier_passed task zero j events later lt h = absurd (omega arith)
earlier_passed task (suc k) j events later lt h =
    let passed = next_passed task k events later h in
    let there = stands_in (after task k events) passed in
    elim (cases_eq j k) [
      | inl e ↦ subst (λ (i : ℕ). is_passed_in (after task i events) ≡ true) (sym e) passed
      | inr ne ↦ earlier_passed task k j events there.0 (omega (arith, ne)) there.1
    ]

clash_of : (task : Task) (j k : ℕ) (events : List Event) → j < k → IsOpen task j events → IsOpen task k events → ⊥
clash_of task j k events lt a b =
    let passed = earlier_passed task k j events b.later lt b.stands in
    let open_one : is_passed_in (after task j events) ≡ false = ap is_passed_in a.stands ∙ and_left (is_over a.later) (not (is_fatal a.later)) a.not_over in
    true≢false (sym passed ∙ open_one)

pub one_open : (task : Task) (events : List Event) (j k : ℕ) → IsOpen task j events → IsOpen task k events → j ≡ k
one_open task events j k a b =
    elim (cases_order j k) [
      | inl e ↦ e
      | inr rest ↦ elim rest [ inl lt ↦ absurd (clash_of task j k events lt a b) | inr gt ↦ absurd (clash_of task k j events gt b a) ]
    ]

-- what an act says
choice_not : (b : Bool) (x y : Act) (i : ℕ) → (x ≡ Send i → ⊥) → (y ≡ Send i → ⊥) → (if b then x else y) ≡ Send i → ⊥
choice_not true x y i p q h = p h
choice_not false x y i p q h = q h

sent_now : (cell : ℕ) (later : List Event) (i : ℕ) → (if is_empty_list later then Send cell else Nothing) ≡ Send i → (later ≡ []) × (cell ≡ i)
sent_now cell [] i h = (refl, cc)
sent_now cell (event ∷ later) i h = absurd (cc)

answers_send : (task : Task) (v : Option Standing) (event : Event) (past : List Event) (i : ℕ) → answers task v (event ∷ past) ≡ Send i → (r : Standing) × (v ≡ Some r) × (r.later ≡ []) × (cell_of task r.request ≡ i)
answers_send task (Some r) Looked past i h = absurd (choice_not (is_queued_now task r.request (first_deadline task r (Looked ∷ past)) (Looked ∷ past)) Interrupt Nothing i (λ e. cc) (λ e. cc) h)
answers_send task (Some r) Lost past i h = absurd (cc)
answers_send task (Some r) (Moment t) past i h = absurd (choice_not (is_late (due_at task (Some r) (Moment t ∷ past)) (Moment t ∷ past)) Look Nothing i (λ e. cc) (λ e. cc) h)
answers_send task (Some r) Saved past i h = (let s = sent_now (cell_of task r.request) r.later i h in (r, refl, s.0, s.1))
answers_send task (Some r) Ready past i h = (let s = sent_now (cell_of task r.request) r.later i h in (r, refl, s.0, s.1))
answers_send task (Some r) (Io m) past i h = (let s = sent_now (cell_of task r.request) r.later i h in (r, refl, s.0, s.1))
answers_send task (Some r) (Reply f) past i h = (let s = sent_now (cell_of task r.request) r.later i h in (r, refl, s.0, s.1))
answers_send task (Some r) Broken past i h = (let s = sent_now (cell_of task r.request) r.later i h in (r, refl, s.0, s.1))
answers_send task None Saved past i h = absurd (choice_not (ack_count past == 0) Start Nothing i (λ e. cc) (λ e. cc) h)
answers_send task None (Moment t) past i h = absurd (choice_not (is_late (due_at task None (Moment t ∷ past)) (Moment t ∷ past)) Look Nothing i (λ e. cc) (λ e. cc) h)
answers_send task None Lost past i h = absurd (cc)
answers_send task None Ready past i h = absurd (cc)
answers_send task None (Io m) past i h = absurd (cc)
answers_send task None (Reply f) past i h = absurd (cc)
answers_send task None Looked past i h = absurd (cc)
answers_send task None Broken past i h = absurd (cc)

act_send : (task : Task) (events : List Event) (due : List Prefix) (cause : Option Why) (i : ℕ) → act_by task events due cause ≡ Send i → answers task (standing task events) events ≡ Send i
act_send task events (x ∷ xs) cause i h = absurd (cc)
act_send task events [] (Some w) i h = absurd (cc)
act_send task events [] None i h = h

standing_by : (task : Task) (n : ℕ) (events : List Event) (r : Standing) (v : Option (List Event)) → after task n events ≡ v → (last_below task n events ≡ Some r → after task r.request events ≡ Some r.later)
    → last_below task (suc n) events ≡ Some r → after task r.request events ≡ Some r.later
standing_by task n events r (Some later) e before h =
    let same : record { request = n; later = later } ≡ r = (let both : Some (record { request = n; later = later }) ≡ Some r = sym (ap (λ (x : Option (List Event)). or_before n x (last_below task n events)) e) ∙ h in cc) in
    subst (λ (q : Standing). after task q.request events ≡ Some q.later) same e
standing_by task n events r None e before h = before (sym (ap (λ (x : Option (List Event)). or_before n x (last_below task n events)) e) ∙ h)

pub standing_after : (task : Task) (n : ℕ) (events : List Event) (r : Standing) → last_below task n events ≡ Some r → after task r.request events ≡ Some r.later
standing_after task zero events r h = (let clash : None ≡ Some r = h in absurd (cc))
standing_after task (suc n) events r h = standing_by task n events r (after task n events) refl (λ e. standing_after task n events r e) h

since_empty : (test : List Event → Bool) (event : Event) (past : List Event) (v : Option (List Event)) → since test past ≡ v → since test (event ∷ past) ≡ Some [] → test (event ∷ past) ≡ true
since_empty test event past (Some l) e h = (let clash : Some (event ∷ l) ≡ Some [] = sym (since_some test event past l e) ∙ h in absurd (cc))
since_empty test event past None e h =
    elim (cases_Bool (test (event ∷ past))) [
      | inl holds ↦ holds
      | inr fails ↦ (let clash : None ≡ Some [] = sym (since_none test event past e fails) ∙ h in absurd (cc))
    ]

pub free_of : (task : Task) (k : ℕ) (event : Event) (past : List Event) → after task k (event ∷ past) ≡ Some [] → IsFree task k event past
free_of task zero event past h = since_empty both_came event past (since both_came past) refl h
free_of task (suc k) event past h = next_parts task k event past (since_empty (is_next task k (after task k)) event past (after task (suc k) past) refl h)

-- a request that is sent comes to stand as the last
pub sent_last : (task : Task) (event : Event) (past : List Event) (i : ℕ) → act_of task event past ≡ Send i → (r : Standing) × (standing task (event ∷ heard task past) ≡ Some r) × (r.later ≡ []) × (cell_of task r.request ≡ i)
sent_last task event past i h =
    elim (cases_Bool (has_stopped task (heard task past))) [
      | inl stopped ↦ (let clash : Nothing ≡ Send i = sym (ap (λ (b : Bool). if b then Nothing else act_at task (event ∷ heard task past)) stopped) ∙ h in absurd (cc))
      | inr on ↦
          let now = event ∷ heard task past in
          let act : act_at task now ≡ Send i = sym (ap (λ (b : Bool). if b then Nothing else act_at task now) on) ∙ h in
          answers_send task (standing task now) event (heard task past) i (act_send task now (pending_saves task now) (why task now) i act)
    ]

-- a request is sent where it comes to stand
pub sent_where : (task : Task) (event : Event) (past : List Event) (i : ℕ) → act_of task event past ≡ Send i → IsSent task i event (heard task past)
sent_where task event past i h =
    let r = sent_last task event past i h in
    let there : after task r.0.request (event ∷ heard task past) ≡ Some [] = standing_after task (length task.plan) (event ∷ heard task past) r.0 r.1 ∙ ap Some r.2 in
    record { request = r.0.request; stands = there; cell_is = r.3; free = free_of task r.0.request event (heard task past) there }

-- Only a save that is due and a cause end the waiting.
abbrev pub is_ending : Act → Bool
is_ending (Save n) = true
is_ending (Stop w) = true
is_ending act = false

if_ending : (b : Bool) (x y : Act) → is_ending x ≡ false → is_ending y ≡ false → is_ending (if b then x else y) ≡ false
if_ending true x y p q = p
if_ending false x y p q = q

answers_not_ending : (task : Task) (v : Option Standing) (events : List Event) → is_ending (answers task v events) ≡ false
answers_not_ending task (Some r) (Looked ∷ past) = if_ending (is_queued_now task r.request (first_deadline task r (Looked ∷ past)) (Looked ∷ past)) Interrupt Nothing refl refl
answers_not_ending task (Some r) (Lost ∷ past) = refl
answers_not_ending task (Some r) (Moment t ∷ past) = if_ending (is_late (due_at task (Some r) (Moment t ∷ past)) (Moment t ∷ past)) Look Nothing refl refl
answers_not_ending task (Some r) (Saved ∷ past) = if_ending (is_empty_list r.later) (Send (cell_of task r.request)) Nothing refl refl
answers_not_ending task (Some r) (Ready ∷ past) = if_ending (is_empty_list r.later) (Send (cell_of task r.request)) Nothing refl refl
answers_not_ending task (Some r) (Io m ∷ past) = if_ending (is_empty_list r.later) (Send (cell_of task r.request)) Nothing refl refl
answers_not_ending task (Some r) (Reply f ∷ past) = if_ending (is_empty_list r.later) (Send (cell_of task r.request)) Nothing refl refl
answers_not_ending task (Some r) (Broken ∷ past) = if_ending (is_empty_list r.later) (Send (cell_of task r.request)) Nothing refl refl
answers_not_ending task (Some r) [] = refl
answers_not_ending task None (Saved ∷ past) = if_ending (ack_count past == 0) Start Nothing refl refl
answers_not_ending task None (Moment t ∷ past) = if_ending (is_late (due_at task None (Moment t ∷ past)) (Moment t ∷ past)) Look Nothing refl refl
answers_not_ending task None (Lost ∷ past) = refl
answers_not_ending task None (Ready ∷ past) = refl
answers_not_ending task None (Io m ∷ past) = refl
answers_not_ending task None (Reply f ∷ past) = refl
answers_not_ending task None (Looked ∷ past) = refl
answers_not_ending task None (Broken ∷ past) = refl
answers_not_ending task None [] = refl

save_by : (task : Task) (events : List Event) (due : List Prefix) (cause : Option Why) (n : ℕ) → pending_saves task events ≡ due → act_by task events due cause ≡ Save n → IsAskedFor task n events
save_by task events (x ∷ xs) cause n u h = record { first = x; others = xs; due = u; settles_it = (let both : Save x.settled ≡ Save n = h in cc) }
save_by task events [] (Some w) n u h = absurd (let clash : Stop w ≡ Save n = h in cc)
save_by task events [] None n u h = absurd (true≢false (sym (ap is_ending h) ∙ answers_not_ending task (standing task events) events))

stop_by : (task : Task) (events : List Event) (due : List Prefix) (cause : Option Why) (w : Why) → pending_saves task events ≡ due → why task events ≡ cause → act_by task events due cause ≡ Stop w → StopsBy task w events
stop_by task events (x ∷ xs) cause w u y h = absurd (let clash : Save x.settled ≡ Stop w = h in cc)
stop_by task events [] (Some v) w u y h = record { cause_is = y ∙ (let same : v ≡ w = (let both : Stop v ≡ Stop w = h in cc) in ap Some same); settled_all = u }
stop_by task events [] None w u y h = absurd (true≢false (sym (ap is_ending h) ∙ answers_not_ending task (standing task events) events))

act_live : (task : Task) (event : Event) (past : List Event) (act : Act) → is_ending act ≡ true → act_of task event past ≡ act → act_at task (event ∷ heard task past) ≡ act
act_live task event past act e h =
    elim (cases_Bool (has_stopped task (heard task past))) [
      | inl stopped ↦ absurd (true≢false (sym e ∙ ap is_ending (sym h ∙ ap (λ (b : Bool). if b then Nothing else act_at task (event ∷ heard task past)) stopped)))
      | inr on ↦ sym (ap (λ (b : Bool). if b then Nothing else act_at task (event ∷ heard task past)) on) ∙ h
    ]

pub saved_where : (task : Task) (event : Event) (past : List Event) (n : ℕ) → act_of task event past ≡ Save n → IsAskedFor task n (event ∷ heard task past)
saved_where task event past n h = save_by task (event ∷ heard task past) (pending_saves task (event ∷ heard task past)) (why task (event ∷ heard task past)) n refl (act_live task event past (Save n) refl h)

pub stopped_where : (task : Task) (event : Event) (past : List Event) (w : Why) → act_of task event past ≡ Stop w → StopsBy task w (event ∷ heard task past)
stopped_where task event past w h = stop_by task (event ∷ heard task past) (pending_saves task (event ∷ heard task past)) (why task (event ∷ heard task past)) w refl refl (act_live task event past (Stop w) refl h)
