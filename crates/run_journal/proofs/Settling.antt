-- By the loop's rules nothing of the clock or of a look comes after a stop that isn't at once; so the core stops where the job does.
use Rattle.std.proofs.Common.{◌≡◌, ◌⊎◌, inl, inr, ℕ, ◌+◌, ◌<◌, ◌≤◌, List, [], ◌∷◌, ◌++◌, length, Bool, true, false, ◌&&◌, ◌||◌, not, Option, Some, None, refl, sym, ◌∙◌, ap, subst, arith, append_assoc}
use Rattle.std.specs.Prelude.{is_some}
use Rattle.std.proofs.lemmas.Bool.{and_parts, and_from, or_parts, or_left, or_right, cases_Bool, false_from_ne_true, not-true, not_from_false, or_cases}
use Rattle.world.specs.declared.entry.Entry.{Entry}
use Rattle.world.specs.Waits.{is_wait}
use Rattle.cell_core.specs.declared.event.Event.{Event}
use Rattle.cell_core.specs.declared.event.Event.TheVariants as event
use Rattle.cell_core.specs.declared.why.Why.{Why}
use Rattle.cell_core.specs.Deadlines.{interrupt_ms, is_queued}
use Rattle.cell_core.specs.Events as events
use Rattle.cell_core.specs.Saves as core_saves
use Rattle.run_journal.specs.Job.{Job}
use Rattle.run_journal.specs.Parts.{saves_of}
use Rattle.run_journal.specs.Looks.{is_look, is_lost, ran_out}
use Rattle.run_journal.specs.Requests.{Request, reply, deadline, is_broken, requests, last_request}
use Rattle.run_journal.specs.Why.{is_done, is_error, why}
use Rattle.run_journal.specs.Due.{all_along}
use Rattle.run_journal.specs.Decoding.{IsDecoding}
use Rattle.run_journal.specs.Awake.{keeps_up}
use Rattle.run_journal.specs.Course.{in_look, ends_look, course}
use Rattle.run_journal.specs.Agreement.{BeginsUnread, EndsLooks, Flows, KeepsTime, keeps_time, is_dated, hears_looks, at_once, hears, Hears, KeepsRules}
use Rattle.run_journal.proofs.Flowing.{told_parts}
use Rattle.run_journal.proofs.Telling.{came_append, some_is, unread_before, at_once_same}
use Rattle.run_journal.proofs.Finding.{finds_lost, lost_parts}
use Rattle.run_journal.proofs.Stopping.{from_at_once}
use Rattle.run_journal.proofs.Dropping.{stops, dropped, none_dropped}
use Rattle.run_journal.proofs.Lasting.{once_rows, open_before, unanswered_open}
use Rattle.run_journal.proofs.Running.{rules_before, RanAtWait, ran_before, runs_at_wait}
use Rattle.run_journal.proofs.Lapse.{Before, here, earlier, before_then, Left, ran_parts, found_ran, left_now, wait_unstopped}
use Rattle.run_journal.proofs.Interrupting.{none_holds, ever_lost, queued_interrupted}
use Rattle.run_journal.proofs.Seconds.{first_least}
use Rattle.run_journal.proofs.Rowing.{found_past, was, was_none, was_dead}
use Rattle.run_journal.proofs.Showing.{CoreRow, once, lost, late, Flagged, core_row, Shown, at, look, shown}
use Rattle.run_journal.proofs.Keeping.{stopped_cause}
use Rattle.run_journal.proofs.LookEnds.{Since, LookEnd, look_end, cut_at, found_then, queued_then, lost_then}
use Rattle.run_journal.proofs.Deciding.{why_open, interrupts_open}
use Rattle.run_journal.proofs.Truths.{not_both}

-- ---- what holds of a journal holds before

pub record Given (jobs : List Job) (j : Job) (past : List Entry) : Type 0 where
  pub rules : KeepsRules jobs j past
  pub ran : RanAtWait j past
  pub flows : Flows j past
  pub time : KeepsTime j past
  pub unread : BeginsUnread j past

pub given_before : (jobs : List Job) (j : Job) (entry : Entry) (past : List Entry) → Given jobs j (entry ∷ past) → Given jobs j past
given_before jobs j entry past g = record {
  rules = rules_before jobs j entry past g.rules;
  ran = ran_before jobs j entry past g.rules g.ran;
  flows = (told_parts j entry past g.flows).2;
  time = (and_parts (keeps_time j (entry ∷ past)) (all_along (keeps_time j) past) g.time).1;
  unread = (unread_before j entry past g.unread).1;
}

given_at : (jobs : List Job) (j : Job) {q past : List Entry} → Before q past → Given jobs j past → Given jobs j q
given_at jobs j here g = g
given_at jobs j {q} (earlier {past} entry b) g = given_at jobs j b (given_before jobs j entry past g)

left_along : (t : List Entry → Bool) (j : Job) {q past : List Entry} → Before q past → Left t j q → Left t j past
left_along t j b l = record { at = l.at; before = before_then l.before b; held = l.held; unstopped = l.unstopped; runs = l.runs }

module _ (jobs : List Job) (j : Job) (dec : IsDecoding j.codec) (plan : 0 < length j.task.plan) (limits : (ms : ℕ) → j.task.times.limit_ms ≡ Some ms → 0 < ms) where
  open_at : {q past : List Entry} → Before q past → BeginsUnread j past → is_some (at_once (why j past)) ≡ false → is_some (at_once (why j q)) ≡ false
  open_at here u e = e
  open_at {q} (earlier {past} entry b) u e = let v = unread_before j entry past u in open_at b v.1 (open_before j dec plan entry past v.0 e)

  -- before the end of a look it wasn't over, or nothing had stopped the job
  new_parts : (entry : Entry) (q : List Entry) → ends_look j entry q ≡ true → (is_wait entry ≡ true) ⊎ (is_look j q ≡ false)
  new_parts entry q e = elim (or_cases (is_wait entry) (not (is_look j q)) (and_parts (in_look j (entry ∷ q) && is_look j (entry ∷ q)) (is_wait entry || not (is_look j q)) e).1) [
    | inl w ↦ inl w
    | inr l ↦ inr (not-true (is_look j q) l)
  ]

  pub unstopped_at : (entry : Entry) (q : List Entry) → Given jobs j (entry ∷ q) → is_wait entry ≡ true → why j q ≡ None
  unstopped_at entry q g w =
      wait_unstopped jobs j entry q g.rules.among w (and_parts (keeps_up jobs (entry ∷ q)) (all_along (keeps_up jobs) q) g.rules.awake.up_to_date).0 (runs_at_wait jobs j entry q g.rules g.ran w)

  pub none_some : (o : Option Why) → o ≡ None → is_some o ≡ true → ⊥
  none_some None e f = cc
  none_some (Some w) e f = cc

  -- the core hadn't stopped before the look's end
  not_before : (entry : Entry) (q : List Entry) → Given jobs j (entry ∷ q) → ends_look j entry q ≡ true → is_some (at_once (why j q)) ≡ false → stops j (course j q).told ≡ true → ⊥
  not_before entry q g e o s = by (new_parts entry q e) (shown jobs j q b.rules b.ran b.flows b.time plan dec b.unread limits (stopped_cause j plan q b.flows s))
    where
      b : Given jobs j q
      b = given_before jobs j entry q g

      by : (is_wait entry ≡ true) ⊎ (is_look j q ≡ false) → Shown jobs j q b.rules b.ran b.flows b.time plan dec b.unread limits → ⊥
      by n (at y) = not_both (is_some (at_once (why j q))) y o
      by (inl w) (look x c l y) = none_some (why j q) (unstopped_at entry q g w) y
      by (inr n) (look x c l y) = not_both (is_look j q) l n

  module _ (past : List Entry) (g : Given jobs j past) (o : is_some (at_once (why j past)) ≡ false) (cause : is_some (core_saves.why j.task (course j past).told) ≡ true) where
    -- the look was told
    module _ (entry : Entry) (q : List Entry) (before : Before (entry ∷ q) past) (ends : ends_look j entry q ≡ true) (pre post ds : List Event) (open_ : stops j (course j q).told ≡ false) (un : events.came events.is_looked pre ≡ false)
        (s : Since j q past (pre ++ event.Looked ∷ post)) (e : (course j q).held ++ pre ≡ s.ys ++ ds) where
      then_ : Given jobs j (entry ∷ q)
      then_ = given_at jobs j before g

      was_then : Given jobs j q
      was_then = given_before jobs j entry q then_

      q_before : Before q past
      q_before = before_then (earlier entry here) before

      unlost : is_lost j q ≡ false
      unlost = elim (new_parts entry q ends) [
        | inl w ↦ (none_holds j q (unstopped_at entry q then_ w)).0
        | inr l ↦ false_from_ne_true (is_lost j q) (λ y. not_both (is_look j q) (lost_parts j q y).0 l)
      ]

      unbroken : is_broken j q ≡ false
      unbroken =
          (or_parts (is_error j (last_request 0 (requests j q))) (is_broken j q)
          (or_parts (is_done j (saves_of j q) (requests j q)) (is_error j (last_request 0 (requests j q)) || is_broken j q) (sym (once_rows j q) ∙ open_at q_before g.unread o)).1).1

      flag : Flagged jobs j past g.rules g.ran g.flows g.time plan dec g.unread limits
      flag m r c ms n h rep dead under i w x z =
          let least = first_least c past ms x in
          let more : c ≤ ms + interrupt_ms = omega (arith, least) in
          let found = found_then j q past pre post ds open_ un s e (ms + interrupt_ms) z in
          let passed = found_past jobs j q was_then.rules was_then.ran was_then.flows was_then.time plan (ms + interrupt_ms) found in
          let v = was jobs j past g.rules g.ran g.flows g.time plan m r n h rep c dead under (ms + interrupt_ms) more q_before passed in
          v.on.interrupted
          (queued_interrupted c jobs j dec i q was_then.rules was_then.ran was_then.unread unbroken unlost m v.old v.stands
          (was_none jobs j past g.rules g.ran g.flows g.time plan m r n h rep c dead under v) (was_dead jobs j past g.rules g.ran g.flows g.time plan m r n h rep c dead under v)
          (subst (λ t. t < c) v.on.clock under) (queued_then j q past pre post ds open_ un s e c w))

      none_untold : ⊥
      none_untold = by (core_row jobs j past g.rules g.ran g.flows g.time plan dec g.unread limits flag cause)
        where
          by : CoreRow jobs j past g.rules g.ran g.flows g.time plan dec g.unread limits → ⊥
          by (once y) = not_both (is_some (at_once (why j past))) y o
          by (lost y) = not_both (is_lost j q) (ever_lost jobs j q was_then.rules was_then.ran (finds_lost j q (lost_then j q past pre post ds open_ un s e y))) unlost
          by (late d y calls row) = elim (found_ran d jobs j q was_then.rules was_then.ran (found_then j q past pre post ds open_ un s e d y)) [
            | inl r ↦ elim (new_parts entry q ends) [
              | inl w ↦ calls.left (left_along (ran_out j d) j before (left_now jobs j entry q then_.rules then_.ran (ran_out j d) w r))
              | inr l ↦ not_both (is_look j q) (ran_parts j d q r).0 l
            ]
            | inr l ↦ calls.left (left_along (ran_out j d) j q_before l)
          ]

    -- so after it nothing of the kind was left
    none_left : (l : LookEnd j past) → stops j (course j l.q).told ≡ false → events.came is_dated (dropped j past) ≡ false
    none_left l h = by (l.flow h)
      where
        parts : (ds : List Event) → l.post ≡ ds ++ ((course j past).held ++ dropped j past) → events.came is_dated (dropped j past) ≡ false
        parts ds f =
            (or_parts (events.came is_dated (course j past).held) (events.came is_dated (dropped j past))
            (sym (came_append is_dated (course j past).held (dropped j past))
            ∙ (or_parts (events.came is_dated ds) (events.came is_dated ((course j past).held ++ dropped j past))
            (sym (came_append is_dated ds ((course j past).held ++ dropped j past)) ∙ ap (events.came is_dated) (sym f) ∙ l.undated)).1)).1

        by : Since j l.q past (l.pre ++ event.Looked ∷ l.post) → events.came is_dated (dropped j past) ≡ false
        by s = elim (cut_at s.ys ((course j past).held ++ dropped j past) ((course j l.q).held ++ l.pre) event.Looked l.post (s.flow ∙ sym (append_assoc (course j l.q).held l.pre (event.Looked ∷ l.post)))) [
          | inl f ↦ absurd (none_untold l.entry l.q l.before l.ends l.pre l.post f.0 h l.unlooked s f.1)
          | inr f ↦ parts f.0 f.1
        ]

  -- nothing of the clock or of a look came after a stop that isn't at once
  pub undropped : (past : List Entry) → KeepsRules jobs j past → RanAtWait j past → Flows j past → KeepsTime j past → BeginsUnread j past → is_some (at_once (why j past)) ≡ false → events.came is_dated (dropped j past) ≡ false
  undropped past k h f t u o = elim (cases_Bool (stops j (course j past).told)) [
    | inl s ↦ by s (stopped_cause j plan past f s) (shown jobs j past k h f t plan dec u limits (stopped_cause j plan past f s))
    | inr s ↦ ap (events.came is_dated) (none_dropped j past s)
  ]
    where
      g : Given jobs j past
      g = record { rules = k; ran = h; flows = f; time = t; unread = u }

      by : stops j (course j past).told ≡ true → is_some (core_saves.why j.task (course j past).told) ≡ true → Shown jobs j past k h f t plan dec u limits → events.came is_dated (dropped j past) ≡ false
      by s cause (at y) = absurd (not_both (is_some (at_once (why j past))) y o)
      by s cause (look w c l y) =
          let i = look_end jobs j past k h w c l in
          none_left past g o cause i
          (false_from_ne_true (stops j (course j i.q).told) (λ z. not_before i.entry i.q (given_at jobs j i.before g) i.ends (open_at (before_then (earlier i.entry here) i.before) u o) z))

  -- so neither does after any moment
  pub hears_settled : (past : List Entry) → KeepsRules jobs j past → RanAtWait j past → Flows j past → KeepsTime j past → BeginsUnread j past → Hears j past
  hears_settled [] k h f t u = refl
  hears_settled (entry ∷ past) k h f t u =
      and_from (hears j (entry ∷ past)) (all_along (hears j) past) (now (cases_Bool (is_some (at_once (why j (entry ∷ past))))))
      (hears_settled past (rules_before jobs j entry past k) (ran_before jobs j entry past k h) (told_parts j entry past f).2 (and_parts (keeps_time j (entry ∷ past)) (all_along (keeps_time j) past) t).1 (unread_before j entry past u).1)
    where
      now : (is_some (at_once (why j (entry ∷ past))) ≡ true) ⊎ (is_some (at_once (why j (entry ∷ past))) ≡ false) → hears j (entry ∷ past) ≡ true
      now (inl e) = or_right (hears_looks j (entry ∷ past)) _ e
      now (inr e) =
          or_left (hears_looks j (entry ∷ past)) _
          (not_from_false (events.came is_dated (course j (entry ∷ past)).unheard)
          (or_parts (events.came is_dated (dropped j past)) (events.came is_dated (course j (entry ∷ past)).unheard)
          (sym (came_append is_dated (dropped j past) (course j (entry ∷ past)).unheard) ∙ undropped (entry ∷ past) k h f t u e)).1)

-- ---- the cause and the interrupt

module _ (jobs : List Job) (j : Job) (past : List Entry) (dec : IsDecoding j.codec) (plan : 0 < length j.task.plan) (limits : (ms : ℕ) → j.task.times.limit_ms ≡ Some ms → 0 < ms) (k : KeepsRules jobs j past) (h : RanAtWait j past)
    (u : BeginsUnread j past) (f : Flows j past) (t : KeepsTime j past) (s : EndsLooks j past) (none : (course j past).held ≡ []) where
  pub why_settled : core_saves.why j.task (course j past).told ≡ why j past
  why_settled = elim (cases_Bool (is_some (at_once (why j past)))) [
    | inl e ↦
        let w = some_is (at_once (why j past)) e in
        from_at_once (core_saves.why j.task (course j past).told) w.0 (at_once_same j dec plan past u f none ∙ w.1) ∙ sym (from_at_once (why j past) w.0 w.1)
    | inr e ↦ why_open jobs j past dec plan limits k h u f t s none (undropped jobs j dec plan limits past k h f t u e)
  ]

  pub interrupts_settled : is_broken j past ≡ false → is_lost j past ≡ false → j.task.times.interrupt ≡ true → (m : ℕ) (q : Request) (c : ℕ) → last_request 0 (requests j past) ≡ Some (m, q) → reply q ≡ None
      → deadline j q ≡ Some c → is_queued j.task m c (course j past).told ≡ q.interrupted
  interrupts_settled b unlost i m q c e r dead =
      interrupts_open jobs j past dec plan limits k h u f t s none (undropped jobs j dec plan limits past k h f t u (unanswered_open j past plan b m q e r)) b unlost i m q c e r dead
