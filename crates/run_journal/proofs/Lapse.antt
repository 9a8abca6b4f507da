-- A look after a clock entry at or past a deadline is found by the core where it is found by the journal, and stays so up to the next wait.
use Rattle.std.proofs.Common.{◌≡◌, ◌⊎◌, inl, inr, ℕ, ◌≤◌, List, [], ◌∷◌, Bool, true, false, ◌&&◌, ◌||◌, not, Option, Some, None, refl, sym, ◌∙◌, ap, subst, arith}
use Rattle.std.specs.Prelude.{is_some, nat_le, if◌then◌else◌, ◌==◌, length}
use Rattle.std.proofs.lemmas.Bool.{and_parts, or_parts, and_from, or_left, or_right, cond-true, cond-false, cases_Bool, leb-true, not-true, not_from_false, or_cases}
use Rattle.world.specs.declared.entry.Entry.{Entry}
use Rattle.world.specs.declared.entry.Entry.TheVariants as made
use Rattle.world.specs.Places.{time}
use Rattle.world.specs.Waits.{is_wait, has_wait, before_wait, to_wait, moment_of}
use Rattle.cell_core.specs.declared.why.Why.{Why}
use Rattle.cell_core.specs.declared.event.Event.{Event}
use Rattle.cell_core.specs.declared.event.Event.TheVariants as event
use Rattle.cell_core.specs.Events as events
use Rattle.run_journal.specs.Job.{Job}
use Rattle.run_journal.specs.Parts.{turn_clock, saves_of, is_running, before_shut}
use Rattle.run_journal.specs.Looks.{is_short_wait, is_look, is_read_through, ever, is_at_least, is_past, ran_out}
use Rattle.run_journal.specs.Requests.{or_later, first_clock, before_clock, just_ran_out}
use Rattle.run_journal.specs.Why.{why}
use Rattle.run_journal.specs.Saves.{saves}
use Rattle.run_journal.specs.Due.{all_along}
use Rattle.run_journal.specs.Awake.{implies, is_called_for, keeps_up, reads_clock}
use Rattle.run_journal.specs.Course.{begins_at, in_look, ends_look}
use Rattle.run_journal.specs.Agreement.{IsAmong, rises, KeepsRules}
use Rattle.run_journal.proofs.Growth.{before_all}
use Rattle.run_journal.proofs.Telling.{add_none, none_begins, none_turn}
use Rattle.run_journal.proofs.Sighting.{looked_stays}
use Rattle.run_journal.proofs.Dating.{Seen, run, see, whole, end, clocks_at}
use Rattle.run_journal.proofs.Running.{first_kept, all_of, rules_before, running_parts, RanAtWait, ran_before, runs_at_wait}
use Rattle.run_journal.proofs.Turning.{Still, quiet_entry, quiet_look, still, first_waited, dates}
use Rattle.run_journal.proofs.Truths.{not_both, or_rest}
use Rattle.run_journal.proofs.Flowing.{turn_at}

-- ---- moments of a journal

-- the one journal was the other at some moment
pub data Before (q : List Entry) : List Entry → Type 0 where
  here : Before q q
  earlier : {past : List Entry} (entry : Entry) → Before q past → Before q (entry ∷ past)

pub wait_was : (past : List Entry) → Before (before_wait past) past
wait_was [] = here
wait_was (entry ∷ past) = elim (cases_Bool (is_wait entry)) [
  | inl f ↦ subst (λ v. Before v (entry ∷ past)) (sym (cond-true (is_wait entry) past (before_wait past) f)) (earlier entry here)
  | inr f ↦ subst (λ v. Before v (entry ∷ past)) (sym (cond-false (is_wait entry) past (before_wait past) f)) (earlier entry (wait_was past))
]

pub before_then : {p q r : List Entry} → Before p q → Before q r → Before p r
before_then a here = a
before_then a (earlier entry b) = earlier entry (before_then a b)

pub ever_before : (t : List Entry → Bool) {q past : List Entry} → Before q past → ever t q ≡ true → ever t past ≡ true
ever_before t here e = e
ever_before t {q} (earlier {past} entry b) e = or_right (t (entry ∷ past)) (ever t past) (ever_before t b e)

pub rules_at : (jobs : List Job) (j : Job) {q past : List Entry} → Before q past → KeepsRules jobs j past → RanAtWait j past → KeepsRules jobs j q × RanAtWait j q
rules_at jobs j here k h = (k, h)
rules_at jobs j {q} (earlier {past} entry b) k h = rules_at jobs j b (rules_before jobs j entry past k) (ran_before jobs j entry past k h)

-- ---- the clock

pub clock_from : (d : ℕ) (past : List Entry) → all_along rises past ≡ true → ever (is_past d) past ≡ true → d ≤ time past
clock_from d [] e f = cc
clock_from d (entry ∷ past) e f = elim (or_cases (is_past d (entry ∷ past)) (ever (is_past d) past) f) [
  | inl g ↦ now entry (has_wait past) g
  | inr g ↦
      let p = and_parts (rises (entry ∷ past)) (all_along rises past) e in
      let a : d ≤ time past = clock_from d past p.1 g in
      let b : time past ≤ time (entry ∷ past) = leb-true (time past) (time (entry ∷ past)) p.0 in
      omega (arith, a, b)
]
  where
    now : (entry : Entry) (b : Bool) → is_at_least d (if b then moment_of entry else None) ≡ true → d ≤ time (entry ∷ past)
    now (made.Moment ms) true g = leb-true d ms g
    now (made.Moment ms) false g = cc
    now _ true g = cc
    now _ false g = cc

pub time_grows : {q past : List Entry} → Before q past → all_along rises past ≡ true → time q ≤ time past
time_grows here e = omega arith
time_grows {q} (earlier {past} entry b) e =
    let p = and_parts (rises (entry ∷ past)) (all_along rises past) e in
    let a : time q ≤ time past = time_grows b p.1 in
    let c : time past ≤ time (entry ∷ past) = leb-true (time past) (time (entry ∷ past)) p.0 in
    omega (arith, a, c)

-- a clock entry at or past the deadline was read where there is a first one
pub first_ever : (d : ℕ) (past : List Entry) → is_some (first_clock d past) ≡ ever (is_past d) past
first_ever d [] = refl
first_ever d (entry ∷ past) = by (first_clock d past) (turn_clock (entry ∷ past)) ∙ ap (λ b. is_past d (entry ∷ past) || b) (first_ever d past)
  where
    one : (b : Bool) (ms : ℕ) → is_some (if b then Some ms else None) ≡ (b || false)
    one true ms = refl
    one false ms = refl

    any : (b : Bool) → true ≡ (b || true)
    any true = refl
    any false = refl

    by : (f o : Option ℕ) → is_some (or_later f (if is_at_least d o then o else None)) ≡ (is_at_least d o || is_some f)
    by (Some x) o = any (is_at_least d o)
    by None None = refl
    by None (Some ms) = one (nat_le d ms) ms

pub first_before : (d : ℕ) {q past : List Entry} → Before q past → is_some (first_clock d q) ≡ true → first_clock d past ≡ first_clock d q
first_before d here e = refl
first_before d {q} (earlier {past} entry b) e =
    let same = first_before d b e in
    first_kept (first_clock d past) _ (ap (λ (o : Option ℕ). is_some o) same ∙ e) ∙ same

-- ---- looks

pub ran_parts : (j : Job) (d : ℕ) (past : List Entry) → ran_out j d past ≡ true → (is_look j past ≡ true) × (ever (is_past d) (before_wait past) ≡ true)
unfolding ran_out
ran_parts j d past e = and_parts (is_look j past) (ever (is_past d) (before_wait past)) e

pub ran_from : (j : Job) (d : ℕ) (past : List Entry) → is_look j past ≡ true → ever (is_past d) (before_wait past) ≡ true → ran_out j d past ≡ true
unfolding ran_out
ran_from j d past e f = and_from (is_look j past) (ever (is_past d) (before_wait past)) e f

pub short_look : (j : Job) (past : List Entry) → is_look j past ≡ true → is_short_wait (to_wait past) ≡ true
unfolding is_look
short_look j past e = (and_parts (is_short_wait (to_wait past)) (is_read_through j past) e).0

pub ends_parts : (j : Job) (entry : Entry) (past : List Entry) → ends_look j entry past ≡ true
    → (has_wait (entry ∷ past) ≡ true) × (is_called_for j (before_wait (entry ∷ past)) ≡ true) × (is_look j (entry ∷ past) ≡ true)
ends_parts j entry past e =
    let p = and_parts (in_look j (entry ∷ past) && is_look j (entry ∷ past)) (is_wait entry || not (is_look j past)) e in
    let q = and_parts (in_look j (entry ∷ past)) (is_look j (entry ∷ past)) p.0 in
    let r = and_parts (has_wait (entry ∷ past)) (is_called_for j (before_wait (entry ∷ past))) q.0 in
    (r.0, r.1, q.1)

pub ends_from : (j : Job) (entry : Entry) (past : List Entry) → has_wait (entry ∷ past) ≡ true → is_called_for j (before_wait (entry ∷ past)) ≡ true → is_look j (entry ∷ past) ≡ true
    → (is_wait entry || not (is_look j past)) ≡ true → ends_look j entry past ≡ true
ends_from j entry past w c l n =
    and_from (in_look j (entry ∷ past) && is_look j (entry ∷ past)) (is_wait entry || not (is_look j past))
    (and_from (in_look j (entry ∷ past)) (is_look j (entry ∷ past)) (and_from (has_wait (entry ∷ past)) (is_called_for j (before_wait (entry ∷ past))) w c) l) n

-- at a wait nothing has stopped the job
pub wait_unstopped : (jobs : List Job) (j : Job) (entry : Entry) (past : List Entry) → IsAmong j jobs → is_wait entry ≡ true → keeps_up jobs (entry ∷ past) ≡ true → is_running j past ≡ true → why j past ≡ None
wait_unstopped jobs j (made.Waited ms reports how) past m w e r =
    let p = (and_parts _ _ e).1 in
    let q : implies (is_running j past) (saves_of j past == length (saves j past) && not (is_some (why j (before_shut j past)))) ≡ true
    = all_of (λ i. implies (is_running i past) (saves_of i past == length (saves i past) && not (is_some (why i (before_shut i past))))) jobs j m p in
    let n = (and_parts (saves_of j past == length (saves j past)) (not (is_some (why j (before_shut j past)))) (sym (cond-true (is_running j past) _ true r) ∙ q)).1 in
    sym (ap (why j) (before_all j past (running_parts j past r).1)) ∙ none_is (why j (before_shut j past)) n
  where
    none_is : (o : Option Why) → not (is_some o) ≡ true → o ≡ None
    none_is (Some x) f = cc
    none_is None f = refl
wait_unstopped jobs j _ past m w e r = cc

-- at a wait before now this held, the job was running, and nothing had stopped it
pub record Left (t : List Entry → Bool) (j : Job) (past : List Entry) : Type 0 where
  pub at : List Entry
  pub before : Before at past
  pub held : t at ≡ true
  pub unstopped : why j at ≡ None
  pub runs : is_running j at ≡ true

left_more : (t : List Entry → Bool) (j : Job) (entry : Entry) (past : List Entry) → Left t j past → Left t j (entry ∷ past)
left_more t j entry past l = record { at = l.at; before = earlier entry l.before; held = l.held; unstopped = l.unstopped; runs = l.runs }

module _ (jobs : List Job) (j : Job) (entry : Entry) (past : List Entry) (k : KeepsRules jobs j (entry ∷ past)) (h : RanAtWait j (entry ∷ past)) where
  pub left_now : (t : List Entry → Bool) → is_wait entry ≡ true → t past ≡ true → Left t j (entry ∷ past)
  left_now t w e =
      let r = runs_at_wait jobs j entry past k h w in
      record {
        at = past;
        before = earlier entry here;
        held = e;
        unstopped = wait_unstopped jobs j entry past k.among w (and_parts (keeps_up jobs (entry ∷ past)) (all_along (keeps_up jobs) past) k.awake.up_to_date).0 r;
        runs = r;
      }

-- ---- what the core has found

pub unlooked_kept : (d : ℕ) (es : List Event) (s : Seen) → events.came events.is_looked es ≡ false → ((run d es s).found ≡ s.found) × ((run d es s).queued ≡ s.queued)
unlooked_kept d [] s e = (refl, refl)
unlooked_kept d (x ∷ es) s e =
    let p = or_parts (events.is_looked x) (events.came events.is_looked es) e in
    let q = unlooked_kept d es (see d x s) p.1 in
    let r = one x p.0 in
    (q.0 ∙ r.0, q.1 ∙ r.1)
  where
    one : (x : Event) → events.is_looked x ≡ false → ((see d x s).found ≡ s.found) × ((see d x s).queued ≡ s.queued)
    one (event.Moment ms) f = (refl, refl)
    one event.Looked f = cc
    one event.Saved f = (refl, refl)
    one event.Ready f = (refl, refl)
    one (event.Io b) f = (refl, refl)
    one (event.Reply b) f = (refl, refl)
    one event.Lost f = (refl, refl)
    one event.Broken f = (refl, refl)

module _ (d : ℕ) (j : Job) (entry : Entry) (past : List Entry) where
  pub clocks_kept : (s : Seen) → ((run d (clocks_at j entry past) s).found ≡ s.found) × ((run d (clocks_at j entry past) s).queued ≡ s.queued)
  clocks_kept s =
      unlooked_kept d (clocks_at j entry past) s
      (add_none events.is_looked (begins_at j entry past) (turn_at j entry past) false
      (none_begins events.is_looked j entry past (λ ms. refl)) (none_turn events.is_looked (is_running j past) (turn_clock (entry ∷ past)) (λ ms. refl)))

pub end_first : (b : Bool) (s : Seen) → (end b s).first ≡ s.first
end_first true s = refl
end_first false s = refl

end_found : (b : Bool) (s : Seen) → (end b s).found ≡ true → ((b ≡ true) × (is_some s.first ≡ true)) ⊎ (s.found ≡ true)
end_found true s e = elim (or_cases (is_some s.first) s.found e) [
  | inl f ↦ inl (refl, f)
  | inr f ↦ inr f
]
end_found false s e = inr e

end_keeps : (b : Bool) (s : Seen) → s.found ≡ true → (end b s).found ≡ true
end_keeps true s e = or_right (is_some s.first) s.found e
end_keeps false s e = e

end_finds : (b : Bool) (s : Seen) → b ≡ true → is_some s.first ≡ true → (end b s).found ≡ true
end_finds true s e f = or_left (is_some s.first) s.found f
end_finds false s e f = cc

pub end_queues : (b : Bool) (s : Seen) → s.queued ≡ true → (end b s).queued ≡ true
end_queues true s e = or_right s.fresh s.queued e
end_queues false s e = e

end_fresh : (b : Bool) (s : Seen) → b ≡ true → (end b s).fresh ≡ false
end_fresh true s e = refl
end_fresh false s e = cc

module _ (d : ℕ) (jobs : List Job) (j : Job) where
  module _ (entry : Entry) (past : List Entry) (k : KeepsRules jobs j (entry ∷ past)) (h : RanAtWait j (entry ∷ past)) where
    -- what was seen before the end of a look
    abbrev pub then_seen : Seen
    then_seen = run d (clocks_at j entry past) (whole d j past)

    pub whole_is : whole d j (entry ∷ past) ≡ end (ends_look j entry past) then_seen
    whole_is = refl

    pub first_now : then_seen.first ≡ first_clock d (entry ∷ past)
    first_now = sym (end_first (ends_look j entry past) then_seen) ∙ ap (λ (s : Seen). s.first) (sym whole_is) ∙ (dates d jobs j (entry ∷ past) k h).first

    -- at the end of a look the clock is that before its wait
    pub still_now : ends_look j entry past ≡ true → Still d (entry ∷ past) (before_wait (entry ∷ past))
    still_now e =
        let p = ends_parts j entry past e in
        quiet_look d jobs j (entry ∷ past) k.among k.awake.clock p.0 p.1 (short_look j (entry ∷ past) p.2)

    -- a look that is found is one of the journal
    now_ran : ends_look j entry past ≡ true → is_some then_seen.first ≡ true → ran_out j d (entry ∷ past) ≡ true
    now_ran e f =
        ran_from j d (entry ∷ past) (ends_parts j entry past e).2
        (sym (first_ever d (before_wait (entry ∷ past))) ∙ ap (λ (o : Option ℕ). is_some o) (sym (still_now e).first) ∙ ap (λ (o : Option ℕ). is_some o) (sym first_now) ∙ f)

    ran_stays : is_wait entry ≡ false → ran_out j d past ≡ true → ran_out j d (entry ∷ past) ≡ true
    ran_stays w e =
        let p = ran_parts j d past e in
        ran_from j d (entry ∷ past) (looked_stays j entry past w p.0) (ap (ever (is_past d)) (cond-false (is_wait entry) past (before_wait past) w) ∙ p.1)

    ran_next : (ran_out j d past ≡ true) ⊎ Left (ran_out j d) j past → (ran_out j d (entry ∷ past) ≡ true) ⊎ Left (ran_out j d) j (entry ∷ past)
    ran_next (inl e) = elim (cases_Bool (is_wait entry)) [
      | inl w ↦ inr (left_now jobs j entry past k h (ran_out j d) w e)
      | inr w ↦ inl (ran_stays w e)
    ]
    ran_next (inr l) = inr (left_more (ran_out j d) j entry past l)

  -- a look that the core has found is one of the journal, up to the next wait
  pub found_ran : (past : List Entry) → KeepsRules jobs j past → RanAtWait j past → (whole d j past).found ≡ true → (ran_out j d past ≡ true) ⊎ Left (ran_out j d) j past
  found_ran [] k h e = cc
  found_ran (entry ∷ past) k h e =
      elim (end_found (ends_look j entry past) (then_seen entry past k h) (ap (λ (s : Seen). s.found) (sym (whole_is entry past k h)) ∙ e)) [
        | inl f ↦ inl (now_ran entry past k h f.0 f.1)
        | inr f ↦ ran_next entry past k h (found_ran past (rules_before jobs j entry past k) (ran_before jobs j entry past k h) (sym (clocks_kept d j entry past (whole d j past)).0 ∙ f))
      ]

  -- one that is new now, or was before
  abbrev pub IsNew : Entry → List Entry → Type 0
  IsNew entry past = ((is_wait entry || not (is_look j past)) ≡ true) ⊎ ((is_wait entry ≡ false) × (is_look j past ≡ true))

  pub new_or_old : (entry : Entry) (past : List Entry) → IsNew entry past
  new_or_old entry past = by (is_wait entry) (is_look j past)
    where
      by : (a b : Bool) → ((a || not b) ≡ true) ⊎ ((a ≡ false) × (b ≡ true))
      by true b = inl refl
      by false true = inr (refl, refl)
      by false false = inl refl

  -- a look of the journal that was called for is found by the core
  pub ran_found : (past : List Entry) → KeepsRules jobs j past → RanAtWait j past → ran_out j d past ≡ true → is_called_for j (before_wait past) ≡ true → (whole d j past).found ≡ true
  ran_found [] k h e c = absurd (not_both (ever (is_past d) []) (ran_parts j d [] e).1 refl)
  ran_found (entry ∷ past) k h e c = by (λ x y. ran_found past (rules_before jobs j entry past k) (ran_before jobs j entry past k h) x y) (new_or_old entry past)
    where
      p : (is_look j (entry ∷ past) ≡ true) × (ever (is_past d) (before_wait (entry ∷ past)) ≡ true)
      p = ran_parts j d (entry ∷ past) e

      passed : is_some (then_seen entry past k h).first ≡ true
      passed = ap (λ (o : Option ℕ). is_some o) (first_now entry past k h) ∙ first_ever d (entry ∷ past) ∙ ever_before (is_past d) (wait_was (entry ∷ past)) p.1

      by : (ran_out j d past ≡ true → is_called_for j (before_wait past) ≡ true → (whole d j past).found ≡ true) → IsNew entry past → (whole d j (entry ∷ past)).found ≡ true
      by ih (inl n) =
          ap (λ (s : Seen). s.found) (whole_is entry past k h)
          ∙ end_finds (ends_look j entry past) (then_seen entry past k h)
          (ends_from j entry past (first_waited d (entry ∷ past) (ap (λ (o : Option ℕ). is_some o) (sym (first_now entry past k h)) ∙ passed)) c p.0 n) passed
      by ih (inr o) =
          let same : before_wait (entry ∷ past) ≡ before_wait past = cond-false (is_wait entry) past (before_wait past) o.0 in
          ap (λ (s : Seen). s.found) (whole_is entry past k h)
          ∙ end_keeps (ends_look j entry past) (then_seen entry past k h)
          ((clocks_kept d j entry past (whole d j past)).0
          ∙ ih (ran_from j d past o.1 (ap (ever (is_past d)) (sym same) ∙ p.1)) (ap (is_called_for j) (sym same) ∙ c))

  pub just_parts : (past : List Entry) → just_ran_out j d past ≡ true → (is_look j past ≡ true) × (is_some (first_clock d (before_wait past)) ≡ true) × (is_some (first_clock d (before_clock past)) ≡ false)
  just_parts past e =
      let p = and_parts (is_look j past && is_some (first_clock d (before_wait past))) (not (is_some (first_clock d (before_clock past)))) e in
      let q = and_parts (is_look j past) (is_some (first_clock d (before_wait past))) p.0 in
      (q.0, q.1, not-true (is_some (first_clock d (before_clock past))) p.1)

  pub just_from : (past : List Entry) → is_look j past ≡ true → is_some (first_clock d (before_wait past)) ≡ true → is_some (first_clock d (before_clock past)) ≡ false → just_ran_out j d past ≡ true
  just_from past e f g =
      and_from (is_look j past && is_some (first_clock d (before_wait past))) (not (is_some (first_clock d (before_clock past))))
      (and_from (is_look j past) (is_some (first_clock d (before_wait past))) e f) (not_from_false (is_some (first_clock d (before_clock past))) g)

  -- the look directly after the first clock entry, where it was called for, queues for the core
  pub just_queued : (past : List Entry) → KeepsRules jobs j past → RanAtWait j past → just_ran_out j d past ≡ true → is_called_for j (before_wait past) ≡ true → (whole d j past).queued ≡ true
  just_queued [] k h e c = absurd (not_both (is_some (first_clock d [])) (just_parts [] e).1 refl)
  just_queued (entry ∷ past) k h e c = by (λ x y. just_queued past (rules_before jobs j entry past k) (ran_before jobs j entry past k h) x y) (new_or_old entry past)
    where
      p : (is_look j (entry ∷ past) ≡ true) × (is_some (first_clock d (before_wait (entry ∷ past))) ≡ true) × (is_some (first_clock d (before_clock (entry ∷ past))) ≡ false)
      p = just_parts (entry ∷ past) e

      first_then : is_some (first_clock d (entry ∷ past)) ≡ true
      first_then = ap (λ (o : Option ℕ). is_some o) (first_before d (wait_was (entry ∷ past)) p.1) ∙ p.1

      by : (just_ran_out j d past ≡ true → is_called_for j (before_wait past) ≡ true → (whole d j past).queued ≡ true) → IsNew entry past → (whole d j (entry ∷ past)).queued ≡ true
      by ih (inl n) =
          let ended = ends_from j entry past (first_waited d (entry ∷ past) first_then) c p.0 n in
          or_rest (whole d j (entry ∷ past)).fresh (whole d j (entry ∷ past)).queued ((dates d jobs j (entry ∷ past) k h).news first_then p.2)
          (ap (λ (s : Seen). s.fresh) (whole_is entry past k h) ∙ end_fresh (ends_look j entry past) (then_seen entry past k h) ended)
      by ih (inr o) =
          let same : before_wait (entry ∷ past) ≡ before_wait past = cond-false (is_wait entry) past (before_wait past) o.0 in
          let called : is_called_for j (before_wait past) ≡ true = ap (is_called_for j) (sym same) ∙ c in
          let before : is_some (first_clock d (before_wait past)) ≡ true = ap (λ v. is_some (first_clock d v)) (sym same) ∙ p.1 in
          let waited : has_wait past ≡ true = first_waited d past (ap (λ (o : Option ℕ). is_some o) (first_before d (wait_was past) before) ∙ before) in
          let none = quiet_entry jobs j entry past k.among (and_parts (reads_clock jobs (entry ∷ past)) (all_along (reads_clock jobs) past) k.awake.clock).0 waited called (short_look j past o.1) in
          ap (λ (s : Seen). s.queued) (whole_is entry past k h)
          ∙ end_queues (ends_look j entry past) (then_seen entry past k h)
          ((clocks_kept d j entry past (whole d j past)).1
          ∙ ih
          (just_from past o.1 before (ap (λ v. is_some (first_clock d v)) (sym (still d entry past none).before) ∙ p.2)) called)
