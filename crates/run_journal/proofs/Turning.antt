-- Where the loop's rules are kept the core is told each turn's clock, and no clock is read in a look.
use Rattle.std.proofs.Common.{◌≡◌, ◌⊎◌, inl, inr, ℕ, List, [], ◌∷◌, ◌++◌, Bool, true, false, ◌&&◌, ◌||◌, not, Option, Some, None, refl, sym, ◌∙◌, ap, subst}
use Rattle.std.specs.Prelude.{is_some, nat_le, nat_lt, if◌then◌else◌}
use Rattle.std.proofs.lemmas.Bool.{and_parts, or_parts, cond-true, cond-false, cases_Bool, not-true, or_cases}
use Rattle.std.proofs.lemmas.Option.{same_Some}
use Rattle.world.specs.declared.did.Did.TheVariants.{Done, Failed}
use Rattle.world.specs.declared.entry.Entry.{Entry}
use Rattle.world.specs.declared.entry.Entry.TheVariants as made
use Rattle.world.specs.Places.{time}
use Rattle.world.specs.Waits.{is_wait, has_wait, before_wait, to_wait, is_after_wait, moment_of}
use Rattle.cell_core.specs.declared.event.Event.{Event}
use Rattle.cell_core.specs.declared.event.Event.TheVariants as event
use Rattle.run_journal.specs.Job.{Job}
use Rattle.run_journal.specs.Parts.{turn_clock, saves_of, is_running}
use Rattle.run_journal.specs.Looks.{is_short_wait, is_at_least}
use Rattle.run_journal.specs.Requests.{or_later, first_clock, before_clock}
use Rattle.run_journal.specs.Due.{all_along}
use Rattle.run_journal.specs.Awake.{is_called_for, is_look_due, reads_clock}
use Rattle.run_journal.specs.Course.{begins_at, clock_event}
use Rattle.run_journal.specs.Agreement.{IsAmong, draws, drawn_clock, starts_in_turn, KeepsRules}
use Rattle.run_journal.proofs.AlikeLooks.{or_none}
use Rattle.run_journal.proofs.Turns.{turn_is}
use Rattle.run_journal.proofs.Dating.{Seen, dated, run, whole, end, clocks_at}
use Rattle.run_journal.proofs.Truths.{not_both}
use Rattle.run_journal.proofs.Running.{RanAtWait, after_running, any_before, any_of, begun_drawn, first_kept, later_some, or_off, ran_before, rules_before, running_parts, start_parts}
use Rattle.run_journal.proofs.Flowing.{turn_at}

-- ---- clock entries

pub turn_none : (entry : Entry) (past : List Entry) → moment_of entry ≡ None → turn_clock (entry ∷ past) ≡ None
turn_none entry past e = by (has_wait past)
  where
    by : (b : Bool) → (if b then moment_of entry else None) ≡ None
    by true = e
    by false = refl

-- an entry that isn't the clock's leaves it
time_still : (entry : Entry) (past : List Entry) → moment_of entry ≡ None → time (entry ∷ past) ≡ time past
time_still (made.Moment ms) past e = cc
time_still _ past e = refl

pub record Still (d : ℕ) (now past : List Entry) : Type 0 where
  pub first : first_clock d now ≡ first_clock d past
  pub before : before_clock now ≡ before_clock past
  pub clock : time now ≡ time past

pub still : (d : ℕ) (entry : Entry) (past : List Entry) → moment_of entry ≡ None → Still d (entry ∷ past) past
still d entry past e = record {
  first = ap (λ o. or_later (first_clock d past) (if is_at_least d o then o else None)) (turn_none entry past e) ∙ or_none (first_clock d past);
  before = ap (λ (o : Option ℕ). if is_some o then past else before_clock past) e;
  clock = time_still entry past e;
}

still_on : (d : ℕ) (now mid past : List Entry) → Still d now mid → Still d mid past → Still d now past
still_on d now mid past a b = record { first = a.first ∙ b.first; before = a.before ∙ b.before; clock = a.clock ∙ b.clock }

still_as : (d : ℕ) (now mid past : List Entry) → Still d now mid → past ≡ mid → Still d now past
still_as d now mid past a e = subst (Still d now) (sym e) a

pub wait_moment : (entry : Entry) → is_wait entry ≡ true → moment_of entry ≡ None
wait_moment (made.Waited ms reports how) e = refl
wait_moment _ e = cc

after_none : (b : Bool) → (not b || false) ≡ true → b ≡ true → ⊥
after_none true e f = cc
after_none false e f = cc

-- after the wait of a look the clock isn't read
pub quiet_entry : (jobs : List Job) (j : Job) (entry : Entry) (past : List Entry) → IsAmong j jobs → reads_clock jobs (entry ∷ past) ≡ true → has_wait past ≡ true → is_called_for j (before_wait past) ≡ true
    → is_short_wait (to_wait past) ≡ true → moment_of entry ≡ None
quiet_entry jobs j (made.Moment ms) [] m e w c s = cc
quiet_entry jobs j (made.Moment ms) (made.Waited limit reports Done ∷ past) m e w c s = absurd (not_both (is_look_due jobs past) (any_of (λ i. is_called_for i past) jobs j m c) (not-true (is_look_due jobs past) e))
quiet_entry jobs j (made.Moment ms) (made.Waited limit reports Failed ∷ past) m e w c s = cc
quiet_entry jobs j (made.Moment ms) (x ∷ past) m e w c s = absurd (after_none (has_wait past) e w)
quiet_entry jobs j _ past m e w c s = refl

pub quiet_look : (d : ℕ) (jobs : List Job) (j : Job) (past : List Entry) → IsAmong j jobs → all_along (reads_clock jobs) past ≡ true → has_wait past ≡ true → is_called_for j (before_wait past) ≡ true
    → is_short_wait (to_wait past) ≡ true → Still d past (before_wait past)
quiet_look d jobs j [] m e w c s = cc
quiet_look d jobs j (entry ∷ past) m e w c s = by (λ x y z. quiet_look d jobs j past m p.1 x y z) (cases_Bool (is_wait entry))
  where
    p : (reads_clock jobs (entry ∷ past) ≡ true) × (all_along (reads_clock jobs) past ≡ true)
    p = and_parts (reads_clock jobs (entry ∷ past)) (all_along (reads_clock jobs) past) e

    by : (has_wait past ≡ true → is_called_for j (before_wait past) ≡ true → is_short_wait (to_wait past) ≡ true → Still d past (before_wait past)) → (is_wait entry ≡ true) ⊎ (is_wait entry ≡ false)
        → Still d (entry ∷ past) (before_wait (entry ∷ past))
    by ih (inl f) = still_as d (entry ∷ past) past (before_wait (entry ∷ past)) (still d entry past (wait_moment entry f)) (cond-true (is_wait entry) past (before_wait past) f)
    by ih (inr f) =
        let same : before_wait (entry ∷ past) ≡ before_wait past = cond-false (is_wait entry) past (before_wait past) f in
        let waited : has_wait past ≡ true = ap (λ v. v || has_wait past) (sym f) ∙ w in
        let called : is_called_for j (before_wait past) ≡ true = ap (is_called_for j) (sym same) ∙ c in
        let short : is_short_wait (to_wait past) ≡ true = ap is_short_wait (sym (cond-false (is_wait entry) (entry ∷ past) (to_wait past) f)) ∙ s in
        still_as d (entry ∷ past) (before_wait past) (before_wait (entry ∷ past))
        (still_on d (entry ∷ past) past (before_wait past) (still d entry past (quiet_entry jobs j entry past m p.0 waited called short)) (ih waited called short)) same

-- before the first wait there is no turn's clock
pub first_none : (d : ℕ) (past : List Entry) → has_wait past ≡ false → first_clock d past ≡ None
first_none d [] e = refl
first_none d (entry ∷ past) e =
    let p = or_parts (is_wait entry) (has_wait past) e in
    ap (λ o. or_later (first_clock d past) (if is_at_least d o then o else None)) (cond-false (has_wait past) (moment_of entry) None p.1)
    ∙ or_none (first_clock d past) ∙ first_none d past p.1

pub first_waited : (d : ℕ) (past : List Entry) → is_some (first_clock d past) ≡ true → has_wait past ≡ true
first_waited d past e = elim (cases_Bool (has_wait past)) [
  | inl f ↦ f
  | inr f ↦ absurd (not_both (is_some (first_clock d past)) e (ap (λ (o : Option ℕ). is_some o) (first_none d past f)))
]

-- ---- what the core has been told

-- the core's is the journal's
pub record Dates (d : ℕ) (j : Job) (past : List Entry) (s : Seen) : Type 0 where
  pub start : s.start ≡ drawn_clock j past
  pub first : s.first ≡ first_clock d past
  pub now : is_some (first_clock 0 past) ≡ true → s.now ≡ time past
  pub fresh : s.fresh ≡ true → (is_some s.first ≡ true) × (is_some (first_clock d (before_clock past)) ≡ false)
  pub passed : s.queued ≡ true → is_some s.first ≡ true
  pub news : is_some (first_clock d past) ≡ true → is_some (first_clock d (before_clock past)) ≡ false → (s.fresh || s.queued) ≡ true

dates_end : (d : ℕ) (j : Job) (past : List Entry) (s : Seen) (b : Bool) → Dates d j past s → Dates d j past (end b s)
dates_end d j past s true i = record { start = i.start; first = i.first; now = i.now; fresh = λ e. cc; passed = passed; news = i.news }
  where
    passed : (s.fresh || s.queued) ≡ true → is_some s.first ≡ true
    passed e = elim (or_cases s.fresh s.queued e) [
      | inl f ↦ (i.fresh f).0
      | inr f ↦ i.passed f
    ]
dates_end d j past s false i = i

dates_same : (d : ℕ) (j : Job) (entry : Entry) (past : List Entry) (s : Seen) → draws j entry ≡ false → Still d (entry ∷ past) past → Still 0 (entry ∷ past) past → Dates d j past s → Dates d j (entry ∷ past) s
dates_same d j entry past s e t z i = record {
  start = i.start ∙ sym (drawn_same j entry past e);
  first = i.first ∙ sym t.first;
  now = λ f. i.now (ap (λ (o : Option ℕ). is_some o) (sym z.first) ∙ f) ∙ sym t.clock;
  fresh = λ f. let p = i.fresh f in (p.0, ap (λ v. is_some (first_clock d v)) t.before ∙ p.1);
  passed = i.passed;
  news = λ f g. i.news (ap (λ (o : Option ℕ). is_some o) (sym t.first) ∙ f) (ap (λ v. is_some (first_clock d v)) (sym t.before) ∙ g);
}
  where
    drawn_same : (j : Job) (entry : Entry) (past : List Entry) → draws j entry ≡ false → drawn_clock j (entry ∷ past) ≡ drawn_clock j past
    drawn_same j entry past e = ap (or_later (drawn_clock j past)) (cond-false (draws j entry) (Some (time past)) None e) ∙ or_none (drawn_clock j past)

begins_is : (j : Job) (entry : Entry) (past : List Entry) → begins_at j entry past ≡ (if draws j entry then event.Moment (time past) ∷ [] else [])
begins_is j (made.Ports job ports) past = refl
begins_is j _ past = refl

draws_moment : (j : Job) (entry : Entry) → draws j entry ≡ true → moment_of entry ≡ None
draws_moment j (made.Ports job ports) e = refl
draws_moment j _ e = cc

moment_draws : (j : Job) (entry : Entry) (ms : ℕ) → moment_of entry ≡ Some ms → draws j entry ≡ false
moment_draws j (made.Moment t) ms e = refl
moment_draws j (made.Ports job ports) ms e = cc
moment_draws j _ ms e = refl

pub moment_time : (entry : Entry) (past : List Entry) (t : ℕ) → moment_of entry ≡ Some t → time (entry ∷ past) ≡ t
moment_time (made.Moment ms) past t e = same_Some _ _ e
moment_time _ past t e = cc

early_first : (d : ℕ) (past : List Entry) (o : Option ℕ) → o ≡ None → or_later (first_clock d past) (if is_at_least d o then o else None) ≡ first_clock d past
early_first d past o e = ap (λ v. or_later (first_clock d past) (if is_at_least d v then v else None)) e ∙ or_none (first_clock d past)

-- what a clock entry gives is a turn's, where the job runs
turn_event : (running : Bool) (o p : Option ℕ) → o ≡ p → (if running then clock_event o else []) ≡ (if running then clock_event p else [])
turn_event running o p e = ap (λ v. if running then clock_event v else []) e

none_given : (running : Bool) → ◌≡◌ {A = List Event} (if running then clock_event None else []) []
none_given true = refl
none_given false = refl

module _ (d : ℕ) (jobs : List Job) (j : Job) (entry : Entry) (past : List Entry) (k : KeepsRules jobs j (entry ∷ past)) (h : RanAtWait j (entry ∷ past)) where
  rules : KeepsRules jobs j past
  rules = rules_before jobs j entry past k

  -- where there was a wait the ports were drawn
  pub drawn_then : has_wait past ≡ true → is_some (drawn_clock j past) ≡ true
  drawn_then w = begun_drawn j past rules.start (any_before j past (running_parts j (before_wait past) (ran_before jobs j entry past k h w)).0)

  start_now : (starts_in_turn j (entry ∷ past) ≡ true)
  start_now = (and_parts (starts_in_turn j (entry ∷ past)) (all_along (starts_in_turn j) past) k.start).0

  pub clocks_none : draws j entry ≡ false → turn_clock (entry ∷ past) ≡ None → clocks_at j entry past ≡ []
  clocks_none e f =
      ap (λ es. es ++ turn_at j entry past) (begins_is j entry past ∙ cond-false (draws j entry) (event.Moment (time past) ∷ []) [] e)
      ∙ turn_event (is_running j past) (turn_clock (entry ∷ past)) None f
      ∙ none_given (is_running j past)

  clocks_drawn : draws j entry ≡ true → clocks_at j entry past ≡ event.Moment (time past) ∷ []
  clocks_drawn e =
      ap (λ es. es ++ turn_at j entry past) (begins_is j entry past ∙ cond-true (draws j entry) (event.Moment (time past) ∷ []) [] e)
      ∙ ap (λ es. event.Moment (time past) ∷ es) (turn_event (is_running j past) (turn_clock (entry ∷ past)) None (turn_none entry past (draws_moment j entry e)) ∙ none_given (is_running j past))

  clocks_turn : (ms : ℕ) → draws j entry ≡ false → turn_clock (entry ∷ past) ≡ Some ms → is_running j past ≡ true → clocks_at j entry past ≡ event.Moment ms ∷ []
  clocks_turn ms e f r =
      ap (λ es. es ++ turn_at j entry past) (begins_is j entry past ∙ cond-false (draws j entry) (event.Moment (time past) ∷ []) [] e)
      ∙ turn_event (is_running j past) (turn_clock (entry ∷ past)) (Some ms) f
      ∙ cond-true (is_running j past) (event.Moment ms ∷ []) [] r

  -- where ports are drawn
  dates_drawn : (s : Seen) → draws j entry ≡ true → Dates d j past s → Dates d j (entry ∷ past) (dated d (time past) s)
  dates_drawn s e i = record {
    start = ap (λ o. or_later o (Some (time past))) i.start ∙ ap (or_later (drawn_clock j past)) (sym (cond-true (draws j entry) (Some (time past)) None e));
    first = ap (λ b. or_later s.first (if b && nat_le d (time past) then Some (time past) else None)) unread ∙ or_none s.first ∙ i.first ∙ sym t.first;
    now = λ f. sym t.clock;
    passed = λ f. later_some s.first _ (i.passed f);
    fresh = λ f. absurd (off (not (is_some s.first)) (is_some s.start) (nat_le d (time past)) unread f);
    news = λ f g. absurd (not_both (is_some (drawn_clock j past)) (drawn_then (first_waited d past (ap (λ (o : Option ℕ). is_some o) (sym t.first) ∙ f))) none);
  }
    where
      t : Still d (entry ∷ past) past
      t = still d entry past (draws_moment j entry e)

      none : is_some (drawn_clock j past) ≡ false
      none = not-true (is_some (drawn_clock j past)) (and_parts (not (is_some (drawn_clock j past))) (nat_lt 0 (saves_of j past)) (or_off (draws j entry) _ (start_parts j entry past start_now).0 e)).0

      unread : is_some s.start ≡ false
      unread = ap (λ (o : Option ℕ). is_some o) i.start ∙ none

      off : (a b c : Bool) → b ≡ false → (a && (b && c)) ≡ true → ⊥
      off true true c e f = cc
      off true false c e f = cc
      off false b c e f = cc

  -- at a turn's clock entry
  dates_turn : (s : Seen) (ms : ℕ) → moment_of entry ≡ Some ms → has_wait past ≡ true → Dates d j past s → Dates d j (entry ∷ past) (dated d ms s)
  dates_turn s ms e w i = record {
    start = ap (λ o. or_later o (Some ms)) i.start ∙ first_kept (drawn_clock j past) (Some ms) (drawn_then w)
        ∙ sym (first_kept (drawn_clock j past) (if draws j entry then Some (time past) else None) (drawn_then w));
    first = ap (λ b. or_later s.first (if b && nat_le d ms then Some ms else None)) is_read ∙ ap (λ o. or_later o (if nat_le d ms then Some ms else None)) i.first ∙ sym first_now;
    now = λ f. sym (moment_time entry past ms e);
    passed = λ f. later_some s.first _ (i.passed f);
    fresh = λ f. by_fresh s.first (is_some s.start) (nat_le d ms) is_read f i.first;
    news = λ f g. by_news s.first (is_some s.start) (nat_le d ms) is_read (ap (λ (o : Option ℕ). is_some o) i.first ∙ ap (λ v. is_some (first_clock d v)) (sym before_now) ∙ g)
        (ap (λ o. is_some (or_later o (if nat_le d ms then Some ms else None))) i.first ∙ ap (λ (o : Option ℕ). is_some o) (sym first_now) ∙ f);
  }
    where
      turned : turn_clock (entry ∷ past) ≡ Some ms
      turned = cond-true (has_wait past) (moment_of entry) None w ∙ e

      is_read : is_some s.start ≡ true
      is_read = ap (λ (o : Option ℕ). is_some o) i.start ∙ drawn_then w

      first_now : first_clock d (entry ∷ past) ≡ or_later (first_clock d past) (if nat_le d ms then Some ms else None)
      first_now = ap (λ o. or_later (first_clock d past) (if is_at_least d o then o else None)) turned

      before_now : before_clock (entry ∷ past) ≡ past
      before_now = ap (λ (o : Option ℕ). if is_some o then past else before_clock past) e

      by_fresh : (o : Option ℕ) (r n : Bool) → r ≡ true → (not (is_some o) && (r && n)) ≡ true → o ≡ first_clock d past
          → (is_some (or_later o (if r && n then Some ms else None)) ≡ true) × (is_some (first_clock d (before_clock (entry ∷ past))) ≡ false)
      by_fresh (Some x) r n a b c = cc
      by_fresh None true true a b c = (refl, ap (λ v. is_some (first_clock d v)) before_now ∙ ap (λ (o : Option ℕ). is_some o) (sym c))
      by_fresh None true false a b c = cc
      by_fresh None false n a b c = cc

      by_news : (o : Option ℕ) (r n : Bool) → r ≡ true → is_some o ≡ false → is_some (or_later o (if n then Some ms else None)) ≡ true → ((not (is_some o) && (r && n)) || s.queued) ≡ true
      by_news (Some x) r n a b c = cc
      by_news None true true a b c = refl
      by_news None true false a b c = cc
      by_news None false n a b c = cc

  -- before the first wait nothing passed
  dates_early : (s : Seen) → draws j entry ≡ false → has_wait past ≡ false → turn_clock (entry ∷ past) ≡ None → Dates d j past s → Dates d j (entry ∷ past) s
  dates_early s e w f i = record {
    start = i.start ∙ sym (ap (or_later (drawn_clock j past)) (cond-false (draws j entry) (Some (time past)) None e) ∙ or_none (drawn_clock j past));
    first = i.first ∙ sym first_now;
    now = λ g. absurd (not_both (is_some (first_clock 0 (entry ∷ past))) g (ap (λ (o : Option ℕ). is_some o) (early_first 0 past (turn_clock (entry ∷ past)) f ∙ first_none 0 past w)));
    passed = i.passed;
    fresh = λ g. absurd (not_both (is_some s.first) (i.fresh g).0 (ap (λ (o : Option ℕ). is_some o) (i.first ∙ first_none d past w)));
    news = λ g l. absurd (not_both (is_some (first_clock d (entry ∷ past))) g (ap (λ (o : Option ℕ). is_some o) (first_now ∙ first_none d past w)));
  }
    where
      first_now : first_clock d (entry ∷ past) ≡ first_clock d past
      first_now = ap (λ o. or_later (first_clock d past) (if is_at_least d o then o else None)) f ∙ or_none (first_clock d past)

  -- after what an entry gives of the clock
  pub dates_clock : (s : Seen) → Dates d j past s → Dates d j (entry ∷ past) (run d (clocks_at j entry past) s)
  dates_clock s i = by (cases_Bool (draws j entry)) (moment_of entry) refl (cases_Bool (has_wait past))
    where
      as_run : (es : List Event) → clocks_at j entry past ≡ es → Dates d j (entry ∷ past) (run d es s) → Dates d j (entry ∷ past) (run d (clocks_at j entry past) s)
      as_run es e v = subst (λ xs. Dates d j (entry ∷ past) (run d xs s)) (sym e) v

      runs : (ms : ℕ) → turn_clock (entry ∷ past) ≡ Some ms → has_wait past ≡ true → is_running j past ≡ true
      runs ms e w = after_running j past (after (is_after_wait past) (sym (turn_is jobs entry past clock_now) ∙ e)) (ran_before jobs j entry past k h w)
        where
          clock_now : reads_clock jobs (entry ∷ past) ≡ true
          clock_now = (and_parts (reads_clock jobs (entry ∷ past)) (all_along (reads_clock jobs) past) k.awake.clock).0

          after : (b : Bool) → (if b then moment_of entry else None) ≡ Some ms → b ≡ true
          after true f = refl
          after false f = cc

      by : (draws j entry ≡ true) ⊎ (draws j entry ≡ false) → (o : Option ℕ) → moment_of entry ≡ o → (has_wait past ≡ true) ⊎ (has_wait past ≡ false) → Dates d j (entry ∷ past) (run d (clocks_at j entry past) s)
      by (inl e) o f w = as_run (event.Moment (time past) ∷ []) (clocks_drawn e) (dates_drawn s e i)
      by (inr e) None f w = as_run [] (clocks_none e (turn_none entry past f)) (dates_same d j entry past s e (still d entry past f) (still 0 entry past f) i)
      by (inr e) (Some ms) f (inl w) =
          let turned : turn_clock (entry ∷ past) ≡ Some ms = cond-true (has_wait past) (moment_of entry) None w ∙ f in
          as_run (event.Moment ms ∷ []) (clocks_turn ms e turned (runs ms turned w)) (dates_turn s ms f w i)
      by (inr e) (Some ms) f (inr w) =
          let none : turn_clock (entry ∷ past) ≡ None = cond-false (has_wait past) (moment_of entry) None w in
          as_run [] (clocks_none e none) (dates_early s e w none i)

-- so along a journal
pub dates : (d : ℕ) (jobs : List Job) (j : Job) (past : List Entry) → KeepsRules jobs j past → RanAtWait j past → Dates d j past (whole d j past)
dates d jobs j [] k h = record { start = refl; first = refl; now = λ e. cc; fresh = λ e. cc; passed = λ e. cc; news = λ e f. cc }
dates d jobs j (entry ∷ past) k h =
    dates_end d j (entry ∷ past) (run d (clocks_at j entry past) (whole d j past)) _
    (dates_clock d jobs j entry past k h (whole d j past) (dates d jobs j past (rules_before jobs j entry past k) (ran_before jobs j entry past k h)))
