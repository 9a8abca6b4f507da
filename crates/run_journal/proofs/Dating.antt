-- What the core knows of the clock and of looks, as one fold over its events that passes acknowledgements over, and so over what was told and
-- what waits for a save.
use Rattle.std.proofs.Common.{◌≡◌, ℕ, List, [], ◌∷◌, ◌++◌, length, drop, Bool, true, false, ◌&&◌, ◌||◌, not, cond, Option, Some, None, refl, sym, ◌∙◌, ap}
use Rattle.std.specs.Prelude.{is_some, is_none, option_map, nat_le, if◌then◌else◌}
use Rattle.std.proofs.Math.Bool.{and-false}
use Rattle.std.proofs.lemmas.Bool.{or_parts, cond_both, cond-true, cond-false}
use Rattle.world.specs.declared.entry.Entry.{Entry}
use Rattle.cell_core.specs.declared.event.Event.{Event}
use Rattle.cell_core.specs.declared.event.Event.TheVariants as event
use Rattle.cell_core.specs.Task.{Task}
use Rattle.cell_core.specs.Deadlines.{is_first_look, is_unanswered, is_queued}
use Rattle.cell_core.specs.Events as events
use Rattle.cell_core.specs.Requests as core
use Rattle.run_journal.specs.Job.{Job}
use Rattle.run_journal.specs.Requests.{or_later}
use Rattle.run_journal.specs.Course.{begins_at, when_so, ends_look, is_late, events_at, late_then, course}
use Rattle.run_journal.specs.Agreement.{told_on, is_dated}
use Rattle.run_journal.proofs.Agreeing.{after_more, stands_at}
use Rattle.run_journal.proofs.Moments.{reply_more}
use Rattle.run_journal.proofs.Flowing.{rest_at, core_at, events_are, broken_at, turn_at, lost_at, look_at}
use Rattle.run_journal.proofs.Telling.{add_none, none_late, none_core, none_when, some_map}

-- ---- the fold

-- Of a deadline: the clock of the start, the last clock, and the first turn's clock at or past the deadline, with whether neither a clock entry
-- nor a look came since, whether a look did, and whether one did with no clock entry between.
pub record Seen : Type 0 where
  pub start : Option ℕ
  pub first : Option ℕ
  pub fresh : Bool
  pub found : Bool
  pub queued : Bool
  pub now : ℕ

abbrev pub unseen : Seen
unseen = record { start = None; first = None; fresh = false; found = false; queued = false; now = 0 }

-- a turn's clock entry is at or past the deadline
abbrev pub passes : ℕ → ℕ → Seen → Bool
passes d ms s = is_some s.start && nat_le d ms

abbrev pub dated : ℕ → ℕ → Seen → Seen
dated d ms s = record {
  start = or_later s.start (Some ms);
  first = or_later s.first (if passes d ms s then Some ms else None);
  fresh = not (is_some s.first) && passes d ms s;
  found = s.found;
  queued = s.queued;
  now = ms;
}

abbrev pub sighted : Seen → Seen
sighted s = record { start = s.start; first = s.first; fresh = false; found = is_some s.first || s.found; queued = s.fresh || s.queued; now = s.now }

-- with one more event
abbrev pub see : ℕ → Event → Seen → Seen
see d (event.Moment ms) s = dated d ms s
see d event.Looked s = sighted s
see d event.Saved s = s
see d event.Ready s = s
see d (event.Io b) s = s
see d (event.Reply f) s = s
see d event.Lost s = s
see d event.Broken s = s

-- over all events, the newest first
abbrev pub seen : ℕ → List Event → Seen
seen d [] = unseen
seen d (e ∷ told) = see d e (seen d told)

-- and over more, one after another
abbrev pub run : ℕ → List Event → Seen → Seen
run d [] s = s
run d (e ∷ es) s = run d es (see d e s)

pub seen_on : (d : ℕ) (es told : List Event) → seen d (told_on es told) ≡ run d es (seen d told)
seen_on d [] told = refl
seen_on d (e ∷ es) told = seen_on d es (e ∷ told)

pub run_append : (d : ℕ) (xs ys : List Event) (s : Seen) → run d (xs ++ ys) s ≡ run d ys (run d xs s)
run_append d [] ys s = refl
run_append d (x ∷ xs) ys s = run_append d xs ys (see d x s)

undated : (d : ℕ) (e : Event) (s : Seen) → is_dated e ≡ false → see d e s ≡ s
undated d (event.Moment ms) s h = cc
undated d event.Looked s h = cc
undated d event.Saved s h = refl
undated d event.Ready s h = refl
undated d (event.Io b) s h = refl
undated d (event.Reply f) s h = refl
undated d event.Lost s h = refl
undated d event.Broken s h = refl

pub run_undated : (d : ℕ) (es : List Event) (s : Seen) → events.came is_dated es ≡ false → run d es s ≡ s
run_undated d [] s h = refl
run_undated d (e ∷ es) s h = let p = or_parts (is_dated e) (events.came is_dated es) h in ap (run d es) (undated d e s p.0) ∙ run_undated d es s p.1

-- ---- it is what the core's deadlines look at

started_more : (o : Option ℕ) (ms : ℕ) → (if is_some o then o else Some ms) ≡ or_later o (Some ms)
started_more (Some t) ms = refl
started_more None ms = refl

-- the clock of the child's start
pub start_is : (d : ℕ) (told : List Event) → events.start_time told ≡ (seen d told).start
start_is d [] = refl
start_is d (event.Moment ms ∷ told) = started_more (events.start_time told) ms ∙ ap (λ o. or_later o (Some ms)) (start_is d told)
start_is d (event.Looked ∷ told) = start_is d told
start_is d (event.Saved ∷ told) = start_is d told
start_is d (event.Ready ∷ told) = start_is d told
start_is d (event.Io b ∷ told) = start_is d told
start_is d (event.Reply f ∷ told) = start_is d told
start_is d (event.Lost ∷ told) = start_is d told
start_is d (event.Broken ∷ told) = start_is d told

-- the last clock
pub now_is : (d : ℕ) (told : List Event) → events.time told ≡ (seen d told).now
now_is d [] = refl
now_is d (event.Moment ms ∷ told) = refl
now_is d (event.Looked ∷ told) = now_is d told
now_is d (event.Saved ∷ told) = now_is d told
now_is d (event.Ready ∷ told) = now_is d told
now_is d (event.Io b ∷ told) = now_is d told
now_is d (event.Reply f ∷ told) = now_is d told
now_is d (event.Lost ∷ told) = now_is d told
now_is d (event.Broken ∷ told) = now_is d told

some_start : (o : Option ℕ) (ms : ℕ) → true ≡ is_some (or_later o (Some ms))
some_start (Some t) ms = refl
some_start None ms = refl

read_is : (d : ℕ) (told : List Event) → events.came events.is_moment told ≡ is_some (seen d told).start
read_is d [] = refl
read_is d (event.Moment ms ∷ told) = some_start (seen d told).start ms
read_is d (event.Looked ∷ told) = read_is d told
read_is d (event.Saved ∷ told) = read_is d told
read_is d (event.Ready ∷ told) = read_is d told
read_is d (event.Io b ∷ told) = read_is d told
read_is d (event.Reply f ∷ told) = read_is d told
read_is d (event.Lost ∷ told) = read_is d told
read_is d (event.Broken ∷ told) = read_is d told

-- the clock of the newest of these events after which so much came
abbrev pub clock_in : List Event → List Event → ℕ
clock_in told later = events.time (drop (length later) told)

module _ (d : ℕ) where
  -- an event that isn't the clock's is no such entry
  since_other : (e : Event) (told : List Event) (o : Option (List Event)) → events.is_turn_at d (e ∷ told) ≡ false
      → option_map (clock_in (e ∷ told)) (events.since_more (events.is_turn_at d) e told o) ≡ option_map (clock_in told) o
  since_other e told (Some later) h = refl
  since_other e told None h = ap (option_map (clock_in (e ∷ told))) (cond-false (events.is_turn_at d (e ∷ told)) (Some []) None h)

  since_clock : (ms : ℕ) (told : List Event) (o : Option (List Event)) (b : Bool) → events.is_turn_at d (event.Moment ms ∷ told) ≡ b
      → option_map (clock_in (event.Moment ms ∷ told)) (events.since_more (events.is_turn_at d) (event.Moment ms) told o) ≡ or_later (option_map (clock_in told) o) (if b then Some ms else None)
  since_clock ms told (Some later) b h = refl
  since_clock ms told None true h = ap (option_map (clock_in (event.Moment ms ∷ told))) (cond-true (events.is_turn_at d (event.Moment ms ∷ told)) (Some []) None h)
  since_clock ms told None false h = ap (option_map (clock_in (event.Moment ms ∷ told))) (cond-false (events.is_turn_at d (event.Moment ms ∷ told)) (Some []) None h)

  turn_is : (ms : ℕ) (told : List Event) → events.is_turn_at d (event.Moment ms ∷ told) ≡ passes d ms (seen d told)
  turn_is ms told = ap (λ b. b && nat_le d ms) (read_is d told)

  -- the first clock entry at or past the deadline
  pub first_is : (told : List Event) → option_map (clock_in told) (events.since (events.is_turn_at d) told) ≡ (seen d told).first
  first_is [] = refl
  first_is (event.Moment ms ∷ told) =
      since_clock ms told (events.since (events.is_turn_at d) told) (passes d ms (seen d told)) (turn_is ms told)
      ∙ ap (λ o. or_later o (if passes d ms (seen d told) then Some ms else None)) (first_is told)
  first_is (event.Looked ∷ told) = since_other event.Looked told (events.since (events.is_turn_at d) told) refl ∙ first_is told
  first_is (event.Saved ∷ told) = since_other event.Saved told (events.since (events.is_turn_at d) told) refl ∙ first_is told
  first_is (event.Ready ∷ told) = since_other event.Ready told (events.since (events.is_turn_at d) told) refl ∙ first_is told
  first_is (event.Io b ∷ told) = since_other (event.Io b) told (events.since (events.is_turn_at d) told) refl ∙ first_is told
  first_is (event.Reply f ∷ told) = since_other (event.Reply f) told (events.since (events.is_turn_at d) told) refl ∙ first_is told
  first_is (event.Lost ∷ told) = since_other event.Lost told (events.since (events.is_turn_at d) told) refl ∙ first_is told
  first_is (event.Broken ∷ told) = since_other event.Broken told (events.since (events.is_turn_at d) told) refl ∙ first_is told

  or_some : (o : Option ℕ) (b : Bool) (ms : ℕ) → is_some (or_later o (if b then Some ms else None)) ≡ (b || is_some o)
  or_some (Some x) true ms = refl
  or_some (Some x) false ms = refl
  or_some None true ms = refl
  or_some None false ms = refl

  -- there was one
  pub held_is : (told : List Event) → events.ever (events.is_turn_at d) told ≡ is_some (seen d told).first
  held_is [] = refl
  held_is (event.Moment ms ∷ told) =
      ap (λ b. b || events.ever (events.is_turn_at d) told) (turn_is ms told)
      ∙ ap (λ b. passes d ms (seen d told) || b) (held_is told)
      ∙ sym (or_some (seen d told).first (passes d ms (seen d told)) ms)
  held_is (event.Looked ∷ told) = held_is told
  held_is (event.Saved ∷ told) = held_is told
  held_is (event.Ready ∷ told) = held_is told
  held_is (event.Io b ∷ told) = held_is told
  held_is (event.Reply f ∷ told) = held_is told
  held_is (event.Lost ∷ told) = held_is told
  held_is (event.Broken ∷ told) = held_is told

  -- a look followed it
  pub found_is : (told : List Event) → events.look_since (events.is_turn_at d) told ≡ (seen d told).found
  found_is [] = refl
  found_is (event.Moment ms ∷ told) = found_is told
  found_is (event.Looked ∷ told) = ap (λ b. b || events.look_since (events.is_turn_at d) told) (held_is told) ∙ ap (λ b. is_some (seen d told).first || b) (found_is told)
  found_is (event.Saved ∷ told) = found_is told
  found_is (event.Ready ∷ told) = found_is told
  found_is (event.Io b ∷ told) = found_is told
  found_is (event.Reply f ∷ told) = found_is told
  found_is (event.Lost ∷ told) = found_is told
  found_is (event.Broken ∷ told) = found_is told

  some_first : (told : List Event) → is_some (seen d told).first ≡ is_some (events.since (events.is_turn_at d) told)
  some_first told = ap (λ (o : Option ℕ). is_some o) (sym (first_is told)) ∙ some_map (clock_in told) (events.since (events.is_turn_at d) told)

  fresh_other : (e : Event) (told : List Event) (o : Option (List Event)) → events.is_turn_at d (e ∷ told) ≡ false → events.is_moment e ≡ false → events.is_looked e ≡ false
      → is_first_look (events.since_more (events.is_turn_at d) e told o) ≡ is_first_look o
  fresh_other e told (Some later) h m l =
      ap (λ b. not (b || events.came events.is_moment later) && not (events.is_looked e || events.came events.is_looked later)) m
      ∙ ap (λ b. not (events.came events.is_moment later) && not (b || events.came events.is_looked later)) l
  fresh_other e told None h m l = ap is_first_look (cond-false (events.is_turn_at d (e ∷ told)) (Some []) None h)

  fresh_looked : (told : List Event) (o : Option (List Event)) → is_first_look (events.since_more (events.is_turn_at d) event.Looked told o) ≡ false
  fresh_looked told (Some later) = and-false (not (events.came events.is_moment later))
  fresh_looked told None = refl

  fresh_clock : (ms : ℕ) (told : List Event) (o : Option (List Event)) (b : Bool) → events.is_turn_at d (event.Moment ms ∷ told) ≡ b
      → is_first_look (events.since_more (events.is_turn_at d) (event.Moment ms) told o) ≡ (not (is_some o) && b)
  fresh_clock ms told (Some later) b h = refl
  fresh_clock ms told None true h = ap is_first_look (cond-true (events.is_turn_at d (event.Moment ms ∷ told)) (Some []) None h)
  fresh_clock ms told None false h = ap is_first_look (cond-false (events.is_turn_at d (event.Moment ms ∷ told)) (Some []) None h)

  -- nothing of the kind came since
  pub fresh_is : (told : List Event) → is_first_look (events.since (events.is_turn_at d) told) ≡ (seen d told).fresh
  fresh_is [] = refl
  fresh_is (event.Moment ms ∷ told) =
      fresh_clock ms told (events.since (events.is_turn_at d) told) (passes d ms (seen d told)) (turn_is ms told)
      ∙ ap (λ b. not b && passes d ms (seen d told)) (sym (some_first told))
  fresh_is (event.Looked ∷ told) = fresh_looked told (events.since (events.is_turn_at d) told)
  fresh_is (event.Saved ∷ told) = fresh_other event.Saved told (events.since (events.is_turn_at d) told) refl refl refl ∙ fresh_is told
  fresh_is (event.Ready ∷ told) = fresh_other event.Ready told (events.since (events.is_turn_at d) told) refl refl refl ∙ fresh_is told
  fresh_is (event.Io b ∷ told) = fresh_other (event.Io b) told (events.since (events.is_turn_at d) told) refl refl refl ∙ fresh_is told
  fresh_is (event.Reply f ∷ told) = fresh_other (event.Reply f) told (events.since (events.is_turn_at d) told) refl refl refl ∙ fresh_is told
  fresh_is (event.Lost ∷ told) = fresh_other event.Lost told (events.since (events.is_turn_at d) told) refl refl refl ∙ fresh_is told
  fresh_is (event.Broken ∷ told) = fresh_other event.Broken told (events.since (events.is_turn_at d) told) refl refl refl ∙ fresh_is told

  -- ---- the queued interrupt

  -- a request that has no reply had none
  unanswered_before : (task : Task) (k : ℕ) (e : Event) (told : List Event) → is_unanswered (core.after task k (e ∷ told)) ≡ true → is_unanswered (core.after task k told) ≡ true
  unanswered_before task k e told h = by (core.after task k told) (sym (ap is_unanswered (after_more task k e told)) ∙ h)
    where
      none_before : (o : Option Bool) (p : Option Bool) → (is_some o ≡ true → is_some p ≡ true) → is_none p ≡ true → is_none o ≡ true
      none_before None p f g = refl
      none_before (Some x) None f g = f refl
      none_before (Some x) (Some y) f g = g

      by : (o : Option (List Event)) → is_unanswered (events.since_more (stands_at task k) e told o) ≡ true → is_unanswered o ≡ true
      by None g = refl
      by (Some later) g = none_before (core.reply later) (core.reply (e ∷ later)) (reply_more e later) g

  -- where no reply came, no stream broke and no look found a loss, the interrupt was queued exactly where a look came with no
  -- clock entry between
  pub queued_is : (task : Task) (k : ℕ) (told : List Event) → is_unanswered (core.after task k told) ≡ true → events.came events.is_broken told ≡ false → events.look_since events.is_lost told ≡ false
      → is_queued task k d told ≡ (seen d told).queued
  queued_is task k [] u b l = refl
  queued_is task k (event.Looked ∷ told) u b l =
      let p = or_parts (events.ever events.is_lost told) (events.look_since events.is_lost told) l in
      let v = unanswered_before task k event.Looked told u in
      ap (λ x. (is_first_look (events.since (events.is_turn_at d) told) && is_unanswered (core.after task k told) && not (events.came events.is_broken told) && not x) || is_queued task k d told) p.0
      ∙ ap (λ x. (is_first_look (events.since (events.is_turn_at d) told) && is_unanswered (core.after task k told) && not x && true) || is_queued task k d told) b
      ∙ ap (λ x. (is_first_look (events.since (events.is_turn_at d) told) && x && true && true) || is_queued task k d told) v
      ∙ ap (λ x. x || is_queued task k d told) (three_true (is_first_look (events.since (events.is_turn_at d) told)) ∙ fresh_is told)
      ∙ ap (λ x. (seen d told).fresh || x) (queued_is task k told v b p.1)
    where
      three_true : (x : Bool) → (x && true && true && true) ≡ x
      three_true true = refl
      three_true false = refl
  queued_is task k (event.Moment ms ∷ told) u b l = queued_is task k told (unanswered_before task k (event.Moment ms) told u) b l
  queued_is task k (event.Saved ∷ told) u b l = queued_is task k told (unanswered_before task k event.Saved told u) b l
  queued_is task k (event.Ready ∷ told) u b l = queued_is task k told (unanswered_before task k event.Ready told u) b l
  queued_is task k (event.Io m ∷ told) u b l = queued_is task k told (unanswered_before task k (event.Io m) told u) b l
  queued_is task k (event.Reply f ∷ told) u b l = queued_is task k told (unanswered_before task k (event.Reply f) told u) b l
  queued_is task k (event.Lost ∷ told) u b l = queued_is task k told (unanswered_before task k event.Lost told u) b l
  queued_is task k (event.Broken ∷ told) u b l = cc

-- ---- the course

pub late_undated : (j : Job) (past : List Entry) → events.came is_dated (course j past).late ≡ false
late_undated j [] = refl
late_undated j (entry ∷ past) =
    none_late is_dated j _ (late_then j entry past (course j past).late) _
    (cond_both (ends_look j entry past) [] ((course j past).late ++ when_so (is_late j entry past) event.Lost) (λ es. events.came is_dated es ≡ false) (λ h. refl)
    (λ h. add_none is_dated (course j past).late _ false (late_undated j past) (none_when is_dated (is_late j entry past) event.Lost refl)))

-- a look ends
abbrev pub end : Bool → Seen → Seen
end b s = if b then sighted s else s

-- what an entry gives of the clock
abbrev pub clocks_at : Job → Entry → List Entry → List Event
clocks_at j entry past = begins_at j entry past ++ turn_at j entry past

-- what the entries of a journal give of the clock and of looks, whatever of it is told
abbrev pub whole : ℕ → Job → List Entry → Seen
whole d j [] = unseen
whole d j (entry ∷ past) = end (ends_look j entry past) (run d (clocks_at j entry past) (whole d j past))

module _ (d : ℕ) (j : Job) (entry : Entry) (past : List Entry) where
  pub seen_saved : (acks : Bool) (told : List Event) → seen d (cond acks (event.Saved ∷ told) told) ≡ seen d told
  seen_saved true told = refl
  seen_saved false told = refl

  -- what it gives
  pub run_events : (late : List Event) → events.came is_dated late ≡ false → (s : Seen) → run d (events_at j entry past late) s ≡ end (ends_look j entry past) (run d (clocks_at j entry past) s)
  run_events late none s =
      ap (λ es. run d es s) (events_are j entry past late)
      ∙ run_append d (core_at j entry past) (rest_at j entry past late) s
      ∙ ap (run d (rest_at j entry past late)) (run_undated d (core_at j entry past) s (none_core is_dated j entry past (λ b. refl) (λ f. refl) refl))
      ∙ run_append d (((broken_at j entry past ++ begins_at j entry past) ++ turn_at j entry past) ++ lost_at j entry past) (look_at j entry past late) s
      ∙ ap (run d (look_at j entry past late)) (run_append d ((broken_at j entry past ++ begins_at j entry past) ++ turn_at j entry past) (lost_at j entry past) s)
      ∙ ap (run d (look_at j entry past late)) (run_undated d (lost_at j entry past) (run d ((broken_at j entry past ++ begins_at j entry past) ++ turn_at j entry past) s) (none_when is_dated _ event.Lost refl))
      ∙ ap (run d (look_at j entry past late)) (run_append d (broken_at j entry past ++ begins_at j entry past) (turn_at j entry past) s)
      ∙ ap (λ v. run d (look_at j entry past late) (run d (turn_at j entry past) v)) (run_append d (broken_at j entry past) (begins_at j entry past) s)
      ∙ ap (λ v. run d (look_at j entry past late) (run d (turn_at j entry past) (run d (begins_at j entry past) v))) (run_undated d (broken_at j entry past) s (none_when is_dated _ event.Broken refl))
      ∙ ap (run d (look_at j entry past late)) (sym (run_append d (begins_at j entry past) (turn_at j entry past) s))
      ∙ by (ends_look j entry past) (run d (clocks_at j entry past) s)
    where
      by : (b : Bool) (v : Seen) → run d (if b then event.Looked ∷ late ++ when_so (is_late j entry past) event.Lost else []) v ≡ end b v
      by true v = run_undated d (late ++ when_so (is_late j entry past) event.Lost) (sighted v) (add_none is_dated late (when_so (is_late j entry past) event.Lost) false none (none_when is_dated (is_late j entry past) event.Lost refl))
      by false v = refl
