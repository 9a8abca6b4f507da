-- What an entry gives of losses and looks, and what of these is among the events of a course.
use Rattle.std.proofs.Common.{◌≡◌, ◌⊎◌, inl, inr, ℕ, ◌+◌, List, [], ◌∷◌, ◌++◌, Bool, true, false, ◌&&◌, ◌||◌, not, cond, refl, sym, ◌∙◌, ap, arith, append_assoc}
use Rattle.std.specs.Prelude.{nat_le}
use Rattle.std.specs.List.{list_any, list_all}
use Rattle.std.proofs.Math.Bool.{or-false, or_comm, or_assoc}
use Rattle.std.proofs.lemmas.Bool.{and_parts, or_parts, and_from, or_left, or_right, cond-false, cond_both, leb-true, le-leb, or_cases}
use Rattle.world.specs.declared.chan.Chan.{Chan}
use Rattle.world.specs.declared.connected.Connected.{Connected}
use Rattle.world.specs.declared.connected.Connected.TheVariants as connected
use Rattle.world.specs.declared.entry.Entry.{Entry}
use Rattle.world.specs.declared.entry.Entry.TheVariants as made
use Rattle.world.specs.Places.{Status, is_at, status_after, connected_after, time}
use Rattle.world.specs.Waits.{is_wait, to_wait, since_wait}
use Rattle.cell_core.specs.declared.event.Event.{Event}
use Rattle.cell_core.specs.declared.event.Event.TheVariants as event
use Rattle.cell_core.specs.Events as events
use Rattle.run_journal.specs.Job.{Job}
use Rattle.run_journal.specs.Parts.{channels, place, connection, turn_clock, is_acknowledging, is_running}
use Rattle.run_journal.specs.Looks.{is_short_wait, ends_reading, is_drained, is_look, shows_lost}
use Rattle.run_journal.specs.Course.{begins_at, when_so, ends_look, is_late, events_at, Course, late_then, told_saved, course}
use Rattle.run_journal.specs.Agreement.{told_on}
use Rattle.run_journal.proofs.Flowing.{Tells, front, tell_front, rest_at, core_at, events_are, broken_at, turn_at, lost_at, look_at}
use Rattle.run_journal.proofs.Telling.{or_swap, came_append, came_on, add_none, none_then, came_saved, none_when, none_begins, none_turn, none_core, none_late, is_loss, loss_is, lost_when}
use Rattle.jtext.proofs.Lists.{all_more}

-- ---- tests

pub or_more : (a b c : Bool) → (a || b) ≡ true → (a || (b || c)) ≡ true
or_more true b c e = refl
or_more false b c e = ap (λ v. v || c) e

-- ---- a look stays done up to the next wait

pub from_64 : (n : ℕ) → nat_le 64 n ≡ true → nat_le 64 (n + 1) ≡ true
from_64 n e = le-leb 64 (n + 1) (let h = leb-true 64 n e in omega (arith, h))

pub count_connected : (how : Connected) (port clock : ℕ) (s : Status) → nat_le 64 s.count ≡ true → nat_le 64 (connected_after how port clock s).count ≡ true
count_connected connected.Begun port clock s e = e
count_connected connected.Refused port clock s e = e
count_connected connected.Failed port clock s e = e

pub count_by : (b : Bool) (s t : Status) → nat_le 64 s.count ≡ true → nat_le 64 t.count ≡ true → nat_le 64 (cond b s t).count ≡ true
count_by true s t e f = e
count_by false s t e f = f

pub count_stays : (p clock : ℕ) (entry : Entry) (s : Status) → is_wait entry ≡ false → nat_le 64 s.count ≡ true → nat_le 64 (status_after p clock entry s).count ≡ true
count_stays p clock (made.Connected conn port how) s w e = count_by (is_at p conn) _ s (count_connected how port clock s e) e
count_stays p clock (made.Closed conn) s w e = count_by (is_at p conn) _ s e e
count_stays p clock (made.Got conn room bytes) s w e = count_by (is_at p conn) _ s (from_64 s.count e) e
count_stays p clock (made.Dry conn) s w e = count_by (is_at p conn) _ s e e
count_stays p clock (made.Ended conn by) s w e = count_by (is_at p conn) _ s e e
count_stays p clock (made.Refused conn by) s w e = count_by (is_at p conn) _ s e e
count_stays p clock (made.ReadFailed conn) s w e = count_by (is_at p conn) _ s e e
count_stays p clock (made.Put conn bytes) s w e = count_by (is_at p conn) _ s e e
count_stays p clock (made.Stuck conn) s w e = count_by (is_at p conn) _ s e e
count_stays p clock (made.PutFailed conn) s w e = count_by (is_at p conn) _ s e e
count_stays p clock (made.Waited ms reports how) s w e = cc
count_stays p clock _ s w e = e

pub drained_stays : (j : Job) (c : Chan) (entry : Entry) (past : List Entry) → is_wait entry ≡ false → is_drained j c past ≡ true → is_drained j c (entry ∷ past) ≡ true
drained_stays j c entry past w e = by (or_cases (list_any (ends_reading (place j c)) (since_wait past)) _ e)
  where
    by : (list_any (ends_reading (place j c)) (since_wait past) ≡ true) ⊎ (nat_le 64 (connection j c past).count ≡ true) → is_drained j c (entry ∷ past) ≡ true
    by (inl h) =
        or_left _ _
        (ap (list_any (ends_reading (place j c))) (cond-false (is_wait entry) [] (entry ∷ since_wait past) w) ∙ or_right (ends_reading (place j c) entry) _ h)
    by (inr h) = or_right (list_any (ends_reading (place j c)) (since_wait (entry ∷ past))) _ (count_stays (place j c) (time past) entry (connection j c past) w h)

pub looked_stays : (j : Job) (entry : Entry) (past : List Entry) → is_wait entry ≡ false → is_look j past ≡ true → is_look j (entry ∷ past) ≡ true
unfolding is_look
looked_stays j entry past w e =
    let same : to_wait (entry ∷ past) ≡ to_wait past = cond-false (is_wait entry) (entry ∷ past) (to_wait past) w in
    let p = and_parts _ (list_all (λ c. not (connection j c (to_wait past)).awake || is_drained j c past) channels) e in
    and_from _ _ (ap is_short_wait same ∙ p.0)
    (ap (λ at. list_all (λ c. not (connection j c at).awake || is_drained j c (entry ∷ past)) channels) same
    ∙ all_more (λ c. not (connection j c (to_wait past)).awake || is_drained j c past) _ by channels p.1)
  where
    by : (c : Chan) → (not (connection j c (to_wait past)).awake || is_drained j c past) ≡ true → (not (connection j c (to_wait past)).awake || is_drained j c (entry ∷ past)) ≡ true
    by c h = elim (or_cases (not (connection j c (to_wait past)).awake) (is_drained j c past) h) [
      | inl k ↦ or_left _ _ k
      | inr k ↦ or_right (not (connection j c (to_wait past)).awake) _ (drained_stays j c entry past w k)
    ]

-- ---- looks among events

-- a look is among these events after a loss, or after these where one came before
abbrev pub found_in : Bool → List Event → Bool
found_in lost [] = false
found_in lost (e ∷ es) = (events.is_looked e && lost) || found_in (is_loss e || lost) es

pub loss_at : (e : Event) (told : List Event) → events.is_lost (e ∷ told) ≡ is_loss e
loss_at event.Lost told = refl
loss_at event.Saved told = refl
loss_at event.Ready told = refl
loss_at (event.Io b) told = refl
loss_at (event.Reply f) told = refl
loss_at (event.Moment ms) told = refl
loss_at event.Looked told = refl
loss_at event.Broken told = refl

pub found_on : (es told : List Event) → events.look_since events.is_lost (told_on es told) ≡ (events.look_since events.is_lost told || found_in (events.came is_loss told) es)
found_on [] told = sym (or-false (events.look_since events.is_lost told))
found_on (e ∷ es) told =
    found_on es (e ∷ told)
    ∙ sym (or_swap (events.is_looked e && events.ever events.is_lost told) (events.look_since events.is_lost told) (found_in (events.came is_loss (e ∷ told)) es))
    ∙ ap (λ b. events.look_since events.is_lost told || ((events.is_looked e && b) || found_in (events.came is_loss (e ∷ told)) es)) (loss_is told)

pub found_append : (lost : Bool) (xs ys : List Event) → found_in lost (xs ++ ys) ≡ (found_in lost xs || found_in (events.came is_loss xs || lost) ys)
found_append lost [] ys = refl
found_append lost (x ∷ xs) ys =
    ap (λ b. (events.is_looked x && lost) || b)
    (found_append (is_loss x || lost) xs ys ∙ ap (λ b. found_in (is_loss x || lost) xs || found_in b ys) (or_swap (is_loss x) (events.came is_loss xs) lost))
    ∙ sym (or_assoc (events.is_looked x && lost) (found_in (is_loss x || lost) xs) (found_in ((is_loss x || events.came is_loss xs) || lost) ys))

pub none_found : (lost : Bool) (xs : List Event) → events.came events.is_looked xs ≡ false → found_in lost xs ≡ false
none_found lost [] e = refl
none_found lost (x ∷ xs) e =
    let p = or_parts (events.is_looked x) (events.came events.is_looked xs) e in
    ap (λ b. (b && lost) || found_in (is_loss x || lost) xs) p.0 ∙ none_found (is_loss x || lost) xs p.1

-- ---- what an entry gives

-- what it gives before the end of a look
abbrev pub front_at : Job → Entry → List Entry → List Event
front_at j entry past = broken_at j entry past ++ begins_at j entry past ++ turn_at j entry past ++ lost_at j entry past

module _ (j : Job) (entry : Entry) (past : List Entry) where
  pub front_lost : events.came is_loss (front_at j entry past) ≡ (shows_lost j (entry ∷ past) && not (is_late j entry past))
  front_lost =
      none_then is_loss (broken_at j entry past ++ begins_at j entry past ++ turn_at j entry past) _ _
      (add_none is_loss (broken_at j entry past ++ begins_at j entry past) (turn_at j entry past) _
      (add_none is_loss (broken_at j entry past) (begins_at j entry past) _ (none_when is_loss _ event.Broken refl) (none_begins is_loss j entry past (λ ms. refl)))
      (none_turn is_loss (is_running j past) (turn_clock (entry ∷ past)) (λ ms. refl)))
      (lost_when (shows_lost j (entry ∷ past) && not (is_late j entry past)))

  pub front_unlooked : events.came events.is_looked (front_at j entry past) ≡ false
  front_unlooked =
      add_none events.is_looked (broken_at j entry past ++ begins_at j entry past ++ turn_at j entry past) _ _
      (add_none events.is_looked (broken_at j entry past ++ begins_at j entry past) (turn_at j entry past) _
      (add_none events.is_looked (broken_at j entry past) (begins_at j entry past) _ (none_when events.is_looked _ event.Broken refl) (none_begins events.is_looked j entry past (λ ms. refl)))
      (none_turn events.is_looked (is_running j past) (turn_clock (entry ∷ past)) (λ ms. refl)))
      (none_when events.is_looked _ event.Lost refl)

  pub end_found : (lost : Bool) (late : List Event) → events.came events.is_looked late ≡ false → found_in lost (look_at j entry past late) ≡ (ends_look j entry past && lost)
  end_found lost late e = by (ends_look j entry past)
    where
      rest : found_in lost (late ++ when_so (is_late j entry past) event.Lost) ≡ false
      rest = none_found lost (late ++ when_so (is_late j entry past) event.Lost) (add_none events.is_looked late (when_so (is_late j entry past) event.Lost) false e (none_when events.is_looked (is_late j entry past) event.Lost refl))

      by : (b : Bool) → found_in lost (cond b (event.Looked ∷ late ++ when_so (is_late j entry past) event.Lost) []) ≡ (b && lost)
      by true = ap (λ v. lost || v) rest ∙ or-false lost
      by false = refl

  -- a look that finds a loss is the end of a look of the job
  pub gives_found : (lost : Bool) (late : List Event) → events.came events.is_looked late ≡ false
      → found_in lost (events_at j entry past late) ≡ (ends_look j entry past && ((shows_lost j (entry ∷ past) && not (is_late j entry past)) || lost))
  gives_found lost late e =
      ap (found_in lost) (events_are j entry past late)
      ∙ found_append lost (core_at j entry past) (rest_at j entry past late)
      ∙ ap (λ b. b || found_in (events.came is_loss (core_at j entry past) || lost) (rest_at j entry past late)) (none_found lost (core_at j entry past) (none_core events.is_looked j entry past (λ b. refl) (λ f. refl) refl))
      ∙ ap (λ b. found_in (b || lost) (rest_at j entry past late)) (none_core is_loss j entry past (λ b. refl) (λ f. refl) refl)
      ∙ found_append lost (front_at j entry past) (look_at j entry past late)
      ∙ ap (λ b. b || found_in (events.came is_loss (front_at j entry past) || lost) (look_at j entry past late)) (none_found lost (front_at j entry past) front_unlooked)
      ∙ ap (λ b. found_in (b || lost) (look_at j entry past late)) front_lost
      ∙ end_found ((shows_lost j (entry ∷ past) && not (is_late j entry past)) || lost) late e

-- ---- the course

-- a loss is known of: it was told, or waits for a save
abbrev pub knows : Course → Bool
knows c = events.came is_loss c.told || events.came is_loss c.held

-- a look found one, among what was told, or among that and what waits for a save
abbrev pub finds : Course → Bool
finds c = events.look_since events.is_lost c.told || found_in (events.came is_loss c.told) c.held

pub found_saved : (acks : Bool) (told : List Event) → events.look_since events.is_lost (cond acks (event.Saved ∷ told) told) ≡ events.look_since events.is_lost told
found_saved true told = refl
found_saved false told = refl

-- no look waits for a look
pub late_unlooked : (j : Job) (past : List Entry) → events.came events.is_looked (course j past).late ≡ false
late_unlooked j [] = refl
late_unlooked j (entry ∷ past) =
    none_late events.is_looked j _ (late_then j entry past (course j past).late) _
    (cond_both (ends_look j entry past) [] ((course j past).late ++ when_so (is_late j entry past) event.Lost) (λ es. events.came events.is_looked es ≡ false) (λ h. refl)
    (λ h. add_none events.is_looked (course j past).late _ false (late_unlooked j past) (none_when events.is_looked (is_late j entry past) event.Lost refl)))

module _ (j : Job) (entry : Entry) (past : List Entry) where
  pub told_then : Tells j (told_saved j entry past (course j past).told) ((course j past).held ++ events_at j entry past (course j past).late) (course j (entry ∷ past))
  told_then = tell_front j (told_saved j entry past (course j past).told) (late_then j entry past (course j past).late) ((course j past).held ++ events_at j entry past (course j past).late)

  -- what is known of then was known of before, or the entry gives it
  pub knows_next : knows (course j (entry ∷ past)) ≡ true → (knows (course j past) || events.came is_loss (events_at j entry past (course j past).late)) ≡ true
  knows_next e = by told_then
    where
      c : Course
      c = course j past

      now : Course
      now = course j (entry ∷ past)

      t : List Event
      t = told_saved j entry past c.told

      by : Tells j (told_saved j entry past c.told) (c.held ++ events_at j entry past c.late) (course j (entry ∷ past)) → (knows (course j past) || events.came is_loss (events_at j entry past (course j past).late)) ≡ true
      by (front xs f g) =
          let a : (events.came is_loss t || (events.came is_loss xs || events.came is_loss now.held)) ≡ true =
          or_swap (events.came is_loss xs) (events.came is_loss t) (events.came is_loss now.held)
          ∙ ap (λ b. b || events.came is_loss now.held) (sym (came_on is_loss xs t))
          ∙ ap (λ v. events.came is_loss v || events.came is_loss now.held) (sym g)
          ∙ e
          in
          or_assoc (events.came is_loss c.told) (events.came is_loss c.held) (events.came is_loss (events_at j entry past c.late))
          ∙ ap (λ b. events.came is_loss c.told || b)
          (sym (came_append is_loss c.held (events_at j entry past c.late)) ∙ ap (events.came is_loss) (sym f) ∙ came_append is_loss xs (now.held ++ now.unheard)
          ∙ ap (λ b. events.came is_loss xs || b) (came_append is_loss now.held now.unheard) ∙ sym (or_assoc (events.came is_loss xs) (events.came is_loss now.held) (events.came is_loss now.unheard)))
          ∙ ap (λ b. b || ((events.came is_loss xs || events.came is_loss now.held) || events.came is_loss now.unheard)) (sym (came_saved is_loss (is_acknowledging j (entry ∷ past)) c.told refl))
          ∙ or_more (events.came is_loss t) (events.came is_loss xs || events.came is_loss now.held) (events.came is_loss now.unheard) a

  -- what is found then, and in what came after the stop, was found before, or the entry gives it
  pub finds_whole : (b : Bool)
      × ((finds (course j past) || found_in (knows (course j past)) (events_at j entry past (course j past).late)) ≡ (finds (course j (entry ∷ past)) || found_in b (course j (entry ∷ past)).unheard))
  finds_whole = by told_then
    where
      c : Course
      c = course j past

      now : Course
      now = course j (entry ∷ past)

      t : List Event
      t = told_saved j entry past c.told

      lost : Bool
      lost = events.came is_loss t

      by : Tells j (told_saved j entry past c.told) (c.held ++ events_at j entry past c.late) (course j (entry ∷ past))
          → (b : Bool) × ((finds (course j past) || found_in (knows (course j past)) (events_at j entry past (course j past).late)) ≡ (finds (course j (entry ∷ past)) || found_in b (course j (entry ∷ past)).unheard))
      by (front xs f g) =
          let a : (events.look_since events.is_lost t || found_in lost (xs ++ now.held)) ≡ finds now =
          ap (λ b. events.look_since events.is_lost t || b) (found_append lost xs now.held)
          ∙ sym (or_assoc (events.look_since events.is_lost t) (found_in lost xs) (found_in (events.came is_loss xs || lost) now.held))
          ∙ ap (λ b. b || found_in (events.came is_loss xs || lost) now.held) (sym (found_on xs t))
          ∙ ap (λ b. events.look_since events.is_lost (told_on xs t) || found_in b now.held) (sym (came_on is_loss xs t))
          ∙ ap (λ v. events.look_since events.is_lost v || found_in (events.came is_loss v) now.held) (sym g)
          in
          let last : Bool = events.came is_loss (xs ++ now.held) || lost in
          let whole : found_in lost (c.held ++ events_at j entry past c.late) ≡ (found_in lost (xs ++ now.held) || found_in last now.unheard) =
          ap (found_in lost) (sym f ∙ sym (append_assoc xs now.held now.unheard)) ∙ found_append lost (xs ++ now.held) now.unheard
          in
          let same : lost ≡ events.came is_loss c.told = came_saved is_loss (is_acknowledging j (entry ∷ past)) c.told refl in (
            last,
            or_assoc (events.look_since events.is_lost c.told) (found_in (events.came is_loss c.told) c.held) (found_in (knows c) (events_at j entry past c.late))
                ∙ ap (λ b. events.look_since events.is_lost c.told || (found_in (events.came is_loss c.told) c.held || found_in b (events_at j entry past c.late))) (or_comm (events.came is_loss c.told) (events.came is_loss c.held))
                ∙ ap (λ b. events.look_since events.is_lost c.told || b) (sym (found_append (events.came is_loss c.told) c.held (events_at j entry past c.late)))
                ∙ ap (λ b. events.look_since events.is_lost c.told || found_in b (c.held ++ events_at j entry past c.late)) (sym same)
                ∙ ap (λ b. b || found_in lost (c.held ++ events_at j entry past c.late)) (sym (found_saved (is_acknowledging j (entry ∷ past)) c.told))
                ∙ ap (λ b. events.look_since events.is_lost t || b) whole
                ∙ sym (or_assoc (events.look_since events.is_lost t) (found_in lost (xs ++ now.held)) (found_in last now.unheard))
                ∙ ap (λ b. b || found_in last now.unheard) a,
          )

  -- what is found then was found before, or the entry gives it
  pub finds_next : finds (course j (entry ∷ past)) ≡ true
      → (finds (course j past) || found_in (knows (course j past)) (events_at j entry past (course j past).late)) ≡ true
  finds_next e = finds_whole.1 ∙ or_left (finds (course j (entry ∷ past))) (found_in finds_whole.0 (course j (entry ∷ past)).unheard) e

  -- and so the other way, where no look came after the stop
  pub finds_back : events.came events.is_looked (course j (entry ∷ past)).unheard ≡ false
      → (finds (course j past) || found_in (knows (course j past)) (events_at j entry past (course j past).late)) ≡ true → finds (course j (entry ∷ past)) ≡ true
  finds_back none e =
      sym (or-false (finds (course j (entry ∷ past))))
      ∙ ap (λ b. finds (course j (entry ∷ past)) || b) (sym (none_found finds_whole.0 (course j (entry ∷ past)).unheard none))
      ∙ sym finds_whole.1
      ∙ e
