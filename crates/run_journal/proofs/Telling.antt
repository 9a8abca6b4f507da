-- Broken streams and losses are told, and what stops a job at once stops its core.
use Rattle.std.proofs.Common.{◌≡◌, ℕ, ◌<◌, List, [], ◌∷◌, ◌++◌, length, Bool, true, false, ◌&&◌, ◌||◌, not, cond, Option, Some, None, refl, sym, ◌∙◌, ap}
use Rattle.std.specs.Prelude.{is_some, option_map}
use Rattle.std.specs.List.{list_any, list_all}
use Rattle.std.proofs.Math.Bool.{or-false, or_assoc}
use Rattle.std.proofs.lemmas.Bool.{and_parts, cond_both, not-true}
use Rattle.world.specs.declared.chan.Chan.{Chan}
use Rattle.world.specs.declared.chan.Chan.TheVariants.{Shell, Control, Iopub, Heart}
use Rattle.world.specs.declared.entry.Entry.{Entry}
use Rattle.world.specs.declared.entry.Entry.TheVariants as made
use Rattle.world.specs.Places.{time}
use Rattle.cell_core.specs.declared.brief.Brief.{Brief}
use Rattle.cell_core.specs.declared.event.Event.{Event}
use Rattle.cell_core.specs.declared.event.Event.TheVariants as event
use Rattle.cell_core.specs.declared.why.Why.{Why}
use Rattle.cell_core.specs.declared.why.Why.TheVariants as cause
use Rattle.cell_core.specs.Acts.{is_empty_list}
use Rattle.cell_core.specs.Events as events
use Rattle.cell_core.specs.Requests as core
use Rattle.cell_core.specs.Saves as core_saves
use Rattle.run_journal.specs.Job.{Job}
use Rattle.run_journal.specs.Parts.{channels, bytes_got, turn_clock, saves_of, is_acknowledging, is_running}
use Rattle.run_journal.specs.Looks.{is_look, ever, shows_lost, is_lost}
use Rattle.run_journal.specs.Requests.{or_later, is_broken, requests, last_request}
use Rattle.run_journal.specs.Why.{fault_on, bad_stream, is_done, is_error, is_not_ready, is_no_idle, is_timed_out, cause_if, why}
use Rattle.run_journal.specs.Decoding.{IsDecoding}
use Rattle.run_journal.specs.Due.{all_along}
use Rattle.run_journal.specs.Order.{begins_unread}
use Rattle.run_journal.specs.Course.{came_for, begins_at, clock_event, when_so, in_look, ends_look, is_late, events_at, Course, tell, late_then, told_saved, course}
use Rattle.run_journal.specs.Agreement.{is_heard, IsHeard, Agrees, told_on, is_of_looks, Flows, at_once, BeginsUnread, holds_no_clock}
use Rattle.run_journal.proofs.Ordering.{bytes_more}
use Rattle.run_journal.proofs.Hearing.{IsComing, io, replied, AreComing, coming_for}
use Rattle.run_journal.proofs.Flowing.{Tells, front, tell_by, tell_front, rest_at, core_at, events_are, told_parts, course_agrees, broken_at, turn_at, lost_at, look_at}
use Rattle.run_journal.proofs.Asking.{done_same, error_same}

-- ---- whether an event is among others

pub or_swap : (a b c : Bool) → (b || (a || c)) ≡ ((a || b) || c)
or_swap true true c = refl
or_swap true false c = refl
or_swap false b c = refl

module _ (t : Event → Bool) where
  pub came_append : (xs ys : List Event) → events.came t (xs ++ ys) ≡ (events.came t xs || events.came t ys)
  came_append [] ys = refl
  came_append (x ∷ xs) ys = ap (λ b. t x || b) (came_append xs ys) ∙ sym (or_assoc (t x) (events.came t xs) (events.came t ys))

  pub came_on : (xs told : List Event) → events.came t (told_on xs told) ≡ (events.came t xs || events.came t told)
  came_on [] told = refl
  came_on (x ∷ xs) told = came_on xs (x ∷ told) ∙ or_swap (t x) (events.came t xs) (events.came t told)

  pub add_none : (xs ys : List Event) (b : Bool) → events.came t xs ≡ b → events.came t ys ≡ false → events.came t (xs ++ ys) ≡ b
  add_none xs ys b e f = came_append xs ys ∙ ap (λ v. events.came t xs || v) f ∙ or-false (events.came t xs) ∙ e

  pub none_then : (xs ys : List Event) (b : Bool) → events.came t xs ≡ false → events.came t ys ≡ b → events.came t (xs ++ ys) ≡ b
  none_then xs ys b e f = came_append xs ys ∙ ap (λ v. v || events.came t ys) e ∙ f

  -- such an event is among those that were told or wait for a save
  abbrev pub is_among : Course → Bool
  is_among c = events.came t c.told || events.came t c.held

  pub came_saved : (acks : Bool) (told : List Event) → t event.Saved ≡ false → events.came t (cond acks (event.Saved ∷ told) told) ≡ events.came t told
  came_saved true told e = ap (λ b. b || events.came t told) e
  came_saved false told e = refl

  -- where none of them came after the stop, told or waiting after an entry are those before it and what the entry gives
  among_front : (told held es : List Event) (c : Course) (xs : List Event) → events.came t c.unheard ≡ false → xs ++ (c.held ++ c.unheard) ≡ held ++ es → c.told ≡ told_on xs told
      → is_among c ≡ ((events.came t told || events.came t held) || events.came t es)
  among_front told held es c xs none f g =
      ap (λ v. events.came t v || events.came t c.held) g
      ∙ ap (λ b. b || events.came t c.held) (came_on xs told)
      ∙ sym (or_swap (events.came t xs) (events.came t told) (events.came t c.held))
      ∙ ap (λ b. events.came t told || (events.came t xs || b)) (sym (add_none c.held c.unheard (events.came t c.held) refl none))
      ∙ ap (λ b. events.came t told || b) (sym (came_append xs (c.held ++ c.unheard)) ∙ ap (events.came t) f ∙ came_append held es)
      ∙ sym (or_assoc (events.came t told) (events.came t held) (events.came t es))

  module _ (j : Job) (entry : Entry) (past : List Entry) where
    pub among_next : t event.Saved ≡ false → events.came t (course j (entry ∷ past)).unheard ≡ false
        → is_among (course j (entry ∷ past)) ≡ (is_among (course j past) || events.came t (events_at j entry past (course j past).late))
    among_next e none = by (tell_front j (told_saved j entry past c.told) (late_then j entry past c.late) (c.held ++ events_at j entry past c.late))
      where
        c : Course
        c = course j past

        by : Tells j (told_saved j entry past c.told) (c.held ++ events_at j entry past c.late) (course j (entry ∷ past))
            → is_among (course j (entry ∷ past)) ≡ (is_among c || events.came t (events_at j entry past c.late))
        by (front xs f g) =
            among_front (told_saved j entry past c.told) c.held (events_at j entry past c.late) (course j (entry ∷ past)) xs none f g
            ∙ ap (λ b. (b || events.came t c.held) || events.came t (events_at j entry past c.late)) (came_saved (is_acknowledging j (entry ∷ past)) c.told e)

  -- none waits for a look where none did
  pub none_late : (j : Job) (told late es : List Event) → events.came t late ≡ false → events.came t (tell j told late es).late ≡ false
  none_late j told late [] e = e
  none_late j told late (x ∷ es) e = tell_by (λ c. events.came t c.late ≡ false) j told late x es (λ h. refl) e (none_late j (x ∷ told) late es e)

  -- ---- what an entry gives

  came_coming : {e : Event} → ((b : Brief) → t (event.Io b) ≡ false) → ((f : Bool) → t (event.Reply f) ≡ false) → IsComing e → t e ≡ false
  came_coming f g (io b) = f b
  came_coming f g (replied fatal) = g fatal

  none_coming : (es : List Event) → ((b : Brief) → t (event.Io b) ≡ false) → ((f : Bool) → t (event.Reply f) ≡ false) → AreComing es → events.came t es ≡ false
  none_coming [] f g c = refl
  none_coming (e ∷ es) f g c = ap (λ b. b || events.came t es) (came_coming f g c.0) ∙ none_coming es f g c.1

  pub none_when : (b : Bool) (e : Event) → t e ≡ false → events.came t (when_so b e) ≡ false
  none_when true e h = ap (λ v. v || false) h
  none_when false e h = refl

  none_clock : (o : Option ℕ) → ((ms : ℕ) → t (event.Moment ms) ≡ false) → events.came t (clock_event o) ≡ false
  none_clock None f = refl
  none_clock (Some ms) f = ap (λ v. v || false) (f ms)

  pub none_begins : (j : Job) (entry : Entry) (past : List Entry) → ((ms : ℕ) → t (event.Moment ms) ≡ false) → events.came t (begins_at j entry past) ≡ false
  none_begins j (made.Ports job ports) past f =
      cond_both _ (event.Moment (time past) ∷ []) [] (λ es. events.came t es ≡ false) (λ e. ap (λ v. v || false) (f (time past))) (λ e. refl)
  none_begins j _ past f = refl

  pub none_turn : (b : Bool) (o : Option ℕ) → ((ms : ℕ) → t (event.Moment ms) ≡ false) → events.came t (cond b (clock_event o) []) ≡ false
  none_turn true o f = none_clock o f
  none_turn false o f = refl

  -- messages and readiness are none of these
  pub none_core : (j : Job) (entry : Entry) (past : List Entry) → ((b : Brief) → t (event.Io b) ≡ false) → ((f : Bool) → t (event.Reply f) ≡ false) → t event.Ready ≡ false
      → events.came t (core_at j entry past) ≡ false
  none_core j entry past f g h =
      none_then (came_for j (last_request 0 (requests j past)) entry past) _ false (none_coming _ f g (coming_for j (last_request 0 (requests j past)) entry past)) (none_when _ event.Ready h)

-- ---- where nothing came after the stop

late_is : (j : Job) (told late es : List Event) → (tell j told late es).unheard ≡ [] → (tell j told late es).late ≡ late
late_is j told late [] h = refl
late_is j told late (e ∷ es) h = tell_by (λ c. c.unheard ≡ [] → c.late ≡ late) j told late e es (λ h k. cc) (λ k. refl) (late_is j (e ∷ told) late es) h

pub empty_is : (es : List Event) → is_empty_list es ≡ true → es ≡ []
empty_is [] e = refl
empty_is (x ∷ es) e = cc

-- after the newest entry, and before it
pub heard_parts : (j : Job) (entry : Entry) (past : List Entry) → IsHeard j (entry ∷ past) → ((course j (entry ∷ past)).unheard ≡ []) × IsHeard j past
heard_parts j entry past e = let p = and_parts (is_heard j (entry ∷ past)) (all_along (is_heard j) past) e in (empty_is (course j (entry ∷ past)).unheard p.0, p.1)

-- ---- broken streams

-- none came after the stop
all_broken_heard : (es : List Event) → list_all is_of_looks es ≡ true → events.came events.is_broken es ≡ false
all_broken_heard [] e = refl
all_broken_heard (x ∷ es) e = let p = and_parts (is_of_looks x) (list_all is_of_looks es) e in ap (λ b. b || events.came events.is_broken es) (by x p.0) ∙ all_broken_heard es p.1
  where
    by : (x : Event) → is_of_looks x ≡ true → events.is_broken x ≡ false
    by (event.Moment ms) h = refl
    by event.Looked h = refl
    by event.Lost h = refl
    by event.Broken h = cc
    by event.Saved h = refl
    by event.Ready h = refl
    by (event.Io b) h = refl
    by (event.Reply f) h = refl

-- and none waits for a look
late_unbroken : (j : Job) (past : List Entry) → events.came events.is_broken (course j past).late ≡ false
late_unbroken j [] = refl
late_unbroken j (entry ∷ past) =
    none_late events.is_broken j _ (late_then j entry past (course j past).late) _
    (cond_both (ends_look j entry past) [] ((course j past).late ++ when_so (is_late j entry past) event.Lost) (λ es. events.came events.is_broken es ≡ false) (λ h. refl)
    (λ h. add_none events.is_broken (course j past).late _ false (late_unbroken j past) (none_when events.is_broken (is_late j entry past) event.Lost refl)))

broken_when : (b : Bool) → events.came events.is_broken (when_so b event.Broken) ≡ b
broken_when true = refl
broken_when false = refl

-- an entry gives one where a connection breaks by it
gives_broken : (j : Job) (entry : Entry) (past : List Entry) (late : List Event) → events.came events.is_broken late ≡ false
    → events.came events.is_broken (events_at j entry past late) ≡ (is_broken j (entry ∷ past) && not (is_broken j past))
gives_broken j entry past late none =
    ap (events.came events.is_broken) (events_are j entry past late)
    ∙ none_then events.is_broken (core_at j entry past) (rest_at j entry past late) _ (none_core events.is_broken j entry past (λ b. refl) (λ f. refl) refl)
    (add_none events.is_broken (broken_at j entry past ++ begins_at j entry past ++ turn_at j entry past ++ lost_at j entry past) (look_at j entry past late) _
    (add_none events.is_broken (broken_at j entry past ++ begins_at j entry past ++ turn_at j entry past) (lost_at j entry past) _
    (add_none events.is_broken (broken_at j entry past ++ begins_at j entry past) (turn_at j entry past) _
    (add_none events.is_broken (broken_at j entry past) (begins_at j entry past) _ (broken_when (is_broken j (entry ∷ past) && not (is_broken j past))) (none_begins events.is_broken j entry past (λ ms. refl)))
    (none_turn events.is_broken (is_running j past) (turn_clock (entry ∷ past)) (λ ms. refl)))
    (none_when events.is_broken _ event.Lost refl))
    (cond_both (ends_look j entry past) (event.Looked ∷ late ++ when_so (is_late j entry past) event.Lost) [] (λ es. events.came events.is_broken es ≡ false)
    (λ h. add_none events.is_broken late _ false none (none_when events.is_broken (is_late j entry past) event.Lost refl)) (λ h. refl)))

pub some_is : {A : Type 0} (o : Option A) → is_some o ≡ true → (x : A) × (o ≡ Some x)
some_is (Some x) e = (x, refl)
some_is None e = cc

any_more : (f g : Chan → Bool) → ((c : Chan) → f c ≡ true → g c ≡ true) → (cs : List Chan) → list_any f cs ≡ true → list_any g cs ≡ true
any_more f g h [] e = e
any_more f g h (c ∷ cs) e = either (f c) (g c) (list_any f cs) (list_any g cs) (h c) (any_more f g h cs) e
  where
    either : (a b x y : Bool) → (a ≡ true → b ≡ true) → (x ≡ true → y ≡ true) → (a || x) ≡ true → (b || y) ≡ true
    either true b x y p q k = ap (λ v. v || y) (p refl)
    either false true x y p q k = refl
    either false false x y p q k = q k

pub any_none : (f : Chan → Bool) → ((c : Chan) → f c ≡ false) → (cs : List Chan) → list_any f cs ≡ false
any_none f h [] = refl
any_none f h (c ∷ cs) = ap (λ v. v || list_any f cs) (h c) ∙ any_none f h cs

-- at first no stream is broken, and one that is stays so
unbroken_first : (j : Job) → IsDecoding j.codec → is_broken j [] ≡ false
unfolding is_broken
unbroken_first j d = any_none _ (λ c. ap (λ (o : Option (ℕ × ℕ)). is_some o) (d.no_fault c)) channels

pub stays_broken : (j : Job) → IsDecoding j.codec → (entry : Entry) (past : List Entry) → ((c : Chan) → begins_unread j c (entry ∷ past) ≡ true) → is_broken j past ≡ true → is_broken j (entry ∷ past) ≡ true
unfolding is_broken
stays_broken j d entry past f = any_more _ _ by channels
  where
    by : (c : Chan) → is_some (j.codec.fault c (bytes_got j c past)) ≡ true → is_some (j.codec.fault c (bytes_got j c (entry ∷ past))) ≡ true
    by c e =
        let x = some_is (j.codec.fault c (bytes_got j c past)) e in
        let more = bytes_more j c entry past (f c) in
        ap (λ v. is_some (j.codec.fault c v)) more.1 ∙ ap (λ (o : Option (ℕ × ℕ)). is_some o) (d.fault_stays c (bytes_got j c past) more.0 x.0 x.1)

broken_or : (was now : Bool) → (was ≡ true → now ≡ true) → (was || (now && not was)) ≡ now
broken_or true now f = sym (f refl)
broken_or false true f = refl
broken_or false false f = refl

pub unread_before : (j : Job) (entry : Entry) (past : List Entry) → BeginsUnread j (entry ∷ past) → ((c : Chan) → begins_unread j c (entry ∷ past) ≡ true) × BeginsUnread j past
unread_before j entry past u =
    ((λ c. (and_parts (begins_unread j c (entry ∷ past)) (all_along (begins_unread j c) past) (u c)).0), (λ c. (and_parts (begins_unread j c (entry ∷ past)) (all_along (begins_unread j c) past) (u c)).1))

-- a broken stream was told, or waits for a save, exactly where a stream is broken
pub among_broken : (j : Job) → IsDecoding j.codec → (past : List Entry) → BeginsUnread j past → Flows j past → is_among events.is_broken (course j past) ≡ is_broken j past
among_broken j d [] u e = sym (unbroken_first j d)
among_broken j d (entry ∷ past) u e =
    let p = told_parts j entry past e in
    let v = unread_before j entry past u in
    among_next events.is_broken j entry past refl (all_broken_heard (course j (entry ∷ past)).unheard p.1)
    ∙ ap (λ b. is_among events.is_broken (course j past) || b) (gives_broken j entry past (course j past).late (late_unbroken j past))
    ∙ ap (λ b. b || (is_broken j (entry ∷ past) && not (is_broken j past))) (among_broken j d past v.1 p.2)
    ∙ broken_or (is_broken j past) (is_broken j (entry ∷ past)) (stays_broken j d entry past v.0)

-- where nothing waits for a save, the core knows of a broken stream exactly where a stream is broken
pub broken_told : (j : Job) → IsDecoding j.codec → (past : List Entry) → BeginsUnread j past → Flows j past → (course j past).held ≡ [] → events.came events.is_broken (course j past).told ≡ is_broken j past
broken_told j d past u e none =
    sym (or-false (events.came events.is_broken (course j past).told))
    ∙ ap (λ es. events.came events.is_broken (course j past).told || events.came events.is_broken es) (sym none)
    ∙ among_broken j d past u e

-- ---- losses

abbrev pub is_loss : Event → Bool
is_loss event.Lost = true
is_loss event.Saved = false
is_loss event.Ready = false
is_loss (event.Io b) = false
is_loss (event.Reply f) = false
is_loss (event.Moment ms) = false
is_loss event.Looked = false
is_loss event.Broken = false

pub loss_is : (es : List Event) → events.ever events.is_lost es ≡ events.came is_loss es
loss_is [] = refl
loss_is (event.Lost ∷ es) = refl
loss_is (event.Saved ∷ es) = loss_is es
loss_is (event.Ready ∷ es) = loss_is es
loss_is (event.Io b ∷ es) = loss_is es
loss_is (event.Reply f ∷ es) = loss_is es
loss_is (event.Moment ms ∷ es) = loss_is es
loss_is (event.Looked ∷ es) = loss_is es
loss_is (event.Broken ∷ es) = loss_is es

pub lost_when : (b : Bool) → events.came is_loss (when_so b event.Lost) ≡ b
lost_when true = refl
lost_when false = refl

-- a look's end gives those that waited for it
look_lost : (b l : Bool) (late : List Event) → events.came is_loss (cond b (event.Looked ∷ late ++ when_so l event.Lost) []) ≡ cond b (events.came is_loss late || l) false
look_lost true l late = came_append is_loss late (when_so l event.Lost) ∙ ap (λ v. events.came is_loss late || v) (lost_when l)
look_lost false l late = refl

-- and else they wait on
then_lost : (b l : Bool) (late : List Event) → events.came is_loss (cond b [] (late ++ when_so l event.Lost)) ≡ cond b false (events.came is_loss late || l)
then_lost true l late = refl
then_lost false l late = came_append is_loss late (when_so l event.Lost) ∙ ap (λ v. events.came is_loss late || v) (lost_when l)

pub gives_lost : (j : Job) (entry : Entry) (past : List Entry) (late : List Event)
    → events.came is_loss (events_at j entry past late)
    ≡ ((shows_lost j (entry ∷ past) && not (is_late j entry past)) || cond (ends_look j entry past) (events.came is_loss late || is_late j entry past) false)
gives_lost j entry past late =
    ap (events.came is_loss) (events_are j entry past late)
    ∙ none_then is_loss (core_at j entry past) (rest_at j entry past late) _ (none_core is_loss j entry past (λ b. refl) (λ f. refl) refl)
    (came_append is_loss (broken_at j entry past ++ begins_at j entry past ++ turn_at j entry past ++ lost_at j entry past) (look_at j entry past late)
    ∙ ap (λ v. v || events.came is_loss (look_at j entry past late))
    (none_then is_loss (broken_at j entry past ++ begins_at j entry past ++ turn_at j entry past) (lost_at j entry past) _
    (add_none is_loss (broken_at j entry past ++ begins_at j entry past) (turn_at j entry past) _
    (add_none is_loss (broken_at j entry past) (begins_at j entry past) _ (none_when is_loss _ event.Broken refl) (none_begins is_loss j entry past (λ ms. refl)))
    (none_turn is_loss (is_running j past) (turn_clock (entry ∷ past)) (λ ms. refl)))
    (lost_when (shows_lost j (entry ∷ past) && not (is_late j entry past))))
    ∙ ap (λ v. (shows_lost j (entry ∷ past) && not (is_late j entry past)) || v) (look_lost (ends_look j entry past) (is_late j entry past) late))

-- told or waiting before, shown now, told now or waiting then: of the tests on an entry in a look
losses_join : (m l s i n b : Bool)
    → ((m || ((s && not ((s && i) && n)) || cond b (l || ((s && i) && n)) false)) || cond b false (l || ((s && i) && n))) ≡ (s || (m || l))
losses_join true l true i n b = refl
losses_join true l false i n b = refl
losses_join false l true false n b = refl
losses_join false l true true false b = refl
losses_join false true true true true true = refl
losses_join false true true true true false = refl
losses_join false false true true true true = refl
losses_join false false true true true false = refl
losses_join false true false i n true = refl
losses_join false true false i n false = refl
losses_join false false false i n true = refl
losses_join false false false i n false = refl

-- a loss was told, or waits for a save or a look, exactly where an entry showed one
pub among_lost : (j : Job) (past : List Entry) → IsHeard j past
    → (is_among is_loss (course j past) || events.came is_loss (course j past).late) ≡ ever (shows_lost j) past
among_lost j [] e = refl
among_lost j (entry ∷ past) e =
    let c : Course = course j past in
    let l : Bool = is_late j entry past in
    let given : Bool = (shows_lost j (entry ∷ past) && not l) || cond (ends_look j entry past) (events.came is_loss c.late || l) false in
    let p = heard_parts j entry past e in
    let late = late_is j (told_saved j entry past c.told) (late_then j entry past c.late) (c.held ++ events_at j entry past c.late) p.0 in
    ap (λ b. b || events.came is_loss (course j (entry ∷ past)).late) (among_next is_loss j entry past refl (ap (events.came is_loss) p.0))
    ∙ ap (λ es. (is_among is_loss c || events.came is_loss (events_at j entry past c.late)) || events.came is_loss es) late
    ∙ ap (λ b. (is_among is_loss c || b) || events.came is_loss (late_then j entry past c.late)) (gives_lost j entry past c.late)
    ∙ ap (λ b. (is_among is_loss c || given) || b) (then_lost (ends_look j entry past) l c.late)
    ∙ losses_join (is_among is_loss c) (events.came is_loss c.late) (shows_lost j (entry ∷ past)) (in_look j past) (not (is_look j past)) (ends_look j entry past)
    ∙ ap (λ b. shows_lost j (entry ∷ past) || b) (among_lost j past p.1)

-- where nothing waits, the core knows of a loss exactly where an entry showed one
pub lost_told : (j : Job) (past : List Entry) → IsHeard j past → (course j past).held ≡ [] → (course j past).late ≡ []
    → events.ever events.is_lost (course j past).told ≡ ever (shows_lost j) past
lost_told j past e none on_time =
    let c : Course = course j past in
    loss_is c.told
    ∙ sym (or-false (events.came is_loss c.told))
    ∙ sym (or-false (events.came is_loss c.told || false))
    ∙ ap (λ es. (events.came is_loss c.told || events.came is_loss es) || false) (sym none)
    ∙ ap (λ es. is_among is_loss c || events.came is_loss es) (sym on_time)
    ∙ among_lost j past e

-- ---- causes

some_or : {A : Type 0} (a b : Option A) → is_some (or_later a b) ≡ (is_some a || is_some b)
some_or (Some x) b = refl
some_or None b = refl

pub some_map : {A B : Type 0} (f : A → B) (o : Option A) → is_some (option_map f o) ≡ is_some o
some_map f (Some x) = refl
some_map f None = refl

four_or : (a b c d e f g h : Bool) → a ≡ e → b ≡ f → c ≡ g → d ≡ h → (a || (b || (c || d))) ≡ (e || (f || (g || (h || false))))
four_or a b c d e f g h p q r s =
    ap (λ v. v || (b || (c || d))) p
    ∙ ap (λ v. e || v) (ap (λ v. v || (c || d)) q ∙ ap (λ v. f || v) (ap (λ v. v || d) r ∙ ap (λ v. g || v) (s ∙ sym (or-false h))))

-- a broken stream is named exactly where there is one
pub bad_is : (j : Job) (past : List Entry) → is_some (bad_stream j past) ≡ is_broken j past
unfolding is_broken bad_stream
bad_is j past =
    some_or (fault_on j past Shell) _
    ∙ ap (λ b. is_some (fault_on j past Shell) || b)
    (some_or (fault_on j past Control) _ ∙ ap (λ b. is_some (fault_on j past Control) || b) (some_or (fault_on j past Iopub) (fault_on j past Heart)))
    ∙ four_or _ _ _ _ _ _ _ _ (fault Shell) (fault Control) (fault Iopub) (fault Heart)
  where
    fault : (c : Chan) → is_some (fault_on j past c) ≡ is_some (j.codec.fault c (bytes_got j c past))
    fault c = some_map _ (j.codec.fault c (bytes_got j c past))

-- the first of the three rows that hold
abbrev pub first_rows : Bool → Bool → Bool → Option Why
first_rows done error broken = cond done (Some cause.Done) (cond error (Some cause.CellError) (cond broken (Some cause.BadPeer) None))

pub core_rows : (d e b l n i t : Bool)
    → at_once (cond d (Some cause.Done) (cond e (Some cause.CellError) (cond b (Some cause.BadPeer) (cond l (Some cause.KernelLost) (cond n (Some cause.NotReady) (cond i (Some cause.NoIdle) (cond t (Some cause.TimedOut) None)))))))
    ≡ first_rows d e b
core_rows true e b l n i t = refl
core_rows false true b l n i t = refl
core_rows false false true l n i t = refl
core_rows false false false true n i t = refl
core_rows false false false false true i t = refl
core_rows false false false false false true t = refl
core_rows false false false false false false true = refl
core_rows false false false false false false false = refl

pub journal_rows : (d e b l n i t : Bool)
    → at_once (or_later (cause_if d cause.Done) (or_later (cause_if e cause.CellError) (or_later (cause_if b cause.BadPeer) (or_later (cause_if l cause.KernelLost) (or_later (cause_if n cause.NotReady) (or_later (cause_if i cause.NoIdle) (cause_if t cause.TimedOut)))))))
    ≡ first_rows d e b
journal_rows true e b l n i t = refl
journal_rows false true b l n i t = refl
journal_rows false false true l n i t = refl
journal_rows false false false true n i t = refl
journal_rows false false false false true i t = refl
journal_rows false false false false false true t = refl
journal_rows false false false false false false true = refl
journal_rows false false false false false false false = refl

-- what stops a job at once stops its core, and nothing else of that kind does
pub at_once_same : (j : Job) → IsDecoding j.codec → 0 < length j.task.plan → (past : List Entry) → BeginsUnread j past → Flows j past → (course j past).held ≡ []
    → at_once (core_saves.why j.task (course j past).told) ≡ at_once (why j past)
at_once_same j d plan past u e none =
    let told : List Event = (course j past).told in
    let a : Agrees j told past = course_agrees j past e in
    let last : Option core.Standing = core.standing j.task told in
    core_rows (core_saves.is_done j.task told) (core_saves.is_cell_error last) (events.came events.is_broken told) (events.look_since events.is_lost told)
    (core_saves.is_not_ready j.task last told) (core_saves.is_no_idle last told) (core_saves.is_timed_out j.task last told)
    ∙ ap (λ b. first_rows b (core_saves.is_cell_error last) (events.came events.is_broken told)) (done_same j told past a plan)
    ∙ ap (λ b. first_rows (is_done j (saves_of j past) (requests j past)) b (events.came events.is_broken told)) (error_same j told past a)
    ∙ ap (first_rows (is_done j (saves_of j past) (requests j past)) (is_error j (last_request 0 (requests j past)))) (broken_told j d past u e none ∙ sym (bad_is j past))
    ∙ sym (journal_rows (is_done j (saves_of j past) (requests j past)) (is_error j (last_request 0 (requests j past))) (is_some (bad_stream j past)) (is_lost j past)
    (is_not_ready j (requests j past) past) (is_no_idle j (last_request 0 (requests j past)) past) (is_timed_out j (last_request 0 (requests j past)) past))

-- where no clock entry waits for a save, none does now
pub unheld : (j : Job) (past : List Entry) → all_along (holds_no_clock j) past ≡ true → events.came events.is_moment (course j past).held ≡ false
unheld j [] e = refl
unheld j (entry ∷ past) e = not-true (events.came events.is_moment (course j (entry ∷ past)).held) (and_parts (holds_no_clock j (entry ∷ past)) (all_along (holds_no_clock j) past) e).0
