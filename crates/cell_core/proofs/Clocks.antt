-- Lemmas on the clock and the deadlines.
use Rattle.std.proofs.Common.{◌≡◌, ℕ, suc, ◌+◌, ◌<◌, ◌≤◌, List, [], ◌∷◌, length, drop, Bool, true, false, ◌&&◌, ◌||◌, if◌then◌else◌, nat_le, Option, Some, None, is_some, refl, sym, ap, subst, ◌∙◌, true≢false, arith, inl, inr, le-leb}
use Rattle.std.proofs.lemmas.Bool.{cases_Bool, and_right, cases_lt, lt-leb, or_right, or_parts, or_from}
use Rattle.cell_core.specs.declared.event.Event.{Event}
use Rattle.cell_core.specs.declared.event.Event.TheVariants.{Saved, Ready, Io, Reply, Moment, Looked, Lost, Broken}
use Rattle.cell_core.specs.declared.clock.Clock.{Clock}
use Rattle.cell_core.specs.declared.clock.Clock.TheVariants.{Unread, Started, Turned}
use Rattle.cell_core.specs.Task.{Task}
use Rattle.cell_core.specs.Events.{is_broken, is_moment, is_looked, is_turn_at, came, ever, look_since, since, time, Rising}
use Rattle.cell_core.specs.Requests.{has_idle, own, reply, Standing}
use Rattle.cell_core.specs.Deadlines.{reply_age, replied_at, first_deadline, second_deadline, entry_and_more, is_queued, by_limit, deadline, passed_by}
use Rattle.cell_core.specs.Holds.{now_of, is_read, is_turned, read_again, clock_after, lost_after, is_past}
use Rattle.cell_core.specs.StandsFor.{Hears, IsAsked}
use Rattle.cell_core.proofs.Lists.{since_some, since_none, since_now}
use Rattle.cell_core.proofs.SavesLemmas.{at}

pub looked_none : (test : List Event → Bool) (events : List Event) → ever test events ≡ false → look_since test events ≡ false
looked_none test [] h = refl
looked_none test (event ∷ past) h =
    let parts = or_parts (test (event ∷ past)) (ever test past) h in
    or_from _ _ (and_right (is_looked event) (ever test past) parts.1) (looked_none test past parts.1)

pub since_unheld : (test : List Event → Bool) (events : List Event) → ever test events ≡ false → since test events ≡ None
since_unheld test [] h = refl
since_unheld test (event ∷ past) h =
    let parts = or_parts (test (event ∷ past)) (ever test past) h in
    since_none test event past (since_unheld test past parts.1) parts.0

since_held_by : (test : List Event → Bool) (event : Event) (past : List Event) (v : Option (List Event)) → since test past ≡ v → (ever test past ≡ true → (b : List Event) × (since test past ≡ Some b))
    → ever test (event ∷ past) ≡ true → (b : List Event) × (since test (event ∷ past) ≡ Some b)
since_held_by test event past (Some l) e before h = (event ∷ l, since_some test event past l e)
since_held_by test event past None e before h =
    elim (cases_Bool (test (event ∷ past))) [
      | inl holds ↦ ([], since_now test event past e holds)
      | inr fails ↦
          let there = before (rw fails at h) in
          let clash : Some there.0 ≡ None = sym there.1 ∙ e in
          absurd (cc)
    ]

pub since_held : (test : List Event → Bool) (events : List Event) → ever test events ≡ true → (b : List Event) × (since test events ≡ Some b)
since_held test [] h = absurd (true≢false (sym h))
since_held test (event ∷ past) h = since_held_by test event past (since test past) refl (λ g. since_held test past g) h

pub unread_none : (t : ℕ) (events : List Event) → came is_moment events ≡ false → ever (is_turn_at t) events ≡ false
unread_none t [] h = refl
unread_none t (Moment now ∷ past) h = absurd (true≢false h)
unread_none t (Saved ∷ past) h = unread_none t past h
unread_none t (Ready ∷ past) h = unread_none t past h
unread_none t (Io m ∷ past) h = unread_none t past h
unread_none t (Reply f ∷ past) h = unread_none t past h
unread_none t (Looked ∷ past) h = unread_none t past h
unread_none t (Lost ∷ past) h = unread_none t past h
unread_none t (Broken ∷ past) h = unread_none t past h

turn_moment : (t now before : ℕ) (read turned at_t : Bool) → before ≤ now → (read ≡ false → turned ≡ false) → at_t ≡ (turned && nat_le t before)
    → ((read && nat_le t now) || at_t) ≡ (((read && nat_le 0 now) || turned) && nat_le t now)
turn_moment t now before false turned at_t le unread e = rw (e, unread refl) refl
turn_moment t now before true turned at_t le unread e =
    elim (cases_lt now t) [
      | inl lt ↦
          let no_now : nat_le t now ≡ false = lt-leb t now lt in
          let no_before : nat_le t before ≡ false = lt-leb t before (omega arith) in
          rw (e, no_now, no_before) (grind arith)
      | inr ge ↦
          let there : nat_le t now ≡ true = le-leb t now ge in
          let from_zero : nat_le 0 now ≡ true = le-leb 0 now (omega arith) in
          rw (there, from_zero) refl
    ]

-- as the clock never falls, its last entry is the latest
pub turn_held : (t : ℕ) (events : List Event) → Rising events → ever (is_turn_at t) events ≡ (ever (is_turn_at 0) events && nat_le t (time events))
turn_held t [] rising = refl
turn_held t (Moment now ∷ past) rising =
    turn_moment t now (time past) (came is_moment past) (ever (is_turn_at 0) past) (ever (is_turn_at t) past) rising.0 (λ h. unread_none 0 past h) (turn_held t past rising.1)
turn_held t (Saved ∷ past) rising = turn_held t past rising
turn_held t (Ready ∷ past) rising = turn_held t past rising
turn_held t (Io m ∷ past) rising = turn_held t past rising
turn_held t (Reply f ∷ past) rising = turn_held t past rising
turn_held t (Looked ∷ past) rising = turn_held t past rising
turn_held t (Lost ∷ past) rising = turn_held t past rising
turn_held t (Broken ∷ past) rising = turn_held t past rising

pub past_is : {clock : Clock} {lost : Bool} {events : List Event} → Hears clock lost events → (due : Option ℕ) → passed_by due events ≡ is_past clock due
past_is h None = refl
past_is {clock} {lost} {events} h (Some t) = turn_held t events h.rising ∙ (rw (h.turned, h.now) refl)

-- a deadline that lies ahead
pub ahead : {clock : Clock} {lost : Bool} {events : List Event} → Hears clock lost events → (t : ℕ) → time events < t → ever (is_turn_at t) events ≡ false
ahead {clock} {lost} {events} h t lt = turn_held t events h.rising ∙ and_right (ever (is_turn_at 0) events) _ (lt-leb t (time events) lt)

-- What one more event adds.
abbrev pub Rises : Event → List Event → Type 0
Rises (Moment t) past = time past ≤ t
Rises event past = Unit {0}

now_read : (clock : Clock) (t : ℕ) → t ≡ now_of (read_again clock t)
now_read Unread t = refl
now_read (Started s) t = refl
now_read (Turned s) t = refl

is_read_again : (clock : Clock) (t : ℕ) → true ≡ is_read (read_again clock t)
is_read_again Unread t = refl
is_read_again (Started s) t = refl
is_read_again (Turned s) t = refl

pub is_turned_again : (clock : Clock) (t : ℕ) → is_turned (read_again clock t) ≡ is_read clock
is_turned_again Unread t = refl
is_turned_again (Started s) t = refl
is_turned_again (Turned s) t = refl

turned_more : (clock : Clock) (t : ℕ) (read turned : Bool) → read ≡ is_read clock → turned ≡ is_turned clock → ((read && nat_le 0 t) || turned) ≡ is_turned (read_again clock t)
turned_more Unread t read turned p q = rw (p, q) refl
turned_more (Started s) t read turned p q = let z : nat_le 0 t ≡ true = le-leb 0 t (omega arith) in rw (p, q, z) refl
turned_more (Turned s) t read turned p q = let z : nat_le 0 t ≡ true = le-leb 0 t (omega arith) in rw (p, q, z) refl

pub hears_more : {clock : Clock} {lost : Bool} {past : List Event} → Hears clock lost past → (event : Event) → Rises event past → (is_looked event ≡ true → lost ≡ false) → is_broken event ≡ false
    → Hears (clock_after clock event) (lost_after lost event) (event ∷ past)
hears_more {clock} {lost} {past} h (Moment t) rises found b =
    record { now = now_read clock t; read = is_read_again clock t; turned = turned_more clock t _ _ h.read h.turned; lost_is = h.lost_is; unseen = h.unseen; rising = (rises, h.rising); unbroken = h.unbroken }
hears_more h Saved rises found b = record { now = h.now; read = h.read; turned = h.turned; lost_is = h.lost_is; unseen = h.unseen; rising = h.rising; unbroken = h.unbroken }
hears_more h Ready rises found b = record { now = h.now; read = h.read; turned = h.turned; lost_is = h.lost_is; unseen = h.unseen; rising = h.rising; unbroken = h.unbroken }
hears_more h (Io m) rises found b = record { now = h.now; read = h.read; turned = h.turned; lost_is = h.lost_is; unseen = h.unseen; rising = h.rising; unbroken = h.unbroken }
hears_more h (Reply f) rises found b = record { now = h.now; read = h.read; turned = h.turned; lost_is = h.lost_is; unseen = h.unseen; rising = h.rising; unbroken = h.unbroken }
hears_more h Looked rises found b = record { now = h.now; read = h.read; turned = h.turned; lost_is = h.lost_is; unseen = or_from _ _ (h.lost_is ∙ found refl) h.unseen; rising = h.rising; unbroken = h.unbroken }
hears_more h Lost rises found b = record { now = h.now; read = h.read; turned = h.turned; lost_is = refl; unseen = h.unseen; rising = h.rising; unbroken = h.unbroken }
hears_more h Broken rises found b = absurd (true≢false b)

-- the first late entry is the last that was read, where none came since
time_unmoved : (event : Event) (past : List Event) → is_moment event ≡ false → time (event ∷ past) ≡ time past
time_unmoved (Moment t) past h = absurd (true≢false h)
time_unmoved Saved past h = refl
time_unmoved Ready past h = refl
time_unmoved (Io m) past h = refl
time_unmoved (Reply f) past h = refl
time_unmoved Looked past h = refl
time_unmoved Lost past h = refl
time_unmoved Broken past h = refl

time_at_by : (t : ℕ) (event : Event) (past between : List Event) (v : Option (List Event)) → since (is_turn_at t) past ≡ v
    → ((b : List Event) → since (is_turn_at t) past ≡ Some b → came is_moment b ≡ false → time (drop (length b) past) ≡ time past)
    → since (is_turn_at t) (event ∷ past) ≡ Some between → came is_moment between ≡ false → time (drop (length between) (event ∷ past)) ≡ time (event ∷ past)
time_at_by t event past between (Some l) e before s none =
    let same : event ∷ l ≡ between = (let both = sym (since_some (is_turn_at t) event past l e) ∙ s in cc) in
    let parts = or_parts (is_moment event) (came is_moment l) (subst (λ (b : List Event). came is_moment b ≡ false) (sym same) none) in
    subst (λ (b : List Event). time (drop (length b) (event ∷ past)) ≡ time (event ∷ past)) same (before l e parts.1 ∙ sym (time_unmoved event past parts.0))
time_at_by t event past between None e before s none =
    elim (cases_Bool (is_turn_at t (event ∷ past))) [
      | inl holds ↦
          let same : [] ≡ between = (let both = sym (since_now (is_turn_at t) event past e holds) ∙ s in cc) in
          subst (λ (b : List Event). time (drop (length b) (event ∷ past)) ≡ time (event ∷ past)) same refl
      | inr fails ↦ (let clash : None ≡ Some between = sym (since_none (is_turn_at t) event past e fails) ∙ s in absurd (cc))
    ]

pub time_at : (t : ℕ) (events between : List Event) → since (is_turn_at t) events ≡ Some between → came is_moment between ≡ false → time (drop (length between) events) ≡ time events
time_at t [] between e none = (let clash : None ≡ Some between = e in absurd (cc))
time_at t (event ∷ past) between e none = time_at_by t event past between (since (is_turn_at t) past) refl (λ b g n. time_at t past b g n) e none

pub queued_none : (task : Task) (k t : ℕ) (events : List Event) → ever (is_turn_at t) events ≡ false → is_queued task k t events ≡ false
queued_none task k t [] h = refl
queued_none task k t (event ∷ past) h =
    let parts = or_parts (is_turn_at t (event ∷ past)) (ever (is_turn_at t) past) h in
    or_from _ _ (rw (since_unheld (is_turn_at t) past parts.1) (grind arith)) (queued_none task k t past parts.1)

-- The deadline of a request, one event later.
pub deadline_replied : (task : Task) (last : Standing) (events : List Event) → is_some (reply last.later) ≡ true → has_idle (own last.later) ≡ false → deadline task last events ≡ Some (replied_at last events + 4000)
deadline_replied task last events r i = rw (r, i) refl

pub deadline_unreplied : (task : Task) (last : Standing) (events : List Event) → is_some (reply last.later) ≡ false → deadline task last events ≡ by_limit task last.request (first_deadline task last events) events
deadline_unreplied task last events r = rw r refl

replied_stays : (k : ℕ) (event : Event) (later past : List Event) → is_some (reply later) ≡ true → replied_at (at k (event ∷ later)) (event ∷ past) ≡ replied_at (at k later) past
replied_stays k (Reply f) later past h = ap (λ (b : Bool). time (drop (if b then suc (reply_age later) else 1) (Reply f ∷ past))) h
replied_stays k Saved later past h = refl
replied_stays k Ready later past h = refl
replied_stays k (Io m) later past h = refl
replied_stays k (Moment t) later past h = refl
replied_stays k Looked later past h = refl
replied_stays k Lost later past h = refl
replied_stays k Broken later past h = refl

pub replied_now : (k : ℕ) (fatal : Bool) (later past : List Event) → is_some (reply later) ≡ false → replied_at (at k (Reply fatal ∷ later)) (Reply fatal ∷ past) ≡ time past
replied_now k fatal later past h = ap (λ (b : Bool). time (drop (if b then suc (reply_age later) else 1) (Reply fatal ∷ past))) h

pub second_stays : (t : ℕ) (event : Event) (past between : List Event) → since (is_turn_at t) past ≡ Some between → second_deadline t (event ∷ past) ≡ second_deadline t past
second_stays t event past between e =
    ap (entry_and_more (event ∷ past)) (since_some (is_turn_at t) event past between e) ∙ sym (ap (entry_and_more past) e)

-- whether the interrupt is queued doesn't change at this event
pub by_limit_stays : (task : Task) (k : ℕ) (interrupted : Bool) (event : Event) (past : List Event) (o : Option ℕ) → ((first : ℕ) → o ≡ Some first → task.times.interrupt ≡ true → IsAsked task k first interrupted past)
    → ((first : ℕ) → o ≡ Some first → task.times.interrupt ≡ true → is_queued task k first (event ∷ past) ≡ interrupted) → by_limit task k o (event ∷ past) ≡ by_limit task k o past
by_limit_stays task k interrupted event past None asked now = refl
by_limit_stays task k false event past (Some first) asked now =
    elim (cases_Bool task.times.interrupt) [
      | inl on ↦ (let a = asked first refl on in let n = now first refl on in rw (n, a.0, on) refl)
      | inr off ↦ rw off refl
    ]
by_limit_stays task k true event past (Some first) asked now =
    elim (cases_Bool task.times.interrupt) [
      | inl on ↦ (let a = asked first refl on in let n = now first refl on in rw (n, a.0, on) (second_stays first event past a.1.0 a.1.1))
      | inr off ↦ rw off refl
    ]

-- an event that is no look queues nothing
pub unlooked_queues : (task : Task) (k first : ℕ) (interrupted : Bool) (event : Event) (past : List Event) → is_looked event ≡ false → IsAsked task k first interrupted past → is_queued task k first (event ∷ past) ≡ interrupted
unlooked_queues task k first false event past h a = or_from _ _ (rw h refl) a.0
unlooked_queues task k first true event past h a = or_right _ _ a.0

not_turn : (t : ℕ) (event : Event) (past : List Event) → is_moment event ≡ false → is_turn_at t (event ∷ past) ≡ false
not_turn t (Moment now) past h = absurd (true≢false h)
not_turn t Saved past h = refl
not_turn t Ready past h = refl
not_turn t (Io m) past h = refl
not_turn t (Reply f) past h = refl
not_turn t Looked past h = refl
not_turn t Lost past h = refl
not_turn t Broken past h = refl

-- between the late entry and its look
between_more : (t : ℕ) (event : Event) (past between : List Event) (v : Option (List Event)) → since (is_turn_at t) past ≡ v → is_moment event ≡ false → is_looked event ≡ false
    → ((b : List Event) → since (is_turn_at t) past ≡ Some b → (came is_moment b ≡ false) × (came is_looked b ≡ false))
    → since (is_turn_at t) (event ∷ past) ≡ Some between → (came is_moment between ≡ false) × (came is_looked between ≡ false)
between_more t event past between (Some l) e m h before s =
    let same : event ∷ l ≡ between = (let both = sym (since_some (is_turn_at t) event past l e) ∙ s in cc) in
    let was = before l e in
    subst (λ (b : List Event). (came is_moment b ≡ false) × (came is_looked b ≡ false)) same (or_from _ _ m was.0, or_from _ _ h was.1)
between_more t event past between None e m h before s =
    (let clash : None ≡ Some between = sym (since_none (is_turn_at t) event past e (not_turn t event past m)) ∙ s in absurd (cc))

-- the look came
looked_between : (task : Task) (k first : ℕ) (event : Event) (past : List Event) → IsAsked task k first true past → IsAsked task k first true (event ∷ past)
looked_between task k first event past a = (or_right _ _ a.0, (event ∷ a.1.0, since_some (is_turn_at first) event past a.1.0 a.1.1, or_right _ _ a.1.2))

-- no late entry was read
unheld_between : (t : ℕ) (event : Event) (past between : List Event) → ever (is_turn_at t) past ≡ false → since (is_turn_at t) (event ∷ past) ≡ Some between → (came is_moment between ≡ false) × (came is_looked between ≡ false)
unheld_between t event past between h s =
    let e = since_unheld (is_turn_at t) past h in
    elim (cases_Bool (is_turn_at t (event ∷ past))) [
      | inl holds ↦
          let same : [] ≡ between = (let both = sym (since_now (is_turn_at t) event past e holds) ∙ s in cc) in
          subst (λ (b : List Event). (came is_moment b ≡ false) × (came is_looked b ≡ false)) same (refl, refl)
      | inr fails ↦ (let clash : None ≡ Some between = sym (since_none (is_turn_at t) event past e fails) ∙ s in absurd (cc))
    ]

pub asked_more : (task : Task) (k first : ℕ) (interrupted : Bool) (event : Event) (past : List Event) → is_moment event ≡ false → is_looked event ≡ false → IsAsked task k first interrupted past → IsAsked task k first interrupted (event ∷ past)
asked_more task k first true event past m h a = looked_between task k first event past a
asked_more task k first false event past m h a =
    (unlooked_queues task k first false event past h a, λ between s. between_more first event past between (since (is_turn_at first) past) refl m h a.1 s)

-- at a clock entry or a look, where no look is called for
pub asked_unheld : (task : Task) (k first : ℕ) (interrupted : Bool) (event : Event) (past : List Event) → (interrupted ≡ false → ever (is_turn_at first) past ≡ false) → IsAsked task k first interrupted past → IsAsked task k first interrupted (event ∷ past)
asked_unheld task k first true event past h a = looked_between task k first event past a
asked_unheld task k first false event past h a =
    (or_from _ _ (rw (since_unheld (is_turn_at first) past (h refl)) (grind arith)) a.0, λ between s. unheld_between first event past between (h refl) s)

pub queued_unheld : (task : Task) (k first : ℕ) (interrupted : Bool) (event : Event) (past : List Event) → (interrupted ≡ false → ever (is_turn_at first) past ≡ false) → IsAsked task k first interrupted past → is_queued task k first (event ∷ past) ≡ interrupted
queued_unheld task k first true event past h a = or_right _ _ a.0
queued_unheld task k first false event past h a = or_from _ _ (rw (since_unheld (is_turn_at first) past (h refl)) (grind arith)) a.0

pub deadline_stays : (task : Task) (k : ℕ) (fatal : Option Bool) (interrupted : Bool) (event : Event) (later past : List Event) → reply later ≡ fatal → reply (event ∷ later) ≡ fatal
    → (is_some fatal ≡ true → has_idle (own later) ≡ false) → (is_some fatal ≡ true → has_idle (own (event ∷ later)) ≡ false)
    → (fatal ≡ None → (first : ℕ) → first_deadline task (at k later) past ≡ Some first → task.times.interrupt ≡ true → IsAsked task k first interrupted past)
    → (fatal ≡ None → (first : ℕ) → first_deadline task (at k later) past ≡ Some first → task.times.interrupt ≡ true → is_queued task k first (event ∷ past) ≡ interrupted)
    → deadline task (at k (event ∷ later)) (event ∷ past) ≡ deadline task (at k later) past
deadline_stays task k (Some f) interrupted event later past r r' i i' asked now =
    deadline_replied task (at k (event ∷ later)) (event ∷ past) (ap is_some r') (i' refl)
    ∙ ap (λ (n : ℕ). Some (n + 4000)) (replied_stays k event later past (ap is_some r))
    ∙ sym (deadline_replied task (at k later) past (ap is_some r) (i refl))
deadline_stays task k None interrupted event later past r r' i i' asked now =
    deadline_unreplied task (at k (event ∷ later)) (event ∷ past) (ap is_some r')
    ∙ by_limit_stays task k interrupted event past (first_deadline task (at k later) past) (asked refl) (now refl)
    ∙ sym (deadline_unreplied task (at k later) past (ap is_some r))
