-- While a job hasn't stopped and nothing of its requests waits to be told, the core's requests are the journal's.
use Rattle.std.proofs.Common.{◌≡◌, ◌⊎◌, inl, inr, ℕ, List, [], ◌∷◌, ◌++◌, Bool, true, false, ◌&&◌, not, cond, Option, Some, None, refl, sym, ◌∙◌, ap, subst, append_assoc}
use Rattle.std.specs.Prelude.{is_some, if◌then◌else◌, filter, map}
use Rattle.std.specs.List.{list_all}
use Rattle.std.proofs.lemmas.List.{append-nil}
use Rattle.std.proofs.lemmas.Bool.{and_parts, cond-true, cond-false, cond_both, cases_Bool}
use Rattle.std.proofs.Math.Bool.{and-not_self}
use Rattle.world.specs.declared.chan.Chan.TheVariants.{Shell, Iopub}
use Rattle.world.specs.declared.entry.Entry.{Entry}
use Rattle.world.specs.declared.entry.Entry.TheVariants as made
use Rattle.world.specs.Places.{time}
use Rattle.cell_core.specs.declared.event.Event.{Event}
use Rattle.cell_core.specs.declared.event.Event.TheVariants as event
use Rattle.cell_core.specs.Acts.{awaits_saved, has_stopped, heard}
use Rattle.run_journal.specs.Codec.{Arrival}
use Rattle.run_journal.specs.Job.{Job}
use Rattle.run_journal.specs.Parts.{turn_clock, is_acknowledging, is_running}
use Rattle.run_journal.specs.Arrivals.{arrive, is_ready}
use Rattle.run_journal.specs.Looks.{shows_lost}
use Rattle.run_journal.specs.Requests.{Request, is_broken, is_exec_reply, is_over, is_parent, has_idle, reply, requests, last_request}
use Rattle.run_journal.specs.Due.{all_along}
use Rattle.run_journal.specs.Course.{brief_of, ios, replies, came_for, begins_at, clock_event, when_so, ends_look, is_late, events_at, Course, tell, late_then, told_saved, course}
use Rattle.run_journal.specs.Agreement.{Agrees, IsOther, moment, looked, lost, broken, BringsNothing, told_on, is_other, is_of_looks, is_told, Flows}
use Rattle.run_journal.proofs.Growth.{ready_stays}
use Rattle.run_journal.proofs.Agreeing.{agree_first, agree_other, agree_saved, ready_unheard}
use Rattle.run_journal.proofs.AlikeLooks.{arrive_nothing}
use Rattle.run_journal.proofs.Hearing.{IsComing, io, replied, AreComing, coming_for, told_append, none_unready, agree_ready, agree_came}
use Rattle.run_journal.proofs.Truths.{head_same, tail_same}

-- ---- events that aren't of requests

-- so of each
abbrev pub AreOther : List Event → Type 0
AreOther [] = Unit {0}
AreOther (e ∷ es) = IsOther e × AreOther es

other_is : (e : Event) → is_other e ≡ true → IsOther e
other_is (event.Moment ms) h = moment ms
other_is event.Looked h = looked
other_is event.Lost h = lost
other_is event.Broken h = broken
other_is event.Saved h = cc
other_is event.Ready h = cc
other_is (event.Io b) h = cc
other_is (event.Reply f) h = cc

pub others_are : (es : List Event) → list_all is_other es ≡ true → AreOther es
others_are [] h = tt
others_are (e ∷ es) h = let p = and_parts (is_other e) (list_all is_other es) h in (other_is e p.0, others_are es p.1)

pub other_append : (es fs : List Event) → AreOther es → AreOther fs → AreOther (es ++ fs)
other_append [] fs a b = b
other_append (e ∷ es) fs a b = (a.0, other_append es fs a.1 b)

other_front : (es fs : List Event) → AreOther (es ++ fs) → AreOther es
other_front [] fs a = tt
other_front (e ∷ es) fs a = (a.0, other_front es fs a.1)

other_back : (es fs : List Event) → AreOther (es ++ fs) → AreOther fs
other_back [] fs a = a
other_back (e ∷ es) fs a = other_back es fs a.1

other_when : (b : Bool) (e : Event) → IsOther e → AreOther (when_so b e)
other_when true e o = (o, tt)
other_when false e o = tt

-- they keep the agreement
agree_others : (j : Job) (es told : List Event) (past : List Entry) → AreOther es → Agrees j told past → Agrees j (told_on es told) past
agree_others j [] told past o a = a
agree_others j (e ∷ es) told past o a = agree_others j es (e ∷ told) past o.1 (agree_other j e told past o.0 a)

-- ---- lists cut in two

-- two cuts of one list: the first is no sooner, or sooner
data Cuts (xs rs ys zs : List Event) : Type 0 where
  later : (ds : List Event) → xs ≡ ys ++ ds → zs ≡ ds ++ rs → Cuts xs rs ys zs
  sooner : (ds : List Event) → ys ≡ xs ++ ds → rs ≡ ds ++ zs → Cuts xs rs ys zs

cuts_more : (x y : Event) (xs rs ys zs : List Event) → x ≡ y → Cuts xs rs ys zs → Cuts (x ∷ xs) rs (y ∷ ys) zs
cuts_more x y xs rs ys zs e (later ds f g) = later ds (ap (λ v. v ∷ xs) e ∙ ap (λ v. y ∷ v) f) g
cuts_more x y xs rs ys zs e (sooner ds f g) = sooner ds (ap (λ v. v ∷ ys) (sym e) ∙ ap (λ v. x ∷ v) f) g

cuts : (xs rs ys zs : List Event) → xs ++ rs ≡ ys ++ zs → Cuts xs rs ys zs
cuts xs rs [] zs e = later xs refl (sym e)
cuts [] rs (y ∷ ys) zs e = sooner (y ∷ ys) refl e
cuts (x ∷ xs) rs (y ∷ ys) zs e = cuts_more x y xs rs ys zs (head_same e) (cuts xs rs ys zs (tail_same e))

-- none of these is an event that isn't of requests
abbrev AreCore : List Event → Type 0
AreCore [] = Unit {0}
AreCore (e ∷ es) = (IsOther e → ⊥) × AreCore es

core_append : (es fs : List Event) → AreCore es → AreCore fs → AreCore (es ++ fs)
core_append [] fs a b = b
core_append (e ∷ es) fs a b = (a.0, core_append es fs a.1 b)

core_back : (es fs : List Event) → AreCore (es ++ fs) → AreCore fs
core_back [] fs a = a
core_back (e ∷ es) fs a = core_back es fs a.1

core_none : (es : List Event) → AreCore es → AreOther es → es ≡ []
core_none [] a b = refl
core_none (e ∷ es) a b = absurd (a.0 b.0)

coming_core : (es : List Event) → AreComing es → AreCore es
coming_core [] c = tt
coming_core (e ∷ es) c = (by c.0, coming_core es c.1)
  where
    no_io : {e : Event} → IsComing e → IsOther e → (x : Event) → x ≡ e → ⊥
    no_io (io b) o x f = by_other o refl
      where
        by_other : {e : Event} → IsOther e → e ≡ event.Io b → ⊥
        by_other (moment ms) f = cc
        by_other looked f = cc
        by_other lost f = cc
        by_other broken f = cc
    no_io (replied g) o x f = by_other o refl
      where
        by_other : {e : Event} → IsOther e → e ≡ event.Reply g → ⊥
        by_other (moment ms) f = cc
        by_other looked f = cc
        by_other lost f = cc
        by_other broken f = cc

    by : {e : Event} → IsComing e → IsOther e → ⊥
    by {e} c o = no_io c o e refl

-- Where the events told end behind these of requests, or there are none: what was told is what was held, these and more.
told_all : (xs rs hs cs os : List Event) → xs ++ rs ≡ hs ++ (cs ++ os) → AreOther rs → AreCore cs → (cs ≡ []) ⊎ ((ds : List Event) × (xs ≡ (hs ++ cs) ++ ds) × (os ≡ ds ++ rs))
told_all xs rs hs cs os e o c = by (cuts xs rs (hs ++ cs) os (e ∙ sym (append_assoc hs cs os)))
  where
    inner : (ds : List Event) → hs ++ cs ≡ xs ++ ds → rs ≡ ds ++ os → AreOther ds → Cuts xs ds hs cs → (cs ≡ []) ⊎ ((ds : List Event) × (xs ≡ (hs ++ cs) ++ ds) × (os ≡ ds ++ rs))
    inner ds f g od (later es h k) =
        let none : ds ≡ [] = core_none ds (core_back es ds (subst AreCore k c)) od in
        inr ([], sym (append-nil xs) ∙ ap (λ v. xs ++ v) (sym none) ∙ sym f ∙ sym (append-nil (hs ++ cs)), sym (g ∙ ap (λ v. v ++ os) none))
    inner ds f g od (sooner es h k) = inl (core_none cs c (other_back es cs (subst AreOther k od)))

    by : Cuts xs rs (hs ++ cs) os → (cs ≡ []) ⊎ ((ds : List Event) × (xs ≡ (hs ++ cs) ++ ds) × (os ≡ ds ++ rs))
    by (later ds f g) = inr (ds, f, g)
    by (sooner ds f g) = let od : AreOther ds = other_front ds os (subst AreOther g o) in inner ds f g od (cuts xs ds hs cs (sym f))

-- ---- what is told

-- what was told is a front of what was to be told, and the rest waits or came after the stop
pub data Tells (j : Job) (told to_tell : List Event) (c : Course) : Type 0 where
  front : (xs : List Event) → xs ++ (c.held ++ c.unheard) ≡ to_tell → c.told ≡ told_on xs told → Tells j told to_tell c

tells_more : (j : Job) (e : Event) (told es : List Event) (c : Course) → Tells j (e ∷ told) es c → Tells j told (e ∷ es) c
tells_more j e told es c (front xs f g) = front (e ∷ xs) (ap (λ v. e ∷ v) f) g

-- what is told by cases, where something is to be told
pub tell_by : (P : Course → Type 0) (j : Job) (told late : List Event) (e : Event) (es : List Event)
    → (has_stopped j.task (heard j.task told) ≡ true → P (record { told = told; held = []; late = []; unheard = e ∷ es }))
    → P (record { told = told; held = e ∷ es; late = late; unheard = [] })
    → P (tell j (e ∷ told) late es) → P (tell j told late (e ∷ es))
tell_by P j told late e es stopped waits goes_on =
    cond_both (has_stopped j.task (heard j.task told)) (record { told = told; held = []; late = []; unheard = e ∷ es })
    (cond (awaits_saved j.task told) (record { told = told; held = e ∷ es; late = late; unheard = [] }) (tell j (e ∷ told) late es)) P stopped
    (λ h. cond_both (awaits_saved j.task told) (record { told = told; held = e ∷ es; late = late; unheard = [] }) (tell j (e ∷ told) late es) P (λ k. waits) (λ k. goes_on))

pub tell_front : (j : Job) (told late es : List Event) → Tells j told es (tell j told late es)
tell_front j told late [] = front [] refl refl
tell_front j told late (e ∷ es) =
    tell_by (λ c. Tells j told (e ∷ es) c) j told late e es (λ h. front [] refl refl) (front [] (append-nil (e ∷ es)) refl)
    (tells_more j e told es (tell j (e ∷ told) late es) (tell_front j (e ∷ told) late es))

tell_late : (j : Job) (told late es : List Event) → AreOther late → AreOther (tell j told late es).late
tell_late j told late [] o = o
tell_late j told late (e ∷ es) o = tell_by (λ c. AreOther c.late) j told late e es (λ h. tt) o (tell_late j (e ∷ told) late es o)

-- what waits for a look is no event of requests
pub late_other : (j : Job) (past : List Entry) → AreOther (course j past).late
late_other j [] = tt
late_other j (entry ∷ past) =
    tell_late j _ (late_then j entry past (course j past).late) _
    (cond_both (ends_look j entry past) [] ((course j past).late ++ when_so (is_late j entry past) event.Lost) AreOther (λ e. tt)
    (λ e. other_append (course j past).late _ (late_other j past) (other_when (is_late j entry past) event.Lost lost)))

-- ---- what an entry gives

-- a stream that breaks by it
abbrev pub broken_at : Job → Entry → List Entry → List Event
broken_at j entry past = when_so (is_broken j (entry ∷ past) && not (is_broken j past)) event.Broken

-- the clock of a turn
abbrev pub turn_at : Job → Entry → List Entry → List Event
turn_at j entry past = if is_running j past then clock_event (turn_clock (entry ∷ past)) else []

-- a loss that it shows
abbrev pub lost_at : Job → Entry → List Entry → List Event
lost_at j entry past = when_so (shows_lost j (entry ∷ past) && not (is_late j entry past)) event.Lost

-- the end of a look, with what waited for it
abbrev pub look_at : Job → Entry → List Entry → List Event → List Event
look_at j entry past late = if ends_look j entry past then event.Looked ∷ late ++ when_so (is_late j entry past) event.Lost else []

-- what it gives besides messages and readiness
abbrev pub rest_at : Job → Entry → List Entry → List Event → List Event
rest_at j entry past late = broken_at j entry past ++ begins_at j entry past ++ turn_at j entry past ++ lost_at j entry past ++ look_at j entry past late

-- messages and readiness
abbrev pub core_at : Job → Entry → List Entry → List Event
core_at j entry past = came_for j (last_request 0 (requests j past)) entry past ++ when_so (is_ready j (entry ∷ past) && not (is_ready j past)) event.Ready

five : (cs as_ bs ds es fs : List Event) → cs ++ as_ ++ bs ++ ds ++ es ++ fs ≡ cs ++ (as_ ++ bs ++ ds ++ es ++ fs)
five [] as_ bs ds es fs = refl
five (c ∷ cs) as_ bs ds es fs = ap (λ v. c ∷ v) (five cs as_ bs ds es fs)

-- all that it gives
pub events_are : (j : Job) (entry : Entry) (past : List Entry) (late : List Event) → events_at j entry past late ≡ core_at j entry past ++ rest_at j entry past late
events_are j entry past late = five (core_at j entry past) _ _ _ _ _

clock_other : (o : Option ℕ) → AreOther (clock_event o)
clock_other None = tt
clock_other (Some ms) = (moment ms, tt)

begins_other : (j : Job) (entry : Entry) (past : List Entry) → AreOther (begins_at j entry past)
begins_other j (made.Ports job ports) past = cond_both _ (event.Moment (time past) ∷ []) [] AreOther (λ e. (moment (time past), tt)) (λ e. tt)
begins_other j _ past = tt

five_other : (as_ bs cs ds es : List Event) → AreOther as_ → AreOther bs → AreOther cs → AreOther ds → AreOther es → AreOther (as_ ++ bs ++ cs ++ ds ++ es)
five_other as_ bs cs ds es a b c d e =
    other_append (as_ ++ bs ++ cs ++ ds) es (other_append (as_ ++ bs ++ cs) ds (other_append (as_ ++ bs) cs (other_append as_ bs a b) c) d) e

pub rest_other : (j : Job) (entry : Entry) (past : List Entry) (late : List Event) → AreOther late → AreOther (rest_at j entry past late)
rest_other j entry past late o =
    five_other
    (broken_at j entry past)
    (begins_at j entry past)
    (turn_at j entry past)
    (lost_at j entry past)
    (look_at j entry past late)
    (other_when (is_broken j (entry ∷ past) && not (is_broken j past)) event.Broken broken)
    (begins_other j entry past)
    (cond_both (is_running j past) (clock_event (turn_clock (entry ∷ past))) [] AreOther (λ e. clock_other (turn_clock (entry ∷ past))) (λ e. tt))
    (other_when (shows_lost j (entry ∷ past) && not (is_late j entry past)) event.Lost lost)
    (cond_both (ends_look j entry past) (event.Looked ∷ late ++ when_so (is_late j entry past) event.Lost) [] AreOther
    (λ e. (looked, other_append late (when_so (is_late j entry past) event.Lost) o (other_when (is_late j entry past) event.Lost lost))) (λ e. tt))

no_ready : IsOther event.Ready → ⊥
no_ready o = by o refl
  where
    by : {e : Event} → IsOther e → e ≡ event.Ready → ⊥
    by (moment ms) f = cc
    by looked f = cc
    by lost f = cc
    by broken f = cc

core_when : (b : Bool) → AreCore (when_so b event.Ready)
core_when true = (no_ready, tt)
core_when false = tt

core_are : (j : Job) (entry : Entry) (past : List Entry) → AreCore (core_at j entry past)
core_are j entry past =
    core_append _ _ (coming_core _ (coming_for j (last_request 0 (requests j past)) entry past)) (core_when (is_ready j (entry ∷ past) && not (is_ready j past)))

-- ---- one entry

-- after others, then these, then others
agree_through : (j : Job) (hs cs ds told : List Event) (past now : List Entry) → AreOther hs → AreOther ds → Agrees j told past
    → ((before : List Event) → Agrees j before past → Agrees j (told_on cs before) now) → Agrees j (told_on ((hs ++ cs) ++ ds) told) now
agree_through j hs cs ds told past now oh od a f =
    subst (λ v. Agrees j v now) (sym (told_append (hs ++ cs) ds told ∙ ap (told_on ds) (told_append hs cs told)))
    (agree_others j ds (told_on cs (told_on hs told)) now od (f (told_on hs told) (agree_others j hs told past oh a)))

-- without any of requests, others alone
agree_alone : (j : Job) (xs rs hs cs os told : List Event) (now : List Entry) → xs ++ rs ≡ hs ++ (cs ++ os) → cs ≡ [] → AreOther hs → AreOther os → Agrees j told now → Agrees j (told_on xs told) now
agree_alone j xs rs hs cs os told now e none oh oo a =
    agree_others j xs told now
    (other_front xs rs (subst AreOther (sym (e ∙ ap (λ v. hs ++ (v ++ os)) none)) (other_append hs os oh oo))) a

module _ (j : Job) (entry : Entry) (past : List Entry) (held late told : List Event) (oh : AreOther held) (ol : AreOther late) (a : Agrees j told past) where
  -- the case of an acknowledgement
  on_saved : (xs rs : List Event) → xs ++ rs ≡ held ++ (core_at j entry past ++ rest_at j entry past late) → core_at j entry past ≡ [] → BringsNothing j entry past → is_acknowledging j (entry ∷ past) ≡ true
      → Agrees j (told_on xs (event.Saved ∷ told)) (entry ∷ past)
  on_saved xs rs e none same acks =
      agree_alone j xs rs held (core_at j entry past) (rest_at j entry past late) (event.Saved ∷ told) (entry ∷ past) e none oh (rest_other j entry past late ol) (agree_saved j entry told past same acks a)

  module _ (acks : is_acknowledging j (entry ∷ past) ≡ false) (xs rs : List Event) (e : xs ++ rs ≡ held ++ (core_at j entry past ++ rest_at j entry past late)) (or_ : AreOther rs) where
    -- that of readiness
    on_ready : is_ready j past ≡ false → is_ready j (entry ∷ past) ≡ true → Agrees j (told_on xs told) (entry ∷ past)
    on_ready was now = by (told_all xs rs held (core_at j entry past) (rest_at j entry past late) e or_ (core_are j entry past))
      where
        is : core_at j entry past ≡ event.Ready ∷ []
        is = ap (λ qs. came_for j (last_request 0 qs) entry past ++ when_so (is_ready j (entry ∷ past) && not (is_ready j past)) event.Ready) (none_unready j past was)
            ∙ ap (λ b. when_so (b && not (is_ready j past)) event.Ready) now
            ∙ ap (λ b. when_so (not b) event.Ready) was

        by : (core_at j entry past ≡ []) ⊎ ((ds : List Event) × (xs ≡ (held ++ core_at j entry past) ++ ds) × (rest_at j entry past late ≡ ds ++ rs)) → Agrees j (told_on xs told) (entry ∷ past)
        by (inl none) = absurd (some (sym is ∙ none))
          where
            some : ◌≡◌ {A = List Event} (event.Ready ∷ []) [] → ⊥
            some e = cc
        by (inr f) =
            subst (λ v. Agrees j (told_on v told) (entry ∷ past)) (sym (f.1 ∙ ap (λ v. (held ++ v) ++ f.0) is))
            (agree_through j held (event.Ready ∷ []) f.0 told past (entry ∷ past) oh (other_front f.0 rs (subst AreOther f.2 (rest_other j entry past late ol))) a
            (λ before b. agree_ready j entry before past acks b was now))

    -- that of messages
    on_came : is_ready j (entry ∷ past) ≡ is_ready j past → Agrees j (told_on xs told) (entry ∷ past)
    on_came ready = by (told_all xs rs held (core_at j entry past) (rest_at j entry past late) e or_ (core_are j entry past))
      where
        is : core_at j entry past ≡ came_for j (last_request 0 (requests j past)) entry past
        is = ap (λ b. came_for j (last_request 0 (requests j past)) entry past ++ when_so (b && not (is_ready j past)) event.Ready) ready
            ∙ ap (λ b. came_for j (last_request 0 (requests j past)) entry past ++ when_so b event.Ready) (and-not_self (is_ready j past))
            ∙ append-nil (came_for j (last_request 0 (requests j past)) entry past)

        by : (core_at j entry past ≡ []) ⊎ ((ds : List Event) × (xs ≡ (held ++ core_at j entry past) ++ ds) × (rest_at j entry past late ≡ ds ++ rs)) → Agrees j (told_on xs told) (entry ∷ past)
        by (inl none) =
            agree_alone j xs rs held (core_at j entry past) (rest_at j entry past late) told (entry ∷ past) e none oh (rest_other j entry past late ol)
            (subst (λ v. Agrees j (told_on v told) (entry ∷ past)) (sym is ∙ none) (agree_came j entry told past acks ready a))
        by (inr f) =
            subst (λ v. Agrees j (told_on v told) (entry ∷ past)) (sym (f.1 ∙ ap (λ v. (held ++ v) ++ f.0) is))
            (agree_through j held (came_for j (last_request 0 (requests j past)) entry past) f.0 told past (entry ∷ past) oh (other_front f.0 rs (subst AreOther f.2 (rest_other j entry past late ol))) a
            (λ before b. agree_came j entry before past acks ready b))

-- ---- the course of a journal

-- an acknowledging sync brings no byte
pub sync_brings_nothing : (j : Job) (entry : Entry) (past : List Entry) → is_acknowledging j (entry ∷ past) ≡ true → BringsNothing j entry past
sync_brings_nothing j (made.DirSynced dir did) past e = λ c. refl
sync_brings_nothing j _ past e = cc

came_nothing : (j : Job) (o : Option (ℕ × Request)) (entry : Entry) (past : List Entry) → arrive j Iopub entry past ≡ [] → arrive j Shell entry past ≡ [] → came_for j o entry past ≡ []
came_nothing j None entry past e f = refl
came_nothing j (Some r) entry past e f =
    cond_both (is_over r.1) [] (came_open (arrive j Iopub entry past) (arrive j Shell entry past)) (λ es. es ≡ []) (λ h. refl)
    (λ h. ap (λ ms. came_open ms (arrive j Shell entry past)) e ∙ ap (came_open []) f ∙ none (is_some (reply r.1)) (has_idle r.1.io))
  where
    came_open : List Arrival → List Arrival → List Event
    came_open ms ns = ios r.1 (filter (λ m. is_parent j r.1.number m.parent) ms) ++ replies j r.0 r.1 (filter (λ m. is_exec_reply m.content && is_parent j r.1.number m.parent) ns)

    none : (b d : Bool) → map (λ m. event.Io (brief_of m)) (cond b [] []) ++ map {A = Arrival} (λ m. event.Reply (j.fatal r.0 m.content)) (cond d [] []) ≡ []
    none true true = refl
    none true false = refl
    none false true = refl
    none false false = refl

-- an entry by which no byte comes gives no message and no readiness
pub core_nothing : (j : Job) (entry : Entry) (past : List Entry) → BringsNothing j entry past → core_at j entry past ≡ []
core_nothing j entry past same =
    ap (λ es. es ++ when_so (is_ready j (entry ∷ past) && not (is_ready j past)) event.Ready)
    (came_nothing j (last_request 0 (requests j past)) entry past (arrive_nothing j entry past Iopub (same Iopub)) (arrive_nothing j entry past Shell (same Shell)))
    ∙ ap (λ b. when_so (b && not (is_ready j past)) event.Ready) (ready_unheard j entry past same)
    ∙ ap (λ b. when_so b event.Ready) (and-not_self (is_ready j past))

pub looks_are : (es : List Event) → list_all is_of_looks es ≡ true → AreOther es
looks_are [] h = tt
looks_are (e ∷ es) h = let p = and_parts (is_of_looks e) (list_all is_of_looks es) h in (by e p.0, looks_are es p.1)
  where
    by : (e : Event) → is_of_looks e ≡ true → IsOther e
    by (event.Moment ms) h = moment ms
    by event.Looked h = looked
    by event.Lost h = lost
    by event.Broken h = cc
    by event.Saved h = cc
    by event.Ready h = cc
    by (event.Io b) h = cc
    by (event.Reply f) h = cc

-- what waits, and what came after the stop
pub told_parts : (j : Job) (entry : Entry) (past : List Entry) → Flows j (entry ∷ past)
    → (list_all is_other (course j (entry ∷ past)).held ≡ true) × (list_all is_of_looks (course j (entry ∷ past)).unheard ≡ true) × Flows j past
told_parts j entry past e =
    let p = and_parts (is_told j (entry ∷ past)) (all_along (is_told j) past) e in
    let q = and_parts (list_all is_other (course j (entry ∷ past)).held) (list_all is_of_looks (course j (entry ∷ past)).unheard) p.0 in
    (q.0, q.1, p.1)

pub held_other : (j : Job) (past : List Entry) → Flows j past → AreOther (course j past).held
held_other j [] e = tt
held_other j (entry ∷ past) e = others_are (course j (entry ∷ past)).held (told_parts j entry past e).0

-- What the core was told agrees with the journal, while nothing of its requests waits or comes after the stop.
pub course_agrees : (j : Job) (past : List Entry) → Flows j past → Agrees j (course j past).told past
course_agrees j [] e = agree_first j
course_agrees j (entry ∷ past) e =
    by (course_agrees j past p.2) (tell_front j (told_saved j entry past c.told) (late_then j entry past c.late) (c.held ++ events_at j entry past c.late))
  where
    c : Course
    c = course j past

    now : Course
    now = course j (entry ∷ past)

    p : (list_all is_other now.held ≡ true) × (list_all is_of_looks now.unheard ≡ true) × Flows j past
    p = told_parts j entry past e

    left_other : AreOther (now.held ++ now.unheard)
    left_other = other_append now.held now.unheard (others_are now.held p.0) (looks_are now.unheard p.1)

    told_by : Agrees j c.told past → (xs : List Event) → xs ++ (now.held ++ now.unheard) ≡ c.held ++ (core_at j entry past ++ rest_at j entry past c.late)
        → Agrees j (told_on xs (told_saved j entry past c.told)) (entry ∷ past)
    told_by a xs f = elim (cases_Bool (is_acknowledging j (entry ∷ past))) [
      | inl acks ↦
          let same = sync_brings_nothing j entry past acks in
          subst (λ v. Agrees j (told_on xs v) (entry ∷ past)) (sym (cond-true (is_acknowledging j (entry ∷ past)) (event.Saved ∷ c.told) c.told acks))
          (on_saved j entry past c.held c.late c.told (held_other j past p.2) (late_other j past) a xs (now.held ++ now.unheard) f (core_nothing j entry past same) same acks)
      | inr acks ↦
          subst (λ v. Agrees j (told_on xs v) (entry ∷ past)) (sym (cond-false (is_acknowledging j (entry ∷ past)) (event.Saved ∷ c.told) c.told acks))
          (elim (cases_Bool (is_ready j past)) [
            | inl was ↦ on_came j entry past c.held c.late c.told (held_other j past p.2) (late_other j past) a acks xs (now.held ++ now.unheard) f left_other (ready_stays j entry past was ∙ sym was)
            | inr was ↦ elim (cases_Bool (is_ready j (entry ∷ past))) [
              | inl is ↦ on_ready j entry past c.held c.late c.told (held_other j past p.2) (late_other j past) a acks xs (now.held ++ now.unheard) f left_other was is
              | inr is ↦ on_came j entry past c.held c.late c.told (held_other j past p.2) (late_other j past) a acks xs (now.held ++ now.unheard) f left_other (is ∙ sym was)
            ]
          ])
    ]

    by : Agrees j c.told past → Tells j (told_saved j entry past c.told) (c.held ++ events_at j entry past c.late) now → Agrees j now.told (entry ∷ past)
    by a (front xs f g) = subst (λ v. Agrees j v (entry ∷ past)) (sym g) (told_by a xs (f ∙ ap (λ v. c.held ++ v) (events_are j entry past c.late)))
