-- The core's requests and those of the journal go on agreeing where a kernel becomes ready, and where messages come.
use Rattle.std.proofs.Common.{◌≡◌, inl, inr, ℕ, zero, suc, ◌+◌, ◌<◌, ◌≤◌, List, [], ◌∷◌, ◌++◌, length, map, Bool, true, false, ◌&&◌, ◌||◌, not, cond, Option, Some, None, refl, sym, ◌∙◌, ap, subst, arith}
use Rattle.std.specs.Prelude.{is_some, option_map, slice_get, IsSomeAnd, nat_lt, if◌then◌else◌, filter, take}
use Rattle.std.proofs.lemmas.List.{length-map}
use Rattle.std.proofs.lemmas.List.Folds.{list_any-append}
use Rattle.std.proofs.Math.Bool.{or-false, or_assoc}
use Rattle.std.proofs.lemmas.Bool.{and_parts, and_left, cond-true, cond-false, cond_both, cases_Bool, ltb-true, lt-ltb}
use Rattle.std.proofs.lemmas.Option.{same_Some}
use Rattle.world.specs.declared.chan.Chan.TheVariants.{Shell, Iopub}
use Rattle.world.specs.declared.entry.Entry.{Entry}
use Rattle.world.specs.Places.{time}
use Rattle.cell_core.specs.declared.brief.Brief.{Brief}
use Rattle.cell_core.specs.declared.brief.Brief.TheVariants as brief
use Rattle.cell_core.specs.declared.event.Event.{Event}
use Rattle.cell_core.specs.declared.event.Event.TheVariants as event
use Rattle.cell_core.specs.Task.{Task}
use Rattle.cell_core.specs.Events as events
use Rattle.cell_core.specs.Requests as core
use Rattle.out_fold.specs.Cells.{says_idle}
use Rattle.run_journal.specs.Codec.{Arrival}
use Rattle.run_journal.specs.Job.{Job}
use Rattle.run_journal.specs.Parts.{saves_of, is_acknowledging}
use Rattle.run_journal.specs.Arrivals.{arrive, ask_state, is_ready}
use Rattle.run_journal.specs.Requests.{Request, through_idle, has_idle, first, reply, is_over, is_fatal, is_parent, is_exec_reply, with_interrupt, goes_on, fresh, count_queued, is_next, requests, last_request}
use Rattle.run_journal.specs.Grow.{ArePassed}
use Rattle.run_journal.specs.Course.{brief_of, ios, replies, came_for}
use Rattle.run_journal.specs.Agreement.{AgreesOn, Agrees, told_on}
use Rattle.run_journal.proofs.Growth.{goes, idle_stays, reply_stays, ready_stays}
use Rattle.run_journal.proofs.Isolation.{no_next}
use Rattle.run_journal.proofs.Safety.{all_but_last}
use Rattle.run_journal.proofs.Agreeing.{stands_at, after_more, not_now, stands_later, none_more, some_now, get_mapped, next_none}
use Rattle.run_journal.proofs.Truths.{not_both, and_true}

-- ---- readiness

-- where the kernel isn't ready no request stands
pub none_unready : (j : Job) (past : List Entry) → is_ready j past ≡ false → requests j past ≡ []
none_unready j [] e = refl
none_unready j (entry ∷ past) e =
    let before : is_ready j past ≡ false = by (is_ready j past) refl in
    let old : requests j past ≡ [] = none_unready j past before in
    let none : map (goes_on j entry past) (requests j past) ≡ [] = ap (map (goes_on j entry past)) old in
    cond-false (is_next j (is_acknowledging j (entry ∷ past)) (is_ready j (entry ∷ past)) (saves_of j (entry ∷ past)) (map (goes_on j entry past) (requests j past))) _ _
    (ap (is_next j (is_acknowledging j (entry ∷ past)) (is_ready j (entry ∷ past)) (saves_of j (entry ∷ past))) none
    ∙ and_left (is_ready j (entry ∷ past) && nat_lt 0 (saves_of j (entry ∷ past))) _ (and_left (is_ready j (entry ∷ past)) _ e))
    ∙ none
  where
    by : (b : Bool) → is_ready j past ≡ b → b ≡ false
    by true h = absurd (not_both (is_ready j (entry ∷ past)) (ready_stays j entry past h) e)
    by false h = refl

module _ (j : Job) (entry : Entry) (told : List Event) (past : List Entry) (acks : is_acknowledging j (entry ∷ past) ≡ false) (a : Agrees j told past) where
  saves_same : saves_of j (entry ∷ past) ≡ saves_of j past
  saves_same = cond-false (is_acknowledging j (entry ∷ past)) _ _ acks

  module _ (was : is_ready j past ≡ false) (now : is_ready j (entry ∷ past) ≡ true) where
    none_before : requests j past ≡ []
    none_before = none_unready j past was

    abbrev fresh_one : Request
    fresh_one = with_interrupt j (entry ∷ past) (fresh (count_queued (length (ask_state j (entry ∷ past)).ids) [] + 1) (time past))

    abbrev next : Bool
    next = is_next j (is_acknowledging j (entry ∷ past)) (is_ready j (entry ∷ past)) (saves_of j (entry ∷ past)) []

    requests_are : requests j (entry ∷ past) ≡ cond next (fresh_one ∷ []) []
    requests_are = ap (λ rs. cond (is_next j (is_acknowledging j (entry ∷ past)) (is_ready j (entry ∷ past)) (saves_of j (entry ∷ past)) rs)
        (rs ++ with_interrupt j (entry ∷ past) (fresh (count_queued (length (ask_state j (entry ∷ past)).ids) rs + 1) (time past)) ∷ []) rs) (ap (map (goes_on j entry past)) none_before)

    -- the first request comes to stand for both
    first_both : 0 < length j.task.plan → stands_at j.task 0 (event.Ready ∷ told) ≡ next
    first_both p =
        ap (nat_lt 0) (a.acked ∙ sym saves_same)
        ∙ sym (ap (λ b. (b && nat_lt 0 (saves_of j (entry ∷ past))) && nat_lt 0 (length j.task.plan)) now
        ∙ and_true (nat_lt 0 (saves_of j (entry ∷ past))) (nat_lt 0 (length j.task.plan)) (lt-ltb 0 (length j.task.plan) p))

    next_planned : next ≡ true → 0 < length j.task.plan
    next_planned e = ltb-true 0 (length j.task.plan) (and_parts (is_ready j (entry ∷ past) && nat_lt 0 (saves_of j (entry ∷ past))) (nat_lt 0 (length j.task.plan)) e).1

    no_length : length (requests j past) ≡ 0
    no_length = ap length none_before

    ready_standing : (k : ℕ) (r : Request) → slice_get (requests j (entry ∷ past)) k ≡ Some r → IsSomeAnd (core.after j.task k (event.Ready ∷ told)) (λ later. AgreesOn j k later r)
    ready_standing k r h = elim (cases_Bool next) [
      | inl e ↦ one_of k r e (ap (λ rs. slice_get rs k) (sym (requests_are ∙ cond-true next (fresh_one ∷ []) [] e)) ∙ h)
      | inr e ↦ none_of k r (ap (λ rs. slice_get rs k) (sym (requests_are ∙ cond-false next (fresh_one ∷ []) [] e)) ∙ h)
    ]
      where
        none_of : (k : ℕ) (r : Request) → slice_get [] k ≡ Some r → IsSomeAnd (core.after j.task k (event.Ready ∷ told)) (λ later. AgreesOn j k later r)
        none_of k r e = cc

        one_of : (k : ℕ) (r : Request) → next ≡ true → slice_get (fresh_one ∷ []) k ≡ Some r → IsSomeAnd (core.after j.task k (event.Ready ∷ told)) (λ later. AgreesOn j k later r)
        one_of zero r e h =
            subst (λ x. IsSomeAnd (core.after j.task 0 (event.Ready ∷ told)) (λ later. AgreesOn j 0 later x)) (same_Some _ _ h)
            (subst (λ x. IsSomeAnd x (λ later. AgreesOn j 0 later fresh_one)) (sym (after_more j.task 0 event.Ready told))
            (some_now (λ later. AgreesOn j 0 later fresh_one) (stands_at j.task 0) event.Ready told (core.after j.task 0 told) (a.none 0 (next_planned e) (let n = no_length in omega (arith, n))) (first_both (next_planned e) ∙ e)
            (record { idle = refl; reply = refl })))
        one_of (suc k) r e h = cc

    ready_none : (k : ℕ) → k < length j.task.plan → length (requests j (entry ∷ past)) ≤ k → core.after j.task k (event.Ready ∷ told) ≡ None
    ready_none k p h =
        after_more j.task k event.Ready told
        ∙ none_more (stands_at j.task k) event.Ready told (core.after j.task k told) (a.none k p (let n = no_length in omega (arith, n))) (by k p h)
      where
        by : (k : ℕ) → k < length j.task.plan → length (requests j (entry ∷ past)) ≤ k → stands_at j.task k (event.Ready ∷ told) ≡ false
        by zero p h = elim (cases_Bool next) [
          | inl e ↦ let l : length (requests j (entry ∷ past)) ≡ 1 = ap length (requests_are ∙ cond-true next (fresh_one ∷ []) [] e) in absurd (omega (arith, l, h))
          | inr e ↦ first_both p ∙ e
        ]
        by (suc m) p h = refl

    -- where the kernel becomes ready and that is told, the agreement is kept
    pub agree_ready : Agrees j (event.Ready ∷ told) (entry ∷ past)
    agree_ready = record {
      acked = a.acked ∙ sym saves_same;
      ready = sym now;
      standing = ready_standing;
      none = ready_none;
    }

-- ---- what comes for a request

-- a message or a reply
pub data IsComing : Event → Type 0 where
  io : (b : Brief) → IsComing (event.Io b)
  replied : (fatal : Bool) → IsComing (event.Reply fatal)

-- so of each
abbrev pub AreComing : List Event → Type 0
AreComing [] = Unit {0}
AreComing (e ∷ es) = IsComing e × AreComing es

coming_append : (es fs : List Event) → AreComing es → AreComing fs → AreComing (es ++ fs)
coming_append [] fs a b = b
coming_append (e ∷ es) fs a b = (a.0, coming_append es fs a.1 b)

coming_ios : (ms : List Arrival) → AreComing (map (λ m. event.Io (brief_of m)) ms)
coming_ios [] = tt
coming_ios (m ∷ ms) = (io (brief_of m), coming_ios ms)

coming_replies : (j : Job) (k : ℕ) (ms : List Arrival) → AreComing (map (λ m. event.Reply (j.fatal k m.content)) ms)
coming_replies j k [] = tt
coming_replies j k (m ∷ ms) = (replied (j.fatal k m.content), coming_replies j k ms)

pub coming_for : (j : Job) (o : Option (ℕ × Request)) (entry : Entry) (past : List Entry) → AreComing (came_for j o entry past)
coming_for j None entry past = tt
coming_for j (Some r) entry past =
    cond_both (is_over r.1) [] _ AreComing (λ e. tt)
    (λ e. coming_append (ios r.1 _) (replies j r.0 r.1 _) (coming_ios _) (coming_replies j r.0 _))

pub coming_saved : {e : Event} → IsComing e → events.is_saved e ≡ false
coming_saved (io b) = refl
coming_saved (replied f) = refl

pub coming_ready : {e : Event} → IsComing e → events.is_ready e ≡ false
coming_ready (io b) = refl
coming_ready (replied f) = refl

-- they tell no acknowledgement and no readiness
acked_on : (es told : List Event) → AreComing es → events.ack_count (told_on es told) ≡ events.ack_count told
acked_on [] told c = refl
acked_on (e ∷ es) told c = acked_on es (e ∷ told) c.1 ∙ cond-false (events.is_saved e) (events.ack_count told + 1) (events.ack_count told) (coming_saved c.0)

ready_on : (es told : List Event) → AreComing es → events.came events.is_ready (told_on es told) ≡ events.came events.is_ready told
ready_on [] told c = refl
ready_on (e ∷ es) told c = ready_on es (e ∷ told) c.1 ∙ ap (λ b. b || events.came events.is_ready told) (coming_ready c.0)

-- what came since a request stood, with them
pub after_on : (task : Task) (k : ℕ) (es told later : List Event) → core.after task k told ≡ Some later → core.after task k (told_on es told) ≡ Some (told_on es later)
after_on task k [] told later e = e
after_on task k (x ∷ es) told later e =
    after_on task k es (x ∷ told) (x ∷ later) (after_more task k x told ∙ ap (events.since_more (stands_at task k) x told) e)

-- they make no request stand
none_on : (task : Task) (k : ℕ) (es told : List Event) → AreComing es → core.after task k told ≡ None → core.after task k (told_on es told) ≡ None
none_on task k [] told c e = e
none_on task k (x ∷ es) told c e =
    none_on task k es (x ∷ told) c.1
    (after_more task k x told ∙ none_more (stands_at task k) x told (core.after task k told) e (stands_later task k x told (coming_saved c.0) (coming_ready c.0) (not_now task k told e)))

pub told_append : (es fs told : List Event) → told_on (es ++ fs) told ≡ told_on fs (told_on es told)
told_append [] fs told = refl
told_append (e ∷ es) fs told = told_append es fs (e ∷ told)

-- ---- a request that is over

own_idle : {e : Event} → IsComing e → (later : List Event) → core.has_idle (core.own later) ≡ true → core.has_idle (core.own (e ∷ later)) ≡ true
own_idle (io b) later h = ap core.has_idle (cond-true (core.has_idle (core.own later)) (core.own later) (b ∷ core.own later) h) ∙ h
own_idle (replied f) later h = h

reply_held : {e : Event} → IsComing e → (later : List Event) → is_some (core.reply later) ≡ true → core.reply (e ∷ later) ≡ core.reply later
reply_held (io b) later h = refl
reply_held (replied f) later h = cond-true (is_some (core.reply later)) (core.reply later) (Some f) h

idles_on : (es later : List Event) → AreComing es → core.has_idle (core.own later) ≡ true → core.has_idle (core.own (told_on es later)) ≡ true
idles_on [] later c h = h
idles_on (e ∷ es) later c h = idles_on es (e ∷ later) c.1 (own_idle c.0 later h)

replies_on : (es later : List Event) → AreComing es → is_some (core.reply later) ≡ true → core.reply (told_on es later) ≡ core.reply later
replies_on [] later c h = refl
replies_on (e ∷ es) later c h =
    let one = reply_held c.0 later h in
    replies_on es (e ∷ later) c.1 (ap is_some one ∙ h) ∙ one

some_mapped : (j : Job) (k : ℕ) (o : Option (Arrival × ℕ)) → is_some (option_map (λ m. j.fatal k m.0.content) o) ≡ is_some o
some_mapped j k None = refl
some_mapped j k (Some m) = refl

-- a request that is over agrees, whatever comes
over_on : (j : Job) (entry : Entry) (past : List Entry) (k : ℕ) (later es : List Event) (r : Request) → AreComing es → is_over r ≡ true → AgreesOn j k later r → AgreesOn j k (told_on es later) (goes_on j entry past r)
over_on j entry past k later es r c over b =
    let p = and_parts (has_idle r.io) (is_some (reply r)) over in
    let g = goes j entry past r in
    record {
      idle = idles_on es later c (b.idle ∙ p.0) ∙ sym (idle_stays r (goes_on j entry past r) g p.0);
      reply = replies_on es later c (ap is_some b.reply ∙ some_mapped j k (reply r) ∙ p.1) ∙ b.reply
          ∙ ap (option_map (λ m. j.fatal k m.0.content)) (sym (reply_stays r (goes_on j entry past r) g p.1));
    }

-- ---- the request that isn't over

idle_io : (m : Arrival) (later : List Event) → core.has_idle (core.own (event.Io (brief_of m) ∷ later)) ≡ (core.has_idle (core.own later) || says_idle m.content)
idle_io m later = by (core.has_idle (core.own later)) (says_idle m.content) (core.own later) refl
  where
    by : (h s : Bool) (xs : List Brief) → core.has_idle xs ≡ h → core.has_idle (cond h xs (cond s brief.Idle brief.Else ∷ xs)) ≡ (h || s)
    by true s xs e = e
    by false true xs e = refl
    by false false xs e = e

ios_idle : (ms : List Arrival) (later : List Event) → core.has_idle (core.own (told_on (map (λ m. event.Io (brief_of m)) ms) later)) ≡ (core.has_idle (core.own later) || has_idle ms)
ios_idle [] later = sym (or-false (core.has_idle (core.own later)))
ios_idle (m ∷ ms) later = ios_idle ms (event.Io (brief_of m) ∷ later) ∙ ap (λ b. b || has_idle ms) (idle_io m later) ∙ or_assoc (core.has_idle (core.own later)) (says_idle m.content) (has_idle ms)

ios_reply : (ms : List Arrival) (later : List Event) → core.reply (told_on (map (λ m. event.Io (brief_of m)) ms) later) ≡ core.reply later
ios_reply [] later = refl
ios_reply (m ∷ ms) later = ios_reply ms (event.Io (brief_of m) ∷ later)

replies_idle : (j : Job) (k : ℕ) (ms : List Arrival) (later : List Event) → core.own (told_on (map (λ m. event.Reply (j.fatal k m.content)) ms) later) ≡ core.own later
replies_idle j k [] later = refl
replies_idle j k (m ∷ ms) later = replies_idle j k ms (event.Reply (j.fatal k m.content) ∷ later)

-- the first of two that is there
abbrev or_first : Option Bool → Option Bool → Option Bool
or_first None o = o
or_first (Some f) o = Some f

replies_reply : (j : Job) (k : ℕ) (ms : List Arrival) (later : List Event)
    → core.reply (told_on (map (λ m. event.Reply (j.fatal k m.content)) ms) later) ≡ or_first (core.reply later) (option_map (λ (m : Arrival). j.fatal k m.content) (first ms))
replies_reply j k [] later = sym (alone (core.reply later))
  where
    alone : (o : Option Bool) → or_first o None ≡ o
    alone None = refl
    alone (Some f) = refl
replies_reply j k (m ∷ ms) later =
    replies_reply j k ms (event.Reply (j.fatal k m.content) ∷ later) ∙ by (core.reply later) (j.fatal k m.content) (option_map (λ (m : Arrival). j.fatal k m.content) (first ms))
  where
    by : (o : Option Bool) (f : Bool) (p : Option Bool) → or_first (cond (is_some o) o (Some f)) p ≡ or_first o (Some f)
    by None f p = refl
    by (Some g) f p = refl

first_taken : (ms : List Arrival) → first (take 1 ms) ≡ first ms
first_taken [] = refl
first_taken (m ∷ ms) = refl

through_has : (ms : List Arrival) → has_idle (through_idle ms) ≡ has_idle ms
through_has [] = refl
through_has (m ∷ ms) = by (says_idle m.content) refl (through_has ms)
  where
    by : (b : Bool) → says_idle m.content ≡ b → has_idle (through_idle ms) ≡ has_idle ms → has_idle (cond b (m ∷ []) (m ∷ through_idle ms)) ≡ (says_idle m.content || has_idle ms)
    by true e h = ap (λ x. x || false) e ∙ sym (ap (λ x. x || has_idle ms) e)
    by false e h = ap (λ x. says_idle m.content || x) h

first_more : (xs : List (Arrival × ℕ)) (clock : ℕ) (ms : List Arrival) (F : Arrival → Bool)
    → option_map (λ (m : Arrival × ℕ). F m.0) (first (xs ++ map (λ m. (m, clock)) ms)) ≡ or_first (option_map (λ (m : Arrival × ℕ). F m.0) (first xs)) (option_map F (first ms))
first_more [] clock [] F = refl
first_more [] clock (m ∷ ms) F = refl
first_more (x ∷ xs) clock ms F = refl

-- the request that isn't over agrees with what is told of it
open_on : (j : Job) (entry : Entry) (past : List Entry) (k : ℕ) (later : List Event) (r : Request) → is_over r ≡ false → AgreesOn j k later r
    → AgreesOn j k (told_on (came_for j (Some (k, r)) entry past) later) (goes_on j entry past r)
open_on j entry past k later r on b =
    let ms : List Arrival = filter (λ m. is_parent j r.number m.parent) (arrive j Iopub entry past) in
    let ns : List Arrival = filter (λ m. is_exec_reply m.content && is_parent j r.number m.parent) (arrive j Shell entry past) in
    let us : List Arrival = if is_some (reply r) then through_idle ms else ms in
    let vs : List Arrival = if has_idle r.io then take 1 ns else ns in
    let es : List Event = ios r ms in
    let fs : List Event = replies j k r ns in
    let all : told_on (came_for j (Some (k, r)) entry past) later ≡ told_on fs (told_on es later)
    = ap (λ xs. told_on xs later) (cond-false (is_over r) [] (es ++ fs) on) ∙ told_append es fs later in
    subst (λ xs. AgreesOn j k xs (goes_on j entry past r)) (sym all)
    (record {
      idle = ap core.has_idle (replies_idle j k vs (told_on es later))
          ∙ ios_idle us later
          ∙ ap (λ x. x || has_idle us) b.idle
          ∙ ap (λ x. has_idle r.io || x) (cond_both (is_some (reply r)) (through_idle ms) ms (λ xs. has_idle xs ≡ has_idle ms) (λ e. through_has ms) (λ e. refl))
          ∙ sym (list_any-append (λ m. says_idle m.content) r.io ms);
      reply = replies_reply j k vs (told_on es later)
          ∙ ap (λ o. or_first o (option_map (λ (m : Arrival). j.fatal k m.content) (first vs))) (ios_reply us later ∙ b.reply)
          ∙ ap (λ o. or_first (option_map (λ m. j.fatal k m.0.content) (reply r)) (option_map (λ (m : Arrival). j.fatal k m.content) o))
          (cond_both (has_idle r.io) (take 1 ns) ns (λ xs. first xs ≡ first ns) (λ e. first_taken ns) (λ e. refl))
          ∙ sym (first_more r.replies (time past) ns (λ m. j.fatal k m.content));
    })

-- ---- all requests

-- a request that isn't over is the last
last_open : (j : Job) (k : ℕ) (rs : List Request) (i : ℕ) (q : Request) → ArePassed j k rs → slice_get rs i ≡ Some q → is_over q ≡ false → last_request k rs ≡ Some (k + i, q)
last_open j k [] i q h e on = cc
last_open j k (x ∷ []) zero q h e on = let n : k ≡ k + 0 = omega arith in ap (λ m. Some (m, x)) n ∙ ap (λ y. Some (k + 0, y)) (same_Some _ _ e)
last_open j k (x ∷ []) (suc i) q h e on = cc
last_open j k (x ∷ y ∷ rs) zero q h e on =
    absurd (not_both (is_over q) (ap is_over (sym (same_Some _ _ e)) ∙ (and_parts (is_over x) (not (is_fatal j k (reply x))) h.0).0) on)
last_open j k (x ∷ y ∷ rs) (suc i) q h e on =
    let n : (k + 1) + i ≡ k + suc i = omega arith in
    last_open j (k + 1) (y ∷ rs) i q h.1 e on ∙ ap (λ m. Some (m, q)) n

module _ (j : Job) (entry : Entry) (told : List Event) (past : List Entry) (acks : is_acknowledging j (entry ∷ past) ≡ false) (ready : is_ready j (entry ∷ past) ≡ is_ready j past) (a : Agrees j told past) where
  -- what the entry brings for the last request
  abbrev es : List Event
  es = came_for j (last_request 0 (requests j past)) entry past

  came_are : AreComing es
  came_are = coming_for j (last_request 0 (requests j past)) entry past

  gone_on : requests j (entry ∷ past) ≡ map (goes_on j entry past) (requests j past)
  gone_on = cond-false (is_next j (is_acknowledging j (entry ∷ past)) (is_ready j (entry ∷ past)) (saves_of j (entry ∷ past)) (map (goes_on j entry past) (requests j past))) _ _
      (next_none j (is_acknowledging j (entry ∷ past)) (is_ready j (entry ∷ past)) (saves_of j (entry ∷ past)) (goes_on j entry past) (requests j past) acks
      (ap (λ b. is_next j false b (saves_of j (entry ∷ past)) (requests j past)) ready
      ∙ ap (λ n. is_next j false (is_ready j past) n (requests j past)) (saves_same j entry told past acks a) ∙ no_next j past))

  one_on : (k : ℕ) (q : Request) (later : List Event) → slice_get (requests j past) k ≡ Some q → AgreesOn j k later q → AgreesOn j k (told_on es later) (goes_on j entry past q)
  one_on k q later e b = elim (cases_Bool (is_over q)) [
    | inl over ↦ over_on j entry past k later es q came_are over b
    | inr on ↦
        let n : 0 + k ≡ k = omega arith in
        let is : last_request 0 (requests j past) ≡ Some (k, q) = last_open j 0 (requests j past) k q (all_but_last j past) e on ∙ ap (λ m. Some (m, q)) n in
        subst (λ o. AgreesOn j k (told_on (came_for j o entry past) later) (goes_on j entry past q)) (sym is) (open_on j entry past k later q on b)
  ]

  came_standing : (k : ℕ) (r : Request) → slice_get (requests j (entry ∷ past)) k ≡ Some r → IsSomeAnd (core.after j.task k (told_on es told)) (λ later. AgreesOn j k later r)
  came_standing k r h =
      let q = get_mapped (goes_on j entry past) (requests j past) k r (ap (λ rs. slice_get rs k) (sym gone_on) ∙ h) in
      subst (λ x. IsSomeAnd (core.after j.task k (told_on es told)) (λ later. AgreesOn j k later x)) (sym q.2)
      (by (core.after j.task k told) refl q.0 q.1 (a.standing k q.0 q.1))
    where
      by : (o : Option (List Event)) → core.after j.task k told ≡ o → (q : Request) → slice_get (requests j past) k ≡ Some q → IsSomeAnd o (λ later. AgreesOn j k later q)
          → IsSomeAnd (core.after j.task k (told_on es told)) (λ later. AgreesOn j k later (goes_on j entry past q))
      by None e q f b = absurd b
      by (Some later) e q f b =
          subst (λ x. IsSomeAnd x (λ later. AgreesOn j k later (goes_on j entry past q))) (sym (after_on j.task k es told later e)) (one_on k q later f b)

  -- where messages come that make no kernel ready, and what they bring for the last request is told, the agreement is kept
  pub agree_came : Agrees j (told_on es told) (entry ∷ past)
  agree_came = record {
    acked = acked_on es told came_are ∙ a.acked ∙ sym (saves_same j entry told past acks a);
    ready = ready_on es told came_are ∙ a.ready ∙ sym ready;
    standing = came_standing;
    none = λ k p h.
        none_on j.task k es told came_are
        (a.none k p (let n : length (requests j (entry ∷ past)) ≡ length (requests j past) = ap length gone_on ∙ length-map (requests j past) (goes_on j entry past) in omega (arith, n, h)));
  }
