-- The core's requests and those of the journal go on agreeing, event by event and entry by entry.
use Rattle.std.proofs.Common.{◌≡◌, inl, inr, ℕ, zero, suc, ◌+◌, ◌<◌, ◌≤◌, List, [], ◌∷◌, ◌++◌, length, map, Bool, true, false, ◌&&◌, ◌||◌, not, Option, Some, None, refl, sym, ◌∙◌, ap, subst, arith}
use Rattle.std.specs.Prelude.{is_some, option_map, slice_get, IsSomeAnd, ◌==◌, nat_lt, filter}
use Rattle.std.specs.List.{list_any}
use Rattle.std.proofs.lemmas.List.{append-nil, length-map, length_push}
use Rattle.std.proofs.Math.Bool.{or-false}
use Rattle.std.proofs.lemmas.Bool.{and_parts, and_left, and_right, cond-true, cond-false, cases_Bool, cases_lt, eqb-true, eq-eqb, ltb-true, lt-ltb, false_from_ne_true}
use Rattle.std.proofs.lemmas.Option.{same_Some}
use Rattle.world.specs.declared.chan.Chan.{Chan}
use Rattle.world.specs.declared.chan.Chan.TheVariants.{Shell, Iopub}
use Rattle.world.specs.declared.entry.Entry.{Entry}
use Rattle.world.specs.Places.{time}
use Rattle.cell_core.specs.declared.event.Event.{Event}
use Rattle.cell_core.specs.declared.event.Event.TheVariants as event
use Rattle.cell_core.specs.Task.{Task}
use Rattle.cell_core.specs.Events as events
use Rattle.cell_core.specs.Requests as core
use Rattle.run_journal.specs.Codec.{Arrival}
use Rattle.run_journal.specs.Job.{Job}
use Rattle.run_journal.specs.Parts.{bytes_got, saves_of, is_acknowledging}
use Rattle.run_journal.specs.Arrivals.{arrive, ask_state, is_ready, ask_on, has_some, tells}
use Rattle.run_journal.specs.Requests.{Request, has_idle, first, reply, is_passed, is_fatal, is_last_passed, is_parent, is_exec_reply, with_interrupt, goes_on, fresh, count_queued, is_next, requests}
use Rattle.run_journal.specs.Agreement.{AgreesOn, Agrees, IsOther, moment, looked, lost, broken}
use Rattle.run_journal.proofs.AlikeLooks.{arrive_nothing}
use Rattle.run_journal.proofs.Isolation.{no_next}
use Rattle.run_journal.proofs.Truths.{not_both, and_true}
use Rattle.jtext.proofs.Lists.{some_at, none_chosen}

-- ---- the core's tests

-- at which moment request k comes to stand
abbrev pub stands_at : Task → ℕ → List Event → Bool
stands_at task zero = core.both_came
stands_at task (suc k) = core.is_next task k (core.after task k)

-- before anything is told none does
stands_at_first : (task : Task) (k : ℕ) → stands_at task k [] ≡ false
stands_at_first task zero = refl
stands_at_first task (suc k) = refl

-- with one more event
pub after_more : (task : Task) (k : ℕ) (e : Event) (told : List Event) → core.after task k (e ∷ told) ≡ events.since_more (stands_at task k) e told (core.after task k told)
after_more task zero e told = refl
after_more task (suc k) e told = refl

since_none : (test : List Event → Bool) (told : List Event) → test [] ≡ false → events.since test told ≡ None → test told ≡ false
since_none test [] none e = none
since_none test (x ∷ told) none e = by (events.since test told) e
  where
    by : (o : Option (List Event)) → events.since_more test x told o ≡ None → test (x ∷ told) ≡ false
    by None e = none_chosen (test (x ∷ told)) [] e
    by (Some later) e = cc

-- a request that doesn't stand doesn't come to stand just now
pub not_now : (task : Task) (k : ℕ) (told : List Event) → core.after task k told ≡ None → stands_at task k told ≡ false
not_now task zero told e = since_none core.both_came told refl e
not_now task (suc k) told e = since_none (core.is_next task k (core.after task k)) told refl e

-- what came since it stood, with one more event
some_more : (P Q : List Event → Type 0) (test : List Event → Bool) (x : Event) (told : List Event) (o : Option (List Event)) → IsSomeAnd o P → ((later : List Event) → P later → Q (x ∷ later)) → IsSomeAnd (events.since_more test x told o) Q
some_more P Q test x told None h f = absurd h
some_more P Q test x told (Some later) h f = f later h

-- it still doesn't stand
pub none_more : (test : List Event → Bool) (x : Event) (told : List Event) (o : Option (List Event)) → o ≡ None → test (x ∷ told) ≡ false → events.since_more test x told o ≡ None
none_more test x told None e f = cond-false (test (x ∷ told)) (Some []) None f
none_more test x told (Some later) e f = cc

-- it comes to stand
pub some_now : (Q : List Event → Type 0) (test : List Event → Bool) (x : Event) (told : List Event) (o : Option (List Event)) → o ≡ None → test (x ∷ told) ≡ true → Q [] → IsSomeAnd (events.since_more test x told o) Q
some_now Q test x told None e f q = subst (λ o. IsSomeAnd o Q) (sym (cond-true (test (x ∷ told)) (Some []) None f)) q
some_now Q test x told (Some later) e f q = cc

-- ---- requests by their numbers

-- a request after a map is one before it
pub get_mapped : (f : Request → Request) (rs : List Request) (i : ℕ) (r : Request) → slice_get (map f rs) i ≡ Some r → (q : Request) × (slice_get rs i ≡ Some q) × (r ≡ f q)
get_mapped f [] i r e = cc
get_mapped f (x ∷ rs) zero r e = (x, refl, sym (same_Some _ _ e))
get_mapped f (x ∷ rs) (suc i) r e = get_mapped f rs i r e

-- a request of a list with one more is one of the list, or the one more
pub data IsIn (rs : List Request) (q : Request) (i : ℕ) (r : Request) : Type 0 where
  before : slice_get rs i ≡ Some r → IsIn rs q i r
  last : i ≡ length rs → r ≡ q → IsIn rs q i r

pub in_more : (x : Request) (rs : List Request) (q : Request) (i : ℕ) (r : Request) → IsIn rs q i r → IsIn (x ∷ rs) q (suc i) r
in_more x rs q i r (before e) = before e
in_more x rs q i r (last e f) = last (ap suc e) f

pub get_pushed : (rs : List Request) (q : Request) (i : ℕ) (r : Request) → slice_get (rs ++ q ∷ []) i ≡ Some r → IsIn rs q i r
get_pushed [] q zero r e = last refl (sym (same_Some _ _ e))
get_pushed [] q (suc i) r e = cc
get_pushed (x ∷ rs) q zero r e = before e
get_pushed (x ∷ rs) q (suc i) r e = in_more x rs q i r (get_pushed rs q i r e)

-- ---- an event that isn't of requests

no_own : {e : Event} → IsOther e → (later : List Event) → core.own (e ∷ later) ≡ core.own later
no_own (moment ms) later = refl
no_own looked later = refl
no_own lost later = refl
no_own broken later = refl

no_reply : {e : Event} → IsOther e → (later : List Event) → core.reply (e ∷ later) ≡ core.reply later
no_reply (moment ms) later = refl
no_reply looked later = refl
no_reply lost later = refl
no_reply broken later = refl

pub no_saved : {e : Event} → IsOther e → events.is_saved e ≡ false
no_saved (moment ms) = refl
no_saved looked = refl
no_saved lost = refl
no_saved broken = refl

pub no_ready : {e : Event} → IsOther e → events.is_ready e ≡ false
no_ready (moment ms) = refl
no_ready looked = refl
no_ready lost = refl
no_ready broken = refl

-- an event that tells no acknowledgement and no readiness makes no request stand
pub stands_later : (task : Task) (k : ℕ) (e : Event) (told : List Event) → events.is_saved e ≡ false → events.is_ready e ≡ false → stands_at task k told ≡ false → stands_at task k (e ∷ told) ≡ false
stands_later task zero e told s r h =
    ap (λ b. (b || events.came events.is_ready told) && nat_lt 0 (events.ack_count (e ∷ told))) r
    ∙ ap (λ n. events.came events.is_ready told && nat_lt 0 n) (cond-false (events.is_saved e) (events.ack_count told + 1) (events.ack_count told) s)
    ∙ h
stands_later task (suc k) e told s r h =
    ap (λ b. b && events.ack_count told == k + 1 && core.is_passed_in (core.after task k told) && nat_lt (k + 1) (length task.plan)) s

-- what agreed goes on agreeing, where the event changes no message and no reply
on_other : {j : Job} {k : ℕ} {r : Request} {e : Event} → IsOther e → (later : List Event) → AgreesOn j k later r → AgreesOn j k (e ∷ later) r
on_other o later a = record {
  idle = ap core.has_idle (no_own o later) ∙ a.idle;
  reply = no_reply o later ∙ a.reply;
}

-- an event that isn't of requests keeps the agreement
pub agree_other : (j : Job) (e : Event) (told : List Event) (past : List Entry) → IsOther e → Agrees j told past → Agrees j (e ∷ told) past
agree_other j e told past o a = record {
  acked = cond-false (events.is_saved e) (events.ack_count told + 1) (events.ack_count told) (no_saved o) ∙ a.acked;
  ready = ap (λ b. b || events.came events.is_ready told) (no_ready o) ∙ a.ready;
  standing = λ k r h.
      subst (λ x. IsSomeAnd x (λ later. AgreesOn j k later r)) (sym (after_more j.task k e told))
      (some_more (λ later. AgreesOn j k later r) (λ later. AgreesOn j k later r) (stands_at j.task k) e told (core.after j.task k told) (a.standing k r h) (λ later b. on_other o later b));
  none = λ k p h.
      after_more j.task k e told
      ∙ none_more (stands_at j.task k) e told (core.after j.task k told) (a.none k p h) (stands_later j.task k e told (no_saved o) (no_ready o) (not_now j.task k told (a.none k p h)));
}

-- ---- an entry by which no byte comes and no save is acknowledged

-- nothing new makes a kernel ready
pub ready_unheard : (j : Job) (entry : Entry) (past : List Entry) → ((c : Chan) → bytes_got j c (entry ∷ past) ≡ bytes_got j c past) → is_ready j (entry ∷ past) ≡ is_ready j past
unfolding ask_on
ready_unheard j entry past same =
    ap (λ ms. ((ask_state j past).told || list_any (tells (ask_state j past).ids) ms) && ((ask_state j past).heard || has_some (arrive j Iopub entry past))) (arrive_nothing j entry past Shell (same Shell))
    ∙ ap (λ ms. ((ask_state j past).told || false) && ((ask_state j past).heard || has_some ms)) (arrive_nothing j entry past Iopub (same Iopub))
    ∙ ap (λ b. b && ((ask_state j past).heard || false)) (or-false (ask_state j past).told)
    ∙ ap (λ b. (ask_state j past).told && b) (or-false (ask_state j past).heard)

-- a request for which nothing came agrees with what it did before
on_nothing : (j : Job) (entry : Entry) (past : List Entry) (k : ℕ) (later : List Event) (q : Request) → ((c : Chan) → bytes_got j c (entry ∷ past) ≡ bytes_got j c past) → AgreesOn j k later q → AgreesOn j k later (goes_on j entry past q)
on_nothing j entry past k later q same a = record {
  idle = a.idle ∙ sym (ap (λ ms. has_idle (q.io ++ filter (λ m. is_parent j q.number m.parent) ms)) (arrive_nothing j entry past Iopub (same Iopub)) ∙ ap has_idle (append-nil q.io));
  reply = a.reply
      ∙ sym (ap (λ ms. option_map (λ m. j.fatal k m.0.content) (first (q.replies ++ map (λ m. (m, time past)) (filter (λ m. is_exec_reply m.content && is_parent j q.number m.parent) ms)))) (arrive_nothing j entry past Shell (same Shell))
      ∙ ap (λ (ms : List (Arrival × ℕ)). option_map (λ m. j.fatal k m.0.content) (first ms)) (append-nil q.replies));
}

-- where the next request doesn't come to stand, the requests are those before, gone on
requests_on : (j : Job) (entry : Entry) (past : List Entry) → is_next j (is_acknowledging j (entry ∷ past)) (is_ready j (entry ∷ past)) (saves_of j (entry ∷ past)) (map (goes_on j entry past) (requests j past)) ≡ false
    → requests j (entry ∷ past) ≡ map (goes_on j entry past) (requests j past)
requests_on j entry past e = cond-false _ _ _ e

-- whether the next one comes to stand doesn't see what came for the others, but for the last one's end
pub next_none : (j : Job) (acks ready : Bool) (saves : ℕ) (f : Request → Request) (rs : List Request) → acks ≡ false → is_next j false ready saves rs ≡ false → is_next j acks ready saves (map f rs) ≡ false
next_none j acks ready saves f [] e h = h
next_none j acks ready saves f (r ∷ rs) e h = and_left _ _ (and_left _ _ (and_left acks _ e))

-- an entry by which no byte comes and no save is acknowledged keeps the agreement
pub agree_unheard : (j : Job) (entry : Entry) (told : List Event) (past : List Entry) → ((c : Chan) → bytes_got j c (entry ∷ past) ≡ bytes_got j c past) → is_acknowledging j (entry ∷ past) ≡ false
    → Agrees j told past → Agrees j told (entry ∷ past)
agree_unheard j entry told past same acks a =
    let saves : saves_of j (entry ∷ past) ≡ saves_of j past = cond-false (is_acknowledging j (entry ∷ past)) _ _ acks in
    let ready : is_ready j (entry ∷ past) ≡ is_ready j past = ready_unheard j entry past same in
    let no : is_next j (is_acknowledging j (entry ∷ past)) (is_ready j (entry ∷ past)) (saves_of j (entry ∷ past)) (map (goes_on j entry past) (requests j past)) ≡ false
    = next_none j (is_acknowledging j (entry ∷ past)) (is_ready j (entry ∷ past)) (saves_of j (entry ∷ past)) (goes_on j entry past) (requests j past) acks
    (ap (λ b. is_next j false b (saves_of j (entry ∷ past)) (requests j past)) ready ∙ ap (λ n. is_next j false (is_ready j past) n (requests j past)) saves ∙ no_next j past) in
    let on : requests j (entry ∷ past) ≡ map (goes_on j entry past) (requests j past) = requests_on j entry past no in
    record {
      acked = a.acked ∙ sym saves;
      ready = a.ready ∙ sym ready;
      standing = λ k r h.
          let q = get_mapped (goes_on j entry past) (requests j past) k r (ap (λ rs. slice_get rs k) (sym on) ∙ h) in
          and_on (λ later. AgreesOn j k later q.0) (λ later. AgreesOn j k later r) (core.after j.task k told) (a.standing k q.0 q.1) (λ later b. subst (λ x. AgreesOn j k later x) (sym q.2) (on_nothing j entry past k later q.0 same b));
      none = λ k p h. a.none k p (let n : length (requests j (entry ∷ past)) ≡ length (requests j past) = ap length on ∙ length-map (requests j past) (goes_on j entry past) in omega (arith, n, h));
    }
  where
    and_on : (P Q : List Event → Type 0) (o : Option (List Event)) → IsSomeAnd o P → ((later : List Event) → P later → Q later) → IsSomeAnd o Q
    and_on P Q None h f = absurd h
    and_on P Q (Some later) h f = f later h

-- ---- an acknowledged save

-- whether a request is passed, by the core's events and by the journal
pub passed_agrees : (j : Job) (k : ℕ) (later : List Event) (r : Request) → AgreesOn j k later r → core.is_passed later ≡ is_passed j k r
passed_agrees j k later r a =
    ap (λ b. (is_some (core.reply later) && b) && not (core.is_true_in (core.reply later))) a.idle
    ∙ ap (λ (o : Option Bool). (is_some o && has_idle r.io) && not (core.is_true_in o)) a.reply
    ∙ by_parts (has_idle r.io) (reply r)
  where
    by_parts : (i : Bool) (o : Option (Arrival × ℕ)) → ((is_some (option_map (λ m. j.fatal k m.0.content) o) && i) && not (core.is_true_in (option_map (λ m. j.fatal k m.0.content) o))) ≡ ((i && is_some o) && not (is_fatal j k o))
    by_parts true None = refl
    by_parts true (Some m) = refl
    by_parts false None = refl
    by_parts false (Some m) = refl

-- the last of a list is the one with the last number
pub last_at : (j : Job) (k m : ℕ) (rs : List Request) (r : Request) → slice_get rs m ≡ Some r → length rs ≡ suc m → is_last_passed j k rs ≡ is_passed j (k + m) r
last_at j k m [] r e l = cc
last_at j k zero (x ∷ []) r e l = let n : k ≡ k + 0 = omega arith in ap (λ i. is_passed j i x) n ∙ ap (is_passed j (k + 0)) (same_Some _ _ e)
last_at j k (suc m) (x ∷ []) r e l = cc
last_at j k zero (x ∷ y ∷ rs) r e l = absurd (omega (arith, l))
last_at j k (suc m) (x ∷ y ∷ rs) r e l =
    let n : (k + 1) + m ≡ k + suc m = omega arith in
    last_at j (k + 1) m (y ∷ rs) r e (omega (arith, l)) ∙ ap (λ i. is_passed j i r) n

-- what the journal asks of the next request, where one stands
next_after : (j : Job) (ready : Bool) (saves m : ℕ) (rs : List Request) → length rs ≡ suc m → is_next j true ready saves rs ≡ ((is_last_passed j 0 rs && saves == suc m + 1) && nat_lt (suc m) (length j.task.plan))
next_after j ready saves m [] l = cc
next_after j ready saves m (r ∷ rs) l = ap (λ n. (is_last_passed j 0 (r ∷ rs) && saves == n + 1) && nat_lt n (length j.task.plan)) l

-- and where none does
pub next_first : (j : Job) (acks ready : Bool) (saves : ℕ) (rs : List Request) → length rs ≡ 0 → is_next j acks ready saves rs ≡ ((ready && nat_lt 0 saves) && nat_lt 0 (length j.task.plan))
next_first j acks ready saves [] l = refl
next_first j acks ready saves (r ∷ rs) l = cc

-- the number of the save, on both sides
same_number : (m n : ℕ) → (m == n + 1) ≡ (m + 1 == suc n + 1)
same_number m n = elim (cases_Bool (m == n + 1)) [
  | inl e ↦ let h : m ≡ n + 1 = eqb-true m (n + 1) e in e ∙ sym (eq-eqb (m + 1) (suc n + 1) (omega (arith, h)))
  | inr e ↦ e ∙ sym (false_from_ne_true (m + 1 == suc n + 1) (λ f. not_both (m == n + 1) (eq-eqb m (n + 1) (let h : m + 1 ≡ suc n + 1 = eqb-true (m + 1) (suc n + 1) f in omega (arith, h))) e))
]

-- a request that stands agrees with what the core knows of it
pub known : (j : Job) (k : ℕ) (r : Request) (o : Option (List Event)) → IsSomeAnd o (λ later. AgreesOn j k later r) → core.is_passed_in o ≡ is_passed j k r
known j k r None h = absurd h
known j k r (Some later) h = passed_agrees j k later r h

module _ (j : Job) (entry : Entry) (told : List Event) (past : List Entry) where
  -- the requests, gone on
  abbrev gone : List Request
  gone = map (goes_on j entry past) (requests j past)

  -- whether the next one comes to stand
  abbrev next : Bool
  next = is_next j (is_acknowledging j (entry ∷ past)) (is_ready j (entry ∷ past)) (saves_of j (entry ∷ past)) gone

  -- the next one
  abbrev fresh_one : Request
  fresh_one = with_interrupt j (entry ∷ past) (fresh (count_queued (length (ask_state j (entry ∷ past)).ids) gone + 1) (time past))

  gone_length : length gone ≡ length (requests j past)
  gone_length = length-map (requests j past) (goes_on j entry past)

  -- beyond the next request none comes to stand at an acknowledgement
  none_beyond : (k : ℕ) → k < length j.task.plan → length (requests j past) < k → Agrees j told past → stands_at j.task k (event.Saved ∷ told) ≡ false
  none_beyond zero p h a = absurd (omega (arith, h))
  none_beyond (suc m) p h a =
      and_left (events.ack_count told == m + 1 && core.is_passed_in (core.after j.task m told)) _
      (and_right (events.ack_count told == m + 1) (core.is_passed_in (core.after j.task m told)) (ap core.is_passed_in (a.none m (omega (arith, p)) (omega (arith, h)))))

  module _ (same : (c : Chan) → bytes_got j c (entry ∷ past) ≡ bytes_got j c past) (acks : is_acknowledging j (entry ∷ past) ≡ true) (a : Agrees j told past) where
    saves_more : saves_of j (entry ∷ past) ≡ saves_of j past + 1
    saves_more = cond-true (is_acknowledging j (entry ∷ past)) _ _ acks

    -- the first request comes to stand for both
    first_both : length (requests j past) ≡ 0 → 0 < length j.task.plan → stands_at j.task 0 (event.Saved ∷ told) ≡ next
    first_both l p =
        ap (λ b. b && nat_lt 0 (events.ack_count told + 1)) (a.ready ∙ sym (ready_unheard j entry past same))
        ∙ ap (λ n. is_ready j (entry ∷ past) && nat_lt 0 (n + 1)) a.acked
        ∙ ap (λ n. is_ready j (entry ∷ past) && nat_lt 0 n) (sym saves_more)
        ∙ sym (and_true (is_ready j (entry ∷ past) && nat_lt 0 (saves_of j (entry ∷ past))) (nat_lt 0 (length j.task.plan)) (lt-ltb 0 (length j.task.plan) p))
        ∙ sym (next_first j (is_acknowledging j (entry ∷ past)) (is_ready j (entry ∷ past)) (saves_of j (entry ∷ past)) gone (gone_length ∙ l))

    -- a later one comes to stand for both
    later_both : (m : ℕ) → length (requests j past) ≡ suc m → stands_at j.task (suc m) (event.Saved ∷ told) ≡ next
    later_both m l =
        let q = some_at (requests j past) m (omega (arith, l)) in
        let is : slice_get gone m ≡ Some (goes_on j entry past q.0) = mapped (requests j past) m q.0 q.1 in
        let known_last : core.is_passed_in (core.after j.task m told) ≡ is_last_passed j 0 gone
        = known j m (goes_on j entry past q.0) (core.after j.task m told) (and_on (core.after j.task m told) (a.standing m q.0 q.1) (λ later b. on_nothing j entry past m later q.0 same b))
        ∙ sym (last_at j 0 m gone (goes_on j entry past q.0) is (gone_length ∙ l) ∙ zero_more m (goes_on j entry past q.0)) in
        ap (λ x. (events.ack_count told == m + 1 && x) && nat_lt (m + 1) (length j.task.plan)) known_last
        ∙ ap (λ n. (n == m + 1 && is_last_passed j 0 gone) && nat_lt (m + 1) (length j.task.plan)) a.acked
        ∙ ap (λ b. (b && is_last_passed j 0 gone) && nat_lt (m + 1) (length j.task.plan)) (same_number (saves_of j past) m)
        ∙ ap (λ n. (n == suc m + 1 && is_last_passed j 0 gone) && nat_lt (m + 1) (length j.task.plan)) (sym saves_more)
        ∙ ap (λ b. b && nat_lt (m + 1) (length j.task.plan)) (swap (saves_of j (entry ∷ past) == suc m + 1) (is_last_passed j 0 gone))
        ∙ ap (λ n. (is_last_passed j 0 gone && saves_of j (entry ∷ past) == suc m + 1) && nat_lt n (length j.task.plan)) (let n : m + 1 ≡ suc m = omega arith in n)
        ∙ sym (next_after j (is_ready j (entry ∷ past)) (saves_of j (entry ∷ past)) m gone (gone_length ∙ l))
        ∙ ap (λ b. is_next j b (is_ready j (entry ∷ past)) (saves_of j (entry ∷ past)) gone) (sym acks)
      where
        swap : (x y : Bool) → (x && y) ≡ (y && x)
        swap true true = refl
        swap true false = refl
        swap false true = refl
        swap false false = refl

        zero_more : (i : ℕ) (r : Request) → is_passed j (0 + i) r ≡ is_passed j i r
        zero_more i r = let n : 0 + i ≡ i = omega arith in ap (λ x. is_passed j x r) n

        mapped : (rs : List Request) (i : ℕ) (r : Request) → slice_get rs i ≡ Some r → slice_get (map (goes_on j entry past) rs) i ≡ Some (goes_on j entry past r)
        mapped [] i r e = cc
        mapped (x ∷ rs) zero r e = ap (option_map (goes_on j entry past)) e
        mapped (x ∷ rs) (suc i) r e = mapped rs i r e

        and_on : {P : List Event → Type 0} {Q : List Event → Type 0} (o : Option (List Event)) → IsSomeAnd o P → ((later : List Event) → P later → Q later) → IsSomeAnd o Q
        and_on None h f = absurd h
        and_on (Some later) h f = f later h

    -- the next request comes to stand for both
    next_both : length (requests j past) < length j.task.plan → stands_at j.task (length (requests j past)) (event.Saved ∷ told) ≡ next
    next_both p = by (length (requests j past)) refl p
      where
        by : (n : ℕ) → length (requests j past) ≡ n → n < length j.task.plan → stands_at j.task n (event.Saved ∷ told) ≡ next
        by zero l p = first_both l p
        by (suc m) l p = later_both m l

    saved_on : (k : ℕ) (r : Request) (later : List Event) → AgreesOn j k later r → AgreesOn j k (event.Saved ∷ later) r
    saved_on k r later b = record { idle = b.idle; reply = b.reply }

    -- a request that stood before stands on
    old_on : (k : ℕ) (r : Request) → slice_get gone k ≡ Some r → IsSomeAnd (core.after j.task k (event.Saved ∷ told)) (λ later. AgreesOn j k later r)
    old_on k r h =
        let q = get_mapped (goes_on j entry past) (requests j past) k r h in
        subst (λ x. IsSomeAnd x (λ later. AgreesOn j k later r)) (sym (after_more j.task k event.Saved told))
        (some_more (λ later. AgreesOn j k later q.0) (λ later. AgreesOn j k later r) (stands_at j.task k) event.Saved told (core.after j.task k told) (a.standing k q.0 q.1)
        (λ later b. saved_on k r later (subst (λ x. AgreesOn j k later x) (sym q.2) (on_nothing j entry past k later q.0 same b))))

    -- one that comes to stand does so for both
    new_on : next ≡ true → length (requests j past) < length j.task.plan → IsSomeAnd (core.after j.task (length (requests j past)) (event.Saved ∷ told)) (λ later. AgreesOn j (length (requests j past)) later fresh_one)
    new_on e p =
        let k = length (requests j past) in
        subst (λ x. IsSomeAnd x (λ later. AgreesOn j k later fresh_one)) (sym (after_more j.task k event.Saved told))
        (some_now (λ later. AgreesOn j k later fresh_one) (stands_at j.task k) event.Saved told (core.after j.task k told) (a.none k p (omega arith)) (next_both p ∙ e)
        (record { idle = refl; reply = refl }))

    -- the plan goes on where the next request comes to stand
    next_planned : next ≡ true → length (requests j past) < length j.task.plan
    next_planned e = by (length (requests j past)) refl
      where
        by : (n : ℕ) → length (requests j past) ≡ n → n < length j.task.plan
        by zero l =
            ltb-true 0 (length j.task.plan) (and_parts (is_ready j (entry ∷ past) && nat_lt 0 (saves_of j (entry ∷ past))) (nat_lt 0 (length j.task.plan))
            (sym (next_first j (is_acknowledging j (entry ∷ past)) (is_ready j (entry ∷ past)) (saves_of j (entry ∷ past)) gone (gone_length ∙ l)) ∙ e)).1
        by (suc m) l =
            ltb-true (suc m) (length j.task.plan) (and_parts (is_last_passed j 0 gone && saves_of j (entry ∷ past) == suc m + 1) (nat_lt (suc m) (length j.task.plan))
            (sym (next_after j (is_ready j (entry ∷ past)) (saves_of j (entry ∷ past)) m gone (gone_length ∙ l)) ∙ ap (λ b. is_next j b (is_ready j (entry ∷ past)) (saves_of j (entry ∷ past)) gone) (sym acks) ∙ e)).1

    all_standing : (k : ℕ) (r : Request) → slice_get (requests j (entry ∷ past)) k ≡ Some r → IsSomeAnd (core.after j.task k (event.Saved ∷ told)) (λ later. AgreesOn j k later r)
    all_standing k r h = elim (cases_Bool next) [
      | inl e ↦ one_of k r e (get_pushed gone fresh_one k r (ap (λ rs. slice_get rs k) (sym (cond-true next (gone ++ fresh_one ∷ []) gone e)) ∙ h))
      | inr e ↦ old_on k r (ap (λ rs. slice_get rs k) (sym (cond-false next (gone ++ fresh_one ∷ []) gone e)) ∙ h)
    ]
      where
        one_of : (k : ℕ) (r : Request) → next ≡ true → IsIn gone fresh_one k r → IsSomeAnd (core.after j.task k (event.Saved ∷ told)) (λ later. AgreesOn j k later r)
        one_of k r e (before f) = old_on k r f
        one_of k r e (last f g) =
            let n : k ≡ length (requests j past) = f ∙ gone_length in
            subst (λ i. IsSomeAnd (core.after j.task i (event.Saved ∷ told)) (λ later. AgreesOn j i later r)) (sym n)
            (subst (λ x. IsSomeAnd (core.after j.task (length (requests j past)) (event.Saved ∷ told)) (λ later. AgreesOn j (length (requests j past)) later x)) (sym g) (new_on e (next_planned e)))

    all_none : (k : ℕ) → k < length j.task.plan → length (requests j (entry ∷ past)) ≤ k → core.after j.task k (event.Saved ∷ told) ≡ None
    all_none k p h = elim (cases_Bool next) [
      | inl e ↦
          let l : length (requests j (entry ∷ past)) ≡ length (requests j past) + 1 = ap length (cond-true next (gone ++ fresh_one ∷ []) gone e) ∙ length_push gone fresh_one ∙ ap (λ n. n + 1) gone_length in
          none_by k p (omega (arith, l, h)) (none_beyond k p (omega (arith, l, h)) a)
      | inr e ↦
          let l : length (requests j (entry ∷ past)) ≡ length (requests j past) = ap length (cond-false next (gone ++ fresh_one ∷ []) gone e) ∙ gone_length in
          let m : length (requests j past) ≤ k = omega (arith, l, h) in
          none_by k p m (elim (cases_lt (length (requests j past)) k) [
            | inl above ↦ none_beyond k p above a
            | inr below ↦
                let n : k ≡ length (requests j past) = omega (arith, below, m) in
                ap (λ i. stands_at j.task i (event.Saved ∷ told)) n ∙ next_both (subst (λ i. i < length j.task.plan) n p) ∙ e
          ])
    ]
      where
        none_by : (k : ℕ) → k < length j.task.plan → length (requests j past) ≤ k → stands_at j.task k (event.Saved ∷ told) ≡ false → core.after j.task k (event.Saved ∷ told) ≡ None
        none_by k p m e = after_more j.task k event.Saved told ∙ none_more (stands_at j.task k) event.Saved told (core.after j.task k told) (a.none k p m) e

    -- an acknowledgement that is told keeps the agreement
    pub agree_saved : Agrees j (event.Saved ∷ told) (entry ∷ past)
    agree_saved = record {
      acked = ap (λ n. n + 1) a.acked ∙ sym saves_more;
      ready = a.ready ∙ sym (ready_unheard j entry past same);
      standing = all_standing;
      none = all_none;
    }

-- before anything they agree
pub agree_first : (j : Job) → Agrees j [] []
agree_first j = record {
  acked = refl;
  ready = refl;
  standing = λ k r h. cc;
  none = λ k p h. by k;
}
  where
    by : (k : ℕ) → core.after j.task k [] ≡ None
    by zero = refl
    by (suc k) = refl
