-- The asking, and the numbers of messages, go on with the journal.
use Rattle.std.proofs.Common.{◌≡◌, ◌⊎◌, inl, inr, ℕ, ◌+◌, List, [], ◌∷◌, ◌++◌, length, map, Bool, true, false, ◌&&◌, ◌||◌, not, cond, Option, Some, None, refl, sym, ◌∙◌, ap, arith, add-zero, length-append}
use Rattle.std.specs.Prelude.{count_by, nat_lt, is_some, if◌then◌else◌}
use Rattle.std.specs.List.{list_any}
use Rattle.std.proofs.Math.Bool.{or-false, or_assoc}
use Rattle.std.proofs.lemmas.Bool.{and_left, cond-true, cond-false, cond_both, lt-ltb, le-ltb}
use Rattle.std.proofs.lemmas.List.{length-map}
use Rattle.std.proofs.lemmas.List.Folds.{list_any-append}
use Rattle.std.proofs.lemmas.List.Sums.{sum_by-append}
use Rattle.world.specs.declared.chan.Chan.TheVariants.{Shell, Iopub}
use Rattle.world.specs.declared.entry.Entry.{Entry}
use Rattle.world.specs.declared.entry.Entry.TheVariants as made
use Rattle.world.specs.Places.{time}
use Rattle.world.specs.Waits.{moment_of}
use Rattle.kernel_talk.specs.Asking.{Asked, asks, answered_by}
use Rattle.kernel_talk.specs.Requests.{Identity}
use Rattle.run_journal.specs.Codec.{Arrival, Info, Execute, Interrupt, Ping}
use Rattle.run_journal.specs.Job.{Job}
use Rattle.run_journal.specs.Parts.{saves_of, is_acknowledging}
use Rattle.run_journal.specs.Arrivals.{answers, arrive, ask_on, ask_state, can_ask, has_some, is_asked, is_info_reply, is_ready, tells}
use Rattle.run_journal.specs.Requests.{Request, count_queued, deadline, goes_on, is_broken, is_interrupted, is_just_out, is_next, reply, requests}
use Rattle.run_journal.specs.Looks.{is_lost, pings}
use Rattle.run_journal.specs.Queue.{Queued, count_messages, grown, news}
use Rattle.run_journal.proofs.AlikeLooks.{arrive_nothing}
use Rattle.run_journal.proofs.Hearing.{none_unready}
use Rattle.job_journal.specs.Talk.{OnTalk, has_number, heard_on_shell, heard_on_iopub}
use Rattle.job_journal.specs.Used.{anew}

-- ---- asking

none_none : (a : Asked) (can : Bool) (id : List ℕ) (shell iopub : List Arrival) → ask_on a can None id shell iopub ≡ heard_on_iopub (heard_on_shell a shell) iopub
unfolding ask_on
none_none a can id shell iopub = refl

-- an entry that isn't of the clock: the asking goes on by what arrives
pub asks_on : (j : Job) (entry : Entry) (past : List Entry) → moment_of entry ≡ None
    → ask_state j (entry ∷ past) ≡ heard_on_iopub (heard_on_shell (ask_state j past) (arrive j Shell entry past)) (arrive j Iopub entry past)
asks_on j entry past e =
    ap (λ o. ask_on (ask_state j past) (can_ask j past) o (j.msg_id (length (ask_state j past).ids + 1)) (arrive j Shell entry past) (arrive j Iopub entry past)) e
    ∙ none_none (ask_state j past) (can_ask j past) (j.msg_id (length (ask_state j past).ids + 1)) (arrive j Shell entry past) (arrive j Iopub entry past)

-- one more message on shell
more_on_shell : (a : Asked) (ms : List Arrival) (m : Arrival) → heard_on_shell a (ms ++ m ∷ []) ≡ record { ids = a.ids; at = a.at; told = (a.told || list_any (tells a.ids) ms) || tells a.ids m; heard = a.heard }
more_on_shell a ms m =
    ap (λ b. record { ids = a.ids; at = a.at; told = b; heard = a.heard })
    (ap (λ b. a.told || b) (list_any-append (tells a.ids) ms (m ∷ []) ∙ ap (λ b. list_any (tells a.ids) ms || b) (or-false (tells a.ids m)))
    ∙ sym (or_assoc a.told (list_any (tells a.ids) ms) (tells a.ids m)))

-- a `kernel_info_reply` with a parent is noted
pub shell_answers : (a : Asked) (ms : List Arrival) (m : Arrival) (parent : List ℕ) → is_info_reply m.content ≡ true → m.parent ≡ Some parent
    → heard_on_shell a (ms ++ m ∷ []) ≡ answered_by (heard_on_shell a ms) parent
shell_answers a ms m parent e f =
    more_on_shell a ms m
    ∙ ap (λ b. record { ids = a.ids; at = a.at; told = (a.told || list_any (tells a.ids) ms) || (b && answers a.ids m.parent); heard = a.heard }) e
    ∙ ap (λ o. record { ids = a.ids; at = a.at; told = (a.told || list_any (tells a.ids) ms) || answers a.ids o; heard = a.heard }) f

-- another message on shell changes nothing of the asking
pub shell_passes : (a : Asked) (ms : List Arrival) (m : Arrival) → (is_info_reply m.content ≡ false) ⊎ (m.parent ≡ None) → heard_on_shell a (ms ++ m ∷ []) ≡ heard_on_shell a ms
shell_passes a ms m h =
    more_on_shell a ms m
    ∙ ap (λ b. record { ids = a.ids; at = a.at; told = (a.told || list_any (tells a.ids) ms) || b; heard = a.heard }) (by h)
    ∙ ap (λ b. record { ids = a.ids; at = a.at; told = b; heard = a.heard }) (or-false (a.told || list_any (tells a.ids) ms))
  where
    none : (b : Bool) → (b && false) ≡ false
    none true = refl
    none false = refl

    by : (is_info_reply m.content ≡ false) ⊎ (m.parent ≡ None) → tells a.ids m ≡ false
    by (inl e) = ap (λ b. b && answers a.ids m.parent) e
    by (inr e) = ap (λ o. is_info_reply m.content && answers a.ids o) e ∙ none (is_info_reply m.content)

some_more : (ms : List Arrival) (m : Arrival) → has_some (ms ++ m ∷ []) ≡ true
some_more [] m = refl
some_more (x ∷ ms) m = refl

or_true : (b : Bool) → (b || true) ≡ true
or_true true = refl
or_true false = refl

-- a message on IOPub is noted
pub iopub_heard : (a : Asked) (ms : List Arrival) (m : Arrival) → heard_on_iopub a (ms ++ m ∷ []) ≡ record { ids = a.ids; at = a.at; told = a.told; heard = true }
iopub_heard a ms m = ap (λ b. record { ids = a.ids; at = a.at; told = a.told; heard = a.heard || b }) (some_more ms m) ∙ ap (λ b. record { ids = a.ids; at = a.at; told = a.told; heard = b }) (or_true a.heard)

clocked : (a : Asked) (can : Bool) (ms : ℕ) (id : List ℕ) → ask_on a can (Some ms) id [] [] ≡ (if asks a can ms then record { ids = a.ids ++ id ∷ []; at = Some ms; told = a.told; heard = a.heard } else a)
unfolding ask_on
clocked a can ms id =
    ap (λ b. record { ids = cond (asks a can ms) (a.ids ++ id ∷ []) a.ids; at = cond (asks a can ms) (Some ms) a.at; told = b; heard = a.heard || false }) (or-false a.told)
    ∙ ap (λ b. record { ids = cond (asks a can ms) (a.ids ++ id ∷ []) a.ids; at = cond (asks a can ms) (Some ms) a.at; told = a.told; heard = b }) (or-false a.heard)
    ∙ by (asks a can ms)
  where
    by : (b : Bool) → record { ids = cond b (a.ids ++ id ∷ []) a.ids; at = cond b (Some ms) a.at; told = a.told; heard = a.heard } ≡ cond b (record { ids = a.ids ++ id ∷ []; at = Some ms; told = a.told; heard = a.heard }) a
    by true = refl
    by false = refl

-- a clock entry: a kernel that can be asked is asked where the gap has passed
pub asks_at : (j : Job) (ms : ℕ) (past : List Entry)
    → ask_state j (made.Moment ms ∷ past)
    ≡ (if asks (ask_state j past) (can_ask j past) ms
    then record { ids = (ask_state j past).ids ++ j.msg_id (length (ask_state j past).ids + 1) ∷ []; at = Some ms; told = (ask_state j past).told; heard = (ask_state j past).heard }
    else ask_state j past)
asks_at j ms past =
    let a : Asked = ask_state j past in
    let id : List ℕ = j.msg_id (length a.ids + 1) in
    ap (λ xs. ask_on a (can_ask j past) (Some ms) id xs (arrive j Iopub (made.Moment ms) past)) (arrive_nothing j (made.Moment ms) past Shell refl)
    ∙ ap (λ xs. ask_on a (can_ask j past) (Some ms) id [] xs) (arrive_nothing j (made.Moment ms) past Iopub refl)
    ∙ clocked a (can_ask j past) ms id

-- ---- numbers, where no interrupt is asked for

pub counted : {X : Type 0} (f : X → Bool) (xs ys : List X) → count_by f (xs ++ ys) ≡ count_by f xs + count_by f ys
counted f xs ys = sum_by-append (λ x. cond (f x) 1 0) xs ys

one_counted : {X : Type 0} (f : X → Bool) (x : X) → count_by f (x ∷ []) ≡ cond (f x) 1 0
one_counted f x = by (f x)
  where
    by : (b : Bool) → 0 + cond b 1 0 ≡ cond b 1 0
    by true = refl
    by false = refl

first_counted : {X : Type 0} (f : X → Bool) (x : X) (xs : List X) → count_by f (x ∷ xs) ≡ cond (f x) 1 0 + count_by f xs
first_counted f x xs = counted f (x ∷ []) xs ∙ ap (λ n. n + count_by f xs) (one_counted f x)

-- with an entry at most one request comes to stand
pub requests_grow : (j : Job) (entry : Entry) (past : List Entry)
    → (length (requests j (entry ∷ past)) ≡ length (requests j past)) ⊎ (length (requests j (entry ∷ past)) ≡ length (requests j past) + 1)
requests_grow j entry past =
    let rs : List Request = map (goes_on j entry past) (requests j past) in
    let same : length rs ≡ length (requests j past) = length-map (requests j past) (goes_on j entry past) in
    cond_both (is_next j (is_acknowledging j (entry ∷ past)) (is_ready j (entry ∷ past)) (saves_of j (entry ∷ past)) rs)
    (rs ++ anew j entry past ∷ []) rs (λ ss. (length ss ≡ length (requests j past)) ⊎ (length ss ≡ length (requests j past) + 1))
    (λ e. inr (length-append rs (anew j entry past ∷ []) ∙ ap (λ n. n + 1) same)) (λ e. inl same)

module _ (j : Job) (plain : j.task.times.interrupt ≡ false) where
  pub never : (now : List Entry) (r : Request) → is_interrupted j now r ≡ false
  unfolding is_interrupted
  never now r =
      and_left (((j.task.times.interrupt && not (is_some (reply r))) && is_just_out j now (deadline j r)) && not (is_broken j now)) (not (is_lost j now))
      (and_left ((j.task.times.interrupt && not (is_some (reply r))) && is_just_out j now (deadline j r)) (not (is_broken j now))
      (and_left (j.task.times.interrupt && not (is_some (reply r))) (is_just_out j now (deadline j r))
      (and_left j.task.times.interrupt (not (is_some (reply r))) plain)))

  flag_stays : (entry : Entry) (past : List Entry) (r : Request) → (goes_on j entry past r).interrupted ≡ r.interrupted
  flag_stays entry past r = ap (λ b. r.interrupted || b) (never (entry ∷ past) _) ∙ or-false r.interrupted

  none_flagged : (entry : Entry) (past : List Entry) (rs : List Request)
      → count_by (λ (r : Request). r.interrupted) (map (goes_on j entry past) rs) ≡ count_by (λ (r : Request). r.interrupted) rs
  none_flagged entry past [] = refl
  none_flagged entry past (r ∷ rs) =
      first_counted (λ (r : Request). r.interrupted) (goes_on j entry past r) (map (goes_on j entry past) rs)
      ∙ ap (λ b. cond b 1 0 + count_by (λ (r : Request). r.interrupted) (map (goes_on j entry past) rs)) (flag_stays entry past r)
      ∙ ap (λ n. cond r.interrupted 1 0 + n) (none_flagged entry past rs)
      ∙ sym (first_counted (λ (r : Request). r.interrupted) r rs)

  anew_unflagged : (entry : Entry) (past : List Entry) → (anew j entry past).interrupted ≡ false
  anew_unflagged entry past = never (entry ∷ past) _

  one_unflagged : (entry : Entry) (past : List Entry) (rs : List Request)
      → count_by (λ (r : Request). r.interrupted) (rs ++ anew j entry past ∷ []) ≡ count_by (λ (r : Request). r.interrupted) rs
  one_unflagged entry past rs =
      counted (λ (r : Request). r.interrupted) rs (anew j entry past ∷ [])
      ∙ ap (λ n. count_by (λ (r : Request). r.interrupted) rs + n) (one_counted (λ (r : Request). r.interrupted) (anew j entry past) ∙ ap (λ b. cond b 1 0) (anew_unflagged entry past))
      ∙ add-zero (count_by (λ (r : Request). r.interrupted) rs)

  -- no interrupt is queued
  pub no_interrupts : (past : List Entry) → count_by (λ (r : Request). r.interrupted) (requests j past) ≡ 0
  no_interrupts [] = refl
  no_interrupts (entry ∷ past) =
      let rs : List Request = map (goes_on j entry past) (requests j past) in
      let none : count_by (λ (r : Request). r.interrupted) rs ≡ 0 = none_flagged entry past (requests j past) ∙ no_interrupts past in
      cond_both (is_next j (is_acknowledging j (entry ∷ past)) (is_ready j (entry ∷ past)) (saves_of j (entry ∷ past)) rs)
      (rs ++ anew j entry past ∷ []) rs (λ ss. count_by (λ (r : Request). r.interrupted) ss ≡ 0)
      (λ e. one_unflagged entry past rs ∙ none) (λ e. none)

  -- a request that comes to stand while nothing more is asked has the number after those of all messages queued before
  pub anew_number : (entry : Entry) (past : List Entry) → (ask_state j (entry ∷ past)).ids ≡ (ask_state j past).ids → (anew j entry past).number ≡ count_messages j past + 1
  anew_number entry past same =
      ap (λ ids. count_queued (length ids) (map (goes_on j entry past) (requests j past)) + 1) same
      ∙ ap (λ n. ((length (ask_state j past).ids + n) + count_by (λ (r : Request). r.interrupted) (map (goes_on j entry past) (requests j past))) + 1) (length-map (requests j past) (goes_on j entry past))
      ∙ ap (λ n. ((length (ask_state j past).ids + length (requests j past)) + n) + 1) (none_flagged entry past (requests j past))

  -- the first messages of a job are its questions: while the kernel isn't ready no other was queued
  pub asked_number : (past : List Entry) → is_ready j past ≡ false → count_messages j past ≡ length (ask_state j past).ids
  asked_number past e =
      let none = none_unready j past e in
      ap (count_queued (length (ask_state j past).ids)) none ∙ ap (λ n. n + 0) (add-zero (length (ask_state j past).ids)) ∙ add-zero (length (ask_state j past).ids)

  -- ---- how many were queued

  numbered_grown : (a b : ℕ) (q : Queued) → has_number q ≡ true → (b ≡ a) ⊎ (b ≡ a + 1) → b ≡ a + count_by has_number (grown a b q)
  numbered_grown a b q h (inl e) =
      let none : grown a b q ≡ [] = cond-false (nat_lt a b) (q ∷ []) [] (le-ltb a b (omega (arith, e))) in
      e ∙ sym (ap (λ qs. a + count_by has_number qs) none ∙ add-zero a)
  numbered_grown a b q h (inr e) =
      let one : grown a b q ≡ q ∷ [] = cond-true (nat_lt a b) (q ∷ []) [] (lt-ltb a b (omega (arith, e))) in
      e ∙ sym (ap (λ qs. a + count_by has_number qs) one ∙ ap (λ n. a + n) (one_counted has_number q ∙ ap (λ x. cond x 1 0) h))

  pub unnumbered : (a b : ℕ) (q : Queued) → has_number q ≡ false → count_by has_number (grown a b q) ≡ 0
  unnumbered a b q h = cond_both (nat_lt a b) (q ∷ []) [] (λ qs. count_by has_number qs ≡ 0) (λ e. one_counted has_number q ∙ ap (λ x. cond x 1 0) h) (λ e. refl)

  ids_grow : (a : Asked) (can : Bool) (clock : Option ℕ) (id : List ℕ) (shell iopub : List Arrival)
      → (length (ask_on a can clock id shell iopub).ids ≡ length a.ids) ⊎ (length (ask_on a can clock id shell iopub).ids ≡ length a.ids + 1)
  unfolding ask_on
  ids_grow a can clock id shell iopub =
      cond_both (is_asked can a clock) (a.ids ++ id ∷ []) a.ids (λ ids. (length ids ≡ length a.ids) ⊎ (length ids ≡ length a.ids + 1))
      (λ e. inr (length-append a.ids (id ∷ []))) (λ e. inl refl)

  -- with an entry the count of messages grows by those that are queued at it
  pub counts_on : (entry : Entry) (past : List Entry) → count_messages j (entry ∷ past) ≡ count_messages j past + count_by has_number (news j (entry ∷ past) past)
  counts_on entry past =
      let now : List Entry = entry ∷ past in
      let a : ℕ = length (ask_state j past).ids in
      let b : ℕ = length (ask_state j now).ids in
      let n : ℕ = length (requests j past) in
      let m : ℕ = length (requests j now) in
      let I : List Queued = grown a b (record { what = Info; number = count_messages j past + 1; date = time now }) in
      let E : List Queued = grown n m (record { what = Execute n; number = count_messages j past + 1; date = time now }) in
      let f : ℕ = count_by (λ (r : Request). r.interrupted) (requests j past) in
      let g : ℕ = count_by (λ (r : Request). r.interrupted) (requests j now) in
      let T : List Queued = grown f g (record { what = Interrupt; number = count_messages j past + 1; date = time now }) in
      let P : List Queued = grown (length (pings j past).queued) (length (pings j now).queued) (record { what = Ping; number = 0; date = 0 }) in
      let i : b ≡ a + count_by has_number I
      = numbered_grown a b _ refl (ids_grow (ask_state j past) (can_ask j past) (moment_of entry) (j.msg_id (a + 1)) (arrive j Shell entry past) (arrive j Iopub entry past)) in
      let e : m ≡ n + count_by has_number E = numbered_grown n m _ refl (requests_grow j entry past) in
      let old : f ≡ 0 = no_interrupts past in
      let new : g ≡ 0 = no_interrupts now in
      let t : g ≡ f + count_by has_number T = numbered_grown f g _ refl (inl (new ∙ sym old)) in
      let p : count_by has_number P ≡ 0 = unnumbered _ _ _ refl in
      let all : count_by has_number (((I ++ E) ++ T) ++ P) ≡ ((count_by has_number I + count_by has_number E) + count_by has_number T) + count_by has_number P
      = counted has_number ((I ++ E) ++ T) P ∙ ap (λ x. x + count_by has_number P) (counted has_number (I ++ E) T ∙ ap (λ x. x + count_by has_number T) (counted has_number I E)) in
      sums b m g a n f (count_by has_number I) (count_by has_number E) (count_by has_number T) (count_by has_number P) (count_by has_number (((I ++ E) ++ T) ++ P)) i e t p all
    where
      sums : (b m g a n f i e t p x : ℕ) → b ≡ a + i → m ≡ n + e → g ≡ f + t → p ≡ 0 → x ≡ ((i + e) + t) + p → (b + m) + g ≡ ((a + n) + f) + x
      sums b m g a n f i e t p x k l o q r = omega (arith, k, l, o, q, r)

-- ---- what is queued at an entry

pub none_grown : (a b : ℕ) (q : Queued) → b ≡ a → grown a b q ≡ []
none_grown a b q e = cond-false (nat_lt a b) (q ∷ []) [] (le-ltb a b (omega (arith, e)))

pub one_grown : (a b : ℕ) (q : Queued) → b ≡ a + 1 → grown a b q ≡ q ∷ []
one_grown a b q e = cond-true (nat_lt a b) (q ∷ []) [] (lt-ltb a b (omega (arith, e)))

-- the four kinds of messages, where each list is known
pub four : (I E T P i e t p : List Queued) → I ≡ i → E ≡ e → T ≡ t → P ≡ p → ((I ++ E) ++ T) ++ P ≡ ((i ++ e) ++ t) ++ p
four I E T P i e t p f g h k = cc

module _ (j : Job) (plain : j.task.times.interrupt ≡ false) (entry : Entry) (past : List Entry) where
  abbrev now : List Entry
  now = entry ∷ past

  none_flagged_now : grown (count_by (λ (r : Request). r.interrupted) (requests j past)) (count_by (λ (r : Request). r.interrupted) (requests j now))
      (record { what = Interrupt; number = count_messages j past + 1; date = time now }) ≡ []
  none_flagged_now = none_grown _ _ _ (no_interrupts j plain now ∙ sym (no_interrupts j plain past))

  -- where neither the questions nor the requests nor the pings grow nothing is queued
  pub news_none : length (ask_state j now).ids ≡ length (ask_state j past).ids → length (requests j now) ≡ length (requests j past)
      → length (pings j now).queued ≡ length (pings j past).queued → news j now past ≡ []
  news_none a r p = four _ _ _ _ [] [] [] [] (none_grown _ _ _ a) (none_grown _ _ _ r) none_flagged_now (none_grown _ _ _ p)

  -- where a request comes to stand alone it is queued, with the next number
  pub news_request : length (ask_state j now).ids ≡ length (ask_state j past).ids → length (requests j now) ≡ length (requests j past) + 1
      → length (pings j now).queued ≡ length (pings j past).queued
      → news j now past ≡ record { what = Execute (length (requests j past)); number = count_messages j past + 1; date = time now } ∷ []
  news_request a r p =
      four _ _ _ _ [] (record { what = Execute (length (requests j past)); number = count_messages j past + 1; date = time now } ∷ []) [] []
      (none_grown _ _ _ a) (one_grown _ _ _ r) none_flagged_now (none_grown _ _ _ p)

  -- where the kernel is asked alone the question is queued, with the next number
  pub news_question : length (ask_state j now).ids ≡ length (ask_state j past).ids + 1 → length (requests j now) ≡ length (requests j past)
      → length (pings j now).queued ≡ length (pings j past).queued
      → news j now past ≡ record { what = Info; number = count_messages j past + 1; date = time now } ∷ []
  news_question a r p =
      four _ _ _ _ (record { what = Info; number = count_messages j past + 1; date = time now } ∷ []) [] [] []
      (one_grown _ _ _ a) (none_grown _ _ _ r) none_flagged_now (none_grown _ _ _ p)

-- ---- the talk

-- an entry: what is queued at it is unsent
pub talk_on : (j : Job) (old new : Asked) (session : Identity) (unsent : List Queued) (entry : Entry) (past : List Entry) → j.task.times.interrupt ≡ false
    → new ≡ ask_state j (entry ∷ past) → OnTalk j old session unsent past → OnTalk j new session (unsent ++ news j (entry ∷ past) past) (entry ∷ past)
talk_on j old new session unsent entry past plain asks t =
    let k : count_by has_number (unsent ++ news j (entry ∷ past) past) ≡ count_by has_number unsent + count_by has_number (news j (entry ∷ past) past)
    = counted has_number unsent (news j (entry ∷ past) past) in
    record {
      asks = asks;
      made = by session.made (count_by has_number unsent) (count_by has_number (news j (entry ∷ past) past)) (count_messages j past) (count_messages j (entry ∷ past)) _ t.made (counts_on j plain entry past) k;
    }
  where
    by : (s u n c d x : ℕ) → s + u ≡ c → d ≡ c + n → x ≡ u + n → s + x ≡ d
    by s u n c d x e f g = omega (arith, e, f, g)

-- a message with a number is made
pub talk_makes : (j : Job) (asking : Asked) (old new : Identity) (q : Queued) (unsent : List Queued) (now : List Entry) → has_number q ≡ true → new.made ≡ old.made + 1
    → OnTalk j asking old (q ∷ unsent) now → OnTalk j asking new unsent now
talk_makes j asking old new q unsent now h one t = record {
  asks = t.asks;
  made = by old.made new.made (count_by has_number unsent) (count_by has_number (q ∷ unsent)) (count_messages j now) one
      (first_counted has_number q unsent ∙ ap (λ b. cond b 1 0 + count_by has_number unsent) h) t.made;
}
  where
    by : (o n u x c : ℕ) → n ≡ o + 1 → x ≡ 1 + u → o + x ≡ c → n + u ≡ c
    by o n u x c e f g = omega (arith, e, f, g)

-- a ping has no number
pub talk_pings : (j : Job) (asking : Asked) (session : Identity) (q : Queued) (unsent : List Queued) (now : List Entry) → has_number q ≡ false
    → OnTalk j asking session (q ∷ unsent) now → OnTalk j asking session unsent now
talk_pings j asking session q unsent now h t = record {
  asks = t.asks;
  made = by session.made (count_by has_number unsent) (count_by has_number (q ∷ unsent)) (count_messages j now)
      (first_counted has_number q unsent ∙ ap (λ b. cond b 1 0 + count_by has_number unsent) h) t.made;
}
  where
    by : (s u x c : ℕ) → x ≡ 0 + u → s + x ≡ c → s + u ≡ c
    by s u x c f g = omega (arith, f, g)
