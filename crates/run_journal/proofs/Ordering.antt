-- Where a kernel sends the same bytes, cut and ordered in whatever way, the saves and the status are the same.
use Rattle.std.proofs.Common.{◌≡◌, inl, inr, ℕ, zero, suc, ◌+◌, List, [], ◌∷◌, ◌++◌, length, map, Bool, true, false, ◌&&◌, ◌||◌, not, cond, Option, Some, None, refl, sym, ◌∙◌, ap, subst}
use Rattle.std.specs.Prelude.{filter, nat_lt, is_some, slice_get, option_map, ◌==◌}
use Rattle.std.proofs.lemmas.List.{append-nil, map-append}
use Rattle.std.proofs.lemmas.Bool.{and_parts, cond-false, cond_both, cases_Bool, lt-ltb, eqb-true}
use Rattle.std.proofs.lemmas.Option.{same_Some}
use Rattle.world.specs.declared.chan.Chan.{Chan}
use Rattle.world.specs.declared.chan.Chan.TheVariants.{Shell, Iopub}
use Rattle.world.specs.declared.connected.Connected.{Connected}
use Rattle.world.specs.declared.connected.Connected.TheVariants as connected
use Rattle.world.specs.declared.did.Did.TheVariants.{Done as Did-Done, Failed}
use Rattle.world.specs.declared.entry.Entry.{Entry}
use Rattle.world.specs.declared.entry.Entry.TheVariants as made
use Rattle.world.specs.Places.{Status, is_at, status, connected_after, time}
use Rattle.cell_core.specs.declared.why.Why.{Why}
use Rattle.cell_core.specs.declared.why.Why.TheVariants as cause
use Rattle.out_fold.specs.declared.used.Used.{Used}
use Rattle.run_journal.specs.Codec.{Arrival}
use Rattle.run_journal.specs.Job.{Job, Given, Refuses, Prepares, Runs}
use Rattle.run_journal.specs.Parts.{place, connection, bytes_got, saves_of}
use Rattle.run_journal.specs.Arrivals.{heard, arrive, arrivals}
use Rattle.run_journal.specs.Requests.{Request, as_used, is_exec_reply, is_parent, through_idle, has_idle, own, first, reply, reply_date, use_of, used_of, is_over, is_fatal, is_passed, is_last_passed, requests, or_later, last_request}
use Rattle.run_journal.specs.Looks.{is_lost}
use Rattle.run_journal.specs.Why.{cause_if, is_done, is_error, is_not_ready, is_no_idle, is_timed_out, bad_stream, plan_end, why}
use Rattle.run_journal.specs.Saves.{Save, save, passes, is_marked, last_cell, stop_save, stopping, is_complete, closing, run_saves, saves_for, saves_by}
use Rattle.run_journal.specs.Decoding.{IsDecoding}
use Rattle.run_journal.specs.Due.{all_along}
use Rattle.run_journal.specs.Literal.{alone, later_with, is_for, is_reply_for}
use Rattle.run_journal.specs.Order.{is_nothing, begins_unread, AreLater, ComesLater, HasAnswered, SameBytes}
use Rattle.run_journal.proofs.Growth.{no_requests}
use Rattle.run_journal.proofs.Positions.{literal}
use Rattle.run_journal.proofs.Reading.{heard_more}
use Rattle.run_journal.proofs.Truths.{not_both}

-- ---- bytes are added

pub nothing_is : (bytes : List ℕ) → is_nothing bytes ≡ true → bytes ≡ []
nothing_is [] e = refl
nothing_is (b ∷ bytes) e = cc

nothing_new : (bytes : List ℕ) → is_nothing bytes ≡ true → [] ≡ bytes ++ []
nothing_new [] e = refl
nothing_new (b ∷ bytes) e = cc

-- the bytes are those before, and more
abbrev pub Adds : List ℕ → List ℕ → Type 0
Adds old new = (more : List ℕ) × (new ≡ old ++ more)

adds_none : (old : List ℕ) → Adds old old
adds_none old = ([], sym (append-nil old))

-- where one of two is chosen, each adds
adds_by : (b : Bool) (s t : Status) (old : List ℕ) → (b ≡ true → Adds old s.got) → Adds old t.got → Adds old (cond b s t).got
adds_by b s t old here away = cond_both b s t (λ (u : Status). Adds old u.got) here (λ e. away)

connect_adds : (how : Connected) (port clock : ℕ) (s : Status) → is_nothing s.got ≡ true → Adds s.got (connected_after how port clock s).got
connect_adds connected.Begun port clock s e = ([], nothing_new s.got e)
connect_adds connected.Refused port clock s e = ([], nothing_new s.got e)
connect_adds connected.Failed port clock s e = ([], nothing_new s.got e)

implied : (b x : Bool) → cond b x true ≡ true → b ≡ true → x ≡ true
implied true x e f = e
implied false x e f = cc

pub bytes_more : (j : Job) (c : Chan) (entry : Entry) (past : List Entry) → begins_unread j c (entry ∷ past) ≡ true → Adds (bytes_got j c past) (bytes_got j c (entry ∷ past))
bytes_more j c (made.Connected conn port how) past e =
    adds_by (is_at (place j c) conn) (connected_after how port (time past) (connection j c past)) (connection j c past) (bytes_got j c past)
    (λ here. connect_adds how port (time past) (connection j c past) (implied (is_at (place j c) conn) (is_nothing (bytes_got j c past)) e here)) (adds_none (bytes_got j c past))
bytes_more j c (made.Closed conn) past e = adds_by (is_at (place j c) conn) _ (connection j c past) (bytes_got j c past) (λ here. adds_none (bytes_got j c past)) (adds_none (bytes_got j c past))
bytes_more j c (made.Got conn room bytes) past e = adds_by (is_at (place j c) conn) _ (connection j c past) (bytes_got j c past) (λ here. (bytes, refl)) (adds_none (bytes_got j c past))
bytes_more j c (made.Dry conn) past e = adds_by (is_at (place j c) conn) _ (connection j c past) (bytes_got j c past) (λ here. adds_none (bytes_got j c past)) (adds_none (bytes_got j c past))
bytes_more j c (made.Ended conn by) past e = adds_by (is_at (place j c) conn) _ (connection j c past) (bytes_got j c past) (λ here. adds_none (bytes_got j c past)) (adds_none (bytes_got j c past))
bytes_more j c (made.Refused conn by) past e = adds_by (is_at (place j c) conn) _ (connection j c past) (bytes_got j c past) (λ here. adds_none (bytes_got j c past)) (adds_none (bytes_got j c past))
bytes_more j c (made.ReadFailed conn) past e = adds_by (is_at (place j c) conn) _ (connection j c past) (bytes_got j c past) (λ here. adds_none (bytes_got j c past)) (adds_none (bytes_got j c past))
bytes_more j c (made.Put conn bytes) past e = adds_by (is_at (place j c) conn) _ (connection j c past) (bytes_got j c past) (λ here. adds_none (bytes_got j c past)) (adds_none (bytes_got j c past))
bytes_more j c (made.Stuck conn) past e = adds_by (is_at (place j c) conn) _ (connection j c past) (bytes_got j c past) (λ here. adds_none (bytes_got j c past)) (adds_none (bytes_got j c past))
bytes_more j c (made.PutFailed conn) past e = adds_by (is_at (place j c) conn) _ (connection j c past) (bytes_got j c past) (λ here. adds_none (bytes_got j c past)) (adds_none (bytes_got j c past))
bytes_more j c (made.Waited ms reports Did-Done) past e = adds_none (bytes_got j c past)
bytes_more j c (made.Waited ms reports Failed) past e = adds_none (bytes_got j c past)
bytes_more j c _ past e = adds_none (bytes_got j c past)

-- ---- what arrived is what was heard

alone_at : (n : ℕ) (ms : List Arrival) → alone (map (λ m. (n, m)) ms) ≡ ms
alone_at n [] = refl
alone_at n (m ∷ ms) = ap (λ v. m ∷ v) (alone_at n ms)

-- all that arrived is what the bytes hold, where a connection is begun only before it is read
pub all_heard : (j : Job) → IsDecoding j.codec → (c : Chan) (past : List Entry) → all_along (begins_unread j c) past ≡ true → alone (arrivals j c past) ≡ heard j c past
all_heard j d c [] e = sym (d.no_messages c)
all_heard j d c (entry ∷ past) e =
    let p = and_parts (begins_unread j c (entry ∷ past)) (all_along (begins_unread j c) past) e in
    let more = bytes_more j c entry past p.0 in
    map-append (λ a. a.1) (arrivals j c past) (map (λ m. (length past, m)) (arrive j c entry past))
    ∙ ap (λ v. v ++ alone (map (λ m. (length past, m)) (arrive j c entry past))) (all_heard j d c past p.1)
    ∙ ap (λ v. heard j c past ++ v) (alone_at (length past) (arrive j c entry past))
    ∙ sym (heard_more j d c entry past more.0 more.1)

-- where all that passes a test came later, it is all that passes the test
later_all : (test : Arrival → Bool) (start : ℕ) (xs : List (ℕ × Arrival)) (j : Job) (number : ℕ) → ((m : Arrival) → test m ≡ true → is_for j number m ≡ true) → AreLater j number start xs
    → later_with test start xs ≡ filter test (alone xs)
later_all test start [] j number f h = refl
later_all test start (x ∷ xs) j number f h = elim (cases_Bool (test x.1)) [
  | inl e ↦
      let l : nat_lt start x.0 ≡ true = lt-ltb start x.0 (h.0 (f x.1 e)) in
      by (nat_lt start x.0) (test x.1) l e (filter (λ a. nat_lt start a.0 && test a.1) xs) (filter test (alone xs)) (later_all test start xs j number f h.1)
  | inr e ↦ by_not (nat_lt start x.0) (test x.1) e (filter (λ a. nat_lt start a.0 && test a.1) xs) (filter test (alone xs)) (later_all test start xs j number f h.1)
]
  where
    by : (b p : Bool) → b ≡ true → p ≡ true → (ys : List (ℕ × Arrival)) (zs : List Arrival) → alone ys ≡ zs → alone (cond (b && p) (x ∷ ys) ys) ≡ cond p (x.1 ∷ zs) zs
    by true true e f ys zs h = ap (λ v. x.1 ∷ v) h
    by true false e f ys zs h = cc
    by false p e f ys zs h = cc

    by_not : (b p : Bool) → p ≡ false → (ys : List (ℕ × Arrival)) (zs : List Arrival) → alone ys ≡ zs → alone (cond (b && p) (x ∷ ys) ys) ≡ cond p (x.1 ∷ zs) zs
    by_not b true e ys zs h = cc
    by_not true false e ys zs h = h
    by_not false false e ys zs h = h

-- ---- requests for which the same came

-- what came for a request is what these lists hold for it
pub record Holds (j : Job) (iopub shell : List Arrival) (r : Request) : Type 0 where
  pub io : r.io ≡ filter (is_for j r.number) iopub
  pub replies : map (λ m. m.0) r.replies ≡ filter (is_reply_for j r.number) shell

-- so of each
abbrev HoldAll : Job → List Arrival → List Arrival → List Request → Type 0
HoldAll j iopub shell [] = Unit {0}
HoldAll j iopub shell (r ∷ rs) = Holds j iopub shell r × HoldAll j iopub shell rs

hold_all : (j : Job) (iopub shell : List Arrival) (rs : List Request) → ((i : ℕ) (r : Request) → slice_get rs i ≡ Some r → Holds j iopub shell r) → HoldAll j iopub shell rs
hold_all j iopub shell [] f = tt
hold_all j iopub shell (r ∷ rs) f = (f zero r refl, hold_all j iopub shell rs (λ i s e. f (suc i) s e))

-- in a journal where all came later, each request holds what was heard for it
pub all_hold : (j : Job) → IsDecoding j.codec → (past : List Entry) → all_along (begins_unread j Shell) past ≡ true → all_along (begins_unread j Iopub) past ≡ true → ComesLater j past
    → HoldAll j (heard j Iopub past) (heard j Shell past) (requests j past)
all_hold j d past shell iopub later = hold_all j (heard j Iopub past) (heard j Shell past) (requests j past) (λ i r e.
    let l = literal j past i r e in
    record {
      io = l.io
          ∙ later_all (is_for j r.number) l.start (arrivals j Iopub past) j r.number (λ m h. h) (later.io i r l.start e l.stands)
          ∙ ap (filter (is_for j r.number)) (all_heard j d Iopub past iopub);
      replies = l.replies
          ∙ later_all (is_reply_for j r.number) l.start (arrivals j Shell past) j r.number (λ m h. (and_parts (is_exec_reply m.content) (is_parent j r.number m.parent) h).1) (later.replies i r l.start e l.stands)
          ∙ ap (filter (is_reply_for j r.number)) (all_heard j d Shell past shell);
    })

-- the same came for two requests
pub record SameFor (r s : Request) : Type 0 where
  pub io : r.io ≡ s.io
  pub replies : map {B = Arrival} (λ m. m.0) r.replies ≡ map (λ m. m.0) s.replies

-- so of each
data SameForAll : List Request → List Request → Type 0 where
  ends : SameForAll [] []
  also : {r s : Request} {rs ss : List Request} → SameFor r s → SameForAll rs ss → SameForAll (r ∷ rs) (s ∷ ss)

same_for_all : (j : Job) (iopub shell : List Arrival) (rs ss : List Request) → map (λ (r : Request). r.number) rs ≡ map (λ (r : Request). r.number) ss
    → HoldAll j iopub shell rs → HoldAll j iopub shell ss → SameForAll rs ss
same_for_all j iopub shell [] [] e h k = ends
same_for_all j iopub shell [] (s ∷ ss) e h k = cc
same_for_all j iopub shell (r ∷ rs) [] e h k = cc
same_for_all j iopub shell (r ∷ rs) (s ∷ ss) e h k =
    let n : r.number ≡ s.number = head e in
    also (record {
      io = h.0.io ∙ ap (λ m. filter (is_for j m) iopub) n ∙ sym k.0.io;
      replies = h.0.replies ∙ ap (λ m. filter (is_reply_for j m) shell) n ∙ sym k.0.replies;
    }) (same_for_all j iopub shell rs ss (tail e) h.1 k.1)
  where
    head : {m n : ℕ} {ms ns : List ℕ} → ◌≡◌ {A = List ℕ} (m ∷ ms) (n ∷ ns) → m ≡ n
    head e = cc

    tail : {m n : ℕ} {ms ns : List ℕ} → ◌≡◌ {A = List ℕ} (m ∷ ms) (n ∷ ns) → ms ≡ ns
    tail e = cc

-- ---- they count the same

-- a reply without its clock
abbrev without_clock : Arrival × ℕ → Arrival
without_clock m = m.0

first_alone : (xs : List (Arrival × ℕ)) → option_map without_clock (first xs) ≡ first (map {B = Arrival} (λ m. m.0) xs)
first_alone [] = refl
first_alone (x ∷ xs) = refl

same_reply : (r s : Request) → SameFor r s → option_map without_clock (reply r) ≡ option_map without_clock (reply s)
same_reply r s h = first_alone r.replies ∙ ap first h.replies ∙ sym (first_alone s.replies)

some_alone : (o p : Option (Arrival × ℕ)) → option_map without_clock o ≡ option_map without_clock p → is_some o ≡ is_some p
some_alone None None e = refl
some_alone (Some m) (Some n) e = refl
some_alone None (Some n) e = cc
some_alone (Some m) None e = cc

fatal_alone : (j : Job) (k : ℕ) (o p : Option (Arrival × ℕ)) → option_map without_clock o ≡ option_map without_clock p → is_fatal j k o ≡ is_fatal j k p
fatal_alone j k None None e = refl
fatal_alone j k (Some m) (Some n) e = ap (λ (a : Arrival). j.fatal k a.content) (same_Some _ _ e)
fatal_alone j k None (Some n) e = cc
fatal_alone j k (Some m) None e = cc

date_alone : (o p : Option (Arrival × ℕ)) → option_map without_clock o ≡ option_map without_clock p → reply_date o ≡ reply_date p
date_alone None None e = refl
date_alone (Some m) (Some n) e = ap (λ (a : Arrival). a.date) (same_Some _ _ e)
date_alone None (Some n) e = cc
date_alone (Some m) None e = cc

same_over : (r s : Request) → SameFor r s → is_over r ≡ is_over s
same_over r s h = ap (λ ms. has_idle ms && is_some (reply r)) h.io ∙ ap (λ b. has_idle s.io && b) (some_alone (reply r) (reply s) (same_reply r s h))

same_passed : (j : Job) (k : ℕ) (r s : Request) → SameFor r s → is_passed j k r ≡ is_passed j k s
same_passed j k r s h =
    ap (λ b. b && not (is_fatal j k (reply r))) (same_over r s h)
    ∙ ap (λ b. is_over s && not b) (fatal_alone j k (reply r) (reply s) (same_reply r s h))

same_used : (i : ℕ) (r s : Request) → SameFor r s → use_of i r ≡ use_of i s
same_used i r s h =
    ap (λ (ms : List Arrival). record { cell = i; own = map as_used (through_idle ms); reply = reply_date (reply r) }) h.io
    ∙ ap (λ (o : Option (List ℕ)). record { cell = i; own = map as_used (own s); reply = o }) (date_alone (reply r) (reply s) (same_reply r s h))

same_length : {rs ss : List Request} → SameForAll rs ss → length rs ≡ length ss
same_length ends = refl
same_length (also h hs) = ap suc (same_length hs)

same_last : (j : Job) (k : ℕ) {rs ss : List Request} → SameForAll rs ss → is_last_passed j k rs ≡ is_last_passed j k ss
same_last j k ends = refl
same_last j k (also {r} {s} h ends) = same_passed j k r s h
same_last j k (also h (also g gs)) = same_last j (k + 1) (also g gs)

same_cell : (plan : List ℕ) {rs ss : List Request} → SameForAll rs ss → last_cell plan rs ≡ last_cell plan ss
same_cell [] ends = refl
same_cell [] (also h hs) = refl
same_cell (i ∷ plan) ends = refl
same_cell (i ∷ plan) (also h ends) = refl
same_cell (i ∷ plan) (also h (also g gs)) = same_cell plan (also g gs)

same_all_used : (plan : List ℕ) {rs ss : List Request} → SameForAll rs ss → used_of plan rs ≡ used_of plan ss
same_all_used [] ends = refl
same_all_used [] (also h hs) = refl
same_all_used (i ∷ plan) ends = refl
same_all_used (i ∷ plan) (also {r} {s} {rs} {ss} h hs) = ap (λ u. u ∷ used_of plan rs) (same_used i r s h) ∙ ap (λ us. use_of i s ∷ us) (same_all_used plan hs)

same_passes : (j : Job) (front : List Used) (k : ℕ) (plan : List ℕ) {rs ss : List Request} → SameForAll rs ss → passes j front k plan rs ≡ passes j front k plan ss
same_passes j front k [] ends = refl
same_passes j front k [] (also h hs) = refl
same_passes j front k (i ∷ plan) ends = refl
same_passes j front k (i ∷ plan) (also {r} {s} {rs} {ss} h hs) =
    ap (λ b. cond b (with_pass (use_of i r) rs) []) (same_passed j k r s h)
    ∙ ap (λ u. cond (is_passed j k s) (with_pass u rs) []) (same_used i r s h)
    ∙ ap (λ ps. cond (is_passed j k s) (save j (front ++ use_of i s ∷ []) (i + 1) None ∷ ps) []) (same_passes j (front ++ use_of i s ∷ []) (k + 1) plan hs)
  where
    with_pass : Used → List Request → List Save
    with_pass u ts = save j (front ++ u ∷ []) (i + 1) None ∷ passes j (front ++ u ∷ []) (k + 1) plan ts

same_complete : (j : Job) {rs ss : List Request} → SameForAll rs ss → is_complete j rs ≡ is_complete j ss
same_complete j {rs} {ss} h =
    ap (λ n. n == length j.task.plan && (length j.task.plan == 0 || is_last_passed j 0 rs)) (same_length h)
    ∙ ap (λ b. length ss == length j.task.plan && (length j.task.plan == 0 || b)) (same_last j 0 h)

same_stop : (j : Job) (w : Option Why) {rs ss : List Request} → SameForAll rs ss → stopping j rs w ≡ stopping j ss w
same_stop j w {rs} {ss} h =
    ap (λ b. cond (is_marked w && not b) (stop_save j rs (last_cell j.task.plan rs)) []) (same_last j 0 h)
    ∙ ap (λ o. cond (is_marked w && not (is_last_passed j 0 ss)) (stop_save j rs o) []) (same_cell j.task.plan h)
    ∙ ap (λ x. cond (is_marked w && not (is_last_passed j 0 ss)) x []) (stop_by (last_cell j.task.plan ss))
  where
    stop_by : (o : Option ℕ) → stop_save j rs o ≡ stop_save j ss o
    stop_by None = refl
    stop_by (Some i) = ap (λ us. save j us (i + 1) (Some i) ∷ []) (same_all_used j.task.plan h)

same_closing : (j : Job) {rs ss : List Request} → SameForAll rs ss → closing j rs ≡ closing j ss
same_closing j {rs} {ss} h =
    ap (λ b. cond (b && nat_lt (plan_end j.task.plan) j.task.cells) (save j (used_of j.task.plan rs) j.task.cells None ∷ []) []) (same_complete j h)
    ∙ ap (λ us. cond (is_complete j ss && nat_lt (plan_end j.task.plan) j.task.cells) (save j us j.task.cells None ∷ []) []) (same_all_used j.task.plan h)

same_run : (j : Job) (w : Option Why) {rs ss : List Request} → SameForAll rs ss → run_saves j rs w ≡ run_saves j ss w
same_run j w {rs} {ss} h =
    ap (λ ps. ((save j [] 0 None ∷ ps) ++ stopping j rs w) ++ closing j rs) (same_passes j [] 0 j.task.plan h)
    ∙ ap (λ xs. ((save j [] 0 None ∷ passes j [] 0 j.task.plan ss) ++ xs) ++ closing j rs) (same_stop j w h)
    ∙ ap (λ xs. ((save j [] 0 None ∷ passes j [] 0 j.task.plan ss) ++ stopping j ss w) ++ xs) (same_closing j h)

same_saves_for : (j : Job) (g : Given) (w : Option Why) {rs ss : List Request} → SameForAll rs ss → saves_for j g rs w ≡ saves_for j g ss w
same_saves_for j (Refuses status text) w h = refl
same_saves_for j (Prepares text) w h = refl
same_saves_for j Runs w h = same_run j w h

-- ---- why they ended

-- no later row says that the plan was executed
no_done : (b c d e f g : Bool)
    → or_later (cause_if b cause.CellError) (or_later (cause_if c cause.BadPeer) (or_later (cause_if d cause.KernelLost) (or_later (cause_if e cause.NotReady) (or_later (cause_if f cause.NoIdle) (cause_if g cause.TimedOut))))) ≡ Some cause.Done → ⊥
no_done true c d e f g h = cc
no_done false true d e f g h = cc
no_done false false true e f g h = cc
no_done false false false true f g h = cc
no_done false false false false true g h = cc
no_done false false false false false true h = cc
no_done false false false false false false h = cc

-- nor that a reply was fatal
no_error : (c d e f g : Bool)
    → or_later (cause_if c cause.BadPeer) (or_later (cause_if d cause.KernelLost) (or_later (cause_if e cause.NotReady) (or_later (cause_if f cause.NoIdle) (cause_if g cause.TimedOut)))) ≡ Some cause.CellError → ⊥
no_error true d e f g h = cc
no_error false true e f g h = cc
no_error false false true f g h = cc
no_error false false false true g h = cc
no_error false false false false true h = cc
no_error false false false false false h = cc

was_done : (a b c d e f g : Bool)
    → or_later (cause_if a cause.Done) (or_later (cause_if b cause.CellError) (or_later (cause_if c cause.BadPeer) (or_later (cause_if d cause.KernelLost) (or_later (cause_if e cause.NotReady) (or_later (cause_if f cause.NoIdle) (cause_if g cause.TimedOut)))))) ≡ Some cause.Done
    → a ≡ true
was_done true b c d e f g h = refl
was_done false b c d e f g h = absurd (no_done b c d e f g h)

was_error : (a b c d e f g : Bool)
    → or_later (cause_if a cause.Done) (or_later (cause_if b cause.CellError) (or_later (cause_if c cause.BadPeer) (or_later (cause_if d cause.KernelLost) (or_later (cause_if e cause.NotReady) (or_later (cause_if f cause.NoIdle) (cause_if g cause.TimedOut)))))) ≡ Some cause.CellError
    → (a ≡ false) × (b ≡ true)
was_error true b c d e f g h = cc
was_error false true c d e f g h = (refl, refl)
was_error false false c d e f g h = absurd (no_error c d e f g h)

done_is : (j : Job) (past : List Entry) → why j past ≡ Some cause.Done → is_done j (saves_of j past) (requests j past) ≡ true
done_is j past e =
    was_done (is_done j (saves_of j past) (requests j past)) (is_error j (last_request 0 (requests j past))) (is_some (bad_stream j past)) (is_lost j past)
    (is_not_ready j (requests j past) past) (is_no_idle j (last_request 0 (requests j past)) past) (is_timed_out j (last_request 0 (requests j past)) past) e

error_is : (j : Job) (past : List Entry) → why j past ≡ Some cause.CellError → (is_done j (saves_of j past) (requests j past) ≡ false) × (is_error j (last_request 0 (requests j past)) ≡ true)
error_is j past e =
    was_error (is_done j (saves_of j past) (requests j past)) (is_error j (last_request 0 (requests j past))) (is_some (bad_stream j past)) (is_lost j past)
    (is_not_ready j (requests j past) past) (is_no_idle j (last_request 0 (requests j past)) past) (is_timed_out j (last_request 0 (requests j past)) past) e

-- where the one is done, no reply of the other was fatal
never_mixed : (j : Job) (one two : List Entry) → SameForAll (requests j one) (requests j two) → why j one ≡ Some cause.Done → why j two ≡ Some cause.CellError → ⊥
never_mixed j one two h e f = elim (cases_Bool (length j.task.plan == 0)) [
  | inl empty ↦ no_last (last_request 0 (requests j two)) (ap (last_request 0) (no_requests j two (eqb-true (length j.task.plan) 0 empty))) (error_is j two f).1
  | inr some ↦
      let a : (length (requests j one) == length j.task.plan && is_last_passed j 0 (requests j one)) ≡ true = sym (cond-false (length j.task.plan == 0) _ _ some) ∙ done_is j one e in
      let b : (length (requests j two) == length j.task.plan && is_last_passed j 0 (requests j two)) ≡ false = sym (cond-false (length j.task.plan == 0) _ _ some) ∙ (error_is j two f).0 in
      let same : (length (requests j one) == length j.task.plan && is_last_passed j 0 (requests j one)) ≡ (length (requests j two) == length j.task.plan && is_last_passed j 0 (requests j two))
      = ap (λ n. n == length j.task.plan && is_last_passed j 0 (requests j one)) (same_length h) ∙ ap (λ x. length (requests j two) == length j.task.plan && x) (same_last j 0 h) in
      not_both (length (requests j two) == length j.task.plan && is_last_passed j 0 (requests j two)) (sym same ∙ a) b
]
  where
    no_last : (o : Option (ℕ × Request)) → o ≡ None → is_error j o ≡ true → ⊥
    no_last None e f = cc
    no_last (Some r) e f = cc

-- they ended by the same cause
same_why : (j : Job) (one two : List Entry) → SameForAll (requests j one) (requests j two) → SameForAll (requests j two) (requests j one) → HasAnswered j one → HasAnswered j two → why j one ≡ why j two
same_why j one two h k (inl e) (inl f) = e ∙ sym f
same_why j one two h k (inr e) (inr f) = e ∙ sym f
same_why j one two h k (inl e) (inr f) = absurd (never_mixed j one two h e f)
same_why j one two h k (inr e) (inl f) = absurd (never_mixed j two one k f e)

turned : {rs ss : List Request} → SameForAll rs ss → SameForAll ss rs
turned ends = ends
turned (also h hs) = also (record { io = sym h.io; replies = sym h.replies }) (turned hs)

-- the same requests stand, with the same for each
requests_same : (j : Job) → IsDecoding j.codec → (one two : List Entry)
    → all_along (begins_unread j Shell) one ≡ true → all_along (begins_unread j Iopub) one ≡ true → all_along (begins_unread j Shell) two ≡ true → all_along (begins_unread j Iopub) two ≡ true
    → SameBytes j one two → ComesLater j one → ComesLater j two → SameForAll (requests j one) (requests j two)
requests_same j d one two shell1 iopub1 shell2 iopub2 b l1 l2 =
    same_for_all j (heard j Iopub two) (heard j Shell two) (requests j one) (requests j two) b.numbers
    (subst (λ ms. HoldAll j ms (heard j Shell two) (requests j one)) (ap (j.codec.messages Iopub) b.iopub)
    (subst (λ ms. HoldAll j (heard j Iopub one) ms (requests j one)) (ap (j.codec.messages Shell) b.shell)
    (all_hold j d one shell1 iopub1 l1)))
    (all_hold j d two shell2 iopub2 l2)

-- Where the same bytes came, each message after its request stood, two runs that ended by themselves made the same saves, for
-- the same cause.
pub order_is_free : (j : Job) → IsDecoding j.codec → (one two : List Entry)
    → all_along (begins_unread j Shell) one ≡ true → all_along (begins_unread j Iopub) one ≡ true → all_along (begins_unread j Shell) two ≡ true → all_along (begins_unread j Iopub) two ≡ true
    → SameBytes j one two → ComesLater j one → ComesLater j two → HasAnswered j one → HasAnswered j two
    → (saves_by j one ≡ saves_by j two) × (why j one ≡ why j two)
order_is_free j d one two shell1 iopub1 shell2 iopub2 b l1 l2 a1 a2 =
    let h = requests_same j d one two shell1 iopub1 shell2 iopub2 b l1 l2 in
    let w = same_why j one two h (turned h) a1 a2 in
    (ap (saves_for j j.given (requests j one)) w ∙ same_saves_for j j.given (why j two) h, w)
