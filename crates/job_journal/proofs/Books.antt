-- What was used for the requests goes on, message after message.
use Rattle.std.proofs.Common.{append_assoc, ◌≡◌, ◌⊎◌, inl, inr, ℕ, suc, ◌+◌, ◌<◌, List, [], ◌∷◌, ◌++◌, length, map, Bool, true, false, ◌||◌, not, cond, Option, Some, None, refl, sym, ◌∙◌, ap, subst, arith, length-append}
use Rattle.std.specs.Prelude.{is_some, slice_index}
use Rattle.std.specs.Str.{bytes_eq}
use Rattle.std.proofs.lemmas.Bool.{and_parts, cond-false}
use Rattle.std.proofs.lemmas.List.{append-nil, map-append, length-map}
use Rattle.std.proofs.lemmas.Option.{same_Some}
use Rattle.world.specs.declared.chan.Chan.TheVariants.{Shell, Iopub}
use Rattle.world.specs.declared.entry.Entry.{Entry}
use Rattle.world.specs.Places.{time}
use Rattle.nb_model.specs.declared.notebook.Notebook.{Notebook}
use Rattle.out_fold.specs.declared.used.Used.{Used}
use Rattle.out_fold.specs.Cells.{says_idle, begin, with_message}
use Rattle.out_fold.specs.Cells as cells
use Rattle.cell_core.specs.Task.{cell_of}
use Rattle.job_notebook.specs.declared.notebook.JobNotebook.{JobNotebook}
use Rattle.job_notebook.specs.State.{Keeps}
use Rattle.run_journal.specs.Codec.{Arrival}
use Rattle.run_journal.specs.Job.{Job}
use Rattle.run_journal.specs.Parts.{saves_of, is_acknowledging}
use Rattle.run_journal.specs.Arrivals.{arrive, is_ready}
use Rattle.run_journal.specs.Requests.{Request, as_used, first, goes_on, has_idle, is_fatal, is_next, is_over, is_parent, last_request, own, reply, reply_date, requests, through_idle, use_of, used_of, with_news}
use Rattle.run_journal.specs.Agreement.{BringsNothing}
use Rattle.run_journal.specs.Grow.{GoesOn, ArePassed}
use Rattle.run_journal.proofs.Growth.{has_idle_more, through_idle_more, used_stays}
use Rattle.run_journal.proofs.AlikeLooks.{arrive_nothing}
use Rattle.run_journal.proofs.Agreeing.{next_none}
use Rattle.run_journal.proofs.Isolation.{no_next}
use Rattle.run_journal.proofs.Safety.{all_but_last, few_requests}
use Rattle.job_journal.specs.Used.{OnBook, OnRequest, nothing, last, Replies, Sent, Takes, anew, is_own, is_reply, so_far, with_io, with_messages, with_reply}
use Rattle.job_journal.proofs.Left.{no_news, io_passes, io_adds, reply_passes, reply_adds}

-- ---- what is used of one more message

one_first : (b : Bool) (m : Arrival) → cond b (m ∷ []) (m ∷ []) ≡ m ∷ []
one_first true m = refl
one_first false m = refl

one_by : (b : Bool) (x m : Arrival) (xs ys zs : List Arrival) → (b || has_idle xs) ≡ false → (has_idle xs ≡ false → ys ≡ zs ++ m ∷ [])
    → cond b (x ∷ []) (x ∷ ys) ≡ cond b (x ∷ []) (x ∷ zs) ++ m ∷ []
one_by true x m xs ys zs h e = cc
one_by false x m xs ys zs h e = ap (λ v. x ∷ v) (e h)

-- a message is used where no idle has come before it
pub used_one : (xs : List Arrival) (m : Arrival) → has_idle xs ≡ false → through_idle (xs ++ m ∷ []) ≡ through_idle xs ++ m ∷ []
used_one [] m h = one_first (says_idle m.content) m
used_one (x ∷ xs) m h = one_by (says_idle x.content) x m xs (through_idle (xs ++ m ∷ [])) (through_idle xs) h (λ k. used_one xs m k)

-- its message is used for a request without an idle
use_io : (cell : ℕ) (r : Request) (m : Arrival) → has_idle r.io ≡ false → use_of cell (with_io r m) ≡ with_message (use_of cell r) m.content m.date
use_io cell r m h =
    ap (λ (ms : List Arrival). record { cell = cell; own = map as_used ms; reply = reply_date (reply r) }) (used_one r.io m h)
    ∙ ap (λ v. record { cell = cell; own = v; reply = reply_date (reply r) }) (map-append as_used (own r) (m ∷ []))

-- none is used after its idle
use_io_late : (cell : ℕ) (r : Request) (m : Arrival) → has_idle r.io ≡ true → use_of cell (with_io r m) ≡ use_of cell r
use_io_late cell r m h = ap (λ (ms : List Arrival). record { cell = cell; own = map as_used ms; reply = reply_date (reply r) }) (through_idle_more r.io (m ∷ []) h)

first_one : (xs : List (Arrival × ℕ)) (x : Arrival × ℕ) → is_some (first xs) ≡ false → first (xs ++ x ∷ []) ≡ Some x
first_one [] x e = refl
first_one (y ∷ ys) x e = cc

first_still : (xs : List (Arrival × ℕ)) (x : Arrival × ℕ) → is_some (first xs) ≡ true → first (xs ++ x ∷ []) ≡ first xs
first_still [] x e = cc
first_still (y ∷ ys) x e = refl

-- its first reply is used for a request
use_reply : (cell : ℕ) (r : Request) (m : Arrival) (clock : ℕ) → is_some (reply r) ≡ false
    → use_of cell (with_reply r m clock) ≡ cells.with_reply (use_of cell r) m.date
use_reply cell r m clock h = ap (λ (o : Option (Arrival × ℕ)). record { cell = cell; own = map as_used (own r); reply = reply_date o }) (first_one r.replies (m, clock) h)

-- a later one isn't
use_reply_late : (cell : ℕ) (r : Request) (m : Arrival) (clock : ℕ) → is_some (reply r) ≡ true → use_of cell (with_reply r m clock) ≡ use_of cell r
use_reply_late cell r m clock h = ap (λ (o : Option (Arrival × ℕ)). record { cell = cell; own = map as_used (own r); reply = reply_date o }) (first_still r.replies (m, clock) h)

-- ---- the last of the requests

-- all but the last of these, which is that with this number
pub record HasLast (n : ℕ) (rs : List Request) (k : ℕ) (r : Request) : Type 0 where
  pub front : List Request
  pub split : rs ≡ front ++ r ∷ []
  pub count : n + length front ≡ k

pub has_last : (n : ℕ) (rs : List Request) (k : ℕ) (r : Request) → last_request n rs ≡ Some (k, r) → HasLast n rs k r
has_last n [] k r e = cc
has_last n (x ∷ []) k r e =
    let c : n ≡ k = ap (λ (p : ℕ × Request). p.0) (same_Some _ _ e) in
    record { front = []; split = ap (λ (p : ℕ × Request). p.1 ∷ []) (same_Some _ _ e); count = omega (arith, c) }
has_last n (x ∷ y ∷ rs) k r e =
    let h = has_last (n + 1) (y ∷ rs) k r e in
    let c : (n + 1) + length h.front ≡ k = h.count in
    record { front = x ∷ h.front; split = ap (λ v. x ∷ v) h.split; count = omega (arith, c) }

-- what is used for requests, and for one more
pub used_append : (plan : List ℕ) (front : List Request) (r : Request) → length front < length plan
    → used_of plan (front ++ r ∷ []) ≡ used_of plan front ++ use_of (slice_index plan (length front)) r ∷ []
used_append [] front r h = absurd (omega (arith, h))
used_append (i ∷ []) [] r h = refl
used_append (i ∷ k ∷ plan) [] r h = refl
used_append (i ∷ plan) (x ∷ front) r h = ap (λ v. use_of i x ∷ v) (used_append plan front r (omega (arith, h)))

-- with messages that came since a request goes on
news_go_on : (j : Job) (iopub shell : List Arrival) (clock : ℕ) (r : Request) → GoesOn r (with_news j r iopub shell clock)
news_go_on j iopub shell clock r = record {
  number = refl;
  clock = refl;
  io = record { rest = _; joined = refl };
  replies = record { rest = _; joined = refl };
  interrupted = λ e. e;
}

over_front : (j : Job) (n : ℕ) (x : Request) (front : List Request) (r : Request) → ArePassed j n (x ∷ front ++ r ∷ []) → (is_over x ≡ true) × ArePassed j (n + 1) (front ++ r ∷ [])
over_front j n x [] r a = ((and_parts (is_over x) (not (is_fatal j n (reply x))) a.0).0, tt)
over_front j n x (y ∷ front) r a = ((and_parts (is_over x) (not (is_fatal j n (reply x))) a.0).0, a.1)

-- further messages change nothing of what was used for the requests before the last
used_front : (j : Job) (iopub shell : List Arrival) (clock n : ℕ) (plan : List ℕ) (front : List Request) (r : Request) → ArePassed j n (front ++ r ∷ [])
    → used_of plan (with_messages j iopub shell clock front) ≡ used_of plan front
used_front j iopub shell clock n [] front r a = none front
  where
    none : (rs : List Request) → used_of [] (with_messages j iopub shell clock rs) ≡ used_of [] rs
    none [] = refl
    none (x ∷ rs) = refl
used_front j iopub shell clock n (i ∷ plan) [] r a = refl
used_front j iopub shell clock n (i ∷ plan) (x ∷ front) r a =
    let o = over_front j n x front r a in
    ap (λ u. u ∷ used_of plan (with_messages j iopub shell clock front)) (used_stays x (with_news j x iopub shell clock) (news_go_on j iopub shell clock x) i o.0)
    ∙ ap (λ v. use_of i x ∷ v) (used_front j iopub shell clock (n + 1) plan front r o.1)

-- What was used is what was used for the requests before the last, and then for the last.
used_parts : (j : Job) (iopub shell : List Arrival) (past : List Entry) (k : ℕ) (r : Request) (l : HasLast 0 (requests j past) k r)
    → used_of j.task.plan (so_far j iopub shell past) ≡ used_of j.task.plan l.front ++ use_of (cell_of j.task k) (with_news j r iopub shell (time past)) ∷ []
used_parts j iopub shell past k r l =
    let s : Request = with_news j r iopub shell (time past) in
    let few = (few_requests j past).1 in
    let long : length (requests j past) ≡ length l.front + 1 = ap length l.split ∙ length-append l.front (r ∷ []) in
    let same : length (with_messages j iopub shell (time past) l.front) ≡ length l.front = length-map l.front (λ r. with_news j r iopub shell (time past)) in
    let c = l.count in
    let at : length (with_messages j iopub shell (time past) l.front) ≡ k = omega (arith, same, c) in
    let passed : ArePassed j 0 (l.front ++ r ∷ []) = subst (ArePassed j 0) l.split (all_but_last j past) in
    ap (λ rs. used_of j.task.plan (with_messages j iopub shell (time past) rs)) l.split
    ∙ ap (used_of j.task.plan) (map-append (λ r. with_news j r iopub shell (time past)) l.front (r ∷ []))
    ∙ used_append j.task.plan (with_messages j iopub shell (time past) l.front) s (omega (arith, few, long, same))
    ∙ ap (λ n. used_of j.task.plan (with_messages j iopub shell (time past) l.front) ++ use_of (slice_index j.task.plan n) s ∷ []) at
    ∙ ap (λ us. us ++ use_of (cell_of j.task k) s ∷ []) (used_front j iopub shell (time past) 0 j.task.plan l.front r passed)

-- what the book keeps, by the last request
book_as : (j : Job) (given : Notebook) (book : JobNotebook) (iopub shell : List Arrival) (past : List Entry) (k : ℕ) (r s : Request) (l : HasLast 0 (requests j past) k r)
    → with_news j r iopub shell (time past) ≡ s → OnBook j given book (so_far j iopub shell past)
    → Keeps book given (used_of j.task.plan l.front ++ use_of (cell_of j.task k) s ∷ [])
book_as j given book iopub shell past k r s l e b =
    subst (λ x. Keeps book given (used_of j.task.plan l.front ++ use_of (cell_of j.task k) x ∷ [])) e (subst (Keeps book given) (used_parts j iopub shell past k r l) b.keeps)

as_book : (j : Job) (given : Notebook) (book : JobNotebook) (iopub shell : List Arrival) (past : List Entry) (k : ℕ) (r : Request) (u : Used) (l : HasLast 0 (requests j past) k r)
    → use_of (cell_of j.task k) (with_news j r iopub shell (time past)) ≡ u → Keeps book given (used_of j.task.plan l.front ++ u ∷ [])
    → OnBook j given book (so_far j iopub shell past)
as_book j given book iopub shell past k r u l e h = record {
  keeps = subst (Keeps book given) (sym (used_parts j iopub shell past k r l ∙ ap (λ x. used_of j.task.plan l.front ++ x ∷ []) e)) h;
}

-- A message of the request is taken, where its idle hasn't come.
pub book_takes : (j : Job) (given : Notebook) (old new : JobNotebook) (ms : List Arrival) (m : Arrival) (past : List Entry) (k : ℕ) (r : Request)
    → last_request 0 (requests j past) ≡ Some (k, r) → is_own j r m ≡ true → has_idle (with_news j r ms [] (time past)).io ≡ false
    → Takes given old new m → OnBook j given old (so_far j ms [] past) → OnBook j given new (so_far j (ms ++ m ∷ []) [] past)
book_takes j given old new ms m past k r e mine h take b =
    let l = has_last 0 (requests j past) k r e in
    let s : Request = with_news j r ms [] (time past) in
    as_book j given new (ms ++ m ∷ []) [] past k r (with_message (use_of (cell_of j.task k) s) m.content m.date) l
    (ap (use_of (cell_of j.task k)) (io_adds j r ms m (time past) mine) ∙ use_io (cell_of j.task k) s m h)
    (take (used_of j.task.plan l.front) (use_of (cell_of j.task k) s) (book_as j given old ms [] past k r s l refl b))

-- A message that isn't of the request, or that comes after its idle, is passed over.
pub book_passes : (j : Job) (given : Notebook) (book : JobNotebook) (ms : List Arrival) (m : Arrival) (past : List Entry) (k : ℕ) (r : Request)
    → last_request 0 (requests j past) ≡ Some (k, r) → (is_own j r m ≡ false) ⊎ (has_idle (with_news j r ms [] (time past)).io ≡ true)
    → OnBook j given book (so_far j ms [] past) → OnBook j given book (so_far j (ms ++ m ∷ []) [] past)
book_passes j given book ms m past k r e h b =
    let l = has_last 0 (requests j past) k r e in
    let s : Request = with_news j r ms [] (time past) in
    as_book j given book (ms ++ m ∷ []) [] past k r (use_of (cell_of j.task k) s) l (same h (cases_own (is_own j r m) refl)) (book_as j given book ms [] past k r s l refl b)
  where
    cases_own : (x : Bool) → is_own j r m ≡ x → (is_own j r m ≡ true) ⊎ (is_own j r m ≡ false)
    cases_own true f = inl f
    cases_own false f = inr f

    same : (is_own j r m ≡ false) ⊎ (has_idle (with_news j r ms [] (time past)).io ≡ true) → (is_own j r m ≡ true) ⊎ (is_own j r m ≡ false)
        → use_of (cell_of j.task k) (with_news j r (ms ++ m ∷ []) [] (time past)) ≡ use_of (cell_of j.task k) (with_news j r ms [] (time past))
    same h (inr f) = ap (use_of (cell_of j.task k)) (io_passes j r ms m (time past) f)
    same (inl f) (inl g) = ap (use_of (cell_of j.task k)) (io_passes j r ms m (time past) f)
    same (inr f) (inl g) = ap (use_of (cell_of j.task k)) (io_adds j r ms m (time past) g) ∙ use_io_late (cell_of j.task k) (with_news j r ms [] (time past)) m f

-- The first reply to the request is used.
pub book_replies : (j : Job) (given : Notebook) (old new : JobNotebook) (ms : List Arrival) (m : Arrival) (past : List Entry) (k : ℕ) (r : Request)
    → last_request 0 (requests j past) ≡ Some (k, r) → is_reply j r m ≡ true → is_some (reply (with_news j r [] ms (time past))) ≡ false
    → Replies given old new m → OnBook j given old (so_far j [] ms past) → OnBook j given new (so_far j [] (ms ++ m ∷ []) past)
book_replies j given old new ms m past k r e mine h take b =
    let l = has_last 0 (requests j past) k r e in
    let s : Request = with_news j r [] ms (time past) in
    as_book j given new [] (ms ++ m ∷ []) past k r (cells.with_reply (use_of (cell_of j.task k) s) m.date) l
    (ap (use_of (cell_of j.task k)) (reply_adds j r ms m (time past) mine) ∙ use_reply (cell_of j.task k) s m (time past) h)
    (take (used_of j.task.plan l.front) (use_of (cell_of j.task k) s) (book_as j given old [] ms past k r s l refl b))

-- A message on shell that is no reply to the request, or that comes after its reply, is passed over.
pub book_ignores : (j : Job) (given : Notebook) (book : JobNotebook) (ms : List Arrival) (m : Arrival) (past : List Entry) (k : ℕ) (r : Request)
    → last_request 0 (requests j past) ≡ Some (k, r) → (is_reply j r m ≡ false) ⊎ (is_some (reply (with_news j r [] ms (time past))) ≡ true)
    → OnBook j given book (so_far j [] ms past) → OnBook j given book (so_far j [] (ms ++ m ∷ []) past)
book_ignores j given book ms m past k r e h b =
    let l = has_last 0 (requests j past) k r e in
    let s : Request = with_news j r [] ms (time past) in
    as_book j given book [] (ms ++ m ∷ []) past k r (use_of (cell_of j.task k) s) l (same h (cases_reply (is_reply j r m) refl)) (book_as j given book [] ms past k r s l refl b)
  where
    cases_reply : (x : Bool) → is_reply j r m ≡ x → (is_reply j r m ≡ true) ⊎ (is_reply j r m ≡ false)
    cases_reply true f = inl f
    cases_reply false f = inr f

    same : (is_reply j r m ≡ false) ⊎ (is_some (reply (with_news j r [] ms (time past))) ≡ true) → (is_reply j r m ≡ true) ⊎ (is_reply j r m ≡ false)
        → use_of (cell_of j.task k) (with_news j r [] (ms ++ m ∷ []) (time past)) ≡ use_of (cell_of j.task k) (with_news j r [] ms (time past))
    same h (inr f) = ap (use_of (cell_of j.task k)) (reply_passes j r ms m (time past) f)
    same (inl f) (inl g) = ap (use_of (cell_of j.task k)) (reply_passes j r ms m (time past) f)
    same (inr f) (inl g) = ap (use_of (cell_of j.task k)) (reply_adds j r ms m (time past) g) ∙ use_reply_late (cell_of j.task k) (with_news j r [] ms (time past)) m (time past) f

-- ---- at the ends of a piece

-- what was used doesn't depend on interrupts
used_mapped : (j : Job) (entry : Entry) (past : List Entry) (plan : List ℕ) (rs : List Request)
    → used_of plan (map (goes_on j entry past) rs) ≡ used_of plan (with_messages j (arrive j Iopub entry past) (arrive j Shell entry past) (time past) rs)
used_mapped j entry past [] [] = refl
used_mapped j entry past [] (r ∷ rs) = refl
used_mapped j entry past (i ∷ plan) [] = refl
used_mapped j entry past (i ∷ plan) (r ∷ rs) = ap (λ v. use_of i (with_news j r (arrive j Iopub entry past) (arrive j Shell entry past) (time past)) ∷ v) (used_mapped j entry past plan rs)

same_messages : (j : Job) (clock : ℕ) (rs : List Request) → with_messages j [] [] clock rs ≡ rs
same_messages j clock [] = refl
same_messages j clock (r ∷ rs) = ap (λ x. x ∷ with_messages j [] [] clock rs) (no_news j r clock) ∙ ap (λ v. r ∷ v) (same_messages j clock rs)

-- before any message of a piece, what was used is what was used for the requests
pub book_begins : (j : Job) (given : Notebook) (book : JobNotebook) (past : List Entry) → OnBook j given book (requests j past) → OnBook j given book (so_far j [] [] past)
book_begins j given book past b = subst (OnBook j given book) (sym (same_messages j (time past) (requests j past))) b

-- no request comes to stand with an entry by which no save is acknowledged and no kernel becomes ready
pub none_anew : (j : Job) (entry : Entry) (past : List Entry) → is_acknowledging j (entry ∷ past) ≡ false → is_ready j (entry ∷ past) ≡ is_ready j past
    → requests j (entry ∷ past) ≡ map (goes_on j entry past) (requests j past)
none_anew j entry past acks ready =
    cond-false (is_next j (is_acknowledging j (entry ∷ past)) (is_ready j (entry ∷ past)) (saves_of j (entry ∷ past)) (map (goes_on j entry past) (requests j past))) _ _
    (next_none j (is_acknowledging j (entry ∷ past)) (is_ready j (entry ∷ past)) (saves_of j (entry ∷ past)) (goes_on j entry past) (requests j past) acks
    (ap (λ b. is_next j false b (saves_of j (entry ∷ past)) (requests j past)) ready
    ∙ ap (λ n. is_next j false (is_ready j past) n (requests j past)) (cond-false (is_acknowledging j (entry ∷ past)) _ _ acks)
    ∙ no_next j past))

-- After all messages of an entry, by which no request comes to stand, what was used is what was used for the requests.
pub book_ends : (j : Job) (given : Notebook) (book : JobNotebook) (entry : Entry) (past : List Entry) → is_acknowledging j (entry ∷ past) ≡ false
    → is_ready j (entry ∷ past) ≡ is_ready j past → OnBook j given book (so_far j (arrive j Iopub entry past) (arrive j Shell entry past) past)
    → OnBook j given book (requests j (entry ∷ past))
book_ends j given book entry past acks ready b = record {
  keeps = subst (Keeps book given) (sym (ap (used_of j.task.plan) (none_anew j entry past acks ready) ∙ used_mapped j entry past j.task.plan (requests j past))) b.keeps;
}

-- an entry that brings no byte
pub still_used : (j : Job) (entry : Entry) (past : List Entry) → BringsNothing j entry past → used_of j.task.plan (map (goes_on j entry past) (requests j past)) ≡ used_of j.task.plan (requests j past)
still_used j entry past none =
    used_mapped j entry past j.task.plan (requests j past)
    ∙ ap (λ ms. used_of j.task.plan (so_far j ms (arrive j Shell entry past) past)) (arrive_nothing j entry past Iopub (none Iopub))
    ∙ ap (λ ms. used_of j.task.plan (so_far j [] ms past)) (arrive_nothing j entry past Shell (none Shell))
    ∙ ap (used_of j.task.plan) (same_messages j (time past) (requests j past))

-- An entry that brings no byte and acknowledges no save leaves what was used.
pub book_stays : (j : Job) (given : Notebook) (book : JobNotebook) (entry : Entry) (past : List Entry) → BringsNothing j entry past → is_acknowledging j (entry ∷ past) ≡ false
    → is_ready j (entry ∷ past) ≡ is_ready j past → OnBook j given book (requests j past) → OnBook j given book (requests j (entry ∷ past))
book_stays j given book entry past none acks ready b = record {
  keeps = subst (Keeps book given) (sym (ap (used_of j.task.plan) (none_anew j entry past acks ready) ∙ still_used j entry past none)) b.keeps;
}

-- A request comes to stand with an entry, and what was used before stays: its cell is begun.
pub book_starts : (j : Job) (given : Notebook) (old new : JobNotebook) (entry : Entry) (past : List Entry)
    → requests j (entry ∷ past) ≡ map (goes_on j entry past) (requests j past) ++ anew j entry past ∷ []
    → length (requests j past) < length j.task.plan
    → used_of j.task.plan (map (goes_on j entry past) (requests j past)) ≡ used_of j.task.plan (requests j past)
    → ((us : List Used) → Keeps old given us → Keeps new given (us ++ begin (cell_of j.task (length (requests j past))) ∷ []))
    → OnBook j given old (requests j past) → OnBook j given new (requests j (entry ∷ past))
book_starts j given old new entry past next few still start b =
    let rs : List Request = map (goes_on j entry past) (requests j past) in
    let same : length rs ≡ length (requests j past) = length-map (requests j past) (goes_on j entry past) in
    record {
      keeps = subst (Keeps new given) (sym (
          ap (used_of j.task.plan) next
          ∙ used_append j.task.plan rs (anew j entry past) (omega (arith, few, same))
          ∙ ap (λ n. used_of j.task.plan rs ++ use_of (slice_index j.task.plan n) (anew j entry past) ∷ []) same
          ∙ ap (λ us. us ++ begin (cell_of j.task (length (requests j past))) ∷ []) still)) (start (used_of j.task.plan (requests j past)) b.keeps);
    }

-- ---- the request that the job has

-- The parent's test: a message is of the last request where its parent is the id that the job has.
pub parent_is : (j : Job) (sent : Sent) (rs : List Request) (k : ℕ) (r : Request) (parent : List ℕ) → OnRequest j (Some sent) rs → last_request 0 rs ≡ Some (k, r)
    → bytes_eq sent.id parent ≡ is_parent j r.number (Some parent)
parent_is j sent rs k r parent (last n q e id cell) f =
    let same : (n, q) ≡ (k, r) = same_Some _ _ (sym e ∙ f) in
    ap (λ i. bytes_eq i parent) id ∙ ap (λ (p : ℕ × Request). bytes_eq (j.msg_id p.1.number) parent) same

pub last_after : (n : ℕ) (rs : List Request) (r : Request) → last_request n (rs ++ r ∷ []) ≡ Some (n + length rs, r)
last_after n [] r = let z : n ≡ n + 0 = omega arith in ap (λ i. Some (i, r)) z
last_after n (x ∷ []) r = let z : n + 1 ≡ n + suc 0 = omega arith in ap (λ i. Some (i, r)) z
last_after n (x ∷ y ∷ rs) r =
    let z : (n + 1) + length (y ∷ rs) ≡ n + length (x ∷ y ∷ rs) = omega arith in
    last_after (n + 1) (y ∷ rs) r ∙ ap (λ i. Some (i, r)) z

-- A request that comes to stand is the one that the job has, where it has its id and its cell.
pub request_starts : (j : Job) (sent : Sent) (entry : Entry) (past : List Entry)
    → requests j (entry ∷ past) ≡ map (goes_on j entry past) (requests j past) ++ anew j entry past ∷ []
    → sent.id ≡ j.msg_id (anew j entry past).number → sent.cell ≡ cell_of j.task (length (requests j past)) → OnRequest j (Some sent) (requests j (entry ∷ past))
request_starts j sent entry past next id cell =
    let rs : List Request = map (goes_on j entry past) (requests j past) in
    let same : length rs ≡ length (requests j past) = length-map (requests j past) (goes_on j entry past) in
    let k : 0 + length rs ≡ length (requests j past) = omega (arith, same) in
    last (length (requests j past)) (anew j entry past)
    (ap (last_request 0) next ∙ last_after 0 rs (anew j entry past) ∙ ap (λ i. Some (i, anew j entry past)) k)
    id cell

last_mapped : (j : Job) (entry : Entry) (past : List Entry) (n : ℕ) (rs : List Request) (k : ℕ) (r : Request) → last_request n rs ≡ Some (k, r)
    → last_request n (map (goes_on j entry past) rs) ≡ Some (k, goes_on j entry past r)
last_mapped j entry past n [] k r e = cc
last_mapped j entry past n (x ∷ []) k r e = ap (λ (p : ℕ × Request). Some (p.0, goes_on j entry past p.1)) (same_Some _ _ e)
last_mapped j entry past n (x ∷ y ∷ rs) k r e = last_mapped j entry past (n + 1) (y ∷ rs) k r e

-- An entry with which no request comes to stand leaves the job's.
pub request_stays : (j : Job) (sent : Option Sent) (entry : Entry) (past : List Entry) → is_acknowledging j (entry ∷ past) ≡ false
    → is_ready j (entry ∷ past) ≡ is_ready j past → OnRequest j sent (requests j past) → OnRequest j sent (requests j (entry ∷ past))
request_stays j sent entry past acks ready h = subst (OnRequest j sent) (sym (none_anew j entry past acks ready)) (by sent (requests j past) h)
  where
    by : (sent : Option Sent) (rs : List Request) → OnRequest j sent rs → OnRequest j sent (map (goes_on j entry past) rs)
    by None [] nothing = nothing
    by None (x ∷ rs) h = elim h [ ]
    by (Some sent) rs (last k r e id cell) = last k (goes_on j entry past r) (last_mapped j entry past 0 rs k r e) id cell

-- ---- what comes once a request is over

still_idle : (j : Job) (r : Request) (ms : List Arrival) (m : Arrival) (clock : ℕ) → has_idle (with_news j r ms [] clock).io ≡ true
    → has_idle (with_news j r (ms ++ m ∷ []) [] clock).io ≡ true
still_idle j r ms m clock e = by (is_own j r m) refl
  where
    by : (b : Bool) → is_own j r m ≡ b → has_idle (with_news j r (ms ++ m ∷ []) [] clock).io ≡ true
    by true f = ap (λ (s : Request). has_idle s.io) (io_adds j r ms m clock f) ∙ has_idle_more (with_news j r ms [] clock).io (m ∷ []) e
    by false f = ap (λ (s : Request). has_idle s.io) (io_passes j r ms m clock f) ∙ e

-- Once the idle has come, no further message on IOPub changes what was used.
pub book_rests : (j : Job) (given : Notebook) (book : JobNotebook) (ms rest : List Arrival) (past : List Entry) (k : ℕ) (r : Request)
    → last_request 0 (requests j past) ≡ Some (k, r) → has_idle (with_news j r ms [] (time past)).io ≡ true
    → OnBook j given book (so_far j ms [] past) → OnBook j given book (so_far j (ms ++ rest) [] past)
book_rests j given book ms [] past k r e h b = subst (λ xs. OnBook j given book (so_far j xs [] past)) (sym (append-nil ms)) b
book_rests j given book ms (m ∷ rest) past k r e h b =
    subst (λ xs. OnBook j given book (so_far j xs [] past)) (append_assoc ms (m ∷ []) rest)
    (book_rests j given book (ms ++ m ∷ []) rest past k r e (still_idle j r ms m (time past) h) (book_passes j given book ms m past k r e (inr h) b))

still_replied : (j : Job) (r : Request) (ms : List Arrival) (m : Arrival) (clock : ℕ) → is_some (reply (with_news j r [] ms clock)) ≡ true
    → is_some (reply (with_news j r [] (ms ++ m ∷ []) clock)) ≡ true
still_replied j r ms m clock e = by (is_reply j r m) refl
  where
    by : (b : Bool) → is_reply j r m ≡ b → is_some (reply (with_news j r [] (ms ++ m ∷ []) clock)) ≡ true
    by true f =
        ap (λ (s : Request). is_some (reply s)) (reply_adds j r ms m clock f)
        ∙ ap is_some (first_still (with_news j r [] ms clock).replies (m, clock) e) ∙ e
    by false f = ap (λ (s : Request). is_some (reply s)) (reply_passes j r ms m clock f) ∙ e

-- Once the reply has come, no further message on shell changes what was used.
pub book_replied : (j : Job) (given : Notebook) (book : JobNotebook) (ms rest : List Arrival) (past : List Entry) (k : ℕ) (r : Request)
    → last_request 0 (requests j past) ≡ Some (k, r) → is_some (reply (with_news j r [] ms (time past))) ≡ true
    → OnBook j given book (so_far j [] ms past) → OnBook j given book (so_far j [] (ms ++ rest) past)
book_replied j given book ms [] past k r e h b = subst (λ xs. OnBook j given book (so_far j [] xs past)) (sym (append-nil ms)) b
book_replied j given book ms (m ∷ rest) past k r e h b =
    subst (λ xs. OnBook j given book (so_far j [] xs past)) (append_assoc ms (m ∷ []) rest)
    (book_replied j given book (ms ++ m ∷ []) rest past k r e (still_replied j r ms m (time past) h) (book_ignores j given book ms m past k r e (inr h) b))
