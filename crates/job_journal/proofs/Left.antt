-- What is still to be told of the messages of a piece, one after another.
use Rattle.std.proofs.Common.{◌≡◌, ℕ, List, [], ◌∷◌, ◌++◌, map, Bool, true, false, ◌&&◌, ◌||◌, cond, Some, refl, sym, ◌∙◌, ap, append_assoc}
use Rattle.std.specs.Prelude.{filter, is_some, take}
use Rattle.std.proofs.lemmas.Bool.{cond-true, cond-false}
use Rattle.std.proofs.lemmas.List.{append-nil, map-append}
use Rattle.std.proofs.lemmas.List.Elements.{filter-append}
use Rattle.std.proofs.lemmas.List.Folds.{list_any-append}
use Rattle.world.specs.declared.chan.Chan.TheVariants.{Shell, Iopub}
use Rattle.world.specs.declared.entry.Entry.{Entry}
use Rattle.cell_core.specs.declared.event.Event.{Event}
use Rattle.cell_core.specs.declared.event.Event.TheVariants as event
use Rattle.out_fold.specs.Cells.{says_idle}
use Rattle.run_journal.specs.Codec.{Arrival}
use Rattle.run_journal.specs.Job.{Job}
use Rattle.run_journal.specs.Arrivals.{arrive}
use Rattle.run_journal.specs.Requests.{Request, first, has_idle, is_over, reply, through_idle, with_news}
use Rattle.run_journal.specs.Course.{brief_of, came_for}
use Rattle.job_journal.specs.Used.{is_own, is_reply, left_io, left_replies, with_io, with_reply}

-- ---- a request with the messages so far

none_kept : {X : Type 0} (p : X → Bool) (xs : List X) (x : X) → p x ≡ false → filter p (xs ++ x ∷ []) ≡ filter p xs
none_kept p xs x e = filter-append p xs (x ∷ []) ∙ ap (λ v. filter p xs ++ v) (cond-false (p x) (x ∷ []) [] e) ∙ append-nil (filter p xs)

one_kept : {X : Type 0} (p : X → Bool) (xs : List X) (x : X) → p x ≡ true → filter p (xs ++ x ∷ []) ≡ filter p xs ++ x ∷ []
one_kept p xs x e = filter-append p xs (x ∷ []) ∙ ap (λ v. filter p xs ++ v) (cond-true (p x) (x ∷ []) [] e)

-- with no message a request is as it was
pub no_news : (j : Job) (r : Request) (clock : ℕ) → with_news j r [] [] clock ≡ r
no_news j r clock =
    ap (λ v. record { number = r.number; clock = r.clock; io = v; replies = r.replies ++ []; interrupted = r.interrupted }) (append-nil r.io)
    ∙ ap (λ v. record { number = r.number; clock = r.clock; io = r.io; replies = v; interrupted = r.interrupted }) (append-nil r.replies)

-- a message on IOPub that isn't its own leaves it
pub io_passes : (j : Job) (r : Request) (ms : List Arrival) (m : Arrival) (clock : ℕ) → is_own j r m ≡ false
    → with_news j r (ms ++ m ∷ []) [] clock ≡ with_news j r ms [] clock
io_passes j r ms m clock e =
    ap (λ v. record { number = r.number; clock = r.clock; io = r.io ++ v; replies = r.replies ++ []; interrupted = r.interrupted }) (none_kept (is_own j r) ms m e)

-- one of its own is added
pub io_adds : (j : Job) (r : Request) (ms : List Arrival) (m : Arrival) (clock : ℕ) → is_own j r m ≡ true
    → with_news j r (ms ++ m ∷ []) [] clock ≡ with_io (with_news j r ms [] clock) m
io_adds j r ms m clock e =
    ap (λ v. record { number = r.number; clock = r.clock; io = v; replies = r.replies ++ []; interrupted = r.interrupted })
    (ap (λ v. r.io ++ v) (one_kept (is_own j r) ms m e) ∙ sym (append_assoc r.io (filter (is_own j r) ms) (m ∷ [])))

-- a message on shell that is no reply to it leaves it
pub reply_passes : (j : Job) (r : Request) (ms : List Arrival) (m : Arrival) (clock : ℕ) → is_reply j r m ≡ false
    → with_news j r [] (ms ++ m ∷ []) clock ≡ with_news j r [] ms clock
reply_passes j r ms m clock e =
    ap (λ (v : List Arrival). record { number = r.number; clock = r.clock; io = r.io ++ []; replies = r.replies ++ map (λ m. (m, clock)) v; interrupted = r.interrupted })
    (none_kept (is_reply j r) ms m e)

-- a reply to it is added
pub reply_adds : (j : Job) (r : Request) (ms : List Arrival) (m : Arrival) (clock : ℕ) → is_reply j r m ≡ true
    → with_news j r [] (ms ++ m ∷ []) clock ≡ with_reply (with_news j r [] ms clock) m clock
reply_adds j r ms m clock e =
    ap (λ v. record { number = r.number; clock = r.clock; io = r.io ++ []; replies = v; interrupted = r.interrupted })
    (ap (λ (v : List Arrival). r.replies ++ map (λ m. (m, clock)) v) (one_kept (is_reply j r) ms m e)
    ∙ ap (λ v. r.replies ++ v) (map-append (λ m. (m, clock)) (filter (is_reply j r) ms) (m ∷ []))
    ∙ sym (append_assoc r.replies (map (λ m. (m, clock)) (filter (is_reply j r) ms)) ((m, clock) ∷ [])))

-- ---- events

-- of a message that isn't its own nothing is to be told
pub io_left_other : (j : Job) (r : Request) (m : Arrival) (ms : List Arrival) → is_own j r m ≡ false → left_io j r (m ∷ ms) ≡ left_io j r ms
io_left_other j r m ms e =
    ap (λ v. cond (is_over r) [] (map (λ m. event.Io (brief_of m)) (cond (is_some (reply r)) (through_idle v) v))) (cond-false (is_own j r m) (m ∷ filter (is_own j r) ms) (filter (is_own j r) ms) e)

-- once a request is over nothing is to be told of it
pub io_left_over : (j : Job) (r : Request) (ms : List Arrival) → is_over r ≡ true → left_io j r ms ≡ []
io_left_over j r ms e = cond-true (is_over r) [] _ e

ios_by : (h p i : Bool) (x : Event) (m : Arrival) (f : List Arrival) → (h && p) ≡ false → event.Io (brief_of m) ≡ x
    → map (λ m. event.Io (brief_of m)) (cond p (cond i (m ∷ []) (m ∷ through_idle f)) (m ∷ f))
    ≡ x ∷ cond ((h || (i || false)) && p) [] (map (λ m. event.Io (brief_of m)) (cond p (through_idle f) f))
ios_by true true i x m f k e = cc
ios_by true false i x m f k e = ap (λ y. y ∷ map (λ m. event.Io (brief_of m)) f) e
ios_by false true true x m f k e = ap (λ y. y ∷ []) e
ios_by false true false x m f k e = ap (λ y. y ∷ map (λ m. event.Io (brief_of m)) (through_idle f)) e
ios_by false false true x m f k e = ap (λ y. y ∷ map (λ m. event.Io (brief_of m)) f) e
ios_by false false false x m f k e = ap (λ y. y ∷ map (λ m. event.Io (brief_of m)) f) e

-- While a request isn't over, a message of its own is to be told, and then what is left of the others.
pub io_left_own : (j : Job) (r : Request) (m : Arrival) (ms : List Arrival) → is_own j r m ≡ true → is_over r ≡ false
    → left_io j r (m ∷ ms) ≡ event.Io (brief_of m) ∷ left_io j (with_io r m) ms
io_left_own j r m ms e on =
    let f : List Arrival = filter (is_own j r) ms in
    cond-false (is_over r) [] _ on
    ∙ ap (λ v. map (λ m. event.Io (brief_of m)) (cond (is_some (reply r)) (through_idle v) v)) (cond-true (is_own j r m) (m ∷ f) f e)
    ∙ ios_by (has_idle r.io) (is_some (reply r)) (says_idle m.content) (event.Io (brief_of m)) m f on refl
    ∙ ap (λ h. event.Io (brief_of m) ∷ cond (h && is_some (reply r)) [] (map (λ m. event.Io (brief_of m)) (cond (is_some (reply r)) (through_idle f) f)))
    (sym (list_any-append (λ m. says_idle m.content) r.io (m ∷ [])))

-- of a message on shell that is no reply to it nothing is to be told
pub replies_left_other : (j : Job) (k : ℕ) (r : Request) (m : Arrival) (ms : List Arrival) → is_reply j r m ≡ false → left_replies j k r (m ∷ ms) ≡ left_replies j k r ms
replies_left_other j k r m ms e =
    ap (λ (v : List Arrival). cond (is_over r) [] (map (λ m. event.Reply (j.fatal k m.content)) (cond (has_idle r.io) (take 1 v) v)))
    (cond-false (is_reply j r m) (m ∷ filter (is_reply j r) ms) (filter (is_reply j r) ms) e)

-- once a request is over no reply is to be told
pub replies_left_over : (j : Job) (k : ℕ) (r : Request) (ms : List Arrival) → is_over r ≡ true → left_replies j k r ms ≡ []
replies_left_over j k r ms e = cond-true (is_over r) [] _ e

some_first : (xs : List (Arrival × ℕ)) (x : Arrival × ℕ) → is_some (first (xs ++ x ∷ [])) ≡ true
some_first [] x = refl
some_first (y ∷ ys) x = refl

replies_by : (h p : Bool) (F : Arrival → Event) (m : Arrival) (f : List Arrival) → (h && p) ≡ false
    → map F (cond h (take 1 (m ∷ f)) (m ∷ f)) ≡ F m ∷ cond (h && true) [] (map F (cond h (take 1 f) f))
replies_by true true F m f k = cc
replies_by true false F m f k = refl
replies_by false p F m f k = refl

-- While a request isn't over, a reply to it is to be told, and then what is left of the others.
pub replies_left_own : (j : Job) (k : ℕ) (r : Request) (m : Arrival) (clock : ℕ) (ms : List Arrival) → is_reply j r m ≡ true → is_over r ≡ false
    → left_replies j k r (m ∷ ms) ≡ event.Reply (j.fatal k m.content) ∷ left_replies j k (with_reply r m clock) ms
replies_left_own j k r m clock ms e on =
    let f : List Arrival = filter (is_reply j r) ms in
    let F : Arrival → Event = λ m. event.Reply (j.fatal k m.content) in
    cond-false (is_over r) [] _ on
    ∙ ap (λ (v : List Arrival). map F (cond (has_idle r.io) (take 1 v) v)) (cond-true (is_reply j r m) (m ∷ f) f e)
    ∙ replies_by (has_idle r.io) (is_some (reply r)) F m f on
    ∙ ap (λ p. F m ∷ cond (has_idle r.io && p) [] (map F (cond (has_idle r.io) (take 1 f) f))) (sym (some_first r.replies (m, clock)))

-- ---- what an entry brings

abbrev no_arrivals : List Arrival
no_arrivals = []

if_nil : (b : Bool) (xs : List Event) → cond b [] (xs ++ []) ≡ cond b [] xs
if_nil true xs = refl
if_nil false xs = append-nil xs

-- by an entry that brings nothing on shell comes what is to be told of what arrives on IOPub
pub came_io : (j : Job) (k : ℕ) (r : Request) (entry : Entry) (past : List Entry) → arrive j Shell entry past ≡ []
    → came_for j (Some (k, r)) entry past ≡ left_io j r (arrive j Iopub entry past)
came_io j k r entry past none =
    let f : List Arrival = filter (is_own j r) (arrive j Iopub entry past) in
    let F : Arrival → Event = λ m. event.Reply (j.fatal k m.content) in
    let us : List Event = map (λ m. event.Io (brief_of m)) (cond (is_some (reply r)) (through_idle f) f) in
    ap (λ (v : List Arrival). cond (is_over r) [] (us ++ map F (cond (has_idle r.io) (take 1 (filter (is_reply j r) v)) (filter (is_reply j r) v)))) none
    ∙ ap (λ (v : List Arrival). cond (is_over r) [] (us ++ map F v)) (both_none (has_idle r.io))
    ∙ if_nil (is_over r) us
  where
    both_none : (b : Bool) → cond b (take 1 no_arrivals) no_arrivals ≡ no_arrivals
    both_none true = refl
    both_none false = refl

-- by an entry that brings nothing on IOPub comes what is to be told of what arrives on shell
pub came_replies : (j : Job) (k : ℕ) (r : Request) (entry : Entry) (past : List Entry) → arrive j Iopub entry past ≡ []
    → came_for j (Some (k, r)) entry past ≡ left_replies j k r (arrive j Shell entry past)
came_replies j k r entry past none =
    let vs : List Event = map (λ m. event.Reply (j.fatal k m.content))
    (cond (has_idle r.io) (take 1 (filter (is_reply j r) (arrive j Shell entry past))) (filter (is_reply j r) (arrive j Shell entry past))) in
    ap (λ (v : List Arrival). cond (is_over r) [] (map (λ m. event.Io (brief_of m)) (cond (is_some (reply r)) (through_idle (filter (is_own j r) v)) (filter (is_own j r) v)) ++ vs)) none
    ∙ ap (λ (v : List Arrival). cond (is_over r) [] (map (λ m. event.Io (brief_of m)) v ++ vs)) (both_none (is_some (reply r)))
  where
    both_none : (b : Bool) → cond b (through_idle no_arrivals) no_arrivals ≡ no_arrivals
    both_none true = refl
    both_none false = refl
