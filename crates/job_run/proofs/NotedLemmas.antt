-- The exception that is noted with the request that stands.
use Rattle.std.proofs.Common.{◌≡◌, ℕ, ◌+◌, Bool, true, false, ◌&&◌, not, List, [], ◌∷◌, ◌++◌, map, filter, append_assoc, Option, Some, None, refl, sym, ◌∙◌, ap, subst}
use Rattle.std.specs.Prelude.{is_some, if◌then◌else◌}
use Rattle.std.proofs.lemmas.List.{map-append}
use Rattle.std.proofs.lemmas.List.Elements.{filter-append}
use Rattle.std.proofs.lemmas.Option.{same_Some}
use Rattle.world.specs.declared.chan.Chan.{Chan}
use Rattle.world.specs.declared.chan.Chan.TheVariants.{Shell, Control, Iopub, Heart}
use Rattle.world.specs.declared.entry.Entry.{Entry}
use Rattle.world.specs.Places.{time}
use Rattle.jcontent.specs.declared.content.Content.{Content}
use Rattle.jcontent.specs.declared.content.Content.TheVariants.{ExecReply}
use Rattle.jcontent.specs.declared.reply.ReplyIs.{ReplyIs}
use Rattle.jcontent.specs.declared.reply.ReplyIs.TheVariants as reply_is
use Rattle.run_journal.specs.Codec.{Arrival}
use Rattle.run_journal.specs.Job.{Job}
use Rattle.run_journal.specs.Requests.{Request as Asked, first as first_of, goes_on, is_exec_reply, last_request, reply, requests, with_news}
use Rattle.job_journal.specs.Piece.{Within, is_of, on_shell, with_done}
use Rattle.job_journal.specs.Plot.{Plot, facts}
use Rattle.job_journal.specs.Standing.{Parts}
use Rattle.job_journal.specs.Used.{is_reply, with_reply}
use Rattle.job_journal.proofs.Books.{none_anew}
use Rattle.job_journal.proofs.Left.{reply_adds, reply_passes}
use Rattle.job_journal.proofs.Pieces.{own_is, piece_facts}
use Rattle.job_run.specs.declared.request.Request.{Request}
use Rattle.job_run.specs.Standing.{NotesError, NotesErrorOf, NotesSoFar, error_by, error_in}
use Rattle.job_run.specs.Used.{NotesReply, SameRequest, none, noted_with, some}

-- where no request stands nothing is noted
pub noted_none : (j : Job) (o : Option Request) (rs : List Asked) → o ≡ None → NotesError j o rs
noted_none j o rs e = λ k q at r is. (let both : None ≡ Some r = sym e ∙ is in absurd (cc))

pub noted_unsent : (j : Job) (o : Option Request) (rs : List Asked) → rs ≡ [] → NotesError j o rs
noted_unsent j o rs e = λ k q at. (let nowhere : last_request 0 [] ≡ Some (k, q) = ap (last_request 0) (sym e) ∙ at in absurd (cc))

-- ---- the last request

abbrev pub place : ℕ → Asked → ℕ × Asked
place k r = (k, r)

-- the last request has one place
pub same_place : (o : Option (ℕ × Asked)) (k i : ℕ) (r q : Asked) → o ≡ Some (place k r) → o ≡ Some (place i q) → place k r ≡ place i q
same_place o k i r q f g = same_Some (place k r) (place i q) (sym f ∙ g)

-- requests that each went on
record WentOn (f : Asked → Asked) (n : ℕ) (rs : List Asked) (k : ℕ) (q : Asked) : Type 0 where
  old : Asked
  at : last_request n rs ≡ Some (place k old)
  is : f old ≡ q

went_on : (f : Asked → Asked) (n : ℕ) (rs : List Asked) (k : ℕ) (q : Asked) → last_request n (map f rs) ≡ Some (place k q) → WentOn f n rs k q
went_on f n [] k q e = absurd (cc)
went_on f n (x ∷ []) k q e =
    let both : place n (f x) ≡ place k q = same_Some (place n (f x)) (place k q) e in
    record { old = x; at = ap (λ (v : ℕ × Asked). Some (place v.0 x)) both; is = ap (λ (v : ℕ × Asked). v.1) both }
went_on f n (x ∷ y ∷ rs) k q e = let w = went_on f (n + 1) (y ∷ rs) k q e in record { old = w.old; at = w.at; is = w.is }

-- what is noted with the last request of a piece is noted so
pub noted_so_far : (j : Job) (o : Option Request) (c : Chan) (done : List Arrival) (past : List Entry) (k : ℕ) (r : Asked) → last_request 0 (requests j past) ≡ Some (k, r)
    → NotesErrorOf j o k (with_done j c r done past) → NotesSoFar j o c done past
noted_so_far j o c done past k r at h = λ i q is.
    subst (λ (v : ℕ × Asked). NotesErrorOf j o v.0 (with_done j c v.1 done past)) (same_place (last_request 0 (requests j past)) k i r q at is) h

-- Behind an entry with which no request comes to stand, it is noted so where the reply is the same.
pub noted_on : (j : Job) (o : Option Request) (entry : Entry) (past : List Entry) (k : ℕ) (r s : Asked) → requests j (entry ∷ past) ≡ map (goes_on j entry past) (requests j past)
    → last_request 0 (requests j past) ≡ Some (k, r) → reply (goes_on j entry past r) ≡ reply s → NotesErrorOf j o k s → NotesError j o (requests j (entry ∷ past))
noted_on j o entry past k r s same at replies h = λ i q is t stands.
    let w = went_on (goes_on j entry past) 0 (requests j past) i q (ap (last_request 0) (sym same) ∙ is) in
    let both : place k r ≡ place i w.old = same_place (last_request 0 (requests j past)) k i r w.old at w.at in
    h t stands
    ∙ ap (error_by j k) (sym replies)
    ∙ ap (λ (v : ℕ × Asked). error_by j v.0 (reply (goes_on j entry past v.1))) both
    ∙ ap (λ (v : Asked). error_by j i (reply v)) w.is

-- ---- the first reply

first_on : (xs ys : List (Arrival × ℕ)) → is_some (first_of xs) ≡ true → first_of (xs ++ ys) ≡ first_of xs
first_on [] ys e = absurd (cc)
first_on (x ∷ xs) ys e = refl

-- once the reply has come, further messages on shell change nothing of it
pub reply_stays : (j : Job) (r : Asked) (ms rest : List Arrival) (clock : ℕ) → is_some (reply (with_news j r [] ms clock)) ≡ true
    → reply (with_news j r [] (ms ++ rest) clock) ≡ reply (with_news j r [] ms clock)
reply_stays j r ms rest clock e =
    ap (λ (v : List Arrival). first_of (r.replies ++ map (λ m. (m, clock)) v)) (filter-append (is_reply j r) ms rest)
    ∙ ap (λ v. first_of (r.replies ++ v)) (map-append (λ m. (m, clock)) (filter (is_reply j r) ms) (filter (is_reply j r) rest))
    ∙ ap first_of (sym (append_assoc r.replies (map (λ m. (m, clock)) (filter (is_reply j r) ms)) (map (λ m. (m, clock)) (filter (is_reply j r) rest))))
    ∙ first_on (r.replies ++ map (λ m. (m, clock)) (filter (is_reply j r) ms)) (map (λ m. (m, clock)) (filter (is_reply j r) rest)) e

some_first : (xs : List (Arrival × ℕ)) (x : Arrival × ℕ) → is_some (first_of (xs ++ x ∷ [])) ≡ true
some_first [] x = refl
some_first (y ∷ ys) x = refl

-- ---- what a piece leaves

module _ (p : Plot) (number : ℕ) (x : Parts) (c : Chan) (before left : List Arrival) (entry : Entry) (past : List Entry) (w : Within p number x c before left entry past) (o : Option Request) where
  abbrev j : Job
  j = facts p

  none_more : requests j (entry ∷ past) ≡ map (goes_on j entry past) (requests j past)
  none_more = none_anew j entry past (piece_facts j c past w.piece).acks w.steady

  -- where these are all messages on shell
  pub noted_all : (done : List Arrival) → on_shell c (before ++ left) ≡ on_shell c done → NotesSoFar j o c done past → NotesError j o (requests j (entry ∷ past))
  noted_all done all h =
      noted_on j o entry past w.k w.r (with_done j c w.r done past) none_more w.last (ap (λ ms. reply (with_news j w.r [] ms (time past))) (w.shell ∙ all)) (h w.k w.r w.last)

-- where the reply is among the messages so far
pub noted_replied : (p : Plot) (number : ℕ) (x : Parts) (before left : List Arrival) (entry : Entry) (past : List Entry) (w : Within p number x Shell before left entry past) (o : Option Request)
    (done rest : List Arrival) → before ++ left ≡ done ++ rest → is_some (reply (with_done (facts p) Shell w.r done past)) ≡ true → NotesSoFar (facts p) o Shell done past
    → NotesError (facts p) o (requests (facts p) (entry ∷ past))
noted_replied p number x before left entry past w o done rest all came h =
    let j : Job = facts p in
    noted_on j o entry past w.k w.r (with_done j Shell w.r done past) (none_more p number x Shell before left entry past w o) w.last
    (ap (λ ms. reply (with_news j w.r [] ms (time past))) (w.shell ∙ all) ∙ reply_stays j w.r done rest (time past) came) (h w.k w.r w.last)

-- a message that is no reply to the request changes nothing
pub noted_passes : (p : Plot) (number : ℕ) (x : Parts) (c : Chan) (done rest : List Arrival) (m : Arrival) (entry : Entry) (past : List Entry) (o : Option Request)
    → (c ≡ Shell → (is_exec_reply m.content && is_of x.request m.parent) ≡ false) → Within p number x c done (m ∷ rest) entry past
    → NotesSoFar (facts p) o c done past → NotesSoFar (facts p) o c (done ++ m ∷ []) past
noted_passes p number x Shell done rest m entry past o off w h =
    let j : Job = facts p in
    let no : is_reply j w.r m ≡ false = sym (ap (λ b. is_exec_reply m.content && b) (own_is j x.request (requests j past) w.k w.r m.parent w.request w.last)) ∙ off refl in
    noted_so_far j o Shell (done ++ m ∷ []) past w.k w.r w.last (subst (NotesErrorOf j o w.k) (sym (reply_passes j w.r done m (time past) no)) (h w.k w.r w.last))
noted_passes p number x Control done rest m entry past o off w h = h
noted_passes p number x Iopub done rest m entry past o off w h = h
noted_passes p number x Heart done rest m entry past o off w h = h

-- ---- a reply

abbrev noted_by : Bool → Bool → ReplyIs → Option (List ℕ) → Option (List ℕ)
noted_by takes fatal rep old = if takes && fatal then noted_with rep old else old

first_noted : (b : Bool) (rep : ReplyIs) → noted_by true b rep None ≡ (if b then error_in (ExecReply rep) else None)
first_noted true (reply_is.Error ename) = refl
first_noted true reply_is.Fine = refl
first_noted false rep = refl

by_replies : (j : Job) (k : ℕ) (xs : List (Arrival × ℕ)) (m : Arrival) (clock : ℕ) (takes fatal : Bool) (rep : ReplyIs) (old : Option (List ℕ)) → ExecReply rep ≡ m.content
    → fatal ≡ j.fatal k m.content → takes ≡ not (is_some (first_of xs)) → old ≡ error_by j k (first_of xs) → noted_by takes fatal rep old ≡ error_by j k (first_of (xs ++ (m, clock) ∷ []))
by_replies j k (x ∷ xs) m clock takes fatal rep old content_is fatal_is takes_is e = ap (λ b. noted_by b fatal rep old) takes_is ∙ e
by_replies j k [] m clock takes fatal rep old content_is fatal_is takes_is e =
    ap (λ b. noted_by b fatal rep old) takes_is
    ∙ ap (λ b. noted_by true b rep old) fatal_is
    ∙ ap (noted_by true (j.fatal k m.content) rep) e
    ∙ first_noted (j.fatal k m.content) rep
    ∙ ap (λ (v : Content). if j.fatal k m.content then error_in v else None) content_is

-- the first reply is noted where it stops the run and names an exception; a later one changes nothing
noted_reply : (j : Job) (k : ℕ) (q : Asked) (m : Arrival) (clock : ℕ) (takes fatal : Bool) (rep : ReplyIs) (old new : Option Request) → ExecReply rep ≡ m.content → fatal ≡ j.fatal k m.content
    → takes ≡ not (is_some (reply q)) → SameRequest old new → NotesReply takes fatal rep old new → NotesErrorOf j old k q → NotesErrorOf j new k (with_reply q m clock)
noted_reply j k q m clock takes fatal rep old new content_is fatal_is takes_is none noted h = λ t is. absurd (cc)
noted_reply j k q m clock takes fatal rep old new content_is fatal_is takes_is (some {r} {s} id cell tagged) noted h = λ t is.
    let same : s ≡ t = cc in
    subst (λ (u : Request). u.error ≡ error_by j k (reply (with_reply q m clock))) same
    (noted r s refl refl ∙ by_replies j k q.replies m clock takes fatal rep r.error content_is fatal_is takes_is (h r refl))

-- a reply to the request that stands is dealt with
module _ (p : Plot) (number : ℕ) (x : Parts) (done rest : List Arrival) (m : Arrival) (entry : Entry) (past : List Entry) (w : Within p number x Shell done (m ∷ rest) entry past)
    (mine : (is_exec_reply m.content && is_of x.request m.parent) ≡ true) where
  abbrev sj : Job
  sj = facts p

  its_own : is_reply sj w.r m ≡ true
  its_own = sym (ap (λ b. is_exec_reply m.content && b) (own_is sj x.request (requests sj past) w.k w.r m.parent w.request w.last)) ∙ mine

  more : with_done sj Shell w.r (done ++ m ∷ []) past ≡ with_reply (with_done sj Shell w.r done past) m (time past)
  more = reply_adds sj w.r done m (time past) its_own

  -- it has come
  pub has_come : is_some (reply (with_done sj Shell w.r (done ++ m ∷ []) past)) ≡ true
  has_come = ap (λ (v : Asked). is_some (reply v)) more ∙ some_first (with_done sj Shell w.r done past).replies (m, time past)

  pub noted_more : (takes fatal : Bool) (rep : ReplyIs) (old new : Option Request) → ExecReply rep ≡ m.content → fatal ≡ sj.fatal w.k m.content
      → takes ≡ not (is_some (reply (with_done sj Shell w.r done past))) → SameRequest old new → NotesReply takes fatal rep old new → NotesSoFar sj old Shell done past
      → NotesSoFar sj new Shell (done ++ m ∷ []) past
  noted_more takes fatal rep old new content_is fatal_is takes_is kept noted h =
      noted_so_far sj new Shell (done ++ m ∷ []) past w.k w.r w.last
      (subst (NotesErrorOf sj new w.k) (sym more)
      (noted_reply sj w.k (with_done sj Shell w.r done past) m (time past) takes fatal rep old new content_is fatal_is takes_is kept noted (h w.k w.r w.last)))
