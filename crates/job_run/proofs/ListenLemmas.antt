-- What messages that are heard make of the asking.
use Rattle.std.proofs.Common.{◌≡◌, ℕ, zero, suc, ◌+◌, ◌<◌, arith, Bool, true, false, ◌&&◌, ◌||◌, List, [], ◌∷◌, ◌++◌, take, length, get_or, Result, Ok, Err, Option, Some, None, refl, sym, ap, subst, ◌∙◌}
use Rattle.std.specs.Prelude.{IfSome, OnOk, slice_get}
use Rattle.std.proofs.Math.Seq.{take-suc}
use Rattle.std.proofs.lemmas.Bool.{cond-false}
use Rattle.std.proofs.lemmas.List.{map-append}
use Rattle.jcontent.specs.declared.reply.ReplyIs.{ReplyIs}
use Rattle.jmsg.specs.declared.message.Message.{Message}
use Rattle.kernel_talk.specs.Asking.{Asked}
use Rattle.kernel_talk.specs.Pinging.{after_echo}
use Rattle.run_journal.specs.Codec.{Arrival}
use Rattle.job_journal.specs.Talk.{heard_on_shell, heard_on_iopub}
use Rattle.job_run.specs.Counted.{KeepsTold}
use Rattle.run_journal.specs.Jupyter.{arrival_of}
use Rattle.job_journal.specs.Seen.{HasHeard, and_heard}
use Rattle.job_run.specs.Heard.{AreContents, HearsOf, IsContent, Listens, arrivals_of, echoed}
use Rattle.job_run.proofs.HeardLemmas.{heard_content}
use Rattle.job_run.specs.Held.{Holds}
use Rattle.job_run.specs.Used.{NotesReply, SameRequest, none, noted_with, some}
use Rattle.job_run.specs.declared.execution.Execution.{Execution}
use Rattle.job_run.specs.declared.request.Request.{Request}

or_false : (b : Bool) → (b || false) ≡ b
or_false true = refl
or_false false = refl

or_true : (b : Bool) → (b || true) ≡ true
or_true true = refl
or_true false = refl

-- where nothing was heard the asking stays
pub heard_nothing : (a : Asked) → heard_on_shell a [] ≡ a
heard_nothing a = ap (λ t. record { ids = a.ids; at = a.at; told = t; heard = a.heard }) (or_false a.told)

pub none_published : (a : Asked) → heard_on_iopub a [] ≡ a
none_published a = ap (λ h. record { ids = a.ids; at = a.at; told = a.told; heard = h }) (or_false a.heard)

-- any message on IOPub is noted
pub some_published : (a : Asked) (ms : List Arrival) → ¬ (ms ≡ []) → record a { heard = true } ≡ heard_on_iopub a ms
some_published a [] none_not = absurd (none_not refl)
some_published a (m ∷ ms) none_not = ap (λ h. record { ids = a.ids; at = a.at; told = a.told; heard = h }) (sym (or_true a.heard))

-- ---- an execution that has listened

-- neither its core, its clock, the stream that broke nor its terms have changed
pub listened_still : (x y : Execution) → Listens x y → KeepsTold x y
listened_still x y l = record {
  core = ap (λ (e : Execution). e.core) l;
  clock = ap (λ (e : Execution). e.clock) l;
  broken = ap (λ (e : Execution). e.broken) l;
  terms = ap (λ (e : Execution). e.terms) l;
}

pub listened_holds : (x y : Execution) → Listens x y → Holds x → Holds y
listened_holds x y l h =
    subst Holds (sym l) (record {
      ordered = h.ordered;
      cells = h.cells;
      begun = h.begun;
      settled = h.settled;
      asked = h.asked;
      sent = h.sent;
      early = h.early;
      heard = h.heard;
    })

-- a message on the heartbeat is an echo
pub some_echo : (x : Execution) (bodies : List (List (List ℕ))) → ¬ (bodies ≡ []) → record x { pings = after_echo x.pings } ≡ echoed bodies x
some_echo x [] none_not = absurd (none_not refl)
some_echo x (body ∷ bodies) none_not = refl

-- ---- the request that stands

pub same_request : (o : Option Request) → SameRequest o o
same_request None = none
same_request (Some r) = some refl refl refl

-- where a reply isn't taken, or doesn't stop the run, what is noted stays
pub notes_still : (takes fatal : Bool) (rep : ReplyIs) (o : Option Request) → (takes && fatal) ≡ false → NotesReply takes fatal rep o o
notes_still takes fatal rep o off = λ r s is at.
    let both : Some r ≡ Some s = sym is ∙ at in
    let same : s ≡ r = cc in
    ap (λ (v : Request). v.error) same ∙ sym (cond-false (takes && fatal) (noted_with rep r.error) r.error off)

-- ---- what follows of a call that succeeded

pub on_then : {U E : Type 0} {A B : Type 0} (r : Result U E) → (A → B) → OnOk r A → OnOk r B
on_then (Ok u) f a = f a
on_then (Err e) f a = tt

-- ---- bodies, one after another

-- one more of them
pub one_more : {A : Type 0} (xs : List A) (i : ℕ) (x : A) → i < length xs → x ≡ get_or xs i x → take (i + 1) xs ≡ take i xs ++ x ∷ []
one_more xs i x within is =
    let next : i + 1 ≡ suc i = omega arith in
    ap (λ n. take n xs) next ∙ take-suc xs i x within ∙ ap (λ d. take i xs ++ d ∷ []) (sym is)

-- the messages that were heard, with those of one body more
pub heard_more : (key : List ℕ) (before : List (List (List ℕ))) (bodies : List (List (List ℕ))) (i : ℕ) (body : List (List ℕ)) (now : List (List ℕ)) (ms ns : List Message) (heard : Option Message)
    → i < length bodies → body ≡ get_or bodies i body → arrivals_of ns ≡ and_heard (arrivals_of ms) heard
    → HasHeard key before (take i bodies ++ body ∷ []) now (and_heard (arrivals_of ms) heard) → HasHeard key before (take (i + 1) bodies) now (arrivals_of ns)
heard_more key before bodies i body now ms ns heard within is arrivals h =
    subst (λ done. HasHeard key before done now (arrivals_of ns)) (sym (one_more bodies i body within is))
    (subst (HasHeard key before (take i bodies ++ body ∷ []) now) (sym arrivals) h)

pub all_more : (ms : List Message) (m : Message) → AreContents ms → IsContent m.content → AreContents (ms ++ m ∷ [])
all_more [] m all one = (one, tt)
all_more (n ∷ ms) m all one = (all.0, all_more ms m all.1 one)

pub arrivals_more : (ms : List Message) (m : Message) → arrivals_of (ms ++ m ∷ []) ≡ arrivals_of ms ++ arrival_of m ∷ []
arrivals_more ms m = map-append arrival_of ms (m ∷ [])

pub heard_contents : (key : List ℕ) (parts was now : List (List ℕ)) (o : Option Message) → HearsOf key parts was now o → IfSome o (λ m. IsContent m.content)
heard_contents key parts was now None h = tt
heard_contents key parts was now (Some m) h = heard_content key parts was now (Some m) m refl h

-- ---- messages, one after another

pub noted_more : (ms : List Message) (i : ℕ) (m : Message) (a : Asked) → i < length ms → m ≡ get_or ms i m
    → heard_on_shell a (arrivals_of (take i ms) ++ arrival_of m ∷ []) ≡ heard_on_shell a (arrivals_of (take (i + 1) ms))
noted_more ms i m a within is = ap (heard_on_shell a) (sym (ap arrivals_of (one_more ms i m within is) ∙ arrivals_more (take i ms) m))

-- ---- what was listened to on the heartbeat

pub echoed_listens : (x y : Execution) (bodies : List (List (List ℕ))) → y ≡ echoed bodies x → Listens x y
echoed_listens x y [] e = subst (Listens x) (sym e) refl
echoed_listens x y (body ∷ bodies) e = subst (Listens x) (sym e) refl

-- ---- what is read at a place

pub by_place : {A : Type 0} (xs : List A) (i : ℕ) (x d : A) → slice_get xs i ≡ Some d → x ≡ get_or xs i x → x ≡ d
by_place [] i x d at is = absurd (cc)
by_place (y ∷ ys) zero x d at is = (let same : y ≡ d = cc in is ∙ same)
by_place (y ∷ ys) (suc i) x d at is = by_place ys i x d at is
