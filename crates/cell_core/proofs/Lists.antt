-- Lemmas on lists of events and of what came since a moment.
use Rattle.std.proofs.Common.{◌≡◌, ℕ, List, [], ◌∷◌, ◌++◌, length, drop, Bool, true, false, not, ◌&&◌, if◌then◌else◌, Option, Some, None, is_some, refl, ap, subst, ◌∙◌}
use Rattle.std.proofs.Math.Seq.{drop-append_seam}
use Rattle.std.proofs.lemmas.Bool.{and_parts}
use Rattle.cell_core.specs.declared.event.Event.{Event}
use Rattle.cell_core.specs.declared.event.Event.TheVariants.{Saved, Ready, Io, Reply, Moment, Looked, Lost, Broken}
use Rattle.cell_core.specs.declared.brief.Brief.{Brief}
use Rattle.cell_core.specs.Events.{since, since_more}
use Rattle.cell_core.specs.Requests.{has_idle, own, reply, is_over, is_fatal, is_passed, is_true_in}

pub seam : {A : Type 0} (xs ys : List A) (n : ℕ) → length xs ≡ n → drop n (xs ++ ys) ≡ ys
seam xs ys n e = subst (λ m. drop m (xs ++ ys) ≡ ys) e (drop-append_seam xs ys)

pub since_some : (test : List Event → Bool) (event : Event) (past later : List Event) → since test past ≡ Some later → since test (event ∷ past) ≡ Some (event ∷ later)
since_some test event past later e = ap (since_more test event past) e

pub since_none : (test : List Event → Bool) (event : Event) (past : List Event) → since test past ≡ None → test (event ∷ past) ≡ false → since test (event ∷ past) ≡ None
since_none test event past e fails = ap (since_more test event past) e ∙ ap (λ (b : Bool). if b then Some [] else None) fails

pub since_now : (test : List Event → Bool) (event : Event) (past : List Event) → since test past ≡ None → test (event ∷ past) ≡ true → since test (event ∷ past) ≡ Some []
since_now test event past e holds = ap (since_more test event past) e ∙ ap (λ (b : Bool). if b then Some [] else None) holds

-- what ends with an idle stays as it is
pub own_stays : (event : Event) (later : List Event) → has_idle (own later) ≡ true → own (event ∷ later) ≡ own later
own_stays (Io message) later h = ap (λ (b : Bool). if b then own later else message ∷ own later) h
own_stays Saved later h = refl
own_stays Ready later h = refl
own_stays (Reply f) later h = refl
own_stays (Moment t) later h = refl
own_stays Looked later h = refl
own_stays Lost later h = refl
own_stays Broken later h = refl

pub reply_stays : (event : Event) (later : List Event) → is_some (reply later) ≡ true → reply (event ∷ later) ≡ reply later
reply_stays (Reply f) later h = ap (λ (b : Bool). if b then reply later else Some f) h
reply_stays (Io message) later h = refl
reply_stays Saved later h = refl
reply_stays Ready later h = refl
reply_stays (Moment t) later h = refl
reply_stays Looked later h = refl
reply_stays Lost later h = refl
reply_stays Broken later h = refl

over_by : (a : Option Bool) (b : List Brief) (c : Option Bool) (d : List Brief) → c ≡ a → d ≡ b → (is_some a && has_idle b) ≡ (is_some c && has_idle d)
over_by a b c d e f = rw (e, f) refl

-- a request that is over stays so, with its reply
pub over_stays : (event : Event) (later : List Event) → is_over later ≡ true → is_over (event ∷ later) ≡ true
over_stays event later h =
    let both = and_parts (is_some (reply later)) (has_idle (own later)) h in
    rw (reply_stays event later both.0, own_stays event later both.1) h

pub fatal_stays : (event : Event) (later : List Event) → is_over later ≡ true → is_fatal (event ∷ later) ≡ is_fatal later
fatal_stays event later h =
    let both = and_parts (is_some (reply later)) (has_idle (own later)) h in
    ap is_true_in (reply_stays event later both.0)

pub passed_stays : (event : Event) (later : List Event) → is_passed later ≡ true → is_passed (event ∷ later) ≡ true
passed_stays event later h =
    let both = and_parts (is_over later) (not (is_fatal later)) h in
    rw (over_stays event later both.0, fatal_stays event later both.0) both.1
