-- What octets give is what the machine reads.
use Rattle.std.proofs.Common.{◌≡◌, ℕ, ◌<◌, List, [], ◌++◌, length, Ok, Err, Bool, None, Some, refl, ap, sym, ◌∙◌, arith, append-nil, subst}
use Rattle.std.proofs.lemmas.Bool.{cond-false, cond-true, le-ltb, lt-ltb}
use Rattle.zmtp_wire.specs.declared.role.Role.{Role}
use Rattle.zmtp_wire.specs.declared.fault.WireFault.{WireFault}
use Rattle.zmtp_wire.specs.declared.decoder.Decoder.{Decoder}
use Rattle.zmtp_wire.specs.Greeting.{newer_of, speaks}
use Rattle.zmtp_wire.specs.Stream.{Come, nothing, greeted, shaken, Gives, stream, broken}
use Rattle.zmtp_wire.specs.Machine.{Took, ticks, run, reading, GrowsBy}
use Rattle.zmtp_wire.specs.Decoder.{StandsFor, Answer, answer_in, Brings, BringsSome}
use Rattle.zmtp_wire.proofs.StepLemmas.{state_of}
use Rattle.zmtp_wire.proofs.FeedLemmas.{fed, run-refused}
use Rattle.zmtp_wire.proofs.OutcomeLemmas.{reads, breaks, outcome, stream_reads, broken_reads}

gives_same : (role : Role) (b : List ℕ) (ms ms' : List (List (List ℕ))) (owed owed' : List (List ℕ)) (a a' : Answer) → ms ≡ ms' → owed ≡ owed' → a ≡ a' → Gives role b ms owed a → Gives role b ms' owed' a'
gives_same role b ms ms' owed owed' a a' e f h g =
    subst (λ (x : Answer). Gives role b ms' owed' x) h (subst (λ (x : List (List ℕ)). Gives role b ms' x a) f (subst (λ (x : List (List (List ℕ))). Gives role b x owed a) e g))

goes_on : (come : Come) (p : List ℕ) → answer_in (state_of come p) ≡ Ok tt
goes_on nothing p = refl
goes_on (greeted g) p = refl
goes_on (shaken g items) p = refl

-- octets give what the machine reads in them
pub gives_reading : (role : Role) (b : List ℕ) → Gives role b (reading role b).messages (reading role b).owed (answer_in (reading role b).state)
gives_reading role b =
    elim (outcome role b) [
      | reads ms owed rest s ↦
          let r = stream_reads b role ms owed rest s in gives_same role b _ _ _ _ _ _ (sym r.1) (sym r.2) (sym (ap answer_in r.0 ∙ goes_on s.come rest)) (stream ms owed rest s)
      | breaks e at ms owed k ↦
          let r = broken_reads b role e at ms owed k in gives_same role b _ _ _ _ _ _ (sym r.1) (sym r.2) (sym (ap answer_in r.0)) (broken e at ms owed k)
    ]

-- and nothing else
pub gives_read : (role : Role) (b : List ℕ) (ms : List (List (List ℕ))) (owed : List (List ℕ)) (a : Answer) → Gives role b ms owed a
    → ((reading role b).messages ≡ ms) × ((reading role b).owed ≡ owed) × (answer_in (reading role b).state ≡ a)
gives_read role b _ _ _ (stream ms owed rest s) = let r = stream_reads b role ms owed rest s in (r.1, r.2, ap answer_in r.0 ∙ goes_on s.come rest)
gives_read role b _ _ _ (broken e at ms owed k) = let r = broken_reads b role e at ms owed k in (r.1, r.2, ap answer_in r.0)

pub gives_one : (b : List ℕ) (role : Role) (ms ms' : List (List (List ℕ))) (owed owed' : List (List ℕ)) (a a' : Answer) → Gives role b ms owed a → Gives role b ms' owed' a'
    → (ms ≡ ms') × (owed ≡ owed') × (a ≡ a')
gives_one b role ms ms' owed owed' a a' g h =
    let r = gives_read role b ms owed a g in
    let s = gives_read role b ms' owed' a' h in
    (sym r.0 ∙ s.0, sym r.1 ∙ s.1, sym r.2 ∙ s.2)

-- ---- pieces

pub brings : (d : Decoder) (b piece : List ℕ) (given : List (List ℕ)) (old new : List (List (List ℕ))) (answer : Answer) → StandsFor d b given → new ≡ old ++ (run d.role d.at d.state piece).messages
    → answer ≡ answer_in (run d.role d.at d.state piece).state → Brings d.role b piece old new answer
brings d b piece given old new answer s grown a =
    let role = d.role in
    let all = fed d b piece given s in
    record {
      before = (reading role b).messages;
      more = (run role d.at d.state piece).messages;
      owed = (reading role b).owed;
      owed_now = (reading role (b ++ piece)).owed;
      answer_before = answer_in (reading role b).state;
      gave = gives_reading role b;
      gives = gives_same role (b ++ piece) _ _ _ _ _ _ (ap (λ (t : Took). t.messages) all) refl (ap (λ (t : Took). answer_in t.state) all ∙ sym a) (gives_reading role (b ++ piece));
      grown = grown;
    }

pub brings_some : (d : Decoder) (b piece : List ℕ) (given : List (List ℕ)) (old new : List (List (List ℕ))) → StandsFor d b given → GrowsBy old new (run d.role d.at d.state piece).messages
    → BringsSome d.role b piece old new
brings_some d b piece given old new s g =
    let role = d.role in
    let all = ap (λ (t : Took). t.messages) (fed d b piece given s) ∙ ap (λ m. (reading role b).messages ++ m) g.first in
    record {
      before = (reading role b).messages;
      more = g.more;
      left = g.left;
      owed = (reading role b).owed;
      owed_now = (reading role (b ++ piece)).owed;
      answer_before = answer_in (reading role b).state;
      answer_now = answer_in (reading role (b ++ piece)).state;
      gave = gives_reading role b;
      gives = gives_same role (b ++ piece) _ _ _ _ _ _ all refl refl (gives_reading role (b ++ piece));
      grown = g.grown;
    }

pub grows_none : (old all : List (List (List ℕ))) → GrowsBy old old all
grows_none old all = record { more = []; left = all; grown = sym (append-nil old); first = refl }

pub grows_all : (old new all : List (List (List ℕ))) → new ≡ old ++ all → GrowsBy old new all
grows_all old new all e = record { more = all; left = []; grown = e; first = sym (append-nil all) }

pub grows_same : (old new all all' : List (List (List ℕ))) → all ≡ all' → GrowsBy old new all → GrowsBy old new all'
grows_same old new all all' e g = record { more = g.more; left = g.left; grown = g.grown; first = sym e ∙ g.first }

pub refused-brings : (d : Decoder) (b piece : List ℕ) (given : List (List ℕ)) (old : List (List (List ℕ))) (e : WireFault) → answer_in d.state ≡ Err e → StandsFor d b given → Brings d.role b piece old old (Err e)
refused-brings d b piece given old e h s =
    let none = run-refused d.role d.at d.state e piece h in
    brings d b piece given old old (Err e) s (sym (append-nil old) ∙ ap (λ (t : Took). old ++ t.messages) (sym none)) (sym h ∙ ap (λ (t : Took). answer_in t.state) (sym none))

-- ---- the version

pub newer_none : (at : ℕ) (b : List ℕ) → at ≡ ticks 0 (length b) → at < 12 → None ≡ newer_of b
newer_none at b e h = sym (cond-true _ _ _ (lt-ltb (length b) 12 (omega arith)))

pub newer_some : (at major minor : ℕ) (b : List ℕ) (r : Bool) → at ≡ ticks 0 (length b) → (at < 12 → ⊥) → r ≡ speaks b → Some r ≡ newer_of b
newer_some at major minor b r e h s = ap Some s ∙ sym (cond-false _ _ _ (le-ltb (length b) 12 (omega arith)))
