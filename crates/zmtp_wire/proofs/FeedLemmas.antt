-- The decoder over pieces.
use Rattle.std.proofs.Common.{◌≡◌, ℕ, ◌+◌, List, [], ◌∷◌, ◌++◌, length, Err, Bool, get_or, refl, ap, sym, ◌∙◌, arith, length-append, append_assoc, append-nil}
use Rattle.zmtp_wire.specs.declared.role.Role.{Role}
use Rattle.zmtp_wire.specs.declared.fault.WireFault.{WireFault}
use Rattle.zmtp_wire.specs.declared.state.State.{State}
use Rattle.zmtp_wire.specs.declared.state.State.TheVariants.{Greeting, Units, Failed}
use Rattle.zmtp_wire.specs.declared.decoder.Decoder.{Decoder}
use Rattle.zmtp_wire.specs.Fault.{clip}
use Rattle.zmtp_wire.specs.Decoder.{StandsFor, answer_in}
use Rattle.zmtp_wire.specs.Machine.{Took, before, quiet, tick, ticks, run, reading}
use Rattle.zmtp_wire.proofs.RunLemmas.{run-append}

pub new-stands : (d : Decoder) → d.at ≡ 0 → d.version.major ≡ 0 → d.version.minor ≡ 0 → d.state ≡ Greeting [] → d.owed ≡ [] → StandsFor d [] []
unfolding run
new-stands d a j n s o = record { place = a; major = j; minor = n; reads = s; contexts = o }

-- a fault stays
pub run-failed : (r : Role) (at : ℕ) (over : Bool) (e : WireFault) (b : List ℕ) → run r at (Failed over e) b ≡ quiet (Failed over e)
unfolding run
run-failed r at over e [] = refl
run-failed r at over e (x ∷ b) = ap (before (quiet (Failed over e))) (run-failed r (tick at) over e b)

pub reading-append : (r : Role) (b c : List ℕ) → reading r (b ++ c) ≡ before (reading r b) (run r (ticks 0 (length b)) (reading r b).state c)
reading-append r b c = run-append r 0 (Greeting []) b c (omega arith)

ticks_more : (n m : ℕ) → ticks (ticks 0 n) m ≡ ticks 0 (n + m)
ticks_more n m = omega arith

-- the reading of the whole, where the decoder stood for b
pub fed : (d : Decoder) (b piece : List ℕ) (given : List (List ℕ)) → StandsFor d b given → reading d.role (b ++ piece) ≡ before (reading d.role b) (run d.role d.at d.state piece)
fed d b piece given s =
    reading-append d.role b piece ∙ ap (λ n. before (reading d.role b) (run d.role n (reading d.role b).state piece)) (sym s.place) ∙ ap (λ x. before (reading d.role b) (run d.role d.at x piece)) (sym s.reads)

-- the decoder after a piece, where its parts are those of the machine
pub record Fed (d d' : Decoder) (piece : List ℕ) : Type 0 where
  pub role : d'.role ≡ d.role
  pub place : d'.at ≡ ticks d.at (length piece)
  pub major : (b : List ℕ) → d.at ≡ clip (length b) → d.version.major ≡ get_or b 10 0 → d'.version.major ≡ get_or (b ++ piece) 10 0
  pub minor : (b : List ℕ) → d.at ≡ clip (length b) → d.version.minor ≡ get_or b 11 0 → d'.version.minor ≡ get_or (b ++ piece) 11 0
  pub state : d'.state ≡ (run d.role d.at d.state piece).state
  pub owed : d'.owed ≡ d.owed ++ (run d.role d.at d.state piece).owed

pub place_clips : (n : ℕ) → ticks 0 n ≡ clip n
place_clips n = omega arith

pub fed-stands : (d d' : Decoder) (b piece : List ℕ) (given : List (List ℕ)) → Fed d d' piece → StandsFor d b given → StandsFor d' (b ++ piece) given
fed-stands d d' b piece given f s =
    let role : reading d'.role (b ++ piece) ≡ before (reading d.role b) (run d.role d.at d.state piece) = ap (λ x. reading x (b ++ piece)) f.role ∙ fed d b piece given s in
    let here : d.at ≡ clip (length b) = s.place ∙ place_clips (length b) in
    record {
      place = f.place ∙ ap (λ n. ticks n (length piece)) s.place ∙ ticks_more (length b) (length piece) ∙ ap (ticks 0) (sym (length-append b piece));
      major = f.major b here s.major;
      minor = f.minor b here s.minor;
      reads = f.state ∙ ap (λ t. t.state) (sym role);
      contexts =
          ap (λ x. given ++ x) f.owed ∙ sym (append_assoc given d.owed (run d.role d.at d.state piece).owed) ∙ ap (λ x. x ++ (run d.role d.at d.state piece).owed) s.contexts ∙ ap (λ t. t.owed) (sym role);
    }

failed_of : (s : State) (e : WireFault) → answer_in s ≡ Err e → (over : Bool) × (s ≡ Failed over e)
failed_of (Greeting p) e h = absurd (cc)
failed_of (Units phase u) e h = absurd (cc)
failed_of (Failed over f) e h = (over, cc)

-- a decoder that refused brings nothing to any piece
pub run-refused : (r : Role) (at : ℕ) (s : State) (e : WireFault) (b : List ℕ) → answer_in s ≡ Err e → run r at s b ≡ quiet s
run-refused r at s e b h =
    let k = failed_of s e h in
    ap (λ x. run r at x b) k.1 ∙ run-failed r at k.0 e b ∙ ap quiet (sym k.1)

-- a decoder that refused goes on over a piece with nothing but its place and version
pub refused-fed : (d d' : Decoder) (piece : List ℕ) (e : WireFault) → answer_in d.state ≡ Err e → d'.role ≡ d.role → d'.state ≡ d.state → d'.owed ≡ d.owed → d'.at ≡ ticks d.at (length piece)
    → ((b : List ℕ) → d.at ≡ clip (length b) → d.version.major ≡ get_or b 10 0 → d'.version.major ≡ get_or (b ++ piece) 10 0)
    → ((b : List ℕ) → d.at ≡ clip (length b) → d.version.minor ≡ get_or b 11 0 → d'.version.minor ≡ get_or (b ++ piece) 11 0) → Fed d d' piece
refused-fed d d' piece e h r s o p j n =
    let none = run-refused d.role d.at d.state e piece h in
    record {
      role = r;
      place = p;
      major = j;
      minor = n;
      state = s ∙ ap (λ (t : Took). t.state) (sym none);
      owed = o ∙ sym (append-nil d.owed) ∙ ap (λ (t : Took). d.owed ++ t.owed) (sym none);
    }
