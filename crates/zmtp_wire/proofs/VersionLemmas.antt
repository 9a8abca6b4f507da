-- An octet of a stream that comes in pieces.
use Rattle.std.proofs.Common.{◌≡◌, ℕ, zero, suc, ◌-◌, ◌≤◌, ◌<◌, List, [], ◌∷◌, ◌++◌, length, get_or, refl, sym, ◌∙◌, arith, length-append}
use Rattle.std.proofs.lemmas.List.{get_or_append_left, get_or-append_right}
use Rattle.zmtp_wire.specs.Fault.{clip}

past_end : (b : List ℕ) (i : ℕ) → length b ≤ i → get_or b i 0 ≡ 0
past_end [] i h = refl
past_end (x ∷ b) zero h = absurd (omega arith)
past_end (x ∷ b) (suc i) h = past_end b i (omega arith)

pub known_before : (b piece : List ℕ) (at place known : ℕ) → place < at → at ≡ clip (length b) → known ≡ get_or b place 0 → known ≡ get_or (b ++ piece) place 0
known_before b piece at place known h e k = k ∙ sym (get_or_append_left b piece 0 place (omega arith))

pub comes_now : (b piece : List ℕ) (at place : ℕ) → at ≤ place → place < 64 → at ≡ clip (length b) → get_or piece (place - at) 0 ≡ get_or (b ++ piece) place 0
comes_now b piece at place h w e =
    let n : length b ≡ at = omega arith in
    sym (get_or-append_right b piece at place 0 n h)

pub comes_later : (b piece : List ℕ) (at place known : ℕ) → at ≤ place → place < 64 → length piece ≤ place - at → at ≡ clip (length b) → known ≡ get_or b place 0 → known ≡ get_or (b ++ piece) place 0
comes_later b piece at place known h w l e k =
    let n : length b ≡ at = omega arith in
    k ∙ past_end b place (omega arith) ∙ sym (past_end (b ++ piece) place (omega (arith, length-append b piece)))
