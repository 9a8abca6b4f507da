-- More octets poured into a buffer.
use Rattle.std.proofs.Common.{◌≡◌, ℕ, zero, suc, ◌+◌, ◌-◌, ◌<◌, ◌≤◌, min, List, [], ◌∷◌, ◌++◌, length, take, drop, get_or, sym, ap, ◌∙◌, arith}
use Rattle.std.proofs.lemmas.List.{length-append, length-take, length-drop, length-take-le, take_min, take_more, flat_map_more}
use borrow.Rule.Slice.PartMut.{put_mid}
use Rattle.std.proofs.lemmas.Slice.{take-put_mid}
use Rattle.std.proofs.Math.Seq.{take-nil, drop-nil}
use Rattle.world.specs.declared.chan.Chan.{Chan}
use Rattle.toy_core.specs.declared.act.Act.{Act}
use Rattle.toy_core.specs.Acts.{octets_on, octets_of}
use Rattle.toy_core.specs.declared.pouring.Pouring.{Pouring}
use Rattle.toy_core.specs.Pouring.{Poured}

same_rest : (n : ℕ) {A : Type 0} (xs : List A) → n - length xs ≡ suc n - suc (length xs)
same_rest n xs = omega arith

nothing_first : (n : ℕ) (ys : List ℕ) → take n ys ≡ take n [] ++ take (n - 0) ys
nothing_first n ys = grind arith

nothing_dropped : (n : ℕ) (ys : List ℕ) → drop n ys ≡ drop n [] ++ drop (n - 0) ys
nothing_dropped n ys = grind arith

abbrev empty : List ℕ
empty = []

nothing_left : (n given : ℕ) → take n (drop given empty) ≡ empty
nothing_left n given = ap (take n) (drop-nil given) ∙ take-nil n

-- the front of two lists
pub take-both : (n : ℕ) (xs ys : List ℕ) → take n (xs ++ ys) ≡ take n xs ++ take (n - length xs) ys
take-both n [] ys = nothing_first n ys
take-both zero (x ∷ xs) ys = let e : 0 ≡ 0 - length (x ∷ xs) = omega arith in ap (λ k. take k ys) e
take-both (suc n) (x ∷ xs) ys = ap (λ l. x ∷ l) (take-both n xs ys ∙ ap (λ k. take n xs ++ take k ys) (same_rest n xs))

-- what two lists leave
pub drop-both : (n : ℕ) (xs ys : List ℕ) → drop n (xs ++ ys) ≡ drop n xs ++ drop (n - length xs) ys
drop-both n [] ys = nothing_dropped n ys
drop-both zero (x ∷ xs) ys = let e : 0 ≡ 0 - length (x ∷ xs) = omega arith in ap (λ k. (x ∷ xs) ++ drop k ys) e
drop-both (suc n) (x ∷ xs) ys = drop-both n xs ys ∙ ap (λ k. drop n xs ++ drop k ys) (same_rest n xs)

taken : (rest : List ℕ) (room filled len : ℕ) → min room len ≡ filled → take (min (length rest) (room - filled)) rest ≡ take (room - len) rest
taken rest room filled len e =
    let k : min (length rest) (room - filled) ≡ min (room - len) (length rest) = omega arith in
    ap (λ n. take n rest) k ∙ take_min (room - len) rest

-- a buffer that is filled up as far as it goes
filled_more : (room filled skip given count : ℕ) (all octets front : List ℕ) → skip ≡ given - length all → skip < length octets
    → filled ≤ room → length front ≡ filled → front ≡ take room (drop given all) → count ≡ min (length (drop skip octets)) (room - filled)
    → front ++ take count (drop skip octets) ≡ take room (drop given (all ++ octets))
filled_more room filled skip given count all octets front es more fits len ef ec =
    let d : List ℕ = drop given all in
    let rest : List ℕ = drop skip octets in
    let whole : drop given (all ++ octets) ≡ d ++ rest = drop-both given all octets ∙ ap (λ k. d ++ drop k octets) (sym es) in
    let front_len : min room (length d) ≡ filled = sym (length-take room d) ∙ ap length (sym ef) ∙ len in
    let cut : take count rest ≡ take (room - length d) rest =
    ap (λ k. take k rest) ec ∙ taken rest room filled (length d) front_len in
    ap (λ x. x ++ take count rest) ef ∙ ap (λ x. take room d ++ x) cut ∙ sym (take-both room d rest) ∙ ap (take room) (sym whole)

-- a buffer keeps its length
pub length_put : (a k : ℕ) (xs ys : List ℕ) → a + k ≤ length xs → length ys ≡ k → length (put_mid a k xs ys) ≡ length xs
length_put a k xs ys h e =
    omega (arith, length-append (take a xs) (ys ++ drop k (drop a xs)), length-append ys (drop k (drop a xs)), length-take a xs, length-drop a xs, length-drop k (drop a xs))

-- the buffer after more octets were put into it
pub poured_more : (given : ℕ) (all octets buf part : List ℕ) (p : Pouring) (count end : ℕ) → Poured given all p buf → p.skip < length octets
    → count ≡ min (length (drop p.skip octets)) (length buf - p.filled) → part ≡ take count (drop p.skip octets)
    → length (put_mid p.filled (end - p.filled) buf part) ≡ length buf → end ≡ p.filled + count
    → Poured given (all ++ octets) (record { skip = 0; filled = end }) (put_mid p.filled (end - p.filled) buf part)
poured_more given all octets buf part p count end w more ec ep same_len ee =
    let part_len : length part ≡ count = ap length ep ∙ length-take count (drop p.skip octets) ∙ omega arith in
    let front : take end (put_mid p.filled (end - p.filled) buf part) ≡ take p.filled buf ++ part =
    take-put_mid p.filled (end - p.filled) buf part end (omega arith) w.within in
    record {
      skip = omega (arith, length-append all octets, w.skip);
      within = omega arith;
      filled = front ∙ ap (λ x. take p.filled buf ++ x) ep
          ∙ filled_more (length buf) p.filled p.skip given count all octets (take p.filled buf) w.skip more w.within (length-take-le p.filled buf w.within) w.filled ec
          ∙ ap (λ n. take n (drop given (all ++ octets))) (sym same_len);
    }

-- nothing was poured yet
pub poured_none : (given : ℕ) (buf : List ℕ) → Poured given [] (record { skip = given; filled = 0 }) buf
poured_none given buf = record {
  skip = omega arith;
  within = omega arith;
  filled = sym (nothing_left (length buf) given);
}

-- the octets of one act more
pub octets_more : (c : Chan) (acts : List Act) (i : ℕ) (a : Act) (all : List ℕ) → i < length acts → a ≡ get_or acts i a
    → (all ++ octets_on c (take i acts)) ++ octets_of c a ≡ all ++ octets_on c (take (i + 1) acts)
octets_more c acts i a all h e =
    flat_map_more (octets_of c) all (take i acts) a
    ∙ ap (λ l. all ++ octets_on c l) (ap (λ x. take i acts ++ x ∷ []) e ∙ sym (take_more acts i a h))
