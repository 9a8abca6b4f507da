-- Files that are read by a limit.
use Rattle.std.proofs.Common.{rules, ◌≡◌, ◌<◌, ◌≤◌, ℕ, List, [], ◌++◌, Option, Some, None, length, take, IfSome, subst, ◌∙◌, ap, arith}
use Rattle.std.specs.Option.{option_map}
use Rattle.std.proofs.lemmas.List.{length-take, take_all}
use Rattle.world_real.specs.Files.{found_within}

-- so few bytes are found whole
found_small : (most : ℕ) (bytes : List ℕ) → length bytes ≤ most → Some bytes ≡ found_within most bytes
found_small most bytes within = search rules

-- fewer bytes than the limit are all of them
limited_whole : (limit : ℕ) (left bytes : List ℕ) → length bytes < limit → bytes ≡ take limit left → bytes ≡ left
limited_whole limit left bytes few is =
    let size = ap length is ∙ length-take limit left in
    is ∙ take_all limit left (omega (arith, few, size))

whole_found : (o : Option (List ℕ)) (limit most : ℕ) (bytes : List ℕ) → length bytes < limit → length bytes ≤ most
    → IfSome (option_map (take limit) o) (λ xs. bytes ≡ xs) → IfSome o (λ left. Some bytes ≡ found_within most left)
whole_found None limit most bytes few within is = is
whole_found (Some left) limit most bytes few within is =
    subst (λ xs. Some bytes ≡ found_within most xs) (limited_whole limit left bytes few is) (found_small most bytes within)

-- the same, by what the limited reader was made of and what the buffer held before
pub whole_read : {F : Type 0} (remaining : F → Option (List ℕ)) (inner file : F) (limit given most : ℕ) (front bytes : List ℕ)
    → inner ≡ file → limit ≡ given → front ≡ [] → length bytes < given → length bytes ≤ most
    → IfSome (option_map (take limit) (remaining inner)) (λ xs. bytes ≡ front ++ xs) → IfSome (remaining file) (λ left. Some bytes ≡ found_within most left)
whole_read remaining inner file limit given most front bytes of by empty few within is =
    let made = subst (λ f. IfSome (option_map (take limit) (remaining f)) (λ xs. bytes ≡ front ++ xs)) of is in
    let limited = subst (λ n. IfSome (option_map (take n) (remaining file)) (λ xs. bytes ≡ front ++ xs)) by made in
    whole_found (remaining file) given most bytes few within
    (subst (λ start. IfSome (option_map (take given) (remaining file)) (λ xs. bytes ≡ start ++ xs)) empty limited)
