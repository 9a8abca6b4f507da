-- One word of a command line on.
use Rattle.std.proofs.Common.{◌≡◌, ◌<◌, ◌≤◌, ℕ, ◌+◌, ◌-◌, Bool, cond, List, [], ◌∷◌, ◌++◌, sym, ap, ◌∙◌, append_assoc}
use Rattle.std.proofs.lemmas.Bool.{lt-ltb, le-ltb}
use Rattle.words.specs.declared.part.Part.{Part}
use Rattle.words.specs.Options.{arity}
use Rattle.words.specs.Parts.{parts_from, part_at, kind_of, ends, takes_of}

-- a word that is a value is passed
pub value_step : (ended : Bool) (v i : ℕ) (w : List ℕ) (ws : List (List ℕ)) → 0 < v → parts_from ended v i (w ∷ ws) ≡ parts_from ended (v - 1) (i + 1) ws
value_step ended v i w ws lt = ap (λ b. cond b (parts_from ended (v - 1) (i + 1) ws) (part_at i (kind_of ended w) ∷ parts_from (ends ended (kind_of ended w)) (arity (takes_of (kind_of ended w))) (i + 1) ws)) (lt-ltb 0 v lt)

-- any other word is a part
pub part_step : (ended : Bool) (v i : ℕ) (w : List ℕ) (ws : List (List ℕ)) → v ≤ 0
    → parts_from ended v i (w ∷ ws) ≡ part_at i (kind_of ended w) ∷ parts_from (ends ended (kind_of ended w)) (arity (takes_of (kind_of ended w))) (i + 1) ws
part_step ended v i w ws le = ap (λ b. cond b (parts_from ended (v - 1) (i + 1) ws) (part_at i (kind_of ended w) ∷ parts_from (ends ended (kind_of ended w)) (arity (takes_of (kind_of ended w))) (i + 1) ws)) (le-ltb 0 v le)

-- the whole stays the same where a value is passed
pub passed : (parts parts' : List Part) (ended ended' : Bool) (v v' i : ℕ) (w : List ℕ) (ws rest : List (List ℕ)) (all : List Part) → 0 < v
    → parts' ≡ parts → ended' ≡ ended → v' ≡ v - 1 → rest ≡ w ∷ ws
    → parts ++ parts_from ended v i rest ≡ all → parts' ++ parts_from ended' v' (i + 1) ws ≡ all
passed parts parts' ended ended' v v' i w ws rest all lt same_parts same_end less front whole =
    ap (λ x. x ++ parts_from ended' v' (i + 1) ws) same_parts
    ∙ ap (λ x. parts ++ parts_from x v' (i + 1) ws) same_end
    ∙ ap (λ x. parts ++ parts_from ended x (i + 1) ws) less
    ∙ ap (λ x. parts ++ x) (sym (value_step ended v i w ws lt))
    ∙ ap (λ x. parts ++ parts_from ended v i x) (sym front)
    ∙ whole

-- and where a part is added
pub added : (parts parts' : List Part) (ended ended' : Bool) (v v' i : ℕ) (w : List ℕ) (ws rest : List (List ℕ)) (all : List Part) → v ≤ 0
    → parts' ≡ parts ++ part_at i (kind_of ended w) ∷ [] → ended' ≡ ends ended (kind_of ended w) → v' ≡ arity (takes_of (kind_of ended w)) → rest ≡ w ∷ ws
    → parts ++ parts_from ended v i rest ≡ all → parts' ++ parts_from ended' v' (i + 1) ws ≡ all
added parts parts' ended ended' v v' i w ws rest all le more end values front whole =
    ap (λ x. x ++ parts_from ended' v' (i + 1) ws) more
    ∙ append_assoc parts (part_at i (kind_of ended w) ∷ []) (parts_from ended' v' (i + 1) ws)
    ∙ ap (λ x. parts ++ part_at i (kind_of ended w) ∷ parts_from x v' (i + 1) ws) end
    ∙ ap (λ x. parts ++ part_at i (kind_of ended w) ∷ parts_from (ends ended (kind_of ended w)) x (i + 1) ws) values
    ∙ ap (λ x. parts ++ x) (sym (part_step ended v i w ws le))
    ∙ ap (λ x. parts ++ parts_from ended v i x) (sym front)
    ∙ whole
