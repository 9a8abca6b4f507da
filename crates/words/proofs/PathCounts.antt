-- There is no path with an index exactly where there are no more paths than that.
use Rattle.std.proofs.Common.{◌≡◌, ◌≤◌, ◌<◌, ℕ, ◌+◌, ◌-◌, ◌==◌, Bool, true, false, cond, List, [], ◌∷◌, Option, Some, None, refl, sym, ap, ◌∙◌, subst, arith}
use Rattle.std.proofs.lemmas.Bool.Decides.{nat_tests}
use Rattle.std.proofs.lemmas.List.Sums.{sum_by-cons}
use Rattle.words.specs.declared.part.Part.{Part}
use Rattle.words.specs.Parts.{is_path}
use Rattle.words.specs.Paths.{path}
use Rattle.words.specs.Grammar.{paths_in}
use Rattle.words.proofs.Truths.{no_some}

positive : (n : ℕ) → (n == 0) ≡ false → 0 < n
positive n e = grind (arith, nat_tests)

nonzero : (n : ℕ) → 0 < n → (n == 0) ≡ false
nonzero n e = grind (arith, nat_tests)

at_zero : (n at count : ℕ) (rest : Option ℕ) (b : Bool) → (n == 0) ≡ b → (rest ≡ None → count ≤ n - 1) → cond b (Some at) rest ≡ None → 1 + count ≤ n
at_zero n at count rest true is more e = absurd (no_some at e)
at_zero n at count rest false is more e = let lt : 0 < n = positive n is in let le : count ≤ n - 1 = more e in omega arith

counted : (b : Bool) (n at count : ℕ) (here there : Option ℕ) → (here ≡ None → 1 + count ≤ n) → (there ≡ None → count ≤ n) → cond b here there ≡ None → cond b 1 0 + count ≤ n
counted true n at count here there one none e = one e
counted false n at count here there one none e = let le : count ≤ n = none e in omega arith

-- one part more
more_paths : (p : Part) (ps : List Part) → paths_in (p ∷ ps) ≡ cond (is_path p.kind) 1 0 + paths_in ps
more_paths p ps = sum_by-cons (λ q. cond (is_path q.kind) 1 0) p ps

pub path_none : (n : ℕ) (ps : List Part) → path n ps ≡ None → paths_in ps ≤ n
path_none n [] e = omega arith
path_none n (p ∷ ps) e =
    let le : cond (is_path p.kind) 1 0 + paths_in ps ≤ n =
    counted (is_path p.kind) n p.at (paths_in ps) (cond (n == 0) (Some p.at) (path (n - 1) ps)) (path n ps)
    (λ here. at_zero n p.at (paths_in ps) (path (n - 1) ps) (n == 0) refl (path_none (n - 1) ps) here) (path_none n ps) e in
    let P : ℕ → Type 0 = λ k. k ≤ n in subst P (sym (more_paths p ps)) le

uncounted : (b : Bool) (n at count : ℕ) (before there : Option ℕ) → (count ≤ n - 1 → before ≡ None) → (count ≤ n → there ≡ None) → cond b 1 0 + count ≤ n
    → cond b (cond (n == 0) (Some at) before) there ≡ None
uncounted true n at count before there less none le = ap (λ z. cond z (Some at) before) (nonzero n (omega arith)) ∙ less (omega arith)
uncounted false n at count before there less none le = none (omega arith)

pub none_path : (n : ℕ) (ps : List Part) → paths_in ps ≤ n → path n ps ≡ None
none_path n [] le = refl
none_path n (p ∷ ps) le =
    let P : ℕ → Type 0 = λ k. k ≤ n in
    uncounted (is_path p.kind) n p.at (paths_in ps) (path (n - 1) ps) (path n ps) (none_path (n - 1) ps) (none_path n ps) (subst P (more_paths p ps) le)
