-- What is spelled is read: from lists to the reader's answer.
use Rattle.std.proofs.Common.{◌≡◌, ℕ, ◌+◌, ◌≤◌, arith, List, Result, Ok, Err, sym, ap, ◌∙◌, subst}
use Rattle.jtext.specs.declared.json.Json.{Json}
use Rattle.jtext.specs.declared.fault.Fault.{Fault}
use Rattle.jtext.specs.declared.fault.Fault.TheVariants.{NoMemory, Bad, Deep, Repeated, Lone}
use Rattle.jtext.specs.declared.fault.JsonFault.{JsonFault}
use Rattle.jtext.specs.Grammar.{Spells}
use Rattle.jtext.specs.Depth.{depth}
use Rattle.jtext.specs.Reading.{document_at}
use Rattle.jtext.specs.Gives.{Fails, ReadsAs, fault_within}
use Rattle.jtext.proofs.Documents.{document_complete}

reads : (t : Json) (b s : List ℕ) (n : ℕ) → s ≡ b → Spells t b → depth t ≤ n → document_at n s ≡ Ok t
reads t b s n e is deep = ap (document_at n) e ∙ document_complete t b n is deep

pub ok_only : (t x : Json) (b s : List ℕ) (n : ℕ) → s ≡ b → Spells t b → depth t ≤ n → document_at n s ≡ Ok x → x ≡ t
ok_only t x b s n e is deep exact = let same : Ok x ≡ Ok t = sym exact ∙ reads t b s n e is deep in cc

pub never : (t : Json) (f : Fault) (r : Result Json Fault) → r ≡ Ok t → r ≡ Err f → ⊥
never t f r p q = cc

pub err_only : (t : Json) (f : Fault) (g : JsonFault) (len : ℕ) (b s : List ℕ) (n : ℕ) → s ≡ b → Spells t b → depth t ≤ n → Fails f (document_at n s) → g ≡ fault_within f len → ReadsAs (Err g) t
err_only t NoMemory g len b s n e is deep fails within = subst (λ y. ReadsAs (Err y) t) (sym within) tt
err_only t (Bad left) g len b s n e is deep fails within = absurd (never t (Bad left) (document_at n s) (reads t b s n e is deep) fails)
err_only t (Deep left) g len b s n e is deep fails within = absurd (never t (Deep left) (document_at n s) (reads t b s n e is deep) fails)
err_only t (Repeated left) g len b s n e is deep fails within = absurd (never t (Repeated left) (document_at n s) (reads t b s n e is deep) fails)
err_only t (Lone left) g len b s n e is deep fails within = absurd (never t (Lone left) (document_at n s) (reads t b s n e is deep) fails)

pub one_tree : (t u : Json) (b : List ℕ) → Spells t b → Spells u b → t ≡ u
one_tree t u b is so =
    let n = depth t + depth u in
    let same : Ok t ≡ Ok u = sym (document_complete t b n is (omega arith)) ∙ document_complete u b n so (omega arith) in
    ok_same t u same
  where
    ok_same : (t u : Json) → ◌≡◌ {A = Result Json Fault} (Ok t) (Ok u) → t ≡ u
    ok_same t u e = cc
