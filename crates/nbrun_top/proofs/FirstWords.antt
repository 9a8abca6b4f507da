-- A word names one command.
use Rattle.std.proofs.Common.{◌≡◌, ℕ, Bool, true, false, cond, List, [], ◌∷◌, Option, Some, None, refl, sym, ◌∙◌, ap, codes}
use Rattle.std.specs.Str.{bytes_eq}
use Rattle.std.proofs.lemmas.Bool.{cond-true, cond-false}
use Rattle.std.proofs.lemmas.Option.{none-some}
use Rattle.jtext.proofs.Equals.{equal_bytes}
use Rattle.nbrun_top.specs.Asked.{report_words, graph_words}

pub no_graph : (words rest : List (List ℕ)) → report_words words ≡ Some rest → graph_words words ≡ None
no_graph [] rest is = refl
no_graph (word ∷ words) rest is = by (bytes_eq word (codes "report")) refl
  where
    by : (b : Bool) → bytes_eq word (codes "report") ≡ b → graph_words (word ∷ words) ≡ None
    by true e = ap (λ w. cond (bytes_eq w (codes "graph")) (Some words) None) (equal_bytes word (codes "report") e)
    by false e = absurd (none-some rest (sym (cond-false (bytes_eq word (codes "report")) (Some words) None e) ∙ is))
