use Rattle.std.proofs.Common.{◌≡◌, not, Some, [], find, option_and_then, IfOk, subst}
use Rattle.std.specs.List.{list_any}
use Rattle.std.specs.Str.{bytes_eq}
use Rattle.nb_model.specs.Pointer as pointer
use Rattle.nb_model.proofs.places.unknown_key.Goals as goal

pub returns : goal.returns
returns c =
    subst (λ ps. IfOk c.unknown_place.result (λ r. r ≡ option_and_then (λ p. pointer.under_key p.0 (Some [])) (find (λ p. not (list_any (λ k. bytes_eq p.0 k.now) c.args.known.now)) ps)))
    c.pairs.ensures c.unknown_place.ensures
