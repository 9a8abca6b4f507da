-- What a dictionary's octets spell, as a function.
use Rattle.std.proofs.Common.{◌≡◌, ℕ, List, Option, Some, None, Result, Ok, Err, IfOk, IfSome, sym, ◌∙◌, refl}
use Rattle.jtext.specs.declared.json.Json.{Json}
use Rattle.jmsg.specs.Dictionary.{IsDictionary}
use Rattle.jmsg.specs.Decoding.{dictionary_in}
use Rattle.jmsg.proofs.DecodingLemmas.{dictionary_sound, dictionary_complete}

none_by : (b : List ℕ) (o : Option Json) → dictionary_in b ≡ o → ((t : Json) → IsDictionary t b → None ≡ Some t) → None ≡ dictionary_in b
none_by b None e only = sym e
none_by b (Some t) e only = only t (dictionary_sound b t e) ∙ sym e

some_by : (b : List ℕ) (o : Option Json) → IfSome o (λ t. IsDictionary t b) → ((t : Json) → IsDictionary t b → o ≡ Some t) → o ≡ dictionary_in b
some_by b None some only = none_by b (dictionary_in b) (refl) only
some_by b (Some t) some only = sym (dictionary_complete b t some)

pub dictionary_by : {E : Type 0} (b : List ℕ) (r : Result (Option Json) E) → IfOk r (λ o. IfSome o (λ t. IsDictionary t b))
    → ((t : Json) → IsDictionary t b → IfOk r (λ o. o ≡ Some t)) → IfOk r (λ o. o ≡ dictionary_in b)
dictionary_by b (Err e) some only = tt
dictionary_by b (Ok o) some only = some_by b o some only
