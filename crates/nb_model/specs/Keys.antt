-- What the schema of notebooks asks of the keys of an object, and of a value that has to be one text (nbformat
-- 4.5 schema: `required`, `properties`, `additionalProperties`, `enum`).
use Rattle.std.specs.Prelude.{ℕ, Bool, List, ◌&&◌, codes}
use Rattle.std.specs.List.{list_any, list_all}
use Rattle.std.specs.Str.{bytes_eq}
use Rattle.jtext.specs.declared.json.Json.{Json}
use Rattle.jtext.specs.Find.{fields, field}
use Rattle.jtext.specs.Look.{string, number, there_and, absent_or}

-- the value is this string
abbrev pub is_text : List ℕ → Json → Bool
is_text text t = there_and (λ s. bytes_eq s text) (string t)

-- the value is a number of this text
abbrev pub is_number : List ℕ → Json → Bool
is_number text t = there_and (λ s. bytes_eq s text) (number t)

-- the object has this key, and the test holds of its value
abbrev pub has : List ℕ → (Json → Bool) → Json → Bool
has key test t = there_and test (field t key)

-- where the object has this key, the test holds of its value
abbrev pub may_have : List ℕ → (Json → Bool) → Json → Bool
may_have key test t = absent_or test (field t key)

-- each key of the object is one of these
abbrev pub has_only : List (List ℕ) → Json → Bool
has_only keys t = list_all (λ p. list_any (λ key. bytes_eq p.0 key) keys) (fields t)

-- `nbformat` and `nbformat_minor` are those of 4.5
abbrev pub has_version : Json → Bool
has_version t =
    has (codes "nbformat") (is_number (codes "4")) t
    && has (codes "nbformat_minor") (is_number (codes "5")) t
