-- Expressions of the toy language: a JSON number, `True`, `False`, `None`, a string literal, a text that begins
-- with `[` or `{`, or a variable's name.
use Rattle.std.specs.Prelude.{ℕ, Bool, List, Option, Some, None, if◌then◌else◌, ◌&&◌, ◌||◌, ◌==◌, nat_lt, length, slice_index, codes}
use Rattle.std.specs.Str.{bytes_eq}
use Rattle.jtext.specs.Names.{is_name, is_number}
use Rattle.toy_lang.specs.declared.expression.Value.{Value}
use Rattle.toy_lang.specs.declared.expression.Value.TheVariants.{Of, Unset, Malformed}
use Rattle.toy_lang.specs.Literals.{literal_text}
use Rattle.toy_lang.specs.Variables as variables
use Rattle.toy_lang.specs.Variables.{Variables}

-- ---- what stands for itself

-- one of the three constants
abbrev pub is_constant : List ℕ → Bool
is_constant word =
    bytes_eq word (codes "True") || bytes_eq word (codes "False") || bytes_eq word (codes "None")

-- the text begins with that byte
abbrev pub begins_with : ℕ → List ℕ → Bool
begins_with c text = nat_lt 0 (length text) && (slice_index text 0 == c)

-- a number, a constant, or a text that begins like a list or an object
abbrev pub stands_for_itself : List ℕ → Bool
stands_for_itself expression =
    is_constant expression || begins_with 91 expression || begins_with 123 expression || is_number expression

-- ---- values

-- the text of a literal, if it is one
abbrev pub value_or_malformed : Option (List ℕ) → Value
value_or_malformed None = Malformed
value_or_malformed (Some text) = Of text

-- the value of a variable, if it is set
abbrev pub value_or_unset : Option (List ℕ) → Value
value_or_unset None = Unset
value_or_unset (Some text) = Of text

-- what begins as a string literal
abbrev pub value_of_literal : List ℕ → Value
value_of_literal literal = value_or_malformed (literal_text literal)

-- a variable's name
abbrev pub value_of_name : Variables → List ℕ → Value
value_of_name vars name = value_or_unset (variables.value_of name vars)

-- what an expression comes to, where the variables are these
abbrev pub value : Variables → List ℕ → Value
value vars expression =
    if stands_for_itself expression then Of expression
    else if begins_with 34 expression then value_of_literal expression
    else if is_name expression then value_of_name vars expression
    else Malformed
