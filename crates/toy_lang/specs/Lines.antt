-- What a line of the toy language does, by the language's table.
use Rattle.std.specs.Prelude.{ℕ, Bool, true, false, List, [], ◌∷◌, ◌++◌, Option, Some, None, if◌then◌else◌, ◌||◌, ◌==◌, nat_lt, length, option_map, option_and_then, codes}
use Rattle.std.specs.List.{list_all, position_or_len, before_first, after_first}
use Rattle.std.specs.Str.{bytes_eq}
use Rattle.jtext.specs.Readings.{strip_word}
use Rattle.jtext.specs.Names.{is_name, short_number}
use Rattle.toy_lang.specs.declared.deed.Deed.{Deed}
use Rattle.toy_lang.specs.declared.deed.Deed.TheVariants.{Pass, Set, Give}
use Rattle.toy_lang.specs.declared.effect.Effect.TheVariants as effect
use Rattle.toy_lang.specs.declared.expression.Value.{Value}
use Rattle.toy_lang.specs.declared.expression.Value.TheVariants.{Of, Unset, Malformed}
use Rattle.toy_lang.specs.declared.verb.Verb.{Verb}
use Rattle.toy_lang.specs.declared.verb.Verb.TheVariants.{Assign, Print, PrintError, Show, Update, Conclude, Raise}
use Rattle.toy_lang.specs.Variables.{Variables}
use Rattle.toy_lang.specs.Expressions.{begins_with, value}

-- ---- errors

-- a variable that isn't set
abbrev pub name_error : List ℕ → Deed
name_error name = Give (effect.Raise (codes "NameError") name)

-- a line that the table doesn't have
abbrev pub syntax_error : List ℕ → Deed
syntax_error line = Give (effect.Raise (codes "SyntaxError") line)

-- ---- lines without an expression

-- a space or a tab
abbrev pub is_blank_byte : ℕ → Bool
is_blank_byte c = (c == 32) || (c == 9)

-- a comment or a blank line
abbrev pub is_passed : List ℕ → Bool
is_passed line = begins_with 35 line || list_all is_blank_byte line

-- what stands behind `sleep `
abbrev pub strip_sleep : List ℕ → Option (List ℕ)
strip_sleep line = strip_word (codes "sleep ") line

-- `sleep MS`, with 1 to 9 digits
abbrev pub sleep : List ℕ → Option Deed
sleep line = option_map (λ ms. Give (effect.Sleep ms)) (option_and_then short_number (strip_sleep line))

-- a blank line, a comment, `clear`, `clearwait`, `die` or `sleep MS`
abbrev pub plain_deed : List ℕ → Option Deed
plain_deed line =
    if is_passed line then Some Pass
    else if bytes_eq line (codes "clear") then Some (Give (effect.Clear false))
    else if bytes_eq line (codes "clearwait") then Some (Give (effect.Clear true))
    else if bytes_eq line (codes "die") then Some (Give effect.Die)
    else sleep line

-- ---- lines with an expression: what they do with its value, a name or a display id, and the expression

-- what stands before the first space and what stands behind it
abbrev pub split_word : List ℕ → Option (List ℕ × List ℕ)
split_word line =
    if nat_lt (position_or_len (λ c. c == 32) line) (length line)
    then Some (before_first (λ c. c == 32) line, after_first (λ c. c == 32) line)
    else None

-- what stands behind `= `
abbrev pub strip_equals : List ℕ → Option (List ℕ)
strip_equals rest = strip_word (codes "= ") rest

-- the expression of `NAME = EXPR`
abbrev pub assignment : List ℕ → List ℕ → Option (List ℕ)
assignment word rest = if is_name word then strip_equals rest else None

-- an id, which isn't empty, and an expression
abbrev pub identify : Verb → List ℕ × List ℕ → Option (Verb × List ℕ × List ℕ)
identify verb p = if length p.0 == 0 then None else Some (verb, p.0, p.1)

-- `ID EXPR`
abbrev pub with_id : Verb → List ℕ → Option (Verb × List ℕ × List ℕ)
with_id verb rest = option_and_then (identify verb) (split_word rest)

-- a name and an expression
abbrev pub raise_of : List ℕ × List ℕ → Option (Verb × List ℕ × List ℕ)
raise_of p = if is_name p.0 then Some (Raise, p.0, p.1) else None

-- `NAME EXPR`
abbrev pub with_name : List ℕ → Option (Verb × List ℕ × List ℕ)
with_name rest = option_and_then raise_of (split_word rest)

-- a command and what stands behind it
abbrev pub command : List ℕ → List ℕ → Option (Verb × List ℕ × List ℕ)
command word rest =
    if bytes_eq word (codes "print") then Some (Print, [], rest)
    else if bytes_eq word (codes "err") then Some (PrintError, [], rest)
    else if bytes_eq word (codes "result") then Some (Conclude, [], rest)
    else if bytes_eq word (codes "show") then with_id Show rest
    else if bytes_eq word (codes "update") then with_id Update rest
    else if bytes_eq word (codes "raise") then with_name rest
    else None

-- an assignment where there is one, else a command
abbrev pub assigned_or_command : List ℕ → List ℕ → Option (List ℕ) → Option (Verb × List ℕ × List ℕ)
assigned_or_command word rest (Some expression) = Some (Assign, word, expression)
assigned_or_command word rest None = command word rest

-- the statement of a first word and what stands behind it
abbrev pub statement_of_words : List ℕ × List ℕ → Option (Verb × List ℕ × List ℕ)
statement_of_words p = assigned_or_command p.0 p.1 (assignment p.0 p.1)

-- the statement of a line
abbrev pub statement : List ℕ → Option (Verb × List ℕ × List ℕ)
statement line = option_and_then statement_of_words (split_word line)

-- ---- what lines do

-- what is done with a value
abbrev pub deed_of_value : Verb → List ℕ → List ℕ → Deed
deed_of_value Assign name text = Set name text
deed_of_value Print word text = Give (effect.Print false (text ++ 10 ∷ []))
deed_of_value PrintError word text = Give (effect.Print true (text ++ 10 ∷ []))
deed_of_value Show id text = Give (effect.Show id text false)
deed_of_value Update id text = Give (effect.Show id text true)
deed_of_value Conclude word text = Give (effect.Outcome text)
deed_of_value Raise name text = Give (effect.Raise name text)

-- what is done where an expression came to that
abbrev pub deed_of_result : List ℕ → Verb × List ℕ × List ℕ → Value → Deed
deed_of_result line s (Of text) = deed_of_value s.0 s.1 text
deed_of_result line s Unset = name_error s.2
deed_of_result line s Malformed = syntax_error line

-- what a statement does
abbrev pub deed_of_statement : Variables → List ℕ → Verb × List ℕ × List ℕ → Deed
deed_of_statement vars line s = deed_of_result line s (value vars s.2)

-- what a line does that is a statement, or none
abbrev pub deed_or_error : Variables → List ℕ → Option (Verb × List ℕ × List ℕ) → Deed
deed_or_error vars line (Some s) = deed_of_statement vars line s
deed_or_error vars line None = syntax_error line

-- what a line does by its first word, where it has no plain deed
abbrev pub deed_from : Variables → List ℕ → Option Deed → Deed
deed_from vars line (Some deed) = deed
deed_from vars line None = deed_or_error vars line (statement line)

-- what a line does, where the variables are these
abbrev pub deed : Variables → List ℕ → Deed
deed vars line = deed_from vars line (plain_deed line)
