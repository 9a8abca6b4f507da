-- The words ask for what a run can do.
use Rattle.std.proofs.Common.{◌≡◌, ◌≤◌, ◌<◌, ◌^◌, ℕ, ◌*◌, Bool, true, false, cond, ◌&&◌, List, [], ◌∷◌, Option, Some, None, IfSome, refl, sym, subst, arith}
use Rattle.std.specs.Prelude.{nat_le, codes, option_map, option_and_then, unwrap_or}
use Rattle.std.specs.List.{AllByRecursion}
use Rattle.std.specs.Str.{bytes_eq}
use Rattle.std.proofs.lemmas.Bool.Decides.{nat_tests}
use Rattle.jtext.specs.declared.json.Json.{Json}
use Rattle.jtext.specs.declared.json.Json.TheVariants as json
use Rattle.jtext.specs.Depth.{depth}
use Rattle.jtext.specs.Grammar.{Distinct}
use Rattle.jtext.specs.Keyed as keyed
use Rattle.jtext.specs.Keyed.{Keyed}
use Rattle.jtext.proofs.Depths.{depth-Null, depth-Bool, depth-Num, depth-Str}
use Rattle.words.specs.declared.choice.Choice.TheVariants as choice
use Rattle.words.specs.declared.command.Command.{Command}
use Rattle.words.specs.declared.form.Form.{Form}
use Rattle.words.specs.declared.form.Form.TheVariants.{One, Batch, Exercise}
use Rattle.words.specs.declared.part.Part.{Part}
use Rattle.words.specs.Numbers.{seconds, count, within}
use Rattle.words.specs.Parts.{word, parts_of, is_choice}
use Rattle.words.specs.Forms.{form_of}
use Rattle.words.specs.Values.{value_of}
use Rattle.words.specs.Parameters.{with_parameter, parameters_from}
use Rattle.jtext.specs.Edit.{set_pair}
use Rattle.jtext.specs.Names.{is_number, short_number}
use Rattle.words.specs.Asked.{option_value, milliseconds, ask_of, command_in, command_of_words}
use Rattle.words.specs.Runnable.{IsParameter, IsRunnable, IsRunnableCommand}
use Rattle.words.proofs.PairLemmas.{all-set_pair, distinct-set_pair}

-- ---- values

-- no key stands twice in it, and it nests at most 100 deep
abbrev pub IsPlain : Json → Type 0
IsPlain v = Keyed v × (depth v ≤ 100)

flat : (n : ℕ) → n ≡ 0 → n ≤ 100
flat n e = omega arith

plain_bool : (b : Bool) → IsPlain (json.Bool b)
plain_bool b = (keyed.boolean b, flat (depth (json.Bool b)) (depth-Bool b))

plain_null : IsPlain json.Null
plain_null = (keyed.null, flat (depth json.Null) depth-Null)

plain_num : (s : List ℕ) → IsPlain (json.Num s)
plain_num s = (keyed.number s, flat (depth (json.Num s)) (depth-Num s))

plain_str : (s : List ℕ) → IsPlain (json.Str s)
plain_str s = (keyed.text s, flat (depth (json.Str s)) (depth-Str s))

one_of : (b : Bool) (x y : Json) → IsPlain x → IsPlain y → IsPlain (cond b x y)
one_of true x y p q = p
one_of false x y p q = q

plain_value : (text : List ℕ) → IsPlain (value_of text)
plain_value text =
    one_of (bytes_eq text (codes "True")) _ _ (plain_bool true)
    (one_of (bytes_eq text (codes "False")) _ _ (plain_bool false)
    (one_of (bytes_eq text (codes "None")) _ _ plain_null
    (one_of (is_number text) _ _ (plain_num text) (plain_str text))))

-- ---- parameters

-- parameters, each name once
abbrev pub AreParameters : List (List ℕ × Json) → Type 0
AreParameters fields = Distinct fields × AllByRecursion IsParameter fields

-- what nests at most 100 deep can be given
pub parameter : (p : List ℕ × Json) → IsPlain p.1 → IsParameter p
parameter p plain = record { keyed = plain.0; nests = deeper (depth p.1) plain.1 }
  where
    deeper : (n : ℕ) → n ≤ 100 → n ≤ 124
    deeper n le = omega arith

put_parameter : (name : List ℕ) (v : Json) (fields : List (List ℕ × Json)) → IsPlain v → AreParameters fields → AreParameters (set_pair name v fields)
put_parameter name v fields plain are = (distinct-set_pair name v fields are.0, all-set_pair IsParameter name v fields (parameter (name, v) plain) are.1)

given_step : (a b : Bool) (x y fields : List (List ℕ × Json)) → AreParameters x → AreParameters y → AreParameters fields → AreParameters (cond a x (cond b y fields))
given_step true b x y fields p q r = p
given_step false true x y fields p q r = q
given_step false false x y fields p q r = r

given_parameters : (words : List (List ℕ)) (p : Part) (fields : List (List ℕ × Json)) → AreParameters fields → AreParameters (with_parameter words p fields)
given_parameters words p fields are =
    given_step (is_choice choice.Parameter p.kind) (is_choice choice.RawParameter p.kind) _ _ fields
    (put_parameter (word p.first words) (value_of (word p.second words)) fields (plain_value (word p.second words)) are)
    (put_parameter (word p.first words) (json.Str (word p.second words)) fields (plain_str (word p.second words)) are)
    are

all_parameters : (words : List (List ℕ)) (fields : List (List ℕ × Json)) (ps : List Part) → AreParameters fields → AreParameters (parameters_from words fields ps)
all_parameters words fields [] are = are
all_parameters words fields (p ∷ ps) are = all_parameters words (with_parameter words p fields) ps (given_parameters words p fields are)

-- ---- numbers

between : (least most n : ℕ) (b : Bool) → (nat_le least n && nat_le n most) ≡ b → IfSome (cond b (Some n) None) (λ k. (least ≤ k) × (k ≤ most))
between least most n true e = (grind (arith, nat_tests), grind (arith, nat_tests))
between least most n false e = tt

in_range : (least most : ℕ) (o : Option ℕ) → IfSome (option_and_then (within least most) o) (λ k. (least ≤ k) × (k ≤ most))
in_range least most None = tt
in_range least most (Some n) = between least most n (nat_le least n && nat_le n most) refl

seconds_range : (text : List ℕ) → IfSome (seconds text) (λ n. (1 ≤ n) × (n ≤ 999999999))
seconds_range text = skipped _ _ (in_range 1 999999999 (short_number text))
  where
    skipped : (b : Bool) (o : Option ℕ) → IfSome o (λ n. (1 ≤ n) × (n ≤ 999999999)) → IfSome (cond b None o) (λ n. (1 ≤ n) × (n ≤ 999999999))
    skipped true o h = tt
    skipped false o h = h

count_range : (text : List ℕ) → IfSome (count text) (λ n. (0 ≤ n) × (n ≤ 200))
count_range text = skipped _ _ (in_range 0 200 (short_number text))
  where
    skipped : (b : Bool) (o : Option ℕ) → IfSome o (λ n. (0 ≤ n) × (n ≤ 200)) → IfSome (cond b None o) (λ n. (0 ≤ n) × (n ≤ 200))
    skipped true o h = tt
    skipped false o h = h

thousands : (o : Option (List ℕ)) → IfSome (option_map (λ n. n * 1000) (option_and_then seconds o)) (λ n. (0 < n) × (n < 2 ^ 40))
thousands None = tt
thousands (Some text) = times (seconds text) (seconds_range text)
  where
    times : (o : Option ℕ) → IfSome o (λ n. (1 ≤ n) × (n ≤ 999999999)) → IfSome (option_map (λ n. n * 1000) o) (λ n. (0 < n) × (n < 2 ^ 40))
    times None h = tt
    times (Some n) h = let low : 1 ≤ n = h.0 in let high : n ≤ 999999999 = h.1 in (omega arith, omega arith)

or_minute : (o : Option ℕ) → IfSome o (λ n. (0 < n) × (n < 2 ^ 40)) → unwrap_or o 60000 < 2 ^ 40
or_minute None h = omega arith
or_minute (Some n) h = h.1

at_most_200 : (o : Option (List ℕ)) → unwrap_or (option_and_then count o) 0 ≤ 200
at_most_200 None = omega arith
at_most_200 (Some text) = or_none (count text) (count_range text)
  where
    or_none : (o : Option ℕ) → IfSome o (λ n. (0 ≤ n) × (n ≤ 200)) → unwrap_or o 0 ≤ 200
    or_none None h = omega arith
    or_none (Some n) h = h.1

-- ---- the command

ask_runnable : (input output : List ℕ) (words : List (List ℕ)) (ps : List Part) → IsRunnable (ask_of input output words ps)
ask_runnable input output words ps =
    let are = all_parameters words [] ps (tt, tt) in
    record {
      distinct = are.0;
      parameters = are.1;
      start = or_minute (milliseconds choice.StartTimeout words ps) (thousands (option_value choice.StartTimeout words ps));
      limit = thousands (option_value choice.ExecutionTimeout words ps);
    }

command_runnable : (form : Form) (words : List (List ℕ)) (ps : List Part) → IsRunnableCommand (command_in form words ps)
command_runnable One words ps = ask_runnable _ _ words ps
command_runnable Batch words ps = ask_runnable [] [] words ps
command_runnable Exercise words ps = at_most_200 (option_value choice.Exercise words ps)

pub words_runnable : (words : List (List ℕ)) (c : Command) → c ≡ command_of_words words → IsRunnableCommand c
words_runnable words c is = subst IsRunnableCommand (sym is) (command_runnable (form_of (parts_of words)) words (parts_of words))
