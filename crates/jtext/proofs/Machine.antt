-- The texts of the grammar without trees byte by byte, as a machine with a stack. It serves proofs alone: which byte is the first that no text goes on with is found by it.
use Rattle.std.specs.Prelude.{◌≡◌, ℕ, zero, suc, Bool, true, false, if◌then◌else◌, ◌==◌, ◌||◌, List, [], ◌∷◌, ◌++◌, length, codes, Option, Some, None, option_and_then, Result, Ok, Err}
use Rattle.std.specs.Char.{is_ascii_digit, is_digit}
use Rattle.jtext.specs.declared.fault.Fault.{Fault}
use Rattle.jtext.specs.declared.fault.Fault.TheVariants.{NoMemory, Bad, Deep, Repeated, Lone}
use Rattle.jtext.specs.declared.json.Json.{Json}
use Rattle.jtext.specs.declared.fault.JsonFault.{JsonFault}
use Rattle.jtext.specs.declared.fault.JsonFault.TheVariants as json_fault
use Rattle.jtext.specs.Readings.{Reading}
use Rattle.jtext.specs.Strings.{is_plain, short}
use Rattle.jtext.specs.Reading.{is_space}

-- what is open
pub data Frame : Type 0 where
  list : Frame
  object : Frame

-- where in a text the next byte stands
pub data Mode : Type 0 where
  value : Mode  -- before a value
  first : Mode  -- before the first item or the end of a list
  first_key : Mode  -- before the first key or the end of an object
  key : Mode  -- before another key
  colon : Mode  -- after a key
  after : Mode  -- after a value
  text : Bool → Mode  -- in a string; true in a key
  escape : Bool → Mode  -- after a backslash
  unit : Bool → ℕ → Mode  -- that many hexadecimal digits, and one more, are wanted
  word : List ℕ → Mode  -- in a word, before these letters
  minus : Mode  -- in a number: after its sign
  zero_ : Mode  -- after its whole part, where no digit may come
  whole : Mode  -- after a digit of its whole part
  point : Mode  -- after its point
  fraction : Mode  -- after a digit of its fraction
  tail : Mode  -- after its fraction
  power : Mode  -- after its `e`
  sign : Mode  -- after the sign of its power
  exponent : Mode  -- after a digit of its power

-- the mode, and what is open, innermost first
abbrev pub State : Type 0
State = Mode × List Frame

abbrev pub at : Mode → List Frame → State
at m fs = (m, fs)

abbrev pub string_end : Bool → Mode
string_end true = colon
string_end false = after

-- after a value
abbrev pub step_after : List Frame → ℕ → Option State
step_after [] c = if is_space c then Some (at after []) else None
step_after (list ∷ fs) c =
    if is_space c then Some (at after (list ∷ fs)) else if c == 93 then Some (at after fs) else if c == 44 then Some (at value (list ∷ fs)) else None
step_after (object ∷ fs) c =
    if is_space c then Some (at after (object ∷ fs)) else if c == 125 then Some (at after fs) else if c == 44 then Some (at key (object ∷ fs)) else None

-- after a whole part, or later, of a number
abbrev pub step_tail : List Frame → ℕ → Option State
step_tail fs c = if (c == 101) || (c == 69) then Some (at power fs) else step_after fs c

abbrev pub step_part : List Frame → ℕ → Option State
step_part fs c = if c == 46 then Some (at point fs) else step_tail fs c

abbrev pub step_minus : List Frame → ℕ → Option State
step_minus fs c = if c == 48 then Some (at zero_ fs) else if is_ascii_digit c then Some (at whole fs) else None

abbrev pub step_value : List Frame → ℕ → Option State
step_value fs c =
    if c == 110 then Some (at (word (codes "ull")) fs)
    else if c == 116 then Some (at (word (codes "rue")) fs)
    else if c == 102 then Some (at (word (codes "alse")) fs)
    else if c == 34 then Some (at (text false) fs)
    else if c == 91 then Some (at first (list ∷ fs))
    else if c == 123 then Some (at first_key (object ∷ fs))
    else if is_space c then Some (at value fs)
    else if c == 45 then Some (at minus fs)
    else step_minus fs c

abbrev pub step_key : List Frame → ℕ → Option State
step_key fs c = if c == 34 then Some (at (text true) fs) else if is_space c then Some (at key fs) else None

abbrev pub closed : List Frame → Option State
closed [] = None
closed (f ∷ fs) = Some (at after fs)

abbrev pub step_digit : Mode → List Frame → ℕ → Option State
step_digit m fs c = if is_ascii_digit c then Some (at m fs) else None

abbrev pub step_word : List ℕ → List Frame → ℕ → Option State
step_word [] fs c = step_after fs c
step_word (l ∷ ls) fs c = if c == l then Some (at (word ls) fs) else None

abbrev pub step_escape : Bool → List Frame → ℕ → Option ℕ → Option State
step_escape k fs c None = None
step_escape k fs c (Some d) = Some (at (text k) fs)

abbrev pub step_unit : Bool → ℕ → List Frame → Option State
step_unit k zero fs = Some (at (text k) fs)
step_unit k (suc n) fs = Some (at (unit k n) fs)

abbrev pub step_text : Bool → List Frame → ℕ → Option State
step_text k fs c = if is_plain c then Some (at (text k) fs) else if c == 34 then Some (at (string_end k) fs) else if c == 92 then Some (at (escape k) fs) else None

abbrev pub step_mode : Mode → List Frame → ℕ → Option State
step_mode value fs c = step_value fs c
step_mode first fs c = if c == 93 then closed fs else if is_space c then Some (at first fs) else step_value fs c
step_mode first_key fs c = if c == 125 then closed fs else if is_space c then Some (at first_key fs) else step_key fs c
step_mode key fs c = step_key fs c
step_mode colon fs c = if c == 58 then Some (at value fs) else if is_space c then Some (at colon fs) else None
step_mode after fs c = step_after fs c
step_mode (text k) fs c = step_text k fs c
step_mode (escape k) fs c = if c == 117 then Some (at (unit k 3) fs) else step_escape k fs c (short c)
step_mode (unit k n) fs c = if is_digit c 16 then step_unit k n fs else None
step_mode (word ls) fs c = step_word ls fs c
step_mode minus fs c = step_minus fs c
step_mode zero_ fs c = step_part fs c
step_mode whole fs c = if is_ascii_digit c then Some (at whole fs) else step_part fs c
step_mode point fs c = step_digit fraction fs c
step_mode fraction fs c = if is_ascii_digit c then Some (at fraction fs) else step_tail fs c
step_mode tail fs c = step_tail fs c
step_mode power fs c = if (c == 45) || (c == 43) then Some (at sign fs) else step_digit exponent fs c
step_mode sign fs c = step_digit exponent fs c
step_mode exponent fs c = if is_ascii_digit c then Some (at exponent fs) else step_after fs c

abbrev pub step : State → ℕ → Option State
step s c = step_mode s.0 s.1 c

-- the state after these bytes, where a text may begin with them
abbrev pub run : State → List ℕ → Option State
run σ [] = Some σ
run σ (c ∷ cs) = option_and_then (λ τ. run τ cs) (step σ c)

abbrev pub start : State
start = at value []

-- no text ends here: white space does not lead to a value with nothing open
abbrev pub Open : State → Type 0
Open σ = step σ 32 ≡ Some (at after []) → ⊥

-- no text goes on with the first of these bytes, or none ends here
abbrev pub Refuses : State → List ℕ → Type 0
Refuses σ [] = Open σ
Refuses σ (c ∷ cs) = step σ c ≡ None

-- the machine in σ stands at the place of the fault, before rest
abbrev pub Stands : Fault → State → List ℕ → Type 0
Stands NoMemory σ rest = ⊥
Stands (Bad n) σ rest = (length rest ≡ n) × Refuses σ rest
Stands (Deep n) σ rest = length rest ≡ n
Stands (Repeated n) σ rest = length rest ≡ n
Stands (Lone n) σ rest = length rest ≡ n

-- at that place of the bytes the fault stands, and up to it they begin a text
pub record Stops (σ : State) (s : List ℕ) (f : Fault) : Type 0 where
  pub front : List ℕ
  pub rest : List ℕ
  pub place : State
  pub split : s ≡ front ++ rest
  pub runs : run σ front ≡ Some place
  pub stands : Stands f place rest

-- σ goes on as τ does, and ends no text where τ ends none
abbrev pub Like : State → State → List ℕ → Type 0
Like σ τ [] = Open τ → Open σ
Like σ τ (c ∷ cs) = step σ c ≡ step τ c

pub record Passed (σ τ : State) (s rest : List ℕ) : Type 0 where
  pub front : List ℕ
  pub place : State
  pub split : s ≡ front ++ rest
  pub runs : run σ front ≡ Some place
  pub like : Like place τ rest

-- where reading answers, the machine has come from σ to τ; where it fails, the machine stands at the place
abbrev pub Follows : {A : Type 0} → State → State → List ℕ → Reading A → Type 0
Follows σ τ s (Ok p) = Passed σ τ s p.1
Follows σ τ s (Err f) = Stops σ s f

-- a text of the looser grammar: after white space behind it nothing is open and a value stands
abbrev pub IsText : List ℕ → Type 0
IsText b = run start (b ++ 32 ∷ []) ≡ Some (at after [])

-- some continuation makes the bytes a text
abbrev pub IsBegun : List ℕ → Type 0
IsBegun b = (more : List ℕ) × IsText (b ++ more)

-- with the next byte none does, or there is none and the bytes are no text
abbrev pub NoneGoesOn : List ℕ → List ℕ → Type 0
NoneGoesOn front [] = IsText front → ⊥
NoneGoesOn front (c ∷ cs) = (more : List ℕ) → IsText (front ++ c ∷ more) → ⊥

-- the bytes up to that place begin a text
pub record Placed (b : List ℕ) (n : ℕ) : Type 0 where
  pub front : List ℕ
  pub rest : List ℕ
  pub split : b ≡ front ++ rest
  pub here : length front ≡ n
  pub begun : IsBegun front

-- and no more of them do: the longest prefix that some continuation makes a text
pub record Broken (b : List ℕ) (n : ℕ) : Type 0 where
  pub front : List ℕ
  pub rest : List ℕ
  pub split : b ≡ front ++ rest
  pub here : length front ≡ n
  pub begun : IsBegun front
  pub ends : NoneGoesOn front rest

abbrev pub AtPlace : List ℕ → Result Json JsonFault → Type 0
AtPlace b (Ok t) = Unit {0}
AtPlace b (Err json_fault.NoMemory) = Unit {0}
AtPlace b (Err (json_fault.NotUtf8 n)) = Unit {0}
AtPlace b (Err (json_fault.Bad n)) = Broken b n
AtPlace b (Err (json_fault.Deep n)) = Placed b n
AtPlace b (Err (json_fault.Repeated n)) = Placed b n
AtPlace b (Err (json_fault.Lone n)) = Placed b n
