-- Words execute notebooks, ask for the exercise, or execute nothing.
use Rattle.std.proofs.Common.{◌≡◌, ◌⊎◌, inl, inr, ℕ, Bool, true, false, not, List, Option, Some, None, refl, sym, ◌∙◌, ap, subst}
use Rattle.words.specs.declared.ask.Ask.{Ask}
use Rattle.words.specs.declared.command.Command.{Command}
use Rattle.words.specs.declared.command.Command.TheVariants as command
use Rattle.words.specs.declared.usage.Usage.{Usage}
use Rattle.words.specs.declared.usage.Usage.TheVariants as usage_fault
use Rattle.words.specs.Asked.{command_of_words}
use Rattle.words.specs.Refusals.{refusal}
use Rattle.world.specs.declared.entry.Entry.{Entry}
use Rattle.world.specs.Moments.{Told}
use Rattle.world.proofs.MomentsLemmas.{told_as}
use Rattle.nbrun_top.specs.declared.plain.Plain.{Plain}
use Rattle.nbrun_top.specs.declared.plain.Plain.TheVariants as plains
use Rattle.nbrun_top.specs.Asked.{IsPlainOf, IsJob, IsExercise, IsNoExercise, IsPlain, IsExecuting, IsExecuted, IsBatch, is_execution}
use Rattle.std.proofs.lemmas.Bool.{true≢false}

-- ---- not both

pub no_job_executes : (words : List (List ℕ)) (a : Ask) → IsExecuting words → IsJob words a → ⊥
no_job_executes words a x is =
    let e : not a.prepare ≡ true = subst (λ c. is_execution c ≡ true) is.asks x.executes in
    let f : not true ≡ true = subst (λ b. not b ≡ true) is.prepares e in
    absurd (true≢false (sym f))

pub no_exercise_executes : (words : List (List ℕ)) (n : ℕ) → IsExecuting words → IsExercise words n → ⊥
no_exercise_executes words n x is =
    let e : false ≡ true = subst (λ c. is_execution c ≡ true) is.asks x.executes in
    absurd (true≢false (sym e))

one_or_exercise : {a : Ask} {n : ℕ} → command.One a ≡ command.Exercise n → ⊥
one_or_exercise e = cc

many_or_exercise : {a : Ask} {file : List ℕ} {n : ℕ} → command.Many file a ≡ command.Exercise n → ⊥
many_or_exercise e = cc

pub no_job_exercises : (words : List (List ℕ)) (a : Ask) (n : ℕ) → IsJob words a → IsExercise words n → ⊥
no_job_exercises words a n job is = one_or_exercise (sym job.asks ∙ is.asks)

pub one_is_no_exercise : (words : List (List ℕ)) (a : Ask) → IsExecuted words a → IsNoExercise words
one_is_no_exercise words a one n is = one_or_exercise (sym one.asks ∙ is.asks)

pub batch_is_no_exercise : (words : List (List ℕ)) (file : List ℕ) (common : Ask) → IsBatch words file common → IsNoExercise words
batch_is_no_exercise words file common many n is = many_or_exercise (sym many.asks ∙ is.asks)

pub one_executes : (words : List (List ℕ)) (a : Ask) → IsExecuted words a → IsExecuting words
one_executes words a is = record { taken = is.taken; executes = ap is_execution is.asks ∙ ap not is.executes }

pub batch_executes : (words : List (List ℕ)) (file : List ℕ) (common : Ask) → IsBatch words file common → IsExecuting words
batch_executes words file common is = record { taken = is.taken; executes = ap is_execution is.asks }

one_or_many : {a common : Ask} {file : List ℕ} → command.One a ≡ command.Many file common → ⊥
one_or_many e = cc

pub no_batch_of_one : (words : List (List ℕ)) (a common : Ask) (file : List ℕ) → IsExecuted words a → IsBatch words file common → ⊥
no_batch_of_one words a common file one many = one_or_many (sym one.asks ∙ many.asks)

taken_or_refused : {u : Usage} {r : Option Usage} → r ≡ Some u → r ≡ None → ⊥
taken_or_refused e f = cc

-- what is refused was, where memory was had
pub no_refusal : (words : List (List ℕ)) (p : Plain) (u : Usage) → p ≡ plains.Refused u → (u ≡ usage_fault.NoMemory → ⊥) → IsPlainOf words p → refusal words ≡ None → ⊥
no_refusal words p u same had is taken = by (subst (λ q. IsPlainOf words q) same is)
  where
    by : (u ≡ usage_fault.NoMemory) ⊎ (refusal words ≡ Some u) → ⊥
    by (inl e) = had e
    by (inr e) = taken_or_refused e taken

-- ---- one of three

pub data Kind (words : List (List ℕ)) : Type 0 where
  plain : IsPlain words → Kind words
  executing : IsExecuting words → Kind words
  exercise : (n : ℕ) → IsExercise words n → Kind words

one_at : (words : List (List ℕ)) (a : Ask) (b : Bool) → refusal words ≡ None → command_of_words words ≡ command.One a → a.prepare ≡ b → Kind words
one_at words a true e f p =
    let job : IsJob words a = record { taken = e; asks = f; prepares = p } in
    plain (record { executes = λ x. no_job_executes words a x job; exercises = λ n x. no_job_exercises words a n job x })
one_at words a false e f p = executing (record { taken = e; executes = ap is_execution f ∙ ap not p })

kind_at : (words : List (List ℕ)) (r : Option Usage) (c : Command) → refusal words ≡ r → command_of_words words ≡ c → Kind words
kind_at words (Some u) c e f =
    plain (record {
      executes = λ x. let t : refusal words ≡ None = x.taken in absurd (cc);
      exercises = λ n x. let t : refusal words ≡ None = x.taken in absurd (cc);
    })
kind_at words None (command.One a) e f = one_at words a a.prepare e f refl
kind_at words None (command.Many file a) e f = executing (record { taken = e; executes = ap is_execution f })
kind_at words None (command.Exercise n) e f = exercise n (record { taken = e; asks = f })

pub kind_of : (words : List (List ℕ)) → Kind words
kind_of words = kind_at words (refusal words) (command_of_words words) refl refl

-- what is told of each kind is told
pub told_each : (words : List (List ℕ)) {i j : Option (List Entry)} {R S T : List Entry → List Entry → Type 0} {X : ℕ → List Entry → List Entry → Type 0}
    → (IsPlain words → Told i j R) → (IsExecuting words → Told i j S) → ((n : ℕ) → IsExercise words n → Told i j (X n))
    → (IsPlain words → (x y : List Entry) → R x y → T x y) → (IsExecuting words → (x y : List Entry) → S x y → T x y)
    → ((n : ℕ) → IsExercise words n → (x y : List Entry) → X n x y → T x y) → Told i j T
told_each words {i} {j} {R} {S} {T} {X} p e n tp te tn = by (kind_of words)
  where
    by : Kind words → Told i j T
    by (plain is) = told_as (p is) (tp is)
    by (executing is) = told_as (e is) (te is)
    by (exercise cells is) = told_as (n cells is) (tn cells is)
