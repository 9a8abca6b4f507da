-- The numbers of a file, by what was made of its bytes.
use Rattle.std.proofs.Common.{◌≡◌, ℕ, List, Option, Some, None, subst, sym, refl}
use Rattle.std.specs.Prelude.{Bool, true, false, option_map}
use Rattle.nb_load.specs.declared.load_fault.LoadFault.{LoadFault}
use Rattle.nb_load.specs.declared.load_fault.LoadFault.TheVariants as fault
use Rattle.nb_load.specs.Loaded.{Accepts, Refuses}
use Rattle.nb_model.specs.declared.notebook.Notebook.{Notebook}
use Rattle.words.specs.declared.ask.Ask.{Ask}
use Rattle.nbrun_top.specs.Exercise.{ask}
use Rattle.nbrun_top.specs.ExerciseNumbers.{AreNumbers, counted, absent, refused, numbers}

-- a notebook was read
pub counted_so : (a : Ask) (bytes file : List ℕ) (n : Notebook) (r : ℕ × ℕ) → a ≡ ask → bytes ≡ file
    → Accepts a bytes n → r ≡ numbers n → AreNumbers (Some file) r.0 r.1
counted_so a bytes file n r is same accepts e =
    subst (λ q. AreNumbers (Some file) q.0 q.1) (sym e)
    (counted file n (subst (λ b. Accepts ask b n) same (subst (λ x. Accepts x bytes n) is accepts)))

-- there is no file
pub absent_so : {A : Type 0} (turn : A → List ℕ) (f : Option A) → f ≡ None → AreNumbers (option_map turn f) 0 0
absent_so turn f e = subst (λ o. AreNumbers (option_map turn o) 0 0) (sym e) absent

-- memory was refused for the reading
abbrev is_starved : LoadFault → Bool
is_starved (fault.NotJson f) = false
is_starved (fault.NotNotebook f) = false
is_starved (fault.NoTranslator language) = false
is_starved fault.NoMemory = true

-- none was, for another reason
pub refused_so : (a : Ask) (bytes file : List ℕ) (f g : LoadFault) → f ≡ g → is_starved g ≡ false → a ≡ ask
    → bytes ≡ file → Refuses a bytes f → AreNumbers (Some file) 0 0
refused_so a bytes file f g one fed is same refuses =
    let now : is_starved f ≡ false = subst (λ x. is_starved x ≡ false) (sym one) fed in
    refused file f (λ e. absurd (cc (now, subst (λ x. is_starved x ≡ true) (sym e) refl)))
    (subst (λ b. Refuses ask b f) same (subst (λ x. Refuses x bytes f) is refuses))
