-- What follows of how a kernel is found.
use Rattle.std.proofs.Common.{◌≡◌, ℕ, Bool, true, false, List, ◌∷◌, Option, Some, None, IsSomeAnd, Result, Ok, Err, IsErrAnd, IfErr, refl, sym, ◌∙◌, subst}
use Rattle.kspec.specs.Name.{is_good}
use Rattle.nb_model.specs.declared.notebook.Notebook.{Notebook}
use Rattle.words.specs.declared.ask.Ask.{Ask}
use Rattle.world.specs.declared.entry.Entry.{Entry}
use Rattle.world.specs.declared.entry.Entry.TheVariants.{Read}
use Rattle.world.specs.declared.read_file.ReadFile.{ReadFile}
use Rattle.world.specs.declared.read_file.ReadFile.TheVariants as disk
use Rattle.world.specs.Moments.{Since, start, more}
use Rattle.world.specs.Parts.{IsOf, OnDisk}
use Rattle.world.specs.Touched.{Spares}
use Rattle.kernel_start.specs.declared.kernel.Kernel.{Kernel}
use Rattle.kernel_start.specs.declared.kernel_fault.KernelFault.{KernelFault}
use Rattle.kernel_start.specs.declared.kernel_fault.KernelFault.TheVariants as fault
use Rattle.kernel_start.specs.declared.spec_place.SpecPlace.{SpecPlace}
use Rattle.kernel_start.specs.Finding.{Finds, bad_name, no_path, not_read, too_large, no_bytes, bad_spec, no_spec, found, FindsBy, IsNotRead, IsOfBytes, IsSpecPlace, HasGoodName, spec_path, spec_folder, kernel_name, read_entries}

-- a file can't be read only where the disk says so
pub read_failed : (a : Ask) (n : Notebook) (answer : ReadFile) (result : Result Kernel KernelFault)
    → Finds a n (Some answer) result → IsNotRead result → answer ≡ disk.Failed
read_failed a n answer result (not_read good) failed = refl
read_failed a n answer result (too_large good) failed = absurd failed
read_failed a n answer result (no_bytes good) failed = absurd failed
read_failed a n answer result (bad_spec good refuses) failed = absurd failed
read_failed a n answer result (no_spec good) failed = absurd failed
read_failed a n answer result (found good says stands) failed = absurd failed

-- what the bytes give is found
of_bytes : (a : Ask) (n : Notebook) (bytes folder : List ℕ) (result : Result Kernel KernelFault) → HasGoodName a n
    → folder ≡ spec_folder a n → IsOfBytes a.interrupt bytes folder result → Finds a n (Some (disk.Whole bytes)) result
of_bytes a n bytes folder (Ok kernel) good stands made = found good made.0 (made.1 ∙ stands)
of_bytes a n bytes folder (Err fault.NoName) good stands made = absurd made
of_bytes a n bytes folder (Err fault.BadName) good stands made = absurd made
of_bytes a n bytes folder (Err (fault.NotRead path)) good stands made = absurd made
of_bytes a n bytes folder (Err (fault.BadSpec f)) good stands made = bad_spec good made
of_bytes a n bytes folder (Err fault.NoMemory) good stands made = no_spec good

-- the bytes that the disk answers
pub whole_answer : (a : Ask) (n : Notebook) (place : SpecPlace) (interrupt : Bool) (bytes slice : List ℕ) (result : Result Kernel KernelFault)
    → a.interrupt ≡ interrupt → IsSpecPlace a n place → slice ≡ bytes → IsOfBytes interrupt slice place.folder result
    → Finds a n (Some (disk.Whole bytes)) result
whole_answer a n place interrupt bytes slice result same at read made =
    of_bytes a n bytes place.folder result at.good at.stands.folder
    (subst (λ i. IsOfBytes i bytes place.folder result) (sym same) (subst (λ xs. IsOfBytes interrupt xs place.folder result) read made))

-- the disk can't read the file
pub failed_answer : (a : Ask) (n : Notebook) (place : SpecPlace) → IsSpecPlace a n place → Finds a n (Some disk.Failed) (Err (fault.NotRead place.path))
failed_answer a n place at = subst (λ path. Finds a n (Some disk.Failed) (Err (fault.NotRead path))) (sym at.stands.path) (not_read at.good)

-- the name that there is isn't good
pub not_good : (a : Ask) (n : Notebook) (name : List ℕ) → Some name ≡ kernel_name a n → is_good name ≡ false → Finds a n None (Err fault.BadName)
not_good a n name is bad = bad_name (sym is) bad

-- the name that there is is good
pub good_at : (a : Ask) (n : Notebook) (name : List ℕ) → Some name ≡ kernel_name a n → is_good name ≡ true → HasGoodName a n
good_at a n name is good = subst (λ o. IsSomeAnd o (λ x. is_good x ≡ true)) is good

-- memory for the path was refused
pub refused_path : (a : Ask) (n : Notebook) (result : Result SpecPlace KernelFault) → HasGoodName a n → IsErrAnd result (λ e. e ≡ fault.NoMemory)
    → IfErr result (λ e. Finds a n None (Err e))
refused_path a n (Ok place) good is = absurd is
refused_path a n (Err e) good is = subst (λ f. Finds a n None (Err f)) (sym is) (no_path good)

module _ (P : List Entry → Type 0) (on_read : (path : List ℕ) (answer : ReadFile) (past : List Entry) → P (Read path 1048576 answer ∷ past)) (a : Ask) (n : Notebook) (before : List Entry) where
  each_read : (answer : Option ReadFile) → Since P before (read_entries a n answer before)
  each_read None = start
  each_read (Some answer) = more start (on_read (spec_path a n) answer before)

  each_found : (result : Result Kernel KernelFault) (after : List Entry) → FindsBy a n result before after → Since P before after
  each_found result after by = subst (Since P before) (sym by.ends) (each_read by.answer)

-- only the disk is asked
pub find_part : (a : Ask) (n : Notebook) (result : Result Kernel KernelFault) (before after : List Entry) → FindsBy a n result before after → Since (IsOf OnDisk) before after
find_part a n result before = each_found (IsOf OnDisk) (λ path answer past. refl) a n before result

-- no path is touched
pub find_spares : (path : List ℕ) (a : Ask) (n : Notebook) (result : Result Kernel KernelFault) (before after : List Entry) → FindsBy a n result before after → Since (Spares path) before after
find_spares path a n result before = each_found (Spares path) (λ p answer past. refl) a n before result
