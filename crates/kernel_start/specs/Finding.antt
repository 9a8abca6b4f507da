-- How a kernel is found (jupyter_client, "Kernel specs"): by its name, which names a folder below the folder of kernels, and by the file `kernel.json` in it.
use Rattle.std.specs.Prelude.{◌≡◌, ℕ, Bool, List, [], ◌∷◌, ◌++◌, Option, Some, None, IsSomeAnd, option_and_then, unwrap_or, Result, Ok, Err, true, false, codes}
use Rattle.std.specs.Option.{option_or}
use Rattle.jtext.specs.Find.{field}
use Rattle.jtext.specs.Look.{string_at}
use Rattle.kspec.specs.declared.spec_fault.SpecFault.{SpecFault}
use Rattle.kspec.specs.declared.spec_fault.SpecFault.TheVariants as spec_fault
use Rattle.kspec.specs.KernelJson.{Says, Refuses}
use Rattle.kspec.specs.Name.{is_good}
use Rattle.nb_model.specs.declared.notebook.Notebook.{Notebook}
use Rattle.words.specs.declared.ask.Ask.{Ask}
use Rattle.world.specs.declared.entry.Entry.{Entry}
use Rattle.world.specs.declared.entry.Entry.TheVariants.{Read}
use Rattle.world.specs.declared.read_file.ReadFile.{ReadFile}
use Rattle.world.specs.declared.read_file.ReadFile.TheVariants as disk
use Rattle.kernel_start.specs.declared.kernel.Kernel.{Kernel}
use Rattle.kernel_start.specs.declared.spec_place.SpecPlace.{SpecPlace}
use Rattle.kernel_start.specs.declared.kernel_fault.KernelFault.{KernelFault}
use Rattle.kernel_start.specs.declared.kernel_fault.KernelFault.TheVariants as fault

-- the kernel that a notebook names (nbformat 4.5, `metadata.kernelspec.name`)
abbrev pub notebook_kernel : Notebook → Option (List ℕ)
notebook_kernel n = option_and_then (λ kernel. string_at kernel (codes "name")) (field n.metadata (codes "kernelspec"))

-- the name of a job's kernel: that of the words, or else that of the notebook
abbrev pub kernel_name : Ask → Notebook → Option (List ℕ)
kernel_name a n = option_or a.kernel (notebook_kernel n)

-- there is a name, and a kernel may have it
abbrev pub HasGoodName : Ask → Notebook → Type 0
HasGoodName a n = IsSomeAnd (kernel_name a n) (λ name. is_good name ≡ true)

-- the folder of that name in the folder of kernels
abbrev pub kernel_folder : List ℕ → List ℕ → List ℕ
kernel_folder kernels name = kernels ++ codes "/" ++ name

-- the file of a spec in the folder of its kernel
abbrev pub spec_in : List ℕ → List ℕ
spec_in folder = folder ++ codes "/kernel.json"

-- the folder of a job's kernel
abbrev pub spec_folder : Ask → Notebook → List ℕ
spec_folder a n = kernel_folder a.kernel_path (unwrap_or (kernel_name a n) [])

-- the file of its spec
abbrev pub spec_path : Ask → Notebook → List ℕ
spec_path a n = spec_in (spec_folder a n)

-- What a look for the kernel of a job answers, where the disk was asked for no file, or gave this answer: the first fault, or
-- the kernel by the bytes of its spec.
pub data Finds (a : Ask) (n : Notebook) : Option ReadFile → Result Kernel KernelFault → Type 0 where
  no_name : kernel_name a n ≡ None → Finds a n None (Err fault.NoName)
  bad_name : {name : List ℕ} → kernel_name a n ≡ Some name → is_good name ≡ false → Finds a n None (Err fault.BadName)
  -- memory for the path was refused
  no_path : HasGoodName a n → Finds a n None (Err fault.NoMemory)
  not_read : HasGoodName a n → Finds a n (Some disk.Failed) (Err (fault.NotRead (spec_path a n)))
  too_large : HasGoodName a n → Finds a n (Some disk.Big) (Err (fault.BadSpec spec_fault.NotJson))
  no_bytes : HasGoodName a n → Finds a n (Some disk.NoMemory) (Err fault.NoMemory)
  bad_spec : {bytes : List ℕ} {f : SpecFault} → HasGoodName a n → Refuses a.interrupt bytes f
      → Finds a n (Some (disk.Whole bytes)) (Err (fault.BadSpec f))
  no_spec : {bytes : List ℕ} → HasGoodName a n → Finds a n (Some (disk.Whole bytes)) (Err fault.NoMemory)
  found : {bytes : List ℕ} {kernel : Kernel} → HasGoodName a n → Says a.interrupt bytes kernel.spec
      → kernel.folder ≡ spec_folder a n → Finds a n (Some (disk.Whole bytes)) (Ok kernel)

-- the entries after the disk was asked for no file, or for that of the spec, of which at most 1 MiB is read
abbrev pub read_entries : Ask → Notebook → Option ReadFile → List Entry → List Entry
read_entries a n None before = before
read_entries a n (Some answer) before = Read (spec_path a n) 1048576 answer ∷ before

-- a look for the kernel of a job, with all that it asks of the disk
pub record FindsBy (a : Ask) (n : Notebook) (result : Result Kernel KernelFault) (before after : List Entry) : Type 0 where
  pub answer : Option ReadFile
  pub finds : Finds a n answer result
  pub ends : after ≡ read_entries a n answer before

-- a look for the kernel of a job, for some answer of the disk
abbrev pub IsFound : Ask → Notebook → Result Kernel KernelFault → Type 0
IsFound a n result = (answer : Option ReadFile) × Finds a n answer result

-- the file of the spec could not be read
abbrev pub IsNotRead : Result Kernel KernelFault → Type 0
IsNotRead (Ok kernel) = ⊥
IsNotRead (Err fault.NoName) = ⊥
IsNotRead (Err fault.BadName) = ⊥
IsNotRead (Err (fault.NotRead path)) = Unit {0}
IsNotRead (Err (fault.BadSpec f)) = ⊥
IsNotRead (Err fault.NoMemory) = ⊥

-- what the bytes of a spec in this folder give: a kernel, or their first fault
abbrev pub IsOfBytes : Bool → List ℕ → List ℕ → Result Kernel KernelFault → Type 0
IsOfBytes interrupt bytes folder (Ok kernel) = Says interrupt bytes kernel.spec × (kernel.folder ≡ folder)
IsOfBytes interrupt bytes folder (Err fault.NoName) = ⊥
IsOfBytes interrupt bytes folder (Err fault.BadName) = ⊥
IsOfBytes interrupt bytes folder (Err (fault.NotRead path)) = ⊥
IsOfBytes interrupt bytes folder (Err (fault.BadSpec f)) = Refuses interrupt bytes f
IsOfBytes interrupt bytes folder (Err fault.NoMemory) = Unit {0}

-- the place of the spec of a kernel of this name
pub record IsIn (kernels name : List ℕ) (place : SpecPlace) : Type 0 where
  pub folder : place.folder ≡ kernel_folder kernels name
  pub path : place.path ≡ spec_in (kernel_folder kernels name)

-- the place of the spec of a job's kernel, whose name is good
pub record IsSpecPlace (a : Ask) (n : Notebook) (place : SpecPlace) : Type 0 where
  pub good : HasGoodName a n
  pub stands : IsIn a.kernel_path (unwrap_or (kernel_name a n) []) place
