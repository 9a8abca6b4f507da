-- The arguments of a kernel's program (jupyter_client, "Kernel specs", `argv`).
use Rattle.std.specs.Prelude.{◌≢◌, ℕ, List, [], ◌∷◌, ◌++◌, codes}
use Rattle.std.specs.List.{AllZip}

-- stands for the path of the connection file
abbrev pub file_name : List ℕ
file_name = codes "{connection_file}"

-- stands for the folder of the kernel spec
abbrev pub folder_name : List ℕ
folder_name = codes "{resource_dir}"

-- the text doesn't begin with this name
abbrev pub Lacks : List ℕ → List ℕ → Type 0
Lacks name text = (rest : List ℕ) → text ≢ name ++ rest

-- A text, and the same with each name replaced, from the left. What was put in is not read again.
pub data IsFilled (file folder : List ℕ) : List ℕ → List ℕ → Type 0 where
  end : IsFilled file folder [] []
  file_put : {rest out : List ℕ} → IsFilled file folder rest out → IsFilled file folder (file_name ++ rest) (file ++ out)
  folder_put : {rest out : List ℕ} → IsFilled file folder rest out → IsFilled file folder (folder_name ++ rest) (folder ++ out)
  byte_kept : {c : ℕ} {rest out : List ℕ} → Lacks file_name (c ∷ rest) → Lacks folder_name (c ∷ rest)
      → IsFilled file folder rest out → IsFilled file folder (c ∷ rest) (c ∷ out)

-- each word with its names replaced, in order
abbrev pub AreFilled : List ℕ → List ℕ → List (List ℕ) → List (List ℕ) → Type 0
AreFilled file folder words outs = AllZip (IsFilled file folder) words outs

-- Where a brace and then `after` stand, `put` is put in and `rest` is read on.
abbrev pub Puts : List ℕ → List ℕ → List ℕ → List ℕ → List ℕ → Type 0
Puts file folder after put rest =
    (out : List ℕ) → IsFilled file folder rest out → IsFilled file folder (123 ∷ after) (put ++ out)
