-- What a job keeps between two saves: the notebook as it was saved last, and what was used since (Papermill and nbclient save after each cell).
use Rattle.std.specs.Prelude.{◌≡◌, ◌⊎◌, ℕ, ◌<◌, ◌∷◌, [], ◌++◌, List, None}
use Rattle.nb_model.specs.declared.notebook.Notebook.{Notebook}
use Rattle.out_fold.specs.declared.fold.Fold.{Fold}
use Rattle.out_fold.specs.declared.used.Used.{Used}
use Rattle.out_fold.specs.Stands.{StandsFor, Rested, merge_of, next_of}
use Rattle.progress_save.specs.declared.progress.Progress.{Progress}
use Rattle.progress_save.specs.Prefix.{prefix}
use Rattle.progress_save.specs.State.{Fits, kept_text}

-- some request was begun, and this is what was used for the last one
pub record HasLast (us : List Used) : Type 0 where
  pub before : List Used
  pub current : Used
  pub split : us ≡ before ++ current ∷ []

-- These messages were used. The notebook is the prefix of the first one that was saved last; since then only touched cells
-- have changed, and each text that is kept is that of its cell. Once a cell has begun, its request is the last of those used.
pub record IsKept (f : Fold) (n : Notebook) (settled : ℕ) (p : Progress) (first : Notebook) (us : List Used) : Type 0 where
  pub was : List Used
  pub stands : StandsFor f us
  pub rested : Rested f was us
  pub last : 0 < next_of f → HasLast us
  pub is : n ≡ prefix (merge_of f) was settled None first
  pub fits : Fits p n.cells

-- some messages were used, and the notebook is the prefix of some first one that was saved last
pub record IsKeptForSome (f : Fold) (n : Notebook) (settled : ℕ) (p : Progress) : Type 0 where
  pub first : Notebook
  pub us : List Used
  pub kept : IsKept f n settled p first us

-- each text that is kept now was kept before
abbrev pub ForgetsSome : Progress → Progress → Type 0
ForgetsSome old new = (i : ℕ) → (kept_text new i ≡ None) ⊎ (kept_text new i ≡ kept_text old i)
