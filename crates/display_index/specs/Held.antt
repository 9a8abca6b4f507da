-- Which calls an index stands for.
use Rattle.std.specs.Prelude.{◌≡◌, ℕ, List}
use Rattle.display_index.specs.declared.index.Index.{Index}
use Rattle.display_index.specs.Standing.{Call, standing}
use Rattle.display_index.specs.Listed.{places_at}

-- the index was told these calls
abbrev pub StandsFor : Index → List Call → Type 0
StandsFor x calls = (id : List ℕ) → places_at x.by_id id ≡ standing id calls
