-- What a file of a graph gives, and why it is refused.
use Rattle.std.specs.Prelude.{◌≡◌, ◌⊎◌, ◌<◌, ℕ, List, [], Some, None, length}
use Rattle.jtext.specs.declared.json.Json.{Json}
use Rattle.jtext.specs.Within.{IsTextWithin, IsNoTextWithin}
use Rattle.job_graph.specs.declared.whole.Graph.{Graph}
use Rattle.job_graph.specs.declared.graph_fault.GraphFault.{GraphFault}
use Rattle.job_graph.specs.declared.graph_fault.GraphFault.TheVariants as fault
use Rattle.job_graph.specs.declared.place.Place.{Place}
use Rattle.job_graph.specs.Faults as faults
use Rattle.job_graph.specs.Given.{graph_of, needs_of_graph}
use Rattle.job_graph.specs.Places.{pointer}
use Rattle.job_graph.specs.Waves.{HasWave, IsFirstInCycle}

-- the bytes are a text of this tree, of at most 1 MiB and nested at most 100 deep
abbrev pub IsTextOf : List ℕ → Json → Type 0
IsTextOf bytes t = IsTextWithin 1048576 100 bytes t

-- each of these jobs has a wave
abbrev pub HasWaves : List (List ℕ) → Type 0
HasWaves needs = (i : ℕ) → i < length needs → (w : ℕ) × HasWave needs i w

-- the bytes are a graph, of which each job has a wave, and this is what it gives
pub record IsGraphOf (bytes : List ℕ) (g : Graph) : Type 0 where
  pub tree : Json
  pub text : IsTextOf bytes tree
  pub sound : faults.fault tree ≡ None
  pub same : g ≡ graph_of tree
  pub waves : HasWaves g.needs

-- the pointer that is answered: the empty one where the bytes are a text of no tree, or else that of the first fault
abbrev pub IsBadAt : List ℕ → List ℕ → Type 0
IsBadAt bytes at =
    (IsNoTextWithin 1048576 100 bytes × (at ≡ []))
    ⊎ ((t : Json) × IsTextOf bytes t × ((p : Place) × (faults.fault t ≡ Some p) × (at ≡ pointer t p)))

-- the tree has no fault, and the job is the first of it that has no wave
abbrev pub IsCycleAt : List ℕ → ℕ → Type 0
IsCycleAt bytes job = (t : Json) × IsTextOf bytes t × (faults.fault t ≡ None) × IsFirstInCycle (needs_of_graph t) job

-- a graph with these bytes is refused so, but for want of memory
abbrev pub Refuses : List ℕ → GraphFault → Type 0
Refuses bytes (fault.Bad at) = IsBadAt bytes at
Refuses bytes (fault.Cycle job) = IsCycleAt bytes job
Refuses bytes fault.NoMemory = Unit {0}
