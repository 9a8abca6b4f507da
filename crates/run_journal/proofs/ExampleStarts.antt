-- A child that is started rightly.
use Rattle.std.proofs.Common.{◌≡◌, ℕ, List, [], ◌∷◌, true, false, Some, codes, refl, reverse}
use Rattle.jtext.specs.Print.{compact}
use Rattle.kspec.specs.declared.start.Spec.{Spec}
use Rattle.kspec.specs.Connection as files
use Rattle.kspec.specs.Arguments.IsFilled.{end, file_put}
use Rattle.kernel_start.specs.Launch.{from_root}
use Rattle.words.specs.Paths.{connection_of}
use Rattle.world.specs.declared.did.Did.TheVariants.{Done as done}
use Rattle.world.specs.declared.entry.Entry.{Entry}
use Rattle.world.specs.declared.entry.Entry.TheVariants as made
use Rattle.world.specs.Disk.{place}
use Rattle.run_journal.specs.Why.{child_clock}
use Rattle.run_journal.specs.Due.{all_along}
use Rattle.run_journal.specs.Starts.{Launch, ports_of, StartsRightly}
use Rattle.run_journal.specs.Agreement.{starts_in_turn}
use Rattle.run_journal.proofs.Toy.{saved, one}

-- a kernel whose one word is the path of its connection file
abbrev spec : Spec
spec = record { argv = codes "{connection_file}" ∷ []; env = []; by_message = false }

abbrev launch : Launch
launch = record { spec = spec; folder = codes "kernels/k"; here = codes "/w"; cwd = codes "."; key = codes "key" }

abbrev ports : List ℕ
ports = 1 ∷ 2 ∷ 3 ∷ 4 ∷ 5 ∷ []

-- after the first save its ports are drawn, this text is written, and the child is started
abbrev before : List ℕ → List Entry
before text = made.Wrote (connection_of one.output) text done ∷ made.Created (connection_of one.output) done ∷ made.Ports 0 (Some ports) ∷ made.Moment 10 ∷ reverse (saved one)

abbrev starting : List ℕ → List Entry
starting text = made.Started 0 (from_root (codes "/w") (connection_of one.output) ∷ []) [] (codes ".") done ∷ before text

written : (text : List ℕ) → (place (before text) (connection_of one.output)).fresh ≡ Some text
written text = refl

drawn : (text : List ℕ) → ports_of one (before text) ≡ Some ports
drawn text = refl

in_turn : (text : List ℕ) → all_along (starts_in_turn one) (starting text) ≡ true
in_turn text = refl

starts_at : (text : List ℕ) → child_clock one (starting text) ≡ Some 10
starts_at text = refl

-- the connection file of these ports and this key
abbrev file : List ℕ
file = compact (files.connection ports (codes "key"))

starts_rightly : StartsRightly launch one (starting file)
starts_rightly = (
  λ e. record {
    arguments = (file_put end, tt);
    environment = refl;
    folder = refl;
    ports = ports;
    drawn = drawn file;
    written = written file;
  },
  tt,
)
