-- What a `kernel.json` says (jupyter_client, "Kernel specs": `argv`, `env`, `interrupt_mode`).
use Rattle.std.specs.Prelude.{◌≡◌, ◌<◌, ◌⊎◌, ℕ, Bool, List, [], map, Option, Some, None, if◌then◌else◌, ◌&&◌, not, nat_le, length, codes}
use Rattle.std.specs.List.{list_all}
use Rattle.std.specs.Str.{bytes_eq}
use Rattle.jtext.specs.declared.json.Json.{Json}
use Rattle.jtext.specs.Find.{field, fields}
use Rattle.jtext.specs.Look.{is_object, is_string, is_strings, items, string_at, text_of, there_and, absent_or, items_of}
use Rattle.jtext.specs.Texts.{AllStrings}
use Rattle.jtext.specs.Within.{IsTextWithin, IsNoTextWithin}
use Rattle.kspec.specs.declared.start.Spec.{Spec}
use Rattle.kspec.specs.declared.spec_fault.SpecFault.{SpecFault}
use Rattle.kspec.specs.declared.spec_fault.SpecFault.TheVariants.{NotJson, NoArgv, BadEnv, SignalMode}

-- a list of at least one string
abbrev pub is_argv : Json → Bool
is_argv v = is_strings v && nat_le 1 (length (items v))

-- an object of strings
abbrev pub is_env : Json → Bool
is_env v = is_object v && list_all (λ p. is_string p.1) (fields v)

-- the string `message`
abbrev pub is_message : List ℕ → Bool
is_message mode = bytes_eq mode (codes "message")

-- the kernel is interrupted by a message, and not by a signal
abbrev pub is_by_message : Json → Bool
is_by_message t = there_and is_message (string_at t (codes "interrupt_mode"))

-- the first fault of a tree, where an interrupt by message is asked for or isn't
abbrev pub fault_of : Bool → Json → Option SpecFault
fault_of interrupt t =
    if not (is_object t) then Some NotJson
    else if not (there_and is_argv (field t (codes "argv"))) then Some NoArgv
    else if not (absent_or is_env (field t (codes "env"))) then Some BadEnv
    else if interrupt && not (is_by_message t) then Some SignalMode
    else None

-- the pairs of an object, and none where there is no value
abbrev pub pairs_of : Option Json → List (List ℕ × Json)
pairs_of None = []
pairs_of (Some v) = fields v

-- what the tree says of how the kernel is started
abbrev pub spec_of : Json → Spec
spec_of t = record {
  argv = map text_of (items_of (field t (codes "argv")));
  env = pairs_of (field t (codes "env"));
  by_message = is_by_message t;
}

-- the bytes spell a kernel spec without a fault, which says this
pub record Says (interrupt : Bool) (bytes : List ℕ) (s : Spec) : Type 0 where
  pub tree : Json
  pub text : IsTextWithin 1048576 100 bytes tree
  pub faultless : fault_of interrupt tree ≡ None
  pub told : s ≡ spec_of tree

-- a program can be started by it: there is one, and each variable has a string
pub record CanStart (s : Spec) : Type 0 where
  pub program : 0 < length s.argv
  pub strings : AllStrings s.env

-- the bytes are refused so: they spell no tree, or this is the first fault of the tree that they spell
abbrev pub Refuses : Bool → List ℕ → SpecFault → Type 0
Refuses interrupt bytes f =
    (IsNoTextWithin 1048576 100 bytes × (f ≡ NotJson))
    ⊎ ((t : Json) × IsTextWithin 1048576 100 bytes t × (fault_of interrupt t ≡ Some f))
