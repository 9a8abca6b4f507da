-- What a refused kernel spec says where it is printed.
use Rattle.std.specs.Prelude.{ℕ, List, codes}
use Rattle.kspec.specs.declared.spec_fault.SpecFault.{SpecFault}
use Rattle.kspec.specs.declared.spec_fault.SpecFault.TheVariants as fault

-- why a kernel spec is refused
abbrev pub message : SpecFault → List ℕ
message fault.NotJson = codes "not JSON"
message fault.NoArgv = codes "no argv"
message fault.BadEnv = codes "bad env"
message fault.SignalMode = codes "signal mode"
message fault.NoMemory = codes "out of memory"
