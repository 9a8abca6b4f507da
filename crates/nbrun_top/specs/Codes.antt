-- The exit statuses as numbers.
use Rattle.std.specs.Prelude.{ℕ, Bool, ◌==◌, ◌||◌}
use Rattle.nb_load.specs.declared.load_fault.LoadFault.{LoadFault}
use Rattle.nb_load.specs.declared.load_fault.LoadFault.TheVariants as fault
use Rattle.nbrun_top.specs.declared.end.End.{End}
use Rattle.nbrun_top.specs.declared.end.End.TheVariants as end

-- the number that the process answers, where all that was to be said was said
abbrev pub code_of : End → ℕ
code_of (end.Done cells) = 0
code_of (end.Refused usage) = 2
code_of end.NotRead = 3
code_of end.TooLarge = 4
code_of (end.NotLoaded (fault.NotJson f)) = 4
code_of (end.NotLoaded (fault.NotNotebook f)) = 4
code_of (end.NotLoaded (fault.NoTranslator language)) = 5
code_of (end.NotLoaded fault.NoMemory) = 12
code_of (end.NotSaved f) = 10
code_of end.NoMemory = 12

-- how a run ends whose input gives no notebook that takes the parameters
abbrev pub end_of : LoadFault → End
end_of fault.NoMemory = end.NoMemory
end_of f = end.NotLoaded f

-- whether words that execute nothing may end with it
abbrev pub is_plain : ℕ → Bool
is_plain n = n == 0 || n == 2 || n == 3 || n == 4 || n == 5 || n == 10 || n == 11 || n == 12
