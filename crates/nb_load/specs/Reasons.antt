-- What is said of bytes that give no notebook for a job, with the place of the fault.
use Rattle.std.specs.Prelude.{ℕ, List, [], ◌++◌, codes}
use Rattle.jtext.specs.Messages.{json_message}
use Rattle.jtext.specs.Print.{quote}
use Rattle.nb_model.specs.declared.nb_fault.NbFault.{NbFault}
use Rattle.nb_model.specs.declared.nb_fault.NbFault.TheVariants as nb_fault
use Rattle.nb_load.specs.declared.load_fault.LoadFault.{LoadFault}
use Rattle.nb_load.specs.declared.load_fault.LoadFault.TheVariants as fault

-- what is wrong with a tree, with the JSON pointer to the place (RFC 6901)
abbrev pub notebook_reason : NbFault → List ℕ
notebook_reason nb_fault.Version = codes "not nbformat 4.5: version"
notebook_reason (nb_fault.Shape pointer) = codes "not nbformat 4.5: shape at " ++ pointer
notebook_reason (nb_fault.SameId id) = codes "not nbformat 4.5: same id " ++ id
notebook_reason nb_fault.NoMemory = []

-- what is wrong with the bytes, and at which byte, counted from 0; or with the notebook; or which language has no translator
abbrev pub reason : LoadFault → List ℕ
reason (fault.NotJson f) = json_message f
reason (fault.NotNotebook f) = notebook_reason f
reason (fault.NoTranslator language) = codes "no translator for " ++ quote language
reason fault.NoMemory = []
