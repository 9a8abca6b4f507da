-- The start of a job's kernel, from the words that are drawn to the child, is calls of that job.
use Rattle.std.proofs.Common.{◌≡◌, inr, ℕ, ◌==◌, List, [], ◌∷◌, Bool, true, false, Option, Some, None, Result, Ok, Err, refl, sym, ◌∙◌, subst}
use Rattle.std.specs.Prelude.{IfSome, if◌then◌else◌}
use Rattle.std.proofs.lemmas.Bool.{eq-eqb}
use Rattle.words.specs.declared.ask.Ask.{Ask}
use Rattle.words.specs.Paths.{connection_of}
use Rattle.kspec.specs.Arguments.{AreFilled}
use Rattle.world.specs.declared.did.Did.{Did}
use Rattle.world.specs.declared.did.Did.TheVariants.{Done, Failed}
use Rattle.world.specs.declared.entry.Entry.{Entry}
use Rattle.world.specs.declared.entry.Entry.TheVariants as made
use Rattle.world.specs.Disk.{place}
use Rattle.world.specs.Moments.{Since, start, Told, Tells}
use Rattle.world.specs.Parts.{OnDisk, OnRand, part_of, IsOf}
use Rattle.world.proofs.MomentsLemmas.{told_as, since_as, since_then}
use Rattle.kernel_start.specs.declared.kernel.Kernel.{Kernel}
use Rattle.kernel_start.specs.declared.random_words.RandomPairs.{RandomPairs}
use Rattle.kernel_start.specs.declared.launch_fault.LaunchFault.{LaunchFault}
use Rattle.kernel_start.specs.declared.launch_fault.LaunchFault.TheVariants as launch
use Rattle.kernel_start.specs.declared.connection_fault.ConnectionFault.{ConnectionFault}
use Rattle.kernel_start.specs.declared.connection_fault.ConnectionFault.TheVariants as file
use Rattle.kernel_start.specs.ConnectionFile.{file_text, synced_text, WritesFile, WritesAndSyncs, FailsAtFile, not_created, not_written, not_synced}
use Rattle.kernel_start.specs.Launch.{from_root, StartsChild, Launches}
use Rattle.job_saves.specs.Calls.{Cast, IsChildless, IsOwnFile, IsReady, IsStart, IsCallOf, IsCall}
use Rattle.job_saves.specs.Children.{ports_of, HasEnd}
use Rattle.job_saves.specs.Reads.{IsKernelOf}
use Rattle.job_saves.specs.Sessions.{HasAsked, key_of}
use Rattle.job_saves.proofs.CallLemmas.{by_job, one_more, own_still, writes_called, write_fails_called}
use Rattle.job_saves.proofs.KeptLemmas.{ports_since}
use Rattle.job_saves.proofs.ReadLemmas.{kernel_later}
use Rattle.job_saves.proofs.SessionLemmas.{asked_later}

-- ---- random words

word_called : (here : List ℕ) (starts clean : Bool) (number : ℕ) (a : Ask) (past : List Entry) (entry : Entry) → part_of entry ≡ OnRand
    → IsCallOf here starts clean number a past entry
word_called here starts clean number a past (made.Word word) e = tt
word_called here starts clean number a past (made.Read path most found) e = absurd (cc)
word_called here starts clean number a past (made.Created path did) e = absurd (cc)
word_called here starts clean number a past (made.Wrote path bytes did) e = absurd (cc)
word_called here starts clean number a past (made.Synced path did) e = absurd (cc)
word_called here starts clean number a past (made.Renamed from to did) e = absurd (cc)
word_called here starts clean number a past (made.DirSynced dir did) e = absurd (cc)
word_called here starts clean number a past (made.Removed path did) e = absurd (cc)
word_called here starts clean number a past (made.Ports job ports) e = absurd (cc)
word_called here starts clean number a past (made.Connected conn port how) e = absurd (cc)
word_called here starts clean number a past (made.Closed conn) e = absurd (cc)
word_called here starts clean number a past (made.Got conn room bytes) e = absurd (cc)
word_called here starts clean number a past (made.Dry conn) e = absurd (cc)
word_called here starts clean number a past (made.Ended conn by) e = absurd (cc)
word_called here starts clean number a past (made.Refused conn by) e = absurd (cc)
word_called here starts clean number a past (made.ReadFailed conn) e = absurd (cc)
word_called here starts clean number a past (made.Put conn bytes) e = absurd (cc)
word_called here starts clean number a past (made.Stuck conn) e = absurd (cc)
word_called here starts clean number a past (made.PutFailed conn) e = absurd (cc)
word_called here starts clean number a past (made.Waited ms reports did) e = absurd (cc)
word_called here starts clean number a past (made.Started job argv env dir did) e = absurd (cc)
word_called here starts clean number a past (made.Looked job status) e = absurd (cc)
word_called here starts clean number a past (made.Killed job) e = absurd (cc)
word_called here starts clean number a past (made.Moment ms) e = absurd (cc)
word_called here starts clean number a past (made.Said bytes did) e = absurd (cc)

each_word : (cast : Cast) (number : ℕ) (a : Ask) → cast.job number ≡ Some a → (now : List Entry) → IsOf OnRand now → IsCall cast now
each_word cast number a has [] is = absurd is
each_word cast number a has (entry ∷ past) is = by_job cast number a has entry past (word_called cast.here cast.starts cast.clean number a past entry is)

pub words_called : (cast : Cast) (number : ℕ) (a : Ask) → cast.job number ≡ Some a → {j k : Option (List Entry)} → Told j k (Since (IsOf OnRand)) → Told j k (Since (IsCall cast))
words_called cast number a has told = told_as told (λ x y s. since_as (each_word cast number a has) s)

-- ---- the ports

given_by : (b : Bool) (ports rest : Option (List ℕ)) → b ≡ true → (if b then ports else rest) ≡ ports
given_by true ports rest e = refl
given_by false ports rest e = absurd (cc)

pub ports_given : (number : ℕ) (ports : List ℕ) (j k : Option (List Entry)) → Tells j k (made.Ports number (Some ports)) → IfSome k (λ past. ports_of number past ≡ Some ports)
ports_given number ports j None tells = tt
ports_given number ports None (Some y) tells = absurd tells.so
ports_given number ports (Some x) (Some y) tells =
    subst (λ past. ports_of number past ≡ Some ports) (sym tells.so) (given_by (number == number) (Some ports) (ports_of number x) (eq-eqb number number refl))

-- ---- the connection file

module _ (cast : Cast) (number : ℕ) (a : Ask) (has : cast.job number ≡ Some a) (starts : cast.starts ≡ true) (path text : List ℕ) (at : path ≡ connection_of a.output)
    (before : List Entry) (childless : IsChildless cast.clean number before) where
  own : IsOwnFile cast.clean number a before path
  own = inr (at, childless)

  created : (did : Did) → Since (IsCall cast) before (made.Created path did ∷ before)
  created did = one_more cast number a has _ start (inr (at, childless, starts))

  synced : (did : Did) (after : List Entry) → WritesAndSyncs path text did before after → Since (IsCall cast) before after
  synced did after w =
      subst (Since (IsCall cast) before) (sym w.ends)
      (one_more cast number a has (made.Synced path did) (since_then (created Done) (writes_called cast number a has own w.writes)) (own_still cast.clean number a own w.writes))

  fails : (after : List Entry) → FailsAtFile path text before after → Since (IsCall cast) before after
  fails after not_created = created Failed
  fails after (not_written w) = since_then (created Done) (write_fails_called cast number a has own w)
  fails after (not_synced w) = synced Failed after w

  file_each : (result : Result (Unit {0}) ConnectionFault) (after : List Entry) → WritesFile path text result before after → Since (IsCall cast) before after
  file_each (Ok u) after w = synced Done after w
  file_each (Err file.Failed) after w = fails after w
  file_each (Err file.NoMemory) after same = subst (Since (IsCall cast) before) (sym same) start

pub file_called : (cast : Cast) (number : ℕ) (a : Ask) → cast.job number ≡ Some a → cast.starts ≡ true → (path text : List ℕ) → path ≡ connection_of a.output
    → (result : Result (Unit {0}) ConnectionFault) (j k : Option (List Entry)) → (cast.clean ≡ true → HasEnd number j) → Told j k (WritesFile path text result)
    → Told j k (Since (IsCall cast))
file_called cast number a has starts path text at result j None childless told = record { so = tt }
file_called cast number a has starts path text at result None (Some y) childless told = absurd told.so
file_called cast number a has starts path text at result (Some x) (Some y) childless told =
    record { so = file_each cast number a has starts path text at x childless result y told.so }

-- and behind it the kernel is ready
ready_by : (number : ℕ) (a : Ask) (kernel : Kernel) (path ports : List ℕ) (pairs : RandomPairs) → path ≡ connection_of a.output → (before after : List Entry) → IsKernelOf a before kernel
    → ports_of number before ≡ Some ports → HasAsked number a.output pairs ports before → Since (IsOf OnDisk) before after
    → WritesAndSyncs path (file_text ports (key_of pairs)) Done before after → place after path ≡ synced_text (file_text ports (key_of pairs)) → IsReady number a after kernel
ready_by number a kernel path ports pairs at before after found given asked disk writes file = record {
  found = kernel_later a kernel disk found;
  ports = ports;
  given = ports_since number (λ e. absurd (cc)) disk ∙ given;
  pairs = pairs;
  session = asked_later number a.output pairs ports path (file_text ports (key_of pairs)) at before after writes asked;
  file = subst (λ p. place after p ≡ synced_text (file_text ports (key_of pairs))) at file;
}

-- what was written whole
file_done : (path text : List ℕ) (result : Result (Unit {0}) ConnectionFault) (u : Unit {0}) → result ≡ Ok u → (j k : Option (List Entry)) → Told j k (WritesFile path text result)
    → Told j k (WritesAndSyncs path text Done)
file_done path text result u is j k told = subst (λ r. Told j k (WritesFile path text r)) is told

pub file_ready : (number : ℕ) (a : Ask) (kernel : Kernel) (path ports key : List ℕ) (pairs : RandomPairs) (result : Result (Unit {0}) ConnectionFault) (u : Unit {0}) → path ≡ connection_of a.output
    → key ≡ key_of pairs → result ≡ Ok u → (j k : Option (List Entry)) → IfSome j (λ past. IsKernelOf a past kernel) → IfSome j (λ past. ports_of number past ≡ Some ports)
    → IfSome j (HasAsked number a.output pairs ports) → Told j k (Since (IsOf OnDisk)) → Told j k (WritesFile path (file_text ports key) result)
    → Told j k (λ before after. place after path ≡ synced_text (file_text ports key)) → IfSome k (λ past. IsReady number a past kernel)
file_ready number a kernel path ports key pairs result u at is ok j k found given asked disk writes file =
    ready_told j k found given asked disk (file_done path (file_text ports (key_of pairs)) result u ok j k (subst (λ x. Told j k (WritesFile path (file_text ports x) result)) is writes))
    (subst (λ x. Told j k (λ before after. place after path ≡ synced_text (file_text ports x))) is file)
  where
    ready_told : (j k : Option (List Entry)) → IfSome j (λ past. IsKernelOf a past kernel) → IfSome j (λ past. ports_of number past ≡ Some ports)
        → IfSome j (HasAsked number a.output pairs ports) → Told j k (Since (IsOf OnDisk)) → Told j k (WritesAndSyncs path (file_text ports (key_of pairs)) Done)
        → Told j k (λ before after. place after path ≡ synced_text (file_text ports (key_of pairs))) → IfSome k (λ past. IsReady number a past kernel)
    ready_told j None found given asked disk writes file = tt
    ready_told None (Some y) found given asked disk writes file = absurd disk.so
    ready_told (Some x) (Some y) found given asked disk writes file = ready_by number a kernel path ports pairs at x y found given asked disk.so writes.so file.so

-- ---- the child

module _ (cast : Cast) (number : ℕ) (a : Ask) (has : cast.job number ≡ Some a) (starts : cast.starts ≡ true) (here : List ℕ) (folder : cast.here ≡ here) (path dir : List ℕ)
    (at : path ≡ connection_of a.output) (cwd : dir ≡ a.cwd) (kernel : Kernel) (before : List Entry) (ready : IsReady number a before kernel)
    (childless : IsChildless cast.clean number before) where
  is_start : (argv : List (List ℕ)) → AreFilled (from_root here path) kernel.folder kernel.spec.argv argv → IsStart cast.here number a before argv kernel.spec.env dir
  is_start argv filled = record {
    kernel = kernel;
    ready = ready;
    filled = subst (λ h. AreFilled (from_root h (connection_of a.output)) kernel.folder kernel.spec.argv argv) (sym folder)
        (subst (λ p. AreFilled (from_root here p) kernel.folder kernel.spec.argv argv) at filled);
    variables = refl;
    folder = cwd;
  }

  child_called : (did : Did) (after : List Entry) → StartsChild kernel number (from_root here path) dir did before after → Since (IsCall cast) before after
  child_called did after s = subst (Since (IsCall cast) before) (sym s.ends) (one_more cast number a has _ start (refl, is_start s.argv s.filled, childless, starts))

  launch_each : (result : Result (Unit {0}) LaunchFault) (after : List Entry) → Launches kernel number (from_root here path) dir result before after → Since (IsCall cast) before after
  launch_each (Ok u) after s = child_called Done after s
  launch_each (Err launch.Failed) after s = child_called Failed after s
  launch_each (Err launch.NoMemory) after same = subst (Since (IsCall cast) before) (sym same) start

pub launch_called : (cast : Cast) (number : ℕ) (a : Ask) → cast.job number ≡ Some a → cast.starts ≡ true → (here : List ℕ) → cast.here ≡ here → (path dir : List ℕ)
    → path ≡ connection_of a.output → dir ≡ a.cwd → (kernel : Kernel) (result : Result (Unit {0}) LaunchFault) (j k : Option (List Entry))
    → IfSome j (λ past. IsReady number a past kernel) → (cast.clean ≡ true → HasEnd number j) → Told j k (Launches kernel number (from_root here path) dir result)
    → Told j k (Since (IsCall cast))
launch_called cast number a has starts here folder path dir at cwd kernel result j None ready childless told = record { so = tt }
launch_called cast number a has starts here folder path dir at cwd kernel result None (Some y) ready childless told = absurd told.so
launch_called cast number a has starts here folder path dir at cwd kernel result (Some x) (Some y) ready childless told =
    record { so = launch_each cast number a has starts here folder path dir at cwd kernel x ready childless result y told.so }
