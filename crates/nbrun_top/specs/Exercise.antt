-- The world of an exercise, and what its one job is asked.
use Rattle.std.specs.Prelude.{◌≡◌, ℕ, true, false, None, List, [], ◌∷◌, codes}
use Rattle.kernel_talk.specs.Requests.{identifier}
use Rattle.nb_text.specs.Generated.{generated_notebook}
use Rattle.toy_core.specs.declared.toy.Toy.{Toy}
use Rattle.toy_core.specs.Toy as toy
use Rattle.words.specs.declared.ask.Ask.{Ask}
use Rattle.world_mem.specs.declared.near.Near.{Near}
use Rattle.world_mem.specs.declared.script.Script.{Script}
use Rattle.world_mem.specs.Folder.{Content}
use Rattle.world_mem.specs.Near.{IsNew}
use Rattle.nb_text.specs.Notebooks.{text_of}

-- the path of the notebook that is read
abbrev pub input : List ℕ
input = codes "in.ipynb"

-- the path that is written
abbrev pub output : List ℕ
output = codes "out.ipynb"

-- what is asked by these two paths alone
abbrev pub ask : Ask
ask = record {
  input = input;
  output = output;
  kernel = None;
  kernel_path = codes "/usr/local/share/jupyter/kernels";
  cwd = codes ".";
  params = [];
  prepare = false;
  report = false;
  merge = false;
  all_errors = false;
  interrupt = false;
  heartbeat = true;
  names = [];
  start_ms = 60000;
  limit_ms = None;
}

-- how the kernel is described
abbrev pub kernel_spec : List ℕ
kernel_spec = codes "{\"argv\":[\"toy_kernel\",\"{connection_file}\"],\"display_name\":\"Toy\",\"interrupt_mode\":\"message\",\"language\":\"toy\"}"

-- the generated notebook of so many cells, and the description of the kernel
abbrev pub files : ℕ → Content
files n =
    (input, text_of (generated_notebook n))
    ∷ (codes "/usr/local/share/jupyter/kernels/toy/kernel.json", kernel_spec) ∷ []

-- no call fails, no connect is refused, and reads give all that is there
abbrev pub script : Script
script = record { start_ms = 0; pieces = []; fails = []; refusals = 0 }

-- a world was opened with these files and this script, and nothing was asked of it yet
abbrev pub IsOpened : ℕ → Near → Type 0
IsOpened n near = IsNew near (files n) script

-- one kernel, to which nothing has happened, and which signs under the key that the first job draws
pub record IsFresh (kernels : List Toy) : Type 0 where
  pub kernel : Toy
  pub one : kernels ≡ kernel ∷ []
  pub fresh : toy.StandsFor kernel []
  pub key : toy.key_of kernel ≡ identifier 2 3

-- no kernel was told a moment after the clock's start
pub record IsEarly (kernels : List Toy) : Type 0 where
  pub kernel : Toy
  pub one : kernels ≡ kernel ∷ []
  pub early : toy.latest_of kernel ≡ 0
