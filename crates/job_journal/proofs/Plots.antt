-- What the parts of an execution have of the job that they are for.
use Rattle.std.proofs.Common.{◌≡◌, ℕ, List, map, refl, ◌∙◌, ap}
use Rattle.world.specs.declared.chan.Chan.TheVariants.{Shell, Iopub, Heart}
use Rattle.nb_model.specs.declared.notebook.Notebook.{Notebook}
use Rattle.nb_text.specs.Notebooks.{text_of}
use Rattle.progress_save.specs.Prefix.{prefix}
use Rattle.kernel_talk.specs.Requests.{Identity, message_id}
use Rattle.cell_core.specs.declared.machine.Core.{Core}
use Rattle.cell_core.specs.Saves as core_saves
use Rattle.cell_core.specs.StandsFor.{task_of}
use Rattle.out_fold.specs.declared.used.Used.{Used}
use Rattle.job_notebook.specs.declared.notebook.JobNotebook.{JobNotebook}
use Rattle.job_notebook.specs.State.{Keeps, merge_of, output_of}
use Rattle.run_journal.specs.Jupyter.{bodies_in, echo, jupyter_codec}
use Rattle.run_journal.specs.Requests.{Request, used_of}
use Rattle.job_journal.specs.Plot.{Plot, facts, speaker, first, IsFor}
use Rattle.job_journal.specs.Saved.{save_of}
use Rattle.job_journal.specs.Seen.{heard_in, ReadsSigned}
use Rattle.job_journal.specs.Used.{OnBook}

-- parts that have not changed what they are for
pub for_still : (p : Plot) (number : ℕ) (s t : Identity) (core next : Core) (book now : JobNotebook) → IsFor p number s core book → t.name ≡ s.name → t.key ≡ s.key
    → task_of next ≡ task_of core → output_of now ≡ output_of book → merge_of now ≡ merge_of book → IsFor p number t next now
for_still p number s t core next book now h name key task output merge = record {
  number_is = h.number_is;
  session_is = name ∙ h.session_is;
  key_is = key ∙ h.key_is;
  task_is = task ∙ h.task_is;
  runs = h.runs;
  output_is = output ∙ h.output_is;
  merge_is = merge ∙ h.merge_is;
}

-- on shell and on IOPub the job reads what is signed under its key
pub reads_shell : (p : Plot) → ReadsSigned p.setting.key (facts p) Shell
unfolding heard_in
reads_shell p = λ bytes. refl

pub reads_iopub : (p : Plot) → ReadsSigned p.setting.key (facts p) Iopub
unfolding heard_in
reads_iopub p = λ bytes. refl

-- on the heartbeat each body counts
pub reads_heart : (p : Plot) (bytes : List ℕ) → (facts p).codec.messages Heart bytes ≡ map (λ body. echo) (bodies_in Heart bytes)
reads_heart p bytes = refl

-- its codec is that of its speaker
pub codec_is : (p : Plot) → (facts p).codec ≡ jupyter_codec (speaker p)
codec_is p = refl

-- the ids of its messages
pub ids_are : (p : Plot) (n : ℕ) → (facts p).msg_id n ≡ message_id p.setting.session n
ids_are p n = refl

-- The text of the notebook that is saved is the one of the save.
pub text_is : (p : Plot) (number : ℕ) (session : Identity) (core : Core) (old : JobNotebook) (saved : Notebook) (rs : List Request) (q : core_saves.Prefix)
    → IsFor p number session core old → OnBook (facts p) (first p) old rs
    → ((given : Notebook) (us : List Used) → Keeps old given us → saved ≡ prefix (merge_of old) us q.settled q.stopping_cell given)
    → text_of saved ≡ (save_of (facts p) (used_of (facts p).task.plan rs) q).text
text_is p number session core old saved rs q h b save =
    let us : List Used = used_of (facts p).task.plan rs in
    ap text_of (save (first p) us b.keeps ∙ ap (λ merge. prefix merge us q.settled q.stopping_cell (first p)) h.merge_is)
