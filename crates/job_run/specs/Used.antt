-- What is used of the messages that were heard (nbclient, `async_execute_cell`).
use Rattle.std.specs.Prelude.{◌≡◌, ℕ, Bool, false, List, [], ◌∷◌, ◌++◌, ◌&&◌, Option, Some, None, if◌then◌else◌}
use Rattle.nb_model.specs.declared.notebook.Notebook.{Notebook}
use Rattle.cell_core.specs.declared.brief.Brief.{Brief}
use Rattle.cell_core.specs.declared.brief.Brief.TheVariants as brief
use Rattle.cell_core.specs.declared.event.Event.{Event}
use Rattle.cell_core.specs.declared.machine.Core.{Core}
use Rattle.cell_core.specs.declared.step.Step.{Step}
use Rattle.cell_core.specs.Acts.{IsTimely, act_of, takes_of}
use Rattle.cell_core.specs.StandsFor.{StandsFor, task_of}
use Rattle.jcontent.specs.declared.content.Content.{Content}
use Rattle.jcontent.specs.declared.reply.ReplyIs.{ReplyIs}
use Rattle.jcontent.specs.declared.reply.ReplyIs.TheVariants as reply_is
use Rattle.out_fold.specs.declared.used.Used.{Used}
use Rattle.out_fold.specs.Cells.{says_idle, with_message, with_reply}
use Rattle.job_notebook.specs.declared.notebook.JobNotebook.{JobNotebook}
use Rattle.job_notebook.specs.State.{Keeps}
use Rattle.job_run.specs.declared.request.Request.{Request}

-- whatever the notebook keeps, it keeps with this message used for the current request, where it is taken
abbrev pub UsesMessage : Bool → Content → Option (List ℕ) → JobNotebook → JobNotebook → Type 0
UsesMessage takes c date old new = (first : Notebook) (us : List Used) (u : Used) → Keeps old first (us ++ u ∷ [])
    → Keeps new first (us ++ (if takes then with_message u c date else u) ∷ [])

-- whatever the notebook keeps, it keeps with the date of the reply to the current request, where it is taken
abbrev pub UsesReply : Bool → Option (List ℕ) → JobNotebook → JobNotebook → Type 0
UsesReply takes date old new = (first : Notebook) (us : List Used) (u : Used) → Keeps old first (us ++ u ∷ [])
    → Keeps new first (us ++ (if takes then with_reply u date else u) ∷ [])

-- what a message on IOPub says of its request
abbrev pub brief_in : Content → Brief
brief_in c = if says_idle c then brief.Idle else brief.Else

-- the request that stands is of a cell that is tagged so that its errors are allowed
abbrev pub is_tagged_in : Option Request → Bool
is_tagged_in None = false
is_tagged_in (Some r) = r.is_tagged

-- all but the exception that is noted with a request stays
pub data SameRequest : Option Request → Option Request → Type 0 where
  none : SameRequest None None
  some : {r s : Request} → s.id ≡ r.id → s.cell ≡ r.cell → s.is_tagged ≡ r.is_tagged → SameRequest (Some r) (Some s)

-- the exception of a reply that is an error, in place of the one that was noted
abbrev pub noted_with : ReplyIs → Option (List ℕ) → Option (List ℕ)
noted_with (reply_is.Error ename) old = Some ename
noted_with reply_is.Fine old = old

-- the exception of a reply that is taken and stops the run is noted with the request that stands; else what is noted stays
abbrev pub NotesReply : Bool → Bool → ReplyIs → Option Request → Option Request → Type 0
NotesReply takes fatal reply old new = (r s : Request) → old ≡ Some r → new ≡ Some s → s.error ≡ (if takes && fatal then noted_with reply r.error else r.error)

-- a core was told this event after all that it was told before, and answered so
pub record TakesEvent (e : Event) (answer : Step) (old new : Core) : Type 0 where
  pub stands : (events : List Event) → StandsFor old events → IsTimely (task_of old) e events → StandsFor new (e ∷ events)
  pub act : (events : List Event) → StandsFor old events → IsTimely (task_of old) e events → answer.act ≡ act_of (task_of old) e events
  pub takes : (events : List Event) → StandsFor old events → IsTimely (task_of old) e events → answer.takes ≡ takes_of (task_of old) e events
  pub same : task_of new ≡ task_of old
