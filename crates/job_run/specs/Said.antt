-- What an execution says to its kernel (Jupyter messaging 5.3, "Execute", "The wire protocol").
use Rattle.std.specs.Prelude.{◌≡◌, ◌+◌, ℕ, Bool, true, false, ◌||◌, not, List, ◌∷◌, ◌++◌, [], Some, None, codes}
use Rattle.jtext.specs.declared.json.Json.{Json}
use Rattle.world.specs.declared.chan.Chan.{Chan}
use Rattle.world.specs.declared.chan.Chan.TheVariants.{Shell, Control}
use Rattle.nb_model.specs.declared.cell.Cell.{Cell}
use Rattle.nb_model.specs.declared.notebook.Notebook.{Notebook}
use Rattle.nb_model.specs.Planned.{code}
use Rattle.nb_model.specs.Tags.{is_tagged}
use Rattle.jmsg.specs.Encoded.{encode}
use Rattle.jcontent.specs.Requests.{execute, shutdown}
use Rattle.kernel_talk.specs.Requests.{message_id, request}
use Rattle.kernel_lines.specs.Happened.{History, Given}
use Rattle.kernel_lines.specs.Line.{StandsFor, role_of, taken_of}
use Rattle.kernel_lines.specs.Lines.{OthersStay, line_on}
use Rattle.out_fold.specs.declared.used.Used.{Used}
use Rattle.out_fold.specs.Cells.{begin}
use Rattle.job_notebook.specs.State.{Keeps, KeepsParts}
use Rattle.job_run.specs.declared.execution.Execution.{Execution}
use Rattle.job_run.specs.declared.request.Request.{Request}
use Rattle.job_run.specs.declared.terms.Terms.{Terms}

-- the frames of the next message of the session: of this kind, with this content, dated by the last clock entry
abbrev pub next_message : Execution → List ℕ → Json → List (List ℕ)
next_message x kind content = encode x.session.key (request x.session.name (x.session.made + 1) x.clock kind content)

-- the id of the next message of the session
abbrev pub next_id : Execution → List ℕ
next_id x = message_id x.session.name (x.session.made + 1)

-- A message of this kind with this content was queued on this channel, and nothing on the others: it is the next of the session.
pub record QueuesNext (chan : Chan) (kind : List ℕ) (content : Json) (x y : Execution) : Type 0 where
  pub line : (h : History) (out : List ℕ) → StandsFor (line_on x.lines chan) h out → StandsFor (line_on y.lines chan) (Given (next_message x kind content) ∷ h) out
  pub role : role_of (line_on y.lines chan) ≡ role_of (line_on x.lines chan)
  pub taken : taken_of (line_on y.lines chan) ≡ taken_of (line_on x.lines chan)
  pub others : OthersStay chan x.lines y.lines
  pub made : y.session ≡ record x.session { made = x.session.made + 1 }

-- the tag of a cell whose errors don't stop the run (nbclient)
abbrev pub may_raise : Cell → Bool
may_raise c = is_tagged (codes "raises-exception") c

-- the kernel is to drop what is queued behind the cell where the cell raises: unless errors are allowed for all, or the cell is tagged
abbrev pub stops_kernel : Terms → Cell → Bool
stops_kernel t c = not (t.all_errors || may_raise c)

-- what asks the kernel to execute a cell
abbrev pub asks_for : Terms → Cell → Json
asks_for t c = execute (code c) (stops_kernel t c)

-- a request of this cell was made as the next message, and nothing came for it yet
pub record IsRequestOf (cell : ℕ) (c : Cell) (x : Execution) (r : Request) : Type 0 where
  pub id : r.id ≡ next_id x
  pub cell_is : r.cell ≡ cell
  pub tagged : r.is_tagged ≡ may_raise c
  pub calm : r.error ≡ None

-- The kernel is asked on shell, and nowhere else, to execute this cell, and its request stands from here on.
pub record SendsCell (cell : ℕ) (c : Cell) (x y : Execution) : Type 0 where
  pub queued : QueuesNext Shell (codes "execute_request") (asks_for x.terms c) x y
  pub request : Request
  pub stands : y.request ≡ Some request
  pub is : IsRequestOf cell c x request
  pub sent : y.sent ≡ x.sent + 1
  pub begun : (first : Notebook) (us : List Used) → Keeps x.book first us → Keeps y.book first (us ++ begin cell ∷ [])
  pub parts : KeepsParts x.book y.book
  pub rest : y ≡ record x { session = y.session; lines = y.lines; book = y.book; request = y.request; sent = y.sent }

-- the kernel is asked on control to shut down, where its handshake is finished; else nothing is said
abbrev pub ShutsDown : Bool → Execution → Execution → Type 0
ShutsDown true x y = QueuesNext Control (codes "shutdown_request") shutdown x y
ShutsDown false x y = y ≡ x
