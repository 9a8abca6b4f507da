-- Requests as the toy kernel reads them (Jupyter messaging 5.3, "Messages on the shell", "Messages on the control").
use Rattle.std.specs.Prelude.{ℕ, ◌+◌, cond, List, Option, Some, None, codes, drop, slice_get, position, option_and_then}
use Rattle.std.specs.Str.{bytes_eq}
use Rattle.jtext.specs.declared.json.Json.{Json}
use Rattle.jtext.specs.Look.{is_true_at, string_at}
use Rattle.jmsg.specs.declared.message.Message as message
use Rattle.jmsg.specs.Decoding.{decode, dictionary_in}
use Rattle.jmsg.specs.Signed.{delimiter}
use Rattle.world.specs.declared.chan.Chan.{Chan}
use Rattle.world.specs.declared.chan.Chan.TheVariants as chan
use Rattle.toy_core.specs.declared.request.Asked.{Asked}
use Rattle.toy_core.specs.declared.request.Asked.TheVariants.{Execute, Info, Interrupt, Shutdown}
use Rattle.toy_core.specs.declared.request.Request.{Request}

-- the frame of the header: the second after the first delimiter
abbrev pub header_frame : List (List ℕ) → Option (List ℕ)
header_frame parts = option_and_then (λ i. slice_get (drop (i + 1) parts) 1) (position (bytes_eq delimiter) parts)

-- the header as it came
abbrev pub header_tree : List (List ℕ) → Option Json
header_tree parts = option_and_then dictionary_in (header_frame parts)

-- an execution of code, where there is code
abbrev pub execution : Option (List ℕ) → Option Asked
execution None = None
execution (Some code) = Some (Execute code)

-- what a message on shell asks for
abbrev pub asked_on_shell : List ℕ → Json → Option Asked
asked_on_shell kind content =
    cond (bytes_eq kind (codes "execute_request")) (execution (string_at content (codes "code")))
    (cond (bytes_eq kind (codes "kernel_info_request")) (Some Info) None)

-- what a message on control asks for
abbrev pub asked_on_control : List ℕ → Json → Option Asked
asked_on_control kind content =
    cond (bytes_eq kind (codes "interrupt_request")) (Some Interrupt)
    (cond (bytes_eq kind (codes "shutdown_request")) (Some (Shutdown (is_true_at content (codes "restart")))) None)

-- what a message on a channel asks for
abbrev pub ask_of : Chan → List ℕ → Json → Option Asked
ask_of chan.Shell kind content = asked_on_shell kind content
ask_of chan.Control kind content = asked_on_control kind content
ask_of chan.Iopub kind content = None
ask_of chan.Heart kind content = None

-- what a signed message on a channel asks for
abbrev pub asked_by : Chan → Option message.Message → Option Asked
asked_by c None = None
asked_by c (Some m) = ask_of c m.header.msg_type m.content

-- a request with the header to which it is answered
abbrev pub request_with : Option Json → Option Asked → Option Request
request_with None a = None
request_with (Some parent) None = None
request_with (Some parent) (Some a) = Some (record { parent = parent; asked = a })

-- the request that parts on a channel are, signed under the key
abbrev pub request_in : List ℕ → Chan → List (List ℕ) → Option Request
request_in key c parts = request_with (header_tree parts) (asked_by c (decode key parts))
