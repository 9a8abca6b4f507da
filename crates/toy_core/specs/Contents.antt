-- Contents of the replies that aren't a cell's (Jupyter messaging 5.3, "Kernel info", "Kernel interrupt", "Kernel shutdown").
use Rattle.std.specs.Prelude.{Bool, [], ◌∷◌, codes}
use Rattle.jtext.specs.declared.json.Json.{Json}
use Rattle.jtext.specs.declared.json.Json.TheVariants as json
use Rattle.jmsg.specs.Header.{text_pair}
use Rattle.toy_lang.specs.ToyOut.{Message}

-- `language_info`
abbrev pub language_info : Json
language_info = json.Obj (
    text_pair (codes "name") (codes "toy")
    ∷ text_pair (codes "version") (codes "1")
    ∷ text_pair (codes "mimetype") (codes "text/plain")
    ∷ text_pair (codes "file_extension") (codes ".toy")
    ∷ [])

-- `kernel_info_reply`
abbrev pub kernel_info_reply : Message
kernel_info_reply = (
  codes "kernel_info_reply",
  json.Obj (
      text_pair (codes "status") (codes "ok")
      ∷ text_pair (codes "protocol_version") (codes "5.3")
      ∷ text_pair (codes "implementation") (codes "toy")
      ∷ text_pair (codes "implementation_version") (codes "1")
      ∷ (codes "language_info", language_info)
      ∷ text_pair (codes "banner") (codes "toy")
      ∷ []),
)

-- `interrupt_reply`
abbrev pub interrupt_reply : Message
interrupt_reply = (codes "interrupt_reply", json.Obj (text_pair (codes "status") (codes "ok") ∷ []))

-- `shutdown_reply`; it says whether the kernel is to be started again, as the request does
abbrev pub shutdown_reply : Bool → Message
shutdown_reply restart = (
  codes "shutdown_reply",
  json.Obj (text_pair (codes "status") (codes "ok") ∷ (codes "restart", json.Bool restart) ∷ []),
)
