-- What messages say (Jupyter messaging 5.3, "Messages on the IOPub (PUB/SUB) channel", "Execution results", "Kernel info").
use Rattle.std.specs.Prelude.{ℕ, List, [], Option, Some, None, is_some, if◌then◌else◌, codes}
use Rattle.std.specs.Str.{bytes_eq}
use Rattle.jtext.specs.declared.json.Json.{Json}
use Rattle.jtext.specs.declared.json.Json.TheVariants as json
use Rattle.jtext.specs.Find.{field}
use Rattle.jcontent.specs.declared.content.Content.{Content}
use Rattle.jcontent.specs.declared.content.Content.TheVariants as content
use Rattle.jcontent.specs.declared.state.State.{State}
use Rattle.jcontent.specs.declared.state.State.TheVariants as state
use Rattle.jcontent.specs.declared.reply.ReplyIs.TheVariants as reply
use Rattle.jcontent.specs.declared.shown.Shown.{Shown}
use Rattle.jtext.specs.Look.{is_object, string, string_at, is_true_at}
use Rattle.jcontent.specs.Texts.{texts_at, count}
use Rattle.jcontent.specs.Bundle.{bundle_at}

-- the execution state of that name
abbrev pub state_named : List ℕ → State
state_named name = if bytes_eq name (codes "busy") then state.Busy else if bytes_eq name (codes "idle") then state.Idle else state.Else

-- of the name of a state, if there is one
abbrev pub status_of : Option (List ℕ) → Content
status_of None = content.Other
status_of (Some name) = content.Status (state_named name)

-- `status`: the string `execution_state`
abbrev pub status : Json → Content
status t = status_of (string_at t (codes "execution_state"))

-- of the name and the text, if both are there
abbrev pub stream_of : Option (List ℕ) → Option (List ℕ) → Content
stream_of None text = content.Other
stream_of (Some name) None = content.Other
stream_of (Some name) (Some text) = content.Stream name text

-- `stream`: the strings `name` and `text`
abbrev pub stream : Json → Content
stream t = stream_of (string_at t (codes "name")) (string_at t (codes "text"))

-- a value that is an object
abbrev pub object : Json → Option Json
object v = if is_object v then Some v else None

-- an object, and the empty one where nothing is
abbrev pub object_or_empty : Option Json → Option Json
object_or_empty None = Some (json.Obj [])
object_or_empty (Some v) = object v

-- the metadata: an object, the empty one where the key is absent
abbrev pub metadata : Json → Option Json
metadata t = object_or_empty (field t (codes "metadata"))

-- the display id in `transient`, if that is there
abbrev pub display_id_in : Option Json → Option (List ℕ)
display_id_in None = None
display_id_in (Some transient) = string_at transient (codes "display_id")

-- the display id: the string `display_id` of `transient`
abbrev pub display_id : Json → Option (List ℕ)
display_id t = display_id_in (field t (codes "transient"))

-- of a bundle and its metadata, if both are there
abbrev pub shown_of : Option (List (List ℕ × Json)) → Option Json → Option (List ℕ) → Option Shown
shown_of None about id = None
shown_of (Some pairs) None id = None
shown_of (Some pairs) (Some about) id = Some (record { bundle = pairs; metadata = about; id = id })

-- what is shown: the bundle `data`, its metadata and its display id
abbrev pub shown_data : Json → Option Shown
shown_data t = shown_of (bundle_at t) (metadata t) (display_id t)

-- of what is shown, if something is
abbrev pub display_of : Option Shown → Content
display_of None = content.Other
display_of (Some s) = content.Display s

-- `display_data`
abbrev pub display : Json → Content
display t = display_of (shown_data t)

-- of what is shown, if it has a display id
abbrev pub update_of : Option Shown → Content
update_of None = content.Other
update_of (Some s) = if is_some s.id then content.Update s else content.Other

-- `update_display_data`, which names what it updates
abbrev pub update : Json → Content
update t = update_of (shown_data t)

-- of what is shown, if something is, and the count
abbrev pub outcome_of : Option Shown → Option (List ℕ) → Content
outcome_of None n = content.Other
outcome_of (Some s) n = content.Outcome s n

-- `execute_result`
abbrev pub outcome : Json → Content
outcome t = outcome_of (shown_data t) (count t)

-- of name, value and traceback, if all are there
abbrev pub error_of : Option (List ℕ) → Option (List ℕ) → Option (List (List ℕ)) → Content
error_of None evalue traceback = content.Other
error_of (Some ename) None traceback = content.Other
error_of (Some ename) (Some evalue) None = content.Other
error_of (Some ename) (Some evalue) (Some traceback) = content.Error ename evalue traceback

-- `error`: the strings `ename` and `evalue`, and `traceback`, a list of strings
abbrev pub error : Json → Content
error t = error_of (string_at t (codes "ename")) (string_at t (codes "evalue")) (texts_at t (codes "traceback"))

-- of the name of the exception, if it is a string
abbrev pub named_by : Option (List ℕ) → Content
named_by None = content.Other
named_by (Some ename) = content.ExecReply (reply.Error ename)

-- of the value under `ename`, if there is one
abbrev pub raised_by : Option Json → Content
raised_by None = content.ExecReply (reply.Error [])
raised_by (Some v) = named_by (string v)

-- a reply of the status `error`: `ename` is a string, and empty where it is absent
abbrev pub error_reply : Json → Content
error_reply t = raised_by (field t (codes "ename"))

-- of the status, if there is one
abbrev pub reply_of : Json → Option (List ℕ) → Content
reply_of t None = content.Other
reply_of t (Some status) = if bytes_eq status (codes "error") then error_reply t else content.ExecReply reply.Fine

-- `execute_reply`: the string `status`
abbrev pub execute_reply : Json → Content
execute_reply t = reply_of t (string_at t (codes "status"))

-- the content of a message that makes or changes an output
abbrev pub output : List ℕ → Json → Content
output kind t =
    if bytes_eq kind (codes "stream") then stream t
    else if bytes_eq kind (codes "display_data") then display t
    else if bytes_eq kind (codes "update_display_data") then update t
    else if bytes_eq kind (codes "execute_result") then outcome t
    else if bytes_eq kind (codes "error") then error t
    else content.Other

-- the content of a message of this type
abbrev pub content_of : List ℕ → Json → Content
content_of kind t =
    if bytes_eq kind (codes "status") then status t
    else if bytes_eq kind (codes "execute_input") then content.Input (count t)
    else if bytes_eq kind (codes "clear_output") then content.Clear (is_true_at t (codes "wait"))
    else if bytes_eq kind (codes "execute_reply") then execute_reply t
    else if bytes_eq kind (codes "kernel_info_reply") then content.InfoReply
    else output kind t
