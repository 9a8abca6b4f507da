-- What holds of each content that is read of a message: data that nbformat takes as it is (nbformat 4.5
-- schema, `mimebundle`, `misc`), metadata that are objects, and texts.
use Rattle.std.specs.Prelude.{◌≡◌, ℕ, ◌<◌, true, is_some, List, Option, ⊤}
use Rattle.std.specs.List.{All}
use Rattle.std.specs.Option.{IfSome}
use Rattle.std.specs.Str.{IsUtf8}
use Rattle.jtext.specs.declared.json.Json.{Json}
use Rattle.jtext.specs.declared.json.Json.TheVariants as json
use Rattle.jtext.specs.Bundle.{is_bundle}
use Rattle.jtext.specs.Depth.{depth}
use Rattle.jtext.specs.Keyed.{Keyed}
use Rattle.jtext.specs.Look.{is_object, is_whole_text, absent_or}
use Rattle.jtext.specs.Sound.{Sound}
use Rattle.jcontent.specs.declared.content.Content.{Content}
use Rattle.jcontent.specs.declared.content.Content.TheVariants as content
use Rattle.jcontent.specs.declared.reply.ReplyIs.{ReplyIs}
use Rattle.jcontent.specs.declared.reply.ReplyIs.TheVariants as reply
use Rattle.jcontent.specs.declared.shown.Shown.{Shown}

-- a tree inside a content nested at most 100 deep: no key twice in an object, numbers and UTF-8 alone
pub record IsInner (t : Json) : Type 0 where
  pub keyed : Keyed t
  pub sound : Sound t
  pub within : depth t < 100

-- data by media type, metadata by media type, and a display id that is UTF-8
pub record IsShown (s : Shown) : Type 0 where
  pub bundle : is_bundle (json.Obj s.bundle) ≡ true
  pub values : IsInner (json.Obj s.bundle)
  pub object : is_object s.metadata ≡ true
  pub metadata : IsInner s.metadata
  pub id : IfSome s.id IsUtf8

-- an execution count, where one is told, is a whole number
abbrev pub IsCount : Option (List ℕ) → Type 0
IsCount count = absent_or is_whole_text count ≡ true

-- the name of the exception is UTF-8
abbrev pub IsReply : ReplyIs → Type 0
IsReply (reply.Error ename) = IsUtf8 ename
IsReply reply.Fine = ⊤

-- what holds of a content that was read, by its type
abbrev pub IsRead : Content → Type 0
IsRead (content.Status state) = ⊤
IsRead (content.Input count) = IsCount count
IsRead (content.Stream name text) = IsUtf8 name × IsUtf8 text
IsRead (content.Display s) = IsShown s
IsRead (content.Update s) = IsShown s × (is_some s.id ≡ true)
IsRead (content.Outcome s count) = IsShown s × IsCount count
IsRead (content.Error ename evalue traceback) = IsUtf8 ename × IsUtf8 evalue × All IsUtf8 traceback
IsRead (content.Clear later) = ⊤
IsRead (content.ExecReply r) = IsReply r
IsRead content.InfoReply = ⊤
IsRead content.Other = ⊤
