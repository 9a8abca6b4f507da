-- The meaning: outputs as nbformat 4.5 writes them (its schema, `output`), new text as lists of lines.
use Rattle.std.specs.Prelude.{ℕ, Bool, List, [], ◌∷◌, map, ◌&&◌, ◌||◌, not, Option, if◌then◌else◌, codes, nat_eq}
use Rattle.std.specs.Str.{bytes_eq}
use Rattle.std.specs.List.{starts_with, ends_with}
use Rattle.jtext.specs.declared.json.Json.{Json, out-Json}
use Rattle.jtext.specs.declared.json.Json.TheOpen.{Json-F}
use Rattle.jtext.specs.declared.json.Json.TheVariants as json
use Rattle.nb_model.specs.Lines.{lines_tree}
use Rattle.nb_model.specs.Tree.{count_tree}
use Rattle.jcontent.specs.declared.content.Content.{Content}
use Rattle.jcontent.specs.declared.content.Content.TheVariants as content
use Rattle.jcontent.specs.declared.shown.Shown.{Shown}

-- the MIME type is one of text: its strings are stored as lines
abbrev pub is_text_type : List ℕ → Bool
is_text_type key = (starts_with nat_eq key (codes "text/") || bytes_eq key (codes "application/javascript") || bytes_eq key (codes "image/svg+xml")) && not (ends_with nat_eq key (codes "+json"))

-- a string as its lines, seen at one level
abbrev pub lines_layer : Json → Json-F Json → Json
lines_layer v Json-F.Null = v
lines_layer v (Json-F.Bool b) = v
lines_layer v (Json-F.Num s) = v
lines_layer v (Json-F.Str s) = lines_tree s
lines_layer v (Json-F.Arr xs) = v
lines_layer v (Json-F.Obj ps) = v

-- a string as its lines; another value as it is
abbrev pub in_lines : Json → Json
in_lines v = lines_layer v (out-Json v)

-- one pair of a bundle
abbrev pub stored_pair : List ℕ × Json → List ℕ × Json
stored_pair p = (p.0, (if is_text_type p.0 then in_lines p.1 else p.1))

-- a bundle of a message, as it is stored
abbrev pub stored_bundle : List (List ℕ × Json) → Json
stored_bundle bundle = json.Obj (map stored_pair bundle)

-- `stream`
abbrev pub stream_tree : List ℕ → List ℕ → Json
stream_tree name text = json.Obj ((codes "name", json.Str name) ∷ (codes "output_type", json.Str (codes "stream")) ∷ (codes "text", lines_tree text) ∷ [])

-- `display_data`
abbrev pub display_tree : Shown → Json
display_tree s = json.Obj ((codes "data", stored_bundle s.bundle) ∷ (codes "metadata", s.metadata) ∷ (codes "output_type", json.Str (codes "display_data")) ∷ [])

-- `execute_result`, with its own count or `null`
abbrev pub result_tree : Shown → Option (List ℕ) → Json
result_tree s count = json.Obj ((codes "data", stored_bundle s.bundle) ∷ (codes "execution_count", count_tree count) ∷ (codes "metadata", s.metadata) ∷ (codes "output_type", json.Str (codes "execute_result")) ∷ [])

-- `error`
abbrev pub error_tree : List ℕ → List ℕ → List (List ℕ) → Json
error_tree ename evalue traceback = json.Obj ((codes "ename", json.Str ename) ∷ (codes "evalue", json.Str evalue) ∷ (codes "output_type", json.Str (codes "error")) ∷ (codes "traceback", json.Arr (map (λ l. json.Str l) traceback)) ∷ [])

-- the tree of an output; `null` for a message that makes none
abbrev pub output_tree : Content → Json
output_tree (content.Stream name text) = stream_tree name text
output_tree (content.Display s) = display_tree s
output_tree (content.Outcome s count) = result_tree s count
output_tree (content.Error ename evalue traceback) = error_tree ename evalue traceback
output_tree _ = json.Null
