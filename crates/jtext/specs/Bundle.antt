-- Data by media type, as nbformat 4.5 (its schema, `mimebundle`) and Jupyter's messages have it.
use Rattle.std.specs.Prelude.{ℕ, Bool, List, ◌||◌, ◌&&◌, codes, nat_eq}
use Rattle.std.specs.List.{list_all, ends_with}
use Rattle.std.specs.Str.{bytes_eq}
use Rattle.jtext.specs.declared.json.Json.{Json}
use Rattle.jtext.specs.Find.{fields}
use Rattle.jtext.specs.Look.{is_object, is_string, is_strings}

-- a string, or a list of strings that are joined
abbrev pub is_multiline : Json → Bool
is_multiline v = is_string v || is_strings v

-- the media type is one of JSON's, whose data is any tree
abbrev pub is_json_type : List ℕ → Bool
is_json_type key = bytes_eq key (codes "application/json") || ends_with nat_eq key (codes "+json")

-- an object whose values are multiline strings, but under a media type of JSON's
abbrev pub is_bundle : Json → Bool
is_bundle v = is_object v && list_all (λ p. is_json_type p.0 || is_multiline p.1) (fields v)
