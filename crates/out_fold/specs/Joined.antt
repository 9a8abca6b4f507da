-- The meaning: neighbouring stream outputs of one name, as one (nbclient, `coalesce_streams`).
use Rattle.std.specs.Prelude.{ℕ, List, [], ◌∷◌, ◌++◌, ◌+◌, is_some, Option, Some, None, if◌then◌else◌}
use Rattle.std.specs.Option.{option_map, option_map_or}
use Rattle.std.specs.Str.{bytes_eq}
use Rattle.jcontent.specs.declared.content.Content.{Content}
use Rattle.jcontent.specs.declared.content.Content.TheVariants as content

-- the text of a stream of this name
abbrev pub text_of : List ℕ → Content → Option (List ℕ)
text_of name (content.Stream other text) = if bytes_eq other name then Some text else None
text_of name _ = None

-- two streams of one name as one, their texts joined
abbrev pub fuse : Content → Content → Option Content
fuse (content.Stream name text) next = option_map (λ more. content.Stream name (text ++ more)) (text_of name next)
fuse _ next = None

-- an output and those after it, neighbouring streams of one name fused
abbrev pub joined_after : Content → List Content → List Content
joined_after c [] = c ∷ []
joined_after c (next ∷ rest) = option_map_or (λ both. joined_after both rest) (fuse c next) (c ∷ joined_after next rest)

-- outputs in which no neighbouring streams have one name
abbrev pub join : List Content → List Content
join [] = []
join (c ∷ rest) = joined_after c rest

-- how many streams of this name come first
abbrev pub run_len : List ℕ → List Content → ℕ
run_len name [] = 0
run_len name (c ∷ rest) = if is_some (text_of name c) then run_len name rest + 1 else 0

-- the text of a stream, and none of another output
abbrev pub stream_text : Content → List ℕ
stream_text (content.Stream name text) = text
stream_text _ = []
