-- Bundles (nbformat 4.5 schema, `mimebundle`): data by MIME type.
use Rattle.std.specs.Prelude.{ℕ, List, Option, Some, None, if◌then◌else◌, codes, option_and_then}
use Rattle.jtext.specs.declared.json.Json.{Json}
use Rattle.jtext.specs.Find.{field, fields}
use Rattle.jtext.specs.Look.{is_object}
use Rattle.jtext.specs.Bundle.{is_bundle}

-- the pairs of an object
abbrev pub pairs : Json → Option (List (List ℕ × Json))
pairs v = if is_object v then Some (fields v) else None

-- the pairs of a bundle
abbrev pub bundle : Json → Option (List (List ℕ × Json))
bundle v = if is_bundle v then pairs v else None

-- the bundle under `data`
abbrev pub bundle_at : Json → Option (List (List ℕ × Json))
bundle_at t = option_and_then bundle (field t (codes "data"))
