-- Contents of requests (Jupyter messaging 5.3, "Execute", "Kernel shutdown").
use Rattle.std.specs.Prelude.{ℕ, Bool, true, false, List, [], ◌∷◌, codes}
use Rattle.jtext.specs.declared.json.Json.{Json}
use Rattle.jtext.specs.declared.json.Json.TheVariants as json

-- the content of a request that says nothing more
abbrev pub empty : Json
empty = json.Obj []

-- `execute_request`, for this code
abbrev pub execute : List ℕ → Bool → Json
execute code stop_on_error = json.Obj ((codes "code", json.Str code) ∷ (codes "silent", json.Bool false) ∷ (codes "store_history", json.Bool true)
    ∷ (codes "user_expressions", empty) ∷ (codes "allow_stdin", json.Bool false) ∷ (codes "stop_on_error", json.Bool stop_on_error) ∷ [])

-- `shutdown_request`, with no start after it
abbrev pub shutdown : Json
shutdown = json.Obj ((codes "restart", json.Bool false) ∷ [])
