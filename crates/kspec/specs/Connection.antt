-- The connection file of a kernel (jupyter_client, "Connection files").
use Rattle.std.specs.Prelude.{ℕ, List, [], ◌∷◌, codes, slice_index}
use Rattle.std.specs.Fmt.{decimal}
use Rattle.jtext.specs.declared.json.Json.{Json}
use Rattle.jtext.specs.declared.json.Json.TheVariants.{Num, Str, Obj}

-- the port at a place of shell, iopub, stdin, control and heartbeat
abbrev pub port : List ℕ → ℕ → Json
port ports i = Num (decimal (slice_index ports i))

-- five ports of this machine, and the key of the signatures
abbrev pub connection : List ℕ → List ℕ → Json
connection ports key = Obj (
    (codes "control_port", port ports 3)
    ∷ (codes "hb_port", port ports 4)
    ∷ (codes "iopub_port", port ports 1)
    ∷ (codes "ip", Str (codes "127.0.0.1"))
    ∷ (codes "key", Str key)
    ∷ (codes "shell_port", port ports 0)
    ∷ (codes "signature_scheme", Str (codes "hmac-sha256"))
    ∷ (codes "stdin_port", port ports 2)
    ∷ (codes "transport", Str (codes "tcp"))
    ∷ [])
