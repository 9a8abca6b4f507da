-- What is sent on the heartbeat channel (Jupyter messaging 5.3, "Heartbeat for kernels").
use Rattle.std.specs.Prelude.{ℕ, List, [], ◌∷◌, codes}

-- a ping: any octets do, as the kernel echoes them
abbrev pub ping_message : List (List ℕ)
ping_message = codes "ping" ∷ []
