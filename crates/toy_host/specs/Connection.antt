-- Connection files, as a kernel reads them (jupyter_client, "Connection files").
use Rattle.std.specs.Prelude.{◌≡◌, ℕ, Bool, cond, ◌&&◌, nat_le, List, length, Option, Some, None, option_and_then, codes}
use Rattle.std.specs.Str.{bytes_eq}
use Rattle.jtext.specs.declared.json.Json.{Json}
use Rattle.jtext.specs.Look.{string_at, number_at, is_whole_text, there_and}
use Rattle.jtext.specs.Names.{short_number}
use Rattle.jmsg.specs.Dictionary.{IsDictionary}
use Rattle.toy_host.specs.declared.connection.Connection.{Connection}
use Rattle.toy_host.specs.declared.sockets.Ports.{Ports}

-- a port of TCP: not 0, and of 16 bits
abbrev pub as_port : ℕ → Option ℕ
as_port n = cond (nat_le 1 n && nat_le n 65535) (Some n) None

-- the port that a number's text spells
abbrev pub port : List ℕ → Option ℕ
port text = cond (is_whole_text text && nat_le (length text) 5) (option_and_then as_port (short_number text)) None

-- the port under a key
abbrev pub port_at : Json → List ℕ → Option ℕ
port_at t key = option_and_then port (number_at t key)

-- the string under a key is this one
abbrev pub is_text_at : Json → List ℕ → List ℕ → Bool
is_text_at t key text = there_and (λ s. bytes_eq s text) (string_at t key)

-- what this kernel serves: TCP on this machine, and this scheme of signatures
abbrev pub is_served : Json → Bool
is_served t =
    is_text_at t (codes "ip") (codes "127.0.0.1") && is_text_at t (codes "transport") (codes "tcp")
    && is_text_at t (codes "signature_scheme") (codes "hmac-sha256")

-- four ports, where each is there, and the one for input too
abbrev pub ports_with : Option ℕ → Option ℕ → Option ℕ → Option ℕ → Option ℕ → Option Ports
ports_with None control iopub heart input = None
ports_with (Some shell) None iopub heart input = None
ports_with (Some shell) (Some control) None heart input = None
ports_with (Some shell) (Some control) (Some iopub) None input = None
ports_with (Some shell) (Some control) (Some iopub) (Some heart) None = None
ports_with (Some shell) (Some control) (Some iopub) (Some heart) (Some input) =
    Some (record { shell = shell; control = control; iopub = iopub; heart = heart })

-- the ports
abbrev pub ports_of : Json → Option Ports
ports_of t =
    ports_with (port_at t (codes "shell_port")) (port_at t (codes "control_port")) (port_at t (codes "iopub_port"))
    (port_at t (codes "hb_port")) (port_at t (codes "stdin_port"))

-- ports with a key, where both are there
abbrev pub connection_with : Option Ports → Option (List ℕ) → Option Connection
connection_with None key = None
connection_with (Some ports) None = None
connection_with (Some ports) (Some key) = Some (record { ports = ports; key = key })

-- what the object of a connection file says, where each key is there in its shape
abbrev pub connection_of : Json → Option Connection
connection_of t = cond (is_served t) (connection_with (ports_of t) (string_at t (codes "key"))) None

-- the octets spell an object that says this
abbrev pub IsConnection : Connection → List ℕ → Type 0
IsConnection c bytes = (t : Json) × IsDictionary t bytes × (connection_of t ≡ Some c)
