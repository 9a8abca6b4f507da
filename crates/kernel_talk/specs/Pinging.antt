-- The pings on the heartbeat channel (Jupyter messaging 5.3, "Heartbeat for kernels").
use Rattle.std.specs.Prelude.{ℕ, ◌+◌, ◌==◌, min, nat_le, Option, Some, None, Bool, false, ◌&&◌, if◌then◌else◌}
use Rattle.kernel_talk.specs.Asking.{after_gap, has_passed}

-- a ping: when it was queued, and how many octets had to be taken of its connection for it to be sent whole
pub record Ping : Type 0 where
  pub at : ℕ
  pub end : ℕ

-- When the last ping was queued; how many were since the last echo, at most ten are counted; and the tenth of those.
pub record Pinged : Type 0 where
  pub last : Option ℕ
  pub count : ℕ
  pub tenth : Option Ping

-- the milliseconds between two pings, and from the tenth to the loss of the kernel
abbrev pub ping_ms : ℕ
ping_ms = 3000

-- A kernel that can be pinged is pinged at this moment.
abbrev pub pings : Pinged → Bool → ℕ → Bool
pings p can ms = can && has_passed ping_ms p.last ms

-- the next ping's moment
abbrev pub next_ping : Pinged → Bool → ℕ → Option ℕ
next_ping p can now = if can then Some (after_gap ping_ms p.last now) else None

-- after one more ping
abbrev pub pinged_at : Pinged → ℕ → ℕ → Pinged
pinged_at p at end = record {
  last = Some at;
  count = min (p.count + 1) 10;
  tenth = if p.count == 9 then Some (record { at = at; end = end }) else p.tenth;
}

-- after an echo
abbrev pub after_echo : Pinged → Pinged
after_echo p = record p { count = 0; tenth = None }

-- The kernel is lost: ten pings since the last echo were taken whole, and 3,000 ms have passed since the tenth.
abbrev pub is_lost_by : Option Ping → ℕ → ℕ → Bool
is_lost_by None ms taken = false
is_lost_by (Some ping) ms taken = nat_le ping.end taken && nat_le (ping.at + ping_ms) ms

-- the kernel is lost by these pings: the tenth without an echo was taken whole, 3,000 ms ago or more
abbrev pub is_lost : Pinged → ℕ → ℕ → Bool
is_lost p ms taken = is_lost_by p.tenth ms taken
