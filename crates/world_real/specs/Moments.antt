-- The clock: milliseconds since 1970-01-01 UTC (POSIX.1-2017, 4.16), as far as 47 bits go.
use Rattle.std.specs.Prelude.{ℕ, ◌+◌, ◌/◌, ◌-◌, ◌^◌, min, max, Result, Ok, Err}
use Rattle.std.specs.Duration.{as_nanos}
use Rattle.std.specs.Time.{instant_nanos}
use Rattle.std.specs.declared.time.Instant.{Instant}
use Rattle.world_real.specs.declared.epoch.Epoch.{Epoch}

-- the nanoseconds since 1970 at a moment of the monotonic clock: what the clock that can be set said at the first reading, and what has passed since by the monotonic one, as far as 128 bits go
abbrev pub nanos_by : Epoch → Instant → ℕ
nanos_by epoch now = min (as_nanos epoch.wall + (instant_nanos now - instant_nanos epoch.start)) (2 ^ 128 - 1)

-- the moment after a reading of the monotonic clock: it never falls, whatever the other clock is set to, and a failed reading leaves it
abbrev pub moment_after : {E : Type 0} → Epoch → Result Instant E → ℕ → ℕ
moment_after epoch (Ok now) last = max last (min (nanos_by epoch now / 1000000) (2 ^ 47 - 1))
moment_after epoch (Err error) last = last
