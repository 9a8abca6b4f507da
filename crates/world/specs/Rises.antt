-- How counts rise.
use Rattle.std.specs.Prelude.{ℕ, ◌+◌, ◌-◌, ◌^◌, min}

-- a number as a `u64` counts it: at most the last value of a `u64`
abbrev pub clipped : ℕ → ℕ
clipped n = min n (2 ^ 64 - 1)

-- one more, up to the last value of a `u64`
abbrev pub one_more : ℕ → ℕ
one_more n = clipped (n + 1)
