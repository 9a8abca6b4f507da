-- Names of kernels (jupyter_client, "Kernel specs": letters and digits of ASCII, and simple separators).
use Rattle.std.specs.Prelude.{ℕ, Bool, List, ◌&&◌, ◌||◌, ◌==◌, not, nat_le, length, codes}
use Rattle.std.specs.Char.{is_ascii_alphanumeric}
use Rattle.std.specs.List.{list_all}
use Rattle.std.specs.Str.{bytes_eq}

-- a letter or digit of ASCII, a dot, an underscore or a hyphen
abbrev pub is_name_char : ℕ → Bool
is_name_char c = is_ascii_alphanumeric c || c == 46 || c == 95 || c == 45

-- 1 to 128 of them, and neither the folder itself nor the one above it
abbrev pub is_good : List ℕ → Bool
is_good name =
    nat_le 1 (length name) && nat_le (length name) 128 && list_all is_name_char name
    && not (bytes_eq name (codes ".")) && not (bytes_eq name (codes ".."))
