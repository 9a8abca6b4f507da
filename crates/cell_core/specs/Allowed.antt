-- Which replies don't stop a job (Jupyter messaging 5.3, "Execution results"; nbclient, `allow_errors`, `allow_error_names` and the tag `raises-exception`).
use Rattle.std.specs.Prelude.{ℕ, List, Bool, true, ◌||◌}
use Rattle.std.specs.List.{list_any}
use Rattle.std.specs.Str.{bytes_eq}
use Rattle.jcontent.specs.declared.reply.ReplyIs.{ReplyIs}
use Rattle.jcontent.specs.declared.reply.ReplyIs.TheVariants as reply

-- no error, or one that is allowed: for all cells, by the exception's name, or by the cell's tag
abbrev pub is_allowed : ReplyIs → Bool → List (List ℕ) → Bool → Bool
is_allowed reply.Fine all names tagged = true
is_allowed (reply.Error ename) all names tagged = all || list_any (λ n. bytes_eq ename n) names || tagged
