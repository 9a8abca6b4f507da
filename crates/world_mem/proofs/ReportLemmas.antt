-- Reports of no connection.
use Rattle.std.specs.Prelude.{◌≡◌, ℕ, List, false, replicate, refl}
use Rattle.std.proofs.Common.{suc, zero, sym, ◌∙◌}
use Rattle.std.proofs.lemmas.Bool.{false≢true}
use Rattle.world.specs.declared.entry.Entry.{Entry}
use Rattle.world.specs.Places.{is_reported, OnlyUp}

pub none_reported : (n p : ℕ) → is_reported p (replicate n false) ≡ false
none_reported zero p = refl
none_reported (suc n) zero = refl
none_reported (suc n) (suc p) = none_reported n p

-- where none is reported, only connections that are up are
pub none_up : (past : List Entry) → OnlyUp (replicate 64 false) past
none_up past p e = absurd (false≢true (sym (none_reported 64 p) ∙ e))
