-- The moments of calls.
use Rattle.std.proofs.Common.{◌≡◌, List, refl, sym, subst}
use Rattle.world.specs.declared.entry.Entry.{Entry}
use Rattle.world.specs.Moments.{Since, start, more}
use Rattle.job_saves.proofs.ToldLemmas.{too_long}

-- two facts of each new entry
both_from : {P Q : List Entry → Type 0} {x z y : List Entry} → x ≡ z → Since P x y → Since Q z y → Since (λ now. P now × Q now) x y
both_from e start start = start
both_from {P} {Q} e start (more {past = mid} s q) = absurd (too_long (subst (λ w. Since Q w mid) (sym e) s))
both_from {P} {Q} e (more {past = mid} s p) start = absurd (too_long (subst (λ w. Since P w mid) e s))
both_from e (more s p) (more t q) = more (both_from e s t) (p, q)

pub since_both : {P Q : List Entry → Type 0} {x y : List Entry} → Since P x y → Since Q x y → Since (λ now. P now × Q now) x y
since_both s t = both_from refl s t
