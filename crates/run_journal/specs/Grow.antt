-- What stays as a journal grows.
use Rattle.std.specs.Prelude.{◌≡◌, ℕ, ◌+◌, List, [], ◌∷◌, true}
use Rattle.zmtp_wire.specs.Meaning.{Begins}
use Rattle.run_journal.specs.Job.{Job}
use Rattle.run_journal.specs.Requests.{Request, is_passed}

-- what a request may become
pub record GoesOn (old new : Request) : Type 0 where
  pub number : new.number ≡ old.number
  pub clock : new.clock ≡ old.clock
  pub io : Begins old.io new.io
  pub replies : Begins old.replies new.replies
  pub interrupted : old.interrupted ≡ true → new.interrupted ≡ true

-- each of the old requests went on, and there may be new ones
pub data GoOn : List Request → List Request → Type 0 where
  no_more : {rs : List Request} → GoOn [] rs
  one_more : {r s : Request} {rs ss : List Request} → GoesOn r s → GoOn rs ss → GoOn (r ∷ rs) (s ∷ ss)

-- each request but the last is passed; the first of these is request k
abbrev pub ArePassed : Job → ℕ → List Request → Type 0
ArePassed j k [] = Unit {0}
ArePassed j k (r ∷ []) = Unit {0}
ArePassed j k (r ∷ s ∷ rs) = (is_passed j k r ≡ true) × ArePassed j (k + 1) (s ∷ rs)
