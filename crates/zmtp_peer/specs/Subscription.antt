-- Subscriptions, as PUB keeps them (RFC 29, "The PUB Socket Type"; RFC 23: 01 and a prefix subscribes, 00 and a prefix takes back).
use Rattle.std.specs.Prelude.{◌≡◌, ℕ, cond, nat_eq, List, [], ◌∷◌, ◌++◌}
use lib.Pointwise.{pointwise}
use Rattle.zmtp_wire.specs.declared.role.Role.{Role}
use Rattle.zmtp_wire.specs.Command.{is_pub}
use Rattle.zmtp_wire.specs.Meaning.{messages_in}

-- the prefixes without the first that is this one
abbrev pub without : List ℕ → List (List ℕ) → List (List ℕ)
without p [] = []
without p (q ∷ qs) = cond (pointwise nat_eq p q) qs (q ∷ without p qs)

-- the prefixes in force after a message: one more, one less, or the same
abbrev pub after_message : List (List ℕ) → List (List ℕ) → List (List ℕ)
after_message prefixes ((k ∷ p) ∷ []) = cond (nat_eq k 1) (prefixes ++ p ∷ []) (cond (nat_eq k 0) (without p prefixes) prefixes)
after_message prefixes m = prefixes

-- the prefixes that the role has in force after a message: only a PUB has any
abbrev pub prefixes_after_one : Role → List (List ℕ) → List (List ℕ) → List (List ℕ)
prefixes_after_one r prefixes m = cond (is_pub r) (after_message prefixes m) prefixes

-- the prefixes that the role has in force after messages, where these were in force before
abbrev pub prefixes_after : Role → List (List ℕ) → List (List (List ℕ)) → List (List ℕ)
prefixes_after r prefixes [] = prefixes
prefixes_after r prefixes (m ∷ ms) = prefixes_after r (prefixes_after_one r prefixes m) ms

-- the prefixes that the role has in force after all messages of a stream
abbrev pub in_force : Role → List (List (List ℕ)) → List (List ℕ)
in_force r ms = prefixes_after r [] ms

-- the prefixes that the role has in force where the other side has sent b
abbrev pub prefixes_in : Role → List ℕ → List (List ℕ)
prefixes_in r b = in_force r (messages_in r b)

-- a prefix among these begins the topic
pub record IsWanted (prefixes : List (List ℕ)) (topic : List ℕ) : Type 0 where
  pub before : List (List ℕ)
  pub prefix : List ℕ
  pub after : List (List ℕ)
  pub rest : List ℕ
  pub stands : prefixes ≡ before ++ prefix ∷ after
  pub begins : topic ≡ prefix ++ rest
