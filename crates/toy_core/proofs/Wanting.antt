-- Whether what is sent on IOPub is wanted, as a test.
use Rattle.std.proofs.Common.{◌≡◌, ℕ, Bool, true, false, cond, ◌||◌, nat_eq, List, [], ◌∷◌, IsTrue, ◌↔◌, refl, sym, ap, ◌∙◌, arith}
use Rattle.std.specs.List.{starts_with}
use Rattle.world.specs.declared.chan.Chan.TheVariants as chan
use Rattle.zmtp_wire.specs.declared.role.Role.TheVariants as role
use Rattle.zmtp_peer.specs.Subscription.{prefixes_in, IsWanted}
use Rattle.zmtp_peer.proofs.PrefixLemmas.{wanted_here, wanted_later, wanted_none, yes, no}
use Rattle.toy_core.specs.Sending.{topic}
use Rattle.toy_core.specs.Standing.{is_wanted, is_broken, hears}

not_so : (b : Bool) → (b ≡ true → ⊥) → false ≡ b
not_so true h = absurd (h refl)
not_so false h = refl

-- one prefix more
later : (q : List ℕ) (qs : List (List ℕ)) → IsWanted qs topic → IsWanted (q ∷ qs) topic
later q qs w = record { before = q ∷ w.before; prefix = w.prefix; after = w.after; rest = w.rest; stands = ap (λ l. q ∷ l) w.stands; begins = w.begins }

to_by : (q : List ℕ) (qs : List (List ℕ)) (b : Bool) → starts_with nat_eq topic q ≡ b → (b || is_wanted qs) ≡ true → (is_wanted qs ≡ true → IsWanted qs topic) → IsWanted (q ∷ qs) topic
to_by q qs true e h ih = wanted_here (q ∷ qs) topic q 0 (omega arith) refl e
to_by q qs false e h ih = later q qs (ih h)

-- where the test holds, it is wanted
to : (qs : List (List ℕ)) → is_wanted qs ≡ true → IsWanted qs topic
to [] e = absurd (cc)
to (q ∷ qs) e = to_by q qs (starts_with nat_eq topic q) refl e (to qs)

from_by : (q : List ℕ) (qs : List (List ℕ)) (b : Bool) → starts_with nat_eq topic q ≡ b → IsWanted (q ∷ qs) topic → (IsWanted qs topic → is_wanted qs ≡ true) → (b || is_wanted qs) ≡ true
from_by q qs true e w ih = refl
from_by q qs false e w ih = ih (wanted_later (q ∷ qs) topic q 0 (omega arith) refl e w)

-- where it is wanted, the test holds
from : (qs : List (List ℕ)) → IsWanted qs topic → is_wanted qs ≡ true
from [] w = absurd (wanted_none [] topic 0 (omega arith) w)
from (q ∷ qs) w = from_by q qs (starts_with nat_eq topic q) refl w (from qs)

same : (b : Bool) (qs : List (List ℕ)) → (IsTrue b ↔ IsWanted qs topic) → b ≡ is_wanted qs
same true qs h = sym (from qs (h.0 yes))
same false qs h = not_so (is_wanted qs) (λ e. no (h.1 (to qs e)))

-- what is sent on IOPub goes out, where it isn't broken and is wanted
pub hears_iopub : (b : Bool) (heard : List ℕ) → is_broken chan.Iopub heard ≡ false → (IsTrue b ↔ IsWanted (prefixes_in role.Pub heard) topic)
    → b ≡ hears chan.Iopub heard
hears_iopub b heard whole h =
    same b (prefixes_in role.Pub heard) h ∙ sym (ap (λ x. cond x false (is_wanted (prefixes_in role.Pub heard))) whole)
