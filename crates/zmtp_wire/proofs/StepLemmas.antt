-- The states of the machine as parts of units, and one step on them.
use Rattle.std.proofs.Common.{◌≡◌, ℕ, ◌+◌, ◌≤◌, ◌<◌, Bool, true, false, cond, nat_lt, List, [], ◌∷◌, ◌++◌, length, take, drop, ap, sym, ◌∙◌, arith, append-nil}
use Rattle.std.proofs.lemmas.Bool.{cond-false, cond-true, le-ltb, lt-ltb}
use Rattle.std.proofs.Math.Seq.{take-append_seam, drop-append_seam}
use Rattle.std.proofs.lemmas.List.{take-append-le, length_push, drop-append-le}
use Rattle.zmtp_wire.specs.declared.role.Role.{Role}
use Rattle.zmtp_wire.specs.declared.cause.Cause.{Cause}
use Rattle.zmtp_wire.specs.Fault.{fault_at}
use Rattle.zmtp_wire.specs.declared.state.State.{State}
use Rattle.zmtp_wire.specs.declared.state.State.TheVariants.{Greeting, Units, Failed}
use Rattle.zmtp_wire.specs.declared.state.Phase.{Phase}
use Rattle.zmtp_wire.specs.declared.state.Phase.TheVariants.{Handshake, Traffic}
use Rattle.zmtp_wire.specs.declared.state.Open.{Open}
use Rattle.zmtp_wire.specs.declared.state.Open.TheVariants.{Fresh, Size, Body}
use Rattle.zmtp_wire.specs.Frame.{size_len, size_of}
use Rattle.zmtp_wire.specs.Greeting.{speaks}
use Rattle.zmtp_wire.specs.Machine.{quiet, unit_step, size_step, body_step}
use Rattle.zmtp_wire.specs.Stream.{Come, nothing, greeted, shaken, open_after}

abbrev pub unit_at : List ℕ → Open
unit_at [] = Fresh
unit_at (f ∷ r) = cond (nat_lt (length r) (size_len f)) (Size f r) (Body f (size_of (take (size_len f) r)) (drop (size_len f) r))

abbrev pub state_of : Come → List ℕ → State
state_of nothing p = Greeting p
state_of (greeted g) p = Units (Handshake (speaks g)) (unit_at p)
state_of (shaken g items) p = Units (Traffic (speaks g) (open_after [] items)) (unit_at p)

-- whether READY has come
abbrev pub is_past : Come → Bool
is_past nothing = false
is_past (greeted g) = false
is_past (shaken g items) = true

-- the state where a test fails at the octet `at`
abbrev pub failure_after : Come → ℕ → Cause → State
failure_after come at c = Failed (is_past come) (fault_at at c)

-- what stands open, where the size isn't whole, and where it is
pub at_size : (f : ℕ) (r : List ℕ) → length r < size_len f → unit_at (f ∷ r) ≡ Size f r
at_size f r h = cond-true _ _ _ (lt-ltb _ _ h)

pub at_body : (f : ℕ) (r : List ℕ) → size_len f ≤ length r → unit_at (f ∷ r) ≡ Body f (size_of (take (size_len f) r)) (drop (size_len f) r)
at_body f r h = cond-false _ _ _ (le-ltb _ _ h)

-- the octets of a size that is whole now
pub at_whole_size : (f : ℕ) (r : List ℕ) → length r ≡ size_len f → unit_at (f ∷ r) ≡ Body f (size_of r) []
at_whole_size f r h =
    let front : take (size_len f) r ≡ r = ap (λ n. take n r) (sym h) ∙ ap (take (length r)) (sym (append-nil r)) ∙ take-append_seam r [] in
    let back : drop (size_len f) r ≡ [] = ap (λ n. drop n r) (sym h) ∙ ap (drop (length r)) (sym (append-nil r)) ∙ drop-append_seam r [] in
    at_body f r (omega arith) ∙ ap (λ o. Body f (size_of o) (drop (size_len f) r)) front ∙ ap (Body f (size_of r)) back

pub at_longer_body : (f : ℕ) (r : List ℕ) (x : ℕ) → size_len f ≤ length r → unit_at (f ∷ (r ++ x ∷ [])) ≡ Body f (size_of (take (size_len f) r)) (drop (size_len f) r ++ x ∷ [])
at_longer_body f r x h =
    at_body f (r ++ x ∷ []) (omega (arith, length_push r x)) ∙ ap (λ o. Body f (size_of o) (drop (size_len f) (r ++ x ∷ []))) (take-append-le (size_len f) r (x ∷ []) h)
    ∙ ap (Body f (size_of (take (size_len f) r))) (drop-append-le (size_len f) r (x ∷ []) h)

-- one step in a size, at its end, and in a body
pub step_size : (role : Role) (at : ℕ) (phase : Phase) (f : ℕ) (r : List ℕ) (x : ℕ) → length r + 1 < size_len f
    → unit_step role at phase (unit_at (f ∷ r)) x ≡ quiet (Units phase (unit_at (f ∷ (r ++ x ∷ []))))
step_size role at phase f r x h =
    let longer : length (r ++ x ∷ []) < size_len f = omega (arith, length_push r x) in
    ap (λ u. unit_step role at phase u x) (at_size f r (omega arith)) ∙ cond-true _ _ _ (lt-ltb _ _ longer) ∙ ap (λ u. quiet (Units phase u)) (sym (at_size f (r ++ x ∷ []) longer))

pub step_size_end : (role : Role) (at : ℕ) (phase : Phase) (f : ℕ) (r : List ℕ) (x : ℕ) → length r + 1 ≡ size_len f
    → unit_step role at phase (unit_at (f ∷ r)) x ≡ size_step role at phase f (size_of (r ++ x ∷ []))
step_size_end role at phase f r x h =
    let whole : size_len f ≤ length (r ++ x ∷ []) = omega (arith, length_push r x) in
    ap (λ u. unit_step role at phase u x) (at_size f r (omega arith)) ∙ cond-false _ _ _ (le-ltb _ _ whole)

pub step_body : (role : Role) (at : ℕ) (phase : Phase) (f : ℕ) (r : List ℕ) (x : ℕ) → size_len f ≤ length r
    → unit_step role at phase (unit_at (f ∷ r)) x ≡ body_step role at phase f (size_of (take (size_len f) r)) (drop (size_len f) r ++ x ∷ [])
step_body role at phase f r x h = ap (λ u. unit_step role at phase u x) (at_body f r h)
