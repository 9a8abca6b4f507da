-- Where a test fails, the machine stops with its fault.
use Rattle.std.proofs.Common.{◌≡◌, ℕ, ◌+◌, ◌≤◌, ◌<◌, Bool, true, false, cond, nat_lt, nat_eq, List, [], ◌∷◌, ◌++◌, length, take, drop, Some, refl, ap, sym, ◌∙◌, arith, length-append, append-nil, subst, ◌&&◌}
use Rattle.std.proofs.lemmas.Bool.Decides.{nat_tests}
use Rattle.std.proofs.lemmas.Bool.{cond-false, cond-true, le-ltb, lt-ltb}
use Rattle.std.proofs.Math.Seq.{take-append_seam, drop-append_seam}
use Rattle.std.proofs.lemmas.List.{take-append-le, length_push, drop-append-le, same_from_push}
use Rattle.zmtp_wire.specs.declared.role.Role.{Role}
use Rattle.zmtp_wire.specs.declared.cause.Cause.{Cause}
use Rattle.zmtp_wire.specs.declared.cause.Cause.TheVariants as cause
use Rattle.zmtp_wire.specs.declared.state.State.TheVariants.{Failed}
use Rattle.zmtp_wire.specs.declared.state.Phase.{Phase}
use Rattle.zmtp_wire.specs.declared.state.Phase.TheVariants.{Handshake, Traffic}
use Rattle.zmtp_wire.specs.Command.{error_name}
use Rattle.zmtp_wire.specs.Frame.{MOST, is_allowed, is_command, is_more, size_len, size_of}
use Rattle.zmtp_wire.specs.Greeting.{speaks, passes, greeting_cause}
use Rattle.zmtp_wire.specs.Machine.{handshake_cause, quiet, step, size_step, body_step, greeting_step, flag_step, finish, after_handshake, room_in}
use Rattle.zmtp_wire.specs.Stream.{Item, frame, command, Come, nothing, greeted, shaken, greeting, open_after, Wrong}
use Rattle.zmtp_wire.specs.Stream as W
use Rattle.zmtp_wire.specs.Machine.{failure}
use Rattle.zmtp_wire.specs.Fault.{fault_at}
use Rattle.zmtp_wire.specs.Command.{WrongReady}
use Rattle.zmtp_wire.proofs.HandshakeLemmas.{cause_told}
use Rattle.zmtp_wire.proofs.StepLemmas.{state_of, failure_after, step_size_end, step_body}
use Rattle.zmtp_wire.proofs.TurnLemmas.{size_pos, room_is}

abbrev Stops : Role → ℕ → Come → List ℕ → ℕ → Cause → Type 0
Stops role at come p x e = step role at (state_of come p) x ≡ quiet (failure_after come at e)

moved : (role : Role) (at : ℕ) (come : Come) (p p' : List ℕ) (x x' : ℕ) (e : Cause) → p' ≡ p → x' ≡ x → Stops role at come p' x' e → Stops role at come p x e
moved role at come p p' x x' e h k s = sym (ap (λ q. step role at (state_of come q) x') h ∙ ap (λ y. step role at (state_of come p) y) k) ∙ s

pub no_snoc : (p : List ℕ) (x : ℕ) → [] ≡ p ++ x ∷ [] → ⊥
no_snoc p x e = let k = ap length e in omega (arith, length_push p x)

-- a list that isn't empty ends so
pub record Ends (f : ℕ) (o p : List ℕ) (x : ℕ) : Type 0 where
  pub front : List ℕ
  pub is : f ∷ front ≡ p
  pub rest : o ≡ front ++ x ∷ []

ends : (f : ℕ) (o p : List ℕ) (x : ℕ) → 0 < length o → f ∷ o ≡ p ++ x ∷ [] → Ends f o p x
ends f o [] x h e = let k : o ≡ [] = cc in let l = ap length k in absurd (omega arith)
ends f o (y ∷ p) x h e = record { front = p; is = cc; rest = cc }

stops_size_first : (role : Role) (at : ℕ) (g : List ℕ) (f : ℕ) (o : List ℕ) (p : List ℕ) (x : ℕ) (e : Cause) → length o ≡ size_len f → f ∷ o ≡ p ++ x ∷ []
    → size_step role at (Handshake (speaks g)) f (size_of o) ≡ quiet (Failed false (fault_at at e)) → Stops role at (greeted g) p x e
stops_size_first role at g f o p x e h q s =
    let d = ends f o p x (omega (arith, size_pos f)) q in
    let len : length d.front + 1 ≡ size_len f = omega (arith, length_push d.front x, ap length d.rest) in
    moved role at (greeted g) p (f ∷ d.front) x x e d.is refl (step_size_end role at (Handshake (speaks g)) f d.front x len ∙ ap (λ r. size_step role at (Handshake (speaks g)) f (size_of r)) (sym d.rest) ∙ s)

stops_size_later : (role : Role) (at : ℕ) (g : List ℕ) (items : List Item) (f : ℕ) (o : List ℕ) (p : List ℕ) (x : ℕ) (e : Cause) → length o ≡ size_len f → f ∷ o ≡ p ++ x ∷ []
    → size_step role at (Traffic (speaks g) (open_after [] items)) f (size_of o) ≡ quiet (Failed true (fault_at at e)) → Stops role at (shaken g items) p x e
stops_size_later role at g items f o p x e h q s =
    let d = ends f o p x (omega (arith, size_pos f)) q in
    let len : length d.front + 1 ≡ size_len f = omega (arith, length_push d.front x, ap length d.rest) in
    moved role at (shaken g items) p (f ∷ d.front) x x e d.is refl
    (step_size_end role at (Traffic (speaks g) (open_after [] items)) f d.front x len ∙ ap (λ r. size_step role at (Traffic (speaks g) (open_after [] items)) f (size_of r)) (sym d.rest) ∙ s)

-- the octets of a size and a body that isn't empty, up to the last one
pub record Cut (f : ℕ) (octets body front : List ℕ) (x : ℕ) : Type 0 where
  pub headed : size_len f ≤ length front
  pub size : take (size_len f) front ≡ octets
  pub body_is : drop (size_len f) front ++ x ∷ [] ≡ body

cut : (f : ℕ) (octets body front : List ℕ) (x : ℕ) → length octets ≡ size_len f → 0 < length body → octets ++ body ≡ front ++ x ∷ [] → Cut f octets body front x
cut f octets body front x h w e =
    let len = ap length e in
    let headed : size_len f ≤ length front = omega (arith, len, length_push front x, length-append octets body) in
    record {
      headed = headed;
      size = sym (take-append-le (size_len f) front (x ∷ []) headed) ∙ ap (take (size_len f)) (sym e) ∙ ap (λ n. take n (octets ++ body)) (sym h) ∙ take-append_seam octets body;
      body_is = sym (drop-append-le (size_len f) front (x ∷ []) headed) ∙ ap (drop (size_len f)) (sym e) ∙ ap (λ n. drop n (octets ++ body)) (sym h) ∙ drop-append_seam octets body;
    }

finish_stops : (role : Role) (at : ℕ) (newer : Bool) (f : ℕ) (body : List ℕ) (e : Cause) → handshake_cause role body ≡ Some e → finish role at (Handshake newer) f body ≡ quiet (Failed false (fault_at at e))
unfolding finish
finish_stops role at newer f body e h = ap (λ o. quiet (after_handshake at newer o)) h

empty_stops : (role : Role) (at : ℕ) (newer : Bool) (f size : ℕ) (e : Cause) → size ≡ 0 → handshake_cause role [] ≡ Some e → size_step role at (Handshake newer) f size ≡ quiet (Failed false (fault_at at e))
unfolding size_step
empty_stops role at newer f size e z h =
    let a : nat_lt MOST size ≡ false = le-ltb MOST size (omega arith) in
    let b : nat_eq size 0 ≡ true = grind (arith, nat_tests) in
    cond-false _ _ _ a ∙ cond-true _ _ _ b ∙ finish_stops role at newer f [] e h

body_stops : (role : Role) (at : ℕ) (newer : Bool) (f size : ℕ) (body : List ℕ) (e : Cause) → size ≡ length body → handshake_cause role body ≡ Some e → body_step role at (Handshake newer) f size body ≡ quiet (Failed false (fault_at at e))
unfolding body_step
body_stops role at newer f size body e z h = cond-false _ _ _ (le-ltb (length body) size (omega arith)) ∙ finish_stops role at newer f body e h

handshake_stops : (role : Role) (at : ℕ) (g : List ℕ) (f : ℕ) (octets body p : List ℕ) (x : ℕ) (e : Cause) → length octets ≡ size_len f → size_of octets ≡ length body → handshake_cause role body ≡ Some e
    → f ∷ (octets ++ body) ≡ p ++ x ∷ [] → Stops role at (greeted g) p x e
handshake_stops role at g f octets [] p x e h z w q =
    stops_size_first role at g f octets p x e h (ap (λ t. f ∷ t) (sym (append-nil octets)) ∙ q) (empty_stops role at (speaks g) f (size_of octets) e z w)
handshake_stops role at g f octets (y ∷ body) p x e h z w q =
    let d = ends f (octets ++ y ∷ body) p x (omega (arith, size_pos f, length-append octets (y ∷ body))) q in
    let c = cut f octets (y ∷ body) d.front x h (omega arith) d.rest in
    moved role at (greeted g) p (f ∷ d.front) x x e d.is refl
    (step_body role at (Handshake (speaks g)) f d.front x c.headed
    ∙ ap (λ o. body_step role at (Handshake (speaks g)) f (size_of o) (drop (size_len f) d.front ++ x ∷ [])) c.size
    ∙ ap (body_step role at (Handshake (speaks g)) f (size_of octets)) c.body_is ∙ body_stops role at (speaks g) f (size_of octets) (y ∷ body) e z w)

error_stops : (role : Role) (at : ℕ) (newer : Bool) (frames : List (List ℕ)) (f size : ℕ) → is_command f ≡ true → body_step role at (Traffic newer frames) f size error_name ≡ quiet (failure (Traffic newer frames) at cause.PeerError)
unfolding body_step
error_stops role at newer frames f size c = cond-true _ _ _ (ap (λ b. b && true && true) c)

greeting_stops : (role : Role) (at : ℕ) (p : List ℕ) (x : ℕ) → passes (length p) x ≡ false → Stops role at nothing p x (greeting_cause (length p))
unfolding greeting_step
greeting_stops role at p x e = ap quiet (cond-false _ _ _ e)

flag_stops : (at : ℕ) (phase : Phase) (f : ℕ) → is_allowed f ≡ false → flag_step at phase f ≡ failure phase at cause.Flags
unfolding flag_step
flag_stops at phase f e = cond-false _ _ _ e

frame_stops : (at : ℕ) (newer : Bool) (f : ℕ) → is_allowed f ≡ true → is_command f ≡ false → flag_step at (Handshake newer) f ≡ failure (Handshake newer) at cause.Command
unfolding flag_step
frame_stops at newer f a c = cond-true _ _ _ a ∙ cond-false _ _ _ c

more_allowed : (f : ℕ) → is_more f ≡ true → is_allowed f ≡ true
more_allowed f e = grind (arith, nat_tests)

many_stops : (at : ℕ) (newer : Bool) (frames : List (List ℕ)) (f : ℕ) → is_more f ≡ true → length frames ≡ 63 → flag_step at (Traffic newer frames) f ≡ failure (Traffic newer frames) at cause.TooMany
unfolding flag_step
many_stops at newer frames f m l =
    let k : nat_eq (length frames) 63 ≡ true = grind (arith, nat_tests) in
    cond-true _ _ _ (more_allowed f m) ∙ cond-true _ _ _ (ap (λ b. b && nat_eq (length frames) 63) m ∙ k)

long_stops : (role : Role) (at : ℕ) (phase : Phase) (f size : ℕ) → room_in phase f < size → size_step role at phase f size ≡ quiet (failure phase at (cause.TooLong size))
unfolding size_step
long_stops role at phase f size h = cond-true _ _ _ (lt-ltb _ _ h)

pub body_of : (b more : Bool) (body body' : List ℕ) → command body ≡ cond b (command body') (frame more body') → body' ≡ body
body_of true more body body' e = cc
body_of false more body body' e = absurd (cc)

-- Where a test fails, the machine stops with its fault.
pub stops : (role : Role) (at : ℕ) (come : Come) (q : List ℕ) (e : Cause) → Wrong role come q e → (p : List ℕ) (x : ℕ) → q ≡ p ++ x ∷ [] → Stops role at come p x e
stops role at _ _ _ (W.greeting p' x' h f) p x q = let k = same_from_push p' p x' x q in moved role at nothing p p' x x' (greeting_cause (length p')) k.0 k.1 (greeting_stops role at p' x' f)
stops role at _ _ _ (W.flags_first g f a) p x q = let k = same_from_push [] p f x q in moved role at (greeted g) p [] x f cause.Flags k.0 k.1 (ap quiet (flag_stops at _ f a))
stops role at _ _ _ (W.flags g items f a) p x q = let k = same_from_push [] p f x q in moved role at (shaken g items) p [] x f cause.Flags k.0 k.1 (ap quiet (flag_stops at _ f a))
stops role at _ _ _ (W.frame_first g f a c) p x q = let k = same_from_push [] p f x q in moved role at (greeted g) p [] x f cause.Command k.0 k.1 (ap quiet (frame_stops at _ f a c))
stops role at _ _ _ (W.too_many g items f m l) p x q = let k = same_from_push [] p f x q in moved role at (shaken g items) p [] x f cause.TooMany k.0 k.1 (ap quiet (many_stops at _ _ f m l))
stops role at _ _ _ (W.too_long_first g _ f octets h w) p x q =
    stops_size_first role at g f octets p x (cause.TooLong (size_of octets)) h.len (sym h.spelled ∙ q) (long_stops role at (Handshake (speaks g)) f (size_of octets) w)
stops role at _ _ _ (W.too_long g items _ f octets h w) p x q =
    stops_size_later role at g items f octets p x (cause.TooLong (size_of octets)) h.len (sym h.spelled ∙ q)
    (long_stops role at (Traffic (speaks g) (open_after [] items)) f (size_of octets) (subst (λ (n : ℕ). n < size_of octets) (sym (room_is g items f)) w))
stops role at _ _ _ (W.handshake g _ body e s h) p x q =
    let b : s.body ≡ body = body_of (is_command s.flag) (is_more s.flag) body s.body s.means in
    handshake_stops role at g s.flag s.octets s.body p x e s.head.len s.size (cause_told role s.body e (subst (λ (y : List ℕ). WrongReady role y e) (sym b) h)) (sym s.spelled ∙ q)
stops role at _ _ _ (W.peer_error g items _ f octets h c w t) p x q =
    let d = ends f (octets ++ error_name) p x (omega (arith, size_pos f, h.len, length-append octets error_name)) (sym t ∙ q) in
    let k = cut f octets error_name d.front x h.len (omega arith) d.rest in
    moved role at (shaken g items) p (f ∷ d.front) x x cause.PeerError d.is refl
    (step_body role at (Traffic (speaks g) (open_after [] items)) f d.front x k.headed ∙ ap (body_step role at (Traffic (speaks g) (open_after [] items)) f (size_of (take (size_len f) d.front))) k.body_is
    ∙ error_stops role at (speaks g) (open_after [] items) f (size_of (take (size_len f) d.front)) c)
