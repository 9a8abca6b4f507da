-- The machine over many octets.
use Rattle.std.proofs.Common.{◌≡◌, ℕ, suc, ◌+◌, ◌≤◌, ◌<◌, ◌^◌, Bool, true, false, nat_lt, nat_eq, List, [], ◌∷◌, ◌++◌, length, refl, ap, sym, ◌∙◌, arith, length-append, append_assoc, append-nil, ◌&&◌, ◌⊎◌, inl, inr}
use Rattle.std.proofs.lemmas.Bool.Decides.{nat_tests}
use Rattle.std.proofs.lemmas.Bool.{eqb-true}
use Rattle.zmtp_wire.specs.declared.role.Role.{Role}
use Rattle.zmtp_wire.specs.declared.state.State.{State}
use Rattle.zmtp_wire.specs.declared.state.State.TheVariants.{Units}
use Rattle.zmtp_wire.specs.declared.state.Phase.{Phase}
use Rattle.zmtp_wire.specs.declared.state.Phase.TheVariants.{Handshake, Traffic}
use Rattle.zmtp_wire.specs.declared.state.Open.TheVariants.{Body}
use Rattle.zmtp_wire.specs.Frame.{is_command}
use Rattle.zmtp_wire.specs.Machine.{GrowsBy, Took, before, quiet, tick, ticks, step, run, body_step, is_error}

tick_ticks : (at n : ℕ) → ticks (tick at) n ≡ ticks at (n + 1)
tick_ticks at n = omega arith

ticks_none : (at : ℕ) → at < 2 ^ 64 → ticks at 0 ≡ at
ticks_none at h = omega arith

before_quiet : (s : State) (t : Took) → before (quiet s) t ≡ t
before_quiet s t = refl

before_assoc : (t u v : Took) → before (before t u) v ≡ before t (before u v)
before_assoc t u v = let a = append_assoc t.messages u.messages v.messages in let b = append_assoc t.owed u.owed v.owed in cc

tick_below : (at : ℕ) → tick at < 2 ^ 64
tick_below at = omega arith

-- reading goes on where it stood
pub run-append : (r : Role) (at : ℕ) (s : State) (b c : List ℕ) → at < 2 ^ 64
    → run r at s (b ++ c) ≡ before (run r at s b) (run r (ticks at (length b)) (run r at s b).state c)
unfolding run
run-append r at s [] c h = ap (λ t. run r t s c) (sym (ticks_none at h))
run-append r at s (x ∷ b) c h =
    let t = step r at s x in
    let rest = run-append r (tick at) t.state b c (tick_below at) in
    let place : ticks (tick at) (length b) ≡ ticks at (suc (length b)) = omega (arith, tick_ticks at (length b)) in
    ap (before t) rest ∙ sym (before_assoc t (run r (tick at) t.state b) (run r (ticks (tick at) (length b)) (run r (tick at) t.state b).state c))
    ∙ ap (λ n. before (before t (run r (tick at) t.state b)) (run r n (run r (tick at) t.state b).state c)) place

no_error_at : (a : Bool) (n : ℕ) (c : Bool) → (a ≡ true → 6 < n) → (a && nat_eq n 6 && c) ≡ false
no_error_at false n c h = refl
no_error_at true n c h = let k = h refl in let e : nat_eq n 6 ≡ false = grind (arith, nat_tests) in rw e

no_error : (phase : Phase) (f : ℕ) (body : List ℕ) → (is_command f ≡ true → 6 < length body) → is_error phase f body ≡ false
no_error (Handshake newer) f body h = refl
no_error (Traffic newer frames) f body h = no_error_at (is_command f) (length body) _ h

pub body_middle : (r : Role) (at : ℕ) (phase : Phase) (f size : ℕ) (body : List ℕ) → (is_command f ≡ true → 6 < length body) → length body < size
    → body_step r at phase f size body ≡ quiet (Units phase (Body f size body))
unfolding body_step
body_middle r at phase f size body h w =
    let a = no_error phase f body h in
    let b : nat_lt (length body) size ≡ true = grind (arith, nat_tests) in
    rw (a, b)

-- the middle of a body
pub run-middle : (r : Role) (at : ℕ) (phase : Phase) (f size : ℕ) (body b c : List ℕ) → at < 2 ^ 64 → (is_command f ≡ true → 6 ≤ length body) → length body + length b < size
    → run r at (Units phase (Body f size body)) (b ++ c) ≡ run r (ticks at (length b)) (Units phase (Body f size (body ++ b))) c
unfolding run
run-middle r at phase f size body [] c h g w = cc (ticks_none at h, append-nil body)
run-middle r at phase f size body (x ∷ b) c h g w =
    let longer : length (body ++ x ∷ []) ≡ length body + 1 = omega (arith, length-append body (x ∷ [])) in
    let one = body_middle r at phase f size (body ++ x ∷ []) (λ e. let k = g e in omega arith) (omega arith) in
    let rest = run-middle r (tick at) phase f size (body ++ x ∷ []) b c (tick_below at) (λ e. let k = g e in omega arith) (omega arith) in
    let place : ticks (tick at) (length b) ≡ ticks at (suc (length b)) = omega (arith, tick_ticks at (length b)) in
    ap (λ t. before t (run r (tick at) t.state (b ++ c))) one ∙ rest
    ∙ ap (λ n. run r n (Units phase (Body f size ((body ++ x ∷ []) ++ b))) c) place
    ∙ ap (λ y. run r (ticks at (suc (length b))) (Units phase (Body f size y)) c) (append_assoc body (x ∷ []) b)

some_fits : (n b size : ℕ) → (suc n ≡ 0) ⊎ (b + suc n < size) → b + suc n < size
some_fits n b size (inl e) = absurd (omega arith)
some_fits n b size (inr h) = h

pub run-filled : (r : Role) (at now : ℕ) (phase : Phase) (f size had taken : ℕ) (s : State) (body longer rest front after : List ℕ) → at < 2 ^ 64
    → s ≡ Units phase (Body f size body) → rest ≡ front ++ after → (is_command f ≡ true → 6 ≤ length body) → had ≡ length body → length front ≡ taken
    → (taken ≡ 0) ⊎ (had + taken < size) → now ≡ ticks at taken → longer ≡ body ++ front
    → run r at s rest ≡ run r now (Units phase (Body f size longer)) after
run-filled r at now phase f size had taken s body longer rest [] after h is e g b t w n l =
    let here : now ≡ at = n ∙ ap (ticks at) (sym t) ∙ ticks_none at h in
    let same : longer ≡ body = l ∙ append-nil body in
    cc
run-filled r at now phase f size had taken s body longer rest (x ∷ front) after h is e g b t w n l =
    let w' : (suc (length front) ≡ 0) ⊎ (length body + suc (length front) < size) = rw (t, ← b) w in
    let short : length body + length (x ∷ front) < size = some_fits (length front) _ _ w' in
    let middle = run-middle r at phase f size body (x ∷ front) after h g short in
    let n' : now ≡ ticks at (length (x ∷ front)) = rw t n in
    cc

-- one octet
pub run-turn : (r : Role) (at at' at'' : ℕ) (s s' s'' : State) (x : ℕ) (rest rest' after : List ℕ) → run r at s rest ≡ run r at' s' rest' → rest' ≡ x ∷ after → s'' ≡ (step r at' s' x).state → at'' ≡ tick at'
    → run r at s rest ≡ before (step r at' s' x) (run r at'' s'' after)
unfolding run
run-turn r at at' at'' s s' s'' x rest rest' after e f g h =
    e ∙ ap (run r at' s') f ∙ ap (λ t. before (step r at' s' x) (run r (tick at') t after)) (sym g) ∙ ap (λ n. before (step r at' s' x) (run r n s'' after)) (sym h)

-- a part of a piece was read: what the rest brings makes all of it
pub record Goes (all left : Took) (old out : List (List (List ℕ))) (owed_old owed : List (List ℕ)) : Type 0 where
  pub more : List (List (List ℕ))
  pub state : all.state ≡ left.state
  pub messages : all.messages ≡ more ++ left.messages
  pub grown : out ≡ old ++ more
  pub contexts : owed ++ left.owed ≡ owed_old ++ all.owed

pub goes_start : (all : Took) (old : List (List (List ℕ))) (owed : List (List ℕ)) → Goes all all old old owed owed
goes_start all old owed = record { more = []; state = refl; messages = refl; grown = sym (append-nil old); contexts = refl }

pub goes_on : (all left t next : Took) (old out out' : List (List (List ℕ))) (owed_old owed owed' : List (List ℕ)) → Goes all left old out owed_old owed → left ≡ before t next → out' ≡ out ++ t.messages → owed' ≡ owed ++ t.owed
    → Goes all next old out' owed_old owed'
goes_on all left t next old out out' owed_old owed owed' g e m o =
    record {
      more = g.more ++ t.messages;
      state = g.state ∙ ap (λ u. u.state) e;
      messages = g.messages ∙ ap (λ u. g.more ++ u.messages) e ∙ sym (append_assoc g.more t.messages next.messages);
      grown = m ∙ ap (λ x. x ++ t.messages) g.grown ∙ append_assoc old g.more t.messages;
      contexts = ap (λ x. x ++ next.owed) o ∙ append_assoc owed t.owed next.owed ∙ ap (λ u. owed ++ u.owed) (sym e) ∙ g.contexts;
    }

pub goes_done : (all left : Took) (s : State) (old out : List (List (List ℕ))) (owed_old owed : List (List ℕ)) → Goes all left old out owed_old owed → left ≡ quiet s
    → (s ≡ all.state) × (out ≡ old ++ all.messages) × (owed ≡ owed_old ++ all.owed)
goes_done all left s old out owed_old owed g e =
    let none : all.messages ≡ g.more = g.messages ∙ ap (λ u. g.more ++ u.messages) e ∙ append-nil g.more in
    (sym (g.state ∙ ap (λ u. u.state) e), g.grown ∙ ap (λ x. old ++ x) (sym none), sym (append-nil owed) ∙ ap (λ u. owed ++ u.owed) (sym e) ∙ g.contexts)

pub goes_starved : (all left : Took) (old out out' : List (List (List ℕ))) (owed_old owed : List (List ℕ)) → Goes all left old out owed_old owed → out' ≡ out → GrowsBy old out' all.messages
goes_starved all left old out out' owed_old owed g e = record { more = g.more; left = left.messages; grown = e ∙ g.grown; first = g.messages }

-- nothing is left
pub run-done : (r : Role) (at : ℕ) (s : State) (rest : List ℕ) → nat_eq (length rest) 0 ≡ true → run r at s rest ≡ quiet s
unfolding run
run-done r at s [] e = refl
run-done r at s (x ∷ rest) e = let k = eqb-true _ 0 e in absurd (omega arith)
