-- Whether READY was read shows in the state, and stays.
use Rattle.std.proofs.Common.{◌≡◌, ℕ, List, [], ◌∷◌, ◌++◌, length, Bool, true, false, cond, nat_lt, nat_eq, refl, ap, sym, ◌∙◌, append_assoc, append-nil, subst, ◌&&◌, IsTrue, ◌↔◌, rules}
use Rattle.zmtp_wire.specs.declared.role.Role.{Role}
use Rattle.zmtp_wire.specs.declared.cause.Cause.TheVariants as cause
use Rattle.zmtp_wire.specs.declared.state.State.{State}
use Rattle.zmtp_wire.specs.declared.state.State.TheVariants.{Greeting, Units, Failed}
use Rattle.zmtp_wire.specs.declared.state.Phase.TheVariants.{Handshake, Traffic}
use Rattle.zmtp_wire.specs.declared.state.Open.TheVariants.{Fresh, Size, Body}
use Rattle.zmtp_wire.specs.Frame.{is_allowed, is_command, is_more, size_of, size_len}
use Rattle.zmtp_wire.specs.Stream.{Come, nothing, greeted, shaken, greeting, ready, unit, Reads, start, more, IsShaken, Gives, stream, broken, messages_come, contexts_come}
use Rattle.zmtp_wire.specs.Machine.{Took, quiet, failure, is_error, room_in, tick, ticks, step, run, reading, flag_step, size_step, body_step, finish}
use Rattle.zmtp_wire.specs.Decoder.{shaken_in, Answer}
use Rattle.zmtp_wire.proofs.StepLemmas.{state_of, is_past}
use Rattle.zmtp_wire.proofs.FeedLemmas.{reading-append}
use Rattle.zmtp_wire.proofs.StreamLemmas.{reads_as}
use Rattle.zmtp_wire.proofs.OutcomeLemmas.{reads, breaks, outcome, stream_reads, broken_reads}

pub is_true : (b : Bool) → IsTrue b → b ≡ true
is_true b h = search rules

pub true_is : (b : Bool) → b ≡ true → IsTrue b
true_is b h = search rules

-- ---- no step forgets it

keeps : (b : Bool) (x y : State) → shaken_in x ≡ true → shaken_in y ≡ true → shaken_in (cond b x y) ≡ true
keeps true x y e f = e
keeps false x y e f = f

keeps_took : (b : Bool) (x y : Took) → shaken_in x.state ≡ true → shaken_in y.state ≡ true → shaken_in (cond b x y).state ≡ true
keeps_took true x y e f = e
keeps_took false x y e f = f

flag_keeps : (at : ℕ) (newer : Bool) (frames : List (List ℕ)) (f : ℕ) → shaken_in (flag_step at (Traffic newer frames) f) ≡ true
unfolding flag_step
flag_keeps at newer frames f = keeps (is_allowed f) _ _ (keeps (is_more f && nat_eq (length frames) 63) _ _ refl refl) refl

finish_keeps : (r : Role) (at : ℕ) (newer : Bool) (frames : List (List ℕ)) (f : ℕ) (body : List ℕ) → shaken_in (finish r at (Traffic newer frames) f body).state ≡ true
unfolding finish
finish_keeps r at newer frames f body = keeps_took (is_command f) _ _ refl (keeps_took (is_more f) _ _ refl refl)

size_keeps : (r : Role) (at : ℕ) (newer : Bool) (frames : List (List ℕ)) (f size : ℕ) → shaken_in (size_step r at (Traffic newer frames) f size).state ≡ true
unfolding size_step
size_keeps r at newer frames f size =
    let phase = Traffic newer frames in
    let on = quiet (Units phase (Body f size [])) in
    keeps_took (nat_lt (room_in phase f) size) (quiet (failure phase at (cause.TooLong size))) (cond (nat_eq size 0) (finish r at phase f []) on) refl
    (keeps_took (nat_eq size 0) (finish r at phase f []) on (finish_keeps r at newer frames f []) refl)

body_keeps : (r : Role) (at : ℕ) (newer : Bool) (frames : List (List ℕ)) (f size : ℕ) (body : List ℕ) → shaken_in (body_step r at (Traffic newer frames) f size body).state ≡ true
unfolding body_step
body_keeps r at newer frames f size body =
    let phase = Traffic newer frames in
    let on = quiet (Units phase (Body f size body)) in
    keeps_took (is_error phase f body) (quiet (failure phase at cause.PeerError)) (cond (nat_lt (length body) size) on (finish r at phase f body)) refl
    (keeps_took (nat_lt (length body) size) on (finish r at phase f body) refl (finish_keeps r at newer frames f body))

step_keeps : (r : Role) (at : ℕ) (s : State) (x : ℕ) → shaken_in s ≡ true → shaken_in (step r at s x).state ≡ true
step_keeps r at (Greeting p) x h = absurd (cc)
step_keeps r at (Failed over e) x h = h
step_keeps r at (Units (Handshake newer) u) x h = absurd (cc)
step_keeps r at (Units (Traffic newer frames) Fresh) x h = flag_keeps at newer frames x
step_keeps r at (Units (Traffic newer frames) (Size f octets)) x h =
    let phase = Traffic newer frames in
    keeps_took (nat_lt (length (octets ++ x ∷ [])) (size_len f)) (quiet (Units phase (Size f (octets ++ x ∷ [])))) (size_step r at phase f (size_of (octets ++ x ∷ []))) refl (size_keeps r at newer frames f (size_of (octets ++ x ∷ [])))
step_keeps r at (Units (Traffic newer frames) (Body f size body)) x h = body_keeps r at newer frames f size (body ++ x ∷ [])

run_keeps : (r : Role) (at : ℕ) (s : State) (b : List ℕ) → shaken_in s ≡ true → shaken_in (run r at s b).state ≡ true
unfolding run
run_keeps r at s [] h = h
run_keeps r at s (x ∷ b) h = run_keeps r (tick at) (step r at s x).state b (step_keeps r at s x h)

-- ---- and each way

pub shaken_longer : (role : Role) (front p : List ℕ) → IsShaken role front → IsShaken role (front ++ p)
shaken_longer role front p s =
    record { front = s.front; rest = s.rest ++ p; greeting = s.greeting; spelled = ap (λ t. t ++ p) s.spelled ∙ append_assoc s.front s.rest p; reads = s.reads }

past_shaken : (role : Role) (front : List ℕ) (come : Come) → Reads role front come → is_past come ≡ true → IsShaken role front
past_shaken role _ _ start h = absurd (cc)
past_shaken role _ _ (more front p _ _ r (greeting g e) ps) h = absurd (cc)
past_shaken role _ _ (more front p _ _ r (ready g _ body s) ps) h =
    record { front = front ++ p; rest = []; greeting = g; spelled = sym (append-nil (front ++ p)); reads = more front p _ _ r (ready g p body s) ps }
past_shaken role _ _ (more front p _ _ r (unit g items item _ s) ps) h = shaken_longer role front p (past_shaken role front (shaken g items) r refl)

pub past_in : (come : Come) (rest : List ℕ) → shaken_in (state_of come rest) ≡ is_past come
past_in nothing rest = refl
past_in (greeted g) rest = refl
past_in (shaken g items) rest = refl

pub shows_shaken : (role : Role) (b : List ℕ) → shaken_in (reading role b).state ≡ true → IsShaken role b
shows_shaken role b h =
    elim (outcome role b) [
      | reads ms owed rest s ↦
          let r = stream_reads b role ms owed rest s in
          let past : is_past s.come ≡ true = sym (past_in s.come rest) ∙ ap shaken_in (sym r.0) ∙ h in
          subst (λ (t : List ℕ). IsShaken role t) (sym s.splits.spelled) (shaken_longer role s.splits.front rest (past_shaken role s.splits.front s.come s.splits.reads past))
      | breaks e at ms owed k ↦
          let r = broken_reads b role e at ms owed k in
          let past : is_past k.come ≡ true = ap shaken_in (sym r.0) ∙ h in
          let here = shaken_longer role k.splits.front k.rest (past_shaken role k.splits.front k.come k.splits.reads past) in
          let split = subst (λ (t : List ℕ). IsShaken role t) (sym k.splits.spelled) here in
          subst (λ (t : List ℕ). IsShaken role t) (sym k.spelled) (shaken_longer role k.before (k.octet ∷ k.after) split)
    ]

pub shaken_shows : (role : Role) (b : List ℕ) → IsShaken role b → shaken_in (reading role b).state ≡ true
shaken_shows role b s =
    let r = reads_as role s.front (shaken s.greeting []) s.reads in
    let place = ticks 0 (length s.front) in
    let kept = run_keeps role place (reading role s.front).state s.rest (ap shaken_in r.state) in
    ap (λ t. shaken_in (reading role t).state) s.spelled ∙ ap (λ (t : Took). shaken_in t.state) (reading-append role s.front s.rest) ∙ kept

-- the mark of the state that the machine ends with
pub shaken_both : (role : Role) (b : List ℕ) (s : State) (r : Bool) → s ≡ (reading role b).state → r ≡ shaken_in s → IsTrue r ↔ IsShaken role b
shaken_both role b s r e m =
    let same : r ≡ shaken_in (reading role b).state = m ∙ ap shaken_in e in
    let to : IsTrue r → IsShaken role b = λ t. shows_shaken role b (sym same ∙ is_true r t) in
    let back : IsShaken role b → IsTrue r = λ k. true_is r (same ∙ shaken_shows role b k) in
    (to, back)

come_none : (role : Role) (front : List ℕ) (come : Come) → Reads role front come → (IsShaken role front → ⊥) → (messages_come role come ≡ []) × (contexts_come come ≡ [])
come_none role front nothing r h = (refl, refl)
come_none role front (greeted g) r h = (refl, refl)
come_none role front (shaken g items) r h = absurd (h (past_shaken role front (shaken g items) r refl))

-- before READY nothing is given
pub none_before : (b : List ℕ) (role : Role) (ms : List (List (List ℕ))) (owed : List (List ℕ)) (a : Answer) → Gives role b ms owed a → (IsShaken role b → ⊥) → (ms ≡ []) × (owed ≡ [])
none_before b role _ _ _ (stream ms owed rest s) h =
    let k = come_none role s.splits.front s.come s.splits.reads (λ i. h (subst (λ (t : List ℕ). IsShaken role t) (sym s.splits.spelled) (shaken_longer role s.splits.front rest i))) in
    (s.messages ∙ k.0, s.contexts ∙ k.1)
none_before b role _ _ _ (broken e at ms owed k) h =
    let split = λ (i : IsShaken role k.splits.front). subst (λ (t : List ℕ). IsShaken role t) (sym k.splits.spelled) (shaken_longer role k.splits.front k.rest i) in
    let all = λ (i : IsShaken role k.splits.front). subst (λ (t : List ℕ). IsShaken role t) (sym k.spelled) (shaken_longer role k.before (k.octet ∷ k.after) (split i)) in
    let n = come_none role k.splits.front k.come k.splits.reads (λ i. h (all i)) in
    (k.messages ∙ n.0, k.contexts ∙ n.1)
