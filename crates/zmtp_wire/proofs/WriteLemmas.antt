-- What we write is read back.
use Rattle.std.proofs.Common.{◌≡◌, ℕ, ◌+◌, ◌≤◌, ◌<◌, ◌^◌, Bool, true, false, nat_lt, nat_eq, List, [], ◌∷◌, ◌++◌, length, take, None, Some, refl, ap, sym, ◌∙◌, arith, length-append, append_assoc, append-nil, subst, ◌&&◌}
use Rattle.std.proofs.lemmas.Bool.Decides.{nat_tests}
use Rattle.std.specs.Prelude.{sum_by}
use Rattle.std.specs.List.{starts_with}
use lib.Pointwise.{pointwise}
use Rattle.std.proofs.lemmas.List.{nil_from_length, length_push, take-append-le}
use Rattle.zmtp_wire.specs.declared.role.Role.{Role}
use Rattle.zmtp_wire.specs.declared.state.State.{State}
use Rattle.zmtp_wire.specs.declared.state.State.TheVariants.{Greeting, Units, Failed}
use Rattle.zmtp_wire.specs.declared.state.Phase.{Phase}
use Rattle.zmtp_wire.specs.declared.state.Phase.TheVariants.{Handshake, Traffic}
use Rattle.zmtp_wire.specs.declared.state.Open.TheVariants.{Fresh, Size, Body}
use Rattle.zmtp_wire.specs.Command.{is_peer, command_messages, command_contexts, error_name}
use Rattle.zmtp_wire.specs.Decoder.{rest_len}
use Rattle.zmtp_wire.specs.Frame.{MOST, is_allowed, is_command, is_more, size_len, size_of}
use Rattle.zmtp_wire.specs.Machine.{properties_in, handshake_cause, before, ticks, tick, run, reading, Took, quiet, unit_step, size_step, body_step, greeting_step, flag_step, finish, after_handshake, room_in, room_left, is_error}
use Rattle.zmtp_wire.specs.Stream.{Message, Context, Stream}
use Rattle.zmtp_wire.specs.Writing.{greeting_octets, ready_octets, ready_body, role_name, unit_octets, frame_octets, command_octets, message_octets, AreMessages, all_octets, Writing, message, AreWritings, writing_octets, messages_heard, contexts_heard}
use Rattle.zmtp_wire.specs.Writing as Written
use Rattle.zmtp_wire.proofs.StepLemmas.{is_past}
use Rattle.std.proofs.lemmas.List.Sums.{sum_by-cons, sum_by_push}
use Rattle.std.specs.Int.{w64, to_be_bytes}
use Rattle.std.proofs.lemmas.Nat.{from_be_bytes-to_be_bytes_8}
use Rattle.std.proofs.lemmas.Bool.{cond-false, cond-true, le-ltb, lt-ltb, eqb-true}
use Rattle.zmtp_wire.specs.declared.role.Role.TheVariants as role
use Rattle.zmtp_wire.proofs.OutcomeLemmas.{reads, breaks, outcome, stream_reads, broken_reads, state_len}
use Rattle.zmtp_wire.proofs.TurnLemmas.{room_same, size_pos}
use Rattle.zmtp_wire.proofs.FeedLemmas.{reading-append}

-- reading b from s brings t, and goes on as the state of t
abbrev Brings : Role → ℕ → State → List ℕ → List ℕ → Took → Type 0
Brings r at s b c t = (at' : ℕ) × (run r at s (b ++ c) ≡ before t (run r at' t.state c))

run_body : (r : Role) (at : ℕ) (phase : Phase) (f size : ℕ) (had b : List ℕ) (x : ℕ) (c : List ℕ) → ((p q : List ℕ) → p ++ q ≡ had ++ x ∷ b → is_error phase f p ≡ false) → length had + length b + 1 ≡ size
    → (at' : ℕ) × Brings r at (Units phase (Body f size had)) (x ∷ b) c (finish r at' phase f (had ++ x ∷ b))
unfolding run body_step
run_body r at phase f size had [] x c h w =
    let e = h (had ++ x ∷ []) [] (append-nil (had ++ x ∷ [])) in
    let done : body_step r at phase f size (had ++ x ∷ []) ≡ finish r at phase f (had ++ x ∷ []) = cond-false _ _ _ e ∙ cond-false _ _ _ (le-ltb (length (had ++ x ∷ [])) size (omega (arith, length_push had x))) in
    (at, (tick at, ap (λ t. before t (run r (tick at) t.state c)) done))
run_body r at phase f size had (y ∷ b) x c h w =
    let same : (had ++ x ∷ []) ++ y ∷ b ≡ had ++ x ∷ y ∷ b = append_assoc had (x ∷ []) (y ∷ b) in
    let e = h (had ++ x ∷ []) (y ∷ b) same in
    let grown : body_step r at phase f size (had ++ x ∷ []) ≡ quiet (Units phase (Body f size (had ++ x ∷ []))) = cond-false _ _ _ e ∙ cond-true _ _ _ (lt-ltb (length (had ++ x ∷ [])) size (omega (arith, length_push had x))) in
    let k = run_body r (tick at) phase f size (had ++ x ∷ []) b y c (λ p q t. h p q (t ∙ same)) (omega (arith, length_push had x)) in
    (k.0, subst (λ (z : List ℕ). Brings r at (Units phase (Body f size had)) (x ∷ y ∷ b) c (finish r k.0 phase f z)) same (k.1.0, ap (λ t. before t (run r (tick at) t.state ((y ∷ b) ++ c))) grown ∙ k.1.1))

run_rest : (r : Role) (at : ℕ) (phase : Phase) (f : ℕ) (body c : List ℕ) → ((p q : List ℕ) → p ++ q ≡ body → is_error phase f p ≡ false) → length body ≤ room_in phase f
    → (at' : ℕ) × (at'' : ℕ) × (before (size_step r at phase f (length body)) (run r (tick at) (size_step r at phase f (length body)).state (body ++ c)) ≡ before (finish r at' phase f body) (run r at'' (finish r at' phase f body).state c))
unfolding size_step
run_rest r at phase f [] c h w =
    let done : size_step r at phase f 0 ≡ finish r at phase f [] = cond-false _ _ _ (le-ltb (room_in phase f) 0 (omega arith)) in
    (at, tick at, ap (λ t. before t (run r (tick at) t.state c)) done)
run_rest r at phase f (x ∷ b) c h w =
    let z : nat_eq (length (x ∷ b)) 0 ≡ false = grind (arith, nat_tests) in
    let open_body : size_step r at phase f (length (x ∷ b)) ≡ quiet (Units phase (Body f (length (x ∷ b)) [])) = cond-false _ _ _ (le-ltb (room_in phase f) (length (x ∷ b)) w) ∙ cond-false _ _ _ z in
    let k = run_body r (tick at) phase f (length (x ∷ b)) [] b x c h (omega arith) in
    (k.0, k.1.0, ap (λ t. before t (run r (tick at) t.state ((x ∷ b) ++ c))) open_body ∙ k.1.1)

run_size : (r : Role) (at : ℕ) (phase : Phase) (f : ℕ) (had octets : List ℕ) (x : ℕ) (body c : List ℕ) → ((p q : List ℕ) → p ++ q ≡ body → is_error phase f p ≡ false) → length body ≤ room_in phase f
    → length had + length octets + 1 ≡ size_len f → size_of (had ++ x ∷ octets) ≡ length body
    → (at' : ℕ) × (at'' : ℕ) × (run r at (Units phase (Size f had)) (x ∷ (octets ++ (body ++ c))) ≡ before (finish r at' phase f body) (run r at'' (finish r at' phase f body).state c))
unfolding run
run_size r at phase f had [] x body c h w l s =
    let whole_size : unit_step r at phase (Size f had) x ≡ size_step r at phase f (length body) =
    cond-false _ _ _ (le-ltb (length (had ++ x ∷ [])) (size_len f) (omega (arith, length_push had x))) ∙ ap (size_step r at phase f) s in
    let k = run_rest r at phase f body c h w in
    (k.0, k.1, ap (λ t. before t (run r (tick at) t.state (body ++ c))) whole_size ∙ k.2)
run_size r at phase f had (y ∷ octets) x body c h w l s =
    let grown : unit_step r at phase (Size f had) x ≡ quiet (Units phase (Size f (had ++ x ∷ []))) = cond-true _ _ _ (lt-ltb (length (had ++ x ∷ [])) (size_len f) (omega (arith, length_push had x))) in
    let k = run_size r (tick at) phase f (had ++ x ∷ []) octets y body c h w (omega (arith, length_push had x)) (ap size_of (append_assoc had (x ∷ []) (y ∷ octets)) ∙ s) in
    (k.0, k.1, ap (λ t. before t (run r (tick at) t.state ((y ∷ octets) ++ (body ++ c)))) grown ∙ k.2)

-- a unit as we write it
run_unit : (r : Role) (at : ℕ) (phase : Phase) (f x : ℕ) (octets body c : List ℕ) → flag_step at phase f ≡ Units phase (Size f []) → ((p q : List ℕ) → p ++ q ≡ body → is_error phase f p ≡ false) → length body ≤ room_in phase f
    → length octets + 1 ≡ size_len f → size_of (x ∷ octets) ≡ length body
    → (at' : ℕ) × (at'' : ℕ) × (run r at (Units phase Fresh) (f ∷ x ∷ (octets ++ (body ++ c))) ≡ before (finish r at' phase f body) (run r at'' (finish r at' phase f body).state c))
unfolding run
run_unit r at phase f x octets body c g h w l s =
    let k = run_size r (tick at) phase f [] octets x body c h w (omega arith) s in
    (k.0, k.1, ap (λ u. before (quiet u) (run r (tick at) u (x ∷ (octets ++ (body ++ c))))) g ∙ k.2)

-- ---- the handshake

ready_fits : (r peer : Role) → is_peer r (Some (role_name peer)) ≡ true → handshake_cause r (ready_body peer) ≡ None
unfolding properties_in
ready_fits r role.Dealer h = cond-true _ _ _ h
ready_fits r role.Sub h = cond-true _ _ _ h
ready_fits r role.Req h = cond-true _ _ _ h
ready_fits r role.Router h = cond-true _ _ _ h
ready_fits r role.Pub h = cond-true _ _ _ h
ready_fits r role.Rep h = cond-true _ _ _ h

short_body : (peer : Role) → length (ready_body peer) ≤ MOST
short_body role.Dealer = omega arith
short_body role.Sub = omega arith
short_body role.Req = omega arith
short_body role.Router = omega arith
short_body role.Pub = omega arith
short_body role.Rep = omega arith

run_greeting : (r : Role) → run r 0 (Greeting []) greeting_octets ≡ quiet (Units (Handshake true) Fresh)
unfolding run greeting_step
run_greeting r = refl

command_flag : (at : ℕ) (newer : Bool) → flag_step at (Handshake newer) 4 ≡ Units (Handshake newer) (Size 4 [])
unfolding flag_step
command_flag at newer = refl

run_ready : (r peer : Role) (at : ℕ) (c : List ℕ) → is_peer r (Some (role_name peer)) ≡ true
    → (at' : ℕ) × (run r at (Units (Handshake true) Fresh) (ready_octets peer ++ c) ≡ run r at' (Units (Traffic true []) Fresh) c)
unfolding finish
run_ready r peer at c h =
    let k = run_unit r at (Handshake true) 4 (length (ready_body peer)) [] (ready_body peer) c (command_flag at true) (λ p q e. refl) (short_body peer) refl refl in
    let done : finish r k.0 (Handshake true) 4 (ready_body peer) ≡ quiet (Units (Traffic true []) Fresh) = ap (λ o. quiet (after_handshake k.0 true o)) (ready_fits r peer h) in
    (k.1, k.2 ∙ ap (λ t. before t (run r k.1 t.state c)) done)

-- ---- messages

abbrev framed : List (List ℕ) → Bool → List ℕ → Took
framed frames true body = quiet (Units (Traffic true (frames ++ body ∷ [])) Fresh)
framed frames false body = record { state = Units (Traffic true []) Fresh; messages = (frames ++ body ∷ []) ∷ []; owed = [] }

-- a frame's octets, whatever form the size has
run_octets : (r : Role) (at : ℕ) (frames : List (List ℕ)) (f : ℕ) (o body c : List ℕ) → flag_step at (Traffic true frames) f ≡ Units (Traffic true frames) (Size f []) → is_command f ≡ false
    → length body ≤ room_left MOST frames → length o ≡ size_len f → size_of o ≡ length body
    → (at' : ℕ) × (at'' : ℕ) × (run r at (Units (Traffic true frames) Fresh) ((f ∷ (o ++ body)) ++ c) ≡ before (finish r at' (Traffic true frames) f body) (run r at'' (finish r at' (Traffic true frames) f body).state c))
run_octets r at frames f [] body c g n w l s = let k = size_pos f in absurd (omega arith)
run_octets r at frames f (x ∷ octets) body c g n w l s =
    let room : room_in (Traffic true frames) f ≡ room_left MOST frames = cond-false _ _ _ n in
    let fits : length body ≤ room_in (Traffic true frames) f = omega (arith, room) in
    let k = run_unit r at (Traffic true frames) f x octets body c g (λ p q e. ap (λ y. y && nat_eq (length p) 6 && starts_with nat_eq p error_name) n) fits (omega arith) s in
    (k.0, k.1, ap (λ t. run r at (Units (Traffic true frames) Fresh) (f ∷ x ∷ t)) (append_assoc octets body c) ∙ k.2)

flag_free : (at : ℕ) (frames : List (List ℕ)) (f : ℕ) → is_allowed f ≡ true → (is_more f && nat_eq (length frames) 63) ≡ false → flag_step at (Traffic true frames) f ≡ Units (Traffic true frames) (Size f [])
unfolding flag_step
flag_free at frames f a m = cond-true _ _ _ a ∙ cond-false _ _ _ m

not_last : (n : ℕ) → n < 63 → nat_eq n 63 ≡ false
not_last n h = grind (arith, nat_tests)

long_size : (n : ℕ) → n < 2 ^ 64 → size_of (to_be_bytes w64 n) ≡ n
long_size n h = from_be_bytes-to_be_bytes_8 n h

run_frame_on : (r : Role) (at : ℕ) (frames : List (List ℕ)) (more short : Bool) (body c : List ℕ) → nat_lt (length body) 256 ≡ short → (more ≡ true → length frames < 63) → length body ≤ room_left MOST frames → length body < 2 ^ 64
    → (at' : ℕ) × (run r at (Units (Traffic true frames) Fresh) (frame_octets more body ++ c) ≡ before (framed frames more body) (run r at' (framed frames more body).state c))
unfolding unit_octets finish
run_frame_on r at frames true true body c e h w l =
    let k = run_octets r at frames 1 (length body ∷ []) body c (flag_free at frames 1 refl (not_last (length frames) (h refl))) refl w refl refl in
    (k.1, ap (λ t. run r at (Units (Traffic true frames) Fresh) (t ++ c)) (cond-true _ _ _ e) ∙ k.2)
run_frame_on r at frames false true body c e h w l =
    let k = run_octets r at frames 0 (length body ∷ []) body c (flag_free at frames 0 refl refl) refl w refl refl in
    (k.1, ap (λ t. run r at (Units (Traffic true frames) Fresh) (t ++ c)) (cond-true _ _ _ e) ∙ k.2)
run_frame_on r at frames true false body c e h w l =
    let k = run_octets r at frames 3 (to_be_bytes w64 (length body)) body c (flag_free at frames 3 refl (not_last (length frames) (h refl))) refl w refl (long_size (length body) l) in
    (k.1, ap (λ t. run r at (Units (Traffic true frames) Fresh) (t ++ c)) (cond-false _ _ _ e) ∙ k.2)
run_frame_on r at frames false false body c e h w l =
    let k = run_octets r at frames 2 (to_be_bytes w64 (length body)) body c (flag_free at frames 2 refl refl) refl w refl (long_size (length body) l) in
    (k.1, ap (λ t. run r at (Units (Traffic true frames) Fresh) (t ++ c)) (cond-false _ _ _ e) ∙ k.2)

run_message : (r : Role) (at : ℕ) (frames : List (List ℕ)) (p : List ℕ) (ps : List (List ℕ)) (c : List ℕ) → length frames + length (p ∷ ps) ≤ 64 → sum_by length frames + sum_by length (p ∷ ps) ≤ MOST
    → (at' : ℕ) × (run r at (Units (Traffic true frames) Fresh) (message_octets (p ∷ ps) ++ c)
    ≡ before (record { state = Units (Traffic true []) Fresh; messages = (frames ++ p ∷ ps) ∷ []; owed = [] }) (run r at' (Units (Traffic true []) Fresh) c))
run_message r at frames p [] c few small =
    let room = room_same MOST frames in
    let cons = sum_by-cons (λ (q : List ℕ). length q) p [] in
    let k = run_frame_on r at frames false _ p c refl (λ e. absurd (cc)) (omega (arith, room, cons)) (omega (arith, cons)) in
    (k.0, ap (λ t. run r at (Units (Traffic true frames) Fresh) (t ++ c)) (append-nil (frame_octets false p)) ∙ k.1)
run_message r at frames p (q ∷ ps) c few small =
    let room = room_same MOST frames in
    let cons = sum_by-cons (λ (q : List ℕ). length q) p (q ∷ ps) in
    let push = sum_by_push (λ (q : List ℕ). length q) frames p in
    let k = run_frame_on r at frames true _ p (message_octets (q ∷ ps) ++ c) refl (λ e. omega arith) (omega (arith, room, cons)) (omega (arith, cons)) in
    let more = run_message r k.0 (frames ++ p ∷ []) q ps c (omega (arith, length-append frames (p ∷ []))) (omega (arith, cons, push)) in
    let same = append_assoc frames (p ∷ []) (q ∷ ps) in (
      more.0,
      ap (run r at (Units (Traffic true frames) Fresh)) (append_assoc (frame_octets true p) (message_octets (q ∷ ps)) c) ∙ k.1 ∙ more.1
          ∙ ap (λ m. before (record { state = Units (Traffic true []) Fresh; messages = m ∷ []; owed = [] }) (run r more.0 (Units (Traffic true []) Fresh) c)) same,
    )

run_messages : (r : Role) (at : ℕ) (ms : List (List (List ℕ))) → AreMessages ms → run r at (Units (Traffic true []) Fresh) (all_octets ms) ≡ record { state = Units (Traffic true []) Fresh; messages = ms; owed = [] }
unfolding run
run_messages r at [] h = refl
run_messages r at ([] ∷ ms) h = let k = h.0.some in absurd (omega arith)
run_messages r at ((p ∷ ps) ∷ ms) h =
    let none : sum_by (λ (q : List ℕ). length q) [] ≡ 0 = refl in
    let few = h.0.few in
    let small = h.0.small in
    let k = run_message r at [] p ps (all_octets ms) (omega arith) (omega arith) in
    k.1 ∙ ap (before (record { state = Units (Traffic true []) Fresh; messages = (p ∷ ps) ∷ []; owed = [] })) (run_messages r k.0 ms h.1)

-- ---- commands

-- a command that isn't an ERROR doesn't begin as one
no_error_of : (six : Bool) (body p q : List ℕ) → nat_eq (length p) 6 ≡ six → starts_with nat_eq body error_name ≡ false → p ++ q ≡ body → (six && starts_with nat_eq p error_name) ≡ false
no_error_of false body p q e h t = refl
no_error_of true body p q e h t =
    let six : 6 ≤ length p = omega (arith, eqb-true (length p) 6 e) in
    let front : take 6 body ≡ take 6 p = ap (take 6) (sym t) ∙ take-append-le 6 p q six in
    ap (pointwise nat_eq error_name) (sym front) ∙ h

-- a command's octets, whatever form the size has
run_command_octets : (r : Role) (at : ℕ) (frames : List (List ℕ)) (f : ℕ) (o body c : List ℕ) → flag_step at (Traffic true frames) f ≡ Units (Traffic true frames) (Size f []) → is_command f ≡ true
    → starts_with nat_eq body error_name ≡ false → length body ≤ MOST → length o ≡ size_len f → size_of o ≡ length body
    → (at' : ℕ) × (at'' : ℕ) × (run r at (Units (Traffic true frames) Fresh) ((f ∷ (o ++ body)) ++ c) ≡ before (finish r at' (Traffic true frames) f body) (run r at'' (finish r at' (Traffic true frames) f body).state c))
run_command_octets r at frames f [] body c g n h w l s = let k = size_pos f in absurd (omega arith)
run_command_octets r at frames f (x ∷ octets) body c g n h w l s =
    let room : room_in (Traffic true frames) f ≡ MOST = cond-true _ _ _ n in
    let fits : length body ≤ room_in (Traffic true frames) f = omega (arith, room) in
    let k = run_unit r at (Traffic true frames) f x octets body c g
    (λ p q e. ap (λ y. y && nat_eq (length p) 6 && starts_with nat_eq p error_name) n ∙ no_error_of _ body p q refl h e) fits (omega arith) s in
    (k.0, k.1, ap (λ t. run r at (Units (Traffic true frames) Fresh) (f ∷ x ∷ t)) (append_assoc octets body c) ∙ k.2)

abbrev commanded : Role → List (List ℕ) → List ℕ → Took
commanded r frames body = record { state = Units (Traffic true frames) Fresh; messages = command_messages r true body; owed = command_contexts true body }

run_command_on : (r : Role) (at : ℕ) (frames : List (List ℕ)) (short : Bool) (body c : List ℕ) → nat_lt (length body) 256 ≡ short → starts_with nat_eq body error_name ≡ false → length body ≤ MOST
    → (at' : ℕ) × (run r at (Units (Traffic true frames) Fresh) (command_octets body ++ c) ≡ before (commanded r frames body) (run r at' (Units (Traffic true frames) Fresh) c))
unfolding unit_octets finish
run_command_on r at frames true body c e h w =
    let k = run_command_octets r at frames 4 (length body ∷ []) body c (flag_free at frames 4 refl refl) refl h w refl refl in
    (k.1, ap (λ t. run r at (Units (Traffic true frames) Fresh) (t ++ c)) (cond-true _ _ _ e) ∙ k.2)
run_command_on r at frames false body c e h w =
    let k = run_command_octets r at frames 6 (to_be_bytes w64 (length body)) body c (flag_free at frames 6 refl refl) refl h w refl (long_size (length body) (omega arith)) in
    (k.1, ap (λ t. run r at (Units (Traffic true frames) Fresh) (t ++ c)) (cond-false _ _ _ e) ∙ k.2)

run_writings : (r : Role) (at : ℕ) (ws : List Writing) → AreWritings ws
    → run r at (Units (Traffic true []) Fresh) (writing_octets ws) ≡ record { state = Units (Traffic true []) Fresh; messages = messages_heard r ws; owed = contexts_heard ws }
unfolding run
run_writings r at [] h = refl
run_writings r at (message [] ∷ ws) h = let k = h.0.some in absurd (omega arith)
run_writings r at (message (p ∷ ps) ∷ ws) h =
    let none : sum_by (λ (q : List ℕ). length q) [] ≡ 0 = refl in
    let few = h.0.few in
    let small = h.0.small in
    let k = run_message r at [] p ps (writing_octets ws) (omega arith) (omega arith) in
    k.1 ∙ ap (before (record { state = Units (Traffic true []) Fresh; messages = (p ∷ ps) ∷ []; owed = [] })) (run_writings r k.0 ws h.1)
run_writings r at (Written.command body ∷ ws) h =
    let k = run_command_on r at [] _ body (writing_octets ws) refl h.0.harmless h.0.small in
    k.1 ∙ ap (before (commanded r [] body)) (run_writings r k.0 ws h.1)

-- ---- all of it

start_octets : (r peer : Role) (c : List ℕ) → is_peer r (Some (role_name peer)) ≡ true
    → (at : ℕ) × (reading r (greeting_octets ++ (ready_octets peer ++ c)) ≡ run r at (Units (Traffic true []) Fresh) c)
start_octets r peer c h =
    let k = run_ready r peer (ticks 0 (length greeting_octets)) c h in (
      k.0,
      reading-append r greeting_octets (ready_octets peer ++ c)
          ∙ ap (λ t. before t (run r (ticks 0 (length greeting_octets)) t.state (ready_octets peer ++ c))) (run_greeting r) ∙ k.1,
    )

-- octets that the machine reads to the end of a unit are a stream with no rest
whole_stream : (r : Role) (b : List ℕ) (ms : List Message) (owed : List Context) → reading r b ≡ record { state = Units (Traffic true []) Fresh; messages = ms; owed = owed } → Stream b r ms owed []
whole_stream r b ms owed t =
    elim (outcome r b) [
      | reads ms' owed' rest s ↦
          let k = stream_reads b r ms' owed' rest s in
          let same : ms' ≡ ms = sym k.1 ∙ ap (λ (u : Took). u.messages) t in
          let also : owed' ≡ owed = sym k.2 ∙ ap (λ (u : Took). u.owed) t in
          let nil : rest ≡ [] = nil_from_length rest (sym (state_len s.come rest) ∙ ap rest_len (sym k.0 ∙ ap (λ (u : Took). u.state) t)) in
          subst (λ (x : List Message). Stream b r x owed []) same (subst (λ (x : List Context). Stream b r ms' x []) also (subst (λ (x : List ℕ). Stream b r ms' owed' x) nil s))
      | breaks e at ms' owed' k ↦ let f = broken_reads b r e at ms' owed' k in let bad : Failed (is_past k.come) e ≡ Units (Traffic true []) Fresh = sym f.0 ∙ ap (λ (u : Took). u.state) t in absurd (cc)
    ]

pub written : (r peer : Role) (ms : List Message) → is_peer r (Some (role_name peer)) ≡ true → AreMessages ms → Stream (greeting_octets ++ (ready_octets peer ++ all_octets ms)) r ms [] []
written r peer ms h a =
    let k = start_octets r peer (all_octets ms) h in
    whole_stream r _ ms [] (k.1 ∙ run_messages r k.0 ms a)

pub writings_read : (r peer : Role) (ws : List Writing) → is_peer r (Some (role_name peer)) ≡ true → AreWritings ws
    → Stream (greeting_octets ++ (ready_octets peer ++ writing_octets ws)) r (messages_heard r ws) (contexts_heard ws) []
writings_read r peer ws h a =
    let k = start_octets r peer (writing_octets ws) h in
    whole_stream r _ (messages_heard r ws) (contexts_heard ws) (k.1 ∙ run_writings r k.0 ws a)
