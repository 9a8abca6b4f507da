-- What is owed, as the other side reads it.
use Rattle.std.proofs.Common.{◌≡◌, ℕ, ◌≤◌, Bool, true, false, cond, ◌&&◌, ◌||◌, not, List, [], ◌∷◌, ◌++◌, length, map, codes, Option, None, Some, refl, ap, ◌∙◌, arith, length-append, append-nil, subst}
use Rattle.std.specs.List.{AllByRecursion}
use Rattle.zmtp_wire.specs.declared.role.Role.{Role}
use Rattle.zmtp_wire.specs.declared.role.Role.TheVariants as role
use Rattle.zmtp_wire.specs.Command.{is_peer, is_pub, is_subscribe, is_cancel}
use Rattle.zmtp_wire.specs.Greeting.{newer_of}
use Rattle.zmtp_wire.specs.Meaning.{contexts_in, is_shaken}
use Rattle.zmtp_wire.specs.Stream.{Message, Context, Stream}
use Rattle.zmtp_wire.specs.Writing.{greeting_octets, ready_octets, role_name, command_octets, message_octets, all_octets, AreMessages}
use Rattle.zmtp_wire.specs.Writing.{message, AreWritings, writing_octets, messages_heard, contexts_heard}
use Rattle.zmtp_wire.proofs.ContextLemmas.{contexts_short}
use Rattle.zmtp_wire.proofs.WriteLemmas.{writings_read}
use Rattle.zmtp_wire.proofs.WritingLemmas.{octets_join, messages_join, contexts_join, writable_join, message_octets_of, messages_of, contexts_of, writable_of}
use Rattle.zmtp_peer.specs.Reply.{is_sub, subscribe_body, subscribe_message, subscription_octets, subscription_for, subscription_writing, subscription_writings, pong, pongs, pong_writing, owed_octets, owed_writings}

-- ---- the octets

one_written : (newer : Bool) → writing_octets (subscription_writing newer ∷ []) ≡ subscription_octets newer
one_written true = append-nil (command_octets subscribe_body)
one_written false = append-nil (message_octets subscribe_message)

subscription_written : (due : Bool) (o : Option Bool) → writing_octets (cond due (subscription_writings o) []) ≡ cond due (subscription_for o) []
subscription_written false o = refl
subscription_written true None = refl
subscription_written true (Some newer) = one_written newer

pongs_written : (cs : List Context) → writing_octets (map pong_writing cs) ≡ pongs cs
pongs_written [] = refl
pongs_written (c ∷ cs) = ap (λ x. pong c ++ x) (pongs_written cs)

pub written : (r : Role) (b : List ℕ) → writing_octets (owed_writings r b) ≡ owed_octets r b
written r b =
    let due = is_sub r && is_shaken r b in
    octets_join (cond due (subscription_writings (newer_of b)) []) (map pong_writing (contexts_in r b))
    ∙ ap (λ x. x ++ writing_octets (map pong_writing (contexts_in r b))) (subscription_written due (newer_of b))
    ∙ ap (λ x. cond due (subscription_for (newer_of b)) [] ++ x) (pongs_written (contexts_in r b))

-- ---- it may be written

subscribe_writable : (newer : Bool) → AreWritings (subscription_writing newer ∷ [])
subscribe_writable true = (record { harmless = refl; small = omega arith }, tt)
subscribe_writable false = (record { some = omega arith; few = omega arith; small = omega arith }, tt)

subscription_writable : (due : Bool) (o : Option Bool) → AreWritings (cond due (subscription_writings o) [])
subscription_writable false o = tt
subscription_writable true None = tt
subscription_writable true (Some newer) = subscribe_writable newer

pongs_writable : (cs : List Context) → AllByRecursion (λ c. length c ≤ 16) cs → AreWritings (map pong_writing cs)
pongs_writable [] h = tt
pongs_writable (c ∷ cs) h =
    let short = h.0 in
    (record { harmless = refl; small = omega (arith, length-append (codes "PONG") c) }, pongs_writable cs h.1)

pub writable : (r : Role) (b : List ℕ) → AreWritings (owed_writings r b)
writable r b =
    let due = is_sub r && is_shaken r b in
    writable_join (cond due (subscription_writings (newer_of b)) []) (map pong_writing (contexts_in r b))
    (subscription_writable due (newer_of b)) (pongs_writable (contexts_in r b) (contexts_short r b))

-- ---- what it means

pub subscription_heard : (r : Role) (newer : Bool) → messages_heard r (subscription_writing newer ∷ []) ≡ cond (is_pub r || not newer) (subscribe_message ∷ []) []
unfolding is_subscribe
subscription_heard role.Dealer true = refl
subscription_heard role.Sub true = refl
subscription_heard role.Req true = refl
subscription_heard role.Router true = refl
subscription_heard role.Pub true = refl
subscription_heard role.Rep true = refl
subscription_heard role.Dealer false = refl
subscription_heard role.Sub false = refl
subscription_heard role.Req false = refl
subscription_heard role.Router false = refl
subscription_heard role.Pub false = refl
subscription_heard role.Rep false = refl

pub pong_heard : (r : Role) (context : Context) → messages_heard r (pong_writing context ∷ []) ≡ []
unfolding is_subscribe is_cancel
pong_heard role.Dealer context = refl
pong_heard role.Sub context = refl
pong_heard role.Req context = refl
pong_heard role.Router context = refl
pong_heard role.Pub context = refl
pong_heard role.Rep context = refl

subscription_asks_none : (due : Bool) (o : Option Bool) → contexts_heard (cond due (subscription_writings o) []) ≡ []
subscription_asks_none false o = refl
subscription_asks_none true None = refl
subscription_asks_none true (Some true) = refl
subscription_asks_none true (Some false) = refl

pongs_ask_none : (cs : List Context) → contexts_heard (map pong_writing cs) ≡ []
pongs_ask_none [] = refl
pongs_ask_none (c ∷ cs) = pongs_ask_none cs

pub no_ping : (r : Role) (b : List ℕ) → contexts_heard (owed_writings r b) ≡ []
no_ping r b =
    let due = is_sub r && is_shaken r b in
    contexts_join (cond due (subscription_writings (newer_of b)) []) (map pong_writing (contexts_in r b))
    ∙ ap (λ x. x ++ contexts_heard (map pong_writing (contexts_in r b))) (subscription_asks_none due (newer_of b))
    ∙ pongs_ask_none (contexts_in r b)

-- ---- the other side

pub replies_read : (r peer : Role) (b : List ℕ) (ms : List Message) → is_peer r (Some (role_name peer)) ≡ true → AreMessages ms
    → Stream (greeting_octets ++ (ready_octets peer ++ (owed_octets peer b ++ all_octets ms))) r (messages_heard r (owed_writings peer b) ++ ms) [] []
replies_read r peer b ms h a =
    let first = owed_writings peer b in
    let then_ms = map message ms in
    let s = writings_read r peer (first ++ then_ms) h (writable_join first then_ms (writable peer b) (writable_of ms a)) in
    let octets : writing_octets (first ++ then_ms) ≡ owed_octets peer b ++ all_octets ms =
    octets_join first then_ms ∙ ap (λ x. x ++ writing_octets then_ms) (written peer b) ∙ ap (λ x. owed_octets peer b ++ x) (message_octets_of ms) in
    let messages : messages_heard r (first ++ then_ms) ≡ messages_heard r first ++ ms = messages_join r first then_ms ∙ ap (λ x. messages_heard r first ++ x) (messages_of r ms) in
    let contexts : contexts_heard (first ++ then_ms) ≡ [] = contexts_join first then_ms ∙ ap (λ x. x ++ contexts_heard then_ms) (no_ping peer b) ∙ contexts_of ms in
    let s1 = subst (λ (x : List ℕ). Stream (greeting_octets ++ (ready_octets peer ++ x)) r (messages_heard r (first ++ then_ms)) (contexts_heard (first ++ then_ms)) []) octets s in
    let s2 = subst (λ (x : List Message). Stream (greeting_octets ++ (ready_octets peer ++ (owed_octets peer b ++ all_octets ms))) r x (contexts_heard (first ++ then_ms)) []) messages s1 in
    subst (λ (x : List Context). Stream (greeting_octets ++ (ready_octets peer ++ (owed_octets peer b ++ all_octets ms))) r (messages_heard r first ++ ms) x []) contexts s2
