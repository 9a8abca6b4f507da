-- Our side of a connection, over pieces and replies.
use Rattle.std.proofs.Common.{◌≡◌, ℕ, ◌≤◌, Bool, true, false, cond, List, [], ◌++◌, length, None, Some, Ok, Err, refl, ap, sym, ◌∙◌, arith, length-append, append_assoc, append-nil, subst, ◌⊎◌, inl, inr, IsTrue, ◌↔◌}
use Rattle.std.proofs.lemmas.Bool.{cond-false, le-ltb}
use Rattle.zmtp_wire.specs.declared.role.Role.{Role}
use Rattle.zmtp_wire.specs.declared.fault.WireFault.TheVariants as fault
use Rattle.zmtp_wire.specs.Greeting.{speaks, newer_of}
use Rattle.zmtp_wire.specs.Stream.{Come, nothing, greeted, shaken, greeting, ready, unit, Reads, start, more, Gives, IsShaken}
use Rattle.zmtp_wire.specs.Machine.{run, GrowsBy}
use Rattle.zmtp_wire.specs.Decoder as wire
use Rattle.zmtp_wire.specs.Writing.{unit_octets}
use Rattle.zmtp_wire.specs.Meaning.{contexts_in}
use Rattle.zmtp_wire.proofs.GivesLemmas.{gives_reading, gives_one}
use Rattle.zmtp_wire.proofs.MeaningLemmas.{meant_alone, newer_grows, stands_unstarved}
use Rattle.zmtp_wire.proofs.ShakenLemmas.{none_before, shaken_longer, is_true, true_is}
use Rattle.zmtp_peer.specs.declared.peer.Peer.{Peer}
use Rattle.zmtp_peer.specs.Envelope.{bodies_of}
use Rattle.zmtp_peer.specs.Subscription.{prefixes_after, in_force, prefixes_in, IsWanted}
use Rattle.zmtp_peer.specs.Reply.{is_sub, subscription_octets, Subscribes, no_sub, not_yet, everything, pongs, Owes}
use Rattle.zmtp_peer.specs.Peer.{StandsFor, BringsSome, IsDue, IsSettled, answer_of}
use Rattle.zmtp_peer.proofs.BodyLemmas.{bodies-append}
use Rattle.zmtp_peer.proofs.PrefixLemmas.{prefixes-append}
use Rattle.zmtp_peer.proofs.ReplyLemmas.{pongs-append}

-- no octets give nothing
pub gives_nothing : (r : Role) → Gives r [] [] [] (Ok tt)
unfolding run
gives_nothing r = gives_reading r []

-- ---- READY in what grows

abbrev is_begun : Come → Bool
is_begun nothing = false
is_begun (greeted g) = true
is_begun (shaken g items) = true

begun_long : (r : Role) (front : List ℕ) (come : Come) → Reads r front come → is_begun come ≡ true → 64 ≤ length front
begun_long r _ _ start h = absurd (cc)
begun_long r _ _ (more front p _ _ k (greeting g e) ps) h = omega (arith, e, length-append front p)
begun_long r _ _ (more front p _ _ k (ready g _ body s) ps) h = let l = begun_long r front (greeted g) k refl in omega (arith, l, length-append front p)
begun_long r _ _ (more front p _ _ k (unit g items item _ s) ps) h = let l = begun_long r front (shaken g items) k refl in omega (arith, l, length-append front p)

-- where READY has come, the version has
pub shaken_newer : (r : Role) (b : List ℕ) → IsShaken r b → newer_of b ≡ None → ⊥
shaken_newer r b s e =
    let l = begun_long r s.front (shaken s.greeting []) s.reads refl in
    let long : 12 ≤ length b = omega (arith, l, ap length s.spelled, length-append s.front s.rest) in
    let k : Some (speaks b) ≡ None = sym (cond-false _ _ _ (le-ltb (length b) 12 long)) ∙ e in
    absurd (cc)

subscribes_longer : (r : Role) (b piece s : List ℕ) → is_sub r ≡ true → IsShaken r b → Subscribes r b s → Subscribes r (b ++ piece) s
subscribes_longer r b piece _ e k (no_sub f) = let bad : true ≡ false = sym e ∙ f in absurd (cc)
subscribes_longer r b piece _ e k (not_yet f) = absurd (f k)
subscribes_longer r b piece _ e k (everything newer f j n) = everything newer e (shaken_longer r b piece k) (newer_grows b piece newer n)

-- ---- pieces

-- the parts of our side after a piece
pub record Fed (p p' : Peer) (b piece : List ℕ) (came : List (List (List ℕ))) (answer : wire.Answer) (contexts : List (List ℕ)) : Type 0 where
  pub same : p'.role ≡ p.role
  pub subscribed : p'.subscribed ≡ p.subscribed
  pub starved : p'.starved ≡ p.starved
  pub decoder : wire.role_of p'.decoder ≡ wire.role_of p.decoder
  pub reads : wire.StandsFor p'.decoder (b ++ piece) contexts
  pub brings : wire.Brings p.role b piece [] came answer
  pub prefixes : p'.prefixes ≡ prefixes_after p.role p.prefixes came

pub fed_stands : (p p' : Peer) (b piece sent : List ℕ) (came : List (List (List ℕ))) (answer : wire.Answer) → (s : StandsFor p b sent) → Fed p p' b piece came answer s.contexts → StandsFor p' (b ++ piece) sent
fed_stands p p' b piece sent came answer s f =
    let w = f.brings in
    let r = p.role in
    let known : s.messages ≡ w.before = (gives_one b r s.messages w.before s.owed w.owed s.answer w.answer_before s.gives w.gave).0 in
    let all : p'.prefixes ≡ in_force r (w.before ++ w.more) =
    f.prefixes ∙ ap (λ x. prefixes_after r x came) s.prefixes ∙ ap (λ x. prefixes_after r (in_force r x) came) known ∙ ap (prefixes_after r (in_force r w.before)) w.grown ∙ sym (prefixes-append r [] w.before w.more) in
    record {
      contexts = s.contexts;
      subscription = s.subscription;
      messages = w.before ++ w.more;
      owed = w.owed_now;
      answer = answer;
      unstarved = f.starved ∙ s.unstarved;
      role = f.decoder ∙ s.role ∙ sym f.same;
      reads = f.reads;
      gives = subst (λ (x : Role). Gives x (b ++ piece) (w.before ++ w.more) w.owed_now answer) (sym f.same) w.gives;
      prefixes = all ∙ ap (λ x. in_force x (w.before ++ w.more)) (sym f.same);
      spoke = s.spoke;
      due = λ u. let k = s.due (sym f.subscribed ∙ u) in (k.0, λ e. k.1 (ap is_sub (sym f.same) ∙ e));
      done = λ u.
          let k = s.done (sym f.subscribed ∙ u) in
          (ap is_sub f.same ∙ k.0, subst (λ (x : Role). IsShaken x (b ++ piece)) (sym f.same) (shaken_longer r b piece k.1), subst (λ (x : Role). Subscribes x (b ++ piece) s.subscription) (sym f.same) (subscribes_longer r b piece s.subscription k.0 k.1 k.2));
    }

-- the clause of the decoder, at our role and from an empty list
pub brings_here : (p : Peer) (b piece sent : List ℕ) (old came : List (List (List ℕ))) (answer : wire.Answer) → StandsFor p b sent → old ≡ [] → wire.Brings (wire.role_of p.decoder) b piece old came answer → wire.Brings p.role b piece [] came answer
brings_here p b piece sent old came answer s e w =
    subst (λ (x : Role). wire.Brings x b piece [] came answer) s.role (subst (λ (x : List (List (List ℕ))). wire.Brings (wire.role_of p.decoder) b piece x came answer) e w)

pub some_here : (p : Peer) (b piece sent : List ℕ) (old came : List (List (List ℕ))) → StandsFor p b sent → old ≡ [] → wire.BringsSome (wire.role_of p.decoder) b piece old came → wire.BringsSome p.role b piece [] came
some_here p b piece sent old came s e w =
    subst (λ (x : Role). wire.BringsSome x b piece [] came) s.role (subst (λ (x : List (List (List ℕ))). wire.BringsSome (wire.role_of p.decoder) b piece x came) e w)

pub either_way : (a : wire.Answer) → (a ≡ Err fault.NoMemory) ⊎ wire.IsUnstarved a
either_way (Ok u) = inr (λ e. absurd (cc))
either_way (Err (fault.Signature at)) = inr (λ e. absurd (cc))
either_way (Err (fault.Version at)) = inr (λ e. absurd (cc))
either_way (Err (fault.Mechanism at)) = inr (λ e. absurd (cc))
either_way (Err (fault.Flags at)) = inr (λ e. absurd (cc))
either_way (Err (fault.TooLong at size)) = inr (λ e. absurd (cc))
either_way (Err (fault.TooMany at)) = inr (λ e. absurd (cc))
either_way (Err (fault.Command at)) = inr (λ e. absurd (cc))
either_way (Err (fault.PeerError at)) = inr (λ e. absurd (cc))
either_way (Err (fault.WrongPeer at)) = inr (λ e. absurd (cc))
either_way (Err fault.NoMemory) = inl refl

-- all that the piece brings came, and some of it was handed on
pub all_came : (r : Role) (b piece : List ℕ) (old new came : List (List (List ℕ))) (answer : wire.Answer) → wire.Brings r b piece [] came answer → GrowsBy old new (bodies_of r came) → BringsSome r b piece old new
all_came r b piece old new came answer w g = record { came = came; more = g.more; left = g.left; answer = answer; brings = w; first = g.first; grown = g.grown }

-- some of what the piece brings came, and some of that was handed on
pub some_came : (r : Role) (b piece : List ℕ) (old new came : List (List (List ℕ))) → wire.BringsSome r b piece [] came → GrowsBy old new (bodies_of r came) → BringsSome r b piece old new
some_came r b piece old new came w g =
    let all : bodies_of r (w.more ++ w.left) ≡ g.more ++ (g.left ++ bodies_of r w.left) =
    bodies-append r w.more w.left ∙ ap (λ x. bodies_of r x ++ bodies_of r w.left) (sym w.grown) ∙ ap (λ x. x ++ bodies_of r w.left) g.first ∙ append_assoc g.more g.left (bodies_of r w.left) in
    record {
      came = w.more ++ w.left;
      more = g.more;
      left = g.left ++ bodies_of r w.left;
      answer = w.answer_now;
      brings = record { before = w.before; more = w.more ++ w.left; owed = w.owed; owed_now = w.owed_now; answer_before = w.answer_before; gave = w.gave; gives = w.gives; grown = refl };
      first = all;
      grown = g.grown;
    }

pub grows_none : (r : Role) (old came : List (List (List ℕ))) → came ≡ [] → GrowsBy old old (bodies_of r came)
grows_none r old came e = record { more = []; left = []; grown = sym (append-nil old); first = ap (bodies_of r) e }

-- ---- replies

pub shaken_here : (p : Peer) (b sent : List ℕ) (r : Bool) → StandsFor p b sent → IsTrue r ↔ IsShaken (wire.role_of p.decoder) b → r ≡ true → IsShaken p.role b
shaken_here p b sent r s h e = subst (λ (x : Role). IsShaken x b) s.role (h.0 (true_is r e))

pub not_shaken_here : (p : Peer) (b sent : List ℕ) (r : Bool) → StandsFor p b sent → IsTrue r ↔ IsShaken (wire.role_of p.decoder) b → r ≡ false → IsShaken p.role b → ⊥
not_shaken_here p b sent r s h e k =
    let t : r ≡ true = is_true r (h.1 (subst (λ (x : Role). IsShaken x b) (sym s.role) k)) in
    let bad : true ≡ false = sym t ∙ e in
    absurd (cc)

-- what was given and what is given now
first_words : (was sub given : List ℕ) (had now : List (List ℕ)) → given ≡ was ++ pongs had → was ≡ [] → had ≡ [] → given ++ (sub ++ pongs now) ≡ sub ++ pongs (had ++ now)
first_words was sub given had now e f g =
    ap (λ x. x ++ (sub ++ pongs now)) (e ∙ ap (λ x. x ++ pongs had) f ∙ ap pongs g) ∙ ap (λ x. sub ++ pongs (x ++ now)) (sym g)

later_words : (was given : List ℕ) (had now : List (List ℕ)) → given ≡ was ++ pongs had → given ++ pongs now ≡ was ++ pongs (had ++ now)
later_words was given had now e =
    ap (λ x. x ++ pongs now) e ∙ append_assoc was (pongs had) (pongs now) ∙ ap (λ x. was ++ x) (sym (pongs-append had now))

-- the decoder after its contexts were taken
pub record Taken (p p' : Peer) (b : List ℕ) (had now : List (List ℕ)) : Type 0 where
  pub same : p'.role ≡ p.role
  pub starved : p'.starved ≡ p.starved
  pub prefixes : p'.prefixes ≡ p.prefixes
  pub decoder : wire.role_of p'.decoder ≡ wire.role_of p.decoder
  pub reads : wire.StandsFor p'.decoder b (had ++ now)
  pub contexts : had ++ now ≡ contexts_in (wire.role_of p.decoder) b

abbrev pub Replied : Peer → Peer → List ℕ → List ℕ → List ℕ → List ℕ → Type 0
Replied p p' b sent old new = (more : List ℕ) × (new ≡ old ++ more) × Owes p.role b (sent ++ more) × StandsFor p' b (sent ++ more)

stands_on : (p p' : Peer) (b given sub : List ℕ) (had now : List (List ℕ)) (sent : List ℕ) → (s : StandsFor p b sent) → Taken p p' b had now → given ≡ sub ++ pongs (had ++ now)
    → (p'.subscribed ≡ false → (sub ≡ []) × (is_sub p'.role ≡ true → had ++ now ≡ [])) → (p'.subscribed ≡ true → (is_sub p'.role ≡ true) × IsShaken p'.role b × Subscribes p'.role b sub) → StandsFor p' b given
stands_on p p' b given sub had now sent s t e due done =
    record {
      contexts = had ++ now;
      subscription = sub;
      messages = s.messages;
      owed = s.owed;
      answer = s.answer;
      unstarved = t.starved ∙ s.unstarved;
      role = t.decoder ∙ s.role ∙ sym t.same;
      reads = t.reads;
      gives = subst (λ (x : Role). Gives x b s.messages s.owed s.answer) (sym t.same) s.gives;
      prefixes = t.prefixes ∙ s.prefixes ∙ ap (λ x. in_force x s.messages) (sym t.same);
      spoke = e;
      due = due;
      done = done;
    }

owed_now : (p p' : Peer) (b sent : List ℕ) (had now : List (List ℕ)) → (s : StandsFor p b sent) → Taken p p' b had now → had ++ now ≡ s.owed
owed_now p p' b sent had now s t = t.contexts ∙ ap (λ x. contexts_in x b) s.role ∙ sym (meant_alone p.role b s.messages s.owed s.answer s.gives).1

pub replied_due : (p p' : Peer) (b sent sub old new : List ℕ) (now : List (List ℕ)) → (s : StandsFor p b sent) → IsDue p b sub → Taken p p' b s.contexts now → p'.subscribed ≡ true → new ≡ old ++ (sub ++ pongs now) → Replied p p' b sent old new
replied_due p p' b sent sub old new now s d t y e =
    let k = s.due d.ungiven in
    let words = first_words s.subscription sub sent s.contexts now s.spoke k.0 (k.1 d.sub) in
    let all = owed_now p p' b sent s.contexts now s t in (
      sub ++ pongs now,
      e,
      record { subscription = sub; messages = s.messages; contexts = s.owed; answer = s.answer; subscribes = d.subscribes; gives = s.gives; all = words ∙ ap (λ x. sub ++ pongs x) all },
      stands_on p p' b (sent ++ (sub ++ pongs now)) sub s.contexts now sent s t words (λ n. let bad : true ≡ false = sym y ∙ n in absurd (cc))
          (λ y'. (ap is_sub t.same ∙ d.sub, subst (λ (x : Role). IsShaken x b) (sym t.same) d.shaken, subst (λ (x : Role). Subscribes x b sub) (sym t.same) d.subscribes)),
    )

subscribes_as : (p : Peer) (b sent : List ℕ) (y : Bool) → (s : StandsFor p b sent) → IsSettled p b → p.subscribed ≡ y → Subscribes p.role b s.subscription
subscribes_as p b sent true s k e = (s.done e).2
subscribes_as p b sent false s k e = subst (λ (x : List ℕ). Subscribes p.role b x) (sym (s.due e).0) (k e)

some_words : (newer : Bool) → subscription_octets newer ≡ [] → ⊥
unfolding unit_octets
some_words true e = absurd (cc)
some_words false e = absurd (cc)

not_shaken : (r : Role) (b s : List ℕ) → is_sub r ≡ true → s ≡ [] → Subscribes r b s → IsShaken r b → ⊥
not_shaken r b _ e n (no_sub f) = let bad : true ≡ false = sym e ∙ f in absurd (cc)
not_shaken r b _ e n (not_yet h) = h
not_shaken r b _ e n (everything newer e' k j) = absurd (some_words newer n)

pub replied_settled : (p p' : Peer) (b sent old new : List ℕ) (now : List (List ℕ)) → (s : StandsFor p b sent) → IsSettled p b → Taken p p' b s.contexts now → p'.subscribed ≡ p.subscribed → new ≡ old ++ pongs now → Replied p p' b sent old new
replied_settled p p' b sent old new now s k t y e =
    let words = later_words s.subscription sent s.contexts now s.spoke in
    let all = owed_now p p' b sent s.contexts now s t in (
      pongs now,
      e,
      record { subscription = s.subscription; messages = s.messages; contexts = s.owed; answer = s.answer; subscribes = subscribes_as p b sent p.subscribed s k refl; gives = s.gives; all = words ∙ ap (λ x. s.subscription ++ pongs x) all },
      stands_on p p' b (sent ++ pongs now) s.subscription s.contexts now sent s t words
          (λ n. let u = s.due (sym y ∙ n) in (u.0, λ f. all ∙ (none_before b p.role s.messages s.owed s.answer s.gives (not_shaken p.role b [] (ap is_sub (sym t.same) ∙ f) refl (k (sym y ∙ n)))).1))
          (λ n. let u = s.done (sym y ∙ n) in (ap is_sub t.same ∙ u.0, subst (λ (x : Role). IsShaken x b) (sym t.same) u.1, subst (λ (x : Role). Subscribes x b s.subscription) (sym t.same) u.2)),
    )

-- ---- want of memory

-- a side that wants memory stands for no octets
pub peer_unstarved : (p : Peer) (b sent : List ℕ) → StandsFor p b sent → answer_of p ≡ Err fault.NoMemory → ⊥
peer_unstarved p b sent s h = stands_unstarved p.decoder b s.contexts s.reads (ap (λ x. cond x (Err fault.NoMemory) (wire.answer_of p.decoder)) (sym s.unstarved) ∙ h)

-- ---- what is told of what came

pub shaken_both : (p : Peer) (b sent : List ℕ) (r : Bool) → StandsFor p b sent → IsTrue r ↔ IsShaken (wire.role_of p.decoder) b → IsTrue r ↔ IsShaken p.role b
shaken_both p b sent r s h = subst (λ (x : Role). IsTrue r ↔ IsShaken x b) s.role h

pub wanted_both : (p : Peer) (b sent topic : List ℕ) (r : Bool) → StandsFor p b sent → IsTrue r ↔ IsWanted p.prefixes topic → IsTrue r ↔ IsWanted (prefixes_in p.role b) topic
wanted_both p b sent topic r s h =
    let same : p.prefixes ≡ prefixes_in p.role b = s.prefixes ∙ ap (in_force p.role) (meant_alone p.role b s.messages s.owed s.answer s.gives).0 in
    subst (λ (x : List (List ℕ)). IsTrue r ↔ IsWanted x topic) same h
