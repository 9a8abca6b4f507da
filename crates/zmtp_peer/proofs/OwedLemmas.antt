-- What is owed as a function of what the other side has sent.
use Rattle.std.proofs.Common.{◌≡◌, ℕ, Bool, true, false, cond, ◌&&◌, List, [], ◌++◌, Option, None, Some, refl, ap, sym, ◌∙◌, append_assoc}
use Rattle.zmtp_wire.specs.declared.role.Role.{Role}
use Rattle.zmtp_wire.specs.Greeting.{newer_of}
use Rattle.zmtp_wire.specs.Stream.{IsShaken}
use Rattle.zmtp_wire.specs.Meaning.{messages_in, contexts_in, answer_to, is_shaken, Begins}
use Rattle.zmtp_wire.proofs.MeaningLemmas.{meant, meant_alone, shaken_meant, shaken_grows, newer_grows, contexts_grow}
use Rattle.zmtp_wire.proofs.MeaningLemmas as wire
use Rattle.zmtp_wire.proofs.ShakenLemmas.{none_before}
use Rattle.zmtp_peer.specs.Reply.{is_sub, Subscribes, no_sub, not_yet, everything, pongs, Owes, subscription_for, subscription_to, owed_octets}
use Rattle.zmtp_peer.proofs.PeerLemmas.{shaken_newer}
use Rattle.zmtp_peer.proofs.ReplyLemmas.{pongs-append}

-- READY came or it didn't
not_shaken_is : (r : Role) (b : List ℕ) → is_shaken r b ≡ false → IsShaken r b → ⊥
not_shaken_is r b e i = let bad : true ≡ false = sym ((shaken_meant r b).1 i) ∙ e in absurd (cc)

on_newer : (r : Role) (b : List ℕ) (o : Option Bool) → is_sub r ≡ true → IsShaken r b → newer_of b ≡ o → Subscribes r b (subscription_for o)
on_newer r b None s i e = absurd (shaken_newer r b i e)
on_newer r b (Some newer) s i e = everything newer s i e

subscribes_by : (r : Role) (b : List ℕ) (sub over : Bool) → is_sub r ≡ sub → is_shaken r b ≡ over → Subscribes r b (cond (sub && over) (subscription_for (newer_of b)) [])
subscribes_by r b false over s e = no_sub s
subscribes_by r b true false s e = not_yet (not_shaken_is r b e)
subscribes_by r b true true s e = on_newer r b (newer_of b) s ((shaken_meant r b).0 e) refl

pub owes : (r : Role) (b : List ℕ) → Owes r b (owed_octets r b)
owes r b = record {
  subscription = subscription_to r b;
  messages = messages_in r b;
  contexts = contexts_in r b;
  answer = answer_to r b;
  subscribes = subscribes_by r b (is_sub r) (is_shaken r b) refl refl;
  gives = meant r b;
  all = refl;
}

no_subscription : (sub over : Bool) (s : List ℕ) → over ≡ false → [] ≡ cond (sub && over) s []
no_subscription true over s e = ap (λ x. cond x s []) (sym e)
no_subscription false over s e = refl

not_shaken_says : (r : Role) (b : List ℕ) (over : Bool) → is_shaken r b ≡ over → (IsShaken r b → ⊥) → over ≡ false
not_shaken_says r b true e h = absurd (h ((shaken_meant r b).0 e))
not_shaken_says r b false e h = refl

pub subscribes_one : (r : Role) (b s : List ℕ) → Subscribes r b s → s ≡ subscription_to r b
subscribes_one r b _ (no_sub f) = ap (λ x. cond (x && is_shaken r b) (subscription_for (newer_of b)) []) (sym f)
subscribes_one r b _ (not_yet h) = no_subscription (is_sub r) (is_shaken r b) _ (not_shaken_says r b (is_shaken r b) refl h)
subscribes_one r b _ (everything newer f i e) =
    ap subscription_for (sym e) ∙ ap (λ x. cond (x && true) (subscription_for (newer_of b)) []) (sym f)
    ∙ ap (λ x. cond (is_sub r && x) (subscription_for (newer_of b)) []) (sym ((shaken_meant r b).1 i))

pub owes_only : (r : Role) (b octets : List ℕ) → Owes r b octets → octets ≡ owed_octets r b
owes_only r b octets o =
    o.all ∙ ap (λ x. x ++ pongs o.contexts) (subscribes_one r b o.subscription o.subscribes)
    ∙ ap (λ x. subscription_to r b ++ pongs x) (meant_alone r b o.messages o.contexts o.answer o.gives).1

-- ---- with more octets

newer_stays : (r : Role) (b more : List ℕ) (o : Option Bool) → IsShaken r b → newer_of b ≡ o → newer_of (b ++ more) ≡ o
newer_stays r b more None i e = absurd (shaken_newer r b i e)
newer_stays r b more (Some newer) i e = newer_grows b more newer e

subscription_stays : (r : Role) (b more : List ℕ) → is_shaken r b ≡ true → subscription_to r (b ++ more) ≡ subscription_to r b
subscription_stays r b more h =
    let i = (shaken_meant r b).0 h in
    ap (λ x. cond (is_sub r && x) (subscription_for (newer_of (b ++ more))) []) (shaken_grows r b more h ∙ sym h)
    ∙ ap (λ x. cond (is_sub r && is_shaken r b) (subscription_for x) []) (newer_stays r b more (newer_of b) i refl)

nothing_yet : (r : Role) (b : List ℕ) → is_shaken r b ≡ false → owed_octets r b ≡ []
nothing_yet r b h =
    let none = none_before b r (messages_in r b) (contexts_in r b) (answer_to r b) (meant r b) (not_shaken_is r b h) in
    ap (λ x. x ++ pongs (contexts_in r b)) (sym (no_subscription (is_sub r) (is_shaken r b) (subscription_for (newer_of b)) h)) ∙ ap pongs none.1

grows_by : (r : Role) (b more : List ℕ) (over : Bool) → is_shaken r b ≡ over → Begins (owed_octets r b) (owed_octets r (b ++ more))
grows_by r b more false h = record { rest = owed_octets r (b ++ more); joined = ap (λ x. x ++ owed_octets r (b ++ more)) (sym (nothing_yet r b h)) }
grows_by r b more true h =
    let k = contexts_grow r b more in
    record {
      rest = pongs k.rest;
      joined =
          ap (λ x. x ++ pongs (contexts_in r (b ++ more))) (subscription_stays r b more h)
          ∙ ap (λ x. subscription_to r b ++ x) (ap pongs k.joined ∙ pongs-append (contexts_in r b) k.rest)
          ∙ sym (append_assoc (subscription_to r b) (pongs (contexts_in r b)) (pongs k.rest));
    }

pub owed_grows : (r : Role) (b more : List ℕ) → Begins (owed_octets r b) (owed_octets r (b ++ more))
owed_grows r b more = grows_by r b more (is_shaken r b) refl

pub owed_none : (r : Role) → owed_octets r [] ≡ []
owed_none r = nothing_yet r [] (wire.shaken_none r)
