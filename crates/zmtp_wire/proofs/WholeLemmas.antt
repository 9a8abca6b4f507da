-- What the plain reader finds is the stream of the grammar.
use Rattle.std.proofs.Common.{◌≡◌, ℕ, ◌<◌, ◌+◌, ◌-◌, Bool, true, false, Option, None, Some, IfNone, IfSome, List}
use Rattle.std.proofs.Common.{[], ◌∷◌, ◌++◌, length, refl, ap, sym, ◌∙◌, arith, length-append, append_assoc, subst}
use Rattle.std.proofs.Common.{IsTrue, ◌↔◌}
use Rattle.std.proofs.lemmas.Option.{MatchOption-at_some}
use Rattle.zmtp_wire.specs.declared.role.Role.{Role}
use Rattle.zmtp_wire.specs.declared.fault.WireFault.{WireFault}
use Rattle.zmtp_wire.specs.Fault.{clip, fault_at}
use Rattle.zmtp_wire.specs.Front.{Takes, Fails}
use Rattle.zmtp_wire.specs.Greeting.{speaks}
use Rattle.zmtp_wire.specs.Stream.{Message, Item, Come, nothing, greeted, shaken, Completes, greeting, Reads, start}
use Rattle.zmtp_wire.specs.Stream.{more, IsPart, Stream, BreaksAs, Scans, IsShaken, open_after, messages_of}
use Rattle.zmtp_wire.specs.Stream.{messages_come, contexts_come}
use Rattle.zmtp_wire.proofs.OutcomeLemmas.{stream_reads}
use Rattle.zmtp_wire.proofs.ShakenLemmas.{shaken_both, past_in}
use Rattle.zmtp_wire.proofs.StepLemmas.{state_of, is_past}
use Rattle.zmtp_wire.proofs.StreamLemmas.{not_empty}
use Rattle.zmtp_wire.proofs.TurnLemmas.{open-snoc, messages-snoc}

-- things that have come whole stand in front of b, and `rest` follows them
pub record Comes (role : Role) (b : List ℕ) (come : Come) (rest : List ℕ) : Type 0 where
  pub front : List ℕ
  pub spelled : b ≡ front ++ rest
  pub reads : Reads role front come

pub comes_none : (role : Role) (b : List ℕ) → Comes role b nothing b
comes_none role b = record { front = []; spelled = refl; reads = start }

pub comes_more : (role : Role) (b : List ℕ) (come next : Come) (rest after : List ℕ) → Comes role b come rest
    → Takes role come next rest after → Comes role b next after
comes_more role b come next rest after k t =
    record {
      front = k.front ++ t.front;
      spelled = k.spelled ∙ ap (λ x. k.front ++ x) t.spelled ∙ sym (append_assoc k.front t.front after);
      reads = more k.front t.front come next k.reads t.completes t.passes;
    }

-- where a part of what comes next follows, b is a stream
pub comes_stream : (role : Role) (b : List ℕ) (come : Come) (rest : List ℕ) → Comes role b come rest
    → IsPart role come rest → Stream b role (messages_come role come) (contexts_come come) rest
comes_stream role b come rest k p = record {
  come = come;
  splits = record
      { front = k.front; spelled = k.spelled; reads = k.reads; part = p };
  messages = refl;
  contexts = refl;
}

pub comes_scan : (role : Role) (b : List ℕ) (come : Come) (rest : List ℕ) (ms : List Message) (n : ℕ)
    → Comes role b come rest → IsPart role come rest → ms ≡ messages_come role come → n ≡ length rest
    → Scans b role ms n
comes_scan role b come rest ms n k p m l = (
  contexts_come come,
  rest,
  subst (λ (x : List Message). Stream b role x (contexts_come come) rest) (sym m)
      (comes_stream role b come rest k p),
  l,
)

-- and whether READY was among what has come is whether b begins so
pub comes_shaken : (role : Role) (b : List ℕ) (come : Come) (rest : List ℕ) (r : Bool) → Comes role b come rest
    → IsPart role come rest → r ≡ is_past come → IsTrue r ↔ IsShaken role b
unfolding comes_stream
comes_shaken role b come rest r k p e =
    let s = stream_reads b role (messages_come role come) (contexts_come come) rest
    (comes_stream role b come rest k p) in
    shaken_both role b (state_of come rest) r (sym s.0) (e ∙ sym (past_in come rest))

-- where a test fails at what follows, b is broken
pub comes_broken : (role : Role) (b : List ℕ) (come : Come) (rest : List ℕ) (at : ℕ) (e : WireFault)
    → (k : Comes role b come rest) → at ≡ length k.front → Fails role come at rest e → BreaksAs b role e
comes_broken role b come rest at e k l f =
    let place : length (k.front ++ f.part) ≡ length k.front + length f.part = length-append k.front f.part in (
      length k.front + length f.part,
      messages_come role come,
      contexts_come come,
      record {
        come = come;
        before = k.front ++ f.part;
        rest = f.part;
        octet = f.octet;
        after = f.after;
        broken = f.broken;
        spelled = k.spelled ∙ ap (λ x. k.front ++ x) f.spelled
            ∙ sym (append_assoc k.front f.part (f.octet ∷ f.after));
        place = place;
        splits = record { front = k.front; spelled = refl; reads = k.reads; part = f.is_part };
        wrong = f.wrong;
        fault = f.fault ∙ ap (λ n. fault_at (clip (n + length f.part)) f.broken) l;
        messages = refl;
        contexts = refl;
      },
    )

-- ---- the units

-- the handshake and units have come: the messages that they gave, the frames that stand open, and what follows
pub record HasUnits (role : Role) (b : List ℕ) (newer : Bool) (frames : List (List ℕ)) (ms : List Message)
    (rest : List ℕ) : Type 0 where
  pub greeting : List ℕ
  pub items : List Item
  pub comes : Comes role b (shaken greeting items) rest
  pub speaks_newer : newer ≡ speaks greeting
  pub stand : open_after [] items ≡ frames
  pub gave : ms ≡ messages_of role newer [] items

pub units_first : (role : Role) (b first units : List ℕ) (newer : Bool) (frames : List (List ℕ))
    (ms : List Message) → ((g : List ℕ) × Takes role nothing (greeted g) b first × (newer ≡ speaks g))
    → ((g : List ℕ) → Takes role (greeted g) (shaken g []) first units) → frames ≡ [] → ms ≡ []
    → HasUnits role b newer frames ms units
units_first role b first units newer frames ms t r f m =
    record {
      greeting = t.0;
      items = [];
      comes = comes_more role b (greeted t.0) (shaken t.0 []) first units
          (comes_more role b nothing (greeted t.0) b first (comes_none role b) t.1) (r t.0);
      speaks_newer = t.2;
      stand = sym f;
      gave = m;
    }

pub units_next : (role : Role) (b : List ℕ) (newer : Bool) (frames frames' : List (List ℕ)) (ms ms' : List Message)
    (rest after : List ℕ) (i : Item) → HasUnits role b newer frames ms rest
    → ((g : List ℕ) (items : List Item) → open_after [] items ≡ frames
    → Takes role (shaken g items) (shaken g (items ++ i ∷ [])) rest after)
    → frames' ≡ open_after frames (i ∷ []) → ms' ≡ ms ++ messages_of role newer frames (i ∷ [])
    → HasUnits role b newer frames' ms' after
units_next role b newer frames frames' ms ms' rest after i k t f m =
    record {
      greeting = k.greeting;
      items = k.items ++ i ∷ [];
      comes = comes_more role b (shaken k.greeting k.items)
          (shaken k.greeting (k.items ++ i ∷ [])) rest after k.comes (t k.greeting k.items k.stand);
      speaks_newer = k.speaks_newer;
      stand = open-snoc [] k.items i ∙ ap (λ x. open_after x (i ∷ [])) k.stand ∙ sym f;
      gave = m ∙ ap (λ x. x ++ messages_of role newer frames (i ∷ [])) k.gave
          ∙ ap (λ x. messages_of role newer [] k.items ++ messages_of role newer x (i ∷ [])) (sym k.stand)
          ∙ sym (messages-snoc role newer [] k.items i);
    }

takes_some : (role : Role) (come next : Come) (front after : List ℕ) → Completes come front next
    → length after < length (front ++ after)
takes_some role come next [] after c = absurd (not_empty come next c)
takes_some role come next (x ∷ front) after c = omega (arith, length-append front after)

-- what follows a unit is shorter
pub takes_less : (role : Role) (come next : Come) (b after : List ℕ) → Takes role come next b after
    → length after < length b
takes_less role come next b after t = subst (λ (x : List ℕ). length after < length x) (sym t.spelled)
    (takes_some role come next t.front after t.completes)

-- ---- what the reader answers

pub none_given : {A : Type 0} (o : Option A) (P : Type 0) → o ≡ None → IfNone o P → P
none_given None P e h = h
none_given (Some x) P e h = absurd (cc)

pub some_given : {A : Type 0} (o : Option A) (P : A → Type 0) (x : A) → o ≡ Some x → IfSome o P → P x
some_given o P x e h = MatchOption-at_some _ P x e h

greeting_len : (p g : List ℕ) → Completes nothing p (greeted g) → length p ≡ 64
greeting_len _ _ (greeting g h) = h

-- a greeting was read, and tells whether its sender speaks 3.1
abbrev pub HasGreeting : Role → List ℕ → List ℕ → Bool → Type 0
HasGreeting role b first newer = (g : List ℕ) × Takes role nothing (greeted g) b first × (newer ≡ speaks g)

pub greeting_broken : (role : Role) (b : List ℕ) (e : WireFault) → Fails role nothing 0 b e → BreaksAs b role e
unfolding comes_none
greeting_broken role b e f = comes_broken role b nothing b 0 e (comes_none role b) refl f

comes_greeting : (role : Role) (b first g : List ℕ) → Takes role nothing (greeted g) b first
    → Comes role b (greeted g) first
comes_greeting role b first g t = comes_more role b nothing (greeted g) b first (comes_none role b) t

pub ready_broken : (role : Role) (b first : List ℕ) (newer : Bool) (e : WireFault) → HasGreeting role b first newer
    → ((g : List ℕ) → Fails role (greeted g) 64 first e) → BreaksAs b role e
unfolding comes_greeting comes_more comes_none
ready_broken role b first newer e t f = comes_broken role b (greeted t.0) first 64 e
    (comes_greeting role b first t.0 t.1) (sym (greeting_len t.1.front t.0 t.1.completes)) (f t.0)

pub ready_scan : (role : Role) (b first : List ℕ) (newer : Bool) (ms : List Message) → HasGreeting role b first newer
    → ((g : List ℕ) → IsPart role (greeted g) first) → ms ≡ [] → Scans b role ms (length first)
ready_scan role b first newer ms t p m = comes_scan role b (greeted t.0) first ms (length first)
    (comes_greeting role b first t.0 t.1) (p t.0) m refl

pub ready_shaken : (role : Role) (b first : List ℕ) (newer : Bool) → HasGreeting role b first newer
    → ((g : List ℕ) → IsPart role (greeted g) first) → IsTrue false ↔ IsShaken role b
ready_shaken role b first newer t p = comes_shaken role b (greeted t.0) first false
    (comes_greeting role b first t.0 t.1) (p t.0) refl

-- after units a part follows
abbrev pub PartAfter : Role → List (List ℕ) → List ℕ → Type 0
PartAfter role frames rest = (g : List ℕ) (items : List Item) → open_after [] items ≡ frames
    → IsPart role (shaken g items) rest

pub units_scan : (role : Role) (b : List ℕ) (newer : Bool) (frames : List (List ℕ)) (ms : List Message)
    (rest : List ℕ) → HasUnits role b newer frames ms rest → PartAfter role frames rest → Scans b role ms (length rest)
units_scan role b newer frames ms rest k p =
    comes_scan role b (shaken k.greeting k.items) rest ms (length rest) k.comes (p k.greeting k.items k.stand)
    (k.gave ∙ ap (λ n. messages_of role n [] k.items) k.speaks_newer) refl

pub units_shaken : (role : Role) (b : List ℕ) (newer : Bool) (frames : List (List ℕ)) (ms : List Message)
    (rest : List ℕ) → HasUnits role b newer frames ms rest → PartAfter role frames rest → IsTrue true ↔ IsShaken role b
units_shaken role b newer frames ms rest k p = comes_shaken role b (shaken k.greeting k.items) rest true k.comes
    (p k.greeting k.items k.stand) refl

pub units_broken : (role : Role) (b : List ℕ) (newer : Bool) (frames : List (List ℕ)) (ms : List Message)
    (rest : List ℕ) (at : ℕ) (e : WireFault) → HasUnits role b newer frames ms rest → at ≡ length b - length rest
    → ((g : List ℕ) (items : List Item) → open_after [] items ≡ frames → Fails role (shaken g items) at rest e)
    → BreaksAs b role e
units_broken role b newer frames ms rest at e k l f =
    let all = ap length k.comes.spelled in
    let place : at ≡ length k.comes.front = omega (arith, length-append k.comes.front rest) in
    comes_broken role b (shaken k.greeting k.items) rest at e k.comes place (f k.greeting k.items k.stand)

pub units_less : (role : Role) (b : List ℕ) (newer : Bool) (frames : List (List ℕ)) (ms : List Message)
    (rest after : List ℕ) (i : Item) → HasUnits role b newer frames ms rest
    → ((g : List ℕ) (items : List Item) → open_after [] items ≡ frames
    → Takes role (shaken g items) (shaken g (items ++ i ∷ [])) rest after) → length after < length rest
units_less role b newer frames ms rest after i k t = takes_less role (shaken k.greeting k.items)
    (shaken k.greeting (k.items ++ i ∷ [])) rest after (t k.greeting k.items k.stand)
