-- The functions of Meaning, each beside its relation.
use Rattle.std.proofs.Common.{◌≡◌, ℕ, ◌-◌, ◌≤◌, ◌<◌, Bool, true, false, cond, nat_lt, List, [], ◌∷◌, ◌++◌, length, drop, get_or}
use Rattle.std.proofs.Common.{Option, None, Some, Ok, Err, refl, ap, sym, ◌∙◌, arith, length-append, append_assoc, append-nil, subst, ◌⊎◌, inl, inr, ◌↔◌}
use Rattle.std.proofs.lemmas.List.{get_or_append_left}
use Rattle.std.proofs.lemmas.Bool.{cond-false, le-ltb, ltb-false}
use Rattle.std.proofs.Math.Seq.{drop-append_seam}
use Rattle.zmtp_wire.specs.declared.role.Role.{Role}
use Rattle.zmtp_wire.specs.declared.fault.WireFault.{WireFault}
use Rattle.zmtp_wire.specs.declared.fault.WireFault.TheVariants as fault
use Rattle.zmtp_wire.specs.declared.cause.Cause.{Cause}
use Rattle.zmtp_wire.specs.declared.cause.Cause.TheVariants as cause
use Rattle.zmtp_wire.specs.declared.decoder.Decoder.{Decoder}
use Rattle.zmtp_wire.specs.Fault.{clip, fault_at, place_of}
use Rattle.zmtp_wire.specs.Greeting.{is_newer, speaks, newer_of}
use Rattle.zmtp_wire.specs.Stream.{Message, Context, Stream, Broken, IsShaken, Gives, stream, broken}
use Rattle.zmtp_wire.specs.Machine.{Took, run, reading, ticks}
use Rattle.zmtp_wire.specs.Decoder.{Answer, StandsFor, Brings, answer_in, answer_of, rest_len}
use Rattle.zmtp_wire.specs.Meaning.{messages_in, contexts_in, answer_to, is_shaken, rest_in, Place, fault_or, fault_after, fault_in, Begins, Adds}
use Rattle.zmtp_wire.proofs.FeedLemmas.{reading-append, run-refused}
use Rattle.zmtp_wire.proofs.OutcomeLemmas.{reads, breaks, outcome, stream_reads, state_len}
use Rattle.zmtp_wire.proofs.GivesLemmas.{gives_reading, gives_one}
use Rattle.zmtp_wire.proofs.ShakenLemmas.{shows_shaken, shaken_shows, shaken_longer}

-- ---- what octets give

pub meant : (r : Role) (b : List ℕ) → Gives r b (messages_in r b) (contexts_in r b) (answer_to r b)
unfolding messages_in contexts_in answer_to
meant r b = gives_reading r b

pub meant_alone : (r : Role) (b : List ℕ) (ms : List Message) (owed : List Context) (a : Answer) → Gives r b ms owed a
    → (ms ≡ messages_in r b) × (owed ≡ contexts_in r b) × (a ≡ answer_to r b)
meant_alone r b ms owed a g = gives_one b r ms (messages_in r b) owed (contexts_in r b) a (answer_to r b) g (meant r b)

pub shaken_meant : (r : Role) (b : List ℕ) → is_shaken r b ≡ true ↔ IsShaken r b
unfolding is_shaken
shaken_meant r b = (shows_shaken r b, shaken_shows r b)

-- ---- more octets

pub messages_grow : (r : Role) (b more : List ℕ) → Begins (messages_in r b) (messages_in r (b ++ more))
unfolding messages_in
messages_grow r b more =
    record {
      rest = (run r (ticks 0 (length b)) (reading r b).state more).messages;
      joined = ap (λ (t : Took). t.messages) (reading-append r b more);
    }

pub contexts_grow : (r : Role) (b more : List ℕ) → Begins (contexts_in r b) (contexts_in r (b ++ more))
unfolding contexts_in
contexts_grow r b more =
    record {
      rest = (run r (ticks 0 (length b)) (reading r b).state more).owed;
      joined = ap (λ (t : Took). t.owed) (reading-append r b more);
    }

pub shaken_grows : (r : Role) (b more : List ℕ) → is_shaken r b ≡ true → is_shaken r (b ++ more) ≡ true
shaken_grows r b more h = (shaken_meant r (b ++ more)).1 (shaken_longer r b more ((shaken_meant r b).0 h))

pub broken_grows : (r : Role) (b more : List ℕ) (e : WireFault) (at : ℕ) (ms : List Message) (owed : List Context) → Broken b r e at ms owed → Broken (b ++ more) r e at ms owed
broken_grows r b more e at ms owed k =
    record {
      come = k.come;
      before = k.before;
      rest = k.rest;
      octet = k.octet;
      after = k.after ++ more;
      broken = k.broken;
      spelled = ap (λ t. t ++ more) k.spelled ∙ append_assoc k.before (k.octet ∷ k.after) more;
      place = k.place;
      splits = k.splits;
      wrong = k.wrong;
      fault = k.fault;
      messages = k.messages;
      contexts = k.contexts;
    }

-- up to the octet that breaks it
broken_there : (r : Role) (b : List ℕ) (e : WireFault) (at : ℕ) (ms : List Message) (owed : List Context) → (k : Broken b r e at ms owed) → Broken (k.before ++ k.octet ∷ []) r e at ms owed
broken_there r b e at ms owed k =
    record {
      come = k.come;
      before = k.before;
      rest = k.rest;
      octet = k.octet;
      after = [];
      broken = k.broken;
      spelled = refl;
      place = k.place;
      splits = k.splits;
      wrong = k.wrong;
      fault = k.fault;
      messages = k.messages;
      contexts = k.contexts;
    }

-- ---- the version of what grows

version_kept : (b more : List ℕ) (i : ℕ) → i < length b → get_or (b ++ more) i 0 ≡ get_or b i 0
version_kept b more i h = get_or_append_left b more 0 i h

speaks_kept : (b more : List ℕ) → 12 ≤ length b → speaks (b ++ more) ≡ speaks b
speaks_kept b more h = ap (λ x. is_newer x (get_or (b ++ more) 11 0)) (version_kept b more 10 (omega arith)) ∙ ap (is_newer (get_or b 10 0)) (version_kept b more 11 (omega arith))

newer_on : (short : Bool) (b : List ℕ) (newer : Bool) → nat_lt (length b) 12 ≡ short → cond short None (Some (speaks b)) ≡ Some newer → (12 ≤ length b) × (speaks b ≡ newer)
newer_on true b newer e h = absurd (cc)
newer_on false b newer e h = (ltb-false (length b) 12 e, cc)

pub newer_grows : (b more : List ℕ) (newer : Bool) → newer_of b ≡ Some newer → newer_of (b ++ more) ≡ Some newer
newer_grows b more newer h =
    let k = newer_on (nat_lt (length b) 12) b newer refl h in
    let long : 12 ≤ length (b ++ more) = omega (arith, k.0, length-append b more) in
    cond-false _ _ _ (le-ltb (length (b ++ more)) 12 long) ∙ ap Some (speaks_kept b more k.0 ∙ k.1)

-- ---- the first fault

refused_stays : (r : Role) (b more : List ℕ) (e : WireFault) → answer_to r b ≡ Err e → answer_to r (b ++ more) ≡ Err e
unfolding answer_to
refused_stays r b more e h =
    let none = run-refused r (ticks 0 (length b)) (reading r b).state e more h in
    ap (λ (t : Took). answer_in t.state) (reading-append r b more) ∙ ap (λ (t : Took). answer_in t.state) none ∙ h

answer_cases : (a : Answer) → (a ≡ Ok tt) ⊎ ((e : WireFault) × (a ≡ Err e))
answer_cases (Ok u) = inl refl
answer_cases (Err e) = inr (e, refl)

sound_front : (r : Role) (b more : List ℕ) → answer_to r (b ++ more) ≡ Ok tt → answer_to r b ≡ Ok tt
sound_front r b more h =
    elim (answer_cases (answer_to r b)) [
      | inl e ↦ e
      | inr k ↦ let bad : Err k.0 ≡ Ok tt = sym (refused_stays r b more k.0 k.1) ∙ h in absurd (cc)
    ]

-- in a stream there is none
none_after : (r : Role) (front b : List ℕ) → answer_to r (front ++ b) ≡ Ok tt → fault_after r front b ≡ None
none_after r front [] h = refl
none_after r front (x ∷ b) h =
    let on : answer_to r ((front ++ x ∷ []) ++ b) ≡ Ok tt = ap (answer_to r) (append_assoc front (x ∷ []) b) ∙ h in
    let here = sound_front r (front ++ x ∷ []) b on in
    ap (λ a. fault_or a (length front) (fault_after r (front ++ x ∷ []) b)) here ∙ none_after r (front ++ x ∷ []) b on

-- where octets are refused at one more, that is the first
first_after : (r : Role) (front rest after all : List ℕ) (x : ℕ) (e : WireFault) → all ≡ front ++ rest → answer_to r all ≡ Ok tt → answer_to r (all ++ x ∷ []) ≡ Err e
    → fault_after r front (rest ++ x ∷ after) ≡ Some (e, length all)
first_after r front [] after all x e is ok bad =
    let same : all ≡ front = is ∙ append-nil front in
    let here : answer_to r (front ++ x ∷ []) ≡ Err e = ap (λ w. answer_to r (w ++ x ∷ [])) (sym same) ∙ bad in
    ap (λ a. fault_or a (length front) (fault_after r (front ++ x ∷ []) after)) here ∙ ap (λ w. Some (e, length w)) (sym same)
first_after r front (y ∷ rest) after all x e is ok bad =
    let on : all ≡ (front ++ y ∷ []) ++ rest = is ∙ sym (append_assoc front (y ∷ []) rest) in
    let here = sound_front r (front ++ y ∷ []) rest (ap (answer_to r) (sym on) ∙ ok) in
    ap (λ a. fault_or a (length front) (fault_after r (front ++ y ∷ []) (rest ++ x ∷ after))) here
    ∙ first_after r (front ++ y ∷ []) rest after all x e on ok bad

answer_of_stream : (r : Role) (b : List ℕ) (ms : List Message) (owed : List Context) (rest : List ℕ) → Stream b r ms owed rest → answer_to r b ≡ Ok tt
answer_of_stream r b ms owed rest s = sym (meant_alone r b ms owed (Ok tt) (stream ms owed rest s)).2

answer_of_broken : (r : Role) (b : List ℕ) (e : WireFault) (at : ℕ) (ms : List Message) (owed : List Context) → Broken b r e at ms owed → answer_to r b ≡ Err e
answer_of_broken r b e at ms owed k = sym (meant_alone r b ms owed (Err e) (broken e at ms owed k)).2

no_fault : (r : Role) (b : List ℕ) (ms : List Message) (owed : List Context) (rest : List ℕ) → Stream b r ms owed rest → fault_in r b ≡ None
unfolding fault_in
no_fault r b ms owed rest s = none_after r [] b (answer_of_stream r b ms owed rest s)

pub the_fault : (r : Role) (b : List ℕ) (e : WireFault) (at : ℕ) (ms : List Message) (owed : List Context) → Broken b r e at ms owed → fault_in r b ≡ Some (e, at)
unfolding fault_in
the_fault r b e at ms owed k =
    let whole : Stream k.before r _ _ k.rest = record { come = k.come; splits = k.splits; messages = refl; contexts = refl } in
    ap (fault_after r []) k.spelled
    ∙ first_after r [] k.before k.after k.before k.octet e refl (answer_of_stream r k.before _ _ k.rest whole) (answer_of_broken r _ e at ms owed (broken_there r b e at ms owed k))
    ∙ ap (λ n. Some (e, n)) k.place

rest_of : (r : Role) (b : List ℕ) (ms : List Message) (owed : List Context) (rest : List ℕ) → Stream b r ms owed rest → rest ≡ rest_in r b
unfolding rest_in
rest_of r b ms owed rest s =
    let k = stream_reads b r ms owed rest s in
    let n : rest_len (reading r b).state ≡ length rest = ap rest_len k.0 ∙ state_len s.come rest in
    let front = s.splits.front in
    let m : length b - rest_len (reading r b).state ≡ length front = omega (arith, n, ap length s.splits.spelled, length-append front rest) in
    sym (ap (λ i. drop i b) m ∙ ap (drop (length front)) s.splits.spelled ∙ drop-append_seam front rest)

pub only_stream : (r : Role) (b : List ℕ) (ms : List Message) (owed : List Context) (rest : List ℕ) → Stream b r ms owed rest → (fault_in r b ≡ None) × (rest ≡ rest_in r b)
only_stream r b ms owed rest s = (no_fault r b ms owed rest s, rest_of r b ms owed rest s)

some_none : (p : Place) → Some p ≡ None → ⊥
some_none p h = absurd (cc)

pub is_stream : (r : Role) (b : List ℕ) → fault_in r b ≡ None → Stream b r (messages_in r b) (contexts_in r b) (rest_in r b)
is_stream r b h =
    elim (outcome r b) [
      | reads ms owed rest s ↦
          let k = meant_alone r b ms owed (Ok tt) (stream ms owed rest s) in
          let a = subst (λ (x : List Message). Stream b r x owed rest) k.0 s in
          let c = subst (λ (x : List Context). Stream b r (messages_in r b) x rest) k.1 a in
          subst (λ (x : List ℕ). Stream b r (messages_in r b) (contexts_in r b) x) (rest_of r b ms owed rest s) c
      | breaks e at ms owed k ↦ absurd (some_none (e, at) (sym (the_fault r b e at ms owed k) ∙ h))
    ]

abbrev fault_part : Option Place → WireFault
fault_part None = fault.NoMemory
fault_part (Some p) = p.0

abbrev place_part : Option Place → ℕ
place_part None = 0
place_part (Some p) = p.1

same_fault : (e e' : WireFault) (at at' : ℕ) (o : Option Place) → o ≡ Some (e', at') → o ≡ Some (e, at) → (e' ≡ e) × (at' ≡ at)
same_fault e e' at at' o h k = (ap fault_part (sym h ∙ k), ap place_part (sym h ∙ k))

pub is_broken : (r : Role) (b : List ℕ) (e : WireFault) (at : ℕ) → fault_in r b ≡ Some (e, at) → Broken b r e at (messages_in r b) (contexts_in r b)
is_broken r b e at h =
    elim (outcome r b) [
      | reads ms owed rest s ↦ absurd (some_none (e, at) (sym h ∙ no_fault r b ms owed rest s))
      | breaks e' at' ms owed k ↦
          let same = same_fault e e' at at' (fault_in r b) (the_fault r b e' at' ms owed k) h in
          let m = meant_alone r b ms owed (Err e') (broken e' at' ms owed k) in
          let a = subst (λ (x : List Message). Broken b r e' at' x owed) m.0 k in
          let c = subst (λ (x : List Context). Broken b r e' at' (messages_in r b) x) m.1 a in
          let d = subst (λ (x : WireFault). Broken b r x at' (messages_in r b) (contexts_in r b)) same.0 c in
          subst (λ (x : ℕ). Broken b r e x (messages_in r b) (contexts_in r b)) same.1 d
    ]

pub fault_grows : (r : Role) (b more : List ℕ) (e : WireFault) (at : ℕ) → fault_in r b ≡ Some (e, at) → fault_in r (b ++ more) ≡ Some (e, at)
fault_grows r b more e at h = the_fault r (b ++ more) e at _ _ (broken_grows r b more e at _ _ (is_broken r b e at h))

-- ---- no octets

pub messages_none : (r : Role) → messages_in r [] ≡ []
unfolding messages_in run
messages_none r = refl

pub contexts_none : (r : Role) → contexts_in r [] ≡ []
unfolding contexts_in run
contexts_none r = refl

pub shaken_none : (r : Role) → is_shaken r [] ≡ false
unfolding is_shaken run
shaken_none r = refl

pub fault_none : (r : Role) → fault_in r [] ≡ None
unfolding fault_in
fault_none r = refl

-- ---- the place of a fault

place_at : (at : ℕ) (c : Cause) → place_of (fault_at at c) ≡ at
place_at at cause.Signature = refl
place_at at cause.Version = refl
place_at at cause.Mechanism = refl
place_at at cause.Flags = refl
place_at at (cause.TooLong size) = refl
place_at at cause.TooMany = refl
place_at at cause.Command = refl
place_at at cause.PeerError = refl
place_at at cause.WrongPeer = refl

not_starved : (at : ℕ) (c : Cause) → fault_at at c ≡ fault.NoMemory → ⊥
not_starved at cause.Signature h = absurd (cc)
not_starved at cause.Version h = absurd (cc)
not_starved at cause.Mechanism h = absurd (cc)
not_starved at cause.Flags h = absurd (cc)
not_starved at (cause.TooLong size) h = absurd (cc)
not_starved at cause.TooMany h = absurd (cc)
not_starved at cause.Command h = absurd (cc)
not_starved at cause.PeerError h = absurd (cc)
not_starved at cause.WrongPeer h = absurd (cc)

pub fault_placed : (b : List ℕ) (r : Role) (e : WireFault) (at : ℕ) (ms : List Message) (owed : List Context) → Broken b r e at ms owed → place_of e ≡ clip at
fault_placed b r e at ms owed k = ap place_of k.fault ∙ place_at (clip at) k.broken

pub fault_caused : (b : List ℕ) (r : Role) (e : WireFault) (at : ℕ) (ms : List Message) (owed : List Context) → Broken b r e at ms owed → e ≡ fault.NoMemory → ⊥
fault_caused b r e at ms owed k h = not_starved (clip at) k.broken (sym k.fault ∙ h)

pub fault_within : (b : List ℕ) (r : Role) (e : WireFault) (at : ℕ) (ms : List Message) (owed : List Context) → Broken b r e at ms owed → at < length b
fault_within b r e at ms owed k = omega (arith, k.place, ap length k.spelled, length-append k.before (k.octet ∷ k.after))

-- ---- the decoder

pub decoder_answer : (d : Decoder) (b : List ℕ) (given : List Context) → StandsFor d b given → answer_of d ≡ answer_to d.role b
unfolding answer_to
decoder_answer d b given s = ap answer_in s.reads

pub brought : (r : Role) (b piece : List ℕ) (old new : List Message) (answer : Answer) → Brings r b piece old new answer → Adds r b piece old new answer
brought r b piece old new answer w =
    let was = meant_alone r b w.before w.owed w.answer_before w.gave in
    let now = meant_alone r (b ++ piece) (w.before ++ w.more) w.owed_now answer w.gives in
    record { more = w.more; grown = w.grown; messages = sym now.0 ∙ ap (λ x. x ++ w.more) was.0; answers = now.2 }

answer_unstarved : (r : Role) (b : List ℕ) → answer_to r b ≡ Err fault.NoMemory → ⊥
answer_unstarved r b h =
    elim (outcome r b) [
      | reads ms owed rest s ↦ let bad : Ok tt ≡ Err fault.NoMemory = sym (answer_of_stream r b ms owed rest s) ∙ h in absurd (cc)
      | breaks e at ms owed k ↦
          let same : Err e ≡ Err fault.NoMemory = sym (answer_of_broken r b e at ms owed k) ∙ h in
          let one : e ≡ fault.NoMemory = cc in
          fault_caused b r e at ms owed k one
    ]

-- a decoder that wants memory stands for no octets
pub stands_unstarved : (d : Decoder) (b : List ℕ) (given : List Context) → StandsFor d b given → answer_of d ≡ Err fault.NoMemory → ⊥
stands_unstarved d b given s h = answer_unstarved d.role b (sym (decoder_answer d b given s) ∙ h)

pub contexts_given : (d : Decoder) (b : List ℕ) (given result : List Context) → result ≡ d.owed → StandsFor d b given → given ++ result ≡ contexts_in d.role b
unfolding contexts_in
contexts_given d b given result e s = ap (λ o. given ++ o) e ∙ s.contexts
