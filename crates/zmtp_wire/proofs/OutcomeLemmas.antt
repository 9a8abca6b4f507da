-- Each list of octets is a stream or broken, and in one way.
use Rattle.std.proofs.Common.{◌≡◌, ℕ, zero, suc, ◌<◌, Bool, true, false, nat_lt, List, [], ◌∷◌, ◌++◌, length, take, refl, ap, sym, ◌∙◌, arith, length-append, append_assoc, append-nil, ◌⊎◌, inl, inr, subst, replicate}
use Rattle.std.proofs.lemmas.Bool.{cond-false, cond-true, ltb-false}
use Rattle.std.proofs.lemmas.List.{length-drop}
use Rattle.zmtp_wire.specs.declared.role.Role.{Role}
use Rattle.zmtp_wire.specs.declared.fault.WireFault.{WireFault}
use Rattle.zmtp_wire.specs.declared.cause.Cause.{Cause}
use Rattle.zmtp_wire.specs.declared.state.State.{State}
use Rattle.zmtp_wire.specs.declared.state.State.TheVariants.{Failed}
use Rattle.zmtp_wire.specs.Decoder.{open_len, rest_len}
use Rattle.zmtp_wire.specs.Fault.{clip, fault_at}
use Rattle.zmtp_wire.specs.Frame.{size_len}
use Rattle.zmtp_wire.specs.Machine.{before, ticks, tick, run, reading, Took, quiet, step}
use Rattle.zmtp_wire.specs.Stream.{frame, Come, nothing, greeted, shaken, greeting, ready, unit, messages_come, contexts_come, Wrong, IsPart, Passes, start, more, Splits, Stream, Broken}
use Rattle.zmtp_wire.specs.Stream as W
use Rattle.zmtp_wire.proofs.StepLemmas.{unit_at, state_of, is_past}
use Rattle.zmtp_wire.proofs.TurnLemmas.{wrong, whole, part, turn}
use Rattle.zmtp_wire.proofs.WrongLemmas.{stops, no_snoc}
use Rattle.zmtp_wire.proofs.FeedLemmas.{reading-append, run-failed, place_clips}
use Rattle.zmtp_wire.proofs.StreamLemmas.{splits_as}
use Rattle.zmtp_wire.proofs.ListLemmas.{some_of_len}

-- no test fails where no octet stands
no_octet : (role : Role) (come : Come) (q : List ℕ) (e : Cause) → Wrong role come q e → q ≡ [] → ⊥
no_octet role _ _ _ (W.greeting p x h f) z = no_snoc p x (sym z)
no_octet role _ _ _ (W.flags_first g f a) z = absurd (cc)
no_octet role _ _ _ (W.flags g items f a) z = absurd (cc)
no_octet role _ _ _ (W.frame_first g f a c) z = absurd (cc)
no_octet role _ _ _ (W.too_many g items f m l) z = absurd (cc)
no_octet role _ _ _ (W.too_long_first g p f o h w) z = let k = sym h.spelled ∙ z in absurd (cc)
no_octet role _ _ _ (W.too_long g items p f o h w) z = let k = sym h.spelled ∙ z in absurd (cc)
no_octet role _ _ _ (W.handshake g p body e s h) z = let k = sym s.spelled ∙ z in absurd (cc)
no_octet role _ _ _ (W.peer_error g items p f o h c w t) z = let k = sym t ∙ z in absurd (cc)

take_none : (k : ℕ) → take {A = ℕ} k [] ≡ []
take_none zero = refl
take_none (suc k) = refl

passes_none : (role : Role) (come : Come) → Passes role come []
passes_none role come = λ k e w. no_octet role come (take k []) e w (take_none k)

pub never_failed : (come : Come) (p : List ℕ) (over : Bool) (e : WireFault) → state_of come p ≡ Failed over e → ⊥
never_failed nothing p over e h = absurd (cc)
never_failed (greeted g) p over e h = absurd (cc)
never_failed (shaken g items) p over e h = absurd (cc)

pub take_snoc : (k : ℕ) (r : List ℕ) (x : ℕ) → ((j : ℕ) × (take k (r ++ x ∷ []) ≡ take j r)) ⊎ (take k (r ++ x ∷ []) ≡ r ++ x ∷ [])
take_snoc zero r x = inl (0, refl)
take_snoc (suc k) [] x = inr (ap (λ t. x ∷ t) (take_none k))
take_snoc (suc k) (y ∷ r) x = elim (take_snoc k r x) [ inl j ↦ inl (suc j.0, ap (λ t. y ∷ t) j.1) | inr e ↦ inr (ap (λ t. y ∷ t) e) ]

-- where the machine didn't stop, no test fails
passes_more : (role : Role) (at : ℕ) (come next : Come) (p q : List ℕ) (x : ℕ) → Passes role come p → (step role at (state_of come p) x).state ≡ state_of next q → Passes role come (p ++ x ∷ [])
passes_more role at come next p q x ps st = λ k e w.
    elim (take_snoc k p x) [
      | inl j ↦ ps j.0 e (subst (λ (t : List ℕ). Wrong role come t e) j.1 w)
      | inr f ↦
          let s = stops role at come (p ++ x ∷ []) e (subst (λ (t : List ℕ). Wrong role come t e) f w) p x refl in
          never_failed next q (is_past come) (fault_at at e) (sym st ∙ ap (λ (t : Took). t.state) s)
    ]

-- what comes next can begin
pub begins : (role : Role) (come : Come) → IsPart role come []
begins role nothing = record { missing = replicate 64 0; some = some_of_len (replicate 64 0) (omega arith); next = greeted (replicate 64 0); completes = greeting (replicate 64 0) refl; passes = passes_none role nothing }
begins role (greeted g) =
    record {
      missing = 4 ∷ 0 ∷ [];
      some = some_of_len (4 ∷ 0 ∷ []) (omega arith);
      next = shaken g [];
      completes = ready g (4 ∷ 0 ∷ []) [] (record { flag = 4; octets = 0 ∷ []; body = []; head = record { spelled = refl; allowed = refl; len = refl }; size = refl; means = refl; spelled = refl });
      passes = passes_none role (greeted g);
    }
begins role (shaken g items) =
    record {
      missing = 0 ∷ 0 ∷ [];
      some = some_of_len (0 ∷ 0 ∷ []) (omega arith);
      next = shaken g (items ++ frame false [] ∷ []);
      completes = unit g items (frame false []) (0 ∷ 0 ∷ []) (record { flag = 0; octets = 0 ∷ []; body = []; head = record { spelled = refl; allowed = refl; len = refl }; size = refl; means = refl; spelled = refl });
      passes = passes_none role (shaken g items);
    }

-- ---- one of both

pub data Outcome (role : Role) (b : List ℕ) : Type 0 where
  reads : (ms : List (List (List ℕ))) (owed : List (List ℕ)) (rest : List ℕ) → Stream b role ms owed rest → Outcome role b
  breaks : (e : WireFault) (at : ℕ) (ms : List (List (List ℕ))) (owed : List (List ℕ)) → Broken b role e at ms owed → Outcome role b

outcome_from : (role : Role) (had b : List ℕ) (come : Come) (rest : List ℕ) → Splits role had come rest → Outcome role (had ++ b)
outcome_from role had [] come rest s =
    reads (messages_come role come) (contexts_come come) rest (record { come = come; splits = subst (λ (t : List ℕ). Splits role t come rest) (sym (append-nil had)) s; messages = refl; contexts = refl })
outcome_from role had (x ∷ b) come rest s =
    elim (turn role (length had) come rest x s.part.missing s.part.next s.part.some s.part.completes) [
      | wrong e w t ↦
          breaks (fault_at (clip (length had)) e) (length had) (messages_come role come) (contexts_come come)
          (record { come = come; before = had; rest = rest; octet = x; after = b; broken = e; spelled = refl; place = refl; splits = s; wrong = w; fault = refl; messages = refl; contexts = refl })
      | whole next c st ms ow ↦
          let ps = passes_more role (length had) come next rest [] x s.part.passes st in
          let split : Splits role (had ++ x ∷ []) next [] =
          record {
            front = s.front ++ (rest ++ x ∷ []);
            spelled = ap (λ t. t ++ x ∷ []) s.spelled ∙ append_assoc s.front rest (x ∷ []) ∙ sym (append-nil (s.front ++ (rest ++ x ∷ [])));
            reads = more s.front (rest ++ x ∷ []) come next s.reads c ps;
            part = begins role next;
          } in
          subst (λ (t : List ℕ). Outcome role t) (append_assoc had (x ∷ []) b) (outcome_from role (had ++ x ∷ []) b next [] split)
      | part m ne next c t ↦
          let ps = passes_more role (length had) come come rest (rest ++ x ∷ []) x s.part.passes (ap (λ (u : Took). u.state) t) in
          let split : Splits role (had ++ x ∷ []) come (rest ++ x ∷ []) =
          record {
            front = s.front;
            spelled = ap (λ t. t ++ x ∷ []) s.spelled ∙ append_assoc s.front rest (x ∷ []);
            reads = s.reads;
            part = record { missing = m; some = ne; next = next; completes = c; passes = ps };
          } in
          subst (λ (t : List ℕ). Outcome role t) (append_assoc had (x ∷ []) b) (outcome_from role (had ++ x ∷ []) b come (rest ++ x ∷ []) split)
    ]

-- Each list of octets is a stream or broken.
pub outcome : (role : Role) (b : List ℕ) → Outcome role b
outcome role b = outcome_from role [] b nothing [] (record { front = []; spelled = refl; reads = start; part = begins role nothing })

-- ---- and only one, in one way

pub stream_reads : (b : List ℕ) (role : Role) (ms : List (List (List ℕ))) (owed : List (List ℕ)) (rest : List ℕ) → (s : Stream b role ms owed rest)
    → ((reading role b).state ≡ state_of s.come rest) × ((reading role b).messages ≡ ms) × ((reading role b).owed ≡ owed)
stream_reads b role ms owed rest s =
    let r = splits_as role b s.come rest s.splits in (r.state, r.messages ∙ sym s.messages, r.contexts ∙ sym s.contexts)

pub broken_reads : (b : List ℕ) (role : Role) (e : WireFault) (at : ℕ) (ms : List (List (List ℕ))) (owed : List (List ℕ)) → (k : Broken b role e at ms owed)
    → ((reading role b).state ≡ Failed (is_past k.come) e) × ((reading role b).messages ≡ ms) × ((reading role b).owed ≡ owed)
unfolding run
broken_reads b role e at ms owed k =
    let r = splits_as role k.before k.come k.rest k.splits in
    let here : ticks 0 (length k.before) ≡ clip at = place_clips (length k.before) ∙ ap clip k.place in
    let last_state : State = Failed (is_past k.come) e in
    let stop : step role (ticks 0 (length k.before)) (reading role k.before).state k.octet ≡ quiet last_state =
    ap (λ s. step role (ticks 0 (length k.before)) s k.octet) r.state ∙ ap (λ n. step role n (state_of k.come k.rest) k.octet) here
    ∙ stops role (clip at) k.come (k.rest ++ k.octet ∷ []) k.broken k.wrong k.rest k.octet refl ∙ ap (λ f. quiet (Failed (is_past k.come) f)) (sym k.fault) in
    let last : run role (ticks 0 (length k.before)) (reading role k.before).state (k.octet ∷ k.after) ≡ quiet last_state =
    ap (λ t. before t (run role (tick (ticks 0 (length k.before))) t.state k.after)) stop ∙ run-failed role (tick (ticks 0 (length k.before))) (is_past k.come) e k.after in
    let all : reading role b ≡ before (reading role k.before) (quiet last_state) =
    ap (reading role) k.spelled ∙ reading-append role k.before (k.octet ∷ k.after) ∙ ap (before (reading role k.before)) last in
    (ap (λ (t : Took). t.state) all, ap (λ (t : Took). t.messages) all ∙ append-nil _ ∙ r.messages ∙ sym k.messages, ap (λ (t : Took). t.owed) all ∙ append-nil _ ∙ r.contexts ∙ sym k.contexts)

pub not_both : (b : List ℕ) (role : Role) (ms ms' : List (List (List ℕ))) (owed owed' : List (List ℕ)) (rest : List ℕ) (e : WireFault) (at : ℕ)
    → Stream b role ms owed rest → Broken b role e at ms' owed' → ⊥
not_both b role ms ms' owed owed' rest e at s k =
    let a = stream_reads b role ms owed rest s in
    let c = broken_reads b role e at ms' owed' k in
    never_failed s.come rest (is_past k.come) e (sym a.0 ∙ c.0)

-- what stands before a later octet begins with what stands before an earlier one, and that one
longer : (a b c d : List ℕ) (x y : ℕ) → a ++ x ∷ b ≡ c ++ y ∷ d → length a < length c → (m : List ℕ) × (c ≡ a ++ x ∷ m)
longer [] b [] d x y e h = absurd (omega arith)
longer [] b (z ∷ c) d x y e h = let k : x ≡ z = cc in (c, ap (λ w. w ∷ c) (sym k))
longer (w ∷ a) b [] d x y e h = absurd (omega arith)
longer (w ∷ a) b (z ∷ c) d x y e h =
    let t : a ++ x ∷ b ≡ c ++ y ∷ d = cc in
    let k : w ≡ z = cc in
    let m = longer a b c d x y t (omega arith) in
    (m.0, ap (λ q. z ∷ q) m.1 ∙ ap (λ v. v ∷ (a ++ x ∷ m.0)) (sym k))

not_later : (b : List ℕ) (role : Role) (e e' : WireFault) (at at' : ℕ) (ms ms' : List (List (List ℕ))) (owed owed' : List (List ℕ)) → Broken b role e at ms owed → Broken b role e' at' ms' owed' → at < at' → ⊥
not_later b role e e' at at' ms ms' owed owed' k j h =
    let m = longer k.before k.after j.before j.after k.octet j.octet (sym k.spelled ∙ j.spelled) (omega (arith, k.place, j.place)) in
    let early : Broken j.before role e at ms owed =
    record {
      come = k.come;
      before = k.before;
      rest = k.rest;
      octet = k.octet;
      after = m.0;
      broken = k.broken;
      spelled = m.1;
      place = k.place;
      splits = k.splits;
      wrong = k.wrong;
      fault = k.fault;
      messages = k.messages;
      contexts = k.contexts;
    } in
    let whole_before : Stream j.before role (messages_come role j.come) (contexts_come j.come) j.rest = record { come = j.come; splits = j.splits; messages = refl; contexts = refl } in
    not_both j.before role (messages_come role j.come) ms (contexts_come j.come) owed j.rest e at whole_before early

one_place : (a b : ℕ) → (a < b → ⊥) → (b < a → ⊥) → a ≡ b
one_place zero zero p q = refl
one_place zero (suc b) p q = absurd (p (omega arith))
one_place (suc a) zero p q = absurd (q (omega arith))
one_place (suc a) (suc b) p q = ap suc (one_place a b (λ h. p (omega arith)) (λ h. q (omega arith)))

-- the fault, its place, the messages and the contexts are given by the octets
pub one_fault : (b : List ℕ) (role : Role) (e e' : WireFault) (at at' : ℕ) (ms ms' : List (List (List ℕ))) (owed owed' : List (List ℕ)) → Broken b role e at ms owed → Broken b role e' at' ms' owed'
    → (e ≡ e') × (at ≡ at') × (ms ≡ ms') × (owed ≡ owed')
one_fault b role e e' at at' ms ms' owed owed' k j =
    let r = broken_reads b role e at ms owed k in
    let s = broken_reads b role e' at' ms' owed' j in
    let state : Failed (is_past k.come) e ≡ Failed (is_past j.come) e' = sym r.0 ∙ s.0 in
    (cc, one_place at at' (not_later b role e e' at at' ms ms' owed owed' k j) (not_later b role e' e at' at ms' ms owed' owed j k), sym r.1 ∙ s.1, sym r.2 ∙ s.2)

unit_len_on : (f : ℕ) (r : List ℕ) (b : Bool) → nat_lt (length r) (size_len f) ≡ b → open_len (unit_at (f ∷ r)) ≡ length (f ∷ r)
unit_len_on f r true h = ap open_len (cond-true _ _ _ h) ∙ omega arith
unit_len_on f r false h = let k = ltb-false (length r) (size_len f) h in ap open_len (cond-false _ _ _ h) ∙ omega (arith, length-drop (size_len f) r)

unit_len : (p : List ℕ) → open_len (unit_at p) ≡ length p
unit_len [] = refl
unit_len (f ∷ r) = unit_len_on f r _ refl

pub state_len : (come : Come) (p : List ℕ) → rest_len (state_of come p) ≡ length p
state_len nothing p = refl
state_len (greeted g) p = unit_len p
state_len (shaken g items) p = unit_len p

same_end : (a b c d : List ℕ) → a ++ b ≡ c ++ d → length b ≡ length d → b ≡ d
same_end [] b [] d e h = e
same_end [] b (y ∷ c) d e h = let k = ap length e in absurd (omega (arith, length-append c d))
same_end (x ∷ a) b [] d e h = let k = ap length e in absurd (omega (arith, length-append a b))
same_end (x ∷ a) b (y ∷ c) d e h = let k : a ++ b ≡ c ++ d = cc in same_end a b c d k h

-- the messages, the contexts and the rest are given by the octets
pub one_stream : (b : List ℕ) (role : Role) (ms ms' : List (List (List ℕ))) (owed owed' : List (List ℕ)) (rest rest' : List ℕ)
    → Stream b role ms owed rest → Stream b role ms' owed' rest' → (ms ≡ ms') × (owed ≡ owed') × (rest ≡ rest')
one_stream b role ms ms' owed owed' rest rest' s k =
    let a = stream_reads b role ms owed rest s in
    let c = stream_reads b role ms' owed' rest' k in
    let len : length rest ≡ length rest' = sym (state_len s.come rest) ∙ ap rest_len (sym a.0 ∙ c.0) ∙ state_len k.come rest' in
    (sym a.1 ∙ c.1, sym a.2 ∙ c.2, same_end s.splits.front rest k.splits.front rest' (sym s.splits.spelled ∙ k.splits.spelled) len)
