-- The machine computes the relation: each list of octets is a stream or broken, and in one way.
use Rattle.std.proofs.Common.{◌≡◌, ◌≢◌, ℕ, zero, suc, List, [], ◌∷◌, ◌++◌, length, take, refl, ap, sym, ◌∙◌, arith, length-append, append_assoc, append-nil, subst}
use Rattle.std.proofs.Math.Seq.{take-append_seam}
use Rattle.zmtp_wire.specs.declared.role.Role.{Role}
use Rattle.zmtp_wire.specs.declared.cause.Cause.{Cause}
use Rattle.zmtp_wire.specs.Machine.{before, ticks, tick, run, reading, Took, quiet, step}
use Rattle.zmtp_wire.specs.Stream.{command, Come, Completes, greeting, ready, unit, messages_come, contexts_come, Wrong, Passes, Reads, start, more, Splits}
use Rattle.zmtp_wire.proofs.UnitLemmas.{one_next, no_cells}
use Rattle.zmtp_wire.proofs.StepLemmas.{state_of}
use Rattle.zmtp_wire.proofs.TurnLemmas.{wrong, whole, part, turn}
use Rattle.zmtp_wire.proofs.FeedLemmas.{reading-append}
use Rattle.zmtp_wire.proofs.ListLemmas.{some_of_len, len_of_some}

take_part : (k : ℕ) (q p : List ℕ) → (j : ℕ) × (take k q ≡ take j (q ++ p))
take_part zero q p = (0, refl)
take_part (suc k) [] p = (0, refl)
take_part (suc k) (x ∷ q) p = let r = take_part k q p in (suc r.0, ap (λ t. x ∷ t) r.1)

passes_front : (role : Role) (come : Come) (q p : List ℕ) → Passes role come (q ++ p) → Passes role come q
passes_front role come q p h = λ k e w. let j = take_part k q p in h j.0 e (subst (λ (t : List ℕ). Wrong role come t e) j.1 w)

passes_here : (role : Role) (come : Come) (q p : List ℕ) (e : Cause) → Passes role come (q ++ p) → Wrong role come q e → ⊥
passes_here role come q p e h w = h (length q) e (subst (λ (t : List ℕ). Wrong role come t e) (sym (take-append_seam q p)) w)

regroup : (q p : List ℕ) (x : ℕ) → q ++ x ∷ p ≡ (q ++ x ∷ []) ++ p
regroup q p x = sym (append_assoc q (x ∷ []) p)

pub not_empty : (come next : Come) → Completes come [] next → ⊥
not_empty _ _ (greeting _ e) = omega (arith, e)
not_empty _ _ (ready _ _ body s) = no_cells (command body) s
not_empty _ _ (unit _ _ item _ s) = no_cells item s

no_more : (p m : List ℕ) → m ≢ [] → p ++ m ≡ [] → ⊥
no_more p m ne e = let k = ap length e in let l = len_of_some m ne in omega (arith, length-append p m)

-- ---- parts

run_part : (role : Role) (at : ℕ) (come : Come) (q p m : List ℕ) (next : Come) → m ≢ [] → Completes come ((q ++ p) ++ m) next → Passes role come (q ++ p)
    → run role at (state_of come q) p ≡ quiet (state_of come (q ++ p))
unfolding run
run_part role at come q [] m next ne c ps = ap (λ t. quiet (state_of come t)) (sym (append-nil q))
run_part role at come q (x ∷ p) m next ne c ps =
    let c' = subst (λ (t : List ℕ). Completes come (t ++ m) next) (regroup q p x) c in
    let ps' = subst (λ (t : List ℕ). Passes role come t) (regroup q p x) ps in
    let longer : Completes come (q ++ (x ∷ p ++ m)) next = subst (λ (t : List ℕ). Completes come t next) (append_assoc q (x ∷ p) m) c in
    let some : (x ∷ p) ++ m ≢ [] = some_of_len ((x ∷ p) ++ m) (omega arith) in
    let grown : step role at (state_of come q) x ≡ quiet (state_of come (q ++ x ∷ [])) =
    elim (turn role at come q x ((x ∷ p) ++ m) next some longer) [
      | wrong e w t ↦ absurd (passes_here role come (q ++ x ∷ []) p e ps' w)
      | whole next' d st ms ow ↦ absurd (no_more p m ne (one_next come next' next (q ++ x ∷ []) (p ++ m) d (subst (λ (t : List ℕ). Completes come t next) (append_assoc (q ++ x ∷ []) p m) c')).0)
      | part m' ne' next' d t ↦ t
    ] in
    ap (λ t. before t (run role (tick at) t.state p)) grown ∙ run_part role (tick at) come (q ++ x ∷ []) p m next ne c' ps' ∙ ap (λ t. quiet (state_of come t)) (sym (regroup q p x))

-- ---- whole things

-- what came gives the next, with these messages and contexts
pub record Gains (role : Role) (come next : Come) (t : Took) : Type 0 where
  pub state : t.state ≡ state_of next []
  pub messages : messages_come role next ≡ messages_come role come ++ t.messages
  pub contexts : contexts_come next ≡ contexts_come come ++ t.owed

gains_end : (role : Role) (come next : Come) (t : Took) → Gains role come next t → Gains role come next (before t (quiet t.state))
gains_end role come next t g =
    record { state = g.state; messages = g.messages ∙ ap (λ x. messages_come role come ++ x) (sym (append-nil t.messages)); contexts = g.contexts ∙ ap (λ x. contexts_come come ++ x) (sym (append-nil t.owed)) }

run_whole : (role : Role) (at : ℕ) (come : Come) (q p : List ℕ) (x : ℕ) (next : Come) → Completes come (q ++ x ∷ p) next → Passes role come (q ++ x ∷ p) → Gains role come next (run role at (state_of come q) (x ∷ p))
unfolding run
run_whole role at come q [] x next c ps =
    elim (turn role at come q x (x ∷ []) next (some_of_len (x ∷ []) (omega arith)) c) [
      | wrong e w t ↦ absurd (passes_here role come (q ++ x ∷ []) [] e (subst (λ (t : List ℕ). Passes role come t) (sym (append-nil (q ++ x ∷ []))) ps) w)
      | whole next' d st ms ow ↦
          let same : next' ≡ next = (one_next come next' next (q ++ x ∷ []) [] d (subst (λ (t : List ℕ). Completes come t next) (sym (append-nil (q ++ x ∷ []))) c)).1 in
          gains_end role come next (step role at (state_of come q) x) (subst (λ (n : Come). Gains role come n (step role at (state_of come q) x)) same (record { state = st; messages = ms; contexts = ow }))
      | part m' ne' next' d t ↦ absurd (ne' (one_next come next next' (q ++ x ∷ []) m' c d).0)
    ]
run_whole role at come q (y ∷ p) x next c ps =
    let c' = subst (λ (t : List ℕ). Completes come t next) (regroup q (y ∷ p) x) c in
    let ps' = subst (λ (t : List ℕ). Passes role come t) (regroup q (y ∷ p) x) ps in
    let grown : step role at (state_of come q) x ≡ quiet (state_of come (q ++ x ∷ [])) =
    elim (turn role at come q x (x ∷ y ∷ p) next (some_of_len (x ∷ y ∷ p) (omega arith)) c) [
      | wrong e w t ↦ absurd (passes_here role come (q ++ x ∷ []) (y ∷ p) e ps' w)
      | whole next' d st ms ow ↦ absurd (some_of_len (y ∷ p) (omega arith) (one_next come next' next (q ++ x ∷ []) (y ∷ p) d c').0)
      | part m' ne' next' d t ↦ t
    ] in
    subst (λ (t : Took). Gains role come next t) (sym (ap (λ t. before t (run role (tick at) t.state (y ∷ p))) grown)) (run_whole role (tick at) come (q ++ x ∷ []) p y next c' ps')

run_next : (role : Role) (at : ℕ) (come : Come) (p : List ℕ) (next : Come) → Completes come p next → Passes role come p → Gains role come next (run role at (state_of come []) p)
run_next role at come [] next c ps = absurd (not_empty come next c)
run_next role at come (x ∷ p) next c ps = run_whole role at come [] p x next c ps

-- ---- the reading of what has come

pub record ReadsAs (role : Role) (come : Come) (rest : List ℕ) (t : Took) : Type 0 where
  pub state : t.state ≡ state_of come rest
  pub messages : t.messages ≡ messages_come role come
  pub contexts : t.owed ≡ contexts_come come

pub reads_as : (role : Role) (front : List ℕ) (come : Come) → Reads role front come → ReadsAs role come [] (reading role front)
unfolding run
reads_as role _ _ start = record { state = refl; messages = refl; contexts = refl }
reads_as role _ _ (more front p come next r c ps) =
    let had = reads_as role front come r in
    let at = ticks 0 (length front) in
    let g = run_next role at come p next c ps in
    let all : reading role (front ++ p) ≡ before (reading role front) (run role at (state_of come []) p) = reading-append role front p ∙ ap (λ s. before (reading role front) (run role at s p)) had.state in
    record {
      state = ap (λ (t : Took). t.state) all ∙ g.state;
      messages = ap (λ (t : Took). t.messages) all ∙ ap (λ x. x ++ (run role at (state_of come []) p).messages) had.messages ∙ sym g.messages;
      contexts = ap (λ (t : Took). t.owed) all ∙ ap (λ x. x ++ (run role at (state_of come []) p).owed) had.contexts ∙ sym g.contexts;
    }

pub splits_as : (role : Role) (b : List ℕ) (come : Come) (rest : List ℕ) → Splits role b come rest → ReadsAs role come rest (reading role b)
splits_as role b come rest s =
    let had = reads_as role s.front come s.reads in
    let at = ticks 0 (length s.front) in
    let k = run_part role at come [] rest s.part.missing s.part.next s.part.some s.part.completes s.part.passes in
    let all : reading role b ≡ before (reading role s.front) (quiet (state_of come rest)) =
    ap (reading role) s.spelled ∙ reading-append role s.front rest ∙ ap (λ x. before (reading role s.front) (run role at x rest)) had.state ∙ ap (before (reading role s.front)) k in
    record {
      state = ap (λ (t : Took). t.state) all;
      messages = ap (λ (t : Took). t.messages) all ∙ append-nil _ ∙ had.messages;
      contexts = ap (λ (t : Took). t.owed) all ∙ append-nil _ ∙ had.contexts;
    }
