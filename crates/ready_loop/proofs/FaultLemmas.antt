-- What an answer says of failures: of which connection its fault is, which have failed, and the count.
use Rattle.std.proofs.Common.{◌≡◌, ◌+◌, ◌-◌, ◌^◌, ℕ, min, Bool, Some, Result, Ok, Err, IfErr, OnOk, arith, refl, sym, ◌∙◌, ap, subst}
use Rattle.std.proofs.lemmas.Result.{IfErr-weaker, err_from_is_err_and}
use Rattle.std.specs.Result.{IsErrAnd}
use Rattle.world.specs.declared.conn.Conn.{Conn}
use Rattle.world.specs.Counts.{Counts, NetCause, WaitCause}
use Rattle.ready_loop.specs.declared.fault.LoopFault.{LoopFault}
use Rattle.ready_loop.specs.declared.fault.LoopFault.TheVariants.{NetFault, Spent}
use Rattle.ready_loop.specs.declared.readiness.Loop.{Loop}
use Rattle.ready_loop.specs.Offers.{IsOfConn}
use Rattle.ready_loop.specs.States.{FailsOnly, failed_after, failed_at}

-- what holds anyhow holds where there is no error
pub on_ok : {T E P : Type 0} → (r : Result T E) → P → OnOk r P
on_ok (Ok x) p = p
on_ok (Err e) p = tt

-- ---- the fault

-- an error that is handed on is the same
pub handed_on : {T E : Type 0} {r : Result T E} {e : E} → IsErrAnd r (λ k. k ≡ e) → r ≡ Err e
handed_on {r = r} is = let found = err_from_is_err_and r is in found.1 ∙ ap Err found.2

-- an error is the same in an answer of another type
pub err_same : {T U E : Type 0} {e f : E} → ◌≡◌ {A = Result T E} (Err e) (Err f) → ◌≡◌ {A = Result U E} (Err e) (Err f)
err_same {e = e} {f} is = let same : e ≡ f = cc in ap (λ k. Err k) same

-- a fault that names this connection names one
pub of_conn : {fault : LoopFault} {conn : Conn} → fault ≡ NetFault (Some conn) → IsOfConn fault
of_conn e = subst IsOfConn (sym e) tt

-- nor is it of another job
pub fault_job : {T : Type 0} {fault : LoopFault} {conn c : Conn} → fault ≡ NetFault (Some conn) → ◌≡◌ {A = Result T LoopFault} (Err fault) (Err (NetFault (Some c))) → c.job ≡ conn.job
fault_job {fault = fault} {conn} {c} is e =
    let there : fault ≡ NetFault (Some c) = cc in
    let same : c ≡ conn = cc in
    ap (λ (k : Conn). k.job) same

pub fault_own : {T : Type 0} (r : Result T LoopFault) (conn c : Conn) → IfErr r (λ fault. fault ≡ NetFault (Some conn)) → r ≡ Err (NetFault (Some c)) → c.job ≡ conn.job
fault_own (Ok x) conn c is e = absurd (cc)
fault_own {T} (Err fault) conn c is e = fault_job {T = T} is e

-- so it is of an answer that may be one
pub of_conn_if : {T : Type 0} (r : Result T LoopFault) (conn : Conn)
    → IfErr r (λ fault. fault ≡ NetFault (Some conn)) → IfErr r IsOfConn
of_conn_if r conn e =
    IfErr-weaker r (λ fault. fault ≡ NetFault (Some conn)) IsOfConn (λ fault is. of_conn is) e

-- nor is it the one that says that no wait is left
pub not_spent : {T : Type 0} (fault : LoopFault) → IsOfConn fault
    → ◌≡◌ {A = Result T LoopFault} (Err fault) (Err Spent) → ⊥
not_spent (NetFault conn) of e = cc
not_spent Spent of e = absurd of

-- ---- which have failed

-- calls after which as many have failed, and then one that answers
pub fails_then : {T : Type 0} {r : Result T LoopFault} {a b c : Loop}
    → ((p : ℕ) → failed_at b p ≡ failed_at a p) → FailsOnly r b c → FailsOnly r a c
fails_then {r = r} same m = record { each = λ p. m.each p ∙ ap (λ (was : Bool). failed_after r p was) (same p) }

-- ---- the count

-- a call for whose failure there is a cause, where less is called a failure
pub cause_as : {a b : Counts} {F G : Type 0} → (G → F) → NetCause a b F → NetCause a b G
cause_as turns m = record {
  others = m.others;
  net = record { later = m.net.later; cause = λ g. m.net.cause (turns g) };
}

-- calls of the wire, and then one that may have failed
pub cause_last : {a b c : Counts} {F G : Type 0} → NetCause a b F → NetCause b c G → NetCause a c G
cause_last {a} {b} {c} m n =
    let with_net : Counts → Counts = λ k. record k { net = c.net } in
    record {
      others = n.others ∙ ap with_net m.others;
      net = record {
        later = omega (arith, m.net.later, n.net.later);
        cause = λ g. let rose = n.net.cause g in omega (arith, m.net.later, rose);
      };
    }

-- no call was made
pub cause_start : {a : Counts} {F : Type 0} → (F → ⊥) → NetCause a a F
cause_start none = record { others = refl; net = record { later = omega arith; cause = λ f. absurd (none f) } }

-- a wait, where less is called a failure
pub wait_as : {a b : Counts} {F G : Type 0} → (G → F) → WaitCause a b F → WaitCause a b G
wait_as turns m = record {
  others = m.others;
  waits = m.waits;
  net = record { later = m.net.later; cause = λ g. m.net.cause (turns g) };
}

-- calls of the wire, and then a wait
pub wait_last : {a b c : Counts} {F G : Type 0} → NetCause a b F → WaitCause b c G → WaitCause a c G
wait_last {a} {b} {c} m n =
    let with_wait : Counts → Counts = λ k. record k { net = c.net; waits = min (k.waits + 1) (2 ^ 64 - 1) } in
    let same : b.waits ≡ a.waits = ap (λ (k : Counts). k.waits) m.others in
    record {
      others = n.others ∙ ap with_wait m.others;
      waits = omega (arith, same, n.waits);
      net = record {
        later = omega (arith, m.net.later, n.net.later);
        cause = λ g. let rose = n.net.cause g in omega (arith, m.net.later, rose);
      };
    }

-- a wait that was done, and then the clock
pub wait_timed : {a b c : Counts} {F : Type 0} {now : ℕ} → WaitCause a b F → c ≡ record b { last = now }
    → WaitCause a (record c { last = a.last }) ⊥ × (c.last ≡ now)
wait_timed {a} {b} {c} m is =
    let last : a.last ≡ b.last = sym (ap (λ (k : Counts). k.last) m.others) in
    let back : record c { last = a.last } ≡ b
    = ap (λ (k : Counts). record k { last = a.last }) is ∙ ap (λ n. record b { last = n }) last in
    let waits = subst (λ k. WaitCause a k ⊥) (sym back) (wait_as (λ none. absurd none) m) in
    (waits, ap (λ (k : Counts). k.last) is)
