-- How many requests calls make.
use Rattle.std.proofs.Common.{◌≡◌, ◌≤◌, ◌+◌, Result, Ok, Err, ap, ◌∙◌, arith}
use Rattle.std.specs.Prelude.{OnOk}
use Rattle.cell_core.specs.declared.act.Act.{Act}
use Rattle.cell_core.specs.declared.act.Act.TheVariants.{Nothing, Start, Send, Look, Interrupt, Save, Stop}
use Rattle.job_run.specs.declared.execution.Execution.{Execution}
use Rattle.job_run.specs.Held.{Asks, AsksOnce, requests_of}

few : (act : Act) → requests_of act ≤ 1
few (Send cell) = omega arith
few Interrupt = omega arith
few (Save settled) = omega arith
few Nothing = omega arith
few Start = omega arith
few Look = omega arith
few (Stop cause) = omega arith

act_once : (act : Act) (old mid new : Execution) → mid.session ≡ old.session → Asks (requests_of act) mid new → AsksOnce old new
act_once act old mid new same asks =
    let is : mid.session.made ≡ old.session.made = ap (λ i. i.made) same in
    let made : new.session.made ≡ mid.session.made + requests_of act = ap (λ i. i.made) asks in
    let most : new.session.made ≤ old.session.made + 1 = omega (arith, is, made, few act) in
    record { name = ap (λ i. i.name) asks ∙ ap (λ i. i.name) same; key = ap (λ i. i.key) asks ∙ ap (λ i. i.key) same; made = most }

-- an act makes at most one request
pub acts_once : {U E : Type 0} (r : Result U E) (act : Act) (old mid new : Execution) → mid.session ≡ old.session → OnOk r (Asks (requests_of act) mid new) → OnOk r (AsksOnce old new)
acts_once (Ok u) act old mid new same asks = act_once act old mid new same asks
acts_once (Err e) act old mid new same asks = tt

-- under the same key
pub once_keyed : {U E : Type 0} (r : Result U E) (old new : Execution) → OnOk r (AsksOnce old new) → OnOk r (new.session.key ≡ old.session.key)
once_keyed (Ok u) old new once = once.key
once_keyed (Err e) old new once = tt

-- and so before other calls that keep it
pub keyed_then : {U E : Type 0} (r : Result U E) (old mid new : Execution) → mid.session.key ≡ old.session.key → OnOk r (new.session.key ≡ mid.session.key)
    → OnOk r (new.session.key ≡ old.session.key)
keyed_then (Ok u) old mid new same then_ = then_ ∙ same
keyed_then (Err e) old mid new same then_ = tt

from_same : (old mid new : Execution) → mid.session ≡ old.session → AsksOnce mid new → AsksOnce old new
from_same old mid new same once =
    let is : mid.session.made ≡ old.session.made = ap (λ i. i.made) same in
    let most : new.session.made ≤ old.session.made + 1 = omega (arith, is, once.made) in
    record { name = once.name ∙ ap (λ i. i.name) same; key = once.key ∙ ap (λ i. i.key) same; made = most }

-- before it nothing was said
pub once_from : {U E : Type 0} (r : Result U E) (old mid new : Execution) → mid.session ≡ old.session → OnOk r (AsksOnce mid new) → OnOk r (AsksOnce old new)
once_from (Ok u) old mid new same once = from_same old mid new same once
once_from (Err e) old mid new same once = tt

-- in the same session
pub once_named : {U E : Type 0} (r : Result U E) (old new : Execution) → OnOk r (AsksOnce old new) → OnOk r (new.session.name ≡ old.session.name)
once_named (Ok u) old new once = once.name
once_named (Err e) old new once = tt

-- and so before other calls that keep it
pub named_then : {U E : Type 0} (r : Result U E) (old mid new : Execution) → mid.session.name ≡ old.session.name → OnOk r (new.session.name ≡ mid.session.name)
    → OnOk r (new.session.name ≡ old.session.name)
named_then (Ok u) old mid new same then_ = then_ ∙ same
named_then (Err e) old mid new same then_ = tt
