-- Why jobs end, and how often was waited, by the counts.
use Rattle.std.proofs.Common.{◌≡◌, inl, inr, ℕ, ◌+◌, ◌-◌, ◌≤◌, ◌^◌, min, List, Option, refl, sym, ◌∙◌, subst, arith}
use Rattle.words.specs.declared.ask.Ask.{Ask}
use Rattle.world.specs.declared.entry.Entry.{Entry}
use Rattle.world.specs.Counts.{Counts, CountsGrow, Rose}
use Rattle.world.proofs.CountsLemmas.{rose_since, rose_still}
use Rattle.job_begin.specs.Causes.{HasCause}
use Rattle.world.specs.declared.conn.Conn.{Conn}
use Rattle.ready_loop.specs.declared.fault.LoopFault.{LoopFault}
use Rattle.ready_loop.specs.declared.fault.LoopFault.TheVariants as loop_fault
use Rattle.batch_run.specs.declared.slot.Slot.{Slot}
use Rattle.batch_run.specs.declared.lines.Lines.{Lines}
use Rattle.batch_run.specs.declared.fault.Fault.{Fault}
use Rattle.batch_run.specs.declared.fault.Fault.TheVariants as fault
use Rattle.batch_run.specs.Batch.{HasWaited}
use Rattle.batch_run.specs.Kept.{FaultCause}
use Rattle.batch_run.specs.Owed.{Owed}
use Rattle.batch_run.specs.Stands.{Outset, AllStand, IsFaultOf, IsOutOfWaits, more_waits, served_by}

-- ---- counts that grow

pub cause_still : (old c d : Counts) (n : ℕ) → CountsGrow c d → HasCause old c n → HasCause old d n
cause_still old c d n g h = record {
  read = λ e. rose_still old.disk c.disk d.disk (h.read e) g.disk;
  start = λ e. elim (h.start e) [
    | inl r ↦ inl (rose_still old.rand c.rand d.rand r g.rand)
    | inr r ↦ inr (rose_still old.child c.child d.child r g.child)
  ];
  save = λ e. rose_still old.disk c.disk d.disk (h.save e) g.disk;
  net = λ e. rose_still old.net c.net d.net (h.net e) g.net;
}

pub cause_since : (old c d : Counts) (n : ℕ) → CountsGrow old c → HasCause c d n → HasCause old d n
cause_since old c d n g h = record {
  read = λ e. rose_since old.disk c.disk d.disk g.disk (h.read e);
  start = λ e. elim (h.start e) [
    | inl r ↦ inl (rose_since old.rand c.rand d.rand g.rand r)
    | inr r ↦ inr (rose_since old.child c.child d.child g.child r)
  ];
  save = λ e. rose_since old.disk c.disk d.disk g.disk (h.save e);
  net = λ e. rose_since old.net c.net d.net g.net (h.net e);
}

waited_up : (most a b : ℕ) → min most (2 ^ 64 - 1) ≤ a → a ≤ b → min most (2 ^ 64 - 1) ≤ b
waited_up most a b h more = grind (arith, h, more)

pub waited_still : (most : ℕ) (c d : Counts) → CountsGrow c d → HasWaited most c → HasWaited most d
waited_still most c d g h = waited_up most c.waits d.waits h g.waits

waited_on : (m n a b : ℕ) → min m (2 ^ 64 - 1) ≤ a → min (a + n) (2 ^ 64 - 1) ≤ b → min (m + n) (2 ^ 64 - 1) ≤ b
waited_on m n a b h more = grind (arith, h, more)

pub waited_more : (from n : ℕ) (c d : Counts) → HasWaited from c → HasWaited (c.waits + n) d → HasWaited (from + n) d
waited_more from n c d h more = waited_on from n c.waits d.waits h more

-- ---- waits

-- where none was waited
pub rests : (asks : ℕ → Option Ask) (first : Option (List Entry)) (from : Outset) {slots : List Slot} {p : Option (List Entry)} {c : Counts} (n : ℕ) → n ≡ 0
    → AllStand asks first from slots p c → AllStand asks first (more_waits n from) slots p c
rests asks first from {slots} {p} {c} n none s =
    let same : from.waits ≡ from.waits + n = omega (arith, none) in
    subst (λ (m : ℕ). AllStand asks first (record from { waits = m }) slots p c) same s

-- as often as so
pub fits : (asks : ℕ → Option Ask) (first : Option (List Entry)) (from : Outset) {slots : List Slot} {p : Option (List Entry)} {c : Counts} (m n : ℕ) → m ≡ n
    → AllStand asks first (more_waits m from) slots p c → AllStand asks first (more_waits n from) slots p c
fits asks first from {slots} {p} {c} m n same s = subst (λ (k : ℕ). AllStand asks first (more_waits k from) slots p c) same s

-- some waits, and then others
pub fits_then : (asks : ℕ → Option Ask) (first : Option (List Entry)) (from : Outset) {slots : List Slot} {p : Option (List Entry)} {c : Counts} (l m n : ℕ) → l + m ≡ n
    → AllStand asks first (more_waits m (more_waits l from)) slots p c → AllStand asks first (more_waits n from) slots p c
fits_then asks first from {slots} {p} {c} l m n same s =
    let all : (from.waits + l) + m ≡ from.waits + n = omega (arith, same) in
    subst (λ (k : ℕ). AllStand asks first (record from { waits = k }) slots p c) all s

-- where the connections are as they were
pub same_lines : (asks : ℕ → Option Ask) (first : Option (List Entry)) (from : Outset) (o : Owed) {slots : List Slot} {p : Option (List Entry)} {c : Counts} (was now : Lines) → now ≡ was
    → AllStand asks first (served_by o was.connections from) slots p c → AllStand asks first (served_by o now.connections from) slots p c
same_lines asks first from o {slots} {p} {c} was now same s = subst (λ (l : Lines). AllStand asks first (served_by o l.connections from) slots p c) (sym same) s

-- ---- faults

fault_as : (f : Fault) (old c d : Counts) (P Q : Type 0) → (P → Q) → old.net ≤ c.net → FaultCause c d P f → FaultCause old d Q f
fault_as (fault.OfJob job) old c d P Q to less h = rose_since old.net c.net d.net less h
fault_as fault.OfAll old c d P Q to less h = rose_since old.net c.net d.net less h
fault_as fault.Spent old c d P Q to less h = to h

-- a fault of calls that may not be out of waits
pub net_fault : (f : Fault) (from : Outset) (c d : Counts) → CountsGrow from.counts c → FaultCause c d ⊥ f → IsFaultOf f from d
net_fault f from c d grow h = fault_as f from.counts c d ⊥ (IsOutOfWaits from d) (λ no. absurd no) grow.net h

-- a fault of calls that wait, of which so many are left
pub wait_fault : (f : Fault) (from : Outset) (c d : Counts) (left rest : ℕ) → CountsGrow from.counts c → from.waits + left ≡ from.most
    → HasWaited (from.waits + (left - rest)) d → FaultCause c d (left ≡ 0) f → IsFaultOf f from d
wait_fault f from c d left rest grow all waited h =
    fault_as f from.counts c d (left ≡ 0) (IsOutOfWaits from d) (λ none.
    let same : from.waits + (left - rest) ≡ from.most = omega (arith, all, none) in
    subst (λ n. HasWaited n d) same waited) grow.net h

-- a fault that is not of the waits
pub net_caused : (f : Fault) (c d : Counts) (P : Type 0) → (f ≡ fault.Spent → ⊥) → Rose c.net d.net → FaultCause c d P f
net_caused (fault.OfJob job) c d P other rose = rose
net_caused fault.OfAll c d P other rose = rose
net_caused fault.Spent c d P other rose = absurd (other refl)

pub all_other : (f : Fault) → f ≡ fault.OfAll → f ≡ fault.Spent → ⊥
all_other f same is = let no : fault.OfAll ≡ fault.Spent = sym same ∙ is in absurd (cc)

-- a fault of the network is no other
pub net_other : (f : LoopFault) (conn : Option Conn) → f ≡ loop_fault.NetFault conn → f ≡ loop_fault.Spent → ⊥
net_other f conn same is = let no : loop_fault.NetFault conn ≡ loop_fault.Spent = sym same ∙ is in absurd (cc)

pub spent_caused : (f : Fault) (c d : Counts) (P : Type 0) → f ≡ fault.Spent → P → FaultCause c d P f
spent_caused f c d P same none = subst (FaultCause c d P) (sym same) none
