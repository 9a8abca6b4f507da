-- When the clock brings something to the jobs of a run, and which want a last look.
use Rattle.std.specs.Prelude.{◌≡◌, ◌<◌, ◌≤◌, ℕ, Bool, false, List, Option, Some, None, length}
use Rattle.std.specs.Prelude.{slice_get}
use Rattle.job_run.specs.Due.{IsDue, WantsLook, is_over}
use Rattle.batch_run.specs.declared.slot.Slot.{Slot}
use Rattle.batch_run.specs.declared.slot.Slot.TheVariants.{Running}

-- a slot runs a job of which it stands how it ended
abbrev pub is_slot_over : Option Slot → Bool
is_slot_over (Some (Running j)) = is_over j
is_slot_over _ = false

-- a slot runs a job that wants a last look
abbrev pub SlotWantsLook : Option Slot → Bool → Type 0
SlotWantsLook (Some (Running j)) wants = WantsLook j wants
SlotWantsLook _ wants = wants ≡ false

-- each number below this one has its answer: whether its slot runs a job that wants a last look
pub record AreLooksBelow (n : ℕ) (slots : List Slot) (looks : List Bool) : Type 0 where
  pub each : (i : ℕ) → i < n →
      (wants : Bool) × (slice_get looks i ≡ Some wants) × SlotWantsLook (slice_get slots i) wants

-- the moment at which the clock next brings something to the job of a slot: none where none runs
abbrev pub IsSlotDue : Slot → Option ℕ → Type 0
IsSlotDue (Running j) due = IsDue j due
IsSlotDue _ due = due ≡ None

-- no later than a moment, where there is one
abbrev pub IsBy : Option ℕ → Option ℕ → Type 0
IsBy due None = Unit {0}
IsBy None (Some t) = ⊥
IsBy (Some d) (Some t) = d ≤ t

-- a slot is due at no moment before this one
pub record IsNotDueBefore (slot : Slot) (due : Option ℕ) : Type 0 where
  pub moment : Option ℕ
  pub is : IsSlotDue slot moment
  pub by : IsBy due moment

-- a slot below this number is due at this moment
pub record HasOneDueAt (n : ℕ) (slots : List Slot) (t : ℕ) : Type 0 where
  pub number : ℕ
  pub slot : Slot
  pub below : number < n
  pub has : slice_get slots number ≡ Some slot
  pub is : IsSlotDue slot (Some t)

-- the earliest moment at which a slot below this number is due: none where none ever is
pub record IsEarliestBelow (n : ℕ) (slots : List Slot) (due : Option ℕ) : Type 0 where
  pub one : (t : ℕ) → due ≡ Some t → HasOneDueAt n slots t
  pub least : (i : ℕ) (slot : Slot) → i < n → slice_get slots i ≡ Some slot →
      IsNotDueBefore slot due

-- the earliest moment at which one of these slots is due
abbrev pub IsEarliestDue : List Slot → Option ℕ → Type 0
IsEarliestDue slots due = IsEarliestBelow (length slots) slots due
