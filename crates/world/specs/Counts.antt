-- The counts of a world, and what a call of one part does to them.
use Rattle.std.specs.Prelude.{◌≡◌, ℕ, ◌+◌, ◌≤◌, ◌^◌, ◌-◌, min}

-- how often each part has failed, how many waits there were, and what the clock gave last
pub record Counts : Type 0 where
  pub disk : ℕ
  pub net : ℕ
  pub waits : ℕ
  pub child : ℕ
  pub rand : ℕ
  pub say : ℕ
  pub last : ℕ

-- nothing has failed, nothing was waited for, and no time was given
abbrev pub no_counts : Counts
no_counts = record { disk = 0; net = 0; waits = 0; child = 0; rand = 0; say = 0; last = 0 }

-- a count has risen, or stands at the last value of a `u64`
abbrev pub Rose : ℕ → ℕ → Type 0
Rose before now = min (before + 1) (2 ^ 64 - 1) ≤ now

-- a count didn't fall, and failure comes only where it rose
pub record HasCause (before now : ℕ) (failed : Type 0) : Type 0 where
  pub later : before ≤ now
  pub cause : failed → Rose before now

-- a call of the disk: only its count may have changed, and failure comes only where it rose
pub record DiskCause (old new : Counts) (failed : Type 0) : Type 0 where
  pub others : new ≡ record old { disk = new.disk }
  pub disk : HasCause old.disk new.disk failed

-- a call on connections
pub record NetCause (old new : Counts) (failed : Type 0) : Type 0 where
  pub others : new ≡ record old { net = new.net }
  pub net : HasCause old.net new.net failed

-- a wait, which is counted
pub record WaitCause (old new : Counts) (failed : Type 0) : Type 0 where
  pub others : new ≡ record old { net = new.net; waits = min (old.waits + 1) (2 ^ 64 - 1) }
  pub waits : old.waits ≤ new.waits
  pub net : HasCause old.net new.net failed

-- a start of a child
pub record ChildCause (old new : Counts) (failed : Type 0) : Type 0 where
  pub others : new ≡ record old { child = new.child }
  pub child : HasCause old.child new.child failed

-- a random word
pub record RandCause (old new : Counts) (failed : Type 0) : Type 0 where
  pub others : new ≡ record old { rand = new.rand }
  pub rand : HasCause old.rand new.rand failed

-- what is said
pub record SayCause (old new : Counts) (failed : Type 0) : Type 0 where
  pub others : new ≡ record old { say = new.say }
  pub say : HasCause old.say new.say failed

-- the counts of a world before and after a call are related by this rule
abbrev pub CountsBy : {W : Type 0} → (Counts → Counts → Type 0 → Type 0) → (W → Counts) → W → W → Type 0 → Type 0
CountsBy rule counts old new failed = rule (counts old) (counts new) failed

-- calls of any parts: no count fell
pub record CountsGrow (old new : Counts) : Type 0 where
  pub disk : old.disk ≤ new.disk
  pub net : old.net ≤ new.net
  pub waits : old.waits ≤ new.waits
  pub child : old.child ≤ new.child
  pub rand : old.rand ≤ new.rand
  pub say : old.say ≤ new.say
  pub last : old.last ≤ new.last
