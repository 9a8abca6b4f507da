-- What calls for one job leave of the connections.
use Rattle.std.proofs.Common.{◌≡◌, inl, inr, ◌<◌, ◌≤◌, ◌||◌, ℕ, Bool, true, false, Some, None, Result, Ok, Err, OnOk, arith, refl, sym, ◌∙◌, ap, subst}
use Rattle.std.proofs.lemmas.Bool.{cases_eq, false≢true, ne_eqb}
use Rattle.world.specs.declared.conn.Conn.{Conn}
use Rattle.world.specs.Places.{is_at, place_of}
use Rattle.ready_loop.specs.declared.fault.LoopFault.{LoopFault}
use Rattle.ready_loop.specs.declared.fault.LoopFault.TheVariants.{NetFault, Spent}
use Rattle.ready_loop.specs.declared.readiness.Loop.{Loop}
use Rattle.ready_loop.specs.Begins.{Closes, OnlyOfJob, is_of_job, unless_closed}
use Rattle.ready_loop.specs.Offers.{IsOfConn}
use Rattle.ready_loop.specs.States.{FailsOnly, IsDrained, IsSound, IsWell, OnlyAt, SameKnown, begun_at, failed_at, failed_in, open_left, reads_left, waits_left}
use Rattle.ready_loop.specs.Wires.{ports_in}
use Rattle.ready_loop.proofs.JobLemmas.{conn_in_job, only_conn, only_job_start, only_job_then, open_less, open_most, open_same}
use Rattle.ready_loop.proofs.StateLemmas.{sound_as, sound_at}
use Rattle.batch_run.specs.declared.fault.Fault.{Fault}
use Rattle.batch_run.specs.declared.fault.Fault.TheVariants as fault
use Rattle.batch_run.specs.Kept.{IsBroken, IsKept, IsLeft, IsSoundBut, LeftBy, goes_on}

-- ---- one after another

pub kept_start : (l : Loop) → IsKept l l
kept_start l = record { waits = refl; ports = refl; known = λ p. refl; linked = omega arith; reads = omega arith; drained = λ d. d; sound = λ s. s }

pub kept_then : {a b c : Loop} → IsKept a b → IsKept b c → IsKept a c
kept_then m n = record {
  waits = n.waits ∙ m.waits;
  ports = n.ports ∙ m.ports;
  known = λ p. n.known p ∙ m.known p;
  linked = omega (arith, m.linked, n.linked);
  reads = omega (arith, m.reads, n.reads);
  drained = λ d. n.drained (m.drained d);
  sound = λ s. n.sound (m.sound s);
}

pub left_start : (job : ℕ) (l : Loop) → IsLeft job l l
left_start job l = record { only = only_job_start job l; kept = kept_start l }

pub left_then : {job : ℕ} {a b c : Loop} → IsLeft job a b → IsLeft job b c → IsLeft job a c
left_then m n = record { only = only_job_then m.only n.only; kept = kept_then m.kept n.kept }

-- ---- bytes that are queued

pub queue_left : (conn : Conn) {old new : Loop} → OnlyAt (place_of conn) old new → SameKnown old new → reads_left new ≡ reads_left old → ports_in new ≡ ports_in old
    → (IsDrained old → IsDrained new) → (IsSound old → IsSound new) → IsLeft conn.job old new
queue_left conn at known reads ports drained sound = record {
  only = only_conn conn conn.job refl at;
  kept = record { waits = at.left; ports = ports; known = known.each; linked = omega (arith, open_same known); reads = omega (arith, reads); drained = drained; sound = sound };
}

-- ---- a fault

pub but_sound : (job : ℕ) (l : Loop) → IsSound l → IsSoundBut job l
but_sound job l s = record { each = λ p low none. sound_at l s p low }

pub but_left : {job : ℕ} {a b : Loop} → OnlyOfJob job a b → IsSoundBut job a → IsSoundBut job b
but_left only but = record { each = λ p low none. ap failed_in (only.links p none) ∙ but.each p low none }

-- a connection of a job stands at none of another's places
not_there : (conn : Conn) (job p : ℕ) → conn.job ≡ job → is_of_job job p ≡ false → is_at p conn ≡ false
not_there conn job p own none = elim (cases_eq p (place_of conn)) [
  | inl e ↦ absurd (false≢true (sym none ∙ subst (λ i. is_of_job job i ≡ true) (sym e) (conn_in_job conn job own)))
  | inr ne ↦ ne_eqb p (place_of conn) ne
]

broken_conn : (conn : Conn) (job : ℕ) {old new : Loop} → job ≡ conn.job → IsWell old conn → SameKnown old new
    → ((p : ℕ) → failed_at new p ≡ is_at p conn || failed_at old p) → IsSound old → IsBroken job new
broken_conn conn job {old} is well known fails sound = record {
  few = subst (λ j. j < 16) (sym is) well.job;
  conn = conn;
  own = sym is;
  begun = known.begun (place_of conn) ∙ well.begun;
  but = record { each = λ p low none. fails p ∙ ap (λ b. b || failed_at old p) (not_there conn job p (sym is) none) ∙ sound_at old sound p low };
}

-- a fault breaks the job of the connection that it names
pub broken_by : {T : Type 0} (fault : LoopFault) (conn : Conn) (job : ℕ) {old new : Loop} → fault ≡ NetFault (Some conn) → job ≡ conn.job
    → ((c : Conn) → ◌≡◌ {A = Result T LoopFault} (Err fault) (Err (NetFault (Some c))) → IsWell old c) → SameKnown old new → FailsOnly {T = T} (Err fault) old new → IsSound old → IsBroken job new
broken_by {T} fault conn job {old} {new} same is anew known fails sound =
    broken_conn conn job is (anew conn (ap (λ f. Err f) same)) known (subst (λ f. FailsOnly {T = T} (Err f) old new) same fails).each sound

-- a fault of a connection names it
named : (fault : LoopFault) → IsOfConn fault → (conn : Conn) × (fault ≡ NetFault (Some conn))
named (NetFault (Some conn)) of = (conn, refl)
named (NetFault None) of = absurd of
named Spent of = absurd of

pub broken : {T : Type 0} (fault : LoopFault) (job : ℕ) {old new : Loop} → IsOfConn fault → ((conn : Conn) → fault ≡ NetFault (Some conn) → job ≡ conn.job)
    → ((c : Conn) → ◌≡◌ {A = Result T LoopFault} (Err fault) (Err (NetFault (Some c))) → IsWell old c) → SameKnown old new → FailsOnly {T = T} (Err fault) old new → IsSound old → IsBroken job new
broken fault job of is anew known fails sound =
    let one = named fault of in
    broken_by fault one.0 job one.1 (is one.0 one.1) anew known fails sound

-- none fails by a wait
pub sound_none : {T : Type 0} (fault : LoopFault) {old new : Loop} → fault ≡ NetFault None → FailsOnly {T = T} (Err fault) old new → IsSound old → IsSound new
sound_none {T} fault {old} {new} same fails sound = sound_as old new (subst (λ f. FailsOnly {T = T} (Err f) old new) same fails).each sound

pub sound_spent : {T : Type 0} (fault : LoopFault) {old new : Loop} → fault ≡ Spent → FailsOnly {T = T} (Err fault) old new → IsSound old → IsSound new
sound_spent {T} fault {old} {new} same fails sound = sound_as old new (subst (λ f. FailsOnly {T = T} (Err f) old new) same fails).each sound

-- what a wait leaves that has failed, or wasn't made
pub left_by : (f : Fault) {l : Loop} → goes_on f ≡ false → IsSound l → LeftBy f l
left_by (fault.OfJob job) ends sound = absurd (false≢true (sym ends))
left_by fault.OfAll ends sound = sound
left_by fault.Spent ends sound = sound

-- ---- a job is left

fails_within : {T : Type 0} (r : Result T LoopFault) (job : ℕ) {old mid : Loop} → ((c : Conn) → r ≡ Err (NetFault (Some c)) → c.job ≡ job) → FailsOnly r old mid
    → (p : ℕ) → is_of_job job p ≡ false → failed_at mid p ≡ failed_at old p
fails_within (Ok x) job own fails p none = fails.each p
fails_within (Err (NetFault (Some c))) job {old} own fails p none = fails.each p ∙ ap (λ b. b || failed_at old p) (not_there c job p (own c refl) none)
fails_within (Err Spent) job own fails p none = fails.each p
fails_within (Err (NetFault None)) job own fails p none = fails.each p

-- the one that failed as a job was begun is of it
pub begun_but : {T : Type 0} (fault : LoopFault) (job : ℕ) {old new : Loop} → ((c : Conn) → ◌≡◌ {A = Result T LoopFault} (Err fault) (Err (NetFault (Some c))) → c.job ≡ job)
    → FailsOnly {T = T} (Err fault) old new → IsSound old → IsSoundBut job new
begun_but {T} fault job {old} own fails sound = record { each = λ p low none. fails_within {T = T} (Err fault) job own fails p none ∙ sound_at old sound p low }

unless : (b was : Bool) → (b ≡ false → was ≡ false) → unless_closed b was ≡ false
unless true was e = refl
unless false was e = e refl

-- what it offered last, with its answer, and then its connections were closed
module _ {T : Type 0} (r : Result T LoopFault) (job : ℕ) (old mid new : Loop) (own : (c : Conn) → r ≡ Err (NetFault (Some c)) → c.job ≡ job) (fails : FailsOnly r old mid)
    (known : SameKnown old mid) (closed : (p : ℕ) → failed_at new p ≡ unless_closed (is_of_job job p) (failed_at mid p)) (closes : Closes (λ p. is_of_job job p) mid new) where
  pub leave_sound : IsSoundBut job old → IsSound new
  leave_sound but = record {
    each = λ p link low found.
        sym (ap failed_in found) ∙ closed p ∙ unless (is_of_job job p) (failed_at mid p) (λ none. fails_within r job own fails p none ∙ but.each p low none);
  }

  pub leave_left : OnlyOfJob job old mid → OnlyOfJob job mid new → waits_left mid ≡ waits_left old → waits_left new ≡ waits_left mid → ports_in mid ≡ ports_in old → ports_in new ≡ ports_in mid
      → reads_left mid ≤ reads_left old → reads_left new ≤ reads_left mid → (IsDrained old → IsDrained mid) → (IsDrained mid → IsDrained new) → IsLeft job old new
  leave_left only then w x p q a b d e = record {
    only = only_job_then only then;
    kept = record {
      waits = x ∙ w;
      ports = q ∙ p;
      known = λ i. closes.known i ∙ known.each i;
      linked = let same = open_same known in let most = open_most closes in omega (arith, same, most);
      reads = omega (arith, a, b);
      drained = λ s. e (d s);
      sound = λ s. leave_sound (but_sound job old s);
    };
  }

  pub leave_open : (conn : Conn) → conn.job ≡ job → begun_at old (place_of conn) ≡ true → open_left new < open_left old
  leave_open conn is begun =
      let same = open_same known in
      let less = open_less closes (place_of conn) (conn_in_job conn job is) (known.begun (place_of conn) ∙ begun) in
      omega (arith, same, less)

-- its connections were closed alone
pub close_left : (job : ℕ) (old new : Loop) → Closes (λ p. is_of_job job p) old new → OnlyOfJob job old new → waits_left new ≡ waits_left old → ports_in new ≡ ports_in old
    → reads_left new ≤ reads_left old → (IsDrained old → IsDrained new) → (IsSound old → IsSound new) → IsLeft job old new
close_left job old new closes only waits ports reads drained sound = record {
  only = only;
  kept = record { waits = waits; ports = ports; known = closes.known; linked = open_most closes; reads = reads; drained = drained; sound = sound };
}

-- what holds behind an answer that went well
pub on_ok : {T E A B : Type 0} (r : Result T E) → (A → B) → OnOk r A → OnOk r B
on_ok (Ok x) f a = f a
on_ok (Err e) f a = tt
