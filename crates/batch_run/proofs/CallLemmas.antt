-- Calls of one job and of the loop, as calls of a run.
use Rattle.std.proofs.Common.{◌≡◌, ◌≢◌, ◌⊎◌, inl, inr, ℕ, ◌==◌, ◌||◌, List, [], ◌∷◌, Bool, true, false, Option, Some, None, refl, sym, ◌∙◌, ap, subst}
use Rattle.std.specs.Prelude.{IfSome, if◌then◌else◌}
use Rattle.std.specs.Str.{bytes_eq}
use Rattle.std.proofs.lemmas.Bool.{eq-eqb, eqb-true}
use Rattle.std.proofs.lemmas.Option.{same_Some}
use Rattle.words.specs.declared.ask.Ask.{Ask}
use Rattle.words.specs.Paths.{connection_of}
use Rattle.world.specs.declared.entry.Entry.{Entry}
use Rattle.world.specs.declared.entry.Entry.TheVariants as made
use Rattle.world.specs.Counts.{Counts}
use Rattle.world.specs.Moments.{Since, start, more as later, Told}
use Rattle.world.specs.Parts.{Part, OnDisk, OnWire, OnKids, OnClock, OnSay, part_of}
use Rattle.world.specs.Touched.{touches, Spares}
use Rattle.world.proofs.MomentsLemmas.{since_as, told_as}
use Rattle.said_lines.specs.Speech.{heard}
use Rattle.world.specs.Save.{temporary_of}
use Rattle.ready_loop.proofs.PartLemmas.{loop_part}
use Rattle.ready_loop.specs.Standing.{IsLoopEntry, IsOfLoop}
use Rattle.job_saves.specs.Calls.{Cast, IsOwnFile, IsCallOf, IsCallBy, IsCall}
use Rattle.job_saves.specs.Children.{has_child, ports_of, KeepsEnd, AsksNone}
use Rattle.job_saves.specs.Course.{TellsAll}
use Rattle.job_saves.specs.Speaking.{SpeaksWhole}
use Rattle.job_saves.proofs.KeptLemmas.{child_other, heard_other}
use Rattle.job_saves.proofs.CourseLemmas.{work_start}
use Rattle.nb_model.specs.declared.notebook.Notebook.{Notebook}
use Rattle.cell_core.specs.Task.{Task}
use Rattle.job_begin.specs.Begun.{counted_task}
use Rattle.job_run.specs.Task.{task_for}
use Rattle.job_run.specs.declared.job.Job.{Job}
use Rattle.job_run.specs.Run.{HasRole, IsOther}
use Rattle.batch_run.specs.Batch.{IsNoPath, cast_of, IsRunCall}
use Rattle.batch_run.specs.Stands.{PlaysRole}
use Rattle.save_course.proofs.CourseLemmas.{spared_other}

-- ---- one job alone

-- the job of this number alone
abbrev pub sole : ℕ → Ask → List ℕ → Bool → Bool → Cast
sole k a here starts clean = record { job = λ n. if n == k then Some a else None; here = here; starts = starts; clean = clean }

pub sole_here : (k : ℕ) (a : Ask) → (if k == k then Some a else None) ≡ Some a
sole_here k a = subst (λ (x : Bool). (if x then Some a else None) ≡ Some a) (sym (eq-eqb k k refl)) refl

sole_by : (n k : ℕ) (a b : Ask) (x : Bool) → (n == k) ≡ x → (if x then Some a else None) ≡ Some b → (n ≡ k) × (a ≡ b)
sole_by n k a b true is e = (eqb-true n k is, same_Some _ _ e)
sole_by n k a b false is e = absurd (cc)

pub sole_at : (n k : ℕ) (a b : Ask) → (if n == k then Some a else None) ≡ Some b → (n ≡ k) × (a ≡ b)
sole_at n k a b e = sole_by n k a b (n == k) refl e

-- its call is a call of the run
wide_entry : (asks : ℕ → Option Ask) (here : List ℕ) (clean : Bool) (k : ℕ) (a : Ask) → asks k ≡ Some a → (past : List Entry) (entry : Entry) → IsCallBy (sole k a here true clean) past entry
    → IsCallBy (cast_of asks here clean) past entry
wide_entry asks here clean k a own past entry is =
    let at = sole_at is.number k a is.ask is.has in
    record { number = is.number; ask = is.ask; has = subst (λ n. asks n ≡ Some is.ask) (sym at.0) (own ∙ ap Some at.1); is = is.is }

wide : (asks : ℕ → Option Ask) (here : List ℕ) (clean : Bool) (k : ℕ) (a : Ask) → asks k ≡ Some a → (now : List Entry) → IsCall (sole k a here true clean) now
    → IsRunCall (cast_of asks here clean) now
wide asks here clean k a own [] is = absurd is
wide asks here clean k a own (entry ∷ past) is = inl (wide_entry asks here clean k a own past entry is)

pub calls_wide : (asks : ℕ → Option Ask) (here : List ℕ) (clean : Bool) (k : ℕ) (a : Ask) → asks k ≡ Some a → {x y : List Entry} → Since (IsCall (sole k a here true clean)) x y
    → Since (IsRunCall (cast_of asks here clean)) x y
calls_wide asks here clean k a own s = since_as (wide asks here clean k a own) s

-- ---- paths that are not the job's

own_spares : (path : List ℕ) (a : Ask) (p : List ℕ) → IsOther a.output path → (p ≡ temporary_of a.output) ⊎ (p ≡ connection_of a.output) → bytes_eq p path ≡ false
own_spares path a p o (inl e) = subst (λ q. bytes_eq q path ≡ false) (sym e) o.temporary
own_spares path a p o (inr e) = subst (λ q. bytes_eq q path ≡ false) (sym e) o.connection

file_spares : (path : List ℕ) (clean : Bool) (n : ℕ) (a : Ask) (past : List Entry) (p : List ℕ) → IsOther a.output path → IsOwnFile clean n a past p → bytes_eq p path ≡ false
file_spares path clean n a past p o (inl e) = own_spares path a p o (inl e)
file_spares path clean n a past p o (inr e) = own_spares path a p o (inr e.0)

renamed_spares : (path from to : List ℕ) → bytes_eq to path ≡ false → bytes_eq from path ≡ false → (bytes_eq to path || bytes_eq from path) ≡ false
renamed_spares path from to e f = subst (λ (x : Bool). (x || bytes_eq from path) ≡ false) (sym e) f

pub call_spares : (path here : List ℕ) (starts clean : Bool) (n : ℕ) (a : Ask) (past : List Entry) (entry : Entry) → IsOther a.output path → IsCallOf here starts clean n a past entry
    → touches path entry ≡ false
call_spares path here starts clean n a past (made.Created p did) o (inl e) = own_spares path a p o (inl e)
call_spares path here starts clean n a past (made.Created p did) o (inr e) = own_spares path a p o (inr e.0)
call_spares path here starts clean n a past (made.Wrote p bytes did) o is = file_spares path clean n a past p o is
call_spares path here starts clean n a past (made.Synced p did) o is = file_spares path clean n a past p o is
call_spares path here starts clean n a past (made.Renamed from to did) o is =
    renamed_spares path from to (subst (λ q. bytes_eq q path ≡ false) (sym is.1) o.output_is) (own_spares path a from o (inl is.0))
call_spares path here starts clean n a past (made.Removed p did) o is = own_spares path a p o (inr is)
call_spares path here starts clean n a past (made.DirSynced dir did) o is = refl
call_spares path here starts clean n a past (made.Read p most found) o is = refl
call_spares path here starts clean n a past (made.Ports job ports) o is = refl
call_spares path here starts clean n a past (made.Started job argv env dir did) o is = refl
call_spares path here starts clean n a past (made.Looked job status) o is = refl
call_spares path here starts clean n a past (made.Killed job) o is = refl
call_spares path here starts clean n a past (made.Moment ms) o is = refl
call_spares path here starts clean n a past (made.Word word) o is = refl
call_spares path here starts clean n a past (made.Said bytes did) o is = refl
call_spares path here starts clean n a past (made.Connected conn port how) o is = refl
call_spares path here starts clean n a past (made.Closed conn) o is = refl
call_spares path here starts clean n a past (made.Got conn room bytes) o is = refl
call_spares path here starts clean n a past (made.Dry conn) o is = refl
call_spares path here starts clean n a past (made.Ended conn by) o is = refl
call_spares path here starts clean n a past (made.Refused conn by) o is = refl
call_spares path here starts clean n a past (made.ReadFailed conn) o is = refl
call_spares path here starts clean n a past (made.Put conn bytes) o is = refl
call_spares path here starts clean n a past (made.Stuck conn) o is = refl
call_spares path here starts clean n a past (made.PutFailed conn) o is = refl
call_spares path here starts clean n a past (made.Waited ms reports did) o is = refl

sole_spares_entry : (k : ℕ) (a : Ask) (here path : List ℕ) (starts clean : Bool) (past : List Entry) (entry : Entry) → IsOther a.output path → IsCallBy (sole k a here starts clean) past entry
    → touches path entry ≡ false
sole_spares_entry k a here path starts clean past entry o is =
    let at = sole_at is.number k a is.ask is.has in
    call_spares path here starts clean is.number is.ask past entry (subst (λ x. IsOther (Ask.output x) path) at.1 o) is.is

sole_spares : (k : ℕ) (a : Ask) (here path : List ℕ) (starts clean : Bool) → IsOther a.output path → (now : List Entry) → IsCall (sole k a here starts clean) now → Spares path now
sole_spares k a here path starts clean o [] is = absurd is
sole_spares k a here path starts clean o (entry ∷ past) is = sole_spares_entry k a here path starts clean past entry o is

pub calls_spare : (k : ℕ) (a : Ask) (here path : List ℕ) (starts clean : Bool) → IsOther a.output path → {x y : List Entry} → Since (IsCall (sole k a here starts clean)) x y → Since (Spares path) x y
calls_spare k a here path starts clean o s = since_as (sole_spares k a here path starts clean o) s

-- a call of the loop is of no other part
other_part : (part : Part) (entry : Entry) → part ≢ OnWire → part ≢ OnClock → IsLoopEntry entry → part_of entry ≢ part
other_part part entry wire clock is = elim (loop_part entry is) [
  | inl e ↦ λ f. wire (sym f ∙ e)
  | inr e ↦ λ f. clock (sym f ∙ e)
]

loop_other : (entry : Entry) → IsLoopEntry entry → part_of entry ≢ OnDisk
loop_other entry is = other_part OnDisk entry (λ e. absurd (cc)) (λ e. absurd (cc)) is

pub loop_spares : (path : List ℕ) (now : List Entry) → IsOfLoop now → Spares path now
loop_spares path [] is = absurd is
loop_spares path (entry ∷ past) is = spared_other path entry (loop_other entry is)

-- a call of a run touches no other path than those of its jobs
pub run_spares : (asks : ℕ → Option Ask) (here path : List ℕ) (clean : Bool) → IsNoPath asks path → (now : List Entry) → IsRunCall (cast_of asks here clean) now → Spares path now
run_spares asks here path clean none [] (inl is) = absurd is
run_spares asks here path clean none (entry ∷ past) (inl is) = call_spares path here true clean is.number is.ask past entry (none is.number is.ask is.has) is.is
run_spares asks here path clean none now (inr is) = loop_spares path now is.is

-- ---- children

loop_since : (n : ℕ) {x y : List Entry} → Since IsOfLoop x y → has_child n x ≡ false → has_child n y ≡ false
loop_since n start h = h
loop_since n (later {past} {entry} s is) h = child_other n entry past (other_part OnKids entry (λ e. absurd (cc)) (λ e. absurd (cc)) is) (loop_since n s h)

pub loop_keeps_end : (n : ℕ) (p q : Option (List Entry)) → Told p q (Since IsOfLoop) → KeepsEnd n p q
loop_keeps_end n p None told h = tt
loop_keeps_end n None (Some y) told h = absurd told.so
loop_keeps_end n (Some x) (Some y) told h = loop_since n told.so h

-- ---- what is heard, and ports

heard_since : {x y : List Entry} → Since IsOfLoop x y → heard y ≡ heard x
heard_since start = refl
heard_since (later {past} {entry} s is) = heard_other entry past (other_part OnSay entry (λ e. absurd (cc)) (λ e. absurd (cc)) is) ∙ heard_since s

pub loop_quiet : {p q : Option (List Entry)} → Told p q (Since IsOfLoop) → Told p q (λ before after. heard after ≡ heard before)
loop_quiet told = told_as told (λ x y s. heard_since s)

-- no call of the loop asks for ports
ports_one : (n : ℕ) (entry : Entry) (past : List Entry) → IsLoopEntry entry → ports_of n (entry ∷ past) ≡ ports_of n past
ports_one n (made.Ports job ports) past is = absurd is
ports_one n _ past is = refl

pub loop_ports : (n : ℕ) {x y : List Entry} → Since IsOfLoop x y → ports_of n y ≡ ports_of n x
loop_ports n start = refl
loop_ports n (later {past} {entry} s is) = ports_one n entry past is ∙ loop_ports n s

pub loop_asks_none : (n : ℕ) (p q : Option (List Entry)) → Told p q (Since IsOfLoop) → AsksNone n p → AsksNone n q
loop_asks_none n p None told h = tt
loop_asks_none n None (Some y) told h = absurd told.so
loop_asks_none n (Some x) (Some y) told h = loop_ports n told.so ∙ h

-- ---- the role of a job

pub plays : (k : ℕ) (a : Ask) (here : List ℕ) (starts clean : Bool) (j : Job) (since : List Entry) (p : Option (List Entry)) (c : Counts) → (clean ≡ true → SpeaksWhole p c)
    → (clean ≡ true → TellsAll a j.run.book p c) → PlaysRole k a j
    → IfSome p (Since (IsCall (sole k a here starts clean)) since) → HasRole (sole k a here starts clean) since c j p c
plays k a here starts clean j since p c spoken tells r held = record {
  part = record { number = k; ask = a; has = sole_here k a; output = r.output; so = record { told = held; counts_work = work_start c; spoken = spoken }; told = tells };
  role = record {
    ask = a;
    has = subst (λ (n : ℕ). (if n == k then Some a else None) ≡ Some a) (sym r.number_is) (sole_here k a);
    connection = r.connection;
    folder = r.folder;
  };
}

pub played : (k : ℕ) (a : Ask) (here : List ℕ) (starts clean : Bool) (since : List Entry) (from : Counts) (j : Job) (p : Option (List Entry)) (c : Counts)
    → HasRole (sole k a here starts clean) since from j p c → PlaysRole k a j
played k a here starts clean since from j p c h =
    let at = sole_at j.number k a h.role.ask h.role.has in
    let part = sole_at h.part.number k a h.part.ask h.part.has in
    record {
      number_is = at.0;
      output = h.part.output ∙ ap (λ (x : Ask). x.output) (sym part.1);
      connection = h.role.connection ∙ ap (λ (x : Ask). connection_of x.output) (sym at.1);
      folder = h.role.folder ∙ ap (λ (x : Ask). x.cwd) (sym at.1);
    }

-- what its saves were told
pub played_tells : (k : ℕ) (a : Ask) (here : List ℕ) (starts clean : Bool) (since : List Entry) (from : Counts) (j : Job) (p : Option (List Entry)) (c : Counts)
    → HasRole (sole k a here starts clean) since from j p c → clean ≡ true → TellsAll a j.run.book p c
played_tells k a here starts clean since from j p c h on =
    subst (λ (x : Ask). TellsAll x j.run.book p c) (sym (sole_at h.part.number k a h.part.ask h.part.has).1) (h.part.told on)

-- ---- its task

-- the task that is told of is that of the job
option_is : (b : Bool) (x t : Task) → (if b then None else Some x) ≡ Some t → t ≡ x
option_is true x t e = absurd (cc)
option_is false x t e = sym (same_Some _ _ e)

pub counted_is : (a : Ask) (first : Notebook) (t : Task) → counted_task a first ≡ Some t → t ≡ task_for a first
counted_is a first t e = option_is a.prepare (task_for a first) t e
