-- What the steps of a job's begin make together.
use Rattle.std.proofs.Common.{◌≡◌, inl, inr, ℕ, Bool, true, false, List, [], ◌∷◌, ◌++◌, length, Option, Some, None, Result, Ok, Err, refl, sym, ap, subst, ◌∙◌, arith, length-append}
use Rattle.std.specs.Prelude.{IfSome, IfOk, IfErr, if◌then◌else◌}
use Rattle.nb_model.specs.declared.notebook.Notebook.{Notebook}
use Rattle.nb_model.specs.Prepared.{prepared_notebook}
use Rattle.words.specs.declared.ask.Ask.{Ask}
use Rattle.world.specs.declared.entry.Entry.{Entry}
use Rattle.world.specs.declared.entry.Entry.TheVariants as made
use Rattle.world.specs.Counts.{Counts, CountsGrow, Rose}
use Rattle.world.specs.Moments.{Since, start, more as later, Told}
use Rattle.world.specs.Touched.{Spares}
use Rattle.world.proofs.CountsLemmas.{grow_start}
use Rattle.world.proofs.MomentsLemmas.{told_as as moments_as, told_then}
use Rattle.world.specs.Parts.{OnDisk, IsOf}
use Rattle.world.specs.declared.read_file.ReadFile.{ReadFile}
use Rattle.world.specs.declared.read_file.ReadFile.TheVariants as answer
use Rattle.kernel_start.specs.declared.kernel.Kernel.{Kernel}
use Rattle.kernel_start.specs.declared.kernel_fault.KernelFault.{KernelFault}
use Rattle.kernel_start.specs.Finding.{HasGoodName, Finds, no_name, bad_name, no_path, not_read, too_large, no_bytes, bad_spec, no_spec, found, FindsBy, read_entries, spec_path}
use Rattle.save_course.specs.Course.{begins, IsRested}
use Rattle.job_end.specs.declared.answer.Answer.{Answer}
use Rattle.job_end.specs.declared.end.End.{End}
use Rattle.job_saves.specs.Course.{Origin, IsFor, IsSaved, HasSaved, HasCalled, LacksSaves, HasOnlyRead, CountsWork, Begins, Ends, keeps_open}
use Rattle.job_saves.specs.Calls.{Cast, IsCallBy, IsCall}
use Rattle.job_saves.specs.Children.{KeepsEnd, AsksNone}
use Rattle.job_saves.specs.Reads.{IsInputOf, IsFirstOf, IsNotebookOf, IsKernelOf, first_of}
use Rattle.job_saves.proofs.ChildLemmas.{told_keeps_end}
use Rattle.job_saves.proofs.KeptLemmas.{part_quiet, part_keeps_end, part_asks_none}
use Rattle.job_saves.proofs.ReadLemmas.{notebook_later}
use Rattle.job_saves.proofs.ToldLemmas.{told_by}
use Rattle.job_notebook.specs.declared.notebook.JobNotebook.{JobNotebook}
use Rattle.job_notebook.specs.State.{merge_of, output_of}
use Rattle.job_saves.proofs.CourseLemmas.{told_as, told_on, calls_on, begins_pass, work_start}
use Rattle.job_journal.specs.Plot.{Plot}
use Rattle.job_run.proofs.SpeakLemmas.{session_since}
use Rattle.job_run.specs.declared.job.Job.{Job}
use Rattle.job_run.specs.Beginning.{HasSession, IsFresh}
use Rattle.cell_core.specs.Task.{Task}
use Rattle.job_run.proofs.TurnLemmas.{new_passes, begins_rested}
use Rattle.job_run.specs.Run.{StartsAs, BeginsAs, BeginsNew, Runs, IsCastAs, HasNoChild, HasNoPorts, HasNoSave, OnlyReads, StartsInRole, HasRole}
use Rattle.job_run.proofs.OutcomeLemmas.{shut_by}
use Rattle.job_begin.specs.Causes.{HasCause}
use Rattle.job_begin.proofs.CountLemmas.{answer_counts}
use Rattle.job_begin.specs.Steps.{EndsCounted}
use Rattle.job_begin.specs.Standing.{IsPlotWith, BeginsAsPlot, BeginsSpeaking}
use Rattle.job_begin.specs.Begun.{counted_task, Begun, with_notebook, HasRead, AnswersAs, BeginsWith, FindsKernel, IsOpen, origin_of}

-- ---- an end without a save

pub end_unsaved : (o : Origin) (e : End) (j : Option (List Entry)) (c : Counts) → IsOpen e → Begins o j c → Ends o (keeps_open e) j c
end_unsaved o e j c unsaved s = subst (λ b. Ends o b j c) (sym unsaved) (record {
  told = λ on. told_as j (IsSaved o true 0) (HasSaved o true) (λ past h. record { settled = 0; is = h }) (s.told on);
  grow = s.grow;
  cause = λ f. absurd (cc);
})

-- ---- the notebook of a job

pub for_book : (a : Ask) (b : JobNotebook) (n : Notebook) (o : Origin) → output_of b ≡ a.output → merge_of b ≡ a.merge → IsFor a.output a.merge n o → IsFor (output_of b) (merge_of b) n o
for_book a b n o output merge for = record { output_is = for.output_is ∙ sym output; merge_is = for.merge_is ∙ sym merge; first_is = for.first_is }

-- the notebook that a job saves first, by what it has read
read_first : (a : Ask) (n : Notebook) (past : List Entry) → a.prepare ≡ true → IsInputOf a past n → IsFirstOf a past n
read_first a n past saves input = record { given = n; input = input; is = sym (ap (λ b. if b then n else prepared_notebook n) saves) }

pub only_given : (a : Ask) (n : Notebook) (j : Option (List Entry)) → a.prepare ≡ true → IfSome j (λ past. IsInputOf a past n) → IfSome j (LacksSaves a.output)
    → IfSome j (HasOnlyRead a n)
only_given a n None saves input lacks = tt
only_given a n (Some past) saves input lacks = record { own = read_first a n past saves input; lacks = lacks }

prepared_first : (a : Ask) (n : Notebook) (past : List Entry) → a.prepare ≡ false → IsNotebookOf a past n → IsFirstOf a past n
prepared_first a n past runs own = record { given = own.given; input = own.input; is = own.is ∙ sym (ap (λ b. if b then own.given else prepared_notebook own.given) runs) }

pub only_prepared : (a : Ask) (n : Notebook) (j : Option (List Entry)) → a.prepare ≡ false → IfSome j (λ past. IsNotebookOf a past n) → IfSome j (LacksSaves a.output)
    → IfSome j (HasOnlyRead a n)
only_prepared a n None runs own lacks = tt
only_prepared a n (Some past) runs own lacks = record { own = prepared_first a n past runs own; lacks = lacks }

-- ---- calls add to the journal

-- what was told is still there
pub record Appends (before after : List Entry) : Type 0 where
  pub added : List Entry
  pub is : after ≡ added ++ before

appends : {P : List Entry → Type 0} {before after : List Entry} → Since P before after → Appends before after
appends start = record { added = []; is = refl }
appends (later {entry = entry} since p) = let a = appends since in record { added = entry ∷ a.added; is = ap (λ xs. entry ∷ xs) a.is }

not_longer : (entry : Entry) (y : List Entry) → Appends (entry ∷ y) y → ⊥
not_longer entry y a = omega (arith, ap length a.is, length-append a.added (entry ∷ y))

pub starts_called : {E : Type 0} (cast : Cast) (since : List Entry) (from : Counts) (result : Result Job E) (k : Option (List Entry)) (d : Counts)
    → StartsInRole cast since from result k d → HasCalled cast since from k d
starts_called cast since from (Ok j) k d h = h.part.so
starts_called cast since from (Err e) k d h = h

-- the job that is asked for alone
abbrev pub sole : Ask → List ℕ → Bool → Cast
sole a here starts = record { job = λ n. Some a; here = here; starts = starts; clean = false }

-- so its calls are called for
sole_calls : (a : Ask) (here : List ℕ) (starts : Bool) (since : List Entry) (j : Option (List Entry)) (c : Counts) → IfSome j (Since (IsCall (sole a here starts)) since)
    → HasCalled (sole a here starts) since c j c
sole_calls a here starts since j c held = record { told = held; counts_work = work_start c; spoken = λ e. absurd (cc) }

module _ {E : Type 0} (a : Ask) (number : ℕ) (here : List ℕ) (result : Result Job E) (c d : Counts) where
  abbrev Calls : Option (List Entry) → Option (List Entry) → Type 0
  Calls j k = (cast : Cast) (since : List Entry) (from : Counts) → IsCastAs cast number a here → HasNoChild cast number j → HasNoPorts cast number j → HasNoSave cast a j
      → HasCalled cast since from j c
      → StartsInRole cast since from result k d

  pub told_appends : (j k : Option (List Entry)) → Calls j k → Told j k Appends
  told_appends j k calls =
      let cast : Cast = sole a here true in
      told_adds (told_by (IsCall cast) j k (λ since held.
      (starts_called cast since c result k d (calls cast since c (record { has = refl; folder = refl; starts = refl }) (λ e. absurd (cc)) (λ e. absurd (cc)) (λ e. absurd (cc)) (sole_calls a here true since j c held))).told))
    where
      told_adds : {i m : Option (List Entry)} {P : List Entry → Type 0} → Told i m (Since P) → Told i m Appends
      told_adds told = moments_as told (λ x y s. appends s)

-- ---- the session of a job

-- its words were drawn since an earlier moment too
earlier_session : (number : ℕ) (output : List ℕ) (j : Job) (before mid after : List Entry) → Appends before mid → HasSession number output j mid after → HasSession number output j before after
earlier_session number output j before mid after a s = session_since number output j.run.session.name j.run.session.key before mid after a.added a.is s

-- some calls, and then the start of the job
pub spoken_since : {P : List Entry → Type 0} (number : ℕ) (output : List ℕ) (r : Result Job End) (i j k : Option (List Entry)) → Told i j (Since P)
    → IfOk r (λ job. Told j k (HasSession number output job)) → IfOk r (λ job. Told i k (HasSession number output job))
spoken_since number output (Ok job) i j k told spoken = told_then told spoken (λ x y z s h. earlier_session number output job x y z (appends s) h)
spoken_since number output (Err e) i j k told spoken = tt

-- so it speaks, by its answer
begun_speaks : (number : ℕ) (output : List ℕ) (begun : Result Job End) (result : Result Job Answer) (before mid after : List Entry) → AnswersAs output begun result → Appends before mid
    → IfOk begun (λ job. Told (Some mid) (Some after) (HasSession number output job)) → BeginsSpeaking number output result before after
begun_speaks number output (Ok j) (Ok k) before mid after same a spoken = subst (λ job. HasSession number output job before after) (sym same) (earlier_session number output j before mid after a spoken.so)
begun_speaks number output (Err e) (Err answer) before mid after answers a spoken = tt
begun_speaks number output (Ok j) (Err answer) before mid after wrong a spoken = absurd wrong
begun_speaks number output (Err e) (Ok k) before mid after wrong a spoken = absurd wrong

-- ---- children

-- calls that save a notebook, and no more
abbrev Saving : Ask → Notebook → Option (List Entry) → Option (List Entry) → Counts → Counts → Type 0
Saving a first j k c d = (cast : Cast) (number : ℕ) (since : List Entry) (from : Counts) → cast.job number ≡ Some a → OnlyReads cast a first j → HasCalled cast since from j c
    → HasCalled cast since from k d

-- they are told
pub saving_told : (a : Ask) (first : Notebook) (j k : Option (List Entry)) (c d : Counts) → Saving a first j k c d → Told j k (Since (IsCall (sole a [] false)))
saving_told a first j k c d calls =
    let cast : Cast = sole a [] false in
    told_by (IsCall cast) j k (λ since held. (calls cast 0 since c refl (λ e. absurd (cc)) (sole_calls a [] false since j c held)).told)

-- they start no child
pub none_started_in : (a : Ask) (first : Notebook) (n : ℕ) (j k : Option (List Entry)) (c d : Counts) → Saving a first j k c d → KeepsEnd n j k
none_started_in a first n j k c d calls = told_keeps_end (sole a [] false) n (λ number b has starts. absurd (cc)) j k (saving_told a first j k c d calls)

-- calls of the disk alone
pub disk_keeps_end : (n : ℕ) (j k : Option (List Entry)) → Told j k (Since (IsOf OnDisk)) → KeepsEnd n j k
disk_keeps_end n j k told = part_keeps_end n j k (λ e. absurd (cc)) told

pub disk_asks_none : (n : ℕ) (j k : Option (List Entry)) → Told j k (Since (IsOf OnDisk)) → AsksNone n j → AsksNone n k
disk_asks_none n j k told = part_asks_none n j k (λ e. absurd (cc)) told

pub disk_calls : (cast : Cast) (since : List Entry) (from c d : Counts) (j k : Option (List Entry)) → Told j k (Since (IsCall cast)) → Told j k (Since (IsOf OnDisk)) → CountsWork c d
    → HasCalled cast since from j c → HasCalled cast since from k d
disk_calls cast since from c d j k told part work so = calls_on cast since from c d j k told (part_quiet (λ e. absurd (cc)) part) work so

-- ---- the calls of the begin

pub reads_input : (a : Ask) (cast : Cast) (number : ℕ) → cast.job number ≡ Some a → (answer : ReadFile) (past : List Entry)
    → IsCallBy cast past (made.Read a.input 33554432 answer)
reads_input a cast number has answer past = record { number = number; ask = a; has = has; is = inl (refl, refl) }

-- the notebook that was read
pub input_read : (a : Ask) (n : Notebook) (j k : Option (List Entry)) → Told j k (HasRead a n) → IfSome k (λ past. IsInputOf a past n)
input_read a n j None told = tt
input_read a n None (Some y) told = absurd told.so
input_read a n (Some x) (Some y) told =
    let h : HasRead a n x y = told.so in
    record { bytes = h.bytes; read = record { later = []; before = x; is = h.is }; accepted = h.accepted }

-- and the same, prepared
pub input_prepared : (a : Ask) (n m : Notebook) (j : Option (List Entry)) → m ≡ prepared_notebook n → IfSome j (λ past. IsInputOf a past n) → IfSome j (λ past. IsNotebookOf a past m)
input_prepared a n m j is read = told_as j (λ past. IsInputOf a past n) (λ past. IsNotebookOf a past m) (λ past h. record { given = n; input = h; is = is }) read

named_by : (a : Ask) (n : Notebook) (answer : Option ReadFile) (result : Result Kernel KernelFault) → Finds a n answer result → (r : ReadFile) → answer ≡ Some r → HasGoodName a n
named_by a n _ _ (no_name none) r is = absurd (cc)
named_by a n _ _ (bad_name has bad) r is = absurd (cc)
named_by a n _ _ (no_path good) r is = good
named_by a n _ _ (not_read good) r is = good
named_by a n _ _ (too_large good) r is = good
named_by a n _ _ (no_bytes good) r is = good
named_by a n _ _ (bad_spec good refuses) r is = good
named_by a n _ _ (no_spec good) r is = good
named_by a n _ _ (found good says folder) r is = good

module _ (a : Ask) (n : Notebook) (result : Result Kernel KernelFault) (cast : Cast) (number : ℕ) (has : cast.job number ≡ Some a) (before : List Entry) (own : IsNotebookOf a before n) where
  spec_read : (answer : Option ReadFile) → Finds a n answer result → Since (IsCall cast) before (read_entries a n answer before)
  spec_read None finds = start
  spec_read (Some r) finds = later start (record {
    number = number;
    ask = a;
    has = has;
    is = inr (record { notebook = n; own = own; named = named_by a n (Some r) result finds r refl; is = refl }, refl);
  })

  finds_called : (after : List Entry) → FindsBy a n result before after → Since (IsCall cast) before after
  finds_called after f = subst (Since (IsCall cast) before) (sym f.ends) (spec_read f.answer f.finds)

pub finds_told : (a : Ask) (n : Notebook) (result : Result Kernel KernelFault) (cast : Cast) (number : ℕ) → cast.job number ≡ Some a → (j k : Option (List Entry))
    → IfSome j (λ past. IsNotebookOf a past n) → Told j k (FindsBy a n result) → Told j k (Since (IsCall cast))
finds_told a n result cast number has j None own told = record { so = tt }
finds_told a n result cast number has None (Some y) own told = absurd told.so
finds_told a n result cast number has (Some x) (Some y) own told = record { so = finds_called a n result cast number has x own y told.so }

-- a kernel that was found is one that was asked for
kernel_found : (a : Ask) (n : Notebook) (answer : Option ReadFile) (kernel : Kernel) (before after : List Entry) → Finds a n answer (Ok kernel) → after ≡ read_entries a n answer before
    → IsNotebookOf a before n → IsKernelOf a after kernel
kernel_found a n _ kernel before after (found {bytes} good says folder) ends own = record {
  notebook = n;
  own = subst (λ past. IsNotebookOf a past n) (sym ends) (notebook_later a n (any before (made.Read (spec_path a n) 1048576 (answer.Whole bytes))) own);
  named = good;
  bytes = bytes;
  read = record { later = []; before = before; is = ends };
  says = says;
  folder = folder;
}
  where
    any : (past : List Entry) (entry : Entry) → Since (λ (now : List Entry). Unit {0}) past (entry ∷ past)
    any past entry = later start tt

pub kernel_told : (a : Ask) (n : Notebook) (result : Result Kernel KernelFault) (ended : Result Kernel End) (j k : Option (List Entry)) → IfOk ended (λ kernel. result ≡ Ok kernel)
    → Told j k (FindsBy a n result) → IfSome j (λ past. IsNotebookOf a past n) → IfOk ended (λ kernel. IfSome k (λ past. IsKernelOf a past kernel))
kernel_told a n result (Err e) j k same told own = tt
kernel_told a n result (Ok kernel) j k same told own =
    told_on j k (FindsBy a n result) (λ past. IsNotebookOf a past n) (λ past. IsKernelOf a past kernel) told own
    (λ x y h f. kernel_found a n f.answer kernel x y (subst (Finds a n f.answer) same f.finds) f.ends h)

-- ---- the answer of an end

pub answered : (output : List ℕ) (begun : Result Job End) (result : Result Job Answer) → AnswersAs output begun result
    → (o : Origin) (task : Option Task) (j : Option (List Entry)) (c : Counts) → IfErr begun (EndsCounted o task j) → IfErr result (λ answer. HasCause o.counts c answer.status) → StartsAs o begun j c → BeginsAs o task result j c
answered output (Ok j) (Ok k) same o task journal c count caused h = subst (λ x. Runs o x journal c) (sym same) h
answered output (Err e) (Err answer) answers o task journal c count caused h = record {
  is_open = keeps_open e;
  ends = h;
  shut = shut_by output e answer answers;
  fails = λ s. elim s [
    | inl read ↦ caused.read read
    | inr save ↦ caused.save save
  ];
  counted = answer_counts output e answer o task journal answers count;
}
answered output (Ok j) (Err answer) wrong o task journal c count caused h = absurd wrong
answered output (Err e) (Ok k) wrong o task journal c count caused h = absurd wrong

pub answered_role : (output : List ℕ) (begun : Result Job End) (result : Result Job Answer) → AnswersAs output begun result
    → (cast : Cast) (since : List Entry) (from : Counts) (j : Option (List Entry)) (c : Counts) → StartsInRole cast since from begun j c → StartsInRole cast since from result j c
answered_role output (Ok j) (Ok k) same cast since from journal c h = subst (λ x. HasRole cast since from x journal c) (sym same) h
answered_role output (Err e) (Err answer) answers cast since from journal c h = h
answered_role output (Ok j) (Err answer) wrong cast since from journal c h = absurd wrong
answered_role output (Err e) (Ok k) wrong cast since from journal c h = absurd wrong

-- what a job that ended left, by its answer
pub answered_left : (output : List ℕ) (P : Type 0) (begun : Result Job End) (result : Result Job Answer) → AnswersAs output begun result → IfErr begun (λ e. P) → IfErr result (λ e. P)
answered_left output P (Ok j) (Ok k) same h = tt
answered_left output P (Err e) (Err answer) answers h = h
answered_left output P (Ok j) (Err answer) wrong h = absurd wrong
answered_left output P (Err e) (Ok k) wrong h = absurd wrong

-- ---- the begin as a whole

module _ (a : Ask) (n : Notebook) (begun : Result Job End) (mid new : Counts) where
  abbrev SavesOn : Option (List Entry) → Option (List Entry) → Type 0
  SavesOn j k = (o : Origin) → IsFor a.output a.merge (first_of a n) o → Begins o j mid → BeginsNew o j → StartsAs o begun k new

  abbrev CountsOn : Option (List Entry) → Option (List Entry) → Type 0
  CountsOn j k = (o : Origin) → IsFor a.output a.merge (first_of a n) o → Begins o j mid → BeginsNew o j → IfErr begun (EndsCounted o (counted_task a (first_of a n)) k)

  rose_of : (o : Origin) (k : Option (List Entry)) → o.counts ≡ mid → StartsAs o begun k new → (e : End) → begun ≡ Err e → keeps_open e ≡ false → Rose mid.disk new.disk
  rose_of o k at h e is shut =
      let ended : StartsAs o (Err e) k new = subst (λ r. StartsAs o r k new) is h in
      subst (λ c. Rose c.disk new.disk) at (ended.cause shut)

  saved_from : (j k : Option (List Entry)) (before : List Entry) → SavesOn j k → IfSome j (IsSaved (origin_of a n before mid) true 0) → BeginsNew (origin_of a n before mid) j
      → StartsAs (origin_of a n before mid) begun k new
  saved_from j k before goes told fresh =
      goes (origin_of a n before mid) (record { output_is = refl; merge_is = refl; first_is = refl }) (record { told = λ on. told; grow = grow_start mid }) fresh

  -- a save that has failed has its cause, whatever the journal tells
  pub save_rose : (i j k : Option (List Entry)) → Told i j (HasRead a n) → SavesOn j k → (e : End) → begun ≡ Err e → keeps_open e ≡ false → Rose mid.disk new.disk
  save_rose i None k read goes = rose_of (origin_of a n [] mid) k refl (saved_from None k [] goes tt (λ fresh. tt))
  save_rose None (Some x) k read goes = absurd read.so
  save_rose (Some before) (Some x) k read goes =
      let h : HasRead a n before x = read.so in
      let rested : IsRested a.output x = subst (IsRested a.output) (sym h.is) refl in
      rose_of (origin_of a n x mid) k refl (saved_from (Some x) k x goes (record { course = begins; rested = rested }) (λ fresh. fresh.none))

  pub begun_so : (number : ℕ) (result : Result Job Answer) (old : Counts) (i j k : Option (List Entry)) → AnswersAs a.output begun result → IfErr result (λ answer. HasCause old new answer.status)
      → BeginsWith a (first_of a n) result → ((x y : List Entry) → j ≡ Some x → k ≡ Some y → FindsKernel a (first_of a n) result x y) → Told i j (HasRead a n) → Told i j (Since (Spares a.output)) → CountsGrow old mid → SavesOn j k → CountsOn j k → Told j k Appends
      → IfOk begun (λ job. Told j k (HasSession number a.output job))
      → ((p : Plot) → Told i k (λ before after. IsPlotWith p number a n → IsFresh p before → BeginsAsPlot p result after))
      → Told i k (λ before after. IsRested a.output before → Begun number a result old new before after)
  begun_so number result old i j None answers caused task kernel read spared grow goes counts more spoken plots = record { so = tt }
  begun_so number result old i None (Some y) answers caused task kernel read spared grow goes counts more spoken plots = absurd more.so
  begun_so number result old None (Some x) (Some y) answers caused task kernel read spared grow goes counts more spoken plots = absurd read.so
  begun_so number result old (Some before) (Some x) (Some y) answers caused task kernel read spared grow goes counts more spoken plots =
      let h : HasRead a n before x = read.so in
      let m : Appends x y = more.so in
      let o : Origin = origin_of a n before old in
      record {
        so = λ rested.
            let first : Begins o (Some before) old = record { told = λ on. record { course = begins; rested = rested }; grow = grow_start old } in
            let b : Begins o (Some x) mid = begins_pass o (Some before) (Some x) old mid spared grow first in
            let fresh : BeginsNew o (Some x) = new_passes o (Some before) (Some x) (begins_rested o (Some before) old first) spared (λ fresh. fresh.none) in
            let for : IsFor a.output a.merge (first_of a n) o = record { output_is = refl; merge_is = refl; first_is = refl } in
            with_notebook h.bytes n m.added h.accepted (m.is ∙ ap (λ past. m.added ++ past) h.is) task (subst (λ z. FindsKernel a (first_of a n) result z y) h.is (kernel x y refl refl)) (answered a.output begun result answers o (counted_task a (first_of a n)) (Some y) new (counts o for b fresh) caused (goes o for b fresh))
            (begun_speaks number a.output begun result before x y answers (record { added = made.Read a.input 33554432 (answer.Whole h.bytes) ∷ []; is = h.is }) spoken) (λ p. (plots p).so);
      }
