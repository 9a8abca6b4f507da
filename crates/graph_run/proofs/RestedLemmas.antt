-- Between the waves of a graph no rename onto an output waits for the sync of its folder.
use Rattle.std.proofs.Common.{◌≡◌, ◌≢◌, ◌⊎◌, inl, inr, ◌<◌, ◌+◌, ℕ, zero, suc, ◌==◌, Bool, true, false, List, [], ◌∷◌, ◌++◌, length, append_assoc, Option, Some, None, refl, sym, ◌∙◌, ap, subst, arith, true≢false}
use Rattle.std.specs.Prelude.{Result, Ok, Err, Contains, slice_get}
use Rattle.std.proofs.lemmas.Bool.{eq-eqb, eqb-true}
use Rattle.std.proofs.lemmas.Option.{none-some, same_Some, slice_get_within}
use Rattle.jtext.specs.declared.no_memory.NoMemory.{NoMemory}
use Rattle.jtext.proofs.Lists.{some_at}
use Rattle.nb_model.specs.declared.notebook.Notebook.{Notebook}
use Rattle.words.specs.declared.ask.Ask.{Ask}
use Rattle.world.specs.declared.entry.Entry.{Entry}
use Rattle.world.specs.Counts.{Counts}
use Rattle.world.specs.Moments.{Since}
use Rattle.world.specs.Touched.{Spares}
use Rattle.world.proofs.MomentsLemmas.{since_then, since_as}
use Rattle.save_course.specs.Course.{IsRested}
use Rattle.save_course.proofs.RestLemmas.{spared_rest}
use Rattle.job_graph.specs.Waves.{IsIn}
use Rattle.job_end.specs.declared.answer.Answer.{Answer}
use Rattle.job_begin.specs.Begun.{counted_task, origin_of}
use Rattle.job_run.specs.Run.{IsOther}
use Rattle.job_saves.specs.Reads.{first_of}
use Rattle.batch_run.specs.Batch.{EndsBy, IsApart, Makes, answer_at, numbered}
use Rattle.graph_run.specs.declared.ended.Ended.{Ended}
use Rattle.graph_run.specs.declared.standing.Standing.{Standing}
use Rattle.graph_run.specs.declared.tested.Tested.{Tested}
use Rattle.graph_run.specs.declared.workflow.Workflow.{Workflow}
use Rattle.graph_run.specs.Tests.{HasPassed, TestsWave}
use Rattle.graph_run.specs.Waves.{IsTested, RanJobs, Runs, RunsTested, StopsTested}
use Rattle.graph_run.proofs.ApartLemmas.{KeepsApart, OnceEach, wave_once}
use Rattle.graph_run.proofs.LawLemmas.{InWaves, all_get, at_front, in_place, last_cases, next_place, passed_count, reads_spare, says_spare, tested_in, wave_passes, wave_reads}

-- ---- jobs of a wave

-- a job of an earlier wave stands there
pub in_earlier : (f : Workflow) (first more : List (List ℕ)) → f.waves ≡ first ++ more → (job : ℕ) → InWaves first job → (w : ℕ) × (w < length first) × IsIn f.waves w job
in_earlier f first more split job e =
    (e.1.0, e.1.1, record { jobs = e.0; is = subst (λ ws. slice_get ws e.1.0 ≡ Some e.0) (sym split) (in_place first more e.1.0 e.0 e.1.1 e.1.2); has = e.2 })

-- no job of a wave stands in an earlier one
pub not_earlier : (f : Workflow) → KeepsApart f → (first : List (List ℕ)) (wave : List ℕ) (rest : List (List ℕ)) → f.waves ≡ first ++ wave ∷ rest → (job need : ℕ) → InWaves first need
    → Contains wave job → job ≢ need
not_earlier f apart first wave rest split job need earlier has same =
    let e = in_earlier f first (wave ∷ rest) split need earlier in
    let at : slice_get f.waves (length first) ≡ Some wave = subst (λ ws. slice_get ws (length first) ≡ Some wave) (sym split) (next_place first wave rest) in
    let one : e.0 ≡ length first = apart.once e.0 (length first) need e.2 (record { jobs = wave; is = at; has = subst (Contains wave) same has }) in
    let below : e.0 < length first = e.1 in
    absurd (omega (arith, one, below))

-- a job that passes and another one of the file: the first doesn't write to the output of the second
pub other_job : (f : Workflow) → KeepsApart f → (ended : List Ended) (job : ℕ) (b : Ask) → HasPassed f ended job b → (need : ℕ) (a : Ask) → slice_get f.asks need ≡ Some a → job ≢ need
    → IsOther b.output a.output
other_job f apart ended job b p need a at differ = subst (λ o. IsOther o a.output) (sym (ap (λ (x : Ask). x.output) p.is)) (apart.paths need job a p.in_file differ at p.at)

-- of the jobs that pass each stands in one place
passing_once : {f : Workflow} {ended : List Ended} {before after : List Entry} {wave : List ℕ} {t : Tested} → TestsWave f ended before wave t after → OnceEach wave → OnceEach t.jobs
passing_once TestsWave.none once i k x at also = absurd (none-some x at)
passing_once (TestsWave.passes {wave = wave} {t = t} job a h test) once i k x at also =
    let before : OnceEach t.jobs = passing_once h (λ m n y p q. once m n y (at_front wave job y m p) (at_front wave job y n q)) in
    elim (last_cases t.jobs job x i at) [
      | inl p ↦ elim (last_cases t.jobs job x k also) [ inl q ↦ before i k x p q | inr q ↦ absurd (new i (subst (λ z. slice_get t.jobs i ≡ Some z) (sym q.1) p)) ]
      | inr p ↦ elim (last_cases t.jobs job x k also) [ inl q ↦ absurd (new k (subst (λ z. slice_get t.jobs k ≡ Some z) (sym p.1) q)) | inr q ↦ p.0 ∙ sym q.0 ]
    ]
  where
    new : (n : ℕ) → slice_get t.jobs n ≡ Some job → ⊥
    new n here =
        let c = all_get (Contains wave) t.jobs (tested_in h).0 n job here in
        let same : c.0 ≡ length wave = once c.0 (length wave) job (in_place wave (job ∷ []) c.0 job c.1 c.2) (next_place wave job []) in
        let below : c.0 < length wave = c.1 in
        absurd (omega (arith, same, below))
passing_once (TestsWave.refuses {wave = wave} job why h test some) once i k x at also =
    passing_once h (λ m n y p q. once m n y (at_front wave job y m p) (at_front wave job y n q)) i k x at also

-- ---- one job

-- a job is one of these, or none of them is it
find_job : (js : List ℕ) (job : ℕ) → ((k : ℕ) × (slice_get js k ≡ Some job)) ⊎ ((k x : ℕ) → slice_get js k ≡ Some x → x ≢ job)
find_job [] job = inr (λ k x at. absurd (none-some x at))
find_job (j ∷ js) job = by (find_job js job) (j == job) refl
  where
    none_more : ((k x : ℕ) → slice_get js k ≡ Some x → x ≢ job) → j ≢ job → (k x : ℕ) → slice_get (j ∷ js) k ≡ Some x → x ≢ job
    none_more none differ zero x at same = differ (same_Some j x at ∙ same)
    none_more none differ (suc k) x at same = none k x at same

    by : ((k : ℕ) × (slice_get js k ≡ Some job)) ⊎ ((k x : ℕ) → slice_get js k ≡ Some x → x ≢ job) → (b : Bool) → (j == job) ≡ b
        → ((k : ℕ) × (slice_get (j ∷ js) k ≡ Some job)) ⊎ ((k x : ℕ) → slice_get (j ∷ js) k ≡ Some x → x ≢ job)
    by found true is = inl (zero, ap (λ z. Some z) (eqb-true j job is))
    by (inl found) false is = inl (suc found.0, found.1)
    by (inr none) false is = inr (none_more none (λ same. true≢false (sym (eq-eqb j job same) ∙ is)))

ends_rest : (a : Ask) (n : Notebook) (begin : List Entry) (then new : Counts) (after : List Entry) (answer : Option Answer)
    → EndsBy (origin_of a n begin then) (counted_task a (first_of a n)) answer (Some after) new → IsRested a.output after
ends_rest a n begin then new after (Some answer) ends = (ends.ends.told refl).is.rested
ends_rest a n begin then new after None ends = (ends.ends.told refl).is.rested

makes_rest : (i : ℕ) (a : Ask) (answer : Option Answer) {old new : Counts} {before after : List Entry} → Makes i a answer old new before after → IsRested a.output before → IsRested a.output after
makes_rest i a answer (Makes.nothing ends spared) rested = spared_rest a.output rested spared
makes_rest i a answer {new = new} {after = after} (Makes.saves bytes n begin then later accepts read since grow split ends follows) rested = ends_rest a n begin then new after answer ends

-- ---- all jobs

-- no rename onto the output of a job of the file waits for the sync of its folder
abbrev pub AllRested : Workflow → List Entry → Type 0
AllRested f now = (job : ℕ) (a : Ask) → slice_get f.asks job ≡ Some a → IsRested a.output now

pub spared_rested : (f : Workflow) {before after : List Entry} → AllRested f before → ((path : List ℕ) → Since (Spares path) before after) → AllRested f after
spared_rested f rested spared job a at = spared_rest a.output (rested job a at) (spared a.output)

module _ (f : Workflow) (apart : KeepsApart f) (ended : List Ended) (wave : List ℕ) (t : Tested) (u v : List Entry) (tests : TestsWave f ended u wave t v) (once : OnceEach wave)
    (first turns : ℕ) (here : List ℕ) (r : Result (List Answer) NoMemory) (old new : Counts) (before after : List Entry) (ran : RanJobs t.asks first turns here r old new before after)
    (rested : AllRested f before) where
  -- the job is one of those that ran
  own_rests : (job : ℕ) (a : Ask) → slice_get f.asks job ≡ Some a → (k : ℕ) → slice_get t.jobs k ≡ Some job → IsRested a.output after
  own_rests job a at k is =
      let b = some_at t.asks k (subst (λ n. k < n) (passed_count tests) (slice_get_within t.jobs k job is)) in
      let p = wave_passes tests k b.0 b.1 in
      let same : p.0 ≡ job = same_Some p.0 job (sym p.1 ∙ is) in
      let file : p.2.in_file ≡ a = same_Some p.2.in_file a (sym p.2.at ∙ subst (λ j. slice_get f.asks j ≡ Some a) (sym same) at) in
      let path : b.0.output ≡ p.2.in_file.output = ap (λ (x : Ask). x.output) p.2.is in
      let out : b.0.output ≡ a.output = path ∙ ap (λ (x : Ask). x.output) file in
      let alone : IsApart (numbered 0 t.asks) k b.0 = λ m c found differ.
      (let q = wave_passes tests m c found in
      subst (λ o. IsOther c.output o) (sym path)
      (other_job f apart ended q.0 c q.2 p.0 p.2.in_file p.2.at (λ e. differ (passing_once tests once m k p.0 (subst (λ j. slice_get t.jobs m ≡ Some j) e q.1) p.1)))) in
      let begun : IsRested b.0.output before = subst (λ o. IsRested o before) (sym out) (rested job a at) in
      subst (λ o. IsRested o after) out (makes_rest (first + k) b.0 (answer_at k r) (ran.jobs k b.0 b.1 alone begun) begun)

  -- or none of them writes to its output
  other_rests : (job : ℕ) (a : Ask) → slice_get f.asks job ≡ Some a → ((k x : ℕ) → slice_get t.jobs k ≡ Some x → x ≢ job) → IsRested a.output after
  other_rests job a at none =
      spared_rest a.output (rested job a at) (ran.others a.output (λ m c found.
      (let q = wave_passes tests m c found in other_job f apart ended q.0 c q.2 job a at (none m q.0 q.1))))

  pub jobs_rested : AllRested f after
  jobs_rested job a at = elim (find_job t.jobs job) [ inl own ↦ own_rests job a at own.0 own.1 | inr none ↦ other_rests job a at none ]

-- ---- waves

-- The jobs that passed ran, or no call was made. It was cut off or not.
pub data SomeRan (t : Tested) (here : List ℕ) (first : ℕ) (before : List Entry) : List Entry → Type 0 where
  none : SomeRan t here first before before
  jobs : (turns : ℕ) (r : Result (List Answer) NoMemory) (old new : Counts) {after : List Entry} → RanJobs t.asks first turns here r old new before after → SomeRan t here first before after

pub run_some : {t : Tested} {here : List ℕ} {turns : ℕ} {s then : Standing} {old new : Counts} {before after : List Entry} → RunsTested t here turns s old before then new after → SomeRan t here s.ran before after
run_some (RunsTested.none_passes is) = SomeRan.none
run_some {turns = turns} {old = old} (RunsTested.runs new after answers ran) = SomeRan.jobs turns (Ok answers) old new ran

pub stop_some : {t : Tested} {here : List ℕ} {turns : ℕ} {s : Standing} {old new : Counts} {before after : List Entry} → StopsTested t here turns s old before new after → SomeRan t here s.ran before after
stop_some StopsTested.before_jobs = SomeRan.none
stop_some {turns = turns} {old = old} (StopsTested.in_jobs new after e ran) = SomeRan.jobs turns (Err e) old new ran
stop_some {turns = turns} {old = old} (StopsTested.behind_jobs new after answers ran) = SomeRan.jobs turns (Ok answers) old new ran

some_rested : (f : Workflow) → KeepsApart f → (ended : List Ended) (wave : List ℕ) (t : Tested) (u v : List Entry) → TestsWave f ended u wave t v → OnceEach wave → {here : List ℕ} {first : ℕ} {before after : List Entry}
    → SomeRan t here first before after → AllRested f before → AllRested f after
some_rested f apart ended wave t u v tests once SomeRan.none rested = rested
some_rested f apart ended wave t u v tests once {here} {first} {before} {after} (SomeRan.jobs turns r old new ran) rested =
    jobs_rested f apart ended wave t u v tests once first turns here r old new before after ran rested

pub tests_spare : (path : List ℕ) {f : Workflow} {wave : List ℕ} {ended : List Ended} {t : Tested} {cut : Type 0} {before after : List Entry} → IsTested f wave ended t cut before after → Since (Spares path) before after
tests_spare path {f} tested = since_then (since_as (reads_spare path f) (wave_reads tested.tests)) (says_spare path tested.says)

pub runs_rested : (f : Workflow) → KeepsApart f → {here : List ℕ} {turns : ℕ} {from : Counts} {before : List Entry} {waves : List (List ℕ)} {s : Standing} {new : Counts} {after : List Entry}
    → Runs f here turns from before waves s new after → (rest : List (List ℕ)) → f.waves ≡ waves ++ rest → AllRested f before → AllRested f after
runs_rested f apart Runs.none rest split rested = rested
runs_rested f apart (Runs.more {waves = waves} {s = s} {past = past} left wave ran is one) rest split rested =
    let whole : f.waves ≡ waves ++ wave ∷ rest = split ∙ append_assoc waves (wave ∷ []) rest in
    let begun = runs_rested f apart ran (wave ∷ rest) whole rested in
    some_rested f apart s.ended wave one.tested past one.tests.on_disk one.tests.tests (wave_once f apart waves wave rest whole) (run_some one.run)
    (spared_rested f begun (λ path. tests_spare path one.tests))
