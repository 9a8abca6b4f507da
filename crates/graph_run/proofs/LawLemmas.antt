-- Laws of waves: who runs, who doesn't, and what is left alone.
use Rattle.std.proofs.Common.{◌≡◌, ◌<◌, ◌⊎◌, inl, inr, ℕ, zero, suc, Bool, true, false, cond, List, [], ◌∷◌, ◌++◌, length, take, Option, Some, None, refl, sym, ◌∙◌, ap, subst, arith, true≢false}
use Rattle.std.specs.Prelude.{Result, Ok, Err, Contains, slice_get, slice_index_or, unwrap_or, ◌==◌}
use Rattle.std.specs.List.{list_all, AllByRecursion}
use Rattle.std.specs.Cmp.{first_so, second_so}
use Rattle.std.proofs.lemmas.Option.{none-some, same_Some}
use Rattle.jtext.specs.declared.json.Json.{Json}
use Rattle.job_graph.specs.declared.take.Take.{Take}
use Rattle.words.specs.declared.ask.Ask.{Ask}
use Rattle.world.specs.declared.did.Did.{Did}
use Rattle.world.specs.declared.did.Did.TheVariants.{Done, Failed}
use Rattle.world.specs.declared.entry.Entry.{Entry}
use Rattle.world.specs.declared.entry.Entry.TheVariants.{Said}
use Rattle.world.specs.Counts.{Counts}
use Rattle.world.specs.Moments.{Since, start, more as later}
use Rattle.world.specs.Touched.{Spares}
use Rattle.world.proofs.MomentsLemmas.{since_then, since_as}
use Rattle.said_lines.specs.Speech.{Speech, Says}
use Rattle.batch_run.specs.Batch.{IsNoPath, numbered}
use Rattle.job_end.specs.declared.answer.Answer.{Answer}
use Rattle.graph_run.specs.declared.ended.Ended.{Ended}
use Rattle.graph_run.specs.declared.refusal.Refusal.{Refusal}
use Rattle.graph_run.specs.declared.refusal.Refusal.TheVariants as refusal
use Rattle.graph_run.specs.declared.standing.Standing.{Standing}
use Rattle.graph_run.specs.declared.tested.Tested.{Tested}
use Rattle.graph_run.specs.declared.workflow.Workflow.{Workflow}
use Rattle.graph_run.specs.Lines.{status_of_refusal}
use Rattle.graph_run.specs.Tests.{HasPassed, HasFailed, IsTakeRead, Takes, TakesAll, Tests, TestsWave, is_done, is_zero, needs_of, status_of, takes_of, given}
use Rattle.graph_run.specs.Waves.{Runs, RunsTested, RunsWave, ends_of}
use Rattle.graph_run.proofs.TestLemmas.{test_reads}

-- ---- lists

pub last_cases : {A : Type 0} (xs : List A) (y z : A) (k : ℕ) → slice_get (xs ++ y ∷ []) k ≡ Some z → (slice_get xs k ≡ Some z) ⊎ ((k ≡ length xs) × (y ≡ z))
last_cases [] y z zero is = inr (refl, ap (λ o. unwrap_or o y) is)
last_cases [] y z (suc k) is = absurd (none-some z is)
last_cases (x ∷ xs) y z zero is = inl is
last_cases (x ∷ xs) y z (suc k) is = elim (last_cases xs y z k is) [ inl e ↦ inl e | inr h ↦ inr (ap suc h.0, h.1) ]

pub at_front : {A : Type 0} (xs : List A) (y z : A) (k : ℕ) → slice_get xs k ≡ Some z → slice_get (xs ++ y ∷ []) k ≡ Some z
at_front [] y z k is = absurd (none-some z is)
at_front (x ∷ xs) y z zero is = is
at_front (x ∷ xs) y z (suc k) is = at_front xs y z k is

pub in_place : {A : Type 0} (xs ys : List A) (k : ℕ) (y : A) → k < length xs → slice_index_or xs k y ≡ y → slice_get (xs ++ ys) k ≡ Some y
in_place [] ys k y below is = absurd (omega (arith, below))
in_place (x ∷ xs) ys zero y below is = ap (λ z. Some z) is
in_place (x ∷ xs) ys (suc k) y below is = in_place xs ys k y (omega (arith, below)) is

pub next_place : {A : Type 0} (xs : List A) (y : A) (ys : List A) → slice_get (xs ++ y ∷ ys) (length xs) ≡ Some y
next_place [] y ys = refl
next_place (x ∷ xs) y ys = next_place xs y ys

pub all_get : {A : Type 0} (P : A → Type 0) (xs : List A) → AllByRecursion P xs → (k : ℕ) (x : A) → slice_get xs k ≡ Some x → P x
all_get P [] all k x at = absurd (none-some x at)
all_get P (y ∷ ys) all zero x at = subst P (same_Some y x at) all.0
all_get P (y ∷ ys) all (suc k) x at = all_get P ys all.1 k x at

-- ---- a job that passes

done_so : (o : Option ℕ) → is_zero o ≡ true → o ≡ Some 0
done_so None e = absurd (true≢false (sym e))
done_so (Some n) e = ap (λ m. Some m) (grind (arith, e))

each_done : (ended : List Ended) (needs : List ℕ) → list_all (is_done ended) needs ≡ true → (need : ℕ) → Contains needs need → status_of need ended ≡ Some 0
each_done ended [] all need h = absurd (omega (arith, h.1))
each_done ended (n ∷ needs) all need (zero, below, is) = subst (λ j. status_of j ended ≡ Some 0) is (done_so (status_of n ended) (first_so (is_done ended n) (list_all (is_done ended) needs) all))
each_done ended (n ∷ needs) all need (suc k, below, is) = each_done ended needs (second_so (is_done ended n) (list_all (is_done ended) needs) all) need (k, omega (arith, below), is)

-- what a test of a job that passes says
abbrev PassesAs : Workflow → List Ended → ℕ → Result Ask Refusal → Type 0
PassesAs f ended job (Ok a) = HasPassed f ended job a
PassesAs f ended job (Err why) = Unit {0}

given_passes : (f : Workflow) (ended : List Ended) (job : ℕ) (a : Ask) (before after : List Entry) (r : Result (List (List ℕ × Json)) Refusal) → list_all (is_done ended) (needs_of f job) ≡ true
    → slice_get f.asks job ≡ Some a → TakesAll f (takes_of f job) a.params before r after → PassesAs f ended job (given a r)
given_passes f ended job a before after _ needed at (TakesAll.all pairs taken) =
    record { in_file = a; at = at; needs = each_done ended (needs_of f job) needed; pairs = pairs; before = before; after = after; taken = taken; is = refl }
given_passes f ended job a before after _ needed at (TakesAll.refused first t rest pairs why split taken takes) = tt
given_passes f ended job a before after _ needed at (TakesAll.no_memory first rest pairs split taken) = tt

test_passes : (f : Workflow) (ended : List Ended) (job : ℕ) (before after : List Entry) (r : Result Ask Refusal) → Tests f ended job before r after → PassesAs f ended job r
test_passes f ended job before _ _ (Tests.skipped fails) = tt
test_passes f ended job before after _ (Tests.tested a params needed at takes) = given_passes f ended job a before after params needed at takes
test_passes f ended job before _ _ (Tests.no_memory a params needed at takes) = tt

abbrev pub Passed : Workflow → List Ended → Tested → ℕ → Ask → Type 0
Passed f ended t k a = (job : ℕ) × (slice_get t.jobs k ≡ Some job) × HasPassed f ended job a

pub passed_count : {f : Workflow} {ended : List Ended} {before after : List Entry} {wave : List ℕ} {t : Tested} → TestsWave f ended before wave t after → length t.jobs ≡ length t.asks
passed_count TestsWave.none = refl
passed_count (TestsWave.passes {t = t} job a h test) = let e = passed_count h in count_last t.jobs t.asks job a e
  where
    count_last : {A B : Type 0} (xs : List A) (ys : List B) (x : A) (y : B) → length xs ≡ length ys → length (xs ++ x ∷ []) ≡ length (ys ++ y ∷ [])
    count_last [] [] x y e = refl
    count_last [] (b ∷ ys) x y e = absurd (omega (arith, e))
    count_last (a ∷ xs) [] x y e = absurd (omega (arith, e))
    count_last (a ∷ xs) (b ∷ ys) x y e = ap suc (count_last xs ys x y (omega (arith, e)))
passed_count (TestsWave.refuses job why h test some) = passed_count h

pub wave_passes : {f : Workflow} {ended : List Ended} {before after : List Entry} {wave : List ℕ} {t : Tested} → TestsWave f ended before wave t after → (k : ℕ) (a : Ask) → slice_get t.asks k ≡ Some a → Passed f ended t k a
wave_passes TestsWave.none k a at = absurd (none-some a at)
wave_passes {f} {ended} (TestsWave.passes {t = t} {past = past} {after = after} job b h test) k a at =
    elim (last_cases t.asks b a k at) [
      | inl e ↦ let p = wave_passes h k a e in (p.0, at_front t.jobs job p.0 k p.1, p.2)
      | inr e ↦ (
        job,
        subst (λ n. slice_get (t.jobs ++ job ∷ []) n ≡ Some job) (passed_count h ∙ sym e.0) (next_place t.jobs job []),
        subst (λ x. HasPassed f ended job x) e.1 (test_passes f ended job past after (Ok b) test),
      )
    ]
wave_passes (TestsWave.refuses job why h test some) k a at = wave_passes h k a at

pub ran_passed : (f : Workflow) (here : List ℕ) (turns : ℕ) (wave : List ℕ) (s then : Standing) (before after : List Entry) (new : Counts) (r : RunsWave f here turns wave s before then new after) (k : ℕ) (a : Ask)
    → slice_get r.tested.asks k ≡ Some a → Passed f s.ended r.tested k a
ran_passed f here turns wave s then before after new r k a at = wave_passes r.tests.tests k a at

-- ---- a job that is refused

wave_fails : {f : Workflow} {ended : List Ended} {before after : List Entry} {wave : List ℕ} {t : Tested} → TestsWave f ended before wave t after → (k : ℕ) (e : Ended) → slice_get t.refused k ≡ Some e → HasFailed f ended e
wave_fails TestsWave.none k e at = absurd (none-some e at)
wave_fails (TestsWave.passes job a h test) k e at = wave_fails h k e at
wave_fails {f} {ended} (TestsWave.refuses {t = t} {past = past} {after = after} job why h test some) k e at =
    elim (last_cases t.refused _ e k at) [
      | inl is ↦ wave_fails h k e is
      | inr is ↦ subst (HasFailed f ended) is.1 (record { why = why; before = past; after = after; test = test; status = refl })
    ]

pub ran_failed : (f : Workflow) (here : List ℕ) (turns : ℕ) (wave : List ℕ) (s then : Standing) (before after : List Entry) (new : Counts) (r : RunsWave f here turns wave s before then new after) (k : ℕ) (e : Ended)
    → slice_get r.tested.refused k ≡ Some e → HasFailed f s.ended e
ran_failed f here turns wave s then before after new r k e at = wave_fails r.tests.tests k e at

-- a result is a refusal of a job that is skipped
abbrev IsSkipped : {A : Type 0} → Result A Refusal → Type 0
IsSkipped (Ok a) = ⊥
IsSkipped (Err refusal.Skipped) = Unit {0}
IsSkipped (Err (refusal.NotRead path)) = ⊥
IsSkipped (Err refusal.TooLarge) = ⊥
IsSkipped (Err (refusal.NotLoaded why)) = ⊥
IsSkipped (Err (refusal.NoScrap scrap job)) = ⊥
IsSkipped (Err refusal.NoMemory) = ⊥

one_not_skipped : {f : Workflow} {t : Take} {before after : List Entry} {r : Result Json Refusal} → Takes f t before r after → IsSkipped r → ⊥
one_not_skipped (Takes.gives bytes v has) h = h
one_not_skipped (Takes.no_scrap bytes lacks) h = h
one_not_skipped (Takes.faulty bytes why is) h = h
one_not_skipped Takes.too_large h = h
one_not_skipped Takes.cannot_read h = h
one_not_skipped Takes.no_memory h = h
one_not_skipped (Takes.no_memory_later answer) h = h

all_not_skipped : {f : Workflow} {ts : List Take} {params : List (List ℕ × Json)} {before after : List Entry} {r : Result (List (List ℕ × Json)) Refusal} → TakesAll f ts params before r after → IsSkipped r → ⊥
all_not_skipped (TakesAll.all pairs taken) h = h
all_not_skipped (TakesAll.refused first t rest pairs why split taken one) h = one_not_skipped one h
all_not_skipped (TakesAll.no_memory first rest pairs split taken) h = h

given_skipped : (a : Ask) (r : Result (List (List ℕ × Json)) Refusal) → IsSkipped (given a r) → IsSkipped r
given_skipped a (Ok params) h = h
given_skipped a (Err why) h = h

pub skipped_only : (f : Workflow) (ended : List Ended) (job : ℕ) (before after : List Entry) (r : Result Ask Refusal) → Tests f ended job before r after → r ≡ Err refusal.Skipped
    → list_all (is_done ended) (needs_of f job) ≡ false
skipped_only f ended job before _ _ (Tests.skipped fails) is = fails
skipped_only f ended job before after _ (Tests.tested a params needed at takes) is = absurd (all_not_skipped takes (given_skipped a params (subst (λ x. IsSkipped x) (sym is) tt)))
skipped_only f ended job before after _ (Tests.no_memory a params needed at takes) is = absurd (subst (λ x. IsSkipped x) (sym is) tt)

pub skipped_all : (f : Workflow) (ended : List Ended) (job : ℕ) (before after : List Entry) (r : Result Ask Refusal) → Tests f ended job before r after
    → list_all (is_done ended) (needs_of f job) ≡ false → r ≡ Err refusal.Skipped
skipped_all f ended job before _ _ (Tests.skipped fails) none = refl
skipped_all f ended job before after _ (Tests.tested a params needed at takes) none = absurd (true≢false (sym needed ∙ none))
skipped_all f ended job before after _ (Tests.no_memory a params needed at takes) none = absurd (true≢false (sym needed ∙ none))

-- ---- paths that are left alone

speech_as : (P : List Entry → Type 0) → ((bytes : List ℕ) (d : Did) (past : List Entry) → P (Said bytes d ∷ past)) → {text : List ℕ} {before after : List Entry} {rest : List ℕ} → Speech text before rest after → Since P before after
speech_as P said Speech.none = start
speech_as P said (Speech.more {rest = rest} {past = past} n h) = later (speech_as P said h) (said (take n rest) Done past)

-- what holds wherever something was said holds at each moment of a line
pub says_as : (P : List Entry → Type 0) → ((bytes : List ℕ) (d : Did) (past : List Entry) → P (Said bytes d ∷ past)) → {text : List ℕ} {cut : Type 0} {before after : List Entry} → Says text cut before after → Since P before after
says_as P said (Says.whole h) = speech_as P said h
says_as P said (Says.cut f h) = speech_as P said h
says_as P said (Says.refused {rest = rest} {past = past} f h) = later (speech_as P said h) (said rest Failed past)

pub says_spare : (path : List ℕ) {text : List ℕ} {cut : Type 0} {before after : List Entry} → Says text cut before after → Since (Spares path) before after
says_spare path says = says_as (Spares path) (λ bytes d past. refl) says

pub reads_spare : (path : List ℕ) (f : Workflow) (now : List Entry) → IsTakeRead f now → Spares path now
reads_spare path f now (job, (answer, (past, is))) = subst (Spares path) (sym is) refl

pub wave_reads : {f : Workflow} {ended : List Ended} {before after : List Entry} {wave : List ℕ} {t : Tested} → TestsWave f ended before wave t after → Since (IsTakeRead f) before after
wave_reads TestsWave.none = start
wave_reads (TestsWave.passes job a h test) = since_then (wave_reads h) (test_reads test)
wave_reads (TestsWave.refuses job why h test some) = since_then (wave_reads h) (test_reads test)

run_spares : (path : List ℕ) {t : Tested} {here : List ℕ} {turns : ℕ} {s then : Standing} {old new : Counts} {before after : List Entry} → IsNoPath (numbered 0 t.asks) path
    → RunsTested t here turns s old before then new after → Since (Spares path) before after
run_spares path none (RunsTested.none_passes is) = start
run_spares path none (RunsTested.runs new after answers ran) = ran.others path none

pub wave_spares : (f : Workflow) (here : List ℕ) (turns : ℕ) (wave : List ℕ) (s then : Standing) (before after : List Entry) (new : Counts) (r : RunsWave f here turns wave s before then new after) (path : List ℕ)
    → IsNoPath (numbered 0 r.tested.asks) path → Since (Spares path) before after
wave_spares f here turns wave s then before after new r path none =
    since_then (since_as (reads_spare path f) (wave_reads r.tests.tests)) (since_then (says_spare path r.tests.says) (run_spares path none r.run))

-- ---- jobs that have ended

contained_first : {A : Type 0} (xs : List A) (y j : A) → Contains xs j → Contains (xs ++ y ∷ []) j
contained_first [] y j h = absurd (omega (arith, h.1))
contained_first (x ∷ xs) y j (zero, below, is) = (zero, omega arith, is)
contained_first (x ∷ xs) y j (suc k, below, is) = let c = contained_first xs y j (k, omega (arith, below), is) in (suc c.0, omega (arith, c.1), c.2)

contained_last : {A : Type 0} (xs : List A) (y : A) → Contains (xs ++ y ∷ []) y
contained_last [] y = (zero, omega arith, refl)
contained_last (x ∷ xs) y = let c = contained_last xs y in (suc c.0, omega (arith, c.1), c.2)

all_as : {A : Type 0} (P Q : A → Type 0) (xs : List A) → ((x : A) → P x → Q x) → AllByRecursion P xs → AllByRecursion Q xs
all_as P Q [] each all = tt
all_as P Q (x ∷ xs) each all = (each x all.0, all_as P Q xs each all.1)

all_then : {A : Type 0} (P : A → Type 0) (xs ys : List A) → AllByRecursion P xs → AllByRecursion P ys → AllByRecursion P (xs ++ ys)
all_then P [] ys p q = q
all_then P (x ∷ xs) ys p q = (p.0, all_then P xs ys p.1 q)

-- the job that has ended is one of those
abbrev pub Of : (ℕ → Type 0) → Ended → Type 0
Of P e = P e.job

-- each of these jobs that have ended is one of those
abbrev pub AllOf : (ℕ → Type 0) → List Ended → Type 0
AllOf P ended = AllByRecursion (Of P) ended

pub tested_in : {f : Workflow} {ended : List Ended} {before after : List Entry} {wave : List ℕ} {t : Tested} → TestsWave f ended before wave t after
    → AllByRecursion (Contains wave) t.jobs × AllOf (Contains wave) t.refused
tested_in TestsWave.none = (tt, tt)
tested_in (TestsWave.passes {wave = wave} {t = t} job a h test) =
    let p = tested_in h in
    let whole = wave ++ job ∷ [] in (
      all_then (Contains whole) t.jobs (job ∷ []) (all_as (Contains wave) (Contains whole) t.jobs (contained_first wave job) p.0) (contained_last wave job, tt),
      all_as (Of (Contains wave)) (Of (Contains whole)) t.refused (λ e c. contained_first wave job e.job c) p.1,
    )
tested_in (TestsWave.refuses {wave = wave} {t = t} job why h test some) =
    let p = tested_in h in
    let whole = wave ++ job ∷ [] in (
      all_as (Contains wave) (Contains whole) t.jobs (contained_first wave job) p.0,
      all_then (Of (Contains whole)) t.refused ((record { job = job; status = status_of_refusal why }) ∷ []) (all_as (Of (Contains wave)) (Of (Contains whole)) t.refused (λ e c. contained_first wave job e.job c) p.1)
          (contained_last wave job, tt),
    )

ends_in : (P : ℕ → Type 0) (js : List ℕ) (answers : List Answer) → AllByRecursion P js → AllOf P (ends_of js answers)
ends_in P [] answers all = tt
ends_in P (job ∷ js) [] all = tt
ends_in P (job ∷ js) (a ∷ answers) all = (all.0, ends_in P js answers all.1)

run_in : (P : ℕ → Type 0) {t : Tested} {here : List ℕ} {turns : ℕ} {s then : Standing} {old new : Counts} {before after : List Entry} → AllByRecursion P t.jobs → AllOf P t.refused → AllOf P s.ended
    → RunsTested t here turns s old before then new after → AllOf P then.ended
run_in P {t} {s = s} p q r (RunsTested.none_passes is) = all_then (Of P) s.ended t.refused r q
run_in P {t} {s = s} p q r (RunsTested.runs new after answers ran) = all_then (Of P) (s.ended ++ t.refused) (ends_of t.jobs answers) (all_then (Of P) s.ended t.refused r q) (ends_in P t.jobs answers p)

-- the job is one of these waves'
abbrev pub InWaves : List (List ℕ) → ℕ → Type 0
InWaves all job = (wave : List ℕ) × Contains all wave × Contains wave job

in_last : (all : List (List ℕ)) (wave : List ℕ) (j : ℕ) → Contains wave j → InWaves (all ++ wave ∷ []) j
in_last all wave j c = (wave, contained_last all wave, c)

pub in_first : (all : List (List ℕ)) (wave : List ℕ) (j : ℕ) → InWaves all j → InWaves (all ++ wave ∷ []) j
in_first all wave j c = (c.0, contained_first all wave c.0 c.1, c.2)

pub runs_in : {f : Workflow} {here : List ℕ} {turns : ℕ} {from : Counts} {before : List Entry} {all : List (List ℕ)} {s : Standing} {new : Counts} {after : List Entry} → Runs f here turns from before all s new after → AllOf (InWaves all) s.ended
runs_in Runs.none = tt
runs_in (Runs.more {waves = all} {s = s} left wave h waits one) =
    let p = tested_in one.tests.tests in
    let old = InWaves all in
    let whole = InWaves (all ++ wave ∷ []) in
    run_in whole (all_as (Contains wave) whole one.tested.jobs (in_last all wave) p.0) (all_as (Of (Contains wave)) (Of whole) one.tested.refused (λ e c. in_last all wave e.job c) p.1)
    (all_as (Of old) (Of whole) s.ended (λ e c. in_first all wave e.job c) (runs_in h)) one.run

pub status_in : (P : ℕ → Type 0) (job status : ℕ) (ended : List Ended) → AllOf P ended → status_of job ended ≡ Some status → P job
status_in P job status [] all at = absurd (none-some status at)
status_in P job status (e ∷ es) all at = by (status_in P job status es all.1) (e.job == job) refl
  where
    by : (status_of job es ≡ Some status → P job) → (b : Bool) → (e.job == job) ≡ b → P job
    by rest true is = subst P (grind (arith, is)) all.0
    by rest false is = rest (sym (ap (λ b. cond b (Some e.status) (status_of job es)) is) ∙ at)

pub ended_earlier : (f : Workflow) (here : List ℕ) (turns : ℕ) (from new : Counts) (before after : List Entry) (all : List (List ℕ)) (s : Standing) → Runs f here turns from before all s new after
    → (job status : ℕ) → status_of job s.ended ≡ Some status → InWaves all job
ended_earlier f here turns from new before after all s ran job status at = status_in (InWaves all) job status s.ended (runs_in ran) at
