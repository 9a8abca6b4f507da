-- Waves that ran one after the other.
use Rattle.std.proofs.Common.{◌≡◌, ◌<◌, ◌≤◌, ℕ, zero, suc, ◌+◌, ◌-◌, List, [], ◌∷◌, ◌++◌, length, take, drop, get_or, append_assoc, append-nil, refl, sym, ◌∙◌, ap, subst, arith}
use Rattle.std.specs.Prelude.{IfOk, Option, OnOk, Result, Ok, Err}
use Rattle.std.proofs.lemmas.List.{take_more, take-append-drop}
use Rattle.std.specs.List.{AllByRecursion}
use Rattle.world.specs.declared.entry.Entry.{Entry}
use Rattle.jtext.specs.declared.no_memory.NoMemory.{NoMemory}
use Rattle.job_graph.specs.Waves.{job_count}
use Rattle.world.specs.Counts.{Counts, CountsGrow}
use Rattle.world.specs.Moments.{Told}
use Rattle.world.proofs.CountsLemmas.{grow_start}
use Rattle.world.proofs.MomentsLemmas.{told_as, told_then}
use Rattle.said_lines.specs.Speech.{Says}
use Rattle.job_end.specs.declared.answer.Answer.{Answer}
use Rattle.graph_run.specs.declared.ended.Ended.{Ended}
use Rattle.graph_run.specs.declared.tested.Tested.{Tested}
use Rattle.graph_run.specs.Ran.{AreCaused}
use Rattle.graph_run.specs.Tests.{TestsWave}
use Rattle.graph_run.specs.declared.standing.Standing.{Standing}
use Rattle.graph_run.specs.declared.workflow.Workflow.{Workflow}
use Rattle.graph_run.specs.Waves.{IsTested, MakesTested, MakesWave, RanJobs, Runs, RunsTested, RunsWave, Stops, StopsIn, ends_of, StopsTested}
use Rattle.graph_run.proofs.CauseLemmas.{all_both, all_since}

split_at : (all : List (List ℕ)) (k : ℕ) (w : List ℕ) → k < length all → w ≡ get_or all k w → all ≡ take k all ++ w ∷ drop (k + 1) all
split_at all k w below is =
    sym (take-append-drop (k + 1) all) ∙ ap (λ ts. ts ++ drop (k + 1) all) (take_more all k w below ∙ ap (λ u. take k all ++ u ∷ []) (sym is))
    ∙ append_assoc (take k all) (w ∷ []) (drop (k + 1) all)

pub wave_more : (f : Workflow) (here : List ℕ) (turns : ℕ) (from mid new : Counts) (before past after : List Entry) (all : List (List ℕ)) (k left : ℕ) (wave : List ℕ) (s then : Standing)
    → k < length all → wave ≡ get_or all k wave → Runs f here turns from before (take k all) s mid past → left + mid.waits ≡ turns + from.waits
    → RunsWave f here left wave s past then new after → Runs f here turns from before (take (k + 1) all) then new after
wave_more f here turns from mid new before past after all k left wave s then below is ran waits one =
    subst (λ ws. Runs f here turns from before ws then new after) (sym (take_more all k wave below ∙ ap (λ u. take k all ++ u ∷ []) (sym is))) (Runs.more left wave ran waits one)

pub wave_stops : (f : Workflow) (here : List ℕ) (turns : ℕ) (from mid new : Counts) (before past after : List Entry) (all : List (List ℕ)) (k left : ℕ) (wave : List ℕ) (s : Standing)
    → all ≡ f.waves → k < length all → wave ≡ get_or all k wave → Runs f here turns from before (take k all) s mid past → left + mid.waits ≡ turns + from.waits
    → StopsIn f here left wave s past new after → Stops f here turns from before new after
wave_stops f here turns from mid new before past after all k left wave s same below is ran waits one =
    Stops.within (take k all) wave (drop (k + 1) all) s left mid past (sym same ∙ split_at all k wave below is) ran waits one

pub stops_between : (f : Workflow) (here : List ℕ) (turns : ℕ) (from new : Counts) (before after : List Entry) (all : List (List ℕ)) (k : ℕ) (s : Standing)
    → all ≡ f.waves → Runs f here turns from before (take k all) s new after → Stops f here turns from before new after
stops_between f here turns from new before after all k s same ran = Stops.between (take k all) (drop k all) s (sym same ∙ sym (take-append-drop k all)) ran

-- ---- how many waits and jobs are left

pub left_waits : (left turns now first mid from : ℕ) → left + (now - first) ≡ turns → now ≡ mid → first ≡ from → from ≤ mid → left + mid ≡ turns + from
left_waits left turns now first mid from is at begun grow = omega (arith, is, at, begun, grow)

pub wave_few : (all : List (List ℕ)) (k : ℕ) (wave : List ℕ) → k < length all → wave ≡ get_or all k wave → job_count (drop k all) ≡ length wave + job_count (drop (k + 1) all)
wave_few [] k wave below is = absurd (omega (arith, below))
wave_few (w ∷ all) zero wave below is = ap (λ v. length v + job_count all) (sym is)
wave_few (w ∷ all) (suc k) wave below is =
    let same : suc k + 1 ≡ suc (k + 1) = omega arith in
    wave_few all k wave (omega (arith, below)) is ∙ ap (λ m. length wave + job_count (drop m (w ∷ all))) (sym same)

pub wave_within : (P : List ℕ → Type 0) (all : List (List ℕ)) (k : ℕ) (wave : List ℕ) → AllByRecursion P all → k < length all → wave ≡ get_or all k wave → P wave
wave_within P [] k wave each below is = absurd (omega (arith, below))
wave_within P (w ∷ all) zero wave each below is = subst P (sym is) each.0
wave_within P (w ∷ all) (suc k) wave each below is = wave_within P all k wave each.1 (omega (arith, below)) is

-- no answers, no ends
pub ends_none : (jobs : List ℕ) → ends_of jobs [] ≡ []
ends_none [] = refl
ends_none (job ∷ jobs) = refl

pub none_left : (ended whole : List Ended) (jobs : List ℕ) (answers : List Answer) → length answers ≡ 0 → ended ++ ends_of jobs answers ≡ whole → ended ≡ whole
none_left ended whole jobs [] none is = sym (append-nil ended) ∙ ap (λ es. ended ++ es) (sym (ends_none jobs)) ∙ is
none_left ended whole jobs (a ∷ answers) none is = absurd (omega (arith, none))

-- ---- the jobs of a run

-- what is told where there are answers
pub told_ok : {i j : Option (List Entry)} {S : List Entry → List Entry → Type 0} (R : List Answer → List Entry → List Entry → Type 0) (r : Result (List Answer) NoMemory) → Told i j S
    → IfOk r (λ answers. Told i j (R answers)) → Told i j (λ x y. IfOk r (λ answers. R answers x y))
told_ok R (Ok answers) told h = h
told_ok R (Err e) told h = told_as told (λ x y s. tt)

-- ---- one wave

standing_is : (s : Standing) (ended : List Ended) (ran : ℕ) → s.ended ≡ ended → s.ran ≡ ran → s ≡ record { ended = ended; ran = ran }
standing_is s ended ran p q = ap (λ x. the_standing x s.ran) p ∙ ap (the_standing ended) q
  where
    the_standing : List Ended → ℕ → Standing
    the_standing x y = record { ended = x; ran = y }

-- what has ended, in the words of the calls
pub ends_done : {U E : Type 0} (r : Result U E) (then old added refused_slice refused : List Ended) (jobs_slice jobs : List ℕ) (answers_slice answers : List Answer) → added ≡ old ++ refused_slice
    → refused_slice ≡ refused → jobs_slice ≡ jobs → answers_slice ≡ answers → OnOk r (then ≡ added ++ ends_of jobs_slice answers_slice) → OnOk r (then ≡ (old ++ refused) ++ ends_of jobs answers)
ends_done (Ok u) then old added refused_slice refused jobs_slice jobs answers_slice answers add same_refused same_jobs same_answers is =
    is ∙ ap (λ xs. xs ++ ends_of jobs_slice answers_slice) (add ∙ ap (λ es. old ++ es) same_refused) ∙ ap (λ js. (old ++ refused) ++ ends_of js answers_slice) same_jobs
    ∙ ap (λ xs. (old ++ refused) ++ ends_of jobs xs) same_answers
ends_done (Err e) then old added refused_slice refused jobs_slice jobs answers_slice answers add same_refused same_jobs same_answers is = tt

pub jobs_done : {U E : Type 0} (t : Tested) (here : List ℕ) (turns : ℕ) (s then : Standing) (old new : Counts) (before after : List Entry) (answers : List Answer) (result : Result U E) (first : ℕ)
    → RanJobs t.asks first turns here (Ok answers) old new before after → first ≡ s.ran → OnOk result (then.ended ≡ (s.ended ++ t.refused) ++ ends_of t.jobs answers)
    → then.ran ≡ s.ran + length t.asks → MakesTested t here turns s old before result then new after
jobs_done t here turns s then old new before after answers (Ok u) first ran numbered e r =
    subst (λ x. RunsTested t here turns s old before x new after) (sym (standing_is then ((s.ended ++ t.refused) ++ ends_of t.jobs answers) (s.ran + length t.asks) e r))
    (RunsTested.runs new after answers (subst (λ n. RanJobs t.asks n turns here (Ok answers) old new before after) numbered ran))
jobs_done t here turns s then old new before after answers (Err x) first ran numbered e r =
    StopsTested.behind_jobs new after answers (subst (λ n. RanJobs t.asks n turns here (Ok answers) old new before after) numbered ran)

pub jobs_stopped : (t : Tested) (here : List ℕ) (turns : ℕ) (s : Standing) (old new : Counts) (before after : List Entry) (e : NoMemory) (first : ℕ)
    → RanJobs t.asks first turns here (Err e) old new before after → first ≡ s.ran → StopsTested t here turns s old before new after
jobs_stopped t here turns s old new before after e first ran numbered = StopsTested.in_jobs new after e (subst (λ n. RanJobs t.asks n turns here (Err e) old new before after) numbered ran)

pub none_done : (t : Tested) (here : List ℕ) (turns : ℕ) (s then : Standing) (old : Counts) (before : List Entry) → t.asks ≡ [] → then.ended ≡ s.ended ++ t.refused → then.ran ≡ s.ran
    → RunsTested t here turns s old before then old before
none_done t here turns s then old before none e r =
    subst (λ x. RunsTested t here turns s old before x old before) (sym (standing_is then (s.ended ++ t.refused) s.ran e r)) (RunsTested.none_passes none)

pub tested_told : {i j k : Option (List Entry)} (f : Workflow) (wave : List ℕ) (ended given : List Ended) (t : Tested) (text : List ℕ) (cut : Type 0) → given ≡ ended → text ≡ t.lines
    → Told i j (λ x y. TestsWave f given x wave t y) → Told j k (Says text cut) → Told i k (IsTested f wave ended t cut)
tested_told f wave ended given t text cut is same tests says =
    told_then tests says (λ x y z a b. record { on_disk = y; tests = subst (λ e. TestsWave f e x wave t y) is a; says = subst (λ l. Says l cut y z) same b })

pub wave_told : {U E : Type 0} {i j k : Option (List Entry)} (f : Workflow) (here : List ℕ) (turns : ℕ) (wave : List ℕ) (s then : Standing) (t : Tested) (mid new : Counts) (result : Result U E)
    → Told i j (IsTested f wave s.ended t (0 < mid.say)) → Told j k (λ x y. MakesTested t here turns s mid x result then new y)
    → Told i k (λ x y. MakesWave f here turns wave s x result then new y)
wave_told {U = U} {E = E} f here turns wave s then t mid new result tests made = told_then tests made (λ x y z a b. by result x y z a b)
  where
    by : (r : Result U E) (x y z : List Entry) → IsTested f wave s.ended t (0 < mid.say) x y → MakesTested t here turns s mid y r then new z → MakesWave f here turns wave s x r then new z
    by (Ok u) x y z a b = record { tested = t; mid = mid; said = y; tests = a; run = b }
    by (Err e) x y z a b = StopsIn.behind_tests t mid y a b

-- ---- causes

pub jobs_caused : {U E : Type 0} (turns most : ℕ) (t : Tested) (s then : Standing) (from old new : Counts) (answers : List Answer) (result : Result U E) → most ≡ old.waits + turns
    → CountsGrow from old → CountsGrow old new → AreCaused most from old s.ended → AreCaused most from old t.refused → AreCaused (old.waits + turns) old new (ends_of t.jobs answers)
    → OnOk result (then.ended ≡ (s.ended ++ t.refused) ++ ends_of t.jobs answers) → OnOk result (AreCaused most from new then.ended)
jobs_caused turns most t s then from old new answers (Ok u) is g h p q r e =
    subst (λ x. AreCaused most from new x) (sym e)
    (all_both most from new (s.ended ++ t.refused) (ends_of t.jobs answers)
    (all_both most from new s.ended t.refused (all_since most from from old new s.ended (grow_start from) h p) (all_since most from from old new t.refused (grow_start from) h q))
    (all_since most from old new new (ends_of t.jobs answers) g (grow_start new) (subst (λ m. AreCaused m old new (ends_of t.jobs answers)) (sym is) r)))
jobs_caused turns most t s then from old new answers (Err x) is g h p q r e = tt
