-- What each wave of a graph waits for, and what it leaves alone.
use Rattle.std.proofs.Common.{◌≡◌, inl, inr, ℕ, false, List, [], ◌∷◌, ◌++◌, append_assoc, append-nil, Some, sym, ◌∙◌, subst}
use Rattle.std.specs.Prelude.{Contains, slice_get}
use Rattle.words.specs.declared.ask.Ask.{Ask}
use Rattle.world.specs.declared.entry.Entry.{Entry}
use Rattle.world.specs.declared.entry.Entry.TheVariants.{Started}
use Rattle.world.specs.Counts.{Counts}
use Rattle.world.specs.Moments.{Since, start, more as later}
use Rattle.world.specs.Touched.{Spares}
use Rattle.world.proofs.MomentsLemmas.{since_then, since_as}
use Rattle.save_course.specs.Course.{IsRested}
use Rattle.save_course.proofs.RestLemmas.{spared_rest}
use Rattle.job_saves.proofs.TellingLemmas.{spared_count}
use Rattle.batch_run.specs.Batch.{IsNoPath, IsRunCall, cast_of, numbered}
use Rattle.batch_run.proofs.CallLemmas.{run_spares}
use Rattle.batch_run.proofs.EndLemmas.{numbered_only}
use Rattle.job_run.specs.Run.{IsOther}
use Rattle.graph_run.specs.declared.standing.Standing.{Standing}
use Rattle.graph_run.specs.declared.tested.Tested.{Tested}
use Rattle.graph_run.specs.declared.workflow.Workflow.{Workflow}
use Rattle.graph_run.specs.Ran.{RanOn, WavesWait}
use Rattle.graph_run.specs.Tests.{IsTakeRead, TestsWave, output_of, status_of}
use Rattle.graph_run.specs.Waits.{CutWaits, EachWaits, HasSavedAll, LeavesEnded, LeavesOutput, MayStart, StartsBehind, StopsWait, Waits}
use Rattle.graph_run.specs.Waves.{IsTested, Runs, Stops, StopsIn}
use Rattle.graph_run.proofs.ApartLemmas.{KeepsApart, output_is}
use Rattle.graph_run.proofs.LawLemmas.{InWaves, all_get, in_first, reads_spare, runs_in, says_as, says_spare, status_in, tested_in, wave_passes, wave_reads}
use Rattle.graph_run.proofs.RestedLemmas.{AllRested, SomeRan, in_earlier, not_earlier, other_job, run_some, runs_rested, stop_some, tests_spare}

-- no entry of this part touches the output of such a job
abbrev AllSpared : Workflow → (ℕ → Type 0) → List Entry → List Entry → Type 0
AllSpared f Such before after = (job : ℕ) → Such job → Since (Spares (output_of f job)) before after

-- what holds at each moment holds there with what was spared before it and what is spared after it
moments : (f : Workflow) (Such : ℕ → Type 0) (P : List Entry → Type 0) → ((now : List Entry) → P now → (job : ℕ) → Such job → Spares (output_of f job) now) → {before after : List Entry} → Since P before after
    → (begin last : List Entry) → AllSpared f Such begin before → AllSpared f Such after last → Since (λ now. P now × AllSpared f Such begin now × AllSpared f Such now last) before after
moments f Such P spares start begin last first rest = start
moments f Such P spares (later {past = past} {entry = entry} since p) begin last first rest =
    let next : AllSpared f Such past last = λ job such. since_then (later start (spares (entry ∷ past) p job such)) (rest job such) in
    let now : AllSpared f Such begin (entry ∷ past) = λ job such. since_then (first job such) (later (since_as (λ n q. spares n q job such) since) (spares (entry ∷ past) p job such)) in
    later (moments f Such P spares since begin last first next) (p, now, rest)

module _ (f : Workflow) (apart : KeepsApart f) (waves : List (List ℕ)) (wave : List ℕ) (rest : List (List ℕ)) (split : f.waves ≡ waves ++ wave ∷ rest) (s : Standing)
    (earlier : (job status : ℕ) → status_of job s.ended ≡ Some status → InWaves waves job) where
  -- what is asked of a job of an earlier wave
  asked : (job : ℕ) → InWaves waves job → (a : Ask) × (slice_get f.asks job ≡ Some a)
  asked job such = let w = in_earlier f waves (wave ∷ rest) split job such in apart.has w.0 job w.2

  rested_job : (now : List Entry) → AllRested f now → (job : ℕ) → InWaves waves job → IsRested (output_of f job) now
  rested_job now rested job such = let a = asked job such in subst (λ o. IsRested o now) (sym (output_is f job a.0 a.1)) (rested job a.0 a.1)

  leaves : {before after : List Entry} → (job : ℕ) → IsRested (output_of f job) before → Since (Spares (output_of f job)) before after → LeavesOutput f job before after
  leaves job rested spared = record { spared = spared; acknowledged = spared_count (output_of f job) rested spared }

  leaves_ended : {begin last : List Entry} → AllRested f begin → AllSpared f (InWaves waves) begin last → LeavesEnded f s.ended begin last
  leaves_ended {begin} rested spared = record { each = λ job status is. leaves job (rested_job begin rested job (earlier job status is)) (spared job (earlier job status is)) }

  module _ (t : Tested) (begin on_disk : List Entry) (tests : TestsWave f s.ended begin wave t on_disk) where
    -- no job that passes writes to the output of an earlier one
    no_path : (n job : ℕ) → InWaves waves job → IsNoPath (numbered n t.asks) (output_of f job)
    no_path n job such k b is =
        let r = numbered_only n t.asks k b is in
        let p = wave_passes tests r.0 b r.2 in
        let a = asked job such in
        let has : Contains wave p.0 = all_get (Contains wave) t.jobs (tested_in tests).0 r.0 p.0 p.1 in
        subst (λ o. IsOther b.output o) (sym (output_is f job a.0 a.1)) (other_job f apart s.ended p.0 b p.2 job a.0 a.1 (not_earlier f apart waves wave rest split p.0 job such has))

    -- the jobs that pass have these numbers
    abbrev calls_of : List ℕ → List Entry → Type 0
    calls_of here = IsRunCall (cast_of (numbered s.ran t.asks) here false)

    calls_spare : (here : List ℕ) (now : List Entry) → calls_of here now → (job : ℕ) → InWaves waves job → Spares (output_of f job) now
    calls_spare here now call job such = run_spares (numbered s.ran t.asks) here (output_of f job) false (no_path s.ran job such) now call

    module _ (rested : AllRested f begin) (last : List Entry) where
      saved_all : (now : List Entry) → AllSpared f (InWaves waves) begin now → AllSpared f (InWaves waves) now last → (need : ℕ) → status_of need s.ended ≡ Some 0 → HasSavedAll f s.ended begin now last need
      saved_all now first after need done =
          let such = earlier need 0 done in
          let still = rested_job begin rested need such in
          record { done = done; since = leaves need still (first need such); later = leaves need (spared_rest (output_of f need) still (first need such)) (after need such) }

      may_start : (now : List Entry) → AllSpared f (InWaves waves) begin now → AllSpared f (InWaves waves) now last → (number : ℕ) (ask : Ask) → numbered s.ran t.asks number ≡ Some ask
          → MayStart f s t begin now last number
      may_start now first after number ask has =
          let r = numbered_only s.ran t.asks number ask has in
          let p = wave_passes tests r.0 ask r.2 in
          record { at = r.0; number_is = r.1; job = p.0; job_is = p.1; ask = ask; ask_is = r.2; passed = p.2; needs = λ need c. saved_all now first after need (p.2.needs need c) }

      starts : (here : List ℕ) (now : List Entry) → calls_of here now → AllSpared f (InWaves waves) begin now → AllSpared f (InWaves waves) now last → StartsBehind f s t begin last now
      starts here [] (inl is) first after = absurd is
      starts here [] (inr is) first after = absurd is.is
      starts here (Started number argv env dir did ∷ past) (inl is) first after =
          may_start (Started number argv env dir did ∷ past) first after number is.ask (subst (λ n. numbered s.ran t.asks n ≡ Some is.ask) (sym is.is.0) is.has)
      starts here (Started number argv env dir did ∷ past) (inr is) first after = elim is.is [ inl e ↦ absurd (cc) | inr e ↦ absurd (cc) ]
      starts here (entry ∷ past) call first after = tt

      reads_start : (now : List Entry) → IsTakeRead f now → StartsBehind f s t begin last now
      reads_start now read = subst (StartsBehind f s t begin last) (sym read.1.1.1) tt

  some_spare : {t : Tested} {begin on_disk : List Entry} {here : List ℕ} {said end : List Entry} → TestsWave f s.ended begin wave t on_disk → SomeRan t here s.ran said end → AllSpared f (InWaves waves) said end
  some_spare tests SomeRan.none job such = start
  some_spare {t} {begin} {on_disk} {here} tests (SomeRan.jobs turns r old new ran) job such =
      since_as (λ now call. calls_spare t begin on_disk tests here now call job such) (ran.calls false (λ e. absurd (cc)))

  some_start : {t : Tested} {begin on_disk : List Entry} {here : List ℕ} {said end : List Entry} → TestsWave f s.ended begin wave t on_disk → SomeRan t here s.ran said end → AllRested f begin → (last : List Entry)
      → AllSpared f (InWaves waves) begin said → AllSpared f (InWaves waves) end last → Since (StartsBehind f s t begin last) said end
  some_start tests SomeRan.none rested last first after = start
  some_start {t} {begin} {on_disk} {here} tests (SomeRan.jobs turns r old new ran) rested last first after =
      since_as (λ now m. starts t begin on_disk tests rested last here now m.0 m.1 m.2)
      (moments f (InWaves waves) (calls_of t begin on_disk tests here) (calls_spare t begin on_disk tests here) (ran.calls false (λ e. absurd (cc))) begin last first after)

  wave_spares_all : {t : Tested} {here : List ℕ} {cut : Type 0} {begin said end : List Entry} → IsTested f wave s.ended t cut begin said → SomeRan t here s.ran said end → AllSpared f (InWaves waves) begin end
  wave_spares_all tested ran job such = since_then (tests_spare (output_of f job) tested) (some_spare tested.tests ran job such)

  wave_waits : {t : Tested} {here : List ℕ} {cut : Type 0} {begin said end : List Entry} → IsTested f wave s.ended t cut begin said → SomeRan t here s.ran said end → AllRested f begin → (last : List Entry)
      → AllSpared f (InWaves waves) end last → Waits f s t begin end last
  wave_waits {t} {begin = begin} {said} tested ran rested last after =
      let first : AllSpared f (InWaves waves) begin said = λ job such. tests_spare (output_of f job) tested in
      record {
        leaves = leaves_ended rested (λ job such. since_then (wave_spares_all tested ran job such) (after job such));
        starts = since_then (since_as (reads_start t begin tested.on_disk tested.tests rested last) (wave_reads tested.tests))
            (since_then (says_as (StartsBehind f s t begin last) (λ bytes d past. tt) tested.says) (some_start tested.tests ran rested last first after));
      }

  cut_spares : {here : List ℕ} {turns : ℕ} {begin end : List Entry} {new : Counts} → StopsIn f here turns wave s begin new end → AllSpared f (InWaves waves) begin end
  cut_spares (StopsIn.in_tests reads) job such = since_as (reads_spare (output_of f job) f) reads
  cut_spares (StopsIn.behind_tests t mid said tested stops) job such = wave_spares_all tested (stop_some stops) job such

  cut_waits : {here : List ℕ} {turns : ℕ} {begin end : List Entry} {new : Counts} → (cut : StopsIn f here turns wave s begin new end) → AllRested f begin → (last : List Entry)
      → AllSpared f (InWaves waves) end last → CutWaits last cut
  cut_waits (StopsIn.in_tests reads) rested last after = leaves_ended rested (λ job such. since_then (since_as (reads_spare (output_of f job) f) reads) (after job such))
  cut_waits (StopsIn.behind_tests t mid said tested stops) rested last after = wave_waits tested (stop_some stops) rested last after

-- ---- wave after wave

-- a job that ended was one of an earlier wave
ended_in : {f : Workflow} {here : List ℕ} {turns : ℕ} {from : Counts} {before : List Entry} {waves : List (List ℕ)} {s : Standing} {new : Counts} {after : List Entry} → Runs f here turns from before waves s new after
    → (job status : ℕ) → status_of job s.ended ≡ Some status → InWaves waves job
ended_in {waves = waves} {s = s} ran job status at = status_in (InWaves waves) job status s.ended (runs_in ran) at

each_waits : (f : Workflow) → KeepsApart f → {here : List ℕ} {turns : ℕ} {from : Counts} {before : List Entry} {waves : List (List ℕ)} {s : Standing} {new : Counts} {after : List Entry}
    → (ran : Runs f here turns from before waves s new after) → (rest : List (List ℕ)) → f.waves ≡ waves ++ rest → AllRested f before → (last : List Entry)
    → AllSpared f (InWaves waves) after last → EachWaits last ran
each_waits f apart Runs.none rest split rested last spared = tt
each_waits f apart (Runs.more {waves = waves} {s = s} {past = past} left wave ran is one) rest split rested last spared =
    let whole : f.waves ≡ waves ++ wave ∷ rest = split ∙ append_assoc waves (wave ∷ []) rest in
    let after : AllSpared f (InWaves waves) _ last = λ job such. spared job (in_first waves wave job such) in
    let own = wave_spares_all f apart waves wave rest whole s (ended_in ran) one.tests (run_some one.run) in (
      each_waits f apart ran (wave ∷ rest) whole rested last (λ job such. since_then (own job such) (after job such)),
      wave_waits f apart waves wave rest whole s (ended_in ran) one.tests (run_some one.run) (runs_rested f apart ran (wave ∷ rest) whole rested) last after,
    )

stops_wait : (f : Workflow) → KeepsApart f → {here : List ℕ} {turns : ℕ} {from : Counts} {before : List Entry} {new : Counts} {after : List Entry} → (stops : Stops f here turns from before new after)
    → AllRested f before → (last : List Entry) → ((path : List ℕ) → Since (Spares path) after last) → StopsWait last stops
stops_wait f apart (Stops.between waves rest s split ran) rested last spared = each_waits f apart ran rest split rested last (λ job such. spared (output_of f job))
stops_wait f apart (Stops.within waves wave rest s left mid past split ran is cut) rested last spared =
    let own = cut_spares f apart waves wave rest split s (ended_in ran) cut in (
      each_waits f apart ran (wave ∷ rest) split rested last (λ job such. since_then (own job such) (spared (output_of f job))),
      cut_waits f apart waves wave rest split s (ended_in ran) cut (runs_rested f apart ran (wave ∷ rest) split rested) last (λ job such. spared (output_of f job)),
    )

pub waves_wait : (f : Workflow) → KeepsApart f → {here : List ℕ} {turns : ℕ} {rose cut : Type 0} {old new : Counts} {before : List Entry} {code : ℕ} {after : List Entry}
    → (on : RanOn f here turns rose cut old new before code after) → AllRested f before → WavesWait on
waves_wait f apart (RanOn.ran s fault code after runs status answers) rested = each_waits f apart runs [] (sym (append-nil f.waves)) rested after (λ job such. start)
waves_wait f apart (RanOn.stopped then past after stops grow says) rested = stops_wait f apart stops rested after (λ path. says_spare path says)
