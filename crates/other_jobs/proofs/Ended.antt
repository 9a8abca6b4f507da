-- Jobs that have ended while others go on, and what is renamed onto a job's output.
use Rattle.std.proofs.Common.{◌≡◌, ℕ, ◌+◌, List, [], ◌∷◌, ◌++◌, length, Bool, true, false, cond, Some, Option, Result, Ok, Err, refl, sym, ◌∙◌, ap, subst}
use Rattle.std.specs.Str.{bytes_eq}
use Rattle.words.specs.declared.ask.Ask.{Ask}
use Rattle.world.specs.declared.entry.Entry.{Entry}
use Rattle.world.specs.declared.entry.Entry.TheVariants as made
use Rattle.world.specs.Moments.{Since, start, more}
use Rattle.save_course.specs.Course.{IsRested}
use Rattle.job_end.specs.declared.answer.Answer.{Answer}
use Rattle.job_saves.specs.Calls.{Cast, IsCall, IsCallOf}
use Rattle.kernel_talk.specs.Asking.{Asked, asks}
use Rattle.kernel_talk.specs.Asking as asking
use Rattle.ready_loop.specs.declared.fault.LoopFault.{LoopFault}
use Rattle.ready_loop.specs.declared.readiness.Loop.{Loop}
use Rattle.ready_loop.specs.History.{History}
use Rattle.ready_loop.specs.Standing.{IsOfLoop, StandsFor}
use Rattle.ready_loop.specs.Waits.{Turned}
use Rattle.run_journal.specs.Job.{Job}
use Rattle.run_journal.specs.Arrivals.{ask_state, can_ask, is_ready}
use Rattle.run_journal.specs.Requests.{requests}
use Rattle.run_journal.specs.Saves.{renamed_texts, run_saves}
use Rattle.job_journal.specs.Ended.{HasAnswered}
use Rattle.job_journal.specs.Made.{HasMade}
use Rattle.job_journal.specs.Plot.{Plot, facts}
use Rattle.job_journal.specs.Quiet.{IsQuietNow}
use Rattle.job_journal.specs.Standing.{HasEndedAs}
use Rattle.job_journal.proofs.Books.{none_anew}
use Rattle.job_journal.proofs.Ended.{answer_stays, answered_on, come_still, texts_on}
use Rattle.job_journal.proofs.Making.{made_stays, same_texts}
use Rattle.job_journal.proofs.Quiet.{requests_same}
use Rattle.job_journal.proofs.Talks.{asks_at}
use Rattle.other_jobs.specs.Elsewhere.{SavesElsewhere}
use Rattle.other_jobs.specs.Turns.{TurnBrings}
use Rattle.other_jobs.proofs.Calling.{call_quiet, call_rests, calls_rest}
use Rattle.other_jobs.proofs.Loops.{loop_rests}
use Rattle.other_jobs.proofs.Turning.{turn_brings}

-- ---- the clock

-- no kernel becomes ready by it
asked_ready : (b : Bool) (a : Asked) (ids : List (List ℕ)) (at : Option ℕ)
    → asking.is_ready (cond b (record { ids = ids; at = at; told = a.told; heard = a.heard }) a) ≡ asking.is_ready a
asked_ready true a ids at = refl
asked_ready false a ids at = refl

clock_ready : (j : Job) (ms : ℕ) (past : List Entry) → is_ready j (made.Moment ms ∷ past) ≡ is_ready j past
clock_ready j ms past =
    let was : Asked = ask_state j past in
    ap (λ (a : Asked). asking.is_ready a) (asks_at j ms past)
    ∙ asked_ready (asks was (can_ask j past) ms) was (was.ids ++ j.msg_id (length was.ids + 1) ∷ []) (Some ms)

-- where no interrupt is asked for, the requests stay
clock_requests : (j : Job) (ms : ℕ) (past : List Entry) → j.task.times.interrupt ≡ false → requests j (made.Moment ms ∷ past) ≡ requests j past
clock_requests j ms past plain =
    none_anew j (made.Moment ms) past refl (clock_ready j ms past) ∙ requests_same j plain (made.Moment ms) past (λ c. refl) (requests j past)

pub still_ended : (p : Plot) (ms : ℕ) (past : List Entry) → (facts p).task.times.interrupt ≡ false → HasEndedAs p past → HasEndedAs p (made.Moment ms ∷ past)
still_ended p ms past plain g = record {
  cause = g.cause;
  count = g.count;
  made = subst (λ rs. HasMade (facts p) (run_saves (facts p) rs g.cause) g.count (made.Moment ms ∷ past)) (sym (clock_requests (facts p) ms past plain))
      (made_stays (facts p) (run_saves (facts p) (requests (facts p) past) g.cause) g.count (made.Moment ms) past refl g.made);
}

pub ended_clock : (p : Plot) (a : Answer) (ms : ℕ) (past : List Entry) → (facts p).task.times.interrupt ≡ false → HasAnswered p a past
    → HasAnswered p a (made.Moment ms ∷ past)
ended_clock p a ms past plain g =
    answer_stays p past (made.Moment ms ∷ past)
    (record { requests_are = clock_requests (facts p) ms past plain; saves_are = refl; texts_are = refl; bytes_are = λ c. refl; came = λ at e. come_still at (made.Moment ms) past e }) a (still_ended p ms past plain g.ended) g

-- ---- turns

ended_brings : (p : Plot) (a : Answer) (result : Result ℕ LoopFault) (before now : List Entry) → (facts p).task.times.interrupt ≡ false → TurnBrings result before now
    → HasAnswered p a before → HasAnswered p a now
ended_brings p a (Ok ms) before now plain came g =
    subst (HasAnswered p a) (sym came.newest) (ended_clock p a ms came.past plain (answered_on p a before came.past plain (came.quiet (facts p)) g))
ended_brings p a (Err fault) before now plain came g = answered_on p a before now plain (came (facts p)) g

pub ended_turns : (p : Plot) (a : Answer) (due : Option ℕ) (result : Result ℕ LoopFault) (last : ℕ) (old new : Loop) (h : History) (before now : List Entry)
    → (facts p).task.times.interrupt ≡ false → StandsFor old h before → Turned due result last old new before now → HasAnswered p a before → HasAnswered p a now
ended_turns p a due result last old new h before now plain stand turned g =
    ended_brings p a result before now plain (turn_brings due result last old new h before now stand turned) g

-- ---- calls of jobs that save elsewhere

ended_call : (p : Plot) (a : Answer) (here : List ℕ) (starts clean : Bool) (n : ℕ) (ask : Ask) → bytes_eq ask.output (facts p).output ≡ false
    → (facts p).task.times.interrupt ≡ false → (entry : Entry) (past : List Entry) → IsCallOf here starts clean n ask past entry → IsRested (facts p).output past
    → HasAnswered p a past → HasAnswered p a (entry ∷ past)
ended_call p a here starts clean n ask apart plain (made.Moment ms) past is rested g = ended_clock p a ms past plain g
ended_call p a here starts clean n ask apart plain entry past is rested g =
    answered_on p a past (entry ∷ past) plain (more start (call_quiet (facts p) here starts clean n ask apart entry past is (λ e. absurd (cc)) rested)) g

pub ended_calls : (p : Plot) (a : Answer) (c : Cast) {before now : List Entry} → (facts p).task.times.interrupt ≡ false → SavesElsewhere c (facts p).output
    → Since (IsCall c) before now → IsRested (facts p).output before → HasAnswered p a before → HasAnswered p a now
ended_calls p a c plain elsewhere start rested g = g
ended_calls p a c plain elsewhere (more {past} {entry} since is) rested g =
    ended_call p a c.here c.starts c.clean is.number is.ask (elsewhere.each is.number is.ask is.has) plain entry past is.is
    (calls_rest (facts p).output c elsewhere since rested) (ended_calls p a c plain elsewhere since rested g)

-- ---- what is renamed onto the output

module _ (j : Job) where
  pub renamed_quiet : (before now : List Entry) → Since (IsQuietNow j) before now → renamed_texts j now ≡ renamed_texts j before
  renamed_quiet = texts_on j

  pub renamed_calls : (c : Cast) (before now : List Entry) → SavesElsewhere c j.output → Since (IsCall c) before now → renamed_texts j now ≡ renamed_texts j before
  renamed_calls c before now elsewhere start = refl
  renamed_calls c before now elsewhere (more {past} {entry} since is) =
      same_texts j entry past (call_rests j.output c.here c.starts c.clean is.number is.ask (elsewhere.each is.number is.ask is.has) entry past is.is)
      ∙ renamed_calls c before past elsewhere since

  pub renamed_loops : (before now : List Entry) → Since IsOfLoop before now → renamed_texts j now ≡ renamed_texts j before
  renamed_loops before now start = refl
  renamed_loops before now (more {past} {entry} since is) = same_texts j entry past (loop_rests j.output entry is) ∙ renamed_loops before past since
