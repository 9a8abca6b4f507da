-- What an event that the core is told makes of what an execution stands for.
use Rattle.std.proofs.Common.{◌≡◌, ◌⊎◌, inl, inr, ◌≤◌, ℕ, true, false, List, [], ◌∷◌, Some, Result, Ok, Err, refl, sym, ◌∙◌, ap, subst}
use Rattle.std.specs.Result.{IsErrAnd}
use Rattle.std.proofs.Math.Bool.{true≢false}
use Rattle.world.specs.declared.entry.Entry.{Entry}
use Rattle.world.specs.Places as places
use Rattle.cell_core.specs.declared.act.Act.{Act}
use Rattle.cell_core.specs.declared.act.Act.TheVariants.{Nothing, Start, Send, Look, Interrupt, Save, Stop}
use Rattle.cell_core.specs.declared.event.Event.{Event}
use Rattle.cell_core.specs.declared.event.Event.TheVariants as event
use Rattle.cell_core.specs.declared.machine.Core.{Core}
use Rattle.cell_core.specs.declared.step.Step.{Step}
use Rattle.cell_core.specs.Acts.{IsTimely, act_of, has_stopped, heard}
use Rattle.cell_core.specs.Answering.{can_answer}
use Rattle.cell_core.specs.declared.why.Why.{Why}
use Rattle.cell_core.specs.Events.{came, is_broken, is_looked, is_saved, time}
use Rattle.cell_core.specs.Saves.{why as why_of}
use Rattle.cell_core.specs.StandsFor.{task_of, awaits_saved_of}
use Rattle.cell_core.proofs.Answering.{answers_kind, no_interrupt, sent_at_start}
use Rattle.run_journal.specs.Agreement.{IsOther, moment, looked, lost, broken}
use Rattle.run_journal.proofs.Agreeing.{agree_other}
use Rattle.job_journal.specs.Ended.{IsLateStop, IsWhole}
use Rattle.job_journal.specs.Plot.{Plot, facts}
use Rattle.job_journal.specs.Saved.{IsAsked}
use Rattle.job_journal.specs.Standing.{StandsBy}
use Rattle.job_journal.specs.Told.{Hears, is_stop}
use Rattle.job_journal.proofs.Ended.{stops_by_other}
use Rattle.job_journal.proofs.Ending.{other_told}
use Rattle.job_journal.proofs.KeepingUp.{clocks_other}
use Rattle.job_journal.proofs.Late.{time_over}
use Rattle.job_journal.proofs.Plots.{for_still}
use Rattle.job_journal.proofs.Saving.{asked_save}
use Rattle.job_journal.proofs.Steps.{hears_next}
use Rattle.job_end.specs.declared.end.End.{End}
use Rattle.job_run.specs.declared.execution.Execution.{Execution}
use Rattle.job_run.specs.Standing.{EndsSo, NotesBroken, Stands, StandsOrEnds, StandsTo, StandsToOrEnds, StopsLate, parts_of}
use Rattle.job_run.specs.Used.{TakesEvent}
use Rattle.job_run.proofs.ToldLemmas.{peer_broke}
use Rattle.job_run.proofs.LateLemmas.{other_late, stop_cause}
use Rattle.job_run.proofs.LiveLemmas.{heard_so, look_rises, look_time}

other_unsaved : (e : Event) → IsOther e → is_saved e ≡ false
other_unsaved e (moment ms) = refl
other_unsaved e looked = refl
other_unsaved e lost = refl
other_unsaved e broken = refl

not_start : (e : Event) → IsOther e → (e ≡ event.Saved) ⊎ (e ≡ event.Ready) → ⊥
not_start e (moment ms) (inl h) = absurd (cc)
not_start e (moment ms) (inr h) = absurd (cc)
not_start e looked (inl h) = absurd (cc)
not_start e looked (inr h) = absurd (cc)
not_start e lost (inl h) = absurd (cc)
not_start e lost (inr h) = absurd (cc)
not_start e broken (inl h) = absurd (cc)
not_start e broken (inr h) = absurd (cc)

module _ (p : Plot) (number : ℕ) (x : Execution) (core : Core) (e : Event) (answer : Step) (now : List Entry) (s : Stands p number x now) (t : TakesEvent e answer x.core core)
    (order : is_saved e ≡ awaits_saved_of x.core) (timely : IsTimely (task_of x.core) e s.parts.core.told) where
  abbrev told : List Event
  told = s.parts.core.told

  task_is : task_of x.core ≡ (facts p).task
  task_is = s.parts.is_for.task_is

  answered : answer.act ≡ act_of (facts p).task e told
  answered = t.act told s.parts.core.hears.stands timely ∙ ap (λ task. act_of task e told) task_is

  more : is_stop answer.act ≡ false → Hears (facts p) core (e ∷ told)
  more go =
      hears_next (facts p) x.core core e told answer.act s.parts.core.hears task_is order (subst (λ task. IsTimely task e told) task_is timely) (t.stands told s.parts.core.hears.stands timely)
      answered go

  -- the parts stand for the journal, and the core has been told
  abbrev told_parts : IsOther e → is_stop answer.act ≡ false → (t : StandsBy p number (parts_of (record x { core = core })) [] [] now) × (t.core.told ≡ e ∷ told)
  told_parts o go =
      other_told p number (parts_of x) [] now s.parts e core o
      (for_still p number x.session x.session x.core core x.book x.book s.parts.is_for refl refl t.same refl refl) (more go)

  abbrev other_stands : IsOther e → is_stop answer.act ≡ false → Stands p number (record x { core = core }) now
  other_stands o go = record {
    parts = (told_parts o go).0;
    asked = record { terms = s.asked.terms; tagged = s.asked.tagged };
    noted = s.noted;
  }

  kind : can_answer e (act_of (task_of x.core) e told) ≡ true
  kind = answers_kind (task_of x.core) x.core.clock x.core.lost x.core.state e told s.parts.core.hears.stands.so order timely
      (subst (λ task. has_stopped task (heard task told) ≡ false) (sym task_is) s.parts.core.hears.goes_on) x.core.later

  -- what is answered is of the kind of the event
  pub answered_kind : can_answer e answer.act ≡ true
  answered_kind = subst (λ (act : Act). can_answer e act ≡ true) (sym (t.act told s.parts.core.hears.stands timely)) kind

  -- where it was told of a broken stream, it is noted which
  abbrev Noted : Type 0
  Noted = came is_broken (e ∷ told) ≡ true → NotesBroken (facts p) x.broken now

  -- a look comes while no stream is broken, and the journal's clock isn't behind the core's
  abbrev Looks : Type 0
  Looks = is_looked e ≡ true → IsWhole (facts p) now × (time told ≤ places.time now)

  -- so where a loss or a time that is over stops the job by it, that time is over
  looks_late : Looks → IsOther e → is_looked e ≡ true → (cause : Why) → why_of (facts p).task (e ∷ told) ≡ Some cause → IsLateStop (facts p) cause now
  looks_late seen o l cause f =
      let j = facts p in
      let agreed = agree_other j e told now o s.parts.core.agrees in
      record {
        whole = (seen l).0;
        over = time_over j (e ∷ told) now s.parts.undated agreed (clocks_other j e told now s.parts.core.agrees agreed s.parts.core.up.requests)
            (look_rises e told l (heard_so x.core told s.parts.core.hears.stands calm going).rising) (subst (λ n. n ≤ places.time now) (sym (look_time e told l)) (seen l).1) cause f;
      }
    where
      going : has_stopped (task_of x.core) (heard (task_of x.core) told) ≡ false
      going = subst (λ task. has_stopped task (heard task told) ≡ false) (sym task_is) s.parts.core.hears.goes_on

      calm : awaits_saved_of x.core ≡ false
      calm = sym order ∙ other_unsaved e o

  kind_of : (act : Act) → answer.act ≡ act → can_answer e act ≡ true
  kind_of act is = subst (λ (a : Act). can_answer e a ≡ true) is answered_kind

  other_by : Noted → Looks → IsOther e → (act : Act) → answer.act ≡ act → StandsTo p number (record x { core = core }) act now
  other_by broke seen o Nothing is = other_stands o (ap is_stop is)
  other_by broke seen o Look is = other_stands o (ap is_stop is)
  other_by broke seen o Start is =
      absurd (true≢false (sym (subst (λ (act : Act). can_answer e act ≡ true) (sym (t.act told s.parts.core.hears.stands timely) ∙ is) kind) ∙ other_unsaved e o))
  other_by broke seen o (Send cell) is = absurd (not_start e o (sent_at_start (facts p).task e told cell (sym answered ∙ is)))
  other_by broke seen o Interrupt is = no_interrupt (facts p).task e told s.parts.undated (sym answered ∙ is)
  other_by broke seen o (Save settled) is = record {
    stands = other_stands o (ap is_stop is);
    due = subst (λ es. IsAsked (facts p).task es settled) (sym (told_parts o (ap is_stop is)).1)
        (asked_save (facts p) told e settled s.parts.core.hears.goes_on (sym answered ∙ is));
    late = subst (λ es. StopsLate p es now) (sym (told_parts o (ap is_stop is)).1)
        (other_late p told e now o (looks_late seen o) (Save settled) (kind_of (Save settled) is) refl refl);
    broken = λ f. broke (ap (came is_broken) (sym (told_parts o (ap is_stop is)).1) ∙ f);
  }
  other_by broke seen o (Stop cause) is = record {
    stopped = stops_by_other p number (parts_of x) now s.parts e cause o (sym answered ∙ is);
    late = other_late p told e now o (looks_late seen o) (Stop cause) (kind_of (Stop cause) is) refl refl cause
        (stop_cause (facts p).task e told cause s.parts.core.hears.goes_on (sym answered ∙ is));
    request = s.parts.request;
    noted = s.noted;
    broken = λ f. broke (peer_broke (facts p).task e told (sym answered ∙ is ∙ ap (λ w. Stop w) f));
  }

  -- an event of the clock, a look, a loss or a broken stream was told: what its act is for is due by the journal
  pub told_other : (y : Execution) → y ≡ record x { core = core } → Noted → Looks → IsOther e → StandsTo p number y answer.act now
  told_other y rest broke seen o = subst (λ k. StandsTo p number k answer.act now) (sym rest) (other_by broke seen o answer.act refl)

-- ---- where a job ends, and that is passed on

pub ended_to : (p : Plot) (number : ℕ) (x : Execution) (r : Result Act End) (k : End) (now : List Entry) → IsErrAnd r (λ e. e ≡ k) → EndsSo p k now → StandsToOrEnds p number x r now
ended_to p number x (Ok act) k now is h = absurd is
ended_to p number x (Err e) k now is h = subst (λ (v : End). EndsSo p v now) (sym is) h

pub ended_so : {U : Type 0} (p : Plot) (number : ℕ) (x : Execution) (r : Result U End) (k : End) (now : List Entry) → IsErrAnd r (λ e. e ≡ k) → EndsSo p k now → StandsOrEnds p number x r now
ended_so p number x (Ok u) k now is h = absurd is
ended_so p number x (Err e) k now is h = subst (λ (v : End). EndsSo p v now) (sym is) h

-- ---- where a stream broke

-- what an execution stands for doesn't depend on which stream broke
pub broken_stands : (p : Plot) (number : ℕ) (x y : Execution) (now : List Entry) → y ≡ record x { broken = y.broken } → Stands p number x now → Stands p number y now
broken_stands p number x y now rest s =
    subst (λ k. Stands p number k now) (sym rest) (record { parts = s.parts; asked = record { terms = s.asked.terms; tagged = s.asked.tagged }; noted = s.noted })
