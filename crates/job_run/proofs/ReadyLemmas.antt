-- What an execution stands for once all bodies of a piece were heard and the kernel's readiness is noted.
use Rattle.std.proofs.Common.{◌≡◌, ◌≢◌, ◌⊎◌, inl, ℕ, true, false, List, [], ◌∷◌, Option, Some, None, Result, Ok, Err, refl, sym, ◌∙◌, ap, subst}
use Rattle.std.proofs.Math.Bool.{true≢false}
use Rattle.world.specs.declared.chan.Chan.{Chan}
use Rattle.world.specs.declared.entry.Entry.{Entry}
use Rattle.kernel_talk.specs.Asking as asking
use Rattle.cell_core.specs.declared.act.Act.{Act}
use Rattle.cell_core.specs.declared.act.Act.TheVariants.{Nothing, Start, Send, Look, Interrupt, Save, Stop}
use Rattle.cell_core.specs.declared.event.Event.{Event}
use Rattle.cell_core.specs.declared.event.Event.TheVariants.{Ready}
use Rattle.cell_core.specs.declared.event.Event.TheVariants as event
use Rattle.cell_core.specs.declared.machine.Core.{Core}
use Rattle.cell_core.specs.declared.step.Step.{Step}
use Rattle.cell_core.specs.Acts.{act_of, has_stopped, heard}
use Rattle.cell_core.specs.Answering.{can_answer}
use Rattle.cell_core.specs.Requests.{Standing, standing}
use Rattle.cell_core.specs.StandsFor.{StandsFor, awaits_saved_of, task_of}
use Rattle.cell_core.proofs.Answering.{answers_kind, heard_all, runs_on}
use Rattle.job_end.specs.declared.end.End.{End}
use Rattle.run_journal.specs.Arrivals.{is_ready}
use Rattle.run_journal.specs.Codec.{Arrival}
use Rattle.run_journal.specs.Requests.{requests}
use Rattle.run_journal.proofs.Hearing.{none_unready}
use Rattle.job_journal.specs.Piece.{has_ended}
use Rattle.job_journal.specs.Plot.{Plot, IsFor, facts}
use Rattle.job_journal.specs.Told.{Hears, is_stop}
use Rattle.job_journal.proofs.Pieces.{none_done, none_waits, some_wait}
use Rattle.job_journal.proofs.Plots.{for_still}
use Rattle.job_journal.proofs.Readying.{ready_sends, ready_waits, stays_so}
use Rattle.job_journal.proofs.Steps.{hears_next}
use Rattle.job_run.specs.declared.execution.Execution.{Execution}
use Rattle.job_run.specs.declared.request.Request.{Request}
use Rattle.job_run.specs.Standing.{DoesAct, HasListened, IsAskedFor, NotesErrorOf, NotesSoFar, StandsTo, StaysStill, Uses, UsesOrEnds, all_used, open_request, parts_of, sent_of}
use Rattle.job_run.specs.Used.{TakesEvent}
use Rattle.job_run.proofs.MessageLemmas.{left_by}
use Rattle.job_run.proofs.NotedLemmas.{noted_none}
use Rattle.job_run.proofs.SaveLemmas.{none_sent, unsent}

-- ---- where the kernel doesn't become ready

-- while no save is awaited the request that stands isn't over
open_still : (core : Core) (told : List Event) → StandsFor core told → awaits_saved_of core ≡ false → has_stopped (task_of core) (heard (task_of core) told) ≡ false
    → (o : Option Standing) → standing (task_of core) told ≡ o → has_ended o ≡ false
open_still core told s calm on None e = refl
open_still core told s calm on (Some last) e =
    runs_on (task_of core) core.clock core.lost core.state (heard (task_of core) told) last s.so calm on (ap (standing (task_of core)) (heard_all (task_of core) told on) ∙ e)

module _ (p : Plot) (number : ℕ) (x : Execution) (c : Chan) (ms : List Arrival) (now : List Entry) (h : HasListened p number x c ms now) (calm : awaits_saved_of x.core ≡ false) where
  abbrev told : List Event
  told = h.parts.core.told

  task_is : task_of x.core ≡ (facts p).task
  task_is = h.parts.is_for.task_is

  going : has_stopped (task_of x.core) (heard (task_of x.core) told) ≡ false
  going = subst (λ task. has_stopped task (heard task told) ≡ false) (sym task_is) h.parts.core.hears.goes_on

  unended : has_ended (standing (facts p).task told) ≡ false
  unended =
      subst (λ task. has_ended (standing task told) ≡ false) task_is
      (open_still x.core told h.parts.core.hears.stands calm going (standing (task_of x.core) told) refl)

  steady : (x.is_ready ≡ true) ⊎ (asking.is_ready x.asking ≡ false) → is_ready (facts p) (h.entry ∷ h.past) ≡ is_ready (facts p) h.past
  steady so = stays_so p number (parts_of x) c ms h.entry h.past h.parts so

  -- before any of its messages
  noted_first : NotesSoFar (facts p) x.request c [] h.past
  noted_first = λ k q at. subst (NotesErrorOf (facts p) x.request k) (sym (none_done (facts p) c q h.past)) (h.noted k q at)

  by_request : (x.is_ready ≡ true) ⊎ (asking.is_ready x.asking ≡ false) → (o : Option Request) → x.request ≡ o → Uses p number x x.sent c [] ms (h.entry ∷ h.past)
  by_request so None e =
      all_used (record { parts = none_waits p number (parts_of x) c ms h.entry h.past h.parts (steady so) (ap sent_of e); asked = h.asked; noted = noted_none (facts p) x.request (requests (facts p) (h.entry ∷ h.past)) e }) (inl e)
  by_request so (Some r) e =
      open_request refl (some_wait p number (parts_of x) c ms h.entry h.past h.parts (steady so) (record { id = r.id; cell = r.cell }) (ap sent_of e) unended) h.asked noted_first

  pub unready_uses : (x.is_ready ≡ true) ⊎ (asking.is_ready x.asking ≡ false) → Uses p number x x.sent c [] ms now
  unready_uses so = subst (Uses p number x x.sent c [] ms) (sym h.is) (by_request so x.request refl)

  -- ---- where it does

  module _ (unready : x.is_ready ≡ false) (answered : asking.is_ready x.asking ≡ true) (core : Core) (answer : Step) (took : TakesEvent Ready answer x.core core) where
    abbrev z : Execution
    z = record x { core = core; is_ready = true }

    act_is : answer.act ≡ act_of (facts p).task Ready told
    act_is = took.act told h.parts.core.hears.stands tt ∙ ap (λ task. act_of task Ready told) task_is

    more : is_stop answer.act ≡ false → Hears (facts p) core (Ready ∷ told)
    more go =
        hears_next (facts p) x.core core Ready told answer.act h.parts.core.hears task_is (sym calm) tt (took.stands told h.parts.core.hears.stands tt) act_is go

    is_for : IsFor p number x.session core x.book
    is_for = for_still p number x.session x.session x.core core x.book x.book h.parts.is_for refl refl took.same refl refl

    kind : can_answer Ready answer.act ≡ true
    kind =
        subst (λ (act : Act). can_answer Ready act ≡ true) (sym (took.act told h.parts.core.hears.stands tt))
        (answers_kind (task_of x.core) x.core.clock x.core.lost x.core.state Ready told h.parts.core.hears.stands.so (sym calm) tt going x.core.later)

    other : (act : Act) → answer.act ≡ act → can_answer Ready act ≡ false → ⊥
    other act is off = true≢false (sym (subst (λ (a : Act). can_answer Ready a ≡ true) is kind) ∙ off)

    -- no request stands before
    none_then : x.request ≡ None
    none_then = unsent x.request (none_sent (facts p) (sent_of x.request) (requests (facts p) h.past) h.parts.request (none_unready (facts p) h.past (sym h.parts.ready ∙ unready)))

    abbrev asked : IsAskedFor p z
    asked = record { terms = h.asked.terms; tagged = h.asked.tagged }

    ready_by : (act : Act) → answer.act ≡ act → StandsTo p number z act (h.entry ∷ h.past)
    ready_by Nothing is = record {
      parts = ready_waits p number (parts_of x) c ms h.entry h.past h.parts unready answered core is_for (more (ap is_stop is)) Nothing (sym act_is ∙ is) refl;
      asked = asked;
      noted = noted_none (facts p) x.request (requests (facts p) (h.entry ∷ h.past)) none_then;
    }
    ready_by (Send cell) is = record {
      parts = ready_sends p number (parts_of x) c ms h.entry h.past h.parts unready answered core is_for (more (ap is_stop is)) cell (sym act_is ∙ is);
      asked = asked;
    }
    ready_by Start is = absurd (other Start is refl)
    ready_by Look is = absurd (other Look is refl)
    ready_by Interrupt is = absurd (other Interrupt is refl)
    ready_by (Save n) is = absurd (other (Save n) is refl)
    ready_by (Stop cause) is = absurd (other (Stop cause) is refl)

    ready_to : StandsTo p number z answer.act now
    ready_to = subst (StandsTo p number z answer.act) (sym h.is) (ready_by answer.act refl)

    module _ {U : Type 0} (y : Execution) (after : List Entry) where
      done_by : (u : U) (act : Act) → answer.act ≡ act → DoesAct {U = U} p number z answer.act y (Ok u) now after → (answer.act ≡ Nothing → StaysStill {U = U} z y (Ok u))
          → (y.request ≡ None) ⊎ (y.sent ≢ x.sent)
      done_by u Nothing is does stays = inl (ap (λ (e : Execution). e.request) (stays is).same ∙ none_then)
      done_by u (Send cell) is does stays = left_by z y x.sent refl ((does ready_to).1 (ap (can_answer event.Saved) is))
      done_by u Start is does stays = absurd (other Start is refl)
      done_by u Look is does stays = absurd (other Look is refl)
      done_by u Interrupt is does stays = absurd (other Interrupt is refl)
      done_by u (Save n) is does stays = absurd (other (Save n) is refl)
      done_by u (Stop cause) is does stays = absurd (other (Stop cause) is refl)

    -- what the core answers is done
    pub ready_does : {U : Type 0} (r : Result U End) (y : Execution) (after : List Entry) → DoesAct p number z answer.act y r now after → (answer.act ≡ Nothing → StaysStill z y r)
        → UsesOrEnds p number y r x.sent c [] ms after
    ready_does (Ok u) y after does stays = all_used (does ready_to).0 (done_by y after u answer.act refl does stays)
    ready_does (Err e) y after does stays = (does ready_to).0
