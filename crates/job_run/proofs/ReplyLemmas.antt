-- A reply on shell to the request that stands, and what the core's answer to it makes of what an execution stands for.
use Rattle.std.proofs.Common.{◌≡◌, ℕ, Bool, true, false, ◌&&◌, not, List, [], ◌∷◌, ◌++◌, append_assoc, Option, Some, None, Result, refl, sym, ◌∙◌, ap, subst}
use Rattle.std.specs.Prelude.{slice_get}
use Rattle.std.proofs.Math.Bool.{true≢false}
use Rattle.world.specs.declared.chan.Chan.TheVariants.{Shell}
use Rattle.world.specs.declared.entry.Entry.{Entry}
use Rattle.jcontent.specs.declared.content.Content.{Content}
use Rattle.jcontent.specs.declared.content.Content.TheVariants.{ExecReply}
use Rattle.jcontent.specs.declared.reply.ReplyIs.{ReplyIs}
use Rattle.cell_core.specs.declared.act.Act.TheVariants.{Nothing, Save}
use Rattle.cell_core.specs.Events.{came, is_broken}
use Rattle.cell_core.specs.declared.event.Event.{Event}
use Rattle.cell_core.specs.declared.event.Event.TheVariants.{Reply}
use Rattle.cell_core.specs.declared.machine.Core.{Core}
use Rattle.cell_core.specs.declared.step.Step.{Step}
use Rattle.cell_core.specs.Acts.{act_of, takes_of}
use Rattle.cell_core.specs.Allowed.{is_allowed}
use Rattle.cell_core.specs.Answering.{save_at_end}
use Rattle.cell_core.specs.Requests.{standing}
use Rattle.cell_core.specs.StandsFor.{awaits_saved_of}
use Rattle.cell_core.specs.Task.{cell_of}
use Rattle.nb_model.specs.declared.notebook.Notebook.{Notebook}
use Rattle.out_fold.specs.Cells as cells
use Rattle.job_end.specs.declared.end.End.{End}
use Rattle.job_notebook.specs.declared.notebook.JobNotebook.{JobNotebook}
use Rattle.job_notebook.specs.State.{Keeps, KeepsParts}
use Rattle.run_journal.specs.Asked.{may_raise, stops_run}
use Rattle.run_journal.specs.Codec.{Arrival}
use Rattle.run_journal.specs.Job.{Job}
use Rattle.run_journal.specs.Requests.{Request as Asked, is_exec_reply, last_request, requests}
use Rattle.job_journal.specs.Piece.{RepliesBy, Within, has_ended, is_of, with_done}
use Rattle.job_journal.specs.Plot.{Plot, IsFor, facts, first}
use Rattle.job_journal.specs.Saved.{IsAsked}
use Rattle.job_journal.specs.Standing.{Parts, StandsBy}
use Rattle.job_journal.specs.Told.{Hears}
use Rattle.job_journal.specs.Used.{OnRequest, Sent, last}
use Rattle.job_journal.proofs.Knows.{takes_reply}
use Rattle.job_journal.proofs.Messages.{reply_ends, reply_goes_on}
use Rattle.job_journal.proofs.Plots.{for_still}
use Rattle.job_journal.proofs.Saving.{asked_save}
use Rattle.job_run.specs.declared.execution.Execution.{Execution}
use Rattle.job_run.specs.declared.request.Request.{Request}
use Rattle.job_run.specs.Heard.{is_parent_of}
use Rattle.job_run.proofs.BrokenLemmas.{none_broke}
use Rattle.job_run.proofs.NotedLemmas.{same_place, has_come, noted_more, noted_replied}
use Rattle.job_run.specs.Standing.{DoesAct, IsAskedFor, IsOwn, IsToSave, NotesSoFar, StaysStill, Uses, UsesOrEnds, all_used, open_request, parts_of, sent_of, StopsLate}
use Rattle.job_run.specs.Used.{NotesReply, SameRequest, TakesEvent, UsesReply, is_tagged_in, none, some}
use Rattle.job_run.proofs.MessageLemmas.{IsDealt, dealt, dealt_does, message_act, message_answer, message_heard, message_takes, own_left, parent_is}
use Rattle.job_run.proofs.LateLemmas.{message_late}

replies_by : (takes : Bool) (date : Option (List ℕ)) (given : Notebook) (old new : JobNotebook) (m : Arrival) → date ≡ m.date → (takes ≡ false → new ≡ old)
    → UsesReply takes date old new → RepliesBy takes given old new m
replies_by true date given old new m date_is still uses = λ us u k. subst (λ d. Keeps new given (us ++ cells.with_reply u d ∷ [])) date_is (uses given us u k)
replies_by false date given old new m date_is still uses = still refl

same_sent : (o q : Option Request) → SameRequest o q → sent_of q ≡ sent_of o
same_sent o q none = refl
same_sent o q (some {r} {s} id cell tagged) = ap (λ i. Some (record { id = i; cell = s.cell })) id ∙ ap (λ i. Some (record { id = r.id; cell = i })) cell

same_tag : (n : Notebook) (o q : Option Request) → SameRequest o q → ((r : Request) → o ≡ Some r → r.is_tagged ≡ may_raise (slice_get n.cells r.cell))
    → (s : Request) → q ≡ Some s → s.is_tagged ≡ may_raise (slice_get n.cells s.cell)
same_tag n o q none tag v e = absurd (cc)
same_tag n o q (some {r} {s} id cell tagged) tag v e =
    let same : s ≡ v = cc in
    subst (λ (u : Request). u.is_tagged ≡ may_raise (slice_get n.cells u.cell)) same (tagged ∙ tag r refl ∙ ap (λ i. may_raise (slice_get n.cells i)) (sym cell))

cell_known : (j : Job) (sent : Sent) (rs : List Asked) (k : ℕ) (r : Asked) → OnRequest j (Some sent) rs → last_request 0 rs ≡ Some (k, r) → sent.cell ≡ cell_of j.task k
cell_known j sent rs k r (last i s f id cell) is = cell ∙ ap (λ (v : ℕ × Asked). cell_of j.task v.0) (same_place (last_request 0 rs) i k s r f is)

tag_known : (p : Plot) (o : Option Request) (rs : List Asked) (k : ℕ) (r : Asked) (parent : Option (List ℕ)) → OnRequest (facts p) (sent_of o) rs → last_request 0 rs ≡ Some (k, r)
    → ((q : Request) → o ≡ Some q → q.is_tagged ≡ may_raise (slice_get p.given.cells q.cell)) → is_parent_of o parent ≡ true
    → is_tagged_in o ≡ may_raise (slice_get p.given.cells (cell_of (facts p).task k))
tag_known p None rs k r parent on is tag own = absurd (true≢false (sym own))
tag_known p (Some q) rs k r parent on is tag own = tag q refl ∙ ap (λ i. may_raise (slice_get p.given.cells i)) (cell_known (facts p) (record { id = q.id; cell = q.cell }) rs k r on is)

module _ (p : Plot) (number : ℕ) (x : Execution) (standing_then : ℕ) (done rest : List Arrival) (m : Arrival) (reply : ReplyIs) (fatal : Bool) (date : Option (List ℕ))
    (own : IsOwn m standing_then (ExecReply reply) date x) (fatal_is : fatal ≡ not (is_allowed reply x.terms.all_errors x.terms.names (is_tagged_in x.request)))
    (core : Core) (answer : Step) (book : JobNotebook) (request : Option Request) (took : TakesEvent (Reply fatal) answer x.core core)
    (calm : awaits_saved_of x.core ≡ false) (parts : KeepsParts x.book book) (still : answer.takes ≡ false → book ≡ x.book)
    (uses : UsesReply answer.takes date x.book book) (kept : SameRequest x.request request) (notes : NotesReply answer.takes fatal reply x.request request) where
  abbrev replied : Execution
  replied = record x { core = core; book = book; request = request }

  parts_are : parts_of replied ≡ record (parts_of x) { core = core; book = book }
  parts_are = ap (λ (s : Option Sent). record (parts_of x) { core = core; book = book; request = s }) (same_sent x.request request kept)

  module _ (entry : Entry) (past : List Entry) (w : Within p number (parts_of x) Shell done (m ∷ rest) entry past) (asked : IsAskedFor p x)
      (noted : NotesSoFar (facts p) x.request Shell done past) where
    abbrev told_before : List Event
    told_before = w.core.told

    abbrev reply_told : Event
    reply_told = Reply ((facts p).fatal w.k m.content)

    tag_is : is_tagged_in x.request ≡ may_raise (slice_get p.given.cells (cell_of (facts p).task w.k))
    tag_is = tag_known p x.request (requests (facts p) past) w.k w.r m.parent w.request w.last asked.tagged own.parent

    fatal_known : fatal ≡ (facts p).fatal w.k m.content
    fatal_known =
        fatal_is
        ∙ ap (λ b. not (is_allowed reply b x.terms.names (is_tagged_in x.request))) asked.terms.errors
        ∙ ap (λ names. not (is_allowed reply p.ask.all_errors names (is_tagged_in x.request))) asked.terms.names
        ∙ ap (λ b. not (is_allowed reply p.ask.all_errors p.ask.names b)) tag_is
        ∙ ap (λ (v : Content). stops_run p.ask (may_raise (slice_get p.given.cells (cell_of (facts p).task w.k))) v) own.content_is

    reply_taken : TakesEvent reply_told answer x.core core
    reply_taken = subst (λ b. TakesEvent (Reply b) answer x.core core) fatal_known took

    reply_act : answer.act ≡ save_at_end (facts p).task (standing (facts p).task (reply_told ∷ told_before))
    reply_act = message_act p x.core core reply_told answer told_before w.core.hears w.is_for.task_is calm refl refl (λ task. tt) reply_taken

    reply_answered : answer.act ≡ act_of (facts p).task reply_told told_before
    reply_answered = message_answer p x.core core reply_told answer told_before w.core.hears w.is_for.task_is calm refl refl (λ task. tt) reply_taken

    reply_takes : answer.takes ≡ takes_of (facts p).task reply_told told_before
    reply_takes = message_takes p x.core core reply_told answer told_before w.core.hears w.is_for.task_is calm refl refl (λ task. tt) reply_taken

    reply_heard : Hears (facts p) core (reply_told ∷ told_before)
    reply_heard = message_heard p x.core core reply_told answer told_before w.core.hears w.is_for.task_is calm refl refl (λ task. tt) reply_taken

    reply_for : IsFor p number x.session core book
    reply_for = for_still p number x.session x.session x.core core x.book book w.is_for refl refl took.same parts.output parts.merge

    reply_used : RepliesBy answer.takes (first p) x.book book m
    reply_used = replies_by answer.takes date (first p) x.book book m own.date_is still uses

    reply_mine : (is_exec_reply m.content && is_of (sent_of x.request) m.parent) ≡ true
    reply_mine = ap (λ (v : Content). is_exec_reply v && is_of (sent_of x.request) m.parent) (sym own.content_is) ∙ parent_is x.request m.parent ∙ own.parent

    -- its exception is noted where it stops the run
    noted_then : NotesSoFar (facts p) request Shell (done ++ m ∷ []) past
    noted_then =
        noted_more p number (parts_of x) done rest m entry past w reply_mine answer.takes fatal reply x.request request own.content_is fatal_known
        (reply_takes ∙ takes_reply (facts p) told_before w.k (with_done (facts p) Shell w.r done past) ((facts p).fatal w.k m.content) w.core.hears.goes_on w.knows) kept notes noted

    abbrev asked_then : IsAskedFor p replied
    asked_then = record { terms = asked.terms; tagged = same_tag p.given x.request request kept asked.tagged }

    reply_over : has_ended (standing (facts p).task (reply_told ∷ told_before)) ≡ true → (settled : ℕ) → answer.act ≡ Save settled → IsToSave p number replied settled (entry ∷ past)
    reply_over t settled is =
        let two = reply_ends p number (parts_of x) m done rest entry past w core book answer.takes reply_mine reply_for reply_heard reply_takes reply_used t in
        let both : (s : StandsBy p number (parts_of replied) [] [] (entry ∷ past)) × (s.core.told ≡ reply_told ∷ told_before)
        = subst (λ (q : Parts). (s : StandsBy p number q [] [] (entry ∷ past)) × (s.core.told ≡ reply_told ∷ told_before)) (sym parts_are) two in
        record {
          stands = record {
            parts = both.0;
            asked = asked_then;
            noted = noted_replied p number (parts_of x) done (m ∷ rest) entry past w request (done ++ m ∷ []) rest (sym (append_assoc done (m ∷ []) rest))
                (has_come p number (parts_of x) done rest m entry past w reply_mine) noted_then;
          };
          due = subst (λ es. IsAsked (facts p).task es settled) (sym both.1)
              (asked_save (facts p) told_before reply_told settled w.core.hears.goes_on (sym reply_answered ∙ is));
          late = subst (λ es. StopsLate p es (entry ∷ past)) (sym both.1)
              (message_late p x.core told_before reply_told (entry ∷ past) w.core.hears w.is_for.task_is calm refl t);
          broken = λ f. none_broke (facts p) x.core told_before w.core.hears w.is_for.task_is calm reply_told refl (ap (came is_broken) (sym both.1) ∙ f);
        }

    reply_dealt : IsDealt p number replied Shell (done ++ m ∷ []) rest entry past answer.act
    reply_dealt =
        dealt p number replied Shell (done ++ m ∷ []) rest entry past (standing (facts p).task (reply_told ∷ told_before)) answer.act reply_act noted_then
        (λ off.
        subst (λ (q : Parts). Within p number q Shell (done ++ m ∷ []) rest entry past) (sym parts_are)
        (reply_goes_on p number (parts_of x) m done rest entry past w core book answer.takes reply_mine reply_for reply_heard reply_takes reply_used off)) reply_over

  -- it is dealt with, and what it asks for is done
  pub reply_deals : {U : Type 0} (r : Result U End) (y : Execution) (before after : List Entry) → DoesAct p number replied answer.act y r before after
      → (answer.act ≡ Nothing → StaysStill replied y r) → (answer.act ≡ Nothing → after ≡ before) → Uses p number x standing_then Shell done (m ∷ rest) before
      → UsesOrEnds p number y r standing_then Shell (done ++ m ∷ []) rest after
  reply_deals r y before after does stays journal (open_request {entry} {past} same w asked noted) =
      dealt_does p number replied y standing_then Shell (done ++ m ∷ []) rest entry past after r answer.act (reply_dealt entry past w asked noted) same (asked_then entry past w asked noted) does stays journal
  reply_deals r y before after does stays journal (all_used s left) = absurd (own_left m standing_then (ExecReply reply) date x own left)
