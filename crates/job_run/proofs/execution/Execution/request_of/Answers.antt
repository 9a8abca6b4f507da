use Rattle.std.proofs.Common.{◌≡◌, ◌+◌, Some, refl, sym, subst, ap, ◌∙◌}
use Rattle.std.specs.Prelude.{codes, slice_get, not, ◌||◌}
use Rattle.world.specs.declared.chan.Chan.TheVariants.{Shell}
use Rattle.nb_model.specs.Planned.{code}
use Rattle.jcontent.specs.Requests.{execute}
use Rattle.kernel_talk.specs.Requests.{Identity, message_id}
use Rattle.job_run.specs.Said.{QueuesNext, asks_for, may_raise}
use Rattle.job_run.proofs.ListenLemmas.{by_place}
use Rattle.job_run.proofs.execution.Execution.request_of.Goals as goal

pub returns-clause-queues : goal.returns-clause-queues
returns-clause-queues c = λ d at.
    let x = c.args.self.now in
    let lists = c.as_slice.ensures ∙ ap (λ n. n.cells) c.notebook.ensures in
    let source : c.index-as_slice-cell.result ≡ d = by_place c.as_slice.result.now c.args.cell c.index-as_slice-cell.result d (subst (λ xs. slice_get xs c.args.cell ≡ Some d) (sym lists) at) c.index-as_slice-cell.is in
    let stops : c.stops_kernel-stops.result ≡ not (x.terms.all_errors || may_raise d) = c.stops_kernel-stops.ensures ∙ ap (λ t. not (x.terms.all_errors || t)) (c.tagged-is_tagged.ensures ∙ ap may_raise source) in
    let content : c.in_ok-content.content ≡ asks_for x.terms d
    = c.in_ok-content.ensures ∙ ap (λ t. execute t c.stops_kernel-stops.result) (c.in_ok-text.ensures ∙ ap code source) ∙ ap (execute (code d)) stops in
    subst (λ t. QueuesNext Shell (codes "execute_request") t x c.say.new.self) content c.in_ok-say.ensures.queues

pub returns-clause-request : goal.returns-clause-request
returns-clause-request c = λ d at.
    let x = c.args.self.now in
    let lists = c.as_slice.ensures ∙ ap (λ n. n.cells) c.notebook.ensures in
    let source : c.index-as_slice-cell.result ≡ d = by_place c.as_slice.result.now c.args.cell c.index-as_slice-cell.result d (subst (λ xs. slice_get xs c.args.cell ≡ Some d) (sym lists) at) c.index-as_slice-cell.is in
    record {
      id = c.in_ok-id.ensures ∙ ap (λ n. message_id c.say.new.self.session.name n) (c.made.ensures ∙ ap (λ (i : Identity). i.made) c.in_ok-say.ensures.asks)
          ∙ ap (λ (i : Identity). message_id i.name (x.session.made + 1)) c.in_ok-say.ensures.asks;
      cell_is = refl;
      tagged = c.tagged-is_tagged.ensures ∙ ap may_raise source;
      calm = refl;
    }
