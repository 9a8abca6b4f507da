use Rattle.std.proofs.Common.{refl, ◌≡◌, ◌+◌, length, Some, arith, sym, ◌∙◌, subst}
use Rattle.std.proofs.lemmas.Iterator.Adapters.{YieldsList-from_vec}
use Rattle.std.proofs.lemmas.Iterator.Consumers.{YieldsList-turn, YieldsList-end}
use Rattle.std.proofs.lemmas.List.{length_push}
use Rattle.std.proofs.lemmas.Option.{slice_get_read}
use Rattle.batch_run.specs.Batch.{numbered}
use Rattle.batch_run.specs.Owed.{begins}
use Rattle.batch_run.specs.Stands.{AllStand, served_by}
use Rattle.batch_run.proofs.EndLemmas.{numbered_at}
use Rattle.batch_run.proofs.OweLemmas.{exits, next_owed}
use Rattle.batch_run.proofs.batch.begin_all.Goals as goal

pub loop-ask-preserved : goal.loop-ask-preserved
loop-ask-preserved g c =
    let t = YieldsList-turn (YieldsList-from_vec c.args.asks (cc) (cc)) c.loop-ask.yielded _ c.loop-ask.yielded_by _ c.next.new.self c.in-Some.ask c.in-Some.is c.next.ensures.steps in
    let own : numbered c.args.first c.args.asks c.loop-ask.number ≡ Some c.in-Some.ask =
    subst (λ n. numbered c.args.first c.args.asks n ≡ Some c.in-Some.ask) (sym c.loop-ask.invariant.number) (numbered_at c.args.first c.args.asks (length c.loop-ask.yielded) ∙ slice_get_read c.args.asks _ (length c.loop-ask.yielded) c.in-Some.ask refl t.0 t.1) in
    record {
      number = omega (arith, c.loop-ask.invariant.number, length_push c.loop-ask.yielded c.in-Some.ask);
      size = c.begin.ensures.size ∙ c.loop-ask.invariant.size;
      waiting = c.in_ok-begin.ensures.waiting;
      stands = λ start from here s.
          next_owed begins (numbered c.args.first c.args.asks) start (served_by (begins 0) c.begin.new.self.lines.connections from) c.loop-ask.number
          (c.in_ok-begin.ensures.stands (numbered c.args.first c.args.asks) start from own here (c.loop-ask.invariant.stands start from here s));
      over = λ n. c.in_ok-begin.ensures.over (c.loop-ask.invariant.over n);
      fresh = c.in_ok-begin.ensures.fresh;
      drained = c.begin.ensures.drained c.loop-ask.invariant.drained;
      sound = c.in_ok-begin.ensures.sound;
      buf = c.begin.ensures.buf ∙ c.loop-ask.invariant.buf;
      waits = c.begin.ensures.waits ∙ c.loop-ask.invariant.waits;
    }

pub returns-in_err-begin-clause-stands : goal.returns-in_err-begin-clause-stands
returns-in_err-begin-clause-stands g c =
    let t = YieldsList-turn (YieldsList-from_vec c.args.asks (cc) (cc)) c.loop-ask.yielded _ c.loop-ask.yielded_by _ c.next.new.self c.in-Some.ask c.in-Some.is c.next.ensures.steps in
    let own : numbered c.args.first c.args.asks c.loop-ask.number ≡ Some c.in-Some.ask =
    subst (λ n. numbered c.args.first c.args.asks n ≡ Some c.in-Some.ask) (sym c.loop-ask.invariant.number) (numbered_at c.args.first c.args.asks (length c.loop-ask.yielded) ∙ slice_get_read c.args.asks _ (length c.loop-ask.yielded) c.in-Some.ask refl t.0 t.1) in
    λ start from here s.
    exits _ (numbered c.args.first c.args.asks) start from (begins (c.args.first + length c.args.asks)) c.begin.new.self.lines.connections c.from_residual.result c.from_residual.ensures.1
    (c.in_err-begin.ensures.stands (numbered c.args.first c.args.asks) start from own here (c.loop-ask.invariant.stands start from here s))

pub returns-in_err-begin-clause-waits : goal.returns-in_err-begin-clause-waits
returns-in_err-begin-clause-waits g c = c.begin.ensures.waits ∙ c.loop-ask.invariant.waits

pub returns-in_err-begin-clause-size : goal.returns-in_err-begin-clause-size
returns-in_err-begin-clause-size g c = c.begin.ensures.size ∙ c.loop-ask.invariant.size ∙ sym c.requires.size

pub returns-clause-stands : goal.returns-clause-stands
returns-clause-stands g c =
    let t = YieldsList-end (YieldsList-from_vec c.args.asks (cc) (cc)) c.loop-ask.yielded _ c.loop-ask.yielded_by _ c.next.new.self c.in-None.is c.next.ensures.steps in
    let last : c.loop-ask.number ≡ c.args.first + length c.args.asks = omega (arith, c.loop-ask.invariant.number, t.1) in
    λ start from here s.
    subst (λ n. AllStand (numbered c.args.first c.args.asks) start (served_by (begins n) c.loop-ask.running.lines.connections from) c.loop-ask.running.jobs.slots.items (g.W.Journal.journal c.loop-ask.w) (g.W.Journal.counts c.loop-ask.w)) last
    (c.loop-ask.invariant.stands start from here s)

pub returns-clause-size : goal.returns-clause-size
returns-clause-size g c = c.loop-ask.invariant.size ∙ sym c.requires.size
