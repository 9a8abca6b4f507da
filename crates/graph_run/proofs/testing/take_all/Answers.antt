use Rattle.std.proofs.Common.{List, ℕ, [], ◌+◌, ◌∙◌, refl, sym, ap, subst}
use Rattle.std.specs.Prelude.{Result, Ok, Err}
use Rattle.std.specs.List.{AllByRecursion}
use Rattle.jtext.specs.declared.json.Json.{Json}
use Rattle.jtext.specs.Edit.{set_pair}
use Rattle.jtext.specs.Grammar.{Distinct}
use Rattle.job_graph.specs.declared.take.Take.{Take}
use Rattle.words.specs.Runnable.{IsParameter}
use Rattle.words.proofs.PairLemmas.{all-set_pair, distinct-set_pair}
use Rattle.world.proofs.MomentsLemmas.{told_as, told_start, told_then}
use Rattle.graph_run.specs.declared.refusal.Refusal.{Refusal}
use Rattle.graph_run.specs.declared.refusal.Refusal.TheVariants as refusal
use Rattle.graph_run.specs.Tests.{Taken, TakesAll, takes_of}
use Rattle.graph_run.proofs.CauseLemmas.{disk_start, disk_then}
use Rattle.graph_run.proofs.TestLemmas.{err_is, one_taken, take_refused, takes_done, takes_starved}
use Rattle.graph_run.proofs.testing.take_all.Goals as goal

pub loop-take-init : goal.loop-take-init
loop-take-init g c =
    let same = c.in_ok-params.ensures ∙ c.as_slice.ensures in
    record {
      taken = told_start (λ x. ([], Taken.none, same));
      are = c.takes_of-takes.ensures;
      distinct = λ d. subst Distinct (sym same) d;
      parameters = λ p. subst (AllByRecursion IsParameter) (sym same) p;
      counts = disk_start (g.W.Journal.counts c.args.w.now);
    }

pub loop-take-preserved : goal.loop-take-preserved
loop-take-preserved g c =
    let f = c.args.flow.now in
    let t = c.take-item.result in
    let v = c.in_ok-value.value in
    let old = c.loop-take.params in
    let set = c.in_ok-set_pair.ensures ∙ ap (λ n. set_pair n v old) c.as_str.ensures in
    record {
      taken = told_then c.loop-take.invariant.taken c.in_ok-value.ensures.told (λ x y z h one.
          one_taken f c.takes_of-takes.result.now c.loop-take.take-index t v c.args.ask.now.params old c.set_pair.new.pairs (Ok v) x y z c.loop-take-test.true c.take-item.is h refl one set);
      are = c.takes_of-takes.ensures;
      distinct = λ d. subst Distinct (sym set) (distinct-set_pair t.param v old (c.loop-take.invariant.distinct d));
      parameters = λ p. subst (AllByRecursion IsParameter) (sym set)
          (all-set_pair IsParameter t.param v old (record { keyed = c.in_ok-value.ensures.parameter.0; nests = c.in_ok-value.ensures.parameter.1 }) (c.loop-take.invariant.parameters p));
      counts = disk_then c.loop-take.invariant.counts c.in_ok-value.ensures.counts;
    }

pub returns-clause-told : goal.returns-clause-told
returns-clause-told g c =
    told_as c.loop-take.invariant.taken (λ x y h.
    subst (λ (ts : List Take). TakesAll c.args.flow.now ts c.args.ask.now.params x (Ok c.loop-take.params) y) c.takes_of-takes.ensures
    (takes_done c.args.flow.now c.takes_of-takes.result.now c.loop-take.take-index c.args.ask.now.params c.loop-take.params x y c.loop-take-test.false h))

pub returns-in_err-params-clause-told : goal.returns-in_err-params-clause-told
returns-in_err-params-clause-told g c =
    let f = c.args.flow.now in
    let takes = takes_of f c.args.job in
    told_start (λ x. subst (λ (r : Result (List (List ℕ × Json)) Refusal). TakesAll f takes c.args.ask.now.params x r x) (sym (err_is c.from_residual.ensures.1)) (TakesAll.no_memory [] takes [] refl Taken.none))

pub returns-in_err-set_pair-clause-told : goal.returns-in_err-set_pair-clause-told
returns-in_err-set_pair-clause-told g c =
    let f = c.args.flow.now in
    let all = c.takes_of-takes.result.now in
    let k = c.loop-take.take-index in
    let t = c.take-item.result in
    let v = c.in_ok-value.value in
    let first = c.args.ask.now.params in
    let old = c.loop-take.params in
    told_then c.loop-take.invariant.taken c.in_ok-value.ensures.told (λ x y z h one.
    subst (λ (r : Result (List (List ℕ × Json)) Refusal). TakesAll f (takes_of f c.args.job) first x r z) (sym (err_is c.from_residual-in_err-set_pair.ensures.1))
    (subst (λ (ts : List Take). TakesAll f ts first x (Err refusal.NoMemory) z) c.takes_of-takes.ensures
    (takes_starved f all (k + 1) first (set_pair t.param v old) x z
    (one_taken f all k t v first old (set_pair t.param v old) (Ok v) x y z c.loop-take-test.true c.take-item.is h refl one refl))))

pub returns-in_err-value-clause-told : goal.returns-in_err-value-clause-told
returns-in_err-value-clause-told g c =
    let f = c.args.flow.now in
    let first = c.args.ask.now.params in
    let why = c.in_err-value.field-0.0 in
    told_then c.loop-take.invariant.taken c.in_err-value.ensures.told (λ x y z h one.
    subst (λ (r : Result (List (List ℕ × Json)) Refusal). TakesAll f (takes_of f c.args.job) first x r z) (sym (err_is c.from_residual-in_err-value.ensures.1))
    (subst (λ (ts : List Take). TakesAll f ts first x (Err why) z) c.takes_of-takes.ensures
    (take_refused f c.takes_of-takes.result.now c.loop-take.take-index c.take-item.result first c.loop-take.params (Err why) why x y z c.loop-take-test.true c.take-item.is h refl one)))
