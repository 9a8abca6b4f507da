use Rattle.std.proofs.Common.{◌++◌, ◌∷◌, [], lit<, sym, ◌∙◌, drop, length}
use Rattle.std.proofs.lemmas.Iterator.Splits.{YieldsList-from_str_split}
use Rattle.std.proofs.lemmas.Iterator.Consumers.{YieldsList-turn, YieldsList-end}
use Rattle.toy_lang.specs.Runs as spec
use Rattle.toy_lang.proofs.LineSteps.{passes, sets, gives, closes, at_turn, at_end}
use Rattle.toy_lang.proofs.execution.run.Goals as goal

pub loop-line-preserved-in-Pass : goal.loop-line-preserved-in-Pass
loop-line-preserved-in-Pass c =
    let lines = spec.lines c.args.text.now in
    let turn = YieldsList-turn (YieldsList-from_str_split 10 c.args.text.now (lit< tt) (cc) (cc) (cc))
    c.loop-line.yielded _ c.loop-line.yielded_by _ _ c.in-Some.line c.in-Some.is c.next.ensures.steps in
    let rest = drop (length (c.loop-line.yielded ++ c.in-Some.line ∷ [])) lines in
    passes c.loop-line.s c.in-Some.line.now rest c.loop-line.effects _ _ (sym c.in-Pass.is ∙ c.in_ok-deed.ensures)
    (at_turn c.loop-line.s lines c.loop-line.yielded c.in-Some.line c.in-Some.line.now c.loop-line.effects _ _ turn
    c.loop-line.invariant)

pub loop-line-preserved-in-Continue-branch-3 : goal.loop-line-preserved-in-Continue-branch-3
loop-line-preserved-in-Continue-branch-3 c =
    let lines = spec.lines c.args.text.now in
    let turn = YieldsList-turn (YieldsList-from_str_split 10 c.args.text.now (lit< tt) (cc) (cc) (cc))
    c.loop-line.yielded _ c.loop-line.yielded_by _ _ c.in-Some.line c.in-Some.is c.next.ensures.steps in
    let rest = drop (length (c.loop-line.yielded ++ c.in-Some.line ∷ [])) lines in
    sets c.loop-line.s c.in-Some.line.now rest c.loop-line.effects _ _ c.in-Set.name c.in-Set.value c.set.new.self
    (sym c.in-Set.is ∙ c.in_ok-deed.ensures) c.in_ok-set-in-Set.ensures
    (at_turn c.loop-line.s lines c.loop-line.yielded c.in-Some.line c.in-Some.line.now c.loop-line.effects _ _ turn
    c.loop-line.invariant)

pub returns-then-last : goal.returns-then-last
returns-then-last c =
    let lines = spec.lines c.args.text.now in
    let turn = YieldsList-turn (YieldsList-from_str_split 10 c.args.text.now (lit< tt) (cc) (cc) (cc))
    c.loop-line.yielded _ c.loop-line.yielded_by _ _ c.in-Some.line c.in-Some.is c.next.ensures.steps in
    let rest = drop (length (c.loop-line.yielded ++ c.in-Some.line ∷ [])) lines in
    let e = closes c.loop-line.s c.in-Some.line.now rest c.loop-line.effects _ _ c.in-Give.effect c.push.new.self
    (sym c.in-Give.is ∙ c.in_ok-deed.ensures) (sym c.is_last-last.ensures ∙ c.if-last.true)
    c.in_ok-push-in-Give.ensures.ok
    (at_turn c.loop-line.s lines c.loop-line.yielded c.in-Some.line c.in-Some.line.now c.loop-line.effects _ _ turn
    c.loop-line.invariant) in
    record { effects = e.0; variables = e.1 }

pub loop-line-preserved : goal.loop-line-preserved
loop-line-preserved c =
    let lines = spec.lines c.args.text.now in
    let turn = YieldsList-turn (YieldsList-from_str_split 10 c.args.text.now (lit< tt) (cc) (cc) (cc))
    c.loop-line.yielded _ c.loop-line.yielded_by _ _ c.in-Some.line c.in-Some.is c.next.ensures.steps in
    let rest = drop (length (c.loop-line.yielded ++ c.in-Some.line ∷ [])) lines in
    gives c.loop-line.s c.in-Some.line.now rest c.loop-line.effects _ _ c.in-Give.effect c.push.new.self
    (sym c.in-Give.is ∙ c.in_ok-deed.ensures) (sym c.is_last-last.ensures ∙ c.if-last.false)
    c.in_ok-push-in-Give.ensures.ok
    (at_turn c.loop-line.s lines c.loop-line.yielded c.in-Some.line c.in-Some.line.now c.loop-line.effects _ _ turn
    c.loop-line.invariant)

pub returns : goal.returns
returns c =
    let end = YieldsList-end (YieldsList-from_str_split 10 c.args.text.now (lit< tt) (cc) (cc) (cc))
    c.loop-line.yielded _ c.loop-line.yielded_by _ _ c.in-None.is c.next.ensures.steps in
    let e = at_end c.loop-line.s (spec.lines c.args.text.now) c.loop-line.yielded c.loop-line.effects _ _ end.1
    c.loop-line.invariant in
    record { effects = e.0; variables = e.1 }
