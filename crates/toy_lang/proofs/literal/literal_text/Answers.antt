use Rattle.std.proofs.Common.{◌++◌, Some, None, option_map, string_bytes, sym, ap, ◌∙◌}
use Rattle.std.proofs.lemmas.Iterator.{YieldsList-from_chars}
use Rattle.std.proofs.lemmas.Iterator.Consumers.{YieldsList-turn, YieldsList-end}
use Rattle.std.proofs.lemmas.List.{append-nil}
use Rattle.std.specs.Str.{chars}
use Rattle.toy_lang.specs.Literals as spec
use Rattle.toy_lang.proofs.LiteralSteps.{after_turn, refused_turn, at_end, unclosed}
use Rattle.toy_lang.proofs.literal.literal_text.Goals as goal

pub returns-in_default : goal.returns-in_default
returns-in_default c =
    let turn = YieldsList-turn (YieldsList-from_chars c.args.literal.now c.utf8.literal cc) c.loop-c.yielded _
    c.loop-c.yielded_by _ _ c.in-Some.c c.in-Some.is c.next.ensures.steps in
    refused_turn (string_bytes c.loop-c.out) c.loop-c.stage (chars c.args.literal.now) c.loop-c.yielded c.in-Some.c _
    turn (sym c.advance.ensures ∙ c.in_default.is) c.loop-c.invariant

pub loop-c-preserved-in_ok-push : goal.loop-c-preserved-in_ok-push
loop-c-preserved-in_ok-push c =
    let turn = YieldsList-turn (YieldsList-from_chars c.args.literal.now c.utf8.literal cc) c.loop-c.yielded _
    c.loop-c.yielded_by _ _ c.in-Some.c c.in-Some.is c.next.ensures.steps in
    after_turn (string_bytes c.loop-c.out) (string_bytes c.push.new.self) c.loop-c.stage c.in-Some-advance.next
    (Some c.in-Some-put.put) (chars c.args.literal.now) c.loop-c.yielded c.in-Some.c _ turn
    (sym c.advance.ensures ∙ c.in-Some-advance.is ∙ ap (λ p. Some (p, c.in-Some-advance.next)) c.in-Some-put.is)
    c.in_ok-push.ensures.bytes c.loop-c.invariant

pub loop-c-preserved : goal.loop-c-preserved
loop-c-preserved c =
    let turn = YieldsList-turn (YieldsList-from_chars c.args.literal.now c.utf8.literal cc) c.loop-c.yielded _
    c.loop-c.yielded_by _ _ c.in-Some.c c.in-Some.is c.next.ensures.steps in
    after_turn (string_bytes c.loop-c.out) (string_bytes c.loop-c.out) c.loop-c.stage c.in-Some-advance.next None
    (chars c.args.literal.now) c.loop-c.yielded c.in-Some.c _ turn
    (sym c.advance.ensures ∙ c.in-Some-advance.is ∙ ap (λ p. Some (p, c.in-Some-advance.next)) c.in_default-put.is)
    (sym (append-nil (string_bytes c.loop-c.out))) c.loop-c.invariant

pub returns-in-Closed : goal.returns-in-Closed
returns-in-Closed c =
    let end = YieldsList-end (YieldsList-from_chars c.args.literal.now c.utf8.literal cc) c.loop-c.yielded _
    c.loop-c.yielded_by _ _ c.in-None.is c.next.ensures.steps in
    ap Some (c.of_string.ensures ∙ sym (append-nil (string_bytes c.loop-c.out)))
    ∙ sym (ap (λ s. option_map (λ t. string_bytes c.loop-c.out ++ t) (spec.ending s)) c.in-Closed.is)
    ∙ at_end (string_bytes c.loop-c.out) c.loop-c.stage (chars c.args.literal.now) c.loop-c.yielded _ end.1
    c.loop-c.invariant

pub returns-in_default-stage : goal.returns-in_default-stage
returns-in_default-stage c =
    let end = YieldsList-end (YieldsList-from_chars c.args.literal.now c.utf8.literal cc) c.loop-c.yielded _
    c.loop-c.yielded_by _ _ c.in-None.is c.next.ensures.steps in
    sym (unclosed (string_bytes c.loop-c.out) c.loop-c.stage c.in_default-stage.not-Closed)
    ∙ at_end (string_bytes c.loop-c.out) c.loop-c.stage (chars c.args.literal.now) c.loop-c.yielded _ end.1
    c.loop-c.invariant
