use Rattle.std.proofs.Common.{◌∙◌, ◌++◌, ap, sym, subst, string_bytes, arith, rules}
use Rattle.kspec.specs.Arguments.{IsFilled}
use Rattle.kspec.proofs.Filled.{on_brace, no_brace, regrouped}
use Rattle.kspec.proofs.arguments.fill.Goals as goal

pub loop-front-preserved : goal.loop-front-preserved
loop-front-preserved c =
    let byte = c.in-Some.ensures.byte (omega arith) (λ w o found. found) in
    record {
      text = search rules;
      so_far = λ end filled.
          subst (IsFilled c.args.file.now c.args.folder.now c.args.word.now)
          (regrouped _ (string_bytes c.loop-front.out) c.in-Some.front.now c.put_in.result.0.now end
          (c.in_ok-push_str-2.ensures.bytes ∙ ap (λ x. x ++ c.put_in.result.0.now) c.in_ok-push_str.ensures.bytes))
          (c.loop-front.invariant.so_far _ (on_brace _ _ c.loop-front.rest.now c.in-Some.front.now c.in-Some.after.now c.put_in.result.0.now c.put_in.result.1.now end byte.2 byte.0 byte.1 c.put_in.ensures.puts filled));
    }

pub returns : goal.returns
returns c =
    subst (IsFilled c.args.file.now c.args.folder.now c.args.word.now)
    (sym (c.of_string.ensures ∙ c.in_ok-push_str-3.ensures.bytes))
    (c.loop-front.invariant.so_far _ (no_brace c.args.file.now c.args.folder.now c.loop-front.rest.now (c.in_default.ensures.byte (omega arith) (λ w o found. found))))
