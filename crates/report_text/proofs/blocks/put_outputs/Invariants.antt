use Rattle.std.proofs.Common.{◌≡◌, ◌++◌, flat_map, take}
use Rattle.report_text.specs.Page.{output_block}
use Rattle.report_text.proofs.blocks.put_outputs.Given as goal

abbrev pub invariant-loop-output : goal.invariant-loop-output
invariant-loop-output l = l.out ≡ l.initial.out ++ flat_map output_block (take l.output-index l.outputs)
