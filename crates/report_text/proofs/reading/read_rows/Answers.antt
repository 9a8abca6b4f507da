use Rattle.std.proofs.Common.{arith, rules, ap}
use Rattle.report_text.specs.Rows.{rows}
use Rattle.report_text.proofs.Whole.{progress_none, progress_more, refused_at, refused_end}
use Rattle.report_text.proofs.reading.read_rows.Goals as goal

pub loop-row-init : goal.loop-row-init
loop-row-init c = record {
  text = search rules;
  so_far = progress_none (rows c.args.text.now) c.new-draft.result c.new-draft.ensures.cells c.new-draft.ensures.place;
  small = omega arith;
}

pub returns-then-not-branch-clause-refused : goal.returns-then-not-branch-clause-refused
returns-then-not-branch-clause-refused c =
    refused_at (rows c.args.text.now) (rows c.loop-row.rest.now) (rows c.in-Some.after.now) c.loop-row.number c.loop-row.draft c.in-Some.row.now
    c.loop-row.invariant.so_far c.in-Some.ensures.first (search rules)

pub loop-row-preserved : goal.loop-row-preserved
loop-row-preserved c = record {
  text = search rules;
  so_far = progress_more (rows c.args.text.now) (rows c.loop-row.rest.now) (rows c.in-Some.after.now) c.loop-row.number c.loop-row.draft c.take.new.self c.in-Some.row.now
      c.loop-row.invariant.so_far c.in-Some.ensures.first (search rules);
  small = omega (arith, c.in-Some.ensures.shorter);
}

pub returns-in-None-clause-refused : goal.returns-in-None-clause-refused
returns-in-None-clause-refused c =
    refused_end (rows c.args.text.now) (rows c.loop-row.rest.now) c.loop-row.number c.loop-row.draft
    c.loop-row.invariant.so_far (ap rows c.in_default.ensures.none) (search rules)
