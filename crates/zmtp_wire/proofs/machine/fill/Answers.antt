use Rattle.std.proofs.Common.{◌≡◌, ◌≤◌, length, true, false, arith, sym, ap, ◌∙◌}
use Rattle.zmtp_wire.specs.declared.state.State.TheVariants.{Units}
use Rattle.zmtp_wire.specs.Frame.{is_command}
use Rattle.zmtp_wire.proofs.RunLemmas.{run-filled}
use Rattle.zmtp_wire.proofs.machine.fill.Goals as goal
use Rattle.zmtp_wire.proofs.machine.fill.Goals.{else-is_command-via-then-is_command+else-len-lt6, else-is_command-via-else-is_command}

pub returns-in_ok-add-in-Body-clause-run : goal.returns-in_ok-add-in-Body-clause-run
returns-in_ok-add-in-Body-clause-run c = λ r.
    let h : is_command c.in-Body.flag ≡ true → 6 ≤ length c.in-Body.body =
    elim c.else-is_command.branch [
      | else-is_command-via-then-is_command+else-len-lt6 w ↦ λ e. omega (arith, w.len.ensures, w.if-len-lt6.false)
      | else-is_command-via-else-is_command w ↦ λ e. let k : true ≡ false = sym e ∙ sym c.is_command.ensures ∙ w.if-is_command.false in absurd (cc)
    ] in
    run-filled r c.args.at _ c.in-Units.phase c.in-Body.flag c.in-Body.size c.len-in-Body.result c.middle-taken.result c.args.state c.in-Body.body c.add.new.self c.args.rest.now c.split_at.result.0.now c.split_at.result.1.now
    c.ranges.at.fits (c.in-Units.is ∙ ap (Units c.in-Units.phase) c.in-Body.is) c.split_at.ensures.by_index.0 h c.len-in-Body.ensures c.split_at.ensures.front_len c.middle-taken.ensures.before_last c.saturating_add-now.ensures
    c.in_ok-add-in-Body.ensures.ok
