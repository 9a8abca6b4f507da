use Rattle.std.proofs.Common.{◌≡◌, Some, sym, ap, ◌∙◌}
use Rattle.toy_core.specs.Acts.{first_close}
use Rattle.toy_core.specs.Standing.{with_agenda, cut, cut_short}
use Rattle.toy_core.specs.Toy.{Is}
use Rattle.toy_core.proofs.machine.Machine.interrupt_cell.Goals as goal

pub returns-clause-stands : goal.returns-clause-stands
returns-clause-stands c = λ s a.
    let running : first_close s.kernel.agenda.acts ≡ Some (c.in-Some.parent.now, c.in-Some.count) =
    ap (λ k. first_close k.agenda.acts) (sym a.kernel) ∙ sym c.in-Some.ensures in
    let is_cut : Is (record { kernel = record c.args.self.now.kernel { agenda = c.cut.new.self }; lanes = c.args.self.now.lanes }) (cut_short c.args.now s) = record {
      kernel = ap (λ g. with_agenda g c.args.self.now.kernel) c.cut.ensures ∙ ap (λ k. with_agenda (cut c.args.now k.agenda) k) a.kernel;
      lines = a.lines;
    } in
    rw running (rw (c.in_ok-parent.ensures, c.in_ok-notes.ensures) at (c.in_ok-do_at_once.ensures.stands _ is_cut))
