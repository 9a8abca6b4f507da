use Rattle.std.proofs.Common.{◌≡◌, ℕ, List, false, sym, ap, subst, ◌∙◌}
use Rattle.toy_core.specs.Standing.{has_ended, heard, served_all}
use Rattle.toy_core.specs.Toy.{Is}
use Rattle.toy_core.proofs.Happening.{took_settled_is}
use Rattle.toy_core.proofs.machine.Machine.take_settled.Goals as goal

pub returns-clause-stands : goal.returns-clause-stands
returns-clause-stands c = λ s a.
    let goes_on : has_ended s.kernel ≡ false = ap has_ended (sym a.kernel) ∙ sym c.has_ended.ensures ∙ c.if-has_ended.false in
    let is_heard : Is (record { kernel = c.args.self.now.kernel; lanes = c.hear.new.self }) (heard c.args.chan c.args.piece.now s) = record {
      kernel = a.kernel;
      lines = c.in_ok-bodies.ensures.lines s.lines a.lines;
    } in
    rw (took_settled_is c.args.now c.args.key.now c.args.chan c.args.piece.now s goes_on)
    (subst (λ (bodies : List (List (List ℕ))). Is c.serve_all.new.self (served_all c.args.now c.args.key.now c.args.chan bodies (heard c.args.chan c.args.piece.now s)))
    (c.in_ok-bodies.ensures.news s.lines a.lines) (c.in_ok-serve_all.ensures.stands _ is_heard))
