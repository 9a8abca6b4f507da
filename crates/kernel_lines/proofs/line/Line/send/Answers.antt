use Rattle.std.proofs.Common.{◌≡◌, ◌∷◌, ◌++◌, sym, ap, ◌∙◌, subst}
use Rattle.std.proofs.lemmas.Result.{on_ok_weaker}
use Rattle.zmtp_peer.specs.Reply.{owed_octets}
use Rattle.kernel_lines.specs.Happened.{Given, came_in}
use Rattle.kernel_lines.specs.Due.{sent_octets}
use Rattle.kernel_lines.specs.Line.{StandsFor, role_of, IsPut}
use Rattle.kernel_lines.proofs.LineLemmas.{shaken_is, waits, goes}
use Rattle.kernel_lines.proofs.line.Line.send.Goals as goal

pub returns-then-shaken-clause-stands : goal.returns-then-shaken-clause-stands
returns-then-shaken-clause-stands c =
    let l = c.args.self.now in
    let r = role_of l in
    let m = c.args.parts.now in
    let octets : c.bytes.result.now ≡ sent_octets r m = c.bytes.ensures ∙ c.in_ok-octets.ensures in
    on_ok_weaker c.put.result
    (λ e. λ h out s.
    let over = sym (shaken_is r (came_in h) c.shaken.result (c.shaken.ensures.is (came_in h) (owed_octets r (came_in h)) s.peer)) ∙ c.if-shaken.true in
    let e' : IsPut l c.put.new.self (sent_octets r m) = subst (λ x. IsPut l c.put.new.self x) octets e in
    subst (λ x. StandsFor x (Given m ∷ h) out) (sym e') (goes l h out m over s)) c.put.ensures.ok

pub returns-clause-stands : goal.returns-clause-stands
returns-clause-stands c =
    let l = c.args.self.now in
    let r = role_of l in
    let m = c.args.parts.now in
    let octets : c.bytes-else-shaken.result.now ≡ sent_octets r m = c.bytes-else-shaken.ensures ∙ c.in_ok-octets.ensures in
    on_ok_weaker c.add.result
    (λ e. λ h out s.
    let over = sym (shaken_is r (came_in h) c.shaken.result (c.shaken.ensures.is (came_in h) (owed_octets r (came_in h)) s.peer)) ∙ c.if-shaken.false in
    waits l h out m c.add.new.self over (e ∙ ap (λ x. l.waiting ++ x) octets) s) c.add.ensures.ok
