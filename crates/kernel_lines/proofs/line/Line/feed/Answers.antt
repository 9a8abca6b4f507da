use Rattle.std.proofs.Common.{List, [], subst}
use Rattle.zmtp_wire.specs.Stream.{Message}
use Rattle.zmtp_peer.specs.Peer.{Brings}
use Rattle.zmtp_peer.specs.Reply.{owed_octets}
use Rattle.kernel_lines.specs.Happened.{came_in}
use Rattle.kernel_lines.specs.Line.{role_of}
use Rattle.kernel_lines.proofs.LineLemmas.{behind}
use Rattle.kernel_lines.proofs.line.Line.feed.Goals as goal

pub returns-clause-stands : goal.returns-clause-stands
returns-clause-stands c = λ h out s.
    let l = c.args.self.now in
    let k = c.in_ok-fault.ensures in
    let reads = c.feed-answer.ensures.stands k.0 (came_in h) (owed_octets (role_of l) (came_in h)) s.peer in
    c.in_ok-reply.ensures.stands h out c.args.piece.now (behind l c.feed-answer.new.self h out c.args.piece.now c.feed-answer.ensures.role reads s)

pub returns-clause-brings : goal.returns-clause-brings
returns-clause-brings c = λ h out s.
    let l = c.args.self.now in
    let k = c.in_ok-fault.ensures in
    let r = role_of l in
    let b = came_in h in
    let brings = c.feed-answer.ensures.brings k.0 b (owed_octets r b) s.peer in
    subst (λ x. Brings r b c.args.piece.now [] c.feed-answer.new.out x) k.1 (subst (λ (x : List Message). Brings r b c.args.piece.now x c.feed-answer.new.out c.feed-answer.result) c.new-messages.ensures brings)
