use Rattle.std.proofs.Common.{List, ℕ, ◌++◌, refl, ap, ◌∙◌}
use Rattle.zmtp_wire.specs.Writing.{greeting_octets, ready_octets}
use Rattle.zmtp_peer.specs.Peer.{role_of}
use Rattle.kernel_lines.proofs.LineLemmas.{new_line}
use Rattle.kernel_lines.proofs.line.Line.new.Goals as goal

pub returns-clause-stands : goal.returns-clause-stands
returns-clause-stands c = new_line _ c.new-peer.ensures.stands (c.in_ok-start_bytes.ensures.ok ∙ ap (λ (x : List ℕ). x ++ (greeting_octets ++ ready_octets (role_of c.new-peer.result))) c.new-queue.ensures) c.new.ensures c.len-due.ensures c.len-due.type_inv refl
