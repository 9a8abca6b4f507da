use Rattle.std.proofs.Common.{◌≡◌, ◌+◌, ◌-◌, take, drop, length, min, refl, ap, arith, ◌∙◌}
use Rattle.std.proofs.lemmas.List.{take_rest, length-take}
use Rattle.toy_core.proofs.Pourings.{poured_more, length_put}
use Rattle.toy_core.proofs.pouring.Pouring.pour.Goals as goal

pub returns-clause-poured : goal.returns-clause-poured
returns-clause-poured c = λ given all w.
    let p = c.args.self.now in
    let count : c.min-count.result ≡ min (length (drop p.skip c.args.octets.now)) (length c.args.buf.now - p.filled) = rw take_rest at c.min-count.ensures in
    let part : c.copy_from_slice.new.self ≡ take c.min-count.result (drop p.skip c.args.octets.now) = simp take_rest at c.copy_from_slice.ensures.after in
    let part_len : length c.copy_from_slice.new.self ≡ c.min-count.result = ap length part ∙ length-take c.min-count.result (drop p.skip c.args.octets.now) ∙ omega arith in
    poured_more given all c.args.octets.now c.args.buf.now c.copy_from_slice.new.self p c.min-count.result (p.filled + c.min-count.result) w
    (omega arith) count part (length_put p.filled _ c.args.buf.now c.copy_from_slice.new.self (omega arith) (part_len ∙ omega arith)) refl
