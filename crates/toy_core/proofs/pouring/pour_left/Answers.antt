use Rattle.std.proofs.Common.{◌≡◌, [], ℕ, length, take, subst, rules}
use Rattle.toy_core.specs.Acts.{octets_on}
use Rattle.toy_core.specs.Outboxes.{rest_due}
use Rattle.toy_core.proofs.Pourings.{poured_none}
use Rattle.toy_core.proofs.pouring.pour_left.Goals as goal

pub returns-clause-octets : goal.returns-clause-octets
returns-clause-octets c =
    let b = c.args.outbox.now in
    let p =
    c.pour_acts.ensures.poured b.given _ (c.pour-2.ensures.poured b.given _ (c.pour.ensures.poured b.given [] (poured_none b.given c.args.buf.now))) in
    let same_len : length c.pour_acts.new.buf ≡ length c.args.buf.now = search rules in
    subst (λ (n : ℕ). take c.pour_acts.new.self.filled c.pour_acts.new.buf ≡ take n (rest_due b (octets_on c.args.chan c.args.acts.now))) same_len
    (rw (c.front.ensures, c.bytes.ensures) at p.filled)
