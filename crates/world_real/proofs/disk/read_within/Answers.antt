use Rattle.std.proofs.Common.{rules, ◌<◌, ◌≤◌, ◌≡◌, length, Some, IfSome, subst, sym}
use Rattle.world_real.specs.Files.{found_within}
use Rattle.world_real.proofs.FileLemmas.{whole_read}
use Rattle.world_real.proofs.disk.read_within.Goals as goal

pub returns-clause-whole : goal.returns-clause-whole
returns-clause-whole g c =
    let remaining = g.F.Read.remaining in
    let buf = c.read_to_end.new.buf.items in
    let limited = c.take-limited.result in
    let within : length buf ≤ c.args.most = search rules in
    let few : length buf < c.saturating_add.result = search rules in
    let whole =
    whole_read remaining limited.inner c.args.file limited.limit c.saturating_add.result c.args.most
    c.new-bytes.result.items buf c.take-limited.ensures.inner c.take-limited.ensures.limit
    c.new-bytes.ensures.items few within c.in_ok-read_to_end.ensures.bytes
    in
    subst (λ found. IfSome (remaining c.args.file) (λ left. Some found ≡ found_within c.args.most left))
    (sym c.of_vec.ensures) whole
