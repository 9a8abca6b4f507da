use Rattle.std.proofs.Common.{◌≡◌, ◌++◌, take, drop, ap, ◌∙◌}
use Rattle.std.specs.List.{flat_map, prefix_len}
use Rattle.jtext.specs.Print.{escape_byte}
use Rattle.jtext.specs.Strings.{is_plain}
use Rattle.jtext.proofs.PlainRuns.{runs_more, runs_end}
use Rattle.jtext.proofs.escape.write_letters.Goals as goal
use Rattle.std.proofs.lemmas.List.{nil_from_length}

pub returns-in_default : goal.returns-in_default
returns-in_default c =
    let plain = c.split_at.result.0.now in
    let after = c.split_at.result.1.now in
    let front : plain ≡ take (prefix_len is_plain c.runs.rest.now) c.runs.rest.now = c.split_at.ensures.front ∙ ap (λ k. take k c.runs.rest.now) c.plain_len.ensures.len in
    let back : after ≡ drop (prefix_len is_plain c.runs.rest.now) c.runs.rest.now = c.split_at.ensures.back ∙ ap (λ k. drop k c.runs.rest.now) c.plain_len.ensures.len in
    runs_end c.runs.out c.add.new.self c.runs.rest.now plain after (c.args.out.now ++ flat_map escape_byte c.args.bytes.now) front back (nil_from_length after c.in_default.ensures.cases) c.runs.invariant c.in_ok-add.ensures.ok

pub runs-preserved : goal.runs-preserved
runs-preserved c =
    let plain = c.split_at.result.0.now in
    let after = c.split_at.result.1.now in
    let front : plain ≡ take (prefix_len is_plain c.runs.rest.now) c.runs.rest.now = c.split_at.ensures.front ∙ ap (λ k. take k c.runs.rest.now) c.plain_len.ensures.len in
    let back : after ≡ drop (prefix_len is_plain c.runs.rest.now) c.runs.rest.now = c.split_at.ensures.back ∙ ap (λ k. drop k c.runs.rest.now) c.plain_len.ensures.len in
    runs_more c.runs.out c.add.new.self c.write_byte.new.out c.runs.rest.now plain after c.in-Some.more.now (c.args.out.now ++ flat_map escape_byte c.args.bytes.now) c.in-Some.byte.now front back c.in-Some.ensures.cases.0 c.runs.invariant
    c.in_ok-add.ensures.ok c.in_ok-write_byte.ensures
