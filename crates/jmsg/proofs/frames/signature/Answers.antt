use Rattle.std.proofs.Common.{sym, ◌∙◌, ap, length, Some}
use Rattle.std.proofs.lemmas.Option.{IfSome_then}
use Rattle.jmsg.proofs.FrameLemmas.{follow_or_not, frames_there, signature_at}
use Rattle.jmsg.proofs.VerdictLemmas.{short_or_frames}
use Rattle.jmsg.proofs.frames.signature.Goals as goal

pub returns-in_err-after_delimiter-clause-only : goal.returns-in_err-after_delimiter-clause-only
returns-in_err-after_delimiter-clause-only c f long = absurd (follow_or_not _ _ (rw c.as_slice.ensures at c.in_err-after_delimiter.ensures.none) f.follow)

pub returns-in_default-clause-only : goal.returns-in_default-clause-only
returns-in_default-clause-only c f long = absurd (short_or_frames _ _ (rw c.as_slice.ensures at c.in_ok-after_delimiter.ensures.some) c.in_default.len_below f)

pub returns-clause-some : goal.returns-clause-some
returns-clause-some c =
    let follow = rw c.as_slice.ensures at c.in_ok-after_delimiter.ensures.some in
    let found = frames_there _ _ _ follow c.in-len5-up.len_at_least c.signature-item.is in
    IfSome_then c.octets_64.result c.octets_64.ensures.some (λ sig e. (found.0, found.1 ∙ sym c.bytes.ensures ∙ sym e))

pub returns-clause-only : goal.returns-clause-only
returns-clause-only c f long =
    let follow = rw c.as_slice.ensures at c.in_ok-after_delimiter.ensures.some in
    let same = c.bytes.ensures ∙ signature_at _ _ _ follow c.signature-item.is f in
    c.octets_64.ensures.only (ap length same ∙ long) ∙ ap Some same
