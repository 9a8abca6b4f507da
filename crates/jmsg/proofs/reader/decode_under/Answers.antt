use Rattle.std.proofs.Common.{refl, sym, ◌∙◌}
use Rattle.std.proofs.lemmas.List.{take_rest}
use Rattle.std.proofs.lemmas.Option.{none-some, same_Some}
use Rattle.jmsg.proofs.FrameLemmas.{opened, not_true}
use Rattle.jmsg.proofs.VerdictLemmas.{framed, only_no_delimiter, only_short, only_unsigned, only_not_json, only_good}
use Rattle.jmsg.proofs.reader.decode_under.Goals as goal

pub returns-in_default-clause-only : goal.returns-in_default-clause-only
returns-in_default-clause-only c key under = only_no_delimiter _ _ (rw c.as_slice.ensures at c.in_default.ensures.none)

pub returns-in_default-after-clause-only : goal.returns-in_default-after-clause-only
returns-in_default-after-clause-only c key under = only_short _ _ _ (rw c.as_slice.ensures at c.in-Some.ensures.some) c.in_default-after.len_below

pub returns-then-not-signed-clause-is : goal.returns-then-not-signed-clause-is
returns-then-not-signed-clause-is c key under =
    let follow = opened _ _ _ _ _ _ _ (rw c.as_slice.ensures at c.in-Some.ensures.some) c.in-len5-up.len_at_least c.signature-item.is c.header-item.is c.parent-item.is c.metadata-item.is c.content-item.is in
    (framed _ _ _ _ _ _ _ follow, not_true (rw (c.bytes.ensures, c.bytes-header.ensures, c.bytes-parent.ensures, c.bytes-metadata.ensures, c.bytes-content.ensures) at (c.if-not-signed.ensures key under)).1)

pub returns-then-not-signed-clause-only : goal.returns-then-not-signed-clause-only
returns-then-not-signed-clause-only c key under =
    let follow = opened _ _ _ _ _ _ _ (rw c.as_slice.ensures at c.in-Some.ensures.some) c.in-len5-up.len_at_least c.signature-item.is c.header-item.is c.parent-item.is c.metadata-item.is c.content-item.is in
    only_unsigned _ _ _ _ _ _ _ _ follow (not_true (rw (c.bytes.ensures, c.bytes-header.ensures, c.bytes-parent.ensures, c.bytes-metadata.ensures, c.bytes-content.ensures) at (c.if-not-signed.ensures key under)).1)

pub returns-in-Some-given-clause-is : goal.returns-in-Some-given-clause-is
returns-in-Some-given-clause-is c key under =
    let follow = opened _ _ _ _ _ _ _ (rw c.as_slice.ensures at c.in-Some.ensures.some) c.in-len5-up.len_at_least c.signature-item.is c.header-item.is c.parent-item.is c.metadata-item.is c.content-item.is in
    let signed = (rw (c.bytes.ensures, c.bytes-header.ensures, c.bytes-parent.ensures, c.bytes-metadata.ensures, c.bytes-content.ensures) at (c.if-not-signed.ensures key under)).0 refl in
    let given = rw c.in-Some-given.is at c.in_ok-given.ensures.some in
    (framed _ _ _ _ _ _ _ follow, signed, rw (c.bytes-header.ensures, c.bytes-parent.ensures, c.bytes-metadata.ensures, c.bytes-content.ensures, take_rest) at given)

pub returns-in-Some-given-clause-only : goal.returns-in-Some-given-clause-only
returns-in-Some-given-clause-only c key under =
    let follow = opened _ _ _ _ _ _ _ (rw c.as_slice.ensures at c.in-Some.ensures.some) c.in-len5-up.len_at_least c.signature-item.is c.header-item.is c.parent-item.is c.metadata-item.is c.content-item.is in
    let signed = (rw (c.bytes.ensures, c.bytes-header.ensures, c.bytes-parent.ensures, c.bytes-metadata.ensures, c.bytes-content.ensures) at (c.if-not-signed.ensures key under)).0 refl in
    let given = rw c.in-Some-given.is at c.in_ok-given.ensures.some in
    let once = rw (c.bytes-header.ensures, c.bytes-parent.ensures, c.bytes-metadata.ensures, c.bytes-content.ensures, take_rest) at c.in_ok-given.ensures.only in
    only_good _ _ _ _ _ _ _ _ follow signed _ (rw (c.bytes-header.ensures, c.bytes-parent.ensures, c.bytes-metadata.ensures, c.bytes-content.ensures, take_rest) at given) (λ y g. same_Some _ _ (sym c.in-Some-given.is ∙ once y g))

pub returns-in-None-clause-is : goal.returns-in-None-clause-is
returns-in-None-clause-is c key under =
    let follow = opened _ _ _ _ _ _ _ (rw c.as_slice.ensures at c.in-Some.ensures.some) c.in-len5-up.len_at_least c.signature-item.is c.header-item.is c.parent-item.is c.metadata-item.is c.content-item.is in
    let signed = (rw (c.bytes.ensures, c.bytes-header.ensures, c.bytes-parent.ensures, c.bytes-metadata.ensures, c.bytes-content.ensures) at (c.if-not-signed.ensures key under)).0 refl in
    let once = rw (c.bytes-header.ensures, c.bytes-parent.ensures, c.bytes-metadata.ensures, c.bytes-content.ensures, take_rest) at c.in_ok-given.ensures.only in
    (framed _ _ _ _ _ _ _ follow, signed, λ given. none-some _ (sym c.in-None.is ∙ once given.0 given.1))

pub returns-in-None-clause-only : goal.returns-in-None-clause-only
returns-in-None-clause-only c key under =
    let follow = opened _ _ _ _ _ _ _ (rw c.as_slice.ensures at c.in-Some.ensures.some) c.in-len5-up.len_at_least c.signature-item.is c.header-item.is c.parent-item.is c.metadata-item.is c.content-item.is in
    let signed = (rw (c.bytes.ensures, c.bytes-header.ensures, c.bytes-parent.ensures, c.bytes-metadata.ensures, c.bytes-content.ensures) at (c.if-not-signed.ensures key under)).0 refl in
    let once = rw (c.bytes-header.ensures, c.bytes-parent.ensures, c.bytes-metadata.ensures, c.bytes-content.ensures, take_rest) at c.in_ok-given.ensures.only in
    only_not_json _ _ _ _ _ _ _ _ follow signed (λ x g. none-some _ (sym c.in-None.is ∙ once x g))
