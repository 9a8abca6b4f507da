use Rattle.std.proofs.Common.{◌≡◌, true, false, Some, refl, sym, subst, ◌∙◌}
use Rattle.jmsg.specs.declared.decoded.Decoded.TheVariants.{Good}
use Rattle.jmsg.specs.Signed.{Decodes, Signed}
use Rattle.run_journal.specs.Jupyter.{signature_frame}
use Rattle.job_run.proofs.HeardLemmas.{signature_of, same_some, heard_fresh, heard_stale, body_heard, undecoded}
use Rattle.job_run.proofs.fresh.fresh_message.Goals as goal

pub returns-then-is_fresh-clause-heard : goal.returns-then-is_fresh-clause-heard
returns-then-is_fresh-clause-heard c key signs =
    let parts = c.args.parts.now in
    let was = c.args.seen.now in
    heard_fresh key parts was c.fresh.new.self c.in_ok-decoded.decoded c.in-Good.message c.in-Some.signature c.in_ok-is_fresh.is_fresh c.in-Good.is (c.in_ok-decoded.ensures.is key signs)
    (signature_of key parts was c.fresh.new.self (Some c.in-Some.signature) c.signature_is_long.ensures c.in-Some.ensures.only)
    c.if-is_fresh.true c.in_ok-is_fresh.ensures.answer c.in_ok-is_fresh.ensures.kept

pub returns-then-is_fresh-clause-next : goal.returns-then-is_fresh-clause-next
returns-then-is_fresh-clause-next c key signs before done messages h =
    let parts = c.args.parts.now in
    let was = c.args.seen.now in
    let now = c.fresh.new.self in
    let m = c.in-Good.message in
    let sig = c.in-Some.signature in
    let signed : Signed key parts m = subst (Decodes key parts) c.in-Good.is (c.in_ok-decoded.ensures.is key signs) in
    let own : sig ≡ signed.0.signature = same_some key parts was now sig signed.0.signature (signature_of key parts was now (Some sig) c.signature_is_long.ensures c.in-Some.ensures.only m signed) in
    let frame : signature_frame parts ≡ sig = c.signatures_are_frames.ensures.frame parts signed.0 ∙ sym own in
    body_heard key parts was now before done messages m sig c.in_ok-is_fresh.is_fresh true
    (c.bodies_are_heard.ensures.signed key before done was now messages parts m c.in_ok-is_fresh.is_fresh) (c.decoded_is_signed.ensures.only_message key parts m signed) h frame
    (c.in_ok-is_fresh.ensures.history _ h.known.stands) c.if-is_fresh.true

pub returns-else-is_fresh-clause-heard : goal.returns-else-is_fresh-clause-heard
returns-else-is_fresh-clause-heard c key signs =
    let parts = c.args.parts.now in
    let was = c.args.seen.now in
    heard_stale key parts was c.fresh.new.self c.in-Some.signature c.in_ok-is_fresh.is_fresh
    (signature_of key parts was c.fresh.new.self (Some c.in-Some.signature) c.signature_is_long.ensures c.in-Some.ensures.only)
    c.if-is_fresh.false c.in_ok-is_fresh.ensures.answer c.in_ok-is_fresh.ensures.kept

pub returns-else-is_fresh-clause-next : goal.returns-else-is_fresh-clause-next
returns-else-is_fresh-clause-next c key signs before done messages h =
    let parts = c.args.parts.now in
    let was = c.args.seen.now in
    let now = c.fresh.new.self in
    let m = c.in-Good.message in
    let sig = c.in-Some.signature in
    let signed : Signed key parts m = subst (Decodes key parts) c.in-Good.is (c.in_ok-decoded.ensures.is key signs) in
    let own : sig ≡ signed.0.signature = same_some key parts was now sig signed.0.signature (signature_of key parts was now (Some sig) c.signature_is_long.ensures c.in-Some.ensures.only m signed) in
    let frame : signature_frame parts ≡ sig = c.signatures_are_frames.ensures.frame parts signed.0 ∙ sym own in
    body_heard key parts was now before done messages m sig c.in_ok-is_fresh.is_fresh false
    (c.bodies_are_heard.ensures.signed key before done was now messages parts m c.in_ok-is_fresh.is_fresh) (c.decoded_is_signed.ensures.only_message key parts m signed) h frame
    (c.in_ok-is_fresh.ensures.history _ h.known.stands) c.if-is_fresh.false

pub returns-in_default-clause-heard : goal.returns-in_default-clause-heard
returns-in_default-clause-heard c key signs = record {
  seen = λ m signed unseen. c.in_default.not-Good m (c.in_ok-decoded.ensures.only key signs (Good m) signed);
  same = refl;
}

pub returns-in_default-clause-next : goal.returns-in_default-clause-next
returns-in_default-clause-next c key signs before done messages h =
    let parts = c.args.parts.now in
    let none = undecoded key parts _ (c.decoded_is_signed.ensures.message key parts) (λ m signed. c.in_default.not-Good m (c.in_ok-decoded.ensures.only key signs (Good m) signed)) in
    c.bodies_are_heard.ensures.unsigned key before done c.args.seen.now messages parts none h
