use Rattle.std.proofs.Common.{◌≡◌, ◌++◌, length, Ok, sym, ap, ◌∙◌, subst, string_bytes, rules, arith}
use Rattle.std.specs.Char.{encode_utf8}
use Rattle.std.proofs.lemmas.Result.{err_from_is_err_and}
use Rattle.jtext.specs.Strings.{body_at}
use Rattle.jtext.proofs.Numbers.{at_byte}
use Rattle.jtext.proofs.Bodies.{HasRead, body_ends, body_stops, body_cut, body_fails, body_more}
use Rattle.jtext.proofs.quoted.pieces.Goals as goal

pub each-init : goal.each-init
each-init c = record { text = c.utf8.s; within = omega arith; far = λ n h. (n, h, ap (λ x. body_at n x c.args.s.now) (sym c.new-out.ensures.bytes)) }

pub returns-in_default-clause-exact : goal.returns-in_default-clause-exact
returns-in_default-clause-exact c n h =
    let l = c.each in
    body_cut n c.args.s.now (string_bytes l.out) l.rest.now c.split_plain.result.0.now c.split_plain.result.1.now (l.invariant.far n h) c.split_plain.ensures.parts (sym c.in_default.ensures.exact)

pub returns-in-34-clause-exact : goal.returns-in-34-clause-exact
returns-in-34-clause-exact c n h =
    let l = c.each in
    let after = c.split_plain.result.1.now in
    let next = c.in-Some.next.now in
    body_ends n c.args.s.now (string_bytes l.out) l.rest.now c.split_plain.result.0.now after (l.invariant.far n h) c.split_plain.ensures.parts next
    (at_byte after next c.in-Some.byte 34 c.in-Some.ensures.some c.in-34.is) ∙ ap (λ x. Ok (x, next)) (sym (c.shrink_to_fit.ensures.bytes ∙ c.in_ok-push_str.ensures.bytes))

pub returns-in_err-c-in-92-clause-exact : goal.returns-in_err-c-in-92-clause-exact
returns-in_err-c-in-92-clause-exact c n h =
    let l = c.each in
    let after = c.split_plain.result.1.now in
    let next = c.in-Some.next.now in
    let p = err_from_is_err_and c.from_residual-in_err-c-in-92.result c.from_residual-in_err-c-in-92.ensures.1 in
    let fails = body_fails n c.args.s.now (string_bytes l.out) l.rest.now c.split_plain.result.0.now after (l.invariant.far n h) c.split_plain.ensures.parts next c.in_err-c-in-92.field-0.0
    (at_byte after next c.in-Some.byte 92 c.in-Some.ensures.some c.in-92.is) c.in_err-c-in-92.ensures.exact in
    rw (p.1, p.2) fails

pub each-preserved : goal.each-preserved
each-preserved c =
    let l = c.each in
    let after = c.split_plain.result.1.now in
    let next = c.in-Some.next.now in
    let e = at_byte after next c.in-Some.byte 92 c.in-Some.ensures.some c.in-92.is in
    let len = ap length e in
    let m = c.in_ok-c-in-92 in
    record {
      text = search rules;
      within = omega (arith, l.invariant.within, c.split_plain.ensures.lens, len, m.ensures.within);
      far = λ n h.
          let more = body_more n c.args.s.now (string_bytes l.out) l.rest.now c.split_plain.result.0.now after (l.invariant.far n h) c.split_plain.ensures.parts next m.c m.more.now e m.ensures.exact
          (omega (arith, len, m.ensures.within)) in
          let bytes : string_bytes c.push.new.self ≡ (string_bytes l.out ++ c.split_plain.result.0.now) ++ encode_utf8 m.c = c.in_ok-push-in-92.ensures.bytes ∙ ap (λ x. x ++ encode_utf8 m.c) c.in_ok-push_str.ensures.bytes in
          subst (λ x. HasRead n c.args.s.now x m.more.now) (sym bytes) more;
    }

pub returns-in_default-byte-clause-exact : goal.returns-in_default-byte-clause-exact
returns-in_default-byte-clause-exact c n h =
    let l = c.each in
    body_stops n c.args.s.now (string_bytes l.out) l.rest.now c.split_plain.result.0.now c.split_plain.result.1.now (l.invariant.far n h) c.split_plain.ensures.parts c.in-Some.next.now c.in-Some.byte c.in-Some.ensures.some (omega arith) (omega arith)
