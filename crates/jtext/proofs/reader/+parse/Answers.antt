use Rattle.std.proofs.Common.{length-append, [], ◌∷◌, ◌≡◌, Ok, Err, take, suc, length, ◌∙◌, sym, ap, ◌-◌, arith}
use Rattle.std.specs.Prelude.{codes}
use Rattle.std.proofs.lemmas.Result.{err_from_is_err_and}
use Rattle.jtext.specs.declared.json.Json.{Num}
use Rattle.jtext.specs.declared.fault.Fault.TheVariants.{Bad}
use Rattle.jtext.specs.Strings.{string_at}
use Rattle.jtext.specs.Reading.{value_at, list_at, item_at, field_at, has_key, as_array, as_object, as_string, number_to}
use Rattle.jtext.proofs.Binds.{bind_fails}
use Rattle.jtext.proofs.Fronts.{front_text}
use Rattle.jtext.proofs.Numbers.{at_byte}
use Rattle.jtext.proofs.Turns.{so_far_more, list_ends, list_bad, list_fails, field_key_fails, field_value_fails, field_read, has_key-push, value_null, value_true, value_false, value_string, value_array, value_object, list_deep, pairs_deep, value_none, value_other}
use Rattle.jtext.proofs.reader.+parse.Goals as goal

-- ---- pairs

pub fields-returns-in_err-key-clause-exact : goal.fields-returns-in_err-key-clause-exact
fields-returns-in_err-key-clause-exact t c =
    let l = c.loop-many in
    let p = err_from_is_err_and c.from_residual.result c.from_residual.ensures.1 in
    let V = value_at c.args.deep in
    let fails = list_fails (codes "}") (field_at V) l.found c.args.s.now l.rest.now c.in_err-key.field-0.0 l.invariant.far
    (field_key_fails V l.found l.rest.now c.in_err-key.field-0.0 c.in_err-key.ensures.exact) in
    rw (p.1, p.2) fails

pub fields-returns-in_err-value-clause-exact : goal.fields-returns-in_err-value-clause-exact
fields-returns-in_err-value-clause-exact t c =
    let l = c.loop-many in
    let p = err_from_is_err_and c.from_residual-in_err-value.result c.from_residual-in_err-value.ensures.1 in
    let V = value_at c.args.deep in
    let fails = list_fails (codes "}") (field_at V) l.found c.args.s.now l.rest.now c.in_err-value.field-0.0 l.invariant.far
    (field_value_fails V l.found l.rest.now c.in_ok-key.key c.in_ok-key.after.now c.in_err-value.field-0.0 c.in_ok-key.ensures.exact c.in_err-value.ensures.exact) in
    rw (p.1, p.2) fails

pub fields-returns-in-Some-strip_word-clause-exact : goal.fields-returns-in-Some-strip_word-clause-exact
fields-returns-in-Some-strip_word-clause-exact t c =
    let l = c.loop-many in
    let k = c.in_ok-key in
    let v = c.in_ok-value in
    let V = value_at c.args.deep in
    let read = field_read V l.found l.rest.now k.key k.after.now v.after.now v.value k.ensures.exact v.ensures.exact in
    list_ends (codes "}") (field_at V) l.found c.trim.new.self (k.key, v.value) c.args.s.now l.rest.now v.after.now c.skip_spaces-next.result.now l.invariant.far read
    c.skip_spaces-next.ensures.exact (c.trim.ensures ∙ c.in_ok-push.ensures.ok) c.in-Some-strip_word.after.now (sym c.in-Some-strip_word.ensures.exact)

pub fields-returns-in_default-strip_word-2-clause-exact : goal.fields-returns-in_default-strip_word-2-clause-exact
fields-returns-in_default-strip_word-2-clause-exact t c =
    let l = c.loop-many in
    let k = c.in_ok-key in
    let v = c.in_ok-value in
    let V = value_at c.args.deep in
    let read = field_read V l.found l.rest.now k.key k.after.now v.after.now v.value k.ensures.exact v.ensures.exact in
    list_bad (codes "}") (field_at V) l.found c.push.new.self (k.key, v.value) c.args.s.now l.rest.now v.after.now c.skip_spaces-next.result.now l.invariant.far read
    c.skip_spaces-next.ensures.exact c.in_ok-push.ensures.ok (sym c.in_default-strip_word.ensures.exact) (sym c.in_default-strip_word-2.ensures.exact)

pub fields-loop-many-preserved : goal.fields-loop-many-preserved
fields-loop-many-preserved t c =
    let l = c.loop-many in
    let k = c.in_ok-key in
    let v = c.in_ok-value in
    let V = value_at c.args.deep in
    let next = c.skip_spaces-next in
    let rest = c.skip_spaces-rest-in-loop-many in
    let read = field_read V l.found l.rest.now k.key k.after.now v.after.now v.value k.ensures.exact v.ensures.exact in
    let comma : length next.result.now ≡ suc (length c.in-Some-strip_word-2.after.now) = ap length c.in-Some-strip_word-2.ensures.some in
    record {
      text = rest.utf8;
      within = omega (arith, k.ensures.shorter, v.ensures.shorter, l.invariant.within, next.ensures.within, rest.ensures.within, comma);
      kept = λ many q.
          k.ensures.kept (omega (arith, many, ap length c.in_ok-push.ensures.ok, length-append l.found ((k.key, v.value) ∷ []))) q ∙ sym (has_key-push l.found (k.key, v.value) q) ∙ ap (λ xs. has_key xs q) (sym c.in_ok-push.ensures.ok);
      far = so_far_more (codes "}") (field_at V) l.found c.push.new.self (k.key, v.value) c.args.s.now l.rest.now v.after.now next.result.now l.invariant.far read
          next.ensures.exact c.in_ok-push.ensures.ok c.in-Some-strip_word-2.after.now rest.result.now (sym c.in_default-strip_word.ensures.exact)
          (sym c.in-Some-strip_word-2.ensures.exact) rest.ensures.exact
          (omega (arith, k.ensures.shorter, v.ensures.shorter, next.ensures.within, rest.ensures.within, comma));
    }

-- ---- items

pub items-returns-in_err-item-clause-exact : goal.items-returns-in_err-item-clause-exact
items-returns-in_err-item-clause-exact t c =
    let l = c.loop-found in
    let p = err_from_is_err_and c.from_residual.result c.from_residual.ensures.1 in
    let fails = list_fails (codes "]") (item_at (value_at c.args.deep)) l.found c.args.s.now l.rest.now c.in_err-item.field-0.0 l.invariant.far c.in_err-item.ensures.exact in
    rw (p.1, p.2) fails

pub items-returns-in-Some-strip_word-clause-exact : goal.items-returns-in-Some-strip_word-clause-exact
items-returns-in-Some-strip_word-clause-exact t c =
    let l = c.loop-found in
    let v = c.in_ok-item in
    list_ends (codes "]") (item_at (value_at c.args.deep)) l.found c.trim.new.self v.item c.args.s.now l.rest.now v.after.now c.skip_spaces-next.result.now l.invariant.far v.ensures.exact
    c.skip_spaces-next.ensures.exact (c.trim.ensures ∙ c.in_ok-push.ensures.ok) c.in-Some-strip_word.after.now (sym c.in-Some-strip_word.ensures.exact)

pub items-returns-in_default-strip_word-2-clause-exact : goal.items-returns-in_default-strip_word-2-clause-exact
items-returns-in_default-strip_word-2-clause-exact t c =
    let l = c.loop-found in
    let v = c.in_ok-item in
    list_bad (codes "]") (item_at (value_at c.args.deep)) l.found c.push.new.self v.item c.args.s.now l.rest.now v.after.now c.skip_spaces-next.result.now l.invariant.far v.ensures.exact
    c.skip_spaces-next.ensures.exact c.in_ok-push.ensures.ok (sym c.in_default-strip_word.ensures.exact) (sym c.in_default-strip_word-2.ensures.exact)

pub items-loop-found-preserved : goal.items-loop-found-preserved
items-loop-found-preserved t c =
    let l = c.loop-found in
    let v = c.in_ok-item in
    let next = c.skip_spaces-next in
    let rest = c.skip_spaces-rest-in-loop-found in
    let comma : length next.result.now ≡ suc (length c.in-Some-strip_word-2.after.now) = ap length c.in-Some-strip_word-2.ensures.some in
    record {
      text = rest.utf8;
      within = omega (arith, v.ensures.shorter, l.invariant.within, next.ensures.within, rest.ensures.within, comma);
      far = so_far_more (codes "]") (item_at (value_at c.args.deep)) l.found c.push.new.self v.item c.args.s.now l.rest.now v.after.now next.result.now l.invariant.far v.ensures.exact
          next.ensures.exact c.in_ok-push.ensures.ok c.in-Some-strip_word-2.after.now rest.result.now (sym c.in_default-strip_word.ensures.exact)
          (sym c.in-Some-strip_word-2.ensures.exact) rest.ensures.exact
          (omega (arith, v.ensures.shorter, next.ensures.within, rest.ensures.within, comma));
    }

-- ---- values

pub value-returns-in_default-clause-exact : goal.value-returns-in_default-clause-exact
value-returns-in_default-clause-exact t c = value_none c.args.deep c.args.s.now (sym c.in_default.ensures.exact)

pub value-returns-in-110-clause-exact : goal.value-returns-in-110-clause-exact
value-returns-in-110-clause-exact t c =
    let e = at_byte c.args.s.now c.in-Some.after.now c.in-Some.byte 110 c.in-Some.ensures.some c.in-110.is in
    rw (value_null c.args.deep c.args.s.now c.in-Some.after.now e) c.word.ensures.exact

pub value-returns-in-116-clause-exact : goal.value-returns-in-116-clause-exact
value-returns-in-116-clause-exact t c =
    let e = at_byte c.args.s.now c.in-Some.after.now c.in-Some.byte 116 c.in-Some.ensures.some c.in-116.is in
    rw (value_true c.args.deep c.args.s.now c.in-Some.after.now e) c.word-in-116.ensures.exact

pub value-returns-in-102-clause-exact : goal.value-returns-in-102-clause-exact
value-returns-in-102-clause-exact t c =
    let e = at_byte c.args.s.now c.in-Some.after.now c.in-Some.byte 102 c.in-Some.ensures.some c.in-102.is in
    rw (value_false c.args.deep c.args.s.now c.in-Some.after.now e) c.word-in-102.ensures.exact

pub value-returns-in_err-text-in-34-clause-exact : goal.value-returns-in_err-text-in-34-clause-exact
value-returns-in_err-text-in-34-clause-exact t c =
    let e = at_byte c.args.s.now c.in-Some.after.now c.in-Some.byte 34 c.in-Some.ensures.some c.in-34.is in
    let p = err_from_is_err_and c.from_residual.result c.from_residual.ensures.1 in
    rw (p.1, p.2, value_string c.args.deep c.args.s.now c.in-Some.after.now e) (bind_fails c.in_err-text-in-34.field-0.0 (string_at c.args.s.now) _ c.in_err-text-in-34.ensures.exact)

pub value-returns-in_ok-text-in-34-clause-exact : goal.value-returns-in_ok-text-in-34-clause-exact
value-returns-in_ok-text-in-34-clause-exact t c =
    let e = at_byte c.args.s.now c.in-Some.after.now c.in-Some.byte 34 c.in-Some.ensures.some c.in-34.is in
    value_string c.args.deep c.args.s.now c.in-Some.after.now e ∙ ap as_string c.in_ok-text-in-34.ensures.exact

pub value-returns-then-deep-eq0-clause-exact : goal.value-returns-then-deep-eq0-clause-exact
value-returns-then-deep-eq0-clause-exact t c =
    let e = at_byte c.args.s.now c.in-Some.after.now c.in-Some.byte 91 c.in-Some.ensures.some c.in-91.is in
    list_deep c.args.deep c.args.s.now c.in-Some.after.now e c.if-deep-eq0.true

pub value-returns-in_err-items-in-91-clause-exact : goal.value-returns-in_err-items-in-91-clause-exact
value-returns-in_err-items-in-91-clause-exact t c =
    let e = at_byte c.args.s.now c.in-Some.after.now c.in-Some.byte 91 c.in-Some.ensures.some c.in-91.is in
    let v = value_array c.args.deep c.args.s.now c.in-Some.after.now (c.args.deep - 1) e (omega (arith, c.if-deep-eq0.false)) in
    let p = err_from_is_err_and c.from_residual-in_err-items-in-91.result c.from_residual-in_err-items-in-91.ensures.1 in
    rw (p.1, p.2, v) (bind_fails c.in_err-items-in-91.field-0.0 (list_at (codes "]") (item_at (value_at (c.args.deep - 1))) c.in-Some.after.now) _ c.in_err-items-in-91.ensures.exact)

pub value-returns-in_ok-items-in-91-clause-exact : goal.value-returns-in_ok-items-in-91-clause-exact
value-returns-in_ok-items-in-91-clause-exact t c =
    let e = at_byte c.args.s.now c.in-Some.after.now c.in-Some.byte 91 c.in-Some.ensures.some c.in-91.is in
    let v = value_array c.args.deep c.args.s.now c.in-Some.after.now (c.args.deep - 1) e (omega (arith, c.if-deep-eq0.false)) in
    v ∙ ap as_array c.in_ok-items-in-91.ensures.exact

pub value-returns-then-deep-eq0-2-clause-exact : goal.value-returns-then-deep-eq0-2-clause-exact
value-returns-then-deep-eq0-2-clause-exact t c =
    let e = at_byte c.args.s.now c.in-Some.after.now c.in-Some.byte 123 c.in-Some.ensures.some c.in-123.is in
    pairs_deep c.args.deep c.args.s.now c.in-Some.after.now e c.if-deep-eq0-2.true

pub value-returns-in_err-fields-in-123-clause-exact : goal.value-returns-in_err-fields-in-123-clause-exact
value-returns-in_err-fields-in-123-clause-exact t c =
    let e = at_byte c.args.s.now c.in-Some.after.now c.in-Some.byte 123 c.in-Some.ensures.some c.in-123.is in
    let v = value_object c.args.deep c.args.s.now c.in-Some.after.now (c.args.deep - 1) e (omega (arith, c.if-deep-eq0-2.false)) in
    let p = err_from_is_err_and c.from_residual-in_err-fields-in-123.result c.from_residual-in_err-fields-in-123.ensures.1 in
    rw (p.1, p.2, v) (bind_fails c.in_err-fields-in-123.field-0.0 (list_at (codes "}") (field_at (value_at (c.args.deep - 1))) c.in-Some.after.now) _ c.in_err-fields-in-123.ensures.exact)

pub value-returns-in_ok-fields-in-123-clause-exact : goal.value-returns-in_ok-fields-in-123-clause-exact
value-returns-in_ok-fields-in-123-clause-exact t c =
    let e = at_byte c.args.s.now c.in-Some.after.now c.in-Some.byte 123 c.in-Some.ensures.some c.in-123.is in
    let v = value_object c.args.deep c.args.s.now c.in-Some.after.now (c.args.deep - 1) e (omega (arith, c.if-deep-eq0-2.false)) in
    v ∙ ap as_object c.in_ok-fields-in-123.ensures.exact

pub value-returns-in_default-split_number-clause-exact : goal.value-returns-in_default-split_number-clause-exact
value-returns-in_default-split_number-clause-exact t c =
    let n = value_other c.args.deep c.args.s.now c.in-Some.after.now c.in-Some.byte c.in-Some.ensures.some (omega arith) (omega arith) (omega arith) (omega arith) (omega arith) (omega arith) in
    n ∙ ap (number_to c.args.s.now) (sym c.in_default-split_number.ensures.exact) ∙ ap (λ k. Err (Bad k)) (sym c.number_stop.ensures)

pub value-returns-in_ok-of_number-in_default-byte-clause-exact : goal.value-returns-in_ok-of_number-in_default-byte-clause-exact
value-returns-in_ok-of_number-in_default-byte-clause-exact t c =
    let n = value_other c.args.deep c.args.s.now c.in-Some.after.now c.in-Some.byte c.in-Some.ensures.some (omega arith) (omega arith) (omega arith) (omega arith) (omega arith) (omega arith) in
    let m = c.in-Some-split_number in
    let text : take (length c.args.s.now - length m.rest.now) c.args.s.now ≡ c.in_ok-of_number-in_default-byte.field-0 = front_text c.args.s.now m.text.now m.rest.now m.ensures.parts ∙ sym c.in_ok-of_number-in_default-byte.ensures in
    n ∙ ap (number_to c.args.s.now) (sym m.ensures.exact) ∙ ap (λ x. Ok (Num x, m.rest.now)) text
