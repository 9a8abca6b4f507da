use Rattle.std.proofs.Common.{◌≡◌, ◌<◌, ◌⊎◌, ◌++◌, ◌∷◌, [], take, slice_get, Some, OnOk, inl, inr, sym, ◌∙◌, ap, subst, arith, length, refl}
use Rattle.jtext.specs.Print.{quote}
use Rattle.jtext.specs.Indent.{on_line, indent, indent_fields}
use Rattle.jtext.specs.Sorting.{by_key}
use Rattle.jtext.proofs.Indented.{array_done, object_done, field_done}
use Rattle.jtext.proofs.indent.+indent.Goals as goal
use Rattle.jtext.proofs.indent.+indent.Goals.{indent_fields-then-i-gt0+in_ok-add, indent_fields-else-i-gt0}
use Rattle.std.proofs.lemmas.Option.{slice_get_read}

pub indent_fields-loop-i-preserved : goal.indent_fields-loop-i-preserved
indent_fields-loop-i-preserved t c =
    let l = c.loop-i in
    let m = c.args.margin.now in
    let p = c.index-pairs-place_of.result in
    let pairs = c.as_slice-pairs.result.now in
    let at : slice_get (by_key c.args.fields.now) l.i ≡ Some p = ap (λ f. slice_get (by_key f) l.i) (sym c.as_slice-pairs.ensures) ∙ c.place_of.ensures.pair ∙ slice_get_read pairs (length pairs) c.place_of.result p refl c.place_of.ensures.within c.index-pairs-place_of.is in
    let line = c.in_ok-new_line.ensures ∙ ap (λ x. c.if-i-gt0.out ++ on_line x []) l.invariant.margin in
    let value = c.in_ok-indent_value.ensures.text ∙ ap (λ x. c.add-in-loop-i.new.self ++ indent p.1 x) l.invariant.margin in
    let before = elim c.if-i-gt0.branch as (λ _. ((0 < l.i) × (c.if-i-gt0.out ≡ (c.args.out.now ++ indent_fields m (take l.i (by_key c.args.fields.now))) ++ 44 ∷ [])) ⊎ ((l.i ≡ 0) × (c.if-i-gt0.out ≡ c.args.out.now ++ indent_fields m (take l.i (by_key c.args.fields.now))))) [
      | indent_fields-then-i-gt0+in_ok-add w ↦ inl (w.if-i-gt0.true, w.out-is ∙ w.in_ok-add.ensures.ok ∙ ap (λ x. x ++ 44 ∷ []) l.invariant.text)
      | indent_fields-else-i-gt0 w ↦ inr (omega (arith, w.if-i-gt0.false), w.out-is ∙ l.invariant.text)
    ] in
    record {
      text = field_done m c.args.out.now c.if-i-gt0.out c.new_line.new.out c.put_string.new.out c.add-in-loop-i.new.self c.indent_value.new.out (by_key c.args.fields.now) l.i p at before
          line (c.in_ok-put_string.ensures ∙ ap (λ x. c.new_line.new.out ++ quote x) c.as_str.ensures) c.in_ok-add-2.ensures.ok value;
      margin = c.in_ok-indent_value.ensures.margin ∙ l.invariant.margin;
    }

pub indent_value-returns-in_ok-new_line-in-Arr-clause-text : goal.indent_value-returns-in_ok-new_line-in-Arr-clause-text
indent_value-returns-in_ok-new_line-in-Arr-clause-text t c =
    let m = c.args.margin.now in
    let inside = c.in_ok-indent_items-in-Arr.ensures.margin ∙ c.in_ok-step_in-in-Arr.ensures in
    let done = array_done c.args.t.now c.in-Arr.items m c.step_in.new.margin c.step_out.new.margin c.args.out.now c.add-in-Arr.new.self c.indent_items.new.out c.new_line.new.out c.in-Arr.is (omega (arith, c.len.ensures, c.if-len-eq0.false))
    c.in_ok-add-in-Arr.ensures.ok c.in_ok-step_in-in-Arr.ensures c.in_ok-indent_items-in-Arr.ensures.text (c.step_out.ensures m inside) c.in_ok-new_line-in-Arr.ensures in
    subst (λ z. OnOk c.add-in-Arr-2.result (c.add-in-Arr-2.new.self ≡ z)) done c.add-in-Arr-2.ensures.ok

pub indent_value-returns-in_ok-new_line-in-Obj-clause-text : goal.indent_value-returns-in_ok-new_line-in-Obj-clause-text
indent_value-returns-in_ok-new_line-in-Obj-clause-text t c =
    let m = c.args.margin.now in
    let inside = c.in_ok-indent_fields-in-Obj.ensures.margin ∙ c.in_ok-step_in-in-Obj.ensures in
    let done = object_done c.args.t.now c.in-Obj.fields m c.step_in-in-Obj.new.margin c.step_out-in-Obj.new.margin c.args.out.now c.add-in-Obj.new.self c.indent_fields.new.out c.new_line-in-Obj.new.out c.in-Obj.is (omega (arith, c.len-in-Obj.ensures, c.if-len-eq0-2.false))
    c.in_ok-add-in-Obj.ensures.ok c.in_ok-step_in-in-Obj.ensures c.in_ok-indent_fields-in-Obj.ensures.text (c.step_out-in-Obj.ensures m inside) c.in_ok-new_line-in-Obj.ensures in
    subst (λ z. OnOk c.add-in-Obj-2.result (c.add-in-Obj-2.new.self ≡ z)) done c.add-in-Obj-2.ensures.ok
