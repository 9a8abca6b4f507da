use Rattle.std.proofs.Common.{◌≡◌, IfOk, sym, subst}
use Rattle.jtext.specs.Names.{is_number}
use Rattle.jtext.proofs.NumberTests.{number_passes, number_fails}
use Rattle.toy_lang.proofs.expression.is_number.Goals as goal
use Rattle.toy_lang.proofs.expression.is_number.Goals.{in-Ok, in-Err-NotNumber, in-Err-NoMemory}

pub returns : goal.returns
returns c = elim c.match-of.branch [
  | in-Ok w ↦ subst (λ r. IfOk r (λ b. b ≡ is_number c.args.text.now)) (sym w.result-is)
      (sym (number_passes c.args.text.now w.in-Ok.ensures.1))
  | in-Err-NotNumber w ↦
      subst (λ r. IfOk r (λ b. b ≡ is_number c.args.text.now)) (sym w.result-is)
      (sym (number_fails c.args.text.now (rw w.in-Err-NotNumber.field-0-is at w.in-Err-NotNumber.ensures)))
  | in-Err-NoMemory w ↦ subst (λ r. IfOk r (λ b. b ≡ is_number c.args.text.now)) (sym w.result-is) tt
]
