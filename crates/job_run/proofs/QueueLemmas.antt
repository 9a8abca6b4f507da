-- What is queued on a connection.
use Rattle.std.proofs.Common.{◌≡◌, ℕ, ◌++◌, List, [], ap, sym, ◌∙◌}
use Rattle.std.proofs.lemmas.List.{append-nil, append_cancel_left}
use Rattle.kernel_lines.specs.declared.line.Line.{Line}
use Rattle.kernel_lines.specs.Due.{due_in}
use Rattle.kernel_lines.specs.Happened.{History}
use Rattle.kernel_lines.specs.Line.{StandsFor, queue_of, role_of}

-- where all that was queued was handed out, nothing is
pub nothing_queued : {was now : Line} {h : History} {out : List ℕ} → role_of now ≡ role_of was → StandsFor was h out
    → StandsFor now h (out ++ queue_of was) → queue_of now ≡ []
nothing_queued {was} {now} {h} {out} role s t =
    let all = out ++ queue_of was in
    append_cancel_left all (queue_of now) [] (sym t.due ∙ ap (λ r. due_in r h) role ∙ s.due ∙ sym (append-nil all))
