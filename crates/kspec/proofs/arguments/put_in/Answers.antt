use Rattle.std.proofs.Common.{sym, ap, ◌∙◌, ◌++◌, codes}
use Rattle.kspec.proofs.Filled.{file_named, folder_named, brace_kept}
use Rattle.kspec.proofs.arguments.put_in.Goals as goal

pub returns-in-Some-clause-puts : goal.returns-in-Some-clause-puts
returns-in-Some-clause-puts c =
    let found = c.in-Some.ensures.cases in
    file_named c.args.file.now c.args.folder.now c.args.after.now c.in-Some.rest.now (found.1.1 ∙ ap (λ r. codes "connection_file}" ++ r) (sym found.2))

pub returns-in-Some-strip_prefix-clause-puts : goal.returns-in-Some-strip_prefix-clause-puts
returns-in-Some-strip_prefix-clause-puts c =
    let found = c.in-Some-strip_prefix.ensures.cases in
    folder_named c.args.file.now c.args.folder.now c.args.after.now c.in-Some-strip_prefix.rest.now (found.1.1 ∙ ap (λ r. codes "resource_dir}" ++ r) (sym found.2))

pub returns-in_default-strip_prefix-clause-puts : goal.returns-in_default-strip_prefix-clause-puts
returns-in_default-strip_prefix-clause-puts c =
    brace_kept c.args.file.now c.args.folder.now c.args.after.now c.in_default.ensures.cases c.in_default-strip_prefix.ensures.cases
