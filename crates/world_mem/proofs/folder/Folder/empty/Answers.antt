use Rattle.std.proofs.Common.{◌<◌, length, arith, ◌∙◌, ◌≡◌, ◌++◌, ◌∷◌, [], true}
use Rattle.std.specs.Result.{is_ok}
use Rattle.std.proofs.lemmas.Bool.{cond-true}
use Rattle.world_mem.proofs.FolderLemmas.{first_below, sets_first, sets_new}
use Rattle.world_mem.proofs.folder.Folder.empty.Goals as goal

pub index_mut-requires : goal.index_mut-requires
index_mut-requires c =
    let below : c.in-Some.i < length c.args.self.now.files.items = first_below _ _ _ c.in-Some.ensures in
    omega (arith, c.args.self.now.files.ok.0)

pub returns-in-Some-clause-ok : goal.returns-in-Some-clause-ok
returns-in-Some-clause-ok c = rw c.new.ensures (sets_first _ _ _ _ _ c.in-Some.ensures c.index_mut.ensures.value)

pub returns-clause-ok : goal.returns-clause-ok
returns-clause-ok c =
    let items = c.args.self.now.files.items in
    let ok : is_ok c.push.result ≡ true = c.if-is_err.ensures.negation in
    let pushed : c.push.new.self.items ≡ items ++ (c.in-Ok.path, c.new-2.result) ∷ [] = c.push.ensures.items ∙ cond-true _ _ _ ok in
    let named : c.in-Ok.path ≡ c.args.path.now = c.in-Ok.ensures ∙ c.as_str.ensures in
    rw (pushed, named, c.new-2.ensures) (sets_new _ _ _ c.in_default.ensures)
