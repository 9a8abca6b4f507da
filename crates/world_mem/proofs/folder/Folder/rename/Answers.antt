use Rattle.std.proofs.Common.{◌<◌, length, arith, ◌∙◌, ◌≡◌, sym, ap, slice_set, false}
use Rattle.std.specs.Str.{bytes_eq}
use Rattle.world_mem.proofs.FolderLemmas.{first_below, moved}
use Rattle.world_mem.proofs.folder.Folder.rename.Goals as goal

pub index_mut-requires : goal.index_mut-requires
index_mut-requires c =
    let below : c.in-Some.i < length c.remove.new.self.files.items = first_below _ _ _ c.in-Some.ensures in
    omega (arith, c.remove.new.self.files.ok.0)

pub returns-clause-edits : goal.returns-clause-edits
returns-clause-edits c =
    let cleared = c.remove.new.self.files.items in
    let test : bytes_eq c.as_str.result.now c.as_str-2.result.now ≡ false = sym c.if-eq.ensures in
    let differ : bytes_eq c.args.from.now c.args.to.now ≡ false = rw (← c.as_str.ensures, ← c.as_str-2.ensures) test in
    let named : c.in-Ok.name ≡ c.args.to.now = c.in-Ok.ensures ∙ c.as_str-3.ensures in
    let entry : slice_set cleared c.in-Some.i (c.in-Ok.name, c.index_mut.result.now.1) ≡ slice_set cleared c.in-Some.i (c.args.to.now, c.index_mut.result.now.1) = ap (λ name. slice_set cleared c.in-Some.i (name, c.index_mut.result.now.1)) named in
    (sym c.if-not-has.ensures, moved c.args.from.now c.args.to.now c.args.self.now.files.items cleared (slice_set cleared c.in-Some.i (c.in-Ok.name, c.index_mut.result.now.1)) c.remove-2.new.self.files.items c.in-Some.i c.index_mut.result.now differ c.remove.ensures c.in-Some.ensures c.index_mut.ensures.value entry c.remove-2.ensures)
