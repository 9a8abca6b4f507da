use Rattle.std.proofs.Common.{◌≡◌, ap, subst, arith, add-one, sym, length, get_or, true, false, ◌<◌}
use Rattle.std.specs.Str.{bytes_eq}
use Rattle.world_mem.specs.Folder.{Passed}
use Rattle.world_mem.proofs.FolderLemmas.{passed_more, passed_all, first_found}
use Rattle.world_mem.proofs.folder.Folder.place.Goals as goal

pub returns-then-eq : goal.returns-then-eq
returns-then-eq c =
    let files = c.args.self.now.files.items in
    let x = c.file-item.result in
    let is : x ≡ get_or files c.loop-i.i x = rw (← c.deref-file-items.ensures.value) c.file-item.is in
    let test : bytes_eq c.as_str.result.now c.as_str-in-loop-i.result.now ≡ true = sym c.if-eq.ensures in
    let hit : bytes_eq x.0 c.args.path.now ≡ true = rw (← c.as_str.ensures, ← c.as_str-in-loop-i.ensures) test in
    let below : c.loop-i.i < length files = omega (arith, ap length c.deref-file-items.ensures.value) in
    first_found c.args.path.now files c.loop-i.i x below is hit c.loop-i.invariant

pub loop-i-preserved : goal.loop-i-preserved
loop-i-preserved c =
    let files = c.args.self.now.files.items in
    let x = c.file-item.result in
    let is : x ≡ get_or files c.loop-i.i x = rw (← c.deref-file-items.ensures.value) c.file-item.is in
    let test : bytes_eq c.as_str.result.now c.as_str-in-loop-i.result.now ≡ false = sym c.if-eq.ensures in
    let miss : bytes_eq x.0 c.args.path.now ≡ false = rw (← c.as_str.ensures, ← c.as_str-in-loop-i.ensures) test in
    let below : c.loop-i.i < length files = omega (arith, ap length c.deref-file-items.ensures.value) in
    rw add-one (passed_more c.args.path.now files c.loop-i.i x below is miss c.loop-i.invariant)

pub returns : goal.returns
returns c =
    let files = c.args.self.now.files.items in
    let end : c.loop-i.i ≡ length files = omega (arith, ap length c.deref-file-items.ensures.value) in
    passed_all c.args.path.now files (subst (λ n. Passed c.args.path.now files n) end c.loop-i.invariant)
