use Rattle.std.proofs.Common.{◌<◌, ◌≡◌, length, subst, sym, arith}
use Rattle.world_mem.proofs.ImageLemmas.{expanded_some, pick_is}
use Rattle.world_mem.proofs.image.pick.Goals as goal

pub nonzero_rem-number : goal.nonzero_rem-number
nonzero_rem-number c =
    let some = subst (λ xs. 0 < length xs) (sym c.in_ok-choices.ensures) (expanded_some _ _ c.options.ensures.some) in omega (arith, some)

pub swap_remove-bytes-requires : goal.swap_remove-bytes-requires
swap_remove-bytes-requires c =
    let some = subst (λ xs. 0 < length xs) (sym c.in_ok-choices.ensures) (expanded_some _ _ c.options.ensures.some) in omega (arith, some)

pub returns-clause-bytes : goal.returns-clause-bytes
returns-clause-bytes c =
    let some = subst (λ xs. 0 < length xs) (sym c.in_ok-choices.ensures) (expanded_some _ _ c.options.ensures.some) in
    let count : 0 < c.len-count.result = omega (arith, some) in
    let size : c.len-count.result ≡ length c.in_ok-choices.choices.items = omega arith in
    pick_is _ _ _ _ c.args.number c.len-count.result _ c.in_ok-choices.ensures c.options.ensures.is size count c.swap_remove-bytes.ensures.value
