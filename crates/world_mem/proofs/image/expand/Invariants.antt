use Rattle.std.proofs.Common.{◌≡◌, ◌++◌, drop}
use Rattle.std.specs.Prelude.{option_map}
use Rattle.world_mem.specs.Image.{all_choices}
use Rattle.world_mem.proofs.image.expand.Given as goal

-- what is left of the options comes behind
abbrev pub invariant-loop-option : goal.invariant-loop-option
invariant-loop-option l = all_choices (option_map (λ b. b.now) l.old) l.options ≡ l.choices.items ++ all_choices (option_map (λ b. b.now) l.old) (drop l.option-index l.options)
