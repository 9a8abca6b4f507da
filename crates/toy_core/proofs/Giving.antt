-- What is handed out, by the answer.
use Rattle.std.proofs.Common.{◌≡◌, ℕ, List, refl, sym, ap}
use Rattle.std.proofs.lemmas.List.{length-take-le}
use Rattle.world.specs.declared.chan.Chan.{Chan}
use Rattle.world.specs.declared.give.Give.{Give}
use Rattle.world.specs.declared.give.Give.TheVariants as give
use Rattle.world.specs.Calls.{given_of}
use Rattle.world.specs.Kernel.{Given, Hands, Waits, Over, Gives}
use Rattle.toy_core.specs.Standing.{Standing, handed_on, handed_to}
use Rattle.toy_core.specs.Toy.{gave}

pub gave_is : (c : Chan) (g : Given) (r : Give) (buf : List ℕ) (s : Standing) → Gives g r buf → gave c r s ≡ handed_to c (given_of r buf) s
gave_is c (Hands bytes) (give.Bytes n) buf s h = ap (λ k. handed_on c k s) (sym (length-take-le n buf h.1))
gave_is c Waits (give.Bytes n) buf s h = absurd h
gave_is c Over (give.Bytes n) buf s h = absurd h
gave_is c g give.Nothing buf s h = refl
gave_is c g give.Ended buf s h = refl
