-- Jupyter's reading and writing on the octets of a publisher's greeting and READY.
use Rattle.std.proofs.Common.{◌≡◌, ℕ, List, [], ◌∷◌, ◌++◌, true, codes, refl, length}
use Rattle.world.specs.declared.chan.Chan.TheVariants.{Iopub}
use Rattle.zmtp_wire.specs.declared.role.Role.TheVariants.{Pub}
use Rattle.zmtp_wire.specs.Meaning.{is_shaken}
use Rattle.zmtp_wire.specs.Machine.{properties_in, greeting_step, flag_step, size_step, body_step, finish, run}
use Rattle.zmtp_wire.specs.Writing.{greeting_octets, ready_octets, unit_octets}
use Rattle.run_journal.specs.Jupyter.{Speaker, jupyter_codec}

abbrev speaker : Speaker
speaker = record { session = codes "s"; key = codes "k"; code = λ k. []; stop_on_error = λ k. true }

-- what a publisher sends first
abbrev opening : List ℕ
opening = greeting_octets ++ ready_octets Pub

opening_is : length ((jupyter_codec speaker).opening Iopub) ≡ 91
opening_is = refl

-- the subscription as a command, to a peer that speaks 3.1
subscribes : (jupyter_codec speaker).subscription opening ≡ 4 ∷ 10 ∷ 9 ∷ codes "SUBSCRIBE"
unfolding is_shaken properties_in greeting_step flag_step size_step body_step finish run unit_octets
subscribes = refl
