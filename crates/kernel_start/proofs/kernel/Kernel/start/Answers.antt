use Rattle.world.proofs.MomentsLemmas.{told_as}
use Rattle.kernel_start.specs.Launch.{from_root}
use Rattle.kernel_start.proofs.LaunchLaws.{launch_part, launch_spares}
use Rattle.kernel_start.proofs.kernel.Kernel.start.Goals as goal

pub returns-clause-others : goal.returns-clause-others
returns-clause-others g c path =
    told_as c.launch.ensures.entries (launch_spares path c.args.self.now c.args.number (from_root c.args.here.now c.args.connection_path.now) c.args.cwd.now c.launch.result)

pub returns-clause-part : goal.returns-clause-part
returns-clause-part g c =
    told_as c.launch.ensures.entries (launch_part c.args.self.now c.args.number (from_root c.args.here.now c.args.connection_path.now) c.args.cwd.now c.launch.result)
