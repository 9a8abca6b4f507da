use Rattle.world.proofs.MomentsLemmas.{told_as}
use Rattle.kernel_start.specs.ConnectionFile.{file_text}
use Rattle.kernel_start.proofs.FileLaws.{file_place, file_spares, file_part}
use Rattle.kernel_start.proofs.connection_file.write_connection.Goals as goal

pub returns-clause-place : goal.returns-clause-place
returns-clause-place g c ok =
    told_as c.write_file.ensures.entries (file_place c.args.path.now (file_text c.args.ports c.args.key.now) c.write_file.result ok)

pub returns-clause-others : goal.returns-clause-others
returns-clause-others g c q other =
    told_as c.write_file.ensures.entries (file_spares c.args.path.now (file_text c.args.ports c.args.key.now) q other c.write_file.result)

pub returns-clause-part : goal.returns-clause-part
returns-clause-part g c =
    told_as c.write_file.ensures.entries (file_part c.args.path.now (file_text c.args.ports c.args.key.now) c.write_file.result)
