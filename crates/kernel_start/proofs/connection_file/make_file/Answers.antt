use Rattle.world.proofs.MomentsLemmas.{told_as, told_then}
use Rattle.kernel_start.proofs.FileLaws.{create_fails, write_fails, text_written, sync_ends}
use Rattle.kernel_start.proofs.connection_file.make_file.Goals as goal

pub returns-in_default-clause-entries : goal.returns-in_default-clause-entries
returns-in_default-clause-entries g c =
    told_as c.in_default.ensures.tells (create_fails c.args.path.now c.args.text.now)

pub returns-in_default-write_all-clause-entries : goal.returns-in_default-write_all-clause-entries
returns-in_default-write_all-clause-entries g c =
    told_then c.in-Done.ensures.tells c.in_default-write_all.ensures.entries (write_fails c.args.path.now c.args.text.now)

pub returns-clause-entries : goal.returns-clause-entries
returns-clause-entries g c =
    told_then (told_then c.in-Done.ensures.tells c.in-Done-write_all.ensures.entries (text_written c.args.path.now c.args.text.now))
    c.sync.ensures.tells (sync_ends c.args.path.now c.args.text.now c.sync.result)
