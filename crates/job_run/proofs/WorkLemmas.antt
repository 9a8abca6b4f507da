-- What calls that don't wait do to the counts.
use Rattle.std.proofs.Common.{◌≡◌, ℕ, ◌≤◌, ap}
use Rattle.world.specs.Counts.{Counts, DiskCause, NetCause, ChildCause, RandCause}
use Rattle.world.proofs.CountsLemmas.{grow_same, disk_grows, net_grows, child_grows, rand_grows, moment_grows}
use Rattle.job_saves.specs.Course.{CountsWork}

abbrev waits_of : Counts → ℕ
waits_of c = c.waits

pub same_works : {old new : Counts} → new ≡ old → CountsWork old new
same_works same = record { grow = grow_same same; waits = ap waits_of same }

pub disk_works : {old new : Counts} {failed : Type 0} → DiskCause old new failed → CountsWork old new
disk_works cause = record { grow = disk_grows cause; waits = ap waits_of cause.others }

pub net_works : {old new : Counts} {failed : Type 0} → NetCause old new failed → CountsWork old new
net_works cause = record { grow = net_grows cause; waits = ap waits_of cause.others }

pub child_works : {old new : Counts} {failed : Type 0} → ChildCause old new failed → CountsWork old new
child_works cause = record { grow = child_grows cause; waits = ap waits_of cause.others }

pub rand_works : {old new : Counts} {failed : Type 0} → RandCause old new failed → CountsWork old new
rand_works cause = record { grow = rand_grows cause; waits = ap waits_of cause.others }

pub moment_works : {old new : Counts} {ms : ℕ} → old.last ≤ ms → new ≡ record old { last = ms } → CountsWork old new
moment_works later counts = record { grow = moment_grows later counts; waits = ap waits_of counts }
