use Rattle.toy_core.proofs.Keeping.{sends_all_none}
use Rattle.toy_core.proofs.lanes.Lanes.perform_one.Goals as goal

pub returns-in-Send : goal.returns-in-Send
returns-in-Send c = record {
  lines = rw c.in-Send.is (rw c.bytes.ensures at c.send.ensures.lines);
  sends = rw c.in-Send.is (rw c.bytes.ensures at c.send.ensures.sends);
  err = c.send.ensures.err;
}

pub returns-in-Pause : goal.returns-in-Pause
returns-in-Pause c = rw c.in-Pause.is (record { lines = λ ls a. a; sends = sends_all_none _; err = tt })

pub returns-in-End : goal.returns-in-End
returns-in-End c = rw c.in-End.is (record { lines = λ ls a. a; sends = sends_all_none _; err = tt })

pub returns-in-Close : goal.returns-in-Close
returns-in-Close c = rw c.in-Close.is (record { lines = λ ls a. a; sends = sends_all_none _; err = tt })
