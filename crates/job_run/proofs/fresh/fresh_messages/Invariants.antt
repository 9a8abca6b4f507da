use Rattle.std.proofs.Common.{ℕ, List, take}
use Rattle.jsign.specs.Signer.{SignsUnder}
use Rattle.job_run.specs.Heard.{AreContents, HearsAll}
use Rattle.job_run.proofs.fresh.fresh_messages.Given as goal

abbrev pub invariant-loop-body : goal.invariant-loop-body
invariant-loop-body l = record {
  heard : (key : List ℕ) → SignsUnder l.signer key → HearsAll key (take l.body-index l.bodies) l.fn.seen l.seen l.messages;
  contents : (key : List ℕ) → SignsUnder l.signer key → AreContents l.messages;
}
