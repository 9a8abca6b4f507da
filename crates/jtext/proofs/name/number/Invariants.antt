use Rattle.std.proofs.Common.{◌≡◌, ◌^◌, ◌<◌, drop}
use Rattle.jtext.proofs.name.number.Given as goal
use Rattle.jtext.specs.Names.{number_from}

abbrev pub invariant-loop-c : goal.invariant-loop-c
invariant-loop-c l = record {
  bound : l.n < 10 ^ l.c-index;
  rest : number_from l.n (drop l.c-index l.text) ≡ number_from 0 l.fn.text;
}
