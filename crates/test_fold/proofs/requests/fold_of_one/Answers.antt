-- A fold of one request: new, begun, told one message.
use Rattle.std.proofs.Common.{[]}
use Rattle.test_fold.specs.Requests.{request_of}
use Rattle.test_fold.proofs.requests.fold_of_one.Goals as goal

-- src/requests.rt:14:1
pub returns-clause-stands : goal.returns-clause-stands
returns-clause-stands c =
    c.in_ok-take.ensures.stands [] (request_of 0 []) (c.start.ensures.stands [] c.in_ok-fold.ensures.stands)
