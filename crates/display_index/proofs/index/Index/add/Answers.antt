use Rattle.std.proofs.lemmas.Result.{on_ok_weaker}
use Rattle.display_index.proofs.ListedLemmas.{listed-more, listed-tried}
use Rattle.display_index.proofs.StandingLemmas.{added-stands}
use Rattle.display_index.proofs.index.Index.add.Goals as goal

pub invariant_of-self : goal.invariant_of-self
invariant_of-self c = record {
  listed = listed-more c.args.self.now.by_cell c.list_id.new.by_cell c.args.self.now.by_id c.list_id.ensures.keeps c.args.self.now.listed;
}

pub invariant_of-self-2 : goal.invariant_of-self-2
invariant_of-self-2 c =
    let lists = rw c.get.ensures at c.in_ok-list_id.ensures.lists in
    record {
      listed = listed-tried c.add.result c.list_id.new.by_cell c.args.self.now.by_id c.add.new.self c.args.id.now c.args.place
          lists c.add.ensures.ok c.add.ensures.err
          (listed-more c.args.self.now.by_cell c.list_id.new.by_cell c.args.self.now.by_id c.list_id.ensures.keeps c.args.self.now.listed);
    }

pub returns-clause-ok : goal.returns-clause-ok
returns-clause-ok c =
    on_ok_weaker c.add.result (λ h. λ calls s. added-stands c.args.self.now.by_id c.add.new.self c.args.id.now c.args.place h calls s) c.add.ensures.ok
