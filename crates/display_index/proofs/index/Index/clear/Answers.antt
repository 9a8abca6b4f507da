use Rattle.std.proofs.Common.{◌∙◌, ap, cond}
use Rattle.std.specs.List.{list_any}
use Rattle.std.specs.Str.{bytes_eq}
use Rattle.display_index.specs.Listed.{places_at, outside}
use Rattle.display_index.proofs.ListedLemmas.{cleared-outside, cleared-listed}
use Rattle.display_index.proofs.StandingLemmas.{cleared-stands}
use Rattle.display_index.proofs.index.Index.clear.Goals as goal

pub invariant_of-self : goal.invariant_of-self
invariant_of-self c = record {
  listed = cleared-listed c.args.self.now.by_cell c.take-ids.new.self c.args.self.now.by_id c.clear_all.new.by_id c.args.cell
      (record {
        taken = c.take-ids.ensures.rest;
        left = λ id. c.clear_all.ensures id
            ∙ ap (λ xs. cond (list_any (λ x. bytes_eq x id) xs) (outside c.args.cell (places_at c.args.self.now.by_id id)) (places_at c.args.self.now.by_id id)) c.take-ids.ensures.ids;
      }) c.args.self.now.listed;
}

pub returns : goal.returns
returns c = λ calls s.
    cleared-stands c.args.self.now.by_id c.clear_all.new.by_id c.args.cell
    (cleared-outside c.args.self.now.by_cell c.take-ids.new.self c.args.self.now.by_id c.clear_all.new.by_id c.args.cell
    (record {
      taken = c.take-ids.ensures.rest;
      left = λ id. c.clear_all.ensures id
          ∙ ap (λ xs. cond (list_any (λ x. bytes_eq x id) xs) (outside c.args.cell (places_at c.args.self.now.by_id id)) (places_at c.args.self.now.by_id id)) c.take-ids.ensures.ids;
    })
    c.args.self.now.listed)
    calls s
