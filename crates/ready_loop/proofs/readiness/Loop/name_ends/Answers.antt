use Rattle.std.proofs.Common.{rules, arith, ◌+◌, ◌∙◌, ap, sym, subst, List, refl}
use Rattle.std.proofs.Math.ListN.{length-set}
use Rattle.ready_loop.specs.declared.link.Link.{Link}
use Rattle.ready_loop.specs.Link.{named_link}
use Rattle.ready_loop.specs.States.{MapsBelow, found_at, found_in, link_reads}
use Rattle.ready_loop.proofs.MapLemmas.{maps_none, maps_more, maps_here}
use Rattle.ready_loop.proofs.NameLemmas.{named_more}
use Rattle.ready_loop.proofs.BegunLemmas.{begun_named}
use Rattle.ready_loop.proofs.StateLemmas.{reads_set}
use Rattle.ready_loop.proofs.WireLemmas.{ports_kept, named_port}
use Rattle.ready_loop.specs.Link.{IsSteady}
use Rattle.ready_loop.specs.Wires.{port_kept}
use Rattle.ready_loop.proofs.readiness.Loop.name_ends.Goals as goal

pub loop-place-init : goal.loop-place-init
loop-place-init c = record {
  size = search rules;
  named = λ p low. absurd (omega arith);
  all = maps_none (λ p. named_link) c.args.self.now.links;
  ports = refl;
  reads = omega arith;
  same = search rules;
}

pub loop-place-preserved : goal.loop-place-preserved
loop-place-preserved c =
    let inv = c.loop-place.invariant in
    let n = c.loop-place.place in
    let here = maps_here n (λ p. named_link) c.args.self.now.links c.loop-place.self.links c.at-link.result c.at-link.ensures.found inv.all in
    record {
      size = length-set c.loop-place.names n c.is_found.result ∙ inv.size;
      named = named_more n c.loop-place.names (λ p. found_at c.args.self.now p) c.is_found.result (omega arith) (c.is_found.ensures ∙ sym (ap found_in here)) inv.named;
      all = subst (λ (ls : List Link). MapsBelow (n + 1) (λ p. named_link) c.args.self.now.links ls) (sym c.put.ensures)
          (maps_more n (λ p. named_link) c.args.self.now.links c.loop-place.self.links c.at-link.result c.after_naming.result c.at-link.ensures.found c.after_naming.ensures inv.all);
      ports = ports_kept c.loop-place.self.links c.put.new.self n c.after_naming.result c.at-link.result c.at-link.ensures.found c.put.ensures
          (ap port_kept c.after_naming.ensures ∙ named_port c.at-link.result) ∙ inv.ports;
      reads = omega (
        arith,
        inv.reads,
        reads_set c.loop-place.self.links c.put.new.self n c.after_naming.result c.at-link.result c.at-link.ensures.found c.put.ensures
            (omega (arith, ap link_reads c.after_naming.ensures)),
      );
      same = search rules;
    }

pub put-requires-clause-begun : goal.put-requires-clause-begun
put-requires-clause-begun c = subst (λ (link : Link). IsSteady link) (sym c.after_naming.ensures) (begun_named c.at-link.result c.at-link.ensures.begun)

pub returns-clause-ports : goal.returns-clause-ports
returns-clause-ports c = c.loop-place.invariant.ports

pub returns-clause-reads : goal.returns-clause-reads
returns-clause-reads c = c.loop-place.invariant.reads
