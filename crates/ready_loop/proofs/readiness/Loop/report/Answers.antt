use Rattle.std.proofs.Common.{rules, arith, ℕ, ◌≡◌, ◌+◌, ◌∙◌, ap, sym, subst, List, false, Bool, refl}
use Rattle.std.proofs.lemmas.Option.{unwrap_or-slice_get}
use Rattle.world.specs.Places.{is_reported}
use Rattle.ready_loop.specs.declared.link.Link.{Link}
use Rattle.ready_loop.specs.Link.{wait_link}
use Rattle.ready_loop.specs.States.{MapsBelow}
use Rattle.ready_loop.proofs.MapLemmas.{maps_none, maps_more}
use Rattle.ready_loop.proofs.BegunLemmas.{begun_wait}
use Rattle.ready_loop.proofs.WireLemmas.{ports_kept, wait_port}
use Rattle.ready_loop.specs.Link.{IsSteady}
use Rattle.ready_loop.specs.Wires.{port_kept}
use Rattle.ready_loop.proofs.readiness.Loop.report.Goals as goal

pub loop-place-init : goal.loop-place-init
loop-place-init c = record {
  all = maps_none (λ p. wait_link c.args.did (is_reported p c.args.reports.now.ready)) c.args.self.now.links;
  ports = refl;
  same = search rules;
}

pub loop-place-preserved : goal.loop-place-preserved
loop-place-preserved c =
    let inv = c.loop-place.invariant in
    let n = c.loop-place.place in
    record {
      all = subst (λ (ls : List Link). MapsBelow (n + 1) (λ p. wait_link c.args.did (is_reported p c.args.reports.now.ready)) c.args.self.now.links ls) (sym c.put.ensures)
          (maps_more n (λ p. wait_link c.args.did (is_reported p c.args.reports.now.ready)) c.args.self.now.links c.loop-place.self.links c.at-link.result c.after_wait.result c.at-link.ensures.found
          (c.after_wait.ensures ∙ ap (λ (b : Bool). wait_link c.args.did b c.at-link.result) (sym (unwrap_or-slice_get c.args.reports.now.ready n false))) inv.all);
      ports = ports_kept c.loop-place.self.links c.put.new.self n c.after_wait.result c.at-link.result c.at-link.ensures.found c.put.ensures
          (ap port_kept c.after_wait.ensures ∙ wait_port c.args.did _ c.at-link.result) ∙ inv.ports;
      same = search rules;
    }

pub returns-clause-reported : goal.returns-clause-reported
returns-clause-reported c =
    let n : c.loop-place.place ≡ 64 = omega arith in
    subst (λ (n : ℕ). MapsBelow n (λ p. wait_link c.args.did (is_reported p c.args.reports.now.ready)) c.args.self.now.links c.loop-place.self.links) n c.loop-place.invariant.all

pub put-requires-clause-begun : goal.put-requires-clause-begun
put-requires-clause-begun c = subst (λ (link : Link). IsSteady link) (sym c.after_wait.ensures) (begun_wait c.args.did _ c.at-link.result c.at-link.ensures.begun)

pub returns-clause-ports : goal.returns-clause-ports
returns-clause-ports c = c.loop-place.invariant.ports
