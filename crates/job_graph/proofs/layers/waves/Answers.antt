use Rattle.std.proofs.Common.{◌≡◌, ℕ, sym, ap, subst, ◌∙◌, length, rules, false}
use Rattle.std.specs.List.{list_all}
use Rattle.job_graph.specs.Layers.{place_more, placed_anew, first_unplaced}
use Rattle.job_graph.specs.Waves as spec
use Rattle.job_graph.specs.declared.wave_fault.WaveFault.{WaveFault}
use Rattle.job_graph.specs.declared.wave_fault.WaveFault.TheVariants as fault
use Rattle.job_graph.proofs.Assembly.{next_made, next_placed, next_fewer, cycle_found, waves_found, some_left}
use Rattle.job_graph.proofs.CountLemmas.{few_waves}
use Rattle.job_graph.proofs.layers.waves.Goals as goal

pub loop-alloc-smaller : goal.loop-alloc-smaller
loop-alloc-smaller c =
    next_fewer c.args.needs.now c.loop-alloc.waves c.loop-alloc.placed c.in_ok-next.next c.in_ok-wave.wave c.loop-alloc.invariant.placed
    (search rules) (search rules) (some_left c.in_ok-wave.wave (search rules))

pub loop-alloc-preserved : goal.loop-alloc-preserved
loop-alloc-preserved c = record {
  made = next_made c.args.needs.now c.loop-alloc.waves c.push.new.self c.loop-alloc.placed c.in_ok-next.next c.in_ok-wave.wave
      c.loop-alloc.invariant.made c.loop-alloc.invariant.placed (search rules) (search rules) (search rules);
  placed = next_placed c.args.needs.now c.loop-alloc.waves c.push.new.self c.loop-alloc.placed c.in_ok-next.next c.in_ok-wave.wave
      c.loop-alloc.invariant.placed (search rules) (search rules);
}

abbrev fault_job : WaveFault → ℕ
fault_job (fault.Cycle job) = job
fault_job fault.NoMemory = 0

pub returns-then-is_empty-clause-cycle : goal.returns-then-is_empty-clause-cycle
returns-then-is_empty-clause-cycle c job is =
    let named : c.cycle.result ≡ fault.Cycle (first_unplaced 0 c.loop-alloc.placed) = search rules in
    subst (λ j. spec.IsFirstInCycle c.args.needs.now j) (ap fault_job (sym named ∙ is))
    (cycle_found c.args.needs.now c.loop-alloc.waves c.loop-alloc.placed c.in_ok-next.next c.in_ok-wave.wave c.loop-alloc.invariant.placed
    (search rules) (search rules) (search rules) (search rules))

pub returns-clause-waves : goal.returns-clause-waves
returns-clause-waves c = waves_found c.args.needs.now c.loop-alloc.waves c.loop-alloc.placed c.loop-alloc.invariant.made c.loop-alloc.invariant.placed (search rules)

pub returns-clause-few : goal.returns-clause-few
returns-clause-few c = few_waves c.args.needs.now c.loop-alloc.waves c.loop-alloc.invariant.made
