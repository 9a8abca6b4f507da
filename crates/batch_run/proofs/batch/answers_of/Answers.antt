use Rattle.std.proofs.Common.{◌+◌, ◌-◌, false, length, refl, arith}
use Rattle.batch_run.specs.Batch.{numbered}
use Rattle.batch_run.specs.Owed.{begins, none, unknown}
use Rattle.batch_run.specs.Stands.{AllStand, Outset, more_waits, served_by}
use Rattle.std.proofs.lemmas.Bool.{false≢true}
use Rattle.batch_run.proofs.WireLemmas.{wired_fresh}
use Rattle.batch_run.specs.Lines.{waits_of}
use Rattle.batch_run.proofs.EndLemmas.{all_start, run_calls, made_by, made_without, none_over_start, others_left, children_end, count_by, ends_by_answers, said_by, spent_by}
use Rattle.batch_run.proofs.batch.answers_of.Goals as goal

pub returns-in-Ok : goal.returns-in-Ok
returns-in-Ok g c =
    let p = g.W.Journal.journal c.args.w.now in
    let l = c.args.running.lines.connections in
    let n : Outset = record { size = c.args.first + length c.args.asks; here = c.args.limits.now.here; counts = g.W.Journal.counts c.args.w.now; waits = (g.W.Journal.counts c.args.w.now).waits; most = (g.W.Journal.counts c.args.w.now).waits + c.args.limits.now.turns; clean = false; loop = l; owed = begins c.args.first; hushed = λ i. false } in
    let q = g.W.Journal.journal c.carry_out.new.w in
    let d = g.W.Journal.counts c.carry_out.new.w in
    let then_ = c.carry_out.new.running in
    let m : Outset = served_by none c.carry_out.new.running.lines.connections (more_waits (waits_of c.args.running.lines - waits_of c.carry_out.new.running.lines) n) in
    let over = none_over_start c.requires.ended c.requires.waiting in
    let wired = wired_fresh l p (λ k. c.requires.fresh.each k (omega arith)) in
    let first = all_start c.args.first c.args.asks c.args.running.jobs.slots.items p n.counts n.here n.most l false c.requires.size c.args.running.jobs.few c.requires.ended c.requires.waiting c.requires.stands (λ e. absurd (false≢true e)) (λ e. absurd (false≢true e)) wired in
    let s : AllStand (numbered c.args.first c.args.asks) p m then_.jobs.slots.items q d = c.in-Ok.ensures.stands p n refl (omega (arith, c.requires.left)) over first in
    record {
      jobs = made_by c.args.first c.args.asks p m then_.jobs.slots.items q d refl s c.in-Ok.ensures.ended c.into_answers.result refl c.into_answers.ensures;
      calls = run_calls (numbered c.args.first c.args.asks) n.here p q n.counts s.told (λ clean spoken idle.
          (c.in-Ok.ensures.stands p (record n { clean = clean }) refl (omega (arith, c.requires.left)) over
          (all_start c.args.first c.args.asks c.args.running.jobs.slots.items p n.counts n.here n.most l clean c.requires.size c.args.running.jobs.few c.requires.ended c.requires.waiting c.requires.stands spoken idle wired)).calls);
      children = children_end c.args.first c.args.asks p m then_.jobs.slots.items q d refl s c.in-Ok.ensures.ended;
      others = others_left c.args.first c.args.asks p m then_.jobs.slots.items q d refl s;
      counts = s.grow;
      waits = omega (arith, s.waits, c.requires.left);
      one_each = count_by c.args.first c.args.asks p m then_.jobs.slots.items q d refl s c.in-Ok.ensures.ended c.into_answers.result c.into_answers.ensures;
      ends = ends_by_answers c.args.first c.args.asks p m then_.jobs.slots.items q d refl s c.in-Ok.ensures.ended c.into_answers.result c.into_answers.ensures;
      said = said_by c.args.first c.args.asks p m then_.jobs.slots.items q d refl s c.in-Ok.ensures.ended c.into_answers.result refl (λ i. refl) c.into_answers.ensures;
      spent = spent_by c.args.first c.args.asks p m then_.jobs.slots.items q d refl s c.in-Ok.ensures.ended c.into_answers.result c.into_answers.ensures;
    }

pub returns-in-Err : goal.returns-in-Err
returns-in-Err g c =
    let p = g.W.Journal.journal c.args.w.now in
    let l = c.args.running.lines.connections in
    let n : Outset = record { size = c.args.first + length c.args.asks; here = c.args.limits.now.here; counts = g.W.Journal.counts c.args.w.now; waits = (g.W.Journal.counts c.args.w.now).waits; most = (g.W.Journal.counts c.args.w.now).waits + c.args.limits.now.turns; clean = false; loop = l; owed = begins c.args.first; hushed = λ i. false } in
    let q = g.W.Journal.journal c.abandon.new.w in
    let d = g.W.Journal.counts c.abandon.new.w in
    let then_ = c.abandon.new.self in
    let w : Outset = more_waits (waits_of c.args.running.lines - waits_of c.carry_out.new.running.lines) n in
    let m : Outset = served_by unknown c.abandon.new.self.lines.connections w in
    let over = none_over_start c.requires.ended c.requires.waiting in
    let wired = wired_fresh l p (λ k. c.requires.fresh.each k (omega arith)) in
    let first = all_start c.args.first c.args.asks c.args.running.jobs.slots.items p n.counts n.here n.most l false c.requires.size c.args.running.jobs.few c.requires.ended c.requires.waiting c.requires.stands (λ e. absurd (false≢true e)) (λ e. absurd (false≢true e)) wired in
    let s : AllStand (numbered c.args.first c.args.asks) p m then_.jobs.slots.items q d = c.abandon.ensures.stands (numbered c.args.first c.args.asks) p w (c.in-Err.ensures.stands p n refl (omega (arith, c.requires.left)) over first) in
    record {
      jobs = made_without c.args.first c.args.asks p m then_.jobs.slots.items q d refl s c.in-Err.refused;
      calls = run_calls (numbered c.args.first c.args.asks) n.here p q n.counts s.told (λ clean spoken idle.
          (c.abandon.ensures.stands (numbered c.args.first c.args.asks) p (record w { clean = clean }) (c.in-Err.ensures.stands p (record n { clean = clean }) refl (omega (arith, c.requires.left)) over
          (all_start c.args.first c.args.asks c.args.running.jobs.slots.items p n.counts n.here n.most l clean c.requires.size c.args.running.jobs.few c.requires.ended c.requires.waiting c.requires.stands spoken idle wired))).calls);
      children = children_end c.args.first c.args.asks p m then_.jobs.slots.items q d refl s c.abandon.ensures.ended;
      others = others_left c.args.first c.args.asks p m then_.jobs.slots.items q d refl s;
      counts = s.grow;
      waits = omega (arith, s.waits, c.requires.left);
      one_each = tt;
      ends = tt;
      said = tt;
      spent = tt;
    }
