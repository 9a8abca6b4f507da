use Rattle.std.proofs.Common.{ap, refl, ◌∙◌, ◌-◌, inl}
use Rattle.world.specs.Places.{is_reported}
use Rattle.ready_loop.specs.declared.readiness.Loop.{Loop}
use Rattle.ready_loop.specs.Link.{wait_link}
use Rattle.ready_loop.specs.Queues.{rest_at}
use Rattle.ready_loop.proofs.StateLemmas.{known_by}
use Rattle.ready_loop.proofs.TableLemmas.{tells_both}
use Rattle.ready_loop.proofs.MapLemmas.{maps_begun, maps_failed, maps_known}
use Rattle.ready_loop.proofs.WaitLemmas.{wait_stands, wait_failed, wait_stage}
use Rattle.ready_loop.proofs.PartLemmas.{calls_one}
use Rattle.ready_loop.proofs.WireLemmas.{wired_one}
use Rattle.ready_loop.proofs.readiness.Loop.wait.Goals as goal

pub returns-clause-came : goal.returns-clause-came
returns-clause-came g c = tells_both c.wait-did.ensures.tells c.wait-did.ensures.up (λ past up. record {
  reports = c.wait-did.new.out;
  is = refl;
  stands = λ h stand. wait_stands c.args.ms c.wait-did.new.out c.wait-did.result c.args.self.now
      (record c.report.new.self { left = c.report.new.self.left - 1 }) past c.report.ensures.reported (ap (λ (l : Loop). l.queues) c.report.ensures.same) c.requires
      (ap (λ (l : Loop). l.left - 1) c.report.ensures.same) up h stand;
  links = c.report.ensures.reported;
})

pub returns-clause-failed : goal.returns-clause-failed
returns-clause-failed g c = maps_failed 64 (λ p. wait_link c.wait-did.result (is_reported p c.wait-did.new.out.ready)) c.args.self.now.links c.report.new.self.links
    (λ p link. wait_failed c.wait-did.result (is_reported p c.wait-did.new.out.ready) link) c.report.ensures.reported

pub returns-clause-known : goal.returns-clause-known
returns-clause-known g c = known_by c.args.self.now (record c.report.new.self { left = c.report.new.self.left - 1 })
    (maps_known 64 (λ p. wait_link c.wait-did.result (is_reported p c.wait-did.new.out.ready)) c.args.self.now.links c.report.new.self.links
    (λ p link. wait_stage c.wait-did.result (is_reported p c.wait-did.new.out.ready) link) c.report.ensures.reported)
    (maps_begun 64 (λ p. wait_link c.wait-did.result (is_reported p c.wait-did.new.out.ready)) c.args.self.now.links c.report.new.self.links
    (λ p link. wait_stage c.wait-did.result (is_reported p c.wait-did.new.out.ready) link) c.report.ensures.reported)
    (λ p e. ap (λ (l : Loop). rest_at l.queues p) c.report.ensures.same ∙ e)

pub returns-clause-calls : goal.returns-clause-calls
returns-clause-calls g c = calls_one c.wait-did.ensures.tells (inl refl)

pub returns-clause-ports : goal.returns-clause-ports
returns-clause-ports g c = c.report.ensures.ports

pub returns-clause-wires : goal.returns-clause-wires
returns-clause-wires g c = wired_one c.wait-did.ensures.tells (λ past. tt)
