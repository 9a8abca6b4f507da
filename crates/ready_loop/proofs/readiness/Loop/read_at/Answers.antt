use Rattle.std.proofs.Common.{◌≡◌, List, length, set, ap, ◌∙◌, sym, subst, map}
use Rattle.world.specs.declared.entry.Entry.{Entry}
use Rattle.world.specs.Places.{time}
use Rattle.ready_loop.specs.Link.{MayRead, read_link}
use Rattle.ready_loop.proofs.TableLemmas.{tells_with}
use Rattle.ready_loop.proofs.StateLemmas.{may_here, read_offered, read_fails, read_below, read_lowers, known_set, read_stage, well_got}
use Rattle.ready_loop.proofs.ReadLemmas.{read_goes, untimed}
use Rattle.ready_loop.proofs.PartLemmas.{calls_one, read_of_loop}
use Rattle.ready_loop.proofs.BegunLemmas.{begun_read}
use Rattle.ready_loop.proofs.WireLemmas.{wired_one, read_wired, ports_kept, read_port}
use Rattle.ready_loop.specs.Link.{IsSteady}
use Rattle.ready_loop.specs.declared.link.Link.{Link}
use Rattle.ready_loop.specs.Wires.{port_kept}
use Rattle.ready_loop.proofs.readiness.Loop.read_at.Goals as goal

pub returns-clause-goes : goal.returns-clause-goes
returns-clause-goes g c =
    let links_are : c.put.new.self ≡ set c.args.self.now.links c.args.place (read_link c.read-got.result c.last-last.result c.at-link.result)
    = c.put.ensures ∙ ap (set c.args.self.now.links c.args.place) c.after_read.ensures in
    tells_with (λ (now : List Entry). c.last-last.result ≡ time now) c.read-got.ensures.tells c.read-got.ensures.refused c.last-last.ensures.told (λ past refused clock.
    read_goes c.args.conn c.args.place (length c.args.buf.now) c.read-got.result c.read-got.new.buf c.args.self.now c.put.new.self c.at-link.result c.last-last.result past
    c.requires.place c.at-link.ensures.found (may_here MayRead c.args.self.now.links c.args.place c.at-link.result c.at-link.ensures.found c.requires.may) links_are
    (clock ∙ untimed c.args.conn (length c.args.buf.now) c.read-got.result c.read-got.new.buf past) refused)

pub returns-clause-offered : goal.returns-clause-offered
returns-clause-offered g c = read_offered c.read-got.result c.last-last.result c.args.place c.args.self.now c.put.new.self c.at-link.result c.at-link.ensures.found c.requires.within
    (c.put.ensures ∙ ap (set c.args.self.now.links c.args.place) c.after_read.ensures)

pub returns-clause-failed : goal.returns-clause-failed
returns-clause-failed g c =
    let may = may_here MayRead c.args.self.now.links c.args.place c.at-link.result c.at-link.ensures.found c.requires.may in
    read_fails c.read-got.result c.args.conn c.last-last.result c.args.place c.args.self.now.links c.put.new.self c.at-link.result c.requires.place c.at-link.ensures.found may.sound
    (c.put.ensures ∙ ap (set c.args.self.now.links c.args.place) c.after_read.ensures)

pub returns-clause-below : goal.returns-clause-below
returns-clause-below g c = read_below c.read-got.result c.last-last.result c.args.place c.args.self.now.links c.put.new.self c.at-link.result c.at-link.ensures.found
    (c.put.ensures ∙ ap (set c.args.self.now.links c.args.place) c.after_read.ensures)

pub returns-clause-known : goal.returns-clause-known
returns-clause-known g c = known_set c.args.self.now (record c.args.self.now { links = c.put.new.self }) c.args.place (read_link c.read-got.result c.last-last.result c.at-link.result) c.at-link.result c.at-link.ensures.found
    (c.put.ensures ∙ ap (set c.args.self.now.links c.args.place) c.after_read.ensures) (read_stage c.read-got.result c.last-last.result c.at-link.result) (λ p e. e)

pub returns-clause-calls : goal.returns-clause-calls
returns-clause-calls g c = calls_one c.read-got.ensures.tells (read_of_loop c.args.conn (length c.args.buf.now) c.read-got.result c.read-got.new.buf)

pub returns-clause-reads : goal.returns-clause-reads
returns-clause-reads g c = read_lowers c.read-got.result c.last-last.result c.args.place c.args.self.now.links c.put.new.self c.at-link.result c.at-link.ensures.found
    (c.put.ensures ∙ ap (set c.args.self.now.links c.args.place) c.after_read.ensures)
    (may_here MayRead c.args.self.now.links c.args.place c.at-link.result c.at-link.ensures.found c.requires.may)

pub put-requires-clause-begun : goal.put-requires-clause-begun
put-requires-clause-begun g c = subst (λ (link : Link). IsSteady link) (sym c.after_read.ensures) (begun_read c.read-got.result c.last-last.result c.at-link.result (may_here MayRead c.args.self.now.links c.args.place c.at-link.result c.at-link.ensures.found c.requires.may) c.at-link.ensures.begun)

pub returns-clause-ports : goal.returns-clause-ports
returns-clause-ports g c = ports_kept c.args.self.now.links c.put.new.self c.args.place (read_link c.read-got.result c.last-last.result c.at-link.result) c.at-link.result c.at-link.ensures.found
    (c.put.ensures ∙ ap (set c.args.self.now.links c.args.place) c.after_read.ensures) (read_port c.read-got.result c.last-last.result c.at-link.result)

pub returns-clause-wires : goal.returns-clause-wires
returns-clause-wires g c = wired_one c.read-got.ensures.tells (λ past. read_wired (map port_kept c.put.new.self) c.args.conn (length c.args.buf.now) c.read-got.result c.read-got.new.buf past)

pub returns-clause-well : goal.returns-clause-well
returns-clause-well g c = well_got c.args.self.now c.args.conn c.args.place c.at-link.result c.requires.place c.requires.job c.at-link.ensures.found c.at-link.ensures.begun
    (may_here MayRead c.args.self.now.links c.args.place c.at-link.result c.at-link.ensures.found c.requires.may)
