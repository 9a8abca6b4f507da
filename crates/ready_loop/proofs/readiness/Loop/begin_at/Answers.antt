use Rattle.std.proofs.Common.{◌≡◌, List, set, ap, ◌∙◌, refl, sym, subst, Some, slice_get, ℕ, inl}
use Rattle.world.specs.declared.entry.Entry.{Entry}
use Rattle.world.specs.Places.{time, place_of}
use Rattle.ready_loop.specs.Link.{connect_link, begun_link, is_begun}
use Rattle.ready_loop.specs.States.{known_in}
use Rattle.ready_loop.proofs.TableLemmas.{tells_now}
use Rattle.ready_loop.proofs.StateLemmas.{only_set, drained_set, connect_reads}
use Rattle.ready_loop.proofs.BeginLemmas.{begin_goes, begin_reads, begin_fails, begin_known, begin_holds, begin_offered, fresh_of}
use Rattle.ready_loop.proofs.PartLemmas.{calls_one}
use Rattle.ready_loop.proofs.BegunLemmas.{begun_connect, fresh_unused}
use Rattle.ready_loop.proofs.WireLemmas.{wired_one, adds_port}
use Rattle.ready_loop.specs.Link.{IsSteady}
use Rattle.ready_loop.specs.declared.link.Link.{Link}
use Rattle.ready_loop.proofs.readiness.Loop.begin_at.Goals as goal

pub returns-clause-goes : goal.returns-clause-goes
returns-clause-goes g c =
    let found = subst (λ (i : ℕ). slice_get c.args.self.now.links i ≡ Some c.at-link.result) c.place_at-place.ensures.place c.at-link.ensures.found in
    let fresh = fresh_of c.at-link.result.stage (sym (ap known_in found) ∙ c.requires.fresh) in
    tells_now (λ (now : List Entry). c.last-last.result ≡ time now) c.connect-how.ensures.tells c.last-last.ensures.told (λ past clock.
    begin_goes c.args.conn c.args.port c.connect-how.result c.args.self.now c.put.new.self c.at-link.result c.last-last.result past found fresh
    (c.put.ensures ∙ ap (λ (i : ℕ). set c.args.self.now.links i c.after_connect.result) c.place_at-place.ensures.place
    ∙ ap (set c.args.self.now.links (place_of c.args.conn)) (c.after_connect.ensures ∙ ap (connect_link c.connect-how.result c.last-last.result) c.begun_on.ensures)) clock)

pub returns-clause-only : goal.returns-clause-only
returns-clause-only g c = only_set c.args.self.now (record c.args.self.now { links = c.put.new.self }) (place_of c.args.conn) c.after_connect.result
    (c.put.ensures ∙ ap (λ (i : ℕ). set c.args.self.now.links i c.after_connect.result) c.place_at-place.ensures.place) refl refl

pub returns-clause-drained : goal.returns-clause-drained
returns-clause-drained g c = drained_set c.args.self.now (record c.args.self.now { links = c.put.new.self }) c.place_at-place.result c.at-link.result
    (connect_link c.connect-how.result c.last-last.result (begun_link c.args.port c.at-link.result)) c.at-link.ensures.found c.place_at-place.ensures.within
    (c.put.ensures ∙ ap (set c.args.self.now.links c.place_at-place.result) (c.after_connect.ensures ∙ ap (connect_link c.connect-how.result c.last-last.result) c.begun_on.ensures))
    (begin_reads c.connect-how.result c.last-last.result c.args.port c.at-link.result (connect_reads c.connect-how.result c.last-last.result (begun_link c.args.port c.at-link.result)))

pub returns-clause-failed : goal.returns-clause-failed
returns-clause-failed g c =
    let found = subst (λ (i : ℕ). slice_get c.args.self.now.links i ≡ Some c.at-link.result) c.place_at-place.ensures.place c.at-link.ensures.found in
    begin_fails c.connect-how.result c.args.conn c.last-last.result c.args.port c.args.self.now.links c.put.new.self c.at-link.result found
    (c.put.ensures ∙ ap (λ (i : ℕ). set c.args.self.now.links i c.after_connect.result) c.place_at-place.ensures.place
    ∙ ap (set c.args.self.now.links (place_of c.args.conn)) (c.after_connect.ensures ∙ ap (connect_link c.connect-how.result c.last-last.result) c.begun_on.ensures))

pub returns-clause-known : goal.returns-clause-known
returns-clause-known g c =
    let found = subst (λ (i : ℕ). slice_get c.args.self.now.links i ≡ Some c.at-link.result) c.place_at-place.ensures.place c.at-link.ensures.found in
    begin_known c.args.conn c.connect-how.result c.last-last.result c.args.port c.args.self.now.links c.put.new.self c.at-link.result found
    (c.put.ensures ∙ ap (λ (i : ℕ). set c.args.self.now.links i c.after_connect.result) c.place_at-place.ensures.place
    ∙ ap (set c.args.self.now.links (place_of c.args.conn)) (c.after_connect.ensures ∙ ap (connect_link c.connect-how.result c.last-last.result) c.begun_on.ensures))

pub returns-clause-holds : goal.returns-clause-holds
returns-clause-holds g c = begin_holds c.args.conn c.args.self.now (record c.args.self.now { links = c.put.new.self }) refl (returns-clause-known g c)

pub returns-clause-offered : goal.returns-clause-offered
returns-clause-offered g c = begin_offered (place_of c.args.conn) c.args.self.now (record c.args.self.now { links = c.put.new.self }) refl (returns-clause-only g c) c.requires.fresh

pub returns-clause-calls : goal.returns-clause-calls
returns-clause-calls g c = calls_one c.connect-how.ensures.tells (inl refl)

pub put-requires-clause-begun : goal.put-requires-clause-begun
put-requires-clause-begun g c = subst (λ (link : Link). IsSteady link) (sym (c.after_connect.ensures ∙ ap (connect_link c.connect-how.result c.last-last.result) c.begun_on.ensures))
    (begun_connect c.connect-how.result c.last-last.result (begun_link c.args.port c.at-link.result) refl
    (fresh_unused c.at-link.result c.at-link.ensures.begun (ap is_begun
    (fresh_of c.at-link.result.stage (sym (ap known_in (subst (λ (i : ℕ). slice_get c.args.self.now.links i ≡ Some c.at-link.result) c.place_at-place.ensures.place c.at-link.ensures.found)) ∙ c.requires.fresh)))))

pub returns-clause-ports : goal.returns-clause-ports
returns-clause-ports g c =
    let found = subst (λ (i : ℕ). slice_get c.args.self.now.links i ≡ Some c.at-link.result) c.place_at-place.ensures.place c.at-link.ensures.found in
    adds_port c.args.conn c.connect-how.result c.last-last.result c.args.port c.args.self.now.links c.put.new.self c.at-link.result found (sym (ap known_in found) ∙ c.requires.fresh)
    (c.put.ensures ∙ ap (λ (i : ℕ). set c.args.self.now.links i c.after_connect.result) c.place_at-place.ensures.place
    ∙ ap (set c.args.self.now.links (place_of c.args.conn)) (c.after_connect.ensures ∙ ap (connect_link c.connect-how.result c.last-last.result) c.begun_on.ensures))

pub returns-clause-wires : goal.returns-clause-wires
returns-clause-wires g c = wired_one c.connect-how.ensures.tells (λ past. (returns-clause-ports g c).here)
