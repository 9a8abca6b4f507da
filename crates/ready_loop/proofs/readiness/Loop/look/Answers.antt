use Rattle.std.proofs.Common.{◌∙◌, ap, refl, sym, ◌≡◌, List, ◌-◌}
use Rattle.world.specs.declared.entry.Entry.{Entry}
use Rattle.world.specs.Places.{time}
use Rattle.ready_loop.proofs.TableLemmas.{told_from}
use Rattle.world.proofs.MomentsLemmas.{told_as, told_then, told_both, told_start}
use Rattle.ready_loop.specs.declared.readiness.Loop.{Loop}
use Rattle.ready_loop.proofs.NameLemmas.{named_failed, named_known}
use Rattle.ready_loop.proofs.StateLemmas.{sound_as, known_then, known_start}
use Rattle.ready_loop.proofs.LookLemmas.{looked_until, looked_failed, looked_done, looked_names, may_then, left_of, counts_of, looked_spent}
use Rattle.ready_loop.proofs.PartLemmas.{calls_start, calls_then}
use Rattle.ready_loop.proofs.WireLemmas.{grows_same, wired_start, wired_then, wired_on}
use Rattle.ready_loop.proofs.FaultLemmas.{err_same, not_spent, wait_as, wait_last}
use Rattle.ready_loop.proofs.readiness.Loop.look.Goals as goal

pub returns-in-Err-clause-looked : goal.returns-in-Err-clause-looked
returns-in-Err-clause-looked g c = told_as (told_both c.in-Err.ensures.came c.in-Err.ensures.goes) (λ x y m.
    looked_until c.args.jobs (g.W.Journal.counts c.args.w.now).last c.args.self.now c.offer_jobs.new.self c.in-Err.fault x y m.0 m.1)

pub returns-in-Err-clause-left : goal.returns-in-Err-clause-left
returns-in-Err-clause-left g c = c.in-Err.ensures.left ∙ sym (left_of c.in-Err.fault c.args.self.now.left c.in-Err.ensures.fault)

pub returns-in-Err-clause-cause : goal.returns-in-Err-clause-cause
returns-in-Err-clause-cause g c = counts_of c.in-Err.fault (g.W.Journal.counts c.args.w.now) (g.W.Journal.counts c.offer_jobs.new.w) c.in-Err.ensures.fault refl c.in-Err.ensures.cause

pub returns-in-Failed-clause-looked : goal.returns-in-Failed-clause-looked
returns-in-Failed-clause-looked g c =
    let may = may_then c.args.self.now c.offer_jobs.new.self c.requires c.in-Ok.ensures.drained c.in-Ok.ensures.offered c.in-Ok.ensures.failed.each in
    told_then (told_from {P = λ (past : List Entry). c.last-last.result ≡ time past} (told_both c.in-Ok.ensures.goes c.in-Ok.ensures.begins) c.last-last.ensures.told) c.in-Failed.ensures.came (λ x y z a came.
    looked_failed c.args.jobs (g.W.Journal.counts c.args.w.now).last (g.W.Journal.counts c.offer_jobs.new.w).last c.args.self.now c.offer_jobs.new.self may c.in-Ok.ensures.calm
    (ap (λ k. k.last) c.in-Ok.ensures.cause.others) x y (sym c.last-last.ensures.is ∙ a.1) a.0.0 a.0.1 c.wait.new.self z came)

pub returns-in-Done-clause-looked : goal.returns-in-Done-clause-looked
returns-in-Done-clause-looked g c =
    let may = may_then c.args.self.now c.offer_jobs.new.self c.requires c.in-Ok.ensures.drained c.in-Ok.ensures.offered c.in-Ok.ensures.failed.each in
    told_then (told_from {P = λ (past : List Entry). c.last-last.result ≡ time past} (told_both c.in-Ok.ensures.goes c.in-Ok.ensures.begins) c.last-last.ensures.told) c.in-Done.ensures.came (λ x y z a came.
    looked_done c.args.jobs (g.W.Journal.counts c.args.w.now).last (g.W.Journal.counts c.offer_jobs.new.w).last c.args.self.now c.offer_jobs.new.self may c.in-Ok.ensures.calm
    (ap (λ k. k.last) c.in-Ok.ensures.cause.others) x y (sym c.last-last.ensures.is ∙ a.1) a.0.0 a.0.1 c.wait.new.self c.name_ends.new.self c.name_ends.result z came
    c.name_ends.ensures.all (ap (λ (l : Loop). l.queues) c.name_ends.ensures.same) (ap (λ (l : Loop). l.left) c.name_ends.ensures.same) c.name_ends.ensures.named)

pub returns-in-Done-clause-names : goal.returns-in-Done-clause-names
returns-in-Done-clause-names g c = told_then c.in-Ok.ensures.goes c.in-Done.ensures.came (λ x y z a came.
    looked_names c.args.self.now c.offer_jobs.new.self c.wait.new.self c.name_ends.new.self c.name_ends.result x y z a came
    c.name_ends.ensures.all (ap (λ (l : Loop). l.queues) c.name_ends.ensures.same) (ap (λ (l : Loop). l.left) c.name_ends.ensures.same) c.name_ends.ensures.named)

pub returns-in-Done-clause-failed : goal.returns-in-Done-clause-failed
returns-in-Done-clause-failed g c = record {
  each = λ p. named_failed c.wait.new.self c.name_ends.new.self c.name_ends.ensures.all (ap (λ (l : Loop). l.queues) c.name_ends.ensures.same) p ∙ c.in-Done.ensures.failed p ∙ c.in-Ok.ensures.failed.each p;
}

pub returns-in-Done-clause-sound : goal.returns-in-Done-clause-sound
returns-in-Done-clause-sound g c = sound_as c.args.self.now c.name_ends.new.self
    (λ p. named_failed c.wait.new.self c.name_ends.new.self c.name_ends.ensures.all (ap (λ (l : Loop). l.queues) c.name_ends.ensures.same) p ∙ c.in-Done.ensures.failed p ∙ c.in-Ok.ensures.failed.each p)
    c.requires.sound

pub returns-in-Failed-clause-known : goal.returns-in-Failed-clause-known
returns-in-Failed-clause-known g c = known_then c.in-Ok.ensures.known c.in-Failed.ensures.known

pub returns-in-Done-clause-known : goal.returns-in-Done-clause-known
returns-in-Done-clause-known g c = known_then (known_then c.in-Ok.ensures.known c.in-Done.ensures.known)
    (named_known c.wait.new.self c.name_ends.new.self c.name_ends.ensures.all (ap (λ (l : Loop). l.queues) c.name_ends.ensures.same))

pub returns-in-Err-clause-drained : goal.returns-in-Err-clause-drained
returns-in-Err-clause-drained g c = λ conn e. c.in-Err.ensures.drained c.requires.drained

pub returns-then-self-eq0-clause-calls : goal.returns-then-self-eq0-clause-calls
returns-then-self-eq0-clause-calls g c = calls_start

pub returns-in-Failed-clause-calls : goal.returns-in-Failed-clause-calls
returns-in-Failed-clause-calls g c = calls_then c.in-Ok.ensures.calls c.in-Failed.ensures.calls

pub returns-in-Done-clause-calls : goal.returns-in-Done-clause-calls
returns-in-Done-clause-calls g c = calls_then c.in-Ok.ensures.calls c.in-Done.ensures.calls

pub returns-then-self-eq0-clause-wires : goal.returns-then-self-eq0-clause-wires
returns-then-self-eq0-clause-wires g c = wired_start

pub returns-in-Err-clause-wires : goal.returns-in-Err-clause-wires
returns-in-Err-clause-wires g c = c.in-Err.ensures.wires

pub returns-in-Failed-clause-ports : goal.returns-in-Failed-clause-ports
returns-in-Failed-clause-ports g c = c.in-Failed.ensures.ports ∙ c.in-Ok.ensures.ports

pub returns-in-Failed-clause-wires : goal.returns-in-Failed-clause-wires
returns-in-Failed-clause-wires g c = wired_then (grows_same c.in-Failed.ensures.ports) c.in-Ok.ensures.wires c.in-Failed.ensures.wires

pub returns-in-Done-clause-ports : goal.returns-in-Done-clause-ports
returns-in-Done-clause-ports g c = c.name_ends.ensures.ports ∙ c.in-Done.ensures.ports ∙ c.in-Ok.ensures.ports

pub returns-in-Done-clause-wires : goal.returns-in-Done-clause-wires
returns-in-Done-clause-wires g c = wired_on c.name_ends.ensures.ports (wired_then (grows_same c.in-Done.ensures.ports) c.in-Ok.ensures.wires c.in-Done.ensures.wires)

pub returns-then-self-eq0-clause-looked : goal.returns-then-self-eq0-clause-looked
returns-then-self-eq0-clause-looked g c = told_start (λ x. looked_spent c.args.jobs (g.W.Journal.counts c.args.w.now).last c.args.self.now x)

pub returns-then-self-eq0-clause-names : goal.returns-then-self-eq0-clause-names
returns-then-self-eq0-clause-names g c = told_start (λ x. record { so = λ h stand. tt })

pub returns-then-self-eq0-clause-spent : goal.returns-then-self-eq0-clause-spent
returns-then-self-eq0-clause-spent g c = (λ e. c.if-self-eq0.true, λ z. refl)

pub returns-then-self-eq0-clause-still : goal.returns-then-self-eq0-clause-still
returns-then-self-eq0-clause-still g c = λ e. refl

pub returns-then-self-eq0-clause-left : goal.returns-then-self-eq0-clause-left
returns-then-self-eq0-clause-left g c = refl

pub returns-then-self-eq0-clause-drained : goal.returns-then-self-eq0-clause-drained
returns-then-self-eq0-clause-drained g c = λ conn e. c.requires.drained

pub returns-then-self-eq0-clause-failed : goal.returns-then-self-eq0-clause-failed
returns-then-self-eq0-clause-failed g c = record { each = λ p. refl }

pub returns-then-self-eq0-clause-sound : goal.returns-then-self-eq0-clause-sound
returns-then-self-eq0-clause-sound g c = tt

pub returns-then-self-eq0-clause-known : goal.returns-then-self-eq0-clause-known
returns-then-self-eq0-clause-known g c = known_start c.args.self.now

pub returns-then-self-eq0-clause-ports : goal.returns-then-self-eq0-clause-ports
returns-then-self-eq0-clause-ports g c = refl

pub returns-then-self-eq0-clause-cause : goal.returns-then-self-eq0-clause-cause
returns-then-self-eq0-clause-cause g c = refl

pub returns-in-Err-clause-names : goal.returns-in-Err-clause-names
returns-in-Err-clause-names g c = told_as c.in-Err.ensures.goes (λ x y a. record { so = λ h stand. tt })

pub returns-in-Err-clause-spent : goal.returns-in-Err-clause-spent
returns-in-Err-clause-spent g c = (λ e. absurd (not_spent c.in-Err.fault c.in-Err.ensures.fault e), λ z. absurd (c.if-self-eq0.false z))

pub returns-in-Err-clause-still : goal.returns-in-Err-clause-still
returns-in-Err-clause-still g c = λ e. absurd (not_spent c.in-Err.fault c.in-Err.ensures.fault e)

pub returns-in-Err-clause-failed : goal.returns-in-Err-clause-failed
returns-in-Err-clause-failed g c = record { each = c.in-Err.ensures.failed.each }

pub returns-in-Err-clause-sound : goal.returns-in-Err-clause-sound
returns-in-Err-clause-sound g c = tt

pub returns-in-Err-clause-known : goal.returns-in-Err-clause-known
returns-in-Err-clause-known g c = c.in-Err.ensures.known

pub returns-in-Err-clause-ports : goal.returns-in-Err-clause-ports
returns-in-Err-clause-ports g c = c.in-Err.ensures.ports

pub returns-in-Err-clause-calls : goal.returns-in-Err-clause-calls
returns-in-Err-clause-calls g c = c.in-Err.ensures.calls

pub returns-in-Failed-clause-names : goal.returns-in-Failed-clause-names
returns-in-Failed-clause-names g c = told_then c.in-Ok.ensures.goes c.in-Failed.ensures.came (λ x y z a b. record { so = λ h stand. tt })

pub returns-in-Failed-clause-spent : goal.returns-in-Failed-clause-spent
returns-in-Failed-clause-spent g c = (λ e. let no : ⊥ = cc in absurd no, λ z. absurd (c.if-self-eq0.false z))

pub returns-in-Failed-clause-still : goal.returns-in-Failed-clause-still
returns-in-Failed-clause-still g c = λ e. let no : ⊥ = cc in absurd no

pub returns-in-Failed-clause-left : goal.returns-in-Failed-clause-left
returns-in-Failed-clause-left g c = ap (λ (l : Loop). l.left) c.in-Failed.ensures.same ∙ ap (λ n. n - 1) c.in-Ok.ensures.left

pub returns-in-Failed-clause-drained : goal.returns-in-Failed-clause-drained
returns-in-Failed-clause-drained g c = λ conn e. let no : ⊥ = cc in absurd no

pub returns-in-Failed-clause-failed : goal.returns-in-Failed-clause-failed
returns-in-Failed-clause-failed g c = record { each = λ p. c.in-Failed.ensures.failed p ∙ c.in-Ok.ensures.failed.each p }

pub returns-in-Failed-clause-sound : goal.returns-in-Failed-clause-sound
returns-in-Failed-clause-sound g c = tt

pub returns-in-Failed-clause-cause : goal.returns-in-Failed-clause-cause
returns-in-Failed-clause-cause g c = wait_as (λ u. refl) (wait_last c.in-Ok.ensures.cause c.in-Failed.ensures.cause)

pub returns-in-Done-clause-spent : goal.returns-in-Done-clause-spent
returns-in-Done-clause-spent g c = (λ e. let no : ⊥ = cc in absurd no, λ z. absurd (c.if-self-eq0.false z))

pub returns-in-Done-clause-still : goal.returns-in-Done-clause-still
returns-in-Done-clause-still g c = λ e. let no : ⊥ = cc in absurd no

pub returns-in-Done-clause-left : goal.returns-in-Done-clause-left
returns-in-Done-clause-left g c = ap (λ (l : Loop). l.left) c.name_ends.ensures.same ∙ ap (λ (l : Loop). l.left) c.in-Done.ensures.same ∙ ap (λ n. n - 1) c.in-Ok.ensures.left

pub returns-in-Done-clause-drained : goal.returns-in-Done-clause-drained
returns-in-Done-clause-drained g c = λ conn e. let no : ⊥ = cc in absurd no

pub returns-in-Done-clause-cause : goal.returns-in-Done-clause-cause
returns-in-Done-clause-cause g c = wait_as (λ none. absurd none) (wait_last c.in-Ok.ensures.cause c.in-Done.ensures.cause)

pub returns-then-self-eq0-clause-anew : goal.returns-then-self-eq0-clause-anew
returns-then-self-eq0-clause-anew g c = λ conn e. let no : ⊥ = cc in absurd no

pub returns-in-Err-clause-anew : goal.returns-in-Err-clause-anew
returns-in-Err-clause-anew g c = λ conn e. c.in-Err.ensures.anew conn (err_same e)

pub returns-in-Failed-clause-anew : goal.returns-in-Failed-clause-anew
returns-in-Failed-clause-anew g c = λ conn e. let no : ⊥ = cc in absurd no

pub returns-in-Done-clause-anew : goal.returns-in-Done-clause-anew
returns-in-Done-clause-anew g c = λ conn e. let no : ⊥ = cc in absurd no
