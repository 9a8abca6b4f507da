use Rattle.std.proofs.Common.{◌≡◌, List, refl, inr, arith, ap}
use Rattle.world.specs.declared.entry.Entry.{Entry}
use Rattle.world.specs.Places.{time}
use Rattle.world.proofs.MomentsLemmas.{told_start, told_as, told_one}
use Rattle.ready_loop.proofs.StateLemmas.{sound_as, known_start}
use Rattle.ready_loop.proofs.TableLemmas.{told_from}
use Rattle.ready_loop.proofs.WaitLemmas.{turned_failed, turned_done, turned_spent}
use Rattle.ready_loop.proofs.PartLemmas.{calls_start, calls_one, calls_then}
use Rattle.ready_loop.proofs.WireLemmas.{grows_same, wired_start, wired_one, wired_then}
use Rattle.world.specs.Counts.{Counts}
use Rattle.ready_loop.specs.declared.readiness.Loop.{Loop}
use Rattle.ready_loop.proofs.FaultLemmas.{wait_as, wait_timed}
use Rattle.ready_loop.proofs.readiness.Loop.turn.Goals as goal

pub returns-in-Failed-clause-turned : goal.returns-in-Failed-clause-turned
returns-in-Failed-clause-turned g c = told_as (told_from {P = λ (past : List Entry). c.last-last.result ≡ time past} c.in-Failed.ensures.came c.last-last.ensures.told) (λ x y m.
    turned_failed c.args.due c.limit-limit.result c.last-last.result (g.W.Journal.counts c.args.w.now).last c.args.self.now c.requires c.limit-limit.ensures c.last-last.ensures.is
    c.wait.new.self x y m.1 m.0)

pub returns-in-Done-clause-turned : goal.returns-in-Done-clause-turned
returns-in-Done-clause-turned g c = told_one (told_from {P = λ (past : List Entry). c.last-last.result ≡ time past} c.in-Done.ensures.came c.last-last.ensures.told) c.now.ensures.tells (λ x y m.
    turned_done c.args.due c.limit-limit.result c.last-last.result (g.W.Journal.counts c.args.w.now).last c.args.self.now c.requires c.limit-limit.ensures c.last-last.ensures.is
    c.now.result c.wait.new.self x y m.1 m.0)

pub returns-then-self-eq0-clause-turned : goal.returns-then-self-eq0-clause-turned
returns-then-self-eq0-clause-turned g c = told_as (told_from {P = λ (past : List Entry). c.last-last.result ≡ time past} (told_start {R = λ before after. after ≡ before} (λ x. refl)) c.last-last.ensures.told) (λ x y m.
    turned_spent c.args.due c.last-last.result (g.W.Journal.counts c.args.w.now).last c.args.self.now c.last-last.ensures.is x y m.1 m.0)

pub returns-then-self-eq0-clause-sound : goal.returns-then-self-eq0-clause-sound
returns-then-self-eq0-clause-sound g c = c.requires.sound

pub returns-in-Failed-clause-sound : goal.returns-in-Failed-clause-sound
returns-in-Failed-clause-sound g c = sound_as c.args.self.now c.wait.new.self c.in-Failed.ensures.failed c.requires.sound

pub returns-in-Done-clause-sound : goal.returns-in-Done-clause-sound
returns-in-Done-clause-sound g c = sound_as c.args.self.now c.wait.new.self c.in-Done.ensures.failed c.requires.sound

pub returns-in-Done-clause-calls : goal.returns-in-Done-clause-calls
returns-in-Done-clause-calls g c = calls_then c.in-Done.ensures.calls (calls_one c.now.ensures.tells (inr refl))

pub returns-then-self-eq0-clause-calls : goal.returns-then-self-eq0-clause-calls
returns-then-self-eq0-clause-calls g c = calls_start

pub returns-then-self-eq0-clause-wires : goal.returns-then-self-eq0-clause-wires
returns-then-self-eq0-clause-wires g c = wired_start

pub returns-in-Failed-clause-wires : goal.returns-in-Failed-clause-wires
returns-in-Failed-clause-wires g c = c.in-Failed.ensures.wires

pub returns-in-Done-clause-wires : goal.returns-in-Done-clause-wires
returns-in-Done-clause-wires g c = wired_then (grows_same refl) c.in-Done.ensures.wires (wired_one c.now.ensures.tells (λ past. tt))

pub returns-then-self-eq0-clause-spent : goal.returns-then-self-eq0-clause-spent
returns-then-self-eq0-clause-spent g c = (λ e. c.if-self-eq0.true, λ z. refl)

pub returns-then-self-eq0-clause-still : goal.returns-then-self-eq0-clause-still
returns-then-self-eq0-clause-still g c = λ e. refl

pub returns-then-self-eq0-clause-failed : goal.returns-then-self-eq0-clause-failed
returns-then-self-eq0-clause-failed g c = record { each = λ p. refl }

pub returns-then-self-eq0-clause-known : goal.returns-then-self-eq0-clause-known
returns-then-self-eq0-clause-known g c = known_start c.args.self.now

pub returns-then-self-eq0-clause-left : goal.returns-then-self-eq0-clause-left
returns-then-self-eq0-clause-left g c = let none = c.if-self-eq0.true in omega (arith, none)

pub returns-then-self-eq0-clause-ports : goal.returns-then-self-eq0-clause-ports
returns-then-self-eq0-clause-ports g c = refl

pub returns-then-self-eq0-clause-cause : goal.returns-then-self-eq0-clause-cause
returns-then-self-eq0-clause-cause g c = refl

pub returns-then-self-eq0-clause-later : goal.returns-then-self-eq0-clause-later
returns-then-self-eq0-clause-later g c = omega arith

pub returns-in-Failed-clause-spent : goal.returns-in-Failed-clause-spent
returns-in-Failed-clause-spent g c = (λ e. let no : ⊥ = cc in absurd no, λ z. absurd (c.if-self-eq0.false z))

pub returns-in-Failed-clause-still : goal.returns-in-Failed-clause-still
returns-in-Failed-clause-still g c = λ e. let no : ⊥ = cc in absurd no

pub returns-in-Failed-clause-failed : goal.returns-in-Failed-clause-failed
returns-in-Failed-clause-failed g c = record { each = c.in-Failed.ensures.failed }

pub returns-in-Failed-clause-known : goal.returns-in-Failed-clause-known
returns-in-Failed-clause-known g c = c.in-Failed.ensures.known

pub returns-in-Failed-clause-left : goal.returns-in-Failed-clause-left
returns-in-Failed-clause-left g c = ap (λ (l : Loop). l.left) c.in-Failed.ensures.same

pub returns-in-Failed-clause-ports : goal.returns-in-Failed-clause-ports
returns-in-Failed-clause-ports g c = c.in-Failed.ensures.ports

pub returns-in-Failed-clause-calls : goal.returns-in-Failed-clause-calls
returns-in-Failed-clause-calls g c = c.in-Failed.ensures.calls

pub returns-in-Failed-clause-cause : goal.returns-in-Failed-clause-cause
returns-in-Failed-clause-cause g c = wait_as (λ u. refl) c.in-Failed.ensures.cause

pub returns-in-Failed-clause-later : goal.returns-in-Failed-clause-later
returns-in-Failed-clause-later g c = omega (arith, ap (λ (k : Counts). k.last) c.in-Failed.ensures.cause.others)

pub returns-in-Done-clause-spent : goal.returns-in-Done-clause-spent
returns-in-Done-clause-spent g c = (λ e. let no : ⊥ = cc in absurd no, λ z. absurd (c.if-self-eq0.false z))

pub returns-in-Done-clause-still : goal.returns-in-Done-clause-still
returns-in-Done-clause-still g c = λ e. let no : ⊥ = cc in absurd no

pub returns-in-Done-clause-failed : goal.returns-in-Done-clause-failed
returns-in-Done-clause-failed g c = record { each = c.in-Done.ensures.failed }

pub returns-in-Done-clause-known : goal.returns-in-Done-clause-known
returns-in-Done-clause-known g c = c.in-Done.ensures.known

pub returns-in-Done-clause-left : goal.returns-in-Done-clause-left
returns-in-Done-clause-left g c = ap (λ (l : Loop). l.left) c.in-Done.ensures.same

pub returns-in-Done-clause-ports : goal.returns-in-Done-clause-ports
returns-in-Done-clause-ports g c = c.in-Done.ensures.ports

pub returns-in-Done-clause-cause : goal.returns-in-Done-clause-cause
returns-in-Done-clause-cause g c = wait_timed c.in-Done.ensures.cause c.now.ensures.counts

pub returns-in-Done-clause-later : goal.returns-in-Done-clause-later
returns-in-Done-clause-later g c = omega (arith, ap (λ (k : Counts). k.last) c.in-Done.ensures.cause.others, c.now.ensures.later, ap (λ (k : Counts). k.last) c.now.ensures.counts)
