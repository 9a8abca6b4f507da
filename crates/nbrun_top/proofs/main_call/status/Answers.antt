use Rattle.std.proofs.Common.{◌<◌, refl, map, string_bytes, subst, arith}
use Rattle.world.specs.Counts.{Rose}
use Rattle.world.specs.Moments.{Told}
use Rattle.world.proofs.MomentsLemmas.{told_as}
use Rattle.nbrun_top.specs.Asked.{IsPlainOf, IsTaskOf, IsExecuted, IsBatch, IsExercise}
use Rattle.nbrun_top.proofs.Asked.{no_exercise_executes, one_is_no_exercise, batch_is_no_exercise, one_executes, batch_executes, no_refusal}
use Rattle.nbrun_top.proofs.Batches.{of_ended}
use Rattle.nbrun_top.proofs.CodeLemmas.{never_plain}
use Rattle.nbrun_top.specs.Exercised.{Exercised}
use Rattle.nbrun_top.specs.ExerciseLine.{IsOutcome}
use Rattle.nbrun_top.proofs.Exercises.{of_no_memory, same_cells}
use Rattle.nbrun_top.proofs.main_call.status.Goals as goal

pub returns-in-Plain-clause-silent : goal.returns-in-Plain-clause-silent
returns-in-Plain-clause-silent g c plain some =
    let words = map string_bytes c.args.words.now in
    let is : IsPlainOf words c.in-Plain.plain = subst (λ t. IsTaskOf words t) c.in-Plain.is c.of.ensures.asked in
    c.run_plain.ensures.silent words is some

pub returns-in-Plain-clause-executed : goal.returns-in-Plain-clause-executed
returns-in-Plain-clause-executed g c executing =
    let words = map string_bytes c.args.words.now in
    let is : IsPlainOf words c.in-Plain.plain = subst (λ t. IsTaskOf words t) c.in-Plain.is c.of.ensures.asked in
    told_as (c.run_plain.ensures.causes words is) (λ x y ended new.
    of_ended words (Rose (g.W.Journal.counts c.args.w.now).say (g.W.Journal.counts c.run_plain.new.w).say) (0 < (g.W.Journal.counts c.run_plain.new.w).say) c.run_plain.result
    x y executing ended new)

pub returns-in-Plain-clause-exercised : goal.returns-in-Plain-clause-exercised
returns-in-Plain-clause-exercised g c n exercise =
    let words = map string_bytes c.args.words.now in
    let is : IsPlainOf words c.in-Plain.plain = subst (λ t. IsTaskOf words t) c.in-Plain.is c.of.ensures.asked in
    told_as (c.run_plain.ensures.causes words is) (λ x y ended.
    of_no_memory words (IsOutcome n)
    (Rose (g.W.Journal.counts c.args.w.now).say (g.W.Journal.counts c.run_plain.new.w).say) (0 < (g.W.Journal.counts c.run_plain.new.w).say) c.run_plain.result
    x y n exercise ended)

pub returns-in-One-clause-exercised : goal.returns-in-One-clause-exercised
returns-in-One-clause-exercised g c n exercise =
    let words = map string_bytes c.args.words.now in
    let is : IsExecuted words c.in-One.ask = subst (λ t. IsTaskOf words t) c.in-One.is c.of.ensures.asked in
    absurd (one_is_no_exercise words c.in-One.ask is n exercise)

pub returns-in-Many-clause-exercised : goal.returns-in-Many-clause-exercised
returns-in-Many-clause-exercised g c n exercise =
    let words = map string_bytes c.args.words.now in
    let is : IsBatch words c.in-Many.file c.in-Many.common = subst (λ t. IsTaskOf words t) c.in-Many.is c.of.ensures.asked in
    absurd (batch_is_no_exercise words c.in-Many.file c.in-Many.common is n exercise)

pub returns-in-Exercise-clause-exercised : goal.returns-in-Exercise-clause-exercised
returns-in-Exercise-clause-exercised g c n exercise =
    let words = map string_bytes c.args.words.now in
    let is : IsExercise words c.in-Exercise.cells = subst (λ t. IsTaskOf words t) c.in-Exercise.is c.of.ensures.asked in
    subst (λ k. Told (g.W.Journal.journal c.args.w.now) (g.W.Journal.journal c.run_exercise.new.w) (λ x y. Exercised (IsOutcome k)
    (Rose (g.W.Journal.counts c.args.w.now).say (g.W.Journal.counts c.run_exercise.new.w).say) (0 < (g.W.Journal.counts c.run_exercise.new.w).say) x c.run_exercise.result y))
    (same_cells words c.in-Exercise.cells n is exercise) c.run_exercise.ensures.exercised

pub returns-in-Exercise-clause-executed : goal.returns-in-Exercise-clause-executed
returns-in-Exercise-clause-executed g c executing =
    let words = map string_bytes c.args.words.now in
    let is : IsExercise words c.in-Exercise.cells = subst (λ t. IsTaskOf words t) c.in-Exercise.is c.of.ensures.asked in
    absurd (no_exercise_executes words c.in-Exercise.cells executing is)

pub returns-in-Exercise-clause-causes : goal.returns-in-Exercise-clause-causes
returns-in-Exercise-clause-causes g c plain =
    let words = map string_bytes c.args.words.now in
    let is : IsExercise words c.in-Exercise.cells = subst (λ t. IsTaskOf words t) c.in-Exercise.is c.of.ensures.asked in
    absurd (plain.exercises c.in-Exercise.cells is)

pub returns-in-Exercise-clause-silent : goal.returns-in-Exercise-clause-silent
returns-in-Exercise-clause-silent g c plain some =
    let words = map string_bytes c.args.words.now in
    let is : IsExercise words c.in-Exercise.cells = subst (λ t. IsTaskOf words t) c.in-Exercise.is c.of.ensures.asked in
    absurd (plain.exercises c.in-Exercise.cells is)

pub returns-in-Plain-clause-refused : goal.returns-in-Plain-clause-refused
returns-in-Plain-clause-refused g c plain two taken =
    let words = map string_bytes c.args.words.now in
    let is : IsPlainOf words c.in-Plain.plain = subst (λ t. IsTaskOf words t) c.in-Plain.is c.of.ensures.asked in
    let why = c.run_plain.ensures.refused two in
    absurd (no_refusal words c.in-Plain.plain why.0 why.1 why.2 is taken)

pub returns-in-One-clause-causes : goal.returns-in-One-clause-causes
returns-in-One-clause-causes g c plain =
    let words = map string_bytes c.args.words.now in
    let is : IsExecuted words c.in-One.ask = subst (λ t. IsTaskOf words t) c.in-One.is c.of.ensures.asked in
    absurd (plain.executes (one_executes words c.in-One.ask is))

pub returns-in-One-clause-silent : goal.returns-in-One-clause-silent
returns-in-One-clause-silent g c plain some =
    let words = map string_bytes c.args.words.now in
    let is : IsExecuted words c.in-One.ask = subst (λ t. IsTaskOf words t) c.in-One.is c.of.ensures.asked in
    absurd (plain.executes (one_executes words c.in-One.ask is))

pub returns-in-One-clause-executed : goal.returns-in-One-clause-executed
returns-in-One-clause-executed g c executing =
    let words = map string_bytes c.args.words.now in
    let is : IsExecuted words c.in-One.ask = subst (λ t. IsTaskOf words t) c.in-One.is c.of.ensures.asked in
    c.run_one.ensures.executed words is

pub returns-in-Many-clause-causes : goal.returns-in-Many-clause-causes
returns-in-Many-clause-causes g c plain =
    let words = map string_bytes c.args.words.now in
    let is : IsBatch words c.in-Many.file c.in-Many.common = subst (λ t. IsTaskOf words t) c.in-Many.is c.of.ensures.asked in
    absurd (plain.executes (batch_executes words c.in-Many.file c.in-Many.common is))

pub returns-in-Many-clause-silent : goal.returns-in-Many-clause-silent
returns-in-Many-clause-silent g c plain some =
    let words = map string_bytes c.args.words.now in
    let is : IsBatch words c.in-Many.file c.in-Many.common = subst (λ t. IsTaskOf words t) c.in-Many.is c.of.ensures.asked in
    absurd (plain.executes (batch_executes words c.in-Many.file c.in-Many.common is))

pub returns-in-Many-clause-executed : goal.returns-in-Many-clause-executed
returns-in-Many-clause-executed g c executing =
    let words = map string_bytes c.args.words.now in
    let is : IsBatch words c.in-Many.file c.in-Many.common = subst (λ t. IsTaskOf words t) c.in-Many.is c.of.ensures.asked in
    c.run_file.ensures.executed words is

pub returns-in-One-clause-refused : goal.returns-in-One-clause-refused
returns-in-One-clause-refused g c plain two taken =
    let words = map string_bytes c.args.words.now in
    let is : IsExecuted words c.in-One.ask = subst (λ t. IsTaskOf words t) c.in-One.is c.of.ensures.asked in
    absurd (plain.executes (one_executes words c.in-One.ask is))

pub returns-in-Many-clause-refused : goal.returns-in-Many-clause-refused
returns-in-Many-clause-refused g c plain two taken =
    let words = map string_bytes c.args.words.now in
    let is : IsBatch words c.in-Many.file c.in-Many.common = subst (λ t. IsTaskOf words t) c.in-Many.is c.of.ensures.asked in
    absurd (plain.executes (batch_executes words c.in-Many.file c.in-Many.common is))

pub returns-in-Exercise-clause-refused : goal.returns-in-Exercise-clause-refused
returns-in-Exercise-clause-refused g c plain two taken =
    let words = map string_bytes c.args.words.now in
    let is : IsExercise words c.in-Exercise.cells = subst (λ t. IsTaskOf words t) c.in-Exercise.is c.of.ensures.asked in
    absurd (plain.exercises c.in-Exercise.cells is)

pub returns-in-Plain-clause-waits : goal.returns-in-Plain-clause-waits
returns-in-Plain-clause-waits g c = omega (arith, c.run_plain.ensures.waits)

pub returns-in-Exercise-clause-waits : goal.returns-in-Exercise-clause-waits
returns-in-Exercise-clause-waits g c = omega (arith, c.run_exercise.ensures.waits)

pub returns-in-Plain-clause-counted : goal.returns-in-Plain-clause-counted
returns-in-Plain-clause-counted g c real = record {
  cause = record {
    read = c.run_plain.ensures.read_fault;
    start = λ six. absurd (never_plain 6 c.run_plain.result refl c.run_plain.ensures.kind six);
    save = c.run_plain.ensures.save_fault;
    net = λ fourteen. absurd (never_plain 14 c.run_plain.result refl c.run_plain.ensures.kind fourteen);
  };
  say = c.run_plain.ensures.say_fault;
  spent = λ sixteen. absurd (never_plain 16 c.run_plain.result refl c.run_plain.ensures.kind sixteen);
}

pub returns-in-One-clause-counted : goal.returns-in-One-clause-counted
returns-in-One-clause-counted g c real = c.run_one.ensures.counted

pub returns-in-Many-clause-counted : goal.returns-in-Many-clause-counted
returns-in-Many-clause-counted g c real = c.run_file.ensures.counted

pub returns-in-Exercise-clause-counted : goal.returns-in-Exercise-clause-counted
returns-in-Exercise-clause-counted g c real =
    let words = map string_bytes c.args.words.now in
    let is : IsExercise words c.in-Exercise.cells = subst (λ t. IsTaskOf words t) c.in-Exercise.is c.of.ensures.asked in
    absurd (real c.in-Exercise.cells is)
