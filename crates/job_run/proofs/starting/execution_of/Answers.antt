use Rattle.std.proofs.Common.{[], false, true≢false, refl, ◌≡◌, ◌<◌, ◌≤◌, ◌^◌, length, AllPairs, arith, sym, ap, ◌∙◌, subst}
use Rattle.cell_core.specs.Sending.{IsInOrder, next_of}
use Rattle.cell_core.specs.StandsFor.{task_of}
use Rattle.job_notebook.specs.State.{begun_of, settled_of}
use Rattle.job_run.specs.Told.{Tells}
use Rattle.job_run.proofs.starting.execution_of.Goals as goal

pub returns-in-Ok-clause-first : goal.returns-in-Ok-clause-first
returns-in-Ok-clause-first c =
    let core = c.new-core.result in
    let book = c.in_ok-book.book in
    let rises : AllPairs (λ i j. i < j) c.args.agenda.cells = subst (λ (p : _). AllPairs (λ i j. i < j) p) (sym c.args.agenda.plan) (c.plan_in_order.ensures.increasing c.args.agenda.notebook) in
    let begun : begun_of book ≤ next_of core = omega (arith, c.in_ok-book.ensures.begun, c.new-core.ensures.first) in
    let settled : settled_of book ≤ next_of core = omega (arith, c.in_ok-book.ensures.settled, c.new-core.ensures.first) in
    let least : 0 ≤ begun_of book = omega arith in
    let early : 0 < 2 ^ 47 = omega arith in
    let timed : 0 ≤ 0 = omega arith in
    let told : Tells core 0 false = record { events = []; stands = c.new-core.ensures.stands; meets = tt; timed = timed; named = λ e. absurd (cc) } in
    record {
      holds = record {
        ordered = subst IsInOrder (sym c.new-core.ensures.of) rises;
        cells = ap (λ n. length n.cells) c.in_ok-book.ensures.notebook ∙ sym (ap (λ t. t.cells) c.new-core.ensures.of ∙ c.len-count.ensures);
        begun = begun;
        settled = settled;
        asked = λ e. absurd (cc);
        sent = least;
        early = early;
        heard = ∣ told ∣₁;
      };
      begun = c.in_ok-book.ensures.begun;
      settled = c.in_ok-book.ensures.settled;
      next = c.new-core.ensures.first;
      awaits = c.new-core.ensures.next;
      asks = c.new-core.ensures.asks;
      counted = λ m none. record { heard = ∣ record { tells = told; count = sym none } ∣₁; stops = λ cause is. absurd (cc); first = λ e. absurd (true≢false (sym e ∙ c.new-core.ensures.still)) };
    }

pub returns-in-Ok-clause-key : goal.returns-in-Ok-clause-key
returns-in-Ok-clause-key c = c.in-Ok.ensures.key

pub returns-in-Ok-clause-output : goal.returns-in-Ok-clause-output
returns-in-Ok-clause-output c = c.in_ok-book.ensures.output

pub returns-in-Ok-clause-merge : goal.returns-in-Ok-clause-merge
returns-in-Ok-clause-merge c = c.in_ok-book.ensures.merge

pub returns-in-Ok-clause-keeps : goal.returns-in-Ok-clause-keeps
returns-in-Ok-clause-keeps c = c.in_ok-book.ensures.read

pub returns-in-Ok-clause-task : goal.returns-in-Ok-clause-task
returns-in-Ok-clause-task c =
    let core = c.new-core.result in
    let counted = subst (λ n. task_of core ≡ record { plan = c.args.agenda.cells; cells = n; times = c.args.terms.times }) c.len-count.ensures c.new-core.ensures.of in
    subst (λ (p : _). task_of core ≡ record { plan = p; cells = length c.args.agenda.notebook.cells; times = c.args.terms.times }) c.args.agenda.plan counted

pub returns-in-Ok-clause-terms : goal.returns-in-Ok-clause-terms
returns-in-Ok-clause-terms c = refl

pub returns-in-Ok-clause-unbegun : goal.returns-in-Ok-clause-unbegun
returns-in-Ok-clause-unbegun c =
    let t = c.in-Ok.ensures in
    record {
      parts = record {
        roles = t.roles;
        lines = t.lines;
        asking = c.new-in-Ok.ensures;
        made = t.made;
        shell_seen = t.shell;
        iopub_seen = t.iopub;
        request = refl;
        sent = refl;
        ready = refl;
      };
      core = c.new-core.ensures.stands;
      keeps = c.in_ok-book.ensures.keeps;
      clock = refl;
    }

pub returns-in-Ok-clause-name : goal.returns-in-Ok-clause-name
returns-in-Ok-clause-name c = c.in-Ok.ensures.name
