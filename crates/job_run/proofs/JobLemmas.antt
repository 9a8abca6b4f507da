-- What a job stands for, by its execution and its end.
use Rattle.std.proofs.Common.{◌≡◌, ◌≤◌, inl, inr, arith, ℕ, true, false, List, ◌∷◌, [], Option, Some, None, Result, Ok, Err, refl, sym, ◌∙◌, ap, subst}
use Rattle.std.specs.Prelude.{is_some, IfOk, IfErr, IfSome}
use Rattle.std.proofs.Math.Bool.{true≢false}
use Rattle.world.specs.declared.chan.Chan.{Chan}
use Rattle.world.specs.declared.entry.Entry.{Entry}
use Rattle.world.specs.Moments.{Since, more}
use Rattle.world.specs.Places.{time}
use Rattle.kernel_lines.specs.declared.lines.Lines.{Lines}
use Rattle.job_end.specs.declared.answer.Answer.{Answer}
use Rattle.job_end.specs.declared.end.End.{End}
use Rattle.job_end.specs.Answers.{Answers}
use Rattle.job_journal.specs.Ended.{HasAnswered, IsWhole}
use Rattle.job_journal.specs.Plot.{Plot, facts}
use Rattle.job_journal.specs.Quiet.{IsQuietNow, is_quiet}
use Rattle.job_journal.specs.Standing.{Hands, HasEndedAs}
use Rattle.job_journal.proofs.Acking.{requests_on}
use Rattle.job_journal.proofs.Breaking.{bytes_on, whole_same, whole_there}
use Rattle.job_journal.proofs.Ended.{answered_on}
use Rattle.job_journal.proofs.Ending.{ends_standing}
use Rattle.job_journal.proofs.Handing.{hands_out}
use Rattle.job_journal.proofs.Quiet.{quiet_kind, stands_on}
use Rattle.job_run.specs.declared.execution.Execution.{Execution}
use Rattle.job_run.specs.declared.job.Job.{Job}
use Rattle.job_run.specs.JobStanding.{IsGotFor, IsTurnedFor, JobStands, JobStandsAs, JobStandsUntold, KeepsStanding}
use Rattle.job_run.specs.Standing.{IsGot, IsTurned, NotesError, Stands, StandsOrEnds, StandsUntold, parts_of}
use Rattle.job_run.specs.Told.{IsOutside}
use Rattle.job_run.proofs.EndLemmas.{outside_so}
use Rattle.world.specs.declared.entry.Entry.TheVariants as made
use Rattle.run_journal.specs.Parts.{bytes_got}
use Rattle.run_journal.specs.Why.{fault_on}
use Rattle.std.proofs.lemmas.Bool.{false_from_ne_true}
use Rattle.job_journal.proofs.Bytes.{got_on_one}

-- ---- executions

pub stands_quiet : (p : Plot) (number : ℕ) (x : Execution) (before now : List Entry) → Since (IsQuietNow (facts p)) before now → Stands p number x before → Stands p number x now
stands_quiet p number x before now w s = record {
  parts = stands_on p number (parts_of x) [] [] before now w s.parts;
  asked = s.asked;
  noted = subst (NotesError (facts p) x.request) (sym (requests_on (facts p) before now s.parts.undated w)) s.noted;
}

pub untold_quiet : (p : Plot) (number : ℕ) (x : Execution) (before now : List Entry) → Since (IsQuietNow (facts p)) before now → StandsUntold p number x before → StandsUntold p number x now
untold_quiet p number x before now w u =
    let s : Stands p number (record x { clock = time before }) now = stands_quiet p number (record x { clock = time before }) before now w u.stands in
    let same : time before ≡ time now = s.parts.clock in
    record { stands = subst (λ c. Stands p number (record x { clock = c }) now) same s; earlier = omega (arith, u.earlier, same) }

-- what stands for the journal also does where its clock is left open
pub untold_of : (p : Plot) (number : ℕ) (x : Execution) (now : List Entry) → Stands p number x now → StandsUntold p number x now
untold_of p number x now s =
    let same : x.clock ≡ time now = s.parts.clock in
    record { stands = subst (λ c. Stands p number (record x { clock = c }) now) same s; earlier = omega (arith, same) }

pub untold_ends : (p : Plot) (number : ℕ) (x : Execution) (now : List Entry) → StandsUntold p number x now → HasEndedAs p now
untold_ends p number x now u = ends_standing p number (parts_of (record x { clock = time now })) [] [] now u.stands.parts

-- a connection is served
pub served_stands : (p : Plot) (number : ℕ) (x : Execution) (c : Chan) (lines : Lines) (now : List Entry) → Hands c x.lines lines → Stands p number x now → Stands p number (record x { lines = lines }) now
served_stands p number x c lines now g s = record {
  parts = hands_out p number (parts_of x) [] [] now c lines g s.parts;
  asked = record { terms = s.asked.terms; tagged = s.asked.tagged };
  noted = s.noted;
}

-- ---- jobs

-- quiet entries change nothing, as they do of its execution
job_on : (R : Plot → ℕ → Execution → List Entry → Type 0) (p : Plot) (j : Job) (before now : List Entry) → (R p j.number j.run before → R p j.number j.run now)
    → Since (IsQuietNow (facts p)) before now → JobStandsAs R p j before → JobStandsAs R p j now
job_on R p j before now turns w s = record {
  number_is = s.number_is;
  output_is = s.output_is;
  undated = s.undated;
  runs = λ e. turns (s.runs e);
  whole = λ e. whole_same (facts p) before now (bytes_on (facts p) before now w) (s.whole e);
  ended = λ a is. answered_on p a before now s.undated w (s.ended a is);
}

pub job_quiet : (p : Plot) (j : Job) (before now : List Entry) → Since (IsQuietNow (facts p)) before now → JobStands p j before → JobStands p j now
job_quiet p j before now w s = job_on Stands p j before now (stands_quiet p j.number j.run before now w) w s

pub job_quiet_untold : (p : Plot) (j : Job) (before now : List Entry) → Since (IsQuietNow (facts p)) before now → JobStandsUntold p j before → JobStandsUntold p j now
job_quiet_untold p j before now w s = job_on StandsUntold p j before now (untold_quiet p j.number j.run before now w) w s

pub job_untold : (p : Plot) (j : Job) (now : List Entry) → JobStands p j now → JobStandsUntold p j now
job_untold p j now s = record {
  number_is = s.number_is;
  output_is = s.output_is;
  undated = s.undated;
  runs = λ e. untold_of p j.number j.run now (s.runs e);
  whole = s.whole;
  ended = s.ended;
}

-- the texts that were saved are the first of the saves that are due
pub job_saved : (p : Plot) (j : Job) (now : List Entry) → JobStandsUntold p j now → HasEndedAs p now
job_saved p j now s = by j.outcome refl
  where
    by : (o : Option Answer) → j.outcome ≡ o → HasEndedAs p now
    by (Some a) is = (s.ended a is).ended
    by None is = untold_ends p j.number j.run now (s.runs (ap (λ (o : Option Answer). is_some o) is))

-- ---- what a job is told without a call of the world

-- a change of its execution alone
pub keeps_standing : (was now : Job) → now.number ≡ was.number → now.paths.output ≡ was.paths.output → now.outcome ≡ was.outcome → now.run.clock ≡ was.run.clock
    → ((p : Plot) (number clock : ℕ) (journal : List Entry) → Stands p number (record was.run { clock = clock }) journal → Stands p number (record now.run { clock = clock }) journal)
    → KeepsStanding was now
keeps_standing was now number output outcome clock turns = record { stands = told; untold = unclocked }
  where
    running : is_some now.outcome ≡ false → is_some was.outcome ≡ false
    running e = ap (λ (a : Option Answer). is_some a) (sym outcome) ∙ e

    told : (p : Plot) (journal : List Entry) → JobStands p was journal → JobStands p now journal
    told p journal s = record {
      number_is = number ∙ s.number_is;
      output_is = output ∙ s.output_is;
      undated = s.undated;
      runs = λ e.
          subst (λ n. Stands p n now.run journal) (sym number)
          (subst (λ c. Stands p was.number (record now.run { clock = c }) journal) (sym clock) (turns p was.number was.run.clock journal (s.runs (running e))));
      whole = λ e. s.whole (running e);
      ended = λ a is. s.ended a (sym outcome ∙ is);
    }

    unclocked_run : (p : Plot) (journal : List Entry) → StandsUntold p was.number was.run journal → StandsUntold p was.number now.run journal
    unclocked_run p journal u = record {
      stands = turns p was.number (time journal) journal u.stands;
      earlier = subst (λ c. c ≤ time journal) (sym clock) u.earlier;
    }

    unclocked : (p : Plot) (journal : List Entry) → JobStandsUntold p was journal → JobStandsUntold p now journal
    unclocked p journal s = record {
      number_is = number ∙ s.number_is;
      output_is = output ∙ s.output_is;
      undated = s.undated;
      runs = λ e. subst (λ n. StandsUntold p n now.run journal) (sym number) (unclocked_run p journal (s.runs (running e)));
      whole = λ e. s.whole (running e);
      ended = λ a is. s.ended a (sym outcome ∙ is);
    }

-- nothing that it stands for was touched
pub keeps_still : (was now : Job) → now.number ≡ was.number → now.paths.output ≡ was.paths.output → now.outcome ≡ was.outcome → now.run ≡ was.run → KeepsStanding was now
keeps_still was now number output outcome run =
    keeps_standing was now number output outcome (ap (λ (x : Execution). x.clock) run)
    (λ p n clock journal s. subst (λ (x : Execution). Stands p n (record x { clock = clock }) journal) (sym run) s)

-- a connection of its is served
pub keeps_served : (was now : Job) (c : Chan) (lines : Lines) → now.number ≡ was.number → now.paths.output ≡ was.paths.output → now.outcome ≡ was.outcome → now.run ≡ record was.run { lines = lines } → Hands c was.run.lines lines
    → KeepsStanding was now
keeps_served was now c lines number output outcome run g =
    keeps_standing was now number output outcome (ap (λ (x : Execution). x.clock) run)
    (λ p n clock journal s.
    subst (λ (x : Execution). Stands p n (record x { clock = clock }) journal) (sym run) (served_stands p n (record was.run { clock = clock }) c lines journal g s))

-- the answer of a job that has ended is that of its end
answer_of : (output to : List ℕ) (e : End) (o : Option Answer) (a : Answer) → output ≡ to → IfSome o (Answers output e) → o ≡ Some a → Answers to e a
answer_of output to e o a same answers is = subst (λ path. Answers path e a) same (subst (λ v. IfSome v (Answers output e)) is answers)

-- a job that ran has ended from outside
pub keeps_ended : (was now : Job) (e : End) → now.number ≡ was.number → now.paths.output ≡ was.paths.output → is_some now.outcome ≡ true → IsOutside e
    → IfSome now.outcome (Answers was.paths.output e) → KeepsStanding was now
keeps_ended was now e number output over outside answers = record {
  stands = λ p journal s. record {
    number_is = number ∙ s.number_is;
    output_is = output ∙ s.output_is;
    undated = s.undated;
    runs = λ off. absurd (true≢false (sym over ∙ off));
    whole = λ off. absurd (true≢false (sym over ∙ off));
    ended = λ a is. so p journal (job_untold p was journal s) a is;
  };
  untold = λ p journal s. record {
    number_is = number ∙ s.number_is;
    output_is = output ∙ s.output_is;
    undated = s.undated;
    runs = λ off. absurd (true≢false (sym over ∙ off));
    whole = λ off. absurd (true≢false (sym over ∙ off));
    ended = λ a is. so p journal s a is;
  };
}
  where
    so : (p : Plot) (journal : List Entry) → JobStandsUntold p was journal → (a : Answer) → now.outcome ≡ Some a → HasAnswered p a journal
    so p journal s a is =
        outside_so p e journal outside (job_saved p was journal s) a (answer_of was.paths.output p.ask.output e now.outcome a s.output_is answers is)

-- ---- what a call of its execution leaves

pub job_stands : (p : Plot) (j : Job) (mid : Execution) (done : Result (Unit {0}) End) (now : List Entry) → j.number ≡ p.setting.number → j.paths.output ≡ p.ask.output
    → (facts p).task.times.interrupt ≡ false → IfOk done (λ u. (j.run ≡ mid) × (j.outcome ≡ None)) → IfErr done (λ e. is_some j.outcome ≡ true)
    → IfErr done (λ e. IfSome j.outcome (Answers j.paths.output e)) → (is_some j.outcome ≡ false → IsWhole (facts p) now) → StandsOrEnds p j.number mid done now → JobStands p j now
job_stands p j mid (Ok u) now number output undated goes ends answers whole s = record {
  number_is = number;
  output_is = output;
  undated = undated;
  runs = λ e. subst (λ (x : Execution). Stands p j.number x now) (sym goes.0) s;
  whole = whole;
  ended = λ a is. (let both : None ≡ Some a = sym goes.1 ∙ is in absurd (cc));
}
job_stands p j mid (Err k) now number output undated goes ends answers whole s = record {
  number_is = number;
  output_is = output;
  undated = undated;
  runs = λ e. absurd (true≢false (sym ends ∙ e));
  whole = whole;
  ended = λ a is. s a (answer_of j.paths.output p.ask.output k j.outcome a output answers is);
}

-- a piece that was got for a job was got for its execution
pub got_run : (p : Plot) (j : Job) (c : Chan) (bytes : List ℕ) (now : List Entry) → IsGotFor p j c bytes now → IsGot p j.number j.run c bytes now
got_run p j c bytes now g = record { conn = g.conn; room = g.room; past = g.past; is = g.is; at = g.at; stands = g.stands.runs g.running }

-- a turn of a job is one of its execution, behind one quiet entry more
pub turned_run : (p : Plot) (j : Job) (ms : ℕ) (entry : Entry) (now : List Entry) → is_quiet (facts p) entry ≡ true → IsTurnedFor p j ms now → IsTurned p j.number j.run ms (entry ∷ now)
turned_run p j ms entry now quiet t = record {
  unlooked = λ told stands. sym (t.unlooked.runs t.running told stands);
  past = t.past;
  stands = t.stands.runs t.running;
  taken = t.taken;
  rises = t.rises;
  since = more t.since (quiet_kind (facts p) entry now quiet);
}

-- no stream is broken by it, and by calls that bring no byte
pub turned_whole : (p : Plot) (j : Job) (ms : ℕ) (entry : Entry) (before mid after : List Entry) → is_quiet (facts p) entry ≡ true → mid ≡ entry ∷ before
    → ((c : Chan) → bytes_got (facts p) c after ≡ bytes_got (facts p) c mid) → IsTurnedFor p j ms before → IsWhole (facts p) after
turned_whole p j ms entry before mid after quiet is same t =
    whole_same (facts p) t.past after
    (λ c.
    same c
    ∙ ap (bytes_got (facts p) c) is
    ∙ bytes_on (facts p) (made.Moment ms ∷ t.past) (entry ∷ before) (more t.since (quiet_kind (facts p) entry before quiet)) c) (t.stands.whole t.running)

-- a piece that leaves its own stream whole breaks none
pub got_whole : (p : Plot) (j : Job) (c : Chan) (bytes : List ℕ) (before after : List Entry) → ((d : Chan) → bytes_got (facts p) d after ≡ bytes_got (facts p) d before)
    → (is_some (fault_on (facts p) after c) ≡ true → ⊥) → IsGotFor p j c bytes before → IsWhole (facts p) after
got_whole p j c bytes before after same intact g =
    whole_there (facts p) c g.past after (g.stands.whole g.running)
    (λ d. elim (got_on_one (facts p) c d g.conn g.room bytes g.past g.at) [
      | inl at ↦ inl at
      | inr away ↦ inr (same d ∙ ap (bytes_got (facts p) d) g.is ∙ away)
    ]) (false_from_ne_true (is_some (fault_on (facts p) after c)) intact)

-- ---- the clock, after its begin

told_clock : (p : Plot) (number : ℕ) (x y : Execution) (ms : ℕ) (now : List Entry) → y ≡ record x { clock = y.clock } → (x.clock ≤ ms → y.clock ≡ ms) → time now ≡ ms → StandsUntold p number x now
    → Stands p number y now
told_clock p number x y ms now rest turns at u =
    let clock : y.clock ≡ time now = turns (subst (λ n. x.clock ≤ n) at u.earlier) ∙ sym at in
    let is : y ≡ record x { clock = time now } = rest ∙ ap (λ (n : ℕ). record x { clock = n }) clock in
    subst (λ (v : Execution). Stands p number v now) (sym is) u.stands

-- a job was told the moment of the last clock entry
pub job_clocked : (p : Plot) (was now : Job) (ms : ℕ) (journal : List Entry) → now.number ≡ was.number → now.paths.output ≡ was.paths.output → now.outcome ≡ was.outcome → now.run ≡ record was.run { clock = now.run.clock }
    → (was.run.clock ≤ ms → now.run.clock ≡ ms) → time journal ≡ ms → JobStandsUntold p was journal → JobStands p now journal
job_clocked p was now ms journal number output outcome rest turns at s = record {
  number_is = number ∙ s.number_is;
  output_is = output ∙ s.output_is;
  undated = s.undated;
  runs = λ e.
      subst (λ n. Stands p n now.run journal) (sym number)
      (told_clock p was.number was.run now.run ms journal rest turns at (s.runs (ap (λ (a : Option Answer). is_some a) (sym outcome) ∙ e)));
  whole = λ e. s.whole (ap (λ (a : Option Answer). is_some a) (sym outcome) ∙ e);
  ended = λ a is. s.ended a (sym outcome ∙ is);
}
