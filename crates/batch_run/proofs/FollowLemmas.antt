-- How the jobs in the slots of a run go on standing for the journal, where all connections were shut before it.
use Rattle.std.proofs.Common.{◌≡◌, ◌≢◌, inl, inr, ◌∷◌, ◌++◌, append_assoc, ◌<◌, ◌≤◌, ◌==◌, ℕ, zero, suc, Bool, true, false, List, [], length, set, Option, Some, Ok, Err, refl, sym, ◌∙◌, ap, subst, arith}
use Rattle.std.specs.Prelude.{not, if◌then◌else◌, is_some, slice_get}
use Rattle.std.proofs.lemmas.Bool.{cases_eq, false≢true, ne_eqb, eq-eqb}
use Rattle.std.proofs.lemmas.Option.{same_Some}
use Rattle.jtext.proofs.Lists.{slice_get-set_same, slice_get-set_other}
use Rattle.std.specs.Str.{bytes_eq}
use Rattle.nb_model.specs.declared.notebook.Notebook.{Notebook}
use Rattle.words.specs.declared.ask.Ask.{Ask}
use Rattle.world.specs.declared.chan.Chan.TheVariants.{Iopub}
use Rattle.world.specs.declared.conn.Conn.{Conn}
use Rattle.world.specs.declared.entry.Entry.{Entry}
use Rattle.world.specs.declared.entry.Entry.TheVariants as made
use Rattle.world.specs.Counts.{Counts}
use Rattle.world.specs.Moments.{Since, start}
use Rattle.world.specs.Parts.{IsNotOf, OnClock}
use Rattle.world.specs.Places.{place_of, time}
use Rattle.save_course.specs.Course.{IsRested}
use Rattle.cell_core.specs.Task.{Task}
use Rattle.kernel_lines.specs.Line.{taken_of}
use Rattle.run_journal.specs.Job.{Job as Facts}
use Rattle.job_journal.specs.Plot.{Plot, facts}
use Rattle.job_journal.specs.Quiet.{IsQuietNow, is_unread}
use Rattle.job_end.specs.declared.answer.Answer.{Answer}
use Rattle.job_saves.specs.Calls.{Cast, IsCall}
use Rattle.job_run.proofs.SpeakLemmas.{session_since}
use Rattle.job_run.specs.declared.job.Job.{Job}
use Rattle.job_run.specs.Beginning.{IsFresh, IsSessionOf}
use Rattle.job_run.specs.Due.{WantsLook}
use Rattle.job_run.specs.JobStanding.{JobStands, JobStandsUntold, KeepsStanding}
use Rattle.job_run.specs.Queues.{line_of}
use Rattle.job_run.specs.Run.{IsOther, outcome_of}
use Rattle.job_begin.specs.Begun.{origin_of}
use Rattle.job_begin.specs.Standing.{IsPlotWith, BeginsFollowing, BeginsSpeaking}
use Rattle.ready_loop.specs.declared.readiness.Loop.{Loop}
use Rattle.ready_loop.specs.Offers.{Extends}
use Rattle.ready_loop.specs.History.{History, conn_on}
use Rattle.ready_loop.specs.Standing.{StandsFor, put_at}
use Rattle.other_jobs.specs.Elsewhere.{SavesElsewhere}
use Rattle.other_jobs.specs.Reads.{BringsBytes}
use Rattle.other_jobs.specs.Turns.{BringsMoment}
use Rattle.other_jobs.proofs.Calling.{loop_stands}
use Rattle.other_jobs.proofs.Firsts.{unread_calls}
use Rattle.other_jobs.proofs.Puts.{taken_is_put}
use Rattle.other_jobs.proofs.Refusals.{calls_unread}
use Rattle.job_turns.specs.OwedTo.{IsLeftWith, OwedTo, StandsEnded, StandsOwed, is_open}
use Rattle.job_turns.specs.OwedTo.{may_wait as waits_for}
use Rattle.job_turns.specs.OwedTo as to
use Rattle.job_turns.proofs.TellLemmas.{owed_changes, owed_ended, owed_first}
use Rattle.job_turns.proofs.TurnLemmas.{read_owed, turn_ended, turn_owed}
use Rattle.job_turns.proofs.WaitLemmas.{ended_waits, ended_waits_for, first_waits_for, fresh_waits, fresh_waits_for, owed_waits, owed_waits_for}
use Rattle.batch_run.specs.declared.slot.Slot.{Slot}
use Rattle.batch_run.specs.declared.slot.Slot.TheVariants.{Waiting, Running, Ended}
use Rattle.batch_run.specs.Owed.{Owed, AreClosed, AreServed, EndedOwed, Follows, in_any, in_session, IsListening, Served, SlotFollows, SlotOwes, StaysFresh, has_lines, is_from, may_wait, owed_to}
use Rattle.batch_run.specs.Owed.{none, begins, first_clock, turn_clock, piece, unknown}
use Rattle.batch_run.specs.Stands.{SlotRuns}
use Rattle.batch_run.proofs.CallLemmas.{sole, sole_at}
use Rattle.batch_run.proofs.JournalLemmas.{extension}

-- ---- numbers

pub from_same : (n : ℕ) → is_from n n ≡ true
from_same zero = refl
from_same (suc n) = from_same n

pub from_next : (n : ℕ) → is_from (suc n) n ≡ false
from_next zero = refl
from_next (suc n) = from_next n

pub from_other : (n i : ℕ) → i ≢ n → is_from (suc n) i ≡ is_from n i
from_other zero zero ne = absurd (ne refl)
from_other zero (suc i) ne = refl
from_other (suc n) zero ne = refl
from_other (suc n) (suc i) ne = from_other n i (λ e. ne (ap suc e))

pub from_past : (n i : ℕ) → i < n → is_from n i ≡ false
from_past zero i low = absurd (omega (arith, low))
from_past (suc n) zero low = refl
from_past (suc n) (suc i) low = from_past n i (omega (arith, low))

-- ---- what is owed to one job

-- of two, by a test
chosen : (b x : Bool) (o m : OwedTo) → b ≡ x → (if b then o else m) ≡ (if x then o else m)
chosen b x o m e = ap (λ (y : Bool). if y then o else m) e

pub clock_own : (ms n : ℕ) → owed_to (turn_clock ms n) n ≡ to.clock ms
clock_own ms n = chosen (is_from n n) true (to.clock ms) to.nothing (from_same n)

pub clock_told : (ms n : ℕ) → owed_to (turn_clock ms (suc n)) n ≡ to.nothing
clock_told ms n = chosen (is_from (suc n) n) false (to.clock ms) to.nothing (from_next n)

pub clock_other : (ms n i : ℕ) → i ≢ n → owed_to (turn_clock ms (suc n)) i ≡ owed_to (turn_clock ms n) i
clock_other ms n i ne = chosen (is_from (suc n) i) (is_from n i) (to.clock ms) to.nothing (from_other n i ne)

pub clock_past : (ms n i : ℕ) → i < n → owed_to (turn_clock ms n) i ≡ to.nothing
clock_past ms n i low = chosen (is_from n i) false (to.clock ms) to.nothing (from_past n i low)

pub first_own : (n : ℕ) → owed_to (first_clock n) n ≡ to.first_clock
first_own n = chosen (is_from n n) true to.first_clock to.nothing (from_same n)

pub first_told : (n : ℕ) → owed_to (first_clock (suc n)) n ≡ to.nothing
first_told n = chosen (is_from (suc n) n) false to.first_clock to.nothing (from_next n)

pub first_other : (n i : ℕ) → i ≢ n → owed_to (first_clock (suc n)) i ≡ owed_to (first_clock n) i
first_other n i ne = chosen (is_from (suc n) i) (is_from n i) to.first_clock to.nothing (from_other n i ne)

pub first_past : (n i : ℕ) → i < n → owed_to (first_clock n) i ≡ to.nothing
first_past n i low = chosen (is_from n i) false to.first_clock to.nothing (from_past n i low)

pub piece_own : (conn : Conn) (bytes : List ℕ) (i : ℕ) → conn.job ≡ i → owed_to (piece conn bytes) i ≡ to.piece conn.chan bytes
piece_own conn bytes i e = chosen (conn.job == i) true (to.piece conn.chan bytes) to.nothing (eq-eqb conn.job i e)

pub piece_other : (conn : Conn) (bytes : List ℕ) (i : ℕ) → conn.job ≢ i → owed_to (piece conn bytes) i ≡ to.nothing
piece_other conn bytes i ne = chosen (conn.job == i) false (to.piece conn.chan bytes) to.nothing (ne_eqb conn.job i ne)

one_waits : (b : Bool) (o m : OwedTo) → waits_for o ≡ true → waits_for m ≡ true → waits_for (if b then o else m) ≡ true
one_waits true o m e f = e
one_waits false o m e f = f

-- each job may wait where the run may
pub waits_each : (o : Owed) (i : ℕ) → may_wait o ≡ true → waits_for (owed_to o i) ≡ true
waits_each none i e = refl
waits_each (begins n) i e = refl
waits_each (first_clock n) i e = one_waits (is_from n i) to.first_clock to.nothing refl refl
waits_each (turn_clock ms n) i e = one_waits (is_from n i) (to.clock ms) to.nothing refl refl
waits_each (piece conn bytes) i e = absurd (false≢true e)
waits_each unknown i e = refl

-- of jobs whose connections were all begun
pub lines_all : (n i : ℕ) → i < n → has_lines (begins n) i ≡ true
lines_all n i low = ap not (from_past n i low)

-- ---- one slot

-- the session of a job stays the one that was drawn for it
session_on : (i : ℕ) (output session key : List ℕ) (before past after : List Entry) → Extends past after → IsSessionOf i output session key before past
    → IsSessionOf i output session key before after
session_on i output session key before past after grown s =
    let more = extension grown in
    record {
      pairs = s.pairs;
      session_is = s.session_is;
      key_is = s.key_is;
      asked = s.asked;
      drawn = s.drawn;
      earlier = s.earlier;
      since = s.since;
      ports = s.ports;
      later = more.0 ++ s.later;
      split = more.1 ∙ ap (λ (j : List Entry). more.0 ++ j) s.split ∙ sym (append_assoc more.0 s.later (made.Ports i (Some s.ports) ∷ s.asked));
    }

-- what stands of each plot of a job goes on so
pub follows_on : (i : ℕ) (a : Ask) (n : Notebook) (before past after : List Entry) (stands next : Plot → Type 0) → Extends past after
    → ((p : Plot) → IsPlotWith p i a n → IsFresh p before → stands p → next p) → Follows i a n before past stands → Follows i a n before after next
follows_on i a n before past after stands next grown go (in_session session key is each) =
    in_session session key (session_on i a.output session key before past after grown is) (λ p plot fresh s k. go p plot fresh (each p plot fresh s k))
follows_on i a n before past after stands next grown go (in_any each) = in_any (λ p plot fresh. go p plot fresh (each p plot fresh))

-- so does what a slot stands for
pub follows_as : (o m : OwedTo) (i : ℕ) (a : Ask) (n : Notebook) (slot next : Slot) (before past after : List Entry) → Extends past after
    → ((p : Plot) → IsPlotWith p i a n → IsFresh p before → SlotOwes o p slot past → SlotOwes m p next after) → SlotFollows o i a n slot before past → SlotFollows m i a n next before after
follows_as o m i a n slot next before past after grown go h = follows_on i a n before past after (λ p. SlotOwes o p slot past) (λ p. SlotOwes m p next after) grown go h

-- a job that has ended, whatever is owed to it
pub ended_owed : (o : OwedTo) (p : Plot) (answer : Answer) (now : List Entry) → StandsEnded p answer now → EndedOwed o p answer now
ended_owed to.nothing p answer now e = e
ended_owed to.first_clock p answer now e = e
ended_owed (to.clock ms) p answer now e = e
ended_owed (to.piece c bytes) p answer now e = e
ended_owed to.anything p answer now e = tt

pub ended_on : (o : OwedTo) (p : Plot) (answer : Answer) (past after : List Entry) → (StandsEnded p answer past → StandsEnded p answer after) → EndedOwed o p answer past
    → EndedOwed o p answer after
ended_on to.nothing p answer past after go e = go e
ended_on to.first_clock p answer past after go e = go e
ended_on (to.clock ms) p answer past after go e = go e
ended_on (to.piece c bytes) p answer past after go e = go e
ended_on to.anything p answer past after go e = tt

-- what is stood for of a slot of which nothing is known
pub owes_anything : (p : Plot) (slot : Slot) (now : List Entry) → SlotOwes to.anything p slot now
owes_anything p Waiting now = tt
owes_anything p (Running j) now = tt
owes_anything p (Ended answer) now = tt

pub follows_anything : (o : OwedTo) (i : ℕ) (a : Ask) (n : Notebook) (slot next : Slot) (before past after : List Entry) → Extends past after → SlotFollows o i a n slot before past
    → SlotFollows to.anything i a n next before after
follows_anything o i a n slot next before past after grown h = follows_as o to.anything i a n slot next before past after grown (λ p plot fresh s. owes_anything p next after) h

-- what goes on of a job that hasn't begun
pub fresh_as : (o : OwedTo) (i : ℕ) (a : Ask) (before past after : List Entry) → ((p : Plot) → i ≡ p.setting.number → p.ask ≡ a → IsFresh p past → IsFresh p after)
    → StaysFresh o i a before past → StaysFresh o i a before after
fresh_as to.nothing i a before past after go h = tt
fresh_as to.first_clock i a before past after go h = λ p number ask fresh. go p number ask (h p number ask fresh)
fresh_as (to.clock ms) i a before past after go h = tt
fresh_as (to.piece c bytes) i a before past after go h = tt
fresh_as to.anything i a before past after go h = tt

pub fresh_start : (o : OwedTo) (i : ℕ) (a : Ask) (before : List Entry) → StaysFresh o i a before before
fresh_start to.nothing i a before = tt
fresh_start to.first_clock i a before = λ p number ask fresh. fresh
fresh_start (to.clock ms) i a before = tt
fresh_start (to.piece c bytes) i a before = tt
fresh_start to.anything i a before = tt

-- ---- entries that are quiet for the job

pub owes_quiet : (o : OwedTo) (p : Plot) (slot : Slot) (past after : List Entry) → waits_for o ≡ true → Since (IsQuietNow (facts p)) past after → SlotOwes o p slot past
    → SlotOwes o p slot after
owes_quiet o p Waiting past after e quiet s = tt
owes_quiet o p (Running j) past after e quiet s = owed_waits o p j past after e quiet s
owes_quiet o p (Ended answer) past after e quiet s = ended_on o p answer past after (ended_waits p answer past after quiet) s

pub follows_quiet : (o : OwedTo) (i : ℕ) (a : Ask) (n : Notebook) (slot : Slot) (before past after : List Entry) → Extends past after → waits_for o ≡ true
    → ((f : Facts) → f.number ≡ i → Since (IsQuietNow f) past after) → SlotFollows o i a n slot before past → SlotFollows o i a n slot before after
follows_quiet o i a n slot before past after grown e quiet h =
    follows_as o o i a n slot slot before past after grown (λ p plot fresh s. owes_quiet o p slot past after e (quiet (facts p) (sym plot.number_is)) s) h

pub fresh_quiet : (o : OwedTo) (i : ℕ) (a : Ask) (before past after : List Entry) → ((f : Facts) → f.number ≡ i → Since (IsQuietNow f) past after)
    → StaysFresh o i a before past → StaysFresh o i a before after
fresh_quiet o i a before past after quiet h = fresh_as o i a before past after (λ p number ask fresh. fresh_waits p past after (quiet (facts p) (sym number)) fresh) h

-- ---- connects of jobs that begin: they are quiet for the job, once nothing was got for it

unread_slot : (p : Plot) (slot : Slot) (past : List Entry) → ((answer : Answer) → slot ≡ Ended answer → ⊥) → IsFresh p past → SlotOwes to.first_clock p slot past → is_unread (facts p) past ≡ true
unread_slot p Waiting past runs fresh s = fresh.unread
unread_slot p (Running j) past runs fresh s = s.unread
unread_slot p (Ended answer) past runs fresh s = absurd (runs answer refl)

-- a job that runs, and is still to be told its first clock
pub follows_connects : (i job : ℕ) (a : Ask) (n : Notebook) (j : Job) (before past after : List Entry) → Extends past after
    → ((f : Facts) → f.number ≡ i → (job ≡ f.number → is_unread f past ≡ true) → Since (IsQuietNow f) past after)
    → SlotFollows to.first_clock i a n (Running j) before past → SlotFollows to.first_clock i a n (Running j) before after
follows_connects i job a n j before past after grown quiet h =
    follows_as to.first_clock to.first_clock i a n (Running j) (Running j) before past after grown
    (λ p plot fresh s. owed_waits to.first_clock p j past after refl (quiet (facts p) (sym plot.number_is) (λ e. s.unread)) s) h

-- one that hasn't begun
pub fresh_connects : (i job : ℕ) (a : Ask) (before past after : List Entry)
    → ((f : Facts) → f.number ≡ i → (job ≡ f.number → is_unread f past ≡ true) → Since (IsQuietNow f) past after)
    → StaysFresh to.first_clock i a before past → StaysFresh to.first_clock i a before after
fresh_connects i job a before past after quiet h =
    fresh_as to.first_clock i a before past after (λ p number ask fresh. fresh_waits p past after (quiet (facts p) (sym number) (λ e. fresh.unread)) fresh) h

-- ---- calls of others

-- the job of a slot that has begun leaves no rename onto its output waiting
pub slot_rested : (a : Ask) (n : Notebook) (begin : List Entry) (grown : Counts) (task : Option Task) (slot : Slot) (past : List Entry) (c : Counts)
    → SlotRuns (origin_of a n begin grown) task slot (Some past) c → IsRested a.output past
slot_rested a n begin grown task Waiting past c r = absurd r
slot_rested a n begin grown task (Running j) past c r = (r.stands.told refl).is.rested
slot_rested a n begin grown task (Ended answer) past c r = (r.ends.told refl).is.rested

-- one job alone saves elsewhere
pub sole_elsewhere : (k : ℕ) (b : Ask) (here : List ℕ) (starts clean : Bool) (output : List ℕ) → IsOther b.output output → SavesElsewhere (sole k b here starts clean) output
sole_elsewhere k b here starts clean output other = record {
  each = λ number x has. subst (λ (y : Ask). bytes_eq y.output output ≡ false) (sole_at number k b x has).1 other.output_is;
}

output_of_plot : (p : Plot) (i : ℕ) (a : Ask) (n : Notebook) → IsPlotWith p i a n → a.output ≡ (facts p).output
output_of_plot p i a n plot = sym (ap (λ (x : Ask). x.output) plot.ask_is)

module _ (i : ℕ) (a : Ask) (c : Cast) (elsewhere : SavesElsewhere c a.output) (before past after : List Entry) (calls : Since (IsCall c) past after) where
  pub fresh_others : (o : OwedTo) → StaysFresh o i a before past → StaysFresh o i a before after
  fresh_others o h = fresh_as o i a before past after
      (λ p number ask fresh. fresh_waits_for p c past after (subst (SavesElsewhere c) (sym (ap (λ (x : Ask). x.output) ask)) elsewhere) calls fresh) h

  module _ (n : Notebook) (slot : Slot) (rested : IsRested a.output past) (grown : Extends past after) where
    own_elsewhere : (p : Plot) → IsPlotWith p i a n → SavesElsewhere c (facts p).output
    own_elsewhere p plot = subst (SavesElsewhere c) (output_of_plot p i a n plot) elsewhere

    own_rested : (p : Plot) → IsPlotWith p i a n → IsRested (facts p).output past
    own_rested p plot = subst (λ (path : List ℕ). IsRested path past) (output_of_plot p i a n plot) rested

    owes_others : (o : OwedTo) (p : Plot) (slot : Slot) → IsPlotWith p i a n → waits_for o ≡ true → Since (IsNotOf OnClock) past after → SlotOwes o p slot past → SlotOwes o p slot after
    owes_others o p Waiting plot e off s = tt
    owes_others o p (Running j) plot e off s = owed_waits_for o p j c past after (own_elsewhere p plot) calls (own_rested p plot) e off s
    owes_others o p (Ended answer) plot e off s = ended_on o p answer past after (ended_waits_for p answer c past after (own_elsewhere p plot) calls (own_rested p plot)) s

    -- none of the clock
    pub follows_others : (o : OwedTo) → waits_for o ≡ true → Since (IsNotOf OnClock) past after → SlotFollows o i a n slot before past → SlotFollows o i a n slot before after
    follows_others o e off h = follows_as o o i a n slot slot before past after grown (λ p plot fresh s. owes_others o p slot plot e off s) h

    owes_first : (p : Plot) (slot : Slot) → IsPlotWith p i a n → time past ≤ time after → SlotOwes to.first_clock p slot past → SlotOwes to.first_clock p slot after
    owes_first p Waiting plot rises s = tt
    owes_first p (Running j) plot rises s = first_waits_for p j c past after (own_elsewhere p plot) calls (own_rested p plot) rises s
    owes_first p (Ended answer) plot rises s = ended_waits_for p answer c past after (own_elsewhere p plot) calls (own_rested p plot) s

    -- while jobs begin they may read the clock
    pub follows_first : time past ≤ time after → SlotFollows to.first_clock i a n slot before past → SlotFollows to.first_clock i a n slot before after
    follows_first rises h = follows_as to.first_clock to.first_clock i a n slot slot before past after grown (λ p plot fresh s. owes_first p slot plot rises s) h

-- ---- a job that begins

-- it runs, and is still to be told its first clock
pub follows_begun : (i : ℕ) (a : Ask) (n : Notebook) (j : Job) (c : Cast) (before past after : List Entry) → Extends before past → Since (IsCall c) past after
    → StaysFresh to.first_clock i a before past → BeginsSpeaking {E = Answer} i a.output (Ok j) past after → BeginsFollowing i a n (Ok j) past after
    → SlotFollows to.first_clock i a n (Running j) before after
follows_begun i a n j c before past after grown calls fresh speaks began =
    in_session j.run.session.name j.run.session.key
    (session_since i a.output j.run.session.name j.run.session.key before past after (extension grown).0 (extension grown).1 speaks)
    (λ p plot new session key.
    let now = fresh p plot.number_is plot.ask_is new in
    owed_first p j after (began p plot now (record { session_is = sym session; key_is = sym key })) (unread_calls (facts p) c past after calls ∙ now.unread))

-- its begin has ended it
pub follows_not_begun : (i : ℕ) (a : Ask) (n : Notebook) (answer : Answer) (before past after : List Entry) → StaysFresh to.first_clock i a before past
    → BeginsFollowing i a n (Err answer) past after → SlotFollows to.first_clock i a n (Ended answer) before after
follows_not_begun i a n answer before past after fresh began =
    in_any
    (λ p plot new.
    let now = fresh p plot.number_is plot.ask_is new in
    record { undated = now.undated; answered = began p plot now })

-- ---- a job that is told something without a call, and one that ends

pub follows_changed : (o : OwedTo) (i : ℕ) (a : Ask) (n : Notebook) (was now : Job) (before past : List Entry) → is_open o ≡ true → KeepsStanding was now
    → SlotFollows o i a n (Running was) before past → SlotFollows o i a n (Running now) before past
follows_changed o i a n was now before past e keeps h =
    follows_as o o i a n (Running was) (Running now) before past past start (λ p plot fresh s. owed_changes o p was now past e keeps s) h

-- it is told its first clock
pub follows_clocked : (i : ℕ) (a : Ask) (n : Notebook) (was now : Job) (before past : List Entry) → ((p : Plot) → JobStandsUntold p was past → JobStands p now past)
    → SlotFollows to.first_clock i a n (Running was) before past → SlotFollows to.nothing i a n (Running now) before past
follows_clocked i a n was now before past told h =
    follows_as to.first_clock to.nothing i a n (Running was) (Running now) before past past start (λ p plot fresh s. told p s.untold) h

finished : (o : OwedTo) (p : Plot) (j : Job) (answer : Answer) (past after : List Entry) → waits_for o ≡ true → IsLeftWith j answer → Since (IsQuietNow (facts p)) past after
    → StandsOwed o p j past → EndedOwed o p answer after
finished to.nothing p j answer past after e left quiet s = ended_waits p answer past after quiet (owed_ended to.nothing p j answer past e (λ f. absurd (cc)) left s)
finished to.first_clock p j answer past after e left quiet s = ended_waits p answer past after quiet (owed_ended to.first_clock p j answer past e (λ f. absurd (cc)) left s)
finished (to.clock ms) p j answer past after e left quiet s = ended_waits p answer past after quiet (owed_ended (to.clock ms) p j answer past e (λ f. absurd (cc)) left s)
finished (to.piece c bytes) p j answer past after e left quiet s = absurd (false≢true e)
finished to.anything p j answer past after e left quiet s = tt

-- it ends by calls that are quiet for it
pub follows_finished : (o : OwedTo) (i : ℕ) (a : Ask) (n : Notebook) (j : Job) (answer : Answer) (before past after : List Entry) → Extends past after → waits_for o ≡ true
    → IsLeftWith j answer → ((f : Facts) → Since (IsQuietNow f) past after) → SlotFollows o i a n (Running j) before past → SlotFollows o i a n (Ended answer) before after
follows_finished o i a n j answer before past after grown e left quiet h =
    follows_as o o i a n (Running j) (Ended answer) before past after grown (λ p plot fresh s. finished o p j answer past after e left (quiet (facts p)) s) h

-- ---- a turn

module _ (ms i : ℕ) (a : Ask) (n : Notebook) (before past after : List Entry) (came : BringsMoment ms past after) (grown : Extends past after) where
  -- a job that runs wants no last look, and knows how many of its octets were put
  pub follows_turned_running : (j : Job) (l : Loop) (h : History) → time past ≤ ms → is_some (outcome_of j) ≡ false → WantsLook j false → StandsFor l h past → IsListening l i
      → taken_of (line_of j Iopub) ≡ length (put_at h past (place_of (conn_on i Iopub))) → SlotFollows to.nothing i a n (Running j) before past
      → SlotFollows (to.clock ms) i a n (Running j) before after
  follows_turned_running j l h rises runs unlooked stands listens taken s =
      follows_as to.nothing (to.clock ms) i a n (Running j) (Running j) before past after grown
      (λ p plot fresh w. turn_owed ms p j past after came rises runs unlooked
      (taken ∙ ap (λ (bytes : List ℕ). length bytes) (taken_is_put (facts p) l h past (conn_on i Iopub) stands listens plot.number_is)) w) s

  pub follows_turned_ended : (answer : Answer) → SlotFollows to.nothing i a n (Ended answer) before past → SlotFollows (to.clock ms) i a n (Ended answer) before after
  follows_turned_ended answer s =
      follows_as to.nothing (to.clock ms) i a n (Ended answer) (Ended answer) before past after grown (λ p plot fresh w. turn_ended ms p answer past after came w) s

  pub follows_turned_waiting : SlotFollows to.nothing i a n Waiting before past → SlotFollows (to.clock ms) i a n Waiting before after
  follows_turned_waiting s = follows_as to.nothing (to.clock ms) i a n Waiting Waiting before past after grown (λ p plot fresh w. tt) s

-- ---- a read that brings a piece

module _ (conn : Conn) (room : ℕ) (bytes : List ℕ) (i : ℕ) (a : Ask) (n : Notebook) (before past after : List Entry) (came : BringsBytes conn room bytes past after)
    (grown : Extends past after) where
  pub follows_read_own : (j : Job) → conn.job ≡ i → is_some (outcome_of j) ≡ false → SlotFollows to.nothing i a n (Running j) before past
      → SlotFollows (to.piece conn.chan bytes) i a n (Running j) before after
  follows_read_own j own runs s =
      follows_as to.nothing (to.piece conn.chan bytes) i a n (Running j) (Running j) before past after grown
      (λ p plot fresh w. read_owed conn room bytes p j past after came (own ∙ plot.number_is) runs w) s

  -- one that has ended, whose connections are closed
  pub follows_read_ended : (answer : Answer) → ((f : Facts) → f.number ≡ i → Since (IsQuietNow f) past after) → SlotFollows to.nothing i a n (Ended answer) before past
      → SlotFollows (to.piece conn.chan bytes) i a n (Ended answer) before after
  follows_read_ended answer quiet s =
      follows_as to.nothing (to.piece conn.chan bytes) i a n (Ended answer) (Ended answer) before past after grown
      (λ p plot fresh w. ended_waits p answer past after (quiet (facts p) (sym plot.number_is)) w) s

  pub follows_read_waiting : SlotFollows to.nothing i a n Waiting before past → SlotFollows (to.piece conn.chan bytes) i a n Waiting before after
  follows_read_waiting s = follows_as to.nothing (to.piece conn.chan bytes) i a n Waiting Waiting before past after grown (λ p plot fresh w. tt) s

  pub follows_read_other : (slot : Slot) → conn.job ≢ i → SlotFollows to.nothing i a n slot before past → SlotFollows to.nothing i a n slot before after
  follows_read_other slot other s =
      follows_quiet to.nothing i a n slot before past after grown refl (λ f own. came.others f (λ e. other (e ∙ own))) s

-- ---- the loop

-- where something is known, the loop goes on so
pub served_as : (asks : ℕ → Option Ask) (o : Owed) (l m : Loop) (slots next : List Slot) (past after : List Entry) → (AreServed asks o l slots past → AreServed asks o m next after)
    → Served asks o l slots past → Served asks o m next after
served_as asks none l m slots next past after go s = go s
served_as asks (begins n) l m slots next past after go s = go s
served_as asks (first_clock n) l m slots next past after go s = go s
served_as asks (turn_clock ms n) l m slots next past after go s = go s
served_as asks (piece conn bytes) l m slots next past after go s = go s
served_as asks unknown l m slots next past after go s = tt

-- calls of jobs leave it alone
pub served_calls : (asks : ℕ → Option Ask) (o : Owed) (l : Loop) (slots : List Slot) (c : Cast) (past after : List Entry) → Since (IsCall c) past after → AreServed asks o l slots past
    → AreServed asks o l slots after
served_calls asks o l slots c past after calls s = record {
  history = s.history;
  stands = loop_stands l s.history c past after calls s.stands;
  unread = calls_unread c past after calls s.unread;
  listens = s.listens;
  closed = s.closed;
}

-- a slot changes: a job that runs there has its connections, and those of one that has ended are closed
pub served_set : (asks : ℕ → Option Ask) (o : Owed) (l : Loop) (slots : List Slot) (past : List Entry) (k : ℕ) (next : Slot) → k < length slots
    → ((j : Job) → next ≡ Running j → has_lines o k ≡ true → IsListening l k) → ((answer : Answer) → next ≡ Ended answer → AreClosed l k)
    → AreServed asks o l slots past → AreServed asks o l (set slots k next) past
served_set asks o l slots past k next low listens closed s = record {
  history = s.history;
  stands = s.stands;
  unread = s.unread;
  listens = λ i j got has. elim (cases_eq i k) [
    | inl e ↦
        let at : slice_get (set slots k next) k ≡ Some (Running j) = subst (λ m. slice_get (set slots k next) m ≡ Some (Running j)) e got in
        subst (IsListening l) (sym e) (listens j (same_Some _ _ (sym (slice_get-set_same slots k next low) ∙ at)) (subst (λ m. has_lines o m ≡ true) e has))
    | inr ne ↦ s.listens i j (sym (slice_get-set_other slots k i next ne) ∙ got) has
  ];
  closed = λ i a answer asked got. elim (cases_eq i k) [
    | inl e ↦
        let at : slice_get (set slots k next) k ≡ Some (Ended answer) = subst (λ m. slice_get (set slots k next) m ≡ Some (Ended answer)) e got in
        subst (AreClosed l) (sym e) (closed answer (same_Some _ _ (sym (slice_get-set_same slots k next low) ∙ at)))
    | inr ne ↦ s.closed i a answer asked (sym (slice_get-set_other slots k i next ne) ∙ got)
  ];
}
