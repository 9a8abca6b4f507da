-- What calls leave of what one job of a run stands for by the journal, and of the loop.
use Rattle.std.proofs.Common.{◌≡◌, ◌≤◌, ◌⊎◌, inl, inr, ℕ, Bool, true, List, set, Option, Some, refl, sym, ◌∙◌, ap, subst}
use Rattle.std.specs.Prelude.{slice_get}
use Rattle.std.proofs.lemmas.Bool.{cases_eq, false≢true}
use Rattle.std.proofs.lemmas.Option.{slice_get_within, same_Some}
use Rattle.words.specs.declared.ask.Ask.{Ask}
use Rattle.nb_model.specs.declared.notebook.Notebook.{Notebook}
use Rattle.world.specs.declared.entry.Entry.{Entry}
use Rattle.world.specs.Moments.{Since}
use Rattle.world.specs.Parts.{IsNotOf, OnClock}
use Rattle.world.specs.Places.{time}
use Rattle.save_course.specs.Course.{IsRested}
use Rattle.job_end.specs.declared.answer.Answer.{Answer}
use Rattle.job_saves.specs.Calls.{Cast, IsCall}
use Rattle.run_journal.specs.Job.{Job as Facts}
use Rattle.job_journal.specs.Quiet.{IsQuietNow}
use Rattle.job_run.specs.declared.job.Job.{Job}
use Rattle.job_run.specs.Run.{IsOther}
use Rattle.ready_loop.specs.declared.readiness.Loop.{Loop}
use Rattle.ready_loop.specs.Offers.{Extends}
use Rattle.job_turns.specs.OwedTo.{OwedTo}
use Rattle.job_turns.specs.OwedTo.{may_wait as waits_for}
use Rattle.job_turns.specs.OwedTo as to
use Rattle.other_jobs.proofs.Calling.{loop_stands}
use Rattle.other_jobs.proofs.Refusals.{calls_unread}
use Rattle.batch_run.specs.declared.slot.Slot.{Slot}
use Rattle.batch_run.specs.declared.slot.Slot.TheVariants.{Waiting, Running, Ended}
use Rattle.batch_run.specs.Owed.{Owed, AreClosed, AreServed, IsListening, Served, SlotFollows, StaysFresh, has_lines}
use Rattle.batch_run.specs.Owed.{none, begins, first_clock, turn_clock, piece, unknown}
use Rattle.batch_run.specs.Stands.{Outset, is_slot_running}
use Rattle.batch_run.proofs.CallLemmas.{sole}
use Rattle.batch_run.proofs.FollowLemmas.{follows_anything, follows_first, follows_others, follows_quiet, fresh_others, fresh_quiet, sole_elsewhere}
use Rattle.jtext.proofs.Lists.{slice_get-set_same, slice_get-set_other}

-- ---- one job

-- to a job of this number this was still to be told before calls, and that is after them
pub record OnePass (o r : OwedTo) (i : ℕ) (a : Ask) (before x y : List Entry) (slot : Slot) : Type 0 where
  pub fresh : slot ≡ Waiting → StaysFresh o i a before x → StaysFresh r i a before y
  pub follows : (n : Notebook) → Extends x y → SlotFollows o i a n slot before x → SlotFollows r i a n slot before y

-- by entries that are quiet for it
pub one_quiet : (o : OwedTo) (i : ℕ) (a : Ask) (before x y : List Entry) (slot : Slot) → waits_for o ≡ true → ((f : Facts) → f.number ≡ i → Since (IsQuietNow f) x y) → OnePass o o i a before x y slot
one_quiet o i a before x y slot e quiet = record {
  fresh = λ f h. fresh_quiet o i a before x y quiet h;
  follows = λ n grown h. follows_quiet o i a n slot before x y grown e quiet h;
}

-- by calls of another job that read no clock
pub one_others : (o : OwedTo) (i : ℕ) (a : Ask) (k : ℕ) (b : Ask) (here : List ℕ) (clean : Bool) (before x y : List Entry) (slot : Slot) → waits_for o ≡ true → IsOther b.output a.output
    → Since (IsCall (sole k b here true clean)) x y → Since (IsNotOf OnClock) x y → IsRested a.output x → OnePass o o i a before x y slot
one_others o i a k b here clean before x y slot e other calls off rested =
    let elsewhere = sole_elsewhere k b here true clean a.output other in
    record {
      fresh = λ f h. fresh_others i a (sole k b here true clean) elsewhere before x y calls o h;
      follows = λ n grown h. follows_others i a (sole k b here true clean) elsewhere before x y calls n slot rested grown o e off h;
    }

-- by those of a job that begins
pub one_first : (i : ℕ) (a : Ask) (k : ℕ) (b : Ask) (here : List ℕ) (clean : Bool) (before x y : List Entry) (slot : Slot) → IsOther b.output a.output
    → Since (IsCall (sole k b here true clean)) x y → time x ≤ time y → IsRested a.output x → OnePass to.first_clock to.first_clock i a before x y slot
one_first i a k b here clean before x y slot other calls rises rested =
    let elsewhere = sole_elsewhere k b here true clean a.output other in
    record {
      fresh = λ f h. fresh_others i a (sole k b here true clean) elsewhere before x y calls to.first_clock h;
      follows = λ n grown h. follows_first i a (sole k b here true clean) elsewhere before x y calls n slot rested grown rises h;
    }

pub one_stays : (o r : OwedTo) (i : ℕ) (a : Ask) (before x y : List Entry) (slot : Slot) → r ≡ o → x ≡ y → OnePass o r i a before x y slot
one_stays o r i a before x y slot same e =
    let at_x : OnePass o o i a before x x slot = record { fresh = λ f h. h; follows = λ n grown h. h } in
    let at_y : OnePass o o i a before x y slot = subst (λ z. OnePass o o i a before x z slot) e at_x in
    subst (λ s. OnePass o s i a before x y slot) (sym same) at_y

pub one_unknown : (o : OwedTo) (i : ℕ) (a : Ask) (before x y : List Entry) (slot : Slot) → OnePass o to.anything i a before x y slot
one_unknown o i a before x y slot = record { fresh = λ e h. tt; follows = λ n grown h. follows_anything o i a n slot slot before x y grown h }

-- what is still to be told, by another name
pub one_as : (o r s : OwedTo) (i : ℕ) (a : Ask) (before x y : List Entry) (slot : Slot) → s ≡ r → OnePass o r i a before x y slot → OnePass o s i a before x y slot
one_as o r s i a before x y slot same h = subst (λ t. OnePass o t i a before x y slot) (sym same) h

-- ---- a job is told something

-- What one job's slot becomes fits what is still to be told, and its connections.
pub record Tells (from : Outset) (rest : Owed) (k : ℕ) (was next : Slot) : Type 0 where
  pub known : from.owed ≡ unknown → rest ≡ unknown
  pub lines : (i : ℕ) → has_lines rest i ≡ true → has_lines from.owed i ≡ true
  pub runs : (j : Job) → next ≡ Running j → has_lines rest k ≡ true → is_slot_running (Some was) ≡ true
  pub closed : (answer : Answer) → next ≡ Ended answer → AreClosed from.loop k

-- something is known, or not
pub served_split : (asks : ℕ → Option Ask) (o : Owed) (l : Loop) (slots : List Slot) (x : List Entry) → Served asks o l slots x → (o ≡ unknown) ⊎ AreServed asks o l slots x
served_split asks none l slots x s = inr s
served_split asks (begins n) l slots x s = inr s
served_split asks (first_clock n) l slots x s = inr s
served_split asks (turn_clock ms n) l slots x s = inr s
served_split asks (piece conn bytes) l slots x s = inr s
served_split asks unknown l slots x s = inl refl

pub served_made : (asks : ℕ → Option Ask) (o : Owed) (l : Loop) (slots : List Slot) (x : List Entry) → AreServed asks o l slots x → Served asks o l slots x
served_made asks none l slots x s = s
served_made asks (begins n) l slots x s = s
served_made asks (first_clock n) l slots x s = s
served_made asks (turn_clock ms n) l slots x s = s
served_made asks (piece conn bytes) l slots x s = s
served_made asks unknown l slots x s = tt

running_one : (s : Slot) → is_slot_running (Some s) ≡ true → (j : Job) × (s ≡ Running j)
running_one (Running j) e = (j, refl)
running_one Waiting e = absurd (false≢true e)
running_one (Ended answer) e = absurd (false≢true e)

-- the calls of a job leave the loop alone
pub served_moves : (asks : ℕ → Option Ask) (from : Outset) (rest : Owed) (slots : List Slot) (k : ℕ) (was next : Slot) (c : Cast) (x y : List Entry) → slice_get slots k ≡ Some was
    → Tells from rest k was next → Since (IsCall c) x y → Served asks from.owed from.loop slots x → Served asks rest from.loop (set slots k next) y
served_moves asks from rest slots k was next c x y found tells calls s = elim (served_split asks from.owed from.loop slots x s) [
  | inl e ↦ subst (λ o. Served asks o from.loop (set slots k next) y) (sym (tells.known e)) tt
  | inr a ↦ served_made asks rest from.loop (set slots k next) y (moved a)
]
  where
    here : (i : ℕ) (slot : Slot) → i ≡ k → slice_get (set slots k next) i ≡ Some slot → next ≡ slot
    here i slot e got = same_Some _ _ (sym (slice_get-set_same slots k next (slice_get_within slots k was found)) ∙ subst (λ m. slice_get (set slots k next) m ≡ Some slot) e got)

    moved : AreServed asks from.owed from.loop slots x → AreServed asks rest from.loop (set slots k next) y
    moved a = record {
      history = a.history;
      stands = loop_stands from.loop a.history c x y calls a.stands;
      unread = calls_unread c x y calls a.unread;
      listens = λ i j got lined. elim (cases_eq i k) [
        | inl e ↦
            let lined_k = subst (λ m. has_lines rest m ≡ true) e lined in
            let ran = running_one was (tells.runs j (here i (Running j) e got) lined_k) in
            subst (λ m. IsListening from.loop m) (sym e) (a.listens k ran.0 (found ∙ ap Some ran.1) (tells.lines k lined_k))
        | inr ne ↦ a.listens i j (sym (slice_get-set_other slots k i next ne) ∙ got) (tells.lines i lined)
      ];
      closed = λ i b answer at got. elim (cases_eq i k) [
        | inl e ↦ subst (λ m. AreClosed from.loop m) (sym e) (tells.closed answer (here i (Ended answer) e got))
        | inr ne ↦ a.closed i b answer at (sym (slice_get-set_other slots k i next ne) ∙ got)
      ];
    }
