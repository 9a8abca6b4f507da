-- Where an acknowledged save is answered by another save or by the stop, no request comes to stand.
use Rattle.std.proofs.Common.{◌≡◌, ◌⊎◌, inl, inr, ℕ, suc, ◌+◌, ◌<◌, ◌≤◌, arith, Bool, true, false, List, [], ◌∷◌, length, map, Option, Some, None, refl, sym, ◌∙◌, ap, subst}
use Rattle.std.specs.Prelude.{if◌then◌else◌, nat_lt}
use Rattle.std.specs.Option.{ForSome}
use Rattle.std.proofs.Math.Bool.{true≢false}
use Rattle.std.proofs.lemmas.Bool.{and_left, and_right, cond-false, lt-ltb}
use Rattle.std.proofs.lemmas.List.{length-map}
use Rattle.std.proofs.lemmas.Option.{same_Some}
use Rattle.world.specs.declared.did.Did.TheVariants.{Done as DidIt}
use Rattle.world.specs.declared.entry.Entry.{Entry}
use Rattle.world.specs.declared.entry.Entry.TheVariants as made
use Rattle.world.specs.Disk as disk
use Rattle.world.specs.Save.{temporary_of}
use Rattle.save_disk.specs.Entries.{SaveOf}
use Rattle.progress_save.specs.Saved.{done}
use Rattle.cell_core.specs.declared.act.Act.{Act}
use Rattle.cell_core.specs.declared.act.Act.TheVariants.{Start, Save, Stop}
use Rattle.cell_core.specs.declared.clock.Clock.{Clock}
use Rattle.cell_core.specs.declared.event.Event.{Event}
use Rattle.cell_core.specs.declared.event.Event.TheVariants.{Saved}
use Rattle.cell_core.specs.declared.state.State.{State}
use Rattle.cell_core.specs.declared.state.State.TheVariants.{Preparing, Starting, Running, Passing, Closing, Failing, Stopped}
use Rattle.cell_core.specs.declared.why.Why.TheVariants.{Done}
use Rattle.cell_core.specs.Acts.{act_of, has_stopped, heard}
use Rattle.cell_core.specs.Holds.{awaits}
use Rattle.cell_core.specs.Moves.{move, on_passed, sends, stops}
use Rattle.cell_core.specs.Requests.{Standing, is_passed, standing}
use Rattle.cell_core.specs.StandsFor.{IsAt, awaits_saved_of, task_of}
use Rattle.cell_core.specs.Task.{Task, cell_of}
use Rattle.cell_core.proofs.Answering.{heard_all}
use Rattle.cell_core.proofs.Requests.{standing_is}
use Rattle.cell_core.proofs.Runs.{follows}
use Rattle.run_journal.specs.Arrivals.{is_ready}
use Rattle.run_journal.specs.Job.{Job}
use Rattle.run_journal.specs.Parts.{is_acknowledging, saves_of}
use Rattle.run_journal.specs.Requests.{Request as Asked, goes_on, is_last_passed, is_next, is_passed as passes_so, requests, used_of}
use Rattle.run_journal.proofs.Agreeing.{last_at, passed_agrees}
use Rattle.run_journal.proofs.Asking.{Stands, last, nothing, stands}
use Rattle.job_journal.specs.Plot.{Plot, facts}
use Rattle.job_journal.specs.Saved.{IsAsked, save_of}
use Rattle.job_journal.specs.Standing.{Parts, StandsBy}
use Rattle.job_journal.proofs.Acking.{is_now, none_more_now, same}
use Rattle.job_journal.proofs.Quiet.{requests_same}

-- ---- by the core

-- an act that saves or stops the job
abbrev pub is_final : Act → Bool
is_final (Save settled) = true
is_final (Stop cause) = true
is_final _ = false

abbrev last_at_core : ℕ → List Event → Standing
last_at_core k later = record { request = k; later = later }

-- The last request that stands is that of the end of the plan, or it isn't passed.
record IsLast (task : Task) (told : List Event) : Type 0 where
  request : ℕ
  later : List Event
  is : standing task told ≡ Some (last_at_core request later)
  ends : (request + 1 ≡ length task.plan) ⊎ (is_passed later ≡ false)

first_acts : (task : Task) → 0 < length task.plan
    → is_final (if nat_lt 0 (length task.plan) then move (Starting None) false Start else if nat_lt 0 task.cells then move Closing false (Save task.cells) else stops Done).step.act ≡ false
first_acts task some =
    ap (λ b. is_final (if b then move (Starting None) false Start else if nat_lt 0 task.cells then move Closing false (Save task.cells) else stops Done).step.act) (lt-ltb 0 (length task.plan) some)

passed_acts : (task : Task) (clock : Clock) (k : ℕ) → is_final (on_passed task clock k).step.act ≡ true → nat_lt (k + 1) (length task.plan) ≡ false
passed_acts task clock k = by (nat_lt (k + 1) (length task.plan))
  where
    by : (b : Bool)
        → is_final (if b then sends task clock (k + 1) else if nat_lt (cell_of task k + 1) task.cells then move Closing false (Save task.cells) else stops Done).step.act ≡ true
        → b ≡ false
    by true e = absurd (true≢false (sym e))
    by false e = refl

not_less : (a b : ℕ) → nat_lt a b ≡ false → b ≤ a
not_less a b e = grind (arith, e)

at_last : (k n : ℕ) → k < n → n ≤ k + 1 → k + 1 ≡ n
at_last k n a b = omega (arith, a, b)

last_by : (task : Task) (clock : Clock) (lost : Bool) (state : State) (told : List Event) → IsAt task clock lost state (heard task told) → awaits state ≡ true
    → has_stopped task (heard task told) ≡ false → ForSome task.times.limit_ms (λ limit. 0 < limit) → 0 < length task.plan → is_final (act_of task Saved told) ≡ true
    → IsLast task (heard task told)
last_by task clock lost Preparing told a w on later some e =
    absurd (true≢false (sym e ∙ ap is_final (sym (follows task clock lost Preparing Saved told a (sym w) tt later).act) ∙ first_acts task some))
last_by task clock lost (Starting due) told a w on later some e = absurd (true≢false (sym w))
last_by task clock lost (Running r) told a w on later some e = absurd (true≢false (sym w))
last_by task clock lost (Passing k) told a w on later some e =
    let stops_at : nat_lt (k + 1) (length task.plan) ≡ false
    = passed_acts task clock k (ap is_final (follows task clock lost (Passing k) Saved told a (sym w) tt later).act ∙ e) in
    record {
      request = k;
      later = a.later;
      is = standing_is a.stands;
      ends = inl (at_last k (length task.plan) a.stands.planned (not_less (k + 1) (length task.plan) stops_at));
    }
last_by task clock lost Closing told (inl a) w on later some e = let none = a.0 in absurd (omega (arith, some, none))
last_by task clock lost Closing told (inr (k, a)) w on later some e = record { request = k; later = a.later; is = standing_is a.stands; ends = inl a.last }
last_by task clock lost (Failing k cause) told a w on later some e = record { request = k; later = a.later; is = standing_is a.stands; ends = inr a.fails.not_passed }
last_by task clock lost (Stopped failing) told a w on later some e = absurd (true≢false (sym w))

-- ---- by the journal

-- the next request doesn't come to stand
not_next : (j : Job) (acks ready : Bool) (saves m : ℕ) (rs : List Asked) → length rs ≡ suc m → (m + 1 ≡ length j.task.plan) ⊎ (is_last_passed j 0 rs ≡ false) → is_next j acks ready saves rs ≡ false
not_next j acks ready saves m [] l h = absurd (omega (arith, l))
not_next j acks ready saves m (x ∷ rs) l (inl e) =
    let n : length j.task.plan ≤ length (x ∷ rs) = omega (arith, l, e) in
    and_right _ (nat_lt (length (x ∷ rs)) (length j.task.plan)) (grind (arith, n))
not_next j acks ready saves m (x ∷ rs) l (inr e) =
    and_left _ (nat_lt (length (x ∷ rs)) (length j.task.plan)) (and_left _ _ (and_right acks (is_last_passed j 0 (x ∷ rs)) e))

-- where it doesn't, as many stand as before
as_many : (j : Job) (entry : Entry) (past : List Entry) → is_next j (is_acknowledging j (entry ∷ past)) (is_ready j (entry ∷ past)) (saves_of j (entry ∷ past)) (map (goes_on j entry past) (requests j past)) ≡ false
    → length (requests j (entry ∷ past)) ≡ length (requests j past)
as_many j entry past e =
    ap (λ (rs : List Asked). length rs) (cond-false _ _ (map (goes_on j entry past) (requests j past)) e) ∙ length-map (requests j past) (goes_on j entry past)

module _ (p : Plot) (number : ℕ) (x : Parts) (past : List Entry) (h : StandsBy p number x [] [] past) where
  abbrev j : Job
  j = facts p

  abbrev told : List Event
  told = h.core.told

  told_last : awaits_saved_of x.core ≡ true → is_final (act_of j.task Saved told) ≡ true → IsLast j.task told
  told_last awaited final =
      let task_is : task_of x.core ≡ j.task = h.is_for.task_is in
      subst (IsLast j.task) (heard_all j.task told h.core.hears.goes_on)
      (subst (λ task. IsLast task (heard task told)) task_is
      (last_by (task_of x.core) x.core.clock x.core.lost x.core.state told h.core.hears.stands.so awaited
      (subst (λ task. has_stopped task (heard task told) ≡ false) (sym task_is) h.core.hears.goes_on) x.core.later
      (subst (λ (task : Task). 0 < length task.plan) (sym task_is) h.is_for.runs) (subst (λ task. is_final (act_of task Saved told) ≡ true) (sym task_is) final)))

  -- how many requests stand, where no further one follows
  record IsWhole : Type 0 where
    last_one : ℕ
    long : length (requests j past) ≡ suc last_one
    ends : (last_one + 1 ≡ length j.task.plan) ⊎ (is_last_passed j 0 (requests j past) ≡ false)

  whole : IsLast j.task told → (o : Option Standing) → standing j.task told ≡ o → Stands j told past o → IsWhole
  whole l None f (nothing n) = let both : Some (last_at_core l.request l.later) ≡ None = sym l.is ∙ f in absurd (cc)
  whole l (Some _) f (last m q later n at agrees) =
      let both : Some (last_at_core l.request l.later) ≡ Some (last_at_core m later) = sym l.is ∙ f in
      let one : l.request ≡ m = ap (λ (s : Standing). s.request) (same_Some (last_at_core l.request l.later) (last_at_core m later) both) in
      let two : l.later ≡ later = ap (λ (s : Standing). s.later) (same_Some (last_at_core l.request l.later) (last_at_core m later) both) in
      let z : 0 + m ≡ m = omega arith in
      record {
        last_one = m;
        long = n;
        ends = elim l.ends [
          | inl e ↦ inl (omega (arith, e, one))
          | inr e ↦ inr (last_at j 0 m (requests j past) q at n ∙ ap (λ i. passes_so j i q) z ∙ sym (passed_agrees j m later q agrees) ∙ ap is_passed (sym two) ∙ e)
        ];
      }

  module _ (settled : ℕ) (asked : IsAsked j.task told settled) (text : List ℕ) (text_is : text ≡ (save_of j (used_of j.task.plan (requests j past)) asked.asked).text) (now : List Entry)
      (save : SaveOf j.output text done past now) where
    abbrev sync : Entry
    sync = made.DirSynced (disk.folder_of j.output) DidIt

    abbrev renamed : List Entry
    renamed = made.Renamed (temporary_of j.output) j.output DidIt ∷ made.Synced (temporary_of j.output) DidIt ∷ save.past

    abbrev acked : List Entry
    acked = sync ∷ renamed

    before : requests j renamed ≡ requests j past
    before = same p number x past h settled asked text text_is now save

    still : IsWhole → is_next j (is_acknowledging j acked) (is_ready j acked) (saves_of j acked) (map (goes_on j sync renamed) (requests j renamed)) ≡ false
    still w =
        ap (is_next j (is_acknowledging j acked) (is_ready j acked) (saves_of j acked)) (requests_same j h.undated sync renamed (λ c. refl) (requests j renamed) ∙ before)
        ∙ not_next j (is_acknowledging j acked) (is_ready j acked) (saves_of j acked) w.last_one (requests j past) w.long w.ends

    -- so the same requests stand behind the save
    pub requests_kept : awaits_saved_of x.core ≡ true → is_final (act_of j.task Saved told) ≡ true → requests j now ≡ requests j past
    requests_kept awaited final =
        let w : IsWhole = whole (told_last awaited final) (standing j.task told) refl (stands j told past h.core.agrees) in
        ap (requests j) (sym (is_now p number x past h settled asked text text_is now save))
        ∙ none_more_now p number x past h settled asked text text_is now save (as_many j sync renamed (still w))
        ∙ before
