-- A core that stops: what the journal tells of the cause then, and what was saved.
use Rattle.std.proofs.Common.{◌≡◌, ℕ, ◌+◌, ◌-◌, ◌<◌, ◌≤◌, List, [], ◌∷◌, ◌++◌, length, map, drop, Bool, true, false, ◌&&◌, not, cond, Option, Some, None, is_some, refl, sym, ◌∙◌, ap, subst, arith, length-append, length-drop}
use Rattle.std.specs.Prelude.{is_none, nat_le, option_map, ◌==◌}
use Rattle.std.proofs.Math.Bool.{true≢false}
use Rattle.std.proofs.lemmas.Bool.{and_parts, cond-false, eqb-true, false_from_ne_true, or_right}
use Rattle.std.proofs.lemmas.List.{nil_from_length, take_all}
use Rattle.std.proofs.lemmas.Option.{same_Some}
use Rattle.world.specs.declared.chan.Chan.{Chan}
use Rattle.world.specs.declared.entry.Entry.{Entry}
use Rattle.world.specs.Moments.{Since, start, more}
use Rattle.world.specs.Places.{time}
use Rattle.save_disk.specs.Entries.{SaveOf}
use Rattle.said_lines.specs.Lines.{spoken_line}
use Rattle.progress_save.specs.Saved.{done}
use Rattle.cell_core.specs.declared.act.Act.TheVariants as act
use Rattle.cell_core.specs.declared.event.Event.{Event}
use Rattle.cell_core.specs.declared.event.Event.TheVariants as event
use Rattle.cell_core.specs.declared.why.Why.{Why}
use Rattle.cell_core.specs.declared.why.Why.TheVariants as cause
use Rattle.cell_core.specs.Acts.{act_by, act_of}
use Rattle.cell_core.specs.Events as events
use Rattle.cell_core.specs.Requests as core
use Rattle.cell_core.specs.Saves as core_saves
use Rattle.cell_core.specs.Task.{Task}
use Rattle.job_end.specs.declared.answer.Answer.{Answer}
use Rattle.run_journal.specs.Codec.{Arrival}
use Rattle.run_journal.specs.Job.{Job}
use Rattle.run_journal.specs.Parts.{bytes_got, saves_of}
use Rattle.run_journal.specs.Requests.{Request, has_idle, is_last_passed, is_over, last_request, reply, requests, used_of}
use Rattle.run_journal.specs.Why.{are_acked, is_done, is_error, plain_count}
use Rattle.run_journal.specs.Saves.{Save, closing, is_marked, last_cell, renamed_texts, run_saves, stop_save, stopping}
use Rattle.run_journal.specs.Ends.{index_or_zero, name_of, reason}
use Rattle.run_journal.specs.Ends as ends
use Rattle.run_journal.specs.Agreement.{Agrees, AgreesOn, IsOther}
use Rattle.run_journal.proofs.Agreeing.{agree_other}
use Rattle.run_journal.proofs.Asking.{Stands, nothing, last, stands, last_numbered, error_same, done_same}
use Rattle.run_journal.proofs.Growth.{go_self, no_stop}
use Rattle.job_journal.specs.Ended.{HasAnswered, HasPassed, HasStoppedFor, IsLateStop, IsStopSaid, IsTimeOver, LacksIdle, LacksReply, SaysCause, ShowsCause, has_come, idle_due, reply_due}
use Rattle.job_journal.specs.Made.{HasMade, passing_saves}
use Rattle.job_journal.specs.Plot.{Plot, facts}
use Rattle.job_journal.specs.Quiet.{IsQuietNow}
use Rattle.job_journal.specs.Saved.{IsAsked, save_of}
use Rattle.job_journal.specs.Standing.{Parts, StandsBy, HasEndedAs}
use Rattle.job_journal.specs.Told.{is_stop}
use Rattle.job_journal.proofs.Acking.{acks_on, requests_on, saved_agrees, saved_made}
use Rattle.job_journal.proofs.Breaking.{broken_same, bytes_on, whole_same}
use Rattle.job_journal.proofs.Dues.{made_few, parts_of_run}
use Rattle.job_journal.proofs.Making.{made_grows, made_texts, same_texts}
use Rattle.job_journal.proofs.Quiet.{ended_on}
use Rattle.job_journal.proofs.Saving.{answer_is, saves_count}
use Rattle.job_journal.proofs.Starting.{act_is}

-- ---- the act that stops

-- a core stops where it has a cause and no save is due
stop_by : (task : Task) (es : List Event) (ps : List core_saves.Prefix) (w : Option Why) (cause : Why) → act_by task es ps w ≡ act.Stop cause
    → (ps ≡ []) × (w ≡ Some cause)
stop_by task es (p ∷ ps) w cause f = cc
stop_by task es [] (Some c) cause f = (refl, ap (λ x. Some x) (causes f))
  where
    causes : {x y : Why} → act.Stop x ≡ act.Stop y → x ≡ y
    causes g = cc
stop_by task es [] None cause f =
    absurd (true≢false (ap is_stop (sym f) ∙ answer_is (λ x. is_stop x ≡ false) refl refl refl refl (λ n. refl) task (core.standing task es) es))

-- ---- the first row that holds

-- What the row of a cause says. The rows are those of an executed plan, an error, a kernel that wasn't ready, a missing idle and an overrun.
abbrev pub Row : Bool → Bool → Bool → Bool → Bool → Why → Type 0
Row d c n i t cause.Done = d ≡ true
Row d c n i t cause.CellError = c ≡ true
Row d c n i t cause.NotReady = n ≡ true
Row d c n i t cause.NoIdle = i ≡ true
Row d c n i t cause.TimedOut = t ≡ true
Row d c n i t cause.KernelLost = (d ≡ false) × (c ≡ false)
Row d c n i t cause.BadPeer = (d ≡ false) × (c ≡ false)

pub first_row : (d c b l n i t : Bool) (w : Why)
    → cond d (Some cause.Done) (cond c (Some cause.CellError) (cond b (Some cause.BadPeer) (cond l (Some cause.KernelLost)
    (cond n (Some cause.NotReady) (cond i (Some cause.NoIdle) (cond t (Some cause.TimedOut) None)))))) ≡ Some w
    → Row d c n i t w
first_row true c b l n i t w e = subst (Row true c n i t) (same_Some _ _ e) refl
first_row false true b l n i t w e = subst (Row false true n i t) (same_Some _ _ e) refl
first_row false false true l n i t w e = subst (Row false false n i t) (same_Some _ _ e) (refl, refl)
first_row false false false true n i t w e = subst (Row false false n i t) (same_Some _ _ e) (refl, refl)
first_row false false false false true i t w e = subst (Row false false true i t) (same_Some _ _ e) refl
first_row false false false false false true t w e = subst (Row false false false true t) (same_Some _ _ e) refl
first_row false false false false false false true w e = subst (Row false false false false true) (same_Some _ _ e) refl
first_row false false false false false false false w e = cc

-- ---- what the requests tell of the cause

not_true : (b : Bool) → not b ≡ true → b ≡ false
not_true true h = absurd (true≢false (sym h))
not_true false h = refl

none_is : (o : Option Bool) → is_none o ≡ true → is_some o ≡ false
none_is None h = refl
none_is (Some x) h = absurd (true≢false (sym h))

module _ (j : Job) (k : ℕ) (later : List Event) (r : Request) (a : AgreesOn j k later r) where
  replied : is_some (core.reply later) ≡ is_some (reply r)
  replied = ap (λ (o : Option Bool). is_some o) a.reply ∙ by (reply r)
    where
      by : (o : Option (Arrival × ℕ)) → is_some (option_map (λ m. j.fatal k m.0.content) o) ≡ is_some o
      by None = refl
      by (Some m) = refl

  over : core.is_over later ≡ is_over r
  over =
      ap (λ b. b && core.has_idle (core.own later)) replied
      ∙ ap (λ b. is_some (reply r) && b) a.idle
      ∙ swap (is_some (reply r)) (has_idle r.io)
    where
      swap : (x y : Bool) → (x && y) ≡ (y && x)
      swap true true = refl
      swap true false = refl
      swap false true = refl
      swap false false = refl

module _ (j : Job) (told : List Event) (now : List Entry) (a : Agrees j told now) (runs : 0 < length j.task.plan) where
  unready : (o : Option core.Standing) → Stands j told now o → core_saves.is_not_ready j.task o told ≡ true → requests j now ≡ []
  unready None (nothing l) e = nil_from_length (requests j now) l
  unready (Some _) (last m q later l g b) e = absurd (true≢false (sym e))

  unidle : (o : Option core.Standing) → Stands j told now o → core_saves.is_no_idle o told ≡ true → LacksIdle (last_request 0 (requests j now))
  unidle None (nothing l) e = absurd (true≢false (sym e))
  unidle (Some _) (last m q later l g b) e =
      let front = (and_parts (is_some (core.reply later) && not (core.is_over later)) _ e).0 in
      let parts = and_parts (is_some (core.reply later)) (not (core.is_over later)) front in
      subst LacksIdle (sym (last_numbered 0 m (requests j now) q l g))
      (sym (replied j m later q b) ∙ parts.0, sym (over j m later q b) ∙ not_true (core.is_over later) parts.1)

  unreplied : (o : Option core.Standing) → Stands j told now o → core_saves.is_timed_out j.task o told ≡ true → LacksReply (last_request 0 (requests j now))
  unreplied None (nothing l) e = absurd (true≢false (sym e))
  unreplied (Some _) (last m q later l g b) e =
      let none : is_none (core.reply later) ≡ true = (and_parts (is_none (core.reply later)) _ e).0 in
      subst LacksReply (sym (last_numbered 0 m (requests j now) q l g)) (sym (replied j m later q b) ∙ none_is (core.reply later) none)

  abbrev o : Option core.Standing
  o = core.standing j.task told

  abbrev RowOf : Why → Type 0
  RowOf w =
      Row (core_saves.is_done j.task told) (core_saves.is_cell_error o) (core_saves.is_not_ready j.task o told) (core_saves.is_no_idle o told)
      (core_saves.is_timed_out j.task o told) w

  shown_by : (w : Why) → RowOf w → ShowsCause j w now
  shown_by cause.Done e = sym (done_same j told now a runs) ∙ e
  shown_by cause.CellError e = sym (error_same j told now a) ∙ e
  shown_by cause.NotReady e = unready o (stands j told now a) e
  shown_by cause.NoIdle e = unidle o (stands j told now a) e
  shown_by cause.TimedOut e = unreplied o (stands j told now a) e
  shown_by cause.KernelLost e = record { plan = sym (done_same j told now a runs) ∙ e.0; reply = sym (error_same j told now a) ∙ e.1 }
  shown_by cause.BadPeer e = record { plan = sym (done_same j told now a runs) ∙ e.0; reply = sym (error_same j told now a) ∙ e.1 }

  -- Where the core's requests agree with the journal's, the journal's tell of the core's cause.
  pub shown : (w : Why) → core_saves.why j.task told ≡ Some w → ShowsCause j w now
  shown w e =
      shown_by w
      (first_row (core_saves.is_done j.task told) (core_saves.is_cell_error o) (events.came events.is_broken told) (events.look_since events.is_lost told)
      (core_saves.is_not_ready j.task o told) (core_saves.is_no_idle o told) (core_saves.is_timed_out j.task o told) w e)

-- ---- what was saved by then

-- where all saves that are due were made, their texts are those that were renamed
all_texts : (j : Job) (due : List Save) (n : ℕ) (now : List Entry) → length due ≤ n → HasMade j due n now → renamed_texts j now ≡ map (λ (s : Save). Some s.text) due
all_texts j due n now h m = made_texts j due n now m ∙ ap (map (λ (s : Save). Some s.text)) (take_all n due h)

-- a cause without a save of its own leaves none to another cause
unmarked : (j : Job) (now : List Entry) (w : Why) → 0 < length j.task.plan → ShowsCause j w now → core_saves.is_stop w ≡ false
    → cond (not (is_last_passed j 0 (requests j now))) (stop_save j (requests j now) (last_cell j.task.plan (requests j now))) [] ≡ []
unmarked j now cause.Done runs s e =
    let rs : List Request = requests j now in
    let some : (length j.task.plan == 0) ≡ false
    = false_from_ne_true (length j.task.plan == 0) (λ f. let n : length j.task.plan ≡ 0 = eqb-true (length j.task.plan) 0 f in absurd (omega (arith, runs, n))) in
    let whole : (length rs == length j.task.plan && is_last_passed j 0 rs) ≡ true
    = sym (cond-false (length j.task.plan == 0) (are_acked (plain_count j j.given) (saves_of j now)) (length rs == length j.task.plan && is_last_passed j 0 rs) some) ∙ s in
    ap (λ b. cond (not b) (stop_save j rs (last_cell j.task.plan rs)) []) (and_parts (length rs == length j.task.plan) (is_last_passed j 0 rs) whole).1
unmarked j now cause.NotReady runs s e = ap (λ rs. stopping j rs (Some cause.KernelLost)) s ∙ no_stop j (Some cause.KernelLost)
unmarked j now cause.CellError runs s e = absurd (true≢false e)
unmarked j now cause.KernelLost runs s e = absurd (true≢false e)
unmarked j now cause.TimedOut runs s e = absurd (true≢false e)
unmarked j now cause.NoIdle runs s e = absurd (true≢false e)
unmarked j now cause.BadPeer runs s e = absurd (true≢false e)

-- the save of a stop is the same by two causes, where the second has no more of them
same_stop : (m k l : Bool) (ss : List Save) → (k ≡ false → cond (not l) ss [] ≡ []) → length (cond (k && not l) ss []) ≤ length (cond (m && not l) ss [])
    → cond (m && not l) ss [] ≡ cond (k && not l) ss []
same_stop true true l ss f h = refl
same_stop true false l ss f h = f refl
same_stop false true l ss f h = sym (nil_from_length (cond (not l) ss []) (omega (arith, h)))
same_stop false false l ss f h = refl

module _ (j : Job) (rs : List Request) (w : Option Why) where
  long : length (run_saves j rs w) ≡ length (passing_saves j rs) + (length (stopping j rs w) + length (closing j rs))
  long =
      ap (λ (v : List Save). length v) (parts_of_run j rs w)
      ∙ length-append (passing_saves j rs) (stopping j rs w ++ closing j rs)
      ∙ ap (λ n. length (passing_saves j rs) + n) (length-append (stopping j rs w) (closing j rs))

shorter : (r s n p a b c : ℕ) → r ≡ p + (a + c) → s ≡ p + (b + c) → n ≤ r → s ≤ n → b ≤ a
shorter r s n p a b c e f g h = omega (arith, e, f, g, h)

enough : (s d k n r t : ℕ) → d ≡ s - k → d ≡ 0 → k ≡ n → s ≡ r → r ≡ t → t ≤ n
enough s d k n r t a b c e f = omega (arith, a, b, c, e, f)

-- A core stops that was told these events. The saves that were made are the first of those that are due by some cause.
module _ (p : Plot) (told : List Event) (now : List Entry) (a : Agrees (facts p) told now) (runs : 0 < length (facts p).task.plan) (cause : Why) (w : Option Why)
    (stops : (core_saves.pending_saves (facts p).task told ≡ []) × (core_saves.why (facts p).task told ≡ Some cause))
    (made : HasMade (facts p) (run_saves (facts p) (requests (facts p) now) w) (saves_of (facts p) now) now) where
  abbrev j : Job
  j = facts p

  abbrev rs : List Request
  rs = requests j now

  tells : ShowsCause j cause now
  tells = shown j told now a runs cause stops.1

  due : length (run_saves j rs (Some cause)) ≤ saves_of j now
  due =
      enough (length (core_saves.saves j.task told)) (length (drop (events.ack_count told) (core_saves.saves j.task told))) (events.ack_count told) (saves_of j now)
      (length (run_saves j rs (core_saves.why j.task told))) (length (run_saves j rs (Some cause)))
      (length-drop (events.ack_count told) (core_saves.saves j.task told)) (ap (λ (v : List core_saves.Prefix). length v) stops.0) a.acked
      (saves_count j told now a runs) (ap (λ v. length (run_saves j rs v)) stops.1)

  fewer : length (stopping j rs (Some cause)) ≤ length (stopping j rs w)
  fewer =
      shorter (length (run_saves j rs w)) (length (run_saves j rs (Some cause))) (saves_of j now) (length (passing_saves j rs)) (length (stopping j rs w))
      (length (stopping j rs (Some cause))) (length (closing j rs)) (long j rs w) (long j rs (Some cause)) (made_few j (run_saves j rs w) (saves_of j now) now made) due

  same : run_saves j rs w ≡ run_saves j rs (Some cause)
  same =
      parts_of_run j rs w
      ∙ ap (λ v. passing_saves j rs ++ (v ++ closing j rs))
      (same_stop (is_marked w) (core_saves.is_stop cause) (is_last_passed j 0 rs) (stop_save j rs (last_cell j.task.plan rs)) (unmarked j now cause runs tells) fewer)
      ∙ sym (parts_of_run j rs (Some cause))

  stopped : HasStoppedFor p cause now
  stopped = record {
    shown = tells;
    texts = all_texts j (run_saves j rs (Some cause)) (saves_of j now) now due (subst (λ ss. HasMade j ss (saves_of j now) now) same made);
  }

-- ---- a core that stops

pub stops_by_other : (p : Plot) (number : ℕ) (x : Parts) (now : List Entry) (s : StandsBy p number x [] [] now) (e : Event) (cause : Why) → IsOther e
    → act_of (facts p).task e s.core.told ≡ act.Stop cause → HasStoppedFor p cause now
stops_by_other p number x now s e cause o f =
    let j : Job = facts p in
    let rs : List Request = requests j now in
    let es : List Event = e ∷ s.core.told in
    stopped p es now (agree_other j e s.core.told now o s.core.agrees) s.is_for.runs cause (Some cause)
    (stop_by j.task es (core_saves.pending_saves j.task es) (core_saves.why j.task es) cause (sym (act_is j s.core.told e s.core.hears.goes_on) ∙ f))
    ((made_grows j (saves_of j now) rs rs now (go_self rs) s.made).1 (Some cause))

pub stops_by_save : (p : Plot) (number : ℕ) (x : Parts) (past : List Entry) (s : StandsBy p number x [] [] past) (settled : ℕ) (asked : IsAsked (facts p).task s.core.told settled)
    (text : List ℕ) → text ≡ (save_of (facts p) (used_of (facts p).task.plan (requests (facts p) past)) asked.asked).text → (now : List Entry)
    → SaveOf (facts p).output text done past now → (cause : Why) → act_of (facts p).task event.Saved s.core.told ≡ act.Stop cause → HasStoppedFor p cause now
stops_by_save p number x past s settled asked text is now save cause f =
    let j : Job = facts p in
    let es : List Event = event.Saved ∷ s.core.told in
    let made = saved_made p number x past s settled asked text is now save in
    stopped p es now (saved_agrees p number x past s settled asked text is now save) s.is_for.runs cause made.0
    (stop_by j.task es (core_saves.pending_saves j.task es) (core_saves.why j.task es) cause (sym (act_is j s.core.told event.Saved s.core.hears.goes_on) ∙ f))
    made.1

-- ---- what stays

-- Of a job's requests and the octets that it got nothing has changed, and what the clock had come to it has still come to. Then a time that was over
-- is over, and no stream is broken where none was.
module _ (j : Job) (before now : List Entry) (requests_are : requests j now ≡ requests j before) (bytes_are : (c : Chan) → bytes_got j c now ≡ bytes_got j c before)
    (came : (at : ℕ) → has_come at before ≡ true → has_come at now ≡ true) where
  passed_stays : (due : Option ℕ) → HasPassed due before → HasPassed due now
  passed_stays None e = absurd e
  passed_stays (Some at) e = came at e

  over_stays : (cause : Why) → IsTimeOver j cause before → IsTimeOver j cause now
  over_stays cause.TimedOut e = subst (λ rs. HasPassed (reply_due j (last_request 0 rs)) now) (sym requests_are) (passed_stays (reply_due j (last_request 0 (requests j before))) e)
  over_stays cause.NoIdle e = subst (λ rs. HasPassed (idle_due (last_request 0 rs)) now) (sym requests_are) (passed_stays (idle_due (last_request 0 (requests j before))) e)
  over_stays cause.Done e = tt
  over_stays cause.CellError e = tt
  over_stays cause.NotReady e = tt
  over_stays cause.KernelLost e = tt
  over_stays cause.BadPeer e = tt

  pub late_stays : (cause : Why) → IsLateStop j cause before → IsLateStop j cause now
  late_stays cause h = record { whole = whole_same j before now bytes_are h.whole; over = over_stays cause h.over }

-- Of a job's requests, its acknowledged saves, the texts that were renamed onto its output and the octets that it got nothing has changed. What the
-- clock has come to it has still come to.
pub record IsSame (j : Job) (before now : List Entry) : Type 0 where
  pub requests_are : requests j now ≡ requests j before
  pub saves_are : saves_of j now ≡ saves_of j before
  pub texts_are : renamed_texts j now ≡ renamed_texts j before
  pub bytes_are : (c : Chan) → bytes_got j c now ≡ bytes_got j c before
  pub came : (at : ℕ) → has_come at before ≡ true → has_come at now ≡ true

module _ (j : Job) (before now : List Entry) (s : IsSame j before now) where
  done_stays : is_done j (saves_of j now) (requests j now) ≡ is_done j (saves_of j before) (requests j before)
  done_stays = ap (λ n. is_done j n (requests j now)) s.saves_are ∙ ap (is_done j (saves_of j before)) s.requests_are

  error_stays : is_error j (last_request 0 (requests j now)) ≡ is_error j (last_request 0 (requests j before))
  error_stays = ap (λ rs. is_error j (last_request 0 rs)) s.requests_are

  shown_stays : (cause : Why) → ShowsCause j cause before → ShowsCause j cause now
  shown_stays cause.Done e = done_stays ∙ e
  shown_stays cause.CellError e = error_stays ∙ e
  shown_stays cause.NotReady e = s.requests_are ∙ e
  shown_stays cause.NoIdle e = subst (λ rs. LacksIdle (last_request 0 rs)) (sym s.requests_are) e
  shown_stays cause.TimedOut e = subst (λ rs. LacksReply (last_request 0 rs)) (sym s.requests_are) e
  shown_stays cause.KernelLost e = record { plan = done_stays ∙ e.plan; reply = error_stays ∙ e.reply }
  shown_stays cause.BadPeer e = record { plan = done_stays ∙ e.plan; reply = error_stays ∙ e.reply }

module _ (p : Plot) (before now : List Entry) (s : IsSame (facts p) before now) where
  -- where none of these has changed, a job that has stopped has stopped for the same cause
  pub stop_stays : (cause : Why) → HasStoppedFor p cause before → HasStoppedFor p cause now
  stop_stays cause h = record {
    shown = shown_stays (facts p) before now s cause h.shown;
    texts = s.texts_are ∙ h.texts ∙ ap (λ rs. map (λ (s : Save). Some s.text) (run_saves (facts p) rs (Some cause))) (sym s.requests_are);
  }

  -- what is said of a cause, by the requests and by what was got
  said : (cause : Why) (line : List ℕ) → SaysCause p cause line before → SaysCause p cause line now
  said cause.Done line e = e
  said cause.CellError line e =
      e ∙ ap (λ rs. spoken_line p.ask.output (reason (ends.CellError (index_or_zero (last_cell (facts p).task.plan rs)) (name_of (last_request 0 rs))))) (sym s.requests_are)
  said cause.NotReady line e = e
  said cause.KernelLost line e = e
  said cause.TimedOut line e = e ∙ ap (λ rs. spoken_line p.ask.output (reason (ends.TimedOut (index_or_zero (last_cell (facts p).task.plan rs))))) (sym s.requests_are)
  said cause.NoIdle line e = e ∙ ap (λ rs. spoken_line p.ask.output (reason (ends.NoIdle (index_or_zero (last_cell (facts p).task.plan rs))))) (sym s.requests_are)
  said cause.BadPeer line e = record { bad = e.bad; broken = broken_same (facts p) e.bad before now (s.bytes_are e.bad.chan) e.broken; says = e.says }

  pub stop_said_stays : (cause : Why) (line : List ℕ) → IsStopSaid p cause line before → IsStopSaid p cause line now
  stop_said_stays cause line h = record {
    stopped = stop_stays cause h.stopped;
    late = λ late. late_stays (facts p) before now s.requests_are s.bytes_are s.came cause (h.late late);
    says = said cause line h.says;
  }

  -- so a job that has ended keeps its answer, if the texts that were saved are still the first of the saves that are due
  pub answer_stays : (a : Answer) → HasEndedAs p now → HasAnswered p a before → HasAnswered p a now
  answer_stays a ended h = record { ended = ended; stopped = λ cause e. stop_said_stays cause a.line (h.stopped cause e) }

-- ---- entry after quiet entry

pub texts_on : (j : Job) (before now : List Entry) → Since (IsQuietNow j) before now → renamed_texts j now ≡ renamed_texts j before
texts_on j before now start = refl
texts_on j before now (more {past} {entry} w q) = same_texts j entry past q.unrenamed ∙ texts_on j before past w

-- what the clock has come to it has still come to
pub come_still : (at : ℕ) (entry : Entry) (past : List Entry) → has_come at past ≡ true → has_come at (entry ∷ past) ≡ true
come_still at entry past e = or_right (nat_le at (time (entry ∷ past))) (has_come at past) e

pub come_on : {Rule : List Entry → Type 0} (at : ℕ) (before now : List Entry) → Since Rule before now → has_come at before ≡ true → has_come at now ≡ true
come_on at before now start e = e
come_on at before now (more {past} {entry} w q) e = come_still at entry past (come_on at before past w e)

pub same_on : (j : Job) (before now : List Entry) → j.task.times.interrupt ≡ false → Since (IsQuietNow j) before now → IsSame j before now
same_on j before now plain w = record {
  requests_are = requests_on j before now plain w;
  saves_are = acks_on j before now plain w;
  texts_are = texts_on j before now w;
  bytes_are = bytes_on j before now w;
  came = λ at. come_on at before now w;
}

pub stopped_on : (p : Plot) (cause : Why) (before now : List Entry) → (facts p).task.times.interrupt ≡ false → Since (IsQuietNow (facts p)) before now
    → HasStoppedFor p cause before → HasStoppedFor p cause now
stopped_on p cause before now plain w h = stop_stays p before now (same_on (facts p) before now plain w) cause h

pub answered_on : (p : Plot) (a : Answer) (before now : List Entry) → (facts p).task.times.interrupt ≡ false → Since (IsQuietNow (facts p)) before now
    → HasAnswered p a before → HasAnswered p a now
answered_on p a before now plain w h = answer_stays p before now (same_on (facts p) before now plain w) a (ended_on p before now plain w h.ended) h
