-- Where the loop keeps its rules the core stops where the job does, and for the same cause.
use Rattle.std.proofs.Common.{◌≡◌, ℕ, suc, ◌+◌, ◌<◌, List, [], length, Bool, true, false, ◌&&◌, not, cond, Option, Some, None, refl, sym, ◌∙◌, ap, subst}
use Rattle.std.specs.Prelude.{is_some, is_none, option_map, slice_get}
use Rattle.std.proofs.lemmas.Option.{same_Some, none-some}
use Rattle.kernel_lines.proofs.LineLemmas.{same_tests}
use Rattle.world.specs.declared.entry.Entry.{Entry}
use Rattle.cell_core.specs.declared.event.Event.{Event}
use Rattle.cell_core.specs.declared.why.Why.TheVariants as cause
use Rattle.cell_core.specs.Deadlines.{first_deadline, is_queued}
use Rattle.cell_core.specs.Events as events
use Rattle.cell_core.specs.Requests as core
use Rattle.cell_core.specs.Saves as core_saves
use Rattle.run_journal.specs.Codec.{Arrival}
use Rattle.run_journal.specs.Job.{Job}
use Rattle.run_journal.specs.Parts.{saves_of}
use Rattle.run_journal.specs.Looks.{is_lost}
use Rattle.run_journal.specs.Requests.{Request, reply, or_later, deadline, is_broken, requests, last_request}
use Rattle.run_journal.specs.Why.{bad_stream, is_done, is_error, is_not_ready, is_no_idle, is_out, is_timed_out, last_deadline, cause_if, why}
use Rattle.run_journal.specs.Decoding.{IsDecoding}
use Rattle.run_journal.specs.Course.{course}
use Rattle.run_journal.specs.Agreement.{AgreesOn, BeginsUnread, EndsLooks, Flows, KeepsTime, is_dated, KeepsRules}
use Rattle.run_journal.proofs.Asking.{Stands, nothing, last, stands, done_same, error_same}
use Rattle.run_journal.proofs.Flowing.{course_agrees}
use Rattle.run_journal.proofs.Telling.{broken_told, bad_is}
use Rattle.run_journal.proofs.Finding.{lost_found, undated_unlooked, lost_seen, lost_parts, lost_waited}
use Rattle.run_journal.proofs.Dropping.{dropped}
use Rattle.run_journal.proofs.Running.{RanAtWait}
use Rattle.run_journal.proofs.Interrupting.{ever_lost}
use Rattle.run_journal.proofs.Rowing.{not_ready_same, no_idle_last, last_is, none_last, on, out_same, interrupt_same, standing_after, plus_more}

-- the first row that holds, by what holds of a time limit where no stream is broken and the kernel isn't lost
same_rows : (d e b l n i t u : Bool) → (b ≡ false → l ≡ false → t ≡ u)
    → cond d (Some cause.Done) (cond e (Some cause.CellError) (cond b (Some cause.BadPeer) (cond l (Some cause.KernelLost) (cond n (Some cause.NotReady) (cond i (Some cause.NoIdle) (cond t (Some cause.TimedOut) None))))))
    ≡ or_later (cause_if d cause.Done) (or_later (cause_if e cause.CellError) (or_later (cause_if b cause.BadPeer) (or_later (cause_if l cause.KernelLost) (or_later (cause_if n cause.NotReady) (or_later (cause_if i cause.NoIdle) (cause_if u cause.TimedOut))))))
same_rows true e b l n i t u f = refl
same_rows false true b l n i t u f = refl
same_rows false false true l n i t u f = refl
same_rows false false false true n i t u f = refl
same_rows false false false false true i t u f = refl
same_rows false false false false false true t u f = refl
same_rows false false false false false false t u f = ap (λ v. cond v (Some cause.TimedOut) None) (f refl refl) ∙ by u
  where
    by : (v : Bool) → cond v (Some cause.TimedOut) None ≡ cause_if v cause.TimedOut
    by true = refl
    by false = refl

module _ (jobs : List Job) (j : Job) (past : List Entry) (dec : IsDecoding j.codec) (plan : 0 < length j.task.plan) (limits : (ms : ℕ) → j.task.times.limit_ms ≡ Some ms → 0 < ms) (k : KeepsRules jobs j past) (h : RanAtWait j past)
    (u : BeginsUnread j past) (f : Flows j past) (t : KeepsTime j past) (s : EndsLooks j past) (none : (course j past).held ≡ []) (un : events.came is_dated (dropped j past) ≡ false) where
  abbrev told : List Event
  told = (course j past).told

  abbrev standing : Option core.Standing
  standing = core.standing j.task told

  lost_same : events.look_since events.is_lost told ≡ is_lost j past
  lost_same =
      same_tests (events.look_since events.is_lost told) (is_lost j past)
      (λ e. ever_lost jobs j past k h (lost_found j past e))
      (λ e. lost_seen j past (undated_unlooked (dropped j past) un) s none (h (lost_waited j past (lost_parts j past e).1)) e)

  no_idle_same : core_saves.is_no_idle standing told ≡ is_no_idle j (last_request 0 (requests j past)) past
  no_idle_same = by standing refl (stands j told past (course_agrees j past f))
    where
      by : (o : Option core.Standing) → core.standing j.task told ≡ o → Stands j told past o → core_saves.is_no_idle o told ≡ is_no_idle j (last_request 0 (requests j past)) past
      by None g (nothing l) = sym (ap (λ o. is_no_idle j o past) (none_last jobs j past k h f t plan l))
      by (Some _) g (last m q later l e a) =
          no_idle_last jobs j past k h f t plan none un m q later l e a (standing_after j.task (length j.task.plan) told (record { request = m; later = later }) g)
          ∙ sym (ap (λ o. is_no_idle j o past) (last_is jobs j past k h f t plan m q l e))

  module _ (b : is_broken j past ≡ false) (lost : is_lost j past ≡ false) where
    broken_core : events.came events.is_broken told ≡ false
    broken_core = broken_told j dec past u f none ∙ b

    lost_core : events.look_since events.is_lost told ≡ false
    lost_core = lost_same ∙ lost

    timed_last : (m : ℕ) (q : Request) (later : List Event) → length (requests j past) ≡ suc m → slice_get (requests j past) m ≡ Some q → AgreesOn j m later q → core.after j.task m told ≡ Some later
        → core_saves.is_timed_out j.task (Some (record { request = m; later = later })) told ≡ is_timed_out j (Some (m, q)) past
    timed_last m q later l e a g =
        ap (λ o. is_none o && core_saves.is_out_of_time j.task m (first_deadline j.task (record { request = m; later = later }) told) told) a.reply
        ∙ ap (λ c. is_none (option_map (λ v. j.fatal m v.0.content) (reply q)) && core_saves.is_out_of_time j.task m (option_map (λ limit. c + limit) j.task.times.limit_ms) told) (on jobs j past k h f t plan m q l e later g).stood
        ∙ by (reply q) refl
      where
        limited : reply q ≡ None → (o : Option ℕ) → j.task.times.limit_ms ≡ o → core_saves.is_out_of_time j.task m (deadline j q) told ≡ is_out j 0 (last_deadline j q past (deadline j q)) past
        limited r None i =
            let dead : deadline j q ≡ None = ap (option_map (λ limit. q.clock + limit)) i in
            ap (λ o. core_saves.is_out_of_time j.task m o told) dead ∙ sym (ap (λ o. is_out j 0 (last_deadline j q past o) past) dead)
        limited r (Some n) i =
            let dead : deadline j q ≡ Some (q.clock + n) = ap (option_map (λ limit. q.clock + limit)) i in
            ap (λ o. core_saves.is_out_of_time j.task m o told) dead
            ∙ out_same jobs j past k h f t plan none un m q later l e a g dec u b lost broken_core lost_core r (q.clock + n) dead (plus_more q.clock n (limits n i))
            ∙ sym (ap (λ o. is_out j 0 (last_deadline j q past o) past) dead)

        by : (o : Option (Arrival × ℕ)) → reply q ≡ o
            → (is_none (option_map (λ v. j.fatal m v.0.content) o) && core_saves.is_out_of_time j.task m (deadline j q) told) ≡ (not (is_some o) && is_out j 0 (last_deadline j q past (deadline j q)) past)
        by None r = limited r j.task.times.limit_ms refl
        by (Some x) r = refl

    timed_same : core_saves.is_timed_out j.task standing told ≡ is_timed_out j (last_request 0 (requests j past)) past
    timed_same = by standing refl (stands j told past (course_agrees j past f))
      where
        by : (o : Option core.Standing) → core.standing j.task told ≡ o → Stands j told past o → core_saves.is_timed_out j.task o told ≡ is_timed_out j (last_request 0 (requests j past)) past
        by None g (nothing l) = sym (ap (λ o. is_timed_out j o past) (none_last jobs j past k h f t plan l))
        by (Some _) g (last m q later l e a) =
            timed_last m q later l e a (standing_after j.task (length j.task.plan) told (record { request = m; later = later }) g)
            ∙ sym (ap (λ o. is_timed_out j o past) (last_is jobs j past k h f t plan m q l e))

  pub why_open : core_saves.why j.task told ≡ why j past
  why_open =
      ap (λ v. cond v (Some cause.Done) (core_saves.why_not_done j.task standing told)) (done_same j told past (course_agrees j past f) plan)
      ∙ ap (λ v. cond (is_done j (saves_of j past) (requests j past)) (Some cause.Done) (cond v (Some cause.CellError) (cond (events.came events.is_broken told) (Some cause.BadPeer) (cond (events.look_since events.is_lost told) (Some cause.KernelLost) (core_saves.late_cause j.task standing told)))))
      (error_same j told past (course_agrees j past f))
      ∙ ap (λ v. cond (is_done j (saves_of j past) (requests j past)) (Some cause.Done) (cond (is_error j (last_request 0 (requests j past))) (Some cause.CellError) (cond v (Some cause.BadPeer) (cond (events.look_since events.is_lost told) (Some cause.KernelLost) (core_saves.late_cause j.task standing told)))))
      broken_same
      ∙ ap (λ v. cond (is_done j (saves_of j past) (requests j past)) (Some cause.Done) (cond (is_error j (last_request 0 (requests j past))) (Some cause.CellError) (cond (is_some (bad_stream j past)) (Some cause.BadPeer) (cond v (Some cause.KernelLost) (core_saves.late_cause j.task standing told)))))
      lost_same
      ∙ ap (λ v. cond (is_done j (saves_of j past) (requests j past)) (Some cause.Done) (cond (is_error j (last_request 0 (requests j past))) (Some cause.CellError) (cond (is_some (bad_stream j past)) (Some cause.BadPeer) (cond (is_lost j past) (Some cause.KernelLost)
      (cond v (Some cause.NotReady) (cond (core_saves.is_no_idle standing told) (Some cause.NoIdle) (cond (core_saves.is_timed_out j.task standing told) (Some cause.TimedOut) None))))))) (not_ready_same jobs j past k h f t plan none un)
      ∙ ap (λ v. cond (is_done j (saves_of j past) (requests j past)) (Some cause.Done) (cond (is_error j (last_request 0 (requests j past))) (Some cause.CellError) (cond (is_some (bad_stream j past)) (Some cause.BadPeer) (cond (is_lost j past) (Some cause.KernelLost)
      (cond (is_not_ready j (requests j past) past) (Some cause.NotReady) (cond v (Some cause.NoIdle) (cond (core_saves.is_timed_out j.task standing told) (Some cause.TimedOut) None))))))) no_idle_same
      ∙ same_rows (is_done j (saves_of j past) (requests j past)) (is_error j (last_request 0 (requests j past))) (is_some (bad_stream j past)) (is_lost j past)
      (is_not_ready j (requests j past) past) (is_no_idle j (last_request 0 (requests j past)) past) (core_saves.is_timed_out j.task standing told) (is_timed_out j (last_request 0 (requests j past)) past)
      (λ x y. timed_same (sym (bad_is j past) ∙ x) y)
    where
      broken_same : events.came events.is_broken told ≡ is_some (bad_stream j past)
      broken_same = broken_told j dec past u f none ∙ sym (bad_is j past)

  -- ---- the interrupt

  -- the last request has its interrupt queued for both
  pub interrupts_open : is_broken j past ≡ false → is_lost j past ≡ false → j.task.times.interrupt ≡ true → (m : ℕ) (q : Request) (c : ℕ) → last_request 0 (requests j past) ≡ Some (m, q) → reply q ≡ None
      → deadline j q ≡ Some c → is_queued j.task m c told ≡ q.interrupted
  interrupts_open b lost i m q c e r dead = by standing refl (stands j told past (course_agrees j past f))
    where
      no_last : ◌≡◌ {A = Option (ℕ × Request)} None (Some (m, q)) → ⊥
      no_last g = cc

      under : (o : Option ℕ) → j.task.times.limit_ms ≡ o → deadline j q ≡ Some c → q.clock < c
      under None g d = absurd (none-some c (sym (ap (option_map (λ limit. q.clock + limit)) g) ∙ d))
      under (Some n) g d = subst (λ v. q.clock < v) (same_Some _ _ (sym (ap (option_map (λ limit. q.clock + limit)) g) ∙ d)) (plus_more q.clock n (limits n g))

      by : (o : Option core.Standing) → core.standing j.task told ≡ o → Stands j told past o → is_queued j.task m c told ≡ q.interrupted
      by None g (nothing l) = absurd (no_last (sym (none_last jobs j past k h f t plan l) ∙ e))
      by (Some _) g (last n p later l x a) =
          let same : ◌≡◌ {A = ℕ × Request} (n, p) (m, q) = same_Some (n, p) (m, q) (sym (last_is jobs j past k h f t plan n p l x) ∙ e) in
          let p_is : p ≡ q = ap (λ (v : ℕ × Request). v.1) same in
          ap (λ (v : ℕ × Request). is_queued j.task v.0 c told) (sym same)
          ∙ interrupt_same jobs j past k h f t plan none un n p later l x a (standing_after j.task (length j.task.plan) told (record { request = n; later = later }) g) dec u b lost (broken_core b lost) (lost_core b lost) (ap reply p_is ∙ r) c
          (ap (deadline j) p_is ∙ dead) (subst (λ (v : Request). v.clock < c) (sym p_is) (under j.task.times.limit_ms refl dead)) i
          ∙ ap (λ (v : Request). v.interrupted) p_is
