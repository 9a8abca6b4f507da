-- A cause that the core has shows in the journal, whatever waits to be told or came after the stop.
use Rattle.std.proofs.Common.{◌≡◌, ◌⊎◌, inl, inr, ℕ, suc, ◌+◌, ◌<◌, List, [], ◌∷◌, ◌++◌, length, Bool, true, false, ◌&&◌, ◌||◌, not, cond, Option, Some, None, refl, sym, ◌∙◌, ap}
use Rattle.std.specs.Prelude.{is_some, is_none, option_map, slice_get, if◌then◌else◌}
use Rattle.std.proofs.lemmas.Bool.{and_parts, and_from, or_left, or_right, cases_Bool, not-true, cond-true, cond-false, or_cases}
use Rattle.std.proofs.lemmas.List.{nil_from_length}
use Rattle.std.proofs.lemmas.Option.{same_Some}
use Rattle.world.specs.declared.entry.Entry.{Entry}
use Rattle.world.specs.Waits.{has_wait, before_wait}
use Rattle.cell_core.specs.declared.event.Event.{Event}
use Rattle.cell_core.specs.declared.event.Event.TheVariants as event
use Rattle.cell_core.specs.declared.why.Why.{Why}
use Rattle.cell_core.specs.declared.why.Why.TheVariants as cause
use Rattle.cell_core.specs.Deadlines.{idle_ms, interrupt_ms, replied_at, second_deadline, start_from, is_unanswered, is_queued, looked_by}
use Rattle.cell_core.specs.Events as events
use Rattle.cell_core.specs.Requests as core
use Rattle.cell_core.specs.Saves as core_saves
use Rattle.run_journal.specs.Codec.{Arrival}
use Rattle.run_journal.specs.Job.{Job}
use Rattle.run_journal.specs.Parts.{saves_of, is_running}
use Rattle.run_journal.specs.Looks.{is_look, ever, shows_lost, is_lost, is_past, ran_out}
use Rattle.run_journal.specs.Requests.{Request, reply, is_over, first_clock, deadline, or_later, is_broken, requests, last_request}
use Rattle.run_journal.specs.Why.{child_clock, bad_stream, is_out, is_done, is_error, is_not_ready, is_no_idle, is_timed_out, last_deadline, cause_if, why}
use Rattle.run_journal.specs.Decoding.{IsDecoding}
use Rattle.run_journal.specs.Awake.{is_called_for}
use Rattle.run_journal.specs.Course.{course}
use Rattle.run_journal.specs.Agreement.{AgreesOn, BeginsUnread, Flows, KeepsTime, at_once, drawn_clock, KeepsRules}
use Rattle.run_journal.proofs.Flowing.{course_agrees}
use Rattle.run_journal.proofs.Asking.{Stands, nothing, last, stands, done_same, error_same}
use Rattle.run_journal.proofs.Telling.{some_is, among_broken}
use Rattle.run_journal.proofs.Finding.{lost_found, lost_parts, lost_waited}
use Rattle.run_journal.proofs.Dating.{Seen, seen, see, run, passes, start_is, found_is, queued_is, whole}
use Rattle.run_journal.proofs.Dropping.{dropped, whole_told}
use Rattle.run_journal.proofs.Lasting.{once_rows}
use Rattle.run_journal.proofs.Running.{RanAtWait, child_drawn}
use Rattle.run_journal.proofs.Turning.{dates, first_waited}
use Rattle.run_journal.proofs.Lapse.{ran_parts, found_ran, first_ever, ever_before, wait_was}
use Rattle.run_journal.proofs.Interrupting.{ever_lost, queued_interrupted}
use Rattle.run_journal.proofs.Rowing.{standing_after, over_same, plus_more, second_by, Calls, not_ready_calls, last_is, child_found, on, no_idle_calls, plain_calls, second_calls, plus_none}
use Rattle.run_journal.proofs.Truths.{not_both}

-- ---- what more events leave

module _ (d : ℕ) where
  see_found : (e : Event) (s : Seen) → s.found ≡ true → (see d e s).found ≡ true
  see_found (event.Moment ms) s h = h
  see_found event.Looked s h = or_right (is_some s.first) s.found h
  see_found event.Saved s h = h
  see_found event.Ready s h = h
  see_found (event.Io b) s h = h
  see_found (event.Reply f) s h = h
  see_found event.Lost s h = h
  see_found event.Broken s h = h

  pub run_found : (es : List Event) (s : Seen) → s.found ≡ true → (run d es s).found ≡ true
  run_found [] s h = h
  run_found (e ∷ es) s h = run_found es (see d e s) (see_found e s h)

  see_queued : (e : Event) (s : Seen) → s.queued ≡ true → (see d e s).queued ≡ true
  see_queued (event.Moment ms) s h = h
  see_queued event.Looked s h = or_right s.fresh s.queued h
  see_queued event.Saved s h = h
  see_queued event.Ready s h = h
  see_queued (event.Io b) s h = h
  see_queued (event.Reply f) s h = h
  see_queued event.Lost s h = h
  see_queued event.Broken s h = h

  pub run_queued : (es : List Event) (s : Seen) → s.queued ≡ true → (run d es s).queued ≡ true
  run_queued [] s h = h
  run_queued (e ∷ es) s h = run_queued es (see d e s) (see_queued e s h)

  see_start : (e : Event) (s : Seen) (c : ℕ) → s.start ≡ Some c → (see d e s).start ≡ Some c
  see_start (event.Moment ms) s c h = ap (λ o. or_later o (Some ms)) h
  see_start event.Looked s c h = h
  see_start event.Saved s c h = h
  see_start event.Ready s c h = h
  see_start (event.Io b) s c h = h
  see_start (event.Reply f) s c h = h
  see_start event.Lost s c h = h
  see_start event.Broken s c h = h

  run_start : (es : List Event) (s : Seen) (c : ℕ) → s.start ≡ Some c → (run d es s).start ≡ Some c
  run_start [] s c h = h
  run_start (e ∷ es) s c h = run_start es (see d e s) c (see_start e s c h)

  see_first : (e : Event) (s : Seen) (c : ℕ) → s.first ≡ Some c → (see d e s).first ≡ Some c
  see_first (event.Moment ms) s c h = ap (λ o. or_later o (if passes d ms s then Some ms else None)) h
  see_first event.Looked s c h = h
  see_first event.Saved s c h = h
  see_first event.Ready s c h = h
  see_first (event.Io b) s c h = h
  see_first (event.Reply f) s c h = h
  see_first event.Lost s c h = h
  see_first event.Broken s c h = h

  run_first : (es : List Event) (s : Seen) (c : ℕ) → s.first ≡ Some c → (run d es s).first ≡ Some c
  run_first [] s c h = h
  run_first (e ∷ es) s c h = run_first es (see d e s) c (see_first e s c h)

-- ---- rows

pub any_core : (d e b l n i t : Bool)
    → is_some (cond d (Some cause.Done) (cond e (Some cause.CellError) (cond b (Some cause.BadPeer) (cond l (Some cause.KernelLost) (cond n (Some cause.NotReady) (cond i (Some cause.NoIdle) (cond t (Some cause.TimedOut) None)))))))
    ≡ (d || (e || (b || (l || (n || (i || t))))))
any_core true e b l n i t = refl
any_core false true b l n i t = refl
any_core false false true l n i t = refl
any_core false false false true n i t = refl
any_core false false false false true i t = refl
any_core false false false false false true t = refl
any_core false false false false false false true = refl
any_core false false false false false false false = refl

any_row : (d e b l n i t : Bool)
    → is_some (or_later (cause_if d cause.Done) (or_later (cause_if e cause.CellError) (or_later (cause_if b cause.BadPeer) (or_later (cause_if l cause.KernelLost) (or_later (cause_if n cause.NotReady) (or_later (cause_if i cause.NoIdle) (cause_if t cause.TimedOut)))))))
    ≡ (d || (e || (b || (l || (n || (i || t))))))
any_row true e b l n i t = refl
any_row false true b l n i t = refl
any_row false false true l n i t = refl
any_row false false false true n i t = refl
any_row false false false false true i t = refl
any_row false false false false false true t = refl
any_row false false false false false false true = refl
any_row false false false false false false false = refl

abbrev pub rest_of : Job → List Entry → Bool
rest_of j past = is_not_ready j (requests j past) past || (is_no_idle j (last_request 0 (requests j past)) past || is_timed_out j (last_request 0 (requests j past)) past)

module _ (j : Job) (past : List Entry) where
  why_any : is_some (why j past) ≡ (is_done j (saves_of j past) (requests j past) || (is_error j (last_request 0 (requests j past)) || (is_some (bad_stream j past) || (is_lost j past || rest_of j past))))
  why_any =
      any_row (is_done j (saves_of j past) (requests j past)) (is_error j (last_request 0 (requests j past))) (is_some (bad_stream j past)) (is_lost j past)
      (is_not_ready j (requests j past) past) (is_no_idle j (last_request 0 (requests j past)) past) (is_timed_out j (last_request 0 (requests j past)) past)

  lost_why : is_lost j past ≡ true → is_some (why j past) ≡ true
  lost_why e = why_any ∙ or_right (is_done j (saves_of j past) (requests j past)) _ (or_right (is_error j (last_request 0 (requests j past))) _ (or_right (is_some (bad_stream j past)) _ (or_left (is_lost j past) _ e)))

  rest_why : rest_of j past ≡ true → is_some (why j past) ≡ true
  rest_why e = why_any ∙ or_right (is_done j (saves_of j past) (requests j past)) _ (or_right (is_error j (last_request 0 (requests j past))) _ (or_right (is_some (bad_stream j past)) _ (or_right (is_lost j past) _ e)))

  once_why : is_some (at_once (why j past)) ≡ true → is_some (why j past) ≡ true
  once_why e = by (why j past) e
    where
      by : (o : Option Why) → is_some (at_once o) ≡ true → is_some o ≡ true
      by None f = cc
      by (Some w) f = refl

module _ (jobs : List Job) (j : Job) (past : List Entry) (k : KeepsRules jobs j past) (h : RanAtWait j past) (f : Flows j past) (t : KeepsTime j past) (plan : 0 < length j.task.plan)
    (dec : IsDecoding j.codec) (u : BeginsUnread j past) (limits : (ms : ℕ) → j.task.times.limit_ms ≡ Some ms → 0 < ms) where
  abbrev told : List Event
  told = (course j past).told

  abbrev standing : Option core.Standing
  standing = core.standing j.task told

  abbrev left_es : List Event
  left_es = (course j past).held ++ dropped j past

  -- what the events told have found, the entries have
  pub up_found : (d : ℕ) → (seen d told).found ≡ true → (whole d j past).found ≡ true
  up_found d e = ap (λ (s : Seen). s.found) (whole_told j d past) ∙ run_found d left_es (seen d told) e

  pub up_queued : (d : ℕ) → (seen d told).queued ≡ true → (whole d j past).queued ≡ true
  up_queued d e = ap (λ (s : Seen). s.queued) (whole_told j d past) ∙ run_queued d left_es (seen d told) e

  up_start : (c : ℕ) → events.start_time told ≡ Some c → drawn_clock j past ≡ Some c
  up_start c e = sym (dates 0 jobs j past k h).start ∙ ap (λ (s : Seen). s.start) (whole_told j 0 past) ∙ run_start 0 left_es (seen 0 told) c (sym (start_is 0 told) ∙ e)

  up_first : (d c : ℕ) → (seen d told).first ≡ Some c → first_clock d past ≡ Some c
  up_first d c e = sym (dates d jobs j past k h).first ∙ ap (λ (s : Seen). s.first) (whole_told j d past) ∙ run_first d left_es (seen d told) c e

  -- A row that the core has: one that needs no look; a loss found by a look; or a deadline.
  pub data CoreRow : Type 0 where
    once : is_some (at_once (why j past)) ≡ true → CoreRow
    lost : events.look_since events.is_lost told ≡ true → CoreRow
    late : (d : ℕ) → (seen d told).found ≡ true → Calls jobs j past k h f t plan d → (ran_out j d past ≡ true → is_some (why j past) ≡ true) → CoreRow

  -- how an interrupt that the core has queued is one of the request's
  abbrev pub Flagged : Type 0
  Flagged = (m : ℕ) (q : Request) (c ms : ℕ) → length (requests j past) ≡ suc m → slice_get (requests j past) m ≡ Some q → reply q ≡ None → deadline j q ≡ Some c → q.clock < c → j.task.times.interrupt ≡ true
      → (seen c told).queued ≡ true → first_clock c past ≡ Some ms → (seen (ms + interrupt_ms) told).found ≡ true → q.interrupted ≡ true

  not_ready_row : core_saves.is_not_ready j.task (core.standing j.task told) told ≡ true → CoreRow
  not_ready_row e = by (core.standing j.task told) (stands j told past (course_agrees j past f)) e
    where
      one : requests j past ≡ [] → (o : Option ℕ) → events.start_time told ≡ o → looked_by (start_from j.task o) told ≡ true → CoreRow
      one r None g y = cc
      one r (Some c) g y =
          let d : ℕ = c + j.task.times.start_ms in
          let y_found : (seen d told).found ≡ true = sym (found_is d told) ∙ y in
          let drawn = up_start c g in
          let child = some_is (child_clock j past) (child_found jobs j past k h f t plan d (up_found d y_found)) in
          let same : child.0 ≡ c = same_Some _ _ (sym (child_drawn j past k.start child.0 child.1) ∙ drawn) in
          let at : child_clock j past ≡ Some c = child.1 ∙ ap (λ n. Some n) same in
          late d y_found (not_ready_calls jobs j past k h f t plan r c at)
          (λ z. rest_why j past (or_left (is_not_ready j (requests j past) past) _ (ap (λ rs. is_not_ready j rs past) r ∙ ap (λ o. is_out j j.task.times.start_ms o past) at ∙ z)))

      by : (o : Option core.Standing) → Stands j told past o → core_saves.is_not_ready j.task o told ≡ true → CoreRow
      by None (nothing l) y = one (nil_from_length (requests j past) l) (events.start_time told) refl y
      by (Some _) (last m q later l g a) y = cc

  no_idle_row : core_saves.is_no_idle (core.standing j.task told) told ≡ true → CoreRow
  no_idle_row e = by (core.standing j.task told) refl (stands j told past (course_agrees j past f)) e
    where
      one : (m : ℕ) (q : Request) (later : List Event) → length (requests j past) ≡ suc m → slice_get (requests j past) m ≡ Some q → AgreesOn j m later q → core.after j.task m told ≡ Some later
          → (x : Option (Arrival × ℕ)) → reply q ≡ x → is_some (core.reply later) ≡ true → core.is_over later ≡ false
          → events.look_since (events.is_turn_at (replied_at (record { request = m; later = later }) told + idle_ms)) told ≡ true → CoreRow
      one m q later l g a s None r y o z = absurd (not_both (is_some (core.reply later)) y (ap (λ (v : Option Bool). is_some v) (a.reply ∙ ap (option_map (λ v. j.fatal m v.0.content)) r)))
      one m q later l g a s (Some x) r y o z =
          let d : ℕ = x.1 + idle_ms in
          let over : is_over q ≡ false = sym (over_same j m later q a) ∙ o in
          late d (sym (found_is d told) ∙ ap (λ n. events.look_since (events.is_turn_at (n + idle_ms)) told) (sym ((on jobs j past k h f t plan m q l g later s).replied x r)) ∙ z)
          (no_idle_calls jobs j past k h f t plan m q l g x r over)
          (λ w. rest_why j past (or_right (is_not_ready j (requests j past) past) _ (or_left (is_no_idle j (last_request 0 (requests j past)) past) _
          (ap (λ v. is_no_idle j v past) (last_is jobs j past k h f t plan m q l g) ∙ ap (λ b. not b && is_out j idle_ms (option_map (λ v. v.1) (reply q)) past) over ∙ ap (λ v. is_out j idle_ms (option_map (λ v. v.1) v) past) r ∙ w))))

      by : (o : Option core.Standing) → core.standing j.task told ≡ o → Stands j told past o → core_saves.is_no_idle o told ≡ true → CoreRow
      by None w (nothing l) y = cc
      by (Some _) w (last m q later l g a) y =
          let p = and_parts (is_some (core.reply later) && not (core.is_over later)) _ y in
          let r = and_parts (is_some (core.reply later)) (not (core.is_over later)) p.0 in
          one m q later l g a (standing_after j.task (length j.task.plan) told (record { request = m; later = later }) w) (reply q) refl r.0 (not-true (core.is_over later) r.1) p.1

  module _ (m : ℕ) (q : Request) (later : List Event) (l : length (requests j past) ≡ suc m) (g : slice_get (requests j past) m ≡ Some q) (a : AgreesOn j m later q) (s : core.after j.task m told ≡ Some later) (r : reply q ≡ None) (flag : Flagged) (bc : events.came events.is_broken told ≡ false) (lc : events.look_since events.is_lost told ≡ false) where
    timed_why : (d c : ℕ) → deadline j q ≡ Some c → last_deadline j q past (Some c) ≡ Some d → q.clock < c → ran_out j d past ≡ true → is_some (why j past) ≡ true
    timed_why d c dead w under z =
        rest_why j past (or_right (is_not_ready j (requests j past) past) _ (or_right (is_no_idle j (last_request 0 (requests j past)) past) _
        (ap (λ v. is_timed_out j v past) (last_is jobs j past k h f t plan m q l g)
        ∙ ap (λ (v : Option (Arrival × ℕ)). not (is_some v) && is_out j 0 (last_deadline j q past (deadline j q)) past) r
        ∙ ap (λ v. is_out j 0 (last_deadline j q past v) past) dead
        ∙ ap (λ v. is_out j 0 v past) w
        ∙ plus_none j d past
        ∙ z)))

    plain_row : (c : ℕ) → deadline j q ≡ Some c → q.clock < c → j.task.times.interrupt ≡ false → events.look_since (events.is_turn_at c) told ≡ true → CoreRow
    plain_row c dead under i y = late c (sym (found_is c told) ∙ y) (plain_calls jobs j past k h f t plan m q l g r c dead under i) (timed_why c c dead (cond-false j.task.times.interrupt _ (Some c) i) under)

    second_row : (c : ℕ) → deadline j q ≡ Some c → q.clock < c → j.task.times.interrupt ≡ true → is_queued j.task m c told ≡ true → (o : Option ℕ) → (seen c told).first ≡ o → looked_by (option_map (λ n. n + interrupt_ms) o) told ≡ true → CoreRow
    second_row c dead under i y None x z = cc
    second_row c dead under i y (Some ms) x z =
        let d : ℕ = ms + interrupt_ms in
        let z_found : (seen d told).found ≡ true = sym (found_is d told) ∙ z in
        let open_ : is_unanswered (core.after j.task m told) ≡ true = ap is_unanswered s ∙ ap (λ (o : Option Bool). is_none o) (a.reply ∙ ap (option_map (λ v. j.fatal m v.0.content)) r) in
        let first = up_first c ms x in
        let flagged : q.interrupted ≡ true = flag m q c ms l g r dead under i (sym (queued_is c j.task m told open_ bc lc) ∙ y) first z_found in
        late d z_found (second_calls jobs j past k h f t plan m q l g r c dead under i flagged ms first)
        (timed_why d c dead (cond-true j.task.times.interrupt _ (Some c) i ∙ cond-true q.interrupted _ None flagged ∙ ap (option_map (λ n. n + interrupt_ms)) first) under)

    limited_row : (o : Option ℕ) → j.task.times.limit_ms ≡ o → core_saves.is_out_of_time j.task m (deadline j q) told ≡ true → CoreRow
    limited_row None w y = absurd (not_both (core_saves.is_out_of_time j.task m (deadline j q) told) y (ap (λ o. core_saves.is_out_of_time j.task m (option_map (λ limit. q.clock + limit) o) told) w))
    limited_row (Some n) w y = by_interrupt j.task.times.interrupt refl (sym (ap (λ o. core_saves.is_out_of_time j.task m o told) dead) ∙ y)
      where
        c : ℕ
        c = q.clock + n

        dead : deadline j q ≡ Some c
        dead = ap (option_map (λ limit. q.clock + limit)) w

        under : q.clock < c
        under = plus_more q.clock n (limits n w)

        by_interrupt : (i : Bool) → j.task.times.interrupt ≡ i → (if i then is_queued j.task m c told && looked_by (second_deadline c told) told else events.look_since (events.is_turn_at c) told) ≡ true → CoreRow
        by_interrupt true i z =
            let p = and_parts (is_queued j.task m c told) (looked_by (second_deadline c told) told) z in
            second_row c dead under i p.0 (seen c told).first refl (ap (λ o. looked_by o told) (sym (second_by c told)) ∙ p.1)
        by_interrupt false i z = plain_row c dead under i z

  timed_row : Flagged → events.came events.is_broken told ≡ false → events.look_since events.is_lost told ≡ false → core_saves.is_timed_out j.task (core.standing j.task told) told ≡ true → CoreRow
  timed_row flag bc lc e = by (core.standing j.task told) refl (stands j told past (course_agrees j past f)) e
    where
      no_reply : {A B : Type 0} (g : A → B) (o : Option A) → is_none (option_map g o) ≡ true → o ≡ None
      no_reply g None y = refl
      no_reply g (Some x) y = cc

      by : (o : Option core.Standing) → core.standing j.task told ≡ o → Stands j told past o → core_saves.is_timed_out j.task o told ≡ true → CoreRow
      by None w (nothing l) y = cc
      by (Some _) w (last m q later l g a) y =
          let s = standing_after j.task (length j.task.plan) told (record { request = m; later = later }) w in
          let p = and_parts (is_none (core.reply later)) _ y in
          let r : reply q ≡ None = no_reply (λ v. j.fatal m v.0.content) (reply q) (ap (λ (o : Option Bool). is_none o) (sym a.reply) ∙ p.0) in
          limited_row m q later l g a s r flag bc lc j.task.times.limit_ms refl
          (ap (λ c. core_saves.is_out_of_time j.task m (option_map (λ limit. c + limit) j.task.times.limit_ms) told) (sym (on jobs j past k h f t plan m q l g later s).stood) ∙ p.1)

  -- each cause of the core is such a row
  pub core_row : Flagged → is_some (core_saves.why j.task told) ≡ true → CoreRow
  core_row flag e = by (cases_Bool (events.came events.is_broken told)) (cases_Bool (events.look_since events.is_lost told))
      (sym (any_core (core_saves.is_done j.task told) (core_saves.is_cell_error standing) (events.came events.is_broken told) (events.look_since events.is_lost told)
      (core_saves.is_not_ready j.task standing told) (core_saves.is_no_idle standing told) (core_saves.is_timed_out j.task standing told)) ∙ e)
    where
      by_done : is_done j (saves_of j past) (requests j past) ≡ true → CoreRow
      by_done y = once (once_rows j past ∙ or_left (is_done j (saves_of j past) (requests j past)) _ y)

      by_error : is_error j (last_request 0 (requests j past)) ≡ true → CoreRow
      by_error y = once (once_rows j past ∙ or_right (is_done j (saves_of j past) (requests j past)) _ (or_left (is_error j (last_request 0 (requests j past))) _ y))

      by_broken : is_broken j past ≡ true → CoreRow
      by_broken y = once (once_rows j past ∙ or_right (is_done j (saves_of j past) (requests j past)) _ (or_right (is_error j (last_request 0 (requests j past))) _ y))

      by_time : events.came events.is_broken told ≡ false → events.look_since events.is_lost told ≡ false
          → (core_saves.is_not_ready j.task standing told || (core_saves.is_no_idle standing told || core_saves.is_timed_out j.task standing told)) ≡ true → CoreRow
      by_time b l y = elim (or_cases (core_saves.is_not_ready j.task standing told) _ y) [
        | inl z ↦ not_ready_row z
        | inr z ↦ elim (or_cases (core_saves.is_no_idle standing told) _ z) [
          | inl w ↦ no_idle_row w
          | inr w ↦ timed_row flag b l w
        ]
      ]

      by : (events.came events.is_broken told ≡ true) ⊎ (events.came events.is_broken told ≡ false) → (events.look_since events.is_lost told ≡ true) ⊎ (events.look_since events.is_lost told ≡ false)
          → (core_saves.is_done j.task told || (core_saves.is_cell_error standing || (events.came events.is_broken told || (events.look_since events.is_lost told
          || (core_saves.is_not_ready j.task standing told || (core_saves.is_no_idle standing told || core_saves.is_timed_out j.task standing told)))))) ≡ true → CoreRow
      by (inl b) l y = by_broken (sym (among_broken j dec past u f) ∙ or_left (events.came events.is_broken told) _ b)
      by (inr b) (inl l) y = lost l
      by (inr b) (inr l) y = elim (or_cases (core_saves.is_done j.task told) _ y) [
        | inl z ↦ by_done (sym (done_same j told past (course_agrees j past f) plan) ∙ z)
        | inr z ↦ elim (or_cases (core_saves.is_cell_error standing) _ z) [
          | inl w ↦ by_error (sym (error_same j told past (course_agrees j past f)) ∙ w)
          | inr w ↦ by_time b l
              (sym (ap (λ x. x || (core_saves.is_not_ready j.task standing told || (core_saves.is_no_idle standing told || core_saves.is_timed_out j.task standing told))) l)
              ∙ sym (ap (λ x. x || (events.look_since events.is_lost told || (core_saves.is_not_ready j.task standing told || (core_saves.is_no_idle standing told || core_saves.is_timed_out j.task standing told)))) b)
              ∙ w)
        ]
      ]

  -- ---- by the journal

  -- It stops the job at once, or by a look that is over.
  pub data Shown : Type 0 where
    at : is_some (at_once (why j past)) ≡ true → Shown
    look : has_wait past ≡ true → is_called_for j (before_wait past) ≡ true → is_look j past ≡ true → is_some (why j past) ≡ true → Shown

  lost_shown : is_lost j past ≡ true → Shown
  lost_shown e =
      let p = lost_parts j past e in
      let w = lost_waited j past p.1 in
      look w (and_from (is_running j (before_wait past)) _ (h w) (or_left (ever (shows_lost j) (before_wait past)) _ p.1)) p.0 (lost_why j past e)

  pub shown : is_some (core_saves.why j.task told) ≡ true → Shown
  shown e = by (cases_Bool (is_broken j past)) (cases_Bool (is_lost j past))
    where
      of_row : CoreRow → Shown
      of_row (once y) = at y
      of_row (lost y) = lost_shown (ever_lost jobs j past k h (lost_found j past y))
      of_row (late d y c row) = elim (found_ran d jobs j past k h (up_found d y)) [
        | inl r ↦
            let p = ran_parts j d past r in
            look (first_waited d past (first_ever d past ∙ ever_before (is_past d) (wait_was past) p.1)) (c.called r) p.0 (row r)
        | inr l ↦ absurd (c.left l)
      ]

      by : (is_broken j past ≡ true) ⊎ (is_broken j past ≡ false) → (is_lost j past ≡ true) ⊎ (is_lost j past ≡ false) → Shown
      by (inl b) l = at (once_rows j past ∙ or_right (is_done j (saves_of j past) (requests j past)) _ (or_right (is_error j (last_request 0 (requests j past))) _ b))
      by (inr b) (inl l) = lost_shown l
      by (inr b) (inr l) = of_row (core_row (λ m q c ms n g r dead under i w x z. queued_interrupted c jobs j dec i past k h u b l m q g r dead under (up_queued c w)) e)

  -- so it has stopped the job
  pub shown_why : Shown → is_some (why j past) ≡ true
  shown_why (at y) = once_why j past y
  shown_why (look w c l y) = y
