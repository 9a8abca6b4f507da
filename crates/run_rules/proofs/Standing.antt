-- The deadline that stands for the core of a job that goes on is that which stands by the journal.
use Rattle.std.proofs.Common.{◌≡◌, ◌⊎◌, inl, inr, ℕ, suc, ◌+◌, List, [], ◌∷◌, ◌++◌, length, Bool, true, false, ◌&&◌, Option, Some, None, refl, sym, ◌∙◌, ap}
use Rattle.std.specs.Prelude.{is_some, option_map, option_to_list, slice_get, if◌then◌else◌}
use Rattle.std.proofs.lemmas.Bool.{cond-true, cond-false, cases_Bool, false_from_ne_true}
use Rattle.std.proofs.lemmas.List.{append-nil, nil_from_length}
use Rattle.world.specs.declared.entry.Entry.{Entry}
use Rattle.cell_core.specs.declared.event.Event.{Event}
use Rattle.cell_core.specs.declared.why.Why.{Why}
use Rattle.cell_core.specs.Acts.{due_at, due_of}
use Rattle.cell_core.specs.Deadlines.{by_limit, deadline as core_deadline, idle_ms, interrupt_ms, is_queued, replied_at, second_deadline, start_from, stood_at}
use Rattle.cell_core.specs.Events as events
use Rattle.cell_core.specs.Requests as core
use Rattle.cell_core.specs.Saves as core_saves
use Rattle.run_journal.specs.Codec.{Arrival}
use Rattle.run_journal.specs.Job.{Job}
use Rattle.run_journal.specs.Arrivals.{is_ready}
use Rattle.run_journal.specs.Requests.{Request, deadline, first_clock, has_idle, last_request, reply, requests}
use Rattle.run_journal.specs.Why.{child_clock}
use Rattle.run_journal.specs.Awake.{deadlines, reply_deadline, request_deadline, start_deadline, wait_deadline}
use Rattle.run_journal.specs.Course.{course}
use Rattle.run_journal.specs.Agreement.{AgreesOn, ClocksOn}
use Rattle.run_journal.proofs.Asking.{Stands, last, nothing, stands}
use Rattle.run_journal.proofs.Earlier.{ready_stands}
use Rattle.run_journal.proofs.Flowing.{course_agrees}
use Rattle.run_journal.proofs.Hearing.{none_unready}
use Rattle.run_journal.proofs.Rowing.{last_is, none_last, on, second_by, standing_after}
use Rattle.run_journal.proofs.Running.{begun_child, child_drawn, drawn_acked, running_parts}
use Rattle.run_journal.proofs.Seconds.{uninterrupted}
use Rattle.run_journal.proofs.Settling.{interrupts_settled}
use Rattle.run_journal.proofs.Telling.{some_is}
use Rattle.run_rules.specs.Going.{GoesOn, IsOfRun}
use Rattle.run_rules.proofs.Core.{all_told, first_same, looks_over, no_core_cause, start_same, time_kept, unbroken, unlost, unread}

module _ (jobs : List Job) (j : Job) (past : List Entry) (r : IsOfRun jobs j past) (g : GoesOn j past) where
  abbrev told : List Event
  told = (course j past).told

  -- ---- that of readiness

  child : (c : ℕ) × (child_clock j past ≡ Some c)
  child = some_is (child_clock j past) (begun_child j past r.rules.start (running_parts j past g.running).0)

  drawn : events.start_time told ≡ Some child.0
  drawn = start_same jobs j past r g ∙ child_drawn j past r.rules.start child.0 child.1

  unready : requests j past ≡ [] → is_ready j past ≡ false
  unready e =
      let acks = drawn_acked j past r.rules.start (ap (λ (o : Option ℕ). is_some o) (child_drawn j past r.rules.start child.0 child.1)) in
      false_from_ne_true (is_ready j past) (λ y. ready_stands j past y acks r.planned e)

  start_stands : requests j past ≡ [] → start_deadline j past ≡ option_to_list (start_from j.task (events.start_time told))
  start_stands e =
      cond-false (is_ready j past) [] _ (unready e)
      ∙ ap (λ o. option_to_list (option_map (λ ms. ms + j.task.times.start_ms) o)) (child.1 ∙ sym drawn)

  start_over : (m : ℕ) → length (requests j past) ≡ suc m → start_deadline j past ≡ []
  start_over m l = by (cases_Bool (is_ready j past))
    where
      by : (is_ready j past ≡ true) ⊎ (is_ready j past ≡ false) → start_deadline j past ≡ []
      by (inl y) = cond-true (is_ready j past) [] _ y
      by (inr y) = absurd (none_more (ap (λ (rs : List Request). length rs) (sym (none_unready j past y)) ∙ l))
        where
          none_more : 0 ≡ suc m → ⊥
          none_more e = cc

  -- ---- that of the last request

  module _ (m : ℕ) (q : Request) (later : List Event) (l : length (requests j past) ≡ suc m) (e : slice_get (requests j past) m ≡ Some q) (a : AgreesOn j m later q) (s : core.after j.task m told ≡ Some later) where
    abbrev standing : core.Standing
    standing = record { request = m; later = later }

    last_so : last_request 0 (requests j past) ≡ Some (m, q)
    last_so = last_is jobs j past r.rules r.ran r.flows (time_kept jobs j past r) r.planned m q l e

    second_same : (c : ℕ) → second_deadline c told ≡ option_map (λ ms. ms + interrupt_ms) (first_clock c past)
    second_same c = second_by c told ∙ ap (option_map (λ n. n + interrupt_ms)) (first_same jobs j past r g c)

    -- its first deadline, or that which its interrupt sets
    limited : reply q ≡ None → (o : Option ℕ) → deadline j q ≡ o → option_to_list (by_limit j.task m o told) ≡ reply_deadline j past q o
    limited n None d = refl
    limited n (Some c) d = by (cases_Bool j.task.times.interrupt)
      where
        by : (j.task.times.interrupt ≡ true) ⊎ (j.task.times.interrupt ≡ false) → option_to_list (by_limit j.task m (Some c) told) ≡ reply_deadline j past q (Some c)
        by (inl i) =
            ap (λ b. option_to_list (if b && is_queued j.task m c told then second_deadline c told else Some c)) i
            ∙ ap (λ b. option_to_list (if b then second_deadline c told else Some c))
            (interrupts_settled jobs j past r.decodes r.planned r.limited r.rules r.ran (unread jobs j past r) r.flows (time_kept jobs j past r) (looks_over jobs j past r) g.unheld (unbroken jobs j past r g) (unlost jobs j past r g) i m q c last_so n d)
            ∙ ap (λ o. option_to_list (if q.interrupted then o else Some c)) (second_same c)
            ∙ either q.interrupted
          where
            either : (b : Bool) → option_to_list (if b then option_map (λ ms. ms + interrupt_ms) (first_clock c past) else Some c) ≡ (if b then option_to_list (option_map (λ ms. ms + interrupt_ms) (first_clock c past)) else c ∷ [])
            either true = refl
            either false = refl
        by (inr i) =
            ap (λ b. option_to_list (if b && is_queued j.task m c told then second_deadline c told else Some c)) i
            ∙ sym (cond-false q.interrupted _ (c ∷ []) (uninterrupted j i past m q e))

    last_stands : option_to_list (core_deadline j.task standing told) ≡ request_deadline j past (Some (m, q))
    last_stands =
        ap (λ (o : Option Bool). option_to_list (if is_some o then (if core.has_idle (core.own later) then None else Some (replied_at standing told + idle_ms)) else by_limit j.task m (option_map (λ limit. stood + limit) j.task.times.limit_ms) told)) a.reply
        ∙ ap (λ b. option_to_list (if is_some (option_map (λ v. j.fatal m v.0.content) (reply q)) then (if b then None else Some (replied_at standing told + idle_ms)) else by_limit j.task m (option_map (λ limit. stood + limit) j.task.times.limit_ms) told)) a.idle
        ∙ ap (λ n. option_to_list (if is_some (option_map (λ v. j.fatal m v.0.content) (reply q)) then (if has_idle q.io then None else Some (replied_at standing told + idle_ms)) else by_limit j.task m (option_map (λ limit. n + limit) j.task.times.limit_ms) told)) clocks.stood
        ∙ by (reply q) refl
      where
        clocks : ClocksOn m told later q
        clocks = on jobs j past r.rules r.ran r.flows (time_kept jobs j past r) r.planned m q l e later s

        stood : ℕ
        stood = stood_at standing told

        by : (o : Option (Arrival × ℕ)) → reply q ≡ o
            → option_to_list (if is_some (option_map (λ v. j.fatal m v.0.content) o) then (if has_idle q.io then None else Some (replied_at standing told + idle_ms)) else by_limit j.task m (deadline j q) told)
            ≡ wait_deadline j past q (option_map (λ v. v.1) o)
        by None n = limited n (deadline j q) refl
        by (Some x) n =
            ap (λ t. option_to_list (if has_idle q.io then None else Some (t + idle_ms))) (clocks.replied x n)
            ∙ over (has_idle q.io)
            ∙ ap (λ (o : Option (Arrival × ℕ)). if has_idle q.io && is_some o then [] else (x.1 + idle_ms) ∷ []) (sym n)
          where
            over : (b : Bool) → option_to_list (if b then None else Some (x.1 + idle_ms)) ≡ (if b && true then [] else (x.1 + idle_ms) ∷ [])
            over true = refl
            over false = refl

  -- ---- the one that stands

  pub stands_same : option_to_list (due_at j.task (core.standing j.task told) told) ≡ deadlines j past
  stands_same = by (core.standing j.task told) refl (stands j told past (course_agrees j past r.flows))
    where
      by : (o : Option core.Standing) → core.standing j.task told ≡ o → Stands j told past o → option_to_list (due_at j.task o told) ≡ deadlines j past
      by None f (nothing l) =
          sym (ap (λ ats. ats ++ request_deadline j past (last_request 0 (requests j past))) (start_stands (nil_from_length (requests j past) l))
          ∙ ap (λ o. option_to_list (start_from j.task (events.start_time told)) ++ request_deadline j past o) (none_last jobs j past r.rules r.ran r.flows (time_kept jobs j past r) r.planned l)
          ∙ append-nil (option_to_list (start_from j.task (events.start_time told))))
      by (Some _) f (last m q later l e a) =
          let s = standing_after j.task (length j.task.plan) told (record { request = m; later = later }) f in
          last_stands m q later l e a s
          ∙ sym (ap (λ ats. ats ++ request_deadline j past (last_request 0 (requests j past))) (start_over m l)
          ∙ ap (request_deadline j past) (last_so m q later l e a s))

  pub due_same : option_to_list (due_of j.task told) ≡ deadlines j past
  due_same =
      ap (λ es. option_to_list (if is_some (core_saves.why j.task es) then None else due_at j.task (core.standing j.task es) es)) (all_told jobs j past r g)
      ∙ ap (λ (w : Option Why). option_to_list (if is_some w then None else due_at j.task (core.standing j.task told) told)) (no_core_cause jobs j past r g)
      ∙ stands_same
