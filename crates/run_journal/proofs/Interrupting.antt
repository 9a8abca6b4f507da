-- The interrupt of the last request is queued for the core where it is by the journal, as long as nothing else has stopped the job.
use Rattle.std.proofs.Common.{◌≡◌, ◌⊎◌, inl, inr, ℕ, suc, ◌+◌, ◌<◌, List, [], ◌∷◌, length, Bool, true, false, ◌&&◌, ◌||◌, not, Option, Some, None, refl, sym, ◌∙◌, ap, subst, arith}
use Rattle.std.specs.Prelude.{is_some, option_map, option_to_list, slice_get, if◌then◌else◌}
use Rattle.std.specs.List.{list_any}
use Rattle.std.proofs.lemmas.List.Folds.{list_any-append}
use Rattle.std.proofs.lemmas.Bool.{and_parts, and_from, or_left, or_right, cond-true, cond-false, cases_Bool, false_from_ne_true, not_from_false, or_cases}
use Rattle.std.proofs.lemmas.Option.{slice_get_within}
use Rattle.world.specs.declared.chan.Chan.{Chan}
use Rattle.world.specs.declared.chan.Chan.TheVariants.{Shell, Iopub}
use Rattle.world.specs.declared.entry.Entry.{Entry}
use Rattle.world.specs.Places.{time}
use Rattle.world.specs.Waits.{is_wait, has_wait, before_wait}
use Rattle.cell_core.specs.declared.why.Why.TheVariants as cause
use Rattle.run_journal.specs.Codec.{Arrival}
use Rattle.run_journal.specs.Job.{Job}
use Rattle.run_journal.specs.Parts.{saves_of, is_running}
use Rattle.run_journal.specs.Arrivals.{arrive}
use Rattle.run_journal.specs.Looks.{ever, shows_lost, is_lost, is_past}
use Rattle.run_journal.specs.Requests.{Request, reply, or_later, first_clock, just_ran_out, deadline, is_just_out, is_broken, is_interrupted, with_news, goes_on, requests, last_request}
use Rattle.run_journal.specs.Why.{cause_if, bad_stream, is_done, is_error, is_not_ready, is_no_idle, is_timed_out, why}
use Rattle.run_journal.specs.Due.{all_along}
use Rattle.run_journal.specs.Order.{begins_unread}
use Rattle.run_journal.specs.Decoding.{IsDecoding}
use Rattle.run_journal.specs.Awake.{start_deadline, reply_deadline, wait_deadline, request_deadline, deadlines, has_passed, is_called_for, keeps_up}
use Rattle.run_journal.specs.Course.{ends_look}
use Rattle.run_journal.specs.Agreement.{BeginsUnread, KeepsRules}
use Rattle.run_journal.proofs.Growth.{goes, reply_stays, length_on}
use Rattle.run_journal.proofs.Telling.{stays_broken, unread_before}
use Rattle.run_journal.proofs.Sighting.{looked_stays}
use Rattle.run_journal.proofs.Finding.{lost_is, lost_parts}
use Rattle.run_journal.proofs.Dating.{Seen, whole, end}
use Rattle.run_journal.proofs.Running.{rules_before, RanAtWait, ran_before, runs_at_wait}
use Rattle.run_journal.proofs.Turning.{first_waited, dates, dates_clock}
use Rattle.run_journal.proofs.Lapse.{Before, here, earlier, wait_was, ever_before, clock_from, first_ever, first_before, wait_unstopped, ends_parts, clocks_kept, end_queues, then_seen, whole_is, still_now, just_parts, just_from, just_queued}
use Rattle.run_journal.proofs.Earlier.{go_before, CameBy, stood, anew, came_by, stood_before, last_before}
use Rattle.run_journal.proofs.Truths.{not_both, too_late}

-- ---- what has not stopped a job

-- where nothing has, no row holds
pub rows_none : (d e b l n i t : Bool)
    → or_later (cause_if d cause.Done) (or_later (cause_if e cause.CellError) (or_later (cause_if b cause.BadPeer) (or_later (cause_if l cause.KernelLost) (or_later (cause_if n cause.NotReady) (or_later (cause_if i cause.NoIdle) (cause_if t cause.TimedOut)))))) ≡ None
    → (l ≡ false) × (n ≡ false) × (i ≡ false) × (t ≡ false)
rows_none true e b l n i t f = cc
rows_none false true b l n i t f = cc
rows_none false false true l n i t f = cc
rows_none false false false true n i t f = cc
rows_none false false false false true i t f = cc
rows_none false false false false false true t f = cc
rows_none false false false false false false true f = cc
rows_none false false false false false false false f = (refl, refl, refl, refl)

pub none_holds : (j : Job) (past : List Entry) → why j past ≡ None
    → (is_lost j past ≡ false) × (is_not_ready j (requests j past) past ≡ false) × (is_no_idle j (last_request 0 (requests j past)) past ≡ false) × (is_timed_out j (last_request 0 (requests j past)) past ≡ false)
none_holds j past e =
    rows_none (is_done j (saves_of j past) (requests j past)) (is_error j (last_request 0 (requests j past))) (is_some (bad_stream j past)) (is_lost j past)
    (is_not_ready j (requests j past) past) (is_no_idle j (last_request 0 (requests j past)) past) (is_timed_out j (last_request 0 (requests j past)) past) e

-- a kernel that isn't lost wasn't before
module _ (jobs : List Job) (j : Job) (entry : Entry) (past : List Entry) (k : KeepsRules jobs j (entry ∷ past)) (h : RanAtWait j (entry ∷ past)) where
  pub lost_stays : is_lost j past ≡ true → is_lost j (entry ∷ past) ≡ true
  lost_stays e = by (cases_Bool (is_wait entry))
    where
      by : (is_wait entry ≡ true) ⊎ (is_wait entry ≡ false) → is_lost j (entry ∷ past) ≡ true
      by (inl w) =
          absurd (not_both (is_lost j past) e
          (none_holds j past (wait_unstopped jobs j entry past k.among w (and_parts (keeps_up jobs (entry ∷ past)) (all_along (keeps_up jobs) past) k.awake.up_to_date).0 (runs_at_wait jobs j entry past k h w))).0)
      by (inr w) =
          let p = lost_parts j past e in
          lost_is j (entry ∷ past) (looked_stays j entry past w p.0) (ap (ever (shows_lost j)) (cond-false (is_wait entry) past (before_wait past) w) ∙ p.1)

pub ever_lost : (jobs : List Job) (j : Job) (past : List Entry) → KeepsRules jobs j past → RanAtWait j past → ever (is_lost j) past ≡ true → is_lost j past ≡ true
ever_lost jobs j [] k h e = cc
ever_lost jobs j (entry ∷ past) k h e = elim (or_cases (is_lost j (entry ∷ past)) (ever (is_lost j) past) e) [
  | inl f ↦ f
  | inr f ↦ lost_stays jobs j entry past k h (ever_lost jobs j past (rules_before jobs j entry past k) (ran_before jobs j entry past k h) f)
]

-- ---- what calls for a look

called_by : (j : Job) (d : ℕ) (past : List Entry) → is_running j past ≡ true → has_passed (deadlines j past) past ≡ true → is_called_for j past ≡ true
called_by j d past r e = and_from (is_running j past) _ r (or_right (ever (shows_lost j) past) (has_passed (deadlines j past) past) e)

one_passed : (d : ℕ) (past : List Entry) (ats : List ℕ) → ats ≡ d ∷ [] → ever (is_past d) past ≡ true → list_any (λ at. ever (is_past at) past) ats ≡ true
one_passed d past ats e f = ap (list_any (λ at. ever (is_past at) past)) e ∙ or_left (ever (is_past d) past) false f

pub called_start : (j : Job) (d : ℕ) (past : List Entry) → is_running j past ≡ true → start_deadline j past ≡ d ∷ [] → ever (is_past d) past ≡ true → is_called_for j past ≡ true
called_start j d past r e f =
    called_by j d past r
    (list_any-append (λ at. ever (is_past at) past) (start_deadline j past) (request_deadline j past (last_request 0 (requests j past)))
    ∙ or_left _ _ (one_passed d past (start_deadline j past) e f))

pub called_request : (j : Job) (d : ℕ) (past : List Entry) → is_running j past ≡ true → request_deadline j past (last_request 0 (requests j past)) ≡ d ∷ [] → ever (is_past d) past ≡ true → is_called_for j past ≡ true
called_request j d past r e f =
    called_by j d past r
    (list_any-append (λ at. ever (is_past at) past) (start_deadline j past) (request_deadline j past (last_request 0 (requests j past)))
    ∙ or_right (list_any (λ at. ever (is_past at) past) (start_deadline j past)) _ (one_passed d past (request_deadline j past (last_request 0 (requests j past))) e f))

-- ---- a request without a reply

pub no_reply_before : (r s : Request) → (is_some (reply r) ≡ true → reply s ≡ reply r) → reply s ≡ None → reply r ≡ None
no_reply_before r s f e = by (reply r) refl
  where
    by : (o : Option (Arrival × ℕ)) → reply r ≡ o → reply r ≡ None
    by None g = g
    by (Some x) g = absurd (some (sym g ∙ sym (f (ap is_some g)) ∙ e))
      where
        some : Some x ≡ None → ⊥
        some i = cc

same_deadline : (j : Job) (r s : Request) → s.clock ≡ r.clock → deadline j s ≡ deadline j r
same_deadline j r s e = ap (λ c. option_map (λ limit. c + limit) j.task.times.limit_ms) e

pub interrupted_parts : (j : Job) (past : List Entry) (r : Request) → is_interrupted j past r ≡ true → is_just_out j past (deadline j r) ≡ true
unfolding is_interrupted
interrupted_parts j past r e =
    let a = and_parts (j.task.times.interrupt && not (is_some (reply r)) && is_just_out j past (deadline j r) && not (is_broken j past)) (not (is_lost j past)) e in
    let b = and_parts (j.task.times.interrupt && not (is_some (reply r)) && is_just_out j past (deadline j r)) (not (is_broken j past)) a.0 in
    (and_parts (j.task.times.interrupt && not (is_some (reply r))) (is_just_out j past (deadline j r)) b.0).1

interrupted_from : (j : Job) (past : List Entry) (r : Request) → j.task.times.interrupt ≡ true → reply r ≡ None → is_just_out j past (deadline j r) ≡ true → is_broken j past ≡ false → is_lost j past ≡ false → is_interrupted j past r ≡ true
unfolding is_interrupted
interrupted_from j past r i n o b l =
    and_from (j.task.times.interrupt && not (is_some (reply r)) && is_just_out j past (deadline j r) && not (is_broken j past)) (not (is_lost j past))
    (and_from (j.task.times.interrupt && not (is_some (reply r)) && is_just_out j past (deadline j r)) (not (is_broken j past))
    (and_from (j.task.times.interrupt && not (is_some (reply r))) (is_just_out j past (deadline j r))
    (and_from j.task.times.interrupt (not (is_some (reply r))) i (ap (λ (v : Option (Arrival × ℕ)). not (is_some v)) n)) o)
    (not_from_false (is_broken j past) b)) (not_from_false (is_lost j past) l)

just_out : (j : Job) (d : ℕ) (past : List Entry) (o : Option ℕ) → o ≡ Some d → is_just_out j past o ≡ just_ran_out j d past
just_out j d past o e = ap (is_just_out j past) e

-- the wait before an entry's moment was one before it
pub wait_past : (entry : Entry) (past : List Entry) → Before (before_wait (entry ∷ past)) past
wait_past entry past = elim (cases_Bool (is_wait entry)) [
  | inl f ↦ subst (λ v. Before v past) (sym (cond-true (is_wait entry) past (before_wait past) f)) here
  | inr f ↦ subst (λ v. Before v past) (sym (cond-false (is_wait entry) past (before_wait past) f)) (wait_was past)
]

end_queued : (b : Bool) (s : Seen) → (end b s).queued ≡ true → ((b ≡ true) × (s.fresh ≡ true)) ⊎ (s.queued ≡ true)
end_queued true s e = elim (or_cases s.fresh s.queued e) [
  | inl f ↦ inl (refl, f)
  | inr f ↦ inr f
]
end_queued false s e = inr e

module _ (d : ℕ) (jobs : List Job) (j : Job) where
  -- ---- the journal's interrupt is the core's

  module _ (entry : Entry) (past : List Entry) (k : KeepsRules jobs j (entry ∷ past)) (h : RanAtWait j (entry ∷ past)) where
    rules : KeepsRules jobs j past
    rules = rules_before jobs j entry past k

    queued_stays : (whole d j past).queued ≡ true → (whole d j (entry ∷ past)).queued ≡ true
    queued_stays e =
        ap (λ (s : Seen). s.queued) (whole_is d jobs j entry past k h)
        ∙ end_queues (ends_look j entry past) (then_seen d jobs j entry past k h) ((clocks_kept d j entry past (whole d j past)).1 ∙ e)

    -- a look directly after the first clock entry, at which a request stands that came to stand before it
    passed_wait : just_ran_out j d (entry ∷ past) ≡ true → ever (is_past d) (before_wait (entry ∷ past)) ≡ true
    passed_wait e = sym (first_ever d (before_wait (entry ∷ past))) ∙ (just_parts d jobs j (entry ∷ past) e).1

    -- none that comes to stand now did so before a clock entry past its deadline
    not_anew : (r : Request) → r.clock ≡ time past → r.clock < d → ever (is_past d) past ≡ true → ⊥
    not_anew r e l f = too_late d (time past) r.clock (clock_from d past rules.rising f) e l

    now_queued : (i : ℕ) (o : Request) → slice_get (requests j past) i ≡ Some o → length (requests j past) ≡ suc i → reply o ≡ None → deadline j o ≡ Some d → o.clock < d → o.interrupted ≡ false
        → just_ran_out j d (entry ∷ past) ≡ true → (whole d j (entry ∷ past)).queued ≡ true
    now_queued i o s l n c u b e =
        let f = passed_wait e in
        let w = stood_before j d (wait_past entry past) rules.rising f i o s u in
        let none : reply w.old ≡ None = no_reply_before w.old o (reply_stays w.old o w.on) n in
        let calm : w.old.interrupted ≡ false = false_before w.old.interrupted o.interrupted w.on.interrupted b in
        let waited : has_wait (entry ∷ past) ≡ true = first_waited d (entry ∷ past) (ap (λ (v : Option ℕ). is_some v) (first_before d (wait_was (entry ∷ past)) (just_parts d jobs j (entry ∷ past) e).1) ∙ (just_parts d jobs j (entry ∷ past) e).1) in
        let called = called_request j d (before_wait (entry ∷ past)) (h waited)
        (ap (request_deadline j (before_wait (entry ∷ past))) (last_before j (wait_past entry past) i o l w).1
        ∙ by_reply w.old (reply w.old) none (same_deadline j o w.old (sym w.on.clock) ∙ c) calm) f in
        just_queued d jobs j (entry ∷ past) k h e called
      where
        false_before : (a b : Bool) → (a ≡ true → b ≡ true) → b ≡ false → a ≡ false
        false_before true b g e = absurd (not_both b (g refl) e)
        false_before false b g e = refl

        by_calm : (v : Request) (x : Bool) → v.interrupted ≡ x → x ≡ false → (if v.interrupted then option_to_list (option_map (λ ms. ms + 10000) (first_clock d (before_wait (entry ∷ past)))) else d ∷ []) ≡ d ∷ []
        by_calm v x g e = cond-false v.interrupted _ (d ∷ []) (g ∙ e)

        by_reply : (v : Request) (x : Option (Arrival × ℕ)) → x ≡ None → deadline j v ≡ Some d → v.interrupted ≡ false → wait_deadline j (before_wait (entry ∷ past)) v (option_map (λ m. m.1) x) ≡ d ∷ []
        by_reply v None e c b = ap (reply_deadline j (before_wait (entry ∷ past)) v) c ∙ by_calm v v.interrupted refl b
        by_reply v (Some x) e c b = cc

  -- where the journal has queued it, so has the core
  pub interrupted_queued : (past : List Entry) → KeepsRules jobs j past → RanAtWait j past → (i : ℕ) (r : Request) → slice_get (requests j past) i ≡ Some r → length (requests j past) ≡ suc i → reply r ≡ None
      → deadline j r ≡ Some d → r.clock < d → r.interrupted ≡ true → (whole d j past).queued ≡ true
  interrupted_queued [] k h i r g l n c u e = cc
  interrupted_queued (entry ∷ past) k h i r g l n c u e = by (λ o a b x y z w. interrupted_queued past (rules_before jobs j entry past k) (ran_before jobs j entry past k h) i o a b x y z w) (came_by j entry past i r g)
    where
      news : Request → Request
      news o = with_news j o (arrive j Iopub entry past) (arrive j Shell entry past) (time past)

      old : ((o : Request) → slice_get (requests j past) i ≡ Some o → length (requests j past) ≡ suc i → reply o ≡ None → deadline j o ≡ Some d → o.clock < d → o.interrupted ≡ true → (whole d j past).queued ≡ true)
          → (o : Request) → slice_get (requests j past) i ≡ Some o → r ≡ goes_on j entry past o → (o.interrupted ≡ true) ⊎ ((o.interrupted ≡ false) × (is_interrupted j (entry ∷ past) (news o) ≡ true)) → (whole d j (entry ∷ past)).queued ≡ true
      old ih o s m q =
          let on = goes j entry past o in
          let none : reply o ≡ None = no_reply_before o (goes_on j entry past o) (reply_stays o (goes_on j entry past o) on) (ap reply (sym m) ∙ n) in
          let at : o.clock ≡ r.clock = ap (λ (v : Request). v.clock) (sym m) in
          let dead : deadline j o ≡ Some d = same_deadline j r o at ∙ c in
          let under : o.clock < d = subst (λ v. v < d) (sym at) u in
          let count : length (requests j past) ≡ suc i = (let a = length_on (go_before j {q = past} {past = entry ∷ past} (earlier entry here)) in let b = slice_get_within (requests j past) i o s in omega (arith, l, a, b)) in
          elim q [
            | inl f ↦ queued_stays entry past k h (ih o s count none dead under f)
            | inr f ↦ now_queued entry past k h i o s count none dead under f.0 (sym (just_out j d (entry ∷ past) (deadline j (news o)) dead) ∙ interrupted_parts j (entry ∷ past) (news o) f.1)
          ]

      split : (a b : Bool) → (a || b) ≡ true → (a ≡ true) ⊎ ((a ≡ false) × (b ≡ true))
      split true b f = inl refl
      split false b f = inr (refl, f)

      by : ((o : Request) → slice_get (requests j past) i ≡ Some o → length (requests j past) ≡ suc i → reply o ≡ None → deadline j o ≡ Some d → o.clock < d → o.interrupted ≡ true → (whole d j past).queued ≡ true)
          → CameBy j entry past i r → (whole d j (entry ∷ past)).queued ≡ true
      by ih (stood o s m) = old ih o s m (split o.interrupted (is_interrupted j (entry ∷ past) (news o)) (ap (λ (v : Request). v.interrupted) (sym m) ∙ e))
      by ih (anew m) =
          let f : just_ran_out j d (entry ∷ past) ≡ true
          = sym (just_out j d (entry ∷ past) _ (ap (deadline j) (sym m) ∙ c)) ∙ interrupted_parts j (entry ∷ past) _ (ap (λ (v : Request). v.interrupted) (sym m) ∙ e) in
          absurd (not_anew entry past k h r (ap (λ (v : Request). v.clock) m) u (ever_before (is_past d) (wait_past entry past) (passed_wait entry past k h f)))

  -- ---- and the other way round

  pub queued_interrupted : IsDecoding j.codec → j.task.times.interrupt ≡ true → (past : List Entry) → KeepsRules jobs j past → RanAtWait j past → BeginsUnread j past → is_broken j past ≡ false → is_lost j past ≡ false
      → (i : ℕ) (r : Request) → slice_get (requests j past) i ≡ Some r → reply r ≡ None → deadline j r ≡ Some d → r.clock < d → (whole d j past).queued ≡ true → r.interrupted ≡ true
  queued_interrupted dec int [] k h u b l i r g n c w e = cc
  queued_interrupted dec int (entry ∷ past) k h u b l i r g n c w e =
      elim (end_queued (ends_look j entry past) (then_seen d jobs j entry past k h) (ap (λ (s : Seen). s.queued) (sym (whole_is d jobs j entry past k h)) ∙ e)) [
        | inl f ↦ ended f.0 f.1 (came_by j entry past i r g)
        | inr f ↦ before_that (λ o x y z w. queued_interrupted dec int past (rules_before jobs j entry past k) (ran_before jobs j entry past k h) v.1 unbroken unlost i o x y z w) (sym (clocks_kept d j entry past (whole d j past)).1 ∙ f) (came_by j entry past i r g)
      ]
    where
      v : ((c : Chan) → begins_unread j c (entry ∷ past) ≡ true) × BeginsUnread j past
      v = unread_before j entry past u

      unbroken : is_broken j past ≡ false
      unbroken = false_from_ne_true (is_broken j past) (λ f. not_both (is_broken j (entry ∷ past)) (stays_broken j dec entry past v.0 f) b)

      unlost : is_lost j past ≡ false
      unlost = false_from_ne_true (is_lost j past) (λ f. not_both (is_lost j (entry ∷ past)) (lost_stays jobs j entry past k h f) l)

      news : Request → Request
      news o = with_news j o (arrive j Iopub entry past) (arrive j Shell entry past) (time past)

      before_that : ((o : Request) → slice_get (requests j past) i ≡ Some o → reply o ≡ None → deadline j o ≡ Some d → o.clock < d → (whole d j past).queued ≡ true → o.interrupted ≡ true) → (whole d j past).queued ≡ true → CameBy j entry past i r → r.interrupted ≡ true
      before_that ih f (stood o s m) =
          let at : o.clock ≡ r.clock = ap (λ (x : Request). x.clock) (sym m) in
          let on = goes j entry past o in
          let was = ih o s
          (no_reply_before o (goes_on j entry past o) (reply_stays o (goes_on j entry past o) on) (ap reply (sym m) ∙ n)) (same_deadline j r o at ∙ c) (subst (λ x. x < d) (sym at) w) f in
          ap (λ (x : Request). x.interrupted) m ∙ on.interrupted was
      before_that ih f (anew m) =
          let t = dates d jobs j past (rules_before jobs j entry past k) (ran_before jobs j entry past k h) in
          absurd (not_anew entry past k h r (ap (λ (x : Request). x.clock) m) w (sym (first_ever d past) ∙ ap (λ (o : Option ℕ). is_some o) (sym t.first) ∙ t.passed f))

      ended : ends_look j entry past ≡ true → (then_seen d jobs j entry past k h).fresh ≡ true → CameBy j entry past i r → r.interrupted ≡ true
      ended f x =
          let t = dates_clock d jobs j entry past k h (whole d j past) (dates d jobs j past (rules_before jobs j entry past k) (ran_before jobs j entry past k h)) in
          let y = t.fresh x in
          let at_wait : is_some (first_clock d (before_wait (entry ∷ past))) ≡ true = ap (λ (o : Option ℕ). is_some o) (sym (still_now d jobs j entry past k h f).first) ∙ ap (λ (o : Option ℕ). is_some o) (sym t.first) ∙ y.0 in
          let just : just_ran_out j d (entry ∷ past) ≡ true = just_from d jobs j (entry ∷ past) (ends_parts j entry past f).2 at_wait y.1 in
          by just (sym (first_ever d (before_wait (entry ∷ past))) ∙ at_wait)
        where
          by : just_ran_out j d (entry ∷ past) ≡ true → ever (is_past d) (before_wait (entry ∷ past)) ≡ true → CameBy j entry past i r → r.interrupted ≡ true
          by just passed (stood o s m) =
              ap (λ (y : Request). y.interrupted) m
              ∙ or_right o.interrupted (is_interrupted j (entry ∷ past) (news o))
              (interrupted_from j (entry ∷ past) (news o) int (ap reply (sym m) ∙ n) (just_out j d (entry ∷ past) (deadline j (news o)) (ap (deadline j) (sym m) ∙ c) ∙ just) b l)
          by just passed (anew m) = absurd (not_anew entry past k h r (ap (λ (y : Request). y.clock) m) w (ever_before (is_past d) (wait_past entry past) passed))
