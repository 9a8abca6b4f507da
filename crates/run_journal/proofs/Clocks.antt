-- The clocks of each request, when it came to stand and at its reply, are the same for the core and by the journal.
use Rattle.std.proofs.Common.{◌≡◌, ◌⊎◌, inl, inr, ℕ, ◌+◌, ◌<◌, List, [], ◌∷◌, ◌++◌, length, map, drop, Bool, true, false, ◌&&◌, ◌||◌, not, cond, Option, Some, None, refl, sym, ◌∙◌, ap, subst, arith, append_assoc}
use Rattle.std.specs.Prelude.{is_some, option_map, slice_get, IsSomeAnd, ◌==◌}
use Rattle.std.proofs.Math.Bool.{or-false}
use Rattle.std.proofs.lemmas.List.{length-map, length_push}
use Rattle.std.proofs.lemmas.Bool.{and_parts, and_from, lt-ltb, or_left, or_right, cond-true, cond-false, cases_Bool, eqb-true}
use Rattle.std.proofs.lemmas.Option.{same_Some, slice_get_within, none-some}
use Rattle.world.specs.declared.entry.Entry.{Entry}
use Rattle.world.specs.Places.{time}
use Rattle.cell_core.specs.declared.event.Event.{Event}
use Rattle.cell_core.specs.declared.event.Event.TheVariants as event
use Rattle.cell_core.specs.Acts.{is_empty_list}
use Rattle.cell_core.specs.Deadlines.{reply_age}
use Rattle.cell_core.specs.Events as events
use Rattle.cell_core.specs.Requests as core
use Rattle.run_journal.specs.Codec.{Arrival}
use Rattle.run_journal.specs.Job.{Job}
use Rattle.run_journal.specs.Parts.{saves_of, is_acknowledging}
use Rattle.run_journal.specs.Arrivals.{ask_state, is_ready}
use Rattle.run_journal.specs.Requests.{Request, first, reply, goes_on, is_next, fresh, count_queued, with_interrupt, requests, last_request}
use Rattle.run_journal.specs.Due.{all_along}
use Rattle.run_journal.specs.Course.{came_for, when_so, events_at, Course, late_then, told_saved, course}
use Rattle.run_journal.specs.Agreement.{AgreesOn, Agrees, told_on, Flows, ClocksOnBy, ClocksBy, Clocks, brings, stands_anew, keeps_time, KeepsTime}
use Rattle.run_journal.proofs.Growth.{ready_stays, goes, reply_stays}
use Rattle.run_journal.proofs.Safety.{few_requests}
use Rattle.run_journal.proofs.Isolation.{no_next}
use Rattle.run_journal.proofs.Agreeing.{get_mapped, IsIn, before, last, get_pushed, next_none}
use Rattle.run_journal.proofs.Hearing.{coming_for, after_on, none_unready}
use Rattle.run_journal.proofs.Flowing.{AreOther, held_other, rest_other, late_other, core_nothing, sync_brings_nothing, Tells, front, tell_front, rest_at, core_at, events_are, told_parts, course_agrees}
use Rattle.run_journal.proofs.Telling.{came_append}
use Rattle.run_journal.proofs.Moments.{stood_on, kept_on, is_reply, at_reply, new_on, reply_came, reply_front, reply_behind, no_reply_in, reply_coming, is_mark, at_mark, AreFew, none_through, mark_time, mark_front, mark_behind, no_mark_in, few_none, few_behind, front_none, few_front}
use Rattle.run_journal.proofs.Truths.{not_both}
use Rattle.jtext.proofs.Lists.{some_and, some_was}

-- ---- one entry

pub first_new : (xs : List (Arrival × ℕ)) (clock : ℕ) (ns : List Arrival) (m : Arrival × ℕ) → first xs ≡ None → first (xs ++ map (λ a. (a, clock)) ns) ≡ Some m → clock ≡ m.1
first_new [] clock [] m e h = cc
first_new [] clock (n ∷ ns) m e h = ap (λ (x : Arrival × ℕ). x.1) (same_Some _ _ h)
first_new (x ∷ xs) clock ns m e h = cc

-- The clocks of the core stand in this relation to those of the journal, where the clock that it was told last does.
module _ (agrees : ℕ → ℕ → Type 0) (j : Job) (entry : Entry) (past : List Entry) (told held late : List Event) (oh : AreOther held) (ol : AreOther late)
    (on_ack : is_acknowledging j (entry ∷ past) ≡ true → stands_anew j entry past ≡ true → agrees (events.time told) (time past)) (on_news : brings j entry past ≡ true → agrees (events.time (told_on held told)) (time past)) where
  abbrev came : List Event
  came = came_for j (last_request 0 (requests j past)) entry past

  abbrev ready_part : List Event
  ready_part = when_so (is_ready j (entry ∷ past) && not (is_ready j past)) event.Ready

  -- whether the next request comes to stand
  abbrev next : Bool
  next = is_next j (is_acknowledging j (entry ∷ past)) (is_ready j (entry ∷ past)) (saves_of j (entry ∷ past)) (map (goes_on j entry past) (requests j past))

  -- then it is one more
  next_anew : next ≡ true → stands_anew j entry past ≡ true
  next_anew n =
      lt-ltb (length (requests j past)) (length (requests j (entry ∷ past)))
      (let a : length (requests j (entry ∷ past)) ≡ length (map (goes_on j entry past) (requests j past)) + 1
      = ap (λ (rs : List Request). length rs) (cond-true next _ (map (goes_on j entry past) (requests j past)) n) ∙ length_push (map (goes_on j entry past) (requests j past)) _ in
      let l : length (map (goes_on j entry past) (requests j past)) ≡ length (requests j past) = length-map (requests j past) (goes_on j entry past) in
      omega (arith, a, l))

  none_ready : (b : Bool) → events.came is_reply (when_so b event.Ready) ≡ false
  none_ready true = refl
  none_ready false = refl

  some_came : (es : List Event) → events.came is_reply es ≡ true → not (is_empty_list es) ≡ true
  some_came [] h = cc
  some_came (e ∷ es) h = refl

  module _ (xs left : List Event) (f : xs ++ left ≡ held ++ (core_at j entry past ++ rest_at j entry past late)) where
    -- a reply among them is one that came for the last request
    came_reply : events.came is_reply xs ≡ true → events.came is_reply came ≡ true
    came_reply h =
        sym (or-false (events.came is_reply came))
        ∙ ap (λ b. events.came is_reply came || b) (sym (none_ready (is_ready j (entry ∷ past) && not (is_ready j past))))
        ∙ sym (came_append is_reply came ready_part)
        ∙ sym (or-false (events.came is_reply (core_at j entry past)))
        ∙ ap (λ b. events.came is_reply (core_at j entry past) || b) (sym (no_reply_in (rest_at j entry past late) (rest_other j entry past late ol)))
        ∙ sym (came_append is_reply (core_at j entry past) (rest_at j entry past late))
        ∙ ap (λ b. b || events.came is_reply (core_at j entry past ++ rest_at j entry past late)) (sym (no_reply_in held oh))
        ∙ sym (came_append is_reply held (core_at j entry past ++ rest_at j entry past late))
        ∙ ap (events.came is_reply) (sym f)
        ∙ came_append is_reply xs left
        ∙ or_left (events.came is_reply xs) (events.came is_reply left) h

    -- and has the clock that was told last
    reply_clock : events.came is_reply xs ≡ true → agrees (at_reply (events.time told) xs) (time past)
    reply_clock h =
        let c = came_reply h in
        subst (λ n. agrees n (time past)) (sym (
        sym (reply_front (events.time told) xs left h)
        ∙ ap (at_reply (events.time told)) f
        ∙ reply_behind held (core_at j entry past ++ rest_at j entry past late) told oh
        ∙ ap (at_reply (events.time (told_on held told))) (append_assoc came ready_part (rest_at j entry past late))
        ∙ reply_coming (events.time (told_on held told)) came (ready_part ++ rest_at j entry past late) (coming_for j (last_request 0 (requests j past)) entry past) c))
        (on_news (or_left (not (is_empty_list came)) (is_ready j (entry ∷ past) && not (is_ready j past)) (some_came came c)))

    -- at an acknowledgement there is no other mark
    ack_unmarked : is_acknowledging j (entry ∷ past) ≡ true → events.came is_mark xs ≡ false
    ack_unmarked acks =
        front_none xs left
        (ap (events.came is_mark) f
        ∙ came_append is_mark held (core_at j entry past ++ rest_at j entry past late)
        ∙ ap (λ b. b || events.came is_mark (core_at j entry past ++ rest_at j entry past late)) (no_mark_in held oh)
        ∙ ap (λ es. events.came is_mark (es ++ rest_at j entry past late)) (core_nothing j entry past (sync_brings_nothing j entry past acks))
        ∙ no_mark_in (rest_at j entry past late) (rest_other j entry past late ol))

    -- where a request comes to stand without one, the kernel becomes ready
    becomes_ready : is_acknowledging j (entry ∷ past) ≡ false → next ≡ true → (is_ready j past ≡ false) × (is_ready j (entry ∷ past) ≡ true)
    becomes_ready acks n = by (cases_Bool (is_ready j past)) (cases_Bool (is_ready j (entry ∷ past)))
      where
        unlike : is_ready j (entry ∷ past) ≡ is_ready j past → ⊥
        unlike ready =
            let saves : saves_of j (entry ∷ past) ≡ saves_of j past = cond-false (is_acknowledging j (entry ∷ past)) _ _ acks in
            not_both next n
            (next_none j (is_acknowledging j (entry ∷ past)) (is_ready j (entry ∷ past)) (saves_of j (entry ∷ past)) (goes_on j entry past) (requests j past) acks
            (ap (λ b. is_next j false b (saves_of j (entry ∷ past)) (requests j past)) ready ∙ ap (λ k. is_next j false (is_ready j past) k (requests j past)) saves ∙ no_next j past))

        by : (is_ready j past ≡ true) ⊎ (is_ready j past ≡ false) → (is_ready j (entry ∷ past) ≡ true) ⊎ (is_ready j (entry ∷ past) ≡ false) → (is_ready j past ≡ false) × (is_ready j (entry ∷ past) ≡ true)
        by (inl was) now = absurd (unlike (ready_stays j entry past was ∙ sym was))
        by (inr was) (inl now) = (was, now)
        by (inr was) (inr now) = absurd (unlike (now ∙ sym was))

    core_ready : is_ready j past ≡ false → is_ready j (entry ∷ past) ≡ true → core_at j entry past ≡ event.Ready ∷ []
    core_ready was now =
        ap (λ qs. came_for j (last_request 0 qs) entry past ++ ready_part) (none_unready j past was)
        ∙ ap (λ b. when_so (b && not (is_ready j past)) event.Ready) now
        ∙ ap (λ b. when_so (not b) event.Ready) was

    -- so has the request that comes to stand
    ready_few : is_acknowledging j (entry ∷ past) ≡ false → next ≡ true → AreFew xs
    ready_few acks n =
        let r = becomes_ready acks n in
        few_front xs left
        (subst AreFew (sym (f ∙ ap (λ es. held ++ (es ++ rest_at j entry past late)) (core_ready r.0 r.1)))
        (few_behind held _ oh ((λ m. no_mark_in (rest_at j entry past late) (rest_other j entry past late ol)), few_none (rest_at j entry past late) (no_mark_in (rest_at j entry past late) (rest_other j entry past late ol)))))

    ready_clock : is_acknowledging j (entry ∷ past) ≡ false → next ≡ true → events.came is_mark xs ≡ true → agrees (at_mark (events.time told) xs) (time past)
    ready_clock acks n h =
        let r = becomes_ready acks n in
        subst (λ n. agrees n (time past)) (sym (
        sym (mark_front (events.time told) xs left h)
        ∙ ap (at_mark (events.time told)) (f ∙ ap (λ es. held ++ (es ++ rest_at j entry past late)) (core_ready r.0 r.1))
        ∙ mark_behind held (event.Ready ∷ rest_at j entry past late) told oh))
        (on_news (or_right (not (is_empty_list came)) (is_ready j (entry ∷ past) && not (is_ready j past)) (ap (λ b. b && not (is_ready j past)) r.1 ∙ ap not r.0)))

    -- what is told, with the acknowledgement before it
    abbrev told_now : List Event
    told_now = told_on xs (cond (is_acknowledging j (entry ∷ past)) (event.Saved ∷ told) told)

    module _ (a : Agrees j told past) (c : ClocksBy agrees j told past) (b : Agrees j told_now (entry ∷ past)) where
      -- one that stood before
      old_clock : (ys : List Event) → told_now ≡ told_on ys told → (events.came is_reply ys ≡ true → agrees (at_reply (events.time told) ys) (time past)) → (k : ℕ) (q : Request) → slice_get (requests j past) k ≡ Some q
          → slice_get (requests j (entry ∷ past)) k ≡ Some (goes_on j entry past q) → IsSomeAnd (core.after j.task k told_now) (λ later. ClocksOnBy agrees k told_now later (goes_on j entry past q))
      old_clock ys same clock k q h g =
          let one = some_was _ (core.after j.task k told) (a.standing k q h) in
          let two = some_was _ (core.after j.task k told) (c k q h) in
          let three = some_was _ (core.after j.task k told_now) (b.standing k (goes_on j entry past q) g) in
          let after_is : core.after j.task k told_now ≡ Some (told_on ys one.0) = ap (core.after j.task k) same ∙ after_on j.task k ys told one.0 one.1 in
          some_and (λ later. ClocksOnBy agrees k told_now later (goes_on j entry past q)) _ (told_on ys one.0) after_is
          (by one.0 one.2 (subst (λ v. ClocksOnBy agrees k told v q) (same_Some _ _ (sym two.1 ∙ one.1)) two.2) (subst (λ v. AgreesOn j k v (goes_on j entry past q)) (same_Some _ _ (sym three.1 ∙ after_is)) three.2))
        where
          by : (later : List Event) → AgreesOn j k later q → ClocksOnBy agrees k told later q → AgreesOn j k (told_on ys later) (goes_on j entry past q) → ClocksOnBy agrees k told_now (told_on ys later) (goes_on j entry past q)
          by later x y z = record {
            stood = subst (λ n. agrees n q.clock) (sym (ap (λ v. events.time (drop (length (told_on ys later)) v)) same ∙ stood_on ys later told)) y.stood;
            replied = λ m e. subst (λ n. agrees n m.1) (sym (ap (λ v. events.time (drop (reply_age (told_on ys later)) v)) same)) (at (reply q) refl m e);
          }
            where
              at : (o : Option (Arrival × ℕ)) → reply q ≡ o → (m : Arrival × ℕ) → reply (goes_on j entry past q) ≡ Some m → agrees (events.time (drop (reply_age (told_on ys later)) (told_on ys told))) m.1
              at (Some n) e m g =
                  let was : reply q ≡ Some m = sym (reply_stays q (goes_on j entry past q) (goes j entry past q) (ap is_some e)) ∙ g in
                  subst (λ n. agrees n m.1) (sym (kept_on ys later told (ap is_some (x.reply ∙ ap (option_map (λ (v : Arrival × ℕ). j.fatal k v.0.content)) was)))) (y.replied m was)
              at None e m g =
                  let open_ : core.reply later ≡ None = x.reply ∙ ap (option_map (λ (v : Arrival × ℕ). j.fatal k v.0.content)) e in
                  let now : is_some (core.reply (told_on ys later)) ≡ true = ap is_some (z.reply ∙ ap (option_map (λ (v : Arrival × ℕ). j.fatal k v.0.content)) g) in
                  subst (λ n. agrees n m.1) (sym (new_on ys later told open_ now)) (subst (λ n. agrees (at_reply (events.time told) ys) n) (first_new q.replies (time past) _ m e g) (clock (reply_came ys later open_ now)))

      -- one that comes to stand
      new_clock : (ys : List Event) → told_now ≡ told_on ys told → AreFew ys → (events.came is_mark ys ≡ true → agrees (at_mark (events.time told) ys) (time past)) → (k : ℕ) (r : Request) → r.clock ≡ time past → reply r ≡ None
          → core.after j.task k told ≡ None → slice_get (requests j (entry ∷ past)) k ≡ Some r → IsSomeAnd (core.after j.task k told_now) (λ later. ClocksOnBy agrees k told_now later r)
      new_clock ys same few clock k r at none new g =
          let three = some_was _ (core.after j.task k told_now) (b.standing k r g) in
          let after_is : core.after j.task k (told_on ys told) ≡ Some three.0 = ap (core.after j.task k) (sym same) ∙ three.1 in
          some_and (λ later. ClocksOnBy agrees k told_now later r) _ three.0 three.1
          (record {
            stood = subst (λ n. agrees n r.clock) (sym (ap (λ v. events.time (drop (length three.0) v)) same ∙ mark_time j.task k ys told three.0 few new after_is))
                (subst (λ n. agrees (at_mark (events.time told) ys) n) (sym at) (clock (marked (cases_Bool (events.came is_mark ys)) three.0 after_is)));
            replied = λ m e. absurd (no_reply (sym none ∙ e));
          })
        where
          no_reply : {m : Arrival × ℕ} → None ≡ Some m → ⊥
          no_reply e = cc

          marked : (events.came is_mark ys ≡ true) ⊎ (events.came is_mark ys ≡ false) → (later : List Event) → core.after j.task k (told_on ys told) ≡ Some later → events.came is_mark ys ≡ true
          marked (inl h) later s = h
          marked (inr h) later s = absurd (none-some later (sym (none_through j.task k ys told h new) ∙ s))

      -- each
      each_clock : (ys : List Event) → told_now ≡ told_on ys told → (events.came is_reply ys ≡ true → agrees (at_reply (events.time told) ys) (time past)) → (next ≡ true → AreFew ys)
          → (next ≡ true → events.came is_mark ys ≡ true → agrees (at_mark (events.time told) ys) (time past)) → ClocksBy agrees j told_now (entry ∷ past)
      each_clock ys same clock few mark k r h = by (cases_Bool next)
        where
          gone : List Request
          gone = map (goes_on j entry past) (requests j past)

          fresh_one : Request
          fresh_one = with_interrupt j (entry ∷ past) (fresh (count_queued (length (ask_state j (entry ∷ past)).ids) (map (goes_on j entry past) (requests j past)) + 1) (time past))

          old : slice_get (map (goes_on j entry past) (requests j past)) k ≡ Some r → IsSomeAnd (core.after j.task k told_now) (λ later. ClocksOnBy agrees k told_now later r)
          old e =
              let q = get_mapped (goes_on j entry past) (requests j past) k r e in
              subst (λ v. IsSomeAnd (core.after j.task k told_now) (λ later. ClocksOnBy agrees k told_now later v)) (sym q.2)
              (old_clock ys same clock k q.0 q.1 (h ∙ ap (λ v. Some v) q.2))

          one_of : next ≡ true → IsIn (map (goes_on j entry past) (requests j past)) (with_interrupt j (entry ∷ past) (fresh (count_queued (length (ask_state j (entry ∷ past)).ids) (map (goes_on j entry past) (requests j past)) + 1) (time past))) k r
              → IsSomeAnd (core.after j.task k told_now) (λ later. ClocksOnBy agrees k told_now later r)
          one_of n (before e) = old e
          one_of n (last e g) =
              let below : k < length (requests j (entry ∷ past)) = slice_get_within (requests j (entry ∷ past)) k r h in
              let most = (few_requests j (entry ∷ past)).1 in
              let l : length (map (goes_on j entry past) (requests j past)) ≡ length (requests j past) = length-map (requests j past) (goes_on j entry past) in
              new_clock ys same (few n) (mark n) k r (ap (λ (v : Request). v.clock) g) (ap reply g) (a.none k (omega (arith, below, most)) (omega (arith, e, l))) h

          by : (next ≡ true) ⊎ (next ≡ false) → IsSomeAnd (core.after j.task k told_now) (λ later. ClocksOnBy agrees k told_now later r)
          by (inl n) = one_of n (get_pushed _ _ k r (ap (λ rs. slice_get rs k) (sym (cond-true next _ _ n)) ∙ h))
          by (inr n) = old (ap (λ rs. slice_get rs k) (sym (cond-false next _ _ n)) ∙ h)

      pub clocks_now : ClocksBy agrees j told_now (entry ∷ past)
      clocks_now = by (cases_Bool (is_acknowledging j (entry ∷ past)))
        where
          by : (is_acknowledging j (entry ∷ past) ≡ true) ⊎ (is_acknowledging j (entry ∷ past) ≡ false) → ClocksBy agrees j told_now (entry ∷ past)
          by (inl acks) =
              each_clock (event.Saved ∷ xs) (ap (told_on xs) (cond-true (is_acknowledging j (entry ∷ past)) (event.Saved ∷ told) told acks)) reply_clock
              (λ n. ((λ m. ack_unmarked acks), few_none xs (ack_unmarked acks))) (λ n h. on_ack acks (next_anew n))
          by (inr acks) =
              each_clock xs (ap (told_on xs) (cond-false (is_acknowledging j (entry ∷ past)) (event.Saved ∷ told) told acks)) reply_clock (ready_few acks) (ready_clock acks)

-- ---- the course of a journal

pub clocks_agree : (j : Job) (past : List Entry) → Flows j past → KeepsTime j past → Clocks j (course j past).told past
clocks_agree j [] e t = λ k r h. cc
clocks_agree j (entry ∷ past) e t =
    by (clocks_agree j past (told_parts j entry past e).2 times.1) (tell_front j (told_saved j entry past c.told) (late_then j entry past c.late) (c.held ++ events_at j entry past c.late))
  where
    c : Course
    c = course j past

    now : Course
    now = course j (entry ∷ past)

    times : (keeps_time j (entry ∷ past) ≡ true) × KeepsTime j past
    times = and_parts (keeps_time j (entry ∷ past)) (all_along (keeps_time j) past) t

    parts : ((not (is_acknowledging j (entry ∷ past) && stands_anew j entry past) || events.time (course j past).told == time past) ≡ true)
        × ((not (brings j entry past) || events.time (told_on (course j past).held (course j past).told) == time past) ≡ true)
    parts = and_parts _ _ times.0

    implied : (b : Bool) (m n : ℕ) → (not b || m == n) ≡ true → b ≡ true → m ≡ n
    implied true m n h e = eqb-true m n h
    implied false m n h e = cc

    by : Clocks j (course j past).told past → Tells j (told_saved j entry past (course j past).told) ((course j past).held ++ events_at j entry past (course j past).late) (course j (entry ∷ past))
        → Clocks j (course j (entry ∷ past)).told (entry ∷ past)
    by i (front xs f g) =
        subst (λ v. Clocks j v (entry ∷ past)) (sym g)
        (clocks_now (λ m n. m ≡ n) j entry past c.told c.held c.late (held_other j past (told_parts j entry past e).2) (late_other j past)
        (λ a n. implied (is_acknowledging j (entry ∷ past) && stands_anew j entry past) (events.time c.told) (time past) parts.0 (and_from (is_acknowledging j (entry ∷ past)) (stands_anew j entry past) a n)) (implied (brings j entry past) (events.time (told_on c.held c.told)) (time past) parts.1)
        xs (now.held ++ now.unheard) (f ∙ ap (λ v. c.held ++ v) (events_are j entry past c.late))
        (course_agrees j past (told_parts j entry past e).2) i (subst (λ v. Agrees j v (entry ∷ past)) g (course_agrees j (entry ∷ past) e)))
