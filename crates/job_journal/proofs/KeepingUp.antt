-- The clock that the core knows keeps up with the journal's.
use Rattle.std.proofs.Common.{◌≡◌, ◌⊎◌, inl, inr, ℕ, ◌+◌, ◌<◌, ◌≤◌, List, [], ◌∷◌, ◌++◌, length, Bool, true, false, ◌&&◌, ◌||◌, not, cond, Option, Some, None, refl, sym, ◌∙◌, ap, subst, arith, length-append}
use Rattle.std.specs.Prelude.{is_some, nat_lt, option_map}
use Rattle.std.specs.List.{list_any}
use Rattle.std.proofs.Math.Bool.{true≢false}
use Rattle.std.proofs.lemmas.Bool.{and_parts, and_right, cases_Bool, cond-false, cond-true, lt-ltb, ltb-true}
use Rattle.std.proofs.lemmas.List.{append-nil}
use Rattle.std.proofs.lemmas.Option.{same_Some}
use Rattle.jtext.proofs.Lists.{some_and, some_was}
use Rattle.world.specs.declared.entry.Entry.{Entry}
use Rattle.world.specs.declared.entry.Entry.TheVariants as made
use Rattle.world.specs.Places.{time}
use Rattle.world.specs.Waits.{moment_of}
use Rattle.world.specs.declared.chan.Chan.TheVariants.{Shell}
use Rattle.kernel_talk.specs.Asking.{Asked}
use Rattle.cell_core.specs.declared.machine.Core.{Core}
use Rattle.cell_core.specs.declared.event.Event.{Event}
use Rattle.cell_core.specs.declared.event.Event.TheVariants as event
use Rattle.cell_core.specs.Acts.{is_empty_list}
use Rattle.cell_core.specs.Events as events
use Rattle.cell_core.specs.Requests as core
use Rattle.cell_core.proofs.Answering.{heard_all}
use Rattle.run_journal.specs.Codec.{Arrival}
use Rattle.run_journal.specs.Job.{Job}
use Rattle.run_journal.specs.Parts.{is_acknowledging}
use Rattle.run_journal.specs.Arrivals.{answers, ask_on, ask_state, can_ask, arrive, is_asked, is_info_reply, is_ready, tells}
use Rattle.run_journal.specs.Requests.{Request, last_request, requests}
use Rattle.run_journal.specs.Course.{came_for, when_so}
use Rattle.run_journal.specs.Agreement.{Agrees, AgreesOn, BringsNothing, ClocksBy, ClocksOnBy, brings, stands_anew, told_on}
use Rattle.run_journal.proofs.Clocks.{clocks_now}
use Rattle.run_journal.proofs.Flowing.{core_at, core_nothing, rest_at}
use Rattle.run_journal.proofs.Growth.{ready_stays}
use Rattle.run_journal.proofs.Hearing.{after_on, none_unready}
use Rattle.run_journal.proofs.Moments.{kept_on, stood_on}
use Rattle.job_journal.specs.Told.{Hears, was_asked}

-- ---- only a kernel that was asked is ready

-- no message answers a question of which there is none
none_answers : (m : Arrival) → tells [] m ≡ false
none_answers m = and_right (is_info_reply m.content) (answers [] m.parent) (by m.parent)
  where
    by : (o : Option (List ℕ)) → answers [] o ≡ false
    by None = refl
    by (Some parent) = refl

answered_some : (ids : List (List ℕ)) (ms : List Arrival) → list_any (tells ids) ms ≡ true → nat_lt 0 (length ids) ≡ true
answered_some (id ∷ ids) ms e = lt-ltb 0 (length (id ∷ ids)) (omega arith)
answered_some [] [] e = absurd (true≢false (sym e))
answered_some [] (m ∷ ms) e = answered_some [] ms (sym (ap (λ b. b || list_any (tells []) ms) (none_answers m)) ∙ e)

one_more : (b : Bool) (ids : List (List ℕ)) (id : List ℕ) → nat_lt 0 (length ids) ≡ true → nat_lt 0 (length (cond b (ids ++ id ∷ []) ids)) ≡ true
one_more true ids id e = let n = length-append ids (id ∷ []) in lt-ltb 0 (length (ids ++ id ∷ [])) (omega (arith, n))
one_more false ids id e = e

either : (b d : Bool) {A : Type 0} → (b || d) ≡ true → (b ≡ true → A) → (d ≡ true → A) → A
either true d e f g = f refl
either false d e f g = g e

module _ (j : Job) where
  pub told_asked : (now : List Entry) → (ask_state j now).told ≡ true → was_asked j now ≡ true
  unfolding ask_on
  told_asked [] e = absurd (true≢false (sym e))
  told_asked (entry ∷ past) e =
      let a = ask_state j past in
      one_more (is_asked (can_ask j past) a (moment_of entry)) a.ids (j.msg_id (length a.ids + 1))
      (either a.told (list_any (tells a.ids) (arrive j Shell entry past)) e (told_asked past) (answered_some a.ids (arrive j Shell entry past)))

  -- a kernel that is ready by now was asked before
  asked_before : (entry : Entry) (past : List Entry) → is_ready j (entry ∷ past) ≡ true → was_asked j past ≡ true
  unfolding ask_on
  asked_before entry past e =
      let a = ask_state j past in
      either a.told (list_any (tells a.ids) (arrive j Shell entry past)) (and_parts (a.told || list_any (tells a.ids) (arrive j Shell entry past)) _ e).0 (told_asked past)
      (answered_some a.ids (arrive j Shell entry past))

  -- where something comes for a request, or the kernel becomes ready, it is ready by then
  news_ready : (entry : Entry) (past : List Entry) → brings j entry past ≡ true → is_ready j (entry ∷ past) ≡ true
  news_ready entry past e = by (cases_Bool (is_ready j past))
    where
      by : (is_ready j past ≡ true) ⊎ (is_ready j past ≡ false) → is_ready j (entry ∷ past) ≡ true
      by (inl was) = ready_stays j entry past was
      by (inr was) =
          (and_parts (is_ready j (entry ∷ past)) (not (is_ready j past))
          (sym (ap (λ rs. not (is_empty_list (came_for j (last_request 0 rs) entry past)) || (is_ready j (entry ∷ past) && not (is_ready j past))) (none_unready j past was)) ∙ e)).0

  below_none : (n : ℕ) → nat_lt n 0 ≡ true → ⊥
  below_none n e = let l : n < 0 = ltb-true n 0 e in omega (arith, l)

  anew_ready : (entry : Entry) (past : List Entry) → stands_anew j entry past ≡ true → is_ready j (entry ∷ past) ≡ true
  anew_ready entry past e = by (cases_Bool (is_ready j (entry ∷ past)))
    where
      by : (is_ready j (entry ∷ past) ≡ true) ⊎ (is_ready j (entry ∷ past) ≡ false) → is_ready j (entry ∷ past) ≡ true
      by (inl f) = f
      by (inr f) = absurd (below_none (length (requests j past)) (sym (ap (λ (rs : List Request). nat_lt (length (requests j past)) (length rs)) (none_unready j (entry ∷ past) f)) ∙ e))

-- ---- an entry that isn't of the clock

still_ids : (b : Bool) (ids more : List (List ℕ)) → b ≡ false → cond b more ids ≡ ids
still_ids b ids more e = cond-false b more ids e

unclocked : (can : Bool) (a : Asked) (o : Option ℕ) → o ≡ None → is_asked can a o ≡ false
unclocked can a o e = ap (is_asked can a) e

pub asked_same : (j : Job) (entry : Entry) (past : List Entry) → moment_of entry ≡ None → was_asked j (entry ∷ past) ≡ was_asked j past
unfolding ask_on
asked_same j entry past e =
    let a = ask_state j past in
    ap (λ (ids : List (List ℕ)). nat_lt 0 (length ids))
    (still_ids (is_asked (can_ask j past) a (moment_of entry)) a.ids (a.ids ++ j.msg_id (length a.ids + 1) ∷ []) (unclocked (can_ask j past) a (moment_of entry) e))

-- the clock stays
pub time_same : (entry : Entry) (past : List Entry) → moment_of entry ≡ None → time (entry ∷ past) ≡ time past
time_same (made.Moment ms) past e = cc
time_same _ past e = refl

-- so the core's isn't behind after it, where it wasn't before
pub clock_stays : (j : Job) (entry : Entry) (past : List Entry) (t : ℕ) → moment_of entry ≡ None → (was_asked j past ≡ true → time past ≤ t)
    → was_asked j (entry ∷ past) ≡ true → time (entry ∷ past) ≤ t
clock_stays j entry past t e before asked = subst (λ n. n ≤ t) (sym (time_same entry past e)) (before (sym (asked_same j entry past e) ∙ asked))

-- ---- entries

abbrev le : ℕ → ℕ → Type 0
le m n = n ≤ m

-- no entry that brings nothing brings something for the requests
front_nil : {X : Type 0} (xs ys : List X) → xs ++ ys ≡ [] → xs ≡ []
front_nil [] ys e = refl
front_nil (x ∷ xs) ys e = cc

back_nil : {X : Type 0} (xs ys : List X) → xs ++ ys ≡ [] → ys ≡ []
back_nil [] ys e = e
back_nil (x ∷ xs) ys e = cc

unready_when : (b : Bool) (e : Event) → when_so b e ≡ [] → b ≡ false
unready_when true e f = cc
unready_when false e f = refl

quiet_brings : (j : Job) (entry : Entry) (past : List Entry) → BringsNothing j entry past → brings j entry past ≡ false
quiet_brings j entry past none =
    let came : List Event = came_for j (last_request 0 (requests j past)) entry past in
    let b : Bool = is_ready j (entry ∷ past) && not (is_ready j past) in
    ap (λ es. not (is_empty_list es) || b) (front_nil came (when_so b event.Ready) (core_nothing j entry past none))
    ∙ unready_when b event.Ready (back_nil came (when_so b event.Ready) (core_nothing j entry past none))

module _ (j : Job) (entry : Entry) (past : List Entry) (told : List Event) (a : Agrees j told past) (clocks : ClocksBy le j told past) where
  moved : (is_acknowledging j (entry ∷ past) ≡ true → stands_anew j entry past ≡ true → time past ≤ events.time told) → (brings j entry past ≡ true → time past ≤ events.time told)
      → (xs left : List Event) → xs ++ left ≡ core_at j entry past ++ rest_at j entry past []
      → Agrees j (told_on xs (cond (is_acknowledging j (entry ∷ past)) (event.Saved ∷ told) told)) (entry ∷ past)
      → ClocksBy le j (told_on xs (cond (is_acknowledging j (entry ∷ past)) (event.Saved ∷ told) told)) (entry ∷ past)
  moved on_ack on_news xs left f b = clocks_now le j entry past told [] [] tt tt on_ack on_news xs left f a clocks b

  -- an entry that brings nothing
  pub clocks_quiet : BringsNothing j entry past → is_acknowledging j (entry ∷ past) ≡ false → Agrees j told (entry ∷ past) → ClocksBy le j told (entry ∷ past)
  clocks_quiet none acks b =
      let same = cond-false (is_acknowledging j (entry ∷ past)) (event.Saved ∷ told) told acks in
      subst (λ es. ClocksBy le j es (entry ∷ past)) same
      (moved (λ e. absurd (true≢false (sym e ∙ acks))) (λ e. absurd (true≢false (sym e ∙ quiet_brings j entry past none))) [] (core_at j entry past ++ rest_at j entry past []) refl
      (subst (λ es. Agrees j es (entry ∷ past)) (sym same) b))

  module _ (clock : was_asked j past ≡ true → time past ≤ events.time told) where
    on_ack : is_acknowledging j (entry ∷ past) ≡ true → stands_anew j entry past ≡ true → time past ≤ events.time told
    on_ack e anew = clock (asked_before j entry past (anew_ready j entry past anew))

    on_news : brings j entry past ≡ true → time past ≤ events.time told
    on_news e = clock (asked_before j entry past (news_ready j entry past e))

    -- what comes for the last request is pending
    pub clocks_came : is_acknowledging j (entry ∷ past) ≡ false → is_ready j (entry ∷ past) ≡ is_ready j past
        → Agrees j (told_on (came_for j (last_request 0 (requests j past)) entry past) told) (entry ∷ past)
        → ClocksBy le j (told_on (came_for j (last_request 0 (requests j past)) entry past) told) (entry ∷ past)
    clocks_came acks steady b =
        let came : List Event = came_for j (last_request 0 (requests j past)) entry past in
        let same = cond-false (is_acknowledging j (entry ∷ past)) (event.Saved ∷ told) told acks in
        subst (λ es. ClocksBy le j (told_on came es) (entry ∷ past)) same
        (moved on_ack on_news came (rest_at j entry past []) (ap (λ es. es ++ rest_at j entry past []) (sym (all_core came (is_ready j (entry ∷ past)) (is_ready j past) steady)))
        (subst (λ es. Agrees j (told_on came es) (entry ∷ past)) (sym same) b))
      where
        all_core : (came : List Event) (b d : Bool) → b ≡ d → came ++ when_so (b && not d) event.Ready ≡ came
        all_core came true d e = ap (λ x. came ++ when_so (not x) event.Ready) (sym e) ∙ append-nil came
        all_core came false d e = append-nil came

    -- readiness is told
    pub clocks_ready : is_acknowledging j (entry ∷ past) ≡ false → is_ready j past ≡ false → is_ready j (entry ∷ past) ≡ true → Agrees j (event.Ready ∷ told) (entry ∷ past)
        → ClocksBy le j (event.Ready ∷ told) (entry ∷ past)
    clocks_ready acks was now b =
        let same = cond-false (is_acknowledging j (entry ∷ past)) (event.Saved ∷ told) told acks in
        subst (λ es. ClocksBy le j (event.Ready ∷ es) (entry ∷ past)) same
        (moved on_ack on_news (event.Ready ∷ []) (rest_at j entry past []) (ap (λ es. es ++ rest_at j entry past []) (sym all_ready))
        (subst (λ es. Agrees j (event.Ready ∷ es) (entry ∷ past)) (sym same) b))
      where
        all_ready : core_at j entry past ≡ event.Ready ∷ []
        all_ready =
            ap (λ rs. came_for j (last_request 0 rs) entry past ++ when_so (is_ready j (entry ∷ past) && not (is_ready j past)) event.Ready) (none_unready j past was)
            ∙ ap (λ b. when_so (b && not (is_ready j past)) event.Ready) now
            ∙ ap (λ b. when_so (not b) event.Ready) was

    -- an acknowledgement is told
    pub clocks_saved : is_acknowledging j (entry ∷ past) ≡ true → Agrees j (event.Saved ∷ told) (entry ∷ past) → ClocksBy le j (event.Saved ∷ told) (entry ∷ past)
    clocks_saved acks b =
        let same = cond-true (is_acknowledging j (entry ∷ past)) (event.Saved ∷ told) told acks in
        subst (λ es. ClocksBy le j es (entry ∷ past)) same
        (moved on_ack on_news [] (core_at j entry past ++ rest_at j entry past []) refl (subst (λ es. Agrees j es (entry ∷ past)) (sym same) b))

-- ---- an event that is told

-- another event leaves the clocks of the requests
pub clocks_other : (j : Job) (e : Event) (told : List Event) (now : List Entry) → Agrees j told now → Agrees j (e ∷ told) now → ClocksBy le j told now → ClocksBy le j (e ∷ told) now
clocks_other j e told now a b clocks k r h =
    let one = some_was _ (core.after j.task k told) (a.standing k r h) in
    let two = some_was _ (core.after j.task k told) (clocks k r h) in
    let after_is : core.after j.task k (e ∷ told) ≡ Some (e ∷ one.0) = after_on j.task k (e ∷ []) told one.0 one.1 in
    some_and (λ later. ClocksOnBy le k (e ∷ told) later r) _ (e ∷ one.0) after_is
    (by one.0 one.2 (subst (λ v. ClocksOnBy le k told v r) (same_Some _ _ (sym two.1 ∙ one.1)) two.2))
  where
    by : (later : List Event) → AgreesOn j k later r → ClocksOnBy le k told later r → ClocksOnBy le k (e ∷ told) (e ∷ later) r
    by later x y = record {
      stood = subst (λ n. r.clock ≤ n) (sym (stood_on (e ∷ []) later told)) y.stood;
      replied = λ m f. subst (λ n. m.1 ≤ n) (sym (kept_on (e ∷ []) later told (ap is_some (x.reply ∙ ap (option_map (λ (v : Arrival × ℕ). j.fatal k v.0.content)) f)))) (y.replied m f);
    }

-- the clock that the core knows never falls
pub time_grows : (j : Job) (core next : Core) (e : Event) (told : List Event) → Hears j core told → Hears j next (e ∷ told) → events.time told ≤ events.time (e ∷ told)
time_grows j core next (event.Moment t) told h g =
    subst (λ es. events.time es ≤ t) (heard_all j.task told h.goes_on) (g.meets.1 h.goes_on).0
time_grows j core next event.Saved told h g = omega arith
time_grows j core next event.Ready told h g = omega arith
time_grows j core next (event.Io b) told h g = omega arith
time_grows j core next (event.Reply f) told h g = omega arith
time_grows j core next event.Looked told h g = omega arith
time_grows j core next event.Lost told h g = omega arith
time_grows j core next event.Broken told h g = omega arith
