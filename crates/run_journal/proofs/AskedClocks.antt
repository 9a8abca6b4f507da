-- By the loop's rules nothing comes for a request before a turn's clock entry, since the kernel was asked at one.
use Rattle.std.proofs.Common.{◌≡◌, ◌⊎◌, inl, inr, ℕ, ◌+◌, List, [], ◌∷◌, ◌++◌, length, Bool, true, false, ◌&&◌, ◌||◌, not, cond, Option, Some, None, refl, sym, ◌∙◌, ap, arith}
use Rattle.std.specs.Prelude.{is_some}
use Rattle.std.specs.List.{list_any}
use Rattle.std.proofs.Math.Bool.{or-false}
use Rattle.std.proofs.lemmas.Bool.{and_parts, or_left, or_right, cases_Bool, cond-true, cond-false, le-leb, or_cases}
use Rattle.world.specs.declared.chan.Chan.TheVariants.{Shell, Iopub}
use Rattle.world.specs.declared.entry.Entry.{Entry}
use Rattle.world.specs.Waits.{has_wait, moment_of}
use Rattle.cell_core.specs.Acts.{is_empty_list}
use Rattle.kernel_talk.specs.Asking as asking
use Rattle.run_journal.specs.Codec.{Arrival}
use Rattle.run_journal.specs.Job.{Job}
use Rattle.run_journal.specs.Parts.{bytes_got}
use Rattle.run_journal.specs.Arrivals.{arrive, is_info_reply, is_shaken, can_ask, answers, tells, is_asked, ask_on, ask_state, is_ready}
use Rattle.run_journal.specs.Looks.{is_at_least, ever, is_past}
use Rattle.run_journal.specs.Requests.{Request, first_clock, requests, last_request}
use Rattle.run_journal.specs.Due.{all_along}
use Rattle.run_journal.specs.Decoding.{IsDecoding}
use Rattle.run_journal.specs.Awake.{in_order}
use Rattle.run_journal.specs.Course.{came_for}
use Rattle.run_journal.specs.Agreement.{IsAmong, brings}
use Rattle.run_journal.proofs.Hearing.{none_unready}
use Rattle.run_journal.proofs.Lapse.{first_ever}
use Rattle.run_journal.proofs.Clocking.{no_bytes}
use Rattle.run_journal.proofs.Truths.{not_both}

-- ---- requests whether the kernel is ready

-- there is one
abbrev has_ids : List (List ℕ) → Bool
has_ids [] = false
has_ids (id ∷ ids) = true

has_more : (ids more : List (List ℕ)) → has_ids ids ≡ true → has_ids (ids ++ more) ≡ true
has_more [] more e = cc
has_more (id ∷ ids) more e = refl

none_tells : (ids : List (List ℕ)) → has_ids ids ≡ false → (ms : List Arrival) → list_any (tells ids) ms ≡ false
none_tells (id ∷ ids) e ms = cc
none_tells [] e [] = refl
none_tells [] e (m ∷ ms) = ap (λ v. v || list_any (tells []) ms) (by (is_info_reply m.content) m.parent) ∙ none_tells [] e ms
  where
    by : (b : Bool) (o : Option (List ℕ)) → (b && answers [] o) ≡ false
    by true None = refl
    by true (Some parent) = refl
    by false o = refl

module _ (j : Job) (entry : Entry) (past : List Entry) where
  abbrev is_now : Bool
  is_now = is_asked (can_ask j past) (ask_state j past) (moment_of entry)

  ids_stay : has_ids (ask_state j past).ids ≡ true → has_ids (ask_state j (entry ∷ past)).ids ≡ true
  unfolding ask_on
  ids_stay e = by is_now
    where
      by : (b : Bool) → has_ids (cond b ((ask_state j past).ids ++ j.msg_id (length (ask_state j past).ids + 1) ∷ []) (ask_state j past).ids) ≡ true
      by true = has_more (ask_state j past).ids (j.msg_id (length (ask_state j past).ids + 1) ∷ []) e
      by false = e

  -- a reply is to one of those before
  told_by : (ask_state j (entry ∷ past)).told ≡ true → ((ask_state j past).told ≡ true) ⊎ (has_ids (ask_state j past).ids ≡ true)
  unfolding ask_on
  told_by e = by (cases_Bool (has_ids (ask_state j past).ids))
    where
      by : (has_ids (ask_state j past).ids ≡ true) ⊎ (has_ids (ask_state j past).ids ≡ false) → ((ask_state j past).told ≡ true) ⊎ (has_ids (ask_state j past).ids ≡ true)
      by (inl h) = inr h
      by (inr h) = inl (sym (or-false (ask_state j past).told) ∙ ap (λ v. (ask_state j past).told || v) (sym (none_tells (ask_state j past).ids h (arrive j Shell entry past))) ∙ e)

  -- one more comes with a clock entry, where the handshake on shell is finished
  asked_by : has_ids (ask_state j (entry ∷ past)).ids ≡ true → (has_ids (ask_state j past).ids ≡ true) ⊎ ((is_shaken j Shell past ≡ true) × ((ms : ℕ) × (moment_of entry ≡ Some ms)))
  unfolding ask_on can_ask
  asked_by e = by is_now refl
    where
      now : (o : Option ℕ) → moment_of entry ≡ o → is_asked (can_ask j past) (ask_state j past) o ≡ true → (is_shaken j Shell past ≡ true) × ((ms : ℕ) × (moment_of entry ≡ Some ms))
      now None f g = cc
      now (Some ms) f g =
          let p = and_parts (can_ask j past && not (asking.is_ready (ask_state j past))) _ g in
          let q = and_parts (can_ask j past) (not (asking.is_ready (ask_state j past))) p.0 in
          let r = and_parts (is_shaken j Shell past && is_shaken j Iopub past) _ q.0 in
          ((and_parts (is_shaken j Shell past) (is_shaken j Iopub past) r.0).0, (ms, f))

      by : (b : Bool) → is_now ≡ b → (has_ids (ask_state j past).ids ≡ true) ⊎ ((is_shaken j Shell past ≡ true) × ((ms : ℕ) × (moment_of entry ≡ Some ms)))
      by true f = inr (now (moment_of entry) refl f)
      by false f = inl (sym (ap has_ids (cond-false is_now _ (ask_state j past).ids f)) ∙ e)

told_ids : (j : Job) (past : List Entry) → (ask_state j past).told ≡ true → has_ids (ask_state j past).ids ≡ true
told_ids j [] e = cc
told_ids j (entry ∷ past) e = ids_stay j entry past (elim (told_by j entry past e) [
  | inl f ↦ told_ids j past f
  | inr f ↦ f
])

unshaken : (j : Job) → IsDecoding j.codec → (past : List Entry) → bytes_got j Shell past ≡ [] → is_shaken j Shell past ≡ false
unfolding is_shaken
unshaken j d past e = ap (j.codec.shaken Shell) e ∙ d.not_shaken Shell

module _ (jobs : List Job) (j : Job) (m : IsAmong j jobs) (d : IsDecoding j.codec) where
  -- it was asked at a turn's clock entry
  ids_clock : (past : List Entry) → all_along (in_order jobs) past ≡ true → has_ids (ask_state j past).ids ≡ true → is_some (first_clock 0 past) ≡ true
  ids_clock [] o e = cc
  ids_clock (entry ∷ past) o e = first_ever 0 (entry ∷ past) ∙ by (λ f. ids_clock past p.1 f) (asked_by j entry past e)
    where
      p : (in_order jobs (entry ∷ past) ≡ true) × (all_along (in_order jobs) past ≡ true)
      p = and_parts (in_order jobs (entry ∷ past)) (all_along (in_order jobs) past) o

      now : (ms : ℕ) → moment_of entry ≡ Some ms → is_shaken j Shell past ≡ true → is_past 0 (entry ∷ past) ≡ true
      now ms f s = elim (cases_Bool (has_wait past)) [
        | inl w ↦ ap (is_at_least 0) (cond-true (has_wait past) (moment_of entry) None w ∙ f) ∙ le-leb 0 ms (omega arith)
        | inr w ↦ absurd (not_both (is_shaken j Shell past) s (unshaken j d past (no_bytes jobs j m past p.1 w Shell)))
      ]

      by : (has_ids (ask_state j past).ids ≡ true → is_some (first_clock 0 past) ≡ true) → (has_ids (ask_state j past).ids ≡ true) ⊎ ((is_shaken j Shell past ≡ true) × ((ms : ℕ) × (moment_of entry ≡ Some ms))) → ever (is_past 0) (entry ∷ past) ≡ true
      by ih (inl f) = or_right (is_past 0 (entry ∷ past)) (ever (is_past 0) past) (sym (first_ever 0 past) ∙ ih f)
      by ih (inr f) = or_left (is_past 0 (entry ∷ past)) (ever (is_past 0) past) (now f.1.0 f.1.1 f.0)

  pub ready_clock : (past : List Entry) → all_along (in_order jobs) past ≡ true → is_ready j past ≡ true → is_some (first_clock 0 past) ≡ true
  ready_clock past o e = ids_clock past o (told_ids j past (and_parts (ask_state j past).told (ask_state j past).heard e).0)

  -- so before anything comes for a request
  pub brings_late : (entry : Entry) (past : List Entry) → all_along (in_order jobs) past ≡ true → brings j entry past ≡ true → is_some (first_clock 0 past) ≡ true
  brings_late entry past o b = elim (or_cases (not (is_empty_list (came_for j (last_request 0 (requests j past)) entry past))) _ b) [
    | inl e ↦ ready_clock past o (was_ready (cases_Bool (is_ready j past)) e)
    | inr e ↦ ids_clock past o (elim (told_by j entry past (and_parts (ask_state j (entry ∷ past)).told (ask_state j (entry ∷ past)).heard (and_parts (is_ready j (entry ∷ past)) (not (is_ready j past)) e).0).0) [
      | inl f ↦ told_ids j past f
      | inr f ↦ f
    ])
  ]
    where
      nothing : (rs : List Request) → rs ≡ [] → not (is_empty_list (came_for j (last_request 0 rs) entry past)) ≡ false
      nothing rs f = ap (λ v. not (is_empty_list (came_for j (last_request 0 v) entry past))) f

      was_ready : (is_ready j past ≡ true) ⊎ (is_ready j past ≡ false) → not (is_empty_list (came_for j (last_request 0 (requests j past)) entry past)) ≡ true → is_ready j past ≡ true
      was_ready (inl f) e = f
      was_ready (inr f) e = absurd (not_both (not (is_empty_list (came_for j (last_request 0 (requests j past)) entry past))) e (nothing (requests j past) (none_unready j past f)))
