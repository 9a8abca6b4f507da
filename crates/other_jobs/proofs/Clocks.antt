-- The clock before any byte was put on IOPub.
use Rattle.std.proofs.Common.{◌≡◌, ℕ, ◌+◌, List, [], ◌∷◌, ◌++◌, length, Bool, false, ◌&&◌, refl, sym, ◌∙◌, ap, subst, arith}
use Rattle.std.specs.Prelude.{nat_le, nat_lt, replicate, codes}
use Rattle.std.proofs.Math.Bool.{true≢false}
use Rattle.std.specs.Str.{bytes_eq}
use Rattle.std.proofs.lemmas.Bool.{and_right, cond-false, lt-leb}
use Rattle.words.specs.declared.ask.Ask.{Ask}
use Rattle.world.specs.declared.chan.Chan.{Chan}
use Rattle.world.specs.declared.chan.Chan.TheVariants.{Shell, Iopub}
use Rattle.world.specs.declared.entry.Entry.{Entry}
use Rattle.world.specs.declared.entry.Entry.TheVariants as made
use Rattle.world.specs.Moments.{Since, start, more}
use Rattle.world.specs.Places.{time}
use Rattle.zmtp_wire.specs.declared.role.Role.TheVariants as role
use Rattle.zmtp_wire.specs.Writing.{ready_octets}
use Rattle.save_course.specs.Course.{IsRested}
use Rattle.job_saves.specs.Calls.{Cast, IsCall, IsCallOf}
use Rattle.run_journal.specs.Job.{Job}
use Rattle.run_journal.specs.Parts.{bytes_got, bytes_put}
use Rattle.kernel_talk.specs.Asking.{Asked, asks}
use Rattle.run_journal.specs.Arrivals.{ask_state, can_ask, is_shaken, subscribed_at}
use Rattle.job_journal.specs.Plot.{Plot, facts}
use Rattle.job_journal.specs.Standing.{Parts, StandsBy}
use Rattle.job_journal.specs.Told.{was_asked}
use Rattle.job_journal.proofs.Clocked.{clock_passes}
use Rattle.job_journal.proofs.KeepingUp.{asked_same}
use Rattle.job_journal.proofs.Quiet.{stands_still}
use Rattle.job_journal.proofs.Talks.{asks_at}
use Rattle.other_jobs.specs.Elsewhere.{SavesElsewhere}
use Rattle.other_jobs.proofs.Calling.{call_quiet, calls_rest}

-- ---- the kernel can't be asked

above_none : (x : ℕ) (xs : List ℕ) (n : ℕ) → nat_le (length (x ∷ xs) + n) 0 ≡ false
above_none x xs n = lt-leb (length (x ∷ xs) + n) 0 (omega arith)

-- our greeting is not taken yet
pub cannot_ask : (p : Plot) (past : List Entry) → bytes_put (facts p) Iopub past ≡ [] → can_ask (facts p) past ≡ false
unfolding can_ask
cannot_ask p past none =
    and_right (is_shaken (facts p) Shell past && is_shaken (facts p) Iopub past) (nat_le (subscribed_at (facts p) past) (length (bytes_put (facts p) Iopub past)))
    (ap (λ bytes. nat_le (subscribed_at (facts p) past) (length bytes)) none
    ∙ above_none 255 ((replicate 8 0 ++ (127 ∷ 3 ∷ 1 ∷ codes "NULL" ++ replicate 48 0)) ++ ready_octets role.Sub)
    (length ((facts p).codec.subscription (bytes_got (facts p) Iopub past))))

-- so a clock entry doesn't ask it
asked_still : (p : Plot) (past : List Entry) (ms : ℕ) → bytes_put (facts p) Iopub past ≡ [] → was_asked (facts p) (made.Moment ms ∷ past) ≡ was_asked (facts p) past
asked_still p past ms none =
    ap (λ (a : Asked). nat_lt 0 (length a.ids))
    (asks_at (facts p) ms past
    ∙ cond-false (asks (ask_state (facts p) past) (can_ask (facts p) past) ms) _ _ (ap (λ b. asks (ask_state (facts p) past) b ms) (cannot_ask p past none)))

pub clock_moves : (p : Plot) (number : ℕ) (x : Parts) (past : List Entry) (ms : ℕ) → bytes_put (facts p) Iopub past ≡ [] → was_asked (facts p) past ≡ false
    → StandsBy p number x [] [] past → StandsBy p number (record x { clock = ms }) [] [] (made.Moment ms ∷ past)
clock_moves p number x past ms none unasked h =
    clock_passes p number x past ms h false (sym (cannot_ask p past none)) (λ e. absurd (true≢false (sym e ∙ asked_still p past ms none ∙ unasked))) refl

-- ---- calls of other jobs

-- no byte is put
module _ (j : Job) (c : Chan) (here : List ℕ) (starts clean : Bool) (number : ℕ) (a : Ask) where
  put_stays : (entry : Entry) (past : List Entry) → IsCallOf here starts clean number a past entry → bytes_put j c (entry ∷ past) ≡ bytes_put j c past
  put_stays (made.Connected conn port how) past is = absurd is
  put_stays (made.Closed conn) past is = absurd is
  put_stays (made.Got conn room bytes) past is = absurd is
  put_stays (made.Dry conn) past is = absurd is
  put_stays (made.Ended conn by) past is = absurd is
  put_stays (made.Refused conn by) past is = absurd is
  put_stays (made.ReadFailed conn) past is = absurd is
  put_stays (made.Put conn bytes) past is = absurd is
  put_stays (made.Stuck conn) past is = absurd is
  put_stays (made.PutFailed conn) past is = absurd is
  put_stays (made.Waited ms reports did) past is = absurd is
  put_stays _ past is = refl

pub puts_stay : (j : Job) (on : Chan) (c : Cast) {before now : List Entry} → Since (IsCall c) before now → bytes_put j on now ≡ bytes_put j on before
puts_stay j on c start = refl
puts_stay j on c (more {past} {entry} since is) = put_stays j on c.here c.starts c.clean is.number is.ask entry past is.is ∙ puts_stay j on c since

-- the parts go on with the clock
module _ (p : Plot) (number : ℕ) (x : Parts) where
  abbrev at_clock : ℕ → Parts
  at_clock ms = record x { clock = ms }

  call_stands : (here : List ℕ) (starts clean : Bool) (n : ℕ) (a : Ask) → bytes_eq a.output (facts p).output ≡ false → (entry : Entry) (past : List Entry)
      → IsCallOf here starts clean n a past entry → IsRested (facts p).output past → bytes_put (facts p) Iopub past ≡ [] → was_asked (facts p) past ≡ false
      → StandsBy p number (at_clock (time past)) [] [] past → StandsBy p number (at_clock (time (entry ∷ past))) [] [] (entry ∷ past)
  call_stands here starts clean n a apart (made.Moment ms) past is rested none unasked h = clock_moves p number (at_clock (time past)) past ms none unasked h
  call_stands here starts clean n a apart entry past is rested none unasked h =
      stands_still p number (at_clock (time past)) [] [] entry past (call_quiet (facts p) here starts clean n a apart entry past is (λ e. absurd (cc)) rested) h

  -- the kernel still wasn't asked
  call_unasked : (here : List ℕ) (starts clean : Bool) (n : ℕ) (a : Ask) → bytes_eq a.output (facts p).output ≡ false → (entry : Entry) (past : List Entry)
      → IsCallOf here starts clean n a past entry → IsRested (facts p).output past → bytes_put (facts p) Iopub past ≡ [] → was_asked (facts p) past ≡ false
      → was_asked (facts p) (entry ∷ past) ≡ false
  call_unasked here starts clean n a apart (made.Moment ms) past is rested none unasked = asked_still p past ms none ∙ unasked
  call_unasked here starts clean n a apart entry past is rested none unasked =
      asked_same (facts p) entry past (call_quiet (facts p) here starts clean n a apart entry past is (λ e. absurd (cc)) rested).still.clock ∙ unasked

  calls_unasked : (c : Cast) → SavesElsewhere c (facts p).output → {before now : List Entry} → Since (IsCall c) before now → IsRested (facts p).output before
      → bytes_put (facts p) Iopub before ≡ [] → was_asked (facts p) before ≡ false → was_asked (facts p) now ≡ false
  calls_unasked c elsewhere start rested none unasked = unasked
  calls_unasked c elsewhere (more {past} {entry} since is) rested none unasked =
      call_unasked c.here c.starts c.clean is.number is.ask (elsewhere.each is.number is.ask is.has) entry past is.is (calls_rest (facts p).output c elsewhere since rested)
      (puts_stay (facts p) Iopub c since ∙ none) (calls_unasked c elsewhere since rested none unasked)

  pub calls_stand : (c : Cast) → SavesElsewhere c (facts p).output → {before now : List Entry} → Since (IsCall c) before now → IsRested (facts p).output before
      → bytes_put (facts p) Iopub before ≡ [] → was_asked (facts p) before ≡ false → StandsBy p number x [] [] before → StandsBy p number (at_clock (time now)) [] [] now
  calls_stand c elsewhere {before} start rested none unasked h = subst (λ ms. StandsBy p number (at_clock ms) [] [] before) h.clock h
  calls_stand c elsewhere (more {past} {entry} since is) rested none unasked h =
      call_stands c.here c.starts c.clean is.number is.ask (elsewhere.each is.number is.ask is.has) entry past is.is (calls_rest (facts p).output c elsewhere since rested)
      (puts_stay (facts p) Iopub c since ∙ none) (calls_unasked c elsewhere since rested none unasked) (calls_stand c elsewhere since rested none unasked h)
