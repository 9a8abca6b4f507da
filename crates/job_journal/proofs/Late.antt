-- A look stops a core for a time that is over: it is over by the journal's clock, too.
use Rattle.std.proofs.Common.{◌≡◌, ℕ, ◌+◌, ◌≤◌, List, [], ◌∷◌, length, Bool, true, false, ◌&&◌, ◌||◌, not, Option, Some, None, refl, sym, ◌∙◌, ap, subst, arith}
use Rattle.std.specs.Prelude.{is_none, is_some, nat_le, option_map, slice_get, IsSomeAnd}
use Rattle.std.proofs.Math.Bool.{true≢false}
use Rattle.std.proofs.lemmas.Bool.{and_parts, cond-false, le-leb, leb-true, or_left, or_right}
use Rattle.world.specs.declared.entry.Entry.{Entry}
use Rattle.world.specs.Places.{time}
use Rattle.cell_core.specs.declared.event.Event.{Event}
use Rattle.cell_core.specs.declared.why.Why.{Why}
use Rattle.cell_core.specs.declared.why.Why.TheVariants as cause
use Rattle.cell_core.specs.Deadlines.{idle_ms, replied_at, stood_at}
use Rattle.cell_core.specs.Events as events
use Rattle.cell_core.specs.Requests as core
use Rattle.cell_core.specs.Saves as core_saves
use Rattle.cell_core.proofs.Clocks.{turn_held}
use Rattle.run_journal.specs.Codec.{Arrival}
use Rattle.run_journal.specs.Job.{Job}
use Rattle.run_journal.specs.Requests.{Request, last_request, reply, requests}
use Rattle.run_journal.specs.Agreement.{Agrees, AgreesOn, ClocksBy, ClocksOnBy}
use Rattle.run_journal.proofs.Asking.{Stands, nothing, last, stands, last_numbered}
use Rattle.run_journal.proofs.Rowing.{standing_after}
use Rattle.job_journal.specs.Ended.{HasPassed, IsTimeOver, has_come, idle_due, reply_due}
use Rattle.job_journal.proofs.Ended.{Row, first_row}

-- ---- what a look tells

either : (b d : Bool) {A : Type 0} → (b || d) ≡ true → (b ≡ true → A) → (d ≡ true → A) → A
either true d e f g = f refl
either false d e f g = g e

-- a look after a moment comes after it
look_ever : (test : List Event → Bool) (told : List Event) → events.look_since test told ≡ true → events.ever test told ≡ true
look_ever test [] e = absurd (true≢false (sym e))
look_ever test (x ∷ told) e =
    or_right (test (x ∷ told)) (events.ever test told)
    (either (events.is_looked x && events.ever test told) (events.look_since test told) e (λ f. (and_parts (events.is_looked x) (events.ever test told) f).1) (look_ever test told))

-- so the clock that the core knows has come to it
looked_past : (t : ℕ) (told : List Event) → events.Rising told → events.look_since (events.is_turn_at t) told ≡ true → t ≤ events.time told
looked_past t told rising e =
    leb-true t (events.time told)
    (and_parts (events.ever (events.is_turn_at 0) told) (nat_le t (events.time told)) (sym (turn_held t told rising) ∙ look_ever (events.is_turn_at t) told e)).1

-- ---- the last request

-- a request stands only in a journal with entries
come_now : (j : Job) (now : List Entry) (m at : ℕ) (r : Request) → slice_get (requests j now) m ≡ Some r → at ≤ time now → has_come at now ≡ true
come_now j [] m at r e l = cc
come_now j (entry ∷ past) m at r e l =
    or_left (nat_le at (time (entry ∷ past))) (events.ever (λ (es : List Entry). nat_le at (time es)) past) (le-leb at (time (entry ∷ past)) l)

module _ (j : Job) (told : List Event) (now : List Entry) (plain : j.task.times.interrupt ≡ false) (a : Agrees j told now) (clocks : ClocksBy (λ m n. n ≤ m) j told now)
    (rising : events.Rising told) (within : events.time told ≤ time now) where
  abbrev o : Option core.Standing
  o = core.standing j.task told

  clocks_at : (m : ℕ) (q : Request) (later : List Event) → o ≡ Some (record { request = m; later = later }) → slice_get (requests j now) m ≡ Some q
      → ClocksOnBy (λ m n. n ≤ m) m told later q
  clocks_at m q later e g =
      subst (λ v. IsSomeAnd v (λ l. ClocksOnBy (λ m n. n ≤ m) m told l q)) (standing_after j.task (length j.task.plan) told (record { request = m; later = later }) e) (clocks m q g)

  until : {k l m n : ℕ} → l ≤ k → k ≤ m → m ≤ n → l ≤ n
  until f g h = omega (arith, f, g, h)

  more : {m n : ℕ} (d : ℕ) → m ≤ n → m + d ≤ n + d
  more d f = omega (arith, f)

  -- the time of its reply
  replied : (m : ℕ) (q : Request) (later : List Event) → o ≡ Some (record { request = m; later = later }) → slice_get (requests j now) m ≡ Some q → (limit : Option ℕ) → j.task.times.limit_ms ≡ limit
      → core_saves.is_out_of_time j.task m (option_map (λ d. stood_at (record { request = m; later = later }) told + d) limit) told ≡ true
      → HasPassed (option_map (λ d. q.clock + d) limit) now
  replied m q later e g None f out = absurd (true≢false (sym out))
  replied m q later e g (Some d) f out =
      let at : ℕ = stood_at (record { request = m; later = later }) told + d in
      let looked : events.look_since (events.is_turn_at at) told ≡ true = sym (cond-false j.task.times.interrupt _ _ plain) ∙ out in
      come_now j now m (q.clock + d) q g (until (more d (clocks_at m q later e g).stood) (looked_past at told rising looked) within)

  over_reply : (s : Option core.Standing) → o ≡ s → Stands j told now s → core_saves.is_timed_out j.task s told ≡ true → HasPassed (reply_due j (last_request 0 (requests j now))) now
  over_reply None e (nothing l) f = absurd (true≢false (sym f))
  over_reply (Some _) e (last m q later l g b) f =
      subst (λ r. HasPassed (reply_due j r) now) (sym (last_numbered 0 m (requests j now) q l g))
      (replied m q later e g j.task.times.limit_ms refl (and_parts (is_none (core.reply later)) _ f).1)

  -- the time of its idle
  idled : (m : ℕ) (q : Request) (later : List Event) → o ≡ Some (record { request = m; later = later }) → slice_get (requests j now) m ≡ Some q → AgreesOn j m later q
      → is_some (core.reply later) ≡ true → events.look_since (events.is_turn_at (replied_at (record { request = m; later = later }) told + idle_ms)) told ≡ true
      → HasPassed (option_map (λ v. v.1 + idle_ms) (reply q)) now
  idled m q later e g b some looked = by (reply q) refl
    where
      by : (r : Option (Arrival × ℕ)) → reply q ≡ r → HasPassed (option_map (λ v. v.1 + idle_ms) r) now
      by None f = absurd (true≢false (sym some ∙ ap (λ (v : Option Bool). is_some v) (b.reply ∙ ap (option_map (λ (v : Arrival × ℕ). j.fatal m v.0.content)) f)))
      by (Some v) f =
          come_now j now m (v.1 + idle_ms) q g
          (until (more idle_ms ((clocks_at m q later e g).replied v f)) (looked_past (replied_at (record { request = m; later = later }) told + idle_ms) told rising looked) within)

  over_idle : (s : Option core.Standing) → o ≡ s → Stands j told now s → core_saves.is_no_idle s told ≡ true → HasPassed (idle_due (last_request 0 (requests j now))) now
  over_idle None e (nothing l) f = absurd (true≢false (sym f))
  over_idle (Some _) e (last m q later l g b) f =
      let parts = and_parts (is_some (core.reply later) && not (core.is_over later)) _ f in
      subst (λ r. HasPassed (idle_due r) now) (sym (last_numbered 0 m (requests j now) q l g))
      (idled m q later e g b (and_parts (is_some (core.reply later)) (not (core.is_over later)) parts.0).0 parts.1)

  row : (w : Why) → core_saves.why j.task told ≡ Some w
      → Row (core_saves.is_done j.task told) (core_saves.is_cell_error o) (core_saves.is_not_ready j.task o told) (core_saves.is_no_idle o told) (core_saves.is_timed_out j.task o told) w
  row w e =
      first_row (core_saves.is_done j.task told) (core_saves.is_cell_error o) (events.came events.is_broken told) (events.look_since events.is_lost told)
      (core_saves.is_not_ready j.task o told) (core_saves.is_no_idle o told) (core_saves.is_timed_out j.task o told) w e

  -- A core stops that was told these events. Where it stops for a time that is over, the journal's clock has come to that time.
  pub time_over : (w : Why) → core_saves.why j.task told ≡ Some w → IsTimeOver j w now
  time_over cause.TimedOut e = over_reply o refl (stands j told now a) (row cause.TimedOut e)
  time_over cause.NoIdle e = over_idle o refl (stands j told now a) (row cause.NoIdle e)
  time_over cause.Done e = tt
  time_over cause.CellError e = tt
  time_over cause.NotReady e = tt
  time_over cause.KernelLost e = tt
  time_over cause.BadPeer e = tt
