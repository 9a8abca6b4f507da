-- What the definitions say of a job they say by its own entries alone.
use Rattle.std.proofs.Common.{◌≡◌, inl, inr, ℕ, ◌+◌, List, [], ◌∷◌, ◌++◌, length, map, Bool, true, false, ◌&&◌, ◌||◌, not, cond, Option, Some, None, refl, sym, ◌∙◌, ap, subst}
use Rattle.std.specs.Prelude.{is_some, option_map}
use Rattle.std.proofs.lemmas.List.{append-nil}
use Rattle.std.proofs.lemmas.Bool.{or_right, cond-true, cond-false, cond_both, cases_Bool}
use Rattle.world.specs.declared.chan.Chan.{Chan}
use Rattle.world.specs.declared.chan.Chan.TheVariants.{Shell, Control, Iopub, Heart}
use Rattle.world.specs.declared.entry.Entry.{Entry}
use Rattle.world.specs.Jobs.{closes}
use Rattle.world.specs.Places.{time}
use Rattle.world.specs.Waits.{before_wait, moment_of}
use Rattle.cell_core.specs.declared.why.Why.{Why}
use Rattle.cell_core.specs.declared.why.Why.TheVariants as cause
use Rattle.cell_core.specs.Deadlines.{interrupt_ms, idle_ms}
use Rattle.kernel_talk.specs.Asking.{Asked}
use Rattle.run_journal.specs.Codec.{Arrival}
use Rattle.run_journal.specs.Job.{Job}
use Rattle.run_journal.specs.Parts.{channels, bytes_got, turn_clock, is_acknowledging, saves_of, is_shut, before_shut}
use Rattle.run_journal.specs.OfJob.{is_of, of_job}
use Rattle.run_journal.specs.Arrivals.{arrive, has_some, can_ask, ask_state, is_ready}
use Rattle.run_journal.specs.Looks.{is_look, can_ping, ping_end, pings, is_lost, is_at_least}
use Rattle.run_journal.specs.Requests.{Request, reply, or_later, is_broken, first_clock, before_clock, deadline, is_just_out, is_interrupted, with_news, with_interrupt, goes_on, is_next, is_over, fresh, count_queued, with_next, and_next, requests, last_request}
use Rattle.run_journal.specs.Why.{BadStream, bad_by, fault_on, bad_stream, starts, child_clock, is_out, is_not_ready, is_no_idle, last_deadline, is_timed_out, is_done, is_error, cause_if, why}
use Rattle.run_journal.specs.Saves.{saves_for, saves_by, saves}
use Rattle.run_journal.proofs.Alike.{Quiet, Same, Near, empty, skips, shares, Alike, neither, theirs, ours, near, near_self, own_alike, alike_foreign}
use Rattle.run_journal.proofs.AlikeLooks.{any_agree, map_agree, or_none, time_alike, got_alike, acked_alike, arrive_nothing, arrive_ours, ask_nothing, ask_alike, asked_alike, ready_alike, before_wait_alike, before_clock_alike, looked_alike, ping_nothing, ping_alike, is_lost_alike, clock_theirs, clock_ours, ran_out_alike}

module _ (j : Job) where
  -- ---- requests

  first_clock_alike : {p q : List Entry} (deadline : ℕ) → Near j p q → first_clock deadline p ≡ first_clock deadline q
  first_clock_alike deadline empty = refl
  first_clock_alike deadline (skips {p = p} f a) = ap (λ o. or_later (first_clock deadline p) (cond (is_at_least deadline o) o None)) (clock_theirs j p f) ∙ or_none (first_clock deadline p) ∙ first_clock_alike deadline a
  first_clock_alike deadline (shares {own = own} {p} {q} s a) =
      ap (λ o. or_later (first_clock deadline p) (cond (is_at_least deadline o) o None)) (clock_ours j s a)
      ∙ ap (λ o. or_later o (cond (is_at_least deadline (turn_clock (own ∷ q))) (turn_clock (own ∷ q)) None)) (first_clock_alike deadline a)

  just_out_alike : {p q : List Entry} (o : Option ℕ) → Near j p q → is_just_out j p o ≡ is_just_out j q o
  just_out_alike None a = refl
  just_out_alike {p} {q} (Some at) a =
      ap (λ b. b && is_some (first_clock at (before_wait p)) && not (is_some (first_clock at (before_clock p)))) (looked_alike j a)
      ∙ ap (λ (o : Option ℕ). is_look j q && is_some o && not (is_some (first_clock at (before_clock p)))) (first_clock_alike at (before_wait_alike j a))
      ∙ ap (λ (o : Option ℕ). is_look j q && is_some (first_clock at (before_wait q)) && not (is_some o)) (first_clock_alike at (before_clock_alike j a))

  broken_alike : {p q : List Entry} → Near j p q → is_broken j p ≡ is_broken j q
  unfolding is_broken
  broken_alike {p} {q} a = any_agree (λ c. is_some (j.codec.fault c (bytes_got j c p))) (λ c. is_some (j.codec.fault c (bytes_got j c q))) (λ c. ap (λ bytes. is_some (j.codec.fault c bytes)) (got_alike j a c)) channels

  interrupted_alike : {p q : List Entry} (r : Request) → Near j p q → is_interrupted j p r ≡ is_interrupted j q r
  unfolding is_interrupted
  interrupted_alike {p} {q} r a =
      ap (λ b. j.task.times.interrupt && not (is_some (reply r)) && b && not (is_broken j p) && not (is_lost j p)) (just_out_alike (deadline j r) a)
      ∙ ap (λ b. j.task.times.interrupt && not (is_some (reply r)) && is_just_out j q (deadline j r) && not b && not (is_lost j p)) (broken_alike a)
      ∙ ap (λ b. j.task.times.interrupt && not (is_some (reply r)) && is_just_out j q (deadline j r) && not (is_broken j q) && not b) (is_lost_alike j a)

  abbrev with_flag : Request → Bool → Request
  with_flag r b = record { number = r.number; clock = r.clock; io = r.io; replies = r.replies; interrupted = r.interrupted || b }

  with_interrupt_alike : {p q : List Entry} (r : Request) → Near j p q → with_interrupt j p r ≡ with_interrupt j q r
  with_interrupt_alike r a = ap (with_flag r) (interrupted_alike r a)

  news_alike : (r : Request) {a b c d : List Arrival} {t u : ℕ} → a ≡ b → c ≡ d → t ≡ u → with_news j r a c t ≡ with_news j r b d u
  news_alike r {a} {b} {c} {d} {t} {u} e1 e2 e3 = ap (λ x. with_news j r x c t) e1 ∙ ap (λ x. with_news j r b x t) e2 ∙ ap (with_news j r b d) e3

  news_nothing : (r : Request) (t : ℕ) → with_news j r [] [] t ≡ r
  news_nothing r t = ap (λ xs. record { number = r.number; clock = r.clock; io = xs; replies = r.replies ++ []; interrupted = r.interrupted }) (append-nil r.io)
      ∙ ap (λ (xs : List (Arrival × ℕ)). record { number = r.number; clock = r.clock; io = r.io; replies = xs; interrupted = r.interrupted }) (append-nil r.replies)

  goes_ours : {entry own : Entry} {p q : List Entry} → Same j entry own → Near j p q → (r : Request) → goes_on j entry p r ≡ goes_on j own q r
  goes_ours {entry} {own} {p} {q} s a r =
      ap (with_interrupt j (entry ∷ p)) (news_alike r (arrive_ours j s a Iopub) (arrive_ours j s a Shell) (time_alike j a))
      ∙ with_interrupt_alike (with_news j r (arrive j Iopub own q) (arrive j Shell own q) (time q)) (shares s a)

  -- the next request comes to stand in both
  next_ours : {entry own : Entry} {p q : List Entry} (rs : List Request) → Near j p q → Near j (entry ∷ p) (own ∷ q)
      → is_acknowledging j (entry ∷ p) ≡ is_acknowledging j (own ∷ q) → saves_of j (entry ∷ p) ≡ saves_of j (own ∷ q) → and_next j entry p rs ≡ and_next j own q rs
  next_ours {entry} {own} {p} {q} rs a both here acks =
      ap (λ x. with_next (is_next j x (is_ready j (entry ∷ p)) (saves_of j (entry ∷ p)) rs) (with_interrupt j (entry ∷ p) (fresh (count_queued (length (ask_state j (entry ∷ p)).ids) rs + 1) (time p))) rs) here
      ∙ ap (λ b. with_next (is_next j (is_acknowledging j (own ∷ q)) b (saves_of j (entry ∷ p)) rs) (with_interrupt j (entry ∷ p) (fresh (count_queued (length (ask_state j (entry ∷ p)).ids) rs + 1) (time p))) rs) (ready_alike j both)
      ∙ ap (λ n. with_next (is_next j (is_acknowledging j (own ∷ q)) (is_ready j (own ∷ q)) n rs) (with_interrupt j (entry ∷ p) (fresh (count_queued (length (ask_state j (entry ∷ p)).ids) rs + 1) (time p))) rs) acks
      ∙ ap (λ (x : Asked). with_next (is_next j (is_acknowledging j (own ∷ q)) (is_ready j (own ∷ q)) (saves_of j (own ∷ q)) rs) (with_interrupt j (entry ∷ p) (fresh (count_queued (length x.ids) rs + 1) (time p))) rs) (asked_alike j both)
      ∙ ap (λ t. with_next (is_next j (is_acknowledging j (own ∷ q)) (is_ready j (own ∷ q)) (saves_of j (own ∷ q)) rs) (with_interrupt j (entry ∷ p) (fresh (count_queued (length (ask_state j (own ∷ q)).ids) rs + 1) t)) rs) (time_alike j a)
      ∙ ap (λ r. with_next (is_next j (is_acknowledging j (own ∷ q)) (is_ready j (own ∷ q)) (saves_of j (own ∷ q)) rs) r rs) (with_interrupt_alike (fresh (count_queued (length (ask_state j (own ∷ q)).ids) rs + 1) (time q)) both)

  -- ---- what holds of the requests of each journal

  -- no interrupt is queued later that could be queued now
  abbrev Checked : List Entry → List Request → Type 0
  Checked p [] = Unit {0}
  Checked p (r ∷ rs) = (is_interrupted j p r ≡ true → r.interrupted ≡ true) × Checked p rs

  checked_one : (p : List Entry) (r : Request) → is_interrupted j p (with_interrupt j p r) ≡ true → (with_interrupt j p r).interrupted ≡ true
  unfolding is_interrupted
  checked_one p r e = or_right r.interrupted (is_interrupted j p r) e

  checked_map : (entry : Entry) (p : List Entry) (rs : List Request) → Checked (entry ∷ p) (map (goes_on j entry p) rs)
  checked_map entry p [] = tt
  checked_map entry p (r ∷ rs) = (checked_one (entry ∷ p) (with_news j r (arrive j Iopub entry p) (arrive j Shell entry p) (time p)), checked_map entry p rs)

  checked_push : (p : List Entry) (rs : List Request) (r : Request) → Checked p rs → Checked p (with_interrupt j p r ∷ []) → Checked p (rs ++ with_interrupt j p r ∷ [])
  checked_push p [] r a b = b
  checked_push p (s ∷ rs) r a b = (a.0, checked_push p rs r a.1 b)

  requests_checked : (p : List Entry) → Checked p (requests j p)
  requests_checked [] = tt
  requests_checked (entry ∷ p) =
      let rs : List Request = map (goes_on j entry p) (requests j p) in
      let r : Request = fresh (count_queued (length (ask_state j (entry ∷ p)).ids) rs + 1) (time p) in
      cond_both (is_next j (is_acknowledging j (entry ∷ p)) (is_ready j (entry ∷ p)) (saves_of j (entry ∷ p)) rs) (rs ++ with_interrupt j (entry ∷ p) r ∷ []) rs (λ ss. Checked (entry ∷ p) ss)
      (λ e. checked_push (entry ∷ p) rs r (checked_map entry p (requests j p)) (checked_one (entry ∷ p) r, tt))
      (λ e. checked_map entry p (requests j p))

  -- no request comes to stand a moment later without a cause
  next_idle : (ready : Bool) (saves : ℕ) (r : Request) (rs : List Request) → is_next j false ready saves (rs ++ r ∷ []) ≡ false
  next_idle ready saves r [] = refl
  next_idle ready saves r (s ∷ rs) = refl

  -- without an acknowledgement only the first request may come to stand
  no_ack_next : (b ready : Bool) (saves : ℕ) (rs : List Request) → is_next j b ready saves rs ≡ false → is_next j false ready saves rs ≡ false
  no_ack_next b ready saves [] e = e
  no_ack_next b ready saves (r ∷ rs) e = refl

  -- the next request doesn't come to stand a moment later without a cause
  pub no_next : (p : List Entry) → is_next j false (is_ready j p) (saves_of j p) (requests j p) ≡ false
  no_next [] = refl
  no_next (entry ∷ p) =
      let rs : List Request = map (goes_on j entry p) (requests j p) in
      let r : Request = with_interrupt j (entry ∷ p) (fresh (count_queued (length (ask_state j (entry ∷ p)).ids) rs + 1) (time p)) in
      cond_both (is_next j (is_acknowledging j (entry ∷ p)) (is_ready j (entry ∷ p)) (saves_of j (entry ∷ p)) rs) (rs ++ r ∷ []) rs (λ ss. is_next j false (is_ready j (entry ∷ p)) (saves_of j (entry ∷ p)) ss ≡ false)
      (λ e. next_idle (is_ready j (entry ∷ p)) (saves_of j (entry ∷ p)) r rs)
      (λ e. no_ack_next (is_acknowledging j (entry ∷ p)) (is_ready j (entry ∷ p)) (saves_of j (entry ∷ p)) rs e)

  absorb : (x y : Bool) → (y ≡ true → x ≡ true) → (x || y) ≡ x
  absorb true y h = refl
  absorb false true h = sym (h refl)
  absorb false false h = refl

  -- where an entry adds no byte and queues no interrupt, a request stays
  pub goes_nowhere : (entry : Entry) (p : List Entry) (r : Request) → ((c : Chan) → bytes_got j c (entry ∷ p) ≡ bytes_got j c p)
      → is_interrupted j (entry ∷ p) r ≡ is_interrupted j p r → (is_interrupted j p r ≡ true → r.interrupted ≡ true) → goes_on j entry p r ≡ r
  goes_nowhere entry p r none flag h =
      ap (with_interrupt j (entry ∷ p)) (news_alike r (arrive_nothing j entry p Iopub (none Iopub)) (arrive_nothing j entry p Shell (none Shell)) refl ∙ news_nothing r (time p))
      ∙ ap (with_flag r) flag
      ∙ ap (λ b. record { number = r.number; clock = r.clock; io = r.io; replies = r.replies; interrupted = b }) (absorb r.interrupted (is_interrupted j p r) h)

  map_nowhere : (entry : Entry) (p : List Entry) → ((c : Chan) → bytes_got j c (entry ∷ p) ≡ bytes_got j c p)
      → ((r : Request) → is_interrupted j (entry ∷ p) r ≡ is_interrupted j p r) → (rs : List Request) → Checked p rs → map (goes_on j entry p) rs ≡ rs
  map_nowhere entry p none flags [] h = refl
  map_nowhere entry p none flags (r ∷ rs) h = ap (λ x. x ∷ map (goes_on j entry p) rs) (goes_nowhere entry p r none (flags r) h.0) ∙ ap (λ xs. r ∷ xs) (map_nowhere entry p none flags rs h.1)

  -- what a job isn't told of: an entry with no byte got, no clock, and no save acknowledged
  pub record IsUntold (entry : Entry) (past : List Entry) : Type 0 where
    pub got : (c : Chan) → bytes_got j c (entry ∷ past) ≡ bytes_got j c past
    pub clock : moment_of entry ≡ None
    pub acks : is_acknowledging j (entry ∷ past) ≡ false

  -- nothing comes of it of the asking
  pub asked_untold : (entry : Entry) (p : List Entry) → IsUntold entry p → ask_state j (entry ∷ p) ≡ ask_state j p
  asked_untold entry p u =
      ask_alike j refl refl u.clock refl (arrive_nothing j entry p Shell (u.got Shell)) (arrive_nothing j entry p Iopub (u.got Iopub))
      ∙ ask_nothing j (ask_state j p) (can_ask j p) (j.msg_id (length (ask_state j p).ids + 1))

  -- no ping
  pub pings_untold : (entry : Entry) (p : List Entry) → IsUntold entry p → pings j (entry ∷ p) ≡ pings j p
  pings_untold entry p u =
      ping_alike j refl refl u.clock refl (ap has_some (arrive_nothing j entry p Heart (u.got Heart))) ∙ ping_nothing j (pings j p) (can_ping j p) (ping_end j p (length (pings j p).queued))

  -- no acknowledged save
  pub acked_untold : (entry : Entry) (p : List Entry) → IsUntold entry p → saves_of j (entry ∷ p) ≡ saves_of j p
  acked_untold entry p u = cond-false (is_acknowledging j (entry ∷ p)) _ _ u.acks

  -- the requests stay, but that an interrupt may be queued where it ends a look
  pub requests_untold : (entry : Entry) (p : List Entry) → IsUntold entry p → ((r : Request) → is_interrupted j (entry ∷ p) r ≡ is_interrupted j p r) → requests j (entry ∷ p) ≡ requests j p
  requests_untold entry p u flags =
      let e : is_next j (is_acknowledging j (entry ∷ p)) (is_ready j (entry ∷ p)) (saves_of j (entry ∷ p)) (requests j p) ≡ false
      = ap (λ b. is_next j b (is_ready j (entry ∷ p)) (saves_of j (entry ∷ p)) (requests j p)) u.acks
      ∙ ap (λ (x : Asked). is_next j false (x.told && x.heard) (saves_of j (entry ∷ p)) (requests j p)) (asked_untold entry p u)
      ∙ ap (λ n. is_next j false (is_ready j p) n (requests j p)) (acked_untold entry p u)
      ∙ no_next p in
      ap (and_next j entry p) (map_nowhere entry p u.got flags (requests j p) (requests_checked p))
      ∙ cond-false (is_next j (is_acknowledging j (entry ∷ p)) (is_ready j (entry ∷ p)) (saves_of j (entry ∷ p)) (requests j p)) _ _ e

  -- at a quiet entry the requests stay, but that the next one may come to stand
  pub requests_quiet : {entry : Entry} (p : List Entry) → Quiet j entry → requests j (entry ∷ p) ≡ and_next j entry p (requests j p)
  requests_quiet {entry} p f =
      ap (and_next j entry p) (map_nowhere entry p (got_alike j (skips f (near_self j p))) (λ r. interrupted_alike r (skips f (near_self j p))) (requests j p) (requests_checked p))

  untold_theirs : {entry : Entry} (p : List Entry) → Quiet j entry → is_acknowledging j (entry ∷ p) ≡ false → IsUntold entry p
  untold_theirs p f k = record { got = got_alike j (skips f (near_self j p)); clock = f.clock; acks = k }

  -- the same requests stand
  pub requests_alike : {p q : List Entry} → Alike j p q → requests j p ≡ requests j q
  requests_alike neither = refl
  requests_alike (theirs {entry} {p} f k a) = requests_untold entry p (untold_theirs p f k) (λ r. interrupted_alike r (skips f (near_self j p))) ∙ requests_alike a
  requests_alike (ours {entry} {own} {p} {q} s k a) =
      ap (λ rs. and_next j entry p (map (goes_on j entry p) rs)) (requests_alike a)
      ∙ ap (and_next j entry p) (map_agree (goes_on j entry p) (goes_on j own q) (goes_ours s (near a)) (requests j q))
      ∙ next_ours (map (goes_on j own q) (requests j q)) (near a) (shares s (near a)) (sym k) (acked_alike j (ours s k a))

  -- ---- why a job stopped

  or_step : (o : Option ℕ) (s : Bool) (t : ℕ) → s ≡ false → or_later o (cond s (Some t) None) ≡ o
  or_step o s t e = ap (λ b. or_later o (cond b (Some t) None)) e ∙ or_none o

  child_clock_alike : {p q : List Entry} → Near j p q → child_clock j p ≡ child_clock j q
  child_clock_alike empty = refl
  child_clock_alike (skips {entry} {p} f a) = or_step (child_clock j p) (starts j entry) (time p) f.started ∙ child_clock_alike a
  child_clock_alike (shares {entry} {own} {p} {q} s a) =
      ap (λ o. or_later o (cond (starts j entry) (Some (time p)) None)) (child_clock_alike a)
      ∙ ap (λ b. or_later (child_clock j q) (cond b (Some (time p)) None)) (sym s.started)
      ∙ ap (λ t. or_later (child_clock j q) (cond (starts j own) (Some t) None)) (time_alike j a)

  fault_alike : {p q : List Entry} → Near j p q → (c : Chan) → fault_on j p c ≡ fault_on j q c
  fault_alike {p} {q} a c = ap (λ bytes. option_map (bad_by c) (j.codec.fault c bytes)) (got_alike j a c)

  -- the same stream is broken
  pub bad_stream_alike : {p q : List Entry} → Near j p q → bad_stream j p ≡ bad_stream j q
  unfolding bad_stream
  bad_stream_alike a = four (fault_alike a Shell) (fault_alike a Control) (fault_alike a Iopub) (fault_alike a Heart)
    where
      four : {a b c d x y z w : Option BadStream} → a ≡ x → b ≡ y → c ≡ z → d ≡ w → or_later a (or_later b (or_later c d)) ≡ or_later x (or_later y (or_later z w))
      four {a} {b} {c} {d} {x} {y} {z} e1 e2 e3 e4 = ap (λ o. or_later o (or_later b (or_later c d))) e1 ∙ ap (λ o. or_later x (or_later o (or_later c d))) e2 ∙ ap (λ o. or_later x (or_later y (or_later o d))) e3 ∙ ap (λ o. or_later x (or_later y (or_later z o))) e4

  out_alike : {p q : List Entry} (more : ℕ) (o : Option ℕ) → Near j p q → is_out j more o p ≡ is_out j more o q
  out_alike more None a = refl
  out_alike more (Some clock) a = ran_out_alike j (clock + more) a

  not_ready_alike : {p q : List Entry} (rs : List Request) → Near j p q → is_not_ready j rs p ≡ is_not_ready j rs q
  not_ready_alike {p} {q} [] a = ap (λ o. is_out j j.task.times.start_ms o p) (child_clock_alike a) ∙ out_alike j.task.times.start_ms (child_clock j q) a
  not_ready_alike (r ∷ rs) a = refl

  no_idle_alike : {p q : List Entry} (o : Option (ℕ × Request)) → Near j p q → is_no_idle j o p ≡ is_no_idle j o q
  no_idle_alike None a = refl
  no_idle_alike (Some r) a = ap (λ b. not (is_over r.1) && b) (out_alike idle_ms (option_map (λ m. m.1) (reply r.1)) a)

  last_deadline_alike : {p q : List Entry} (r : Request) (o : Option ℕ) → Near j p q → last_deadline j r p o ≡ last_deadline j r q o
  last_deadline_alike r None a = refl
  last_deadline_alike r (Some at) a = ap (λ o. cond j.task.times.interrupt (cond r.interrupted (option_map (λ ms. ms + interrupt_ms) o) None) (Some at)) (first_clock_alike at a)

  timed_out_alike : {p q : List Entry} (o : Option (ℕ × Request)) → Near j p q → is_timed_out j o p ≡ is_timed_out j o q
  timed_out_alike None a = refl
  timed_out_alike {p} {q} (Some r) a =
      ap (λ o. not (is_some (reply r.1)) && is_out j 0 o p) (last_deadline_alike r.1 (deadline j r.1) a)
      ∙ ap (λ b. not (is_some (reply r.1)) && b) (out_alike 0 (last_deadline j r.1 q (deadline j r.1)) a)

  rows_alike : {a b c d e f g t u v w x y z : Option Why} → a ≡ t → b ≡ u → c ≡ v → d ≡ w → e ≡ x → f ≡ y → g ≡ z
      → or_later a (or_later b (or_later c (or_later d (or_later e (or_later f g))))) ≡ or_later t (or_later u (or_later v (or_later w (or_later x (or_later y z)))))
  rows_alike {a} {b} {c} {d} {e} {f} {g} {t} {u} {v} {w} {x} {y} {z} e1 e2 e3 e4 e5 e6 e7 =
      ap (λ o. or_later o (or_later b (or_later c (or_later d (or_later e (or_later f g)))))) e1 ∙ ap (λ o. or_later t (or_later o (or_later c (or_later d (or_later e (or_later f g)))))) e2
      ∙ ap (λ o. or_later t (or_later u (or_later o (or_later d (or_later e (or_later f g)))))) e3 ∙ ap (λ o. or_later t (or_later u (or_later v (or_later o (or_later e (or_later f g)))))) e4
      ∙ ap (λ o. or_later t (or_later u (or_later v (or_later w (or_later o (or_later f g)))))) e5 ∙ ap (λ o. or_later t (or_later u (or_later v (or_later w (or_later x (or_later o g)))))) e6
      ∙ ap (λ o. or_later t (or_later u (or_later v (or_later w (or_later x (or_later y o)))))) e7

  -- what stopped a job, by its first row and by the requests
  pub why_but_done : {p q : List Entry} → Near j p q → cause_if (is_done j (saves_of j p) (requests j p)) cause.Done ≡ cause_if (is_done j (saves_of j q) (requests j q)) cause.Done
      → requests j p ≡ requests j q → why j p ≡ why j q
  why_but_done {p} {q} a done rs =
      rows_alike
      done
      (ap (λ rs. cause_if (is_error j (last_request 0 rs)) cause.CellError) rs)
      (ap (λ (o : Option BadStream). cause_if (is_some o) cause.BadPeer) (bad_stream_alike a))
      (ap (λ b. cause_if b cause.KernelLost) (is_lost_alike j a))
      (ap (λ b. cause_if b cause.NotReady) (ap (λ rs. is_not_ready j rs p) rs ∙ not_ready_alike (requests j q) a))
      (ap (λ b. cause_if b cause.NoIdle) (ap (λ rs. is_no_idle j (last_request 0 rs) p) rs ∙ no_idle_alike (last_request 0 (requests j q)) a))
      (ap (λ b. cause_if b cause.TimedOut) (ap (λ rs. is_timed_out j (last_request 0 rs) p) rs ∙ timed_out_alike (last_request 0 (requests j q)) a))

  -- the same stopped it
  pub why_alike : {p q : List Entry} → Alike j p q → why j p ≡ why j q
  why_alike {p} {q} a =
      why_but_done (near a) (ap (λ n. cause_if (is_done j n (requests j p)) cause.Done) (acked_alike j a) ∙ ap (λ rs. cause_if (is_done j (saves_of j q) rs) cause.Done) (requests_alike a)) (requests_alike a)

  -- the same saves are due
  pub saves_by_alike : {p q : List Entry} → Alike j p q → saves_by j p ≡ saves_by j q
  saves_by_alike {p} {q} a = ap (λ rs. saves_for j j.given rs (why j p)) (requests_alike a) ∙ ap (saves_for j j.given (requests j q)) (why_alike a)

  -- ---- up to the job's end

  shut_alike : {p q : List Entry} → Near j p q → is_shut j p ≡ is_shut j q
  shut_alike empty = refl
  shut_alike (skips {p = p} f a) = ap (λ b. b || is_shut j p) f.closed ∙ shut_alike a
  shut_alike (shares {entry} {q = q} s a) = ap (λ b. closes j.number entry || b) (shut_alike a) ∙ ap (λ b. b || is_shut j q) (sym s.closed)

  before_all : (past : List Entry) → is_shut j past ≡ false → before_shut j past ≡ past
  before_all [] e = refl
  before_all (entry ∷ past) e = cond-false (is_shut j (entry ∷ past)) _ _ e

  either_by : (b d : Bool) {x y u v : List Entry} → b ≡ d → Alike j x u → Alike j y v → Alike j (cond b x y) (cond d u v)
  either_by true true e yes_so no_so = yes_so
  either_by false false e yes_so no_so = no_so
  either_by true false e yes_so no_so = cc
  either_by false true e yes_so no_so = cc

  -- up to the first close they are alike
  pub before_shut_alike : {p q : List Entry} → Alike j p q → Alike j (before_shut j p) (before_shut j q)
  before_shut_alike neither = neither
  before_shut_alike (ours {entry} {own} {p} {q} s k a) = either_by (is_shut j (entry ∷ p)) (is_shut j (own ∷ q)) (shut_alike (shares s (near a))) (before_shut_alike a) (ours s k a)
  before_shut_alike (theirs {entry} {p} {q} f k a) = elim (cases_Bool (is_shut j (entry ∷ p))) [
    | inl e ↦ subst (λ xs. Alike j xs (before_shut j q)) (sym (cond-true (is_shut j (entry ∷ p)) (before_shut j p) (entry ∷ p) e)) (before_shut_alike a)
    | inr e ↦ subst (λ xs. Alike j xs (before_shut j q)) (sym (cond-false (is_shut j (entry ∷ p)) (before_shut j p) (entry ∷ p) e))
        (subst (λ ys. Alike j (entry ∷ p) ys) (sym (before_all q (sym (shut_alike (skips f (near a))) ∙ e))) (theirs f k a))
  ]

  -- the same saves are due in the journal
  pub saves_alike : {p q : List Entry} → Alike j p q → saves j p ≡ saves j q
  saves_alike a = saves_by_alike (before_shut_alike a)

  -- ---- a job's own entries

  -- its saves
  pub own_saves : (past : List Entry) → saves j (of_job j past) ≡ saves j past
  own_saves past = sym (saves_alike (own_alike j past))

  -- what stopped it
  pub own_why : (past : List Entry) → why j (before_shut j (of_job j past)) ≡ why j (before_shut j past)
  own_why past = sym (why_alike (before_shut_alike (own_alike j past)))

  -- its requests
  pub own_requests : (past : List Entry) → requests j (of_job j past) ≡ requests j past
  own_requests past = sym (requests_alike (own_alike j past))

  -- how many saves are acknowledged
  pub own_acked : (past : List Entry) → saves_of j (of_job j past) ≡ saves_of j past
  own_acked past = sym (acked_alike j (own_alike j past))

  -- an entry of another job changes none of these
  pub saves_foreign : (entry : Entry) (past : List Entry) → is_of j entry past ≡ false → saves j (entry ∷ past) ≡ saves j past
  saves_foreign entry past e = saves_alike (alike_foreign j entry past e)

  -- what stopped it
  pub why_foreign : (entry : Entry) (past : List Entry) → is_of j entry past ≡ false → why j (before_shut j (entry ∷ past)) ≡ why j (before_shut j past)
  why_foreign entry past e = why_alike (before_shut_alike (alike_foreign j entry past e))

  -- its requests
  pub requests_foreign : (entry : Entry) (past : List Entry) → is_of j entry past ≡ false → requests j (entry ∷ past) ≡ requests j past
  requests_foreign entry past e = requests_alike (alike_foreign j entry past e)

  -- how many saves are acknowledged
  pub acked_foreign : (entry : Entry) (past : List Entry) → is_of j entry past ≡ false → saves_of j (entry ∷ past) ≡ saves_of j past
  acked_foreign entry past e = acked_alike j (alike_foreign j entry past e)
