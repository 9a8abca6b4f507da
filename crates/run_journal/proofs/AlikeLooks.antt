-- What is heard, and what a look finds, is told by a job's own entries.
use Rattle.std.proofs.Common.{◌≡◌, ℕ, ◌+◌, ◌*◌, List, [], ◌∷◌, length, map, drop, Bool, true, false, ◌&&◌, ◌||◌, not, cond, Option, Some, None, refl, sym, ◌∙◌, ap, subst}
use Rattle.std.specs.Prelude.{is_some, nat_le}
use Rattle.std.specs.List.{list_any, list_all}
use Rattle.std.proofs.Math.Seq.{drop-length}
use Rattle.std.proofs.Math.Bool.{or-false}
use Rattle.std.proofs.lemmas.Bool.{cond-false, cond_both}
use Rattle.world.specs.declared.chan.Chan.{Chan}
use Rattle.world.specs.declared.chan.Chan.TheVariants.{Shell, Iopub, Heart}
use Rattle.world.specs.declared.entry.Entry.{Entry}
use Rattle.world.specs.Places.{Status, status_after, time, time_after}
use Rattle.world.specs.Waits.{is_wait, has_wait, before_wait, to_wait, since_wait, moment_of}
use Rattle.kernel_talk.specs.Asking.{Asked}
use Rattle.run_journal.specs.Codec.{Arrival, Ping}
use Rattle.run_journal.specs.Job.{Job}
use Rattle.run_journal.specs.Parts.{channels, place, connection, bytes_got, bytes_put, turn_clock, is_acknowledging, saves_of}
use Rattle.run_journal.specs.Arrivals.{heard, arrive, has_some, is_shaken, subscribed_at, can_ask, ask_on, ask_state, is_ready}
use Rattle.run_journal.specs.Looks.{is_short_wait, ends_reading, is_drained, is_read_through, is_look, ever, Pings, can_ping, ping_end, ping_on, pings, is_silent_at, is_silent, ends, shows_lost, is_lost, is_at_least, is_past, ran_out}
use Rattle.run_journal.specs.Requests.{Request, or_later, before_clock, deadline}
use Rattle.run_journal.proofs.Alike.{Quiet, Same, Near, empty, skips, shares, Alike, neither, theirs, ours, near_self}

-- ---- lists and options

pub all_agree : (f g : Chan → Bool) → ((c : Chan) → f c ≡ g c) → (cs : List Chan) → list_all f cs ≡ list_all g cs
all_agree f g e [] = refl
all_agree f g e (c ∷ cs) = ap (λ b. b && list_all f cs) (e c) ∙ ap (λ b. g c && b) (all_agree f g e cs)

pub any_agree : (f g : Chan → Bool) → ((c : Chan) → f c ≡ g c) → (cs : List Chan) → list_any f cs ≡ list_any g cs
any_agree f g e [] = refl
any_agree f g e (c ∷ cs) = ap (λ b. b || list_any f cs) (e c) ∙ ap (λ b. g c || b) (any_agree f g e cs)

pub map_agree : (f g : Request → Request) → ((r : Request) → f r ≡ g r) → (rs : List Request) → map f rs ≡ map g rs
map_agree f g e [] = refl
map_agree f g e (r ∷ rs) = ap (λ x. x ∷ map f rs) (e r) ∙ ap (λ xs. g r ∷ xs) (map_agree f g e rs)

pub or_none : {X : Type 0} (o : Option X) → or_later o None ≡ o
or_none None = refl
or_none (Some x) = refl

module _ (j : Job) where
  -- ---- connections and time

  -- the clock is the same
  pub time_alike : {p q : List Entry} → Near j p q → time p ≡ time q
  time_alike empty = refl
  time_alike (skips {p = p} f a) = f.time (time p) ∙ time_alike a
  time_alike (shares {entry} {q = q} s a) = ap (time_after entry) (time_alike a) ∙ sym (s.time (time q))

  -- each connection stands the same
  pub connection_alike : {p q : List Entry} → Near j p q → (c : Chan) → connection j c p ≡ connection j c q
  connection_alike empty c = refl
  connection_alike (skips {p = p} f a) c = f.status c (time p) (connection j c p) ∙ connection_alike a c
  connection_alike (shares {entry} {p = p} {q = q} s a) c =
      ap (status_after (place j c) (time p) entry) (connection_alike a c)
      ∙ ap (λ t. status_after (place j c) t entry (connection j c q)) (time_alike a)
      ∙ sym (s.status c (time q) (connection j c q))

  -- the same bytes were got
  pub got_alike : {p q : List Entry} → Near j p q → (c : Chan) → bytes_got j c p ≡ bytes_got j c q
  got_alike a c = ap (λ (s : Status). s.got) (connection_alike a c)

  -- and put
  pub put_alike : {p q : List Entry} → Near j p q → (c : Chan) → bytes_put j c p ≡ bytes_put j c q
  put_alike a c = ap (λ (s : Status). s.put) (connection_alike a c)

  pub waited_alike : {p q : List Entry} → Near j p q → has_wait p ≡ has_wait q
  waited_alike empty = refl
  waited_alike (skips {p = p} f a) = ap (λ b. b || has_wait p) f.wait ∙ waited_alike a
  waited_alike (shares {entry} {q = q} s a) = ap (λ b. is_wait entry || b) (waited_alike a) ∙ ap (λ b. b || has_wait q) (sym s.wait)

  -- as many saves are acknowledged
  pub acked_alike : {p q : List Entry} → Alike j p q → saves_of j p ≡ saves_of j q
  acked_alike neither = refl
  acked_alike (theirs {entry} {p} f k a) = cond-false (is_acknowledging j (entry ∷ p)) _ _ k ∙ acked_alike a
  acked_alike (ours {entry} {own} {p} {q} s k a) = ap (λ n. cond (is_acknowledging j (entry ∷ p)) (n + 1) n) (acked_alike a) ∙ ap (λ b. cond b (saves_of j q + 1) (saves_of j q)) (sym k)

  -- ---- messages

  -- an entry that adds no byte brings no message
  pub arrive_nothing : (entry : Entry) (p : List Entry) (c : Chan) → bytes_got j c (entry ∷ p) ≡ bytes_got j c p → arrive j c entry p ≡ []
  unfolding arrive
  arrive_nothing entry p c e = ap (λ bytes. drop (length (heard j c p)) (j.codec.messages c bytes)) e ∙ drop-length (heard j c p)

  pub arrive_theirs : {entry : Entry} (p : List Entry) → Quiet j entry → (c : Chan) → arrive j c entry p ≡ []
  arrive_theirs {entry} p f c = arrive_nothing entry p c (got_alike (skips f (near_self j p)) c)

  pub arrive_ours : {entry own : Entry} {p q : List Entry} → Same j entry own → Near j p q → (c : Chan) → arrive j c entry p ≡ arrive j c own q
  unfolding arrive
  arrive_ours {entry} {own} {p} {q} s a c =
      ap (λ bytes. drop (length (j.codec.messages c bytes)) (heard j c (entry ∷ p))) (got_alike a c)
      ∙ ap (λ bytes. drop (length (heard j c q)) (j.codec.messages c bytes)) (got_alike (shares s a) c)

  pub shaken_alike : {p q : List Entry} → Near j p q → (c : Chan) → is_shaken j c p ≡ is_shaken j c q
  unfolding is_shaken
  shaken_alike a c = ap (j.codec.shaken c) (got_alike a c)

  pub subscribed_alike : {p q : List Entry} → Near j p q → subscribed_at j p ≡ subscribed_at j q
  subscribed_alike a = ap (λ bytes. length (j.codec.opening Iopub) + length (j.codec.subscription bytes)) (got_alike a Iopub)

  pub can_ask_alike : {p q : List Entry} → Near j p q → can_ask j p ≡ can_ask j q
  unfolding can_ask
  can_ask_alike {p} {q} a =
      ap (λ b. b && is_shaken j Iopub p && nat_le (subscribed_at j p) (length (bytes_put j Iopub p))) (shaken_alike a Shell)
      ∙ ap (λ b. is_shaken j Shell q && b && nat_le (subscribed_at j p) (length (bytes_put j Iopub p))) (shaken_alike a Iopub)
      ∙ ap (λ n. is_shaken j Shell q && is_shaken j Iopub q && nat_le n (length (bytes_put j Iopub p))) (subscribed_alike a)
      ∙ ap (λ bytes. is_shaken j Shell q && is_shaken j Iopub q && nat_le (subscribed_at j q) (length bytes)) (put_alike a Iopub)

  pub ask_nothing : (a : Asked) (can : Bool) (id : List ℕ) → ask_on a can None id [] [] ≡ a
  unfolding ask_on
  ask_nothing a can id = ap (λ (t : Bool × Bool). record { ids = a.ids; at = a.at; told = t.0; heard = t.1 }) (pair (or-false a.told) (or-false a.heard))
    where
      pair : {a b c d : Bool} → a ≡ b → c ≡ d → ◌≡◌ {A = Bool × Bool} (a, c) (b, d)
      pair e f = cc

  pub ask_alike : {g h : Asked} {can dare : Bool} {k l : Option ℕ} {t u : List ℕ} {a b c d : List Arrival} → g ≡ h → can ≡ dare → k ≡ l → t ≡ u → a ≡ b → c ≡ d → ask_on g can k t a c ≡ ask_on h dare l u b d
  ask_alike e1 e2 e3 e4 e5 e6 = cc

  -- as much came of the asking
  pub asked_alike : {p q : List Entry} → Near j p q → ask_state j p ≡ ask_state j q
  asked_alike empty = refl
  asked_alike (skips {entry} {p} f a) =
      ask_alike refl refl f.clock refl (arrive_theirs p f Shell) (arrive_theirs p f Iopub)
      ∙ ask_nothing (ask_state j p) (can_ask j p) (j.msg_id (length (ask_state j p).ids + 1)) ∙ asked_alike a
  asked_alike (shares s a) =
      ask_alike (asked_alike a) (can_ask_alike a) (sym s.clock) (ap (λ (x : Asked). j.msg_id (length x.ids + 1)) (asked_alike a)) (arrive_ours s a Shell) (arrive_ours s a Iopub)

  -- the kernel is ready in both
  pub ready_alike : {p q : List Entry} → Near j p q → is_ready j p ≡ is_ready j q
  ready_alike a = ap (λ (x : Asked). x.told && x.heard) (asked_alike a)

  -- ---- looks

  pub alike_by : (b d : Bool) {x y u v : List Entry} → b ≡ d → (b ≡ true → Near j x u) → (b ≡ false → Near j y v) → Near j (cond b x y) (cond d u v)
  alike_by true true e here away = here refl
  alike_by false false e here away = away refl
  alike_by true false e here away = cc
  alike_by false true e here away = cc

  pub to_wait_alike : {p q : List Entry} → Near j p q → Near j (to_wait p) (to_wait q)
  to_wait_alike empty = empty
  to_wait_alike (skips {entry} {p} {q} f a) = subst (λ xs. Near j xs (to_wait q)) (sym (cond-false (is_wait entry) (entry ∷ p) (to_wait p) f.wait)) (to_wait_alike a)
  to_wait_alike (shares {entry} {own} s a) = alike_by (is_wait entry) (is_wait own) (sym s.wait) (λ e. shares s a) (λ e. to_wait_alike a)

  pub before_wait_alike : {p q : List Entry} → Near j p q → Near j (before_wait p) (before_wait q)
  before_wait_alike empty = empty
  before_wait_alike (skips {entry} {p} {q} f a) = subst (λ xs. Near j xs (before_wait q)) (sym (cond-false (is_wait entry) p (before_wait p) f.wait)) (before_wait_alike a)
  before_wait_alike (shares {entry} {own} s a) = alike_by (is_wait entry) (is_wait own) (sym s.wait) (λ e. a) (λ e. before_wait_alike a)

  pub since_wait_alike : {p q : List Entry} → Near j p q → Near j (since_wait p) (since_wait q)
  since_wait_alike empty = empty
  since_wait_alike (skips {entry} {p} {q} f a) = subst (λ xs. Near j xs (since_wait q)) (sym (cond-false (is_wait entry) [] (entry ∷ since_wait p) f.wait)) (skips f (since_wait_alike a))
  since_wait_alike (shares {entry} {own} s a) = alike_by (is_wait entry) (is_wait own) (sym s.wait) (λ e. empty) (λ e. shares s (since_wait_alike a))

  pub before_clock_alike : {p q : List Entry} → Near j p q → Near j (before_clock p) (before_clock q)
  before_clock_alike empty = empty
  before_clock_alike (skips {entry} {p} {q} f a) = subst (λ xs. Near j xs (before_clock q)) (sym (cond-false (is_some (moment_of entry)) p (before_clock p) (ap is_some f.clock))) (before_clock_alike a)
  before_clock_alike (shares {entry} {own} s a) = alike_by (is_some (moment_of entry)) (is_some (moment_of own)) (sym (ap is_some s.clock)) (λ e. a) (λ e. before_clock_alike a)

  -- at the last wait the newest entry is the job's
  pub short_alike : {p q : List Entry} → Near j p q → is_short_wait (to_wait p) ≡ is_short_wait (to_wait q)
  short_alike empty = refl
  short_alike (skips {entry} {p} f a) = ap is_short_wait (cond-false (is_wait entry) (entry ∷ p) (to_wait p) f.wait) ∙ short_alike a
  short_alike (shares {entry} {own} {p} {q} s a) = by (is_wait entry) (is_wait own) (sym s.wait) (short_alike a)
    where
      by : (b d : Bool) → b ≡ d → is_short_wait (to_wait p) ≡ is_short_wait (to_wait q) → is_short_wait (cond b (entry ∷ p) (to_wait p)) ≡ is_short_wait (cond d (own ∷ q) (to_wait q))
      by true true e h = sym (s.short p q)
      by false false e h = h
      by true false e h = cc
      by false true e h = cc

  pub ended_alike : {p q : List Entry} → Near j p q → (c : Chan) → list_any (ends_reading (place j c)) p ≡ list_any (ends_reading (place j c)) q
  ended_alike empty c = refl
  ended_alike (skips {p = p} f a) c = ap (λ b. b || list_any (ends_reading (place j c)) p) (f.ended c) ∙ ended_alike a c
  ended_alike (shares {own = own} {p = p} s a) c =
      ap (λ b. b || list_any (ends_reading (place j c)) p) (sym (s.ended c)) ∙ ap (λ b. ends_reading (place j c) own || b) (ended_alike a c)

  pub drained_alike : {p q : List Entry} → Near j p q → (c : Chan) → is_drained j c p ≡ is_drained j c q
  drained_alike {p} {q} a c =
      ap (λ b. b || nat_le 64 (connection j c p).count) (ended_alike (since_wait_alike a) c)
      ∙ ap (λ (s : Status). list_any (ends_reading (place j c)) (since_wait q) || nat_le 64 s.count) (connection_alike a c)

  pub through_alike : {p q : List Entry} → Near j p q → is_read_through j p ≡ is_read_through j q
  through_alike {p} {q} a =
      all_agree (λ c. not (connection j c (to_wait p)).awake || is_drained j c p) (λ c. not (connection j c (to_wait q)).awake || is_drained j c q)
      (λ c. ap (λ (s : Status). not s.awake || is_drained j c p) (connection_alike (to_wait_alike a) c)
      ∙ ap (λ b. not (connection j c (to_wait q)).awake || b) (drained_alike a c)) channels

  -- a look is done in both
  pub looked_alike : {p q : List Entry} → Near j p q → is_look j p ≡ is_look j q
  unfolding is_look
  looked_alike {p} {q} a = ap (λ b. b && is_read_through j p) (short_alike a) ∙ ap (λ b. is_short_wait (to_wait q) && b) (through_alike a)

  -- ---- what shows that a kernel is lost

  pub ping_nothing : (ps : Pings) (can : Bool) (end : ℕ) → ping_on ps can None end false ≡ ps
  unfolding ping_on
  ping_nothing ps can end = refl

  pub ping_alike : {g h : Pings} {can dare : Bool} {k l : Option ℕ} {m n : ℕ} {a b : Bool} → g ≡ h → can ≡ dare → k ≡ l → m ≡ n → a ≡ b → ping_on g can k m a ≡ ping_on h dare l n b
  ping_alike e1 e2 e3 e4 e5 = cc

  pub can_ping_alike : {p q : List Entry} → Near j p q → can_ping j p ≡ can_ping j q
  unfolding can_ping
  can_ping_alike {p} {q} a = ap (λ b. j.heartbeat && b && is_shaken j Heart p) (ready_alike a) ∙ ap (λ b. j.heartbeat && is_ready j q && b) (shaken_alike a Heart)

  pub end_alike : {p q : List Entry} → Near j p q → (n : ℕ) → ping_end j p n ≡ ping_end j q n
  end_alike a n = ap (λ bytes. length (j.codec.opening Heart) + length (j.codec.owed Heart bytes) + (n + 1) * length (j.codec.put Ping 0 0)) (got_alike a Heart)

  -- the pings are the same
  pub pings_alike : {p q : List Entry} → Near j p q → pings j p ≡ pings j q
  pings_alike empty = refl
  pings_alike (skips {entry} {p} f a) =
      ping_alike refl refl f.clock refl (ap has_some (arrive_theirs p f Heart))
      ∙ ping_nothing (pings j p) (can_ping j p) (ping_end j p (length (pings j p).queued)) ∙ pings_alike a
  pings_alike (shares {p = p} {q = q} s a) =
      ping_alike (pings_alike a) (can_ping_alike a) (sym s.clock)
      (end_alike a (length (pings j p).queued) ∙ ap (λ (ps : Pings). ping_end j q (length ps.queued)) (pings_alike a)) (ap has_some (arrive_ours s a Heart))

  pub silent_nothing : (p : List Entry) → is_silent j None p ≡ false
  unfolding is_silent
  silent_nothing p = refl

  pub silent_alike : {p q : List Entry} (k : Option ℕ) → Near j p q → is_silent j k p ≡ is_silent j k q
  unfolding is_silent
  silent_alike {p} {q} k a = ap (λ (ps : Pings). is_silent_at ps k (length (bytes_put j Heart p))) (pings_alike a) ∙ ap (λ bytes. is_silent_at (pings j q) k (length bytes)) (put_alike a Heart)

  -- a test that is false at foreign entries, and agrees at the others, was met by one journal where it was by the other
  pub ever_alike : (test : List Entry → Bool) → ((entry : Entry) (p : List Entry) → Quiet j entry → test (entry ∷ p) ≡ false)
      → ((entry own : Entry) (p q : List Entry) → Same j entry own → Near j p q → test (entry ∷ p) ≡ test (own ∷ q)) → {p q : List Entry} → Near j p q → ever test p ≡ ever test q
  ever_alike test out in_both empty = refl
  ever_alike test out in_both (skips {entry} {p} f a) = ap (λ b. b || ever test p) (out entry p f) ∙ ever_alike test out in_both a
  ever_alike test out in_both (shares {entry} {own} {p} {q} s a) = ap (λ b. b || ever test p) (in_both entry own p q s a) ∙ ap (λ b. test (own ∷ q) || b) (ever_alike test out in_both a)

  pub lost_theirs : {entry : Entry} (p : List Entry) → Quiet j entry → shows_lost j (entry ∷ p) ≡ false
  lost_theirs {entry} p f = ap (λ b. b || is_silent j (moment_of entry) p) f.lost ∙ ap (λ o. is_silent j o p) f.clock ∙ silent_nothing p

  pub lost_ours : {entry own : Entry} {p q : List Entry} → Same j entry own → Near j p q → shows_lost j (entry ∷ p) ≡ shows_lost j (own ∷ q)
  lost_ours {entry} {own} {p} {q} s a = ap (λ b. b || is_silent j (moment_of entry) p) (sym s.lost) ∙ ap (λ o. ends j own || is_silent j o p) (sym s.clock) ∙ ap (λ b. ends j own || b) (silent_alike (moment_of own) a)

  -- the kernel is lost in both
  pub is_lost_alike : {p q : List Entry} → Near j p q → is_lost j p ≡ is_lost j q
  unfolding is_lost
  is_lost_alike {p} {q} a = ap (λ b. b && ever (shows_lost j) (before_wait p)) (looked_alike a) ∙ ap (λ b. is_look j q && b) (ever_alike (shows_lost j) (λ entry p f. lost_theirs p f) (λ entry own p q s b. lost_ours s b) (before_wait_alike a))

  pub clock_theirs : {entry : Entry} (p : List Entry) → Quiet j entry → turn_clock (entry ∷ p) ≡ None
  clock_theirs {entry} p f = cond_both (has_wait p) (moment_of entry) None (λ o. o ≡ None) (λ e. f.clock) (λ e. refl)

  pub clock_ours : {entry own : Entry} {p q : List Entry} → Same j entry own → Near j p q → turn_clock (entry ∷ p) ≡ turn_clock (own ∷ q)
  clock_ours {entry} {own} {p} {q} s a = ap (λ b. cond b (moment_of entry) None) (waited_alike a) ∙ ap (λ o. cond (has_wait q) o None) (sym s.clock)

  -- a moment is over in both
  pub ran_out_alike : {p q : List Entry} (deadline : ℕ) → Near j p q → ran_out j deadline p ≡ ran_out j deadline q
  unfolding ran_out
  ran_out_alike {p} {q} deadline a =
      ap (λ b. b && ever (is_past deadline) (before_wait p)) (looked_alike a)
      ∙ ap (λ b. is_look j q && b) (ever_alike (is_past deadline) (λ entry p f. ap (is_at_least deadline) (clock_theirs p f)) (λ entry own p q s b. ap (is_at_least deadline) (clock_ours s b)) (before_wait_alike a))
