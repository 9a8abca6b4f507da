-- What is queued on a connection, and what a failed write ends a job by, are told by the job's own entries.
use Rattle.std.proofs.Common.{◌≡◌, inl, inr, ℕ, ◌+◌, List, [], ◌∷◌, ◌++◌, length, drop, Bool, true, false, cond, Some, None, refl, sym, ◌∙◌, ap, arith}
use Rattle.std.specs.Prelude.{nat_lt, nat_le, ◌==◌}
use Rattle.std.proofs.Math.Seq.{drop-length}
use Rattle.std.proofs.lemmas.Bool.{cond-true, cond-false, cases_Bool, le-ltb}
use Rattle.std.proofs.lemmas.List.{append-nil}
use Rattle.world.specs.declared.chan.Chan.{Chan}
use Rattle.world.specs.declared.entry.Entry.{Entry}
use Rattle.world.specs.Places.{chan_number, time}
use Rattle.world.specs.Waits.{is_wait, wait_count}
use Rattle.kernel_talk.specs.Asking.{Asked}
use Rattle.run_journal.specs.Codec.{Info, Execute, Interrupt, Ping}
use Rattle.run_journal.specs.Job.{Job}
use Rattle.run_journal.specs.Parts.{bytes_got, bytes_put, is_acknowledging}
use Rattle.run_journal.specs.Arrivals.{ask_state, is_shaken}
use Rattle.run_journal.specs.Looks.{Pings, pings}
use Rattle.run_journal.specs.Requests.{Request, requests, count_queued}
use Rattle.run_journal.specs.Queue.{Queued, grown, news, octets_on, replies_at, waits, messages_at, queue}
use Rattle.run_journal.specs.Ends.{NoNetwork, is_spent, is_put, is_parting, put_end}
use Rattle.std.specs.Prelude.{count_by}
use Rattle.run_journal.proofs.Alike.{Quiet, Near, empty, skips, shares, Alike, neither, theirs, ours, near, near_self, alike_self}
use Rattle.run_journal.proofs.AlikeLooks.{time_alike, got_alike, put_alike, shaken_alike, asked_alike, pings_alike}
use Rattle.run_journal.proofs.Isolation.{requests_alike}

-- ---- messages

-- the messages queued, by the parts of two journals
abbrev news_by : Asked → List Request → Pings → Asked → List Request → Pings → ℕ → List Queued
news_by a rs ps b ss qs clock =
    grown (length a.ids) (length b.ids) (record { what = Info; number = count_queued (length a.ids) rs + 1; date = clock })
    ++ grown (length rs) (length ss) (record { what = Execute (length rs); number = count_queued (length a.ids) rs + 1; date = clock })
    ++ grown (count_by (λ (r : Request). r.interrupted) rs) (count_by (λ (r : Request). r.interrupted) ss) (record { what = Interrupt; number = count_queued (length a.ids) rs + 1; date = clock })
    ++ grown (length ps.queued) (length qs.queued) (record { what = Ping; number = 0; date = 0 })

same_parts : {A B C X : Type 0} (f : A → B → C → A → B → C → ℕ → X) {a b p q : A} {rs ss ts us : B} {x y z w : C} {t u : ℕ}
    → a ≡ p → rs ≡ ts → x ≡ z → b ≡ q → ss ≡ us → y ≡ w → t ≡ u → f a rs x b ss y t ≡ f p ts z q us w u
same_parts f e1 e2 e3 e4 e5 e6 e7 = cc

none_grown : (n : ℕ) (queued : Queued) → grown n n queued ≡ []
none_grown n queued = cond-false (nat_lt n n) (queued ∷ []) [] (le-ltb n n (omega arith))

four : (a b c d : List Queued) → a ≡ [] → b ≡ [] → c ≡ [] → d ≡ [] → a ++ b ++ c ++ d ≡ []
four a b c d e f g h = ap (λ xs. xs ++ b ++ c ++ d) e ∙ ap (λ xs. xs ++ c ++ d) f ∙ ap (λ xs. xs ++ d) g ∙ h

none_new : (a : Asked) (rs : List Request) (ps : Pings) (clock : ℕ) → news_by a rs ps a rs ps clock ≡ []
none_new a rs ps clock =
    four _ _ _ _ (none_grown (length a.ids) _) (none_grown (length rs) _) (none_grown (count_by (λ (r : Request). r.interrupted) rs) _) (none_grown (length ps.queued) _)

-- ---- an entry that is quiet to a job

waits_nothing : (b : Bool) (xs w ns : List ℕ) → ns ≡ [] → (b ≡ true → w ≡ []) → (cond b (w ++ ns) xs ≡ cond b [] xs) × (cond b [] (w ++ ns) ≡ w)
waits_nothing true xs w ns none shaken = (ap (λ ys. w ++ ys) none ∙ append-nil w ∙ shaken refl, sym (shaken refl))
waits_nothing false xs w ns none shaken = (refl, ap (λ ys. w ++ ys) none ∙ append-nil w)

both_nil : (b : Bool) (xs : List ℕ) → cond b xs [] ≡ cond b [] [] → cond b xs [] ≡ []
both_nil true xs e = e
both_nil false xs e = refl

module _ (j : Job) where
  -- the same waits were made
  count_alike : {p q : List Entry} → Near j p q → wait_count p ≡ wait_count q
  count_alike empty = refl
  count_alike (skips {entry} {p} f a) = cond-false (is_wait entry) (wait_count p + 1) (wait_count p) f.wait ∙ count_alike a
  count_alike (shares {entry} {own} {p} {q} s a) =
      ap (λ n. cond (is_wait entry) (n + 1) n) (count_alike a) ∙ ap (λ b. cond b (wait_count q + 1) (wait_count q)) (sym s.wait)

  -- the same messages are queued
  news_alike : {p q now next : List Entry} → Alike j p q → Alike j now next → news j now p ≡ news j next q
  news_alike a b =
      same_parts news_by (asked_alike j (near a)) (requests_alike j a) (pings_alike j (near a)) (asked_alike j (near b)) (requests_alike j b) (pings_alike j (near b)) (time_alike j (near b))

  -- where the handshake is finished no message waits for it
  none_waits : (c : Chan) (p : List Entry) → is_shaken j c p ≡ true → waits j c p ≡ []
  none_waits c [] e = refl
  none_waits c (entry ∷ p) e = cond-true (is_shaken j c (entry ∷ p)) [] _ e

  quiet_news : (entry : Entry) (p : List Entry) → Quiet j entry → is_acknowledging j (entry ∷ p) ≡ false → news j (entry ∷ p) p ≡ []
  quiet_news entry p f k =
      let self = alike_self j p in
      news_alike self (theirs f k self) ∙ none_new (ask_state j p) (requests j p) (pings j p) (time p)

  quiet_replies : (entry : Entry) (p : List Entry) → Quiet j entry → (c : Chan) → replies_at j c (entry ∷ p) p ≡ []
  quiet_replies entry p f c =
      ap (λ bytes. drop (length (j.codec.owed c (bytes_got j c p))) (j.codec.owed c bytes)) (got_alike j (skips f (near_self j p)) c)
      ∙ drop-length (j.codec.owed c (bytes_got j c p))

  quiet_by_parts : (entry : Entry) (p : List Entry) → Quiet j entry → is_acknowledging j (entry ∷ p) ≡ false → (c : Chan)
      → (messages_at j c entry p ≡ cond (is_shaken j c (entry ∷ p)) [] []) × (waits j c (entry ∷ p) ≡ waits j c p)
  quiet_by_parts entry p f k c =
      waits_nothing (is_shaken j c (entry ∷ p)) [] (waits j c p) (octets_on j c (news j (entry ∷ p) p)) (ap (octets_on j c) (quiet_news entry p f k))
      (λ e. none_waits c p (sym (shaken_alike j (skips f (near_self j p)) c) ∙ e))

  quiet_queue : (entry : Entry) (p : List Entry) → Quiet j entry → is_acknowledging j (entry ∷ p) ≡ false → (c : Chan) → queue j c (entry ∷ p) ≡ queue j c p
  quiet_queue entry p f k c =
      ap (λ xs. queue j c p ++ (xs ++ messages_at j c entry p)) (quiet_replies entry p f c)
      ∙ ap (λ xs. queue j c p ++ xs) (both_nil (is_shaken j c (entry ∷ p)) _ (quiet_by_parts entry p f k c).0)
      ∙ append-nil (queue j c p)

  -- ---- the same is queued

  waits_alike : {p q : List Entry} → Alike j p q → (c : Chan) → waits j c p ≡ waits j c q
  waits_alike neither c = refl
  waits_alike (theirs {entry} {p} f k a) c = (quiet_by_parts entry p f k c).1 ∙ waits_alike a c
  waits_alike (ours {entry} {own} {p} {q} s k a) c =
      ap (λ b. cond b [] (waits j c p ++ octets_on j c (news j (entry ∷ p) p))) (shaken_alike j (near (ours s k a)) c)
      ∙ ap (λ w. cond (is_shaken j c (own ∷ q)) [] (w ++ octets_on j c (news j (entry ∷ p) p))) (waits_alike a c)
      ∙ ap (λ ns. cond (is_shaken j c (own ∷ q)) [] (waits j c q ++ octets_on j c ns)) (news_alike a (ours s k a))

  messages_ours : {entry own : Entry} {p q : List Entry} → Alike j p q → Alike j (entry ∷ p) (own ∷ q) → (c : Chan) → messages_at j c entry p ≡ messages_at j c own q
  messages_ours {entry} {own} {p} {q} a b c =
      ap (λ t. cond t (waits j c p ++ octets_on j c (news j (entry ∷ p) p)) []) (shaken_alike j (near b) c)
      ∙ ap (λ w. cond (is_shaken j c (own ∷ q)) (w ++ octets_on j c (news j (entry ∷ p) p)) []) (waits_alike a c)
      ∙ ap (λ ns. cond (is_shaken j c (own ∷ q)) (waits j c q ++ octets_on j c ns) []) (news_alike a b)

  replies_ours : {entry own : Entry} {p q : List Entry} → Alike j p q → Alike j (entry ∷ p) (own ∷ q) → (c : Chan) → replies_at j c (entry ∷ p) p ≡ replies_at j c (own ∷ q) q
  replies_ours {entry} {own} {p} {q} a b c =
      ap (λ bytes. drop (length (j.codec.owed c bytes)) (j.codec.owed c (bytes_got j c (entry ∷ p)))) (got_alike j (near a) c)
      ∙ ap (λ bytes. drop (length (j.codec.owed c (bytes_got j c q))) (j.codec.owed c bytes)) (got_alike j (near b) c)

  pub queue_alike : {p q : List Entry} → Alike j p q → (c : Chan) → queue j c p ≡ queue j c q
  queue_alike neither c = refl
  queue_alike (theirs {entry} {p} f k a) c = quiet_queue entry p f k c ∙ queue_alike a c
  queue_alike (ours {entry} {own} {p} {q} s k a) c =
      ap (λ xs. xs ++ (replies_at j c (entry ∷ p) p ++ messages_at j c entry p)) (queue_alike a c)
      ∙ ap (λ xs. queue j c q ++ (xs ++ messages_at j c entry p)) (replies_ours a (ours s k a) c)
      ∙ ap (λ xs. queue j c q ++ (replies_at j c (own ∷ q) q ++ xs)) (messages_ours a (ours s k a) c)

  -- ---- a failed write

  put_all_alike : {p q : List Entry} → Alike j p q → (c : Chan) → is_put j c p ≡ is_put j c q
  put_all_alike {p} {q} a c =
      ap (λ xs. nat_le (length (j.codec.opening c ++ xs)) (length (bytes_put j c p))) (queue_alike a c)
      ∙ ap (λ xs. nat_le (length (j.codec.opening c ++ queue j c q)) (length xs)) (put_alike j (near a) c)

  -- a failed write ends the same
  pub put_end_alike : {p q : List Entry} → Alike j p q → (c : Chan) → put_end j c p ≡ put_end j c q
  put_end_alike {p} {q} a c =
      ap (λ n. cond (cond (nat_le j.turns n) (cond (chan_number c == 1) (is_put j c p) false) false) None (Some NoNetwork)) (count_alike (near a))
      ∙ ap (λ b. cond (cond (is_spent j q) (cond (chan_number c == 1) b false) false) None (Some NoNetwork)) (put_all_alike a c)
