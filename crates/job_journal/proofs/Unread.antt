-- Before any byte was got for a job.
use Rattle.std.proofs.Common.{◌≡◌, ℕ, suc, ◌+◌, List, [], ◌∷◌, ◌++◌, length, replicate, Bool, true, false, ◌&&◌, not, cond, Some, refl, sym, ◌∙◌, ap, subst, arith}
use Rattle.std.specs.Prelude.{count_by}
use Rattle.std.proofs.lemmas.Bool.{and_left, and_parts, and_right, cond-false}
use Rattle.world.specs.declared.chan.Chan.{Chan}
use Rattle.world.specs.declared.chan.Chan.TheVariants as chan
use Rattle.world.specs.declared.entry.Entry.{Entry}
use Rattle.world.specs.declared.entry.Entry.TheVariants as made
use Rattle.world.specs.Places.{is_at, time}
use Rattle.zmtp_wire.specs.declared.role.Role.{Role}
use Rattle.zmtp_wire.specs.Meaning as wire
use Rattle.zmtp_peer.specs.Envelope.{bodies_of}
use Rattle.jsign.specs.History.{StandsFor as SeenFor, signatures_of}
use Rattle.kernel_talk.specs.Asking.{Asked, asks, ask_ms, has_passed, no_asking}
use Rattle.kernel_talk.specs.Asking as asking
use Rattle.kernel_talk.specs.Pinging.{ping_ms}
use Rattle.kernel_lines.specs.Lines.{line_on, role_on}
use Rattle.cell_core.specs.declared.event.Event.TheVariants as event
use Rattle.job_notebook.specs.State.{Keeps}
use Rattle.run_journal.specs.Job.{Job}
use Rattle.run_journal.specs.Jupyter.{Speaker, bodies_in, signed_items}
use Rattle.run_journal.specs.Parts.{place, bytes_got, saves_of, is_acknowledging}
use Rattle.run_journal.specs.Arrivals.{arrive, ask_state, can_ask, has_some, is_ready, is_shaken}
use Rattle.run_journal.specs.Looks.{Pings, can_ping, ping_end, ping_on, pinged_of, pings}
use Rattle.run_journal.specs.Order.{begins_unread, is_nothing}
use Rattle.run_journal.specs.Requests.{Request, count_queued, requests, used_of}
use Rattle.run_journal.specs.Queue.{count_messages, news}
use Rattle.run_journal.specs.Agreement.{Agrees, BringsNothing, is_got}
use Rattle.run_journal.proofs.Agreeing.{agree_first, agree_saved, agree_unheard}
use Rattle.run_journal.proofs.Alike.{away}
use Rattle.run_journal.proofs.Hearing.{none_unready}
use Rattle.job_journal.specs.Line.{OnLine, comes, gives, history, is_got_at, sent_on}
use Rattle.job_journal.specs.Made.{HasMade, passing_saves}
use Rattle.job_journal.specs.Plot.{Plot, facts, speaker, first, IsFor}
use Rattle.job_journal.specs.Quiet.{is_unread}
use Rattle.job_journal.specs.Standing.{AreNew, Parts, StandsBy}
use Rattle.job_journal.specs.Talk.{has_number}
use Rattle.job_journal.specs.Told.{AgreesBut}
use Rattle.job_journal.specs.Used.{OnRequest, nothing}
use Rattle.job_journal.proofs.Bytes.{no_bytes}
use Rattle.job_journal.proofs.Lines.{comes_none, next_history}
use Rattle.job_journal.proofs.Pieces.{queued_same}
use Rattle.job_journal.proofs.Quiet.{asking_stays}
use Rattle.job_journal.proofs.Talks.{asks_at, news_none}

not_true : (b : Bool) → not b ≡ true → b ≡ false
not_true true e = cc
not_true false e = refl

-- ---- one job

module _ (j : Job) where
  unread_parts : (entry : Entry) (past : List Entry) → is_unread j (entry ∷ past) ≡ true → (is_got j entry ≡ false) × (is_unread j past ≡ true)
  unread_parts entry past e = let q = and_parts (not (is_got j entry)) (is_unread j past) e in (not_true (is_got j entry) q.0, q.1)

  -- where a connection has no bytes it may be begun
  unread_begins : (c : Chan) (entry : Entry) (past : List Entry) → bytes_got j c past ≡ [] → begins_unread j c (entry ∷ past) ≡ true
  unread_begins c (made.Connected conn port how) past e = ap (λ b. cond (is_at (place j c) conn) b true) (ap is_nothing e) ∙ by (is_at (place j c) conn)
    where
      by : (b : Bool) → cond b true true ≡ true
      by true = refl
      by false = refl
  unread_begins c _ past e = refl

  -- no byte is there
  pub unread_bytes : (now : List Entry) → is_unread j now ≡ true → (c : Chan) → bytes_got j c now ≡ []
  unread_bytes [] e c = refl
  unread_bytes (entry ∷ past) e c =
      let q = unread_parts entry past e in
      no_bytes j entry past q.0 (λ d. unread_begins d entry past (unread_bytes past q.1 d)) c ∙ unread_bytes past q.1 c

  unread_nothing : (entry : Entry) (past : List Entry) → is_unread j (entry ∷ past) ≡ true → BringsNothing j entry past
  unread_nothing entry past e = λ c. unread_bytes (entry ∷ past) e c ∙ sym (unread_bytes past (unread_parts entry past e).1 c)

  not_got_at : (c : Chan) (entry : Entry) → is_got j entry ≡ false → is_got_at (place j c) entry ≡ false
  not_got_at c (made.Got conn room bytes) e = away j c conn e
  not_got_at c _ e = refl

  -- the core was told of each acknowledged save, and of nothing else
  pub agrees_unread : (now : List Entry) → is_unread j now ≡ true → Agrees j (replicate (saves_of j now) event.Saved) now
  agrees_unread [] e = agree_first j
  agrees_unread (entry ∷ past) e =
      let q = unread_parts entry past e in
      let none = unread_nothing entry past e in
      let a = agrees_unread past q.1 in
      by (is_acknowledging j (entry ∷ past)) refl none a
    where
      by : (b : Bool) → is_acknowledging j (entry ∷ past) ≡ b → BringsNothing j entry past → Agrees j (replicate (saves_of j past) event.Saved) past
          → Agrees j (replicate (saves_of j (entry ∷ past)) event.Saved) (entry ∷ past)
      by true f none a =
          subst (λ n. Agrees j (replicate n event.Saved) (entry ∷ past)) (sym (ap (λ b. cond b (saves_of j past + 1) (saves_of j past)) f ∙ one_more (saves_of j past)))
          (agree_saved j entry (replicate (saves_of j past) event.Saved) past none f a)
        where
          one_more : (n : ℕ) → n + 1 ≡ suc n
          one_more n = omega arith
      by false f none a =
          subst (λ n. Agrees j (replicate n event.Saved) (entry ∷ past)) (sym (ap (λ b. cond b (saves_of j past + 1) (saves_of j past)) f))
          (agree_unheard j entry (replicate (saves_of j past) event.Saved) past none f a)

-- before any entry nothing has happened on a connection
no_history : (j : Job) (s : Speaker) (c : Chan) → history s j c [] ≡ []
unfolding history
no_history j s c = refl

-- ---- a job that runs its notebook

module _ (shaken : (r : Role) → wire.is_shaken r [] ≡ false) (messages : (r : Role) → wire.messages_in r [] ≡ []) (p : Plot) where
  abbrev j : Job
  j = facts p

  unshaken : (now : List Entry) → is_unread j now ≡ true → is_shaken j chan.Shell now ≡ false
  unfolding is_shaken
  unshaken now e = ap (wire.is_shaken (role_on chan.Shell)) (unread_bytes j now e chan.Shell) ∙ shaken (role_on chan.Shell)

  cannot_ask : (now : List Entry) → is_unread j now ≡ true → can_ask j now ≡ false
  unfolding can_ask
  cannot_ask now e = and_left _ _ (and_left (is_shaken j chan.Shell now) (is_shaken j chan.Iopub now) (unshaken now e))

  none_asked : (a : Asked) (can : Bool) (ms : ℕ) → can ≡ false → asks a can ms ≡ false
  none_asked a can ms e = and_left (can && not (asking.is_ready a)) (has_passed ask_ms a.at ms) (and_left can (not (asking.is_ready a)) e)

  -- nothing was asked
  pub unasked : (now : List Entry) → is_unread j now ≡ true → ask_state j now ≡ no_asking
  unasked [] e = refl
  unasked (made.Moment ms ∷ past) e =
      asks_at j ms past ∙ cond-false (asks (ask_state j past) (can_ask j past) ms) _ _ (none_asked (ask_state j past) (can_ask j past) ms (cannot_ask past e)) ∙ unasked past e
  unasked (entry ∷ past) e = asking_stays j entry past (unread_nothing j entry past e) refl ∙ unasked past (unread_parts j entry past e).1

  -- the kernel isn't ready, and no request stands
  pub unready : (now : List Entry) → is_unread j now ≡ true → is_ready j now ≡ false
  unready now e = ap (λ (a : Asked). asking.is_ready a) (unasked now e)

  pub unrequested : (now : List Entry) → is_unread j now ≡ true → requests j now ≡ []
  unrequested now e = none_unready j now (unready now e)

  cannot_ping : (now : List Entry) → is_unread j now ≡ true → can_ping j now ≡ false
  unfolding can_ping
  cannot_ping now e = and_left (j.heartbeat && is_ready j now) (is_shaken j chan.Heart now) (and_right j.heartbeat (is_ready j now) (unready now e))

  no_ping : (ps : Pings) (can : Bool) (ms end : ℕ) (echo : Bool) → can ≡ false → length (ping_on ps can (Some ms) end echo).queued ≡ length ps.queued
  unfolding ping_on
  no_ping ps can ms end echo e =
      ap (λ (b : Bool). length (cond b (ps.queued ++ record { at = ms; end = end } ∷ []) ps.queued)) (and_left can (has_passed ping_ms (pinged_of ps).last ms) e)

  -- no ping was queued
  unpinged : (entry : Entry) (past : List Entry) → is_unread j past ≡ true → length (pings j (entry ∷ past)).queued ≡ length (pings j past).queued
  unpinged (made.Moment ms) past e =
      no_ping (pings j past) (can_ping j past) ms (ping_end j past (length (pings j past).queued)) (has_some (arrive j chan.Heart (made.Moment ms) past)) (cannot_ping past e)
  unpinged entry past e = queued_same j entry past refl

  -- nothing was queued
  unqueued : j.task.times.interrupt ≡ false → (entry : Entry) (past : List Entry) → is_unread j (entry ∷ past) ≡ true → news j (entry ∷ past) past ≡ []
  unqueued plain entry past e =
      let q = (unread_parts j entry past e).1 in
      news_none j plain entry past
      (ap (λ (a : Asked). length a.ids) (unasked (entry ∷ past) e ∙ sym (unasked past q)))
      (ap (λ (rs : List Request). length rs) (unrequested (entry ∷ past) e ∙ sym (unrequested past q)))
      (unpinged entry past q)

  -- nothing has happened on a connection
  unhappened : j.task.times.interrupt ≡ false → (s : Speaker) (c : Chan) (now : List Entry) → is_unread j now ≡ true → history s j c now ≡ []
  unhappened plain s c [] e = no_history j s c
  unhappened plain s c (entry ∷ past) e =
      let q = unread_parts j entry past e in
      next_history s j c entry past
      ∙ ap (λ qs. gives s (sent_on c qs) (comes j c entry (history s j c past))) (unqueued plain entry past e)
      ∙ comes_none j c entry (history s j c past) (not_got_at j c entry q.0)
      ∙ unhappened plain s c past q.1

  no_bodies : (c : Chan) (now : List Entry) → is_unread j now ≡ true → bodies_in c (bytes_got j c now) ≡ []
  no_bodies c now e = ap (bodies_in c) (unread_bytes j now e c) ∙ ap (bodies_of (role_on c)) (messages (role_on c))

  used_none : (plan : List ℕ) → used_of plan [] ≡ []
  used_none [] = refl
  used_none (i ∷ plan) = refl

  module _ (number : ℕ) (x : Parts) (now : List Entry) (new : AreNew x) (e : is_unread j now ≡ true) (plain : j.task.times.interrupt ≡ false) where
    new_line : (c : Chan) → OnLine (speaker p) j c (line_on x.lines c) [] now
    new_line c = record {
      past = [];
      out = [];
      role = new.roles c;
      stands = new.lines c;
      got = sym (unread_bytes j now e c);
      is = sym (unhappened plain (speaker p) c now e);
    }

    -- new parts stand for the journal before any byte was got
    pub stands_first : IsFor p number x.session x.core x.book → Keeps x.book (first p) [] → AgreesBut j x.core [] now
        → HasMade j (passing_saves j []) (saves_of j now) now → x.clock ≡ time now → StandsBy p number x [] [] now
    stands_first is_for keeps core made_by clock =
        let gone : requests j now ≡ [] = unrequested now e in
        record {
          undated = plain;
          is_for = is_for;
          lines = record {
            shell = new_line chan.Shell;
            control = new_line chan.Control;
            iopub = new_line chan.Iopub;
            heart = record { past = []; out = []; role = new.roles chan.Heart; stands = new.lines chan.Heart; got = sym (unread_bytes j now e chan.Heart) };
          };
          talk = record {
            asks = new.asking ∙ sym (unasked now e);
            made = none_made x.session.made (count_by has_number []) (count_messages j now) new.made refl
                (ap (λ (a : Asked). count_queued (length a.ids) (requests j now)) (unasked now e) ∙ ap (count_queued 0) gone);
          };
          shell_seen = record { stands = subst (λ bs. SeenFor x.shell_seen (signatures_of (signed_items p.setting.key bs))) (sym (no_bodies chan.Shell now e)) new.shell_seen };
          iopub_seen = record { stands = subst (λ bs. SeenFor x.iopub_seen (signatures_of (signed_items p.setting.key bs))) (sym (no_bodies chan.Iopub now e)) new.iopub_seen };
          book = record { keeps = subst (Keeps x.book (first p)) (sym (ap (used_of j.task.plan) gone ∙ used_none j.task.plan)) keeps };
          request = subst (OnRequest j x.request) (sym gone) (subst (λ o. OnRequest j o []) (sym new.request) nothing);
          sent = new.sent ∙ ap (λ (rs : List Request). length rs) (sym gone);
          core = core;
          made = subst (λ rs. HasMade j (passing_saves j rs) (saves_of j now) now) (sym gone) made_by;
          ready = new.ready ∙ sym (unready now e);
          clock = clock;
        }
      where
        none_made : (s n c : ℕ) → s ≡ 0 → n ≡ 0 → c ≡ 0 → s + n ≡ c
        none_made s n c f g h = omega (arith, f, g, h)
