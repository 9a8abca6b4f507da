-- A request that comes to stand is to be sent: with readiness, and before that whether the kernel becomes ready with a piece.
use Rattle.std.proofs.Common.{◌≡◌, ◌⊎◌, inl, inr, ℕ, ◌+◌, List, [], ◌∷◌, ◌++◌, length, map, Bool, true, false, refl, sym, ◌∙◌, ap, subst, arith}
use Rattle.std.specs.Prelude.{count_by}
use Rattle.std.proofs.Math.Bool.{true≢false}
use Rattle.world.specs.declared.chan.Chan.{Chan}
use Rattle.world.specs.declared.chan.Chan.TheVariants as chan
use Rattle.world.specs.declared.entry.Entry.{Entry}
use Rattle.world.specs.Places.{time}
use Rattle.kernel_talk.specs.Asking.{Asked}
use Rattle.kernel_talk.specs.Asking as asking
use Rattle.cell_core.specs.declared.act.Act.{Act}
use Rattle.cell_core.specs.declared.act.Act.TheVariants as act
use Rattle.cell_core.specs.declared.event.Event.TheVariants as event
use Rattle.cell_core.specs.declared.machine.Core.{Core}
use Rattle.cell_core.specs.Acts.{act_of}
use Rattle.cell_core.specs.Task.{cell_of}
use Rattle.run_journal.specs.Codec.{Arrival}
use Rattle.run_journal.specs.Job.{Job}
use Rattle.run_journal.specs.Arrivals.{arrive, ask_state, is_ready}
use Rattle.run_journal.specs.Looks.{pings}
use Rattle.run_journal.specs.Requests.{Request, goes_on, requests}
use Rattle.run_journal.specs.Queue.{count_messages, news}
use Rattle.run_journal.proofs.Growth.{ready_stays}
use Rattle.run_journal.specs.Agreement.{Agrees}
use Rattle.run_journal.proofs.Hearing.{agree_ready, none_unready}
use Rattle.job_journal.specs.Piece.{HasCome}
use Rattle.job_journal.specs.Plot.{Plot, facts, speaker, first, IsFor}
use Rattle.job_journal.specs.Standing.{Parts, OnLines, StandsBy, IsNext, IsToSend, executes}
use Rattle.job_journal.specs.Starting.{StandsAnew, is_calm, ready}
use Rattle.job_journal.specs.Talk.{OnTalk, has_number, heard_on_iopub, heard_on_shell}
use Rattle.job_journal.specs.Told.{Hears}
use Rattle.job_journal.proofs.Steps.{agrees_ready}
use Rattle.job_journal.specs.Used.{OnBook, OnRequest, anew}
use Rattle.job_journal.proofs.Coming.{iopub_silent, shell_silent}
use Rattle.job_journal.proofs.Pieces.{PieceFacts, piece_facts, piece_keeps_made, queued_same}
use Rattle.job_journal.proofs.Starting.{none_stands, sent_stands}
use Rattle.job_journal.proofs.Talks.{anew_number, asks_on, counts_on, news_none, news_request}

-- ---- a request that comes to stand

module _ (j : Job) (plain : j.task.times.interrupt ≡ false) (entry : Entry) (past : List Entry) (ids : (ask_state j (entry ∷ past)).ids ≡ (ask_state j past).ids)
    (none_pinged : length (pings j (entry ∷ past)).queued ≡ length (pings j past).queued) where
  -- it is queued alone
  pub news_anew : StandsAnew j entry past → news j (entry ∷ past) past ≡ executes (length (requests j past)) (anew j entry past).number (time (entry ∷ past)) ∷ []
  news_anew s =
      news_request j plain entry past (ap (λ (v : List (List ℕ)). length v) ids) s.grown none_pinged
      ∙ ap (λ n. executes (length (requests j past)) n (time (entry ∷ past)) ∷ []) (sym (anew_number j plain entry past ids))

  -- where none does, none is queued
  pub news_still : length (requests j (entry ∷ past)) ≡ length (requests j past) → news j (entry ∷ past) past ≡ []
  news_still e = news_none j plain entry past (ap (λ (v : List (List ℕ)). length v) ids) e none_pinged

-- it stands behind the others, where those are as they were
pub is_next_one : (j : Job) (entry : Entry) (past : List Entry) (cell : ℕ) → StandsAnew j entry past → map (goes_on j entry past) (requests j past) ≡ requests j past
    → cell ≡ cell_of j.task (length (requests j past)) → IsNext j cell (requests j past) (anew j entry past) (entry ∷ past)
is_next_one j entry past cell s same e = record {
  stands = s.is ∙ ap (λ (rs : List Request). rs ++ anew j entry past ∷ []) same;
  io = refl;
  replies = refl;
  planned = s.planned;
  cell_is = e;
}

-- ---- whether the kernel becomes ready

module _ (p : Plot) (number : ℕ) (x : Parts) (c : Chan) (ms : List Arrival) (entry : Entry) (past : List Entry) (h : HasCome p number x c ms entry past) where
  abbrev j : Job
  j = facts p

  abbrev now : List Entry
  now = entry ∷ past

  ready_now : asking.is_ready x.asking ≡ is_ready j now
  ready_now = ap (λ (a : Asked). asking.is_ready a) h.talk.asks

  -- it doesn't, where it was ready or still isn't
  pub stays_so : (x.is_ready ≡ true) ⊎ (asking.is_ready x.asking ≡ false) → is_ready j now ≡ is_ready j past
  stays_so (inl e) =
      let was : is_ready j past ≡ true = sym h.ready ∙ e in
      ready_stays j entry past was ∙ sym was
  stays_so (inr e) = by (is_ready j past) refl
    where
      not_now : is_ready j now ≡ false
      not_now = sym ready_now ∙ e

      by : (b : Bool) → is_ready j past ≡ b → is_ready j now ≡ is_ready j past
      by true f = absurd (true≢false (sym (ready_stays j entry past f) ∙ not_now))
      by false f = not_now ∙ sym f

  -- nor by a piece that brings no message on shell and IOPub
  pub stays_silent : arrive j chan.Iopub entry past ≡ [] → arrive j chan.Shell entry past ≡ [] → is_ready j now ≡ is_ready j past
  stays_silent i s =
      ap (λ (a : Asked). asking.is_ready a)
      (asks_on j entry past (piece_facts j c past h.piece).unclocked
      ∙ ap (λ v. heard_on_iopub (heard_on_shell (ask_state j past) v) (arrive j chan.Iopub entry past)) s
      ∙ ap (λ v. heard_on_iopub (heard_on_shell (ask_state j past) []) v) i
      ∙ iopub_silent (heard_on_shell (ask_state j past) [])
      ∙ shell_silent (ask_state j past))

  module _ (unready : x.is_ready ≡ false) (answered : asking.is_ready x.asking ≡ true) (next : Core) (is_for : IsFor p number x.session next x.book)
      (hears : Hears j next (event.Ready ∷ h.core.told)) where
    was : is_ready j past ≡ false
    was = sym h.ready ∙ unready

    so : is_ready j now ≡ true
    so = sym ready_now ∙ answered

    given : PieceFacts j entry past
    given = piece_facts j c past h.piece

    gone : requests j past ≡ []
    gone = none_unready j past was

    same : map (goes_on j entry past) (requests j past) ≡ requests j past
    same = ap (λ (rs : List Request). map (goes_on j entry past) rs) gone ∙ sym gone

    ids : (ask_state j now).ids ≡ (ask_state j past).ids
    ids = ap (λ (a : Asked). a.ids) (asks_on j entry past given.unclocked)

    agreed : Agrees j (event.Ready ∷ h.core.told) now
    agreed = agree_ready j entry h.core.told past given.acks h.core.agrees was so

    -- as many messages were made as were queued before the piece
    made_before : count_messages j past + 1 ≡ x.session.made + 1
    made_before =
        by x.session.made (count_by has_number (news j now past)) (count_messages j now) (count_messages j past) h.talk.made (counts_on j h.undated entry past)
      where
        by : (s n d c : ℕ) → s + n ≡ d → d ≡ c + n → c + 1 ≡ s + 1
        by s n d c e f = omega (arith, e, f)

    -- the first request comes to stand where it is sent
    pub ready_sends : (cell : ℕ) → act_of j.task event.Ready h.core.told ≡ act.Send cell → IsToSend p number (record x { core = next; is_ready = true }) cell now
    ready_sends cell f =
        let s = sent_stands j h.core.told event.Ready entry past ready h.core.hears.goes_on h.core.agrees agreed cell f in
        let queued = news_anew j h.undated entry past ids (queued_same j entry past given.unclocked) s.0 in
        record {
          earlier = requests j past;
          newest = anew j entry past;
          next = is_next_one j entry past cell s.0 same s.1;
          numbered = anew_number j h.undated entry past ids ∙ made_before;
          undated = h.undated;
          is_for = is_for;
          lines = subst (λ qs. OnLines (speaker p) j x.lines qs now) queued h.lines;
          talk = subst (λ qs. OnTalk j x.asking x.session qs now) queued h.talk;
          shell_seen = h.shell_seen;
          iopub_seen = h.iopub_seen;
          book = h.book;
          sent = h.sent;
          core = agrees_ready j x.core next entry past given.acks given.unclocked was so h.core hears;
          made = piece_keeps_made j entry past given h.made;
          ready = sym so;
          clock = h.clock ∙ sym given.time_is;
        }

    -- and where nothing is done none does
    pub ready_waits : (answer : Act) → act_of j.task event.Ready h.core.told ≡ answer → is_calm answer ≡ true
        → StandsBy p number (record x { core = next; is_ready = true }) [] [] now
    ready_waits answer f calm =
        let long = none_stands j h.core.told event.Ready entry past ready h.core.hears.goes_on h.core.agrees agreed answer f calm in
        let still : requests j now ≡ requests j past = no_longer (requests j now) (long ∙ ap (λ (rs : List Request). length rs) gone) ∙ sym gone in
        let queued = news_still j h.undated entry past ids (queued_same j entry past given.unclocked) long in
        record {
          undated = h.undated;
          is_for = is_for;
          lines = subst (λ qs. OnLines (speaker p) j x.lines qs now) queued h.lines;
          talk = subst (λ qs. OnTalk j x.asking x.session qs now) queued h.talk;
          shell_seen = h.shell_seen;
          iopub_seen = h.iopub_seen;
          book = subst (OnBook j (first p) x.book) (sym still) h.book;
          request = subst (OnRequest j x.request) (sym still) h.request;
          sent = h.sent ∙ ap (λ (rs : List Request). length rs) (sym still);
          core = agrees_ready j x.core next entry past given.acks given.unclocked was so h.core hears;
          made = piece_keeps_made j entry past given h.made;
          ready = sym so;
          clock = h.clock ∙ sym given.time_is;
        }
      where
        no_longer : (rs : List Request) → length rs ≡ 0 → rs ≡ []
        no_longer [] e = refl
        no_longer (r ∷ rs) e = absurd (omega (arith, e))
