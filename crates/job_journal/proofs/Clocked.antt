-- A clock entry, and the question that it may bring.
use Rattle.std.proofs.Common.{◌≡◌, ℕ, ◌+◌, ◌≤◌, List, [], ◌∷◌, ◌++◌, length, Bool, true, false, ◌&&◌, not, cond, Some, refl, sym, ◌∙◌, ap, subst, arith, length-append}
use Rattle.std.specs.Prelude.{count_by, nat_lt}
use Rattle.std.proofs.lemmas.Bool.{cond-true, cond-false, cond_both}
use Rattle.std.proofs.lemmas.List.{append-nil}
use Rattle.std.proofs.lemmas.List.Elements.{filter-append}
use Rattle.world.specs.declared.chan.Chan.{Chan}
use Rattle.world.specs.declared.chan.Chan.TheVariants as chan
use Rattle.world.specs.declared.entry.Entry.{Entry}
use Rattle.world.specs.declared.entry.Entry.TheVariants as made
use Rattle.world.specs.Places.{time}
use Rattle.kernel_talk.specs.Asking.{Asked, asks, has_passed, ask_ms}
use Rattle.kernel_talk.specs.Asking as asking
use Rattle.kernel_talk.specs.Requests.{Identity, message_id}
use Rattle.kernel_lines.specs.Happened.{Given}
use Rattle.kernel_lines.specs.Line.{StandsFor}
use Rattle.kernel_lines.specs.Lines.{line_on}
use Rattle.kernel_lines.specs.declared.line.Line.{Line}
use Rattle.kernel_lines.specs.declared.lines.Lines.{Lines}
use Rattle.cell_core.specs.Events as events
use Rattle.run_journal.specs.Codec.{Info, Ping}
use Rattle.run_journal.specs.Job.{Job}
use Rattle.run_journal.specs.Jupyter.{Speaker}
use Rattle.run_journal.specs.Parts.{saves_of}
use Rattle.run_journal.specs.Arrivals.{ask_state, can_ask, is_ready}
use Rattle.run_journal.specs.Looks.{pings}
use Rattle.run_journal.specs.Requests.{Request, requests}
use Rattle.run_journal.specs.Queue.{Queued, count_messages, grown, news}
use Rattle.run_journal.specs.Agreement.{BringsNothing}
use Rattle.job_journal.specs.Line.{OnLine, gives, is_on, parts_of, sent_on}
use Rattle.job_journal.specs.Plot.{Plot, facts, speaker, first, IsFor}
use Rattle.job_journal.specs.Standing.{Parts, OnLines, Sends, StandsBy, question}
use Rattle.job_journal.specs.Talk.{OnTalk, has_number}
use Rattle.job_journal.specs.Told.{was_asked}
use Rattle.job_journal.specs.Used.{OnBook, OnRequest}
use Rattle.job_journal.proofs.Books.{none_anew}
use Rattle.job_journal.proofs.Lines.{line_sends, line_skips, line_stays}
use Rattle.job_journal.proofs.Making.{made_stays}
use Rattle.job_journal.proofs.Quiet.{requests_same}
use Rattle.job_journal.proofs.Sending.{heart_stays, other_stays}
use Rattle.job_journal.proofs.Steps.{agrees_quiet}
use Rattle.job_journal.proofs.Talks.{asked_number, asks_at, counted, four, no_interrupts, none_grown, one_grown, talk_makes, talk_on, unnumbered}
use Rattle.job_journal.specs.Made.{HasMade, passing_saves}

-- ---- pings are of the heartbeat

abbrev ping : Queued
ping = record { what = Ping; number = 0; date = 0 }

no_pings_on : (c : Chan) (a b : ℕ) → is_on c ping ≡ false → sent_on c (grown a b ping) ≡ []
no_pings_on c a b off = cond_both (nat_lt a b) (ping ∷ []) [] (λ qs. sent_on c qs ≡ []) (λ e. cond-false (is_on c ping) (ping ∷ []) [] off) (λ e. refl)

-- on another channel pings are no part of what is unsent
without_pings : (s : Speaker) (j : Job) (c : Chan) (l : Line) (unsent : List Queued) (a b : ℕ) (now : List Entry) → is_on c ping ≡ false
    → OnLine s j c l (unsent ++ grown a b ping) now → OnLine s j c l unsent now
without_pings s j c l unsent a b now off h = record {
  past = h.past;
  out = h.out;
  role = h.role;
  stands = h.stands;
  got = h.got;
  is = ap (λ qs. gives s qs h.past) (sym (filter-append (is_on c) unsent (grown a b ping) ∙ ap (λ qs. sent_on c unsent ++ qs) (no_pings_on c a b off) ∙ append-nil (sent_on c unsent))) ∙ h.is;
}

-- ---- a clock entry

module _ (p : Plot) (number : ℕ) (x : Parts) (past : List Entry) (ms : ℕ) (h : StandsBy p number x [] [] past) where
  abbrev j : Job
  j = facts p

  abbrev entry : Entry
  entry = made.Moment ms

  abbrev now : List Entry
  now = entry ∷ past

  nothing : BringsNothing j entry past
  nothing = λ c. refl

  ready_still : is_ready j now ≡ is_ready j past
  ready_still = ap (λ (a : Asked). asking.is_ready a) (asks_at j ms past) ∙ by (asks (ask_state j past) (can_ask j past) ms)
    where
      by : (b : Bool) → asking.is_ready (cond b (record { ids = (ask_state j past).ids ++ j.msg_id (length (ask_state j past).ids + 1) ∷ []; at = Some ms; told = (ask_state j past).told; heard = (ask_state j past).heard }) (ask_state j past))
          ≡ is_ready j past
      by true = refl
      by false = refl

  same : requests j now ≡ requests j past
  same = none_anew j entry past refl ready_still ∙ requests_same j h.undated entry past nothing (requests j past)

  abbrev questions : List Queued
  questions = grown (length (ask_state j past).ids) (length (ask_state j now).ids) (question (count_messages j past + 1) (time now))

  abbrev pinged : List Queued
  pinged = grown (length (pings j past).queued) (length (pings j now).queued) ping

  news_are : news j now past ≡ questions ++ pinged
  news_are =
      four _ _ _ _ questions [] [] pinged refl (none_grown _ _ _ (ap (λ (rs : List Request). length rs) same))
      (none_grown _ _ _ (no_interrupts j h.undated now ∙ sym (no_interrupts j h.undated past))) refl
      ∙ ap (λ qs. qs ++ pinged) (append-nil (questions ++ []) ∙ append-nil questions)

  line_on_now : (c : Chan) → is_on c ping ≡ false → OnLine (speaker p) j c (line_on x.lines c) [] past → OnLine (speaker p) j c (line_on x.lines c) questions now
  line_on_now c off l =
      without_pings (speaker p) j c (line_on x.lines c) questions (length (pings j past).queued) (length (pings j now).queued) now off
      (subst (λ qs. OnLine (speaker p) j c (line_on x.lines c) qs now) news_are (line_stays (speaker p) j c (line_on x.lines c) [] entry past refl refl l))

  lines_now : OnLines (speaker p) j x.lines questions now
  lines_now = record {
    shell = line_on_now chan.Shell refl h.lines.shell;
    control = line_on_now chan.Control refl h.lines.control;
    iopub = line_on_now chan.Iopub refl h.lines.iopub;
    heart = record { past = h.lines.heart.past; out = h.lines.heart.out; role = h.lines.heart.role; stands = h.lines.heart.stands; got = h.lines.heart.got };
  }

  talk_now : OnTalk j (ask_state j now) x.session questions now
  talk_now =
      let t = talk_on j x.asking (ask_state j now) x.session [] entry past h.undated refl h.talk in
      let all : count_by has_number (news j now past) ≡ count_by has_number questions + count_by has_number pinged
      = ap (λ qs. count_by has_number qs) news_are ∙ counted has_number questions pinged in
      let none : count_by has_number pinged ≡ 0 = unnumbered j h.undated (length (pings j past).queued) (length (pings j now).queued) ping refl in
      record { asks = refl; made = by x.session.made (count_by has_number (news j now past)) (count_by has_number questions) (count_by has_number pinged) (count_messages j now) t.made all none }
    where
      by : (s n q z c : ℕ) → s + n ≡ c → n ≡ q + z → z ≡ 0 → s + q ≡ c
      by s n q z c e f g = omega (arith, e, f, g)

  stands_at : (was_asked j now ≡ true → ms ≤ events.time h.core.told) → (a : Asked) → a ≡ ask_state j now → StandsBy p number (record x { clock = ms; asking = a }) questions [] now
  stands_at up a e = record {
    undated = h.undated;
    is_for = h.is_for;
    lines = lines_now;
    talk = subst (λ v. OnTalk j v x.session questions now) (sym e) talk_now;
    shell_seen = h.shell_seen;
    iopub_seen = h.iopub_seen;
    book = subst (OnBook j (first p) x.book) (sym same) h.book;
    request = subst (OnRequest j x.request) (sym same) h.request;
    sent = h.sent ∙ ap (λ (rs : List Request). length rs) (sym same);
    core = agrees_quiet j x.core [] entry past nothing refl h.core up;
    made = subst (λ rs. HasMade j (passing_saves j rs) (saves_of j past) now) (sym same) (made_stays j (passing_saves j (requests j past)) (saves_of j past) entry past refl h.made);
    ready = h.ready ∙ sym ready_still;
    clock = refl;
  }

  module _ (can : Bool) (can_is : can ≡ can_ask j past) where
    asks_is : asks x.asking can ms ≡ asks (ask_state j past) (can_ask j past) ms
    asks_is = ap (λ b. asks x.asking b ms) can_is ∙ ap (λ (a : Asked). asks a (can_ask j past) ms) h.talk.asks

    -- the kernel isn't asked
    pub clock_passes : (was_asked j now ≡ true → ms ≤ events.time h.core.told) → asks x.asking can ms ≡ false → StandsBy p number (record x { clock = ms }) [] [] now
    clock_passes up e =
        let still : ask_state j now ≡ ask_state j past = asks_at j ms past ∙ cond-false (asks (ask_state j past) (can_ask j past) ms) _ _ (sym asks_is ∙ e) in
        subst (λ qs. StandsBy p number (record x { clock = ms }) qs [] now) (none_grown _ _ _ (ap (λ (a : Asked). length a.ids) still))
        (stands_at up x.asking (h.talk.asks ∙ sym still))

    -- the kernel is asked: the question is to be sent
    pub clock_asks : ms ≤ events.time h.core.told → asks x.asking can ms ≡ true
        → StandsBy p number
        (record x {
          clock = ms;
          asking = record { ids = x.asking.ids ++ message_id p.setting.session (x.session.made + 1) ∷ []; at = Some ms; told = x.asking.told; heard = x.asking.heard };
        }) (question (x.session.made + 1) ms ∷ []) [] now
    clock_asks up e =
        let a : Asked = ask_state j past in
        let asked : ask_state j now ≡ record { ids = a.ids ++ j.msg_id (length a.ids + 1) ∷ []; at = Some ms; told = a.told; heard = a.heard }
        = asks_at j ms past ∙ cond-true (asks a (can_ask j past) ms) _ _ (sym asks_is ∙ e) in
        let unready : is_ready j past ≡ false = ap (λ (b : Asked). asking.is_ready b) (sym h.talk.asks) ∙ unasked in
        let counted_are : count_messages j past ≡ length a.ids = asked_number j h.undated past unready in
        let made_all : x.session.made + 1 ≡ count_messages j past + 1 = by x.session.made (count_by has_number []) (count_messages j past) refl h.talk.made in
        let more : length (ask_state j now).ids ≡ length a.ids + 1
        = ap (λ (b : Asked). length b.ids) asked ∙ length-append a.ids (j.msg_id (length a.ids + 1) ∷ []) in
        let one : questions ≡ question (x.session.made + 1) ms ∷ [] = one_grown _ _ _ more ∙ ap (λ n. question n ms ∷ []) (sym made_all) in
        subst (λ qs. StandsBy p number
        (record x {
          clock = ms;
          asking = record { ids = x.asking.ids ++ message_id p.setting.session (x.session.made + 1) ∷ []; at = Some ms; told = x.asking.told; heard = x.asking.heard };
        }) qs [] now) one
        (stands_at (λ asked. up) (record { ids = x.asking.ids ++ message_id p.setting.session (x.session.made + 1) ∷ []; at = Some ms; told = x.asking.told; heard = x.asking.heard })
        (ap (λ n. record { ids = x.asking.ids ++ message_id p.setting.session n ∷ []; at = Some ms; told = x.asking.told; heard = x.asking.heard }) (made_all ∙ ap (λ n. n + 1) counted_are)
        ∙ ap (λ (b : Asked). record { ids = b.ids ++ message_id p.setting.session (length a.ids + 1) ∷ []; at = Some ms; told = b.told; heard = b.heard }) h.talk.asks
        ∙ sym asked))
      where
        by : (s n c : ℕ) → n ≡ 0 → s + n ≡ c → s + 1 ≡ c + 1
        by s n c z f = omega (arith, z, f)

        not_ready : (b c d : Bool) → ((b && not c) && d) ≡ true → c ≡ false
        not_ready true true d f = cc
        not_ready true false d f = refl
        not_ready false c d f = cc

        unasked : asking.is_ready x.asking ≡ false
        unasked = not_ready can (asking.is_ready x.asking) (has_passed ask_ms x.asking.at ms) e

-- ---- the question

-- the question is sent
pub question_sent : (p : Plot) (number : ℕ) (x : Parts) (now : List Entry) (lines : Lines) (session : Identity) → StandsBy p number x (question (x.session.made + 1) x.clock ∷ []) [] now
    → IsFor p number session x.core x.book → Sends x.lines lines (parts_of (speaker p) Info session.made x.clock) → session.made ≡ x.session.made + 1
    → StandsBy p number (record x { lines = lines; session = session }) [] [] now
question_sent p number x now lines session h is_for sends made =
    let j : Job = facts p in
    let s : Speaker = speaker p in
    let q : Queued = question (x.session.made + 1) x.clock in
    let l = h.lines.shell in
    let given : StandsFor (line_on lines chan.Shell) (Given (parts_of s Info (x.session.made + 1) x.clock) ∷ l.past) l.out
    = subst (λ n. StandsFor (line_on lines chan.Shell) (Given (parts_of s Info n x.clock) ∷ l.past) l.out) made (sends.stands l.past l.out l.stands) in
    record {
      undated = h.undated;
      is_for = is_for;
      lines = record {
        shell = line_sends s j chan.Shell (line_on x.lines chan.Shell) (line_on lines chan.Shell) q [] now refl sends.role l given;
        control = other_stays s j x.lines lines q now sends.others chan.Control (sends.others chan.Control (λ e. cc))
            (line_skips s j chan.Control (line_on x.lines chan.Control) q [] now refl h.lines.control);
        iopub = other_stays s j x.lines lines q now sends.others chan.Iopub (sends.others chan.Iopub (λ e. cc))
            (line_skips s j chan.Iopub (line_on x.lines chan.Iopub) q [] now refl h.lines.iopub);
        heart = heart_stays s j x.lines lines q now sends.others h.lines.heart;
      };
      talk = talk_makes j x.asking x.session session q [] now refl made h.talk;
      shell_seen = h.shell_seen;
      iopub_seen = h.iopub_seen;
      book = h.book;
      request = h.request;
      sent = h.sent;
      core = h.core;
      made = h.made;
      ready = h.ready;
      clock = h.clock;
    }
