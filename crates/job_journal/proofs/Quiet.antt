-- Entries that change nothing of what a job's parts stand for.
use Rattle.std.proofs.Common.{◌≡◌, ℕ, ◌+◌, List, [], ◌∷◌, ◌++◌, length, map, Bool, true, false, not, None, refl, sym, ◌∙◌, ap, subst}
use Rattle.std.specs.Prelude.{take, ◌==◌, is_some}
use Rattle.std.proofs.Math.Bool.{true≢false}
use Rattle.std.proofs.lemmas.Bool.{and_left, cond-false}
use Rattle.std.proofs.lemmas.List.{append-nil}
use Rattle.world.specs.declared.chan.Chan.{Chan}
use Rattle.world.specs.declared.chan.Chan.TheVariants as chan
use Rattle.world.specs.declared.conn.Conn.{Conn}
use Rattle.world.specs.declared.connected.Connected.{Connected}
use Rattle.world.specs.declared.did.Did.{Did}
use Rattle.world.specs.declared.did.Did.TheVariants.{Done, Failed}
use Rattle.said_lines.specs.Speech as speech
use Rattle.world.specs.declared.entry.Entry.{Entry}
use Rattle.world.specs.declared.entry.Entry.TheVariants as made
use Rattle.world.specs.Acked.{is_renamed, renames, syncs_folder}
use Rattle.world.specs.Moments as moments
use Rattle.world.specs.Places.{is_at, time}
use Rattle.world.specs.Save.{temporary_of}
use Rattle.world.specs.Waits.{moment_of}
use Rattle.kernel_talk.specs.Asking.{Asked}
use Rattle.kernel_talk.specs.Asking as asking
use Rattle.kernel_talk.specs.Requests.{Identity}
use Rattle.kernel_lines.specs.Lines.{line_on}
use Rattle.kernel_lines.specs.declared.line.Line.{Line}
use Rattle.kernel_lines.specs.declared.lines.Lines.{Lines}
use Rattle.cell_core.specs.declared.event.Event.{Event}
use Rattle.run_journal.specs.Job.{Job}
use Rattle.run_journal.specs.Jupyter.{Speaker}
use Rattle.run_journal.specs.Parts.{channels, place, bytes_got, saves_of, is_acknowledging}
use Rattle.run_journal.specs.Arrivals.{ask_state, can_ask, has_some, is_ready}
use Rattle.run_journal.specs.Looks.{Pings, can_ping, ping_end, pings}
use Rattle.run_journal.specs.Order.{begins_unread}
use Rattle.run_journal.specs.Requests.{Request, count_queued, goes_on, is_broken, requests}
use Rattle.run_journal.specs.Saves.{run_saves}
use Rattle.run_journal.specs.Queue.{Queued, count_messages, news}
use Rattle.run_journal.specs.Agreement.{BringsNothing}
use Rattle.run_journal.proofs.Alike.{away}
use Rattle.run_journal.proofs.AlikeLooks.{any_agree, arrive_nothing, ask_alike, ask_nothing, ping_alike, ping_nothing}
use Rattle.run_journal.proofs.Isolation.{IsUntold, goes_nowhere, requests_untold}
use Rattle.job_journal.specs.Line.{OnLine}
use Rattle.job_journal.specs.Made.{HasMade, passing_saves}
use Rattle.job_journal.specs.Plot.{Plot, facts, speaker, first}
use Rattle.job_journal.specs.Quiet.{IsStill, IsQuiet, IsQuietNow, is_quiet}
use Rattle.job_journal.specs.Standing.{Parts, OnLines, StandsBy, IsToSend, HasEndedAs, executes}
use Rattle.job_journal.specs.Talk.{OnTalk}
use Rattle.job_journal.specs.Used.{OnBook, OnRequest}
use Rattle.job_journal.proofs.Bytes.{no_bytes}
use Rattle.job_journal.proofs.Heard.{seen_stays}
use Rattle.job_journal.proofs.Lines.{line_stays}
use Rattle.job_journal.proofs.Making.{made_stays}
use Rattle.job_journal.proofs.Steps.{agrees_still}
use Rattle.job_journal.proofs.Talks.{never, news_none}

-- ---- an entry that brings no byte and isn't of the clock

-- the clock stays
pub time_stays : (entry : Entry) (past : List Entry) → moment_of entry ≡ None → time (entry ∷ past) ≡ time past
time_stays (made.Moment ms) past e = cc
time_stays _ past e = refl

module _ (j : Job) (entry : Entry) (past : List Entry) (none : BringsNothing j entry past) (unclocked : moment_of entry ≡ None) where
  -- nothing comes of the asking
  pub asking_stays : ask_state j (entry ∷ past) ≡ ask_state j past
  asking_stays =
      ask_alike j refl refl unclocked refl (arrive_nothing j entry past chan.Shell (none chan.Shell)) (arrive_nothing j entry past chan.Iopub (none chan.Iopub))
      ∙ ask_nothing j (ask_state j past) (can_ask j past) (j.msg_id (length (ask_state j past).ids + 1))

  pub ready_same : is_ready j (entry ∷ past) ≡ is_ready j past
  ready_same = ap (λ (a : Asked). asking.is_ready a) asking_stays

  -- no ping is queued
  pub pings_stay : length (pings j (entry ∷ past)).queued ≡ length (pings j past).queued
  pings_stay =
      ap (λ (ps : Pings). length ps.queued)
      (ping_alike j refl refl unclocked refl (ap has_some (arrive_nothing j entry past chan.Heart (none chan.Heart)))
      ∙ ping_nothing j (pings j past) (can_ping j past) (ping_end j past (length (pings j past).queued)))

-- no stream is broken by an entry that brings no byte, and none is mended
pub broken_stays : (j : Job) (entry : Entry) (past : List Entry) → BringsNothing j entry past → is_broken j (entry ∷ past) ≡ is_broken j past
unfolding is_broken
broken_stays j entry past none =
    any_agree (λ c. is_some (j.codec.fault c (bytes_got j c (entry ∷ past)))) (λ c. is_some (j.codec.fault c (bytes_got j c past)))
    (λ c. ap (λ bytes. is_some (j.codec.fault c bytes)) (none c)) channels

-- ---- where no interrupt is asked for

module _ (j : Job) (plain : j.task.times.interrupt ≡ false) (entry : Entry) (past : List Entry) (none : BringsNothing j entry past) where
  -- a request that stands stays as it is
  request_same : (r : Request) → goes_on j entry past r ≡ r
  request_same r =
      goes_nowhere j entry past r none (never j plain (entry ∷ past) r ∙ sym (never j plain past r))
      (λ e. absurd (true≢false (sym e ∙ never j plain past r)))

  pub requests_same : (rs : List Request) → map (goes_on j entry past) rs ≡ rs
  requests_same [] = refl
  requests_same (r ∷ rs) = ap (λ x. x ∷ map (goes_on j entry past) rs) (request_same r) ∙ ap (λ xs. r ∷ xs) (requests_same rs)

module _ (j : Job) (plain : j.task.times.interrupt ≡ false) (entry : Entry) (past : List Entry) (q : IsStill j entry past) where
  abbrev after : List Entry
  after = entry ∷ past

  untold : IsUntold j entry past
  untold = record { got = q.nothing; clock = q.clock; acks = q.acks }

  pub requests_stay : requests j after ≡ requests j past
  requests_stay = requests_untold j entry past untold (λ r. never j plain after r ∙ sym (never j plain past r))

  asks_same : ask_state j after ≡ ask_state j past
  asks_same = asking_stays j entry past q.nothing q.clock

  pub acks_stay : saves_of j after ≡ saves_of j past
  acks_stay = cond-false (is_acknowledging j after) (saves_of j past + 1) (saves_of j past) q.acks

  -- nothing is queued
  pub none_queued : news j after past ≡ []
  none_queued =
      news_none j plain entry past (ap (λ (a : Asked). length a.ids) asks_same) (ap (λ (rs : List Request). length rs) requests_stay) (pings_stay j entry past q.nothing q.clock)

  line_keeps : (s : Speaker) (c : Chan) (l : Line) (unsent : List Queued) → OnLine s j c l unsent past → OnLine s j c l unsent after
  line_keeps s c l unsent h =
      subst (λ qs. OnLine s j c l qs after) (ap (λ qs. unsent ++ qs) none_queued ∙ append-nil unsent) (line_stays s j c l unsent entry past (q.got c) (q.nothing c) h)

  pub lines_keep : (s : Speaker) (ls : Lines) (unsent : List Queued) → OnLines s j ls unsent past → OnLines s j ls unsent after
  lines_keep s ls unsent h = record {
    shell = line_keeps s chan.Shell (line_on ls chan.Shell) unsent h.shell;
    control = line_keeps s chan.Control (line_on ls chan.Control) unsent h.control;
    iopub = line_keeps s chan.Iopub (line_on ls chan.Iopub) unsent h.iopub;
    heart = record { past = h.heart.past; out = h.heart.out; role = h.heart.role; stands = h.heart.stands; got = h.heart.got ∙ sym (q.nothing chan.Heart) };
  }

  counts_stay : count_messages j after ≡ count_messages j past
  counts_stay =
      ap (λ (a : Asked). count_queued (length a.ids) (requests j after)) asks_same ∙ ap (λ (rs : List Request). count_queued (length (ask_state j past).ids) rs) requests_stay

  pub talk_keeps : (a : Asked) (session : Identity) (unsent : List Queued) → OnTalk j a session unsent past → OnTalk j a session unsent after
  talk_keeps a session unsent t = record { asks = t.asks ∙ sym asks_same; made = t.made ∙ sym counts_stay }

  -- what was made is still the first of what is due
  pub made_keeps : renames (temporary_of j.output) j.output entry ≡ false → HasMade j (passing_saves j (requests j past)) (saves_of j past) past
      → HasMade j (passing_saves j (requests j after)) (saves_of j after) after
  made_keeps e h =
      subst (λ rs. HasMade j (passing_saves j rs) (saves_of j after) after) (sym requests_stay)
      (subst (λ n. HasMade j (passing_saves j (requests j past)) n after) (sym acks_stay) (made_stays j (passing_saves j (requests j past)) (saves_of j past) entry past e h))

-- ---- the parts

-- a quiet entry changes nothing of what the parts stand for
pub stands_still : (p : Plot) (number : ℕ) (x : Parts) (unsent : List Queued) (pending : List Event) (entry : Entry) (past : List Entry) → IsQuiet (facts p) entry past
    → StandsBy p number x unsent pending past → StandsBy p number x unsent pending (entry ∷ past)
stands_still p number x unsent pending entry past quiet h =
    let j : Job = facts p in
    let q = quiet.still in
    let rs : requests j (entry ∷ past) ≡ requests j past = requests_stay j h.undated entry past q in
    record {
      undated = h.undated;
      is_for = h.is_for;
      lines = lines_keep j h.undated entry past q (speaker p) x.lines unsent h.lines;
      talk = talk_keeps j h.undated entry past q x.asking x.session unsent h.talk;
      shell_seen = seen_stays p.setting.key j chan.Shell entry past x.shell_seen (q.nothing chan.Shell) h.shell_seen;
      iopub_seen = seen_stays p.setting.key j chan.Iopub entry past x.iopub_seen (q.nothing chan.Iopub) h.iopub_seen;
      book = subst (OnBook j (first p) x.book) (sym rs) h.book;
      request = subst (OnRequest j x.request) (sym rs) h.request;
      sent = h.sent ∙ ap (λ (xs : List Request). length xs) (sym rs);
      core = agrees_still j x.core pending entry past q.nothing q.acks q.clock h.core;
      made = made_keeps j h.undated entry past q quiet.unrenamed h.made;
      ready = h.ready ∙ sym (ready_same j entry past q.nothing q.clock);
      clock = h.clock ∙ sym (time_stays entry past q.clock);
    }

-- it leaves the request that is to be sent
pub sends_still : (p : Plot) (number : ℕ) (x : Parts) (cell : ℕ) (entry : Entry) (past : List Entry) → IsQuiet (facts p) entry past
    → IsToSend p number x cell past → IsToSend p number x cell (entry ∷ past)
sends_still p number x cell entry past quiet h =
    let j : Job = facts p in
    let q = quiet.still in
    let rs : requests j (entry ∷ past) ≡ requests j past = requests_stay j h.undated entry past q in
    let k : ℕ = length h.earlier in
    let n : ℕ = h.newest.number in
    let same : time past ≡ time (entry ∷ past) = sym (time_stays entry past q.clock) in
    record {
      earlier = h.earlier;
      newest = h.newest;
      next = record { stands = rs ∙ h.next.stands; io = h.next.io; replies = h.next.replies; planned = h.next.planned; cell_is = h.next.cell_is };
      numbered = h.numbered;
      undated = h.undated;
      is_for = h.is_for;
      lines = subst (λ ms. OnLines (speaker p) j x.lines (executes k n ms ∷ []) (entry ∷ past)) same
          (lines_keep j h.undated entry past q (speaker p) x.lines (executes k n (time past) ∷ []) h.lines);
      talk = subst (λ ms. OnTalk j x.asking x.session (executes k n ms ∷ []) (entry ∷ past)) same
          (talk_keeps j h.undated entry past q x.asking x.session (executes k n (time past) ∷ []) h.talk);
      shell_seen = seen_stays p.setting.key j chan.Shell entry past x.shell_seen (q.nothing chan.Shell) h.shell_seen;
      iopub_seen = seen_stays p.setting.key j chan.Iopub entry past x.iopub_seen (q.nothing chan.Iopub) h.iopub_seen;
      book = h.book;
      sent = h.sent;
      core = agrees_still j x.core [] entry past q.nothing q.acks q.clock h.core;
      made = made_keeps j h.undated entry past q quiet.unrenamed h.made;
      ready = h.ready ∙ sym (ready_same j entry past q.nothing q.clock);
      clock = h.clock ∙ sym (time_stays entry past q.clock);
    }

-- ---- entry after entry

pub stands_on : (p : Plot) (number : ℕ) (x : Parts) (unsent : List Queued) (pending : List Event) (before now : List Entry) → moments.Since (IsQuietNow (facts p)) before now
    → StandsBy p number x unsent pending before → StandsBy p number x unsent pending now
stands_on p number x unsent pending before now moments.start h = h
stands_on p number x unsent pending before now (moments.more {past} {entry} w q) h =
    stands_still p number x unsent pending entry past q (stands_on p number x unsent pending before past w h)

pub sends_on : (p : Plot) (number : ℕ) (x : Parts) (cell : ℕ) (before now : List Entry) → moments.Since (IsQuietNow (facts p)) before now
    → IsToSend p number x cell before → IsToSend p number x cell now
sends_on p number x cell before now moments.start h = h
sends_on p number x cell before now (moments.more {past} {entry} w q) h =
    sends_still p number x cell entry past q (sends_on p number x cell before past w h)

pub ended_on : (p : Plot) (before now : List Entry) → (facts p).task.times.interrupt ≡ false → moments.Since (IsQuietNow (facts p)) before now → HasEndedAs p before → HasEndedAs p now
ended_on p before now plain moments.start h = h
ended_on p before now plain (moments.more {past} {entry} w q) h =
    let j : Job = facts p in
    let g = ended_on p before past plain w h in
    let ss : List Request = requests j past in
    record {
      cause = g.cause;
      count = g.count;
      made = subst (λ rs. HasMade j (run_saves j rs g.cause) g.count (entry ∷ past)) (sym (requests_stay j plain entry past q.still))
          (made_stays j (run_saves j ss g.cause) g.count entry past q.unrenamed g.made);
    }

pub broken_on : (j : Job) (before now : List Entry) → moments.Since (IsQuietNow j) before now → is_broken j now ≡ is_broken j before
broken_on j before now moments.start = refl
broken_on j before now (moments.more {past} {entry} w q) = broken_stays j entry past q.still.nothing ∙ broken_on j before past w

-- ---- which entries are quiet

not_true : (b : Bool) → not b ≡ true → b ≡ false
not_true true e = cc
not_true false e = refl

-- by their kind
pub quiet_kind : (j : Job) (entry : Entry) (past : List Entry) → is_quiet j entry ≡ true → IsQuiet j entry past
quiet_kind j (made.Moment ms) past e = cc
quiet_kind j (made.Got conn room bytes) past e =
    let f : (conn.job == j.number) ≡ false = not_true (conn.job == j.number) e in
    record {
      still = record { nothing = no_bytes j (made.Got conn room bytes) past f (λ c. refl); got = λ c. away j c conn f; clock = refl; acks = refl };
      unrenamed = refl;
    }
quiet_kind j (made.Connected conn port how) past e =
    let f : (conn.job == j.number) ≡ false = not_true (conn.job == j.number) e in
    record {
      still = record {
        nothing = no_bytes j (made.Connected conn port how) past refl (λ c. cond-false (is_at (place j c) conn) _ _ (away j c conn f));
        got = λ c. refl;
        clock = refl;
        acks = refl;
      };
      unrenamed = refl;
    }
quiet_kind j (made.Renamed from to did) past e = record {
  still = record { nothing = λ c. refl; got = λ c. refl; clock = refl; acks = refl };
  unrenamed = not_true (renames (temporary_of j.output) j.output (made.Renamed from to did)) e;
}
quiet_kind j (made.DirSynced dir did) past e = record {
  still = record {
    nothing = λ c. refl;
    got = λ c. refl;
    clock = refl;
    acks = and_left (syncs_folder j.output (made.DirSynced dir did)) (is_renamed (temporary_of j.output) j.output past) (not_true (syncs_folder j.output (made.DirSynced dir did)) e);
  };
  unrenamed = refl;
}
quiet_kind j entry past e = record {
  still = record { nothing = no_bytes j entry past refl (λ c. refl); got = λ c. refl; clock = refl; acks = refl };
  unrenamed = refl;
}

-- a sync of a folder that acknowledges no save of the job
pub quiet_sync : (j : Job) (dir : List ℕ) (did : Did) (past : List Entry) → is_acknowledging j (made.DirSynced dir did ∷ past) ≡ false → IsQuiet j (made.DirSynced dir did) past
quiet_sync j dir did past e = record {
  still = record { nothing = λ c. refl; got = λ c. refl; clock = refl; acks = e };
  unrenamed = refl;
}

-- a connect where no byte was got on the connection before
pub quiet_connect : (j : Job) (conn : Conn) (port : ℕ) (how : Connected) (past : List Entry)
    → ((c : Chan) → begins_unread j c (made.Connected conn port how ∷ past) ≡ true) → IsQuiet j (made.Connected conn port how) past
quiet_connect j conn port how past unread = record {
  still = record { nothing = no_bytes j (made.Connected conn port how) past refl unread; got = λ c. refl; clock = refl; acks = refl };
  unrenamed = refl;
}

-- what is said is quiet
pub speech_quiet : (j : Job) (text : List ℕ) (past : List Entry) (rest : List ℕ) (now : List Entry) → speech.Speech text past rest now → moments.Since (IsQuietNow j) past now
speech_quiet j text past rest now speech.none = moments.start
speech_quiet j text past rest now (speech.more {rest = before} {past = so} n w) =
    moments.more (speech_quiet j text past before so w) (quiet_kind j (made.Said (take n before) Done) so refl)

-- and so is a say that fails behind it
pub refusal_quiet : (j : Job) (text : List ℕ) (past : List Entry) (rest : List ℕ) (now : List Entry) → speech.Speech text past rest now → moments.Since (IsQuietNow j) past (made.Said rest Failed ∷ now)
refusal_quiet j text past rest now w = moments.more (speech_quiet j text past rest now w) (quiet_kind j (made.Said rest Failed) now refl)
