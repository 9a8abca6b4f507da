-- A save is acknowledged, or it failed.
use Rattle.std.proofs.Common.{◌≡◌, inl, inr, ℕ, ◌+◌, ◌≤◌, List, [], ◌∷◌, ◌++◌, length, map, take, Bool, true, false, ◌&&◌, cond, Option, Some, None, refl, sym, ◌∙◌, ap, subst, arith, length-append}
use Rattle.std.specs.Prelude.{count_by, is_some, slice_get}
use Rattle.std.specs.Str.{bytes_eq}
use Rattle.std.proofs.Math.Bool.{true≢false}
use Rattle.std.proofs.lemmas.Bool.{cond-true, cond-false}
use Rattle.jtext.proofs.Equals.{same_bytes}
use Rattle.world.specs.declared.chan.Chan.{Chan}
use Rattle.world.specs.declared.chan.Chan.TheVariants as chan
use Rattle.world.specs.declared.did.Did.TheVariants.{Done}
use Rattle.world.specs.declared.entry.Entry.{Entry}
use Rattle.world.specs.declared.entry.Entry.TheVariants as made
use Rattle.world.specs.Disk as disk
use Rattle.world.specs.Moments as moments
use Rattle.world.specs.Save.{temporary_of}
use Rattle.save_disk.specs.Entries as save_entries
use Rattle.kernel_talk.specs.Asking.{Asked}
use Rattle.kernel_lines.specs.Lines.{line_on}
use Rattle.cell_core.specs.declared.act.Act.{Act}
use Rattle.cell_core.specs.declared.act.Act.TheVariants as act
use Rattle.cell_core.specs.declared.event.Event.{Event}
use Rattle.cell_core.specs.declared.event.Event.TheVariants as event
use Rattle.cell_core.specs.declared.machine.Core.{Core}
use Rattle.cell_core.specs.declared.why.Why.{Why}
use Rattle.cell_core.specs.Acts.{Meets, awaits_saved, act_by, act_of}
use Rattle.cell_core.specs.Events as events
use Rattle.cell_core.specs.Saves as core_saves
use Rattle.cell_core.specs.Task.{Task}
use Rattle.job_notebook.specs.declared.notebook.JobNotebook.{JobNotebook}
use Rattle.run_journal.specs.Job.{Job}
use Rattle.run_journal.specs.Parts.{saves_of, is_acknowledging}
use Rattle.run_journal.specs.Arrivals.{ask_state, is_ready}
use Rattle.run_journal.specs.Looks.{pings}
use Rattle.run_journal.specs.Requests.{Request, goes_on, is_next, requests, used_of}
use Rattle.run_journal.specs.Saves.{Save, run_saves}
use Rattle.run_journal.specs.Queue.{count_messages, news}
use Rattle.run_journal.specs.Agreement.{Agrees, BringsNothing}
use Rattle.run_journal.specs.Grow.{GoOn}
use Rattle.run_journal.proofs.Agreeing.{agree_saved, agree_unheard}
use Rattle.run_journal.proofs.Growth.{go_self, requests_go_on}
use Rattle.run_journal.proofs.Isolation.{no_next}
use Rattle.run_journal.proofs.Keeping.{cause_stays}
use Rattle.run_journal.proofs.Safety.{all_but_last, few_requests}
use Rattle.job_journal.specs.Line.{OnLine}
use Rattle.job_journal.specs.Made.{HasMade, passing_saves}
use Rattle.job_journal.specs.Plot.{Plot, facts, speaker, first, IsFor}
use Rattle.job_journal.specs.Quiet.{IsStill, IsQuietNow}
use Rattle.job_journal.specs.Saved.{IsAsked, save_of}
use Rattle.job_journal.specs.Standing.{Parts, OnLines, StandsBy, IsToSend, HasEndedAs}
use Rattle.job_journal.specs.Starting.{is_calm, is_ongoing, saved}
use Rattle.job_journal.specs.Talk.{OnTalk, has_number}
use Rattle.job_journal.specs.Told.{AgreesBut, Hears, KeepsUp}
use Rattle.job_journal.specs.Used.{OnBook, OnRequest, anew}
use Rattle.job_journal.proofs.Dues.{made_few, made_of_passes, saves_at_next}
use Rattle.job_journal.proofs.Lines.{line_stays}
use Rattle.job_journal.proofs.Making.{due_while_running, made_grows, made_next}
use Rattle.job_journal.proofs.Quiet.{acks_stay, asking_stays, lines_keep, pings_stay, quiet_kind, ready_same, requests_same, requests_stay, stands_on, talk_keeps}
use Rattle.job_journal.proofs.Readying.{is_next_one, news_anew, news_still}
use Rattle.job_journal.proofs.Saving.{next_save, unnamed}
use Rattle.job_journal.proofs.Steps.{up_saved, up_still}
use Rattle.job_journal.proofs.Starting.{act_is, none_stands, sent_stands}
use Rattle.job_journal.proofs.Talks.{anew_number, requests_grow, talk_on}

-- ---- entry after quiet entry

pub requests_on : (j : Job) (before now : List Entry) → j.task.times.interrupt ≡ false → moments.Since (IsQuietNow j) before now → requests j now ≡ requests j before
requests_on j before now plain moments.start = refl
requests_on j before now plain (moments.more {past} {entry} w q) = requests_stay j plain entry past q.still ∙ requests_on j before past plain w

pub acks_on : (j : Job) (before now : List Entry) → j.task.times.interrupt ≡ false → moments.Since (IsQuietNow j) before now → saves_of j now ≡ saves_of j before
acks_on j before now plain moments.start = refl
acks_on j before now plain (moments.more {past} {entry} w q) = acks_stay j plain entry past q.still ∙ acks_on j before past plain w

pub agrees_on : (j : Job) (told : List Event) (before now : List Entry) → moments.Since (IsQuietNow j) before now → Agrees j told before → Agrees j told now
agrees_on j told before now moments.start a = a
agrees_on j told before now (moments.more {past} {entry} w q) a = agree_unheard j entry told past q.still.nothing q.still.acks (agrees_on j told before past w a)

-- and the core's clock doesn't fall behind
pub up_on : (j : Job) (told : List Event) (before now : List Entry) → moments.Since (IsQuietNow j) before now → Agrees j told before → KeepsUp j told [] before → KeepsUp j told [] now
up_on j told before now moments.start a up = up
up_on j told before now (moments.more {past} {entry} w q) a up =
    up_still j entry told past q.still.nothing q.still.acks q.still.clock (agrees_on j told before past w a) (up_on j told before past w a up)

-- the writes of a save are quiet
pub writes_quiet : (j : Job) (path text : List ℕ) (before : List Entry) {rest : List ℕ} {now : List Entry} → save_entries.Writes path text (made.Created path Done ∷ before) rest now
    → moments.Since (IsQuietNow j) before now
writes_quiet j path text before save_entries.none = moments.more moments.start (quiet_kind j (made.Created path Done) before refl)
writes_quiet j path text before (save_entries.more {rest} {past} n w) =
    moments.more (writes_quiet j path text before w) (quiet_kind j (made.Wrote path (take n rest) Done) past refl)

-- ---- what was told

-- where no save was acknowledged nothing was told
pub none_told : (task : Task) (told : List Event) → Meets task told → events.ack_count told ≡ 0 → told ≡ []
none_told task [] m e = refl
none_told task (x ∷ told) m e = by (events.is_saved x) refl (λ n. none_told task told m.2 n)
  where
    by : (b : Bool) → events.is_saved x ≡ b → (events.ack_count told ≡ 0 → told ≡ []) → x ∷ told ≡ []
    by true f ih = let n : events.ack_count told + 1 ≡ 0 = sym (cond-true (events.is_saved x) (events.ack_count told + 1) (events.ack_count told) f) ∙ e in absurd (omega (arith, n))
    by false f ih =
        let n : events.ack_count told ≡ 0 = sym (cond-false (events.is_saved x) (events.ack_count told + 1) (events.ack_count told) f) ∙ e in
        let none : told ≡ [] = ih n in
        let g : events.is_saved x ≡ true = m.0 ∙ ap (λ es. awaits_saved task es) none in
        absurd (true≢false (sym g ∙ f))

calm_goes : (a : Act) → is_calm a ≡ true → is_ongoing a ≡ true
calm_goes (act.Save n) e = cc
calm_goes (act.Stop c) e = cc
calm_goes a e = refl

-- then there is no cause
no_cause : (task : Task) (es : List Event) (ps : List core_saves.Prefix) (w : Option Why) → is_ongoing (act_by task es ps w) ≡ true → w ≡ None
no_cause task es (p ∷ ps) w e = cc
no_cause task es [] (Some c) e = cc
no_cause task es [] None e = refl

none_is : {X : Type 0} (o : Option X) → is_some o ≡ false → o ≡ None
none_is None e = refl
none_is (Some x) e = cc

-- ---- the rename and the sync behind it

module _ (p : Plot) (number : ℕ) (x : Parts) (past : List Entry) (h : StandsBy p number x [] [] past) (settled : ℕ) (asked : IsAsked (facts p).task h.core.told settled)
    (text : List ℕ) (text_is : text ≡ (save_of (facts p) (used_of (facts p).task.plan (requests (facts p) past)) asked.asked).text)
    (now : List Entry)
    (save : save_entries.WroteAnd (facts p).output text past
    (λ xs. made.DirSynced (disk.folder_of (facts p).output) Done ∷ made.Renamed (temporary_of (facts p).output) (facts p).output Done ∷ made.Synced (temporary_of (facts p).output) Done ∷ xs) now) where
  abbrev j : Job
  j = facts p

  abbrev told : List Event
  told = h.core.told

  abbrev tmp : List ℕ
  tmp = temporary_of j.output

  abbrev synced : List Entry
  synced = made.Synced tmp Done ∷ save.past

  abbrev sync : Entry
  sync = made.DirSynced (disk.folder_of j.output) Done

  abbrev renamed : List Entry
  renamed = made.Renamed tmp j.output Done ∷ synced

  abbrev acked : List Entry
  acked = sync ∷ renamed

  chain : moments.Since (IsQuietNow j) past synced
  chain = moments.more (writes_quiet j tmp text past save.writes) (quiet_kind j (made.Synced tmp Done) save.past refl)

  pub before : StandsBy p number x [] [] synced
  before = stands_on p number x [] [] past synced chain h

  still : IsStill j (made.Renamed tmp j.output Done) synced
  still = record { nothing = λ c. refl; got = λ c. refl; clock = refl; acks = refl }

  nothing : BringsNothing j sync renamed
  nothing = λ c. refl

  pub same : requests j renamed ≡ requests j past
  same = requests_stay j h.undated (made.Renamed tmp j.output Done) synced still ∙ requests_on j past synced h.undated chain

  counted : saves_of j renamed ≡ saves_of j past
  counted = acks_stay j h.undated (made.Renamed tmp j.output Done) synced still ∙ acks_on j past synced h.undated chain

  pub is_ack : is_acknowledging j acked ≡ true
  is_ack =
      ap (λ b. b && (bytes_eq tmp tmp && bytes_eq j.output j.output)) (same_bytes (disk.folder_of j.output))
      ∙ ap (λ b. b && bytes_eq j.output j.output) (same_bytes tmp)
      ∙ same_bytes j.output

  one : saves_of j acked ≡ saves_of j renamed + 1
  one = cond-true (is_acknowledging j acked) (saves_of j renamed + 1) (saves_of j renamed) is_ack

  pub agreed : Agrees j told renamed
  agreed = agree_unheard j (made.Renamed tmp j.output Done) told synced still.nothing still.acks (agrees_on j told past synced chain h.core.agrees)

  pub then_agreed : Agrees j (event.Saved ∷ told) acked
  then_agreed = agree_saved j sync told renamed nothing is_ack agreed

  pub agreed_up : KeepsUp j told [] renamed
  agreed_up =
      up_still j (made.Renamed tmp j.output Done) told synced still.nothing still.acks still.clock (agrees_on j told past synced chain h.core.agrees)
      (up_on j told past synced chain h.core.agrees h.core.up)

  -- the save was the next that is due, by the core's cause
  pub made_one : HasMade j (run_saves j (requests j past) (core_saves.why j.task told)) (saves_of j acked) acked
  made_one =
      let w : Option Why = core_saves.why j.task told in
      let rs : List Request = requests j past in
      let s : Save = save_of j (used_of j.task.plan rs) asked.asked in
      let due : slice_get (run_saves j rs w) (saves_of j past) ≡ Some s = next_save j told past h.core.agrees h.is_for.runs asked.asked asked.at in
      let all : HasMade j (run_saves j rs w) (saves_of j past) past = (made_grows j (saves_of j past) rs rs past (go_self rs) h.made).1 w in
      subst (λ n. HasMade j (run_saves j rs w) n acked) (sym (one ∙ ap (λ n. n + 1) counted))
      (made_next j (run_saves j rs w) (saves_of j past) s past acked due
      (record { past = save.past; writes = subst (λ t. save_entries.Writes tmp t (made.Created tmp Done ∷ past) [] save.past) text_is save.writes; ends = refl }) all)

  -- where the job goes on nothing has stopped it
  uncaused : (answer : Act) → act_of j.task event.Saved told ≡ answer → is_ongoing answer ≡ true → core_saves.why j.task told ≡ None
  uncaused answer f g =
      let after : core_saves.why j.task (event.Saved ∷ told) ≡ None
      = no_cause j.task (event.Saved ∷ told) (core_saves.pending_saves j.task (event.Saved ∷ told)) (core_saves.why j.task (event.Saved ∷ told))
      (ap is_ongoing (sym (act_is j told event.Saved h.core.hears.goes_on) ∙ f) ∙ g) in
      by (is_some (core_saves.why j.task told)) refl after
    where
      at_first : saves_of j renamed ≡ 0 → told ≡ []
      at_first e = none_told j.task told h.core.hears.meets (agreed.acked ∙ e)

      by : (b : Bool) → is_some (core_saves.why j.task told) ≡ b → core_saves.why j.task (event.Saved ∷ told) ≡ None → core_saves.why j.task told ≡ None
      by true e f =
          let g : is_some (core_saves.why j.task (event.Saved ∷ told)) ≡ true = cause_stays j sync renamed told h.is_for.runs is_ack agreed at_first e in
          absurd (true≢false (sym g ∙ ap is_some f))
      by false e f = none_is (core_saves.why j.task told) e

  grown : GoOn (requests j past) (requests j acked)
  grown = subst (λ rs. GoOn rs (requests j acked)) same (requests_go_on j sync renamed)

  made_on : (answer : Act) → act_of j.task event.Saved told ≡ answer → is_ongoing answer ≡ true → HasMade j (passing_saves j (requests j acked)) (saves_of j acked) acked
  made_on answer f g =
      let none : core_saves.why j.task told ≡ None = uncaused answer f g in
      let due : run_saves j (requests j past) (core_saves.why j.task told) ≡ passing_saves j (requests j past)
      = ap (run_saves j (requests j past)) none ∙ due_while_running j told past h.core.agrees h.is_for.runs none in
      (made_grows j (saves_of j acked) (requests j past) (requests j acked) acked grown (subst (λ ss. HasMade j ss (saves_of j acked) acked) due made_one)).0

  -- where it was of a passed request, the save names no stopping cell
  pub unnamed_save : saves_of j acked ≤ length (passing_saves j (requests j past)) → asked.asked.stopping_cell ≡ None
  unnamed_save h1 =
      let n : events.ack_count told ≡ saves_of j past = h.core.agrees.acked in
      let m : saves_of j acked ≡ saves_of j past + 1 = one ∙ ap (λ n. n + 1) counted in
      unnamed j told past h.core.agrees (events.ack_count told) asked.asked (omega (arith, h1, n, m)) asked.at

  -- so it does where the job goes on
  pub unnamed_going : (answer : Act) → act_of j.task event.Saved told ≡ answer → is_ongoing answer ≡ true → asked.asked.stopping_cell ≡ None
  unnamed_going answer f g =
      let none : core_saves.why j.task told ≡ None = uncaused answer f g in
      let due : run_saves j (requests j past) (core_saves.why j.task told) ≡ passing_saves j (requests j past)
      = ap (run_saves j (requests j past)) none ∙ due_while_running j told past h.core.agrees h.is_for.runs none in
      unnamed_save (made_few j (passing_saves j (requests j past)) (saves_of j acked) acked (subst (λ ss. HasMade j ss (saves_of j acked) acked) due made_one))

  lines_before : OnLines (speaker p) j x.lines [] renamed
  lines_before = lines_keep j h.undated (made.Renamed tmp j.output Done) synced still (speaker p) x.lines [] before.lines

  line_on_now : (c : Chan) → OnLine (speaker p) j c (line_on x.lines c) [] renamed → OnLine (speaker p) j c (line_on x.lines c) (news j acked renamed) acked
  line_on_now c l = line_stays (speaker p) j c (line_on x.lines c) [] sync renamed refl refl l

  pub lines_now : OnLines (speaker p) j x.lines (news j acked renamed) acked
  lines_now = record {
    shell = line_on_now chan.Shell lines_before.shell;
    control = line_on_now chan.Control lines_before.control;
    iopub = line_on_now chan.Iopub lines_before.iopub;
    heart = record { past = lines_before.heart.past; out = lines_before.heart.out; role = lines_before.heart.role; stands = lines_before.heart.stands; got = lines_before.heart.got };
  }

  talk_before : OnTalk j x.asking x.session [] renamed
  talk_before = talk_keeps j h.undated (made.Renamed tmp j.output Done) synced still x.asking x.session [] before.talk

  asks : ask_state j acked ≡ ask_state j renamed
  asks = asking_stays j sync renamed nothing refl

  pub talk_now : OnTalk j x.asking x.session (news j acked renamed) acked
  talk_now = talk_on j x.asking x.asking x.session [] sync renamed h.undated (talk_before.asks ∙ sym asks) talk_before

  pub ids : (ask_state j acked).ids ≡ (ask_state j renamed).ids
  ids = ap (λ (a : Asked). a.ids) asks

  pub unpinged : length (pings j acked).queued ≡ length (pings j renamed).queued
  unpinged = pings_stay j sync renamed nothing refl

  pub ready_then : x.is_ready ≡ is_ready j acked
  ready_then = before.ready ∙ sym (ready_same j (made.Renamed tmp j.output Done) synced still.nothing refl) ∙ sym (ready_same j sync renamed nothing refl)

  mapped : map (goes_on j sync renamed) (requests j renamed) ≡ requests j renamed
  mapped = requests_same j h.undated sync renamed nothing (requests j renamed)

  -- where the length of the requests stays none comes to stand
  pub none_more_now : length (requests j acked) ≡ length (requests j renamed) → requests j acked ≡ requests j renamed
  none_more_now e =
      by (is_next j (is_acknowledging j acked) (is_ready j acked) (saves_of j acked) (map (goes_on j sync renamed) (requests j renamed)))
      (map (goes_on j sync renamed) (requests j renamed)) mapped e
    where
      by : (b : Bool) (rs : List Request) → rs ≡ requests j renamed → length (cond b (rs ++ anew j sync renamed ∷ []) rs) ≡ length (requests j renamed)
          → cond b (rs ++ anew j sync renamed ∷ []) rs ≡ requests j renamed
      by true rs f g =
          let k : length (rs ++ anew j sync renamed ∷ []) ≡ length rs + 1 = length-append rs (anew j sync renamed ∷ []) in
          let l : length rs ≡ length (requests j renamed) = ap (λ (v : List Request). length v) f in
          absurd (omega (arith, g, k, l))
      by false rs f g = f

  -- ---- the job goes on

  module _ (next : Core) (book : JobNotebook) (is_for : IsFor p number x.session next book) (kept : OnBook j (first p) book (requests j past))
      (hears : Hears j next (event.Saved ∷ told)) where
    abbrev core_then : AgreesBut j next [] acked
    core_then = record { told = event.Saved ∷ told; hears = hears; agrees = then_agreed; up = up_saved j sync told renamed is_ack refl agreed then_agreed agreed_up }

    -- the next request comes to stand where it is sent
    sends_then : (cell : ℕ) → act_of j.task event.Saved told ≡ act.Send cell → IsToSend p number (record x { core = next; book = book }) cell acked
    sends_then cell f =
        let s = sent_stands j told event.Saved sync renamed saved h.core.hears.goes_on agreed then_agreed cell f in
        let queued = news_anew j h.undated sync renamed ids unpinged s.0 in
        record {
          earlier = requests j renamed;
          newest = anew j sync renamed;
          next = is_next_one j sync renamed cell s.0 mapped s.1;
          numbered = anew_number j h.undated sync renamed ids ∙ made_all x.session.made (count_by has_number []) (count_messages j renamed) refl talk_before.made;
          undated = h.undated;
          is_for = is_for;
          lines = subst (λ qs. OnLines (speaker p) j x.lines qs acked) queued lines_now;
          talk = subst (λ qs. OnTalk j x.asking x.session qs acked) queued talk_now;
          shell_seen = before.shell_seen;
          iopub_seen = before.iopub_seen;
          book = subst (OnBook j (first p) book) (sym same) kept;
          sent = h.sent ∙ ap (λ (rs : List Request). length rs) (sym same);
          core = core_then;
          made = made_on (act.Send cell) f refl;
          ready = ready_then;
          clock = before.clock;
        }
      where
        made_all : (s n c : ℕ) → n ≡ 0 → s + n ≡ c → c + 1 ≡ s + 1
        made_all s n c z e = omega (arith, z, e)

    abbrev pub stands_then : length (requests j acked) ≡ length (requests j renamed) → HasMade j (passing_saves j (requests j acked)) (saves_of j acked) acked
        → StandsBy p number (record x { core = next; book = book }) [] [] acked
    stands_then long m =
        let rs : requests j acked ≡ requests j past = none_more_now long ∙ same in
        let queued = news_still j h.undated sync renamed ids unpinged long in
        record {
          undated = h.undated;
          is_for = is_for;
          lines = subst (λ qs. OnLines (speaker p) j x.lines qs acked) queued lines_now;
          talk = subst (λ qs. OnTalk j x.asking x.session qs acked) queued talk_now;
          shell_seen = before.shell_seen;
          iopub_seen = before.iopub_seen;
          book = subst (OnBook j (first p) book) (sym rs) kept;
          request = subst (OnRequest j x.request) (sym rs) h.request;
          sent = h.sent ∙ ap (λ (v : List Request). length v) (sym rs);
          core = core_then;
          made = m;
          ready = ready_then;
          clock = before.clock;
        }

    waits_then : (answer : Act) → act_of j.task event.Saved told ≡ answer → is_calm answer ≡ true → StandsBy p number (record x { core = next; book = book }) [] [] acked
    waits_then answer f calm =
        stands_then (none_stands j told event.Saved sync renamed saved h.core.hears.goes_on agreed then_agreed answer f calm) (made_on answer f (calm_goes answer calm))

  -- ---- the job may have ended

  -- whatever the core answers, the saves that were made are the first of those that are due
  made_then : (w : Option Why) × HasMade j (run_saves j (requests j acked) w) (saves_of j acked) acked
  made_then = elim (requests_grow j sync renamed) [
    | inl e ↦ (
      core_saves.why j.task told,
      subst (λ rs. HasMade j (run_saves j rs (core_saves.why j.task told)) (saves_of j acked) acked) (sym (none_more_now e ∙ same)) made_one,
    )
    | inr e ↦ (None, (made_grows j (saves_of j acked) (requests j past) (requests j acked) acked grown (few e)).1 None)
  ]
    where
      next_holds : length (requests j acked) ≡ length (requests j renamed) + 1
          → is_next j (is_acknowledging j acked) (is_ready j acked) (saves_of j acked) (requests j renamed) ≡ true
      next_holds e =
          ap (is_next j (is_acknowledging j acked) (is_ready j acked) (saves_of j acked)) (sym mapped)
          ∙ by (is_next j (is_acknowledging j acked) (is_ready j acked) (saves_of j acked) (map (goes_on j sync renamed) (requests j renamed)))
          (map (goes_on j sync renamed) (requests j renamed)) mapped e
        where
          by : (b : Bool) (rs : List Request) → rs ≡ requests j renamed → length (cond b (rs ++ anew j sync renamed ∷ []) rs) ≡ length (requests j renamed) + 1 → b ≡ true
          by true rs f g = refl
          by false rs f g = let l : length rs ≡ length (requests j renamed) = ap (λ (v : List Request). length v) f in absurd (omega (arith, g, l))

      few : length (requests j acked) ≡ length (requests j renamed) + 1 → HasMade j (passing_saves j (requests j past)) (saves_of j acked) acked
      few e =
          let n : saves_of j acked ≤ length (passing_saves j (requests j renamed))
          = saves_at_next j sync renamed (requests j renamed) (few_requests j renamed).1 (all_but_last j renamed) (no_next j renamed) (ready_same j sync renamed nothing refl) one (next_holds e) in
          made_of_passes j (requests j past) (core_saves.why j.task told) (saves_of j acked) acked
          (subst (λ rs. saves_of j acked ≤ length (passing_saves j rs)) same n) made_one

  -- ---- at the journal that the save left

  pub is_now : acked ≡ now
  is_now = sym save.ends

  module _ (next : Core) (book : JobNotebook) (is_for : IsFor p number x.session next book) (kept : OnBook j (first p) book (requests j past))
      (hears : Hears j next (event.Saved ∷ told)) where
    pub saved_sends : (cell : ℕ) → act_of j.task event.Saved told ≡ act.Send cell → IsToSend p number (record x { core = next; book = book }) cell now
    saved_sends cell f = subst (λ xs. IsToSend p number (record x { core = next; book = book }) cell xs) is_now (sends_then next book is_for kept hears cell f)

    pub saved_waits : (answer : Act) → act_of j.task event.Saved told ≡ answer → is_calm answer ≡ true → StandsBy p number (record x { core = next; book = book }) [] [] now
    saved_waits answer f calm = subst (λ xs. StandsBy p number (record x { core = next; book = book }) [] [] xs) is_now (waits_then next book is_for kept hears answer f calm)

  pub saved_agrees : Agrees j (event.Saved ∷ told) now
  saved_agrees = subst (Agrees j (event.Saved ∷ told)) is_now then_agreed

  pub saved_made : (w : Option Why) × HasMade j (run_saves j (requests j now) w) (saves_of j now) now
  saved_made = subst (λ xs. (w : Option Why) × HasMade j (run_saves j (requests j xs) w) (saves_of j xs) xs) is_now made_then

  pub saved_ends : HasEndedAs p now
  saved_ends = record { cause = saved_made.0; count = saves_of j now; made = saved_made.1 }
