-- A piece that came: its bytes and its bodies were dealt with.
use Rattle.std.proofs.Common.{◌≡◌, ℕ, List, [], ◌∷◌, ◌++◌, true, false, refl, sym, ◌∙◌, ap, subst}
use Rattle.std.specs.Prelude.{◌==◌}
use Rattle.std.proofs.Math.Bool.{or-false}
use Rattle.world.specs.declared.chan.Chan.{Chan}
use Rattle.world.specs.declared.chan.Chan.TheVariants as chan
use Rattle.world.specs.declared.conn.Conn.{Conn}
use Rattle.world.specs.declared.entry.Entry.{Entry}
use Rattle.world.specs.declared.entry.Entry.TheVariants as made
use Rattle.world.specs.Places.{chan_number, is_at}
use Rattle.kernel_talk.specs.Asking.{Asked}
use Rattle.kernel_lines.specs.Happened.{Came}
use Rattle.kernel_lines.specs.Lines.{line_on}
use Rattle.kernel_lines.specs.declared.line.Line.{Line}
use Rattle.run_journal.specs.Codec.{Arrival}
use Rattle.run_journal.specs.Job.{Job}
use Rattle.run_journal.specs.Jupyter.{Speaker, bodies_in}
use Rattle.run_journal.specs.Parts.{place, bytes_got}
use Rattle.run_journal.specs.Arrivals.{arrive, ask_state}
use Rattle.run_journal.specs.Requests.{requests}
use Rattle.run_journal.specs.Queue.{news}
use Rattle.run_journal.proofs.AlikeLooks.{arrive_nothing}
use Rattle.job_journal.specs.Line.{OnLine}
use Rattle.job_journal.specs.Piece.{HasCome, Receives, on_iopub, on_shell, piece}
use Rattle.job_journal.specs.Plot.{Plot, facts, speaker, first, IsFor}
use Rattle.job_journal.specs.Seen.{HasSeen}
use Rattle.job_journal.specs.Standing.{Parts, Reads, OnLines, StandsBy}
use Rattle.job_journal.specs.Talk.{OnTalk, heard_on_shell, heard_on_iopub}
use Rattle.job_journal.specs.Told.{AgreesBut}
use Rattle.job_journal.specs.Used.{OnBook, OnRequest}
use Rattle.job_journal.proofs.Bytes.{got_more, got_elsewhere, other_channel}
use Rattle.job_journal.proofs.Heard.{hears_whole, seen_stays}
use Rattle.job_journal.proofs.Lines.{AddsWhatItBrings, line_gets, line_stays, piece_brings}
use Rattle.job_journal.proofs.Plots.{reads_iopub, reads_shell}
use Rattle.job_journal.proofs.Talks.{asks_on, talk_on}

-- where nothing is heard on IOPub the asking stays
pub iopub_silent : (a : Asked) → heard_on_iopub a [] ≡ a
iopub_silent a = ap (λ b. record { ids = a.ids; at = a.at; told = a.told; heard = b }) (or-false a.heard)

-- where nothing is heard on shell the asking stays
pub shell_silent : (a : Asked) → heard_on_shell a [] ≡ a
shell_silent a = ap (λ b. record { ids = a.ids; at = a.at; told = b; heard = a.heard }) (or-false a.told)

module _ (p : Plot) (number : ℕ) (old new : Parts) (conn : Conn) (room : ℕ) (bytes : List ℕ) (ms : List Arrival) (past : List Entry) (h : StandsBy p number old [] [] past) where
  abbrev j : Job
  j = facts p

  abbrev s : Speaker
  s = speaker p

  abbrev entry : Entry
  entry = made.Got conn room bytes

  abbrev now : List Entry
  now = entry ∷ past

  -- on another channel nothing came
  silent : (c d : Chan) → is_at (place j c) conn ≡ true → (chan_number d == chan_number c) ≡ false → is_at (place j d) conn ≡ false
  silent c d at away = other_channel j c d conn at away

  same_bytes : (c d : Chan) → is_at (place j c) conn ≡ true → (chan_number d == chan_number c) ≡ false → bytes_got j d now ≡ bytes_got j d past
  same_bytes c d at away = got_elsewhere j d conn room bytes past (silent c d at away)

  other_line : (c d : Chan) → is_at (place j c) conn ≡ true → (chan_number d == chan_number c) ≡ false → line_on new.lines d ≡ line_on old.lines d
      → OnLine s j d (line_on old.lines d) [] past → OnLine s j d (line_on new.lines d) (news j now past) now
  other_line c d at away same l =
      subst (λ (x : Line). OnLine s j d x (news j now past) now) (sym same)
      (line_stays s j d (line_on old.lines d) [] entry past (silent c d at away) (same_bytes c d at away) l)

  other_reads : (c d : Chan) → is_at (place j c) conn ≡ true → (chan_number d == chan_number c) ≡ false → line_on new.lines d ≡ line_on old.lines d
      → Reads j d (line_on old.lines d) past → Reads j d (line_on new.lines d) now
  other_reads c d at away same l =
      subst (λ (x : Line). Reads j d x now) (sym same)
      (record { past = l.past; out = l.out; role = l.role; stands = l.stands; got = l.got ∙ sym (same_bytes c d at away) })

  silence : (c d : Chan) → is_at (place j c) conn ≡ true → (chan_number d == chan_number c) ≡ false → arrive j d entry past ≡ []
  silence c d at away = arrive_nothing j entry past d (same_bytes c d at away)

  own_line : (c : Chan) → is_at (place j c) conn ≡ true → Receives p c old new bytes ms past → OnLine s j c (line_on old.lines c) [] past
      → OnLine s j c (line_on new.lines c) (news j now past) now
  own_line c at g l = line_gets s j c (line_on old.lines c) (line_on new.lines c) conn room bytes past at g.role l (g.stands l.past l.out l.stands)

  lines_come : (c : Chan) → is_at (place j c) conn ≡ true → Receives p c old new bytes ms past → OnLines s j new.lines (news j now past) now
  lines_come chan.Shell at g = record {
    shell = own_line chan.Shell at g h.lines.shell;
    control = other_line chan.Shell chan.Control at refl (g.others chan.Control (λ e. cc)) h.lines.control;
    iopub = other_line chan.Shell chan.Iopub at refl (g.others chan.Iopub (λ e. cc)) h.lines.iopub;
    heart = other_reads chan.Shell chan.Heart at refl (g.others chan.Heart (λ e. cc)) h.lines.heart;
  }
  lines_come chan.Control at g = record {
    shell = other_line chan.Control chan.Shell at refl (g.others chan.Shell (λ e. cc)) h.lines.shell;
    control = own_line chan.Control at g h.lines.control;
    iopub = other_line chan.Control chan.Iopub at refl (g.others chan.Iopub (λ e. cc)) h.lines.iopub;
    heart = other_reads chan.Control chan.Heart at refl (g.others chan.Heart (λ e. cc)) h.lines.heart;
  }
  lines_come chan.Iopub at g = record {
    shell = other_line chan.Iopub chan.Shell at refl (g.others chan.Shell (λ e. cc)) h.lines.shell;
    control = other_line chan.Iopub chan.Control at refl (g.others chan.Control (λ e. cc)) h.lines.control;
    iopub = own_line chan.Iopub at g h.lines.iopub;
    heart = other_reads chan.Iopub chan.Heart at refl (g.others chan.Heart (λ e. cc)) h.lines.heart;
  }
  lines_come chan.Heart at g =
      let l = h.lines.heart in
      record {
        shell = other_line chan.Heart chan.Shell at refl (g.others chan.Shell (λ e. cc)) h.lines.shell;
        control = other_line chan.Heart chan.Control at refl (g.others chan.Control (λ e. cc)) h.lines.control;
        iopub = other_line chan.Heart chan.Iopub at refl (g.others chan.Iopub (λ e. cc)) h.lines.iopub;
        heart = record {
          past = Came bytes ∷ l.past;
          out = l.out;
          role = g.role ∙ l.role;
          stands = g.stands l.past l.out l.stands;
          got = ap (λ b. b ++ bytes) l.got ∙ sym (got_more j chan.Heart conn room bytes past at);
        };
      }

  -- the asking, where these arrive
  asks_come : (iopub shell : List Arrival) → arrive j chan.Iopub entry past ≡ iopub → arrive j chan.Shell entry past ≡ shell
      → heard_on_iopub (heard_on_shell old.asking shell) iopub ≡ ask_state j now
  asks_come iopub shell e f =
      ap (λ (a : Asked). heard_on_iopub (heard_on_shell a shell) iopub) h.talk.asks
      ∙ ap (λ ms. heard_on_iopub (heard_on_shell (ask_state j past) ms) iopub) (sym f)
      ∙ ap (λ ms. heard_on_iopub (heard_on_shell (ask_state j past) (arrive j chan.Shell entry past)) ms) (sym e)
      ∙ sym (asks_on j entry past refl)

  come : (c : Chan) → is_at (place j c) conn ≡ true → Receives p c old new bytes ms past → arrive j chan.Iopub entry past ≡ on_iopub c ms → arrive j chan.Shell entry past ≡ on_shell c ms
      → new.asking ≡ ask_state j now → HasSeen p.setting.key new.shell_seen (bodies_in chan.Shell (bytes_got j chan.Shell now))
      → HasSeen p.setting.key new.iopub_seen (bodies_in chan.Iopub (bytes_got j chan.Iopub now)) → HasCome p number new c ms entry past
  come c at g iopub shell asks on_s on_i =
      let session = ap (λ (x : Parts). x.session) g.same in
      let core = ap (λ (x : Parts). x.core) g.same in
      let book = ap (λ (x : Parts). x.book) g.same in
      record {
        piece = piece at;
        iopub = iopub;
        shell = shell;
        undated = h.undated;
        is_for = subst (λ b. IsFor p number new.session new.core b) (sym book)
            (subst (λ x. IsFor p number new.session x old.book) (sym core) (subst (λ x. IsFor p number x old.core old.book) (sym session) h.is_for));
        lines = lines_come c at g;
        talk = subst (λ x. OnTalk j new.asking x (news j now past) now) (sym session) (talk_on j old.asking new.asking old.session [] entry past h.undated asks h.talk);
        shell_seen = on_s;
        iopub_seen = on_i;
        book = subst (λ b. OnBook j (first p) b (requests j past)) (sym book) h.book;
        request = subst (λ r. OnRequest j r (requests j past)) (sym (ap (λ (x : Parts). x.request) g.same)) h.request;
        sent = ap (λ (x : Parts). x.sent) g.same ∙ h.sent;
        core = subst (λ x. AgreesBut j x [] past) (sym core) h.core;
        made = h.made;
        ready = ap (λ (x : Parts). x.is_ready) g.same ∙ h.ready;
        clock = ap (λ (x : Parts). x.clock) g.same ∙ h.clock;
      }

  -- what the bodies are, on a channel that stands for what was queued
  split : AddsWhatItBrings → (c : Chan) → is_at (place j c) conn ≡ true → (g : Receives p c old new bytes ms past) → OnLine s j c (line_on old.lines c) [] past
      → bodies_in c (bytes_got j c now) ≡ bodies_in c (bytes_got j c past) ++ g.bodies
  split adds c at g l =
      ap (bodies_in c) (got_more j c conn room bytes past at)
      ∙ (piece_brings adds s j c (line_on old.lines c) [] past bytes g.bodies g.answer l (g.brings l.past l.out l.stands)).0

  seen_on_shell : (c : Chan) → is_at (place j c) conn ≡ true → (chan_number chan.Shell == chan_number c) ≡ false → new.shell_seen ≡ old.shell_seen
      → HasSeen p.setting.key new.shell_seen (bodies_in chan.Shell (bytes_got j chan.Shell now))
  seen_on_shell c at away e =
      subst (λ v. HasSeen p.setting.key v (bodies_in chan.Shell (bytes_got j chan.Shell now))) (sym e)
      (seen_stays p.setting.key j chan.Shell entry past old.shell_seen (same_bytes c chan.Shell at away) h.shell_seen)

  seen_on_iopub : (c : Chan) → is_at (place j c) conn ≡ true → (chan_number chan.Iopub == chan_number c) ≡ false → new.iopub_seen ≡ old.iopub_seen
      → HasSeen p.setting.key new.iopub_seen (bodies_in chan.Iopub (bytes_got j chan.Iopub now))
  seen_on_iopub c at away e =
      subst (λ v. HasSeen p.setting.key v (bodies_in chan.Iopub (bytes_got j chan.Iopub now))) (sym e)
      (seen_stays p.setting.key j chan.Iopub entry past old.iopub_seen (same_bytes c chan.Iopub at away) h.iopub_seen)

  -- a piece has come once its bodies were dealt with
  pub has_come : AddsWhatItBrings → (c : Chan) → is_at (place j c) conn ≡ true → Receives p c old new bytes ms past → HasCome p number new c ms entry past
  has_come adds chan.Shell at g =
      let w = hears_whole p.setting.key j chan.Shell entry past g.bodies new.shell_seen ms (reads_shell p) (split adds chan.Shell at g h.lines.shell) g.hears.0 in
      let none = silence chan.Shell chan.Iopub at refl in
      come chan.Shell at g none w.0 (g.hears.2 ∙ sym (iopub_silent (heard_on_shell old.asking ms)) ∙ asks_come [] ms none w.0) w.1 (seen_on_iopub chan.Shell at refl g.hears.1)
  has_come adds chan.Iopub at g =
      let w = hears_whole p.setting.key j chan.Iopub entry past g.bodies new.iopub_seen ms (reads_iopub p) (split adds chan.Iopub at g h.lines.iopub) g.hears.0 in
      let none = silence chan.Iopub chan.Shell at refl in
      come chan.Iopub at g w.0 none (g.hears.2 ∙ ap (λ (a : Asked). heard_on_iopub a ms) (sym (shell_silent old.asking)) ∙ asks_come ms [] w.0 none)
      (seen_on_shell chan.Iopub at refl g.hears.1) w.1
  has_come adds chan.Control at g =
      let i = silence chan.Control chan.Iopub at refl in
      let o = silence chan.Control chan.Shell at refl in
      come chan.Control at g i o (g.hears.2 ∙ sym (iopub_silent (heard_on_shell old.asking []) ∙ shell_silent old.asking) ∙ asks_come [] [] i o)
      (seen_on_shell chan.Control at refl g.hears.0) (seen_on_iopub chan.Control at refl g.hears.1)
  has_come adds chan.Heart at g =
      let i = silence chan.Heart chan.Iopub at refl in
      let o = silence chan.Heart chan.Shell at refl in
      come chan.Heart at g i o (g.hears.2 ∙ sym (iopub_silent (heard_on_shell old.asking []) ∙ shell_silent old.asking) ∙ asks_come [] [] i o)
      (seen_on_shell chan.Heart at refl g.hears.0) (seen_on_iopub chan.Heart at refl g.hears.1)
