-- What an execution stands for once all bodies of a piece were heard.
use Rattle.std.proofs.Common.{◌≡◌, ℕ, List, [], ◌∷◌, None, refl, sym, ◌∙◌, ap, subst}
use Rattle.world.specs.declared.chan.Chan.{Chan}
use Rattle.world.specs.declared.chan.Chan.TheVariants.{Shell, Control, Iopub, Heart}
use Rattle.world.specs.declared.entry.Entry.{Entry}
use Rattle.world.specs.declared.entry.Entry.TheVariants.{Got}
use Rattle.zmtp_wire.specs.Decoder.{Answer}
use Rattle.zmtp_wire.proofs.MeaningLemmas.{brought}
use Rattle.zmtp_peer.specs.Peer.{Brings}
use Rattle.kernel_lines.specs.Happened.{History, Came, came_in}
use Rattle.kernel_lines.specs.Line.{StandsFor, role_of}
use Rattle.kernel_lines.specs.Lines.{OthersStay, line_on}
use Rattle.kernel_lines.specs.declared.lines.Lines.{Lines}
use Rattle.jmsg.specs.declared.message.Message.{Message}
use Rattle.job_end.specs.declared.end.End.TheVariants.{NoMemory}
use Rattle.kernel_talk.specs.Asking.{Asked}
use Rattle.kernel_talk.specs.Pinging.{Pinged, after_echo}
use Rattle.run_journal.specs.Jupyter.{bodies_in}
use Rattle.run_journal.specs.Job.{Job}
use Rattle.run_journal.specs.Parts.{bytes_got, saves_of}
use Rattle.run_journal.specs.Requests.{requests}
use Rattle.run_journal.proofs.Growth.{go_self}
use Rattle.job_journal.specs.Made.{HasMade, passing_saves}
use Rattle.job_journal.specs.Piece.{HasCome, IsPiece, Receives}
use Rattle.job_journal.specs.Piece as piece
use Rattle.job_journal.specs.Plot.{Plot, facts}
use Rattle.job_journal.specs.Seen.{HasSeen, HasHeard}
use Rattle.job_journal.specs.Standing.{HasEndedAs, Parts}
use Rattle.job_journal.specs.Talk.{heard_on_shell, heard_on_iopub}
use Rattle.job_journal.proofs.Coming.{has_come}
use Rattle.job_journal.proofs.Lines.{AddsWhatItBrings}
use Rattle.job_journal.proofs.Making.{made_grows}
use Rattle.job_journal.proofs.Pieces.{piece_facts, piece_keeps_made}
use Rattle.job_run.specs.declared.execution.Execution.{Execution}
use Rattle.job_run.specs.declared.histories.Histories.{Histories}
use Rattle.job_run.specs.Heard.{HearsAll, HearsOn, Listens, arrivals_of, echoed}
use Rattle.job_run.specs.Standing.{EndsSo, HasFed, HasListened, IsGot, parts_of}
use Rattle.job_run.proofs.EndLemmas.{starved_so}

module _ (p : Plot) (number : ℕ) (x : Execution) (c : Chan) (bodies : List (List (List ℕ))) (ms : List Message) (now : List Entry) (f : HasFed p number x c bodies now) where
  key_is : x.session.key ≡ p.setting.key
  key_is = ap (λ (q : Parts). q.session.key) f.rest ∙ f.stands.is_for.key_is

  kept_asking : x.asking ≡ f.before.asking
  kept_asking = ap (λ (q : Parts). q.asking) f.rest

  kept_shell : x.seen.shell ≡ f.before.shell_seen
  kept_shell = ap (λ (q : Parts). q.shell_seen) f.rest

  kept_iopub : x.seen.iopub ≡ f.before.iopub_seen
  kept_iopub = ap (λ (q : Parts). q.iopub_seen) f.rest

  -- what is heard under the key of the job, behind all that came before on the channel
  heard_all : (was now seen : List (List ℕ)) (before : List (List (List ℕ))) → was ≡ seen → HasSeen p.setting.key seen before → HearsAll x.session.key bodies was now ms
      → HasHeard p.setting.key before bodies now (arrivals_of ms)
  heard_all was now seen before same s h =
      subst (λ key. HasHeard key before bodies now (arrivals_of ms)) key_is
      (h before (subst (λ key. HasSeen key was before) (sym key_is) (subst (λ v. HasSeen p.setting.key v before) (sym same) s)))

  -- an execution that has listened, by what it has seen since, the asking and the pings
  module _ (seen : Histories) (asking : Asked) (pings : Pinged) where
    abbrev z : Execution
    z = record x { seen = seen; asking = asking; pings = pings }

    receives : piece.HearsOn p c f.before (parts_of z) bodies (arrivals_of ms) f.past → Receives p c f.before (parts_of z) f.bytes (arrivals_of ms) f.past
    receives hears = record {
      others = f.others;
      role = f.role;
      stands = f.line;
      bodies = bodies;
      answer = f.answer;
      brings = f.brings;
      hears = hears;
      same = ap (λ (q : Parts). record q { asking = asking; shell_seen = seen.shell; iopub_seen = seen.iopub }) f.rest;
    }

    -- so the piece has come
    pub listened : AddsWhatItBrings → piece.HearsOn p c f.before (parts_of z) bodies (arrivals_of ms) f.past → HasListened p number z c (arrivals_of ms) now
    listened brings hears = record {
      entry = Got f.conn f.room f.bytes;
      past = f.past;
      is = f.is;
      parts = has_come p number f.before (parts_of z) f.conn f.room f.bytes (arrivals_of ms) f.past f.stands brings c f.at (receives hears);
      asked = record { terms = f.asked.terms; tagged = f.asked.tagged };
      noted = f.noted;
    }

-- by its channel
heard_by : (p : Plot) (number : ℕ) (x y : Execution) (c : Chan) (bodies : List (List (List ℕ))) (ms : List Message) (now : List Entry) → AddsWhatItBrings → Listens x y
    → (f : HasFed p number x c bodies now) → HearsOn c bodies x y ms → HasListened p number y c (arrivals_of ms) now
heard_by p number x y Shell bodies ms now brings l f h =
    subst (λ k. HasListened p number k Shell (arrivals_of ms) now) (sym l)
    (listened p number x Shell bodies ms now f y.seen y.asking y.pings brings (
      heard_all p number x Shell bodies ms now f x.seen.shell y.seen.shell f.before.shell_seen (bodies_in Shell (bytes_got (facts p) Shell f.past)) (kept_shell p number x Shell bodies ms now f) f.stands.shell_seen h.heard,
      h.iopub ∙ kept_iopub p number x Shell bodies ms now f,
      h.asking ∙ ap (λ a. heard_on_shell a (arrivals_of ms)) (kept_asking p number x Shell bodies ms now f),
    ))
heard_by p number x y Iopub bodies ms now brings l f h =
    subst (λ k. HasListened p number k Iopub (arrivals_of ms) now) (sym l)
    (listened p number x Iopub bodies ms now f y.seen y.asking y.pings brings (
      heard_all p number x Iopub bodies ms now f x.seen.iopub y.seen.iopub f.before.iopub_seen (bodies_in Iopub (bytes_got (facts p) Iopub f.past)) (kept_iopub p number x Iopub bodies ms now f) f.stands.iopub_seen h.heard,
      h.shell ∙ kept_shell p number x Iopub bodies ms now f,
      h.asking ∙ ap (λ a. heard_on_iopub a (arrivals_of ms)) (kept_asking p number x Iopub bodies ms now f),
    ))
heard_by p number x y Control bodies ms now brings l f h =
    subst (λ k. HasListened p number k Control (arrivals_of ms) now) (sym h.same)
    (listened p number x Control bodies ms now f x.seen x.asking x.pings brings
    (kept_shell p number x Control bodies ms now f, kept_iopub p number x Control bodies ms now f, kept_asking p number x Control bodies ms now f))
heard_by p number x y Heart bodies ms now brings l f h =
    subst (λ k. HasListened p number k Heart (arrivals_of ms) now) (sym h.echo) (echo bodies)
  where
    echo : (bs : List (List (List ℕ))) → HasListened p number (echoed bs x) Heart (arrivals_of ms) now
    echo [] =
        listened p number x Heart bodies ms now f x.seen x.asking x.pings brings
        (kept_shell p number x Heart bodies ms now f, kept_iopub p number x Heart bodies ms now f, kept_asking p number x Heart bodies ms now f)
    echo (b ∷ bs) =
        listened p number x Heart bodies ms now f x.seen x.asking (after_echo x.pings) brings
        (kept_shell p number x Heart bodies ms now f, kept_iopub p number x Heart bodies ms now f, kept_asking p number x Heart bodies ms now f)

pub heard_on : (p : Plot) (number : ℕ) (x y : Execution) (c : Chan) (bodies : List (List (List ℕ))) (ms : List Message) (now : List Entry) → Listens x y
    → (f : HasFed p number x c bodies now) → HearsOn c bodies x y ms → HasListened p number y c (arrivals_of ms) now
heard_on p number x y c bodies ms now l f h = heard_by p number x y c bodies ms now brought l f h

-- ---- where a job ends at a piece for want of memory

-- the saves that were made are the first that are due
piece_ends : (p : Plot) (c : Chan) (entry : Entry) (past : List Entry) → IsPiece (facts p) c entry
    → HasMade (facts p) (passing_saves (facts p) (requests (facts p) past)) (saves_of (facts p) past) past → HasEndedAs p (entry ∷ past)
piece_ends p c entry past at made =
    let j : Job = facts p in
    let now : List Entry = entry ∷ past in
    let kept = piece_keeps_made j entry past (piece_facts j c past at) made in
    record { cause = None; count = saves_of j now; made = (made_grows j (saves_of j now) (requests j now) (requests j now) now (go_self (requests j now)) kept).1 None }

pub got_ends : (p : Plot) (number : ℕ) (x : Execution) (c : Chan) (bytes : List ℕ) (now : List Entry) → IsGot p number x c bytes now → EndsSo p NoMemory now
got_ends p number x c bytes now g = starved_so p now (subst (HasEndedAs p) (sym g.is) (piece_ends p c (Got g.conn g.room bytes) g.past (piece.piece g.at) g.stands.parts.made))

pub fed_ends : (p : Plot) (number : ℕ) (x : Execution) (c : Chan) (bodies : List (List (List ℕ))) (now : List Entry) → HasFed p number x c bodies now → EndsSo p NoMemory now
fed_ends p number x c bodies now f = starved_so p now (subst (HasEndedAs p) (sym f.is) (piece_ends p c (Got f.conn f.room f.bytes) f.past (piece.piece f.at) f.stands.made))

-- ---- a piece is fed

pub has_fed : (p : Plot) (number : ℕ) (x : Execution) (lines : Lines) (c : Chan) (bytes : List ℕ) (bodies : List (List (List ℕ))) (answer : Answer) (now : List Entry)
    → OthersStay c x.lines lines → role_of (line_on lines c) ≡ role_of (line_on x.lines c)
    → ((h : History) (out : List ℕ) → StandsFor (line_on x.lines c) h out → StandsFor (line_on lines c) (Came bytes ∷ h) out)
    → ((h : History) (out : List ℕ) → StandsFor (line_on x.lines c) h out → Brings (role_of (line_on x.lines c)) (came_in h) bytes [] bodies answer)
    → IsGot p number x c bytes now → HasFed p number (record x { lines = lines }) c bodies now
has_fed p number x lines c bytes bodies answer now others role line brings g = record {
  before = parts_of x;
  past = g.past;
  stands = g.stands.parts;
  asked = record { terms = g.stands.asked.terms; tagged = g.stands.asked.tagged };
  noted = g.stands.noted;
  rest = refl;
  conn = g.conn;
  room = g.room;
  bytes = bytes;
  is = g.is;
  at = g.at;
  others = others;
  role = role;
  line = line;
  answer = answer;
  brings = brings;
}
