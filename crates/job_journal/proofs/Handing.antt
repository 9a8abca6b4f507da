-- What is done on the connections without a message of the job's: octets are handed out or noted as taken, and pings are sent.
use Rattle.std.proofs.Common.{◌≡◌, ℕ, List, ◌∷◌, sym, ◌∙◌, subst}
use Rattle.world.specs.declared.chan.Chan.{Chan}
use Rattle.world.specs.declared.chan.Chan.TheVariants as chan
use Rattle.world.specs.declared.entry.Entry.{Entry}
use Rattle.kernel_lines.specs.Happened.{Given, History}
use Rattle.kernel_lines.specs.Line.{StandsFor, role_of}
use Rattle.kernel_lines.specs.Lines.{OthersStay, line_on}
use Rattle.kernel_lines.specs.declared.line.Line.{Line}
use Rattle.kernel_lines.specs.declared.lines.Lines.{Lines}
use Rattle.cell_core.specs.declared.event.Event.{Event}
use Rattle.run_journal.specs.Job.{Job}
use Rattle.run_journal.specs.Jupyter.{Speaker}
use Rattle.run_journal.specs.Queue.{Queued}
use Rattle.job_journal.specs.Line.{OnLine}
use Rattle.job_journal.specs.Plot.{Plot, facts, speaker}
use Rattle.job_journal.specs.Standing.{Hands, Parts, Reads, OnLines, StandsBy}

module _ (s : Speaker) (j : Job) (old new : Lines) (unsent : List Queued) (now : List Entry) where
  other_line : (c : Chan) → line_on new c ≡ line_on old c → OnLine s j c (line_on old c) unsent now → OnLine s j c (line_on new c) unsent now
  other_line c e l = subst (λ (x : Line). OnLine s j c x unsent now) (sym e) l

  other_reads : line_on new chan.Heart ≡ line_on old chan.Heart → Reads j chan.Heart (line_on old chan.Heart) now → Reads j chan.Heart (line_on new chan.Heart) now
  other_reads e l = subst (λ (x : Line). Reads j chan.Heart x now) (sym e) l

  own_line : (c : Chan) → Hands c old new → OnLine s j c (line_on old c) unsent now → OnLine s j c (line_on new c) unsent now
  own_line c g l =
      let h = g.stands l.past l.out l.stands in
      record { past = l.past; out = h.0; role = g.role ∙ l.role; stands = h.1; got = l.got; is = l.is }

  lines_hand : (c : Chan) → Hands c old new → OnLines s j old unsent now → OnLines s j new unsent now
  lines_hand chan.Shell g l = record {
    shell = own_line chan.Shell g l.shell;
    control = other_line chan.Control (g.others chan.Control (λ e. cc)) l.control;
    iopub = other_line chan.Iopub (g.others chan.Iopub (λ e. cc)) l.iopub;
    heart = other_reads (g.others chan.Heart (λ e. cc)) l.heart;
  }
  lines_hand chan.Control g l = record {
    shell = other_line chan.Shell (g.others chan.Shell (λ e. cc)) l.shell;
    control = own_line chan.Control g l.control;
    iopub = other_line chan.Iopub (g.others chan.Iopub (λ e. cc)) l.iopub;
    heart = other_reads (g.others chan.Heart (λ e. cc)) l.heart;
  }
  lines_hand chan.Iopub g l = record {
    shell = other_line chan.Shell (g.others chan.Shell (λ e. cc)) l.shell;
    control = other_line chan.Control (g.others chan.Control (λ e. cc)) l.control;
    iopub = own_line chan.Iopub g l.iopub;
    heart = other_reads (g.others chan.Heart (λ e. cc)) l.heart;
  }
  lines_hand chan.Heart g l =
      let h = g.stands l.heart.past l.heart.out l.heart.stands in
      record {
        shell = other_line chan.Shell (g.others chan.Shell (λ e. cc)) l.shell;
        control = other_line chan.Control (g.others chan.Control (λ e. cc)) l.control;
        iopub = other_line chan.Iopub (g.others chan.Iopub (λ e. cc)) l.iopub;
        heart = record { past = l.heart.past; out = h.0; role = g.role ∙ l.heart.role; stands = h.1; got = l.heart.got };
      }

  lines_ping : (parts : List (List ℕ)) → OthersStay chan.Heart old new → role_of (line_on new chan.Heart) ≡ role_of (line_on old chan.Heart)
      → ((h : History) (out : List ℕ) → StandsFor (line_on old chan.Heart) h out → StandsFor (line_on new chan.Heart) (Given parts ∷ h) out)
      → OnLines s j old unsent now → OnLines s j new unsent now
  lines_ping parts others role stands l = record {
    shell = other_line chan.Shell (others chan.Shell (λ e. cc)) l.shell;
    control = other_line chan.Control (others chan.Control (λ e. cc)) l.control;
    iopub = other_line chan.Iopub (others chan.Iopub (λ e. cc)) l.iopub;
    heart = record { past = Given parts ∷ l.heart.past; out = l.heart.out; role = role ∙ l.heart.role; stands = stands l.heart.past l.heart.out l.heart.stands; got = l.heart.got };
  }

-- other connections that stand for the same
with_lines : (p : Plot) (number : ℕ) (x : Parts) (unsent : List Queued) (pending : List Event) (now : List Entry) (lines : Lines) → StandsBy p number x unsent pending now
    → OnLines (speaker p) (facts p) lines unsent now → StandsBy p number (record x { lines = lines }) unsent pending now
with_lines p number x unsent pending now lines h l = record {
  undated = h.undated;
  is_for = h.is_for;
  lines = l;
  talk = h.talk;
  shell_seen = h.shell_seen;
  iopub_seen = h.iopub_seen;
  book = h.book;
  request = h.request;
  sent = h.sent;
  core = h.core;
  made = h.made;
  ready = h.ready;
  clock = h.clock;
}

-- octets are handed out, or noted as taken
pub hands_out : (p : Plot) (number : ℕ) (x : Parts) (unsent : List Queued) (pending : List Event) (now : List Entry) (c : Chan) (lines : Lines) → Hands c x.lines lines
    → StandsBy p number x unsent pending now → StandsBy p number (record x { lines = lines }) unsent pending now
hands_out p number x unsent pending now c lines g h =
    with_lines p number x unsent pending now lines h (lines_hand (speaker p) (facts p) x.lines lines unsent now c g h.lines)

-- a message is sent on the heartbeat
pub sends_ping : (p : Plot) (number : ℕ) (x : Parts) (unsent : List Queued) (pending : List Event) (now : List Entry) (lines : Lines) (parts : List (List ℕ))
    → OthersStay chan.Heart x.lines lines → role_of (line_on lines chan.Heart) ≡ role_of (line_on x.lines chan.Heart)
    → ((h : History) (out : List ℕ) → StandsFor (line_on x.lines chan.Heart) h out → StandsFor (line_on lines chan.Heart) (Given parts ∷ h) out)
    → StandsBy p number x unsent pending now → StandsBy p number (record x { lines = lines }) unsent pending now
sends_ping p number x unsent pending now lines parts others role stands h =
    with_lines p number x unsent pending now lines h (lines_ping (speaker p) (facts p) x.lines lines unsent now parts others role stands h.lines)
