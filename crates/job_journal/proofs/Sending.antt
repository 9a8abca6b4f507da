-- The request that stands is sent.
use Rattle.std.proofs.Common.{◌≡◌, ℕ, ◌+◌, List, [], ◌∷◌, ◌++◌, length, map, Some, refl, sym, ◌∙◌, ap, subst, arith, length-append}
use Rattle.std.specs.Prelude.{slice_index}
use Rattle.world.specs.declared.chan.Chan.{Chan}
use Rattle.world.specs.declared.chan.Chan.TheVariants as chan
use Rattle.world.specs.declared.entry.Entry.{Entry}
use Rattle.world.specs.Places.{time}
use Rattle.kernel_talk.specs.Requests.{Identity, message_id}
use Rattle.kernel_lines.specs.Happened.{Given}
use Rattle.kernel_lines.specs.Line.{StandsFor}
use Rattle.kernel_lines.specs.Lines.{OthersStay, line_on}
use Rattle.kernel_lines.specs.declared.line.Line.{Line}
use Rattle.kernel_lines.specs.declared.lines.Lines.{Lines}
use Rattle.out_fold.specs.declared.used.Used.{Used}
use Rattle.out_fold.specs.Cells.{begin}
use Rattle.job_notebook.specs.declared.notebook.JobNotebook.{JobNotebook}
use Rattle.job_notebook.specs.State.{Keeps}
use Rattle.run_journal.specs.Codec.{Arrival, Execute}
use Rattle.run_journal.specs.Job.{Job}
use Rattle.run_journal.specs.Jupyter.{Speaker}
use Rattle.run_journal.specs.Requests.{Request, as_used, first as first_of_list, last_request, reply_date, requests, through_idle, use_of, used_of}
use Rattle.run_journal.specs.Queue.{Queued}
use Rattle.job_journal.specs.Line.{OnLine, parts_of}
use Rattle.job_journal.specs.Plot.{Plot, facts, speaker, first, IsFor}
use Rattle.job_journal.specs.Standing.{Parts, Reads, StandsBy, IsNext, IsToSend, Sends, executes}
use Rattle.job_journal.specs.Used.{OnRequest, last}
use Rattle.job_journal.proofs.Books.{last_after, used_append}
use Rattle.job_journal.proofs.Lines.{line_sends, line_skips}
use Rattle.job_journal.proofs.Talks.{talk_makes}

-- nothing was used yet for a request for which nothing has come
use_none : (i : ℕ) (r : Request) → r.io ≡ [] → r.replies ≡ [] → use_of i r ≡ begin i
use_none i r io replies =
    ap (λ (ms : List Arrival). record { cell = i; own = map as_used (through_idle ms); reply = reply_date (first_of_list r.replies) }) io
    ∙ ap (λ (ms : List (Arrival × ℕ)). record { cell = i; own = []; reply = reply_date (first_of_list ms) }) replies

module _ (j : Job) (cell : ℕ) (earlier : List Request) (r : Request) (now : List Entry) (n : IsNext j cell earlier r now) where
  -- its cell is begun behind what was used before
  pub used_next : used_of j.task.plan (requests j now) ≡ used_of j.task.plan earlier ++ begin cell ∷ []
  used_next =
      ap (used_of j.task.plan) n.stands
      ∙ used_append j.task.plan earlier r n.planned
      ∙ ap (λ u. used_of j.task.plan earlier ++ u ∷ []) (use_none (slice_index j.task.plan (length earlier)) r n.io n.replies)
      ∙ ap (λ i. used_of j.task.plan earlier ++ begin i ∷ []) (sym n.cell_is)

  -- it is the request that the job has
  pub request_next : (id : List ℕ) → id ≡ j.msg_id r.number → OnRequest j (Some (record { id = id; cell = cell })) (requests j now)
  request_next id e =
      let z : 0 + length earlier ≡ length earlier = omega arith in
      last (length earlier) r (ap (last_request 0) n.stands ∙ last_after 0 earlier r ∙ ap (λ i. Some (i, r)) z) e n.cell_is

-- a message is sent on a connection other than that of shell, and the message that is unsent goes on shell
module _ (s : Speaker) (j : Job) (old new : Lines) (q : Queued) (now : List Entry) (others : OthersStay chan.Shell old new) where
  pub other_stays : (c : Chan) → line_on new c ≡ line_on old c → OnLine s j c (line_on old c) [] now → OnLine s j c (line_on new c) [] now
  other_stays c e l = subst (λ (x : Line). OnLine s j c x [] now) (sym e) l

  pub heart_stays : Reads j chan.Heart (line_on old chan.Heart) now → Reads j chan.Heart (line_on new chan.Heart) now
  heart_stays l = subst (λ (x : Line). Reads j chan.Heart x now) (sym (others chan.Heart (λ e. cc))) l

-- the request is sent
pub is_sent : (p : Plot) (number : ℕ) (x : Parts) (cell : ℕ) (now : List Entry) (t : IsToSend p number x cell now) (lines : Lines) (session : Identity) (book : JobNotebook) (id : List ℕ)
    → IsFor p number session x.core book → Sends x.lines lines (parts_of (speaker p) (Execute (length t.earlier)) session.made x.clock)
    → session.made ≡ x.session.made + 1 → id ≡ message_id session.name session.made
    → ((us : List Used) → Keeps x.book (first p) us → Keeps book (first p) (us ++ begin cell ∷ []))
    → StandsBy p number
    (record x { lines = lines; session = session; book = book; request = Some (record { id = id; cell = cell }); sent = x.sent + 1 }) [] [] now
is_sent p number x cell now t lines session book id is_for sends made id_is starts =
    let j : Job = facts p in
    let s : Speaker = speaker p in
    let k : ℕ = length t.earlier in
    let q : Queued = executes k t.newest.number (time now) in
    let numbered : session.made ≡ t.newest.number = made ∙ sym t.numbered in
    let parts_are : parts_of s (Execute k) session.made x.clock ≡ parts_of s (Execute k) t.newest.number (time now)
    = ap (λ n. parts_of s (Execute k) n x.clock) numbered ∙ ap (parts_of s (Execute k) t.newest.number) t.clock in
    let l = t.lines.shell in
    let given : StandsFor (line_on lines chan.Shell) (Given (parts_of s (Execute k) t.newest.number (time now)) ∷ l.past) l.out
    = subst (λ v. StandsFor (line_on lines chan.Shell) (Given v ∷ l.past) l.out) parts_are (sends.stands l.past l.out l.stands) in
    let long : length (requests j now) ≡ k + 1 = ap (λ (rs : List Request). length rs) t.next.stands ∙ length-append t.earlier (t.newest ∷ []) in
    record {
      undated = t.undated;
      is_for = is_for;
      lines = record {
        shell = line_sends s j chan.Shell (line_on x.lines chan.Shell) (line_on lines chan.Shell) q [] now refl sends.role l given;
        control = other_stays s j x.lines lines q now sends.others chan.Control (sends.others chan.Control (λ e. cc))
            (line_skips s j chan.Control (line_on x.lines chan.Control) q [] now refl t.lines.control);
        iopub = other_stays s j x.lines lines q now sends.others chan.Iopub (sends.others chan.Iopub (λ e. cc))
            (line_skips s j chan.Iopub (line_on x.lines chan.Iopub) q [] now refl t.lines.iopub);
        heart = heart_stays s j x.lines lines q now sends.others t.lines.heart;
      };
      talk = talk_makes j x.asking x.session session q [] now refl made t.talk;
      shell_seen = t.shell_seen;
      iopub_seen = t.iopub_seen;
      book = record { keeps = subst (Keeps book (first p)) (sym (used_next j cell t.earlier t.newest now t.next)) (starts (used_of j.task.plan t.earlier) t.book.keeps) };
      request = request_next j cell t.earlier t.newest now t.next id
          (id_is ∙ ap (λ name. message_id name session.made) is_for.session_is ∙ ap (message_id p.setting.session) numbered);
      sent = ap (λ n. n + 1) t.sent ∙ sym long;
      core = t.core;
      made = t.made;
      ready = t.ready;
      clock = t.clock;
    }
