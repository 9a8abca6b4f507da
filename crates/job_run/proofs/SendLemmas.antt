-- A request that is due is sent.
use Rattle.std.proofs.Common.{◌≡◌, inl, inr, ◌+◌, ◌<◌, ◌≤◌, arith, ℕ, ◌||◌, not, List, [], ◌∷◌, length, Some, None, Result, Ok, Err, refl, sym, ◌∙◌, ap, subst}
use Rattle.std.specs.Prelude.{codes, slice_get, IfErr, OnOk}
use Rattle.std.proofs.lemmas.Option.{same_Some, slice_get_cases}
use Rattle.world.specs.declared.chan.Chan.TheVariants.{Shell}
use Rattle.world.specs.declared.entry.Entry.{Entry}
use Rattle.nb_model.specs.declared.cell.Cell.{Cell}
use Rattle.nb_model.specs.declared.notebook.Notebook.{Notebook}
use Rattle.nb_model.specs.Planned.{code}
use Rattle.jmsg.specs.Encoded.{encode}
use Rattle.jcontent.specs.Requests.{execute}
use Rattle.kernel_talk.specs.Requests.{Identity, message_id, request}
use Rattle.kernel_lines.specs.Happened.{Given}
use Rattle.kernel_lines.specs.Line.{StandsFor}
use Rattle.kernel_lines.specs.Lines.{line_on}
use Rattle.cell_core.specs.declared.act.Act.TheVariants.{Send}
use Rattle.job_notebook.specs.State.{merge_of, notebook_of, settled_of}
use Rattle.job_end.specs.declared.end.End.{End}
use Rattle.job_end.specs.declared.end.End.TheVariants.{NoMemory}
use Rattle.run_journal.specs.Asked.{code_in, may_raise as may_raise_in}
use Rattle.run_journal.specs.Codec.{Execute}
use Rattle.run_journal.specs.Requests.{Request as Asked, first as first_of, last_request, reply, requests}
use Rattle.job_journal.specs.Line.{parts_of as message_of}
use Rattle.job_journal.specs.Plot.{Plot, IsFor, facts, first, speaker}
use Rattle.job_journal.specs.Standing.{Parts, Sends, StandsBy}
use Rattle.job_journal.proofs.Books.{last_after}
use Rattle.job_journal.proofs.Ending.{ends_sending}
use Rattle.job_journal.proofs.Plots.{for_still}
use Rattle.job_journal.proofs.Sending.{is_sent}
use Rattle.job_run.specs.declared.execution.Execution.{Execution}
use Rattle.job_run.specs.declared.request.Request.{Request}
use Rattle.job_run.specs.Said.{SendsCell, asks_for, may_raise, next_message, stops_kernel}
use Rattle.job_run.specs.Standing.{DoesAct, EndsSo, IsAskedFor, IsToSendCell, NotesError, Stands, error_by, parts_of, sent_of}
use Rattle.job_run.specs.Task.{AreTermsOf}
use Rattle.job_run.proofs.CellLemmas.{cell_as_read, waiting_as_first}
use Rattle.job_run.proofs.EndLemmas.{starved_so}
use Rattle.job_run.proofs.NotedLemmas.{place}

module _ (p : Plot) (number : ℕ) (x y : Execution) (cell : ℕ) (now : List Entry) (t : IsToSendCell p number x cell now) (above : settled_of x.book ≤ cell) (c : Cell)
    (at : slice_get (notebook_of x.book).cells cell ≡ Some c) (s : SendsCell cell c x y) where
  abbrev k : ℕ
  k = length t.parts.earlier

  as_first : slice_get (first p).cells cell ≡ Some c
  as_first =
      waiting_as_first (merge_of x.book) t.parts.book.keeps.was (settled_of x.book) cell (first p) c above
      (subst (λ (n : Notebook). slice_get n.cells cell ≡ Some c) t.parts.book.keeps.is at)

  as_read : (code c ≡ code_in (slice_get p.given.cells cell)) × (may_raise c ≡ may_raise_in (slice_get p.given.cells cell))
  as_read = cell_as_read p.given cell c as_first

  code_is : code c ≡ (speaker p).code k
  code_is = as_read.0 ∙ ap (λ i. code_in (slice_get p.given.cells i)) t.parts.next.cell_is

  stops_is : stops_kernel x.terms c ≡ (speaker p).stop_on_error k
  stops_is =
      ap (λ b. not (b || may_raise c)) t.asked.terms.errors
      ∙ ap (λ b. not (p.ask.all_errors || b)) (as_read.1 ∙ ap (λ i. may_raise_in (slice_get p.given.cells i)) t.parts.next.cell_is)

  made_is : y.session.made ≡ x.session.made + 1
  made_is = ap (λ (i : Identity). i.made) s.queued.made

  message_is : next_message x (codes "execute_request") (asks_for x.terms c) ≡ message_of (speaker p) (Execute k) y.session.made x.clock
  message_is =
      ap (λ key. encode key (request x.session.name (x.session.made + 1) x.clock (codes "execute_request") (asks_for x.terms c))) t.parts.is_for.key_is
      ∙ ap (λ name. encode p.setting.key (request name (x.session.made + 1) x.clock (codes "execute_request") (asks_for x.terms c))) t.parts.is_for.session_is
      ∙ ap (λ n. encode p.setting.key (request p.setting.session n x.clock (codes "execute_request") (asks_for x.terms c))) (sym made_is)
      ∙ ap (λ text. encode p.setting.key (request p.setting.session y.session.made x.clock (codes "execute_request") (execute text (stops_kernel x.terms c)))) code_is
      ∙ ap (λ b. encode p.setting.key (request p.setting.session y.session.made x.clock (codes "execute_request") (execute ((speaker p).code k) b))) stops_is

  sends : Sends x.lines y.lines (message_of (speaker p) (Execute k) y.session.made x.clock)
  sends = record {
    others = s.queued.others;
    role = s.queued.role;
    stands = λ h out st. subst (λ v. StandsFor (line_on y.lines Shell) (Given v ∷ h) out) message_is (s.queued.line h out st);
  }

  is_for : IsFor p number y.session x.core y.book
  is_for =
      for_still p number x.session y.session x.core x.core x.book y.book t.parts.is_for (ap (λ (i : Identity). i.name) s.queued.made) (ap (λ (i : Identity). i.key) s.queued.made) refl
      s.parts.output s.parts.merge

  id_is : s.request.id ≡ message_id y.session.name y.session.made
  id_is = s.is.id ∙ ap (λ (i : Identity). message_id i.name i.made) (sym s.queued.made)

  request_is : sent_of y.request ≡ Some (record { id = s.request.id; cell = cell })
  request_is = ap sent_of s.stands ∙ ap (λ i. Some (record { id = s.request.id; cell = i })) s.is.cell_is

  parts_are : parts_of y ≡ record (parts_of x) { lines = y.lines; session = y.session; book = y.book; request = Some (record { id = s.request.id; cell = cell }); sent = x.sent + 1 }
  parts_are =
      ap parts_of s.rest
      ∙ ap (λ r. record (parts_of x) { lines = y.lines; session = y.session; book = y.book; request = r; sent = y.sent }) request_is
      ∙ ap (λ n. record (parts_of x) { lines = y.lines; session = y.session; book = y.book; request = Some (record { id = s.request.id; cell = cell }); sent = n }) s.sent

  tagged_is : (r : Request) → y.request ≡ Some r → r.is_tagged ≡ may_raise_in (slice_get p.given.cells r.cell)
  tagged_is r e =
      let both : Some s.request ≡ Some r = sym s.stands ∙ e in
      let same : s.request ≡ r = cc in
      subst (λ (q : Request). q.is_tagged ≡ may_raise_in (slice_get p.given.cells q.cell)) same
      (s.is.tagged ∙ as_read.1 ∙ ap (λ i. may_raise_in (slice_get p.given.cells i)) (sym s.is.cell_is))

  asked : IsAskedFor p y
  asked = record { terms = subst (λ (e : Execution). AreTermsOf p.ask e.terms) (sym s.rest) t.asked.terms; tagged = tagged_is }

  -- nothing has come for it
  noted : NotesError (facts p) y.request (requests (facts p) now)
  noted = λ i q is r e.
      let both : Some s.request ≡ Some r = sym s.stands ∙ e in
      let same : s.request ≡ r = cc in
      let last_is : Some (place (0 + length t.parts.earlier) t.parts.newest) ≡ Some (place i q)
      = sym (ap (last_request 0) t.parts.next.stands ∙ last_after 0 t.parts.earlier t.parts.newest) ∙ is in
      let newest_is : t.parts.newest ≡ q = ap (λ (v : ℕ × Asked). v.1) (same_Some (place (0 + length t.parts.earlier) t.parts.newest) (place i q) last_is) in
      let none : None ≡ reply q = sym (ap first_of t.parts.next.replies) ∙ ap (λ (v : Asked). reply v) newest_is in
      ap (λ (v : Request). v.error) (sym same) ∙ s.is.calm ∙ ap (error_by (facts p) i) none

  sent_stands : Stands p number y now
  sent_stands = record {
    parts = subst (λ (q : Parts). StandsBy p number q [] [] now) (sym parts_are)
        (is_sent p number (parts_of x) cell now t.parts y.lines y.session y.book s.request.id is_for sends made_is id_is (λ us kept. s.begun (first p) us kept));
    asked = asked;
    noted = noted;
  }

-- the execution stands for the journal with it, where memory was had
pub does_send : {U : Type 0} (p : Plot) (number : ℕ) (x y : Execution) (cell : ℕ) (now : List Entry) (r : Result U End) → settled_of x.book ≤ cell → cell < length (notebook_of x.book).cells
    → OnOk r ((c : Cell) → slice_get (notebook_of x.book).cells cell ≡ Some c → SendsCell cell c x y) → IfErr r (λ e. e ≡ NoMemory) → DoesAct p number x (Send cell) y r now now
does_send p number x y cell now (Err e) above within sends starved t =
    (subst (λ (k : End). EndsSo p k now) (sym starved) (starved_so p now (ends_sending p number (parts_of x) cell now t.parts)), λ is. tt)
does_send p number x y cell now (Ok u) above within sends starved t = elim (slice_get_cases (notebook_of x.book).cells cell).1 [
  | inl f ↦ let s = sends f.0 f.2 in (sent_stands p number x y cell now t above f.0 f.2 s, λ is. inr s.sent)
  | inr f ↦ absurd (omega (arith, within, f.0))
]
