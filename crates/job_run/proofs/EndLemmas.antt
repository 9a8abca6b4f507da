-- What stands of a job where its execution ends it, by its end.
use Rattle.std.proofs.Common.{◌≡◌, ℕ, ◌+◌, ◌≤◌, zero, suc, arith, true, false, List, [], ◌∷◌, ◌++◌, length, Option, Some, None, refl, sym, ◌∙◌, ap, subst}
use Rattle.std.specs.Prelude.{codes, slice_index}
use Rattle.std.proofs.Math.Bool.{true≢false}
use Rattle.std.proofs.lemmas.Bool.{and_parts, cond-true}
use Rattle.std.proofs.lemmas.Option.{same_Some}
use Rattle.jtext.specs.Print.{quote}
use Rattle.jcontent.specs.declared.content.Content.{Content}
use Rattle.jcontent.specs.declared.content.Content.TheVariants as content
use Rattle.jcontent.specs.declared.reply.ReplyIs.TheVariants as reply_is
use Rattle.world.specs.declared.chan.Chan.{Chan}
use Rattle.world.specs.declared.chan.Chan.TheVariants as chan
use Rattle.world.specs.declared.entry.Entry.{Entry}
use Rattle.world.specs.Moments.{Since}
use Rattle.said_lines.specs.Lines.{spoken_line}
use Rattle.zmtp_wire.specs.declared.fault.WireFault.{WireFault}
use Rattle.cell_core.specs.declared.why.Why.{Why}
use Rattle.cell_core.specs.declared.why.Why.TheVariants as why
use Rattle.cell_core.specs.Task.{cell_of}
use Rattle.job_end.specs.declared.answer.Answer.{Answer}
use Rattle.job_end.specs.declared.end.End.{End}
use Rattle.job_end.specs.declared.end.End.TheVariants as end
use Rattle.job_end.specs.Answers.{Answers, said, starved, starved_answer}
use Rattle.job_end.specs.Reasons.{line_of, of_cell}
use Rattle.job_end.specs.Statuses.{status_of}
use Rattle.job_saves.specs.Course.{IsEndOfSave}
use Rattle.run_journal.specs.Codec.{Arrival}
use Rattle.run_journal.specs.Ends.{BadPeer, index_or_zero, name_in, name_of, reason, stopping_cell}
use Rattle.run_journal.specs.Job.{Job}
use Rattle.run_journal.specs.Requests.{Request as Asked, first as first_of, is_fatal, is_over, last_request, reply, requests}
use Rattle.run_journal.specs.Saves.{Save, last_cell, run_saves}
use Rattle.run_journal.specs.Why.{is_error}
use Rattle.run_journal.proofs.Growth.{begins_self}
use Rattle.run_journal.proofs.Safety.{few_requests}
use Rattle.job_journal.specs.Ended.{HasAnswered, HasStoppedFor, IsStopSaid, NamesBroken, SaysCause, bad_with, cause_of}
use Rattle.job_journal.specs.Plot.{Plot, facts}
use Rattle.job_journal.specs.Quiet.{IsQuietNow}
use Rattle.job_journal.specs.Standing.{HasEndedAs}
use Rattle.job_journal.specs.Used.{OnRequest, Sent, last, nothing}
use Rattle.job_journal.proofs.Ended.{answered_on}
use Rattle.job_run.proofs.NotedLemmas.{place}
use Rattle.job_run.specs.declared.execution.Execution.{Execution}
use Rattle.job_run.specs.declared.request.Request.{Request}
use Rattle.job_run.specs.Standing.{EndsSo, IsToStop, NotesBroken, NotesErrorOf, error_by, error_in, sent_of}
use Rattle.job_run.specs.Stopping.{IsPeerEnd, IsStopBy, cell_in, name_noted, or_empty}
use Rattle.job_run.specs.Told.{IsEndOfLaunch, IsOutside}

-- ---- an end that names no cause

no_cause : {A : Type 0} (o : Option Why) (cause : Why) → o ≡ None → o ≡ Some cause → A
no_cause o cause none is = let both : None ≡ Some cause = sym none ∙ is in absurd (cc)

-- an answer that names no cause
pub uncaused_answer : (p : Plot) (a : Answer) (now : List Entry) → cause_of a.status ≡ None → HasEndedAs p now → HasAnswered p a now
uncaused_answer p a now none h = record { ended = h; stopped = λ cause is. no_cause (cause_of a.status) cause none is }

by_answer : (p : Plot) (e : End) (a : Answer) (now : List Entry) → cause_of (status_of e) ≡ None → HasEndedAs p now → Answers p.ask.output e a → HasAnswered p a now
by_answer p e _ now none h said = uncaused_answer p (record { status = status_of e; line = line_of p.ask.output e }) now none h
by_answer p e _ now none h starved = uncaused_answer p starved_answer now refl h

pub uncaused_ends : (p : Plot) (e : End) (now : List Entry) → cause_of (status_of e) ≡ None → HasEndedAs p now → EndsSo p e now
uncaused_ends p e now none h = λ a answers. by_answer p e a now none h answers

-- for want of memory
pub starved_so : (p : Plot) (now : List Entry) → HasEndedAs p now → EndsSo p end.NoMemory now
starved_so p now h = uncaused_ends p end.NoMemory now refl h

save_uncaused : (e : End) → IsEndOfSave e → cause_of (status_of e) ≡ None
save_uncaused (end.NotSaved f) h = refl
save_uncaused end.NoMemory h = refl
save_uncaused _ h = absurd h

-- by a save
pub unsaved_so : (p : Plot) (e : End) (now : List Entry) → IsEndOfSave e → HasEndedAs p now → EndsSo p e now
unsaved_so p e now own h = uncaused_ends p e now (save_uncaused e own) h

launch_uncaused : (e : End) → IsEndOfLaunch e → cause_of (status_of e) ≡ None
launch_uncaused end.NotStarted h = refl
launch_uncaused end.NoConnectionFile h = refl
launch_uncaused end.NetFault h = refl
launch_uncaused end.NoMemory h = refl
launch_uncaused _ h = absurd h

-- by the start of the kernel
pub unstarted_so : (p : Plot) (e : End) (now : List Entry) → IsEndOfLaunch e → HasEndedAs p now → EndsSo p e now
unstarted_so p e now own h = uncaused_ends p e now (launch_uncaused e own) h

outside_uncaused : (e : End) → IsOutside e → cause_of (status_of e) ≡ None
outside_uncaused end.NetFault h = refl
outside_uncaused end.Spent h = refl
outside_uncaused _ h = absurd h

-- from outside
pub outside_so : (p : Plot) (e : End) (now : List Entry) → IsOutside e → HasEndedAs p now → EndsSo p e now
outside_so p e now outside h = uncaused_ends p e now (outside_uncaused e outside) h

-- ---- whichever end

-- the texts that were saved are the first of the saves that are due
pub so_ended : (p : Plot) (e : End) (now : List Entry) → EndsSo p e now → HasEndedAs p now
so_ended p e now h = (h starved_answer starved).ended

-- quiet entries change nothing
pub so_on : (p : Plot) (e : End) (before now : List Entry) → (facts p).task.times.interrupt ≡ false → Since (IsQuietNow (facts p)) before now → EndsSo p e before → EndsSo p e now
so_on p e before now plain w h = λ a answers. answered_on p a before now plain w (h a answers)

-- ---- a stop

pub stopped_ended : (p : Plot) (cause : Why) (now : List Entry) → HasStoppedFor p cause now → HasEndedAs p now
stopped_ended p cause now h =
    let due : List Save = run_saves (facts p) (requests (facts p) now) (Some cause) in
    record { cause = Some cause; count = length due; made = record { made = due; texts = h.texts; counted = refl; are_first = begins_self due } }

-- the cell of the last request is the one at which the job stops
last_index : (plan : List ℕ) (n : ℕ) (rs : List Asked) (k : ℕ) (r : Asked) → last_request n rs ≡ Some (k, r) → (m : ℕ) × (k ≡ n + m) × (length rs ≡ suc m)
last_index plan n [] k r e = absurd (cc)
last_index plan n (x ∷ []) k r e =
    let both : place n x ≡ place k r = same_Some (place n x) (place k r) e in
    let same : n ≡ k = ap (λ (v : ℕ × Asked). v.0) both in
    (0, omega (arith, same), refl)
last_index plan n (x ∷ y ∷ rs) k r e =
    let l = last_index plan (n + 1) (y ∷ rs) k r e in
    let at : k ≡ (n + 1) + l.0 = l.1 in
    (suc l.0, omega (arith, at), ap (λ m. suc m) l.2)

cell_at : (plan : List ℕ) (rs : List Asked) (m : ℕ) → length rs ≡ suc m → length rs ≤ length plan → index_or_zero (last_cell plan rs) ≡ slice_index plan m
cell_at [] [] m l few = absurd (cc)
cell_at [] (x ∷ rs) m l few = absurd (omega (arith, few))
cell_at (i ∷ plan) [] m l few = absurd (cc)
cell_at (i ∷ plan) (x ∷ []) zero l few = refl
cell_at (i ∷ plan) (x ∷ []) (suc m) l few = absurd (omega (arith, l))
cell_at (i ∷ plan) (x ∷ y ∷ rs) zero l few = absurd (omega (arith, l))
cell_at (i ∷ plan) (x ∷ y ∷ rs) (suc m) l few = cell_at plan (y ∷ rs) m (omega (arith, l)) (omega (arith, few))

no_cell : (plan : List ℕ) → index_or_zero (last_cell plan []) ≡ 0
no_cell [] = refl
no_cell (i ∷ plan) = refl

cell_by : (j : Job) (o : Option Sent) (rs : List Asked) (cell : ℕ) → OnRequest j o rs → length rs ≤ length j.task.plan → ((sent : Sent) → o ≡ Some sent → cell ≡ sent.cell) → (o ≡ None → cell ≡ 0)
    → cell ≡ index_or_zero (last_cell j.task.plan rs)
cell_by j None rs cell nothing few some none = none refl ∙ sym (no_cell j.task.plan)
cell_by j (Some sent) rs cell (last k r f id at) few some none =
    let l = last_index j.task.plan 0 rs k r f in
    let same : k ≡ l.0 = (let n : k ≡ 0 + l.0 = l.1 in omega (arith, n)) in
    some sent refl ∙ at ∙ ap (cell_of j.task) same ∙ sym (cell_at j.task.plan rs l.0 l.2 few)

sent_cell : (o : Option Request) (sent : Sent) → sent_of o ≡ Some sent → cell_in o ≡ sent.cell
sent_cell None sent e = absurd (cc)
sent_cell (Some r) sent e = ap (λ (s : Sent). s.cell) (same_Some (record { id = r.id; cell = r.cell }) sent e)

unsent_cell : (o : Option Request) → sent_of o ≡ None → cell_in o ≡ 0
unsent_cell None e = refl
unsent_cell (Some r) e = absurd (cc)

-- the exception that is noted is the one that the last reply names, where it stops the run
no_name : (c : Content) → or_empty (error_in c) ≡ name_in c
no_name (content.ExecReply (reply_is.Error ename)) = refl
no_name (content.ExecReply reply_is.Fine) = refl
no_name _ = refl

named_by : (j : Job) (k : ℕ) (m : Arrival × ℕ) (error : Option (List ℕ)) → j.fatal k m.0.content ≡ true → error ≡ error_by j k (Some m) → or_empty error ≡ name_in m.0.content
named_by j k m error fatal is = ap or_empty (is ∙ cond-true (j.fatal k m.0.content) (error_in m.0.content) None fatal) ∙ no_name m.0.content

name_at : (j : Job) (k : ℕ) (q : Asked) (xs : List (Arrival × ℕ)) (error : Option (List ℕ)) → is_fatal j k (first_of xs) ≡ true → error ≡ error_by j k (first_of xs)
    → or_empty error ≡ name_of (Some (k, record q { replies = xs }))
name_at j k q [] error fatal e = absurd (true≢false (sym fatal))
name_at j k q (m ∷ xs) error fatal e = named_by j k m error fatal e

name_by : (j : Job) (request : Option Request) (rs : List Asked) (k : ℕ) (q : Asked) → OnRequest j (sent_of request) rs → last_request 0 rs ≡ Some (k, q) → NotesErrorOf j request k q
    → is_fatal j k (reply q) ≡ true → name_noted request ≡ name_of (Some (k, q))
name_by j None [] k q on at noted fatal = absurd (cc)
name_by j None (x ∷ rs) k q on at noted fatal = elim on [ ]
name_by j (Some r) rs k q on at noted fatal = name_at j k q q.replies r.error fatal (noted r refl)

-- the stream that broke
peer_line : (output : List ℕ) (c : Chan) (f : WireFault) → line_of output (end.BadPeer c f) ≡ spoken_line output (reason (BadPeer (bad_with c f)))
peer_line output chan.Shell f = refl
peer_line output chan.Control f = refl
peer_line output chan.Iopub f = refl
peer_line output chan.Heart f = refl

peer_named : (broken : Option (Chan × WireFault)) (e : End) → IsPeerEnd broken e → cause_of (status_of e) ≡ Some why.BadPeer
peer_named None e is = absurd is
peer_named (Some b) e is = ap (λ k. cause_of (status_of k)) is

peer_says : (p : Plot) (broken : Option (Chan × WireFault)) (now : List Entry) (e : End) → NotesBroken (facts p) broken now → IsPeerEnd broken e → NamesBroken p (line_of p.ask.output e) now
peer_says p broken now e n is =
    let named : e ≡ end.BadPeer n.chan n.fault = subst (λ o. IsPeerEnd o e) n.noted is in
    record { bad = bad_with n.chan n.fault; broken = n.is; says = ap (line_of p.ask.output) named ∙ peer_line p.ask.output n.chan n.fault }

module _ (p : Plot) (x : Execution) (now : List Entry) where
  abbrev rs : List Asked
  rs = requests (facts p) now

  cell_is : (cause : Why) → IsToStop p x cause now → cell_in x.request ≡ stopping_cell (facts p) now
  cell_is cause t = cell_by (facts p) (sent_of x.request) rs (cell_in x.request) t.request (few_requests (facts p) now).1 (sent_cell x.request) (unsent_cell x.request)

  name_is : IsToStop p x why.CellError now → name_noted x.request ≡ name_of (last_request 0 rs)
  name_is t = by (last_request 0 rs) refl t.stopped.shown
    where
      by : (o : Option (ℕ × Asked)) → last_request 0 rs ≡ o → is_error (facts p) o ≡ true → name_noted x.request ≡ name_of o
      by None f e = absurd (true≢false (sym e))
      by (Some v) f e =
          name_by (facts p) x.request rs v.0 v.1 t.request f (t.noted v.0 v.1 f) (and_parts (is_over v.1) (is_fatal (facts p) v.0 (reply v.1)) e).1

  -- what the line of the end says
  says_so : (cause : Why) → IsToStop p x cause now → (e : End) → IsStopBy cause x.request x.broken e → SaysCause p cause (line_of p.ask.output e) now
  says_so why.Done t e is = ap (line_of p.ask.output) is
  says_so why.CellError t e is =
      ap (line_of p.ask.output) is
      ∙ ap (λ cell. spoken_line p.ask.output (of_cell cell (codes "error " ++ quote (name_noted x.request)))) (cell_is why.CellError t)
      ∙ ap (λ name. spoken_line p.ask.output (of_cell (stopping_cell (facts p) now) (codes "error " ++ quote name))) (name_is t)
  says_so why.NotReady t e is = ap (line_of p.ask.output) is
  says_so why.KernelLost t e is = ap (line_of p.ask.output) is
  says_so why.TimedOut t e is = ap (line_of p.ask.output) is ∙ ap (λ cell. spoken_line p.ask.output (of_cell cell (codes "timed out"))) (cell_is why.TimedOut t)
  says_so why.NoIdle t e is = ap (line_of p.ask.output) is ∙ ap (λ cell. spoken_line p.ask.output (of_cell cell (codes "no idle"))) (cell_is why.NoIdle t)
  says_so why.BadPeer t e is = peer_says p x.broken now e (t.broken refl) is

  -- its status names the cause
  named_so : (cause other : Why) (e : End) → IsStopBy cause x.request x.broken e → cause_of (status_of e) ≡ Some other → cause ≡ other
  named_so why.Done other e is f = let both : Some why.Done ≡ Some other = sym (ap (λ k. cause_of (status_of k)) is) ∙ f in cc
  named_so why.CellError other e is f = let both : Some why.CellError ≡ Some other = sym (ap (λ k. cause_of (status_of k)) is) ∙ f in cc
  named_so why.NotReady other e is f = let both : Some why.NotReady ≡ Some other = sym (ap (λ k. cause_of (status_of k)) is) ∙ f in cc
  named_so why.KernelLost other e is f = let both : Some why.KernelLost ≡ Some other = sym (ap (λ k. cause_of (status_of k)) is) ∙ f in cc
  named_so why.TimedOut other e is f = let both : Some why.TimedOut ≡ Some other = sym (ap (λ k. cause_of (status_of k)) is) ∙ f in cc
  named_so why.NoIdle other e is f = let both : Some why.NoIdle ≡ Some other = sym (ap (λ k. cause_of (status_of k)) is) ∙ f in cc
  named_so why.BadPeer other e is f = let both : Some why.BadPeer ≡ Some other = sym (peer_named x.broken e is) ∙ f in cc

  answered : (cause : Why) → IsToStop p x cause now → (e : End) → IsStopBy cause x.request x.broken e → (a : Answer) → Answers p.ask.output e a → HasAnswered p a now
  answered cause t e is _ said = record {
    ended = stopped_ended p cause now t.stopped;
    stopped = λ other f.
        subst (λ (w : Why). IsStopSaid p w (line_of p.ask.output e) now) (named_so cause other e is f) (record { stopped = t.stopped; late = t.late; says = says_so cause t e is });
  }
  answered cause t e is _ starved = uncaused_answer p starved_answer now refl (stopped_ended p cause now t.stopped)

  -- the end by which it stops the job
  pub stop_so : (cause : Why) (e : End) → IsToStop p x cause now → IsStopBy cause x.request x.broken e → EndsSo p e now
  stop_so cause e t is = λ a answers. answered cause t e is a answers
