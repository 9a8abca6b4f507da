-- One message of a piece, and what the core's answer to it makes of what an execution stands for.
use Rattle.std.proofs.Common.{◌≡◌, ◌≢◌, ◌⊎◌, inl, inr, ℕ, zero, suc, ◌+◌, ◌<◌, ◌≤◌, ◌==◌, arith, Bool, true, false, ◌&&◌, List, [], ◌∷◌, ◌++◌, length, take, drop, get_or, Option, Some, None, Result, Ok, Err, refl, sym, ◌∙◌, ap, subst}
use Rattle.std.specs.Prelude.{if◌then◌else◌}
use Rattle.std.specs.Result.{IsErrAnd}
use Rattle.std.proofs.Math.Bool.{true≢false}
use Rattle.std.proofs.Math.ListN.{drop_of_length-le}
use Rattle.std.proofs.Math.Seq.{drop-cons}
use Rattle.std.proofs.lemmas.Bool.{and_parts, cases_Bool, eqb-true}
use Rattle.std.proofs.lemmas.List.{append-nil, length-map}
use Rattle.world.specs.declared.chan.Chan.{Chan}
use Rattle.world.specs.declared.chan.Chan.TheVariants.{Shell, Control, Iopub, Heart}
use Rattle.world.specs.declared.entry.Entry.{Entry}
use Rattle.jmsg.specs.declared.message.Message.{Message}
use Rattle.jcontent.specs.declared.content.Content.{Content}
use Rattle.jcontent.specs.declared.content.Content.TheVariants.{ExecReply}
use Rattle.jcontent.specs.declared.reply.ReplyIs.{ReplyIs}
use Rattle.cell_core.specs.declared.act.Act.{Act}
use Rattle.cell_core.specs.declared.act.Act.TheVariants.{Nothing, Save}
use Rattle.cell_core.specs.declared.event.Event.{Event}
use Rattle.cell_core.specs.declared.event.Event.TheVariants.{Io}
use Rattle.cell_core.specs.declared.machine.Core.{Core}
use Rattle.cell_core.specs.declared.step.Step.{Step}
use Rattle.cell_core.specs.Acts.{IsTimely, act_of, takes_of, has_stopped, heard}
use Rattle.cell_core.specs.Answering.{is_message, save_at_end}
use Rattle.cell_core.specs.Events.{came, is_broken, is_saved}
use Rattle.cell_core.specs.Requests.{Standing, standing}
use Rattle.cell_core.specs.StandsFor.{task_of, awaits_saved_of}
use Rattle.cell_core.specs.Task.{Task, cell_of}
use Rattle.cell_core.proofs.Answering.{messages_end}
use Rattle.nb_model.specs.declared.notebook.Notebook.{Notebook}
use Rattle.out_fold.specs.Cells as cells
use Rattle.job_end.specs.declared.end.End.{End}
use Rattle.job_end.specs.declared.end.End.TheVariants.{NoMemory}
use Rattle.job_notebook.specs.declared.notebook.JobNotebook.{JobNotebook}
use Rattle.job_notebook.specs.State.{Keeps, KeepsParts}
use Rattle.run_journal.specs.Arrivals.{arrive}
use Rattle.run_journal.specs.Codec.{Arrival}
use Rattle.run_journal.specs.Course.{brief_of}
use Rattle.run_journal.specs.Job.{Job}
use Rattle.run_journal.specs.Jupyter.{arrival_of}
use Rattle.run_journal.specs.Requests.{Request as Asked, goes_on as goes_with, is_exec_reply, requests}
use Rattle.job_journal.specs.Piece.{TakesBy, Within, has_ended, is_of, on_shell}
use Rattle.job_journal.specs.Plot.{Plot, IsFor, facts, first}
use Rattle.job_journal.specs.Saved.{IsAsked}
use Rattle.job_journal.specs.Standing.{HasEndedAs, Parts, StandsBy}
use Rattle.job_journal.specs.Told.{AgreesBut, Hears, is_stop}
use Rattle.job_journal.specs.Used.{OnBook, so_far}
use Rattle.job_journal.proofs.Books.{book_ends, none_anew, request_stays}
use Rattle.job_journal.proofs.Ending.{ends_standing, ends_within}
use Rattle.job_journal.proofs.Messages.{io_all, io_ends, io_goes_on, io_other, shell_all, shell_other}
use Rattle.job_journal.proofs.Pieces.{piece_facts}
use Rattle.job_journal.proofs.Plots.{for_still}
use Rattle.job_journal.proofs.Saving.{asked_save}
use Rattle.job_journal.proofs.Steps.{hears_next}
use Rattle.job_run.specs.declared.execution.Execution.{Execution}
use Rattle.job_run.specs.declared.request.Request.{Request}
use Rattle.job_run.specs.Heard.{arrivals_of, is_of as is_of_message, is_parent_of}
use Rattle.job_run.proofs.BrokenLemmas.{none_broke}
use Rattle.job_run.proofs.EndLemmas.{starved_so}
use Rattle.job_run.proofs.ListenLemmas.{arrivals_more, one_more}
use Rattle.job_run.proofs.NotedLemmas.{noted_all, noted_passes}
use Rattle.job_run.specs.Standing.{DoesAct, EndsSo, IsAskedFor, IsOwn, IsToSave, MovesOn, NotesSoFar, Stands, StandsOrEnds, StaysStill, Uses, UsesOrEnds, all_used, open_request, parts_of, sent_of, StopsLate}
use Rattle.job_run.specs.Used.{TakesEvent, UsesMessage, brief_in}
use Rattle.job_run.proofs.LateLemmas.{message_late}

-- ---- the act at a message

-- where the request isn't over nothing is to be done
pub open_act : (task : Task) (o : Option Standing) → has_ended o ≡ false → save_at_end task o ≡ Nothing
open_act task None e = refl
open_act task (Some s) e = ap (λ b. if b then Save (cell_of task s.request + 1) else Nothing) e

-- where it is over its save is to be made
pub over_act : (task : Task) (o : Option Standing) → has_ended o ≡ true → (settled : ℕ) × (save_at_end task o ≡ Save settled)
over_act task None e = absurd (cc)
over_act task (Some s) e = (cell_of task s.request + 1, ap (λ b. if b then Save (cell_of task s.request + 1) else Nothing) e)

never_stops : (task : Task) (o : Option Standing) → is_stop (save_at_end task o) ≡ false
never_stops task o = elim (cases_Bool (has_ended o)) [
  | inl t ↦ ap is_stop (over_act task o t).1
  | inr f ↦ ap is_stop (open_act task o f)
]

-- a message is told to a core that awaits no save and hasn't stopped
module _ (p : Plot) (core next : Core) (e : Event) (answer : Step) (told : List Event) (h : Hears (facts p) core told) (task_is : task_of core ≡ (facts p).task)
    (calm : awaits_saved_of core ≡ false) (message : is_message e ≡ true) (unsaved : is_saved e ≡ false) (timely : (task : Task) → IsTimely task e told) (t : TakesEvent e answer core next) where
  goes : has_stopped (task_of core) (heard (task_of core) told) ≡ false
  goes = subst (λ task. has_stopped task (heard task told) ≡ false) (sym task_is) h.goes_on

  pub message_answer : answer.act ≡ act_of (facts p).task e told
  message_answer = t.act told h.stands (timely (task_of core)) ∙ ap (λ task. act_of task e told) task_is

  pub message_act : answer.act ≡ save_at_end (facts p).task (standing (facts p).task (e ∷ told))
  message_act =
      t.act told h.stands (timely (task_of core))
      ∙ messages_end (task_of core) core.clock core.lost core.state e told h.stands.so calm goes core.later message
      ∙ ap (λ task. save_at_end task (standing task (e ∷ told))) task_is

  pub message_takes : answer.takes ≡ takes_of (facts p).task e told
  message_takes = t.takes told h.stands (timely (task_of core)) ∙ ap (λ task. takes_of task e told) task_is

  pub message_heard : Hears (facts p) next (e ∷ told)
  message_heard =
      hears_next (facts p) core next e told answer.act h task_is (unsaved ∙ sym calm) (timely (facts p).task) (t.stands told h.stands (timely (task_of core)))
      message_answer
      (ap is_stop message_act ∙ never_stops (facts p).task (standing (facts p).task (e ∷ told)))

-- ---- what is dealt with

-- What is dealt with by a message: the request goes on, and nothing is to be done; or it is over, and its save is to be made.
pub data IsDealt (p : Plot) (number : ℕ) (z : Execution) (c : Chan) (done rest : List Arrival) (entry : Entry) (past : List Entry) : Act → Type 0 where
  goes_on : Within p number (parts_of z) c done rest entry past → NotesSoFar (facts p) z.request c done past → IsDealt p number z c done rest entry past Nothing
  saves : (settled : ℕ) → IsToSave p number z settled (entry ∷ past) → IsDealt p number z c done rest entry past (Save settled)

-- by whether the request is over with it
pub dealt : (p : Plot) (number : ℕ) (z : Execution) (c : Chan) (done rest : List Arrival) (entry : Entry) (past : List Entry) (o : Option Standing) (act : Act) → act ≡ save_at_end (facts p).task o
    → NotesSoFar (facts p) z.request c done past → (has_ended o ≡ false → Within p number (parts_of z) c done rest entry past)
    → (has_ended o ≡ true → (settled : ℕ) → act ≡ Save settled → IsToSave p number z settled (entry ∷ past)) → IsDealt p number z c done rest entry past act
dealt p number z c done rest entry past o act act_is noted on over = elim (cases_Bool (has_ended o)) [
  | inl t ↦
      let s = over_act (facts p).task o t in
      subst (IsDealt p number z c done rest entry past) (sym (act_is ∙ s.1)) (saves s.0 (over t s.0 (act_is ∙ s.1)))
  | inr f ↦ subst (IsDealt p number z c done rest entry past) (sym (act_is ∙ open_act (facts p).task o f)) (goes_on (on f) noted)
]

-- the request that stood when the piece came isn't the one that stands
pub left_by : (z y : Execution) (before : ℕ) → z.sent ≡ before → MovesOn z y → (y.request ≡ None) ⊎ (y.sent ≢ before)
left_by z y before same (inl gone) = inl gone
left_by z y before same (inr one) = inr (λ e. omega (arith, e, one, same))

-- the act that answers a message is done
pub dealt_does : {U : Type 0} (p : Plot) (number : ℕ) (z y : Execution) (standing : ℕ) (c : Chan) (done rest : List Arrival) (entry : Entry) (past after : List Entry) (r : Result U End) (act : Act)
    → IsDealt p number z c done rest entry past act → z.sent ≡ standing → IsAskedFor p z → DoesAct p number z act y r (entry ∷ past) after
    → (act ≡ Nothing → StaysStill z y r) → (act ≡ Nothing → after ≡ entry ∷ past) → UsesOrEnds p number y r standing c done rest after
dealt_does p number z y standing c done rest entry past after (Ok u) act (goes_on w noted) same asked does still journal =
    subst (λ k. Uses p number k standing c done rest after) (sym (still refl).same) (subst (Uses p number z standing c done rest) (sym (journal refl)) (open_request same w asked noted))
dealt_does p number z y standing c done rest entry past after (Err e) act (goes_on w noted) same asked does still journal = absurd (still refl).no_end
dealt_does p number z y standing c done rest entry past after (Ok u) act (saves settled t) same asked does still journal =
    let d = does t in all_used d.0 (left_by z y standing same (d.1 refl))
dealt_does p number z y standing c done rest entry past after (Err e) act (saves settled t) same asked does still journal = (does t).0

-- wherever a job ends in the midst of a piece, the saves that were made are the first that are due
uses_end : (p : Plot) (number : ℕ) (x : Execution) (standing : ℕ) (c : Chan) (done rest : List Arrival) (now : List Entry) → Uses p number x standing c done rest now → HasEndedAs p now
uses_end p number x standing c done rest now (open_request {entry} {past} same w asked noted) = ends_within p number (parts_of x) c done rest entry past w
uses_end p number x standing c done rest now (all_used s left) = ends_standing p number (parts_of x) [] [] now s.parts

-- so it ends for want of memory
pub uses_starved : (p : Plot) (number : ℕ) (x : Execution) (standing : ℕ) (c : Chan) (done rest : List Arrival) (now : List Entry) → Uses p number x standing c done rest now → EndsSo p NoMemory now
uses_starved p number x standing c done rest now u = starved_so p now (uses_end p number x standing c done rest now u)

-- a message is of the request that stands, by its parts
pub parent_is : (o : Option Request) (parent : Option (List ℕ)) → is_of (sent_of o) parent ≡ is_parent_of o parent
parent_is None parent = refl
parent_is (Some r) None = refl
parent_is (Some r) (Some id) = refl

-- a message of the request that stands is no message of another
module _ (m : Arrival) (standing : ℕ) (content : Content) (date : Option (List ℕ)) (x : Execution) (own : IsOwn m standing content date x) where
  pub own_left : (x.request ≡ None) ⊎ (x.sent ≢ standing) → ⊥
  own_left (inl gone) = true≢false (sym own.parent ∙ ap (λ o. is_parent_of o m.parent) gone)
  own_left (inr other) = other own.sent

-- ---- a message on IOPub

takes_by : (takes : Bool) (content : Content) (date : Option (List ℕ)) (given : Notebook) (old new : JobNotebook) (m : Arrival) → content ≡ m.content → date ≡ m.date
    → (takes ≡ false → new ≡ old) → UsesMessage takes content date old new → TakesBy takes given old new m
takes_by true content date given old new m content_is date_is still uses = λ us u k.
    subst (λ d. Keeps new given (us ++ cells.with_message u m.content d ∷ [])) date_is
    (subst (λ v. Keeps new given (us ++ cells.with_message u v date ∷ [])) content_is (uses given us u k))
takes_by false content date given old new m content_is date_is still uses = still refl

module _ (p : Plot) (number : ℕ) (x : Execution) (standing_then : ℕ) (done rest : List Arrival) (m : Arrival) (content : Content) (date : Option (List ℕ))
    (own : IsOwn m standing_then content date x) (core : Core) (answer : Step) (book : JobNotebook) (took : TakesEvent (Io (brief_in content)) answer x.core core)
    (calm : awaits_saved_of x.core ≡ false) (parts : KeepsParts x.book book) (still : answer.takes ≡ false → book ≡ x.book)
    (uses : UsesMessage answer.takes content date x.book book) where
  abbrev e : Event
  e = Io (brief_of m)

  abbrev z : Execution
  z = record x { core = core; book = book }

  taken : TakesEvent e answer x.core core
  taken = subst (λ (v : Content). TakesEvent (Io (brief_in v)) answer x.core core) own.content_is took

  module _ (entry : Entry) (past : List Entry) (w : Within p number (parts_of x) Iopub done (m ∷ rest) entry past) (asked : IsAskedFor p x)
      (noted : NotesSoFar (facts p) x.request Iopub done past) where
    abbrev told : List Event
    told = w.core.told

    act_is : answer.act ≡ save_at_end (facts p).task (standing (facts p).task (e ∷ told))
    act_is = message_act p x.core core e answer told w.core.hears w.is_for.task_is calm refl refl (λ task. tt) taken

    answered : answer.act ≡ act_of (facts p).task e told
    answered = message_answer p x.core core e answer told w.core.hears w.is_for.task_is calm refl refl (λ task. tt) taken

    takes_is : answer.takes ≡ takes_of (facts p).task e told
    takes_is = message_takes p x.core core e answer told w.core.hears w.is_for.task_is calm refl refl (λ task. tt) taken

    hears : Hears (facts p) core (e ∷ told)
    hears = message_heard p x.core core e answer told w.core.hears w.is_for.task_is calm refl refl (λ task. tt) taken

    is_for : IsFor p number x.session core book
    is_for = for_still p number x.session x.session x.core core x.book book w.is_for refl refl took.same parts.output parts.merge

    used : TakesBy answer.takes (first p) x.book book m
    used = takes_by answer.takes content date (first p) x.book book m own.content_is own.date_is still uses

    mine : is_of (sent_of x.request) m.parent ≡ true
    mine = parent_is x.request m.parent ∙ own.parent

    over : has_ended (standing (facts p).task (e ∷ told)) ≡ true → (settled : ℕ) → answer.act ≡ Save settled → IsToSave p number z settled (entry ∷ past)
    over t settled is =
        let two = io_ends p number (parts_of x) m done rest entry past w core book answer.takes mine is_for hears takes_is used t in
        record {
          stands = record {
            parts = two.0;
            asked = record { terms = asked.terms; tagged = asked.tagged };
            noted = noted_all p number (parts_of x) Iopub done (m ∷ rest) entry past w x.request done refl noted;
          };
          due = subst (λ es. IsAsked (facts p).task es settled) (sym two.1) (asked_save (facts p) told e settled w.core.hears.goes_on (sym answered ∙ is));
          late = subst (λ es. StopsLate p es (entry ∷ past)) (sym two.1) (message_late p x.core told e (entry ∷ past) w.core.hears w.is_for.task_is calm refl t);
          broken = λ f. none_broke (facts p) x.core told w.core.hears w.is_for.task_is calm e refl (ap (came is_broken) (sym two.1) ∙ f);
        }

    io_dealt : IsDealt p number z Iopub (done ++ m ∷ []) rest entry past answer.act
    io_dealt =
        dealt p number z Iopub (done ++ m ∷ []) rest entry past (standing (facts p).task (e ∷ told)) answer.act act_is noted
        (λ off. io_goes_on p number (parts_of x) m done rest entry past w core book answer.takes mine is_for hears takes_is used off) over

  -- it is dealt with, and what it asks for is done
  pub io_deals : {U : Type 0} (r : Result U End) (y : Execution) (before after : List Entry) → DoesAct p number z answer.act y r before after
      → (answer.act ≡ Nothing → StaysStill z y r) → (answer.act ≡ Nothing → after ≡ before) → Uses p number x standing_then Iopub done (m ∷ rest) before
      → UsesOrEnds p number y r standing_then Iopub (done ++ m ∷ []) rest after
  io_deals r y before after does stays journal (open_request {entry} {past} same w asked noted) =
      dealt_does p number z y standing_then Iopub (done ++ m ∷ []) rest entry past after r answer.act (io_dealt entry past w asked noted) same (record { terms = asked.terms; tagged = asked.tagged })
      does stays journal
  io_deals r y before after does stays journal (all_used s left) = absurd (own_left m standing_then content date x own left)

-- ---- messages that aren't used

and_off : (b d : Bool) → d ≡ false → (b && d) ≡ false
and_off true d e = e
and_off false d e = refl

not_reply : (v : Content) → ((reply : ReplyIs) → v ≡ ExecReply reply → ⊥) → is_exec_reply v ≡ false
not_reply (ExecReply reply) none_is = absurd (none_is reply refl)
not_reply _ none_is = refl

-- a message with another content is no reply
pub unreplied : (m : Arrival) (content : Content) (own : Bool) → content ≡ m.content → ((reply : ReplyIs) → content ≡ ExecReply reply → ⊥) → (is_exec_reply m.content && own) ≡ false
unreplied m content own is none_is = ap (λ (v : Content). is_exec_reply v && own) (sym is) ∙ ap (λ b. b && own) (not_reply content none_is)

-- on control and on the heartbeat no message is used
module _ (p : Plot) (number : ℕ) (q : Parts) (done rest : List Arrival) (entry : Entry) (past : List Entry) where
  control_alike : (done_then rest_then : List Arrival) → Within p number q Control done rest entry past → Within p number q Control done_then rest_then entry past
  control_alike done_then rest_then w = record {
    k = w.k;
    r = w.r;
    last = w.last;
    steady = w.steady;
    piece = w.piece;
    iopub = w.iopub;
    shell = w.shell;
    is_open = w.is_open;
    undated = w.undated;
    is_for = w.is_for;
    lines = w.lines;
    talk = w.talk;
    shell_seen = w.shell_seen;
    iopub_seen = w.iopub_seen;
    book = w.book;
    request = w.request;
    sent = w.sent;
    core = record { told = w.core.told; hears = w.core.hears; agrees = w.core.agrees; up = w.core.up };
    knows = w.knows;
    made = w.made;
    ready = w.ready;
    clock = w.clock;
  }

  heart_alike : (done_then rest_then : List Arrival) → Within p number q Heart done rest entry past → Within p number q Heart done_then rest_then entry past
  heart_alike done_then rest_then w = record {
    k = w.k;
    r = w.r;
    last = w.last;
    steady = w.steady;
    piece = w.piece;
    iopub = w.iopub;
    shell = w.shell;
    is_open = w.is_open;
    undated = w.undated;
    is_for = w.is_for;
    lines = w.lines;
    talk = w.talk;
    shell_seen = w.shell_seen;
    iopub_seen = w.iopub_seen;
    book = w.book;
    request = w.request;
    sent = w.sent;
    core = record { told = w.core.told; hears = w.core.hears; agrees = w.core.agrees; up = w.core.up };
    knows = w.knows;
    made = w.made;
    ready = w.ready;
    clock = w.clock;
  }

-- a message that isn't used is passed over
pub passes : (p : Plot) (number : ℕ) (q : Parts) (c : Chan) (done rest : List Arrival) (m : Arrival) (entry : Entry) (past : List Entry)
    → (c ≡ Iopub → is_of q.request m.parent ≡ false) → (c ≡ Shell → (is_exec_reply m.content && is_of q.request m.parent) ≡ false)
    → Within p number q c done (m ∷ rest) entry past → Within p number q c (done ++ m ∷ []) rest entry past
passes p number q Shell done rest m entry past i s w = shell_other p number q m done rest entry past w (s refl)
passes p number q Iopub done rest m entry past i s w = io_other p number q m done rest entry past w (i refl)
passes p number q Control done rest m entry past i s w = control_alike p number q done (m ∷ rest) entry past (done ++ m ∷ []) rest w
passes p number q Heart done rest m entry past i s w = heart_alike p number q done (m ∷ rest) entry past (done ++ m ∷ []) rest w

-- what was used stays so
pub passes_over : (p : Plot) (number : ℕ) (x : Execution) (standing_then : ℕ) (c : Chan) (done rest : List Arrival) (m : Arrival) (now : List Entry)
    → (x.sent ≡ standing_then → c ≡ Iopub → is_parent_of x.request m.parent ≡ false)
    → (x.sent ≡ standing_then → c ≡ Shell → (is_exec_reply m.content && is_parent_of x.request m.parent) ≡ false)
    → Uses p number x standing_then c done (m ∷ rest) now → Uses p number x standing_then c (done ++ m ∷ []) rest now
passes_over p number x standing_then c done rest m now i s (open_request {entry} {past} same w asked noted) =
    open_request same
    (passes p number (parts_of x) c done rest m entry past (λ on. parent_is x.request m.parent ∙ i same on)
    (λ on. ap (λ b. is_exec_reply m.content && b) (parent_is x.request m.parent) ∙ s same on) w) asked
    (noted_passes p number (parts_of x) c done rest m entry past x.request (λ on. ap (λ b. is_exec_reply m.content && b) (parent_is x.request m.parent) ∙ s same on) w noted)
passes_over p number x standing_then c done rest m now i s (all_used stands left) = all_used stands left

-- one that isn't of the request that stood
pub other_passes : (p : Plot) (number : ℕ) (x : Execution) (standing_then : ℕ) (c : Chan) (done rest : List Arrival) (m : Arrival) (now : List Entry)
    → (x.sent ≡ standing_then → is_parent_of x.request m.parent ≡ false)
    → Uses p number x standing_then c done (m ∷ rest) now → Uses p number x standing_then c (done ++ m ∷ []) rest now
other_passes p number x standing_then c done rest m now off u =
    passes_over p number x standing_then c done rest m now (λ same on. off same)
    (λ same on. and_off (is_exec_reply m.content) (is_parent_of x.request m.parent) (off same)) u

-- ---- the last message

-- on control and on the heartbeat the parts stand for the journal with the piece
silent_all : (p : Plot) (number : ℕ) (q : Parts) (c : Chan) (done : List Arrival) (entry : Entry) (past : List Entry) → (w : Within p number q c done [] entry past)
    → arrive (facts p) Iopub entry past ≡ [] → arrive (facts p) Shell entry past ≡ [] → OnBook (facts p) (first p) q.book (so_far (facts p) [] [] past)
    → AgreesBut (facts p) q.core [] (entry ∷ past) → StandsBy p number q [] [] (entry ∷ past)
silent_all p number q c done entry past w i s b core =
    let j : Job = facts p in
    let given = piece_facts j c past w.piece in
    record {
      undated = w.undated;
      is_for = w.is_for;
      lines = w.lines;
      talk = w.talk;
      shell_seen = w.shell_seen;
      iopub_seen = w.iopub_seen;
      book = book_ends j (first p) q.book entry past given.acks w.steady
          (subst (λ v. OnBook j (first p) q.book (so_far j v (arrive j Shell entry past) past)) (sym i) (subst (λ v. OnBook j (first p) q.book (so_far j [] v past)) (sym s) b));
      request = request_stays j q.request entry past given.acks w.steady w.request;
      sent = w.sent ∙ sym (ap (λ (rs : List Asked). length rs) (none_anew j entry past given.acks w.steady) ∙ length-map (requests j past) (goes_with j entry past));
      core = core;
      made = w.made;
      ready = w.ready;
      clock = w.clock;
    }

all_within : (p : Plot) (number : ℕ) (q : Parts) (c : Chan) (done : List Arrival) (entry : Entry) (past : List Entry) → Within p number q c done [] entry past → StandsBy p number q [] [] (entry ∷ past)
all_within p number q Shell done entry past w = shell_all p number q done entry past w
all_within p number q Iopub done entry past w = io_all p number q done entry past w
all_within p number q Control done entry past w = silent_all p number q Control done entry past w w.iopub w.shell w.book w.core
all_within p number q Heart done entry past w = silent_all p number q Heart done entry past w w.iopub w.shell w.book w.core

-- once all messages were dealt with the execution stands for the journal
pub uses_all : (p : Plot) (number : ℕ) (x : Execution) (standing_then : ℕ) (c : Chan) (done : List Arrival) (now : List Entry) → Uses p number x standing_then c done [] now → Stands p number x now
uses_all p number x standing_then c done now (open_request {entry} {past} same w asked noted) = record {
  parts = all_within p number (parts_of x) c done entry past w;
  asked = asked;
  noted = noted_all p number (parts_of x) c done [] entry past w x.request done (ap (on_shell c) (append-nil done)) noted;
}
uses_all p number x standing_then c done now (all_used s left) = s

-- by how the job goes on
pub uses_all_or_ends : {U : Type 0} (p : Plot) (number : ℕ) (x : Execution) (r : Result U End) (standing_then : ℕ) (c : Chan) (done : List Arrival) (now : List Entry)
    → UsesOrEnds p number x r standing_then c done [] now → StandsOrEnds p number x r now
uses_all_or_ends p number x (Ok u) standing_then c done now h = uses_all p number x standing_then c done now h
uses_all_or_ends p number x (Err e) standing_then c done now h = h

-- the job has ended, and that is passed on
pub uses_ended : {U : Type 0} (p : Plot) (number : ℕ) (x : Execution) (r : Result U End) (k : End) (standing_then : ℕ) (c : Chan) (done rest : List Arrival) (now : List Entry) → IsErrAnd r (λ e. e ≡ k)
    → EndsSo p k now → UsesOrEnds p number x r standing_then c done rest now
uses_ended p number x (Ok u) k standing_then c done rest now is h = absurd is
uses_ended p number x (Err e) k standing_then c done rest now is h = subst (λ (v : End). EndsSo p v now) (sym is) h

-- ---- messages, one after another

rest_is : (ms : List Message) (i : ℕ) (m : Message) → i < length ms → m ≡ get_or ms i m → arrivals_of (drop i ms) ≡ arrival_of m ∷ arrivals_of (drop (i + 1) ms)
rest_is ms i m within is =
    let next : suc i ≡ i + 1 = omega arith in
    ap arrivals_of (drop-cons ms i m within ∙ ap (λ d. d ∷ drop (suc i) ms) (sym is) ∙ ap (λ n. m ∷ drop n ms) next)

done_is : (ms : List Message) (i : ℕ) (m : Message) → i < length ms → m ≡ get_or ms i m → arrivals_of (take i ms) ++ arrival_of m ∷ [] ≡ arrivals_of (take (i + 1) ms)
done_is ms i m within is = sym (ap arrivals_of (one_more ms i m within is) ∙ arrivals_more (take i ms) m)

-- so many messages of these were dealt with
abbrev pub UsesFirst : Plot → ℕ → Execution → ℕ → Chan → List Message → ℕ → List Entry → Type 0
UsesFirst p number x standing_then c ms i now = Uses p number x standing_then c (arrivals_of (take i ms)) (arrivals_of (drop i ms)) now

-- one more is
pub one_next : (p : Plot) (number : ℕ) (x : Execution) (standing_then : ℕ) (c : Chan) (ms : List Message) (i : ℕ) (m : Message) (now : List Entry) → i < length ms → m ≡ get_or ms i m
    → UsesFirst p number x standing_then c ms i now → Uses p number x standing_then c (arrivals_of (take i ms)) (arrival_of m ∷ arrivals_of (drop (i + 1) ms)) now
one_next p number x standing_then c ms i m now within is u = subst (λ rest. Uses p number x standing_then c (arrivals_of (take i ms)) rest now) (rest_is ms i m within is) u

pub one_done : (p : Plot) (number : ℕ) (x : Execution) (standing_then : ℕ) (c : Chan) (ms : List Message) (i : ℕ) (m : Message) (now : List Entry) → i < length ms → m ≡ get_or ms i m
    → Uses p number x standing_then c (arrivals_of (take i ms) ++ arrival_of m ∷ []) (arrivals_of (drop (i + 1) ms)) now → UsesFirst p number x standing_then c ms (i + 1) now
one_done p number x standing_then c ms i m now within is u = subst (λ done. Uses p number x standing_then c done (arrivals_of (drop (i + 1) ms)) now) (done_is ms i m within is) u

take_all : {A : Type 0} (xs : List A) (i : ℕ) → length xs ≤ i → take i xs ≡ xs
take_all [] zero e = refl
take_all [] (suc i) e = refl
take_all (x ∷ xs) zero e = absurd (omega (arith, e))
take_all (x ∷ xs) (suc i) e = ap (λ ys. x ∷ ys) (take_all xs i (omega (arith, e)))

-- all are
pub all_done : (p : Plot) (number : ℕ) (x : Execution) (standing_then : ℕ) (c : Chan) (ms : List Message) (i : ℕ) (now : List Entry) → length ms ≤ i
    → UsesFirst p number x standing_then c ms i now → Uses p number x standing_then c (arrivals_of ms) [] now
all_done p number x standing_then c ms i now past u =
    subst (λ done. Uses p number x standing_then c (arrivals_of done) [] now) (take_all ms i past)
    (subst (λ rest. Uses p number x standing_then c (arrivals_of (take i ms)) (arrivals_of rest) now) (drop_of_length-le ms past) u)

-- a message is of the request that stood, or it isn't
pub is_own : (x : Execution) (standing_then : ℕ) (m : Message) (content : Content) (date : Option (List ℕ)) → is_of_message x standing_then m ≡ true → content ≡ (arrival_of m).content
    → date ≡ m.header.date → IsOwn (arrival_of m) standing_then content date x
is_own x standing_then m content date own content_is date_is =
    let both = and_parts (x.sent == standing_then) (is_parent_of x.request m.parent_id) own in
    record { sent = eqb-true x.sent standing_then both.0; parent = both.1; content_is = content_is; date_is = date_is }

pub is_other : (x : Execution) (standing_then : ℕ) (m : Message) → is_of_message x standing_then m ≡ false → x.sent ≡ standing_then → is_parent_of x.request (arrival_of m).parent ≡ false
is_other x standing_then m off same =
    let equal : (x.sent == standing_then) ≡ true = grind (arith, same) in
    sym (ap (λ b. b && is_parent_of x.request m.parent_id) equal) ∙ off
