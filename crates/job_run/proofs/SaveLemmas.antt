-- A save that is due is made, and the core answers its acknowledgement.
use Rattle.std.proofs.Common.{◌≡◌, ◌≤◌, arith, ℕ, ◌==◌, Bool, true, false, List, [], ◌∷◌, length, Option, Some, None, Err, refl, sym, ◌∙◌, ap, subst}
use Rattle.std.specs.Prelude.{if◌then◌else◌}
use Rattle.std.proofs.Math.Bool.{true≢false}
use Rattle.std.proofs.lemmas.Bool.{cond-false, eqb-true}
use Rattle.world.specs.declared.chan.Chan.{Chan}
use Rattle.world.specs.declared.entry.Entry.{Entry}
use Rattle.world.specs.Moments.{Since}
use Rattle.nb_model.specs.declared.notebook.Notebook.{Notebook}
use Rattle.nb_text.specs.Notebooks.{text_of}
use Rattle.said_lines.specs.Speech as speech
use Rattle.save_disk.specs.declared.save_fault.SaveFault.{SaveFault}
use Rattle.save_disk.specs.Entries.{SaveOf}
use Rattle.out_fold.specs.declared.used.Used.{Used}
use Rattle.progress_save.specs.Prefix.{prefix}
use Rattle.progress_save.specs.Saved.{done, failure}
use Rattle.cell_core.specs.declared.act.Act.{Act}
use Rattle.cell_core.specs.declared.act.Act.TheVariants.{Nothing, Start, Send, Look, Interrupt, Save, Stop}
use Rattle.cell_core.specs.declared.event.Event.{Event}
use Rattle.cell_core.specs.declared.event.Event.TheVariants.{Saved}
use Rattle.cell_core.specs.declared.machine.Core.{Core}
use Rattle.cell_core.specs.declared.step.Step.{Step}
use Rattle.cell_core.specs.declared.why.Why.{Why}
use Rattle.cell_core.specs.Acts.{act_at, act_by, act_of, answers, failing_at, has_stopped, heard, is_empty_list}
use Rattle.cell_core.specs.Answering.{can_answer}
use Rattle.cell_core.specs.Events.{ack_count}
use Rattle.cell_core.specs.Holds.{is_save}
use Rattle.cell_core.specs.Requests.{Standing, standing}
use Rattle.cell_core.specs.Saves.{Prefix, pending_saves, why}
use Rattle.cell_core.specs.StandsFor.{awaits_saved_of, task_of}
use Rattle.cell_core.specs.Stops.{stopping_of}
use Rattle.cell_core.specs.Task.{Task, cell_of}
use Rattle.cell_core.proofs.Answering.{answers_kind, heard_all}
use Rattle.cell_core.proofs.Runs.{failing_is}
use Rattle.job_notebook.specs.declared.notebook.JobNotebook.{JobNotebook}
use Rattle.job_notebook.specs.State.{Keeps, merge_of, notebook_of, output_of}
use Rattle.job_end.specs.declared.end.End.{End}
use Rattle.job_end.specs.declared.end.End.TheVariants as end
use Rattle.job_saves.specs.Course.{IsEndOfSave}
use Rattle.job_saves.specs.Saving.{OnTried, SavesOrEnds}
use Rattle.run_journal.specs.Agreement.{Agrees}
use Rattle.run_journal.specs.Job.{Job}
use Rattle.run_journal.specs.Parts.{bytes_got, saves_of}
use Rattle.run_journal.specs.Requests.{Request as Asked, last_request, requests, used_of}
use Rattle.run_journal.proofs.Safety.{few_requests}
use Rattle.job_journal.specs.Plot.{Plot, IsFor, facts, first}
use Rattle.job_journal.specs.Quiet.{IsQuietNow}
use Rattle.job_journal.specs.Saved.{save_of}
use Rattle.job_journal.specs.Standing.{HasEndedAs, StandsBy}
use Rattle.job_journal.specs.Starting.{is_ongoing}
use Rattle.job_journal.specs.Told.{Hears, KeepsUp, is_stop}
use Rattle.job_journal.specs.Used.{OnBook, OnRequest, Sent, last}
use Rattle.job_journal.proofs.Acking.{agrees_on, requests_on, saved_sends, saved_waits, unnamed_going, up_on}
use Rattle.job_journal.proofs.Again.{saves_again, unnamed_again}
use Rattle.job_journal.proofs.Breaking.{bytes_on}
use Rattle.job_journal.proofs.Ended.{come_on, late_stays, stopped_on, stops_by_save}
use Rattle.job_journal.proofs.Ending.{ends_standing, failed_ends}
use Rattle.job_journal.proofs.Plots.{for_still, text_is}
use Rattle.job_journal.proofs.Quiet.{refusal_quiet, sends_on, speech_quiet, stands_on}
use Rattle.job_journal.proofs.Saving.{asked_save}
use Rattle.job_journal.proofs.Steps.{hears_next}
use Rattle.job_run.specs.declared.execution.Execution.{Execution}
use Rattle.job_run.specs.declared.request.Request.{Request}
use Rattle.job_run.specs.Standing.{EndsSo, IsAskedFor, IsToSave, NotesBroken, NotesError, StandsTo, parts_of, sent_of}
use Rattle.job_run.specs.Used.{TakesEvent}
use Rattle.job_run.proofs.BrokenLemmas.{notes_on, saves_bring_none}
use Rattle.job_run.proofs.EndLemmas.{starved_so, uncaused_ends}
use Rattle.job_run.proofs.NotedLemmas.{noted_none}
use Rattle.job_run.proofs.StayLemmas.{is_final, requests_kept}
use Rattle.job_run.proofs.ToldLemmas.{peer_broke}
use Rattle.job_run.proofs.LateLemmas.{again_late, stops_as_told}
use Rattle.job_journal.specs.Ended.{has_come}
use Rattle.save_disk.proofs.Laws.{part_of_save}

-- ---- the kernel is started before any request

then_is : (b : Bool) → (if b then Start else Nothing) ≡ Start → b ≡ true
then_is true e = refl
then_is false e = absurd (cc)

neither : (b : Bool) (cell : ℕ) → (if b then Send cell else Nothing) ≡ Start → ⊥
neither true cell e = absurd (cc)
neither false cell e = absurd (cc)

by_act : (task : Task) (events : List Event) (ps : List Prefix) (w : Option Why) → act_by task events ps w ≡ Start → answers task (standing task events) events ≡ Start
by_act task events (q ∷ ps) w e = absurd (cc)
by_act task events [] (Some cause) e = absurd (cc)
by_act task events [] None e = e

by_last : (task : Task) (events : List Event) (o : Option Standing) → answers task o (Saved ∷ events) ≡ Start → ack_count events ≡ 0
by_last task events None e = eqb-true (ack_count events) 0 (then_is (ack_count events == 0) e)
by_last task events (Some s) e = absurd (neither (is_empty_list s.later) (cell_of task s.request) e)

starts_first : (task : Task) (told : List Event) → has_stopped task (heard task told) ≡ false → act_of task Saved told ≡ Start → ack_count told ≡ 0
starts_first task told on f =
    let now : List Event = Saved ∷ heard task told in
    ap ack_count (sym (heard_all task told on))
    ∙ by_last task (heard task told) (standing task now)
    (by_act task now (pending_saves task now) (why task now) (sym (cond-false (has_stopped task (heard task told)) Nothing (act_at task now) on) ∙ f))

none_left : {A : Type 0} (xs : List A) → length xs ≤ 0 → xs ≡ []
none_left [] e = refl
none_left (x ∷ xs) e = absurd (omega (arith, e))

pub none_sent : (j : Job) (o : Option Sent) (rs : List Asked) → OnRequest j o rs → rs ≡ [] → o ≡ None
none_sent j None rs h e = refl
none_sent j (Some sent) rs (last k r f id cell) e = let g : last_request 0 [] ≡ Some (k, r) = ap (last_request 0) (sym e) ∙ f in absurd (cc)

pub unsent : (o : Option Request) → sent_of o ≡ None → o ≡ None
unsent None e = refl
unsent (Some r) e = absurd (cc)

-- ---- a save with this notebook

module _ (p : Plot) (number : ℕ) (x : Execution) (settled : ℕ) (before : List Entry) (t : IsToSave p number x settled before) where
  abbrev told : List Event
  told = t.stands.parts.core.told

  abbrev due : List Used
  due = used_of (facts p).task.plan (requests (facts p) before)

  task_is : task_of x.core ≡ (facts p).task
  task_is = t.stands.parts.is_for.task_is

  going : has_stopped (task_of x.core) (heard (task_of x.core) told) ≡ false
  going = subst (λ task. has_stopped task (heard task told) ≡ false) (sym task_is) t.stands.parts.core.hears.goes_on

  -- the stopping cell that the core names is that of the save
  stop_is : stopping_of x.core ≡ t.due.asked.stopping_cell
  stop_is =
      sym (failing_is (task_of x.core) x.core.clock x.core.lost x.core.state told t.stands.parts.core.hears.stands.so)
      ∙ ap (failing_at (task_of x.core)) (heard_all (task_of x.core) told going)
      ∙ ap (λ task. failing_at task told) task_is
      ∙ t.due.stop_is

  module _ (book : JobNotebook) (prefix_is : (given : Notebook) (us : List Used) → Keeps x.book given us → notebook_of book ≡ prefix (merge_of x.book) us settled (stopping_of x.core) given) where
    same_text : text_of (notebook_of book) ≡ (save_of (facts p) due t.due.asked).text
    same_text =
        text_is p number x.session x.core x.book (notebook_of book) (requests (facts p) before) t.due.asked t.stands.parts.is_for t.stands.parts.book
        (λ given us k.
        prefix_is given us k
        ∙ ap (λ n. prefix (merge_of x.book) us n (stopping_of x.core) given) (sym t.due.settled_is)
        ∙ ap (λ o. prefix (merge_of x.book) us t.due.asked.settled o given) stop_is)

    -- a save that failed
    pub failed_as : (after : List Entry) (f : SaveFault) → SaveOf (output_of x.book) (text_of (notebook_of book)) (failure f) before after → HasEndedAs p after
    failed_as after f saved =
        failed_ends p number (parts_of x) before after t.stands.parts settled t.due (text_of (notebook_of book)) same_text f
        (subst (λ path. SaveOf path (text_of (notebook_of book)) (failure f) before after) t.stands.parts.is_for.output_is saved)

    -- a save that is done, and a core that takes its acknowledgement
    module _ (next : Core) (answer : Step) (output : output_of book ≡ output_of x.book) (merge : merge_of book ≡ merge_of x.book)
        (keeps : stopping_of x.core ≡ None → (given : Notebook) (us : List Used) → Keeps x.book given us → Keeps book given us)
        (awaited : awaits_saved_of x.core ≡ true) (took : TakesEvent Saved answer x.core next) (again : awaits_saved_of next ≡ is_save answer.act)
        (closes : is_save answer.act ≡ true → stopping_of next ≡ None) (mid after : List Entry)
        (done_so : SaveOf (output_of x.book) (text_of (notebook_of book)) done before mid) (quiet : Since (IsQuietNow (facts p)) mid after) where
      abbrev z : Execution
      z = record x { book = book; core = next }

      abbrev saved : SaveOf (facts p).output (text_of (notebook_of book)) done before mid
      saved = subst (λ path. SaveOf path (text_of (notebook_of book)) done before mid) t.stands.parts.is_for.output_is done_so

      act_is : answer.act ≡ act_of (facts p).task Saved told
      act_is = took.act told t.stands.parts.core.hears.stands tt ∙ ap (λ task. act_of task Saved told) task_is

      more : is_stop answer.act ≡ false → Hears (facts p) next (Saved ∷ told)
      more go =
          hears_next (facts p) x.core next Saved told answer.act t.stands.parts.core.hears task_is (sym awaited) tt (took.stands told t.stands.parts.core.hears.stands tt) act_is go

      is_for : IsFor p number x.session next book
      is_for = for_still p number x.session x.session x.core next x.book book t.stands.parts.is_for refl refl took.same output merge

      kept : t.due.asked.stopping_cell ≡ None → OnBook (facts p) (first p) book (requests (facts p) before)
      kept e = record { keeps = keeps (stop_is ∙ e) (first p) due t.stands.parts.book.keeps }

      abbrev asked : IsAskedFor p z
      asked = record { terms = t.stands.asked.terms; tagged = t.stands.asked.tagged }

      kept_going : (act : Act) → answer.act ≡ act → is_ongoing act ≡ true → OnBook (facts p) (first p) book (requests (facts p) before)
      kept_going act is on =
          kept (unnamed_going p number (parts_of x) before t.stands.parts settled t.due (text_of (notebook_of book)) same_text mid saved act (sym act_is ∙ is) on)

      kind : can_answer Saved answer.act ≡ true
      kind =
          subst (λ (act : Act). can_answer Saved act ≡ true) (sym (took.act told t.stands.parts.core.hears.stands tt))
          (answers_kind (task_of x.core) x.core.clock x.core.lost x.core.state Saved told t.stands.parts.core.hears.stands.so (sym awaited) tt going x.core.later)

      other : (act : Act) → answer.act ≡ act → can_answer Saved act ≡ false → ⊥
      other act is off = true≢false (sym (subst (λ (a : Act). can_answer Saved a ≡ true) is kind) ∙ off)

      -- where the kernel is started no request stands
      none_yet : answer.act ≡ Start → x.request ≡ None
      none_yet is =
          let j : Job = facts p in
          let zero_acks : ack_count told ≡ 0 = starts_first j.task told t.stands.parts.core.hears.goes_on (sym act_is ∙ is) in
          let acks : saves_of j before ≡ 0 = sym t.stands.parts.core.agrees.acked ∙ zero_acks in
          let few : length (requests j before) ≤ 0 = subst (λ n. length (requests j before) ≤ n) acks (few_requests j before).0 in
          unsent x.request (none_sent j (sent_of x.request) (requests j before) t.stands.parts.request (none_left (requests j before) few))

      -- where the job is saved again or stops, the same requests stand
      requests_behind : is_final answer.act ≡ true → requests (facts p) after ≡ requests (facts p) before
      requests_behind final =
          requests_on (facts p) mid after t.stands.parts.undated quiet
          ∙ requests_kept p number (parts_of x) before t.stands.parts settled t.due (text_of (notebook_of book)) same_text mid saved awaited (ap is_final (sym act_is) ∙ final)

      noted_behind : is_final answer.act ≡ true → NotesError (facts p) x.request (requests (facts p) after)
      noted_behind final = subst (NotesError (facts p) x.request) (sym (requests_behind final)) t.stands.noted

      -- no byte came
      bytes_behind : (c : Chan) → bytes_got (facts p) c after ≡ bytes_got (facts p) c before
      bytes_behind c = bytes_on (facts p) mid after quiet c ∙ saves_bring_none (facts p) (facts p).output (text_of (notebook_of book)) done before mid saved c

      -- what the clock had come to it has still come to
      came_behind : (at : ℕ) → has_come at before ≡ true → has_come at after ≡ true
      came_behind at e = come_on at mid after quiet (come_on at before mid (part_of_save (facts p).output (text_of (notebook_of book)) before done mid saved) e)

      -- the stream that broke is broken as it was
      broken_behind : NotesBroken (facts p) x.broken before → NotesBroken (facts p) x.broken after
      broken_behind = notes_on (facts p) x.broken before after bytes_behind

      -- another save follows: the core has been told of this one
      module _ (n : ℕ) (is : answer.act ≡ Save n) where
        abbrev ongoing : Hears (facts p) next (Saved ∷ told)
        ongoing = more (ap is_stop is)

        abbrev two : (s : StandsBy p number (parts_of z) [] [] mid) × (s.core.told ≡ Saved ∷ told)
        two =
            saves_again p number (parts_of x) before t.stands.parts settled t.due (text_of (notebook_of book)) same_text mid saved next book is_for ongoing
            (again ∙ ap is_save is) (closes (ap is_save is))
            (kept
            (unnamed_again p number (parts_of x) before t.stands.parts settled t.due (text_of (notebook_of book)) same_text mid saved next book is_for ongoing
            (again ∙ ap is_save is) (closes (ap is_save is))))

        abbrev at_end : StandsBy p number (parts_of z) [] [] after
        at_end = stands_on p number (parts_of z) [] [] mid after quiet two.0

        agreed : Agrees (facts p) (Saved ∷ told) after
        agreed = agrees_on (facts p) (Saved ∷ told) mid after quiet (subst (λ es. Agrees (facts p) es mid) two.1 two.0.core.agrees)

        agreed_up : KeepsUp (facts p) (Saved ∷ told) [] after
        agreed_up =
            up_on (facts p) (Saved ∷ told) mid after quiet (subst (λ es. Agrees (facts p) es mid) two.1 two.0.core.agrees) (subst (λ es. KeepsUp (facts p) es [] mid) two.1 two.0.core.up)

        pub then_saves : IsToSave p number z n after
        then_saves = record {
          stands = record {
            parts = record {
              undated = at_end.undated;
              is_for = at_end.is_for;
              lines = at_end.lines;
              talk = at_end.talk;
              shell_seen = at_end.shell_seen;
              iopub_seen = at_end.iopub_seen;
              book = at_end.book;
              request = at_end.request;
              sent = at_end.sent;
              core = record { told = Saved ∷ told; hears = ongoing; agrees = agreed; up = agreed_up };
              made = at_end.made;
              ready = at_end.ready;
              clock = at_end.clock;
            };
            asked = asked;
            noted = noted_behind (ap is_final is);
          };
          due = asked_save (facts p) told Saved n t.stands.parts.core.hears.goes_on (sym act_is ∙ is);
          late = again_late p next told after ongoing is_for.task_is is_for.runs (again ∙ ap is_save is) (closes (ap is_save is));
          broken = λ f. broken_behind (t.broken f);
        }

      saved_by : (act : Act) → answer.act ≡ act → StandsTo p number z act after
      saved_by Nothing is = absurd (other Nothing is refl)
      saved_by Look is = absurd (other Look is refl)
      saved_by Interrupt is = absurd (other Interrupt is refl)
      saved_by Start is = (
        record {
          parts = stands_on p number (parts_of z) [] [] mid after quiet
              (saved_waits p number (parts_of x) before t.stands.parts settled t.due (text_of (notebook_of book)) same_text mid saved next book is_for
              (kept_going Start is refl) (more (ap is_stop is)) Start (sym act_is ∙ is) refl);
          asked = asked;
          noted = noted_none (facts p) x.request (requests (facts p) after) (none_yet is);
        },
        none_yet is,
      )
      saved_by (Send cell) is = record {
        parts = sends_on p number (parts_of z) cell mid after quiet
            (saved_sends p number (parts_of x) before t.stands.parts settled t.due (text_of (notebook_of book)) same_text mid saved next book is_for
            (kept_going (Send cell) is refl) (more (ap is_stop is)) cell (sym act_is ∙ is));
        asked = asked;
      }
      saved_by (Save n) is = then_saves n is
      saved_by (Stop cause) is = record {
        stopped = stopped_on p cause mid after t.stands.parts.undated quiet
            (stops_by_save p number (parts_of x) before t.stands.parts settled t.due (text_of (notebook_of book)) same_text mid saved cause (sym act_is ∙ is));
        request = subst (OnRequest (facts p) (sent_of x.request)) (sym (requests_behind (ap is_final is))) t.stands.parts.request;
        late = λ late.
            late_stays (facts p) before after (requests_behind (ap is_final is)) bytes_behind came_behind cause
            (t.late cause (stops_as_told p x.core told cause t.stands.parts.core.hears task_is awaited (sym act_is ∙ is) late) late);
        noted = noted_behind (ap is_final is);
        broken = λ f. broken_behind (t.broken (peer_broke (facts p).task Saved told (sym act_is ∙ is ∙ ap (λ w. Stop w) f)));
      }

      -- what the core answers is due by the journal
      pub saved_to : StandsTo p number z answer.act after
      saved_to = saved_by answer.act refl

-- what is said behind a save is quiet
pub says_quiet : (j : Job) (line : List ℕ) (failed : Type 0) (before after : List Entry) → speech.Says line failed before after → Since (IsQuietNow j) before after
says_quiet j line failed before after (speech.whole s) = speech_quiet j line before [] after s
says_quiet j line failed before after (speech.cut {rest} f s) = speech_quiet j line before rest after s
says_quiet j line failed before after (speech.refused {rest} {past} f s) = refusal_quiet j line before rest past s

-- a save that ended the job
pub unsaved_ends : (p : Plot) (number : ℕ) (x : Execution) (settled : ℕ) (before after : List Entry) (book : JobNotebook) (line : List ℕ) (failed : Type 0) (e : End) → IsToSave p number x settled before
    → OnTried {U = Unit {0}} (Err e) ((given : Notebook) (us : List Used) → Keeps x.book given us → notebook_of book ≡ prefix (merge_of x.book) us settled (stopping_of x.core) given)
    → SavesOrEnds {U = Unit {0}} (output_of x.book) (text_of (notebook_of book)) line failed (Err e) before after → IsEndOfSave e → EndsSo p e after
unsaved_ends p number x settled before after book line failed (end.NotSaved f) t tried so own = uncaused_ends p (end.NotSaved f) after refl (failed_as p number x settled before t book tried after f so)
unsaved_ends p number x settled before after book line failed end.NoMemory t tried so own =
    starved_so p after (subst (HasEndedAs p) (sym so) (ends_standing p number (parts_of x) [] [] before t.stands.parts))
unsaved_ends p number x settled before after book line failed _ t tried so own = absurd own
