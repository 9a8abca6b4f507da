-- What an execution and its job stand for at their start.
use Rattle.std.proofs.Common.{◌≡◌, ◌⊎◌, inl, inr, ◌<◌, ◌≤◌, ◌==◌, ◌&&◌, ◌||◌, ◌+◌, ◌++◌, arith, replicate, ℕ, Bool, true, false, not, List, [], ◌∷◌, length, map, Option, Some, None, Result, Ok, Err, refl, sym, ◌∙◌, ap, subst}
use Rattle.std.specs.Prelude.{is_some, nat_lt, slice_get, IfOk, if◌then◌else◌}
use Rattle.std.proofs.Math.Bool.{true≢false}
use Rattle.std.proofs.lemmas.Bool.{cases_Bool, cond-true, cond-false, cond_both, eqb-true}
use Rattle.world.specs.declared.entry.Entry.{Entry}
use Rattle.world.specs.declared.entry.Entry.TheVariants as made
use Rattle.world.specs.Acked.{renames}
use Rattle.world.specs.Disk as disk
use Rattle.world.specs.Moments.{Since, start, more}
use Rattle.world.specs.Parts.{IsOf, OnKids, OnRand, part_of}
use Rattle.world.specs.Places.{time}
use Rattle.words.specs.declared.ask.Ask.{Ask}
use Rattle.words.specs.Paths.{temporary_of}
use Rattle.zmtp_wire.specs.Meaning.{Begins}
use Rattle.zmtp_wire.proofs.MeaningLemmas.{messages_none, shaken_none}
use Rattle.nb_model.specs.declared.notebook.Notebook.{Notebook}
use Rattle.kernel_start.specs.ConnectionFile.{WritesFile, WritesAndSyncs, not_created, not_written, not_synced}
use Rattle.kernel_start.specs.declared.connection_fault.ConnectionFault.{ConnectionFault}
use Rattle.kernel_start.specs.declared.connection_fault.ConnectionFault.TheVariants as fault
use Rattle.kernel_talk.specs.Asking.{Asked, asks}
use Rattle.cell_core.specs.declared.event.Event.TheVariants.{Saved}
use Rattle.cell_core.specs.declared.why.Why.{Why}
use Rattle.cell_core.specs.declared.why.Why.TheVariants as why
use Rattle.cell_core.specs.Acts.{has_stopped, heard, is_empty}
use Rattle.cell_core.specs.Events.{came, is_broken}
use Rattle.cell_core.specs.Saves.{after_preparation, pending_saves, why as cause_by}
use Rattle.cell_core.specs.StandsFor.{task_of}
use Rattle.cell_core.specs.Task.{Task}
use Rattle.job_notebook.specs.State.{merge_of, output_of}
use Rattle.job_end.specs.declared.answer.Answer.{Answer}
use Rattle.job_end.specs.declared.end.End.{End}
use Rattle.job_saves.specs.Sessions.{IsSaveCall, IsSaveEntry}
use Rattle.run_journal.specs.Agreement.{Agrees, is_got}
use Rattle.run_journal.specs.Arrivals.{ask_state, can_ask}
use Rattle.run_journal.specs.Job.{Job as Facts}
use Rattle.run_journal.specs.Parts.{saves_of}
use Rattle.run_journal.specs.Requests.{is_last_passed, last_request, requests}
use Rattle.run_journal.specs.Saves.{Save, closing, is_marked, last_cell, passes, renamed_texts, run_saves, save, stop_save, stopping}
use Rattle.run_journal.specs.Why.{are_acked, is_done, is_error, plain_count, plan_end}
use Rattle.job_journal.specs.Ended.{HasAnswered, LacksIdle, LacksReply, SaysCause, ShowsCause}
use Rattle.job_journal.specs.Made.{HasMade, passing_saves}
use Rattle.job_journal.specs.Plot.{Plot, facts}
use Rattle.job_journal.specs.Quiet.{IsQuietNow, is_quiet, is_unread}
use Rattle.job_journal.specs.Saved.{IsAsked}
use Rattle.job_journal.specs.Standing.{AreNew, HasEndedAs, StandsBy}
use Rattle.job_journal.specs.Told.{AgreesBut}
use Rattle.job_journal.proofs.Acking.{none_told, writes_quiet}
use Rattle.job_journal.proofs.Clocked.{clock_passes}
use Rattle.job_journal.proofs.Ended.{answer_stays}
use Rattle.job_journal.proofs.Firsts.{none_acked}
use Rattle.job_journal.proofs.Making.{made_first, made_stays}
use Rattle.job_journal.proofs.Quiet.{quiet_kind}
use Rattle.job_journal.proofs.Talks.{asks_at}
use Rattle.job_journal.proofs.Unread.{agrees_unread, stands_first, unasked, unrequested}
use Rattle.job_run.specs.Beginning.{BeginsOrEnds, HasSavedFirst, IsFresh, IsPlotOf, IsToBegin, IsUnbegun, SpeaksOn, StartsOrEnds}
use Rattle.job_run.specs.declared.execution.Execution.{Execution}
use Rattle.job_run.specs.declared.job.Job.{Job}
use Rattle.job_run.specs.declared.request.Request.{Request}
use Rattle.job_run.specs.JobStanding.{JobStands, JobStandsUntold}
use Rattle.job_run.specs.Standing.{IsToSave, Stands, parts_of}
use Rattle.job_run.specs.Task.{AreTermsOf, task_for}
use Rattle.job_run.proofs.NotedLemmas.{noted_none, noted_unsent}
use Rattle.job_run.proofs.SaveLemmas.{unsent}
use Rattle.job_journal.specs.Ended.{IsTimeOver, IsWhole}
use Rattle.job_journal.specs.Told.{was_asked}
use Rattle.job_journal.proofs.Ended.{come_still}
use Rattle.job_journal.proofs.Late.{time_over}
use Rattle.cell_core.specs.Events.{Rising}
use Rattle.cell_core.specs.Events.{time as core_time}
use Rattle.job_journal.proofs.Breaking.{unread_whole}
use Rattle.run_journal.specs.Requests.{is_broken as is_any_broken}

-- ---- no byte is got

save_ungot : (j : Facts) (output : List ℕ) (entry : Entry) → IsSaveEntry output entry → is_got j entry ≡ false
save_ungot j output (made.Got conn room bytes) h = absurd h
save_ungot j output _ h = refl

-- by the calls of a save
pub saves_unread : (j : Facts) (output : List ℕ) (before now : List Entry) → Since (IsSaveCall output) before now → is_unread j before ≡ true → is_unread j now ≡ true
saves_unread j output before now start e = e
saves_unread j output before now (more {past} {entry} w h) e =
    ap (λ b. not b && is_unread j past) (save_ungot j output entry h) ∙ saves_unread j output before past w e

pub none_requested : (p : Plot) (now : List Entry) → is_unread (facts p) now ≡ true → requests (facts p) now ≡ []
none_requested p now e = unrequested shaken_none messages_none p now e

-- the kernel wasn't asked
unasked_yet : (p : Plot) (now : List Entry) → is_unread (facts p) now ≡ true → was_asked (facts p) now ≡ false
unasked_yet p now e = ap (λ (a : Asked). nat_lt 0 (length a.ids)) (unasked shaken_none messages_none p now e)

-- ---- before the first save

unstopped : (task : Task) → has_stopped task (heard task []) ≡ false
unstopped task = by (is_some (cause_by task []))
  where
    by : (b : Bool) → (b && is_empty (pending_saves task [])) ≡ false
    by true = refl
    by false = refl

module _ (p : Plot) (number : ℕ) (x : Execution) (now : List Entry) (b : IsToBegin p number x now) where
  abbrev j : Facts
  j = facts p

  abbrev k : Execution
  k = record x { clock = time now }

  none_yet : saves_of j now ≡ 0
  none_yet = none_acked j now b.fresh.unrenamed

  new : AreNew (parts_of k)
  new = record {
    roles = b.unbegun.parts.roles;
    lines = b.unbegun.parts.lines;
    asking = b.unbegun.parts.asking;
    made = b.unbegun.parts.made;
    shell_seen = b.unbegun.parts.shell_seen;
    iopub_seen = b.unbegun.parts.iopub_seen;
    request = b.unbegun.parts.request;
    sent = b.unbegun.parts.sent;
    ready = b.unbegun.parts.ready;
  }

  agrees : AgreesBut j x.core [] now
  agrees = record {
    told = [];
    hears = record { stands = b.unbegun.core; meets = tt; goes_on = unstopped j.task };
    agrees = subst (λ n. Agrees j (replicate n Saved) now) none_yet (agrees_unread j now b.fresh.unread);
    up = record {
      requests = λ n r e. (let none : None ≡ Some r = sym (ap (λ rs. slice_get rs n) (none_requested p now b.fresh.unread)) ∙ e in absurd (cc));
      clock = λ e. absurd (true≢false (sym e ∙ unasked_yet p now b.fresh.unread));
    };
  }

  parts : StandsBy p number (parts_of k) [] [] now
  parts =
      stands_first shaken_none messages_none p number (parts_of k) now new b.fresh.unread b.fresh.undated b.is_for b.unbegun.keeps agrees
      (subst (λ n. HasMade j (passing_saves j []) n now) (sym none_yet) (made_first j (passing_saves j []) now b.fresh.unrenamed)) refl

  untagged : (r : Request) → x.request ≡ Some r → ⊥
  untagged r e = let none : None ≡ Some r = sym (unsent x.request b.unbegun.parts.request) ∙ e in absurd (cc)

  stands : Stands p number k now
  stands = record {
    parts = parts;
    asked = record { terms = b.terms; tagged = λ r e. absurd (untagged r e) };
    noted = noted_none j x.request (requests j now) (unsent x.request b.unbegun.parts.request);
  }

  told_none : stands.parts.core.told ≡ []
  told_none = none_told j.task stands.parts.core.told stands.parts.core.hears.meets (stands.parts.core.agrees.acked ∙ none_yet)

  first_asked : IsAsked j.task [] 0
  first_asked = record { asked = after_preparation; at = refl; settled_is = refl; stop_is = refl }

  -- no time is over
  unheard_over : (cause : Why) → cause_by j.task stands.parts.core.told ≡ Some cause → IsTimeOver j cause now
  unheard_over cause f =
      time_over j stands.parts.core.told now b.fresh.undated stands.parts.core.agrees stands.parts.core.up.requests (subst Rising (sym told_none) tt)
      (subst (λ es. core_time es ≤ time now) (sym told_none) (omega arith)) cause f

  -- the first save is due
  pub begin_saves : IsToSave p number k 0 now
  begin_saves = record {
    stands = stands;
    due = subst (λ es. IsAsked j.task es 0) (sym told_none) first_asked;
    late = λ cause f late. record { whole = unread_whole p now b.fresh.unread; over = unheard_over cause f };
    broken = λ f. absurd (true≢false (sym f ∙ ap (came is_broken) told_none));
  }

-- once it was made
pub saved_first : (p : Plot) (number : ℕ) (x y : Execution) (output : List ℕ) (before now : List Entry) → IsToBegin p number x before → Since (IsSaveCall output) before now → y.clock ≡ x.clock
    → Stands p number (record y { clock = time before }) now → HasSavedFirst p number y now
saved_first p number x y output before now b w clock s =
    let same : time before ≡ time now = s.parts.clock in
    record {
      stands = subst (λ c. Stands p number (record y { clock = c }) now) same s;
      clock = clock ∙ b.unbegun.clock;
      unread = saves_unread (facts p) output before now w b.fresh.unread;
    }

-- ---- the clock is read

not_nothing : {A : Type 0} (xs : List A) (x : A) → xs ++ x ∷ [] ≡ [] → ⊥
not_nothing [] x e = absurd (cc)
not_nothing (y ∷ ys) x e = absurd (cc)

-- before any byte the kernel isn't asked
never_asked : (p : Plot) (ms : ℕ) (past : List Entry) → is_unread (facts p) past ≡ true → asks (ask_state (facts p) past) (can_ask (facts p) past) ms ≡ false
never_asked p ms past e = by (cases_Bool (asks (ask_state (facts p) past) (can_ask (facts p) past) ms))
  where
    by : (asks (ask_state (facts p) past) (can_ask (facts p) past) ms ≡ true) ⊎ (asks (ask_state (facts p) past) (can_ask (facts p) past) ms ≡ false)
        → asks (ask_state (facts p) past) (can_ask (facts p) past) ms ≡ false
    by (inr f) = f
    by (inl f) =
        absurd (not_nothing (ask_state (facts p) past).ids ((facts p).msg_id (length (ask_state (facts p) past).ids + 1))
        (ap (λ (a : Asked). a.ids)
        (sym (asks_at (facts p) ms past ∙ cond-true (asks (ask_state (facts p) past) (can_ask (facts p) past) ms) _ _ f)
        ∙ unasked shaken_none messages_none p (made.Moment ms ∷ past) e)))

-- an execution that stands for the journal but for its clock, and the next clock entry
clock_on : (p : Plot) (number : ℕ) (x : Execution) (ms : ℕ) (past : List Entry) → is_unread (facts p) past ≡ true → Stands p number (record x { clock = time past }) past
    → Stands p number (record x { clock = ms }) (made.Moment ms ∷ past)
clock_on p number x ms past unread s =
    let no : asks x.asking (can_ask (facts p) past) ms ≡ false
    = ap (λ (a : Asked). asks a (can_ask (facts p) past) ms) s.parts.talk.asks ∙ never_asked p ms past unread in
    record {
      parts = clock_passes p number (parts_of (record x { clock = time past })) past ms s.parts (can_ask (facts p) past) refl
          (λ e. absurd (true≢false (sym e ∙ unasked_yet p (made.Moment ms ∷ past) unread))) no;
      asked = record { terms = s.asked.terms; tagged = s.asked.tagged };
      noted = noted_unsent (facts p) x.request (requests (facts p) (made.Moment ms ∷ past)) (none_requested p (made.Moment ms ∷ past) unread);
    }

pub clock_read : (p : Plot) (number : ℕ) (x y : Execution) (ms : ℕ) (past : List Entry) → HasSavedFirst p number x past → y ≡ record x { clock = y.clock } → (x.clock ≤ ms → y.clock ≡ ms)
    → Stands p number y (made.Moment ms ∷ past)
clock_read p number x y ms past h rest turns =
    let least : x.clock ≤ ms = omega (arith, h.clock) in
    subst (λ (v : Execution). Stands p number v (made.Moment ms ∷ past)) (sym rest)
    (subst (λ c. Stands p number (record x { clock = c }) (made.Moment ms ∷ past)) (sym (turns least)) (clock_on p number x ms past h.unread h.stands))

-- a job may be told a clock entry later
pub told_later : (p : Plot) (j : Job) (ms : ℕ) (past : List Entry) → is_unread (facts p) past ≡ true → time past ≤ ms → JobStandsUntold p j past → JobStandsUntold p j (made.Moment ms ∷ past)
told_later p j ms past unread rises s = record {
  number_is = s.number_is;
  output_is = s.output_is;
  undated = s.undated;
  runs = λ e. let u = s.runs e in record { stands = clock_on p j.number j.run ms past unread u.stands; earlier = omega (arith, u.earlier, rises) };
  whole = λ e. unread_whole p (made.Moment ms ∷ past) unread;
  ended = λ a is.
      let answer = s.ended a is in
      let h = answer.ended in
      let same : requests (facts p) past ≡ requests (facts p) (made.Moment ms ∷ past) = none_requested p past unread ∙ sym (none_requested p (made.Moment ms ∷ past) unread) in
      answer_stays p past (made.Moment ms ∷ past) (record { requests_are = sym same; saves_are = refl; texts_are = refl; bytes_are = λ c. refl; came = λ at e. come_still at (made.Moment ms) past e }) a
      (record {
        cause = h.cause;
        count = h.count;
        made = made_stays (facts p) (run_saves (facts p) (requests (facts p) (made.Moment ms ∷ past)) h.cause) h.count (made.Moment ms) past refl
            (subst (λ rs. HasMade (facts p) (run_saves (facts p) rs h.cause) h.count past) same h.made);
      }) answer;
}

-- ---- entries of a start are quiet

rand_is_quiet : (j : Facts) (entry : Entry) → part_of entry ≡ OnRand → is_quiet j entry ≡ true
rand_is_quiet j (made.Word word) e = refl
rand_is_quiet j entry e = cc

kids_is_quiet : (j : Facts) (entry : Entry) → part_of entry ≡ OnKids → is_quiet j entry ≡ true
kids_is_quiet j (made.Started job argv env dir did) e = refl
kids_is_quiet j (made.Looked job status) e = refl
kids_is_quiet j (made.Killed job) e = refl
kids_is_quiet j entry e = cc

pub kids_are_quiet : (j : Facts) (before now : List Entry) → Since (IsOf OnKids) before now → Since (IsQuietNow j) before now
kids_are_quiet j before now start = start
kids_are_quiet j before now (more {past} {entry} w e) = more (kids_are_quiet j before past w) (quiet_kind j entry past (kids_is_quiet j entry e))

made_quiet : (j : Facts) (path text : List ℕ) (did : _) (before after : List Entry) → WritesAndSyncs path text did before after → Since (IsQuietNow j) before after
made_quiet j path text did before after w =
    subst (λ now. Since (IsQuietNow j) before now) (sym w.ends) (more (writes_quiet j path text before w.writes) (quiet_kind j (made.Synced path did) w.past refl))

pub file_quiet : {U : Type 0} (j : Facts) (path text : List ℕ) (r : Result U ConnectionFault) (before after : List Entry) → WritesFile path text r before after → Since (IsQuietNow j) before after
file_quiet j path text (Ok u) before after w = made_quiet j path text _ before after w
file_quiet j path text (Err fault.Failed) before after not_created = more start (quiet_kind j _ before refl)
file_quiet j path text (Err fault.Failed) before after (not_written w) =
    subst (λ now. Since (IsQuietNow j) before now) (sym w.fails) (more (writes_quiet j path text before w.writes) (quiet_kind j _ w.past refl))
file_quiet j path text (Err fault.Failed) before after (not_synced w) = made_quiet j path text _ before after w
file_quiet j path text (Err fault.NoMemory) before after w = subst (λ now. Since (IsQuietNow j) before now) (sym w) start

-- ---- a job that is fresh

fresh_entry : (p : Plot) (entry : Entry) (past : List Entry) → part_of entry ≡ OnRand → IsFresh p past → IsFresh p (entry ∷ past)
fresh_entry p (made.Word word) past e f = record { undated = f.undated; runs = f.runs; unread = f.unread; unrenamed = f.unrenamed }
fresh_entry p entry past e f = absurd (cc)

-- words are drawn
pub fresh_on : (p : Plot) (before now : List Entry) → Since (IsOf OnRand) before now → IsFresh p before → IsFresh p now
fresh_on p before now start f = f
fresh_on p before now (more {past} {entry} w e) f = fresh_entry p entry past e (fresh_on p before past w f)

-- no save was made
pub fresh_ends : (p : Plot) (now : List Entry) → IsFresh p now → HasEndedAs p now
fresh_ends p now f = record { cause = None; count = 0; made = made_first (facts p) (run_saves (facts p) (requests (facts p) now) None) now f.unrenamed }

-- ---- the session is settled by the start

-- so the requests of a run that hasn't begun bring one save, in whichever session
passes_none : (j : Facts) (plan : List ℕ) → passes j [] 0 plan [] ≡ []
passes_none j [] = refl
passes_none j (i ∷ plan) = refl

cell_none : (plan : List ℕ) → last_cell plan [] ≡ None
cell_none [] = refl
cell_none (i ∷ plan) = refl

not_zero : (n : ℕ) (b : Bool) → 0 < n → ((0 == n) && b) ≡ false
not_zero n b e = by (cases_Bool (0 == n))
  where
    by : ((0 == n) ≡ true) ⊎ ((0 == n) ≡ false) → ((0 == n) && b) ≡ false
    by (inl f) = let z : 0 ≡ n = eqb-true 0 n f in absurd (omega (arith, e, z))
    by (inr f) = ap (λ c. c && b) f

one_save : (j : Facts) (w : Option Why) → 0 < length j.task.plan → run_saves j [] w ≡ save j [] 0 None ∷ []
one_save j w runs =
    let none : stopping j [] w ≡ []
    = cond_both (is_marked w && not (is_last_passed j 0 [])) (stop_save j [] (last_cell j.task.plan [])) [] (λ ss. ss ≡ []) (λ e. ap (stop_save j []) (cell_none j.task.plan)) (λ e. refl) in
    let whole : Bool = length j.task.plan == 0 || is_last_passed j 0 [] in
    let more : Bool = nat_lt (plan_end j.task.plan) j.task.cells in
    let last : closing j [] ≡ [] = cond-false _ _ [] (ap (λ b. b && more) (not_zero (length j.task.plan) whole runs)) in
    ap (λ ss. save j [] 0 None ∷ ss ++ stopping j [] w ++ closing j []) (passes_none j j.task.plan)
    ∙ ap (λ ss. save j [] 0 None ∷ ss ++ closing j []) none
    ∙ ap (λ ss. save j [] 0 None ∷ ss) last

-- the plot in the session of an execution
abbrev pub in_session : Plot → Execution → Plot
in_session p x = record { ask = p.ask; given = p.given; setting = record { number = p.setting.number; inputs = p.setting.inputs; turns = p.setting.turns; session = x.session.name; key = x.session.key; name_fault = p.setting.name_fault; spec_fault = p.setting.spec_fault } }

module _ (p : Plot) (x : Execution) where
  same_texts : (now : List Entry) → renamed_texts (facts (in_session p x)) now ≡ renamed_texts (facts p) now
  same_texts [] = refl
  same_texts (entry ∷ past) =
      ap (λ ts. if renames (temporary_of p.ask.output) p.ask.output entry then ts ++ (disk.place past (temporary_of p.ask.output)).fresh ∷ [] else ts) (same_texts past)

  same_got : (entry : Entry) → is_got (facts (in_session p x)) entry ≡ is_got (facts p) entry
  same_got (made.Got conn room bytes) = refl
  same_got _ = refl

  same_unread : (now : List Entry) → is_unread (facts (in_session p x)) now ≡ is_unread (facts p) now
  same_unread [] = refl
  same_unread (entry ∷ past) =
      ap (λ b. not b && is_unread (facts (in_session p x)) past) (same_got entry) ∙ ap (λ b. not (is_got (facts p) entry) && b) (same_unread past)

  fresh_in_session : (now : List Entry) → IsFresh p now → IsFresh (in_session p x) now
  fresh_in_session now f = record { undated = f.undated; runs = f.runs; unread = same_unread now ∙ f.unread; unrenamed = same_texts now ∙ f.unrenamed }

  saves_in_session : (now : List Entry) → requests (facts (in_session p x)) now ≡ [] → requests (facts p) now ≡ [] → 0 < length (facts p).task.plan → (w : Option Why)
      → run_saves (facts (in_session p x)) (requests (facts (in_session p x)) now) w ≡ run_saves (facts p) (requests (facts p) now) w
  saves_in_session now was is runs w =
      let k : Facts = facts (in_session p x) in
      let j : Facts = facts p in
      ap (λ rs. run_saves k rs w) was ∙ one_save k w runs ∙ sym (one_save j w runs) ∙ ap (λ rs. run_saves j rs w) (sym is)

  -- where no request stands a job has ended in whichever session
  ended_in_session : (now : List Entry) → requests (facts (in_session p x)) now ≡ [] → requests (facts p) now ≡ [] → 0 < length (facts p).task.plan → HasEndedAs (in_session p x) now → HasEndedAs p now
  ended_in_session now was is runs h =
      record {
        cause = h.cause;
        count = h.count;
        made = record {
          made = h.made.made;
          texts = sym (same_texts now) ∙ h.made.texts;
          counted = h.made.counted;
          are_first = subst (Begins h.made.made) (saves_in_session now was is runs h.cause) h.made.are_first;
        };
      }

-- nothing is executed where no request stands
not_empty : (n : ℕ) → 0 < n → (n == 0) ≡ false
not_empty n e = by (cases_Bool (n == 0))
  where
    by : ((n == 0) ≡ true) ⊎ ((n == 0) ≡ false) → (n == 0) ≡ false
    by (inl f) = let z : n ≡ 0 = eqb-true n 0 f in absurd (omega (arith, e, z))
    by (inr f) = f

not_done : (j : Facts) (count : ℕ) → 0 < length j.task.plan → is_done j count [] ≡ false
not_done j count runs =
    cond-false (length j.task.plan == 0) (are_acked (plain_count j j.given) count) (0 == length j.task.plan && false) (not_empty (length j.task.plan) runs)
    ∙ not_zero (length j.task.plan) false runs

module _ (p : Plot) (x : Execution) (now : List Entry) (was : requests (facts (in_session p x)) now ≡ []) (is : requests (facts p) now ≡ []) (runs : 0 < length (facts p).task.plan) where
  abbrev elsewhere : Plot
  elsewhere = in_session p x

  undone : (p : Plot) → requests (facts p) now ≡ [] → 0 < length (facts p).task.plan → is_done (facts p) (saves_of (facts p) now) (requests (facts p) now) ≡ false
  undone p none some = ap (is_done (facts p) (saves_of (facts p) now)) none ∙ not_done (facts p) (saves_of (facts p) now) some

  no_error : (p : Plot) → requests (facts p) now ≡ [] → is_error (facts p) (last_request 0 (requests (facts p) now)) ≡ false
  no_error p none = ap (λ rs. is_error (facts p) (last_request 0 rs)) none

  -- what a cause shows where no request stands
  shown_in : (cause : Why) → ShowsCause (facts elsewhere) cause now → ShowsCause (facts p) cause now
  shown_in why.Done e = absurd (true≢false (sym e ∙ undone elsewhere was runs))
  shown_in why.CellError e = absurd (true≢false (sym e ∙ no_error elsewhere was))
  shown_in why.NotReady e = is
  shown_in why.NoIdle e = absurd (subst (λ rs. LacksIdle (last_request 0 rs)) was e)
  shown_in why.TimedOut e = absurd (subst (λ rs. LacksReply (last_request 0 rs)) was e)
  shown_in why.KernelLost e = record { plan = undone p is runs; reply = no_error p is }
  shown_in why.BadPeer e = record { plan = undone p is runs; reply = no_error p is }

  said_in : (cause : Why) (line : List ℕ) → ShowsCause (facts elsewhere) cause now → SaysCause elsewhere cause line now → SaysCause p cause line now
  said_in why.Done line e s = s
  said_in why.CellError line e s = absurd (true≢false (sym e ∙ no_error elsewhere was))
  said_in why.NotReady line e s = s
  said_in why.NoIdle line e s = absurd (subst (λ rs. LacksIdle (last_request 0 rs)) was e)
  said_in why.TimedOut line e s = absurd (subst (λ rs. LacksReply (last_request 0 rs)) was e)
  said_in why.KernelLost line e s = s
  said_in why.BadPeer line e s = record { bad = s.bad; broken = record { at = s.broken.at; fault = s.broken.fault; place = s.broken.place }; says = s.says }

  whole_in : IsWhole (facts elsewhere) now → IsWhole (facts p) now
  unfolding is_any_broken
  whole_in e = e

  over_in : (cause : Why) → ShowsCause (facts elsewhere) cause now → IsTimeOver (facts p) cause now
  over_in why.Done e = tt
  over_in why.CellError e = tt
  over_in why.NotReady e = tt
  over_in why.NoIdle e = absurd (subst (λ rs. LacksIdle (last_request 0 rs)) was e)
  over_in why.TimedOut e = absurd (subst (λ rs. LacksReply (last_request 0 rs)) was e)
  over_in why.KernelLost e = tt
  over_in why.BadPeer e = tt

  -- so a job has ended with an answer in whichever session
  answered_in : (a : Answer) → HasAnswered elsewhere a now → HasAnswered p a now
  answered_in a h = record {
    ended = ended_in_session p x now was is runs h.ended;
    stopped = λ cause e.
        let t = h.stopped cause e in
        record {
          stopped = record {
            shown = shown_in cause t.stopped.shown;
            texts = sym (same_texts p x now) ∙ t.stopped.texts ∙ ap (λ (ss : List Save). map (λ (s : Save). Some s.text) ss) (saves_in_session p x now was is runs (Some cause));
          };
          late = λ late. record { whole = whole_in (t.late late).whole; over = over_in cause t.stopped.shown };
          says = said_in cause a.line t.stopped.shown t.says;
        };
  }

-- an execution of this job is to begin
pub to_begin : (p : Plot) (number : ℕ) (ask : Ask) (given : Notebook) (x : Execution) (now : List Entry) → IsPlotOf p number ask given → IsFresh p now → IsUnbegun given x → output_of x.book ≡ ask.output
    → merge_of x.book ≡ ask.merge → task_of x.core ≡ task_for ask given → AreTermsOf ask x.terms → x.session.name ≡ p.setting.session → x.session.key ≡ p.setting.key → IsToBegin p number x now
to_begin p number ask given x now is fresh unbegun output merge task terms name key = record {
  unbegun = subst (λ n. IsUnbegun n x) (sym is.first_is) unbegun;
  is_for = record {
    number_is = is.number_is;
    session_is = name;
    key_is = key;
    task_is = task ∙ sym is.task_is;
    runs = fresh.runs;
    output_is = output ∙ ap (λ (a : Ask). a.output) (sym is.ask_is);
    merge_is = merge ∙ ap (λ (a : Ask). a.merge) (sym is.ask_is);
  };
  terms = subst (λ a. AreTermsOf a x.terms) (sym is.ask_is) terms;
  fresh = fresh;
}

-- what the begin leaves, by how it ended
pub starts_as : (p : Plot) (number : ℕ) (ask : Ask) (given : Notebook) (x : Execution) (before now : List Entry) (r : Result Job End) → IsPlotOf p number ask given → IsFresh p before → IsUnbegun given x
    → output_of x.book ≡ ask.output → merge_of x.book ≡ ask.merge → task_of x.core ≡ task_for ask given → AreTermsOf ask x.terms
    → IfOk r (SpeaksOn x)
    → (IsToBegin p number x before → BeginsOrEnds p r now) → (IsToBegin (in_session p x) number x before → BeginsOrEnds (in_session p x) r now)
    → (IsFresh p before → requests (facts p) now ≡ []) → (IsFresh (in_session p x) before → requests (facts (in_session p x)) now ≡ []) → StartsOrEnds p r now
starts_as p number ask given x before now (Ok j) is fresh unbegun output merge task terms speaks so other none other_none = λ s.
    so (to_begin p number ask given x before is fresh unbegun output merge task terms (sym speaks.name ∙ s.session_is) (sym speaks.key ∙ s.key_is))
starts_as p number ask given x before now (Err e) is fresh unbegun output merge task terms speaks so other none other_none =
    let of : IsPlotOf (in_session p x) number ask given = record { number_is = is.number_is; ask_is = is.ask_is; first_is = is.first_is; task_is = is.task_is } in
    let begins : IsFresh (in_session p x) before = fresh_in_session p x before fresh in
    let so = other (to_begin (in_session p x) number ask given x before of begins unbegun output merge task terms refl refl) in
    λ a answers. answered_in p x now (other_none begins) (none fresh) fresh.runs a (so a answers)

-- a job whose first save was made
pub job_begun : (p : Plot) (j : Job) (number : ℕ) (x : Execution) (now : List Entry) → j.run ≡ x → j.number ≡ number → j.outcome ≡ None → number ≡ p.setting.number → j.paths.output ≡ p.ask.output
    → (facts p).task.times.interrupt ≡ false → IsWhole (facts p) now → Stands p number x now → JobStands p j now
job_begun p j number x now run of outcome own output undated whole s = record {
  number_is = of ∙ own;
  output_is = output;
  undated = undated;
  runs = λ e. subst (λ n. Stands p n j.run now) (sym of) (subst (λ (v : Execution). Stands p number v now) (sym run) s);
  whole = λ e. whole;
  ended = λ a is. (let both : None ≡ Some a = sym outcome ∙ is in absurd (cc));
}
