-- Streams that break: the journal has the fault that is noted, and while a job goes on its core was told of none.
use Rattle.std.proofs.Common.{◌≡◌, ◌≢◌, ℕ, List, [], ◌∷◌, Bool, true, false, not, cond, ◌&&◌, ◌||◌, Option, Some, None, Ok, Err, refl, sym, ◌∙◌, ap, subst}
use Rattle.std.specs.Prelude.{IfErr, OnOk, Result, is_some}
use Rattle.std.specs.Result.{IsErrAnd}
use Rattle.std.proofs.Math.Bool.{true≢false}
use Rattle.std.proofs.lemmas.Bool.{cond-false, false_from_ne_true}
use Rattle.world.specs.declared.chan.Chan.{Chan}
use Rattle.world.specs.declared.chan.Chan.TheVariants as chan
use Rattle.world.specs.declared.entry.Entry.{Entry}
use Rattle.world.specs.declared.entry.Entry.TheVariants as made
use Rattle.world.specs.Moments.{Since, start, more}
use Rattle.world.specs.Parts.{IsOf, OnDisk, OnWire, part_of}
use Rattle.words.specs.declared.ask.Ask.{Ask}
use Rattle.zmtp_wire.specs.declared.fault.WireFault.{WireFault}
use Rattle.zmtp_wire.proofs.MeaningLemmas.{brought}
use Rattle.zmtp_wire.specs.Meaning.{answer_to}
use Rattle.zmtp_peer.specs.Peer.{Brings}
use Rattle.kernel_lines.specs.Ends.{answer_by}
use Rattle.kernel_lines.specs.Happened.{History, came_in}
use Rattle.kernel_lines.specs.Line.{StandsFor as LineStandsFor, role_of}
use Rattle.kernel_lines.specs.Lines.{line_on, role_on}
use Rattle.kernel_lines.specs.declared.line.Line.{Line}
use Rattle.kernel_lines.specs.declared.lines.Lines.{Lines}
use Rattle.cell_core.specs.declared.event.Event.{Event}
use Rattle.cell_core.specs.declared.event.Event.TheVariants.{Broken}
use Rattle.cell_core.specs.declared.machine.Core.{Core}
use Rattle.cell_core.specs.declared.why.Why.{Why}
use Rattle.cell_core.specs.declared.why.Why.TheVariants as why
use Rattle.cell_core.specs.Acts.{awaits_saved, has_stopped, heard, is_empty}
use Rattle.cell_core.specs.Events.{came, is_broken, is_lost, look_since}
use Rattle.cell_core.specs.Requests.{standing}
use Rattle.cell_core.specs.Saves.{is_cell_error, is_done, late_cause, pending_saves, why as why_of}
use Rattle.cell_core.specs.StandsFor.{StandsFor, awaits_saved_of, task_of}
use Rattle.cell_core.specs.Task.{Task}
use Rattle.cell_core.proofs.Answering.{heard_all}
use Rattle.cell_core.proofs.Moving.{is_stopped}
use Rattle.job_end.specs.declared.end.End.{End}
use Rattle.save_disk.specs.Entries.{SaveOf}
use Rattle.save_disk.proofs.Laws.{part_of_save}
use Rattle.progress_save.specs.Saved.{SaveAnswer}
use Rattle.job_saves.specs.Calls.{Cast, IsCall, IsCallOf}
use Rattle.run_journal.specs.Job.{Job}
use Rattle.run_journal.specs.Jupyter.{Speaker}
use Rattle.run_journal.specs.Parts.{bytes_got}
use Rattle.run_journal.specs.Why.{bad_by, fault_on}
use Rattle.job_journal.specs.Ended.{bad_with}
use Rattle.job_journal.specs.Plot.{Plot, facts, speaker}
use Rattle.job_journal.specs.Standing.{OnLines, Reads}
use Rattle.job_journal.specs.Told.{Hears}
use Rattle.job_journal.proofs.Breaking.{breaks_on as fault_answered, broken_same, fault_breaks, mapped}
use Rattle.job_journal.proofs.Bytes.{got_more}
use Rattle.job_run.specs.declared.execution.Execution.{Execution}
use Rattle.job_run.specs.Held.{IsCalm}
use Rattle.job_run.specs.Standing.{BreaksAs, IsGot, NotesBroken, StandsOrEnds}
use Rattle.job_run.specs.Told.{KeepsBroken, KnowsBroken}
use Rattle.job_run.proofs.LiveLemmas.{hears_at, live_at}

-- ---- what the core was told

no_cause : (x y : Bool) → (x && y) ≡ false → not y ≡ false → x ≡ false
no_cause true true e f = e
no_cause true false e f = f
no_cause false y e f = refl

some_cause : (d c b : Bool) (rest : Option Why) → b ≡ true → is_some (cond d (Some why.Done) (cond c (Some why.CellError) (cond b (Some why.BadPeer) rest))) ≡ true
some_cause true c b rest e = refl
some_cause false true b rest e = refl
some_cause false false true rest e = refl
some_cause false false false rest e = absurd (true≢false (sym e))

-- a core that was told of a broken stream, and awaits no save, has stopped
unbroken : (task : Task) (told : List Event) → has_stopped task (heard task told) ≡ false → awaits_saved task told ≡ false → came is_broken told ≡ false
unbroken task told on calm =
    let now : List Event = heard task told in
    let none : is_some (why_of task now) ≡ false = no_cause (is_some (why_of task now)) (is_empty (pending_saves task now)) on calm in
    false_from_ne_true (came is_broken told) (λ e.
    true≢false
    (sym
    (some_cause (is_done task now) (is_cell_error (standing task now)) (came is_broken now) (cond (look_since is_lost now) (Some why.KernelLost) (late_cause task (standing task now) now))
    (ap (came is_broken) (heard_all task told on) ∙ e))
    ∙ none))

neither : {A : Type 0} (b d : Bool) → b ≡ false → d ≡ false → (b || d) ≡ true → A
neither true d e f g = absurd (true≢false e)
neither false true e f g = absurd (true≢false f)
neither false false e f g = absurd (true≢false (sym g))

-- so an event that tells of none leaves it without
pub none_broke : {A : Type 0} (j : Job) (core : Core) (told : List Event) → Hears j core told → task_of core ≡ j.task → awaits_saved_of core ≡ false → (e : Event) → is_broken e ≡ false
    → came is_broken (e ∷ told) ≡ true → A
none_broke j core told h task_is calm e other =
    neither (is_broken e) (came is_broken told) other
    (unbroken j.task told h.goes_on (subst (λ task. awaits_saved task told ≡ false) task_is (sym h.stands.awaited ∙ calm)))

-- ---- what it still was told

more_heard : (b : Bool) (e : Event) (events : List Event) → came is_broken events ≡ true → came is_broken (cond b events (e ∷ events)) ≡ true
more_heard true e events k = k
more_heard false e events k = or_more (is_broken e) (came is_broken events) k
  where
    or_more : (x y : Bool) → y ≡ true → (x || y) ≡ true
    or_more true y h = refl
    or_more false y h = h

-- with one event more a core still was told of a broken stream
pub broken_more : (old new : Core) (e : Event) → task_of new ≡ task_of old → (b : KnowsBroken old) → StandsFor new (e ∷ b.events) → KnowsBroken new
broken_more old new e same b stands =
    let heard_then : List Event = heard (task_of old) b.events in
    record {
      events = e ∷ b.events;
      stands = stands;
      broken = subst (λ task. came is_broken (heard task (e ∷ b.events)) ≡ true) (sym same) (more_heard (has_stopped (task_of old) heard_then) e heard_then b.broken);
    }

-- a core that goes on, and is told of one, was
pub broken_now : (old new : Core) (told : List Event) → task_of new ≡ task_of old → has_stopped (task_of old) (heard (task_of old) told) ≡ false → StandsFor new (Broken ∷ told) → KnowsBroken new
broken_now old new told same on stands =
    let heard_then : List Event = heard (task_of old) told in
    record {
      events = Broken ∷ told;
      stands = stands;
      broken = subst (λ task. came is_broken (heard task (Broken ∷ told)) ≡ true) (sym same)
          (ap (came is_broken) (cond-false (has_stopped (task_of old) heard_then) heard_then (Broken ∷ heard_then) on));
    }

-- so it doesn't go on
goes_nowhere : (j : Job) (core : Core) (told : List Event) → Hears j core told → task_of core ≡ j.task → awaits_saved_of core ≡ false → KnowsBroken core → ⊥
goes_nowhere j core told h task_is calm b =
    let task : Task = task_of core in
    let on : has_stopped task (heard task told) ≡ false = subst (λ t. has_stopped t (heard t told) ≡ false) (sym task_is) h.goes_on in
    let live : is_stopped core.state ≡ false = live_at task core.clock core.lost core.state (heard task told) h.stands.so on in
    true≢false (sym b.broken ∙ (hears_at task core.clock core.lost core.state (heard task b.events) b.stands.so calm live).unbroken)

pub broken_ends : {U : Type 0} (p : Plot) (number : ℕ) (old : Core) (y : Execution) (r : Result U End) (now : List Entry) → KnowsBroken old → OnOk r (KeepsBroken old y.core) → OnOk r (IsCalm y)
    → StandsOrEnds p number y r now → OnOk r ⊥
broken_ends p number old y (Ok u) now b keeps calm s = goes_nowhere (facts p) y.core s.parts.core.told s.parts.core.hears s.parts.is_for.task_is calm (keeps b)
broken_ends p number old y (Err e) now b keeps calm s = tt

-- ---- answers

pub on_ok : {U A : Type 0} (r : Result U End) → A → OnOk r A
on_ok (Ok u) a = a
on_ok (Err e) a = tt

pub not_ok : {U : Type 0} (r : Result U End) (k : End) → IsErrAnd r (λ e. e ≡ k) → OnOk r ⊥
not_ok (Ok u) k is = is
not_ok (Err e) k is = tt

pub by_end : {U A : Type 0} (r : Result U End) → OnOk r ⊥ → IfErr r (λ e. A) → A
by_end (Ok u) never h = absurd never
by_end (Err e) never h = h

-- ---- which entries bring no byte

-- no entry of another part of the world does
unwired : (j : Job) (entry : Entry) (past : List Entry) → part_of entry ≢ OnWire → (c : Chan) → bytes_got j c (entry ∷ past) ≡ bytes_got j c past
unwired j (made.Connected conn port how) past other c = absurd (other refl)
unwired j (made.Closed conn) past other c = absurd (other refl)
unwired j (made.Got conn room bytes) past other c = absurd (other refl)
unwired j (made.Dry conn) past other c = absurd (other refl)
unwired j (made.Ended conn by) past other c = absurd (other refl)
unwired j (made.Refused conn by) past other c = absurd (other refl)
unwired j (made.ReadFailed conn) past other c = absurd (other refl)
unwired j (made.Put conn bytes) past other c = absurd (other refl)
unwired j (made.Stuck conn) past other c = absurd (other refl)
unwired j (made.PutFailed conn) past other c = absurd (other refl)
unwired j (made.Waited ms reports did) past other c = absurd (other refl)
unwired j _ past other c = refl

-- nor a call of a job
called : (j : Job) (here : List ℕ) (starts clean : Bool) (n : ℕ) (a : Ask) (entry : Entry) (past : List Entry) → IsCallOf here starts clean n a past entry
    → (c : Chan) → bytes_got j c (entry ∷ past) ≡ bytes_got j c past
called j here starts clean n a (made.Connected conn port how) past is c = absurd is
called j here starts clean n a (made.Closed conn) past is c = absurd is
called j here starts clean n a (made.Got conn room bytes) past is c = absurd is
called j here starts clean n a (made.Dry conn) past is c = absurd is
called j here starts clean n a (made.Ended conn by) past is c = absurd is
called j here starts clean n a (made.Refused conn by) past is c = absurd is
called j here starts clean n a (made.ReadFailed conn) past is c = absurd is
called j here starts clean n a (made.Put conn bytes) past is c = absurd is
called j here starts clean n a (made.Stuck conn) past is c = absurd is
called j here starts clean n a (made.PutFailed conn) past is c = absurd is
called j here starts clean n a (made.Waited ms reports did) past is c = absurd is
called j here starts clean n a _ past is c = refl

pub calls_bring_none : (j : Job) (cast : Cast) (before now : List Entry) → Since (IsCall cast) before now → (c : Chan) → bytes_got j c now ≡ bytes_got j c before
calls_bring_none j cast before now start c = refl
calls_bring_none j cast before now (more {past} {entry} w is) c =
    called j cast.here cast.starts cast.clean is.number is.ask entry past is.is c ∙ calls_bring_none j cast before past w c

disk_unwired : OnDisk ≢ OnWire
disk_unwired e = absurd (cc)

disk_brings_none : (j : Job) (before now : List Entry) → Since (IsOf OnDisk) before now → (c : Chan) → bytes_got j c now ≡ bytes_got j c before
disk_brings_none j before now start c = refl
disk_brings_none j before now (more {past} {entry} w is) c = unwired j entry past (λ e. disk_unwired (sym is ∙ e)) c ∙ disk_brings_none j before past w c

pub saves_bring_none : (j : Job) (output text : List ℕ) (answer : SaveAnswer) (before now : List Entry) → SaveOf output text answer before now → (c : Chan) → bytes_got j c now ≡ bytes_got j c before
saves_bring_none j output text answer before now s = disk_brings_none j before now (part_of_save output text before answer now s)

-- ---- the stream that is noted

-- where no byte came, it is broken as it was
pub notes_on : (j : Job) (broken : Option (Chan × WireFault)) (before now : List Entry) → ((c : Chan) → bytes_got j c now ≡ bytes_got j c before) → NotesBroken j broken before → NotesBroken j broken now
notes_on j broken before now same n = record {
  chan = n.chan;
  fault = n.fault;
  noted = n.noted;
  is = broken_same j (bad_with n.chan n.fault) before now (same n.chan) n.is;
}

pub breaks_on : (j : Job) (c : Chan) (fault : Option WireFault) (before now : List Entry) → ((d : Chan) → bytes_got j d now ≡ bytes_got j d before) → BreaksAs j c fault before → BreaksAs j c fault now
breaks_on j c None before now same b = tt
breaks_on j c (Some f) before now same b = broken_same j (bad_with c f) before now (same c) b

-- what is read of a connection
reads : (s : Speaker) (j : Job) (ls : Lines) (now : List Entry) → OnLines s j ls [] now → (c : Chan) → Reads j c (line_on ls c) now
reads s j ls now on chan.Shell = record { past = on.shell.past; out = on.shell.out; role = on.shell.role; stands = on.shell.stands; got = on.shell.got }
reads s j ls now on chan.Control = record { past = on.control.past; out = on.control.out; role = on.control.role; stands = on.control.stands; got = on.control.got }
reads s j ls now on chan.Iopub = record { past = on.iopub.past; out = on.iopub.out; role = on.iopub.role; stands = on.iopub.stands; got = on.iopub.got }
reads s j ls now on chan.Heart = on.heart

breaks_by : (p : Plot) (c : Chan) (now : List Entry) (fault : Option WireFault) → answer_by fault ≡ answer_to (role_on c) (bytes_got (facts p) c now) → BreaksAs (facts p) c fault now
breaks_by p c now None e = tt
breaks_by p c now (Some f) e = fault_breaks p c now f e

-- what our side answers at a piece that was got
module _ (p : Plot) (number : ℕ) (x : Execution) (c : Chan) (bytes : List ℕ) (bodies : List (List (List ℕ))) (fault : Option WireFault) (now : List Entry)
    (brings : (h : History) (out : List ℕ) → LineStandsFor (line_on x.lines c) h out → Brings (role_of (line_on x.lines c)) (came_in h) bytes [] bodies (answer_by fault))
    (g : IsGot p number x c bytes now) where
  abbrev j : Job
  j = facts p

  abbrev l : Line
  l = line_on x.lines c

  abbrev r : Reads j c l g.past
  r = reads (speaker p) j x.lines g.past g.stands.parts.lines c

  brought_now : Brings (role_on c) (bytes_got j c g.past) bytes [] bodies (answer_by fault)
  brought_now =
      subst (λ v. Brings (role_on c) v bytes [] bodies (answer_by fault)) r.got
      (subst (λ v. Brings v (came_in r.past) bytes [] bodies (answer_by fault)) r.role (brings r.past r.out r.stands))

  answers : answer_by fault ≡ answer_to (role_on c) (bytes_got j c now)
  answers =
      (brought (role_on c) (bytes_got j c g.past) bytes [] brought_now.came (answer_by fault) brought_now.brings).answers
      ∙ ap (answer_to (role_on c)) (sym (got_more j c g.conn g.room bytes g.past g.at))
      ∙ ap (λ past. answer_to (role_on c) (bytes_got j c past)) (sym g.is)

  -- where it answers a fault, the stream is broken with it
  pub got_breaks : BreaksAs j c fault now
  got_breaks = breaks_by p c now fault answers

  -- and it answers one where the stream is broken
  pub got_faulty : (after : List Entry) → bytes_got j c after ≡ bytes_got j c now → is_some (fault_on j after c) ≡ true → is_some fault ≡ true
  got_faulty after same some =
      sym (fault_answered p c (bytes_got j c now) fault answers)
      ∙ ap (λ b. is_some (j.codec.fault c b)) (sym same)
      ∙ sym (mapped (bad_by c) (j.codec.fault c (bytes_got j c after)))
      ∙ some
