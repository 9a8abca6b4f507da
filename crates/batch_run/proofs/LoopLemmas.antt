-- What calls of the loop leave of what each job of a run stands for, and of the loop.
use Rattle.std.proofs.Common.{◌≡◌, ◌≢◌, inl, inr, ◌<◌, ◌≤◌, ◌==◌, ℕ, suc, Bool, true, false, List, length, Option, Some, None, Result, Ok, Err, refl, sym, ◌∙◌, ap, subst, arith}
use Rattle.std.specs.Prelude.{if◌then◌else◌, not, slice_get, take, IfSome}
use Rattle.std.proofs.lemmas.Bool.{cases_eq, false_from_ne_true, false≢true, ne_eqb}
use Rattle.std.proofs.lemmas.Option.{slice_get_within, same_Some}
use Rattle.jtext.proofs.Lists.{some_at}
use Rattle.words.specs.declared.ask.Ask.{Ask}
use Rattle.nb_model.specs.declared.notebook.Notebook.{Notebook}
use Rattle.world.specs.declared.chan.Chan.{Chan}
use Rattle.world.specs.declared.chan.Chan.TheVariants.{Iopub}
use Rattle.world.specs.declared.conn.Conn.{Conn}
use Rattle.world.specs.declared.connected.Connected.TheVariants as connected
use Rattle.world.specs.declared.entry.Entry.{Entry}
use Rattle.world.specs.declared.entry.Entry.TheVariants as made
use Rattle.world.specs.Counts.{Counts}
use Rattle.world.specs.Moments.{Since, start, Told}
use Rattle.world.specs.Places.{is_at, place_of, status, time}
use Rattle.world.proofs.CountsLemmas.{grow_same}
use Rattle.world.proofs.MomentsLemmas.{told_as, told_start}
use Rattle.world.proofs.StatusLemmas.{chan_below, status_elsewhere}
use Rattle.ready_loop.specs.declared.fault.LoopFault.{LoopFault}
use Rattle.ready_loop.specs.declared.next.Next.{Next}
use Rattle.ready_loop.specs.declared.next.Next.TheVariants as next
use Rattle.ready_loop.specs.declared.readiness.Loop.{Loop}
use Rattle.ready_loop.specs.Begins.{Begins, done, more, failed, BeginMoment, CloseMoment, Closes, is_of_job, port_of, unless_closed}
use Rattle.ready_loop.specs.History.{History, after_begin, after_names, after_next, chans, conn_on}
use Rattle.ready_loop.specs.Offers.{Extends, JobMoment, OfferMoment}
use Rattle.ready_loop.specs.Reads.{NextCame, ReadMoment}
use Rattle.ready_loop.specs.Standing.{Goes, StandsFor}
use Rattle.ready_loop.specs.States.{SameKnown, begun_at, begun_in, known_at}
use Rattle.ready_loop.specs.Wires.{ports_in}
use Rattle.ready_loop.proofs.JobLemmas.{conn_in_job}
use Rattle.ready_loop.specs.Waits.{Looked, Turned}
use Rattle.run_journal.specs.Job.{Job as Facts}
use Rattle.job_journal.specs.Quiet.{IsQuietNow}
use Rattle.other_jobs.specs.Reads.{BringsBytes}
use Rattle.other_jobs.specs.Refused.{RefusedUnread}
use Rattle.other_jobs.specs.Turns.{BringsMoment}
use Rattle.other_jobs.proofs.Connecting.{begins_quiet, job_offers_quiet, offers_quiet}
use Rattle.other_jobs.proofs.Loops.{closes_quiet}
use Rattle.other_jobs.proofs.Reading.{next_brings}
use Rattle.other_jobs.proofs.Refusals.{begins_unread, closes_unread, job_offers_unread, offers_unread, reads_unread}
use Rattle.other_jobs.proofs.Shutting.{reads_quiet}
use Rattle.other_jobs.proofs.Turning.{look_brings, looks_unread, turn_brings, turns_unread}
use Rattle.job_turns.specs.OwedTo as to
use Rattle.batch_run.specs.declared.slot.Slot.{Slot}
use Rattle.batch_run.specs.declared.slot.Slot.TheVariants.{Waiting, Running, Ended}
use Rattle.batch_run.specs.Due.{is_slot_over}
use Rattle.batch_run.specs.Owed.{Owed, AreClosed, AreServed, IsListening, SlotFollows, StaysFresh, after_read, has_lines, may_wait, owed_to}
use Rattle.batch_run.specs.Owed.{none, begins, piece, turn_clock}
use Rattle.batch_run.specs.Stands.{Outset, AllStand, AreTaken, NoneOver, NoneWantsLook, is_slot_running, served_by}
use Rattle.batch_run.proofs.FollowLemmas.{follows_connects, follows_read_ended, follows_read_other, follows_read_own, follows_read_waiting, follows_turned_ended, follows_turned_running, follows_turned_waiting, from_other, from_same, piece_other, piece_own, served_as, waits_each}
use Rattle.batch_run.proofs.JournalLemmas.{told_at}
use Rattle.batch_run.proofs.PassLemmas.{OnePass, one_as, one_quiet, one_stays, one_unknown, served_split}
use Rattle.batch_run.proofs.StandLemmas.{Follow, loop_keeps}
use Rattle.batch_run.proofs.WireLemmas.{own_job}

-- ---- calls that bring nothing to any job

-- the loop goes on, and what is new is quiet for each job
pub record BringsNone (old new : Loop) (x y : List Entry) : Type 0 where
  pub stands : (h : History) → StandsFor old h x → (g : History) × StandsFor new g y
  pub unread : (h : History) → StandsFor old h x → RefusedUnread x → RefusedUnread y
  pub quiet : (h : History) → StandsFor old h x → RefusedUnread x → (f : Facts) → f.number < 16 → Since (IsQuietNow f) x y

-- no connection is begun, nor one that was closed
pub record KeepsLinks (old new : Loop) : Type 0 where
  pub known : (p : ℕ) → known_at new p ≡ known_at old p
  pub closed : (p : ℕ) → begun_at old p ≡ false → begun_at new p ≡ false

pub links_same : {old new : Loop} → SameKnown old new → KeepsLinks old new
links_same same = record { known = same.each; closed = λ p e. same.begun p ∙ e }

by_rule : {rule : History → List Entry → Type 0} {step : History → History} {old new : Loop} {x y : List Entry} → ((h : History) → Since (rule h) x y → RefusedUnread x → RefusedUnread y)
    → ((f : Facts) (h : History) → f.number < 16 → RefusedUnread x → Since (rule h) x y → Since (IsQuietNow f) x y) → Goes rule step old new x y → BringsNone old new x y
by_rule {step = step} unread quiet g = record {
  stands = λ h s. (step h, (g.so h s).0);
  unread = λ h s u. unread h (g.so h s).1 u;
  quiet = λ h s u f low. quiet f h low u (g.so h s).1;
}

pub offers_none : {step : History → History} {old new : Loop} {p q : Option (List Entry)} → Told p q (Goes (OfferMoment false) step old new) → Told p q (BringsNone old new)
offers_none told = told_as told (λ x y g. by_rule (λ h s u. offers_unread false h x y s u) (λ f h low u s. offers_quiet f h x y low u s) g)

pub job_none : {step : History → History} {job : ℕ} {old new : Loop} {p q : Option (List Entry)} → Told p q (Goes (JobMoment job) step old new) → Told p q (BringsNone old new)
job_none {job = job} told = told_as told (λ x y g. by_rule (λ h s u. job_offers_unread job h x y s u) (λ f h low u s. job_offers_quiet f job h x y low u s) g)

pub closes_none : {step : History → History} {old new : Loop} {p q : Option (List Entry)} → Told p q (Goes CloseMoment step old new) → Told p q (BringsNone old new)
closes_none told = told_as told (λ x y g. by_rule (λ h s u. closes_unread h x y s u) (λ f h low u s. closes_quiet f h x y s) g)

pub looks_none : {jobs : List Bool} {result : Result (List Bool) LoopFault} {last : ℕ} {old new : Loop} {p q : Option (List Entry)} → Told p q (Looked jobs result last old new) → Told p q (BringsNone old new)
looks_none {jobs} {result} {last} {old} {new} told = told_as told (λ x y l. record {
  stands = λ h s. (after_names result h, (l.so h s).0);
  unread = λ h s u. looks_unread jobs result last old new h x y s l u;
  quiet = λ h s u f low. look_brings f jobs result last old new h x y low s l u;
})

pub faults_none : {due : Option ℕ} {fault : LoopFault} {last : ℕ} {old new : Loop} {p q : Option (List Entry)} → Told p q (Turned due (Err fault) last old new) → Told p q (BringsNone old new)
faults_none {due} {fault} {last} {old} {new} told = told_as told (λ x y t. record {
  stands = λ h s. (h, (t.so h s).0);
  unread = λ h s u. turns_unread due (Err fault) last old new h x y s t u;
  quiet = λ h s u f low. turn_brings due (Err fault) last old new h x y s t f;
})

served_on : (asks : ℕ → Option Ask) (o : Owed) {old new : Loop} (slots : List Slot) {x y : List Entry} (g : History) → KeepsLinks old new → StandsFor new g y → RefusedUnread y → AreServed asks o old slots x → AreServed asks o new slots y
served_on asks o slots g links stands unread s = record {
  history = g;
  stands = stands;
  unread = unread;
  listens = λ i j got e. links.known (place_of (conn_on i Iopub)) ∙ s.listens i j got e;
  closed = λ i b answer at got chan. links.closed (place_of (conn_on i chan)) (s.closed i b answer at got chan);
}

low_of : (slots : List Slot) (i : ℕ) (slot : Slot) → length slots ≤ 16 → slice_get slots i ≡ Some slot → i < 16
low_of slots i slot few got = let low = slice_get_within slots i slot got in omega (arith, low, few)

module _ (asks : ℕ → Option Ask) (first : Option (List Entry)) (from : Outset) (slots : List Slot) (p q : Option (List Entry)) (old new : Loop) (few : length slots ≤ 16) (links : KeepsLinks old new) where
  pub quiet_follow : (o : Owed) → may_wait o ≡ true → Told p q (BringsNone old new) → Follow asks first (served_by o old from) slots p q o new
  quiet_follow o wait told = record {
    each = λ before x y st e f shut served i a slot at got. elim (served_split asks o old slots x served) [
      | inl u ↦ one_as (owed_to o i) to.anything (owed_to o i) i a before x y slot (ap (λ m. owed_to m i) u) (one_unknown (owed_to o i) i a before x y slot)
      | inr s ↦
          let brings = told_at p q (BringsNone old new) x y told e f in
          one_quiet (owed_to o i) i a before x y slot (waits_each o i wait)
          (λ g number. brings.quiet s.history s.stands s.unread g (subst (λ n. n < 16) (sym number) (low_of slots i slot few got)))
    ];
    served = λ before x y st e f shut served.
        let brings = told_at p q (BringsNone old new) x y told e f in
        served_as asks o old new slots slots x y
        (λ s. served_on asks o slots (brings.stands s.history s.stands).0 links (brings.stands s.history s.stands).1 (brings.unread s.history s.stands s.unread) s) served;
    known = λ u. u;
  }

  -- ---- a turn

  turned_slot : (i : ℕ) (a : Ask) (n : Notebook) (before x y : List Entry) (ms : ℕ) (h : History) → NoneOver slots → AreTaken old slots → NoneWantsLook slots → BringsMoment ms x y → time x ≤ ms → AreServed asks none old slots x → Extends x y
      → (slot : Slot) → slice_get slots i ≡ Some slot → SlotFollows to.nothing i a n slot before x → SlotFollows (to.clock ms) i a n slot before y
  turned_slot i a n before x y ms h over taken unlooked came rises s grown Waiting got w = follows_turned_waiting ms i a n before x y came grown w
  turned_slot i a n before x y ms h over taken unlooked came rises s grown (Ended answer) got w = follows_turned_ended ms i a n before x y came grown answer w
  turned_slot i a n before x y ms h over taken unlooked came rises s grown (Running j) got w =
      follows_turned_running ms i a n before x y came grown j old s.history rises (sym (ap is_slot_over got) ∙ over.each i) (unlooked.each i j got) s.stands (s.listens i j got refl) (taken.each i j got s.history x s.stands) w

  -- the moment that is told is that of the journal, and no earlier than it was before
  pub turn_follow : {due : Option ℕ} {last : ℕ} (given ms : ℕ) → NoneOver slots → AreTaken old slots → NoneWantsLook slots → Told p q (Turned due (Ok given) last old new) → Told p q (λ x y. time x ≤ time y) → IfSome q (λ past. ms ≡ time past)
      → Follow asks first (served_by none old from) slots p q (turn_clock ms 0) new
  turn_follow {due} {last} given ms over taken unlooked told rises at = record {
    each = λ before x y st e f shut s i a slot got_ask got.
        let t = told_at p q (Turned due (Ok given) last old new) x y told e f in
        let came = turn_brings due (Ok given) last old new s.history x y s.stands t in
        let now : ms ≡ time y = subst (λ z. IfSome z (λ past. ms ≡ time past)) f at in
        let same : given ≡ ms = sym (now ∙ ap time came.newest) in
        let low : time x ≤ ms = subst (λ n. time x ≤ n) (sym now) (told_at p q (λ x y. time x ≤ time y) x y rises e f) in
        record { fresh = λ g h. tt; follows = λ n grown w. turned_slot i a n before x y ms s.history over taken unlooked (subst (λ m. BringsMoment m x y) same came) low s grown slot got w };
    served = λ before x y st e f shut s.
        let t = told_at p q (Turned due (Ok given) last old new) x y told e f in
        let on = served_on asks none slots s.history links (t.so s.history s.stands).0 (turns_unread due (Ok given) last old new s.history x y s.stands t s.unread) s in
        record { history = on.history; stands = on.stands; unread = on.unread; listens = λ i j got lined. on.listens i j got refl; closed = on.closed };
    known = λ u. absurd (cc);
  }

  -- ---- a read

  reads_none : (buffer : List ℕ) (room : ℕ) (result : Result Next LoopFault) → Told p q (Goes ReadMoment (after_next result) old new)
      → ((x y : List Entry) → NextCame result room buffer x y → (f : Facts) → Since (IsQuietNow f) x y) → Told p q (NextCame result room buffer) → Told p q (BringsNone old new)
  reads_none buffer room result goes quiet came = none_by p q goes came
    where
      none_by : (p q : Option (List Entry)) → Told p q (Goes ReadMoment (after_next result) old new) → Told p q (NextCame result room buffer) → Told p q (BringsNone old new)
      none_by p None goes came = record { so = tt }
      none_by None (Some y) goes came = absurd goes.so
      none_by (Some x) (Some y) goes came = record {
        so = record {
          stands = λ h s. (after_next result h, (goes.so.so h s).0);
          unread = λ h s u. reads_unread old h x y s (goes.so.so h s).1 u;
          quiet = λ h s u f low. quiet x y came.so f;
        };
      }

  read_slot : (conn : Conn) (room : ℕ) (bytes : List ℕ) (i : ℕ) (a : Ask) (n : Notebook) (before x y : List Entry) (h : History) → asks i ≡ Some a → NoneOver slots → BringsBytes conn room bytes x y
      → Since (ReadMoment h) x y → StandsFor old h x → AreServed asks none old slots x → Extends x y → conn.job ≡ i
      → (slot : Slot) → slice_get slots i ≡ Some slot → SlotFollows to.nothing i a n slot before x → SlotFollows (to.piece conn.chan bytes) i a n slot before y
  read_slot conn room bytes i a n before x y h at over came reads stands s grown own Waiting got w = follows_read_waiting conn room bytes i a n before x y came grown w
  read_slot conn room bytes i a n before x y h at over came reads stands s grown own (Running j) got w =
      follows_read_own conn room bytes i a n before x y came grown j own (sym (ap is_slot_over got) ∙ over.each i) w
  read_slot conn room bytes i a n before x y h at over came reads stands s grown own (Ended answer) got w =
      follows_read_ended conn room bytes i a n before x y came grown answer
      (λ f number. reads_quiet f old h x y (subst (λ m. m < 16) (sym number) (low_of slots i (Ended answer) few got)) stands
      (λ chan. subst (λ m. begun_at old (place_of (conn_on m chan)) ≡ false) (sym number) (s.closed i a answer at got chan)) reads) w

  piece_follow : (conn : Conn) (n room : ℕ) (buffer : List ℕ) → NoneOver slots → Told p q (Goes ReadMoment (after_next (Ok (next.Piece conn n))) old new) → Told p q (NextCame (Ok (next.Piece conn n)) room buffer)
      → Follow asks first (served_by none old from) slots p q (piece conn (take n buffer)) new
  piece_follow conn n room buffer over told came = record {
    each = λ before x y st e f shut s i a slot at got.
        let goes = told_at p q (Goes ReadMoment (after_next (Ok (next.Piece conn n))) old new) x y told e f in
        let brings = next_brings (Ok (next.Piece conn n)) room buffer x y (told_at p q (NextCame (Ok (next.Piece conn n)) room buffer) x y came e f) in
        record {
          fresh = λ g h. fresh_piece i a before y;
          follows = λ book grown w. elim (cases_eq conn.job i) [
            | inl own ↦
                subst (λ t. SlotFollows t i a book slot before y) (sym (piece_own conn (take n buffer) i own))
                (read_slot conn room (take n buffer) i a book before x y s.history at over brings (goes.so s.history s.stands).1 s.stands s grown own slot got w)
            | inr ne ↦
                subst (λ t. SlotFollows t i a book slot before y) (sym (piece_other conn (take n buffer) i ne))
                (follows_read_other conn room (take n buffer) i a book before x y brings grown slot ne w)
          ];
        };
    served = λ before x y st e f shut s.
        let goes = told_at p q (Goes ReadMoment (after_next (Ok (next.Piece conn n))) old new) x y told e f in
        let on = served_on asks none slots s.history links (goes.so s.history s.stands).0 (reads_unread old s.history x y s.stands (goes.so s.history s.stands).1 s.unread) s in
        record { history = on.history; stands = on.stands; unread = on.unread; listens = λ i j got lined. on.listens i j got refl; closed = on.closed };
    known = λ u. absurd (cc);
  }
    where
      fresh_chosen : (b : Bool) (i : ℕ) (a : Ask) (before y : List Entry) → StaysFresh (if b then to.piece conn.chan (take n buffer) else to.nothing) i a before y
      fresh_chosen true i a before y = tt
      fresh_chosen false i a before y = tt

      fresh_piece : (i : ℕ) (a : Ask) (before y : List Entry) → StaysFresh (owed_to (piece conn (take n buffer)) i) i a before y
      fresh_piece i a before y = fresh_chosen (conn.job == i) i a before y

  -- what is owed after a read, by its answer
  pub read_follow : (E : Type 0) (came_next : Next) (room : ℕ) (buffer : List ℕ) → NoneOver slots → Told p q (Goes ReadMoment (after_next (Ok came_next)) old new)
      → Told p q (NextCame (Ok came_next) room buffer) → Follow asks first (served_by none old from) slots p q (after_read {E = E} (Ok came_next) buffer) new
  read_follow E (next.Piece conn n) room buffer over told came = piece_follow conn n room buffer over told came
  read_follow E (next.Ended conn) room buffer over told came =
      quiet_follow none refl (reads_none buffer room (Ok (next.Ended conn)) told (λ x y c f. next_brings (Ok (next.Ended conn)) room buffer x y c f) came)
  read_follow E (next.Refused conn) room buffer over told came =
      quiet_follow none refl (reads_none buffer room (Ok (next.Refused conn)) told (λ x y c f. next_brings (Ok (next.Refused conn)) room buffer x y c f) came)
  read_follow E next.Quiet room buffer over told came =
      quiet_follow none refl (reads_none buffer room (Ok next.Quiet) told (λ x y c f. next_brings (Ok next.Quiet) room buffer x y c f) came)

  pub read_fault : {E : Type 0} (fault : LoopFault) (e : E) (room : ℕ) (buffer : List ℕ) → Told p q (Goes ReadMoment (after_next (Err fault)) old new) → Told p q (NextCame (Err fault) room buffer)
      → Follow asks first (served_by none old from) slots p q (after_read (Err e) buffer) new
  read_fault fault e room buffer told came = quiet_follow none refl (reads_none buffer room (Err fault) told (λ x y c f. next_brings (Err fault) room buffer x y c f) came)

-- ---- connections that are begun

-- the places of two jobs
apart_at : (i job : ℕ) (a b : Chan) → i ≢ job → is_at (place_of (conn_on i a)) (conn_on job b) ≡ false
apart_at i job a b ne = ne_eqb (place_of (conn_on i a)) (place_of (conn_on job b)) (λ e. omega (arith, e, chan_below a, chan_below b, ne))

not_own : (i job : ℕ) (a : Chan) → i ≢ job → is_of_job job (place_of (conn_on i a)) ≡ false
not_own i job a ne = false_from_ne_true (is_of_job job (place_of (conn_on i a))) (λ own. ne (own_job job (conn_on i a) own))

begins_elsewhere : {U : Type 0} (i job : ℕ) (a : Chan) (ports : List ℕ) {chans : List Chan} {result : Result U LoopFault} {x y : List Entry} → i ≢ job → Begins job ports chans result x y
    → status (place_of (conn_on i a)) y ≡ status (place_of (conn_on i a)) x
begins_elsewhere i job a ports ne (done u past) = refl
begins_elsewhere i job a ports ne (more chan rest how result before after sound b) =
    begins_elsewhere i job a ports ne b ∙ status_elsewhere (place_of (conn_on i a)) (made.Connected (conn_on job chan) (port_of ports chan) how) before (apart_at i job a chan ne)
begins_elsewhere i job a ports ne (failed chan rest before) = status_elsewhere (place_of (conn_on i a)) (made.Connected (conn_on job chan) (port_of ports chan) connected.Failed) before (apart_at i job a chan ne)

-- a connection is begun by the loop as the journal has it
begun_is : (l : Loop) (h : History) (x : List Entry) (p : ℕ) → p < 64 → StandsFor l h x → begun_at l p ≡ (status p x).begun
begun_is l h x p low stand =
    let (link, found) = some_at l.links p (omega (arith, stand.size, low)) in
    ap begun_in found ∙ (stand.each p link found).stage

still_closed : {U : Type 0} (i job : ℕ) (a : Chan) (ports : List ℕ) {chans : List Chan} {result : Result U LoopFault} {x y : List Entry} (old new : Loop) (h g : History) → i < 16 → i ≢ job
    → Begins job ports chans result x y → StandsFor old h x → StandsFor new g y → begun_at old (place_of (conn_on i a)) ≡ false → begun_at new (place_of (conn_on i a)) ≡ false
still_closed i job a ports {x = x} {y = y} old new h g low ne b s t shut =
    let at : place_of (conn_on i a) < 64 = omega (arith, low, chan_below a) in
    begun_is new g y (place_of (conn_on i a)) at t ∙ ap (λ w. w.begun) (begins_elsewhere i job a ports ne b) ∙ sym (begun_is old h x (place_of (conn_on i a)) at s) ∙ shut

-- of a job that was begun the connections were
lines_begun : (job : ℕ) (old new : Loop) (i : ℕ) → IsListening new job → ((p : ℕ) → is_of_job job p ≡ false → known_at new p ≡ known_at old p)
    → (has_lines (begins job) i ≡ true → IsListening old i) → has_lines (begins (suc job)) i ≡ true → IsListening new i
lines_begun job old new i begun others was lined = elim (cases_eq i job) [
  | inl e ↦ subst (λ m. IsListening new m) (sym e) begun
  | inr ne ↦ others (place_of (conn_on i Iopub)) (not_own i job Iopub ne) ∙ was (ap not (sym (from_other job i ne)) ∙ lined)
]

lines_failed : (job : ℕ) (old new : Loop) (i : ℕ) → ((p : ℕ) → is_of_job job p ≡ false → known_at new p ≡ known_at old p)
    → (has_lines (begins job) i ≡ true → IsListening old i) → has_lines (begins job) i ≡ true → IsListening new i
lines_failed job old new i others was lined = elim (cases_eq i job) [
  | inl same ↦ absurd (false≢true (sym (ap not (from_same job)) ∙ subst (λ m. has_lines (begins job) m ≡ true) same lined))
  | inr ne ↦ others (place_of (conn_on i Iopub)) (not_own i job Iopub ne) ∙ was lined
]

running_ne : (slots : List Slot) (job i : ℕ) (slot : Slot) → is_slot_running (slice_get slots job) ≡ true → slice_get slots i ≡ Some slot → is_slot_running (Some slot) ≡ false → i ≢ job
running_ne slots job i slot runs got idle same =
    false≢true (sym idle ∙ sym (ap is_slot_running (subst (λ m. slice_get slots m ≡ Some slot) same got)) ∙ runs)

module _ {V : Type 0} (asks : ℕ → Option Ask) (first : Option (List Entry)) (from : Outset) (slots : List Slot) (p q : Option (List Entry)) (old new : Loop) (few : length slots ≤ 16)
    (job : ℕ) (ports : List ℕ) (heart : Bool) (came : Result V LoopFault) (runs : is_slot_running (slice_get slots job) ≡ true)
    (goes : Told p q (Goes BeginMoment (after_begin job heart came) old new)) (begun : Told p q (Begins job ports (chans heart) came))
    (others : (n : ℕ) → is_of_job job n ≡ false → known_at new n ≡ known_at old n) where
  begun_slot : (i : ℕ) (a : Ask) (before x y : List Entry) → Begins job ports (chans heart) came x y → (slot : Slot) → slice_get slots i ≡ Some slot → OnePass to.first_clock to.first_clock i a before x y slot
  begun_slot i a before x y b Waiting got =
      let ne = running_ne slots job i Waiting runs got refl in
      one_quiet to.first_clock i a before x y Waiting refl (λ f number. begins_quiet f job ports b (λ e. absurd (ne (sym number ∙ sym e))))
  begun_slot i a before x y b (Ended answer) got =
      let ne = running_ne slots job i (Ended answer) runs got refl in
      one_quiet to.first_clock i a before x y (Ended answer) refl (λ f number. begins_quiet f job ports b (λ e. absurd (ne (sym number ∙ sym e))))
  begun_slot i a before x y b (Running j) got = record {
    fresh = λ e. absurd (cc);
    follows = λ n grown w. follows_connects i job a n j before x y grown (λ f number unread. begins_quiet f job ports b unread) w;
  }

  begun_served : (rest : Owed) → ((i : ℕ) → (has_lines (begins job) i ≡ true → IsListening old i) → has_lines rest i ≡ true → IsListening new i) → (x y : List Entry) → p ≡ Some x → q ≡ Some y
      → AreServed asks (begins job) old slots x → AreServed asks rest new slots y
  begun_served rest lines x y e f s =
      let b = told_at p q (Begins job ports (chans heart) came) x y begun e f in
      let g = told_at p q (Goes BeginMoment (after_begin job heart came) old new) x y goes e f in
      record {
        history = after_begin job heart came s.history;
        stands = (g.so s.history s.stands).0;
        unread = begins_unread job ports (chans heart) came x y b s.unread;
        listens = λ i j got lined. lines i (λ was. s.listens i j got was) lined;
        closed = λ i a answer at got chan.
            let ne = running_ne slots job i (Ended answer) runs got refl in
            still_closed i job chan ports old new s.history (after_begin job heart came s.history) (low_of slots i (Ended answer) few got) ne b s.stands (g.so s.history s.stands).0 (s.closed i a answer at got chan);
      }

  pub begin_follow : IsListening new job → Follow asks first (served_by (begins job) old from) slots p q (begins (suc job)) new
  begin_follow listens = record {
    each = λ before x y st e f shut s i a slot at got. begun_slot i a before x y (told_at p q (Begins job ports (chans heart) came) x y begun e f) slot got;
    served = λ before x y st e f shut s. begun_served (begins (suc job)) (λ i was lined. lines_begun job old new i listens others was lined) x y e f s;
    known = λ u. absurd (cc);
  }

  pub begin_fails : Follow asks first (served_by (begins job) old from) slots p q (begins job) new
  begin_fails = record {
    each = λ before x y st e f shut s i a slot at got. begun_slot i a before x y (told_at p q (Begins job ports (chans heart) came) x y begun e f) slot got;
    served = λ before x y st e f shut s. begun_served (begins job) (λ i was lined. lines_failed job old new i others was lined) x y e f s;
    known = λ u. u;
  }

-- ---- octets that are queued

pub queue_follow : (asks : ℕ → Option Ask) (first : Option (List Entry)) (from : Outset) (slots : List Slot) (p : Option (List Entry)) (old new : Loop) (o : Owed) → KeepsLinks old new
    → ((h : History) (journal : List Entry) → StandsFor old h journal → (g : History) × StandsFor new g journal) → Follow asks first (served_by o old from) slots p p o new
queue_follow asks first from slots p old new o links stands = record {
  each = λ before x y st e f shut served i a slot at got. one_stays (owed_to o i) (owed_to o i) i a before x y slot refl (same_Some _ _ (sym e ∙ f));
  served = λ before x y st e f shut served.
      served_as asks o old new slots slots x y
      (λ s. served_on asks o slots (stands s.history x s.stands).0 links (subst (λ z. StandsFor new (stands s.history x s.stands).0 z) (same_Some _ _ (sym e ∙ f)) (stands s.history x s.stands).1)
      (subst RefusedUnread (same_Some _ _ (sym e ∙ f)) s.unread) s) served;
  known = λ u. u;
}

pub queue_keeps : (asks : ℕ → Option Ask) (first : Option (List Entry)) (from : Outset) (o : Owed) (slots : List Slot) (p : Option (List Entry)) (c : Counts) (old new : Loop) → ports_in new ≡ ports_in old
    → SameKnown old new → ((h : History) (journal : List Entry) → StandsFor old h journal → (g : History) × StandsFor new g journal)
    → AllStand asks first (served_by o old from) slots p c → AllStand asks first (served_by o new from) slots p c
queue_keeps asks first from o slots p c old new ports same stands s =
    loop_keeps old new ports (told_start (λ x. start)) (told_start (λ x. start)) (grow_same refl) refl asks first from slots o o
    (queue_follow asks first from slots p old new o (links_same same) stands) s

-- ---- the connections of a job are closed

unless : (b was : Bool) → was ≡ false → unless_closed b was ≡ false
unless true was e = refl
unless false was e = e

pub links_closed : (job : ℕ) {old new : Loop} → Closes (λ p. is_of_job job p) old new → KeepsLinks old new
links_closed job {old} closes = record { known = closes.known; closed = λ p e. closes.begun p ∙ unless (is_of_job job p) (begun_at old p) e }

pub job_closed : (job : ℕ) {old new : Loop} → Closes (λ p. is_of_job job p) old new → AreClosed new job
job_closed job {old} closes = λ chan. closes.begun (place_of (conn_on job chan)) ∙ ap (λ b. unless_closed b (begun_at old (place_of (conn_on job chan)))) (conn_in_job (conn_on job chan) job refl)
