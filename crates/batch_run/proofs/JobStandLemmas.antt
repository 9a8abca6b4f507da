-- How the jobs of a run stand once one of them has begun, gone on or ended.
use Rattle.std.proofs.Common.{◌≡◌, ◌≢◌, ◌≤◌, ◌⊎◌, inl, inr, ℕ, Bool, true, List, ◌∷◌, set, Option, Some, None, Result, Ok, Err, refl, sym, ◌∙◌, ap, subst}
use Rattle.std.specs.Prelude.{not, slice_get, IfSome, IfOk, IfErr}
use Rattle.std.proofs.lemmas.Option.{same_Some}
use Rattle.words.specs.declared.ask.Ask.{Ask}
use Rattle.world.specs.declared.entry.Entry.{Entry}
use Rattle.world.specs.declared.entry.Entry.TheVariants.{Read}
use Rattle.world.specs.declared.read_file.ReadFile.TheVariants as found
use Rattle.world.specs.Counts.{Counts, CountsGrow}
use Rattle.world.specs.Moments.{Since, start, Told}
use Rattle.world.specs.Touched.{Spares}
use Rattle.world.proofs.CountsLemmas.{grow_then}
use Rattle.world.proofs.MomentsLemmas.{or_none, at_start, since_then}
use Rattle.save_course.specs.Course.{IsRested}
use Rattle.save_course.proofs.RestLemmas.{spared_rest}
use Rattle.ready_loop.specs.Offers.{Extends}
use Rattle.job_end.specs.declared.answer.Answer.{Answer}
use Rattle.nb_model.specs.declared.notebook.Notebook.{Notebook}
use Rattle.job_saves.specs.Course.{Origin, CountsWork, HasCalled, TellsAll}
use Rattle.job_saves.specs.Reads.{first_of}
use Rattle.job_saves.proofs.CourseLemmas.{work_start}
use Rattle.job_run.specs.declared.job.Job.{Job}
use Rattle.job_run.specs.Run.{IsOther, Runs, RunsCounted, EndsWith, IsLost, IsSpent, IsCastAs, HasNoChild, HasNoPorts, HasNoSave, HasRole, StartsInRole, BeginsAs, number_of, outcome_of}
use Rattle.job_run.specs.Task.{task_of_job, task_for, output_of_job}
use Rattle.job_run.specs.Counted.{IsCausedAfter}
use Rattle.job_saves.specs.Left.{output_at}
use Rattle.cell_core.specs.Task.{Task}
use Rattle.job_saves.specs.Calls.{Cast, IsCall}
use Rattle.job_saves.specs.Children.{HasEnd, KeepsEnd}
use Rattle.job_saves.specs.Speaking.{IsAnswer, SpeaksWhole}
use Rattle.job_saves.proofs.ToldLemmas.{told_by}
use Rattle.job_run.specs.Told.{IsEnding, IsCaused}
use Rattle.job_run.proofs.StopLemmas.{ending_caused, ending_answers, ending_starts}
use Rattle.job_begin.specs.Begun.{Begun, without, with_notebook, counted_task, BeginsWith, FindsKernel, origin_of}
use Rattle.job_begin.specs.Causes.{HasCause}
use Rattle.job_begin.proofs.EndLemmas.{caused_in, unread_pass, other_kernel, ending_other}
use Rattle.job_begin.proofs.BeginLemmas.{starts_called}
use Rattle.batch_run.specs.declared.slot.Slot.{Slot}
use Rattle.batch_run.specs.declared.slot.Slot.TheVariants.{Waiting, Running, Ended}
use Rattle.batch_run.specs.Stands.{Outset, PlaysRole, SlotPlays, SlotTells, SlotEnds, SlotRuns, SlotTask, SlotKernel, SlotCounted, Stands, waits, spared, begun, AllStand, IsCutOff, IsOutOfWaits, hush, owing, slot_of}
use Rattle.batch_run.proofs.CallLemmas.{counted_is, sole, sole_here, plays, played, played_tells}
use Rattle.world.proofs.CountsLemmas.{rose_still, rose_since}
use Rattle.batch_run.proofs.CauseLemmas.{cause_since, waited_still}
use Rattle.batch_run.proofs.JournalLemmas.{clock_rises, extended, told_at}
use Rattle.ready_loop.proofs.LookLemmas.{extends_of}
use Rattle.batch_run.proofs.SaidLemmas.{hushed_own, hushes}
use Rattle.batch_run.proofs.StandLemmas.{change}
use Rattle.batch_run.proofs.FollowLemmas.{follows_begun, follows_finished, follows_not_begun, from_same, waits_each}
use Rattle.batch_run.proofs.PassLemmas.{OnePass, Tells, one_first, one_quiet}
use Rattle.batch_run.specs.Owed.{Owed, AreClosed, SlotFollows, StaysFresh, may_wait, owed_to}
use Rattle.batch_run.specs.Owed.{begins}
use Rattle.job_turns.specs.OwedTo.{IsLeftWith}
use Rattle.job_turns.specs.OwedTo as to
use Rattle.run_journal.specs.Job.{Job as Facts}
use Rattle.job_journal.specs.Quiet.{IsQuietNow}
use Rattle.job_begin.specs.Standing.{BeginsFollowing, BeginsSpeaking}
use Rattle.ready_loop.specs.Standing.{AllShut}
use Rattle.world.specs.Places.{time}
use Rattle.std.proofs.lemmas.Bool.{false≢true}

-- ---- a job that runs

-- what a call of a job adds
adds : (k : ℕ) (a : Ask) (here : List ℕ) (clean : Bool) (was : Job) (p q : Option (List Entry)) (c d : Counts) → (clean ≡ true → SpeaksWhole p c)
    → (clean ≡ true → TellsAll a was.run.book p c) → PlaysRole k a was
    → ((since : List Entry) → HasRole (sole k a here true clean) since c was p c → HasCalled (sole k a here true clean) since c q d)
    → Told p q (Since (IsCall (sole k a here true clean)))
adds k a here clean was p q c d spoken tells role calls =
    told_by (IsCall (sole k a here true clean)) p q (λ since held. (calls since (plays k a here true clean was since p c spoken tells role held)).told)

called : (k : ℕ) (a : Ask) (here : List ℕ) (clean : Bool) (was : Job) (p q : Option (List Entry)) (c d : Counts) → (clean ≡ true → SpeaksWhole p c)
    → (clean ≡ true → TellsAll a was.run.book p c) → PlaysRole k a was
    → ((since : List Entry) → HasRole (sole k a here true clean) since c was p c → HasCalled (sole k a here true clean) since c q d)
    → HasCalled (sole k a here true clean) (or_none p) c q d
called k a here clean was p q c d spoken tells role calls =
    calls (or_none p) (plays k a here true clean was (or_none p) p c spoken tells role (at_start (IsCall (sole k a here true clean)) p))

-- the job of a slot, by what was asked
own_ask : (asks : ℕ → Option Ask) (first : Option (List Entry)) (from : Outset) (slots : List Slot) (p : Option (List Entry)) (c : Counts) (k : ℕ) (was : Job)
    → slice_get slots k ≡ Some (Running was) → AllStand asks first from slots p c → (a : Ask) × (asks k ≡ Some a) × PlaysRole k a was
own_ask asks first from slots p c k was found s =
    let own : (a : Ask) × (asks k ≡ Some a) = elim (s.asked k (Running was) found) [ inl ended ↦ absurd ended | inr is ↦ is ] in
    (own.0, own.1, s.plays k own.0 (Running was) own.1 found)

-- what the job of one slot is told goes on with what it stands for by each plot
abbrev pub OwnPass : Outset → Owed → ℕ → Slot → Slot → Option (List Entry) → Option (List Entry) → Type 0
OwnPass from rest k was next p q = (a : Ask) (n : Notebook) (before x y : List Entry) → p ≡ Some x → q ≡ Some y → Extends x y
    → SlotFollows (owed_to from.owed k) k a n was before x → SlotFollows (owed_to rest k) k a n next before y

-- the same of the jobs in all other slots
abbrev pub OthersPass : (ℕ → Option Ask) → Outset → Owed → ℕ → Option (List Entry) → Option (List Entry) → Type 0
OthersPass asks from rest k p q = (b : Ask) (before x y : List Entry) → p ≡ Some x → q ≡ Some y → asks k ≡ Some b → Since (IsCall (sole k b from.here true from.clean)) x y
    → (i : ℕ) (a : Ask) (slot : Slot) → i ≢ k → IsOther b.output a.output → IsRested a.output x → OnePass (owed_to from.owed i) (owed_to rest i) i a before x y slot

-- a call of a job
pub job_goes_on : (asks : ℕ → Option Ask) (first : Option (List Entry)) (from : Outset) (slots : List Slot) (p q : Option (List Entry)) (c d : Counts) (k : ℕ) (was next : Job) (rest : Owed)
    → Tells from rest k (Running was) (Running next) → OwnPass from rest k (Running was) (Running next) p q → OthersPass asks from rest k p q
    → ((o : Origin) → Runs o was p c → Runs o next q d)
    → ((cast : Cast) (since : List Entry) (then : Counts) → HasRole cast since then was p c → HasRole cast since then next q d)
    → task_of_job next ≡ task_of_job was → output_of_job next ≡ output_of_job was
    → (IsLost (outcome_of next) → (IsLost (outcome_of was)) ⊎ (IsCutOff from d)) → (IsSpent (outcome_of next) → (IsSpent (outcome_of was)) ⊎ (IsOutOfWaits from d))
    → slice_get slots k ≡ Some (Running was)
    → AllStand asks first from slots p c → AllStand asks first (owing rest from) (set slots k (Running next)) q d
job_goes_on asks first from slots p q c d k was next rest fits own_passes others runs leaves task output lost spent found s =
    change asks first from slots p q c d k (Running was) (Running next) rest found (λ e. e) fits so.counts_work (λ e. absurd (cc)) so.spoken
    (λ a at role. (made a at role, played k a from.here true from.clean (or_none p) c next q d (goes a at role)))
    (λ e a at role. played_tells k a from.here true from.clean (or_none p) c next q d (goes a at role) e)
    (λ a at role h. tt) step count (λ b before x y e f at role calls. others b before x y e f at calls) (λ x before past after ends. absurd (cc)) s
  where
    tells_of : (a : Ask) → asks k ≡ Some a → from.clean ≡ true → TellsAll a was.run.book p c
    tells_of a at e = s.tells e k a (Running was) at found

    goes : (a : Ask) → asks k ≡ Some a → PlaysRole k a was → HasRole (sole k a from.here true from.clean) (or_none p) c next q d
    goes a at role =
        leaves (sole k a from.here true from.clean) (or_none p) c
        (plays k a from.here true from.clean was (or_none p) p c s.spoken (tells_of a at) role (at_start (IsCall (sole k a from.here true from.clean)) p))

    calls : (a : Ask) (since : List Entry) → HasRole (sole k a from.here true from.clean) since c was p c → HasCalled (sole k a from.here true from.clean) since c q d
    calls a since h = (leaves (sole k a from.here true from.clean) since c h).part.so

    made : (a : Ask) → asks k ≡ Some a → PlaysRole k a was → Told p q (Since (IsCall (sole k a from.here true from.clean)))
    made a at role = adds k a from.here from.clean was p q c d s.spoken (tells_of a at) role (calls a)

    own : (a : Ask) × (asks k ≡ Some a) × PlaysRole k a was
    own = own_ask asks first from slots p c k was found s

    so : HasCalled (sole k own.0 from.here true from.clean) (or_none p) c q d
    so = called k own.0 from.here from.clean was p q c d s.spoken (tells_of own.0 own.1) own.2 (calls own.0)

    work : CountsWork c d
    work = so.counts_work

    count : (a : Ask) → asks k ≡ Some a → SlotCounted a from.counts from.most (Running was) p c → SlotCounted a from.counts from.most (Running next) q d
    count a at r = record {
      output = output ∙ r.output;
      runs = record { origin = r.runs.origin; unwatched = r.runs.unwatched; grow = r.runs.grow; runs = runs r.runs.origin r.runs.runs };
      lost = λ l. elim (lost l) [ inl e ↦ rose_still from.counts.net c.net d.net (r.lost e) work.grow.net | inr e ↦ e ];
      spent = λ l. elim (spent l) [ inl e ↦ waited_still from.most c d work.grow (r.spent e) | inr e ↦ e ];
    }

    step : (a : Ask) (before past after : List Entry) → asks k ≡ Some a → PlaysRole k a was → p ≡ Some past → q ≡ Some after → IsRested a.output before
        → Stands (owed_to from.owed k) k a from.counts before past c (Running was) → Stands (owed_to rest k) k a from.counts before after d (Running next)
    step a before past after at role e f rested (waits g h fresh) = absurd (cc)
    step a before past after at role e f rested (spared answer g u h) = absurd (cc)
    step a before past after at role e f rested (begun bytes n begin then acc h gr ext of kernel r follows) =
        let o = origin_of a n begin then in
        let grown : Extends past after = extends_of (told_at p q (Since (IsCall (sole k a from.here true from.clean))) past after (made a at role) e f) in
        begun bytes n begin then acc h gr (since_then ext grown) (task ∙ of) tt
        (subst (λ x. Runs o next x d) f (runs o (subst (λ x. Runs o was x c) (sym e) r))) (λ shut. own_passes a n before past after e f grown (follows shut))

-- what brought its end is of the task of the job that was asked for
counted_end : (a : Ask) (first : Notebook) (o : Origin) (task : Task) (answer : Answer) (after : List Entry) (d : Counts) → task ≡ task_for a first
    → EndsWith o (Some task) answer (Some after) d → EndsWith o (counted_task a first) answer (Some after) d
counted_end a first o task answer after d of e = record {
  is_open = e.is_open;
  ends = e.ends;
  shut = e.shut;
  fails = e.fails;
  counted = λ t same fresh.
      subst (λ x. IsCausedAfter (output_at o after) x answer.status) (of ∙ sym (counted_is a first t same)) (e.counted task refl fresh);
}

-- the end of a job, of which it is still to be said
pub job_ends : (asks : ℕ → Option Ask) (first : Option (List Entry)) (from : Outset) (slots : List Slot) (p q : Option (List Entry)) (c d : Counts) (k : ℕ) (was : Job) (answer : Answer)
    → ((o : Origin) → Runs o was p c → EndsWith o (Some (task_of_job was)) answer q d)
    → ((cast : Cast) (since : List Entry) (then : Counts) → HasRole cast since then was p c → HasCalled cast since then q d)
    → HasEnd (number_of was) q
    → IsEnding (output_of_job was) (task_of_job was) answer → (answer.status ≡ 14 → IsLost (outcome_of was)) → (answer.status ≡ 16 → IsSpent (outcome_of was))
    → IsLeftWith was answer → ((f : Facts) → Told p q (Since (IsQuietNow f))) → may_wait from.owed ≡ true → AreClosed from.loop k
    → slice_get slots k ≡ Some (Running was)
    → AllStand asks first from slots p c → AllStand asks first (hush k from) (set slots k (Ended answer)) q d
job_ends asks first from slots p q c d k was answer ends leaves left end lost spent final quiet wait closed found s =
    change asks first (hush k from) slots p q c d k (Running was) (Ended answer) from.owed found (λ e. e) fits work (λ e. absurd (cc)) so.spoken (λ a at role. (made a at role, tt)) (λ e a at role. tt)
    (λ a at role h before. subst (λ n. HasEnd n q) role.number_is left) step count
    (λ b before x y e f own role calls i a slot ne other rested. one_quiet (owed_to from.owed i) i a before x y slot (waits_each from.owed i wait) (λ g number. told_at p q (Since (IsQuietNow g)) x y (quiet g) e f))
    (λ x before past after ends loud. absurd (false≢true (sym loud ∙ hushed_own k from))) (hushes asks first from slots p c k s)
  where
    fits : Tells (hush k from) from.owed k (Running was) (Ended answer)
    fits = record { known = λ e. e; lines = λ i e. e; runs = λ j e. absurd (cc); closed = λ x e. closed }

    tells_of : (a : Ask) → asks k ≡ Some a → from.clean ≡ true → TellsAll a was.run.book p c
    tells_of a at e = s.tells e k a (Running was) at found

    made : (a : Ask) → asks k ≡ Some a → PlaysRole k a was → Told p q (Since (IsCall (sole k a from.here true from.clean)))
    made a at role = adds k a from.here from.clean was p q c d s.spoken (tells_of a at) role (λ since h. leaves (sole k a from.here true from.clean) since c h)

    own : (a : Ask) × (asks k ≡ Some a) × PlaysRole k a was
    own = own_ask asks first from slots p c k was found s

    so : HasCalled (sole k own.0 from.here true from.clean) (or_none p) c q d
    so = called k own.0 from.here from.clean was p q c d s.spoken (tells_of own.0 own.1) own.2 (λ since h. leaves (sole k own.0 from.here true from.clean) since c h)

    work : CountsWork c d
    work = so.counts_work

    count : (a : Ask) → asks k ≡ Some a → SlotCounted a from.counts from.most (Running was) p c → SlotCounted a from.counts from.most (Ended answer) q d
    count a at r =
        let o : Origin = r.runs.origin in
        let e : EndsWith o (Some (task_of_job was)) answer q d = ends o r.runs.runs in
        record {
          is = record {
            is = ending_answers (output_of_job was) a.output (task_of_job was) answer r.output end;
            cause = record {
              read = λ is. rose_since from.counts.disk o.counts.disk d.disk r.runs.grow.disk (e.fails (inl is));
              start = λ is. absurd (ending_starts (output_of_job was) (task_of_job was) answer end is);
              save = λ is. rose_since from.counts.disk o.counts.disk d.disk r.runs.grow.disk (e.fails (inr is));
              net = λ is. rose_still from.counts.net c.net d.net (r.lost (lost is)) work.grow.net;
            };
          };
          spent = λ is. waited_still from.most c d work.grow (r.spent (spent is));
        }

    step : (a : Ask) (before past after : List Entry) → asks k ≡ Some a → PlaysRole k a was → p ≡ Some past → q ≡ Some after → IsRested a.output before
        → Stands (owed_to from.owed k) k a from.counts before past c (Running was) → Stands (owed_to from.owed k) k a from.counts before after d (Ended answer)
    step a before past after at role e f rested (waits g h fresh) = absurd (cc)
    step a before past after at role e f rested (spared x g u h) = absurd (cc)
    step a before past after at role e f rested (begun bytes n begin then acc h gr ext of kernel r follows) =
        let o = origin_of a n begin then in
        let why = ending_caused (output_of_job was) (task_of_job was) answer end in
        let grown : Extends past after = extends_of (told_at p q (Since (IsCall (sole k a from.here true from.clean))) past after (made a at role) e f) in
        begun bytes n begin then acc h gr (since_then ext grown)
        (caused_in a (first_of a n) answer.status (subst (λ t. IsCaused t answer.status) of why))
        (other_kernel a (first_of a n) answer.status _ after (ending_other (output_of_job was) (task_of_job was) answer end))
        (counted_end a (first_of a n) o (task_of_job was) answer after d of
        (subst (λ x. EndsWith o (Some (task_of_job was)) answer x d) f (ends o (subst (λ x. Runs o was x c) (sym e) r))))
        (λ shut. follows_finished (owed_to from.owed k) k a n was answer before past after grown (waits_each from.owed k wait) final (λ g. told_at p q (Since (IsQuietNow g)) past after (quiet g) e f) (follows shut))

-- what is said of it is the last line of the job that was asked for
pub end_said : (asks : ℕ → Option Ask) (first : Option (List Entry)) (from : Outset) (slots : List Slot) (p : Option (List Entry)) (c : Counts) (k : ℕ) (was : Job) (answer : Answer)
    → IsEnding (output_of_job was) (task_of_job was) answer → slice_get slots k ≡ Some (Running was) → AllStand asks first from slots p c
    → (a : Ask) × (asks k ≡ Some a) × IsAnswer a.output answer
end_said asks first from slots p c k was answer end found s =
    let own = own_ask asks first from slots p c k was found s in
    (own.0, own.1, ending_answers (output_of_job was) (Ask.output own.0) (task_of_job was) answer (s.counted k own.0 (Running was) own.1 found).output end)

-- ---- a job that begins, of which it is still to be said where it has ended

starts_role : (k : ℕ) (a : Ask) (here : List ℕ) (clean : Bool) (since : List Entry) (then : Counts) (result : Result Job Answer) (q : Option (List Entry)) (d : Counts)
    → StartsInRole (sole k a here true clean) since then result q d → SlotPlays k a (slot_of result)
starts_role k a here clean since then (Ok j) q d r = played k a here true clean since then j q d r
starts_role k a here clean since then (Err e) q d r = tt

starts_tells : (k : ℕ) (a : Ask) (here : List ℕ) (clean : Bool) (since : List Entry) (then : Counts) (result : Result Job Answer) (q : Option (List Entry)) (d : Counts)
    → StartsInRole (sole k a here true clean) since then result q d → clean ≡ true → SlotTells a (slot_of result) q d
starts_tells k a here clean since then (Ok j) q d r e = played_tells k a here true clean since then j q d r e
starts_tells k a here clean since then (Err x) q d r e = tt

slot_moves : (result : Result Job Answer) → slot_of result ≡ Waiting → ⊥
slot_moves (Ok j) e = absurd (cc)
slot_moves (Err answer) e = absurd (cc)

starts_ends : (k : ℕ) (result : Result Job Answer) (first p q : Option (List Entry)) → IfErr result (λ e. KeepsEnd k p q) → KeepsEnd k first p → SlotEnds k (slot_of result) first q
starts_ends k (Ok j) first p q left h = tt
starts_ends k (Err e) first p q left h = λ s. left (h s)

begins_runs : (o : Origin) (task : Option Task) (result : Result Job Answer) (q : Option (List Entry)) (d : Counts) → BeginsAs o task result q d → SlotRuns o task (slot_of result) q d
begins_runs o task (Ok j) q d r = r
begins_runs o task (Err e) q d r = r

begins_task : (a : Ask) (first : Notebook) (result : Result Job Answer) → BeginsWith a first result → SlotTask a first (slot_of result)
begins_task a first (Ok j) of = of
begins_task a first (Err answer) of = of

begins_kernel : (a : Ask) (first : Notebook) (result : Result Job Answer) (x y : List Entry) → FindsKernel a first result x y → SlotKernel a first (slot_of result) x y
begins_kernel a first (Ok j) x y k = tt
begins_kernel a first (Err answer) x y k = k

begins_counted : (a : Ask) (from c d : Counts) (most : ℕ) (q : Option (List Entry)) (result : Result Job Answer) → CountsGrow from c → IfErr result (λ x. HasCause c d x.status)
    → IfErr result (IsAnswer a.output) → IfErr result (λ x. x.status ≡ 16 → ⊥) → IfOk result (λ j. output_of_job j ≡ a.output) → IfOk result (λ j. RunsCounted c j q d)
    → IfOk result (λ j. outcome_of j ≡ None) → SlotCounted a from most (slot_of result) q d
begins_counted a from c d most q (Ok j) g cause answer unspent output runs fresh = record {
  output = output;
  runs = record { origin = runs.origin; unwatched = runs.unwatched; grow = grow_then g runs.grow; runs = runs.runs };
  lost = λ l. absurd (subst IsLost fresh l);
  spent = λ l. absurd (subst IsSpent fresh l);
}
begins_counted a from c d most q (Err x) g cause answer unspent output runs fresh = record {
  is = record { is = answer; cause = cause_since from c d x.status g cause };
  spent = λ e. absurd (unspent e);
}

begins_follow : (k : ℕ) (a : Ask) (n : Notebook) (c : Cast) (result : Result Job Answer) (before past after : List Entry) → Extends before past → Since (IsCall c) past after
    → StaysFresh to.first_clock k a before past → BeginsSpeaking k a.output result past after → BeginsFollowing k a n result past after
    → SlotFollows to.first_clock k a n (slot_of result) before after
begins_follow k a n c (Ok j) before past after grown calls fresh speaks so = follows_begun k a n j c before past after grown calls fresh speaks so
begins_follow k a n c (Err answer) before past after grown calls fresh speaks so = follows_not_begun k a n answer before past after fresh so

begin_stands : (k : ℕ) (a : Ask) (cast : Cast) (from : Counts) (before past after : List Entry) (c d : Counts) (result : Result Job Answer) → CountsGrow from c → Since (IsCall cast) past after
    → (AllShut before → StaysFresh to.first_clock k a before past) → Since (Spares a.output) before past → Begun k a result c d past after → Stands to.first_clock k a from before after d (slot_of result)
begin_stands k a cast from before past after c d result g calls fresh h (without {answer} e u s) = spared answer (ap slot_of e) (unread_pass a answer.status before past after after h start u) (since_then h s)
begin_stands k a cast from before past after c d result g calls fresh h (with_notebook bytes n front acc e of kernel b speaks follows) =
    begun bytes n past c acc h g (subst (λ j. Extends (Read a.input 33554432 (found.Whole bytes) ∷ past) j) (sym e) (extended front (Read a.input 33554432 (found.Whole bytes) ∷ past))) (begins_task a (first_of a n) result of) (begins_kernel a (first_of a n) result (Read a.input 33554432 (found.Whole bytes) ∷ past) after kernel) (begins_runs (origin_of a n past c) (counted_task a (first_of a n)) result (Some after) d b)
    (λ shut. begins_follow k a n cast result before past after (extends_of h) calls (fresh shut) speaks follows)

pub job_begins : (asks : ℕ → Option Ask) (first : Option (List Entry)) (from : Outset) (slots : List Slot) (p q : Option (List Entry)) (c d : Counts) (k : ℕ) (a : Ask) (result : Result Job Answer)
    {here : List ℕ} → from.here ≡ here
    → Told p q (λ before after. IsRested a.output before → Begun k a result c d before after)
    → ((cast : Cast) (since : List Entry) (then : Counts) → IsCastAs cast k a here → HasNoChild cast k p → HasNoPorts cast k p → HasNoSave cast a p → HasCalled cast since then p c
    → StartsInRole cast since then result q d)
    → IfErr result (λ e. KeepsEnd k p q)
    → IfErr result (λ x. HasCause c d x.status) → IfErr result (IsAnswer a.output) → IfErr result (λ x. x.status ≡ 16 → ⊥) → IfOk result (λ j. output_of_job j ≡ a.output)
    → IfOk result (λ j. RunsCounted c j q d) → IfOk result (λ j. outcome_of j ≡ None) → asks k ≡ Some a → slice_get slots k ≡ Some Waiting
    → AreClosed from.loop k → (a_last b_last : ℕ) → a_last ≡ c.last → IfSome p (λ past. a_last ≡ time past) → b_last ≡ d.last → IfSome q (λ past. b_last ≡ time past)
    → AllStand asks first (owing (begins k) from) slots p c → AllStand asks first (hush k (owing (begins k) from)) (set slots k (slot_of result)) q d
job_begins asks first from slots p q c d k a result {here} here_is begins_so leaves left cause answer unspent output runs fresh own found closed a_last b_last was_last was_time now_last now_time s =
    change asks first (hush k (owing (begins k) from)) slots p q c d k Waiting (slot_of result) (begins k) found (λ e. e) fits work (slot_moves result) (starts_called (sole k a from.here true from.clean) (or_none p) c result q d at_first).spoken (λ b at role.
    let same : a ≡ b = same_Some _ _ (sym own ∙ at) in
    (subst (λ x. Told p q (Since (IsCall (sole k x from.here true from.clean)))) same made, subst (λ x. SlotPlays k x (slot_of result)) same plays_so))
    (λ e b at role. subst (λ x. SlotTells x (slot_of result) q d) (same_Some _ _ (sym own ∙ at)) (starts_tells k a from.here from.clean (or_none p) c result q d at_first e))
    (λ b at role h. starts_ends k result first p q left h) step count
    (λ b before x y e f own role calls i x_ask slot ne other rested. one_first i x_ask k b from.here from.clean before x y slot other calls (told_at p q (λ before after. time before ≤ time after) x y rises e f) rested)
    (λ x before past after ends loud. absurd (false≢true (sym loud ∙ hushed_own k (owing (begins k) from)))) (hushes asks first (owing (begins k) from) slots p c k s)
  where
    fits : Tells (hush k (owing (begins k) from)) (begins k) k Waiting (slot_of result)
    fits = record { known = λ e. absurd (cc); lines = λ i e. e; runs = λ j e lined. absurd (false≢true (sym (ap not (from_same k)) ∙ lined)); closed = λ x e. closed }

    start_role : (since : List Entry) → IfSome p (Since (IsCall (sole k a from.here true from.clean)) since) → StartsInRole (sole k a from.here true from.clean) since c result q d
    start_role since held =
        leaves (sole k a from.here true from.clean) since c (record { has = sole_here k a; folder = here_is; starts = refl }) (λ e. (s.idle e k a own found).childless) (λ e. (s.idle e k a own found).portless)
        (λ e. (s.idle e k a own found).lacks)
        (record { told = held; counts_work = work_start c; spoken = s.spoken })

    at_first : StartsInRole (sole k a from.here true from.clean) (or_none p) c result q d
    at_first = start_role (or_none p) (at_start (IsCall (sole k a from.here true from.clean)) p)

    made : Told p q (Since (IsCall (sole k a from.here true from.clean)))
    made = told_by (IsCall (sole k a from.here true from.clean)) p q (λ since held. (starts_called (sole k a from.here true from.clean) since c result q d (start_role since held)).told)

    plays_so : SlotPlays k a (slot_of result)
    plays_so = starts_role k a from.here from.clean (or_none p) c result q d at_first

    work : CountsWork c d
    work = (starts_called (sole k a from.here true from.clean) (or_none p) c result q d at_first).counts_work

    rises : Told p q (λ before after. time before ≤ time after)
    rises = clock_rises p q a_last b_last begins_so was_time now_time (subst (λ n. n ≤ b_last) (sym was_last) (subst (λ n. c.last ≤ n) (sym now_last) work.grow.last))

    count : (b : Ask) → asks k ≡ Some b → SlotCounted b from.counts from.most Waiting p c → SlotCounted b from.counts from.most (slot_of result) q d
    count b at w = subst (λ x. SlotCounted x from.counts from.most (slot_of result) q d) (same_Some _ _ (sym own ∙ at)) (begins_counted a from.counts c d from.most q result s.grow cause answer unspent output runs fresh)

    step : (b : Ask) (before past after : List Entry) → asks k ≡ Some b → Unit {0} → p ≡ Some past → q ≡ Some after → IsRested b.output before
        → Stands to.first_clock k b from.counts before past c Waiting → Stands to.first_clock k b from.counts before after d (slot_of result)
    step b before past after at role e f rested (spared x g u h) = absurd (cc)
    step b before past after at role e f rested (begun bytes n begin then acc h gr ext of kernel r follows) = absurd r
    step b before past after at role e f rested (waits g h new) =
        let same : a ≡ b = same_Some _ _ (sym own ∙ at) in
        let rests : IsRested b.output past = spared_rest b.output rested h in
        let calls = told_at p q (Since (IsCall (sole k a from.here true from.clean))) past after made e f in
        let began = told_at p q (λ x y. IsRested a.output x → Begun k a result c d x y) past after begins_so e f in
        let began' = subst (λ x. IsRested x.output past → Begun k x result c d past after) same began in
        begin_stands k b (sole k a from.here true from.clean) from.counts before past after c d result s.grow calls new h (began' rests)
