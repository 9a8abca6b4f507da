-- What runs that execute notebooks make of the world.
use Rattle.std.proofs.Common.{◌≡◌, ◌≢◌, ◌⊎◌, inl, inr, ℕ, zero, suc, ◌+◌, ◌<◌, ◌≤◌, Bool, true, false, List, [], ◌∷◌, ◌++◌, length, length-append, append_assoc, Option, Some, None, if◌then◌else◌, refl, sym, ◌∙◌, ap, subst, arith}
use Rattle.std.proofs.Math.Logic.{∥∥₁_map}
use Rattle.std.proofs.lemmas.List.{append-nil}
use Rattle.std.specs.Prelude.{slice_get}
use Rattle.std.specs.Str.{bytes_eq}
use Rattle.nb_model.specs.declared.notebook.Notebook.{Notebook}
use Rattle.nb_load.specs.Loaded.{Accepts}
use Rattle.words.specs.declared.ask.Ask.{Ask}
use Rattle.words.specs.Paths.{connection_of}
use Rattle.world.specs.declared.entry.Entry.{Entry}
use Rattle.world.specs.declared.entry.Entry.TheVariants.{Read}
use Rattle.world.specs.declared.read_file.ReadFile.TheVariants as found
use Rattle.world.specs.Counts.{Counts, CountsGrow}
use Rattle.world.specs.Moments.{Since, start, more as later}
use Rattle.world.specs.Touched.{Spares}
use Rattle.world.proofs.MomentsLemmas.{since_then}
use Rattle.world.proofs.TouchedLemmas.{untouched_since}
use Rattle.save_disk.specs.Places.{save_count}
use Rattle.world.specs.Save.{temporary_of}
use Rattle.save_course.specs.Course.{IsRested}
use Rattle.save_course.proofs.CourseLemmas.{course_safe}
use Rattle.save_course.proofs.RestLemmas.{none_waits, spared_rest}
use Rattle.job_end.specs.declared.answer.Answer.{Answer}
use Rattle.job_saves.specs.Course.{HasSaved, Ends}
use Rattle.job_saves.proofs.CourseLemmas.{ends_pass}
use Rattle.job_run.proofs.SpeakLemmas.{session_since}
use Rattle.job_run.specs.Run.{IsOther, IsNew, IsUnsaved}
use Rattle.job_run.specs.Beginning.{IsFresh, IsSessionOf}
use Rattle.job_run.specs.Counted.{IsCausedAfter}
use Rattle.job_run.specs.Left.{NamesFailed, Leaves}
use Rattle.job_run.specs.Task.{task_for}
use Rattle.job_saves.specs.Left.{OutputAt, IsLeft}
use Rattle.cell_core.specs.Task.{Task}
use Rattle.cell_core.specs.declared.why.Why.{Why}
use Rattle.cell_core.specs.declared.why.Why.TheVariants as why
use Rattle.job_saves.specs.Reads.{first_of}
use Rattle.job_begin.specs.Begun.{origin_of, IsCausedIn}
use Rattle.job_begin.proofs.EndLemmas.{uncaused_in, unread_pass, unread_twelve, other_kernel, twelve_other}
use Rattle.job_begin.specs.Begun.{HasKernel}
use Rattle.batch_run.specs.Owed.{Follows, in_session as followed, in_any as followed_in_any}
use Rattle.job_journal.specs.Plot.{Plot, facts}
use Rattle.job_journal.specs.Ended.{HasAnswered, cause_of}
use Rattle.batch_run.specs.Batch.{AreSaid, HasSaid, Makes, nothing, saves, IsNoPath, IsApart, LeavesOthers, CallsOfJobs, EndsChildren, numbered}
use Rattle.said_lines.specs.Speech.{Says, whole as said_whole, none as said_none}
use Rattle.nbrun_top.specs.declared.end.End.TheVariants as end
use Rattle.nbrun_top.specs.Ended.{Answers, plain}
use Rattle.nbrun_top.specs.Executed.{DoesNotWrite, IsAlone, AreApart, IsCountedIn, IsLeftAs, output_of, IsSavedOnly, IsExecutedPlot, FollowsJournal, in_session, in_any, untouched, saved, IsBare, NoneWrites, EndsSpeech, silence, last_line, Runs, first_fault}
use Rattle.nbrun_top.specs.Lines.{all_lines}
use Rattle.nbrun_top.specs.Ran.{IsUntouched}
use Rattle.nbrun_top.proofs.Spared.{apart_from, says_spare, said_childless, spared_moments, at_moment}
use Rattle.nbrun_top.proofs.Statuses.{all_starved, starved_count, starved_fault, starved_at, starved_line}

-- ---- what no entry touches

pub untouched_path : (path : List ℕ) {journal : List Entry} → Since (Spares path) [] journal → IsUntouched path journal
untouched_path path {journal} since = at_moment path journal (spared_moments refl since)

none_acked : (output : List ℕ) {journal : List Entry} → Since (Spares output) [] journal → save_count output journal ≡ 0
none_acked output start = refl
none_acked output (later {past} {entry} since spared) =
    none_waits (temporary_of output) output entry past (spared_rest output refl since) ∙ none_acked output since

-- ---- one job

-- a status that names no cause
pub uncounted : (a : Ask) (first : Notebook) (status : ℕ) (journal : List Entry) → cause_of status ≡ None → IsCountedIn a first status journal
uncounted a first status journal none task same cause is = let wrong : None ≡ Some cause = sym none ∙ is in absurd (cc)

-- ---- what is left

left_for : (m : OutputAt) (task : Task) (status : ℕ) (cause : Why) → IsCausedAfter m task status → cause_of status ≡ Some cause → ∥ Leaves m task cause ∥₁
left_for m task status cause h is = ∥∥₁_map (h cause is) (λ t. t.left)

-- a crash leaves what the status asks for
pub left_as : (a : Ask) (first : Notebook) (status : ℕ) (journal : List Entry) → IsCountedIn a first status journal → a.prepare ≡ false → IsLeftAs a first status journal
left_as a first status journal counted executes = record {
  done = λ is. left_for m task status why.Done h (ap cause_of is);
  failed = failed_by;
  broken = broken_by;
  not_ready = λ is. left_for m task status why.NotReady h (ap cause_of is);
}
  where
    m : OutputAt
    m = output_of a first journal

    task : Task
    task = task_for a first

    h : IsCausedAfter m task status
    h = counted task (ap (λ b. if b then None else Some task) executes)

    failed_by : (status ≡ 1) ⊎ (status ≡ 9) ⊎ (status ≡ 13) → ∥ NamesFailed m task ∥₁
    failed_by (inl is) = left_for m task status why.CellError h (ap cause_of is)
    failed_by (inr (inl is)) = left_for m task status why.TimedOut h (ap cause_of is)
    failed_by (inr (inr is)) = left_for m task status why.NoIdle h (ap cause_of is)

    broken_by : (status ≡ 8) ⊎ (status ≡ 15) → ∥ IsLeft m 0 None ⊎ NamesFailed m task ∥₁
    broken_by (inl is) = left_for m task status why.KernelLost h (ap cause_of is)
    broken_by (inr is) = left_for m task status why.BadPeer h (ap cause_of is)

-- what a run makes of the notebook of a job, where nothing was done before it
fresh_plot : (i : ℕ) (a : Ask) (n : Notebook) (before : List Entry) → IsBare before → (p : Plot) → IsExecutedPlot p i a n → IsFresh p before
fresh_plot i a n before bare p plot =
    record { undated = plot.undated; runs = plot.runs; unread = bare.unread (facts p); unrenamed = bare.unrenamed (facts p) }

follows_journal : (i : ℕ) (a : Ask) (n : Notebook) (answer : Answer) (before after : List Entry) → IsBare before → Follows i a n before after (λ p. HasAnswered p answer after)
    → FollowsJournal i a n answer after
follows_journal i a n answer before after bare (followed session key drawn each) =
    in_session session key (session_since i a.output session key [] before after before (sym (append-nil before)) drawn) (λ p plot s k. each p plot.is (fresh_plot i a n before bare p plot) s k)
follows_journal i a n answer before after bare (followed_in_any each) = in_any (λ p plot. each p plot.is (fresh_plot i a n before bare p plot))

module _ (i : ℕ) (a : Ask) (old new : Counts) (before after : List Entry) (bare : IsBare before) where
  saved_by : (answer : Answer) (status : ℕ) (bytes : List ℕ) (n : Notebook) (begin : List Entry) (counts : Counts) (newer : List Entry) (is_open : Bool) → Accepts a bytes n
      → Since (Spares a.output) before begin → after ≡ newer ++ Read a.input 33554432 (found.Whole bytes) ∷ begin
      → Ends (origin_of a n begin counts) is_open (Some after) new → (is_open ≡ false → IsUnsaved status) → IsCausedIn a (first_of a n) status → (IsNew (origin_of a n begin counts) → IsCountedIn a (first_of a n) status after)
      → HasKernel a (first_of a n) status (Read a.input 33554432 (found.Whole bytes) ∷ begin) after → (status ≢ 12 → FollowsJournal i a n answer after) → IsSavedOnly i a answer status after
  saved_by answer status bytes n begin counts newer is_open accepted since split ends shut caused counted kernel follows =
      let first = since_then (bare.quiet a.output) since in
      let course : HasSaved (origin_of a n begin counts) is_open after = ends.told refl in
      let by : IsCountedIn a (first_of a n) status after = counted (record { watched = refl; none = none_acked a.output first }) in
      saved bytes n is_open begin newer accepted split (untouched_path a.output first)
      (course_safe a.output a.merge (first_of a n) 0 begin (untouched_since first refl) (none_acked a.output first) is_open course.settled after course.is.course) shut caused by (left_as a (first_of a n) status after by) kernel follows

  pub saved_only : (answer : Answer) → Makes i a (Some answer) old new before after → IsSavedOnly i a answer answer.status after
  saved_only answer (nothing unread since) = untouched before (untouched_path a.output (since_then (bare.quiet a.output) since)) unread
  saved_only answer (saves bytes n begin then_ newer accepted caused since grow split ends follows) =
      saved_by answer answer.status bytes n begin then_ newer ends.is_open accepted since split ends.ends ends.shut caused.0 (λ fresh task same. ends.counted task same fresh) caused.1
      (λ fed. follows_journal i a n answer before after bare (follows bare.shut))

  pub stopped_only : (answer : Answer) (status : ℕ) → status ≡ 12 → Makes i a None old new before after → IsSavedOnly i a answer status after
  stopped_only answer status is (nothing unread since) = untouched before (untouched_path a.output (since_then (bare.quiet a.output) since))
      (unread_pass a status before after after after since start (unread_twelve a status after is))
  stopped_only answer status is (saves bytes n begin then_ newer accepted caused since grow split ends follows) =
      saved_by answer status bytes n begin then_ newer ends.is_open accepted since split ends.ends (λ e. inr is) (uncaused_in a (first_of a n) status (ap cause_of is)) (λ fresh. uncounted a (first_of a n) status after (ap cause_of is))
      (other_kernel a (first_of a n) status (Read a.input 33554432 (found.Whole bytes) ∷ begin) after (twelve_other status is))
      (λ fed. absurd (fed is))

-- ---- what is said behind the jobs

record Front (before after : List Entry) : Type 0 where
  entries : List Entry
  split : after ≡ entries ++ before

front : {P : List Entry → Type 0} {before after : List Entry} → Since P before after → Front before after
front start = record { entries = []; split = refl }
front (later {past} {entry} since is) = let f = front since in record { entries = entry ∷ f.entries; split = ap (λ j. entry ∷ j) f.split }

append_both : (xs ys zs : List Entry) (past mid : List Entry) → past ≡ ys ++ mid → zs ≡ xs ++ past → zs ≡ (xs ++ ys) ++ mid
append_both xs ys zs past mid e f = f ∙ ap (λ j. xs ++ j) e ∙ sym (append_assoc xs ys mid)

said_after : (i : ℕ) (a : Ask) (old mid new : Counts) (before past after : List Entry) → Since (Spares a.output) past after → CountsGrow mid new
    → Makes i a None old mid before past → Makes i a None old new before after
said_after i a old mid new before past after say grow (nothing unread since) = nothing tt (since_then since say)
said_after i a old mid new before past after say grow (saves bytes n begin then_ newer accepted caused since grown split ends follows) =
    let f = front say in
    saves bytes n begin then_ (f.entries ++ newer) accepted tt since grown
    (append_both f.entries newer after past (Read a.input 33554432 (found.Whole bytes) ∷ begin) split f.split)
    (record {
      is_open = ends.is_open;
      ends = ends_pass (origin_of a n begin then_) ends.is_open (Some past) (Some after) mid new (record { so = say }) grow ends.ends;
    })
    (λ shut. tt)

-- ---- all jobs

other_of : (output path : List ℕ) → DoesNotWrite output path → IsOther output path
other_of output path d = record {
  output_is = apart_from output path d.not_output;
  temporary = apart_from (temporary_of output) path d.not_temporary;
  connection = apart_from (connection_of output) path d.not_connection;
}

none_of : (asks : List Ask) (path : List ℕ) → NoneWrites asks path → IsNoPath (numbered 0 asks) path
none_of asks path none k b is = other_of b.output path (none k b is)

pub apart_of : (asks : List Ask) (i : ℕ) (a : Ask) → IsAlone asks i a → IsApart (numbered 0 asks) i a
apart_of asks i a s k b is differs = other_of b.output a.output (s.others k b differs is)

-- a path that is longer than all that the jobs write to
abbrev far : List Ask → List ℕ
far [] = 0 ∷ []
far (a ∷ rest) = connection_of a.output ++ (temporary_of a.output ++ (a.output ++ far rest))

shorter : (x y : List ℕ) → length x < length y → bytes_eq x y ≡ false
shorter x y less = apart_from x y (λ e. absurd (omega (arith, less, ap (λ z. length z) e)))

far_more : (asks : List Ask) → 1 ≤ length (far asks)
far_more [] = omega arith
far_more (a ∷ rest) = omega (
  arith,
  far_more rest,
  length-append (connection_of a.output) (temporary_of a.output ++ (a.output ++ far rest)),
  length-append (temporary_of a.output) (a.output ++ far rest),
  length-append a.output (far rest),
)

-- the output of a job that there may be
abbrev pub output_in : Option Ask → List ℕ
output_in None = []
output_in (Some a) = a.output

far_others : (asks : List Ask) (path : List ℕ) → length (far asks) ≤ length path → IsNoPath (numbered 0 asks) path
far_others [] path long k b is = cc
far_others (a ∷ rest) path long zero b is =
    let whole = length-append (connection_of a.output) (temporary_of a.output ++ (a.output ++ far rest)) in
    let next = length-append (temporary_of a.output) (a.output ++ far rest) in
    let last = length-append a.output (far rest) in
    subst (λ o. IsOther (output_in o) path) is (record {
      output_is = shorter a.output path (omega (arith, long, far_more rest, whole, next, last));
      temporary = shorter (temporary_of a.output) path (omega (arith, long, far_more rest, whole, next, last));
      connection = shorter (connection_of a.output) path (omega (arith, long, far_more rest, whole, next, last));
    })
far_others (a ∷ rest) path long (suc k) b is =
    let whole = length-append (connection_of a.output) (temporary_of a.output ++ (a.output ++ far rest)) in
    let next = length-append (temporary_of a.output) (a.output ++ far rest) in
    let last = length-append a.output (far rest) in
    far_others rest path (omega (arith, long, whole, next, last)) k b is

module _ (asks : List Ask) (here : List ℕ) (rose cut : Type 0) (code : ℕ) (before done after : List Entry) (others : LeavesOthers asks before after) (bare : IsBare before)
    (alone : AreApart asks) (calls : CallsOfJobs (numbered 0 asks) here true before done) (speech : EndsSpeech cut code done after) where
  runs_with : (answers : List Answer) → length answers ≡ length asks
      → ((i : ℕ) (a : Ask) (answer : Answer) → slice_get asks i ≡ Some a → IsApart (numbered 0 asks) i a → slice_get answers i ≡ Some answer → IsSavedOnly i a answer answer.status after)
      → Answers rose (first_fault answers) code → EndsChildren (numbered 0 asks) before after → AreSaid asks answers cut before done → Runs asks here rose cut code before after
  runs_with answers count jobs status children said =
      let f = front (others (far asks) (far_others asks (far asks) (omega arith))) in
      record {
        answers = answers;
        later = f.entries;
        split = f.split;
        run = record {
          one_each = count;
          outputs = λ i a answer at is. jobs i a answer at (apart_of asks i a (alone.outputs i a at)) is;
          inputs = λ i a at. untouched_path a.input (since_then (bare.quiet a.input) (others a.input (none_of asks a.input (alone.inputs i a at))));
          others = λ path none. untouched_path path (since_then (bare.quiet path) (others path (none_of asks path none)));
        };
        status = status;
        done = done;
        calls = calls;
        said = said;
        speech = speech;
        children = children;
      }

-- where memory was refused the run says so in place of its jobs, whose last lines are empty
starved_said : (asks : List Ask) (cut : Type 0) (before past : List Entry) → Front before past → AreSaid asks (all_starved asks) cut before past
starved_said asks cut before past f = record {
  each = λ i a answer at is.
      subst (λ line. HasSaid line cut before past) (sym (starved_line asks i answer is))
      (record { earlier = []; said = before; later = f.entries; says = said_whole said_none; split = f.split });
}

-- at a journal in which a path was not touched none waits for the sync of its folder
rested : (output : List ℕ) {before : List Entry} → IsBare before → IsRested output before
rested output bare = spared_rest output refl (bare.quiet output)

pub runs_done : {here : List ℕ} (asks : List Ask) (answers : List Answer) (old new : Counts) (rose cut : Type 0) (code : ℕ) (before after : List Entry)
    → LeavesOthers asks before after → CallsOfJobs (numbered 0 asks) here true before after → EndsChildren (numbered 0 asks) before after
    → ((i : ℕ) (a : Ask) → slice_get asks i ≡ Some a → IsApart (numbered 0 asks) i a → IsRested a.output before → Makes (0 + i) a (slice_get answers i) old new before after)
    → length answers ≡ length asks → Answers rose (first_fault answers) code → AreSaid asks answers cut before after → IsBare before → AreApart asks → Runs asks here rose cut code before after
runs_done {here} asks answers old new rose cut code before after others calls children jobs count status said bare alone =
    runs_with asks here rose cut code before after after others bare alone calls silence answers count
    (λ i a answer at apart is. saved_only i a old new before after bare answer
    (subst (λ k. Makes k a (Some answer) old new before after) (omega arith) (subst (λ o. Makes (0 + i) a o old new before after) is (jobs i a at apart (rested a.output bare))))) status children said

pub runs_starved : {here : List ℕ} (asks : List Ask) (old mid new : Counts) (rose cut : Type 0) (line : List ℕ) (code : ℕ) (before past after : List Entry)
    → LeavesOthers asks before past → CallsOfJobs (numbered 0 asks) here true before past → EndsChildren (numbered 0 asks) before past
    → ((i : ℕ) (a : Ask) → slice_get asks i ≡ Some a → IsApart (numbered 0 asks) i a → IsRested a.output before → Makes (0 + i) a None old mid before past)
    → CountsGrow mid new → line ≡ all_lines [] [] end.NoMemory → Says line cut past after → 1 ≤ length asks → code ≡ 12 → IsBare before → AreApart asks → Runs asks here rose cut code before after
runs_starved {here} asks old mid new rose cut line code before past after others calls children jobs grow text says some is bare alone =
    runs_with asks here rose cut code before past after (λ path apart. says_spare path (others path apart) says) bare alone calls
    (last_line is (subst (λ t. Says t cut past after) text says)) (all_starved asks) (starved_count asks)
    (λ i a answer at apart got. stopped_only i a old new before after bare answer answer.status (starved_at asks i answer got)
    (said_after i a old mid new before past after (says_spare a.output start says) grow
    (subst (λ k. Makes k a None old mid before past) (omega arith) (jobs i a at apart (rested a.output bare)))))
    (subst (λ n. Answers rose n code) (sym (starved_fault asks some)) (subst (λ n. Answers rose 12 n) (sym is) (plain (λ zero_ failed. cc))))
    (λ i a at unborn. said_childless i says (children i a at unborn))
    (let f = front (others (far asks) (far_others asks (far asks) (omega arith))) in starved_said asks cut before past f)
