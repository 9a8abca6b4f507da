-- From the runs of jobs to what a run that executes notebooks is.
use Rattle.std.proofs.Common.{◌≡◌, ◌≢◌, inl, inr, ℕ, zero, suc, true, List, [], ◌∷◌, codes, Option, Some, None, Ok, refl, sym, ◌∙◌, ap, subst, arith}
use Rattle.std.specs.Prelude.{slice_get}
use Rattle.words.specs.declared.ask.Ask.{Ask}
use Rattle.words.specs.Paths.{are_apart}
use Rattle.words.proofs.JobPaths.{job_apart}
use Rattle.world.specs.declared.entry.Entry.{Entry}
use Rattle.world.specs.declared.entry.Entry.TheVariants.{Read}
use Rattle.world.specs.declared.read_file.ReadFile.TheVariants as found
use Rattle.world.specs.Moments.{Since, start, more as later}
use Rattle.world.specs.Touched.{Spares}
use Rattle.job_end.specs.declared.answer.Answer.{Answer}
use Rattle.job_end.specs.Answers.{starved_answer}
use Rattle.nb_model.specs.declared.notebook.Notebook.{Notebook}
use Rattle.job_saves.specs.Reads.{first_of}
use Rattle.job_begin.specs.Begun.{IsCausedIn, IsUnread, HasKernel}
use Rattle.job_begin.proofs.EndLemmas.{uncaused_in, unread_pass, unread_twelve, unread_not_zero, other_kernel}
use Rattle.batch_run.specs.Batch.{IsClean, numbered}
use Rattle.said_lines.specs.Speech.{Says}
use Rattle.nbrun_top.specs.declared.end.End.{End}
use Rattle.nbrun_top.specs.declared.end.End.TheVariants as end
use Rattle.nbrun_top.specs.declared.answer.Answer.{Answer as Last}
use Rattle.nbrun_top.specs.Asked.{IsExecuting, IsExecuted, IsBatch}
use Rattle.nbrun_top.specs.Codes.{code_of}
use Rattle.nbrun_top.specs.Ended.{Answers, plain, not_said, Ended}
use Rattle.nbrun_top.specs.Executed.{Executed, Runs, HaveRun, of_words, of_file, GivesAsks, GivesNone, IsBare, IsAlone, AreApart, IsCountedIn, IsSavedAlone, IsSavedOnly, untouched, saved, DoesNotWrite, NoneWrites, first_fault, file_read}
use Rattle.nbrun_top.specs.Executed as executed
use Rattle.nbrun_top.specs.Lines.{all_lines}
use Rattle.nbrun_top.specs.Ran.{Ran, IsUntouched}
use Rattle.nbrun_top.specs.Ran as ran
use Rattle.nbrun_top.specs.Said.{said_of}
use Rattle.nbrun_top.proofs.Asked.{no_job_executes, no_batch_of_one}
use Rattle.nbrun_top.proofs.JobsApart.{file_apart}
use Rattle.nbrun_top.proofs.Executions.{untouched_path, uncounted, left_as, apart_of, output_in}
use Rattle.nbrun_top.proofs.Statuses.{one_fault}
use Rattle.nbrun_top.proofs.Spared.{one_ask, says_spare, apart_paths, apart_from_temporary, apart_from_connection}
use Rattle.job_run.specs.Run.{IsUnsaved}

-- ---- one job is apart from itself

-- the input of a job that there may be
abbrev input_in : Option Ask → List ℕ
input_in None = []
input_in (Some a) = a.input

none_in_one : (a : Ask) (path : List ℕ) → DoesNotWrite a.output path → NoneWrites (a ∷ []) path
none_in_one a path apart zero b is = subst (λ o. DoesNotWrite (output_in o) path) is apart
none_in_one a path apart (suc i) b is = cc

alone_in_one : (a : Ask) (i : ℕ) (b : Ask) → slice_get (a ∷ []) i ≡ Some b → IsAlone (a ∷ []) i b
alone_in_one a zero b at = record { is = at; others = others_ }
  where
    others_ : (k : ℕ) (c : Ask) → k ≢ 0 → slice_get (a ∷ []) k ≡ Some c → DoesNotWrite c.output b.output
    others_ zero c differs is = absurd (differs refl)
    others_ (suc k) c differs is = cc
alone_in_one a (suc i) b at = cc

input_apart : (a : Ask) → are_apart a.input a.output ≡ true → DoesNotWrite a.output a.input
input_apart a apart = record {
  not_output = apart_paths a.input a.output apart;
  not_temporary = apart_from_temporary a.input a.output apart;
  not_connection = apart_from_connection a.input a.output apart;
}

input_in_one : (a : Ask) → DoesNotWrite a.output a.input → (i : ℕ) (b : Ask) → slice_get (a ∷ []) i ≡ Some b → NoneWrites (a ∷ []) b.input
input_in_one a apart zero b at = none_in_one a b.input (subst (λ o. DoesNotWrite a.output (input_in o)) at apart)
input_in_one a apart (suc i) b at = cc

one_apart : (words : List (List ℕ)) (a : Ask) → IsExecuted words a → AreApart (a ∷ [])
one_apart words a is = record { outputs = alone_in_one a; inputs = input_in_one a (input_apart a (job_apart words a is.taken is.asks)) }

-- ---- a run begins clean

clean_start : (asks : List Ask) → AreApart asks → IsClean (numbered 0 asks) []
clean_start asks alone = record {
  whole = refl;
  childless = λ i a at. refl;
  portless = λ i a at. refl;
  lacks = λ i a at. record { rested = refl; none = refl };
  apart = λ i a at. apart_of asks i a (alone.outputs i a at);
}

clean_read : (asks : List Ask) → AreApart asks → (file bytes : List ℕ) → IsClean (numbered 0 asks) (file_read file (found.Whole bytes) [])
clean_read asks alone file bytes = record {
  whole = refl;
  childless = λ i a at. refl;
  portless = λ i a at. refl;
  lacks = λ i a at. record { rested = refl; none = refl };
  apart = λ i a at. apart_of asks i a (alone.outputs i a at);
}

bare_start : IsBare []
bare_start = record {
  quiet = λ path. start;
  shut = λ p less. record { begun = refl; awake = refl; writable = refl; up = refl; failed = refl; refused = refl };
  unread = λ j. refl;
  unrenamed = λ j. refl;
}

bare_read : (file bytes : List ℕ) → IsBare (file_read file (found.Whole bytes) [])
bare_read file bytes = record {
  quiet = λ path. later start refl;
  shut = λ p less. record { begun = refl; awake = refl; writable = refl; up = refl; failed = refl; refused = refl };
  unread = λ j. refl;
  unrenamed = λ j. refl;
}

-- ---- the parts

pub of_one : {here : List ℕ} (words : List (List ℕ)) (a : Ask) (asks : List Ask) (rose cut : Type 0) (code : ℕ) (before after : List Entry) → asks ≡ a ∷ [] → IsExecuted words a
    → (IsBare before → IsClean (numbered 0 asks) before → AreApart asks → Runs asks here rose cut code before after) → before ≡ [] → Executed words here rose cut code after
of_one {here} words a asks rose cut code before after same is runs new =
    executed.ran (a ∷ []) [] after code (of_words a is)
    (subst (λ b. Runs (a ∷ []) here rose cut code b after) new (subst (λ xs. Runs xs here rose cut code before after) same
    (runs (subst IsBare (sym new) bare_start) (subst (IsClean (numbered 0 asks)) (sym new) (clean_start asks (subst AreApart (sym same) (one_apart words a is))))
    (subst AreApart (sym same) (one_apart words a is)))))

pub of_starved : {here : List ℕ} (words : List (List ℕ)) (rose cut : Type 0) (code : ℕ) (before after : List Entry) → code ≡ 12 → Says (all_lines [] [] end.NoMemory) cut before after → before ≡ []
    → Executed words here rose cut code after
of_starved {here} words rose cut code before after is says new =
    subst (λ n. Executed words here rose cut n after) (sym is) (executed.starved after (subst (λ b. Says (all_lines [] [] end.NoMemory) cut b after) new says))

pub of_batch : {here : List ℕ} (words : List (List ℕ)) (file : List ℕ) (common : Ask) (asks : List Ask) (rose cut : Type 0) (code : ℕ) (before read after : List Entry) → IsBatch words file common
    → GivesAsks file common before (Ok asks) read → (IsBare read → IsClean (numbered 0 asks) read → AreApart asks → Runs asks here rose cut code read after) → before ≡ [] → Executed words here rose cut code after
of_batch {here} words file common asks rose cut code before read after is (bytes, gives, entry) runs new =
    let begun : read ≡ file_read file (found.Whole bytes) [] = entry ∙ ap (λ b. file_read file (found.Whole bytes) b) new in
    executed.ran asks (file_read file (found.Whole bytes) []) after code (of_file file common bytes asks is gives)
    (subst (λ b. Runs asks here rose cut code b after) begun
    (runs (subst IsBare (sym begun) (bare_read file bytes)) (subst (IsClean (numbered 0 asks)) (sym begun) (clean_read asks (file_apart file common bytes asks gives) file bytes)) (file_apart file common bytes asks gives)))

pub of_none : {here : List ℕ} (words : List (List ℕ)) (file : List ℕ) (common : Ask) (answer : Last) (line : List ℕ) (rose cut : Type 0) (code : ℕ) (before read after : List Entry)
    → IsBatch words file common → code ≡ code_of answer.end → line ≡ all_lines file (codes "nbrun") answer.end → GivesNone file before answer.end read → Says line cut read after
    → before ≡ [] → Executed words here rose cut code after
of_none {here} words file common answer line rose cut code before read after is coded text gives says new =
    subst (λ n. Executed words here rose cut n after) (sym coded)
    (executed.none file common answer.end read after is (subst (λ b. GivesNone file b answer.end read) new gives) (subst (λ t. Says t cut read after) text says))

-- words that execute, where memory was refused as they were read
of_ran : {here : List ℕ} (words : List (List ℕ)) (rose cut : Type 0) (code : ℕ) (e : End) (on_disk after : List Entry) → IsExecuting words → Ran words [] e on_disk → Answers rose (code_of e) code
    → Says (said_of words e) cut on_disk after → Executed words here rose cut code after
of_ran words rose cut code e on_disk after is (ran.refused u why) answers says = let t = is.taken in absurd (cc)
of_ran words rose cut code e on_disk after is (ran.job a e_ after_ why prepares) answers says = absurd (no_job_executes words a is why)
of_ran words rose cut code e on_disk after is ran.no_memory (plain heard) says = executed.starved after says

pub of_ended : {here : List ℕ} (words : List (List ℕ)) (rose cut : Type 0) (code : ℕ) (before after : List Entry) → IsExecuting words → Ended words code rose cut before after → before ≡ []
    → Executed words here rose cut code after
of_ended words rose cut code before after is ended new =
    of_ran words rose cut code ended.end ended.on_disk after is (subst (λ b. Ran words b ended.end ended.on_disk) new ended.ran) ended.answers ended.says

-- ---- one job

-- the status of a run of one job is that of the job, as far as it says that a save failed
unsaved_code : (rose : Type 0) (status code : ℕ) → Answers rose status code → IsUnsaved status → IsUnsaved code
unsaved_code rose status code (plain heard) is = is
unsaved_code rose status code (not_said f) (inl e) = cc
unsaved_code rose status code (not_said f) (inr e) = cc

unread_code : (a : Ask) (rose : Type 0) (status code : ℕ) (x y : List Entry) → Answers rose status code → IsUnread a status x y → IsUnread a code x y
unread_code a rose status code x y (plain heard) u = u
unread_code a rose status code x y (not_said f) u = absurd (unread_not_zero a x y u)

kernel_code : (a : Ask) (first : Notebook) (rose : Type 0) (status code : ℕ) (x y : List Entry) → Answers rose status code → HasKernel a first status x y → HasKernel a first code x y
kernel_code a first rose status code x y (plain heard) h = h
kernel_code a first rose status code x y (not_said f) h = other_kernel a first 11 x y (λ e. absurd (cc), λ e. absurd (cc))

caused_code : (a : Ask) (first : Notebook) (rose : Type 0) (status code : ℕ) → Answers rose status code → IsCausedIn a first status → IsCausedIn a first code
caused_code a first rose status code (plain heard) is = is
caused_code a first rose status code (not_said f) is = uncaused_in a first 11 refl

counted_code : (a : Ask) (first : Notebook) (rose : Type 0) (status code : ℕ) (journal : List Entry) → Answers rose status code → IsCountedIn a first status journal → IsCountedIn a first code journal
counted_code a first rose status code journal (plain heard) is = is
counted_code a first rose status code journal (not_said f) is = uncounted a first 11 journal refl

followed_code : (rose : Type 0) (status code : ℕ) → Answers rose status code → code ≢ 12 → status ≢ 12
followed_code rose status code (plain heard) fed = fed
followed_code rose status code (not_said f) fed = λ e. absurd (cc)

as_code : (i : ℕ) (a : Ask) (answer : Answer) (rose : Type 0) (status code : ℕ) (journal : List Entry) → Answers rose status code → IsSavedOnly i a answer status journal
    → IsSavedOnly i a answer code journal
as_code i a answer rose status code journal answers (untouched before is unread) = untouched before is (unread_code a rose status code before journal answers unread)
as_code i a answer rose status code journal answers (saved bytes n is_open before newer accepted split first so shut caused counted left kernel follows) =
    saved bytes n is_open before newer accepted split first so (λ e. unsaved_code rose status code answers (shut e)) (caused_code a (first_of a n) rose status code answers caused)
    (counted_code a (first_of a n) rose status code journal answers counted)
    (left_as a (first_of a n) code journal (counted_code a (first_of a n) rose status code journal answers counted))
    (kernel_code a (first_of a n) rose status code (Read a.input 33554432 (found.Whole bytes) ∷ before) journal answers kernel)
    (λ fed. follows (followed_code rose status code answers fed))

one_saved : (a : Ask) (answers : List Answer) (rose : Type 0) (code : ℕ) (journal : List Entry) → HaveRun (a ∷ []) answers journal → Answers rose (first_fault answers) code
    → IsSavedAlone a code journal
one_saved a [] rose code journal run status = let none = run.one_each in absurd (cc)
one_saved a (x ∷ []) rose code journal run status =
    record { answer = x; saved = as_code 0 a x rose x.status code journal (subst (λ n. Answers rose n code) (one_fault x) status) (run.outputs 0 a x refl refl) }
one_saved a (x ∷ y ∷ more_) rose code journal run status = absurd (omega (arith, run.one_each))

pub one_prefixes : {here : List ℕ} (words : List (List ℕ)) (rose cut : Type 0) (code : ℕ) (journal : List Entry) → Executed words here rose cut code journal → (a : Ask) → IsExecuted words a → IsSavedAlone a code journal
one_prefixes words rose cut code journal (executed.ran _ _ _ _ (of_words b also) runs) a is =
    let same : b ≡ a = one_ask (sym also.asks ∙ is.asks) in
    subst (λ c. IsSavedAlone c code journal) same (one_saved b runs.answers rose code journal runs.run runs.status)
one_prefixes words rose cut code journal (executed.ran _ _ _ _ (of_file file common bytes asks also gives) runs) a is = absurd (no_batch_of_one words a common file is also)
one_prefixes words rose cut code journal (executed.none file common e on_disk _ also gives says) a is = absurd (no_batch_of_one words a common file is also)
one_prefixes words rose cut code journal (executed.starved _ says) a is =
    record {
      answer = starved_answer;
      saved = untouched [] (untouched_path a.output (says_spare a.output start says)) (unread_pass a 12 [] [] [] journal start (says_spare a.output start says) (unread_twelve a 12 [] refl));
    }

pub one_others : {here : List ℕ} (words : List (List ℕ)) (rose cut : Type 0) (code : ℕ) (journal : List Entry) → Executed words here rose cut code journal → (a : Ask) (path : List ℕ) → IsExecuted words a
    → DoesNotWrite a.output path → IsUntouched path journal
one_others words rose cut code journal (executed.ran _ _ _ _ (of_words b also) runs) a path is apart =
    let same : a ≡ b = one_ask (sym is.asks ∙ also.asks) in
    runs.run.others path (none_in_one b path (subst (λ (c : Ask). DoesNotWrite c.output path) same apart))
one_others words rose cut code journal (executed.ran _ _ _ _ (of_file file common bytes asks also gives) runs) a path is apart = absurd (no_batch_of_one words a common file is also)
one_others words rose cut code journal (executed.none file common e on_disk _ also gives says) a path is apart = absurd (no_batch_of_one words a common file is also)
one_others words rose cut code journal (executed.starved _ says) a path is apart = untouched_path path (says_spare path start says)

pub one_read_only : {here : List ℕ} (words : List (List ℕ)) (rose cut : Type 0) (code : ℕ) (journal : List Entry) → Executed words here rose cut code journal → (a : Ask) → IsExecuted words a → IsUntouched a.input journal
one_read_only words rose cut code journal it a is = one_others words rose cut code journal it a a.input is (input_apart a (job_apart words a is.taken is.asks))
