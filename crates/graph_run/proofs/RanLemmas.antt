-- What a graph makes of the world, put together.
use Rattle.std.proofs.Common.{◌≡◌, ◌⊎◌, inl, inr, ℕ, List, [], length, Some, refl, sym, ◌∙◌, ap, subst}
use Rattle.std.specs.Prelude.{Ok}
use Rattle.words.specs.declared.ask.Ask.{Ask}
use Rattle.words.specs.declared.usage.Usage.{Usage}
use Rattle.words.specs.declared.usage.Usage.TheVariants as usage
use Rattle.words.specs.Refusals.{refusal}
use Rattle.world.specs.declared.entry.Entry.{Entry}
use Rattle.world.specs.declared.read_file.ReadFile.{ReadFile}
use Rattle.world.specs.declared.read_file.ReadFile.TheVariants as found
use Rattle.world.specs.Counts.{Counts, CountsGrow, Rose}
use Rattle.said_lines.specs.Speech.{Says}
use Rattle.graph_run.specs.declared.answer.Answer.{Answer}
use Rattle.graph_run.specs.declared.end.End.{End}
use Rattle.graph_run.specs.declared.end.End.TheVariants as end
use Rattle.graph_run.specs.declared.standing.Standing.{Standing}
use Rattle.graph_run.specs.declared.workflow.Workflow.{Workflow}
use Rattle.graph_run.specs.Answers.{Answers, FirstFault}
use Rattle.graph_run.specs.declared.ended.Ended.{Ended}
use Rattle.graph_run.specs.Waves.{Runs, Stops}
use Rattle.graph_run.specs.File.{GivesNone, GivesWorkflow, IsRefused, IsWorkflowOf, Speaks, file_read}
use Rattle.graph_run.specs.Lines.{code_of, end_line}
use Rattle.graph_run.specs.Ran.{IsSaid, Ran, RanOn}
use Rattle.graph_run.specs.Words.{IsAsked, batch_words}
use Rattle.graph_run.proofs.ApartLemmas.{keeps_apart}
use Rattle.graph_run.proofs.WaitLemmas.{waves_wait}

-- ---- the file

pub none_at : (file : List ℕ) (answer : ReadFile) (e given : End) → (given ≡ e) ⊎ (given ≡ end.NoMemory) → (past : List Entry) → GivesNone file past e (file_read file answer past)
    → GivesNone file past given (file_read file answer past)
none_at file answer e given (inl same) past it = subst (λ x. GivesNone file past x (file_read file answer past)) (sym same) it
none_at file answer e given (inr memory) past it = subst (λ x. GivesNone file past x (file_read file answer past)) (sym memory) (GivesNone.no_memory answer)

pub memory_at : (file : List ℕ) (answer : ReadFile) (given : End) → given ≡ end.NoMemory → (past : List Entry) → GivesNone file past given (file_read file answer past)
memory_at file answer given memory past = subst (λ x. GivesNone file past x (file_read file answer past)) (sym memory) (GivesNone.no_memory answer)

pub refused_at : (file bytes given_bytes : List ℕ) (u : Usage) (given : End) → given_bytes ≡ bytes → (given ≡ end.Refused u) ⊎ (given ≡ end.NoMemory)
    → (u ≡ usage.NoMemory → given ≡ end.NoMemory) → (u ≡ usage.NoMemory) ⊎ IsRefused file given_bytes u → (past : List Entry)
    → GivesNone file past given (file_read file (found.Whole bytes) past)
refused_at file bytes given_bytes u given same is memory (inl none) past = memory_at file (found.Whole bytes) given (memory none) past
refused_at file bytes given_bytes u given same is memory (inr why) past =
    none_at file (found.Whole bytes) (end.Refused u) given is past (GivesNone.refused bytes u (subst (λ b. IsRefused file b u) same why))

pub given_at : (file : List ℕ) (common : Ask) (bytes given_bytes : List ℕ) (f : Workflow) → given_bytes ≡ bytes → IsWorkflowOf file common given_bytes f → (past : List Entry)
    → (b : List ℕ) × IsWorkflowOf file common b f × (file_read file (found.Whole bytes) past ≡ file_read file (found.Whole b) past)
given_at file common bytes given_bytes f same is past = (bytes, subst (λ b. IsWorkflowOf file common b f) same is, refl)

-- ---- what is said

-- the line that an answer says
pub line_of : (file : List ℕ) (a : Answer) (text : List ℕ) → Speaks file a → (a.end ≡ end.NoMemory → text ≡ end_line [] end.NoMemory) → ((a.end ≡ end.NoMemory → ⊥) → text ≡ a.text)
    → text ≡ end_line file a.end
line_of file a text speaks memory other = by a.end refl
  where
    spoken : (a.end ≡ end.NoMemory → ⊥) → text ≡ end_line file a.end
    spoken fails = elim speaks [ inl is ↦ absurd (fails is) | inr is ↦ other fails ∙ is ]

    by : (e : End) → a.end ≡ e → text ≡ end_line file a.end
    by end.NoMemory is = memory is ∙ sym (ap (end_line file) is)
    by end.NotRead is = spoken (λ f. let wrong : end.NotRead ≡ end.NoMemory = sym is ∙ f in absurd (cc))
    by (end.Refused u) is = spoken (λ f. let wrong : end.Refused u ≡ end.NoMemory = sym is ∙ f in absurd (cc))

-- words that are refused, or memory was
pub words_refused : (words : List (List ℕ)) (here : List ℕ) (turns : ℕ) (rose cut : Type 0) (old new : Counts) (before after : List Entry) (u : Usage) (e : End) (code : ℕ) (text : List ℕ) → code ≡ code_of e
    → (e ≡ end.Refused u) ⊎ (e ≡ end.NoMemory) → (u ≡ usage.NoMemory → e ≡ end.NoMemory) → (u ≡ usage.NoMemory) ⊎ (refusal (batch_words words) ≡ Some u)
    → text ≡ end_line [] e → Says text cut before after → Ran words here turns rose cut old new before code after
words_refused words here turns rose cut old new before after u e code text coded is memory asked line says =
    subst (λ n. Ran words here turns rose cut old new before n after) (sym coded) (by is asked)
  where
    starved : e ≡ end.NoMemory → Ran words here turns rose cut old new before (code_of e) after
    starved none = subst (λ x. Ran words here turns rose cut old new before (code_of x) after) (sym none) (Ran.starved after (subst (λ t. Says t cut before after) (line ∙ ap (end_line []) none) says))

    by : (e ≡ end.Refused u) ⊎ (e ≡ end.NoMemory) → (u ≡ usage.NoMemory) ⊎ (refusal (batch_words words) ≡ Some u) → Ran words here turns rose cut old new before (code_of e) after
    by (inr none) asked = starved none
    by (inl refused) (inl none) = starved (memory none)
    by (inl refused) (inr taken) = subst (λ x. Ran words here turns rose cut old new before (code_of x) after) (sym refused) (Ran.refused u after taken (subst (λ t. Says t cut before after) (line ∙ ap (end_line []) refused) says))

-- a file that gives no jobs
pub file_refused : (words : List (List ℕ)) (here : List ℕ) (turns : ℕ) (rose cut : Type 0) (old new : Counts) (before past after : List Entry) (file : List ℕ) (common : Ask) (e : End) (code : ℕ) (text : List ℕ)
    → IsAsked words file common → code ≡ code_of e → text ≡ end_line file e → GivesNone file before e past → Says text cut past after → Ran words here turns rose cut old new before code after
file_refused words here turns rose cut old new before past after file common e code text asked coded line none says =
    subst (λ n. Ran words here turns rose cut old new before n after) (sym coded) (Ran.none file common e past after asked none (subst (λ t. Says t cut past after) line says))

-- a file that gives jobs
pub file_ran : (words : List (List ℕ)) (here : List ℕ) (turns : ℕ) (first rose cut : Type 0) (old from new : Counts) (before past after : List Entry) (file : List ℕ) (common : Ask) (f : Workflow) (code : ℕ)
    → IsAsked words file common → first ≡ rose → CountsGrow old from → GivesWorkflow file common before (Ok f) past → RanOn f here turns first cut from new past code after
    → Ran words here turns rose cut old new before code after
file_ran words here turns first rose cut old from new before past after file common f code asked same grow given on =
    let read : RanOn f here turns rose cut from new (file_read file (found.Whole given.0) before) code after =
    subst (λ x. RanOn f here turns rose cut from new x code after) given.2 (subst (λ x. RanOn f here turns x cut from new past code after) same on) in
    Ran.ran file common given.0 f from code after asked given.1 grow read (waves_wait f (keeps_apart file common given.0 f given.1) read (λ job a at. refl))

-- ---- the jobs

pub flow_stopped : (f : Workflow) (here : List ℕ) (turns : ℕ) (rose cut : Type 0) (old mid new : Counts) (before past after : List Entry) (code : ℕ) → code ≡ 12
    → Stops f here turns old before mid past → CountsGrow mid new → IsSaid [] end.NoMemory cut past after → RanOn f here turns rose cut old new before code after
flow_stopped f here turns rose cut old mid new before past after code is stops grow says =
    subst (λ n. RanOn f here turns rose cut old new before n after) (sym is) (RanOn.stopped mid past after stops grow says)

pub flow_ran : (f : Workflow) (here : List ℕ) (turns : ℕ) (cut : Type 0) (old new : Counts) (before after : List Entry) (s : Standing) (list : List Ended) (count faults fault code : ℕ) → list ≡ s.ended
    → count ≡ length f.asks → faults ≡ old.say → Runs f here turns old before f.waves s new after → FirstFault list count fault → Answers (Rose faults new.say) fault code
    → RanOn f here turns (Rose old.say new.say) cut old new before code after
flow_ran f here turns cut old new before after s list count faults fault code same size first ran fault_is answers =
    RanOn.ran s fault code after ran (subst (λ n. FirstFault s.ended n fault) size (subst (λ l. FirstFault l count fault) same fault_is))
    (subst (λ n. Answers (Rose n new.say) fault code) first answers)
