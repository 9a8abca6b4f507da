-- What the file of a graph gives: as many jobs as it names, in waves that have no others.
use Rattle.std.proofs.Common.{◌≡◌, ◌⊎◌, inl, inr, ◌<◌, ℕ, suc, List, [], ◌∷◌, length, Some, refl, sym, ◌∙◌, ap, subst}
use Rattle.std.specs.Prelude.{Result, Ok, Err, IfOk, slice_get}
use Rattle.std.specs.List.{AllByRecursion}
use Rattle.std.proofs.lemmas.Option.{slice_get_within}
use Rattle.jtext.specs.declared.json.Json.{Json}
use Rattle.jtext.specs.Grammar.{Spells}
use Rattle.jtext.specs.Keyed.{Keyed}
use Rattle.jtext.specs.Print.{compact}
use Rattle.jtext.specs.Sound.{Sound}
use Rattle.jtext.specs.Within.{IsTextWithin}
use Rattle.jtext.proofs.Only.{one_tree}
use Rattle.jtext.proofs.Printed.{compact_text}
use Rattle.jtext.proofs.SpelledKeyed.{spells_keyed}
use Rattle.job_graph.specs.declared.whole.Graph.{Graph}
use Rattle.job_graph.specs.Refused.{IsGraphOf}
use Rattle.job_graph.specs.declared.graph_fault.GraphFault.{GraphFault}
use Rattle.job_graph.specs.declared.graph_fault.GraphFault.TheVariants as fault
use Rattle.job_graph.specs.Refused as graphs
use Rattle.job_graph.specs.Shape as graph
use Rattle.job_graph.specs.Waves.{AreWaves, HasWave}
use Rattle.job_graph.proofs.Assembly.{contained}
use Rattle.job_graph.proofs.RestLemmas.{rest_keyed, rest_jobs, count_needs}
use Rattle.words.specs.declared.ask.Ask.{Ask}
use Rattle.words.specs.declared.usage.Usage.{Usage}
use Rattle.words.specs.declared.usage.Usage.TheVariants as usage
use Rattle.words.specs.JobsFaults as batch
use Rattle.graph_run.specs.File.{IsRefused, bad, cycle, needs_pointer, no_jobs}
use Rattle.words.specs.JobsAsked.{ask_of_job, asks_of}
use Rattle.words.specs.JobsFile.{IsJobsFile, jobs_of}

pub graph_keyed : (bytes : List ℕ) (g : Graph) → IsGraphOf bytes g → Keyed g.rest
graph_keyed bytes g is = subst (λ (h : Graph). Keyed h.rest) (sym is.same) (rest_keyed is.tree (spells_keyed is.tree bytes is.text.spells))

pub count_asks : (bytes : List ℕ) (g : Graph) (common : Ask) → IsGraphOf bytes g → length (asks_of common g.rest) ≡ length g.needs
count_asks bytes g common is =
    count_needs (ask_of_job common) g.rest
    ∙ ap (λ (h : Graph). length (jobs_of h.rest)) is.same
    ∙ rest_jobs is.tree
    ∙ sym (count_needs (graph.needed_by (graph.jobs_of is.tree)) is.tree)
    ∙ sym (ap (λ (h : Graph). length h.needs) is.same)

-- what is asked is read of the rest itself
abbrev Asked : List ℕ → List ℕ → Ask → Result (List Ask) Usage → Type 0
Asked bytes file common r = IfOk r (λ asks. (t : Json) × IsTextWithin 1048576 100 bytes t × IsJobsFile file t × (asks ≡ asks_of common t))

pub rest_asked : (bytes file : List ℕ) (common : Ask) (rest : Json) (r : Result (List Ask) Usage) → Sound rest → Keyed rest → bytes ≡ compact rest → Asked bytes file common r
    → IfOk r (λ asks. IsJobsFile file rest × (asks ≡ asks_of common rest))
rest_asked bytes file common rest (Err u) sound keyed is h = tt
rest_asked bytes file common rest (Ok asks) sound keyed is h =
    let same : h.0 ≡ rest = one_tree h.0 rest bytes h.1.spells (subst (λ b. Spells rest b) (sym is) (compact_text rest sound keyed)) in
    (subst (IsJobsFile file) same h.2, h.3 ∙ ap (asks_of common) same)

all_at : {A : Type 0} {P : A → Type 0} (xs : List A) → ((k : ℕ) (x : A) → slice_get xs k ≡ Some x → P x) → AllByRecursion P xs
all_at [] each = tt
all_at (x ∷ xs) each = (each 0 x refl, all_at xs (λ k y at. each (suc k) y at))

pub has_job : (needs : List (List ℕ)) (i w : ℕ) → HasWave needs i w → i < length needs
has_job needs i w (HasWave.wave list waves is size have) = slice_get_within needs i list is

pub waves_within : (needs waves : List (List ℕ)) (n : ℕ) → AreWaves needs waves → length needs ≡ n → AllByRecursion (AllByRecursion (λ job. job < n)) waves
waves_within needs waves n are size =
    all_at waves (λ w wave at. all_at wave (λ k job here.
    subst (λ m. job < m) size (has_job needs job w (are.right w job (record { jobs = wave; is = at; has = contained wave job k here })))))

pub first_of_ok : (P Q : List Ask → Type 0) (r : Result (List Ask) Usage) → IfOk r (λ asks. P asks × Q asks) → IfOk r P
first_of_ok P Q (Ok asks) h = h.0
first_of_ok P Q (Err u) h = tt

pub second_of_ok : (P Q : List Ask → Type 0) (r : Result (List Ask) Usage) → IfOk r (λ asks. P asks × Q asks) → IfOk r Q
second_of_ok P Q (Ok asks) h = h.1
second_of_ok P Q (Err u) h = tt

-- ---- refusals

pub no_jobs_in : (file bytes : List ℕ) (g : Graph) (u : Usage) → IsGraphOf bytes g → (u ≡ usage.NoMemory) ⊎ batch.Refused file (compact g.rest) u → (u ≡ usage.NoMemory) ⊎ IsRefused file bytes u
no_jobs_in file bytes g u is (inl none) = inl none
no_jobs_in file bytes g u is (inr why) = inr (no_jobs g u is why)

pub graph_bad : (file bytes at : List ℕ) (f : GraphFault) → f ≡ fault.Bad at → graphs.Refuses bytes f → (usage.BadJobs at ≡ usage.NoMemory) ⊎ IsRefused file bytes (usage.BadJobs at)
graph_bad file bytes at f is why = inr (bad at (subst (graphs.Refuses bytes) is why))

pub graph_cycle : (file bytes : List ℕ) (job : ℕ) (f : GraphFault) (u : Usage) → f ≡ fault.Cycle job → graphs.Refuses bytes f → (u ≡ usage.BadJobs (needs_pointer job)) ⊎ (u ≡ usage.NoMemory)
    → (u ≡ usage.NoMemory) ⊎ IsRefused file bytes u
graph_cycle file bytes job f u is why (inl same) = inr (subst (IsRefused file bytes) (sym same) (cycle job (subst (graphs.Refuses bytes) is why)))
graph_cycle file bytes job f u is why (inr none) = inl none
