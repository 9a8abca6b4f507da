-- No job of a graph's file writes to the output of another one.
use Rattle.std.proofs.Common.{◌≡◌, ◌≢◌, ◌<◌, ◌≤◌, ℕ, zero, suc, ◌+◌, true, false, not, ◌&&◌, List, [], ◌∷◌, ◌++◌, length, Some, codes, refl, sym, ◌∙◌, ap, subst, arith}
use Rattle.std.specs.Prelude.{◌||◌, map, slice_get, unwrap_or}
use Rattle.std.specs.List.{list_any}
use Rattle.std.specs.Option.{option_map}
use Rattle.std.specs.Str.{bytes_eq}
use Rattle.std.proofs.lemmas.Bool.{and_parts, or_parts, not-true}
use Rattle.std.proofs.lemmas.Option.{none-some, same_Some, slice_get-map}
use Rattle.jtext.specs.declared.json.Json.{Json}
use Rattle.jtext.proofs.Equals.{turned_bytes}
use Rattle.jtext.proofs.Lists.{some_at}
use Rattle.job_graph.specs.Waves.{Increase, IncreaseFrom, IsIn}
use Rattle.job_graph.proofs.WaveLemmas.{one_wave}
use Rattle.words.specs.declared.ask.Ask.{Ask}
use Rattle.words.specs.Apart.{are_distinct}
use Rattle.words.specs.JobsAsked.{ask_of_job}
use Rattle.words.specs.JobsFile.{IsJobsFile, jobs_of, path_at, paths_from, paths_of}
use Rattle.words.specs.Paths.{connection_of}
use Rattle.world.specs.Save.{temporary_of}
use Rattle.job_run.specs.Run.{IsOther}
use Rattle.graph_run.specs.File.{IsWorkflowOf}
use Rattle.graph_run.specs.Tests.{output_of}
use Rattle.graph_run.specs.declared.workflow.Workflow.{Workflow}
use Rattle.graph_run.proofs.FileLemmas.{count_asks, has_job}
use Rattle.graph_run.proofs.LawLemmas.{all_get, next_place}

-- ---- the paths of two jobs

-- the output that a job of the file gives
abbrev output_in : Json → List ℕ
output_in job = path_at (codes "output") job

-- the path is none of those that a job with this output writes to
record Differs (path output : List ℕ) : Type 0 where
  not_output : bytes_eq path output ≡ false
  not_temporary : bytes_eq path (temporary_of output) ≡ false
  not_connection : bytes_eq path (connection_of output) ≡ false

-- what a test finds in each of these items
abbrev each_of : {U V : Type 0} → List U → (U → V) → List V
each_of [] v = []
each_of (x ∷ xs) v = v x ∷ each_of xs v

any_each : {U : Type 0} (xs : List U) (path : U → List ℕ) (x : U) → list_any (λ y. bytes_eq (path x) (path y)) xs ≡ list_any (bytes_eq (path x)) (each_of xs path)
any_each [] path x = refl
any_each (y ∷ ys) path x = ap (λ b. bytes_eq (path x) (path y) || b) (any_each ys path x)

distinct_each : {U : Type 0} (xs : List U) (path : U → List ℕ) → are_distinct (λ x y. bytes_eq (path x) (path y)) xs ≡ are_distinct bytes_eq (each_of xs path)
distinct_each [] path = refl
distinct_each (x ∷ xs) path =
    ap (λ b. not b && are_distinct (λ y z. bytes_eq (path y) (path z)) xs) (any_each xs path x) ∙ ap (λ b. not (list_any (bytes_eq (path x)) (each_of xs path)) && b) (distinct_each xs path)

-- the paths of these jobs, of which the first has that index
abbrev paths_in : ℕ → List Json → List (List ℕ)
paths_in n jobs = each_of (paths_from n jobs) (λ p. p.path)

-- a path that is equal to none of the first job's is none of those that this one writes to
differs_first : (path : List ℕ) (n : ℕ) (first : Json) (rest : List Json) → list_any (bytes_eq path) (paths_in n (first ∷ rest)) ≡ false
    → Differs path (output_in first) × (list_any (bytes_eq path) (paths_in (n + 1) rest) ≡ false)
differs_first path n first rest none =
    let i = or_parts (bytes_eq path (path_at (codes "input") first)) _ none in
    let o = or_parts (bytes_eq path (output_in first)) _ i.1 in
    let t = or_parts (bytes_eq path (temporary_of (output_in first))) _ o.1 in
    let c = or_parts (bytes_eq path (connection_of (output_in first))) _ t.1 in
    (record { not_output = o.0; not_temporary = t.0; not_connection = c.0 }, c.1)

-- a path that is equal to none of theirs is none of those that these jobs write to
differs : (path : List ℕ) (n : ℕ) (jobs : List Json) → list_any (bytes_eq path) (paths_in n jobs) ≡ false → (k : ℕ) (job : Json) → slice_get jobs k ≡ Some job → Differs path (output_in job)
differs path n [] none k job at = absurd (none-some job at)
differs path n (first ∷ rest) none zero job at = subst (λ j. Differs path (output_in j)) (same_Some first job at) (differs_first path n first rest none).0
differs path n (first ∷ rest) none (suc k) job at = differs path (n + 1) rest (differs_first path n first rest none).1 k job at

-- the first of distinct items is none of the others
split : (x : List ℕ) (xs : List (List ℕ)) → are_distinct bytes_eq (x ∷ xs) ≡ true → (list_any (bytes_eq x) xs ≡ false) × (are_distinct bytes_eq xs ≡ true)
split x xs e = let p = and_parts (not (list_any (bytes_eq x) xs)) (are_distinct bytes_eq xs) e in (not-true (list_any (bytes_eq x) xs) p.0, p.1)

-- what the first job writes to is none of the later jobs' paths
record IsFirst (n : ℕ) (first : Json) (rest : List Json) : Type 0 where
  output : list_any (bytes_eq (output_in first)) (paths_in (n + 1) rest) ≡ false
  temporary : list_any (bytes_eq (temporary_of (output_in first))) (paths_in (n + 1) rest) ≡ false
  connection : list_any (bytes_eq (connection_of (output_in first))) (paths_in (n + 1) rest) ≡ false
  later : are_distinct bytes_eq (paths_in (n + 1) rest) ≡ true

first_is : (n : ℕ) (first : Json) (rest : List Json) → are_distinct bytes_eq (paths_in n (first ∷ rest)) ≡ true → IsFirst n first rest
first_is n first rest e =
    let others = paths_in (n + 1) rest in
    let o = output_in first in
    let t = temporary_of o in
    let c = connection_of o in
    let one = split (path_at (codes "input") first) (o ∷ t ∷ c ∷ others) e in
    let two = split o (t ∷ c ∷ others) one.1 in
    let three = split t (c ∷ others) two.1 in
    let four = split c others three.1 in
    record {
      output = (or_parts (bytes_eq o c) (list_any (bytes_eq o) others) (or_parts (bytes_eq o t) (list_any (bytes_eq o) (c ∷ others)) two.0).1).1;
      temporary = (or_parts (bytes_eq t c) (list_any (bytes_eq t) others) three.0).1;
      connection = four.0;
      later = four.1;
    }

-- no job writes to the output of another one
apart : (n : ℕ) (jobs : List Json) → are_distinct bytes_eq (paths_in n jobs) ≡ true → (i k : ℕ) (a b : Json) → k ≢ i → slice_get jobs i ≡ Some a → slice_get jobs k ≡ Some b
    → IsOther (output_in b) (output_in a)
apart n [] distinct i k a b differ at also = absurd (none-some a at)
apart n (first ∷ rest) distinct zero zero a b differ at also = absurd (differ refl)
apart n (first ∷ rest) distinct zero (suc k) a b differ at also =
    let d = differs (output_in first) (n + 1) rest (first_is n first rest distinct).output k b also in
    subst (λ j. IsOther (output_in b) (output_in j)) (same_Some first a at) (record {
      output_is = turned_bytes (output_in b) (output_in first) ∙ d.not_output;
      temporary = turned_bytes (temporary_of (output_in b)) (output_in first) ∙ d.not_temporary;
      connection = turned_bytes (connection_of (output_in b)) (output_in first) ∙ d.not_connection;
    })
apart n (first ∷ rest) distinct (suc i) zero a b differ at also =
    let f = first_is n first rest distinct in
    subst (λ j. IsOther (output_in j) (output_in a)) (same_Some first b also) (record {
      output_is = (differs (output_in first) (n + 1) rest f.output i a at).not_output;
      temporary = (differs (temporary_of (output_in first)) (n + 1) rest f.temporary i a at).not_output;
      connection = (differs (connection_of (output_in first)) (n + 1) rest f.connection i a at).not_output;
    })
apart n (first ∷ rest) distinct (suc i) (suc k) a b differ at also =
    apart (n + 1) rest (first_is n first rest distinct).later i k a b (λ e. differ (ap suc e)) at also

-- ---- what is asked

-- the job of the file that an ask is for
record IsFor (common : Ask) (jobs : List Json) (i : ℕ) (a : Ask) : Type 0 where
  job : Json
  at : slice_get jobs i ≡ Some job
  is : ask_of_job common job ≡ a

asked_for : (common : Ask) (jobs : List Json) (i : ℕ) (a : Ask) → slice_get (map (ask_of_job common) jobs) i ≡ Some a → IsFor common jobs i a
asked_for common [] i a at = absurd (none-some a at)
asked_for common (first ∷ rest) zero a at = record { job = first; at = refl; is = same_Some (ask_of_job common first) a at }
asked_for common (first ∷ rest) (suc i) a at = let s = asked_for common rest i a at in record { job = s.job; at = s.at; is = s.is }

pub asks_apart : (file : List ℕ) (common : Ask) (bytes : List ℕ) (f : Workflow) → IsWorkflowOf file common bytes f → (i k : ℕ) (a b : Ask) → k ≢ i → slice_get f.asks i ≡ Some a
    → slice_get f.asks k ≡ Some b → IsOther b.output a.output
asks_apart file common bytes f is i k a b differ at also =
    let jobs = jobs_of f.graph.rest in
    let x = asked_for common jobs i a (subst (λ xs. slice_get xs i ≡ Some a) is.asked at) in
    let y = asked_for common jobs k b (subst (λ xs. slice_get xs k ≡ Some b) is.asked also) in
    let distinct = (split file (paths_in 0 jobs) (sym (distinct_each (paths_of file jobs) (λ p. p.path)) ∙ IsJobsFile.paths_differ is.jobs)).1 in
    subst (λ (p : Ask). IsOther b.output p.output) x.is
    (subst (λ (q : Ask). IsOther q.output (output_in x.job)) y.is (apart 0 jobs distinct i k x.job y.job differ x.at y.at))

-- the output of a job is that of what is asked of it
pub output_is : (f : Workflow) (job : ℕ) (a : Ask) → slice_get f.asks job ≡ Some a → output_of f job ≡ a.output
output_is f job a at =
    ap (λ o. unwrap_or o []) (slice_get-map (λ (x : Ask). x.output) f.asks job ∙ ap (option_map (λ (x : Ask). x.output)) at)

-- ---- the waves

-- What the file of a graph gives: no job writes to the output of another one, and each job of the waves is one of the file's, in
-- one wave and there in one place.
pub record KeepsApart (f : Workflow) : Type 0 where
  pub paths : (i k : ℕ) (a b : Ask) → k ≢ i → slice_get f.asks i ≡ Some a → slice_get f.asks k ≡ Some b → IsOther b.output a.output
  pub once : (w v i : ℕ) → IsIn f.waves w i → IsIn f.waves v i → w ≡ v
  pub has : (w i : ℕ) → IsIn f.waves w i → (a : Ask) × (slice_get f.asks i ≡ Some a)
  pub rises : (w : ℕ) (wave : List ℕ) → slice_get f.waves w ≡ Some wave → Increase wave

pub keeps_apart : (file : List ℕ) (common : Ask) (bytes : List ℕ) (f : Workflow) → IsWorkflowOf file common bytes f → KeepsApart f
keeps_apart file common bytes f is =
    let size : length f.graph.needs ≡ length f.asks = sym (ap (λ (xs : List Ask). length xs) is.asked ∙ count_asks bytes f.graph common is.graph) in
    record {
      paths = asks_apart file common bytes f is;
      once = λ w v i p q. one_wave f.graph.needs (suc w) i w v (omega arith) (is.waves.right w i p) (is.waves.right v i q);
      has = λ w i p. some_at f.asks i (subst (λ n. i < n) size (has_job f.graph.needs i w (is.waves.right w i p)));
      rises = λ w wave at. all_get Increase f.waves is.waves.ordered w wave at;
    }

-- ---- places

-- each number stands in one place
abbrev pub OnceEach : List ℕ → Type 0
OnceEach xs = (i k x : ℕ) → slice_get xs i ≡ Some x → slice_get xs k ≡ Some x → i ≡ k

none_below : (low : ℕ) (xs : List ℕ) → IncreaseFrom low xs → (k x : ℕ) → slice_get xs k ≡ Some x → low ≤ x
none_below low [] rise k x at = absurd (none-some x at)
none_below low (y ∷ ys) rise zero x at = subst (λ z. low ≤ z) (same_Some y x at) rise.0
none_below low (y ∷ ys) rise (suc k) x at =
    let first : low ≤ y = rise.0 in
    let later : y + 1 ≤ x = none_below (y + 1) ys rise.1 k x at in
    omega (arith, first, later)

increase_once : (low : ℕ) (xs : List ℕ) → IncreaseFrom low xs → OnceEach xs
increase_once low [] rise i k x at also = absurd (none-some x at)
increase_once low (y ∷ ys) rise zero zero x at also = refl
increase_once low (y ∷ ys) rise zero (suc k) x at also =
    let same : y ≡ x = same_Some y x at in
    let later : y + 1 ≤ x = none_below (y + 1) ys rise.1 k x also in
    absurd (omega (arith, same, later))
increase_once low (y ∷ ys) rise (suc i) zero x at also =
    let same : y ≡ x = same_Some y x also in
    let later : y + 1 ≤ x = none_below (y + 1) ys rise.1 i x at in
    absurd (omega (arith, same, later))
increase_once low (y ∷ ys) rise (suc i) (suc k) x at also = ap suc (increase_once (y + 1) ys rise.1 i k x at also)

-- a wave has each of its jobs in one place
pub wave_once : (f : Workflow) → KeepsApart f → (first : List (List ℕ)) (wave : List ℕ) (rest : List (List ℕ)) → f.waves ≡ first ++ wave ∷ rest → OnceEach wave
wave_once f apart first wave rest split =
    increase_once 0 wave (apart.rises (length first) wave (subst (λ ws. slice_get ws (length first) ≡ Some wave) (sym split) (next_place first wave rest)))
