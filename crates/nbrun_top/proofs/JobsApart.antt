-- The paths of the jobs of a jobs file.
use Rattle.std.proofs.Common.{◌≡◌, ◌≢◌, ◌⊎◌, inl, inr, ℕ, zero, suc, ◌+◌, Bool, true, false, not, ◌&&◌, List, [], ◌∷◌, map, Option, Some, None, codes, refl, sym, ◌∙◌, ap, subst}
use Rattle.std.specs.Prelude.{◌||◌, slice_get}
use Rattle.std.specs.List.{list_any}
use Rattle.std.specs.Str.{bytes_eq}
use Rattle.jtext.specs.declared.json.Json.{Json}
use Rattle.jtext.specs.declared.json.Json.TheVariants as json
use Rattle.words.specs.declared.ask.Ask.{Ask}
use Rattle.words.specs.Apart.{are_distinct}
use Rattle.words.specs.JobsAsked.{ask_of_job}
use Rattle.words.specs.JobsFile.{IsJobsFile, jobs_of, path_at, paths_from, paths_of}
use Rattle.words.specs.Paths.{temporary_of, connection_of}
use Rattle.std.proofs.lemmas.Bool.{and_parts, or_parts, not-true}
use Rattle.std.proofs.lemmas.Bool.Decides.{eqb_tells}
use Rattle.nbrun_top.specs.Executed.{IsFileOf, IsAlone, NoneWrites, DoesNotWrite, AreApart}
use Rattle.jtext.proofs.Equals.{apart_bytes}
use Rattle.std.proofs.lemmas.Option.{same_Some}

-- ---- tests

-- ---- the paths of a job

abbrev input_of : Json → List ℕ
input_of job = path_at (codes "input") job

abbrev output_of : Json → List ℕ
output_of job = path_at (codes "output") job

-- the path is none of those of the job
record Apart (path : List ℕ) (job : Json) : Type 0 where
  input : bytes_eq path (input_of job) ≡ false
  output : bytes_eq path (output_of job) ≡ false
  temporary : bytes_eq path (temporary_of (output_of job)) ≡ false
  connection : bytes_eq path (connection_of (output_of job)) ≡ false

-- the job doesn't write to it
not_written : (path : List ℕ) (job : Json) → bytes_eq path (output_of job) ≡ false → bytes_eq path (temporary_of (output_of job)) ≡ false
    → bytes_eq path (connection_of (output_of job)) ≡ false → DoesNotWrite (output_of job) path
not_written path job o t c = record {
  not_output = λ e. apart_bytes path (output_of job) o (sym e);
  not_temporary = λ e. apart_bytes path (temporary_of (output_of job)) t (sym e);
  not_connection = λ e. apart_bytes path (connection_of (output_of job)) c (sym e);
}

not_written_by : (path : List ℕ) (job : Json) → Apart path job → DoesNotWrite (output_of job) path
not_written_by path job a = not_written path job a.output a.temporary a.connection

-- each path that a job writes to is none of those of another
module _ (b a : Json) (output : Apart (output_of b) a) (temporary : Apart (temporary_of (output_of b)) a) (connection : Apart (connection_of (output_of b)) a) where
  not_its_output : DoesNotWrite (output_of b) (output_of a)
  not_its_output = record {
    not_output = apart_bytes (output_of b) (output_of a) output.output;
    not_temporary = apart_bytes (temporary_of (output_of b)) (output_of a) temporary.output;
    not_connection = apart_bytes (connection_of (output_of b)) (output_of a) connection.output;
  }

  not_its_input : DoesNotWrite (output_of b) (input_of a)
  not_its_input = record {
    not_output = apart_bytes (output_of b) (input_of a) output.input;
    not_temporary = apart_bytes (temporary_of (output_of b)) (input_of a) temporary.input;
    not_connection = apart_bytes (connection_of (output_of b)) (input_of a) connection.input;
  }

abbrev job_in : Option Json → Json
job_in None = json.Null
job_in (Some job) = job

-- the paths alone
abbrev each_of : {U V : Type 0} → List U → (U → V) → List V
each_of [] f = []
each_of (x ∷ xs) f = f x ∷ each_of xs f

any_by : {U : Type 0} (xs : List U) (path : U → List ℕ) (x : U) → list_any (λ q. bytes_eq (path x) (path q)) xs ≡ list_any (bytes_eq (path x)) (each_of xs path)
any_by [] path x = refl
any_by (y ∷ ys) path x = ap (λ b. bytes_eq (path x) (path y) || b) (any_by ys path x)

distinct_by : {U : Type 0} (xs : List U) (path : U → List ℕ) → are_distinct (λ p q. bytes_eq (path p) (path q)) xs ≡ are_distinct bytes_eq (each_of xs path)
distinct_by [] path = refl
distinct_by (x ∷ xs) path =
    ap (λ b. not b && are_distinct (λ p q. bytes_eq (path p) (path q)) xs) (any_by xs path x)
    ∙ ap (λ b. not (list_any (bytes_eq (path x)) (each_of xs path)) && b) (distinct_by xs path)

abbrev paths_in : ℕ → List Json → List (List ℕ)
paths_in n jobs = each_of (paths_from n jobs) (λ p. p.path)

-- a path that is equal to none of the jobs' is apart from each job
apart_from_all : (path : List ℕ) (n : ℕ) (jobs : List Json) → list_any (bytes_eq path) (paths_in n jobs) ≡ false
    → (k : ℕ) (job : Json) → slice_get jobs k ≡ Some job → Apart path job
apart_from_all path n [] none k job is = cc
apart_from_all path n (first ∷ rest) none zero job is =
    let i = or_parts (bytes_eq path (input_of first)) _ none in
    let o = or_parts (bytes_eq path (output_of first)) _ i.1 in
    let t = or_parts (bytes_eq path (temporary_of (output_of first))) _ o.1 in
    let c = or_parts (bytes_eq path (connection_of (output_of first))) _ t.1 in
    subst (λ j. Apart path (job_in j)) is (record { input = i.0; output = o.0; temporary = t.0; connection = c.0 })
apart_from_all path n (first ∷ rest) none (suc k) job is =
    let i = or_parts (bytes_eq path (input_of first)) _ none in
    let o = or_parts (bytes_eq path (output_of first)) _ i.1 in
    let t = or_parts (bytes_eq path (temporary_of (output_of first))) _ o.1 in
    let c = or_parts (bytes_eq path (connection_of (output_of first))) _ t.1 in
    apart_from_all path (n + 1) rest c.1 k job is

-- ---- the first job

split : {U : Type 0} (same : U → U → Bool) (x : U) (xs : List U) → are_distinct same (x ∷ xs) ≡ true → (list_any (same x) xs ≡ false) × (are_distinct same xs ≡ true)
split same x xs e = let p = and_parts (not (list_any (same x) xs)) (are_distinct same xs) e in (not-true (list_any (same x) xs) p.0, p.1)

past_one : {U : Type 0} (same : U → U → Bool) (p x : U) (xs : List U) → list_any (same p) (x ∷ xs) ≡ false → (same p x ≡ false) × (list_any (same p) xs ≡ false)
past_one same p x xs e = or_parts (same p x) (list_any (same p) xs) e

-- four items and others, no two of them the same
record Four {U : Type 0} (same : U → U → Bool) (i o t c : U) (others : List U) : Type 0 where
  io : same i o ≡ false
  it : same i t ≡ false
  ic : same i c ≡ false
  input : list_any (same i) others ≡ false
  output : list_any (same o) others ≡ false
  temporary : list_any (same t) others ≡ false
  connection : list_any (same c) others ≡ false
  rest : are_distinct same others ≡ true

four : {U : Type 0} (same : U → U → Bool) (i o t c : U) (others : List U) → are_distinct same (i ∷ o ∷ t ∷ c ∷ others) ≡ true → Four same i o t c others
four same i o t c others e =
    let s1 = split same i (o ∷ t ∷ c ∷ others) e in
    let s2 = split same o (t ∷ c ∷ others) s1.1 in
    let s3 = split same t (c ∷ others) s2.1 in
    let s4 = split same c others s3.1 in
    let i1 = past_one same i o (t ∷ c ∷ others) s1.0 in
    let i2 = past_one same i t (c ∷ others) i1.1 in
    let i3 = past_one same i c others i2.1 in
    let o1 = past_one same o t (c ∷ others) s2.0 in
    record {
      io = i1.0;
      it = i2.0;
      ic = i3.0;
      input = i3.1;
      output = (past_one same o c others o1.1).1;
      temporary = (past_one same t c others s3.0).1;
      connection = s4.0;
      rest = s4.1;
    }

-- its paths are none of the others', and its input is none of those that it writes to
record Parts (n : ℕ) (first : Json) (rest : List Json) : Type 0 where
  own : DoesNotWrite (output_of first) (input_of first)
  input : (k : ℕ) (job : Json) → slice_get rest k ≡ Some job → Apart (input_of first) job
  output : (k : ℕ) (job : Json) → slice_get rest k ≡ Some job → Apart (output_of first) job
  temporary : (k : ℕ) (job : Json) → slice_get rest k ≡ Some job → Apart (temporary_of (output_of first)) job
  connection : (k : ℕ) (job : Json) → slice_get rest k ≡ Some job → Apart (connection_of (output_of first)) job
  later : are_distinct bytes_eq (paths_in (n + 1) rest) ≡ true

parts_of_first : (n : ℕ) (first : Json) (rest : List Json) → are_distinct bytes_eq (paths_in n (first ∷ rest)) ≡ true → Parts n first rest
parts_of_first n first rest e =
    let f = four bytes_eq (input_of first) (output_of first) (temporary_of (output_of first)) (connection_of (output_of first)) (paths_in (n + 1) rest) e in
    record {
      own = not_written (input_of first) first f.io f.it f.ic;
      input = apart_from_all (input_of first) (n + 1) rest f.input;
      output = apart_from_all (output_of first) (n + 1) rest f.output;
      temporary = apart_from_all (temporary_of (output_of first)) (n + 1) rest f.temporary;
      connection = apart_from_all (connection_of (output_of first)) (n + 1) rest f.connection;
      later = f.rest;
    }

-- ---- all jobs

-- no job writes to an input or to the output of another one
record Clear (b a : Json) : Type 0 where
  output : DoesNotWrite (output_of b) (output_of a)
  input : DoesNotWrite (output_of b) (input_of a)

clear_later : (n : ℕ) (first : Json) (rest : List Json) → Parts n first rest → (k : ℕ) (b : Json) → slice_get rest k ≡ Some b → Clear b first
clear_later n first rest p k b at = record {
  output = not_written_by (output_of first) b (p.output k b at);
  input = not_written_by (input_of first) b (p.input k b at);
}

clear_first : (n : ℕ) (first : Json) (rest : List Json) → Parts n first rest → (i : ℕ) (a : Json) → slice_get rest i ≡ Some a → Clear first a
clear_first n first rest p i a at =
    let o = p.output i a at in
    let t = p.temporary i a at in
    let c = p.connection i a at in
    record { output = not_its_output first a o t c; input = not_its_input first a o t c }

clear : (n : ℕ) (jobs : List Json) → are_distinct bytes_eq (paths_in n jobs) ≡ true → (i k : ℕ) (a b : Json) → k ≢ i → slice_get jobs i ≡ Some a → slice_get jobs k ≡ Some b → Clear b a
clear n [] distinct i k a b differs at also = cc
clear n (first ∷ rest) distinct zero zero a b differs at also = absurd (differs refl)
clear n (first ∷ rest) distinct zero (suc k) a b differs at also =
    subst (λ j. Clear b (job_in j)) at (clear_later n first rest (parts_of_first n first rest distinct) k b also)
clear n (first ∷ rest) distinct (suc i) zero a b differs at also =
    subst (λ j. Clear (job_in j) a) also (clear_first n first rest (parts_of_first n first rest distinct) i a at)
clear n (first ∷ rest) distinct (suc i) (suc k) a b differs at also =
    clear (n + 1) rest (Parts.later (parts_of_first n first rest distinct)) i k a b (λ e. differs (ap suc e)) at also

own_input : (n : ℕ) (jobs : List Json) → are_distinct bytes_eq (paths_in n jobs) ≡ true → (i : ℕ) (a : Json) → slice_get jobs i ≡ Some a → DoesNotWrite (output_of a) (input_of a)
own_input n [] distinct i a at = cc
own_input n (first ∷ rest) distinct zero a at = subst (λ j. DoesNotWrite (output_of (job_in j)) (input_of (job_in j))) at (Parts.own (parts_of_first n first rest distinct))
own_input n (first ∷ rest) distinct (suc i) a at = own_input (n + 1) rest (Parts.later (parts_of_first n first rest distinct)) i a at

-- ---- what is asked

-- the job that is asked for
record Asks (common : Ask) (jobs : List Json) (i : ℕ) (a : Ask) : Type 0 where
  job : Json
  at : slice_get jobs i ≡ Some job
  is : a ≡ ask_of_job common job

asks_at : (common : Ask) (jobs : List Json) (i : ℕ) (a : Ask) → slice_get (map (ask_of_job common) jobs) i ≡ Some a → Asks common jobs i a
asks_at common [] i a at = cc
asks_at common (first ∷ rest) zero a at = record { job = first; at = refl; is = sym (same_Some _ _ at) }
asks_at common (first ∷ rest) (suc i) a at = let s = asks_at common rest i a at in record { job = s.job; at = s.at; is = s.is }

module _ (file : List ℕ) (common : Ask) (bytes : List ℕ) (asks : List Ask) (is : IsFileOf file common bytes asks) where
  asked_at : (i : ℕ) (a : Ask) → slice_get asks i ≡ Some a → Asks common (jobs_of is.tree) i a
  asked_at i a at = asks_at common (jobs_of is.tree) i a (subst (λ xs. slice_get xs i ≡ Some a) is.asked at)

  whole : (list_any (bytes_eq file) (paths_in 0 (jobs_of is.tree)) ≡ false) × (are_distinct bytes_eq (paths_in 0 (jobs_of is.tree)) ≡ true)
  whole = split bytes_eq file (paths_in 0 (jobs_of is.tree)) (sym (distinct_by (paths_of file (jobs_of is.tree)) (λ p. p.path)) ∙ IsJobsFile.paths_differ is.is)

  clear_at : (i k : ℕ) (a b : Ask) → k ≢ i → slice_get asks i ≡ Some a → slice_get asks k ≡ Some b → DoesNotWrite b.output a.output × DoesNotWrite b.output a.input
  clear_at i k a b differs at also =
      let x = asked_at i a at in
      let y = asked_at k b also in
      let c = clear 0 (jobs_of is.tree) whole.1 i k x.job y.job differs x.at y.at in
      let goal_of : Ask → Ask → Type 0 = λ (p q : Ask). DoesNotWrite q.output p.output × DoesNotWrite q.output p.input in
      subst (λ p. goal_of p b) (sym x.is) (subst (λ q. goal_of (ask_of_job common x.job) q) (sym y.is) (c.output, c.input))

  file_outputs : (i : ℕ) (a : Ask) → slice_get asks i ≡ Some a → IsAlone asks i a
  file_outputs i a at = record { is = at; others = λ k b differs also. (clear_at i k a b differs at also).0 }

  second_of : {A B C D : Type 0} → (A × B) ⊎ (C × D) → B ⊎ D
  second_of (inl (a, b)) = inl b
  second_of (inr (c, d)) = inr d

  same_or_not : (i k : ℕ) → (k ≡ i) ⊎ (k ≢ i)
  same_or_not i k = second_of (eqb_tells k i)

  file_inputs : (i : ℕ) (a : Ask) → slice_get asks i ≡ Some a → NoneWrites asks a.input
  file_inputs i a at k b also = by (same_or_not i k)
    where
      own : (k ≡ i) → DoesNotWrite b.output a.input
      own e =
          let x = asked_at i a at in
          let same : b ≡ a = same_Some _ _ (sym (subst (λ n. slice_get asks n ≡ Some b) e also) ∙ at) in
          subst (λ (q : Ask). DoesNotWrite q.output a.input) (sym same)
          (subst (λ (q : Ask). DoesNotWrite q.output q.input) (sym x.is) (own_input 0 (jobs_of is.tree) whole.1 i x.job x.at))

      by : (k ≡ i) ⊎ (k ≢ i) → DoesNotWrite b.output a.input
      by (inl e) = own e
      by (inr differs) = (clear_at i k a b differs at also).1

  pub file_file : NoneWrites asks file
  file_file k b also =
      let y = asked_at k b also in
      subst (λ (q : Ask). DoesNotWrite q.output file) (sym y.is)
      (not_written_by file y.job (apart_from_all file 0 (jobs_of is.tree) whole.0 k y.job y.at))

  pub file_apart : AreApart asks
  file_apart = record { outputs = file_outputs; inputs = file_inputs }
