-- The jobs file that stays of a graph: no key stands twice in it, and it has as many jobs.
use Rattle.std.proofs.Common.{◌≡◌, ℕ, Bool, true, false, not, inl, inr, List, [], ◌∷◌, length, map, filter, Option, Some, None, suc, refl, sym, ◌∙◌, ap, subst, cond, codes}
use Rattle.std.specs.Prelude.{option_map}
use Rattle.std.specs.Str.{bytes_eq}
use Rattle.std.proofs.lemmas.Bool.{cases_Bool, cond-true, cond-false}
use Rattle.jtext.specs.declared.json.Json.{Json, out-Json}
use Rattle.jtext.specs.declared.json.Json.TheOpen.{Json-F}
use Rattle.jtext.specs.declared.json.Json.TheVariants as json
use Rattle.jtext.specs.Find.{find, fields, fields_of, field}
use Rattle.jtext.specs.Grammar.{Lacks, Distinct}
use Rattle.jtext.specs.Keyed as keyed
use Rattle.jtext.specs.Keyed.{Keyed, AllKeyed, PairsKeyed}
use Rattle.jtext.specs.Look.{items, items_layer, items_of}
use Rattle.jtext.proofs.Trees.{open_Null, open_Bool, open_Num, open_Str, open_Arr, open_Obj}
use Rattle.job_graph.specs.Given.{is_of_graph, plain_job, plain_pair, rest_of}
use Rattle.job_graph.specs.Shape.{jobs_of}

-- ---- looking into a tree

abbrev FinePairs : List (List ℕ × Json) → Type 0
FinePairs ps = PairsKeyed ps × Distinct ps

no_fields : (t : Json) (u : Json-F Json) → out-Json t ≡ u → fields_of u ≡ [] → FinePairs (fields t)
no_fields t u o e = subst FinePairs (sym (ap fields_of o ∙ e)) (keyed.no_pairs, tt)

fine_fields : (t : Json) → Keyed t → FinePairs (fields t)
fine_fields _ keyed.null = no_fields json.Null Json-F.Null open_Null refl
fine_fields _ (keyed.boolean b) = no_fields (json.Bool b) (Json-F.Bool b) (open_Bool b) refl
fine_fields _ (keyed.number s) = no_fields (json.Num s) (Json-F.Num s) (open_Num s) refl
fine_fields _ (keyed.text s) = no_fields (json.Str s) (Json-F.Str s) (open_Str s) refl
fine_fields _ (keyed.array xs all) = no_fields (json.Arr xs) (Json-F.Arr xs) (open_Arr xs) refl
fine_fields _ (keyed.object ps all d) = subst FinePairs (sym (ap fields_of (open_Obj ps))) (all, d)

no_items : (t : Json) (u : Json-F Json) → out-Json t ≡ u → items_layer u ≡ [] → AllKeyed (items t)
no_items t u o e = subst AllKeyed (sym (ap items_layer o ∙ e)) keyed.none

fine_items : (t : Json) → Keyed t → AllKeyed (items t)
fine_items _ keyed.null = no_items json.Null Json-F.Null open_Null refl
fine_items _ (keyed.boolean b) = no_items (json.Bool b) (Json-F.Bool b) (open_Bool b) refl
fine_items _ (keyed.number s) = no_items (json.Num s) (Json-F.Num s) (open_Num s) refl
fine_items _ (keyed.text s) = no_items (json.Str s) (Json-F.Str s) (open_Str s) refl
fine_items _ (keyed.array xs all) = subst AllKeyed (sym (ap items_layer (open_Arr xs))) all
fine_items _ (keyed.object ps all d) = no_items (json.Obj ps) (Json-F.Obj ps) (open_Obj ps) refl

-- ---- a job

lacks_kept : (test : List ℕ × Json → Bool) (key : List ℕ) (ps : List (List ℕ × Json)) → Lacks key ps → Lacks key (filter test ps)
lacks_kept test key [] l = tt
lacks_kept test key (p ∷ ps) l =
    elim (test p) as (λ b. Lacks key (cond b (p ∷ filter test ps) (filter test ps))) [ true ↦ (l.0, lacks_kept test key ps l.1) | false ↦ lacks_kept test key ps l.1 ]

distinct_kept : (test : List ℕ × Json → Bool) (ps : List (List ℕ × Json)) → Distinct ps → Distinct (filter test ps)
distinct_kept test [] d = tt
distinct_kept test (p ∷ ps) d =
    elim (test p) as (λ b. Distinct (cond b (p ∷ filter test ps) (filter test ps))) [ true ↦ (lacks_kept test p.0 ps d.0, distinct_kept test ps d.1) | false ↦ distinct_kept test ps d.1 ]

pairs_kept : (test : List ℕ × Json → Bool) (ps : List (List ℕ × Json)) → PairsKeyed ps → PairsKeyed (filter test ps)
pairs_kept test _ keyed.no_pairs = keyed.no_pairs
pairs_kept test _ (keyed.pair key value ps k all) =
    elim (test (key, value)) as (λ b. PairsKeyed (cond b ((key, value) ∷ filter test ps) (filter test ps))) [
      | true ↦ keyed.pair key value (filter test ps) k (pairs_kept test ps all)
      | false ↦ pairs_kept test ps all
    ]

job_keyed : (job : Json) → Keyed job → Keyed (plain_job job)
job_keyed job k =
    let fine = fine_fields job k in
    keyed.object (filter (λ p. not (is_of_graph p)) (fields job)) (pairs_kept (λ p. not (is_of_graph p)) (fields job) fine.0)
    (distinct_kept (λ p. not (is_of_graph p)) (fields job) fine.1)

jobs_keyed : (jobs : List Json) → AllKeyed jobs → AllKeyed (map plain_job jobs)
jobs_keyed _ keyed.none = keyed.none
jobs_keyed _ (keyed.more job jobs k all) = keyed.more (plain_job job) (map plain_job jobs) (job_keyed job k) (jobs_keyed jobs all)

-- ---- the file

abbrev jobs_key : List ℕ
jobs_key = codes "jobs"

same_key : (p : List ℕ × Json) → (plain_pair p).0 ≡ p.0
same_key p = elim (bytes_eq p.0 jobs_key) as (λ b. (cond b (p.0, json.Arr (map plain_job (items p.1))) p).0 ≡ p.0) [ true ↦ refl | false ↦ refl ]

value_keyed : (p : List ℕ × Json) → Keyed p.1 → Keyed (plain_pair p).1
value_keyed p k =
    elim (bytes_eq p.0 jobs_key) as (λ b. Keyed (cond b (p.0, json.Arr (map plain_job (items p.1))) p).1) [
      | true ↦ keyed.array (map plain_job (items p.1)) (jobs_keyed (items p.1) (fine_items p.1 k))
      | false ↦ k
    ]

lacks_plain : (key : List ℕ) (ps : List (List ℕ × Json)) → Lacks key ps → Lacks key (map plain_pair ps)
lacks_plain key [] l = tt
lacks_plain key (p ∷ ps) l = (λ e. l.0 (sym (same_key p) ∙ e), lacks_plain key ps l.1)

distinct_plain : (ps : List (List ℕ × Json)) → Distinct ps → Distinct (map plain_pair ps)
distinct_plain [] d = tt
distinct_plain (p ∷ ps) d = (subst (λ key. Lacks key (map plain_pair ps)) (sym (same_key p)) (lacks_plain p.0 ps d.0), distinct_plain ps d.1)

pairs_plain : (ps : List (List ℕ × Json)) → PairsKeyed ps → PairsKeyed (map plain_pair ps)
pairs_plain _ keyed.no_pairs = keyed.no_pairs
pairs_plain _ (keyed.pair key value ps k all) =
    keyed.pair (plain_pair (key, value)).0 (plain_pair (key, value)).1 (map plain_pair ps) (value_keyed (key, value) k) (pairs_plain ps all)

pub rest_keyed : (t : Json) → Keyed t → Keyed (rest_of t)
rest_keyed t k =
    let fine = fine_fields t k in
    keyed.object (map plain_pair (fields t)) (pairs_plain (fields t) fine.0) (distinct_plain (fields t) fine.1)

-- ---- its jobs

abbrev plain_value : Json → Json
plain_value v = json.Arr (map plain_job (items v))

found_plain : (ps : List (List ℕ × Json)) → find jobs_key (map plain_pair ps) ≡ option_map plain_value (find jobs_key ps)
found_plain [] = refl
found_plain (p ∷ ps) =
    elim (cases_Bool (bytes_eq p.0 jobs_key)) [
      | inl is ↦
          let there : plain_pair p ≡ (p.0, plain_value p.1) = cond-true (bytes_eq p.0 jobs_key) (p.0, plain_value p.1) p is in
          ap (λ q. cond (bytes_eq q.0 jobs_key) (Some q.1) (find jobs_key (map plain_pair ps))) there
          ∙ cond-true (bytes_eq p.0 jobs_key) (Some (plain_value p.1)) (find jobs_key (map plain_pair ps)) is
          ∙ ap (option_map plain_value) (sym (cond-true (bytes_eq p.0 jobs_key) (Some p.1) (find jobs_key ps) is))
      | inr other ↦
          let same : plain_pair p ≡ p = cond-false (bytes_eq p.0 jobs_key) (p.0, plain_value p.1) p other in
          ap (λ q. cond (bytes_eq q.0 jobs_key) (Some q.1) (find jobs_key (map plain_pair ps))) same
          ∙ cond-false (bytes_eq p.0 jobs_key) (Some p.1) (find jobs_key (map plain_pair ps)) other
          ∙ found_plain ps
          ∙ ap (option_map plain_value) (sym (cond-false (bytes_eq p.0 jobs_key) (Some p.1) (find jobs_key ps) other))
    ]

map_count : {A B : Type 0} (f : A → B) (xs : List A) → length (map f xs) ≡ length xs
map_count f [] = refl
map_count f (x ∷ xs) = ap suc (map_count f xs)

value_jobs : (o : Option Json) → length (items_of (option_map plain_value o)) ≡ length (items_of o)
value_jobs None = refl
value_jobs (Some v) = ap (λ u. length (items_layer u)) (open_Arr (map plain_job (items v))) ∙ map_count plain_job (items v)

pub rest_jobs : (t : Json) → length (jobs_of (rest_of t)) ≡ length (jobs_of t)
rest_jobs t =
    ap (λ ps. length (items_of (find jobs_key ps))) (ap fields_of (open_Obj (map plain_pair (fields t))))
    ∙ ap (λ o. length (items_of o)) (found_plain (fields t))
    ∙ value_jobs (find jobs_key (fields t))

pub count_needs : {A : Type 0} (f : Json → A) (t : Json) → length (map f (jobs_of t)) ≡ length (jobs_of t)
count_needs f t = map_count f (jobs_of t)
