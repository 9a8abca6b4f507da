-- A jobs file asks for what a run can do.
use Rattle.std.proofs.Common.{◌≡◌, ◌≤◌, ℕ, ◌+◌, Bool, true, false, cond, nat_eq, List, [], ◌∷◌, map, Option, Some, None, IfSome, refl, sym, ap, ◌∙◌, subst, arith}
use Rattle.std.specs.Prelude.{codes, option_map, unwrap_or}
use Rattle.std.specs.List.{AllByRecursion}
use Rattle.std.specs.Cmp.Lexicographic.{pointwise}
use Rattle.words.proofs.RunnableWords.{IsPlain, AreParameters, parameter}
use Rattle.jtext.specs.declared.json.Json.{Json, out-Json}
use Rattle.jtext.specs.declared.json.Json.TheOpen.{Json-F}
use Rattle.jtext.specs.declared.json.Json.TheVariants as json
use Rattle.jtext.specs.Depth.{depth, highest, highest_of_pairs}
use Rattle.jtext.specs.Find.{find, fields, fields_of, field}
use Rattle.jtext.specs.Grammar.{Distinct}
use Rattle.jtext.specs.Keyed as keyed
use Rattle.jtext.specs.Keyed.{Keyed, AllKeyed, PairsKeyed}
use Rattle.jtext.specs.Look.{items, items_layer, items_of}
use Rattle.jtext.proofs.Trees.{open_Null, open_Bool, open_Num, open_Str, open_Arr, open_Obj}
use Rattle.jtext.proofs.SpelledKeyed.{spelled_keyed}
use Rattle.jtext.proofs.Depths.{depth-Arr, depth-Obj, highest-all, pairs-all}
use Rattle.jtext.specs.Within.{IsTextWithin}
use Rattle.words.specs.declared.ask.Ask.{Ask}
use Rattle.words.specs.JobsFile.{jobs_of}
use Rattle.words.specs.JobsAsked.{ask_of_job, asks_of}
use Rattle.words.specs.Runnable.{IsParameter, IsRunnable}

-- ---- looking into a tree

all_items : (xs : List Json) → AllKeyed xs → AllByRecursion Keyed xs
all_items _ keyed.none = tt
all_items _ (keyed.more x xs k all) = (k, all_items xs all)

all_values : (ps : List (List ℕ × Json)) → PairsKeyed ps → AllByRecursion (λ p. Keyed p.1) ps
all_values _ keyed.no_pairs = tt
all_values _ (keyed.pair key value ps k all) = (k, all_values ps all)

-- a tree without a key twice, nested at most 100 deep
within : (m n : ℕ) → n ≡ 1 + m → n ≤ 100 → m ≤ 100
within m n e le = omega arith

joined : (ps : List (List ℕ × Json)) → AllByRecursion (λ p. Keyed p.1) ps → AllByRecursion (λ p. depth p.1 ≤ 100) ps → AllByRecursion (λ p. IsPlain p.1) ps
joined [] k d = tt
joined (p ∷ ps) k d = ((k.0, d.0), joined ps k.1 d.1)

joined_items : (xs : List Json) → AllByRecursion Keyed xs → AllByRecursion (λ x. depth x ≤ 100) xs → AllByRecursion IsPlain xs
joined_items [] k d = tt
joined_items (x ∷ xs) k d = ((k.0, d.0), joined_items xs k.1 d.1)

abbrev FineFields : List (List ℕ × Json) → Type 0
FineFields ps = AllByRecursion (λ p. IsPlain p.1) ps × Distinct ps

no_fields : (t : Json) (u : Json-F Json) → out-Json t ≡ u → fields_of u ≡ [] → FineFields (fields t)
no_fields t u o e = subst FineFields (sym (ap fields_of o ∙ e)) (tt, tt)

fine_fields : (t : Json) → Keyed t → depth t ≤ 100 → FineFields (fields t)
fine_fields _ keyed.null le = no_fields json.Null Json-F.Null open_Null refl
fine_fields _ (keyed.boolean b) le = no_fields (json.Bool b) (Json-F.Bool b) (open_Bool b) refl
fine_fields _ (keyed.number s) le = no_fields (json.Num s) (Json-F.Num s) (open_Num s) refl
fine_fields _ (keyed.text s) le = no_fields (json.Str s) (Json-F.Str s) (open_Str s) refl
fine_fields _ (keyed.array xs all) le = no_fields (json.Arr xs) (Json-F.Arr xs) (open_Arr xs) refl
fine_fields _ (keyed.object ps all d) le =
    let deep = pairs-all 100 ps (within (highest_of_pairs (map (λ p. (p.0, depth p.1)) ps)) (depth (json.Obj ps)) (depth-Obj ps) le) in
    subst FineFields (sym (ap fields_of (open_Obj ps))) (joined ps (all_values ps all) deep, d)

no_items : (t : Json) (u : Json-F Json) → out-Json t ≡ u → items_layer u ≡ [] → AllByRecursion IsPlain (items t)
no_items t u o e = subst (AllByRecursion IsPlain) (sym (ap items_layer o ∙ e)) tt

fine_items : (t : Json) → Keyed t → depth t ≤ 100 → AllByRecursion IsPlain (items t)
fine_items _ keyed.null le = no_items json.Null Json-F.Null open_Null refl
fine_items _ (keyed.boolean b) le = no_items (json.Bool b) (Json-F.Bool b) (open_Bool b) refl
fine_items _ (keyed.number s) le = no_items (json.Num s) (Json-F.Num s) (open_Num s) refl
fine_items _ (keyed.text s) le = no_items (json.Str s) (Json-F.Str s) (open_Str s) refl
fine_items _ (keyed.array xs all) le =
    let deep = highest-all 100 xs (within (highest (map depth xs)) (depth (json.Arr xs)) (depth-Arr xs) le) in
    subst (AllByRecursion IsPlain) (sym (ap items_layer (open_Arr xs))) (joined_items xs (all_items xs all) deep)
fine_items _ (keyed.object ps all d) le = no_items (json.Obj ps) (Json-F.Obj ps) (open_Obj ps) refl

-- what holds of and_parts value holds of the one under a key
found : (P : Json → Type 0) (key : List ℕ) (ps : List (List ℕ × Json)) → AllByRecursion (λ p. P p.1) ps → IfSome (find key ps) P
found P key [] all = tt
found P key (p ∷ ps) all = by_test (pointwise nat_eq p.0 key) (find key ps) all.0 (found P key ps all.1)
  where
    by_test : (b : Bool) (rest : Option Json) → P p.1 → IfSome rest P → IfSome (cond b (Some p.1) rest) P
    by_test true rest here there = here
    by_test false rest here there = there

-- ---- the jobs

items_of_fine : (o : Option Json) → IfSome o IsPlain → AllByRecursion IsPlain (items_of o)
items_of_fine None h = tt
items_of_fine (Some v) h = fine_items v h.0 h.1

jobs_fine : (t : Json) → IsPlain t → AllByRecursion IsPlain (jobs_of t)
jobs_fine t fine = items_of_fine (field t (codes "jobs")) (found IsPlain (codes "jobs") (fields t) (fine_fields t fine.0 fine.1).0)

-- ---- the parameters

fine_parameters : (ps : List (List ℕ × Json)) → AllByRecursion (λ p. IsPlain p.1) ps → AllByRecursion IsParameter ps
fine_parameters [] fine = tt
fine_parameters (p ∷ ps) fine = (parameter p fine.0, fine_parameters ps fine.1)

params_are : (common : List (List ℕ × Json)) (o : Option Json) → AreParameters common → IfSome o IsPlain → AreParameters (unwrap_or (option_map fields o) common)
params_are common None are fine = are
params_are common (Some v) are fine = let inside = fine_fields v fine.0 fine.1 in (inside.1, fine_parameters (fields v) inside.0)

job_runnable : (common : Ask) (job : Json) → IsRunnable common → IsPlain job → IsRunnable (ask_of_job common job)
job_runnable common job run fine =
    let inside = fine_fields job fine.0 fine.1 in
    let are = params_are common.params (field job (codes "parameters")) (run.distinct, run.parameters) (found IsPlain (codes "parameters") (fields job) inside.0) in
    record { distinct = are.0; parameters = are.1; start = run.start; limit = run.limit }

all_runnable : (common : Ask) (jobs : List Json) → IsRunnable common → AllByRecursion IsPlain jobs → AllByRecursion IsRunnable (map (ask_of_job common) jobs)
all_runnable common [] run fine = tt
all_runnable common (job ∷ jobs) run fine = (job_runnable common job run fine.0, all_runnable common jobs run fine.1)

pub asks_runnable : (bytes : List ℕ) (common : Ask) (t : Json) → IsTextWithin 1048576 100 bytes t → IsRunnable common → AllByRecursion IsRunnable (asks_of common t)
asks_runnable bytes common t text run =
    let fine : IsPlain t = (spelled_keyed t text.spells.value text.spells.is_value, text.within) in
    all_runnable common (jobs_of t) run (jobs_fine t fine)
