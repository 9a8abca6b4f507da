-- A jobs file has a fault exactly where it isn't valid.
use Rattle.std.proofs.Common.{◌≡◌, ℕ, ◌+◌, true, cond, not, ◌&&◌, List, [], ◌∷◌, ◌++◌, length, Option, Some, None, refl, sym, ap, ◌∙◌}
use Rattle.std.proofs.lemmas.Bool.{and_parts, and_from, false≢true, not_from_false, not-true}
use Rattle.std.specs.Prelude.{is_some, codes}
use Rattle.std.specs.List.{list_any, list_all}
use Rattle.std.specs.Str.{bytes_eq}
use Rattle.std.specs.Cmp.Lexicographic.{nat_list_eq_equiv}
use Rattle.jtext.specs.declared.json.Json.{Json}
use Rattle.jtext.specs.Find.{field, fields}
use Rattle.jtext.specs.Look.{is_object, is_list, items, there_and}
use Rattle.jtext.proofs.Edits.{not_first}
use Rattle.words.specs.declared.member.Member.{Member}
use Rattle.words.specs.declared.place.Place.TheVariants as place
use Rattle.words.specs.declared.used_path.UsedPath.{UsedPath}
use Rattle.words.specs.Members.{has_key, member_of, takes_value}
use Rattle.words.specs.JobsFile.{member_takes, is_member, is_job, is_count, are_jobs, is_batch, jobs_of, paths_of, is_equal, IsJobsFile}
use Rattle.words.specs.JobsFaults.{value_fault_of, value_fault, first_value_fault, has_job_keys, job_fault, first_job_fault, list_fault, list_fault_of, shape_fault, first_equal, fault}
use Rattle.words.proofs.Truths.{no_some, else_none, or_none, none_or}
use Rattle.words.proofs.ApartLemmas.{no_earlier, no_earlier_apart}

-- ---- members

value_sound : (i : ℕ) (v : Json) (m : Option Member) → is_some m ≡ true → value_fault_of i v m ≡ None → member_takes m v ≡ true
value_sound i v None known e = absurd (false≢true known)
value_sound i v (Some m) known e = (else_none (takes_value m v) (place.Value i m) None e).0

value_faultless : (i : ℕ) (v : Json) (m : Option Member) → member_takes m v ≡ true → (is_some m ≡ true) × (value_fault_of i v m ≡ None)
value_faultless i v None takes = absurd (false≢true takes)
value_faultless i v (Some m) takes = (refl, ap (λ b. cond b None (Some (place.Value i m))) takes)

values_sound : (i : ℕ) (ps : List (List ℕ × Json)) → list_all (λ p. is_some (member_of p.0)) ps ≡ true → first_value_fault i ps ≡ None → list_all is_member ps ≡ true
values_sound i [] known e = refl
values_sound i (p ∷ ps) known e =
    let k = and_parts (is_some (member_of p.0)) (list_all (λ q. is_some (member_of q.0)) ps) known in
    let n = or_none (value_fault i p) (first_value_fault i ps) e in
    and_from (is_member p) (list_all is_member ps) (value_sound i p.1 (member_of p.0) k.0 n.0) (values_sound i ps k.1 n.1)

values_faultless : (i : ℕ) (ps : List (List ℕ × Json)) → list_all is_member ps ≡ true
    → (list_all (λ p. is_some (member_of p.0)) ps ≡ true) × (first_value_fault i ps ≡ None)
values_faultless i [] all = (refl, refl)
values_faultless i (p ∷ ps) all =
    let parts = and_parts (is_member p) (list_all is_member ps) all in
    let here = value_faultless i p.1 (member_of p.0) parts.0 in
    let there = values_faultless i ps parts.1 in
    (and_from (is_some (member_of p.0)) (list_all (λ q. is_some (member_of q.0)) ps) here.0 there.0, none_or (value_fault i p) (first_value_fault i ps) here.1 there.1)

-- ---- jobs

job_sound : (i : ℕ) (t : Json) → job_fault i t ≡ None → is_job t ≡ true
job_sound i t e =
    let input = has_key (codes "input") t in
    let output = has_key (codes "output") t in
    let known = list_all (λ p. is_some (member_of p.0)) (fields t) in
    let whole = else_none (is_object t && has_job_keys t) (place.Job i) (first_value_fault i (fields t)) e in
    let object = and_parts (is_object t) (has_job_keys t) whole.0 in
    let keys = and_parts (input && output) known object.1 in
    let two = and_parts input output keys.0 in
    and_from (is_object t && input && output) (list_all is_member (fields t)) (and_from (is_object t && input) output (and_from (is_object t) input object.0 two.0) two.1)
    (values_sound i (fields t) keys.1 whole.1)

job_faultless : (i : ℕ) (t : Json) → is_job t ≡ true → job_fault i t ≡ None
job_faultless i t is =
    let input = has_key (codes "input") t in
    let output = has_key (codes "output") t in
    let known = list_all (λ p. is_some (member_of p.0)) (fields t) in
    let parts = and_parts (is_object t && input && output) (list_all is_member (fields t)) is in
    let three = and_parts (is_object t && input) output parts.0 in
    let two = and_parts (is_object t) input three.0 in
    let values = values_faultless i (fields t) parts.1 in
    ap (λ b. cond b (first_value_fault i (fields t)) (Some (place.Job i)))
    (and_from (is_object t) (has_job_keys t) two.0 (and_from (input && output) known (and_from input output two.1 three.1) values.0))
    ∙ values.1

jobs_sound : (i : ℕ) (js : List Json) → first_job_fault i js ≡ None → list_all is_job js ≡ true
jobs_sound i [] e = refl
jobs_sound i (j ∷ js) e =
    let n = or_none (job_fault i j) (first_job_fault (i + 1) js) e in
    and_from (is_job j) (list_all is_job js) (job_sound i j n.0) (jobs_sound (i + 1) js n.1)

jobs_faultless : (i : ℕ) (js : List Json) → list_all is_job js ≡ true → first_job_fault i js ≡ None
jobs_faultless i [] all = refl
jobs_faultless i (j ∷ js) all =
    let parts = and_parts (is_job j) (list_all is_job js) all in
    none_or (job_fault i j) (first_job_fault (i + 1) js) (job_faultless i j parts.0) (jobs_faultless (i + 1) js parts.1)

-- ---- the tree

list_sound : (v : Json) → list_fault v ≡ None → are_jobs v ≡ true
list_sound v e =
    let whole = else_none (is_list v && is_count (length (items v))) place.Jobs (first_job_fault 0 (items v)) e in
    and_from (is_list v && is_count (length (items v))) (list_all is_job (items v)) whole.0 (jobs_sound 0 (items v) whole.1)

list_faultless : (v : Json) → are_jobs v ≡ true → list_fault v ≡ None
list_faultless v are =
    let parts = and_parts (is_list v && is_count (length (items v))) (list_all is_job (items v)) are in
    ap (λ b. cond b (first_job_fault 0 (items v)) (Some place.Jobs)) parts.0 ∙ jobs_faultless 0 (items v) parts.1

under_sound : (o : Option Json) → list_fault_of o ≡ None → there_and are_jobs o ≡ true
under_sound None e = absurd (no_some place.Whole e)
under_sound (Some v) e = list_sound v e

under_faultless : (o : Option Json) → there_and are_jobs o ≡ true → list_fault_of o ≡ None
under_faultless None is = absurd (false≢true is)
under_faultless (Some v) is = list_faultless v is

shape_sound : (t : Json) → shape_fault t ≡ None → is_batch t ≡ true
shape_sound t e =
    let only = list_all (λ p. bytes_eq p.0 (codes "jobs")) (fields t) in
    let list = field t (codes "jobs") in
    let whole = else_none (is_object t && only) place.Whole (list_fault_of list) e in
    and_from (is_object t && only) (there_and are_jobs list) whole.0 (under_sound list whole.1)

shape_faultless : (t : Json) → is_batch t ≡ true → shape_fault t ≡ None
shape_faultless t is =
    let only = list_all (λ p. bytes_eq p.0 (codes "jobs")) (fields t) in
    let list = field t (codes "jobs") in
    let parts = and_parts (is_object t && only) (there_and are_jobs list) is in
    ap (λ b. cond b (list_fault_of list) (Some place.Whole)) parts.0 ∙ under_faultless list parts.1

-- ---- the paths

equal_flips : (p q : UsedPath) → is_equal p q ≡ is_equal q p
equal_flips p q = nat_list_eq_equiv.symm p.path q.path

differ_sound : (before ps : List UsedPath) → first_equal before ps ≡ None → no_earlier is_equal before ps ≡ true
differ_sound before [] e = refl
differ_sound before (p ∷ ps) e =
    let parts = not_first (list_any (is_equal p) before) p.place (first_equal (before ++ p ∷ []) ps) e in
    and_from (not (list_any (is_equal p) before)) (no_earlier is_equal (before ++ p ∷ []) ps) (not_from_false (list_any (is_equal p) before) parts.0)
    (differ_sound (before ++ p ∷ []) ps parts.1)

differ_faultless : (before ps : List UsedPath) → no_earlier is_equal before ps ≡ true → first_equal before ps ≡ None
differ_faultless before [] is = refl
differ_faultless before (p ∷ ps) is =
    let parts = and_parts (not (list_any (is_equal p) before)) (no_earlier is_equal (before ++ p ∷ []) ps) is in
    ap (λ b. cond b (Some p.place) (first_equal (before ++ p ∷ []) ps)) (not-true (list_any (is_equal p) before) parts.0)
    ∙ differ_faultless (before ++ p ∷ []) ps parts.1

-- ---- the law

pub only_valid : (file : List ℕ) (t : Json) → fault file t ≡ None → IsJobsFile file t
only_valid file t e =
    let paths = paths_of file (jobs_of t) in
    let parts = or_none (shape_fault t) (first_equal [] paths) e in
    record {
      shape = shape_sound t parts.0;
      paths_differ = sym (no_earlier_apart is_equal equal_flips paths) ∙ differ_sound [] paths parts.1;
    }

pub all_valid : (file : List ℕ) (t : Json) → IsJobsFile file t → fault file t ≡ None
all_valid file t is =
    let paths = paths_of file (jobs_of t) in
    none_or (shape_fault t) (first_equal [] paths) (shape_faultless t is.shape)
    (differ_faultless [] paths (no_earlier_apart is_equal equal_flips paths ∙ is.paths_differ))
