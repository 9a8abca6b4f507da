-- What the tests of jobs ask of the disk.
use Rattle.std.proofs.Common.{◌≡◌, ◌<◌, ◌≤◌, ℕ, ◌+◌, Bool, true, false, cond, List, [], ◌∷◌, ◌++◌, length, take, drop, get_or, append_assoc, Option, Some, None, ◌⊎◌, inl, inr, refl, sym, ◌∙◌, ap, subst, arith}
use Rattle.std.proofs.lemmas.List.{take_all, take_more, take-append-drop}
use Rattle.std.specs.Prelude.{Result, Ok, Err, IfOk, IfErr}
use Rattle.std.specs.Prelude.{unwrap_or, slice_get}
use Rattle.std.specs.Result.{IsErrAnd}
use Rattle.std.proofs.lemmas.Result.{err_from_is_err_and}
use Rattle.std.specs.List.{AllByRecursion, list_all}
use Rattle.std.specs.Str.{bytes_eq}
use Rattle.std.proofs.lemmas.Option.{none-some, slice_get-get_or}
use Rattle.jtext.specs.declared.json.Json.{Json}
use Rattle.jtext.specs.declared.json.Json.TheVariants as json
use Rattle.jtext.specs.Depth.{depth}
use Rattle.jtext.specs.Find.{field, fields_of, find}
use Rattle.jtext.specs.Keyed.{Keyed}
use Rattle.jtext.proofs.SpelledKeyed.{spells_keyed}
use Rattle.jtext.proofs.Trees.{open_Obj}
use Rattle.nb_model.specs.declared.notebook.Notebook.{Notebook}
use Rattle.nb_load.specs.Loaded.{IsNotebook}
use Rattle.nb_migrate.specs.Raised.{raised_tree}
use Rattle.nb_migrate.proofs.Depths.{no_deeper}
use Rattle.nb_migrate.proofs.RaisedKeyed.{raised_keyed}
use Rattle.scrap_book.specs.Scraps.{scraps}
use Rattle.scrap_book.proofs.ParameterLemmas.{scraps_fine}
use Rattle.words.specs.Runnable.{IsParameter}
use Rattle.jtext.specs.Edit.{set_pair}
use Rattle.nb_load.specs.declared.load_fault.LoadFault.{LoadFault}
use Rattle.nb_load.specs.declared.load_fault.LoadFault.TheVariants as load_fault
use Rattle.job_graph.specs.declared.take.Take.{Take}
use Rattle.scrap_book.specs.Merging.{with_pairs}
use Rattle.scrap_book.proofs.MergingLemmas.{with-both}
use Rattle.words.specs.declared.ask.Ask.{Ask}
use Rattle.world.specs.declared.entry.Entry.{Entry}
use Rattle.world.specs.declared.entry.Entry.TheVariants.{Read}
use Rattle.world.specs.declared.read_file.ReadFile.{ReadFile}
use Rattle.world.specs.declared.read_file.ReadFile.TheVariants as found
use Rattle.world.specs.Moments.{Since, start, more as later}
use Rattle.world.proofs.MomentsLemmas.{since_then}
use Rattle.graph_run.specs.declared.ended.Ended.{Ended}
use Rattle.graph_run.specs.declared.refusal.Refusal.{Refusal}
use Rattle.graph_run.specs.declared.refusal.Refusal.TheVariants as refusal
use Rattle.graph_run.specs.declared.tested.Tested.{Tested}
use Rattle.graph_run.specs.declared.workflow.Workflow.{Workflow}
use Rattle.graph_run.specs.Tests.{Takes, HasScrap, LacksScrap, GivesNoValue, IsFaulty, IsUnread, Refuses, output_of, Taken, TakesAll, Tests, TestsWave, IsTakeRead, output_read, one_passes, one_is_refused, is_done, needs_of, takes_of, with_params}

-- ---- errors that are handed on

pub err_is : {T E : Type 0} {r : Result T E} {e : E} → IsErrAnd r (λ k. k ≡ e) → r ≡ Err e
err_is {r = r} is = let found = err_from_is_err_and r is in found.1 ∙ ap Err found.2

-- ---- reads alone

one_read : (f : Workflow) (job : ℕ) (answer : ReadFile) (past : List Entry) → Since (IsTakeRead f) past (output_read f job answer past)
one_read f job answer past = later start (job, (answer, (past, refl)))

pub takes_reads : {f : Workflow} {t : Take} {before after : List Entry} {r : Result Json Refusal} → Takes f t before r after → Since (IsTakeRead f) before after
takes_reads {f} {t} {before} (Takes.gives bytes v has) = one_read f t.job (found.Whole bytes) before
takes_reads {f} {t} {before} (Takes.no_scrap bytes lacks) = one_read f t.job (found.Whole bytes) before
takes_reads {f} {t} {before} (Takes.faulty bytes why is) = one_read f t.job (found.Whole bytes) before
takes_reads {f} {t} {before} Takes.too_large = one_read f t.job found.Big before
takes_reads {f} {t} {before} Takes.cannot_read = one_read f t.job found.Failed before
takes_reads Takes.no_memory = start
takes_reads {f} {t} {before} (Takes.no_memory_later answer) = one_read f t.job answer before

pub taken_reads : {f : Workflow} {before after : List Entry} {takes : List Take} {pairs : List (List ℕ × Json)} → Taken f before takes pairs after → Since (IsTakeRead f) before after
taken_reads Taken.none = start
taken_reads {f} (Taken.more {past = past} t bytes v taken has) = later (taken_reads taken) (t.job, (found.Whole bytes, (past, refl)))

pub all_reads : {f : Workflow} {takes : List Take} {params : List (List ℕ × Json)} {before after : List Entry} {r : Result (List (List ℕ × Json)) Refusal} → TakesAll f takes params before r after
    → Since (IsTakeRead f) before after
all_reads (TakesAll.all pairs taken) = taken_reads taken
all_reads (TakesAll.refused first t rest pairs why split taken takes) = since_then (taken_reads taken) (takes_reads takes)
all_reads (TakesAll.no_memory first rest pairs split taken) = taken_reads taken

pub test_reads : {f : Workflow} {ended : List Ended} {job : ℕ} {before after : List Entry} {r : Result Ask Refusal} → Tests f ended job before r after → Since (IsTakeRead f) before after
test_reads (Tests.skipped fails) = start
test_reads (Tests.tested a params needed is takes) = all_reads takes
test_reads (Tests.no_memory a params needed is takes) = all_reads takes

-- ---- one take more

abbrev is_refusal : Result Json Refusal → Type 0
is_refusal (Ok v) = ⊥
is_refusal (Err why) = Unit {0}

wrong : {why : Refusal} {v : Json} → Err why ≡ Ok v → ⊥
wrong is = subst is_refusal is tt

pub taken_more : (f : Workflow) (t : Take) (v : Json) (takes : List Take) (pairs : List (List ℕ × Json)) (before past after : List Entry) (r : Result Json Refusal) → r ≡ Ok v
    → Taken f before takes pairs past → Takes f t past r after → Taken f before (takes ++ t ∷ []) (pairs ++ (t.param, v) ∷ []) after
taken_more f t v takes pairs before past _ _ is taken (Takes.gives bytes u has) =
    let same : u ≡ v = ap (value_or u) is in Taken.more t bytes v taken (subst (λ x. HasScrap bytes t.scrap x) same has)
  where
    value_or : Json → Result Json Refusal → Json
    value_or u (Ok x) = x
    value_or u (Err e) = u
taken_more f t v takes pairs before past _ _ is taken (Takes.no_scrap bytes lacks) = absurd (wrong is)
taken_more f t v takes pairs before past _ _ is taken (Takes.faulty bytes why fails) = absurd (wrong is)
taken_more f t v takes pairs before past _ _ is taken Takes.too_large = absurd (wrong is)
taken_more f t v takes pairs before past _ _ is taken Takes.cannot_read = absurd (wrong is)
taken_more f t v takes pairs before past _ _ is taken Takes.no_memory = absurd (wrong is)
taken_more f t v takes pairs before past _ _ is taken (Takes.no_memory_later answer) = absurd (wrong is)

pub params_more : (params : List (List ℕ × Json)) (pairs : List (List ℕ × Json)) (name : List ℕ) (v : Json)
    → set_pair name v (with_pairs params pairs) ≡ with_pairs params (pairs ++ (name, v) ∷ [])
params_more params pairs name v = sym (with-both params pairs ((name, v) ∷ []))

-- ---- the takes of a job, one after the other

-- these takes were made, and gave these parameters
abbrev pub HasTaken : Workflow → List Entry → List Take → List (List ℕ × Json) → List (List ℕ × Json) → List Entry → Type 0
HasTaken f before takes first params now = (pairs : List (List ℕ × Json)) × Taken f before takes pairs now × (params ≡ with_pairs first pairs)

pub one_taken : (f : Workflow) (all : List Take) (k : ℕ) (t : Take) (v : Json) (first old new : List (List ℕ × Json)) (r : Result Json Refusal) (before past after : List Entry)
    → k < length all → t ≡ get_or all k t → HasTaken f before (take k all) first old past → r ≡ Ok v → Takes f t past r after → new ≡ set_pair t.param v old
    → HasTaken f before (take (k + 1) all) first new after
one_taken f all k t v first old new r before past after below is h ok takes set = (
  h.0 ++ (t.param, v) ∷ [],
  subst (λ ts. Taken f before ts (h.0 ++ (t.param, v) ∷ []) after) (sym (take_more all k t below ∙ ap (λ u. take k all ++ u ∷ []) (sym is)))
      (taken_more f t v (take k all) h.0 before past after r ok h.1 takes),
  set ∙ ap (set_pair t.param v) h.2 ∙ params_more first h.0 t.param v,
)

split_at : (all : List Take) (k : ℕ) (t : Take) → k < length all → t ≡ get_or all k t → all ≡ take k all ++ t ∷ drop (k + 1) all
split_at all k t below is =
    sym (take-append-drop (k + 1) all) ∙ ap (λ ts. ts ++ drop (k + 1) all) (take_more all k t below ∙ ap (λ u. take k all ++ u ∷ []) (sym is))
    ∙ append_assoc (take k all) (t ∷ []) (drop (k + 1) all)

pub take_refused : (f : Workflow) (all : List Take) (k : ℕ) (t : Take) (first old : List (List ℕ × Json)) (r : Result Json Refusal) (why : Refusal) (before past after : List Entry)
    → k < length all → t ≡ get_or all k t → HasTaken f before (take k all) first old past → r ≡ Err why → Takes f t past r after
    → TakesAll f all first before (Err why) after
take_refused f all k t first old r why before past after below is h fails takes =
    TakesAll.refused (take k all) t (drop (k + 1) all) h.0 why (split_at all k t below is) h.1 (subst (λ x. Takes f t past x after) fails takes)

pub takes_starved : (f : Workflow) (all : List Take) (k : ℕ) (first old : List (List ℕ × Json)) (before after : List Entry)
    → HasTaken f before (take k all) first old after → TakesAll f all first before (Err refusal.NoMemory) after
takes_starved f all k first old before after h = TakesAll.no_memory (take k all) (drop k all) h.0 (sym (take-append-drop k all)) h.1

pub takes_done : (f : Workflow) (all : List Take) (k : ℕ) (first old : List (List ℕ × Json)) (before after : List Entry)
    → length all ≤ k → HasTaken f before (take k all) first old after → TakesAll f all first before (Ok old) after
takes_done f all k first old before after over h =
    subst (λ ps. TakesAll f all first before (Ok ps) after) (sym h.2)
    (TakesAll.all h.0 (subst (λ ts. Taken f before ts h.0 after) (take_all k all over) h.1))

-- ---- the test of one job

needed_so : (f : Workflow) (ended : List Ended) (job : ℕ) (needs : List ℕ) (b : Bool) → needs ≡ needs_of f job → b ≡ list_all (is_done ended) needs → list_all (is_done ended) (needs_of f job) ≡ b
needed_so f ended job needs b same all = sym (ap (λ ns. list_all (is_done ended) ns) same) ∙ sym all

asked_so : (f : Workflow) (job : ℕ) (items : List Ask) (a : Ask) → items ≡ f.asks → job < length f.asks → a ≡ get_or items job a → slice_get f.asks job ≡ Some a
asked_so f job items a same below is = slice_get-get_or f.asks job a below ∙ ap (λ x. Some x) (sym (is ∙ ap (λ xs. get_or xs job a) same))

pub test_skipped : (f : Workflow) (ended : List Ended) (job : ℕ) (needs : List ℕ) → needs ≡ needs_of f job → false ≡ list_all (is_done ended) needs → (past : List Entry)
    → Tests f ended job past (Err refusal.Skipped) past
test_skipped f ended job needs same all past = Tests.skipped (needed_so f ended job needs false same all)

pub test_passed : (f : Workflow) (ended : List Ended) (job : ℕ) (needs : List ℕ) (items : List Ask) (a given : Ask) (params : List (List ℕ × Json)) → needs ≡ needs_of f job
    → true ≡ list_all (is_done ended) needs → items ≡ f.asks → job < length f.asks → a ≡ get_or items job a → given ≡ with_params a params → (before after : List Entry)
    → TakesAll f (takes_of f job) a.params before (Ok params) after → Tests f ended job before (Ok given) after
test_passed f ended job needs items a given params same all are below is gives before after takes =
    subst (λ x. Tests f ended job before (Ok x) after) (sym gives) (Tests.tested a (Ok params) (needed_so f ended job needs true same all) (asked_so f job items a are below is) takes)

pub test_starved : (f : Workflow) (ended : List Ended) (job : ℕ) (needs : List ℕ) (items : List Ask) (a : Ask) (params : List (List ℕ × Json)) (r : Result Ask Refusal) → needs ≡ needs_of f job
    → true ≡ list_all (is_done ended) needs → items ≡ f.asks → job < length f.asks → a ≡ get_or items job a → r ≡ Err refusal.NoMemory → (before after : List Entry)
    → TakesAll f (takes_of f job) a.params before (Ok params) after → Tests f ended job before r after
test_starved f ended job needs items a params r same all are below is none before after takes =
    subst (λ x. Tests f ended job before x after) (sym none) (Tests.no_memory a params (needed_so f ended job needs true same all) (asked_so f job items a are below is) takes)

pub test_refused : (f : Workflow) (ended : List Ended) (job : ℕ) (needs : List ℕ) (items : List Ask) (a : Ask) (why : Refusal) → needs ≡ needs_of f job → true ≡ list_all (is_done ended) needs
    → items ≡ f.asks → job < length f.asks → a ≡ get_or items job a → (before after : List Entry) → TakesAll f (takes_of f job) a.params before (Err why) after → Tests f ended job before (Err why) after
test_refused f ended job needs items a why same all are below is before after takes =
    Tests.tested a (Err why) (needed_so f ended job needs true same all) (asked_so f job items a are below is) takes

-- ---- the tests of a wave

pub one_passes_more : (f : Workflow) (ended : List Ended) (wave : List ℕ) (k job : ℕ) (a : Ask) (old new : Tested) (r : Result Ask Refusal) (before past after : List Entry)
    → k < length wave → job ≡ get_or wave k job → TestsWave f ended before (take k wave) old past → r ≡ Ok a → Tests f ended job past r after → new ≡ one_passes old job a
    → TestsWave f ended before (take (k + 1) wave) new after
one_passes_more f ended wave k job a old new r before past after below is h ok test same =
    subst (λ w. TestsWave f ended before w new after) (sym (take_more wave k job below ∙ ap (λ u. take k wave ++ u ∷ []) (sym is)))
    (subst (λ t. TestsWave f ended before (take k wave ++ job ∷ []) t after) (sym same) (TestsWave.passes job a h (subst (λ x. Tests f ended job past x after) ok test)))

pub one_refused_more : (f : Workflow) (ended : List Ended) (wave : List ℕ) (k job : ℕ) (why : Refusal) (old new : Tested) (r : Result Ask Refusal) (before past after : List Entry)
    → k < length wave → job ≡ get_or wave k job → TestsWave f ended before (take k wave) old past → r ≡ Err why → Tests f ended job past r after → (why ≡ refusal.NoMemory → ⊥)
    → new ≡ one_is_refused f old job why → TestsWave f ended before (take (k + 1) wave) new after
one_refused_more f ended wave k job why old new r before past after below is h fails test some same =
    subst (λ w. TestsWave f ended before w new after) (sym (take_more wave k job below ∙ ap (λ u. take k wave ++ u ∷ []) (sym is)))
    (subst (λ t. TestsWave f ended before (take k wave ++ job ∷ []) t after) (sym same)
    (TestsWave.refuses job why h (subst (λ x. Tests f ended job past x after) fails test) some))

-- ---- one take, by what its read answers

pub take_whole : (f : Workflow) (t : Take) (path bytes given : List ℕ) (r : Result Json Refusal) → path ≡ output_of f t.job → given ≡ bytes → IfOk r (HasScrap given t.scrap)
    → IfErr r (λ e. (e ≡ refusal.NoMemory) ⊎ GivesNoValue f t given e) → (past : List Entry) → Takes f t past r (Read path 33554432 (found.Whole bytes) ∷ past)
take_whole f t path bytes given r is same ok fails past =
    subst (λ p. Takes f t past r (Read p 33554432 (found.Whole bytes) ∷ past)) (sym is) (by r (subst (λ b. IfOk r (HasScrap b t.scrap)) same ok) (subst (λ b. IfErr r (λ e. (e ≡ refusal.NoMemory) ⊎ GivesNoValue f t b e)) same fails))
  where
    refused_by : (e : Refusal) → GivesNoValue f t bytes e → Takes f t past (Err e) (output_read f t.job (found.Whole bytes) past)
    refused_by refusal.Skipped h = absurd h
    refused_by (refusal.NotRead p) h = absurd h
    refused_by refusal.TooLarge h = absurd h
    refused_by (refusal.NotLoaded why) h = Takes.faulty bytes why h
    refused_by (refusal.NoScrap scrap job) h =
        subst (λ x. Takes f t past (Err (refusal.NoScrap x job)) (output_read f t.job (found.Whole bytes) past)) (sym h.0)
        (subst (λ x. Takes f t past (Err (refusal.NoScrap t.scrap x)) (output_read f t.job (found.Whole bytes) past)) (sym h.1) (Takes.no_scrap bytes h.2))
    refused_by refusal.NoMemory h = absurd h

    by : (x : Result Json Refusal) → IfOk x (HasScrap bytes t.scrap) → IfErr x (λ e. (e ≡ refusal.NoMemory) ⊎ GivesNoValue f t bytes e) → Takes f t past x (output_read f t.job (found.Whole bytes) past)
    by (Ok v) ok fails = Takes.gives bytes v ok
    by (Err e) ok (inl none) = subst (λ x. Takes f t past (Err x) (output_read f t.job (found.Whole bytes) past)) (sym none) (Takes.no_memory_later (found.Whole bytes))
    by (Err e) ok (inr h) = refused_by e h

pub take_other : (f : Workflow) (t : Take) (path : List ℕ) (answer : ReadFile) (r : Result Json Refusal) → path ≡ output_of f t.job → (past : List Entry) → Takes f t past r (output_read f t.job answer past)
    → Takes f t past r (Read path 33554432 answer ∷ past)
take_other f t path answer r is past h = subst (λ p. Takes f t past r (Read p 33554432 answer ∷ past)) (sym is) h

-- ---- bytes that give no notebook

pub not_loaded : (bytes : List ℕ) (f g : LoadFault) → f ≡ g → Refuses bytes f → (g ≡ load_fault.NoMemory → ⊥)
    → (refusal.NotLoaded g ≡ refusal.NoMemory) ⊎ IsUnread bytes (refusal.NotLoaded g)
not_loaded bytes f g is why known = inr (faulty_by g (subst (Refuses bytes) is why) known)
  where
    faulty_by : (h : LoadFault) → Refuses bytes h → (h ≡ load_fault.NoMemory → ⊥) → IsFaulty bytes h
    faulty_by (load_fault.NotJson x) r n = r
    faulty_by (load_fault.NotNotebook x) r n = r
    faulty_by (load_fault.NoTranslator x) r n = r
    faulty_by load_fault.NoMemory r n = n refl

-- ---- statuses

pub fault_at : (o : Option ℕ) (n : ℕ) (p : Option ℕ) → o ≡ p → n ≡ unwrap_or o 0 → (n ≡ 0 → ⊥) → p ≡ Some n
fault_at None n p same is some = absurd (some is)
fault_at (Some m) n p same is some = sym same ∙ ap (λ k. Some k) (sym is)

-- ---- scraps

found_in : (ps : List (List ℕ × Json)) (name : List ℕ) (o : Option Json) → o ≡ field (json.Obj ps) name → find name ps ≡ o
found_in ps name o is = sym (ap (λ u. find name (fields_of u)) (open_Obj ps)) ∙ sym is

pub has_scrap : (bytes name given : List ℕ) (n : Notebook) (ps : List (List ℕ × Json)) (v copied : Json) → IsNotebook bytes n → ps ≡ scraps n → given ≡ name → Some v ≡ field (json.Obj ps) given
    → copied ≡ v → HasScrap bytes name copied
has_scrap bytes name given n ps v copied read are same is copy = record {
  notebook = n;
  read = read;
  is = sym (ap (find name) are) ∙ sym (ap (λ k. find k ps) same) ∙ found_in ps given (Some v) is ∙ ap (λ x. Some x) (sym copy);
}

pub lacks_scrap : (bytes name given : List ℕ) (n : Notebook) (ps : List (List ℕ × Json)) → IsNotebook bytes n → ps ≡ scraps n → given ≡ name → None ≡ field (json.Obj ps) given
    → LacksScrap bytes name
lacks_scrap bytes name given n ps read are same is = record {
  notebook = n;
  read = read;
  none = sym (ap (find name) are) ∙ sym (ap (λ k. find k ps) same) ∙ found_in ps given None is;
}

found_fine : (name : List ℕ) (v : Json) (ps : List (List ℕ × Json)) → AllByRecursion IsParameter ps → find name ps ≡ Some v → Keyed v × (depth v ≤ 124)
found_fine name v [] all is = absurd (none-some v is)
found_fine name v (p ∷ ps) all is = by (found_fine name v ps all.1) (bytes_eq p.0 name) is
  where
    by : (find name ps ≡ Some v → Keyed v × (depth v ≤ 124)) → (b : Bool) → cond b (Some p.1) (find name ps) ≡ Some v → Keyed v × (depth v ≤ 124)
    by rest true e = subst (λ u. Keyed u × (depth u ≤ 124)) (ap (λ o. unwrap_or o p.1) e) (all.0.keyed, all.0.nests)
    by rest false e = rest e

within : (a b : ℕ) → a ≤ b → b ≤ 128 → a ≤ 128
within a b p q = omega (arith, p, q)

pub scrap_fine : (bytes name : List ℕ) (v : Json) → HasScrap bytes name v → Keyed v × (depth v ≤ 124)
scrap_fine bytes name v has =
    let read = has.read in
    let t = raised_tree read.tree in
    found_fine name v (scraps has.notebook)
    (subst (λ n. AllByRecursion IsParameter (scraps n)) (sym read.is)
    (scraps_fine t (raised_keyed read.tree (spells_keyed read.tree bytes read.gives.spells)) (within (depth t) (depth read.tree) (no_deeper read.tree) read.gives.within))) has.is

pub take_failed : (f : Workflow) (t : Take) (path : List ℕ) → path ≡ output_of f t.job → (past : List Entry) → Takes f t past (Err (refusal.NotRead path)) (Read path 33554432 found.Failed ∷ past)
take_failed f t path is past = subst (λ p. Takes f t past (Err (refusal.NotRead p)) (Read p 33554432 found.Failed ∷ past)) (sym is) Takes.cannot_read
