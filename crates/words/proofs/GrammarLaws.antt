-- Words are refused exactly where they are outside the grammar.
use Rattle.std.proofs.Common.{◌≡◌, ◌≤◌, ℕ, ◌==◌, Bool, true, false, cond, not, ◌&&◌, List, [], ◌∷◌, ◌++◌, Option, Some, None, refl, sym, ap, ◌∙◌, arith}
use Rattle.std.proofs.lemmas.Bool.{and_parts, and_from, false≢true, not_from_false, not-true, not-false, eqb-true}
use Rattle.std.specs.Prelude.{is_some, is_none, find, option_map}
use Rattle.std.specs.List.{list_any, list_all}
use Rattle.std.proofs.lemmas.Bool.Decides.{nat_tests}
use Rattle.words.specs.declared.choice.Choice.TheVariants as choice
use Rattle.words.specs.declared.form.Form.{Form}
use Rattle.words.specs.declared.form.Form.TheVariants.{One, Batch, Exercise}
use Rattle.words.specs.declared.kind.Kind.{Kind}
use Rattle.words.specs.declared.kind.Kind.TheVariants.{Path, End, Unknown, Chosen}
use Rattle.words.specs.declared.usage.Usage.{Usage}
use Rattle.words.specs.declared.usage.Usage.TheVariants as usage
use Rattle.words.specs.declared.takes.Takes.{Takes}
use Rattle.words.specs.declared.takes.Takes.TheVariants.{Nothing, Text, Seconds, Count, NameAndText}
use Rattle.words.specs.declared.part.Part.{Part}
use Rattle.words.specs.contracts.choice.ChoicePartialEq.TheImpl.Laws as equality
use Rattle.words.specs.Numbers.{seconds, count}
use Rattle.words.specs.Parts.{word, parts_of, has_values, is_unknown, is_once, is_same, is_choice, is_of_batch_kind, repeats, takes_of}
use Rattle.words.specs.Paths.{path, path_text, word_at, are_apart}
use Rattle.words.specs.Forms.{form_of, extra}
use Rattle.words.specs.Refusals.{word_index, value_fault, fault_of, first_fault, second_path_fault, beyond, missing, form_fault, refusal}
use Rattle.words.specs.Grammar.{fits, is_well_formed, paths_in, fits_form, IsCommand}
use Rattle.words.proofs.Truths.{no_some, else_none, or_none, none_or}
use Rattle.words.proofs.ApartLemmas.{no_earlier, no_earlier_apart}
use Rattle.words.proofs.PathCounts.{path_none, none_path}
use Rattle.jtext.specs.Names.{is_name}
use Rattle.jtext.proofs.Edits.{not_first}

-- ---- values

number_fits : (o : Option ℕ) (u : Usage) → cond (is_none o) (Some u) None ≡ None → is_some o ≡ true
number_fits None u e = absurd (no_some u e)
number_fits (Some n) u e = refl

fit_number : (o : Option ℕ) (u : Usage) → is_some o ≡ true → cond (is_none o) (Some u) None ≡ None
fit_number None u e = absurd (false≢true e)
fit_number (Some n) u e = refl

value_fits : (t : Takes) (value : List ℕ) (i : ℕ) → value_fault t value i ≡ None → fits t value ≡ true
value_fits Nothing value i e = refl
value_fits Text value i e = refl
value_fits Seconds value i e = number_fits (seconds value) (usage.BadNumber (word_index i)) e
value_fits Count value i e = number_fits (count value) (usage.BadNumber (word_index i)) e
value_fits NameAndText value i e = (else_none (is_name value) (usage.BadName (word_index i)) None e).0

fit_value : (t : Takes) (value : List ℕ) (i : ℕ) → fits t value ≡ true → value_fault t value i ≡ None
fit_value Nothing value i e = refl
fit_value Text value i e = refl
fit_value Seconds value i e = fit_number (seconds value) (usage.BadNumber (word_index i)) e
fit_value Count value i e = fit_number (count value) (usage.BadNumber (word_index i)) e
fit_value NameAndText value i e = ap (λ b. cond b None (Some (usage.BadName (word_index i)))) e

-- ---- parts

-- a part without a fault is well formed, and repeats none
part_sound : (words : List (List ℕ)) (before : List Part) (p : Part) → fault_of words before p ≡ None
    → (is_well_formed words p ≡ true) × (list_any (repeats p) before ≡ false)
part_sound words before p e =
    let known = not_first (is_unknown p.kind) (usage.Unknown (word_index p.at)) _ e in
    let once = not_first (list_any (repeats p) before) (usage.Twice (word_index p.at)) _ known.1 in
    let valued = not_first (not (has_values words p)) (usage.NoValue (word_index p.at)) _ once.1 in
    let fit = value_fits (takes_of p.kind) (word p.first words) p.first valued.1 in (
      and_from (not (is_unknown p.kind)) (has_values words p && fits (takes_of p.kind) (word p.first words)) (not_from_false (is_unknown p.kind) known.0)
          (and_from (has_values words p) (fits (takes_of p.kind) (word p.first words)) (not-false (has_values words p) valued.0) fit),
      once.0,
    )

part_faultless : (words : List (List ℕ)) (before : List Part) (p : Part) → is_well_formed words p ≡ true → list_any (repeats p) before ≡ false → fault_of words before p ≡ None
part_faultless words before p well once =
    let known = and_parts (not (is_unknown p.kind)) (has_values words p && fits (takes_of p.kind) (word p.first words)) well in
    let valued = and_parts (has_values words p) (fits (takes_of p.kind) (word p.first words)) known.1 in
    let value = value_fault (takes_of p.kind) (word p.first words) p.first in
    ap (λ b. cond b (Some (usage.Unknown (word_index p.at))) (cond (list_any (repeats p) before) (Some (usage.Twice (word_index p.at))) (cond (not (has_values words p)) (Some (usage.NoValue (word_index p.at))) value))) (not-true (is_unknown p.kind) known.0)
    ∙ ap (λ b. cond b (Some (usage.Twice (word_index p.at))) (cond (not (has_values words p)) (Some (usage.NoValue (word_index p.at))) value)) once
    ∙ ap (λ b. cond (not b) (Some (usage.NoValue (word_index p.at))) value) valued.0
    ∙ fit_value (takes_of p.kind) (word p.first words) p.first valued.1

parts_sound : (words : List (List ℕ)) (before ps : List Part) → first_fault words before ps ≡ None
    → (list_all (is_well_formed words) ps ≡ true) × (no_earlier repeats before ps ≡ true)
parts_sound words before [] e = (refl, refl)
parts_sound words before (p ∷ ps) e =
    let parts = or_none (fault_of words before p) (first_fault words (before ++ p ∷ []) ps) e in
    let here = part_sound words before p parts.0 in
    let there = parts_sound words (before ++ p ∷ []) ps parts.1 in (
      and_from (is_well_formed words p) (list_all (is_well_formed words) ps) here.0 there.0,
      and_from (not (list_any (repeats p) before)) (no_earlier repeats (before ++ p ∷ []) ps) (not_from_false (list_any (repeats p) before) here.1) there.1,
    )

parts_faultless : (words : List (List ℕ)) (before ps : List Part) → list_all (is_well_formed words) ps ≡ true → no_earlier repeats before ps ≡ true → first_fault words before ps ≡ None
parts_faultless words before [] well once = refl
parts_faultless words before (p ∷ ps) well once =
    let w = and_parts (is_well_formed words p) (list_all (is_well_formed words) ps) well in
    let o = and_parts (not (list_any (repeats p) before)) (no_earlier repeats (before ++ p ∷ []) ps) once in
    none_or (fault_of words before p) (first_fault words (before ++ p ∷ []) ps)
    (part_faultless words before p w.0 (not-true (list_any (repeats p) before) o.0))
    (parts_faultless words (before ++ p ∷ []) ps w.1 o.1)

-- ---- repetitions

same_flips : (j k : Kind) → is_same j k ≡ is_same k j
same_flips (Chosen c) (Chosen d) = equality.laws-law.symm c d
same_flips (Chosen c) Path = refl
same_flips (Chosen c) End = refl
same_flips (Chosen c) Unknown = refl
same_flips Path (Chosen d) = refl
same_flips Path Path = refl
same_flips Path End = refl
same_flips Path Unknown = refl
same_flips End (Chosen d) = refl
same_flips End Path = refl
same_flips End End = refl
same_flips End Unknown = refl
same_flips Unknown (Chosen d) = refl
same_flips Unknown Path = refl
same_flips Unknown End = refl
same_flips Unknown Unknown = refl

swapped : (a b s t : Bool) → s ≡ t → (a && b && s) ≡ (b && a && t)
swapped true true s t e = e
swapped true false s t e = refl
swapped false true s t e = refl
swapped false false s t e = refl

repeats_flips : (p q : Part) → repeats p q ≡ repeats q p
repeats_flips p q = swapped (is_once p.kind) (is_once q.kind) (is_same p.kind q.kind) (is_same q.kind p.kind) (same_flips p.kind q.kind)

-- ---- the form

beyond_none : (o : Option ℕ) → beyond o ≡ None → o ≡ None
beyond_none None e = refl
beyond_none (Some i) e = absurd (no_some (usage.Extra (word_index i)) e)

-- no part fails a test exactly where all pass
none_fails : (test : Part → Bool) (ps : List Part) → option_map (λ p. p.at) (find (λ p. not (test p)) ps) ≡ None → list_all test ps ≡ true
none_fails test [] e = refl
none_fails test (p ∷ ps) e = by_test (test p) (find (λ q. not (test q)) ps) (list_all test ps) p (none_fails test ps) e
  where
    by_test : (b : Bool) (rest : Option Part) (all : Bool) (p : Part) → (option_map (λ q. q.at) rest ≡ None → all ≡ true)
        → option_map (λ q. q.at) (cond (not b) (Some p) rest) ≡ None → (b && all) ≡ true
    by_test true rest all p more e = more e
    by_test false rest all p more e = absurd (no_some p.at e)

all_pass : (test : Part → Bool) (ps : List Part) → list_all test ps ≡ true → option_map (λ p. p.at) (find (λ p. not (test p)) ps) ≡ None
all_pass test [] e = refl
all_pass test (p ∷ ps) e =
    let parts = and_parts (test p) (list_all test ps) e in
    ap (λ b. option_map (λ q. q.at) (cond (not b) (Some p) (find (λ q. not (test q)) ps))) parts.0 ∙ all_pass test ps parts.1

two : (n : ℕ) → n ≤ 2 → (n ≤ 1 → ⊥) → (n == 2) ≡ true
two n le more = grind (arith, nat_tests)

pair_sound : (words : List (List ℕ)) (ps : List Part) (second : Option ℕ) → path 1 ps ≡ second → path 2 ps ≡ None → second_path_fault words ps second ≡ None → fits_form One words ps ≡ true
pair_sound words ps None is none e = absurd (no_some usage.Missing e)
pair_sound words ps (Some i) is none e =
    and_from (paths_in ps == 2) (are_apart (path_text 0 words ps) (path_text 1 words ps))
    (two (paths_in ps) (path_none 2 ps none) (λ le. no_some i (sym is ∙ none_path 1 ps le)))
    (ap (λ o. are_apart (path_text 0 words ps) (word_at words o)) is ∙ (else_none (are_apart (path_text 0 words ps) (word i words)) (usage.SamePath (word_index i)) None e).0)

pair_faultless : (words : List (List ℕ)) (ps : List Part) (second : Option ℕ) → path 1 ps ≡ second → paths_in ps ≡ 2 → are_apart (path_text 0 words ps) (word_at words second) ≡ true
    → second_path_fault words ps second ≡ None
pair_faultless words ps None is count apart = let le : paths_in ps ≤ 1 = path_none 1 ps is in absurd (omega arith)
pair_faultless words ps (Some i) is count apart = ap (λ b. cond b None (Some (usage.SamePath (word_index i)))) apart

form_sound : (form : Form) (words : List (List ℕ)) (ps : List Part) → extra form ps ≡ None → missing form words ps ≡ None → fits_form form words ps ≡ true
form_sound One words ps none whole = pair_sound words ps (path 1 ps) refl none whole
form_sound Batch words ps none whole = none_fails (λ p. is_of_batch_kind p.kind) ps none
form_sound Exercise words ps none whole = none_fails (λ p. is_choice choice.Exercise p.kind) ps none

form_faultless : (form : Form) (words : List (List ℕ)) (ps : List Part) → fits_form form words ps ≡ true → (extra form ps ≡ None) × (missing form words ps ≡ None)
form_faultless One words ps fit =
    let parts = and_parts (paths_in ps == 2) (are_apart (path_text 0 words ps) (path_text 1 words ps)) fit in
    let count = eqb-true (paths_in ps) 2 parts.0 in
    (none_path 2 ps (omega arith), pair_faultless words ps (path 1 ps) refl count parts.1)
form_faultless Batch words ps fit = (all_pass (λ p. is_of_batch_kind p.kind) ps fit, refl)
form_faultless Exercise words ps fit = (all_pass (λ p. is_choice choice.Exercise p.kind) ps fit, refl)

-- ---- the law

pub only_commands : (words : List (List ℕ)) → refusal words ≡ None → IsCommand words
only_commands words e =
    let parts = parts_of words in
    let split = or_none (first_fault words [] parts) (form_fault words parts) e in
    let well = parts_sound words [] parts split.0 in
    let whole = or_none (beyond (extra (form_of parts) parts)) (missing (form_of parts) words parts) split.1 in
    record {
      well_formed = well.0;
      once = sym (no_earlier_apart repeats repeats_flips parts) ∙ well.1;
      form = form_sound (form_of parts) words parts (beyond_none (extra (form_of parts) parts) whole.0) whole.1;
    }

pub all_commands : (words : List (List ℕ)) → IsCommand words → refusal words ≡ None
all_commands words is =
    let parts = parts_of words in
    let whole = form_faultless (form_of parts) words parts is.form in
    none_or (first_fault words [] parts) (form_fault words parts)
    (parts_faultless words [] parts is.well_formed (no_earlier_apart repeats repeats_flips parts ∙ is.once))
    (none_or (beyond (extra (form_of parts) parts)) (missing (form_of parts) words parts) (ap beyond whole.0) whole.1)
