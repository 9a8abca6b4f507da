-- What is saved of cells whose messages were read.
use Rattle.std.proofs.Common.{◌≡◌, ℕ, ◌==◌, ◌≤◌, Bool, true, false, List, [], ◌∷◌, map, None, refl, ◌∙◌, arith}
use Rattle.std.specs.Prelude.{if◌then◌else◌}
use Rattle.std.specs.List.{All, AllByRecursion}
use Rattle.std.proofs.lemmas.List.Elements.{All-from_recursion, recursion_from_All}
use Rattle.jtext.specs.declared.json.Json.{Json}
use Rattle.jtext.specs.Depth.{depth}
use Rattle.jtext.specs.Texts.{AllStrings}
use Rattle.nb_model.specs.Run.{IsFitOutput}
use Rattle.nb_model.specs.Tree.{count_tree}
use Rattle.nb_model.specs.Values.{is_count}
use Rattle.nb_model.proofs.PreparedLaws.{count_is}
use Rattle.jcontent.specs.IsRead.{IsCount, IsRead}
use Rattle.out_fold.specs.Shown.{outputs}
use Rattle.out_fold.specs.Tree.{output_tree}
use Rattle.out_fold.specs.Cells.{Used, contents, all_contents, joined_where, outputs_of, last_count, count_of, last_date, is_input, says_busy, says_idle, date_pairs, dates_of}
use Rattle.out_fold.specs.Fit.{AreRead}
use Rattle.out_fold.proofs.ReadOutputs.{read_joined_where, read_count, parts}
use Rattle.out_fold.proofs.FitTrees.{IsFit, trees_fit, AreDates, dates_fit, four_fit}

chosen : {A : Type 0} (P : A → Type 0) (b : Bool) (x y : A) → P x → P y → P (if b then x else y)
chosen P true x y h other = h
chosen P false x y h other = other

cells_fit : (merge : Bool) (us : List Used) (cell : ℕ) → AllByRecursion IsRead (all_contents us) → AllByRecursion IsFit (outputs_of merge us cell)
cells_fit merge [] cell all = tt
cells_fit merge (u ∷ us) cell all =
    let h = parts IsRead (contents u) (all_contents us) all in
    let own = outputs (contents u) (all_contents us) in
    chosen (AllByRecursion IsFit) (u.cell == cell) (map output_tree (joined_where merge own)) (outputs_of merge us cell)
    (trees_fit (joined_where merge own) (read_joined_where merge (contents u) (all_contents us) h.0 h.1))
    (cells_fit merge us cell h.1)

weaker : (P : Json → Type 0) → ((o : Json) → IsFit o → P o) → (os : List Json) → AllByRecursion IsFit os → AllByRecursion P os
weaker P f [] all = tt
weaker P f (o ∷ os) all = (f o all.0, weaker P f os all.1)

room : (o : Json) → IsFit o → IsFitOutput o
room o h = record { valid = h.valid; keyed = h.keyed; within = more (depth o) h.within }
  where
    more : (n : ℕ) → n ≤ 100 → n ≤ 124
    more n le = omega (arith, le)

each_fit : (merge : Bool) (us : List Used) (cell : ℕ) → AreRead us → AllByRecursion IsFit (outputs_of merge us cell)
each_fit merge us cell all = cells_fit merge us cell (recursion_from_All IsRead (all_contents us) all)

pub outputs_are_fit : (merge : Bool) (us : List Used) (cell : ℕ) → AreRead us → All IsFitOutput (outputs_of merge us cell)
outputs_are_fit merge us cell all =
    All-from_recursion IsFitOutput (outputs_of merge us cell) (weaker IsFitOutput room (outputs_of merge us cell) (each_fit merge us cell all))

pub outputs_are_within : (merge : Bool) (us : List Used) (cell : ℕ) → AreRead us → All (λ o. depth o ≤ 100) (outputs_of merge us cell)
outputs_are_within merge us cell all =
    All-from_recursion (λ o. depth o ≤ 100) (outputs_of merge us cell) (weaker (λ o. depth o ≤ 100) (λ o h. h.within) (outputs_of merge us cell) (each_fit merge us cell all))

counts_read : (us : List Used) (cell : ℕ) → AllByRecursion IsRead (all_contents us) → IsCount (count_of us cell)
counts_read [] cell all = refl
counts_read (u ∷ us) cell all =
    let h = parts IsRead (contents u) (all_contents us) all in
    chosen IsCount (u.cell == cell) (last_count None (contents u)) (count_of us cell) (read_count None (contents u) refl h.0) (counts_read us cell h.1)

pub counts_are_fit : (us : List Used) (cell : ℕ) → AreRead us → is_count (count_tree (count_of us cell)) ≡ true
counts_are_fit us cell all = count_is (count_of us cell) ∙ counts_read us cell (recursion_from_All IsRead (all_contents us) all)

pub dates_are : (us : List Used) (cell : ℕ) → AreDates (dates_of us cell)
dates_are [] cell = dates_fit [] tt
dates_are (u ∷ us) cell =
    let own = date_pairs (last_date is_input None u.own) (last_date says_busy None u.own) (last_date says_idle None u.own) u.reply in
    chosen AreDates (u.cell == cell) own (dates_of us cell)
    (four_fit (last_date is_input None u.own) (last_date says_busy None u.own) (last_date says_idle None u.own) u.reply)
    (dates_are us cell)

pub dates_are_texts : (us : List Used) (cell : ℕ) → AllStrings (dates_of us cell)
dates_are_texts us cell = All-from_recursion _ (dates_of us cell) (dates_are us cell).texts
