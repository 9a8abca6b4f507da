-- The files that a number picks.
use Rattle.std.specs.Prelude.{IsSomeAnd, is_some, slice_get, unwrap_or}
use Rattle.std.proofs.Common.{◌≡◌, ◌∙◌, ◌++◌, ◌%◌, ◌/◌, ℕ, suc, zero, ◌+◌, ◌<◌, ◌≤◌, List, [], ◌∷◌, length, get_or, take, drop, reverse, length-drop, ◌-◌, true, false, Option, Some, None, refl, sym, ap, subst, arith, append_assoc, add-one, length-append, inl, inr}
use Rattle.std.proofs.Math.Seq.{drop-cons}
use Rattle.std.proofs.lemmas.Bool.{cases_Bool, cond-true, cond-false, false≢true, and_parts, or_from, or_left, or_parts, or_right}
use Rattle.std.proofs.lemmas.Cmp.{nat_list_cmp_total}
use Rattle.std.proofs.lemmas.List.{append-nil, drop_all, reverse-append, length-reverse, take-append-drop}
use Rattle.std.proofs.lemmas.Option.{slice_get_read}
use Rattle.std.proofs.lemmas.Map.Text.{is_eq-slice_cmp}
use Rattle.std.proofs.lemmas.Slice.Eq.{bytes_eq-Decides}
use Rattle.std.specs.Cmp.{IsTotalOrder}
use Rattle.std.specs.Cmp.Lexicographic.{slice_cmp}
use Rattle.std.specs.Ordering.{nat_cmp, is_lt, is_eq}
use Rattle.std.specs.Str.{bytes_eq}
use Rattle.std.specs.declared.cmp.Ordering.{Ordering}
use Rattle.std.specs.declared.cmp.Ordering.TheVariants.{Less, Equal, Greater}
use Rattle.world.specs.declared.entry.Entry.{Entry}
use Rattle.world.specs.declared.left.Left.{Left}
use Rattle.world.specs.declared.left.Left.TheVariants as left
use Rattle.world.specs.Moments.{upto}
use Rattle.world.specs.Disk.{Place, leaves, untouched_place}
use Rattle.world_mem.specs.Folder.{Content, file_at, has_file}
use Rattle.world_mem.specs.Image.{choices_of, all_choices, pick, file_of, pick_files, IsPicked}
use Rattle.world_mem.specs.Journals.{told_of}
use Rattle.world_mem.specs.Known.{Known, place_in, paths_of, is_below, are_ascending, StandsFor}
use Rattle.jtext.specs.Texts.{is_among}
use Rattle.jtext.proofs.Equals.{equal_bytes, turned_bytes}

-- ---- options

choices_some : (old : Option (List ℕ)) (option : Left) → 0 < length (choices_of old option)
choices_some old left.Old = omega arith
choices_some old left.Absent = omega arith
choices_some old (left.Whole bytes) = omega arith
choices_some old left.Any = omega arith

-- where there is an option there is a choice
pub expanded_some : (old : Option (List ℕ)) (options : List Left) → 0 < length options → 0 < length (all_choices old options)
expanded_some old [] some = absurd (omega arith)
expanded_some old (option ∷ options) some =
    omega (arith, choices_some old option, length-append (choices_of old option) (all_choices old options))

-- a number picks the choice at its digit
pub pick_is : (items : List (Option (List ℕ))) (old : Option (List ℕ)) (options these : List Left) (number count : ℕ)
    (x : Option (List ℕ)) → items ≡ all_choices old options → options ≡ these → count ≡ length items → 0 < count
    → x ≡ get_or items (number % count) x → x ≡ pick (all_choices old these) number
pick_is items old options these number count x same is_these size some is =
    let within : number % count < length items = omega (arith, size) in
    let found : slice_get items (number % count) ≡ Some x = slice_get_read items (length items) (number % count) x refl within is in
    sym (ap (λ o. unwrap_or o None) found)
    ∙ ap (λ n. unwrap_or (slice_get items (number % n)) None) size
    ∙ ap (λ xs. pick xs number) same
    ∙ ap (λ os. pick (all_choices old os) number) is_these

-- ---- paths in their order

lt_is : (o : Ordering) → is_lt o ≡ true → o ≡ Less
lt_is Less e = refl
lt_is Equal e = absurd (false≢true e)
lt_is Greater e = absurd (false≢true e)

less_differs : (a b : List ℕ) → slice_cmp nat_cmp a b ≡ Less → bytes_eq a b ≡ false
less_differs a b e = sym (is_eq-slice_cmp a b) ∙ ap is_eq e

below_then : (path other : List ℕ) (paths : List (List ℕ)) → slice_cmp nat_cmp path other ≡ Less
    → is_below other paths ≡ true → is_below path paths ≡ true
below_then path other [] less below = refl
below_then path other (next ∷ paths) less below =
    ap is_lt (IsTotalOrder.trans nat_list_cmp_total path other next less (lt_is (slice_cmp nat_cmp other next) below))

-- what comes before the first of ascending paths is none of them
pub below_apart : (path : List ℕ) (paths : List (List ℕ)) → is_below path paths ≡ true → are_ascending paths ≡ true
    → is_among path paths ≡ false
below_apart path [] below order = refl
below_apart path (other ∷ paths) below order =
    let less : slice_cmp nat_cmp path other ≡ Less = lt_is (slice_cmp nat_cmp path other) below in
    let parts = and_parts (is_below other paths) (are_ascending paths) order in
    or_from (bytes_eq other path) (is_among path paths) (turned_bytes other path ∙ less_differs path other less)
    (below_apart path paths (below_then path other paths less parts.0) parts.1)

among_item : (known : Known) (i : ℕ) (x : List ℕ × Place) → i < length known → x ≡ get_or known i x
    → is_among x.0 (paths_of known) ≡ true
among_item [] i x below is = absurd (omega arith)
among_item (y ∷ ys) zero x below is =
    or_left (bytes_eq y.0 x.0) _ ((bytes_eq-Decides y.0 x.0).1 (ap (λ (z : List ℕ × Place). z.0) (sym is)))
among_item (y ∷ ys) (suc i) x below is = or_right (bytes_eq y.0 x.0) _ (among_item ys i x (omega arith) is)

-- what is known of the path of an item is what the item has
pub own_place : (known : Known) (i : ℕ) (x : List ℕ × Place) → are_ascending (paths_of known) ≡ true → i < length known
    → x ≡ get_or known i x → place_in known x.0 ≡ x.1
own_place [] i x order below is = absurd (omega arith)
own_place (y ∷ ys) zero x order below is =
    cond-true (bytes_eq y.0 x.0) y.1 (place_in ys x.0) ((bytes_eq-Decides y.0 x.0).1 (ap (λ (z : List ℕ × Place). z.0) (sym is)))
    ∙ ap (λ (z : List ℕ × Place). z.1) (sym is)
own_place (y ∷ ys) (suc i) x order below is =
    let parts = and_parts (is_below y.0 (paths_of ys)) (are_ascending (paths_of ys)) order in
    let apart = below_apart y.0 (paths_of ys) parts.0 parts.1 in
    let there = among_item ys i x (omega arith) is in
    elim (cases_Bool (bytes_eq y.0 x.0)) [
      | inl t ↦
          absurd (false≢true (sym apart ∙ subst (λ name. is_among name (paths_of ys) ≡ true) (sym (equal_bytes y.0 x.0 t)) there))
      | inr n ↦ cond-false (bytes_eq y.0 x.0) y.1 (place_in ys x.0) n ∙ own_place ys i x parts.1 (omega arith) is
    ]

unknown_place : (known : Known) (path : List ℕ) → is_among path (paths_of known) ≡ false
    → place_in known path ≡ untouched_place
unknown_place [] path none = refl
unknown_place (x ∷ xs) path none =
    let parts = or_parts (bytes_eq x.0 path) (is_among path (paths_of xs)) none in
    cond-false (bytes_eq x.0 path) x.1 (place_in xs path) parts.0 ∙ unknown_place xs path parts.1

none_is : {X : Type 0} (o : Option X) → is_some o ≡ false → o ≡ None
none_is None e = refl
none_is (Some x) e = absurd (false≢true (sym e))

-- ---- the loop over the paths

-- one path more
pub picked_more : (start : Content) (past : List Entry) (known : Known) (i number : ℕ) (x : List ℕ × Place) (all now : Content)
    → StandsFor start past known → i < length known → x ≡ get_or known i x
    → all ≡ now ++ pick_files start past (paths_of (drop i known)) number
    → all
    ≡ (now ++ file_of x.0 (pick (all_choices (file_at x.0 start) x.1.options) number))
    ++ pick_files start past (paths_of (drop (i + 1) known)) (number / length (all_choices (file_at x.0 start) x.1.options))
picked_more start past known i number x all now so below is behind =
    let rest = drop (suc i) known in
    let cut : drop i known ≡ x ∷ rest = drop-cons known i x below ∙ ap (λ y. y ∷ rest) (sym is) in
    let options : leaves past x.0 ≡ x.1.options = ap (λ (p : Place). p.options) (sym (so.places x.0) ∙ own_place known i x so.order below is) in
    let choices : List (Option (List ℕ)) = all_choices (file_at x.0 start) x.1.options in
    let file = file_of x.0 (pick choices number) in
    let one : pick_files start past (paths_of (x ∷ rest)) number ≡ file ++ pick_files start past (paths_of rest) (number / length choices) =
    ap (λ (os : List Left). file_of x.0 (pick (all_choices (file_at x.0 start) os) number) ++ pick_files start past (paths_of rest) (number / length (all_choices (file_at x.0 start) os))) options in
    behind
    ∙ ap (λ ks. now ++ pick_files start past (paths_of ks) number) cut
    ∙ ap (λ fs. now ++ fs) one
    ∙ sym (append_assoc now file (pick_files start past (paths_of rest) (number / length choices)))
    ∙ ap (λ j. (now ++ file) ++ pick_files start past (paths_of (drop j known)) (number / length choices)) (sym (add-one i))

-- one path more, by equations
pub picked_step : {start : Content} {past : List Entry} {known : Known} {i rest : ℕ} {x : List ℕ × Place}
    {old bytes : Option (List ℕ)} {all next : Content} (number : ℕ) (now : Content)
    → StandsFor start past known → i < length known → x ≡ get_or known i x → old ≡ file_at x.0 start
    → bytes ≡ pick (all_choices old x.1.options) number → rest ≡ number / length (all_choices old x.1.options)
    → next ≡ now ++ file_of x.0 bytes → all ≡ now ++ pick_files start past (paths_of (drop i known)) number
    → all ≡ next ++ pick_files start past (paths_of (drop (i + 1) known)) rest
picked_step {start} {past} {known} {i} {rest} {x} {old} {bytes} {all} {next} number now so below is there picks leaves_rest keeps behind =
    let choices : Option (List ℕ) → List (Option (List ℕ)) = λ o. all_choices o x.1.options in
    let file : bytes ≡ pick (choices (file_at x.0 start)) number = picks ∙ ap (λ o. pick (choices o) number) there in
    let number_left : rest ≡ number / length (choices (file_at x.0 start)) = leaves_rest ∙ ap (λ o. number / length (choices o)) there in
    picked_more start past known i number x all now so below is behind
    ∙ ap (λ fs. fs ++ pick_files start past (paths_of (drop (i + 1) known)) (number / length (choices (file_at x.0 start)))) (ap (λ b. now ++ file_of x.0 b) (sym file) ∙ sym keeps)
    ∙ ap (λ n. next ++ pick_files start past (paths_of (drop (i + 1) known)) n) (sym number_left)

-- all of them
pub picked_all : (start : Content) (past : List Entry) (known : Known) (number : ℕ) (files : Content)
    → StandsFor start past known → files ≡ pick_files start past (paths_of known) number → IsPicked start past number files
picked_all start past known number files so digits = record {
  paths = paths_of known;
  order = so.order;
  others = λ path none. (
    ap (λ (p : Place). p.options) (sym (so.places path) ∙ unknown_place known path none),
    elim (cases_Bool (has_file path start)) [
      | inl t ↦ absurd (false≢true (sym none ∙ so.all path t))
      | inr n ↦ none_is (file_at path start) n
    ],
  );
  digits = digits;
}

-- no path is left
pub none_behind : (start : Content) (past : List Entry) (known : Known) (i number : ℕ) (all now : Content) → length known ≤ i
    → all ≡ now ++ pick_files start past (paths_of (drop i known)) number → now ≡ all
none_behind start past known i number all now above behind =
    sym (behind ∙ ap (λ ks. now ++ pick_files start past (paths_of ks) number) (drop_all i known above) ∙ append-nil now)

drop_front : {X : Type 0} (xs ys : List X) (n : ℕ) → n ≡ length xs → drop n (xs ++ ys) ≡ ys
drop_front [] ys zero e = refl
drop_front [] ys (suc n) e = absurd (omega arith)
drop_front (x ∷ xs) ys zero e = absurd (omega arith)
drop_front (x ∷ xs) ys (suc n) e = drop_front xs ys n (omega arith)

-- the journal up to an entry, its newest entry first
pub upto_reverse : (entries : List Entry) (t : ℕ) → t ≤ length entries → reverse (take t entries) ≡ upto t (reverse entries)
upto_reverse entries t below =
    let cut : reverse entries ≡ reverse (drop t entries) ++ reverse (take t entries) =
    ap reverse (sym (take-append-drop t entries)) ∙ reverse-append (take t entries) (drop t entries) in
    let size : length (reverse entries) - t ≡ length (reverse (drop t entries)) =
    omega (arith, length-reverse entries, length-reverse (drop t entries), length-drop t entries) in
    sym (ap (λ es. drop (length (reverse entries) - t) es) cut ∙ drop_front (reverse (drop t entries)) (reverse (take t entries)) _ size)

-- the files of an image, by the journal as it is kept
pub image_told : (start files : Content) (entries these : List Entry) (kept : Option (List Entry)) (t choice : ℕ)
    → these ≡ entries → t ≤ length entries → Some entries ≡ kept
    → IsPicked start (reverse (take t these)) choice files
    → IsSomeAnd (told_of kept) (λ past. IsPicked start (upto t past) choice files)
image_told start files entries these kept t choice same below told so =
    let at : IsPicked start (upto t (reverse entries)) choice files = subst (λ past. IsPicked start past choice files) (ap (λ es. reverse (take t es)) same ∙ upto_reverse entries t below) so in
    subst (λ (k : Option (List Entry)). IsSomeAnd (told_of k) (λ past. IsPicked start (upto t past) choice files)) told at
