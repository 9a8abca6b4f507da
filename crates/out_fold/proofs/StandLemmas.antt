-- Which lists a fold stands for after a call, and which cells are as they were.
use Rattle.std.proofs.Common.{◌≡◌, ◌≢◌, ℕ, ◌<◌, ◌==◌, ◌+◌, length, Bool, true, false, cond, ◌&&◌, ◌||◌, List, [], ◌∷◌, ◌++◌, map, Option, Some, None, is_some, refl, sym, ◌∙◌, ap, arith, append_assoc, eqb-true}
use Rattle.std.specs.List.{All, AllByRecursion, list_any}
use Rattle.std.proofs.lemmas.List.Elements.{All-from_recursion}
use Rattle.std.specs.Option.{option_or}
use Rattle.std.specs.Str.{bytes_eq}
use Rattle.std.proofs.lemmas.Bool.{or_parts, or_left, or_right, cond-false, eq-eqb, ne_eqb}
use Rattle.jtext.specs.declared.json.Json.{Json}
use Rattle.jtext.proofs.Equals.{same_bytes}
use Rattle.jcontent.specs.declared.content.Content.{Content}
use Rattle.jcontent.specs.declared.content.Content.TheVariants as content
use Rattle.jcontent.specs.declared.shown.Shown.{Shown}
use Rattle.display_index.specs.declared.place.Place.{Place}
use Rattle.display_index.specs.Standing.{Call}
use Rattle.display_index.specs.Held as index
use Rattle.display_index.proofs.ListedLemmas.{any-snoc}
use Rattle.out_fold.specs.declared.latest.Data.{Data}
use Rattle.out_fold.specs.declared.folds.Folds.{Folds}
use Rattle.out_fold.specs.declared.fold.Fold.{Fold}
use Rattle.out_fold.specs.Live.{appends, clears_now, stays, live}
use Rattle.out_fold.specs.Shown.{shows, data_if, latest, with_data, known_to, shown_output, outputs}
use Rattle.out_fold.specs.Tree.{output_tree}
use Rattle.out_fold.specs.Cells.{Used, begin, with_message, with_reply, contents, all_contents, joined_where, outputs_of, last_count, count_of, last_date, is_input, says_busy, says_idle, date_pairs, dates_of}
use Rattle.out_fold.specs.Held.{Holds, Ordered, waits}
use Rattle.out_fold.specs.Names.{name_of, has_id}
use Rattle.out_fold.specs.Placing.{has_place, IsWithin, named_places, Grown, Settled, settle}
use Rattle.out_fold.specs.Plans.{is_in, Covers}
use Rattle.out_fold.specs.Stands.{has_output, StandsFor, SameCell, Rested, cells_of, merge_of}
use Rattle.out_fold.proofs.ListTests.{no, either}
use Rattle.out_fold.proofs.LiveLemmas.{live-snoc}
use Rattle.out_fold.proofs.ShownLemmas.{latest-snoc}
use Rattle.out_fold.proofs.CellLemmas.{contents-snoc, all-message, all-reply}
use Rattle.out_fold.proofs.FoldLemmas.{ordered-least, ordered-same, all-begun}
use Rattle.out_fold.proofs.PlaceLemmas.{named, unnamed, settled-other, settled-same}

-- ---- outputs with a display id

output-other : (us : List Used) (u : Used) (id : List ℕ) (cell : ℕ) → (u.cell == cell) ≡ false → has_output (us ++ u ∷ []) id cell ≡ has_output us id cell
output-other [] u id cell e = ap (λ b. cond b (list_any (λ c. has_id id c) (live (contents u))) false) e
output-other (v ∷ us) u id cell e = ap (λ b. cond (v.cell == cell) (list_any (λ c. has_id id c) (live (contents v))) b) (output-other us u id cell e)

output-last : (low : ℕ) (us : List Used) (u : Used) (next : ℕ) (id : List ℕ) → Ordered low (us ++ u ∷ []) next
    → has_output (us ++ u ∷ []) id u.cell ≡ list_any (λ c. has_id id c) (live (contents u))
output-last low [] u next id h = ap (λ b. cond b (list_any (λ c. has_id id c) (live (contents u))) false) (eq-eqb u.cell u.cell refl)
output-last low (v ∷ us) u next id h =
    let rest = ordered-least (v.cell + 1) us u next h.1 in
    let apart : v.cell ≢ u.cell = λ e. absurd (omega (arith, rest.0, e)) in
    ap (λ b. cond b (list_any (λ c. has_id id c) (live (contents v))) (has_output (us ++ u ∷ []) id u.cell)) (ne_eqb v.cell u.cell apart)
    ∙ output-last (v.cell + 1) us u next id h.1

last_true : (b : Bool) → (b || false) ≡ true → b ≡ true
last_true true e = refl
last_true false e = cc

before_last : (a b h : Bool) → b ≡ h → (a || b) ≡ true → (h ≡ true → ⊥) → a ≡ true
before_last true b h f e g = refl
before_last false true h f e g = absurd (g (sym f))
before_last false false h f e g = cc

-- an output with the id after one more message has it before, or is the message's
live_by : (n a w : Bool) (ls : List Content) (c : Content) (id : List ℕ)
    → list_any (λ d. has_id id d) (cond n [] (cond a (cond w [] ls ++ c ∷ []) ls)) ≡ true
    → (n ≡ false) × ((h : Bool) → has_id id c ≡ h → (h ≡ true → a ≡ true → ⊥) → list_any (λ d. has_id id d) ls ≡ true)
live_by true a w ls c id e = cc
live_by false true true ls c id e = (refl, λ h f g. absurd (g (sym f ∙ last_true (has_id id c) e) refl))
live_by false true false ls c id e = (refl, λ h f g. before_last (list_any (λ d. has_id id d) ls) (has_id id c) h f (sym (any-snoc (λ d. has_id id d) ls c) ∙ e) (λ x. g x refl))
live_by false false w ls c id e = (refl, λ h f g. e)

-- ---- cells that a message doesn't reach

unknown_by : (o l : Option Data) → (is_some o ≡ true → ⊥) → option_or o l ≡ l
unknown_by None l h = refl
unknown_by (Some d) l h = absurd (h refl)

own_id : (id : List ℕ) (s : Shown) → is_some (data_if (bytes_eq id id) s) ≡ true
own_id id s = ap (λ b. is_some (data_if b s)) (same_bytes id)

shown_by : (c : Content) (b : List (List ℕ × Json)) (m : Json) (i : Option (List ℕ)) (after : List Content)
    → ((id : List ℕ) → is_some (shows id c) ≡ true → has_id id (content.Display (record { bundle = b; metadata = m; id = i })) ≡ false)
    → known_to (λ id. latest id None (after ++ c ∷ [])) (record { bundle = b; metadata = m; id = i }) ≡ known_to (λ id. latest id None after) (record { bundle = b; metadata = m; id = i })
shown_by c b m None after h = refl
shown_by c b m (Some id) after h =
    ap (λ o. with_data (record { bundle = b; metadata = m; id = Some id }) o)
    (latest-snoc id None after c ∙ unknown_by (shows id c) (latest id None after) (λ e. no (sym (h id e) ∙ own_id id (record { bundle = b; metadata = m; id = Some id }))))

shown-same : (d c : Content) (after : List Content) → ((id : List ℕ) → is_some (shows id c) ≡ true → has_id id d ≡ false) → shown_output d (after ++ c ∷ []) ≡ shown_output d after
shown-same (content.Display s) c after h = ap (λ x. content.Display x) (shown_by c s.bundle s.metadata s.id after h)
shown-same (content.Outcome s count) c after h = ap (λ x. content.Outcome x count) (shown_by c s.bundle s.metadata s.id after h)
shown-same _ c after h = refl

outputs_by : (d : Content) (rest later : List Content) (c : Content) (b : Bool)
    → ((id : List ℕ) → is_some (shows id c) ≡ true → list_any (λ x. has_id id x) (cond b (d ∷ live rest) (live rest)) ≡ false)
    → (((id : List ℕ) → is_some (shows id c) ≡ true → list_any (λ x. has_id id x) (live rest) ≡ false) → outputs rest (later ++ c ∷ []) ≡ outputs rest later)
    → cond b (shown_output d (rest ++ (later ++ c ∷ [])) ∷ outputs rest (later ++ c ∷ [])) (outputs rest (later ++ c ∷ [])) ≡ cond b (shown_output d (rest ++ later) ∷ outputs rest later) (outputs rest later)
outputs_by d rest later c true h more =
    let first = ap (λ xs. shown_output d xs) (sym (append_assoc rest later (c ∷ []))) ∙ shown-same d c (rest ++ later) (λ id e. (or_parts (has_id id d) (list_any (λ x. has_id id x) (live rest)) (h id e)).0) in
    let others = more (λ id e. (or_parts (has_id id d) (list_any (λ x. has_id id x) (live rest)) (h id e)).1) in
    ap (λ x. x ∷ outputs rest (later ++ c ∷ [])) first ∙ ap (λ xs. shown_output d (rest ++ later) ∷ xs) others
outputs_by d rest later c false h more = more h

outputs-same : (own later : List Content) (c : Content) → ((id : List ℕ) → is_some (shows id c) ≡ true → list_any (λ d. has_id id d) (live own) ≡ false)
    → outputs own (later ++ c ∷ []) ≡ outputs own later
outputs-same [] later c h = refl
outputs-same (d ∷ rest) later c h =
    outputs_by d rest later c (appends d && stays rest) h (outputs-same rest later c)

cell_by : (merge : Bool) (v : Used) (us : List Used) (u : Used) (c : Content) (date : Option (List ℕ)) (cell : ℕ) (b : Bool)
    → ((id : List ℕ) → is_some (shows id c) ≡ true → cond b (list_any (λ d. has_id id d) (live (contents v))) (has_output (us ++ u ∷ []) id cell) ≡ false)
    → (((id : List ℕ) → is_some (shows id c) ≡ true → has_output (us ++ u ∷ []) id cell ≡ false) → outputs_of merge (us ++ with_message u c date ∷ []) cell ≡ outputs_of merge (us ++ u ∷ []) cell)
    → cond b (map output_tree (joined_where merge (outputs (contents v) (all_contents (us ++ with_message u c date ∷ []))))) (outputs_of merge (us ++ with_message u c date ∷ []) cell)
    ≡ cond b (map output_tree (joined_where merge (outputs (contents v) (all_contents (us ++ u ∷ []))))) (outputs_of merge (us ++ u ∷ []) cell)
cell_by merge v us u c date cell true h more =
    ap (λ os. map output_tree (joined_where merge os))
    (ap (λ cs. outputs (contents v) cs) (all-message us u c date) ∙ outputs-same (contents v) (all_contents (us ++ u ∷ [])) c h)
cell_by merge v us u c date cell false h more = more h

same-outputs : (merge : Bool) (us : List Used) (u : Used) (c : Content) (date : Option (List ℕ)) (cell : ℕ) → (u.cell == cell) ≡ false
    → ((id : List ℕ) → is_some (shows id c) ≡ true → has_output (us ++ u ∷ []) id cell ≡ false)
    → outputs_of merge (us ++ with_message u c date ∷ []) cell ≡ outputs_of merge (us ++ u ∷ []) cell
same-outputs merge [] u c date cell e h =
    cond-false (u.cell == cell) _ _ e ∙ sym (cond-false (u.cell == cell) _ _ e)
same-outputs merge (v ∷ us) u c date cell e h =
    cell_by merge v us u c date cell (v.cell == cell) h (λ g. same-outputs merge us u c date cell e g)

same-count : (us : List Used) (u u' : Used) (cell : ℕ) → (u.cell == cell) ≡ false → u'.cell ≡ u.cell → count_of (us ++ u' ∷ []) cell ≡ count_of (us ++ u ∷ []) cell
same-count [] u u' cell e s = cond-false (u'.cell == cell) _ _ (ap (λ n. n == cell) s ∙ e) ∙ sym (cond-false (u.cell == cell) _ _ e)
same-count (v ∷ us) u u' cell e s = ap (λ x. cond (v.cell == cell) (last_count None (contents v)) x) (same-count us u u' cell e s)

same-dates : (us : List Used) (u u' : Used) (cell : ℕ) → (u.cell == cell) ≡ false → u'.cell ≡ u.cell → dates_of (us ++ u' ∷ []) cell ≡ dates_of (us ++ u ∷ []) cell
same-dates [] u u' cell e s = cond-false (u'.cell == cell) _ _ (ap (λ n. n == cell) s ∙ e) ∙ sym (cond-false (u.cell == cell) _ _ e)
same-dates (v ∷ us) u u' cell e s = ap (λ x. cond (v.cell == cell) (date_pairs (last_date is_input None v.own) (last_date says_busy None v.own) (last_date says_idle None v.own) v.reply) x) (same-dates us u u' cell e s)

reply-outputs : (merge : Bool) (us : List Used) (u : Used) (date : Option (List ℕ)) (cell : ℕ) → (u.cell == cell) ≡ false
    → outputs_of merge (us ++ with_reply u date ∷ []) cell ≡ outputs_of merge (us ++ u ∷ []) cell
reply-outputs merge [] u date cell e = cond-false (u.cell == cell) _ _ e ∙ sym (cond-false (u.cell == cell) _ _ e)
reply-outputs merge (v ∷ us) u date cell e =
    ap (λ cs. cond (v.cell == cell) (map output_tree (joined_where merge (outputs (contents v) cs))) (outputs_of merge (us ++ with_reply u date ∷ []) cell)) (all-reply us u date)
    ∙ ap (λ x. cond (v.cell == cell) (map output_tree (joined_where merge (outputs (contents v) (all_contents (us ++ u ∷ []))))) x) (reply-outputs merge us u date cell e)

-- ---- a cell begins

nothing_of : (b merge : Bool) → cond b (map output_tree (joined_where merge [])) [] ≡ []
nothing_of true true = refl
nothing_of true false = refl
nothing_of false merge = refl

begun-outputs : (merge : Bool) (us : List Used) (cell n : ℕ) → outputs_of merge (us ++ begin cell ∷ []) n ≡ outputs_of merge us n
begun-outputs merge [] cell n = nothing_of (cell == n) merge
begun-outputs merge (v ∷ us) cell n =
    ap (λ cs. cond (v.cell == n) (map output_tree (joined_where merge (outputs (contents v) cs))) (outputs_of merge (us ++ begin cell ∷ []) n)) (all-begun us cell)
    ∙ ap (λ x. cond (v.cell == n) (map output_tree (joined_where merge (outputs (contents v) (all_contents us)))) x) (begun-outputs merge us cell n)

either_way : {A : Type 0} (b : Bool) (x : A) → cond b x x ≡ x
either_way true x = refl
either_way false x = refl

begun-count : (us : List Used) (cell n : ℕ) → count_of (us ++ begin cell ∷ []) n ≡ count_of us n
begun-count [] cell n = either_way (cell == n) None
begun-count (v ∷ us) cell n = ap (λ x. cond (v.cell == n) (last_count None (contents v)) x) (begun-count us cell n)

begun-dates : (us : List Used) (cell n : ℕ) → dates_of (us ++ begin cell ∷ []) n ≡ dates_of us n
begun-dates [] cell n = either_way (cell == n) []
begun-dates (v ∷ us) cell n =
    ap (λ x. cond (v.cell == n) (date_pairs (last_date is_input None v.own) (last_date says_busy None v.own) (last_date says_idle None v.own) v.reply) x) (begun-dates us cell n)

begun-output : (us : List Used) (cell : ℕ) (id : List ℕ) (n : ℕ) → has_output (us ++ begin cell ∷ []) id n ≡ has_output us id n
begun-output [] cell id n = either_way (cell == n) false
begun-output (v ∷ us) cell id n = ap (λ x. cond (v.cell == n) (list_any (λ c. has_id id c) (live (contents v))) x) (begun-output us cell id n)

-- ---- the calls

nothing_in : (cells : List ℕ) (n : ℕ) (P : Type 0) → cells ≡ [] → is_in cells n ≡ true → P
nothing_in cells n P e h = no (sym (ap (λ ns. is_in ns n) e) ∙ h)

as_many : (n cells cells' : ℕ) → cells' ≡ cells → n < cells → n < cells'
as_many n cells cells' e lt = omega (arith, e, lt)

pub new-stands-for : (f : Fold) → Holds f.held [] → index.StandsFor f.index [] → f.touched ≡ [] → StandsFor f []
new-stands-for f h s t = record {
  held = h;
  calls = [];
  told = s;
  found = λ id cell e. no e;
  within = λ id n e. no e;
  touches = λ n e. nothing_in f.touched n (n < cells_of f) t e;
}

-- with nothing touched
pub rested-stands-for : (f f' : Fold) (us : List Used) → f'.held ≡ f.held → f'.index ≡ f.index → f'.touched ≡ [] → StandsFor f us → StandsFor f' us
rested-stands-for f f' us h i t s =
    let old : Holds f.held us = s.held in
    let told : index.StandsFor f.index s.calls = s.told in
    let within : IsWithin (cells_of f) s.calls = s.within in
    record {
      held = rw h old;
      calls = s.calls;
      told = rw i told;
      found = s.found;
      within = rw h within;
      touches = λ n e. nothing_in f'.touched n (n < cells_of f') t e;
    }

pub begun-stands-for : (f f' : Fold) (us : List Used) (cell : ℕ) → Holds f'.held (us ++ begin cell ∷ []) → f'.index ≡ f.index → f'.touched ≡ f.touched → cells_of f' ≡ cells_of f
    → StandsFor f us → StandsFor f' (us ++ begin cell ∷ [])
begun-stands-for f f' us cell h i t m s = record {
  held = h;
  calls = s.calls;
  told = rw i s.told;
  found = λ id n e. s.found id n (sym (begun-output us cell id n) ∙ e);
  within = λ id n e. as_many n (cells_of f) (cells_of f') m (s.within id n e);
  touches = λ n e. as_many n (cells_of f) (cells_of f') m (s.touches n (sym (ap (λ ns. is_in ns n) t) ∙ e));
}

pub begun-rested : (f : Fold) (merge : Bool) (was us : List Used) (cell : ℕ) → merge ≡ merge_of f → Rested f was us
    → (n : ℕ) → is_in f.touched n ≡ false → SameCell merge was (us ++ begin cell ∷ []) n
begun-rested f merge was us cell m r n e =
    let old = r n e in
    record {
      outputs = begun-outputs merge us cell n ∙ ap (λ b. outputs_of b us n) m ∙ old.outputs ∙ ap (λ b. outputs_of b was n) (sym m);
      count = begun-count us cell n ∙ old.count;
      dates = begun-dates us cell n ∙ old.dates;
    }

here_by : (us : List Used) (u : Used) (next : ℕ) (calls calls' : List Call) (c : Content) → Ordered 0 (us ++ u ∷ []) next
    → ((id : List ℕ) (n : ℕ) → has_output (us ++ u ∷ []) id n ≡ true → has_place calls id n ≡ true)
    → ((id : List ℕ) (n : ℕ) → has_place calls id n ≡ true → has_place calls' id n ≡ true)
    → (appends c ≡ true → (id : List ℕ) → has_id id c ≡ true → has_place calls' id u.cell ≡ true)
    → (id : List ℕ) (h a : Bool) → has_id id c ≡ h → appends c ≡ a
    → ((k : Bool) → has_id id c ≡ k → (k ≡ true → appends c ≡ true → ⊥) → list_any (λ d. has_id id d) (live (contents u)) ≡ true)
    → has_place calls' id u.cell ≡ true
here_by us u next calls calls' c o found more here id true true e f old = here f id e
here_by us u next calls calls' c o found more here id false a e f old =
    more id u.cell (found id u.cell (output-last 0 us u next id o ∙ old false e (λ x y. no x)))
here_by us u next calls calls' c o found more here id true false e f old =
    more id u.cell (found id u.cell (output-last 0 us u next id o ∙ old true e (λ x y. no (sym f ∙ y))))

-- the index knows the cells of the outputs after a message
found-after : (us : List Used) (u : Used) (next : ℕ) (calls calls' : List Call) (c : Content) (date : Option (List ℕ)) → Ordered 0 (us ++ u ∷ []) next
    → ((id : List ℕ) (n : ℕ) → has_output (us ++ u ∷ []) id n ≡ true → has_place calls id n ≡ true)
    → ((id : List ℕ) (n : ℕ) → has_place calls id n ≡ true → has_place calls' id n ≡ true)
    → (appends c ≡ true → (id : List ℕ) → has_id id c ≡ true → has_place calls' id u.cell ≡ true)
    → (id : List ℕ) (n : ℕ) (b : Bool) → (u.cell == n) ≡ b → has_output (us ++ with_message u c date ∷ []) id n ≡ true → has_place (settle c u.cell calls') id n ≡ true
found-after us u next calls calls' c date o found more here id n false e h =
    settled-other c u.cell calls' id n e (more id n (found id n (output-other us u id n e ∙ sym (output-other us (with_message u c date) id n e) ∙ h)))
found-after us u next calls calls' c date o found more here id n true e h =
    let same : u.cell ≡ n = eqb-true u.cell n e in
    let last = sym (output-last 0 us (with_message u c date) next id (ordered-same 0 us u (with_message u c date) next refl o)) ∙ ap (λ k. has_output (us ++ with_message u c date ∷ []) id k) same ∙ h in
    let live_now = sym (ap (λ cs. list_any (λ d. has_id id d) cs) (ap live (contents-snoc u c date) ∙ live-snoc (contents u) c)) ∙ last in
    let parts = live_by (clears_now c) (appends c) (waits (contents u)) (live (contents u)) c id live_now in
    ap (λ cs. has_place cs id n) (settled-same c u.cell calls' parts.0) ∙ ap (λ k. has_place calls' id k) (sym same)
    ∙ here_by us u next calls calls' c o found more here id (has_id id c) (appends c) refl refl parts.1

named_within : (calls : List Call) (o : Option (List ℕ)) (cells n : ℕ) → IsWithin cells calls → list_any (λ p. p.cell == n) (named_places calls o) ≡ true → n < cells
named_within calls None cells n w h = no h
named_within calls (Some id) cells n w h = w id n h

this_one : (m n cells : ℕ) → m < cells → (m == n) ≡ true → n < cells
this_one m n cells lt e = let same : m ≡ n = grind (arith, e) in omega (arith, same, lt)

-- the touched cells are cells
covered : (old new : List ℕ) (cell cells : ℕ) (ps : List Place) → Covers old new cell ps → cell < cells → ((n : ℕ) → is_in old n ≡ true → n < cells)
    → ((n : ℕ) → list_any (λ p. p.cell == n) ps ≡ true → n < cells) → (n : ℕ) → is_in new n ≡ true → n < cells
covered old new cell cells ps v lt olds places n h =
    either ((cell == n) || is_in old n) (list_any (λ (p : Place). p.cell == n) ps) (n < cells)
    (λ e. either (cell == n) (is_in old n) (n < cells) (λ same. this_one cell n cells lt same) (λ was. olds n was) e)
    (λ e. places n e) (v.only n h)

pub message-stands-for : (f f' : Fold) (us : List Used) (u : Used) (c : Content) (date : Option (List ℕ)) (cell : ℕ) → u.cell ≡ cell
    → Holds f'.held (us ++ with_message u c date ∷ [])
    → (s : StandsFor f (us ++ u ∷ [])) → Settled s.calls f'.index c cell
    → cell < cells_of f → cells_of f' ≡ cells_of f → Covers f.touched f'.touched cell (named_places s.calls (name_of c))
    → StandsFor f' (us ++ with_message u c date ∷ [])
message-stands-for f f' us u c date cell same h s p lt m v =
    let o : Ordered 0 (us ++ u ∷ []) f.held.next = s.held.order in
    record {
      held = h;
      calls = settle c cell p.calls';
      told = p.told;
      found = λ id n e. ap (λ k. has_place (settle c k p.calls') id n) (sym same)
          ∙ found-after us u f.held.next s.calls p.calls' c date o s.found p.more (λ a i g. ap (λ k. has_place p.calls' i k) same ∙ p.here a i g) id n (u.cell == n) refl e;
      within = λ id n e. as_many n (cells_of f) (cells_of f') m (p.within (cells_of f) lt s.within id n e);
      touches = λ n e. as_many n (cells_of f) (cells_of f') m
          (covered f.touched f'.touched cell (cells_of f) (named_places s.calls (name_of c)) v lt s.touches (λ k g. named_within s.calls (name_of c) (cells_of f) k s.within g) n e);
    }

pub grown-stands-for : (f f' : Fold) (us : List Used) (cell : ℕ) → Holds f'.held us → (s : StandsFor f us) → Grown s.calls f'.index cell
    → cell < cells_of f → cells_of f' ≡ cells_of f → f'.touched ≡ f.touched → StandsFor f' us
grown-stands-for f f' us cell h s g lt m t = record {
  held = h;
  calls = g.calls';
  told = g.told;
  found = λ id n e. g.more id n (s.found id n e);
  within = λ id n e. as_many n (cells_of f) (cells_of f') m (g.within (cells_of f) lt s.within id n e);
  touches = λ n e. as_many n (cells_of f) (cells_of f') m (s.touches n (sym (ap (λ ns. is_in ns n) t) ∙ e));
}

-- as before, but for what is held
pub kept-stands-for : (f f' : Fold) (us : List Used) → Holds f'.held us → f'.index ≡ f.index → cells_of f' ≡ cells_of f → f'.touched ≡ f.touched → StandsFor f us → StandsFor f' us
kept-stands-for f f' us h i m t s =
    let told : index.StandsFor f.index s.calls = s.told in
    record {
      held = h;
      calls = s.calls;
      told = rw i told;
      found = s.found;
      within = λ id n e. as_many n (cells_of f) (cells_of f') m (s.within id n e);
      touches = λ n e. as_many n (cells_of f) (cells_of f') m (s.touches n (sym (ap (λ ns. is_in ns n) t) ∙ e));
    }

-- the current cell is one of the notebook's
pub current-within : (f : Folds) (cell : ℕ) → cell + 1 ≡ f.next → cell < length f.cells
current-within f cell e = let le = f.within in omega (arith, le, e)

cell_apart : (new : List ℕ) (m cell n : ℕ) → m ≡ cell → is_in new cell ≡ true → is_in new n ≡ false → (m == n) ≡ false
cell_apart new m cell n e h g = ne_eqb m n (λ x. no (sym g ∙ ap (λ k. is_in new k) (sym (sym e ∙ x)) ∙ h))

named_by : (c : Content) (calls : List Call) (id : List ℕ) (n : ℕ) → is_some (shows id c) ≡ true → (o : Option (List ℕ)) → name_of c ≡ o
    → has_place calls id n ≡ true → list_any (λ p. p.cell == n) (named_places calls o) ≡ false → true ≡ false
named_by c calls id n g None e h f = absurd (unnamed c id e g)
named_by c calls id n g (Some own) e h f = sym (ap (λ k. has_place calls k n) (sym (named c own id e g)) ∙ h) ∙ f

reply-output : (us : List Used) (u : Used) (date : Option (List ℕ)) (id : List ℕ) (n : ℕ) → has_output (us ++ with_reply u date ∷ []) id n ≡ has_output (us ++ u ∷ []) id n
reply-output [] u date id n = refl
reply-output (v ∷ us) u date id n = ap (λ x. cond (v.cell == n) (list_any (λ c. has_id id c) (live (contents v))) x) (reply-output us u date id n)

-- of a cell that isn't touched nothing has changed
untouched : (f : Fold) (us : List Used) (u : Used) (c : Content) (new : List ℕ) (cell n : ℕ) → u.cell ≡ cell → (s : StandsFor f (us ++ u ∷ []))
    → Covers f.touched new cell (named_places s.calls (name_of c)) → is_in new n ≡ false
    → (id : List ℕ) → is_some (shows id c) ≡ true → (b : Bool) → has_output (us ++ u ∷ []) id n ≡ b → b ≡ false
untouched f us u c new cell n same s v e id g false h = refl
untouched f us u c new cell n same s v e id g true h = named_by c s.calls id n g (name_of c) refl (s.found id n h) (v.placed n e)

pub message-rested : (f : Fold) (new : List ℕ) (merge : Bool) (was us : List Used) (u : Used) (c : Content) (date : Option (List ℕ)) (cell : ℕ) → u.cell ≡ cell
    → (s : StandsFor f (us ++ u ∷ [])) → Covers f.touched new cell (named_places s.calls (name_of c)) → merge ≡ merge_of f
    → Rested f was (us ++ u ∷ []) → (n : ℕ) → is_in new n ≡ false → SameCell merge was (us ++ with_message u c date ∷ []) n
message-rested f new merge was us u c date cell same s v m r n e =
    let old = r n (v.kept n e) in
    let apart = cell_apart new u.cell cell n same v.current e in
    record {
      outputs = same-outputs merge us u c date n apart (λ id g. untouched f us u c new cell n same s v e id g (has_output (us ++ u ∷ []) id n) refl)
          ∙ ap (λ b. outputs_of b (us ++ u ∷ []) n) m ∙ old.outputs ∙ ap (λ b. outputs_of b was n) (sym m);
      count = same-count us u (with_message u c date) n apart refl ∙ old.count;
      dates = same-dates us u (with_message u c date) n apart refl ∙ old.dates;
    }

pub reply-stands-for : (f f' : Fold) (us : List Used) (u : Used) (date : Option (List ℕ)) → Holds f'.held (us ++ with_reply u date ∷ []) → f'.index ≡ f.index
    → (cell : ℕ) → cell < cells_of f → cells_of f' ≡ cells_of f → Covers f.touched f'.touched cell []
    → StandsFor f (us ++ u ∷ []) → StandsFor f' (us ++ with_reply u date ∷ [])
reply-stands-for f f' us u date h i cell lt m v s = record {
  held = h;
  calls = s.calls;
  told = rw i s.told;
  found = λ id n e. s.found id n (sym (reply-output us u date id n) ∙ e);
  within = λ id n e. as_many n (cells_of f) (cells_of f') m (s.within id n e);
  touches = λ n e. as_many n (cells_of f) (cells_of f') m (covered f.touched f'.touched cell (cells_of f) [] v lt s.touches (λ k g. no g) n e);
}

pub reply-rested : (f : Fold) (new : List ℕ) (merge : Bool) (was us : List Used) (u : Used) (date : Option (List ℕ)) (cell : ℕ) (ps : List Place) → u.cell ≡ cell
    → Covers f.touched new cell ps → merge ≡ merge_of f
    → Rested f was (us ++ u ∷ []) → (n : ℕ) → is_in new n ≡ false → SameCell merge was (us ++ with_reply u date ∷ []) n
reply-rested f new merge was us u date cell ps same v m r n e =
    let old = r n (v.kept n e) in
    let apart = cell_apart new u.cell cell n same v.current e in
    record {
      outputs = reply-outputs merge us u date n apart ∙ ap (λ b. outputs_of b (us ++ u ∷ []) n) m ∙ old.outputs ∙ ap (λ b. outputs_of b was n) (sym m);
      count = same-count us u (with_reply u date) n apart refl ∙ old.count;
      dates = same-dates us u (with_reply u date) n apart refl ∙ old.dates;
    }

all_below : (cells : ℕ) (ns : List ℕ) → ((n : ℕ) → is_in ns n ≡ true → n < cells) → AllByRecursion (λ n. n < cells) ns
all_below cells [] h = tt
all_below cells (n ∷ ns) h =
    (h n (or_left (n == n) (is_in ns n) (eq-eqb n n refl)), all_below cells ns (λ k e. h k (or_right (n == k) (is_in ns k) e)))

-- each touched cell is one of the notebook's
pub touched-below : (f : Fold) (us : List Used) (ns : List ℕ) → ns ≡ f.touched → StandsFor f us → All (λ n. n < cells_of f) ns
touched-below f us ns e s = All-from_recursion (λ n. n < cells_of f) ns (all_below (cells_of f) ns (λ n h. s.touches n (sym (ap (λ ks. is_in ks n) e) ∙ h)))

pub last-cell : (f : Folds) (us : List Used) (u : Used) (cell : ℕ) → cell + 1 ≡ f.next → Holds f (us ++ u ∷ []) → u.cell ≡ cell
last-cell f us u cell e h = let last = (ordered-least 0 us u f.next h.order).1 in omega (arith, last, e)
