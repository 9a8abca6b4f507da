-- Which lists a fold stands for after a call.
use Rattle.std.proofs.Common.{◌≡◌, ◌≢◌, ◌==◌, ℕ, zero, suc, ◌+◌, ◌-◌, ◌<◌, ◌≤◌, Bool, true, false, cond, List, [], ◌∷◌, ◌++◌, length, get_or, set, Option, Some, None, Result, Ok, Err, refl, sym, ◌∙◌, ap, arith, eqb-true, get_or-set_same, get_or-set_other, map, append-nil}
use Rattle.std.specs.Option.{option_or}
use Rattle.std.specs.Result.{OnOk, OnErr}
use Rattle.std.proofs.lemmas.Bool.{cond-true, cond-false, eq-eqb, ne_eqb}
use Rattle.std.proofs.lemmas.Simd.{map-map}
use Rattle.jcontent.specs.declared.content.Content.{Content}
use Rattle.out_fold.specs.declared.latest.Data.{Data}
use Rattle.out_fold.specs.declared.folded.Folded.{Folded}
use Rattle.out_fold.specs.declared.folds.Folds.{Folds}
use Rattle.out_fold.specs.Shown.{shows, latest, resolve, outputs}
use Rattle.out_fold.specs.Tree.{output_tree}
use Rattle.out_fold.specs.Cells.{Used, begin, with_message, with_reply, contents, all_contents, joined_where, outputs_of, count_of, dates_of, date_pairs}
use Rattle.out_fold.specs.Held.{nothing, fold_of, folded_at, step, held_at, data_of, Ordered, Holds, Took, Kept, IsSameShape}
use Rattle.out_fold.proofs.ShownLemmas.{latest-snoc, outputs-held}
use Rattle.out_fold.proofs.JoinedLemmas.{joined-resolved}
use Rattle.out_fold.proofs.CellLemmas.{folded-message, all-message, all-reply, all-snoc}

-- ---- cells in their order

pub ordered-least : (low : ℕ) (us : List Used) (u : Used) (next : ℕ) → Ordered low (us ++ u ∷ []) next → (low ≤ u.cell) × (u.cell + 1 ≡ next)
ordered-least low [] u next h = h
ordered-least low (v ∷ us) u next h =
    let rest = ordered-least (v.cell + 1) us u next h.1 in
    let first = h.0 in
    (omega (arith, rest.0, first), rest.1)

pub ordered-same : (low : ℕ) (us : List Used) (u u' : Used) (next : ℕ) → u'.cell ≡ u.cell → Ordered low (us ++ u ∷ []) next → Ordered low (us ++ u' ∷ []) next
ordered-same low [] u u' next e h = rw e h
ordered-same low (v ∷ us) u u' next e h = (h.0, ordered-same (v.cell + 1) us u u' next e h.1)

ordered-begun : (low : ℕ) (us : List Used) (cell next : ℕ) → next ≤ cell → Ordered low us next → Ordered low (us ++ begin cell ∷ []) (cell + 1)
ordered-begun low [] cell next le h = (omega (arith, le, h), refl)
ordered-begun low (v ∷ us) cell next le h = (h.0, ordered-begun (v.cell + 1) us cell next le h.1)

ordered-below : (low : ℕ) (us : List Used) (next : ℕ) → Ordered low us next → low ≤ next
ordered-below low [] next h = omega (arith, h)
ordered-below low (u ∷ us) next h = let rest = ordered-below (u.cell + 1) us next h.1 in let first = h.0 in omega (arith, rest, first)

-- ---- the last cell, and the others

-- of the last cell, what was folded of the last
pub at-last : (low : ℕ) (us : List Used) (u : Used) (next : ℕ) → Ordered low (us ++ u ∷ []) next → folded_at (us ++ u ∷ []) u.cell ≡ fold_of u
at-last low [] u next h = cond-true (u.cell == u.cell) (fold_of u) nothing (eq-eqb u.cell u.cell refl)
at-last low (v ∷ us) u next h =
    let rest = ordered-least (v.cell + 1) us u next h.1 in
    let apart : v.cell ≢ u.cell = λ e. omega (arith, rest.0, e) in
    cond-false (v.cell == u.cell) (fold_of v) (folded_at (us ++ u ∷ []) u.cell) (ne_eqb v.cell u.cell apart)
    ∙ at-last (v.cell + 1) us u next h.1

-- of another cell, what it was
at-other : (us : List Used) (u : Used) (cell : ℕ) → u.cell ≢ cell → folded_at (us ++ u ∷ []) cell ≡ folded_at us cell
at-other [] u cell h = cond-false (u.cell == cell) (fold_of u) nothing (ne_eqb u.cell cell h)
at-other (v ∷ us) u cell h = ap (λ r. cond (v.cell == cell) (fold_of v) r) (at-other us u cell h)

-- past the last cell, nothing
at-past : (low : ℕ) (us : List Used) (next cell : ℕ) → Ordered low us next → next ≤ cell → folded_at us cell ≡ nothing
at-past low [] next cell h le = refl
at-past low (v ∷ us) next cell h le =
    let below = ordered-below (v.cell + 1) us next h.1 in
    let apart : v.cell ≢ cell = λ e. omega (arith, below, le, e) in
    cond-false (v.cell == cell) (fold_of v) (folded_at us cell) (ne_eqb v.cell cell apart)
    ∙ at-past (v.cell + 1) us next cell h.1 le

-- ---- the calls

held-current : (f : Folds) (cell : ℕ) → cell + 1 ≡ f.next → held_at f cell ≡ f.current
held-current f cell e = cond-true ((cell + 1) == f.next) f.current (get_or f.cells cell nothing) (rw e (eq-eqb f.next f.next refl))

held-other : (f : Folds) (cell : ℕ) → cell + 1 ≢ f.next → held_at f cell ≡ get_or f.cells cell nothing
held-other f cell h = cond-false ((cell + 1) == f.next) f.current (get_or f.cells cell nothing) (ne_eqb (cell + 1) f.next h)

held-same : (f f' : Folds) → Kept f f' → (cell : ℕ) → held_at f' cell ≡ held_at f cell
held-same f f' k cell = rw (k.next, k.cells, k.current) refl

changed_at : (f f' : Folds) (us : List Used) (u u' : Used) → u'.cell ≡ u.cell → f'.next ≡ f.next → f'.cells ≡ f.cells
    → (f.current ≡ fold_of u → f'.current ≡ fold_of u') → Holds f (us ++ u ∷ [])
    → (cell : ℕ) → cell < length f.cells → (b : Bool) → ((cell + 1) == f.next) ≡ b → u.cell + 1 ≡ f.next
    → held_at f' cell ≡ folded_at (us ++ u' ∷ []) cell
changed_at f f' us u u' same next cells current s cell lt true e last =
    let e1 : cell + 1 ≡ f.next = eqb-true (cell + 1) f.next e in
    let here : cell ≡ u.cell = omega (arith, e1, last) in
    let here' : u'.cell ≡ cell = omega (arith, here, same) in
    let was : f.current ≡ fold_of u = sym (held-current f cell e1) ∙ s.cells cell lt ∙ ap (λ n. folded_at (us ++ u ∷ []) n) here ∙ at-last 0 us u f.next s.order in
    held-current f' cell (e1 ∙ sym next) ∙ current was
    ∙ sym (at-last 0 us u' f.next (ordered-same 0 us u u' f.next same s.order)) ∙ ap (λ n. folded_at (us ++ u' ∷ []) n) here'
changed_at f f' us u u' same next cells current s cell lt false e last =
    let apart : cell + 1 ≢ f.next = λ x. absurd (grind (arith, e, x)) in
    let apart' : cell + 1 ≢ f'.next = λ x. apart (x ∙ next) in
    let other : u.cell ≢ cell = λ x. apart (omega (arith, x, last)) in
    let other' : u'.cell ≢ cell = λ x. other (sym same ∙ x) in
    held-other f' cell apart' ∙ ap (λ cs. get_or cs cell nothing) cells ∙ sym (held-other f cell apart) ∙ s.cells cell lt
    ∙ at-other us u cell other ∙ sym (at-other us u' cell other')

-- where only the current cell changes, so does what is held
changed : (f f' : Folds) (us : List Used) (u u' : Used) → u'.cell ≡ u.cell → f'.next ≡ f.next → f'.cells ≡ f.cells
    → (f.current ≡ fold_of u → f'.current ≡ fold_of u') → Holds f (us ++ u ∷ [])
    → (cell : ℕ) → cell < length f'.cells → held_at f' cell ≡ folded_at (us ++ u' ∷ []) cell
changed f f' us u u' same next cells current s cell lt =
    let last = ordered-least 0 us u f.next s.order in
    changed_at f f' us u u' same next cells current s cell (rw cells at lt) ((cell + 1) == f.next) refl last.1

learnt_by : (f : Folds) (id : List ℕ) (d : Data) (o l : Option Data) → ((x : Data) → l ≡ Some x → data_of f.latest id ≡ Some x) → option_or o l ≡ Some d → option_or o (data_of f.latest id) ≡ Some d
learnt_by f id d (Some x) l h e = e
learnt_by f id d None l h e = h d e

learnt : (f : Folds) (id : List ℕ) (c : Content) (d : Data) (l : Option Data) → ((x : Data) → l ≡ Some x → data_of f.latest id ≡ Some x)
    → option_or (shows id c) l ≡ Some d → option_or (shows id c) (data_of f.latest id) ≡ Some d
learnt f id c d l h e = learnt_by f id d (shows id c) l h e

pub took-stands : (f f' : Folds) (c : Content) (date : Option (List ℕ)) → Took f f' c date
    → (us : List Used) (u : Used) → Holds f (us ++ u ∷ []) → Holds f' (us ++ with_message u c date ∷ [])
took-stands f f' c date t us u s = record {
  order = rw t.next (ordered-same 0 us u (with_message u c date) f.next refl s.order);
  cells = changed f f' us u (with_message u c date) refl t.next t.cells (λ e. t.current ∙ ap (λ x. step x c date) e ∙ sym (folded-message u c date)) s;
  latest = λ id d e. t.learns id d (learnt f id c d (latest id None (all_contents (us ++ u ∷ []))) (λ x. s.latest id x)
      (sym (latest-snoc id None (all_contents (us ++ u ∷ [])) c) ∙ ap (λ cs. latest id None cs) (sym (all-message us u c date)) ∙ e));
}

pub reply-stands : (f f' : Folds) (date : Option (List ℕ)) → f'.next ≡ f.next → f'.cells ≡ f.cells → f'.latest ≡ f.latest
    → f'.current ≡ record f.current { reply = date }
    → (us : List Used) (u : Used) → Holds f (us ++ u ∷ []) → Holds f' (us ++ with_reply u date ∷ [])
reply-stands f f' date next cells known current us u s = record {
  order = rw next (ordered-same 0 us u (with_reply u date) f.next refl s.order);
  cells = changed f f' us u (with_reply u date) refl next cells (λ e. current ∙ ap (λ (x : Folded). record x { reply = date }) e) s;
  latest = λ id d e. rw known (s.latest id d (ap (λ cs. latest id None cs) (sym (all-reply us u date)) ∙ e));
}

pub kept-stands : (f f' : Folds) → Kept f f' → (us : List Used) → Holds f us → Holds f' us
kept-stands f f' k us s = record {
  order = rw k.next s.order;
  cells = λ cell lt. held-same f f' k cell ∙ s.cells cell (rw k.cells at lt);
  latest = λ id d e. k.keeps id d (s.latest id d e);
}

-- a cell begins: what was current is put among the cells
pub record Starts (f f' : Folds) (cell : ℕ) : Type 0 where
  pub next : f'.next ≡ cell + 1
  pub current : f'.current ≡ nothing
  pub put : 0 < f.next → f'.cells ≡ set f.cells (f.next - 1) f.current
  pub same : f.next ≡ 0 → f'.cells ≡ f.cells
  pub latest : f'.latest ≡ f.latest
  pub within : f.next ≤ length f.cells
  pub len : length f'.cells ≡ length f.cells

before_by : (f f' : Folds) (cell n : ℕ) → Starts f f' cell → (m : ℕ) → f.next ≡ suc m → (b : Bool) → ((n + 1) == f.next) ≡ b → get_or f'.cells n nothing ≡ held_at f n
before_by f f' cell n s m e true h =
    let e1 : n + 1 ≡ f.next = eqb-true (n + 1) f.next h in
    let some : 0 < f.next = omega (arith, e1) in
    let here : f.next - 1 ≡ n = omega (arith, e1) in
    let within : f.next ≤ length f.cells = s.within in
    let lt : n < length f.cells = omega (arith, e1, within) in
    ap (λ cs. get_or cs n nothing) (s.put some) ∙ ap (λ k. get_or (set f.cells k f.current) n nothing) here
    ∙ get_or-set_same f.cells n f.current nothing lt ∙ sym (held-current f n e1)
before_by f f' cell n s m e false h =
    let some : 0 < f.next = omega (arith, e) in
    let apart : n + 1 ≢ f.next = λ x. absurd (grind (arith, h, x)) in
    let other : n ≢ f.next - 1 = λ x. apart (omega (arith, x, some)) in
    ap (λ cs. get_or cs n nothing) (s.put some) ∙ get_or-set_other f.cells (f.next - 1) n f.current nothing other ∙ sym (held-other f n apart)

-- what is held of a cell that isn't the one that begins
before-start : (f f' : Folds) (cell n : ℕ) → Starts f f' cell → (m : ℕ) → f.next ≡ m → get_or f'.cells n nothing ≡ held_at f n
before-start f f' cell n s zero e =
    ap (λ cs. get_or cs n nothing) (s.same e) ∙ sym (held-other f n (λ x. absurd (omega (arith, x, e))))
before-start f f' cell n s (suc m) e = before_by f f' cell n s m e ((n + 1) == f.next) refl

pub all-begun : (us : List Used) (cell : ℕ) → all_contents (us ++ begin cell ∷ []) ≡ all_contents us
all-begun us cell = all-snoc us (begin cell) ∙ append-nil (all_contents us)

start_at : (f f' : Folds) (us : List Used) (cell n : ℕ) → Starts f f' cell → f.next ≤ cell → Holds f us → n < length f.cells
    → (b : Bool) → ((n + 1) == (cell + 1)) ≡ b → held_at f' n ≡ folded_at (us ++ begin cell ∷ []) n
start_at f f' us cell n s le st lt true e =
    let e1 : n + 1 ≡ cell + 1 = eqb-true (n + 1) (cell + 1) e in
    let here : cell ≡ n = omega (arith, e1) in
    held-current f' n (e1 ∙ sym s.next) ∙ s.current
    ∙ sym (at-last 0 us (begin cell) (cell + 1) (ordered-begun 0 us cell f.next le st.order)) ∙ ap (λ k. folded_at (us ++ begin cell ∷ []) k) here
start_at f f' us cell n s le st lt false e =
    let apart : n + 1 ≢ cell + 1 = λ x. absurd (grind (arith, e, x)) in
    let other : cell ≢ n = λ x. apart (omega (arith, x)) in
    held-other f' n (λ x. apart (x ∙ s.next)) ∙ before-start f f' cell n s f.next refl ∙ st.cells n lt ∙ sym (at-other us (begin cell) n other)

pub start-stands : (f f' : Folds) (us : List Used) (cell : ℕ) → Starts f f' cell → f.next ≤ cell → Holds f us → Holds f' (us ++ begin cell ∷ [])
start-stands f f' us cell s le st = record {
  order = rw s.next (ordered-begun 0 us cell f.next le st.order);
  cells = λ n lt. start_at f f' us cell n s le st (rw s.len at lt) ((n + 1) == (cell + 1)) refl;
  latest = λ id d e. rw s.latest (st.latest id d (ap (λ cs. latest id None cs) (sym (all-begun us cell)) ∙ e));
}

-- ---- what is answered

pub latest-through : (id : List ℕ) (before : Option Data) (xs ys : List Content) → latest id before (xs ++ ys) ≡ latest id (latest id before xs) ys
latest-through id before [] ys = refl
latest-through id before (x ∷ xs) ys = latest-through id (option_or (shows id x) before) xs ys

joined_where-resolved : (merge : Bool) (known : List ℕ → Option Data) (cs : List Content) → joined_where merge (map (resolve known) cs) ≡ map (resolve known) (joined_where merge cs)
joined_where-resolved true known cs = joined-resolved known cs
joined_where-resolved false known cs = refl

own_items : (merge : Bool) (known before : List ℕ → Option Data) (u : Used) (us : List Used)
    → ((id : List ℕ) (d : Data) → latest id (before id) (contents u ++ all_contents us) ≡ Some d → known id ≡ Some d)
    → map (λ c. output_tree (resolve known c)) (joined_where merge (fold_of u).outputs) ≡ map output_tree (joined_where merge (outputs (contents u) (all_contents us)))
own_items merge known before u us h =
    sym (map-map output_tree (resolve known) (joined_where merge (fold_of u).outputs))
    ∙ ap (λ cs. map output_tree cs) (sym (joined_where-resolved merge known (fold_of u).outputs))
    ∙ ap (λ cs. map output_tree (joined_where merge cs)) (sym (outputs-held known before (contents u) (all_contents us) h))

items_by : (merge : Bool) (known : List ℕ → Option Data) (u : Used) (us : List Used) (cell : ℕ) (b : Bool)
    → map (λ c. output_tree (resolve known c)) (joined_where merge (fold_of u).outputs) ≡ map output_tree (joined_where merge (outputs (contents u) (all_contents us)))
    → map (λ c. output_tree (resolve known c)) (joined_where merge (folded_at us cell).outputs) ≡ outputs_of merge us cell
    → map (λ c. output_tree (resolve known c)) (joined_where merge (cond b (fold_of u) (folded_at us cell)).outputs)
    ≡ cond b (map output_tree (joined_where merge (outputs (contents u) (all_contents us)))) (outputs_of merge us cell)
items_by merge known u us cell true own rest = own
items_by merge known u us cell false own rest = rest

-- the outputs of a cell, by what is held
items_at : (merge : Bool) (known before : List ℕ → Option Data) (us : List Used) (cell : ℕ)
    → ((id : List ℕ) (d : Data) → latest id (before id) (all_contents us) ≡ Some d → known id ≡ Some d)
    → map (λ c. output_tree (resolve known c)) (joined_where merge (folded_at us cell).outputs) ≡ outputs_of merge us cell
items_at true known before [] cell h = refl
items_at false known before [] cell h = refl
items_at merge known before (u ∷ us) cell h =
    items_by merge known u us cell (u.cell == cell)
    (own_items merge known before u us h)
    (items_at merge known (λ id. latest id (before id) (contents u)) us cell (λ id d e. h id d (latest-through id (before id) (contents u) (all_contents us) ∙ e)))

pub outputs-held-at : (f : Folds) (us : List Used) (cell : ℕ) → Holds f us → cell < length f.cells
    → map (λ c. output_tree (resolve (data_of f.latest) c)) (joined_where f.merge (held_at f cell).outputs) ≡ outputs_of f.merge us cell
outputs-held-at f us cell s lt =
    ap (λ (x : Folded). map (λ c. output_tree (resolve (data_of f.latest) c)) (joined_where f.merge x.outputs)) (s.cells cell lt)
    ∙ items_at f.merge (data_of f.latest) (λ id. None) us cell s.latest

count_by : (u : Used) (us : List Used) (cell : ℕ) (b : Bool) → (folded_at us cell).count ≡ count_of us cell
    → (cond b (fold_of u) (folded_at us cell)).count ≡ cond b (fold_of u).count (count_of us cell)
count_by u us cell true e = refl
count_by u us cell false e = e

pub count-at : (us : List Used) (cell : ℕ) → (folded_at us cell).count ≡ count_of us cell
count-at [] cell = refl
count-at (u ∷ us) cell = count_by u us cell (u.cell == cell) (count-at us cell)

dates_by : (u : Used) (us : List Used) (cell : ℕ) (b : Bool) → (let x = folded_at us cell in date_pairs x.input x.busy x.idle x.reply) ≡ dates_of us cell
    → (let x = cond b (fold_of u) (folded_at us cell) in date_pairs x.input x.busy x.idle x.reply)
    ≡ cond b (date_pairs (fold_of u).input (fold_of u).busy (fold_of u).idle (fold_of u).reply) (dates_of us cell)
dates_by u us cell true e = refl
dates_by u us cell false e = e

pub dates-at : (us : List Used) (cell : ℕ) → (let x = folded_at us cell in date_pairs x.input x.busy x.idle x.reply) ≡ dates_of us cell
dates-at [] cell = refl
dates-at (u ∷ us) cell = dates_by u us cell (u.cell == cell) (dates-at us cell)

pub new-stands : (f : Folds) → f.next ≡ 0 → ((cell : ℕ) → get_or f.cells cell nothing ≡ nothing) → Holds f []
new-stands f next cells = record {
  order = sym next;
  cells = λ cell lt. held-other f cell (λ x. absurd (omega (arith, x, next))) ∙ cells cell;
  latest = λ id d e. cc;
}

-- ---- by what a call answered

pub same-shape : {T E : Type 0} → (r : Result T E) (f f' : Folds) (c : Content) (date : Option (List ℕ))
    → OnOk r (Took f f' c date) → OnErr r (Kept f f') → IsSameShape f f'
same-shape (Ok x) f f' c date t k = record { merge = t.merge; next = t.next; len = ap length t.cells }
same-shape (Err e) f f' c date t k = record { merge = k.merge; next = k.next; len = ap length k.cells }
