-- Paths with what is known of each: what an entry makes of them.
use Rattle.std.specs.Prelude.{◌⊎◌, if◌then◌else◌, map, Result, Ok, Err, IfOk, is_some, slice_set}
use Rattle.std.proofs.Common.{◌≡◌, ◌∙◌, ◌++◌, ℕ, suc, ◌+◌, ◌<◌, List, [], ◌∷◌, length, get_or, take, drop, reverse, Bool, true, false, Some, None, refl, sym, ap, subst, inl, inr}
use Rattle.std.proofs.lemmas.Bool.{cases_Bool, cond-true, cond-false, false≢true, and_parts, and_from, or_cases, or_left, or_right}
use Rattle.std.proofs.lemmas.Cmp.{nat_list_cmp_total}
use Rattle.std.proofs.Math.Seq.{drop-cons}
use Rattle.std.proofs.lemmas.List.{take_more, reverse-append}
use Rattle.std.proofs.lemmas.Map.Text.{is_eq-slice_cmp}
use Rattle.std.proofs.lemmas.Option.{slice_get_read, same_Some}
use Rattle.std.proofs.lemmas.Slice.Eq.{bytes_eq-Decides}
use Rattle.std.specs.Cmp.{IsTotalOrder}
use Rattle.std.specs.Cmp.Lexicographic.{slice_cmp}
use Rattle.std.specs.Ordering.{nat_cmp, is_lt, is_eq, ordering_reverse}
use Rattle.std.specs.Str.{bytes_eq}
use Rattle.std.specs.declared.cmp.Ordering.{Ordering}
use Rattle.std.specs.declared.cmp.Ordering.TheVariants.{Less, Equal, Greater}
use Rattle.world.specs.declared.did.Did.{Did}
use Rattle.world.specs.declared.did.Did.TheVariants as did
use Rattle.world.specs.declared.entry.Entry.{Entry}
use Rattle.world.specs.declared.entry.Entry.TheVariants as made
use Rattle.world.proofs.SaveLemmas.{either_way}
use Rattle.world.specs.Disk.{
  Place,
  place,
  place_after,
  untouched_place,
  created_place,
  written_place,
  synced_place,
  target_place,
  removed_place,
  place_in_synced_dir,
  folder_of,
}
use Rattle.world_mem.specs.Folder.{Content, file_at, has_file}
use Rattle.world_mem.specs.Known.{Known, place_in, paths_of, is_below, are_ascending, put_by, put_in, settled_in, Learns, StandsFor}
use Rattle.jtext.specs.Texts.{is_among}
use Rattle.world_mem.proofs.ListLemmas.{set_split}
use Rattle.jtext.proofs.Equals.{equal_bytes, same_bytes}

-- ---- answers and tests

-- what follows of what was answered
pub ok_as : {T E : Type 0} (r : Result T E) {P Q : T → Type 0} → IfOk r P → ((x : T) → P x → Q x) → IfOk r Q
ok_as (Ok x) p turns = turns x p
ok_as (Err e) p turns = tt

-- at a path a function of the path is that of the one path
at_same : (path q : List ℕ) (f : List ℕ → Place) (rest : Place)
    → (if bytes_eq path q then f q else rest) ≡ (if bytes_eq path q then f path else rest)
at_same path q f rest =
    elim (cases_Bool (bytes_eq path q)) [
      | inl t ↦ cond-true (bytes_eq path q) (f q) rest t ∙ ap f (sym (equal_bytes path q t)) ∙ sym (cond-true (bytes_eq path q) (f path) rest t)
      | inr n ↦ cond-false (bytes_eq path q) (f q) rest n ∙ sym (cond-false (bytes_eq path q) (f path) rest n)
    ]

-- ---- one path with another state

-- two paths that compare equal are one, and others are not
equal_is : (a b : List ℕ) → slice_cmp nat_cmp a b ≡ Equal → bytes_eq a b ≡ true
equal_is a b e = sym (is_eq-slice_cmp a b) ∙ ap is_eq e

greater_is : (a b : List ℕ) → slice_cmp nat_cmp a b ≡ Greater → bytes_eq a b ≡ false
greater_is a b e = sym (is_eq-slice_cmp a b) ∙ ap is_eq e

-- one path is at most one of two that differ
swap : (a b q : List ℕ) (x y z : Place) → bytes_eq a b ≡ false
    → (if bytes_eq b q then x else (if bytes_eq a q then y else z))
    ≡ (if bytes_eq a q then y else (if bytes_eq b q then x else z))
swap a b q x y z differ =
    elim (cases_Bool (bytes_eq a q)) [
      | inl at_a ↦
          elim (cases_Bool (bytes_eq b q)) [
            | inl at_b ↦ absurd (false≢true (sym differ ∙ (bytes_eq-Decides a b).1 (equal_bytes a q at_a ∙ sym (equal_bytes b q at_b))))
            | inr not_b ↦
                cond-false (bytes_eq b q) x _ not_b
                ∙ ap (λ r. if bytes_eq a q then y else r) (sym (cond-false (bytes_eq b q) x z not_b))
          ]
      | inr not_a ↦
          ap (λ r. if bytes_eq b q then x else r) (cond-false (bytes_eq a q) y z not_a)
          ∙ sym (cond-false (bytes_eq a q) y _ not_a)
    ]

again : (a q : List ℕ) (x y z : Place)
    → (if bytes_eq a q then x else z) ≡ (if bytes_eq a q then x else (if bytes_eq a q then y else z))
again a q x y z =
    elim (cases_Bool (bytes_eq a q)) [
      | inl t ↦ cond-true (bytes_eq a q) x z t ∙ sym (cond-true (bytes_eq a q) x _ t)
      | inr n ↦ ap (λ r. if bytes_eq a q then x else r) (sym (cond-false (bytes_eq a q) y z n))
    ]

put_by_places : (o : Ordering) (path : List ℕ) (v : Place) (x : List ℕ × Place) (xs more : Known)
    → slice_cmp nat_cmp path x.0 ≡ o
    → ((q : List ℕ) → place_in more q ≡ (if bytes_eq path q then v else place_in xs q)) → (q : List ℕ)
    → place_in (put_by o path v x xs more) q ≡ (if bytes_eq path q then v else place_in (x ∷ xs) q)
put_by_places Less path v x xs more e so q = refl
put_by_places Equal path v x xs more e so q =
    let same : path ≡ x.0 = equal_bytes path x.0 (equal_is path x.0 e) in
    ap (λ name. if bytes_eq name q then v else place_in xs q) (sym same)
    ∙ again path q v x.1 (place_in xs q)
    ∙ ap (λ name. if bytes_eq path q then v else (if bytes_eq name q then x.1 else place_in xs q)) same
put_by_places Greater path v x xs more e so q =
    ap (λ r. if bytes_eq x.0 q then x.1 else r) (so q)
    ∙ swap path x.0 q x.1 v (place_in xs q) (greater_is path x.0 e)

-- one path has another state, and no other
pub put_places : (path : List ℕ) (v : Place) (xs : Known) (q : List ℕ)
    → place_in (put_in path v xs) q ≡ (if bytes_eq path q then v else place_in xs q)
put_places path v [] q = refl
put_places path v (x ∷ xs) q =
    put_by_places (slice_cmp nat_cmp path x.0) path v x xs (put_in path v xs) refl (put_places path v xs) q

put_by_kept : (o : Ordering) (path : List ℕ) (v : Place) (x : List ℕ × Place) (xs more : Known) (q : List ℕ)
    → (is_among q (paths_of xs) ≡ true → is_among q (paths_of more) ≡ true)
    → is_among q (paths_of (x ∷ xs)) ≡ true → is_among q (paths_of (put_by o path v x xs more)) ≡ true
put_by_kept Less path v x xs more q so e = or_right (bytes_eq path q) (is_among q (paths_of (x ∷ xs))) e
put_by_kept Equal path v x xs more q so e = e
put_by_kept Greater path v x xs more q so e =
    elim (or_cases (bytes_eq x.0 q) (is_among q (paths_of xs)) e) [
      | inl here ↦ or_left (bytes_eq x.0 q) (is_among q (paths_of more)) here
      | inr there ↦ or_right (bytes_eq x.0 q) (is_among q (paths_of more)) (so there)
    ]

-- every path stays
pub put_kept : (path : List ℕ) (v : Place) (xs : Known) (q : List ℕ) → is_among q (paths_of xs) ≡ true
    → is_among q (paths_of (put_in path v xs)) ≡ true
put_kept path v [] q e = absurd (false≢true e)
put_kept path v (x ∷ xs) q e =
    put_by_kept (slice_cmp nat_cmp path x.0) path v x xs (put_in path v xs) q (put_kept path v xs q) e

put_by_own : (o : Ordering) (path : List ℕ) (v : Place) (x : List ℕ × Place) (xs more : Known)
    → slice_cmp nat_cmp path x.0 ≡ o → is_among path (paths_of more) ≡ true
    → is_among path (paths_of (put_by o path v x xs more)) ≡ true
put_by_own Less path v x xs more e so = or_left (bytes_eq path path) _ (same_bytes path)
put_by_own Equal path v x xs more e so =
    or_left (bytes_eq x.0 path) _ ((bytes_eq-Decides x.0 path).1 (sym (equal_bytes path x.0 (equal_is path x.0 e))))
put_by_own Greater path v x xs more e so = or_right (bytes_eq x.0 path) _ so

-- the path is there
pub put_own : (path : List ℕ) (v : Place) (xs : Known) → is_among path (paths_of (put_in path v xs)) ≡ true
put_own path v [] = or_left (bytes_eq path path) false (same_bytes path)
put_own path v (x ∷ xs) = put_by_own (slice_cmp nat_cmp path x.0) path v x xs (put_in path v xs) refl (put_own path v xs)

-- what is greater comes behind
turned : (a b : List ℕ) → slice_cmp nat_cmp a b ≡ Greater → slice_cmp nat_cmp b a ≡ Less
turned a b e = IsTotalOrder.antisymm nat_list_cmp_total b a ∙ ap ordering_reverse e

below_by : (o : Ordering) (y path : List ℕ) (v : Place) (x : List ℕ × Place) (xs more : Known)
    → slice_cmp nat_cmp path x.0 ≡ o → slice_cmp nat_cmp y path ≡ Less → is_below y (paths_of (x ∷ xs)) ≡ true
    → is_below y (paths_of (put_by o path v x xs more)) ≡ true
below_by Less y path v x xs more e less below = ap is_lt less
below_by Equal y path v x xs more e less below = below
below_by Greater y path v x xs more e less below = below

below_put : (y path : List ℕ) (v : Place) (xs : Known) → slice_cmp nat_cmp y path ≡ Less
    → is_below y (paths_of xs) ≡ true → is_below y (paths_of (put_in path v xs)) ≡ true
below_put y path v [] less below = ap is_lt less
below_put y path v (x ∷ xs) less below =
    below_by (slice_cmp nat_cmp path x.0) y path v x xs (put_in path v xs) refl less below

put_by_order : (o : Ordering) (path : List ℕ) (v : Place) (x : List ℕ × Place) (xs : Known)
    → slice_cmp nat_cmp path x.0 ≡ o → are_ascending (paths_of (put_in path v xs)) ≡ true
    → are_ascending (paths_of (x ∷ xs)) ≡ true
    → are_ascending (paths_of (put_by o path v x xs (put_in path v xs))) ≡ true
put_by_order Less path v x xs e so order = and_from _ _ (ap is_lt e) order
put_by_order Equal path v x xs e so order = order
put_by_order Greater path v x xs e so order =
    let parts = and_parts (is_below x.0 (paths_of xs)) (are_ascending (paths_of xs)) order in
    and_from _ _ (below_put x.0 path v xs (turned path x.0 e) parts.0) so

-- the order stays
pub put_order : (path : List ℕ) (v : Place) (xs : Known) → are_ascending (paths_of xs) ≡ true
    → are_ascending (paths_of (put_in path v xs)) ≡ true
put_order path v [] order = refl
put_order path v (x ∷ xs) order =
    let parts = and_parts (is_below x.0 (paths_of xs)) (are_ascending (paths_of xs)) order in
    put_by_order (slice_cmp nat_cmp path x.0) path v x xs refl (put_order path v xs parts.1) order

-- ---- what entries make of them

learns_put : (entry : Entry) (path : List ℕ) (v : Place) (old : Known)
    → ((q : List ℕ) → place_after entry (place_in old) q ≡ (if bytes_eq path q then v else place_in old q))
    → Learns entry old (put_in path v old)
learns_put entry path v old is = record {
  places = λ q. put_places path v old q ∙ sym (is q);
  order = put_order path v old;
  kept = put_kept path v old;
}

pub learns_created : (path : List ℕ) (d : Did) (v : Place) (old : Known) → v ≡ created_place d
    → Learns (made.Created path d) old (put_in path v old)
learns_created path d v old e =
    learns_put (made.Created path d) path v old (λ q. ap (λ p. if bytes_eq path q then p else place_in old q) (sym e))

pub learns_wrote : (path bytes : List ℕ) (d : Did) (v : Place) (old : Known)
    → v ≡ written_place (place_in old path) bytes d → Learns (made.Wrote path bytes d) old (put_in path v old)
learns_wrote path bytes d v old e =
    learns_put (made.Wrote path bytes d) path v old (λ q.
    at_same path q (λ name. written_place (place_in old name) bytes d) (place_in old q)
    ∙ ap (λ p. if bytes_eq path q then p else place_in old q) (sym e))

pub learns_synced : (path : List ℕ) (d : Did) (v : Place) (old : Known) → v ≡ synced_place (place_in old path) d
    → Learns (made.Synced path d) old (put_in path v old)
learns_synced path d v old e =
    learns_put (made.Synced path d) path v old (λ q.
    at_same path q (λ name. synced_place (place_in old name) d) (place_in old q)
    ∙ ap (λ p. if bytes_eq path q then p else place_in old q) (sym e))

pub learns_removed : (path : List ℕ) (d : Did) (v : Place) (old : Known) → v ≡ removed_place (place_in old path) d
    → Learns (made.Removed path d) old (put_in path v old)
learns_removed path d v old e =
    learns_put (made.Removed path d) path v old (λ q.
    at_same path q (λ name. removed_place (place_in old name) d) (place_in old q)
    ∙ ap (λ p. if bytes_eq path q then p else place_in old q) (sym e))

pub learns_renamed : (from to : List ℕ) (d : Did) (gone target : Place) (old : Known)
    → gone ≡ removed_place (place_in old from) d → target ≡ target_place (place_in old from) (place_in old to) d
    → Learns (made.Renamed from to d) old (put_in to target (put_in from gone old))
learns_renamed from to d gone target old e f = record {
  places = λ q.
      put_places to target (put_in from gone old) q
      ∙ ap (λ r. if bytes_eq to q then target else r) (put_places from gone old q)
      ∙ ap (λ p. if bytes_eq to q then p else (if bytes_eq from q then gone else place_in old q)) f
      ∙ ap (λ p. if bytes_eq to q then target_place (place_in old from) (place_in old to) d else (if bytes_eq from q then p else place_in old q)) e;
  order = λ order. put_order to target (put_in from gone old) (put_order from gone old order);
  kept = λ q e. put_kept to target (put_in from gone old) q (put_kept from gone old q e);
}

settled_paths : (dir : List ℕ) (d : Did) (xs : Known) → paths_of (map (settled_in dir d) xs) ≡ paths_of xs
settled_paths dir d [] = refl
settled_paths dir d (x ∷ xs) = ap (λ rest. x.0 ∷ rest) (settled_paths dir d xs)

untouched_settles : (d : Did) → place_in_synced_dir untouched_place d ≡ untouched_place
untouched_settles did.Done = refl
untouched_settles did.Failed = refl

settles_untouched : (b : Bool) (d : Did) → untouched_place ≡ (if b then place_in_synced_dir untouched_place d else untouched_place)
settles_untouched true d = sym (untouched_settles d)
settles_untouched false d = refl

settled_places : (dir : List ℕ) (d : Did) (xs : Known) (q : List ℕ)
    → place_in (map (settled_in dir d) xs) q
    ≡ (if bytes_eq dir (folder_of q) then place_in_synced_dir (place_in xs q) d else place_in xs q)
settled_places dir d [] q = settles_untouched (bytes_eq dir (folder_of q)) d
settled_places dir d (x ∷ xs) q =
    let settle : List ℕ → Place → Place = λ name p. if bytes_eq dir (folder_of name) then place_in_synced_dir p d else p in
    elim (cases_Bool (bytes_eq x.0 q)) [
      | inl t ↦
          cond-true (bytes_eq x.0 q) (settle x.0 x.1) _ t
          ∙ ap (λ name. settle name x.1) (equal_bytes x.0 q t)
          ∙ ap (settle q) (sym (cond-true (bytes_eq x.0 q) x.1 (place_in xs q) t))
      | inr n ↦
          cond-false (bytes_eq x.0 q) (settle x.0 x.1) _ n
          ∙ settled_places dir d xs q
          ∙ ap (settle q) (sym (cond-false (bytes_eq x.0 q) x.1 (place_in xs q) n))
    ]

pub learns_settled : (dir : List ℕ) (d : Did) (old : Known) → Learns (made.DirSynced dir d) old (map (settled_in dir d) old)
learns_settled dir d old = record {
  places = settled_places dir d old;
  order = λ order. ap are_ascending (settled_paths dir d old) ∙ order;
  kept = λ q e. ap (is_among q) (settled_paths dir d old) ∙ e;
}

-- by equations
pub learns_by : {entry as_made : Entry} {old new is : Known} → entry ≡ as_made → new ≡ is → Learns as_made old is
    → Learns entry old new
learns_by {entry} {as_made} {old} {new} {is} e f so =
    subst (λ en. Learns en old new) (sym e) (subst (λ ks. Learns as_made old ks) (sym f) so)

-- ---- in loops

has_more : (q : List ℕ) (xs : Content) (f : List ℕ × List ℕ) → has_file q (xs ++ f ∷ []) ≡ true
    → (has_file q xs ≡ true) ⊎ (bytes_eq f.0 q ≡ true)
has_more q [] f e =
    elim (cases_Bool (bytes_eq f.0 q)) [
      | inl t ↦ inr t
      | inr n ↦ absurd (false≢true (ap is_some (sym (cond-false (bytes_eq f.0 q) (Some f.1) None n)) ∙ e))
    ]
has_more q (x ∷ xs) f e =
    elim (cases_Bool (bytes_eq x.0 q)) [
      | inl t ↦ inl (ap is_some (cond-true (bytes_eq x.0 q) (Some x.1) (file_at q xs) t))
      | inr n ↦
          elim (has_more q xs f (ap is_some (sym (cond-false (bytes_eq x.0 q) (Some x.1) (file_at q (xs ++ f ∷ [])) n)) ∙ e)) [
            | inl p ↦ inl (ap is_some (cond-false (bytes_eq x.0 q) (Some x.1) (file_at q xs) n) ∙ p)
            | inr p ↦ inr p
          ]
    ]

-- before any entry, one file more
pub stands_more : (start : Content) (i : ℕ) (file : List ℕ × List ℕ) (known : Known) → i < length start
    → file ≡ get_or start i file → StandsFor (take i start) [] known
    → StandsFor (take (i + 1) start) [] (put_in file.0 untouched_place known)
stands_more start i file known below is so =
    let longer : take (i + 1) start ≡ take i start ++ file ∷ [] =
    take_more start i file below ∙ ap (λ f. take i start ++ f ∷ []) (sym is) in
    record {
      places = λ q.
          put_places file.0 untouched_place known q
          ∙ ap (λ p. if bytes_eq file.0 q then untouched_place else p) (so.places q)
          ∙ either_way (bytes_eq file.0 q) untouched_place;
      order = put_order file.0 untouched_place known so.order;
      all = λ q e.
          elim (has_more q (take i start) file (ap (has_file q) (sym longer) ∙ e)) [
            | inl before ↦ put_kept file.0 untouched_place known q (so.all q before)
            | inr here ↦
                subst (λ name. is_among name (paths_of (put_in file.0 untouched_place known)) ≡ true) (equal_bytes file.0 q here) (put_own file.0 untouched_place known)
          ];
    }

-- what an entry makes of a path goes by what is known of each path
after_as : (entry : Entry) (was is : List ℕ → Place) → ((q : List ℕ) → was q ≡ is q) → (q : List ℕ)
    → place_after entry was q ≡ place_after entry is q
after_as (made.Created path d) was is same q = ap (λ p. if bytes_eq path q then created_place d else p) (same q)
after_as (made.Wrote path bytes d) was is same q = ap (λ p. if bytes_eq path q then written_place p bytes d else p) (same q)
after_as (made.Synced path d) was is same q = ap (λ p. if bytes_eq path q then synced_place p d else p) (same q)
after_as (made.Renamed from to d) was is same q =
    ap (λ p. if bytes_eq to q then target_place p (was to) d else (if bytes_eq from q then removed_place p d else was q)) (same from)
    ∙ ap (λ p. if bytes_eq to q then target_place (is from) p d else (if bytes_eq from q then removed_place (is from) d else was q)) (same to)
    ∙ ap (λ p. if bytes_eq to q then target_place (is from) (is to) d else (if bytes_eq from q then removed_place (is from) d else p)) (same q)
after_as (made.DirSynced dir d) was is same q = ap (λ p. if bytes_eq dir (folder_of q) then place_in_synced_dir p d else p) (same q)
after_as (made.Removed path d) was is same q = ap (λ p. if bytes_eq path q then removed_place p d else p) (same q)
after_as _ was is same q = same q

-- one entry more
pub stands_after : (start : Content) (entries : List Entry) (i : ℕ) (entry : Entry) (known new : Known) → i < length entries
    → entry ≡ get_or entries i entry → StandsFor start (reverse (take i entries)) known → Learns entry known new
    → StandsFor start (reverse (take (i + 1) entries)) new
stands_after start entries i entry known new below is so learns =
    let past = reverse (take i entries) in
    let longer : reverse (take (i + 1) entries) ≡ entry ∷ past =
    ap reverse (take_more entries i entry below)
    ∙ reverse-append (take i entries) (get_or entries i entry ∷ [])
    ∙ ap (λ e. e ∷ past) (sym is) in
    subst (λ journal. StandsFor start journal new) (sym longer) (record {
      places = λ q.
          learns.places q ∙ after_as entry (place_in known) (place past) so.places q;
      order = learns.order so.order;
      all = λ q e. learns.kept q (so.all q e);
    })

-- another state for the path at a place
pub put_here : (path : List ℕ) (v : Place) (xs : Known) (i : ℕ) (x : List ℕ × Place) → i < length xs
    → x ≡ get_or xs i x → slice_cmp nat_cmp path x.0 ≡ Equal
    → put_in path v xs ≡ take i xs ++ put_in path v (drop i xs) → slice_set xs i (x.0, v) ≡ put_in path v xs
put_here path v xs i x below is equal behind =
    let rest = drop (suc i) xs in
    let cut : drop i xs ≡ x ∷ rest = drop-cons xs i x below ∙ ap (λ y. y ∷ rest) (sym is) in
    let put : put_in path v (drop i xs) ≡ (x.0, v) ∷ rest =
    ap (put_in path v) cut ∙ ap (λ o. put_by o path v x rest (put_in path v rest)) equal in
    set_split xs i (x.0, v) below ∙ ap (λ ys. take i xs ++ ys) (sym put) ∙ sym behind

-- an item that was read twice is one
pub same_item : (xs : Known) (i : ℕ) (x y : List ℕ × Place) → i < length xs → x ≡ get_or xs i x → y ≡ get_or xs i y
    → x ≡ y
same_item xs i x y below e f =
    same_Some _ _ (sym (slice_get_read xs (length xs) i x refl below e) ∙ slice_get_read xs (length xs) i y refl below f)
