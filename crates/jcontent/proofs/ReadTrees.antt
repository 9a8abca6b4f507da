-- The values under the keys of a tree: as the tree, no key twice, sound, and less deep.
use Rattle.std.proofs.Common.{◌≡◌, ℕ, ◌<◌, ◌≤◌, List, [], ◌∷◌, map, Option, Some, None, refl, sym, ap, ◌∙◌, inl, inr, subst, arith}
use Rattle.std.specs.List.{AllByRecursion}
use Rattle.std.specs.Prelude.{unwrap_or}
use Rattle.std.specs.Option.{IfSome}
use Rattle.std.specs.Str.{IsUtf8, bytes_eq}
use Rattle.std.proofs.lemmas.Bool.{cases_Bool, cond-true, cond-false}
use Rattle.std.proofs.lemmas.Str.{IsUtf8-nil}
use Rattle.jtext.specs.declared.json.Json.{Json, out-Json}
use Rattle.jtext.specs.declared.json.Json.TheOpen.{Json-F}
use Rattle.jtext.specs.declared.json.Json.TheVariants as json
use Rattle.jtext.specs.Depth.{depth}
use Rattle.jtext.specs.Find.{find, field, fields}
use Rattle.jtext.specs.Keyed.{Keyed, PairsKeyed}
use Rattle.jtext.specs.Look.{is_object, is_list, items, string, text_of}
use Rattle.jtext.specs.Sound as sound
use Rattle.jtext.specs.Sound.{Sound, AllSound, PairsSound}
use Rattle.jtext.proofs.Depths.{depth-Obj, pairs-all}
use Rattle.jtext.proofs.Trees.{object_is, list_is, text_is, open_Null, open_Bool, open_Num, open_Str, open_Arr, open_Obj, as_array, as_object, same_items, same_pairs, pairs_keyed, pair_keyed, no_items, no_fields}
use Rattle.jcontent.specs.IsRead.{IsInner}

-- ---- parts of sound trees

as_string : (t : Json) (u : Json-F Json) (s : List ℕ) → out-Json t ≡ u → t ≡ json.Str s → u ≡ Json-F.Str s
as_string t u s o e = sym o ∙ ap out-Json e ∙ open_Str s

text_sound : (t : Json) (s : List ℕ) → Sound t → t ≡ json.Str s → IsUtf8 s
text_sound _ s sound.null e = let h = as_string _ _ s open_Null e in cc
text_sound _ s (sound.boolean b) e = let h = as_string _ _ s (open_Bool b) e in cc
text_sound _ s (sound.number n u) e = let h = as_string _ _ s (open_Num n) e in cc
text_sound _ s (sound.text r u) e = let h = as_string _ _ s (open_Str r) e in subst IsUtf8 (same_text r s h) u
  where
    same_text : (r s : List ℕ) → ◌≡◌ {A = Json-F Json} (Json-F.Str r) (Json-F.Str s) → r ≡ s
    same_text r s e = cc
text_sound _ s (sound.array xs all) e = let h = as_string _ _ s (open_Arr xs) e in cc
text_sound _ s (sound.object ps all) e = let h = as_string _ _ s (open_Obj ps) e in cc

items_sound : (t : Json) (xs : List Json) → Sound t → t ≡ json.Arr xs → AllSound xs
items_sound _ xs sound.null e = let h = as_array _ _ xs open_Null e in cc
items_sound _ xs (sound.boolean b) e = let h = as_array _ _ xs (open_Bool b) e in cc
items_sound _ xs (sound.number n u) e = let h = as_array _ _ xs (open_Num n) e in cc
items_sound _ xs (sound.text r u) e = let h = as_array _ _ xs (open_Str r) e in cc
items_sound _ xs (sound.array ys all) e = subst AllSound (same_items ys xs (as_array _ _ xs (open_Arr ys) e)) all
items_sound _ xs (sound.object ps all) e = let h = as_array _ _ xs (open_Obj ps) e in cc

pairs_sound : (t : Json) (ps : List (List ℕ × Json)) → Sound t → t ≡ json.Obj ps → PairsSound ps
pairs_sound _ ps sound.null e = let h = as_object _ _ ps open_Null e in cc
pairs_sound _ ps (sound.boolean b) e = let h = as_object _ _ ps (open_Bool b) e in cc
pairs_sound _ ps (sound.number n u) e = let h = as_object _ _ ps (open_Num n) e in cc
pairs_sound _ ps (sound.text r u) e = let h = as_object _ _ ps (open_Str r) e in cc
pairs_sound _ ps (sound.array ys all) e = let h = as_object _ _ ps (open_Arr ys) e in cc
pairs_sound _ ps (sound.object qs all) e = subst PairsSound (same_pairs qs ps (as_object _ _ ps (open_Obj qs) e)) all

first_sound : (x : Json) (xs : List Json) → AllSound (x ∷ xs) → Sound x × AllSound xs
first_sound _ _ (sound.more x xs s all) = (s, all)

pair_sound : (p : List ℕ × Json) (ps : List (List ℕ × Json)) → PairsSound (p ∷ ps) → Sound p.1 × PairsSound ps
pair_sound _ _ (sound.pair key value ps u s all) = (s, all)

-- ---- texts

utf8_string : (v : Json) (o : Option (List ℕ)) → string v ≡ o → Sound v → IfSome o IsUtf8
utf8_string v None e s = tt
utf8_string v (Some text) e s = text_sound v text s (text_is v text e)

-- the text of a string
pub string_utf8 : (v : Json) → Sound v → IfSome (string v) IsUtf8
string_utf8 v s = utf8_string v (string v) refl s

or_empty : (o : Option (List ℕ)) → IfSome o IsUtf8 → IsUtf8 (unwrap_or o [])
or_empty None h = IsUtf8-nil
or_empty (Some s) h = h

texts_utf8 : (xs : List Json) → AllSound xs → AllByRecursion IsUtf8 (map text_of xs)
texts_utf8 [] all = tt
texts_utf8 (x ∷ xs) all = let h = first_sound x xs all in (or_empty (string x) (string_utf8 x h.0), texts_utf8 xs h.1)

sound_items : (t : Json) → Sound t → AllSound (items t)
sound_items t s =
    elim (cases_Bool (is_list t)) [
      | inl is ↦ items_sound t (items t) s (list_is t is)
      | inr no_list ↦ rw (no_items (out-Json t) no_list) sound.none
    ]

-- the texts of the items of a list
pub items_utf8 : (t : Json) → Sound t → AllByRecursion IsUtf8 (map text_of (items t))
items_utf8 t s = texts_utf8 (items t) (sound_items t s)

-- ---- values under keys

inner_pairs : (ps : List (List ℕ × Json)) → PairsKeyed ps → PairsSound ps → AllByRecursion (λ p. depth p.1 ≤ 99) ps → AllByRecursion (λ p. IsInner p.1) ps
inner_pairs [] k s w = tt
inner_pairs (p ∷ ps) k s w =
    let keys = pair_keyed p ps k in
    let sounds = pair_sound p ps s in
    let first : depth p.1 ≤ 99 = w.0 in
    let less : depth p.1 < 100 = omega (arith, first) in
    (record { keyed = keys.0; sound = sounds.0; within = less }, inner_pairs ps keys.1 sounds.1 w.1)

shallow : (ps : List (List ℕ × Json)) → depth (json.Obj ps) ≤ 100 → AllByRecursion (λ p. depth p.1 ≤ 99) ps
shallow ps h = let e = depth-Obj ps in pairs-all 99 ps (omega (arith, e, h))

inner_fields : (t : Json) → Keyed t → Sound t → depth t ≤ 100 → AllByRecursion (λ p. IsInner p.1) (fields t)
inner_fields t k s w =
    elim (cases_Bool (is_object t)) [
      | inl is ↦
          let same = object_is t is in
          inner_pairs (fields t) (pairs_keyed t (fields t) k same).0 (pairs_sound t (fields t) s same) (shallow (fields t) (subst (λ u. depth u ≤ 100) same w))
      | inr no_object ↦ rw (no_fields (out-Json t) no_object) tt
    ]

found : (key : List ℕ) (ps : List (List ℕ × Json)) → AllByRecursion (λ p. IsInner p.1) ps → IfSome (find key ps) IsInner
found key [] all = tt
found key (p ∷ ps) all =
    elim (cases_Bool (bytes_eq p.0 key)) [
      | inl t ↦ subst (λ o. IfSome o IsInner) (sym (cond-true (bytes_eq p.0 key) (Some p.1) (find key ps) t)) all.0
      | inr f ↦ subst (λ o. IfSome o IsInner) (sym (cond-false (bytes_eq p.0 key) (Some p.1) (find key ps) f)) (found key ps all.1)
    ]

-- the value under a key of a content
pub inner_field : (key : List ℕ) (t : Json) → Keyed t → Sound t → depth t ≤ 100 → IfSome (field t key) IsInner
inner_field key t k s w = found key (fields t) (inner_fields t k s w)
