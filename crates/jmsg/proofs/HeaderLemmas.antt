-- Lemmas on the dictionary of a header.
use Rattle.std.proofs.Common.{◌≡◌, ℕ, ◌≤◌, ◌<◌, zero, suc, nat_lt, get_or, lit<, true, List, [], ◌∷◌, codes, Option, Some, None, refl, ◌∙◌, ap, arith}
use Rattle.std.specs.List.{AllByRecursion, list_all}
use Rattle.std.specs.Option.{IfSome, unwrap_or}
use Rattle.std.specs.Prelude.{option_and_then}
use Rattle.std.specs.Str.{IsUtf8}
use Rattle.std.proofs.lemmas.Bool.{and_parts, ltb-true}
use Rattle.std.proofs.lemmas.Str.{IsUtf8-from_ascii}
use Rattle.jtext.proofs.Equals.{apart_bytes}
use Rattle.jtext.specs.Depth.{depth}
use Rattle.jtext.specs.Find.{find, fields_of}
use Rattle.jtext.proofs.Depths.{depth-Obj, depth-Str, pairs-le}
use Rattle.jtext.specs.Grammar.{Distinct}
use Rattle.jtext.specs.Keyed as keyed
use Rattle.jtext.specs.Keyed.{PairsKeyed}
use Rattle.jtext.specs.Sound as sound
use Rattle.jtext.specs.Sound.{PairsSound}
use Rattle.jtext.specs.declared.json.Json.{Json}
use Rattle.jtext.specs.declared.json.Json.TheVariants as json
use Rattle.jtext.specs.Look.{is_object_layer, string, string_at, string_layer}
use Rattle.jtext.proofs.Trees.{open_Obj, open_Str}
use Rattle.jmsg.specs.Header.{text_pair, pairs_of, tree_of, header_of, header_named, header_typed}
use Rattle.jmsg.specs.Encoded.{AreTexts, IsSendableTree}
use Rattle.jmsg.specs.declared.header.Header.{Header}

abbrev header : List ℕ → List ℕ → List ℕ → Option (List ℕ) → List ℕ → List ℕ → Header
header i s u d t v = record { msg_id = i; session = s; username = u; date = d; msg_type = t; version = v }

-- ---- what is read is what was written

at : (ps : List (List ℕ × Json)) (key s : List ℕ) → find key ps ≡ Some (json.Str s) → string_at (json.Obj ps) key ≡ Some s
at ps key s found = ap (λ r. (option_and_then string) (find key (fields_of r))) (open_Obj ps) ∙ ap (option_and_then string) found ∙ ap string_layer (open_Str s)

none_at : (ps : List (List ℕ × Json)) (key : List ℕ) → find key ps ≡ None → string_at (json.Obj ps) key ≡ None
none_at ps key found = ap (λ r. (option_and_then string) (find key (fields_of r))) (open_Obj ps) ∙ ap (option_and_then string) found

abbrev with_texts : List ℕ → List ℕ → Option (List ℕ) → Option (List ℕ) → Option (List ℕ) → Option (List ℕ) → Option Header
with_texts i t s u d v = Some (header i (unwrap_or s []) (unwrap_or u []) d t (unwrap_or v []))

read_by : (j : Json) (i t : List ℕ) (s u d v : Option (List ℕ)) → string_at j (codes "msg_id") ≡ Some i → string_at j (codes "msg_type") ≡ Some t → string_at j (codes "session") ≡ s
    → string_at j (codes "username") ≡ u → string_at j (codes "date") ≡ d → string_at j (codes "version") ≡ v → header_of j ≡ with_texts i t s u d v
read_by j i t s u d v ei et es eu ed ev =
    ap (header_named j) ei ∙ ap (header_typed j i) et
    ∙ ap (λ x. with_texts i t x (string_at j (codes "username")) (string_at j (codes "date")) (string_at j (codes "version"))) es
    ∙ ap (λ x. with_texts i t s x (string_at j (codes "date")) (string_at j (codes "version"))) eu
    ∙ ap (λ x. with_texts i t s u x (string_at j (codes "version"))) ed
    ∙ ap (λ x. with_texts i t s u d x) ev

read_again : (i s u : List ℕ) (d : Option (List ℕ)) (t v : List ℕ) → header_of (tree_of (header i s u d t v)) ≡ Some (header i s u d t v)
read_again i s u None t v =
    let ps = pairs_of (header i s u None t v) in
    read_by (json.Obj ps) i t (Some s) (Some u) None (Some v) (at ps _ i refl) (at ps _ t refl) (at ps _ s refl) (at ps _ u refl) (none_at ps _ refl) (at ps _ v refl)
read_again i s u (Some d) t v =
    let ps = pairs_of (header i s u (Some d) t v) in
    read_by (json.Obj ps) i t (Some s) (Some u) (Some d) (Some v) (at ps _ i refl) (at ps _ t refl) (at ps _ s refl) (at ps _ u refl) (at ps _ d refl) (at ps _ v refl)

pub header_again : (h : Header) → header_of (tree_of h) ≡ Some h
header_again h = read_again h.msg_id h.session h.username h.date h.msg_type h.version

-- ---- it is nested one level deep

at_most : (s : List ℕ) → depth (json.Str s) ≤ 99
at_most s = omega (arith, depth-Str s)

flat : (ps : List (List ℕ × Json)) → AllByRecursion (λ p. depth p.1 ≤ 99) ps → depth (json.Obj ps) ≤ 100
flat ps all = omega (arith, depth-Obj ps, pairs-le 99 ps all)

pairs_flat : (i s u : List ℕ) (d : Option (List ℕ)) (t v : List ℕ) → AllByRecursion (λ p. depth p.1 ≤ 99) (pairs_of (header i s u d t v))
pairs_flat i s u None t v = (at_most i, (at_most s, (at_most u, (at_most t, (at_most v, tt)))))
pairs_flat i s u (Some d) t v = (at_most i, (at_most s, (at_most u, (at_most d, (at_most t, (at_most v, tt))))))

-- ---- its keys are distinct

distinct : (i s u : List ℕ) (d : Option (List ℕ)) (t v : List ℕ) → Distinct (pairs_of (header i s u d t v))
distinct i s u None t v = ((apart_bytes _ _ refl, (apart_bytes _ _ refl, (apart_bytes _ _ refl, (apart_bytes _ _ refl, tt)))), ((apart_bytes _ _ refl, (apart_bytes _ _ refl, (apart_bytes _ _ refl, tt))), ((apart_bytes _ _ refl, (apart_bytes _ _ refl, tt)), ((apart_bytes _ _ refl, tt), (tt, tt)))))
distinct i s u (Some d) t v = ((apart_bytes _ _ refl, (apart_bytes _ _ refl, (apart_bytes _ _ refl, (apart_bytes _ _ refl, (apart_bytes _ _ refl, tt))))), ((apart_bytes _ _ refl, (apart_bytes _ _ refl, (apart_bytes _ _ refl, (apart_bytes _ _ refl, tt)))), ((apart_bytes _ _ refl, (apart_bytes _ _ refl, (apart_bytes _ _ refl, tt))), ((apart_bytes _ _ refl, (apart_bytes _ _ refl, tt)), ((apart_bytes _ _ refl, tt), (tt, tt))))))

keyed_text : (key text : List ℕ) (ps : List (List ℕ × Json)) → PairsKeyed ps → PairsKeyed (text_pair key text ∷ ps)
keyed_text key text ps rest = keyed.pair key (json.Str text) ps (keyed.text text) rest

pairs_keyed : (i s u : List ℕ) (d : Option (List ℕ)) (t v : List ℕ) → PairsKeyed (pairs_of (header i s u d t v))
pairs_keyed i s u None t v = keyed_text _ i _ (keyed_text _ s _ (keyed_text _ u _ (keyed_text _ t _ (keyed_text _ v _ (keyed.no_pairs)))))
pairs_keyed i s u (Some d) t v = keyed_text _ i _ (keyed_text _ s _ (keyed_text _ u _ (keyed_text _ d _ (keyed_text _ t _ (keyed_text _ v _ (keyed.no_pairs))))))

-- ---- its texts are UTF-8

all_below : (b : List ℕ) → list_all (λ c. nat_lt c 128) b ≡ true → (i : ℕ) → get_or b i 0 < 128
all_below [] h i = lit< tt
all_below (c ∷ cs) h zero = ltb-true c 128 (and_parts (nat_lt c 128) (list_all (λ d. nat_lt d 128) cs) h).0
all_below (c ∷ cs) h (suc i) = all_below cs (and_parts (nat_lt c 128) (list_all (λ d. nat_lt d 128) cs) h).1 i

sound_text : (key text : List ℕ) (ps : List (List ℕ × Json)) → list_all (λ c. nat_lt c 128) key ≡ true → IsUtf8 text → PairsSound ps → PairsSound (text_pair key text ∷ ps)
sound_text key text ps k is rest = sound.pair key (json.Str text) ps (IsUtf8-from_ascii key (all_below key k)) (sound.text text is) rest

pairs_sound : (i s u : List ℕ) (d : Option (List ℕ)) (t v : List ℕ) → IsUtf8 i → IsUtf8 s → IsUtf8 u → IfSome d IsUtf8 → IsUtf8 t → IsUtf8 v → PairsSound (pairs_of (header i s u d t v))
pairs_sound i s u None t v ui us uu ud ut uv = sound_text (codes "msg_id") i _ refl ui (sound_text (codes "session") s _ refl us (sound_text (codes "username") u _ refl uu (sound_text (codes "msg_type") t _ refl ut (sound_text (codes "version") v _ refl uv (sound.no_pairs)))))
pairs_sound i s u (Some d) t v ui us uu ud ut uv = sound_text (codes "msg_id") i _ refl ui (sound_text (codes "session") s _ refl us (sound_text (codes "username") u _ refl uu (sound_text (codes "date") d _ refl ud (sound_text (codes "msg_type") t _ refl ut (sound_text (codes "version") v _ refl uv (sound.no_pairs))))))

pub header_sendable : (h : Header) → AreTexts h → IsSendableTree (tree_of h)
header_sendable h a = record {
  object = ap is_object_layer (open_Obj (pairs_of h));
  keyed = keyed.object (pairs_of h) (pairs_keyed h.msg_id h.session h.username h.date h.msg_type h.version) (distinct h.msg_id h.session h.username h.date h.msg_type h.version);
  nests = flat (pairs_of h) (pairs_flat h.msg_id h.session h.username h.date h.msg_type h.version);
  sound = sound.object (pairs_of h) (pairs_sound h.msg_id h.session h.username h.date h.msg_type h.version a.msg_id a.session a.username a.date a.msg_type a.version);
}
