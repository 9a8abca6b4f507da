-- How the table goes by places over keys.
use Rattle.std.proofs.Common.{◌≡◌, ◌≢◌, inl, inr, ◌+◌, ◌<◌, ℕ, zero, suc, List, [], ◌∷◌, length, map, set, replicate, Option, Some, None, IsSome, slice_get, arith, refl, sym, ◌∙◌, ap, subst}
use Rattle.std.proofs.lemmas.Bool.{cases_eq}
use Rattle.std.proofs.lemmas.Option.{same_Some, slice_get_within}
use Rattle.slab.specs.Slab.{Slab, get, Updates}
use Rattle.ready_loop.specs.declared.link.Link.{Link}
use Rattle.ready_loop.specs.Link.{fresh_link}
use Rattle.ready_loop.specs.Table.{link_or, link_in, links_of, AllHeld, AllApart}
use Rattle.jtext.proofs.Lists.{slice_get-set_same, slice_get-set_other}

map_get : (f : ℕ → Link) (keys : List ℕ) (p key : ℕ) → slice_get keys p ≡ Some key
    → slice_get (map f keys) p ≡ Some (f key)
map_get f [] p key e = cc
map_get f (x ∷ rest) zero key e = let k : x ≡ key = cc in ap (λ i. Some (f i)) k
map_get f (x ∷ rest) (suc p) key e = map_get f rest p key e

-- what stands under the key of a place
pub at_key : (slab : Slab Link) (keys : List ℕ) (p key : ℕ) (link : Link) → slice_get keys p ≡ Some key
    → get slab key ≡ Some link → slice_get (links_of slab keys) p ≡ Some link
at_key slab keys p key link at is = map_get (link_in slab) keys p key at ∙ ap (λ o. Some (link_or o)) is

-- ---- one link replaced

map_same : (f g : ℕ → Link) (keys : List ℕ) → ((p key : ℕ) → slice_get keys p ≡ Some key → g key ≡ f key)
    → map g keys ≡ map f keys
map_same f g [] same = refl
map_same f g (x ∷ rest) same =
    let first = same 0 x refl in
    let others = map_same f g rest (λ p key e. same (suc p) key e) in
    ap (λ l. l ∷ map g rest) first ∙ ap (λ ls. f x ∷ ls) others

map_set : (f g : ℕ → Link) (keys : List ℕ) (place : ℕ) (link : Link)
    → ((key : ℕ) → slice_get keys place ≡ Some key → g key ≡ link)
    → ((p key : ℕ) → p ≢ place → slice_get keys p ≡ Some key → g key ≡ f key) → map g keys ≡ set (map f keys) place link
map_set f g [] place link here others = refl
map_set f g (x ∷ rest) zero link here others =
    let first = here x refl in
    let same = map_same f g rest (λ p key e. others (suc p) key (λ z. cc) e) in
    ap (λ l. l ∷ map g rest) first ∙ ap (λ ls. link ∷ ls) same
map_set f g (x ∷ rest) (suc place) link here others =
    let first = others 0 x (λ z. cc) refl in
    let same = map_set f g rest place link here (λ p key ne e. others (suc p) key (λ z. ne (omega (arith, z))) e) in
    ap (λ l. l ∷ map g rest) first ∙ ap (λ ls. f x ∷ ls) same

pub put_key : (old new : Slab Link) (keys : List ℕ) (place key : ℕ) (link : Link) → length keys ≡ 64 → place < 64
    → AllApart 64 keys → slice_get keys place ≡ Some key
    → Updates old new key (Some link) → links_of new keys ≡ set (links_of old keys) place link
put_key old new keys place key link size low apart at up = map_set (link_in old) (link_in new) keys place link
    (λ k e. let same : key ≡ k = same_Some _ _ (sym at ∙ e) in subst (λ i. link_in new i ≡ link) same (ap link_or up.changed))
    (λ p k ne e. ap link_or (up.others k (λ same. ne (apart p place k (omega (arith, size, slice_get_within keys p _ e)) low e (at ∙ ap Some (sym same))))))

pub held_after : (old new : Slab Link) (keys : List ℕ) (key : ℕ) (link : Link) → Updates old new key (Some link)
    → AllHeld 64 old keys → AllHeld 64 new keys
held_after old new keys key link up held p k low e = elim (cases_eq k key) [
  | inl same ↦ subst (λ i. IsSome (get new i)) (sym same) (subst (λ o. IsSome o) (sym up.changed) refl)
  | inr ne ↦ subst (λ o. IsSome o) (sym (up.others k ne)) (held p k low e)
]

-- ---- a new table

-- a fresh connection stands under each key so far
abbrev pub AllFresh : ℕ → Slab Link → List ℕ → Type 0
AllFresh n slab keys = (p key : ℕ) → p < n → slice_get keys p ≡ Some key → get slab key ≡ Some fresh_link

pub fresh_more : (n : ℕ) (old new : Slab Link) (keys : List ℕ) (key : ℕ) → n < length keys
    → Updates old new key (Some fresh_link) → AllFresh n old keys → AllFresh (n + 1) new (set keys n key)
fresh_more n old new keys key lt up all p k low e = elim (cases_eq p n) [
  | inl same ↦
      let at : slice_get (set keys n key) n ≡ Some k = subst (λ i. slice_get (set keys n key) i ≡ Some k) same e in
      let is : key ≡ k = same_Some _ _ (sym (slice_get-set_same keys n key lt) ∙ at) in
      subst (λ i. get new i ≡ Some fresh_link) is up.changed
  | inr ne ↦
      let at : slice_get keys p ≡ Some k = sym (slice_get-set_other keys n p key ne) ∙ e in
      let was = all p k (omega arith) at in
      elim (cases_eq k key) [
        | inl same ↦ subst (λ i. get new i ≡ Some fresh_link) (sym same) up.changed
        | inr other ↦ up.others k other ∙ was
      ]
]

-- a key that had nothing is no key so far
pub apart_more : (n : ℕ) (old : Slab Link) (keys : List ℕ) (key : ℕ) → n < length keys → get old key ≡ None
    → AllFresh n old keys → AllApart n keys → AllApart (n + 1) (set keys n key)
apart_more n old keys key lt none fresh apart p q k lowp lowq ep eq =
    elim (cases_eq p n) [
      | inl pn ↦ elim (cases_eq q n) [
        | inl qn ↦ pn ∙ sym qn
        | inr nq ↦
            let is : key ≡ k = same_Some _ _ (sym (slice_get-set_same keys n key lt) ∙ subst (λ i. slice_get (set keys n key) i ≡ Some k) pn ep) in
            let at : slice_get keys q ≡ Some k = sym (slice_get-set_other keys n q key nq) ∙ eq in
            let some = fresh q k (omega arith) at in
            absurd (clash (ap (get old) is) none some)
      ]
      | inr np ↦
          let at : slice_get keys p ≡ Some k = sym (slice_get-set_other keys n p key np) ∙ ep in
          elim (cases_eq q n) [
            | inl qn ↦
                let is : key ≡ k = same_Some _ _ (sym (slice_get-set_same keys n key lt) ∙ subst (λ i. slice_get (set keys n key) i ≡ Some k) qn eq) in
                let some = fresh p k (omega arith) at in
                absurd (clash (ap (get old) is) none some)
            | inr nq ↦ apart p q k (omega arith) (omega arith) at (sym (slice_get-set_other keys n q key nq) ∙ eq)
          ]
    ]
  where
    clash : {a b : Option Link} → a ≡ b → a ≡ None → b ≡ Some fresh_link → ⊥
    clash e f g = cc

pub fresh_held : (slab : Slab Link) (keys : List ℕ) → AllFresh 64 slab keys → AllHeld 64 slab keys
fresh_held slab keys all p key low e = subst (λ o. IsSome o) (sym (all p key low e)) refl

map_fresh : (f : ℕ → Link) (keys : List ℕ) → ((p key : ℕ) → slice_get keys p ≡ Some key → f key ≡ fresh_link)
    → map f keys ≡ replicate (length keys) fresh_link
map_fresh f [] same = refl
map_fresh f (x ∷ rest) same =
    let first = same 0 x refl in
    let others = map_fresh f rest (λ p key e. same (suc p) key e) in
    ap (λ l. l ∷ map f rest) first ∙ ap (λ ls. fresh_link ∷ ls) others

pub fresh_links : (slab : Slab Link) (keys : List ℕ) → length keys ≡ 64 → AllFresh 64 slab keys
    → links_of slab keys ≡ replicate 64 fresh_link
fresh_links slab keys size all = map_fresh (link_in slab) keys (λ p key e. ap link_or (all p key (omega (arith, size, slice_get_within keys p _ e)) e)) ∙ ap (λ n. replicate n fresh_link) size
