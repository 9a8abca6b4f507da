-- A step through the whole table of connections.
use Rattle.std.proofs.Common.{◌≡◌, inl, inr, ◌+◌, ◌<◌, ℕ, Bool, List, set, Option, Some, None, IsSomeAnd, slice_get, arith, refl, sym, ◌∙◌, ap, subst}
use Rattle.std.proofs.lemmas.Bool.{cases_eq, cases_lt}
use Rattle.std.proofs.Math.ListN.{length-set}
use Rattle.std.proofs.lemmas.Option.{same_Some, slice_get_within, slice_get_past}
use Rattle.ready_loop.specs.declared.link.Link.{Link}
use Rattle.ready_loop.specs.States.{MapsTo, MapsBelow, begun_in, failed_in, known_in}
use Rattle.ready_loop.specs.Link.{is_begun, is_known}
use Rattle.jtext.proofs.Lists.{slice_get-set_same, slice_get-set_other, none_beyond, some_and, some_was}

pub and_as : {P Q : Link → Type 0} (o : Option Link) → ((x : Link) → P x → Q x) → IsSomeAnd o P → IsSomeAnd o Q
and_as None turns h = absurd h
and_as (Some x) turns h = turns x h

pub maps_none : (f : ℕ → Link → Link) (links : List Link) → MapsBelow 0 f links links
maps_none f links = record {
  size = refl;
  each = λ p link is. some_and (MapsTo 0 f p link) (slice_get links p) link is (record { below = λ lt. absurd (omega arith); above = λ le. refl });
}

-- one place more
pub maps_more : (n : ℕ) (f : ℕ → Link → Link) (old now : List Link) (here new : Link) → slice_get now n ≡ Some here
    → new ≡ f n here
    → MapsBelow n f old now → MapsBelow (n + 1) f old (set now n new)
maps_more n f old now here new found is r = record {
  size = length-set now n new ∙ r.size;
  each = λ p link at. elim (cases_eq p n) [
    | inl e ↦
        let at_n : slice_get (set now n new) n ≡ Some link = subst (λ i. slice_get (set now n new) i ≡ Some link) e at in
        let link_is : link ≡ new = same_Some _ _ (sym at_n ∙ slice_get-set_same now n new (slice_get_within now n _ found)) in
        subst (λ i. IsSomeAnd (slice_get old i) (MapsTo (n + 1) f i link)) (sym e)
        (and_as (slice_get old n) (λ was s. record {
          below = λ low. link_is ∙ is ∙ ap (f n) (s.above (omega arith));
          above = λ high. absurd (omega arith);
        }) (r.each n here found))
    | inr ne ↦
        let before : slice_get now p ≡ Some link = sym (slice_get-set_other now n p new ne) ∙ at in
        and_as (slice_get old p) (λ was s. record { below = λ low. s.below (omega arith); above = λ high. s.above (omega arith) }) (r.each p link before)
  ];
}

-- what stood at a place that the step has not reached
pub maps_here : (n : ℕ) (f : ℕ → Link → Link) (old now : List Link) (here : Link) → slice_get now n ≡ Some here
    → MapsBelow n f old now → slice_get old n ≡ Some here
maps_here n f old now here found r =
    let (was, at, s) = some_was (MapsTo n f n here) (slice_get old n) (r.each n here found) in
    at ∙ ap Some (sym (s.above (omega arith)))

-- the whole step, of a table of 64
pub maps_at : (f : ℕ → Link → Link) (old new : List Link) → MapsBelow 64 f old new → (p : ℕ) (link : Link) → p < 64
    → slice_get new p ≡ Some link
    → (was : Link) × (slice_get old p ≡ Some was) × (link ≡ f p was)
maps_at f old new r p link low found =
    let (was, at, s) = some_was (MapsTo 64 f p link) (slice_get old p) (r.each p link found) in
    (was, at, s.below low)

-- a step that leaves what is kept of each connection
pub maps_kept : (g : Option Link → Bool) (n : ℕ) (f : ℕ → Link → Link) (old new : List Link)
    → ((p : ℕ) (link : Link) → g (Some (f p link)) ≡ g (Some link)) → MapsBelow n f old new
    → (p : ℕ) → g (slice_get new p) ≡ g (slice_get old p)
maps_kept g n f old new same r p = at (slice_get new p) refl
  where
    at : (o : Option Link) → slice_get new p ≡ o → g (slice_get new p) ≡ g (slice_get old p)
    at None e = ap g e ∙ sym (ap g (slice_get_past old p (omega (arith, r.size, none_beyond new p e))))
    at (Some link) e =
        let (was, here, s) = some_was (MapsTo n f p link) (slice_get old p) (r.each p link e) in
        ap g e ∙ elim (cases_lt p n) [ inl lt ↦ ap (λ l. g (Some l)) (s.below lt) ∙ same p was | inr le ↦ ap (λ l. g (Some l)) (s.above le) ]
        ∙ sym (ap g here)

pub maps_failed : (n : ℕ) (f : ℕ → Link → Link) (old new : List Link)
    → ((p : ℕ) (link : Link) → (f p link).failed ≡ link.failed) → MapsBelow n f old new
    → (p : ℕ) → failed_in (slice_get new p) ≡ failed_in (slice_get old p)
maps_failed n f old new same r = maps_kept failed_in n f old new same r

pub maps_known : (n : ℕ) (f : ℕ → Link → Link) (old new : List Link)
    → ((p : ℕ) (link : Link) → (f p link).stage ≡ link.stage) → MapsBelow n f old new
    → (p : ℕ) → known_in (slice_get new p) ≡ known_in (slice_get old p)
maps_known n f old new same r = maps_kept known_in n f old new (λ p link. ap is_known (same p link)) r

pub maps_begun : (n : ℕ) (f : ℕ → Link → Link) (old new : List Link)
    → ((p : ℕ) (link : Link) → (f p link).stage ≡ link.stage) → MapsBelow n f old new
    → (p : ℕ) → begun_in (slice_get new p) ≡ begun_in (slice_get old p)
maps_begun n f old new same r = maps_kept begun_in n f old new (λ p link. ap is_begun (same p link)) r
