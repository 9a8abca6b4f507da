-- How the table of connections stands on a slab: each of the 64 places has a key of its own, which is never given back.
use Rattle.std.specs.Prelude.{◌≡◌, ◌<◌, ℕ, List, map, Option, Some, None, IsSome, slice_get}
use Rattle.slab.specs.Slab.{Slab, get}
use Rattle.ready_loop.specs.declared.link.Link.{Link}
use Rattle.ready_loop.specs.Link.{fresh_link, IsSteady}

-- what is kept of a connection, where something is
abbrev pub link_or : Option Link → Link
link_or None = fresh_link
link_or (Some link) = link

-- what stands under a key
abbrev pub link_in : Slab Link → ℕ → Link
link_in slab key = link_or (get slab key)

-- the table, by places
abbrev pub links_of : Slab Link → List ℕ → List Link
links_of slab keys = map (link_in slab) keys

-- a connection stands under each key
abbrev pub AllHeld : ℕ → Slab Link → List ℕ → Type 0
AllHeld n slab keys = (p key : ℕ) → p < n → slice_get keys p ≡ Some key → IsSome (get slab key)

-- no two places have one key
abbrev pub AllApart : ℕ → List ℕ → Type 0
AllApart n keys = (p q key : ℕ) → p < n → q < n → slice_get keys p ≡ Some key → slice_get keys q ≡ Some key → p ≡ q

-- each connection that is to be begun again was begun
abbrev pub AllSteady : List Link → Type 0
AllSteady links = (p : ℕ) (link : Link) → slice_get links p ≡ Some link → IsSteady link
