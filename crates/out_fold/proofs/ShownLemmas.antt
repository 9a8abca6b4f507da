-- What an output shows in the end is what is known of its display id.
use Rattle.std.proofs.Common.{◌≡◌, ℕ, Bool, true, false, cond, ◌&&◌, List, [], ◌∷◌, ◌++◌, map, Option, Some, None, refl, sym, ◌∙◌, ap}
use Rattle.std.specs.Option.{option_or}
use Rattle.std.specs.Str.{bytes_eq}
use Rattle.jtext.specs.declared.json.Json.{Json}
use Rattle.jtext.specs.declared.json.Json.TheVariants as json
use Rattle.jtext.proofs.Equals.{same_bytes}
use Rattle.jcontent.specs.declared.content.Content.{Content}
use Rattle.jcontent.specs.declared.content.Content.TheVariants as content
use Rattle.jcontent.specs.declared.shown.Shown.{Shown}
use Rattle.out_fold.specs.declared.latest.Data.{Data}
use Rattle.out_fold.specs.Live.{appends, stays, live}
use Rattle.out_fold.specs.Shown.{data_in, data_if, shows, latest, with_data, known_to, resolve, shown_output, outputs}
use Rattle.out_fold.specs.Held.{without_data, held_output}

-- ---- the last one

pub latest-snoc : (id : List ℕ) (before : Option Data) (xs : List Content) (c : Content) → latest id before (xs ++ c ∷ []) ≡ option_or (shows id c) (latest id before xs)
latest-snoc id before [] c = refl
latest-snoc id before (x ∷ xs) c = latest-snoc id (option_or (shows id x) before) xs c

or_through : (a b c : Option Data) → option_or a (option_or b c) ≡ option_or (option_or a (option_or b None)) c
or_through (Some x) b c = refl
or_through None (Some y) c = refl
or_through None None c = refl

pub latest-or : (id : List ℕ) (before : Option Data) (xs : List Content) → latest id before xs ≡ option_or (latest id None xs) before
latest-or id before [] = refl
latest-or id before (x ∷ xs) =
    latest-or id (option_or (shows id x) before) xs
    ∙ or_through (latest id None xs) (shows id x) before
    ∙ ap (λ o. option_or o before) (sym (latest-or id (option_or (shows id x) None) xs))

or_more : (l b a : Option Data) (d : Data) → option_or l b ≡ Some d → option_or l (option_or b a) ≡ Some d
or_more (Some x) b a d e = e
or_more None (Some y) a d e = e
or_more None None a d e = cc

-- what is found over less is found over more
pub latest-more : (id : List ℕ) (b a : Option Data) (xs : List Content) (d : Data) → latest id b xs ≡ Some d → latest id (option_or b a) xs ≡ Some d
latest-more id b a xs d e =
    latest-or id (option_or b a) xs ∙ or_more (latest id None xs) b a d (sym (latest-or id b xs) ∙ e)

-- ---- one output

-- what is known holds what is shown after these
abbrev Knows : (List ℕ → Option Data) → (List ℕ → Option Data) → List Content → Type 0
Knows known before after = (id : List ℕ) (d : Data) → latest id (before id) after ≡ Some d → known id ≡ Some d

by_data : (known : List ℕ → Option Data) (b : List (List ℕ × Json)) (m : Json) (id : List ℕ) (l : Option Data)
    → ((d : Data) → option_or l (Some (record { bundle = b; metadata = m })) ≡ Some d → known id ≡ Some d)
    → with_data (record { bundle = []; metadata = json.Null; id = Some id }) (known id) ≡ with_data (record { bundle = b; metadata = m; id = Some id }) l
by_data known b m id (Some d) h = rw (h d refl) refl
by_data known b m id None h = rw (h (record { bundle = b; metadata = m }) refl) refl

data_if-same : (id : List ℕ) (s : Shown) → data_if (bytes_eq id id) s ≡ Some (data_in s)
data_if-same id s = rw (same_bytes id) refl

shown-held : (known : List ℕ → Option Data) (b : List (List ℕ × Json)) (m : Json) (i : Option (List ℕ)) (after : List Content)
    → ((id : List ℕ) (d : Data) → latest id (shows id (content.Display (record { bundle = b; metadata = m; id = i }))) after ≡ Some d → known id ≡ Some d)
    → known_to known (without_data i (record { bundle = b; metadata = m; id = i })) ≡ known_to (λ id. latest id None after) (record { bundle = b; metadata = m; id = i })
shown-held known b m None after h = refl
shown-held known b m (Some id) after h =
    by_data known b m id (latest id None after)
    (λ d e. h id d (latest-or id (data_if (bytes_eq id id) (record { bundle = b; metadata = m; id = Some id })) after
    ∙ ap (λ o. option_or (latest id None after) o) (data_if-same id (record { bundle = b; metadata = m; id = Some id })) ∙ e))

pub resolved-held : (known : List ℕ → Option Data) (c : Content) (after : List Content) → Knows known (λ id. shows id c) after → resolve known (held_output c) ≡ shown_output c after
resolved-held known (content.Display s) after h = ap (λ x. content.Display x) (shown-held known s.bundle s.metadata s.id after h)
resolved-held known (content.Outcome s count) after h = ap (λ x. content.Outcome x count) (shown-held known s.bundle s.metadata s.id after h)
resolved-held known _ after h = refl

-- ---- all of them

some_of : (known : List ℕ → Option Data) (c : Content) (rest later : List Content) (b : Bool) (ls os : List Content)
    → resolve known (held_output c) ≡ shown_output c (rest ++ later) → os ≡ map (resolve known) (map held_output ls)
    → cond b (shown_output c (rest ++ later) ∷ os) os ≡ map (resolve known) (map held_output (cond b (c ∷ ls) ls))
some_of known c rest later true ls os e f = cc
some_of known c rest later false ls os e f = f

pub outputs-held : (known before : List ℕ → Option Data) (own later : List Content) → Knows known before (own ++ later)
    → outputs own later ≡ map (resolve known) (map held_output (live own))
outputs-held known before [] later h = refl
outputs-held known before (c ∷ rest) later h =
    some_of known c rest later (appends c && stays rest) (live rest) (outputs rest later)
    (resolved-held known c (rest ++ later) (λ id d e. h id d (latest-more id (shows id c) (before id) (rest ++ later) d e)))
    (outputs-held known (λ id. option_or (shows id c) (before id)) rest later h)
