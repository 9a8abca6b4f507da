-- What was read stays so: with the data that are shown in the end, and with streams joined.
use Rattle.std.proofs.Common.{◌≡◌, ℕ, Bool, true, false, ◌&&◌, List, [], ◌∷◌, ◌++◌, Option, Some, None, refl}
use Rattle.std.specs.Prelude.{if◌then◌else◌, option_and_then}
use Rattle.std.specs.List.{AllByRecursion}
use Rattle.std.specs.Option.{option_or, option_map, option_map_or, IfSome}
use Rattle.std.specs.Str.{IsUtf8, bytes_eq}
use Rattle.std.proofs.lemmas.Str.{IsUtf8-append}
use Rattle.jtext.specs.declared.json.Json.TheVariants as json
use Rattle.jtext.specs.Bundle.{is_bundle}
use Rattle.jtext.specs.Look.{is_object}
use Rattle.jtext.proofs.Fronts.{all-append}
use Rattle.jcontent.specs.declared.content.Content.{Content}
use Rattle.jcontent.specs.declared.content.Content.TheVariants as content
use Rattle.jcontent.specs.declared.shown.Shown.{Shown}
use Rattle.jcontent.specs.IsRead.{IsInner, IsShown, IsCount, IsRead}
use Rattle.out_fold.specs.declared.latest.Data.{Data}
use Rattle.out_fold.specs.Live.{appends, stays}
use Rattle.out_fold.specs.Shown.{data_in, data_if, data_under, shows, latest, with_data, known_to, resolve, shown_output, outputs}
use Rattle.out_fold.specs.Joined.{text_of, fuse, joined_after, join}
use Rattle.out_fold.specs.Cells.{joined_where, count_in, last_count}

-- ---- data

-- data and metadata that were read
pub record IsReadData (d : Data) : Type 0 where
  pub bundle : is_bundle (json.Obj d.bundle) ≡ true
  pub values : IsInner (json.Obj d.bundle)
  pub object : is_object d.metadata ≡ true
  pub metadata : IsInner d.metadata

read_in : (s : Shown) → IsShown s → IsReadData (data_in s)
read_in s h = record { bundle = h.bundle; values = h.values; object = h.object; metadata = h.metadata }

read_if : (b : Bool) (s : Shown) → IsShown s → IfSome (data_if b s) IsReadData
read_if true s h = read_in s h
read_if false s h = tt

read_under : (id : List ℕ) (o : Option (List ℕ)) (s : Shown) → IsShown s → IfSome (data_under id o s) IsReadData
read_under id None s h = tt
read_under id (Some other) s h = read_if (bytes_eq other id) s h

read_shows : (id : List ℕ) (c : Content) → IsRead c → IfSome (shows id c) IsReadData
read_shows id (content.Display s) h = read_under id s.id s h
read_shows id (content.Update s) h = read_under id s.id s h.0
read_shows id (content.Outcome s count) h = read_under id s.id s h.0
read_shows id _ h = tt

read_or : (o p : Option Data) → IfSome o IsReadData → IfSome p IsReadData → IfSome (option_or o p) IsReadData
read_or None p a b = b
read_or (Some d) p a b = a

read_latest : (id : List ℕ) (before : Option Data) (cs : List Content) → IfSome before IsReadData → AllByRecursion IsRead cs → IfSome (latest id before cs) IsReadData
read_latest id before [] h all = h
read_latest id before (c ∷ rest) h all = read_latest id (option_or (shows id c) before) rest (read_or (shows id c) before (read_shows id c all.0) h) all.1

-- ---- outputs

-- an output that was read
abbrev pub IsReadOutput : Content → Type 0
IsReadOutput c = IsRead c × (appends c ≡ true)

read_with : (s : Shown) (o : Option Data) → IsShown s → IfSome o IsReadData → IsShown (with_data s o)
read_with s None h d = h
read_with s (Some new) h d = record { bundle = d.bundle; values = d.values; object = d.object; metadata = d.metadata; id = h.id }

known_read : (known : List ℕ → Option Data) → ((id : List ℕ) → IfSome (known id) IsReadData) → (o : Option (List ℕ)) → IfSome (option_and_then known o) IsReadData
known_read known all None = tt
known_read known all (Some id) = all id

module _ (known : List ℕ → Option Data) (all : (id : List ℕ) → IfSome (known id) IsReadData) where
  read_known : (s : Shown) → IsShown s → IsShown (known_to known s)
  read_known s h = read_with s (option_and_then known s.id) h (known_read known all s.id)

  read_resolved : (c : Content) → IsRead c → appends c ≡ true → IsReadOutput (resolve known c)
  read_resolved (content.Display s) h e = (read_known s h, refl)
  read_resolved (content.Outcome s count) h e = ((read_known s h.0, h.1), refl)
  read_resolved (content.Stream name text) h e = (h, refl)
  read_resolved (content.Error ename evalue traceback) h e = (h, refl)
  read_resolved _ h e = (h, e)

read_shown : (c : Content) (after : List Content) → IsRead c → appends c ≡ true → AllByRecursion IsRead after → IsReadOutput (shown_output c after)
read_shown c after h e all = read_resolved (λ id. latest id None after) (λ id. read_latest id None after tt all) c h e

listed : (b : Bool) (x : Content) (xs : List Content) → (b ≡ true → IsReadOutput x) → AllByRecursion IsReadOutput xs → AllByRecursion IsReadOutput (if b then x ∷ xs else xs)
listed true x xs h all = (h refl, all)
listed false x xs h all = all

first_part : (a b : Bool) → (a && b) ≡ true → a ≡ true
first_part true b e = refl
first_part false b e = e

read_outputs : (cs later : List Content) → AllByRecursion IsRead cs → AllByRecursion IsRead later → AllByRecursion IsReadOutput (outputs cs later)
read_outputs [] later a b = tt
read_outputs (c ∷ rest) later a b =
    listed (appends c && stays rest) (shown_output c (rest ++ later)) (outputs rest later)
    (λ e. read_shown c (rest ++ later) a.0 (first_part (appends c) (stays rest) e) (all-append IsRead rest later a.1 b))
    (read_outputs rest later a.1 b)

-- ---- joined

read_fused_text : (b : Bool) (name text more : List ℕ) → IsUtf8 name → IsUtf8 text → IsUtf8 more
    → IfSome (option_map (λ m. content.Stream name (text ++ m)) (if b then Some more else None)) IsReadOutput
read_fused_text true name text more n t m = ((n, IsUtf8-append text more t m), refl)
read_fused_text false name text more n t m = tt

read_stream : (name text : List ℕ) (next : Content) → IsUtf8 name → IsUtf8 text → IsRead next
    → IfSome (option_map (λ m. content.Stream name (text ++ m)) (text_of name next)) IsReadOutput
read_stream name text (content.Stream other more) n t h = read_fused_text (bytes_eq other name) name text more n t h.1
read_stream name text _ n t h = tt

read_fused : (c next : Content) → IsReadOutput c → IsReadOutput next → IfSome (fuse c next) IsReadOutput
read_fused (content.Stream name text) next a b = read_stream name text next a.0.0 a.0.1 b.0
read_fused _ next a b = tt

either : (f : Content → List Content) (o : Option Content) (d : List Content) → IfSome o IsReadOutput
    → ((x : Content) → IsReadOutput x → AllByRecursion IsReadOutput (f x)) → AllByRecursion IsReadOutput d → AllByRecursion IsReadOutput (option_map_or f o d)
either f None d h each other = other
either f (Some x) d h each other = each x h

read_after : (c : Content) (rest : List Content) → IsReadOutput c → AllByRecursion IsReadOutput rest → AllByRecursion IsReadOutput (joined_after c rest)
read_after c [] h all = (h, tt)
read_after c (next ∷ rest) h all =
    either (λ one. joined_after one rest) (fuse c next) (c ∷ joined_after next rest) (read_fused c next h all.0)
    (λ one is. read_after one rest is all.1) (h, read_after next rest all.0 all.1)

read_joined : (cs : List Content) → AllByRecursion IsReadOutput cs → AllByRecursion IsReadOutput (join cs)
read_joined [] all = tt
read_joined (c ∷ rest) all = read_after c rest all.0 all.1

-- the outputs of a request, joined where that is asked for
pub read_joined_where : (merge : Bool) (cs later : List Content) → AllByRecursion IsRead cs → AllByRecursion IsRead later → AllByRecursion IsReadOutput (joined_where merge (outputs cs later))
read_joined_where true cs later a b = read_joined (outputs cs later) (read_outputs cs later a b)
read_joined_where false cs later a b = read_outputs cs later a b

-- ---- counts

read_told : (c : Content) → IsRead c → IsCount (count_in c)
read_told (content.Input count) h = h
read_told (content.Outcome s count) h = h.1
read_told _ h = refl

count_or : (o p : Option (List ℕ)) → IsCount o → IsCount p → IsCount (option_or o p)
count_or None p a b = b
count_or (Some s) p a b = a

pub read_count : (before : Option (List ℕ)) (cs : List Content) → IsCount before → AllByRecursion IsRead cs → IsCount (last_count before cs)
read_count before [] h all = h
read_count before (c ∷ rest) h all = read_count (option_or (count_in c) before) rest (count_or (count_in c) before (read_told c all.0) h) all.1

-- ---- requests

pub parts : {A : Type 0} (P : A → Type 0) (xs ys : List A) → AllByRecursion P (xs ++ ys) → AllByRecursion P xs × AllByRecursion P ys
parts P [] ys all = (tt, all)
parts P (x ∷ xs) ys all = let h = parts P xs ys all.1 in ((all.0, h.0), h.1)
