-- Files in memory, by their paths.
use Rattle.std.proofs.Common.{
  ◌≡◌,
  ℕ,
  suc,
  zero,
  ◌<◌,
  ◌∙◌,
  sym,
  ap,
  subst,
  List,
  [],
  ◌∷◌,
  ◌++◌,
  length,
  get_or,
  slice_set,
  Bool,
  true,
  false,
  Option,
  Some,
  None,
  is_some,
  option_map,
  refl,
  arith,
}
use Rattle.std.specs.Prelude.{if◌then◌else◌}
use Rattle.std.specs.List.{remove}
use Rattle.std.specs.Str.{bytes_eq}
use Rattle.std.proofs.lemmas.Bool.{false≢true, cond-true, cond-false}
use Rattle.world_mem.specs.Folder.{Content, file_at, has_file, Sets, Moves, Passed, IsFirst}
use Rattle.jtext.proofs.Equals.{equal_bytes, same_bytes, turned_bytes}

-- ---- tests of paths

apart : (a path other : List ℕ) → bytes_eq a path ≡ false → bytes_eq a other ≡ true → bytes_eq path other ≡ false
apart a path other miss hit = turned_bytes path other ∙ ap (λ x. bytes_eq x path) (sym (equal_bytes a other hit)) ∙ miss

swap : {A : Type 0} (a b : Bool) (x y z : A) → (a ≡ true → b ≡ false)
    → (if a then x else (if b then y else z)) ≡ (if b then y else (if a then x else z))
swap true true x y z never = absurd (false≢true (sym (never refl)))
swap true false x y z never = refl
swap false b x y z never = refl

again : {A : Type 0} (b : Bool) (x y z : A) → (if b then x else z) ≡ (if b then x else (if b then y else z))
again true x y z = refl
again false x y z = refl

-- ---- the first file at a path

pub passed_more : (path : List ℕ) (files : Content) (i : ℕ) (x : List ℕ × List ℕ) → i < length files
    → x ≡ get_or files i x → bytes_eq x.0 path ≡ false → Passed path files i → Passed path files (suc i)
passed_more path [] i x below is miss p = absurd (omega arith)
passed_more path (f ∷ fs) zero x below is miss p = (subst (λ (y : List ℕ × List ℕ). bytes_eq y.0 path ≡ false) is miss, tt)
passed_more path (f ∷ fs) (suc i) x below is miss p = (p.0, passed_more path fs i x (omega arith) is miss p.1)

pub passed_all : (path : List ℕ) (files : Content) → Passed path files (length files) → file_at path files ≡ None
passed_all path [] p = refl
passed_all path (f ∷ fs) p = cond-false (bytes_eq f.0 path) _ _ p.0 ∙ passed_all path fs p.1

pub first_found : (path : List ℕ) (files : Content) (i : ℕ) (x : List ℕ × List ℕ) → i < length files
    → x ≡ get_or files i x → bytes_eq x.0 path ≡ true → Passed path files i → IsFirst path files i
first_found path [] i x below is hit p = absurd (omega arith)
first_found path (f ∷ fs) zero x below is hit p = subst (λ (y : List ℕ × List ℕ). bytes_eq y.0 path ≡ true) is hit
first_found path (f ∷ fs) (suc i) x below is hit p = (p.0, first_found path fs i x (omega arith) is hit p.1)

pub first_below : (path : List ℕ) (files : Content) (i : ℕ) → IsFirst path files i → i < length files
first_below path [] i first = absurd first
first_below path (f ∷ fs) zero first = omega arith
first_below path (f ∷ fs) (suc i) first = let h : i < length fs = first_below path fs i first.1 in omega arith

pub first_at : (path : List ℕ) (files : Content) (i : ℕ) (x : List ℕ × List ℕ) → IsFirst path files i
    → x ≡ get_or files i x → file_at path files ≡ Some x.1
first_at path [] i x first is = absurd first
first_at path (f ∷ fs) zero x first is = cond-true (bytes_eq f.0 path) _ _ first ∙ ap (λ (y : List ℕ × List ℕ). Some y.1) (sym is)
first_at path (f ∷ fs) (suc i) x first is = cond-false (bytes_eq f.0 path) _ _ first.0 ∙ first_at path fs i x first.1 is

pub has_first : (path : List ℕ) (files : Content) (i : ℕ) → IsFirst path files i → has_file path files ≡ true
has_first path [] i first = absurd first
has_first path (f ∷ fs) zero first = ap is_some (cond-true (bytes_eq f.0 path) _ _ first)
has_first path (f ∷ fs) (suc i) first = ap is_some (cond-false (bytes_eq f.0 path) _ _ first.0) ∙ has_first path fs i first.1

-- a file that gets its own bytes
pub set_same : (files : Content) (i : ℕ) (x : List ℕ × List ℕ) (bytes : List ℕ) → x ≡ get_or files i x → bytes ≡ x.1
    → slice_set files i (x.0, bytes) ≡ files
set_same [] i x bytes is e = refl
set_same (f ∷ fs) zero x bytes is e = ap (λ b. (x.0, b) ∷ fs) e ∙ ap (λ y. y ∷ fs) is
set_same (f ∷ fs) (suc i) x bytes is e = ap (λ rest. f ∷ rest) (set_same fs i x bytes is e)

-- ---- changes

cons_sets : (path : List ℕ) (f : List ℕ × List ℕ) (fs gs : Content) (bytes : Option (List ℕ))
    → bytes_eq f.0 path ≡ false → Sets fs gs path bytes → Sets (f ∷ fs) (f ∷ gs) path bytes
cons_sets path f fs gs bytes miss sets other =
    ap (λ rest. if bytes_eq f.0 other then Some f.1 else rest) (sets other)
    ∙ swap (bytes_eq f.0 other) (bytes_eq path other) (Some f.1) bytes (file_at other fs) (apart f.0 path other miss)

-- other bytes for the first file at a path
pub sets_first : (path : List ℕ) (files : Content) (i : ℕ) (x : List ℕ × List ℕ) (bytes : List ℕ)
    → IsFirst path files i → x ≡ get_or files i x
    → Sets files (slice_set files i (x.0, bytes)) path (Some bytes)
sets_first path [] i x bytes first is other = absurd first
sets_first path (f ∷ fs) zero x bytes first is other =
    let at : f.0 ≡ path = equal_bytes f.0 path first in
    let named : x.0 ≡ path = ap (λ (y : List ℕ × List ℕ). y.0) is ∙ at in
    ap (λ name. if bytes_eq name other then Some bytes else file_at other fs) named
    ∙ again (bytes_eq path other) (Some bytes) (Some f.1) (file_at other fs)
    ∙ ap (λ name. if bytes_eq path other then Some bytes else (if bytes_eq name other then Some f.1 else file_at other fs)) (sym at)
sets_first path (f ∷ fs) (suc i) x bytes first is other =
    cons_sets path f fs (slice_set fs i (x.0, bytes)) (Some bytes) first.0 (sets_first path fs i x bytes first.1 is) other

some_is_not : {A : Type 0} (b : Bool) (x : A) (rest : Option A) → (if b then Some x else rest) ≡ None
    → (b ≡ false) × (rest ≡ None)
some_is_not true x rest e = cc
some_is_not false x rest e = (refl, e)

-- a new file
pub sets_new : (path : List ℕ) (files : Content) (bytes : List ℕ) → file_at path files ≡ None
    → Sets files (files ++ (path, bytes) ∷ []) path (Some bytes)
sets_new path [] bytes none other = refl
sets_new path (f ∷ fs) bytes none other =
    let both : (bytes_eq f.0 path ≡ false) × (file_at path fs ≡ None) = some_is_not (bytes_eq f.0 path) f.1 (file_at path fs) none in
    cons_sets path f fs (fs ++ (path, bytes) ∷ []) (Some bytes) both.0 (sets_new path fs bytes both.1) other

-- a file less at a path changes miss other
pub spared_without : (path other : List ℕ) (files : Content) (i : ℕ) → IsFirst path files i
    → bytes_eq path other ≡ false → file_at other (remove files i) ≡ file_at other files
spared_without path other [] i first miss = absurd first
spared_without path other (f ∷ fs) zero first miss =
    sym (cond-false (bytes_eq f.0 other) _ _ (subst (λ name. bytes_eq name other ≡ false) (sym (equal_bytes f.0 path first)) miss))
spared_without path other (f ∷ fs) (suc i) first miss =
    ap (λ rest. if bytes_eq f.0 other then Some f.1 else rest) (spared_without path other fs i first.1 miss)

by_test : {A : Type 0} (b : Bool) (x y z : A) → (b ≡ true → x ≡ y) → (b ≡ false → x ≡ z) → x ≡ (if b then y else z)
by_test true x y z at_true at_false = at_true refl
by_test false x y z at_true at_false = at_false refl

-- none is left at a path, and miss other was changed
pub sets_none : (path : List ℕ) (old new : Content) → file_at path new ≡ None
    → ((other : List ℕ) → bytes_eq path other ≡ false → file_at other new ≡ file_at other old)
    → Sets old new path None
sets_none path old new none same other =
    by_test (bytes_eq path other) _ _ _ (λ hit. subst (λ name. file_at name new ≡ None) (equal_bytes path other hit) none) (same other)

-- another name for the first file at a path, where there is none at the new name
pub named_first : (from to : List ℕ) (files : Content) (i : ℕ) (x : List ℕ × List ℕ) → IsFirst from files i
    → x ≡ get_or files i x → file_at to files ≡ None → (other : List ℕ) → bytes_eq from other ≡ false
    → file_at other (slice_set files i (to, x.1)) ≡ (if bytes_eq to other then Some x.1 else file_at other files)
named_first from to [] i x first is none other miss = absurd first
named_first from to (f ∷ fs) zero x first is none other miss =
    ap (λ rest. if bytes_eq to other then Some x.1 else rest) (sym (cond-false (bytes_eq f.0 other) _ _ (subst (λ name. bytes_eq name other ≡ false) (sym (equal_bytes f.0 from first)) miss)))
named_first from to (f ∷ fs) (suc i) x first is none other miss =
    let both : (bytes_eq f.0 to ≡ false) × (file_at to fs ≡ None) = some_is_not (bytes_eq f.0 to) f.1 (file_at to fs) none in
    ap (λ rest. if bytes_eq f.0 other then Some f.1 else rest) (named_first from to fs i x first.1 is both.1 other miss)
    ∙ swap (bytes_eq f.0 other) (bytes_eq to other) (Some f.1) (Some x.1) (file_at other fs) (apart f.0 to other both.0)

moved_cases : (at_from at_to : Bool) (new named cleared old moving : Option (List ℕ)) (bytes : List ℕ)
    → new ≡ (if at_from then None else named)
    → (at_from ≡ false → named ≡ (if at_to then Some bytes else cleared))
    → cleared ≡ (if at_to then None else old) → Some bytes ≡ moving → (at_from ≡ true → at_to ≡ false)
    → new ≡ (if at_to then moving else (if at_from then None else old))
moved_cases true true new named cleared old moving bytes e f g h never = absurd (false≢true (sym (never refl)))
moved_cases true false new named cleared old moving bytes e f g h never = e
moved_cases false true new named cleared old moving bytes e f g h never = e ∙ f refl ∙ h
moved_cases false false new named cleared old moving bytes e f g h never = e ∙ f refl ∙ g

-- a file moves: what has the new name goes, the first file at the old name is named anew, and what else has the old name goes
pub moved : (from to : List ℕ) (old cleared named new : Content) (i : ℕ) (x : List ℕ × List ℕ)
    → bytes_eq from to ≡ false → Sets old cleared to None → IsFirst from cleared i → x ≡ get_or cleared i x
    → named ≡ slice_set cleared i (to, x.1) → Sets named new from None → Moves old new from to
moved from to old cleared named new i x differ clears first is names ends other =
    let none : file_at to cleared ≡ None = clears to ∙ cond-true (bytes_eq to to) _ _ (same_bytes to) in
    let found : Some x.1 ≡ file_at from old = sym (first_at from cleared i x first is) ∙ clears from ∙ cond-false (bytes_eq to from) _ _ (turned_bytes to from ∙ differ) in
    moved_cases (bytes_eq from other) (bytes_eq to other) _ _ _ _ _ x.1 (ends other)
    (λ miss. ap (file_at other) names ∙ named_first from to cleared i x first is none other miss)
    (clears other) found (λ hit. apart from to other differ hit)

-- a file that is moved to its own name stays
pub moved_to_itself : (from to : List ℕ) (files : Content) → bytes_eq from to ≡ true → Moves files files from to
moved_to_itself from to files same other =
    by_test (bytes_eq to other) (file_at other files) _ _
    (λ hit. ap (λ name. file_at name files) (sym (equal_bytes from to same ∙ equal_bytes to other hit)))
    (λ miss. sym (cond-false (bytes_eq from other) None (file_at other files) (subst (λ name. bytes_eq name other ≡ false) (sym (equal_bytes from to same)) miss)))

-- more bytes for the first file at a path
pub appended : (path : List ℕ) (files : Content) (i : ℕ) (x : List ℕ × List ℕ) (piece bytes : List ℕ)
    → IsFirst path files i → x ≡ get_or files i x → bytes ≡ x.1 ++ piece
    → (has_file path files ≡ true) × Sets files (slice_set files i (x.0, bytes)) path (option_map (λ was. was ++ piece) (file_at path files))
appended path files i x piece bytes first is longer =
    let found : file_at path files ≡ Some x.1 = first_at path files i x first is in
    let holds : Some bytes ≡ option_map (λ was. was ++ piece) (file_at path files) = ap (λ b. Some b) longer ∙ sym (ap (option_map (λ was. was ++ piece)) found) in
    (ap is_some found, λ other. sets_first path files i x bytes first is other ∙ ap (λ b. if bytes_eq path other then b else file_at other files) holds)
