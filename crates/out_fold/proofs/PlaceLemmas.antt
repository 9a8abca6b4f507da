-- What the index knows after a message.
use Rattle.std.proofs.Common.{◌≡◌, ℕ, ◌<◌, ◌==◌, Bool, true, false, not, cond, ◌||◌, List, [], ◌∷◌, ◌++◌, Option, Some, None, is_some, refl, sym, ◌∙◌, ap, arith}
use Rattle.std.specs.List.{list_any}
use Rattle.std.specs.Option.{option_and_then}
use Rattle.std.specs.Str.{bytes_eq}
use Rattle.std.proofs.lemmas.Slice.Eq.{bytes_eq-Decides}
use Rattle.std.proofs.lemmas.Bool.{or_left, or_right, eq-eqb}
use Rattle.std.proofs.lemmas.Option.{same_Some}
use Rattle.std.proofs.lemmas.List.Folds.{list_any-append}
use Rattle.jtext.proofs.Equals.{same_bytes}
use Rattle.jcontent.specs.declared.content.Content.{Content}
use Rattle.jcontent.specs.declared.shown.Shown.{Shown}
use Rattle.display_index.specs.declared.index.Index.{Index}
use Rattle.display_index.specs.declared.place.Place.{Place}
use Rattle.display_index.specs.Standing.{Call, standing}
use Rattle.display_index.specs.Standing.Call.{added, cleared}
use Rattle.display_index.specs.Listed.{outside}
use Rattle.display_index.specs.Held as index
use Rattle.display_index.proofs.StandingLemmas.{standing-added, standing-cleared}
use Rattle.display_index.proofs.ListedLemmas.{any-snoc}
use Rattle.out_fold.specs.Live.{appends, clears_now}
use Rattle.out_fold.specs.Shown.{shown_in, data_if, data_under, data_shown}
use Rattle.out_fold.specs.Names.{name_of, has_id}
use Rattle.out_fold.specs.Placing.{has_place, IsWithin, Grown, Placed, Settled, settle}
use Rattle.out_fold.proofs.ListTests.{no, either}

-- ---- the display id of a message

some_true : (b : Bool) (s : Shown) → is_some (data_if b s) ≡ true → b ≡ true
some_true true s e = refl
some_true false s e = cc

under_id : (s : Shown) (i : Option (List ℕ)) (id other : List ℕ) → i ≡ Some id → is_some (data_under other i s) ≡ true → other ≡ id
under_id s None id other e h = cc
under_id s (Some x) id other e h =
    let same : x ≡ other = (bytes_eq-Decides x other).0 (some_true (bytes_eq x other) s h) in
    sym same ∙ same_Some x id e

of_shown : (o : Option Shown) (id other : List ℕ) → option_and_then (λ (s : Shown). s.id) o ≡ Some id → is_some (data_shown other o) ≡ true → other ≡ id
of_shown None id other e h = cc
of_shown (Some s) id other e h = under_id s s.id id other e h

-- a message shows something under its own id alone
pub named : (c : Content) (id other : List ℕ) → name_of c ≡ Some id → has_id other c ≡ true → other ≡ id
named c id other e h = of_shown (shown_in c) id other e h

no_under : (s : Shown) (i : Option (List ℕ)) (other : List ℕ) → i ≡ None → is_some (data_under other i s) ≡ true → ⊥
no_under s None other e h = cc
no_under s (Some x) other e h = cc

no_shown : (o : Option Shown) (other : List ℕ) → option_and_then (λ (s : Shown). s.id) o ≡ None → is_some (data_shown other o) ≡ true → ⊥
no_shown None other e h = cc
no_shown (Some s) other e h = no_under s s.id other e h

pub unnamed : (c : Content) (other : List ℕ) → name_of c ≡ None → has_id other c ≡ true → ⊥
unnamed c other e h = no_shown (shown_in c) other e h

-- ---- a place for its output

pub placed-unnamed : (calls : List Call) (x : Index) (c : Content) (cell : ℕ) → name_of c ≡ None → index.StandsFor x calls → Placed calls x c cell
placed-unnamed calls x c cell e s = record { calls' = calls; told = s; more = λ id n h. h; within = λ cells lt w. w; here = λ a id h. absurd (unnamed c id e h) }

pub placed-nothing : (calls : List Call) (x : Index) (c : Content) (cell : ℕ) → appends c ≡ false → index.StandsFor x calls → Placed calls x c cell
placed-nothing calls x c cell e s = record { calls' = calls; told = s; more = λ id n h. h; within = λ cells lt w. w; here = λ a id h. no (sym e ∙ a) }

pub placed-already : (calls : List Call) (x : Index) (c : Content) (cell : ℕ) (id : List ℕ) → name_of c ≡ Some id → list_any (λ p. p.cell == cell) (standing id calls) ≡ true
    → index.StandsFor x calls → Placed calls x c cell
placed-already calls x c cell id e h s = record {
  calls' = calls;
  told = s;
  more = λ other n g. g;
  within = λ cells lt w. w;
  here = λ a other g. ap (λ k. has_place calls k cell) (named c id other e g) ∙ h;
}

more_added : (calls : List Call) (id other : List ℕ) (p : Place) (n : ℕ) → has_place calls other n ≡ true → has_place (calls ++ added id p ∷ []) other n ≡ true
more_added calls id other p n h =
    ap (λ ps. list_any (λ (q : Place). q.cell == n) ps) (standing-added other calls id p)
    ∙ list_any-append (λ (q : Place). q.cell == n) (standing other calls) (cond (bytes_eq id other) (p ∷ []) [])
    ∙ or_left (has_place calls other n) (list_any (λ (q : Place). q.cell == n) (cond (bytes_eq id other) (p ∷ []) [])) h

here_added : (calls : List Call) (id : List ℕ) (p : Place) → has_place (calls ++ added id p ∷ []) id p.cell ≡ true
here_added calls id p =
    ap (λ ps. list_any (λ (q : Place). q.cell == p.cell) ps) (standing-added id calls id p ∙ ap (λ b. standing id calls ++ cond b (p ∷ []) []) (same_bytes id))
    ∙ any-snoc (λ (q : Place). q.cell == p.cell) (standing id calls) p
    ∙ or_right (has_place calls id p.cell) (p.cell == p.cell) (eq-eqb p.cell p.cell refl)

last_by : (m n cells : ℕ) (b : Bool) → (m == n) ≡ b → m < cells → (b || false) ≡ true → n < cells
last_by m n cells true e lt h = let same : m ≡ n = grind (arith, e) in omega (arith, same, lt)
last_by m n cells false e lt h = no h

one_by : (b : Bool) (p : Place) (n cells : ℕ) → p.cell < cells → list_any (λ (q : Place). q.cell == n) (cond b (p ∷ []) []) ≡ true → n < cells
one_by true p n cells lt h = last_by p.cell n cells (p.cell == n) refl lt h
one_by false p n cells lt h = no h

within_added : (calls : List Call) (id : List ℕ) (p : Place) (cells : ℕ) → p.cell < cells → IsWithin cells calls → IsWithin cells (calls ++ added id p ∷ [])
within_added calls id p cells lt w = λ other n h.
    let there : (has_place calls other n || list_any (λ (q : Place). q.cell == n) (cond (bytes_eq id other) (p ∷ []) [])) ≡ true =
    sym (ap (λ ps. list_any (λ (q : Place). q.cell == n) ps) (standing-added other calls id p)
    ∙ list_any-append (λ (q : Place). q.cell == n) (standing other calls) (cond (bytes_eq id other) (p ∷ []) [])) ∙ h in
    either (has_place calls other n) (list_any (λ (q : Place). q.cell == n) (cond (bytes_eq id other) (p ∷ []) [])) (n < cells)
    (λ e. w other n e) (λ e. one_by (bytes_eq id other) p n cells lt e) there

pub placed-added : (calls : List Call) (x : Index) (c : Content) (id : List ℕ) (p : Place) → name_of c ≡ Some id
    → index.StandsFor x (calls ++ added id p ∷ []) → Placed calls x c p.cell
placed-added calls x c id p e s = record {
  calls' = calls ++ added id p ∷ [];
  told = s;
  more = λ other n h. more_added calls id other p n h;
  within = λ cells lt w. within_added calls id p cells lt w;
  here = λ a other g. ap (λ k. has_place (calls ++ added id p ∷ []) k p.cell) (named c id other e g) ∙ here_added calls id p;
}

pub grown-same : (calls : List Call) (x : Index) (cell : ℕ) → index.StandsFor x calls → Grown calls x cell
grown-same calls x cell s = record { calls' = calls; told = s; more = λ id n h. h; within = λ cells lt w. w }

-- ---- a clear

elsewhere : (m cell n : ℕ) → (m == cell) ≡ true → (cell == n) ≡ false → (m == n) ≡ false
elsewhere m cell n e f = grind (arith, e, f)

outside_by : (cell n : ℕ) (p : Place) (ps : List Place) (b : Bool) → (p.cell == cell) ≡ b → (cell == n) ≡ false
    → list_any (λ q. q.cell == n) (outside cell ps) ≡ list_any (λ q. q.cell == n) ps
    → list_any (λ q. q.cell == n) (outside cell (p ∷ ps)) ≡ ((p.cell == n) || list_any (λ q. q.cell == n) ps)
outside_by cell n p ps true e f h = rw (e, elsewhere p.cell cell n e f) h
outside_by cell n p ps false e f h = rw e (ap (λ b. (p.cell == n) || b) h)

any-outside : (cell n : ℕ) (ps : List Place) → (cell == n) ≡ false → list_any (λ p. p.cell == n) (outside cell ps) ≡ list_any (λ p. p.cell == n) ps
any-outside cell n [] e = refl
any-outside cell n (p ∷ ps) e = outside_by cell n p ps (p.cell == cell) refl e (any-outside cell n ps e)

settled_by : (b : Bool) (cell : ℕ) (calls : List Call) (id : List ℕ) (n : ℕ) → (cell == n) ≡ false → has_place calls id n ≡ true
    → has_place (cond b (calls ++ cleared cell ∷ []) calls) id n ≡ true
settled_by true cell calls id n e h = ap (λ ps. list_any (λ (p : Place). p.cell == n) ps) (standing-cleared id calls cell) ∙ any-outside cell n (standing id calls) e ∙ h
settled_by false cell calls id n e h = h

-- another cell keeps its places
pub settled-other : (c : Content) (cell : ℕ) (calls : List Call) (id : List ℕ) (n : ℕ) → (cell == n) ≡ false → has_place calls id n ≡ true
    → has_place (settle c cell calls) id n ≡ true
settled-other c cell calls id n e h = settled_by (clears_now c) cell calls id n e h

-- and so does every one, where nothing is cleared
pub settled-same : (c : Content) (cell : ℕ) (calls : List Call) → clears_now c ≡ false → settle c cell calls ≡ calls
settled-same c cell calls e = ap (λ b. cond b (calls ++ cleared cell ∷ []) calls) e

less_by : (k : Bool) (p : Place) (n : ℕ) (xs ys : List Place) (b : Bool) → (p.cell == n) ≡ b → (list_any (λ q. q.cell == n) xs ≡ true → list_any (λ q. q.cell == n) ys ≡ true)
    → list_any (λ q. q.cell == n) (cond k (p ∷ xs) xs) ≡ true → (b || list_any (λ q. q.cell == n) ys) ≡ true
less_by k p n xs ys true e f h = refl
less_by true p n xs ys false e f h = f (sym (ap (λ b. b || list_any (λ (q : Place). q.cell == n) xs) e) ∙ h)
less_by false p n xs ys false e f h = f h

any-less : (cell n : ℕ) (ps : List Place) → list_any (λ p. p.cell == n) (outside cell ps) ≡ true → list_any (λ p. p.cell == n) ps ≡ true
any-less cell n [] h = h
any-less cell n (p ∷ ps) h = less_by (not (p.cell == cell)) p n (outside cell ps) ps (p.cell == n) refl (any-less cell n ps) h

within_by : (b : Bool) (cell : ℕ) (calls : List Call) (cells : ℕ) → IsWithin cells calls → IsWithin cells (cond b (calls ++ cleared cell ∷ []) calls)
within_by true cell calls cells w = λ id n h.
    w id n (any-less cell n (standing id calls) (sym (ap (λ ps. list_any (λ (p : Place). p.cell == n) ps) (standing-cleared id calls cell)) ∙ h))
within_by false cell calls cells w = w

within_settled : (c : Content) (cell : ℕ) (calls : List Call) (cells : ℕ) → IsWithin cells calls → IsWithin cells (settle c cell calls)
within_settled c cell calls cells w = within_by (clears_now c) cell calls cells w

-- ---- the message as a whole

pub placed-grown : (calls : List Call) (x : Index) (c : Content) (cell : ℕ) → Placed calls x c cell → Grown calls x cell
placed-grown calls x c cell p = record { calls' = p.calls'; told = p.told; more = p.more; within = p.within }

pub placed-settled : (calls : List Call) (x x' : Index) (c : Content) (cell : ℕ) → Placed calls x c cell
    → ((told : List Call) → index.StandsFor x told → index.StandsFor x' (settle c cell told)) → Settled calls x' c cell
placed-settled calls x x' c cell p settles = record {
  calls' = p.calls';
  told = settles p.calls' p.told;
  more = p.more;
  within = λ cells lt w. within_settled c cell p.calls' cells (p.within cells lt w);
  here = p.here;
}
