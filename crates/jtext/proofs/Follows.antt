-- The machine beside the reading: steps that all parts share.
use Rattle.std.proofs.Common.{◌≡◌, ℕ, zero, suc, ◌<◌, ◌≢◌, Bool, false, cond, ◌==◌, List, [], ◌∷◌, ◌++◌, length, Option, Some, None, Ok, Err, inl, inr, refl, sym, ap, ◌∙◌, subst, append_assoc, arith}
use Rattle.std.proofs.lemmas.Bool.{cases_Bool}
use Rattle.std.proofs.lemmas.Bool.Decides.{nat_tests}
use Rattle.std.specs.Option.{option_and_then}
use Rattle.std.specs.Prelude.{codes}
use Rattle.jtext.specs.declared.fault.Fault.{Fault}
use Rattle.jtext.specs.declared.fault.Fault.TheVariants.{NoMemory, Bad, Deep, Repeated, Lone}
use Rattle.jtext.specs.Readings.{Reading, ◌>>=◌, strip_word}
use Rattle.jtext.specs.Grammar.{IsSpace, AreSpaces}
use Rattle.jtext.specs.Reading.{is_space, skip_spaces, items_at, after_item, list_at, begun_at}
use Rattle.jtext.proofs.Machine as machine
use Rattle.jtext.proofs.Machine.{Frame, State, at, value, first, first_key, key, colon, after, text, step, run, Open, Refuses, Stands, Stops, Like, Passed, Follows}
use Rattle.jtext.proofs.StringLaws.{strip_one}
use Rattle.jtext.proofs.Series.{spaces_sound, skip_spaces-le}

-- what a part that has no value answers
abbrev pub blank : ℕ
blank = 0

turn_on : (τ : State) (cs b : List ℕ) (o : Option State) → ((x : State) → run x cs ≡ Some τ → run x (cs ++ b) ≡ run τ b) → option_and_then (λ x. run x cs) o ≡ Some τ → option_and_then (λ x. run x (cs ++ b)) o ≡ run τ b
turn_on τ cs b None later f = absurd (never τ f)
  where
    never : (τ : State) → ◌≡◌ {A = Option State} None (Some τ) → ⊥
    never τ h = cc
turn_on τ cs b (Some x) later f = later x f

pub run-append : (σ τ : State) (a b : List ℕ) → run σ a ≡ Some τ → run σ (a ++ b) ≡ run τ b
run-append σ τ [] b e = let P : Option State → Type 0 = λ o. option_and_then (λ x. run x b) o ≡ run τ b in subst P (sym e) refl
run-append σ τ (c ∷ cs) b e = turn_on τ cs b (step σ c) (λ x. run-append x τ cs b) e

pub over : {A : Type 0} (σ τ κ : State) (s front rest : List ℕ) (r : Reading A) → s ≡ front ++ rest → run σ front ≡ Some τ → Follows τ κ rest r → Follows σ κ s r
over σ τ κ s front rest (Ok p) e is f =
    record { front = front ++ f.front; place = f.place; split = e ∙ ap (λ x. front ++ x) f.split ∙ sym (append_assoc front f.front p.1); runs = run-append σ τ front f.front is ∙ f.runs; like = f.like }
over σ τ κ s front rest (Err g) e is f =
    record { front = front ++ f.front; rest = f.rest; place = f.place; split = e ∙ ap (λ x. front ++ x) f.split ∙ sym (append_assoc front f.front f.rest); runs = run-append σ τ front f.front is ∙ f.runs; stands = f.stands }

pub one : (σ τ : State) (c : ℕ) → step σ c ≡ Some τ → run σ (c ∷ []) ≡ Some τ
one σ τ c e = ap (option_and_then (λ x. run x [])) e

pub byte : {A : Type 0} (σ τ κ : State) (c : ℕ) (cs : List ℕ) (r : Reading A) → step σ c ≡ Some τ → Follows τ κ cs r → Follows σ κ (c ∷ cs) r
byte σ τ κ c cs r e f = over σ τ κ (c ∷ cs) (c ∷ []) cs r refl (one σ τ c e) f

pub refused : (A : Type 0) (σ κ : State) (s : List ℕ) → Refuses σ s → Follows {A = A} σ κ s (Err (Bad (length s)))
refused A σ κ s r = record { front = []; rest = s; place = σ; split = refl; runs = refl; stands = (refl, r) }

pub stays : {A : Type 0} (σ κ : State) (p : A × List ℕ) → Like σ κ p.1 → Follows σ κ p.1 (Ok p)
stays σ κ p like = record { front = []; place = σ; split = refl; runs = refl; like = like }

-- ---- one state in place of another

like_trans : (ρ τ κ : State) (s : List ℕ) → Like ρ τ s → Like τ κ s → Like ρ κ s
like_trans ρ τ κ [] a b = λ h. a (b h)
like_trans ρ τ κ (c ∷ cs) a b = a ∙ b

stands_like : (f : Fault) (ρ τ : State) (s : List ℕ) → Like ρ τ s → Stands f τ s → Stands f ρ s
stands_like NoMemory ρ τ s l h = h
stands_like (Bad n) ρ τ [] l h = (h.0, l h.1)
stands_like (Bad n) ρ τ (c ∷ cs) l h = (h.0, l ∙ h.1)
stands_like (Deep n) ρ τ s l h = h
stands_like (Repeated n) ρ τ s l h = h
stands_like (Lone n) ρ τ s l h = h

same_state : (σ τ : State) → ◌≡◌ {A = Option State} (Some σ) (Some τ) → σ ≡ τ
same_state σ τ e = cc

pub as_like : {A : Type 0} (ρ τ κ : State) (s : List ℕ) (r : Reading A) → Like ρ τ s → Follows τ κ s r → Follows ρ κ s r
as_like ρ τ κ s (Ok p) like f = go f.front f.place f.split f.runs f.like
  where
    go : (front : List ℕ) (place : State) → s ≡ front ++ p.1 → run τ front ≡ Some place → Like place κ p.1 → Passed ρ κ s p.1
    go [] place e is l =
        let here : Like ρ τ p.1 = subst (Like ρ τ) e like in
        record { front = []; place = ρ; split = e; runs = refl; like = like_trans ρ τ κ p.1 here (subst (λ x. Like x κ p.1) (sym (same_state τ place is)) l) }
    go (d ∷ ds) place e is l =
        let here : step ρ d ≡ step τ d = subst (Like ρ τ) e like in
        record { front = d ∷ ds; place = place; split = e; runs = ap (option_and_then (λ x. run x ds)) here ∙ is; like = l }
as_like ρ τ κ s (Err g) like f = go f.front f.rest f.place f.split f.runs f.stands
  where
    go : (front rest : List ℕ) (place : State) → s ≡ front ++ rest → run τ front ≡ Some place → Stands g place rest → Stops ρ s g
    go [] rest place e is h =
        let here : Like ρ τ rest = subst (Like ρ τ) e like in
        record { front = []; rest = rest; place = ρ; split = e; runs = refl; stands = stands_like g ρ τ rest here (subst (λ x. Stands g x rest) (sym (same_state τ place is)) h) }
    go (d ∷ ds) rest place e is h =
        let here : step ρ d ≡ step τ d = subst (Like ρ τ) e like in
        record { front = d ∷ ds; rest = rest; place = place; split = e; runs = ap (option_and_then (λ x. run x ds)) here ∙ is; stands = h }

pub bind : {A B : Type 0} (σ τ κ : State) (s : List ℕ) (r : Reading A) (f : A × List ℕ → Reading B) → Follows σ τ s r → ((p : A × List ℕ) → r ≡ Ok p → Follows τ κ p.1 (f p)) → Follows σ κ s (r >>= f)
bind σ τ κ s (Ok p) f a b = over σ a.place κ s a.front p.1 (f p) a.split a.runs (as_like a.place τ κ p.1 (f p) a.like (b p refl))
bind σ τ κ s (Err g) f a b = a

-- ---- white space

abbrev pub Loops : State → Type 0
Loops σ = (c : ℕ) → IsSpace c → step σ c ≡ Some σ

pub loops : (σ : State) → step σ 32 ≡ Some σ → step σ 9 ≡ Some σ → step σ 10 ≡ Some σ → step σ 13 ≡ Some σ → Loops σ
loops σ a b d e c (inl h) = ap (step σ) h ∙ a
loops σ a b d e c (inr (inl h)) = ap (step σ) h ∙ b
loops σ a b d e c (inr (inr (inl h))) = ap (step σ) h ∙ d
loops σ a b d e c (inr (inr (inr h))) = ap (step σ) h ∙ e

pub run_spaces : (σ : State) (w : List ℕ) → Loops σ → AreSpaces w → run σ w ≡ Some σ
run_spaces σ [] l a = refl
run_spaces σ (c ∷ cs) l a = ap (option_and_then (λ x. run x cs)) (l c a.0) ∙ run_spaces σ cs l a.1

pub spaces : {A : Type 0} (σ κ : State) (s : List ℕ) (r : Reading A) → Loops σ → Follows σ κ (skip_spaces s) r → Follows σ κ s r
spaces σ κ s r l f = let w = spaces_sound s in over σ σ κ s w.0 (skip_spaces s) r w.2 (run_spaces σ w.0 l w.1) f

-- no white space comes first
abbrev pub Bare : List ℕ → Type 0
Bare [] = Unit {0}
Bare (c ∷ cs) = is_space c ≡ false

pub skipped_bare : (s : List ℕ) → Bare (skip_spaces s)
skipped_bare [] = tt
skipped_bare (c ∷ cs) =
    elim (cases_Bool (is_space c)) [
      | inl e ↦ subst Bare (sym (ap (λ b. cond b (skip_spaces cs) (c ∷ cs)) e)) (skipped_bare cs)
      | inr e ↦ subst Bare (sym (ap (λ b. cond b (skip_spaces cs) (c ∷ cs)) e)) e
    ]

-- ---- lists of items

-- the close of a frame, and where another item and the first one are awaited
abbrev pub close_of : Frame → ℕ
close_of machine.list = 93
close_of machine.object = 125

abbrev pub again : Frame → machine.Mode
again machine.list = value
again machine.object = key

abbrev pub opening : Frame → machine.Mode
opening machine.list = first
opening machine.object = first_key

pub after_loops : (fs : List Frame) → Loops (at after fs)
after_loops [] = loops _ refl refl refl refl
after_loops (machine.list ∷ fs) = loops _ refl refl refl refl
after_loops (machine.object ∷ fs) = loops _ refl refl refl refl

pub again_loops : (f : Frame) (fs : List Frame) → Loops (at (again f) fs)
again_loops machine.list fs = loops _ refl refl refl refl
again_loops machine.object fs = loops _ refl refl refl refl

opening_loops : (f : Frame) (fs : List Frame) → Loops (at (opening f) fs)
opening_loops machine.list fs = loops _ refl refl refl refl
opening_loops machine.object fs = loops _ refl refl refl refl

close_step : (f : Frame) (fs : List Frame) → step (at after (f ∷ fs)) (close_of f) ≡ Some (at after fs)
close_step machine.list fs = refl
close_step machine.object fs = refl

comma_step : (f : Frame) (fs : List Frame) → step (at after (f ∷ fs)) 44 ≡ Some (at (again f) (f ∷ fs))
comma_step machine.list fs = refl
comma_step machine.object fs = refl

-- with something open no text ends
frames_differ : (m n : machine.Mode) (f : Frame) (fs : List Frame) → ◌≡◌ {A = Option State} (Some (at m (f ∷ fs))) (Some (at n [])) → ⊥
frames_differ m n f fs e = let same : at m (f ∷ fs) ≡ at n [] = cc in let frames : f ∷ fs ≡ [] = ap (λ p. p.1) same in cc

still_open : (f : Frame) (fs : List Frame) → Open (at after (f ∷ fs))
still_open machine.list fs e = frames_differ after after machine.list fs e
still_open machine.object fs e = frames_differ after after machine.object fs e

still_opening : (f : Frame) (fs : List Frame) → Open (at (opening f) (f ∷ fs))
still_opening machine.list fs e = frames_differ first after machine.list fs e
still_opening machine.object fs e = frames_differ first_key after machine.object fs e

pub modes : (m : machine.Mode) (fs : List Frame) → ◌≡◌ {A = Option State} (Some (at m fs)) (Some (at after [])) → m ≡ after
modes m fs e = let same : at m fs ≡ at after [] = cc in ap (λ p. p.0) same

pub no_state : ◌≡◌ {A = Option State} None (Some (at after [])) → ⊥
no_state e = cc

pub value_open : (fs : List Frame) → Open (at value fs)
value_open fs e = let m : value ≡ after = modes value fs e in cc

pub key_open : (fs : List Frame) → Open (at key fs)
key_open fs e = let m : key ≡ after = modes key fs e in cc

pub colon_open : (fs : List Frame) → Open (at colon fs)
colon_open fs e = let m : colon ≡ after = modes colon fs e in cc

pub text_open : (k : Bool) (fs : List Frame) → Open (at (text k) fs)
text_open k fs e = let m : text k ≡ after = modes (text k) fs e in cc

other_step : (f : Frame) (fs : List Frame) (c : ℕ) → is_space c ≡ false → c ≢ close_of f → c ≢ 44 → step (at after (f ∷ fs)) c ≡ None
other_step machine.list fs c a b d = grind (arith, nat_tests)
other_step machine.object fs c a b d = grind (arith, nat_tests)

open_close : (f : Frame) (fs : List Frame) → step (at (opening f) (f ∷ fs)) (close_of f) ≡ Some (at after fs)
open_close machine.list fs = refl
open_close machine.object fs = refl

pub open_like : (f : Frame) (fs : List Frame) (c : ℕ) (cs : List ℕ) → is_space c ≡ false → c ≢ close_of f → Like (at (opening f) (f ∷ fs)) (at (again f) (f ∷ fs)) (c ∷ cs)
open_like machine.list fs c cs a b =
    let t : (c == 93) ≡ false = grind (arith, nat_tests) in
    ap (λ x. cond x (machine.closed (machine.list ∷ fs)) (cond (is_space c) (Some (at first (machine.list ∷ fs))) (machine.step_value (machine.list ∷ fs) c))) t
    ∙ ap (λ x. cond x (Some (at first (machine.list ∷ fs))) (machine.step_value (machine.list ∷ fs) c)) a
open_like machine.object fs c cs a b =
    let t : (c == 125) ≡ false = grind (arith, nat_tests) in
    ap (λ x. cond x (machine.closed (machine.object ∷ fs)) (cond (is_space c) (Some (at first_key (machine.object ∷ fs))) (machine.step_key (machine.object ∷ fs) c))) t
    ∙ ap (λ x. cond x (Some (at first_key (machine.object ∷ fs))) (machine.step_key (machine.object ∷ fs) c)) a

pub strip_none : (b c : ℕ) (cs : List ℕ) → strip_word (b ∷ []) (c ∷ cs) ≡ None → c ≢ b
strip_none b c cs e same = never cs (subst (λ x. strip_word (b ∷ []) (x ∷ cs) ≡ None) same e)
  where
    never : (cs : List ℕ) → strip_word (b ∷ []) (b ∷ cs) ≡ None → ⊥
    never cs h = absurd (grind (arith, nat_tests))

module _ {A : Type 0} (f : Frame) (fs : List Frame) (item : List A → List ℕ → Reading A)
    (follows : (found : List A) (s : List ℕ) → Bare s → Follows (at (again f) (f ∷ fs)) (at after (f ∷ fs)) s (item found s))
    (shortens : (found : List A) (s : List ℕ) (p : A × List ℕ) → item found s ≡ Ok p → length p.1 < length s) where
  neither : (s : List ℕ) → Bare s → strip_word (close_of f ∷ []) s ≡ None → strip_word (codes ",") s ≡ None → Refuses (at after (f ∷ fs)) s
  neither [] bare a b = still_open f fs
  neither (c ∷ cs) bare a b = other_step f fs c bare (strip_none (close_of f) c cs a) (strip_none 44 c cs b)

  after_follow : (more : List ℕ → Reading (List A)) (found : List A) (s : List ℕ) (o q : Option (List ℕ)) → Bare s
      → ((t : List ℕ) → length t < length s → Bare t → Follows (at (again f) (f ∷ fs)) (at after fs) t (more t))
      → strip_word (close_of f ∷ []) s ≡ o → strip_word (codes ",") s ≡ q → Follows (at after (f ∷ fs)) (at after fs) s (after_item more found s o q)
  after_follow more found s (Some rest) q bare later a b =
      over (at after (f ∷ fs)) (at after fs) (at after fs) s (close_of f ∷ []) rest (Ok (found, rest)) (strip_one (close_of f) s rest a) (one (at after (f ∷ fs)) (at after fs) (close_of f) (close_step f fs)) (stays (at after fs) (at after fs) (found, rest) (itself rest))
    where
      itself : (t : List ℕ) → Like (at after fs) (at after fs) t
      itself [] = λ h. h
      itself (c ∷ cs) = refl
  after_follow more found s None (Some rest) bare later a b =
      let e = strip_one 44 s rest b in
      over (at after (f ∷ fs)) (at (again f) (f ∷ fs)) (at after fs) s (44 ∷ []) rest (more (skip_spaces rest)) e (one (at after (f ∷ fs)) (at (again f) (f ∷ fs)) 44 (comma_step f fs))
      (spaces (at (again f) (f ∷ fs)) (at after fs) rest (more (skip_spaces rest)) (again_loops f (f ∷ fs)) (later (skip_spaces rest) (omega (arith, skip_spaces-le rest, ap length e)) (skipped_bare rest)))
  after_follow more found s None None bare later a b = refused (List A) (at after (f ∷ fs)) (at after fs) s (neither s bare a b)

  items_follow : (n : ℕ) (found : List A) (s : List ℕ) → length s < n → Bare s → Follows (at (again f) (f ∷ fs)) (at after fs) s (items_at (close_of f ∷ []) item n found s)
  unfolding items_at
  items_follow zero found s room bare = absurd (omega arith)
  items_follow (suc n) found s room bare =
      bind (at (again f) (f ∷ fs)) (at after (f ∷ fs)) (at after fs) s (item found s) _ (follows found s bare)
      (λ p is.
      let less = shortens found s p is in
      spaces (at after (f ∷ fs)) (at after fs) p.1 _ (after_loops (f ∷ fs))
      (after_follow (items_at (close_of f ∷ []) item n (found ++ p.0 ∷ [])) (found ++ p.0 ∷ []) (skip_spaces p.1) _ _ (skipped_bare p.1)
      (λ t shorter b. items_follow n (found ++ p.0 ∷ []) t (omega (arith, room, less, shorter, skip_spaces-le p.1)) b) refl refl))

  begun_follow : (s : List ℕ) (o : Option (List ℕ)) → Bare s → strip_word (close_of f ∷ []) s ≡ o → Follows (at (opening f) (f ∷ fs)) (at after fs) s (begun_at (close_of f ∷ []) item s o)
  begun_follow s (Some rest) bare a =
      over {A = List A} (at (opening f) (f ∷ fs)) (at after fs) (at after fs) s (close_of f ∷ []) rest (Ok ([], rest)) (strip_one (close_of f) s rest a) (one (at (opening f) (f ∷ fs)) (at after fs) (close_of f) (open_close f fs)) (stays {A = List A} (at after fs) (at after fs) ([], rest) (itself rest))
    where
      itself : (t : List ℕ) → Like (at after fs) (at after fs) t
      itself [] = λ h. h
      itself (c ∷ cs) = refl
  begun_follow s None bare a =
      as_like (at (opening f) (f ∷ fs)) (at (again f) (f ∷ fs)) (at after fs) s (items_at (close_of f ∷ []) item (suc (length s)) [] s) (alike s bare a) (items_follow (suc (length s)) [] s (omega arith) bare)
    where
      alike : (t : List ℕ) → Bare t → strip_word (close_of f ∷ []) t ≡ None → Like (at (opening f) (f ∷ fs)) (at (again f) (f ∷ fs)) t
      alike [] bare a = λ h. still_opening f fs
      alike (c ∷ cs) bare a = open_like f fs c cs bare (strip_none (close_of f) c cs a)

  -- what follows the opening bracket
  pub list_follow : (s : List ℕ) → Follows (at (opening f) (f ∷ fs)) (at after fs) s (list_at (close_of f ∷ []) item s)
  list_follow s = spaces (at (opening f) (f ∷ fs)) (at after fs) s _ (opening_loops f (f ∷ fs)) (begun_follow (skip_spaces s) _ (skipped_bare s) refl)
