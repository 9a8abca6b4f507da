-- Joining streams, before and after the outputs get their data, and a run of streams at a time.
use Rattle.std.proofs.Common.{◌≡◌, ℕ, Bool, true, false, cond, List, [], ◌∷◌, ◌++◌, map, flat_map, take, drop, Option, Some, None, refl, sym, ◌∙◌, ap, add-one, append_assoc, append-nil}
use Rattle.std.specs.Option.{option_map, option_map_or}
use Rattle.std.specs.Str.{bytes_eq}
use Rattle.jcontent.specs.declared.content.Content.{Content}
use Rattle.jcontent.specs.declared.content.Content.TheVariants as content
use Rattle.out_fold.specs.declared.latest.Data.{Data}
use Rattle.out_fold.specs.Shown.{resolve}
use Rattle.out_fold.specs.Joined.{text_of, fuse, joined_after, join, run_len, stream_text}

-- ---- with data

text_of-resolved : (known : List ℕ → Option Data) (name : List ℕ) (c : Content) → text_of name (resolve known c) ≡ text_of name c
text_of-resolved known name (content.Display s) = refl
text_of-resolved known name (content.Outcome s count) = refl
text_of-resolved known name _ = refl

stream_resolved : (known : List ℕ → Option Data) (name text : List ℕ) (o : Option (List ℕ))
    → option_map (λ more. content.Stream name (text ++ more)) o ≡ option_map (resolve known) (option_map (λ more. content.Stream name (text ++ more)) o)
stream_resolved known name text None = refl
stream_resolved known name text (Some more) = refl

fused-resolved : (known : List ℕ → Option Data) (c next : Content) → fuse (resolve known c) (resolve known next) ≡ option_map (resolve known) (fuse c next)
fused-resolved known (content.Stream name text) next =
    ap (λ o. option_map (λ more. content.Stream name (text ++ more)) o) (text_of-resolved known name next)
    ∙ stream_resolved known name text (text_of name next)
fused-resolved known (content.Display s) next = refl
fused-resolved known (content.Outcome s count) next = refl
fused-resolved known _ next = refl

after_by : (f : Content → Content) (rest rest' : Content → List Content) (c next : Content) (o : Option Content)
    → ((x : Content) → rest' (f x) ≡ map f (rest x))
    → option_map_or rest' (option_map f o) (f c ∷ rest' (f next)) ≡ map f (option_map_or rest o (c ∷ rest next))
after_by f rest rest' c next (Some both) h = h both
after_by f rest rest' c next None h = ap (λ xs. f c ∷ xs) (h next)

joined_after-resolved : (known : List ℕ → Option Data) (c : Content) (rest : List Content)
    → joined_after (resolve known c) (map (resolve known) rest) ≡ map (resolve known) (joined_after c rest)
joined_after-resolved known c [] = refl
joined_after-resolved known c (next ∷ rest) =
    ap (λ o. option_map_or (λ both. joined_after both (map (resolve known) rest)) o (resolve known c ∷ joined_after (resolve known next) (map (resolve known) rest))) (fused-resolved known c next)
    ∙ after_by (resolve known) (λ x. joined_after x rest) (λ x. joined_after x (map (resolve known) rest)) c next (fuse c next) (λ x. joined_after-resolved known x rest)

pub joined-resolved : (known : List ℕ → Option Data) (cs : List Content) → join (map (resolve known) cs) ≡ map (resolve known) (join cs)
joined-resolved known [] = refl
joined-resolved known (c ∷ rest) = joined_after-resolved known c rest

-- ---- a run at a time

named_text : (b : Bool) (own text : List ℕ) → cond b (Some own) None ≡ Some text → own ≡ text
named_text true own text e = cc
named_text false own text e = cc

text-stream : (name : List ℕ) (c : Content) (text : List ℕ) → text_of name c ≡ Some text → stream_text c ≡ text
text-stream name (content.Stream other own) text e = named_text (bytes_eq other name) own text e
text-stream name _ text e = cc

run_by : (name text : List ℕ) (next : Content) (rest : List Content) (o : Option (List ℕ)) → text_of name next ≡ o
    → ((more : List ℕ) → joined_after (content.Stream name (text ++ more)) rest
    ≡ content.Stream name ((text ++ more) ++ flat_map stream_text (take (run_len name rest) rest)) ∷ join (drop (run_len name rest) rest))
    → joined_after (content.Stream name text) (next ∷ rest)
    ≡ content.Stream name (text ++ flat_map stream_text (take (run_len name (next ∷ rest)) (next ∷ rest))) ∷ join (drop (run_len name (next ∷ rest)) (next ∷ rest))
run_by name text next rest None e h = rw (e, append-nil text) refl
run_by name text next rest (Some more) e h = rw (e, add-one, text-stream name next more e, ← append_assoc text more (flat_map stream_text (take (run_len name rest) rest))) (h more)

pub run-joined : (name text : List ℕ) (rest : List Content)
    → joined_after (content.Stream name text) rest ≡ content.Stream name (text ++ flat_map stream_text (take (run_len name rest) rest)) ∷ join (drop (run_len name rest) rest)
run-joined name text [] = rw (append-nil text) refl
run-joined name text (next ∷ rest) = run_by name text next rest (text_of name next) refl (λ more. run-joined name (text ++ more) rest)

pub other-joined : (c : Content) (rest : List Content) → ((name text : List ℕ) → c ≡ content.Stream name text → ⊥) → join (c ∷ rest) ≡ c ∷ join rest
other-joined (content.Stream name text) rest h = absurd (h name text refl)
other-joined _ [] h = refl
other-joined _ (next ∷ rest) h = refl

-- a run of streams is the first of the items
pub run-items : {A : Type 0} (g : Content → A) (first : Content) (name text : List ℕ) (after : List Content) (run : ℕ) (tree : A)
    → first ≡ content.Stream name text → run ≡ run_len name after → tree ≡ g (content.Stream name (text ++ flat_map stream_text (take run after)))
    → map g (joined_after first after) ≡ tree ∷ map g (join (drop run after))
run-items g first name text after run tree e r t =
    ap (λ x. map g (joined_after x after)) e ∙ ap (λ cs. map g cs) (run-joined name text after)
    ∙ ap (λ k. g (content.Stream name (text ++ flat_map stream_text (take k after))) ∷ map g (join (drop k after))) (sym r)
    ∙ ap (λ x. x ∷ map g (join (drop run after))) (sym t)

-- one more item, and the rest
pub next-item : {A : Type 0} (g : Content → A) (items items' all : List A) (rest after : List Content) (first : Content) (item : A) (taken : ℕ) (left : List Content)
    → items ++ map g (join rest) ≡ all → rest ≡ first ∷ after → map g (join (first ∷ after)) ≡ item ∷ map g (join (drop taken after))
    → items' ≡ items ++ item ∷ [] → left ≡ drop taken after → items' ++ map g (join left) ≡ all
next-item g items items' all rest after first item taken left i r f n l =
    ap (λ x. x ++ map g (join left)) n ∙ append_assoc items (item ∷ []) (map g (join left))
    ∙ ap (λ x. items ++ item ∷ map g (join x)) l ∙ ap (λ x. items ++ x) (sym f) ∙ ap (λ x. items ++ map g (join x)) (sym r) ∙ i
