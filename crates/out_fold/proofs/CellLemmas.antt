-- What is held of a cell after one more message.
use Rattle.std.proofs.Common.{◌≡◌, ℕ, Bool, true, false, cond, List, [], ◌∷◌, ◌++◌, map, Option, None, refl, sym, ◌∙◌, ap, append_assoc, append-nil}
use Rattle.std.specs.Option.{option_or}
use Rattle.jcontent.specs.declared.content.Content.{Content}
use Rattle.out_fold.specs.declared.folded.Folded.{Folded}
use Rattle.out_fold.specs.Live.{appends, clears_now, live}
use Rattle.out_fold.specs.Cells.{Message, Used, with_message, with_reply, contents, all_contents, count_in, last_count, last_date, is_input, says_busy, says_idle}
use Rattle.out_fold.specs.Held.{held_output, waits, fold_of, step}
use Rattle.out_fold.proofs.LiveLemmas.{live-snoc, waits-snoc}

map-snoc : {A B : Type 0} (f : A → B) (xs : List A) (x : A) → map f (xs ++ x ∷ []) ≡ map f xs ++ f x ∷ []
map-snoc f [] x = refl
map-snoc f (y ∷ ys) x = ap (λ r. f y ∷ r) (map-snoc f ys x)

pub contents-snoc : (u : Used) (c : Content) (date : Option (List ℕ)) → contents (with_message u c date) ≡ contents u ++ c ∷ []
contents-snoc u c date = map-snoc (λ (m : Message). m.content) u.own (record { content = c; date = date })

count-snoc : (before : Option (List ℕ)) (cs : List Content) (c : Content) → last_count before (cs ++ c ∷ []) ≡ option_or (count_in c) (last_count before cs)
count-snoc before [] c = refl
count-snoc before (x ∷ xs) c = count-snoc (option_or (count_in x) before) xs c

date-snoc : (kind : Content → Bool) (before : Option (List ℕ)) (ms : List Message) (c : Content) (date : Option (List ℕ))
    → last_date kind before (ms ++ record { content = c; date = date } ∷ []) ≡ cond (kind c) date (last_date kind before ms)
date-snoc kind before [] c date = refl
date-snoc kind before (m ∷ ms) c date = date-snoc kind (cond (kind m.content) m.date before) ms c date

outputs_by : (n a w : Bool) (ls : List Content) (c : Content)
    → map held_output (cond n [] (cond a (cond w [] ls ++ c ∷ []) ls)) ≡ cond n [] (cond a (cond w [] (map held_output ls) ++ held_output c ∷ []) (map held_output ls))
outputs_by true a w ls c = refl
outputs_by false true true ls c = refl
outputs_by false true false ls c = map-snoc held_output ls c
outputs_by false false w ls c = refl

same_parts : {os os' : List Content} {w w' : Bool} {n n' i i' b b' d d' r : Option (List ℕ)} → os ≡ os' → w ≡ w' → n ≡ n' → i ≡ i' → b ≡ b' → d ≡ d'
    → (let x : Folded = record { outputs = os; waits = w; count = n; input = i; busy = b; idle = d; reply = r } in
    let y : Folded = record { outputs = os'; waits = w'; count = n'; input = i'; busy = b'; idle = d'; reply = r } in x ≡ y)
same_parts os w n i b d = cc

-- one more message is one step
pub folded-message : (u : Used) (c : Content) (date : Option (List ℕ)) → fold_of (with_message u c date) ≡ step (fold_of u) c date
folded-message u c date =
    let more = contents-snoc u c date in
    same_parts
    (ap (λ cs. map held_output (live cs)) more ∙ ap (λ ls. map held_output ls) (live-snoc (contents u) c) ∙ outputs_by (clears_now c) (appends c) (waits (contents u)) (live (contents u)) c)
    (ap waits more ∙ waits-snoc (contents u) c)
    (ap (λ cs. last_count None cs) more ∙ count-snoc None (contents u) c)
    (date-snoc is_input None u.own c date)
    (date-snoc says_busy None u.own c date)
    (date-snoc says_idle None u.own c date)

pub all-snoc : (us : List Used) (u : Used) → all_contents (us ++ u ∷ []) ≡ all_contents us ++ contents u
all-snoc [] u = append-nil (contents u)
all-snoc (v ∷ us) u = ap (λ cs. contents v ++ cs) (all-snoc us u) ∙ sym (append_assoc (contents v) (all_contents us) (contents u))

-- one more message of the last request is the last of all
pub all-message : (us : List Used) (u : Used) (c : Content) (date : Option (List ℕ))
    → all_contents (us ++ with_message u c date ∷ []) ≡ all_contents (us ++ u ∷ []) ++ c ∷ []
all-message us u c date =
    all-snoc us (with_message u c date) ∙ ap (λ cs. all_contents us ++ cs) (contents-snoc u c date)
    ∙ sym (append_assoc (all_contents us) (contents u) (c ∷ [])) ∙ ap (λ cs. cs ++ c ∷ []) (sym (all-snoc us u))

pub all-reply : (us : List Used) (u : Used) (date : Option (List ℕ)) → all_contents (us ++ with_reply u date ∷ []) ≡ all_contents (us ++ u ∷ [])
all-reply us u date = all-snoc us (with_reply u date) ∙ sym (all-snoc us u)
