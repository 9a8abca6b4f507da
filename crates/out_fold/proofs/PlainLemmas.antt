-- The requests of several cells, kept one after another.
use Rattle.std.proofs.Common.{◌≡◌, ℕ, ◌+◌, ◌-◌, ◌<◌, List, [], ◌∷◌, ◌++◌, length, set, get_or, drop, Option, Some, sym, ◌∙◌, ap, arith}
use Rattle.std.proofs.lemmas.List.{set-set, set_at, drop_more, length_push}
use Rattle.std.specs.List.{slice_get}
use Rattle.std.proofs.lemmas.Option.{same_Some}
use Rattle.jtext.proofs.Lists.{last_at, set_given}
use Rattle.jcontent.specs.declared.content.Content.{Content}
use Rattle.out_fold.specs.declared.latest.Data.{Data}
use Rattle.out_fold.specs.Shown.{latest}
use Rattle.out_fold.specs.Cells.{Message, Used, contents, all_contents, with_message, with_reply}
use Rattle.out_fold.proofs.FoldLemmas.{latest-through}

-- what is shown under an id after one more request
pub latest-next : (id : List ℕ) (us : List Used) (i : ℕ) (u : Used) (all before next : Option Data) → i < length us → u ≡ get_or us i u
    → all ≡ latest id before (all_contents (drop i us)) → next ≡ latest id before (contents u) → all ≡ latest id next (all_contents (drop (i + 1) us))
latest-next id us i u all before next lt e h n =
    h ∙ ap (λ vs. latest id before (all_contents vs)) (drop_more us i u lt ∙ ap (λ v. v ∷ drop (i + 1) us) (sym e))
    ∙ latest-through id before (contents u) (all_contents (drop (i + 1) us))
    ∙ ap (λ o. latest id o (all_contents (drop (i + 1) us))) (sym n)

-- ---- the last request changed, by way of another one in its place

-- the last one, given back as it was
pub same-last : {A : Type 0} (xs : List A) (i : ℕ) (x between : A) → slice_get xs i ≡ Some x → set (set xs i between) i x ≡ xs
same-last xs i x between e = set-set xs i between x ∙ set_given xs i x e

last_is : {A : Type 0} (us : List A) (u : A) (xs : List A) (i : ℕ) → xs ≡ us ++ u ∷ [] → i ≡ length xs - 1 → i ≡ length us
last_is us u xs i e at =
    let long : length xs ≡ length us + 1 = ap length e ∙ length_push us u in
    omega (arith, at, long)

-- what was last
pub taken-last : {A : Type 0} (us : List A) (u : A) (xs : List A) (i : ℕ) (x : A) → xs ≡ us ++ u ∷ [] → i ≡ length xs - 1 → slice_get xs i ≡ Some x → x ≡ u
taken-last us u xs i x e at g =
    same_Some x u (sym g ∙ ap (λ ys. slice_get ys i) e ∙ ap (λ k. slice_get (us ++ u ∷ []) k) (last_is us u xs i e at) ∙ last_at us u)

-- another one put in its place
pub changed-last : {A : Type 0} (us : List A) (u : A) (xs : List A) (i : ℕ) (x between : A) → xs ≡ us ++ u ∷ [] → i ≡ length xs - 1
    → set (set xs i between) i x ≡ us ++ x ∷ []
changed-last us u xs i x between e at =
    set-set xs i between x ∙ ap (λ ys. set ys i x) e ∙ set_at us u [] x i (sym (last_is us u xs i e at))

-- with one more message
pub heard : (us : List Used) (u : Used) (xs : List Used) (i : ℕ) (between r : Used) (own : List Message) (c c' : Content) (d d' : Option (List ℕ)) (mid out : List Used)
    → slice_get xs i ≡ Some r → mid ≡ set xs i between → out ≡ set mid i (record { cell = r.cell; own = own; reply = r.reply })
    → own ≡ r.own ++ record { content = c'; date = d' } ∷ [] → c' ≡ c → d' ≡ d → i ≡ length xs - 1 → xs ≡ us ++ u ∷ [] → out ≡ us ++ with_message u c d ∷ []
heard us u xs i between r own c c' d d' mid out g m o h ec ed at e =
    let same = taken-last us u xs i r e at g in
    let last : Used = record { cell = r.cell; own = own; reply = r.reply } in
    o ∙ ap (λ ys. set ys i last) m ∙ changed-last us u xs i last between e at
    ∙ ap (λ ms. us ++ (record { cell = r.cell; own = ms; reply = r.reply }) ∷ []) h
    ∙ ap (λ x. us ++ with_message r x d' ∷ []) ec ∙ ap (λ x. us ++ with_message r c x ∷ []) ed ∙ ap (λ v. us ++ with_message v c d ∷ []) same

-- without memory for it
pub unheard : (xs : List Used) (i : ℕ) (between r : Used) (own : List Message) (mid out : List Used) → slice_get xs i ≡ Some r → mid ≡ set xs i between
    → out ≡ set mid i (record { cell = r.cell; own = own; reply = r.reply }) → own ≡ r.own → out ≡ xs
unheard xs i between r own mid out g m o h =
    o ∙ ap (λ ms. set mid i (record { cell = r.cell; own = ms; reply = r.reply })) h ∙ ap (λ ys. set ys i r) m ∙ same-last xs i r between g

-- with its reply
pub replied : (us : List Used) (u : Used) (xs : List Used) (i : ℕ) (between r : Used) (d d' : Option (List ℕ)) (mid out : List Used)
    → slice_get xs i ≡ Some r → mid ≡ set xs i between → out ≡ set mid i (with_reply r d') → d' ≡ d → i ≡ length xs - 1 → xs ≡ us ++ u ∷ []
    → out ≡ us ++ with_reply u d ∷ []
replied us u xs i between r d d' mid out g m o ed at e =
    o ∙ ap (λ ys. set ys i (with_reply r d')) m ∙ changed-last us u xs i (with_reply r d') between e at
    ∙ ap (λ x. us ++ with_reply r x ∷ []) ed ∙ ap (λ v. us ++ with_reply v d ∷ []) (taken-last us u xs i r e at g)
