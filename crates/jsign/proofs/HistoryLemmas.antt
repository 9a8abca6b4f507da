-- Lemmas on the history of signatures.
use Rattle.std.proofs.Common.{◌≡◌, ℕ, ◌+◌, ◌-◌, ◌<◌, ◌≤◌, ◌↔◌, Bool, true, false, cond, ◌||◌, List, [], ◌∷◌, ◌++◌, length, drop, refl, sym, ◌∙◌, ap, subst, IsTrue, arith, slice_get, Option, Some, None, nat_lt, length-append, length-drop, add-one}
use Rattle.std.specs.List.{Contains}
use Rattle.std.specs.Str.{bytes_eq}
use Rattle.std.specs.BTreeSet.{BTreeSet, contains, Updates, UpdatesBy}
use Rattle.std.proofs.lemmas.Bool.Decides.{nat_tests}
use Rattle.std.proofs.lemmas.Cmp.{nat_list_eq_equiv}
use Rattle.std.proofs.lemmas.Grind.{common_steps}
use Rattle.std.proofs.lemmas.List.{drop-append-le}
use Rattle.std.proofs.lemmas.List.Folds.{list_any-append}
use Rattle.std.proofs.lemmas.List.Sums.{fold-append}
use Rattle.std.proofs.lemmas.Map.Text.{is_eq-slice_cmp}
use Rattle.std.proofs.lemmas.Map.Views.{Contains-from_any, list_any-from_Contains}
use Rattle.std.proofs.lemmas.Bool.{or_parts}
use Rattle.jtext.specs.Sorting.{byte_order}
use Rattle.jtext.proofs.Equals.{equal_bytes, turned_bytes}
use Rattle.circular_buffer.specs.Buffer.{Buffer, buffer, keep_last}
use Rattle.jsign.specs.History.{recent, is_among, with_offered, fresh_of, IsFresh, StandsFor, AreDistinct, AreHeld}

-- ---- membership by a test and by a place

pub contained : (sig : List ℕ) (sigs : List (List ℕ)) → is_among sig sigs ≡ true → Contains sigs sig
contained sig sigs h = Contains-from_any {eq = bytes_eq} equal_bytes sig sigs h

pub not_contained : (sig : List ℕ) (sigs : List (List ℕ)) → is_among sig sigs ≡ false → ¬ (Contains sigs sig)
not_contained sig sigs h at =
    let found = list_any-from_Contains {eq = bytes_eq} nat_list_eq_equiv sig sigs at in
    cc

-- ---- the last of a list

drop-drop : (a b : ℕ) (xs : List (List ℕ)) → drop b (drop a xs) ≡ drop (a + b) xs
drop-drop a b xs = grind (arith, common_steps)

keep_last-keep_last : (n : ℕ) (xs ys : List (List ℕ)) → keep_last n (keep_last n xs ++ ys) ≡ keep_last n (xs ++ ys)
keep_last-keep_last n xs ys =
    let a : ℕ = length xs - n in
    let within : a ≤ length xs = omega arith in
    let whole : drop a xs ++ ys ≡ drop a (xs ++ ys) = sym (drop-append-le a xs ys within) in
    let long : length (drop a xs ++ ys) ≡ length xs - a + length ys = omega (arith, length-append (drop a xs) ys, length-drop a xs) in
    let there : a + (length (drop a xs ++ ys) - n) ≡ length (xs ++ ys) - n = omega (arith, length-append xs ys, long) in
    ap (λ zs. drop (length (drop a xs ++ ys) - n) zs) whole ∙ drop-drop a (length (drop a xs ++ ys) - n) (xs ++ ys) ∙ ap (λ k. drop k (xs ++ ys)) there

-- ---- what stands for the signatures that were offered

pub next : (offered : List (List ℕ)) (sig : List ℕ) → fresh_of (offered ++ sig ∷ []) ≡ with_offered (fresh_of offered) sig
unfolding fresh_of
next offered sig = fold-append with_offered [] offered (sig ∷ [])

pub offered_again : (held offered : List (List ℕ)) (sig : List ℕ) → StandsFor held offered → is_among sig held ≡ true → StandsFor held (offered ++ sig ∷ [])
offered_again held offered sig stands known =
    let among : is_among sig (recent (fresh_of offered)) ≡ true = subst (λ (h : List (List ℕ)). is_among sig h ≡ true) stands known in
    let same : with_offered (fresh_of offered) sig ≡ fresh_of offered = ap (λ b. cond b (fresh_of offered) (fresh_of offered ++ sig ∷ [])) among in
    stands ∙ ap recent (sym (next offered sig ∙ same))

pub offered_first : (held offered : List (List ℕ)) (sig : List ℕ) → StandsFor held offered → is_among sig held ≡ false → StandsFor (recent (held ++ sig ∷ [])) (offered ++ sig ∷ [])
offered_first held offered sig stands fresh =
    let among : is_among sig (recent (fresh_of offered)) ≡ false = subst (λ (h : List (List ℕ)). is_among sig h ≡ false) stands fresh in
    let more : with_offered (fresh_of offered) sig ≡ fresh_of offered ++ sig ∷ [] = ap (λ b. cond b (fresh_of offered) (fresh_of offered ++ sig ∷ [])) among in
    ap (λ h. recent (h ++ sig ∷ [])) stands ∙ keep_last-keep_last 65536 (fresh_of offered) (sig ∷ []) ∙ ap recent (sym (next offered sig ∙ more))

-- ---- the ring beside the set

at_end : (sig other : List ℕ) (sigs : List (List ℕ)) → is_among sig (sigs ++ other ∷ []) ≡ (is_among sig sigs || bytes_eq sig other)
at_end sig other sigs = list_any-append (bytes_eq sig) sigs (other ∷ []) ∙ last (is_among sig sigs) (bytes_eq sig other)
  where
    last : (a b : Bool) → (a || (b || false)) ≡ (a || b)
    last true b = refl
    last false true = refl
    last false false = refl

AreDistinct-push : (sigs : List (List ℕ)) (sig : List ℕ) → AreDistinct sigs → is_among sig sigs ≡ false → AreDistinct (sigs ++ sig ∷ [])
AreDistinct-push [] sig d fresh = (refl, tt)
AreDistinct-push (x ∷ xs) sig d fresh =
    let parts = or_parts (bytes_eq sig x) (is_among sig xs) fresh in
    let other : bytes_eq x sig ≡ false = turned_bytes x sig ∙ parts.0 in
    let new : (is_among x xs || bytes_eq x sig) ≡ false = ap (λ b. b || bytes_eq x sig) d.0 ∙ other in
    (at_end x sig xs ∙ new, AreDistinct-push xs sig d.1 parts.1)

-- what the set has after an insertion
either : (s a : Bool) → cond s true a ≡ (a || s)
either true true = refl
either true false = refl
either false true = refl
either false false = refl

inserted : (known now : BTreeSet (List ℕ)) (sigs : List (List ℕ)) (sig : List ℕ) → ((q : List ℕ) → contains byte_order known q ≡ is_among q sigs) → Updates byte_order known now sig true
    → (q : List ℕ) → contains byte_order now q ≡ is_among q (sigs ++ sig ∷ [])
inserted known now sigs sig same updates q =
    updates.0 q ∙ ap (λ b. cond b true (contains byte_order known q)) (is_eq-slice_cmp sig q ∙ turned_bytes sig q) ∙ ap (λ b. cond (bytes_eq q sig) true b) (same q)
    ∙ either (bytes_eq q sig) (is_among q sigs) ∙ sym (at_end q sig sigs)

-- and after the removal of the oldest
removed : (now rest : BTreeSet (List ℕ)) (x : List ℕ) (sigs : List (List ℕ)) → ((q : List ℕ) → contains byte_order now q ≡ is_among q (x ∷ sigs)) → is_among x sigs ≡ false
    → UpdatesBy byte_order (byte_order x) now rest false → (q : List ℕ) → contains byte_order rest q ≡ is_among q sigs
removed now rest x sigs same once updates q =
    updates.0 q ∙ ap (λ b. cond b false (contains byte_order now q)) (is_eq-slice_cmp x q) ∙ ap (λ b. cond (bytes_eq x q) false b) (same q)
    ∙ by_cases (bytes_eq x q) refl
  where
    by_cases : (b : Bool) → bytes_eq x q ≡ b → cond b false (is_among q (x ∷ sigs)) ≡ is_among q sigs
    by_cases true e = let same_sig : x ≡ q = equal_bytes x q e in sym (subst (λ (z : List ℕ). is_among z sigs ≡ false) same_sig once)
    by_cases false e = ap (λ b. b || is_among q sigs) (turned_bytes q x ∙ e)

-- ---- a fresh signature at the end of the ring

pub held_with_room : (known now : BTreeSet (List ℕ)) (ring : Buffer (List ℕ)) (sig : List ℕ) → AreHeld known ring → contains byte_order known sig ≡ false → Updates byte_order known now sig true → length ring.items < 65536
    → AreHeld now (buffer (keep_last ring.capacity (ring.items ++ sig ∷ [])) ring.capacity)
held_with_room known now ring sig held fresh updates room =
    let all : List (List ℕ) = ring.items ++ sig ∷ [] in
    let long : length all ≡ length ring.items + 1 = length-append ring.items (sig ∷ []) in
    let whole : keep_last ring.capacity all ≡ all = let none : length all - ring.capacity ≡ 0 = omega (arith, held.capacity, long) in ap (λ k. drop k all) none in
    rw whole (record {
      capacity = held.capacity;
      within = omega (arith, long);
      same = inserted known now ring.items sig held.same updates;
      distinct = AreDistinct-push ring.items sig held.distinct (sym (held.same sig) ∙ fresh);
    })

evicted : (items : List (List ℕ)) (capacity : ℕ) (known now rest : BTreeSet (List ℕ)) (sig oldest : List ℕ) → AreHeld known (buffer items capacity) → contains byte_order known sig ≡ false → Updates byte_order known now sig true
    → 65536 ≤ length items → slice_get (items ++ sig ∷ []) 0 ≡ Some oldest → UpdatesBy byte_order (byte_order oldest) now rest false
    → AreHeld rest (buffer (keep_last capacity (items ++ sig ∷ [])) capacity)
evicted [] capacity known now rest sig oldest held fresh updates full front updated = absurd (omega arith)
evicted (x ∷ sigs) capacity known now rest sig oldest held fresh updates full front updated =
    let is_oldest : x ≡ oldest = cc in
    let all : List (List ℕ) = sigs ++ sig ∷ [] in
    let long : length all ≡ length sigs + 1 = length-append sigs (sig ∷ []) in
    let more : length (x ∷ sigs) ≡ length sigs + 1 = sym (add-one (length sigs)) in
    let longer : length (x ∷ all) ≡ length all + 1 = sym (add-one (length all)) in
    let one : length (x ∷ all) - capacity ≡ 1 = omega (arith, held.capacity, held.within, long, more, longer) in
    let cut : keep_last capacity (x ∷ all) ≡ all = ap (λ k. drop k (x ∷ all)) one in
    let new : is_among sig (x ∷ sigs) ≡ false = sym (held.same sig) ∙ fresh in
    let distinct : AreDistinct (x ∷ all) = AreDistinct-push (x ∷ sigs) sig held.distinct new in
    rw cut (record {
      capacity = held.capacity;
      within = omega (arith, held.within, long, more);
      same = removed now rest x all (inserted known now (x ∷ sigs) sig held.same updates) distinct.0 (subst (λ (z : List ℕ). UpdatesBy byte_order (byte_order z) now rest false) (sym is_oldest) updated);
      distinct = distinct.1;
    })

pub held_without_room : (known now rest : BTreeSet (List ℕ)) (ring : Buffer (List ℕ)) (sig oldest : List ℕ) → AreHeld known ring → contains byte_order known sig ≡ false → Updates byte_order known now sig true
    → 65536 ≤ length ring.items → slice_get (ring.items ++ sig ∷ []) 0 ≡ Some oldest → UpdatesBy byte_order (byte_order oldest) now rest false
    → AreHeld rest (buffer (keep_last ring.capacity (ring.items ++ sig ∷ [])) ring.capacity)
held_without_room known now rest ring sig oldest held fresh updates full front updated = evicted ring.items ring.capacity known now rest sig oldest held fresh updates full front updated

-- ---- the answers

-- where the set has the signature
pub answer_known : (known : BTreeSet (List ℕ)) (ring : Buffer (List ℕ)) (sig : List ℕ) → AreHeld known ring → contains byte_order known sig ≡ true → IsTrue false ↔ ¬ (Contains ring.items sig)
answer_known known ring sig held has = (λ h. absurd (cc), λ absent. absurd (absent (contained sig ring.items (sym (held.same sig) ∙ has))))

pub answer_new : (known : BTreeSet (List ℕ)) (ring : Buffer (List ℕ)) (sig : List ℕ) → AreHeld known ring → contains byte_order known sig ≡ false → IsTrue true ↔ ¬ (Contains ring.items sig)
answer_new known ring sig held lacks = (λ _. not_contained sig ring.items (sym (held.same sig) ∙ lacks), λ _. refl)

pub history_known : (known : BTreeSet (List ℕ)) (ring : Buffer (List ℕ)) (sig : List ℕ) → AreHeld known ring → contains byte_order known sig ≡ true
    → (offered : List (List ℕ)) → StandsFor ring.items offered → (IsTrue false ↔ IsFresh offered sig) × StandsFor ring.items (offered ++ sig ∷ [])
history_known known ring sig held has offered stands =
    let answer : IsTrue false ↔ ¬ (Contains ring.items sig) = answer_known known ring sig held has in
    (subst (λ (items : List (List ℕ)). IsTrue false ↔ ¬ (Contains items sig)) stands answer, offered_again ring.items offered sig stands (sym (held.same sig) ∙ has))

pub history_new : (known : BTreeSet (List ℕ)) (ring : Buffer (List ℕ)) (sig : List ℕ) → AreHeld known ring → contains byte_order known sig ≡ false
    → (offered : List (List ℕ)) → StandsFor ring.items offered → (IsTrue true ↔ IsFresh offered sig) × StandsFor (recent (ring.items ++ sig ∷ [])) (offered ++ sig ∷ [])
history_new known ring sig held lacks offered stands =
    let answer : IsTrue true ↔ ¬ (Contains ring.items sig) = answer_new known ring sig held lacks in
    (subst (λ (items : List (List ℕ)). IsTrue true ↔ ¬ (Contains items sig)) stands answer, offered_first ring.items offered sig stands (sym (held.same sig) ∙ lacks))

-- ---- what the ring gives back

gives : (full : Bool) (front back : Option (List ℕ)) (oldest : List ℕ) → back ≡ cond full None front → back ≡ Some oldest → (full ≡ false) × (front ≡ Some oldest)
gives true front back oldest e is = absurd (cc)
gives false front back oldest e is = (refl, sym e ∙ is)

has_front : (items : List (List ℕ)) (sig : List ℕ) → slice_get (items ++ sig ∷ []) 0 ≡ None → ⊥
has_front [] sig e = cc
has_front (x ∷ xs) sig e = cc

pub evicted_at : (ring : Buffer (List ℕ)) (sig oldest : List ℕ) (back : Option (List ℕ)) → ring.capacity ≡ 65536 → back ≡ cond (nat_lt (length ring.items) ring.capacity) None (slice_get (ring.items ++ sig ∷ []) 0) → back ≡ Some oldest
    → (65536 ≤ length ring.items) × (slice_get (ring.items ++ sig ∷ []) 0 ≡ Some oldest)
evicted_at ring sig oldest back capacity e is =
    let given = gives (nat_lt (length ring.items) ring.capacity) (slice_get (ring.items ++ sig ∷ []) 0) back oldest e is in
    let test : nat_lt (length ring.items) 65536 ≡ false = rw (← capacity) given.0 in
    (grind (arith, nat_tests), given.1)

room_by : (room : Bool) (front back : Option (List ℕ)) → back ≡ cond room None front → back ≡ None → (front ≡ None → ⊥) → room ≡ true
room_by true front back e is there = refl
room_by false front back e is there = absurd (there (sym e ∙ is))

pub room_at : (ring : Buffer (List ℕ)) (sig : List ℕ) (back : Option (List ℕ)) → ring.capacity ≡ 65536 → back ≡ cond (nat_lt (length ring.items) ring.capacity) None (slice_get (ring.items ++ sig ∷ []) 0) → back ≡ None
    → length ring.items < 65536
room_at ring sig back capacity e is =
    let test = room_by (nat_lt (length ring.items) ring.capacity) (slice_get (ring.items ++ sig ∷ []) 0) back e is (has_front ring.items sig) in
    let given : nat_lt (length ring.items) 65536 ≡ true = rw (← capacity) test in
    grind (arith, nat_tests)
