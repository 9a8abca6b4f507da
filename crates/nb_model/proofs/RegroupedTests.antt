-- Tests of keys and values, in another order: tautologies over Bool.
use Rattle.std.proofs.Common.{◌≡◌, Bool, true, not, ◌&&◌, ◌||◌, refl}
use Rattle.nb_model.proofs.Tautologies.{always, same, from_same}

pub two_keys : (n1 n2 k m1 m2 : Bool) → (((n1 && (n2 && true)) && k) && (m1 && m2)) ≡ (((true && k) && (n1 && m1)) && (n2 && m2))
two_keys n1 n2 k m1 m2 =
    from_same (((n1 && (n2 && true)) && k) && (m1 && m2)) (((true && k) && (n1 && m1)) && (n2 && m2))
    (always 5 (λ n1 n2 k m1 m2. same (((n1 && (n2 && true)) && k) && (m1 && m2)) (((true && k) && (n1 && m1)) && (n2 && m2))) refl n1 n2 k m1 m2)

pub result_keys : (n1 n2 n3 k m1 m2 m3 : Bool) → (((n1 && (n2 && (n3 && true))) && k) && ((m1 && m2) && m3)) ≡ ((((true && k) && (n1 && m1)) && (n2 && m2)) && (n3 && m3))
result_keys n1 n2 n3 k m1 m2 m3 =
    from_same (((n1 && (n2 && (n3 && true))) && k) && ((m1 && m2) && m3)) ((((true && k) && (n1 && m1)) && (n2 && m2)) && (n3 && m3))
    (always 7 (λ n1 n2 n3 k m1 m2 m3. same (((n1 && (n2 && (n3 && true))) && k) && ((m1 && m2) && m3)) ((((true && k) && (n1 && m1)) && (n2 && m2)) && (n3 && m3))) refl n1 n2 n3 k m1 m2 m3)

pub error_keys : (n1 n2 n3 k m1 m2 m3 : Bool) → (((n1 && (n2 && (n3 && true))) && k) && (m1 && (m2 && m3))) ≡ ((((true && k) && (n1 && m1)) && (n2 && m2)) && (n3 && m3))
error_keys n1 n2 n3 k m1 m2 m3 =
    from_same (((n1 && (n2 && (n3 && true))) && k) && (m1 && (m2 && m3))) ((((true && k) && (n1 && m1)) && (n2 && m2)) && (n3 && m3))
    (always 7 (λ n1 n2 n3 k m1 m2 m3. same (((n1 && (n2 && (n3 && true))) && k) && (m1 && (m2 && m3))) ((((true && k) && (n1 && m1)) && (n2 && m2)) && (n3 && m3))) refl n1 n2 n3 k m1 m2 m3)

pub prose_keys : (n1 n2 n3 k m1 m2 m3 a : Bool) → (((true && (n1 && (n2 && (n3 && true)))) && k) && ((m1 && (m2 && m3)) && a)) ≡ (((true && k) && ((n1 && m1) && (n2 && m2) && (n3 && m3))) && a)
prose_keys n1 n2 n3 k m1 m2 m3 a =
    from_same (((true && (n1 && (n2 && (n3 && true)))) && k) && ((m1 && (m2 && m3)) && a)) (((true && k) && ((n1 && m1) && (n2 && m2) && (n3 && m3))) && a)
    (always 8 (λ n1 n2 n3 k m1 m2 m3 a. same (((true && (n1 && (n2 && (n3 && true)))) && k) && ((m1 && (m2 && m3)) && a)) (((true && k) && ((n1 && m1) && (n2 && m2) && (n3 && m3))) && a)) refl n1 n2 n3 k m1 m2 m3 a)

pub code_keys : (n1 n2 n3 n4 n5 k m1 m2 m3 m4 m5 : Bool) → (((true && (n1 && (n2 && (n3 && (n4 && (n5 && true)))))) && k) && ((m1 && (m2 && m3)) && (m5 && m4)))
    ≡ ((((true && k) && ((n1 && m1) && (n2 && m2) && (n3 && m3))) && (n4 && m4)) && (n5 && m5))
code_keys n1 n2 n3 n4 n5 k m1 m2 m3 m4 m5 =
    from_same (((true && (n1 && (n2 && (n3 && (n4 && (n5 && true)))))) && k) && ((m1 && (m2 && m3)) && (m5 && m4))) ((((true && k) && ((n1 && m1) && (n2 && m2) && (n3 && m3))) && (n4 && m4)) && (n5 && m5))
    (always 11 (λ n1 n2 n3 n4 n5 k m1 m2 m3 m4 m5. same (((true && (n1 && (n2 && (n3 && (n4 && (n5 && true)))))) && k) && ((m1 && (m2 && m3)) && (m5 && m4)))
    ((((true && k) && ((n1 && m1) && (n2 && m2) && (n3 && m3))) && (n4 && m4)) && (n5 && m5))) refl n1 n2 n3 n4 n5 k m1 m2 m3 m4 m5)

pub top_level_keys : (n1 n2 k m1 m2 d : Bool) → ((((n1 && (true && (true && (n2 && true)))) && k) && (m1 && m2)) && d) ≡ (((((true && k) && true) && true) && (n1 && m1)) && (n2 && (m2 && d)))
top_level_keys n1 n2 k m1 m2 d =
    from_same ((((n1 && (true && (true && (n2 && true)))) && k) && (m1 && m2)) && d) (((((true && k) && true) && true) && (n1 && m1)) && (n2 && (m2 && d)))
    (always 6 (λ n1 n2 k m1 m2 d. same ((((n1 && (true && (true && (n2 && true)))) && k) && (m1 && m2)) && d) (((((true && k) && true) && true) && (n1 && m1)) && (n2 && (m2 && d)))) refl n1 n2 k m1 m2 d)

pub kernelspec_keys : (o n1 n2 m1 m2 : Bool) → (o && ((n1 && (n2 && true)) && (m1 && m2))) ≡ ((o && (n1 && m1)) && (n2 && m2))
kernelspec_keys o n1 n2 m1 m2 =
    from_same (o && ((n1 && (n2 && true)) && (m1 && m2))) ((o && (n1 && m1)) && (n2 && m2))
    (always 5 (λ o n1 n2 m1 m2. same (o && ((n1 && (n2 && true)) && (m1 && m2))) ((o && (n1 && m1)) && (n2 && m2))) refl o n1 n2 m1 m2)

pub one_key : (o n m : Bool) → (o && ((n && true) && m)) ≡ (o && (n && m))
one_key o n m = from_same (o && ((n && true) && m)) (o && (n && m)) (always 3 (λ o n m. same (o && ((n && true) && m)) (o && (n && m))) refl o n m)

pub version_first : (o k a b m c : Bool) → (((((o && k) && a) && b) && m) && c) ≡ ((a && b) && (((o && k) && m) && c))
version_first o k a b m c =
    from_same (((((o && k) && a) && b) && m) && c) ((a && b) && (((o && k) && m) && c))
    (always 6 (λ o k a b m c. same (((((o && k) && a) && b) && m) && c) ((a && b) && (((o && k) && m) && c))) refl o k a b m c)

pub one_more : (a b p q : Bool) → (not (a || b) && (p && not q)) ≡ ((not b && p) && not (a || q))
one_more a b p q =
    from_same (not (a || b) && (p && not q)) ((not b && p) && not (a || q)) (always 4 (λ a b p q. same (not (a || b) && (p && not q)) ((not b && p) && not (a || q))) refl a b p q)

pub one_taken : (p q d : Bool) → ((p && not q) && d) ≡ ((true && p) && (not q && d))
one_taken p q d = from_same ((p && not q) && d) ((true && p) && (not q && d)) (always 3 (λ p q d. same ((p && not q) && d) ((true && p) && (not q && d))) refl p q d)
