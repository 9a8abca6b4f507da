-- What holds of a kernel spec without a fault.
use Rattle.std.proofs.Common.{◌≡◌, ℕ, ◌<◌, ◌≤◌, Bool, true, false, List, [], ◌∷◌, map, length, Option, Some, None, if◌then◌else◌, ◌&&◌, not, nat_le, All, codes, sym, subst, refl, arith}
use Rattle.std.proofs.lemmas.Bool.{and_parts, leb-true}
use Rattle.std.proofs.lemmas.List.{length-map}
use Rattle.std.proofs.lemmas.List.Elements.{All-nil, All-cons}
use Rattle.std.specs.List.{list_all}
use Rattle.jtext.specs.declared.json.Json.{Json}
use Rattle.jtext.specs.Find.{field, fields}
use Rattle.jtext.specs.Look.{is_object, is_string, is_strings, items, text_of, there_and, absent_or, items_of}
use Rattle.kspec.specs.declared.spec_fault.SpecFault.TheVariants.{NotJson, NoArgv, BadEnv, SignalMode}
use Rattle.kspec.specs.declared.start.Spec.{Spec}
use Rattle.kspec.specs.KernelJson.{spec_of, is_argv, is_env, pairs_of, fault_of, is_by_message, CanStart}

-- where no fault is first, the second and the third test hold
no_fault : (a b c d : Bool)
    → (if not a then Some NotJson else if not b then Some NoArgv else if not c then Some BadEnv else if d then Some SignalMode else None) ≡ None
    → (b ≡ true) × (c ≡ true)
no_fault false b c d e = absurd cc
no_fault true false c d e = absurd cc
no_fault true true false d e = absurd cc
no_fault true true true d e = (refl, refl)

-- there is a word
has_word : (o : Option Json) → there_and is_argv o ≡ true → 0 < length (map text_of (items_of o))
has_word None e = absurd cc
has_word (Some v) e =
    let some : 1 ≤ length (items v) = leb-true 1 (length (items v)) (and_parts (is_strings v) (nat_le 1 (length (items v))) e).1 in
    omega (arith, length-map (items v) text_of)

strings_of : (ps : List (List ℕ × Json)) → list_all (λ p. is_string p.1) ps ≡ true → All (λ p. is_string p.1 ≡ true) ps
strings_of [] e = All-nil (λ p. is_string p.1 ≡ true)
strings_of (p ∷ ps) e =
    let both = and_parts (is_string p.1) (list_all (λ q. is_string q.1) ps) e in
    All-cons (λ q. is_string q.1 ≡ true) p ps both.0 (strings_of ps both.1)

-- each variable has a string
has_strings : (o : Option Json) → absent_or is_env o ≡ true → All (λ variable. is_string variable.1 ≡ true) (pairs_of o)
has_strings None e = All-nil (λ p. is_string p.1 ≡ true)
has_strings (Some v) e = strings_of (fields v) (and_parts (is_object v) (list_all (λ p. is_string p.1) (fields v)) e).1

-- a program can be started by what such a tree says
pub can_start : (interrupt : Bool) (t : Json) (s : Spec) → fault_of interrupt t ≡ None → s ≡ spec_of t → CanStart s
can_start interrupt t s faultless told =
    let tests = no_fault (is_object t) (there_and is_argv (field t (codes "argv"))) (absent_or is_env (field t (codes "env"))) (interrupt && not (is_by_message t)) faultless in
    subst CanStart (sym told) (record { program = has_word (field t (codes "argv")) tests.0; strings = has_strings (field t (codes "env")) tests.1 })
