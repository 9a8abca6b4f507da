-- A refusal of the reader is of the one fault that stands.
use Rattle.std.proofs.Common.{◌≡◌, ℕ, suc, ◌+◌, ◌-◌, ◌<◌, ◌⊎◌, List, [], ◌∷◌, ◌++◌, length, Result, Ok, Err, inl, inr, refl, sym, ap, ap₂, ◌∙◌, subst, append_assoc, arith}
use Rattle.std.proofs.lemmas.Bool.{cases_lt}
use Rattle.std.proofs.lemmas.List.{length-append, append-nil, take_all}
use Rattle.std.specs.Str.{IsUtf8, IsValidUpTo}
use Rattle.jtext.specs.declared.json.Json.{Json}
use Rattle.jtext.specs.declared.fault.Fault.{Fault}
use Rattle.jtext.specs.declared.fault.Fault.TheVariants.{NoMemory, Bad, Deep, Repeated, Lone}
use Rattle.jtext.specs.declared.fault.JsonFault.{JsonFault}
use Rattle.jtext.specs.declared.fault.JsonFault.TheVariants as json_fault
use Rattle.jtext.specs.Gives.{Fails, fault_within}
use Rattle.jtext.specs.Loose.{IsText, NoneGoesOn, Broken}
use Rattle.jtext.proofs.Machine as machine
use Rattle.jtext.proofs.LooseRuns.{loose_runs}
use Rattle.jtext.proofs.LooseSplits.{loose_text}
use Rattle.jtext.specs.Reading.{skip_spaces, value_at, document_at, at_end}
use Rattle.jtext.specs.Refusal.{outermost, IsDeep, IsRepeated, IsAlone, HasNone, Refused, Stands, Answers}
use Rattle.jtext.proofs.Lones.{bind_err, no_err, fault_is}
use Rattle.jtext.proofs.Series.{spaces_sound}
use Rattle.jtext.proofs.Standings.{Stood, value_stands}
use Rattle.jtext.proofs.Founds.{deep_found, repeated_found, alone_found}
use Rattle.jtext.proofs.Documents.{document_spells}
use Rattle.jtext.proofs.Texts.{spells_text}
use Rattle.jtext.proofs.Places.{placed}
use Rattle.jtext.proofs.Only.{never}

-- ---- bytes that are not UTF-8

pub not_both : (b : List ℕ) (n : ℕ) → IsUtf8 b → IsValidUpTo b n → ⊥
not_both b n u v = v.longest (length b) v.short (subst IsUtf8 (sym (take_all (length b) b (omega arith))) u)

pub one_length : (b : List ℕ) (m n : ℕ) → IsValidUpTo b m → IsValidUpTo b n → m ≡ n
one_length b m n v w =
    elim (cases_lt m n) [
      | inl less ↦ absurd (v.longest n less w.front)
      | inr past ↦ elim (cases_lt n m) [ inl more ↦ absurd (w.longest m more v.front) | inr same ↦ omega arith ]
    ]

-- ---- the whole text

end_stands : (deep : ℕ) (b : List ℕ) (t : Json) (s : List ℕ) (f : Fault) → at_end t s ≡ Err f → Stood deep b f
end_stands deep b t [] f e = absurd (no_err _ f e)
end_stands deep b t (c ∷ cs) f e = subst (Stood deep b) (fault_is {A = Json} (Bad (suc (length cs))) f e) tt

document_stands : (deep : ℕ) (b : List ℕ) (f : Fault) → document_at deep b ≡ Err f → Stood deep b f
document_stands deep b f e =
    let w = spaces_sound b in
    elim (bind_err (value_at deep (skip_spaces b)) _ f e) [
      | inl h ↦ subst (λ x. Stood deep x f) (sym w.2) (value_stands deep deep w.0 (skip_spaces b) f (outermost w.0 w.1) h)
      | inr (p, is_p, g) ↦ end_stands deep b p.0 (skip_spaces p.1) f g
    ]

-- ---- one fault

differ_faults : (f g : Fault) (r : Result Json Fault) → r ≡ Err f → r ≡ Err g → f ≡ g
differ_faults f g r d e = fault_is {A = Json} f g (sym d ∙ e)

pub none_stands : (deep k : ℕ) (b : List ℕ) → document_at deep b ≡ Err (Bad k) → HasNone deep b
none_stands deep k b e =
    record {
      not_deep = λ n h. let same = differ_faults (Bad k) (Deep (length h.right)) (document_at deep b) e (deep_found deep b n h) in cc;
      not_repeated = λ n h. let same = differ_faults (Bad k) (Repeated (length h.right)) (document_at deep b) e (repeated_found deep b n h) in cc;
      not_alone = λ n h. let same = differ_faults (Bad k) (Lone (length h.right)) (document_at deep b) e (alone_found deep b n h) in cc;
    }

-- ---- one longest front

longer : (a r c s : List ℕ) → a ++ r ≡ c ++ s → length a < length c → (d : ℕ) × (e : List ℕ) × (c ≡ a ++ d ∷ e) × (r ≡ d ∷ (e ++ s))
longer [] r [] s same less = absurd (omega arith)
longer [] r (d ∷ e) s same less = (d, e, refl, same)
longer (x ∷ a) r [] s same less = absurd (omega arith)
longer (x ∷ a) r (y ∷ c) s same less =
    let first : x ≡ y = cc in
    let rest : a ++ r ≡ c ++ s = cc in
    let (d, e, is, tail) = longer a r c s rest (omega arith) in
    (d, e, ap₂ (λ u v. u ∷ v) (sym first) is, tail)

not_longer : (b : List ℕ) (m n : ℕ) → Broken b m → Broken b n → m < n → ⊥
not_longer b m n v w less =
    let (d, e, is, tail) = longer v.front v.rest w.front w.rest (sym v.split ∙ w.split) (omega (arith, v.here, w.here, less)) in
    let ends : NoneGoesOn v.front (d ∷ (e ++ w.rest)) = subst (NoneGoesOn v.front) tail v.ends in
    ends (e ++ w.begun.0) (subst IsText (ap (λ x. x ++ w.begun.0) is ∙ append_assoc v.front (d ∷ e) w.begun.0) w.begun.1)

one_front : (b : List ℕ) (m n : ℕ) → Broken b m → Broken b n → m ≡ n
one_front b m n v w =
    elim (cases_lt m n) [
      | inl less ↦ absurd (not_longer b m n v w less)
      | inr past ↦ elim (cases_lt n m) [ inl more ↦ absurd (not_longer b n m w v more) | inr same ↦ omega arith ]
    ]

broken_no_text : (b : List ℕ) (n : ℕ) → Broken b n → IsText b → ⊥
broken_no_text b n v is = go v.rest v.split v.ends
  where
    go : (rest : List ℕ) → b ≡ v.front ++ rest → NoneGoesOn v.front rest → ⊥
    go [] split ends = ends (subst IsText (split ∙ append-nil v.front) is)
    go (c ∷ cs) split ends = ends cs (subst IsText split is)

-- ---- the machine's place is the grammar's

none_goes_on : (front rest : List ℕ) → machine.NoneGoesOn front rest → NoneGoesOn front rest
none_goes_on front [] ends = λ t. ends (loose_runs front t)
none_goes_on front (c ∷ cs) ends = λ more t. ends more (loose_runs (front ++ c ∷ more) t)

broken_here : (b : List ℕ) (n : ℕ) → machine.Broken b n → Broken b n
broken_here b n m =
    record { front = m.front; rest = m.rest; split = m.split; here = m.here; begun = (m.begun.0, loose_text (m.front ++ m.begun.0) m.begun.1); ends = none_goes_on m.front m.rest m.ends }

-- ---- what the reader answers

-- the fault with k bytes from its place on, at that place
at_place : (deep n k : ℕ) (b : List ℕ) → n + k ≡ length b → length b - k ≡ n
at_place deep n k b e = omega (arith, e)

pub stands : (deep : ℕ) (b s : List ℕ) (f : Fault) (g : JsonFault) → s ≡ b → IsUtf8 b → Fails f (document_at deep s) → g ≡ fault_within f (length s) → Stands deep b (Err g)
stands deep b s NoMemory g e u fails is = subst (λ x. Stands deep b (Err x)) (sym is) tt
stands deep b s (Bad k) g e u fails is =
    let place : Broken b (length s - k) = broken_here b (length s - k) (placed deep b s (Bad k) (json_fault.Bad (length s - k)) e fails refl) in
    subst (λ x. Stands deep b (Err x)) (sym is) (u, place, none_stands deep k b (ap (document_at deep) (sym e) ∙ fails))
stands deep b s (Deep k) g e u fails is =
    let (n, h, at) = document_stands deep b (Deep k) (ap (document_at deep) (sym e) ∙ fails) in
    subst (λ x. Stands deep b (Err x)) (sym is) (u, subst (IsDeep deep b) (sym (at_place deep n k s (at ∙ ap length (sym e)))) h)
stands deep b s (Repeated k) g e u fails is =
    let (n, h, at) = document_stands deep b (Repeated k) (ap (document_at deep) (sym e) ∙ fails) in
    subst (λ x. Stands deep b (Err x)) (sym is) (u, subst (IsRepeated deep b) (sym (at_place deep n k s (at ∙ ap length (sym e)))) h)
stands deep b s (Lone k) g e u fails is =
    let (n, h, at) = document_stands deep b (Lone k) (ap (document_at deep) (sym e) ∙ fails) in
    subst (λ x. Stands deep b (Err x)) (sym is) (u, subst (IsAlone deep b) (sym (at_place deep n k s (at ∙ ap length (sym e)))) h)

pub read_not_refused : (deep : ℕ) (b s : List ℕ) (t : Json) (g : JsonFault) → s ≡ b → IsUtf8 b → document_at deep s ≡ Ok t → Refused deep b g → ⊥
read_not_refused deep b s t (json_fault.NotUtf8 n) e u read v = not_both b n u v
read_not_refused deep b s t (json_fault.Bad n) e u read (v, place, none) = broken_no_text b n place (loose_text b (spells_text t b (document_spells deep b s t e u read).0))
read_not_refused deep b s t (json_fault.Deep n) e u read (v, h) = never t (Deep (length h.right)) (document_at deep b) (ap (document_at deep) (sym e) ∙ read) (deep_found deep b n h)
read_not_refused deep b s t (json_fault.Repeated n) e u read (v, h) = never t (Repeated (length h.right)) (document_at deep b) (ap (document_at deep) (sym e) ∙ read) (repeated_found deep b n h)
read_not_refused deep b s t (json_fault.Lone n) e u read (v, h) = never t (Lone (length h.right)) (document_at deep b) (ap (document_at deep) (sym e) ∙ read) (alone_found deep b n h)
read_not_refused deep b s t json_fault.NoMemory e u read v = v

left_of : (b left right : List ℕ) (n : ℕ) → b ≡ left ++ right → length left ≡ n → n ≡ length b - length right
left_of b left right n split here = omega (arith, ap length split, length-append left right, here)

of_deep : (deep : ℕ) (b : List ℕ) (f : Fault) (n : ℕ) → document_at deep b ≡ Err f → IsDeep deep b n → json_fault.Deep n ≡ fault_within f (length b)
of_deep deep b f n fails h =
    let same = differ_faults (Deep (length h.right)) f (document_at deep b) (deep_found deep b n h) fails in
    ap json_fault.Deep (left_of b h.left h.right n h.split h.here) ∙ ap (λ x. fault_within x (length b)) same

of_repeated : (deep : ℕ) (b : List ℕ) (f : Fault) (n : ℕ) → document_at deep b ≡ Err f → IsRepeated deep b n → json_fault.Repeated n ≡ fault_within f (length b)
of_repeated deep b f n fails h =
    let same = differ_faults (Repeated (length h.right)) f (document_at deep b) (repeated_found deep b n h) fails in
    ap json_fault.Repeated (left_of b h.left h.right n h.split h.here) ∙ ap (λ x. fault_within x (length b)) same

of_alone : (deep : ℕ) (b : List ℕ) (f : Fault) (n : ℕ) → document_at deep b ≡ Err f → IsAlone deep b n → json_fault.Lone n ≡ fault_within f (length b)
of_alone deep b f n fails h =
    let same = differ_faults (Lone (length h.right)) f (document_at deep b) (alone_found deep b n h) fails in
    ap json_fault.Lone (left_of b h.left h.right n h.split h.here) ∙ ap (λ x. fault_within x (length b)) same

of_bad : (deep : ℕ) (b : List ℕ) (f : Fault) (n : ℕ) → Stands deep b (Err (fault_within f (length b))) → Broken b n → HasNone deep b → Answers (Err (fault_within f (length b))) (json_fault.Bad n)
of_bad deep b NoMemory n stood place none = tt
of_bad deep b (Bad k) n (u, here, others) place none = ap json_fault.Bad (one_front b n (length b - k) place here)
of_bad deep b (Deep k) n (u, h) place none = absurd (none.not_deep (length b - k) h)
of_bad deep b (Repeated k) n (u, h) place none = absurd (none.not_repeated (length b - k) h)
of_bad deep b (Lone k) n (u, h) place none = absurd (none.not_alone (length b - k) h)

failing : (f : Fault) (r : Result Json Fault) → Fails f r → (f ≡ NoMemory) ⊎ (r ≡ Err f)
failing NoMemory r fails = inl refl
failing (Bad k) r fails = inr fails
failing (Deep k) r fails = inr fails
failing (Repeated k) r fails = inr fails
failing (Lone k) r fails = inr fails

answered_here : (deep : ℕ) (b : List ℕ) (f : Fault) (g : JsonFault) → IsUtf8 b → Fails f (document_at deep b) → Refused deep b g → Answers (Err (fault_within f (length b))) g
answered_here deep b f g u fails refused =
    elim (failing f (document_at deep b) fails) [
      | inl e ↦ subst (λ x. Answers (Err (fault_within x (length b))) g) (sym e) tt
      | inr e ↦ go g refused e
    ]
  where
    by : (g : JsonFault) → document_at deep b ≡ Err f → g ≡ fault_within f (length b) → Answers (Err (fault_within f (length b))) g
    by g e is = by_cases f g fails is
      where
        by_cases : (f : Fault) (g : JsonFault) → Fails f (document_at deep b) → g ≡ fault_within f (length b) → Answers (Err (fault_within f (length b))) g
        by_cases NoMemory g fails is = tt
        by_cases (Bad k) g fails is = is
        by_cases (Deep k) g fails is = is
        by_cases (Repeated k) g fails is = is
        by_cases (Lone k) g fails is = is

    go : (g : JsonFault) → Refused deep b g → document_at deep b ≡ Err f → Answers (Err (fault_within f (length b))) g
    go (json_fault.NotUtf8 n) v e = absurd (not_both b n u v)
    go (json_fault.Bad n) (v, place, none) e = of_bad deep b f n (stands deep b b f (fault_within f (length b)) refl u fails refl) place none
    go (json_fault.Deep n) (v, h) e = by (json_fault.Deep n) e (of_deep deep b f n e h)
    go (json_fault.Repeated n) (v, h) e = by (json_fault.Repeated n) e (of_repeated deep b f n e h)
    go (json_fault.Lone n) (v, h) e = by (json_fault.Lone n) e (of_alone deep b f n e h)
    go json_fault.NoMemory v e = absurd v

pub answered : (deep : ℕ) (b s : List ℕ) (f : Fault) (g h : JsonFault) → s ≡ b → IsUtf8 b → Fails f (document_at deep s) → h ≡ fault_within f (length s) → Refused deep b g → Answers (Err h) g
answered deep b s f g h e u fails is refused =
    let here : h ≡ fault_within f (length b) = is ∙ ap (λ x. fault_within f (length x)) e in
    subst (λ x. Answers (Err x) g) (sym here) (answered_here deep b f g u (subst (λ x. Fails f (document_at deep x)) e fails) refused)

-- bytes that are not UTF-8 have no other fault
pub not_utf8_answered : (deep n : ℕ) (b : List ℕ) (g : JsonFault) → IsValidUpTo b n → Refused deep b g → Answers (Err (json_fault.NotUtf8 n)) g
not_utf8_answered deep n b (json_fault.NotUtf8 m) v w = ap json_fault.NotUtf8 (one_length b m n w v)
not_utf8_answered deep n b (json_fault.Bad m) v (u, place, none) = absurd (not_both b n u v)
not_utf8_answered deep n b (json_fault.Deep m) v (u, h) = absurd (not_both b n u v)
not_utf8_answered deep n b (json_fault.Repeated m) v (u, h) = absurd (not_both b n u v)
not_utf8_answered deep n b (json_fault.Lone m) v (u, h) = absurd (not_both b n u v)
not_utf8_answered deep n b json_fault.NoMemory v h = absurd h
