-- A unit after READY in front of octets, by what was read of it.
use Rattle.std.proofs.Common.{◌≡◌, ◌≢◌, ℕ, ◌+◌, ◌≤◌, ◌<◌, true, false, nat_le}
use Rattle.std.proofs.Common.{nat_eq, List, [], ◌∷◌, ◌++◌, length, take, drop, refl, ap, sym, ◌∙◌}
use Rattle.std.proofs.Common.{arith, length-append, append_assoc, subst, ◌&&◌}
use Rattle.std.proofs.lemmas.Bool.{and_parts}
use Rattle.std.proofs.lemmas.Bool.Decides.{nat_tests}
use Rattle.std.specs.List.{starts_with}
use Rattle.std.proofs.lemmas.List.{take-append-drop, length-take-le}
use Rattle.jtext.proofs.Lists.{and_three}
use Rattle.zmtp_wire.specs.declared.role.Role.{Role}
use Rattle.zmtp_wire.specs.declared.fault.WireFault.{WireFault}
use Rattle.zmtp_wire.specs.declared.cause.Cause.TheVariants as cause
use Rattle.zmtp_wire.specs.Fault.{clip, fault_at}
use Rattle.zmtp_wire.specs.Command.{error_name}
use Rattle.zmtp_wire.specs.Frame.{is_allowed, is_command, is_more, size_len, size_of}
use Rattle.zmtp_wire.specs.Front.{Takes, Fails, begins_error, room_beside}
use Rattle.zmtp_wire.specs.Stream.{Item, item_of, shaken}
use Rattle.zmtp_wire.specs.Stream.{unit, open_after, IsPart, room_for}
use Rattle.zmtp_wire.specs.Stream as W
use Rattle.zmtp_wire.proofs.ListLemmas.{same_start}
use Rattle.zmtp_wire.proofs.ListLemmas.{len_of_some}
use Rattle.zmtp_wire.proofs.TurnLemmas.{size_pos}
use Rattle.zmtp_wire.proofs.FrontLemmas.{size_front, LaterFits, later_passes, later_part, fails_later}
use Rattle.zmtp_wire.proofs.FrontLemmas.{HasSize, heads, front_of, cut_body}

-- the flag was passed where these frames stand open
pub record HasFlag (items : List Item) (b : List ℕ) (f : ℕ) (r : List ℕ) (frames : List (List ℕ)) : Type 0 where
  pub stands : open_after [] items ≡ frames
  pub spelled : b ≡ f ∷ r
  pub allowed : is_allowed f ≡ true
  pub few : (is_more f && nat_eq (length frames) 63) ≡ false

few_items : (items : List Item) (b : List ℕ) (f : ℕ) (r : List ℕ) (frames : List (List ℕ))
    → HasFlag items b f r frames → (is_more f && nat_eq (length (open_after [] items)) 63) ≡ false
few_items items b f r frames h = ap (λ t. is_more f && nat_eq (length t) 63) h.stands ∙ h.few

pub later_size_part : (role : Role) (g : List ℕ) (items : List Item) (b : List ℕ) (f : ℕ) (r : List ℕ)
    (frames : List (List ℕ)) → HasFlag items b f r frames → length r < size_len f → IsPart role (shaken g items) b
later_size_part role g items b f r frames h w =
    let fits : LaterFits g items f r = record {
      allowed = h.allowed;
      few = few_items items b f r frames h;
      small = λ k. absurd (omega arith);
      harmless = λ t x k. absurd (omega arith);
    } in
    subst (λ (t : List ℕ). IsPart role (shaken g items) t) (sym h.spelled)
    (later_part role g items f r (record { allowed = h.allowed; within = λ k. absurd (omega arith) }) fits)

-- the size is within the room
room_of : (g : List ℕ) (items : List Item) (f room : ℕ) (frames : List (List ℕ)) → open_after [] items ≡ frames
    → room ≡ room_beside frames f → room ≡ room_for (shaken g items) f
room_of g items f room frames o e = e ∙ ap (λ t. room_beside t f) (sym o)

no_error : (f size : ℕ) (rest t : List ℕ) → begins_error f size rest ≡ false
    → is_command f ≡ true → 6 ≤ size → rest ≡ error_name ++ t → ⊥
no_error f size rest t e c w s =
    let six : nat_le 6 size ≡ true = grind (arith, nat_tests) in
    let text : starts_with nat_eq rest error_name ≡ true = ap (λ u. starts_with nat_eq u error_name) s in
    let no : true ≡ false = sym (and_three _ _ _ c six text) ∙ e in
    absurd (cc)

pub later_body_part : (role : Role) (g : List ℕ) (items : List Item) (b : List ℕ) (f : ℕ) (r : List ℕ)
    (frames : List (List ℕ)) (size room : ℕ) (rest : List ℕ) → HasFlag items b f r frames → HasSize f r size rest
    → room ≡ room_beside frames f → size ≤ room
    → begins_error f size rest ≡ false → length rest < size
    → IsPart role (shaken g items) b
later_body_part role g items b f r frames size room rest h s e w x l =
    let d = ap length s.2 in
    let within : length (drop (size_len f) r) < size_of (take (size_len f) r) = omega (arith, s.1) in
    let free = room_of g items f room frames h.stands e in
    let fits : LaterFits g items f r = record {
      allowed = h.allowed;
      few = few_items items b f r frames h;
      small = λ k. omega (arith, s.1);
      harmless = λ t y k z u. no_error f size rest t x y (omega (arith, s.1)) (s.2 ∙ u);
    } in
    subst (λ (t : List ℕ). IsPart role (shaken g items) t) (sym h.spelled)
    (later_part role g items f r (record { allowed = h.allowed; within = λ k. within }) fits)

pub later_too_long : (role : Role) (g : List ℕ) (items : List Item) (at : ℕ) (b : List ℕ) (f : ℕ) (r : List ℕ)
    (frames : List (List ℕ)) (size room n last : ℕ) (rest : List ℕ) (e : WireFault) → HasFlag items b f r frames
    → HasSize f r size rest
    → room ≡ room_beside frames f → room < size → n ≡ size_len f → last ≡ clip (at + n)
    → e ≡ fault_at last (cause.TooLong size) → Fails role (shaken g items) at b e
later_too_long role g items at b f r frames size room n last rest e h s ro w nn l x =
    let o = take (size_len f) r in
    let len : length o ≡ size_len f = length-take-le (size_len f) r s.0 in
    let free = room_of g items f room frames h.stands ro in
    let much : room_for (shaken g items) f < size_of o = omega (arith, s.1) in
    let parts : (p m : List ℕ) → m ≢ [] → p ++ m ≡ o → IsPart role (shaken g items) (f ∷ p) = λ p m ne q.
    let short : length p < size_len f = let k = ap length q in let j = len_of_some m ne in omega
    (arith, length-append p m) in
    let fits : LaterFits g items f p = record {
      allowed = h.allowed;
      few = few_items items b f r frames h;
      small = λ k. absurd (omega arith);
      harmless = λ t y k. absurd (omega arith);
    } in
    later_part role g items f p (record { allowed = h.allowed; within = λ k. absurd (omega arith) }) fits in
    let place : last ≡ clip (at + length o) = omega arith in
    fails_later role (shaken g items) at b f o (drop (size_len f) r) (cause.TooLong (size_of o)) e
    (h.spelled ∙ ap (λ u. f ∷ u) (sym (take-append-drop (size_len f) r))) (let k = size_pos f in omega arith)
    (W.too_long g items (f ∷ o) f o (heads f r h.allowed s.0) much) parts
    (x ∙ ap (λ k. fault_at last (cause.TooLong k)) s.1 ∙ ap (λ k. fault_at k (cause.TooLong (size_of o))) place)

pub later_error : (role : Role) (g : List ℕ) (items : List Item) (at : ℕ) (b : List ℕ) (f : ℕ) (r : List ℕ)
    (frames : List (List ℕ)) (size room n last place : ℕ) (rest : List ℕ) (e : WireFault)
    → HasFlag items b f r frames → HasSize f r size rest
    → room ≡ room_beside frames f → size ≤ room
    → begins_error f size rest ≡ true → n ≡ size_len f
    → last ≡ clip (at + n) → place ≡ clip (last + 6)
    → e ≡ fault_at place cause.PeerError → Fails role (shaken g items) at b e
later_error role g items at b f r frames size room n last place rest e h s ro w er nn l pl x =
    let o = take (size_len f) r in
    let len : length o ≡ size_len f = length-take-le (size_len f) r s.0 in
    let free = room_of g items f room frames h.stands ro in
    let k = and_parts (is_command f && nat_le 6 size) (starts_with nat_eq rest error_name) er in
    let j = and_parts (is_command f) (nat_le 6 size) k.0 in
    let six : 6 ≤ size = let y = j.1 in grind (arith, nat_tests) in
    let many : 6 ≤ size_of o = omega (arith, s.1) in
    let text : error_name ++ drop 6 rest ≡ rest = same_start error_name rest k.1 in
    let whole_text : r ≡ (o ++ error_name) ++ drop 6 rest = sym (take-append-drop (size_len f) r)
    ∙ ap (λ u. o ++ u) (sym s.2 ∙ sym text) ∙ sym (append_assoc o error_name (drop 6 rest)) in
    let all : length (o ++ error_name) ≡ size_len f + 6 = length-append o error_name ∙ ap (λ y. y + 6) len in
    let parts : (p m : List ℕ) → m ≢ [] → p ++ m ≡ o ++ error_name
    → IsPart role (shaken g items) (f ∷ p) = λ p m ne q.
    let within : size_len f ≤ length p → length (drop (size_len f) p) < size_of
    (take (size_len f) p) = λ y. let z = front_of f p m o error_name ne q len y in let sz = ap size_of z.0 in omega
    (arith, z.1) in
    let fits : LaterFits g items f p = record {
      allowed = h.allowed;
      few = few_items items b f r frames h;
      small = λ y. let z = front_of f p m o error_name ne q len y in let sz = ap size_of z.0 in omega (arith, s.1);
      harmless = λ t v y u d. let z = front_of f p m o error_name ne q len y in let dl = ap length d in absurd
          (omega (arith, z.1, length-append error_name t));
    } in
    later_part role g items f p (record { allowed = h.allowed; within = within }) fits in
    let here : place ≡ clip (at + length (o ++ error_name)) = omega arith in
    fails_later role (shaken g items) at b f (o ++ error_name) (drop 6 rest) cause.PeerError e
    (h.spelled ∙ ap (λ u. f ∷ u) whole_text) (omega arith)
    (W.peer_error g items (f ∷ (o ++ error_name)) f o (heads f r h.allowed s.0) j.0 many refl) parts
    (x ∙ ap (λ y. fault_at y cause.PeerError) here)

pub later_takes : (role : Role) (g : List ℕ) (items : List Item) (b : List ℕ) (f : ℕ) (r : List ℕ)
    (frames : List (List ℕ)) (size room : ℕ) (rest body after : List ℕ) → HasFlag items b f r frames
    → HasSize f r size rest
    → room ≡ room_beside frames f → size ≤ room
    → begins_error f size rest ≡ false → rest ≡ body ++ after
    → length body ≡ size
    → Takes role (shaken g items) (shaken g (items ++ item_of f body ∷ [])) b after
later_takes role g items b f r frames size room rest body after h s ro w er e l =
    let o = take (size_len f) r in
    let k = cut_body f r rest body after size s e l h.allowed in
    let t = size_front f (o ++ body) o body refl (length-take-le (size_len f) r s.0) in
    let free = room_of g items f room frames h.stands ro in
    let fits : LaterFits g items f (o ++ body) = record {
      allowed = h.allowed;
      few = few_items items b f r frames h;
      small = λ y. let z = ap size_of t.0 in omega (arith, s.1);
      harmless = λ u v y z d. let sz = ap size_of t.0 in no_error f size rest (u ++ after) er v
          (omega (arith, s.1)) (e ∙ ap (λ q. q ++ after) (sym t.1 ∙ d) ∙ append_assoc error_name u after);
    } in
    record {
      front = f ∷ (o ++ body);
      spelled = h.spelled ∙ ap (λ u. f ∷ u) k.1;
      completes = unit g items (item_of f body) (f ∷ (o ++ body)) k.0;
      passes = later_passes role g items f (o ++ body) fits;
    }
