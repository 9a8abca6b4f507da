-- One octet more: a test fails, or something is whole, or a part has grown.
use Rattle.std.proofs.lemmas.Bool.{and_parts, cond-false, cond-true, ltb-true, ltb-false, eqb-true, eqb-false}
use Rattle.std.proofs.Common.{◌≡◌, ◌≢◌, ℕ, zero, suc, ◌+◌, ◌-◌, ◌≤◌, ◌<◌, Bool, true, false, cond, nat_lt, nat_eq, List, [], ◌∷◌, ◌++◌, length, take, drop, Option, None, Some, refl, ap, sym, ◌∙◌, arith, length-append, append_assoc, append-nil, ◌⊎◌, inl, inr, subst, ◌&&◌, replicate}
use Rattle.std.proofs.lemmas.Bool.Decides.{nat_tests}
use Rattle.std.specs.Prelude.{sum_by, fold}
use Rattle.std.specs.List.{starts_with}
use Rattle.std.proofs.Math.Seq.{take-append_seam, drop-append_seam}
use Rattle.std.proofs.lemmas.List.{take-append-drop, length-take-le, take-append-le, length_push, drop-append-le, take_all, length-replicate}
use Rattle.jtext.proofs.Equals.{equal_bytes}
use Rattle.zmtp_wire.specs.declared.role.Role.{Role}
use Rattle.zmtp_wire.specs.declared.cause.Cause.{Cause}
use Rattle.zmtp_wire.specs.declared.cause.Cause.TheVariants as cause
use Rattle.zmtp_wire.specs.declared.state.State.TheVariants.{Greeting, Units}
use Rattle.zmtp_wire.specs.declared.state.Phase.TheVariants.{Handshake, Traffic}
use Rattle.zmtp_wire.specs.declared.state.Open.TheVariants.{Fresh, Size}
use Rattle.zmtp_wire.specs.Command.{command_messages, command_contexts, error_name}
use Rattle.zmtp_wire.specs.Frame.{MOST, is_allowed, is_command, is_more, is_long, size_len, size_of}
use Rattle.zmtp_wire.specs.Greeting.{speaks, passes, greeting_cause}
use Rattle.zmtp_wire.specs.Machine.{handshake_cause, Took, quiet, step, unit_step, size_step, body_step, greeting_step, flag_step, finish, after_handshake, room_in, room_left, is_error}
use Rattle.zmtp_wire.specs.Stream.{Item, frame, command, item_of, Spells, Come, nothing, greeted, shaken, Completes, greeting, ready, unit, open_after, messages_of, contexts_of, messages_come, contexts_come, Wrong, room_for}
use Rattle.zmtp_wire.specs.Stream as W
use Rattle.zmtp_wire.proofs.UnitLemmas.{cells-of}
use Rattle.zmtp_wire.proofs.HandshakeLemmas.{cause_tells}
use Rattle.zmtp_wire.proofs.StepLemmas.{unit_at, state_of, failure_after, at_size, at_whole_size, at_longer_body, step_size, step_size_end, step_body}
use Rattle.zmtp_wire.proofs.ListLemmas.{some_of_len, len_of_some}

pub data Turn (role : Role) (at : ℕ) (come : Come) (q : List ℕ) (t : Took) : Type 0 where
  wrong : (c : Cause) → Wrong role come q c → t ≡ quiet (failure_after come at c) → Turn role at come q t
  whole : (next : Come) → Completes come q next → t.state ≡ state_of next [] → messages_come role next ≡ messages_come role come ++ t.messages → contexts_come next ≡ contexts_come come ++ t.owed
      → Turn role at come q t
  part : (missing : List ℕ) → missing ≢ [] → (next : Come) → Completes come (q ++ missing) next → t ≡ quiet (state_of come q) → Turn role at come q t

-- ---- tests and lists

-- ---- a part of a unit can be made whole

pub record Fills (f : ℕ) (r : List ℕ) : Type 0 where
  pub missing : List ℕ
  pub some : missing ≢ []
  pub body : List ℕ
  pub spells : Spells (item_of f body) (f ∷ (r ++ missing))

pub fill_size : (f : ℕ) (r : List ℕ) → is_allowed f ≡ true → length r < size_len f → Fills f r
fill_size f r a h =
    let pad = replicate (size_len f - length r) 0 in
    let len : length pad ≡ size_len f - length r = length-replicate (size_len f - length r) 0 in
    let octets : List ℕ = r ++ pad in
    let body = replicate (size_of octets) 0 in
    let ne : pad ++ body ≢ [] = some_of_len (pad ++ body) (omega (arith, length-append pad body)) in
    record {
      missing = pad ++ body;
      some = ne;
      body = body;
      spells = record {
        flag = f;
        octets = octets;
        body = body;
        head = record { spelled = refl; allowed = a; len = omega (arith, length-append r pad) };
        size = sym (length-replicate (size_of octets) 0);
        means = refl;
        spelled = ap (λ t. f ∷ t) (sym (append_assoc r pad body));
      };
    }

pub fill_body : (f : ℕ) (r : List ℕ) → is_allowed f ≡ true → size_len f ≤ length r → length (drop (size_len f) r) < size_of (take (size_len f) r) → Fills f r
fill_body f r a h w =
    let n = size_of (take (size_len f) r) in
    let had = drop (size_len f) r in
    let m = replicate (n - length had) 0 in
    let len : length m ≡ n - length had = length-replicate (n - length had) 0 in
    let both : length (had ++ m) ≡ length had + length m = length-append had m in
    record {
      missing = m;
      some = some_of_len m (omega arith);
      body = had ++ m;
      spells = record {
        flag = f;
        octets = take (size_len f) r;
        body = had ++ m;
        head = record { spelled = refl; allowed = a; len = length-take-le (size_len f) r h };
        size = omega arith;
        means = refl;
        spelled = ap (λ t. f ∷ t) (ap (λ t. t ++ m) (sym (take-append-drop (size_len f) r)) ∙ append_assoc (take (size_len f) r) had m);
      };
    }

-- ---- what a part of a unit tells

pub record Shape (f : ℕ) (r : List ℕ) : Type 0 where
  pub allowed : is_allowed f ≡ true
  pub within : size_len f ≤ length r → length (drop (size_len f) r) < size_of (take (size_len f) r)

pub shape_of : (item : Item) (f : ℕ) (r m : List ℕ) → m ≢ [] → Spells item (f ∷ (r ++ m)) → Shape f r
shape_of item f r m ne s =
    let c = cells-of item f (r ++ m) s in
    record {
      allowed = c.allowed;
      within = λ h.
          let size = sym (ap size_of (take-append-le (size_len f) r m h)) ∙ c.size ∙ ap length (drop-append-le (size_len f) r m h) ∙ length-append (drop (size_len f) r) m in
          let k = len_of_some m ne in
          omega (arith, size);
    }

not_frame : (b : Bool) (more : Bool) (body body' : List ℕ) → command body ≡ cond b (command body') (frame more body') → b ≡ true
not_frame true more body body' e = refl
not_frame false more body body' e = absurd (cc)

pub command_of : (body : List ℕ) (f : ℕ) (r : List ℕ) → Spells (command body) (f ∷ r) → is_command f ≡ true
command_of body f r s = let c = cells-of (command body) f r s in not_frame (is_command f) (is_more f) body _ c.means

pub item_command : (f : ℕ) (body : List ℕ) → is_command f ≡ true → item_of f body ≡ command body
item_command f body e = cond-true _ _ _ e

pub first_shape : (role : Role) (g : List ℕ) (f : ℕ) (r m : List ℕ) (next : Come) → m ≢ [] → Completes (greeted g) (f ∷ (r ++ m)) next → Shape f r × (is_command f ≡ true)
first_shape role g f r m _ ne (ready _ _ body s) = (shape_of (command body) f r m ne s, command_of body f (r ++ m) s)

pub later_shape : (g : List ℕ) (items : List Item) (f : ℕ) (r m : List ℕ) (next : Come) → m ≢ [] → Completes (shaken g items) (f ∷ (r ++ m)) next → Shape f r
later_shape g items f r m _ ne (unit _ _ item _ s) = shape_of item f r m ne s

-- ---- the parts grow

pub grown_first : (role : Role) (at : ℕ) (g : List ℕ) (f : ℕ) (r : List ℕ) (t : Took) → is_command f ≡ true → Fills f r → t ≡ quiet (state_of (greeted g) (f ∷ r)) → Turn role at (greeted g) (f ∷ r) t
grown_first role at g f r t c k e =
    part k.missing k.some (shaken g []) (ready g (f ∷ (r ++ k.missing)) k.body (subst (λ (i : Item). Spells i (f ∷ (r ++ k.missing))) (item_command f k.body c) k.spells)) e

pub grown_later : (role : Role) (at : ℕ) (g : List ℕ) (items : List Item) (f : ℕ) (r : List ℕ) (t : Took) → Fills f r → t ≡ quiet (state_of (shaken g items) (f ∷ r)) → Turn role at (shaken g items) (f ∷ r) t
grown_later role at g items f r t k e = part k.missing k.some (shaken g (items ++ item_of f k.body ∷ [])) (unit g items (item_of f k.body) (f ∷ (r ++ k.missing)) k.spells) e

-- ---- the greeting

greeting_short : (p m : List ℕ) (next : Come) → m ≢ [] → Completes nothing (p ++ m) next → length p < 64
greeting_short p m _ ne (greeting _ e) = let k = len_of_some m ne in omega (arith, length-append p m)

greeting_on : (role : Role) (at : ℕ) (p : List ℕ) (x : ℕ) (a b : Bool) → length p < 64 → passes (length p) x ≡ a → nat_eq (length p) 63 ≡ b → Turn role at nothing (p ++ x ∷ []) (step role at (Greeting p) x)
unfolding greeting_step
greeting_on role at p x false b h e f = wrong (greeting_cause (length p)) (W.greeting p x h e) (ap quiet (cond-false _ _ _ e))
greeting_on role at p x true true h e f =
    let k : length p ≡ 63 = grind (arith, nat_tests) in
    whole (greeted (p ++ x ∷ [])) (greeting (p ++ x ∷ []) (omega (arith, length_push p x))) (cond-true _ _ _ e ∙ cond-true _ _ _ f) refl refl
greeting_on role at p x true false h e f =
    let k : length p ≢ 63 = grind (arith, nat_tests) in
    let m = replicate (63 - length p) 0 in
    let len : length m ≡ 63 - length p = length-replicate (63 - length p) 0 in
    part m (some_of_len m (omega arith)) (greeted ((p ++ x ∷ []) ++ m)) (greeting ((p ++ x ∷ []) ++ m) (omega (arith, length_push p x, length-append (p ++ x ∷ []) m))) (ap quiet (cond-true _ _ _ e ∙ cond-false _ _ _ f))

-- ---- whole units

pub open-snoc : (frames : List (List ℕ)) (items : List Item) (i : Item) → open_after frames (items ++ i ∷ []) ≡ open_after (open_after frames items) (i ∷ [])
open-snoc frames [] i = refl
open-snoc frames (frame true b ∷ items) i = open-snoc (frames ++ b ∷ []) items i
open-snoc frames (frame false b ∷ items) i = open-snoc [] items i
open-snoc frames (command b ∷ items) i = open-snoc frames items i

pub messages-snoc : (r : Role) (newer : Bool) (frames : List (List ℕ)) (items : List Item) (i : Item)
    → messages_of r newer frames (items ++ i ∷ []) ≡ messages_of r newer frames items ++ messages_of r newer (open_after frames items) (i ∷ [])
messages-snoc r newer frames [] i = refl
messages-snoc r newer frames (frame true b ∷ items) i = messages-snoc r newer (frames ++ b ∷ []) items i
messages-snoc r newer frames (frame false b ∷ items) i = ap (λ ms. (frames ++ b ∷ []) ∷ ms) (messages-snoc r newer [] items i)
messages-snoc r newer frames (command b ∷ items) i = ap (λ ms. command_messages r newer b ++ ms) (messages-snoc r newer frames items i) ∙ sym (append_assoc (command_messages r newer b) (messages_of r newer frames items) (messages_of r newer (open_after frames items) (i ∷ [])))

pub contexts-snoc : (newer : Bool) (items : List Item) (i : Item) → contexts_of newer (items ++ i ∷ []) ≡ contexts_of newer items ++ contexts_of newer (i ∷ [])
contexts-snoc newer [] i = refl
contexts-snoc newer (frame more b ∷ items) i = contexts-snoc newer items i
contexts-snoc newer (command b ∷ items) i = ap (λ ms. command_contexts newer b ++ ms) (contexts-snoc newer items i) ∙ sym (append_assoc (command_contexts newer b) (contexts_of newer items) (contexts_of newer (i ∷ [])))

finish_first_on : (role : Role) (at : ℕ) (g q body : List ℕ) (f : ℕ) (o : Option Cause) → Spells (command body) q → handshake_cause role body ≡ o
    → Turn role at (greeted g) q (finish role at (Handshake (speaks g)) f body)
unfolding finish
finish_first_on role at g q body f None s e = whole (shaken g []) (ready g q body s) (ap (after_handshake at (speaks g)) e) refl refl
finish_first_on role at g q body f (Some w) s e = wrong w (W.handshake g q body w s (cause_tells role body w e)) (ap (λ o. quiet (after_handshake at (speaks g) o)) e)

finish_first : (role : Role) (at : ℕ) (g q body : List ℕ) (f : ℕ) → Spells (command body) q → Turn role at (greeted g) q (finish role at (Handshake (speaks g)) f body)
finish_first role at g q body f s = finish_first_on role at g q body f (handshake_cause role body) s refl

-- a whole unit that is this item brings so
finish_item : (role : Role) (at : ℕ) (g : List ℕ) (items : List Item) (q : List ℕ) (i : Item) (t : Took) → Spells i q
    → t.state ≡ Units (Traffic (speaks g) (open_after (open_after [] items) (i ∷ []))) Fresh → t.messages ≡ messages_of role (speaks g) (open_after [] items) (i ∷ []) → t.owed ≡ contexts_of (speaks g) (i ∷ [])
    → Turn role at (shaken g items) q t
finish_item role at g items q i t s st ms ow =
    whole (shaken g (items ++ i ∷ [])) (unit g items i q s) (st ∙ ap (λ x. Units (Traffic (speaks g) x) Fresh) (sym (open-snoc [] items i)))
    (messages-snoc role (speaks g) [] items i ∙ ap (λ x. messages_of role (speaks g) [] items ++ x) (sym ms))
    (contexts-snoc (speaks g) items i ∙ ap (λ x. contexts_of (speaks g) items ++ x) (sym ow))

finish_later_on : (role : Role) (at : ℕ) (g : List ℕ) (items : List Item) (q body : List ℕ) (f : ℕ) (c m : Bool) → Spells (item_of f body) q → is_command f ≡ c → is_more f ≡ m
    → Turn role at (shaken g items) q (finish role at (Traffic (speaks g) (open_after [] items)) f body)
unfolding finish
finish_later_on role at g items q body f true m s c e =
    let i : item_of f body ≡ command body = cond-true _ _ _ c in
    let t : finish role at (Traffic (speaks g) (open_after [] items)) f body ≡ record { state = Units (Traffic (speaks g) (open_after [] items)) Fresh; messages = command_messages role (speaks g) body; owed = command_contexts (speaks g) body } = cond-true (is_command f) _ _ c in
    finish_item role at g items q (command body) _ (subst (λ (x : Item). Spells x q) i s) (ap (λ (x : Took). x.state) t) (ap (λ (x : Took). x.messages) t ∙ sym (append-nil _)) (ap (λ (x : Took). x.owed) t ∙ sym (append-nil _))
finish_later_on role at g items q body f false true s c e =
    let i : item_of f body ≡ frame true body = cond-false _ _ _ c ∙ ap (λ m. frame m body) e in
    let t = cond-false (is_command f) _ _ c ∙ cond-true _ _ _ e in
    finish_item role at g items q (frame true body) _ (subst (λ (x : Item). Spells x q) i s) (ap (λ (x : Took). x.state) t) (ap (λ (x : Took). x.messages) t) (ap (λ (x : Took). x.owed) t)
finish_later_on role at g items q body f false false s c e =
    let i : item_of f body ≡ frame false body = cond-false _ _ _ c ∙ ap (λ m. frame m body) e in
    let t = cond-false (is_command f) _ _ c ∙ cond-false _ _ _ e in
    finish_item role at g items q (frame false body) _ (subst (λ (x : Item). Spells x q) i s) (ap (λ (x : Took). x.state) t) (ap (λ (x : Took). x.messages) t) (ap (λ (x : Took). x.owed) t)

finish_later : (role : Role) (at : ℕ) (g : List ℕ) (items : List Item) (q body : List ℕ) (f : ℕ) → Spells (item_of f body) q → Turn role at (shaken g items) q (finish role at (Traffic (speaks g) (open_after [] items)) f body)
finish_later role at g items q body f s = finish_later_on role at g items q body f (is_command f) (is_more f) s refl refl

-- ---- flags

size_pos_on : (b : Bool) → 0 < cond b 8 1
size_pos_on true = omega arith
size_pos_on false = omega arith

pub size_pos : (f : ℕ) → 0 < size_len f
size_pos f = size_pos_on (is_long f)

fresh : (f : ℕ) → unit_at (f ∷ []) ≡ Size f []
fresh f = at_size f [] (size_pos f)

flag_first_on : (role : Role) (at : ℕ) (g : List ℕ) (x : ℕ) (a b : Bool) → is_allowed x ≡ a → is_command x ≡ b → Turn role at (greeted g) (x ∷ []) (quiet (flag_step at (Handshake (speaks g)) x))
unfolding flag_step
flag_first_on role at g x false b a c = wrong cause.Flags (W.flags_first g x a) (ap quiet (cond-false _ _ _ a))
flag_first_on role at g x true false a c = wrong cause.Command (W.frame_first g x a c) (ap quiet (cond-true _ _ _ a ∙ cond-false _ _ _ c))
flag_first_on role at g x true true a c =
    grown_first role at g x [] _ c (fill_size x [] a (size_pos x)) (ap quiet (cond-true _ _ _ a ∙ cond-true _ _ _ c ∙ ap (λ u. Units (Handshake (speaks g)) u) (sym (fresh x))))

flag_later_on : (role : Role) (at : ℕ) (g : List ℕ) (items : List Item) (x : ℕ) (a b c : Bool) → is_allowed x ≡ a → is_more x ≡ b → nat_eq (length (open_after [] items)) 63 ≡ c
    → Turn role at (shaken g items) (x ∷ []) (quiet (flag_step at (Traffic (speaks g) (open_after [] items)) x))
unfolding flag_step
flag_later_on role at g items x false b c a m l = wrong cause.Flags (W.flags g items x a) (ap quiet (cond-false _ _ _ a))
flag_later_on role at g items x true true true a m l =
    let k : length (open_after [] items) ≡ 63 = grind (arith, nat_tests) in
    let both : (is_more x && nat_eq (length (open_after [] items)) 63) ≡ true = ap (λ b. b && nat_eq (length (open_after [] items)) 63) m ∙ l in
    wrong cause.TooMany (W.too_many g items x m k) (ap quiet (cond-true _ _ _ a ∙ cond-true _ _ _ both))
flag_later_on role at g items x true true false a m l =
    let both : (is_more x && nat_eq (length (open_after [] items)) 63) ≡ false = ap (λ b. b && nat_eq (length (open_after [] items)) 63) m ∙ l in
    grown_later role at g items x [] _ (fill_size x [] a (size_pos x)) (ap quiet (cond-true _ _ _ a ∙ cond-false _ _ _ both ∙ ap (λ u. Units (Traffic (speaks g) (open_after [] items)) u) (sym (fresh x))))
flag_later_on role at g items x true false c a m l =
    let both : (is_more x && nat_eq (length (open_after [] items)) 63) ≡ false = ap (λ b. b && nat_eq (length (open_after [] items)) 63) m in
    grown_later role at g items x [] _ (fill_size x [] a (size_pos x)) (ap quiet (cond-true _ _ _ a ∙ cond-false _ _ _ both ∙ ap (λ u. Units (Traffic (speaks g) (open_after [] items)) u) (sym (fresh x))))

-- ---- sizes

fold_from : (a : ℕ) (ps : List (List ℕ)) → fold (λ (n : ℕ) (p : List ℕ). n + length p) a ps ≡ a + sum_by length ps
fold_from a [] = omega arith
fold_from a (p ∷ ps) = let j = fold_from (a + length p) ps in let k = fold_from (0 + length p) ps in omega arith

pub room_same : (room : ℕ) (frames : List (List ℕ)) → room_left room frames ≡ room - sum_by length frames
room_same room [] = omega arith
room_same room (p ∷ ps) =
    let k = room_same (room - length p) ps in
    let s : sum_by length (p ∷ ps) ≡ 0 + length p + sum_by length ps = fold_from (0 + length p) ps in
    k ∙ omega arith

pub room_is : (g : List ℕ) (items : List Item) (f : ℕ) → room_in (Traffic (speaks g) (open_after [] items)) f ≡ room_for (shaken g items) f
room_is g items f = ap (λ n. cond (is_command f) MOST n) (room_same MOST (open_after [] items))

whole_len : (f : ℕ) (o : List ℕ) → length o ≡ size_len f → take (size_len f) o ≡ o
whole_len f o h = ap (λ n. take n o) (sym h) ∙ ap (take (length o)) (sym (append-nil o)) ∙ take-append_seam o []

none_len : (f : ℕ) (o : List ℕ) → length o ≡ size_len f → drop (size_len f) o ≡ []
none_len f o h = ap (λ n. drop n o) (sym h) ∙ ap (drop (length o)) (sym (append-nil o)) ∙ drop-append_seam o []

empty_unit : (f : ℕ) (o : List ℕ) → is_allowed f ≡ true → length o ≡ size_len f → size_of o ≡ 0 → Spells (item_of f []) (f ∷ o)
empty_unit f o a h z =
    record {
      flag = f;
      octets = o;
      body = [];
      head = record { spelled = refl; allowed = a; len = h };
      size = z;
      means = refl;
      spelled = ap (λ t. f ∷ t) (sym (append-nil o));
    }

body_to_come : (f : ℕ) (o : List ℕ) → is_allowed f ≡ true → length o ≡ size_len f → nat_eq (size_of o) 0 ≡ false → Fills f o
body_to_come f o a h z =
    let n = size_of o in
    let ne : n ≢ 0 = eqb-false n 0 z in
    let some : 0 < n = omega arith in
    let w : length (drop (size_len f) o) < size_of (take (size_len f) o) = rw (whole_len f o h, none_len f o h) some in
    fill_body f o a (omega arith) w

size_first_on : (role : Role) (at : ℕ) (g : List ℕ) (f : ℕ) (o : List ℕ) (a b : Bool) → is_allowed f ≡ true → is_command f ≡ true → length o ≡ size_len f
    → nat_lt MOST (size_of o) ≡ a → nat_eq (size_of o) 0 ≡ b → Turn role at (greeted g) (f ∷ o) (size_step role at (Handshake (speaks g)) f (size_of o))
unfolding size_step
size_first_on role at g f o true b al c h e z =
    wrong (cause.TooLong (size_of o)) (W.too_long_first g (f ∷ o) f o (record { spelled = refl; allowed = al; len = h }) (ltb-true MOST (size_of o) e)) (cond-true _ _ _ e)
size_first_on role at g f o false true al c h e z =
    let zero_size : size_of o ≡ 0 = eqb-true (size_of o) 0 z in
    let s = subst (λ (i : Item). Spells i (f ∷ o)) (item_command f [] c) (empty_unit f o al h zero_size) in
    subst (λ (t : Took). Turn role at (greeted g) (f ∷ o) t) (sym (cond-false _ _ _ e ∙ cond-true _ _ _ z)) (finish_first role at g (f ∷ o) [] f s)
size_first_on role at g f o false false al c h e z =
    grown_first role at g f o _ c (body_to_come f o al h z) (cond-false _ _ _ e ∙ cond-false _ _ _ z ∙ ap (λ u. quiet (Units (Handshake (speaks g)) u)) (sym (at_whole_size f o h)))

size_later_on : (role : Role) (at : ℕ) (g : List ℕ) (items : List Item) (f : ℕ) (o : List ℕ) (a b : Bool) → is_allowed f ≡ true → length o ≡ size_len f
    → nat_lt (room_in (Traffic (speaks g) (open_after [] items)) f) (size_of o) ≡ a → nat_eq (size_of o) 0 ≡ b → Turn role at (shaken g items) (f ∷ o) (size_step role at (Traffic (speaks g) (open_after [] items)) f (size_of o))
unfolding size_step
size_later_on role at g items f o true b al h e z =
    let w : room_for (shaken g items) f < size_of o = subst (λ (n : ℕ). n < size_of o) (room_is g items f) (ltb-true _ (size_of o) e) in
    wrong (cause.TooLong (size_of o)) (W.too_long g items (f ∷ o) f o (record { spelled = refl; allowed = al; len = h }) w) (cond-true _ _ _ e)
size_later_on role at g items f o false true al h e z =
    subst (λ (t : Took). Turn role at (shaken g items) (f ∷ o) t) (sym (cond-false _ _ _ e ∙ cond-true _ _ _ z)) (finish_later role at g items (f ∷ o) [] f (empty_unit f o al h (eqb-true (size_of o) 0 z)))
size_later_on role at g items f o false false al h e z =
    grown_later role at g items f o _ (body_to_come f o al h z) (cond-false _ _ _ e ∙ cond-false _ _ _ z ∙ ap (λ u. quiet (Units (Traffic (speaks g) (open_after [] items)) u)) (sym (at_whole_size f o h)))

-- ---- bodies

-- the body that stands in these octets, as far as it has come
whole_body : (f : ℕ) (r : List ℕ) (x : ℕ) → is_allowed f ≡ true → size_len f ≤ length r → size_of (take (size_len f) r) ≡ length (drop (size_len f) r ++ x ∷ [])
    → Spells (item_of f (drop (size_len f) r ++ x ∷ [])) (f ∷ (r ++ x ∷ []))
whole_body f r x a h e =
    record {
      flag = f;
      octets = take (size_len f) r;
      body = drop (size_len f) r ++ x ∷ [];
      head = record { spelled = refl; allowed = a; len = length-take-le (size_len f) r h };
      size = e;
      means = refl;
      spelled = ap (λ t. f ∷ t) (ap (λ t. t ++ x ∷ []) (sym (take-append-drop (size_len f) r)) ∙ append_assoc (take (size_len f) r) (drop (size_len f) r) (x ∷ []));
    }

more_body : (f : ℕ) (r : List ℕ) (x : ℕ) → is_allowed f ≡ true → size_len f ≤ length r → length (drop (size_len f) r ++ x ∷ []) < size_of (take (size_len f) r) → Fills f (r ++ x ∷ [])
more_body f r x a h w =
    let w' : length (drop (size_len f) (r ++ x ∷ [])) < size_of (take (size_len f) (r ++ x ∷ [])) = rw (take-append-le (size_len f) r (x ∷ []) h, drop-append-le (size_len f) r (x ∷ []) h) w in
    fill_body f (r ++ x ∷ []) a (omega (arith, length_push r x)) w'

body_first_on : (role : Role) (at : ℕ) (g : List ℕ) (f : ℕ) (r : List ℕ) (x : ℕ) (a : Bool) → Shape f r → is_command f ≡ true → size_len f ≤ length r
    → nat_lt (length (drop (size_len f) r ++ x ∷ [])) (size_of (take (size_len f) r)) ≡ a
    → Turn role at (greeted g) (f ∷ (r ++ x ∷ [])) (body_step role at (Handshake (speaks g)) f (size_of (take (size_len f) r)) (drop (size_len f) r ++ x ∷ []))
unfolding body_step
body_first_on role at g f r x true s c h e =
    grown_first role at g f (r ++ x ∷ []) _ c (more_body f r x s.allowed h (ltb-true _ _ e)) (cond-true _ _ _ e ∙ ap (λ u. quiet (Units (Handshake (speaks g)) u)) (sym (at_longer_body f r x h)))
body_first_on role at g f r x false s c h e =
    let w = s.within h in
    let k = ltb-false _ _ e in
    let size : size_of (take (size_len f) r) ≡ length (drop (size_len f) r ++ x ∷ []) = omega (arith, length_push (drop (size_len f) r) x) in
    let spells = subst (λ (i : Item). Spells i (f ∷ (r ++ x ∷ []))) (item_command f (drop (size_len f) r ++ x ∷ []) c) (whole_body f r x s.allowed h size) in
    subst (λ (t : Took). Turn role at (greeted g) (f ∷ (r ++ x ∷ [])) t) (sym (cond-false _ _ _ e)) (finish_first role at g (f ∷ (r ++ x ∷ [])) (drop (size_len f) r ++ x ∷ []) f spells)

error_tells : (f : ℕ) (body : List ℕ) → (is_command f && nat_eq (length body) 6 && starts_with nat_eq body error_name) ≡ true → (is_command f ≡ true) × (body ≡ error_name)
error_tells f body e =
    let k = and_parts (is_command f && nat_eq (length body) 6) (starts_with nat_eq body error_name) e in
    let j = and_parts (is_command f) (nat_eq (length body) 6) k.0 in
    let six : length body ≡ 6 = eqb-true (length body) 6 j.1 in
    (j.0, sym (equal_bytes error_name (take 6 body) k.1 ∙ take_all 6 body (omega (arith, six))))

body_later_on : (role : Role) (at : ℕ) (g : List ℕ) (items : List Item) (f : ℕ) (r : List ℕ) (x : ℕ) (b a : Bool) → Shape f r → size_len f ≤ length r
    → is_error (Traffic (speaks g) (open_after [] items)) f (drop (size_len f) r ++ x ∷ []) ≡ b
    → nat_lt (length (drop (size_len f) r ++ x ∷ [])) (size_of (take (size_len f) r)) ≡ a
    → Turn role at (shaken g items) (f ∷ (r ++ x ∷ [])) (body_step role at (Traffic (speaks g) (open_after [] items)) f (size_of (take (size_len f) r)) (drop (size_len f) r ++ x ∷ []))
unfolding body_step
body_later_on role at g items f r x true a s h i e =
    let k = error_tells f (drop (size_len f) r ++ x ∷ []) i in
    let w = s.within h in
    let six : length (drop (size_len f) r ++ x ∷ []) ≡ 6 = ap length k.1 in
    let size : 6 ≤ size_of (take (size_len f) r) = omega (arith, length_push (drop (size_len f) r) x) in
    let text : (f ∷ (r ++ x ∷ [])) ≡ f ∷ (take (size_len f) r ++ error_name) =
    ap (λ t. f ∷ t) (ap (λ t. t ++ x ∷ []) (sym (take-append-drop (size_len f) r)) ∙ append_assoc (take (size_len f) r) (drop (size_len f) r) (x ∷ []) ∙ ap (λ t. take (size_len f) r ++ t) k.1) in
    wrong cause.PeerError (W.peer_error g items (f ∷ (r ++ x ∷ [])) f (take (size_len f) r) (record { spelled = refl; allowed = s.allowed; len = length-take-le (size_len f) r h }) k.0 size text) (cond-true _ _ _ i)
body_later_on role at g items f r x false true s h i e =
    grown_later role at g items f (r ++ x ∷ []) _ (more_body f r x s.allowed h (ltb-true _ _ e)) (cond-false _ _ _ i ∙ cond-true _ _ _ e ∙ ap (λ u. quiet (Units (Traffic (speaks g) (open_after [] items)) u)) (sym (at_longer_body f r x h)))
body_later_on role at g items f r x false false s h i e =
    let w = s.within h in
    let k = ltb-false _ _ e in
    let size : size_of (take (size_len f) r) ≡ length (drop (size_len f) r ++ x ∷ []) = omega (arith, length_push (drop (size_len f) r) x) in
    subst (λ (t : Took). Turn role at (shaken g items) (f ∷ (r ++ x ∷ [])) t) (sym (cond-false _ _ _ i ∙ cond-false _ _ _ e))
    (finish_later role at g items (f ∷ (r ++ x ∷ [])) (drop (size_len f) r ++ x ∷ []) f (whole_body f r x s.allowed h size))

-- ---- the turn

unit_first_on : (role : Role) (at : ℕ) (g : List ℕ) (f : ℕ) (r : List ℕ) (x : ℕ) → (length r + 1 < size_len f) ⊎ ((length r + 1 ≡ size_len f) ⊎ (size_len f ≤ length r)) → Shape f r → is_command f ≡ true
    → Turn role at (greeted g) (f ∷ (r ++ x ∷ [])) (unit_step role at (Handshake (speaks g)) (unit_at (f ∷ r)) x)
unit_first_on role at g f r x (inl h) s c =
    grown_first role at g f (r ++ x ∷ []) _ c (fill_size f (r ++ x ∷ []) s.allowed (omega (arith, length_push r x))) (step_size role at (Handshake (speaks g)) f r x h)
unit_first_on role at g f r x (inr (inl h)) s c =
    subst (λ (t : Took). Turn role at (greeted g) (f ∷ (r ++ x ∷ [])) t) (sym (step_size_end role at (Handshake (speaks g)) f r x h))
    (size_first_on role at g f (r ++ x ∷ []) _ _ s.allowed c (omega (arith, length_push r x)) refl refl)
unit_first_on role at g f r x (inr (inr h)) s c =
    subst (λ (t : Took). Turn role at (greeted g) (f ∷ (r ++ x ∷ [])) t) (sym (step_body role at (Handshake (speaks g)) f r x h)) (body_first_on role at g f r x _ s c h refl)

unit_later_on : (role : Role) (at : ℕ) (g : List ℕ) (items : List Item) (f : ℕ) (r : List ℕ) (x : ℕ) → (length r + 1 < size_len f) ⊎ ((length r + 1 ≡ size_len f) ⊎ (size_len f ≤ length r)) → Shape f r
    → Turn role at (shaken g items) (f ∷ (r ++ x ∷ [])) (unit_step role at (Traffic (speaks g) (open_after [] items)) (unit_at (f ∷ r)) x)
unit_later_on role at g items f r x (inl h) s =
    grown_later role at g items f (r ++ x ∷ []) _ (fill_size f (r ++ x ∷ []) s.allowed (omega (arith, length_push r x))) (step_size role at (Traffic (speaks g) (open_after [] items)) f r x h)
unit_later_on role at g items f r x (inr (inl h)) s =
    subst (λ (t : Took). Turn role at (shaken g items) (f ∷ (r ++ x ∷ [])) t) (sym (step_size_end role at (Traffic (speaks g) (open_after [] items)) f r x h))
    (size_later_on role at g items f (r ++ x ∷ []) _ _ s.allowed (omega (arith, length_push r x)) refl refl)
unit_later_on role at g items f r x (inr (inr h)) s =
    subst (λ (t : Took). Turn role at (shaken g items) (f ∷ (r ++ x ∷ [])) t) (sym (step_body role at (Traffic (speaks g) (open_after [] items)) f r x h)) (body_later_on role at g items f r x _ _ s h refl refl)

three_ways : (n m : ℕ) → (n + 1 < m) ⊎ ((n + 1 ≡ m) ⊎ (m ≤ n))
three_ways zero zero = inr (inr (omega arith))
three_ways zero (suc zero) = inr (inl (omega arith))
three_ways zero (suc (suc m)) = inl (omega arith)
three_ways (suc n) zero = inr (inr (omega arith))
three_ways (suc n) (suc m) = elim (three_ways n m) [ inl h ↦ inl (omega arith) | inr k ↦ elim k as (λ _. (suc n + 1 < suc m) ⊎ ((suc n + 1 ≡ suc m) ⊎ (suc m ≤ suc n))) [ inl h ↦ inr (inl (omega arith)) | inr h ↦ inr (inr (omega arith)) ] ]

-- After a part of what comes next, one more octet fails a test, or completes it, or makes a longer part.
pub turn : (role : Role) (at : ℕ) (come : Come) (p : List ℕ) (x : ℕ) (missing : List ℕ) (next : Come) → missing ≢ [] → Completes come (p ++ missing) next → Turn role at come (p ++ x ∷ []) (step role at (state_of come p) x)
turn role at nothing p x m next ne c = greeting_on role at p x _ _ (greeting_short p m next ne c) refl refl
turn role at (greeted g) [] x m next ne c = flag_first_on role at g x _ _ refl refl
turn role at (greeted g) (f ∷ r) x m next ne c =
    let s = first_shape role g f r m next ne c in unit_first_on role at g f r x (three_ways (length r) (size_len f)) s.0 s.1
turn role at (shaken g items) [] x m next ne c = flag_later_on role at g items x _ _ _ refl refl refl
turn role at (shaken g items) (f ∷ r) x m next ne c = unit_later_on role at g items f r x (three_ways (length r) (size_len f)) (later_shape g items f r m next ne c)
