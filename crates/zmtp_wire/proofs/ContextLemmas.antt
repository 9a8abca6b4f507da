-- The context of a PING has at most 16 octets.
use Rattle.std.proofs.lemmas.Bool.{and_parts}
use Rattle.std.proofs.Common.{◌≡◌, ℕ, ◌≤◌, Bool, true, false, cond, nat_le, nat_eq, ◌&&◌, List, [], ◌∷◌, ◌++◌, length, drop, codes, refl, sym, subst, arith, length-drop}
use Rattle.std.proofs.lemmas.Bool.Decides.{nat_tests}
use Rattle.std.specs.List.{AllByRecursion, starts_with}
use Rattle.zmtp_wire.specs.declared.role.Role.{Role}
use Rattle.zmtp_wire.specs.Command.{is_ping}
use Rattle.zmtp_wire.specs.Stream.{Message, Context, Item, frame, command, Come, nothing, greeted, shaken, contexts_of, contexts_come, Gives, stream, broken}
use Rattle.zmtp_wire.specs.Greeting.{speaks}
use Rattle.zmtp_wire.specs.Decoder.{Answer}
use Rattle.zmtp_wire.specs.Meaning.{messages_in, contexts_in, answer_to}
use Rattle.zmtp_wire.proofs.MeaningLemmas.{meant}

abbrev AreShort : List Context → Type 0
AreShort cs = AllByRecursion (λ c. length c ≤ 16) cs

at_most_23 : (n : ℕ) → nat_le n 23 ≡ true → n ≤ 23
at_most_23 n h = grind (arith, nat_tests)

ping_short : (newer : Bool) (body : List ℕ) → (newer && is_ping body) ≡ true → length (drop 7 body) ≤ 16
ping_short newer body h =
    let a = and_parts newer (is_ping body) h in
    let b = and_parts (starts_with nat_eq body (4 ∷ codes "PING") && nat_le 7 (length body)) (nat_le (length body) 23) a.1 in
    let d = at_most_23 (length body) b.1 in
    omega (arith, length-drop 7 body)

after_command : (ping newer : Bool) (body : List ℕ) (cs : List Context) → (newer && is_ping body) ≡ ping → AreShort cs → AreShort (cond ping (drop 7 body ∷ []) [] ++ cs)
after_command true newer body cs e h = (ping_short newer body e, h)
after_command false newer body cs e h = h

short_of : (newer : Bool) (items : List Item) → AreShort (contexts_of newer items)
short_of newer [] = tt
short_of newer (frame more body ∷ items) = short_of newer items
short_of newer (command body ∷ items) = after_command (newer && is_ping body) newer body (contexts_of newer items) refl (short_of newer items)

short_come : (come : Come) → AreShort (contexts_come come)
short_come nothing = tt
short_come (greeted g) = tt
short_come (shaken g items) = short_of (speaks g) items

short_given : (r : Role) (b : List ℕ) (ms : List Message) (owed : List Context) (a : Answer) → Gives r b ms owed a → AreShort owed
short_given r b _ _ _ (stream ms owed rest s) = subst AreShort (sym s.contexts) (short_come s.come)
short_given r b _ _ _ (broken e at ms owed k) = subst AreShort (sym k.contexts) (short_come k.come)

pub contexts_short : (r : Role) (b : List ℕ) → AreShort (contexts_in r b)
contexts_short r b = short_given r b (messages_in r b) (contexts_in r b) (answer_to r b) (meant r b)
