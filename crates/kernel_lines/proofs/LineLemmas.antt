-- Our side of a connection, over what happens on it.
use Rattle.std.proofs.Common.{◌≡◌, ℕ, ◌+◌, ◌<◌, ◌^◌, Bool, true, false, cond, List, [], ◌∷◌, ◌++◌, length, drop, IsTrue, ◌↔◌, Option, None, Some, refl, ap, sym, ◌∙◌, subst, arith, length-append, append_assoc, append-nil}
use Rattle.std.proofs.Math.Seq.{drop-append_seam}
use Rattle.zmtp_wire.specs.declared.role.Role.{Role}
use Rattle.zmtp_wire.specs.Fault.{clip}
use Rattle.zmtp_wire.specs.Meaning.{is_shaken}
use Rattle.zmtp_wire.specs.Stream.{IsShaken}
use Rattle.zmtp_wire.proofs.MeaningLemmas.{shaken_meant}
use Rattle.zmtp_wire.proofs.ShakenLemmas.{is_true, true_is}
use Rattle.zmtp_wire.specs.Writing.{greeting_octets, ready_octets}
use Rattle.zmtp_peer.specs.declared.peer.Peer.{Peer}
use Rattle.zmtp_peer.specs.Peer as side
use Rattle.zmtp_peer.specs.Reply.{Owes, owed_octets, subscription_to}
use Rattle.zmtp_peer.proofs.OwedLemmas.{owes_only, owed_none}
use Rattle.kernel_lines.specs.declared.line.Line.{Line}
use Rattle.kernel_lines.specs.Happened.{Came, Given, History, came_in}
use Rattle.kernel_lines.specs.Due.{due_in, waiting_in, subscription_end, sent_octets, newly_owed, end_of, first_of}
use Rattle.kernel_lines.specs.Ends.{end_with}
use Rattle.kernel_lines.specs.Line.{StandsFor, StandsAs, IsBehind, IsPut, role_of, clip_place, IsReleased, NotesEnd, Replies, IsBehindAs}

-- two tests of which each gives the other
pub same_tests : (a b : Bool) → (a ≡ true → b ≡ true) → (b ≡ true → a ≡ true) → a ≡ b
same_tests true b f g = sym (f refl)
same_tests false true f g = g refl
same_tests false false f g = refl

-- whether READY was read is whether the octets say so
pub shaken_is : (r : Role) (b : List ℕ) (x : Bool) → IsTrue x ↔ IsShaken r b → x ≡ is_shaken r b
shaken_is r b x h =
    same_tests x (is_shaken r b) (λ t. (shaken_meant r b).1 (h.0 (true_is x t))) (λ t. is_true x (h.1 ((shaken_meant r b).0 t)))

-- ---- messages

-- a message waits
pub waits : (l : Line) (h : History) (out : List ℕ) (m : List (List ℕ)) (waiting : List ℕ) → is_shaken (role_of l) (came_in h) ≡ false
    → waiting ≡ l.waiting ++ sent_octets (role_of l) m → StandsFor l h out → StandsFor (record l { waiting = waiting }) (Given m ∷ h) out
waits l h out m waiting over e s =
    let r = role_of l in
    let due : due_in r h ≡ due_in r (Given m ∷ h) = sym (append-nil (due_in r h)) ∙ ap (λ x. due_in r h ++ cond x (sent_octets r m) []) (sym over) in
    record {
      peer = s.peer;
      waiting = e ∙ ap (λ x. x ++ sent_octets r m) s.waiting ∙ ap (λ x. cond x (waiting_in r h) (waiting_in r h ++ sent_octets r m)) (sym over);
      due = sym due ∙ s.due;
      count = s.count ∙ ap (λ x. clip (length x)) due;
      subscription = s.subscription;
    }

counted : (a b : List ℕ) (n : ℕ) → n ≡ clip (length a) → clip (n + length b) ≡ clip (length (a ++ b))
counted a b n h = omega (arith, h, length-append a b)

-- a message is due at once
pub goes : (l : Line) (h : History) (out : List ℕ) (m : List (List ℕ)) → is_shaken (role_of l) (came_in h) ≡ true → StandsFor l h out
    → StandsFor (record l { queue = l.queue ++ sent_octets (role_of l) m; due = clip (l.due + length (sent_octets (role_of l) m)) }) (Given m ∷ h) out
goes l h out m over s =
    let r = role_of l in
    let o = sent_octets r m in
    let due : due_in r h ++ o ≡ due_in r (Given m ∷ h) = ap (λ x. due_in r h ++ cond x o []) (sym over) in
    record {
      peer = s.peer;
      waiting = s.waiting ∙ ap (λ x. cond x (waiting_in r h) (waiting_in r h ++ o)) (sym over);
      due = sym due ∙ ap (λ x. x ++ o) s.due ∙ append_assoc out l.queue o;
      count = counted (due_in r h) o l.due s.count ∙ ap (λ x. clip (length x)) due;
      subscription = s.subscription;
    }

-- ---- pieces

-- what is owed besides
newly : (r : Role) (b piece more : List ℕ) → owed_octets r (b ++ piece) ≡ owed_octets r b ++ more → newly_owed r b piece ≡ more
newly r b piece more e = ap (drop (length (owed_octets r b))) e ∙ drop-append_seam (owed_octets r b) more

-- where the subscription ends
ends_at : (due n : ℕ) (was : Option ℕ) (subscription : List ℕ) → due ≡ clip n → end_with (clip_place was) due subscription ≡ clip_place (first_of was (end_of n subscription))
ends_at due n (Some end) subscription e = refl
ends_at due n None [] e = refl
ends_at due n None (x ∷ s) e = let same : clip (due + length (x ∷ s)) ≡ clip (n + length (x ∷ s)) = omega (arith, e) in ap Some same

-- Its peer has replied to a piece: these octets are owed besides, and the subscription ends there.
pub record Replied (l : Line) (h : History) (piece more : List ℕ) (p' : Peer) (place : Option ℕ) : Type 0 where
  pub role : side.role_of p' ≡ role_of l
  pub owes : Owes (role_of l) (came_in h ++ piece) (owed_octets (role_of l) (came_in h) ++ more)
  pub peer : side.StandsFor p' (came_in h ++ piece) (owed_octets (role_of l) (came_in h) ++ more)
  pub end : place ≡ end_with l.subscription_end l.due (subscription_to (role_of l) (came_in h ++ piece))

-- the line after that, with what is left waiting
answered : (l : Line) (h : History) (out piece more freed waiting : List ℕ) (p' : Peer) (end : Option ℕ) (due : ℕ) → IsBehind l h out piece → Replied l h piece more p' end
    → freed ≡ cond (is_shaken (role_of l) (came_in h ++ piece)) (waiting_in (role_of l) h) [] → waiting ≡ cond (is_shaken (role_of l) (came_in h ++ piece)) [] (waiting_in (role_of l) h)
    → due ≡ clip (length (due_in (role_of l) h ++ (more ++ freed)))
    → StandsAs (role_of l) (record l { peer = p'; queue = l.queue ++ (more ++ freed); waiting = waiting; due = due; subscription_end = end }) (Came piece ∷ h) out
answered l h out piece more freed waiting p' end due s k freed_is waiting_is counts =
    let r = role_of l in
    let b = came_in h in
    let owed : owed_octets r b ++ more ≡ owed_octets r (b ++ piece) = owes_only r (b ++ piece) (owed_octets r b ++ more) k.owes in
    let added : due_in r h ++ (more ++ freed) ≡ due_in r (Came piece ∷ h) =
    ap (λ x. due_in r h ++ (x ++ freed)) (sym (newly r b piece more (sym owed))) ∙ ap (λ x. due_in r h ++ (newly_owed r b piece ++ x)) freed_is in
    record {
      peer = subst (λ x. side.StandsFor p' (b ++ piece) x) owed k.peer;
      waiting = waiting_is;
      due = sym added ∙ ap (λ x. x ++ (more ++ freed)) s.due ∙ append_assoc out l.queue (more ++ freed);
      count = counts ∙ ap (λ x. clip (length x)) added;
      subscription = k.end ∙ ap (λ x. end_with x l.due (subscription_to r (b ++ piece))) s.subscription
          ∙ ends_at l.due (length (due_in r h)) (subscription_end r h) (subscription_to r (b ++ piece)) s.count;
    }

-- before the end of the handshake
pub answered_early : (l : Line) (h : History) (out piece more : List ℕ) (p' : Peer) (end : Option ℕ) → IsBehind l h out piece → Replied l h piece more p' end
    → is_shaken (role_of l) (came_in h ++ piece) ≡ false
    → StandsAs (role_of l) (record l { peer = p'; queue = l.queue ++ more; due = clip (l.due + length more); subscription_end = end }) (Came piece ∷ h) out
answered_early l h out piece more p' end s k over =
    let r = role_of l in
    let none : more ++ [] ≡ more = append-nil more in
    let counts : clip (l.due + length more) ≡ clip (length (due_in r h ++ (more ++ []))) = counted (due_in r h) more l.due s.count ∙ ap (λ x. clip (length (due_in r h ++ x))) (sym none) in
    subst (λ x. StandsAs r (record l { peer = p'; queue = l.queue ++ x; due = clip (l.due + length more); subscription_end = end }) (Came piece ∷ h) out) none
    (answered l h out piece more [] l.waiting p' end (clip (l.due + length more)) s k (ap (λ x. cond x (waiting_in r h) []) (sym over)) (s.waiting ∙ ap (λ x. cond x [] (waiting_in r h)) (sym over)) counts)

twice : (a b c : List ℕ) (n : ℕ) → n ≡ clip (length a) → clip (clip (n + length b) + length c) ≡ clip (length (a ++ (b ++ c)))
twice a b c n h = counted (a ++ b) c (clip (n + length b)) (counted a b n h) ∙ ap (λ x. clip (length x)) (append_assoc a b c)

-- at its end and after it
pub answered_late : (l : Line) (h : History) (out piece more : List ℕ) (p' : Peer) (end : Option ℕ) → IsBehind l h out piece → Replied l h piece more p' end
    → is_shaken (role_of l) (came_in h ++ piece) ≡ true
    → StandsAs (role_of l) (record l {
      peer = p';
      queue = (l.queue ++ more) ++ l.waiting;
      waiting = [];
      due = clip (clip (l.due + length more) + length l.waiting);
      subscription_end = end;
    }) (Came piece ∷ h) out
answered_late l h out piece more p' end s k over =
    let r = role_of l in
    let due = clip (clip (l.due + length more) + length l.waiting) in
    subst (λ x. StandsAs r (record l { peer = p'; queue = x; waiting = []; due = due; subscription_end = end }) (Came piece ∷ h) out) (sym (append_assoc l.queue more l.waiting))
    (answered l h out piece more l.waiting [] p' end due s k (s.waiting ∙ ap (λ x. cond x (waiting_in r h) []) (sym over)) (ap (λ x. cond x [] (waiting_in r h)) (sym over)) (twice (due_in r h) more l.waiting l.due s.count))

-- ---- the begin

small : (n : ℕ) → n < 2 ^ 64 → n ≡ clip n
small n h = omega (arith, h)

-- a new connection
pub new_line : (l : Line) → side.StandsFor l.peer [] [] → l.queue ≡ greeting_octets ++ ready_octets (role_of l) → l.waiting ≡ [] → l.due ≡ length l.queue → l.due < 2 ^ 64
    → l.subscription_end ≡ None → StandsFor l [] []
new_line l s queue waiting due fits none = record {
  peer = subst (λ x. side.StandsFor l.peer [] x) (sym (owed_none (role_of l))) s;
  waiting = waiting;
  due = sym queue;
  count = small l.due fits ∙ ap clip (due ∙ ap length queue);
  subscription = none;
}

-- ---- a piece, step by step

replied : (l n o : Line) (h : History) (out piece more : List ℕ) → NotesEnd l n → Replies n o more → IsBehind l h out piece → Replied l h piece more o.peer n.subscription_end
replied l n o h out piece more w k s =
    let r = role_of l in
    let b = came_in h ++ piece in
    let owed = owed_octets r (came_in h) in
    let peer : n.peer ≡ l.peer = ap (λ x. x.peer) w.same in
    let role : role_of n ≡ r = ap role_of w.same in
    let reads : side.StandsFor n.peer b owed = subst (λ x. side.StandsFor x b owed) (sym peer) s.peer in
    record {
      role = k.role ∙ role;
      owes = subst (λ x. Owes x b (owed ++ more)) role (k.owes b owed reads);
      peer = k.stands b owed reads;
      end = w.end b owed s.peer;
    }

put_whole : (l n o q : Line) (more : List ℕ) → NotesEnd l n → Replies n o more → IsPut o q more
    → q ≡ record l { peer = o.peer; queue = l.queue ++ more; due = clip (l.due + length more); subscription_end = n.subscription_end }
put_whole l n o q more w k e =
    let whole : o ≡ record l { peer = o.peer; subscription_end = n.subscription_end } = k.same ∙ ap {A = Line} (λ x. record x { peer = o.peer }) w.same in
    e ∙ ap {A = Line} (λ x. record x { queue = x.queue ++ more; due = clip (x.due + length more) }) whole

-- what a peer says of its handshake
abbrev pub TellsShaken : Peer → Bool → Type 0
TellsShaken p x = (b sent : List ℕ) → side.StandsFor p b sent → IsTrue x ↔ IsShaken (side.role_of p) b

told_shaken : (l : Line) (h : History) (piece more : List ℕ) (p : Peer) (place : Option ℕ) (x : Bool) → TellsShaken p x → Replied l h piece more p place
    → x ≡ is_shaken (role_of l) (came_in h ++ piece)
told_shaken l h piece more p place x tells k =
    let b = came_in h ++ piece in
    subst (λ r. x ≡ is_shaken r b) k.role (shaken_is (side.role_of p) b x (tells b (owed_octets (role_of l) (came_in h) ++ more) k.peer))

in_own : (r : Role) (l : Line) (h : History) (out : List ℕ) → role_of l ≡ r → StandsAs r l h out → StandsFor l h out
in_own r l h out e s = subst (λ x. StandsAs x l h out) (sym e) s

pub early : (l n o q : Line) (h : History) (out piece more : List ℕ) (x : Bool) → NotesEnd l n → Replies n o more → IsPut o q more → TellsShaken q.peer x → x ≡ false
    → IsBehind l h out piece → StandsFor q (Came piece ∷ h) out
early l n o q h out piece more x w k e tells is s =
    let all = put_whole l n o q more w k e in
    let known = replied l n o h out piece more w k s in
    let tells' : TellsShaken o.peer x = subst (λ y. TellsShaken y x) (ap (λ y. y.peer) all) tells in
    let over = sym (told_shaken l h piece more o.peer n.subscription_end x tells' known) ∙ is in
    let done = answered_early l h out piece more o.peer n.subscription_end s known over in
    subst (λ y. StandsFor y (Came piece ∷ h) out) (sym all) (in_own (role_of l) (record l { peer = o.peer; queue = l.queue ++ more; due = clip (l.due + length more); subscription_end = n.subscription_end }) (Came piece ∷ h) out known.role done)

pub late : (l n o q f : Line) (h : History) (out piece more : List ℕ) (x : Bool) → NotesEnd l n → Replies n o more → IsPut o q more → IsReleased q f → TellsShaken q.peer x → x ≡ true
    → IsBehind l h out piece → StandsFor f (Came piece ∷ h) out
late l n o q f h out piece more x w k e freed tells is s =
    let all = put_whole l n o q more w k e in
    let known = replied l n o h out piece more w k s in
    let tells' : TellsShaken o.peer x = subst (λ y. TellsShaken y x) (ap (λ y. y.peer) all) tells in
    let over = sym (told_shaken l h piece more o.peer n.subscription_end x tells' known) ∙ is in
    let done = answered_late l h out piece more o.peer n.subscription_end s known over in
    let ends = freed ∙ ap {A = Line} (λ y. record y { queue = y.queue ++ y.waiting; waiting = []; due = clip (y.due + length y.waiting) }) all in
    subst (λ y. StandsFor y (Came piece ∷ h) out) (sym ends) (in_own (role_of l) _ (Came piece ∷ h) out known.role done)

-- a piece was read
pub behind : (l : Line) (p : Peer) (h : History) (out piece : List ℕ) → side.role_of p ≡ role_of l → side.StandsFor p (came_in h ++ piece) (owed_octets (role_of l) (came_in h))
    → StandsFor l h out → IsBehind (record l { peer = p }) h out piece
behind l p h out piece role reads s =
    let at : IsBehindAs (role_of l) (record l { peer = p }) h out piece = record { peer = reads; waiting = s.waiting; due = s.due; count = s.count; subscription = s.subscription } in
    subst (λ r. IsBehindAs r (record l { peer = p }) h out piece) (sym role) at
