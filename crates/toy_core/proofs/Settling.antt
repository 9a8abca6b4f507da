-- What is due by a moment, and later, as acts happen.
use Rattle.std.proofs.Common.{◌≡◌, ℕ, zero, suc, ◌+◌, ◌<◌, ◌≤◌, Bool, true, false, cond, nat_le, List, [], ◌∷◌, ◌++◌, length, take, drop, Option, None, Some, refl, sym, ap, subst, ◌∙◌, arith}
use Rattle.std.specs.Prelude.{ℤ, is_some}
use Rattle.std.specs.Io.{StartsWith}
use Rattle.std.proofs.lemmas.Grind.{flat_map-append}
use Rattle.std.proofs.lemmas.List.{append-nil, take-append-drop, take-append-le}
use Rattle.std.proofs.lemmas.Bool.{le-leb, leb-true}
use Rattle.world.specs.declared.chan.Chan.{Chan}
use Rattle.toy_core.specs.declared.act.Act.{Act}
use Rattle.toy_core.specs.declared.act.Act.TheVariants.{Send, Pause, End, Close}
use Rattle.toy_core.specs.declared.agenda.Agenda.{Agenda}
use Rattle.toy_core.specs.declared.lane.Lane.{Lane}
use Rattle.toy_core.specs.declared.machine.Machine.{Machine}
use Rattle.toy_core.specs.Acts.{acts_by, acts_left, begun_at, ending, octets_of, octets_on}
use Rattle.toy_core.specs.Outboxes.{rest_due}
use Rattle.toy_core.specs.Standing.{either, end_by, unless_ended, settled_agenda, has_ended}
use Rattle.toy_core.specs.Toy.{lane, coming, due_on, due_at}
use Rattle.toy_core.specs.Dues.{Sends, SendsAll, Keeps, IsSettled, IsAsDue, StaysDue}
use Rattle.toy_core.proofs.Reaching.{reached_front, reached_then}
use Rattle.toy_core.proofs.Keeping.{left_front}

-- ---- acts

not_over : (b : Bool) (xs : List Act) → b ≡ false → cond b xs [] ≡ []
not_over false xs e = refl
not_over true xs e = absurd (cc)

nothing_pause : (b : Bool) (now since ms : ℕ) (acts : List Act) → nat_le (since + ms) now ≡ b
    → ending (cond b (Pause ms ∷ acts_by now (since + ms) acts) []) ≡ None
    → (ending (acts_by now (since + ms) acts) ≡ None → acts_by now (begun_at now (since + ms) acts) (acts_left now (since + ms) acts) ≡ [])
    → acts_by now (cond b (begun_at now (since + ms) acts) since) (drop (length (cond b (Pause ms ∷ acts_by now (since + ms) acts) [])) (Pause ms ∷ acts)) ≡ []
nothing_pause true now since ms acts over e ih = ih e
nothing_pause false now since ms acts over e ih = not_over (nat_le (since + ms) now) (Pause ms ∷ acts_by now (since + ms) acts) over

-- by that moment nothing of the rest happens, unless the end has come
pub nothing_after : (now since : ℕ) (acts : List Act) → ending (acts_by now since acts) ≡ None
    → acts_by now (begun_at now since acts) (acts_left now since acts) ≡ []
nothing_after now since [] e = refl
nothing_after now since (Send c octets ∷ acts) e = nothing_after now since acts e
nothing_after now since (Pause ms ∷ acts) e = nothing_pause (nat_le (since + ms) now) now since ms acts refl e (nothing_after now (since + ms) acts)
nothing_after now since (End status ∷ acts) e = absurd (cc)
nothing_after now since (Close parent count ∷ acts) e = nothing_after now since acts e

nothing_unless : (now since : ℕ) (acts : List Act) (end : Option ℤ) → (end ≡ None → ending (acts_by now since acts) ≡ None)
    → acts_by now (begun_at now since acts) (unless_ended end (acts_left now since acts)) ≡ []
nothing_unless now since acts None h = nothing_after now since acts (h refl)
nothing_unless now since acts (Some status) h = refl

neither : (a b : Option ℤ) → either a b ≡ None → b ≡ None
neither None b e = e
neither (Some status) b e = absurd (cc)

-- what has settled by a moment has nothing to happen by it
pub settled_is : (now : ℕ) (a : Agenda) → IsSettled now (settled_agenda now a)
settled_is now a = record { nothing = nothing_unless now a.since a.acts (end_by now a) (λ e. neither a.end _ e) }

-- before the last act that has happened the end hasn't come
pub ending_before : (n now since : ℕ) (acts rest : List Act) → n < length (acts_by now since acts)
    → ending (take n acts ++ rest) ≡ ending rest
ending_before zero now since acts rest h = refl
ending_before (suc n) now since [] rest h = absurd (omega (arith, h))
ending_before (suc n) now since (Send c octets ∷ acts) rest h = ending_before n now since acts rest (omega (arith, h))
ending_before (suc n) now since (Pause ms ∷ acts) rest h =
    let over : nat_le (since + ms) now ≡ true = reached_then n (nat_le (since + ms) now) (Pause ms ∷ acts_by now (since + ms) acts) h in
    let k : suc n < length (Pause ms ∷ acts_by now (since + ms) acts) =
    subst (λ (b : Bool). suc n < length (cond b (Pause ms ∷ acts_by now (since + ms) acts) [])) over h in
    ending_before n now (since + ms) acts rest (omega (arith, k))
ending_before (suc n) now since (End status ∷ acts) rest h = absurd (omega (arith, h))
ending_before (suc n) now since (Close parent count ∷ acts) rest h = ending_before n now since acts rest (omega (arith, h))

-- ---- later moments

-- what a later moment adds
pub record Later (xs ys : List Act) : Type 0 where
  pub rest : List Act
  pub joined : ys ≡ xs ++ rest

later_cons : (a : Act) (xs ys : List Act) → Later xs ys → Later (a ∷ xs) (a ∷ ys)
later_cons a xs ys l = record { rest = l.rest; joined = ap (λ x. a ∷ x) l.joined }

later_pause : (b d : Bool) (ms : ℕ) (xs ys : List Act) → (b ≡ true → d ≡ true) → Later xs ys
    → Later (cond b (Pause ms ∷ xs) []) (cond d (Pause ms ∷ ys) [])
later_pause true true ms xs ys h l = later_cons (Pause ms) xs ys l
later_pause true false ms xs ys h l = let k : false ≡ true = h refl in absurd (cc)
later_pause false d ms xs ys h l = record { rest = cond d (Pause ms ∷ ys) []; joined = refl }

pub reached_later : (now t since : ℕ) (acts : List Act) → now ≤ t → Later (acts_by now since acts) (acts_by t since acts)
reached_later now t since [] h = record { rest = []; joined = refl }
reached_later now t since (Send c octets ∷ acts) h = later_cons (Send c octets) _ _ (reached_later now t since acts h)
reached_later now t since (Pause ms ∷ acts) h =
    later_pause (nat_le (since + ms) now) (nat_le (since + ms) t) ms _ _
    (λ e. let k : since + ms ≤ now = leb-true (since + ms) now e in le-leb (since + ms) t (omega (arith, k, h)))
    (reached_later now t (since + ms) acts h)
reached_later now t since (End status ∷ acts) h = record { rest = []; joined = refl }
reached_later now t since (Close parent count ∷ acts) h = later_cons (Close parent count) _ _ (reached_later now t since acts h)

ending_front : (xs ys : List Act) (status : ℤ) → ending xs ≡ Some status → ending (xs ++ ys) ≡ Some status
ending_front [] ys status e = absurd (cc)
ending_front (Send c octets ∷ xs) ys status e = ending_front xs ys status e
ending_front (Pause ms ∷ xs) ys status e = ending_front xs ys status e
ending_front (End s ∷ xs) ys status e = e
ending_front (Close parent count ∷ xs) ys status e = ending_front xs ys status e

either_later : (a b d : Option ℤ) (status : ℤ) → (b ≡ Some status → d ≡ Some status) → either a b ≡ Some status → either a d ≡ Some status
either_later None b d status h e = h e
either_later (Some s) b d status h e = e

-- what has ended stays ended
pub end_later : (now t : ℕ) (a : Agenda) (status : ℤ) → now ≤ t → end_by now a ≡ Some status → end_by t a ≡ Some status
end_later now t a status h =
    let l = reached_later now t a.since a.acts h in
    either_later a.end (ending (acts_by now a.since a.acts)) (ending (acts_by t a.since a.acts)) status
    (λ e. ap ending l.joined ∙ ending_front (acts_by now a.since a.acts) l.rest status e)

heard_later : (b : Bool) (xs ys : List ℕ) → cond b (xs ++ ys) [] ≡ cond b xs [] ++ cond b ys []
heard_later true xs ys = refl
heard_later false xs ys = refl

-- what is due on a connection is due later before all else
pub due_later : (c : Chan) (now t : ℕ) (a : Agenda) (l : Lane) → now ≤ t → StartsWith (due_on c t a l) (due_on c now a l)
due_later c now t a l h =
    let r = reached_later now t a.since a.acts h in
    let e : cond l.hears (octets_on c (acts_by t a.since a.acts)) [] ≡ cond l.hears (octets_on c (acts_by now a.since a.acts)) [] ++ cond l.hears (octets_on c r.rest) [] =
    ap (λ x. cond l.hears (octets_on c x) []) r.joined
    ∙ ap (λ x. cond l.hears x []) (flat_map-append (octets_of c) (acts_by now a.since a.acts) r.rest)
    ∙ heard_later l.hears (octets_on c (acts_by now a.since a.acts)) (octets_on c r.rest) in
    subst (λ (x : List ℕ). StartsWith (rest_due l.outbox x) (due_on c now a l)) (sym e)
    (left_front l.outbox (cond l.hears (octets_on c (acts_by now a.since a.acts)) []) (cond l.hears (octets_on c r.rest) []))

-- ---- calls

both_heard : (a b : Bool) (xs ys : List ℕ) → b ≡ a → cond a xs [] ++ cond b ys [] ≡ cond a (xs ++ ys) []
both_heard true true xs ys e = refl
both_heard false false xs ys e = refl
both_heard true false xs ys e = absurd (cc)
both_heard false true xs ys e = absurd (cc)

-- what was sent is no longer to come, and just the same is due
due_sent : (old new : Lane) (xs ys zs : List ℕ) → Sends xs old new → zs ≡ xs ++ ys
    → rest_due new.outbox (cond new.hears ys []) ≡ rest_due old.outbox (cond old.hears zs [])
due_sent old new xs ys zs s e =
    s.left (cond new.hears ys []) ∙ ap (rest_due old.outbox) (both_heard old.hears new.hears xs ys s.hears)
    ∙ ap (λ x. rest_due old.outbox (cond old.hears x [])) (sym e)

-- acts happened, of which just the others are to happen
pub due_as : (now : ℕ) (old new : Machine) (done : List Act)
    → acts_by now old.kernel.agenda.since old.kernel.agenda.acts ≡ done ++ acts_by now new.kernel.agenda.since new.kernel.agenda.acts
    → SendsAll (λ c. octets_on c done) old.lanes new.lanes → end_by now new.kernel.agenda ≡ end_by now old.kernel.agenda → IsAsDue now old new
due_as now old new done e s k = record {
  due = λ c.
      due_sent (lane c old.lanes) (lane c new.lanes) (octets_on c done) (octets_on c (acts_by now new.kernel.agenda.since new.kernel.agenda.acts)) _
      (s.on c) (ap (octets_on c) e ∙ flat_map-append (octets_of c) done (acts_by now new.kernel.agenda.since new.kernel.agenda.acts));
  end = k;
}

pub stays_self : (now : ℕ) (m : Machine) → StaysDue now m m
stays_self now m = record {
  due = λ c t h. due_later c now t m.kernel.agenda (lane c m.lanes) h;
  ended = λ t status h e. end_later now t m.kernel.agenda status h e;
}

-- where just the same is due
pub stays_as : (now : ℕ) (old new : Machine) → IsAsDue now old new → StaysDue now old new
stays_as now old new a = record {
  due = λ c t h.
      subst (λ (x : List ℕ). StartsWith (due_at c t new) x) (a.due c) (due_later c now t new.kernel.agenda (lane c new.lanes) h);
  ended = λ t status h e. end_later now t new.kernel.agenda status h (a.end ∙ e);
}

nothing_comes : (b : Bool) (c : Chan) (acts : List Act) → acts ≡ [] → cond b (octets_on c acts) [] ≡ []
nothing_comes true c acts e = ap (octets_on c) e
nothing_comes false c acts e = refl

ended_so : (a b : Option ℤ) (status : ℤ) → b ≡ None → either a b ≡ Some status → a ≡ Some status
ended_so None b status n e = absurd (cc)
ended_so (Some s) b status n e = e

-- where just the same was due, all of it had happened, and what was due stayed due
pub stays_kept : (now : ℕ) (old mid new : Machine) → IsAsDue now old mid → IsSettled now mid.kernel.agenda → Keeps mid.lanes new.lanes
    → (has_ended mid.kernel ≡ true → new ≡ mid) → StaysDue now old new
stays_kept now old mid new a n k same = record {
  due = λ c t h.
      let e : rest_due (lane c mid.lanes).outbox [] ≡ due_at c now old =
      ap (rest_due (lane c mid.lanes).outbox) (sym (nothing_comes (lane c mid.lanes).hears c _ n.nothing)) ∙ a.due c in
      subst (λ (x : List ℕ). StartsWith (due_at c t new) x) e (k.left c (coming c t new.kernel.agenda (lane c new.lanes).hears));
  ended = λ t status h e.
      let was : mid.kernel.agenda.end ≡ Some status =
      ended_so mid.kernel.agenda.end (ending (acts_by now mid.kernel.agenda.since mid.kernel.agenda.acts)) status (ap ending n.nothing) (a.end ∙ e) in
      let is : new ≡ mid = same (ap is_some was) in
      ap (λ m. end_by t m.kernel.agenda) is ∙ ap (λ o. either o (ending (acts_by t mid.kernel.agenda.since mid.kernel.agenda.acts))) was;
}

-- ---- acts that were performed

take_front : (n k : ℕ) (acts : List Act) → n ≤ length (take k acts) → take n (take k acts) ≡ take n acts
take_front n k acts h = sym (take-append-le n (take k acts) (drop k acts) h) ∙ ap (take n) (take-append-drop k acts)

-- where only the first of the acts that were due have happened
pub passed_due : (now done : ℕ) (old new : Machine) (acts : List Act)
    → acts ≡ acts_by now old.kernel.agenda.since old.kernel.agenda.acts → done < length acts
    → (done < length (acts_by now old.kernel.agenda.since old.kernel.agenda.acts) → (t : ℕ) → now ≤ t
    → acts_by t old.kernel.agenda.since old.kernel.agenda.acts
    ≡ take done old.kernel.agenda.acts ++ acts_by t new.kernel.agenda.since new.kernel.agenda.acts)
    → new.kernel.agenda.end ≡ old.kernel.agenda.end → SendsAll (λ c. octets_on c (take done acts)) old.lanes new.lanes → IsAsDue now old new
passed_due now done old new acts are less rest ends s =
    let a : Agenda = old.kernel.agenda in
    let later : List Act = acts_by now new.kernel.agenda.since new.kernel.agenda.acts in
    let front : List Act = acts_by now a.since a.acts in
    let same_len : length acts ≡ length front = ap length are in
    let more : done < length front = omega (arith, less, same_len) in
    let e : front ≡ take done a.acts ++ later = rest more now (omega arith) in
    let cut : take (length front) a.acts ≡ front = reached_front now a.since a.acts in
    let fits : done ≤ length (take (length front) a.acts) = let k : length (take (length front) a.acts) ≡ length front = ap length cut in omega (arith, more, k) in
    let done_is : take done acts ≡ take done a.acts =
    ap (take done) are ∙ ap (take done) (sym cut) ∙ take_front done (length front) a.acts fits in
    let no_end : ending front ≡ ending later = ap ending e ∙ ending_before done now a.since a.acts later more in
    due_as now old new (take done acts) (e ∙ ap (λ x. x ++ later) (sym done_is)) s
    (ap (λ o. either o (ending later)) ends ∙ ap (either a.end) (sym no_end))

either_none : (o : Option ℤ) → either o None ≡ o
either_none None = refl
either_none (Some status) = refl

-- where all acts that were due have happened
pub settled_due : (now : ℕ) (old new : Machine) (acts : List Act)
    → acts ≡ acts_by now old.kernel.agenda.since old.kernel.agenda.acts → new.kernel.agenda ≡ settled_agenda now old.kernel.agenda
    → SendsAll (λ c. octets_on c acts) old.lanes new.lanes → IsAsDue now old new
settled_due now old new acts are e s =
    let later : List Act = acts_by now new.kernel.agenda.since new.kernel.agenda.acts in
    let none : later ≡ [] = ap (λ a. acts_by now a.since a.acts) e ∙ (settled_is now old.kernel.agenda).nothing in
    due_as now old new acts (sym are ∙ sym (append-nil acts) ∙ ap (λ x. acts ++ x) (sym none)) s
    (ap (λ x. either new.kernel.agenda.end (ending x)) none ∙ either_none new.kernel.agenda.end ∙ ap (λ a. a.end) e)
