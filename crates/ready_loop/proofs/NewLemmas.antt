-- What a new loop stands for, and what queueing does.
use Rattle.std.proofs.Common.{◌≡◌, inl, inr, ◌+◌, ◌<◌, ◌++◌, ◌==◌, ℕ, zero, suc, true, false, List, [], length, set, replicate, Some, Result, Ok, Err, OnOk, OnErr, slice_get, arith, refl, sym, ◌∙◌, ap, subst}
use Rattle.std.proofs.lemmas.Bool.{cases_eq, eq-eqb, cond-true, false≢true}
use Rattle.std.proofs.lemmas.Option.{none-some}
use Rattle.world.specs.declared.conn.Conn.{Conn}
use Rattle.world.specs.declared.entry.Entry.{Entry}
use Rattle.world.specs.Places.{place_of, status}
use Rattle.world.specs.Waits.{wait_count}
use Rattle.ready_loop.specs.declared.link.Link.{Link}
use Rattle.ready_loop.specs.declared.readiness.Loop.{Loop}
use Rattle.ready_loop.specs.Link.{fresh_link}
use Rattle.ready_loop.specs.History.{History, no_history, with_queued, after_queue}
use Rattle.ready_loop.specs.Queues.{Held, held_in, rest_at, taken_at}
use Rattle.ready_loop.specs.Standing.{StandsAt, Stand, StandsFor, IsShut, AllShut, put_at, write_ended}
use Rattle.ready_loop.specs.States.{MayWait, HoldsForKnown, OnlyAt, SameKnown, known_in, known_at}
use Rattle.ready_loop.proofs.TurnLemmas.{stands_queued}
use Rattle.ready_loop.proofs.StandLemmas.{stands_as, queued_but}
use Rattle.jtext.proofs.Lists.{some_at, slice_get-set_same, slice_get-set_other}

-- ---- a new loop

pub replicate_is : {X : Type 0} (n : ℕ) (x y : X) (p : ℕ) → slice_get (replicate n x) p ≡ Some y → y ≡ x
replicate_is zero x y p e = cc
replicate_is (suc n) x y zero e = cc
replicate_is (suc n) x y (suc p) e = replicate_is n x y p e

replicate_length : {X : Type 0} (n : ℕ) (x : X) → length (replicate n x) ≡ n
replicate_length zero x = refl
replicate_length (suc n) x = ap suc (replicate_length n x)

empty : Held
empty = record { rest = []; taken = 0 }

held_empty : (n p : ℕ) → held_in (slice_get (replicate {A = Held} n (record { rest = []; taken = 0 })) p) ≡ record { rest = []; taken = 0 }
held_empty zero p = refl
held_empty (suc n) zero = refl
held_empty (suc n) (suc p) = held_empty n p

fresh_stands : (p turns : ℕ) (journal : List Entry) → IsShut (status p journal)
    → StandsAt fresh_link (record { rest = []; taken = 0 }) false [] false (status p journal) (write_ended p journal)
fresh_stands p turns journal shut = record {
  awake = sym shut.awake;
  writable = sym shut.writable;
  failed = sym shut.failed;
  refused = sym shut.refused;
  reads = λ a. absurd (false≢true a);
  known = refl;
  stage = sym shut.begun;
  port = λ e. cc;
  failed_begun = λ a. absurd (false≢true (sym shut.failed ∙ a));
  reported = λ a. absurd (false≢true (sym shut.awake ∙ a));
  open_up = λ a. absurd (false≢true (sym shut.writable ∙ a));
  up_begun = λ a. absurd (false≢true (sym shut.up ∙ a));
  up_calm = λ a. absurd (false≢true (sym shut.up ∙ a));
  up_whole = λ a. refl;
  refused_begun = λ at is. absurd (none-some _ (sym shut.refused ∙ is));
  refused_unused = λ at is. absurd (none-some _ (sym shut.refused ∙ is));
  refused_whole = λ at is. refl;
  fresh_whole = λ e. refl;
  sends = record { whole = refl; taken = refl };
  ends = record { found = refl; told = refl };
}

pub new_stands : (links : List Link) (queues : List Held) (turns : ℕ) → links ≡ replicate 64 fresh_link
    → queues ≡ replicate 64 (record { rest = []; taken = 0 })
    → (journal : List Entry) → AllShut journal
    → Stand links queues turns (no_history (wait_count journal + turns)) journal
new_stands links queues turns links_are queues_are journal shut = record {
  size = ap length links_are ∙ replicate_length 64 fresh_link;
  waits = refl;
  each = λ p link found.
      let found' : slice_get (replicate 64 fresh_link) p ≡ Some link = subst (λ (ls : List Link). slice_get ls p ≡ Some link) links_are found in
      let is : link ≡ fresh_link = replicate_is 64 fresh_link link p found' in
      let low : p < 64 = low_of 64 p link found' in
      subst (λ x. StandsAt x (held_in (slice_get queues p)) false [] false (status p journal) (write_ended p journal)) (sym is)
      (stands_as (ap (λ qs. held_in (slice_get qs p)) queues_are ∙ held_empty 64 p) refl refl refl refl refl (fresh_stands p turns journal (shut p low)));
}
  where
    low_of : (n p : ℕ) (link : Link) → slice_get (replicate n fresh_link) p ≡ Some link → p < n
    low_of zero p link e = cc
    low_of (suc n) zero link e = omega arith
    low_of (suc n) (suc p) link e = let lt = low_of n p link e in omega arith

pub new_ready : (l : Loop) → l.links ≡ replicate 64 fresh_link → MayWait l
new_ready l links_are =
    let is : (p : ℕ) (link : Link) → slice_get l.links p ≡ Some link → link ≡ fresh_link = λ p link found. replicate_is 64 fresh_link link p (subst (λ (ls : List Link). slice_get ls p ≡ Some link) links_are found) in
    record {
      drained = record { each = λ p link low found may. absurd (false≢true (sym (ap (λ x. x.awake) (is p link found)) ∙ may.awake)) };
      offered = record { each = λ p link low found may. absurd (false≢true (sym (ap (λ x. x.writable) (is p link found)) ∙ may.writable)) };
      sound = record { each = λ p link low found. ap (λ x. x.failed) (is p link found) };
    }

pub new_fresh : (l : Loop) → l.links ≡ replicate 64 fresh_link → (p : ℕ) → known_at l p ≡ false
new_fresh l links_are p = ap (λ (ls : List Link). known_in (slice_get ls p)) links_are ∙ at 64 p
  where
    at : (n p : ℕ) → known_in (slice_get (replicate n fresh_link) p) ≡ false
    at zero p = refl
    at (suc n) zero = refl
    at (suc n) (suc p) = at n p

pub new_holds : (l : Loop) → l.queues ≡ replicate 64 (record { rest = []; taken = 0 }) → HoldsForKnown l
new_holds l queues_are = record { each = λ p fresh. ap (λ (qs : List Held). rest_at qs p) queues_are ∙ ap (λ (x : Held). x.rest) (held_empty 64 p) }

-- ---- queueing

own_queued : (q : ℕ) (more : List ℕ) (h : History) → (with_queued q more h).queued q ≡ h.queued q ++ more
own_queued q more h = cond-true (q == q) _ _ (eq-eqb q q refl)

queued_one : (q : ℕ) (more : List ℕ) (l : Loop) (queues : List Held) → q < length l.queues
    → queues ≡ set l.queues q (record { rest = rest_at l.queues q ++ more; taken = taken_at l.queues q })
    → (h : History) (journal : List Entry) → StandsFor l h journal
    → Stand l.links queues l.left (with_queued q more h) journal
queued_one q more l queues within is h journal stand = record {
  size = stand.size;
  waits = stand.waits;
  each = λ p link found. elim (cases_eq p q) [
    | inl e ↦
        let held : held_in (slice_get queues q) ≡ record { rest = rest_at l.queues q ++ more; taken = taken_at l.queues q }
        = ap (λ qs. held_in (slice_get qs q)) is ∙ ap held_in (slice_get-set_same l.queues q (record { rest = rest_at l.queues q ++ more; taken = taken_at l.queues q }) within) in
        let found_q : slice_get l.links q ≡ Some link = subst (λ i. slice_get l.links i ≡ Some link) e found in
        subst (λ i. StandsAt link (held_in (slice_get queues i)) (h.begun i) ((with_queued q more h).queued i) (h.named i) (status i journal) (write_ended i journal)) (sym e)
        (stands_as held refl (own_queued q more h) refl refl refl (stands_queued link _ _ _ _ _ _ more (stand.each q link found_q)))
    | inr ne ↦
        let held : held_in (slice_get queues p) ≡ held_in (slice_get l.queues p)
        = ap (λ qs. held_in (slice_get qs p)) is ∙ ap held_in (slice_get-set_other l.queues q p (record { rest = rest_at l.queues q ++ more; taken = taken_at l.queues q }) ne) in
        stands_as held refl ((queued_but q more h).queued p ne) refl refl refl (stand.each p link found)
  ];
}

pub queue_stands : {U E : Type 0} (r : Result U E) (conn : Conn) (more : List ℕ) (l : Loop) (queues : List Held)
    → place_of conn < length l.queues
    → OnOk r (queues ≡ set l.queues (place_of conn) (record { rest = rest_at l.queues (place_of conn) ++ more; taken = taken_at l.queues (place_of conn) }))
    → OnErr r (queues ≡ l.queues) → (h : History) (journal : List Entry) → StandsFor l h journal
    → Stand l.links queues l.left (after_queue conn more r h) journal
queue_stands (Ok u) conn more l queues within ok err h journal stand = queued_one (place_of conn) more l queues within ok h journal stand
queue_stands (Err e) conn more l queues within ok err h journal stand = subst (λ (qs : List Held). Stand l.links qs l.left h journal) (sym err) stand

-- bytes are queued on a connection that was begun
pub queue_known : {U E : Type 0} (r : Result U E) (q : ℕ) (more : List ℕ) (l : Loop) (queues : List Held)
    → known_at l q ≡ true
    → OnOk r (queues ≡ set l.queues q (record { rest = rest_at l.queues q ++ more; taken = taken_at l.queues q }))
    → OnErr r (queues ≡ l.queues) → SameKnown l (record l { queues = queues })
queue_known (Ok u) q more l queues known ok err = record {
  each = λ p. refl;
  begun = λ p. refl;
  holds = λ h. record {
    each = λ p fresh. elim (cases_eq p q) [
      | inl e ↦ absurd (false≢true (sym fresh ∙ subst (λ i. known_at l i ≡ true) (sym e) known))
      | inr ne ↦ ap (λ qs. rest_at qs p) ok
          ∙ ap (λ o. (held_in o).rest) (slice_get-set_other l.queues q p (record { rest = rest_at l.queues q ++ more; taken = taken_at l.queues q }) ne) ∙ h.each p fresh
    ];
  };
}
queue_known (Err e) q more l queues known ok err = record {
  each = λ p. refl;
  begun = λ p. refl;
  holds = λ h. record { each = λ p fresh. ap (λ qs. rest_at qs p) err ∙ h.each p fresh };
}

-- and nothing changes elsewhere
pub queue_only : {U E : Type 0} (r : Result U E) (q : ℕ) (more : List ℕ) (l : Loop) (queues : List Held)
    → OnOk r (queues ≡ set l.queues q (record { rest = rest_at l.queues q ++ more; taken = taken_at l.queues q }))
    → OnErr r (queues ≡ l.queues) → OnlyAt q l (record l { queues = queues })
queue_only (Ok u) q more l queues ok err = record {
  links = λ p ne. refl;
  held = λ p ne. ap (λ qs. held_in (slice_get qs p)) ok ∙ ap held_in (slice_get-set_other l.queues q p (record { rest = rest_at l.queues q ++ more; taken = taken_at l.queues q }) ne);
  left = refl;
}
queue_only (Err e) q more l queues ok err = record { links = λ p ne. refl; held = λ p ne. ap (λ qs. held_in (slice_get qs p)) err; left = refl }

-- ---- what was taken

pub taken_is : (q : ℕ) (l : Loop) → q < 64 → (h : History) (journal : List Entry) → StandsFor l h journal
    → taken_at l.queues q ≡ length (put_at h journal q)
taken_is q l low h journal stand =
    let (link, found) = some_at l.links q (omega (arith, stand.size)) in
    (stand.each q link found).sends.taken
