-- How a loop goes on standing for the journal when an entry is of one connection.
use Rattle.std.proofs.Common.{◌≡◌, ◌≢◌, inl, inr, ◌+◌, ◌<◌, ◌==◌, ◌||◌, ℕ, Bool, true, false, List, ◌∷◌, length, set, Some, slice_get, arith, refl, sym, ◌∙◌, ap, subst}
use Rattle.std.proofs.lemmas.Bool.{cases_eq, eq-eqb, ne_eqb, cond-false}
use Rattle.std.proofs.Math.ListN.{length-set}
use Rattle.std.proofs.lemmas.Option.{same_Some}
use Rattle.world.specs.declared.conn.Conn.{Conn}
use Rattle.world.specs.declared.entry.Entry.{Entry}
use Rattle.world.specs.declared.entry.Entry.TheVariants as made
use Rattle.world.specs.declared.side.Side.TheVariants as side
use Rattle.world.specs.Counts.{Counts, NetCause}
use Rattle.world.specs.Moments.{start}
use Rattle.world.proofs.MomentsLemmas.{since_then, since_as}
use Rattle.world.specs.Places.{Status, status, is_at, place_of, concerns}
use Rattle.world.specs.Waits.{is_wait}
use Rattle.world.proofs.StatusLemmas.{status_elsewhere}
use Rattle.world.proofs.WaitsLemmas.{not_counted}
use Rattle.ready_loop.specs.declared.link.Link.{Link}
use Rattle.ready_loop.specs.declared.readiness.Loop.{Loop}
use Rattle.ready_loop.specs.History.{History, with_begun, with_queued, with_named}
use Rattle.ready_loop.specs.Queues.{Held, held_in}
use Rattle.ready_loop.specs.Standing.{write_ended, StandsAt, Stand, StandsFor, Goes}
use Rattle.jtext.proofs.Lists.{slice_get-set_same, slice_get-set_other}

-- an entry of no concern to a place changes nothing of how it was ended
pub ended_elsewhere : (p : ℕ) (entry : Entry) (past : List Entry) → concerns p entry ≡ false
    → write_ended p (entry ∷ past) ≡ write_ended p past
ended_elsewhere p (made.Connected conn port how) past e = cond-false (is_at p conn) _ _ e
ended_elsewhere p (made.Ended conn side.Write) past e = cond-false (is_at p conn) _ _ e
ended_elsewhere p _ past e = refl

-- a connection is not at another place
pub not_at : (p : ℕ) (conn : Conn) → p ≢ place_of conn → is_at p conn ≡ false
not_at p conn ne = ne_eqb p (place_of conn) ne

-- all but one place have the same history
pub record SameBut (q : ℕ) (h k : History) : Type 0 where
  pub turns : k.turns ≡ h.turns
  pub begun : (p : ℕ) → p ≢ q → k.begun p ≡ h.begun p
  pub queued : (p : ℕ) → p ≢ q → k.queued p ≡ h.queued p
  pub named : (p : ℕ) → p ≢ q → k.named p ≡ h.named p

pub same_but : (q : ℕ) (h : History) → SameBut q h h
same_but q h = record { turns = refl; begun = λ p ne. refl; queued = λ p ne. refl; named = λ p ne. refl }

or_other : (p q : ℕ) (b : Bool) → p ≢ q → (p == q || b) ≡ b
or_other p q b ne = ap (λ x. x || b) (ne_eqb p q ne)

pub or_own : (q : ℕ) (b : Bool) → (q == q || b) ≡ true
or_own q b = ap (λ x. x || b) (eq-eqb q q refl)

pub named_but : (q : ℕ) (h : History) → SameBut q h (with_named q h)
named_but q h = record { turns = refl; begun = λ p ne. refl; queued = λ p ne. refl; named = λ p ne. or_other p q (h.named p) ne }

pub begun_but : (q : ℕ) (h : History) → SameBut q h (with_begun q h)
begun_but q h = record { turns = refl; begun = λ p ne. or_other p q (h.begun p) ne; queued = λ p ne. refl; named = λ p ne. refl }

pub queued_but : (q : ℕ) (bytes : List ℕ) (h : History) → SameBut q h (with_queued q bytes h)
queued_but q bytes h = record {
  turns = refl;
  begun = λ p ne. refl;
  queued = λ p ne. cond-false (p == q) _ _ (ne_eqb p q ne);
  named = λ p ne. refl;
}

-- the same facts under equal names
pub stands_as : {link : Link} {a b : Held} {c d : Bool} {q r : List ℕ} {n m : Bool} {s t : Status} {e f : Bool}
    → b ≡ a → d ≡ c → r ≡ q → m ≡ n → t ≡ s → f ≡ e → StandsAt link a c q n s e → StandsAt link b d r m t f
stands_as {link} {a} {b} {c} {d} {q} {r} {n} {m} {s} {t} {e} {f} ba dc rq mn ts fe x =
    subst (λ v. StandsAt link b d r m t v) (sym fe)
    (subst (λ v. StandsAt link b d r m v e) (sym ts)
    (subst (λ v. StandsAt link b d r v s e) (sym mn)
    (subst (λ v. StandsAt link b d v n s e) (sym rq)
    (subst (λ v. StandsAt link b v q n s e) (sym dc)
    (subst (λ v. StandsAt link v c q n s e) (sym ba) x)))))

-- the queues of all but one place are the same
pub OthersHeld : ℕ → List Held → List Held → Type 0
OthersHeld q was now = (p : ℕ) → p ≢ q → held_in (slice_get now p) ≡ held_in (slice_get was p)

-- an entry of one connection
pub stand_at : {links : List Link} {queues now : List Held} {left : ℕ} {h k : History} {past : List Entry} (entry : Entry) (q : ℕ) (new : Link)
    → q < length links → is_wait entry ≡ false → ((p : ℕ) → p ≢ q → concerns p entry ≡ false)
    → ((p : ℕ) → p ≢ q → held_in (slice_get now p) ≡ held_in (slice_get queues p)) → SameBut q h k
    → StandsAt new (held_in (slice_get now q)) (k.begun q) (k.queued q) (k.named q) (status q (entry ∷ past)) (write_ended q (entry ∷ past))
    → Stand links queues left h past → Stand (set links q new) now left k (entry ∷ past)
stand_at {links} {queues} {now} {left} {h} {k} {past} entry q new within no_wait others held but own stand = record {
  size = length-set links q new ∙ stand.size;
  waits = ap (λ n. n + left) (not_counted entry past no_wait) ∙ stand.waits ∙ sym but.turns;
  each = λ p link is. elim (cases_eq p q) [
    | inl e ↦
        let here : slice_get (set links q new) q ≡ Some link = subst (λ i. slice_get (set links q new) i ≡ Some link) e is in
        let link_is : new ≡ link = same_Some _ _ (sym (slice_get-set_same links q new within) ∙ here) in
        subst (λ i. StandsAt link (held_in (slice_get now i)) (k.begun i) (k.queued i) (k.named i) (status i (entry ∷ past)) (write_ended i (entry ∷ past))) (sym e)
        (subst (λ l. StandsAt l (held_in (slice_get now q)) (k.begun q) (k.queued q) (k.named q) (status q (entry ∷ past)) (write_ended q (entry ∷ past))) link_is own)
    | inr ne ↦
        let was : slice_get links p ≡ Some link = sym (slice_get-set_other links q p new ne) ∙ is in
        stands_as (held p ne) (but.begun p ne) (but.queued p ne) (but.named p ne)
        (status_elsewhere p entry past (others p ne)) (ended_elsewhere p entry past (others p ne)) (stand.each p link was)
  ];
}

-- ---- calls one after another

pub goes_start : {rule : History → List Entry → Type 0} {l : Loop} (before : List Entry)
    → Goes rule (λ h. h) l l before before
goes_start before = record { so = λ h s. (s, start) }

pub goes_then : {P Q R : History → List Entry → Type 0} {f g : History → History} {a b c : Loop} {i j k : List Entry}
    → ((h : History) (now : List Entry) → P h now → R h now) → ((h : History) (now : List Entry) → Q (f h) now → R h now)
    → Goes P f a b i j → Goes Q g b c j k → Goes R (λ h. g (f h)) a c i k
goes_then {f = f} u v m n = record {
  so = λ h s.
      let first = m.so h s in
      let second = n.so (f h) first.0 in
      (second.0, since_then (since_as (u h) first.1) (since_as (v h) second.1));
}

pub goes_as : {P Q : History → List Entry → Type 0} {f : History → History} {a b : Loop} {i j : List Entry}
    → ((h : History) (now : List Entry) → P h now → Q h now) → Goes P f a b i j → Goes Q f a b i j
goes_as u m = record { so = λ h s. let r = m.so h s in (r.0, since_as (u h) r.1) }

-- two calls of the wire that did not fail
pub cause_then : {a b c : Counts} {F G : Type 0} → NetCause a b F → NetCause b c G → (F → ⊥) → (G → ⊥) → NetCause a c ⊥
cause_then {a} {b} {c} m n f g =
    let with_net : Counts → Counts = λ k. record k { net = c.net } in
    record {
      others = n.others ∙ ap with_net m.others;
      net = record { later = omega (arith, m.net.later, n.net.later); cause = λ h. absurd h };
    }

-- the same under an equal step
pub goes_step : {P : History → List Entry → Type 0} {f g : History → History} {a b : Loop} {i j : List Entry}
    → ((h : History) → f h ≡ g h)
    → Goes P f a b i j → Goes P g a b i j
goes_step {b = b} {j = j} same m = record { so = λ h s. let r = m.so h s in (subst (λ k. StandsFor b k j) (same h) r.0, r.1) }
