-- What an answer that names ends does to a loop.
use Rattle.std.proofs.Common.{◌≡◌, ◌+◌, ◌<◌, ◌||◌, ℕ, Bool, false, List, length, set, Some, slice_get, unwrap_or, arith, refl, sym, ◌∙◌, ap, subst, Ok}
use Rattle.std.proofs.lemmas.Bool.{cases_eq}
use Rattle.std.proofs.lemmas.Option.{slice_get_within}
use Rattle.std.proofs.Common.{inl, inr}
use Rattle.world.specs.declared.entry.Entry.{Entry}
use Rattle.world.specs.Places.{is_reported, status}
use Rattle.world.specs.Waits.{wait_count}
use Rattle.ready_loop.specs.declared.fault.LoopFault.{LoopFault}
use Rattle.ready_loop.specs.declared.readiness.Loop.{Loop}
use Rattle.ready_loop.specs.Link.{named_link, is_found}
use Rattle.ready_loop.specs.History.{History, no_change, with_all_named, after_names}
use Rattle.ready_loop.specs.Offers.{Names, is_to_name}
use Rattle.ready_loop.specs.Queues.{held_in, rest_at}
use Rattle.ready_loop.specs.Standing.{StandsAt, StandsFor, Goes, write_ended}
use Rattle.ready_loop.specs.States.{NamesAll, IsDrained, IsOffered, IsCalm, AllOfferedBelow, SameKnown, failed_at, found_in, found_at}
use Rattle.ready_loop.proofs.TurnLemmas.{stands_named}
use Rattle.ready_loop.proofs.MapLemmas.{maps_at, maps_begun, maps_failed, maps_known}
use Rattle.ready_loop.proofs.StandLemmas.{stands_as}
use Rattle.ready_loop.proofs.StateLemmas.{known_by}
use Rattle.jtext.proofs.Lists.{some_at, slice_get-set_same, slice_get-set_other}

-- the names so far, and one place more
pub named_more : (n : ℕ) (names : List Bool) (f : ℕ → Bool) (b : Bool) → n < length names → b ≡ f n
    → ((p : ℕ) → p < n → slice_get names p ≡ Some (f p))
    → (p : ℕ) → p < n + 1 → slice_get (set names n b) p ≡ Some (f p)
named_more n names f b lt is below p low = elim (cases_eq p n) [
  | inl e ↦ subst (λ i. slice_get (set names n b) i ≡ Some (f i)) (sym e) (slice_get-set_same names n b lt ∙ ap Some is)
  | inr ne ↦ slice_get-set_other names n p b ne ∙ below p (omega arith)
]

module _ (l new : Loop) (names : List Bool) (all : NamesAll l.links new.links) (queues : new.queues ≡ l.queues) (left : new.left ≡ l.left)
    (named : (p : ℕ) → p < 64 → slice_get names p ≡ Some (found_at l p)) where
  pub named_stands : (h : History) (journal : List Entry) → StandsFor l h journal
      → StandsFor new (with_all_named names h) journal
  named_stands h journal stand = record {
    size = all.size ∙ stand.size;
    waits = ap (λ n. wait_count journal + n) left ∙ stand.waits;
    each = λ p link found.
        let low : p < 64 = omega (arith, slice_get_within new.links p _ found, all.size, stand.size) in
        let (was, at, is) = maps_at (λ q. named_link) l.links new.links all p link low found in
        let told : is_reported p names ≡ is_found was.end = ap (λ o. unwrap_or o false) (named p low) ∙ ap found_in at in
        subst (λ x. StandsAt x (held_in (slice_get new.queues p)) (h.begun p) (h.queued p) (is_reported p names || h.named p) (status p journal) (write_ended p journal)) (sym is)
        (stands_as (ap (λ qs. held_in (slice_get qs p)) queues) refl refl (ap (λ b. b || h.named p) told) refl refl
        (stands_named was _ _ _ _ _ _ (stand.each p was at)));
  }

  pub names_are : (h : History) (journal : List Entry) → StandsFor l h journal → (p : ℕ) → p < 64
      → slice_get names p ≡ Some (is_to_name h journal p)
  names_are h journal stand p low =
      let (link, at) = some_at l.links p (omega (arith, stand.size)) in
      let m = stand.each p link at in
      named p low ∙ ap Some (ap found_in at ∙ m.ends.found)

  -- the same of a call that ends by naming
  pub named_goes : {P : History → List Entry → Type 0} {first : Loop} {i j : List Entry} → Goes P no_change first l i j
      → Goes P (after_names {E = LoopFault} (Ok names)) first new i j
  named_goes {i = i} {j} m = record { so = λ h s. let r = m.so h s in (named_stands h j r.0, r.1) }

  pub named_names : {P : History → List Entry → Type 0} {first : Loop} {i j : List Entry} → Goes P no_change first l i j
      → Names {E = LoopFault} (Ok names) first i j
  named_names {i = i} {j} m = record { so = λ h s p low. names_are h j (m.so h s).0 p low }

-- naming changes nothing of what is to be done
module _ (l new : Loop) (all : NamesAll l.links new.links) (queues : new.queues ≡ l.queues) where
  pub named_drained : IsDrained l → IsDrained new
  named_drained d = record {
    each = λ p link low found may.
        let (was, at, is) = maps_at (λ q. named_link) l.links new.links all p link low found in
        d.each p was low at (record { awake = sym (ap (λ x. x.awake) is) ∙ may.awake; sound = sym (ap (λ x. x.failed) is) ∙ may.sound; reads = subst (λ x. x < 64) (ap (λ x. x.reads) is) may.reads });
  }

  pub named_offered : {last : ℕ} → AllOfferedBelow 64 last l → IsOffered new
  named_offered o = record {
    each = λ p link low found may.
        let (was, at, is) = maps_at (λ q. named_link) l.links new.links all p link low found in
        ap (λ qs. rest_at qs p) queues
        ∙ (o.each p low).sent was at (record { writable = sym (ap (λ x. x.writable) is) ∙ may.writable; sound = sym (ap (λ x. x.failed) is) ∙ may.sound });
  }

  pub named_calm : {last : ℕ} → AllOfferedBelow 64 last l → IsCalm last new
  named_calm o = record {
    each = λ p link low found at refused.
        let (was, here, is) = maps_at (λ q. named_link) l.links new.links all p link low found in
        (o.each p low).calm.at was here at (sym (ap (λ x. x.refused) is) ∙ refused);
  }

  pub named_failed : (p : ℕ) → failed_at new p ≡ failed_at l p
  named_failed p = maps_failed 64 (λ q. named_link) l.links new.links (λ q link. refl) all p

  pub named_known : SameKnown l new
  named_known = known_by l new (maps_known 64 (λ q. named_link) l.links new.links (λ q link. refl) all) (maps_begun 64 (λ q. named_link) l.links new.links (λ q link. refl) all) (λ p e. ap (λ qs. rest_at qs p) queues ∙ e)
