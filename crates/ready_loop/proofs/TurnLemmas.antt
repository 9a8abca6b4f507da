-- How one connection goes on standing for the journal, where a wait reports it, its ends are named, or bytes are queued.
use Rattle.std.proofs.Common.{◌≡◌, ◌++◌, ◌||◌, ◌&&◌, not, ℕ, Bool, true, false, List, Option, is_some, refl, ◌∙◌, ap, append_assoc}
use Rattle.world.specs.declared.did.Did.{Did}
use Rattle.world.specs.declared.did.Did.TheVariants as did
use Rattle.world.specs.Places.{Status, waited_after, is_reported}
use Rattle.ready_loop.specs.declared.end.End.{End}
use Rattle.ready_loop.specs.declared.end.End.TheVariants.{No, Found, Named}
use Rattle.ready_loop.specs.declared.link.Link.{Link}
use Rattle.ready_loop.specs.Link.{wait_link, may_wake, named_end, named_link, is_found}
use Rattle.ready_loop.specs.Queues.{Held}
use Rattle.ready_loop.specs.Standing.{StandsAt, EndIs, put_by}
use Rattle.ready_loop.proofs.StepLemmas.{stands_on, awake_still, open_still, failed_still}
use Rattle.ready_loop.proofs.CallLemmas.{both_never}

-- ---- a wait

either_up : {X : Type 0} (a b : Bool) → (a ≡ true → X) → (b ≡ true → X) → a || b ≡ true → X
either_up true b f g e = f refl
either_up false b f g e = g e

-- a report of one that is up counts
wakes : {link : Link} {held : Held} {b : Bool} {q : List ℕ} {n : Bool} {s : Status} {e : Bool} (ready : Bool) → (ready ≡ true → s.up ≡ true) → StandsAt link held b q n s e
    → ready && may_wake link ≡ ready
wakes {link} true up m =
    let is_up = up refl in
    ap (λ b. b && not (is_some link.refused)) (m.stage ∙ m.up_begun is_up) ∙ ap (λ (o : Option ℕ). not (is_some o)) (m.refused ∙ m.up_calm is_up)
wakes false up m = refl

pub stands_waited : (link : Link) (held : Held) (b : Bool) (q : List ℕ) (n : Bool) (s : Status) (e : Bool) (answer : Did) (ready : List Bool) (p : ℕ)
    → (is_reported p ready ≡ true → s.up ≡ true) → StandsAt link held b q n s e
    → StandsAt (wait_link answer (is_reported p ready) link) held b q n (waited_after p ready answer s) e
stands_waited link held b q n s e did.Done ready p up m =
    let k = is_reported p ready && may_wake link in
    let same = wakes (is_reported p ready) up m in
    stands_on m s.put s.got
    (record { same = ap (λ x. k || x) m.awake ∙ ap (λ x. x || s.awake) same; counted = λ a. refl; is_up = either_up (is_reported p ready) s.awake up m.reported })
    (record { same = ap (λ x. k || x) m.writable ∙ ap (λ x. x || s.writable) same; is_up = either_up (is_reported p ready) s.writable up m.open_up })
    (failed_still m) m.refused_unused m.sends
stands_waited link held b q n s e did.Failed ready p up m =
    stands_on m s.put s.got (record { same = m.awake; counted = λ a. refl; is_up = m.reported }) (open_still m) (failed_still m) m.refused_unused m.sends

-- ---- an answer that names the ends that were found

-- a connection is named by an answer, or was before
abbrev pub named_so : End → Bool → Bool
named_so end n = is_found end || n

ends_told : (end : End) (b n e : Bool) → EndIs end b n e → EndIs (named_end end) b (named_so end n) e
ends_told No b n e m = m
ends_told Found b n e m = record { found = both_never b e; told = refl }
ends_told Named b n e m = m

whole_told : {end : End} → end ≡ No → named_end end ≡ No
whole_told e = ap named_end e

pub stands_named : (link : Link) (held : Held) (b : Bool) (q : List ℕ) (n : Bool) (s : Status) (e : Bool)
    → StandsAt link held b q n s e → StandsAt (named_link link) held b q (named_so link.end n) s e
stands_named link held b q n s e m =
    record {
      awake = m.awake;
      writable = m.writable;
      failed = m.failed;
      refused = m.refused;
      reads = m.reads;
      known = m.known;
      stage = m.stage;
      port = m.port;
      failed_begun = m.failed_begun;
      reported = m.reported;
      open_up = m.open_up;
      up_begun = m.up_begun;
      up_calm = m.up_calm;
      up_whole = λ u. whole_told (m.up_whole u);
      refused_begun = m.refused_begun;
      refused_unused = m.refused_unused;
      refused_whole = λ at is. whole_told (m.refused_whole at is);
      fresh_whole = λ st. whole_told (m.fresh_whole st);
      sends = m.sends;
      ends = ends_told link.end b n e m.ends;
    }

-- ---- bytes that are queued

pub stands_queued : (link : Link) (held : Held) (b : Bool) (q : List ℕ) (n : Bool) (s : Status) (e : Bool) (more : List ℕ)
    → StandsAt link held b q n s e
    → StandsAt link (record { rest = held.rest ++ more; taken = held.taken }) b (q ++ more) n s e
stands_queued link held b q n s e more m =
    stands_on m s.put s.got (awake_still m) (open_still m) (failed_still m) m.refused_unused
    (record { whole = ap (λ xs. xs ++ more) m.sends.whole ∙ append_assoc (put_by b s.put) held.rest more; taken = m.sends.taken })
