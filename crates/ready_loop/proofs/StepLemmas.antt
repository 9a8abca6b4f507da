-- What of one connection changes from call to call, and how it goes on standing for the journal after that.
use Rattle.std.proofs.Common.{◌≡◌, ℕ, Bool, true, false, List, [], Option, Some, None, refl, sym, ◌∙◌, ap}
use Rattle.std.proofs.lemmas.Bool.{false≢true}
use Rattle.world.specs.Places.{Status}
use Rattle.ready_loop.specs.declared.end.End.{End}
use Rattle.ready_loop.specs.declared.end.End.TheVariants.{No}
use Rattle.ready_loop.specs.declared.link.Link.{Link}
use Rattle.ready_loop.specs.Link.{is_known, is_begun}
use Rattle.ready_loop.specs.Queues.{Held}
use Rattle.ready_loop.specs.Standing.{StandsAt, Sends, EndIs, put_by}

-- ---- three parts of it

-- it is awake where the journal says so, and then it is up and its reads are counted
pub record AwakeIs (kept : Bool) (reads : ℕ) (told : Bool) (count : ℕ) (up : Bool) : Type 0 where
  pub same : kept ≡ told
  pub counted : kept ≡ true → reads ≡ count
  pub is_up : told ≡ true → up ≡ true

-- it is writable where the journal says so, and then it is up
pub record OpenIs (kept told up : Bool) : Type 0 where
  pub same : kept ≡ told
  pub is_up : told ≡ true → up ≡ true

-- it has failed where the journal says so, and then it was begun
pub record FailedIs (kept told begun : Bool) : Type 0 where
  pub same : kept ≡ told
  pub was_begun : told ≡ true → begun ≡ true

-- it was read to its end
pub asleep : {reads count : ℕ} {up : Bool} → AwakeIs false reads false count up
asleep = record { same = refl; counted = λ a. absurd (false≢true a); is_up = λ a. absurd (false≢true a) }

-- it takes no bytes
pub stuck : {up : Bool} → OpenIs false false up
stuck = record { same = refl; is_up = λ a. absurd (false≢true a) }

-- a connect was begun
pub opened : OpenIs true true true
opened = record { same = refl; is_up = λ a. refl }

-- a call of it failed
pub broken : {begun : Bool} → begun ≡ true → FailedIs true true begun
broken b = record { same = refl; was_begun = λ f. b }

module _ {link : Link} {held : Held} {b : Bool} {q : List ℕ} {n : Bool} {s : Status} {e : Bool} (m : StandsAt link held b q n s e) where
  -- none of them changes
  pub awake_with : (up : Bool) → (s.awake ≡ true → up ≡ true) → AwakeIs link.awake link.reads s.awake s.count up
  awake_with up is_up = record { same = m.awake; counted = m.reads; is_up = is_up }

  pub awake_still : AwakeIs link.awake link.reads s.awake s.count s.up
  awake_still = awake_with s.up m.reported

  pub open_still : OpenIs link.writable s.writable s.up
  open_still = record { same = m.writable; is_up = m.open_up }

  pub failed_still : FailedIs link.failed s.failed s.begun
  failed_still = record { same = m.failed; was_begun = m.failed_begun }

  -- a call that leaves its stage, its refusal and its end
  pub stands_on : {a w f x y z : Bool} {reads count : ℕ} {then : Held} {r : List ℕ} (put got : List ℕ)
      → AwakeIs a reads x count s.up → OpenIs w y s.up → FailedIs f z s.begun
      → ((at : ℕ) → s.refused ≡ Some at → put ≡ []) → Sends then r (put_by b put)
      → StandsAt (record link { awake = a; writable = w; failed = f; reads = reads }) then b r n
      (record s { awake = x; writable = y; failed = z; count = count; put = put; got = got }) e
  stands_on put got awake open_ failed unused sends =
      record {
        awake = awake.same;
        writable = open_.same;
        failed = failed.same;
        refused = m.refused;
        reads = awake.counted;
        known = m.known;
        stage = m.stage;
        port = m.port;
        failed_begun = failed.was_begun;
        reported = awake.is_up;
        open_up = open_.is_up;
        up_begun = m.up_begun;
        up_calm = m.up_calm;
        up_whole = m.up_whole;
        refused_begun = m.refused_begun;
        refused_unused = unused;
        refused_whole = m.refused_whole;
        fresh_whole = m.fresh_whole;
        sends = sends;
        ends = m.ends;
      }

  -- one that was up is lost
  pub stands_down : {refused clock : Option ℕ} {end : End} {then : Held} {k f : Bool} → s.up ≡ true
      → refused ≡ clock → ((at : ℕ) → clock ≡ Some at → s.put ≡ []) → ((at : ℕ) → clock ≡ Some at → end ≡ No)
      → Sends then q (put_by b s.put) → EndIs end b k f
      → StandsAt (record link { awake = false; writable = false; refused = refused; end = end }) then b q k
      (record s { awake = false; writable = false; up = false; refused = clock }) f
  stands_down up is unused whole sends ends =
      record {
        awake = refl;
        writable = refl;
        failed = m.failed;
        refused = is;
        reads = λ a. absurd (false≢true a);
        known = m.known;
        stage = m.stage;
        port = m.port;
        failed_begun = m.failed_begun;
        reported = λ a. absurd (false≢true a);
        open_up = λ a. absurd (false≢true a);
        up_begun = λ a. absurd (false≢true a);
        up_calm = λ a. absurd (false≢true a);
        up_whole = λ a. absurd (false≢true a);
        refused_begun = λ at so. m.up_begun up;
        refused_unused = unused;
        refused_whole = whole;
        fresh_whole = λ fresh. absurd (false≢true (sym (ap is_begun fresh) ∙ m.stage ∙ m.up_begun up));
        sends = sends;
        ends = ends;
      }

-- a connect was called for one that has not ended
pub stands_tried : (link : Link) {held : Held} {b : Bool} {q : List ℕ} {n : Bool} {a w f x y z up : Bool} {reads count : ℕ} {refused clock : Option ℕ}
    → is_known link.stage ≡ b → is_begun link.stage ≡ true → link.end ≡ No → Sends held q (put_by b []) → EndIs link.end b n false
    → AwakeIs a reads x count up → OpenIs w y up → f ≡ z → refused ≡ clock → (up ≡ true → clock ≡ None)
    → StandsAt (record link { awake = a; writable = w; failed = f; refused = refused; reads = reads }) held b q n
    (record { begun = true; port = Some link.port; awake = x; writable = y; up = up; failed = z; refused = clock; count = count; put = []; got = [] }) false
stands_tried link known begun whole sends ends awake open_ failed is calm =
    record {
      awake = awake.same;
      writable = open_.same;
      failed = failed;
      refused = is;
      reads = awake.counted;
      known = known;
      stage = begun;
      port = λ st. refl;
      failed_begun = λ t. refl;
      reported = awake.is_up;
      open_up = open_.is_up;
      up_begun = λ u. refl;
      up_calm = calm;
      up_whole = λ u. whole;
      refused_begun = λ at so. refl;
      refused_unused = λ at so. refl;
      refused_whole = λ at so. whole;
      fresh_whole = λ st. whole;
      sends = sends;
      ends = ends;
    }
