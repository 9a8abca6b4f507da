-- How one connection goes on standing for the journal, where it is connected or closed.
use Rattle.std.proofs.Common.{◌≡◌, ℕ, Bool, true, false, List, [], Option, Some, None, refl, sym, ◌∙◌, ap, subst}
use Rattle.std.proofs.lemmas.Bool.{false≢true, false_from_ne_true}
use Rattle.std.proofs.lemmas.Option.{none-some}
use Rattle.world.specs.declared.connected.Connected.{Connected}
use Rattle.world.specs.declared.connected.Connected.TheVariants as connected
use Rattle.world.specs.Places.{Status, connected_after, closed_after}
use Rattle.ready_loop.specs.declared.end.End.{End}
use Rattle.ready_loop.specs.declared.end.End.TheVariants.{No}
use Rattle.ready_loop.specs.declared.link.Link.{Link}
use Rattle.ready_loop.specs.declared.stage.Stage.{Stage}
use Rattle.ready_loop.specs.declared.stage.Stage.TheVariants.{Fresh, Begun, Closed}
use Rattle.ready_loop.specs.Link.{connect_link, begun_link, closed_link, is_found, is_known, is_begun, closed_stage}
use Rattle.ready_loop.specs.Queues.{Held}
use Rattle.ready_loop.specs.Standing.{StandsAt, Sends, EndIs, put_by}
use Rattle.ready_loop.proofs.StepLemmas.{AwakeIs, OpenIs, stands_tried, awake_with, awake_still, open_still, opened}
use Rattle.ready_loop.proofs.CallLemmas.{ends_again}

-- ---- a connect of one that was refused

sends_anew : {held : Held} {q p : List ℕ} (b : Bool) → p ≡ [] → Sends held q (put_by b p) → Sends held q (put_by b [])
sends_anew {held} {q} b e m = subst (λ xs. Sends held q (put_by b xs)) e m

pub stands_again : (link : Link) (held : Held) (b : Bool) (q : List ℕ) (n : Bool) (s : Status) (e : Bool) (how : Connected) (last clock at : ℕ)
    → last ≡ clock → link.refused ≡ Some at → StandsAt link held b q n s e
    → StandsAt (connect_link how last link) held b q n (connected_after how link.port clock s) false
stands_again link held b q n s e how last clock at t refused m = by how
  where
    was : s.refused ≡ Some at
    was = sym m.refused ∙ refused

    down : {A : Type 0} → s.up ≡ true → A
    down up = absurd (none-some _ (sym (m.up_calm up) ∙ was))

    tried : {a w f x y z up : Bool} {reads count : ℕ} {refused after : Option ℕ} → AwakeIs a reads x count up → OpenIs w y up → f ≡ z → refused ≡ after
        → (up ≡ true → after ≡ None)
        → StandsAt (record link { awake = a; writable = w; failed = f; refused = refused; reads = reads }) held b q n
        (record { begun = true; port = Some link.port; awake = x; writable = y; up = up; failed = z; refused = after; count = count; put = []; got = [] }) false
    tried =
        stands_tried link m.known (m.stage ∙ m.refused_begun at was) (m.refused_whole at was) (sends_anew b (m.refused_unused at was) m.sends)
        (ends_again (m.refused_whole at was) m.ends)

    by : (how : Connected) → StandsAt (connect_link how last link) held b q n (connected_after how link.port clock s) false
    by connected.Begun = tried (awake_with m true (λ a. refl)) opened m.failed refl (λ up. refl)
    by connected.Refused =
        tried (awake_with m false (λ a. down (m.reported a))) (record { same = m.writable; is_up = λ a. down (m.open_up a) }) m.failed (ap Some t)
        (λ up. absurd (false≢true up))
    by connected.Failed = tried (awake_still m) (open_still m) refl refl (λ up. refl)

-- ---- a first connect

ends_begun : {end : End} {b n e : Bool} → end ≡ No → EndIs end b n e → EndIs end true n false
ends_begun {end} {n = n} whole m = record { found = ap is_found whole; told = m.told }

sends_begun : {held : Held} {b : Bool} {q : List ℕ} (p : List ℕ) → b ≡ false → Sends held q (put_by b p) → Sends held q []
sends_begun {held} {q = q} p e m = subst (λ xs. Sends held q xs) (ap (λ x. put_by x p) e) m

pub stands_begun : (link : Link) (held : Held) (b : Bool) (q : List ℕ) (n : Bool) (s : Status) (e : Bool) (how : Connected) (number last clock : ℕ)
    → last ≡ clock → link.stage ≡ Fresh → StandsAt link held b q n s e
    → StandsAt (connect_link how last (begun_link number link)) held true q n (connected_after how number clock s) false
stands_begun link held b q n s e how number last clock t fresh m = by how
  where
    shut : s.begun ≡ false
    shut = sym m.stage ∙ ap is_begun fresh

    down : {A : Type 0} → s.up ≡ true → A
    down up = absurd (false≢true (sym shut ∙ m.up_begun up))

    tried : {a w f x y z up : Bool} {reads count : ℕ} {refused after : Option ℕ} → AwakeIs a reads x count up → OpenIs w y up → f ≡ z → refused ≡ after
        → (up ≡ true → after ≡ None)
        → StandsAt (record (begun_link number link) { awake = a; writable = w; failed = f; refused = refused; reads = reads }) held true q n
        (record { begun = true; port = Some number; awake = x; writable = y; up = up; failed = z; refused = after; count = count; put = []; got = [] }) false
    tried =
        stands_tried (begun_link number link) refl refl (m.fresh_whole fresh) (sends_begun s.put (sym m.known ∙ ap is_known fresh) m.sends)
        (ends_begun (m.fresh_whole fresh) m.ends)

    by : (how : Connected) → StandsAt (connect_link how last (begun_link number link)) held true q n (connected_after how number clock s) false
    by connected.Begun = tried (awake_with m true (λ a. refl)) opened m.failed refl (λ up. refl)
    by connected.Refused =
        tried (awake_with m false (λ a. down (m.reported a))) (record { same = m.writable; is_up = λ a. down (m.open_up a) }) m.failed (ap Some t)
        (λ up. absurd (false≢true up))
    by connected.Failed = tried (awake_still m) (open_still m) refl refl (λ up. refl)

-- ---- a close

pub known_closed : (stage : Stage) → is_known (closed_stage stage) ≡ is_known stage
known_closed Fresh = refl
known_closed Begun = refl
known_closed Closed = refl

pub begun_closed : (stage : Stage) → is_begun (closed_stage stage) ≡ false
begun_closed Fresh = refl
begun_closed Begun = refl
begun_closed Closed = refl

not_begun : {X : Type 0} (stage : Stage) → closed_stage stage ≡ Begun → X
not_begun stage e = let f = sym (begun_closed stage) ∙ ap is_begun e in absurd (false≢true f)

fresh_closed : (stage : Stage) → closed_stage stage ≡ Fresh → stage ≡ Fresh
fresh_closed Fresh e = refl
fresh_closed Begun e = cc
fresh_closed Closed e = cc

pub stands_closed : (link : Link) (held : Held) (b : Bool) (q : List ℕ) (n : Bool) (s : Status) (e : Bool)
    → StandsAt link held b q n s e → StandsAt (closed_link link) held b q n (closed_after s) e
stands_closed link held b q n s e m =
    record {
      awake = refl;
      writable = refl;
      failed = refl;
      refused = refl;
      reads = λ a. absurd (false≢true a);
      known = known_closed link.stage ∙ m.known;
      stage = begun_closed link.stage;
      port = λ st. not_begun link.stage st;
      failed_begun = λ a. absurd (false≢true a);
      reported = λ a. absurd (false≢true a);
      open_up = λ a. absurd (false≢true a);
      up_begun = λ a. absurd (false≢true a);
      up_calm = λ a. absurd (false≢true a);
      up_whole = λ a. absurd (false≢true a);
      refused_begun = λ k is. absurd (none-some _ is);
      refused_unused = λ k is. absurd (none-some _ is);
      refused_whole = λ k is. absurd (none-some _ is);
      fresh_whole = λ st. m.fresh_whole (fresh_closed link.stage st);
      sends = m.sends;
      ends = m.ends;
    }

down : {a : Bool} → (a ≡ true → false ≡ true) → false ≡ a
down {a} f = sym (false_from_ne_true a (λ e. false≢true (f e)))

none_is : (o : Option ℕ) → ((at : ℕ) → o ≡ Some at → false ≡ true) → None ≡ o
none_is None f = refl
none_is (Some at) f = absurd (false≢true (f at refl))

-- one that is not begun has nothing to be closed
pub stands_unbegun : (link : Link) (held : Held) (b : Bool) (q : List ℕ) (n : Bool) (s : Status) (e : Bool)
    → is_begun link.stage ≡ false → StandsAt link held b q n s e → StandsAt (closed_link link) held b q n s e
stands_unbegun link held b q n s e shut m =
    let not_up : s.up ≡ true → false ≡ true = λ u. sym shut ∙ m.stage ∙ m.up_begun u in
    record {
      awake = down (λ a. not_up (m.reported a));
      writable = down (λ a. not_up (m.open_up a));
      failed = down (λ f. sym shut ∙ m.stage ∙ m.failed_begun f);
      refused = none_is s.refused (λ at is. sym shut ∙ m.stage ∙ m.refused_begun at is);
      reads = λ a. absurd (false≢true a);
      known = known_closed link.stage ∙ m.known;
      stage = begun_closed link.stage ∙ sym shut ∙ m.stage;
      port = λ st. not_begun link.stage st;
      failed_begun = m.failed_begun;
      reported = m.reported;
      open_up = m.open_up;
      up_begun = m.up_begun;
      up_calm = m.up_calm;
      up_whole = m.up_whole;
      refused_begun = m.refused_begun;
      refused_unused = m.refused_unused;
      refused_whole = m.refused_whole;
      fresh_whole = λ st. m.fresh_whole (fresh_closed link.stage st);
      sends = m.sends;
      ends = m.ends;
    }
