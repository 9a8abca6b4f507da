-- Only a connection that was begun, and not closed since, is used or to be begun again, and none is both.
use Rattle.std.proofs.Common.{◌≡◌, inl, inr, ◌<◌, ◌||◌, ◌&&◌, not, ℕ, zero, suc, Bool, true, false, List, length, set, replicate, Option, Some, None, is_some, slice_get, arith, refl, sym, ◌∙◌, ap, subst}
use Rattle.std.proofs.lemmas.Bool.{cases_eq, false≢true, or_parts, or_right}
use Rattle.std.proofs.Math.ListN.{length-set}
use Rattle.std.proofs.lemmas.Option.{same_Some, slice_get_within}
use Rattle.world.specs.declared.connected.Connected.{Connected}
use Rattle.world.specs.declared.connected.Connected.TheVariants as connected
use Rattle.world.specs.declared.did.Did.{Did}
use Rattle.world.specs.declared.did.Did.TheVariants as did
use Rattle.world.specs.declared.got.Got.{Got}
use Rattle.world.specs.declared.got.Got.TheVariants as got
use Rattle.world.specs.declared.put.Put.{Put}
use Rattle.world.specs.declared.put.Put.TheVariants as put
use Rattle.ready_loop.specs.declared.link.Link.{Link}
use Rattle.ready_loop.specs.declared.stage.Stage.{Stage}
use Rattle.ready_loop.specs.declared.stage.Stage.TheVariants.{Fresh, Begun, Closed}
use Rattle.ready_loop.specs.Link.{MayRead, MayWrite, is_begun, is_known, is_used, may_wake, refused_clock, IsSteady, fresh_link, connect_link, read_link, write_link, wait_link, closed_link, named_link}
use Rattle.ready_loop.specs.Table.{AllSteady}
use Rattle.jtext.proofs.Lists.{slice_get-set_same, slice_get-set_other}

-- a clock is kept only where it was begun
clock_some : (stage : Stage) (last at : ℕ) → refused_clock stage last ≡ Some at → is_begun stage ≡ true
clock_some Fresh last at e = cc
clock_some Begun last at e = refl
clock_some Closed last at e = cc

-- and it is the last one
pub clock_last : (stage : Stage) (last at : ℕ) → refused_clock stage last ≡ Some at → last ≡ at
clock_last Fresh last at e = cc
clock_last Begun last at e = same_Some _ _ e
clock_last Closed last at e = cc

-- where it was begun one is kept
pub clock_begun : (stage : Stage) (last : ℕ) → is_begun stage ≡ true → refused_clock stage last ≡ Some last
clock_begun Fresh last e = cc
clock_begun Begun last e = refl
clock_begun Closed last e = cc

-- one that was begun is known
pub known_begun : (stage : Stage) → is_begun stage ≡ true → is_known stage ≡ true
known_begun Fresh e = cc
known_begun Begun e = refl
known_begun Closed e = refl

-- ---- what each call makes of it

used_awake : (link : Link) → link.awake ≡ true → is_used link ≡ true
used_awake link e = ap (λ b. b || (link.writable || link.failed)) e

used_open : (link : Link) → link.writable ≡ true → is_used link ≡ true
used_open link e = or_right link.awake (link.writable || link.failed) (ap (λ b. b || link.failed) e)

not_used : (b : Bool) → (b ≡ true → ⊥) → b ≡ false
not_used true none = absurd (none refl)
not_used false none = refl

-- one that was begun is used, or is to be begun again
pub well_read : (link : Link) → IsSteady link → MayRead link → is_begun link.stage ≡ true
well_read link s may = s.used (used_awake link may.awake)

pub well_write : (link : Link) → IsSteady link → MayWrite link → is_begun link.stage ≡ true
well_write link s may = s.used (used_open link may.writable)

-- of one that is to be begun again no call has failed
pub calm_sound : (link : Link) → IsSteady link → (at : ℕ) → link.refused ≡ Some at → link.failed ≡ false
calm_sound link s at e = (or_parts link.writable link.failed (or_parts link.awake (link.writable || link.failed) (s.calm at e)).1).1

-- one that was not begun is not used
pub fresh_unused : (link : Link) → IsSteady link → is_begun link.stage ≡ false → is_used link ≡ false
fresh_unused link s none = not_used (is_used link) (λ u. false≢true (sym none ∙ s.used u))

-- it is used only where it was
steady_less : (link then : Link) → (is_used then ≡ true → is_used link ≡ true) → then.stage ≡ link.stage → then.refused ≡ link.refused
    → IsSteady link → IsSteady then
steady_less link then less stage refused s = record {
  used = λ u. ap is_begun stage ∙ s.used (less u);
  begun = λ at e. ap is_begun stage ∙ s.begun at (sym refused ∙ e);
  calm = λ at e. not_used (is_used then) (λ u. false≢true (sym (s.calm at (sym refused ∙ e)) ∙ less u));
}

-- it is to be begun again where it was begun, and is not used
steady_refused : (link then : Link) (last : ℕ) → then.stage ≡ link.stage → then.refused ≡ refused_clock link.stage last → is_used then ≡ false
    → IsSteady then
steady_refused link then last stage refused unused = record {
  used = λ u. absurd (false≢true (sym unused ∙ u));
  begun = λ at e. ap is_begun stage ∙ clock_some link.stage last at (sym refused ∙ e);
  calm = λ at e. unused;
}

-- a call of it failed, and it is not to be begun again
steady_failed : (link then : Link) → then.stage ≡ link.stage → then.refused ≡ link.refused → is_used link ≡ true → IsSteady link → IsSteady then
steady_failed link then stage refused used s = record {
  used = λ u. ap is_begun stage ∙ s.used used;
  begun = λ at e. ap is_begun stage ∙ s.begun at (sym refused ∙ e);
  calm = λ at e. absurd (false≢true (sym (s.calm at (sym refused ∙ e)) ∙ used));
}

last_of : (a w f : Bool) → f ≡ true → a || (w || f) ≡ true
last_of a w f e = or_right a (w || f) (or_right w f e)

open_less : (a w f : Bool) → a || f ≡ true → a || (w || f) ≡ true
open_less true w f e = refl
open_less false w f e = or_right w f e

pub begun_fresh : IsSteady fresh_link
begun_fresh = record { used = λ u. cc; begun = λ at e. cc; calm = λ at e. cc }

pub begun_connect : (how : Connected) (last : ℕ) (link : Link) → is_begun link.stage ≡ true → is_used link ≡ false
    → IsSteady (connect_link how last link)
begun_connect connected.Begun last link b unused = record { used = λ u. b; begun = λ at e. b; calm = λ at e. cc }
begun_connect connected.Refused last link b unused = record { used = λ u. b; begun = λ at e. b; calm = λ at e. unused }
begun_connect connected.Failed last link b unused = record { used = λ u. b; begun = λ at e. b; calm = λ at e. cc }

pub begun_read : (answer : Got) (last : ℕ) (link : Link) → MayRead link → IsSteady link
    → IsSteady (read_link answer last link)
begun_read (got.Piece n) last link may s = steady_less link (read_link (got.Piece n) last link) (λ u. u) refl refl s
begun_read got.Dry last link may s = steady_less link (read_link got.Dry last link) (λ u. or_right link.awake (link.writable || link.failed) u) refl refl s
begun_read got.Ended last link may s = steady_less link (read_link got.Ended last link) (λ u. last_of link.awake link.writable link.failed u) refl refl s
begun_read got.Refused last link may s = steady_refused link (read_link got.Refused last link) last refl refl may.sound
begun_read got.Failed last link may s = steady_failed link (read_link got.Failed last link) refl refl (used_awake link may.awake) s

pub begun_write : (answer : Put) (last : ℕ) (link : Link) → MayWrite link → IsSteady link
    → IsSteady (write_link answer last link)
begun_write (put.Took n) last link may s = s
begun_write put.Stuck last link may s = steady_less link (write_link put.Stuck last link) (λ u. open_less link.awake link.writable link.failed u) refl refl s
begun_write put.Ended last link may s = steady_less link (write_link put.Ended last link) (λ u. last_of link.awake link.writable link.failed u) refl refl s
begun_write put.Refused last link may s = steady_refused link (write_link put.Refused last link) last refl refl may.sound
begun_write put.Failed last link may s = steady_failed link (write_link put.Failed last link) refl refl (used_open link may.writable) s

-- a report counts only for one that was begun, and is not to be begun again
wakes_begun : (r b c : Bool) → r && (b && c) ≡ true → b ≡ true
wakes_begun true true c e = refl
wakes_begun true false c e = absurd (false≢true e)
wakes_begun false b c e = absurd (false≢true e)

wakes_calm : (r b : Bool) (o : Option ℕ) (at : ℕ) → r && (b && not (is_some o)) ≡ true → o ≡ Some at → ⊥
wakes_calm true true (Some x) at e is = false≢true e
wakes_calm true true None at e is = cc
wakes_calm true false o at e is = false≢true e
wakes_calm false b o at e is = false≢true e

pub begun_wait : (answer : Did) (ready : Bool) (link : Link) → IsSteady link
    → IsSteady (wait_link answer ready link)
begun_wait did.Done ready link s = wake (ready && may_wake link) refl
  where
    wake : (k : Bool) → ready && may_wake link ≡ k → IsSteady (record link { awake = k || link.awake; writable = k || link.writable; reads = 0 })
    wake true e = record {
      used = λ u. wakes_begun ready (is_begun link.stage) (not (is_some link.refused)) e;
      begun = s.begun;
      calm = λ at is. absurd (wakes_calm ready (is_begun link.stage) link.refused at e is);
    }
    wake false e = record { used = s.used; begun = s.begun; calm = s.calm }
begun_wait did.Failed ready link s = record { used = s.used; begun = s.begun; calm = s.calm }

pub begun_closed : (link : Link) → IsSteady (closed_link link)
begun_closed link = record { used = λ u. absurd (false≢true u); begun = λ at e. cc; calm = λ at e. cc }

pub begun_named : (link : Link) → IsSteady link → IsSteady (named_link link)
begun_named link s = record { used = s.used; begun = s.begun; calm = s.calm }

-- ---- the table

pub all_set : (links : List Link) (p : ℕ) (link : Link) → AllSteady links → IsSteady link
    → AllSteady (set links p link)
all_set links p link all own q x found = elim (cases_eq q p) [
  | inl e ↦
      let at : slice_get (set links p link) p ≡ Some x = subst (λ i. slice_get (set links p link) i ≡ Some x) e found in
      let low : p < length links = omega (arith, slice_get_within (set links p link) p _ at, length-set links p link) in
      subst (λ l. IsSteady l) (same_Some _ _ (sym (slice_get-set_same links p link low) ∙ at)) own
  | inr ne ↦ all q x (sym (slice_get-set_other links p q link ne) ∙ found)
]

pub all_fresh : (n : ℕ) → AllSteady (replicate n fresh_link)
all_fresh zero p link found = cc
all_fresh (suc n) zero link found = subst (λ l. IsSteady l) (same_Some _ _ found) begun_fresh
all_fresh (suc n) (suc p) link found = all_fresh n p link found
