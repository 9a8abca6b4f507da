-- What a wait does to a loop, and its limit.
use Rattle.std.proofs.Common.{◌≡◌, inl, inr, ◌+◌, ◌-◌, ◌<◌, ◌≤◌, ◌++◌, ℕ, Bool, true, false, min, List, ◌∷◌, Option, Some, None, Ok, Err, slice_get, arith, refl, sym, ◌∙◌, ap, subst, append-nil}
use Rattle.std.proofs.lemmas.Bool.{cases_eq, cases_lt, false≢true}
use Rattle.std.proofs.lemmas.Option.{slice_get_within}
use Rattle.world.specs.declared.did.Did.{Did}
use Rattle.world.specs.declared.did.Did.TheVariants as did
use Rattle.world.specs.declared.entry.Entry.{Entry}
use Rattle.world.specs.declared.entry.Entry.TheVariants as made
use Rattle.world.specs.declared.reports.Reports.{Reports}
use Rattle.world.specs.Places.{status, time, is_reported, OnlyUp}
use Rattle.ready_loop.specs.declared.fault.LoopFault.TheVariants.{NetFault, Spent}
use Rattle.ready_loop.specs.declared.link.Link.{Link}
use Rattle.ready_loop.specs.declared.readiness.Loop.{Loop}
use Rattle.ready_loop.specs.Link.{wait_link}
use Rattle.ready_loop.specs.History.{History}
use Rattle.ready_loop.specs.Queues.{held_in}
use Rattle.ready_loop.specs.Standing.{StandsAt, StandsFor, put_by, write_ended}
use Rattle.ready_loop.specs.States.{MapsBelow, MayWait, IsCalm, awake_in, refused_in}
use Rattle.ready_loop.specs.Waits.{Timer, most, handed, connect, IsLeast, IsLimit, connect_wait, AllServed, NoneDue, IsTurnWait, WaitCame, Turned}
use Rattle.ready_loop.proofs.CallLemmas.{put_known, known_up}
use Rattle.ready_loop.proofs.TurnLemmas.{stands_waited}
use Rattle.ready_loop.proofs.MapLemmas.{maps_at}
use Rattle.ready_loop.proofs.StandLemmas.{stands_as}
use Rattle.jtext.proofs.Lists.{some_at}

pub wait_failed : (answer : Did) (ready : Bool) (link : Link) → (wait_link answer ready link).failed ≡ link.failed
wait_failed did.Done ready link = refl
wait_failed did.Failed ready link = refl

pub wait_stage : (answer : Did) (ready : Bool) (link : Link) → (wait_link answer ready link).stage ≡ link.stage
wait_stage did.Done ready link = refl
wait_stage did.Failed ready link = refl

-- ---- the table after a wait

pub wait_stands : (ms : ℕ) (reports : Reports) (answer : Did) (l new : Loop) (past : List Entry)
    → MapsBelow 64 (λ p. wait_link answer (is_reported p reports.ready)) l.links new.links → new.queues ≡ l.queues
    → 0 < l.left → new.left ≡ l.left - 1
    → OnlyUp reports.ready past → (h : History) → StandsFor l h past
    → StandsFor new h (made.Waited ms reports answer ∷ past)
wait_stands ms reports answer l new past all queues some left up h stand = record {
  size = all.size ∙ stand.size;
  waits = let w = stand.waits in omega arith;
  each = λ p link found.
      let low : p < 64 = omega (arith, slice_get_within new.links p _ found, all.size, stand.size) in
      let (was, at, is) = maps_at (λ q. wait_link answer (is_reported q reports.ready)) l.links new.links all p link low found in
      subst (λ x. StandsAt x (held_in (slice_get new.queues p)) (h.begun p) (h.queued p) (h.named p) (status p (made.Waited ms reports answer ∷ past)) (write_ended p (made.Waited ms reports answer ∷ past))) (sym is)
      (stands_as (ap (λ qs. held_in (slice_get qs p)) queues) refl refl refl refl refl
      (stands_waited was _ _ _ _ _ _ answer reports.ready p (up p) (stand.each p was at)));
}

-- the clock changes nothing else
pub moment_stands : (ms : ℕ) (l : Loop) (h : History) (past : List Entry) → StandsFor l h past
    → StandsFor l h (made.Moment ms ∷ past)
moment_stands ms l h past stand = record { size = stand.size; waits = stand.waits; each = λ p link found. stand.each p link found }

-- ---- its limit

timer_none : {last : ℕ} {r : ℕ → Option ℕ} (n : ℕ) → Timer 0 None last r n → 500 ≤ n
timer_none n most = omega arith
timer_none n (handed moment e) = cc
timer_none n (connect p at low e) = absurd (omega arith)

pub due_none : (last : ℕ) → IsLeast 0 None last (λ p. None) 500
due_none last = record { one = most; least = timer_none }

timer_some : {last moment : ℕ} {r : ℕ → Option ℕ} (n : ℕ) → Timer 0 (Some moment) last r n → min (moment - last) 500 ≤ n
timer_some n most = omega arith
timer_some {last} {moment} n (handed m e) = let k : moment ≡ m = cc in omega arith
timer_some n (connect p at low e) = absurd (omega arith)

pub due_some : (moment last : ℕ) → IsLeast 0 (Some moment) last (λ p. None) (min (moment - last) 500)
due_some moment last = record {
  one = elim (cases_lt (moment - last) 500) [
    | inl lt ↦ let e : moment - last ≡ min (moment - last) 500 = omega arith in subst (λ n. Timer 0 (Some moment) last (λ p. None) n) e (handed moment refl)
    | inr le ↦ let e : 500 ≡ min (moment - last) 500 = omega arith in subst (λ n. Timer 0 (Some moment) last (λ p. None) n) e most
  ];
  least = timer_some;
}

-- with no place the connections do not matter
timer_any : {due : Option ℕ} {last : ℕ} {r s : ℕ → Option ℕ} {n : ℕ} → Timer 0 due last r n → Timer 0 due last s n
timer_any most = most
timer_any (handed moment e) = handed moment e
timer_any (connect p at low e) = absurd (omega arith)

pub least_any : {due : Option ℕ} {last ms : ℕ} {r s : ℕ → Option ℕ} → IsLeast 0 due last r ms → IsLeast 0 due last s ms
least_any {r = r} {s = s} m = record { one = timer_any m.one; least = λ n t. m.least n (timer_any t) }

-- one place more
timer_wider : {n : ℕ} {due : Option ℕ} {last : ℕ} {r : ℕ → Option ℕ} {k : ℕ} → Timer n due last r k
    → Timer (n + 1) due last r k
timer_wider most = most
timer_wider (handed moment e) = handed moment e
timer_wider (connect p at low e) = connect p at (omega arith) e

more_one : {n : ℕ} {due : Option ℕ} {last least : ℕ} {r : ℕ → Option ℕ} (o : Option ℕ) → r n ≡ o → least ≤ 500
    → Timer n due last r least → Timer (n + 1) due last r (min (connect_wait o last) least)
more_one {n} {due} {last} {least} {r} None e bound t = let k : least ≡ min 500 least = omega arith in subst (λ m. Timer (n + 1) due last r m) k (timer_wider t)
more_one {n} {due} {last} {least} {r} (Some at) e bound t =
    elim (cases_lt (at + 200 - last) least) [
      | inl lt ↦ let k : at + 200 - last ≡ min (min (at + 200 - last) 500) least = omega arith in subst (λ m. Timer (n + 1) due last r m) k (connect n at (omega arith) e)
      | inr le ↦ let k : least ≡ min (min (at + 200 - last) 500) least = omega arith in subst (λ m. Timer (n + 1) due last r m) k (timer_wider t)
    ]

more_least : {n : ℕ} {due : Option ℕ} {last least : ℕ} {r : ℕ → Option ℕ} → ((k : ℕ) → Timer n due last r k → least ≤ k)
    → (k : ℕ) → Timer (n + 1) due last r k
    → min (connect_wait (r n) last) least ≤ k
more_least {n} {due} {last} {least} {r} all k most = let a = all 500 most in omega arith
more_least {n} {due} {last} {least} {r} all k (handed moment e) = let a = all (moment - last) (handed moment e) in omega arith
more_least {n} {due} {last} {least} {r} all k (connect p at low e) =
    elim (cases_eq p n) [
      | inl same ↦
          let here : r n ≡ Some at = subst (λ i. r i ≡ Some at) same e in
          let c : connect_wait (r n) last ≡ min (at + 200 - last) 500 = ap (λ o. connect_wait o last) here in
          omega arith
      | inr ne ↦ let a = all (at + 200 - last) (connect p at (omega arith) e) in omega arith
    ]

pub least_more : (n : ℕ) (due : Option ℕ) (last least : ℕ) (r : ℕ → Option ℕ) → least ≤ 500 → IsLeast n due last r least
    → IsLeast (n + 1) due last r (min (connect_wait (r n) last) least)
least_more n due last least r bound m = record { one = more_one (r n) refl bound m.one; least = more_least m.least }

-- the same over equal facts
timer_as : {due : Option ℕ} {last : ℕ} {r s : ℕ → Option ℕ} {n : ℕ} → ((p : ℕ) → p < 64 → r p ≡ s p)
    → Timer 64 due last r n → Timer 64 due last s n
timer_as same most = most
timer_as same (handed moment e) = handed moment e
timer_as same (connect p at low e) = connect p at low (sym (same p low) ∙ e)

pub limit_as : (due : Option ℕ) (last clock ms : ℕ) (a b : ℕ → Bool) (r s : ℕ → Option ℕ) → last ≡ clock
    → ((p : ℕ) → p < 64 → a p ≡ b p) → ((p : ℕ) → p < 64 → r p ≡ s p)
    → IsLimit due last a r ms → IsLimit due clock b s ms
limit_as due last clock ms a b r s e awake refused m =
    subst (λ t. IsLimit due t b s ms) e (record {
      awaits = λ p low up. m.awaits p low (awake p low ∙ up);
      rests = λ none.
          let l = m.rests (λ p low. awake p low ∙ none p low) in
          record { one = timer_as refused l.one; least = λ n t. l.least n (timer_as (λ p low. sym (refused p low)) t) };
    })

-- ---- what stands before it

-- the connection at a place
link_at : (l : Loop) (h : History) (past : List Entry) → StandsFor l h past → (p : ℕ) → p < 64
    → (link : Link) × (slice_get l.links p ≡ Some link)
link_at l h past stand p low = some_at l.links p (omega (arith, stand.size))

pub all_served : (l : Loop) (h : History) (past : List Entry) → MayWait l → StandsFor l h past → AllServed h past
all_served l h past may stand p low =
    let (link, found) = link_at l h past stand p low in
    let m = stand.each p link found in
    record {
      sound = sym m.failed ∙ may.sound.each p link low found;
      drained = λ a. elim (cases_lt link.reads 64) [
        | inl lt ↦ absurd (may.drained.each p link low found (record { awake = m.awake ∙ a; sound = may.sound.each p link low found; reads = lt }))
        | inr le ↦ subst (λ n. 64 ≤ n) (m.reads (m.awake ∙ a)) le
      ];
      sent = λ w.
          let none = may.offered.each p link low found (record { writable = m.writable ∙ w; sound = may.sound.each p link low found }) in
          let known = known_up m (m.open_up w) in
          sym (m.sends.whole ∙ ap (λ xs. put_by (h.begun p) (status p past).put ++ xs) none ∙ append-nil (put_by (h.begun p) (status p past).put) ∙ put_known known);
    }

pub none_due : (l : Loop) (h : History) (past : List Entry) (last : ℕ) → last ≡ time past → StandsFor l h past
    → IsCalm last l → NoneDue past
none_due l h past last clock stand calm p at low refused =
    let (link, found) = link_at l h past stand p low in
    let m = stand.each p link found in
    subst (λ n. n < at + 200) clock (calm.each p link low found at (m.refused ∙ refused))

pub turn_wait : (due : Option ℕ) (ms last : ℕ) (l : Loop) (h : History) (past : List Entry) → MayWait l
    → IsLimit due last (λ p. awake_in (slice_get l.links p)) (λ p. refused_in (slice_get l.links p)) ms → last ≡ time past
    → StandsFor l h past → IsTurnWait due h ms past
turn_wait due ms last l h past may limit clock stand = record {
  limit = limit_as due last (time past) ms (λ p. awake_in (slice_get l.links p)) (λ p. (status p past).awake) (λ p. refused_in (slice_get l.links p)) (λ p. (status p past).refused) clock
      (λ p low. let (link, found) = link_at l h past stand p low in ap awake_in found ∙ (stand.each p link found).awake)
      (λ p low. let (link, found) = link_at l h past stand p low in ap refused_in found ∙ (stand.each p link found).refused) limit;
  served = all_served l h past may stand;
}

module _ (due : Option ℕ) (ms last was : ℕ) (l : Loop) (may : MayWait l)
    (limit : IsLimit due last (λ p. awake_in (slice_get l.links p)) (λ p. refused_in (slice_get l.links p)) ms) (same : last ≡ was) where
  pub turned_failed : (new : Loop) (before after : List Entry) → last ≡ time before
      → WaitCame ms did.Failed l new before after
      → Turned due (Err (NetFault None)) was l new before after
  turned_failed new before after clock came = record {
    so = λ h stand. (
      came.stands h stand,
      record { ms = ms; reports = came.reports; is = came.is; rule = turn_wait due ms last l h before may limit clock stand },
    );
    calm = λ h stand calm. none_due l h before was (sym same ∙ clock) stand calm;
  }

  pub turned_done : (moment : ℕ) (new : Loop) (before after : List Entry) → last ≡ time before
      → WaitCame ms did.Done l new before after
      → Turned due (Ok moment) was l new before (made.Moment moment ∷ after)
  turned_done moment new before after clock came = record {
    so = λ h stand. (
      moment_stands moment new h after (came.stands h stand),
      record {
        past = after;
        waits = record { ms = ms; reports = came.reports; is = came.is; rule = turn_wait due ms last l h before may limit clock stand };
        is = refl;
      },
    );
    calm = λ h stand calm. none_due l h before was (sym same ∙ clock) stand calm;
  }

pub turned_spent : (due : Option ℕ) (last was : ℕ) (l : Loop) → last ≡ was → (before after : List Entry)
    → last ≡ time before → after ≡ before
    → Turned due (Err Spent) was l l before after
turned_spent due last was l same before after clock e = record {
  so = λ h stand. (subst (λ j. StandsFor l h j) (sym e) stand, e);
  calm = λ h stand calm. none_due l h before was (sym same ∙ clock) stand calm;
}

pub limit_awake : (due : Option ℕ) (last p : ℕ) (a : ℕ → Bool) (r : ℕ → Option ℕ) → p < 64 → a p ≡ true
    → IsLimit due last a r 0
limit_awake due last p a r low up = record {
  awaits = λ q lt e. refl;
  rests = λ none. absurd (false≢true (sym (none p low) ∙ up));
}

pub limit_asleep : (due : Option ℕ) (last ms : ℕ) (a : ℕ → Bool) (r : ℕ → Option ℕ) → ((p : ℕ) → p < 64 → a p ≡ false)
    → IsLeast 64 due last r ms → IsLimit due last a r ms
limit_asleep due last ms a r none least = record {
  awaits = λ q lt e. absurd (false≢true (sym (none q lt) ∙ e));
  rests = λ all. least;
}

pub asleep_more : (n : ℕ) (a : ℕ → Bool) → a n ≡ false → ((p : ℕ) → p < n → a p ≡ false) → (p : ℕ) → p < n + 1
    → a p ≡ false
asleep_more n a here below p low = elim (cases_eq p n) [ inl e ↦ ap a e ∙ here | inr ne ↦ below p (omega arith) ]
