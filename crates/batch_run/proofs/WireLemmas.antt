-- On which port the loop of a run makes each connect.
use Rattle.std.proofs.Common.{◌≡◌, inl, inr, ℕ, ◌+◌, ◌*◌, ◌<◌, ◌≤◌, List, ◌∷◌, Bool, true, false, Option, Some, None, slice_get, arith, refl, sym, ◌∙◌, ap, subst}
use Rattle.std.specs.Prelude.{IfSome}
use Rattle.std.proofs.lemmas.Bool.{cases_lt, false≢true}
use Rattle.std.proofs.lemmas.Option.{same_Some}
use Rattle.world.specs.declared.conn.Conn.{Conn}
use Rattle.world.specs.declared.entry.Entry.{Entry}
use Rattle.world.specs.declared.entry.Entry.TheVariants as made
use Rattle.world.specs.Moments.{Since, start, more as later, Told}
use Rattle.world.specs.Places.{place_of, chan_number}
use Rattle.world.proofs.StatusLemmas.{chan_below}
use Rattle.world.proofs.MomentsLemmas.{since_as}
use Rattle.ready_loop.specs.declared.readiness.Loop.{Loop}
use Rattle.ready_loop.specs.Begins.{is_of_job}
use Rattle.ready_loop.specs.History.{conn_on}
use Rattle.ready_loop.specs.Standing.{IsOfLoop}
use Rattle.ready_loop.specs.States.{known_at}
use Rattle.ready_loop.specs.Wires.{ports_in, IsWired, OnPort, HasPorts}
use Rattle.ready_loop.proofs.WireLemmas.{known_of_port}
use Rattle.job_saves.specs.Children.{ports_of}
use Rattle.job_saves.specs.Calls.{Cast, IsCall}
use Rattle.job_saves.proofs.ChildLemmas.{calls_hold_ports}
use Rattle.job_saves.proofs.ToldLemmas.{too_long}
use Rattle.batch_run.specs.Batch.{HasPort, IsOnPort, IsLoopCall}
use Rattle.batch_run.specs.Stands.{AreWired}
use Rattle.batch_run.proofs.CallLemmas.{loop_ports}
use Rattle.batch_run.proofs.LineLemmas.{of_before, of_after}

-- ---- two facts of each new entry

both_from : {P Q : List Entry → Type 0} {x z y : List Entry} → x ≡ z → Since P x y → Since Q z y → Since (λ now. P now × Q now) x y
both_from e start start = start
both_from {P} {Q} e start (later {past = mid} s q) = absurd (too_long (subst (λ w. Since Q w mid) (sym e) s))
both_from {P} {Q} e (later {past = mid} s p) start = absurd (too_long (subst (λ w. Since P w mid) e s))
both_from e (later s p) (later t q) = later (both_from e s t) (p, q)

pub since_both : {P Q : List Entry → Type 0} {x y : List Entry} → Since P x y → Since Q x y → Since (λ now. P now × Q now) x y
since_both s t = both_from refl s t

-- ---- ports that are given stay

has_port : (conn : Conn) (port : ℕ) (x y : List Entry) → ((ports : List ℕ) → ports_of conn.job x ≡ Some ports → ports_of conn.job y ≡ Some ports) → HasPort conn port x → HasPort conn port y
has_port conn port x y stay h = record { ports = h.ports; given = stay h.ports h.given; is = h.is }

pub wired_stay : (wires : List (Option ℕ)) (x y : List Entry) → ((n : ℕ) (ports : List ℕ) → ports_of n x ≡ Some ports → ports_of n y ≡ Some ports) → AreWired wires x → AreWired wires y
wired_stay wires x y stay h = record { each = λ conn port kept. has_port conn port x y (stay conn.job) (h.each conn port kept) }

pub wired_loop : (wires : List (Option ℕ)) {x y : List Entry} → Since IsOfLoop x y → AreWired wires x → AreWired wires y
wired_loop wires {x} {y} since h = wired_stay wires x y (λ n ports given. loop_ports n since ∙ given) h

-- ---- each connect of the loop

on_port : (wires : List (Option ℕ)) (entry : Entry) (past : List Entry) → AreWired wires past → OnPort wires (entry ∷ past) → IsOnPort (entry ∷ past)
on_port wires (made.Connected conn port how) past h kept = h.each conn port kept
on_port wires _ past h kept = tt

calls_on : (clean : Bool) (wires : List (Option ℕ)) {x y : List Entry} → (clean ≡ true → AreWired wires x) → Since (λ now. IsOfLoop now × IsWired wires now) x y
    → Since (IsLoopCall clean) x y
calls_on clean wires h start = start
calls_on clean wires h (later {past} {entry} since both) = later (calls_on clean wires h since) (record {
  is = both.0;
  on_port = λ e. on_port wires entry past (wired_loop wires (since_as (λ now b. b.0) since) (h e)) both.1.newest;
})

pub loop_calls : (clean : Bool) (wires : List (Option ℕ)) (p q : Option (List Entry)) → Told p q (Since IsOfLoop) → Told p q (Since (IsWired wires))
    → (clean ≡ true → IfSome p (AreWired wires)) → Told p q (Since (IsLoopCall clean))
loop_calls clean wires p None told wired h = record { so = tt }
loop_calls clean wires None (Some y) told wired h = absurd told.so
loop_calls clean wires (Some x) (Some y) told wired h = record { so = calls_on clean wires h (since_both told.so wired.so) }

pub wired_told : (wires : List (Option ℕ)) (p q : Option (List Entry)) → Told p q (Since IsOfLoop) → IfSome p (AreWired wires) → IfSome q (AreWired wires)
wired_told wires p None told h = tt
wired_told wires None (Some y) told h = absurd told.so
wired_told wires (Some x) (Some y) told h = wired_loop wires told.so h

-- ---- calls of jobs

wired_jobs : (c : Cast) (wires : List (Option ℕ)) {x y : List Entry} → c.clean ≡ true → Since (IsCall c) x y → AreWired wires x → AreWired wires y
wired_jobs c wires {x} {y} clean since h = wired_stay wires x y (λ n ports given. calls_hold_ports c n ports clean since given) h

pub wired_calls : (c : Cast) (wires : List (Option ℕ)) (p q : Option (List Entry)) → c.clean ≡ true → Told p q (Since (IsCall c)) → IfSome p (AreWired wires) → IfSome q (AreWired wires)
wired_calls c wires p None clean told h = tt
wired_calls c wires None (Some y) clean told h = absurd told.so
wired_calls c wires (Some x) (Some y) clean told h = wired_jobs c wires clean told.so h

-- ---- a begin

pub own_job : (job : ℕ) (conn : Conn) → is_of_job job (place_of conn) ≡ true → conn.job ≡ job
own_job job conn own =
    let few : chan_number conn.chan < 4 = chan_below conn.chan in
    elim (cases_lt conn.job job) [
      | inl low ↦
          let before : place_of conn < 4 * job = omega (arith, low, few) in
          absurd (false≢true (sym (of_before job (place_of conn) before) ∙ own))
      | inr high ↦ elim (cases_lt job conn.job) [
        | inl more ↦
            let after : 4 * (job + 1) ≤ place_of conn = omega (arith, more) in
            absurd (false≢true (sym (of_after job (place_of conn) after) ∙ own))
        | inr less ↦ omega (arith, high, less)
      ]
    ]

-- the ports of a job whose connections were begun are those that were given for it
pub wired_begun : (job : ℕ) (ports : List ℕ) (old new : Loop) (past : List Entry) → HasPorts job ports new
    → ((p : ℕ) → is_of_job job p ≡ false → slice_get (ports_in new) p ≡ slice_get (ports_in old) p) → ports_of job past ≡ Some ports → AreWired (ports_in old) past → AreWired (ports_in new) past
wired_begun job ports old new past has others given h = record { each = λ conn port kept. by conn port kept (is_of_job job (place_of conn)) refl }
  where
    by : (conn : Conn) (port : ℕ) → slice_get (ports_in new) (place_of conn) ≡ Some (Some port) → (b : Bool) → is_of_job job (place_of conn) ≡ b → HasPort conn port past
    by conn port kept false off = h.each conn port (sym (others (place_of conn) off) ∙ kept)
    by conn port kept true own =
        let same : conn.job ≡ job = own_job job conn own in
        let here : place_of conn ≡ place_of (conn_on job conn.chan) = ap (λ (n : ℕ). 4 * n + chan_number conn.chan) same in
        let known : known_at new (place_of (conn_on job conn.chan)) ≡ true = subst (λ (p : ℕ). known_at new p ≡ true) here (known_of_port new (place_of conn) port kept) in
        let kept_so : slice_get (ports_in new) (place_of (conn_on job conn.chan)) ≡ Some (Some port) = subst (λ (p : ℕ). slice_get (ports_in new) p ≡ Some (Some port)) here kept in
        record {
          ports = ports;
          given = subst (λ (n : ℕ). ports_of n past ≡ Some ports) (sym same) given;
          is = same_Some _ _ (same_Some _ _ (sym kept_so ∙ has.each conn.chan known));
        }

pub told_begun : (job : ℕ) (ports : List ℕ) (old new : Loop) (p : Option (List Entry)) → HasPorts job ports new
    → ((q : ℕ) → is_of_job job q ≡ false → slice_get (ports_in new) q ≡ slice_get (ports_in old) q) → IfSome p (λ past. ports_of job past ≡ Some ports) → IfSome p (AreWired (ports_in old))
    → IfSome p (AreWired (ports_in new))
told_begun job ports old new None has others given h = tt
told_begun job ports old new (Some past) has others given h = wired_begun job ports old new past has others given h

-- before any connection is begun
pub wired_fresh : (l : Loop) (p : Option (List Entry)) → ((n : ℕ) → known_at l n ≡ false) → IfSome p (AreWired (ports_in l))
wired_fresh l None fresh = tt
wired_fresh l (Some past) fresh = record {
  each = λ conn port kept. absurd (false≢true (sym (fresh (place_of conn)) ∙ known_of_port l (place_of conn) port kept));
}
