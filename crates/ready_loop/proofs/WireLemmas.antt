-- On which port each connect is made.
use Rattle.std.proofs.Common.{◌≡◌, inl, inr, ◌||◌, ℕ, zero, suc, Bool, true, false, List, [], ◌∷◌, map, set, replicate, Option, Some, None, slice_get, arith, refl, sym, ◌∙◌, ap, subst}
use Rattle.std.proofs.lemmas.Bool.{cases_eq, eq-eqb, false≢true, or_parts}
use Rattle.std.proofs.lemmas.Option.{same_Some, slice_get_within}
use Rattle.world.specs.declared.chan.Chan.{Chan}
use Rattle.world.specs.declared.chan.Chan.TheVariants.{Shell, Control, Iopub, Heart}
use Rattle.world.specs.declared.conn.Conn.{Conn}
use Rattle.world.specs.declared.connected.Connected.{Connected}
use Rattle.world.specs.declared.connected.Connected.TheVariants as connected
use Rattle.world.specs.declared.did.Did.{Did}
use Rattle.world.specs.declared.did.Did.TheVariants as did
use Rattle.world.specs.declared.entry.Entry.{Entry}
use Rattle.world.specs.declared.entry.Entry.TheVariants as made
use Rattle.world.specs.declared.got.Got.{Got}
use Rattle.world.specs.declared.got.Got.TheVariants as got
use Rattle.world.specs.declared.put.Put.{Put}
use Rattle.world.specs.declared.put.Put.TheVariants as put
use Rattle.world.specs.Moments.{Since, start, more, Told, Tells}
use Rattle.world.specs.Places.{place_of, is_at, chan_number}
use Rattle.world.specs.Told.{read_entry, write_entry}
use Rattle.world.proofs.MomentsLemmas.{told_start, told_then, tells_as, since_then, since_as}
use Rattle.ready_loop.specs.declared.link.Link.{Link}
use Rattle.ready_loop.specs.declared.readiness.Loop.{Loop}
use Rattle.ready_loop.specs.Begins.{is_of_job, port_of, IsFresh, closing}
use Rattle.ready_loop.specs.History.{conn_on}
use Rattle.ready_loop.specs.Link.{is_known, fresh_link, begun_link, connect_link, read_link, write_link, wait_link, closed_link, named_link}
use Rattle.ready_loop.specs.States.{known_at, known_in}
use Rattle.ready_loop.specs.Wires.{port_where, port_kept, ports_in, OnPort, IsWired, AddsPort, HasPorts}
use Rattle.ready_loop.proofs.StandLemmas.{not_at}
use Rattle.ready_loop.proofs.ConnectLemmas.{known_closed}
use Rattle.jtext.proofs.Lists.{slice_get-set_same, slice_get-set_other}

-- ---- the ports that are kept

abbrev port_in : Option Link → Option (Option ℕ)
port_in None = None
port_in (Some link) = Some (port_kept link)

-- that at a place
ports_get : (links : List Link) (p : ℕ) → slice_get (map port_kept links) p ≡ port_in (slice_get links p)
ports_get [] p = refl
ports_get (x ∷ links) zero = refl
ports_get (x ∷ links) (suc p) = ports_get links p

pub port_here : (links : List Link) (p : ℕ) (link : Link) → slice_get links p ≡ Some link
    → slice_get (map port_kept links) p ≡ Some (port_kept link)
port_here links p link found = ports_get links p ∙ ap port_in found

-- a link replaced by one with the same port
pub ports_set : (links : List Link) (p : ℕ) (link was : Link) → slice_get links p ≡ Some was
    → port_kept link ≡ port_kept was
    → map port_kept (set links p link) ≡ map port_kept links
ports_set [] p link was found same = refl
ports_set (x ∷ links) zero link was found same =
    let is : was ≡ x = cc in
    ap (λ o. o ∷ map port_kept links) (same ∙ ap port_kept is)
ports_set (x ∷ links) (suc p) link was found same = ap (λ os. port_kept x ∷ os) (ports_set links p link was found same)

-- the same of a table that is known by an equation
pub ports_kept : (links now : List Link) (p : ℕ) (link was : Link) → slice_get links p ≡ Some was
    → now ≡ set links p link → port_kept link ≡ port_kept was → map port_kept now ≡ map port_kept links
ports_kept links now p link was found is same = ap (λ ls. map port_kept ls) is ∙ ports_set links p link was found same

pub connect_port : (how : Connected) (last : ℕ) (link : Link) → port_kept (connect_link how last link) ≡ port_kept link
connect_port connected.Begun last link = refl
connect_port connected.Refused last link = refl
connect_port connected.Failed last link = refl

pub read_port : (answer : Got) (last : ℕ) (link : Link) → port_kept (read_link answer last link) ≡ port_kept link
read_port (got.Piece n) last link = refl
read_port got.Dry last link = refl
read_port got.Ended last link = refl
read_port got.Refused last link = refl
read_port got.Failed last link = refl

pub write_port : (answer : Put) (last : ℕ) (link : Link) → port_kept (write_link answer last link) ≡ port_kept link
write_port (put.Took n) last link = refl
write_port put.Stuck last link = refl
write_port put.Ended last link = refl
write_port put.Refused last link = refl
write_port put.Failed last link = refl

pub wait_port : (answer : Did) (ready : Bool) (link : Link) → port_kept (wait_link answer ready link) ≡ port_kept link
wait_port did.Done ready link = refl
wait_port did.Failed ready link = refl

pub closed_port : (link : Link) → port_kept (closed_link link) ≡ port_kept link
closed_port link = ap (λ b. port_where b link.port) (known_closed link.stage)

pub named_port : (link : Link) → port_kept (named_link link) ≡ port_kept link
named_port link = refl

pub known_port : (link : Link) → is_known link.stage ≡ true → port_kept link ≡ Some link.port
known_port link known = ap (λ b. port_where b link.port) known

-- where a port is kept, a connect was called
pub known_of_port : (l : Loop) (p port : ℕ) → slice_get (ports_in l) p ≡ Some (Some port) → known_at l p ≡ true
known_of_port l p port e = at (slice_get l.links p) (sym (ports_get l.links p) ∙ e)
  where
    stage : (known : Bool) (number : ℕ) → port_where known number ≡ Some port → known ≡ true
    stage true number e = refl
    stage false number e = cc

    at : (o : Option Link) → port_in o ≡ Some (Some port) → known_in o ≡ true
    at None e = cc
    at (Some link) e = stage (is_known link.stage) link.port (same_Some _ _ e)

-- a new loop keeps none
pub new_ports : (links : List Link) → links ≡ replicate 64 fresh_link → map port_kept links ≡ replicate 64 None
new_ports links is = ap (λ ls. map port_kept ls) is ∙ none 64
  where
    none : (n : ℕ) → map port_kept (replicate n fresh_link) ≡ replicate n None
    none zero = refl
    none (suc n) = ap (λ os. None ∷ os) (none n)

-- one connection more
pub adds_port : (conn : Conn) (how : Connected) (last port : ℕ) (links now : List Link) (link : Link)
    → slice_get links (place_of conn) ≡ Some link → is_known link.stage ≡ false
    → now ≡ set links (place_of conn) (connect_link how last (begun_link port link))
    → AddsPort (place_of conn) port (map port_kept links) (map port_kept now)
adds_port conn how last port links now link found fresh is =
    let new = connect_link how last (begun_link port link) in
    record {
      none = port_here links (place_of conn) link found ∙ ap (λ b. Some (port_where b link.port)) fresh;
      here = ap (λ ls. slice_get (map port_kept ls) (place_of conn)) is
          ∙ port_here (set links (place_of conn) new) (place_of conn) new (slice_get-set_same links (place_of conn) new (slice_get_within links (place_of conn) _ found))
          ∙ ap Some (connect_port how last (begun_link port link));
      others = λ p ne. ap (λ ls. slice_get (map port_kept ls) p) is ∙ ports_get (set links (place_of conn) new) p
          ∙ ap port_in (slice_get-set_other links (place_of conn) p new ne) ∙ sym (ports_get links p);
    }

-- ---- the ports of a job

chan_same : (a b : Chan) → chan_number a ≡ chan_number b → a ≡ b
chan_same Shell Shell e = refl
chan_same Shell Control e = cc
chan_same Shell Iopub e = cc
chan_same Shell Heart e = cc
chan_same Control Shell e = cc
chan_same Control Control e = refl
chan_same Control Iopub e = cc
chan_same Control Heart e = cc
chan_same Iopub Shell e = cc
chan_same Iopub Control e = cc
chan_same Iopub Iopub e = refl
chan_same Iopub Heart e = cc
chan_same Heart Shell e = cc
chan_same Heart Control e = cc
chan_same Heart Iopub e = cc
chan_same Heart Heart e = refl

pub has_none : (job : ℕ) (ports : List ℕ) (l : Loop) → IsFresh job l → HasPorts job ports l
has_none job ports l fresh = record { each = λ chan known. absurd (false≢true (sym (fresh.each chan) ∙ known)) }

pub has_more : (job : ℕ) (ports : List ℕ) (chan : Chan) (l new : Loop) → HasPorts job ports l
    → AddsPort (place_of (conn_on job chan)) (port_of ports chan) (ports_in l) (ports_in new)
    → ((p : ℕ) → known_at new p ≡ is_at p (conn_on job chan) || known_at l p) → HasPorts job ports new
has_more job ports chan l new has adds known = record {
  each = λ c k. elim (cases_eq (place_of (conn_on job c)) (place_of (conn_on job chan))) [
    | inl e ↦
        let same : c ≡ chan = chan_same c chan (omega (arith, e)) in
        subst (λ (d : Chan). slice_get (ports_in new) (place_of (conn_on job d)) ≡ Some (Some (port_of ports d))) (sym same) adds.here
    | inr ne ↦
        let was : known_at l (place_of (conn_on job c)) ≡ true
        = sym (known (place_of (conn_on job c)) ∙ ap (λ b. b || known_at l (place_of (conn_on job c))) (not_at (place_of (conn_on job c)) (conn_on job chan) ne)) ∙ k in
        adds.others (place_of (conn_on job c)) ne ∙ has.each c was
  ];
}

not_of_chan : (job p : ℕ) (chan : Chan) → is_of_job job p ≡ false → is_at p (conn_on job chan) ≡ false
not_of_chan job p chan e =
    let heart = or_parts (is_at p (conn_on job Heart)) (is_at p (conn_on job Iopub) || (is_at p (conn_on job Control) || is_at p (conn_on job Shell))) e in
    let iopub = or_parts (is_at p (conn_on job Iopub)) (is_at p (conn_on job Control) || is_at p (conn_on job Shell)) heart.1 in
    let control = or_parts (is_at p (conn_on job Control)) (is_at p (conn_on job Shell)) iopub.1 in
    one chan heart.0 iopub.0 control.0 control.1
  where
    one : (chan : Chan) → is_at p (conn_on job Heart) ≡ false → is_at p (conn_on job Iopub) ≡ false
        → is_at p (conn_on job Control) ≡ false → is_at p (conn_on job Shell) ≡ false → is_at p (conn_on job chan) ≡ false
    one Heart h i c s = h
    one Iopub h i c s = i
    one Control h i c s = c
    one Shell h i c s = s

-- the places of other jobs
pub others_kept : (job port p : ℕ) (chan : Chan) (old new : List (Option ℕ))
    → AddsPort (place_of (conn_on job chan)) port old new → is_of_job job p ≡ false
    → slice_get new p ≡ slice_get old p
others_kept job port p chan old new adds other =
    adds.others p (λ e. false≢true (sym (not_of_chan job p chan other) ∙ eq-eqb p (place_of (conn_on job chan)) e))

-- and none of them becomes known
pub others_known : (job : ℕ) (chan : Chan) (l new : Loop)
    → ((p : ℕ) → known_at new p ≡ is_at p (conn_on job chan) || known_at l p)
    → (p : ℕ) → is_of_job job p ≡ false → known_at new p ≡ known_at l p
others_known job chan l new known p other = known p ∙ ap (λ b. b || known_at l p) (not_of_chan job p chan other)

-- ---- the connects

-- each port that is kept is kept on
pub record Grows (a b : List (Option ℕ)) : Type 0 where
  pub on : (p port : ℕ) → slice_get a p ≡ Some (Some port) → slice_get b p ≡ Some (Some port)

pub grows_same : {a b : List (Option ℕ)} → b ≡ a → Grows a b
grows_same same = record { on = λ p port e. ap (λ ports. slice_get ports p) same ∙ e }

no_port : {o : Option (Option ℕ)} {port : ℕ} → o ≡ Some None → o ≡ Some (Some port) → ⊥
no_port n s = cc

pub grows_more : {place port : ℕ} {a b : List (Option ℕ)} → AddsPort place port a b → Grows a b
grows_more {place = place} {a = a} adds = record {
  on = λ p q e. elim (cases_eq p place) [
    | inl same ↦ absurd (no_port adds.none (subst (λ i. slice_get a i ≡ Some (Some q)) same e))
    | inr ne ↦ adds.others p ne ∙ e
  ];
}

on_port : (a b : List (Option ℕ)) → Grows a b → (now : List Entry) → OnPort a now → OnPort b now
on_port a b grows [] w = w
on_port a b grows (made.Connected conn port how ∷ past) w = grows.on (place_of conn) port w
on_port a b grows (_ ∷ past) w = w

wired_as : (a b : List (Option ℕ)) → Grows a b → (now : List Entry) → IsWired a now → IsWired b now
wired_as a b grows now w = record { newest = on_port a b grows now w.newest }

pub wired_start : {ports : List (Option ℕ)} {j : Option (List Entry)} → Told j j (Since (IsWired ports))
wired_start = told_start (λ x. start)

-- some calls and then others
pub wired_then : {a b : List (Option ℕ)} {i j k : Option (List Entry)} → Grows a b → Told i j (Since (IsWired a))
    → Told j k (Since (IsWired b)) → Told i k (Since (IsWired b))
wired_then {a} {b} grows r s = told_then r s (λ x y z m n. since_then (since_as (wired_as a b grows) m) n)

-- the same under a list that is equal
pub wired_on : {a b : List (Option ℕ)} {i j : Option (List Entry)} → b ≡ a → Told i j (Since (IsWired a))
    → Told i j (Since (IsWired b))
wired_on {i = i} {j = j} same r = subst (λ (ports : List (Option ℕ)). Told i j (Since (IsWired ports))) (sym same) r

-- one call
pub wired_one : {ports : List (Option ℕ)} {j k : Option (List Entry)} {entry : Entry} → Tells j k entry
    → ((past : List Entry) → OnPort ports (entry ∷ past)) → Told j k (Since (IsWired ports))
wired_one t is = tells_as t (λ past. more start (record { newest = is past }))

pub read_wired : (ports : List (Option ℕ)) (conn : Conn) (room : ℕ) (answer : Got) (buffer : List ℕ) (past : List Entry)
    → OnPort ports (read_entry conn room answer buffer ∷ past)
read_wired ports conn room (got.Piece n) buffer past = tt
read_wired ports conn room got.Dry buffer past = tt
read_wired ports conn room got.Ended buffer past = tt
read_wired ports conn room got.Refused buffer past = tt
read_wired ports conn room got.Failed buffer past = tt

pub write_wired : (ports : List (Option ℕ)) (conn : Conn) (answer : Put) (piece : List ℕ) (past : List Entry)
    → OnPort ports (write_entry conn answer piece ∷ past)
write_wired ports conn (put.Took n) piece past = tt
write_wired ports conn put.Stuck piece past = tt
write_wired ports conn put.Ended piece past = tt
write_wired ports conn put.Refused piece past = tt
write_wired ports conn put.Failed piece past = tt

pub closing_wired : (ports : List (Option ℕ)) (begun : Bool) (conn : Conn) (past : List Entry)
    → Since (IsWired ports) past (closing begun conn past)
closing_wired ports true conn past = more start (record { newest = tt })
closing_wired ports false conn past = start
