-- What a first connect and a close do to a loop.
use Rattle.std.proofs.Common.{◌≡◌, ◌≢◌, inl, inr, ◌<◌, ◌||◌, ◌⊎◌, ℕ, Bool, true, false, List, [], ◌∷◌, length, set, Some, None, Result, Ok, Err, IfErr, slice_get, arith, refl, sym, ◌∙◌, ap, subst}
use Rattle.world.specs.declared.chan.Chan.{Chan}
use Rattle.std.proofs.lemmas.Bool.{cases_eq, eq-eqb, false≢true, or_parts, or_right}
use Rattle.std.proofs.Math.ListN.{length-set}
use Rattle.std.proofs.lemmas.Option.{same_Some, slice_get_within}
use Rattle.world.specs.declared.chan.Chan.TheVariants.{Shell, Control, Iopub, Heart}
use Rattle.world.specs.declared.conn.Conn.{Conn}
use Rattle.world.specs.declared.connected.Connected.{Connected}
use Rattle.world.specs.declared.entry.Entry.{Entry}
use Rattle.world.specs.declared.entry.Entry.TheVariants as made
use Rattle.world.specs.Moments.{start, more}
use Rattle.world.specs.Places.{status, time, place_of, is_at}
use Rattle.world.proofs.StatusLemmas.{at_own, connected_own, closed_own, chan_below}
use Rattle.ready_loop.specs.declared.fault.LoopFault.{LoopFault}
use Rattle.ready_loop.specs.declared.fault.LoopFault.TheVariants.{NetFault, Spent}
use Rattle.ready_loop.specs.declared.link.Link.{Link}
use Rattle.ready_loop.specs.declared.readiness.Loop.{Loop}
use Rattle.ready_loop.specs.declared.stage.Stage.{Stage}
use Rattle.ready_loop.specs.declared.stage.Stage.TheVariants.{Fresh, Begun, Closed}
use Rattle.ready_loop.specs.Link.{MayRead, MayWrite, connect_link, begun_link, closed_link, is_begun, is_known}
use Rattle.ready_loop.specs.Begins.{BeginMoment, Begins, BeginsOne, IsBegun, port_of, CloseMoment, CloseCame, ClosesOne, closing, unless_closed, is_of_job, Closes}
use Rattle.ready_loop.specs.Queues.{held_in, rest_at}
use Rattle.ready_loop.specs.Begins as begins
use Rattle.ready_loop.specs.History.{History, no_change, with_begun, with_all_begun, conn_on, chans, after_begin}
use Rattle.ready_loop.specs.Standing.{write_ended, StandsAt, Stand, StandsFor, Goes}
use Rattle.ready_loop.specs.States.{OnlyAt, IsOffered, IsSound, Each, HoldsForKnown, failed_at, failed_in, failed_connect, known_in, known_at, begun_in, begun_at}
use Rattle.ready_loop.proofs.ConnectLemmas.{stands_begun, stands_closed, stands_unbegun, begun_closed, known_closed}
use Rattle.ready_loop.proofs.OfferLemmas.{ended_connect}
use Rattle.ready_loop.proofs.StandLemmas.{stand_at, stands_as, same_but, begun_but, not_at, or_own}
use Rattle.ready_loop.proofs.StateLemmas.{each_set, failed_set, kept_set, connect_failed, failed_connect_other, connect_stage, sound_at}
use Rattle.jtext.proofs.Lists.{some_at, slice_get-set_same, slice_get-set_other}

-- ---- a first connect

pub begin_goes : (conn : Conn) (port : ℕ) (how : Connected) (l : Loop) (links : List Link) (link : Link) (last : ℕ) (past : List Entry)
    → slice_get l.links (place_of conn) ≡ Some link → link.stage ≡ Fresh
    → links ≡ set l.links (place_of conn) (connect_link how last (begun_link port link)) → last ≡ time past
    → Goes BeginMoment (with_begun (place_of conn)) l (record l { links = links }) past (made.Connected conn port how ∷ past)
begin_goes conn port how l links link last past found fresh is clock =
    let q = place_of conn in
    let entry : Entry = made.Connected conn port how in
    record {
      so = λ h stand.
          let m = stand.each (place_of conn) link found in
          let own = stands_as refl (or_own (place_of conn) (h.begun (place_of conn))) refl refl (connected_own conn port how past) (ended_connect conn port how past)
          (stands_begun link _ _ _ _ _ _ how port last (time past) clock fresh m) in
          let r = stand_at entry (place_of conn) (connect_link how last (begun_link port link)) (slice_get_within l.links (place_of conn) _ found) refl
          (λ p ne. not_at p conn ne) (λ p ne. refl) (begun_but (place_of conn) h) own stand in (
            subst (λ ls. Stand ls l.queues l.left (with_begun (place_of conn) h) (entry ∷ past)) (sym is) r,
            more start (sym m.stage ∙ ap is_begun fresh),
          );
    }

pub begin_reads : (how : Connected) (last port : ℕ) (link : Link)
    → (MayRead (connect_link how last (begun_link port link)) → MayRead (begun_link port link))
    → MayRead (connect_link how last (begun_link port link)) → MayRead link
begin_reads how last port link f m = let k = f m in record { awake = k.awake; sound = k.sound; reads = k.reads }

pub begin_fails : (how : Connected) (conn : Conn) (last port : ℕ) (links now : List Link) (link : Link)
    → slice_get links (place_of conn) ≡ Some link
    → now ≡ set links (place_of conn) (connect_link how last (begun_link port link)) → (p : ℕ)
    → failed_in (slice_get now p) ≡ failed_connect how conn p (failed_in (slice_get links p))
begin_fails how conn last port links now link found is p =
    failed_set (λ i b. failed_connect how conn i b) links now (place_of conn) (connect_link how last (begun_link port link)) link found is
    (connect_failed how last (begun_link port link) conn) (λ i b ne. failed_connect_other how conn i b ne) p

-- one that is fresh stays so while another is begun
pub fresh_other : (p q : ℕ) (l new : Loop) → p ≢ q → OnlyAt q l new → known_at l p ≡ false → known_at new p ≡ false
fresh_other p q l new ne only fresh = ap known_in (only.links p ne) ∙ fresh

pub fresh_of : (stage : Stage) → is_known stage ≡ false → stage ≡ Fresh
fresh_of Fresh e = refl
fresh_of Begun e = cc
fresh_of Closed e = cc

-- one more is begun
pub begin_known : (conn : Conn) (how : Connected) (last port : ℕ) (links now : List Link) (link : Link)
    → slice_get links (place_of conn) ≡ Some link
    → now ≡ set links (place_of conn) (connect_link how last (begun_link port link)) → (p : ℕ)
    → known_in (slice_get now p) ≡ is_at p conn || known_in (slice_get links p)
begin_known conn how last port links now link found is p = elim (cases_eq p (place_of conn)) [
  | inl e ↦
      let own = ap (λ ls. known_in (slice_get ls (place_of conn))) is ∙ ap known_in (slice_get-set_same links (place_of conn) (connect_link how last (begun_link port link)) (slice_get_within links (place_of conn) _ found))
      ∙ ap is_known (connect_stage how last (begun_link port link)) ∙ sym (ap (λ b. b || known_in (slice_get links (place_of conn))) (at_own conn)) in
      subst (λ i. known_in (slice_get now i) ≡ is_at i conn || known_in (slice_get links i)) (sym e) own
  | inr ne ↦
      ap (λ ls. known_in (slice_get ls p)) is ∙ ap known_in (slice_get-set_other links (place_of conn) p (connect_link how last (begun_link port link)) ne)
      ∙ sym (ap (λ b. b || known_in (slice_get links p)) (not_at p conn ne))
]

-- a connect was called for this one too
abbrev KnowsToo : Conn → Loop → Loop → Type 0
KnowsToo conn l new = (p : ℕ) → known_at new p ≡ is_at p conn || known_at l p

-- so it is known
known_own : (conn : Conn) (l new : Loop) → KnowsToo conn l new → known_at new (place_of conn) ≡ true
known_own conn l new known =
    known (place_of conn) ∙ ap (λ b. b || known_at l (place_of conn)) (at_own conn)

-- and one that was known stays so
known_more : (conn : Conn) (l new : Loop) → KnowsToo conn l new → (p : ℕ) → known_at l p ≡ true
    → known_at new p ≡ true
known_more conn l new known p was = known p ∙ or_right (is_at p conn) (known_at l p) was

-- nothing comes to be held for it
pub begin_holds : (conn : Conn) (l new : Loop) → new.queues ≡ l.queues
    → ((p : ℕ) → known_at new p ≡ is_at p conn || known_at l p) → HoldsForKnown l → HoldsForKnown new
begin_holds conn l new queues known h = record {
  each = λ p fresh. ap (λ qs. rest_at qs p) queues ∙ h.each p (or_parts (is_at p conn) (known_at l p) (sym (known p) ∙ fresh)).1;
}

-- and so nothing is to be offered to it
pub begin_offered : (q : ℕ) (l new : Loop) → new.queues ≡ l.queues → OnlyAt q l new → known_at l q ≡ false
    → HoldsForKnown l → IsOffered l → IsOffered new
begin_offered q l new queues only fresh h o = record {
  each = λ p link low found may. ap (λ qs. rest_at qs p) queues ∙ elim (cases_eq p q) [
    | inl e ↦ h.each p (subst (λ i. known_at l i ≡ false) (sym e) fresh)
    | inr ne ↦ o.each p link low (sym (only.links p ne) ∙ found) may
  ];
}

-- ---- the connects of a job

pub begins_then : {U : Type 0} {job : ℕ} {ports : List ℕ} (u : U) (chan : Chan) (rest : List Chan) (result : Result U LoopFault) (x y z : List Entry)
    → BeginsOne {U = U} (conn_on job chan) (port_of ports chan) (Ok u) x y → Begins job ports rest result y z
    → Begins job ports (chan ∷ rest) result x z
begins_then {job = job} {ports} u chan rest result x y z one b = begins.more chan rest one.0 result x z one.1 (subst (λ w. Begins job ports rest result w z) one.2 b)

pub begins_failed : {U : Type 0} {job : ℕ} {ports : List ℕ} (chan : Chan) (rest : List Chan) (fault : LoopFault) (x y : List Entry)
    → BeginsOne {U = U} (conn_on job chan) (port_of ports chan) (Err fault) x y
    → Begins {U = U} job ports (chan ∷ rest) (Err fault) x y
begins_failed {U} {job} {ports} chan rest (NetFault (Some conn)) x y one =
    subst (λ c. Begins {U = U} job ports (chan ∷ rest) (Err (NetFault (Some c))) x y) (sym one.0)
    (subst (λ w. Begins {U = U} job ports (chan ∷ rest) (Err (NetFault (Some (conn_on job chan)))) x w) (sym one.1) (begins.failed chan rest x))
begins_failed chan rest (NetFault None) x y one = absurd one
begins_failed chan rest Spent x y one = absurd one

pub begins_last : {U : Type 0} {job : ℕ} {ports : List ℕ} (chan : Chan) (result : Result U LoopFault) (x y : List Entry)
    → BeginsOne (conn_on job chan) (port_of ports chan) result x y → Begins job ports (chan ∷ []) result x y
begins_last chan (Ok u) x y one = begins_then u chan [] (Ok u) x y y one (begins.done u y)
begins_last chan (Err fault) x y one = begins_failed chan [] fault x y one

-- the three that each job has are begun
pub begun_three : (job : ℕ) (a b c d : Loop) → KnowsToo (conn_on job Shell) a b
    → KnowsToo (conn_on job Control) b c → KnowsToo (conn_on job Iopub) c d → IsBegun job false d
begun_three job a b c d shell control iopub = record {
  shell = known_more (conn_on job Iopub) c d iopub (place_of (conn_on job Shell))
      (known_more (conn_on job Control) b c control (place_of (conn_on job Shell))
      (known_own (conn_on job Shell) a b shell));
  control = known_more (conn_on job Iopub) c d iopub (place_of (conn_on job Control))
      (known_own (conn_on job Control) b c control);
  iopub = known_own (conn_on job Iopub) c d iopub;
  heart_too = λ e. absurd (false≢true e);
}

-- and that of the heartbeat
pub begun_four : (job : ℕ) (heart : Bool) (d e : Loop) → IsBegun job false d
    → KnowsToo (conn_on job Heart) d e → IsBegun job heart e
begun_four job heart d e begun known = record {
  shell = known_more (conn_on job Heart) d e known (place_of (conn_on job Shell)) begun.shell;
  control = known_more (conn_on job Heart) d e known (place_of (conn_on job Control)) begun.control;
  iopub = known_more (conn_on job Heart) d e known (place_of (conn_on job Iopub)) begun.iopub;
  heart_too = λ wanted. known_own (conn_on job Heart) d e known;
}

-- after the last connect, whatever it answered
pub after_last : {U : Type 0} (job : ℕ) (r : Result U LoopFault)
    → IfErr r (λ fault. fault ≡ NetFault (Some (conn_on job Heart))) → (h : History)
    → with_all_begun job (chans true) h ≡ after_begin job true r h
after_last job (Ok u) e h = refl
after_last {U} job (Err fault) e h = sym (ap (λ f. after_begin {U = U} job true (Err f) h) e)

-- ---- a close

unbegun_goes : (conn : Conn) (l : Loop) (links : List Link) (link : Link) (past : List Entry)
    → slice_get l.links (place_of conn) ≡ Some link → false ≡ is_begun link.stage
    → links ≡ set l.links (place_of conn) (closed_link link)
    → Goes CloseMoment no_change l (record l { links = links }) past past
unbegun_goes conn l links link past found shut is = record {
  so = λ h stand. (
    record {
      size = ap length is ∙ length-set l.links (place_of conn) (closed_link link) ∙ stand.size;
      waits = stand.waits;
      each = λ p x at. elim (cases_eq p (place_of conn)) [
        | inl e ↦
            let q = place_of conn in
            let at_q : slice_get (set l.links (place_of conn) (closed_link link)) (place_of conn) ≡ Some x = subst (λ (ls : List Link). slice_get ls (place_of conn) ≡ Some x) is (subst (λ i. slice_get links i ≡ Some x) e at) in
            let x_is : closed_link link ≡ x = same_Some _ _ (sym (slice_get-set_same l.links (place_of conn) (closed_link link) (slice_get_within l.links (place_of conn) _ found)) ∙ at_q) in
            subst (λ i. StandsAt x (held_in (slice_get l.queues i)) (h.begun i) (h.queued i) (h.named i) (status i past) (write_ended i past)) (sym e)
            (subst (λ y. StandsAt y (held_in (slice_get l.queues (place_of conn))) (h.begun (place_of conn)) (h.queued (place_of conn)) (h.named (place_of conn)) (status (place_of conn) past) (write_ended (place_of conn) past)) x_is
            (stands_unbegun link _ _ _ _ _ _ (sym shut) (stand.each (place_of conn) link found)))
        | inr ne ↦ stand.each p x (sym (slice_get-set_other l.links (place_of conn) p (closed_link link) ne) ∙ subst (λ (ls : List Link). slice_get ls p ≡ Some x) is at)
      ];
    },
    start,
  );
}

begun_goes : (conn : Conn) (l : Loop) (links : List Link) (link : Link) (past : List Entry)
    → slice_get l.links (place_of conn) ≡ Some link → true ≡ is_begun link.stage
    → links ≡ set l.links (place_of conn) (closed_link link)
    → Goes CloseMoment no_change l (record l { links = links }) past (made.Closed conn ∷ past)
begun_goes conn l links link past found begun is = record {
  so = λ h stand.
      let m = stand.each (place_of conn) link found in
      let own = stands_as refl refl refl refl (closed_own conn past) refl (stands_closed link _ _ _ _ _ _ m) in
      let r = stand_at (made.Closed conn) (place_of conn) (closed_link link) (slice_get_within l.links (place_of conn) _ found) refl
      (λ p ne. not_at p conn ne) (λ p ne. refl) (same_but (place_of conn) h) own stand in (
        subst (λ ls. Stand ls l.queues l.left h (made.Closed conn ∷ past)) (sym is) r,
        more start (sym m.stage ∙ sym begun),
      );
}

pub closed_goes : (b : Bool) (conn : Conn) (l : Loop) (links : List Link) (link : Link) (past : List Entry)
    → slice_get l.links (place_of conn) ≡ Some link → b ≡ is_begun link.stage
    → links ≡ set l.links (place_of conn) (closed_link link)
    → Goes CloseMoment no_change l (record l { links = links }) past (closing b conn past)
closed_goes true conn l links link past found b is = begun_goes conn l links link past found b is
closed_goes false conn l links link past found b is = unbegun_goes conn l links link past found b is

pub closed_fails : (conn : Conn) (links now : List Link) (link : Link) → slice_get links (place_of conn) ≡ Some link
    → now ≡ set links (place_of conn) (closed_link link)
    → (p : ℕ) → failed_in (slice_get now p) ≡ unless_closed (is_at p conn) (failed_in (slice_get links p))
closed_fails conn links now link found is p =
    failed_set (λ i b. unless_closed (is_at i conn) b) links now (place_of conn) (closed_link link) link found is
    (ap (λ x. unless_closed x link.failed) (sym (at_own conn))) (λ i b ne. ap (λ x. unless_closed x b) (not_at i conn ne)) p

pub closed_offered : (l : Loop) (q : ℕ) (links : List Link) (link : Link) → slice_get l.links q ≡ Some link
    → links ≡ set l.links q (closed_link link) → IsOffered l → IsOffered (record l { links = links })
closed_offered l q links link found is o = record {
  each = subst (λ (ls : List Link). Each ls (λ p x. MayWrite x → rest_at l.queues p ≡ [])) (sym is)
      (each_set {P = λ p x. MayWrite x → rest_at l.queues p ≡ []} 64 q l.links (closed_link link) (slice_get_within l.links q _ found) (λ m. absurd (false≢true m.writable)) o.each);
}

pub closed_reads : (link : Link) → MayRead (closed_link link) → MayRead link
closed_reads link m = absurd (false≢true m.awake)

either : (x y w : Bool) → unless_closed x (unless_closed y w) ≡ unless_closed (x || y) w
either true y w = refl
either false y w = refl

-- the four of a job
pub closed_four : (s c i h w : Bool)
    → unless_closed h (unless_closed i (unless_closed c (unless_closed s w))) ≡ unless_closed (h || (i || (c || s))) w
closed_four s c i h w = ap (λ v. unless_closed h (unless_closed i v)) (either c s w) ∙ ap (λ v. unless_closed h v) (either i (c || s) w) ∙ either h (i || (c || s)) w

-- one of another channel is as before
pub begun_other : (conn q : Conn) (l new : Loop) → place_of conn ≢ place_of q → OnlyAt (place_of q) l new
    → begun_in (slice_get new.links (place_of conn)) ≡ begun_in (slice_get l.links (place_of conn))
begun_other conn q l new ne only = ap begun_in (only.links (place_of conn) ne)

-- by the journal
pub begun_stands : (conn : Conn) (l : Loop) (h : History) (past : List Entry) → conn.job < 16 → StandsFor l h past
    → begun_in (slice_get l.links (place_of conn)) ≡ (status (place_of conn) past).begun
begun_stands conn l h past low stand =
    let (link, found) = some_at l.links (place_of conn) (omega (arith, stand.size, chan_below conn.chan)) in
    ap begun_in found ∙ (stand.each (place_of conn) link found).stage

-- one step and then another
pub record Both (P Q : List Entry → List Entry → Type 0) (before after : List Entry) : Type 0 where
  pub mid : List Entry
  pub first : P before mid
  pub second : Q mid after

pub both : {P Q : List Entry → List Entry → Type 0} (x y z : List Entry) → P x y → Q y z → Both P Q x z
both x y z p q = record { mid = y; first = p; second = q }

module _ (job : ℕ) (low : job < 16) (a b c d e : Loop) (shell : OnlyAt (place_of (conn_on job Shell)) a b) (control : OnlyAt (place_of (conn_on job Control)) b c)
    (iopub : OnlyAt (place_of (conn_on job Iopub)) c d) where
  pub close_came : (v w x y z : List Entry) → ClosesOne (conn_on job Shell) a v w → ClosesOne (conn_on job Control) b w x
      → ClosesOne (conn_on job Iopub) c x y
      → ClosesOne (conn_on job Heart) d y z → CloseCame job a v z
  close_came v w x y z one two three four = record {
    so = λ h stand.
        let by : (chan : Chan) → begun_in (slice_get a.links (place_of (conn_on job chan))) ≡ (status (place_of (conn_on job chan)) v).begun = λ chan. begun_stands (conn_on job chan) a h v low stand in
        let s1 = by Shell in
        let s2 = begun_other (conn_on job Control) (conn_on job Shell) a b (λ e. omega (arith, e)) shell ∙ by Control in
        let s3 = begun_other (conn_on job Iopub) (conn_on job Control) b c (λ e. omega (arith, e)) control
        ∙ begun_other (conn_on job Iopub) (conn_on job Shell) a b (λ e. omega (arith, e)) shell ∙ by Iopub in
        let s4 = begun_other (conn_on job Heart) (conn_on job Iopub) c d (λ e. omega (arith, e)) iopub
        ∙ begun_other (conn_on job Heart) (conn_on job Control) b c (λ e. omega (arith, e)) control
        ∙ begun_other (conn_on job Heart) (conn_on job Shell) a b (λ e. omega (arith, e)) shell ∙ by Heart in
        four ∙ ap (λ t. closing t (conn_on job Heart) y) s4
        ∙ ap (λ j. closing (status (place_of (conn_on job Heart)) v).begun (conn_on job Heart) j) (three ∙ ap (λ t. closing t (conn_on job Iopub) x) s3
        ∙ ap (λ j. closing (status (place_of (conn_on job Iopub)) v).begun (conn_on job Iopub) j) (two ∙ ap (λ t. closing t (conn_on job Control) w) s2
        ∙ ap (λ j. closing (status (place_of (conn_on job Control)) v).begun (conn_on job Control) j) (one ∙ ap (λ t. closing t (conn_on job Shell) v) s1)));
  }

pub closed_known : (conn : Conn) (l new : Loop) (q : ℕ) (link : Link) → q ≡ place_of conn → slice_get l.links q ≡ Some link
    → new.links ≡ set l.links q (closed_link link) → new.queues ≡ l.queues → Closes (λ p. is_at p conn) l new
closed_known conn l new q link place found is queues =
    let known = kept_set known_in l.links new.links q (closed_link link) link found is (known_closed link.stage) in
    record {
      known = known;
      begun = λ p. elim (cases_eq p q) [
        | inl e ↦
            let own = ap (λ ls. begun_in (slice_get ls q)) is ∙ ap begun_in (slice_get-set_same l.links q (closed_link link) (slice_get_within l.links q _ found)) ∙ begun_closed link.stage
            ∙ sym (ap (λ b. unless_closed b (begun_at l q)) (eq-eqb q (place_of conn) place)) in
            subst (λ i. begun_at new i ≡ unless_closed (is_at i conn) (begun_at l i)) (sym e) own
        | inr ne ↦
            ap (λ ls. begun_in (slice_get ls p)) is ∙ ap begun_in (slice_get-set_other l.links q p (closed_link link) ne)
            ∙ sym (ap (λ b. unless_closed b (begun_at l p)) (not_at p conn (λ e. ne (e ∙ sym place))))
      ];
      holds = λ h. record { each = λ p fresh. ap (λ qs. rest_at qs p) queues ∙ h.each p (sym (known p) ∙ fresh) };
    }

-- four closes, one after another
pub closes_four : (job : ℕ) (a b c d e : Loop) → Closes (λ p. is_at p (conn_on job Shell)) a b → Closes (λ p. is_at p (conn_on job Control)) b c
    → Closes (λ p. is_at p (conn_on job Iopub)) c d → Closes (λ p. is_at p (conn_on job Heart)) d e → Closes (λ p. is_of_job job p) a e
closes_four job a b c d e shell control iopub heart = record {
  known = λ p. heart.known p ∙ iopub.known p ∙ control.known p ∙ shell.known p;
  begun = λ p.
      heart.begun p ∙ ap (λ b. unless_closed (is_at p (conn_on job Heart)) b) (iopub.begun p
      ∙ ap (λ b. unless_closed (is_at p (conn_on job Iopub)) b) (control.begun p
      ∙ ap (λ b. unless_closed (is_at p (conn_on job Control)) b) (shell.begun p)))
      ∙ closed_four (is_at p (conn_on job Shell)) (is_at p (conn_on job Control)) (is_at p (conn_on job Iopub)) (is_at p (conn_on job Heart)) (begun_at a p);
  holds = λ h. heart.holds (iopub.holds (control.holds (shell.holds h)));
}

-- and none has failed after it that had not before
pub closed_sound : (b w : Bool) → w ≡ false → unless_closed b w ≡ false
closed_sound true w e = refl
closed_sound false w e = e

-- a place of a connection of a job is of that job
pub own_job : (job p : ℕ) (chan : Chan) → is_at p (conn_on job chan) ≡ true → is_of_job job p ≡ true
own_job job p Heart e = ap (λ b. b || (is_at p (conn_on job Iopub) || (is_at p (conn_on job Control) || is_at p (conn_on job Shell)))) e
own_job job p Iopub e = or_right (is_at p (conn_on job Heart)) _ (ap (λ b. b || (is_at p (conn_on job Control) || is_at p (conn_on job Shell))) e)
own_job job p Control e = or_right (is_at p (conn_on job Heart)) _ (or_right (is_at p (conn_on job Iopub)) _ (ap (λ b. b || is_at p (conn_on job Shell)) e))
own_job job p Shell e = or_right (is_at p (conn_on job Heart)) _ (or_right (is_at p (conn_on job Iopub)) _ (or_right (is_at p (conn_on job Control)) _ e))

-- the one that failed is of the job that was closed
closed_whole : (conn : Conn) (p : ℕ) (b : Bool) → is_of_job conn.job p ≡ b → (was : Bool) → was ≡ false
    → unless_closed b (is_at p conn || was) ≡ false
closed_whole conn p true of was e = refl
closed_whole conn p false of was e = elim (at (is_at p conn) refl) [
  | inl own ↦ absurd (false≢true (sym of ∙ own_job conn.job p conn.chan own))
  | inr other ↦ ap (λ b. b || was) other ∙ e
]
  where
    at : (b : Bool) → is_at p conn ≡ b → (is_at p conn ≡ true) ⊎ (is_at p conn ≡ false)
    at true e = inl e
    at false e = inr e

-- one fault, and a close of its job
pub mended : (conn : Conn) (old mid new : Loop) → IsSound old
    → ((p : ℕ) → failed_at mid p ≡ is_at p conn || failed_at old p)
    → ((p : ℕ) → failed_at new p ≡ unless_closed (is_of_job conn.job p) (failed_at mid p)) → IsSound new
mended conn old mid new sound fails closes = record {
  each = λ p link low found.
      sym (ap failed_in found) ∙ closes p ∙ ap (λ b. unless_closed (is_of_job conn.job p) b) (fails p)
      ∙ closed_whole conn p (is_of_job conn.job p) refl (failed_at old p) (sound_at old sound p low);
}
