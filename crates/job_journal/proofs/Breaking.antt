-- A piece breaks a stream by our side of the connection where it does by the journal, and with the same fault.
use Rattle.std.proofs.Common.{◌≡◌, ◌⊎◌, inl, inr, ℕ, List, ◌∷◌, Bool, true, false, ◌||◌, Option, Some, None, Ok, Err, refl, sym, ◌∙◌, ap}
use Rattle.std.specs.Prelude.{is_some, option_map}
use Rattle.world.specs.declared.chan.Chan.{Chan}
use Rattle.world.specs.declared.chan.Chan.TheVariants as chan
use Rattle.world.specs.declared.entry.Entry.{Entry}
use Rattle.world.specs.Moments.{Since, start, more}
use Rattle.zmtp_wire.specs.declared.fault.WireFault.{WireFault}
use Rattle.zmtp_wire.specs.declared.role.Role.{Role}
use Rattle.zmtp_wire.specs.Fault.{number_of, place_of}
use Rattle.zmtp_wire.specs.Meaning.{answer_to, contexts_in, fault_in, messages_in, rest_in}
use Rattle.zmtp_wire.specs.Stream.{broken as breaks_there, stream}
use Rattle.zmtp_wire.proofs.MeaningLemmas.{fault_none, fault_placed, is_broken as wire_broken, is_stream, meant_alone}
use Rattle.kernel_lines.specs.Ends.{answer_by}
use Rattle.kernel_lines.specs.Lines.{role_on}
use Rattle.run_journal.specs.Job.{Job}
use Rattle.run_journal.specs.Jupyter.{numbered_place}
use Rattle.run_journal.specs.Parts.{bytes_got}
use Rattle.run_journal.specs.Requests.{is_broken}
use Rattle.run_journal.specs.Why.{BadStream, bad_by, fault_on}
use Rattle.job_journal.specs.Ended.{IsBrokenAs, IsWhole, bad_with}
use Rattle.job_journal.specs.Plot.{Plot, facts}
use Rattle.job_journal.specs.Quiet.{IsQuietNow, is_unread}
use Rattle.job_journal.proofs.Unread.{unread_bytes}

-- ---- which streams are broken

or_false : (a b : Bool) → (a || b) ≡ false → (a ≡ false) × (b ≡ false)
or_false true b e = cc
or_false false b e = (refl, e)

-- where no stream was broken, and bytes came on one channel alone, a stream is broken exactly where that one is
pub broken_there : (j : Job) (c : Chan) (before now : List Entry) (b : Bool) → is_broken j before ≡ false
    → ((d : Chan) → (d ≡ c) ⊎ (bytes_got j d now ≡ bytes_got j d before)) → is_some (j.codec.fault c (bytes_got j c now)) ≡ b → is_broken j now ≡ b
unfolding is_broken
broken_there j c before now b whole same there =
    let was = or_false (f chan.Shell before) _ whole in
    let then = or_false (f chan.Control before) _ was.1 in
    let last = or_false (f chan.Iopub before) _ then.1 in
    let end = or_false (f chan.Heart before) _ last.1 in
    by c there (λ d. elim (same d) [ inl s ↦ inl s | inr s ↦ inr (ap (λ bytes. is_some (j.codec.fault d bytes)) s) ]) was.0 then.0 last.0 end.0
  where
    f : Chan → List Entry → Bool
    f d past = is_some (j.codec.fault d (bytes_got j d past))

    all : (a b c d x y z w : Bool) → a ≡ x → b ≡ y → c ≡ z → d ≡ w → (a || (b || (c || (d || false)))) ≡ (x || (y || (z || (w || false))))
    all a b c d x y z w e f g h = cc

    still : (c d : Chan) → ((d ≡ c) ⊎ (f d now ≡ f d before)) → (d ≡ c → ⊥) → f d before ≡ false → f d now ≡ false
    still c d (inl s) n e = absurd (n s)
    still c d (inr s) n e = s ∙ e

    only : (b : Bool) → (b || false) ≡ b
    only true = refl
    only false = refl

    by : (c : Chan) → f c now ≡ b → ((d : Chan) → (d ≡ c) ⊎ (f d now ≡ f d before)) → f chan.Shell before ≡ false → f chan.Control before ≡ false
        → f chan.Iopub before ≡ false → f chan.Heart before ≡ false
        → (f chan.Shell now || (f chan.Control now || (f chan.Iopub now || (f chan.Heart now || false)))) ≡ b
    by chan.Shell k s p q r t =
        all _ _ _ _ b false false false k (still chan.Shell chan.Control (s chan.Control) (λ e. cc) q) (still chan.Shell chan.Iopub (s chan.Iopub) (λ e. cc) r)
        (still chan.Shell chan.Heart (s chan.Heart) (λ e. cc) t) ∙ only b
    by chan.Control k s p q r t =
        all _ _ _ _ false b false false (still chan.Control chan.Shell (s chan.Shell) (λ e. cc) p) k (still chan.Control chan.Iopub (s chan.Iopub) (λ e. cc) r)
        (still chan.Control chan.Heart (s chan.Heart) (λ e. cc) t) ∙ only b
    by chan.Iopub k s p q r t =
        all _ _ _ _ false false b false (still chan.Iopub chan.Shell (s chan.Shell) (λ e. cc) p) (still chan.Iopub chan.Control (s chan.Control) (λ e. cc) q) k
        (still chan.Iopub chan.Heart (s chan.Heart) (λ e. cc) t) ∙ only b
    by chan.Heart k s p q r t =
        all _ _ _ _ false false false b (still chan.Heart chan.Shell (s chan.Shell) (λ e. cc) p) (still chan.Heart chan.Control (s chan.Control) (λ e. cc) q)
        (still chan.Heart chan.Iopub (s chan.Iopub) (λ e. cc) r) k ∙ only b

pub mapped : {A B : Type 0} (f : A → B) (o : Option A) → is_some (option_map f o) ≡ is_some o
mapped f None = refl
mapped f (Some x) = refl

-- so none is where that one isn't
pub whole_there : (j : Job) (c : Chan) (before now : List Entry) → IsWhole j before → ((d : Chan) → (d ≡ c) ⊎ (bytes_got j d now ≡ bytes_got j d before))
    → is_some (fault_on j now c) ≡ false → IsWhole j now
whole_there j c before now whole same none =
    broken_there j c before now false whole same (sym (mapped (bad_by c) (j.codec.fault c (bytes_got j c now))) ∙ none)

-- where no byte came, none is broken that wasn't
pub whole_same : (j : Job) (before now : List Entry) → ((c : Chan) → bytes_got j c now ≡ bytes_got j c before) → IsWhole j before → IsWhole j now
unfolding is_broken
whole_same j before now same whole = all chan.Shell chan.Control chan.Iopub chan.Heart ∙ whole
  where
    f : Chan → List Entry → Bool
    f d past = is_some (j.codec.fault d (bytes_got j d past))

    one : (c : Chan) → f c now ≡ f c before
    one c = ap (λ bytes. is_some (j.codec.fault c bytes)) (same c)

    both : (a b x y : Bool) → a ≡ x → b ≡ y → (a || b) ≡ (x || y)
    both a b x y e f = cc

    all : (a b c d : Chan) → (f a now || (f b now || (f c now || (f d now || false)))) ≡ (f a before || (f b before || (f c before || (f d before || false))))
    all a b c d = both _ _ _ _ (one a) (both _ _ _ _ (one b) (both _ _ _ _ (one c) (both _ _ _ _ (one d) refl)))

-- before any byte none is
pub unread_whole : (p : Plot) (now : List Entry) → is_unread (facts p) now ≡ true → IsWhole (facts p) now
unfolding is_broken
unread_whole p now e = all (one chan.Shell) (one chan.Control) (one chan.Iopub) (one chan.Heart)
  where
    f : Chan → Bool
    f c = is_some ((facts p).codec.fault c (bytes_got (facts p) c now))

    one : (c : Chan) → f c ≡ false
    one c =
        ap (λ bytes. is_some ((facts p).codec.fault c bytes)) (unread_bytes (facts p) now e c)
        ∙ ap (λ o. is_some (option_map numbered_place o)) (fault_none (role_on c))

    all : {a b c d : Bool} → a ≡ false → b ≡ false → c ≡ false → d ≡ false → (a || (b || (c || (d || false)))) ≡ false
    all e f g h = cc

-- ---- a piece

-- the wire's answer to octets is that of their fault, if there is one (RFC 23)
none_answered : (r : Role) (b : List ℕ) → fault_in r b ≡ None → answer_to r b ≡ Ok tt
none_answered r b e = sym (meant_alone r b (messages_in r b) (contexts_in r b) (Ok tt) (stream (messages_in r b) (contexts_in r b) (rest_in r b) (is_stream r b e))).2

some_answered : (r : Role) (b : List ℕ) (x : WireFault) (at : ℕ) → fault_in r b ≡ Some (x, at) → answer_to r b ≡ Err x
some_answered r b x at e =
    sym (meant_alone r b (messages_in r b) (contexts_in r b) (Err x) (breaks_there x at (messages_in r b) (contexts_in r b) (wire_broken r b x at e))).2

-- a stream is broken where our side answers a fault
answers_fault : (r : Role) (b : List ℕ) (fault : Option WireFault) → answer_by fault ≡ answer_to r b → is_some (option_map numbered_place (fault_in r b)) ≡ is_some fault
answers_fault r b fault e = by (fault_in r b) refl fault e
  where
    by : (o : Option (WireFault × ℕ)) → fault_in r b ≡ o → (fault : Option WireFault) → answer_by fault ≡ answer_to r b → is_some (option_map numbered_place o) ≡ is_some fault
    by None f None e = refl
    by None f (Some x) e = let g : Err x ≡ answer_by None = e ∙ none_answered r b f in cc
    by (Some q) f None e = let g : answer_by None ≡ Err q.0 = e ∙ some_answered r b q.0 q.1 f in cc
    by (Some q) f (Some x) e = refl

-- and by the journal's codec
pub breaks_on : (p : Plot) (c : Chan) (b : List ℕ) (fault : Option WireFault) → answer_by fault ≡ answer_to (role_on c) b → is_some ((facts p).codec.fault c b) ≡ is_some fault
breaks_on p c b fault e = answers_fault (role_on c) b fault e

-- Where no stream was broken, one is with a piece exactly where our side answers a fault.
pub piece_breaks : (p : Plot) (c : Chan) (entry : Entry) (past : List Entry) (fault : Option WireFault) → is_broken (facts p) past ≡ false
    → ((d : Chan) → (d ≡ c) ⊎ (bytes_got (facts p) d (entry ∷ past) ≡ bytes_got (facts p) d past))
    → answer_by fault ≡ answer_to (role_on c) (bytes_got (facts p) c (entry ∷ past)) → is_broken (facts p) (entry ∷ past) ≡ is_some fault
piece_breaks p c entry past fault whole same e =
    broken_there (facts p) c past (entry ∷ past) (is_some fault) whole same (breaks_on p c (bytes_got (facts p) c (entry ∷ past)) fault e)

-- Where our side answers a fault, the stream is broken by the journal with that fault.
module _ (p : Plot) (c : Chan) (now : List Entry) (f : WireFault) (e : answer_by (Some f) ≡ answer_to (role_on c) (bytes_got (facts p) c now)) where
  abbrev octets : List ℕ
  octets = bytes_got (facts p) c now

  broken_by : (o : Option (WireFault × ℕ)) → fault_in (role_on c) octets ≡ o → IsBrokenAs (facts p) (bad_with c f) now
  broken_by None g = let clash : answer_by (Some f) ≡ answer_by None = e ∙ none_answered (role_on c) octets g in absurd (cc)
  broken_by (Some q) g =
      let same : answer_by (Some f) ≡ answer_by (Some q.0) = e ∙ some_answered (role_on c) octets q.0 q.1 g in
      let is : f ≡ q.0 = cc in
      record {
        at = q.1;
        fault = ap (λ o. option_map (bad_by c) (option_map numbered_place o)) g ∙ ap (λ k. Some (bad_by c (number_of k, q.1))) (sym is);
        place = ap place_of is ∙ fault_placed octets (role_on c) q.0 q.1 (messages_in (role_on c) octets) (contexts_in (role_on c) octets) (wire_broken (role_on c) octets q.0 q.1 g);
      }

  pub fault_breaks : IsBrokenAs (facts p) (bad_with c f) now
  fault_breaks = broken_by (fault_in (role_on c) octets) refl

-- ---- what stays

-- where no byte came on its channel, a stream is broken as it was
pub broken_same : (j : Job) (bad : BadStream) (before now : List Entry) → bytes_got j bad.chan now ≡ bytes_got j bad.chan before → IsBrokenAs j bad before → IsBrokenAs j bad now
broken_same j bad before now same b = record {
  at = b.at;
  fault = ap (λ bytes. option_map (bad_by bad.chan) (j.codec.fault bad.chan bytes)) same ∙ b.fault;
  place = b.place;
}

-- quiet entries bring no byte
pub bytes_on : (j : Job) (before now : List Entry) → Since (IsQuietNow j) before now → (c : Chan) → bytes_got j c now ≡ bytes_got j c before
bytes_on j before now start c = refl
bytes_on j before now (more {past} {entry} w q) c = q.still.nothing c ∙ bytes_on j before past w c
