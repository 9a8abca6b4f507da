-- When the kernel can be asked, by our sides of the connections and by the journal.
use Rattle.std.proofs.Common.{◌≡◌, ℕ, ◌+◌, List, [], ◌∷◌, ◌++◌, length, drop, Bool, true, false, ◌&&◌, cond, Option, Some, None, refl, sym, ◌∙◌, ap, subst, append_assoc}
use Rattle.std.specs.Prelude.{nat_le}
use Rattle.std.proofs.Math.Seq.{drop-append_seam}
use Rattle.std.proofs.lemmas.Bool.{cond-true, cond-false}
use Rattle.std.proofs.lemmas.List.{append-nil}
use Rattle.world.specs.declared.chan.Chan.TheVariants.{Shell, Iopub}
use Rattle.world.specs.declared.entry.Entry.{Entry}
use Rattle.world.specs.declared.entry.Entry.TheVariants as made
use Rattle.world.specs.Places.{is_at}
use Rattle.zmtp_wire.specs.declared.role.Role.{Role}
use Rattle.zmtp_wire.specs.declared.role.Role.TheVariants as role
use Rattle.zmtp_wire.specs.Greeting.{newer_of}
use Rattle.zmtp_wire.specs.Meaning.{Begins, contexts_in, is_shaken as is_shaken_in}
use Rattle.zmtp_wire.specs.Stream.{IsShaken}
use Rattle.zmtp_wire.specs.Writing.{greeting_octets, ready_octets, unit_octets}
use Rattle.zmtp_peer.specs.Reply.{owed_octets, pongs, subscription_for, subscription_octets, subscription_to}
use Rattle.zmtp_peer.proofs.PeerLemmas.{shaken_newer}
use Rattle.kernel_lines.specs.Due.{due_in, end_of, first_of, newly_owed, subscription_end, waiting_in}
use Rattle.kernel_lines.specs.Happened.{Came, Given, History, came_in}
use Rattle.kernel_lines.specs.Line.{clip_place, is_within, role_of, taken_of}
use Rattle.kernel_lines.specs.Lines.{line_on}
use Rattle.kernel_lines.specs.Lines as lines
use Rattle.kernel_lines.specs.declared.lines.Lines.{Lines}
use Rattle.run_journal.specs.Codec.{Info, Execute, Interrupt, Ping, Shutdown}
use Rattle.run_journal.specs.Job.{Job}
use Rattle.run_journal.specs.Jupyter.{Speaker}
use Rattle.run_journal.specs.Parts.{place, bytes_got, bytes_put}
use Rattle.run_journal.specs.Arrivals.{can_ask, is_shaken}
use Rattle.run_journal.specs.Queue.{Queued, news}
use Rattle.job_journal.specs.Line.{OnLine, comes, gives, history, sent_on}
use Rattle.job_journal.specs.Plot.{Plot, facts, speaker}
use Rattle.job_journal.proofs.Lines.{next_history}

-- the laws of the wire that are needed, handed in
pub record OwedLaws : Type 0 where
  pub grows : (r : Role) (b more : List ℕ) → Begins (owed_octets r b) (owed_octets r (b ++ more))
  pub none : (r : Role) → owed_octets r [] ≡ []
  pub first : (r : Role) (b : List ℕ) → is_shaken_in r b ≡ false → contexts_in r b ≡ []
  pub shaken : (r : Role) (b : List ℕ) → is_shaken_in r b ≡ true → IsShaken r b
  pub stays : (r : Role) (b more : List ℕ) → is_shaken_in r b ≡ true → is_shaken_in r (b ++ more) ≡ true
  pub newer : (b more : List ℕ) (newer : Bool) → newer_of b ≡ Some newer → newer_of (b ++ more) ≡ Some newer

-- no message was given
data Mute : History → Type 0 where
  nothing : Mute []
  came : {piece : List ℕ} {past : History} → Mute past → Mute (Came piece ∷ past)

-- no message goes on IOPub
none_on_iopub : (queued : List Queued) → sent_on Iopub queued ≡ []
none_on_iopub [] = refl
none_on_iopub (q ∷ queued) = by q.what (none_on_iopub queued)
  where
    by : (what : _) → sent_on Iopub queued ≡ [] → sent_on Iopub (record { what = what; number = q.number; date = q.date } ∷ queued) ≡ []
    by Info e = e
    by (Execute k) e = e
    by Interrupt e = e
    by Ping e = e
    by Shutdown e = e

mute_comes : (j : Job) (entry : Entry) (h : History) → Mute h → Mute (comes j Iopub entry h)
mute_comes j (made.Got conn room bytes) h m = by (is_at (place j Iopub) conn)
  where
    by : (b : Bool) → Mute (cond b (Came bytes ∷ h) h)
    by true = came m
    by false = m
mute_comes j _ h m = m

mute_empty : (s : Speaker) (j : Job) → Mute (history s j Iopub [])
unfolding history
mute_empty s j = nothing

mute_history : (s : Speaker) (j : Job) (past : List Entry) → Mute (history s j Iopub past)
mute_history s j [] = mute_empty s j
mute_history s j (entry ∷ past) =
    subst Mute (sym (next_history s j Iopub entry past ∙ ap (λ qs. gives s qs (comes j Iopub entry (history s j Iopub past))) (none_on_iopub (news j (entry ∷ past) past))))
    (mute_comes j entry (history s j Iopub past) (mute_history s j past))

cond_nothing : (b : Bool) (xs : List ℕ) → xs ≡ [] → cond b xs [] ≡ []
cond_nothing true xs e = e
cond_nothing false xs e = refl

nothing_cond : (b : Bool) (xs : List ℕ) → xs ≡ [] → cond b [] xs ≡ []
nothing_cond true xs e = refl
nothing_cond false xs e = e

waits_none : (r : Role) (h : History) → Mute h → waiting_in r h ≡ []
waits_none r [] nothing = refl
waits_none r (Given m ∷ past) h = elim h [ ]
waits_none r (Came piece ∷ past) (came m) = nothing_cond (is_shaken_in r (came_in past ++ piece)) (waiting_in r past) (waits_none r past m)

-- our greeting and READY
abbrev opening : List ℕ
opening = greeting_octets ++ ready_octets role.Sub

module _ (w : OwedLaws) where
  due_is : (h : History) → Mute h → due_in role.Sub h ≡ opening ++ owed_octets role.Sub (came_in h)
  due_is [] nothing = sym (ap (λ v. opening ++ v) (w.none role.Sub) ∙ append-nil opening)
  due_is (Given m ∷ past) h = elim h [ ]
  due_is (Came piece ∷ past) (came m) =
      let b : List ℕ = came_in past in
      let g = w.grows role.Sub b piece in
      let more : newly_owed role.Sub b piece ≡ g.rest
      = ap (drop (length (owed_octets role.Sub b))) g.joined ∙ drop-append_seam (owed_octets role.Sub b) g.rest in
      ap (λ v. v ++ (newly_owed role.Sub b piece ++ cond (is_shaken_in role.Sub (b ++ piece)) (waiting_in role.Sub past) [])) (due_is past m)
      ∙ ap (λ v. (opening ++ owed_octets role.Sub b) ++ (newly_owed role.Sub b piece ++ v)) (cond_nothing (is_shaken_in role.Sub (b ++ piece)) (waiting_in role.Sub past) (waits_none role.Sub past m))
      ∙ ap (λ v. (opening ++ owed_octets role.Sub b) ++ v) (append-nil (newly_owed role.Sub b piece) ∙ more)
      ∙ append_assoc opening (owed_octets role.Sub b) g.rest
      ∙ ap (λ v. opening ++ v) (sym g.joined)

  -- before READY nothing is owed
  unshaken_sub : (b : List ℕ) → is_shaken_in role.Sub b ≡ false → subscription_to role.Sub b ≡ []
  unshaken_sub b e = cond-false (is_shaken_in role.Sub b) (subscription_for (newer_of b)) [] e

  unshaken_owes : (b : List ℕ) → is_shaken_in role.Sub b ≡ false → owed_octets role.Sub b ≡ []
  unshaken_owes b e = ap (λ v. v ++ pongs (contexts_in role.Sub b)) (unshaken_sub b e) ∙ ap pongs (w.first role.Sub b e)

  -- after it the peer's version is known
  version : (b : List ℕ) → is_shaken_in role.Sub b ≡ true → (newer : Bool) × (newer_of b ≡ Some newer)
  version b e = by (newer_of b) refl
    where
      by : (o : Option Bool) → newer_of b ≡ o → (newer : Bool) × (newer_of b ≡ Some newer)
      by None f = absurd (shaken_newer role.Sub b (w.shaken role.Sub b e) f)
      by (Some newer) f = (newer, f)

  shaken_sub : (b : List ℕ) (newer : Bool) → is_shaken_in role.Sub b ≡ true → newer_of b ≡ Some newer → subscription_to role.Sub b ≡ subscription_octets newer
  shaken_sub b newer e f = cond-true (is_shaken_in role.Sub b) (subscription_for (newer_of b)) [] e ∙ ap subscription_for f

  first_ends : (n at : ℕ) (newer : Bool) → first_of (end_of n (subscription_octets newer)) (end_of at (subscription_octets newer)) ≡ end_of n (subscription_octets newer)
  unfolding unit_octets
  first_ends n at true = refl
  first_ends n at false = refl

  some_octets : (newer : Bool) (xs : List ℕ) → subscription_octets newer ++ xs ≡ [] → ⊥
  unfolding unit_octets
  some_octets true xs e = cc
  some_octets false xs e = cc

  -- the subscription ends behind greeting and READY
  ends_is : (h : History) → Mute h → subscription_end role.Sub h ≡ end_of (length opening) (subscription_to role.Sub (came_in h))
  ends_is [] nothing = sym (by (is_shaken_in role.Sub []) refl)
    where
      by : (b : Bool) → is_shaken_in role.Sub [] ≡ b → end_of (length opening) (subscription_to role.Sub []) ≡ None
      by true e =
          let v = version [] e in
          let one : subscription_octets v.0 ++ pongs (contexts_in role.Sub []) ≡ [] = ap (λ x. x ++ pongs (contexts_in role.Sub [])) (sym (shaken_sub [] v.0 e v.1)) ∙ w.none role.Sub in
          absurd (some_octets v.0 (pongs (contexts_in role.Sub [])) one)
      by false e = ap (end_of (length opening)) (unshaken_sub [] e)
  ends_is (Given m ∷ past) h = elim h [ ]
  ends_is (Came piece ∷ past) (came m) = by (is_shaken_in role.Sub (came_in past)) refl (ends_is past m)
    where
      by : (x : Bool) → is_shaken_in role.Sub (came_in past) ≡ x → subscription_end role.Sub past ≡ end_of (length opening) (subscription_to role.Sub (came_in past))
          → first_of (subscription_end role.Sub past) (end_of (length (due_in role.Sub past)) (subscription_to role.Sub (came_in past ++ piece)))
          ≡ end_of (length opening) (subscription_to role.Sub (came_in past ++ piece))
      by true e ih =
          let v = version (came_in past) e in
          let was = shaken_sub (came_in past) v.0 e v.1 in
          let now = shaken_sub (came_in past ++ piece) v.0 (w.stays role.Sub (came_in past) piece e) (w.newer (came_in past) piece v.0 v.1) in
          ap (λ o. first_of o (end_of (length (due_in role.Sub past)) (subscription_to role.Sub (came_in past ++ piece)))) (ih ∙ ap (end_of (length opening)) was)
          ∙ ap (λ s. first_of (end_of (length opening) (subscription_octets v.0)) (end_of (length (due_in role.Sub past)) s)) now
          ∙ first_ends (length opening) (length (due_in role.Sub past)) v.0
          ∙ ap (end_of (length opening)) (sym now)
      by false e ih =
          ap (λ o. first_of o (end_of (length (due_in role.Sub past)) (subscription_to role.Sub (came_in past ++ piece)))) (ih ∙ ap (end_of (length opening)) (unshaken_sub (came_in past) e))
          ∙ ap (λ n. end_of n (subscription_to role.Sub (came_in past ++ piece)))
          (ap length (due_is past m ∙ ap (λ v. opening ++ v) (unshaken_owes (came_in past) e) ∙ append-nil opening))

  taken_by : (newer : Bool) (taken : ℕ) → is_within (clip_place (end_of (length opening) (subscription_octets newer))) taken ≡ nat_le (length opening + length (subscription_octets newer)) taken
  unfolding unit_octets
  taken_by true taken = refl
  taken_by false taken = refl

  both : (x : Bool) (b : List ℕ) (taken : ℕ) → is_shaken_in role.Sub b ≡ x
      → (x && is_within (clip_place (end_of (length opening) (subscription_to role.Sub b))) taken) ≡ (x && nat_le (length opening + length (subscription_to role.Sub b)) taken)
  both true b taken e =
      let v = version b e in
      ap (λ s. is_within (clip_place (end_of (length opening) s)) taken) (shaken_sub b v.0 e v.1)
      ∙ taken_by v.0 taken
      ∙ ap (λ s. nat_le (length opening + length s) taken) (sym (shaken_sub b v.0 e v.1))
  both false b taken e = refl

  -- The kernel can be asked by our sides of the connections exactly where it can by the journal.
  pub asks_by_lines : (p : Plot) (ls : Lines) (shell iopub : List Queued) (now : List Entry) (a : OnLine (speaker p) (facts p) Shell (line_on ls Shell) shell now)
      (b : OnLine (speaker p) (facts p) Iopub (line_on ls Iopub) iopub now) → taken_of (line_on ls Iopub) ≡ length (bytes_put (facts p) Iopub now)
      → lines.can_ask ls a.past b.past ≡ can_ask (facts p) now
  unfolding can_ask is_shaken
  asks_by_lines p ls shell iopub now a b taken =
      let mute : Mute b.past = subst Mute (sym (ap (λ qs. gives (speaker p) qs b.past) (sym (none_on_iopub iopub)) ∙ b.is)) (mute_history (speaker p) (facts p) now) in
      let sub : List ℕ = bytes_got (facts p) Iopub now in
      ap (λ r. (is_shaken_in r (came_in a.past) && is_shaken_in (role_of ls.iopub) (came_in b.past)) && is_within (clip_place (subscription_end (role_of ls.iopub) b.past)) (taken_of ls.iopub)) a.role
      ∙ ap (λ r. (is_shaken_in role.Dealer (came_in a.past) && is_shaken_in r (came_in b.past)) && is_within (clip_place (subscription_end r b.past)) (taken_of ls.iopub)) b.role
      ∙ ap (λ o. (is_shaken_in role.Dealer (came_in a.past) && is_shaken_in role.Sub (came_in b.past)) && is_within (clip_place o) (taken_of ls.iopub)) (ends_is b.past mute)
      ∙ ap (λ v. (is_shaken_in role.Dealer v && is_shaken_in role.Sub (came_in b.past)) && is_within (clip_place (end_of (length opening) (subscription_to role.Sub (came_in b.past)))) (taken_of ls.iopub)) a.got
      ∙ ap (λ v. (is_shaken_in role.Dealer (bytes_got (facts p) Shell now) && is_shaken_in role.Sub v) && is_within (clip_place (end_of (length opening) (subscription_to role.Sub v))) (taken_of ls.iopub)) b.got
      ∙ ap (λ n. (is_shaken_in role.Dealer (bytes_got (facts p) Shell now) && is_shaken_in role.Sub sub) && is_within (clip_place (end_of (length opening) (subscription_to role.Sub sub))) n) taken
      ∙ and_assoc (is_shaken_in role.Dealer (bytes_got (facts p) Shell now)) (is_shaken_in role.Sub sub) _
      ∙ ap (λ x. is_shaken_in role.Dealer (bytes_got (facts p) Shell now) && x) (both (is_shaken_in role.Sub sub) sub (length (bytes_put (facts p) Iopub now)) refl)
      ∙ sym (and_assoc (is_shaken_in role.Dealer (bytes_got (facts p) Shell now)) (is_shaken_in role.Sub sub) _)
    where
      and_assoc : (x y z : Bool) → ((x && y) && z) ≡ (x && (y && z))
      and_assoc true y z = refl
      and_assoc false y z = refl
