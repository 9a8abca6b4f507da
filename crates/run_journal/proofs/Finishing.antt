-- By the loop's rules each look at a job that runs is over before the next wait.
use Rattle.std.proofs.Common.{◌≡◌, ◌⊎◌, inl, inr, ◌+◌, ◌*◌, List, [], ◌∷◌, ◌++◌, Bool, true, false, ◌&&◌, ◌||◌, not, cond, refl, sym, ◌∙◌, ap, arith}
use Rattle.std.specs.Prelude.{◌==◌}
use Rattle.std.specs.List.{list_any, list_all}
use Rattle.std.proofs.lemmas.Bool.{and_parts, or_parts, and_from, cond-false, cases_Bool, eqb-true, eq-eqb, not-true}
use Rattle.std.proofs.Math.Bool.{or-true}
use Rattle.world.specs.declared.chan.Chan.{Chan}
use Rattle.world.specs.declared.chan.Chan.TheVariants.{Shell, Control, Iopub, Heart}
use Rattle.world.specs.declared.did.Did.TheVariants as did
use Rattle.world.specs.declared.entry.Entry.{Entry}
use Rattle.world.specs.declared.entry.Entry.TheVariants as made
use Rattle.world.specs.Places.{chan_number}
use Rattle.world.specs.Waits.{is_wait, has_wait, before_wait, to_wait, since_wait}
use Rattle.world.specs.Jobs.{closes}
use Rattle.world.proofs.StatusLemmas.{chan_below}
use Rattle.cell_core.specs.declared.event.Event.{Event}
use Rattle.cell_core.specs.declared.event.Event.TheVariants as event
use Rattle.cell_core.specs.Acts.{is_empty_list}
use Rattle.run_journal.specs.Job.{Job}
use Rattle.run_journal.specs.Parts.{channels, connection, is_shut}
use Rattle.run_journal.specs.Looks.{is_short_wait, is_drained, is_read_through, is_look, shows_lost}
use Rattle.run_journal.specs.Due.{all_along}
use Rattle.run_journal.specs.Awake.{implies, is_awake, is_closed, is_called_for, is_look_due, reads_all, looks_once}
use Rattle.run_journal.specs.Course.{when_so, in_look, ends_look, is_late, tell, late_then, told_saved, course}
use Rattle.run_journal.specs.Agreement.{IsAmong, EndsLooks, ends_looks, KeepsRules, is_done_wait, waits_on}
use Rattle.run_journal.proofs.Flowing.{tell_by}
use Rattle.run_journal.proofs.Finding.{wait_shows_none}
use Rattle.run_journal.proofs.Running.{or_off, any_of, rules_before, running_parts, RanAtWait, ran_before, runs_at_wait}
use Rattle.run_journal.proofs.Rereading.{each_one}
use Rattle.run_journal.proofs.Truths.{not_both}

-- ---- a wait of a look that another wait follows

-- it had limit 0 and was done
short_wait : (jobs : List Job) (j : Job) (past : List Entry) → IsAmong j jobs → all_along (looks_once jobs) past ≡ true → has_wait past ≡ true → is_done_wait (to_wait past) ≡ true → is_called_for j (before_wait past) ≡ true
    → is_short_wait (to_wait past) ≡ true
short_wait jobs j [] m e w d c = cc
short_wait jobs j (made.Waited ms reports did.Done ∷ past) m e w d c =
    off (is_look_due jobs past) (ms == 0) (and_parts (implies (is_look_due jobs past) (ms == 0)) _ (and_parts (looks_once jobs (made.Waited ms reports did.Done ∷ past)) (all_along (looks_once jobs) past) e).0).0
    (any_of (λ i. is_called_for i past) jobs j m c)
  where
    off : (x y : Bool) → implies x y ≡ true → x ≡ true → y ≡ true
    off true y f g = f
    off false y f g = cc
short_wait jobs j (made.Waited ms reports did.Failed ∷ past) m e w d c = cc
short_wait jobs j (entry ∷ past) m e w d c = short_wait jobs j past m (and_parts (looks_once jobs (entry ∷ past)) (all_along (looks_once jobs) past) e).1 w d c

-- a close of one of its connections is one of the job's
closes_job : (j : Job) (c : Chan) (entry : Entry) → is_closed j c entry ≡ true → closes j.number entry ≡ true
closes_job j c (made.Closed conn) e =
    let n = chan_below c in
    let m = chan_below conn.chan in
    let g = eqb-true (4 * j.number + chan_number c) (4 * conn.job + chan_number conn.chan) e in
    eq-eqb conn.job j.number (omega (arith, n, m, g))
closes_job j c _ e = cc

unclosed : (j : Job) (c : Chan) (past : List Entry) → is_shut j past ≡ false → list_any (is_closed j c) (since_wait past) ≡ false
unclosed j c [] e = refl
unclosed j c (entry ∷ past) e = by (unclosed j c past p.1) (is_wait entry)
  where
    p : (closes j.number entry ≡ false) × (is_shut j past ≡ false)
    p = or_parts (closes j.number entry) (is_shut j past) e

    none : (b : Bool) → is_closed j c entry ≡ b → b ≡ false
    none true f = absurd (not_both (closes j.number entry) (closes_job j c entry f) p.0)
    none false f = refl

    by : list_any (is_closed j c) (since_wait past) ≡ false → (b : Bool) → list_any (is_closed j c) (cond b [] (entry ∷ since_wait past)) ≡ false
    by ih true = refl
    by ih false = ap (λ x. x || list_any (is_closed j c) (since_wait past)) (none (is_closed j c entry) refl) ∙ ih

-- all was read that was awake then
read_through : (jobs : List Job) (j : Job) (entry : Entry) (past : List Entry) → IsAmong j jobs → is_wait entry ≡ true → reads_all jobs (entry ∷ past) ≡ true → is_shut j past ≡ false → is_read_through j past ≡ true
read_through jobs j (made.Waited ms reports how) past m w e s = all_channels (λ c. not (connection j c (to_wait past)).awake || is_drained j c past) by
  where
    off : (x y z : Bool) → implies x (y || z) ≡ true → z ≡ false → (not x || y) ≡ true
    off true true z f g = refl
    off true false true f g = cc
    off true false false f g = cc
    off false y z f g = refl

    by : (c : Chan) → (not (connection j c (to_wait past)).awake || is_drained j c past) ≡ true
    by c =
        off (connection j c (to_wait past)).awake (is_drained j c past) (list_any (is_closed j c) (since_wait past))
        (each_one (λ i d. implies (is_awake (to_wait past) i d) (is_drained i d past || list_any (is_closed i d) (since_wait past))) jobs j m e c) (unclosed j c past s)

    all_channels : (test : Chan → Bool) → ((c : Chan) → test c ≡ true) → list_all test channels ≡ true
    all_channels test f = and_from (test Shell) _ (f Shell) (and_from (test Control) _ (f Control) (and_from (test Iopub) _ (f Iopub) (and_from (test Heart) true (f Heart) refl)))
read_through jobs j _ past m w e s = cc

looked_from : (j : Job) (past : List Entry) → is_short_wait (to_wait past) ≡ true → is_read_through j past ≡ true → is_look j past ≡ true
unfolding is_look
looked_from j past e f = and_from (is_short_wait (to_wait past)) (is_read_through j past) e f

-- ---- what waits for a look

-- a look is called for, and isn't over
abbrev IsOpen : Job → List Entry → Type 0
IsOpen j past = is_empty_list (course j past).late ≡ false → (in_look j past ≡ true) × (is_look j past ≡ false)

late_left : (j : Job) (told late es : List Event) → is_empty_list (tell j told late es).late ≡ false → is_empty_list late ≡ false
late_left j told late [] e = e
late_left j told late (x ∷ es) e = tell_by (λ c. is_empty_list c.late ≡ false → is_empty_list late ≡ false) j told late x es (λ h f. cc) (λ f. f) (late_left j (x ∷ told) late es) e

both_empty : (late : List Event) (b : Bool) → is_empty_list (late ++ when_so b event.Lost) ≡ false → (is_empty_list late ≡ false) ⊎ (b ≡ true)
both_empty [] true e = inr refl
both_empty [] false e = cc
both_empty (x ∷ late) b e = inl refl

module _ (jobs : List Job) (j : Job) (entry : Entry) (past : List Entry) (k : KeepsRules jobs j (entry ∷ past)) (h : RanAtWait j (entry ∷ past)) (w : waits_on (entry ∷ past) ≡ true) (i : IsOpen j past) where
  -- at a wait nothing does
  on_time : is_wait entry ≡ true → is_empty_list (course j past).late ≡ true
  on_time f = by (cases_Bool (is_empty_list (course j past).late))
    where
      by : (is_empty_list (course j past).late ≡ true) ⊎ (is_empty_list (course j past).late ≡ false) → is_empty_list (course j past).late ≡ true
      by (inl g) = g
      by (inr g) =
          let p = i g in
          let q = and_parts (has_wait past) (is_called_for j (before_wait past)) p.0 in
          let done = or_off (is_wait entry && has_wait past) (is_done_wait (to_wait past)) w (and_from (is_wait entry) (has_wait past) f q.0) in
          absurd (not_both (is_look j past)
          (looked_from j past
          (short_wait jobs j past k.among (rules_before jobs j entry past k).awake.looks q.0 done q.1)
          (read_through jobs j entry past k.among f (and_parts (reads_all jobs (entry ∷ past)) (all_along (reads_all jobs) past) k.awake.reads_each).0 (running_parts j past (runs_at_wait jobs j entry past k h f)).1)) p.1)

  open_next : IsOpen j (entry ∷ past)
  open_next e = by (ends_look j entry past) refl (late_left j (told_saved j entry past (course j past).told) (late_then j entry past (course j past).late) _ e)
    where
      goes : ends_look j entry past ≡ false → is_wait entry ≡ false → in_look j past ≡ true → is_look j past ≡ false → (in_look j (entry ∷ past) ≡ true) × (is_look j (entry ∷ past) ≡ false)
      goes f g l o =
          let now : in_look j (entry ∷ past) ≡ true = ap (λ b. (b || has_wait past) && is_called_for j (before_wait (entry ∷ past))) g ∙ ap (λ at. has_wait past && is_called_for j at) (cond-false (is_wait entry) past (before_wait past) g) ∙ l in
          (now, over (in_look j (entry ∷ past)) (is_look j (entry ∷ past)) (is_wait entry) (is_look j past) f now o)
        where
          over : (a b x y : Bool) → ((a && b) && (x || not y)) ≡ false → a ≡ true → y ≡ false → b ≡ false
          over true true x false f g l = absurd (not_both true refl (sym (or-true x) ∙ f))
          over true true x true f g l = cc
          over true false x y f g l = refl
          over false b x y f g l = cc

      unwaited : (b : Bool) → is_wait entry ≡ b → (is_wait entry ≡ true → ⊥) → is_wait entry ≡ false
      unwaited true f g = absurd (g f)
      unwaited false f g = f

      one : ends_look j entry past ≡ false → (is_empty_list (course j past).late ≡ false) ⊎ (is_late j entry past ≡ true) → (in_look j (entry ∷ past) ≡ true) × (is_look j (entry ∷ past) ≡ false)
      one f (inl g) = let p = i g in goes f (unwaited (is_wait entry) refl (λ x. not_both (is_empty_list (course j past).late) (on_time x) g)) p.0 p.1
      one f (inr g) =
          let p = and_parts (shows_lost j (entry ∷ past) && in_look j past) (not (is_look j past)) g in
          let q = and_parts (shows_lost j (entry ∷ past)) (in_look j past) p.0 in
          goes f (unwaited (is_wait entry) refl (λ x. not_both (shows_lost j (entry ∷ past)) q.0 (wait_shows_none j entry past x))) q.1 (not-true (is_look j past) p.1)

      by : (b : Bool) → ends_look j entry past ≡ b → is_empty_list (cond b [] ((course j past).late ++ when_so (is_late j entry past) event.Lost)) ≡ false → (in_look j (entry ∷ past) ≡ true) × (is_look j (entry ∷ past) ≡ false)
      by true f g = cc
      by false f g = one f (both_empty (course j past).late (is_late j entry past) g)

all_open : (jobs : List Job) (j : Job) (past : List Entry) → KeepsRules jobs j past → RanAtWait j past → all_along waits_on past ≡ true → IsOpen j past × EndsLooks j past
all_open jobs j [] k h w = ((λ e. cc), refl)
all_open jobs j (entry ∷ past) k h w =
    let p = and_parts (waits_on (entry ∷ past)) (all_along waits_on past) w in
    let i = all_open jobs j past (rules_before jobs j entry past k) (ran_before jobs j entry past k h) p.1 in (
      open_next jobs j entry past k h p.0 i.0,
      and_from (ends_looks j (entry ∷ past)) (all_along (ends_looks j) past) (by (is_wait entry) refl i.0 p.0) i.1,
    )
  where
    by : (b : Bool) → is_wait entry ≡ b → IsOpen j past → waits_on (entry ∷ past) ≡ true → (not b || is_empty_list (course j past).late) ≡ true
    by true f i w = on_time jobs j entry past k h w i f
    by false f i w = refl

pub looks_end : (jobs : List Job) (j : Job) (past : List Entry) → KeepsRules jobs j past → RanAtWait j past → all_along waits_on past ≡ true → EndsLooks j past
looks_end jobs j past k h w = (all_open jobs j past k h w).1
