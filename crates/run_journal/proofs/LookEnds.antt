-- What was told since the end of the last look, and what wasn't.
use Rattle.std.proofs.Common.{◌≡◌, ◌⊎◌, inl, inr, ℕ, List, [], ◌∷◌, ◌++◌, Bool, true, false, ◌&&◌, ◌||◌, not, cond, None, refl, sym, ◌∙◌, ap, subst, append_assoc}
use Rattle.std.specs.Prelude.{is_some, nat_lt}
use Rattle.std.proofs.lemmas.List.{append-nil}
use Rattle.std.proofs.lemmas.Bool.{and_parts, or_parts, cases_Bool, cond-true, cond-false, false_from_ne_true, not-true}
use Rattle.std.proofs.Math.Bool.{or-false}
use Rattle.world.specs.declared.entry.Entry.{Entry}
use Rattle.world.specs.Waits.{is_wait, has_wait, before_wait, moment_of}
use Rattle.cell_core.specs.declared.event.Event.{Event}
use Rattle.cell_core.specs.declared.event.Event.TheVariants as event
use Rattle.cell_core.specs.Events as events
use Rattle.run_journal.specs.Job.{Job}
use Rattle.run_journal.specs.Parts.{saves_of, is_acknowledging}
use Rattle.run_journal.specs.Looks.{is_look}
use Rattle.run_journal.specs.Due.{all_along}
use Rattle.run_journal.specs.Awake.{is_called_for, reads_clock}
use Rattle.run_journal.specs.Course.{begins_at, when_so, in_look, ends_look, is_late, events_at, Course, late_then, told_saved, course}
use Rattle.run_journal.specs.Agreement.{told_on, is_dated, draws, drawn_clock, starts_in_turn, KeepsRules}
use Rattle.run_journal.proofs.Flowing.{Tells, front, tell_front, rest_at, core_at, events_are, broken_at, turn_at, lost_at, look_at}
use Rattle.run_journal.proofs.Telling.{came_append, add_none, none_when, none_core, is_loss, loss_is}
use Rattle.run_journal.proofs.Sighting.{found_in, found_append, none_found, front_at, front_unlooked, finds, or_more}
use Rattle.run_journal.proofs.Dating.{Seen, seen, see, run, run_append, whole, clocks_at, late_undated}
use Rattle.run_journal.proofs.Dropping.{stops, Mute, tell_mute, stop_saved, held_none, dropped, none_dropped, whole_told}
use Rattle.run_journal.proofs.Running.{or_off, rules_before, RanAtWait, ran_before, start_parts}
use Rattle.run_journal.proofs.Turning.{quiet_entry, turn_none, drawn_then, clocks_none}
use Rattle.run_journal.proofs.Lapse.{Before, here, earlier, short_look, ends_from, new_or_old, IsNew, unlooked_kept}
use Rattle.run_journal.proofs.Showing.{run_found, run_queued}
use Rattle.run_journal.proofs.Truths.{not_both, head_same, tail_same}

-- ---- more events

-- more events were told, with acknowledgements between them
pub data Adds (told : List Event) : List Event → List Event → Type 0 where
  nothing : Adds told [] told
  one_more : {ys now : List Event} (x : Event) → Adds told ys now → Adds told (ys ++ x ∷ []) (x ∷ now)
  saved_more : {ys now : List Event} → Adds told ys now → Adds told ys (event.Saved ∷ now)

adds_on : {told ys now : List Event} (xs : List Event) → Adds told ys now → Adds told (ys ++ xs) (told_on xs now)
adds_on {told} {ys} {now} [] a = subst (λ v. Adds told v now) (sym (append-nil ys)) a
adds_on {told} {ys} {now} (x ∷ xs) a = subst (λ v. Adds told v (told_on xs (x ∷ now))) (append_assoc ys (x ∷ []) xs) (adds_on xs (one_more x a))

adds_saved : {told ys now : List Event} (b : Bool) → Adds told ys now → Adds told ys (cond b (event.Saved ∷ now) now)
adds_saved true a = saved_more a
adds_saved false a = a

-- what they make of the clock and of looks
pub adds_seen : (d : ℕ) {told ys now : List Event} → Adds told ys now → seen d now ≡ run d ys (seen d told)
adds_seen d nothing = refl
adds_seen d {told} (one_more {ys} {now} x a) = ap (see d x) (adds_seen d a) ∙ sym (run_append d ys (x ∷ []) (seen d told))
adds_seen d (saved_more a) = adds_seen d a

came_then : (a b c : Bool) → (c || (a || b)) ≡ ((a || (c || false)) || b)
came_then true b true = refl
came_then true b false = refl
came_then false b true = refl
came_then false b false = refl

looked_then : (a b c : Bool) → (c || (a || b)) ≡ (a || (b || (c || false)))
looked_then true b true = refl
looked_then true b false = refl
looked_then false true true = refl
looked_then false true false = refl
looked_then false false true = refl
looked_then false false false = refl

-- and of losses
adds_lost : {told ys now : List Event} → Adds told ys now → events.came is_loss now ≡ (events.came is_loss ys || events.came is_loss told)
adds_lost nothing = refl
adds_lost {told} (one_more {ys} {now} x a) =
    ap (λ b. is_loss x || b) (adds_lost a) ∙ came_then (events.came is_loss ys) (events.came is_loss told) (is_loss x)
    ∙ ap (λ b. b || events.came is_loss told) (sym (came_append is_loss ys (x ∷ [])))
adds_lost (saved_more a) = adds_lost a

pub adds_looked : {told ys now : List Event} → Adds told ys now → events.look_since events.is_lost now ≡ (events.look_since events.is_lost told || found_in (events.came is_loss told) ys)
adds_looked {told} nothing = sym (or-false (events.look_since events.is_lost told))
adds_looked {told} (one_more {ys} {now} x a) =
    let l : Bool = events.came is_loss told in
    ap (λ b. (events.is_looked x && b) || events.look_since events.is_lost now) (loss_is now ∙ adds_lost a)
    ∙ ap (λ b. (events.is_looked x && (events.came is_loss ys || l)) || b) (adds_looked a)
    ∙ looked_then (events.look_since events.is_lost told) (found_in l ys) (events.is_looked x && (events.came is_loss ys || l))
    ∙ ap (λ b. events.look_since events.is_lost told || b) (sym (found_append l ys (x ∷ [])))
adds_looked (saved_more a) = adds_looked a

-- ---- since a moment

-- what was told since then, and what wasn't, is what waited then and what the entries gave since
pub record Since (j : Job) (q past : List Entry) (gs : List Event) : Type 0 where
  pub ys : List Event
  pub adds : Adds (course j q).told ys (course j past).told
  pub flow : ys ++ ((course j past).held ++ dropped j past) ≡ (course j q).held ++ gs

since_first : (j : Job) (q : List Entry) → dropped j q ≡ [] → Since j q q []
since_first j q e = record { ys = []; adds = nothing; flow = ap (λ ds. (course j q).held ++ ds) e }

module _ (j : Job) (q : List Entry) (entry : Entry) (past : List Entry) (gs : List Event) (s : Since j q past gs) where
  abbrev c : Course
  c = course j past

  abbrev now : Course
  now = course j (entry ∷ past)

  abbrev es : List Event
  es = events_at j entry past c.late

  -- what there is now, of what there was
  all_then : (s.ys ++ (c.held ++ dropped j past)) ++ es ≡ (course j q).held ++ (gs ++ es)
  all_then = ap (λ v. v ++ es) s.flow ∙ append_assoc (course j q).held gs es

  since_stopped : stops j c.told ≡ true → Since j q (entry ∷ past) (gs ++ es)
  since_stopped h = record {
    ys = s.ys;
    adds = subst (Adds (course j q).told s.ys) (sym m.told_is) (adds_saved (is_acknowledging j (entry ∷ past)) s.adds);
    flow = ap (λ hs. s.ys ++ (hs ++ (dropped j past ++ now.unheard))) m.none_held
        ∙ ap (λ ds. s.ys ++ (dropped j past ++ ds)) (m.all_dropped ∙ ap (λ hs. hs ++ es) none)
        ∙ sym (append_assoc s.ys (dropped j past) es)
        ∙ ap (λ hs. (s.ys ++ (hs ++ dropped j past)) ++ es) (sym none)
        ∙ all_then;
  }
    where
      none : c.held ≡ []
      none = held_none j past h

      m : Mute j (told_saved j entry past c.told) (c.held ++ es) now
      m = tell_mute j (told_saved j entry past c.told) (late_then j entry past c.late) (c.held ++ es) (stop_saved j c.told (is_acknowledging j (entry ∷ past)) h)

  since_open : stops j c.told ≡ false → Since j q (entry ∷ past) (gs ++ es)
  since_open h = by (tell_front j (told_saved j entry past c.told) (late_then j entry past c.late) (c.held ++ es))
    where
      none : dropped j past ≡ []
      none = none_dropped j past h

      by : Tells j (told_saved j entry past c.told) (c.held ++ es) now → Since j q (entry ∷ past) (gs ++ es)
      by (front xs f g) = record {
        ys = s.ys ++ xs;
        adds = subst (Adds (course j q).told (s.ys ++ xs)) (sym g) (adds_on xs (adds_saved (is_acknowledging j (entry ∷ past)) s.adds));
        flow = ap (λ ds. (s.ys ++ xs) ++ (now.held ++ (ds ++ now.unheard))) none
            ∙ append_assoc s.ys xs (now.held ++ now.unheard)
            ∙ ap (λ v. s.ys ++ v) f
            ∙ sym (append_assoc s.ys c.held es)
            ∙ ap (λ v. (s.ys ++ v) ++ es) (sym (append-nil c.held) ∙ ap (λ ds. c.held ++ ds) (sym none))
            ∙ all_then;
      }

  since_next : Since j q (entry ∷ past) (gs ++ es)
  since_next = elim (cases_Bool (stops j c.told)) [
    | inl h ↦ since_stopped h
    | inr h ↦ since_open h
  ]

-- ---- the end of the last look

-- The look's end came with an entry after this journal; before it and after it no other look ended, and the clock wasn't read.
pub record LookEnd (j : Job) (past : List Entry) : Type 0 where
  pub q : List Entry
  pub entry : Entry
  pub ends : ends_look j entry q ≡ true
  pub before : Before (entry ∷ q) past
  pub pre : List Event
  pub post : List Event
  pub unlooked : events.came events.is_looked pre ≡ false
  pub undated : events.came is_dated post ≡ false
  pub flow : stops j (course j q).told ≡ false → Since j q past (pre ++ event.Looked ∷ post)

module _ (j : Job) (entry : Entry) (past : List Entry) where
  abbrev late_es : List Event
  late_es = (course j past).late ++ when_so (is_late j entry past) event.Lost

  new_end : ends_look j entry past ≡ true → LookEnd j (entry ∷ past)
  new_end e = record {
    q = past;
    entry = entry;
    ends = e;
    before = here;
    pre = core_at j entry past ++ front_at j entry past;
    post = late_es;
    unlooked = add_none events.is_looked (core_at j entry past) (front_at j entry past) false (none_core events.is_looked j entry past (λ b. refl) (λ f. refl) refl) (front_unlooked j entry past);
    undated = add_none is_dated (course j past).late _ false (late_undated j past) (none_when is_dated (is_late j entry past) event.Lost refl);
    flow = λ h. subst (Since j past (entry ∷ past)) all (since_next j past entry past [] (since_first j past (none_dropped j past h)));
  }
    where
      all : events_at j entry past (course j past).late ≡ (core_at j entry past ++ front_at j entry past) ++ event.Looked ∷ late_es
      all =
          events_are j entry past (course j past).late
          ∙ sym (append_assoc (core_at j entry past) (front_at j entry past) (look_at j entry past (course j past).late))
          ∙ ap (λ v. (core_at j entry past ++ front_at j entry past) ++ v) (cond-true (ends_look j entry past) (event.Looked ∷ late_es) [] e)

  -- an entry that gives nothing of the clock or of looks
  old_end : events.came is_dated (events_at j entry past (course j past).late) ≡ false → LookEnd j past → LookEnd j (entry ∷ past)
  old_end e i = record {
    q = i.q;
    entry = i.entry;
    ends = i.ends;
    before = earlier entry i.before;
    pre = i.pre;
    post = i.post ++ events_at j entry past (course j past).late;
    unlooked = i.unlooked;
    undated = add_none is_dated i.post _ false i.undated e;
    flow = λ h. subst (Since j i.q (entry ∷ past)) (append_assoc i.pre (event.Looked ∷ i.post) (events_at j entry past (course j past).late))
        (since_next j i.q entry past (i.pre ++ event.Looked ∷ i.post) (i.flow h));
  }

module _ (jobs : List Job) (j : Job) where
  module _ (entry : Entry) (past : List Entry) (k : KeepsRules jobs j (entry ∷ past)) (h : RanAtWait j (entry ∷ past)) where
    -- after the end of a look, and before the next wait, no entry gives anything of the clock or of looks
    quiet_then : is_wait entry ≡ false → is_look j past ≡ true → has_wait past ≡ true → is_called_for j (before_wait past) ≡ true → events.came is_dated (events_at j entry past (course j past).late) ≡ false
    quiet_then w l waited called =
        ap (events.came is_dated) (events_are j entry past (course j past).late)
        ∙ add_none is_dated (core_at j entry past) (rest_at j entry past (course j past).late) false (none_core is_dated j entry past (λ b. refl) (λ f. refl) refl)
        (add_none is_dated (((broken_at j entry past ++ begins_at j entry past) ++ turn_at j entry past) ++ lost_at j entry past) (look_at j entry past (course j past).late) false
        (add_none is_dated ((broken_at j entry past ++ begins_at j entry past) ++ turn_at j entry past) (lost_at j entry past) false
        (add_none is_dated (broken_at j entry past ++ begins_at j entry past) (turn_at j entry past) false
        (add_none is_dated (broken_at j entry past) (begins_at j entry past) false (none_when is_dated _ event.Broken refl) parts.0) parts.1)
        (none_when is_dated _ event.Lost refl))
        (ap (events.came is_dated) (cond-false (ends_look j entry past) _ [] open_)))
      where
        was_not : draws j entry ≡ true → is_some (drawn_clock j past) ≡ false
        was_not e =
            not-true (is_some (drawn_clock j past))
            (and_parts (not (is_some (drawn_clock j past))) (nat_lt 0 (saves_of j past))
            (or_off (draws j entry) _ (start_parts j entry past (and_parts (starts_in_turn j (entry ∷ past)) (all_along (starts_in_turn j) past) k.start).0).0 e)).0

        undrawn : draws j entry ≡ false
        undrawn = false_from_ne_true (draws j entry) (λ e. not_both (is_some (drawn_clock j past)) (drawn_then 0 jobs j entry past k h waited) (was_not e))

        still : moment_of entry ≡ None
        still = quiet_entry jobs j entry past k.among (and_parts (reads_clock jobs (entry ∷ past)) (all_along (reads_clock jobs) past) k.awake.clock).0 waited called (short_look j past l)

        none : clocks_at j entry past ≡ []
        none = clocks_none 0 jobs j entry past k h undrawn (turn_none entry past still)

        parts : (events.came is_dated (begins_at j entry past) ≡ false) × (events.came is_dated (turn_at j entry past) ≡ false)
        parts = or_parts (events.came is_dated (begins_at j entry past)) (events.came is_dated (turn_at j entry past)) (sym (came_append is_dated (begins_at j entry past) (turn_at j entry past)) ∙ ap (events.came is_dated) none)

        open_ : ends_look j entry past ≡ false
        open_ = off (in_look j (entry ∷ past) && is_look j (entry ∷ past)) (is_wait entry) (is_look j past) w l
          where
            off : (x y z : Bool) → y ≡ false → z ≡ true → (x && (y || not z)) ≡ false
            off true false true e f = refl
            off false y z e f = refl
            off x true z e f = cc
            off x false false e f = cc

  pub look_end : (past : List Entry) → KeepsRules jobs j past → RanAtWait j past → has_wait past ≡ true → is_called_for j (before_wait past) ≡ true → is_look j past ≡ true → LookEnd j past
  look_end [] k h w c l = cc
  look_end (entry ∷ past) k h w c l = by (λ x y z. look_end past (rules_before jobs j entry past k) (ran_before jobs j entry past k h) x y z) (new_or_old 0 jobs j entry past)
    where
      by : (has_wait past ≡ true → is_called_for j (before_wait past) ≡ true → is_look j past ≡ true → LookEnd j past) → IsNew 0 jobs j entry past → LookEnd j (entry ∷ past)
      by ih (inl n) = new_end j entry past (ends_from j entry past w c l n)
      by ih (inr o) =
          let waited : has_wait past ≡ true = ap (λ v. v || has_wait past) (sym o.0) ∙ w in
          let called : is_called_for j (before_wait past) ≡ true = ap (is_called_for j) (sym (cond-false (is_wait entry) past (before_wait past) o.0)) ∙ c in
          old_end j entry past (quiet_then entry past k h o.0 o.1 waited called) (ih waited called o.1)

-- ---- where that look was told, and where it wasn't

-- one list cut in two ways, the one before an item
pub cut_at : (ys us as_ : List Event) (x : Event) (post : List Event) → ys ++ us ≡ as_ ++ x ∷ post → ((ds : List Event) × (as_ ≡ ys ++ ds)) ⊎ ((ds : List Event) × (post ≡ ds ++ us))
cut_at [] us as_ x post e = inl (as_, refl)
cut_at (y ∷ ys) us [] x post e = inr (ys, sym (tail_same e))
cut_at (y ∷ ys) us (a ∷ as_) x post e = elim (cut_at ys us as_ x post (tail_same e)) [
  | inl f ↦ inl (f.0, ap (λ v. a ∷ v) f.1 ∙ ap (λ v. v ∷ (ys ++ f.0)) (sym (head_same e)))
  | inr f ↦ inr f
]

-- what was told stands before the look's end
module _ (j : Job) (q past : List Entry) (pre post ds : List Event) (open_ : stops j (course j q).told ≡ false) (un : events.came events.is_looked pre ≡ false) (s : Since j q past (pre ++ event.Looked ∷ post))
    (e : (course j q).held ++ pre ≡ s.ys ++ ds) where
  module _ (d : ℕ) where
    at_wait : whole d j q ≡ run d (course j q).held (seen d (course j q).told)
    at_wait =
        whole_told j d q ∙ ap (λ v. run d ((course j q).held ++ v) (seen d (course j q).told)) (none_dropped j q open_)
        ∙ ap (λ v. run d v (seen d (course j q).told)) (append-nil (course j q).held)

    all_of : run d ds (seen d (course j past).told) ≡ run d pre (whole d j q)
    all_of =
        ap (run d ds) (adds_seen d s.adds) ∙ sym (run_append d s.ys ds (seen d (course j q).told)) ∙ ap (λ v. run d v (seen d (course j q).told)) (sym e)
        ∙ run_append d (course j q).held pre (seen d (course j q).told) ∙ ap (run d pre) (sym at_wait)

    pub found_then : (seen d (course j past).told).found ≡ true → (whole d j q).found ≡ true
    found_then f =
        sym (unlooked_kept d pre (whole d j q) un).0 ∙ ap (λ (v : Seen). v.found) (sym all_of) ∙ run_found d ds (seen d (course j past).told) f

    pub queued_then : (seen d (course j past).told).queued ≡ true → (whole d j q).queued ≡ true
    queued_then f =
        sym (unlooked_kept d pre (whole d j q) un).1 ∙ ap (λ (v : Seen). v.queued) (sym all_of) ∙ run_queued d ds (seen d (course j past).told) f

  pub lost_then : events.look_since events.is_lost (course j past).told ≡ true → finds (course j q) ≡ true
  lost_then f =
      let l : Bool = events.came is_loss (course j q).told in
      ap (λ b. events.look_since events.is_lost (course j q).told || b)
      (sym (or-false (found_in l (course j q).held)) ∙ ap (λ b. found_in l (course j q).held || b) (sym (none_found (events.came is_loss (course j q).held || l) pre un))
      ∙ sym (found_append l (course j q).held pre) ∙ ap (found_in l) e ∙ found_append l s.ys ds)
      ∙ or_more (events.look_since events.is_lost (course j q).told) (found_in l s.ys) (found_in (events.came is_loss s.ys || l) ds) (sym (adds_looked s.adds) ∙ f)
