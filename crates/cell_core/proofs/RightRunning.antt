-- Each move while a request stands keeps the relation, and its answer is the definitions'.
use Rattle.std.proofs.Common.{◌≡◌, ℕ, ◌+◌, ◌<◌, ◌≤◌, List, ◌∷◌, Bool, true, false, not, ◌&&◌, ◌||◌, if◌then◌else◌, Option, Some, None, is_some, is_none, refl, sym, ap, subst, ◌∙◌, true≢false, arith, inl, inr, nat_le}
use Rattle.std.proofs.lemmas.Bool.{and_from, and_left, and_right, cases_Bool, or_right, or_parts, or_from}
use Rattle.cell_core.specs.declared.event.Event.{Event}
use Rattle.cell_core.specs.declared.event.Event.TheVariants.{Saved, Ready, Io, Reply, Moment, Looked, Lost, Broken}
use Rattle.cell_core.specs.declared.brief.Brief.{Brief}
use Rattle.cell_core.specs.declared.brief.Brief.TheVariants.{Idle, Else}
use Rattle.cell_core.specs.declared.why.Why.{Why}
use Rattle.cell_core.specs.declared.why.Why.TheVariants.{CellError, KernelLost, TimedOut, NoIdle, BadPeer}
use Rattle.cell_core.specs.declared.act.Act.{Act}
use Rattle.cell_core.specs.declared.act.Act.TheVariants.{Nothing, Look, Interrupt}
use Rattle.cell_core.specs.Task.{Task}
use Rattle.cell_core.specs.Events.{is_moment, is_looked, is_turn_at, ever, since, time, is_saved, is_broken, is_lost, came, look_since}
use Rattle.cell_core.specs.Requests.{has_idle, own, reply, is_over, is_fatal, is_passed, after, Standing, standing}
use Rattle.cell_core.specs.Saves.{is_stop}
use Rattle.cell_core.specs.Acts.{due_at, is_late, is_queued_now, calls_for_look, answers, is_used}
use Rattle.cell_core.specs.declared.clock.Clock.{Clock}
use Rattle.cell_core.specs.declared.clock.Clock.TheVariants.{Unread, Started, Turned}
use Rattle.cell_core.specs.Holds.{running_state, now_of, is_read, is_turned, is_past, read_again, clock_after, lost_after}
use Rattle.cell_core.specs.Deadlines.{entry_and_more, deadline, first_deadline, second_deadline, by_limit, looked_by, passed_by, is_queued, queues, is_first_look, is_unanswered}
use Rattle.cell_core.specs.Moves.{move, stays, ends, fails, look_or, late, in_running}
use Rattle.cell_core.specs.StandsFor.{Hears, Stands, Fails, IsAsked, IsRunning}
use Rattle.cell_core.proofs.Requests.{standing_is}
use Rattle.cell_core.proofs.SavesLemmas.{at, over_not_passed, unacked_fails, unacked_more, fatal_not_passed}
use Rattle.cell_core.proofs.Causes.{queued_by, is_interruptible, late_is}
use Rattle.cell_core.proofs.Lists.{own_stays, reply_stays, since_some}
use Rattle.cell_core.proofs.Clocks.{looked_none, since_unheld, since_held, past_is, ahead, Rises, hears_more, time_at, deadline_replied, deadline_unreplied, replied_now, unlooked_queues, asked_more, asked_unheld, queued_unheld, deadline_stays}
use Rattle.cell_core.proofs.Right.{Right, act_saves, act_on, stands_more, used_is, unlooked_by}

-- where the reply is there, the idle isn't
pub idle_before : (fatal : Option Bool) (idle : Bool) (later : List Event) → reply later ≡ fatal → has_idle (own later) ≡ idle → is_over later ≡ false → is_some fatal ≡ true → has_idle (own later) ≡ false
idle_before fatal idle later r i on some = (let rest : (is_some (reply later) && has_idle (own later)) ≡ false = on in let there : is_some (reply later) ≡ true = ap is_some r ∙ some in rw there at rest)

pub idle_after : (fatal : Option Bool) (idle : Bool) (later : List Event) → has_idle (own later) ≡ idle → (is_some fatal && idle) ≡ false → is_some fatal ≡ true → has_idle (own later) ≡ false
idle_after (Some f) idle later i o some = i ∙ o
idle_after None idle later i o some = absurd (true≢false (sym some))

-- An event that is no look, clock entry or acknowledgement, and leaves the deadline as it is.
pub still_runs : {task : Task} {clock : Clock} {lost : Bool} {k : ℕ} {fatal : Option Bool} {idle : Bool} {due : Option ℕ} {interrupted : Bool} {past : List Event} (event : Event) (idle' : Bool)
    → (a : IsRunning task clock lost k fatal idle due interrupted past) → is_saved event ≡ false → is_moment event ≡ false → is_looked event ≡ false → is_broken event ≡ false → Rises event past
    → reply (event ∷ a.later) ≡ fatal → has_idle (own (event ∷ a.later)) ≡ idle' → (is_some fatal && idle') ≡ false
    → IsRunning task (clock_after clock event) (lost_after lost event) k fatal idle' due interrupted (event ∷ past)
still_runs {task} {clock} {lost} {k} {fatal} {idle} {due} {interrupted} {past} event idle' a h m l b rises r i o =
    record {
      later = event ∷ a.later;
      stands = stands_more a.stands event h;
      replied = r;
      idled = i;
      on = rw (r, i) o;
      hears = hears_more a.hears event rises (λ e. absurd (true≢false (sym e ∙ l))) b;
      until = deadline_stays task k fatal interrupted event a.later past a.replied r (idle_before fatal idle a.later a.replied a.idled a.on) (idle_after fatal idle' (event ∷ a.later) i o) a.asked
          (λ n first f on. unlooked_queues task k first interrupted event past l (a.asked n first f on)) ∙ a.until;
      calm = unlooked_by due event past l a.calm;
      asked = λ n first f on. asked_more task k first interrupted event past m l (a.asked n first f on);
    }

pub runs_right : {task : Task} {clock : Clock} {lost : Bool} {k : ℕ} {fatal : Option Bool} {idle : Bool} {due : Option ℕ} {interrupted : Bool} {later past : List Event} (event : Event) (takes : Bool) (act : Act) {b : ℕ}
    → Stands task k later b past → is_saved event ≡ false → IsRunning task (clock_after clock event) (lost_after lost event) k fatal idle due interrupted (event ∷ past) → answers task (Some (at k (event ∷ later))) (event ∷ past) ≡ act
    → takes ≡ is_used event (Some (at k later)) → Right task clock lost (move (running_state k fatal idle due interrupted) takes act) event past
runs_right event takes act s h a e t = record { stands = a; act = sym (act_on a (stands_more s event h) ∙ e); takes = t ∙ sym (used_is s event) }

-- the message by which request k is over
pub ends_right : {task : Task} {clock : Clock} {lost : Bool} {k : ℕ} {later past : List Event} (event : Event) (fatal : Bool) → Stands task k later (k + 1) past → Hears clock lost past → Rises event past
    → is_saved event ≡ false → is_looked event ≡ false → is_broken event ≡ false → reply (event ∷ later) ≡ Some fatal → has_idle (own (event ∷ later)) ≡ true
    → true ≡ is_used event (Some (at k later)) → Right task clock lost (ends task k fatal) event past
ends_right {task} {clock} {lost} {k} {later} {past} event true s hears rises h l b r i t =
    let no_pass : is_passed (event ∷ later) ≡ false = fatal_not_passed (event ∷ later) (rw r refl) in
    let f : Fails task k (event ∷ later) CellError (event ∷ past) = record { not_passed = no_pass; cause = rw (r, i) refl; stops = refl } in
    record {
      stands = record { later = event ∷ later; stands = stands_more s event h; fails = f };
      act = sym (act_saves task (event ∷ past) _ _ (unacked_fails (stands_more s event h) f));
      takes = t ∙ sym (used_is s event);
    }
ends_right {task} {clock} {lost} {k} {later} {past} event false s hears rises h l b r i t =
    let p : is_passed (event ∷ later) ≡ true = rw (r, i) refl in
    record {
      stands = record { later = event ∷ later; stands = stands_more s event h; passed = p; hears = hears_more hears event rises (λ e. absurd (true≢false (sym e ∙ l))) b };
      act = sym (act_saves task (event ∷ past) _ _ (unacked_more (stands_more s event h) p));
      takes = t ∙ sym (used_is s event);
    }

-- an event that stops the job while request k stands
pub fails_right : {task : Task} {clock : Clock} {lost : Bool} {k : ℕ} {later past : List Event} (event : Event) (w : Why) → Stands task k later (k + 1) past → is_saved event ≡ false
    → Fails task k (event ∷ later) w (event ∷ past) → false ≡ is_used event (Some (at k later)) → Right task clock lost (fails task k w) event past
fails_right {task} {clock} {lost} {k} {later} {past} event w s h f t =
    record {
      stands = record { later = event ∷ later; stands = stands_more s event h; fails = f };
      act = sym (act_saves task (event ∷ past) _ _ (unacked_fails (stands_more s event h) f));
      takes = t ∙ sym (used_is s event);
    }

pub own_more : (message : Brief) (later : List Event) → has_idle (own later) ≡ false → own (Io message ∷ later) ≡ message ∷ own later
own_more message later h = ap (λ (b : Bool). if b then own later else message ∷ own later) h

pub reply_more : (fatal : Bool) (later : List Event) → reply later ≡ None → reply (Reply fatal ∷ later) ≡ Some fatal
reply_more fatal later h = ap (λ (v : Option Bool). if is_some v then v else Some fatal) h

-- a deadline ahead was not looked at
pub calm_ahead : {clock : Clock} {lost : Bool} {past : List Event} → Hears clock lost past → (t : ℕ) → time past < t → looked_by (Some t) past ≡ false
calm_ahead {clock} {lost} {past} h t lt = looked_none (is_turn_at t) past (ahead h t lt)

-- the reply comes before the idle
pub replies_running : {task : Task} {clock : Clock} {lost : Bool} {k : ℕ} {due : Option ℕ} {interrupted : Bool} {past : List Event} (fatal : Bool)
    → (a : IsRunning task clock lost k None false due interrupted past) → IsRunning task clock lost k (Some fatal) false (Some (now_of clock + 4000)) interrupted (Reply fatal ∷ past)
replies_running {task} {clock} {lost} {k} {due} {interrupted} {past} fatal a =
    let r = reply_more fatal a.later a.replied in
    let now = a.hears.now in
    record {
      later = Reply fatal ∷ a.later;
      stands = stands_more a.stands (Reply fatal) refl;
      replied = r;
      idled = a.idled;
      on = and_right (is_some (reply (Reply fatal ∷ a.later))) (has_idle (own a.later)) a.idled;
      hears = hears_more a.hears (Reply fatal) tt (λ e. absurd (true≢false (sym e))) refl;
      until = deadline_replied task (at k (Reply fatal ∷ a.later)) (Reply fatal ∷ past) (ap is_some r) a.idled
          ∙ ap (λ (n : ℕ). Some (n + 4000)) (replied_now k fatal a.later past (ap is_some a.replied) ∙ now);
      calm = unlooked_by (Some (now_of clock + 4000)) (Reply fatal) past refl (calm_ahead a.hears (now_of clock + 4000) (omega (arith, now)));
      asked = λ n. absurd (let clash : Some fatal ≡ None = n in cc);
    }

-- the deadline before its interrupt
pub first_by : (task : Task) (k first : ℕ) (past : List Event) → is_queued task k first past ≡ false → by_limit task k (Some first) past ≡ Some first
first_by task k first past q = ap (λ (b : Bool). if b then second_deadline first past else Some first) (and_right task.times.interrupt (is_queued task k first past) q)

-- a clock entry while request k stands, where no look is called for
pub unheld_first : {task : Task} {clock : Clock} {lost : Bool} {k : ℕ} {idle : Bool} {due : Option ℕ} {interrupted : Bool} {past : List Event} (fatal : Option Bool)
    → (a : IsRunning task clock lost k fatal idle due interrupted past) → passed_by due past ≡ false → fatal ≡ None → (first : ℕ) → first_deadline task (at k a.later) past ≡ Some first → task.times.interrupt ≡ true
    → interrupted ≡ false → ever (is_turn_at first) past ≡ false
unheld_first {task} {clock} {lost} {k} {idle} {due} {interrupted} {past} fatal a quiet n first f on off =
    let asked = subst (λ (b : Bool). IsAsked task k first b past) off (a.asked n first f on) in
    let none : is_some (reply a.later) ≡ false = ap is_some (a.replied ∙ n) in
    let e : Some first ≡ due =
    sym (deadline_unreplied task (at k a.later) past none ∙ ap (λ (o : Option ℕ). by_limit task k o past) f ∙ first_by task k first past asked.0) ∙ a.until in
    subst (λ (o : Option ℕ). passed_by o past ≡ false) (sym e) quiet

pub moment_deadline : {task : Task} {clock : Clock} {lost : Bool} {k : ℕ} {fatal : Option Bool} {idle : Bool} {due : Option ℕ} {interrupted : Bool} {past : List Event} (t : ℕ)
    → (a : IsRunning task clock lost k fatal idle due interrupted past) → deadline task (at k (Moment t ∷ a.later)) (Moment t ∷ past) ≡ due
moment_deadline {task} {clock} {lost} {k} {fatal} {idle} {due} {interrupted} {past} t a =
    deadline_stays task k fatal interrupted (Moment t) a.later past a.replied a.replied (idle_before fatal idle a.later a.replied a.idled a.on) (idle_before fatal idle a.later a.replied a.idled a.on) a.asked
    (λ n first f on. unlooked_queues task k first interrupted (Moment t) past refl (a.asked n first f on)) ∙ a.until

pub moment_runs : {task : Task} {clock : Clock} {lost : Bool} {k : ℕ} {fatal : Option Bool} {idle : Bool} {due : Option ℕ} {interrupted : Bool} {past : List Event} (t : ℕ)
    → (a : IsRunning task clock lost k fatal idle due interrupted past) → time past ≤ t → passed_by due past ≡ false → IsRunning task (read_again clock t) lost k fatal idle due interrupted (Moment t ∷ past)
moment_runs {task} {clock} {lost} {k} {fatal} {idle} {due} {interrupted} {past} t a rises quiet =
    record {
      later = Moment t ∷ a.later;
      stands = stands_more a.stands (Moment t) refl;
      replied = a.replied;
      idled = a.idled;
      on = a.on;
      hears = hears_more a.hears (Moment t) rises (λ e. absurd (true≢false (sym e))) refl;
      until = moment_deadline t a;
      calm = unlooked_by due (Moment t) past refl a.calm;
      asked = λ n first f on. asked_unheld task k first interrupted (Moment t) past (unheld_first fatal a quiet n first f on) (a.asked n first f on);
    }

pub late_by : (clock : Clock) (t d : ℕ) (read : Bool) → read ≡ is_read clock → (read && nat_le d t) ≡ (is_turned (read_again clock t) && nat_le d (now_of (read_again clock t)))
late_by Unread t d read e = rw e refl
late_by (Started s) t d read e = rw e refl
late_by (Turned s) t d read e = rw e refl

pub late_now : {clock : Clock} {lost : Bool} {past : List Event} → Hears clock lost past → (t : ℕ) (due : Option ℕ) → is_late due (Moment t ∷ past) ≡ is_past (read_again clock t) due
late_now h t None = refl
late_now {clock} {lost} {past} h t (Some d) = late_by clock t d (came is_moment past) h.read

pub moment_right : {task : Task} {clock : Clock} {lost : Bool} {k : ℕ} {fatal : Option Bool} {idle : Bool} {due : Option ℕ} {interrupted : Bool} {past : List Event} (t : ℕ)
    → IsRunning task clock lost k fatal idle due interrupted past → time past ≤ t → passed_by due past ≡ false → Right task clock lost (look_or (running_state k fatal idle due interrupted) (is_past (read_again clock t) due)) (Moment t) past
moment_right {task} {clock} {lost} {k} {fatal} {idle} {due} {interrupted} {past} t a rises quiet =
    runs_right (Moment t) false _ a.stands refl (moment_runs t a rises quiet)
    (ap (λ (v : Bool). if v then Look else Nothing) (ap (λ (o : Option ℕ). is_late o (Moment t ∷ past)) (moment_deadline t a) ∙ late_now a.hears t due)) refl

-- A look while request k stands.
-- the deadline stays, where this look queues no interrupt
pub looked_deadline : {task : Task} {clock : Clock} {lost : Bool} {k : ℕ} {fatal : Option Bool} {idle : Bool} {due : Option ℕ} {interrupted : Bool} {past : List Event}
    → (a : IsRunning task clock lost k fatal idle due interrupted past)
    → (fatal ≡ None → (first : ℕ) → first_deadline task (at k a.later) past ≡ Some first → task.times.interrupt ≡ true → is_queued task k first (Looked ∷ past) ≡ interrupted)
    → deadline task (at k (Looked ∷ a.later)) (Looked ∷ past) ≡ due
looked_deadline {task} {clock} {lost} {k} {fatal} {idle} {due} {interrupted} {past} a now =
    deadline_stays task k fatal interrupted Looked a.later past a.replied a.replied (idle_before fatal idle a.later a.replied a.idled a.on) (idle_before fatal idle a.later a.replied a.idled a.on) a.asked now ∙ a.until

pub looked_calm : (due : Option ℕ) (past : List Event) → passed_by due past ≡ false → looked_by due past ≡ false → looked_by due (Looked ∷ past) ≡ false
looked_calm None past q c = refl
looked_calm (Some t) past q c = or_from _ _ q c

pub looked_runs : {task : Task} {clock : Clock} {k : ℕ} {fatal : Option Bool} {idle : Bool} {due : Option ℕ} {interrupted : Bool} {past : List Event}
    → (a : IsRunning task clock false k fatal idle due interrupted past) → passed_by due past ≡ false → IsRunning task clock false k fatal idle due interrupted (Looked ∷ past)
looked_runs {task} {clock} {k} {fatal} {idle} {due} {interrupted} {past} a quiet =
    record {
      later = Looked ∷ a.later;
      stands = stands_more a.stands Looked refl;
      replied = a.replied;
      idled = a.idled;
      on = a.on;
      hears = hears_more a.hears Looked tt (λ e. refl) refl;
      until = looked_deadline a (λ n first f on. queued_unheld task k first interrupted Looked past (unheld_first fatal a quiet n first f on) (a.asked n first f on));
      calm = looked_calm due past quiet a.calm;
      asked = λ n first f on. asked_unheld task k first interrupted Looked past (unheld_first fatal a quiet n first f on) (a.asked n first f on);
    }

-- such a look queues no interrupt
pub queues_by : (task : Task) (k : ℕ) (past : List Event) (v : Option (List Event)) (o : Option ℕ) → ((first : ℕ) → o ≡ Some first → task.times.interrupt ≡ true → queues task k first (Looked ∷ past) ≡ false) → is_queued_now task k o (Looked ∷ past) ≡ false
queues_by task k past v None none = refl
queues_by task k past v (Some first) none =
    elim (cases_Bool task.times.interrupt) [ inl on ↦ and_right task.times.interrupt _ (none first refl on) | inr off ↦ and_left task.times.interrupt _ off ]

pub not_first_look : (task : Task) (k first : ℕ) (past : List Event) → is_first_look (since (is_turn_at first) past) ≡ false → queues task k first (Looked ∷ past) ≡ false
not_first_look task k first past h = rw h refl

pub answered_look : (task : Task) (k first : ℕ) (past : List Event) → is_unanswered (after task k past) ≡ false → queues task k first (Looked ∷ past) ≡ false
answered_look task k first past h = rw h (grind arith)

pub asked_look : (task : Task) (k first : ℕ) (interrupted : Bool) (past : List Event) → (interrupted ≡ false → ever (is_turn_at first) past ≡ false) → IsAsked task k first interrupted past → is_first_look (since (is_turn_at first) past) ≡ false
asked_look task k first true past unheld a = ap is_first_look a.1.1 ∙ and_right (not (came is_moment a.1.0)) (not (came is_looked a.1.0)) (ap not a.1.2)
asked_look task k first false past unheld a = ap is_first_look (since_unheld (is_turn_at first) past (unheld refl))

pub looked_queues : {task : Task} {clock : Clock} {lost : Bool} {k : ℕ} {idle : Bool} {due : Option ℕ} {interrupted : Bool} {past : List Event} (fatal : Option Bool)
    → (a : IsRunning task clock lost k fatal idle due interrupted past) → passed_by due past ≡ false → (first : ℕ) → first_deadline task (at k a.later) past ≡ Some first → task.times.interrupt ≡ true → queues task k first (Looked ∷ past) ≡ false
looked_queues {task} {clock} {lost} {k} {idle} {due} {interrupted} {past} (Some old) a quiet first f on =
    answered_look task k first past (ap is_unanswered a.stands.reached.here ∙ ap is_none a.replied)
looked_queues {task} {clock} {lost} {k} {idle} {due} {interrupted} {past} None a quiet first f on =
    not_first_look task k first past (asked_look task k first interrupted past (unheld_first None a quiet refl first f on) (a.asked refl first f on))

pub looked_right : {task : Task} {clock : Clock} {k : ℕ} {fatal : Option Bool} {idle : Bool} {due : Option ℕ} {interrupted : Bool} {past : List Event}
    → IsRunning task clock false k fatal idle due interrupted past → passed_by due past ≡ false → Right task clock false (stays (running_state k fatal idle due interrupted)) Looked past
looked_right {task} {clock} {k} {fatal} {idle} {due} {interrupted} {past} a quiet =
    runs_right Looked false Nothing a.stands refl (looked_runs a quiet)
    (ap (λ (b : Bool). if b then Interrupt else Nothing) (queues_by task k past None (first_deadline task (at k a.later) past) (looked_queues fatal a quiet))) refl

pub lost_cause : (o f b h l : Bool) (d : Option Why) → o ≡ false → b ≡ false → h ≡ true → (if o && f then Some CellError else if b then Some BadPeer else if h || l then Some KernelLost else d) ≡ Some KernelLost
lost_cause o f b h l d p q r = rw (p, q, r) refl

pub broken_cause : (o f : Bool) → o ≡ false → (if o && f then Some CellError else Some BadPeer) ≡ Some BadPeer
broken_cause o f p = rw p refl

-- a reply and an idle end the request
pub never_both : {fatal : Option Bool} {idle : Bool} (later : List Event) → reply later ≡ fatal → has_idle (own later) ≡ idle → is_over later ≡ false → (is_some fatal && idle) ≡ false
never_both {fatal} {idle} later r i on = rw (sym r, sym i) on

-- the look shows that the kernel is lost
pub lost_right : {task : Task} {clock : Clock} {k : ℕ} {fatal : Option Bool} {idle : Bool} {due : Option ℕ} {interrupted : Bool} {past : List Event}
    → IsRunning task clock true k fatal idle due interrupted past → Right task clock true (fails task k KernelLost) Looked past
lost_right {task} {clock} {k} {fatal} {idle} {due} {interrupted} {past} a =
    let f : Fails task k (Looked ∷ a.later) KernelLost (Looked ∷ past) =
    record { not_passed = over_not_passed (Looked ∷ a.later) a.on; cause = lost_cause (is_over a.later) (is_fatal a.later) (came is_broken past) (ever is_lost past) (look_since is_lost past) _ a.on a.hears.unbroken a.hears.lost_is; stops = refl } in
    fails_right Looked KernelLost a.stands refl f refl

pub looked_passed : (due : Option ℕ) (past : List Event) → passed_by due past ≡ true → looked_by due (Looked ∷ past) ≡ true
looked_passed None past p = absurd (true≢false (sym p))
looked_passed (Some t) past p = rw p refl

pub cause_from : (o f b h l : Bool) (d : Option Why) → o ≡ false → b ≡ false → h ≡ false → l ≡ false
    → (if o && f then Some CellError else if b then Some BadPeer else if h || l then Some KernelLost else d) ≡ d
cause_from o f b h l d p q r s = rw (p, q, r, s) refl

pub late_by_look : (looks interrupts : Bool) (which w : Why) → looks ≡ true → interrupts ≡ false → which ≡ w → (if looks && not interrupts then Some which else None) ≡ Some w
late_by_look looks interrupts which w t u e = rw (t, u, e) refl

-- the look comes after the deadline, and nothing came
pub late_fails : {task : Task} {clock : Clock} {k : ℕ} {fatal : Option Bool} {idle : Bool} {due : Option ℕ} {interrupted : Bool} {past : List Event}
    → (a : IsRunning task clock false k fatal idle due interrupted past) → passed_by due past ≡ true
    → deadline task (at k (Looked ∷ a.later)) (Looked ∷ past) ≡ due → is_interruptible task (at k (Looked ∷ a.later)) (Looked ∷ past) ≡ false
    → (w : Why) → (if is_some fatal then NoIdle else TimedOut) ≡ w → is_stop w ≡ true → Right task clock false (fails task k w) Looked past
late_fails {task} {clock} {k} {fatal} {idle} {due} {interrupted} {past} a passed until no_interrupt w e stop =
    let there : looked_by (deadline task (at k (Looked ∷ a.later)) (Looked ∷ past)) (Looked ∷ past) ≡ true = ap (λ (o : Option ℕ). looked_by o (Looked ∷ past)) until ∙ looked_passed due past passed in
    let which : (if is_some (reply a.later) then NoIdle else TimedOut) ≡ w = ap (λ (v : Option Bool). if is_some v then NoIdle else TimedOut) a.replied ∙ e in
    let f : Fails task k (Looked ∷ a.later) w (Looked ∷ past) =
    record {
      not_passed = over_not_passed (Looked ∷ a.later) a.on;
      cause = cause_from (is_over a.later) (is_fatal a.later) (came is_broken past) (ever is_lost past) (look_since is_lost past) _ a.on a.hears.unbroken a.hears.lost_is a.hears.unseen
          ∙ late_is task (at k (Looked ∷ a.later)) (Looked ∷ past) ∙ late_by_look _ _ _ w there no_interrupt which;
      stops = stop;
    } in
    fails_right Looked w a.stands refl f refl

pub late_replied : {task : Task} {clock : Clock} {k : ℕ} {idle : Bool} {due : Option ℕ} {interrupted : Bool} {past : List Event} (old : Bool)
    → (a : IsRunning task clock false k (Some old) idle due interrupted past) → passed_by due past ≡ true → Right task clock false (fails task k NoIdle) Looked past
late_replied {task} {clock} {k} {idle} {due} {interrupted} {past} old a passed =
    late_fails a passed (looked_deadline a (λ n. absurd (let clash : Some old ≡ None = n in cc)))
    (and_left _ _ (and_left (is_none (reply a.later)) _ (ap is_none a.replied))) NoIdle refl refl

pub late_plain : {task : Task} {clock : Clock} {k : ℕ} {idle : Bool} {due : Option ℕ} {interrupted : Bool} {past : List Event}
    → (a : IsRunning task clock false k None idle due interrupted past) → passed_by due past ≡ true → task.times.interrupt ≡ false → Right task clock false (fails task k TimedOut) Looked past
late_plain {task} {clock} {k} {idle} {due} {interrupted} {past} a passed off =
    late_fails a passed (looked_deadline a (λ n first f on. absurd (true≢false (sym on ∙ off))))
    (and_left _ _ (and_right (is_none (reply a.later)) _ off)) TimedOut refl refl

-- the deadline of a request without a limit is none
pub limited_by : (o : Option ℕ) (task : Task) (k : ℕ) (due : Option ℕ) (past : List Event) → by_limit task k o past ≡ due → passed_by due past ≡ true → (first : ℕ) × (o ≡ Some first)
limited_by (Some first) task k due past e p = (first, refl)
limited_by None task k due past e p = absurd (true≢false (sym p ∙ ap (λ (o : Option ℕ). passed_by o past) (sym e)))

pub limited : {task : Task} {clock : Clock} {lost : Bool} {k : ℕ} {idle : Bool} {due : Option ℕ} {interrupted : Bool} {past : List Event}
    → (a : IsRunning task clock lost k None idle due interrupted past) → passed_by due past ≡ true → (first : ℕ) × (first_deadline task (at k a.later) past ≡ Some first)
limited {task} {clock} {lost} {k} {idle} {due} {interrupted} {past} a passed =
    limited_by (first_deadline task (at k a.later) past) task k due past (sym (deadline_unreplied task (at k a.later) past (ap is_some a.replied)) ∙ a.until) passed

pub late_interrupted : {task : Task} {clock : Clock} {k : ℕ} {idle : Bool} {due : Option ℕ} {past : List Event}
    → (a : IsRunning task clock false k None idle due true past) → passed_by due past ≡ true → task.times.interrupt ≡ true → Right task clock false (fails task k TimedOut) Looked past
late_interrupted {task} {clock} {k} {idle} {due} {past} a passed on =
    let l = limited a passed in
    let q : is_queued task k l.0 past ≡ true = (a.asked refl l.0 l.1 on).0 in
    late_fails a passed (looked_deadline a (λ n first f o. or_right _ _ (a.asked n first f o).0))
    (and_right _ _ (ap not (ap (λ (o : Option ℕ). queued_by task k o (Looked ∷ past)) l.1 ∙ or_right _ _ q))) TimedOut refl refl

-- the look queues the interrupt
pub queues_now : (task : Task) (k first : ℕ) (past between : List Event) → since (is_turn_at first) past ≡ Some between → came is_moment between ≡ false → came is_looked between ≡ false → is_unanswered (after task k past) ≡ true
    → came is_broken past ≡ false → ever is_lost past ≡ false → queues task k first (Looked ∷ past) ≡ true
queues_now task k first past between s m l u b h = rw (s, m, l, u, b, h) refl

pub interrupted_until : (task : Task) (clock : Clock) (k : ℕ) (past : List Event) (later : List Event) (first : ℕ) (between : List Event) → reply later ≡ None → first_deadline task (at k later) past ≡ Some first → task.times.interrupt ≡ true
    → is_queued task k first (Looked ∷ past) ≡ true → since (is_turn_at first) past ≡ Some between → came is_moment between ≡ false → time past ≡ now_of clock
    → deadline task (at k (Looked ∷ later)) (Looked ∷ past) ≡ Some (now_of clock + 10000)
interrupted_until task clock k past later first between r f on q s m now =
    deadline_unreplied task (at k (Looked ∷ later)) (Looked ∷ past) (ap is_some r)
    ∙ ap (λ (o : Option ℕ). by_limit task k o (Looked ∷ past)) f
    ∙ (rw (on, q) (ap (entry_and_more (Looked ∷ past)) (since_some (is_turn_at first) Looked past between s)))
    ∙ ap (λ (n : ℕ). Some (n + 10000)) (time_at first past between s m ∙ now)

pub interrupt_right : {task : Task} {clock : Clock} {k : ℕ} {idle : Bool} {due : Option ℕ} {past : List Event}
    → (a : IsRunning task clock false k None idle due false past) → passed_by due past ≡ true → task.times.interrupt ≡ true → Right task clock false (move (running_state k None idle (Some (now_of clock + 10000)) true) false Interrupt) Looked past
interrupt_right {task} {clock} {k} {idle} {due} {past} a passed on =
    let l = limited a passed in
    let first = l.0 in
    let asked = a.asked refl first l.1 on in
    let none : is_some (reply a.later) ≡ false = ap is_some a.replied in
    let e : due ≡ Some first =
    sym a.until ∙ deadline_unreplied task (at k a.later) past none ∙ ap (λ (o : Option ℕ). by_limit task k o past) l.1 ∙ first_by task k first past asked.0 in
    let there = since_held (is_turn_at first) past (subst (λ (o : Option ℕ). passed_by o past ≡ true) e passed) in
    let quiet = asked.1 there.0 there.1 in
    let queues_it = queues_now task k first past there.0 there.1 quiet.0 quiet.1 (ap is_unanswered a.stands.reached.here ∙ ap is_none a.replied) a.hears.unbroken a.hears.lost_is in
    let queued_it : is_queued task k first (Looked ∷ past) ≡ true = rw queues_it refl in
    let now = a.hears.now in
    let far : ever (is_turn_at (now_of clock + 10000)) past ≡ false = ahead a.hears (now_of clock + 10000) (omega (arith, now)) in
    let b : IsRunning task clock false k None idle (Some (now_of clock + 10000)) true (Looked ∷ past) =
    record {
      later = Looked ∷ a.later;
      stands = stands_more a.stands Looked refl;
      replied = a.replied;
      idled = a.idled;
      on = a.on;
      hears = hears_more a.hears Looked tt (λ e. refl) refl;
      until = interrupted_until task clock k past a.later first there.0 a.replied l.1 on queued_it there.1 quiet.0 a.hears.now;
      calm = or_from _ _ far (looked_none (is_turn_at (now_of clock + 10000)) past far);
      asked = λ n other f o.
          let same : first ≡ other = (let both = sym l.1 ∙ f in cc) in
          subst (λ (i : ℕ). IsAsked task k i true (Looked ∷ past)) same (queued_it, (Looked ∷ there.0, since_some (is_turn_at first) Looked past there.0 there.1, refl));
    } in
    runs_right Looked false Interrupt a.stands refl b
    (ap (λ (v : Bool). if v then Interrupt else Nothing) (ap (λ (o : Option ℕ). is_queued_now task k o (Looked ∷ past)) l.1 ∙ and_from task.times.interrupt _ on queues_it)) refl

pub late_on : (task : Task) (clock : Clock) (k : ℕ) (idle : Bool) (due : Option ℕ) (interrupted : Bool) (past : List Event)
    → IsRunning task clock false k None idle due interrupted past → passed_by due past ≡ true → task.times.interrupt ≡ true
    → Right task clock false (if true && not interrupted then move (running_state k None idle (Some (now_of clock + 10000)) true) false Interrupt else fails task k TimedOut) Looked past
late_on task clock k idle due true past a passed on = late_interrupted a passed on
late_on task clock k idle due false past a passed on = interrupt_right a passed on

pub late_right : (task : Task) (clock : Clock) (k : ℕ) (fatal : Option Bool) (idle : Bool) (due : Option ℕ) (interrupted : Bool) (past : List Event)
    → IsRunning task clock false k fatal idle due interrupted past → passed_by due past ≡ true → Right task clock false (late task clock k fatal idle interrupted) Looked past
late_right task clock k (Some old) idle due interrupted past a passed = late_replied old a passed
late_right task clock k None idle due interrupted past a passed =
    elim (cases_Bool task.times.interrupt) [
      | inl on ↦ subst (λ (b : Bool). Right task clock false (if b && not interrupted then move (running_state k None idle (Some (now_of clock + 10000)) true) false Interrupt else fails task k TimedOut) Looked past) (sym on) (late_on task clock k idle due interrupted past a passed on)
      | inr off ↦ subst (λ (b : Bool). Right task clock false (if b && not interrupted then move (running_state k None idle (Some (now_of clock + 10000)) true) false Interrupt else fails task k TimedOut) Looked past) (sym off) (late_plain a passed off)
    ]

pub looks_right : (task : Task) (clock : Clock) (lost : Bool) (k : ℕ) (fatal : Option Bool) (idle : Bool) (due : Option ℕ) (interrupted : Bool) (past : List Event)
    → IsRunning task clock lost k fatal idle due interrupted past → Right task clock lost (in_running task clock lost k fatal idle due interrupted Looked) Looked past
looks_right task clock true k fatal idle due interrupted past a = lost_right a
looks_right task clock false k fatal idle due interrupted past a =
    let same = past_is a.hears due in
    elim (cases_Bool (is_past clock due)) [
      | inl yet ↦ subst (λ (b : Bool). Right task clock false (if b then late task clock k fatal idle interrupted else stays (running_state k fatal idle due interrupted)) Looked past) (sym yet) (late_right task clock k fatal idle due interrupted past a (same ∙ yet))
      | inr before ↦ subst (λ (b : Bool). Right task clock false (if b then late task clock k fatal idle interrupted else stays (running_state k fatal idle due interrupted)) Looked past) (sym before) (looked_right a (same ∙ before))
    ]

pub broken_right : {task : Task} {clock : Clock} {lost : Bool} {k : ℕ} {fatal : Option Bool} {idle : Bool} {due : Option ℕ} {interrupted : Bool} {past : List Event}
    → IsRunning task clock lost k fatal idle due interrupted past → Right task clock lost (fails task k BadPeer) Broken past
broken_right {task} {clock} {lost} {k} {fatal} {idle} {due} {interrupted} {past} a =
    let f : Fails task k (Broken ∷ a.later) BadPeer (Broken ∷ past) =
    record { not_passed = over_not_passed (Broken ∷ a.later) a.on; cause = broken_cause (is_over a.later) (is_fatal a.later) a.on; stops = refl } in
    fails_right Broken BadPeer a.stands refl f refl

-- what a clock entry keeps
abbrev pub Keeps : Task → Event → List Event → Type 0
Keeps task (Moment t) past = (time past ≤ t) × (calls_for_look task past ≡ false)
Keeps task event past = Unit {0}

pub quiet_of : {task : Task} {clock : Clock} {lost : Bool} {k : ℕ} {fatal : Option Bool} {idle : Bool} {due : Option ℕ} {interrupted : Bool} {past : List Event}
    → IsRunning task clock lost k fatal idle due interrupted past → calls_for_look task past ≡ false → passed_by due past ≡ false
quiet_of {task} {clock} {lost} {k} {fatal} {idle} {due} {interrupted} {past} a c =
    let q = (or_parts (ever is_lost past) (passed_by (due_at task (standing task past) past) past) c).1 in
    let e : due_at task (standing task past) past ≡ due = ap (λ (v : Option Standing). due_at task v past) (standing_is a.stands) ∙ a.until in
    subst (λ (o : Option ℕ). passed_by o past ≡ false) e q

pub right_running : (task : Task) (clock : Clock) (lost : Bool) (k : ℕ) (fatal : Option Bool) (idle : Bool) (due : Option ℕ) (interrupted : Bool) (event : Event) (past : List Event)
    → IsRunning task clock lost k fatal idle due interrupted past → is_saved event ≡ false → Keeps task event past → Right task clock lost (in_running task clock lost k fatal idle due interrupted event) event past
right_running task clock lost k fatal idle due interrupted Saved past a h keeps = absurd (true≢false h)
right_running task clock lost k fatal idle due interrupted Ready past a h keeps =
    runs_right Ready false Nothing a.stands refl (still_runs Ready idle a refl refl refl refl tt a.replied a.idled (never_both a.later a.replied a.idled a.on)) refl refl
right_running task clock lost k fatal idle due interrupted Lost past a h keeps =
    runs_right Lost false Look a.stands refl (still_runs Lost idle a refl refl refl refl tt a.replied a.idled (never_both a.later a.replied a.idled a.on)) refl refl
right_running task clock lost k fatal idle due interrupted Looked past a h keeps = looks_right task clock lost k fatal idle due interrupted past a
right_running task clock lost k fatal idle due interrupted (Moment t) past a h keeps = moment_right t a keeps.0 (quiet_of a keeps.1)
right_running task clock lost k fatal idle due interrupted Broken past a h keeps = broken_right a
right_running task clock lost k fatal true due interrupted (Io m) past a h keeps =
    runs_right (Io m) false Nothing a.stands refl
    (still_runs (Io m) true a refl refl refl refl tt a.replied (ap has_idle (own_stays (Io m) a.later a.idled) ∙ a.idled) (never_both a.later a.replied a.idled a.on)) refl (sym (ap not a.idled))
right_running task clock lost k fatal false due interrupted (Io Else) past a h keeps =
    runs_right (Io Else) true Nothing a.stands refl
    (still_runs (Io Else) false a refl refl refl refl tt a.replied (ap has_idle (own_more Else a.later a.idled) ∙ a.idled) (never_both a.later a.replied a.idled a.on)) refl (sym (ap not a.idled))
right_running task clock lost k (Some f) false due interrupted (Io Idle) past a h keeps =
    ends_right (Io Idle) f a.stands a.hears tt refl refl refl a.replied (ap has_idle (own_more Idle a.later a.idled)) (sym (ap not a.idled))
right_running task clock lost k None false due interrupted (Io Idle) past a h keeps =
    runs_right (Io Idle) true Nothing a.stands refl
    (still_runs (Io Idle) true a refl refl refl refl tt a.replied (ap has_idle (own_more Idle a.later a.idled)) refl) refl (sym (ap not a.idled))
right_running task clock lost k (Some old) idle due interrupted (Reply f) past a h keeps =
    runs_right (Reply f) false Nothing a.stands refl
    (still_runs (Reply f) idle a refl refl refl refl tt (reply_stays (Reply f) a.later (ap is_some a.replied) ∙ a.replied) a.idled (never_both a.later a.replied a.idled a.on)) refl (sym (ap is_none a.replied))
right_running task clock lost k None true due interrupted (Reply f) past a h keeps =
    ends_right (Reply f) f a.stands a.hears tt refl refl refl (reply_more f a.later a.replied) a.idled (sym (ap is_none a.replied))
right_running task clock lost k None false due interrupted (Reply f) past a h keeps =
    runs_right (Reply f) true Nothing a.stands refl (replies_running f a) refl (sym (ap is_none a.replied))
