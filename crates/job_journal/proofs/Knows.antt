-- What the core knows of the last request, event after event, and which messages it takes.
use Rattle.std.proofs.Common.{◌≡◌, ℕ, zero, suc, ◌+◌, List, [], ◌∷◌, ◌++◌, length, Bool, true, false, ◌||◌, not, cond, Option, Some, None, refl, sym, ◌∙◌, ap, subst, arith}
use Rattle.std.specs.Prelude.{is_some, is_none, option_map}
use Rattle.std.proofs.Math.Bool.{or-false}
use Rattle.std.proofs.lemmas.Bool.{cond-false}
use Rattle.std.proofs.lemmas.List.Folds.{list_any-append}
use Rattle.std.proofs.lemmas.Option.{same_Some}
use Rattle.world.specs.declared.entry.Entry.{Entry}
use Rattle.cell_core.specs.declared.brief.Brief.{Brief}
use Rattle.cell_core.specs.declared.brief.Brief.TheVariants as brief
use Rattle.cell_core.specs.declared.event.Event.{Event}
use Rattle.cell_core.specs.declared.event.Event.TheVariants as event
use Rattle.cell_core.specs.Acts.{has_stopped, heard, is_used, takes_of}
use Rattle.cell_core.specs.Events as events
use Rattle.cell_core.specs.Requests as core
use Rattle.cell_core.specs.Task.{Task}
use Rattle.out_fold.specs.Cells.{says_idle}
use Rattle.run_journal.specs.Codec.{Arrival}
use Rattle.run_journal.specs.Job.{Job}
use Rattle.run_journal.specs.Requests.{Request, first, has_idle, last_request, reply, requests}
use Rattle.run_journal.specs.Course.{brief_of}
use Rattle.run_journal.specs.Agreement.{AgreesOn, Agrees}
use Rattle.run_journal.proofs.Agreeing.{after_more, none_more, not_now, stands_at, stands_later}
use Rattle.run_journal.proofs.Asking.{Stands, nothing, last, last_numbered, stands}
use Rattle.run_journal.proofs.Hearing.{IsComing, io, replied, coming_saved, coming_ready}
use Rattle.run_journal.proofs.Keeping.{unstopped_heard}
use Rattle.job_journal.specs.Used.{KnowsOf, with_io, with_reply}

-- ---- the last request

no_last : (rs : List Request) (k : ℕ) (r : Request) → length rs ≡ 0 → last_request 0 rs ≡ Some (k, r) → ⊥
no_last [] k r l e = cc
no_last (x ∷ rs) k r l e = absurd (omega (arith, l))

-- where its requests agree with the journal's, the core knows of the last request what came for it
pub knows_first : (j : Job) (told : List Event) (past : List Entry) (k : ℕ) (r : Request) → Agrees j told past → last_request 0 (requests j past) ≡ Some (k, r)
    → KnowsOf j told k r
knows_first j told past k r a e = by (core.standing j.task told) refl (stands j told past a)
  where
    by : (o : Option core.Standing) → core.standing j.task told ≡ o → Stands j told past o → KnowsOf j told k r
    by None f (nothing l) = absurd (no_last (requests j past) k r l e)
    by (Some _) f (last m q later l g b) =
        let z : 0 + m ≡ m = omega arith in
        let s : (0 + m, q) ≡ (k, r) = same_Some _ _ (sym (last_numbered 0 m (requests j past) q l g) ∙ e) in
        let n : m ≡ k = sym z ∙ ap (λ (p : ℕ × Request). p.0) s in
        let same : q ≡ r = ap (λ (p : ℕ × Request). p.1) s in
        record {
          later = later;
          standing = f ∙ ap (λ i. Some (record { request = i; later = later })) n;
          agrees = subst (λ x. AgreesOn j k later x) same (subst (λ i. AgreesOn j i later q) n b);
        }

-- ---- an event that comes for a request

after_one : (task : Task) (k : ℕ) (e : Event) (told : List Event) → IsComing e → core.after task k (e ∷ told) ≡ option_map (λ later. e ∷ later) (core.after task k told)
after_one task k e told c = by (core.after task k told) refl
  where
    by : (o : Option (List Event)) → core.after task k told ≡ o → core.after task k (e ∷ told) ≡ option_map (λ later. e ∷ later) o
    by None f =
        after_more task k e told
        ∙ none_more (stands_at task k) e told (core.after task k told) f (stands_later task k e told (coming_saved c) (coming_ready c) (not_now task k told f))
    by (Some later) f = after_more task k e told ∙ ap (events.since_more (stands_at task k) e told) f

abbrev and_then : Event → core.Standing → core.Standing
and_then e s = record { request = s.request; later = e ∷ s.later }

or_one : (k : ℕ) (e : Event) (o : Option (List Event)) (s : Option core.Standing)
    → core.or_before k (option_map (λ later. e ∷ later) o) (option_map (and_then e) s) ≡ option_map (and_then e) (core.or_before k o s)
or_one k e None s = refl
or_one k e (Some later) s = refl

below_one : (task : Task) (n : ℕ) (e : Event) (told : List Event) → IsComing e → core.last_below task n (e ∷ told) ≡ option_map (and_then e) (core.last_below task n told)
below_one task zero e told c = refl
below_one task (suc n) e told c =
    ap (λ o. core.or_before n o (core.last_below task n (e ∷ told))) (after_one task n e told c)
    ∙ ap (core.or_before n (option_map (λ later. e ∷ later) (core.after task n told))) (below_one task n e told c)
    ∙ or_one n e (core.after task n told) (core.last_below task n told)

standing_one : (j : Job) (told : List Event) (k : ℕ) (later : List Event) (e : Event) → IsComing e → core.standing j.task told ≡ Some (record { request = k; later = later })
    → core.standing j.task (e ∷ told) ≡ Some (record { request = k; later = e ∷ later })
standing_one j told k later e c f = below_one j.task (length j.task.plan) e told c ∙ ap (option_map (and_then e)) f

idle_io : (m : Arrival) (later : List Event) → core.has_idle (core.own (event.Io (brief_of m) ∷ later)) ≡ (core.has_idle (core.own later) || says_idle m.content)
idle_io m later = by (core.has_idle (core.own later)) (says_idle m.content) (core.own later) refl
  where
    by : (h s : Bool) (xs : List Brief) → core.has_idle xs ≡ h → core.has_idle (cond h xs (cond s brief.Idle brief.Else ∷ xs)) ≡ (h || s)
    by true s xs e = e
    by false true xs e = refl
    by false false xs e = e

or_none : (a b : Bool) → (a || b) ≡ (a || (b || false))
or_none a b = ap (λ x. a || x) (sym (or-false b))

-- told of a message, the core knows of it
pub knows_io : (j : Job) (told : List Event) (k : ℕ) (r : Request) (m : Arrival) → KnowsOf j told k r → KnowsOf j (event.Io (brief_of m) ∷ told) k (with_io r m)
knows_io j told k r m h = record {
  later = event.Io (brief_of m) ∷ h.later;
  standing = standing_one j told k h.later (event.Io (brief_of m)) (io (brief_of m)) h.standing;
  agrees = record {
    idle = idle_io m h.later
        ∙ ap (λ x. x || says_idle m.content) h.agrees.idle
        ∙ or_none (has_idle r.io) (says_idle m.content)
        ∙ sym (list_any-append (λ m. says_idle m.content) r.io (m ∷ []));
    reply = h.agrees.reply;
  };
}

reply_by : (F : Arrival → Bool) (xs : List (Arrival × ℕ)) (m : Arrival) (clock : ℕ) (o : Option Bool) → o ≡ option_map (λ (m : Arrival × ℕ). F m.0) (first xs)
    → cond (is_some o) o (Some (F m)) ≡ option_map (λ (m : Arrival × ℕ). F m.0) (first (xs ++ (m, clock) ∷ []))
reply_by F [] m clock o e = ap (λ x. cond (is_some x) x (Some (F m))) e
reply_by F (x ∷ xs) m clock o e = ap (λ x. cond (is_some x) x (Some (F m))) e

-- told of a reply, the core knows of it
pub knows_reply : (j : Job) (told : List Event) (k : ℕ) (r : Request) (m : Arrival) (clock : ℕ) → KnowsOf j told k r
    → KnowsOf j (event.Reply (j.fatal k m.content) ∷ told) k (with_reply r m clock)
knows_reply j told k r m clock h = record {
  later = event.Reply (j.fatal k m.content) ∷ h.later;
  standing = standing_one j told k h.later (event.Reply (j.fatal k m.content)) (replied (j.fatal k m.content)) h.standing;
  agrees = record {
    idle = h.agrees.idle;
    reply = reply_by (λ (m : Arrival). j.fatal k m.content) r.replies m clock (core.reply h.later) h.agrees.reply;
  };
}

-- ---- what the core takes

-- a message is used where the request's idle hasn't come
pub takes_io : (j : Job) (told : List Event) (k : ℕ) (r : Request) (b : Brief) → has_stopped j.task (heard j.task told) ≡ false → KnowsOf j told k r
    → takes_of j.task (event.Io b) told ≡ not (has_idle r.io)
takes_io j told k r b on h =
    cond-false (has_stopped j.task (heard j.task told)) false _ on
    ∙ ap (λ es. is_used (event.Io b) (core.standing j.task es)) (unstopped_heard j told on)
    ∙ ap (is_used (event.Io b)) h.standing
    ∙ ap not h.agrees.idle

none_mapped : (F : Arrival × ℕ → Bool) (o : Option (Arrival × ℕ)) → is_none (option_map F o) ≡ not (is_some o)
none_mapped F None = refl
none_mapped F (Some m) = refl

-- a reply is used where none has come before it
pub takes_reply : (j : Job) (told : List Event) (k : ℕ) (r : Request) (fatal : Bool) → has_stopped j.task (heard j.task told) ≡ false → KnowsOf j told k r
    → takes_of j.task (event.Reply fatal) told ≡ not (is_some (reply r))
takes_reply j told k r fatal on h =
    cond-false (has_stopped j.task (heard j.task told)) false _ on
    ∙ ap (λ es. is_used (event.Reply fatal) (core.standing j.task es)) (unstopped_heard j told on)
    ∙ ap (is_used (event.Reply fatal)) h.standing
    ∙ ap is_none h.agrees.reply
    ∙ none_mapped (λ m. j.fatal k m.0.content) (reply r)
