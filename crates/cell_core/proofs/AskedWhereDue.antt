-- What is due is asked for, a cause stops the job, and a request that comes to stand is sent.
use Rattle.std.proofs.Common.{◌≡◌, ℕ, zero, suc, List, [], ◌∷◌, length, Bool, false, if◌then◌else◌, Option, Some, None, refl, sym, ap, ◌∙◌, inl, inr, true≢false}
use Rattle.std.proofs.lemmas.Bool.{cases_Bool}
use Rattle.cell_core.specs.declared.event.Event.{Event}
use Rattle.cell_core.specs.declared.event.Event.TheVariants.{Saved, Ready, Io, Reply, Moment, Looked, Lost, Broken}
use Rattle.cell_core.specs.declared.why.Why.{Why}
use Rattle.cell_core.specs.declared.act.Act.TheVariants.{Nothing, Send, Save, Stop}
use Rattle.cell_core.specs.Task.{Task, cell_of}
use Rattle.cell_core.specs.Events.{since, since_more}
use Rattle.cell_core.specs.Requests.{after, both_came, Standing}
use Rattle.cell_core.specs.Saves.{why, pending_saves}
use Rattle.cell_core.specs.Acts.{act_at, act_of, answers, heard, has_stopped, is_empty_list}
use Rattle.cell_core.specs.Laws.{IsAskedFor, StopsBy, ComesToStand}
use Rattle.cell_core.proofs.Lists.{since_some}
use Rattle.cell_core.proofs.OverRuns.{standing_after, free_of}
use Rattle.cell_core.proofs.Right.{act_from, act_saves}

-- while the job hasn't stopped
pub going : (task : Task) (event : Event) (past : List Event) → has_stopped task (heard task past) ≡ false → act_of task event past ≡ act_at task (event ∷ heard task past)
going task event past on = ap (λ (b : Bool). if b then Nothing else act_at task (event ∷ heard task past)) on

pub save_due : (task : Task) (event : Event) (past : List Event) (n : ℕ) → has_stopped task (heard task past) ≡ false → IsAskedFor task n (event ∷ heard task past) → act_of task event past ≡ Save n
save_due task event past n on h = going task event past on ∙ act_saves task (event ∷ heard task past) h.first h.others h.due ∙ ap Save h.settles_it

pub stop_due : (task : Task) (event : Event) (past : List Event) (w : Why) → has_stopped task (heard task past) ≡ false → StopsBy task w (event ∷ heard task past) → act_of task event past ≡ Stop w
stop_due task event past w on h = going task event past on ∙ act_from task (event ∷ heard task past) [] (Some w) h.settled_all h.cause_is

-- ---- requests

fails_before : (test : List Event → Bool) → test [] ≡ false → (past : List Event) → since test past ≡ None → test past ≡ false
fails_before test base [] e = base
fails_before test base (event ∷ past) e = by_before (since test past) refl
  where
    by_before : (v : Option (List Event)) → since test past ≡ v → test (event ∷ past) ≡ false
    by_before (Some l) v = absurd (let clash : Some (event ∷ l) ≡ None = sym (since_some test event past l v) ∙ e in cc)
    by_before None v =
        elim (cases_Bool (test (event ∷ past))) [
          | inl holds ↦ absurd (let clash : Some [] ≡ None = sym (ap (since_more test event past) v ∙ ap (λ (b : Bool). if b then Some [] else None) holds) ∙ e in cc)
          | inr fails ↦ fails
        ]

new_now : (event : Event) (past : List Event) (v : Option (List Event)) → since both_came past ≡ v → since both_came (event ∷ past) ≡ Some [] → both_came past ≡ false
new_now event past (Some l) v e = absurd (let clash : Some (event ∷ l) ≡ Some [] = sym (since_some both_came event past l v) ∙ e in cc)
new_now event past None v e = fails_before both_came refl past v

-- an event by which no request comes to stand
pub not_by : (task : Task) (k : ℕ) (event : Event) (past : List Event) → (event ≡ Saved → ⊥) → both_came (event ∷ past) ≡ both_came past → after task k (event ∷ past) ≡ Some [] → ⊥
not_by task zero event past other same h = true≢false (sym (free_of task zero event past h) ∙ same ∙ new_now event past (since both_came past) refl h)
not_by task (suc k) event past other same h = other (free_of task (suc k) event past h).0

sends_by : (task : Task) (last : Standing) (event : Event) (past : List Event) → last.later ≡ [] → after task last.request (event ∷ past) ≡ Some [] → answers task (Some last) (event ∷ past) ≡ Send (cell_of task last.request)
sends_by task last Saved past e h = ap (λ (l : List Event). if is_empty_list l then Send (cell_of task last.request) else Nothing) e
sends_by task last Ready past e h = ap (λ (l : List Event). if is_empty_list l then Send (cell_of task last.request) else Nothing) e
sends_by task last (Io m) past e h = ap (λ (l : List Event). if is_empty_list l then Send (cell_of task last.request) else Nothing) e
sends_by task last (Reply f) past e h = ap (λ (l : List Event). if is_empty_list l then Send (cell_of task last.request) else Nothing) e
sends_by task last Broken past e h = ap (λ (l : List Event). if is_empty_list l then Send (cell_of task last.request) else Nothing) e
sends_by task last (Moment t) past e h = absurd (not_by task last.request (Moment t) past (λ same. let clash : Moment t ≡ Saved = same in cc) refl h)
sends_by task last Looked past e h = absurd (not_by task last.request Looked past (λ same. let clash : Looked ≡ Saved = same in cc) refl h)
sends_by task last Lost past e h = absurd (not_by task last.request Lost past (λ same. let clash : Lost ≡ Saved = same in cc) refl h)

pub send_due : (task : Task) (event : Event) (past : List Event) (k : ℕ) → has_stopped task (heard task past) ≡ false → pending_saves task (event ∷ heard task past) ≡ []
    → why task (event ∷ heard task past) ≡ None → ComesToStand task k (event ∷ heard task past) → act_of task event past ≡ Send (cell_of task k)
send_due task event past k on u w h =
    let now = event ∷ heard task past in
    let there = standing_after task (length task.plan) now h.last h.stands ∙ ap Some h.new in
    going task event past on ∙ act_from task now [] None u w
    ∙ ap (λ (v : Option Standing). answers task v now) h.stands
    ∙ sends_by task h.last event (heard task past) h.new there
    ∙ ap (λ (r : ℕ). Send (cell_of task r)) h.request_is
