-- By the loop's rules the core's clock is the journal's wherever it counts, whatever comes after the stop.
use Rattle.std.proofs.Common.{◌≡◌, ℕ, ◌<◌, List, [], ◌∷◌, length, true, ◌&&◌, Some, refl, sym, ◌∙◌}
use Rattle.std.proofs.lemmas.Bool.{and_parts, and_from, eq-eqb}
use Rattle.world.specs.declared.entry.Entry.{Entry}
use Rattle.run_journal.specs.Job.{Job}
use Rattle.run_journal.specs.Parts.{is_acknowledging}
use Rattle.run_journal.specs.Due.{all_along}
use Rattle.run_journal.specs.Decoding.{IsDecoding}
use Rattle.run_journal.specs.Course.{course}
use Rattle.run_journal.specs.Agreement.{BeginsUnread, Flows, KeepsTime, keeps_time, brings, stands_anew, holds_no_clock, KeepsRules}
use Rattle.run_journal.proofs.Flowing.{told_parts}
use Rattle.run_journal.proofs.Telling.{unread_before, unheld}
use Rattle.run_journal.proofs.Running.{rules_before, RanAtWait, ran_before}
use Rattle.run_journal.proofs.Turning.{dates}
use Rattle.run_journal.proofs.Timing.{anew_ready, time_on, implied}
use Rattle.run_journal.proofs.Settling.{Given}
use Rattle.run_journal.proofs.Clocking.{unclocked, whole_now}
use Rattle.run_journal.proofs.AskedClocks.{ready_clock, brings_late}

module _ (jobs : List Job) (j : Job) (dec : IsDecoding j.codec) (plan : 0 < length j.task.plan) (limits : (ms : ℕ) → j.task.times.limit_ms ≡ Some ms → 0 < ms) where
  -- it is the journal's at an entry
  pub time_next : (entry : Entry) (past : List Entry) → Given jobs j past → all_along (holds_no_clock j) past ≡ true → keeps_time j (entry ∷ past) ≡ true
  time_next entry past b n =
      let now = whole_now j past (unclocked jobs j dec plan limits past b n) in
      let i = dates 0 jobs j past b.rules b.ran in
      and_from _ _
      (implied jobs j (is_acknowledging j (entry ∷ past) && stands_anew j entry past) _ (λ e.
      let a = and_parts (is_acknowledging j (entry ∷ past)) (stands_anew j entry past) e in
      eq-eqb _ _ (sym (time_on jobs j (course j past).held (course j past).told (unheld j past n)) ∙ now ∙ i.now (ready_clock jobs j b.rules.among dec past b.rules.awake.only_awake (anew_ready jobs j entry past a.0 a.1)))))
      (implied jobs j (brings j entry past) _ (λ e. eq-eqb _ _ (now ∙ i.now (brings_late jobs j b.rules.among dec entry past b.rules.awake.only_awake e))))

  -- so along a journal
  pub time_settled : (past : List Entry) → KeepsRules jobs j past → RanAtWait j past → BeginsUnread j past → Flows j past → all_along (holds_no_clock j) past ≡ true → KeepsTime j past
  time_settled [] k h u f n = refl
  time_settled (entry ∷ past) k h u f n =
      let v = unread_before j entry past u in
      let q = and_parts (holds_no_clock j (entry ∷ past)) (all_along (holds_no_clock j) past) n in
      let before = time_settled past (rules_before jobs j entry past k) (ran_before jobs j entry past k h) v.1 (told_parts j entry past f).2 q.1 in
      let b : Given jobs j past = record { rules = rules_before jobs j entry past k; ran = ran_before jobs j entry past k h; flows = (told_parts j entry past f).2; time = before; unread = v.1 } in
      and_from (keeps_time j (entry ∷ past)) (all_along (keeps_time j) past) (time_next entry past b q.1) before
