-- How a job ends, and its status, by its own entries alone.
use Rattle.std.proofs.Common.{◌≡◌, inl, inr, ℕ, List, [], ◌∷◌, length, Bool, true, false, ◌||◌, cond, Option, Some, None, refl, sym, ◌∙◌, ap}
use Rattle.std.specs.Prelude.{nat_le, option_map, ◌==◌}
use Rattle.std.specs.Str.{bytes_eq}
use Rattle.std.specs.List.{list_any}
use Rattle.std.proofs.lemmas.Bool.{cond-true, cond-false, cond_both, cases_Bool, or_parts}
use Rattle.words.specs.Paths.{temporary_of, connection_of}
use Rattle.world.specs.declared.connected.Connected.TheVariants as connected
use Rattle.world.specs.declared.did.Did.TheVariants.{Done, Failed}
use Rattle.world.specs.declared.entry.Entry.{Entry}
use Rattle.world.specs.declared.entry.Entry.TheVariants as made
use Rattle.save_disk.specs.declared.save_fault.SaveFault.TheVariants.{DirSync}
use Rattle.save_disk.specs.Messages.{message}
use Rattle.cell_core.specs.declared.why.Why.{Why}
use Rattle.cell_core.specs.declared.why.Why.TheVariants as cause
use Rattle.run_journal.specs.Job.{Job}
use Rattle.run_journal.specs.Parts.{saves_of, before_shut}
use Rattle.run_journal.specs.OfJob.{is_own_path, after_read, reads_for, is_onto, is_of, own_reports, of_job}
use Rattle.run_journal.specs.Requests.{or_later, last_request}
use Rattle.run_journal.specs.Why.{why}
use Rattle.run_journal.specs.Saves.{Save, last_cell, saves}
use Rattle.run_journal.specs.Ends.{End, NotStarted, NotSaved, CellError, TimedOut, NoIdle, Ended, index_or_zero, name_of, peer_end, end_if, file_end, input_end, spec_end, put_end, fault_at, end_by, stop_of, ended_now, ending_of, end_alone, status_or_spent, status_of}
use Rattle.run_journal.proofs.Alike.{Alike, own_onto, own_alike, alike_foreign}
use Rattle.run_journal.proofs.AlikeLooks.{acked_alike}
use Rattle.run_journal.proofs.Isolation.{requests_alike, bad_stream_alike, why_alike, saves_alike, before_shut_alike}
use Rattle.run_journal.proofs.Alike.{near}
use Rattle.run_journal.proofs.Queueing.{put_end_alike}
use Rattle.run_journal.proofs.Truths.{not_both}
use Rattle.jtext.proofs.Lists.{option_map_alike}

-- ---- truth values

only_of : (i l b c : Bool) → cond i true (cond l false b) ≡ true → (b ≡ true → c ≡ true) → cond i true (cond l false c) ≡ true
only_of true l b c e h = refl
only_of false true b c e h = cc
only_of false false b c e h = h e

read_same : (x o r s : Bool) (a b : Option End) → (o || r) ≡ true → (r ≡ true → s ≡ true) → cond x a (cond o None (cond s b None)) ≡ cond x a (cond o None (cond r b None))
read_same true o r s a b e h = refl
read_same false true r s a b e h = refl
read_same false false r s a b e h = cond-true s b None (h e) ∙ sym (cond-true r b None e)

-- ---- the input that was read last

-- where it is the job's, it is so by the job's own entries
pub reads_own : (j : Job) (past : List Entry) → reads_for j past ≡ true → reads_for j (of_job j past) ≡ true
reads_own j [] e = cc
reads_own j (made.Read path most found ∷ past) e = elim (cases_Bool (is_own_path j path || after_read j path (reads_for j past))) [
  | inl i ↦
      ap (reads_for j) (cond-true (is_own_path j path || after_read j path (reads_for j past)) (made.Read path most found ∷ of_job j past) (of_job j past) i)
      ∙ only_of (bytes_eq j.input path) (list_any (bytes_eq path) j.inputs) (reads_for j past) (reads_for j (of_job j past)) e (reads_own j past)
  | inr i ↦ absurd (not_both (after_read j path (reads_for j past)) e (or_parts (is_own_path j path) (after_read j path (reads_for j past)) i).1)
]
reads_own j (entry ∷ past) e = cond_both (is_of j entry past) (own_reports j entry ∷ of_job j past) (of_job j past) (λ xs. reads_for j xs ≡ true) (λ i. reads_own j past e) (λ i. reads_own j past e)

-- ---- refusals and failed calls

own_parts : (j : Job) (path : List ℕ) → is_own_path j path ≡ false
    → (bytes_eq j.output path ≡ false) × (bytes_eq j.input path ≡ false) × (bytes_eq (temporary_of j.output) path ≡ false) × (bytes_eq (connection_of j.output) path ≡ false)
own_parts j path e =
    let a = or_parts (bytes_eq j.output path || bytes_eq j.input path || bytes_eq (temporary_of j.output) path) (bytes_eq (connection_of j.output) path) e in
    let b = or_parts (bytes_eq j.output path || bytes_eq j.input path) (bytes_eq (temporary_of j.output) path) a.0 in
    let c = or_parts (bytes_eq j.output path) (bytes_eq j.input path) b.0 in
    (c.0, c.1, b.1, a.1)

no_end : (b : Bool) (end : End) → b ≡ false → end_if b end ≡ None
no_end true end e = cc
no_end false end e = refl

no_file_end : (j : Job) (path step : List ℕ) → is_own_path j path ≡ false → file_end j path step ≡ None
no_file_end j path step e =
    let own = own_parts j path e in
    both (end_if (bytes_eq (temporary_of j.output) path) _) (end_if (bytes_eq (connection_of j.output) path) _) (no_end (bytes_eq (temporary_of j.output) path) _ own.2) (no_end (bytes_eq (connection_of j.output) path) _ own.3)
  where
    both : (a b : Option End) → a ≡ None → b ≡ None → or_later a b ≡ None
    both a b e f = ap (λ o. or_later o b) e ∙ f

-- an entry of another job ends nothing
pub fault_theirs : (j : Job) (entry : Entry) (past : List Entry) → is_of j entry past ≡ false → fault_at j entry past ≡ None
fault_theirs j (made.Read path most found) past e =
    let parts = or_parts (is_own_path j path) (after_read j path (reads_for j past)) e in
    cond-false (bytes_eq j.input path) (input_end j path found) _ (own_parts j path parts.0).1
    ∙ cond-false (is_own_path j path) None _ parts.0
    ∙ cond-false (after_read j path (reads_for j past)) (spec_end j path found) None parts.1
fault_theirs j (made.Word None) past e = no_end (reads_for j past) _ e
fault_theirs j (made.Created path Failed) past e = no_file_end j path _ e
fault_theirs j (made.Wrote path bytes Failed) past e = no_file_end j path _ e
fault_theirs j (made.Synced path Failed) past e = no_file_end j path _ e
fault_theirs j (made.Renamed from to Failed) past e = no_end (bytes_eq j.output to) _ (own_parts j to (or_parts (is_own_path j from) (is_own_path j to) e).1).0
fault_theirs j (made.DirSynced dir Failed) past e = no_end (is_onto j past) _ e
fault_theirs j (made.Ports job None) past e = no_end (job == j.number) _ e
fault_theirs j (made.Connected conn port connected.Failed) past e = no_end (conn.job == j.number) _ e
fault_theirs j (made.ReadFailed conn) past e = no_end (conn.job == j.number) _ e
fault_theirs j (made.PutFailed conn) past e = cond-false (conn.job == j.number) (put_end j conn.chan past) None e
fault_theirs j (made.Waited ms reports Failed) past e = cc
fault_theirs j (made.Started job argv env dir Failed) past e = no_end (job == j.number) _ e
fault_theirs j _ past e = refl

-- an entry of the job ends the same among the job's entries
pub fault_ours : (j : Job) (entry : Entry) (past : List Entry) → is_of j entry past ≡ true → fault_at j (own_reports j entry) (of_job j past) ≡ fault_at j entry past
fault_ours j (made.Read path most found) past e =
    read_same (bytes_eq j.input path) (is_own_path j path) (after_read j path (reads_for j past)) (after_read j path (reads_for j (of_job j past))) (input_end j path found) (spec_end j path found) e
    (λ r. only_of (bytes_eq j.input path) (list_any (bytes_eq path) j.inputs) (reads_for j past) (reads_for j (of_job j past)) r (reads_own j past))
fault_ours j (made.Word None) past e = ap (λ b. end_if b NotStarted) (reads_own j past e ∙ sym e)
fault_ours j (made.DirSynced dir Failed) past e = ap (λ b. end_if b (NotSaved (message DirSync))) (own_onto j past e ∙ sym e)
fault_ours j (made.PutFailed conn) past e = ap (λ o. cond (conn.job == j.number) o None) (sym (put_end_alike j (own_alike j past) conn.chan))
fault_ours j (made.Word (Some word)) past e = refl
fault_ours j (made.Created path Done) past e = refl
fault_ours j (made.Created path Failed) past e = refl
fault_ours j (made.Wrote path bytes Done) past e = refl
fault_ours j (made.Wrote path bytes Failed) past e = refl
fault_ours j (made.Synced path Done) past e = refl
fault_ours j (made.Synced path Failed) past e = refl
fault_ours j (made.Renamed from to Done) past e = refl
fault_ours j (made.Renamed from to Failed) past e = refl
fault_ours j (made.DirSynced dir Done) past e = refl
fault_ours j (made.Ports job None) past e = refl
fault_ours j (made.Ports job (Some ports)) past e = refl
fault_ours j (made.Connected conn port connected.Begun) past e = refl
fault_ours j (made.Connected conn port connected.Refused) past e = refl
fault_ours j (made.Connected conn port connected.Failed) past e = refl
fault_ours j (made.Waited ms reports Failed) past e = refl
fault_ours j (made.Waited ms reports Done) past e = refl
fault_ours j (made.Started job argv env dir Done) past e = refl
fault_ours j (made.Started job argv env dir Failed) past e = refl
fault_ours j _ past e = refl

-- ---- stops

end_by_alike : (j : Job) {p q : List Entry} → Alike j p q → (w : Why) → end_by j p w ≡ end_by j q w
end_by_alike j a cause.Done = refl
end_by_alike j a cause.CellError = ap (λ rs. CellError (index_or_zero (last_cell j.task.plan rs)) (name_of (last_request 0 rs))) (requests_alike j a)
end_by_alike j a cause.NotReady = refl
end_by_alike j a cause.KernelLost = refl
end_by_alike j a cause.TimedOut = ap (λ rs. TimedOut (index_or_zero (last_cell j.task.plan rs))) (requests_alike j a)
end_by_alike j a cause.NoIdle = ap (λ rs. NoIdle (index_or_zero (last_cell j.task.plan rs))) (requests_alike j a)
end_by_alike j a cause.BadPeer = ap peer_end (bad_stream_alike j (near a))

-- the same stops the job
pub stop_alike : (j : Job) {p q : List Entry} → Alike j p q → stop_of j p ≡ stop_of j q
stop_alike j {p} {q} a =
    let b = before_shut_alike j a in
    ap (λ (ss : List Save). cond (nat_le (length ss) (saves_of j p)) (option_map (end_by j (before_shut j p)) (why j (before_shut j p))) None) (saves_alike j a)
    ∙ ap (λ n. cond (nat_le (length (saves j q)) n) (option_map (end_by j (before_shut j p)) (why j (before_shut j p))) None) (acked_alike j a)
    ∙ ap (λ o. cond (nat_le (length (saves j q)) (saves_of j q)) o None)
    (ap (option_map (end_by j (before_shut j p))) (why_alike j b) ∙ option_map_alike (end_by j (before_shut j p)) (end_by j (before_shut j q)) (end_by_alike j b) (why j (before_shut j q)))

-- ---- the end

alone : Option Ended → Option End
alone o = option_map (λ (e : Ended). e.end) o

alone_now : (now : List Entry) (end : Option End) → option_map (λ (e : Ended). e.end) (ended_now now end) ≡ end
alone_now now None = refl
alone_now now (Some end) = refl

alone_or : (o : Option Ended) (now : List Entry) (end : Option End) → option_map (λ (e : Ended). e.end) (or_later o (ended_now now end)) ≡ or_later (option_map (λ (e : Ended). e.end) o) end
alone_or None now end = alone_now now end
alone_or (Some e) now end = refl

-- the end by one more entry
end_after : (j : Job) (entry : Entry) (past : List Entry) → end_alone j (entry ∷ past) ≡ or_later (end_alone j past) (or_later (fault_at j entry past) (stop_of j (entry ∷ past)))
end_after j entry past = alone_or (ending_of j past) (entry ∷ past) (or_later (fault_at j entry past) (stop_of j (entry ∷ past)))

twice : (o : Option End) → or_later o o ≡ o
twice None = refl
twice (Some e) = refl

held_by : (a f s : Option End) → or_later (or_later a (or_later f s)) s ≡ or_later a (or_later f s)
held_by (Some e) f s = refl
held_by None (Some e) s = refl
held_by None None s = twice s

-- what stops the job now has ended it
stops_held : (j : Job) (past : List Entry) → or_later (end_alone j past) (stop_of j past) ≡ end_alone j past
stops_held j [] = ap (λ o. or_later o (stop_of j [])) (alone_now [] (stop_of j [])) ∙ twice (stop_of j []) ∙ sym (alone_now [] (stop_of j []))
stops_held j (entry ∷ past) =
    ap (λ o. or_later o (stop_of j (entry ∷ past))) (end_after j entry past)
    ∙ held_by (end_alone j past) (fault_at j entry past) (stop_of j (entry ∷ past))
    ∙ sym (end_after j entry past)

-- an entry of another job doesn't end it
pub end_foreign : (j : Job) (entry : Entry) (past : List Entry) → is_of j entry past ≡ false → end_alone j (entry ∷ past) ≡ end_alone j past
end_foreign j entry past e =
    end_after j entry past
    ∙ ap (λ o. or_later (end_alone j past) (or_later o (stop_of j (entry ∷ past)))) (fault_theirs j entry past e)
    ∙ ap (or_later (end_alone j past)) (stop_alike j (alike_foreign j entry past e))
    ∙ stops_held j past

-- a job ends as by its own entries
pub own_end : (j : Job) (past : List Entry) → end_alone j (of_job j past) ≡ end_alone j past
own_end j [] = refl
own_end j (entry ∷ past) = elim (cases_Bool (is_of j entry past)) [
  | inl e ↦
      let now : of_job j (entry ∷ past) ≡ own_reports j entry ∷ of_job j past = cond-true (is_of j entry past) _ _ e in
      ap (end_alone j) now
      ∙ end_after j (own_reports j entry) (of_job j past)
      ∙ ap (λ o. or_later o (or_later (fault_at j (own_reports j entry) (of_job j past)) (stop_of j (own_reports j entry ∷ of_job j past)))) (own_end j past)
      ∙ ap (λ o. or_later (end_alone j past) (or_later o (stop_of j (own_reports j entry ∷ of_job j past)))) (fault_ours j entry past e)
      ∙ ap (λ xs. or_later (end_alone j past) (or_later (fault_at j entry past) (stop_of j xs))) (sym now)
      ∙ ap (λ o. or_later (end_alone j past) (or_later (fault_at j entry past) o)) (sym (stop_alike j (own_alike j (entry ∷ past))))
      ∙ sym (end_after j entry past)
  | inr e ↦ ap (end_alone j) (cond-false (is_of j entry past) (own_reports j entry ∷ of_job j past) (of_job j past) e) ∙ own_end j past ∙ sym (end_foreign j entry past e)
]

-- its status is that of its own entries
pub own_status : (j : Job) (past : List Entry) → status_of j (of_job j past) ≡ status_of j past
own_status j past = ap status_or_spent (own_end j past)
