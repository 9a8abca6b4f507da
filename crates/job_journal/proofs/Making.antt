-- The saves that were made go on with the journal.
use Rattle.std.proofs.Common.{◌≡◌, ℕ, ◌+◌, ◌<◌, List, [], ◌∷◌, ◌++◌, length, map, take, drop, Bool, true, false, ◌&&◌, ◌||◌, cond, Option, Some, None, refl, sym, ◌∙◌, ap, append_assoc, length-append}
use Rattle.std.specs.Prelude.{◌==◌, slice_get}
use Rattle.std.specs.Str.{bytes_eq}
use Rattle.std.proofs.Math.Bool.{and-true}
use Rattle.std.proofs.lemmas.Bool.{cond-true, cond-false, lt-ltb}
use Rattle.std.proofs.lemmas.List.{append-nil, map-append, take-append-drop}
use Rattle.std.proofs.lemmas.Option.{same_Some}
use Rattle.world.specs.declared.did.Did.TheVariants.{Done, Failed}
use Rattle.world.specs.declared.entry.Entry.{Entry}
use Rattle.world.specs.declared.entry.Entry.TheVariants as made
use Rattle.world.specs.Acked.{renames}
use Rattle.world.specs.Disk as disk
use Rattle.world.specs.Save.{temporary_of}
use Rattle.world.proofs.PlaceLemmas.{created_fresh, synced_whole, wrote_fresh}
use Rattle.jtext.proofs.Equals.{same_bytes}
use Rattle.save_disk.specs.Entries.{Writes, WroteAnd, none, more}
use Rattle.zmtp_wire.specs.Meaning.{Begins}
use Rattle.cell_core.specs.declared.event.Event.{Event}
use Rattle.cell_core.specs.declared.why.Why.{Why}
use Rattle.cell_core.specs.declared.why.Why.TheVariants as cause
use Rattle.cell_core.specs.Events as events
use Rattle.cell_core.specs.Requests as core
use Rattle.cell_core.specs.Saves as core_saves
use Rattle.run_journal.specs.Job.{Job}
use Rattle.run_journal.specs.Requests.{Request, requests}
use Rattle.run_journal.specs.Saves.{Save, renamed_texts, run_saves, save}
use Rattle.run_journal.specs.Agreement.{Agrees}
use Rattle.run_journal.specs.Grow.{GoOn}
use Rattle.run_journal.proofs.Growth.{begins_then, begins_front, open_saves, passes_grow, run_begins}
use Rattle.job_journal.specs.Made.{passing_saves, HasMade}
use Rattle.job_journal.proofs.Saving.{whole_is}

-- ---- entries

-- before any rename onto the output none was made
pub made_first : (j : Job) (due : List Save) (now : List Entry) → renamed_texts j now ≡ [] → HasMade j due 0 now
made_first j due now e = record { made = []; texts = e; counted = refl; are_first = record { rest = due; joined = refl } }

pub same_texts : (j : Job) (entry : Entry) (past : List Entry) → renames (temporary_of j.output) j.output entry ≡ false → renamed_texts j (entry ∷ past) ≡ renamed_texts j past
same_texts j entry past e = cond-false (renames (temporary_of j.output) j.output entry) (renamed_texts j past ++ (disk.place past (temporary_of j.output)).fresh ∷ []) (renamed_texts j past) e

-- an entry that renames nothing onto the output changes nothing
pub made_stays : (j : Job) (due : List Save) (n : ℕ) (entry : Entry) (past : List Entry) → renames (temporary_of j.output) j.output entry ≡ false
    → HasMade j due n past → HasMade j due n (entry ∷ past)
made_stays j due n entry past e h = record { made = h.made; texts = same_texts j entry past e ∙ h.texts; counted = h.counted; are_first = h.are_first }

-- ---- saves

writes_texts : (j : Job) (path text : List ℕ) {before : List Entry} {rest : List ℕ} {past : List Entry} → Writes path text before rest past → renamed_texts j past ≡ renamed_texts j before
writes_texts j path text none = refl
writes_texts j path text (more {rest} {past} n w) = same_texts j (made.Wrote path (take n rest) Done) past refl ∙ writes_texts j path text w

-- the file has these bytes, and what is left of the text is to be written
record Written (path text rest : List ℕ) (past : List Entry) : Type 0 where
  bytes : List ℕ
  whole : bytes ++ rest ≡ text
  fresh : (disk.place past path).fresh ≡ Some bytes

writes_bytes : (path text : List ℕ) {before : List Entry} {rest : List ℕ} {past : List Entry} → (disk.place before path).fresh ≡ Some [] → Writes path text before rest past → Written path text rest past
writes_bytes path text new none = record { bytes = []; whole = refl; fresh = new }
writes_bytes path text new (more {rest} {past} n w) =
    let b = writes_bytes path text new w in
    record {
      bytes = b.bytes ++ take n rest;
      whole = append_assoc b.bytes (take n rest) (drop n rest) ∙ ap (λ xs. b.bytes ++ xs) (take-append-drop n rest) ∙ b.whole;
      fresh = wrote_fresh path b.bytes (take n rest) past b.fresh;
    }

-- a whole text that was written, synced and renamed is the next of those that were renamed
renamed_one : (j : Job) (text : List ℕ) (before past : List Entry) → Writes (temporary_of j.output) text (made.Created (temporary_of j.output) Done ∷ before) [] past
    → renamed_texts j (made.Renamed (temporary_of j.output) j.output Done ∷ made.Synced (temporary_of j.output) Done ∷ past) ≡ renamed_texts j before ++ Some text ∷ []
renamed_one j text before past w =
    let tmp : List ℕ = temporary_of j.output in
    let synced : List Entry = made.Synced tmp Done ∷ past in
    let b = writes_bytes tmp text (created_fresh tmp before) w in
    let whole : b.bytes ≡ text = sym (append-nil b.bytes) ∙ b.whole in
    let known : (disk.place synced tmp).fresh ≡ Some text = ap (λ (p : disk.Place). p.fresh) (synced_whole tmp b.bytes past b.fresh) ∙ ap (λ x. Some x) whole in
    let renamed : renames tmp j.output (made.Renamed tmp j.output Done) ≡ true = ap (λ x. x && bytes_eq j.output j.output) (same_bytes tmp) ∙ same_bytes j.output in
    cond-true (renames tmp j.output (made.Renamed tmp j.output Done)) (renamed_texts j synced ++ (disk.place synced tmp).fresh ∷ []) (renamed_texts j synced) renamed
    ∙ ap (λ x. renamed_texts j synced ++ x ∷ []) known
    ∙ ap (λ xs. xs ++ Some text ∷ []) (same_texts j (made.Synced tmp Done) past refl ∙ writes_texts j tmp text w ∙ same_texts j (made.Created tmp Done) before refl)

begins_next : (xs due : List Save) (s : Save) → Begins xs due → slice_get due (length xs) ≡ Some s → Begins (xs ++ s ∷ []) due
begins_next xs due s b e = by b.rest (sym (ap (λ v. slice_get v (length xs)) b.joined) ∙ e) b.joined
  where
    at_end : (xs rest : List Save) → slice_get (xs ++ rest) (length xs) ≡ slice_get rest 0
    at_end [] rest = refl
    at_end (x ∷ xs) rest = at_end xs rest

    by : (rest : List Save) → slice_get (xs ++ rest) (length xs) ≡ Some s → due ≡ xs ++ rest → Begins (xs ++ s ∷ []) due
    by [] e f = let g = sym (at_end xs []) ∙ e in cc
    by (x ∷ rest) e f =
        let same : x ≡ s = same_Some _ _ (sym (at_end xs (x ∷ rest)) ∙ e) in
        record { rest = rest; joined = f ∙ ap (λ y. xs ++ y ∷ rest) same ∙ sym (append_assoc xs (s ∷ []) rest) }

renamed_made : (j : Job) (due : List Save) (n : ℕ) (s : Save) (past now : List Entry) → slice_get due n ≡ Some s → renamed_texts j now ≡ renamed_texts j past ++ Some s.text ∷ []
    → HasMade j due n past → HasMade j due (n + 1) now
renamed_made j due n s past now e t h = record {
  made = h.made ++ s ∷ [];
  texts = t ∙ ap (λ xs. xs ++ Some s.text ∷ []) h.texts ∙ sym (map-append (λ (s : Save). Some s.text) h.made (s ∷ []));
  counted = length-append h.made (s ∷ []) ∙ ap (λ m. m + 1) h.counted;
  are_first = begins_next h.made due s h.are_first (ap (slice_get due) h.counted ∙ e);
}

-- the next save is made
pub made_next : (j : Job) (due : List Save) (n : ℕ) (s : Save) (past now : List Entry) → slice_get due n ≡ Some s
    → WroteAnd j.output s.text past (λ xs. made.DirSynced (disk.folder_of j.output) Done ∷ made.Renamed (temporary_of j.output) j.output Done ∷ made.Synced (temporary_of j.output) Done ∷ xs) now
    → HasMade j due n past → HasMade j due (n + 1) now
made_next j due n s past now e w h =
    renamed_made j due n s past now e
    (ap (renamed_texts j) w.ends ∙ same_texts j (made.DirSynced (disk.folder_of j.output) Done) (made.Renamed (temporary_of j.output) j.output Done ∷ made.Synced (temporary_of j.output) Done ∷ w.past) refl ∙ renamed_one j s.text past w.past w.writes) h

-- so it is where only the sync of the folder failed
pub made_unsynced : (j : Job) (due : List Save) (n : ℕ) (s : Save) (past now : List Entry) → slice_get due n ≡ Some s
    → WroteAnd j.output s.text past (λ xs. made.DirSynced (disk.folder_of j.output) Failed ∷ made.Renamed (temporary_of j.output) j.output Done ∷ made.Synced (temporary_of j.output) Done ∷ xs) now
    → HasMade j due n past → HasMade j due (n + 1) now
made_unsynced j due n s past now e w h =
    renamed_made j due n s past now e
    (ap (renamed_texts j) w.ends ∙ same_texts j (made.DirSynced (disk.folder_of j.output) Failed) (made.Renamed (temporary_of j.output) j.output Done ∷ made.Synced (temporary_of j.output) Done ∷ w.past) refl ∙ renamed_one j s.text past w.past w.writes) h

-- ---- while requests go on

-- what was made stays the first of what is due, however the requests go on and whatever stops the job
pub made_grows : (j : Job) (n : ℕ) (rs ss : List Request) (now : List Entry) → GoOn rs ss → HasMade j (passing_saves j rs) n now
    → HasMade j (passing_saves j ss) n now × ((w : Option Why) → HasMade j (run_saves j ss w) n now)
made_grows j n rs ss now g h = (
  record { made = h.made; texts = h.texts; counted = h.counted; are_first = begins_then h.are_first (begins_front (save j [] 0 None) (passes_grow j [] 0 j.task.plan g)) },
  λ w. record { made = h.made; texts = h.texts; counted = h.counted; are_first = begins_then h.are_first (run_begins j rs ss w g) },
)

-- while nothing stops the core, only the saves of passed requests are due
pub due_while_running : (j : Job) (told : List Event) (past : List Entry) → Agrees j told past → 0 < length j.task.plan → core_saves.why j.task told ≡ None
    → run_saves j (requests j past) None ≡ passing_saves j (requests j past)
due_while_running j told past a p e =
    open_saves j (requests j past) None (sym (whole_is j told past a p) ∙ not_whole) refl
  where
    by : (b : Bool) (o : Option Why) → cond b (Some cause.Done) o ≡ None → b ≡ false
    by true o f = cc
    by false o f = refl

    not_whole : core_saves.is_whole j.task (core.standing j.task told) ≡ false
    not_whole =
        sym (and-true (core_saves.is_whole j.task (core.standing j.task told)))
        ∙ ap (λ b. core_saves.is_whole j.task (core.standing j.task told) && (b || length (core_saves.plan_saves j.task told) == events.ack_count told)) (sym (lt-ltb 0 (length j.task.plan) p))
        ∙ by (core_saves.is_done j.task told) (core_saves.why_not_done j.task (core.standing j.task told) told) e

-- what was renamed is the texts of the first saves that are due
pub made_texts : (j : Job) (due : List Save) (n : ℕ) (now : List Entry) → HasMade j due n now → renamed_texts j now ≡ map (λ (s : Save). Some s.text) (take n due)
made_texts j due n now h =
    h.texts ∙ ap (map (λ (s : Save). Some s.text)) (sym (ap (take n) h.are_first.joined ∙ ap (λ m. take m (h.made ++ h.are_first.rest)) (sym h.counted) ∙ taken h.made h.are_first.rest))
  where
    taken : (xs ys : List Save) → take (length xs) (xs ++ ys) ≡ xs
    taken [] [] = refl
    taken [] (y ∷ ys) = refl
    taken (x ∷ xs) ys = ap (λ v. x ∷ v) (taken xs ys)
