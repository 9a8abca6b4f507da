-- One request at a time, the saves at entries that change nothing else, and what a crash may leave at the output.
use Rattle.std.proofs.Common.{◌≡◌, ◌⊎◌, inl, inr, ℕ, zero, suc, ◌+◌, ◌<◌, ◌≤◌, List, [], ◌∷◌, ◌++◌, length, map, Bool, true, false, ◌&&◌, ◌||◌, not, cond, Option, Some, None, refl, sym, ◌∙◌, ap, subst, arith, length-append}
use Rattle.std.specs.Prelude.{nat_lt, ◌==◌, slice_get, IsSomeAnd}
use Rattle.std.specs.Str.{bytes_eq}
use Rattle.std.proofs.lemmas.List.{length-map, map-append}
use Rattle.std.proofs.lemmas.Bool.{and_parts, and_left, and_right, cond-true, cond-false, cond_both, cases_Bool, ltb-true, eqb-true, ne_eqb, not_from_true, or_parts}
use Rattle.world.specs.declared.did.Did.TheVariants.{Done, Failed}
use Rattle.world.specs.declared.entry.Entry.{Entry}
use Rattle.world.specs.declared.entry.Entry.TheVariants as made
use Rattle.world.specs.declared.left.Left.{Left}
use Rattle.world.specs.declared.left.Left.TheVariants.{Old, Whole, Absent, Any}
use Rattle.world.specs.Disk.{Place, place, Among, settled_place, folder_of}
use Rattle.world.specs.Moments.{Since, start as begin, more as later}
use Rattle.world.specs.Parts.{OnDisk, part_of}
use Rattle.world.specs.Places.{time}
use Rattle.save_disk.specs.Places.{save_count}
use Rattle.progress_save.specs.Safe.{IsText, IsLastOrNext, IsPlace, IsSafe}
use Rattle.cell_core.specs.declared.why.Why.{Why}
use Rattle.cell_core.specs.declared.why.Why.TheVariants as cause
use Rattle.zmtp_wire.specs.Meaning.{Begins}
use Rattle.run_journal.specs.Job.{Job}
use Rattle.run_journal.specs.Parts.{saves_of, is_acknowledging, is_shut}
use Rattle.run_journal.specs.OfJob.{is_own_path, is_of}
use Rattle.run_journal.specs.Arrivals.{ask_state, is_ready}
use Rattle.run_journal.specs.Requests.{Request, is_last_passed, is_next, with_interrupt, goes_on, fresh, count_queued, requests}
use Rattle.run_journal.specs.Why.{cause_if, is_done, are_acked, plain_count, why}
use Rattle.run_journal.specs.Saves.{Save, save, passes, is_marked, stopping, is_complete, run_saves, saves_by, saves, texts}
use Rattle.run_journal.specs.Grow.{ArePassed}
use Rattle.run_journal.specs.Safety.{IsSafeNow, StepsSafely}
use Rattle.run_journal.proofs.Alike.{Quiet, near_self, skips, quiet_by}
use Rattle.run_journal.proofs.Growth.{passed_stays, goes, begins_self, begins_then, begins_as, no_stop, acked_grows, before_all, saves_end, go_append, go_self, open_saves, run_begins, unplanned_grow, given_grow}
use Rattle.run_journal.proofs.Isolation.{requests_quiet, why_but_done}
use Rattle.jtext.proofs.Equals.{turned_bytes}

-- ---- never two requests at once

passed_map : (j : Job) (entry : Entry) (past : List Entry) (k : ℕ) (rs : List Request) → ArePassed j k rs → ArePassed j k (map (goes_on j entry past) rs)
passed_map j entry past k [] h = tt
passed_map j entry past k (r ∷ []) h = tt
passed_map j entry past k (r ∷ s ∷ rs) h = (passed_stays r (goes_on j entry past r) (goes j entry past r) j k h.0, passed_map j entry past (k + 1) (s ∷ rs) h.1)

passed_push : (j : Job) (k : ℕ) (r : Request) (rs : List Request) (q : Request) → ArePassed j k (r ∷ rs) → is_last_passed j k (r ∷ rs) ≡ true → ArePassed j k (r ∷ rs ++ q ∷ [])
passed_push j k r [] q h e = (e, tt)
passed_push j k r (s ∷ rs) q h e = (h.0, passed_push j (k + 1) s rs q h.1 e)

-- what a next request needs of those before it
pub record Follows (j : Job) (saves : ℕ) (r : Request) (rs : List Request) : Type 0 where
  pub passed : is_last_passed j 0 (r ∷ rs) ≡ true
  pub saved : saves ≡ length (r ∷ rs) + 1
  pub planned : length (r ∷ rs) < length j.task.plan

-- where the next request stands and another did before
pub follows : (j : Job) (acks ready : Bool) (saves : ℕ) (r : Request) (rs : List Request) → is_next j acks ready saves (r ∷ rs) ≡ true → Follows j saves r rs
follows j acks ready saves r rs e =
    let a = and_parts ((acks && is_last_passed j 0 (r ∷ rs)) && saves == length (r ∷ rs) + 1) (nat_lt (length (r ∷ rs)) (length j.task.plan)) e in
    let b = and_parts (acks && is_last_passed j 0 (r ∷ rs)) (saves == length (r ∷ rs) + 1) a.0 in
    record {
      passed = (and_parts acks (is_last_passed j 0 (r ∷ rs)) b.0).1;
      saved = eqb-true saves (length (r ∷ rs) + 1) b.1;
      planned = ltb-true (length (r ∷ rs)) (length j.task.plan) a.1;
    }

passed_next : (j : Job) (acks ready : Bool) (saves : ℕ) (rs : List Request) (q : Request) → ArePassed j 0 rs → is_next j acks ready saves rs ≡ true → ArePassed j 0 (rs ++ q ∷ [])
passed_next j acks ready saves [] q h e = tt
passed_next j acks ready saves (r ∷ rs) q h e = passed_push j 0 r rs q h (follows j acks ready saves r rs e).passed

-- each request but the last is over with a reply that isn't fatal
pub all_but_last : (j : Job) (past : List Entry) → ArePassed j 0 (requests j past)
all_but_last j [] = tt
all_but_last j (entry ∷ past) =
    let rs : List Request = map (goes_on j entry past) (requests j past) in
    let h : ArePassed j 0 rs = passed_map j entry past 0 (requests j past) (all_but_last j past) in
    cond_both (is_next j (is_acknowledging j (entry ∷ past)) (is_ready j (entry ∷ past)) (saves_of j (entry ∷ past)) rs)
    (rs ++ with_interrupt j (entry ∷ past) (fresh (count_queued (length (ask_state j (entry ∷ past)).ids) rs + 1) (time past)) ∷ []) rs
    (λ ss. ArePassed j 0 ss)
    (λ e. passed_next j (is_acknowledging j (entry ∷ past)) (is_ready j (entry ∷ past)) (saves_of j (entry ∷ past)) rs _ h e)
    (λ e. h)

-- ---- a request for each acknowledged save, at most, and for each cell

few_next : (j : Job) (acks ready : Bool) (saves : ℕ) (rs : List Request) → is_next j acks ready saves rs ≡ true → (length rs < saves) × (length rs < length j.task.plan)
few_next j acks ready saves [] e =
    let a = and_parts (ready && nat_lt 0 saves) (nat_lt 0 (length j.task.plan)) e in
    (ltb-true 0 saves (and_parts ready (nat_lt 0 saves) a.0).1, ltb-true 0 (length j.task.plan) a.1)
few_next j acks ready saves (r ∷ rs) e =
    let f = follows j acks ready saves r rs e in
    let s : saves ≡ length (r ∷ rs) + 1 = f.saved in
    (omega (arith, s), f.planned)

-- no more requests stand than saves are acknowledged, and than cells are to run
pub few_requests : (j : Job) (past : List Entry) → (length (requests j past) ≤ saves_of j past) × (length (requests j past) ≤ length j.task.plan)
few_requests j [] = (omega arith, omega arith)
few_requests j (entry ∷ past) =
    let rs : List Request = map (goes_on j entry past) (requests j past) in
    let old = few_requests j past in
    let grow = acked_grows j entry past in
    let same : length rs ≡ length (requests j past) = length-map (requests j past) (goes_on j entry past) in
    cond_both (is_next j (is_acknowledging j (entry ∷ past)) (is_ready j (entry ∷ past)) (saves_of j (entry ∷ past)) rs)
    (rs ++ with_interrupt j (entry ∷ past) (fresh (count_queued (length (ask_state j (entry ∷ past)).ids) rs + 1) (time past)) ∷ []) rs
    (λ ss. (length ss ≤ saves_of j (entry ∷ past)) × (length ss ≤ length j.task.plan))
    (λ e. let n = few_next j (is_acknowledging j (entry ∷ past)) (is_ready j (entry ∷ past)) (saves_of j (entry ∷ past)) rs e in (one_longer rs _ _ n.0, one_longer rs _ _ n.1))
    (λ e. (omega (arith, old.0, grow.0, same), omega (arith, old.1, same)))
  where
    one_longer : (rs : List Request) (q : Request) (n : ℕ) → length rs < n → length (rs ++ q ∷ []) ≤ n
    one_longer rs q n h = omega (arith, length-append rs (q ∷ []), h)

-- ---- a quiet entry, as one of the job's own saves, takes no save back

-- where the next request comes to stand no stop is saved
no_stop_next : (j : Job) (acks ready : Bool) (saves : ℕ) (rs : List Request) (w : Option Why) → is_next j acks ready saves rs ≡ true → stopping j rs w ≡ []
no_stop_next j acks ready saves [] w e = no_stop j w
no_stop_next j acks ready saves (r ∷ rs) w e =
    cond-false (is_marked w && not (is_last_passed j 0 (r ∷ rs))) _ _ (and_right (is_marked w) _ (not_from_true (is_last_passed j 0 (r ∷ rs)) (follows j acks ready saves r rs e).passed))

-- and what is due is the first save and that of each request
due_next : (j : Job) (acks ready : Bool) (saves : ℕ) (rs : List Request) (w : Option Why) → is_next j acks ready saves rs ≡ true
    → run_saves j rs w ≡ save j [] 0 None ∷ passes j [] 0 j.task.plan rs
due_next j acks ready saves rs w e =
    let few = few_next j acks ready saves rs e in
    let some : is_complete j rs ≡ false = and_left (length rs == length j.task.plan) _ (ne_eqb (length rs) (length j.task.plan) (λ same. absurd (omega (arith, few.1, same)))) in
    open_saves j rs w some (no_stop_next j acks ready saves rs w e)

done_alike : (j : Job) (m n : ℕ) (rs : List Request) → (length j.task.plan == 0) ≡ false → is_done j m rs ≡ is_done j n rs
done_alike j m n rs some = cond-false (length j.task.plan == 0) (are_acked (plain_count j j.given) m) _ some ∙ sym (cond-false (length j.task.plan == 0) (are_acked (plain_count j j.given) n) _ some)

-- at a quiet entry what stopped the job stays, where its requests do
why_quiet : (j : Job) (entry : Entry) (past : List Entry) → Quiet j entry → (length j.task.plan == 0) ≡ false → requests j (entry ∷ past) ≡ requests j past → why j (entry ∷ past) ≡ why j past
why_quiet j entry past f some same =
    why_but_done j (skips f (near_self j past))
    (ap (λ b. cause_if b cause.Done) (done_alike j (saves_of j (entry ∷ past)) (saves_of j past) (requests j (entry ∷ past)) some ∙ ap (is_done j (saves_of j past)) same)) same

saves_by_quiet : (j : Job) (entry : Entry) (past : List Entry) → Quiet j entry → Begins (saves_by j past) (saves_by j (entry ∷ past))
saves_by_quiet j entry past f = given_grow j j.given (requests j past) (requests j (entry ∷ past)) (why j past) (why j (entry ∷ past)) (elim (cases_Bool (length j.task.plan == 0)) [
  | inl empty ↦ unplanned_grow j entry past empty
  | inr some ↦ elim (cases_Bool (is_next j (is_acknowledging j (entry ∷ past)) (is_ready j (entry ∷ past)) (saves_of j (entry ∷ past)) (requests j past))) [
    | inl e ↦
        let q : Request = with_interrupt j (entry ∷ past) (fresh (count_queued (length (ask_state j (entry ∷ past)).ids) (requests j past) + 1) (time past)) in
        let new : requests j (entry ∷ past) ≡ requests j past ++ q ∷ []
        = requests_quiet j past f ∙ cond-true (is_next j (is_acknowledging j (entry ∷ past)) (is_ready j (entry ∷ past)) (saves_of j (entry ∷ past)) (requests j past)) _ _ e in
        let w : Option Why = why j (entry ∷ past) in
        let ss : List Request = requests j past ++ q ∷ [] in
        let after : Begins (run_saves j (requests j past) (why j past)) (run_saves j ss w)
        = subst (λ xs. Begins xs (run_saves j ss w)) (sym (due_next j (is_acknowledging j (entry ∷ past)) (is_ready j (entry ∷ past)) (saves_of j (entry ∷ past)) (requests j past) (why j past) e))
        (run_begins j (requests j past) ss w (go_append (q ∷ []) (go_self (requests j past)))) in
        subst (λ rs. Begins (run_saves j (requests j past) (why j past)) (run_saves j rs w)) (sym new) after
    | inr e ↦
        let same : requests j (entry ∷ past) ≡ requests j past
        = requests_quiet j past f ∙ cond-false (is_next j (is_acknowledging j (entry ∷ past)) (is_ready j (entry ∷ past)) (saves_of j (entry ∷ past)) (requests j past)) _ _ e in
        let w : why j (entry ∷ past) ≡ why j past = why_quiet j entry past f some same in
        begins_as (begins_self _) (ap (λ rs. run_saves j rs (why j (entry ∷ past))) same ∙ ap (run_saves j (requests j past)) w)
  ]
])

-- at a quiet entry what is due stays due, whatever has stopped the job
pub saves_quiet : (j : Job) (entry : Entry) (past : List Entry) → Quiet j entry → Begins (saves j past) (saves j (entry ∷ past))
saves_quiet j entry past f = elim (cases_Bool (is_shut j past)) [
  | inl e ↦ begins_as (begins_self _) (saves_end j entry past e)
  | inr alive ↦
      let old = before_all j past alive in
      let new = before_all j (entry ∷ past) (ap (λ b. b || is_shut j past) f.closed ∙ alive) in
      subst (λ xs. Begins xs (saves j (entry ∷ past))) (sym (ap (saves_by j) old)) (begins_as (saves_by_quiet j entry past f) (ap (saves_by j) new))
]

-- an entry of the disk is quiet
pub quiet_on_disk : (j : Job) (entry : Entry) → part_of entry ≡ OnDisk → Quiet j entry
quiet_on_disk j (made.Ports job ports) e = cc
quiet_on_disk j (made.Connected conn port how) e = cc
quiet_on_disk j (made.Closed conn) e = cc
quiet_on_disk j (made.Got conn room bytes) e = cc
quiet_on_disk j (made.Dry conn) e = cc
quiet_on_disk j (made.Ended conn by) e = cc
quiet_on_disk j (made.Refused conn by) e = cc
quiet_on_disk j (made.ReadFailed conn) e = cc
quiet_on_disk j (made.Put conn bytes) e = cc
quiet_on_disk j (made.Stuck conn) e = cc
quiet_on_disk j (made.PutFailed conn) e = cc
quiet_on_disk j (made.Waited ms reports did) e = cc
quiet_on_disk j (made.Started job argv env dir did) e = cc
quiet_on_disk j (made.Looked job status) e = cc
quiet_on_disk j (made.Killed job) e = cc
quiet_on_disk j (made.Moment ms) e = cc
quiet_on_disk j (made.Word word) e = cc
quiet_on_disk j (made.Said bytes did) e = cc
quiet_on_disk j _ e = quiet_by j _ refl (λ was. refl) refl (λ c clock s. refl) (λ c. refl) refl refl refl refl

-- ---- what other jobs leave at the output

-- a path that isn't the job's isn't its output
unnamed : (j : Job) (path : List ℕ) → is_own_path j path ≡ false → bytes_eq path j.output ≡ false
unnamed j path e = turned_bytes path j.output ∙ (or_parts (bytes_eq j.output path) _ (or_parts (bytes_eq j.output path || bytes_eq j.input path) _ (or_parts _ _ e).0).0).0

module _ (Test : Left → Type 0) where
  only : (o x : Left) → Test x → Among o (x ∷ []) → Test o
  only o x h (inl e) = subst Test (sym e) h
  only o x h (inr n) = absurd n

  known : {o : Left} → Test o ⊎ (o ≡ Absent) ⊎ (o ≡ Any) → (Absent ≡ o → ⊥) → (Any ≡ o → ⊥) → Test o
  known (inl h) a b = h
  known (inr (inl e)) a b = absurd (a (sym e))
  known (inr (inr e)) a b = absurd (b (sym e))

  settle : (p : Place) → IsPlace Test p → (h : Option Left) → p.here ≡ h → IsPlace Test (settled_place p h)
  settle p s None e = s
  settle p s (Some Absent) e = s
  settle p s (Some Any) e = s
  settle p s (Some Old) e = record { options = λ o among. only o Old (known (s.here Old e) (λ x. cc) (λ x. cc)) among; here = s.here }
  settle p s (Some (Whole bytes)) e = record { options = λ o among. only o (Whole bytes) (known (s.here (Whole bytes) e) (λ x. cc) (λ x. cc)) among; here = s.here }

  kept : (b : Bool) (x p : Place) → b ≡ false → IsPlace Test p → IsPlace Test (cond b x p)
  kept b x p e s = subst (λ q. IsPlace Test q) (sym (cond-false b x p e)) s

  -- an entry of another job leaves the output's place as safe as it was
  pub foreign_place : (j : Job) (entry : Entry) (past : List Entry) → is_of j entry past ≡ false → IsPlace Test (place past j.output) → IsPlace Test (place (entry ∷ past) j.output)
  foreign_place j (made.Created path did) past e s = kept (bytes_eq path j.output) _ _ (unnamed j path e) s
  foreign_place j (made.Wrote path bytes did) past e s = kept (bytes_eq path j.output) _ _ (unnamed j path e) s
  foreign_place j (made.Synced path did) past e s = kept (bytes_eq path j.output) _ _ (unnamed j path e) s
  foreign_place j (made.Removed path did) past e s = kept (bytes_eq path j.output) _ _ (unnamed j path e) s
  foreign_place j (made.Renamed from to did) past e s =
      let p = or_parts (is_own_path j from) (is_own_path j to) e in
      kept (bytes_eq to j.output) _ _ (unnamed j to p.1) (kept (bytes_eq from j.output) _ _ (unnamed j from p.0) s)
  foreign_place j (made.DirSynced dir Failed) past e s = by (bytes_eq dir (folder_of j.output))
    where
      by : (b : Bool) → IsPlace Test (cond b (place past j.output) (place past j.output))
      by true = s
      by false = s
  foreign_place j (made.DirSynced dir Done) past e s = by (bytes_eq dir (folder_of j.output))
    where
      by : (b : Bool) → IsPlace Test (cond b (settled_place (place past j.output) (place past j.output).here) (place past j.output))
      by true = settle (place past j.output) s (place past j.output).here refl
      by false = s
  foreign_place j _ past e s = s

-- ---- from what is due at a moment to what is due in the end

get_more : {X : Type 0} (xs ys : List X) (n : ℕ) (P : X → Type 0) → IsSomeAnd (slice_get xs n) P → IsSomeAnd (slice_get (xs ++ ys) n) P
get_more [] ys n P h = absurd h
get_more (x ∷ xs) ys zero P h = h
get_more (x ∷ xs) ys (suc n) P h = get_more xs ys n P h

text_more : (xs ys : List (List ℕ)) → Begins xs ys → (n : ℕ) (o : Left) → IsText xs n o → IsText ys n o
text_more xs ys b zero o h = h
text_more xs ys b (suc n) o h = subst (λ zs. IsSomeAnd (slice_get zs n) (λ t. o ≡ Whole t)) (sym b.joined) (get_more xs b.rest n (λ t. o ≡ Whole t) h)

last_more : (xs ys : List (List ℕ)) → Begins xs ys → (n : ℕ) (o : Left) → IsLastOrNext xs n o → IsLastOrNext ys n o
last_more xs ys b n o (inl h) = inl (text_more xs ys b n o h)
last_more xs ys b n o (inr h) = inr (text_more xs ys b (n + 1) o h)

place_more : (P Q : Left → Type 0) → ((o : Left) → P o → Q o) → (p : Place) → IsPlace P p → IsPlace Q p
place_more P Q f p s = record { options = λ o among. f o (s.options o among); here = λ o e. either (s.here o e) }
  where
    either : {o : Left} → P o ⊎ ((o ≡ Absent) ⊎ (o ≡ Any)) → Q o ⊎ ((o ≡ Absent) ⊎ (o ≡ Any))
    either {o} (inl h) = inl (f o h)
    either (inr h) = inr h

texts_begin : (j : Job) (past now : List Entry) → Begins (saves j past) (saves j now) → Begins (texts j past) (texts j now)
texts_begin j past now b = record {
  rest = map (λ (s : Save). s.text) b.rest;
  joined = ap (map (λ (s : Save). s.text)) b.joined ∙ map-append (λ (s : Save). s.text) (saves j past) b.rest;
}

-- an output that is safe by what is due now is safe by what is due later
pub safe_later : (j : Job) (now end : List Entry) → Begins (saves j now) (saves j end) → IsSafeNow j now → IsSafe j.output (texts j end) now
safe_later j now end b s =
    place_more (IsLastOrNext (texts j now) (save_count j.output now)) (IsLastOrNext (texts j end) (save_count j.output now))
    (λ o. last_more (texts j now) (texts j end) (texts_begin j now end b) (save_count j.output now) o) (place now j.output) s

-- where each entry keeps the saves and leaves the output safe, it was safe at each moment by what is due in the end
pub safe_in_the_end : {j : Job} {before now : List Entry} → Since (StepsSafely j) before now → (end : List Entry) → Begins (saves j now) (saves j end) → Since (IsSafe j.output (texts j end)) before now
safe_in_the_end begin end b = begin
safe_in_the_end {j} (later {past} {entry} s p) end b = later (safe_in_the_end s end (begins_then p.keeps b)) (safe_later j (entry ∷ past) end b p.safe)
