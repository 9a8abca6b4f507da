-- Courses of saves, step by step.
use Rattle.std.proofs.Common.{◌≡◌, ◌≢◌, inl, ℕ, ◌+◌, ◌≤◌, Bool, true, false, List, [], ◌∷◌, ◌++◌, Result, Ok, Err, Some, refl, sym, ◌∙◌, ap, subst}
use Rattle.std.specs.Prelude.{slice_get, map}
use Rattle.std.proofs.lemmas.List.{map_push, length_push}
use Rattle.world.specs.declared.entry.Entry.{Entry}
use Rattle.world.specs.declared.entry.Entry.TheVariants as made
use Rattle.world.specs.Disk.{place, untouched_place}
use Rattle.world.specs.Moments.{Since, start, more as later}
use Rattle.world.specs.Parts.{IsNotOf, OnDisk, OnSay, part_of}
use Rattle.world.specs.Touched.{touches}
use Rattle.world.proofs.MomentsLemmas.{since_then, since_as}
use Rattle.world.proofs.PartsLemmas.{acked_other, is_not_of}
use Rattle.save_disk.specs.declared.save_fault.SaveFault.{SaveFault}
use Rattle.save_disk.specs.Entries.{SaveOf}
use Rattle.save_disk.specs.Places.{save_count}
use Rattle.world.specs.Save.{temporary_of}
use Rattle.said_lines.specs.Speech.{Says, whole, none}
use Rattle.said_lines.proofs.SpeechLemmas.{says_since}
use Rattle.progress_save.specs.declared.progress_fault.ProgressFault.{ProgressFault}
use Rattle.progress_save.specs.declared.progress_fault.ProgressFault.TheVariants as fault
use Rattle.progress_save.specs.Safe.{IsText, IsLastOrNext, IsPlace, IsSafe, IsHeld, IsNext, StaysSafe}
use Rattle.progress_save.specs.Saved.{SavesAs, done, failure}
use Rattle.progress_save.proofs.ManySaves.{weaker_place, untouched_held, last_or_next_before, spared_stays}
use Rattle.progress_save.proofs.SafeLemmas.{stays_safe}
use Rattle.progress_save.proofs.SavedLemmas.{ended}
use Rattle.out_fold.specs.Fit.{AreRead}
use Rattle.nb_model.specs.declared.notebook.Notebook.{Notebook}
use Rattle.save_course.specs.Course.{PrefixSave, prefix_text, Course, begins, passes, saves, fails, Rises, IsSavedAs, IsSavedSo, open_after, settled_after}
use Rattle.jtext.proofs.Lists.{last_at}
use Rattle.jtext.proofs.Keys.{all-push}

-- ---- lists

-- how many cells the last of these saves settles
abbrev last_settled : ℕ → List PrefixSave → ℕ
last_settled from [] = from
last_settled from (s ∷ rest) = last_settled s.settled rest

rises_with : (from : ℕ) (saved : List PrefixSave) (s : PrefixSave) → Rises from saved → last_settled from saved ≤ s.settled → Rises from (saved ++ s ∷ [])
rises_with from [] s h more = (more, tt)
rises_with from (t ∷ rest) s h more = (h.0, rises_with t.settled rest s h.1 more)

last_with : (from : ℕ) (saved : List PrefixSave) (s : PrefixSave) → last_settled from (saved ++ s ∷ []) ≡ s.settled
last_with from [] s = refl
last_with from (t ∷ rest) s = last_with t.settled rest s

-- ---- safety

held_safe : (output : List ℕ) (texts : List (List ℕ)) (now : List Entry) → IsHeld output texts now → IsSafe output texts now
held_safe output texts now h = weaker_place (λ o t. inl t) h

more_safe : (output : List ℕ) (texts others : List (List ℕ)) (now : List Entry) → IsSafe output texts now → IsSafe output (texts ++ others) now
more_safe output texts others now h = weaker_place (last_or_next_before (save_count output now) texts others) h

begins_safe : (output : List ℕ) (before : List Entry) → place before output ≡ untouched_place → save_count output before ≡ 0 → IsSavedAs output [] true before before
begins_safe output before untouched none_yet =
    let held = untouched_held output [] before untouched none_yet in
    record { moments = start; end = held_safe output [] before held; held = λ e. held; whole = λ e. none_yet; but_one = λ e. absurd (cc) }

passes_safe : (output : List ℕ) (texts : List (List ℕ)) (is_open : Bool) (before past : List Entry) (entry : Entry) → touches output entry ≡ false
    → save_count output (entry ∷ past) ≡ save_count output past → IsSavedAs output texts is_open before past → IsSavedAs output texts is_open before (entry ∷ past)
passes_safe output texts is_open before past entry spared same s =
    let safe : IsSafe output texts (entry ∷ past) =
    subst (λ n. IsPlace (IsLastOrNext texts n) (place (entry ∷ past) output)) (sym same)
    (spared_stays (IsLastOrNext texts (save_count output past)) output entry past spared s.end) in
    record {
      moments = later s.moments safe;
      end = safe;
      held = λ e. subst (λ n. IsPlace (IsText texts n) (place (entry ∷ past) output)) (sym same)
          (spared_stays (IsText texts (save_count output past)) output entry past spared (s.held e));
      whole = λ e. same ∙ s.whole e;
      but_one = λ e. ap (λ n. n + 1) same ∙ s.but_one e;
    }

-- the text is the next one
is_next : (output : List ℕ) (texts : List (List ℕ)) (text : List ℕ) (before past : List Entry) → IsSavedAs output texts true before past → IsNext output (texts ++ text ∷ []) text past
is_next output texts text before past s = subst (λ n. slice_get (texts ++ text ∷ []) n ≡ Some text) (sym (s.whole refl)) (last_at texts text)

stays : (output : List ℕ) (texts : List (List ℕ)) (text : List ℕ) (before past after : List Entry) (result : Result (Unit {0}) ProgressFault) → IsSavedAs output texts true before past
    → SavesAs output text [] ⊥ result past after → StaysSafe output (texts ++ text ∷ []) result past after
stays output texts text before past after result s saved =
    stays_safe output (texts ++ text ∷ []) text past (more_safe output texts (text ∷ []) past s.end) (is_next output texts text before past s) [] ⊥ result after saved

all_moments : (output : List ℕ) (texts : List (List ℕ)) (text : List ℕ) (before past after : List Entry) → IsSavedAs output texts true before past
    → Since (IsSafe output (texts ++ text ∷ [])) past after → Since (IsSafe output (texts ++ text ∷ [])) before after
all_moments output texts text before past after s since = since_then (since_as (more_safe output texts (text ∷ [])) s.moments) since

saves_safe : (output : List ℕ) (texts : List (List ℕ)) (text : List ℕ) (before past after : List Entry) → IsSavedAs output texts true before past → SaveOf output text done past after
    → IsSavedAs output (texts ++ text ∷ []) true before after
saves_safe output texts text before past after s saved =
    let ok : Result (Unit {0}) ProgressFault = Ok tt in
    let said : SavesAs output text [] ⊥ ok past after = record { past = after; saves = saved; says = whole none } in
    let kept = stays output texts text before past after ok s said in
    let end = ended output text [] ⊥ past ok after said in
    record {
      moments = all_moments output texts text before past after s kept.moments;
      end = kept.end;
      held = λ e. kept.done;
      whole = λ e. end.count_is ∙ ap (λ n. n + 1) (s.whole refl) ∙ sym (length_push texts text);
      but_one = λ e. absurd (cc);
    }

fails_safe : (output : List ℕ) (texts : List (List ℕ)) (text : List ℕ) (f : SaveFault) (before past after : List Entry) → IsSavedAs output texts true before past
    → SaveOf output text (failure f) past after → IsSavedAs output (texts ++ text ∷ []) false before after
fails_safe output texts text f before past after s failed =
    let kept = stays output texts text before past after (Err (fault.Save f)) s failed in
    let end = ended output text [] ⊥ past (Err (fault.Save f)) after failed in
    record {
      moments = all_moments output texts text before past after s kept.moments;
      end = kept.end;
      held = λ e. absurd (cc);
      whole = λ e. absurd (cc);
      but_one = λ e. ap (λ n. n + 1) (end.count_is ∙ s.whole refl) ∙ sym (length_push texts text);
    }

-- a course with its saves
record Followed (output : List ℕ) (merge : Bool) (first : Notebook) (from : ℕ) (before : List Entry) (is_open : Bool) (settled : ℕ) (after : List Entry) : Type 0 where
  saved : IsSavedSo output merge first from is_open before after
  last : last_settled from saved.saves ≡ settled

module _ (output : List ℕ) (merge : Bool) (first : Notebook) (from : ℕ) (before : List Entry) (untouched : place before output ≡ untouched_place) (none_yet : save_count output before ≡ 0) where
  abbrev texts_of : List PrefixSave → List (List ℕ)
  texts_of saved = map (prefix_text merge first) saved

  -- one more save
  added : (is_open : Bool) (settled : ℕ) (past after : List Entry) (s : PrefixSave) → settled ≤ s.settled → AreRead s.us → (f : Followed output merge first from before true settled past)
      → IsSavedAs output (texts_of f.saved.saves ++ prefix_text merge first s ∷ []) is_open before after → Followed output merge first from before is_open s.settled after
  added is_open settled past after s more read f so =
      record {
        saved = record {
          saves = f.saved.saves ++ s ∷ [];
          rising = rises_with from f.saved.saves s f.saved.rising (subst (λ n. n ≤ s.settled) (sym f.last) more);
          read = all-push (λ (t : PrefixSave). AreRead t.us) f.saved.saves s f.saved.read read;
          so = subst (λ ts. IsSavedAs output ts is_open before after) (sym (map_push (prefix_text merge first) f.saved.saves s)) so;
        };
        last = last_with from f.saved.saves s;
      }

  follows : {is_open : Bool} {settled : ℕ} {after : List Entry} → Course output merge first from before is_open settled after → Followed output merge first from before is_open settled after
  follows begins = record { saved = record { saves = []; rising = tt; read = tt; so = begins_safe output before untouched none_yet }; last = refl }
  follows (passes {is_open} {settled} {entry} {past} c spared same) =
      let f = follows c in
      let so = passes_safe output (texts_of f.saved.saves) is_open before past entry spared same f.saved.so in
      record { saved = record { saves = f.saved.saves; rising = f.saved.rising; read = f.saved.read; so = so }; last = f.last }
  follows (saves {settled} {past} {after} s c more read saved) =
      let f = follows c in
      added true settled past after s more read f (saves_safe output (texts_of f.saved.saves) (prefix_text merge first s) before past after f.saved.so saved)
  follows (fails {settled} {past} {after} s why c more read failed) =
      let f = follows c in
      added false settled past after s more read f (fails_safe output (texts_of f.saved.saves) (prefix_text merge first s) why before past after f.saved.so failed)

  pub course_safe : (is_open : Bool) (settled : ℕ) (after : List Entry) → Course output merge first from before is_open settled after → IsSavedSo output merge first from is_open before after
  course_safe is_open settled after c = (follows c).saved

-- ---- one behind another

module _ (output : List ℕ) (merge : Bool) (first : Notebook) (from : ℕ) (before : List Entry) where
  pub joined : {settled : ℕ} {past : List Entry} {is_open : Bool} {final : ℕ} {after : List Entry} → Course output merge first from before true settled past
      → Course output merge first settled past is_open final after → Course output merge first from before is_open final after
  joined c begins = c
  joined c (passes d spared same) = passes (joined c d) spared same
  joined c (saves s d more read saved) = saves s (joined c d) more read saved
  joined c (fails s why d more read failed) = fails s why (joined c d) more read failed

-- ---- what goes on with a course

-- what asks no disk touches no path
pub spared_other : (path : List ℕ) (entry : Entry) → part_of entry ≢ OnDisk → touches path entry ≡ false
spared_other path (made.Created p d) h = absurd (h refl)
spared_other path (made.Wrote p bytes d) h = absurd (h refl)
spared_other path (made.Synced p d) h = absurd (h refl)
spared_other path (made.Renamed from to d) h = absurd (h refl)
spared_other path (made.Removed p d) h = absurd (h refl)
spared_other path entry h = refl

module _ (output : List ℕ) (merge : Bool) (first : Notebook) (from : ℕ) (before : List Entry) where
  pub others_go_on : {is_open : Bool} {settled : ℕ} {past after : List Entry} → Course output merge first from before is_open settled past → Since (IsNotOf OnDisk) past after
      → Course output merge first from before is_open settled after
  others_go_on c start = c
  others_go_on c (later {past = mid} {entry = entry} since other) =
      passes (others_go_on c since) (spared_other output entry other) (acked_other (temporary_of output) output entry mid other)

  said_other : {line : List ℕ} {failed : Type 0} {past after : List Entry} → Says line failed past after → Since (IsNotOf OnDisk) past after
  said_other says = since_as (is_not_of OnSay OnDisk (λ e. absurd (cc))) (says_since says)

  pub saved_goes_on : (line : List ℕ) (failed : Type 0) (settled : ℕ) (result : Result (Unit {0}) ProgressFault) (s : PrefixSave) (past after : List Entry)
      → Course output merge first from before true settled past → settled ≤ s.settled → AreRead s.us → SavesAs output (prefix_text merge first s) line failed result past after
      → Course output merge first from before (open_after result) (settled_after result settled s.settled) after
  saved_goes_on line failed settled (Ok u) s past after c more read did = others_go_on (saves s c more read did.saves) (said_other did.says)
  saved_goes_on line failed settled (Err (fault.Save why)) s past after c more read did = fails s why c more read did
  saved_goes_on line failed settled (Err fault.Closed) s past after c more read did = subst (λ j. Course output merge first from before true settled j) (sym did) c
  saved_goes_on line failed settled (Err fault.NoMemory) s past after c more read did = subst (λ j. Course output merge first from before true settled j) (sym did) c
