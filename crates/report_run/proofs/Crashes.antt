-- What a crash leaves at the output, moment by moment.
use Rattle.std.proofs.Common.{◌≡◌, ◌⊎◌, inl, inr, ℕ, zero, suc, ◌-◌, List, [], ◌∷◌, ◌++◌, Result, Ok, Err, Some, length, drop, refl, sym, ◌∙◌, ap, subst, arith}
use Rattle.std.proofs.Math.Seq.{drop-length}
use Rattle.world.specs.declared.entry.Entry.{Entry}
use Rattle.world.specs.declared.entry.Entry.TheVariants.{Read}
use Rattle.world.specs.declared.left.Left.{Left}
use Rattle.world.specs.declared.left.Left.TheVariants as left
use Rattle.world.specs.declared.read_file.ReadFile.{ReadFile}
use Rattle.world.specs.declared.read_file.ReadFile.TheVariants as found
use Rattle.world.specs.Disk.{Place, place, leaves, Among, untouched_place}
use Rattle.world.specs.Moments.{Since, start, more as later}
use Rattle.world.proofs.MomentsLemmas.{since_as, since_at, since_then}
use Rattle.world.specs.Parts.{OnSay, IsOf}
use Rattle.world.proofs.PartsLemmas.{place_since}
use Rattle.save_disk.specs.declared.save_fault.SaveFault.{SaveFault}
use Rattle.save_disk.specs.Entries.{SaveOf}
use Rattle.save_disk.specs.Places.{SaveMoment, as_before, renamed, unsure, durable}
use Rattle.save_disk.proofs.Laws.{moments_of, part_of_save}
use Rattle.said_lines.proofs.SpeechLemmas.{says_since}
use Rattle.report_run.specs.declared.end.End.{End}
use Rattle.report_run.specs.declared.form.Form.{Form}
use Rattle.report_run.specs.declared.request.Request.{Request}
use Rattle.report_run.specs.Ended.{Ended, input_of, output_of}
use Rattle.report_run.specs.Made.{Gives}
use Rattle.report_run.specs.Ran.{SavesAs, Makes, Ran, IsTextOf, IsSafe, read_of}
use Rattle.report_run.specs.Ran as ran
use Rattle.report_run.specs.Words.{IsRequest, form_of}
use Rattle.report_run.proofs.Saves.{EndsWith, ends_since}

abbrev IsOldOrText : Request → List Entry → Left → Type 0
IsOldOrText r journal o = (o ≡ left.Old) ⊎ ((text : List ℕ) × IsTextOf r journal text × (o ≡ left.Whole text))

-- ---- by the options

module _ (r : Request) (journal : List Entry) where
  abbrev Good : List Entry → Type 0
  Good now = (o : Left) → Among o (leaves now r.output) → IsOldOrText r journal o

  old_only : (now : List Entry) → leaves now r.output ≡ left.Old ∷ [] → Good now
  old_only now is o among = by (subst (Among o) is among)
    where
      by : Among o (left.Old ∷ []) → IsOldOrText r journal o
      by (inl e) = inl e
      by (inr n) = absurd n

  text_only : (text : List ℕ) (now : List Entry) → IsTextOf r journal text → leaves now r.output ≡ left.Whole text ∷ [] → Good now
  text_only text now it is o among = by (subst (Among o) is among)
    where
      by : Among o (left.Whole text ∷ []) → IsOldOrText r journal o
      by (inl e) = inr (text, it, e)
      by (inr n) = absurd n

  old_or_text : (text : List ℕ) (now : List Entry) → IsTextOf r journal text → leaves now r.output ≡ left.Old ∷ left.Whole text ∷ [] → Good now
  old_or_text text now it is o among = by (subst (Among o) is among)
    where
      by : Among o (left.Old ∷ left.Whole text ∷ []) → IsOldOrText r journal o
      by (inl e) = inl e
      by (inr (inl e)) = inr (text, it, e)
      by (inr (inr n)) = absurd n

  -- ---- through a save

  good_moment : (text : List ℕ) (before now : List Entry) → place before r.output ≡ untouched_place → IsTextOf r journal text → SaveMoment r.output text before now → Good now
  good_moment text before now untouched it (as_before count is) = old_only now (ap (λ p. Place.options p) (is ∙ untouched))
  good_moment text before now untouched it (renamed count is) = old_or_text text now it (ap (λ p. Place.options p) is ∙ ap (λ p. Place.options p ++ left.Whole text ∷ []) untouched)
  good_moment text before now untouched it (unsure count is) = old_or_text text now it (ap (λ p. Place.options p) is ∙ ap (λ p. Place.options p ++ left.Whole text ∷ []) untouched)
  good_moment text before now untouched it (durable count is) = text_only text now it (ap (λ p. Place.options p) is)

  save_good : (text : List ℕ) (result : Result (Unit {0}) SaveFault) (before after : List Entry) → place before r.output ≡ untouched_place → IsTextOf r journal text
      → SaveOf r.output text result before after → Since Good before after
  save_good text result before after untouched it save =
      since_as (λ now. good_moment text before now untouched it) (moments_of r.output text before result after save)

  -- ---- through what is said

  say_good : {before after : List Entry} → Good before → Since (IsOf OnSay) before after → Since Good before after
  say_good good start = start
  say_good {before} good (later {past} {entry} since is) =
      later (say_good good since)
      (subst (λ options. (o : Left) → Among o options → IsOldOrText r journal o) (sym (ap (λ p. (p r.output).options) (place_since (λ e. cc) (later since is)))) good)

  last_good : {after : List Entry} → Since Good [] after → Good after
  last_good start = old_only [] refl
  last_good (later since good) = good

  at_moments : Since Good [] journal → IsSafe r journal
  at_moments since zero high =
      let whole : length journal - 0 ≡ length journal = omega arith in
      subst (λ j. (o : Left) → Among o (leaves j r.output) → IsOldOrText r journal o) (sym (ap (λ n. drop n journal) whole ∙ drop-length journal)) (old_only [] refl)
  at_moments since (suc t) high = since_at since (suc t) (omega arith) high

-- ---- a report

-- the text that a report saves, if it comes to that
pub text_in : (r : Request) (journal : List Entry) (bytes text : List ℕ) → Gives r.form bytes text → EndsWith (Read r.input 33554432 (found.Whole bytes)) journal → IsTextOf r journal text
text_in r journal bytes text gives ends =
    record { bytes = bytes; later = ends.later_entries; was_read = ends.split; gives = gives }

read_good : (r : Request) (journal : List Entry) (answer : ReadFile) → Since (Good r journal) [] (read_of r answer [])
read_good r journal answer = later start (old_only r journal (read_of r answer []) refl)

began : (r : Request) (bytes : List ℕ) → EndsWith (Read r.input 33554432 (found.Whole bytes)) (read_of r (found.Whole bytes) [])
began r bytes = record { later_entries = []; split = refl }

saves_good : (r : Request) (bytes text : List ℕ) (e : End) (on_disk after : List Entry) → Gives r.form bytes text → SavesAs r.output text (read_of r (found.Whole bytes) []) e on_disk
    → Since (IsOf OnSay) on_disk after → Since (Good r after) [] on_disk
saves_good r bytes text e on_disk after gives ran.not_made said = read_good r after (found.Whole bytes)
saves_good r bytes text e on_disk after gives (ran.done _ save) said =
    let since = part_of_save {U = Unit {0}} r.output text (read_of r (found.Whole bytes) []) (Ok tt) on_disk save in
    let it = text_in r after bytes text gives (ends_since (ends_since (began r bytes) since) said) in
    since_then (read_good r after (found.Whole bytes)) (save_good r after text (Ok tt) (read_of r (found.Whole bytes) []) on_disk refl it save)
saves_good r bytes text e on_disk after gives (ran.not_saved why _ save) said =
    let since = part_of_save {U = Unit {0}} r.output text (read_of r (found.Whole bytes) []) (Err why) on_disk save in
    let it = text_in r after bytes text gives (ends_since (ends_since (began r bytes) since) said) in
    since_then (read_good r after (found.Whole bytes)) (save_good r after text (Err why) (read_of r (found.Whole bytes) []) on_disk refl it save)

makes_good : (r : Request) (e : End) (on_disk after : List Entry) → Makes r [] e on_disk → Since (IsOf OnSay) on_disk after → Since (Good r after) [] on_disk
makes_good r e on_disk after ran.cannot_read said = read_good r after found.Failed
makes_good r e on_disk after ran.too_large said = read_good r after found.Big
makes_good r e on_disk after (ran.cannot_make bytes e_ why) said = read_good r after (found.Whole bytes)
makes_good r e on_disk after (ran.no_memory_later answer) said = read_good r after answer
makes_good r e on_disk after (ran.saves bytes text e_ after_ gives save) said = saves_good r bytes text e on_disk after gives save said

-- the words fix what is asked for
pub one_request : (words : List (List ℕ)) (r s : Request) → IsRequest words r → IsRequest words s → s ≡ r
one_request words r s is also =
    let input : s.input ≡ r.input = ap input_of (sym also.are ∙ is.are) in
    let output : s.output ≡ r.output = ap output_of (sym also.are ∙ is.are) in
    let word : also.word ≡ is.word = ap first (sym also.are ∙ is.are) in
    let kind : s.form ≡ r.form = same (sym also.form ∙ ap form_of word ∙ is.form) in
    ap (λ k. record { form = k; input = s.input; output = s.output }) kind
    ∙ ap (λ i. record { form = r.form; input = i; output = s.output }) input
    ∙ ap (λ o. record { form = r.form; input = r.input; output = o }) output
  where
    first : List (List ℕ) → List ℕ
    first [] = []
    first (x ∷ xs) = x

    same : {f g : Form} → Some f ≡ Some g → f ≡ g
    same e = cc

ran_good : (words : List (List ℕ)) (r : Request) → IsRequest words r → (e : End) (on_disk after : List Entry) → Ran words [] e on_disk → Since (IsOf OnSay) on_disk after → Since (Good r after) [] on_disk
ran_good words r is e on_disk after (ran.refused u why) said = start
ran_good words r is e on_disk after ran.no_memory said = start
ran_good words r is e on_disk after (ran.request s e_ after_ also makes) said =
    subst (λ c. Since (Good c after) [] on_disk) (one_request words r s is also) (makes_good s e on_disk after makes said)

pub safe_output : (words : List (List ℕ)) (code : ℕ) (rose cut : Type 0) (before after : List Entry) → Ended words code rose cut before after → before ≡ [] → (r : Request) → IsRequest words r → IsSafe r after
safe_output words code rose cut before after ended new r is =
    let said = says_since ended.says in
    let good = ran_good words r is ended.end ended.on_disk after (subst (λ b. Ran words b ended.end ended.on_disk) new ended.ran) said in
    at_moments r after (since_then good (say_good r after (last_good r after good) said))
