-- What a crash leaves at the output, moment by moment.
use Rattle.std.proofs.Common.{◌≡◌, inl, inr, ℕ, zero, suc, ◌-◌, List, [], ◌∷◌, ◌++◌, Result, Ok, Err, length, drop, refl, sym, ◌∙◌, ap, subst, arith}
use Rattle.std.proofs.Math.Seq.{drop-length}
use Rattle.words.specs.declared.ask.Ask.{Ask}
use Rattle.world.specs.declared.entry.Entry.{Entry}
use Rattle.world.specs.declared.entry.Entry.TheVariants.{Read}
use Rattle.world.specs.declared.left.Left.{Left}
use Rattle.world.specs.declared.left.Left.TheVariants as left
use Rattle.world.specs.declared.read_file.ReadFile.{ReadFile}
use Rattle.world.specs.declared.read_file.ReadFile.TheVariants as found
use Rattle.world.specs.Disk.{Place, place, leaves, Among, untouched_place}
use Rattle.world.specs.Moments.{Since, start, more as later}
use Rattle.world.proofs.MomentsLemmas.{since_as, since_at, since_then}
use Rattle.world.specs.Parts.{OnSay, IsOf}
use Rattle.world.proofs.PartsLemmas.{place_since}
use Rattle.save_disk.specs.declared.save_fault.SaveFault.{SaveFault}
use Rattle.save_disk.specs.Entries.{SaveOf}
use Rattle.save_disk.specs.Places.{SaveMoment, as_before, renamed, unsure, durable}
use Rattle.save_disk.proofs.Laws.{moments_of, part_of_save}
use Rattle.nb_model.specs.declared.notebook.Notebook.{Notebook}
use Rattle.nbrun_top.specs.declared.end.End.{End}
use Rattle.nbrun_top.specs.Asked.{IsJob}
use Rattle.nbrun_top.specs.Crash.{IsTextOf, IsOldOrText, IsSafe}
use Rattle.nbrun_top.specs.Ended.{Ended}
use Rattle.nb_load.specs.Loaded.{Accepts}
use Rattle.nbrun_top.specs.Ran.{SavesAs, Prepares, Ran, read_of}
use Rattle.nb_text.specs.Notebooks.{text_of}
use Rattle.nbrun_top.specs.Ran as ran
use Rattle.said_lines.proofs.SpeechLemmas.{says_since}
use Rattle.nbrun_top.proofs.Saves.{EndsWith, ends_since}
use Rattle.nbrun_top.proofs.Spared.{one_ask}

-- ---- by the options

module _ (a : Ask) (journal : List Entry) where
  abbrev Good : List Entry → Type 0
  Good now = (o : Left) → Among o (leaves now a.output) → IsOldOrText a journal o

  old_only : (now : List Entry) → leaves now a.output ≡ left.Old ∷ [] → Good now
  old_only now is o among = by (subst (Among o) is among)
    where
      by : Among o (left.Old ∷ []) → IsOldOrText a journal o
      by (inl e) = inl e
      by (inr n) = absurd n

  text_only : (text : List ℕ) (now : List Entry) → IsTextOf a journal text → leaves now a.output ≡ left.Whole text ∷ [] → Good now
  text_only text now it is o among = by (subst (Among o) is among)
    where
      by : Among o (left.Whole text ∷ []) → IsOldOrText a journal o
      by (inl e) = inr (text, it, e)
      by (inr n) = absurd n

  old_or_text : (text : List ℕ) (now : List Entry) → IsTextOf a journal text → leaves now a.output ≡ left.Old ∷ left.Whole text ∷ [] → Good now
  old_or_text text now it is o among = by (subst (Among o) is among)
    where
      by : Among o (left.Old ∷ left.Whole text ∷ []) → IsOldOrText a journal o
      by (inl e) = inl e
      by (inr (inl e)) = inr (text, it, e)
      by (inr (inr n)) = absurd n

  -- ---- through a save

  good_moment : (text : List ℕ) (before now : List Entry) → place before a.output ≡ untouched_place → IsTextOf a journal text → SaveMoment a.output text before now → Good now
  good_moment text before now untouched it (as_before count is) = old_only now (ap (λ p. Place.options p) (is ∙ untouched))
  good_moment text before now untouched it (renamed count is) = old_or_text text now it (ap (λ p. Place.options p) is ∙ ap (λ p. Place.options p ++ left.Whole text ∷ []) untouched)
  good_moment text before now untouched it (unsure count is) = old_or_text text now it (ap (λ p. Place.options p) is ∙ ap (λ p. Place.options p ++ left.Whole text ∷ []) untouched)
  good_moment text before now untouched it (durable count is) = text_only text now it (ap (λ p. Place.options p) is)

  save_good : (text : List ℕ) (result : Result (Unit {0}) SaveFault) (before after : List Entry) → place before a.output ≡ untouched_place → IsTextOf a journal text
      → SaveOf a.output text result before after → Since Good before after
  save_good text result before after untouched it save =
      since_as (λ now. good_moment text before now untouched it) (moments_of a.output text before result after save)

  -- ---- through what is said

  say_good : {before after : List Entry} → Good before → Since (IsOf OnSay) before after → Since Good before after
  say_good good start = start
  say_good {before} good (later {past} {entry} since is) =
      later (say_good good since)
      (subst (λ options. (o : Left) → Among o options → IsOldOrText a journal o) (sym (ap (λ p. (p a.output).options) (place_since (λ e. cc) (later since is)))) good)

  last_good : {after : List Entry} → Since Good [] after → Good after
  last_good start = old_only [] refl
  last_good (later since good) = good

  at_moments : Since Good [] journal → IsSafe a journal
  at_moments since zero high =
      let whole : length journal - 0 ≡ length journal = omega arith in
      subst (λ j. (o : Left) → Among o (leaves j a.output) → IsOldOrText a journal o) (sym (ap (λ n. drop n journal) whole ∙ drop-length journal)) (old_only [] refl)
  at_moments since (suc t) high = since_at since (suc t) (omega arith) high

-- ---- a run

-- the notebook that a job saves, if it comes to that
text_in : (a : Ask) (journal : List Entry) (bytes : List ℕ) (n : Notebook) → Accepts a bytes n → EndsWith (Read a.input 33554432 (found.Whole bytes)) journal → IsTextOf a journal (text_of n)
text_in a journal bytes n accepted ends =
    record { bytes = bytes; notebook = n; later = ends.later_entries; was_read = ends.split; accepted = accepted; is = refl }

read_good : (a : Ask) (journal : List Entry) (answer : ReadFile) → Since (Good a journal) [] (read_of a answer [])
read_good a journal answer = later start (old_only a journal (read_of a answer []) refl)

began : (a : Ask) (bytes : List ℕ) → EndsWith (Read a.input 33554432 (found.Whole bytes)) (read_of a (found.Whole bytes) [])
began a bytes = record { later_entries = []; split = refl }

saves_good : (a : Ask) (bytes : List ℕ) (n : Notebook) (e : End) (on_disk after : List Entry) → Accepts a bytes n → SavesAs a.output n (read_of a (found.Whole bytes) []) e on_disk
    → Since (IsOf OnSay) on_disk after → Since (Good a after) [] on_disk
saves_good a bytes n e on_disk after accepted ran.not_made said = read_good a after (found.Whole bytes)
saves_good a bytes n e on_disk after accepted (ran.done _ save) said =
    let since = part_of_save {U = Unit {0}} a.output (text_of n) (read_of a (found.Whole bytes) []) (Ok tt) on_disk save in
    let it = text_in a after bytes n accepted (ends_since (ends_since (began a bytes) since) said) in
    since_then (read_good a after (found.Whole bytes)) (save_good a after (text_of n) (Ok tt) (read_of a (found.Whole bytes) []) on_disk refl it save)
saves_good a bytes n e on_disk after accepted (ran.not_saved why _ save) said =
    let since = part_of_save {U = Unit {0}} a.output (text_of n) (read_of a (found.Whole bytes) []) (Err why) on_disk save in
    let it = text_in a after bytes n accepted (ends_since (ends_since (began a bytes) since) said) in
    since_then (read_good a after (found.Whole bytes)) (save_good a after (text_of n) (Err why) (read_of a (found.Whole bytes) []) on_disk refl it save)

prepares_good : (a : Ask) (e : End) (on_disk after : List Entry) → Prepares a [] e on_disk → Since (IsOf OnSay) on_disk after → Since (Good a after) [] on_disk
prepares_good a e on_disk after ran.cannot_read said = read_good a after found.Failed
prepares_good a e on_disk after ran.too_large said = read_good a after found.Big
prepares_good a e on_disk after (ran.not_accepted bytes e_ why) said = read_good a after (found.Whole bytes)
prepares_good a e on_disk after (ran.no_memory_later answer) said = read_good a after answer
prepares_good a e on_disk after (ran.saves bytes n e_ after_ accepted save) said = saves_good a bytes n e on_disk after accepted save said

ran_good : (words : List (List ℕ)) (a : Ask) → IsJob words a → (e : End) (on_disk after : List Entry) → Ran words [] e on_disk → Since (IsOf OnSay) on_disk after → Since (Good a after) [] on_disk
ran_good words a is e on_disk after (ran.refused u why) said = start
ran_good words a is e on_disk after ran.no_memory said = start
ran_good words a is e on_disk after (ran.job b e_ after_ also prepares) said =
    subst (λ c. Since (Good c after) [] on_disk) (one_ask (sym also.asks ∙ is.asks)) (prepares_good b e on_disk after prepares said)

pub safe_output : (words : List (List ℕ)) (code : ℕ) (rose cut : Type 0) (before after : List Entry) → Ended words code rose cut before after → before ≡ [] → (a : Ask) → IsJob words a → IsSafe a after
safe_output words code rose cut before after ended new a is =
    let said = says_since ended.says in
    let good = ran_good words a is ended.end ended.on_disk after (subst (λ b. Ran words b ended.end ended.on_disk) new ended.ran) said in
    at_moments a after (since_then good (say_good a after (last_good a after good) said))
