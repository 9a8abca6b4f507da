-- Which paths a report doesn't touch.
use Rattle.std.proofs.Common.{◌≡◌, ℕ, zero, suc, ◌-◌, Bool, true, false, List, [], ◌∷◌, length, drop, Result, Ok, Err, None, Some, refl, sym, ◌∙◌, ap, subst, arith}
use Rattle.std.proofs.lemmas.Slice.Eq.{bytes_eq-Decides}
use Rattle.std.proofs.lemmas.Bool.{false_from_ne_true, true≢false}
use Rattle.std.proofs.Math.Seq.{drop-length}
use Rattle.std.specs.Prelude.{◌||◌}
use Rattle.std.specs.Str.{bytes_eq}
use Rattle.jtext.proofs.Equals.{same_bytes}
use Rattle.world.specs.declared.entry.Entry.{Entry}
use Rattle.world.specs.Disk.{Place, place, leaves, untouched_place}
use Rattle.world.specs.Moments.{Since, start, more as later}
use Rattle.world.specs.Save.{temporary_of}
use Rattle.world.proofs.MomentsLemmas.{since_at, since_then}
use Rattle.world.specs.Touched.{Spares}
use Rattle.world.proofs.TouchedLemmas.{untouched_after, untouched_since}
use Rattle.save_disk.specs.declared.save_fault.SaveFault.{SaveFault}
use Rattle.save_disk.specs.Entries.{SaveOf}
use Rattle.save_disk.proofs.Laws.{others_of_save}
use Rattle.said_lines.specs.Speech.{Speech, Says}
use Rattle.said_lines.specs.Speech as said
use Rattle.report_run.specs.declared.end.End.{End}
use Rattle.report_run.specs.declared.request.Request.{Request}
use Rattle.report_run.specs.Ended.{Ended, output_of}
use Rattle.report_run.specs.Ran.{SavesAs, Makes, Ran, IsOther, IsUntouched}
use Rattle.report_run.specs.Ran as ran
use Rattle.std.specs.Prelude.{Option}
use Rattle.std.specs.Option.{option_or}
use Rattle.std.proofs.lemmas.Bool.{cond-true}
use Rattle.words.specs.declared.usage.Usage.{Usage}
use Rattle.words.specs.declared.usage.Usage.TheVariants as usage
use Rattle.report_run.specs.Words.{IsRequest, refusal, is_written, first_fault}

-- ---- what a report doesn't write to

module _ (path output : List ℕ) (apart : bytes_eq output path ≡ false) (beside : bytes_eq (temporary_of output) path ≡ false) where
  save_spares : (text : List ℕ) (result : Result (Unit {0}) SaveFault) {x begin after : List Entry} → Since (Spares path) x begin → SaveOf output text result begin after → Since (Spares path) x after
  save_spares text result {begin = begin} {after} s save = since_then s (others_of_save output text path apart beside begin result after save)

  saves_spare : {text : List ℕ} {e : End} {x begin after : List Entry} → Since (Spares path) x begin → SavesAs output text begin e after → Since (Spares path) x after
  saves_spare {text} s (ran.not_saved why after saved) = save_spares text (Err why) s saved
  saves_spare {text} s (ran.done after saved) = save_spares text (Ok tt) s saved
  saves_spare s ran.not_made = s

apart_from : (x y : List ℕ) → (x ≡ y → ⊥) → bytes_eq x y ≡ false
apart_from x y differ = false_from_ne_true (bytes_eq x y) (λ e. absurd (differ ((bytes_eq-Decides x y).0 e)))

makes_spare : (path : List ℕ) (r : Request) → bytes_eq r.output path ≡ false → bytes_eq (temporary_of r.output) path ≡ false → {e : End} {before after : List Entry} → Makes r before e after → Since (Spares path) before after
makes_spare path r apart beside ran.cannot_read = later start refl
makes_spare path r apart beside ran.too_large = later start refl
makes_spare path r apart beside (ran.cannot_make bytes e why) = later start refl
makes_spare path r apart beside (ran.saves bytes text e after gives saved) = saves_spare path r.output apart beside (later start refl) saved
makes_spare path r apart beside (ran.no_memory_later answer) = later start refl

ran_spares : (words : List (List ℕ)) (path : List ℕ) → IsOther words path → {e : End} {before after : List Entry} → Ran words before e after → Since (Spares path) before after
ran_spares words path other (ran.refused u is) = start
ran_spares words path other (ran.request r e after is makes) = makes_spare path r (apart_from r.output path (other r is).0) (apart_from (temporary_of r.output) path (other r is).1) makes
ran_spares words path other ran.no_memory = start

speech_spares : (path : List ℕ) {text : List ℕ} {x before after : List Entry} {rest : List ℕ} → Since (Spares path) x before → Speech text before rest after → Since (Spares path) x after
speech_spares path s said.none = s
speech_spares path s (said.more n before) = later (speech_spares path s before) refl

says_spare : (path : List ℕ) {text : List ℕ} {failed : Type 0} {x before after : List Entry} → Since (Spares path) x before → Says text failed before after → Since (Spares path) x after
says_spare path s (said.whole speech) = speech_spares path s speech
says_spare path s (said.cut f speech) = speech_spares path s speech
says_spare path s (said.refused f speech) = later (speech_spares path s speech) refl

-- ---- at every moment

spared_moments : {path : List ℕ} {x y : List Entry} → place x path ≡ untouched_place → Since (Spares path) x y → Since (λ now. place now path ≡ untouched_place) x y
spared_moments e start = start
spared_moments {path} e (later {past} {entry} since spares) = later (spared_moments e since) (untouched_after path entry (place past) spares (untouched_since since e))

at_moment : (path : List ℕ) (journal : List Entry) → Since (λ now. place now path ≡ untouched_place) [] journal → IsUntouched path journal
at_moment path journal since zero high =
    let whole : length journal - 0 ≡ length journal = omega arith in
    ap (λ n. leaves (drop n journal) path) whole ∙ ap (λ j. leaves j path) (drop-length journal)
at_moment path journal since (suc t) high = ap (λ p. Place.options p) (since_at since (suc t) (omega arith) high)

pub untouched_paths : (words : List (List ℕ)) (code : ℕ) (rose cut : Type 0) (before after : List Entry) → Ended words code rose cut before after → before ≡ [] → (path : List ℕ) → IsOther words path → IsUntouched path after
untouched_paths words code rose cut before after ended new path other =
    at_moment path after (subst (λ b. Since (λ now. place now path ≡ untouched_place) b after) new
    (spared_moments (ap (λ b. place b path) new) (says_spare path (ran_spares words path other ended.ran) ended.says)))

-- ---- the input

-- words that aren't refused name an input that isn't written
apart_words : (words : List (List ℕ)) (r : Request) → IsRequest words r → is_written r.input r.output ≡ false
apart_words words r is = by (is_written r.input r.output) refl (ap refusal (sym is.are) ∙ is.taken)
  where
    second : (x : Usage) (o : Option Usage) → option_or o (Some x) ≡ None → ⊥
    second x None e = cc
    second x (Some y) e = cc

    by : (b : Bool) → is_written r.input r.output ≡ b → refusal (is.word ∷ r.input ∷ r.output ∷ []) ≡ None → is_written r.input r.output ≡ false
    by false e taken = e
    by true e taken =
        absurd (second (usage.SamePath 3) (first_fault (is.word ∷ r.input ∷ r.output ∷ []))
        (ap (option_or (first_fault (is.word ∷ r.input ∷ r.output ∷ []))) (sym (cond-true (is_written r.input r.output) (Some (usage.SamePath 3)) None e)) ∙ taken))

written_itself : (x : List ℕ) → is_written x x ≡ true
written_itself x = ap (λ b. b || bytes_eq x (temporary_of x)) (same_bytes x)

any : (a b : Bool) → b ≡ true → (a || b) ≡ true
any true b e = refl
any false b e = e

written_temporary : (x : List ℕ) → is_written (temporary_of x) x ≡ true
written_temporary x = any (bytes_eq (temporary_of x) x) (bytes_eq (temporary_of x) (temporary_of x)) (same_bytes (temporary_of x))

same_request : (words : List (List ℕ)) (r s : Request) → IsRequest words r → IsRequest words s → s.output ≡ r.output
same_request words r s is also = ap output_of (sym also.are ∙ is.are)

input_is_other : (words : List (List ℕ)) (r : Request) → IsRequest words r → IsOther words r.input
input_is_other words r is s also =
    let one = same_request words r s is also in
    let apart = apart_words words r is in (
      (λ same. true≢false (sym (written_itself r.output) ∙ ap (λ x. is_written x r.output) (sym one ∙ same) ∙ apart)),
      (λ same. true≢false (sym (written_temporary r.output) ∙ ap (λ x. is_written x r.output) (ap temporary_of (sym one) ∙ same) ∙ apart)),
    )

pub untouched_input : (words : List (List ℕ)) (code : ℕ) (rose cut : Type 0) (before after : List Entry) → Ended words code rose cut before after → before ≡ [] → (r : Request) → IsRequest words r → IsUntouched r.input after
untouched_input words code rose cut before after ended new r is = untouched_paths words code rose cut before after ended new r.input (input_is_other words r is)
