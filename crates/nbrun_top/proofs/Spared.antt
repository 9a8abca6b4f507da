-- Which paths a run doesn't touch.
use Rattle.std.proofs.Common.{◌≡◌, ℕ, zero, suc, ◌-◌, Bool, true, false, not, List, [], length, drop, Result, Ok, Err, refl, sym, ◌∙◌, ap, subst, arith}
use Rattle.std.proofs.lemmas.Slice.Eq.{bytes_eq-Decides}
use Rattle.std.proofs.lemmas.Bool.{false_from_ne_true, true≢false}
use Rattle.std.proofs.Math.Seq.{drop-length}
use Rattle.std.specs.Prelude.{◌||◌}
use Rattle.std.specs.Str.{bytes_eq}
use Rattle.words.specs.declared.ask.Ask.{Ask}
use Rattle.words.specs.declared.command.Command.TheVariants as command
use Rattle.words.specs.Paths.{are_apart, temporary_of, connection_of}
use Rattle.words.proofs.JobPaths.{job_apart}
use Rattle.world.specs.declared.entry.Entry.{Entry}
use Rattle.world.specs.Disk.{Place, place, leaves, untouched_place}
use Rattle.world.specs.Moments.{Since, start, more as later}
use Rattle.world.proofs.MomentsLemmas.{since_at, since_then}
use Rattle.world.specs.Touched.{Spares}
use Rattle.world.proofs.TouchedLemmas.{untouched_after, untouched_since}
use Rattle.nbrun_top.specs.declared.end.End.{End}
use Rattle.save_disk.specs.declared.save_fault.SaveFault.{SaveFault}
use Rattle.save_disk.specs.Entries.{SaveOf}
use Rattle.save_disk.proofs.Laws.{others_of_save}
use Rattle.nb_model.specs.declared.notebook.Notebook.{Notebook}
use Rattle.nbrun_top.specs.Asked.{IsJob}
use Rattle.nbrun_top.specs.Ran.{SavesAs, Prepares, Ran, IsOther, IsUntouched}
use Rattle.nb_text.specs.Notebooks.{text_of}
use Rattle.nbrun_top.specs.Ran as ran
use Rattle.said_lines.specs.Speech.{Speech, Says}
use Rattle.job_saves.specs.Children.{has_child}
use Rattle.said_lines.specs.Speech as said
use Rattle.nbrun_top.specs.Ended.{Ended}
use Rattle.jtext.proofs.Equals.{same_bytes}

-- ---- what a run doesn't write to

module _ (path output : List ℕ) (apart : bytes_eq output path ≡ false) (beside : bytes_eq (temporary_of output) path ≡ false) where
  save_spares : (text : List ℕ) (result : Result (Unit {0}) SaveFault) {x begin after : List Entry} → Since (Spares path) x begin → SaveOf output text result begin after → Since (Spares path) x after
  save_spares text result {begin = begin} {after} s save = since_then s (others_of_save output text path apart beside begin result after save)

  saves_spare : {n : Notebook} {e : End} {x begin after : List Entry} → Since (Spares path) x begin → SavesAs output n begin e after → Since (Spares path) x after
  saves_spare {n} s (ran.not_saved why after saved) = save_spares (text_of n) (Err why) s saved
  saves_spare {n} s (ran.done after saved) = save_spares (text_of n) (Ok tt) s saved
  saves_spare s ran.not_made = s

pub apart_from : (x y : List ℕ) → (x ≡ y → ⊥) → bytes_eq x y ≡ false
apart_from x y differ = false_from_ne_true (bytes_eq x y) (λ e. absurd (differ ((bytes_eq-Decides x y).0 e)))

prepares_spare : (path : List ℕ) (a : Ask) → bytes_eq a.output path ≡ false → bytes_eq (temporary_of a.output) path ≡ false → {e : End} {before after : List Entry} → Prepares a before e after → Since (Spares path) before after
prepares_spare path a apart beside ran.cannot_read = later start refl
prepares_spare path a apart beside ran.too_large = later start refl
prepares_spare path a apart beside (ran.not_accepted bytes e why) = later start refl
prepares_spare path a apart beside (ran.saves bytes n e after accepted saved) = saves_spare path a.output apart beside (later start refl) saved
prepares_spare path a apart beside (ran.no_memory_later answer) = later start refl

ran_spares : (words : List (List ℕ)) (path : List ℕ) → IsOther words path → {e : End} {before after : List Entry} → Ran words before e after → Since (Spares path) before after
ran_spares words path other (ran.refused u is) = start
ran_spares words path other (ran.job a e after is prepares) = prepares_spare path a (apart_from a.output path (other a is).0) (apart_from (temporary_of a.output) path (other a is).1) prepares
ran_spares words path other ran.no_memory = start

speech_spares : (path : List ℕ) {text : List ℕ} {x before after : List Entry} {rest : List ℕ} → Since (Spares path) x before → Speech text before rest after → Since (Spares path) x after
speech_spares path s said.none = s
speech_spares path s (said.more n before) = later (speech_spares path s before) refl

pub says_spare : (path : List ℕ) {text : List ℕ} {failed : Type 0} {x before after : List Entry} → Since (Spares path) x before → Says text failed before after → Since (Spares path) x after
says_spare path s (said.whole speech) = speech_spares path s speech
says_spare path s (said.cut f speech) = speech_spares path s speech
says_spare path s (said.refused f speech) = later (speech_spares path s speech) refl

-- ---- what is said starts no child

speech_childless : (number : ℕ) {text : List ℕ} {before : List Entry} {rest : List ℕ} {after : List Entry} → Speech text before rest after
    → has_child number before ≡ false → has_child number after ≡ false
speech_childless number said.none none = none
speech_childless number (said.more n before) none = speech_childless number before none

pub said_childless : (number : ℕ) {text : List ℕ} {failed : Type 0} {before after : List Entry} → Says text failed before after
    → has_child number before ≡ false → has_child number after ≡ false
said_childless number (said.whole speech) none = speech_childless number speech none
said_childless number (said.cut f speech) none = speech_childless number speech none
said_childless number (said.refused f speech) none = speech_childless number speech none

-- ---- at every moment

pub spared_moments : {path : List ℕ} {x y : List Entry} → place x path ≡ untouched_place → Since (Spares path) x y → Since (λ now. place now path ≡ untouched_place) x y
spared_moments e start = start
spared_moments {path} e (later {past} {entry} since spares) = later (spared_moments e since) (untouched_after path entry (place past) spares (untouched_since since e))

pub at_moment : (path : List ℕ) (journal : List Entry) → Since (λ now. place now path ≡ untouched_place) [] journal → IsUntouched path journal
at_moment path journal since zero high =
    let whole : length journal - 0 ≡ length journal = omega arith in
    ap (λ n. leaves (drop n journal) path) whole ∙ ap (λ j. leaves j path) (drop-length journal)
at_moment path journal since (suc t) high = ap (λ p. Place.options p) (since_at since (suc t) (omega arith) high)

pub untouched_paths : (words : List (List ℕ)) (code : ℕ) (rose cut : Type 0) (before after : List Entry) → Ended words code rose cut before after → before ≡ [] → (path : List ℕ) → IsOther words path → IsUntouched path after
untouched_paths words code rose cut before after ended new path other =
    at_moment path after (subst (λ b. Since (λ now. place now path ≡ untouched_place) b after) new
    (spared_moments (ap (λ b. place b path) new) (says_spare path (ran_spares words path other ended.ran) ended.says)))

-- ---- the input

-- a path isn't apart from itself
same_not_apart : (x : List ℕ) → are_apart x x ≡ false
same_not_apart x = ap (λ b. not (b || bytes_eq x (temporary_of x) || bytes_eq x (connection_of x))) (same_bytes x)

pub apart_paths : (x y : List ℕ) → are_apart x y ≡ true → y ≡ x → ⊥
apart_paths x y apart same = absurd (true≢false (sym apart ∙ ap (are_apart x) same ∙ same_not_apart x))

not_any : (a b c : Bool) → b ≡ true → not (a || b || c) ≡ false
not_any true b c is = refl
not_any false true c is = refl
not_any false false c is = absurd (true≢false (sym is))

-- nor is a path apart from the one whose temporary file it is
temporary_not_apart : (x : List ℕ) → are_apart (temporary_of x) x ≡ false
temporary_not_apart x = not_any (bytes_eq (temporary_of x) x) (bytes_eq (temporary_of x) (temporary_of x)) (bytes_eq (temporary_of x) (connection_of x)) (same_bytes (temporary_of x))

pub apart_from_temporary : (x y : List ℕ) → are_apart x y ≡ true → temporary_of y ≡ x → ⊥
apart_from_temporary x y apart is = absurd (true≢false (sym apart ∙ ap (λ z. are_apart z y) (sym is) ∙ temporary_not_apart y))

last_of_any : (a b c : Bool) → c ≡ true → not (a || b || c) ≡ false
last_of_any true b c is = refl
last_of_any false true c is = refl
last_of_any false false true is = refl
last_of_any false false false is = absurd (true≢false (sym is))

-- nor from the one whose connection file it is
pub apart_from_connection : (x y : List ℕ) → are_apart x y ≡ true → connection_of y ≡ x → ⊥
apart_from_connection x y apart is =
    absurd (true≢false (sym apart ∙ ap (λ z. are_apart z y) (sym is)
    ∙ last_of_any (bytes_eq (connection_of y) y) (bytes_eq (connection_of y) (temporary_of y)) (bytes_eq (connection_of y) (connection_of y)) (same_bytes (connection_of y))))

pub one_ask : {a b : Ask} → command.One a ≡ command.One b → a ≡ b
one_ask e = cc

input_is_other : (words : List (List ℕ)) (a : Ask) → IsJob words a → IsOther words a.input
input_is_other words a is b also =
    let one : b.output ≡ a.output = ap (λ x. Ask.output x) (one_ask (sym also.asks ∙ is.asks)) in
    let apart : are_apart a.input a.output ≡ true = job_apart words a is.taken is.asks in (
      (λ same. apart_paths a.input a.output apart (sym one ∙ same)),
      (λ same. apart_from_temporary a.input a.output apart (ap (λ p. temporary_of p) (sym one) ∙ same)),
    )

pub untouched_input : (words : List (List ℕ)) (code : ℕ) (rose cut : Type 0) (before after : List Entry) → Ended words code rose cut before after → before ≡ [] → (a : Ask) → IsJob words a → IsUntouched a.input after
untouched_input words code rose cut before after ended new a is = untouched_paths words code rose cut before after ended new a.input (input_is_other words a is)
