-- What is asked of a notebook: which replies stop the run, who speaks to the kernel, and an input that isn't read.
use Rattle.std.proofs.Common.{◌≡◌, ℕ, ◌≤◌, List, [], ◌∷◌, Bool, true, false, Some, None, codes, refl, ◌∙◌, ap, reverse, ◌+◌, arith}
use Rattle.std.specs.Str.{bytes_eq, IsUtf8}
use Rattle.jtext.proofs.Utf8s.{utf8_ascii}
use Rattle.std.proofs.lemmas.Bool.{and_parts, and_right, and_from, cond-false, ltb-true}
use Rattle.std.specs.List.{AllByRecursion, list_all}
use Rattle.std.specs.Prelude.{is_some, nat_lt, ◌<◌, ◌&&◌, ◌||◌}
use Rattle.jtext.proofs.Equals.{apart_bytes}
use Rattle.jtext.specs.declared.json.Json.{Json}
use Rattle.jtext.specs.declared.json.Json.TheVariants as json
use Rattle.jtext.specs.Depth.{depth}
use Rattle.jtext.specs.Find.{find}
use Rattle.jtext.specs.Bundle.{is_multiline}
use Rattle.jtext.specs.Look.{is_object, is_strings, there_and, absent_or}
use Rattle.jtext.proofs.Depths.{depth-Arr, depth-Obj, depth-Null, depth-Num, depth-Str, highest-le, pairs-le}
use Rattle.jtext.specs.Print.{compact}
use Rattle.jtext.specs.Sound.{Sound}
use Rattle.jtext.specs.Sound as sound
use Rattle.jtext.specs.Keyed.{Keyed}
use Rattle.jtext.specs.Keyed as keyed
use Rattle.jtext.proofs.Printed.{compact_text}
use Rattle.jcontent.specs.declared.content.Content.{Content}
use Rattle.jcontent.specs.declared.content.Content.TheVariants as content
use Rattle.jcontent.specs.declared.reply.ReplyIs.TheVariants as reply_is
use Rattle.world.specs.declared.entry.Entry.{Entry}
use Rattle.world.specs.declared.entry.Entry.TheVariants as made
use Rattle.world.specs.declared.read_file.ReadFile.TheVariants as found
use Rattle.words.specs.declared.ask.Ask.{Ask}
use Rattle.nb_model.specs.declared.notebook.Notebook.{Notebook}
use Rattle.nb_model.specs.declared.cell.Cell.{Cell}
use Rattle.nb_model.specs.declared.kind.Kind.TheVariants as kind
use Rattle.nb_model.specs.Keys.{has, may_have, is_number}
use Rattle.nb_model.specs.Valid.{is_notebook, is_metadata, is_kernelspec, is_language_info}
use Rattle.nb_model.specs.Values.{is_id_text}
use Rattle.nb_model.proofs.PreparedLaws.{fields_Obj, object_Obj, string_Str, number_Num, notebook_fits, notebook_tree-fits}
use Rattle.nb_migrate.specs.Accepted.{Accepted, accepted_notebook}
use Rattle.nb_migrate.specs.Raised.{is_older_minor, is_older, raised_object}
use Rattle.nb_migrate.proofs.Digits.{one_digit}
use Rattle.zmtp_wire.specs.Meaning.{fault_in}
use Rattle.kernel_talk.specs.Requests.{identifier}
use Rattle.run_journal.specs.Job.{Job, Refuses}
use Rattle.run_journal.specs.Looks.{is_look, is_lost}
use Rattle.run_journal.specs.Why.{bad_stream}
use Rattle.run_journal.specs.Saves.{saves}
use Rattle.run_journal.specs.Ends.{NotRead, status_of}
use Rattle.run_journal.specs.Lines.{Last, lines}
use Rattle.run_journal.specs.Asked.{Setting, SpeaksBy, IsJobOf, not_read, accepted, read_of, job_with, task_of, running_job, stops_run}

-- a notebook without cells
abbrev notebook : Notebook
notebook = record { metadata = json.Obj []; cells = [] }

-- what is asked
abbrev ask : Ask
ask = record {
  input = codes "in";
  output = codes "out";
  kernel = None;
  kernel_path = codes "kernels";
  cwd = codes ".";
  params = [];
  prepare = false;
  report = false;
  merge = false;
  all_errors = false;
  interrupt = false;
  heartbeat = false;
  names = codes "KeyError" ∷ [];
  start_ms = 60000;
  limit_ms = None;
}

-- the rest
abbrev setting : Setting
setting = record {
  number = 0;
  inputs = codes "in" ∷ [];
  turns = 1000;
  session = identifier 1 2;
  key = identifier 3 4;
  name_fault = None;
  spec_fault = None;
}

-- an exception stops the run, but not in a cell that may raise one, and not if its name is allowed
abbrev raised : List ℕ → Content
raised name = content.ExecReply (reply_is.Error name)

stops : ◌≡◌ {A = List Bool}
    (stops_run ask false (raised (codes "E")) ∷ stops_run ask true (raised (codes "E")) ∷ stops_run ask false (raised (codes "KeyError")) ∷ stops_run ask false (content.ExecReply reply_is.Fine) ∷ [])
    (true ∷ false ∷ false ∷ false ∷ [])
stops = refl

-- session and key are of the four words that were drawn after the input was read
drawn : List Entry
drawn = reverse (made.Read (codes "in") 33554432 (found.Whole []) ∷ made.Word (Some 1) ∷ made.Word (Some 2) ∷ made.Word (Some 3) ∷ made.Word (Some 4) ∷ [])

speaks_by : SpeaksBy (running_job ask setting notebook) drawn setting.session setting.key
unfolding drawn
speaks_by = record { one = 1; two = 2; three = 3; four = 4; rest = []; drawn = refl; session_is = refl; key_is = refl }

-- ---- an input that isn't read

abbrev unread : List Entry
unread = made.Read (codes "in") 33554432 found.Failed ∷ []

abbrev none : Job
none = job_with ask setting notebook (task_of ask [] notebook) (Refuses 3 [])

asked_for : IsJobOf ask setting (read_of (codes "in") unread) none
asked_for = not_read (record { notebook = notebook; is = refl })

no_save : saves none unread ≡ []
no_save = refl

status_is : status_of none unread ≡ 3
unfolding is_look is_lost bad_stream fault_in
status_is = refl

lines_are : lines (none ∷ []) unread None ≡ Last (NotRead (codes "in")) (codes "out") ∷ []
unfolding is_look is_lost bad_stream fault_in
lines_are = refl

-- ---- an input that is run

-- a code cell
abbrev cell : Json
cell = json.Obj (
    (codes "cell_type", json.Str (codes "code")) ∷ (codes "execution_count", json.Null) ∷ (codes "id", json.Str (codes "a"))
    ∷ (codes "metadata", json.Obj []) ∷ (codes "outputs", json.Arr []) ∷ (codes "source", json.Str (codes "1")) ∷ [])

-- a notebook of that cell
abbrev tree : Json
tree = json.Obj (
    (codes "cells", json.Arr (cell ∷ [])) ∷ (codes "metadata", json.Obj []) ∷ (codes "nbformat", json.Num (codes "4"))
    ∷ (codes "nbformat_minor", json.Num (codes "5")) ∷ [])

all_ascii : (b : List ℕ) → list_all (λ c. nat_lt c 128) b ≡ true → AllByRecursion (λ c. c < 128) b
all_ascii [] e = tt
all_ascii (c ∷ b) e = let p = and_parts (nat_lt c 128) (list_all (λ c. nat_lt c 128) b) e in (ltb-true c 128 p.0, all_ascii b p.1)

ascii : (b : List ℕ) → list_all (λ c. nat_lt c 128) b ≡ true → IsUtf8 b
ascii b e = utf8_ascii b (all_ascii b e)

text : (b : List ℕ) → list_all (λ c. nat_lt c 128) b ≡ true → Sound (json.Str b)
text b e = sound.text b (ascii b e)

sound_cell : Sound cell
sound_cell =
    sound.object _
    (sound.pair (codes "cell_type") _ _ (ascii (codes "cell_type") refl) (text (codes "code") refl)
    (sound.pair (codes "execution_count") _ _ (ascii (codes "execution_count") refl) sound.null
    (sound.pair (codes "id") _ _ (ascii (codes "id") refl) (text (codes "a") refl)
    (sound.pair (codes "metadata") _ _ (ascii (codes "metadata") refl) (sound.object [] sound.no_pairs)
    (sound.pair (codes "outputs") _ _ (ascii (codes "outputs") refl) (sound.array [] sound.none)
    (sound.pair (codes "source") _ _ (ascii (codes "source") refl) (text (codes "1") refl) sound.no_pairs))))))

sound_tree : Sound tree
sound_tree =
    sound.object _
    (sound.pair (codes "cells") _ _ (ascii (codes "cells") refl) (sound.array _ (sound.more _ _ sound_cell sound.none))
    (sound.pair (codes "metadata") _ _ (ascii (codes "metadata") refl) (sound.object [] sound.no_pairs)
    (sound.pair (codes "nbformat") _ _ (ascii (codes "nbformat") refl) (sound.number _ (one_digit 52 (omega arith) (omega arith)))
    (sound.pair (codes "nbformat_minor") _ _ (ascii (codes "nbformat_minor") refl) (sound.number _ (one_digit 53 (omega arith) (omega arith))) sound.no_pairs))))

keyed_cell : Keyed cell
keyed_cell =
    keyed.object _
    (keyed.pair (codes "cell_type") _ _ (keyed.text (codes "code"))
    (keyed.pair (codes "execution_count") _ _ keyed.null
    (keyed.pair (codes "id") _ _ (keyed.text (codes "a"))
    (keyed.pair (codes "metadata") _ _ (keyed.object [] keyed.no_pairs tt)
    (keyed.pair (codes "outputs") _ _ (keyed.array [] keyed.none)
    (keyed.pair (codes "source") _ _ (keyed.text (codes "1")) keyed.no_pairs))))))
    ((apart_bytes (codes "execution_count") (codes "cell_type") refl, (apart_bytes (codes "id") (codes "cell_type") refl, (apart_bytes (codes "metadata") (codes "cell_type") refl, (apart_bytes (codes "outputs") (codes "cell_type") refl, (apart_bytes (codes "source") (codes "cell_type") refl, tt))))), ((apart_bytes (codes "id") (codes "execution_count") refl, (apart_bytes (codes "metadata") (codes "execution_count") refl, (apart_bytes (codes "outputs") (codes "execution_count") refl, (apart_bytes (codes "source") (codes "execution_count") refl, tt)))), ((apart_bytes (codes "metadata") (codes "id") refl, (apart_bytes (codes "outputs") (codes "id") refl, (apart_bytes (codes "source") (codes "id") refl, tt))), ((apart_bytes (codes "outputs") (codes "metadata") refl, (apart_bytes (codes "source") (codes "metadata") refl, tt)), ((apart_bytes (codes "source") (codes "outputs") refl, tt), (tt, tt))))))

keyed_tree : Keyed tree
keyed_tree =
    keyed.object _
    (keyed.pair (codes "cells") _ _ (keyed.array _ (keyed.more _ _ keyed_cell keyed.none))
    (keyed.pair (codes "metadata") _ _ (keyed.object [] keyed.no_pairs tt)
    (keyed.pair (codes "nbformat") _ _ (keyed.number (codes "4"))
    (keyed.pair (codes "nbformat_minor") _ _ (keyed.number (codes "5")) keyed.no_pairs))))
    ((apart_bytes (codes "metadata") (codes "cells") refl, (apart_bytes (codes "nbformat") (codes "cells") refl, (apart_bytes (codes "nbformat_minor") (codes "cells") refl, tt))), ((apart_bytes (codes "nbformat") (codes "metadata") refl, (apart_bytes (codes "nbformat_minor") (codes "metadata") refl, tt)), ((apart_bytes (codes "nbformat_minor") (codes "nbformat") refl, tt), (tt, tt))))

-- it is nested four deep
object_deep : (n : ℕ) (ps : List (List ℕ × Json)) → AllByRecursion (λ p. depth p.1 ≤ n) ps → depth (json.Obj ps) ≤ n + 1
object_deep n ps e = let d = depth-Obj ps in let h = pairs-le n ps e in omega (arith, d, h)

list_deep : (n : ℕ) (xs : List Json) → AllByRecursion (λ x. depth x ≤ n) xs → depth (json.Arr xs) ≤ n + 1
list_deep n xs e = let d = depth-Arr xs in let h = highest-le n xs e in omega (arith, d, h)

flat : (n : ℕ) (x : Json) → depth x ≡ 0 → depth x ≤ n
flat n x e = omega (arith, e)

raise : (m n : ℕ) (x : Json) → m ≤ n → depth x ≤ m → depth x ≤ n
raise m n x e f = omega (arith, e, f)

cell_deep : depth cell ≤ 2
cell_deep = object_deep 1 _ (flat 1 _ (depth-Str (codes "code")), (flat 1 _ depth-Null, (flat 1 _ (depth-Str (codes "a")), (object_deep 0 [] tt, (list_deep 0 [] tt, (flat 1 _ (depth-Str (codes "1")), tt))))))

tree_deep : depth tree ≤ 4
tree_deep = object_deep 3 _ (list_deep 2 _ (cell_deep, tt), (raise 1 3 _ (omega arith) (object_deep 0 [] tt), (flat 3 _ (depth-Num (codes "4")), (flat 3 _ (depth-Num (codes "5")), tt))))

within : depth tree ≤ 128
within = let h = tree_deep in omega (arith, h)

-- and of nbformat 4.5
abbrev the_cell : Cell
the_cell = record { kind = kind.Code; id = codes "a"; metadata = json.Obj []; source = json.Str (codes "1"); attachments = None; outputs = []; count = None }

abbrev the_notebook : Notebook
the_notebook = record { metadata = json.Obj []; cells = the_cell ∷ [] }

newest : is_older tree ≡ false
newest =
    and_right (has (codes "nbformat") (is_number (codes "4")) tree) (has (codes "nbformat_minor") is_older_minor tree)
    (ap (λ ps. there_and is_older_minor (find (codes "nbformat_minor") ps)) (fields_Obj _)
    ∙ ap (λ o. there_and (λ s. bytes_eq s (codes "0")) o || there_and (λ s. bytes_eq s (codes "1")) o || there_and (λ s. bytes_eq s (codes "2")) o || there_and (λ s. bytes_eq s (codes "3")) o || there_and (λ s. bytes_eq s (codes "4")) o)
    (number_Num (codes "5")))

no_metadata : (keys : List ℕ) (test : Json → Bool) → may_have keys test (json.Obj []) ≡ true
no_metadata key test = ap (λ ps. absent_or test (find key ps)) (fields_Obj [])

fits : notebook_fits the_notebook ≡ true
fits =
    and_from (is_metadata (json.Obj [])) _
    (and_from (is_object (json.Obj []) && may_have (codes "kernelspec") is_kernelspec (json.Obj [])) (may_have (codes "language_info") is_language_info (json.Obj []))
    (and_from (is_object (json.Obj [])) (may_have (codes "kernelspec") is_kernelspec (json.Obj [])) (object_Obj []) (no_metadata (codes "kernelspec") is_kernelspec))
    (no_metadata (codes "language_info") is_language_info))
    (ap (λ b. ((((is_id_text (codes "a") && b) && is_multiline (json.Str (codes "1"))) && true && true) && true) && true)
    (and_from (is_object (json.Obj [])) (may_have (codes "tags") is_strings (json.Obj [])) (object_Obj []) (no_metadata (codes "tags") is_strings))
    ∙ ap (λ o. (is_some o || is_strings (json.Str (codes "1"))) && true && true && true && true) (string_Str (codes "1")))

is_valid : Accepted tree
is_valid = ap is_notebook (cond-false (is_older tree) (raised_object tree) tree newest) ∙ notebook_tree-fits the_notebook ∙ fits

-- the notebook's bytes are read
abbrev read : List Entry
read = made.Read (codes "in") 33554432 (found.Whole (compact tree)) ∷ []

-- it is accepted, and its job runs it
run_for : IsJobOf ask setting (read_of (codes "in") read) (running_job ask setting (accepted_notebook tree))
run_for = accepted (record {
  notebook = accepted_notebook tree;
  read = record { tree = tree; gives = record { spells = compact_text tree sound_tree keyed_tree; within = within }; valid = is_valid; is = refl };
  taken = refl;
  is = refl;
})
