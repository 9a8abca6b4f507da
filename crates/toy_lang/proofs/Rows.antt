-- A line is read as the row of the table that it is.
use Rattle.std.proofs.Common.{◌≡◌, ◌≢◌, ℕ, ◌⊎◌, Bool, true, false, cond, ◌==◌, List, [], ◌∷◌, ◌++◌, length, Option, Some, None, refl, sym, ap, subst, ◌∙◌, inl, inr, arith}
use Rattle.std.specs.Prelude.{codes, option_and_then}
use Rattle.std.specs.Str.{bytes_eq}
use Rattle.std.proofs.lemmas.Bool.{cond-true, cond-false}
use Rattle.std.proofs.lemmas.Bool.Decides.{nat_tests}
use Rattle.std.specs.List.{list_all}
use Rattle.std.proofs.lemmas.Option.{none-some, same_Some}
use Rattle.jtext.proofs.Equals.{equal_bytes}
use Rattle.jtext.proofs.Keys.{strip_sound}
use Rattle.jtext.specs.Names.{is_name}
use Rattle.toy_lang.specs.declared.verb.Verb.{Verb}
use Rattle.toy_lang.specs.declared.verb.Verb.TheVariants as verb
use Rattle.toy_lang.specs.Lines as lines
use Rattle.toy_lang.specs.Lines.{split_word, strip_equals, assignment, identify, raise_of, assigned_or_command, statement_of_words, statement}
use Rattle.toy_lang.specs.Table.{is_word_byte, IsWord, IsCommand, print, err, result, show, update, raise, IsStatement, assign, command}
use Rattle.toy_lang.proofs.LineWords.{word_split, parted, name_unspaced}

-- what a line with an expression is read as
abbrev Read : Type 0
Read = Verb × List ℕ × List ℕ

-- ---- a row is read

some_bytes : (w : List ℕ) → w ≢ [] → (length w == 0) ≡ false
some_bytes [] h = absurd (h refl)
some_bytes (c ∷ cs) h = grind (arith, nat_tests)

with_id_read : (v : Verb) (id e : List ℕ) → IsWord id → lines.with_id v (id ++ 32 ∷ e) ≡ Some (v, id, e)
with_id_read v id e w =
    ap (option_and_then (identify v)) (word_split id e w.unspaced)
    ∙ cond-false (length id == 0) None (Some (v, id, e)) (some_bytes id w.some)

commanded : (head rest : List ℕ) (s : Read) → list_all is_word_byte head ≡ true → is_name head ≡ true
    → strip_equals rest ≡ None
    → lines.command head rest ≡ Some s → statement (head ++ 32 ∷ rest) ≡ Some s
commanded head rest s unspaced name other e =
    ap (option_and_then statement_of_words) (word_split head rest unspaced)
    ∙ ap (assigned_or_command head rest) (cond-true (is_name head) (strip_equals rest) None name ∙ other) ∙ e

command_read : (v : Verb) (word e head rest : List ℕ) → IsCommand v word e head rest → strip_equals rest ≡ None
    → statement (head ++ 32 ∷ rest) ≡ Some (v, word, e)
command_read v word e head rest (print x) other = commanded (codes "print") x (verb.Print, [], x) refl refl other refl
command_read v word e head rest (err x) other = commanded (codes "err") x (verb.PrintError, [], x) refl refl other
    refl
command_read v word e head rest (result x) other = commanded (codes "result") x (verb.Conclude, [], x) refl refl
    other refl
command_read v word e head rest (show id x w) other =
    commanded (codes "show") (id ++ 32 ∷ x) (verb.Show, id, x) refl refl other (with_id_read verb.Show id x w)
command_read v word e head rest (update id x w) other =
    commanded (codes "update") (id ++ 32 ∷ x) (verb.Update, id, x) refl refl other (with_id_read verb.Update id x w)
command_read v word e head rest (raise name x n) other =
    commanded (codes "raise") (name ++ 32 ∷ x) (verb.Raise, name, x) refl refl other
    (ap (option_and_then raise_of) (word_split name x (name_unspaced name n))
    ∙ cond-true (is_name name) (Some (verb.Raise, name, x)) None n)

-- a row of the table is read as what it is
pub row_read : (v : Verb) (word e line : List ℕ) → IsStatement v word e line → statement line ≡ Some (v, word, e)
row_read v word e line (assign name x n) =
    ap (option_and_then statement_of_words) (word_split name (codes "= " ++ x) (name_unspaced name n))
    ∙ ap (assigned_or_command name (codes "= " ++ x)) (cond-true (is_name name) (Some x) None n)
row_read v word e line (command w x y head rest is other) = command_read w x y head rest is other

-- ---- what is read is a row

either : (b : Bool) (x y : Option Read) (s : Read) → cond b x y ≡ Some s → ((b ≡ true) × (x ≡ Some s)) ⊎ (y ≡ Some s)
either true x y s e = inl (refl, e)
either false x y s e = inr e

-- a command, moved to the word and to the reading that were found
moved : (v : Verb) (word e head w rest : List ℕ) (s : Read) → w ≡ head → (v, word, e) ≡ s
    → IsCommand v word e head rest → IsCommand s.0 s.1 s.2 w rest
moved v word e head w rest s a b is =
    let P : Read → Type 0 = λ r. IsCommand r.0 r.1 r.2 w rest in
    let Q : List ℕ → Type 0 = λ h. IsCommand v word e h rest in
    subst P b (subst Q (sym a) is)

id_back : (v : Verb) (head w rest : List ℕ) (s : Read)
    → ((id e : List ℕ) → IsWord id → IsCommand v id e head (id ++ 32 ∷ e))
    → w ≡ head → lines.with_id v rest ≡ Some s → IsCommand s.0 s.1 s.2 w rest
id_back v head w rest s rule same e = by_split (split_word rest) refl e
  where
    empty : (x : List ℕ) → x ≡ [] → (length x == 0) ≡ false → ⊥
    empty [] n l = cc
    empty (c ∷ cs) n l = cc

    by_length : (p : List ℕ × List ℕ) (b : Bool) → split_word rest ≡ Some p → (length p.0 == 0) ≡ b
        → cond b None (Some (v, p.0, p.1)) ≡ Some s → IsCommand s.0 s.1 s.2 w rest
    by_length p true is l h = absurd (none-some s h)
    by_length p false is l h =
        let parts = parted rest p is in
        let some : p.0 ≢ [] = λ none. absurd (empty p.0 none l) in
        let P : List ℕ → Type 0 = λ r. IsCommand v p.0 p.1 head r in
        moved v p.0 p.1 head w rest s same (same_Some (v, p.0, p.1) s h)
        (subst P (sym parts.0) (rule p.0 p.1 (record { some = some; unspaced = parts.1 })))

    by_split : (r : Option (List ℕ × List ℕ)) → split_word rest ≡ r → option_and_then (identify v) r ≡ Some s
        → IsCommand s.0 s.1 s.2 w rest
    by_split None is h = absurd (none-some s h)
    by_split (Some p) is h = by_length p (length p.0 == 0) is refl h

name_back : (w rest : List ℕ) (s : Read) → w ≡ codes "raise" → lines.with_name rest ≡ Some s
    → IsCommand s.0 s.1 s.2 w rest
name_back w rest s same e = by_split (split_word rest) refl e
  where
    by_name : (p : List ℕ × List ℕ) (b : Bool) → split_word rest ≡ Some p → is_name p.0 ≡ b
        → cond b (Some (verb.Raise, p.0, p.1)) None ≡ Some s → IsCommand s.0 s.1 s.2 w rest
    by_name p false is n h = absurd (none-some s h)
    by_name p true is n h =
        let P : List ℕ → Type 0 = λ r. IsCommand verb.Raise p.0 p.1 (codes "raise") r in
        moved verb.Raise p.0 p.1 (codes "raise") w rest s same (same_Some (verb.Raise, p.0, p.1) s h)
        (subst P (sym (parted rest p is).0) (raise p.0 p.1 n))

    by_split : (r : Option (List ℕ × List ℕ)) → split_word rest ≡ r → option_and_then raise_of r ≡ Some s
        → IsCommand s.0 s.1 s.2 w rest
    by_split None is h = absurd (none-some s h)
    by_split (Some p) is h = by_name p (is_name p.0) is refl h

-- the commands from one of them on
abbrev from_raise : List ℕ → List ℕ → Option Read
from_raise w rest = cond (bytes_eq w (codes "raise")) (lines.with_name rest) None

abbrev from_update : List ℕ → List ℕ → Option Read
from_update w rest = cond (bytes_eq w (codes "update")) (lines.with_id verb.Update rest) (from_raise w rest)

abbrev from_show : List ℕ → List ℕ → Option Read
from_show w rest = cond (bytes_eq w (codes "show")) (lines.with_id verb.Show rest) (from_update w rest)

abbrev from_result : List ℕ → List ℕ → Option Read
from_result w rest = cond (bytes_eq w (codes "result")) (Some (verb.Conclude, [], rest)) (from_show w rest)

abbrev from_err : List ℕ → List ℕ → Option Read
from_err w rest = cond (bytes_eq w (codes "err")) (Some (verb.PrintError, [], rest)) (from_result w rest)

raise_back : (w rest : List ℕ) (s : Read) → from_raise w rest ≡ Some s → IsCommand s.0 s.1 s.2 w rest
raise_back w rest s e = elim (either (bytes_eq w (codes "raise")) (lines.with_name rest) None s e) [
  | inl h ↦ name_back w rest s (equal_bytes w (codes "raise") h.0) h.1
  | inr h ↦ absurd (none-some s h)
]

update_back : (w rest : List ℕ) (s : Read) → from_update w rest ≡ Some s → IsCommand s.0 s.1 s.2 w rest
update_back w rest s e = elim (either (bytes_eq w (codes "update")) (lines.with_id verb.Update rest)
    (from_raise w rest) s e) [
      | inl h ↦ id_back verb.Update (codes "update") w rest s update (equal_bytes w (codes "update") h.0) h.1
      | inr h ↦ raise_back w rest s h
    ]

show_back : (w rest : List ℕ) (s : Read) → from_show w rest ≡ Some s → IsCommand s.0 s.1 s.2 w rest
show_back w rest s e = elim (either (bytes_eq w (codes "show")) (lines.with_id verb.Show rest) (from_update w rest) s
    e) [
      | inl h ↦ id_back verb.Show (codes "show") w rest s show (equal_bytes w (codes "show") h.0) h.1
      | inr h ↦ update_back w rest s h
    ]

result_back : (w rest : List ℕ) (s : Read) → from_result w rest ≡ Some s → IsCommand s.0 s.1 s.2 w rest
result_back w rest s e = elim (either (bytes_eq w (codes "result")) (Some (verb.Conclude, [], rest))
    (from_show w rest) s e) [
      | inl h ↦
          let same = same_Some (verb.Conclude, [], rest) s h.1 in
          moved verb.Conclude [] rest (codes "result") w rest s (equal_bytes w (codes "result") h.0) same (result rest)
      | inr h ↦ show_back w rest s h
    ]

err_back : (w rest : List ℕ) (s : Read) → from_err w rest ≡ Some s → IsCommand s.0 s.1 s.2 w rest
err_back w rest s e = elim (either (bytes_eq w (codes "err")) (Some (verb.PrintError, [], rest)) (from_result w rest)
    s e) [
      | inl h ↦
          let same = same_Some (verb.PrintError, [], rest) s h.1 in
          moved verb.PrintError [] rest (codes "err") w rest s (equal_bytes w (codes "err") h.0) same (err rest)
      | inr h ↦ result_back w rest s h
    ]

command_back : (w rest : List ℕ) (s : Read) → lines.command w rest ≡ Some s → IsCommand s.0 s.1 s.2 w rest
command_back w rest s e = elim (either (bytes_eq w (codes "print")) (Some (verb.Print, [], rest)) (from_err w rest) s
    e) [
      | inl h ↦
          let same = same_Some (verb.Print, [], rest) s h.1 in
          moved verb.Print [] rest (codes "print") w rest s (equal_bytes w (codes "print") h.0) same (print rest)
      | inr h ↦ err_back w rest s h
    ]

command_name : (v : Verb) (word e head rest : List ℕ) → IsCommand v word e head rest → is_name head ≡ true
command_name v word e head rest (print x) = refl
command_name v word e head rest (err x) = refl
command_name v word e head rest (result x) = refl
command_name v word e head rest (show id x w) = refl
command_name v word e head rest (update id x w) = refl
command_name v word e head rest (raise name x n) = refl

assign_back : (w rest x : List ℕ) (s : Read) → assignment w rest ≡ Some x → (verb.Assign, w, x) ≡ s
    → IsStatement s.0 s.1 s.2 (w ++ 32 ∷ rest)
assign_back w rest x s e same = by_name (is_name w) refl e
  where
    no_rest : ◌≡◌ {A = Option (List ℕ)} None (Some x) → ⊥
    no_rest h = cc

    by_name : (b : Bool) → is_name w ≡ b → cond b (strip_equals rest) None ≡ Some x
        → IsStatement s.0 s.1 s.2 (w ++ 32 ∷ rest)
    by_name false n h = absurd (no_rest h)
    by_name true n h =
        let P : Read → Type 0 = λ r. IsStatement r.0 r.1 r.2 (w ++ 32 ∷ rest) in
        let Q : List ℕ → Type 0 = λ r. IsStatement verb.Assign w x (w ++ 32 ∷ r) in
        subst P same (subst Q (sym (strip_sound (codes "= ") rest x h)) (assign w x n))

words_back : (w rest : List ℕ) (s : Read) → statement_of_words (w, rest) ≡ Some s
    → IsStatement s.0 s.1 s.2 (w ++ 32 ∷ rest)
words_back w rest s e = by_assigned (assignment w rest) refl e
  where
    by_assigned : (r : Option (List ℕ)) → assignment w rest ≡ r → assigned_or_command w rest r ≡ Some s
        → IsStatement s.0 s.1 s.2 (w ++ 32 ∷ rest)
    by_assigned (Some x) is h = assign_back w rest x s is (same_Some (verb.Assign, w, x) s h)
    by_assigned None is h =
        let c = command_back w rest s h in
        let name = command_name s.0 s.1 s.2 w rest c in
        command s.0 s.1 s.2 w rest c (sym (cond-true (is_name w) (strip_equals rest) None name) ∙ is)

-- what a line is read as is a row of the table
pub read_row : (line : List ℕ) (s : Read) → statement line ≡ Some s → IsStatement s.0 s.1 s.2 line
read_row line s e = by_split (split_word line) refl e
  where
    by_split : (r : Option (List ℕ × List ℕ)) → split_word line ≡ r → option_and_then statement_of_words r ≡ Some s
        → IsStatement s.0 s.1 s.2 line
    by_split None is h = absurd (none-some s h)
    by_split (Some p) is h =
        let P : List ℕ → Type 0 = IsStatement s.0 s.1 s.2 in
        subst P (sym (parted line p is).0) (words_back p.0 p.1 s h)
