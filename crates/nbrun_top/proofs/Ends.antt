-- What a run that ended well has left.
use Rattle.std.proofs.Common.{◌≡◌, ◌⊎◌, inl, inr, ℕ, List, [], ◌∷◌, Ok, refl, sym, ◌∙◌, ap}
use Rattle.words.specs.declared.ask.Ask.{Ask}
use Rattle.world.specs.declared.entry.Entry.{Entry}
use Rattle.world.specs.declared.entry.Entry.TheVariants.{Read}
use Rattle.world.specs.declared.read_file.ReadFile.TheVariants as found
use Rattle.world.specs.declared.left.Left.TheVariants as left
use Rattle.world.specs.Disk.{leaves}
use Rattle.world.specs.Moments.{Since}
use Rattle.world.specs.Parts.{OnSay, IsOf}
use Rattle.world.proofs.PartsLemmas.{place_since}
use Rattle.nb_model.specs.declared.notebook.Notebook.{Notebook}
use Rattle.nbrun_top.specs.declared.end.End.{End}
use Rattle.nbrun_top.specs.declared.end.End.TheVariants as end
use Rattle.nbrun_top.specs.Asked.{IsJob}
use Rattle.nbrun_top.specs.Codes.{code_of, end_of}
use Rattle.nb_load.specs.declared.load_fault.LoadFault.{LoadFault}
use Rattle.nb_load.specs.declared.load_fault.LoadFault.TheVariants as fault
use Rattle.nb_load.specs.Loaded.{Accepts}
use Rattle.nbrun_top.specs.Ran.{SavesAs, Prepares, Ran, IsDelivered, read_of}
use Rattle.nb_text.specs.Notebooks.{text_of}
use Rattle.nbrun_top.specs.Ran as ran
use Rattle.said_lines.proofs.SpeechLemmas.{says_since}
use Rattle.nbrun_top.specs.Ended.{Answers, Ended, plain, not_said}
use Rattle.save_disk.proofs.Laws.{part_of_save}
use Rattle.nbrun_top.proofs.Saves.{EndsWith, ends_since, leaves_text}

-- ---- the status

-- no end has this number
no_eleven : (e : End) → code_of e ≡ 11 → ⊥
no_eleven (end.Done cells) is = cc
no_eleven (end.Refused usage) is = cc
no_eleven end.NotRead is = cc
no_eleven end.TooLarge is = cc
no_eleven (end.NotLoaded (fault.NotJson f)) is = cc
no_eleven (end.NotLoaded (fault.NotNotebook f)) is = cc
no_eleven (end.NotLoaded (fault.NoTranslator language)) is = cc
no_eleven (end.NotLoaded fault.NoMemory) is = cc
no_eleven (end.NotSaved f) is = cc
no_eleven end.NoMemory is = cc

done_code : (failed : Type 0) (e : End) (c code : ℕ) → c ≡ code_of e → Answers failed c code → (code ≡ 0) ⊎ (code ≡ 11) → code_of e ≡ 0
done_code failed e c code is (plain heard) (inl zero_) = sym is ∙ zero_
done_code failed e c code is (plain heard) (inr eleven) = absurd (no_eleven e (sym is ∙ eleven))
done_code failed e c code is (not_said f) well = sym is

-- ---- the save

-- a save that went well, after a read that began the run
record IsSaved (a : Ask) (journal : List Entry) : Type 0 where
  bytes : List ℕ
  notebook : Notebook
  accepted : Accepts a bytes notebook
  was_read : EndsWith (Read a.input 33554432 (found.Whole bytes)) journal
  leaves : leaves journal a.output ≡ left.Whole (text_of notebook) ∷ []

saved_well : (a : Ask) (bytes : List ℕ) (n : Notebook) (e : End) (before after : List Entry) → code_of e ≡ 0 → Accepts a bytes n → EndsWith (Read a.input 33554432 (found.Whole bytes)) before → SavesAs a.output n before e after → IsSaved a after
saved_well a bytes n e before after zero_ accepted read (ran.not_saved why after_ saved) = cc
saved_well a bytes n e before after zero_ accepted read ran.not_made = cc
saved_well a bytes n e before after zero_ accepted read (ran.done after_ saved) =
    record {
      bytes = bytes;
      notebook = n;
      accepted = accepted;
      was_read = ends_since read (part_of_save {U = Unit {0}} a.output (text_of n) before (Ok tt) after saved);
      leaves = leaves_text a.output (text_of n) before after saved;
    }

refuses_no_end : (f : LoadFault) → code_of (end_of f) ≡ 0 → ⊥
refuses_no_end (fault.NotJson f) z = cc
refuses_no_end (fault.NotNotebook f) z = cc
refuses_no_end (fault.NoTranslator language) z = cc
refuses_no_end fault.NoMemory z = cc

prepared_well : (a : Ask) (e : End) (before after : List Entry) → before ≡ [] → code_of e ≡ 0 → Prepares a before e after → IsSaved a after
prepared_well a e before after new zero_ ran.cannot_read = cc
prepared_well a e before after new zero_ ran.too_large = cc
prepared_well a e before after new zero_ (ran.not_accepted bytes f why) = absurd (refuses_no_end f zero_)
prepared_well a e before after new zero_ (ran.no_memory_later answer) = cc
prepared_well a e before after new zero_ (ran.saves bytes n e_ after_ accepted saved) =
    saved_well a bytes n e (read_of a (found.Whole bytes) before) after zero_ accepted
    (record { later_entries = []; split = ap (λ x. Read a.input 33554432 (found.Whole bytes) ∷ x) new }) saved

delivered_after : (words : List (List ℕ)) (a : Ask) (on_disk after : List Entry) → IsJob words a → IsSaved a on_disk → Since (IsOf OnSay) on_disk after → IsDelivered words after
delivered_after words a on_disk after is s since =
    let ends = ends_since s.was_read since in
    record {
      ask = a;
      job = is;
      bytes = s.bytes;
      notebook = s.notebook;
      later = ends.later_entries;
      was_read = ends.split;
      accepted = s.accepted;
      leaves_text = ap (λ p. (p a.output).options) (place_since (λ e. cc) since) ∙ s.leaves;
    }

ran_well : (words : List (List ℕ)) (e : End) (before on_disk after : List Entry) → before ≡ [] → code_of e ≡ 0 → Ran words before e on_disk → Since (IsOf OnSay) on_disk after → IsDelivered words after
ran_well words e before on_disk after new zero_ (ran.refused u is) since = cc
ran_well words e before on_disk after new zero_ ran.no_memory since = cc
ran_well words e before on_disk after new zero_ (ran.job a e_ after_ is prepares) since = delivered_after words a on_disk after is (prepared_well a e before on_disk new zero_ prepares) since

pub delivered : (words : List (List ℕ)) (code : ℕ) (rose cut : Type 0) (before after : List Entry) → Ended words code rose cut before after → before ≡ [] → (code ≡ 0) ⊎ (code ≡ 11) → IsDelivered words after
delivered words code rose cut before after ended new well =
    ran_well words ended.end before ended.on_disk after new (done_code rose ended.end (code_of ended.end) code refl ended.answers well) ended.ran (says_since ended.says)
