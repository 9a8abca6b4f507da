-- What was said of the jobs that have ended, and what is still to be said.
use Rattle.std.proofs.Common.{◌≡◌, ◌≢◌, inl, inr, ℕ, ◌<◌, ◌||◌, Bool, true, false, List, [], ◌∷◌, ◌++◌, Option, Some, refl, sym, ◌∙◌, ap, subst, append_assoc, arith}
use Rattle.std.specs.Prelude.{slice_get}
use Rattle.std.proofs.lemmas.Bool.{cases_eq, eq-eqb, false≢true, ne_eqb}
use Rattle.std.proofs.lemmas.Option.{same_Some}
use Rattle.words.specs.declared.ask.Ask.{Ask}
use Rattle.world.specs.declared.entry.Entry.{Entry}
use Rattle.world.specs.Counts.{Counts, CountsGrow}
use Rattle.world.specs.Moments.{Told}
use Rattle.said_lines.specs.Speech.{Says}
use Rattle.said_lines.specs.Speech as speech
use Rattle.ready_loop.specs.Offers.{Extends}
use Rattle.job_end.specs.declared.answer.Answer.{Answer}
use Rattle.job_run.specs.declared.job.Job.{Job}
use Rattle.batch_run.specs.declared.slot.Slot.{Slot}
use Rattle.batch_run.specs.declared.slot.Slot.TheVariants.{Running, Ended}
use Rattle.batch_run.specs.Batch.{HasSaid}
use Rattle.batch_run.specs.Owed.{unknown}
use Rattle.batch_run.specs.Stands.{Outset, AllStand, EndsSaid, hush}
use Rattle.batch_run.proofs.JournalLemmas.{extension, told_at}

-- ---- a line

-- a line that was said up to where a say failed, where more is known to have failed
says_as : {line : List ℕ} {F G : Type 0} {before after : List Entry} → (F → G) → Says line F before after → Says line G before after
says_as to (speech.whole s) = speech.whole s
says_as to (speech.cut f s) = speech.cut (to f) s
says_as to (speech.refused f s) = speech.refused (to f) s

-- it was said before what came later
pub said_later : (line : List ℕ) (c d : Counts) (before past after : List Entry) → Extends past after → CountsGrow c d → HasSaid line (0 < c.say) before past
    → HasSaid line (0 < d.say) before after
said_later line c d before past after grown grow h =
    let more = extension grown in
    record {
      earlier = h.earlier;
      said = h.said;
      later = more.0 ++ h.later;
      says = says_as (λ f. omega (arith, f, grow.say)) h.says;
      split = more.1 ∙ ap (λ (j : List Entry). more.0 ++ j) h.split ∙ sym (append_assoc more.0 h.later h.said);
    }

-- it is the last that was said
pub said_now : (line : List ℕ) (F : Type 0) (before past after : List Entry) → Extends before past → Says line F past after → HasSaid line F before after
said_now line F before past after grown says =
    let more = extension grown in
    record { earlier = more.0; said = after; later = []; says = subst (λ (j : List Entry). Says line F j after) more.1 says; split = refl }

-- nothing is to be said
pub said_nothing : (F : Type 0) (before past : List Entry) → Extends before past → HasSaid [] F before past
said_nothing F before past grown = said_now [] F before past past grown (speech.whole speech.none)

-- ---- what is still to be said

pub hushed_own : (k : ℕ) (from : Outset) → (hush k from).hushed k ≡ true
hushed_own k from = ap (λ (b : Bool). b || from.hushed k) (eq-eqb k k refl)

hushed_other : (k i : ℕ) (from : Outset) → i ≢ k → (hush k from).hushed i ≡ from.hushed i
hushed_other k i from ne = ap (λ (b : Bool). b || from.hushed i) (ne_eqb i k ne)

-- where something else is still to be said
resay : (asks : ℕ → Option Ask) (start : Option (List Entry)) (from : Outset) (hushed : ℕ → Bool) (slots : List Slot) (p : Option (List Entry)) (c : Counts)
    → EndsSaid asks start (record from { hushed = hushed }) slots p c → AllStand asks start from slots p c → AllStand asks start (record from { hushed = hushed }) slots p c
resay asks start from hushed slots p c said s = record {
  size = s.size;
  asked = s.asked;
  grow = s.grow;
  waits = s.waits;
  waited = s.waited;
  told = s.told;
  calls = s.calls;
  spoken = s.spoken;
  idle = s.idle;
  apart = s.apart;
  tells = s.tells;
  wired = s.wired;
  few = s.few;
  plays = s.plays;
  ends = s.ends;
  counted = s.counted;
  each = s.each;
  served = s.served;
  said = said;
}

module _ (asks : ℕ → Option Ask) (start : Option (List Entry)) (from : Outset) (slots : List Slot) (p : Option (List Entry)) (c : Counts) (k : ℕ) where
  -- of one more job it is still to be said
  pub hushes : AllStand asks start from slots p c → AllStand asks start (hush k from) slots p c
  hushes s =
      resay asks start from (hush k from).hushed slots p c
      (λ known before past st e i a answer loud at got. elim (cases_eq i k) [
        | inl same ↦ absurd (false≢true (sym loud ∙ subst (λ m. (hush k from).hushed m ≡ true) (sym same) (hushed_own k from)))
        | inr ne ↦ s.said known before past st e i a answer (sym (hushed_other k i from ne) ∙ loud) at got
      ]) s

  -- of one less: it was said
  pub speaks : ((before past : List Entry) → start ≡ Some before → p ≡ Some past → Extends before past → (a : Ask) (answer : Answer) → asks k ≡ Some a
      → slice_get slots k ≡ Some (Ended answer) → HasSaid answer.line (0 < c.say) before past)
      → AllStand asks start (hush k from) slots p c → AllStand asks start from slots p c
  speaks own s =
      resay asks start (hush k from) from.hushed slots p c
      (λ known before past st e i a answer loud at got. elim (cases_eq i k) [
        | inl same ↦
            own before past st e (told_at start p Extends before past s.told st e) a answer (subst (λ m. asks m ≡ Some a) same at)
            (subst (λ m. slice_get slots m ≡ Some (Ended answer)) same got)
        | inr ne ↦ s.said known before past st e i a answer (hushed_other k i from ne ∙ loud) at got
      ]) s

  -- or it runs
  pub speaks_running : (j : Job) → slice_get slots k ≡ Some (Running j) → AllStand asks start (hush k from) slots p c → AllStand asks start from slots p c
  speaks_running j found s = speaks (λ before past st e grown a answer at got. let no : Running j ≡ Ended answer = same_Some _ _ (sym found ∙ got) in absurd (cc)) s

  -- or nothing is known
  pub speaks_unknown : from.owed ≡ unknown → AllStand asks start (hush k from) slots p c → AllStand asks start from slots p c
  speaks_unknown unknown_is s = resay asks start (hush k from) from.hushed slots p c (λ known. absurd (known unknown_is)) s
