-- The session in which a job speaks, by what its start asked of the world.
use Rattle.std.proofs.Common.{◌≡◌, ℕ, List, [], ◌∷◌, ◌++◌, append_assoc, Option, Some, Result, Ok, Err, refl, sym, ◌∙◌, ap, subst}
use Rattle.std.specs.Prelude.{IfOk}
use Rattle.world.specs.declared.entry.Entry.{Entry}
use Rattle.world.specs.declared.entry.Entry.TheVariants.{Ports}
use Rattle.world.specs.Moments.{Since, Told, start, more}
use Rattle.world.proofs.MomentsLemmas.{told_as}
use Rattle.kernel_start.specs.declared.random_words.RandomPairs.{RandomPairs}
use Rattle.kernel_start.specs.RandomWords.{Draws}
use Rattle.kernel_talk.specs.Requests.{identifier}
use Rattle.job_end.specs.declared.end.End.{End}
use Rattle.job_notebook.specs.State.{output_of}
use Rattle.job_saves.specs.Sessions.{IsSaveCall, key_of}
use Rattle.job_run.specs.Beginning.{HasSession, IsSessionOf, SavesAndAsks, SpeaksOn}
use Rattle.job_run.specs.declared.execution.Execution.{Execution}
use Rattle.job_run.specs.declared.job.Job.{Job}

split_of : {P : List Entry → Type 0} (before after : List Entry) → Since P before after → (later : List Entry) × (after ≡ later ++ before)
split_of before _ start = ([], refl)
split_of before _ (more {past} {entry} w h) = let s = split_of before past w in (entry ∷ s.0, ap (λ xs. entry ∷ xs) s.1)

-- the words were drawn right before the first save, behind which the job asked for its ports
session_of : (number : ℕ) (output : List ℕ) (pairs : RandomPairs) (x : Execution) (j : Job) (begin before after : List Entry) → output_of x.book ≡ output
    → x.session.name ≡ identifier pairs.name.0 pairs.name.1 → x.session.key ≡ key_of pairs → SpeaksOn x j → Draws (Some pairs) begin before → SavesAndAsks number (output_of x.book) before after
    → HasSession number output j begin after
session_of number output pairs x j begin before after output_is name key on draws a =
    let s = split_of (Ports number (Some a.asks.ports) ∷ a.asked) after a.asks.later in
    record {
      pairs = pairs;
      session_is = on.name ∙ name;
      key_is = on.key ∙ key;
      asked = a.asked;
      drawn = record { before = begin; drawn = before; draws = draws; since = subst (λ path. Since (IsSaveCall path) before a.asked) output_is a.saves };
      earlier = [];
      since = refl;
      ports = a.asks.ports;
      later = s.0;
      split = s.1;
    }

pub session_spoken : (old new : Option (List Entry)) (number : ℕ) (output : List ℕ) (pairs : RandomPairs) (x : Execution) (r : Result Job End) → output_of x.book ≡ output
    → x.session.name ≡ identifier pairs.name.0 pairs.name.1 → x.session.key ≡ key_of pairs → IfOk r (SpeaksOn x) → IfOk r (λ j. Told old new (SavesAndAsks number (output_of x.book)))
    → IfOk r (λ j. Told old new (λ before after. (begin : List Entry) → Draws (Some pairs) begin before → HasSession number output j begin after))
session_spoken old new number output pairs x (Ok j) output_is name key on asks =
    told_as asks (λ before after a begin draws. session_of number output pairs x j begin before after output_is name key on draws a)
session_spoken old new number output pairs x (Err e) output_is name key on asks = tt

-- what was drawn since a moment was drawn since an earlier one
pub session_since : (number : ℕ) (output session key : List ℕ) (before mid after added : List Entry) → mid ≡ added ++ before → IsSessionOf number output session key mid after
    → IsSessionOf number output session key before after
session_since number output session key before mid after added is s = record {
  pairs = s.pairs;
  session_is = s.session_is;
  key_is = s.key_is;
  asked = s.asked;
  drawn = s.drawn;
  earlier = s.earlier ++ added;
  since = s.since ∙ ap (λ past. s.earlier ++ past) is ∙ sym (append_assoc s.earlier added before);
  ports = s.ports;
  later = s.later;
  split = s.split;
}
