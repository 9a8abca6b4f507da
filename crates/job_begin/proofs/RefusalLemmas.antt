-- Which refusal a job names whose begin ends it.
use Rattle.std.proofs.Common.{◌≡◌, inl, inr, List, Option, Some, None, Result, Ok, Err, refl, sym, subst}
use Rattle.std.specs.Prelude.{IfErr}
use Rattle.nb_model.specs.declared.notebook.Notebook.{Notebook}
use Rattle.words.specs.declared.ask.Ask.{Ask}
use Rattle.world.specs.declared.entry.Entry.{Entry}
use Rattle.world.specs.Moments.{Told}
use Rattle.kernel_start.specs.Finding.{FindsBy}
use Rattle.job_end.specs.declared.answer.Answer.{Answer}
use Rattle.job_end.specs.declared.end.End.{End}
use Rattle.job_end.specs.Answers.{Answers, said, starved, starved_answer}
use Rattle.job_end.specs.Statuses.{status_of}
use Rattle.job_end.specs.Reasons.{line_of}
use Rattle.job_saves.specs.Reads.{first_of}
use Rattle.job_run.specs.declared.job.Job.{Job}
use Rattle.job_begin.specs.Begun.{AnswersAs, GivesNone, HasRead, KernelEnds, NamesRefusal}
use Rattle.job_begin.proofs.BeginLemmas.{Appends}

starved_names : (a : Ask) (x y : List Entry) → NamesRefusal a starved_answer x y
starved_names a x y = record { input = λ is. absurd (cc); kernel = λ is. absurd (cc) }

pub starved_refuses : (a : Ask) (answer : Answer) (x y : List Entry) → answer ≡ starved_answer → NamesRefusal a answer x y
starved_refuses a answer x y is = subst (λ s. NamesRefusal a s x y) (sym is) (starved_names a x y)

pub input_refuses : (a : Ask) (e : End) (answer : Answer) (x y : List Entry) → Answers a.output e answer → GivesNone a x e y → NamesRefusal a answer x y
input_refuses a e _ x y starved gives = starved_names a x y
input_refuses a e _ x y said gives = record {
  input = λ is. record { end = e; gives = gives; answers = said };
  kernel = λ is. inl (record { end = e; gives = gives; answers = said });
}

kernel_refuses : (a : Ask) (n : Notebook) (e : End) (answer : Answer) (w x y : List Entry) → Answers a.output e answer → KernelEnds a (first_of a n) (Some x) (Some y) e → HasRead a n w x
    → NamesRefusal a answer w y
kernel_refuses a n e _ w x y starved ends read = starved_names a w y
kernel_refuses a n e _ w x y said ends read = record {
  input = λ is. absurd (ends.loaded is);
  kernel = λ is. let l = (ends.kernel is).so in inr (record {
    bytes = read.bytes;
    notebook = n;
    accepted = read.accepted;
    fault = l.fault;
    finds = subst (λ past. FindsBy a (first_of a n) (Err l.fault) past y) read.is l.finds;
    answers = subst (λ x. Answers a.output x (record { status = status_of e; line = line_of a.output e })) l.end_is said;
  });
}

refuses_told : (a : Ask) (n : Notebook) (begun : Result Job End) (answer : Answer) (w x y : List Entry) → AnswersAs a.output begun (Err answer)
    → IfErr begun (KernelEnds a (first_of a n) (Some x) (Some y)) → HasRead a n w x → NamesRefusal a answer w y
refuses_told a n (Ok j) answer w x y wrong ends read = absurd wrong
refuses_told a n (Err e) answer w x y answers ends read = kernel_refuses a n e answer w x y answers ends read

-- the begin of a job whose input was read
pub begun_refuses : (a : Ask) (n : Notebook) (begun : Result Job End) (result : Result Job Answer) (i j k : Option (List Entry)) → AnswersAs a.output begun result
    → ((x y : List Entry) → j ≡ Some x → k ≡ Some y → IfErr begun (KernelEnds a (first_of a n) (Some x) (Some y))) → Told i j (HasRead a n) → Told j k Appends
    → IfErr result (λ answer. Told i k (NamesRefusal a answer))
begun_refuses a n begun (Ok job) i j k answers ends read more = tt
begun_refuses a n begun (Err answer) i j None answers ends read more = record { so = tt }
begun_refuses a n begun (Err answer) i None (Some y) answers ends read more = absurd more.so
begun_refuses a n begun (Err answer) None (Some x) (Some y) answers ends read more = absurd read.so
begun_refuses a n begun (Err answer) (Some w) (Some x) (Some y) answers ends read more = record { so = refuses_told a n begun answer w x y answers (ends x y refl refl) read.so }
