-- Statuses come only where the counts of what they tell of rose.
use Rattle.std.proofs.Common.{◌≡◌, ◌⊎◌, inl, inr, ℕ, suc, ◌<◌, ◌≤◌, ◌+◌, Bool, true, false, List, [], ◌∷◌, ◌++◌, length, Some, refl, sym, ◌∙◌, subst, ap, cond, arith}
use Rattle.std.specs.Prelude.{◌==◌, ◌||◌, slice_get, unwrap_or}
use Rattle.std.proofs.lemmas.Option.{none-some, slice_get_within}
use Rattle.jtext.proofs.Lists.{some_at}
use Rattle.words.specs.declared.ask.Ask.{Ask}
use Rattle.words.specs.declared.usage.Usage.{Usage}
use Rattle.world.specs.Counts.{Counts, CountsGrow, DiskCause, Rose}
use Rattle.world.proofs.CountsLemmas.{disk_grows, grow_start, rose_since, rose_still}
use Rattle.job_end.specs.declared.answer.Answer.{Answer}
use Rattle.batch_run.specs.Batch.{AreEnds, EndSpent}
use Rattle.graph_run.specs.declared.ended.Ended.{Ended}
use Rattle.graph_run.specs.declared.end.End.{End}
use Rattle.graph_run.specs.declared.end.End.TheVariants as end
use Rattle.graph_run.specs.declared.refusal.Refusal.{Refusal}
use Rattle.graph_run.specs.declared.refusal.Refusal.TheVariants as refusal
use Rattle.graph_run.specs.Answers.{Answers, plain, not_said, FirstFault}
use Rattle.graph_run.specs.Lines.{code_of, status_of_refusal}
use Rattle.graph_run.specs.Promise.{Kept}
use Rattle.graph_run.specs.Ran.{IsCaused, IsJobStatus, AreCaused}
use Rattle.graph_run.specs.Tests.{status_of}
use Rattle.graph_run.specs.Waves.{ends_of}
use Rattle.graph_run.proofs.JobStatuses.{no_eleven}

-- ---- one status

-- a status that tells of calls
abbrev tells : ℕ → Bool
tells n = n == 3 || n == 6 || n == 10 || n == 14 || n == 16

pub quiet : (most : ℕ) (old new : Counts) (n : ℕ) → tells n ≡ false → IsCaused most old new n
quiet most old new n none = record {
  cause = record {
    read = λ e. let wrong : true ≡ false = subst (λ m. tells m ≡ false) e none in absurd (cc);
    start = λ e. let wrong : true ≡ false = subst (λ m. tells m ≡ false) e none in absurd (cc);
    save = λ e. let wrong : true ≡ false = subst (λ m. tells m ≡ false) e none in absurd (cc);
    net = λ e. let wrong : true ≡ false = subst (λ m. tells m ≡ false) e none in absurd (cc);
  };
  spent = λ e. let wrong : true ≡ false = subst (λ m. tells m ≡ false) e none in absurd (cc);
}

read_caused : (most : ℕ) (old new : Counts) → Rose old.disk new.disk → IsCaused most old new 3
read_caused most old new rose = record {
  cause = record { read = λ e. rose; start = λ e. absurd (cc); save = λ e. absurd (cc); net = λ e. absurd (cc) };
  spent = λ e. absurd (cc);
}

quiet_job : (most : ℕ) (old new : Counts) (n : ℕ) → tells n ≡ false → (n ≡ 11 → ⊥) → IsJobStatus most old new n
quiet_job most old new n none other = record { caused = quiet most old new n none; other = other }

pub refusal_caused : (most : ℕ) (old new : Counts) (why : Refusal) → ((path : List ℕ) → why ≡ refusal.NotRead path → Rose old.disk new.disk)
    → IsJobStatus most old new (status_of_refusal why)
refusal_caused most old new refusal.Skipped read = quiet_job most old new 17 refl (λ e. absurd (cc))
refusal_caused most old new (refusal.NotRead path) read = record { caused = read_caused most old new (read path refl); other = λ e. absurd (cc) }
refusal_caused most old new refusal.TooLarge read = quiet_job most old new 4 refl (λ e. absurd (cc))
refusal_caused most old new (refusal.NotLoaded f) read = quiet_job most old new 4 refl (λ e. absurd (cc))
refusal_caused most old new (refusal.NoScrap scrap job) read = quiet_job most old new 18 refl (λ e. absurd (cc))
refusal_caused most old new refusal.NoMemory read = quiet_job most old new 12 refl (λ e. absurd (cc))

pub end_caused : (most : ℕ) (old new : Counts) (e : End) → (e ≡ end.NotRead → Rose old.disk new.disk) → IsCaused most old new (code_of e)
end_caused most old new (end.Refused u) read = quiet most old new 2 refl
end_caused most old new end.NotRead read = read_caused most old new (read refl)
end_caused most old new end.NoMemory read = quiet most old new 12 refl

-- ---- earlier and later

pub caused_since : (most : ℕ) (first old new last : Counts) (n : ℕ) → CountsGrow first old → CountsGrow new last → IsCaused most old new n → IsCaused most first last n
caused_since most first old new last n g h c = record {
  cause = record {
    read = λ e. rose_since first.disk old.disk last.disk g.disk (rose_still old.disk new.disk last.disk (c.cause.read e) h.disk);
    start = λ e. elim (c.cause.start e) [
      | inl r ↦ inl (rose_since first.rand old.rand last.rand g.rand (rose_still old.rand new.rand last.rand r h.rand))
      | inr r ↦ inr (rose_since first.child old.child last.child g.child (rose_still old.child new.child last.child r h.child))
    ];
    save = λ e. rose_since first.disk old.disk last.disk g.disk (rose_still old.disk new.disk last.disk (c.cause.save e) h.disk);
    net = λ e. rose_since first.net old.net last.net g.net (rose_still old.net new.net last.net (c.cause.net e) h.net);
  };
  spent = λ e. let w = c.spent e in let m = h.waits in omega (arith, w, m);
}

job_since : (most : ℕ) (first old new last : Counts) (n : ℕ) → CountsGrow first old → CountsGrow new last → IsJobStatus most old new n → IsJobStatus most first last n
job_since most first old new last n g h c = record { caused = caused_since most first old new last n g h c.caused; other = c.other }

pub all_since : (most : ℕ) (first old new last : Counts) (ended : List Ended) → CountsGrow first old → CountsGrow new last → AreCaused most old new ended → AreCaused most first last ended
all_since most first old new last [] g h all = tt
all_since most first old new last (e ∷ es) g h all = (job_since most first old new last e.status g h all.0, all_since most first old new last es g h all.1)

pub all_both : (most : ℕ) (old new : Counts) (xs ys : List Ended) → AreCaused most old new xs → AreCaused most old new ys → AreCaused most old new (xs ++ ys)
all_both most old new [] ys p q = q
all_both most old new (x ∷ xs) ys p q = (p.0, all_both most old new xs ys p.1 q)

-- ---- the answers of a run

answers_each : (most : ℕ) (old new : Counts) (jobs : List ℕ) (answers : List Answer) → ((i : ℕ) (a : Answer) → slice_get answers i ≡ Some a → IsJobStatus most old new a.status)
    → AreCaused most old new (ends_of jobs answers)
answers_each most old new [] answers each = tt
answers_each most old new (job ∷ jobs) [] each = tt
answers_each most old new (job ∷ jobs) (a ∷ answers) each = (each 0 a refl, answers_each most old new jobs answers (λ i b at. each (suc i) b at))

pub answers_caused : (turns : ℕ) (asks : List Ask) (jobs : List ℕ) (answers : List Answer) (old new : Counts) → length answers ≡ length asks → AreEnds asks old new answers
    → EndSpent turns old new answers → AreCaused (old.waits + turns) old new (ends_of jobs answers)
answers_caused turns asks jobs answers old new one_each ends spent = answers_each (old.waits + turns) old new jobs answers each
  where
    each : (i : ℕ) (x : Answer) → slice_get answers i ≡ Some x → IsJobStatus (old.waits + turns) old new x.status
    each i x at =
        let within : i < length answers = slice_get_within answers i x at in
        let a = some_at asks i (subst (λ m. i < m) one_each within) in
        let end = ends i a.0 x a.1 at in
        record { caused = record { cause = end.cause; spent = λ e. spent i x at e }; other = no_eleven a.0.output x end.is }

-- ---- the first fault

status_caused : (most : ℕ) (old new : Counts) (job status : ℕ) (ended : List Ended) → AreCaused most old new ended → status_of job ended ≡ Some status → IsJobStatus most old new status
status_caused most old new job status [] all at = absurd (none-some status at)
status_caused most old new job status (e ∷ es) all at = by (status_caused most old new job status es all.1) (e.job == job) at
  where
    by : (status_of job es ≡ Some status → IsJobStatus most old new status) → (b : Bool) → cond b (Some e.status) (status_of job es) ≡ Some status → IsJobStatus most old new status
    by rest true is = subst (IsJobStatus most old new) (ap (λ o. unwrap_or o 0) is) all.0
    by rest false is = rest is

pub fault_caused : (most : ℕ) (old new : Counts) (ended : List Ended) (count code : ℕ) → FirstFault ended count code → AreCaused most old new ended → IsJobStatus most old new code
fault_caused most old new ended count _ (FirstFault.none each) all = quiet_job most old new 0 refl (λ e. absurd (cc))
fault_caused most old new ended count _ (FirstFault.first job status below before at some) all = status_caused most old new job status ended all at

pub answer_caused : (most : ℕ) (old new : Counts) (rose : Type 0) (code given : ℕ) → Answers rose code given → IsJobStatus most old new code → IsCaused most old new given
answer_caused most old new rose code _ (plain heard) c = c.caused
answer_caused most old new rose _ _ (not_said f) c = quiet most old new 11 refl

-- ---- calls of the disk

pub disk_start : (c : Counts) → DiskCause c c ⊥
disk_start c = record { others = refl; disk = record { later = omega arith; cause = λ f. absurd f } }

pub disk_then : {a b c : Counts} → DiskCause a b ⊥ → DiskCause b c ⊥ → DiskCause a c ⊥
disk_then {a} {b} {c} x y = record {
  others = y.others ∙ ap (λ (k : Counts). record k { disk = c.disk }) x.others;
  disk = record { later = omega (arith, x.disk.later, y.disk.later); cause = λ f. absurd f };
}

-- ---- what the counts tell of a graph

-- a graph whose jobs ran
pub kept_ran : {W : Type 0} (counts : W → Counts) (old new : W) (turns count code result faults : ℕ) (ended list : List Ended) → list ≡ ended → faults ≡ (counts old).say → FirstFault list count code
    → AreCaused ((counts old).waits + turns) (counts old) (counts new) ended → (counts new).waits ≤ (counts old).waits + turns → Answers (Rose faults (counts new).say) code result
    → (result ≡ 11 → (code ≡ 11) ⊎ ((code ≡ 0) × Rose faults (counts new).say)) → (result ≡ 0 → Rose faults (counts new).say → ⊥) → Kept counts old new turns result
kept_ran counts old new turns count code result faults ended list same first fault all waits answers told heard =
    let most = (counts old).waits + turns in
    let job = fault_caused most (counts old) (counts new) ended count code (subst (λ l. FirstFault l count code) same fault) all in
    record {
      caused = answer_caused most (counts old) (counts new) (Rose faults (counts new).say) code result answers job;
      say = λ e. elim (told e) [ inl eleven ↦ absurd (job.other eleven) | inr h ↦ subst (λ n. Rose n (counts new).say) first h.1 ];
      waits = waits;
      heard = λ e rose. heard e (subst (λ n. Rose n (counts new).say) (sym first) rose);
    }

end_heard : (e : End) → code_of e ≡ 11 → ⊥
end_heard (end.Refused u) is = absurd (cc)
end_heard end.NotRead is = absurd (cc)
end_heard end.NoMemory is = absurd (cc)

end_faulty : (e : End) → code_of e ≡ 0 → ⊥
end_faulty (end.Refused u) is = absurd (cc)
end_faulty end.NotRead is = absurd (cc)
end_faulty end.NoMemory is = absurd (cc)

-- a graph that has no jobs
pub kept_end : {W : Type 0} (counts : W → Counts) (old new : W) (turns result : ℕ) (e : End) → result ≡ code_of e → (e ≡ end.NotRead → Rose (counts old).disk (counts new).disk)
    → (counts new).waits ≤ (counts old).waits + turns → Kept counts old new turns result
kept_end counts old new turns result e is read waits =
    subst (Kept counts old new turns) (sym is) (record {
      caused = end_caused ((counts old).waits + turns) (counts old) (counts new) e read;
      say = λ f. absurd (end_heard e f);
      waits = waits;
      heard = λ z rose. end_faulty e z;
    })

-- memory was refused
pub kept_no_memory : {W : Type 0} (counts : W → Counts) (old new : W) (turns result : ℕ) → result ≡ 12 → (counts new).waits ≤ (counts old).waits + turns → Kept counts old new turns result
kept_no_memory counts old new turns result is waits = kept_end counts old new turns result end.NoMemory is (λ e. absurd (cc)) waits

-- words that are refused
pub kept_refused : {W : Type 0} (counts : W → Counts) (old new : W) (turns result : ℕ) (u : Usage) (e : End) → result ≡ code_of e → (e ≡ end.Refused u) ⊎ (e ≡ end.NoMemory)
    → (counts new).waits ≤ (counts old).waits + turns → Kept counts old new turns result
kept_refused counts old new turns result u e is kind waits = kept_end counts old new turns result e is (λ read. absurd (unread read kind)) waits
  where
    unread : e ≡ end.NotRead → (e ≡ end.Refused u) ⊎ (e ≡ end.NoMemory) → ⊥
    unread read (inl refused) = let wrong : end.NotRead ≡ end.Refused u = sym read ∙ refused in absurd (cc)
    unread read (inr none) = let wrong : end.NotRead ≡ end.NoMemory = sym read ∙ none in absurd (cc)

-- a read of the file before
pub kept_since : {W : Type 0} (counts : W → Counts) (old mid new : W) (turns result : ℕ) → DiskCause (counts old) (counts mid) ⊥ → Kept counts mid new turns result → Kept counts old new turns result
kept_since counts old mid new turns result read kept =
    let waits : (counts mid).waits ≡ (counts old).waits = ap (λ k. Counts.waits k) read.others in
    let say : (counts mid).say ≡ (counts old).say = ap (λ k. Counts.say k) read.others in
    record {
      caused = caused_since ((counts old).waits + turns) (counts old) (counts mid) (counts new) (counts new) result (disk_grows read) (grow_start (counts new))
          (subst (λ n. IsCaused (n + turns) (counts mid) (counts new) result) waits kept.caused);
      say = λ e. subst (λ n. Rose n (counts new).say) say (kept.say e);
      waits = subst (λ n. (counts new).waits ≤ n + turns) waits kept.waits;
      heard = λ e rose. kept.heard e (subst (λ n. Rose n (counts new).say) (sym say) rose);
    }
