-- Children and their ends.
use Rattle.std.proofs.Common.{◌≡◌, ◌≢◌, ℕ, ◌==◌, List, ◌∷◌, Bool, true, false, Option, Some, None, refl, sym, ◌∙◌, subst}
use Rattle.std.specs.Prelude.{if◌then◌else◌}
use Rattle.std.proofs.lemmas.Bool.{eq-eqb, eqb-true, ne_eqb}
use Rattle.words.specs.declared.ask.Ask.{Ask}
use Rattle.world.specs.declared.entry.Entry.{Entry}
use Rattle.world.specs.declared.entry.Entry.TheVariants as made
use Rattle.world.specs.declared.did.Did.{Did}
use Rattle.world.specs.Moments.{Since, start, more as later, Told, Tells}
use Rattle.job_saves.specs.Calls.{Cast, IsCallOf, IsCall}
use Rattle.job_saves.specs.Children.{ends_child, has_child, ports_of, HasEnd, KeepsEnd, AsksNone}
use Rattle.job_saves.proofs.KeptLemmas.{ended_still}

ended_first : (b : Bool) (rest : Bool) → b ≡ true → (if b then false else rest) ≡ false
ended_first true rest e = refl
ended_first false rest e = absurd (cc)

started_other : (b : Bool) (rest : Bool) → b ≡ false → rest ≡ false → (if b then true else rest) ≡ false
started_other true rest e f = absurd (cc)
started_other false rest e f = f

-- the end of a child that was called last, and then its file removed
has_ended : (number : ℕ) (path : List ℕ) (did : Did) (past : List Entry) → has_child number (made.Removed path did ∷ made.Killed number ∷ past) ≡ false
has_ended number path did past = ended_first (number == number) (has_child number past) (eq-eqb number number refl)

-- the jobs of this cast start no child of this number
abbrev pub StartsNone : Cast → ℕ → Type 0
StartsNone c n = (number : ℕ) (a : Ask) → c.job number ≡ Some a → c.starts ≡ true → number ≢ n

one_keeps : (c : Cast) (n number : ℕ) (a : Ask) (entry : Entry) (past : List Entry) → StartsNone c n → c.job number ≡ Some a → IsCallOf c.here c.starts c.clean number a past entry
    → has_child n past ≡ false → has_child n (entry ∷ past) ≡ false
one_keeps c n number a (made.Started job argv env dir did) past away has is h =
    started_other (job == n) (has_child n past) (ne_eqb job n (subst (λ m. m ≢ n) (sym is.0) (away number a has is.3))) h
one_keeps c n number a (made.Killed job) past away has is h = h
one_keeps c n number a (made.Read path most found) past away has is h = h
one_keeps c n number a (made.Created path did) past away has is h = h
one_keeps c n number a (made.Wrote path bytes did) past away has is h = h
one_keeps c n number a (made.Synced path did) past away has is h = h
one_keeps c n number a (made.Renamed from to did) past away has is h = h
one_keeps c n number a (made.DirSynced dir did) past away has is h = h
one_keeps c n number a (made.Removed path did) past away has is h = ended_still (ends_child n past) (has_child n past) h
one_keeps c n number a (made.Ports job ports) past away has is h = h
one_keeps c n number a (made.Connected conn port how) past away has is h = h
one_keeps c n number a (made.Closed conn) past away has is h = h
one_keeps c n number a (made.Got conn room bytes) past away has is h = h
one_keeps c n number a (made.Dry conn) past away has is h = h
one_keeps c n number a (made.Ended conn by) past away has is h = h
one_keeps c n number a (made.Refused conn by) past away has is h = h
one_keeps c n number a (made.ReadFailed conn) past away has is h = h
one_keeps c n number a (made.Put conn bytes) past away has is h = h
one_keeps c n number a (made.Stuck conn) past away has is h = h
one_keeps c n number a (made.PutFailed conn) past away has is h = h
one_keeps c n number a (made.Waited ms reports did) past away has is h = h
one_keeps c n number a (made.Looked job status) past away has is h = h
one_keeps c n number a (made.Moment ms) past away has is h = h
one_keeps c n number a (made.Word word) past away has is h = h
one_keeps c n number a (made.Said bytes did) past away has is h = h

-- and none of them asks for ports under this number
other_ports : (b : Bool) (ports rest : Option (List ℕ)) → b ≡ false → (if b then ports else rest) ≡ rest
other_ports true ports rest e = absurd (cc)
other_ports false ports rest e = refl

one_asks : (c : Cast) (n number : ℕ) (a : Ask) (entry : Entry) (past : List Entry) → StartsNone c n → c.job number ≡ Some a → IsCallOf c.here c.starts c.clean number a past entry
    → ports_of n (entry ∷ past) ≡ ports_of n past
one_asks c n number a (made.Ports job ports) past away has is =
    other_ports (job == n) ports (ports_of n past) (ne_eqb job n (subst (λ m. m ≢ n) (sym is.0) (away number a has is.2)))
one_asks c n number a (made.Started job argv env dir did) past away has is = refl
one_asks c n number a (made.Killed job) past away has is = refl
one_asks c n number a (made.Read path most found) past away has is = refl
one_asks c n number a (made.Created path did) past away has is = refl
one_asks c n number a (made.Wrote path bytes did) past away has is = refl
one_asks c n number a (made.Synced path did) past away has is = refl
one_asks c n number a (made.Renamed from to did) past away has is = refl
one_asks c n number a (made.DirSynced dir did) past away has is = refl
one_asks c n number a (made.Removed path did) past away has is = refl
one_asks c n number a (made.Connected conn port how) past away has is = refl
one_asks c n number a (made.Closed conn) past away has is = refl
one_asks c n number a (made.Got conn room bytes) past away has is = refl
one_asks c n number a (made.Dry conn) past away has is = refl
one_asks c n number a (made.Ended conn by) past away has is = refl
one_asks c n number a (made.Refused conn by) past away has is = refl
one_asks c n number a (made.ReadFailed conn) past away has is = refl
one_asks c n number a (made.Put conn bytes) past away has is = refl
one_asks c n number a (made.Stuck conn) past away has is = refl
one_asks c n number a (made.PutFailed conn) past away has is = refl
one_asks c n number a (made.Waited ms reports did) past away has is = refl
one_asks c n number a (made.Looked job status) past away has is = refl
one_asks c n number a (made.Moment ms) past away has is = refl
one_asks c n number a (made.Word word) past away has is = refl
one_asks c n number a (made.Said bytes did) past away has is = refl

calls_keep_ports : (c : Cast) (n : ℕ) → StartsNone c n → {before after : List Entry} → Since (IsCall c) before after → ports_of n after ≡ ports_of n before
calls_keep_ports c n away start = refl
calls_keep_ports c n away (later {past} {entry} since is) = one_asks c n is.number is.ask entry past away is.has is.is ∙ calls_keep_ports c n away since

-- calls of jobs that start none
pub calls_keep_end : (c : Cast) (n : ℕ) → StartsNone c n → {before after : List Entry} → Since (IsCall c) before after → has_child n before ≡ false → has_child n after ≡ false
calls_keep_end c n away start h = h
calls_keep_end c n away (later {past} {entry} since is) h =
    one_keeps c n is.number is.ask entry past away is.has is.is (calls_keep_end c n away since h)

pub told_keeps_end : (c : Cast) (n : ℕ) → StartsNone c n → (j k : Option (List Entry)) → Told j k (Since (IsCall c)) → KeepsEnd n j k
told_keeps_end c n away j None told h = tt
told_keeps_end c n away None (Some y) told h = absurd told.so
told_keeps_end c n away (Some x) (Some y) told h = calls_keep_end c n away told.so h

-- a job of which none of them is has asked for no ports behind them, where it had not before
pub told_asks_none : (c : Cast) (n : ℕ) → StartsNone c n → (j k : Option (List Entry)) → Told j k (Since (IsCall c)) → AsksNone n j → AsksNone n k
told_asks_none c n away j None told h = tt
told_asks_none c n away None (Some y) told h = absurd told.so
told_asks_none c n away (Some x) (Some y) told h = calls_keep_ports c n away told.so ∙ h

-- the end of a child was called, and then its connection file removed
removed_last : (number : ℕ) (path : List ℕ) (did : Did) (i j k : Option (List Entry)) → Tells i j (made.Killed number) → Tells j k (made.Removed path did) → HasEnd number k
removed_last number path did i j None killed removed = tt
removed_last number path did i None (Some z) killed removed = absurd removed.so
removed_last number path did None (Some y) (Some z) killed removed = absurd killed.so
removed_last number path did (Some x) (Some y) (Some z) killed removed =
    subst (λ p. has_child number p ≡ false) (sym removed.so)
    (subst (λ p. has_child number (made.Removed path did ∷ p) ≡ false) (sym killed.so) (has_ended number path did x))

pub removed_after : (number : ℕ) {i j k : Option (List Entry)} {path : List ℕ} {did : Did} → Tells i j (made.Killed number) → Tells j k (made.Removed path did) → HasEnd number k
removed_after number {i} {j} {k} {path} {did} killed removed = removed_last number path did i j k killed removed

-- ---- the ports of a job that asked for them

-- none is asked for again under its number
ports_again : (number n : ℕ) (ports rest : Option (List ℕ)) (kept : List ℕ) → (number ≡ n → rest ≡ None) → rest ≡ Some kept → (if number == n then ports else rest) ≡ rest
ports_again number n ports rest kept none some = by (number == n) refl
  where
    by : (b : Bool) → (number == n) ≡ b → (if b then ports else rest) ≡ rest
    by true e = let wrong : None ≡ Some kept = sym (none (eqb-true number n e)) ∙ some in absurd (cc)
    by false e = refl

one_keeps_ports : (c : Cast) (n number : ℕ) (a : Ask) (entry : Entry) (past : List Entry) (kept : List ℕ) → c.clean ≡ true → c.job number ≡ Some a
    → IsCallOf c.here c.starts c.clean number a past entry → ports_of n past ≡ Some kept → ports_of n (entry ∷ past) ≡ ports_of n past
one_keeps_ports c n number a (made.Ports job ports) past kept clean has is some =
    ports_again job n ports (ports_of n past) kept (λ same. subst (λ m. ports_of m past ≡ None) (sym is.0 ∙ same) (is.1 clean)) some
one_keeps_ports c n number a (made.Started job argv env dir did) past kept clean has is some = refl
one_keeps_ports c n number a (made.Killed job) past kept clean has is some = refl
one_keeps_ports c n number a (made.Read path most found) past kept clean has is some = refl
one_keeps_ports c n number a (made.Created path did) past kept clean has is some = refl
one_keeps_ports c n number a (made.Wrote path bytes did) past kept clean has is some = refl
one_keeps_ports c n number a (made.Synced path did) past kept clean has is some = refl
one_keeps_ports c n number a (made.Renamed from to did) past kept clean has is some = refl
one_keeps_ports c n number a (made.DirSynced dir did) past kept clean has is some = refl
one_keeps_ports c n number a (made.Removed path did) past kept clean has is some = refl
one_keeps_ports c n number a (made.Connected conn port how) past kept clean has is some = refl
one_keeps_ports c n number a (made.Closed conn) past kept clean has is some = refl
one_keeps_ports c n number a (made.Got conn room bytes) past kept clean has is some = refl
one_keeps_ports c n number a (made.Dry conn) past kept clean has is some = refl
one_keeps_ports c n number a (made.Ended conn by) past kept clean has is some = refl
one_keeps_ports c n number a (made.Refused conn by) past kept clean has is some = refl
one_keeps_ports c n number a (made.ReadFailed conn) past kept clean has is some = refl
one_keeps_ports c n number a (made.Put conn bytes) past kept clean has is some = refl
one_keeps_ports c n number a (made.Stuck conn) past kept clean has is some = refl
one_keeps_ports c n number a (made.PutFailed conn) past kept clean has is some = refl
one_keeps_ports c n number a (made.Waited ms reports did) past kept clean has is some = refl
one_keeps_ports c n number a (made.Looked job status) past kept clean has is some = refl
one_keeps_ports c n number a (made.Moment ms) past kept clean has is some = refl
one_keeps_ports c n number a (made.Word word) past kept clean has is some = refl
one_keeps_ports c n number a (made.Said bytes did) past kept clean has is some = refl

pub calls_hold_ports : (c : Cast) (n : ℕ) (kept : List ℕ) {before after : List Entry} → c.clean ≡ true → Since (IsCall c) before after → ports_of n before ≡ Some kept → ports_of n after ≡ Some kept
calls_hold_ports c n kept clean start some = some
calls_hold_ports c n kept clean (later {past} {entry} since is) some =
    let before = calls_hold_ports c n kept clean since some in
    one_keeps_ports c n is.number is.ask entry past kept clean is.has is.is before ∙ before
