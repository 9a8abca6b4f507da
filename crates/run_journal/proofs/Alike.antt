-- A journal and the entries of one job in it say the same of that job's connections, clock and saves.
use Rattle.std.proofs.Common.{◌≡◌, inl, inr, ℕ, zero, suc, ◌+◌, ◌*◌, ◌/◌, ◌<◌, List, [], ◌∷◌, Bool, true, false, ◌&&◌, ◌||◌, Some, None, refl, sym, ◌∙◌, ap, subst, arith, add-zero}
use Rattle.std.specs.Prelude.{slice_get, unwrap_or, ◌==◌}
use Rattle.std.specs.Str.{bytes_eq}
use Rattle.std.proofs.lemmas.Bool.{and_right, or_left, or_right, cond-true, cond-false, cases_Bool, eq-eqb, eqb-true, false_from_ne_true}
use Rattle.world.specs.declared.chan.Chan.{Chan}
use Rattle.world.specs.declared.conn.Conn.{Conn}
use Rattle.world.specs.declared.did.Did.{Did}
use Rattle.world.specs.declared.did.Did.TheVariants.{Done, Failed}
use Rattle.world.specs.declared.entry.Entry.{Entry}
use Rattle.world.specs.declared.entry.Entry.TheVariants as made
use Rattle.world.specs.Acked.{renames, syncs_folder, is_renamed}
use Rattle.world.specs.Jobs.{closes}
use Rattle.world.specs.Places.{Status, chan_number, is_at, is_reported, waited_after, status_after, time_after}
use Rattle.world.specs.Waits.{is_wait, moment_of}
use Rattle.world.proofs.StatusLemmas.{chan_below}
use Rattle.words.specs.Paths.{temporary_of}
use Rattle.run_journal.specs.Job.{Job}
use Rattle.run_journal.specs.Parts.{place, begins, is_acknowledging}
use Rattle.run_journal.specs.OfJob.{is_own_path, renames_onto, is_onto, is_of, own_places, own_reports, of_job}
use Rattle.run_journal.specs.Looks.{is_short_wait, ends_reading, ends}
use Rattle.run_journal.specs.Why.{starts}
use Rattle.run_journal.proofs.Truths.{not_both}

-- an entry that changes nothing of the job, but may acknowledge a save
pub record Quiet (j : Job) (entry : Entry) : Type 0 where
  pub status : (c : Chan) (clock : ℕ) (s : Status) → status_after (place j c) clock entry s ≡ s
  pub clock : moment_of entry ≡ None
  pub time : (was : ℕ) → time_after entry was ≡ was
  pub wait : is_wait entry ≡ false
  pub ended : (c : Chan) → ends_reading (place j c) entry ≡ false
  pub begun : begins j entry ≡ false
  pub closed : closes j.number entry ≡ false
  pub started : starts j entry ≡ false
  pub lost : ends j entry ≡ false

-- by its parts
pub quiet_by : (j : Job) (entry : Entry) → moment_of entry ≡ None → ((was : ℕ) → time_after entry was ≡ was) → is_wait entry ≡ false → ((c : Chan) (clock : ℕ) (s : Status) → status_after (place j c) clock entry s ≡ s)
    → ((c : Chan) → ends_reading (place j c) entry ≡ false) → begins j entry ≡ false → closes j.number entry ≡ false → starts j entry ≡ false → ends j entry ≡ false → Quiet j entry
quiet_by j entry clock time wait status ended begun closed started lost = record {
  status = status;
  clock = clock;
  time = time;
  wait = wait;
  ended = ended;
  begun = begun;
  closed = closed;
  started = started;
  lost = lost;
}

-- two entries that are the same to the job
pub record Same (j : Job) (entry own : Entry) : Type 0 where
  pub status : (c : Chan) (clock : ℕ) (s : Status) → status_after (place j c) clock own s ≡ status_after (place j c) clock entry s
  pub clock : moment_of own ≡ moment_of entry
  pub time : (was : ℕ) → time_after own was ≡ time_after entry was
  pub wait : is_wait own ≡ is_wait entry
  pub short : (p q : List Entry) → is_short_wait (own ∷ q) ≡ is_short_wait (entry ∷ p)
  pub ended : (c : Chan) → ends_reading (place j c) own ≡ ends_reading (place j c) entry
  pub begun : begins j own ≡ begins j entry
  pub closed : closes j.number own ≡ closes j.number entry
  pub started : starts j own ≡ starts j entry
  pub lost : ends j own ≡ ends j entry

-- the second journal is the first without entries that are quiet to the job
pub data Near (j : Job) : List Entry → List Entry → Type 0 where
  empty : Near j [] []
  skips : {entry : Entry} {p q : List Entry} → Quiet j entry → Near j p q → Near j (entry ∷ p) q
  shares : {entry own : Entry} {p q : List Entry} → Same j entry own → Near j p q → Near j (entry ∷ p) (own ∷ q)

-- and acknowledges the same saves
pub data Alike (j : Job) : List Entry → List Entry → Type 0 where
  neither : Alike j [] []
  theirs : {entry : Entry} {p q : List Entry} → Quiet j entry → is_acknowledging j (entry ∷ p) ≡ false → Alike j p q → Alike j (entry ∷ p) q
  ours : {entry own : Entry} {p q : List Entry} → Same j entry own → is_acknowledging j (own ∷ q) ≡ is_acknowledging j (entry ∷ p) → Alike j p q → Alike j (entry ∷ p) (own ∷ q)

-- journals that are alike are near
pub near : {j : Job} {p q : List Entry} → Alike j p q → Near j p q
near neither = empty
near (theirs f k a) = skips f (near a)
near (ours s k a) = shares s (near a)

same_short : (entry : Entry) (p q : List Entry) → is_short_wait (entry ∷ q) ≡ is_short_wait (entry ∷ p)
same_short (made.Waited ms reports Done) p q = refl
same_short (made.Waited ms reports Failed) p q = refl
same_short _ p q = refl

-- an entry is the same as itself
pub same_self : (j : Job) (entry : Entry) → Same j entry entry
same_self j entry = record {
  status = λ c clock s. refl;
  clock = refl;
  time = λ was. refl;
  wait = refl;
  short = same_short entry;
  ended = λ c. refl;
  begun = refl;
  closed = refl;
  started = refl;
  lost = refl;
}

-- a journal is near itself
pub near_self : (j : Job) (p : List Entry) → Near j p p
near_self j [] = empty
near_self j (entry ∷ p) = shares (same_self j entry) (near_self j p)

-- and like itself
pub alike_self : (j : Job) (p : List Entry) → Alike j p p
alike_self j [] = neither
alike_self j (entry ∷ p) = ours (same_self j entry) refl (alike_self j p)

-- ---- an entry of another job is quiet

one_job : (a b x y : ℕ) → x < 4 → y < 4 → 4 * a + x ≡ 4 * b + y → b ≡ a
one_job a b x y k l e = omega (arith, k, l, e)

-- a connection of another job is none of the job's
pub away : (j : Job) (c : Chan) (conn : Conn) → (conn.job == j.number) ≡ false → is_at (place j c) conn ≡ false
away j c conn e =
    false_from_ne_true (is_at (place j c) conn) (λ same.
    not_both (conn.job == j.number)
    (eq-eqb conn.job j.number (one_job j.number conn.job (chan_number c) (chan_number conn.chan) (chan_below c) (chan_below conn.chan) (eqb-true (place j c) _ same))) e)

ends_away : (j : Job) (job : ℕ) (status : _) → (job == j.number) ≡ false → ends j (made.Looked job status) ≡ false
ends_away j job (Some status) e = e
ends_away j job None e = refl

no_rename_entry : (j : Job) (entry : Entry) → renames_onto j entry ≡ false → renames (temporary_of j.output) j.output entry ≡ false
no_rename_entry j (made.Renamed from to Done) e = and_right (bytes_eq (temporary_of j.output) from) (bytes_eq j.output to) e
no_rename_entry j (made.Renamed from to Failed) e = refl
no_rename_entry j _ e = refl

no_rename : (j : Job) (past : List Entry) → is_onto j past ≡ false → is_renamed (temporary_of j.output) j.output past ≡ false
no_rename j [] e = refl
no_rename j (entry ∷ past) e = no_rename_entry j entry e

no_ack : (j : Job) (dir : List ℕ) (did : Did) (past : List Entry) → is_onto j past ≡ false → is_acknowledging j (made.DirSynced dir did ∷ past) ≡ false
no_ack j dir did past e = and_right (syncs_folder j.output (made.DirSynced dir did)) (is_renamed (temporary_of j.output) j.output past) (no_rename j past e)

-- an entry of another job is quiet
pub quiet_if_foreign : (j : Job) (entry : Entry) (past : List Entry) → is_of j entry past ≡ false → Quiet j entry
quiet_if_foreign j (made.Connected conn port how) past e = quiet_by j (made.Connected conn port how) refl (λ was. refl) refl (λ c clock s. cond-false (is_at (place j c) conn) _ _ (away j c conn e)) (λ c. refl) e refl refl refl
quiet_if_foreign j (made.Closed conn) past e = quiet_by j (made.Closed conn) refl (λ was. refl) refl (λ c clock s. cond-false (is_at (place j c) conn) _ _ (away j c conn e)) (λ c. refl) refl e refl refl
quiet_if_foreign j (made.Got conn room bytes) past e = quiet_by j (made.Got conn room bytes) refl (λ was. refl) refl (λ c clock s. cond-false (is_at (place j c) conn) _ _ (away j c conn e)) (λ c. refl) refl refl refl refl
quiet_if_foreign j (made.Dry conn) past e = quiet_by j (made.Dry conn) refl (λ was. refl) refl (λ c clock s. cond-false (is_at (place j c) conn) _ _ (away j c conn e)) (λ c. away j c conn e) refl refl refl refl
quiet_if_foreign j (made.Ended conn by) past e = quiet_by j (made.Ended conn by) refl (λ was. refl) refl (λ c clock s. cond-false (is_at (place j c) conn) _ _ (away j c conn e)) (λ c. away j c conn e) refl refl refl e
quiet_if_foreign j (made.Refused conn by) past e = quiet_by j (made.Refused conn by) refl (λ was. refl) refl (λ c clock s. cond-false (is_at (place j c) conn) _ _ (away j c conn e)) (λ c. away j c conn e) refl refl refl refl
quiet_if_foreign j (made.ReadFailed conn) past e = quiet_by j (made.ReadFailed conn) refl (λ was. refl) refl (λ c clock s. cond-false (is_at (place j c) conn) _ _ (away j c conn e)) (λ c. refl) refl refl refl refl
quiet_if_foreign j (made.Put conn bytes) past e = quiet_by j (made.Put conn bytes) refl (λ was. refl) refl (λ c clock s. cond-false (is_at (place j c) conn) _ _ (away j c conn e)) (λ c. refl) refl refl refl refl
quiet_if_foreign j (made.Stuck conn) past e = quiet_by j (made.Stuck conn) refl (λ was. refl) refl (λ c clock s. cond-false (is_at (place j c) conn) _ _ (away j c conn e)) (λ c. refl) refl refl refl refl
quiet_if_foreign j (made.PutFailed conn) past e = quiet_by j (made.PutFailed conn) refl (λ was. refl) refl (λ c clock s. cond-false (is_at (place j c) conn) _ _ (away j c conn e)) (λ c. refl) refl refl refl refl
quiet_if_foreign j (made.Waited ms reports did) past e = cc
quiet_if_foreign j (made.Moment ms) past e = cc
quiet_if_foreign j (made.Started job argv env dir did) past e = quiet_by j (made.Started job argv env dir did) refl (λ was. refl) refl (λ c clock s. refl) (λ c. refl) refl refl e refl
quiet_if_foreign j (made.Looked job status) past e = quiet_by j (made.Looked job status) refl (λ was. refl) refl (λ c clock s. refl) (λ c. refl) refl refl refl (ends_away j job status e)
quiet_if_foreign j _ past e = quiet_by j _ refl (λ was. refl) refl (λ c clock s. refl) (λ c. refl) refl refl refl refl

-- and acknowledges none of the job's saves
pub no_ack_if_foreign : (j : Job) (entry : Entry) (past : List Entry) → is_of j entry past ≡ false → is_acknowledging j (entry ∷ past) ≡ false
no_ack_if_foreign j (made.DirSynced dir did) past e = no_ack j dir did past e
no_ack_if_foreign j _ past e = refl

-- with an entry of another job a journal stays alike
pub alike_foreign : (j : Job) (entry : Entry) (past : List Entry) → is_of j entry past ≡ false → Alike j (entry ∷ past) past
alike_foreign j entry past e = theirs (quiet_if_foreign j entry past e) (no_ack_if_foreign j entry past e) (alike_self j past)

-- ---- an entry of the job is the same

own_place : (number base : ℕ) (xs : List Bool) (i : ℕ) → ((base + i) / 4 == number) ≡ true → slice_get (own_places number base xs) i ≡ slice_get xs i
own_place number base [] i e = refl
own_place number base (x ∷ xs) zero e = ap (λ b. Some b) (cond-true (base / 4 == number) x false (rw add-zero at e))
own_place number base (x ∷ xs) (suc i) e = own_place number (base + 1) xs i (subst (λ n. (n / 4 == number) ≡ true) (let k : base + suc i ≡ (base + 1) + i = omega arith in k) e)

of_number : (n k : ℕ) → k < 4 → (0 + (4 * n + k)) / 4 ≡ n
of_number n k h = omega arith

own_report : (j : Job) (c : Chan) (ready : List Bool) → is_reported (place j c) (own_places j.number 0 ready) ≡ is_reported (place j c) ready
own_report j c ready = ap (λ o. unwrap_or o false) (own_place j.number 0 ready (place j c) (eq-eqb _ _ (of_number j.number (chan_number c) (chan_below c))))

own_wait : (j : Job) (c : Chan) (ready : List Bool) (did : Did) (s : Status) → waited_after (place j c) (own_places j.number 0 ready) did s ≡ waited_after (place j c) ready did s
own_wait j c ready Done s = ap (λ b. record s { awake = b || s.awake; writable = b || s.writable; count = 0 }) (own_report j c ready)
own_wait j c ready Failed s = refl

own_short : (j : Job) (ms : ℕ) (reports : _) (did : Did) (p q : List Entry) → is_short_wait (own_reports j (made.Waited ms reports did) ∷ q) ≡ is_short_wait (made.Waited ms reports did ∷ p)
own_short j ms reports Done p q = refl
own_short j ms reports Failed p q = refl

-- an entry and the one that stands for it among the job's entries are the same
pub same : (j : Job) (entry : Entry) → Same j entry (own_reports j entry)
same j (made.Waited ms reports did) = record {
  status = λ c clock s. own_wait j c reports.ready did s;
  clock = refl;
  time = λ was. refl;
  wait = refl;
  short = own_short j ms reports did;
  ended = λ c. refl;
  begun = refl;
  closed = refl;
  started = refl;
  lost = refl;
}
same j _ = record {
  status = λ c clock s. refl;
  clock = refl;
  time = λ was. refl;
  wait = refl;
  short = λ p q. refl;
  ended = λ c. refl;
  begun = refl;
  closed = refl;
  started = refl;
  lost = refl;
}

output_own : (j : Job) (path : List ℕ) → bytes_eq j.output path ≡ true → is_own_path j path ≡ true
output_own j path e = or_left _ _ (or_left _ _ (or_left (bytes_eq j.output path) _ e))

-- a rename onto the output is among the job's entries
pub own_onto : (j : Job) (past : List Entry) → is_onto j past ≡ true → is_onto j (of_job j past) ≡ true
own_onto j [] e = cc
own_onto j (made.Renamed from to did ∷ past) e =
    ap (is_onto j) (cond-true (is_own_path j from || is_own_path j to) (made.Renamed from to did ∷ of_job j past) (of_job j past) (or_right (is_own_path j from) (is_own_path j to) (output_own j to e))) ∙ e
own_onto j (_ ∷ past) e = cc

own_rename : (j : Job) (past : List Entry) → is_onto j past ≡ true → is_renamed (temporary_of j.output) j.output (of_job j past) ≡ is_renamed (temporary_of j.output) j.output past
own_rename j [] e = cc
own_rename j (made.Renamed from to did ∷ past) e =
    ap (is_renamed (temporary_of j.output) j.output) (cond-true (is_own_path j from || is_own_path j to) (made.Renamed from to did ∷ of_job j past) (of_job j past) (or_right (is_own_path j from) (is_own_path j to) (output_own j to e)))
own_rename j (_ ∷ past) e = cc

own_ack : (j : Job) (entry : Entry) (past : List Entry) → is_of j entry past ≡ true → is_acknowledging j (own_reports j entry ∷ of_job j past) ≡ is_acknowledging j (entry ∷ past)
own_ack j (made.DirSynced dir did) past e = ap (λ b. syncs_folder j.output (made.DirSynced dir did) && b) (own_rename j past e)
own_ack j _ past e = refl

-- the entries of the job are like the journal
pub own_alike : (j : Job) (past : List Entry) → Alike j past (of_job j past)
own_alike j [] = neither
own_alike j (entry ∷ past) = elim (cases_Bool (is_of j entry past)) [
  | inl e ↦ subst (λ q. Alike j (entry ∷ past) q) (sym (cond-true (is_of j entry past) _ _ e)) (ours (same j entry) (own_ack j entry past e) (own_alike j past))
  | inr e ↦ subst (λ q. Alike j (entry ∷ past) q) (sym (cond-false (is_of j entry past) _ _ e)) (theirs (quiet_if_foreign j entry past e) (no_ack_if_foreign j entry past e) (own_alike j past))
]
