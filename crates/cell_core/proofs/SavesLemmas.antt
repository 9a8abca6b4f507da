-- Lemmas on the saves: what they are while a request stands.
use Rattle.std.proofs.Common.{◌≡◌, ℕ, zero, suc, ◌+◌, ◌<◌, ◌≤◌, List, [], ◌∷◌, ◌++◌, length, drop, Bool, true, false, not, ◌&&◌, if◌then◌else◌, nat_lt, ◌==◌, Option, Some, None, refl, sym, ap, subst, ◌∙◌, arith, inl, inr, append-nil, append_assoc, length-append}
use Rattle.std.proofs.lemmas.Bool.{cases_Bool, and_left, and_right, cases_eq, lt-ltb, eq-eqb}
use Rattle.cell_core.specs.declared.event.Event.{Event}
use Rattle.cell_core.specs.declared.why.Why.{Why}
use Rattle.cell_core.specs.declared.why.Why.TheVariants.{Done}
use Rattle.cell_core.specs.Task.{Task, cell_of}
use Rattle.cell_core.specs.Events.{ack_count}
use Rattle.cell_core.specs.Requests.{is_over, is_fatal, is_passed, is_passed_in, after, Standing, standing}
use Rattle.cell_core.specs.Saves.{Prefix, after_preparation, passes, stopping, is_whole, last_settled, closing_after, closing, is_done, is_stop, why_not_done, why, saves, pending_saves}
use Rattle.cell_core.specs.Acts.{last_asked, failing_at}
use Rattle.cell_core.specs.StandsFor.{Reached, Stands, Fails}
use Rattle.cell_core.proofs.Lists.{seam}
use Rattle.cell_core.proofs.Requests.{standing_is, standing_none, none_all}

-- the save after request k
abbrev pub mark : Task → ℕ → Prefix
mark task k = record { settled = cell_of task k + 1; stopping_cell = None }

abbrev pub marks : Task → ℕ → List Prefix
marks task zero = []
marks task (suc k) = marks task k ++ mark task k ∷ []

pub length-marks : (task : Task) (k : ℕ) → length (marks task k) ≡ k
length-marks task zero = refl
length-marks task (suc k) = length-append (marks task k) (mark task k ∷ []) ∙ (let e = length-marks task k in omega (arith, e))

pub passes_all : (task : Task) (n : ℕ) (events : List Event) → ((j : ℕ) → j < n → is_passed_in (after task j events) ≡ true) → passes task n events ≡ marks task n
passes_all task zero events below = refl
passes_all task (suc n) events below =
    rw (below n (omega arith)) (ap (λ (xs : List Prefix). xs ++ mark task n ∷ []) (passes_all task n events (λ j lt. below j (omega arith))))

pub passes_to : (task : Task) (n k : ℕ) (events : List Event) → k ≤ n → ((j : ℕ) → k ≤ j → is_passed_in (after task j events) ≡ false) → passes task n events ≡ passes task k events
passes_to task zero k events le above = let e : zero ≡ k = omega arith in ap (λ (i : ℕ). passes task i events) e
passes_to task (suc n) k events le above =
    elim (cases_eq k (suc n)) [
      | inl e ↦ ap (λ (i : ℕ). passes task i events) (sym e)
      | inr ne ↦ rw (above n (omega (arith, ne))) (append-nil (passes task n events) ∙ passes_to task n k events (omega (arith, ne)) above)
    ]

not_passed_above : {task : Task} {k a : ℕ} {later events : List Event} → Stands task k later a events → is_passed later ≡ false → (j : ℕ) → k ≤ j → is_passed_in (after task j events) ≡ false
not_passed_above {task} {k} {a} {later} {events} s no_pass j le =
    elim (cases_eq k j) [
      | inl e ↦ subst (λ (i : ℕ). is_passed_in (after task i events) ≡ false) e (rw s.reached.here no_pass)
      | inr ne ↦ ap is_passed_in (s.reached.above j (omega (arith, ne)))
    ]

pub passes_on : {task : Task} {k a : ℕ} {later events : List Event} → Stands task k later a events → is_passed later ≡ false → passes task (length task.plan) events ≡ marks task k
passes_on {task} {k} {a} {later} {events} s no_pass =
    let lt = s.planned in
    passes_to task (length task.plan) k events (omega (arith, lt)) (not_passed_above s no_pass) ∙ passes_all task k events s.reached.below

passed_at : {task : Task} {k a : ℕ} {later events : List Event} → Stands task k later a events → is_passed later ≡ true → (j : ℕ) → j < suc k → is_passed_in (after task j events) ≡ true
passed_at {task} {k} {a} {later} {events} s pass j lt =
    elim (cases_eq k j) [
      | inl e ↦ subst (λ (i : ℕ). is_passed_in (after task i events) ≡ true) e (rw s.reached.here pass)
      | inr ne ↦ s.reached.below j (omega (arith, ne))
    ]

pub passes_more : {task : Task} {k a : ℕ} {later events : List Event} → Stands task k later a events → is_passed later ≡ true → passes task (length task.plan) events ≡ marks task k ++ mark task k ∷ []
passes_more {task} {k} {a} {later} {events} s pass =
    let lt = s.planned in
    passes_to task (length task.plan) (suc k) events (omega (arith, lt)) (λ j le. ap is_passed_in (s.reached.above j (omega (arith, le)))) ∙ passes_all task (suc k) events (passed_at s pass)

-- While the request that stands isn't passed.
whole_on : (task : Task) (k : ℕ) (later : List Event) → is_passed later ≡ false → is_whole task (Some (record { request = k; later = later })) ≡ false
whole_on task k later no_pass = and_right (k + 1 == length task.plan) (is_passed later) no_pass

closing_on : {task : Task} {k a : ℕ} {later events : List Event} → Stands task k later a events → is_passed later ≡ false → closing task events ≡ []
closing_on {task} {k} {a} {later} {events} s no_pass = rw (standing_is s, no_pass) (grind arith)

-- the last request that stands, as a record
abbrev pub at : ℕ → List Event → Standing
at k later = record { request = k; later = later }

not_done : {task : Task} {k a : ℕ} {later events : List Event} → Stands task k later a events → is_passed later ≡ false → is_done task events ≡ false
not_done {task} {k} {a} {later} {events} s no_pass =
    and_left (is_whole task (standing task events)) _ (ap (λ (v : Option Standing). is_whole task v) (standing_is s) ∙ whole_on task k later no_pass)

pub why_is : {task : Task} {k a : ℕ} {later events : List Event} → Stands task k later a events → is_passed later ≡ false → why task events ≡ why_not_done task (Some (at k later)) events
why_is {task} {k} {a} {later} {events} s no_pass =
    ap (λ (b : Bool). if b then Some Done else why_not_done task (standing task events) events) (not_done s no_pass)
    ∙ ap (λ (v : Option Standing). why_not_done task v events) (standing_is s)

joined : (task : Task) (p q : List Prefix) (s t : Option Standing) (v w : Option Why) (c d : List Prefix) → p ≡ q → s ≡ t → v ≡ w → c ≡ d
    → ((after_preparation ∷ p) ++ stopping task s v) ++ c ≡ ((after_preparation ∷ q) ++ stopping task t w) ++ d
joined task p q s t v w c d a b e f = cc

pub saves_on : {task : Task} {k a : ℕ} {later events : List Event} → Stands task k later a events → is_passed later ≡ false
    → saves task events ≡ (after_preparation ∷ marks task k) ++ stopping task (Some (record { request = k; later = later })) (why_not_done task (Some (at k later)) events)
saves_on {task} {k} {a} {later} {events} s no_pass =
    let w = why_is s no_pass in
    let p = passes_on s no_pass in
    let c = closing_on s no_pass in
    let t = standing_is s in
    joined task _ _ _ _ _ _ _ _ p t w c ∙ append-nil _

-- Once it is passed: the save after it, and where it is the last, that of the whole notebook.
abbrev pub rest_after : Task → ℕ → List Prefix
rest_after task k = if k + 1 == length task.plan && nat_lt (cell_of task k + 1) task.cells then record { settled = task.cells; stopping_cell = None } ∷ [] else []

last_of : (n : ℕ) (xs : List Prefix) (x : Prefix) → last_settled n (xs ++ x ∷ []) ≡ x.settled
last_of n [] x = refl
last_of n (y ∷ ys) x = last_of y.settled ys x

closing_by : (task : Task) (k : ℕ) (later : List Event) (xs : List Prefix) → is_passed later ≡ true
    → closing_after task (Some (record { request = k; later = later })) (xs ++ mark task k ∷ []) ≡ rest_after task k
closing_by task k later xs pass = rw (pass, last_of 0 xs (mark task k)) (grind arith)

pub closing_at : (task : Task) (s t : Option Standing) (p q : List Prefix) → s ≡ t → p ≡ q → closing_after task s p ≡ closing_after task t q
closing_at task s t p q a b = cc

pub closing_more : {task : Task} {k a : ℕ} {later events : List Event} → Stands task k later a events → is_passed later ≡ true → closing task events ≡ rest_after task k
closing_more {task} {k} {a} {later} {events} s pass = closing_at task _ _ _ _ (standing_is s) (passes_more s pass) ∙ closing_by task k later (marks task k) pass

-- a request that is passed names no stopping cell
stopping_none : (task : Task) (k : ℕ) (later : List Event) (w : Option Why) → is_passed later ≡ true → stopping task (Some (at k later)) w ≡ []
stopping_none task k later None pass = refl
stopping_none task k later (Some w) pass = elim (cases_Bool (is_stop w)) [ inl e ↦ rw (e, pass) refl | inr e ↦ rw e refl ]

regroup : (x : Prefix) (xs ys : List Prefix) (y : Prefix) → ((x ∷ (xs ++ y ∷ [])) ++ []) ++ ys ≡ (x ∷ xs) ++ (y ∷ ys)
regroup x xs ys y = simp (append_assoc, append-nil)

pub saves_more : {task : Task} {k a : ℕ} {later events : List Event} → Stands task k later a events → is_passed later ≡ true
    → saves task events ≡ (after_preparation ∷ marks task k) ++ (mark task k ∷ rest_after task k)
saves_more {task} {k} {a} {later} {events} s pass =
    joined task _ _ _ _ (why task events) _ _ _ (passes_more s pass) (standing_is s) refl (closing_more s pass)
    ∙ ap (λ (xs : List Prefix). ((after_preparation ∷ (marks task k ++ mark task k ∷ [])) ++ xs) ++ rest_after task k) (stopping_none task k later (why task events) pass)
    ∙ regroup after_preparation (marks task k) (rest_after task k) (mark task k)

length-prepared : (task : Task) (k : ℕ) → length (after_preparation ∷ marks task k) ≡ k + 1
length-prepared task k = let e = length-marks task k in omega (arith, e)

pub unacked_on : {task : Task} {k : ℕ} {later events : List Event} → Stands task k later (k + 1) events → is_passed later ≡ false
    → pending_saves task events ≡ stopping task (Some (record { request = k; later = later })) (why_not_done task (Some (at k later)) events)
unacked_on {task} {k} {later} {events} s no_pass =
    ap (λ (n : ℕ). drop n (saves task events)) s.reached.acknowledged ∙ ap (λ (xs : List Prefix). drop (k + 1) xs) (saves_on s no_pass)
    ∙ seam (after_preparation ∷ marks task k) _ (k + 1) (length-prepared task k)

pub unacked_more : {task : Task} {k : ℕ} {later events : List Event} → Stands task k later (k + 1) events → is_passed later ≡ true
    → pending_saves task events ≡ mark task k ∷ rest_after task k
unacked_more {task} {k} {later} {events} s pass =
    ap (λ (n : ℕ). drop n (saves task events)) s.reached.acknowledged ∙ ap (λ (xs : List Prefix). drop (k + 1) xs) (saves_more s pass)
    ∙ seam (after_preparation ∷ marks task k) _ (k + 1) (length-prepared task k)

-- No request stands.
pub passes_none : {task : Task} {a : ℕ} {events : List Event} → Reached task 0 None a events → (n : ℕ) → passes task n events ≡ []
passes_none r zero = refl
passes_none {task} {a} {events} r (suc n) = rw (none_all r n) (append-nil (passes task n events) ∙ passes_none r n)

abbrev pub rest_of_none : Task → List Prefix
rest_of_none task = closing_after task None []

pub saves_none : {task : Task} {a : ℕ} {events : List Event} → Reached task 0 None a events → saves task events ≡ after_preparation ∷ rest_of_none task
saves_none {task} {a} {events} r =
    joined task _ _ _ _ (why task events) _ _ _ (passes_none r (length task.plan)) (standing_none r) refl (closing_at task _ _ _ _ (standing_none r) (passes_none r (length task.plan)))

pub unacked_none : {task : Task} {events : List Event} → Reached task 0 None 1 events → pending_saves task events ≡ rest_of_none task
unacked_none {task} {events} r = ap (λ (n : ℕ). drop n (saves task events)) r.acknowledged ∙ ap (λ (xs : List Prefix). drop 1 xs) (saves_none r)

-- A stop while request k stands, and its save.
abbrev pub stop_mark : Task → ℕ → Prefix
stop_mark task k = record { settled = cell_of task k + 1; stopping_cell = Some (cell_of task k) }

pub last_at_end : (xs : List Prefix) (x : Prefix) (n : ℕ) (p : Prefix) → length xs ≤ n → last_asked (xs ++ x ∷ []) n p ≡ x
last_at_end [] x zero p le = refl
last_at_end [] x (suc n) p le = refl
last_at_end (y ∷ ys) x zero p le = absurd (omega arith)
last_at_end (y ∷ ys) x (suc n) p le = last_at_end ys x n y (omega arith)

-- no save of a list is a stop's
pub data NoStop : List Prefix → Type 0 where
  none : NoStop []
  more : {x : Prefix} {xs : List Prefix} → x.stopping_cell ≡ None → NoStop xs → NoStop (x ∷ xs)

pub no_stop_append : {xs ys : List Prefix} → NoStop xs → NoStop ys → NoStop (xs ++ ys)
no_stop_append none b = b
no_stop_append (more e a) b = more e (no_stop_append a b)

pub no_stop_last : {xs : List Prefix} → NoStop xs → (n : ℕ) (p : Prefix) → p.stopping_cell ≡ None → (last_asked xs n p).stopping_cell ≡ None
no_stop_last none n p e = e
no_stop_last (more h a) zero p e = h
no_stop_last (more {x} h a) (suc n) p e = no_stop_last a n x h

pub no_stop_marks : (task : Task) (k : ℕ) → NoStop (marks task k)
no_stop_marks task zero = none
no_stop_marks task (suc k) = no_stop_append (no_stop_marks task k) (more refl none)

no_stop_if : (b : Bool) (n : ℕ) → NoStop (if b then record { settled = n; stopping_cell = None } ∷ [] else [])
no_stop_if true n = more refl none
no_stop_if false n = none

pub failing_none : (task : Task) (events : List Event) (xs : List Prefix) → saves task events ≡ xs → NoStop xs → failing_at task events ≡ None
failing_none task events xs e a = ap (λ (ys : List Prefix). (last_asked ys (ack_count events) after_preparation).stopping_cell) e ∙ no_stop_last a (ack_count events) after_preparation refl

pub no_stop_none : (task : Task) → NoStop (after_preparation ∷ rest_of_none task)
no_stop_none task = more refl (no_stop_if _ task.cells)

pub no_stop_on : (task : Task) (k : ℕ) → NoStop ((after_preparation ∷ marks task k) ++ [])
no_stop_on task k = no_stop_append (more refl (no_stop_marks task k)) none

pub no_stop_more : (task : Task) (k : ℕ) → NoStop ((after_preparation ∷ marks task k) ++ (mark task k ∷ rest_after task k))
no_stop_more task k = no_stop_append (more refl (no_stop_marks task k)) (more refl (no_stop_if _ task.cells))

-- The cause and the saves in each case.
pub over_not_passed : (later : List Event) → is_over later ≡ false → is_passed later ≡ false
over_not_passed later h = and_left (is_over later) (not (is_fatal later)) h

pub fatal_not_passed : (later : List Event) → is_fatal later ≡ true → is_passed later ≡ false
fatal_not_passed later h = and_right (is_over later) (not (is_fatal later)) (ap not h)

pub why_fails : {task : Task} {k a : ℕ} {later events : List Event} {w : Why} → Stands task k later a events → Fails task k later w events → why task events ≡ Some w
why_fails s f = why_is s f.not_passed ∙ f.cause

pub saves_fails : {task : Task} {k a : ℕ} {later events : List Event} {w : Why} → Stands task k later a events → Fails task k later w events → saves task events ≡ (after_preparation ∷ marks task k) ++ stop_mark task k ∷ []
saves_fails {task} {k} {a} {later} {events} {w} s f =
    let stop : stopping task (Some (at k later)) (Some w) ≡ stop_mark task k ∷ [] = rw (f.stops, f.not_passed) refl in
    saves_on s f.not_passed
    ∙ ap (λ (v : Option Why). (after_preparation ∷ marks task k) ++ stopping task (Some (at k later)) v) f.cause
    ∙ ap (λ (xs : List Prefix). (after_preparation ∷ marks task k) ++ xs) stop

pub why_none_on : {task : Task} {k a : ℕ} {later events : List Event} → Stands task k later a events → is_passed later ≡ false → why_not_done task (Some (at k later)) events ≡ None → why task events ≡ None
why_none_on s p n = why_is s p ∙ n

pub saves_quiet : {task : Task} {k a : ℕ} {later events : List Event} → Stands task k later a events → is_passed later ≡ false → why_not_done task (Some (at k later)) events ≡ None → saves task events ≡ (after_preparation ∷ marks task k) ++ []
saves_quiet {task} {k} {a} {later} {events} s p n =
    saves_on s p ∙ ap (λ (v : Option Why). (after_preparation ∷ marks task k) ++ stopping task (Some (at k later)) v) n

-- what is left of the saves after some
pub left : (task : Task) {a : ℕ} (events : List Event) (xs ys : List Prefix) → ack_count events ≡ a → saves task events ≡ xs ++ ys → length xs ≡ a → pending_saves task events ≡ ys
left task {a} events xs ys n e l = ap (λ (i : ℕ). drop i (saves task events)) n ∙ ap (λ (zs : List Prefix). drop a zs) e ∙ seam xs ys a l

pub unacked_quiet : {task : Task} {k : ℕ} {later events : List Event} → Stands task k later (k + 1) events → is_passed later ≡ false → why_not_done task (Some (at k later)) events ≡ None → pending_saves task events ≡ []
unacked_quiet {task} {k} {later} {events} s o b = left task events (after_preparation ∷ marks task k) [] s.reached.acknowledged (saves_quiet s o b) (length-prepared task k)

pub unacked_fails : {task : Task} {k : ℕ} {later events : List Event} {w : Why} → Stands task k later (k + 1) events → Fails task k later w events → pending_saves task events ≡ stop_mark task k ∷ []
unacked_fails {task} {k} {later} {events} {w} s f = left task events (after_preparation ∷ marks task k) (stop_mark task k ∷ []) s.reached.acknowledged (saves_fails s f) (length-prepared task k)

one_longer : (task : Task) (k : ℕ) (x : Prefix) → length ((after_preparation ∷ marks task k) ++ x ∷ []) ≡ k + 2
one_longer task k x = let e = length-prepared task k in length-append (after_preparation ∷ marks task k) (x ∷ []) ∙ omega (arith, e)

pub unacked_failed : {task : Task} {k : ℕ} {later events : List Event} {w : Why} → Stands task k later (k + 2) events → Fails task k later w events → pending_saves task events ≡ []
unacked_failed {task} {k} {later} {events} {w} s f =
    left task events ((after_preparation ∷ marks task k) ++ stop_mark task k ∷ []) [] s.reached.acknowledged (saves_fails s f ∙ sym (append-nil _)) (one_longer task k (stop_mark task k))

pub failing_fails : {task : Task} {k a : ℕ} {later events : List Event} {w : Why} → Stands task k later a events → Fails task k later w events → k + 1 ≤ a → failing_at task events ≡ Some (cell_of task k)
failing_fails {task} {k} {a} {later} {events} {w} s f le =
    let l = length-prepared task k in
    let n = s.reached.acknowledged in
    ap (λ (ys : List Prefix). (last_asked ys (ack_count events) after_preparation).stopping_cell) (saves_fails s f)
    ∙ ap (λ (p : Prefix). p.stopping_cell) (last_at_end (after_preparation ∷ marks task k) (stop_mark task k) (ack_count events) after_preparation (omega (arith, l, n, le)))

pub more_is : (task : Task) (k : ℕ) → (after_preparation ∷ marks task k) ++ (mark task k ∷ rest_after task k) ≡ ((after_preparation ∷ marks task k) ++ mark task k ∷ []) ++ rest_after task k
more_is task k = simp append_assoc

pub unacked_passed : {task : Task} {k : ℕ} {later events : List Event} → Stands task k later (k + 2) events → is_passed later ≡ true → pending_saves task events ≡ rest_after task k
unacked_passed {task} {k} {later} {events} s pass =
    left task events ((after_preparation ∷ marks task k) ++ mark task k ∷ []) (rest_after task k) s.reached.acknowledged (saves_more s pass ∙ more_is task k) (one_longer task k (mark task k))

pub why_done : {task : Task} {k a : ℕ} {later events : List Event} → Stands task k later a events → is_passed later ≡ true → k + 1 ≡ length task.plan → why task events ≡ Some Done
why_done {task} {k} {a} {later} {events} s pass last =
    let lt : 0 < length task.plan = omega (arith, last) in
    rw (standing_is s, pass, eq-eqb (k + 1) (length task.plan) last, lt-ltb 0 (length task.plan) lt) refl

pub failing_more : {task : Task} {k a : ℕ} {later events : List Event} → Stands task k later a events → is_passed later ≡ true → failing_at task events ≡ None
failing_more {task} {k} {a} {later} {events} s pass = failing_none task events _ (saves_more s pass) (no_stop_more task k)

pub failing_quiet : {task : Task} {k a : ℕ} {later events : List Event} → Stands task k later a events → is_passed later ≡ false → why_not_done task (Some (at k later)) events ≡ None → failing_at task events ≡ None
failing_quiet {task} {k} {a} {later} {events} s o b = failing_none task events _ (saves_quiet s o b) (no_stop_on task k)
