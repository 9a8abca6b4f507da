-- The connections that are kept as up are those that are up by the journal, its newest entry first.
use Rattle.std.specs.Prelude.{if◌then◌else◌, slice_set}
use Rattle.std.proofs.Common.{◌≡◌, ◌∙◌, ◌&&◌, ℕ, ◌<◌, List, [], ◌∷◌, length, Bool, true, false, Option, Some, None, IfSome, IsSomeAnd, refl, sym, ap, subst, arith, inl, inr}
use Rattle.std.proofs.lemmas.Bool.{cases_Bool, cases_lt, cond-true, cond-false, eqb-true, eqb-false, false≢true}
use Rattle.std.proofs.lemmas.List.{length-set}
use Rattle.world.specs.declared.conn.Conn.{Conn}
use Rattle.world.specs.declared.connected.Connected.TheVariants as connected
use Rattle.world.specs.declared.did.Did.{Did}
use Rattle.world.specs.declared.did.Did.TheVariants as did
use Rattle.world.specs.declared.entry.Entry.{Entry}
use Rattle.world.specs.declared.entry.Entry.TheVariants as made
use Rattle.world.specs.Moments.{Told}
use Rattle.world.specs.Places.{Status, status, place_of, is_at, is_reported, OnlyUp}
use Rattle.world_mem.specs.declared.linked_journal.LinkedJournal.{LinkedJournal}
use Rattle.world_mem.specs.Journals.{told_of}
use Rattle.world_mem.specs.Links.{is_up, ups_of, ups_told}
use Rattle.world.proofs.MomentsLemmas.{told_as}
use Rattle.world_mem.proofs.LinkLemmas.{reported_own, reported_other, unmarked_past, place_below}
use Rattle.world_mem.proofs.ReportLemmas.{none_reported}

pub ups_size : (past : List Entry) → length (ups_of past) ≡ 64
ups_size [] = refl
ups_size (made.Connected conn port connected.Begun ∷ past) = length-set (ups_of past) (place_of conn) true ∙ ups_size past
ups_size (made.Connected conn port connected.Refused ∷ past) = length-set (ups_of past) (place_of conn) false ∙ ups_size past
ups_size (made.Connected conn port connected.Failed ∷ past) = ups_size past
ups_size (made.Closed conn ∷ past) = length-set (ups_of past) (place_of conn) false ∙ ups_size past
ups_size (made.Ended conn by ∷ past) = length-set (ups_of past) (place_of conn) false ∙ ups_size past
ups_size (made.Refused conn by ∷ past) = length-set (ups_of past) (place_of conn) false ∙ ups_size past
ups_size (_ ∷ past) = ups_size past

-- a place was marked, as that of the connection of an entry
marked : (p : ℕ) (conn : Conn) (v : Bool) (ups : List Bool) (was now : Status) → p < length ups
    → is_reported p ups ≡ was.up → now.up ≡ v
    → is_reported p (slice_set ups (place_of conn) v) ≡ Status.up (if is_at p conn then now else was)
marked p conn v ups was now below so is =
    elim (cases_Bool (is_at p conn)) [
      | inl here ↦
          let same : p ≡ place_of conn = eqb-true p (place_of conn) here in
          subst (λ q. is_reported p (slice_set ups q v) ≡ v) same (reported_own p ups v below) ∙ sym is
          ∙ ap (λ s. Status.up s) (sym (cond-true (is_at p conn) now was here))
      | inr apart ↦
          reported_other p (place_of conn) ups v (λ e. eqb-false p (place_of conn) apart (sym e)) ∙ so
          ∙ ap (λ s. Status.up s) (sym (cond-false (is_at p conn) now was apart))
    ]

-- a connection changed otherwise
kept : (b : Bool) (up : Bool) (was now : Status) → up ≡ was.up → now.up ≡ was.up
    → up ≡ Status.up (if b then now else was)
kept true up was now so same = so ∙ sym same
kept false up was now so same = so

-- at each place, what is kept is what the journal says
pub ups_status : (past : List Entry) (p : ℕ) → p < 64 → is_reported p (ups_of past) ≡ (status p past).up
ups_status [] p below = none_reported 64 p
ups_status (made.Connected conn port connected.Begun ∷ past) p below =
    marked p conn true (ups_of past) (status p past) _ (omega (arith, ups_size past)) (ups_status past p below) refl
ups_status (made.Connected conn port connected.Refused ∷ past) p below =
    marked p conn false (ups_of past) (status p past) _ (omega (arith, ups_size past)) (ups_status past p below) refl
ups_status (made.Connected conn port connected.Failed ∷ past) p below =
    kept (is_at p conn) _ (status p past) _ (ups_status past p below) refl
ups_status (made.Closed conn ∷ past) p below =
    marked p conn false (ups_of past) (status p past) _ (omega (arith, ups_size past)) (ups_status past p below) refl
ups_status (made.Ended conn by ∷ past) p below =
    marked p conn false (ups_of past) (status p past) _ (omega (arith, ups_size past)) (ups_status past p below) refl
ups_status (made.Refused conn by ∷ past) p below =
    marked p conn false (ups_of past) (status p past) _ (omega (arith, ups_size past)) (ups_status past p below) refl
ups_status (made.Got conn room bytes ∷ past) p below = kept (is_at p conn) _ (status p past) _ (ups_status past p below) refl
ups_status (made.Dry conn ∷ past) p below = kept (is_at p conn) _ (status p past) _ (ups_status past p below) refl
ups_status (made.ReadFailed conn ∷ past) p below = kept (is_at p conn) _ (status p past) _ (ups_status past p below) refl
ups_status (made.Put conn bytes ∷ past) p below = kept (is_at p conn) _ (status p past) _ (ups_status past p below) refl
ups_status (made.Stuck conn ∷ past) p below = kept (is_at p conn) _ (status p past) _ (ups_status past p below) refl
ups_status (made.PutFailed conn ∷ past) p below = kept (is_at p conn) _ (status p past) _ (ups_status past p below) refl
ups_status (made.Waited ms reports did.Done ∷ past) p below = ups_status past p below
ups_status (made.Waited ms reports did.Failed ∷ past) p below = ups_status past p below
ups_status (_ ∷ past) p below = ups_status past p below

linked_at : (old new : Option (List Entry)) (R : List Entry → List Entry → Type 0) (ups : List Bool)
    → ups_told old ups ≡ ups → IfSome new (λ after. IsSomeAnd old (λ before. R before after))
    → IfSome new (λ after. IsSomeAnd old (λ before. ups_of before ≡ ups))
linked_at old None R ups e s = tt
linked_at None (Some after) R ups e s = absurd s
linked_at (Some past) (Some after) R ups e s = e

-- where it is told, what is kept is what the journal before says
pub told_linked : {old new : Option (List Entry)} {R : List Entry → List Entry → Type 0} {ups : List Bool}
    → Told old new R → ups_told old ups ≡ ups → Told old new (λ before after. ups_of before ≡ ups)
told_linked {old} {new} {R} {ups} told e = record { so = linked_at old new R ups e told.so }

-- what is marked is up by the journal, where it is up by what is kept
pub only_up : (past : List Entry) (ups ready : List Bool) → ups_of past ≡ ups
    → ((p : ℕ) → is_reported p ready ≡ true → is_reported p ups ≡ true) → OnlyUp ready past
only_up past ups ready same marks p e =
    let up : is_reported p (ups_of past) ≡ true = ap (is_reported p) same ∙ marks p e in
    elim (cases_lt p 64) [
      | inl below ↦ sym (ups_status past p below) ∙ up
      | inr above ↦ absurd (false≢true (sym (unmarked_past p (ups_of past) (omega (arith, ups_size past))) ∙ up))
    ]

-- the same, where the journal is as it was
pub told_up : {old mid : LinkedJournal} {new : Option (List Entry)} {R : List Entry → List Entry → Type 0}
    → (ready : List Bool) → mid ≡ old → Told (told_of mid.timed.entries) new R
    → ((p : ℕ) → is_reported p ready ≡ true → is_reported p old.ups ≡ true)
    → Told (told_of old.timed.entries) new (λ before after. OnlyUp ready before)
told_up {old} {mid} {new} {R} ready same told marks =
    let told_before : Told (told_of old.timed.entries) new R = subst (λ (j : LinkedJournal). Told (told_of j.timed.entries) new R) same told in
    told_as (told_linked told_before old.linked) (λ before after linked. only_up before old.ups ready linked marks)

up_is_status : (past : List Entry) (ups : List Bool) (conn : Conn) → ups_of past ≡ ups → conn.job < 16
    → is_reported (place_of conn) ups ≡ (status (place_of conn) past).up
up_is_status past ups conn same below =
    ap (is_reported (place_of conn)) (sym same) ∙ ups_status past (place_of conn) (place_below conn below)

-- what is marked goes by the journal, where it goes by what is kept
pub told_exact : {old mid : LinkedJournal} {new : Option (List Entry)} {R : List Entry → List Entry → Type 0}
    → (ready : List Bool) (hears : Conn → Bool) (result : Did) → mid ≡ old → Told (told_of mid.timed.entries) new R
    → (result ≡ did.Done → (conn : Conn) → conn.job < 16
    → is_reported (place_of conn) ready ≡ (is_up old.ups conn && hears conn))
    → Told (told_of old.timed.entries) new (λ before after. result ≡ did.Done → (conn : Conn) → conn.job < 16
    → is_reported (place_of conn) ready ≡ ((status (place_of conn) before).up && hears conn))
told_exact {old} {mid} {new} {R} ready hears result same told marks =
    let told_before : Told (told_of old.timed.entries) new R =
    subst (λ (j : LinkedJournal). Told (told_of j.timed.entries) new R) same told in
    told_as (told_linked told_before old.linked) (λ before after linked done conn below.
    marks done conn below ∙ ap (λ (up : Bool). up && hears conn) (up_is_status before old.ups conn linked below))
