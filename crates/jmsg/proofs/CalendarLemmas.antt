-- The text of a moment by the calendar.
use Rattle.std.proofs.Common.{◌≡◌, ℕ, zero, suc, ◌+◌, ◌*◌, ◌/◌, ◌%◌, ◌<◌, ◌≤◌, ◌⊎◌, inl, inr, Bool, true, false, cond, nat_lt, List, refl, sym, ap, ◌∙◌, arith, ℤ, pos, ◌<ℤ◌}
use Rattle.std.specs.Prelude.{unsigned_abs}
use Rattle.std.proofs.lemmas.Bool.{ltb-true, ltb-false, cases_order}
use Rattle.jiff_core.specs.declared.civil.date.Date.{Date}
use Rattle.jiff_core.specs.declared.civil.time.Time.{Time}
use Rattle.jiff_core.specs.declared.civil.datetime.DateTime.{DateTime}
use Rattle.jiff_core.specs.Calendar.{days_from_civil, days_in_month}
use Rattle.jiff_core.specs.Date.{epoch_day}
use Rattle.jiff_core.specs.DateTime.{civil_nanos}
use Rattle.jiff_core.specs.Time.{time_nanos}
use Rattle.jiff_core.proofs.SignedLemmas.{signed_arith}
use Rattle.jiff_core.proofs.CalendarLemmas.{days_from_civil-day_count, day_count-lt_year, days_in_month_bounds}
use Rattle.jiff_core.proofs.DateLemmas.{civil, epoch_day_injective, days_from_civil-day, days_from_civil-next_month, days_from_civil-next_year}
use Rattle.jiff_core.proofs.DateTimeLemmas.{civil_nanos-parts, time_nanos_bound}
use Rattle.jmsg.specs.Date.{text_with, text_of, IsDateText, CalendarDay, day_at, date_of}

-- the day is the calendar's, and has this number
record IsDayNumber (d : CalendarDay) (n : ℕ) : Type 0 where
  number : days_from_civil (pos d.year) d.month d.day ≡ pos n
  month_low : 1 ≤ d.month
  month_high : d.month ≤ 12
  day_low : 1 ≤ d.day
  day_high : d.day ≤ days_in_month (pos d.year) d.month

first_number : days_from_civil (pos 1970) 1 1 ≡ pos 0
unfolding days_from_civil
first_number = omega (arith, signed_arith)

december : (y m : ℕ) → m ≡ 12 → days_in_month (pos y) m ≡ 31
december y m e = ap (days_in_month (pos y)) e

next_by : (d : CalendarDay) (n : ℕ) (within before_last : Bool) → nat_lt d.day (days_in_month (pos d.year) d.month) ≡ within → nat_lt d.month 12 ≡ before_last → IsDayNumber d n
    → IsDayNumber (cond within (record { year = d.year; month = d.month; day = d.day + 1 }) (cond before_last (record { year = d.year; month = d.month + 1; day = 1 }) (record { year = d.year + 1; month = 1; day = 1 }))) (suc n)
next_by d n true before_last w b h =
    let more = ltb-true d.day (days_in_month (pos d.year) d.month) w in
    let low = h.day_low in
    record {
      number = omega (arith, signed_arith, h.number, days_from_civil-day (pos d.year) d.month (d.day + 1) d.day (omega arith) low);
      month_low = h.month_low;
      month_high = h.month_high;
      day_low = omega arith;
      day_high = omega (arith, more);
    }
next_by d n false true w b h =
    let last = ltb-false d.day (days_in_month (pos d.year) d.month) w in
    let high = h.day_high in
    let is_last : d.day ≡ days_in_month (pos d.year) d.month = omega (arith, last, high) in
    let m = ltb-true d.month 12 b in
    let long = days_in_month_bounds (pos d.year) (d.month + 1) in
    record {
      number = omega (arith, signed_arith, h.number, days_from_civil-next_month (pos d.year) d.month d.day h.month_low is_last);
      month_low = omega arith;
      month_high = omega (arith, m);
      day_low = omega arith;
      day_high = omega (arith, long);
    }
next_by d n false false w b h =
    let last = ltb-false d.day (days_in_month (pos d.year) d.month) w in
    let high = h.day_high in
    let m = ltb-false d.month 12 b in
    let top = h.month_high in
    let twelve : d.month ≡ 12 = omega (arith, m, top) in
    let day : d.day ≡ 31 = omega (arith, last, high, december d.year d.month twelve) in
    let here : days_from_civil (pos d.year) 12 31 ≡ pos n = ap (λ x. days_from_civil (pos d.year) x 31) (sym twelve) ∙ ap (days_from_civil (pos d.year) d.month) (sym day) ∙ h.number in
    let long = days_in_month_bounds (pos (d.year + 1)) 1 in
    record {
      number = omega (arith, signed_arith, here, days_from_civil-next_year (pos d.year) (pos (d.year + 1)) (omega (arith, signed_arith)) (omega (arith, signed_arith)));
      month_low = omega arith;
      month_high = omega arith;
      day_low = omega arith;
      day_high = omega (arith, long);
    }

day_number : (n : ℕ) → IsDayNumber (day_at n) n
day_number zero = record { number = first_number; month_low = omega arith; month_high = omega arith; day_low = omega arith; day_high = omega arith }
day_number (suc n) = let d = day_at n in next_by d n (nat_lt d.day (days_in_month (pos d.year) d.month)) (nat_lt d.month 12) refl refl (day_number n)

-- ---- the date of a civil time

-- a date with the number of a day is that day
record IsOn (a : Date) (d : CalendarDay) : Type 0 where
  year : a.year ≡ pos d.year
  month : a.month ≡ d.month
  day : a.day ≡ d.day

on_day : (a : Date) (d : CalendarDay) (n : ℕ) → IsDayNumber d n → epoch_day a ≡ pos n → (d.year ≤ 9999) ⊎ (9999 < d.year) → IsOn a d
on_day a d n h e (inl low) =
    let x : Date = record { year = pos d.year; month = d.month; day = d.day; year_in = (omega (arith, signed_arith), omega (arith, signed_arith, low)); month_in = (h.month_low, h.month_high); day_in = (h.day_low, h.day_high) } in
    let same = epoch_day_injective a x (e ∙ sym h.number) in
    record { year = same.0; month = same.1; day = same.2 }
on_day a d n h e (inr high) =
    let top = a.year_in in
    let later : a.year <ℤ pos d.year = omega (arith, signed_arith, top.1, high) in
    let less = day_count-lt_year _ _ _ _ d.month d.day (civil a) h.day_low later in
    absurd (omega (arith, signed_arith, days_from_civil-day_count, less, e, h.number))

either_side : (y : ℕ) → (y ≤ 9999) ⊎ (9999 < y)
either_side y =
    elim (cases_order y 9999) [
      | inl e ↦ inl (omega (arith, e))
      | inr (inl lt) ↦ inl (omega (arith, lt))
      | inr (inr gt) ↦ inr gt
    ]

-- ---- the time of day

days_of : (d : DateTime) (ms : ℕ) → civil_nanos d ≡ pos (ms * 1000000) → (epoch_day d.date ≡ pos (ms / 86400000)) × (time_nanos d.time ≡ ms % 86400000 * 1000000)
days_of d ms e = omega (arith, signed_arith, e, civil_nanos-parts d, time_nanos_bound d.time)

-- the parts of a time with these milliseconds
record IsTimeAt (t : Time) (ms : ℕ) : Type 0 where
  hour : t.hour ≡ ms / 3600000
  minute : t.minute ≡ ms / 60000 % 60
  second : t.second ≡ ms / 1000 % 60
  fraction : t.subsec_nanosecond / 1000000 ≡ ms % 1000

time_at : (t : Time) (ms : ℕ) → time_nanos t ≡ ms * 1000000 → IsTimeAt t ms
time_at t ms e = record { hour = omega (arith, e); minute = omega (arith, e); second = omega (arith, e); fraction = omega (arith, e) }

-- ---- the text

year_same : (z : ℤ) (y : ℕ) → z ≡ pos y → unsigned_abs z ≡ y
year_same z y e = ap unsigned_abs e

text_same : (y y' m m' d d' h h' n n' s s' f f' : ℕ) → y ≡ y' → m ≡ m' → d ≡ d' → h ≡ h' → n ≡ n' → s ≡ s' → f ≡ f' → text_with y m d h n s f ≡ text_with y' m' d' h' n' s' f'
text_same y y' m m' d d' h h' n n' s s' f f' ey em ed eh en es ef =
    ap (λ x. text_with x m d h n s f) ey ∙ ap (λ x. text_with y' x d h n s f) em ∙ ap (λ x. text_with y' m' x h n s f) ed ∙ ap (λ x. text_with y' m' d' x n s f) eh
    ∙ ap (λ x. text_with y' m' d' h' x s f) en ∙ ap (λ x. text_with y' m' d' h' n' x f) es ∙ ap (λ x. text_with y' m' d' h' n' s' x) ef

pub date_is : (ms : ℕ) (text : List ℕ) → IsDateText ms text → text ≡ date_of ms
unfolding IsDateText text_of date_of
date_is ms text is =
    let d = is.0 in
    let parts = days_of d ms is.1 in
    let day = day_at (ms / 86400000) in
    let on = on_day d.date day (ms / 86400000) (day_number (ms / 86400000)) parts.0 (either_side day.year) in
    let time = time_at d.time (ms % 86400000) parts.1 in
    is.2 ∙ text_same _ _ _ _ _ _ _ _ _ _ _ _ _ _ (year_same d.date.year day.year on.year) on.month on.day time.hour time.minute time.second time.fraction
