-- The text of a moment in UTC (RFC 3339, section 5.6), with three decimals.
use Rattle.std.specs.Prelude.{◌≡◌, ℕ, zero, suc, ◌+◌, ◌*◌, ◌/◌, ◌%◌, cond, nat_lt, List, [], ◌∷◌, pos, unsigned_abs}
use Rattle.jiff_core.specs.Calendar.{days_in_month}
use Rattle.jiff_core.specs.DateTime.{civil_nanos}
use Rattle.jiff_core.specs.declared.civil.datetime.DateTime.{DateTime}

-- the character of the decimal digit of n that counts by unit
abbrev pub digit : ℕ → ℕ → ℕ
digit n unit = 48 + n / unit % 10

-- YYYY-MM-DDTHH:MM:SS.mmmZ
abbrev pub text_with : (year month day hour minute second ms : ℕ) → List ℕ
text_with year month day hour minute second ms =
    digit year 1000 ∷ digit year 100 ∷ digit year 10 ∷ digit year 1 ∷ 45 ∷ digit month 10 ∷ digit month 1 ∷ 45 ∷ digit day 10 ∷ digit day 1
    ∷ 84 ∷ digit hour 10 ∷ digit hour 1 ∷ 58 ∷ digit minute 10 ∷ digit minute 1 ∷ 58 ∷ digit second 10 ∷ digit second 1
    ∷ 46 ∷ digit ms 100 ∷ digit ms 10 ∷ digit ms 1 ∷ 90 ∷ []

-- the text of a civil time
unfoldable pub text_of : DateTime → List ℕ
text_of d =
    text_with (unsigned_abs d.date.year) d.date.month d.date.day d.time.hour d.time.minute d.time.second
    (d.time.subsec_nanosecond / 1000000)

-- the text is that of the civil time that stands that many milliseconds after 1970-01-01T00:00:00
unfoldable pub IsDateText : ℕ → List ℕ → Type 0
IsDateText ms text = (d : DateTime) × (civil_nanos d ≡ pos (ms * 1000000)) × (text ≡ text_of d)

-- ---- the text as a function of the moment

-- a day of the proleptic Gregorian calendar
pub record CalendarDay : Type 0 where
  pub year : ℕ
  pub month : ℕ
  pub day : ℕ

-- the day after
abbrev pub day_after : CalendarDay → CalendarDay
day_after d =
    cond (nat_lt d.day (days_in_month (pos d.year) d.month)) (record { year = d.year; month = d.month; day = d.day + 1 })
    (cond (nat_lt d.month 12) (record { year = d.year; month = d.month + 1; day = 1 }) (record { year = d.year + 1; month = 1; day = 1 }))

-- the day that stands that many days after 1970-01-01
abbrev pub day_at : ℕ → CalendarDay
day_at zero = record { year = 1970; month = 1; day = 1 }
day_at (suc n) = day_after (day_at n)

-- the text of a day, and of the milliseconds since it began
abbrev pub text_at : CalendarDay → ℕ → List ℕ
text_at d ms = text_with d.year d.month d.day (ms / 3600000) (ms / 60000 % 60) (ms / 1000 % 60) (ms % 1000)

-- the text of the moment that stands that many milliseconds after 1970-01-01T00:00:00Z
unfoldable pub date_of : ℕ → List ℕ
date_of ms = text_at (day_at (ms / 86400000)) (ms % 86400000)
