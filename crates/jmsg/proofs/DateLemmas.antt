-- A moment has one text.
use Rattle.std.proofs.Common.{◌≡◌, ℕ, ◌/◌, List, ap, sym, ◌∙◌}
use Rattle.std.specs.Prelude.{unsigned_abs}
use Rattle.jiff_core.specs.declared.civil.datetime.DateTime.{DateTime}
use Rattle.jiff_core.proofs.DateLemmas.{epoch_day_injective}
use Rattle.jiff_core.proofs.DateTimeLemmas.{civil_nanos_injective, time_nanos_injective}
use Rattle.jmsg.specs.Date.{text_of, IsDateText}

same_text : (a b : DateTime) → a.date.year ≡ b.date.year → a.date.month ≡ b.date.month → a.date.day ≡ b.date.day → a.time.hour ≡ b.time.hour → a.time.minute ≡ b.time.minute
    → a.time.second ≡ b.time.second → a.time.subsec_nanosecond ≡ b.time.subsec_nanosecond → text_of a ≡ text_of b
unfolding text_of
same_text a b y m d h n s f =
    let ya : unsigned_abs a.date.year ≡ unsigned_abs b.date.year = ap unsigned_abs y in
    let fa : a.time.subsec_nanosecond / 1000000 ≡ b.time.subsec_nanosecond / 1000000 = ap (λ x. x / 1000000) f in
    cc

pub one_date : (ms : ℕ) (a b : List ℕ) → IsDateText ms a → IsDateText ms b → a ≡ b
unfolding IsDateText
one_date ms a b x y =
    let k = civil_nanos_injective x.0 y.0 (x.1 ∙ sym y.1) in
    let d = epoch_day_injective x.0.date y.0.date k.0 in
    let t = time_nanos_injective x.0.time y.0.time k.1 in
    x.2 ∙ same_text x.0 y.0 d.0 d.1 d.2 t.0 t.1 t.2 t.3 ∙ sym y.2
