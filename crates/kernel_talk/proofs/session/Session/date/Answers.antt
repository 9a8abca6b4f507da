use Rattle.std.proofs.Common.{sym, subst}
use Rattle.std.specs.Str.{IsUtf8}
use Rattle.kernel_talk.proofs.Dates.{date_utf8, is_ok}
use Rattle.kernel_talk.proofs.session.Session.date.Goals as goal

pub unwrap-text-requires : goal.unwrap-text-requires
unwrap-text-requires c =
    is_ok c.from_utf8.result c.date_text-octets.result _ _ (subst (λ b. IsUtf8 b) (sym c.date_text-octets.ensures.date) (date_utf8 c.args.ms)) c.from_utf8.ensures.cases
