-- What a read of the loop brings.
use Rattle.std.proofs.Common.{◌≡◌, ℕ, List, [], ◌∷◌, true, not, Some, None, Result, Ok, Err, refl, sym, ap, subst}
use Rattle.std.specs.Prelude.{take}
use Rattle.std.proofs.lemmas.Bool.{ne_eqb}
use Rattle.world.specs.declared.conn.Conn.{Conn}
use Rattle.world.specs.declared.entry.Entry.{Entry}
use Rattle.world.specs.declared.entry.Entry.TheVariants as made
use Rattle.world.specs.declared.side.Side.TheVariants as side
use Rattle.world.specs.Moments.{Since, more}
use Rattle.world.proofs.MomentsLemmas.{since_as}
use Rattle.ready_loop.specs.declared.fault.LoopFault.{LoopFault}
use Rattle.ready_loop.specs.declared.fault.LoopFault.TheVariants.{NetFault, Spent}
use Rattle.ready_loop.specs.declared.next.Next.{Next}
use Rattle.ready_loop.specs.declared.next.Next.TheVariants.{Piece, Ended, Refused, Quiet}
use Rattle.ready_loop.specs.Reads.{IsDry, NextCame, ThenCame}
use Rattle.run_journal.specs.Job.{Job}
use Rattle.job_journal.specs.Quiet.{IsQuietNow, is_quiet}
use Rattle.job_journal.proofs.Quiet.{quiet_kind}
use Rattle.other_jobs.specs.Reads.{BringsBytes, NextBrings}
use Rattle.other_jobs.proofs.Places.{own_place}

-- a read that found nothing
dry_quiet : (j : Job) (now : List Entry) → IsDry now → IsQuietNow j now
dry_quiet j [] is = absurd is
dry_quiet j (made.Dry conn ∷ past) is = quiet_kind j (made.Dry conn) past refl
dry_quiet j (_ ∷ past) is = absurd is

pub all_dry : (j : Job) {before after : List Entry} → Since IsDry before after → Since (IsQuietNow j) before after
all_dry j since = since_as (dry_quiet j) since

-- and then a quiet entry
then_quiet : (j : Job) (entry : Entry) (before after : List Entry) → is_quiet j entry ≡ true → ThenCame entry before after → Since (IsQuietNow j) before after
then_quiet j entry before after e came =
    subst (Since (IsQuietNow j) before) (sym came.newest) (more (all_dry j came.dry) (quiet_kind j entry came.past e))

piece_brings : (conn : Conn) (room : ℕ) (bytes : List ℕ) (before after : List Entry) → ThenCame (made.Got conn room bytes) before after
    → BringsBytes conn room bytes before after
piece_brings conn room bytes before after came = record {
  past = came.past;
  quiet = λ j. all_dry j came.dry;
  newest = came.newest;
  others = λ j other.
      then_quiet j (made.Got conn room bytes) before after
      (ap not (ne_eqb conn.job j.number other)) came;
  own = λ j same. own_place j conn same;
}

pub next_brings : (result : Result Next LoopFault) (room : ℕ) (buffer : List ℕ) (before after : List Entry) → NextCame result room buffer before after
    → NextBrings result room buffer before after
next_brings (Ok (Piece conn n)) room buffer before after came = piece_brings conn room (take n buffer) before after came
next_brings (Ok (Ended conn)) room buffer before after came = λ j. then_quiet j (made.Ended conn side.Read) before after refl came
next_brings (Ok (Refused conn)) room buffer before after came = λ j. then_quiet j (made.Refused conn side.Read) before after refl came
next_brings (Ok Quiet) room buffer before after came = λ j. all_dry j came
next_brings (Err (NetFault (Some conn))) room buffer before after came = λ j. then_quiet j (made.ReadFailed conn) before after refl came
next_brings (Err (NetFault None)) room buffer before after came = absurd came
next_brings (Err Spent) room buffer before after came = absurd came
