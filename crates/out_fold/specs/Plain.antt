-- Bookkeeping: what the plain fold keeps: the messages of each cell themselves.
use Rattle.std.specs.Prelude.{ℕ, Bool, List, map, Option, None}
use Rattle.jtext.specs.declared.json.Json.{Json}
use Rattle.std.specs.Option.{option_map}
use Rattle.jcontent.specs.declared.content.Content.{Content}
use Rattle.jcontent.specs.declared.shown.Shown.{Shown}
use Rattle.out_fold.specs.declared.latest.Data.{Data}
use Rattle.out_fold.specs.Shown.{data_in}
use Rattle.out_fold.specs.declared.kind.Kind.{Kind}
use Rattle.out_fold.specs.declared.kind.Kind.TheVariants as kind
use Rattle.out_fold.specs.declared.message.Message.{Message}
use Rattle.out_fold.specs.declared.used.Used.{Used}
use Rattle.out_fold.specs.declared.plain_fold.PlainFold.{PlainFold}
use Rattle.out_fold.specs.Cells.{last_date, is_input, says_busy, says_idle, date_pairs}

-- what was used for the requests of the cells, the first one first
abbrev pub used_of : PlainFold → List Used
used_of f = f.used

-- whether neighbouring streams are joined
abbrev pub merge_of : PlainFold → Bool
merge_of f = f.merge

-- what the messages say
abbrev pub contents_of : List Message → List Content
contents_of ms = map (λ m. m.content) ms

-- the message is of that kind
abbrev pub is_of : Kind → Content → Bool
is_of kind.Input c = is_input c
is_of kind.Busy c = says_busy c
is_of kind.Idle c = says_idle c

-- the date of the last message of the kind
abbrev pub date_under : Kind → List Message → Option (List ℕ)
date_under k ms = last_date (is_of k) None ms

-- the dates of a request
abbrev pub dates_in : Used → List (List ℕ × Json)
dates_in u = date_pairs (last_date is_input None u.own) (last_date says_busy None u.own) (last_date says_idle None u.own) u.reply

-- the data of what is shown, where something is
abbrev pub data_of : Option Shown → Option Data
data_of o = option_map data_in o
