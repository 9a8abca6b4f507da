-- Connections of a job, and whether an entry is of one.
use Rattle.std.proofs.Common.{◌≡◌, ◌<◌, ℕ, ◌+◌, ◌*◌, Bool, true, false, cond, refl, sym, ap, arith}
use Rattle.std.proofs.lemmas.Bool.{eq-eqb, eqb-true}
use Rattle.world.specs.declared.chan.Chan.{Chan}
use Rattle.world.specs.declared.conn.Conn.{Conn}
use Rattle.world.specs.Places.{Status, chan_number, is_at, place_of}
use Rattle.world.proofs.StatusLemmas.{chan_below}
use Rattle.run_journal.specs.Job.{Job}
use Rattle.run_journal.specs.Parts.{place}

-- a fact of a connection after an entry that may be of it
pub chosen : (P : Status → Type 0) (b : Bool) (s u : Status) → (b ≡ true → P u) → P s → P (cond b u s)
chosen P true s u new was = new refl
chosen P false s u new was = was

-- a connection of the job is at its place
pub own_place : (j : Job) (conn : Conn) → conn.job ≡ j.number → is_at (place j conn.chan) conn ≡ true
own_place j conn same = eq-eqb (place j conn.chan) (place_of conn) (ap (λ n. 4 * n + chan_number conn.chan) (sym same))

-- a job of these numbers has its connections among the 64
pub place_low : (j : Job) (c : Chan) → j.number < 16 → place j c < 64
place_low j c low = omega (arith, low, chan_below c)

-- the connection that an entry names
pub named : (p : ℕ) (conn : Conn) → is_at p conn ≡ true → p ≡ place_of conn
named p conn at = eqb-true p (place_of conn) at
