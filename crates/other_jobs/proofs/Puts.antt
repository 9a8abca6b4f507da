-- What the loop has put out for a job.
use Rattle.std.proofs.Common.{◌≡◌, ℕ, ◌+◌, ◌*◌, List, true, Option, Some, None, slice_get, refl, sym, ◌∙◌, ap}
use Rattle.world.specs.declared.conn.Conn.{Conn}
use Rattle.world.specs.declared.entry.Entry.{Entry}
use Rattle.world.specs.Places.{chan_number, place_of, status}
use Rattle.ready_loop.specs.declared.link.Link.{Link}
use Rattle.ready_loop.specs.declared.readiness.Loop.{Loop}
use Rattle.ready_loop.specs.History.{History}
use Rattle.ready_loop.specs.Standing.{StandsFor, put_at, put_by}
use Rattle.ready_loop.specs.States.{known_at, known_in}
use Rattle.run_journal.specs.Job.{Job}
use Rattle.run_journal.specs.Parts.{bytes_put}

-- a connection for which a connect was called was begun
begun_where : (l : Loop) (h : History) (journal : List Entry) (p : ℕ) → StandsFor l h journal → known_at l p ≡ true → h.begun p ≡ true
begun_where l h journal p stand known = by (slice_get l.links p) refl known
  where
    by : (o : Option Link) → slice_get l.links p ≡ o → known_in o ≡ true → h.begun p ≡ true
    by None e k = absurd (cc)
    by (Some link) e k = sym (stand.each p link e).known ∙ k

pub taken_is_put : (j : Job) (l : Loop) (h : History) (journal : List Entry) (conn : Conn) → StandsFor l h journal → known_at l (place_of conn) ≡ true
    → conn.job ≡ j.number → put_at h journal (place_of conn) ≡ bytes_put j conn.chan journal
taken_is_put j l h journal conn stand known own =
    ap (λ b. put_by b (status (place_of conn) journal).put) (begun_where l h journal (place_of conn) stand known)
    ∙ ap (λ n. (status (4 * n + chan_number conn.chan) journal).put) own
