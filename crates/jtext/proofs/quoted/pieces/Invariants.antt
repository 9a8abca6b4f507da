use Rattle.std.proofs.Common.{ℕ, ◌<◌, ◌≤◌, length, string_bytes}
use denote.Text.{Utf8}
use denote.Shadow.{shadow}
use Rattle.jtext.proofs.Bodies.{HasRead}
use Rattle.jtext.proofs.quoted.pieces.Given as goal

abbrev pub invariant-each : goal.invariant-each
invariant-each l =
    record {
      text : shadow (Utf8 l.rest);
      within : length l.rest ≤ length l.fn.s;
      far : (n : ℕ) → length l.fn.s < n → HasRead n l.fn.s (string_bytes l.out) l.rest;
    }

abbrev pub decreases-each : goal.decreases-each
decreases-each l = length l.rest
