-- What is read of a text has no key twice.
use Rattle.std.proofs.Common.{ℕ, true, false, List, []}
use Rattle.jtext.specs.declared.json.Json.{Json}
use Rattle.jtext.specs.Grammar as grammar
use Rattle.jtext.specs.Grammar.{Spells, Spelled, Items, Pairs, Pair}
use Rattle.jtext.specs.Keyed as keyed
use Rattle.jtext.specs.Keyed.{Keyed, AllKeyed, PairsKeyed}

mutual
  pub spelled_keyed : (t : Json) (b : List ℕ) → Spelled t b → Keyed t
  spelled_keyed _ _ (grammar.null b e) = keyed.null
  spelled_keyed _ _ (grammar.yes b e) = keyed.boolean true
  spelled_keyed _ _ (grammar.no b e) = keyed.boolean false
  spelled_keyed _ _ (grammar.number b is) = keyed.number b
  spelled_keyed _ _ (grammar.string text b q) = keyed.text text
  spelled_keyed _ _ (grammar.no_items inner b s e) = keyed.array [] keyed.none
  spelled_keyed _ _ (grammar.array xs inner b all e) = keyed.array xs (items_keyed xs inner all)
  spelled_keyed _ _ (grammar.no_pairs inner b s e) = keyed.object [] keyed.no_pairs tt
  spelled_keyed _ _ (grammar.object ps inner b all d e) = keyed.object ps (pairs_keyed ps inner all) d

  items_keyed : (xs : List Json) (b : List ℕ) → Items xs b → AllKeyed xs
  items_keyed _ _ (grammar.last_item x before inner after b sb is sa e) = keyed.more x [] (spelled_keyed x inner is) keyed.none
  items_keyed _ _ (grammar.next_item x xs before inner after more b sb is sa all e) = keyed.more x xs (spelled_keyed x inner is) (items_keyed xs more all)

  pairs_keyed : (ps : List (List ℕ × Json)) (b : List ℕ) → Pairs ps b → PairsKeyed ps
  pairs_keyed _ _ (grammar.last_pair p before inner after b sb is sa e) = keyed.pair p.0 p.1 [] (pair_keyed p inner is) keyed.no_pairs
  pairs_keyed _ _ (grammar.next_pair p ps before inner after more b sb is sa all e) = keyed.pair p.0 p.1 ps (pair_keyed p inner is) (pairs_keyed ps more all)

  pair_keyed : (p : List ℕ × Json) (b : List ℕ) → Pair p b → Keyed p.1
  pair_keyed _ _ (grammar.pair key value name before after inner b q sb sa is e) = spelled_keyed value inner is

pub spells_keyed : (t : Json) (b : List ℕ) → Spells t b → Keyed t
spells_keyed t b s = spelled_keyed t s.value s.is_value
