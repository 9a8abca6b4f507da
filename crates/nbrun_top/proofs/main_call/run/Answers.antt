use Rattle.std.proofs.Common.{◌≡◌, ◌∙◌, List, Some, sym, ap, map, string_bytes, option_map}
use Rattle.std.proofs.lemmas.Option.{none-some}
use Rattle.nbrun_top.specs.Asked.{report_words, texts}
use Rattle.nbrun_top.proofs.FirstWords.{no_graph}
use Rattle.nbrun_top.proofs.main_call.run.Goals as goal

pub returns-in-Some-clause-graph : goal.returns-in-Some-clause-graph
returns-in-Some-clause-graph g c rest is =
    let words = map string_bytes c.args.words.now in
    let asked : report_words words ≡ Some (texts c.in-Some.rest.now) = sym c.report_words.ensures ∙ ap (option_map (λ r. texts r.now)) c.in-Some.is in
    absurd (none-some rest (sym (no_graph words (texts c.in-Some.rest.now) asked) ∙ is))
