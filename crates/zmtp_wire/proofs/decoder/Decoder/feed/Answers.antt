use Rattle.std.proofs.Common.{refl, sym, ap, ◌∙◌, ◌++◌}
use Rattle.zmtp_wire.specs.Machine.{run}
use Rattle.zmtp_wire.specs.Decoder.{answer_in}
use Rattle.zmtp_wire.proofs.FeedLemmas.{fed-stands, refused-fed}
use Rattle.zmtp_wire.proofs.GivesLemmas.{brings, brings_some, grows_none, grows_all, grows_same, refused-brings}
use Rattle.zmtp_wire.proofs.decoder.Decoder.feed.Goals as goal

pub returns-in-Err-clause-stands : goal.returns-in-Err-clause-stands
returns-in-Err-clause-stands c = λ u b given s.
    let d = c.args.self.now in
    fed-stands d _ b c.args.piece.now given
    (refused-fed d _ c.args.piece.now c.in-Err.fault (sym c.in-Err.ensures) refl refl refl c.saturating_add-self.ensures c.with-self.ensures.major c.with-self.ensures.minor) s

pub returns-in-Err-clause-brings : goal.returns-in-Err-clause-brings
returns-in-Err-clause-brings c = λ u b given s.
    refused-brings c.args.self.now b c.args.piece.now given c.args.out.now c.in-Err.fault (sym c.in-Err.ensures) s

pub returns-in-Err-clause-starved : goal.returns-in-Err-clause-starved
returns-in-Err-clause-starved c = λ u b given s. brings_some c.args.self.now b c.args.piece.now given c.args.out.now c.args.out.now s (grows_none _ _)

pub returns-in-Ok-clause-stands : goal.returns-in-Ok-clause-stands
returns-in-Ok-clause-stands c = λ u b given s.
    let d = c.args.self.now in
    let piece = c.args.piece.now in
    let was = c.replace-state.ensures.value in
    fed-stands d _ b piece given
    (record {
      role = refl;
      place = c.saturating_add-self.ensures;
      major = c.with-self.ensures.major;
      minor = c.with-self.ensures.minor;
      state = c.in-Ok.ensures.state ∙ ap (λ x. (run d.role d.at x piece).state) was;
      owed = c.in-Ok.ensures.owed ∙ ap (λ x. d.owed ++ (run d.role d.at x piece).owed) was;
    }) s

pub returns-in-Ok-clause-brings : goal.returns-in-Ok-clause-brings
returns-in-Ok-clause-brings c = λ u b given s.
    let d = c.args.self.now in
    let was = c.replace-state.ensures.value in
    brings d b c.args.piece.now given c.args.out.now c.run.new.out c.answer-in-Ok.result s
    (c.in-Ok.ensures.messages ∙ ap (λ x. c.args.out.now ++ (run d.role d.at x c.args.piece.now).messages) was)
    (c.answer-in-Ok.ensures ∙ ap answer_in (c.in-Ok.ensures.state ∙ ap (λ x. (run d.role d.at x c.args.piece.now).state) was))

pub returns-in-Ok-clause-starved : goal.returns-in-Ok-clause-starved
returns-in-Ok-clause-starved c = λ u b given s.
    let d = c.args.self.now in
    let was = c.replace-state.ensures.value in
    brings_some d b c.args.piece.now given c.args.out.now c.run.new.out s
    (grows_all _ _ _ (c.in-Ok.ensures.messages ∙ ap (λ x. c.args.out.now ++ (run d.role d.at x c.args.piece.now).messages) was))

pub returns-in-Err-run-clause-starved : goal.returns-in-Err-run-clause-starved
returns-in-Err-run-clause-starved c = λ u b given s.
    let d = c.args.self.now in
    brings_some d b c.args.piece.now given c.args.out.now c.run.new.out s
    (grows_same _ _ _ _ (ap (λ x. (run d.role d.at x c.args.piece.now).messages) c.replace-state.ensures.value) c.in-Err-run.ensures.starved)
