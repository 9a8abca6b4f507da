-- The bodies that a piece brings.
use Rattle.std.proofs.Common.{◌≡◌, ℕ, List, [], ◌++◌, length, drop, refl, sym, ap, ◌∙◌}
use Rattle.std.proofs.lemmas.List.{drop_at}
use Rattle.world.specs.declared.chan.Chan.{Chan}
use Rattle.zmtp_wire.specs.declared.role.Role.{Role}
use Rattle.zmtp_wire.specs.Decoder as wire
use Rattle.zmtp_wire.specs.Meaning.{messages_in, Adds}
use Rattle.zmtp_wire.proofs.MeaningLemmas.{brought}
use Rattle.zmtp_peer.specs.Envelope.{bodies_of}
use Rattle.zmtp_peer.specs.Peer.{Brings}
use Rattle.toy_core.specs.Sending.{role_on}
use Rattle.toy_core.specs.Standing.{news}

came_by : (r : Role) (b piece : List ℕ) (came : List (List (List ℕ))) (answer : wire.Answer) → Adds r b piece [] came answer
    → drop (length (messages_in r b)) (messages_in r (b ++ piece)) ≡ came
came_by r b piece came answer a =
    ap (drop (length (messages_in r b))) a.messages ∙ drop_at (messages_in r b) a.more (length (messages_in r b)) refl ∙ sym a.grown

pub news_by : (c : Chan) (r : Role) (b piece : List ℕ) (old new : List (List (List ℕ))) (answer : wire.Answer) → r ≡ role_on c → old ≡ []
    → Brings r b piece old new answer → new ≡ news c b piece
news_by c r b piece old new answer e none w =
    let adds = brought r b piece [] w.came answer w.brings in
    w.grown ∙ ap (λ x. x ++ bodies_of r w.came) none ∙ ap (bodies_of r) (sym (came_by r b piece w.came answer adds))
    ∙ ap (λ q. bodies_of q (drop (length (messages_in q b)) (messages_in q (b ++ piece)))) e
