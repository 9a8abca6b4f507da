use Rattle.std.proofs.Common.{sym, ◌∙◌, ◌++◌, ap, codes, Some}
use Rattle.std.proofs.lemmas.Option.{same_Some}
use Rattle.jtext.specs.Look.{string_at}
use Rattle.jmsg.specs.Header.{header_of}
use Rattle.jmsg.proofs.MessageLemmas.{same_message}
use Rattle.jmsg.proofs.reader.message.Goals as goal

pub returns-clause-only : goal.returns-clause-only
returns-clause-only c m g =
    let named = same_Some _ _ (sym c.in-Some.is ∙ c.in_ok-named.ensures.only g.named g.is_header) in
    let header = same_Some _ _ (sym c.in-Some-of.is ∙ c.of.ensures ∙ ap header_of named ∙ g.header_given) in
    let parent = same_Some _ _ (sym c.in-Some-2.is ∙ c.in_ok-parent.ensures.only m.parent g.is_parent) in
    let metadata = same_Some _ _ (sym c.in-Some-3.is ∙ c.in_ok-metadata.ensures.only m.metadata g.is_metadata) in
    let content = same_Some _ _ (sym c.in-Some-4.is ∙ c.in_ok-content.ensures.only m.content g.is_content) in
    let parent_id = c.in_ok-parent_id.ensures ∙ ap (λ t. string_at t (codes "msg_id")) parent ∙ sym g.parent_id_given in
    let buffers = c.in_ok-append_copies.ensures ∙ ap (λ bs. bs ++ c.args.buffers.now) c.new-copies.ensures ∙ sym g.buffers_given in
    ap Some (same_message _ _ _ _ _ _ m header parent_id parent metadata content buffers)
