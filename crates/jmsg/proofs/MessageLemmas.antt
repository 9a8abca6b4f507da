-- Lemmas on the message that frames give.
use Rattle.std.proofs.Common.{◌≡◌, ℕ, List, [], Option, refl, ◌∙◌, ap}
use Rattle.jsign.specs.Hmac as hmac
use Rattle.jtext.specs.Grammar.{Spells}
use Rattle.jtext.specs.Keyed.{Keyed}
use Rattle.jtext.specs.Print.{compact}
use Rattle.jtext.specs.Sound.{Sound}
use Rattle.jtext.specs.declared.json.Json.{Json}
use Rattle.jmsg.specs.declared.header.Header.{Header}
use Rattle.jmsg.specs.declared.message.Message.{Message}
use Rattle.jmsg.specs.Dictionary.{IsDictionary}
use Rattle.jmsg.specs.Header.{tree_of}
use Rattle.jmsg.specs.Encoded.{encode, header_text, IsSendable, IsSendableTree}
use Rattle.jmsg.specs.Signed.{Signed}
use Rattle.jmsg.proofs.HeaderLemmas.{header_again, header_sendable}

abbrev pub built : Header → Option (List ℕ) → Json → Json → Json → List (List ℕ) → Message
built h id p md ct bs = record { header = h; parent_id = id; parent = p; metadata = md; content = ct; buffers = bs }

pub same_message : (h : Header) (id : Option (List ℕ)) (p md ct : Json) (bs : List (List ℕ)) (m : Message) → h ≡ m.header → id ≡ m.parent_id → p ≡ m.parent → md ≡ m.metadata → ct ≡ m.content → bs ≡ m.buffers
    → built h id p md ct bs ≡ m
same_message h id p md ct bs m eh ei ep em ec eb =
    ap (λ x. built x id p md ct bs) eh ∙ ap (λ x. built m.header x p md ct bs) ei ∙ ap (λ x. built m.header m.parent_id x md ct bs) ep
    ∙ ap (λ x. built m.header m.parent_id m.parent x ct bs) em ∙ ap (λ x. built m.header m.parent_id m.parent m.metadata x bs) ec
    ∙ ap (λ x. built m.header m.parent_id m.parent m.metadata m.content x) eb

-- ---- what is sent

sent : ((t : Json) → Sound t → Keyed t → Spells t (compact t)) → (t : Json) → IsSendableTree t → IsDictionary t (compact t)
sent spells t s = record { spelled = spells t s.sound s.keyed; object = s.object; nests = s.nests }

pub sent_message : (key : List ℕ) (m : Message) → ((t : Json) → Sound t → Keyed t → Spells t (compact t)) → IsSendable m → Signed key (encode key m) m
sent_message key m spells s = (
  record { signature = hmac.signature key (header_text m) (compact m.parent) (compact m.metadata) (compact m.content); header = header_text m; parent = compact m.parent; metadata = compact m.metadata; content = compact m.content; buffers = m.buffers; follow = record { routing = []; are_routing = tt; parts_are = refl } },
  refl,
  record {
    named = tree_of m.header;
    is_header = sent spells (tree_of m.header) (header_sendable m.header s.texts);
    header_given = header_again m.header;
    is_parent = sent spells m.parent s.parent;
    parent_id_given = s.parent_id;
    is_metadata = sent spells m.metadata s.metadata;
    is_content = sent spells m.content s.content;
    buffers_given = refl;
  },
)
