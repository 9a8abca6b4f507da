-- What parts are is a function of the key and the parts.
use Rattle.std.proofs.Common.{◌≡◌, ℕ, ◌<◌, Bool, true, false, cond, ◌&&◌, List, [], ◌∷◌, length, Option, Some, None, Result, Ok, Err, codes, refl, sym, ◌∙◌, ap, subst, arith}
use Rattle.std.specs.Prelude.{option_and_then}
use Rattle.std.specs.Str.{bytes_eq, is_utf8}
use Rattle.std.proofs.lemmas.Option.{cond_some, none-some, same_Some}
use Rattle.std.proofs.lemmas.Str.{IsUtf8-from_is_utf8, is_utf8-from_IsUtf8}
use Rattle.std.proofs.lemmas.Slice.Eq.{bytes_eq-Decides}
use Rattle.zmtp_wire.proofs.ShakenLemmas.{is_true, true_is}
use Rattle.jsign.specs.Hmac as hmac
use Rattle.jtext.specs.declared.json.Json.{Json}
use Rattle.jtext.specs.Look.{is_object, string_at}
use Rattle.jtext.specs.Reading.{document_at}
use Rattle.jtext.proofs.Documents.{document_complete, document_spells}
use Rattle.jmsg.specs.Dictionary.{IsDictionary}
use Rattle.jmsg.specs.Header.{header_of}
use Rattle.jmsg.specs.Signed.{delimiter, AreRouting, Follow, Give, Signed, Decodes}
use Rattle.jmsg.specs.Decoding.{object_read, dictionary_in, after_delimiter, message_of, message_given, json_verdict, frames_verdict, parts_verdict, verdict_on, message_in, decode}
use Rattle.jmsg.specs.declared.header.Header.{Header}
use Rattle.jmsg.specs.declared.message.Message.{Message}
use Rattle.jmsg.specs.declared.decoded.Decoded.{Decoded}
use Rattle.jmsg.specs.declared.decoded.Decoded.TheVariants.{Good, NoDelimiter, Short, Unsigned, NotJson}
use Rattle.jmsg.proofs.FrameLemmas.{follow_here, follow_more, same_frame, other_frame}
use Rattle.jmsg.proofs.MessageLemmas.{built, same_message}
use Rattle.jmsg.proofs.VerdictLemmas.{framed, only_no_delimiter, only_short, only_unsigned, only_not_json, only_good}

-- ---- dictionaries

object_by : {E : Type 0} (utf8 : Bool) (r : Result Json E) (t : Json) → object_read utf8 r ≡ Some t → (utf8 ≡ true) × (r ≡ Ok t) × (is_object t ≡ true)
object_by utf8 (Err e) t h = absurd (none-some t h)
object_by false (Ok x) t h = absurd (none-some t h)
object_by true (Ok x) t h = let k = cond_some (is_object x) x t h in (refl, ap Ok k.1, ap is_object (sym k.1) ∙ k.0)

pub dictionary_sound : (b : List ℕ) (t : Json) → dictionary_in b ≡ Some t → IsDictionary t b
unfolding dictionary_in
dictionary_sound b t h =
    let k = object_by (is_utf8 b) (document_at 100 b) t h in
    let s = document_spells 100 b b t refl (IsUtf8-from_is_utf8 b k.0) k.1 in
    record { spelled = s.0; object = true_is (is_object t) k.2; nests = s.1 }

pub dictionary_complete : (b : List ℕ) (t : Json) → IsDictionary t b → dictionary_in b ≡ Some t
unfolding dictionary_in
dictionary_complete b t d =
    ap (object_read (is_utf8 b)) (document_complete t b 100 d.spelled d.nests)
    ∙ ap (λ x. cond (x && is_object t) (Some t) None) (is_utf8-from_IsUtf8 b d.spelled.utf8)
    ∙ ap (λ x. cond x (Some t) None) (is_true (is_object t) d.object)

-- ---- the message of frames

give_by : (h p m c : List ℕ) (bs : List (List ℕ)) (x : Message) (named : Option Json) (header : Option Header) (parent metadata content : Option Json)
    → dictionary_in h ≡ named → option_and_then header_of named ≡ header → dictionary_in p ≡ parent → dictionary_in m ≡ metadata → dictionary_in c ≡ content
    → message_of header parent metadata content bs ≡ Some x → Give h p m c bs x
give_by h p m c bs x named None parent metadata content e1 e2 e3 e4 e5 e = absurd (none-some x e)
give_by h p m c bs x named (Some hd) None metadata content e1 e2 e3 e4 e5 e = absurd (none-some x e)
give_by h p m c bs x named (Some hd) (Some pt) None content e1 e2 e3 e4 e5 e = absurd (none-some x e)
give_by h p m c bs x named (Some hd) (Some pt) (Some md) None e1 e2 e3 e4 e5 e = absurd (none-some x e)
give_by h p m c bs x None (Some hd) (Some pt) (Some md) (Some ct) e1 e2 e3 e4 e5 e = absurd (none-some hd e2)
give_by h p m c bs x (Some t) (Some hd) (Some pt) (Some md) (Some ct) e1 e2 e3 e4 e5 e =
    let all : built hd (string_at pt (codes "msg_id")) pt md ct bs ≡ x = same_Some _ x e in
    subst (λ (y : Message). Give h p m c bs y) all (record {
      named = t;
      is_header = dictionary_sound h t e1;
      header_given = e2;
      is_parent = dictionary_sound p pt e3;
      parent_id_given = refl;
      is_metadata = dictionary_sound m md e4;
      is_content = dictionary_sound c ct e5;
      buffers_given = refl;
    })

give_sound : (h p m c : List ℕ) (bs : List (List ℕ)) (x : Message) → message_given h p m c bs ≡ Some x → Give h p m c bs x
unfolding message_given
give_sound h p m c bs x e =
    give_by h p m c bs x (dictionary_in h) (option_and_then header_of (dictionary_in h)) (dictionary_in p) (dictionary_in m) (dictionary_in c) refl refl refl refl refl e

give_complete : (h p m c : List ℕ) (bs : List (List ℕ)) (x : Message) → Give h p m c bs x → message_given h p m c bs ≡ Some x
unfolding message_given
give_complete h p m c bs x g =
    ap (λ o. message_of (option_and_then header_of o) (dictionary_in p) (dictionary_in m) (dictionary_in c) bs) (dictionary_complete h g.named g.is_header)
    ∙ ap (λ o. message_of o (dictionary_in p) (dictionary_in m) (dictionary_in c) bs) g.header_given
    ∙ ap (λ o. message_of (Some x.header) o (dictionary_in m) (dictionary_in c) bs) (dictionary_complete p x.parent g.is_parent)
    ∙ ap (λ o. message_of (Some x.header) (Some x.parent) o (dictionary_in c) bs) (dictionary_complete m x.metadata g.is_metadata)
    ∙ ap (λ o. message_of (Some x.header) (Some x.parent) (Some x.metadata) o bs) (dictionary_complete c x.content g.is_content)
    ∙ ap Some (same_message _ _ _ _ _ _ x refl (sym g.parent_id_given) refl refl refl (sym g.buffers_given))

-- ---- the delimiter

follow_by : (b : Bool) (frame : List ℕ) (frames after : List (List ℕ)) → bytes_eq delimiter frame ≡ b → cond b (Some frames) (after_delimiter frames) ≡ Some after
    → (after_delimiter frames ≡ Some after → Follow frames after) → Follow (frame ∷ frames) after
follow_by true frame frames after e h on = subst (Follow (frame ∷ frames)) (same_Some frames after h) (follow_here frame frames (same_frame frame e))
follow_by false frame frames after e h on = follow_more frame frames after (other_frame frame e) (on h)

follow_after : (parts after : List (List ℕ)) → after_delimiter parts ≡ Some after → Follow parts after
follow_after [] after h = absurd (none-some after h)
follow_after (frame ∷ frames) after h = follow_by (bytes_eq delimiter frame) frame frames after refl h (follow_after frames after)

routing_by : (b : Bool) (frame : List ℕ) (frames : List (List ℕ)) → bytes_eq delimiter frame ≡ b → cond b (Some frames) (after_delimiter frames) ≡ None
    → (after_delimiter frames ≡ None → AreRouting frames) → AreRouting (frame ∷ frames)
routing_by true frame frames e h on = absurd (none-some frames (sym h))
routing_by false frame frames e h on = (other_frame frame e, on h)

routing_after : (parts : List (List ℕ)) → after_delimiter parts ≡ None → AreRouting parts
routing_after [] h = tt
routing_after (frame ∷ frames) h = routing_by (bytes_eq delimiter frame) frame frames refl h (routing_after frames)

-- ---- the verdict

-- it is true of the parts, and nothing else is
record IsVerdict (key : List ℕ) (parts : List (List ℕ)) (v : Decoded) : Type 0 where
  is : Decodes key parts v
  only : (d : Decoded) → Decodes key parts d → v ≡ d

json_verdict_by : (key : List ℕ) (parts : List (List ℕ)) (s h p m c : List ℕ) (bs : List (List ℕ)) → Follow parts (s ∷ h ∷ p ∷ m ∷ c ∷ bs) → s ≡ hmac.signature key h p m c
    → (o : Option Message) → message_given h p m c bs ≡ o → IsVerdict key parts (json_verdict o)
json_verdict_by key parts s h p m c bs follow signed None e =
    let none : (x : Message) → Give h p m c bs x → ⊥ = λ x g. none-some x (sym e ∙ give_complete h p m c bs x g) in
    record { is = (framed parts s h p m c bs follow, signed, λ given. none given.0 given.1); only = only_not_json key parts s h p m c bs follow signed none }
json_verdict_by key parts s h p m c bs follow signed (Some x) e =
    let given = give_sound h p m c bs x e in
    let once : (y : Message) → Give h p m c bs y → x ≡ y = λ y g. same_Some x y (sym e ∙ give_complete h p m c bs y g) in
    record { is = (framed parts s h p m c bs follow, signed, given); only = only_good key parts s h p m c bs follow signed x given once }

signed_verdict_by : (key : List ℕ) (parts : List (List ℕ)) (s h p m c : List ℕ) (bs : List (List ℕ)) → Follow parts (s ∷ h ∷ p ∷ m ∷ c ∷ bs)
    → (b : Bool) → bytes_eq s (hmac.signature key h p m c) ≡ b → IsVerdict key parts (cond b (json_verdict (message_given h p m c bs)) Unsigned)
signed_verdict_by key parts s h p m c bs follow true e =
    json_verdict_by key parts s h p m c bs follow ((bytes_eq-Decides s (hmac.signature key h p m c)).0 e) (message_given h p m c bs) refl
signed_verdict_by key parts s h p m c bs follow false e =
    let wrong : s ≡ hmac.signature key h p m c → ⊥ = λ same. let found = (bytes_eq-Decides s (hmac.signature key h p m c)).1 same in cc in
    record { is = (framed parts s h p m c bs follow, wrong); only = only_unsigned key parts s h p m c bs follow wrong }

short_verdict : (key : List ℕ) (parts after : List (List ℕ)) → Follow parts after → length after < 5 → IsVerdict key parts Short
short_verdict key parts after follow short = record { is = (after, follow, short); only = only_short key parts after follow short }

frames_verdict_is : (key : List ℕ) (parts after : List (List ℕ)) → Follow parts after → IsVerdict key parts (frames_verdict key after)
frames_verdict_is key parts [] follow = short_verdict key parts [] follow (omega arith)
frames_verdict_is key parts (s ∷ []) follow = short_verdict key parts _ follow (omega arith)
frames_verdict_is key parts (s ∷ h ∷ []) follow = short_verdict key parts _ follow (omega arith)
frames_verdict_is key parts (s ∷ h ∷ p ∷ []) follow = short_verdict key parts _ follow (omega arith)
frames_verdict_is key parts (s ∷ h ∷ p ∷ m ∷ []) follow = short_verdict key parts _ follow (omega arith)
frames_verdict_is key parts (s ∷ h ∷ p ∷ m ∷ c ∷ bs) follow = signed_verdict_by key parts s h p m c bs follow (bytes_eq s (hmac.signature key h p m c)) refl

parts_verdict_is : (key : List ℕ) (parts : List (List ℕ)) (o : Option (List (List ℕ))) → after_delimiter parts ≡ o → IsVerdict key parts (parts_verdict key o)
parts_verdict_is key parts None e = let r = routing_after parts e in record { is = r; only = only_no_delimiter key parts r }
parts_verdict_is key parts (Some after) e = frames_verdict_is key parts after (follow_after parts after e)

verdict_is : (key : List ℕ) (parts : List (List ℕ)) → IsVerdict key parts (verdict_on key parts)
unfolding verdict_on
verdict_is key parts = parts_verdict_is key parts (after_delimiter parts) refl

pub verdict_true : (key : List ℕ) (parts : List (List ℕ)) → Decodes key parts (verdict_on key parts)
verdict_true key parts = (verdict_is key parts).is

pub verdict_alone : (key : List ℕ) (parts : List (List ℕ)) (d : Decoded) → Decodes key parts d → d ≡ verdict_on key parts
verdict_alone key parts d h = sym ((verdict_is key parts).only d h)

-- ---- the message

good_by : (d : Decoded) (m : Message) → message_in d ≡ Some m → d ≡ Good m
good_by (Good x) m e = ap Good (same_Some x m e)
good_by NoDelimiter m e = absurd (none-some m e)
good_by Short m e = absurd (none-some m e)
good_by Unsigned m e = absurd (none-some m e)
good_by NotJson m e = absurd (none-some m e)

pub decoded_signed : (key : List ℕ) (parts : List (List ℕ)) (m : Message) → decode key parts ≡ Some m → Signed key parts m
unfolding decode
decoded_signed key parts m e = subst (Decodes key parts) (good_by (verdict_on key parts) m e) (verdict_true key parts)

pub signed_decoded : (key : List ℕ) (parts : List (List ℕ)) (m : Message) → Signed key parts m → decode key parts ≡ Some m
unfolding decode
signed_decoded key parts m s = ap message_in (sym (verdict_alone key parts (Good m) s))
