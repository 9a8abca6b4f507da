-- What is heard in the bodies of a piece, one after another.
use Rattle.std.proofs.Common.{◌≡◌, ◌↔◌, ℕ, List, [], ◌∷◌, ◌++◌, length, map, drop, Bool, true, false, Option, Some, None, IsTrue, refl, sym, ◌∙◌, ap, subst, append_assoc}
use Rattle.std.specs.Prelude.{option_map, option_to_list, if◌then◌else◌}
use Rattle.std.proofs.Math.Seq.{drop-append_seam}
use Rattle.std.proofs.Math.Bool.{true≢false}
use Rattle.std.proofs.lemmas.List.{append-nil, map-append}
use Rattle.std.proofs.lemmas.Grind.{flat_map-append}
use Rattle.world.specs.declared.chan.Chan.{Chan}
use Rattle.world.specs.declared.entry.Entry.{Entry}
use Rattle.jsign.specs.History.{StandsFor, IsFresh, signatures_of, fresh_items}
use Rattle.jsign.proofs.ItemLemmas.{item_kept, item_left_out}
use Rattle.jmsg.specs.declared.message.Message.{Message}
use Rattle.jmsg.specs.Decoding.{decode}
use Rattle.run_journal.specs.Codec.{Arrival}
use Rattle.run_journal.specs.Job.{Job}
use Rattle.run_journal.specs.Jupyter.{arrival_of, bodies_in, signature_frame, signed_item, signed_items}
use Rattle.run_journal.specs.Parts.{bytes_got}
use Rattle.run_journal.specs.Arrivals.{heard, arrive}
use Rattle.job_journal.specs.Seen.{heard_in, HasSeen, and_heard, HasHeard, ReadsSigned}

items_append : (key : List ℕ) (xs ys : List (List (List ℕ))) → signed_items key (xs ++ ys) ≡ signed_items key xs ++ signed_items key ys
items_append key xs ys = flat_map-append (λ parts. option_to_list (signed_item key parts)) xs ys

-- the item of one body
item_of : (key : List ℕ) (parts : List (List ℕ)) (o : Option Message) → decode key parts ≡ o
    → signed_items key (parts ∷ []) ≡ option_to_list (option_map (λ m. (signature_frame parts, arrival_of m)) o)
item_of key parts o e =
    append-nil (option_to_list (signed_item key parts)) ∙ ap (λ x. option_to_list (option_map (λ m. (signature_frame parts, arrival_of m)) x)) e

items_then : (key : List ℕ) (before done : List (List (List ℕ))) (parts : List (List ℕ)) (o : Option Message) → decode key parts ≡ o
    → signed_items key (before ++ (done ++ parts ∷ [])) ≡ signed_items key (before ++ done) ++ option_to_list (option_map (λ m. (signature_frame parts, arrival_of m)) o)
items_then key before done parts o e =
    ap (signed_items key) (sym (append_assoc before done (parts ∷ []))) ∙ items_append key (before ++ done) (parts ∷ []) ∙ ap (λ v. signed_items key (before ++ done) ++ v) (item_of key parts o e)

heard_same : (key : List ℕ) (xs ys : List (List (List ℕ))) → signed_items key xs ≡ signed_items key ys → heard_in key xs ≡ heard_in key ys
unfolding heard_in
heard_same key xs ys e = ap (λ v. map (λ item. item.1) (fresh_items v)) e

-- before any body of the piece is dealt with nothing of it is heard
pub hears_nothing : (key : List ℕ) (before : List (List (List ℕ))) (seen : List (List ℕ)) → HasSeen key seen before → HasHeard key before [] seen []
hears_nothing key before seen s = record {
  known = subst (λ v. HasSeen key seen v) (sym (append-nil before)) s;
  heard = ap (heard_in key) (append-nil before) ∙ sym (append-nil (heard_in key before));
}

-- a body that is no signed message is passed over
pub hears_none : (key : List ℕ) (before done : List (List (List ℕ))) (seen : List (List ℕ)) (messages : List Arrival) (parts : List (List ℕ))
    → decode key parts ≡ None → HasHeard key before done seen messages → HasHeard key before (done ++ parts ∷ []) seen messages
hears_none key before done seen messages parts e h =
    let same : signed_items key (before ++ (done ++ parts ∷ [])) ≡ signed_items key (before ++ done)
    = items_then key before done parts None e ∙ append-nil (signed_items key (before ++ done)) in
    record {
      known = record { stands = subst (λ v. StandsFor seen (signatures_of v)) (sym same) h.known.stands };
      heard = heard_same key (before ++ (done ++ parts ∷ [])) (before ++ done) same ∙ h.heard;
    }

-- the signatures that were offered, with that of one more signed message
offered_then : (key : List ℕ) (before done : List (List (List ℕ))) (parts : List (List ℕ)) (m : Message) → decode key parts ≡ Some m
    → signatures_of (signed_items key (before ++ (done ++ parts ∷ []))) ≡ signatures_of (signed_items key (before ++ done)) ++ signature_frame parts ∷ []
offered_then key before done parts m e =
    ap signatures_of (items_then key before done parts (Some m) e)
    ∙ map-append (λ item. item.0) (signed_items key (before ++ done)) ((signature_frame parts, arrival_of m) ∷ [])

heard_kept : (key : List ℕ) (before done : List (List (List ℕ))) (parts : List (List ℕ)) (m : Message) → decode key parts ≡ Some m
    → IsFresh (signatures_of (signed_items key (before ++ done))) (signature_frame parts)
    → heard_in key (before ++ (done ++ parts ∷ [])) ≡ heard_in key (before ++ done) ++ arrival_of m ∷ []
unfolding heard_in
heard_kept key before done parts m e fresh =
    ap (λ v. map (λ item. item.1) (fresh_items v)) (items_then key before done parts (Some m) e)
    ∙ ap (map (λ item. item.1)) (item_kept (signed_items key (before ++ done)) (signature_frame parts) (arrival_of m) fresh)
    ∙ map-append (λ item. item.1) (fresh_items (signed_items key (before ++ done))) ((signature_frame parts, arrival_of m) ∷ [])

heard_left : (key : List ℕ) (before done : List (List (List ℕ))) (parts : List (List ℕ)) (m : Message) → decode key parts ≡ Some m
    → ¬ (IsFresh (signatures_of (signed_items key (before ++ done))) (signature_frame parts))
    → heard_in key (before ++ (done ++ parts ∷ [])) ≡ heard_in key (before ++ done)
unfolding heard_in
heard_left key before done parts m e stale =
    ap (λ v. map (λ item. item.1) (fresh_items v)) (items_then key before done parts (Some m) e)
    ∙ ap (map (λ item. item.1)) (item_left_out (signed_items key (before ++ done)) (signature_frame parts) (arrival_of m) stale)

-- a signed message is heard where its signature is fresh, and its signature is seen
pub hears_one : (key : List ℕ) (before done : List (List (List ℕ))) (old new : List (List ℕ)) (messages : List Arrival) (parts : List (List ℕ)) (m : Message)
    (fresh : Bool) → decode key parts ≡ Some m → HasHeard key before done old messages
    → (IsTrue fresh ↔ IsFresh (signatures_of (signed_items key (before ++ done))) (signature_frame parts))
    → StandsFor new (signatures_of (signed_items key (before ++ done)) ++ signature_frame parts ∷ [])
    → HasHeard key before (done ++ parts ∷ []) new (and_heard messages (if fresh then Some m else None))
hears_one key before done old new messages parts m true e h f s = record {
  known = record { stands = subst (StandsFor new) (sym (offered_then key before done parts m e)) s };
  heard = heard_kept key before done parts m e (f.0 refl) ∙ ap (λ v. v ++ arrival_of m ∷ []) h.heard ∙ append_assoc (heard_in key before) messages (arrival_of m ∷ []);
}
hears_one key before done old new messages parts m false e h f s = record {
  known = record { stands = subst (StandsFor new) (sym (offered_then key before done parts m e)) s };
  heard = heard_left key before done parts m e (λ fresh. true≢false (sym (f.1 fresh))) ∙ h.heard;
}

-- Once all bodies of a piece are dealt with, what was heard is what arrives with it.
pub hears_whole : (key : List ℕ) (j : Job) (c : Chan) (entry : Entry) (past : List Entry) (new : List (List (List ℕ))) (seen : List (List ℕ)) (messages : List Arrival)
    → ReadsSigned key j c → bodies_in c (bytes_got j c (entry ∷ past)) ≡ bodies_in c (bytes_got j c past) ++ new
    → HasHeard key (bodies_in c (bytes_got j c past)) new seen messages
    → (arrive j c entry past ≡ messages) × HasSeen key seen (bodies_in c (bytes_got j c (entry ∷ past)))
unfolding arrive
hears_whole key j c entry past new seen messages reads split h =
    let all : heard j c (entry ∷ past) ≡ heard j c past ++ messages
    = reads (bytes_got j c (entry ∷ past)) ∙ ap (heard_in key) split ∙ h.heard ∙ ap (λ v. v ++ messages) (sym (reads (bytes_got j c past))) in (
      ap (drop (length (heard j c past))) all ∙ drop-append_seam (heard j c past) messages,
      subst (HasSeen key seen) (sym split) h.known,
    )

-- the signatures that were seen stay those of the bytes that came, where none come
pub seen_stays : (key : List ℕ) (j : Job) (c : Chan) (entry : Entry) (past : List Entry) (seen : List (List ℕ)) → bytes_got j c (entry ∷ past) ≡ bytes_got j c past
    → HasSeen key seen (bodies_in c (bytes_got j c past)) → HasSeen key seen (bodies_in c (bytes_got j c (entry ∷ past)))
seen_stays key j c entry past seen same h = subst (λ bytes. HasSeen key seen (bodies_in c bytes)) (sym same) h
