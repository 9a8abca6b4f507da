-- Jupyter's reading of bytes has what the definitions need, and what arrives is what the bytes hold.
use Rattle.std.proofs.Common.{◌≡◌, ℕ, List, [], ◌∷◌, ◌++◌, length, map, drop, true, false, Option, Some, None, refl, sym, ◌∙◌, ap, subst, append_assoc}
use Rattle.std.specs.Prelude.{option_map, option_to_list}
use Rattle.std.proofs.Math.Seq.{drop-append_seam}
use Rattle.std.proofs.lemmas.List.{map-append}
use Rattle.std.proofs.lemmas.List.Sums.{fold-append}
use Rattle.std.proofs.lemmas.Grind.{flat_map-append}
use Rattle.std.proofs.lemmas.Bool.{cond_both}
use Rattle.world.specs.declared.chan.Chan.{Chan}
use Rattle.world.specs.declared.chan.Chan.TheVariants as chan
use Rattle.world.specs.declared.entry.Entry.{Entry}
use Rattle.zmtp_wire.specs.declared.role.Role.{Role}
use Rattle.zmtp_wire.specs.Stream.{Message}
use Rattle.zmtp_wire.specs.Meaning.{Begins, Place, messages_in, is_shaken, fault_in}
use Rattle.zmtp_peer.specs.Envelope.{body_in, bodies_of}
use Rattle.zmtp_peer.specs.Reply.{owed_octets}
use Rattle.jsign.specs.History.{is_among, recent, signatures_of, with_item, fresh_items}
use Rattle.std.specs.List.{fold}
use Rattle.run_journal.specs.Codec.{Arrival}
use Rattle.run_journal.specs.Job.{Job}
use Rattle.run_journal.specs.Parts.{bytes_got}
use Rattle.run_journal.specs.Arrivals.{heard, arrive}
use Rattle.run_journal.specs.Decoding.{IsDecoding}
use Rattle.kernel_lines.specs.Lines.{role_on}
use Rattle.run_journal.specs.Jupyter.{Speaker, bodies_in, signed_item, signed_items, echo, messages_on, numbered_place, jupyter_codec}
use Rattle.run_journal.proofs.Growth.{begins_self, begins_then}

-- ---- lists that begin others

bodies_append : (r : Role) (xs ys : List Message) → bodies_of r (xs ++ ys) ≡ bodies_of r xs ++ bodies_of r ys
bodies_append r [] ys = refl
bodies_append r (x ∷ xs) ys = ap (λ v. body_in r x ++ v) (bodies_append r xs ys) ∙ sym (append_assoc (body_in r x) (bodies_of r xs) (bodies_of r ys))

-- what goes over the ends of lists keeps their fronts
begins_map : {X Y : Type 0} (f : List X → List Y) → ((xs ys : List X) → Begins (f xs) (f (xs ++ ys))) → {xs ys : List X} → Begins xs ys → Begins (f xs) (f ys)
begins_map f grows {xs} b = subst (λ v. Begins (f xs) (f v)) (sym b.joined) (grows xs b.rest)

kept_grows : {A : Type 0} (kept : List (List ℕ × A)) (item : List ℕ × A) → Begins kept (with_item kept item)
kept_grows kept item = cond_both (is_among item.0 (recent (signatures_of kept))) kept (kept ++ item ∷ []) (λ v. Begins kept v) (λ e. begins_self kept) (λ e. record { rest = item ∷ []; joined = refl })

fold_grows : {A : Type 0} (kept items : List (List ℕ × A)) → Begins kept (fold with_item kept items)
fold_grows kept [] = begins_self kept
fold_grows kept (item ∷ items) = begins_then (kept_grows kept item) (fold_grows (with_item kept item) items)

fresh_grow : {A : Type 0} (xs ys : List (List ℕ × A)) → Begins (fresh_items xs) (fresh_items (xs ++ ys))
unfolding fresh_items
fresh_grow xs ys = subst (λ v. Begins (fold with_item [] xs) v) (sym (fold-append with_item [] xs ys)) (fold_grows (fold with_item [] xs) ys)

mapped_grow : {X Y : Type 0} (f : X → Y) (xs ys : List X) → Begins (map f xs) (map f (xs ++ ys))
mapped_grow f xs ys = record { rest = map f ys; joined = map-append f xs ys }

signed_grow : (key : List ℕ) (xs ys : List (List (List ℕ))) → Begins (signed_items key xs) (signed_items key (xs ++ ys))
signed_grow key xs ys = record {
  rest = signed_items key ys;
  joined = flat_map-append (λ parts. option_to_list (signed_item key parts)) xs ys;
}

-- ---- the laws of the wire, handed in

-- with more octets the messages and what is owed go on, and READY and a fault stay; of none there is nothing
pub record WireLaws : Type 0 where
  pub messages : (r : Role) (b more : List ℕ) → Begins (messages_in r b) (messages_in r (b ++ more))
  pub shaken : (r : Role) (b more : List ℕ) → is_shaken r b ≡ true → is_shaken r (b ++ more) ≡ true
  pub fault : (r : Role) (b more : List ℕ) (e : _) (at : ℕ) → fault_in r b ≡ Some (e, at) → fault_in r (b ++ more) ≡ Some (e, at)
  pub owed : (r : Role) (b more : List ℕ) → Begins (owed_octets r b) (owed_octets r (b ++ more))
  pub no_messages : (r : Role) → messages_in r [] ≡ []
  pub not_shaken : (r : Role) → is_shaken r [] ≡ false
  pub no_fault : (r : Role) → fault_in r [] ≡ None
  pub nothing_owed : (r : Role) → owed_octets r [] ≡ []

module _ (w : WireLaws) where
  bodies_grow : (c : Chan) (b more : List ℕ) → Begins (bodies_in c b) (bodies_in c (b ++ more))
  bodies_grow c b more =
      begins_map (bodies_of (role_on c)) (λ xs ys. record { rest = bodies_of (role_on c) ys; joined = bodies_append (role_on c) xs ys }) (w.messages (role_on c) b more)

  signed_messages_grow : (key : List ℕ) (c : Chan) (b more : List ℕ)
      → Begins (map {B = Arrival} (λ item. item.1) (fresh_items (signed_items key (bodies_in c b)))) (map (λ item. item.1) (fresh_items (signed_items key (bodies_in c (b ++ more)))))
  signed_messages_grow key c b more =
      begins_map (map (λ item. item.1)) (mapped_grow (λ item. item.1))
      (begins_map fresh_items fresh_grow (begins_map (signed_items key) (signed_grow key) (bodies_grow c b more)))

  messages_on_grow : (key : List ℕ) (c : Chan) (b more : List ℕ) → Begins (messages_on key c b) (messages_on key c (b ++ more))
  messages_on_grow key chan.Shell b more = signed_messages_grow key chan.Shell b more
  messages_on_grow key chan.Control b more = signed_messages_grow key chan.Control b more
  messages_on_grow key chan.Iopub b more = signed_messages_grow key chan.Iopub b more
  messages_on_grow key chan.Heart b more = begins_map (map (λ body. echo)) (mapped_grow (λ body. echo)) (bodies_grow chan.Heart b more)

  none_signed : (key : List ℕ) (c : Chan) → map {B = Arrival} (λ item. item.1) (fresh_items (signed_items key (bodies_in c []))) ≡ []
  unfolding fresh_items
  none_signed key c = ap (λ ms. map {B = Arrival} (λ item. item.1) (fresh_items (signed_items key (bodies_of (role_on c) ms)))) (w.no_messages (role_on c))

  messages_on_none : (key : List ℕ) (c : Chan) → messages_on key c [] ≡ []
  messages_on_none key chan.Shell = none_signed key chan.Shell
  messages_on_none key chan.Control = none_signed key chan.Control
  messages_on_none key chan.Iopub = none_signed key chan.Iopub
  messages_on_none key chan.Heart = ap (λ ms. map (λ body. echo) (bodies_of (role_on chan.Heart) ms)) (w.no_messages (role_on chan.Heart))

  mapped_stays : (o new : Option Place) → ((p : Place) → o ≡ Some p → new ≡ Some p) → (fault : ℕ × ℕ) → option_map numbered_place o ≡ Some fault → option_map numbered_place new ≡ Some fault
  mapped_stays None new h fault e = cc
  mapped_stays (Some p) new h fault e = ap (option_map numbered_place) (h p refl) ∙ e

  -- Jupyter's reading has what the definitions need
  pub jupyter_decodes : (s : Speaker) → IsDecoding (jupyter_codec s)
  jupyter_decodes s = record {
    no_messages = messages_on_none s.key;
    not_shaken = λ c. w.not_shaken (role_on c);
    no_fault = λ c. ap (option_map numbered_place) (w.no_fault (role_on c));
    no_debt = λ c. w.nothing_owed (role_on c);
    messages_grow = messages_on_grow s.key;
    owed_grows = λ c bytes more. w.owed (role_on c) bytes more;
    stays_shaken = λ c bytes more. w.shaken (role_on c) bytes more;
    fault_stays = λ c bytes more. mapped_stays (fault_in (role_on c) bytes) (fault_in (role_on c) (bytes ++ more)) (λ p. w.fault (role_on c) bytes more p.0 p.1);
  }

-- ---- what arrives

seam : (xs ys : List Arrival) → Begins xs ys → ys ≡ xs ++ drop (length xs) ys
seam xs ys b = b.joined ∙ ap (λ zs. xs ++ zs) (sym (drop-append_seam xs b.rest) ∙ ap (drop (length xs)) (sym b.joined))

-- where bytes were added, what was heard is what was heard before and what arrived
pub heard_more : (j : Job) → IsDecoding j.codec → (c : Chan) (entry : Entry) (past : List Entry) (more : List ℕ) → bytes_got j c (entry ∷ past) ≡ bytes_got j c past ++ more
    → heard j c (entry ∷ past) ≡ heard j c past ++ arrive j c entry past
unfolding arrive
heard_more j d c entry past more e =
    seam (heard j c past) (heard j c (entry ∷ past))
    (subst (λ bytes. Begins (heard j c past) (j.codec.messages c bytes)) (sym e) (d.messages_grow c (bytes_got j c past) more))
