-- What is read of a content, by the values under its keys.
use Rattle.std.proofs.Common.{◌≡◌, ℕ, ◌<◌, ◌≤◌, Bool, true, false, List, [], map, Option, Some, None, refl, ap, subst, arith, codes}
use Rattle.std.specs.Prelude.{option_and_then, is_some, if◌then◌else◌}
use Rattle.std.specs.List.{All}
use Rattle.std.specs.Option.{IfSome}
use Rattle.std.specs.Str.{IsUtf8, bytes_eq}
use Rattle.std.proofs.lemmas.List.Elements.{All-from_recursion}
use Rattle.std.proofs.lemmas.Str.{IsUtf8-nil}
use Rattle.jtext.specs.declared.json.Json.{Json}
use Rattle.jtext.specs.declared.json.Json.TheVariants as json
use Rattle.jtext.specs.Bundle.{is_bundle}
use Rattle.jtext.specs.Depth.{depth}
use Rattle.jtext.specs.Find.{field, fields}
use Rattle.jtext.specs.Keyed as keyed
use Rattle.jtext.specs.Keyed.{Keyed}
use Rattle.jtext.specs.Look.{is_object, is_object_layer, is_strings, items, text_of, string, string_at, is_whole_text, number_at, is_true_at}
use Rattle.jtext.specs.Sound as sound
use Rattle.jtext.specs.Sound.{Sound}
use Rattle.jtext.proofs.Depths.{depth-Obj}
use Rattle.jtext.proofs.Trees.{object_is, open_Obj}
use Rattle.jcontent.specs.declared.content.Content.{Content}
use Rattle.jcontent.specs.declared.content.Content.TheVariants as content
use Rattle.jcontent.specs.declared.reply.ReplyIs.TheVariants as reply
use Rattle.jcontent.specs.declared.shown.Shown.{Shown}
use Rattle.jcontent.specs.Bundle.{pairs, bundle, bundle_at}
use Rattle.jcontent.specs.Contents.{status, status_of, stream, stream_of, object, object_or_empty, metadata, display_id_in, display_id, shown_of, shown_data, display, display_of, update, update_of, outcome, outcome_of, error, error_of, named_by, error_reply, raised_by, reply_of, execute_reply, output, content_of}
use Rattle.jcontent.specs.IsRead.{IsInner, IsShown, IsCount, IsRead}
use Rattle.jcontent.specs.Texts.{texts, texts_at, whole_number, count}
use Rattle.jcontent.proofs.ReadTrees.{string_utf8, items_utf8, inner_field}

-- ---- parts

chained : {A B : Type 0} (P : A → Type 0) (Q : B → Type 0) (f : A → Option B) → ((a : A) → P a → IfSome (f a) Q) → (o : Option A) → IfSome o P → IfSome (option_and_then f o) Q
chained P Q f step None h = tt
chained P Q f step (Some a) h = step a h

guarded : {A : Type 0} (P : A → Type 0) (b : Bool) (o : Option A) → (b ≡ true → IfSome o P) → IfSome (if b then o else None) P
guarded P true o h = h refl
guarded P false o h = tt

chosen : (b : Bool) (x y : Content) → (b ≡ true → IsRead x) → IsRead y → IsRead (if b then x else y)
chosen true x y h other = h refl
chosen false x y h other = other

-- ---- one content nested at most 100 deep

record IsWhole (t : Json) : Type 0 where
  keyed : Keyed t
  sound : Sound t
  within : depth t ≤ 100

as_whole : (v : Json) → IsInner v → IsWhole v
as_whole v h = record { keyed = h.keyed; sound = h.sound; within = less (depth v) h.within }
  where
    less : (n : ℕ) → n < 100 → n ≤ 100
    less n lt = omega (arith, lt)

at : (key : List ℕ) (t : Json) → IsWhole t → IfSome (field t key) IsInner
at key t h = inner_field key t h.keyed h.sound h.within

string_at_utf8 : (key : List ℕ) (t : Json) → IsWhole t → IfSome (string_at t key) IsUtf8
string_at_utf8 key t h = chained IsInner IsUtf8 string (λ v inner. string_utf8 v inner.sound) (field t key) (at key t h)

texts_utf8 : (v : Json) → IsInner v → IfSome (texts v) (λ ls. All IsUtf8 ls)
texts_utf8 v h =
    guarded (λ ls. All IsUtf8 ls) (is_strings v) (Some (map text_of (items v)))
    (λ e. All-from_recursion IsUtf8 (map text_of (items v)) (items_utf8 v h.sound))

texts_at_utf8 : (key : List ℕ) (t : Json) → IsWhole t → IfSome (texts_at t key) (λ ls. All IsUtf8 ls)
texts_at_utf8 key t h = chained IsInner (λ ls. All IsUtf8 ls) texts texts_utf8 (field t key) (at key t h)

-- ---- counts

whole_count : (o : Option (List ℕ)) → IsCount (whole_number o)
whole_count None = refl
whole_count (Some s) = kept (is_whole_text s) refl
  where
    kept : (b : Bool) → is_whole_text s ≡ b → IsCount (if b then Some s else None)
    kept true e = e
    kept false e = refl

-- ---- what is shown

-- data by media type
abbrev IsData : List (List ℕ × Json) → Type 0
IsData ps = (is_bundle (json.Obj ps) ≡ true) × IsInner (json.Obj ps)

-- an object
abbrev IsAbout : Json → Type 0
IsAbout m = (is_object m ≡ true) × IsInner m

pairs_are_data : (v : Json) → IsInner v → is_bundle v ≡ true → IfSome (pairs v) IsData
pairs_are_data v h is =
    guarded IsData (is_object v) (Some (fields v))
    (λ e. subst (λ u. (is_bundle u ≡ true) × IsInner u) (object_is v e) (is, h))

bundle_is_data : (v : Json) → IsInner v → IfSome (bundle v) IsData
bundle_is_data v h = guarded IsData (is_bundle v) (pairs v) (pairs_are_data v h)

bundle_at_is_data : (t : Json) → IsWhole t → IfSome (bundle_at t) IsData
bundle_at_is_data t h = chained IsInner IsData bundle bundle_is_data (field t (codes "data")) (at (codes "data") t h)

object_is_about : (v : Json) → IsInner v → IfSome (object v) IsAbout
object_is_about v h = guarded IsAbout (is_object v) (Some v) (λ e. (e, h))

empty_is_object : is_object (json.Obj []) ≡ true
empty_is_object = ap is_object_layer (open_Obj [])

empty_is_inner : IsInner (json.Obj [])
empty_is_inner =
    let e = depth-Obj [] in
    let less : depth (json.Obj []) < 100 = omega (arith, e) in
    record { keyed = keyed.object [] keyed.no_pairs tt; sound = sound.object [] sound.no_pairs; within = less }

about : (o : Option Json) → IfSome o IsInner → IfSome (object_or_empty o) IsAbout
about None h = (empty_is_object, empty_is_inner)
about (Some v) h = object_is_about v h

metadata_is_about : (t : Json) → IsWhole t → IfSome (metadata t) IsAbout
metadata_is_about t h = about (field t (codes "metadata")) (at (codes "metadata") t h)

id_utf8 : (o : Option Json) → IfSome o IsInner → IfSome (display_id_in o) IsUtf8
id_utf8 None h = tt
id_utf8 (Some v) h = string_at_utf8 (codes "display_id") v (as_whole v h)

display_id_utf8 : (t : Json) → IsWhole t → IfSome (display_id t) IsUtf8
display_id_utf8 t h = id_utf8 (field t (codes "transient")) (at (codes "transient") t h)

shown_by : (ps : Option (List (List ℕ × Json))) (m : Option Json) (id : Option (List ℕ))
    → IfSome ps IsData → IfSome m IsAbout → IfSome id IsUtf8 → IfSome (shown_of ps m id) IsShown
shown_by None m id a b c = tt
shown_by (Some ps) None id a b c = tt
shown_by (Some ps) (Some m) id a b c =
    record { bundle = a.0; values = a.1; object = b.0; metadata = b.1; id = c }

shown_is : (t : Json) → IsWhole t → IfSome (shown_data t) IsShown
shown_is t h = shown_by (bundle_at t) (metadata t) (display_id t) (bundle_at_is_data t h) (metadata_is_about t h) (display_id_utf8 t h)

-- ---- contents by their types

status_read : (o : Option (List ℕ)) → IsRead (status_of o)
status_read None = tt
status_read (Some name) = tt

stream_read : (name text : Option (List ℕ)) → IfSome name IsUtf8 → IfSome text IsUtf8 → IsRead (stream_of name text)
stream_read None text a b = tt
stream_read (Some name) None a b = tt
stream_read (Some name) (Some text) a b = (a, b)

display_read : (o : Option Shown) → IfSome o IsShown → IsRead (display_of o)
display_read None h = tt
display_read (Some s) h = h

update_read : (o : Option Shown) → IfSome o IsShown → IsRead (update_of o)
update_read None h = tt
update_read (Some s) h = chosen (is_some s.id) (content.Update s) content.Other (λ e. (h, e)) tt

outcome_read : (o : Option Shown) (n : Option (List ℕ)) → IfSome o IsShown → IsCount n → IsRead (outcome_of o n)
outcome_read None n h c = tt
outcome_read (Some s) n h c = (h, c)

error_read : (ename evalue : Option (List ℕ)) (traceback : Option (List (List ℕ)))
    → IfSome ename IsUtf8 → IfSome evalue IsUtf8 → IfSome traceback (λ ls. All IsUtf8 ls) → IsRead (error_of ename evalue traceback)
error_read None evalue traceback a b c = tt
error_read (Some ename) None traceback a b c = tt
error_read (Some ename) (Some evalue) None a b c = tt
error_read (Some ename) (Some evalue) (Some traceback) a b c = (a, b, c)

named_read : (o : Option (List ℕ)) → IfSome o IsUtf8 → IsRead (named_by o)
named_read None h = tt
named_read (Some ename) h = h

raised_read : (o : Option Json) → IfSome o IsInner → IsRead (raised_by o)
raised_read None h = IsUtf8-nil
raised_read (Some v) h = named_read (string v) (string_utf8 v h.sound)

reply_read : (t : Json) → IsWhole t → (o : Option (List ℕ)) → IsRead (reply_of t o)
reply_read t h None = tt
reply_read t h (Some status) =
    chosen (bytes_eq status (codes "error")) (error_reply t) (content.ExecReply reply.Fine)
    (λ e. raised_read (field t (codes "ename")) (at (codes "ename") t h)) tt

output_read : (kind : List ℕ) (t : Json) → IsWhole t → IsRead (output kind t)
output_read kind t h =
    chosen (bytes_eq kind (codes "stream")) (stream t) (if bytes_eq kind (codes "display_data") then display t else if bytes_eq kind (codes "update_display_data") then update t else if bytes_eq kind (codes "execute_result") then outcome t else if bytes_eq kind (codes "error") then error t else content.Other)
    (λ e. stream_read (string_at t (codes "name")) (string_at t (codes "text")) (string_at_utf8 (codes "name") t h) (string_at_utf8 (codes "text") t h))
    (chosen (bytes_eq kind (codes "display_data")) (display t) (if bytes_eq kind (codes "update_display_data") then update t else if bytes_eq kind (codes "execute_result") then outcome t else if bytes_eq kind (codes "error") then error t else content.Other)
    (λ e. display_read (shown_data t) (shown_is t h))
    (chosen (bytes_eq kind (codes "update_display_data")) (update t) (if bytes_eq kind (codes "execute_result") then outcome t else if bytes_eq kind (codes "error") then error t else content.Other)
    (λ e. update_read (shown_data t) (shown_is t h))
    (chosen (bytes_eq kind (codes "execute_result")) (outcome t) (if bytes_eq kind (codes "error") then error t else content.Other)
    (λ e. outcome_read (shown_data t) (count t) (shown_is t h) (whole_count (number_at t (codes "execution_count"))))
    (chosen (bytes_eq kind (codes "error")) (error t) content.Other
    (λ e. error_read (string_at t (codes "ename")) (string_at t (codes "evalue")) (texts_at t (codes "traceback")) (string_at_utf8 (codes "ename") t h) (string_at_utf8 (codes "evalue") t h) (texts_at_utf8 (codes "traceback") t h))
    tt))))

whole_read : (kind : List ℕ) (t : Json) → IsWhole t → IsRead (content_of kind t)
whole_read kind t h =
    chosen (bytes_eq kind (codes "status")) (status t) (if bytes_eq kind (codes "execute_input") then content.Input (count t) else if bytes_eq kind (codes "clear_output") then content.Clear (is_true_at t (codes "wait")) else if bytes_eq kind (codes "execute_reply") then execute_reply t else if bytes_eq kind (codes "kernel_info_reply") then content.InfoReply else output kind t)
    (λ e. status_read (string_at t (codes "execution_state")))
    (chosen (bytes_eq kind (codes "execute_input")) (content.Input (count t)) (if bytes_eq kind (codes "clear_output") then content.Clear (is_true_at t (codes "wait")) else if bytes_eq kind (codes "execute_reply") then execute_reply t else if bytes_eq kind (codes "kernel_info_reply") then content.InfoReply else output kind t)
    (λ e. whole_count (number_at t (codes "execution_count")))
    (chosen (bytes_eq kind (codes "clear_output")) (content.Clear (is_true_at t (codes "wait"))) (if bytes_eq kind (codes "execute_reply") then execute_reply t else if bytes_eq kind (codes "kernel_info_reply") then content.InfoReply else output kind t)
    (λ e. tt)
    (chosen (bytes_eq kind (codes "execute_reply")) (execute_reply t) (if bytes_eq kind (codes "kernel_info_reply") then content.InfoReply else output kind t)
    (λ e. reply_read t h (string_at t (codes "status")))
    (chosen (bytes_eq kind (codes "kernel_info_reply")) content.InfoReply (output kind t)
    (λ e. tt)
    (output_read kind t h)))))

pub content_read : (kind : List ℕ) (t : Json) → Keyed t → Sound t → depth t ≤ 100 → IsRead (content_of kind t)
content_read kind t k s w = whole_read kind t (record { keyed = k; sound = s; within = w })
