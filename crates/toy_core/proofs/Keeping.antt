-- What was due stays due: octets that are sent, acts that happen, and calls one after another.
use Rattle.std.proofs.Common.{◌≡◌, ℕ, ◌+◌, ◌-◌, ◌<◌, ◌≤◌, min, Bool, true, false, cond, List, [], ◌++◌, length, take, drop, get_or, refl, sym, ap, subst, ◌∙◌, append_assoc, arith}
use Rattle.std.specs.Io.{StartsWith}
use Rattle.std.proofs.lemmas.List.{append-nil, take_at, length-take, take-append-le, take-append-drop}
use Rattle.world.specs.declared.chan.Chan.{Chan}
use Rattle.world.specs.declared.chan.Chan.TheVariants as chan
use Rattle.toy_core.specs.declared.act.Act.{Act}
use Rattle.toy_core.specs.declared.lane.Lane.{Lane}
use Rattle.toy_core.specs.declared.lanes.Lanes.{Lanes}
use Rattle.toy_core.specs.declared.outbox.Outbox.{Outbox}
use Rattle.toy_core.specs.Acts.{octets_of, octets_on}
use Rattle.toy_core.specs.Outboxes.{front, ready, rest_due, trim_box, with_octets, post_octets}
use Rattle.toy_core.specs.Toy.{lane}
use Rattle.toy_core.specs.Dues.{Sends, SendsAll, Keeps}
use Rattle.toy_core.proofs.Pourings.{drop-both, octets_more}
use Rattle.toy_core.proofs.Trimming.{trimmed_left}

-- ---- fronts

pub front_self : (xs ys : List ℕ) → StartsWith (xs ++ ys) xs
front_self xs ys = take_at xs ys (length xs) refl

short_front : (xs ys : List ℕ) → StartsWith ys xs → length xs ≤ length ys
short_front xs ys e = let k : min (length xs) (length ys) ≡ length xs = sym (length-take (length xs) ys) ∙ ap length e in omega (arith, k)

pub front_then : (xs ys zs : List ℕ) → StartsWith ys xs → StartsWith zs ys → StartsWith zs xs
front_then xs ys zs e k =
    let short : length xs ≤ length ys = short_front xs ys e in
    ap (take (length xs)) (sym (take-append-drop (length ys) zs))
    ∙ ap (λ x. take (length xs) (x ++ drop (length ys) zs)) k
    ∙ take-append-le (length xs) ys (drop (length ys) zs) short ∙ e

-- ---- what is left of a box

-- what is left stands before what comes
pub left_front : (box : Outbox) (xs ys : List ℕ) → StartsWith (rest_due box (xs ++ ys)) (rest_due box xs)
left_front box xs ys =
    let e : rest_due box (xs ++ ys) ≡ rest_due box xs ++ drop (box.given - length (ready box ++ xs)) ys =
    ap (drop box.given) (sym (append_assoc (ready box) xs ys)) ∙ drop-both box.given (ready box ++ xs) ys in
    ap (take (length (rest_due box xs))) e ∙ front_self (rest_due box xs) (drop (box.given - length (ready box ++ xs)) ys)

with_left : (octets coming : List ℕ) (box : Outbox) → rest_due (with_octets octets box) coming ≡ rest_due box (octets ++ coming)
with_left octets coming box =
    ap (λ x. drop box.given (x ++ coming)) (sym (append_assoc (front box) box.octets octets))
    ∙ ap (drop box.given) (append_assoc (ready box) octets coming)

posted_left : (octets coming : List ℕ) (box : Outbox) → rest_due (post_octets octets box) coming ≡ rest_due box (octets ++ coming)
posted_left octets coming box = with_left octets coming (trim_box box) ∙ trimmed_left box (octets ++ coming)

-- ---- octets that are sent on a connection

nothing_heard : (b : Bool) (ys : List ℕ) → cond b [] [] ++ ys ≡ ys
nothing_heard true ys = refl
nothing_heard false ys = refl

both_heard : (a b : Bool) (xs ys zs : List ℕ) → b ≡ a → cond a xs [] ++ (cond b ys [] ++ zs) ≡ cond a (xs ++ ys) [] ++ zs
both_heard true true xs ys zs e = sym (append_assoc xs ys zs)
both_heard false false xs ys zs e = refl
both_heard true false xs ys zs e = absurd (cc)
both_heard false true xs ys zs e = absurd (cc)

heard_so : (b : Bool) (xs ys : List ℕ) → b ≡ true → xs ++ ys ≡ cond b xs [] ++ ys
heard_so true xs ys e = refl
heard_so false xs ys e = absurd (cc)

unheard_so : (b : Bool) (xs ys : List ℕ) → b ≡ false → ys ≡ cond b xs [] ++ ys
unheard_so false xs ys e = refl
unheard_so true xs ys e = absurd (cc)

pub sends_none : (l : Lane) → Sends [] l l
sends_none l = record { hears = refl; left = λ coming. ap (rest_due l.outbox) (sym (nothing_heard l.hears coming)) }

pub sends_unheard : (octets : List ℕ) (l : Lane) → l.hears ≡ false → Sends octets l l
sends_unheard octets l e = record { hears = refl; left = λ coming. ap (rest_due l.outbox) (unheard_so l.hears octets coming e) }

pub sends_posted : (octets : List ℕ) (old new : Lane) → old.hears ≡ true → new.hears ≡ old.hears → new.outbox ≡ post_octets octets old.outbox
    → Sends octets old new
sends_posted octets old new h e k = record {
  hears = e;
  left = λ coming.
      ap (λ b. rest_due b coming) k ∙ posted_left octets coming old.outbox
      ∙ ap (rest_due old.outbox) (heard_so old.hears octets coming h);
}

pub sends_trimmed : (old new : Lane) → new.hears ≡ old.hears → new.outbox ≡ trim_box old.outbox → Sends [] old new
sends_trimmed old new e k = record {
  hears = e;
  left = λ coming.
      ap (λ b. rest_due b coming) k ∙ trimmed_left old.outbox coming
      ∙ ap (rest_due old.outbox) (sym (nothing_heard old.hears coming));
}

pub sends_then : (xs ys : List ℕ) (a b c : Lane) → Sends xs a b → Sends ys b c → Sends (xs ++ ys) a c
sends_then xs ys a b c s t = record {
  hears = t.hears ∙ s.hears;
  left = λ coming.
      t.left coming ∙ s.left (cond b.hears ys [] ++ coming)
      ∙ ap (rest_due a.outbox) (both_heard a.hears b.hears xs ys coming s.hears);
}

-- ---- octets that are sent on the four connections

-- connection by connection
by_chan : (octets : Chan → List ℕ) (x y : Lanes) → Sends (octets chan.Shell) x.shell y.shell → Sends (octets chan.Control) x.control y.control
    → Sends (octets chan.Iopub) x.iopub y.iopub → Sends (octets chan.Heart) x.heart y.heart → (c : Chan) → Sends (octets c) (lane c x) (lane c y)
by_chan octets x y s t u v chan.Shell = s
by_chan octets x y s t u v chan.Control = t
by_chan octets x y s t u v chan.Iopub = u
by_chan octets x y s t u v chan.Heart = v

pub sends_all : (octets : Chan → List ℕ) (x y : Lanes) → Sends (octets chan.Shell) x.shell y.shell → Sends (octets chan.Control) x.control y.control
    → Sends (octets chan.Iopub) x.iopub y.iopub → Sends (octets chan.Heart) x.heart y.heart → SendsAll octets x y
sends_all octets x y s t u v = record { on = by_chan octets x y s t u v }

pub sends_all_none : (ls : Lanes) → SendsAll (λ c. []) ls ls
sends_all_none ls = record { on = λ c. sends_none (lane c ls) }

-- one act more
pub sends_more : (acts : List Act) (i : ℕ) (a : Act) (x y z : Lanes) → i < length acts → a ≡ get_or acts i a
    → SendsAll (λ c. octets_on c (take i acts)) x y → SendsAll (λ c. octets_of c a) y z → SendsAll (λ c. octets_on c (take (i + 1) acts)) x z
sends_more acts i a x y z h e s t = record {
  on = λ c.
      subst (λ (octets : List ℕ). Sends octets (lane c x) (lane c z)) (octets_more c acts i a [] h e)
      (sends_then (octets_on c (take i acts)) (octets_of c a) (lane c x) (lane c y) (lane c z) (s.on c) (t.on c));
}

-- no act more
pub sends_no_more : (acts : List Act) (x y z : Lanes) → SendsAll (λ c. octets_on c acts) x y → SendsAll (λ c. []) y z
    → SendsAll (λ c. octets_on c acts) x z
sends_no_more acts x y z s t = record {
  on = λ c.
      subst (λ (octets : List ℕ). Sends octets (lane c x) (lane c z)) (append-nil (octets_on c acts))
      (sends_then (octets_on c acts) [] (lane c x) (lane c y) (lane c z) (s.on c) (t.on c));
}

-- ---- what was due stays due

pub keeps_self : (ls : Lanes) → Keeps ls ls
keeps_self ls = record { left = λ c coming. left_front (lane c ls).outbox [] coming }

pub keeps_then : (x y z : Lanes) → Keeps x y → Keeps y z → Keeps x z
keeps_then x y z k l = record {
  left = λ c coming.
      front_then (rest_due (lane c x).outbox []) (rest_due (lane c y).outbox []) (rest_due (lane c z).outbox coming) (k.left c []) (l.left c coming);
}

pub keeps_sent : (octets : Chan → List ℕ) (x y : Lanes) → SendsAll octets x y → Keeps x y
keeps_sent octets x y s = record {
  left = λ c coming.
      subst (λ (xs : List ℕ). StartsWith xs (rest_due (lane c x).outbox [])) (sym ((s.on c).left coming))
      (left_front (lane c x).outbox [] (cond (lane c x).hears (octets c) [] ++ coming));
}

boxes_by_chan : (x y : Lanes) → y.shell.outbox ≡ x.shell.outbox → y.control.outbox ≡ x.control.outbox → y.iopub.outbox ≡ x.iopub.outbox
    → y.heart.outbox ≡ x.heart.outbox → (c : Chan) → (lane c y).outbox ≡ (lane c x).outbox
boxes_by_chan x y s t u v chan.Shell = s
boxes_by_chan x y s t u v chan.Control = t
boxes_by_chan x y s t u v chan.Iopub = u
boxes_by_chan x y s t u v chan.Heart = v

-- where all boxes are as they were
pub keeps_boxes : (x y : Lanes) → y.shell.outbox ≡ x.shell.outbox → y.control.outbox ≡ x.control.outbox → y.iopub.outbox ≡ x.iopub.outbox
    → y.heart.outbox ≡ x.heart.outbox → Keeps x y
keeps_boxes x y s t u v = record {
  left = λ c coming.
      subst (λ (b : Outbox). StartsWith (rest_due b coming) (rest_due (lane c x).outbox [])) (sym (boxes_by_chan x y s t u v c))
      (left_front (lane c x).outbox [] coming);
}
