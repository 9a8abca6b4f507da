-- How far acts have come, from place to place.
use Rattle.std.proofs.Common.{◌≡◌, ℕ, zero, suc, ◌+◌, ◌<◌, ◌≤◌, ◌++◌, Bool, true, false, List, [], ◌∷◌, length, take, drop, get_or, cond, nat_le, Option, None, Some, refl, sym, ap, subst, ◌∙◌, arith}
use Rattle.std.specs.Prelude.{ℤ}
use Rattle.std.proofs.lemmas.List.{drop_more, drop_all}
use Rattle.std.proofs.lemmas.Bool.{cond-true, cond-false, le-leb, leb-true, lt-leb}
use Rattle.jtext.specs.declared.json.Json.{Json}
use Rattle.world.specs.declared.chan.Chan.{Chan}
use Rattle.toy_core.specs.declared.act.Act.{Act}
use Rattle.toy_core.specs.declared.act.Act.TheVariants.{Send, Pause, End, Close}
use Rattle.toy_core.specs.Acts.{acts_by, begun_at, ending}

-- at a place stands this act
pub act_here : (acts : List Act) (i : ℕ) (a b : Act) → i < length acts → a ≡ get_or acts i a → a ≡ b → drop i acts ≡ b ∷ drop (i + 1) acts
act_here acts i a b h e k = drop_more acts i a h ∙ ap (λ x. x ∷ drop (i + 1) acts) (sym e ∙ k)

-- acts up to a place have happened, and the next begins at that moment
pub record Reaches (now since moment i : ℕ) (acts : List Act) : Type 0 where
  pub len : length (acts_by now since acts) ≡ i + length (acts_by now moment (drop i acts))
  pub moment_is : begun_at now since acts ≡ begun_at now moment (drop i acts)
  pub end : ending (acts_by now since acts) ≡ ending (acts_by now moment (drop i acts))

-- that many acts have happened, and the next begins at that moment
pub record Stops (now since moment i : ℕ) (acts : List Act) (end : Option ℤ) : Type 0 where
  pub len : length (acts_by now since acts) ≡ i
  pub moment_is : begun_at now since acts ≡ moment
  pub end_is : ending (acts_by now since acts) ≡ end

-- a pause that is over
pub reaches_pause : (now since moment over ms i : ℕ) (acts : List Act) → Reaches now since moment i acts → drop i acts ≡ Pause ms ∷ drop (i + 1) acts
    → over ≡ moment + ms → over ≤ now → Reaches now since over (i + 1) acts
reaches_pause now since moment over ms i acts r e o h =
    let rest = drop (i + 1) acts in
    let le : nat_le (moment + ms) now ≡ true = le-leb (moment + ms) now (omega arith) in
    let step : acts_by now moment (drop i acts) ≡ Pause ms ∷ acts_by now over rest =
    ap (acts_by now moment) e ∙ cond-true _ (Pause ms ∷ acts_by now (moment + ms) rest) [] le ∙ ap (λ m. Pause ms ∷ acts_by now m rest) (sym o) in
    record {
      len = let k : length (acts_by now moment (drop i acts)) ≡ length (Pause ms ∷ acts_by now over rest) = ap length step in omega (arith, k, r.len);
      moment_is = r.moment_is ∙ ap (begun_at now moment) e ∙ cond-true _ (begun_at now (moment + ms) rest) moment le ∙ ap (λ m. begun_at now m rest) (sym o);
      end = r.end ∙ ap ending step;
    }

-- an act without a pause
pub reaches_send : (now since moment i : ℕ) (acts : List Act) (c : Chan) (octets : List ℕ) → Reaches now since moment i acts
    → drop i acts ≡ Send c octets ∷ drop (i + 1) acts → Reaches now since moment (i + 1) acts
reaches_send now since moment i acts c octets r e =
    let rest = drop (i + 1) acts in
    let step : acts_by now moment (drop i acts) ≡ Send c octets ∷ acts_by now moment rest = ap (acts_by now moment) e in
    record {
      len = let k : length (acts_by now moment (drop i acts)) ≡ length (Send c octets ∷ acts_by now moment rest) = ap length step in omega (arith, k, r.len);
      moment_is = r.moment_is ∙ ap (begun_at now moment) e;
      end = r.end ∙ ap ending step;
    }

pub reaches_close : (now since moment i : ℕ) (acts : List Act) (parent : Json) (count : ℕ) → Reaches now since moment i acts
    → drop i acts ≡ Close parent count ∷ drop (i + 1) acts → Reaches now since moment (i + 1) acts
reaches_close now since moment i acts parent count r e =
    let rest = drop (i + 1) acts in
    let step : acts_by now moment (drop i acts) ≡ Close parent count ∷ acts_by now moment rest = ap (acts_by now moment) e in
    record {
      len = let k : length (acts_by now moment (drop i acts)) ≡ length (Close parent count ∷ acts_by now moment rest) = ap length step in omega (arith, k, r.len);
      moment_is = r.moment_is ∙ ap (begun_at now moment) e;
      end = r.end ∙ ap ending step;
    }

-- a pause that isn't over
pub stops_pause : (now since moment ms i : ℕ) (acts : List Act) → Reaches now since moment i acts → drop i acts ≡ Pause ms ∷ drop (i + 1) acts
    → now < moment + ms → Stops now since moment i acts None
stops_pause now since moment ms i acts r e h =
    let rest = drop (i + 1) acts in
    let gt : nat_le (moment + ms) now ≡ false = lt-leb (moment + ms) now h in
    let step : acts_by now moment (drop i acts) ≡ [] = ap (acts_by now moment) e ∙ cond-false _ (Pause ms ∷ acts_by now (moment + ms) rest) [] gt in
    record {
      len = let k : length (acts_by now moment (drop i acts)) ≡ 0 = ap length step in omega (arith, k, r.len);
      moment_is = r.moment_is ∙ ap (begun_at now moment) e ∙ cond-false _ (begun_at now (moment + ms) rest) moment gt;
      end_is = r.end ∙ ap ending step;
    }

-- the end
pub stops_end : (now since moment i : ℕ) (acts : List Act) (status : ℤ) → Reaches now since moment i acts → drop i acts ≡ End status ∷ drop (i + 1) acts
    → Stops now since moment (i + 1) acts (Some status)
stops_end now since moment i acts status r e =
    let step : acts_by now moment (drop i acts) ≡ End status ∷ [] = ap (acts_by now moment) e in
    record {
      len = let k : length (acts_by now moment (drop i acts)) ≡ 1 = ap length step in omega (arith, k, r.len);
      moment_is = r.moment_is ∙ ap (begun_at now moment) e;
      end_is = r.end ∙ ap ending step;
    }

-- all acts
pub stops_all : (now since moment i : ℕ) (acts : List Act) → Reaches now since moment i acts → length acts ≤ i → i ≤ length acts
    → Stops now since moment (length acts) acts None
stops_all now since moment i acts r h k =
    let e : drop i acts ≡ [] = drop_all i acts h in
    record {
      len = let j : length (acts_by now moment (drop i acts)) ≡ 0 = ap (λ x. length (acts_by now moment x)) e in omega (arith, j, r.len);
      moment_is = r.moment_is ∙ ap (begun_at now moment) e;
      end_is = r.end ∙ ap (λ x. ending (acts_by now moment x)) e;
    }

front_pause : (b : Bool) (ms : ℕ) (acts r : List Act) → take (length r) acts ≡ r
    → take (length (cond b (Pause ms ∷ r) [])) (Pause ms ∷ acts) ≡ cond b (Pause ms ∷ r) []
front_pause true ms acts r e = ap (λ x. Pause ms ∷ x) e
front_pause false ms acts r e = refl

-- what has happened stands at the front
pub reached_front : (now since : ℕ) (acts : List Act) → take (length (acts_by now since acts)) acts ≡ acts_by now since acts
reached_front now since [] = refl
reached_front now since (Send c octets ∷ acts) = ap (λ x. Send c octets ∷ x) (reached_front now since acts)
reached_front now since (Pause ms ∷ acts) = front_pause (nat_le (since + ms) now) ms acts _ (reached_front now (since + ms) acts)
reached_front now since (End status ∷ acts) = refl
reached_front now since (Close parent count ∷ acts) = ap (λ x. Close parent count ∷ x) (reached_front now since acts)

pub reached_then : (n : ℕ) (b : Bool) (acts : List Act) → suc n < length (cond b acts []) → b ≡ true
reached_then n true acts h = refl
reached_then n false acts h = absurd (omega (arith, h))

-- where the first acts, which were due, have happened, the others happen when they would have
pub passed : (n now since : ℕ) (acts : List Act) → n < length (acts_by now since acts) → (t : ℕ) → now ≤ t
    → acts_by t since acts ≡ take n acts ++ acts_by t (begun_at now since (take n acts)) (drop n acts)
passed zero now since acts h t le = refl
passed (suc n) now since [] h t le = absurd (omega (arith, h))
passed (suc n) now since (Send c octets ∷ acts) h t le = ap (λ x. Send c octets ∷ x) (passed n now since acts (omega (arith, h)) t le)
passed (suc n) now since (Pause ms ∷ acts) h t le =
    let over : nat_le (since + ms) now ≡ true = reached_then n (nat_le (since + ms) now) (Pause ms ∷ acts_by now (since + ms) acts) h in
    let later : nat_le (since + ms) t ≡ true = let k : since + ms ≤ now = leb-true (since + ms) now over in le-leb (since + ms) t (omega (arith, k, le)) in
    let more : n < length (acts_by now (since + ms) acts) = let k : suc n < length (Pause ms ∷ acts_by now (since + ms) acts) = subst (λ (b : Bool). suc n < length (cond b (Pause ms ∷ acts_by now (since + ms) acts) [])) over h in omega (arith, k) in
    cond-true _ (Pause ms ∷ acts_by t (since + ms) acts) [] later
    ∙ ap (λ x. Pause ms ∷ x) (passed n now (since + ms) acts more t le)
    ∙ ap (λ m. Pause ms ∷ (take n acts ++ acts_by t m (drop n acts))) (sym (cond-true _ (begun_at now (since + ms) (take n acts)) since over))
passed (suc n) now since (End status ∷ acts) h t le = absurd (omega (arith, h))
passed (suc n) now since (Close parent count ∷ acts) h t le = ap (λ x. Close parent count ∷ x) (passed n now since acts (omega (arith, h)) t le)

short_pause : (b : Bool) (ms : ℕ) (acts r : List Act) → length r ≤ length acts → length (cond b (Pause ms ∷ r) []) ≤ length (Pause ms ∷ acts)
short_pause true ms acts r h = omega (arith, h)
short_pause false ms acts r h = omega arith

-- no more acts have happened than there are
pub reached_short : (now since : ℕ) (acts : List Act) → length (acts_by now since acts) ≤ length acts
reached_short now since [] = omega arith
reached_short now since (Send c octets ∷ acts) = let k = reached_short now since acts in omega (arith, k)
reached_short now since (Pause ms ∷ acts) = short_pause (nat_le (since + ms) now) ms acts (acts_by now (since + ms) acts) (reached_short now (since + ms) acts)
reached_short now since (End status ∷ acts) = omega arith
reached_short now since (Close parent count ∷ acts) = let k = reached_short now since acts in omega (arith, k)
