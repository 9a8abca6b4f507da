-- What an entry makes of the bytes got on a connection.
use Rattle.std.proofs.Common.{◌≡◌, ◌⊎◌, inl, inr, ℕ, List, [], ◌∷◌, ◌++◌, Bool, true, false, cond, refl, ◌∙◌, ap, arith}
use Rattle.std.specs.Prelude.{◌==◌}
use Rattle.std.proofs.lemmas.Bool.{cases_Bool, cond-true, cond-false, eq-eqb, eqb-true, false_from_ne_true}
use Rattle.world.specs.declared.chan.Chan.{Chan}
use Rattle.world.specs.declared.chan.Chan.TheVariants as chan
use Rattle.world.specs.declared.conn.Conn.{Conn}
use Rattle.world.specs.declared.connected.Connected.TheVariants as connected
use Rattle.world.specs.declared.did.Did.TheVariants as did
use Rattle.world.specs.declared.entry.Entry.{Entry}
use Rattle.world.specs.declared.entry.Entry.TheVariants as made
use Rattle.world.specs.Places.{Status, chan_number, is_at, status}
use Rattle.run_journal.specs.Job.{Job}
use Rattle.run_journal.specs.Parts.{place, bytes_got}
use Rattle.run_journal.specs.Order.{is_nothing, begins_unread}
use Rattle.run_journal.specs.Agreement.{BringsNothing, is_got}
use Rattle.run_journal.proofs.Alike.{away}
use Rattle.run_journal.proofs.Truths.{not_both}

-- bytes that are got on a connection stand behind those got before
pub got_more : (j : Job) (c : Chan) (conn : Conn) (room : ℕ) (bytes : List ℕ) (past : List Entry) → is_at (place j c) conn ≡ true
    → bytes_got j c (made.Got conn room bytes ∷ past) ≡ bytes_got j c past ++ bytes
got_more j c conn room bytes past e = ap (λ s. Status.got s) (cond-true (is_at (place j c) conn) _ _ e)

-- bytes that are got on another connection change nothing
pub got_elsewhere : (j : Job) (c : Chan) (conn : Conn) (room : ℕ) (bytes : List ℕ) (past : List Entry) → is_at (place j c) conn ≡ false
    → bytes_got j c (made.Got conn room bytes ∷ past) ≡ bytes_got j c past
got_elsewhere j c conn room bytes past e = ap (λ s. Status.got s) (cond-false (is_at (place j c) conn) _ _ e)

kept_by : (b : Bool) (s t : Status) → t.got ≡ s.got → (cond b t s).got ≡ s.got
kept_by true s t e = e
kept_by false s t e = refl

nothing_is : (bytes : List ℕ) → is_nothing bytes ≡ true → [] ≡ bytes
nothing_is [] e = refl
nothing_is (b ∷ bytes) e = cc

-- a connection that is begun has no bytes, and it had none before
begun_by : (b : Bool) (s t : Status) → t.got ≡ [] → cond b (is_nothing s.got) true ≡ true → (cond b t s).got ≡ s.got
begun_by true s t e u = e ∙ nothing_is s.got u
begun_by false s t e u = refl

-- An entry that isn't of bytes got for the job brings it none, where it begins no connection anew that was read.
pub no_bytes : (j : Job) (entry : Entry) (past : List Entry) → is_got j entry ≡ false → ((c : Chan) → begins_unread j c (entry ∷ past) ≡ true)
    → BringsNothing j entry past
no_bytes j (made.Connected conn port connected.Begun) past e u c = begun_by (is_at (place j c) conn) (status (place j c) past) _ refl (u c)
no_bytes j (made.Connected conn port connected.Refused) past e u c = begun_by (is_at (place j c) conn) (status (place j c) past) _ refl (u c)
no_bytes j (made.Connected conn port connected.Failed) past e u c = begun_by (is_at (place j c) conn) (status (place j c) past) _ refl (u c)
no_bytes j (made.Closed conn) past e u c = kept_by (is_at (place j c) conn) (status (place j c) past) _ refl
no_bytes j (made.Got conn room bytes) past e u c = got_elsewhere j c conn room bytes past (away j c conn e)
no_bytes j (made.Dry conn) past e u c = kept_by (is_at (place j c) conn) (status (place j c) past) _ refl
no_bytes j (made.Ended conn by) past e u c = kept_by (is_at (place j c) conn) (status (place j c) past) _ refl
no_bytes j (made.Refused conn by) past e u c = kept_by (is_at (place j c) conn) (status (place j c) past) _ refl
no_bytes j (made.ReadFailed conn) past e u c = kept_by (is_at (place j c) conn) (status (place j c) past) _ refl
no_bytes j (made.Put conn bytes) past e u c = kept_by (is_at (place j c) conn) (status (place j c) past) _ refl
no_bytes j (made.Stuck conn) past e u c = kept_by (is_at (place j c) conn) (status (place j c) past) _ refl
no_bytes j (made.PutFailed conn) past e u c = kept_by (is_at (place j c) conn) (status (place j c) past) _ refl
no_bytes j (made.Waited ms reports did.Done) past e u c = refl
no_bytes j (made.Waited ms reports did.Failed) past e u c = refl
no_bytes j _ past e u c = refl

-- bytes got on one connection of the job leave its others as they are
pub other_channel : (j : Job) (c d : Chan) (conn : Conn) → is_at (place j c) conn ≡ true → (chan_number d == chan_number c) ≡ false
    → is_at (place j d) conn ≡ false
other_channel j c d conn at away =
    false_from_ne_true (is_at (place j d) conn) (λ same.
    not_both (chan_number d == chan_number c)
    (eq-eqb (chan_number d) (chan_number c) (let e = eqb-true (place j c) _ at in let f = eqb-true (place j d) _ same in omega (arith, e, f))) away)

-- a channel has its own number
same_channel : (c d : Chan) → chan_number c ≡ chan_number d → c ≡ d
same_channel chan.Shell chan.Shell e = refl
same_channel chan.Shell chan.Control e = cc
same_channel chan.Shell chan.Iopub e = cc
same_channel chan.Shell chan.Heart e = cc
same_channel chan.Control chan.Shell e = cc
same_channel chan.Control chan.Control e = refl
same_channel chan.Control chan.Iopub e = cc
same_channel chan.Control chan.Heart e = cc
same_channel chan.Iopub chan.Shell e = cc
same_channel chan.Iopub chan.Control e = cc
same_channel chan.Iopub chan.Iopub e = refl
same_channel chan.Iopub chan.Heart e = cc
same_channel chan.Heart chan.Shell e = cc
same_channel chan.Heart chan.Control e = cc
same_channel chan.Heart chan.Iopub e = cc
same_channel chan.Heart chan.Heart e = refl

-- bytes come on one connection alone
pub got_on_one : (j : Job) (c d : Chan) (conn : Conn) (room : ℕ) (bytes : List ℕ) (past : List Entry) → is_at (place j c) conn ≡ true
    → (d ≡ c) ⊎ (bytes_got j d (made.Got conn room bytes ∷ past) ≡ bytes_got j d past)
got_on_one j c d conn room bytes past at = elim (cases_Bool (is_at (place j d) conn)) [
  | inl same ↦
      inl (same_channel d c (let e = eqb-true (place j c) _ at in let f = eqb-true (place j d) _ same in omega (arith, e, f)))
  | inr off ↦ inr (got_elsewhere j d conn room bytes past off)
]
