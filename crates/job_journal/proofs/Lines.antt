-- What our side of a connection stands for goes on with the journal.
use Rattle.std.proofs.Common.{◌≡◌, ℕ, List, [], ◌∷◌, ◌++◌, true, false, refl, sym, ◌∙◌, ap, subst, append_assoc}
use Rattle.std.proofs.lemmas.Bool.{cond-true, cond-false}
use Rattle.std.proofs.lemmas.List.Elements.{filter-append}
use Rattle.world.specs.declared.chan.Chan.{Chan}
use Rattle.world.specs.declared.conn.Conn.{Conn}
use Rattle.world.specs.declared.entry.Entry.{Entry}
use Rattle.world.specs.declared.entry.Entry.TheVariants as made
use Rattle.world.specs.Places.{is_at}
use Rattle.zmtp_wire.specs.declared.role.Role.{Role}
use Rattle.zmtp_wire.specs.Decoder as wire
use Rattle.zmtp_wire.specs.Stream.{Message}
use Rattle.zmtp_wire.specs.Meaning.{Adds, messages_in, answer_to}
use Rattle.zmtp_peer.specs.Envelope.{body_in, bodies_of}
use Rattle.zmtp_peer.specs.Peer.{Brings}
use Rattle.kernel_lines.specs.Due.{sent_octets}
use Rattle.kernel_lines.specs.Happened.{Came, History, came_in}
use Rattle.kernel_lines.specs.Line.{StandsFor, role_of}
use Rattle.kernel_lines.specs.Lines.{role_on}
use Rattle.kernel_lines.specs.declared.line.Line.{Line}
use Rattle.run_journal.specs.Codec.{Sending, Info, Execute, Interrupt, Ping, Shutdown}
use Rattle.run_journal.specs.Job.{Job}
use Rattle.run_journal.specs.Jupyter.{Speaker, bodies_in, octets_of}
use Rattle.run_journal.specs.Parts.{place, bytes_got}
use Rattle.run_journal.specs.Queue.{Queued, channel_of, news}
use Rattle.job_journal.specs.Line.{parts_of, given_as, gives, is_got_at, is_on, sent_on, comes, history, OnLine}
use Rattle.job_journal.proofs.Bytes.{got_more}

-- the octets of a message are those of its parts
pub octets_are : (s : Speaker) (what : Sending) (number ms : ℕ) → sent_octets (role_on (channel_of what)) (parts_of s what number ms) ≡ octets_of s what number ms
octets_are s Info number ms = refl
octets_are s (Execute k) number ms = refl
octets_are s Interrupt number ms = refl
octets_are s Ping number ms = refl
octets_are s Shutdown number ms = refl

-- messages given one after another
gives_append : (s : Speaker) (xs ys : List Queued) (h : History) → gives s (xs ++ ys) h ≡ gives s ys (gives s xs h)
gives_append s [] ys h = refl
gives_append s (x ∷ xs) ys h = gives_append s xs ys (given_as s x ∷ h)

-- with one more entry
pub next_history : (s : Speaker) (j : Job) (c : Chan) (entry : Entry) (past : List Entry)
    → history s j c (entry ∷ past) ≡ gives s (sent_on c (news j (entry ∷ past) past)) (comes j c entry (history s j c past))
unfolding history
next_history s j c entry past = refl

-- no bytes come on a connection by an entry that isn't of bytes got on it
pub comes_none : (j : Job) (c : Chan) (entry : Entry) (h : History) → is_got_at (place j c) entry ≡ false → comes j c entry h ≡ h
comes_none j c (made.Got conn room bytes) h e = cond-false (is_at (place j c) conn) _ _ e
comes_none j c _ h e = refl

-- a piece came: what the job queues at its entry is unsent
pub line_gets : (s : Speaker) (j : Job) (c : Chan) (old new : Line) (conn : Conn) (room : ℕ) (bytes : List ℕ) (past : List Entry)
    → is_at (place j c) conn ≡ true → role_of new ≡ role_of old → (l : OnLine s j c old [] past) → StandsFor new (Came bytes ∷ l.past) l.out
    → OnLine s j c new (news j (made.Got conn room bytes ∷ past) past) (made.Got conn room bytes ∷ past)
line_gets s j c old new conn room bytes past at same l st =
    let now : List Entry = made.Got conn room bytes ∷ past in
    record {
      past = Came bytes ∷ l.past;
      out = l.out;
      role = same ∙ l.role;
      stands = st;
      got = ap (λ b. b ++ bytes) l.got ∙ sym (got_more j c conn room bytes past at);
      is = ap (λ h. gives s (sent_on c (news j now past)) (Came bytes ∷ h)) l.is
          ∙ ap (gives s (sent_on c (news j now past))) (sym (cond-true (is_at (place j c) conn) (Came bytes ∷ history s j c past) (history s j c past) at))
          ∙ sym (next_history s j c (made.Got conn room bytes) past);
    }

-- an entry brings nothing on the connection: what the job queues at it is unsent besides
pub line_stays : (s : Speaker) (j : Job) (c : Chan) (line : Line) (unsent : List Queued) (entry : Entry) (past : List Entry) → is_got_at (place j c) entry ≡ false
    → bytes_got j c (entry ∷ past) ≡ bytes_got j c past → OnLine s j c line unsent past → OnLine s j c line (unsent ++ news j (entry ∷ past) past) (entry ∷ past)
line_stays s j c line unsent entry past none same l =
    let more : List Queued = news j (entry ∷ past) past in
    record {
      past = l.past;
      out = l.out;
      role = l.role;
      stands = l.stands;
      got = l.got ∙ sym same;
      is = ap (λ qs. gives s qs l.past) (filter-append (is_on c) unsent more)
          ∙ gives_append s (sent_on c unsent) (sent_on c more) l.past
          ∙ ap (gives s (sent_on c more)) (l.is ∙ sym (comes_none j c entry (history s j c past) none))
          ∙ sym (next_history s j c entry past);
    }

-- the first unsent message is sent
pub line_sends : (s : Speaker) (j : Job) (c : Chan) (old new : Line) (q : Queued) (unsent : List Queued) (now : List Entry) → is_on c q ≡ true
    → role_of new ≡ role_of old → (l : OnLine s j c old (q ∷ unsent) now) → StandsFor new (given_as s q ∷ l.past) l.out → OnLine s j c new unsent now
line_sends s j c old new q unsent now on same l st = record {
  past = given_as s q ∷ l.past;
  out = l.out;
  role = same ∙ l.role;
  stands = st;
  got = l.got;
  is = ap (λ qs. gives s qs l.past) (sym (cond-true (is_on c q) (q ∷ sent_on c unsent) (sent_on c unsent) on)) ∙ l.is;
}

-- the first unsent message goes on another connection
pub line_skips : (s : Speaker) (j : Job) (c : Chan) (line : Line) (q : Queued) (unsent : List Queued) (now : List Entry) → is_on c q ≡ false
    → OnLine s j c line (q ∷ unsent) now → OnLine s j c line unsent now
line_skips s j c line q unsent now off l = record {
  past = l.past;
  out = l.out;
  role = l.role;
  stands = l.stands;
  got = l.got;
  is = ap (λ qs. gives s qs l.past) (sym (cond-false (is_on c q) (q ∷ sent_on c unsent) (sent_on c unsent) off)) ∙ l.is;
}

-- octets are handed out, or noted as taken
pub line_hands : (s : Speaker) (j : Job) (c : Chan) (old new : Line) (unsent : List Queued) (now : List Entry) (more : List ℕ)
    → role_of new ≡ role_of old → (l : OnLine s j c old unsent now) → StandsFor new l.past (l.out ++ more) → OnLine s j c new unsent now
line_hands s j c old new unsent now more same l st = record {
  past = l.past;
  out = l.out ++ more;
  role = same ∙ l.role;
  stands = st;
  got = l.got;
  is = l.is;
}

-- ---- the messages of a piece

bodies_append : (r : Role) (xs ys : List Message) → bodies_of r (xs ++ ys) ≡ bodies_of r xs ++ bodies_of r ys
bodies_append r [] ys = refl
bodies_append r (x ∷ xs) ys = ap (λ v. body_in r x ++ v) (bodies_append r xs ys) ∙ sym (append_assoc (body_in r x) (bodies_of r xs) (bodies_of r ys))

-- what a decoder brings is what the octets hold, handed in
abbrev pub AddsWhatItBrings : Type 0
AddsWhatItBrings = (r : Role) (b piece : List ℕ) (old new : List Message) (answer : wire.Answer) → wire.Brings r b piece old new answer → Adds r b piece old new answer

-- The bodies that a piece brings are those that it adds to what came, and the answer is that of all that came.
pub piece_brings : AddsWhatItBrings → (s : Speaker) (j : Job) (c : Chan) (line : Line) (unsent : List Queued) (past : List Entry) (piece : List ℕ)
    (new : List (List (List ℕ))) (answer : wire.Answer) → (l : OnLine s j c line unsent past) → Brings (role_of line) (came_in l.past) piece [] new answer
    → (bodies_in c (bytes_got j c past ++ piece) ≡ bodies_in c (bytes_got j c past) ++ new) × (answer ≡ answer_to (role_on c) (bytes_got j c past ++ piece))
piece_brings adds s j c line unsent past piece new answer l b =
    let r : Role = role_on c in
    let br : Brings r (bytes_got j c past) piece [] new answer
    = subst (λ x. Brings r x piece [] new answer) l.got (subst (λ x. Brings x (came_in l.past) piece [] new answer) l.role b) in
    let a = adds r (bytes_got j c past) piece [] br.came answer br.brings in (
      ap (bodies_of r) a.messages
          ∙ bodies_append r (messages_in r (bytes_got j c past)) a.more
          ∙ ap (λ v. bodies_of r (messages_in r (bytes_got j c past)) ++ bodies_of r v) (sym a.grown)
          ∙ ap (λ v. bodies_of r (messages_in r (bytes_got j c past)) ++ v) (sym br.grown),
      a.answers,
    )
