-- The messages of a piece are dealt with one after another.
use Rattle.std.proofs.Common.{◌≡◌, ℕ, ◌+◌, List, [], ◌∷◌, length, map, Bool, true, false, ◌&&◌, cond, Option, Some, None, refl, sym, ◌∙◌, ap, subst}
use Rattle.std.specs.Prelude.{is_some}
use Rattle.std.proofs.lemmas.Bool.{cond-false}
use Rattle.std.proofs.lemmas.List.{length-map}
use Rattle.world.specs.declared.chan.Chan.{Chan}
use Rattle.world.specs.declared.chan.Chan.TheVariants as chan
use Rattle.world.specs.declared.entry.Entry.{Entry}
use Rattle.world.specs.Acked.{renames}
use Rattle.world.specs.Places.{time}
use Rattle.world.specs.Save.{temporary_of}
use Rattle.world.specs.Waits.{moment_of}
use Rattle.kernel_talk.specs.Asking.{Asked}
use Rattle.cell_core.specs.declared.event.Event.{Event}
use Rattle.cell_core.specs.declared.event.Event.TheVariants as event
use Rattle.cell_core.specs.Requests as core_requests
use Rattle.run_journal.specs.Codec.{Arrival}
use Rattle.run_journal.specs.Job.{Job}
use Rattle.run_journal.specs.Parts.{saves_of, is_acknowledging}
use Rattle.run_journal.specs.Arrivals.{arrive, has_some, is_ready}
use Rattle.run_journal.specs.Looks.{Pings, can_ping, ping_end, ping_on, pings}
use Rattle.run_journal.specs.Requests.{Request, goes_on, has_idle, is_over, is_parent, last_request, reply, requests, through_idle}
use Rattle.run_journal.specs.Course.{brief_of, came_for}
use Rattle.run_journal.specs.Queue.{news}
use Rattle.run_journal.specs.Agreement.{Agrees, told_on}
use Rattle.run_journal.proofs.Growth.{requests_go_on}
use Rattle.run_journal.proofs.Hearing.{agree_came}
use Rattle.run_journal.proofs.Telling.{some_map}
use Rattle.job_journal.specs.Made.{HasMade, passing_saves}
use Rattle.job_journal.specs.Piece.{HasCome, IsPiece, Within, has_ended, is_of, left_on, on_iopub, on_shell, piece, with_done}
use Rattle.job_journal.specs.Plot.{Plot, facts, speaker, first}
use Rattle.job_journal.specs.Standing.{Parts, OnLines, StandsBy}
use Rattle.job_journal.specs.Talk.{OnTalk}
use Rattle.job_journal.specs.Told.{AgreesBut, KeepsUp}
use Rattle.job_journal.specs.Used.{KnowsOf, OnBook, OnRequest, Sent, last, left_io, left_replies, nothing, so_far, with_messages}
use Rattle.job_journal.proofs.Books.{book_begins, book_ends, none_anew, parent_is, request_stays}
use Rattle.job_journal.proofs.Knows.{knows_first}
use Rattle.job_journal.proofs.Left.{came_io, came_replies, no_news}
use Rattle.job_journal.proofs.Making.{made_grows, made_stays}
use Rattle.job_journal.proofs.Steps.{agrees_came, up_came}
use Rattle.job_journal.proofs.Talks.{asks_on, news_none}

-- ---- what a piece is not

pub record PieceFacts (j : Job) (entry : Entry) (past : List Entry) : Type 0 where
  pub unclocked : moment_of entry ≡ None
  pub acks : is_acknowledging j (entry ∷ past) ≡ false
  pub unrenamed : renames (temporary_of j.output) j.output entry ≡ false
  pub time_is : time (entry ∷ past) ≡ time past

pub piece_facts : (j : Job) (c : Chan) (past : List Entry) {entry : Entry} → IsPiece j c entry → PieceFacts j entry past
piece_facts j c past (piece at) = record { unclocked = refl; acks = refl; unrenamed = refl; time_is = refl }

queued_none : (ps : Pings) (can : Bool) (end : ℕ) (echo : Bool) → (ping_on ps can None end echo).queued ≡ ps.queued
unfolding ping_on
queued_none ps can end echo = refl

-- an entry that isn't of the clock queues no ping
pub queued_same : (j : Job) (entry : Entry) (past : List Entry) → moment_of entry ≡ None → length (pings j (entry ∷ past)).queued ≡ length (pings j past).queued
queued_same j entry past e =
    let end : ℕ = ping_end j past (length (pings j past).queued) in
    let echo : Bool = has_some (arrive j chan.Heart entry past) in
    ap (λ o. length (ping_on (pings j past) (can_ping j past) o end echo).queued) e
    ∙ ap (λ qs. length qs) (queued_none (pings j past) (can_ping j past) end echo)

-- by a piece with which no request comes to stand none is queued
pub piece_queues_none : (j : Job) (entry : Entry) (past : List Entry) → j.task.times.interrupt ≡ false → PieceFacts j entry past → is_ready j (entry ∷ past) ≡ is_ready j past
    → news j (entry ∷ past) past ≡ []
piece_queues_none j entry past plain f steady =
    news_none j plain entry past
    (ap (λ (a : Asked). length a.ids) (asks_on j entry past f.unclocked))
    (ap (λ (rs : List Request). length rs) (none_anew j entry past f.acks steady) ∙ length-map (requests j past) (goes_on j entry past))
    (queued_same j entry past f.unclocked)

-- what was made goes on with the requests
pub piece_keeps_made : (j : Job) (entry : Entry) (past : List Entry) → PieceFacts j entry past → HasMade j (passing_saves j (requests j past)) (saves_of j past) past
    → HasMade j (passing_saves j (requests j (entry ∷ past))) (saves_of j (entry ∷ past)) (entry ∷ past)
piece_keeps_made j entry past f h =
    let now : List Entry = entry ∷ past in
    subst (λ n. HasMade j (passing_saves j (requests j now)) n now) (sym (cond-false (is_acknowledging j now) (saves_of j past + 1) (saves_of j past) f.acks))
    (made_stays j (passing_saves j (requests j now)) (saves_of j past) entry past f.unrenamed
    (made_grows j (saves_of j past) (requests j past) (requests j now) past (requests_go_on j entry past) h).0)

-- ---- what is left, and what the core knows

abbrev no_events : List Event
no_events = []

abbrev no_messages : List Arrival
no_messages = []

none_left : (b d : Bool) → cond b no_events (map (λ m. event.Io (brief_of m)) (cond d (through_idle no_messages) no_messages)) ≡ []
none_left true d = refl
none_left false true = refl
none_left false false = refl

pub io_left_none : (j : Job) (r : Request) → left_io j r [] ≡ []
io_left_none j r = none_left (is_over r) (is_some (reply r))

none_replied : (b d : Bool) (F : Arrival → Event) → cond b no_events (map F (cond d no_messages no_messages)) ≡ []
none_replied true d F = refl
none_replied false true F = refl
none_replied false false F = refl

pub replies_left_none : (j : Job) (k : ℕ) (r : Request) → left_replies j k r [] ≡ []
replies_left_none j k r = none_replied (is_over r) (has_idle r.io) (λ m. event.Reply (j.fatal k m.content))

both_swapped : (a b : Bool) → (a && b) ≡ (b && a)
both_swapped true true = refl
both_swapped true false = refl
both_swapped false true = refl
both_swapped false false = refl

-- the core has the last request as over exactly where the journal has it so
pub over_known : (j : Job) (told : List Event) (k : ℕ) (r : Request) → KnowsOf j told k r → has_ended (core_requests.standing j.task told) ≡ is_over r
over_known j told k r h =
    ap has_ended h.standing
    ∙ ap (λ o. is_some o && core_requests.has_idle (core_requests.own h.later)) h.agrees.reply
    ∙ ap (λ b. b && core_requests.has_idle (core_requests.own h.later)) (some_map (λ (m : Arrival × ℕ). j.fatal k m.0.content) (reply r))
    ∙ ap (λ b. is_some (reply r) && b) h.agrees.idle
    ∙ both_swapped (is_some (reply r)) (has_idle r.io)

-- before any message of the piece the request is as it was
pub none_done : (j : Job) (c : Chan) (r : Request) (past : List Entry) → with_done j c r [] past ≡ r
none_done j chan.Shell r past = no_news j r (time past)
none_done j chan.Control r past = no_news j r (time past)
none_done j chan.Iopub r past = no_news j r (time past)
none_done j chan.Heart r past = no_news j r (time past)

-- where the job has no request none stands
pub none_stand : (j : Job) (o : Option Sent) (rs : List Request) → OnRequest j o rs → o ≡ None → rs ≡ []
none_stand j None [] nothing e = refl
none_stand j None (x ∷ rs) h e = elim h [ ]
none_stand j (Some sent) rs h e = cc

-- where it has one it is the last
pub record HasNewest (j : Job) (rs : List Request) : Type 0 where
  pub k : ℕ
  pub r : Request
  pub is : last_request 0 rs ≡ Some (k, r)

pub newest : (j : Job) (o : Option Sent) (sent : Sent) (rs : List Request) → OnRequest j o rs → o ≡ Some sent → HasNewest j rs
newest j None sent [] nothing e = cc
newest j None sent (x ∷ rs) h e = elim h [ ]
newest j (Some s) sent rs (last k r f id cell) e = record { k = k; r = r; is = f }

-- a message is of the request that the job has where it is the last one's
pub own_is : (j : Job) (o : Option Sent) (rs : List Request) (k : ℕ) (r : Request) (parent : Option (List ℕ)) → OnRequest j o rs → last_request 0 rs ≡ Some (k, r)
    → is_of o parent ≡ is_parent j r.number parent
own_is j None [] k r parent nothing e = cc
own_is j None (x ∷ rs) k r parent h e = elim h [ ]
own_is j (Some sent) rs k r None h e = refl
own_is j (Some sent) rs k r (Some parent) h e = parent_is j sent rs k r parent h e

-- ---- once all bodies were dealt with

module _ (p : Plot) (number : ℕ) (x : Parts) (c : Chan) (ms : List Arrival) (entry : Entry) (past : List Entry) (h : HasCome p number x c ms entry past)
    (steady : is_ready (facts p) (entry ∷ past) ≡ is_ready (facts p) past) where
  abbrev j : Job
  j = facts p

  abbrev now : List Entry
  now = entry ∷ past

  given : PieceFacts j entry past
  given = piece_facts j c past h.piece

  none : news j now past ≡ []
  none = piece_queues_none j entry past h.undated given steady

  came : AgreesBut j x.core (came_for j (last_request 0 (requests j past)) entry past) now
  came = agrees_came j x.core entry past given.acks given.unclocked steady h.core

  -- where nothing comes for a request
  stands_now : came_for j (last_request 0 (requests j past)) entry past ≡ []
      → OnBook j (first p) x.book (so_far j (arrive j chan.Iopub entry past) (arrive j chan.Shell entry past) past) → StandsBy p number x [] [] now
  stands_now e b = record {
    undated = h.undated;
    is_for = h.is_for;
    lines = subst (λ qs. OnLines (speaker p) j x.lines qs now) none h.lines;
    talk = subst (λ qs. OnTalk j x.asking x.session qs now) none h.talk;
    shell_seen = h.shell_seen;
    iopub_seen = h.iopub_seen;
    book = book_ends j (first p) x.book entry past given.acks steady b;
    request = request_stays j x.request entry past given.acks steady h.request;
    sent = h.sent ∙ sym (ap (λ (rs : List Request). length rs) (none_anew j entry past given.acks steady) ∙ length-map (requests j past) (goes_on j entry past));
    core = subst (λ es. AgreesBut j x.core es now) e came;
    made = piece_keeps_made j entry past given h.made;
    ready = h.ready ∙ sym steady;
    clock = h.clock ∙ sym given.time_is;
  }

  -- where no request stands
  pub none_waits : x.request ≡ None → StandsBy p number x [] [] now
  none_waits e =
      let gone : requests j past ≡ [] = none_stand j x.request (requests j past) h.request e in
      let iopub : List Arrival = arrive j chan.Iopub entry past in
      let shell : List Arrival = arrive j chan.Shell entry past in
      let still : with_messages j iopub shell (time past) (requests j past) ≡ requests j past
      = ap (with_messages j iopub shell (time past)) gone ∙ sym gone in
      stands_now (ap (λ rs. came_for j (last_request 0 rs) entry past) gone) (subst (OnBook j (first p) x.book) (sym still) h.book)

  silent_for : arrive j chan.Iopub entry past ≡ [] → arrive j chan.Shell entry past ≡ [] → (o : Option (ℕ × Request)) → came_for j o entry past ≡ []
  silent_for i s None = refl
  silent_for i s (Some (k, r)) = came_io j k r entry past s ∙ ap (left_io j r) i ∙ io_left_none j r

  -- where no message arrives on shell and IOPub
  pub silent_now : arrive j chan.Iopub entry past ≡ [] → arrive j chan.Shell entry past ≡ [] → StandsBy p number x [] [] now
  silent_now i s =
      stands_now (silent_for i s (last_request 0 (requests j past)))
      (subst (λ v. OnBook j (first p) x.book (so_far j v (arrive j chan.Shell entry past) past)) (sym i)
      (subst (λ v. OnBook j (first p) x.book (so_far j [] v past)) (sym s) (book_begins j (first p) x.book past h.book)))

  left_is : (k : ℕ) (r : Request) → (c : Chan) → arrive j chan.Iopub entry past ≡ on_iopub c ms → arrive j chan.Shell entry past ≡ on_shell c ms
      → came_for j (Some (k, r)) entry past ≡ left_on c j k r ms
  left_is k r chan.Shell i s = came_replies j k r entry past i ∙ ap (left_replies j k r) s
  left_is k r chan.Control i s = silent_for i s (Some (k, r))
  left_is k r chan.Iopub i s = came_io j k r entry past s ∙ ap (left_io j r) i
  left_is k r chan.Heart i s = silent_for i s (Some (k, r))

  -- where a request stands that isn't over, the messages are dealt with one after another
  pub some_wait : (sent : Sent) → x.request ≡ Some sent → has_ended (core_requests.standing j.task h.core.told) ≡ false → Within p number x c [] ms entry past
  some_wait sent e on =
      let w = newest j x.request sent (requests j past) h.request e in
      let same : w.r ≡ with_done j c w.r [] past = sym (none_done j c w.r past) in
      let know = knows_first j h.core.told past w.k w.r h.core.agrees w.is in
      record {
        k = w.k;
        r = w.r;
        last = w.is;
        steady = steady;
        piece = h.piece;
        iopub = h.iopub;
        shell = h.shell;
        is_open = ap is_over (none_done j c w.r past) ∙ sym (over_known j h.core.told w.k w.r know) ∙ on;
        undated = h.undated;
        is_for = h.is_for;
        lines = subst (λ qs. OnLines (speaker p) j x.lines qs now) none h.lines;
        talk = subst (λ qs. OnTalk j x.asking x.session qs now) none h.talk;
        shell_seen = h.shell_seen;
        iopub_seen = h.iopub_seen;
        book = begun c;
        request = h.request;
        sent = h.sent;
        core = record {
          told = h.core.told;
          hears = h.core.hears;
          agrees = subst (λ es. Agrees j (told_on es h.core.told) now) (left_by w.k w.r w.is same) (agree_came j entry h.core.told past given.acks steady h.core.agrees);
          up = subst (λ es. KeepsUp j h.core.told es now) (left_by w.k w.r w.is same) (up_came j entry h.core.told past given.acks given.unclocked steady h.core.agrees h.core.up);
        };
        knows = subst (KnowsOf j h.core.told w.k) same know;
        made = piece_keeps_made j entry past given h.made;
        ready = h.ready ∙ sym steady;
        clock = h.clock ∙ sym given.time_is;
      }
    where
      left_by : (k : ℕ) (r : Request) → last_request 0 (requests j past) ≡ Some (k, r) → r ≡ with_done j c r [] past
          → came_for j (last_request 0 (requests j past)) entry past ≡ left_on c j k (with_done j c r [] past) ms
      left_by k r e f = ap (λ o. came_for j o entry past) e ∙ left_is k r c h.iopub h.shell ∙ ap (λ r. left_on c j k r ms) f

      begun : (c : Chan) → OnBook j (first p) x.book (so_far j (on_iopub c []) (on_shell c []) past)
      begun chan.Shell = book_begins j (first p) x.book past h.book
      begun chan.Control = book_begins j (first p) x.book past h.book
      begun chan.Iopub = book_begins j (first p) x.book past h.book
      begun chan.Heart = book_begins j (first p) x.book past h.book
