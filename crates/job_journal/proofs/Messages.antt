-- One message of a piece is dealt with.
use Rattle.std.proofs.Common.{◌≡◌, inl, inr, ℕ, List, [], ◌∷◌, ◌++◌, length, Bool, true, false, ◌&&◌, not, refl, sym, ◌∙◌, ap, subst, append_assoc}
use Rattle.std.specs.Prelude.{is_some}
use Rattle.std.proofs.lemmas.Bool.{and_parts}
use Rattle.std.proofs.lemmas.List.{append-nil, length-map}
use Rattle.world.specs.declared.chan.Chan.{Chan}
use Rattle.world.specs.declared.chan.Chan.TheVariants as chan
use Rattle.world.specs.declared.entry.Entry.{Entry}
use Rattle.world.specs.Places.{time}
use Rattle.cell_core.specs.declared.event.Event.{Event}
use Rattle.cell_core.specs.declared.event.Event.TheVariants as event
use Rattle.cell_core.specs.declared.machine.Core.{Core}
use Rattle.cell_core.specs.Acts.{takes_of}
use Rattle.cell_core.specs.Requests as core_requests
use Rattle.job_notebook.specs.declared.notebook.JobNotebook.{JobNotebook}
use Rattle.run_journal.specs.Codec.{Arrival}
use Rattle.run_journal.specs.Job.{Job}
use Rattle.run_journal.specs.Arrivals.{arrive}
use Rattle.run_journal.specs.Requests.{Request, goes_on, has_idle, is_exec_reply, is_over, reply, requests, with_news}
use Rattle.run_journal.specs.Course.{brief_of}
use Rattle.run_journal.specs.Agreement.{Agrees, told_on}
use Rattle.job_journal.specs.Piece.{RepliesBy, TakesBy, Within, has_ended, is_of}
use Rattle.job_journal.specs.Plot.{Plot, facts, first, IsFor}
use Rattle.job_journal.specs.Standing.{Parts, StandsBy}
use Rattle.job_journal.specs.Told.{AgreesBut, Hears, KeepsUp}
use Rattle.job_journal.specs.Used.{KnowsOf, OnBook, is_own, is_reply, left_io, left_replies, so_far, with_io, with_reply}
use Rattle.job_journal.proofs.Books.{book_ends, book_ignores, book_passes, book_replied, book_replies, book_rests, book_takes, none_anew, request_stays}
use Rattle.job_journal.proofs.Knows.{knows_io, knows_reply, takes_io, takes_reply}
use Rattle.job_journal.proofs.Left.{io_adds, io_left_other, io_left_over, io_left_own, io_passes, replies_left_other, replies_left_over, replies_left_own, reply_adds, reply_passes}
use Rattle.job_journal.proofs.Pieces.{PieceFacts, io_left_none, over_known, own_is, piece_facts, replies_left_none}

one_more : (done rest : List Arrival) (m : Arrival) → done ++ m ∷ rest ≡ (done ++ m ∷ []) ++ rest
one_more done rest m = sym (append_assoc done (m ∷ []) rest)

not_is : (b : Bool) (x : Bool) → x ≡ not b → x ≡ true → b ≡ false
not_is true x e f = let g : false ≡ true = sym e ∙ f in cc
not_is false x e f = refl

is_then : (b : Bool) (x : Bool) → x ≡ not b → x ≡ false → b ≡ true
is_then true x e f = refl
is_then false x e f = let g : true ≡ false = sym e ∙ f in cc

module _ (p : Plot) (number : ℕ) (x : Parts) (c : Chan) (done rest : List Arrival) (entry : Entry) (past : List Entry) (w : Within p number x c done rest entry past) where
  abbrev j : Job
  j = facts p

  abbrev now : List Entry
  now = entry ∷ past

  given : PieceFacts j entry past
  given = piece_facts j c past w.piece

  -- with what was used of all messages and nothing to be told the parts stand for the journal with the piece
  abbrev finish : (next : Core) (book : JobNotebook) → IsFor p number x.session next book
      → OnBook j (first p) book (so_far j (arrive j chan.Iopub entry past) (arrive j chan.Shell entry past) past) → AgreesBut j next [] now
      → StandsBy p number (record x { core = next; book = book }) [] [] now
  finish next book is_for b core = record {
    undated = w.undated;
    is_for = is_for;
    lines = w.lines;
    talk = w.talk;
    shell_seen = w.shell_seen;
    iopub_seen = w.iopub_seen;
    book = book_ends j (first p) book entry past given.acks w.steady b;
    request = request_stays j x.request entry past given.acks w.steady w.request;
    sent = w.sent ∙ sym (ap (λ (rs : List Request). length rs) (none_anew j entry past given.acks w.steady) ∙ length-map (requests j past) (goes_on j entry past));
    core = core;
    made = w.made;
    ready = w.ready;
    clock = w.clock;
  }

-- ---- on IOPub

module _ (p : Plot) (number : ℕ) (x : Parts) (m : Arrival) (done rest : List Arrival) (entry : Entry) (past : List Entry)
    (w : Within p number x chan.Iopub done (m ∷ rest) entry past) where
  abbrev ij : Job
  ij = facts p

  abbrev ir : Request
  ir = with_news ij w.r done [] (time past)

  io_arrive : arrive ij chan.Iopub entry past ≡ (done ++ m ∷ []) ++ rest
  io_arrive = w.iopub ∙ one_more done rest m

  io_is : is_of x.request m.parent ≡ is_own ij w.r m
  io_is = own_is ij x.request (requests ij past) w.k w.r m.parent w.request w.last

  -- a message that isn't of the request is passed over
  pub io_other : is_of x.request m.parent ≡ false → Within p number x chan.Iopub (done ++ m ∷ []) rest entry past
  io_other e =
      let off : is_own ij w.r m ≡ false = sym io_is ∙ e in
      let same : ir ≡ with_news ij w.r (done ++ m ∷ []) [] (time past) = sym (io_passes ij w.r done m (time past) off) in
      record {
        k = w.k;
        r = w.r;
        last = w.last;
        steady = w.steady;
        piece = w.piece;
        iopub = io_arrive;
        shell = w.shell;
        is_open = ap is_over (sym same) ∙ w.is_open;
        undated = w.undated;
        is_for = w.is_for;
        lines = w.lines;
        talk = w.talk;
        shell_seen = w.shell_seen;
        iopub_seen = w.iopub_seen;
        book = book_passes ij (first p) x.book done m past w.k w.r w.last (inl off) w.book;
        request = w.request;
        sent = w.sent;
        core = record {
          told = w.core.told;
          hears = w.core.hears;
          agrees = subst (λ es. Agrees ij (told_on es w.core.told) (entry ∷ past)) (io_left_other ij ir m rest off ∙ ap (λ r. left_io ij r rest) same) w.core.agrees;
          up = subst (λ es. KeepsUp ij w.core.told es (entry ∷ past)) (io_left_other ij ir m rest off ∙ ap (λ r. left_io ij r rest) same) w.core.up;
        };
        knows = subst (KnowsOf ij w.core.told w.k) same w.knows;
        made = w.made;
        ready = w.ready;
        clock = w.clock;
      }

  module _ (next : Core) (book : JobNotebook) (takes : Bool) (mine : is_of x.request m.parent ≡ true) (is_for : IsFor p number x.session next book)
      (hears : Hears ij next (event.Io (brief_of m) ∷ w.core.told)) (taken : takes ≡ takes_of ij.task (event.Io (brief_of m)) w.core.told)
      (used : TakesBy takes (first p) x.book book m) where
    io_mine : is_own ij w.r m ≡ true
    io_mine = sym io_is ∙ mine

    io_more : with_io ir m ≡ with_news ij w.r (done ++ m ∷ []) [] (time past)
    io_more = sym (io_adds ij w.r done m (time past) io_mine)

    io_takes : takes ≡ not (has_idle ir.io)
    io_takes = taken ∙ takes_io ij w.core.told w.k ir (brief_of m) w.core.hears.goes_on w.knows

    io_book : OnBook ij (first p) book (so_far ij (done ++ m ∷ []) [] past)
    io_book = by takes io_takes used
      where
        by : (b : Bool) → b ≡ not (has_idle ir.io) → TakesBy b (first p) x.book book m → OnBook ij (first p) book (so_far ij (done ++ m ∷ []) [] past)
        by true e t = book_takes ij (first p) x.book book done m past w.k w.r w.last io_mine (not_is (has_idle ir.io) true e refl) t w.book
        by false e t =
            subst (λ b. OnBook ij (first p) b (so_far ij (done ++ m ∷ []) [] past)) (sym t)
            (book_passes ij (first p) x.book done m past w.k w.r w.last (inr (is_then (has_idle ir.io) false e refl)) w.book)

    io_agrees : Agrees ij (told_on (left_io ij (with_io ir m) rest) (event.Io (brief_of m) ∷ w.core.told)) (entry ∷ past)
    io_agrees = subst (λ es. Agrees ij (told_on es w.core.told) (entry ∷ past)) (io_left_own ij ir m rest io_mine w.is_open) w.core.agrees

    io_up : KeepsUp ij (event.Io (brief_of m) ∷ w.core.told) (left_io ij (with_io ir m) rest) (entry ∷ past)
    io_up = let up = subst (λ es. KeepsUp ij w.core.told es (entry ∷ past)) (io_left_own ij ir m rest io_mine w.is_open) w.core.up in record { requests = up.requests; clock = up.clock }

    io_knows : KnowsOf ij (event.Io (brief_of m) ∷ w.core.told) w.k (with_io ir m)
    io_knows = knows_io ij w.core.told w.k ir m w.knows

    -- one of its own, by which it isn't over
    pub io_goes_on : has_ended (core_requests.standing ij.task (event.Io (brief_of m) ∷ w.core.told)) ≡ false
        → Within p number (record x { core = next; book = book }) chan.Iopub (done ++ m ∷ []) rest entry past
    io_goes_on e = record {
      k = w.k;
      r = w.r;
      last = w.last;
      steady = w.steady;
      piece = w.piece;
      iopub = io_arrive;
      shell = w.shell;
      is_open = ap is_over (sym io_more) ∙ sym (over_known ij (event.Io (brief_of m) ∷ w.core.told) w.k (with_io ir m) io_knows) ∙ e;
      undated = w.undated;
      is_for = is_for;
      lines = w.lines;
      talk = w.talk;
      shell_seen = w.shell_seen;
      iopub_seen = w.iopub_seen;
      book = io_book;
      request = w.request;
      sent = w.sent;
      core = record {
        told = event.Io (brief_of m) ∷ w.core.told;
        hears = hears;
        agrees = subst (λ r. Agrees ij (told_on (left_io ij r rest) (event.Io (brief_of m) ∷ w.core.told)) (entry ∷ past)) io_more io_agrees;
        up = subst (λ r. KeepsUp ij (event.Io (brief_of m) ∷ w.core.told) (left_io ij r rest) (entry ∷ past)) io_more io_up;
      };
      knows = subst (KnowsOf ij (event.Io (brief_of m) ∷ w.core.told) w.k) io_more io_knows;
      made = w.made;
      ready = w.ready;
      clock = w.clock;
    }

    -- one of its own, by which it is over: no further message of the piece is used
    pub io_ends : has_ended (core_requests.standing ij.task (event.Io (brief_of m) ∷ w.core.told)) ≡ true
        → (s : StandsBy p number (record x { core = next; book = book }) [] [] (entry ∷ past)) × (s.core.told ≡ event.Io (brief_of m) ∷ w.core.told)
    io_ends e =
        let over : is_over (with_io ir m) ≡ true = sym (over_known ij (event.Io (brief_of m) ∷ w.core.told) w.k (with_io ir m) io_knows) ∙ e in
        let idle : has_idle (with_news ij w.r (done ++ m ∷ []) [] (time past)).io ≡ true
        = ap (λ (r : Request). has_idle r.io) (sym io_more) ∙ (and_parts (has_idle (with_io ir m).io) (is_some (reply (with_io ir m))) over).0 in
        let rests : OnBook ij (first p) book (so_far ij ((done ++ m ∷ []) ++ rest) [] past)
        = book_rests ij (first p) book (done ++ m ∷ []) rest past w.k w.r w.last idle io_book in (
          finish p number x chan.Iopub done (m ∷ rest) entry past w next book is_for
              (subst (λ v. OnBook ij (first p) book (so_far ij v (arrive ij chan.Shell entry past) past)) (sym io_arrive)
              (subst (λ v. OnBook ij (first p) book (so_far ij ((done ++ m ∷ []) ++ rest) v past)) (sym w.shell) rests))
              (record {
                told = event.Io (brief_of m) ∷ w.core.told;
                hears = hears;
                agrees = subst (λ es. Agrees ij (told_on es (event.Io (brief_of m) ∷ w.core.told)) (entry ∷ past)) (io_left_over ij (with_io ir m) rest over) io_agrees;
                up = subst (λ es. KeepsUp ij (event.Io (brief_of m) ∷ w.core.told) es (entry ∷ past)) (io_left_over ij (with_io ir m) rest over) io_up;
              }),
          refl,
        )

-- ---- on shell

module _ (p : Plot) (number : ℕ) (x : Parts) (m : Arrival) (done rest : List Arrival) (entry : Entry) (past : List Entry)
    (w : Within p number x chan.Shell done (m ∷ rest) entry past) where
  abbrev sj : Job
  sj = facts p

  abbrev sr : Request
  sr = with_news sj w.r [] done (time past)

  shell_arrive : arrive sj chan.Shell entry past ≡ (done ++ m ∷ []) ++ rest
  shell_arrive = w.shell ∙ one_more done rest m

  shell_is : (is_exec_reply m.content && is_of x.request m.parent) ≡ is_reply sj w.r m
  shell_is = ap (λ b. is_exec_reply m.content && b) (own_is sj x.request (requests sj past) w.k w.r m.parent w.request w.last)

  -- a message that is no reply to the request is passed over
  pub shell_other : (is_exec_reply m.content && is_of x.request m.parent) ≡ false → Within p number x chan.Shell (done ++ m ∷ []) rest entry past
  shell_other e =
      let off : is_reply sj w.r m ≡ false = sym shell_is ∙ e in
      let same : sr ≡ with_news sj w.r [] (done ++ m ∷ []) (time past) = sym (reply_passes sj w.r done m (time past) off) in
      record {
        k = w.k;
        r = w.r;
        last = w.last;
        steady = w.steady;
        piece = w.piece;
        iopub = w.iopub;
        shell = shell_arrive;
        is_open = ap is_over (sym same) ∙ w.is_open;
        undated = w.undated;
        is_for = w.is_for;
        lines = w.lines;
        talk = w.talk;
        shell_seen = w.shell_seen;
        iopub_seen = w.iopub_seen;
        book = book_ignores sj (first p) x.book done m past w.k w.r w.last (inl off) w.book;
        request = w.request;
        sent = w.sent;
        core = record {
          told = w.core.told;
          hears = w.core.hears;
          agrees = subst (λ es. Agrees sj (told_on es w.core.told) (entry ∷ past)) (replies_left_other sj w.k sr m rest off ∙ ap (λ r. left_replies sj w.k r rest) same) w.core.agrees;
          up = subst (λ es. KeepsUp sj w.core.told es (entry ∷ past)) (replies_left_other sj w.k sr m rest off ∙ ap (λ r. left_replies sj w.k r rest) same) w.core.up;
        };
        knows = subst (KnowsOf sj w.core.told w.k) same w.knows;
        made = w.made;
        ready = w.ready;
        clock = w.clock;
      }

  abbrev told_reply : Event
  told_reply = event.Reply (sj.fatal w.k m.content)

  module _ (next : Core) (book : JobNotebook) (takes : Bool) (mine : (is_exec_reply m.content && is_of x.request m.parent) ≡ true)
      (is_for : IsFor p number x.session next book) (hears : Hears sj next (told_reply ∷ w.core.told)) (taken : takes ≡ takes_of sj.task told_reply w.core.told)
      (used : RepliesBy takes (first p) x.book book m) where
    reply_mine : is_reply sj w.r m ≡ true
    reply_mine = sym shell_is ∙ mine

    reply_more : with_reply sr m (time past) ≡ with_news sj w.r [] (done ++ m ∷ []) (time past)
    reply_more = sym (reply_adds sj w.r done m (time past) reply_mine)

    reply_takes : takes ≡ not (is_some (reply sr))
    reply_takes = taken ∙ takes_reply sj w.core.told w.k sr (sj.fatal w.k m.content) w.core.hears.goes_on w.knows

    reply_book : OnBook sj (first p) book (so_far sj [] (done ++ m ∷ []) past)
    reply_book = by takes reply_takes used
      where
        by : (b : Bool) → b ≡ not (is_some (reply sr)) → RepliesBy b (first p) x.book book m → OnBook sj (first p) book (so_far sj [] (done ++ m ∷ []) past)
        by true e t = book_replies sj (first p) x.book book done m past w.k w.r w.last reply_mine (not_is (is_some (reply sr)) true e refl) t w.book
        by false e t =
            subst (λ b. OnBook sj (first p) b (so_far sj [] (done ++ m ∷ []) past)) (sym t)
            (book_ignores sj (first p) x.book done m past w.k w.r w.last (inr (is_then (is_some (reply sr)) false e refl)) w.book)

    reply_agrees : Agrees sj (told_on (left_replies sj w.k (with_reply sr m (time past)) rest) (told_reply ∷ w.core.told)) (entry ∷ past)
    reply_agrees = subst (λ es. Agrees sj (told_on es w.core.told) (entry ∷ past)) (replies_left_own sj w.k sr m (time past) rest reply_mine w.is_open) w.core.agrees

    reply_up : KeepsUp sj (told_reply ∷ w.core.told) (left_replies sj w.k (with_reply sr m (time past)) rest) (entry ∷ past)
    reply_up =
        let up = subst (λ es. KeepsUp sj w.core.told es (entry ∷ past)) (replies_left_own sj w.k sr m (time past) rest reply_mine w.is_open) w.core.up in
        record { requests = up.requests; clock = up.clock }

    reply_knows : KnowsOf sj (told_reply ∷ w.core.told) w.k (with_reply sr m (time past))
    reply_knows = knows_reply sj w.core.told w.k sr m (time past) w.knows

    -- a reply by which the request isn't over
    pub reply_goes_on : has_ended (core_requests.standing sj.task (told_reply ∷ w.core.told)) ≡ false
        → Within p number (record x { core = next; book = book }) chan.Shell (done ++ m ∷ []) rest entry past
    reply_goes_on e = record {
      k = w.k;
      r = w.r;
      last = w.last;
      steady = w.steady;
      piece = w.piece;
      iopub = w.iopub;
      shell = shell_arrive;
      is_open = ap is_over (sym reply_more) ∙ sym (over_known sj (told_reply ∷ w.core.told) w.k (with_reply sr m (time past)) reply_knows) ∙ e;
      undated = w.undated;
      is_for = is_for;
      lines = w.lines;
      talk = w.talk;
      shell_seen = w.shell_seen;
      iopub_seen = w.iopub_seen;
      book = reply_book;
      request = w.request;
      sent = w.sent;
      core = record {
        told = told_reply ∷ w.core.told;
        hears = hears;
        agrees = subst (λ r. Agrees sj (told_on (left_replies sj w.k r rest) (told_reply ∷ w.core.told)) (entry ∷ past)) reply_more reply_agrees;
        up = subst (λ r. KeepsUp sj (told_reply ∷ w.core.told) (left_replies sj w.k r rest) (entry ∷ past)) reply_more reply_up;
      };
      knows = subst (KnowsOf sj (told_reply ∷ w.core.told) w.k) reply_more reply_knows;
      made = w.made;
      ready = w.ready;
      clock = w.clock;
    }

    -- a reply by which it is over: no further message of the piece is used
    pub reply_ends : has_ended (core_requests.standing sj.task (told_reply ∷ w.core.told)) ≡ true
        → (s : StandsBy p number (record x { core = next; book = book }) [] [] (entry ∷ past)) × (s.core.told ≡ told_reply ∷ w.core.told)
    reply_ends e =
        let s : Request = with_reply sr m (time past) in
        let over : is_over s ≡ true = sym (over_known sj (told_reply ∷ w.core.told) w.k s reply_knows) ∙ e in
        let came : is_some (reply (with_news sj w.r [] (done ++ m ∷ []) (time past))) ≡ true
        = ap (λ (r : Request). is_some (reply r)) (sym reply_more) ∙ (and_parts (has_idle s.io) (is_some (reply s)) over).1 in
        let rests : OnBook sj (first p) book (so_far sj [] ((done ++ m ∷ []) ++ rest) past)
        = book_replied sj (first p) book (done ++ m ∷ []) rest past w.k w.r w.last came reply_book in (
          finish p number x chan.Shell done (m ∷ rest) entry past w next book is_for
              (subst (λ v. OnBook sj (first p) book (so_far sj v (arrive sj chan.Shell entry past) past)) (sym w.iopub)
              (subst (λ v. OnBook sj (first p) book (so_far sj [] v past)) (sym shell_arrive) rests))
              (record {
                told = told_reply ∷ w.core.told;
                hears = hears;
                agrees = subst (λ es. Agrees sj (told_on es (told_reply ∷ w.core.told)) (entry ∷ past)) (replies_left_over sj w.k s rest over) reply_agrees;
                up = subst (λ es. KeepsUp sj (told_reply ∷ w.core.told) es (entry ∷ past)) (replies_left_over sj w.k s rest over) reply_up;
              }),
          refl,
        )

-- ---- the last message

-- once all messages were dealt with the parts stand for the journal with the piece
pub io_all : (p : Plot) (number : ℕ) (x : Parts) (done : List Arrival) (entry : Entry) (past : List Entry) → Within p number x chan.Iopub done [] entry past
    → StandsBy p number x [] [] (entry ∷ past)
io_all p number x done entry past w =
    let j : Job = facts p in
    let r : Request = with_news j w.r done [] (time past) in
    finish p number x chan.Iopub done [] entry past w x.core x.book w.is_for
    (subst (λ v. OnBook j (first p) x.book (so_far j v (arrive j chan.Shell entry past) past)) (sym (w.iopub ∙ append-nil done))
    (subst (λ v. OnBook j (first p) x.book (so_far j done v past)) (sym w.shell) w.book))
    (subst (λ es. AgreesBut j x.core es (entry ∷ past)) (io_left_none j r) w.core)

pub shell_all : (p : Plot) (number : ℕ) (x : Parts) (done : List Arrival) (entry : Entry) (past : List Entry) → Within p number x chan.Shell done [] entry past
    → StandsBy p number x [] [] (entry ∷ past)
shell_all p number x done entry past w =
    let j : Job = facts p in
    let r : Request = with_news j w.r [] done (time past) in
    finish p number x chan.Shell done [] entry past w x.core x.book w.is_for
    (subst (λ v. OnBook j (first p) x.book (so_far j v (arrive j chan.Shell entry past) past)) (sym w.iopub)
    (subst (λ v. OnBook j (first p) x.book (so_far j [] v past)) (sym (w.shell ∙ append-nil done)) w.book))
    (subst (λ es. AgreesBut j x.core es (entry ∷ past)) (replies_left_none j w.k r) w.core)
