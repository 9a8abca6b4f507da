-- What a world in memory keeps besides its kernels and its clock, and how its calls change it.
use Rattle.std.specs.Prelude.{◌≡◌, ◌-◌, ◌<◌, ℕ, List, [], length, IsSomeAnd, Bool, true, false, Option, Some, None, replicate}
use Rattle.world.specs.declared.did.Did.{Did}
use Rattle.world.specs.declared.entry.Entry.{Entry}
use Rattle.world.specs.Counts.{Counts}
use Rattle.world_mem.specs.declared.near.Near.{Near}
use Rattle.world_mem.specs.declared.script.Script.{Script}
use Rattle.world_mem.specs.declared.store.Store.{Store}
use Rattle.world.specs.Disk.{leaves}
use Rattle.world.specs.Moments.{upto}
use Rattle.world_mem.specs.Folder.{Content, file_at}
use Rattle.world_mem.specs.Image.{IsPicked, IsAllowed}
use Rattle.world_mem.specs.Journals.{told_of}
use Rattle.world_mem.specs.Wire.{turn_after}
use Rattle.world_mem.specs.Store.{did_unless, faults_after, files_of, is_to_fail}
use Rattle.world.specs.Rises.{one_more}

-- the journal of the world
abbrev pub journal_of : Near → Option (List Entry)
journal_of near = told_of near.journal.timed.entries

-- the counts of the world
abbrev pub counts_of : Near → Counts
counts_of near = record {
  disk = near.store.disk_faults;
  net = near.net_faults;
  waits = near.waits;
  child = near.child_faults;
  rand = near.rand_faults;
  say = near.store.say_faults;
  last = near.journal.timed.last;
}

-- a store of which one more call was counted
abbrev pub count_call : Store → Store
count_call store = record store { calls = one_more store.calls }

-- only the journal and the store have changed, and the same connections are up
pub record AfterStored (old new : Near) : Type 0 where
  pub rest : new ≡ record old { journal = new.journal; store = new.store }
  pub ups : new.journal.ups ≡ old.journal.ups

-- a call that can't fail was counted, and only the journal has changed besides; the same connections are up
pub record AfterSure (old new : Near) : Type 0 where
  pub rest : new ≡ record old { journal = new.journal; store = count_call old.store }
  pub ups : new.journal.ups ≡ old.journal.ups

-- a start of a child was counted, and only the journal has changed besides; the same connections are up
pub record AfterStart (old new : Near) (result : Did) : Type 0 where
  pub rest : new ≡ record old {
    journal = new.journal;
    store = count_call old.store;
    child_faults = faults_after result old.child_faults;
  }
  pub ups : new.journal.ups ≡ old.journal.ups

-- the next random word, where the call doesn't fail
abbrev pub word_unless : Bool → ℕ → Option ℕ
word_unless true word = None
word_unless false word = Some word

-- the next random word after a call that failed or not
abbrev pub words_after : Bool → ℕ → ℕ
words_after true words = words
words_after false words = one_more words

-- a random word was drawn, and only the journal has changed besides; the same connections are up
pub record AfterWord (old new : Near) : Type 0 where
  pub rest : new ≡ record old {
    journal = new.journal;
    store = count_call old.store;
    rand_faults = faults_after (did_unless (is_to_fail old.store)) old.rand_faults;
    words = words_after (is_to_fail old.store) old.words;
  }
  pub ups : new.journal.ups ≡ old.journal.ups

-- a call of a connection that goes by its number alone was counted, and only the journal has changed besides
abbrev pub AfterNet : Near → Near → Type 0
AfterNet old new = new ≡ record old {
  journal = new.journal;
  store = count_call old.store;
  net_faults = faults_after (did_unless (is_to_fail old.store)) old.net_faults;
}

-- a connect was counted, also among those that the script refuses
abbrev pub AfterConnect : Near → Near → Type 0
AfterConnect old new = new ≡ record old {
  journal = new.journal;
  store = count_call old.store;
  refusals = old.refusals - 1;
  net_faults = faults_after (did_unless (is_to_fail old.store)) old.net_faults;
}

-- a read was counted, and the next one has the next cap
abbrev pub AfterRead : Near → Near → Type 0
AfterRead old new = new ≡ record old {
  journal = new.journal;
  store = count_call old.store;
  turn = turn_after old.pieces old.turn;
  net_faults = faults_after (did_unless (is_to_fail old.store)) old.net_faults;
}

-- a write was counted, and memory for it was refused or not
abbrev pub AfterPut : Near → Near → Did → Type 0
AfterPut old new result = new ≡ record old {
  journal = new.journal;
  store = record (count_call old.store) { starved = new.store.starved };
  net_faults = faults_after result old.net_faults;
}

-- a wait was counted, and memory for a kernel was refused or not
abbrev pub AfterWait : Near → Near → Did → Type 0
AfterWait old new result = new ≡ record old {
  journal = new.journal;
  store = record (count_call old.store) { starved = new.store.starved };
  net_faults = faults_after result old.net_faults;
  waits = one_more old.waits;
}

-- it has these files, as they were at the start too, an empty journal, this script and all counts at 0
pub record IsNew (near : Near) (content : Content) (script : Script) : Type 0 where
  pub journal : journal_of near ≡ Some []
  pub ups : near.journal.ups ≡ replicate 64 false
  pub files : files_of near.store ≡ content
  pub start : near.start.files.items ≡ content
  pub said : near.store.said ≡ []
  pub fails : near.store.fails ≡ script.fails
  pub pieces : near.pieces ≡ script.pieces
  pub refusals : near.refusals ≡ script.refusals
  pub fuse : near.store.fuse ≡ None
  pub firsts : (near.store.calls ≡ 0) × (near.turn ≡ 0) × (near.words ≡ 0) × (near.store.starved ≡ 0)
  pub counts : counts_of near ≡ record { disk = 0; net = 0; waits = 0; child = 0; rand = 0; say = 0; last = 0 }

-- a journal is told and has fewer entries
abbrev pub IsPast : ℕ → Option (List Entry) → Type 0
IsPast t journal = IsSomeAnd journal (λ entries. length entries < t)

-- these files are picked among those that a crash after the first t entries may leave
abbrev pub IsImageAt : ℕ → ℕ → Near → Content → Type 0
IsImageAt t choice near files =
    IsSomeAnd (journal_of near) (λ entries. IsPicked near.start.files.items (upto t entries) choice files)

-- at every path stands what one of the options allows that a crash after the first t entries may leave
abbrev pub MayBeLeft : ℕ → Near → Content → Type 0
MayBeLeft t near files =
    IsSomeAnd (journal_of near) (λ entries. (path : List ℕ) →
    IsAllowed (file_at path near.start.files.items) (file_at path files) (leaves (upto t entries) path))
