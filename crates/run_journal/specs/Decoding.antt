-- What the definitions need of the reading of bytes.
use Rattle.std.specs.Prelude.{◌≡◌, ℕ, List, [], ◌++◌, true, false, Some, None}
use Rattle.world.specs.declared.chan.Chan.{Chan}
use Rattle.zmtp_wire.specs.Meaning.{Begins}
use Rattle.run_journal.specs.Codec.{Codec}

-- nothing holds nothing; more bytes hold more messages and owe more; a handshake stays finished, and a fault stays
pub record IsDecoding (codec : Codec) : Type 0 where
  pub no_messages : (c : Chan) → codec.messages c [] ≡ []
  pub not_shaken : (c : Chan) → codec.shaken c [] ≡ false
  pub no_fault : (c : Chan) → codec.fault c [] ≡ None
  pub no_debt : (c : Chan) → codec.owed c [] ≡ []
  pub messages_grow : (c : Chan) (bytes more : List ℕ) → Begins (codec.messages c bytes) (codec.messages c (bytes ++ more))
  pub owed_grows : (c : Chan) (bytes more : List ℕ) → Begins (codec.owed c bytes) (codec.owed c (bytes ++ more))
  pub stays_shaken : (c : Chan) (bytes more : List ℕ) → codec.shaken c bytes ≡ true → codec.shaken c (bytes ++ more) ≡ true
  pub fault_stays : (c : Chan) (bytes more : List ℕ) (fault : ℕ × ℕ) → codec.fault c bytes ≡ Some fault → codec.fault c (bytes ++ more) ≡ Some fault
