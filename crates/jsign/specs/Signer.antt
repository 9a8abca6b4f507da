-- What a signer holds (RFC 2104, section 4: both blocks of the key are hashed once and kept).
use Rattle.std.specs.Prelude.{ℕ, List}
use Rattle.sha2.specs.Hashers.{Holds256}
use Rattle.jsign.specs.Hmac.{pad_block}
use Rattle.jsign.specs.declared.signer.Signer.{Signer}

-- its hashers hold the blocks of the key
pub record SignsUnder (s : Signer) (key : List ℕ) : Type 0 where
  pub inner : Holds256 s.inner (pad_block 0x36 key)
  pub outer : Holds256 s.outer (pad_block 0x5c key)
