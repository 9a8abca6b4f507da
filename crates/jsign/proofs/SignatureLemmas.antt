-- How long a signature is.
use Rattle.std.proofs.Common.{◌≡◌, ℕ, ◌++◌, List, length, arith}
use Rattle.sha2.specs.Sha256.{sha256}
use Rattle.sha2.proofs.Facts256.{length-sha256}
use Rattle.hex.specs.Hex.{lower_digits}
use Rattle.hex.proofs.HexLemmas.{length-encode_with}
use Rattle.jsign.specs.Hmac.{hmac, pad_block, signature}

hmac-length : (key message : List ℕ) → length (hmac key message) ≡ 32
unfolding hmac
hmac-length key message = length-sha256 (pad_block 0x5c key ++ sha256 (pad_block 0x36 key ++ message))

pub signature-length : (key header parent metadata content : List ℕ) → length (signature key header parent metadata content) ≡ 64
unfolding signature
signature-length key header parent metadata content =
    let message : List ℕ = header ++ parent ++ metadata ++ content in
    omega (arith, length-encode_with lower_digits (hmac key message), hmac-length key message)
