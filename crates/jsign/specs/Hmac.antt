-- HMAC (RFC 2104, section 2) with SHA-256 (FIPS 180-4), whose block has 64 octets, and the signature of a Jupyter message (Jupyter messaging 5.3, "The wire protocol").
use Rattle.std.specs.Prelude.{ℕ, ◌-◌, List, ◌++◌, length, map, replicate, nat_lt, if◌then◌else◌, bit_xor}
use Rattle.sha2.specs.Sha256.{sha256}
use Rattle.hex.specs.Hex.{encode_lower}

-- the key, hashed first where it has more than 64 octets
abbrev pub short_key : List ℕ → List ℕ
short_key key = if nat_lt 64 (length key) then sha256 key else key

-- the key filled up to a block with zeros
unfoldable pub block_key : List ℕ → List ℕ
block_key key = short_key key ++ replicate (64 - length (short_key key)) 0

-- the block with each octet combined with a pad octet
unfoldable pub pad_block : ℕ → List ℕ → List ℕ
pad_block pad key = map (λ b. bit_xor b pad) (block_key key)

-- H(key with 5C, H(key with 36, message))
unfoldable pub hmac : List ℕ → List ℕ → List ℕ
hmac key message = sha256 (pad_block 0x5c key ++ sha256 (pad_block 0x36 key ++ message))

-- of header, parent header, metadata and content as they came: the lower-case hexadecimal digits of their code
unfoldable pub signature : List ℕ → List ℕ → List ℕ → List ℕ → List ℕ → List ℕ
signature key header parent metadata content = encode_lower (hmac key (header ++ parent ++ metadata ++ content))
