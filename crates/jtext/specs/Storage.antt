-- The bytes of a text, wherever they lie.
use Rattle.std.specs.Prelude.{ℕ, List, string_bytes}
use Rattle.jtext.specs.declared.storage.Storage.{Storage}
use Rattle.jtext.specs.declared.storage.Storage.TheVariants.{Inline, Heap}

-- the bytes, in the value itself or on the heap
abbrev pub bytes_of : Storage → List ℕ
bytes_of (Inline text) = text.bytes
bytes_of (Heap text) = string_bytes text
