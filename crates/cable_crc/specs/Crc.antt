-- CRC-32 by bitwise division: reflected, polynomial EDB88320, start and final mask FFFFFFFF. In the catalogue: CRC-32/ISO-HDLC.
use Rattle.std.specs.Prelude.{ℕ, zero, suc, ◌/◌, ◌%◌, ◌<◌, ◌≡◌, List, eqb, fold, get_or}
use Rattle.std.specs.Int.Bits.{bit_xor}
use Rattle.lists.specs.Lists.{pick}

abbrev pub polynomial : ℕ
polynomial = 0xEDB88320

abbrev pub mask : ℕ
mask = 0xFFFFFFFF

-- one bit, the lowest, divided out
unfoldable pub bit_divided : ℕ → ℕ
bit_divided r = pick (eqb (r % 2) 0) (r / 2) (bit_xor (r / 2) polynomial)

-- so many bits divided out
unfoldable pub bits_divided : ℕ → ℕ → ℕ
bits_divided zero r = r
bits_divided (suc n) r = bits_divided n (bit_divided r)

-- the remainder after one byte more
unfoldable pub byte_divided : ℕ → ℕ → ℕ
byte_divided r b = bits_divided 8 (bit_xor r b)

-- the remainder after more bytes
unfoldable pub divided : ℕ → List ℕ → ℕ
divided r l = fold byte_divided r l

-- the check that a remainder gives
abbrev pub finished : ℕ → ℕ
finished r = bit_xor r mask

-- the CRC-32 of a list of bytes
unfoldable pub crc32 : List ℕ → ℕ
crc32 l = finished (divided mask l)

-- a table of remainders: entry k is k with its 8 bits divided out
pub record RightTable (table : List ℕ) : Type 0 where
  pub entry : (k : ℕ) → k < 256 → get_or table k 0 ≡ bits_divided 8 k
