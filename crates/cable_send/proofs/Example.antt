-- The text of a table of one byte, computed.
use mathlib.Core.Path.{◌≡◌, refl, sym}
use mathlib.Core.List.{[], ◌∷◌}
use Rattle.big_endian.specs.BigEndian.{big_endian}
use Rattle.cable_crc.specs.Crc.{crc32}
use Rattle.cable_crc.proofs.Xor.{quick_xor}
use Rattle.cable_crc.proofs.Division.{quick_bits}
use Rattle.cable_crc.proofs.Checked.{quick_divided, quick_crc, quick-crc}
use Rattle.text.specs.Digits.{digits}
use Rattle.text.specs.Decimal.{width_of}
use Rattle.text_hex.specs.Hex.{hex_pairs}
use Rattle.cable_frame.specs.Frame.{checked, frame, frames_from, sent}

one-check : crc32 (checked 0 1 (97 ∷ [])) ≡ 0xc5a77421
unfolding big_endian quick_crc quick_divided quick_bits quick_xor
one-check = sym (quick-crc (checked 0 1 (97 ∷ [])) refl)

-- frame=0, of=1, data=61, check=c5a77421
pub one_byte : sent (97 ∷ []) ≡ 102 ∷ 114 ∷ 97 ∷ 109 ∷ 101 ∷ 61 ∷ 48 ∷ 10 ∷ 111 ∷ 102 ∷ 61 ∷ 49 ∷ 10 ∷ 100 ∷ 97 ∷ 116 ∷ 97 ∷ 61 ∷ 54 ∷ 49 ∷ 10 ∷ 99 ∷ 104 ∷ 101 ∷ 99 ∷ 107 ∷ 61 ∷ 99 ∷ 53 ∷ 97 ∷ 55 ∷ 55 ∷ 52 ∷ 50 ∷ 49 ∷ 10 ∷ []
unfolding frames_from frame digits width_of hex_pairs
one_byte = rw one-check
