-- docs/RULES.md, 13.5: the data of a stretch, read and divided.
use Rattle.std.specs.Prelude.{ℕ, List, Bool}
use Rattle.cable_crc.specs.Crc.{divided}
use Rattle.text.specs.Digits.{all_digits}
use Rattle.text_hex.specs.Hex.{bytes_of}
use Rattle.cable_data.specs.declared.Pairs.{Pairs}

-- what pairs give: whether every character is a digit, and the remainder after their bytes
abbrev pub pairs_as : Bool → ℕ → Pairs
pairs_as all r = record { all = all; remainder = r }

abbrev pub pairs_of : ℕ → List ℕ → Pairs
pairs_of r s = pairs_as (all_digits 16 s) (divided r (bytes_of s))
