-- A table as frames of text: what sending writes.
use Rattle.std.specs.Prelude.{ℕ, zero, suc, ◌+◌, ◌-◌, ◌*◌, ◌/◌, List, [], ◌∷◌, ◌++◌, codes, length, take, drop}
use Rattle.big_endian.specs.BigEndian.{big_endian}
use Rattle.cable_crc.specs.Crc.{crc32}
use Rattle.text.specs.Decimal.{width, decimal}
use Rattle.text_hex.specs.Hex.{hex_word, hex_pairs}

-- the keys of the four lines
abbrev pub frame_key : List ℕ
frame_key = codes "frame="

abbrev pub of_key : List ℕ
of_key = codes "of="

abbrev pub data_key : List ℕ
data_key = codes "data="

abbrev pub check_key : List ℕ
check_key = codes "check="

abbrev pub line_feed : ℕ
line_feed = 10

-- a key and its value, ended by a line feed
abbrev pub line_of : List ℕ → List ℕ → List ℕ
line_of key value = key ++ (value ++ (line_feed ∷ []))

-- number and count as four big-endian bytes each
abbrev pub numbered : ℕ → ℕ → List ℕ
numbered n m = big_endian 4 n ++ big_endian 4 m

-- what the check is taken over: number and count, then the data
abbrev pub checked : ℕ → ℕ → List ℕ → List ℕ
checked n m d = numbered n m ++ d

-- frame n of m, with the data d
unfoldable pub frame : ℕ → ℕ → List ℕ → List ℕ
frame n m d =
    line_of frame_key (decimal n) ++ (line_of of_key (decimal m) ++ (line_of data_key (hex_pairs d) ++ line_of check_key (hex_word (crc32 (checked n m d)))))

-- how long the lines of a number with a key of k characters, of so many bytes and of a check are
abbrev pub number_length : ℕ → ℕ → ℕ
number_length k n = k + (width n + 1)

abbrev pub body_length : ℕ → ℕ
body_length size = size * 2 + 6

abbrev pub check_length : ℕ
check_length = 15

-- how long frame n of m is with so many bytes
abbrev pub frame_length : ℕ → ℕ → ℕ → ℕ
frame_length n m size = width n + width m + size * 2 + 32

-- how many bytes of a table a frame holds; the last may hold fewer
abbrev pub frame_size : ℕ
frame_size = 512

abbrev pub most_frames : ℕ
most_frames = 32768

-- the longest table that is sent
abbrev pub most_bytes : ℕ
most_bytes = most_frames * frame_size

-- how many frames a table is cut into
abbrev pub frame_count : List ℕ → ℕ
frame_count t = (length t + (frame_size - 1)) / frame_size

-- the next k frames, from number n of m on, of what is left of a table
unfoldable pub frames_from : ℕ → ℕ → ℕ → List ℕ → List ℕ
frames_from zero n m t = []
frames_from (suc k) n m t = frame n m (take frame_size t) ++ frames_from k (suc n) m (drop frame_size t)

-- a table's text
abbrev pub sent : List ℕ → List ℕ
sent t = frames_from (frame_count t) 0 (frame_count t) t
