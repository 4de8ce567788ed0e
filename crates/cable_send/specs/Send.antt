-- Sending's answer: a table of another length is told first, then an output without room.
use Rattle.std.specs.Prelude.{ℕ, List, Bool, ◌&&◌, leb, length, Result, Ok, Err}
use Rattle.lists.specs.Lists.{pick, over}
use Rattle.cable_frame.specs.Frame.{most_bytes, sent}
use Rattle.answer.specs.declared.Refusal.{Refusal}

abbrev pub in_range : List ℕ → Bool
in_range t = leb 1 (length t) && leb (length t) most_bytes

-- the answer, with room for so many bytes
unfoldable pub send_of : List ℕ → ℕ → Result ℕ Refusal
send_of t room =
    pick (in_range t) (pick (leb (length (sent t)) room) (Ok (length (sent t))) (Err Refusal.OutputShort)) (Err Refusal.OutOfRange)

-- the output after it: a refusal writes nothing
unfoldable pub send_out : List ℕ → List ℕ → List ℕ
send_out t out = pick (in_range t && leb (length (sent t)) (length out)) (over 0 (sent t) out) out
