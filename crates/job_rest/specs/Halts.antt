-- docs/RULES.md, 12.6: what the code of the lines behind the limits answers, by the job.
use Rattle.std.specs.Prelude.{ℕ, ◌+◌, ◌*◌, ◌/◌, ◌≤◌, ◌≡◌, List, true, length, take, drop}
use Rattle.job_lines.specs.Lines.{cut}
use Rattle.layout.specs.Words.{limits_in}
use Rattle.layout.specs.Sound.{sound}
use Rattle.layout.specs.Decode.{decode}
use Rattle.job_items.specs.Item.{piece_least}
use Rattle.job_calls.specs.Leads.{is_on, meant}
use Rattle.job_rules.specs.Job.{most_text, Turn, on, writing, run}
use Rattle.job_header.specs.Header.{piece_line}
use Rattle.job_rest.specs.declared.Halt.{Halt}

-- how many piece lines a text can have, and some more
abbrev pub most_pieces : ℕ
most_pieces = most_text / piece_least + 1

-- line n led to t, with the text from `from` on and the record words w₀ left; the stores and the ids are those at the end
pub record Halts (text : List ℕ) (n from : ℕ) (t : Turn) (w₀ : List ℕ) (h : Halt) (b w ids : List ℕ) : Type 0 where
  pub is_sound : sound b w ≡ true
  pub limits : limits_in w ≡ limits_in w₀
  pub over : is_on h.lead ≡ true → length text ≤ h.at
  pub short : h.line ≤ h.at + piece_line
  pub inside : h.at ≤ length text
  pub leads : (room : ℕ) → run room h.line (cut (drop h.at text)) (meant h.lead b w ids) ≡ run room n (cut (drop from text)) t

-- the same between two lines: the text from `at` on is left, and `count` ids are known
pub record Going (text : List ℕ) (from : ℕ) (t : Turn) (w₀ : List ℕ) (at line count : ℕ) (b w ids : List ℕ) : Type 0 where
  pub is_sound : sound b w ≡ true
  pub limits : limits_in w ≡ limits_in w₀
  pub inside : at ≤ length text
  pub few : count * piece_least ≤ at
  pub short : line ≤ at + piece_line
  pub leads : (room : ℕ) → run room line (cut (drop at text)) (on (writing (decode b w) (take count ids))) ≡ run room piece_line (cut (drop from text)) t
