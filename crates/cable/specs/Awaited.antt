-- docs/RULES.md, 13.5: just the awaited frame as sending writes it, without a word of how it is read.
use Rattle.std.specs.Prelude.{◌≡◌, List, true, ℕ, ◌+◌, ◌*◌, ◌≤◌, ◌<◌, length}
use Rattle.std.proofs.Math.Pow.{are_bytes}
use Rattle.cable_frame.specs.Frame.{frame_size, most_frames, frame}
use Rattle.cable_judge.specs.Judge.{agrees, right_size}

-- s is frame n of m with the data d, while n is awaited and the first accepted count is c (0: none yet)
pub record Awaited (n c : ℕ) (s : List ℕ) (m : ℕ) (d : List ℕ) : Type 0 where
  pub below : n < m
  pub most : m ≤ most_frames
  pub agreed : agrees c m ≡ true
  pub size : right_size n m (length d) ≡ true
  pub bytes : are_bytes d ≡ true
  pub text : s ≡ frame n m d

-- the same, and its bytes find room in the output
pub record Rightly (n c : ℕ) (s out : List ℕ) : Type 0 where
  pub count : ℕ
  pub bytes : List ℕ
  pub frame : Awaited n c s count bytes
  pub room : n * frame_size + length bytes ≤ length out
