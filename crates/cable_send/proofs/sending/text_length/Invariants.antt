-- The lengths summed so far and the length of the frames left.
use Rattle.std.proofs.Common.{◌≡◌, ℕ, ◌+◌, ◌*◌, ◌≤◌, length}
use Rattle.std.specs.Iterator.Adapters.{enumerate_source, enumerate_count}
use Rattle.std.specs.Slice.Iter.{chunks_rest, chunks_size}
use Rattle.cable_frame.specs.Frame.{frame_count, frame_size, sent}
use Rattle.cable_send.proofs.Cuts.{left}
use Rattle.cable_send.proofs.sending.text_length.Given as goal

-- no frame is longer: two numbers of ten digits, and all data that a frame holds
abbrev longest : ℕ
longest = 1076

abbrev pub invariant-loop-i : goal.invariant-loop-i
invariant-loop-i l =
    let s = enumerate_source l.i-iterator in
    let n = enumerate_count l.i-iterator in
    let r = chunks_rest s in
    record {
      goes : (goal.iterator-loop-i).can_next l.i-iterator;
      finite : (goal.iterator-loop-i).is_finite l.i-iterator;
      size : chunks_size s ≡ frame_size;
      count : n + frame_count r ≡ l.count;
      few : l.sum ≤ n * longest;
      text : l.sum + length (left n l.count r) ≡ length (sent l.table);
    }
