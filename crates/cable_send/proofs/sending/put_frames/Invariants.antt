-- The frames left, written behind those that stand, give the table's text.
use Rattle.std.proofs.Common.{◌≡◌, ◌+◌, length}
use Rattle.std.specs.Iterator.Adapters.{enumerate_source, enumerate_count}
use Rattle.std.specs.Slice.Iter.{chunks_rest, chunks_size}
use Rattle.lists.specs.Lists.{over}
use Rattle.cable_frame.specs.Frame.{frame_count, frame_size, sent}
use Rattle.cable_send.proofs.Cuts.{left}
use Rattle.cable_send.proofs.sending.put_frames.Given as goal

abbrev pub invariant-loop-i : goal.invariant-loop-i
invariant-loop-i l =
    let s = enumerate_source l.i-iterator in
    let n = enumerate_count l.i-iterator in
    let r = chunks_rest s in
    record {
      goes : (goal.iterator-loop-i).can_next l.i-iterator;
      finite : (goal.iterator-loop-i).is_finite l.i-iterator;
      size : chunks_size s ≡ frame_size;
      count : n + frame_count r ≡ l.count;
      room : l.at + length (left n l.count r) ≡ length (sent l.table);
      text : over l.at (left n l.count r) l.out ≡ over 0 (sent l.table) l.initial.out;
    }
