-- The frames left, written behind those that stand, give the table's text.
use Rattle.std.proofs.Common.{rules, ◌≡◌, length, min, sym, ap, ◌∙◌, arith}
use Rattle.std.specs.Iterator.Adapters.{enumerate_source, enumerate_count}
use Rattle.std.specs.Slice.Iter.{chunks_rest}
use Rattle.lists.proofs.Runs.{over_none}
use Rattle.text.specs.Decimal.{width}
use Rattle.cable_frame.specs.Frame.{frame_size}
use Rattle.cable_send.proofs.Cuts.{left-none, count-next, left-length, left_put}
use Rattle.cable_send.proofs.sending.put_frames.Goals as goal

pub put_frame-at-requires : goal.put_frame-at-requires
put_frame-at-requires c =
    let l = c.loop-i in
    let v = l.invariant in
    let s = c.in-Some.ensures.steps in
    let r = chunks_rest (enumerate_source l.i-iterator) in
    let n : length c.in-Some.part.now ≡ min frame_size (length r) = s.0.1.1 ∙ ap (λ k. min k (length r)) v.size in
    omega (arith, ap width s.1, v.room, left-length (enumerate_count l.i-iterator) c.args.count r c.in-Some.part.now _ s.0.1.2 s.0.1.0 n)

pub loop-i-preserved : goal.loop-i-preserved
loop-i-preserved c =
    let l = c.loop-i in
    let v = l.invariant in
    let s = c.in-Some.ensures.steps in
    let p = c.put_frame-at.ensures in
    let i = enumerate_count l.i-iterator in
    let m = c.args.count in
    let r = chunks_rest (enumerate_source l.i-iterator) in
    let y = chunks_rest (enumerate_source c.next.new.self) in
    let x = c.in-Some.part.now in
    let n : length x ≡ min frame_size (length r) = s.0.1.1 ∙ ap (λ k. min k (length r)) v.size in
    record {
      goes = search rules;
      finite = search rules;
      size = s.0.0 ∙ v.size;
      count = omega (arith, s.2, v.count, count-next i m r x y s.0.1.2 s.0.1.0 n);
      room = rw s.2 (omega (arith, p.0, ap width s.1, v.room, left-length i m r x y s.0.1.2 s.0.1.0 n));
      text = rw (s.2, p.1, p.0, s.1) (left_put i m r x y s.0.1.2 s.0.1.0 n l.at l.out (omega (arith, v.room))) ∙ v.text;
    }

pub returns : goal.returns
returns c =
    let l = c.loop-i in
    let e = left-none (enumerate_count l.i-iterator) c.args.count (chunks_rest (enumerate_source l.i-iterator)) c.in-None.ensures.steps.0.1.0 in
    sym (rw e (over_none l.at l.out)) ∙ l.invariant.text
