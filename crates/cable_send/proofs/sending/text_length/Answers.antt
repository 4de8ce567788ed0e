-- The lengths summed so far and the length of the frames left.
use Rattle.std.proofs.Common.{rules, ◌≡◌, length, min, ap, ◌∙◌, arith}
use Rattle.std.specs.Iterator.Adapters.{enumerate_source, enumerate_count}
use Rattle.std.specs.Slice.Iter.{chunks_rest}
use Rattle.text.specs.Decimal.{width}
use Rattle.text.proofs.Decimals.{width-ten}
use Rattle.cable_frame.specs.Frame.{frame_size}
use Rattle.cable_send.proofs.Cuts.{left-none, count-next, left-length}
use Rattle.cable_send.proofs.sending.text_length.Goals as goal

pub overflow_add-sum : goal.overflow_add-sum
overflow_add-sum c =
    let v = c.loop-i.invariant in
    let s = c.in-Some.ensures.steps in
    omega (arith, c.length_of-sum.ensures, s.0.1.1, s.1, v.size, v.count, v.few, width-ten c.in-Some.i, width-ten c.args.count)

pub loop-i-preserved : goal.loop-i-preserved
loop-i-preserved c =
    let l = c.loop-i in
    let v = l.invariant in
    let s = c.in-Some.ensures.steps in
    let p = c.length_of-sum.ensures in
    let i = enumerate_count l.i-iterator in
    let m = c.args.count in
    let r = chunks_rest (enumerate_source l.i-iterator) in
    let y = chunks_rest (enumerate_source c.next.new.self) in
    let x = c.in-Some.part.now in
    let n : length x ≡ min frame_size (length r) = s.0.1.1 ∙ ap (λ k. min k (length r)) v.size in
    record {
      goes = search rules;
      finite = search rules;
      size = s.0.0 ∙ v.size;
      count = omega (arith, s.2, v.count, count-next i m r x y s.0.1.2 s.0.1.0 n);
      few = omega (arith, p, n, s.1, s.2, v.few, width-ten c.in-Some.i, width-ten m);
      text = rw s.2 (omega (arith, p, ap width s.1, v.text, left-length i m r x y s.0.1.2 s.0.1.0 n));
    }

pub returns : goal.returns
returns c =
    let l = c.loop-i in
    omega (arith, l.invariant.text, ap length (left-none (enumerate_count l.i-iterator) c.args.count (chunks_rest (enumerate_source l.i-iterator)) c.in-None.ensures.steps.0.1.0))
