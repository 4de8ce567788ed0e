-- The words that are read, under the facts of sound stores.
use native.Mathlib.Omega.{arith}
use Rattle.layout.proofs.Facts.{sound-facts}
use Rattle.layout.proofs.state.read.Goals as goal

pub word-p-requires : goal.word-p-requires
word-p-requires c = omega (arith, sound-facts _ _ c.requires)

pub word-c-requires : goal.word-c-requires
word-c-requires c = omega (arith, sound-facts _ _ c.requires)

pub word-d-requires : goal.word-d-requires
word-d-requires c = omega (arith, sound-facts _ _ c.requires)

pub word-requires : goal.word-requires
word-requires c = omega (arith, sound-facts _ _ c.requires)

pub word-requires-2 : goal.word-requires-2
word-requires-2 c = omega (arith, sound-facts _ _ c.requires)

pub word-requires-3 : goal.word-requires-3
word-requires-3 c = omega (arith, sound-facts _ _ c.requires)

pub word-requires-4 : goal.word-requires-4
word-requires-4 c = omega (arith, sound-facts _ _ c.requires)

pub word-requires-5 : goal.word-requires-5
word-requires-5 c = omega (arith, sound-facts _ _ c.requires)

pub returns : goal.returns
returns c =
    let d = c.word-d.ensures.0 in
    let k = c.word-c.ensures.0 in
    let p = c.word-p.ensures.0 in
    let h = c.requires in
    let links = rw p at c.word.ensures.0 in
    let top = rw d at c.word-2.ensures.0 in
    let low = rw k at c.word-3.ensures.0 in
    let link_top = rw d at c.word-4.ensures.0 in
    let link_low = rw (p, k) at c.word-5.ensures.0 in
    let f = sound-facts _ _ h in
    record {
      objects_is = p;
      links_is = links;
      closed_is = k;
      depth_is = d;
      top_is = top;
      low_is = low;
      link_top_is = link_top;
      link_low_is = link_low;
      bounds =
          record {
            some = rw p f.head.some;
            few = rw p f.head.few;
            few_links = rw links f.head.few_links;
            full = f.head.full;
            most = f.head.most;
            room = rw (p, links) f.head.room;
            closed = rw (p, k) f.head.closed;
            depth = rw d f.head.depth;
            apart = rw (top, low) f.apart;
            inside = rw low f.inside;
            link_apart = rw (link_top, link_low) f.link_apart;
            link_inside = rw (links, link_low) f.link_inside;
          };
      is_sound = h;
    }
