-- What the tables of words that pass their tests say of where objects lie.
use mathlib.Core.Path.{◌≡◌, refl}
use Prim.Native.Nat.{ℕ, ◌+◌, ◌-◌, ◌<◌}
use mathlib.Core.List.{List}
use native.Mathlib.Omega.{arith}
use lib.ListN.{get_or}
use Rattle.layout.specs.Words.{open_depth, closed_count, ends_at, link_ends_at}
use Rattle.layout.specs.Spans.{open_span, inner_span, closed_span, Within, Lies}
use Rattle.layout.specs.Known.{Tested, WordsRead, Innermost}
use Rattle.layout.specs.declared.state.State.{State}
use Rattle.layout.proofs.Facts.{table-facts}

module _ {w : List ℕ} (t : Tested w) (i : ℕ) where
  pub open-lies : i < open_depth w → Lies w (open_span w i) (open_span w i)
  open-lies h =
      let k = table-facts _ _ t.head t.tables in
      record {
        is = refl;
        within =
            record {
              order = k.ends.next i h;
              inside = omega (arith, k.ends.under i h);
              link_order = k.link_ends.next i h;
              link_inside = omega (arith, k.link_ends.under i h);
            };
      }

  pub closed-lies : i < closed_count w → Lies w (closed_span w i) (closed_span w i)
  closed-lies h =
      let k = table-facts _ _ t.head t.tables in
      record {
        is = refl;
        within =
            record {
              order = omega (arith, k.begins.next i h);
              inside = k.begins.under i (omega arith);
              link_order = omega (arith, k.link_begins.next i h);
              link_inside = k.link_begins.under i (omega arith);
            };
      }

inner-within : {w : List ℕ} → Tested w → 0 < open_depth w → Within w (inner_span w)
inner-within {w} t h =
    let e : ends_at + (open_depth w - 1) + 1 ≡ ends_at + open_depth w = omega arith in
    let f : link_ends_at + (open_depth w - 1) + 1 ≡ link_ends_at + open_depth w = omega arith in
    rw (e, f) at (open-lies t (open_depth w - 1) (omega arith)).within

pub inner-lies : {w : List ℕ} {s : State} → WordsRead w s → 0 < s.depth
    → Innermost w s (record { from = get_or w (ends_at + (s.depth - 1)) 0; to = s.top; first = get_or w (link_ends_at + (s.depth - 1)) 0; last = s.link_top })
inner-lies r h = record { words = r; some = h; is = rw r.is refl; to_is = refl; last_is = refl; within = rw r.is (inner-within r.tested (rw r.is at h)) }
