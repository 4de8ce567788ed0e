-- Each table passes by its neighbours; the tests are joined in their order.
use Rattle.std.proofs.Common.{◌+◌, leb, arith, rules, tests, of_calls}
use Rattle.std.proofs.lemmas.Fn.{always_returns_same}
use Rattle.sound_tables.proofs.Chains.{chained_is, rises_is, last_entry}
use Rattle.layout.specs.Words.{ends_at, link_ends_at, begins_at, link_begins_base}
use Rattle.layout.proofs.Facts.{tables-joined}
use Rattle.sound_tables.proofs.tables_ok.Goals as goal

pub returns : goal.returns
returns c =
    let k = c.read_counts-k.result in
    let e = c.read_counts-k.ensures in
    let ends = rises_is _ _ c.is_sorted.ensures.cases in
    let link_ends = rises_is _ _ c.is_sorted-2.ensures.cases in
    let begins =
    chained_is (λ a x. leb (x + 1) a) _ _ (c.is_sorted_by.ensures.cases (λ a x. leb (x + 1) a) (always_returns_same _ _ _ (λ a r f k. search (rules, of_calls, tests)))) in
    let link_begins =
    chained_is (λ a x. leb (x + 0) a) _ _ (c.is_sorted_by-2.ensures.cases (λ a x. leb (x + 0) a) (always_returns_same _ _ _ (λ a r f k. search (rules, of_calls, tests)))) in
    let w = c.args.records.now in
    let top = last_entry ends_at k.depth w (omega (arith, e.room, e.shallow)) in
    let link_top = last_entry link_ends_at k.depth w (omega (arith, e.room, e.shallow)) in
    let low = last_entry begins_at k.closed w (omega (arith, e.room, e.within)) in
    let link_low = last_entry (link_begins_base + k.objects) k.closed w (omega (arith, e.room, e.within)) in
    rw (ends, link_ends, begins, link_begins, c.apart.ensures, c.apart-2.ensures, top, link_top, low, link_low, e.objects_is, e.closed_is, e.depth_is) (tables-joined _)
