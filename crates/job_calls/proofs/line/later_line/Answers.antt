-- By what the line says.
use Rattle.job_calls.proofs.Values.{pairs-most}
use Rattle.job_calls.proofs.Turning.{turn_by, later-breach, leads-more}
use Rattle.job_items.proofs.Long.{piece-long}
use lib.ListN.{take}
use native.Mathlib.Omega.{arith}
use Prim.Native.Nat.{◌+◌}
use mathlib.Core.Path.{sym}
use borrow.Author.Rules.{rules}
use Rattle.job_calls.proofs.line.later_line.Goals as goal

pub piece_line-requires : goal.piece_line-requires
piece_line-requires c =
    let pre = c.requires in
    let args = c.args in
    let pairs = c.pairs in
    (pre.0, rw pairs.ensures (omega (arith, pairs-most args.line.now)), search rules)

pub returns-in-Some-Piece : goal.returns-in-Some-Piece
returns-in-Some-Piece c =
    let args = c.args in
    let e = rw c.in-Some-Piece.field-0-is at c.in-Some-Piece.ensures in (
      omega (arith, c.piece_line.ensures.few, piece-long args.line.now (sym e)),
      rw (turn_by args.line.now args.store.now args.records.now (take args.count args.ids.now) e) (rw c.pairs.ensures at c.piece_line.ensures),
    )

pub returns-in-Some-Link : goal.returns-in-Some-Link
returns-in-Some-Link c =
    let args = c.args in
    let e = rw c.in-Some-Link.field-0-is at c.in-Some-Link.ensures in (
      omega (arith, c.link_line.ensures.few),
      rw (turn_by args.line.now args.store.now args.records.now (take args.count args.ids.now) e) (leads-more (args.count + 1) (omega arith) c.link_line.ensures),
    )

pub returns-in-Some-End : goal.returns-in-Some-End
returns-in-Some-End c =
    let args = c.args in
    let e = rw c.in-Some-End.field-0-is at c.in-Some-End.ensures in (
      omega (arith, c.end_line.ensures.few),
      rw (turn_by args.line.now args.store.now args.records.now (take args.count args.ids.now) e) (leads-more (args.count + 1) (omega arith) c.end_line.ensures),
    )

pub returns-in-None : goal.returns-in-None
returns-in-None c =
    let args = c.args in
    (omega arith, rw (turn_by args.line.now args.store.now args.records.now (take args.count args.ids.now) c.in-None.ensures) (later-breach _ _ _ _ c.requires.0))
