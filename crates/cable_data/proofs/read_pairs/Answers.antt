-- What is left to read, from here on, gives what reading all gives; and so do the digits and the remainder.
use Rattle.cable_data.proofs.Dividing.{divide-turn, divide-end}
use Rattle.cable_data.specs.Pairs.{pairs_as}
use Rattle.text_hex.proofs.PairTurns.{bytes-turn, bytes-end, both-turn, both_end}
use mathlib.Core.Path.{sym, ap₂, ◌∙◌}
use borrow.Author.Rules.{rules}
use Rattle.cable_data.proofs.read_pairs.Goals as goal

pub loop-i-preserved : goal.loop-i-preserved
loop-i-preserved c =
    let l = c.loop-i in
    let a = c.args in
    let h = c.value_by-high.ensures in
    let k = c.value_by-low.ensures in
    let p = c.pair_of-byte.ensures in (
      rw (h, k) (both-turn l.all l.i a.s.now (search rules)) ∙ l.invariant.0,
      rw (p, h, k) (bytes-turn l.i a.s.now l.body (search rules) (search rules)) ∙ l.invariant.1,
      rw (c.next-rest.ensures, p, h, k) (divide-turn l.rest l.i a.s.now (search rules)) ∙ l.invariant.2,
    )

pub returns : goal.returns
returns c =
    let l = c.loop-i in
    let a = c.args in
    (ap₂ pairs_as (sym (both_end l.all l.i a.s.now (search rules)) ∙ l.invariant.0) (sym (divide-end l.rest l.i a.s.now (search rules)) ∙ l.invariant.2), sym (bytes-end l.i a.s.now l.body (search rules)) ∙ l.invariant.1)
