-- What the search for a line feed tells.
use mathlib.Core.Path.{sym}
use Prim.Native.Nat.{ℕ}
use lib.Dec.{eqb}
use borrow.Author.Rules.{rules}
use Rattle.std.proofs.lemmas.Iterator.{YieldsList-from_slice}
use Rattle.std.proofs.lemmas.Iterator.Search.{position_from_yields_List}
use Rattle.job_lines.specs.Lines.{line_feed}
use Rattle.job_lines.proofs.Cutting.{line-some, line-none}
use Rattle.job_lines.proofs.line_length.Goals as goal

pub returns-in-Some : goal.returns-in-Some
returns-in-Some c =
    let t = c.args.rest.now in
    let e = position_from_yields_List (λ (x : ℕ). eqb x line_feed) _ _ _ c.position.ensures.ran (YieldsList-from_slice t cc) (λ x b q k. search rules) in
    sym (line-some t e c.in-Some.n c.in-Some.is)

pub returns-in-None : goal.returns-in-None
returns-in-None c =
    let t = c.args.rest.now in
    let e = position_from_yields_List (λ (x : ℕ). eqb x line_feed) _ _ _ c.position.ensures.ran (YieldsList-from_slice t cc) (λ x b q k. search rules) in
    sym (line-none t e c.in-None.is)
