-- `limit` meets its contract.
use Rattle.job_items.specs.Item.{is_line, starts_with, limit}
use mathlib.Core.Bool.{true, false}
use mathlib.Core.Path.{◌≡◌, sym, ◌∙◌}
use Rattle.job_items.proofs.Keys.{starts-same}
use Rattle.job_items.proofs.limit.Goals as goal

pub returns-then-not-is_line : goal.returns-then-not-is_line
unfolding limit
returns-then-not-is_line c =
    let a : is_line c.args.line.now ≡ false = sym c.is_line.ensures ∙ c.if-not-is_line.true in
    rw a

pub returns-then-not-starts_with : goal.returns-then-not-starts_with
unfolding limit
returns-then-not-starts_with c =
    let a : is_line c.args.line.now ≡ true = sym c.is_line.ensures ∙ c.if-not-is_line.false in
    let b : starts_with c.args.key.now c.args.line.now ≡ false = sym (c.starts_with.ensures.value ∙ starts-same c.args.key.now c.args.line.now) ∙ c.if-not-starts_with.true in
    rw (a, b)

pub returns : goal.returns
unfolding limit
returns c =
    let a : is_line c.args.line.now ≡ true = sym c.is_line.ensures ∙ c.if-not-is_line.false in
    let b : starts_with c.args.key.now c.args.line.now ≡ true = sym (c.starts_with.ensures.value ∙ starts-same c.args.key.now c.args.line.now) ∙ c.if-not-starts_with.false in
    rw (a, b, c.read_number.ensures, c.value.ensures)
