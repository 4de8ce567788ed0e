-- What a line says, by the first of the keys that it starts with.
use Rattle.job_items.proofs.Keys.{starts-same, no_item, item-piece, item-link, item-end, item-other}
use Rattle.job_items.specs.Item.{codes, is_line, piece_key, link_key, end_key}
use mathlib.Core.Bool.{true}
use mathlib.Core.Path.{◌≡◌, sym, ◌∙◌}
use Rattle.job_items.proofs.item_of.Goals as goal

pub returns-then-not-is_line : goal.returns-then-not-is_line
returns-then-not-is_line c = sym (no_item c.args.line.now (sym c.is_line.ensures ∙ c.if-not-is_line.true))

pub returns-then-starts_with : goal.returns-then-starts_with
unfolding codes
returns-then-starts_with c =
    let l = c.args.line.now in
    let e : is_line l ≡ true = sym c.is_line.ensures ∙ c.if-not-is_line.false in
    c.piece_item.ensures ∙ rw c.pairs.ensures (sym (item-piece l e (sym (c.starts_with.ensures.value ∙ starts-same piece_key l) ∙ c.if-starts_with.true)))

pub returns-then-starts_with-2 : goal.returns-then-starts_with-2
unfolding codes
returns-then-starts_with-2 c =
    let l = c.args.line.now in
    let e : is_line l ≡ true = sym c.is_line.ensures ∙ c.if-not-is_line.false in
    c.link_item.ensures ∙ rw c.value.ensures (sym (item-link l e (sym (c.starts_with.ensures.value ∙ starts-same piece_key l) ∙ c.if-starts_with.false) (sym (c.starts_with-2.ensures.value ∙ starts-same link_key l) ∙ c.if-starts_with-2.true)))

pub returns-then-starts_with-3 : goal.returns-then-starts_with-3
unfolding codes
returns-then-starts_with-3 c =
    let l = c.args.line.now in
    let e : is_line l ≡ true = sym c.is_line.ensures ∙ c.if-not-is_line.false in
    c.end_item.ensures ∙ rw c.value-then-starts_with-3.ensures (sym (item-end l e (sym (c.starts_with.ensures.value ∙ starts-same piece_key l) ∙ c.if-starts_with.false) (sym (c.starts_with-2.ensures.value ∙ starts-same link_key l) ∙ c.if-starts_with-2.false) (sym (c.starts_with-3.ensures.value ∙ starts-same end_key l) ∙ c.if-starts_with-3.true)))

pub returns : goal.returns
unfolding codes
returns c =
    let l = c.args.line.now in
    let e : is_line l ≡ true = sym c.is_line.ensures ∙ c.if-not-is_line.false in
    sym (item-other l e (sym (c.starts_with.ensures.value ∙ starts-same piece_key l) ∙ c.if-starts_with.false) (sym (c.starts_with-2.ensures.value ∙ starts-same link_key l) ∙ c.if-starts_with-2.false) (sym (c.starts_with-3.ensures.value ∙ starts-same end_key l) ∙ c.if-starts_with-3.false))
