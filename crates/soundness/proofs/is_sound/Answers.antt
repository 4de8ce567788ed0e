-- Each refusal is a test that fails; past the others, the closed objects decide.
use mathlib.Core.Path.{◌≡◌, sym, ◌∙◌}
use mathlib.Core.List.{List}
use mathlib.Core.Bool.{Bool, true, and-true}
use Prim.Native.Nat.{ℕ}
use native.Mathlib.Omega.{arith}
use lib.ListN.{length}
use Rattle.lists.specs.Lists.{part, holds, zeros}
use Rattle.lists.proofs.Holds.{holds_not}
use Rattle.layout.specs.Words.{top, low}
use Rattle.layout.specs.Sound.{head_ok, table_tests, sound_tests, sound}
use Rattle.layout.specs.Known.{Head}
use Rattle.layout.proofs.Facts.{Tables, head-facts, own-head, table-facts}
use Rattle.soundness.proofs.is_sound.Goals as goal

header : (b w : List ℕ) {r : Bool} → r ≡ head_ok (length b) w → r ≡ true → Head (length b) w
header b w e h = head-facts _ _ (sym e ∙ h)

tables : (b w : List ℕ) {r s : Bool} → r ≡ head_ok (length b) w → r ≡ true → s ≡ holds (table_tests w) → s ≡ true → Tables (length b) w
tables b w e h f t = table-facts _ _ (header b w e h) (sym f ∙ t)

gap : (b w : List ℕ) {i j : ℕ} {z : Bool} → i ≡ top w → j ≡ low w → z ≡ zeros (part i j b) → zeros (part (top w) (low w) b) ≡ z
gap b w e f h = rw (← e, ← f) (sym h)

pub returns-then-not-head_ok : goal.returns-then-not-head_ok
unfolding sound sound_tests
returns-then-not-head_ok c = sym (holds_not _ 0 (sym c.head_ok.ensures ∙ c.if-not-head_ok.true))

pub tables_ok-requires : goal.tables_ok-requires
tables_ok-requires c = own-head (header c.args.store.now c.args.records.now c.head_ok.ensures c.if-not-head_ok.false)

pub returns-then-not-tables_ok : goal.returns-then-not-tables_ok
unfolding sound sound_tests
returns-then-not-tables_ok c = sym (holds_not _ 1 (sym c.tables_ok.ensures ∙ c.if-not-tables_ok.true))

pub word-requires : goal.word-requires
word-requires c = omega (arith, header c.args.store.now c.args.records.now c.head_ok.ensures c.if-not-head_ok.false)

pub word-top-requires : goal.word-top-requires
word-top-requires c = omega (arith, header c.args.store.now c.args.records.now c.head_ok.ensures c.if-not-head_ok.false)

pub word-requires-2 : goal.word-requires-2
word-requires-2 c = omega (arith, header c.args.store.now c.args.records.now c.head_ok.ensures c.if-not-head_ok.false)

pub word-low-requires : goal.word-low-requires
word-low-requires c = omega (arith, header c.args.store.now c.args.records.now c.head_ok.ensures c.if-not-head_ok.false)

pub slice_bounds-all_zero-count : goal.slice_bounds-all_zero-count
slice_bounds-all_zero-count c =
    let a = c.args in
    let w = a.records.now in
    let i : c.word-top.result ≡ top w = rw c.word.ensures.0 at c.word-top.ensures.0 in
    let j : c.word-low.result ≡ low w = rw c.word-2.ensures.0 at c.word-low.ensures.0 in
    let t = tables a.store.now w c.head_ok.ensures c.if-not-head_ok.false c.tables_ok.ensures c.if-not-tables_ok.false in
    omega (arith, t)

pub slice_bounds-all_zero-start : goal.slice_bounds-all_zero-start
slice_bounds-all_zero-start c =
    let a = c.args in
    let w = a.records.now in
    let i : c.word-top.result ≡ top w = rw c.word.ensures.0 at c.word-top.ensures.0 in
    let j : c.word-low.result ≡ low w = rw c.word-2.ensures.0 at c.word-low.ensures.0 in
    let t = tables a.store.now w c.head_ok.ensures c.if-not-head_ok.false c.tables_ok.ensures c.if-not-tables_ok.false in
    omega (arith, t)

pub slice_bounds-all_zero-end : goal.slice_bounds-all_zero-end
slice_bounds-all_zero-end c =
    let a = c.args in
    let w = a.records.now in
    let i : c.word-top.result ≡ top w = rw c.word.ensures.0 at c.word-top.ensures.0 in
    let j : c.word-low.result ≡ low w = rw c.word-2.ensures.0 at c.word-low.ensures.0 in
    let t = tables a.store.now w c.head_ok.ensures c.if-not-head_ok.false c.tables_ok.ensures c.if-not-tables_ok.false in
    omega (arith, t)

pub returns-then-not-all_zero : goal.returns-then-not-all_zero
unfolding sound sound_tests
returns-then-not-all_zero c =
    let w = c.args.records.now in
    let i : c.word-top.result ≡ top w = rw c.word.ensures.0 at c.word-top.ensures.0 in
    let j : c.word-low.result ≡ low w = rw c.word-2.ensures.0 at c.word-low.ensures.0 in
    sym (holds_not _ 2 (gap c.args.store.now w i j c.all_zero.ensures ∙ c.if-not-all_zero.true))

pub opens_ok-requires : goal.opens_ok-requires
opens_ok-requires c =
    (header c.args.store.now c.args.records.now c.head_ok.ensures c.if-not-head_ok.false, sym c.tables_ok.ensures ∙ c.if-not-tables_ok.false)

pub returns-then-not-opens_ok : goal.returns-then-not-opens_ok
unfolding sound sound_tests
returns-then-not-opens_ok c = sym (holds_not _ 3 (sym c.opens_ok.ensures ∙ c.if-not-opens_ok.true))

pub closed_ok-requires : goal.closed_ok-requires
closed_ok-requires c =
    (header c.args.store.now c.args.records.now c.head_ok.ensures c.if-not-head_ok.false, sym c.tables_ok.ensures ∙ c.if-not-tables_ok.false)

pub returns : goal.returns
unfolding sound sound_tests holds
returns c =
    let w = c.args.records.now in
    let i : c.word-top.result ≡ top w = rw c.word.ensures.0 at c.word-top.ensures.0 in
    let j : c.word-low.result ≡ low w = rw c.word-2.ensures.0 at c.word-low.ensures.0 in
    let headed = sym c.head_ok.ensures ∙ c.if-not-head_ok.false in
    let tabled = sym c.tables_ok.ensures ∙ c.if-not-tables_ok.false in
    let gapped = gap c.args.store.now w i j c.all_zero.ensures ∙ c.if-not-all_zero.false in
    let opens = sym c.opens_ok.ensures ∙ c.if-not-opens_ok.false in
    c.closed_ok.ensures ∙ sym (rw (headed, tabled, gapped, opens, and-true))
