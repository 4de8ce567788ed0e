-- Each return is one way of `close_step`.
use mathlib.Core.Path.{◌≡◌, sym, ◌∙◌}
use native.Mathlib.Omega.{arith}
use Rattle.layout.proofs.Facts.{words-read, size-known}
use Rattle.steps.specs.Steps.{twin_in}
use Rattle.steps.proofs.Held.{held, some-open, one_more}
use Rattle.session_close.proofs.Closes.{Filled, Ready, own-slots, own-hopeless, close-none, close-empty, close-hopeless, close-twin, close-full, close-new}
use Rattle.session_close.proofs.close_found.Goals as goal

pub returns-then-s-eq0 : goal.returns-then-s-eq0
returns-then-s-eq0 c = rw c.with.ensures (close-none (held c.requires.0 c.tally_of-t.ensures) c.if-s-eq0.true)

pub innermost-own-requires : goal.innermost-own-requires
innermost-own-requires c = (words-read c.requires.0, some-open c.if-s-eq0.false)

pub returns-then-own : goal.returns-then-own
returns-then-own c = rw c.with-then-own.ensures (close-empty (held c.requires.0 c.tally_of-t.ensures) c.innermost-own.ensures c.if-own.true)

pub span_hopeless-requires : goal.span_hopeless-requires
span_hopeless-requires c =
    let f : Filled c.args.store.now c.args.records.now c.args.s c.tally_of-t.result c.innermost-own.result =
    record { held = held c.requires.0 c.tally_of-t.ensures; lies = c.innermost-own.ensures; filled = c.if-own.false } in
    (omega (arith, f.held.counts.objects_is), f.lies.words.tested.head, f.lies.within, own-slots f)

pub returns-then-span_hopeless : goal.returns-then-span_hopeless
returns-then-span_hopeless c =
    let k : Filled c.args.store.now c.args.records.now c.args.s c.tally_of-t.result c.innermost-own.result =
    record { held = held c.requires.0 c.tally_of-t.ensures; lies = c.innermost-own.ensures; filled = c.if-own.false } in
    rw c.with-then-span_hopeless.ensures (close-hopeless k (sym (c.span_hopeless.ensures ∙ own-hopeless k) ∙ c.if-span_hopeless.true))

pub forget-requires : goal.forget-requires
forget-requires c =
    let f : Filled c.args.store.now c.args.records.now c.args.s c.tally_of-t.result c.innermost-own.result =
    record { held = held c.requires.0 c.tally_of-t.ensures; lies = c.innermost-own.ensures; filled = c.if-own.false } in
    (f.lies, size-known f.held.counts)

pub overflow_sub-own : goal.overflow_sub-own
overflow_sub-own c =
    let f : Filled c.args.store.now c.args.records.now c.args.s c.tally_of-t.result c.innermost-own.result =
    record { held = held c.requires.0 c.tally_of-t.ensures; lies = c.innermost-own.ensures; filled = c.if-own.false } in
    omega (arith, f.lies)

pub overflow_sub-own-then-id-s : goal.overflow_sub-own-then-id-s
overflow_sub-own-then-id-s c =
    let f : Filled c.args.store.now c.args.records.now c.args.s c.tally_of-t.result c.innermost-own.result =
    record { held = held c.requires.0 c.tally_of-t.ensures; lies = c.innermost-own.ensures; filled = c.if-own.false } in
    omega (arith, f.lies)

pub release-requires : goal.release-requires
release-requires c =
    let f : Filled c.args.store.now c.args.records.now c.args.s c.tally_of-t.result c.innermost-own.result =
    record { held = held c.requires.0 c.tally_of-t.ensures; lies = c.innermost-own.ensures; filled = c.if-own.false } in
    omega (arith, f.held, f.lies)

pub returns-then-id-s : goal.returns-then-id-s
returns-then-id-s c =
    let f : Filled c.args.store.now c.args.records.now c.args.s c.tally_of-t.result c.innermost-own.result =
    record { held = held c.requires.0 c.tally_of-t.ensures; lies = c.innermost-own.ensures; filled = c.if-own.false } in
    let r : Ready c.args.store.now c.args.records.now c.args.s c.tally_of-t.result c.innermost-own.result =
    record { inner = f; hopes = sym (c.span_hopeless.ensures ∙ own-hopeless f) ∙ c.if-span_hopeless.false } in
    rw (c.release.ensures, c.forget.ensures.bytes, c.forget.ensures.words) (close-twin r (c.requires.1 (some-open c.if-s-eq0.false)) c.if-id-s.true)

pub returns-then-s : goal.returns-then-s
returns-then-s c =
    let f : Filled c.args.store.now c.args.records.now c.args.s c.tally_of-t.result c.innermost-own.result =
    record { held = held c.requires.0 c.tally_of-t.ensures; lies = c.innermost-own.ensures; filled = c.if-own.false } in
    let r : Ready c.args.store.now c.args.records.now c.args.s c.tally_of-t.result c.innermost-own.result =
    record { inner = f; hopes = sym (c.span_hopeless.ensures ∙ own-hopeless f) ∙ c.if-span_hopeless.false } in
    rw c.with-then-s.ensures (close-full r (c.requires.1 (some-open c.if-s-eq0.false)) c.if-id-s.false c.if-s.true)

pub seal-requires : goal.seal-requires
seal-requires c =
    let f : Filled c.args.store.now c.args.records.now c.args.s c.tally_of-t.result c.innermost-own.result =
    record { held = held c.requires.0 c.tally_of-t.ensures; lies = c.innermost-own.ensures; filled = c.if-own.false } in
    (f.held.counts, f.lies, c.if-s.false)

pub add-requires : goal.add-requires
add-requires c =
    let f : Filled c.args.store.now c.args.records.now c.args.s c.tally_of-t.result c.innermost-own.result =
    record { held = held c.requires.0 c.tally_of-t.ensures; lies = c.innermost-own.ensures; filled = c.if-own.false } in
    one_more f.held c.if-s.false f.lies.some

pub returns : goal.returns
returns c =
    let f : Filled c.args.store.now c.args.records.now c.args.s c.tally_of-t.result c.innermost-own.result =
    record { held = held c.requires.0 c.tally_of-t.ensures; lies = c.innermost-own.ensures; filled = c.if-own.false } in
    let r : Ready c.args.store.now c.args.records.now c.args.s c.tally_of-t.result c.innermost-own.result =
    record { inner = f; hopes = sym (c.span_hopeless.ensures ∙ own-hopeless f) ∙ c.if-span_hopeless.false } in
    rw (c.add.ensures, c.seal.ensures.bytes, c.seal.ensures.words) (close-new r (c.requires.1 (some-open c.if-s-eq0.false)) c.if-id-s.false c.if-s.false)
