-- Each of the three lines behind the one before it.
use mathlib.Core.Path.{◌≡◌, sym, ◌∙◌}
use borrow.Author.Rules.{rules}
use Rattle.std.specs.Prelude.{Some, None, Err}
use Rattle.job_header.proofs.Heading.{first-not, second-not, third-not, third-read}
use Rattle.job_items.specs.Item.{codes}
use Rattle.job_header.proofs.read_limits.Goals as goal

pub returns-in_err-bytes : goal.returns-in_err-bytes
unfolding codes
returns-in_err-bytes c =
    let e : c.limit.result ≡ None = search rules in
    let r : c.from_residual.result ≡ Err (record { 0 = 1 }) = search rules in
    rw r (first-not c.args.text.now c.next_line-first.ensures (sym c.limit.ensures ∙ e))

pub returns-in_err-objects : goal.returns-in_err-objects
unfolding codes
returns-in_err-objects c =
    let e : c.limit.result ≡ Some c.in_ok-bytes.bytes = search rules in
    let f : c.limit-2.result ≡ None = search rules in
    let r : c.from_residual-in_err-objects.result ≡ Err (record { 0 = 2 }) = search rules in
    rw r (second-not c.args.text.now c.next_line-first.ensures (sym c.limit.ensures ∙ e) c.next_line-second.ensures (sym c.limit-2.ensures ∙ f))

pub returns-in_err-links : goal.returns-in_err-links
unfolding codes
returns-in_err-links c =
    let e : c.limit.result ≡ Some c.in_ok-bytes.bytes = search rules in
    let f : c.limit-2.result ≡ Some c.in_ok-objects.objects = search rules in
    let g : c.limit-3.result ≡ None = search rules in
    let r : c.from_residual-in_err-links.result ≡ Err (record { 0 = 3 }) = search rules in
    rw r (third-not c.args.text.now c.next_line-first.ensures (sym c.limit.ensures ∙ e) c.next_line-second.ensures (sym c.limit-2.ensures ∙ f) c.next_line-third.ensures (sym c.limit-3.ensures ∙ g))

pub returns : goal.returns
unfolding codes
returns c =
    let e : c.limit.result ≡ Some c.in_ok-bytes.bytes = search rules in
    let f : c.limit-2.result ≡ Some c.in_ok-objects.objects = search rules in
    let g : c.limit-3.result ≡ Some c.in_ok-links.links = search rules in
    third-read c.args.text.now c.next_line-first.ensures (sym c.limit.ensures ∙ e) c.next_line-second.ensures (sym c.limit-2.ensures ∙ f) c.next_line-third.ensures (sym c.limit-3.ensures ∙ g)
