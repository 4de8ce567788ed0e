-- By the first word.
use Rattle.std.proofs.Common.{arith}
use Rattle.session_batch_words.proofs.Nexts.{says_nothing, says-open, says-drop, says_other, says-none, says-put, says-link, says-own, says-close}
use Rattle.session_batch_words.proofs.read_call.Goals as goal

pub returns-then-words-eq0 : goal.returns-then-words-eq0
returns-then-words-eq0 c = says_nothing c.args.room c.args.ids.now c.args.left c.args.words.now c.if-words-eq0.true

pub returns-in-1 : goal.returns-in-1
returns-in-1 c = says-open c.args.room c.args.ids.now c.args.left c.args.words.now c.if-words-eq0.false c.in-1.is

pub returns-in-6 : goal.returns-in-6
returns-in-6 c = says-drop c.args.room c.args.ids.now c.args.left c.args.words.now c.if-words-eq0.false c.in-6.is

pub returns-in_default : goal.returns-in_default
returns-in_default c =
    says_other c.args.room c.args.ids.now c.args.left c.args.words.now c.if-words-eq0.false (λ e. omega arith) (λ e. omega arith) (λ e. omega arith) (λ e. omega arith) (λ e. omega arith) (λ e. omega arith) _

pub returns-in_ok-call-in-2 : goal.returns-in_ok-call-in-2
returns-in_ok-call-in-2 c = rw c.in_ok-call-in-2.was at (says-put c.args.room c.args.ids.now c.args.left c.args.words.now c.if-words-eq0.false c.in-2.is c.read_put.ensures)

pub returns-in_err-call-in-2 : goal.returns-in_err-call-in-2
returns-in_err-call-in-2 c =
    says-none c.args.room c.args.ids.now c.args.left c.args.words.now _ c.from_residual.ensures.0
    (rw c.in_err-call-in-2.was at (says-put c.args.room c.args.ids.now c.args.left c.args.words.now c.if-words-eq0.false c.in-2.is c.read_put.ensures))

pub returns-in_ok-call-in-3 : goal.returns-in_ok-call-in-3
returns-in_ok-call-in-3 c = rw c.in_ok-call-in-3.was at (says-link c.args.room c.args.ids.now c.args.left c.args.words.now c.if-words-eq0.false c.in-3.is c.read_link.ensures)

pub returns-in_err-call-in-3 : goal.returns-in_err-call-in-3
returns-in_err-call-in-3 c =
    says-none c.args.room c.args.ids.now c.args.left c.args.words.now _ c.from_residual-in_err-call-in-3.ensures.0
    (rw c.in_err-call-in-3.was at (says-link c.args.room c.args.ids.now c.args.left c.args.words.now c.if-words-eq0.false c.in-3.is c.read_link.ensures))

pub returns-in_ok-call-in-4 : goal.returns-in_ok-call-in-4
returns-in_ok-call-in-4 c = rw c.in_ok-call-in-4.was at (says-own c.args.room c.args.ids.now c.args.left c.args.words.now c.if-words-eq0.false c.in-4.is c.read_own_link.ensures)

pub returns-in_err-call-in-4 : goal.returns-in_err-call-in-4
returns-in_err-call-in-4 c =
    says-none c.args.room c.args.ids.now c.args.left c.args.words.now _ c.from_residual-in_err-call-in-4.ensures.0
    (rw c.in_err-call-in-4.was at (says-own c.args.room c.args.ids.now c.args.left c.args.words.now c.if-words-eq0.false c.in-4.is c.read_own_link.ensures))

pub returns-in_ok-call-in-5 : goal.returns-in_ok-call-in-5
returns-in_ok-call-in-5 c = rw c.in_ok-call-in-5.was at (says-close c.args.room c.args.ids.now c.args.left c.args.words.now c.if-words-eq0.false c.in-5.is c.read_close.ensures)

pub returns-in_err-call-in-5 : goal.returns-in_err-call-in-5
returns-in_err-call-in-5 c =
    says-none c.args.room c.args.ids.now c.args.left c.args.words.now _ c.from_residual-in_err-call-in-5.ensures.0
    (rw c.in_err-call-in-5.was at (says-close c.args.room c.args.ids.now c.args.left c.args.words.now c.if-words-eq0.false c.in-5.is c.read_close.ensures))
