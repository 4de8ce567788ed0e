-- Each step begins within what is written before it, or where that ends.
use mathlib.Core.Path.{◌≡◌}
use Prim.Native.Nat.{ℕ, ◌+◌, ◌-◌, ◌≤◌, min}
use native.Mathlib.Omega.{arith}
use lib.ListN.{length}
use Rattle.memory_copy.proofs.Steps.{step-first, step-on, step-last}
use Rattle.memory_copy.proofs.copy_8.Goals as goal

pub returns : goal.returns
returns c =
    let f = c.args in
    let pre = c.requires in
    let n : ℕ = length f.src.now in
    let low : 8 ≤ n = pre.1 in
    let high : n ≤ 32 = pre.2 in
    let second : ℕ = c.min.result in
    let third : ℕ = c.min-2.result in
    let second_is : second ≡ min (n - 8) 8 = c.min.ensures in
    let third-is : third ≡ min (n - 8) 16 = c.min-2.ensures in
    let x = step-first f.at f.src.now f.s.now pre.0 8 c.step.ensures in
    let y = step-on f.at f.src.now f.s.now pre.0 8 second 8 (omega arith) (omega arith) (omega arith) x c.step-2.ensures in
    let z = step-on f.at f.src.now f.s.now pre.0 (second + 8) third 8 (omega arith) (omega arith) (omega arith) y c.step-3.ensures in
    step-last f.at f.src.now f.s.now pre.0 (third + 8) (n - 8) 8 (omega arith) (omega arith) (omega arith) z c.step-4.ensures
