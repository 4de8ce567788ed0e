-- Four lines, one behind the other.
use native.Mathlib.Omega.{arith}
use Rattle.cable_frame.proofs.FramesPut.{frame-done}
use Rattle.cable_frame.proofs.framing.Place.put_frame.Goals as goal

pub returns : goal.returns
returns c =
    let a = c.args in
    let w = c.put_number-a.ensures in
    let x = c.put_number-b.ensures in
    let y = c.put_body-c.ensures in
    let z = c.put_check.ensures in (
      omega (arith, w.0, x.0, y.0, z.0),
      frame-done a.at a.self.number a.self.count a.body.now a.out.now c.requires _ _ _ _ _ _ _ _ c.check_of-check.ensures w.0 w.1 x.0 x.1 y.0 y.1 z.1,
    )
