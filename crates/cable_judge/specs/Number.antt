-- docs/RULES.md, 13.6: the numbers of what is told where no frame was accepted.
use Rattle.std.specs.Prelude.{ℕ}
use Rattle.cable_judge.specs.declared.answers.NoFrame.{NoFrame}

abbrev pub no_frame_number : NoFrame → ℕ
no_frame_number NoFrame.OutputShort = 10
no_frame_number NoFrame.NotAwaited = 17
no_frame_number NoFrame.Unended = 18
no_frame_number NoFrame.HeadShort = 13
