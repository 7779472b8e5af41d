-- The values that a frame holds, as plain numbers. Assumes nothing.
use Rattle.std.specs.Prelude.{ℕ, List, take}
use Rattle.line.specs.Values.{numbers}
use Rattle.wire.specs.declared.frame_values.FrameValues.{FrameValues}

abbrev pub values_in : FrameValues → List ℕ
values_in frame = numbers (take frame.count frame.values)
