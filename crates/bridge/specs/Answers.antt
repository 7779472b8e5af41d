-- What the bridge answers to a line of its input, and what it prints for it. Assumes nothing.
use Rattle.std.specs.Prelude.{ℕ, List, Some, None, Ok, Err, Option, Result, Vec}
use Rattle.std.specs.Global.{Global}
use Rattle.std.specs.List.{flat_map}
use Rattle.text.specs.Lines.{with_line_end}
use Rattle.text.specs.Hexadecimal.{hex}
use Rattle.refusal.specs.Refusals.{text_of}
use Rattle.line.specs.Cable.{cable}
use Rattle.line.specs.Radio.{radio}
use Rattle.wire.specs.declared.fault.CarryFault.{CarryFault}
use Rattle.wire.specs.Frames.{frame_room}
use Rattle.wire.specs.Refusing.{carry_refusal, carry_refused, carried}
use Rattle.bridge.specs.declared.answer.Answer.{Answer}

-- the refusal of a cable frame, if there is one, for a buffer with room
abbrev pub refused_for : List ℕ → Option CarryFault
refused_for frame = carry_refusal cable frame_room frame

-- the bytes of a cable frame on the radio
abbrev pub carried_for : List ℕ → List ℕ
carried_for frame = carried cable radio frame

-- what is told of a frame with this refusal, or with none
abbrev pub text_by : Option CarryFault → List ℕ → List ℕ
text_by None frame = flat_map (hex 2) (carried_for frame)
text_by (Some fault) frame = text_of (carry_refused fault)

-- the radio frame in hexadecimal or the refusal, and the end of the line
abbrev pub text_for : List ℕ → List ℕ
text_for frame = with_line_end (text_by (refused_for frame) frame)

-- the same of what became of a frame
abbrev pub text_of_outcome : Result (Vec ℕ Global) CarryFault → List ℕ
text_of_outcome (Ok bytes) = flat_map (hex 2) bytes.items
text_of_outcome (Err fault) = text_of (carry_refused fault)

-- what an answer prints as
abbrev pub answer_text : Answer → List ℕ
answer_text answer = with_line_end (text_of_outcome answer.frame)
