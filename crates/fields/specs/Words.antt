-- The name of a frame's type. Assumes nothing.
use Rattle.std.specs.Prelude.{ℕ, List, codes}
use Rattle.fields.specs.declared.frame_type.FrameType.{FrameType}
use Rattle.fields.specs.declared.frame_type.FrameType.TheVariants.{Data, Ack, Nack}

abbrev pub frame_type_name : FrameType → List ℕ
frame_type_name Data = codes "data"
frame_type_name Ack = codes "ACK"
frame_type_name Nack = codes "NACK"
