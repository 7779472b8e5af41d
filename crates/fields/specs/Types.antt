-- The types of frames and their numbers. Assumes nothing.
use Rattle.std.specs.Prelude.{◌≡◌, ℕ, zero, suc, Some, None, Option, Ok, Err, Result}
use Rattle.fields.specs.declared.frame_type.FrameType.{FrameType}
use Rattle.fields.specs.declared.frame_type.FrameType.TheVariants.{Data, Ack, Nack}
use Rattle.fields.specs.declared.frame_type.UnknownType.{UnknownType}

abbrev pub type_number : FrameType → ℕ
type_number Data = 1
type_number Ack = 2
type_number Nack = 3

-- Every other number is unknown.
abbrev pub type_of : ℕ → Option FrameType
type_of zero = None
type_of (suc zero) = Some Data
type_of (suc (suc zero)) = Some Ack
type_of (suc (suc (suc zero))) = Some Nack
type_of (suc (suc (suc (suc n)))) = None

-- A number is read as the type that it stands for, and told back where it is unknown.
abbrev pub ReadsType : ℕ → Result FrameType UnknownType → Type 0
ReadsType number (Ok frame_type) = type_of number ≡ Some frame_type
ReadsType number (Err unknown) = (unknown.0 ≡ number) × (type_of number ≡ None)
