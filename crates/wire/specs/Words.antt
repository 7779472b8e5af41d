-- Why a frame is refused on a line, in words. Assumes nothing.
use Rattle.std.specs.Prelude.{ℕ, List, codes}
use Rattle.refusal.specs.Words.{short_buffer_words}
use Rattle.wire.specs.declared.fault.LineFault.{LineFault}
use Rattle.wire.specs.declared.fault.LineFault.TheVariants.{Length, NoSymbol, Check}
use Rattle.wire.specs.declared.fault.CarryFault.{CarryFault}
use Rattle.wire.specs.declared.fault.CarryFault.TheVariants.{Buffer, Line}

abbrev pub line_words : LineFault → List ℕ
line_words Length = codes "the frame does not have 26, 37 or 48 bytes"
line_words (NoSymbol place) = codes "a byte is no symbol"
line_words Check = codes "the check differs"

abbrev pub carry_words : CarryFault → List ℕ
carry_words (Buffer fault) = short_buffer_words
carry_words (Line fault) = line_words fault
