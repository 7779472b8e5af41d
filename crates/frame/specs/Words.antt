-- Why a frame is not opened, or not built, in words. Assumes nothing.
use Rattle.std.specs.Prelude.{ℕ, List, codes}
use Rattle.refusal.specs.Words.{short_buffer_words}
use Rattle.wire.specs.Words.{line_words}
use Rattle.frame.specs.declared.fault.FrameFault.{FrameFault}
use Rattle.frame.specs.declared.fault.FrameFault.TheVariants.{Buffer, Line, Network, Destination, TypeOrSize, Technique, OutOfRange}

abbrev pub words : FrameFault → List ℕ
words (Buffer fault) = short_buffer_words
words (Line fault) = line_words fault
words Network = codes "the network ID is another"
words Destination = codes "the destination is another"
words TypeOrSize = codes "the type is unknown, or the size is not that of the length"
words Technique = codes "the technique is another, or a filling bit is set"
words OutOfRange = codes "a header field is out of range"
