-- A line of text, and the frame in it. Assumes nothing.
use Rattle.std.specs.Prelude.{ℕ, ◌-◌, cond, List, [], ◌∷◌, ◌++◌, length, take, ◌==◌, slice_index}

-- the byte that a line ends at
abbrev pub line_end : ℕ
line_end = 0x0A

abbrev pub with_line_end : List ℕ → List ℕ
with_line_end text = text ++ line_end ∷ []

-- The end of a line is no part of the frame; the last line may lack it.
abbrev pub frame_in : List ℕ → List ℕ
frame_in line = cond (slice_index line (length line - 1) == line_end) (take (length line - 1) line) line
