-- A frame on a line: its values, its check, and what is refused. Assumes nothing.
use Rattle.std.specs.Prelude.{ℕ, ◌+◌, Bool, ◌||◌, List, [], ◌∷◌, map, drop, Some, None, Option, ◌==◌, slice_index, slice_set}
use Rattle.std.specs.Option.{unwrap_or}
use Rattle.line.specs.Code.{LineCode, value_of}

-- A frame has 15 values and 11 for each of its one to three blocks.
abbrev pub frame_length : ℕ → Bool
frame_length n = n == 26 || (n == 37 || n == 48)

-- A buffer for a frame has room for the longest.
abbrev pub frame_room : ℕ
frame_room = 48

-- this place if nothing stands there, else what the rest gives
abbrev pub or_later : ℕ → Option ℕ → Option ℕ → Option ℕ
or_later i None later = Some i
or_later i (Some v) later = later

-- the index of the first byte that is no symbol, counted from i
abbrev pub first_no_symbol : LineCode → ℕ → List ℕ → Option ℕ
first_no_symbol code i [] = None
first_no_symbol code i (b ∷ bs) = or_later i (value_of code b) (first_no_symbol code (i + 1) bs)

-- the values whose symbols the bytes are; 0 where a byte is none
abbrev pub values_of : LineCode → List ℕ → List ℕ
values_of code bytes = map (λ b. unwrap_or (value_of code b) 0) bytes

-- The check stands at place 2, behind the repeater's two values, and covers every value behind it.
abbrev pub check_over : LineCode → List ℕ → ℕ
check_over code values = code.check (drop 3 values)

abbrev pub check_holds : LineCode → List ℕ → Bool
check_holds code values = slice_index values 2 == check_over code values

-- the values with this line's own check at its place
abbrev pub with_check : LineCode → List ℕ → List ℕ
with_check code values = slice_set values 2 (check_over code values)

-- the bytes that carry a frame's values on a line
abbrev pub symbols_of : LineCode → List ℕ → List ℕ
symbols_of code values = map code.symbol (with_check code values)
