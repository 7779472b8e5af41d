-- A number as a row of digits, and a list of numbers as one row of bits. Assumes nothing.
use Rattle.std.specs.Prelude.{ℕ, zero, suc, ◌/◌, ◌%◌, ◌^◌, List, [], ◌∷◌}
use Rattle.std.specs.List.{flat_map}

-- the last `count` digits of n in a base, high digit first
abbrev pub digits : ℕ → ℕ → ℕ → List ℕ
digits base zero n = []
digits base (suc count) n = (n / base ^ count % base) ∷ digits base count n

-- each number of a list as so many bits, high bit first, one number behind the other
abbrev pub bits_of : ℕ → List ℕ → List ℕ
bits_of count ns = flat_map (digits 2 count) ns
