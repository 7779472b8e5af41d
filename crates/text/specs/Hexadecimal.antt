-- Numbers in hexadecimal, as they are written and as they are read. Assumes nothing.
use Rattle.std.specs.Prelude.{ℕ, ◌+◌, ◌-◌, cond, ◌&&◌, List, [], ◌∷◌, map, length, drop, Some, None, Option, ◌==◌, nat_le, nat_lt, slice_index}
use Rattle.std.specs.Option.{option_map}
use Rattle.std.specs.Int.Digits.{number_from_digits}
use Rattle.arithmetic.specs.Digits.{digits}

-- the character of a digit: from ten on a capital letter
abbrev pub hex_digit : ℕ → ℕ
hex_digit d = cond (nat_lt d 10) (0x30 + d) (0x37 + d)

-- the last `count` digits of n, high digit first
abbrev pub hex : ℕ → ℕ → List ℕ
hex count n = map hex_digit (digits 16 count n)

-- the digit of a character, of a small letter too
abbrev pub digit_value : ℕ → Option ℕ
digit_value c = cond (nat_le 0x30 c && nat_le c 0x39) (Some (c - 0x30)) (cond (nat_le 0x41 c && nat_le c 0x46) (Some (c - 0x37)) (cond (nat_le 0x61 c && nat_le c 0x66) (Some (c - 0x57)) None))

-- a digit in front of others, if all are there
abbrev pub in_front : Option ℕ → Option (List ℕ) → Option (List ℕ)
in_front None later = None
in_front (Some d) None = None
in_front (Some d) (Some ds) = Some (d ∷ ds)

-- the digits of the characters, if each has one
abbrev pub digit_values : List ℕ → Option (List ℕ)
digit_values [] = Some []
digit_values (c ∷ cs) = in_front (digit_value c) (digit_values cs)

abbrev pub number_written : List ℕ → Option ℕ
number_written characters = option_map (number_from_digits 16) (digit_values characters)

-- `0x` may stand in front of the digits.
abbrev pub without_prefix : List ℕ → List ℕ
without_prefix text = cond (slice_index text 0 == 0x30 && slice_index text 1 == 0x78) (drop 2 text) text

-- There is one digit at the least, and sixteen at the most.
abbrev pub hex_value : List ℕ → Option ℕ
hex_value text = let characters = without_prefix text in cond (nat_le 1 (length characters) && nat_le (length characters) 16) (number_written characters) None
