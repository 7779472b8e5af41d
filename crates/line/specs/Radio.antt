-- The radio line. Assumes nothing.
use Rattle.std.specs.Prelude.{◌≡◌, ℕ, ◌*◌, ◌/◌, ◌%◌, ◌^◌, ◌<◌, Bool, true, false, cond, List, [], ◌∷◌, map, length, Some, None, fold, Option, ◌==◌, bit_xor, slice_index, slice_index_or}
use Rattle.std.specs.Int.Digits.{number_from_digits}
use Rattle.line.specs.declared.six_bit.SixBit.{SixBit}
use Rattle.line.specs.Values.{number_of}
use Rattle.arithmetic.specs.Digits.{bits_of}
use Rattle.line.specs.Code.{LineCode, value_below}

-- the byte that stands for each value, at the value's place: chosen for a receiver's clock, with about as many ones as zeros
unfoldable pub radio_symbols : List ℕ
radio_symbols =
    0xB4 ∷ 0xBC ∷ 0xB3 ∷ 0xBA ∷ 0xB5 ∷ 0xB9 ∷ 0xB6 ∷ 0xB2 ∷
    0xC4 ∷ 0xCC ∷ 0xC3 ∷ 0xCA ∷ 0xC5 ∷ 0xC9 ∷ 0xC6 ∷ 0xC2 ∷
    0x34 ∷ 0x3C ∷ 0x33 ∷ 0x3A ∷ 0x35 ∷ 0x39 ∷ 0x36 ∷ 0x32 ∷
    0xA4 ∷ 0xAC ∷ 0xA3 ∷ 0xAA ∷ 0xA5 ∷ 0xA9 ∷ 0xA6 ∷ 0xA2 ∷
    0x54 ∷ 0x5C ∷ 0x53 ∷ 0x5A ∷ 0x55 ∷ 0x59 ∷ 0x56 ∷ 0x52 ∷
    0x94 ∷ 0x9C ∷ 0x93 ∷ 0x9A ∷ 0x95 ∷ 0x99 ∷ 0x96 ∷ 0x92 ∷
    0x64 ∷ 0x6C ∷ 0x63 ∷ 0x6A ∷ 0x65 ∷ 0x69 ∷ 0x66 ∷ 0x62 ∷
    0xD4 ∷ 0xDC ∷ 0xD3 ∷ 0xDA ∷ 0xD5 ∷ 0xD9 ∷ 0xD6 ∷ 0xD2 ∷ []

unfoldable pub radio_symbol : ℕ → ℕ
radio_symbol v = slice_index radio_symbols v

-- A register of eight bits moves up by one bit; where the bit that leaves it differs from the bit that comes, 0xA6 is added.
unfoldable pub moved_up : ℕ → ℕ → ℕ
moved_up register bit = bit_xor (register * 2 % 256) (cond (register / 128 == bit) 0 0xA6)

-- the register after a row of bits
abbrev pub register_after : ℕ → List ℕ → ℕ
register_after register bits = fold moved_up register bits

-- the register, all ones at first, after bytes that come high bit first
abbrev pub register_over : List ℕ → ℕ
register_over bytes = register_after 0xFF (bits_of 8 bytes)

-- What the register is the remainder of, by x^8 + x^7 + x^5 + x^2 + x: the bits with eight zero bits behind them, and all
-- ones added to the first eight.
abbrev pub radio_message : List ℕ → ℕ
radio_message bits = bit_xor (number_from_digits 2 bits * 2 ^ 8) (0xFF * 2 ^ length bits)

-- The check is the upper six bits of the register over the values' symbols.
abbrev pub radio : LineCode
radio = record { symbol = radio_symbol; check = λ vs. register_over (map radio_symbol vs) / 4 }

-- what a place of a table tells is this value, or none where there is none
abbrev pub agrees : Option SixBit → Option ℕ → Bool
agrees None None = true
agrees None (Some n) = false
agrees (Some v) None = false
agrees (Some v) (Some n) = number_of v == n

-- A table that tells at each byte the value below n whose symbol it is, or none.
abbrev pub ReadsBelow : ℕ → List (Option SixBit) → Type 0
ReadsBelow n table = (b : ℕ) → b < 256 → agrees (slice_index_or table b None) (value_below radio_symbol n b) ≡ true
