-- The clear payload of a frame, and its closed blocks. Assumes nothing.
use Rattle.std.specs.Prelude.{ℕ, ◌-◌, ◌*◌, ◌^◌, List, ◌∷◌, map}
use Rattle.std.specs.Int.Digits.{number_from_digits}
use Rattle.arithmetic.specs.Digits.{digits}
use Rattle.arithmetic.specs.Division.{check_of}
use Rattle.seal.specs.Code.{SealCode}

-- Byte 0 of a payload is the remainder of all bytes behind it by x^8 + x^2 + x + 1.
abbrev pub check_byte : List ℕ → ℕ
check_byte behind = check_of 8 0x107 behind

-- a payload with its byte 0
abbrev pub with_check_byte : List ℕ → List ℕ
with_check_byte behind = check_byte behind ∷ behind

module _ (seal : SealCode) (n : ℕ) where
  -- the bytes of a payload as n blocks, high byte first, each closed
  abbrev pub closed_from : List ℕ → List ℕ
  closed_from payload = map seal.closed (digits (2 ^ 64) n (number_from_digits 256 payload))

  -- n closed blocks, each opened, as bytes
  abbrev pub opened_from : List ℕ → List ℕ
  opened_from blocks = digits 256 (8 * n) (number_from_digits (2 ^ 64) (map seal.opened blocks))

  -- what stands behind n closed blocks: two bits of technique, and zero bits
  abbrev pub seal_filling : ℕ
  seal_filling = seal.technique * 4 ^ (n - 1)
