-- The body of a frame as one number: the closed blocks, and two bits more for each of them. Assumes nothing.
use Rattle.std.specs.Prelude.{ℕ, ◌+◌, ◌*◌, ◌/◌, ◌%◌, ◌^◌, List, take}
use Rattle.std.specs.Int.Digits.{number_from_digits}
use Rattle.arithmetic.specs.Digits.{digits}
use Rattle.fields.specs.declared.body.Body.{Body}

-- what n blocks of 64 bits each write, and behind them the 2n bits of the filling
abbrev pub body_number : ℕ → List ℕ → ℕ → ℕ
body_number n blocks filling = number_from_digits (2 ^ 64) blocks * 4 ^ n + filling

-- the n blocks that a body's number begins with, and the bits behind them
abbrev pub closed_blocks : ℕ → ℕ → List ℕ
closed_blocks n body = digits (2 ^ 64) n (body / 4 ^ n)

abbrev pub filling_of : ℕ → ℕ → ℕ
filling_of n body = body % 4 ^ n

-- the blocks that a body has
abbrev pub blocks_of : Body → List ℕ
blocks_of body = take body.size.count body.blocks

-- the number that a body is
abbrev pub number_in : Body → ℕ
number_in body = body_number body.size.count (blocks_of body) body.filling
