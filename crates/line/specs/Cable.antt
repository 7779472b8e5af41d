-- The cable line. Assumes nothing.
use Rattle.std.specs.Prelude.{◌+◌}
use Rattle.arithmetic.specs.Division.{check_of}
use Rattle.line.specs.Code.{LineCode}

-- A value's symbol is the value plus 0x30, and the check the remainder by x^6 + x + 1.
abbrev pub cable : LineCode
cable = record { symbol = λ v. v + 0x30; check = λ vs. check_of 6 0x43 vs }
