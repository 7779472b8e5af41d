use Rattle.std.proofs.Common.{◌≡◌, ◌^◌, ◌<◌, drop}
use Rattle.std.specs.Option.{option_map}
use Rattle.std.specs.Int.Digits.{number_from_digits_after}
use Rattle.text.specs.Hexadecimal.{digit_values, number_written}
use Rattle.text.proofs.read_hex.number_written.Given as goal

abbrev pub invariant-loop-digit : goal.invariant-loop-digit
invariant-loop-digit l = (l.number < 16 ^ l.digit-index) × (option_map (number_from_digits_after 16 l.number) (digit_values (drop l.digit-index l.digits)) ≡ number_written l.digits)
