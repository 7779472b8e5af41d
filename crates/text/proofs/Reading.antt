-- Digits that are read one after the other. Assumes nothing.
use Rattle.std.proofs.Common.{◌≡◌, ℕ, ◌+◌, ◌*◌, ◌^◌, ◌<◌, ◌≤◌, List, length, get_or, drop, Some, None, Option, refl, lt_of_lt_of_le, arith}
use native.Mathlib.Nat.{pow-le-pow_right}
use Rattle.std.proofs.lemmas.List.{drop_more, drop_all}
use Rattle.std.proofs.lemmas.Bool.Decides.{nat_tests}
use Rattle.std.specs.Option.{option_map}
use Rattle.std.specs.Int.Digits.{number_from_digits_after}
use Rattle.arithmetic.proofs.Bases.{more-below}
use Rattle.text.specs.Hexadecimal.{digit_value, in_front, digit_values}

pub digit-below : (c d : ℕ) → digit_value c ≡ Some d → d < 16
digit-below c d e = grind (arith, nat_tests)

-- up to fifteen digits leave room for one more
pub fifteen-below : (i n : ℕ) → n < 16 ^ i → i < 16 → n < 2 ^ 60
fifteen-below i n h k = let most : i ≤ 15 = omega arith in lt_of_lt_of_le h (pow-le-pow_right {n = 16} (omega arith) most)

module _ (characters : List ℕ) (i n : ℕ) where
  pub value-more : (d : ℕ) → i < length characters → digit_value (get_or characters i 0) ≡ Some d → option_map (number_from_digits_after 16 (n * 16 + d)) (digit_values (drop (i + 1) characters)) ≡ option_map (number_from_digits_after 16 n) (digit_values (drop i characters))
  value-more d h e = rw (drop_more characters i 0 h, e) (behind (digit_values (drop (i + 1) characters)))
    where
      behind : (later : Option (List ℕ)) → option_map (number_from_digits_after 16 (n * 16 + d)) later ≡ option_map (number_from_digits_after 16 n) (in_front (Some d) later)
      behind None = refl
      behind (Some ds) = refl

  pub value_none : i < length characters → digit_value (get_or characters i 0) ≡ None → option_map (number_from_digits_after 16 n) (digit_values (drop i characters)) ≡ None
  value_none h e = rw (drop_more characters i 0 h, e)

  pub value-all : length characters ≤ i → option_map (number_from_digits_after 16 n) (digit_values (drop i characters)) ≡ Some n
  value-all h = rw (drop_all i characters h)

-- what the proof that reads a number uses at more than one goal
pub ruleset reading = (value-more, value_none, value-all, digit-below, more-below)
