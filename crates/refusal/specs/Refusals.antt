-- What a host sees of a refused call. Assumes nothing.
use Rattle.std.specs.Prelude.{ℕ, ◌+◌, ◌/◌, ◌%◌, List, [], ◌∷◌}
use Rattle.refusal.specs.declared.Layer.TheVariants.{Call}
use Rattle.refusal.specs.declared.Refusal.{Refusal}

-- a decimal digit of n as a character: the one that counts so many
abbrev pub digit_of : ℕ → ℕ → ℕ
digit_of count n = 0x30 + n / count % 10

-- `!`, the number in two digits, a blank, and the place in three
abbrev pub text_of : Refusal → List ℕ
text_of r = 0x21 ∷ digit_of 10 r.number ∷ digit_of 1 r.number ∷ 0x20 ∷ digit_of 100 r.place ∷ digit_of 10 r.place ∷ digit_of 1 r.place ∷ []

-- 1, Call: a buffer of the caller's is too short for what goes into it
abbrev pub short_buffer : Refusal
short_buffer = record { number = 1; layer = Call; place = 0 }
