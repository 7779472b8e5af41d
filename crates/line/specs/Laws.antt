-- Why the two lines are lawful. An impl names the proof of its law, and of its own crate it can name only what stands in
-- specs/: nothing here needs to be believed. Assumes nothing.
use Rattle.std.specs.Prelude.{◌≡◌, ℕ, zero, suc, ◌*◌, ◌/◌, ◌%◌, ◌<◌, Bool, true, false, ◌&&◌, List, [], ◌∷◌, map, Some, None, Option, ◌==◌, nat_lt, bit_xor, refl}
use Rattle.std.proofs.Common.{ap, sym, ◌∙◌, arith}
use Rattle.std.specs.Int.Bits.{xor_lt}
use Rattle.std.proofs.lemmas.Bool.{cond_both, eqb-true, ltb-true, false≢true, and_parts}
use Rattle.std.proofs.lemmas.Bool.Decides.{Decides-below_and}
use Rattle.std.proofs.lemmas.Nat.{mod_below}
use Rattle.arithmetic.specs.Digits.{bits_of}
use Rattle.arithmetic.proofs.Dividing.{check-below}
use Rattle.line.specs.Code.{Lawful, value_below}
use Rattle.line.specs.Cable.{cable}
use Rattle.line.specs.Radio.{radio_symbols, radio_symbol, moved_up, register_after, radio}

pub cable-lawful : Lawful cable
cable-lawful = record {
  byte = λ v h. omega arith;
  distinct = λ v w hv hw e. omega arith;
  six_bits = λ vs h. check-below 6 0x43 (omega arith) (omega arith) vs;
}

is : Option ℕ → ℕ → Bool
is None v = false
is (Some w) v = w == v

is-Some : (o : Option ℕ) (v : ℕ) → is o v ≡ true → o ≡ Some v
unfolding is
is-Some None v e = absurd (false≢true e)
is-Some (Some w) v e = ap (λ n. Some n) (eqb-true w v e)

-- a value's symbol is a byte, and is found again as the symbol of this value and of no later one
stands : ℕ → Bool
stands v = nat_lt (radio_symbol v) 256 && is (value_below radio_symbol 64 (radio_symbol v)) v

all-stand : ℕ → Bool
all-stand zero = true
all-stand (suc n) = stands n && all-stand n

-- one test over the whole table, and what it says of each entry
table-stands : (v : ℕ) → v < 64 → stands v ≡ true
unfolding all-stand stands is value_below radio_symbol radio_symbols
table-stands = (Decides-below_and stands (λ v. stands v ≡ true) all-stand (λ v. (λ e. e, λ e. e)) refl (λ n. refl) 64).0 refl

symbol-byte : (v : ℕ) → v < 64 → radio_symbol v < 256
unfolding stands
symbol-byte v h = ltb-true (radio_symbol v) 256 (and_parts (nat_lt (radio_symbol v) 256) _ (table-stands v h)).0

symbol-found : (v : ℕ) → v < 64 → value_below radio_symbol 64 (radio_symbol v) ≡ Some v
unfolding stands
symbol-found v h = is-Some (value_below radio_symbol 64 (radio_symbol v)) v (and_parts (nat_lt (radio_symbol v) 256) _ (table-stands v h)).1

symbol-distinct : (v w : ℕ) → v < 64 → w < 64 → radio_symbol v ≡ radio_symbol w → v ≡ w
symbol-distinct v w hv hw e =
    let s : Some v ≡ Some w = sym (symbol-found v hv) ∙ ap (value_below radio_symbol 64) e ∙ symbol-found w hw in
    grind arith

-- the register keeps eight bits
moved-below : (c b : ℕ) → moved_up c b < 256
unfolding moved_up
moved-below c b =
    let small : c * 2 % 256 < 256 = mod_below (c * 2) 256 (omega arith) in
    cond_both (c / 128 == b) 0 0xA6 (λ x. bit_xor (c * 2 % 256) x < 256)
    (λ e. xor_lt 8 (c * 2 % 256) 0 small (omega arith))
    (λ e. xor_lt 8 (c * 2 % 256) 0xA6 small (omega arith))

register-below : (bits : List ℕ) (c : ℕ) → c < 256 → register_after c bits < 256
register-below [] c h = h
register-below (b ∷ bits) c h = register-below bits (moved_up c b) (moved-below c b)

pub radio-lawful : Lawful radio
radio-lawful = record {
  byte = symbol-byte;
  distinct = symbol-distinct;
  six_bits = λ vs h. omega (arith, register-below (bits_of 8 (map radio_symbol vs)) 0xFF (omega arith));
}
