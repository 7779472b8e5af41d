-- XTEA with 32 cycles. Assumes nothing.
use Rattle.std.specs.Prelude.{ℕ, zero, suc, ◌+◌, ◌-◌, ◌*◌, ◌/◌, ◌%◌, ◌^◌, cond, List, [], ◌∷◌, ◌==◌, bit_xor, slice_index}
use Rattle.std.specs.Int.Digits.{number_from_digits}
use Rattle.seal.specs.declared.words.Words.{Words}
use Rattle.seal.specs.Code.{SealCode}

-- sums and differences of words of 32 bits
abbrev pub plus : ℕ → ℕ → ℕ
plus a b = (a + b) % 2 ^ 32

abbrev pub minus : ℕ → ℕ → ℕ
minus a b = (a + (2 ^ 32 - b)) % 2 ^ 32

-- the word of four bytes from a place on, high byte first
abbrev pub word_at : ℕ → List ℕ → ℕ
word_at place bytes = number_from_digits 256 (slice_index bytes place ∷ slice_index bytes (place + 1) ∷ slice_index bytes (place + 2) ∷ slice_index bytes (place + 3) ∷ [])

-- a key of sixteen bytes as four words
abbrev pub key_words : List ℕ → List ℕ
key_words key = word_at 0 key ∷ word_at 4 key ∷ word_at 8 key ∷ word_at 12 key ∷ []

-- a block as two words, high word first, and the block of two words
abbrev pub words_of : ℕ → Words
words_of block = record { high = block / 2 ^ 32; low = block % 2 ^ 32 }

abbrev pub block_of : Words → ℕ
block_of words = words.high * 2 ^ 32 + words.low

-- a word added to what its bits give that are moved up by four and down by five
abbrev pub stirred : ℕ → ℕ
stirred word = plus (bit_xor (word * 16 % 2 ^ 32) (word / 32)) word

-- what a word grows by: from the other word, the running sum and the key's word at a place
abbrev pub added : List ℕ → ℕ → ℕ → ℕ → ℕ
added key sum place word = bit_xor (stirred word) (plus sum (slice_index key place))

-- The sum that runs along: it grows once in each cycle, between the two words.
unfoldable pub sum_after : ℕ → ℕ
sum_after zero = 0
sum_after (suc n) = plus (sum_after n) 0x9E3779B9

-- A cycle lets the high word grow, then the sum, then the low word. Two bits of the sum tell the key's word: the lowest ones
-- for the high word, those from bit 11 on for the low word.
abbrev pub high_after : List ℕ → ℕ → Words → ℕ
high_after key n words = plus words.high (added key (sum_after n) (sum_after n % 4) words.low)

abbrev pub cycle : List ℕ → ℕ → Words → Words
cycle key n words = record {
  high = high_after key n words;
  low = plus words.low (added key (sum_after (suc n)) (sum_after (suc n) / 2 ^ 11 % 4) (high_after key n words));
}

-- the words after the first n cycles
unfoldable pub cycled : List ℕ → ℕ → Words → Words
cycled key zero words = words
cycled key (suc n) words = cycle key n (cycled key n words)

-- A cycle in two like halves. Half round i adds to the high word what the low word and the round's key give, and the two
-- words change places.
abbrev pub running_sum : ℕ → ℕ
running_sum i = (i + 1) / 2 * 0x9E3779B9 % 2 ^ 32

abbrev pub key_place : ℕ → ℕ
key_place i = cond (i % 2 == 0) (running_sum i % 4) (running_sum i / 2 ^ 11 % 4)

abbrev pub round_key : List ℕ → ℕ → ℕ
round_key key i = plus (running_sum i) (slice_index key (key_place i))

abbrev pub mixed : ℕ → Words → Words
mixed k words = record { high = words.low; low = plus words.high (bit_xor (stirred words.low) k) }

-- The same taken back.
abbrev pub unmixed : ℕ → Words → Words
unmixed k words = record { high = minus words.low (bit_xor (stirred words.high) k); low = words.high }

module _ (key : List ℕ) where
  -- the words after the first n half rounds, and the words before them
  unfoldable pub mixed_by : ℕ → Words → Words
  mixed_by zero words = words
  mixed_by (suc n) words = mixed (round_key key n) (mixed_by n words)

  unfoldable pub unmixed_by : ℕ → Words → Words
  unmixed_by zero words = words
  unmixed_by (suc n) words = unmixed_by n (unmixed (round_key key n) words)

  -- Closing is 32 cycles. Opening takes their half rounds back; that it is the inverse is what the law of a seal asks.
  abbrev pub xtea : SealCode
  xtea = record {
    closed = λ block. block_of (cycled key 32 (words_of block));
    opened = λ block. block_of (unmixed_by 64 (words_of block));
    technique = 1;
  }
