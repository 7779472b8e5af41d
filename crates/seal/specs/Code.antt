-- What a seal is: a way to close a block of 64 bits and to open it, and its technique. Assumes nothing.
use Rattle.std.specs.Prelude.{◌≡◌, ℕ, ◌^◌, ◌<◌}

-- A seal's meaning, over plain numbers.
pub record SealCode : Type 0 where
  pub closed : ℕ → ℕ
  pub opened : ℕ → ℕ
  pub technique : ℕ

-- All that is asked of a seal: blocks become blocks, either way after the other gives the block back, and the technique
-- has two bits.
pub record Lawful (code : SealCode) : Type 0 where
  pub closed_block : (block : ℕ) → block < 2 ^ 64 → code.closed block < 2 ^ 64
  pub opened_block : (block : ℕ) → block < 2 ^ 64 → code.opened block < 2 ^ 64
  pub opens_closed : (block : ℕ) → block < 2 ^ 64 → code.opened (code.closed block) ≡ block
  pub closes_opened : (block : ℕ) → block < 2 ^ 64 → code.closed (code.opened block) ≡ block
  pub two_bits : code.technique < 4
