-- The network and the device that frames are expected for, as they are given in hexadecimal. Assumes nothing.
use Rattle.std.specs.Prelude.{ℕ, ◌^◌, cond, List, Some, None, Option, nat_lt}
use Rattle.text.specs.Hexadecimal.{hex_value}
use Rattle.frame.specs.declared.address.Address.{Address}

-- a number below an end, or none
abbrev pub below : ℕ → Option ℕ → Option ℕ
below end None = None
below end (Some n) = cond (nat_lt n end) (Some n) None

abbrev pub both_of : Option ℕ → Option ℕ → Option Address
both_of None did = None
both_of (Some network) None = None
both_of (Some network) (Some did) = Some (record { network = network; destination = did })

-- A network ID has 36 bits, a device ID 12.
abbrev pub expected_from : List ℕ → List ℕ → Option Address
expected_from network did = both_of (below (2 ^ 36) (hex_value network)) (below (2 ^ 12) (hex_value did))
