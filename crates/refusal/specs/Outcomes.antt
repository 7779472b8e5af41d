-- Calls that refuse: which fault comes first, and what is answered. Assumes nothing.
use Rattle.std.specs.Prelude.{◌≡◌, Bool, true, false, Some, None, Ok, Err, Option, Result}

-- a fault, unless the test holds
abbrev pub unless : {F : Type 0} → Bool → F → Option F
unless true fault = None
unless false fault = Some fault

-- the first of two faults
abbrev pub or_else : {F : Type 0} → Option F → Option F → Option F
or_else None later = later
or_else (Some fault) later = Some fault

-- A call answers with this fault if there is one, and otherwise with a value of which P holds.
abbrev pub Outcome : {T F : Type 0} → Option F → (T → Type 0) → Result T F → Type 0
Outcome fault P (Ok value) = (fault ≡ None) × P value
Outcome fault P (Err told) = fault ≡ Some told
