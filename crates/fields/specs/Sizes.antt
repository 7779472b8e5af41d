-- How many blocks a body has. Assumes nothing.
use Rattle.std.specs.Prelude.{◌≡◌, ℕ, ◌<◌, ◌⊎◌, Ok, Err, Result}
use Rattle.fields.specs.declared.size.Size.{Size}
use Rattle.fields.specs.declared.size.UnknownSize.{UnknownSize}

-- A number from one to three is read as the size of so many blocks; every other is told back, as it is unknown.
abbrev pub ReadsSize : ℕ → Result Size UnknownSize → Type 0
ReadsSize number (Ok size) = size.count ≡ number
ReadsSize number (Err unknown) = (unknown.0 ≡ number) × ((number < 1) ⊎ (3 < number))
