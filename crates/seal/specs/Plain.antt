-- The plain seal. Assumes nothing.
use Rattle.seal.specs.Code.{SealCode}

-- It changes nothing.
abbrev pub plain : SealCode
plain = record { closed = λ block. block; opened = λ block. block; technique = 0 }
