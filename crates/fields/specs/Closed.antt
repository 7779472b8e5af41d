-- A frame whose blocks are still closed. Assumes nothing.
use Rattle.std.specs.Prelude.{◌≡◌, ℕ, List}
use Rattle.std.specs.Int.Digits.{number_from_digits}
use Rattle.fields.specs.declared.header.Header.{Header}
use Rattle.fields.specs.declared.body.Body.{Body}
use Rattle.fields.specs.Layout.{header_of, body_in, blocks_in}
use Rattle.fields.specs.Bodies.{closed_blocks, blocks_of}

-- The header and the still closed body that values carry.
pub record IsClosed (values : List ℕ) (header : Header) (body : Body) : Type 0 where
  pub front : header ≡ header_of values
  pub size : body.size.count ≡ blocks_in values
  pub blocks : blocks_of body ≡ closed_blocks (blocks_in values) (number_from_digits 64 (body_in values))
