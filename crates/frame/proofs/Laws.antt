-- What opens is the run of bytes of its fields, and what is built opens to its fields. Assumes nothing.
use Rattle.std.proofs.Common.{◌≡◌, ℕ, ◌+◌, ◌-◌, ◌*◌, ◌/◌, ◌^◌, ◌<◌, ◌≤◌, true, List, map, length, set, is_some, None, sym, refl, ap, ◌∙◌, subst, arith, length-append, length-set}
use Rattle.std.proofs.lemmas.Int.Digits.{number_lt}
use Rattle.std.proofs.ByRecursion.{All-append, All-drop}
use Rattle.std.proofs.lemmas.List.{length-drop, length-map, drop-set-lt, drop_at}
use Rattle.std.proofs.lemmas.Bool.Decides.{nat_tests}
use Rattle.std.specs.Option.{option_map}
use Rattle.std.specs.Int.Digits.{number_from_digits, AllBelowBase}
use Rattle.refusal.specs.Outcomes.{or_else}
use Rattle.refusal.proofs.Firsts.{neither, mapped-none}
use Rattle.arithmetic.specs.Digits.{digits}
use Rattle.arithmetic.proofs.Bases.{length_digits, digits-under, number-again, digits-again}
use Rattle.line.specs.Code.{Lawful as LawfulLine}
use Rattle.wire.specs.Frames.{frame_length, values_of, with_check, check_over, symbols_of}
use Rattle.wire.specs.Refusing.{line_refusal}
use Rattle.wire.proofs.Carrying.{Sound, sound, accepted, values-under, bytes-again, written-reads, written-sound, check-restored}
use Rattle.seal.specs.Code.{Lawful as LawfulSeal}
use Rattle.fields.specs.declared.header.Header.{Header}
use Rattle.fields.specs.Types.{type_of}
use Rattle.fields.specs.Layout.{header_of, header_values, body_in, blocks_in, frame_of}
use Rattle.fields.specs.Bodies.{closed_blocks, filling_of}
use Rattle.fields.proofs.Made.{blocks-length, blocks-counted}
use Rattle.fields.proofs.Cuts.{body-parts, body_below, body-again}
use Rattle.fields.proofs.Layouts.{Fits, header-again, header_read, header-long, header-under}
use Rattle.frame.specs.declared.fault.FrameFault.TheVariants.{Line}
use Rattle.frame.specs.Payloads.{closed_from, seal_filling}
use Rattle.frame.specs.Frames.{Wire, Fields, payload_of, fields_of, sealed_body, bytes_of}
use Rattle.frame.specs.Refusing.{header_refusal, frame_refusal, open_refusal}
use Rattle.frame.proofs.Blocks.{technique-fits}
use Rattle.frame.proofs.Sealing.{closed-under, closed-long, opened-closed, closed-opened}

-- all that is so of a frame that opens
pub record Opens (wire : Wire) (network destination : ℕ) (bytes : List ℕ) : Type 0 where
  pub sound : Sound wire.line bytes
  pub known : is_some (type_of (header_of (values_of wire.line bytes)).frame_type) ≡ true
  pub size : (header_of (values_of wire.line bytes)).size ≡ blocks_in (values_of wire.line bytes)
  pub filling : filling_of (blocks_in (values_of wire.line bytes)) (number_from_digits 64 (body_in (values_of wire.line bytes))) ≡ seal_filling wire.seal (blocks_in (values_of wire.line bytes))

-- what is so of a header that nothing is wrong with
as-expected : (network destination filling : ℕ) (header : Header) (n filled : ℕ) → header_refusal network destination filling header n filled ≡ None
    → (is_some (type_of header.frame_type) ≡ true) × (header.size ≡ n) × (filled ≡ filling)
as-expected network destination filling header n filled none = (grind (arith, nat_tests), grind (arith, nat_tests), grind (arith, nat_tests))

-- and nothing is wrong with one that is as expected
none-wrong : (network destination filling : ℕ) (header : Header) (n filled : ℕ) → header.network ≡ network → header.destination ≡ destination → is_some (type_of header.frame_type) ≡ true → header.size ≡ n → filled ≡ filling
    → header_refusal network destination filling header n filled ≡ None
none-wrong network destination filling header n filled networks destinations known sizes fillings = grind (arith, nat_tests)

pub opens : (wire : Wire) (network destination : ℕ) (bytes : List ℕ) → open_refusal wire network destination bytes ≡ None → Opens wire network destination bytes
opens wire network destination bytes e =
    let parts = neither (option_map Line (line_refusal wire.line bytes)) _ e in
    let frame = as-expected network destination _ (header_of (values_of wire.line bytes)) _ _ parts.1 in
    record { sound = sound wire.line bytes (mapped-none Line (line_refusal wire.line bytes) parts.0); known = frame.0; size = frame.1; filling = frame.2 }

module _ (wire : Wire) (lawful : LawfulSeal wire.seal) (network destination : ℕ) (bytes : List ℕ) (e : open_refusal wire network destination bytes ≡ None) where
  -- what opens is the run of bytes of its fields
  pub opened-again : bytes_of wire (fields_of wire bytes) ≡ bytes
  opened-again =
      let o = opens wire network destination bytes e in
      let vs = values_of wire.line bytes in
      let n = blocks_in vs in
      let body = number_from_digits 64 (body_in vs) in
      let under = values-under wire.line bytes in
      let counted = blocks-counted (length vs) (ap frame_length (length-map bytes _) ∙ o.sound.whole) in
      let long : length (body_in vs) ≡ 11 * n = length-drop 15 vs ∙ omega (arith, counted.0) in
      let body-under = All-drop (λ v. v < 64) 15 vs under in
      let below : body < 64 ^ (11 * n) = subst (λ (k : ℕ). body < 64 ^ k) long (number_lt 64 (body_in vs) body-under) in
      let closed = closed-opened wire.seal lawful n (closed_blocks n body) (digits-under (2 ^ 64) (omega arith) n (body / 4 ^ n)) (length_digits (2 ^ 64) n (body / 4 ^ n)) in
      let again = body-again n body below in
      let written = digits-again 64 (omega arith) (body_in vs) body-under in
      let header = header-again vs under (omega (arith, counted.0)) in
      let size = o.size in
      let filling = o.filling in
      let frame : frame_of (header_of vs) (header_of vs).size (sealed_body wire.seal (header_of vs).size (payload_of wire.seal vs)) ≡ set vs 2 0 = cc in
      ap (symbols_of wire.line) frame
      ∙ ap (map wire.line.symbol) (check-restored wire.line bytes o.sound 0)
      ∙ bytes-again wire.line 0 bytes o.sound.symbols

-- so a run that opens to given fields is the run of bytes of those
pub opened-alone : (wire : Wire) → LawfulSeal wire.seal → (network destination : ℕ) (bytes : List ℕ) (fields : Fields) → open_refusal wire network destination bytes ≡ None → fields_of wire bytes ≡ fields → bytes ≡ bytes_of wire fields
opened-alone wire lawful network destination bytes fields e same = sym (opened-again wire lawful network destination bytes e) ∙ ap (bytes_of wire) same

-- fields that can be built
pub record Buildable (fields : Fields) : Type 0 where
  pub fits : Fits fields.header
  pub known : is_some (type_of fields.header.frame_type) ≡ true
  pub some : 1 ≤ fields.header.size
  pub few : fields.header.size ≤ 3
  pub bytes : AllBelowBase 256 fields.payload
  pub whole : length fields.payload ≡ 8 * fields.header.size

pub frame-long : (header : Header) (n body : ℕ) → length (frame_of header n body) ≡ 15 + 11 * n
frame-long header n body = simp (length-append, header-long, length_digits)

pub same-fields : {h h' : Header} {p p' : List ℕ} → h ≡ h' → p ≡ p' → ◌≡◌ {A = Fields} (record { header = h; payload = p }) (record { header = h'; payload = p' })
same-fields eh ep = cc

module _ (wire : Wire) (line : LawfulLine wire.line) (seal : LawfulSeal wire.seal) (fields : Fields) (b : Buildable fields) where
  abbrev header : Header
  header = fields.header

  abbrev n : ℕ
  n = fields.header.size

  abbrev filling : ℕ
  filling = seal_filling wire.seal n

  abbrev blocks : List ℕ
  blocks = closed_from wire.seal n fields.payload

  abbrev body : ℕ
  body = sealed_body wire.seal n fields.payload

  abbrev vs : List ℕ
  vs = frame_of header n body

  -- the values that are read
  abbrev read : List ℕ
  read = with_check wire.line vs

  blocks-under : AllBelowBase (2 ^ 64) blocks
  blocks-under = closed-under wire.seal seal n fields.payload

  blocks-long : length blocks ≡ n
  blocks-long = closed-long wire.seal seal n fields.payload

  filling-fits : filling < 4 ^ n
  filling-fits = technique-fits wire.seal.technique (4 ^ (n - 1)) n seal.two_bits b.some refl

  parts : (closed_blocks n body ≡ blocks) × (filling_of n body ≡ filling)
  parts = body-parts n blocks filling blocks-under blocks-long filling-fits

  under : AllBelowBase 64 vs
  under = All-append (λ v. v < 64) (header_values header) (digits 64 (11 * n) body) (header-under header) (digits-under 64 (omega arith) (11 * n) body)

  whole : frame_length (length vs) ≡ true
  whole = ap frame_length (frame-long header n body) ∙ blocks-length n b.some b.few

  is-read : values_of wire.line (bytes_of wire fields) ≡ read
  is-read = written-reads wire.line line vs under

  header-back : header_of read ≡ header
  header-back = header_read header (check_over wire.line vs) (digits 64 (11 * n) body) b.fits

  blocks-back : blocks_in read ≡ n
  blocks-back = ap (λ m. (m - 15) / 11) (length-set vs 2 (check_over wire.line vs) ∙ frame-long header n body) ∙ omega arith

  body-back : number_from_digits 64 (body_in read) ≡ body
  body-back =
      ap (number_from_digits 64) (drop-set-lt 15 vs 2 (check_over wire.line vs) (omega arith) ∙ drop_at (header_values header) (digits 64 (11 * n) body) 15 (header-long header))
      ∙ number-again 64 (omega arith) (11 * n) body (body_below n blocks filling blocks-under blocks-long filling-fits)

  payload-back : payload_of wire.seal read ≡ fields.payload
  payload-back =
      let counted = blocks-back in
      let number = body-back in
      let back = parts in
      let opened = opened-closed wire.seal seal n fields.payload b.bytes b.whole in
      cc

  -- what is built opens to its fields
  pub built-fields : fields_of wire (bytes_of wire fields) ≡ fields
  built-fields = same-fields (ap header_of is-read ∙ header-back) (ap (payload_of wire.seal) is-read ∙ payload-back)

  pub built-opens : open_refusal wire fields.header.network fields.header.destination (bytes_of wire fields) ≡ None
  built-opens =
      let counted = blocks-back in
      let number = body-back in
      let back = parts in
      ap (λ r. or_else (option_map Line r) (frame_refusal wire.seal header.network header.destination (values_of wire.line (bytes_of wire fields)))) (accepted wire.line (bytes_of wire fields) (written-sound wire.line line vs under whole))
      ∙ ap (frame_refusal wire.seal header.network header.destination) is-read
      ∙ none-wrong header.network header.destination _ (header_of read) _ _ (ap (λ h. h.network) header-back) (ap (λ h. h.destination) header-back) (ap (λ h. is_some (type_of h.frame_type)) header-back ∙ b.known) (ap (λ h. h.size) header-back ∙ sym blocks-back) (cc)
