-- What the calls answer, from what their parts answer. Assumes nothing.
use Rattle.std.proofs.Common.{◌≡◌, ℕ, ◌+◌, ◌*◌, ◌^◌, ◌<◌, ◌≤◌, true, List, ◌++◌, length, take, drop, is_some, None, Ok, Err, Result, sym, ap, ◌∙◌, arith, length-set}
use Rattle.std.proofs.lemmas.List.{length-map, length-drop, take_at}
use Rattle.std.proofs.lemmas.Bool.Decides.{nat_tests}
use Rattle.std.specs.Int.Digits.{AllBelowBase}
use Rattle.arithmetic.proofs.Bases.{length_digits}
use Rattle.arithmetic.proofs.Dividing.{check-below}
use Rattle.line.specs.Code.{Lawful as LawfulLine}
use Rattle.wire.specs.Frames.{frame_room, frame_length, values_of, symbols_of}
use Rattle.wire.specs.Calls.{Written}
use Rattle.wire.proofs.Carrying.{values-under}
use Rattle.seal.specs.Code.{Lawful as LawfulSeal}
use Rattle.fields.specs.declared.body.Body.{Body}
use Rattle.fields.specs.declared.header.Header.{Header}
use Rattle.fields.specs.declared.size.Size.{Size}
use Rattle.fields.specs.Types.{type_of}
use Rattle.fields.specs.Layout.{field, header_of, blocks_in, frame_of}
use Rattle.fields.specs.Bodies.{blocks_of, number_in}
use Rattle.fields.proofs.Layouts.{field_below}
use Rattle.fields.proofs.Made.{blocks-counted}
use Rattle.frame.specs.declared.fault.FrameFault.{FrameFault}
use Rattle.frame.specs.Payloads.{with_check_byte, closed_from, seal_filling}
use Rattle.frame.specs.Frames.{Wire, payload_of, fields_of, sealed_body, bytes_of}
use Rattle.frame.specs.Refusing.{working_room, open_refusal, header_fits, build_refusal}
use Rattle.frame.specs.Calls.{OpenedInto, Opened, WellFormed, BuildsAgain, OpensAlone, fields_with, Built, OpensAgain, BuiltAlone}
use Rattle.frame.proofs.Laws.{opens, opened-again, opened-alone, same-fields, Buildable, frame-long, built-fields, built-opens}

-- what was opened into just the working bytes that it needs, at the front of any
pub opened-front : (wire : Wire) (network destination : ℕ) (bytes before work : List ℕ) (r : Result Header FrameFault) → working_room ≤ length before → OpenedInto wire network destination bytes work r
    → Opened wire network destination bytes before (work ++ drop working_room before) r
opened-front wire network destination bytes before work (Ok header) room opened = grind (arith, nat_tests)
opened-front wire network destination bytes before work (Err fault) room opened = grind (arith, nat_tests)

pub well-formed : (wire : Wire) (network destination : ℕ) (bytes work : List ℕ) (r : Result Header FrameFault) → OpenedInto wire network destination bytes work r → WellFormed wire bytes r
well-formed wire network destination bytes work (Ok header) e =
    let o = opens wire network destination bytes e.0 in
    let vs = values_of wire.line bytes in
    let size : header.size ≡ blocks_in vs = ap (λ h. h.size) e.1 ∙ o.size in
    let counted = blocks-counted (length vs) (ap frame_length (length-map bytes _) ∙ o.sound.whole) in
    (ap (λ h. is_some (type_of h.frame_type)) e.1 ∙ o.known, omega (arith, counted.1), omega (arith, counted.2), length_digits 256 (8 * blocks_in vs) _ ∙ ap (λ n. 8 * n) (sym size))
well-formed wire network destination bytes work (Err fault) e = tt

-- a header that was read fits
read_fits : (vs : List ℕ) → AllBelowBase 64 vs → 15 ≤ length vs → header_fits (header_of vs) ≡ true
read_fits vs under long =
    let repeater : field 0 2 vs < 4096 = field_below 0 2 vs under (omega arith) in
    let destination : field 3 2 vs < 4096 = field_below 3 2 vs under (omega arith) in
    let network : field 5 6 vs < 2 ^ 36 = field_below 5 6 vs under (omega arith) in
    let source : field 11 2 vs < 4096 = field_below 11 2 vs under (omega arith) in
    grind (arith, nat_tests)

-- nothing stands against building it again
none-against : (room : ℕ) (header : Header) (count : ℕ) → frame_room ≤ room → is_some (type_of header.frame_type) ≡ true → 1 ≤ header.size → header.size ≤ 3 → count + 1 ≡ 8 * header.size → header_fits header ≡ true
    → build_refusal room header count ≡ None
none-against room header count h known some few whole fits = grind (arith, nat_tests)

pub builds-again : (wire : Wire) → LawfulSeal wire.seal → (network destination : ℕ) (bytes work : List ℕ) (r : Result Header FrameFault) → OpenedInto wire network destination bytes work r → BuildsAgain wire bytes r
builds-again wire lawful network destination bytes work (Ok header) e =
    let o = opens wire network destination bytes e.0 in
    let vs = values_of wire.line bytes in
    let payload = payload_of wire.seal vs in
    let formed = well-formed wire network destination bytes work (Ok header) e in
    let counted = blocks-counted (length vs) (ap frame_length (length-map bytes _) ∙ o.sound.whole) in
    let fits : header_fits header ≡ true = ap header_fits e.1 ∙ read_fits vs (values-under wire.line bytes) (omega (arith, counted.0)) in
    let count : length (drop 1 payload) + 1 ≡ 8 * header.size = omega (arith, length-drop 1 payload, formed.3, formed.1) in (
      λ room h. none-against room header (length (drop 1 payload)) h formed.0 formed.1 formed.2 count fits,
      λ right. ap (bytes_of wire) (same-fields e.1 right) ∙ opened-again wire lawful network destination bytes e.0,
    )
builds-again wire lawful network destination bytes work (Err fault) e = tt

pub opens-alone : (wire : Wire) → LawfulSeal wire.seal → (network destination : ℕ) (bytes work : List ℕ) (r : Result Header FrameFault) → OpenedInto wire network destination bytes work r → OpensAlone wire bytes r
opens-alone wire lawful network destination bytes work (Ok header) o =
    let again = opened-again wire lawful network destination bytes o.0 in
    (again, λ network' destination' other e same. opened-alone wire lawful network' destination' other (fields_of wire bytes) e same ∙ again)
opens-alone wire lawful network destination bytes work (Err fault) o = tt

-- what nothing stands against can be built
buildable-fields : (room : ℕ) (header : Header) (behind : List ℕ) → build_refusal room header (length behind) ≡ None → AllBelowBase 256 behind → Buildable (fields_with header behind)
buildable-fields room header behind none under =
    let least : 1 ≤ header.size = grind (arith, nat_tests) in
    let most : header.size ≤ 3 = grind (arith, nat_tests) in
    record {
      fits = record {
        repeater = grind (arith, nat_tests);
        destination = grind (arith, nat_tests);
        network = grind (arith, nat_tests);
        source = grind (arith, nat_tests);
        kind = grind (arith, nat_tests);
        size = omega arith;
      };
      known = grind (arith, nat_tests);
      some = least;
      few = most;
      bytes = (check-below 8 0x107 (omega arith) (omega arith) behind, under);
      whole = grind (arith, nat_tests);
    }

-- a frame that was put together and written
pub built-frame : (wire : Wire) (header : Header) (behind before after : List ℕ) (size : Size) (body : Body) (count : ℕ)
    → (build_refusal (length before) header (length behind) ≡ None) × (size.count ≡ header.size)
    → body.size ≡ size → blocks_of body ≡ closed_from wire.seal size.count (with_check_byte behind) → body.filling ≡ seal_filling wire.seal size.count
    → Written wire.line (frame_of header body.size.count (number_in body)) before after (Ok count)
    → Built wire header behind before after (Ok count)
built-frame wire header behind before after size body count accepted same blocks filling written =
    let sealed : frame_of header body.size.count (number_in body) ≡ frame_of header header.size (sealed_body wire.seal header.size (with_check_byte behind)) = cc in (
      accepted.0,
      written.1 ∙ ap length sealed ∙ frame-long header header.size (sealed_body wire.seal header.size (with_check_byte behind)),
      written.2 ∙ ap (λ vs. symbols_of wire.line vs ++ drop count before) sealed,
    )

module _ (wire : Wire) (header : Header) (behind before after : List ℕ) (count : ℕ) (built : Built wire header behind before after (Ok count)) where
  front : take count after ≡ bytes_of wire (fields_with header behind)
  front =
      ap (take count) built.2
      ∙ take_at (bytes_of wire (fields_with header behind)) (drop count before) count (length-map _ wire.line.symbol ∙ length-set _ 2 _ ∙ frame-long header header.size _ ∙ sym built.1)

  pub opens-again : LawfulLine wire.line → LawfulSeal wire.seal → AllBelowBase 256 behind → OpensAgain wire header behind after (Ok count)
  opens-again line seal under =
      let can = buildable-fields (length before) header behind built.0 under in (
        ap (open_refusal wire header.network header.destination) front ∙ built-opens wire line seal (fields_with header behind) can,
        ap (fields_of wire) front ∙ built-fields wire line seal (fields_with header behind) can,
      )

  pub built-alone : LawfulSeal wire.seal → BuiltAlone wire header behind after (Ok count)
  built-alone seal network destination bytes e same = front ∙ sym (opened-alone wire seal network destination bytes (fields_with header behind) e same)
