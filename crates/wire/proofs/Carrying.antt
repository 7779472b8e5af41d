-- What is written on a line is read from it again, and a frame that was carried comes back. Assumes nothing.
use Rattle.std.proofs.Common.{◌≡◌, ℕ, ◌+◌, ◌<◌, ◌≤◌, true, List, [], ◌∷◌, ◌++◌, map, length, get_or, take, drop, set, Some, None, Ok, Option, unwrap_or, sym, refl, ap, ◌∙◌, arith, length-set}
use Rattle.std.proofs.lemmas.List.{length-map, get_or-set_same, drop-set-lt, set-set, set-get_or, take_at}
use Rattle.std.proofs.ByRecursion.{All-drop, All-set}
use Rattle.std.proofs.lemmas.Bool.{eq-eqb, eqb-true, le-leb}
use Rattle.std.proofs.lemmas.Bool.Decides.{nat_tests}
use Rattle.std.specs.Option.{option_map}
use Rattle.std.specs.Int.Digits.{AllBelowBase}
use Rattle.line.specs.Code.{LineCode, Lawful, value_of}
use Rattle.line.proofs.Codes.{symbol-value, value-small, value-symbol}
use Rattle.wire.specs.declared.fault.LineFault.TheVariants.{Length, NoSymbol, Check}
use Rattle.wire.specs.Frames.{frame_length, first_no_symbol, or_later, values_of, check_over, check_holds, with_check, symbols_of}
use Rattle.wire.specs.declared.fault.CarryFault.TheVariants.{Buffer, Line}
use Rattle.wire.specs.declared.frame_values.FrameValues.{FrameValues}
use Rattle.wire.specs.Values.{values_in}
use Rattle.wire.specs.Calls.{Read, Written, Carried, CarriesBack}
use Rattle.wire.specs.Refusing.{line_refusal, carry_refusal, carried}
use Rattle.refusal.specs.Outcomes.{unless, or_else}
use Rattle.refusal.proofs.Firsts.{neither, unless-none, mapped-none}

pub frame-least : (n : ℕ) → frame_length n ≡ true → 3 ≤ n
frame-least n e = grind (arith, nat_tests)

pub frame-most : (n : ℕ) → frame_length n ≡ true → n ≤ 48
frame-most n e = grind (arith, nat_tests)

-- what a frame that is not refused has
pub record Sound (code : LineCode) (bytes : List ℕ) : Type 0 where
  pub whole : frame_length (length bytes) ≡ true
  pub symbols : first_no_symbol code 0 bytes ≡ None
  pub check : check_holds code (values_of code bytes) ≡ true

pub sound : (code : LineCode) (bytes : List ℕ) → line_refusal code bytes ≡ None → Sound code bytes
sound code bytes e =
    let p = neither (unless (frame_length (length bytes)) Length) _ e in
    let q = neither (option_map NoSymbol (first_no_symbol code 0 bytes)) _ p.1 in
    record {
      whole = unless-none (frame_length (length bytes)) Length p.0;
      symbols = mapped-none NoSymbol (first_no_symbol code 0 bytes) q.0;
      check = unless-none (check_holds code (values_of code bytes)) Check q.1;
    }

pub accepted : (code : LineCode) (bytes : List ℕ) → Sound code bytes → line_refusal code bytes ≡ None
accepted code bytes s = rw (s.whole, s.symbols, s.check)

value-under : (code : LineCode) (b : ℕ) (o : Option ℕ) → value_of code b ≡ o → unwrap_or o 0 < 64
value-under code b None e = omega arith
value-under code b (Some v) e = value-small code b v e

pub values-under : (code : LineCode) (bytes : List ℕ) → AllBelowBase 64 (values_of code bytes)
values-under code [] = tt
values-under code (b ∷ bs) = (value-under code b (value_of code b) refl, values-under code bs)

-- bytes that are all symbols are those of their values
symbol-again : (code : LineCode) (i b : ℕ) (o : Option ℕ) (later : Option ℕ) → value_of code b ≡ o → or_later i o later ≡ None → (code.symbol (unwrap_or o 0) ≡ b) × (later ≡ None)
symbol-again code i b None later e n = absurd (let z : ◌≡◌ {A = ℕ} 0 1 = cc in omega arith)
symbol-again code i b (Some v) later e n = (value-symbol code b v e, n)

pub bytes-again : (code : LineCode) (i : ℕ) (bytes : List ℕ) → first_no_symbol code i bytes ≡ None → map code.symbol (values_of code bytes) ≡ bytes
bytes-again code i [] n = refl
bytes-again code i (b ∷ bs) n =
    let p = symbol-again code i b (value_of code b) (first_no_symbol code (i + 1) bs) refl n in
    rw (p.0, bytes-again code (i + 1) bs p.1)

module _ (code : LineCode) (lawful : Lawful code) where
  -- symbols that were written are read again
  pub values-again : (vs : List ℕ) → AllBelowBase 64 vs → values_of code (map code.symbol vs) ≡ vs
  values-again [] u = refl
  values-again (v ∷ vs) u = rw (symbol-value code lawful v u.0, values-again vs u.1)

  all-symbols : (i : ℕ) (vs : List ℕ) → AllBelowBase 64 vs → first_no_symbol code i (map code.symbol vs) ≡ None
  all-symbols i [] u = refl
  all-symbols i (v ∷ vs) u = rw (symbol-value code lawful v u.0) (all-symbols (i + 1) vs u.1)

  check-under : (vs : List ℕ) → AllBelowBase 64 vs → AllBelowBase 64 (with_check code vs)
  check-under vs u = All-set (λ v. v < 64) vs 2 (check_over code vs) (lawful.six_bits (drop 3 vs) (All-drop (λ v. v < 64) 3 vs u)) u

  check-again : (vs : List ℕ) → 3 ≤ length vs → check_holds code (with_check code vs) ≡ true
  check-again vs h =
      eq-eqb (get_or (with_check code vs) 2 0) (check_over code (with_check code vs))
      (get_or-set_same vs 2 (check_over code vs) 0 (omega arith) ∙ sym (ap code.check (drop-set-lt 3 vs 2 (check_over code vs) (omega arith))))

  -- a frame that was written reads as its values, with the line's own check
  pub written-reads : (vs : List ℕ) → AllBelowBase 64 vs → values_of code (symbols_of code vs) ≡ with_check code vs
  written-reads vs u = values-again (with_check code vs) (check-under vs u)

  pub written-sound : (vs : List ℕ) → AllBelowBase 64 vs → frame_length (length vs) ≡ true → Sound code (symbols_of code vs)
  written-sound vs u e = record {
    whole = rw (length-map, length-set) e;
    symbols = all-symbols 0 (with_check code vs) (check-under vs u);
    check = rw (written-reads vs u) (check-again vs (frame-least (length vs) e));
  }

pub carried-long : (a b : LineCode) (bytes : List ℕ) → length (carried a b bytes) ≡ length bytes
carried-long a b bytes = rw (length-map, length-set, length-map)

-- whatever stands at the check's place of a sound frame, the line's own check comes to stand there again
pub check-restored : (code : LineCode) (bytes : List ℕ) → Sound code bytes → (c : ℕ) → with_check code (set (values_of code bytes) 2 c) ≡ values_of code bytes
check-restored code bytes s c =
    let vs = values_of code bytes in
    ap (λ ds. set (set vs 2 c) 2 (code.check ds)) (drop-set-lt 3 vs 2 c (omega arith))
    ∙ set-set vs 2 c (check_over code vs)
    ∙ ap (set vs 2) (sym (eqb-true (get_or vs 2 0) (check_over code vs) s.check))
    ∙ set-get_or vs 2 0

module _ (a b : LineCode) (lawful : Lawful b) (bytes : List ℕ) (s : Sound a bytes) where
  carried-accepted : line_refusal b (carried a b bytes) ≡ None
  carried-accepted = accepted b (carried a b bytes) (written-sound b lawful (values_of a bytes) (values-under a bytes) (rw length-map s.whole))

  carried-back : carried b a (carried a b bytes) ≡ bytes
  carried-back =
      let vs = values_of a bytes in
      ap (symbols_of a) (written-reads b lawful vs (values-under a bytes)) ∙ ap (map a.symbol) (check-restored a bytes s (check_over b vs)) ∙ bytes-again a 0 bytes s.symbols

  -- the same of the front of a buffer that they were written to
  front-back : (n : ℕ) (out tail : List ℕ) → n ≡ length bytes → out ≡ carried a b bytes ++ tail → CarriesBack a b bytes out (Ok n)
  front-back n out tail en eo =
      let front : take n out ≡ carried a b bytes = ap (take n) eo ∙ take_at (carried a b bytes) tail n (carried-long a b bytes ∙ sym en) in
      (ap (line_refusal b) front ∙ carried-accepted, ap (carried b a) front ∙ carried-back)

carry-accepted : (code : LineCode) (room : ℕ) (bytes : List ℕ) → 48 ≤ room → line_refusal code bytes ≡ None → carry_refusal code room bytes ≡ None
carry-accepted code room bytes h e = ap (λ t. or_else (unless t (Buffer (record {}))) (option_map Line (line_refusal code bytes))) (le-leb 48 room h) ∙ ap (option_map Line) e

-- reading on one line and writing on another is carrying
pub read-written : (a b : LineCode) (frame was out : List ℕ) (f : FrameValues) (n : ℕ) → Read a frame (Ok f) → Written b (values_in f) was out (Ok n) → Carried a b frame was out (Ok n)
read-written a b frame was out f n r w =
    let count : n ≡ length frame = w.1 ∙ ap length r.1 ∙ length-map frame _ in
    (carry-accepted a (length was) frame w.0 r.0, count, w.2 ∙ ap (λ vs. symbols_of b vs ++ drop n was) r.1)

pub carries-back : (a b : LineCode) → Lawful b → (frame was out : List ℕ) (f : FrameValues) (n : ℕ) → Read a frame (Ok f) → Carried a b frame was out (Ok n) → CarriesBack a b frame out (Ok n)
carries-back a b lawful frame was out f n r c = front-back a b lawful frame (sound a frame r.0) n out (drop n was) c.1 c.2
