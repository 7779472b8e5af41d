-- What the radio line's table and register give. Assumes nothing.
use Rattle.std.specs.Prelude.{◌≡◌, ℕ, ◌+◌, ◌<◌, ◌≤◌, true, ◌≢◌, List, [], map, length, drop, replicate, Some, None, Option, ◌==◌, slice_index, slice_index_or, slice_set, refl}
use Rattle.std.proofs.Common.{ap, sym, ◌∙◌, subst, append-nil, arith, add-one}
use Rattle.std.specs.Option.{option_map}
use Rattle.std.proofs.lemmas.List.{drop_all, get_or-map, get_or_default, length-map, get_or-replicate, get_or-set_same, get_or-set_other}
use Rattle.std.proofs.lemmas.Bool.{cond_both, eqb-true, eqb-false, eq-eqb, false≢true}
use Rattle.line.specs.declared.six_bit.SixBit.{SixBit}
use Rattle.line.specs.Values.{number_of, numbers}
use Rattle.arithmetic.specs.Digits.{digits, bits_of}
use Rattle.line.specs.Code.{Reads, value_below}
use Rattle.line.specs.Radio.{radio_symbol, moved_up, register_after, register_over, radio, agrees, ReadsBelow}
use Rattle.line.proofs.Codes.{searched}
use Rattle.line.proofs.Numbers.{number_at}
use Rattle.arithmetic.proofs.Folds.{number_more}

agree_same : (o : Option SixBit) (v : Option ℕ) → agrees o v ≡ true → option_map number_of o ≡ v
agree_same None None e = refl
agree_same None (Some n) e = absurd (false≢true e)
agree_same (Some v) None e = absurd (false≢true e)
agree_same (Some v) (Some n) e = ap (λ m. Some m) (eqb-true (number_of v) n e)

-- what stands at a byte's place
pub reads : (table : List (Option SixBit)) → length table ≡ 256 → ReadsBelow 64 table → (b : ℕ) → b < 256 → (d : Option SixBit) → Reads radio b (option_map number_of (slice_index_or table b d))
reads table long inverse b h d =
    searched radio b _ (ap (option_map number_of) (get_or_default table b d None (omega arith)) ∙ agree_same (slice_index_or table b None) (value_below radio_symbol 64 b) (inverse b h))

pub reads_none : ReadsBelow 0 (replicate 256 None)
unfolding value_below
reads_none b h = ap (λ o. agrees o None) (get_or-replicate 256 b None None h)

-- one more symbol noted in the table
pub reads_more : (n x : ℕ) (v : SixBit) (table : List (Option SixBit)) → length table ≡ 256 → number_of v ≡ n → x ≡ radio_symbol n → x < 256 → ReadsBelow n table → ReadsBelow (n + 1) (slice_set table x (Some v))
unfolding value_below
reads_more n x v table long ev ex hx inv b hb =
    rw add-one
    (cond_both (radio_symbol n == b) (Some n) (value_below radio_symbol n b) (λ o. agrees (slice_index_or (slice_set table x (Some v)) b None) o ≡ true)
    (λ e. let s : x ≡ b = ex ∙ eqb-true (radio_symbol n) b e in
    subst (λ (y : ℕ). agrees (slice_index_or (slice_set table x (Some v)) y None) (Some n) ≡ true) s (ap (λ o. agrees o (Some n)) (get_or-set_same table x (Some v) None (omega arith)) ∙ eq-eqb (number_of v) n ev))
    (λ e. let ne : b ≢ x = λ q. eqb-false (radio_symbol n) b e (sym ex ∙ sym q) in ap (λ o. agrees o (value_below radio_symbol n b)) (get_or-set_other table x b (Some v) None ne) ∙ inv b hb))

-- one more byte moved through
moved_more : (bytes : List ℕ) (i r r' : ℕ) → i < length bytes → r' ≡ register_after r (digits 2 8 (slice_index bytes i)) → register_after r' (bits_of 8 (drop (i + 1) bytes)) ≡ register_after r (bits_of 8 (drop i bytes))
moved_more bytes i r r' h e = ap (register_after r') (sym (append-nil (bits_of 8 (drop (i + 1) bytes)))) ∙ number_more moved_up 8 bytes [] i r r' h e ∙ ap (register_after r) (append-nil (bits_of 8 (drop i bytes)))

-- one more value's symbol moved through
pub radio-step : (vs : List SixBit) (v : SixBit) (i r s r' : ℕ) → i < length vs → v ≡ slice_index_or vs i v → s ≡ radio_symbol (number_of v) → r' ≡ register_after r (digits 2 8 s)
    → register_after r' (bits_of 8 (drop (i + 1) (map radio_symbol (numbers vs)))) ≡ register_after r (bits_of 8 (drop i (map radio_symbol (numbers vs))))
radio-step vs v i r s r' h e es er =
    let n : i < length (numbers vs) = rw length-map h in
    moved_more (map radio_symbol (numbers vs)) i r r' (rw length-map n)
    (er ∙ ap (λ x. register_after r (digits 2 8 x)) (es ∙ ap radio_symbol (number_at vs v i h e) ∙ sym (get_or-map radio_symbol (numbers vs) i 0 0 n)))

pub radio-end : (vs : List SixBit) (i r : ℕ) → length vs ≤ i
    → register_after r (bits_of 8 (drop i (map radio_symbol (numbers vs)))) ≡ register_over (map radio_symbol (numbers vs))
    → r ≡ register_over (map radio_symbol (numbers vs))
radio-end vs i r h inv =
    let n : length (numbers vs) ≤ i = rw length-map h in
    ap (λ bytes. register_after r (bits_of 8 bytes)) (sym (drop_all i (map radio_symbol (numbers vs)) (rw length-map n))) ∙ inv
