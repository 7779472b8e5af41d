-- A header and the values that it stands in. Assumes nothing.
use Rattle.std.proofs.Common.{◌≡◌, ℕ, ◌+◌, ◌^◌, ◌<◌, ◌≤◌, List, ◌++◌, length, take, drop, set, sym, refl, ap, ◌∙◌, subst, arith, rules}
use Rattle.std.proofs.lemmas.Int.Digits.{number_lt}
use Rattle.std.proofs.ByRecursion.{All-take, All-drop}
use Rattle.std.proofs.lemmas.List.{length-take-le, length-drop, take-append-drop, drop-drop, set_split}
use Rattle.std.specs.Int.Digits.{number_from_digits, AllBelowBase}
use Rattle.arithmetic.specs.Digits.{digits}
use Rattle.arithmetic.proofs.Bases.{number-again, digits-again}
use Rattle.fields.specs.declared.header.Header.{Header}
use Rattle.fields.specs.Layout.{field, header_of, header_values}

module _ (place count : ℕ) (vs : List ℕ) (u : AllBelowBase 64 vs) (h : place + count ≤ length vs) where
  abbrev part : List ℕ
  part = take count (drop place vs)

  part-long : length part ≡ count
  part-long = length-take-le count (drop place vs) (rw length-drop (omega arith))

  part-under : AllBelowBase 64 part
  part-under = All-take (λ v. v < 64) count (drop place vs) (All-drop (λ v. v < 64) place vs u)

  -- the values of a field are the digits of its number
  pub field-again : digits 64 count (field place count vs) ≡ take count (drop place vs)
  field-again = ap (λ k. digits 64 k (number_from_digits 64 part)) (sym part-long) ∙ digits-again 64 (omega arith) part part-under

  -- and so it is small
  pub field_below : field place count vs < 64 ^ count
  field_below = subst (λ (k : ℕ). number_from_digits 64 part < 64 ^ k) part-long (number_lt 64 part part-under)

  -- in front of what stands behind the field they are what stands from it on
  field-and-rest : digits 64 count (field place count vs) ++ drop (place + count) vs ≡ drop place vs
  field-and-rest = rw (field-again, ← drop-drop count place vs) (take-append-drop count (drop place vs))

-- the header of values, written again in front of the body: all is as it was, but for the check
pub header-again : (vs : List ℕ) → AllBelowBase 64 vs → 15 ≤ length vs → header_values (header_of vs) ++ drop 15 vs ≡ set vs 2 0
unfolding header_values
header-again vs u h =
    let behind : (place count : ℕ) → place + count ≤ 15 → digits 64 count (field place count vs) ++ drop (place + count) vs ≡ drop place vs = λ place count e. field-and-rest place count vs u (omega arith) in
    cc (set_split vs 2 0 (omega arith), field-again 0 2 vs u (omega arith), behind 3 2 (omega arith), behind 5 6 (omega arith), behind 11 2 (omega arith), behind 13 1 (omega arith), behind 14 1 (omega arith))

header : ℕ → ℕ → ℕ → ℕ → ℕ → ℕ → Header
header repeater destination network source kind size = record { repeater = repeater; destination = destination; network = network; source = source; frame_type = kind; size = size }

same-header : {r r' d d' n n' s s' t t' z z' : ℕ} → r ≡ r' → d ≡ d' → n ≡ n' → s ≡ s' → t ≡ t' → z ≡ z' → header r d n s t z ≡ header r' d' n' s' t' z'
same-header er ed en es et ez = cc

-- every number of a header fits its values
pub record Fits (h : Header) : Type 0 where
  pub repeater : h.repeater < 4096
  pub destination : h.destination < 4096
  pub network : h.network < 2 ^ 36
  pub source : h.source < 4096
  pub kind : h.frame_type < 64
  pub size : h.size < 64

-- then it is read back from them, whatever stands at the check's place
pub header_read : (h : Header) (c : ℕ) (body : List ℕ) → Fits h → header_of (set (header_values h ++ body) 2 c) ≡ h
unfolding header_values header
header_read h c body f =
    let again : (k n : ℕ) → n < 64 ^ k → number_from_digits 64 (digits 64 k n) ≡ n = number-again 64 (omega arith) in
    same-header (again 2 h.repeater f.repeater) (again 2 h.destination f.destination) (again 6 h.network f.network) (again 2 h.source f.source) (again 1 h.frame_type f.kind) (again 1 h.size f.size)

pub header-long : (h : Header) → length (header_values h) ≡ 15
unfolding header_values
header-long h = refl

pub header-under : (h : Header) → AllBelowBase 64 (header_values h)
unfolding header_values
header-under h = search rules
