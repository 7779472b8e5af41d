-- Where no refusal applies. Assumes nothing.
use Rattle.std.proofs.Common.{◌≡◌, ℕ, Bool, true, false, Some, None, Option, refl, arith}
use Rattle.std.specs.Option.{option_map}
use Rattle.refusal.specs.Outcomes.{unless, or_else}

-- of two refusals none applies only where neither does
pub neither : {F : Type 0} (x y : Option F) → or_else x y ≡ None → (x ≡ None) × (y ≡ None)
neither None y e = (refl, e)
neither (Some f) y e = absurd (let z : ◌≡◌ {A = ℕ} 0 1 = cc in omega arith)

pub unless-none : {F : Type 0} (b : Bool) (f : F) → unless b f ≡ None → b ≡ true
unless-none true f e = refl
unless-none false f e = absurd (let z : ◌≡◌ {A = ℕ} 0 1 = cc in omega arith)

pub mapped-none : {A B : Type 0} (f : A → B) (o : Option A) → option_map f o ≡ None → o ≡ None
mapped-none f None e = refl
mapped-none f (Some x) e = absurd (let z : ◌≡◌ {A = ℕ} 0 1 = cc in omega arith)
