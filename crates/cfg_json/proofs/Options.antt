-- What follows from what an option is.
use Rattle.std.specs.Option.{option_or}
use Rattle.std.proofs.Common.{◌≡◌, ◌⊎◌, inl, inr, Bool, true, false, cond, Option, Some, None, refl}
use Rattle.cfg_json.specs.Reads.{◌>>=◌}

abbrev pub given : {A : Type 0} → A → Option A
given x = Some x

abbrev pub nothing : {A : Type 0} → Option A
nothing = None

pub none_is : {A : Type 0} (x : A) → nothing {A = A} ≡ given x → ⊥
none_is x h = absurd cc

pub given_is : {A : Type 0} (x y : A) → given x ≡ given y → x ≡ y
given_is x y h = cc

pub bind_some : {A B : Type 0} (r : Option A) (f : A → Option B) (y : B) → (r >>= f) ≡ given y → (x : A) × (r ≡ Some x) × (f x ≡ Some y)
bind_some (Some x) f y e = (x, refl, e)
bind_some None f y e = absurd (none_is y e)

pub chosen : {A : Type 0} (b : Bool) (x y z : A) → cond b x y ≡ z → ((b ≡ true) × (x ≡ z)) ⊎ ((b ≡ false) × (y ≡ z))
chosen true x y z e = inl (refl, e)
chosen false x y z e = inr (refl, e)

pub tested : {A : Type 0} (b : Bool) (x y : A) → cond b (given x) nothing ≡ given y → (b ≡ true) × (x ≡ y)
tested true x y e = (refl, given_is x y e)
tested false x y e = absurd (none_is y e)

pub either : {A : Type 0} (r s : Option A) (y : A) → option_or r s ≡ given y → (r ≡ Some y) ⊎ (s ≡ Some y)
either (Some x) s y e = inl e
either None s y e = inr e
