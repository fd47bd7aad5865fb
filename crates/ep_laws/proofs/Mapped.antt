-- What is there of an optional value that a function was put to.
use Rattle.std.proofs.Common.{◌≡◌, true, Option, Some, None, is_some, refl}
use Rattle.std.proofs.lemmas.Bool.{false≢true}
use Rattle.std.specs.Option.{option_map}

pub mapped_is : {X Y : Type 0} (F : X → Y) (o : Option X) → is_some o ≡ true → is_some (option_map F o) ≡ true
mapped_is F None e = absurd (false≢true e)
mapped_is F (Some x) e = refl

pub mapped_back : {X Y : Type 0} (F : X → Y) (o : Option X) (y : Y) → option_map F o ≡ Some y → (x : X) × (o ≡ Some x) × (F x ≡ y)
mapped_back F None y e = absurd (cc)
mapped_back {X} {Y} F (Some x) y e = (x, refl, (let is : F x ≡ y = cc in is))
