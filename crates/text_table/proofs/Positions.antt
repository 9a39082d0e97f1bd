-- The first of some things that passes a test, and of what they are mapped to. Assumes nothing.
use Rattle.std.proofs.Common.{◌≡◌, ◌+◌, Bool, not, cond, List, [], ◌∷◌, map, Some, None, nat_lt, refl}
use Rattle.std.specs.List.{position, prefix_len}
use Rattle.std.proofs.lemmas.List.{length-map}

module _ {X Y : Type 0} (f : X → Y) where
  prefix-map : (p : Y → Bool) (xs : List X) → prefix_len p (map f xs) ≡ prefix_len (λ x. p (f x)) xs
  prefix-map p [] = refl
  prefix-map p (x ∷ xs) = λ i. cond (p (f x)) (1 + prefix-map p xs i) 0

  pub position-map : (p : Y → Bool) (xs : List X) → position p (map f xs) ≡ position (λ x. p (f x)) xs
  position-map p xs =
      let first = prefix-map (λ y. not (p y)) xs in
      let long = length-map xs f in
      λ i. cond (nat_lt (first i) (long i)) (Some (first i)) None
