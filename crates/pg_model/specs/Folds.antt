-- When a fold doesn't depend on order and cut: the values are a commutative monoid.
use Rattle.std.specs.Prelude.{◌≡◌}

-- on values, f stays among them, is associative and commutative, and leaves what it is given where the other is
-- `initial`
pub record IsCommutativeMonoid {A : Type 0} (is_value : A → Type 0) (f : A → A → A) (initial : A) : Type 0 where
  pub begins : is_value initial
  pub stays : (a b : A) → is_value a → is_value b → is_value (f a b)
  pub neutral : (a : A) → is_value a → f initial a ≡ a
  pub commutative : (a b : A) → is_value a → is_value b → f a b ≡ f b a
  pub associative : (a b c : A) → is_value a → is_value b → is_value c → f (f a b) c ≡ f a (f b c)
