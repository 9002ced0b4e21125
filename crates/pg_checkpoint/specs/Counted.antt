-- What it is to test a number that may be stated.
use Rattle.std.specs.Prelude.{◌≡◌, ℕ, ◌<◌, ◌^◌, Bool, false, true, Option, None, Some}

-- where a number is stated, it is this one, which fits eight bytes, or it is not
abbrev pub IsCount : Option ℕ → ℕ → Bool → Type 0
IsCount None n is = is ≡ true
IsCount (Some stated) n true = stated ≡ n
IsCount (Some stated) n false = (n < 2 ^ 64) × (stated ≡ n → ⊥)
