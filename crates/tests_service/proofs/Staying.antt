-- What stands on a shelf whose device fails.
use Rattle.std.proofs.Common.{◌≡◌, ◌+◌, suc, List, ℕ, length, Option, None, Some, Result, Ok, Err, true, refl, sym, arith}
use Rattle.std.proofs.Math.Seq.{take-length}
use Rattle.pg_checkpoint.specs.Shelf.{Fades, IsGot, IsPut, ShelfState}
use Rattle.pg_checkpoint.specs.declared.shelf.ShelfFault.{ShelfFault}
use Rattle.pg_checkpoint.specs.declared.shelf.ShelfFault.TheVariants.{Device}

stays : (o : Option (List ℕ)) → Fades o o
stays None = tt
stays (Some bytes) = (length bytes, sym (take-length bytes))

module _ (before : ShelfState) (failures : ℕ) (one_more : failures ≡ before.failures + 1) where
  counted : failures ≡ suc before.failures
  counted = omega (arith, one_more)

  -- it stays as it was, and one failure more is counted
  pub fails_to_put : {X : Type 0} (key bytes : List ℕ) (result : Result X ShelfFault) → result ≡ Err Device
      → IsPut key bytes before result (record before { failures = failures })
  fails_to_put key bytes result is = rw is (record {
    counted = record { honest = refl; failures = counted };
    kept = λ honest. tt;
    others = λ honest other apart. stays _;
  })

  pub fails_to_get : {X : Type 0} (result : Result X ShelfFault) → result ≡ Err Device → IsGot before result (record before { failures = failures })
  fails_to_get result is = rw is (record {
    counted = record { honest = refl; failures = counted };
    fades = λ honest key. stays _;
  })
