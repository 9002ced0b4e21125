-- What a superstep's parts come to.
use Rattle.std.proofs.Common.{◌≡◌, ℕ, true, length, sym, ap, ◌∙◌, subst}
use Rattle.pg_model.specs.Job.{Program}
use Rattle.pg_model.specs.Superstep.{view_of}
use Rattle.pg_model.specs.declared.view.Declared.{Declared}
use Rattle.pg_model.specs.declared.view.View.{View}
use Rattle.pg_model.specs.declared.view.Visible.{Visible}
use Rattle.pg_program.specs.Context.{ShowsDeclared}
use Rattle.pg_global.specs.Master.{has_places}
use Rattle.pg_global.proofs.Shown.{shows_declared}

-- what it sees shows that
pub shown_in : {V M : Type 0} (program : Program V M) (declared : Declared) (s n : ℕ) (v : Visible) (w : View)
    → has_places program.declared n ≡ true → length v.values ≡ n → declared ≡ program.declared
    → w ≡ view_of declared s v → ShowsDeclared program.declared w
shown_in program declared s n v w registered places declares view_is =
    subst (λ x. ShowsDeclared program.declared x) (sym (view_is
    ∙ ap (λ (d : Declared). view_of d s v) declares)) (shows_declared program.declared s n v registered places)
