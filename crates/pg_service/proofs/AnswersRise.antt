-- The ids of an answer rise.
use Rattle.std.proofs.Common.{◌≡◌, List, [], ◌∷◌, map, refl, ap, sym, subst}
use Rattle.std.specs.List.Sorted.{IsStrictlySortedBy}
use Rattle.std.specs.Map.{keys_of}
use Rattle.std.specs.Ordering.{nat_cmp}
use Rattle.pg_graph.specs.Rows.{HasRisingIds, Rows}
use Rattle.pg_model.specs.Job.{Job}
use Rattle.pg_model.specs.Run.{answer, configuration, run_length}
use Rattle.pg_model.specs.Superstep.{ids}
use Rattle.pg_model.specs.declared.configuration.VertexWithInbox.{VertexWithInbox}
use Rattle.pg_model.proofs.LawsIds.{in_order}
use Rattle.pg_publish.specs.Answers.{HaveRisingIds}

module _ {V M : Type 0} where
  keys-values : (xs : List (VertexWithInbox V M)) → keys_of (map (λ (x : VertexWithInbox V M). (x.state.id, x.state.value)) xs) ≡ ids xs
  keys-values [] = refl
  keys-values (x ∷ xs) = ap (λ is. x.state.id ∷ is) (keys-values xs)

  -- where the ids of the rows rise
  pub answer_rises : (own : Job V M) (rows : Rows) → HasRisingIds rows → HaveRisingIds (answer own rows).values
  unfolding answer
  answer_rises own rows rising =
      subst (IsStrictlySortedBy nat_cmp) (sym (keys-values (configuration own rows (run_length own rows)).with_inboxes))
      (in_order own rows rising (run_length own rows)).with_inboxes
