-- What a change affects, worked: states, inboxes and candidates of two runs of shortest paths, computed from the definitions.
use Rattle.std.proofs.Common.{◌≡◌, ℕ, Bool, true, false, cond, ℤ, pos, [], ◌∷◌, None, Some, refl, ap, sym, ◌∙◌, arith, inl, inr}
use Rattle.std.specs.List.Sorted.{IsStrictlySortedBy}
use Rattle.std.specs.Ordering.{int_eq}
use Rattle.std.proofs.lemmas.Bool.{or_parts}
use Rattle.std.proofs.lemmas.Bool.Decides.{Decides-int_eq}
use Rattle.pg_graph.specs.Handed.{EdgeList, Row}
use Rattle.pg_graph.specs.Rows.{Rows, HasRisingIds, row_at}
use Rattle.pg_graph.specs.declared.missing.Missing.{Missing}
use Rattle.pg_graph.specs.declared.missing.Missing.TheVariants.{Drop, Create}
use Rattle.pg_model.specs.Affected.{IsUnaffected, AreCandidates}
use Rattle.pg_model.specs.ByIds.{state_at, inbox_at, sent_at}
use Rattle.pg_model.specs.Job.{Job}
use Rattle.pg_model.specs.Needed.{inputs_at, needed_in}
use Rattle.pg_model.specs.Programs.{sssp, sssp_step, sssp_aggregators, decides_nothing}
use Rattle.pg_model.specs.Run.{first, configuration, length_from, run_length}
use Rattle.pg_model.specs.Superstep.{visible_in, view_of, outcome, gathered_from, has_id, next}
use Rattle.pg_model.proofs.LawsAffected.{StandsAlike-first, needed_in-AreCandidates}
use Rattle.pg_model.proofs.LawsPresent.{at_key}

abbrev from_1 : Missing → Job ℤ ℤ
from_1 missing = record { program = sssp 1; combining = None; aggregators = sssp_aggregators; deciding = decides_nothing; missing = missing; limit = 1000 }

abbrev row : EdgeList → Row
row edges = record { input = pos 0; edges = edges }

-- ---- 1 to 2 of weight 5, 2 to 3 of weight 1; and then from 1 to 3 of weight 2
abbrev two_hops : Rows
two_hops = (1, row ((2, pos 5) ∷ [])) ∷ (2, row ((3, pos 1) ∷ [])) ∷ (3, row []) ∷ []

abbrev shortcut : Rows
shortcut = (1, row ((2, pos 5) ∷ (3, pos 2) ∷ [])) ∷ (2, row ((3, pos 1) ∷ [])) ∷ (3, row []) ∷ []

other_row : (id : ℕ) → has_id (1 ∷ []) id ≡ false → row_at id two_hops ≡ row_at id shortcut
other_row id other =
    let apart = at_key id 1 ∙ (or_parts _ false other).0 in
    ap (λ (b : Bool). cond b (Some (row ((2, pos 5) ∷ []))) (row_at id ((2, row ((3, pos 1) ∷ [])) ∷ (3, row []) ∷ []))) apart
    ∙ sym (ap (λ (b : Bool). cond b (Some (row ((2, pos 5) ∷ (3, pos 2) ∷ []))) (row_at id ((2, row ((3, pos 1) ∷ [])) ∷ (3, row []) ∷ []))) apart)

two_hops-length : run_length (from_1 Drop) two_hops ≡ 3
unfolding first next configuration length_from visible_in view_of outcome gathered_from sssp_step
two_hops-length = refl

-- 1, whose row it is, is the one candidate of superstep 0
shortcut-candidates_0 : AreCandidates (from_1 Drop) two_hops shortcut (λ id. true) 0 (1 ∷ [])
unfolding first next configuration length_from visible_in view_of outcome gathered_from sssp_step IsStrictlySortedBy
shortcut-candidates_0 = record {
  rise = (tt, tt);
  others = λ id picked other. record {
    alike = λ _. StandsAlike-first (from_1 Drop) two_hops shortcut id (other_row id other);
    sees = inl (record { within = omega (arith, two_hops-length); view = refl });
  };
}

rising : HasRisingIds shortcut
unfolding IsStrictlySortedBy
rising = ((refl, (refl, tt)), ((refl, tt), (tt, tt)))

-- so one execution of it is needed
shortcut-needed_0 : needed_in int_eq int_eq (from_1 Drop) (Some two_hops) shortcut (λ id. true) 0 ≡ 1
unfolding first next configuration length_from visible_in view_of outcome gathered_from sssp_step inputs_at
shortcut-needed_0 =
    let itself : (a : ℤ) → int_eq a a ≡ true = λ a. (Decides-int_eq a a).1 refl in
    needed_in-AreCandidates (from_1 Drop) two_hops shortcut int_eq int_eq itself itself rising (λ id. true) 0 (1 ∷ []) shortcut-candidates_0
    ∙ refl

-- 3 receives something else in superstep 1
shortcut-inbox_3-old : inbox_at (from_1 Drop) two_hops 1 3 ≡ []
unfolding first next configuration length_from visible_in view_of outcome gathered_from sssp_step
shortcut-inbox_3-old = refl

shortcut-inbox_3-new : inbox_at (from_1 Drop) shortcut 1 3 ≡ pos 2 ∷ []
unfolding first next configuration length_from visible_in view_of outcome gathered_from sssp_step
shortcut-inbox_3-new = refl

-- 2 is unaffected there
shortcut-spares_2 : IsUnaffected (from_1 Drop) two_hops shortcut 1 2
unfolding first next configuration length_from visible_in view_of outcome gathered_from sssp_step
shortcut-spares_2 = record {
  alike = λ _. record { state = refl; inbox = refl };
  sees = inl (record { within = omega (arith, two_hops-length); view = refl });
}

-- ---- past the end of the old run: without 2 it has one superstep, and in the next 1 isn't executed
abbrev removed : Rows
removed = (1, row ((2, pos 5) ∷ [])) ∷ (3, row []) ∷ []

removed-length : run_length (from_1 Drop) removed ≡ 1
unfolding first next configuration length_from visible_in view_of outcome gathered_from sssp_step
removed-length = refl

restored-spares_1 : IsUnaffected (from_1 Drop) removed two_hops 1 1
unfolding first next configuration length_from visible_in view_of outcome gathered_from sssp_step inputs_at
restored-spares_1 = record {
  alike = λ within. absurd (omega (arith, within, removed-length));
  sees = inr refl;
}

-- ---- 2 is made in superstep 1 by 1, or in superstep 2 by 3
abbrev detour : Rows
detour = (1, row ((3, pos 1) ∷ [])) ∷ (3, row ((2, pos 1) ∷ [])) ∷ []

made_first-inbox : inbox_at (from_1 Create) removed 1 2 ≡ pos 5 ∷ []
unfolding first next configuration length_from visible_in view_of outcome gathered_from sssp_step
made_first-inbox = refl

made_later-inbox : inbox_at (from_1 Create) detour 1 2 ≡ []
unfolding first next configuration length_from visible_in view_of outcome gathered_from sssp_step
made_later-inbox = refl

-- it has no state in either run until it was there for a superstep
made_first-state_1 : state_at (from_1 Create) removed 1 2 ≡ None
unfolding first next configuration length_from visible_in view_of outcome gathered_from sssp_step
made_first-state_1 = refl

made_first-state_2 : state_at (from_1 Create) removed 2 2 ≡ Some (record { id = 2; value = pos 5; edges = []; halted = true })
unfolding first next configuration length_from visible_in view_of outcome gathered_from sssp_step
made_first-state_2 = refl

made_later-state_2 : state_at (from_1 Create) detour 2 2 ≡ None
unfolding first next configuration length_from visible_in view_of outcome gathered_from sssp_step
made_later-state_2 = refl

made_later-sent : sent_at (from_1 Create) detour 1 3 ≡ (2, pos 2) ∷ []
unfolding first next configuration length_from visible_in view_of outcome gathered_from sssp_step
made_later-sent = refl

made_later-inbox_2 : inbox_at (from_1 Create) detour 2 2 ≡ pos 2 ∷ []
unfolding first next configuration length_from visible_in view_of outcome gathered_from sssp_step
made_later-inbox_2 = refl
