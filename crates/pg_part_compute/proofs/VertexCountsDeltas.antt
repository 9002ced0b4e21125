-- What a step from scratch counts as it goes is what its trace has of the vertices before and after it.
use Rattle.std.proofs.Common.{◌≡◌, ℕ, ◌+◌, Bool, true, false, cond, not, List, [], ◌∷◌, ◌++◌, map, length}
use Rattle.std.proofs.Common.{Option, None, Some, is_some, option_map, refl, sym, ap, ap₂, ◌∙◌, subst, flat_map}
use Rattle.std.specs.List.{AllByRecursion}
use Rattle.std.specs.Prelude.{IfSome}
use Rattle.std.specs.List.Sorted.{IsStrictlySortedBy}
use Rattle.std.specs.Map.{keys_of}
use Rattle.std.specs.Option.{option_to_list, unwrap_or}
use Rattle.std.specs.Ordering.{nat_cmp}
use Rattle.std.proofs.lemmas.List.Folds.{flat_map-map}
use Rattle.std.proofs.lemmas.Option.{same_Some}
use Rattle.std.proofs.lemmas.Simd.{map-map}
use Rattle.pg_graph.specs.declared.missing.Missing.{Missing}
use Rattle.pg_inbox.proofs.Handed.{all_from_lookups}
use Rattle.pg_map.specs.Entries.{HasRisingIds, value_at, with_changes}
use Rattle.pg_map.proofs.Changing.{value_at-with_changes}
use Rattle.pg_model.specs.Job.{Program}
use Rattle.pg_model.specs.Superstep.{has_id, is_active}
use Rattle.pg_model.specs.declared.configuration.VertexWithInbox.{VertexWithInbox}
use Rattle.pg_model.specs.declared.configuration.VertexState.{VertexState}
use Rattle.pg_model.specs.declared.record.Record.{Record}
use Rattle.pg_model.specs.declared.view.View.{View}
use Rattle.pg_stats.specs.VertexCounts.{IsSum, state_after}
use Rattle.pg_stats.specs.declared.vertices.VertexCountsDelta.{VertexCountsDelta}
use Rattle.pg_stats.proofs.Counting.{vertex_counts-append, same_sum}
use Rattle.pg_part_routing.proofs.Listing.{flat_map-push}
use Rattle.pg_stats.specs.Stats.{vertex_counts_of}
use Rattle.pg_stats.specs.declared.stats.VertexCounts.{VertexCounts}
use Rattle.pg_trace.specs.Trace.{Trace, state_at}
use Rattle.pg_trace.proofs.NextStates.{next, state_before, state_next}
use Rattle.pg_part_compute.specs.VertexPairs.{cold, found_at}
use Rattle.pg_part_compute.specs.Found.{change_cold, is_running, reads}
use Rattle.pg_part_compute.specs.VertexCountsDeltas.{AreVertexCountsDelta, IsVertexCountsDelta, given_at, left_cold}
use Rattle.pg_part_compute.specs.declared.found.VertexPair.{VertexPair}
use Rattle.pg_part_compute.proofs.WorkItems.{has_key, nothing_rises}
use Rattle.pg_model.proofs.LawsLists.{all_to_map}
use Rattle.pg_part_compute.proofs.Changing.{entries-rise, entries-some}

-- the vertex counts of what is made of one more
pub counted_push : {V W : Type 0} (f : W → List (VertexState V)) (before : List W) (w : W) (after : VertexCounts)
    → IsSum (vertex_counts_of (flat_map f before)) (vertex_counts_of (f w)) after → after ≡ vertex_counts_of (flat_map f (before ++ w ∷ []))
counted_push f before w after h =
    same_sum (vertex_counts_of (flat_map f before)) (vertex_counts_of (f w)) after (vertex_counts_of (flat_map f before ++ f w)) h (vertex_counts-append (flat_map f before) (f w))
    ∙ ap vertex_counts_of (sym (flat_map-push f before w))

pub if_some : {T : Type 0} {P Q : T → Type 0} (o : Option T) → ((x : T) → P x → Q x) → IfSome o P → IfSome o Q
if_some None f h = h
if_some (Some x) f h = f x h

each : {X Y : Type 0} (f g : X → List Y) (xs : List X) → AllByRecursion (λ x. f x ≡ g x) xs → flat_map f xs ≡ flat_map g xs
each f g [] h = refl
each f g (x ∷ xs) h = ap₂ ◌++◌ h.0 (each f g xs h.1)

always : {X : Type 0} {P : X → Type 0} → ((x : X) → P x) → (xs : List X) → AllByRecursion P xs
always h [] = tt
always h (x ∷ xs) = (h x, always h xs)

module _ {V M : Type 0} (program : Program V M) (view : View) where
  gives : Option (VertexWithInbox V M) → Option (Record V M)
  gives x = option_map program.step (reads view x)

  -- the record that a vertex adds is that of its execution
  pub given_is : (c : VertexPair V M) (old : List (ℕ × Option (Record V M)))
      → given_at (old ++ change_cold program view c) (length old) ≡ option_map program.step (reads view c.new)
  given_is c [] = by c.new
    where
      by : (o : Option (VertexWithInbox V M))
          → given_at (cond (not (is_running o)) [] ((c.id, option_map program.step (reads view o)) ∷ [])) 0 ≡ option_map program.step (reads view o)
      by None = refl
      by (Some x) = at (is_active x) _
        where
          at : (b : Bool) (i : _)
              → given_at (cond (not b) [] ((c.id, option_map program.step (cond b (Some i) None)) ∷ [])) 0 ≡ option_map program.step (cond b (Some i) None)
          at true i = refl
          at false i = refl
  given_is c (x ∷ old) = given_is c old

  -- one that isn't running gives none
  none_given : (o : Option (VertexWithInbox V M)) (b : Bool) → not (is_running o) ≡ b → unwrap_or (cond b None (Some (gives o))) None ≡ gives o
  unfolding gives
  none_given None b h = by b
    where
      by : (b : Bool) → unwrap_or (cond b None (Some (gives None))) None ≡ gives None
      by true = refl
      by false = refl
  none_given (Some x) b h = by (is_active x) _ b h
    where
      by : (t : Bool) (i : _) (b : Bool) → not t ≡ b
          → unwrap_or (cond b None (Some (option_map program.step (cond t (Some i) None)))) None ≡ option_map program.step (cond t (Some i) None)
      by true i true h = absurd cc
      by true i false h = refl
      by false i true h = refl
      by false i false h = refl

module _ {V M : Type 0} (program : Program V M) (view : View) (missing : Missing) (s : ℕ) (trace : Trace V M)
    (ws : List (ℕ × List M)) (rise : HasRisingIds ws) where
  found : ℕ × List M → VertexPair V M
  found w = cold program missing s trace w

  changes : List (ℕ × Option (Record V M))
  changes = flat_map (change_cold program view) (map found ws)

  ids : map (λ c. c.id) (map found ws) ≡ keys_of ws
  unfolding found
  ids = map-map (λ c. c.id) found ws

  rises : IsStrictlySortedBy nat_cmp (map (λ c. c.id) (map found ws))
  unfolding found
  rises = subst (IsStrictlySortedBy nat_cmp) (sym ids) rise

  -- a vertex pair is found by what is delivered to its id
  IsOf : VertexPair V M → Type 0
  IsOf c = (x : List M) → value_at c.id ws ≡ Some x → c.new ≡ found_at program missing s trace (c.id, x)

  are_of : AllByRecursion IsOf (map found ws)
  unfolding found IsOf
  are_of =
      all_to_map found IsOf ws
      (all_from_lookups (λ w. IsOf (found w)) ws rise
      (λ q y at x h. ap (λ (z : List M). found_at program missing s trace (q, z)) (same_Some y x (sym at ∙ h))))

  remaining : (id : ℕ) (x : List M) → value_at id ws ≡ Some x
      → value_at id (with_changes changes []) ≡ option_map program.step (reads view (found_at program missing s trace (id, x)))
  unfolding changes found IsOf gives
  remaining id x at =
      let here : has_id (map (λ c. c.id) (map found ws)) id ≡ true = ap (λ l. has_id l id) ids ∙ (sym (has_key id ws) ∙ ap is_some at) in
      let e = entries-some (λ c. c.id) (λ c. not (is_running c.new)) (λ c. gives program view c.new) IsOf id (map found ws) rises are_of here in
      value_at-with_changes changes [] id (entries-rise (λ c. c.id) (λ c. not (is_running c.new)) (λ c. gives program view c.new) (map found ws) rises)
      (nothing_rises (Record V M))
      ∙ ap (λ o. unwrap_or o None) e.at ∙ none_given program view e.one.new (not (is_running e.one.new)) refl
      ∙ ap (gives program view)
      (e.holds x (ap (λ k. value_at k ws) e.same ∙ at) ∙ ap (λ k. found_at program missing s trace (k, x)) e.same)

  pub vertex_counts_delta_are : (t : VertexCountsDelta) → AreVertexCountsDelta program view missing s trace ws t
      → IsVertexCountsDelta s trace (keys_of ws) (flat_map (change_cold program view) (map (cold program missing s trace) ws)) t
  unfolding changes found
  vertex_counts_delta_are t are = record {
    removed = are.removed
        ∙ ap vertex_counts_of (each (λ id. option_to_list (state_at id s trace)) (λ id. option_to_list (state_at id s (next s trace are.next changes))) (keys_of ws)
        (always (λ id. ap option_to_list (sym (state_before s trace are.next changes id))) (keys_of ws)));
    added = are.added
        ∙ ap vertex_counts_of (each (λ w. option_to_list (left_cold program view missing s trace w)) (λ w. option_to_list (state_at w.0 (s + 1) (next s trace are.next changes))) ws
        (all_from_lookups (λ w. option_to_list (left_cold program view missing s trace w) ≡ option_to_list (state_at w.0 (s + 1) (next s trace are.next changes))) ws rise
        (λ id x at. ap option_to_list (sym (state_next s trace are.next changes id ∙ ap (λ g. state_after id g (state_at id s trace)) (remaining id x at)))))
        ∙ sym (flat_map-map (λ id. option_to_list (state_at id (s + 1) (next s trace are.next changes))) (λ w. w.0) ws));
  }
