use Rattle.std.proofs.Common.{◌≡◌, ℕ, ◌≤◌, ◌-◌, ◌==◌, List, [], ◌∷◌, ◌++◌, length, get_or, true, false, leb, refl, sym, ap, ◌∙◌, subst, arith}
use Rattle.std.specs.List.Sorted.{IsPartitionPoint}
use Rattle.pg_trace_index.specs.Chunks.{AreSound, listed}
use Rattle.pg_trace_index.specs.declared.chunk.Chunk.{Chunk}
use Rattle.pg_trace_index.proofs.InChunks.{Around, here, one_sound, put_sound, put_there}
use Rattle.pg_trace_index.proofs.Tested.{nil_from_test}
use Rattle.pg_trace_index.proofs.Supersteps.{one_at_least}
use Rattle.pg_trace_index.proofs.chunk.put.Goals as goal

pub returns-then-is_empty-clause-sound : goal.returns-then-is_empty-clause-sound
returns-then-is_empty-clause-sound g c =
    let cs = c.args.chunks.now.items in
    let chunk : Chunk g.row.X.Denot = record { first = c.args.id; entries = c.push.new.self } in
    let pushed : listed chunk ≡ c.new-entries.result.items ++ (c.args.id, c.args.value) ∷ [] = c.in_ok-push.ensures.items in
    let one : listed chunk ≡ (c.args.id, c.args.value) ∷ [] = pushed ∙ ap (λ l. l ++ (c.args.id, c.args.value) ∷ []) c.new-entries.ensures.items in
    let all : c.push-then-is_empty.new.self.items ≡ cs ++ chunk ∷ [] = c.in_ok-push-2.ensures.items in
    let none : cs ≡ [] = nil_from_test cs c.args.chunks.now.len c.args.chunks.now.ok.0 c.if-is_empty.ensures in
    subst AreSound (sym all) (subst (λ l. AreSound (l ++ chunk ∷ [])) (sym none) (one_sound chunk c.args.id c.args.value refl one))

module _ {X : Type 0} (id : ℕ) (cs seen : List (Chunk X)) (is : seen ≡ cs) (sound : AreSound cs) (n : ℕ) (bound : n ≤ length seen)
    (parts : IsPartitionPoint (λ c. leb c.first id ≡ true) (λ c. leb c.first id ≡ false) seen n) (len : ℕ) (counted : len ≡ length cs)
    (some : false ≡ (len == 0)) (m : ℕ) (last : m ≡ n - 1) where
  at : (chunk : Chunk X) → chunk ≡ get_or cs m chunk → Around id cs m chunk
  at chunk there =
      here id cs sound n (subst (λ l. IsPartitionPoint (λ c. leb c.first id ≡ true) (λ c. leb c.first id ≡ false) l n) is parts) m chunk last
      (subst (λ l. n ≤ length l) is bound) (omega (arith, counted, one_at_least len some)) there

pub put_in-requires : goal.put_in-requires
put_in-requires g c =
    (at c.args.id c.args.chunks.now.items c.as_slice.result.now c.as_slice.ensures.value c.requires c.begun.result c.begun.ensures.bound c.begun.ensures.parts
    c.args.chunks.now.len c.args.chunks.now.ok.0 c.if-is_empty.ensures c.saturating_sub-place.result c.saturating_sub-place.ensures
    c.index_mut.result.now c.index_mut.ensures.value).rises

pub cut-requires-clause-sound : goal.cut-requires-clause-sound
cut-requires-clause-sound g c =
    put_sound c.args.id c.args.chunks.now.items c.saturating_sub-place.result c.index_mut.result.now
    (at c.args.id c.args.chunks.now.items c.as_slice.result.now c.as_slice.ensures.value c.requires c.begun.result c.begun.ensures.bound c.begun.ensures.parts
    c.args.chunks.now.len c.args.chunks.now.ok.0 c.if-is_empty.ensures c.saturating_sub-place.result c.saturating_sub-place.ensures
    c.index_mut.result.now c.index_mut.ensures.value)
    c.put_in.new.chunk c.args.value c.requires c.in_ok-put_in.ensures.entries c.in_ok-put_in.ensures.start

pub returns-clause-all : goal.returns-clause-all
returns-clause-all g c =
    c.in_ok-cut.ensures.all
    ∙ put_there c.args.id c.args.chunks.now.items c.saturating_sub-place.result c.index_mut.result.now
    (at c.args.id c.args.chunks.now.items c.as_slice.result.now c.as_slice.ensures.value c.requires c.begun.result c.begun.ensures.bound c.begun.ensures.parts
    c.args.chunks.now.len c.args.chunks.now.ok.0 c.if-is_empty.ensures c.saturating_sub-place.result c.saturating_sub-place.ensures
    c.index_mut.result.now c.index_mut.ensures.value)
    c.put_in.new.chunk c.args.value c.in_ok-put_in.ensures.entries
