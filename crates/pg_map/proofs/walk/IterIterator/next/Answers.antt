use Rattle.std.proofs.Common.{◌≡◌, ℕ, List, [], ◌∷◌, ◌++◌, length, Bool, true, ◌==◌, ap, sym, ◌∙◌, arith}
use Rattle.std.proofs.lemmas.Bool.Decides.{nat_tests}
use Rattle.std.proofs.lemmas.List.{append_assoc, nil_from_length}
use Rattle.pg_map.specs.Chunks.{all_of, entries_of, listed}
use Rattle.pg_map.specs.declared.part.Node.{Node}
use Rattle.pg_map.specs.declared.walk.Iter.TheInside.{Inside}
use Rattle.pg_map.proofs.walk.IterIterator.next.Goals as goal
use Rattle.pg_map.proofs.walk.IterIterator.next.Goals.{then-is_empty+in_ok-chunk, else-is_empty}

abbrev viewed : {V : Type 0} → Inside V → List (ℕ × V)
viewed it = it.entries.now ++ (entries_of it.chunks.now ++ all_of it.groups.now)

used_up : {X : Type 0} (xs : List X) (b : Bool) → b ≡ true → b ≡ (length xs == 0) → xs ≡ []
used_up xs b is test = nil_from_length xs (grind (arith, nat_tests))

-- the next chunk is opened where the entries are used up
opens : {V : Type 0} (none items : List (ℕ × V)) (chunk : Node (ℕ × V)) (chunks later : List (Node (ℕ × V))) (rest after : List (ℕ × V))
    → none ≡ [] → entries_of chunks ++ after ≡ rest → chunks ≡ chunk ∷ later → items ≡ listed chunk
    → none ++ rest ≡ items ++ (entries_of later ++ after)
opens none items chunk chunks later rest after empty same at is =
    ap (λ l. l ++ rest) empty
    ∙ sym same
    ∙ ap (λ l. entries_of l ++ after) at
    ∙ append_assoc (listed chunk) (entries_of later) after
    ∙ ap (λ l. l ++ (entries_of later ++ after)) (sym is)

pub returns-clause-steps : goal.returns-clause-steps
returns-clause-steps g c =
    let whole : viewed c.self.inside ≡ viewed c.if-is_empty.self-inside = elim c.if-is_empty.branch [
      | then-is_empty+in_ok-chunk w ↦
          opens _ _ w.in_ok-chunk.chunk.now _ _ _ _ (used_up c.self.inside.entries.now _ w.if-is_empty.true c.is_empty.ensures)
          w.opened.ensures.entries w.in_ok-chunk.ensures.cases.0
          (w.as_slice-self-inside.ensures.value ∙ ap (λ v. v.items) w.deref.ensures) ∙ ap viewed (sym w.self-inside-is)
      | else-is_empty w ↦ ap viewed (sym w.self-inside-is)
    ] in
    sym c.self.view_is ∙ whole
    ∙ ap (λ l. l ++ (entries_of c.if-is_empty.self-inside.chunks.now ++ all_of c.if-is_empty.self-inside.groups.now)) c.in_ok-entry.ensures.cases.0
