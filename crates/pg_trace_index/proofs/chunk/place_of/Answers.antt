use Rattle.std.proofs.Common.{ℕ, Result, Ok, Err, MatchResult, rules}
use Rattle.std.proofs.lemmas.List.Sorted.{answers_always}
use Rattle.pg_map.proofs.Search.{searchable}
use Rattle.pg_trace_index.proofs.chunk.place_of.Goals as goal

stated : {P Q S T : ℕ → Type 0} (r : Result ℕ ℕ) → ((i : ℕ) → P i → S i) → ((i : ℕ) → Q i → T i) → MatchResult r P Q → MatchResult r S T
stated (Ok i) found missing is = found i is
stated (Err i) found missing is = missing i is

pub returns-clause-found : goal.returns-clause-found
returns-clause-found g c =
    stated c.binary_search_by_key.result (λ i h. h) (λ i h. tt)
    (c.binary_search_by_key.ensures.position (λ e. e.0) (answers_always _ _ _ (λ f a r g h. search rules)))

pub returns-clause-missing : goal.returns-clause-missing
returns-clause-missing g c =
    stated c.binary_search_by_key.result (λ i h. tt) (λ i h. h (searchable c.args.entries.now c.args.id c.requires))
    (c.binary_search_by_key.ensures.position (λ e. e.0) (answers_always _ _ _ (λ f a r g h. search rules)))
