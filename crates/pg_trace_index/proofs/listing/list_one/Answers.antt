use Rattle.std.proofs.Common.{◌≡◌, ◌++◌, ◌∷◌, [], ℕ, sym, ap, ◌∙◌, subst}
use Rattle.pg_trace_index.specs.Listing.{AreParts, parts_of}
use Rattle.pg_trace_index.specs.LogEntry.{chain}
use Rattle.pg_trace_index.specs.declared.listing.ListRange.{ListRange}
use Rattle.pg_trace_index.proofs.Chains.{chain_last}
use Rattle.pg_trace_index.proofs.PartsOf.{are_added, listed_added}
use Rattle.pg_trace_index.proofs.listing.list_one.Goals as goal

pub returns-clause-parts : goal.returns-clause-parts
returns-clause-parts c =
    let before = c.args.runs.now.items in
    let after = c.add_chain.new.runs.items in
    let parts = c.args.parts.now.items in
    let part : ℕ × ListRange = (c.args.id, record { first = c.in_ok-first.first; end = c.in_ok-end.end; latest = c.args.logged.run }) in
    let pushed : c.push.new.self.items ≡ parts ++ part ∷ [] = c.in_ok-push.ensures.items in
    subst (AreParts after) (sym pushed)
    (are_added before after parts c.requires (chain c.args.earlier.now c.args.logged) c.in_ok-add_chain.ensures part
    (c.in_ok-first.ensures ∙ c.len.ensures ∙ c.args.runs.now.ok.0) (c.in_ok-end.ensures ∙ c.len-2.ensures ∙ c.add_chain.new.runs.ok.0)
    (sym (chain_last c.args.earlier.now c.args.logged)))

pub returns-clause-listed : goal.returns-clause-listed
returns-clause-listed c =
    let before = c.args.runs.now.items in
    let after = c.add_chain.new.runs.items in
    let parts = c.args.parts.now.items in
    let part : ℕ × ListRange = (c.args.id, record { first = c.in_ok-first.first; end = c.in_ok-end.end; latest = c.args.logged.run }) in
    let pushed : c.push.new.self.items ≡ parts ++ part ∷ [] = c.in_ok-push.ensures.items in
    ap (parts_of after) pushed
    ∙ listed_added before after parts c.requires (chain c.args.earlier.now c.args.logged) c.in_ok-add_chain.ensures part
    (c.in_ok-first.ensures ∙ c.len.ensures ∙ c.args.runs.now.ok.0) (c.in_ok-end.ensures ∙ c.len-2.ensures ∙ c.add_chain.new.runs.ok.0)
