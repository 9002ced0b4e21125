use Rattle.std.proofs.Common.{◌≡◌, ◌++◌, ◌∷◌, [], length, sym, ap, ◌∙◌, append_assoc}
use Rattle.std.proofs.lemmas.List.{map-append}
use Rattle.pg_trace_index.specs.LogEntry.{back}
use Rattle.pg_trace_index.proofs.Chains.{reverse_next}
use Rattle.pg_trace_index.proofs.listing.add_chain.Goals as goal

pub returns : goal.returns
returns c =
    let run = c.args.logged.run in
    let adds = c.in_ok-add_earlier.ensures in
    let pushed : c.push.new.self.items ≡ c.add_earlier.new.runs.items ++ run ∷ [] = c.in_ok-push.ensures.items in record {
      more = adds.more ++ run ∷ [];
      is = pushed ∙ ap (λ l. l ++ run ∷ []) adds.is ∙ append_assoc c.args.runs.now.items adds.more (run ∷ []);
      steps_are = map-append (λ r. r.superstep) adds.more (run ∷ []) ∙ ap (λ l. l ++ run.superstep ∷ []) adds.steps_are
          ∙ sym (reverse_next run.superstep (back c.args.earlier.now (length c.args.earlier.now) c.args.logged.before));
    }
