-- The messages of more records.
use Rattle.std.proofs.Common.{◌≡◌, ℕ, ◌+◌, ◌<◌, List, ◌++◌, get_or, length, take, refl, ap, subst, sym, ◌∙◌, cond, flat_map}
use Rattle.std.proofs.lemmas.List.{length-append}
use Rattle.std.proofs.lemmas.List.Sums.{sum_by-append}
use Rattle.pg_graph.specs.Rows.{Rows}
use Rattle.pg_graph.specs.declared.missing.Missing.{Missing}
use Rattle.pg_graph.specs.declared.missing.Missing.TheVariants.{Drop, Create}
use Rattle.pg_map.proofs.Filling.{gathered_more}
use Rattle.pg_model.specs.declared.record.Record.{Record}
use Rattle.pg_stats.specs.MessageCounts.{IsWithSent, dropped_of_sent, is_no_vertex, message_counts_of_sent, message_counts_recorded}
use Rattle.pg_stats.specs.declared.stats.MessageCounts.{MessageCounts}

module _ {M : Type 0} (rows : Rows) where
  dropped-append : (missing : Missing) (a b : List (ℕ × M))
      → dropped_of_sent missing rows (a ++ b) ≡ dropped_of_sent missing rows a + dropped_of_sent missing rows b
  dropped-append Drop a b = sum_by-append (λ (m : ℕ × M). cond (is_no_vertex rows m.0) 1 0) a b
  dropped-append Create a b = refl

  sent-append : (missing : Missing) (a b : List (ℕ × M)) (after : MessageCounts) → IsWithSent missing rows b (message_counts_of_sent missing rows a) after
      → after ≡ message_counts_of_sent missing rows (a ++ b)
  sent-append missing a b after h =
      let sent : after.sent ≡ length (a ++ b) = h.sent_is ∙ sym (length-append a b) in
      let dropped : after.dropped ≡ dropped_of_sent missing rows (a ++ b) = h.dropped_is ∙ sym (dropped-append missing a b) in
      λ i. record { sent = sent i; dropped = dropped i }

  module _ {V : Type 0} where
    -- with those of one record more
    pub recorded_more : (missing : Missing) (records : List (ℕ × Record V M)) (i : ℕ) {one : ℕ × Record V M} {before after : MessageCounts} {sent : List (ℕ × M)}
        → i < length records → one ≡ get_or records i one → before ≡ message_counts_recorded missing rows (take i records) → sent ≡ one.1.sent
        → IsWithSent missing rows sent before after → after ≡ message_counts_recorded missing rows (take (i + 1) records)
    recorded_more missing records i {one} {before} {after} {sent} within is so_far sends more =
        let sent_by : List (ℕ × Record V M) → List (ℕ × M) = flat_map (λ r. r.1.sent) in
        let before_it : List (ℕ × M) = sent_by (take i records) in
        let counted : IsWithSent missing rows sent (message_counts_of_sent missing rows before_it) after =
        subst (λ t. IsWithSent missing rows sent t after) so_far more in
        sent-append missing before_it sent after counted
        ∙ ap (message_counts_of_sent missing rows) (gathered_more (λ (r : ℕ × Record V M). r.1.sent) records i within is refl (ap (λ l. before_it ++ l) sends))
