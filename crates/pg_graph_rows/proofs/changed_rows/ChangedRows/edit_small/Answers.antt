use Rattle.std.proofs.Common.{rules, ◌≡◌, ◌-◌, Some, length, of_z, to_z, w64, ap, subst, sym, ◌∙◌}
use Rattle.pg_graph_rows.specs.LastRow.{LiesBehind}
use Rattle.pg_graph_rows.specs.declared.packing.Waiting.{Waiting}
use Rattle.pg_graph_rows.proofs.LastRow.{degree_waits, parts_wait, rows_wait}
use Rattle.pg_graph_rows.proofs.SideBySide.{parts_stay}
use Rattle.pg_graph_rows.proofs.changed_rows.ChangedRows.edit_small.Goals as goal

pub invariant_of-self : goal.invariant_of-self
invariant_of-self c =
    let begins = c.in_err-input.ensures.err in
    rw begins.1 (parts_stay c.self.inside.waiting.items c.self.inside.edges.items begins.0 c.self.invariant)

pub invariant_of-self-in_err-push-in-Some : goal.invariant_of-self-in_err-push-in-Some
invariant_of-self-in_err-push-in-Some c =
    let behind = rw c.in-Ok.is at c.in_ok-input.ensures.ok in
    let lies = behind.2 in
    rw (c.in_err-push-in-Some.ensures.items, lies.whole)
    (parts_stay c.self.inside.waiting.items c.self.inside.edges.items lies.last c.self.invariant)

pub invariant_of-self-in-Continue-branch-4 : goal.invariant_of-self-in-Continue-branch-4
invariant_of-self-in-Continue-branch-4 c =
    let behind = rw (c.in-Ok.is, c.in-Some.is) at c.in_ok-input.ensures.ok in
    let edges = c.self.inside.edges.items in
    let list = c.add_edited.new.list.items in
    let first : c.len-first.result ≡ length edges = search rules in
    let all : c.len.result ≡ length list = search rules in
    let input : to_z w64 (of_z w64 c.in-Some.input) ≡ c.in-Some.input = search rules in
    let lies = subst (λ i. LiesBehind edges behind.0 (Some i) list) (sym input) behind.2 in
    rw c.in_ok-push-in-Some.ensures.items
    (parts_wait c.self.inside.waiting.items edges list _ behind.0 c.self.invariant first (ap (λ n. n - c.len-first.result) all) lies)

pub returns-in_ok-push-in-Some : goal.returns-in_ok-push-in-Some
returns-in_ok-push-in-Some c =
    let behind = rw (c.in-Ok.is, c.in-Some.is) at c.in_ok-input.ensures.ok in
    let waiting = c.self.inside.waiting.items in
    let edges = c.self.inside.edges.items in
    let list = c.add_edited.new.list.items in
    let first : c.len-first.result ≡ length edges = search rules in
    let all : c.len.result ≡ length list = search rules in
    let input : to_z w64 (of_z w64 c.in-Some.input) ≡ c.in-Some.input = search rules in
    let lies = subst (λ i. LiesBehind edges behind.0 (Some i) list) (sym input) behind.2 in
    let w : Waiting = record {
      id = c.args.id;
      input = to_z w64 (of_z w64 c.in-Some.input);
      first = c.len-first.result;
      degree = c.len.result - c.len-first.result;
    } in
    let degree = ap (λ n. n - c.len-first.result) all in
    let rows = rows_wait waiting edges list w behind.0 c.self.invariant first degree lies c.self.inside.done.items c.args.self.now
    (c.self.view_is ∙ c.in_ok-make_room.ensures) in
    (behind.0, behind.1, rw c.in_ok-push-in-Some.ensures.items rows, degree_waits waiting edges list w behind.0 c.self.invariant first degree lies)
