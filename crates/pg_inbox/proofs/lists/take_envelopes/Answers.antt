use Rattle.std.proofs.Common.{◌≡◌, ◌<◌, ◌≤◌, ◌++◌, ap, arith, drop, get_or, length, map, slice_set, subst, sym, take, ◌∙◌}
use Rattle.std.proofs.Math.ListN.{drop_of_length-le, get_or-map}
use Rattle.std.proofs.lemmas.List.{append-nil, length-map, map-set, take_all}
use Rattle.pg_map.proofs.Filling.{gathered_after}
use Rattle.pg_inbox_messages.specs.Grouping.{items_to, run_len}
use Rattle.pg_inbox_messages.proofs.Grouping.{run_within}
use Rattle.pg_inbox.specs.Merged.{all_to, lists_after}
use Rattle.pg_inbox.proofs.Merged.{IsFrom, all_at, here_is, length_now, next_is, set_next}
use Rattle.pg_inbox.proofs.lists.take_envelopes.Goals as goal

pub split_at-requires : goal.split_at-requires
split_at-requires g c = subst (λ n. n ≤ length c.index-list.result.now.now) (sym c.run_len.ensures) (run_within c.args.target c.index-list.result.now.now)

pub index_mut-requires : goal.index_mut-requires
index_mut-requires g c =
    let all = map (λ l. l.now) c.args.lists.now.items in
    let same = length_now (λ l. drop (run_len c.args.target l) l) all (map (λ l. l.now) c.loop-place.lists.items) c.loop-place.place c.loop-place.invariant.lists in
    omega (
      arith,
      c.loop-place-test.true,
      c.len-place-end.ensures,
      c.args.lists.now.ok.0,
      c.loop-place.lists.ok.0,
      length-map c.args.lists.now.items (λ l. l.now),
      length-map c.loop-place.lists.items (λ l. l.now),
      same,
    )

pub loop-place-preserved : goal.loop-place-preserved
loop-place-preserved g c =
    let target = c.args.target in
    let all = map (λ l. l.now) c.args.lists.now.items in
    let items = c.loop-place.lists.items in
    let now = map (λ l. l.now) items in
    let place = c.loop-place.place in
    let list = c.index-list.result.now.now in
    let later = c.split_at.result.1 in
    let within : place < length all =
    omega (arith, c.loop-place-test.true, c.len-place-end.ensures, c.args.lists.now.ok.0, length-map c.args.lists.now.items (λ l. l.now)) in
    let read : list ≡ get_or now place list =
    ap (λ l. l.now) c.index-list.ensures ∙ sym (get_or-map (λ l. l.now) items place c.index-list.result.now) in
    let back : later.now ≡ drop (run_len target list) list = c.split_at.ensures.back ∙ ap (λ n. drop n list) c.run_len.ensures in
    let here : c.split_at.result.0.now ≡ take (run_len target list) list = c.split_at.ensures.front ∙ ap (λ n. take n list) c.run_len.ensures in
    let at = next_is (λ l. drop (run_len target l) l) all now place list c.loop-place.invariant.lists within read in
    let stand = all_at (IsFrom target) all place list within at c.requires in
    record {
      lists = map-set (λ l. l.now) items place later
          ∙ ap (λ l. slice_set now place l) back
          ∙ set_next (λ l. drop (run_len target l) l) all now place list c.loop-place.invariant.lists within read;
      envelopes = gathered_after (items_to target) c.args.envelopes.now.items all place within at c.loop-place.invariant.envelopes
          (c.in_ok-add_envelopes.ensures ∙ ap (λ l. c.loop-place.envelopes.items ++ map (λ i. i.1) l) here
          ∙ ap (λ l. c.loop-place.envelopes.items ++ l) (here_is target list stand));
    }

pub returns-clause-lists : goal.returns-clause-lists
returns-clause-lists g c =
    let all = map (λ l. l.now) c.args.lists.now.items in
    let place = c.loop-place.place in
    let done : length all ≤ place =
    omega (arith, c.loop-place-test.false, c.len-place-end.ensures, c.args.lists.now.ok.0, length-map c.args.lists.now.items (λ l. l.now)) in
    c.loop-place.invariant.lists
    ∙ ap (λ l. lists_after c.args.target (take place all) ++ l) (drop_of_length-le all done)
    ∙ append-nil (lists_after c.args.target (take place all))
    ∙ ap (lists_after c.args.target) (take_all place all done)

pub returns-clause-envelopes : goal.returns-clause-envelopes
returns-clause-envelopes g c =
    let all = map (λ l. l.now) c.args.lists.now.items in
    let done : length all ≤ c.loop-place.place =
    omega (arith, c.loop-place-test.false, c.len-place-end.ensures, c.args.lists.now.ok.0, length-map c.args.lists.now.items (λ l. l.now)) in
    c.loop-place.invariant.envelopes ∙ ap (λ l. c.args.envelopes.now.items ++ all_to c.args.target l) (take_all c.loop-place.place all done)
