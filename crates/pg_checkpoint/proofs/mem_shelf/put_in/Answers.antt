use Rattle.std.proofs.Common.{refl, ap, subst, ◌∙◌}
use Rattle.pg_checkpoint.specs.Mem.{IsPlace, bytes_at, lacks}
use Rattle.pg_checkpoint.proofs.Entries.{place_key, set, set_others, pushed, pushed_others}
use Rattle.pg_checkpoint.proofs.mem_shelf.put_in.Goals as goal

pub returns-in-Some-clause-kept : goal.returns-in-Some-clause-kept
returns-in-Some-clause-kept c =
    let place : IsPlace c.args.key.items c.args.entries.now.items c.in-Some.place =
    subst (λ l. IsPlace l c.args.entries.now.items c.in-Some.place) c.as_slice-2.ensures.value
    (subst (λ l. IsPlace c.as_slice-2.result.now l c.in-Some.place) c.as_slice.ensures.value c.in-Some.ensures.found.1) in
    set c.args.key.items c.args.entries.now.items c.in-Some.place (record { key = c.index_mut.result.now.key; bytes = c.args.bytes }) place
    (place_key c.args.key.items c.args.entries.now.items c.in-Some.place c.index_mut.result.now place c.index_mut.ensures.value)

pub returns-in-Some-clause-others : goal.returns-in-Some-clause-others
returns-in-Some-clause-others c = λ other not_it.
    let place : IsPlace c.args.key.items c.args.entries.now.items c.in-Some.place =
    subst (λ l. IsPlace l c.args.entries.now.items c.in-Some.place) c.as_slice-2.ensures.value
    (subst (λ l. IsPlace c.as_slice-2.result.now l c.in-Some.place) c.as_slice.ensures.value c.in-Some.ensures.found.1) in
    set_others c.args.key.items other c.args.entries.now.items c.in-Some.place (record { key = c.index_mut.result.now.key; bytes = c.args.bytes }) place
    (place_key c.args.key.items c.args.entries.now.items c.in-Some.place c.index_mut.result.now place c.index_mut.ensures.value) not_it

pub returns-in_ok-push-in-None-clause-kept : goal.returns-in_ok-push-in-None-clause-kept
returns-in_ok-push-in-None-clause-kept c =
    let none : lacks c.args.key.items c.args.entries.now.items =
    subst (λ l. lacks l c.args.entries.now.items) c.as_slice-2.ensures.value
    (subst (λ l. lacks c.as_slice-2.result.now l) c.as_slice.ensures.value c.in-None.ensures.none) in
    ap (bytes_at c.args.key.items) c.in_ok-push-in-None.ensures.items
    ∙ pushed c.args.key.items c.args.entries.now.items (record { key = c.args.key; bytes = c.args.bytes }) none refl

pub returns-in_ok-push-in-None-clause-others : goal.returns-in_ok-push-in-None-clause-others
returns-in_ok-push-in-None-clause-others c = λ other not_it.
    ap (bytes_at other) c.in_ok-push-in-None.ensures.items
    ∙ pushed_others c.args.key.items other c.args.entries.now.items (record { key = c.args.key; bytes = c.args.bytes }) refl not_it
