use Rattle.std.proofs.Common.{◌≡◌, set, sym, ◌∙◌, subst}
use Rattle.std.specs.BTreeMap.{insert_entry}
use Rattle.std.specs.List.{insert}
use Rattle.std.specs.Ordering.{nat_cmp}
use Rattle.pg_map.specs.Entries.{HasRisingIds}
use Rattle.pg_trace_index.proofs.InChunks.{put_found, put_missing}
use Rattle.pg_trace_index.proofs.chunk.put_among.Goals as goal

pub returns-in-Ok-clause-entries : goal.returns-in-Ok-clause-entries
returns-in-Ok-clause-entries g c =
    let id = c.args.id in
    let v = c.args.value in
    let is = c.as_slice.ensures.value in
    subst (λ l. set l c.in-Ok.place (id, v) ≡ insert_entry nat_cmp l id v) is
    (put_found id v c.as_slice.result.now c.in-Ok.place (subst HasRisingIds (sym is) c.requires) c.in-Ok.ensures.within c.in-Ok.ensures.found)

pub returns-in_ok-insert-in-Err-clause-entries : goal.returns-in_ok-insert-in-Err-clause-entries
returns-in_ok-insert-in-Err-clause-entries g c =
    let id = c.args.id in
    let v = c.args.value in
    let put : c.insert.new.self.items ≡ insert c.args.entries.now.items c.in-Err.place (id, v) = c.in_ok-insert-in-Err.ensures.items in
    put
    ∙ subst (λ l. insert l c.in-Err.place (id, v) ≡ insert_entry nat_cmp l id v) c.as_slice.ensures.value
    (put_missing id v c.as_slice.result.now c.in-Err.place c.in-Err.ensures.bound c.in-Err.ensures.missing)
