use Rattle.std.proofs.Common.{length, refl, sym, subst, ◌∙◌}
use Rattle.std.proofs.lemmas.Bool.{ltb-true}
use Rattle.std.proofs.lemmas.Option.{slice_get_read}
use Rattle.pg_import.specs.Ranks.{AreKnown}
use Rattle.pg_import.proofs.KnownRanks.{AreKnown-at}
use Rattle.pg_import.proofs.order.EndRanks.at.Goals as goal

pub returns-in-Some : goal.returns-in-Some
returns-in-Some c = λ rows ids id at known.
    let all = c.deref.result.now in
    let there = c.in-Some.ensures.lookup in
    AreKnown-at rows ids all c.args.place (subst (AreKnown rows ids) (sym (c.deref.ensures.value ∙ c.self.view_is)) known) at
    (slice_get_read all (length all) c.args.place c.in-Some.rank.now refl (ltb-true c.args.place (length all) (sym there.0)) there.1)
