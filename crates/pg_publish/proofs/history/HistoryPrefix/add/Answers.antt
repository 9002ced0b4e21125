use Rattle.std.proofs.Common.{sym, ◌∙◌, ap}
use Rattle.pg_publish.proofs.Adding.{adds_moves}
use Rattle.pg_publish.proofs.history.HistoryPrefix.add.Goals as goal

pub compare_exchange-found-requires : goal.compare_exchange-found-requires
compare_exchange-found-requires g c =
    let head = c.head.invariant in
    let offer = c.plain-offer.ensures in
    let pen = c.no_pen-pen.ensures in
    let mine = ap (λ k. k.publisher) c.self.view_is ∙ (sym c.requires.own ∙ sym c.head.view_is) in
    let seen = ap (λ s. s.book) c.again-seen.ensures ∙ mine in (
      ap (λ w. w.tracked) head,
      seen,
      pen.0 ∙ seen,
      offer.0,
      rw (ap (λ w. w.key) head, pen.1, offer.1, offer.3, c.again-seen.ensures)
          (adds_moves c.self.inside.seen.log c.args.entry.now c.self.inside.count (sym c.self.invariant)),
    )
