use Rattle.std.proofs.Common.{sym, ◌∙◌}
use Rattle.pg_scratch.proofs.worklist.active_in_order.Goals as goal

pub returns-then-not-is_listed-clause-lists : goal.returns-then-not-is_listed-clause-lists
returns-then-not-is_listed-clause-lists g c = c.active_places.ensures.lists

pub returns-then-not-is_listed-clause-in_order : goal.returns-then-not-is_listed-clause-in_order
returns-then-not-is_listed-clause-in_order g c = c.active_places.ensures.in_order

pub returns-clause-lists : goal.returns-clause-lists
returns-clause-lists g c =
    let lists = c.requires c.if-not-is_listed.false in
    let same = c.put_in_order.ensures.same in
    record {
      within = λ place has. lists.within place (sym (same place) ∙ has);
      covers = λ place x at active. same place ∙ lists.covers place x at active;
    }

pub returns-clause-in_order : goal.returns-clause-in_order
returns-clause-in_order g c = c.put_in_order.ensures.rising
