use Rattle.std.proofs.Common.{◌<◌, length, refl, sym, arith, ap}
use Rattle.literal_sums.specs.declared.term.Term.{Term}
use Rattle.literal_sums.proofs.Counting.{removed_more, set_more, same_read}
use Rattle.literal_sums.proofs.sum.Sum.change.Goals as goal

pub returns-then-weight-eq0 : goal.returns-then-weight-eq0
returns-then-weight-eq0 c =
    removed_more c.args.self.now c.self.inside.terms.items (sym c.self.view_is) c.args.at c.args.weight c.index.result.now
    (omega (arith, c.requires, ap length c.self.view_is)) c.index.ensures _ _ c.swap_remove.ensures.items c.if-weight-eq0.true

pub returns-else-weight-eq0 : goal.returns-else-weight-eq0
returns-else-weight-eq0 c =
    let low : c.args.at < length c.self.inside.terms.items = omega (arith, c.requires, ap length c.self.view_is) in
    set_more c.args.self.now c.self.inside.terms.items (sym c.self.view_is) c.args.at c.args.weight c.index.result.now low c.index.ensures _ _ refl
    (ap (λ (t : Term). t.literal) (same_read c.self.inside.terms.items c.args.at _ _ low c.index_mut.ensures.value c.index.ensures)) refl
