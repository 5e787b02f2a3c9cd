use Rattle.std.proofs.Common.{get_or, ap, ◌*◌, ◌∙◌}
use Rattle.lane_nets.specs.Numbers.{wide_number}
use Rattle.lane_nets.proofs.RelativeErrors.{relative_by_terms}
use Rattle.lane_nets.proofs.wide_relative.relative_wide.Goals as goal

pub returns : goal.returns
returns c = λ j b lane low.
    let terms = c.lowest_terms-terms.result in
    rw (c.or_wide.ensures j lane)
    (relative_by_terms c.args.level terms.parts terms.unit (wide_number c.args.exact.now j b) (wide_number c.args.approx.now j b) (wide_number c.set_product.new.product j b)
    (wide_number c.set_product-2.new.product j b) (wide_number c.set_product-3.new.product j b) (get_or c.sum_below_wide.result j 0) (get_or c.sum_below_wide-2.result j 0) b
    c.lowest_terms-terms.ensures (c.set_product.ensures j b lane low) (c.set_product-2.ensures j b lane low)
    (c.set_product-3.ensures j b lane low ∙ ap (λ n. terms.parts * n) (c.set_divisor.ensures j b lane low)) (c.sum_below_wide.ensures j b lane low) (c.sum_below_wide-2.ensures j b lane low))
