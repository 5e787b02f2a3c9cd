use Rattle.std.proofs.Common.{ap, refl, arith}
use Rattle.cdcl_core.specs.Region.{ClausesValue}
use Rattle.cdcl_core.proofs.Regions.{pushed_view}
use Rattle.cdcl_core.proofs.clause_list.ClauseList.push_reserved.Goals as goal

pub returns : goal.returns
returns c =
    pushed_view c.self.inside.spans.items c.self.inside.spans.items c.push_reserved.new.self.items c.self.inside.region.items c.extend_from_slice.new.self.items c.args.clause.now _
    c.args.self.now.list c.self.invariant
    (ap (λ (x : ClausesValue). x.list) c.self.view_is) refl c.push_reserved.ensures.items c.in-Ok.ensures.items (omega arith) (omega arith)
