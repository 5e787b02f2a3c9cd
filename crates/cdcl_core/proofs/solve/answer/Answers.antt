use Rattle.std.proofs.Common.{subst}
use Rattle.cdcl_core.specs.Turned.{IsEnd}
use Rattle.cdcl_core.specs.declared.search_turns.Turn.TheVariants.{Full}
use Rattle.cdcl_core.proofs.Searching.{search_modelled}
use Rattle.cdcl_core.proofs.solve.answer.Goals as goal

pub returns-in_ok-values-in-Full : goal.returns-in_ok-values-in-Full
returns-in_ok-values-in-Full c f merged limit h =
    let end : IsEnd f merged limit c.args.search Full = subst (IsEnd f merged limit c.args.search) c.in-Full.is h in
    search_modelled f merged end.0 c.args.search c.in_ok-values-in-Full.field-0 end.1.0 c.values.ensures.consistent end.1.1 c.in_ok-values-in-Full.ensures.values
