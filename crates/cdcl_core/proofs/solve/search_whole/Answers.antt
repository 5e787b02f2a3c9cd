use Rattle.cdcl_core.proofs.solve.search_whole.Goals as goal

pub returns : goal.returns
returns g c f merged h = c.in_ok-ended.ensures f merged c.args.limit (c.in_ok-end.ensures.shown f merged h)
