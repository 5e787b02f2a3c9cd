use Rattle.cdcl_core.proofs.Derived.{marks-conflict, marks-resolved, marks-derives}
use Rattle.cdcl_core.proofs.laws.derives.Goals as goal

pub returns : goal.returns
returns c = record { conflict = marks-conflict; resolved = marks-resolved; derives = marks-derives }
