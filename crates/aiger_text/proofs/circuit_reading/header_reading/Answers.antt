use Rattle.std.proofs.Common.{sym, ◌∙◌}
use Rattle.aiger_semantics.specs.TextLines.{pieces}
use Rattle.aiger_semantics.proofs.ReadLines.{header-low}
use Rattle.aiger_text.proofs.circuit_reading.header_reading.Goals as goal

pub body_reading-requires-clause-greatest : goal.body_reading-requires-clause-greatest
body_reading-requires-clause-greatest c = (header-low (pieces c.args.line.now) c.in-Some.header (sym c.in_ok-header.ensures ∙ c.in-Some.is)).greatest
