use Rattle.std.proofs.lemmas.List.{map-set}
use Rattle.aiger_text.proofs.symbols.put.Goals as goal

pub returns-clause-given : goal.returns-clause-given
returns-clause-given c = λ is. map-set (λ s. s.now) c.args.given.now c.args.place c.args.text
