use Rattle.chain_semantics.proofs.NearSignals.{once-members, once-ordered}
use Rattle.chain_semantics.proofs.move_laws.each_once.Goals as goal

pub returns : goal.returns
returns c = record { members = once-members; in_order = once-ordered }
