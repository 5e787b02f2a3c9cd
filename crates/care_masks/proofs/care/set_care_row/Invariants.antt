use Rattle.chain_semantics.specs.Care.{IsCaredFor}
use Rattle.care_masks.proofs.CareBits.{HoldWordsWhere}
use Rattle.care_masks.proofs.care.set_care_row.Given as goal

abbrev pub invariant-loop-k : goal.invariant-loop-k
invariant-loop-k l = HoldWordsWhere l.net l.limit.count l.limit.outputs l.blocks (λ exact. IsCaredFor l.limit.metric exact l.limit.level l.net l.turned.table) l.row l.k
