use Rattle.chain_semantics.proofs.Flipped.{flipped-is, flipped-only, flipped-apart, flipped-opposite}
use Rattle.chain_semantics.proofs.move_laws.flips.Goals as goal

pub returns : goal.returns
returns c = record { is = flipped-is; only = flipped-only; apart = flipped-apart; opposite = flipped-opposite }
