use Rattle.chain_semantics.proofs.NearSignals.{near-ordered, near-few, near-is, near-left_out, near-all, near-are_signals, near-are_apart}
use Rattle.chain_semantics.proofs.move_laws.near_signals.Goals as goal

pub returns : goal.returns
returns c = record {
  near = near-is;
  in_order = near-ordered;
  few = near-few;
  left_out = near-left_out;
  all = near-all;
  signals = λ N t s acyclic within. near-are_signals N t acyclic within s;
  apart = λ N t s acyclic within. near-are_apart N t acyclic within s;
}
