use Rattle.semantics.proofs.Refused.{undoubled, differ-undoubled, driven, signals-driven, grounded, acyclic-grounded, ungrounded, first-ungrounded, small, limits-small, whole, sound-whole}
use Rattle.semantics.proofs.RefusalOrder.{refusal_told, told_refusal}
use Rattle.semantics.proofs.laws.refusals.Goals as goal

pub returns : goal.returns
returns c = record {
  undoubled = λ names. (undoubled names, differ-undoubled names);
  driven = λ N. (driven N, signals-driven N);
  grounded = λ n tables. (grounded n tables, acyclic-grounded n tables);
  ungrounded = λ n tables i. (ungrounded n tables i, first-ungrounded n tables i);
  small = λ N. (small N, limits-small N);
  told = λ N r. (refusal_told N r, told_refusal N r);
  whole = λ N model inputs tables. (whole N model inputs tables, λ h. sound-whole N h.0 h.1);
}
