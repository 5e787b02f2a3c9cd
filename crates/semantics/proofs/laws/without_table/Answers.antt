use Rattle.semantics.proofs.Without.{without-embedded, without-acyclic, without-values}
use Rattle.semantics.proofs.laws.without_table.Goals as goal

pub returns : goal.returns
returns c = record {
  embedded = without-embedded;
  acyclic = λ n tables t inside acyclic unread. without-acyclic n tables t inside unread acyclic;
  values = λ n tables t inside acyclic unread. without-values n tables t inside unread acyclic;
}
