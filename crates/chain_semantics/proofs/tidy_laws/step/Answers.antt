use Rattle.semantics.specs.Net.{input_count}
use Rattle.chain_semantics.proofs.TidyLevelling.{levels}
use Rattle.chain_semantics.proofs.TidySteps.{good-step}
use Rattle.chain_semantics.proofs.TidyNets.{first-step, none-at, none-anywhere}
use Rattle.chain_semantics.proofs.tidy_laws.step.Goals as goal

pub returns : goal.returns
returns c = record {
  keeps = λ N M sound e. (good-step N M sound e).keeps;
  does_not_grow = λ N M sound e. (good-step N M sound e).no_growth;
  falls = λ N M sound e. (good-step N M sound e).triple;
  levels = λ N sound. levels (input_count N) N.tables sound.acyclic;
  first = first-step;
  none = λ N. (none-at N, none-anywhere N);
}
