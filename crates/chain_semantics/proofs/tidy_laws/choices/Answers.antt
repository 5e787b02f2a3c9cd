use Rattle.chain_semantics.proofs.TidyChoices.{step-chosen, chosen-step, tidy-none, none-tidy, tidy-nothing, nothing-tidy}
use Rattle.chain_semantics.proofs.tidy_laws.choices.Goals as goal

pub returns : goal.returns
returns c = record {
  step = λ N M. (step-chosen N M, chosen-step N M);
  tidy = λ N. (tidy-none N, none-tidy N);
  nothing = λ N sound. (tidy-nothing N, nothing-tidy N sound);
}
