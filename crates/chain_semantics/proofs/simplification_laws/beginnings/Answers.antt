use Rattle.chain_semantics.proofs.Simplifications.{itself, simplified_from, simplified_from-small, simplified_from-falls, end_from-only}
use Rattle.chain_semantics.proofs.ChainGoesOn.{goes_on, steps, ends}
use Rattle.chain_semantics.proofs.simplification_laws.beginnings.Goals as goal

pub returns : goal.returns
returns c = record {
  itself = itself;
  members = λ metric exact bound begin N is h. simplified_from metric exact bound begin is N h;
  small = λ metric exact bound begin N is few h. simplified_from-small metric exact bound begin is N few h;
  goes_on = λ metric exact bound begin N is h. goes_on metric exact bound begin is N h;
  falls = λ metric exact bound begin N M move is h f tidied. simplified_from-falls metric exact bound begin is N M move h f tidied;
  steps = λ metric exact bound begin N is h. steps metric exact bound begin is N h;
  ends = λ metric exact bound begin is. ends metric exact bound begin is;
  only = end_from-only;
}
