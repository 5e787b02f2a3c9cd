use Rattle.chain_semantics.proofs.Simplifications.{tidy-lowers, itself, simplified, simplified-small, simplified_from-falls, end_from-only}
use Rattle.chain_semantics.proofs.ChainGoesOn.{goes_on, steps, ends}
use Rattle.chain_semantics.proofs.simplification_laws.simplification.Goals as goal

pub returns : goal.returns
returns c = record {
  lowers = tidy-lowers;
  members = λ metric exact bound N sound h. simplified metric exact bound sound N h;
  small = λ metric exact bound N sound few h. simplified-small metric exact bound sound N few h;
  goes_on = λ metric exact bound N sound h. goes_on metric exact bound exact (itself metric exact bound sound) N h;
  falls = λ metric exact bound N M move sound h f tidied. simplified_from-falls metric exact bound exact (itself metric exact bound sound) N M move h f tidied;
  steps = λ metric exact bound N sound h. steps metric exact bound exact (itself metric exact bound sound) N h;
  ends = λ metric exact bound sound. ends metric exact bound exact (itself metric exact bound sound);
  only = λ metric exact bound N M of_N of_M. end_from-only metric exact bound exact N M of_N of_M;
}
