use Rattle.chain_semantics.proofs.TidyReached.{reached-keeps, reached-no_growth, tidied-exists, tidied-unique, tidied-stops, tidied-goes_on}
use Rattle.chain_semantics.proofs.TidyNets.{small, tidy-literals}
use Rattle.chain_semantics.proofs.tidy_laws.tidying.Goals as goal

pub returns : goal.returns
returns c = record {
  exists = tidied-exists;
  unique = tidied-unique;
  stops = tidied-stops;
  goes_on = tidied-goes_on;
  keeps = λ N M sound h. reached-keeps N M sound h.reached;
  does_not_grow = λ N M sound h. reached-no_growth N M sound h.reached;
  small = λ N M sound few h. small N M few (reached-keeps N M sound h.reached) (reached-no_growth N M sound h.reached);
  literals = tidy-literals;
}
