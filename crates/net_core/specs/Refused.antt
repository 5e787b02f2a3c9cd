-- The refusals of parts that code returns, and those that the definitions tell.
use Rattle.std.specs.Prelude.{◌≡◌, Some}
use Rattle.semantics.specs.Net.{NetValue}
use Rattle.semantics.specs.Refusals.{net_refusal, doubled, no_output, undriven, cycle, limit}
use Rattle.net_core.specs.declared.refusal.NetRefusal.{NetRefusal}
use Rattle.net_core.specs.declared.refusal.NetRefusal.TheVariants.{Doubled, NoOutput, Undriven, Cycle, Limit}
use Rattle.net_core.specs.declared.refusal.NetRefusal.TheVariants.{OutOfMemory}

-- each refusal but want of memory is the one that the definitions tell of the parts
abbrev pub IsRefusalOf : NetValue → NetRefusal → Type 0
IsRefusalOf N (Doubled name) = net_refusal N ≡ Some (doubled name)
IsRefusalOf N NoOutput = net_refusal N ≡ Some no_output
IsRefusalOf N (Undriven signal) = net_refusal N ≡ Some (undriven signal)
IsRefusalOf N (Cycle signal) = net_refusal N ≡ Some (cycle signal)
IsRefusalOf N (Limit which) = net_refusal N ≡ Some (limit which)
IsRefusalOf N OutOfMemory = Unit {0}
