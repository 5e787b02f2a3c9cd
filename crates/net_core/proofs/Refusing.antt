-- The first refusal that holds of the parts is the one that is told.
use Rattle.std.proofs.Common.{◌≡◌, ℕ, ◌+◌, ◌<◌, ◌^◌, true, false, eqb, length, Some, None, refl, arith}
use Rattle.std.proofs.lemmas.Bool.{eqb-false}
use Rattle.semantics.specs.Texts.{Bytes}
use Rattle.semantics.specs.declared.which.Which.{Which}
use Rattle.semantics.specs.Net.{NetValue, input_count, signal_count, signal_names}
use Rattle.semantics.specs.Refusals.{first_doubled, first_undriven, first_ungrounded, first_limit, net_refusal, doubled, no_output, undriven, cycle, limit}
use Rattle.semantics.proofs.Refused.{undoubled, driven, small}
use Rattle.net_core.specs.Built.{IsWired}

pub doubled_told : (N : NetValue) (name : Bytes) → first_doubled (signal_names N) ≡ Some name → net_refusal N ≡ Some (doubled name)
unfolding net_refusal
doubled_told N name e = rw e refl

module _ (N : NetValue) (differ : first_doubled (signal_names N) ≡ None) where
  pub no_output_told : eqb (length N.outputs) 0 ≡ true → net_refusal N ≡ Some no_output
  unfolding net_refusal
  no_output_told e = rw (differ, e) refl

  module _ (some : eqb (length N.outputs) 0 ≡ false) where
    pub undriven_told : (s : ℕ) → first_undriven N ≡ Some s → net_refusal N ≡ Some (undriven s)
    unfolding net_refusal
    undriven_told s e = rw (differ, some, e) refl

    module _ (all : first_undriven N ≡ None) where
      pub cycle_told : (i : ℕ) → first_ungrounded (input_count N) N.tables ≡ Some i → net_refusal N ≡ Some (cycle (input_count N + i))
      unfolding net_refusal
      cycle_told i e = rw (differ, some, all, e) refl

      pub limit_told : (which : Which) → first_ungrounded (input_count N) N.tables ≡ None → first_limit N ≡ Some which → net_refusal N ≡ Some (limit which)
      unfolding net_refusal
      limit_told which grounded e = rw (differ, some, all, grounded, e) refl

      pub none_told : first_ungrounded (input_count N) N.tables ≡ None → first_limit N ≡ None → net_refusal N ≡ None
      unfolding net_refusal
      none_told grounded e = rw (differ, some, all, grounded, e) refl

      pub wired : signal_count N < 2 ^ 31 → first_limit N ≡ None → IsWired N
      wired few e =
          let limits = small N e in
          let other = eqb-false (length N.outputs) 0 some in
          record {
            names_differ = undoubled (signal_names N) differ;
            has_output = omega (arith, other);
            outputs_are_signals = (driven N all).1;
            few_signals = few;
            few_outputs = omega (arith, limits.outputs);
          }
