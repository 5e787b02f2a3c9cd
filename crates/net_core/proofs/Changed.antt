-- What makes parts, and a net with one table replaced, a net of this crate.
use Rattle.std.proofs.Common.{ℕ, ◌+◌, ◌^◌, ◌≡◌, ◌<◌, ◌++◌, length, All, ap, length-set}
use Rattle.std.proofs.Math.Seq.{map-set_same}
use Rattle.semantics.specs.Net.{TableValue, NetValue, table_at, no_table, table_count, input_count, signal_count, signal_names, IsName, IsTable, IsAcyclic, IsSound}
use Rattle.semantics.specs.Replaced.{with_table}
use Rattle.net_core.specs.Built.{IsBuilt, IsWired}
use Rattle.net_core.proofs.Eval.{acyclic-pins}

-- parts that are wired and acyclic, of which the types hold the rest
pub IsBuilt-wired : (N : NetValue) → IsName N.model → All IsName N.inputs → All IsTable N.tables → IsWired N → IsAcyclic (input_count N) N.tables → IsBuilt N
IsBuilt-wired N model inputs tables wired acyclic = record {
  sound = record {
    model_named = model;
    inputs_named = inputs;
    tables_formed = tables;
    names_differ = wired.names_differ;
    has_output = wired.has_output;
    outputs_are_signals = wired.outputs_are_signals;
    pins_are_signals = acyclic-pins (input_count N) N.tables acyclic;
    acyclic = acyclic;
  };
  few_signals = wired.few_signals;
  few_outputs = wired.few_outputs;
}

-- the parts of a sound net are wired
pub IsWired-sound : (N : NetValue) → IsSound N → signal_count N < 2 ^ 31 → length N.outputs < 2 ^ 31 → IsWired N
IsWired-sound N sound few_signals few_outputs = record {
  names_differ = sound.names_differ;
  has_output = sound.has_output;
  outputs_are_signals = sound.outputs_are_signals;
  few_signals = few_signals;
  few_outputs = few_outputs;
}

-- the names and the signals stay where a table is replaced
pub IsWired-with_table : (N M : NetValue) (t : ℕ) (new : TableValue) → t < table_count N → IsBuilt N → new.name ≡ (table_at N.tables t).name → M ≡ with_table N t new → IsWired M
IsWired-with_table N M t new within built same is =
    let names : signal_names (with_table N t new) ≡ signal_names N = ap (λ names. N.inputs ++ names) (map-set_same (λ (u : TableValue). u.name) N.tables t new no_table same) in
    let signals : signal_count (with_table N t new) ≡ signal_count N = ap (λ n. length N.inputs + n) (length-set N.tables t new) in
    rw is (record {
      names_differ = rw names built.sound.names_differ;
      has_output = built.sound.has_output;
      outputs_are_signals = rw signals built.sound.outputs_are_signals;
      few_signals = rw signals built.few_signals;
      few_outputs = built.few_outputs;
    })
