-- The parts of the demonstration's net, and what makes a net of them.
use Rattle.std.proofs.Common.{◌≡◌, ℕ, ◌+◌, ◌-◌, ◌≤◌, List, [], ◌∷◌, ◌++◌, map, flat_map, length, codes, refl, ap, sym, subst, ◌∙◌, arith}
use Rattle.std.specs.List.{range_with_len}
use Rattle.std.proofs.lemmas.Grind.{flat_map-append}
use Rattle.std.proofs.lemmas.List.{map-id}
use Rattle.std.proofs.lemmas.List.FromFn.{map-range_with_len_more}
use Rattle.semantics.specs.Texts.{Bytes}
use Rattle.semantics.specs.Net.{TableValue, NetValue, IsAcyclic, IsSmall}
use Rattle.net_core.specs.Built.{IsWired}
use Rattle.job_semantics.specs.Demo.{demo_name, sum_signal, carry_signal, stage_tables, demo_net, Adds}
use Rattle.job_semantics.proofs.DemoTables.{demo_inputs, demo_outputs, demo_tables}
use Rattle.job_semantics.proofs.DemoSum.{demo_adds}
use Rattle.job_semantics.proofs.DemoSound.{demo_acyclic, demo_sound, demo_small}

range_more : (i : ℕ) → range_with_len 0 (i + 1) ≡ range_with_len 0 i ++ i ∷ []
range_more i = simp map-id at (map-range_with_len_more (λ k. k) 0 i i (omega arith))

pub stages_more : (w i : ℕ) → flat_map (stage_tables w) (range_with_len 0 (i + 1)) ≡ flat_map (stage_tables w) (range_with_len 0 i) ++ stage_tables w i
stages_more w i = ap (flat_map (stage_tables w)) (range_more i) ∙ flat_map-append (stage_tables w) (range_with_len 0 i) (i ∷ [])

-- these are the parts of the net
module _ (w : ℕ) (model : Bytes) (inputs : List Bytes) (tables : List TableValue) (outputs : List ℕ) (model_is : model ≡ codes "demo")
    (inputs_are : inputs ≡ map (demo_name (codes "a")) (range_with_len 0 w) ++ map (demo_name (codes "b")) (range_with_len 0 w)) (tables_are : tables ≡ flat_map (stage_tables w) (range_with_len 0 w))
    (outputs_are : outputs ≡ map (sum_signal w) (range_with_len 0 w) ++ carry_signal w (w - 1) ∷ []) where
  pub parts-net : record { model = model; inputs = inputs; tables = tables; outputs = outputs } ≡ demo_net w
  unfolding demo_net
  parts-net = rw (model_is, inputs_are, tables_are, outputs_are) refl

  pub parts-acyclic : IsAcyclic (length inputs) tables
  parts-acyclic = subst (λ (N : NetValue). IsAcyclic (length N.inputs) N.tables) (sym parts-net) (demo_acyclic w)

  pub parts-wired : 1 ≤ w → w ≤ 32 → IsWired (record { model = model; inputs = inputs; tables = tables; outputs = outputs })
  parts-wired some few =
      let sound = demo_sound w some few in
      subst IsWired (sym parts-net) (record {
        names_differ = sound.names_differ;
        has_output = sound.has_output;
        outputs_are_signals = sound.outputs_are_signals;
        few_signals = omega (arith, few, demo_inputs w, demo_tables w);
        few_outputs = omega (arith, few, demo_outputs w);
      })

pub Adds-made : (w : ℕ) (N : NetValue) → 1 ≤ w → N ≡ demo_net w → Adds w N
Adds-made w N some is = subst (Adds w) (sym is) (demo_adds w some (demo_acyclic w))

pub IsSmall-made : (w : ℕ) (N : NetValue) → w ≤ 32 → N ≡ demo_net w → IsSmall N
IsSmall-made w N few is = subst IsSmall (sym is) (demo_small w few)
