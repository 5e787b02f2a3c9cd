-- Worked examples of the net of the demonstration, computed from the definitions.
use Rattle.std.specs.Prelude.{◌≡◌, true, false, [], ◌∷◌, map, codes}
use Rattle.semantics.specs.declared.mark.Mark.TheVariants.{Zero, One}
use Rattle.semantics.specs.Net.{table_count, literal_count, signal_names, name_of}
use Rattle.semantics.specs.Value.{outputs_of}
use Rattle.semantics.specs.declared.metric.Kind.TheVariants.{Abs}
use Rattle.semantics.specs.Error.{one_word}
use Rattle.semantics.specs.Blif.{blif_text}
use Rattle.semantics.specs.Examples.{text}
use Rattle.chain_semantics.specs.Flips.{flipped_outputs}
use Rattle.chain_semantics.specs.Care.{IsCaredFor}
use Rattle.job_semantics.specs.Demo.{demo_net}

pub record DemoNetExamples : Type 0 where
  pub one_bit :
      demo_net 1
      ≡ record {
        model = codes "demo";
        inputs = codes "a0" ∷ codes "b0" ∷ [];
        tables =
            record {
              name = codes "s0";
              pins = 0 ∷ 1 ∷ [];
              rows = (One ∷ Zero ∷ []) ∷ (Zero ∷ One ∷ []) ∷ [];
              plane = true;
            }
            ∷ record { name = codes "c1"; pins = 0 ∷ 1 ∷ []; rows = (One ∷ One ∷ []) ∷ []; plane = true }
            ∷ [];
        outputs = 2 ∷ 3 ∷ [];
      }
  pub one_bit_text :
      blif_text (demo_net 1)
      ≡ text (codes ".model demo" ∷ codes ".inputs a0 b0" ∷ codes ".outputs s0 c1" ∷ codes ".names a0 b0 s0"
      ∷ codes "10 1"
      ∷ codes "01 1" ∷ codes ".names a0 b0 c1" ∷ codes "11 1" ∷ codes ".end" ∷ [])
  pub two_bits_text :
      blif_text (demo_net 2)
      ≡ text (codes ".model demo" ∷ codes ".inputs a0 a1 b0 b1" ∷ codes ".outputs s0 s1 c2"
      ∷ codes ".names a0 b0 s0" ∷ codes "10 1"
      ∷ codes "01 1" ∷ codes ".names a0 b0 c1" ∷ codes "11 1" ∷ codes ".names a1 b1 c1 s1" ∷ codes "100 1"
      ∷ codes "010 1"
      ∷ codes "001 1" ∷ codes "111 1" ∷ codes ".names a1 b1 c1 c2" ∷ codes "11- 1" ∷ codes "1-1 1"
      ∷ codes "-11 1" ∷ codes ".end" ∷ [])
  pub outputs : map (name_of (signal_names (demo_net 3))) (demo_net 3).outputs
      ≡ codes "s0" ∷ codes "s1" ∷ codes "s2" ∷ codes "c3" ∷ []
  pub counts_of_two : (table_count (demo_net 2) ≡ 4) × (literal_count (demo_net 2) ≡ 24)
  pub counts_of_sixteen : (table_count (demo_net 16) ≡ 32) × (literal_count (demo_net 16) ≡ 276)
  -- 3 + 2 is 5
  pub sum : outputs_of (demo_net 2) (true ∷ true ∷ false ∷ true ∷ []) ≡ true ∷ false ∷ true ∷ []
  -- table 1 is the carry c1: where it is turned over at 0 + 0, the bit of the sum that reads c1 turns too,
  -- and the sum is 2
  pub carry_flipped : flipped_outputs (demo_net 2) (false ∷ false ∷ false ∷ false ∷ []) 1
      ≡ false ∷ true ∷ false ∷ []
  pub carry_cared_for : IsCaredFor (one_word Abs) (demo_net 2) 0 (demo_net 2) 1
      (false ∷ false ∷ false ∷ false ∷ [])
