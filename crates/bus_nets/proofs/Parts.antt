-- What a network in memory is after a table more, and as the parts of a net.
use Rattle.std.proofs.Common.{◌≡◌, ℕ, ◌+◌, ◌^◌, ◌<◌, List, [], ◌∷◌, ◌++◌, map, length, All, decimal, codes, arith, length-append}
use Rattle.std.specs.List.{range_with_len}
use Rattle.semantics.specs.declared.mark.Mark.{Mark}
use Rattle.semantics.specs.Net.{TableValue, IsSound}
use Rattle.quality_semantics.specs.Forms.{form}
use Rattle.quality_semantics.specs.WordNets.{WordNetValue, signals, table_of, AreSignalsOf}
use Rattle.quality_semantics.proofs.Formed.{IsWordNet-appended}
use Rattle.quality_semantics.proofs.Sound.{IsSound-net_of, input_count-net_of}
use Rattle.bus_nets.specs.Growing.{IsGrowing}

-- the fields of a network after a push
pub IsGrowing-pushed : (W V : WordNetValue) (pins : List ℕ) (rows : List (List Mark)) (i : ℕ) (t : TableValue) (ts : List TableValue) → IsGrowing W → W ≡ V → AreSignalsOf V pins
    → All (λ marks. length marks ≡ length pins) rows → signals W < 2 ^ 30 → i ≡ length W.tables → t ≡ table_of i (form pins rows) → ts ≡ W.tables ++ t ∷ []
    → IsGrowing (record { inputs = W.inputs; tables = ts })
IsGrowing-pushed W V pins rows i t ts h same pins_in widths few ei et ets =
    rw (ets, et, ei) (record {
      formed = IsWordNet-appended W pins rows h.formed (rw same pins_in) widths;
      few = omega (arith, few, length-append W.tables (table_of (length W.tables) (form pins rows) ∷ []));
    })

-- the parts of a net are those of a network
pub parts_sound : (W V : WordNetValue) (model : List ℕ) (names : List (List ℕ)) (outputs given : List ℕ) → IsGrowing W → W ≡ V → outputs ≡ given → 0 < length given → AreSignalsOf V given
    → model ≡ codes "word" → names ≡ map (λ i. 120 ∷ decimal i) (range_with_len 0 W.inputs)
    → IsSound (record { model = model; inputs = names; tables = W.tables; outputs = outputs })
parts_sound W V model names outputs given h same eo some outputs_in em en =
    rw (eo, em, en) (IsSound-net_of W given h.formed h.few some (rw same outputs_in))

pub parts_few : (W : WordNetValue) (names : List (List ℕ)) → IsGrowing W → names ≡ map (λ i. 120 ∷ decimal i) (range_with_len 0 W.inputs) → length names + length W.tables < 2 ^ 31
parts_few W names h e =
    let width = input_count-net_of W [] in
    let most = h.few in
    rw e (omega (arith, width, most))
