-- No number of steps gives a place another value than its signal has in the flat net.
use Rattle.std.proofs.Common.{◌≡◌, ℕ, zero, suc, ◌+◌, ◌<◌, Bool, true, false, cond, not, List, [], ◌∷◌, map, length, get_or, Option, Some, None, option_map, bytes_eq, ◌&&◌, ◌||◌, refl, ap, sym}
use Rattle.std.proofs.Common.{subst, ◌∙◌, inl, inr, arith}
use Rattle.std.proofs.lemmas.Option.{none-some, same_Some}
use Rattle.semantics.specs.declared.mark.Mark.TheVariants.{One}
use Rattle.semantics.specs.Texts.{Bytes}
use Rattle.semantics.specs.Value.{Assignment, table_value, IsConsistent}
use Rattle.blif_semantics.specs.Tables.{NamedTable}
use Rattle.hierarchy_semantics.specs.Models.{Subcircuit, BlifModel, Hierarchy, main_of, model_named}
use Rattle.hierarchy_semantics.specs.Driven.{Source, by_input, by_table, by_output, Driven, over_parts, inputs_driven, part_driven, driven_of, source_of}
use Rattle.hierarchy_semantics.specs.Places.{Path, use_at, model_at, IsUse, IsPath, actual_of, values_of, value_at_bits, source_value, driven_value, place_value}
use Rattle.hierarchy_semantics.specs.Flat.{source_or, input_or, table_signal, place_signal, flat_table, flat_net}
use Rattle.hierarchy_semantics.proofs.Members.{IsIn, in_append, found_in, named_in, same_bytes}
use Rattle.hierarchy_semantics.proofs.Parts.{from_parts, from_inputs, part_source, no_input_part, output_part}
use Rattle.hierarchy_semantics.proofs.Placed.{IsGood, IsTabled, tabled}
use Rattle.hierarchy_semantics.proofs.TableValues.{table_value-pins, values-only}

-- ---- what drives a name, by its source

pub input_inside : (h : Hierarchy) (m : BlifModel) (d : Driven) (i : ℕ) → IsIn d (driven_of h m) → d.source ≡ by_input i → (i < length m.inputs) × IsIn d.name m.inputs
input_inside h m d i inside source =
    elim (in_append d (inputs_driven 0 m.inputs) (over_parts (part_driven h) 0 m.parts) inside) [
      | inl input ↦
          let is = from_inputs m.inputs 0 d input in
          let same : by_input i ≡ by_input (0 + is.i) = sym source ∙ is.source in
          let number = input_number i (0 + is.i) same in
          (omega (arith, number, is.within), is.named)
      | inr other ↦
          let from = from_parts (part_driven h) 0 m.parts d other in
          absurd (no_input_part h (0 + from.i) i from.part d.source (part_source h (0 + from.i) from.part d from.inside) source)
    ]
  where
    input_number : (i k : ℕ) → by_input i ≡ by_input k → i ≡ k
    input_number i k e = cc

pub part_inside : (h : Hierarchy) (m : BlifModel) (d : Driven) → IsIn d (driven_of h m) → ((i : ℕ) → d.source ≡ by_input i → ⊥) → IsIn d (over_parts (part_driven h) 0 m.parts)
part_inside h m d inside none =
    elim (in_append d (inputs_driven 0 m.inputs) (over_parts (part_driven h) 0 m.parts) inside) [
      | inl input ↦ let is = from_inputs m.inputs 0 d input in absurd (none (0 + is.i) is.source)
      | inr other ↦ other
    ]

-- the model whose output drives the name is used there
pub record IsBelow (h : Hierarchy) (path : Path) (n : ℕ) (formal : Bytes) : Type 0 where
  pub c : Subcircuit
  pub there : IsUse (model_at h path) n c
  pub listed : IsIn formal (model_named h c.model).outputs

below_of : (h : Hierarchy) (path : Path) (n : ℕ) (formal : Bytes) (d : Driven) → IsIn d (over_parts (part_driven h) 0 (model_at h path).parts) → d.source ≡ by_output n formal → IsBelow h path n formal
below_of h path n formal d inside source =
    let from = from_parts (part_driven h) 0 (model_at h path).parts d inside in
    let output = output_part h (0 + from.i) n from.part d.source formal (part_source h (0 + from.i) from.part d from.inside) source in
    let number : from.i ≡ n = omega (arith, output.number) in
    record {
      c = output.c;
      there = subst (λ k. IsUse (model_at h path) k output.c) number (from.within, from.is ∙ output.is);
      listed = named_in (model_named h output.c.model).outputs formal output.driven;
    }

pub output_below : (h : Hierarchy) (path : Path) (name : Bytes) (n : ℕ) (formal : Bytes) (d : Driven) → source_of h (model_at h path) name ≡ Some d → d.source ≡ by_output n formal
    → IsBelow h path n formal
output_below h path name n formal d found source =
    let m : BlifModel = model_at h path in
    below_of h path n formal d
    (part_inside h m d (found_in (λ d. bytes_eq d.name name) d (driven_of h m) found).0 (λ i e. no_input n formal i (sym source ∙ e))) source
  where
    no_input : (n : ℕ) (formal : Bytes) (i : ℕ) → by_output n formal ≡ by_input i → ⊥
    no_input n formal i e = cc

-- ---- signals by what drives the name

source_or-input : (s : Source) (i : ℕ) (f : ℕ → ℕ) (other : ℕ) → s ≡ by_input i → source_or s f other ≡ f i
source_or-input s i f other e = ap (λ s. source_or s f other) e

source_or-other : (s : Source) (f : ℕ → ℕ) (other : ℕ) → ((i : ℕ) → s ≡ by_input i → ⊥) → source_or s f other ≡ other
source_or-other (by_input i) f other none = absurd (none i refl)
source_or-other (by_table t) f other none = refl
source_or-other (by_output n formal) f other none = refl

pub signal-main_input : (h : Hierarchy) (name : Bytes) (d : Driven) (i : ℕ) → source_of h (main_of h) name ≡ Some d → d.source ≡ by_input i → place_signal h [] name ≡ i
signal-main_input h name d i found source = ap (λ o. input_or o (λ i. i) (table_signal h [] name)) found ∙ source_or-input d.source i (λ i. i) (table_signal h [] name) source

pub signal-input : (h : Hierarchy) (n : ℕ) (up : Path) (name : Bytes) (d : Driven) (i : ℕ) → source_of h (model_at h (n ∷ up)) name ≡ Some d → d.source ≡ by_input i
    → place_signal h (n ∷ up) name ≡ place_signal h up (actual_of (use_at (model_at h up) n) name)
signal-input h n up name d i found source =
    let outer : ℕ = place_signal h up (actual_of (use_at (model_at h up) n) name) in
    ap (λ o. input_or o (λ i. outer) (table_signal h (n ∷ up) name)) found ∙ source_or-input d.source i (λ i. outer) (table_signal h (n ∷ up) name) source

pub signal-other : (h : Hierarchy) (path : Path) (name : Bytes) (d : Driven) → source_of h (model_at h path) name ≡ Some d → ((i : ℕ) → d.source ≡ by_input i → ⊥)
    → place_signal h path name ≡ table_signal h path name
signal-other h [] name d found none = ap (λ o. input_or o (λ i. i) (table_signal h [] name)) found ∙ source_or-other d.source (λ i. i) (table_signal h [] name) none
signal-other h (n ∷ up) name d found none =
    let outer : ℕ = place_signal h up (actual_of (use_at (model_at h up) n) name) in
    ap (λ o. input_or o (λ i. outer) (table_signal h (n ∷ up) name)) found ∙ source_or-other d.source (λ i. outer) (table_signal h (n ∷ up) name) none

-- ---- the two kinds of flat tables

pub stands : (h : Hierarchy) → IsGood h → (path : Path) → IsPath h path → (name : Bytes) (d : Driven) (s : Source) → source_of h (model_at h path) name ≡ Some d → d.source ≡ s
    → ((i : ℕ) → s ≡ by_input i → ⊥) → IsTabled h path name s
stands h good path path_is name d s found source none =
    let m : BlifModel = model_at h path in
    let inside = (found_in (λ d. bytes_eq d.name name) d (driven_of h m) found).0 in
    subst (IsTabled h path name) source (tabled h good path path_is name d found (part_inside h m d inside (λ i e. none i (sym source ∙ e))))

buffer_value : (label : Bytes) (s : ℕ) (v : Assignment) → table_value (record { name = label; pins = s ∷ []; rows = (One ∷ []) ∷ []; plane = true }) v ≡ v s
buffer_value label s v = at_bit (v s)
  where
    at_bit : (b : Bool) → cond ((b && true) || false) true (not true) ≡ b
    at_bit true = refl
    at_bit false = refl

module _ (h : Hierarchy) (good : IsGood h) (x : List Bool) (v : Assignment) (fits : IsConsistent (length (main_of h).inputs) (flat_net h).tables x v) where
  -- the values so far are those of the signals
  AgreesSoFar : ℕ → Type 0
  AgreesSoFar steps = (path : Path) (name : Bytes) (b : Bool) → IsPath h path → place_value h x steps path name ≡ Some b → v (place_signal h path name) ≡ b

  signal_value : (path : Path) (name : Bytes) (d : Driven) (s : Source) → IsPath h path → source_of h (model_at h path) name ≡ Some d → d.source ≡ s → ((i : ℕ) → s ≡ by_input i → ⊥)
      → (label : Bytes) × (v (place_signal h path name) ≡ table_value (flat_table h label path s) v)
  signal_value path name d s path_is found source none =
      let at = stands h good path path_is name d s found source none in
      (at.label, ap v (signal-other h path name d found (λ i e. none i (sym source ∙ e)) ∙ at.is) ∙ fits.table at.at at.within ∙ ap (λ t. table_value t v) at.table)

  mapped : (t : NamedTable) (o : Option (List Bool)) (b : Bool) → option_map (value_at_bits t) o ≡ Some b → (bits : List Bool) × (o ≡ Some bits) × (value_at_bits t bits ≡ b)
  mapped t None b e = absurd (none-some b e)
  mapped t (Some bits) b e = (bits, refl, same_Some (value_at_bits t bits) b e)

  only_source : (k : ℕ) → AgreesSoFar k → (path : Path) (name : Bytes) (d : Driven) (b : Bool) → IsPath h path → source_of h (model_at h path) name ≡ Some d → (s : Source) → d.source ≡ s
      → source_value h x (place_value h x k) path name s ≡ Some b → v (place_signal h path name) ≡ b
  unfolding AgreesSoFar
  only_source k before [] name d b path_is found (by_input i) source e =
      let inside = input_inside h (main_of h) d i (found_in (λ d. bytes_eq d.name name) d (driven_of h (main_of h)) found).0 source in
      ap v (signal-main_input h name d i found source) ∙ fits.input i inside.0 ∙ same_Some (get_or x i false) b e
  only_source k before (n ∷ up) name d b path_is found (by_input i) source e =
      ap v (signal-input h n up name d i found source) ∙ before up (actual_of (use_at (model_at h up) n) name) b path_is.0 e
  only_source k before path name d b path_is found (by_table t) source e =
      let none : ((i : ℕ) → by_table t ≡ by_input i → ⊥) = λ i e. cc in
      let here = signal_value path name d (by_table t) path_is found source none in
      let bits = mapped t (values_of (place_value h x k path) t.pins) b e in
      let same : map (λ p. v (place_signal h path p)) t.pins ≡ bits.0 =
      values-only (place_value h x k path) (λ p. v (place_signal h path p)) t.pins bits.0 (λ p c is. before path p c path_is is) bits.1 in
      here.1 ∙ table_value-pins (place_signal h path) v t here.0 ∙ ap (value_at_bits t) same ∙ bits.2
  only_source k before path name d b path_is found (by_output n formal) source e =
      let none : ((i : ℕ) → by_output n formal ≡ by_input i → ⊥) = λ i e. cc in
      let here = signal_value path name d (by_output n formal) path_is found source none in
      let below = output_below h path name n formal d found source in
      here.1 ∙ buffer_value here.0 (place_signal h (n ∷ path) formal) v ∙ before (n ∷ path) formal b (path_is, (below.c, below.there)) e

  only_driven : (k : ℕ) → AgreesSoFar k → (path : Path) (name : Bytes) (b : Bool) → IsPath h path → (o : Option Driven) → source_of h (model_at h path) name ≡ o
      → driven_value h x (place_value h x k) path o ≡ Some b → v (place_signal h path name) ≡ b
  only_driven k before path name b path_is None found e = absurd (none-some b e)
  only_driven k before path name b path_is (Some d) found e =
      let named : d.name ≡ name = same_bytes d.name name (found_in (λ d. bytes_eq d.name name) d (driven_of h (model_at h path)) found).1 in
      only_source k before path name d b path_is found d.source refl (subst (λ w. source_value h x (place_value h x k) path w d.source ≡ Some b) named e)

  pub only_value : (steps : ℕ) (path : Path) (name : Bytes) (b : Bool) → IsPath h path → place_value h x steps path name ≡ Some b → v (place_signal h path name) ≡ b
  unfolding AgreesSoFar place_value
  only_value zero path name b path_is e = absurd (none-some b e)
  only_value (suc k) path name b path_is e = only_driven k (only_value k) path name b path_is (source_of h (model_at h path) name) refl e
