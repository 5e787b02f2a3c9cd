-- The limit that a flat net passes, by counting.
use Rattle.std.proofs.Common.{◌≡◌, ℕ, ◌+◌, ◌-◌, ◌^◌, ◌<◌, leb, not, ◌&&◌, Bool, true, false, cond, List, [], ◌∷◌, length, get_or, sum_by, Option, refl, ap, sym, ◌∙◌, arith}
use Rattle.std.specs.List.{list_all}
use Rattle.std.proofs.lemmas.Bool.{le-leb, leb-true, leb-false, lt-leb}
use Rattle.std.proofs.lemmas.List.{length-map}
use Rattle.std.proofs.lemmas.List.Sums.{sum_by-cons}
use Rattle.semantics.specs.declared.which.Which.{Which}
use Rattle.semantics.specs.declared.limits.TheConstants.{MOST_INPUTS, MOST_OUTPUTS, MOST_TABLES, MOST_TABLE_PINS, MOST_PINS, MOST_ROWS}
use Rattle.semantics.specs.Net.{TableValue, NetValue, pin_count, row_count}
use Rattle.semantics.specs.Refusals.{first_limit}
use Rattle.hierarchy_semantics.specs.Models.{Hierarchy, main_of}
use Rattle.hierarchy_semantics.specs.Counts.{Weight, flat_weight}
use Rattle.hierarchy_semantics.specs.Flat.{place_signal, flat_net}
use Rattle.hierarchy_semantics.proofs.Counted.{tables_count, pins_count, rows_count, wide_count}
use Rattle.hier_flat.specs.declared.weights.Measure.TheVariants.{Tables, WideTables, Pins, Rows}
use Rattle.hier_flat.specs.Weights.{weight_of, capped, level_weights, limit_by}

-- the weight of the main model
pub main_first : (h : Hierarchy) (w : Weight) → get_or (level_weights h w (length h)) 0 0 ≡ capped (flat_weight h w)
main_first [] w = refl
main_first (m ∷ h) w = refl

-- a count that is held passes a limit where the whole does
held_passes : (n most : ℕ) → most < 2 ^ 64 - 1 → leb (capped n) most ≡ leb n most
held_passes n most small = at_test (leb n most) refl
  where
    at_test : (b : Bool) → leb n most ≡ b → leb (capped n) most ≡ leb n most
    at_test true is = let low = leb-true n most is in le-leb (capped n) most (omega (arith, low)) ∙ sym is
    at_test false is = let high = leb-false n most is in lt-leb (capped n) most (omega (arith, high, small)) ∙ sym is

-- no table has too many pins where none is counted
none_wide : (tables : List TableValue) → leb (sum_by (λ t. cond (not (leb (length t.pins) MOST_TABLE_PINS)) 1 0) tables) 0 ≡ list_all (λ t. leb (length t.pins) MOST_TABLE_PINS) tables
none_wide [] = refl
none_wide (t ∷ tables) =
    ap (λ n. leb n 0) (sum_by-cons (λ t. cond (not (leb (length t.pins) MOST_TABLE_PINS)) 1 0) t tables) ∙ at_test (leb (length t.pins) MOST_TABLE_PINS) (none_wide tables)
  where
    more : ℕ
    more = sum_by (λ (t : TableValue). cond (not (leb (length t.pins) MOST_TABLE_PINS)) 1 0) tables

    at_test : (b : Bool) → leb more 0 ≡ list_all (λ t. leb (length t.pins) MOST_TABLE_PINS) tables
        → leb (cond (not b) 1 0 + more) 0 ≡ b && list_all (λ t. leb (length t.pins) MOST_TABLE_PINS) tables
    at_test true rest = let same : 0 + more ≡ more = omega arith in ap (λ n. leb n 0) same ∙ rest
    at_test false rest = lt-leb (1 + more) 0 (omega arith)

flat_inputs : (h : Hierarchy) → length (main_of h).inputs ≡ length (flat_net h).inputs
unfolding flat_net
flat_inputs h = refl

flat_outputs : (h : Hierarchy) → length (main_of h).outputs ≡ length (flat_net h).outputs
unfolding flat_net
flat_outputs h = sym (length-map (main_of h).outputs (place_signal h []))

limits_same : (a b c d e f p q r s t u : Bool) → a ≡ p → b ≡ q → c ≡ r → d ≡ s → e ≡ t → f ≡ u
    → limit_by (not a) (not b) (not c) (not d) (not e) (not f) ≡ limit_by (not p) (not q) (not r) (not s) (not t) (not u)
limits_same a b c d e f p q r s t u one two three four five six = rw (one, two, three, four, five, six) refl

counted : (h : Hierarchy) (w : Weight) (n most held : ℕ) → most < 2 ^ 64 - 1 → n ≡ flat_weight h w → held ≡ capped (flat_weight h w) → leb held most ≡ leb n most
counted h w n most held small whole is = ap (λ k. leb k most) is ∙ held_passes (flat_weight h w) most small ∙ ap (λ k. leb k most) (sym whole)

pub limit_counted : (h : Hierarchy) (inputs outputs tables wide pins rows : ℕ) → inputs ≡ length (main_of h).inputs → outputs ≡ length (main_of h).outputs
    → tables ≡ capped (flat_weight h (weight_of Tables))
    → wide ≡ capped (flat_weight h (weight_of WideTables)) → pins ≡ capped (flat_weight h (weight_of Pins)) → rows ≡ capped (flat_weight h (weight_of Rows))
    → limit_by (not (leb inputs MOST_INPUTS)) (not (leb outputs MOST_OUTPUTS)) (not (leb tables MOST_TABLES)) (not (leb wide 0)) (not (leb pins MOST_PINS)) (not (leb rows MOST_ROWS))
    ≡ first_limit (flat_net h)
limit_counted h inputs outputs tables wide pins rows inputs_is outputs_is tables_is wide_is pins_is rows_is =
    let N : NetValue = flat_net h in
    limits_same (leb inputs MOST_INPUTS) (leb outputs MOST_OUTPUTS) (leb tables MOST_TABLES) (leb wide 0) (leb pins MOST_PINS) (leb rows MOST_ROWS)
    (leb (length N.inputs) MOST_INPUTS) (leb (length N.outputs) MOST_OUTPUTS) (leb (length N.tables) MOST_TABLES) (list_all (λ t. leb (length t.pins) MOST_TABLE_PINS) N.tables)
    (leb (pin_count N) MOST_PINS) (leb (row_count N) MOST_ROWS)
    (ap (λ k. leb k MOST_INPUTS) (inputs_is ∙ flat_inputs h)) (ap (λ k. leb k MOST_OUTPUTS) (outputs_is ∙ flat_outputs h))
    (counted h (weight_of Tables) (length N.tables) MOST_TABLES tables (omega arith) (tables_count h) tables_is)
    (counted h (weight_of WideTables) (sum_by (λ t. cond (not (leb (length t.pins) MOST_TABLE_PINS)) 1 0) N.tables) 0 wide (omega arith) (wide_count h) wide_is ∙ none_wide N.tables)
    (counted h (weight_of Pins) (pin_count N) MOST_PINS pins (omega arith) (pins_count h) pins_is)
    (counted h (weight_of Rows) (row_count N) MOST_ROWS rows (omega arith) (rows_count h) rows_is)

abbrev Passes : Bool → ℕ → ℕ → Type 0
Passes b n most = b ≡ not (leb n most)

pub limit_told : (h : Hierarchy) (a b c d e f : Bool) (inputs outputs tables wide pins rows : ℕ) (told : Option Which) → told ≡ limit_by a b c d e f → Passes a inputs MOST_INPUTS
    → Passes b outputs MOST_OUTPUTS → Passes c tables MOST_TABLES → Passes d wide 0 → Passes e pins MOST_PINS → Passes f rows MOST_ROWS
    → inputs ≡ length (main_of h).inputs → outputs ≡ length (main_of h).outputs → tables ≡ capped (flat_weight h (weight_of Tables))
    → wide ≡ capped (flat_weight h (weight_of WideTables)) → pins ≡ capped (flat_weight h (weight_of Pins)) → rows ≡ capped (flat_weight h (weight_of Rows)) → told ≡ first_limit (flat_net h)
limit_told h a b c d e f inputs outputs tables wide pins rows told is one two three four five six inputs_is outputs_is tables_is wide_is pins_is rows_is =
    is
    ∙ ap (λ x. limit_by x b c d e f) one
    ∙ ap (λ x. limit_by (not (leb inputs MOST_INPUTS)) x c d e f) two
    ∙ ap (λ x. limit_by (not (leb inputs MOST_INPUTS)) (not (leb outputs MOST_OUTPUTS)) x d e f) three
    ∙ ap (λ x. limit_by (not (leb inputs MOST_INPUTS)) (not (leb outputs MOST_OUTPUTS)) (not (leb tables MOST_TABLES)) x e f) four
    ∙ ap (λ x. limit_by (not (leb inputs MOST_INPUTS)) (not (leb outputs MOST_OUTPUTS)) (not (leb tables MOST_TABLES)) (not (leb wide 0)) x f) five
    ∙ ap (λ x. limit_by (not (leb inputs MOST_INPUTS)) (not (leb outputs MOST_OUTPUTS)) (not (leb tables MOST_TABLES)) (not (leb wide 0)) (not (leb pins MOST_PINS)) x) six
    ∙ limit_counted h inputs outputs tables wide pins rows inputs_is outputs_is tables_is wide_is pins_is rows_is
