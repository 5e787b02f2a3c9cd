-- The signals of the names in a model are those of its places.
use Rattle.std.proofs.Common.{◌≡◌, ℕ, suc, ◌+◌, ◌≤◌, ltb, not, Bool, true, false, cond, List, [], ◌∷◌, ◌++◌, map, length, get_or, find, bytes_eq, Option, Some, None, refl, ap, sym, subst, ◌∙◌, arith}
use Rattle.std.specs.List.{position_or_len, range_with_len}
use Rattle.std.proofs.lemmas.Bool.{false≢true, and_parts, ltb-false}
use Rattle.std.proofs.lemmas.List.{map-append, length-map, get_or_past}
use Rattle.semantics.specs.Texts.{Bytes}
use Rattle.hierarchy_semantics.specs.Models.{Subcircuit, Part, BlifModel, Hierarchy, main_of, model_named}
use Rattle.hierarchy_semantics.specs.Driven.{Source, Driven, over_parts, inputs_driven, part_driven, driven_of, names_driven, source_of}
use Rattle.hierarchy_semantics.specs.Places.{Path, use_at, model_at, actual_of}
use Rattle.hierarchy_semantics.specs.Flat.{FlatItem, flat_items, is_place, source_or, input_or, table_signal, place_signal}
use Rattle.hierarchy_semantics.proofs.Members.{IsIn, in_right, found_in, none_found, same_bytes}
use Rattle.hierarchy_semantics.proofs.Parts.{from_parts, PartSource, is_table, is_output, part_source}
use Rattle.hierarchy_semantics.proofs.Placed.{flat_placed}
use Rattle.hier_flat.specs.Flattening.{part_signals, signal_in, model_signal, used_signal, main_signal}
use Rattle.hier_parts.proofs.Found.{sym_eq}
use Rattle.hier_parts.proofs.DrivenNames.{driven-same}
use Rattle.hier_flat.proofs.FlatPlaces.{none_passes, map_same_in, or_zero}

-- ---- the signal of a name is that of the first that drives it

at_position : (names : List Bytes) (signals : List ℕ) (name : Bytes) → length signals ≡ length names → signal_in names signals name ≡ get_or signals (position_or_len (λ n. bytes_eq name n) names) 0
at_position names signals name size = at_test (position_or_len (λ n. bytes_eq name n) names) (ltb (position_or_len (λ n. bytes_eq name n) names) (length names)) refl
  where
    at_test : (p : ℕ) (b : Bool) → ltb p (length names) ≡ b → elim (cond b (Some p) None) [ None ↦ 0 | Some i ↦ get_or signals i 0 ] ≡ get_or signals p 0
    at_test p true is = refl
    at_test p false is = let past = ltb-false p (length names) is in let within : length signals ≤ p = omega (arith, past, size) in sym (get_or_past signals p 0 within)

first_at : (f : Driven → ℕ) (driven : List Driven) (name : Bytes)
    → get_or (map f driven) (position_or_len (λ n. bytes_eq name n) (map (λ d. d.name) driven)) 0 ≡ elim (find (λ d. bytes_eq d.name name) driven) [ None ↦ 0 | Some d ↦ f d ]
first_at f [] name = refl
first_at f (d ∷ driven) name =
    ap (λ b. get_or (f d ∷ map f driven) (cond (not b) (1 + m) 0) 0) (sym_eq name d.name)
    ∙ at_test (bytes_eq d.name name) (first_at f driven name)
  where
    m : ℕ
    m = position_or_len (λ n. bytes_eq name n) (map (λ d. d.name) driven)

    at_test : (b : Bool) → get_or (map f driven) m 0 ≡ elim (find (λ d. bytes_eq d.name name) driven) [ None ↦ 0 | Some d ↦ f d ]
        → get_or (f d ∷ map f driven) (cond (not b) (1 + m) 0) 0 ≡ elim (cond b (Some d) (find (λ d. bytes_eq d.name name) driven)) [ None ↦ 0 | Some d ↦ f d ]
    at_test true rest = refl
    at_test false rest = let more : 1 + m ≡ suc m = omega arith in ap (λ k. get_or (f d ∷ map f driven) k 0) more ∙ rest

looked_up : (f : Driven → ℕ) (driven : List Driven) (name : Bytes)
    → signal_in (map (λ d. d.name) driven) (map f driven) name ≡ elim (find (λ d. bytes_eq d.name name) driven) [ None ↦ 0 | Some d ↦ f d ]
looked_up f driven name =
    at_position (map (λ d. d.name) driven) (map f driven) name (length-map driven f ∙ sym (length-map driven (λ (d : Driven). d.name))) ∙ first_at f driven name

-- ---- a name that nothing drives has no flat table

unplaced_item : (h : Hierarchy) (path : Path) (name : Bytes) (item : FlatItem) → find (λ d. bytes_eq d.name name) (driven_of h (model_at h path)) ≡ None → IsIn item (flat_items h)
    → is_place path name item ≡ false
unplaced_item h path name item none inside = at_test (is_place path name item) refl
  where
    at_test : (b : Bool) → is_place path name item ≡ b → is_place path name item ≡ false
    at_test false is = is
    at_test true is =
        let both = and_parts (bytes_eq item.path path) (bytes_eq item.driven.name name) is in
        let there : item.path ≡ path = same_bytes item.path path both.0 in
        let placed = flat_placed h item inside in
        let driven : IsIn item.driven (driven_of h (model_at h path)) =
        subst (λ p. IsIn item.driven (driven_of h (model_at h p))) there
        (in_right item.driven (inputs_driven 0 (model_at h item.path).inputs) (over_parts (part_driven h) 0 (model_at h item.path).parts) placed.by_part) in
        absurd (false≢true (sym (none_found (λ (d : Driven). bytes_eq d.name name) item.driven (driven_of h (model_at h path)) none driven) ∙ both.1))

unplaced : (h : Hierarchy) (path : Path) (name : Bytes) → find (λ d. bytes_eq d.name name) (driven_of h (model_at h path)) ≡ None → table_signal h path name ≡ 0
unplaced h path name none = ap or_zero (none_passes (is_place path name) (length (main_of h).inputs) (flat_items h) (λ item inside. unplaced_item h path name item none inside))

-- ---- what the parts drive is told by the flat list

kept : (h : Hierarchy) (n : ℕ) (p : Part) (s : Source) (g : ℕ → ℕ) (x : ℕ) → PartSource h n p s → source_or s g x ≡ x
kept h n p s g x (is_table t) = refl
kept h n p s g x (is_output c formal driven) = refl

parts_kept : (h : Hierarchy) (path : Path) (g : Bytes → ℕ → ℕ) (parts : List Part)
    → map (λ d. source_or d.source (g d.name) (table_signal h path d.name)) (over_parts (part_driven h) 0 parts) ≡ map (λ d. table_signal h path d.name) (over_parts (part_driven h) 0 parts)
parts_kept h path g parts =
    map_same_in (λ d. source_or d.source (g d.name) (table_signal h path d.name)) (λ d. table_signal h path d.name) (over_parts (part_driven h) 0 parts)
    (λ d inside.
    let from = from_parts (part_driven h) 0 parts d inside in
    kept h (0 + from.i) from.part d.source (g d.name) (table_signal h path d.name) (part_source h (0 + from.i) from.part d from.inside))

-- ---- the signals of a model

-- what is said of an input by its name and its number
abbrev told : Hierarchy → Path → (Bytes → ℕ → ℕ) → Driven → ℕ
told h path g d = source_or d.source (g d.name) (table_signal h path d.name)

told_place : (h : Hierarchy) (path : Path) (g : Bytes → ℕ → ℕ) (name : Bytes) (o : Option Driven) → source_of h (model_at h path) name ≡ o
    → input_or o (g name) (table_signal h path name) ≡ elim o [ None ↦ 0 | Some d ↦ told h path g d ]
told_place h path g name None none = unplaced h path name none
told_place h path g name (Some d) found =
    let named : d.name ≡ name = same_bytes d.name name (found_in (λ (d : Driven). bytes_eq d.name name) d (driven_of h (model_at h path)) found).1 in
    ap (λ w. source_or d.source (g w) (table_signal h path w)) (sym named)

framed : (h : Hierarchy) (path : Path) (g : Bytes → ℕ → ℕ) (m : BlifModel) (inputs : List ℕ) (first : ℕ) → m ≡ model_at h path
    → map (told h path g) (inputs_driven 0 m.inputs) ≡ inputs
    → map (λ d. table_signal h path d.name) (over_parts (part_driven h) 0 m.parts) ≡ part_signals h first m.parts
    → (name : Bytes) → model_signal h inputs first m name ≡ input_or (source_of h (model_at h path) name) (g name) (table_signal h path name)
framed h path g m inputs first same of_inputs of_parts name =
    let driven : List Driven = driven_of h m in
    let signals : inputs ++ part_signals h first m.parts ≡ map (told h path g) driven =
    ap (λ front. front ++ part_signals h first m.parts) (sym of_inputs)
    ∙ ap (λ back. map (told h path g) (inputs_driven 0 m.inputs) ++ back) (sym (parts_kept h path g m.parts ∙ of_parts))
    ∙ sym (map-append (told h path g) (inputs_driven 0 m.inputs) (over_parts (part_driven h) 0 m.parts)) in
    ap (λ names. signal_in names (inputs ++ part_signals h first m.parts) name) (sym (driven-same h m))
    ∙ ap (λ all. signal_in (names_driven h m) all name) signals
    ∙ looked_up (told h path g) driven name
    ∙ ap (λ k. elim (find (λ d. bytes_eq d.name name) (driven_of h k)) [ None ↦ 0 | Some d ↦ told h path g d ]) same
    ∙ sym (told_place h path g name (source_of h (model_at h path) name) refl)

-- those of a model inside
bound_inputs_told : (h : Hierarchy) (n : ℕ) (up : Path) (signal : Bytes → ℕ) (c : Subcircuit) (k : ℕ) (names : List Bytes) → use_at (model_at h up) n ≡ c
    → ((name : Bytes) → signal name ≡ place_signal h up name)
    → map (told h (n ∷ up) (λ name i. place_signal h up (actual_of (use_at (model_at h up) n) name))) (inputs_driven k names) ≡ map (λ name. signal (actual_of c name)) names
bound_inputs_told h n up signal c k [] there same = refl
bound_inputs_told h n up signal c k (name ∷ names) there same =
    let here : place_signal h up (actual_of (use_at (model_at h up) n) name) ≡ signal (actual_of c name) =
    ap (λ u. place_signal h up (actual_of u name)) there ∙ sym (same (actual_of c name)) in
    ap (λ s. s ∷ map (told h (n ∷ up) (λ name i. place_signal h up (actual_of (use_at (model_at h up) n) name))) (inputs_driven (k + 1) names)) here
    ∙ ap (λ rest. signal (actual_of c name) ∷ rest) (bound_inputs_told h n up signal c (k + 1) names there same)

pub used_framed : (h : Hierarchy) (n : ℕ) (up : Path) (signal : Bytes → ℕ) (c : Subcircuit) (first : ℕ) → model_named h c.model ≡ model_at h (n ∷ up) → use_at (model_at h up) n ≡ c
    → ((name : Bytes) → signal name ≡ place_signal h up name)
    → map (λ d. table_signal h (n ∷ up) d.name) (over_parts (part_driven h) 0 (model_named h c.model).parts) ≡ part_signals h first (model_named h c.model).parts
    → (name : Bytes) → used_signal h signal first c name ≡ place_signal h (n ∷ up) name
used_framed h n up signal c first model there same of_parts name =
    framed h (n ∷ up) (λ name i. place_signal h up (actual_of (use_at (model_at h up) n) name)) (model_named h c.model) (map (λ name. signal (actual_of c name)) (model_named h c.model).inputs) first
    model
    (bound_inputs_told h n up signal c 0 (model_named h c.model).inputs there same) of_parts name

-- those of the main model
main_inputs_told : (h : Hierarchy) (k : ℕ) (names : List Bytes) → map (told h [] (λ name i. i)) (inputs_driven k names) ≡ range_with_len k (length names)
main_inputs_told h k [] = refl
main_inputs_told h k (name ∷ names) = ap (λ rest. k ∷ rest) (main_inputs_told h (k + 1) names)

pub main_framed : (h : Hierarchy) → map (λ d. table_signal h [] d.name) (over_parts (part_driven h) 0 (main_of h).parts) ≡ part_signals h (length (main_of h).inputs) (main_of h).parts
    → (name : Bytes) → main_signal h name ≡ place_signal h [] name
main_framed h of_parts name =
    framed h [] (λ name i. i) (main_of h) (range_with_len 0 (length (main_of h).inputs)) (length (main_of h).inputs) refl (main_inputs_told h 0 (main_of h).inputs) of_parts name
