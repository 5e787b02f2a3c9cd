-- What the parts of a model give, and what drives a name.
use Rattle.std.proofs.Common.{◌≡◌, ℕ, zero, suc, ◌+◌, ◌<◌, true, List, [], ◌∷◌, flat_map, length, get_or, refl, ap, sym, subst, ◌∙◌, inl, inr, arith}
use Rattle.semantics.specs.Texts.{Bytes}
use Rattle.semantics.specs.Refusals.{has_name}
use Rattle.blif_semantics.specs.Tables.{NamedTable}
use Rattle.hierarchy_semantics.specs.Models.{Subcircuit, Part, names_part, subckt_part, BlifModel, Hierarchy, model_named}
use Rattle.hierarchy_semantics.specs.Driven.{Source, by_input, by_table, by_output, Driven, bound_outputs, over_parts, inputs_driven, part_driven}
use Rattle.hierarchy_semantics.specs.Places.{no_use}
use Rattle.hierarchy_semantics.proofs.Members.{IsIn, in_left, in_right, in_append, from_map, from_filter}

pub in_get : {X : Type 0} (xs : List X) (i : ℕ) (d x : X) → i < length xs → get_or xs i d ≡ x → IsIn x xs
in_get [] i d x within is = absurd (omega (arith, within))
in_get (z ∷ xs) zero d x within is = inl is
in_get (z ∷ xs) (suc i) d x within is = inr (in_get xs i d x (omega (arith, within)) is)

pub in_flat_map : {X Y : Type 0} (f : X → List Y) (x : X) (y : Y) (xs : List X) → IsIn x xs → IsIn y (f x) → IsIn y (flat_map f xs)
in_flat_map f x y [] h inside = absurd h
in_flat_map f x y (z ∷ xs) (inl e) inside = in_left y (f z) (flat_map f xs) (subst (λ w. IsIn y (f w)) (sym e) inside)
in_flat_map f x y (z ∷ xs) (inr h) inside = in_right y (f z) (flat_map f xs) (in_flat_map f x y xs h inside)

abbrev pub no_part : Part
no_part = subckt_part no_use

-- y comes from part i
pub record ComesFrom {Y : Type 0} (f : ℕ → Part → List Y) (n : ℕ) (parts : List Part) (y : Y) : Type 0 where
  pub i : ℕ
  pub part : Part
  pub within : i < length parts
  pub is : get_or parts i no_part ≡ part
  pub inside : IsIn y (f (n + i) part)

pub from_parts : {Y : Type 0} (f : ℕ → Part → List Y) (n : ℕ) (parts : List Part) (y : Y) → IsIn y (over_parts f n parts) → ComesFrom f n parts y
from_parts f n [] y h = absurd h
from_parts f n (p ∷ parts) y h =
    elim (in_append y (f n p) (over_parts f (n + 1) parts) h) [
      | inl here ↦
          let same : n ≡ n + 0 = omega arith in
          record { i = 0; part = p; within = omega arith; is = refl; inside = subst (λ m. IsIn y (f m p)) same here }
      | inr later ↦
          let rest = from_parts f (n + 1) parts y later in
          let same : (n + 1) + rest.i ≡ n + suc rest.i = omega arith in
          record { i = suc rest.i; part = rest.part; within = omega (arith, rest.within); is = rest.is; inside = subst (λ m. IsIn y (f m rest.part)) same rest.inside }
    ]

pub to_parts : {Y : Type 0} (f : ℕ → Part → List Y) (n : ℕ) (parts : List Part) (i : ℕ) (p : Part) (y : Y) → i < length parts → get_or parts i no_part ≡ p → IsIn y (f (n + i) p)
    → IsIn y (over_parts f n parts)
to_parts f n [] i p y within is h = absurd (omega (arith, within))
to_parts f n (q ∷ parts) zero p y within is h =
    let same : n + 0 ≡ n = omega arith in
    in_left y (f n q) (over_parts f (n + 1) parts) (subst (λ r. IsIn y (f n r)) (sym is) (subst (λ m. IsIn y (f m p)) same h))
to_parts f n (q ∷ parts) (suc i) p y within is h =
    let same : n + suc i ≡ (n + 1) + i = omega arith in
    in_right y (f n q) (over_parts f (n + 1) parts) (to_parts f (n + 1) parts i p y (omega (arith, within)) is (subst (λ m. IsIn y (f m p)) same h))

-- ---- what drives a name

pub record IsInputOf (names : List Bytes) (k : ℕ) (d : Driven) : Type 0 where
  pub i : ℕ
  pub within : i < length names
  pub source : d.source ≡ by_input (k + i)
  pub named : IsIn d.name names

pub from_inputs : (names : List Bytes) (k : ℕ) (d : Driven) → IsIn d (inputs_driven k names) → IsInputOf names k d
from_inputs [] k d h = absurd h
from_inputs (name ∷ names) k d (inl e) =
    let same : k ≡ k + 0 = omega arith in
    record { i = 0; within = omega arith; source = ap (λ d. d.source) (sym e) ∙ ap by_input same; named = inl (ap (λ d. d.name) e) }
from_inputs (name ∷ names) k d (inr h) =
    let rest = from_inputs names (k + 1) d h in
    let same : (k + 1) + rest.i ≡ k + suc rest.i = omega arith in
    record { i = suc rest.i; within = omega (arith, rest.within); source = rest.source ∙ ap by_input same; named = inr rest.named }

-- a part drives by a table that it is, or by an output of the model that it uses
pub data PartSource (h : Hierarchy) (n : ℕ) : Part → Source → Type 0 where
  is_table : (t : NamedTable) → PartSource h n (names_part t) (by_table t)
  is_output : (c : Subcircuit) (formal : Bytes) → has_name (model_named h c.model).outputs formal ≡ true → PartSource h n (subckt_part c) (by_output n formal)

pub part_source : (h : Hierarchy) (n : ℕ) (p : Part) (d : Driven) → IsIn d (part_driven h n p) → PartSource h n p d.source
part_source h n (names_part t) d (inl e) = subst (λ d. PartSource h n (names_part t) d.source) e (is_table t)
part_source h n (names_part t) d (inr none) = absurd none
part_source h n (subckt_part c) d inside =
    let from = from_map (λ b. record { name = b.actual; source = by_output n b.formal }) d (bound_outputs h c) inside in
    let kept = from_filter (λ b. has_name (model_named h c.model).outputs b.formal) from.from c.bindings from.inside in
    subst (λ d. PartSource h n (subckt_part c) d.source) from.is (is_output c from.from.formal kept.1)

pub no_input_part : (h : Hierarchy) (n i : ℕ) (p : Part) (s : Source) → PartSource h n p s → s ≡ by_input i → ⊥
no_input_part h n i p s (is_table t) e = cc
no_input_part h n i p s (is_output c formal driven) e = cc

pub record TableSource (m : BlifModel) (t : NamedTable) : Type 0 where
  pub n : ℕ
  pub within : n < length m.parts
  pub is : get_or m.parts n no_part ≡ names_part t

pub table_part : (h : Hierarchy) (n : ℕ) (p : Part) (s : Source) (t : NamedTable) → PartSource h n p s → s ≡ by_table t → p ≡ names_part t
table_part h n p s t (is_table u) e = cc
table_part h n p s t (is_output c formal driven) e = cc

pub record OutputSource (h : Hierarchy) (p : Part) (k n : ℕ) (formal : Bytes) : Type 0 where
  pub c : Subcircuit
  pub is : p ≡ subckt_part c
  pub number : k ≡ n
  pub driven : has_name (model_named h c.model).outputs formal ≡ true

pub output_part : (h : Hierarchy) (k n : ℕ) (p : Part) (s : Source) (formal : Bytes) → PartSource h k p s → s ≡ by_output n formal → OutputSource h p k n formal
output_part h k n p s formal (is_table u) e = cc
output_part h k n p s formal (is_output c f driven) e =
    let same : f ≡ formal = cc in
    record { c = c; is = refl; number = cc; driven = subst (λ g. has_name (model_named h c.model).outputs g ≡ true) same driven }
