-- The weights of models in an order in which each stands after those that it uses: those of the first k are the
-- same over k levels of models and over any more.
use Rattle.std.proofs.Common.{◌≡◌, ℕ, zero, suc, ◌+◌, ◌-◌, ◌<◌, ◌≤◌, List, [], ◌∷◌, map, length, get_or, set, sum_by, take, Option, Some, None, refl, ap, sym, subst, ◌∙◌, arith}
use Rattle.std.specs.List.{AllByRecursion}
use Rattle.std.proofs.lemmas.List.{length-map, get_or-map, get_or_read, ext_get_or}
use Rattle.semantics.specs.Texts.{Bytes}
use Rattle.semantics.specs.Net.{TableValue, table_at}
use Rattle.semantics.specs.Order.{IsKnown, IsNext}
use Rattle.semantics.proofs.Ordered.{order-count}
use Rattle.net_core.proofs.InOrder.{HoldsBefore, next_at, holds_none, holds_more, holds_all}
use Rattle.blif_semantics.specs.Reading.{signal_named}
use Rattle.blif_text.specs.Names.{place_of}
use Rattle.hierarchy_semantics.specs.Models.{Subcircuit, BlifModel, Hierarchy, no_model, model_named, uses_of}
use Rattle.hierarchy_semantics.specs.Refusals.{model_names}
use Rattle.hierarchy_semantics.specs.Counts.{Weight, part_weight, model_weight}
use Rattle.hier_parts.specs.Users.{user_table, users, IsModelOrder}
use Rattle.hier_parts.proofs.Found.{model-at, model-none}
use Rattle.hier_parts.proofs.Grounded.{user_at}
use Rattle.hier_flat.specs.Weights.{capped, weight_named, AreWeights, level_weights}
use Rattle.hier_flat.proofs.Weighed.{none_weighs}

-- the weight of model i, over k levels of models and over any more
abbrev pub IsSettled : Hierarchy → Weight → ℕ → ℕ → ℕ → Type 0
IsSettled h w k i weight = (l : ℕ) → k ≤ l → weight ≡ capped (model_weight h w l (get_or h i no_model))

-- the first k models of the order have theirs
abbrev pub AreSettled : Hierarchy → Weight → List ℕ → ℕ → List ℕ → Type 0
AreSettled h w order k weights = HoldsBefore (IsSettled h w k) 0 0 order k weights

-- a weight that holds for the weights inside, whatever those are
abbrev pub Weighs : Hierarchy → Weight → List ℕ → BlifModel → ℕ → Type 0
Weighs h w inside m weight = (f : BlifModel → ℕ) → AreWeights h inside f (uses_of m) → weight ≡ capped (sum_by (part_weight h w f) m.parts)

user_count : (h : Hierarchy) → length (users h) ≡ length h
user_count h = length-map h (user_table (model_names h))

-- the model of a name that stands before
settled_named : (h : Hierarchy) (w : Weight) (order weights : List ℕ) (k l : ℕ) → k ≤ l → AreSettled h w order k weights → (name : Bytes) → IsKnown 0 (take k order) (signal_named (model_names h) name)
    → weight_named h weights name ≡ capped (model_weight h w l (model_named h name))
settled_named h w order weights k l more settled name known = at_place (place_of (model_names h) name) refl
  where
    number : Option ℕ → ℕ
    number o = elim o [ None ↦ 0 | Some s ↦ s ]

    at_place : (o : Option ℕ) → place_of (model_names h) name ≡ o → elim o [ None ↦ 0 | Some i ↦ get_or weights i 0 ] ≡ capped (model_weight h w l (model_named h name))
    at_place None e = none_weighs h w l ∙ ap (λ m. capped (model_weight h w l m)) (model-none h name (sym e))
    at_place (Some i) e =
        let same : signal_named (model_names h) name ≡ i = ap number e in
        settled i (subst (IsKnown 0 (take k order)) same known) l more ∙ ap (λ m. capped (model_weight h w l m)) (model-at h name i no_model (sym e))

-- the models that are used, all of which stand before
settled_used : (h : Hierarchy) (w : Weight) (order weights : List ℕ) (k l : ℕ) → k ≤ l → AreSettled h w order k weights → (uses : List Subcircuit)
    → AllByRecursion (IsKnown 0 (take k order)) (map (λ c. signal_named (model_names h) c.model) uses) → AreWeights h weights (model_weight h w l) uses
settled_used h w order weights k l more settled [] known = tt
settled_used h w order weights k l more settled (c ∷ uses) known = (
  settled_named h w order weights k l more settled c.model known.0,
  settled_used h w order weights k l more settled uses known.1,
)

module _ (h : Hierarchy) (w : Weight) (order : List ℕ) (is : IsModelOrder h order) where
  pub model_within : (k i : ℕ) → k < length order → i ≡ get_or order k 0 → i < length h
  model_within k i low at =
      let next = next_at 0 (users h) order is k i low at in
      let size = user_count h in
      omega (arith, next.table, size)

  pub settled_none : (weights : List ℕ) → AreSettled h w order 0 weights
  settled_none weights = holds_none 0 (users h) order is (IsSettled h w 0) 0 weights (λ s low. absurd (omega (arith, low)))

  -- one more model
  pub settled_more : (weights : List ℕ) (k i : ℕ) (m : BlifModel) (weight : ℕ) → k < length order → i ≡ get_or order k 0 → m ≡ get_or h i m → length weights ≡ length h
      → Weighs h w weights m weight → AreSettled h w order k weights → AreSettled h w order (k + 1) (set weights i weight)
  settled_more weights k i m weight low at read room weighs settled =
      let next : IsNext 0 (users h) (take k order) i = next_at 0 (users h) order is k i low at in
      let size : length (users h) ≡ length h = user_count h in
      let within : i < length h = omega (arith, next.table, size) in
      let same : m ≡ get_or h i no_model = get_or_read h i m within read no_model in
      let pins : (table_at (users h) i).pins ≡ map (λ c. signal_named (model_names h) c.model) (uses_of m)
      = ap (λ (t : TableValue). t.pins) (user_at h i within) ∙ ap (λ (k : BlifModel). map (λ c. signal_named (model_names h) c.model) (uses_of k)) (sym same) in
      let known : AllByRecursion (IsKnown 0 (take k order)) (map (λ c. signal_named (model_names h) c.model) (uses_of m)) = subst (AllByRecursion (IsKnown 0 (take k order))) pins next.reads in
      let here : IsSettled h w (k + 1) i weight = level known same in
      let before : HoldsBefore (IsSettled h w (k + 1)) 0 0 order k weights = λ s inside l more. settled s inside l (omega (arith, more)) in
      let place : 0 + i ≡ i = omega arith in
      let start : IsSettled h w (k + 1) (0 + i) weight = subst (λ j. IsSettled h w (k + 1) j weight) (sym place) here in
      subst (λ j. AreSettled h w order (k + 1) (set weights j weight)) place
      (holds_more 0 (users h) order is (IsSettled h w (k + 1)) 0 weights k i weight low at (omega (arith, room, size)) start before)
    where
      level : AllByRecursion (IsKnown 0 (take k order)) (map (λ c. signal_named (model_names h) c.model) (uses_of m)) → m ≡ get_or h i no_model → IsSettled h w (k + 1) i weight
      level known same zero more = absurd (omega (arith, more))
      level known same (suc l) more =
          weighs (model_weight h w l) (settled_used h w order weights k l (omega (arith, more)) settled (uses_of m) known) ∙ ap (λ (n : BlifModel). capped (model_weight h w (suc l) n)) same

  -- after the last, all models
  pub settled_all : (weights : List ℕ) (k : ℕ) → length order ≤ k → k ≤ length order → length weights ≡ length h → AreSettled h w order k weights → weights ≡ level_weights h w (length h)
  settled_all weights k past within room settled =
      let size : length (users h) ≡ length h = user_count h in
      let count : length order ≡ length (users h) = order-count 0 (users h) order is in
      let levels : k ≤ length h = omega (arith, within, count, size) in
      let made : length (level_weights h w (length h)) ≡ length h = length-map h (λ m. capped (model_weight h w (length h) m)) in
      ext_get_or 0 weights (level_weights h w (length h)) (room ∙ sym made)
      (λ i low.
      let here : i < length h = omega (arith, low, room) in
      holds_all 0 (users h) order is (IsSettled h w k) 0 weights k past settled i (omega (arith, here, size)) (length h) levels
      ∙ sym (get_or-map (λ m. capped (model_weight h w (length h) m)) h i no_model 0 here))
