-- The weights of models, of their parts, and over levels.
use Rattle.std.proofs.Common.{◌≡◌, ℕ, zero, suc, ◌+◌, ◌-◌, ◌*◌, ◌<◌, ◌≤◌, List, [], ◌∷◌, map, length, get_or, sum_by, drop, flat_map, ◌++◌, bytes_eq, Option, Some, None, refl, ap, sym, subst}
use Rattle.std.proofs.Common.{◌∙◌, arith}
use Rattle.std.specs.List.{AllByRecursion, position_or_len}
use Rattle.std.proofs.lemmas.List.{length-map, drop_more, drop_all}
use Rattle.std.proofs.lemmas.List.Sums.{sum_by-cons}
use Rattle.semantics.specs.Texts.{Bytes}
use Rattle.blif_text.specs.Names.{place_of}
use Rattle.hierarchy_semantics.specs.Models.{Subcircuit, Part, subckt_part, BlifModel, Hierarchy, no_model, model_named, part_uses}
use Rattle.hierarchy_semantics.specs.Driven.{bound_outputs}
use Rattle.hierarchy_semantics.specs.Refusals.{model_names}
use Rattle.hierarchy_semantics.specs.Counts.{Weight, part_weight, model_weight}
use Rattle.hier_flat.specs.Weights.{capped, weight_named, AreWeights, level_weights}
use Rattle.hier_flat.specs.Flattening.{by_tables, size_of}
use Rattle.hier_parts.proofs.Found.{placed, model-at, model-none}

-- ---- sums as far as they are held

pub capped_sum : (a b c d : ℕ) → capped a ≡ capped b → capped c ≡ capped d → capped (a + c) ≡ capped (b + d)
capped_sum a b c d e f = omega (arith, e, f)

-- one more of what is summed
pub capped_next : {X : Type 0} (f : X → Part) (g : Part → ℕ) (xs : List X) (i : ℕ) (x : X) (total one next all : ℕ) → i < length xs → get_or xs i x ≡ x → one ≡ capped (g (f x))
    → next ≡ capped (total + one)
    → capped (total + sum_by g (map f (drop i xs))) ≡ all → capped (next + sum_by g (map f (drop (i + 1) xs))) ≡ all
capped_next f g xs i x total one next all within is weighs more so_far =
    let cut = drop_more xs i x within in
    let sum : sum_by g (map f (drop i xs)) ≡ g (f x) + sum_by g (map f (drop (i + 1) xs)) =
    ap (λ l. sum_by g (map f l)) cut ∙ sum_by-cons g (f (get_or xs i x)) (map f (drop (i + 1) xs)) ∙ ap (λ y. g (f y) + sum_by g (map f (drop (i + 1) xs))) is in
    omega (arith, weighs, more, sum, so_far)

-- ---- the weights of one level

mapped_at : (f : BlifModel → ℕ) (h : Hierarchy) (i : ℕ) → i < length h → get_or (map f h) i 0 ≡ f (get_or h i no_model)
mapped_at f [] i within = absurd (omega (arith, within))
mapped_at f (m ∷ h) zero within = refl
mapped_at f (m ∷ h) (suc i) within = mapped_at f h i (omega (arith, within))

pub none_weighs : (h : Hierarchy) (w : Weight) (l : ℕ) → 0 ≡ capped (model_weight h w l no_model)
none_weighs h w zero = omega arith
none_weighs h w (suc l) = omega arith

-- the weight of every name
abbrev pub WeighsEach : Hierarchy → List ℕ → (BlifModel → ℕ) → Type 0
WeighsEach h weights inside = (name : Bytes) → weight_named h weights name ≡ capped (inside (model_named h name))

level_named : (h : Hierarchy) (w : Weight) (l : ℕ) → WeighsEach h (level_weights h w l) (model_weight h w l)
level_named h w l name = at_place (place_of (model_names h) name) refl
  where
    at_place : (o : Option ℕ) → place_of (model_names h) name ≡ o → elim o [ None ↦ 0 | Some i ↦ get_or (level_weights h w l) i 0 ] ≡ capped (model_weight h w l (model_named h name))
    at_place None e = none_weighs h w l ∙ ap (λ m. capped (model_weight h w l m)) (model-none h name (sym e))
    at_place (Some i) e =
        let at = placed (position_or_len (λ word. bytes_eq name word) (model_names h)) (length (model_names h)) i (sym e) in
        let size : length (model_names h) ≡ length h = length-map h (λ m. m.name) in
        mapped_at (λ m. capped (model_weight h w l m)) h i (omega (arith, at.0, at.1, size)) ∙ ap (λ m. capped (model_weight h w l m)) (model-at h name i no_model (sym e))

-- ---- the weights of the models that parts use

uses_left : (P : Subcircuit → Type 0) (cs rest : List Subcircuit) → AllByRecursion P (cs ++ rest) → AllByRecursion P cs
uses_left P [] rest all = tt
uses_left P (c ∷ cs) rest all = (all.0, uses_left P cs rest all.1)

uses_right : (P : Subcircuit → Type 0) (cs rest : List Subcircuit) → AllByRecursion P (cs ++ rest) → AllByRecursion P rest
uses_right P [] rest all = all
uses_right P (c ∷ cs) rest all = uses_right P cs rest all.1

-- what holds of the uses of all parts holds of those of each
pub uses_at : {X : Type 0} (P : Subcircuit → Type 0) (f : X → Part) (xs : List X) (i : ℕ) (x : X) → i < length xs → get_or xs i x ≡ x → AllByRecursion P (flat_map part_uses (map f xs))
    → AllByRecursion P (part_uses (f x))
uses_at P f [] i x within is all = absurd (omega (arith, within))
uses_at P f (y ∷ xs) zero x within is all = subst (λ z. AllByRecursion P (part_uses (f z))) is (uses_left P (part_uses (f y)) (flat_map part_uses (map f xs)) all)
uses_at P f (y ∷ xs) (suc i) x within is all = uses_at P f xs i x (omega (arith, within)) is (uses_right P (part_uses (f y)) (flat_map part_uses (map f xs)) all)

each_use : (h : Hierarchy) (weights : List ℕ) (inside : BlifModel → ℕ) → WeighsEach h weights inside → (cs : List Subcircuit) → AreWeights h weights inside cs
each_use h weights inside each [] = tt
each_use h weights inside each (c ∷ cs) = (each c.model, each_use h weights inside each cs)

-- ---- loops

pub use_weighs : (h : Hierarchy) (w : Weight) (weight : BlifModel → ℕ) (c : Subcircuit) (p : Part) (inside buffers count total : ℕ) → p ≡ subckt_part c
    → inside ≡ capped (weight (model_named h c.model)) → buffers ≡ count * w.of_buffer
    → count ≡ length (bound_outputs h c) → total ≡ capped (inside + buffers) → total ≡ capped (part_weight h w weight p)
use_weighs h w weight c p inside buffers count total is weighs buffered counted sum =
    let more : buffers ≡ length (bound_outputs h c) * w.of_buffer = buffered ∙ ap (λ k. k * w.of_buffer) counted in
    let whole : total ≡ capped (weight (model_named h c.model) + length (bound_outputs h c) * w.of_buffer) = omega (arith, weighs, more, sum) in
    whole ∙ ap (λ q. capped (part_weight h w weight q)) (sym is)

-- all is summed
pub capped_all : {X : Type 0} (f : X → Part) (g : Part → ℕ) (xs : List X) (i total all : ℕ) → length xs ≤ i → total ≡ capped total → capped (total + sum_by g (map f (drop i xs))) ≡ all → total ≡ all
capped_all f g xs i total all within held so_far =
    let none : sum_by g (map f (drop i xs)) ≡ 0 = ap (λ l. sum_by g (map f l)) (drop_all i xs within) in
    omega (arith, held, none, so_far)

-- the sizes that are kept
pub sizes_are : (h : Hierarchy) (kept sizes : List ℕ) → kept ≡ level_weights h by_tables (length h) → sizes ≡ kept → WeighsEach h sizes (size_of h)
sizes_are h kept sizes is same name = ap (λ v. weight_named h v name) (same ∙ is) ∙ level_named h by_tables (length h) name

pub sizes_used : (h : Hierarchy) (kept sizes : List ℕ) → kept ≡ level_weights h by_tables (length h) → sizes ≡ kept → (uses : List Subcircuit) → AreWeights h sizes (size_of h) uses
sizes_used h kept sizes is same uses = each_use h sizes (size_of h) (sizes_are h kept sizes is same) uses
