-- The names that a model drives are those of the definition.
use Rattle.std.proofs.Common.{◌≡◌, ℕ, ◌+◌, List, [], ◌∷◌, ◌++◌, map, flat_map, refl, ap, ◌∙◌}
use Rattle.semantics.specs.Texts.{Bytes}
use Rattle.hierarchy_semantics.specs.Models.{Binding, Part, names_part, subckt_part, BlifModel, Hierarchy}
use Rattle.hierarchy_semantics.specs.Driven.{Driven, by_output, bound_outputs, over_parts, inputs_driven, part_driven, names_driven}
use Rattle.hier_parts.specs.Driven.{part_names, driven_names}

driven-part : (h : Hierarchy) (n : ℕ) (p : Part) → map (λ d. d.name) (part_driven h n p) ≡ part_names h p
driven-part h n (names_part t) = refl
driven-part h n (subckt_part c) = twice (bound_outputs h c)
  where
    twice : (bs : List Binding) → map (λ (d : Driven). d.name) (map (λ (b : Binding). record { name = b.actual; source = by_output n b.formal }) bs) ≡ map (λ (b : Binding). b.actual) bs
    twice [] = refl
    twice (b ∷ bs) = ap (λ rest. b.actual ∷ rest) (twice bs)

joined : (ds es : List Driven) → map (λ d. d.name) (ds ++ es) ≡ map (λ d. d.name) ds ++ map (λ d. d.name) es
joined [] es = refl
joined (d ∷ ds) es = ap (λ rest. d.name ∷ rest) (joined ds es)

driven-parts : (h : Hierarchy) (n : ℕ) (ps : List Part) → map (λ d. d.name) (over_parts (part_driven h) n ps) ≡ flat_map (part_names h) ps
driven-parts h n [] = refl
driven-parts h n (p ∷ ps) =
    joined (part_driven h n p) (over_parts (part_driven h) (n + 1) ps)
    ∙ ap (λ front. front ++ map (λ d. d.name) (over_parts (part_driven h) (n + 1) ps)) (driven-part h n p)
    ∙ ap (λ rest. part_names h p ++ rest) (driven-parts h (n + 1) ps)

driven-inputs : (n : ℕ) (names : List Bytes) → map (λ d. d.name) (inputs_driven n names) ≡ names
driven-inputs n [] = refl
driven-inputs n (name ∷ names) = ap (λ rest. name ∷ rest) (driven-inputs (n + 1) names)

pub driven-same : (h : Hierarchy) (m : BlifModel) → names_driven h m ≡ driven_names h m
driven-same h m =
    joined (inputs_driven 0 m.inputs) (over_parts (part_driven h) 0 m.parts)
    ∙ ap (λ front. front ++ map (λ d. d.name) (over_parts (part_driven h) 0 m.parts)) (driven-inputs 0 m.inputs)
    ∙ ap (λ rest. m.inputs ++ rest) (driven-parts h 0 m.parts)
