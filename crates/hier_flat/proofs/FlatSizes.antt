-- How many flat tables a model has, at any number of levels that grounds it.
use Rattle.std.proofs.Common.{◌≡◌, ℕ, zero, suc, ◌+◌, ◌*◌, ◌-◌, ◌≤◌, Bool, true, List, [], ◌∷◌, length, sum_by, refl, ap, sym, subst, ◌∙◌, inl, inr, arith}
use Rattle.std.specs.List.{list_all}
use Rattle.std.proofs.lemmas.Bool.{false≢true, and_parts, and_from}
use Rattle.std.proofs.lemmas.List.{length-map, length-append}
use Rattle.std.proofs.lemmas.List.Sums.{sum_by-cons}
use Rattle.hierarchy_semantics.specs.Models.{Subcircuit, Part, names_part, subckt_part, BlifModel, Hierarchy, model_named, part_uses, uses_of}
use Rattle.hierarchy_semantics.specs.Driven.{Driven, by_output, bound_outputs, over_parts, part_driven}
use Rattle.hierarchy_semantics.specs.Refusals.{is_model_grounded}
use Rattle.hierarchy_semantics.specs.Places.{Path}
use Rattle.hierarchy_semantics.specs.Flat.{items_at, part_items, items_of}
use Rattle.hierarchy_semantics.specs.Counts.{Weight, part_weight, model_weight}
use Rattle.hierarchy_semantics.proofs.Members.{IsIn, passed_in}
use Rattle.hierarchy_semantics.proofs.Parts.{in_flat_map}
use Rattle.hier_flat.specs.Flattening.{by_tables}

pub sum_same : {X : Type 0} (f g : X → ℕ) (xs : List X) → ((x : X) → IsIn x xs → f x ≡ g x) → sum_by f xs ≡ sum_by g xs
sum_same f g [] same = refl
sum_same f g (x ∷ xs) same =
    sum_by-cons f x xs
    ∙ ap (λ k. k + sum_by f xs) (same x (inl refl))
    ∙ ap (λ k. g x + k) (sum_same f g xs (λ y inside. same y (inr inside)))
    ∙ sym (sum_by-cons g x xs)

-- ---- one level more

all_weaker : {X : Type 0} (p q : X → Bool) (xs : List X) → ((x : X) → p x ≡ true → q x ≡ true) → list_all p xs ≡ true → list_all q xs ≡ true
all_weaker p q [] weaker e = refl
all_weaker p q (x ∷ xs) weaker e =
    let both = and_parts (p x) (list_all p xs) e in
    and_from (q x) (list_all q xs) (weaker x both.0) (all_weaker p q xs weaker both.1)

pub grounded_inside : (h : Hierarchy) (l : ℕ) (m : BlifModel) → is_model_grounded h (suc l) m ≡ true → (c : Subcircuit) → IsIn c (uses_of m) → is_model_grounded h l (model_named h c.model) ≡ true
grounded_inside h l m grounded c inside = passed_in (λ c. is_model_grounded h l (model_named h c.model)) c (uses_of m) grounded inside

part_steady : (h : Hierarchy) (w : Weight) (f g : BlifModel → ℕ) (m : BlifModel) (p : Part) → IsIn p m.parts
    → ((c : Subcircuit) → IsIn c (uses_of m) → f (model_named h c.model) ≡ g (model_named h c.model))
    → part_weight h w f p ≡ part_weight h w g p
part_steady h w f g m (names_part t) inside same = refl
part_steady h w f g m (subckt_part c) inside same = ap (λ k. k + length (bound_outputs h c) * w.of_buffer) (same c (in_flat_map part_uses (subckt_part c) c m.parts inside (inl refl)))

pub weight_steady : (h : Hierarchy) (w : Weight) (l : ℕ) (m : BlifModel) → is_model_grounded h l m ≡ true → model_weight h w l m ≡ model_weight h w (suc l) m
weight_steady h w zero m grounded = absurd (false≢true grounded)
weight_steady h w (suc l) m grounded =
    sum_same (part_weight h w (model_weight h w l)) (part_weight h w (model_weight h w (suc l))) m.parts
    (λ p inside.
    part_steady h w (model_weight h w l) (model_weight h w (suc l)) m p inside (λ c used. weight_steady h w l (model_named h c.model) (grounded_inside h l m grounded c used)))

pub grounded_more : (h : Hierarchy) (l : ℕ) (m : BlifModel) → is_model_grounded h l m ≡ true → is_model_grounded h (suc l) m ≡ true
grounded_more h zero m grounded = absurd (false≢true grounded)
grounded_more h (suc l) m grounded =
    all_weaker (λ c. is_model_grounded h l (model_named h c.model)) (λ c. is_model_grounded h (suc l) (model_named h c.model)) (uses_of m)
    (λ c e. grounded_more h l (model_named h c.model) e) grounded

weight_later : (h : Hierarchy) (w : Weight) (j l : ℕ) (m : BlifModel) → is_model_grounded h l m ≡ true → (model_weight h w l m ≡ model_weight h w (j + l) m) × (is_model_grounded h (j + l) m ≡ true)
weight_later h w zero l m grounded = let same : l ≡ 0 + l = omega arith in (ap (λ k. model_weight h w k m) same, subst (λ k. is_model_grounded h k m ≡ true) same grounded)
weight_later h w (suc j) l m grounded =
    let rest = weight_later h w j l m grounded in
    let same : suc (j + l) ≡ suc j + l = omega arith in (
      rest.0 ∙ weight_steady h w (j + l) m rest.1 ∙ ap (λ k. model_weight h w k m) same,
      subst (λ k. is_model_grounded h k m ≡ true) same (grounded_more h (j + l) m rest.1),
    )

pub weight_level : (h : Hierarchy) (w : Weight) (l n : ℕ) (m : BlifModel) → is_model_grounded h l m ≡ true → l ≤ n → model_weight h w l m ≡ model_weight h w n m
weight_level h w l n m grounded within = let same : (n - l) + l ≡ n = omega (arith, within) in (weight_later h w (n - l) l m grounded).0 ∙ ap (λ k. model_weight h w k m) same

-- ---- the items of a model

items_length : (path : Path) (driven : List Driven) → length (items_at path driven) ≡ length driven
items_length path driven = length-map driven (λ d. record { path = path; driven = d })

pub outputs_length : (h : Hierarchy) (n : ℕ) (c : Subcircuit) → length (part_driven h n (subckt_part c)) ≡ length (bound_outputs h c)
outputs_length h n c = length-map (bound_outputs h c) (λ b. record { name = b.actual; source = by_output n b.formal })

pub part_length : (h : Hierarchy) (l : ℕ) (path : Path) (n : ℕ) (p : Part) → ((inner : Path) (m : BlifModel) → length (items_of h l inner m) ≡ model_weight h by_tables l m)
    → length (part_items h (items_of h l) path n p) ≡ part_weight h by_tables (model_weight h by_tables l) p
part_length h l path n (names_part t) inner = refl
part_length h l path n (subckt_part c) inner =
    let both = length-append (items_of h l (n ∷ path) (model_named h c.model)) (items_at path (part_driven h n (subckt_part c))) in
    let below = inner (n ∷ path) (model_named h c.model) in
    let own = items_length path (part_driven h n (subckt_part c)) ∙ outputs_length h n c in
    omega (arith, both, below, own)

parts_length : (h : Hierarchy) (l : ℕ) (path : Path) (n : ℕ) (parts : List Part) → ((inner : Path) (m : BlifModel) → length (items_of h l inner m) ≡ model_weight h by_tables l m)
    → length (over_parts (part_items h (items_of h l) path) n parts) ≡ sum_by (part_weight h by_tables (model_weight h by_tables l)) parts
parts_length h l path n [] inner = refl
parts_length h l path n (p ∷ parts) inner =
    length-append (part_items h (items_of h l) path n p) (over_parts (part_items h (items_of h l) path) (n + 1) parts)
    ∙ ap (λ k. k + length (over_parts (part_items h (items_of h l) path) (n + 1) parts)) (part_length h l path n p inner)
    ∙ ap (λ k. part_weight h by_tables (model_weight h by_tables l) p + k) (parts_length h l path (n + 1) parts inner)
    ∙ sym (sum_by-cons (part_weight h by_tables (model_weight h by_tables l)) p parts)

pub model_length : (h : Hierarchy) (l : ℕ) (path : Path) (m : BlifModel) → length (items_of h l path m) ≡ model_weight h by_tables l m
model_length h zero path m = refl
model_length h (suc l) path m = parts_length h l path 0 m.parts (model_length h l)
