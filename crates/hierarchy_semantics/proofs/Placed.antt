-- Each place that a table or an output drives stands in the flat list, and what stands there is what drives it.
use Rattle.std.proofs.Common.{◌≡◌, ℕ, zero, suc, ◌+◌, ◌<◌, ◌&&◌, Bool, true, false, List, [], ◌∷◌, length, get_or, bytes_eq, Some, None, refl, ap, sym, subst, ◌∙◌, inl, inr, arith}
use Rattle.std.specs.List.{position_from}
use Rattle.std.proofs.lemmas.Bool.{false≢true}
use Rattle.semantics.specs.Texts.{Bytes}
use Rattle.semantics.specs.Net.{table_at}
use Rattle.semantics.specs.Refusals.{first_doubled}
use Rattle.hierarchy_semantics.specs.Models.{Subcircuit, Part, names_part, subckt_part, BlifModel, Hierarchy, main_of, model_named, part_uses, uses_of}
use Rattle.hierarchy_semantics.specs.Driven.{Source, Driven, over_parts, inputs_driven, part_driven, driven_of, names_driven, names_read, source_of}
use Rattle.hierarchy_semantics.specs.Refusals.{is_model_grounded, formals_of}
use Rattle.hierarchy_semantics.specs.Places.{Path, use_of, use_at, model_at, IsUse, IsPath}
use Rattle.hierarchy_semantics.specs.Flat.{FlatItem, items_at, part_items, items_of, flat_items, is_place, table_signal, flat_name, flat_table, tables_from, flat_net}
use Rattle.hierarchy_semantics.proofs.Members.{IsIn, in_left, in_right, in_append, in_map, from_map, found_in, passed_in, same_bytes, equal_bytes, one_of_name}
use Rattle.hierarchy_semantics.proofs.Parts.{in_get, in_flat_map, no_part, from_parts, to_parts}

-- ---- the table of an item

pub record IsFound (h : Hierarchy) (p : FlatItem → Bool) (number k : ℕ) (items : List FlatItem) : Type 0 where
  pub at : ℕ
  pub item : FlatItem
  pub is : position_from p k items ≡ Some (k + at)
  pub inside : IsIn item items
  pub passes : p item ≡ true
  pub within : at < length (tables_from h number items)
  pub table : table_at (tables_from h number items) at ≡ flat_table h (flat_name (number + at) item) item.path item.driven.source

pub find_table : (h : Hierarchy) (p : FlatItem → Bool) (number k : ℕ) (items : List FlatItem) (x : FlatItem) → IsIn x items → p x ≡ true → IsFound h p number k items
find_table h p number k [] x inside passes = absurd inside
find_table h p number k (z ∷ items) x inside passes = at_test (p z) refl inside (λ i. find_table h p (number + 1) (k + 1) items x i passes)
  where
    at_test : (b : Bool) → p z ≡ b → IsIn x (z ∷ items) → (IsIn x items → IsFound h p (number + 1) (k + 1) items) → IsFound h p number k (z ∷ items)
    at_test true is i others =
        let here : k ≡ k + 0 = omega arith in
        let own : number ≡ number + 0 = omega arith in
        record {
          at = 0;
          item = z;
          is = rw is (ap Some here);
          inside = inl refl;
          passes = is;
          within = omega arith;
          table = ap (λ m. flat_table h (flat_name m z) z.path z.driven.source) own;
        }
    at_test false is (inl e) others = absurd (false≢true (sym is ∙ ap p e ∙ passes))
    at_test false is (inr i) others =
        let rest = others i in
        let there : (k + 1) + rest.at ≡ k + suc rest.at = omega arith in
        let own : (number + 1) + rest.at ≡ number + suc rest.at = omega arith in
        record {
          at = suc rest.at;
          item = rest.item;
          is = rw is (rest.is ∙ ap Some there);
          inside = inr rest.inside;
          passes = rest.passes;
          within = omega (arith, rest.within);
          table = rest.table ∙ ap (λ m. flat_table h (flat_name m rest.item) rest.item.path rest.item.driven.source) own;
        }

-- ---- the items of a path stand in the whole list

pub record IsReached (h : Hierarchy) (path : Path) : Type 0 where
  pub levels : ℕ
  pub grounded : is_model_grounded h levels (model_at h path) ≡ true
  pub whole : (item : FlatItem) → IsIn item (items_of h levels path (model_at h path)) → IsIn item (flat_items h)

pub used_model : (h : Hierarchy) (up : Path) (n : ℕ) (c : Subcircuit) → IsUse (model_at h up) n c → model_named h c.model ≡ model_at h (n ∷ up)
used_model h up n c there = ap (λ p. model_named h (use_of p).model) (sym there.1)

pub in_uses : (m : BlifModel) (n : ℕ) (c : Subcircuit) → IsUse m n c → IsIn c (uses_of m)
in_uses m n c there = in_flat_map part_uses (subckt_part c) c m.parts (in_get m.parts n no_part (subckt_part c) there.0 there.1) (inl refl)

reached_next : (h : Hierarchy) (up : Path) (n : ℕ) (c : Subcircuit) → IsUse (model_at h up) n c → (l : ℕ) → is_model_grounded h l (model_at h up) ≡ true
    → ((item : FlatItem) → IsIn item (items_of h l up (model_at h up)) → IsIn item (flat_items h)) → IsReached h (n ∷ up)
reached_next h up n c there zero grounded whole = absurd (false≢true grounded)
reached_next h up n c there (suc l) grounded whole =
    let m : BlifModel = model_at h up in
    let same : model_named h c.model ≡ model_at h (n ∷ up) = used_model h up n c there in
    record {
      levels = l;
      grounded = subst (λ k. is_model_grounded h l k ≡ true) same (passed_in (λ c. is_model_grounded h l (model_named h c.model)) c (uses_of m) grounded (in_uses m n c there));
      whole = λ item inside.
          let here : IsIn item (items_of h l (n ∷ up) (model_named h c.model)) = subst (λ k. IsIn item (items_of h l (n ∷ up) k)) (sym same) inside in
          let number : n ≡ 0 + n = omega arith in
          let own : IsIn item (part_items h (items_of h l) up n (subckt_part c)) = in_left item (items_of h l (n ∷ up) (model_named h c.model)) (items_at up (part_driven h n (subckt_part c))) here in
          whole item
          (to_parts (part_items h (items_of h l) up) 0 m.parts n (subckt_part c) item there.0 there.1 (subst (λ k. IsIn item (part_items h (items_of h l) up k (subckt_part c))) number own));
    }

pub reached : (h : Hierarchy) → is_model_grounded h (length h) (main_of h) ≡ true → (path : Path) → IsPath h path → IsReached h path
unfolding flat_items
reached h grounded [] is = record { levels = length h; grounded = grounded; whole = λ item inside. inside }
reached h grounded (n ∷ up) is =
    let before = reached h grounded up is.0 in
    reached_next h up n is.1.0 is.1.1 before.levels before.grounded before.whole

-- ---- what stands in the list is driven where it stands

pub record IsPlaced (h : Hierarchy) (item : FlatItem) : Type 0 where
  pub path : IsPath h item.path
  pub by_part : IsIn item.driven (over_parts (part_driven h) 0 (model_at h item.path).parts)

own_placed : (h : Hierarchy) (path : Path) (m : BlifModel) (i : ℕ) (p : Part) (item : FlatItem) → IsPath h path → m ≡ model_at h path → i < length m.parts → get_or m.parts i no_part ≡ p
    → IsIn item (items_at path (part_driven h i p)) → IsPlaced h item
own_placed h path m i p item path_is same within is inside =
    let from = from_map (λ d. record { path = path; driven = d }) item (part_driven h i p) inside in
    let number : i ≡ 0 + i = omega arith in
    let by_part : IsIn from.from (over_parts (part_driven h) 0 m.parts)
    = to_parts (part_driven h) 0 m.parts i p from.from within is (subst (λ k. IsIn from.from (part_driven h k p)) number from.inside) in
    let here : IsPlaced h (record { path = path; driven = from.from })
    = record { path = path_is; by_part = subst (λ (k : BlifModel). IsIn from.from (over_parts (part_driven h) 0 k.parts)) same by_part } in
    subst (IsPlaced h) from.is here

part_placed : (h : Hierarchy) (l : ℕ) (path : Path) (m : BlifModel) (i : ℕ) (p : Part) (item : FlatItem) → IsPath h path → m ≡ model_at h path → i < length m.parts → get_or m.parts i no_part ≡ p
    → ((inner : Path) (k : BlifModel) → IsPath h inner → k ≡ model_at h inner → IsIn item (items_of h l inner k) → IsPlaced h item)
    → IsIn item (part_items h (items_of h l) path i p) → IsPlaced h item
part_placed h l path m i (names_part t) item path_is same within is inner inside = own_placed h path m i (names_part t) item path_is same within is inside
part_placed h l path m i (subckt_part c) item path_is same within is inner inside =
    elim (in_append item (items_of h l (i ∷ path) (model_named h c.model)) (items_at path (part_driven h i (subckt_part c))) inside) [
      | inl below ↦
          let there : IsUse (model_at h path) i c = subst (λ k. IsUse k i c) same (within, is) in
          inner (i ∷ path) (model_named h c.model) (path_is, (c, there)) (used_model h path i c there) below
      | inr own ↦ own_placed h path m i (subckt_part c) item path_is same within is own
    ]

pub placed : (h : Hierarchy) (item : FlatItem) (l : ℕ) (path : Path) (m : BlifModel) → IsPath h path → m ≡ model_at h path → IsIn item (items_of h l path m) → IsPlaced h item
placed h item zero path m path_is same inside = absurd inside
placed h item (suc l) path m path_is same inside =
    let from = from_parts (part_items h (items_of h l) path) 0 m.parts item inside in
    let number : 0 + from.i ≡ from.i = omega arith in
    part_placed h l path m from.i from.part item path_is same from.within from.is (placed h item l)
    (subst (λ k. IsIn item (part_items h (items_of h l) path k from.part)) number from.inside)

pub flat_placed : (h : Hierarchy) (item : FlatItem) → IsIn item (flat_items h) → IsPlaced h item
unfolding flat_items
flat_placed h item inside = placed h item (length h) [] (main_of h) tt refl inside

-- ---- the table of a place

-- no name is driven twice, what is read is driven, and the inputs of the models that are used are bound
pub record IsFit (h : Hierarchy) (m : BlifModel) : Type 0 where
  pub once : first_doubled (names_driven h m) ≡ None
  pub reads : (name : Bytes) → IsIn name (names_read h m) → IsIn name (names_driven h m)
  pub bound : (c : Subcircuit) → IsIn c (uses_of m) → (name : Bytes) → IsIn name (model_named h c.model).inputs → IsIn name (formals_of c)

pub record IsGood (h : Hierarchy) : Type 0 where
  pub grounded : is_model_grounded h (length h) (main_of h) ≡ true
  pub main : IsFit h (main_of h)
  pub named : (name : Bytes) → IsFit h (model_named h name)

pub fit_at : (h : Hierarchy) → IsGood h → (path : Path) → IsFit h (model_at h path)
fit_at h good [] = good.main
fit_at h good (n ∷ up) = good.named (use_at (model_at h up) n).model

own_items : (h : Hierarchy) (l : ℕ) (path : Path) (n : ℕ) (p : Part) (d : Driven) → IsIn d (part_driven h n p) → IsIn (record { path = path; driven = d }) (part_items h (items_of h l) path n p)
own_items h l path n (names_part t) d inside = in_map (λ d. record { path = path; driven = d }) d (part_driven h n (names_part t)) inside
own_items h l path n (subckt_part c) d inside =
    in_right (record { path = path; driven = d }) (items_of h l (n ∷ path) (model_named h c.model)) (items_at path (part_driven h n (subckt_part c)))
    (in_map (λ d. record { path = path; driven = d }) d (part_driven h n (subckt_part c)) inside)

level_items : (h : Hierarchy) (l : ℕ) (path : Path) (m : BlifModel) (d : Driven) → is_model_grounded h l m ≡ true → IsIn d (over_parts (part_driven h) 0 m.parts)
    → IsIn (record { path = path; driven = d }) (items_of h l path m)
level_items h zero path m d grounded inside = absurd (false≢true grounded)
level_items h (suc l) path m d grounded inside =
    let from = from_parts (part_driven h) 0 m.parts d inside in
    to_parts (part_items h (items_of h l) path) 0 m.parts from.i from.part (record { path = path; driven = d }) from.within from.is (own_items h l path (0 + from.i) from.part d from.inside)

pub record IsTabled (h : Hierarchy) (path : Path) (name : Bytes) (source : Source) : Type 0 where
  pub at : ℕ
  pub is : table_signal h path name ≡ length (main_of h).inputs + at
  pub within : at < length (flat_net h).tables
  pub label : Bytes
  pub table : table_at (flat_net h).tables at ≡ flat_table h label path source

both_true : (a b : Bool) → a && b ≡ true → (a ≡ true) × (b ≡ true)
both_true true true e = (refl, refl)
both_true true false e = absurd (false≢true e)
both_true false b e = absurd (false≢true e)

same_item : (h : Hierarchy) (path : Path) (name : Bytes) (d : Driven) (item : FlatItem) → IsFit h (model_at h path) → IsIn d (driven_of h (model_at h path)) → d.name ≡ name → IsPlaced h item
    → is_place path name item ≡ true → (item.path ≡ path) × (item.driven ≡ d)
same_item h path name d item fit driven named placed passes =
    let tests = both_true (bytes_eq item.path path) (bytes_eq item.driven.name name) passes in
    let there : item.path ≡ path = same_bytes item.path path tests.0 in
    let of_name : item.driven.name ≡ name = same_bytes item.driven.name name tests.1 in
    let inside : IsIn item.driven (driven_of h (model_at h path)) =
    subst (λ p. IsIn item.driven (driven_of h (model_at h p))) there
    (in_right item.driven (inputs_driven 0 (model_at h item.path).inputs) (over_parts (part_driven h) 0 (model_at h item.path).parts) placed.by_part) in
    (there, one_of_name (λ d. d.name) [] (driven_of h (model_at h path)) item.driven d fit.once inside driven (of_name ∙ sym named))

pub tabled : (h : Hierarchy) → IsGood h → (path : Path) → IsPath h path → (name : Bytes) (d : Driven) → source_of h (model_at h path) name ≡ Some d
    → IsIn d (over_parts (part_driven h) 0 (model_at h path).parts) → IsTabled h path name d.source
unfolding flat_net
tabled h good path path_is name d source inside =
    let m : BlifModel = model_at h path in
    let found = found_in (λ d. bytes_eq d.name name) d (driven_of h m) source in
    let named : d.name ≡ name = same_bytes d.name name found.1 in
    let to = reached h good.grounded path path_is in
    let item : FlatItem = record { path = path; driven = d } in
    let stands : IsIn item (flat_items h) = to.whole item (level_items h to.levels path m d to.grounded inside) in
    let passes : is_place path name item ≡ true = rw (equal_bytes path path refl, equal_bytes d.name name named) refl in
    let n : ℕ = length (main_of h).inputs in
    let at = find_table h (is_place path name) 0 n (flat_items h) item stands passes in
    let same = same_item h path name d at.item (fit_at h good path) found.0 named (flat_placed h at.item at.inside) at.passes in
    record {
      at = at.at;
      is = ap (λ s. elim s [ None ↦ 0 | Some s ↦ s ]) at.is;
      within = at.within;
      label = flat_name (0 + at.at) at.item;
      table = at.table ∙ ap (λ p. flat_table h (flat_name (0 + at.at) at.item) p at.item.driven.source) same.0 ∙ ap (λ d. flat_table h (flat_name (0 + at.at) at.item) path d.source) same.1;
    }
