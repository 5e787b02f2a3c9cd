-- Models are grounded as the tables that read the models that they use.
use Rattle.std.proofs.Common.{◌≡◌, ℕ, zero, suc, ◌+◌, ◌-◌, ◌<◌, Bool, true, false, not, ◌||◌, ◌&&◌, ltb, cond, List, [], ◌∷◌, ◌++◌, map, flat_map, length, get_or, find, bytes_eq, All, Option, Some}
use Rattle.std.proofs.Common.{None, refl, sym, ap, ◌∙◌, arith}
use Rattle.std.specs.List.{list_all, position_or_len}
use Rattle.std.proofs.lemmas.Bool.{not-false, le-ltb, lt-ltb, false≢true, false_from_ne_true}
use Rattle.std.proofs.lemmas.List.{length-map, get_or-map}
use Rattle.std.proofs.lemmas.List.Elements.{All-nil, All-cons, All-head, All-tail, All-get_or}
use Rattle.semantics.specs.Texts.{Bytes}
use Rattle.semantics.specs.Net.{TableValue, table_at, no_table}
use Rattle.semantics.specs.Order.{IsOrderOf}
use Rattle.semantics.specs.Refusals.{has_name, is_grounded_in, first_ungrounded}
use Rattle.semantics.proofs.FirstFound.{none_if}
use Rattle.semantics.proofs.Refused.{Decides-grounded, ungrounded}
use Rattle.semantics.proofs.Ordered.{order-acyclic}
use Rattle.blif_semantics.specs.Reading.{signal_named}
use Rattle.blif_text.specs.Names.{place_of}
use Rattle.blif_text.proofs.Places.{has_name-unplaced}
use Rattle.hierarchy_semantics.specs.Models.{Subcircuit, BlifModel, Hierarchy, no_model, model_named, uses_of, all_uses}
use Rattle.hierarchy_semantics.specs.Refusals.{model_names, first_unknown, is_model_grounded, first_recursive}
use Rattle.hier_parts.specs.Users.{user_table, users}
use Rattle.hier_parts.proofs.Found.{model-at, placed}

-- ---- uses of models that are there

abbrev pub IsThere : Hierarchy → Subcircuit → Type 0
IsThere h c = has_name (model_names h) c.model ≡ true

each_there : (h : Hierarchy) (cs : List Subcircuit) → find (λ c. not (has_name (model_names h) c.model)) cs ≡ None → All (IsThere h) cs
each_there h [] e = All-nil (IsThere h)
each_there h (c ∷ cs) e =
    let parts = none_if (not (has_name (model_names h) c.model)) c (find (λ c. not (has_name (model_names h) c.model)) cs) e in
    All-cons (IsThere h) c cs (not-false (has_name (model_names h) c.model) parts.0) (each_there h cs parts.1)

-- what holds of all members of lists holds of those of the first, and of the others
all_left : {X : Type 0} (P : X → Type 0) (xs ys : List X) → All P (xs ++ ys) → All P xs
all_left P [] ys all = All-nil P
all_left P (x ∷ xs) ys all = All-cons P x xs (All-head P x (xs ++ ys) all) (all_left P xs ys (All-tail P x (xs ++ ys) all))

all_right : {X : Type 0} (P : X → Type 0) (xs ys : List X) → All P (xs ++ ys) → All P ys
all_right P [] ys all = all
all_right P (x ∷ xs) ys all = all_right P xs ys (All-tail P x (xs ++ ys) all)

each_list : {X Y : Type 0} (P : Y → Type 0) (f : X → List Y) (xs : List X) → All P (flat_map f xs) → All (λ x. All P (f x)) xs
each_list P f [] all = All-nil (λ x. All P (f x))
each_list P f (x ∷ xs) all = All-cons (λ x. All P (f x)) x xs (all_left P (f x) (flat_map f xs) all) (each_list P f xs (all_right P (f x) (flat_map f xs) all))

-- ---- the model at the place of its name

pub record IsPlaced (h : Hierarchy) (name : Bytes) : Type 0 where
  pub within : signal_named (model_names h) name < length h
  pub is : get_or h (signal_named (model_names h) name) no_model ≡ model_named h name

pub placed_model : (h : Hierarchy) (name : Bytes) → has_name (model_names h) name ≡ true → IsPlaced h name
placed_model h name there = at_place (place_of (model_names h) name) refl
  where
    number : Option ℕ → ℕ
    number o = elim o [ None ↦ 0 | Some s ↦ s ]

    at_place : (o : Option ℕ) → place_of (model_names h) name ≡ o → IsPlaced h name
    at_place None is = absurd (false≢true (sym (has_name-unplaced (model_names h) name (sym is)) ∙ there))
    at_place (Some i) is =
        let same : signal_named (model_names h) name ≡ i = ap number is in
        let at = placed (position_or_len (λ word. bytes_eq name word) (model_names h)) (length (model_names h)) i (sym is) in
        let size : length (model_names h) ≡ length h = length-map h (λ m. m.name) in
        record {
          within = omega (arith, same, at.0, at.1, size);
          is = ap (λ k. get_or h k no_model) same ∙ model-at h name i no_model (sym is);
        }

-- ---- grounded

pub user_at : (h : Hierarchy) (i : ℕ) → i < length h → table_at (users h) i ≡ user_table (model_names h) (get_or h i no_model)
user_at h i within = get_or-map (user_table (model_names h)) h i no_model no_table within

same_tests : (p : ℕ → Bool) (q : Subcircuit → Bool) (f : Subcircuit → ℕ) (P : Subcircuit → Type 0) (cs : List Subcircuit) → ((c : Subcircuit) → P c → p (f c) ≡ q c) → All P cs
    → list_all p (map f cs) ≡ list_all q cs
same_tests p q f P [] each all = refl
same_tests p q f P (c ∷ cs) each all =
    ap (λ b. b && list_all p (map f cs)) (each c (All-head P c cs all))
    ∙ ap (λ b. q c && b) (same_tests p q f P cs each (All-tail P c cs all))

same_grounded : (h : Hierarchy) → All (λ m. All (IsThere h) (uses_of m)) h → (steps i : ℕ) → i < length h → is_grounded_in 0 (users h) steps i ≡ is_model_grounded h steps (get_or h i no_model)
same_grounded h there zero i within = le-ltb i 0 (omega arith)
same_grounded h there (suc steps) i within =
    let m : BlifModel = get_or h i no_model in
    let size : length (users h) ≡ length h = length-map h (user_table (model_names h)) in
    let low : ltb i 0 ≡ false = le-ltb i 0 (omega arith) in
    let high : ltb i (0 + length (users h)) ≡ true = lt-ltb i (0 + length (users h)) (omega (arith, within, size)) in
    let place : i - 0 ≡ i = omega arith in
    ap (λ b. b || (ltb i (0 + length (users h)) && list_all (is_grounded_in 0 (users h) steps) (table_at (users h) (i - 0)).pins)) low
    ∙ ap (λ b. b && list_all (is_grounded_in 0 (users h) steps) (table_at (users h) (i - 0)).pins) high
    ∙ ap (λ k. list_all (is_grounded_in 0 (users h) steps) (table_at (users h) k).pins) place
    ∙ ap (λ (t : TableValue). list_all (is_grounded_in 0 (users h) steps) t.pins) (user_at h i within)
    ∙ same_tests (is_grounded_in 0 (users h) steps) (λ c. is_model_grounded h steps (model_named h c.model)) (λ c. signal_named (model_names h) c.model) (IsThere h) (uses_of m)
    (λ c known. let at = placed_model h c.model known in same_grounded h there steps (signal_named (model_names h) c.model) at.within ∙ ap (is_model_grounded h steps) at.is)
    (All-get_or (λ m. All (IsThere h) (uses_of m)) h i no_model within there)

-- ---- the first that is not grounded

none_at : {X : Type 0} (p : X → Bool) (xs : List X) (d : X) → ((i : ℕ) → i < length xs → p (get_or xs i d) ≡ false) → find p xs ≡ None
none_at p [] d each = refl
none_at p (x ∷ xs) d each =
    let here : p x ≡ false = each 0 (omega arith) in
    ap (λ b. cond b (Some x) (find p xs)) here ∙ none_at p xs d (λ i low. each (suc i) (omega (arith, low)))

some_at : {X : Type 0} (p : X → Bool) (xs : List X) (d : X) (i : ℕ) → i < length xs → p (get_or xs i d) ≡ true → ((j : ℕ) → j < i → p (get_or xs j d) ≡ false) → find p xs ≡ Some (get_or xs i d)
some_at p [] d i within is before = absurd (omega (arith, within))
some_at p (x ∷ xs) d zero within is before = ap (λ b. cond b (Some x) (find p xs)) is
some_at p (x ∷ xs) d (suc i) within is before =
    let here : p x ≡ false = before 0 (omega arith) in
    ap (λ b. cond b (Some x) (find p xs)) here ∙ some_at p xs d i (omega (arith, within)) is (λ j low. before (suc j) (omega (arith, low)))

pub uses_there : (h : Hierarchy) → first_unknown h ≡ None → All (λ m. All (IsThere h) (uses_of m)) h
uses_there h none = each_list (IsThere h) uses_of h (each_there h (all_uses h) none)

abbrev is_free : Hierarchy → ℕ → Bool
is_free h i = is_model_grounded h (length h) (get_or h i no_model)

tested : (h : Hierarchy) → first_unknown h ≡ None → (i : ℕ) → i < length h → is_grounded_in 0 (users h) (length (users h)) (0 + i) ≡ is_free h i
tested h none i within =
    let size : length (users h) ≡ length h = length-map h (user_table (model_names h)) in
    let place : 0 + i ≡ i = omega arith in
    ap (λ k. is_grounded_in 0 (users h) k (0 + i)) size ∙ ap (is_grounded_in 0 (users h) (length h)) place ∙ same_grounded h (uses_there h none) (length h) i within

pub none_recursive : (h : Hierarchy) (order : List ℕ) → first_unknown h ≡ None → IsOrderOf 0 (users h) order → first_recursive h ≡ None
none_recursive h order none is =
    let size : length (users h) ≡ length h = length-map h (user_table (model_names h)) in
    none_at (λ m. not (is_model_grounded h (length h) m)) h no_model
    (λ i within.
    ap not
    (sym (tested h none i within) ∙ (Decides-grounded 0 (users h) (length (users h)) (0 + i)).1 (order-acyclic 0 (users h) order is i (omega (arith, within, size)))))

pub record IsRecursive (h : Hierarchy) (i : ℕ) : Type 0 where
  pub within : i < length h
  pub is : first_recursive h ≡ Some (get_or h i no_model)

pub one_recursive : (h : Hierarchy) (i : ℕ) → first_unknown h ≡ None → first_ungrounded 0 (users h) ≡ Some i → IsRecursive h i
one_recursive h i none found =
    let first = ungrounded 0 (users h) i found in
    let size : length (users h) ≡ length h = length-map h (user_table (model_names h)) in
    let within : i < length h = omega (arith, first.within, size) in
    let fails : is_grounded_in 0 (users h) (length (users h)) (0 + i) ≡ false =
    false_from_ne_true (is_grounded_in 0 (users h) (length (users h)) (0 + i)) (λ e. first.ungrounded ((Decides-grounded 0 (users h) (length (users h)) (0 + i)).0 e)) in
    record {
      within = within;
      is = some_at (λ m. not (is_model_grounded h (length h) m)) h no_model i within (ap not (sym (tested h none i within) ∙ fails))
          (λ j low.
          let below : j < length h = omega (arith, low, within) in
          ap not (sym (tested h none j below) ∙ (Decides-grounded 0 (users h) (length (users h)) (0 + j)).1 (first.before j low)));
    }

-- every model that is used has a place among the tables
pub pins_there : (h : Hierarchy) → first_unknown h ≡ None → All (λ t. All (λ s. s < 0 + length (users h)) t.pins) (users h)
pins_there h none =
    let size : length (users h) ≡ length h = length-map h (user_table (model_names h)) in
    tables h (uses_there h none) size
  where
    places : (cs : List Subcircuit) → All (IsThere h) cs → length (users h) ≡ length h → All (λ s. s < 0 + length (users h)) (map (λ c. signal_named (model_names h) c.model) cs)
    places [] all size = All-nil (λ s. s < 0 + length (users h))
    places (c ∷ cs) all size =
        All-cons (λ s. s < 0 + length (users h)) (signal_named (model_names h) c.model) (map (λ c. signal_named (model_names h) c.model) cs)
        (let at = placed_model h c.model (All-head (IsThere h) c cs all) in let low = at.within in omega (arith, low, size)) (places cs (All-tail (IsThere h) c cs all) size)

    tables : (ms : List BlifModel) → All (λ m. All (IsThere h) (uses_of m)) ms → length (users h) ≡ length h
        → All (λ t. All (λ s. s < 0 + length (users h)) t.pins) (map (user_table (model_names h)) ms)
    tables [] all size = All-nil (λ t. All (λ s. s < 0 + length (users h)) t.pins)
    tables (m ∷ ms) all size =
        All-cons (λ t. All (λ s. s < 0 + length (users h)) t.pins) (user_table (model_names h) m) (map (user_table (model_names h)) ms)
        (places (uses_of m) (All-head (λ m. All (IsThere h) (uses_of m)) m ms all) size) (tables ms (All-tail (λ m. All (IsThere h) (uses_of m)) m ms all) size)
