-- The signals of a model, one part after another.
use Rattle.std.proofs.Common.{◌≡◌, ℕ, ◌+◌, ◌-◌, ◌^◌, ◌<◌, ◌≤◌, suc, List, [], ◌∷◌, ◌++◌, map, length, get_or, sum_by, drop, append_assoc, append-nil, ap, sym, ◌∙◌, arith}
use Rattle.std.specs.List.{range_with_len}
use Rattle.std.proofs.lemmas.List.{drop_more, drop_all}
use Rattle.std.proofs.lemmas.List.Sums.{sum_by-cons}
use Rattle.hierarchy_semantics.specs.Models.{Part, Hierarchy}
use Rattle.hier_flat.specs.Weights.{capped}
use Rattle.hier_flat.specs.Flattening.{part_size, own_signals, part_signals}

-- ---- signals one after another

range_next : (s e : ℕ) → s < e → range_with_len s (e - s) ≡ s ∷ range_with_len (s + 1) (e - (s + 1))
range_next s e within = let more : e - s ≡ suc (e - (s + 1)) = omega (arith, within) in ap (λ k. range_with_len s k) more

pub range_pushed : (old new : List ℕ) (s e : ℕ) (all : List ℕ) → s < e → new ≡ old ++ s ∷ [] → old ++ range_with_len s (e - s) ≡ all → new ++ range_with_len (s + 1) (e - (s + 1)) ≡ all
range_pushed old new s e all within added so_far =
    ap (λ v. v ++ range_with_len (s + 1) (e - (s + 1))) added
    ∙ append_assoc old (s ∷ []) (range_with_len (s + 1) (e - (s + 1)))
    ∙ ap (λ more. old ++ more) (sym (range_next s e within))
    ∙ so_far

pub range_done : (old : List ℕ) (s e first count : ℕ) (start : List ℕ) → e ≤ s → e ≡ first + count → old ++ range_with_len s (e - s) ≡ start ++ range_with_len first (e - first)
    → old ≡ start ++ range_with_len first count
range_done old s e first count start within end so_far =
    let none : e - s ≡ 0 = omega (arith, within) in
    let size : e - first ≡ count = omega (arith, end) in
    sym (append-nil old) ∙ ap (λ k. old ++ range_with_len s k) (sym none) ∙ so_far ∙ ap (λ k. start ++ range_with_len first k) size

-- ---- parts one after another

pub sum_cut : {X : Type 0} (f : X → Part) (g : Part → ℕ) (xs : List X) (i : ℕ) (x : X) → i < length xs → get_or xs i x ≡ x → sum_by g (map f (drop i xs)) ≡ g (f x) + sum_by g (map f (drop (i + 1) xs))
sum_cut f g xs i x within is =
    ap (λ l. sum_by g (map f l)) (drop_more xs i x within)
    ∙ sum_by-cons g (f (get_or xs i x)) (map f (drop (i + 1) xs))
    ∙ ap (λ y. g (f y) + sum_by g (map f (drop (i + 1) xs))) is

-- the next part has room
pub room_next : {X : Type 0} (f : X → Part) (h : Hierarchy) (xs : List X) (i : ℕ) (x : X) (next total : ℕ) → i < length xs → get_or xs i x ≡ x
    → next + sum_by (part_size h) (map f (drop i xs)) ≡ total → total < 2 ^ 31
    → next + part_size h (f x) < 2 ^ 31
room_next f h xs i x next total within is so_far small = let cut = sum_cut f (part_size h) xs i x within is in omega (arith, cut, so_far, small)

-- and what is held of its size is the whole
pub size_next : {X : Type 0} (f : X → Part) (h : Hierarchy) (xs : List X) (i : ℕ) (x : X) (next total size : ℕ) → i < length xs → get_or xs i x ≡ x
    → next + sum_by (part_size h) (map f (drop i xs)) ≡ total → total < 2 ^ 31
    → size ≡ capped (part_size h (f x))
    → size ≡ part_size h (f x)
size_next f h xs i x next total size within is so_far small held = let room = room_next f h xs i x next total within is so_far small in omega (arith, room, held)

pub signals_next : {X : Type 0} (f : X → Part) (h : Hierarchy) (xs : List X) (i : ℕ) (x : X) (next later total size : ℕ) (old new all : List ℕ) → i < length xs → get_or xs i x ≡ x
    → next + sum_by (part_size h) (map f (drop i xs)) ≡ total → total < 2 ^ 31
    → size ≡ capped (part_size h (f x))
    → later ≡ next + size → new ≡ old ++ own_signals h next (f x) → old ++ part_signals h next (map f (drop i xs)) ≡ all
    → (new ++ part_signals h later (map f (drop (i + 1) xs)) ≡ all) × (later + sum_by (part_size h) (map f (drop (i + 1) xs)) ≡ total)
signals_next f h xs i x next later total size old new all within is so_far small held moved added signals =
    let exact = size_next f h xs i x next total size within is so_far small held in
    let there : later ≡ next + part_size h (f x) = omega (arith, moved, exact) in
    let rest = map f (drop (i + 1) xs) in
    let cut : part_signals h next (map f (drop i xs)) ≡ own_signals h next (f x) ++ part_signals h (next + part_size h (f x)) rest =
    ap (λ l. part_signals h next (map f l)) (drop_more xs i x within) ∙ ap (λ y. own_signals h next (f y) ++ part_signals h (next + part_size h (f y)) rest) is in
    let sums = sum_cut f (part_size h) xs i x within is in (
      ap (λ v. v ++ part_signals h later rest) added
          ∙ append_assoc old (own_signals h next (f x)) (part_signals h later rest)
          ∙ ap (λ k. old ++ (own_signals h next (f x) ++ part_signals h k rest)) there
          ∙ ap (λ v. old ++ v) (sym cut)
          ∙ signals,
      omega (arith, there, sums, so_far),
    )

pub signals_done : {X : Type 0} (f : X → Part) (h : Hierarchy) (xs : List X) (i next : ℕ) (old all : List ℕ) → length xs ≤ i → old ++ part_signals h next (map f (drop i xs)) ≡ all → old ≡ all
signals_done f h xs i next old all within signals = sym (append-nil old) ∙ ap (λ l. old ++ part_signals h next (map f l)) (sym (drop_all i xs within)) ∙ signals
