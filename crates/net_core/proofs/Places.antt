-- What stands before a table in an order, and orders that still serve where one table is replaced.
use Rattle.std.proofs.Common.{◌≡◌, ℕ, zero, suc, ◌+◌, ◌<◌, ◌≤◌, List, [], ◌∷◌, ◌++◌, length, get_or, set, take, All, Contains, refl, sym, ap, subst, ◌∙◌, inl, inr, append_assoc, arith, get_or-take}
use Rattle.std.proofs.Common.{get_or-set_same, length-set}
use Rattle.std.specs.List.{AllByRecursion}
use Rattle.std.proofs.lemmas.Bool.{cases_eq, cases_lt}
use Rattle.std.proofs.lemmas.List.{append-nil, length-take, set-set, set-get_or}
use Rattle.std.proofs.lemmas.List.Elements.{All-weaker, All-set, Contains-get_or, recursion_from_All}
use Rattle.semantics.specs.Net.{TableValue, NetValue, table_at, no_table, input_count, table_count, IsTable, IsAcyclic}
use Rattle.semantics.specs.Order.{IsKnown, IsNext, IsOrderAfter, IsOrderOf}
use Rattle.semantics.specs.Replaced.{replaced, with_table}
use Rattle.semantics.proofs.Depends.{table_at-other}
use Rattle.net_core.specs.Built.{IsBuilt}
use Rattle.net_core.specs.Places.{IsKnownAt}
use Rattle.net_core.proofs.Changed.{IsBuilt-wired, IsWired-with_table}

-- table i stands at place x, and table t not before it, nor there
pub found_before : (order : List ℕ) (x t i : ℕ) → x < length order → get_or order x 0 ≡ i → (get_or order x 0 ≡ t → ⊥) → ((k : ℕ) → k < x → get_or order k 0 ≡ t → ⊥)
    → (k : ℕ) → k < length order → get_or order k 0 ≡ t → Contains (take k order) i
found_before order x t i low is other none k within at =
    elim (cases_lt k x) [
      | inl early ↦ absurd (none k early at)
      | inr late ↦ elim (cases_eq k x) [
        | inl same ↦ absurd (other (ap (λ m. get_or order m 0) (sym same) ∙ at))
        | inr differs ↦
            let inside : x < k = omega arith in
            subst (Contains (take k order)) (get_or-take k order x 0 inside ∙ is) (Contains-get_or (take k order) x 0 (omega (arith, length-take k order)))
      ]
    ]

module _ (n : ℕ) (tables : List TableValue) (t : ℕ) (made : TableValue) (within : t < length tables) where
  next-replaced : (before : List ℕ) (i : ℕ) → (i ≡ t → AllByRecursion (IsKnown n before) made.pins) → IsNext n tables before i → IsNext n (replaced tables t made) before i
  next-replaced before i known next = record {
    table = omega (arith, next.table, length-set tables t made);
    new = next.new;
    reads = elim (cases_eq i t) [
      | inl same ↦
          subst (λ (u : TableValue). AllByRecursion (IsKnown n before) u.pins) (sym (ap (table_at (replaced tables t made)) same ∙ get_or-set_same tables t made no_table within)) (known same)
      | inr other ↦ subst (λ (u : TableValue). AllByRecursion (IsKnown n before) u.pins) (sym (table_at-other tables t i made other)) next.reads
    ];
  }

  after-replaced : (before order : List ℕ) → ((k : ℕ) → k < length order → get_or order k 0 ≡ t → AllByRecursion (IsKnown n (before ++ take k order)) made.pins) → IsOrderAfter n tables before order
      → IsOrderAfter n (replaced tables t made) before order
  after-replaced before [] known h = tt
  after-replaced before (i ∷ order) known h = (
    next-replaced before i (λ same. subst (λ l. AllByRecursion (IsKnown n l) made.pins) (append-nil before) (known 0 (omega arith) same)) h.0,
    after-replaced (before ++ i ∷ []) order
        (λ k low at. subst (λ l. AllByRecursion (IsKnown n l) made.pins) (sym (append_assoc before (i ∷ []) (take k order))) (known (suc k) (omega arith) at)) h.1,
  )

  -- the order serves where all that the new table reads is known
  pub order-replaced : (order : List ℕ) → IsOrderOf n tables order → All (IsKnownAt n order t) made.pins → IsOrderOf n (replaced tables t made) order
  order-replaced order is known = record {
    all = λ i low. is.all i (omega (arith, low, length-set tables t made));
    in_turn = after-replaced [] order
        (λ k low at. recursion_from_All (IsKnown n (take k order)) made.pins (All-weaker (IsKnownAt n order t) (IsKnown n (take k order)) (λ s f. f k low at) made.pins known))
        is.in_turn;
  }

-- a net with one table replaced is a net of this crate
pub IsBuilt-with_table : (N : NetValue) (t : ℕ) (made : TableValue) → IsBuilt N → t < table_count N → IsTable made → made.name ≡ (table_at N.tables t).name
    → IsAcyclic (input_count N) (replaced N.tables t made) → IsBuilt (with_table N t made)
IsBuilt-with_table N t made built within formed same acyclic =
    IsBuilt-wired (with_table N t made) built.sound.model_named built.sound.inputs_named (All-set IsTable N.tables t made formed built.sound.tables_formed)
    (IsWired-with_table N (with_table N t made) t made within built same refl) acyclic

-- the exchanged net in code, where N is seen as M
pub exchanged : (N M : NetValue) (t : ℕ) (made : TableValue) (tables : List TableValue) → N ≡ M → IsBuilt N → t < table_count M → IsTable made → made.name ≡ (table_at M.tables t).name
    → IsAcyclic (input_count M) (replaced M.tables t made) → tables ≡ set N.tables t made → IsBuilt (record N { tables = tables })
exchanged N M t made tables same built within formed named acyclic is =
    subst (λ ts. IsBuilt (record N { tables = ts })) (sym is)
    (IsBuilt-with_table N t made built (subst (λ (K : NetValue). t < table_count K) (sym same) within) formed
    (subst (λ (K : NetValue). made.name ≡ (table_at K.tables t).name) (sym same) named)
    (subst (λ (K : NetValue). IsAcyclic (input_count K) (replaced K.tables t made)) (sym same) acyclic))

-- what is known by one reading of the parts is so by another
pub known_here : (n m t : ℕ) (order list pins signals : List ℕ) → m ≡ n → list ≡ order → signals ≡ pins → All (IsKnownAt m list t) signals → All (IsKnownAt n order t) pins
known_here n m t order list pins signals a b c h =
    subst (λ k. All (IsKnownAt k order t) pins) a (subst (λ l. All (IsKnownAt m l t) pins) b (subst (All (IsKnownAt m list t)) c h))

pub order_here : (n m : ℕ) (tables list : List TableValue) (order : List ℕ) → m ≡ n → list ≡ tables → IsOrderOf m list order → IsOrderOf n tables order
order_here n m tables list order a b h = subst (λ k. IsOrderOf k tables order) a (subst (λ ts. IsOrderOf m ts order) b h)

-- what was taken out is put back
pub put_back : {X : Type 0} (xs ys zs : List X) (i : ℕ) (x y : X) → x ≡ get_or xs i x → ys ≡ set xs i y → zs ≡ set ys i x → zs ≡ xs
put_back xs ys zs i x y taken put again = again ∙ ap (λ l. set l i x) put ∙ set-set xs i y x ∙ ap (set xs i) taken ∙ set-get_or xs i x
