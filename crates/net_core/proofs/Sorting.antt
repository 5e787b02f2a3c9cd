-- What each step of sorting keeps, and what it comes to.
use Rattle.std.proofs.Common.{◌≡◌, ◌≢◌, ◌↔◌, IsTrue, Some, inl, inr, ℕ, zero, suc, ◌+◌, ◌-◌, ◌<◌, ◌≤◌, Bool, true, false, List, [], ◌∷◌, ◌++◌, length, get_or, take, set, replicate, All, Contains}
use Rattle.std.proofs.Common.{refl, sym, ap, subst, ◌∙◌, true≢false, arith}
use Rattle.std.proofs.lemmas.Bool.{cases_eq, cases_lt}
use Rattle.std.proofs.lemmas.List.{get_or-set_same, get_or-set_other, length-set, length_push, get_or_append_left, set_past, get_or_past, get_or_read, get_or-replicate, length-replicate}
use Rattle.std.proofs.lemmas.List.Elements.{All-from_recursion, recursion_from_All, All-push, All-weaker, All-contains, Contains-push, Contains-push_cases, Contains-append_left, Contains-get_or}
use Rattle.std.proofs.lemmas.List.FromFn.{length-range_with_len, get_or-range_with_len}
use Rattle.std.proofs.lemmas.Grind.{get_or_default_zero}
use Rattle.std.proofs.Math.Nat.{add-sub_cancel_left}
use Rattle.std.specs.List.{AllByRecursion, range_with_len}
use Rattle.semantics.specs.Net.{TableValue, table_at, no_table, IsGroundedIn}
use Rattle.semantics.specs.Order.{IsKnown, IsOrderOf}
use Rattle.semantics.specs.Refusals.{first_ungrounded}
use Rattle.semantics.proofs.Ordered.{order-next, order-tables, order-at_most, order-grounded}
use Rattle.semantics.proofs.Grounding.{IsGroundedIn-later}
use Rattle.semantics.proofs.Refused.{first-ungrounded}
use Rattle.net_core.specs.Sorting.{Sorting, IsMarked, waiters_of, placed_at_end, waiting_for, without_waiters, IsFirstUnknown, IsSorting, Waits, IsSettled}

-- ---- marks

unmarked : (m i : ℕ) → get_or (replicate m false) i false ≡ false
unmarked m i = elim (cases_lt i m) [ inl low ↦ get_or-replicate m i false false low | inr high ↦ get_or_past (replicate m false) i false (rw length-replicate high) ]

pub IsMarked-none : (m : ℕ) → IsMarked [] (replicate m false)
IsMarked-none m i = ((λ h. absurd (true≢false (sym h ∙ unmarked m i))), (λ c. absurd (omega (arith, c.1))))

pub IsMarked-push : (order : List ℕ) (placed : List Bool) (i : ℕ) → i < length placed → IsMarked order placed → IsMarked (order ++ i ∷ []) (set placed i true)
IsMarked-push order placed i within m j =
    elim (cases_eq j i) [
      | inl e ↦ ((λ h. rw e (Contains-push order i)), (λ c. rw e (get_or-set_same placed i true false within)))
      | inr ne ↦ (
        (λ h. Contains-append_left order (i ∷ []) j ((m j).0 (sym (get_or-set_other placed i j true false ne) ∙ h))),
        (λ c. get_or-set_other placed i j true false ne ∙ elim (Contains-push_cases order i j c) [ inl old ↦ (m j).1 old | inr e ↦ absurd (ne (sym e)) ]),
      )
    ]

-- the mark that the code reads
pub marked_at : (order : List ℕ) (placed : List Bool) (i : ℕ) (bit : Bool) → IsMarked order placed → i < length placed → bit ≡ get_or placed i bit → IsTrue bit ↔ Contains order i
marked_at order placed i bit m within read =
    let is : bit ≡ get_or placed i false = get_or_read placed i bit within read false in
    ((λ t. (m i).0 (sym is ∙ t)), (λ c. is ∙ (m i).1 c))

-- ---- the order grows

known-kept : (n : ℕ) (before : List ℕ) (i s : ℕ) → IsKnown n before s → IsKnown n (before ++ i ∷ []) s
known-kept n before i s (inl low) = inl low
known-kept n before i s (inr c) = inr (Contains-append_left before (i ∷ []) (s - n) c)

pub IsSorting-placed : (n : ℕ) (tables : List TableValue) (S : Sorting) (i : ℕ) → IsSorting n tables S → i < length tables → (¬ Contains S.order i)
    → All (IsKnown n S.order) (table_at tables i).pins → IsSorting n tables (placed_at_end S i)
IsSorting-placed n tables S i h within new ready = record {
  size = h.size;
  in_turn = order-next n tables [] S.order i h.in_turn (record { table = within; new = new; reads = recursion_from_All (IsKnown n S.order) (table_at tables i).pins ready });
  ready = λ j. All-weaker (IsKnown n S.order) (IsKnown n (S.order ++ i ∷ [])) (known-kept n S.order i) (take (get_or S.checked j 0) (table_at tables j).pins) (h.ready j);
  waiting = h.waiting;
}

-- ---- lists of those that wait

-- one list replaced
IsSorting-listed : (n : ℕ) (tables : List TableValue) (S : Sorting) (t : ℕ) (w : List ℕ) → All (λ i. i < length tables) w → IsSorting n tables S
    → IsSorting n tables (record S { waiters = set S.waiters t w })
IsSorting-listed n tables S t w small h = record {
  size = length-set S.waiters t w ∙ h.size;
  in_turn = h.in_turn;
  ready = h.ready;
  waiting = λ u. elim (cases_eq u t) [
    | inl e ↦ elim (cases_lt t (length S.waiters)) [
      | inl low ↦ rw (e, get_or-set_same S.waiters t w [] low) small
      | inr high ↦ rw (set_past S.waiters t w high) (h.waiting u)
    ]
    | inr e ↦ rw (get_or-set_other S.waiters t u w [] e) (h.waiting u)
  ];
}

pub IsSorting-taken : (n : ℕ) (tables : List TableValue) (S : Sorting) (t : ℕ) → IsSorting n tables S → IsSorting n tables (without_waiters S t)
IsSorting-taken n tables S t h = IsSorting-listed n tables S t [] (λ k d short. absurd (omega arith)) h

pub IsSorting-waiting : (n : ℕ) (tables : List TableValue) (S : Sorting) (t i ready : ℕ) → i < length tables → All (IsKnown n S.order) (take ready (table_at tables i).pins) → IsSorting n tables S
    → IsSorting n tables (waiting_for S t i ready)
IsSorting-waiting n tables S t i ready within r h =
    let listed = IsSorting-listed n tables S t (waiters_of S t ++ i ∷ []) (All-push (λ j. j < length tables) (waiters_of S t) i (h.waiting t) within) h in
    record {
      size = listed.size;
      in_turn = h.in_turn;
      ready = λ j. elim (cases_eq j i) [
        | inl e ↦ elim (cases_lt i (length S.checked)) [
          | inl low ↦ rw (e, get_or-set_same S.checked i ready 0 low) r
          | inr high ↦ rw (set_past S.checked i ready high) (h.ready j)
        ]
        | inr e ↦ rw (get_or-set_other S.checked i j ready 0 e) (h.ready j)
      ];
      waiting = listed.waiting;
    }

-- ---- what is settled

in_rest : (i j : ℕ) (rest : List ℕ) → Contains (i ∷ rest) j → j ≢ i → Contains rest j
in_rest i j rest (zero, below, e) ne = absurd (ne (sym e))
in_rest i j rest (suc k, below, e) ne = (k, omega arith, e)

pub IsSettled-placed : (n : ℕ) (tables : List TableValue) (S : Sorting) (i head : ℕ) (rest : List ℕ) → IsSettled n tables S head (i ∷ rest) → IsSettled n tables (placed_at_end S i) head rest
IsSettled-placed n tables S i head rest h = record {
  so_far = omega (arith, length_push S.order i, h.so_far);
  settled = λ j within free.
      let was : ¬ Contains S.order j = λ c. free (Contains-append_left S.order (i ∷ []) j c) in
      let other : j ≢ i = λ e. free (subst (Contains (S.order ++ i ∷ [])) (sym e) (Contains-push S.order i)) in
      elim (h.settled j within was) [
        | inl w ↦ inl (record { on = w.on; within = w.within; listed = w.listed; read = w.read })
        | inr here ↦ inr (in_rest i j rest here other)
      ];
  emptied = λ k low.
      let short : k < length S.order = omega (arith, h.so_far) in
      rw (get_or_append_left S.order (i ∷ []) 0 k short) (h.emptied k low);
}

-- a table that waits goes on waiting when another table waits too
waiters-kept : (S : Sorting) (t i ready on j : ℕ) → Contains (waiters_of S on) j → Contains (waiters_of (waiting_for S t i ready) on) j
waiters-kept S t i ready on j h =
    elim (cases_eq on t) [
      | inl e ↦ elim (cases_lt t (length S.waiters)) [
        | inl low ↦ rw (e, get_or-set_same S.waiters t (waiters_of S t ++ i ∷ []) [] low)
            (Contains-append_left (waiters_of S t) (i ∷ []) j (subst (λ (o : ℕ). Contains (waiters_of S o) j) e h))
        | inr high ↦ rw (set_past S.waiters t (waiters_of S t ++ i ∷ []) high) h
      ]
      | inr e ↦ rw (get_or-set_other S.waiters t on (waiters_of S t ++ i ∷ []) [] e) h
    ]

IsSettled-waiting : (n : ℕ) (tables : List TableValue) (S : Sorting) (t i ready head : ℕ) (rest : List ℕ)
    → IsSorting n tables S → t < length tables → (¬ Contains S.order t) → Contains (table_at tables i).pins (n + t) → IsSettled n tables S head (i ∷ rest)
    → IsSettled n tables (waiting_for S t i ready) head rest
IsSettled-waiting n tables S t i ready head rest h within unplaced read s =
    let inside : t < length S.waiters = omega (arith, h.size) in
    record {
      so_far = s.so_far;
      settled = λ j small free. elim (cases_eq j i) [
        | inl e ↦ inl (record {
          on = t;
          within = within;
          listed = rw (e, get_or-set_same S.waiters t (waiters_of S t ++ i ∷ []) [] inside) (Contains-push (waiters_of S t) i);
          read = rw e read;
        })
        | inr e ↦ elim (s.settled j small free) [
          | inl w ↦ inl (record { on = w.on; within = w.within; listed = waiters-kept S t i ready w.on j w.listed; read = w.read })
          | inr here ↦ inr (in_rest i j rest here e)
        ]
      ];
      emptied = λ k low.
          let short : k < length S.order = omega (arith, s.so_far) in
          let other : get_or S.order k 0 ≢ t = λ e. unplaced (subst (Contains S.order) e (Contains-get_or S.order k 0 short)) in
          get_or-set_other S.waiters t (get_or S.order k 0) (waiters_of S t ++ i ∷ []) [] other ∙ s.emptied k low;
    }

-- a table waits for the table of its first pin that is not known
pub IsSettled-unknown : (n : ℕ) (tables : List TableValue) (S : Sorting) (i k : ℕ) (pins : List ℕ) → All (λ t. All (λ s. s < n + length tables) t.pins) tables → i < length tables
    → pins ≡ (table_at tables i).pins
    → IsSorting n tables S → IsFirstUnknown n S.order pins k → (head : ℕ) (rest : List ℕ) → IsSettled n tables S head (i ∷ rest)
    → IsSettled n tables (waiting_for S (get_or pins k 0 - n) i k) head rest
IsSettled-unknown n tables S i k pins all within e h f head rest s =
    let pin = get_or pins k 0 in
    let low : pin < n + length tables = subst (λ (ps : List ℕ). All (λ s. s < n + length tables) ps) (sym e) (all i no_table within) k 0 f.within in
    elim (cases_lt pin n) [
      | inl input ↦ absurd (f.unknown (inl input))
      | inr high ↦
          let same : pin ≡ n + (pin - n) = omega arith in
          IsSettled-waiting n tables S (pin - n) i k head rest h (omega arith) (λ c. f.unknown (inr c))
          (subst (λ (ps : List ℕ). Contains ps (n + (pin - n))) e (subst (Contains pins) same (Contains-get_or pins k 0 f.within))) s
    ]

-- a table that has a place is in hand no longer
pub IsSettled-skipped : (n : ℕ) (tables : List TableValue) (S : Sorting) (i head : ℕ) (rest : List ℕ) → Contains S.order i → IsSettled n tables S head (i ∷ rest) → IsSettled n tables S head rest
IsSettled-skipped n tables S i head rest placed h = record {
  so_far = h.so_far;
  settled = λ j within free. elim (h.settled j within free) [
    | inl w ↦ inl w
    | inr here ↦ inr (in_rest i j rest here (λ e. free (subst (Contains S.order) (sym e) placed)))
  ];
  emptied = h.emptied;
}

-- those that wait for the next member are taken in hand
pub IsSettled-taken : (n : ℕ) (tables : List TableValue) (S : Sorting) (head : ℕ) → IsSorting n tables S → head < length S.order → IsSettled n tables S head []
    → IsSettled n tables (without_waiters S (get_or S.order head 0)) (head + 1) (waiters_of S (get_or S.order head 0))
IsSettled-taken n tables S head h short s =
    let t = get_or S.order head 0 in
    let inside : t < length S.waiters = omega (arith, h.size, All-from_recursion (λ i. i < length tables) S.order (order-tables n tables [] S.order h.in_turn) head 0 short) in
    record {
      so_far = omega arith;
      settled = λ j small free. elim (s.settled j small free) [
        | inl w ↦ elim (cases_eq w.on t) [
          | inl e ↦ inr (subst (λ (o : ℕ). Contains (waiters_of S o) j) e w.listed)
          | inr e ↦ inl (record { on = w.on; within = w.within; listed = rw (get_or-set_other S.waiters t w.on [] [] e) w.listed; read = w.read })
        ]
        | inr here ↦ absurd (omega (arith, here.1))
      ];
      emptied = λ k low. elim (cases_eq (get_or S.order k 0) t) [
        | inl e ↦ rw (e, get_or-set_same S.waiters t [] [] inside) refl
        | inr e ↦
            get_or-set_other S.waiters t (get_or S.order k 0) [] [] e
            ∙ s.emptied k (elim (cases_lt k head) [ inl below ↦ below | inr same ↦ absurd (e (ap (λ (m : ℕ). get_or S.order m 0) (omega arith))) ])
      ];
    }

-- ---- the start

no_waiters : (m i : ℕ) → get_or {A = List ℕ} (replicate m []) i [] ≡ []
no_waiters m i = elim (cases_lt i m) [ inl low ↦ get_or-replicate m i [] [] low | inr high ↦ get_or_past (replicate m []) i [] (rw length-replicate high) ]

none_checked : (m i : ℕ) → get_or {A = ℕ} (replicate m 0) i 0 ≡ 0
none_checked m i = elim (cases_lt i m) [ inl low ↦ get_or-replicate m i 0 0 low | inr high ↦ get_or_past (replicate m 0) i 0 (rw length-replicate high) ]

pub IsSorting-start : (n : ℕ) (tables : List TableValue) (S : Sorting) → S ≡ record { order = []; waiters = replicate (length tables) []; checked = replicate (length tables) 0 } → IsSorting n tables S
IsSorting-start n tables S e = rw e (record {
  size = length-replicate (length tables) [];
  in_turn = tt;
  ready = λ i. rw (none_checked (length tables) i) (λ k d short. absurd (omega arith));
  waiting = λ t. rw (no_waiters (length tables) t) (λ k d short. absurd (omega arith));
})

-- all tables are in hand
pub IsSettled-start : (n : ℕ) (tables : List TableValue) (S : Sorting) (m : ℕ) → m ≡ length tables → IsSettled n tables S 0 (range_with_len 0 m)
IsSettled-start n tables S m same = record {
  so_far = omega arith;
  settled = λ i within free. let low : i < m = omega arith in inr (i, rw length-range_with_len low, get_or-range_with_len 0 m i i low ∙ omega arith);
  emptied = λ k low. absurd (omega arith);
}

-- ---- the end

-- there are no more places than tables
pub order-le : (n : ℕ) (tables : List TableValue) (S : Sorting) → IsSorting n tables S → length S.order ≤ length tables
order-le n tables S h = order-at_most n tables S.order h.in_turn

member-grounded : (n : ℕ) (tables : List TableValue) (S : Sorting) → IsSorting n tables S → (i : ℕ) → Contains S.order i → IsGroundedIn n tables (length tables) (n + i)
member-grounded n tables S h i c =
    let none : ((j : ℕ) → Contains {X = ℕ} [] j → IsGroundedIn n tables 0 (n + j)) = λ j d. absurd (omega (arith, d.1)) in
    let sum : (length tables - length S.order) + (0 + length S.order) ≡ length tables = omega (arith, order-le n tables S h) in
    subst (λ m. IsGroundedIn n tables m (n + i)) sum
    (IsGroundedIn-later n tables (length tables - length S.order) (0 + length S.order) (n + i) (order-grounded n tables [] S.order 0 h.in_turn none i c))

-- what a table waits for has no place either
waits_for_free : (n : ℕ) (tables : List TableValue) (S : Sorting) → IsSettled n tables S (length S.order) [] → (i : ℕ) (w : Waits n tables S i) → ¬ Contains S.order w.on
waits_for_free n tables S s i w placed =
    let same : get_or S.order placed.0 0 ≡ w.on = sym (get_or_default_zero S.order placed.0 w.on placed.1) ∙ placed.2 in
    let empty : waiters_of S w.on ≡ [] = subst (λ (t : ℕ). waiters_of S t ≡ []) same (s.emptied placed.0 placed.1) in
    let short : w.listed.0 < length (waiters_of S w.on) = w.listed.1 in
    absurd (omega (arith, ap length empty, short))

not_grounded : (n : ℕ) (tables : List TableValue) (S : Sorting) → IsSettled n tables S (length S.order) [] → (steps i : ℕ) → i < length tables → (¬ Contains S.order i)
    → ¬ IsGroundedIn n tables steps (n + i)
not_grounded n tables S s zero i within free g = omega (arith, g)
not_grounded n tables S s (suc steps) i within free (inl low) = omega (arith, low)
not_grounded n tables S s (suc steps) i within free (inr (bound, pins)) =
    elim (s.settled i within free) [
      | inr here ↦ omega (arith, here.1)
      | inl w ↦
          let all = All-from_recursion (IsGroundedIn n tables steps) (table_at tables i).pins
          (subst (λ (u : ℕ). AllByRecursion (IsGroundedIn n tables steps) (table_at tables u).pins) (add-sub_cancel_left n i) pins) in
          not_grounded n tables S s steps w.on w.within (waits_for_free n tables S s i w)
          (All-contains (IsGroundedIn n tables steps) (table_at tables i).pins (n + w.on) all w.read)
    ]

pub first_free : (n : ℕ) (tables : List TableValue) (S : Sorting) (i : ℕ) → IsSorting n tables S → IsSettled n tables S (length S.order) []
    → i < length tables → (¬ Contains S.order i) → ((j : ℕ) → j < i → Contains S.order j) → first_ungrounded n tables ≡ Some i
first_free n tables S i h s within free before =
    first-ungrounded n tables i (record {
      within = within;
      ungrounded = not_grounded n tables S s (length tables) i within free;
      before = λ j low. member-grounded n tables S h j (before j low);
    })

pub all_placed : (n : ℕ) (tables : List TableValue) (S : Sorting) → IsSorting n tables S → ((i : ℕ) → i < length tables → Contains S.order i) → IsOrderOf n tables S.order
all_placed n tables S h all = record { all = all; in_turn = h.in_turn }

-- ---- as the code has it

-- the pins that the code reads are those of the table
pub pins_of : (tables : List TableValue) (i : ℕ) (t : TableValue) (pins slice : List ℕ) → i < length tables → t ≡ get_or tables i t → pins ≡ t.pins → slice ≡ pins → slice ≡ (table_at tables i).pins
pins_of tables i t pins slice within read e f = f ∙ e ∙ ap (λ (u : TableValue). u.pins) (get_or_read tables i t within read no_table)

pub range-next : (i m : ℕ) → i < m → range_with_len i (m - i) ≡ i ∷ range_with_len (i + 1) (m - (i + 1))
range-next i m low = let e : m - i ≡ suc (m - (i + 1)) = omega arith in ap (range_with_len i) e
