-- Clauses in the order of their ids, and as a finite map.
use Rattle.std.proofs.Common.{◌≡◌, ℕ, zero, suc, ◌+◌, ◌<◌, ◌≤◌, true, false, cond, List, [], ◌∷◌, ◌++◌, length, get_or, set, refl, ap, subst, sym, ◌∙◌, inl, inr, arith, Option, None, Some}
use Rattle.std.specs.Prelude.{filter, is_some}
use Rattle.std.specs.List.{AllPairs}
use Rattle.std.specs.Ordering.{nat_cmp, eq_by_cmp, is_eq}
use Rattle.std.specs.Cmp.{nat_cmp_total}
use Rattle.std.specs.FinMap as map
use Rattle.std.specs.FinMap.{find, get-from_entries, get-insert, get-remove, same_map, nat_cmp-IsAntisymmetric}
use Rattle.std.proofs.lemmas.Bool.{cases_lt}
use Rattle.std.proofs.lemmas.Bool.Decides.{nat_tests, eqb_tells}
use Rattle.std.proofs.lemmas.List.{get_or-set_same, get_or-set_other, get_or_append_left, get_or_push, get_or_default, length_push, length-set}
use Rattle.std.proofs.lemmas.List.Kept.{AllPairs-filter}
use Rattle.std.proofs.lemmas.List.Quantifiers.{all_pairs_push}
use Rattle.std.proofs.lemmas.List.Elements.{All-filter}
use Rattle.proof_semantics.specs.Clauses.{Clause}
use Rattle.proof_semantics.specs.Logs.{Held}
use Rattle.lrat_check.specs.declared.held_clauses.Entry.{Entry}
use Rattle.lrat_check.specs.HeldEntries.{IsBefore, with_entry, held_entries, held_in, without_clause, AreInOrder, IsPlaceOf}

is_key : (q id : ℕ) → id ≡ q → is_eq (nat_cmp q id) ≡ true
is_key q id e = grind (arith, nat_tests)

no_key : (q id : ℕ) → (id ≡ q → ⊥) → is_eq (nat_cmp q id) ≡ false
no_key q id differ = grind (arith, nat_tests)

same_key : (k q : ℕ) → is_eq (nat_cmp k q) ≡ eq_by_cmp nat_cmp q k
same_key k q = grind (arith, nat_tests)

-- ---- what is found in the entries

skip : (id : ℕ) (clause : Option Clause) (rest : List (ℕ × Clause)) (q : ℕ) → (id ≡ q → ⊥) → find nat_cmp q (with_entry id clause rest) ≡ find nat_cmp q rest
skip id None rest q differ = refl
skip id (Some c) rest q differ = ap (λ b. cond b (Some c) (find nat_cmp q rest)) (no_key q id differ)

here : (id : ℕ) (clause : Option Clause) (rest : List (ℕ × Clause)) (q : ℕ) → id ≡ q → find nat_cmp q rest ≡ None → find nat_cmp q (with_entry id clause rest) ≡ clause
here id None rest q is none = none
here id (Some c) rest q is none = ap (λ b. cond b (Some c) (find nat_cmp q rest)) (is_key q id is)

under : (id : ℕ) (clause : Option Clause) (rest other : List (ℕ × Clause)) (q : ℕ) → find nat_cmp q rest ≡ find nat_cmp q other
    → find nat_cmp q (with_entry id clause rest) ≡ find nat_cmp q (with_entry id clause other)
under id None rest other q e = e
under id (Some c) rest other q e = ap (cond (is_eq (nat_cmp q id)) (Some c)) e

none_found : (es : List Entry) (q : ℕ) → ((i : ℕ) (d : Entry) → i < length es → (get_or es i d).id ≡ q → ⊥) → find nat_cmp q (held_entries es) ≡ None
none_found [] q other = refl
none_found (e ∷ es) q other = skip e.id e.clause (held_entries es) q (other 0 e (omega arith)) ∙ none_found es q (λ i d within. other (suc i) d (omega (arith, within)))

later : (e : Entry) (es : List Entry) → AllPairs IsBefore (e ∷ es) → AllPairs IsBefore es
later e es rising i j d lt within = rising (suc i) (suc j) d (omega (arith, lt)) (omega (arith, within))

found : (es : List Entry) (i : ℕ) (d : Entry) (q : ℕ) → AllPairs IsBefore es → i < length es → (get_or es i d).id ≡ q → find nat_cmp q (held_entries es) ≡ (get_or es i d).clause
found [] i d q rising within is = absurd (omega (arith, within))
found (e ∷ es) zero d q rising within is =
    here e.id e.clause (held_entries es) q is
    (none_found es q (λ j c inside same. let before : e.id < (get_or es j c).id = rising 0 (suc j) c (omega arith) (omega (arith, inside)) in omega (arith, before, is, same)))
found (e ∷ es) (suc i) d q rising within is =
    let before : e.id < (get_or es i d).id = rising 0 (suc i) d (omega arith) within in
    skip e.id e.clause (held_entries es) q (λ same. omega (arith, before, same, is)) ∙ found es i d q (later e es rising) (omega (arith, within)) is

found_other : (es : List Entry) (i : ℕ) (d x : Entry) (q : ℕ) → i < length es → x.id ≡ (get_or es i d).id → (x.id ≡ q → ⊥)
    → find nat_cmp q (held_entries (set es i x)) ≡ find nat_cmp q (held_entries es)
found_other [] i d x q within same differ = absurd (omega (arith, within))
found_other (e ∷ es) zero d x q within same differ =
    skip x.id x.clause (held_entries es) q differ ∙ sym (skip e.id e.clause (held_entries es) q (λ is. differ (same ∙ is)))
found_other (e ∷ es) (suc i) d x q within same differ =
    under e.id e.clause (held_entries (set es i x)) (held_entries es) q (found_other es i d x q (omega (arith, within)) same differ)

found_pushed : (es : List Entry) (x : Entry) (q : ℕ) → (x.id ≡ q → ⊥) → find nat_cmp q (held_entries (es ++ x ∷ [])) ≡ find nat_cmp q (held_entries es)
found_pushed [] x q differ = skip x.id x.clause [] q differ
found_pushed (e ∷ es) x q differ = under e.id e.clause (held_entries (es ++ x ∷ [])) (held_entries es) q (found_pushed es x q differ)

-- ---- the map

held_in-get : (es : List Entry) (q : ℕ) → map.get (held_in es) q ≡ find nat_cmp q (held_entries es)
held_in-get es q = get-from_entries nat_cmp_total (held_entries es) q

pub get_found : (es : List Entry) (last id place : ℕ) (d : Entry) → AreInOrder es last → IsPlaceOf es id (Some place) → map.get (held_in es) id ≡ (get_or es place d).clause
get_found es last id place d order (within, is) = held_in-get es id ∙ found es place d id order.rising within (is d)

pub get_none : (es : List Entry) (id : ℕ) → IsPlaceOf es id None → map.get (held_in es) id ≡ None
get_none es id other = held_in-get es id ∙ none_found es id other

-- a map whose entries say at each id what the other's say, but for one id
changed : (m n : Held) (id : ℕ) (value : Option Clause) → map.get n id ≡ value → ((q : ℕ) → (id ≡ q → ⊥) → map.get n q ≡ map.get m q)
    → (q : ℕ) → map.get n q ≡ cond (eq_by_cmp nat_cmp q id) value (map.get m q)
changed m n id value at_id other q = elim (eqb_tells id q) [
  | inl same ↦ ap (map.get n) (sym same.1) ∙ at_id ∙ sym (ap (λ b. cond b value (map.get m q)) (sym (same_key id q) ∙ is_key id q (sym same.1)))
  | inr differ ↦ other q differ.1 ∙ sym (ap (λ b. cond b value (map.get m q)) (sym (same_key id q) ∙ no_key id q (λ e. differ.1 (sym e))))
]

pub removed_none : (es : List Entry) (id : ℕ) → IsPlaceOf es id None → held_in es ≡ map.remove (held_in es) id
removed_none es id other = same_map nat_cmp_total nat_cmp-IsAntisymmetric (held_in es) (map.remove (held_in es) id) (λ q.
    changed (held_in es) (held_in es) id None (get_none es id other) (λ k differ. refl) q ∙ sym (get-remove nat_cmp_total (held_in es) id q))

-- the entries without the clause of one of them
module _ (es : List Entry) (last id place : ℕ) (d : Entry) (order : AreInOrder es last) (is_place : IsPlaceOf es id (Some place)) where
  abbrev pub left : Entry
  left = without_clause (get_or es place d)

  abbrev pub without : List Entry
  without = set es place left

  same_id : (j : ℕ) (c : Entry) → j < length es → (get_or without j c).id ≡ (get_or es j c).id
  same_id j c within = elim (eqb_tells j place) [
    | inl same ↦
        ap (λ k. (get_or without k c).id) same.1 ∙ ap (λ (e : Entry). e.id) (get_or-set_same es place left c is_place.0)
        ∙ is_place.1 d ∙ sym (is_place.1 c) ∙ ap (λ k. (get_or es k c).id) (sym same.1)
    | inr differ ↦ ap (λ (e : Entry). e.id) (get_or-set_other es place j left c differ.1)
  ]

  long : length without ≡ length es
  long = length-set es place left

  pub order_without : AreInOrder without last
  order_without = record {
    rising = λ i j c lt within.
        let inside : j < length es = omega (arith, within, long) in
        omega (arith, order.rising i j c lt inside, same_id i c (omega (arith, lt, inside)), same_id j c inside);
    within = λ i c within. let inside : i < length es = omega (arith, within, long) in omega (arith, order.within i c inside, same_id i c inside);
  }

  pub removed_found : held_in without ≡ map.remove (held_in es) id
  removed_found = same_map nat_cmp_total nat_cmp-IsAntisymmetric (held_in without) (map.remove (held_in es) id) (λ q.
      changed (held_in es) (held_in without) id None
      (held_in-get without id ∙ found without place d id order_without.rising (omega (arith, is_place.0, long)) (same_id place d is_place.0 ∙ is_place.1 d) ∙ ap (λ (e : Entry). e.clause)
      (get_or-set_same es place left d is_place.0))
      (λ k differ. held_in-get without k ∙ found_other es place d left k is_place.0 refl (λ e. differ (sym (is_place.1 d) ∙ e)) ∙ sym (held_in-get es k))
      q
      ∙ sym (get-remove nat_cmp_total (held_in es) id q))

-- one more entry
module _ (es : List Entry) (last : ℕ) (x : Entry) (clause : Clause) (order : AreInOrder es last) (after : last < x.id) (is : x.clause ≡ Some clause) where
  abbrev pub more : List Entry
  more = es ++ x ∷ []

  pub order_pushed : AreInOrder more x.id
  order_pushed = record {
    rising = all_pairs_push IsBefore es x order.rising (λ k c within. omega (arith, order.within k c within, after));
    within = λ i c within. elim (cases_lt i (length es)) [
      | inl inside ↦ omega (arith, order.within i c inside, ap (λ (e : Entry). e.id) (get_or_append_left es (x ∷ []) c i inside), after)
      | inr past ↦ omega (arith, ap (λ (e : Entry). e.id) (get_or_push es x c i (omega (arith, past, within, length_push es x))))
    ];
  }

  pub inserted : held_in more ≡ map.insert (held_in es) x.id clause
  inserted = same_map nat_cmp_total nat_cmp-IsAntisymmetric (held_in more) (map.insert (held_in es) x.id clause) (λ q.
      changed (held_in es) (held_in more) x.id (Some clause)
      (held_in-get more x.id ∙ found more (length es) x x.id order_pushed.rising (omega (arith, length_push es x)) (ap (λ (e : Entry). e.id) (get_or_push es x x (length es) refl))
      ∙ ap (λ (e : Entry). e.clause) (get_or_push es x x (length es) refl) ∙ is)
      (λ k differ. held_in-get more k ∙ found_pushed es x k differ ∙ sym (held_in-get es k))
      q
      ∙ sym (get-insert nat_cmp_total (held_in es) x.id clause q))

-- the entries that have a clause
at_clause : (e : Entry) (rest : List Entry) (c : Option Clause) → e.clause ≡ c → held_entries (cond (is_some e.clause) (e ∷ rest) rest) ≡ with_entry e.id e.clause (held_entries rest)
at_clause e rest None is = ap (λ o. held_entries (cond (is_some o) (e ∷ rest) rest)) is ∙ sym (ap (λ o. with_entry e.id o (held_entries rest)) is)
at_clause e rest (Some c) is = ap (λ o. held_entries (cond (is_some o) (e ∷ rest) rest)) is

held_left : (es : List Entry) → held_entries (filter (λ (e : Entry). is_some e.clause) es) ≡ held_entries es
held_left [] = refl
held_left (e ∷ es) = at_clause e (filter (λ (x : Entry). is_some x.clause) es) e.clause refl ∙ ap (with_entry e.id e.clause) (held_left es)

pub held_in_left : (es : List Entry) → held_in (filter (λ (e : Entry). is_some e.clause) es) ≡ held_in es
held_in_left es = ap map.from_entries (held_left es)

pub order_left : (es : List Entry) (last : ℕ) → AreInOrder es last → AreInOrder (filter (λ (e : Entry). is_some e.clause) es) last
order_left es last order = record {
  rising = AllPairs-filter IsBefore (λ (e : Entry). is_some e.clause) es order.rising;
  within = All-filter (λ (e : Entry). is_some e.clause) (λ e. e.id ≤ last) es order.within;
}

-- ---- the search by halves

pub record IsBetween (es : List Entry) (id low high : ℕ) : Type 0 where
  pub ordered : low ≤ high
  pub long : high ≤ length es
  pub below : (i : ℕ) (d : Entry) → i < low → (get_or es i d).id < id
  pub above : (i : ℕ) (d : Entry) → high ≤ i → i < length es → id < (get_or es i d).id

-- an entry that was read, whatever stands for none
at_default : (es : List Entry) (i : ℕ) (x d : Entry) (id : ℕ) (P : ℕ → Type 0) → i < length es → x ≡ get_or es i x → P x.id → P (get_or es i d).id
at_default es i x d id P within is h = subst (λ (e : Entry). P e.id) (is ∙ get_or_default es i x d within) h

pub whole_range : (es : List Entry) (id : ℕ) → IsBetween es id 0 (length es)
whole_range es id = record { ordered = omega arith; long = omega arith; below = λ i d lt. absurd (omega (arith, lt)); above = λ i d le lt. absurd (omega (arith, le, lt)) }

pub range_above : (es : List Entry) (id low high middle : ℕ) → AllPairs IsBefore es → IsBetween es id low high → low ≤ middle → middle < high → (x : Entry) → x ≡ get_or es middle x → x.id < id
    → IsBetween es id (middle + 1) high
range_above es id low high middle rising b from to x is under_id = let less = λ (d : Entry). at_default es middle x d id (λ n. n < id) (omega (arith, to, b.long)) is under_id in record {
  ordered = omega (arith, to);
  long = b.long;
  below = λ i d lt. elim (cases_lt i middle) [
    | inl before ↦ omega (arith, rising i middle d before (omega (arith, to, b.long)), less d)
    | inr past ↦ let same : i ≡ middle = omega (arith, lt, past) in subst (λ k. (get_or es k d).id < id) (sym same) (less d)
  ];
  above = b.above;
}

pub range_below : (es : List Entry) (id low high middle : ℕ) → AllPairs IsBefore es → IsBetween es id low high → low ≤ middle → middle < high → (x : Entry) → x ≡ get_or es middle x → id < x.id
    → IsBetween es id low middle
range_below es id low high middle rising b from to x is over_id = let more = λ (d : Entry). at_default es middle x d id (λ n. id < n) (omega (arith, to, b.long)) is over_id in record {
  ordered = from;
  long = omega (arith, to, b.long);
  below = b.below;
  above = λ i d le within. elim (cases_lt middle i) [
    | inl behind ↦ omega (arith, rising middle i d behind within, more d)
    | inr past ↦ let same : i ≡ middle = omega (arith, le, past) in subst (λ k. id < (get_or es k d).id) (sym same) (more d)
  ];
}

pub none_between : (es : List Entry) (id low high : ℕ) → IsBetween es id low high → high ≤ low → IsPlaceOf es id None
none_between es id low high b empty i d within same = elim (cases_lt i low) [
  | inl before ↦ omega (arith, b.below i d before, same)
  | inr past ↦ omega (arith, b.above i d (omega (arith, past, empty)) within, same)
]
