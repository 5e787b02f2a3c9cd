-- Marks go on to what a marked place names.
use Rattle.std.proofs.Common.{◌≡◌, ℕ, suc, ◌+◌, ◌<◌, ◌≤◌, Bool, true, false, List, [], ◌∷◌, ◌++◌, length, get_or, take, set, refl, ap, subst, sym, ◌∙◌, inl, inr, arith}
use Rattle.std.specs.Prelude.{◌↔◌, ◌⊎◌}
use Rattle.std.specs.List.{Contains}
use Rattle.std.proofs.lemmas.Bool.{cases_lt, cases_eq}
use Rattle.std.proofs.lemmas.List.{take_more, length-set, get_or-set_same, get_or-set_other, get_or_past, get_or_read}
use Rattle.std.proofs.lemmas.List.Elements.{Contains-append_left, Contains-push, Contains-push_cases}
use Rattle.proof_semantics.specs.declared.item.Item.TheVariants.{Remove}
use Rattle.proof_semantics.specs.Formula.{Formula}
use Rattle.proof_semantics.specs.Logs.{LogItem, IsDerivation}
use Rattle.needed_log.specs.Needed.{hints_at, hints_of}
use Rattle.needed_log.specs.Kept.{IsMarked}
use Rattle.needed_log.specs.Marks.{AreFirstMarks, AreMarked, AreMarkedToo}
use Rattle.needed_log.proofs.Steps.{hint_before}

-- ---- the hints of one step

pub too_none : (clauses : ℕ) (hints : List ℕ) (marks : List Bool) → AreMarkedToo clauses (take 0 hints) marks marks
too_none clauses hints marks = record { count = refl; exactly = λ k low. (inl, λ h. elim h [ inl m ↦ m | inr named ↦ absurd (let bad = named.1 in omega (arith, bad)) ]) }

module _ (clauses : ℕ) (hints : List ℕ) (i : ℕ) (old now : List Bool) (within : i < length hints) (h : AreMarkedToo clauses (take i hints) old now) where
  more : take (i + 1) hints ≡ take i hints ++ get_or hints i 0 ∷ []
  more = take_more hints i 0 within

  -- a clause of the formula
  pub too_passed : (hint : ℕ) → hint ≡ get_or hints i 0 → hint ≤ clauses → AreMarkedToo clauses (take (i + 1) hints) old now
  too_passed hint is low = record { count = h.count; exactly = exactly } where
    exactly : (k : ℕ) → k < length old → IsMarked now k ↔ (IsMarked old k ⊎ Contains (take (i + 1) hints) (clauses + 1 + k))
    exactly k inside = (forth, back) where
      forth : IsMarked now k → IsMarked old k ⊎ Contains (take (i + 1) hints) (clauses + 1 + k)
      forth m = elim ((h.exactly k inside).0 m) [
        | inl before ↦ inl before
        | inr named ↦ inr (subst (λ ids. Contains ids (clauses + 1 + k)) (sym more) (Contains-append_left (take i hints) (get_or hints i 0 ∷ []) (clauses + 1 + k) named))
      ]

      back : IsMarked old k ⊎ Contains (take (i + 1) hints) (clauses + 1 + k) → IsMarked now k
      back (inl before) = (h.exactly k inside).1 (inl before)
      back (inr named) = elim (Contains-push_cases (take i hints) (get_or hints i 0) (clauses + 1 + k) (subst (λ ids. Contains ids (clauses + 1 + k)) more named)) [
        | inl earlier ↦ (h.exactly k inside).1 (inr earlier)
        | inr same ↦ absurd (omega (arith, is, same, low))
      ]

  -- an addition
  pub too_marked : (hint j : ℕ) → hint ≡ get_or hints i 0 → hint ≡ clauses + 1 + j → j < length now → AreMarkedToo clauses (take (i + 1) hints) old (set now j true)
  too_marked hint j is at low = record { count = length-set now j true ∙ h.count; exactly = exactly } where
    exactly : (k : ℕ) → k < length old → IsMarked (set now j true) k ↔ (IsMarked old k ⊎ Contains (take (i + 1) hints) (clauses + 1 + k))
    exactly k inside = (forth, back) where
      other : ¬ (k ≡ j) → get_or (set now j true) k false ≡ get_or now k false
      other apart = get_or-set_other now j k true false apart

      kept_mark : IsMarked now k → IsMarked (set now j true) k
      kept_mark m = elim (cases_eq k j) [
        | inl same ↦ rw same (get_or-set_same now j true false low)
        | inr apart ↦ other apart ∙ m
      ]

      forth : IsMarked (set now j true) k → IsMarked old k ⊎ Contains (take (i + 1) hints) (clauses + 1 + k)
      forth m = elim (cases_eq k j) [
        | inl same ↦
            let here : get_or hints i 0 ≡ clauses + 1 + k = omega (arith, is, at, same) in
            inr (subst (λ ids. Contains ids (clauses + 1 + k)) (sym more) (subst (λ id. Contains (take i hints ++ get_or hints i 0 ∷ []) id) here (Contains-push (take i hints) (get_or hints i 0))))
        | inr apart ↦ elim ((h.exactly k inside).0 (sym (other apart) ∙ m)) [
          | inl before ↦ inl before
          | inr named ↦ inr (subst (λ ids. Contains ids (clauses + 1 + k)) (sym more) (Contains-append_left (take i hints) (get_or hints i 0 ∷ []) (clauses + 1 + k) named))
        ]
      ]

      back : IsMarked old k ⊎ Contains (take (i + 1) hints) (clauses + 1 + k) → IsMarked (set now j true) k
      back (inl before) = kept_mark ((h.exactly k inside).1 (inl before))
      back (inr named) = elim (Contains-push_cases (take i hints) (get_or hints i 0) (clauses + 1 + k) (subst (λ ids. Contains ids (clauses + 1 + k)) more named)) [
        | inl earlier ↦ kept_mark ((h.exactly k inside).1 (inr earlier))
        | inr same ↦ let here : k ≡ j = omega (arith, is, at, same) in rw here (get_or-set_same now j true false low)
      ]

-- ---- places from the last to the first ones

pub marked_none : (clauses first : ℕ) (log : List LogItem) (marks : List Bool) → first ≤ length log → 0 < length log → AreFirstMarks first (length log) marks
    → AreMarked clauses first (length log) log marks
marked_none clauses first log marks within some h = record {
  count = h.count;
  early = λ k low. (h.exactly k (omega (arith, low, within))).1 (inl low);
  last = λ k e. (h.exactly k (omega (arith, e))).1 (inr e);
  closed = λ k q high low inside m named. absurd (omega (arith, high, low));
  needed = λ k high low m. elim ((h.exactly k (omega (arith, low))).0 m) [
    | inl early ↦ absurd (omega (arith, early, high))
    | inr end ↦ absurd (omega (arith, end, low))
  ];
}

pub marked_unmarked : (clauses first place next : ℕ) (log : List LogItem) (marks : List Bool) → next ≡ suc place → get_or marks place false ≡ false
    → AreMarked clauses first next log marks → AreMarked clauses first place log marks
marked_unmarked clauses first place next log marks e none h = record {
  count = h.count;
  early = h.early;
  last = h.last;
  closed = λ k q high low inside m named. elim (cases_eq k place) [
    | inl same ↦ absurd (let bad : false ≡ true = sym none ∙ ap (λ p. get_or marks p false) (sym same) ∙ m in let no : ⊥ = cc in no)
    | inr apart ↦ h.closed k q (omega (arith, high, apart, e)) low inside m named
  ];
  needed = λ k high low m. let found = h.needed k high low m in let from = found.2 in (found.0, found.1, omega (arith, from, e), found.3, found.4, found.5);
}

marked_named : (f : Formula) (first place next : ℕ) (log : List LogItem) (old new : List Bool) → IsDerivation f log → next ≡ suc place → place < length log
    → IsMarked old place → AreMarkedToo (length f.clauses) (hints_at log place) old new
    → AreMarked (length f.clauses) first next log old → AreMarked (length f.clauses) first place log new
marked_named f first place next log old new d e within here too h = record {
  count = too.count ∙ h.count;
  early = λ k low. elim (cases_lt k (length old)) [
    | inl inside ↦ stays k inside (h.early k low)
    | inr out ↦ absurd (none_out k out (h.early k low))
  ];
  last = λ k end. stays k (omega (arith, end, count)) (h.last k end);
  closed = closed;
  needed = needed;
} where
  count : length old ≡ length log
  count = h.count

  stays : (k : ℕ) → k < length old → IsMarked old k → IsMarked new k
  stays k inside m = (too.exactly k inside).1 (inl m)

  none_out : (k : ℕ) → length old ≤ k → ¬ IsMarked old k
  none_out k out m = let past : get_or old k false ≡ false = get_or_past old k false out in let no : ⊥ = cc in no

  closed : (k q : ℕ) → place ≤ k → k < length log → q < length log → IsMarked new k → Contains (hints_at log k) (length f.clauses + 1 + q) → IsMarked new q
  closed k q high low inside m named = elim (cases_eq k place) [
    | inl same ↦ (too.exactly q (omega (arith, inside, count))).1 (inr (subst (λ p. Contains (hints_at log p) (length f.clauses + 1 + q)) same named))
    | inr apart ↦ elim ((too.exactly k (omega (arith, low, count))).0 m) [
      | inl before ↦ stays q (omega (arith, inside, count)) (h.closed k q (omega (arith, high, apart, e)) low inside before named)
      | inr other ↦ absurd (let early = hint_before f log place (length f.clauses + 1 + k) d within other in omega (arith, early, high))
    ]
  ]

  needed : (k : ℕ) → first ≤ k → k + 1 < length log → IsMarked new k
      → (j : ℕ) × (k < j) × (place ≤ j) × (j < length log) × IsMarked new j × Contains (hints_at log j) (length f.clauses + 1 + k)
  needed k high low m = elim ((too.exactly k (omega (arith, low, count))).0 m) [
    | inl before ↦
        let found = h.needed k high low before in
        let from = found.2 in
        let inside = found.3 in
        (found.0, found.1, omega (arith, from, e), found.3, stays found.0 (omega (arith, inside, count)) found.4, found.5)
    | inr named ↦
        let early = hint_before f log place (length f.clauses + 1 + k) d within named in
        (place, omega (arith, early), omega arith, within, stays place (omega (arith, within, count)) here, named)
  ]

-- the first places need no look: their hints stand before them
marked_all : (f : Formula) (first : ℕ) (log : List LogItem) (marks : List Bool) → IsDerivation f log → AreMarked (length f.clauses) first first log marks
    → AreMarked (length f.clauses) first 0 log marks
marked_all f first log marks d h = record {
  count = h.count;
  early = h.early;
  last = h.last;
  closed = λ k q high low inside m named. elim (cases_lt k first) [
    | inl early ↦ h.early q (let before = hint_before f log k (length f.clauses + 1 + q) d low named in omega (arith, before, early))
    | inr late ↦ h.closed k q late low inside m named
  ];
  needed = λ k high low m. let found = h.needed k high low m in (found.0, found.1, omega arith, found.3, found.4, found.5);
}

-- ---- with what the code read

pub read_mark : (marks : List Bool) (k : ℕ) (mark value : Bool) → k < length marks → mark ≡ get_or marks k mark → mark ≡ value → get_or marks k false ≡ value
read_mark marks k mark value within is e = sym (get_or_read marks k mark within is false) ∙ e

pub marked_step : (f : Formula) (first place next clauses : ℕ) (log : List LogItem) (item : LogItem) (hints : List ℕ) (old slice new : List Bool) → IsDerivation f log
    → clauses ≡ length f.clauses → next ≡ suc place → next ≤ length log → item ≡ get_or log place item → hints ≡ hints_of item → slice ≡ old → IsMarked old place
    → AreMarkedToo clauses hints slice new → AreMarked clauses first next log old → AreMarked clauses first place log new
marked_step f first place next clauses log item hints old slice new d count e within is named same here too h =
    let inside : place < length log = omega (arith, e, within) in
    let hints_is : hints ≡ hints_at log place = named ∙ ap hints_of (get_or_read log place item inside is (Remove [])) in
    let too_is : AreMarkedToo (length f.clauses) (hints_at log place) old new =
    subst (λ n. AreMarkedToo n (hints_at log place) old new) count
    (subst (λ ids. AreMarkedToo clauses ids old new) hints_is (subst (λ marks. AreMarkedToo clauses hints marks new) same too)) in
    subst (λ n. AreMarked n first place log new) (sym count)
    (marked_named f first place next log old new d e inside here too_is (subst (λ n. AreMarked n first next log old) count h))

pub marked_end : (f : Formula) (first place clauses : ℕ) (log : List LogItem) (marks : List Bool) → IsDerivation f log → clauses ≡ length f.clauses → place ≡ first
    → AreMarked clauses first place log marks → AreMarked (length f.clauses) first 0 log marks
marked_end f first place clauses log marks d count e h =
    marked_all f first log marks d (subst (λ n. AreMarked n first first log marks) count (subst (λ p. AreMarked clauses first p log marks) e h))
