-- The lists of watchers.
use Rattle.std.specs.Prelude.{ℤ, pos, negsuc, int_lt}
use Rattle.std.proofs.lemmas.Int.{ints}
use Rattle.std.proofs.Common.{◌≡◌, ℕ, zero, suc, true, cond, ◌+◌, ◌-◌, ◌*◌, ◌<◌, ◌≤◌, List, [], ◌∷◌, ◌++◌, length, get_or, set, refl, ap, sym, ◌∙◌, inl, inr, length-append, arith}
use Rattle.std.specs.List.{swap_remove}
use Rattle.std.proofs.lemmas.Bool.{cases_lt}
use Rattle.std.proofs.lemmas.Bool.Decides.{eqb_tells}
use Rattle.std.proofs.lemmas.List.{get_or-take, get_or-set_same, get_or-set_other, get_or_append_left, get_or_push, get_or_default, length-take, length-set}
use Rattle.cdcl_core.specs.Watched.{index_of}
use Rattle.cdcl_core.specs.Watches.{list_at, watch_at, no_watch}
use Rattle.cdcl_core.specs.Watching.{HasWatcher}
use Rattle.cdcl_core.specs.declared.watches.Watch.{Watch}

sign_of : (m : ℕ) → int_lt (pos 0) (pos (suc m)) ≡ true
sign_of m = grind (arith, ints)

index_pos : (m : ℕ) → index_of (pos (suc m)) ≡ suc m * 2 + 1
index_pos m = ap (λ t. suc m * 2 + cond t 1 0) (sign_of m)

pub index_injective : (x y : ℤ) → index_of x ≡ index_of y → x ≡ y
index_injective (pos zero) (pos zero) e = refl
index_injective (pos zero) (pos (suc n)) e = absurd (omega (arith, index_pos n))
index_injective (pos zero) (negsuc n) e = absurd (omega arith)
index_injective (pos (suc m)) (pos zero) e = absurd (omega (arith, index_pos m))
index_injective (pos (suc m)) (pos (suc n)) e = let same : m ≡ n = omega (arith, index_pos m, index_pos n) in ap (λ k. pos (suc k)) same
index_injective (pos (suc m)) (negsuc n) e = absurd (omega (arith, index_pos m))
index_injective (negsuc m) (pos zero) e = absurd (omega arith)
index_injective (negsuc m) (pos (suc n)) e = absurd (omega (arith, index_pos n))
index_injective (negsuc m) (negsuc n) e = let same : m ≡ n = omega arith in ap negsuc same

-- a list after another one was written
pub data Written (lists : List (List Watch)) (x : ℤ) (ys : List Watch) (y : ℤ) : Type 0 where
  here : y ≡ x → list_at (set lists (index_of x) ys) y ≡ ys → Written lists x ys y
  there : (y ≡ x → ⊥) → list_at (set lists (index_of x) ys) y ≡ list_at lists y → Written lists x ys y

pub written : (lists : List (List Watch)) (x : ℤ) (ys : List Watch) (y : ℤ) → index_of x < length lists → Written lists x ys y
written lists x ys y within = elim (eqb_tells (index_of y) (index_of x)) [
  | inl t ↦
      let same : y ≡ x = index_injective y x t.1 in
      here same (ap (list_at (set lists (index_of x) ys)) same ∙ get_or-set_same lists (index_of x) ys [] within)
  | inr f ↦ there (λ e. f.1 (ap index_of e)) (get_or-set_other lists (index_of x) (index_of y) ys [] f.1)
]

pub watcher_pushed : (list : List Watch) (w : Watch) (at j : ℕ) (T : Type 0) → HasWatcher list at j T → HasWatcher (list ++ w ∷ []) at j T
watcher_pushed list w at j T h =
    let within = h.within in
    record {
      place = h.place;
      within = omega (arith, length-append list (w ∷ []));
      is = ap (λ (v : Watch). v.clause) (get_or_append_left list (w ∷ []) no_watch h.place h.within) ∙ h.is;
      later = h.later;
    }

pub watcher_new : (list : List Watch) (w : Watch) (j : ℕ) (T : Type 0) → w.clause ≡ j → HasWatcher (list ++ w ∷ []) 0 j T
watcher_new list w j T e = record {
  place = length list;
  within = omega (arith, length-append list (w ∷ []));
  is = ap (λ (v : Watch). v.clause) (get_or_push list w no_watch (length list) refl) ∙ e;
  later = inl (omega arith);
}

pub removed_length : (list : List Watch) (at : ℕ) (w : Watch) → at < length list → length (swap_remove list at w) + 1 ≡ length list
removed_length list at w low = omega (arith, length-take (length list - 1) (set list at (get_or list (length list - 1) w)), length-set list at (get_or list (length list - 1) w))

pub removed_other : (list : List Watch) (at k : ℕ) (w : Watch) → (k ≡ at → ⊥) → k + 1 < length list → watch_at (swap_remove list at w) k ≡ watch_at list k
removed_other list at k w differ low =
    let last : Watch = get_or list (length list - 1) w in
    get_or-take (length list - 1) (set list at last) k no_watch (omega arith) ∙ get_or-set_other list at k last no_watch differ

pub removed_last : (list : List Watch) (at : ℕ) (w : Watch) → at + 1 < length list → watch_at (swap_remove list at w) at ≡ watch_at list (length list - 1)
removed_last list at w low =
    let last : Watch = get_or list (length list - 1) w in
    get_or-take (length list - 1) (set list at last) at no_watch (omega arith) ∙ get_or-set_same list at last no_watch (omega arith) ∙ get_or_default list (length list - 1) w no_watch (omega arith)

-- the watcher of another clause stays
pub watcher_removed : (list : List Watch) (at from j : ℕ) (w : Watch) (T : Type 0) → at < length list → from ≤ at → ((watch_at list at).clause ≡ j → ⊥) → HasWatcher list from j T
    → HasWatcher (swap_remove list at w) from j T
watcher_removed list at from j w T low le other h =
    let within = h.within in
    let shorter = removed_length list at w low in
    let differ : h.place ≡ at → ⊥ = λ e. other (ap (λ k. (watch_at list k).clause) (sym e) ∙ h.is) in
    elim (cases_lt (h.place + 1) (length list)) [
      | inl inner ↦ record {
        place = h.place;
        within = omega arith;
        is = ap (λ (v : Watch). v.clause) (removed_other list at h.place w differ inner) ∙ h.is;
        later = h.later;
      }
      | inr outer ↦
          let last : h.place ≡ length list - 1 = omega arith in
          let before : at + 1 < length list = elim (cases_lt (at + 1) (length list)) [
            | inl fine ↦ fine
            | inr past ↦ absurd (differ (omega arith))
          ] in
          record {
            place = at;
            within = omega arith;
            is = ap (λ (v : Watch). v.clause) (removed_last list at w before) ∙ ap (λ k. (watch_at list k).clause) (sym last) ∙ h.is;
            later = inl le;
          }
    ]

-- each watcher that is left was there
pub removed_was : (list : List Watch) (at k : ℕ) (w : Watch) → at < length list → k < length (swap_remove list at w)
    → (m : ℕ) × (m < length list) × (watch_at (swap_remove list at w) k ≡ watch_at list m)
removed_was list at k w low within =
    let shorter = removed_length list at w low in
    elim (eqb_tells k at) [
      | inl t ↦
          let same : k ≡ at = t.1 in
          (length list - 1, omega arith, ap (watch_at (swap_remove list at w)) same ∙ removed_last list at w (omega arith))
      | inr f ↦ (k, omega arith, removed_other list at k w f.1 (omega arith))
    ]

-- another watcher of the same clause in the place of one
pub watcher_changed : (list : List Watch) (at from j : ℕ) (w : Watch) (T : Type 0) → at < length list → w.clause ≡ (watch_at list at).clause → HasWatcher list from j T
    → HasWatcher (set list at w) from j T
watcher_changed list at from j w T low same h =
    let within = h.within in
    record {
      place = h.place;
      within = omega (arith, length-set list at w);
      is = elim (eqb_tells h.place at) [
        | inl t ↦
            ap (λ k. (watch_at (set list at w) k).clause) t.1 ∙ ap (λ (v : Watch). v.clause) (get_or-set_same list at w no_watch low) ∙ same
            ∙ ap (λ k. (watch_at list k).clause) (sym t.1) ∙ h.is
        | inr f ↦ ap (λ (v : Watch). v.clause) (get_or-set_other list at h.place w no_watch f.1) ∙ h.is
      ];
      later = h.later;
    }
