-- The places that were marked are listed.
use Rattle.std.specs.Prelude.{All, ◌≢◌}
use Rattle.std.proofs.Common.{◌≡◌, ℕ, zero, suc, Bool, true, false, cond, ◌+◌, ◌-◌, ◌<◌, ◌≤◌, List, [], ◌∷◌, ◌++◌, take, replicate, length, get_or, refl, ap, subst, sym, ◌∙◌, inl, inr, length-append}
use Rattle.std.proofs.Common.{arith}
use Rattle.std.proofs.lemmas.Bool.{cases_lt, cases_eq, false_from_ne_true}
use Rattle.std.proofs.lemmas.List.{get_or-set_same, get_or-set_other, get_or-take, length-take, get_or_default}
use Rattle.std.proofs.Math.ListN.{set, length-set, get_or-append}
use Rattle.std.proofs.Math.Seq.{get_or-append_seam, get_or-append_right}
use Rattle.std.proofs.lemmas.List.Elements.{All-weaker, All-push}
use Rattle.std.specs.List.{count_by}
use Rattle.std.proofs.lemmas.List.Sums.{sum_by-set, count_by-le-length}
use Rattle.cdcl_core.specs.Touched.{IsListed, AreTouchedFrom, AreTouched, AreListed}

set_within : (on : List Bool) (x : ℕ) (b : Bool) (touched : List ℕ) → All (λ p. p < length on) touched → All (λ p. p < length (set on x b)) touched
set_within on x b touched h = All-weaker (λ p. p < length on) (λ p. p < length (set on x b)) (λ p low. omega (arith, length-set on x b)) touched h

-- the mark of the next listed place is taken away
pub touched_next : (on : List Bool) (touched : List ℕ) (i x : ℕ) → AreTouchedFrom on touched i → i < length touched → x ≡ get_or touched i 0 → AreTouchedFrom (set on x false) touched (i + 1)
touched_next on touched i x h low is = record {
  within = set_within on x false touched h.within;
  listed = λ p m. elim (cases_eq p x) [
    | inl e ↦
        let inside : x < length on = rw is (h.within i 0 low) in
        let off : get_or (set on x false) x false ≡ false = get_or-set_same on x false false inside in
        let here : get_or (set on x false) x false ≡ true = subst (λ k. get_or (set on x false) k false ≡ true) e m in
        absurd (cc)
    | inr other ↦
        let l : IsListed touched i p = h.listed p (sym (get_or-set_other on x p false false other) ∙ m) in
        let from = l.from in
        let differ : l.at ≢ i = λ e. other (sym l.is ∙ ap (λ k. get_or touched k 0) e ∙ sym is) in
        record { at = l.at; from = omega arith; within = l.within; is = l.is }
  ];
}

-- where none is listed any more, nothing is marked
pub touched_none : (on : List Bool) (touched : List ℕ) (i p : ℕ) → AreTouchedFrom on touched i → length touched ≤ i → get_or on p false ≡ false
touched_none on touched i p h past = false_from_ne_true _ (λ m. let l = h.listed p m in let from = l.from in let within = l.within in omega arith)

-- nothing is marked
pub touched_empty : (on : List Bool) → ((p : ℕ) → get_or on p false ≡ false) → AreTouched on []
touched_empty on none = record {
  within = λ k d within. absurd (omega arith);
  listed = λ p m. let off = none p in absurd (cc);
}

listed_more : (touched : List ℕ) (x p : ℕ) → IsListed touched 0 p → IsListed (touched ++ x ∷ []) 0 p
listed_more touched x p l = record {
  at = l.at;
  from = omega arith;
  within = let within = l.within in omega (arith, length-append touched (x ∷ []));
  is = get_or-append touched (x ∷ []) 0 l.at l.within ∙ l.is;
}

-- one that was not is listed
pub touched_marked : (on : List Bool) (touched : List ℕ) (x : ℕ) → AreTouched on touched → x < length on → AreTouched (set on x true) (touched ++ x ∷ [])
touched_marked on touched x h inside = record {
  within = All-push (λ p. p < length (set on x true)) touched x (set_within on x true touched h.within) (omega (arith, length-set on x true));
  listed = λ p m. elim (cases_eq p x) [
    | inl e ↦ record { at = length touched; from = omega arith; within = omega (arith, length-append touched (x ∷ [])); is = get_or-append_seam touched x [] 0 ∙ sym e }
    | inr other ↦ listed_more touched x p (h.listed p (sym (get_or-set_other on x p true false other) ∙ m))
  ];
}

count_none : (xs : List Bool) → ((p : ℕ) → get_or xs p false ≡ false) → count_by (λ b. b) xs ≡ 0
count_none [] none = refl
count_none (x ∷ xs) none =
    let first : x ≡ false = none 0 in
    let rest : count_by (λ b. b) xs ≡ 0 = count_none xs (λ p. none (suc p)) in
    rw first (omega arith)

count_one : (xs : List Bool) (x : ℕ) → x < length xs → get_or xs x false ≡ false → count_by (λ b. b) (set xs x true) ≡ count_by (λ b. b) xs + 1
count_one xs x inside off =
    let one : count_by (λ b. b) (set xs x true) + cond (get_or xs x false) 1 0 ≡ count_by (λ b. b) xs + 1 = sum_by-set (λ b. cond b 1 0) xs x true false inside in
    let none : cond {A = ℕ} (get_or xs x false) 1 0 ≡ 0 = ap (λ (b : Bool). cond {A = ℕ} b 1 0) off in
    omega arith

-- nothing is marked, and nothing is listed
pub listed_none : (on listed : List Bool) (touched : List ℕ) (list_room sort_room : ℕ) → touched ≡ [] → length listed ≡ length on → ((p : ℕ) → get_or on p false ≡ false)
    → ((p : ℕ) → get_or listed p false ≡ false)
    → length on ≤ list_room → length on ≤ sort_room → AreListed on listed touched list_room sort_room
listed_none on listed touched list_room sort_room empty same none none_listed to_list to_sort = record {
  places = same;
  marked = λ p m. let off = none p in absurd (cc);
  all = rw empty (touched_empty listed none_listed);
  once = rw empty (sym (count_none listed none_listed));
  to_list = to_list;
  to_sort = to_sort;
}

pub listed_touched : (on listed : List Bool) (touched : List ℕ) (list_room sort_room : ℕ) → AreListed on listed touched list_room sort_room → AreTouched on touched
listed_touched on listed touched list_room sort_room h = record {
  within = subst (λ n. All (λ p. p < n) touched) h.places h.all.within;
  listed = λ p m. h.all.listed p (h.marked p m);
}

-- there is room for a place that is not listed
pub room_to_list : (on listed : List Bool) (touched : List ℕ) (list_room sort_room x : ℕ) → AreListed on listed touched list_room sort_room → x < length on → get_or listed x false ≡ false
    → length touched < list_room
room_to_list on listed touched list_room sort_room x h inside off =
    let places = h.places in
    let once = h.once in
    let to_list = h.to_list in
    let more = count_one listed x (omega arith) off in
    let few = count_by-le-length (λ b. b) (set listed x true) in
    omega (arith, length-set listed x true)

marked_more : (on listed : List Bool) (x p : ℕ) → ((q : ℕ) → get_or on q false ≡ true → get_or listed q false ≡ true) → x < length listed → get_or (set on x true) p false ≡ true
    → get_or (set listed x true) p false ≡ true
marked_more on listed x p h inside m = elim (cases_eq p x) [
  | inl e ↦ ap (λ k. get_or (set listed x true) k false) e ∙ get_or-set_same listed x true false inside
  | inr other ↦ get_or-set_other listed x p true false other ∙ h p (sym (get_or-set_other on x p true false other) ∙ m)
]

-- a place that was not listed is marked
pub listed_marked : (on listed : List Bool) (touched after : List ℕ) (list_room sort_room x : ℕ) → AreListed on listed touched list_room sort_room → x < length on → get_or listed x false ≡ false
    → after ≡ touched ++ x ∷ [] → AreListed (set on x true) (set listed x true) after list_room sort_room
listed_marked on listed touched after list_room sort_room x h inside off more =
    let places = h.places in
    let once = h.once in
    let to_list = h.to_list in
    let to_sort = h.to_sort in
    let one = count_one listed x (omega arith) off in
    rw more (record {
      places = omega (arith, length-set listed x true, length-set on x true);
      marked = λ p m. marked_more on listed x p h.marked (omega arith) m;
      all = touched_marked listed touched x h.all (omega arith);
      once = omega (arith, length-append touched (x ∷ []));
      to_list = omega (arith, length-set on x true);
      to_sort = omega (arith, length-set on x true);
    })

-- a place that was listed is marked
pub listed_again : (on listed : List Bool) (touched : List ℕ) (list_room sort_room x : ℕ) → AreListed on listed touched list_room sort_room → x < length on → get_or listed x false ≡ true
    → AreListed (set on x true) listed touched list_room sort_room
listed_again on listed touched list_room sort_room x h inside was =
    let to_list = h.to_list in
    let to_sort = h.to_sort in
    record {
      places = h.places ∙ sym (length-set on x true);
      marked = λ p m. elim (cases_eq p x) [
        | inl e ↦ ap (λ k. get_or listed k false) e ∙ was
        | inr other ↦ h.marked p (sym (get_or-set_other on x p true false other) ∙ m)
      ];
      all = h.all;
      once = h.once;
      to_list = omega (arith, length-set on x true);
      to_sort = omega (arith, length-set on x true);
    }

-- places more, none of them marked
replicate_none : (m k : ℕ) → get_or (replicate m false) k false ≡ false
replicate_none zero k = refl
replicate_none (suc m) zero = refl
replicate_none (suc m) (suc k) = replicate_none m k

pub resized_none : (on new : List Bool) (n m : ℕ) (ok : Bool) → new ≡ cond ok (take n on ++ replicate m false) on → ((p : ℕ) → get_or on p false ≡ false) → (p : ℕ) → get_or new p false ≡ false
resized_none on new n m false e none p = rw e (none p)
resized_none on new n m true e none p = elim (cases_lt p (length (take n on))) [
  | inl low ↦
      let in_taken : p < n = omega (arith, length-take n on) in
      rw (e, get_or-append (take n on) (replicate m false) false p low, get_or-take n on p false in_taken) (none p)
  | inr high ↦ rw (e, get_or-append_right (take n on) (replicate m false) p false high) (replicate_none m (p - length (take n on)))
]

-- a mark as it was read
pub mark_read : (on : List Bool) (p : ℕ) (r b : Bool) → p < length on → r ≡ get_or on p r → r ≡ b → get_or on p false ≡ b
mark_read on p r b inside is e = get_or_default on p false r inside ∙ sym is ∙ e
