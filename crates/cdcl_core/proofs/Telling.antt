-- The table that tells of each literal whether it is true.
use Rattle.std.specs.Prelude.{ℤ, pos, IsTrue, ◌↔◌, nat_abs}
use Rattle.std.proofs.Common.{◌≡◌, ℕ, zero, Bool, true, false, ◌+◌, ◌-◌, ◌*◌, ◌<◌, ◌≤◌, min, List, [], ◌∷◌, ◌++◌, take, length, get_or, set, refl, ap, subst, sym, ◌∙◌, inl, inr, replicate}
use Rattle.std.proofs.Common.{length-append, arith}
use Rattle.std.proofs.lemmas.Bool.{cases_lt}
use Rattle.std.proofs.lemmas.Bool.Decides.{eqb_tells}
use Rattle.std.proofs.lemmas.List.{get_or_push, get_or_append_left, get_or_past, get_or-set_same, get_or-set_other, get_or-replicate, get_or-take, length-set, length-take, length-replicate}
use Rattle.std.proofs.lemmas.List.{take_more, take_min, get_or_read}
use Rattle.cdcl_core.specs.Settled.{IsOpen}
use Rattle.cdcl_core.specs.Trail.{literal_at, IsConsistent}
use Rattle.cdcl_core.specs.Explained.{Holds}
use Rattle.cdcl_core.specs.Placed.{AreTold, IsHeld, HasPlaces}
use Rattle.cdcl_core.specs.Watched.{index_of}
use Rattle.cdcl_core.proofs.WatchLists.{index_injective}
use Rattle.cdcl_core.proofs.Visiting.{holds_last}
use Rattle.cdcl_core.proofs.Placing.{placed_next, placed-take, placed_few}
use Rattle.cdcl_core.proofs.Watching.{index_low}
use Rattle.proof_semantics.specs.Clauses.{IsLiteralOf}

-- an entry of a trail with one more
data LastOr (trail : List ℤ) (l m : ℤ) : Type 0 where
  last : m ≡ l → LastOr trail l m
  before : Holds trail m → LastOr trail l m

last_or : (trail : List ℤ) (l m : ℤ) → Holds (trail ++ l ∷ []) m → LastOr trail l m
last_or trail l m h =
    let within = h.within in
    elim (cases_lt h.place (length trail)) [
      | inl low ↦ before (record { place = h.place; below = low; within = low; is = sym (get_or_append_left trail (l ∷ []) (pos zero) h.place low) ∙ h.is })
      | inr high ↦
          let at_end : length trail ≡ h.place = omega (arith, length-append trail (l ∷ [])) in
          last (sym h.is ∙ get_or_push trail l (pos zero) h.place at_end)
    ]

holds_before : (trail : List ℤ) (l m : ℤ) → Holds trail m → Holds (trail ++ l ∷ []) m
holds_before trail l m h =
    let within = h.within in
    record {
      place = h.place;
      below = omega (arith, length-append trail (l ∷ []));
      within = omega (arith, length-append trail (l ∷ []));
      is = get_or_append_left trail (l ∷ []) (pos zero) h.place h.within ∙ h.is;
    }

pub told_push : (told : List Bool) (trail : List ℤ) (l : ℤ) → index_of l < length told → AreTold told trail → AreTold (set told (index_of l) true) (trail ++ l ∷ [])
told_push told trail l low h = record {
  sound = λ m is_told. elim (eqb_tells (index_of m) (index_of l)) [
    | inl t ↦ rw (index_injective m l t.1) (holds_last trail l)
    | inr f ↦ holds_before trail l m (h.sound m (sym (get_or-set_other told (index_of l) (index_of m) true false f.1) ∙ is_told))
  ];
  complete = λ m holds. elim (eqb_tells (index_of m) (index_of l)) [
    | inl t ↦ rw (t.1, get_or-set_same told (index_of l) true false low)
    | inr f ↦ get_or-set_other told (index_of l) (index_of m) true false f.1 ∙ elim (last_or trail l m holds) [
      | last e ↦ absurd (f.1 (ap index_of e))
      | before was ↦ h.complete m was
    ]
  ];
}

pub told_pop : (told : List Bool) (trail : List ℤ) (l : ℤ) → (Holds trail l → ⊥) → AreTold told (trail ++ l ∷ []) → AreTold (set told (index_of l) false) trail
told_pop told trail l never h =
    let was : get_or told (index_of l) false ≡ true = h.complete l (holds_last trail l) in
    let low : index_of l < length told = elim (cases_lt (index_of l) (length told)) [
      | inl fine ↦ fine
      | inr past ↦ let no : false ≡ true = sym (get_or_past told (index_of l) false past) ∙ was in absurd (cc)
    ] in
    record {
      sound = λ m is_told. elim (eqb_tells (index_of m) (index_of l)) [
        | inl t ↦
            let no : false ≡ true = sym (get_or-set_same told (index_of l) false false low) ∙ ap (λ k. get_or (set told (index_of l) false) k false) (sym t.1) ∙ is_told in
            absurd (cc)
        | inr f ↦ elim (last_or trail l m (h.sound m (sym (get_or-set_other told (index_of l) (index_of m) false false f.1) ∙ is_told))) [
          | last e ↦ absurd (f.1 (ap index_of e))
          | before holds ↦ holds
        ]
      ];
      complete = λ m holds. elim (eqb_tells (index_of m) (index_of l)) [
        | inl t ↦ absurd (never (subst (Holds trail) (index_injective m l t.1) holds))
        | inr f ↦ get_or-set_other told (index_of l) (index_of m) false false f.1 ∙ h.complete m (holds_before trail l m holds)
      ];
    }

never_told : (n k : ℕ) → get_or (replicate n false) k false ≡ false
never_told n k = elim (cases_lt k n) [
  | inl low ↦ get_or-replicate n k false false low
  | inr past ↦ get_or_past (replicate n false) k false (omega (arith, length-replicate {A = Bool} n false))
]

pub told_none : (n : ℕ) → AreTold (replicate n false) []
told_none n = record {
  sound = λ m is_told. let no : false ≡ true = sym (never_told n (index_of m)) ∙ is_told in absurd (cc);
  complete = λ m holds. let within = holds.within in absurd (omega arith);
}

-- the last entry but those from `end` on stands nowhere before
pub told_back : (told : List Bool) (trail : List ℤ) (end : ℕ) → IsConsistent trail → end < length trail → AreTold told (take (end + 1) trail)
    → AreTold (set told (index_of (literal_at trail end)) false) (take end trail)
told_back told trail end c low h =
    told_pop told (take end trail) (literal_at trail end)
    (λ holds.
    let within = holds.within in
    let inside : holds.place < end = omega (arith, length-take end trail) in
    let same : holds.place ≡ end = c.distinct holds.place end (omega arith) low (sym (get_or-take end trail holds.place (pos zero) inside) ∙ holds.is) in
    omega arith)
    (subst (AreTold told) (take_more trail end (pos zero) low) h)

pub told_low : (told : List Bool) (trail : List ℤ) (l : ℤ) → AreTold told trail → Holds trail l → index_of l < length told
told_low told trail l h holds = elim (cases_lt (index_of l) (length told)) [
  | inl fine ↦ fine
  | inr past ↦ let no : false ≡ true = sym (get_or_past told (index_of l) false past) ∙ h.complete l holds in absurd (cc)
]

-- the literal of the entry before `end` is told
pub entry_low : (told : List Bool) (trail : List ℤ) (end : ℕ) → end < length trail → AreTold told (take (end + 1) trail) → index_of (literal_at trail end) < length told
entry_low told trail end low h = told_low told (take (end + 1) trail) (literal_at trail end) h (record {
  place = end;
  below = omega (arith, length-take (end + 1) trail);
  within = omega (arith, length-take (end + 1) trail);
  is = get_or-take (end + 1) trail end (pos zero) (omega arith);
})

pub held_low : (places : List ℕ) (told : List Bool) (trail : List ℤ) (n : ℕ) (l : ℤ) → IsHeld places told trail → n ≡ length places - 1 → IsLiteralOf n l → index_of l < length told
held_low places told trail n l h e ok =
    let some = h.placed.some in
    let wide = h.wide in
    let low = index_low n l ok in
    omega arith

-- what the table tells
pub held_tells : (places : List ℕ) (told : List Bool) (trail : List ℤ) (l : ℤ) (b : Bool) → IsHeld places told trail → b ≡ get_or told (index_of l) false → IsTrue b ↔ Holds trail l
held_tells places told trail l b h e = (λ yes. h.told_values.sound l (sym e ∙ yes), λ holds. e ∙ h.told_values.complete l holds)

-- one entry more
pub held_next : (places : List ℕ) (told : List Bool) (trail after : List ℤ) (l : ℤ) (v n k : ℕ) → IsHeld places told trail → IsOpen (Holds trail) l → IsLiteralOf (length places - 1) l
    → v ≡ nat_abs l → n ≡ length trail → k ≡ index_of l → after ≡ trail ++ l ∷ [] → IsHeld (set places v n) (set told k true) after
held_next places told trail after l v n k h o ok e m i more = record {
  placed = placed_next places trail after l v n h.placed o ok e m more;
  told_values = rw (more, i) (told_push told trail l (held_low places told trail (length places - 1) l h refl ok) h.told_values);
  wide = length-set told k true ∙ h.wide ∙ ap (λ (w : ℕ). w * 2) (sym (length-set places v n));
}

pub places_next : (places : List ℕ) (told : List Bool) (trail after : List ℤ) (l : ℤ) (v n k : ℕ) (reasons more literal_room literal_room1 reason_room reason_room1 : ℕ)
    → HasPlaces places told trail (record { reasons = reasons; literal_room = literal_room; reason_room = reason_room })
    → IsOpen (Holds trail) l → IsLiteralOf (length places - 1) l → v ≡ nat_abs l → n ≡ length trail → k ≡ index_of l → after ≡ trail ++ l ∷ [] → more ≡ reasons + 1 → literal_room1 ≡ literal_room
    → reason_room1 ≡ reason_room
    → HasPlaces (set places v n) (set told k true) after (record { reasons = more; literal_room = literal_room1; reason_room = reason_room1 })
places_next places told trail after l v n k reasons more literal_room literal_room1 reason_room reason_room1 h o ok e m i longer counted same same1 =
    let same_length = h.same_length in
    let for_literals = h.for_literals in
    let for_reasons = h.for_reasons in
    let wide = length-set places v n in
    let count : length after ≡ length (trail ++ l ∷ []) = ap length longer in
    record {
      held = held_next places told trail after l v n k h.held o ok e m i longer;
      same_length = omega (arith, length-append trail (l ∷ []));
      for_literals = omega arith;
      for_reasons = omega arith;
    }

-- the entries from `start` on are there no more
pub held_cut : (places : List ℕ) (told after : List Bool) (trail : List ℤ) (start : ℕ) → IsHeld places told trail → AreTold after (take start trail) → length after ≡ length told
    → IsHeld places after (take start trail)
held_cut places told after trail start h cut same = record { placed = placed-take places trail start h.placed; told_values = cut; wide = same ∙ h.wide }

-- the table's last entry, by the terms of the code
pub entry_at : (told : List Bool) (trail : List ℤ) (n k : ℕ) (x : ℤ) → 0 < n → n ≤ length trail → AreTold told (take n trail) → x ≡ get_or trail (n - 1) x → k ≡ index_of x → k < length told
entry_at told trail n k x some within h read e =
    let next : n ≡ n - 1 + 1 = omega arith in
    let is : x ≡ literal_at trail (n - 1) = get_or_read trail (n - 1) x (omega arith) read (pos zero) in
    rw (e, is) (entry_low told trail (n - 1) (omega arith) (subst (λ m. AreTold told (take m trail)) next h))

pub back_at : (told : List Bool) (trail : List ℤ) (n k : ℕ) (x : ℤ) → IsConsistent trail → 0 < n → n ≤ length trail → AreTold told (take n trail) → x ≡ get_or trail (n - 1) x → k ≡ index_of x
    → AreTold (set told k false) (take (n - 1) trail)
back_at told trail n k x c some within h read e =
    let next : n ≡ n - 1 + 1 = omega arith in
    let is : x ≡ literal_at trail (n - 1) = get_or_read trail (n - 1) x (omega arith) read (pos zero) in
    subst (λ (i : ℕ). AreTold (set told i false) (take (n - 1) trail)) (sym (e ∙ ap index_of is)) (told_back told trail (n - 1) c (omega arith) (subst (λ m. AreTold told (take m trail)) next h))

pub told_all : (told : List Bool) (trail : List ℤ) (n start : ℕ) → AreTold told (take n trail) → min start (length trail) ≤ n → n ≤ start → n ≤ length trail → AreTold told (take start trail)
told_all told trail n start h low high within =
    let e : n ≡ min start (length trail) = omega arith in
    subst (AreTold told) (ap (λ m. take m trail) e ∙ take_min start trail) h

-- there is room for one entry more
pub places_room : (places : List ℕ) (told : List Bool) (trail : List ℤ) (reasons literal_room reason_room : ℕ)
    → HasPlaces places told trail (record { reasons = reasons; literal_room = literal_room; reason_room = reason_room })
    → (length trail < literal_room) × (reasons < reason_room)
places_room places told trail reasons literal_room reason_room h =
    let few = placed_few places trail h.held.placed in
    let same_length = h.same_length in
    let for_literals = h.for_literals in
    let for_reasons = h.for_reasons in
    (omega arith, omega arith)
