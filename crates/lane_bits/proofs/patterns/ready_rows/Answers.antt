use Rattle.std.proofs.Common.{◌≡◌, ◌≢◌, ◌⊎◌, vec_len, ℕ, List, [], ◌∷◌, refl, length, ap, sym, ◌∙◌, inl, inr, arith}
use Rattle.std.proofs.lemmas.Bool.{eqb-true, eqb-false}
use Rattle.lane_bits.proofs.Store.{room_first, room_later, no_rows}
use Rattle.lane_bits.proofs.patterns.ready_rows.Goals as goal
use Rattle.lane_bits.proofs.patterns.ready_rows.Goals.{then-is_empty+in_ok-rows, else-is_empty}

no_items : {X : Type 0} (xs : List X) → length xs ≡ 0 → xs ≡ []
no_items [] none = refl
no_items (x ∷ xs) none = absurd (omega arith)

all_there : (inputs : ℕ) (rows : List (List ℕ)) → (length rows ≡ inputs) ⊎ (rows ≡ []) → length rows ≢ 0 → length rows ≡ inputs
all_there inputs rows (inl full) some = full
all_there inputs rows (inr none) some = absurd (some (no_rows rows none))

pub reach_words-requires : goal.reach_words-requires
reach_words-requires c =
    let here = c.deref_mut.ensures.value in
    elim c.if-is_empty.branch [
      | then-is_empty+in_ok-rows w ↦
          let none = no_items c.args.rows.now.items (let e = eqb-true (vec_len c.args.rows.now) 0 (sym c.is_empty.ensures ∙ w.if-is_empty.true) in omega (arith, e, c.args.rows.now.ok)) in
          room_first c.args.inputs c.args.words c.args.rows.now.items c.deref_mut.result.now c.requires.room none
          (here ∙ ap (λ v. v.items) w.rows-is ∙ w.in_ok-rows.ensures)
      | else-is_empty w ↦
          let some = eqb-false (vec_len c.args.rows.now) 0 (sym c.is_empty.ensures ∙ w.if-is_empty.false) in
          room_later c.args.inputs c.args.words c.args.rows.now.items c.deref_mut.result.now c.requires.room
          (all_there c.args.inputs c.args.rows.now.items c.requires.count (λ none. some (omega (arith, none, c.args.rows.now.ok))))
          (here ∙ ap (λ v. v.items) w.rows-is)
    ]
