-- Alike signals: an equivalence, with equal values.
use Rattle.std.proofs.Common.{◌≡◌, ℕ, zero, suc, ◌+◌, ◌-◌, ◌<◌, ◌≤◌, Bool, cond, not, List, [], ◌∷◌, refl, ap, subst, sym, ◌∙◌, inl, inr, arith}
use Rattle.std.specs.Prelude.{◌⊎◌}
use Rattle.std.specs.List.{AllZip, list_any}
use Rattle.std.proofs.lemmas.Bool.{cases_lt}
use Rattle.semantics.specs.declared.mark.Mark.{Mark}
use Rattle.semantics.specs.Net.{TableValue, table_at}
use Rattle.semantics.specs.Value.{Assignment, row_matches, table_value, value_of, IsConsistent}
use Rattle.semantics.proofs.Values.{value_law}
use Rattle.proof_semantics.specs.Alike.{HaveSameForm, IsAlikeIn, IsAlike}
use Rattle.proof_semantics.specs.AlikeLaws.{AlikeLaw}

-- ---- lists, place by place

pub AllZip-weaker : {A : Type 0} (R S : A → A → Type 0) → ((x y : A) → R x y → S x y) → (xs ys : List A) → AllZip R xs ys → AllZip S xs ys
AllZip-weaker R S f [] [] h = tt
AllZip-weaker R S f [] (y ∷ ys) h = absurd h
AllZip-weaker R S f (x ∷ xs) [] h = absurd h
AllZip-weaker R S f (x ∷ xs) (y ∷ ys) h = (f x y h.0, AllZip-weaker R S f xs ys h.1)

AllZip-turned : {A : Type 0} (R S : A → A → Type 0) → ((x y : A) → R x y → S y x) → (xs ys : List A) → AllZip R xs ys → AllZip S ys xs
AllZip-turned R S f [] [] h = tt
AllZip-turned R S f [] (y ∷ ys) h = absurd h
AllZip-turned R S f (x ∷ xs) [] h = absurd h
AllZip-turned R S f (x ∷ xs) (y ∷ ys) h = (f x y h.0, AllZip-turned R S f xs ys h.1)

AllZip-joined : {A : Type 0} (R : A → A → Type 0) → ((x y z : A) → R x y → R y z → R x z) → (xs ys zs : List A) → AllZip R xs ys → AllZip R ys zs → AllZip R xs zs
AllZip-joined R f [] [] [] h k = tt
AllZip-joined R f [] [] (z ∷ zs) h k = absurd k
AllZip-joined R f [] (y ∷ ys) zs h k = absurd h
AllZip-joined R f (x ∷ xs) [] zs h k = absurd h
AllZip-joined R f (x ∷ xs) (y ∷ ys) [] h k = absurd k
AllZip-joined R f (x ∷ xs) (y ∷ ys) (z ∷ zs) h k = (f x y z h.0 k.0, AllZip-joined R f xs ys zs h.1 k.1)

-- ---- values

row_matches-zip : (marks : List Mark) (pins others : List ℕ) (v : Assignment) → AllZip (λ p q. v p ≡ v q) pins others → row_matches marks pins v ≡ row_matches marks others v
row_matches-zip [] pins others v h = refl
row_matches-zip (m ∷ marks) [] [] v h = refl
row_matches-zip (m ∷ marks) [] (q ∷ others) v h = absurd h
row_matches-zip (m ∷ marks) (p ∷ pins) [] v h = absurd h
row_matches-zip (m ∷ marks) (p ∷ pins) (q ∷ others) v h = let rest = row_matches-zip marks pins others v h.1 in cc (h.0, rest)

some_row-zip : (rows : List (List Mark)) (pins others : List ℕ) (v : Assignment) → AllZip (λ p q. v p ≡ v q) pins others
    → list_any (λ marks. row_matches marks pins v) rows ≡ list_any (λ marks. row_matches marks others v) rows
some_row-zip [] pins others v h = refl
some_row-zip (marks ∷ rows) pins others v h =
    let here = row_matches-zip marks pins others v h in
    let rest = some_row-zip rows pins others v h in
    cc (here, rest)

table_value-zip : (t u : TableValue) (v : Assignment) → t.plane ≡ u.plane → t.rows ≡ u.rows → AllZip (λ p q. v p ≡ v q) t.pins u.pins → table_value t v ≡ table_value u v
table_value-zip t u v plane rows h =
    ap (λ b. cond b t.plane (not t.plane)) (some_row-zip t.rows t.pins u.pins v h)
    ∙ ap (λ rs. cond (list_any (λ marks. row_matches marks u.pins v) rs) t.plane (not t.plane)) rows
    ∙ ap (λ p. cond (list_any (λ marks. row_matches marks u.pins v) u.rows) p (not p)) plane

module _ (n : ℕ) (tables : List TableValue) where
  pub form-weaker : (R S : ℕ → ℕ → Type 0) → ((s u : ℕ) → R s u → S s u) → (s u : ℕ) → HaveSameForm n tables R s u → HaveSameForm n tables S s u
  form-weaker R S f s u h = record {
    s_table = h.s_table;
    u_table = h.u_table;
    plane = h.plane;
    rows = h.rows;
    pins = AllZip-weaker R S f (table_at tables (s - n)).pins (table_at tables (u - n)).pins h.pins;
  }

  -- ---- levels

  alike-more : (levels s u : ℕ) → IsAlikeIn n tables levels s u → IsAlikeIn n tables (suc levels) s u
  alike-more zero s u h = inl h
  alike-more (suc levels) s u (inl same) = inl same
  alike-more (suc levels) s u (inr form) = inr (form-weaker (IsAlikeIn n tables levels) (IsAlikeIn n tables (suc levels)) (alike-more levels) s u form)

  alike-at : (levels k s u : ℕ) → levels ≤ k → IsAlikeIn n tables levels s u → IsAlikeIn n tables k s u
  alike-at levels zero s u low h = let none : levels ≡ 0 = omega (arith, low) in subst (λ l. IsAlikeIn n tables l s u) none h
  alike-at levels (suc k) s u low h =
      elim (cases_lt k levels) [
        | inl past ↦ let same : levels ≡ suc k = omega (arith, low, past) in subst (λ l. IsAlikeIn n tables l s u) same h
        | inr within ↦ alike-more k s u (alike-at levels k s u within h)
      ]

  -- pins that are alike, each in some levels, are so in one number of levels
  zip-level : (pins others : List ℕ) → AllZip (IsAlike n tables) pins others → (levels : ℕ) × AllZip (IsAlikeIn n tables levels) pins others
  zip-level [] [] h = (0, tt)
  zip-level [] (q ∷ others) h = absurd h
  zip-level (p ∷ pins) [] h = absurd h
  zip-level (p ∷ pins) (q ∷ others) h =
      let rest = zip-level pins others h.1 in
      let levels : ℕ = h.0.0 + rest.0 in (
        levels,
        (
          alike-at h.0.0 levels p q (omega arith) h.0.1,
          AllZip-weaker (IsAlikeIn n tables rest.0) (IsAlikeIn n tables levels) (λ s u. alike-at rest.0 levels s u (omega arith)) pins others rest.1,
        ),
      )

  pub alike-to_form : (s u : ℕ) → IsAlike n tables s u → (s ≡ u) ⊎ HaveSameForm n tables (IsAlike n tables) s u
  alike-to_form s u (zero, same) = inl same
  alike-to_form s u (suc levels, inl same) = inl same
  alike-to_form s u (suc levels, inr form) = inr (form-weaker (IsAlikeIn n tables levels) (IsAlike n tables) (λ p q h. (levels, h)) s u form)

  pub alike-from_form : (s u : ℕ) → HaveSameForm n tables (IsAlike n tables) s u → IsAlike n tables s u
  alike-from_form s u form =
      let pins = zip-level (table_at tables (s - n)).pins (table_at tables (u - n)).pins form.pins in
      (suc pins.0, inr (record { s_table = form.s_table; u_table = form.u_table; plane = form.plane; rows = form.rows; pins = pins.1 }))

  -- ---- an equivalence

  turned : (levels s u : ℕ) → IsAlikeIn n tables levels s u → IsAlikeIn n tables levels u s
  turned zero s u h = sym h
  turned (suc levels) s u (inl same) = inl (sym same)
  turned (suc levels) s u (inr form) = inr (record {
    s_table = form.u_table;
    u_table = form.s_table;
    plane = sym form.plane;
    rows = sym form.rows;
    pins = AllZip-turned (IsAlikeIn n tables levels) (IsAlikeIn n tables levels) (turned levels) (table_at tables (s - n)).pins (table_at tables (u - n)).pins form.pins;
  })

  pub alike-turned : (s u : ℕ) → IsAlike n tables s u → IsAlike n tables u s
  alike-turned s u (levels, h) = (levels, turned levels s u h)

  joined : (levels s t u : ℕ) → IsAlikeIn n tables levels s t → IsAlikeIn n tables levels t u → IsAlikeIn n tables levels s u
  joined zero s t u h k = h ∙ k
  joined (suc levels) s t u (inl same) k = subst (λ a. IsAlikeIn n tables (suc levels) a u) (sym same) k
  joined (suc levels) s t u (inr form) (inl same) = subst (λ a. IsAlikeIn n tables (suc levels) s a) same (inr form)
  joined (suc levels) s t u (inr form) (inr next) = inr (record {
    s_table = form.s_table;
    u_table = next.u_table;
    plane = form.plane ∙ next.plane;
    rows = form.rows ∙ next.rows;
    pins =
        AllZip-joined (IsAlikeIn n tables levels) (joined levels) (table_at tables (s - n)).pins (table_at tables (t - n)).pins (table_at tables (u - n)).pins
        form.pins next.pins;
  })

  pub alike-joined : (s t u : ℕ) → IsAlike n tables s t → IsAlike n tables t u → IsAlike n tables s u
  alike-joined s t u (levels, h) (more, k) =
      let all : ℕ = levels + more in (all, joined all s t u (alike-at levels all s t (omega arith) h) (alike-at more all t u (omega arith) k))

  -- an input is alike to itself alone
  pub alike-input : (s u : ℕ) → s < n → IsAlike n tables s u → s ≡ u
  alike-input s u low h = elim (alike-to_form s u h) [ inl same ↦ same | inr form ↦ absurd (omega (arith, form.s_table.0, low)) ]

  -- ---- values

  same_value : (x : List Bool) (v : Assignment) → IsConsistent n tables x v → (levels s u : ℕ) → IsAlikeIn n tables levels s u → v s ≡ v u
  same_value x v c zero s u same = ap v same
  same_value x v c (suc levels) s u (inl same) = ap v same
  same_value x v c (suc levels) s u (inr form) =
      let t : TableValue = table_at tables (s - n) in
      let w : TableValue = table_at tables (u - n) in
      let at_s : n + (s - n) ≡ s = omega (arith, form.s_table.0) in
      let at_u : n + (u - n) ≡ u = omega (arith, form.u_table.0) in
      ap v (sym at_s) ∙ c.table (s - n) (omega (arith, form.s_table.0, form.s_table.1))
      ∙ table_value-zip t w v form.plane form.rows (AllZip-weaker (IsAlikeIn n tables levels) (λ p q. v p ≡ v q) (same_value x v c levels) t.pins w.pins form.pins)
      ∙ sym (c.table (u - n) (omega (arith, form.u_table.0, form.u_table.1))) ∙ ap v at_u

pub alike_law : AlikeLaw
alike_law = record {
  values = λ n tables s u acyclic (levels, h) x. same_value n tables x (value_of n tables x) (value_law n tables x acyclic).consistent levels s u h;
  form = λ n tables s u. (alike-to_form n tables s u, λ h. elim h [ inl same ↦ (0, same) | inr form ↦ alike-from_form n tables s u form ]);
  itself = λ n tables s. (0, refl);
  turned = alike-turned;
  joined = alike-joined;
}
