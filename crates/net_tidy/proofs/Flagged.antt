-- What flags tell after an edit of the net.
use Rattle.std.proofs.Common.{◌≡◌, ◌≢◌, ℕ, zero, suc, ◌<◌, ◌≤◌, Bool, true, false, eqb, None, List, [], ◌∷◌, length, get_or, set, refl, ap, sym, subst, ◌∙◌, inl, inr, arith}
use Rattle.std.specs.List.{remove}
use Rattle.std.specs.Prelude.{◌+◌, ◌⊎◌, ◌||◌}
use Rattle.std.proofs.lemmas.Bool.{cases_eq, cases_lt, ne_eqb, false≢true}
use Rattle.std.proofs.lemmas.List.{length-set, get_or-set_same, get_or-set_other, get_or_read}
use Rattle.semantics.specs.Net.{TableValue, NetValue, no_table, table_at, input_count, table_count, constant_table}
use Rattle.semantics.specs.Replaced.{with_table}
use Rattle.chain_semantics.specs.TidyRules.{is_empty, has, pin_at, without_pin}
use Rattle.net_tidy.specs.Rule.{rule_at}
use Rattle.net_tidy.specs.Flags.{IsDown, IsFlagged, IsLeft}
use Rattle.net_tidy.specs.Places.{DraftValue, Stays, IsFlaggedIn}
use Rattle.net_tidy.proofs.Likeness.{like-rule, replaced-like}

-- the flag of a table without a rule is taken down
pub flagged-settled : (D : DraftValue) (flags : List Bool) (t : ℕ) → IsFlaggedIn D flags → (Stays D.gone t → rule_at D.net t ≡ None) → IsFlaggedIn D (set flags t false)
flagged-settled D flags t h none = record {
  count = length-set flags t false ∙ h.count;
  rests = λ i within stays down. elim (cases_eq i t) [
    | inl same ↦ ap (rule_at D.net) same ∙ none (subst (Stays D.gone) same stays)
    | inr other ↦ h.rests i within stays (sym (get_or-set_other flags t i false true other) ∙ down)
  ];
}

-- a net without gone tables
pub flagged-first : (N : NetValue) (gone flags : List Bool) → IsFlagged N flags → IsFlaggedIn (record { net = N; gone = gone }) flags
flagged-first N gone flags h = record { count = h.count; rests = λ i within stays down. h.rests i within down }

-- one more table has gone
pub flagged-gone : (N : NetValue) (gone flags : List Bool) (t : ℕ) → IsFlaggedIn (record { net = N; gone = gone }) flags → t < length gone
    → IsFlaggedIn (record { net = N; gone = set gone t true }) flags
flagged-gone N gone flags t h room = record {
  count = h.count;
  rests = λ i within stays down. elim (cases_eq i t) [
    | inl same ↦ absurd (false≢true (sym (ap (λ k. get_or (set gone t true) k true) (sym same) ∙ stays) ∙ get_or-set_same gone t true true room))
    | inr other ↦ h.rests i within (sym (get_or-set_other gone t i true true other) ∙ stays) down
  ];
}

-- What an edit of table t leaves to another table whose flag is down. The flag was down before; table t, as
-- it was, reads the other table; and the other table does not see whether table t has pins.
pub record IsApart (N : NetValue) (t : ℕ) (new : TableValue) (flags : List Bool) (j : ℕ) : Type 0 where
  pub down : IsDown flags j
  pub other : j ≡ t → ⊥
  pub reads : has new.pins (input_count N + j) ≡ has (table_at N.tables t).pins (input_count N + j)
  pub seen : (is_empty new.pins ≡ is_empty (table_at N.tables t).pins) ⊎ (has (table_at N.tables j).pins (input_count N + t) ≡ false)

pub flagged-replaced : (N : NetValue) (gone : List Bool) (t : ℕ) (new : TableValue) (old flags : List Bool) → IsFlaggedIn (record { net = N; gone = gone }) old → t < table_count N
    → length flags ≡ length old
    → ((j : ℕ) → j < table_count N → IsDown flags j → IsApart N t new old j) → IsFlaggedIn (record { net = with_table N t new; gone = gone }) flags
flagged-replaced N gone t new old flags h within same apart = record {
  count = same ∙ h.count ∙ sym (length-set N.tables t new);
  rests = λ j inside stays down.
      let below : j < table_count N = omega (arith, length-set N.tables t new) in
      let a : IsApart N t new old j = apart j below down in
      like-rule (λ s. s) N j (with_table N t new) j (replaced-like N t j new within a.other a.reads a.seen) ∙ h.rests j below stays a.down;
}

-- only rows are edited
pub flagged-rows : (N : NetValue) (gone : List Bool) (t : ℕ) (new : TableValue) (old flags : List Bool) → IsFlaggedIn (record { net = N; gone = gone }) old → t < table_count N → flags ≡ set old t true
    → new.pins ≡ (table_at N.tables t).pins → IsFlaggedIn (record { net = with_table N t new; gone = gone }) flags
flagged-rows N gone t new old flags h within is pins =
    flagged-replaced N gone t new old flags h within (ap length is ∙ length-set old t true)
    (λ j inside down.
    let now : IsDown (set old t true) j = subst (λ fs. IsDown fs j) is down in
    let differs : (j ≡ t → ⊥) = λ same. false≢true (sym now ∙ ap (λ k. get_or (set old t true) k true) same ∙ get_or-set_same old t true true (omega (arith, h.count))) in
    record {
      down = sym (get_or-set_other old t j true true differs) ∙ now;
      other = differs;
      reads = ap (λ (ps : List ℕ). has ps (input_count N + j)) pins;
      seen = inl (ap is_empty pins);
    })

seen_cases : (a b c : Bool) → (b ≡ true → a ≡ true) → (a ≡ true → c ≡ false) → (a ≡ b) ⊎ (c ≡ false)
seen_cases true b c f g = inr (g refl)
seen_cases false true c f g = inl (f refl)
seen_cases false false c f g = inl refl

-- pins are taken out: the flags of the tables that they read are raised, and then those about the table itself
pub flagged-edited : (N : NetValue) (gone : List Bool) (n t : ℕ) (new : TableValue) (tables : List TableValue) (old mid flags : List Bool) → IsFlaggedIn (record { net = N; gone = gone }) old
    → n ≡ input_count N → t < table_count N
    → tables ≡ set N.tables t new → length mid ≡ length old → length flags ≡ length mid
    → ((j : ℕ) → IsDown mid j → IsDown old j × (has new.pins (n + j) ≡ has (table_at N.tables t).pins (n + j)))
    → ((j : ℕ) → j < length tables → IsDown flags j → IsLeft n tables t mid j)
    → (is_empty (table_at N.tables t).pins ≡ true → is_empty new.pins ≡ true) → IsFlaggedIn (record { net = with_table N t new; gone = gone }) flags
flagged-edited N gone n t new tables old mid flags h inputs within is mid_count count reads left empty =
    flagged-replaced N gone t new old flags h within (count ∙ mid_count)
    (λ j inside down.
    let after : IsLeft n tables t mid j = left j (omega (arith, inside, ap length is, length-set N.tables t new)) down in
    let before = reads j after.down in
    let at : table_at tables t ≡ new = ap (λ ts. table_at ts t) is ∙ get_or-set_same N.tables t new no_table within in
    let aside : table_at tables j ≡ table_at N.tables j = ap (λ ts. table_at ts j) is ∙ get_or-set_other N.tables t j new no_table after.other in
    record {
      down = before.0;
      other = after.other;
      reads = subst (λ k. has new.pins (k + j) ≡ has (table_at N.tables t).pins (k + j)) inputs before.1;
      seen = seen_cases (is_empty new.pins) (is_empty (table_at N.tables t).pins) (has (table_at N.tables j).pins (input_count N + t)) empty
          (λ none.
          ap (λ k. has (table_at N.tables j).pins (k + t)) (sym inputs) ∙ ap (λ (u : TableValue). has u.pins (n + t)) (sym aside)
          ∙ after.unseen (ap (λ (u : TableValue). is_empty u.pins) at ∙ none));
    })

has-remove : (pins : List ℕ) (q s : ℕ) → (s ≡ get_or pins q 0 → ⊥) → has (remove pins q) s ≡ has pins s
has-remove [] zero s h = refl
has-remove [] (suc q) s h = refl
has-remove (p ∷ pins) zero s h = sym (ap (λ (b : Bool). b || has pins s) (ne_eqb s p h))
has-remove (p ∷ pins) (suc q) s h = ap (λ (b : Bool). eqb s p || b) (has-remove pins q s h)

empty-remove : (pins : List ℕ) (q : ℕ) → is_empty pins ≡ true → is_empty (remove pins q) ≡ true
empty-remove [] zero e = refl
empty-remove [] (suc q) e = refl
empty-remove (p ∷ pins) q e = absurd (false≢true e)

pub flagged-remove_pin : (N : NetValue) (gone : List Bool) (n t q signal : ℕ) (element new : TableValue) (tables : List TableValue) (old mid flags : List Bool)
    → IsFlaggedIn (record { net = N; gone = gone }) old → n ≡ input_count N
    → t < table_count N → element ≡ get_or N.tables t element → new ≡ without_pin q element → signal ≡ pin_at (table_at N.tables t) q → tables ≡ set N.tables t new
    → length mid ≡ length old → ((j : ℕ) → IsDown mid j → IsDown old j × (n + j ≢ signal))
    → length flags ≡ length mid → ((j : ℕ) → j < length tables → IsDown flags j → IsLeft n tables t mid j) → IsFlaggedIn (record { net = with_table N t new; gone = gone }) flags
flagged-remove_pin N gone n t q signal element new tables old mid flags h inputs within at is pin after mid_count mid_down count left =
    let pins : new.pins ≡ remove (table_at N.tables t).pins q =
    ap (λ (u : TableValue). u.pins) is ∙ ap (λ (u : TableValue). remove u.pins q) (get_or_read N.tables t element within at no_table) in
    flagged-edited N gone n t new tables old mid flags h inputs within after mid_count count
    (λ j down.
    let both = mid_down j down in
    (both.0, ap (λ ps. has ps (n + j)) pins ∙ has-remove (table_at N.tables t).pins q (n + j) (λ e. both.1 (e ∙ sym pin))))
    left (λ e. ap is_empty pins ∙ empty-remove (table_at N.tables t).pins q e)

pub constant-pins : (name : List ℕ) (value : Bool) → (constant_table name value).pins ≡ []
constant-pins name true = refl
constant-pins name false = refl

pub flagged-make_constant : (N : NetValue) (gone : List Bool) (n t : ℕ) (value : Bool) (element new : TableValue) (pins : List ℕ) (tables : List TableValue) (old mid flags : List Bool)
    → IsFlaggedIn (record { net = N; gone = gone }) old
    → n ≡ input_count N → t < table_count N → new ≡ constant_table element.name value → pins ≡ (table_at N.tables t).pins → tables ≡ set N.tables t new
    → length mid ≡ length old → ((j : ℕ) → IsDown mid j → IsDown old j × (has pins (n + j) ≡ false))
    → length flags ≡ length mid → ((j : ℕ) → j < length tables → IsDown flags j → IsLeft n tables t mid j) → IsFlaggedIn (record { net = with_table N t new; gone = gone }) flags
flagged-make_constant N gone n t value element new pins tables old mid flags h inputs within is same after mid_count mid_down count left =
    let none : new.pins ≡ [] = ap (λ (u : TableValue). u.pins) is ∙ constant-pins element.name value in
    flagged-edited N gone n t new tables old mid flags h inputs within after mid_count count
    (λ j down.
    let both = mid_down j down in
    (both.0, ap (λ ps. has ps (n + j)) none ∙ sym both.1 ∙ ap (λ ps. has ps (n + j)) same))
    left (λ e. ap is_empty none)

-- a table is replaced: all that a draft holds
pub held_set : (N : NetValue) (gone flags : List Bool) (tables : List TableValue) (t : ℕ) (new : TableValue) → IsFlaggedIn (record { net = with_table N t new; gone = gone }) flags
    → tables ≡ set N.tables t new → length gone ≡ table_count N → input_count N + table_count N < 2147483648
    → IsFlaggedIn (record { net = record N { tables = tables }; gone = gone }) flags × (length gone ≡ length tables) × (input_count N + length tables < 2147483648)
held_set N gone flags tables t new h is count few =
    let same : length tables ≡ table_count N = ap length is ∙ length-set N.tables t new in (
      subst (λ ts. IsFlaggedIn (record { net = record N { tables = ts }; gone = gone }) flags) (sym is) h,
      count ∙ sym same,
      omega (arith, few, same),
    )

pub none_more : (D E : DraftValue) (t : ℕ) → E ≡ D → ((j : ℕ) → j < t → Stays D.gone j → rule_at D.net j ≡ None) → (Stays E.gone t → rule_at E.net t ≡ None)
    → (j : ℕ) → j < t + 1 → Stays D.gone j → rule_at D.net j ≡ None
none_more D E t same before here j low stays =
    elim (cases_eq j t) [
      | inl is ↦
          subst (λ (F : DraftValue). Stays F.gone j → rule_at F.net j ≡ None) same (subst (λ k. Stays E.gone k → rule_at E.net k ≡ None) (sym is) here) stays
      | inr other ↦ before j (omega (arith, low, other)) stays
    ]

pub none_until : (D E F : DraftValue) (t next : ℕ) → E ≡ D → F ≡ D → ((j : ℕ) → j < t → Stays D.gone j → rule_at D.net j ≡ None) → (Stays E.gone t → rule_at E.net t ≡ None)
    → ((j : ℕ) → t + 1 ≤ j → j < next → Stays F.gone j → rule_at F.net j ≡ None) → (j : ℕ) → j < next → Stays D.gone j → rule_at D.net j ≡ None
none_until D E F t next same still before here after j low stays =
    elim (cases_lt j (t + 1)) [
      | inl near ↦ none_more D E t same before here j near stays
      | inr far ↦ subst (λ (G : DraftValue). Stays G.gone j → rule_at G.net j ≡ None) still (after j far low) stays
    ]

-- the flags in a net that is not edited
pub flagged-net : (N : NetValue) (flags : List Bool) (t : ℕ) → IsFlagged N flags → rule_at N t ≡ None → IsFlagged N (set flags t false)
flagged-net N flags t h none = record {
  count = length-set flags t false ∙ h.count;
  rests = λ i within down. elim (cases_eq i t) [
    | inl same ↦ ap (rule_at N) same ∙ none
    | inr other ↦ h.rests i within (sym (get_or-set_other flags t i false true other) ∙ down)
  ];
}
