-- A table that no table reads is left out.
use Rattle.std.proofs.Common.{◌≡◌, ℕ, zero, suc, ◌+◌, ◌-◌, ◌<◌, ◌≤◌, Bool, List, [], ◌∷◌, map, length, refl, ap, sym, subst, ◌∙◌, inl, inr, arith}
use Rattle.std.specs.List.{AllByRecursion, Contains, remove}
use Rattle.std.proofs.lemmas.Bool.{cases_lt, lt-ltb, le-ltb}
use Rattle.std.proofs.lemmas.List.{get_or-map, length-map}
use Rattle.std.proofs.lemmas.List.Edits.{length-remove, get_or-remove_below, get_or-remove_above}
use Rattle.semantics.specs.Net.{TableValue, no_table, table_at, IsGroundedIn, IsAcyclic}
use Rattle.semantics.specs.Value.{value_of}
use Rattle.semantics.proofs.Values.{value_law}
use Rattle.semantics.specs.Embedding.{StandsAt, IsEmbedded}
use Rattle.semantics.specs.Renamed.{renamed, lowered, raised, without}
use Rattle.semantics.proofs.Depends.{each_member, IsGroundedIn-pin}
use Rattle.semantics.proofs.Embedded.{embedded-values}
use Rattle.semantics.proofs.Ordered.{acyclic_from_steps}
use Rattle.semantics.proofs.Grounding.{IsGroundedIn-table, pins_of_map}

lowered-below : (gone s : ℕ) → s ≤ gone → lowered gone s ≡ s
lowered-below gone s h = rw (le-ltb gone s h) refl

lowered-above : (gone s : ℕ) → gone < s → lowered gone s ≡ s - 1
lowered-above gone s h = rw (lt-ltb gone s h) refl

raised-below : (gone s : ℕ) → s < gone → raised gone s ≡ s
raised-below gone s h = rw (lt-ltb s gone h) refl

raised-above : (gone s : ℕ) → gone ≤ s → raised gone s ≡ s + 1
raised-above gone s h = rw (le-ltb s gone h) refl

raised-lowered : (gone s : ℕ) → (s ≡ gone → ⊥) → raised gone (lowered gone s) ≡ s
raised-lowered gone s ne =
    elim (cases_lt gone s) [
      | inl above ↦ let back : (s - 1) + 1 ≡ s = omega arith in ap (raised gone) (lowered-above gone s above) ∙ raised-above gone (s - 1) (omega arith) ∙ back
      | inr below ↦ ap (raised gone) (lowered-below gone s below) ∙ raised-below gone s (omega arith)
    ]

pins_raised : (gone : ℕ) (pins : List ℕ) → AllByRecursion (λ s. s ≡ gone → ⊥) pins → map (raised gone) (map (lowered gone) pins) ≡ pins
pins_raised gone [] h = refl
pins_raised gone (s ∷ pins) h = let here = raised-lowered gone s h.0 in let rest = pins_raised gone pins h.1 in cc (here, rest)

module _ (n : ℕ) (tables : List TableValue) (t : ℕ) (inside : t < length tables) where
  length-without : length (without n tables t) + 1 ≡ length tables
  length-without = omega (arith, length-map (remove tables t) (renamed (lowered (n + t))), length-remove tables t inside)

  table_at-without : (j : ℕ) → j < length (without n tables t) → table_at (without n tables t) j ≡ renamed (lowered (n + t)) (table_at (remove tables t) j)
  table_at-without j within = get_or-map (renamed (lowered (n + t))) (remove tables t) j no_table no_table (omega (arith, length-map (remove tables t) (renamed (lowered (n + t)))))

  before-gone : (j : ℕ) → j < t → table_at (without n tables t) j ≡ renamed (lowered (n + t)) (table_at tables j)
  before-gone j h = table_at-without j (omega (arith, length-without)) ∙ ap (renamed (lowered (n + t))) (get_or-remove_below tables t no_table j h inside)

  after-gone : (j : ℕ) → t ≤ j → j + 1 < length tables → table_at (without n tables t) j ≡ renamed (lowered (n + t)) (table_at tables (j + 1))
  after-gone j h within = table_at-without j (omega (arith, length-without)) ∙ ap (renamed (lowered (n + t))) (get_or-remove_above tables t no_table j h inside)

  stands : (j i : ℕ) → i < length tables → (¬ Contains (table_at tables i).pins (n + t)) → raised (n + t) (n + j) ≡ n + i
      → table_at (without n tables t) j ≡ renamed (lowered (n + t)) (table_at tables i) → StandsAt (raised (n + t)) (table_at (without n tables t) j) n tables (raised (n + t) (n + j))
  stands j i within unread is e =
      let old : TableValue = table_at tables i in
      let others : AllByRecursion (λ s. s ≡ n + t → ⊥) (table_at tables i).pins =
      each_member (λ s. s ≡ n + t → ⊥) (table_at tables i).pins (λ s c same. unread (subst (Contains (table_at tables i).pins) same c)) in
      record {
        place = i;
        is = is;
        within = within;
        pins = sym (ap (λ u. map (raised (n + t)) u.pins) e ∙ pins_raised (n + t) (table_at tables i).pins others);
        rows = sym (ap (λ u. u.rows) e);
        plane = sym (ap (λ u. u.plane) e);
      }

  module _ (unread : (i : ℕ) → i < length tables → ¬ Contains (table_at tables i).pins (n + t)) where
    pub without-embedded : IsEmbedded n (without n tables t) n tables (raised (n + t))
    without-embedded = record {
      input = λ s low. rw (lt-ltb s (n + t) (omega arith)) (omega arith);
      table = λ j within. elim (cases_lt j t) [
        | inl low ↦ stands j j (omega arith) (unread j (omega arith)) (raised-below (n + t) (n + j) (omega arith)) (before-gone j low)
        | inr high ↦
            let less : j + 1 < length tables = omega (arith, length-without) in
            let sum : (n + j) + 1 ≡ n + (j + 1) = omega arith in
            stands j (j + 1) less (unread (j + 1) less) (raised-above (n + t) (n + j) (omega arith) ∙ sum) (after-gone j high less)
      ];
    }

    without-grounded : (k s : ℕ) → IsGroundedIn n tables k s → (s ≡ n + t → ⊥) → IsGroundedIn n (without n tables t) k (lowered (n + t) s)
    without-grounded zero s h ne = let same : lowered (n + t) s ≡ s = lowered-below (n + t) s (omega arith) in omega arith
    without-grounded (suc k) s (inl h) ne = let same : lowered (n + t) s ≡ s = lowered-below (n + t) s (omega arith) in inl (omega arith)
    without-grounded (suc k) s (inr h) ne =
        elim (cases_lt s n) [
          | inl low ↦ let same : lowered (n + t) s ≡ s = lowered-below (n + t) s (omega arith) in inl (omega arith)
          | inr high ↦
              let pins : AllByRecursion (λ p. IsGroundedIn n (without n tables t) k (lowered (n + t) p)) (table_at tables (s - n)).pins =
              each_member (λ p. IsGroundedIn n (without n tables t) k (lowered (n + t) p)) (table_at tables (s - n)).pins
              (λ p c. without-grounded k p (IsGroundedIn-pin n tables k s p high (inr h) c)
              (λ same. unread (s - n) (omega (arith, h.0)) (subst (Contains (table_at tables (s - n)).pins) same c))) in
              let moved : AllByRecursion (IsGroundedIn n (without n tables t) k) (renamed (lowered (n + t)) (table_at tables (s - n))).pins =
              pins_of_map (IsGroundedIn n (without n tables t) k) (lowered (n + t)) (table_at tables (s - n)).pins pins in
              elim (cases_lt (n + t) s) [
                | inl above ↦
                    let i : ((s - n) - 1) + 1 ≡ s - n = omega arith in
                    let e : table_at (without n tables t) ((s - n) - 1) ≡ renamed (lowered (n + t)) (table_at tables (s - n)) =
                    after-gone ((s - n) - 1) (omega arith) (omega (arith, h.0)) ∙ ap (λ j. renamed (lowered (n + t)) (table_at tables j)) i in
                    let place : n + ((s - n) - 1) ≡ lowered (n + t) s = (let sum : n + ((s - n) - 1) ≡ s - 1 = omega arith in sum ∙ sym (lowered-above (n + t) s above)) in
                    subst (IsGroundedIn n (without n tables t) (suc k)) place
                    (IsGroundedIn-table n (without n tables t) k ((s - n) - 1) (omega (arith, h.0, length-without))
                    (subst (λ u. AllByRecursion (IsGroundedIn n (without n tables t) k) u.pins) (sym e) moved))
                | inr below ↦
                    let e : table_at (without n tables t) (s - n) ≡ renamed (lowered (n + t)) (table_at tables (s - n)) = before-gone (s - n) (omega arith) in
                    let place : n + (s - n) ≡ lowered (n + t) s = (let sum : n + (s - n) ≡ s = omega arith in sum ∙ sym (lowered-below (n + t) s below)) in
                    subst (IsGroundedIn n (without n tables t) (suc k)) place
                    (IsGroundedIn-table n (without n tables t) k (s - n) (omega (arith, length-without))
                    (subst (λ u. AllByRecursion (IsGroundedIn n (without n tables t) k) u.pins) (sym e) moved))
              ]
        ]

    pub without-acyclic : IsAcyclic n tables → IsAcyclic n (without n tables t)
    without-acyclic acyclic =
        acyclic_from_steps n (without n tables t)
        (λ j within. (
          length tables,
          elim (cases_lt j t) [
            | inl low ↦
                subst (IsGroundedIn n (without n tables t) (length tables)) (lowered-below (n + t) (n + j) (omega arith))
                (without-grounded (length tables) (n + j) (acyclic j (omega arith)) (λ e. omega arith))
            | inr high ↦
                let less : j + 1 < length tables = omega (arith, length-without) in
                let place : lowered (n + t) (n + (j + 1)) ≡ n + j = (let sum : (n + (j + 1)) - 1 ≡ n + j = omega arith in lowered-above (n + t) (n + (j + 1)) (omega arith) ∙ sum) in
                subst (IsGroundedIn n (without n tables t) (length tables)) place
                (without-grounded (length tables) (n + (j + 1)) (acyclic (j + 1) less) (λ e. omega arith))
          ],
        ))

    pub without-values : IsAcyclic n tables → (x : List Bool) (s : ℕ) → s + 1 < n + length tables → value_of n tables x (raised (n + t) s) ≡ value_of n (without n tables t) x s
    without-values acyclic x s within =
        embedded-values n (without n tables t) n tables (raised (n + t)) x x (without-acyclic acyclic) acyclic without-embedded
        (λ i low. sym (ap (value_of n tables x) (raised-below (n + t) i (omega arith)) ∙ (value_law n tables x acyclic).consistent.input i low))
        s (omega (arith, length-without))
