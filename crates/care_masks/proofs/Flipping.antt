-- The tables that depend on a table, and their words, which are found again where it is turned over.
use Rattle.std.proofs.Common.{◌≡◌, ◌≢◌, ◌⊎◌, ℕ, ◌+◌, ◌-◌, ◌<◌, ◌≤◌, Bool, true, false, not, ◌&&◌, eqb, List, [], ◌∷◌, ◌++◌, length, get_or, set, take, IsTrue, ◌↔◌, Contains, ap, sym, subst, ◌∙◌, inl}
use Rattle.std.proofs.Common.{inr, arith, get_or-set_same, get_or-set_other}
use Rattle.std.specs.List.{AllByRecursion}
use Rattle.std.proofs.lemmas.Bool.{cases_eq, cases_lt, and_parts, and_cases, not-true, not-false, eq-eqb, eqb-true}
use Rattle.std.proofs.Math.Seq.{take-append_seam}
use Rattle.std.proofs.lemmas.List.{take_all, take_more, take-append-le, length_push, get_or_push, get_or_append_left}
use Rattle.std.proofs.lemmas.List.Elements.{Contains-push, Contains-push_cases, Contains-append_left}
use Rattle.semantics.specs.Net.{TableValue, NetValue, table_at, input_count, table_count, signal_count, IsAcyclic}
use Rattle.semantics.specs.Value.{table_value}
use Rattle.semantics.specs.Dependence.{DependsOn}
use Rattle.semantics.specs.Order.{IsKnown, IsNext, IsOrderOf}
use Rattle.semantics.proofs.Values.{value_law, table_value-same}
use Rattle.semantics.proofs.Members.{each_member, member_holds}
use Rattle.semantics.proofs.Depends.{pin_is_signal}
use Rattle.chain_semantics.specs.Flips.{flipped_values, IsFlipped}
use Rattle.chain_semantics.proofs.Flipped.{flipped-is, flipped-apart}
use Rattle.net_core.proofs.InOrder.{next_at}
use Rattle.lane_nets.specs.Words.{word_bit, values_at, HasValues}
use Rattle.care_masks.specs.Flips.{IsSettled, AreInTurn, AreLater}

pub found_again : (i t : ℕ) (mark found : Bool) → found ≡ (not (eqb i t) && mark) → found ≡ true → i ≢ t
found_again i t mark found is holds e =
    let parts = and_parts (not (eqb i t)) mark (sym is ∙ holds) in
    let apart : eqb i t ≡ false = not-true (eqb i t) parts.0 in
    let same : eqb i t ≡ true = eq-eqb i t e in
    cc

-- at each pattern the word has the signal's value where table t is turned over, if all words had their values at the start
abbrev pub IsFlippedFrom : NetValue → ℕ → List ℕ → ℕ → ℕ → Type 0
IsFlippedFrom N t start s word = (b : ℕ) (x : List Bool) → b < 64 → HasValues N start b x → word_bit word b ≡ flipped_values (input_count N) N.tables x t s

-- at the end everything is known
pub settled_all : (N : NetValue) (t : ℕ) (order : List ℕ) (k s : ℕ) → IsOrderOf (input_count N) N.tables order → length order ≤ k → s < signal_count N → IsSettled N t (take k order) s
settled_all N t order k s is past within =
    elim (cases_lt s (input_count N)) [
      | inl input ↦ inr (inr (inl input))
      | inr high ↦ inr (inr (inr (subst (λ l. Contains l (s - input_count N)) (sym (take_all k order past)) (is.all (s - input_count N) (omega arith)))))
    ]

-- what is known with one more table
known_split : (n : ℕ) (before : List ℕ) (i s : ℕ) → IsKnown n (before ++ i ∷ []) s → (s ≡ n + i) ⊎ IsKnown n before s
known_split n before i s (inl input) = inr (inl input)
known_split n before i s (inr c) =
    elim (cases_lt s n) [
      | inl input ↦ inr (inl input)
      | inr high ↦ elim (Contains-push_cases before i (s - n) c) [
        | inl old ↦ inr (inr old)
        | inr e ↦ inl (omega (arith, e, high))
      ]
    ]

settled_split : (N : NetValue) (t : ℕ) (before : List ℕ) (i s : ℕ) → IsSettled N t (before ++ i ∷ []) s → (s ≡ input_count N + i) ⊎ IsSettled N t before s
settled_split N t before i s (inl apart) = inr (inl apart)
settled_split N t before i s (inr (inl e)) = inr (inr (inl e))
settled_split N t before i s (inr (inr known)) =
    elim (known_split (input_count N) before i s known) [
      | inl e ↦ inl e
      | inr old ↦ inr (inr (inr old))
    ]

-- ---- the list of the tables that depend on table t

-- the tables in L are those of the tables before that depend on t
pub record AreCollected (N : NetValue) (t : ℕ) (before L : List ℕ) : Type 0 where
  pub in_turn : AreInTurn N t L
  pub settled : (s : ℕ) → s < signal_count N → IsSettled N t before s → IsSettled N t L s

pub collected_none : (N : NetValue) (t : ℕ) → AreCollected N t [] []
collected_none N t = record {
  in_turn = record { tables = λ k low. absurd (omega (arith, low)); others = λ k low. absurd (omega (arith, low)); reads = λ k p low. absurd (omega (arith, low)) };
  settled = λ s within h. h;
}

pub later_all : (N : NetValue) (t : ℕ) (order L : List ℕ) (k : ℕ) → IsOrderOf (input_count N) N.tables order → length order ≤ k → AreCollected N t (take k order) L → AreLater N t L
later_all N t order L k is past c = record { in_turn = c.in_turn; all = λ s within. c.settled s within (settled_all N t order k s is past within) }

settled_push : (N : NetValue) (t : ℕ) (L : List ℕ) (i s : ℕ) → IsSettled N t L s → IsSettled N t (L ++ i ∷ []) s
settled_push N t L i s (inl free) = inl free
settled_push N t L i s (inr (inl itself)) = inr (inl itself)
settled_push N t L i s (inr (inr (inl input))) = inr (inr (inl input))
settled_push N t L i s (inr (inr (inr c))) = inr (inr (inr (Contains-append_left L (i ∷ []) (s - input_count N) c)))

turn_push : (N : NetValue) (t : ℕ) (L : List ℕ) (i : ℕ) → AreInTurn N t L → i < table_count N → i ≢ t
    → ((p : ℕ) → Contains (table_at N.tables i).pins p → IsSettled N t L p) → AreInTurn N t (L ++ i ∷ [])
turn_push N t L i turn table other reads =
    let long : length (L ++ i ∷ []) ≡ length L + 1 = length_push L i in
    record {
      tables = λ k low. elim (cases_eq k (length L)) [
        | inl e ↦ omega (arith, table, get_or_push L i 0 k (sym e))
        | inr old ↦ omega (arith, get_or_append_left L (i ∷ []) 0 k (omega (arith, low, long, old)), turn.tables k (omega (arith, low, long, old)))
      ];
      others = λ k low. elim (cases_eq k (length L)) [
        | inl e ↦ (λ same. other (sym (get_or_push L i 0 k (sym e)) ∙ same))
        | inr old ↦ (λ same. turn.others k (omega (arith, low, long, old)) (sym (get_or_append_left L (i ∷ []) 0 k (omega (arith, low, long, old))) ∙ same))
      ];
      reads = λ k p low c. elim (cases_eq k (length L)) [
        | inl e ↦ subst (λ l. IsSettled N t l p) (sym (ap (λ m. take m (L ++ i ∷ [])) e ∙ take-append_seam L (i ∷ [])))
            (reads p (subst (λ j. Contains (table_at N.tables j).pins p) (get_or_push L i 0 k (sym e)) c))
        | inr old ↦
            let inside : k < length L = omega (arith, low, long, old) in
            subst (λ l. IsSettled N t l p) (sym (take-append-le k L (i ∷ []) (omega (arith, inside))))
            (turn.reads k p inside (subst (λ j. Contains (table_at N.tables j).pins p) (get_or_append_left L (i ∷ []) 0 k inside) c))
      ];
    }

module _ (N : NetValue) (t : ℕ) (order L : List ℕ) (k i : ℕ) (acyclic : IsAcyclic (input_count N) N.tables) (is : IsOrderOf (input_count N) N.tables order) (low : k < length order)
    (at : i ≡ get_or order k 0) (before : AreCollected N t (take k order) L) where
  next : IsNext (input_count N) N.tables (take k order) i
  next = next_at (input_count N) N.tables order is k i low at

  grown : take (k + 1) order ≡ take k order ++ i ∷ []
  grown = take_more order k 0 low ∙ ap (λ j. take k order ++ j ∷ []) (sym at)

  -- why the next table is not found again
  skipped : (marks : List Bool) (place : ℕ) (found : Bool) → place ≡ input_count N + i
      → ((s : ℕ) → s < signal_count N → IsTrue (get_or marks s false) ↔ DependsOn (input_count N) N.tables t s)
      → found ≡ (not (eqb i t) && get_or marks place false) → found ≡ false → (i ≡ t) ⊎ (¬ DependsOn (input_count N) N.tables t (input_count N + i))
  skipped marks place found at_place marked tells skip =
      elim (and_cases (not (eqb i t)) (get_or marks place false) (sym tells ∙ skip)) [
        | inl e ↦ inl (eqb-true i t (not-false (eqb i t) e))
        | inr clear ↦
            let free : get_or marks (input_count N + i) false ≡ false = subst (λ j. get_or marks j false ≡ false) at_place clear in
            inr (λ path. (let set : get_or marks (input_count N + i) false ≡ true = (marked (input_count N + i) (omega (arith, next.table))).1 path in cc))
      ]

  -- the next table is t, or does not depend on it
  pub collected_skip : (marks : List Bool) (place : ℕ) (found : Bool) → place ≡ input_count N + i
      → ((s : ℕ) → s < signal_count N → IsTrue (get_or marks s false) ↔ DependsOn (input_count N) N.tables t s)
      → found ≡ (not (eqb i t) && get_or marks place false) → found ≡ false → AreCollected N t (take (k + 1) order) L
  collected_skip marks place found at_place marked tells skip = record {
    in_turn = before.in_turn;
    settled = λ s within h.
        elim (settled_split N t (take k order) i s (subst (λ l. IsSettled N t l s) grown h)) [
          | inl e ↦ elim (skipped marks place found at_place marked tells skip) [
            | inl itself ↦ inr (inl (e ∙ ap (λ j. input_count N + j) itself))
            | inr apart ↦ inl (subst (λ u. ¬ DependsOn (input_count N) N.tables t u) (sym e) apart)
          ]
          | inr old ↦ before.settled s within old
        ];
  }

  -- the next table joins the list
  pub collected_more : (new : List ℕ) → new ≡ L ++ i ∷ [] → i ≢ t → AreCollected N t (take (k + 1) order) new
  collected_more new new_is other =
      rw new_is
      (record {
        in_turn = turn_push N t L i before.in_turn next.table other
            (λ p c. before.settled p (pin_is_signal (input_count N) N.tables i p acyclic next.table c)
            (inr (inr (member_holds (IsKnown (input_count N) (take k order)) (table_at N.tables i).pins p next.reads c))));
        settled = λ s within h.
            elim (settled_split N t (take k order) i s (subst (λ l. IsSettled N t l s) grown h)) [
              | inl e ↦
                  let place : s - input_count N ≡ i = omega (arith, e) in
                  inr (inr (inr (subst (Contains (L ++ i ∷ [])) (sym place) (Contains-push L i))))
              | inr old ↦ settled_push N t L i s (before.settled s within old)
            ];
      })

module _ (N : NetValue) (t : ℕ) (start : List ℕ) (acyclic : IsAcyclic (input_count N) N.tables) (table : t < table_count N) where
  abbrev n : ℕ
  n = input_count N

  flipped : (x : List Bool) → IsFlipped n N.tables x t (flipped_values n N.tables x t)
  flipped x = flipped-is n N.tables x t acyclic table

  -- the table is turned over, and nothing is found again
  pub flipped_none : (words : List ℕ) (place word : ℕ) → length start ≡ signal_count N → place ≡ input_count N + t → words ≡ set start place word
      → ((b : ℕ) → b < 64 → word_bit word b ≡ not (word_bit (get_or start place 0) b))
      → (s : ℕ) → s < signal_count N → IsSettled N t [] s → IsFlippedFrom N t start s (get_or words s 0)
  flipped_none words place word room at is turned s within settled b x below values =
      elim (cases_eq s (n + t)) [
        | inl e ↦
            let same : s ≡ place = omega arith in
            let opposite : word_bit word b ≡ not (word_bit (get_or start (n + t) 0) b) = turned b below ∙ ap (λ p. not (word_bit (get_or start p 0) b)) at in
            rw (is, same, get_or-set_same start place word 0 (omega (arith, table, room)))
            (opposite ∙ ap not (values (n + t) (omega (arith, table))) ∙ sym (flipped x).itself ∙ ap (flipped_values n N.tables x t) (sym at))
        | inr other ↦
            let apart : s ≢ place = (λ e. other (e ∙ at)) in
            rw (is, get_or-set_other start place s word 0 apart)
            (values s within ∙ elim settled [
              | inl free ↦ sym (flipped-apart n N.tables x t acyclic table s within free)
              | inr rest ↦ elim rest [
                | inl e ↦ absurd (other e)
                | inr known ↦ elim known [
                  | inl input ↦ (value_law n N.tables x acyclic).consistent.input s input ∙ sym ((flipped x).input s input)
                  | inr c ↦ absurd (omega (arith, c.1))
                ]
              ]
            ])
      ]

  -- the next of the tables that depend on t is found again
  pub flipped_more : (later words : List ℕ) (k i word : ℕ) (read : TableValue) → AreInTurn N t later → k < length later → i ≡ get_or later k 0 → signal_count N ≤ length words
      → read ≡ table_at N.tables i
      → ((b : ℕ) → b < 64 → word_bit word b ≡ table_value read (values_at words b))
      → ((s : ℕ) → s < signal_count N → IsSettled N t (take k later) s → IsFlippedFrom N t start s (get_or words s 0))
      → (s : ℕ) → s < signal_count N → IsSettled N t (take (k + 1) later) s → IsFlippedFrom N t start s (get_or (set words (input_count N + i) word) s 0)
  flipped_more later words k i word read turn low at room same value before s within settled b x below values =
      let table : i < table_count N = omega (arith, at, turn.tables k low) in
      let grown : take (k + 1) later ≡ take k later ++ i ∷ [] = take_more later k 0 low ∙ ap (λ j. take k later ++ j ∷ []) (sym at) in
      elim (cases_eq s (n + i)) [
        | inl e ↦
            let pins : AllByRecursion (λ p. values_at words b p ≡ flipped_values n N.tables x t p) (table_at N.tables i).pins =
            each_member (λ p. values_at words b p ≡ flipped_values n N.tables x t p) (table_at N.tables i).pins
            (λ p c. before p (pin_is_signal n N.tables i p acyclic table c) (turn.reads k p low (subst (λ j. Contains (table_at N.tables j).pins p) at c)) b x below values) in
            rw (e, get_or-set_same words (n + i) word 0 (omega (arith, table, room)))
            (value b below
            ∙ ap (λ (u : TableValue). table_value u (values_at words b)) same
            ∙ table_value-same (table_at N.tables i) (values_at words b) (flipped_values n N.tables x t) pins
            ∙ sym ((flipped x).others i table (λ itself. turn.others k low (sym at ∙ itself))))
        | inr apart ↦
            rw (get_or-set_other words (n + i) s word 0 apart)
            (elim (settled_split N t (take k later) i s (subst (λ l. IsSettled N t l s) grown settled)) [
              | inl e ↦ absurd (apart e)
              | inr old ↦ before s within old b x below values
            ])
      ]
