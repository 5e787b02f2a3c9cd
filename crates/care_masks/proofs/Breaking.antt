-- Where a move changes its table's value, and where it breaks the bound, bit by bit.
use Rattle.std.proofs.Common.{◌≡◌, ◌≢◌, ◌↔◌, ◌⊎◌, ℕ, ◌+◌, ◌-◌, ◌*◌, ◌^◌, ◌<◌, ◌≤◌, Bool, true, false, not, ◌&&◌, ◌||◌, if◌then◌else◌, ltb, List, [], ◌∷◌, length, get_or, set, IsTrue, All, w64, refl}
use Rattle.std.proofs.Common.{ap, sym, subst, ◌∙◌, inl, inr, arith, get_or-set_same, get_or-set_other}
use Rattle.std.specs.Prelude.{bit_and, bit_or, bit_xor, ◌==◌}
use Rattle.std.specs.Int.{bit_not}
use Rattle.std.proofs.lemmas.Bool.{cases_eq, cases_lt, and_parts, and_from, lt-ltb, le-ltb, ltb-true}
use Rattle.std.proofs.lemmas.Nat.Bits.{bit_at_ones, bit_at_ones_above}
use Rattle.std.proofs.lemmas.List.Elements.{All-weaker, recursion_from_All}
use Rattle.semantics.specs.Net.{TableValue, NetValue, table_at, input_count, signal_count, IsSound}
use Rattle.semantics.specs.Value.{table_value, value_of}
use Rattle.semantics.specs.declared.metric.Metric.{Metric}
use Rattle.semantics.proofs.Values.{table_value-same}
use Rattle.chain_semantics.specs.declared.moves.Move.{Move}
use Rattle.chain_semantics.specs.Moves.{table_of, moved_table}
use Rattle.chain_semantics.specs.Care.{IsCaredFor, Exceeds, moved_value, Changes, IsBrokenAt}
use Rattle.chain_semantics.specs.MoveLaws.{IsMoveOf}
use Rattle.chain_semantics.proofs.MovedNets.{move-within, moved-pins}
use Rattle.chain_semantics.proofs.MovedFlips.{move-broken}
use Rattle.lane_bits.specs.Rows.{row_bit, turned, word_count, HasNoneSet, IsFirstSet}
use Rattle.lane_bits.proofs.Bits.{and_bit, or_bit, xor_bit}
use Rattle.lane_nets.specs.Words.{word_bit, values_at, HasValues}
use Rattle.lane_nets.specs.Blocks.{vector_at, row_at, IsRowWhere, AreBlocksOf, IsWordWhere}
use Rattle.care_masks.specs.Masks.{IsFirstBroken}
use Rattle.lane_nets.proofs.WordBits.{not_bit, ones_bit, zero_bit}
use Rattle.lane_nets.proofs.RowBits.{row_bit-word, row_where}

pub turned-differs : (m v : Bool) → (turned v m ≡ true) ↔ (m ≢ v)
turned-differs true true = (λ e. absurd (let f : false ≡ true = e in cc), λ d. absurd (d refl))
turned-differs false true = (λ e same. cc, λ d. refl)
turned-differs true false = (λ e same. cc, λ d. refl)
turned-differs false false = (λ e. absurd (let f : false ≡ true = e in cc), λ d. absurd (d refl))

-- the difference of the two words
pub difference_bit : (N : NetValue) (m : Move) (words : List ℕ) (moved_word value : ℕ) → IsSound N → IsMoveOf N m
    → value ≡ get_or words (input_count N + table_of m) 0
    → ((b : ℕ) → b < 64 → word_bit moved_word b ≡ table_value (moved_table (table_at N.tables (table_of m)) m) (values_at words b))
    → (b : ℕ) (x : List Bool) → b < 64 → HasValues N words b x → IsTrue (word_bit (bit_xor moved_word value) b) ↔ Changes N m x
difference_bit N m words moved_word value sound is value_is moved b x low values =
    let t : ℕ = table_of m in
    let new : TableValue = moved_table (table_at N.tables t) m in
    let pins : All (λ s. values_at words b s ≡ value_of (input_count N) N.tables x s) new.pins =
    All-weaker (λ s. s < signal_count N) (λ s. values_at words b s ≡ value_of (input_count N) N.tables x s) (λ s within. values s within) new.pins (moved-pins N m sound is) in
    let left : word_bit moved_word b ≡ moved_value N m x =
    moved b low ∙ table_value-same new (values_at words b) (value_of (input_count N) N.tables x) (recursion_from_All (λ s. values_at words b s ≡ value_of (input_count N) N.tables x s) new.pins pins)
    in
    let right : word_bit value b ≡ value_of (input_count N) N.tables x (input_count N + t) =
    ap (λ w. word_bit w b) value_is ∙ values (input_count N + t) (omega (arith, move-within N m is)) in
    let bit : word_bit (bit_xor moved_word value) b ≡ turned (value_of (input_count N) N.tables x (input_count N + t)) (moved_value N m x) =
    xor_bit moved_word value b ∙ (λ j. turned (right j) (left j)) in
    let tells = turned-differs (moved_value N m x) (value_of (input_count N) N.tables x (input_count N + t)) in
    (λ set. tells.0 (sym bit ∙ set), λ differs. bit ∙ tells.1 differs)

-- the bits below a place
pub used_low : (count k b left : ℕ) → b < 64 → left ≡ count - 64 * k → 0 < left → word_bit (2 ^ left - 1) b ≡ ltb (64 * k + b) count
used_low count k b left low is some =
    elim (cases_lt b left) [
      | inl below ↦ ap (λ n. n == 1) (bit_at_ones left b below) ∙ sym (lt-ltb (64 * k + b) count (omega arith))
      | inr past ↦ ap (λ n. n == 1) (bit_at_ones_above left b past) ∙ sym (le-ltb (64 * k + b) count (omega arith))
    ]

pub used_all : (count k b : ℕ) → b < 64 → 64 ≤ count - 64 * k → word_bit (2 ^ 64 - 1) b ≡ ltb (64 * k + b) count
used_all count k b low full = ones_bit b low ∙ sym (lt-ltb (64 * k + b) count (omega arith))

-- one more word of the patterns at which a move changes its table's value
pub changes_more : (N : NetValue) (m : Move) (blocks : List (List ℕ)) (count k : ℕ) (words row : List ℕ) (differs used : ℕ) → k < length blocks → words ≡ row_at blocks k → k < length row
    → ((b : ℕ) (x : List Bool) → b < 64 → HasValues N words b x → IsTrue (word_bit differs b) ↔ Changes N m x) → ((b : ℕ) → b < 64 → word_bit used b ≡ ltb (64 * k + b) count)
    → ((vectors : List (List Bool)) → length vectors ≡ count → AreBlocksOf N vectors blocks → (j : ℕ) → j < k → IsWordWhere vectors (Changes N m) j (get_or row j 0))
    → (vectors : List (List Bool)) → length vectors ≡ count → AreBlocksOf N vectors blocks → (j : ℕ) → j < k + 1
    → IsWordWhere vectors (Changes N m) j (get_or (set row k (bit_and differs used)) j 0)
changes_more N m blocks count k words row differs used low words_are room tells use_is before vectors long are j within =
    elim (cases_eq j k) [
      | inl e ↦ rw (e, get_or-set_same row k (bit_and differs used) 0 room) (λ b inside.
          let values : HasValues N words b (vector_at vectors (64 * k + b)) =
          subst (λ w. HasValues N w b (vector_at vectors (64 * k + b))) (sym words_are) ((are.each k low).values b inside) in
          let iff = tells b (vector_at vectors (64 * k + b)) inside values in (
            λ set.
                let parts = and_parts (word_bit differs b) (word_bit used b) (sym (and_bit differs used b) ∙ set) in
                (omega (arith, ltb-true (64 * k + b) count (sym (use_is b inside) ∙ parts.1), long), iff.0 parts.0),
            λ h. and_bit differs used b ∙ and_from (word_bit differs b) (word_bit used b) (iff.1 h.1) (use_is b inside ∙ lt-ltb (64 * k + b) count (omega (arith, h.0, long))),
          ))
      | inr other ↦ rw (get_or-set_other row k j (bit_and differs used) 0 other) (before vectors long are j (omega arith))
    ]

pub changes_all : (N : NetValue) (m : Move) (blocks : List (List ℕ)) (count k : ℕ) (row : List ℕ) → length row ≡ word_count count → length blocks ≡ word_count count → length blocks ≤ k
    → ((vectors : List (List Bool)) → length vectors ≡ count → AreBlocksOf N vectors blocks → (j : ℕ) → j < k → IsWordWhere vectors (Changes N m) j (get_or row j 0))
    → (vectors : List (List Bool)) → length vectors ≡ count → AreBlocksOf N vectors blocks → IsRowWhere vectors (Changes N m) row
changes_all N m blocks count k row room whole past each vectors long are =
    row_where vectors (Changes N m) row (room ∙ ap word_count (sym long)) (λ j low. each vectors long are j (omega (arith, room, whole)))

-- a bit that tells where a move breaks, from a bit that tells where it matters and one that tells where the net itself exceeds the bound
abbrev pub TellsBroken : NetValue → Move → List Bool → Bool → Bool → Bool → Type 0
TellsBroken N m x care exceeds bit = IsTrue bit ↔ ((Changes N m x × IsTrue care) ⊎ ((¬ Changes N m x) × IsTrue exceeds))

-- one of two bits, by a third
pub chosen_bit : (differs care exceeds b : ℕ) → differs < 2 ^ 64 → b < 64
    → word_bit (bit_or (bit_and differs care) (bit_and exceeds (bit_not w64 differs))) b ≡ (if word_bit differs b then word_bit care b else word_bit exceeds b)
chosen_bit differs care exceeds b fits inside =
    or_bit (bit_and differs care) (bit_and exceeds (bit_not w64 differs)) b
    ∙ (λ j. and_bit differs care b j || (and_bit exceeds (bit_not w64 differs) b ∙ ap (λ y. word_bit exceeds b && y) (not_bit differs b fits inside)) j)
    ∙ chosen (word_bit differs b) (word_bit care b) (word_bit exceeds b)
  where
    chosen : (d c e : Bool) → ((d && c) || (e && not d)) ≡ (if d then c else e)
    chosen true true true = refl
    chosen true true false = refl
    chosen true false true = refl
    chosen true false false = refl
    chosen false true true = refl
    chosen false true false = refl
    chosen false false true = refl
    chosen false false false = refl

pub broken_bits : (N : NetValue) (m : Move) (x : List Bool) (differs care exceeds bit : Bool) → IsTrue differs ↔ Changes N m x → bit ≡ (if differs then care else exceeds)
    → TellsBroken N m x care exceeds bit
broken_bits N m x true care exceeds bit iff is = (
  λ set. inl (iff.0 refl, sym is ∙ set),
  λ h. is ∙ elim h [
    | inl changed ↦ changed.1
    | inr left ↦ absurd (left.0 (iff.0 refl))
  ],
)
broken_bits N m x false care exceeds bit iff is =
    let stays : ¬ Changes N m x = λ changes. (let set : false ≡ true = iff.1 changes in cc) in (
      λ set. inr (stays, sym is ∙ set),
      λ h. is ∙ elim h [
        | inl changed ↦ absurd (stays changed.0)
        | inr left ↦ left.1
      ],
    )

-- where neither word has a bit
pub broken_nowhere : (N : NetValue) (m : Move) (x : List Bool) (care exceeds b : ℕ) → care ≡ 0 → exceeds ≡ 0 → TellsBroken N m x (word_bit care b) (word_bit exceeds b) (word_bit 0 b)
broken_nowhere N m x care exceeds b no_care none =
    let clear : word_bit 0 b ≡ false = zero_bit b in
    let care_is : word_bit care b ≡ false = ap (λ w. word_bit w b) no_care ∙ clear in
    let exceeds_is : word_bit exceeds b ≡ false = ap (λ w. word_bit w b) none ∙ clear in (
      λ set. absurd (cc),
      λ h. elim h [
        | inl changed ↦ absurd (let set : word_bit care b ≡ true = changed.1 in cc)
        | inr left ↦ absurd (let set : word_bit exceeds b ≡ true = left.1 in cc)
      ],
    )

-- a row of one word
only_word : (word b : ℕ) → b < 64 → row_bit (word ∷ []) b ≡ word_bit word b
only_word word b low =
    let place : b ≡ 64 * 0 + b = omega arith in
    ap (row_bit (word ∷ [])) place ∙ row_bit-word (word ∷ []) 0 b low

module _ (metric : Metric) (E N : NetValue) (bound : ℕ) (m : Move) (vectors : List (List Bool)) where
  abbrev Broken : ℕ → Type 0
  Broken p = IsBrokenAt metric E bound N m (vector_at vectors p)

  -- the first bit of a block behind blocks that break nowhere
  pub broken_first : (k word t p : ℕ) → p ≡ 64 * k + t
      → ((b : ℕ) → b < 64 → (word_bit word b ≡ true) ↔ ((64 * k + b < length vectors) × IsBrokenAt metric E bound N m (vector_at vectors (64 * k + b))))
      → IsFirstSet (word ∷ []) 64 t
      → ((q : ℕ) → q < 64 * k → q < length vectors → ¬ IsBrokenAt metric E bound N m (vector_at vectors q)) → IsFirstBroken (record {
        exact = E;
        net = N;
        metric = metric;
        bound = bound;
        vectors = vectors;
      }) m p
  broken_first k word t p at bits first before =
      let here = (bits t first.within).0 (sym (only_word word t first.within) ∙ first.set) in
      record {
        within = omega (arith, here.0);
        broken = subst Broken (sym at) here.1;
        first = λ q low broken.
            elim (cases_lt q (64 * k)) [
              | inl old ↦ before q old (omega (arith, here.0)) broken
              | inr new ↦
                  let b : ℕ = q - 64 * k in
                  let place : q ≡ 64 * k + b = omega arith in
                  let set : word_bit word b ≡ true = (bits b (omega (arith, first.within))).1 (omega (arith, here.0), subst Broken place broken) in
                  let clear : word_bit word b ≡ false = sym (only_word word b (omega (arith, first.within))) ∙ first.before b (omega arith) in
                  cc
            ];
      }

  -- a block without a bit
  pub broken_none : (k word : ℕ)
      → ((b : ℕ) → b < 64 → (word_bit word b ≡ true) ↔ ((64 * k + b < length vectors) × IsBrokenAt metric E bound N m (vector_at vectors (64 * k + b))))
      → HasNoneSet (word ∷ []) 64
      → ((q : ℕ) → q < 64 * k → q < length vectors → ¬ IsBrokenAt metric E bound N m (vector_at vectors q))
      → (q : ℕ) → q < 64 * (k + 1) → q < length vectors → ¬ IsBrokenAt metric E bound N m (vector_at vectors q)
  broken_none k word bits none before q low within broken =
      elim (cases_lt q (64 * k)) [
        | inl old ↦ before q old within broken
        | inr new ↦
            let b : ℕ = q - 64 * k in
            let place : q ≡ 64 * k + b = omega arith in
            let set : word_bit word b ≡ true = (bits b (omega arith)).1 (omega arith, subst Broken place broken) in
            let clear : word_bit word b ≡ false = sym (only_word word b (omega arith)) ∙ none b (omega arith) in
            cc
      ]

module _ (metric : Metric) (E N : NetValue) (bound : ℕ) (m : Move) (sound : IsSound N) (is : IsMoveOf N m) (vectors : List (List Bool)) (blocks : List (List ℕ)) (care exceeds : List ℕ)
    (are : AreBlocksOf N vectors blocks) (cared : IsRowWhere vectors (IsCaredFor metric E bound N (table_of m)) care) (exceeded : IsRowWhere vectors (Exceeds metric E bound N) exceeds) where
  -- a bit of a row is 1 at a pattern alone
  at_pattern : (P : List Bool → Type 0) (row : List ℕ) → IsRowWhere vectors P row → (p : ℕ) → row_bit row p ≡ true → p < length vectors
  at_pattern P row holds p set =
      elim (cases_lt p (length vectors)) [
        | inl low ↦ low
        | inr past ↦ absurd (let clear : row_bit row p ≡ false = holds.clear p past in cc)
      ]

  pub broken_bit : (k word : ℕ) (words : List ℕ) → k < length blocks → words ≡ row_at blocks k
      → ((b : ℕ) (x : List Bool) → b < 64 → HasValues N words b x → TellsBroken N m x (word_bit (get_or care k 0) b) (word_bit (get_or exceeds k 0) b) (word_bit word b))
      → (b : ℕ) → b < 64 → (word_bit word b ≡ true) ↔ ((64 * k + b < length vectors) × IsBrokenAt metric E bound N m (vector_at vectors (64 * k + b)))
  broken_bit k word words low words_are tells b inside =
      let p : ℕ = 64 * k + b in
      let x : List Bool = vector_at vectors p in
      let values : HasValues N words b x = subst (λ w. HasValues N w b x) (sym words_are) ((are.each k low).values b inside) in
      let iff = tells b x inside values in
      let law = move-broken N m x sound is metric E bound in
      let care_is : row_bit care p ≡ word_bit (get_or care k 0) b = row_bit-word care k b inside in
      let exceeds_is : row_bit exceeds p ≡ word_bit (get_or exceeds k 0) b = row_bit-word exceeds k b inside in (
        λ set. elim (iff.0 set) [
          | inl changed ↦
              let here : p < length vectors = at_pattern (IsCaredFor metric E bound N (table_of m)) care cared p (care_is ∙ changed.1) in
              (here, law.1 (inl (changed.0, (cared.bits p here).0 (care_is ∙ changed.1))))
          | inr left ↦
              let here : p < length vectors = at_pattern (Exceeds metric E bound N) exceeds exceeded p (exceeds_is ∙ left.1) in
              (here, law.1 (inr (left.0, (exceeded.bits p here).0 (exceeds_is ∙ left.1))))
        ],
        λ h. elim (law.0 h.1) [
          | inl changed ↦ iff.1 (inl (changed.0, sym care_is ∙ (cared.bits p h.0).1 changed.1))
          | inr left ↦ iff.1 (inr (left.0, sym exceeds_is ∙ (exceeded.bits p h.0).1 left.1))
        ],
      )
