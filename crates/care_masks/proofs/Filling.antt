-- What the masks hold once they are made.
use Rattle.std.proofs.Common.{◌≡◌, ℕ, ◌/◌, ◌%◌, ◌^◌, ◌<◌, Bool, false, List, [], map, length, All, ap, sym, ◌∙◌, arith}
use Rattle.std.specs.List.{AllByRecursion, range_with_len}
use Rattle.std.proofs.lemmas.List.{ext_get_or}
use Rattle.std.proofs.lemmas.List.FromFn.{length-map-range_with_len, get_or-map-range_with_len}
use Rattle.std.proofs.lemmas.List.Elements.{All-from_recursion}
use Rattle.semantics.specs.Net.{NetValue, input_count, table_count, IsAcyclic, IsSound}
use Rattle.semantics.specs.Value.{value_of}
use Rattle.semantics.specs.declared.metric.Metric.{Metric}
use Rattle.semantics.proofs.Values.{value_law}
use Rattle.chain_semantics.specs.Care.{IsCaredFor, Exceeds}
use Rattle.lane_bits.specs.Rows.{word_count}
use Rattle.lane_nets.specs.Words.{values_at}
use Rattle.lane_nets.specs.Blocks.{vector_at, row_at, IsRowWhere, IsBlock, AreBlocksOf}
use Rattle.care_masks.specs.Masks.{AreMasksOf}
use Rattle.care_masks.specs.Filled.{vectors_in, IsRowFor, AreFilled}
use Rattle.lane_nets.proofs.RowBits.{place_of}

-- the vectors are read back from the blocks
pub vectors-back : (N : NetValue) (vectors : List (List Bool)) (blocks : List (List ℕ)) → IsAcyclic (input_count N) N.tables → AreBlocksOf N vectors blocks
    → AllByRecursion (λ x. length x ≡ input_count N) vectors → vectors_in (input_count N) (length vectors) blocks ≡ vectors
vectors-back N vectors blocks acyclic are widths =
    let n : ℕ = input_count N in
    let all : All (λ x. length x ≡ n) vectors = All-from_recursion (λ x. length x ≡ n) vectors widths in
    let vector : ℕ → List Bool = λ p. map (values_at (row_at blocks (p / 64)) (p % 64)) (range_with_len 0 n) in
    ext_get_or [] (vectors_in n (length vectors) blocks) vectors (length-map-range_with_len vector 0 (length vectors))
    (λ p low.
    let within : p < length vectors = omega (arith, length-map-range_with_len vector 0 (length vectors)) in
    let block : IsBlock N vectors (p / 64) (row_at blocks (p / 64)) = are.each (p / 64) (omega (arith, are.count)) in
    get_or-map-range_with_len vector 0 (length vectors) p p [] within (omega arith)
    ∙ ext_get_or false (vector p) (vector_at vectors p) (length-map-range_with_len (values_at (row_at blocks (p / 64)) (p % 64)) 0 n ∙ sym (all p [] within))
    (λ s inside.
    let input : s < n = omega (arith, length-map-range_with_len (values_at (row_at blocks (p / 64)) (p % 64)) 0 n) in
    get_or-map-range_with_len (values_at (row_at blocks (p / 64)) (p % 64)) 0 n s s false input (omega arith)
    ∙ block.values (p % 64) (omega arith) s (omega arith)
    ∙ ap (λ (q : ℕ). value_of n N.tables (vector_at vectors q) s) (place_of p)
    ∙ (value_law n N.tables (vector_at vectors p) acyclic).consistent.input s input))

pub IsRowFor-where : (vectors : List (List Bool)) (P : List Bool → Type 0) (row : List ℕ) (count : ℕ) → count ≡ length vectors → IsRowWhere vectors P row → IsRowFor count row
IsRowFor-where vectors P row count is where_ = rw is (record { words = where_.words; clear = where_.clear })

module _ (metric : Metric) (E N : NetValue) (bound : ℕ) (vectors : List (List Bool)) (blocks care : List (List ℕ)) (exceeds : List ℕ) (count : ℕ)
    (sound : IsSound N) (is : count ≡ length vectors) (are : AreBlocksOf N vectors blocks)
    (widths : AllByRecursion (λ x. length x ≡ input_count N) vectors)
    (cared : (t : ℕ) → t < table_count N → IsRowWhere vectors (IsCaredFor metric E bound N t) (row_at care t)) (exceeded : IsRowWhere vectors (Exceeds metric E bound N) exceeds) where
  pub vectors_are : vectors_in (input_count N) count blocks ≡ vectors
  vectors_are = ap (λ k. vectors_in (input_count N) k blocks) is ∙ vectors-back N vectors blocks sound.acyclic are widths

  pub filled : (room : List ℕ) → count < 2 ^ 64 → length care ≡ table_count N → length room ≡ word_count count
      → AreFilled N count blocks (record { care = care; exceeds = exceeds; room = room })
  filled room few tables long = record {
    blocks = rw vectors_are are;
    sound = sound;
    few = few;
    tables = tables;
    care = λ t low. IsRowFor-where vectors (IsCaredFor metric E bound N t) (row_at care t) count is (cared t low);
    exceeds = IsRowFor-where vectors (Exceeds metric E bound N) exceeds count is exceeded;
    differs = long;
  }

  pub masked : AreMasksOf metric E bound (record { net = N; vectors = vectors_in (input_count N) count blocks; care = care; exceeds = exceeds })
  masked = rw vectors_are (record { care = cared; exceeds = exceeded })

-- as many vectors are read back as there are
pub vectors-count : (N : NetValue) (count : ℕ) (blocks : List (List ℕ)) → length (vectors_in (input_count N) count blocks) ≡ count
vectors-count N count blocks = length-map-range_with_len (λ p. map (values_at (row_at blocks (p / 64)) (p % 64)) (range_with_len 0 (input_count N))) 0 count
