-- What each byte of a text of vectors says of it.
use Rattle.std.proofs.Common.{◌≡◌, ◌≢◌, ℕ, ◌+◌, ◌<◌, ◌≤◌, Bool, true, false, ◌==◌, ◌&&◌, nat_lt, if◌then◌else◌, List, [], ◌∷◌, ◌++◌, take, drop, length, get_or, refl, ap, sym}
use Rattle.std.proofs.Common.{subst, ◌∙◌, append_assoc, inl, inr, arith}
use Rattle.std.specs.List.{AllByRecursion}
use Rattle.std.proofs.lemmas.Bool.{and_parts, eqb-true, eqb-false, eq-eqb, ne_eqb, or_cases, lt-ltb}
use Rattle.std.proofs.lemmas.List.{append-nil, length-append, length-map, length_push, map-append, take_all, take_more, get_or-map, get_or_append_left, take-append-drop}
use Rattle.std.proofs.lemmas.Grind.{flat_map-append}
use Rattle.std.proofs.Math.Seq.{get_or-append_seam}
use Rattle.semantics.specs.Texts.{Bytes, bit_byte, bits_word}
use Rattle.job_semantics.specs.Certificate.{IsVectorsText}
use Rattle.blif_semantics.proofs.NetLines.{all_append}
use Rattle.file_reading.specs.Reading.{IsAllWanted}
use Rattle.bundle_texts.specs.Pieces.{is_bit_digit}
use Rattle.bundle_texts.specs.Reading.{HoldsVectors}
use Rattle.bundle_writing.specs.VectorLines.{vector_line, vector_lines}
use Rattle.bundle_texts.specs.VectorsTaken.{TakenValue, is_next_byte, with_byte, are_whole, BeginWith, AreVectorsSoFar, NeverVectors}
use Rattle.bundle_texts.specs.VectorLine.{LineValue, line_of, is_next, line_after}
use Rattle.bundle_writing.proofs.VectorTexts.{vectors_text-is}
use Rattle.bundle_texts.proofs.VectorCuts.{assoc_line, lines_behind}

abbrev AreWide : ℕ → List (List Bool) → Type 0
AreWide inputs xs = AllByRecursion (λ x. length x ≡ inputs) xs

pub starts_right : (witness : List Bool) (v : TakenValue) (text : Bytes) → v ≡ record { inputs = length witness; vectors = []; begun = [] } → text ≡ [] → AreVectorsSoFar witness v text
starts_right witness v text is none =
    subst (λ u. AreVectorsSoFar witness u text) (sym is)
    (record { text_is = none; inputs_are = refl; widths = tt; few = omega arith; first = refl })

-- ---- what may come next

some_vectors : (x : List Bool) (xs : List (List Bool)) → (length (x ∷ xs) == 0) ≡ false
some_vectors x xs = ne_eqb (length (x ∷ xs)) 0 (λ e. omega (arith, e))

digit_is : (byte : ℕ) → is_bit_digit byte ≡ true → bit_byte (byte == 49) ≡ byte
digit_is byte h =
    elim (or_cases (byte == 48) (byte == 49) h) [
      | inl low ↦ let is : byte ≡ 48 = eqb-true byte 48 low in ap (λ b. bit_byte b) (ne_eqb byte 49 (λ e. omega (arith, is, e))) ∙ sym is
      | inr high ↦ ap (λ b. bit_byte b) high ∙ sym (eqb-true byte 49 high)
    ]

digit_of : (b : Bool) (byte : ℕ) → byte ≡ bit_byte b → (is_bit_digit byte ≡ true) × ((byte == 49) ≡ b)
digit_of true byte is = rw is (refl, refl)
digit_of false byte is = rw is (refl, refl)

begin_same : (witness : List Bool) (vectors : List (List Bool)) (begun : List Bool) → BeginWith witness vectors begun → length begun ≡ length witness → BeginWith witness (vectors ++ begun ∷ []) []
begin_same witness [] begun first width = first ∙ ap (λ n. take n witness) width ∙ take_all (length witness) witness (omega arith)
begin_same witness (x ∷ pool) begun first width = first

module _ (witness : List Bool) (v : TakenValue) (text : Bytes) (byte : ℕ) (h : AreVectorsSoFar witness v text) where
  -- the line ends
  line_ends : length v.begun ≡ length witness → byte ≡ 10 → AreVectorsSoFar witness (record v { vectors = v.vectors ++ v.begun ∷ []; begun = [] }) (text ++ byte ∷ [])
  line_ends width is = record {
    text_is =
        (λ i. h.text_is i ++ is i ∷ [])
        ∙ append_assoc (vector_lines v.vectors) (bits_word v.begun) (10 ∷ [])
        ∙ ap (λ t. vector_lines v.vectors ++ t) (sym (append-nil (vector_line v.begun)))
        ∙ sym (flat_map-append vector_line v.vectors (v.begun ∷ []))
        ∙ sym (append-nil (vector_lines (v.vectors ++ v.begun ∷ [])));
    inputs_are = h.inputs_are;
    widths = all_append (λ x. length x ≡ v.inputs) v.vectors (v.begun ∷ []) h.widths (width ∙ sym h.inputs_are, tt);
    few = omega arith;
    first = begin_same witness v.vectors v.begun h.first width;
  }

  -- one more bit came
  bit_comes : length v.begun < v.inputs → is_bit_digit byte ≡ true → BeginWith witness v.vectors (v.begun ++ (byte == 49) ∷ [])
      → AreVectorsSoFar witness (record v { begun = v.begun ++ (byte == 49) ∷ [] }) (text ++ byte ∷ [])
  bit_comes within digit first = record {
    text_is =
        ap (λ t. t ++ byte ∷ []) h.text_is
        ∙ append_assoc (vector_lines v.vectors) (bits_word v.begun) (byte ∷ [])
        ∙ ap (λ t. vector_lines v.vectors ++ t)
        ((λ i. bits_word v.begun ++ sym (digit_is byte digit) i ∷ []) ∙ sym (map-append bit_byte v.begun ((byte == 49) ∷ [])));
    inputs_are = h.inputs_are;
    widths = h.widths;
    few = omega (arith, length_push v.begun (byte == 49));
    first = first;
  }

  narrow : (length v.begun == length witness) ≡ false → length v.begun < v.inputs
  narrow other = omega (arith, h.few, h.inputs_are, eqb-false (length v.begun) (length witness) other)

  bit_right : (vectors : List (List Bool)) (begun : List Bool) → BeginWith witness vectors begun → length begun < length witness
      → (if length vectors == 0 then byte == bit_byte (get_or witness (length begun) false) else is_bit_digit byte) ≡ true
      → (is_bit_digit byte ≡ true) × BeginWith witness vectors (begun ++ (byte == 49) ∷ [])
  bit_right [] begun first within told =
      let digit = digit_of (get_or witness (length begun) false) byte (eqb-true byte (bit_byte (get_or witness (length begun) false)) told) in (
        digit.0,
        (λ i. first i ++ digit.1 i ∷ [])
            ∙ sym (take_more witness (length begun) false within) ∙ ap (λ n. take n witness)
            (sym (let e : length (begun ++ (byte == 49) ∷ []) ≡ length begun + 1 = omega (arith, length_push begun (byte == 49)) in e)),
      )
  bit_right (x ∷ pool) begun first within told =
      (sym (ap (λ t. if t then byte == bit_byte (get_or witness (length begun) false) else is_bit_digit byte) (some_vectors x pool)) ∙ told, first)

  pub next_right : is_next_byte witness v byte ≡ true → AreVectorsSoFar witness (with_byte v byte) (text ++ byte ∷ [])
  next_right told = at (length v.begun == length witness) refl told where
    same : (t : Bool) → (length v.begun == length witness) ≡ t
        → with_byte v byte ≡ (if t then record v { vectors = v.vectors ++ v.begun ∷ []; begun = [] } else record v { begun = v.begun ++ (byte == 49) ∷ [] })
    same t is =
        ap (λ b. if b then record v { vectors = v.vectors ++ v.begun ∷ []; begun = [] } else record v { begun = v.begun ++ (byte == 49) ∷ [] })
        (ap (λ n. length v.begun == n) h.inputs_are ∙ is)

    at : (t : Bool) → (length v.begun == length witness) ≡ t
        → (if t then byte == 10 else (if length v.vectors == 0 then byte == bit_byte (get_or witness (length v.begun) false) else is_bit_digit byte)) ≡ true
        → AreVectorsSoFar witness (with_byte v byte) (text ++ byte ∷ [])
    at true is told =
        subst (λ u. AreVectorsSoFar witness u (text ++ byte ∷ [])) (sym (same true is)) (line_ends (eqb-true (length v.begun) (length witness) is) (eqb-true byte 10 told))
    at false is told =
        let within = narrow is in
        let next = bit_right v.vectors v.begun h.first (omega (arith, within, h.inputs_are)) told in
        subst (λ u. AreVectorsSoFar witness u (text ++ byte ∷ [])) (sym (same false is)) (bit_comes within next.0 next.1)

-- ---- what can't come next

wide_member : (inputs : ℕ) (us ws : List (List Bool)) (w : List Bool) → AreWide inputs (us ++ w ∷ ws) → length w ≡ inputs
wide_member inputs [] ws w wide = wide.0
wide_member inputs (u ∷ us) ws w wide = wide_member inputs us ws w wide.1

module _ (w : List Bool) (ws : List (List Bool)) (begun : List Bool) (byte : ℕ) (more : Bytes) (line : bits_word begun ++ byte ∷ more ≡ bits_word w ++ 10 ∷ vector_lines ws) where
  byte_is : byte ≡ get_or (bits_word w ++ 10 ∷ vector_lines ws) (length begun) 0
  byte_is =
      sym (get_or-append_seam (bits_word begun) byte more 0)
      ∙ ap (λ n. get_or (bits_word begun ++ byte ∷ more) n 0) (length-map begun bit_byte) ∙ ap (λ t. get_or t (length begun) 0) line

  end_is : length begun ≡ length w → byte ≡ 10
  end_is width =
      byte_is
      ∙ ap (λ n. get_or (bits_word w ++ 10 ∷ vector_lines ws) n 0) (width ∙ sym (length-map w bit_byte)) ∙ get_or-append_seam (bits_word w) 10 (vector_lines ws) 0

  bit_is : length begun < length w → byte ≡ bit_byte (get_or w (length begun) false)
  bit_is within =
      byte_is
      ∙ get_or_append_left (bits_word w) (10 ∷ vector_lines ws) 0 (length begun) (omega (arith, within, length-map w bit_byte))
      ∙ get_or-map bit_byte w (length begun) false 0 within

  bit_follows : (witness : List Bool) (pool vectors : List (List Bool)) → witness ∷ pool ≡ vectors ++ w ∷ ws → length begun < length w
      → (if length vectors == 0 then byte == bit_byte (get_or witness (length begun) false) else is_bit_digit byte) ≡ true
  bit_follows witness pool [] are within =
      let first : witness ≡ w = ap (λ l. get_or l 0 []) are in
      eq-eqb byte (bit_byte (get_or witness (length begun) false)) (bit_is within ∙ ap (λ x. bit_byte (get_or x (length begun) false)) (sym first))
  bit_follows witness pool (x ∷ others) are within =
      ap (λ t. if t then byte == bit_byte (get_or witness (length begun) false) else is_bit_digit byte) (some_vectors x others)
      ∙ (digit_of (get_or w (length begun) false) byte (bit_is within)).0

  pub follows : (witness : List Bool) (v : TakenValue) (pool : List (List Bool)) → v.begun ≡ begun → length begun ≤ length witness → length w ≡ length witness
      → witness ∷ pool ≡ v.vectors ++ w ∷ ws → is_next_byte witness v byte ≡ true
  follows witness v pool same few width are = at (length v.begun == length witness) refl where
    count : length v.begun ≡ length begun
    count = ap length same

    at : (t : Bool) → (length v.begun == length witness) ≡ t
        → (if t then byte == 10 else (if length v.vectors == 0 then byte == bit_byte (get_or witness (length v.begun) false) else is_bit_digit byte)) ≡ true
    at true is = eq-eqb byte 10 (end_is (sym count ∙ eqb-true (length v.begun) (length witness) is ∙ sym width))
    at false is =
        ap (λ n. if length v.vectors == 0 then byte == bit_byte (get_or witness n false) else is_bit_digit byte) count
        ∙ bit_follows witness pool v.vectors are (omega (arith, few, width, count, eqb-false (length v.begun) (length witness) is))

module _ (witness : List Bool) (v : TakenValue) (text : Bytes) (h : AreVectorsSoFar witness v text) where
  wide : AreWide (length witness) v.vectors
  wide = subst (λ n. AreWide n v.vectors) h.inputs_are h.widths

  few_bits : length v.begun ≤ length witness
  few_bits = omega (arith, h.few, h.inputs_are)

  pub next_wrong : (byte : ℕ) → is_next_byte witness v byte ≡ false → NeverVectors witness (text ++ byte ∷ [])
  next_wrong byte fails more pool k = here behind.0 behind.1 behind.2 where
    same : vector_lines v.vectors ++ (bits_word v.begun ++ byte ∷ more) ≡ vector_lines (witness ∷ pool)
    same =
        sym (append_assoc (vector_lines v.vectors) (bits_word v.begun) (byte ∷ more))
        ∙ ap (λ t. t ++ byte ∷ more) (sym h.text_is) ∙ sym (append_assoc text (byte ∷ []) more) ∙ k.spelled ∙ sym (vectors_text-is witness pool)

    behind : (ws : List (List Bool)) × (bits_word v.begun ++ byte ∷ more ≡ vector_lines ws) × (witness ∷ pool ≡ v.vectors ++ ws)
    behind = lines_behind (length witness) v.vectors (witness ∷ pool) (bits_word v.begun ++ byte ∷ more) wide k.widths same

    here : (ws : List (List Bool)) → bits_word v.begun ++ byte ∷ more ≡ vector_lines ws → witness ∷ pool ≡ v.vectors ++ ws → ⊥
    here [] is are = omega (arith, ap length is, length-append (bits_word v.begun) (byte ∷ more))
    here (w ∷ ws) is are =
        let width = wide_member (length witness) v.vectors ws w (subst (AreWide (length witness)) are k.widths) in
        let told : is_next_byte witness v byte ≡ true = follows w ws v.begun byte more (is ∙ assoc_line w (vector_lines ws)) witness v pool refl few_bits width are in
        cc

  -- ---- at the end

  some_bits : (b : Bool) (begun : List Bool) (t : Bool) → ((length (b ∷ begun) == 0) && t) ≡ true → ⊥
  some_bits b begun t whole = omega (arith, eqb-true (length (b ∷ begun)) 0 (and_parts (length (b ∷ begun) == 0) t whole).0)

  holds_all : (vectors : List (List Bool)) (begun : List Bool) → v.vectors ≡ vectors → v.begun ≡ begun → BeginWith witness vectors begun
      → are_whole (record v { vectors = vectors; begun = begun }) ≡ true
      → HoldsVectors (length witness) text witness v.vectors
  holds_all [] [] is same first whole = absurd (cc (whole))
  holds_all [] (b ∷ begun) is same first whole = absurd (some_bits b begun (nat_lt 0 0) whole)
  holds_all (x ∷ pool) (b ∷ begun) is same first whole = absurd (some_bits b begun (nat_lt 0 (length (x ∷ pool))) whole)
  holds_all (x ∷ pool) [] is same first whole =
      let are : v.vectors ≡ witness ∷ pool = is ∙ ap (λ w. w ∷ pool) first in
      record {
        pool = pool;
        vectors_are = are;
        read = record {
          spelled = h.text_is ∙ (λ i. vector_lines (are i) ++ bits_word (same i)) ∙ append-nil (vector_lines (witness ∷ pool)) ∙ vectors_text-is witness pool;
          widths = subst (AreWide (length witness)) are wide;
        };
      }

  pub ends_right : are_whole v ≡ true → HoldsVectors (length witness) text witness v.vectors
  ends_right whole = holds_all v.vectors v.begun refl refl h.first whole

  some_whole : (vectors : List (List Bool)) (begun : List Bool) (pool : List (List Bool)) → witness ∷ pool ≡ vectors ++ [] → bits_word begun ≡ []
      → are_whole (record v { vectors = vectors; begun = begun }) ≡ true
  some_whole [] begun pool are none = absurd (omega (arith, ap length are))
  some_whole (x ∷ vectors) [] pool are none = lt-ltb 0 (length (x ∷ vectors)) (omega arith)
  some_whole (x ∷ vectors) (b ∷ begun) pool are none = absurd (omega (arith, ap length none))

  pub ends_wrong : are_whole v ≡ false → (pool : List (List Bool)) → ¬ IsVectorsText (length witness) text witness pool
  ends_wrong fails pool k = here behind.0 behind.1 behind.2 where
    behind : (ws : List (List Bool)) × (bits_word v.begun ≡ vector_lines ws) × (witness ∷ pool ≡ v.vectors ++ ws)
    behind =
        lines_behind (length witness) v.vectors (witness ∷ pool) (bits_word v.begun) wide k.widths (sym h.text_is ∙ k.spelled ∙ sym (vectors_text-is witness pool))

    here : (ws : List (List Bool)) → bits_word v.begun ≡ vector_lines ws → witness ∷ pool ≡ v.vectors ++ ws → ⊥
    here [] is are = let told : are_whole v ≡ true = some_whole v.vectors v.begun pool are is in absurd (cc (told, fails))
    here (w ∷ ws) is are =
        let width = wide_member (length witness) v.vectors ws w (subst (AreWide (length witness)) are k.widths) in
        omega (arith, few_bits, width, ap length is, length-map v.begun bit_byte, length-append (vector_line w) (vector_lines ws), length_push (bits_word w) 10, length-map w bit_byte)

-- ---- what is known of all the text that was wanted

pub whole_text : (content text : Bytes) (room : ℕ) → 0 < room → IsAllWanted content text room → text ≡ content
whole_text content text room going (inl whole) = whole
whole_text content text room going (inr (none, front)) = absurd (omega (arith, going, none))

pub never_vectors : (witness : List Bool) (content text : Bytes) (room : ℕ) → NeverVectors witness text → IsAllWanted content text room → (pool : List (List Bool))
    → ¬ IsVectorsText (length witness) content witness pool
never_vectors witness content text room never (inl whole) pool k =
    never [] pool (subst (λ t. IsVectorsText (length witness) t witness pool) (sym whole ∙ sym (append-nil text)) k)
never_vectors witness content text room never (inr (none, front)) pool k =
    never (drop (length text) content) pool
    (subst (λ t. IsVectorsText (length witness) t witness pool) (sym (take-append-drop (length text) content) ∙ ap (λ t. t ++ drop (length text) content) (sym front)) k)

pub never_more : (witness : List Bool) (text : Bytes) (byte : ℕ) → NeverVectors witness text → NeverVectors witness (text ++ byte ∷ [])
never_more witness text byte never more pool k =
    never (byte ∷ more) pool (subst (λ t. IsVectorsText (length witness) t witness pool) (append_assoc text (byte ∷ []) more) k)

-- ---- the line at hand

pub next_is : (witness : List Bool) (v : TakenValue) (byte : ℕ) → is_next witness (line_of v) byte ≡ is_next_byte witness v byte
next_is witness v byte = at v.vectors refl where
  at : (vectors : List (List Bool)) → v.vectors ≡ vectors → is_next witness (line_of v) byte ≡ is_next_byte witness v byte
  at [] is =
      ap (λ (xs : List (List Bool)). if length v.begun == length witness then byte == 10
      else (if nat_lt 0 (length xs) then is_bit_digit byte else byte == bit_byte (get_or witness (length v.begun) false))) is
      ∙ sym (ap (λ (xs : List (List Bool)). if length v.begun == length witness then byte == 10
      else (if length xs == 0 then byte == bit_byte (get_or witness (length v.begun) false) else is_bit_digit byte)) is)
  at (x ∷ xs) is =
      ap (λ (ys : List (List Bool)). if length v.begun == length witness then byte == 10
      else (if nat_lt 0 (length ys) then is_bit_digit byte else byte == bit_byte (get_or witness (length v.begun) false))) is
      ∙ ap (λ t. if length v.begun == length witness then byte == 10 else (if t then is_bit_digit byte else byte == bit_byte (get_or witness (length v.begun) false)))
      (lt-ltb 0 (length (x ∷ xs)) (omega arith))
      ∙ sym (ap (λ t. if length v.begun == length witness then byte == 10 else (if t then byte == bit_byte (get_or witness (length v.begun) false) else is_bit_digit byte)) (some_vectors x xs))
      ∙ sym (ap (λ (ys : List (List Bool)). if length v.begun == length witness then byte == 10
      else (if length ys == 0 then byte == bit_byte (get_or witness (length v.begun) false) else is_bit_digit byte)) is)

some_more : (vectors : List (List Bool)) (x : List Bool) → nat_lt 0 (length (vectors ++ x ∷ [])) ≡ true
some_more vectors x = lt-ltb 0 (length (vectors ++ x ∷ [])) (omega (arith, length_push vectors x))

pub after_is : (v : TakenValue) (byte : ℕ) → line_of (with_byte v byte) ≡ line_after (line_of v) byte
after_is v byte = at (length v.begun == v.inputs) refl where
  at : (t : Bool) → (length v.begun == v.inputs) ≡ t → line_of (with_byte v byte) ≡ line_after (line_of v) byte
  at true is =
      ap (λ t. line_of (if t then record v { vectors = v.vectors ++ v.begun ∷ []; begun = [] } else record v { begun = v.begun ++ (byte == 49) ∷ [] })) is
      ∙ ap (λ t. record { inputs = v.inputs; begun = []; has_ended = t }) (some_more v.vectors v.begun)
      ∙ sym (ap (λ t. if t then record (line_of v) { begun = []; has_ended = true } else record (line_of v) { begun = v.begun ++ (byte == 49) ∷ [] }) is)
  at false is =
      ap (λ t. line_of (if t then record v { vectors = v.vectors ++ v.begun ∷ []; begun = [] } else record v { begun = v.begun ++ (byte == 49) ∷ [] })) is
      ∙ sym (ap (λ t. if t then record (line_of v) { begun = []; has_ended = true } else record (line_of v) { begun = v.begun ++ (byte == 49) ∷ [] }) is)

-- the vectors once the line at hand has ended, and where it goes on
pub vectors_ended : (v : TakenValue) (byte : ℕ) → length v.begun ≡ v.inputs → (with_byte v byte).vectors ≡ v.vectors ++ v.begun ∷ []
vectors_ended v byte is =
    ap (λ t. (if t then record v { vectors = v.vectors ++ v.begun ∷ []; begun = [] } else record v { begun = v.begun ++ (byte == 49) ∷ [] }).vectors) (eq-eqb (length v.begun) v.inputs is)

pub vectors_still : (v : TakenValue) (byte : ℕ) → length v.begun ≢ v.inputs → (with_byte v byte).vectors ≡ v.vectors
vectors_still v byte other =
    ap (λ t. (if t then record v { vectors = v.vectors ++ v.begun ∷ []; begun = [] } else record v { begun = v.begun ++ (byte == 49) ∷ [] }).vectors) (ne_eqb (length v.begun) v.inputs other)

-- ---- the code's test of a byte

pub end_test : (witness : List Bool) (l : LineValue) (byte : ℕ) → length l.begun ≡ length witness → (byte == 10) ≡ is_next witness l byte
end_test witness l byte same =
    sym (ap (λ t. if t then byte == 10 else (if l.has_ended then is_bit_digit byte else byte == bit_byte (get_or witness (length l.begun) false)))
    (eq-eqb (length l.begun) (length witness) same))

pub digit_test : (witness : List Bool) (l : LineValue) (byte : ℕ) → length l.begun ≢ length witness → l.has_ended ≡ true → is_bit_digit byte ≡ is_next witness l byte
digit_test witness l byte other ended =
    sym (ap (λ t. if t then is_bit_digit byte else byte == bit_byte (get_or witness (length l.begun) false)) ended)
    ∙ sym (ap (λ t. if t then byte == 10 else (if l.has_ended then is_bit_digit byte else byte == bit_byte (get_or witness (length l.begun) false)))
    (ne_eqb (length l.begun) (length witness) other))

pub first_test : (witness : List Bool) (l : LineValue) (byte digit : ℕ) → length l.begun ≢ length witness → l.has_ended ≡ false → digit ≡ bit_byte (get_or witness (length l.begun) false)
    → (byte == digit) ≡ is_next witness l byte
first_test witness l byte digit other none is =
    ap (λ d. byte == d) is
    ∙ sym (ap (λ t. if t then is_bit_digit byte else byte == bit_byte (get_or witness (length l.begun) false)) none)
    ∙ sym (ap (λ t. if t then byte == 10 else (if l.has_ended then is_bit_digit byte else byte == bit_byte (get_or witness (length l.begun) false)))
    (ne_eqb (length l.begun) (length witness) other))
