-- Comments mean nothing.
use Rattle.std.proofs.Common.{◌≡◌, ◌≢◌, ℕ, suc, ◌+◌, Bool, true, false, ◌==◌, not, cond, ltb, List, [], ◌∷◌, ◌++◌, map, length, take, All, Option, Some, None, refl, ap, sym, ◌∙◌, inl, inr}
use Rattle.std.proofs.Common.{append-nil, arith}
use Rattle.std.specs.List.{onto_first, position_or_len}
use Rattle.std.proofs.lemmas.Bool.{cases_lt, lt-ltb, le-ltb, ne_eqb}
use Rattle.std.proofs.lemmas.List.{take_all}
use Rattle.std.proofs.lemmas.List.Elements.{All-weaker, All-cons}
use Rattle.std.proofs.lemmas.List.Splits.{slice_split_none, slice_split_at}
use Rattle.semantics.specs.Texts.{Bytes}
use Rattle.blif_semantics.specs.Lines.{physical_lines, without_comment, LogicalLine, line_before, logical_from, logical_lines}

abbrev is_mark : ℕ → Bool
is_mark b = b == 35

-- ---- a comment is cut byte by byte

without_comment-take : (line : Bytes) → without_comment line ≡ take (position_or_len is_mark line) line
without_comment-take line =
    let place : ℕ = position_or_len is_mark line in
    let cut : Option ℕ → Bytes = λ found. elim found [ None ↦ line | Some at ↦ take at line ] in
    let test : (t : Bool) → ltb place (length line) ≡ t → without_comment line ≡ cut (cond t (Some place) None) = λ t e. ap (λ t. cut (cond t (Some place) None)) e in
    elim (cases_lt place (length line)) [
      | inl within ↦ test true (lt-ltb place (length line) within)
      | inr past ↦ test false (le-ltb place (length line) past) ∙ sym (take_all place line past)
    ]

pub without_comment-cons : (b : ℕ) (line : Bytes) → without_comment (b ∷ line) ≡ cond (is_mark b) [] (b ∷ without_comment line)
without_comment-cons b line = without_comment-take (b ∷ line) ∙ at_test (is_mark b) ∙ ap (λ rest. cond (is_mark b) [] (b ∷ rest)) (sym (without_comment-take line))
  where
    at_test : (t : Bool) → take (cond (not t) (1 + position_or_len is_mark line) 0) (b ∷ line) ≡ cond t [] (b ∷ take (position_or_len is_mark line) line)
    at_test true = refl
    at_test false = let more : 1 + position_or_len is_mark line ≡ suc (position_or_len is_mark line) = omega arith in rw more refl

-- ---- logical lines are those of the physical lines as the cut leaves them

pub cut_lines : Bytes → List Bytes
cut_lines text = map without_comment (physical_lines text)

logical_from_cut : ℕ → List Bytes → List LogicalLine
logical_from_cut number [] = []
logical_from_cut number (line ∷ lines) = line_before number line (logical_from_cut (number + 1) lines)

logical_from-cut : (number : ℕ) (lines : List Bytes) → logical_from number lines ≡ logical_from_cut number (map without_comment lines)
unfolding logical_from_cut
logical_from-cut number [] = refl
logical_from-cut number (line ∷ lines) = ap (line_before number (without_comment line)) (logical_from-cut (number + 1) lines)

pub same_cut : (text other : Bytes) → cut_lines text ≡ cut_lines other → logical_lines text ≡ logical_lines other
unfolding cut_lines logical_lines
same_cut text other e = logical_from-cut 1 (physical_lines text) ∙ ap (logical_from_cut 1) e ∙ sym (logical_from-cut 1 (physical_lines other))

-- ---- the lines of a byte and a text

cut_onto : ℕ → List Bytes → List Bytes
cut_onto b [] = cond (is_mark b) [] (b ∷ []) ∷ []
cut_onto b (line ∷ lines) = cond (is_mark b) [] (b ∷ line) ∷ lines

cut_lines-cons : (b : ℕ) (text : Bytes) → cut_lines (b ∷ text) ≡ cond (b == 10) ([] ∷ cut_lines text) (cut_onto b (cut_lines text))
unfolding cut_lines cut_onto
cut_lines-cons b text = at_test (b == 10)
  where
    onto : (lines : List Bytes) → map without_comment (onto_first b lines) ≡ cut_onto b (map without_comment lines)
    onto [] = ap (λ line. line ∷ []) (without_comment-cons b [])
    onto (line ∷ lines) = ap (λ cut. cut ∷ map without_comment lines) (without_comment-cons b line)

    at_test : (t : Bool) → map without_comment (cond t ([] ∷ physical_lines text) (onto_first b (physical_lines text))) ≡ cond t ([] ∷ cut_lines text) (cut_onto b (cut_lines text))
    at_test true = refl
    at_test false = onto (physical_lines text)

cut_behind : (before text other : Bytes) → cut_lines text ≡ cut_lines other → cut_lines (before ++ text) ≡ cut_lines (before ++ other)
cut_behind [] text other e = e
cut_behind (b ∷ before) text other e =
    cut_lines-cons b (before ++ text)
    ∙ ap (λ lines. cond (b == 10) ([] ∷ lines) (cut_onto b lines)) (cut_behind before text other e)
    ∙ sym (cut_lines-cons b (before ++ other))

-- ---- comments

comment_bytes : (bytes : Bytes) → All (λ b. b ≢ 10) bytes → All (λ b. (b == 10) ≡ false) (35 ∷ bytes)
comment_bytes bytes h = All-cons (λ b. (b == 10) ≡ false) 35 bytes refl (All-weaker (λ b. b ≢ 10) (λ b. (b == 10) ≡ false) (λ b ne. ne_eqb b 10 ne) bytes h)

pub comment : (before bytes after : Bytes) → All (λ b. b ≢ 10) bytes → logical_lines (before ++ 35 ∷ (bytes ++ 10 ∷ after)) ≡ logical_lines (before ++ 10 ∷ after)
unfolding cut_lines
comment before bytes after h =
    let split = slice_split_at (λ b. b == 10) (35 ∷ bytes) 10 after (comment_bytes bytes h) refl in
    let here : cut_lines (35 ∷ (bytes ++ 10 ∷ after)) ≡ cut_lines (10 ∷ after)
    = ap (map without_comment) split ∙ ap (λ line. line ∷ map without_comment (physical_lines after)) (without_comment-cons 35 bytes) in
    same_cut (before ++ 35 ∷ (bytes ++ 10 ∷ after)) (before ++ 10 ∷ after) (cut_behind before (35 ∷ (bytes ++ 10 ∷ after)) (10 ∷ after) here)

pub last_comment : (before bytes : Bytes) → All (λ b. b ≢ 10) bytes → logical_lines (before ++ 35 ∷ bytes) ≡ logical_lines before
unfolding cut_lines
last_comment before bytes h =
    let split = slice_split_none (λ b. b == 10) (35 ∷ bytes) (comment_bytes bytes h) in
    let here : cut_lines (35 ∷ bytes) ≡ cut_lines [] = ap (map without_comment) split ∙ ap (λ line. line ∷ []) (without_comment-cons 35 bytes) in
    same_cut (before ++ 35 ∷ bytes) (before ++ []) (cut_behind before (35 ∷ bytes) [] here) ∙ ap logical_lines (append-nil before)
