-- The last line needs no LF, and a CR may stand before each.
use Rattle.std.proofs.Common.{◌≡◌, ℕ, ◌+◌, ◌-◌, ◌<◌, Bool, true, false, ◌==◌, not, cond, List, [], ◌∷◌, ◌++◌, map, length, take, get_or, filter, Option, Some, None, refl, ap, sym, subst, ◌∙◌, ◌⊎◌}
use Rattle.std.proofs.Common.{inl, inr, append-nil, append_assoc, arith}
use Rattle.std.specs.List.{slice_split, onto_first, suffix_len, prefix_len, AllZip}
use Rattle.std.proofs.lemmas.List.{length_push, take-append-le, reverse-append, map-append}
use Rattle.std.proofs.lemmas.List.Elements.{filter-append}
use Rattle.std.proofs.lemmas.List.Splits.{length-slice_split}
use Rattle.semantics.specs.Texts.{Bytes}
use Rattle.blif_semantics.specs.Lines.{is_blank, physical_lines, without_comment, trimmed, before_backslash, LogicalLine, joined_before, line_before, logical_from, logical_lines, words_of, Statement}
use Rattle.blif_semantics.specs.Lines.{statements}
use Rattle.blif_semantics.specs.Laws.{with_carriage_returns}
use Rattle.blif_semantics.proofs.Comments.{without_comment-cons}

-- ---- one element more at which a list is cut

onto_first-push : {X : Type 0} (x : X) (parts : List (List X)) → 0 < length parts → onto_first x (parts ++ [] ∷ []) ≡ onto_first x parts ++ [] ∷ []
onto_first-push x [] some = absurd (omega arith)
onto_first-push x (part ∷ parts) some = refl

slice_split-push : {X : Type 0} (test : X → Bool) (xs : List X) (x : X) → test x ≡ true → slice_split test (xs ++ x ∷ []) ≡ slice_split test xs ++ [] ∷ []
slice_split-push test [] x cut = rw cut refl
slice_split-push {X = X} test (y ∷ xs) x cut =
    ap (λ parts. cond (test y) ([] ∷ parts) (onto_first y parts)) (slice_split-push test xs x cut) ∙ at_test (test y)
  where
    parts : List (List X)
    parts = slice_split test xs

    at_test : (t : Bool) → cond t ([] ∷ (parts ++ [] ∷ [])) (onto_first y (parts ++ [] ∷ [])) ≡ cond t ([] ∷ parts) (onto_first y parts) ++ [] ∷ []
    at_test true = refl
    at_test false = onto_first-push y parts (omega (arith, length-slice_split test xs))

-- ---- an empty line at the end

abbrev empty_line : ℕ → LogicalLine
empty_line number = record { number = number; bytes = [] }

-- the longer list has the same lines, or one more line, which is empty
IsLonger : List LogicalLine → List LogicalLine → Type 0
IsLonger lines longer = (longer ≡ lines) ⊎ ((number : ℕ) × (longer ≡ lines ++ empty_line number ∷ []))

joined_longer : (line : LogicalLine) (lines longer : List LogicalLine) → IsLonger lines longer → IsLonger (joined_before line lines) (joined_before line longer)
unfolding IsLonger
joined_longer line lines longer (inl e) = inl (ap (joined_before line) e)
joined_longer line [] longer (inr h) = inl (ap (joined_before line) h.1 ∙ ap (λ bytes. record line { bytes = bytes } ∷ []) (append-nil line.bytes))
joined_longer line (next ∷ lines) longer (inr h) = inr (h.0, ap (joined_before line) h.1)

before_longer : (number : ℕ) (line : Bytes) (lines longer : List LogicalLine) → IsLonger lines longer → IsLonger (line_before number line lines) (line_before number line longer)
unfolding IsLonger
before_longer number line lines longer h = at_cut (before_backslash line)
  where
    after : List LogicalLine → Option Bytes → List LogicalLine
    after rest cut = elim cut [ None ↦ record { number = number; bytes = line } ∷ rest | Some bytes ↦ joined_before (record { number = number; bytes = bytes }) rest ]

    more : (longer ≡ lines) ⊎ ((number : ℕ) × (longer ≡ lines ++ empty_line number ∷ []))
        → IsLonger (record { number = number; bytes = line } ∷ lines) (record { number = number; bytes = line } ∷ longer)
    more (inl e) = inl (ap (λ rest. record { number = number; bytes = line } ∷ rest) e)
    more (inr h) = inr (h.0, ap (λ rest. record { number = number; bytes = line } ∷ rest) h.1)

    at_cut : (cut : Option Bytes) → IsLonger (after lines cut) (after longer cut)
    at_cut None = more h
    at_cut (Some bytes) = joined_longer (record { number = number; bytes = bytes }) lines longer h

one_line_longer : (number : ℕ) (lines : List Bytes) → IsLonger (logical_from number lines) (logical_from number (lines ++ [] ∷ []))
unfolding IsLonger
one_line_longer number [] = inr (number, refl)
one_line_longer number (line ∷ lines) =
    before_longer number (without_comment line) (logical_from (number + 1) lines) (logical_from (number + 1) (lines ++ [] ∷ [])) (one_line_longer (number + 1) lines)

abbrev statement_of : LogicalLine → Statement
statement_of l = record { line = l.number; words = words_of l.bytes }

abbrev has_words : Statement → Bool
has_words s = not (length s.words == 0)

statements-longer : (lines longer : List LogicalLine) → IsLonger lines longer → statements longer ≡ statements lines
unfolding IsLonger
statements-longer lines longer (inl e) = ap statements e
statements-longer lines longer (inr h) =
    ap statements h.1
    ∙ ap (filter has_words) (map-append statement_of lines (empty_line h.0 ∷ []))
    ∙ filter-append has_words (map statement_of lines) (map statement_of (empty_line h.0 ∷ []))
    ∙ append-nil (statements lines)

pub last_line : (text : Bytes) → statements (logical_lines (text ++ 10 ∷ [])) ≡ statements (logical_lines text)
unfolding logical_lines
last_line text =
    ap (λ lines. statements (logical_from 1 lines)) (slice_split-push (λ b. b == 10) text 10 refl)
    ∙ statements-longer (logical_from 1 (physical_lines text)) (logical_from 1 (physical_lines text ++ [] ∷ [])) (one_line_longer 1 (physical_lines text))

-- ---- a CR at the end of a line

IsReturned : Bytes → Bytes → Type 0
IsReturned line returned = (returned ≡ line) ⊎ (returned ≡ line ++ 13 ∷ [])

returned-onto : (b : ℕ) (line returned : Bytes) → IsReturned line returned → IsReturned (b ∷ line) (b ∷ returned)
unfolding IsReturned
returned-onto b line returned (inl e) = inl (ap (λ bytes. b ∷ bytes) e)
returned-onto b line returned (inr e) = inr (ap (λ bytes. b ∷ bytes) e)

parts-onto : (b : ℕ) (lines returned : List Bytes) → AllZip IsReturned lines returned → AllZip IsReturned (onto_first b lines) (onto_first b returned)
unfolding IsReturned
parts-onto b [] [] h = (inl refl, tt)
parts-onto b [] (r ∷ returned) h = absurd h
parts-onto b (line ∷ lines) [] h = absurd h
parts-onto b (line ∷ lines) (r ∷ returned) h = (returned-onto b line r h.0, h.1)

physical_lines-returned : (text : Bytes) → AllZip IsReturned (physical_lines text) (physical_lines (with_carriage_returns text))
unfolding IsReturned
physical_lines-returned [] = (inl refl, tt)
physical_lines-returned (b ∷ text) = at_test (b == 10) refl (physical_lines-returned text)
  where
    at_test : (t : Bool) → (b == 10) ≡ t → AllZip IsReturned (physical_lines text) (physical_lines (with_carriage_returns text))
        → AllZip IsReturned (cond t ([] ∷ physical_lines text) (onto_first b (physical_lines text))) (physical_lines (cond t (13 ∷ 10 ∷ []) (b ∷ []) ++ with_carriage_returns text))
    at_test true e h = (inr refl, h)
    at_test false e h = rw e (parts-onto b (physical_lines text) (physical_lines (with_carriage_returns text)) h)

without_comment-push : (line : Bytes) → IsReturned (without_comment line) (without_comment (line ++ 13 ∷ []))
unfolding IsReturned
without_comment-push [] = inr refl
without_comment-push (b ∷ line) = rw (without_comment-cons b line, without_comment-cons b (line ++ 13 ∷ [])) (at_test (b == 35) (without_comment-push line))
  where
    at_test : (t : Bool) → IsReturned (without_comment line) (without_comment (line ++ 13 ∷ [])) → IsReturned (cond t [] (b ∷ without_comment line)) (cond t [] (b ∷ without_comment (line ++ 13 ∷ [])))
    at_test true h = inl refl
    at_test false h = returned-onto b (without_comment line) (without_comment (line ++ 13 ∷ [])) h

without_comment-returned : (line returned : Bytes) → IsReturned line returned → IsReturned (without_comment line) (without_comment returned)
unfolding IsReturned
without_comment-returned line returned (inl e) = inl (ap without_comment e)
without_comment-returned line returned (inr e) = subst (λ bytes. IsReturned (without_comment line) (without_comment bytes)) (sym e) (without_comment-push line)

trimmed-push : (line : Bytes) → trimmed (line ++ 13 ∷ []) ≡ trimmed line
trimmed-push line =
    let blanks : suffix_len is_blank (line ++ 13 ∷ []) ≡ 1 + suffix_len is_blank line = ap (prefix_len is_blank) (reverse-append line (13 ∷ [])) in
    let kept : length (line ++ 13 ∷ []) - suffix_len is_blank (line ++ 13 ∷ []) ≡ length line - suffix_len is_blank line = omega (arith, blanks, length_push line 13) in
    ap (λ n. take n (line ++ 13 ∷ [])) kept ∙ take-append-le (length line - suffix_len is_blank line) line (13 ∷ []) (omega arith)

abbrev before_mark : Bytes → Option Bytes
before_mark kept = cond (get_or kept (length kept - 1) 0 == 92) (Some (take (length kept - 1) kept)) None

before_backslash-returned : (line returned : Bytes) → IsReturned line returned → before_backslash returned ≡ before_backslash line
unfolding IsReturned
before_backslash-returned line returned (inl e) = ap before_backslash e
before_backslash-returned line returned (inr e) = ap before_backslash e ∙ ap before_mark (trimmed-push line)

-- the returned line has the number of the line, and its bytes but for a CR at their end
record IsReturnedLine (line returned : LogicalLine) : Type 0 where
  number : returned.number ≡ line.number
  bytes : IsReturned line.bytes returned.bytes

append-returned : (bytes line returned : Bytes) → IsReturned line returned → IsReturned (bytes ++ line) (bytes ++ returned)
unfolding IsReturned
append-returned bytes line returned (inl e) = inl (ap (λ more. bytes ++ more) e)
append-returned bytes line returned (inr e) = inr (ap (λ more. bytes ++ more) e ∙ sym (append_assoc bytes line (13 ∷ [])))

joined-returned : (line : LogicalLine) (lines returned : List LogicalLine) → AllZip IsReturnedLine lines returned → AllZip IsReturnedLine (joined_before line lines) (joined_before line returned)
unfolding IsReturned
joined-returned line [] [] h = (record { number = refl; bytes = inl refl }, tt)
joined-returned line [] (r ∷ returned) h = absurd h
joined-returned line (next ∷ lines) [] h = absurd h
joined-returned line (next ∷ lines) (r ∷ returned) h = (record { number = refl; bytes = append-returned line.bytes next.bytes r.bytes h.0.bytes }, h.1)

line_before-returned : (number : ℕ) (line r : Bytes) (lines returned : List LogicalLine) → IsReturned line r → AllZip IsReturnedLine lines returned
    → AllZip IsReturnedLine (line_before number line lines) (line_before number r returned)
line_before-returned number line r lines returned h others =
    subst (λ cut. AllZip IsReturnedLine (after line lines (before_backslash line)) (after r returned cut)) (sym (before_backslash-returned line r h)) (at_cut (before_backslash line))
  where
    after : Bytes → List LogicalLine → Option Bytes → List LogicalLine
    after alone rest cut = elim cut [ None ↦ record { number = number; bytes = alone } ∷ rest | Some bytes ↦ joined_before (record { number = number; bytes = bytes }) rest ]

    at_cut : (cut : Option Bytes) → AllZip IsReturnedLine (after line lines cut) (after r returned cut)
    at_cut None = (record { number = refl; bytes = h }, others)
    at_cut (Some bytes) = joined-returned (record { number = number; bytes = bytes }) lines returned others

logical_from-returned : (number : ℕ) (lines returned : List Bytes) → AllZip IsReturned lines returned → AllZip IsReturnedLine (logical_from number lines) (logical_from number returned)
logical_from-returned number [] [] h = tt
logical_from-returned number [] (r ∷ returned) h = absurd h
logical_from-returned number (line ∷ lines) [] h = absurd h
logical_from-returned number (line ∷ lines) (r ∷ returned) h =
    line_before-returned number (without_comment line) (without_comment r) (logical_from (number + 1) lines) (logical_from (number + 1) returned)
    (without_comment-returned line r h.0) (logical_from-returned (number + 1) lines returned h.1)

words_of-returned : (line returned : Bytes) → IsReturned line returned → words_of returned ≡ words_of line
unfolding IsReturned
words_of-returned line returned (inl e) = ap words_of e
words_of-returned line returned (inr e) =
    ap words_of e
    ∙ ap (filter (λ w. not (length w == 0))) (slice_split-push is_blank line 13 refl)
    ∙ filter-append (λ w. not (length w == 0)) (slice_split is_blank line) ([] ∷ [])
    ∙ append-nil (words_of line)

statements-returned : (lines returned : List LogicalLine) → AllZip IsReturnedLine lines returned → map statement_of returned ≡ map statement_of lines
statements-returned [] [] h = refl
statements-returned [] (r ∷ returned) h = absurd h
statements-returned (line ∷ lines) [] h = absurd h
statements-returned (line ∷ lines) (r ∷ returned) h =
    ap (λ words. record { line = r.number; words = words } ∷ map statement_of returned) (words_of-returned line.bytes r.bytes h.0.bytes)
    ∙ ap (λ number. record { line = number; words = words_of line.bytes } ∷ map statement_of returned) h.0.number
    ∙ ap (λ rest. statement_of line ∷ rest) (statements-returned lines returned h.1)

pub carriage_returns : (text : Bytes) → statements (logical_lines (with_carriage_returns text)) ≡ statements (logical_lines text)
unfolding logical_lines
carriage_returns text =
    let lines : List LogicalLine = logical_from 1 (physical_lines text) in
    let returned : List LogicalLine = logical_from 1 (physical_lines (with_carriage_returns text)) in
    ap (filter has_words) (statements-returned lines returned (logical_from-returned 1 (physical_lines text) (physical_lines (with_carriage_returns text)) (physical_lines-returned text)))
