-- A backslash at the end of a line joins the next one to it.
use Rattle.std.proofs.Common.{◌≡◌, ◌≢◌, ◌⊎◌, ℕ, ◌+◌, ◌-◌, ◌<◌, Bool, true, false, ◌==◌, cond, List, [], ◌∷◌, ◌++◌, length, take, get_or, All, Option, Some, None, refl, ap, sym, ◌∙◌, inl, inr}
use Rattle.std.proofs.Common.{append_assoc, append-nil, arith}
use Rattle.std.specs.List.{onto_first, suffix_len, prefix_len}
use Rattle.std.proofs.lemmas.Bool.{cases_Bool, ne_eqb, false≢true}
use Rattle.std.proofs.lemmas.List.{length_push, take-append-le, take_at, take_all, reverse-append, get_or_at}
use Rattle.std.proofs.lemmas.List.Elements.{All-nil, All-cons, All-head, All-tail, All-append, All-weaker}
use Rattle.std.proofs.lemmas.List.Splits.{slice_split_at, length-slice_split}
use Rattle.semantics.specs.Texts.{Bytes}
use Rattle.blif_semantics.specs.Lines.{is_blank, physical_lines, without_comment, trimmed, before_backslash, LogicalLine, joined_before, line_before, logical_from, logical_lines}
use Rattle.blif_semantics.specs.LineLaws.{AreWholeLines, texts_of}
use Rattle.blif_semantics.proofs.Comments.{without_comment-cons}

-- ---- what stands before a backslash, byte by byte from the end

abbrev cut_at_mark : Bytes → Option Bytes
cut_at_mark kept = cond (get_or kept (length kept - 1) 0 == 92) (Some (take (length kept - 1) kept)) None

suffix-push : (line : Bytes) (b : ℕ) → suffix_len is_blank (line ++ b ∷ []) ≡ cond (is_blank b) (1 + suffix_len is_blank line) 0
suffix-push line b = ap (prefix_len is_blank) (reverse-append line (b ∷ []))

trimmed-blank : (line : Bytes) (b : ℕ) → is_blank b ≡ true → trimmed (line ++ b ∷ []) ≡ trimmed line
trimmed-blank line b e =
    let blanks : suffix_len is_blank (line ++ b ∷ []) ≡ 1 + suffix_len is_blank line = suffix-push line b ∙ ap (λ (t : Bool). cond t (1 + suffix_len is_blank line) 0) e in
    let kept : length (line ++ b ∷ []) - suffix_len is_blank (line ++ b ∷ []) ≡ length line - suffix_len is_blank line = omega (arith, blanks, length_push line b) in
    ap (λ n. take n (line ++ b ∷ [])) kept ∙ take-append-le (length line - suffix_len is_blank line) line (b ∷ []) (omega arith)

trimmed-other : (line : Bytes) (b : ℕ) → is_blank b ≡ false → trimmed (line ++ b ∷ []) ≡ line ++ b ∷ []
trimmed-other line b e =
    let blanks : suffix_len is_blank (line ++ b ∷ []) ≡ 0 = suffix-push line b ∙ ap (λ (t : Bool). cond t (1 + suffix_len is_blank line) 0) e in
    take_all (length (line ++ b ∷ []) - suffix_len is_blank (line ++ b ∷ [])) (line ++ b ∷ []) (omega (arith, blanks))

AllBlank : Bytes → Type 0
AllBlank = All (λ b. is_blank b ≡ true)

backslash-blanks : (line blanks : Bytes) → AllBlank blanks → before_backslash (line ++ blanks) ≡ before_backslash line
unfolding AllBlank
backslash-blanks line [] h = ap before_backslash (append-nil line)
backslash-blanks line (b ∷ blanks) h =
    ap before_backslash (sym (append_assoc line (b ∷ []) blanks))
    ∙ backslash-blanks (line ++ b ∷ []) blanks (All-tail (λ c. is_blank c ≡ true) b blanks h)
    ∙ ap cut_at_mark (trimmed-blank line b (All-head (λ c. is_blank c ≡ true) b blanks h))

-- where the last byte that is no blank is b
ends_in : (line : Bytes) (b : ℕ) → is_blank b ≡ false → before_backslash (line ++ b ∷ []) ≡ cond (b == 92) (Some line) None
ends_in line b e =
    let last : length (line ++ b ∷ []) - 1 ≡ length line = omega (arith, length_push line b) in
    ap cut_at_mark (trimmed-other line b e)
    ∙ ap (λ n. cond (get_or (line ++ b ∷ []) n 0 == 92) (Some (take n (line ++ b ∷ []))) None) last
    ∙ ap (λ c. cond (c == 92) (Some (take (length line) (line ++ b ∷ []))) None) (get_or_at line b [] 0 (length line) refl)
    ∙ ap (λ bytes. cond (b == 92) (Some bytes) None) (take_at line (b ∷ []) (length line) refl)

-- a line is blank, or has a last byte that is no blank
record HasLast (line : Bytes) : Type 0 where
  core : Bytes
  last : ℕ
  blanks : Bytes
  is : line ≡ core ++ last ∷ blanks
  other : is_blank last ≡ false
  all_blank : AllBlank blanks

blank_or_last : (line : Bytes) → AllBlank line ⊎ HasLast line
unfolding AllBlank
blank_or_last [] = inl (All-nil (λ b. is_blank b ≡ true))
blank_or_last (b ∷ line) =
    elim (blank_or_last line) [
      | inr h ↦ inr (record { core = b ∷ h.core; last = h.last; blanks = h.blanks; is = ap (λ l. b ∷ l) h.is; other = h.other; all_blank = h.all_blank })
      | inl blank ↦ elim (cases_Bool (is_blank b)) [
        | inl e ↦ inl (All-cons (λ c. is_blank c ≡ true) b line e blank)
        | inr e ↦ inr (record { core = []; last = b; blanks = line; is = refl; other = e; all_blank = blank })
      ]
    ]

cut_of : (line core blanks : Bytes) (last : ℕ) → line ≡ core ++ last ∷ blanks → is_blank last ≡ false → AllBlank blanks → before_backslash line ≡ cond (last == 92) (Some core) None
cut_of line core blanks last is other blank =
    ap before_backslash (is ∙ sym (append_assoc core (last ∷ []) blanks)) ∙ backslash-blanks (core ++ last ∷ []) blanks blank ∙ ends_in core last other

-- ---- the bytes of logical lines

abbrev onto : Bytes → List Bytes → List Bytes
onto bytes [] = bytes ∷ []
onto bytes (next ∷ lines) = (bytes ++ next) ∷ lines

abbrev text_by : Option Bytes → Bytes → List Bytes → List Bytes
text_by cut line rest = elim cut [ None ↦ line ∷ rest | Some bytes ↦ onto bytes rest ]

abbrev text_before : Bytes → List Bytes → List Bytes
text_before line rest = text_by (before_backslash line) line rest

texts : List Bytes → List Bytes
texts [] = []
texts (line ∷ lines) = text_before (without_comment line) (texts lines)

texts-before : (number : ℕ) (line : Bytes) (lines : List LogicalLine) → texts_of (line_before number line lines) ≡ text_before line (texts_of lines)
texts-before number line lines = at_cut (before_backslash line) lines
  where
    after : Option Bytes → List LogicalLine → List LogicalLine
    after cut rest = elim cut [ None ↦ record { number = number; bytes = line } ∷ rest | Some bytes ↦ joined_before (record { number = number; bytes = bytes }) rest ]

    at_cut : (cut : Option Bytes) (rest : List LogicalLine) → texts_of (after cut rest) ≡ text_by cut line (texts_of rest)
    at_cut None rest = refl
    at_cut (Some bytes) [] = refl
    at_cut (Some bytes) (next ∷ rest) = refl

texts-from : (number : ℕ) (lines : List Bytes) → texts_of (logical_from number lines) ≡ texts lines
unfolding texts
texts-from number [] = refl
texts-from number (line ∷ lines) =
    texts-before number (without_comment line) (logical_from (number + 1) lines) ∙ ap (text_before (without_comment line)) (texts-from (number + 1) lines)

texts-behind : (lines some other : List Bytes) → texts some ≡ texts other → texts (lines ++ some) ≡ texts (lines ++ other)
unfolding texts
texts-behind [] some other e = e
texts-behind (line ∷ lines) some other e = ap (text_before (without_comment line)) (texts-behind lines some other e)

-- ---- a line put before another

onto-onto : (line core : Bytes) (rest : List Bytes) → onto line (onto core rest) ≡ onto (line ++ core) rest
onto-onto line core [] = refl
onto-onto line core (next ∷ rest) = ap (λ bytes. bytes ∷ rest) (sym (append_assoc line core next))

by_mark : (line next core : Bytes) (rest : List Bytes) (mark : Bool) → onto line (text_by (cond mark (Some core) None) next rest) ≡ text_by (cond mark (Some (line ++ core)) None) (line ++ next) rest
by_mark line next core rest true = onto-onto line core rest
by_mark line next core rest false = refl

onto-before : (line next : Bytes) (rest : List Bytes) → before_backslash line ≡ None → onto line (text_before next rest) ≡ text_before (line ++ next) rest
onto-before line next rest none =
    elim (blank_or_last next) [
      | inl blank ↦
          ap (λ cut. onto line (text_by cut next rest)) (backslash-blanks [] next blank)
          ∙ ap (λ cut. text_by cut (line ++ next) rest) (sym (backslash-blanks line next blank ∙ none))
      | inr h ↦
          ap (λ cut. onto line (text_by cut next rest)) (cut_of next h.core h.blanks h.last h.is h.other h.all_blank)
          ∙ by_mark line next h.core rest (h.last == 92)
          ∙ ap (λ cut. text_by cut (line ++ next) rest)
          (sym (cut_of (line ++ next) (line ++ h.core) h.blanks h.last (ap (λ l. line ++ l) h.is ∙ sym (append_assoc line h.core (h.last ∷ h.blanks))) h.other h.all_blank))
    ]

AllPlain : Bytes → Type 0
AllPlain = All (λ b. (b ≢ 10) × (b ≢ 35))

without_comment-append : (line next : Bytes) → AllPlain line → without_comment (line ++ next) ≡ line ++ without_comment next
unfolding AllPlain
without_comment-append [] next h = refl
without_comment-append (b ∷ line) next h =
    let plain = All-head (λ c. (c ≢ 10) × (c ≢ 35)) b line h in
    without_comment-cons b (line ++ next)
    ∙ ap (λ (t : Bool). cond t [] (b ∷ without_comment (line ++ next))) (ne_eqb b 35 plain.1)
    ∙ ap (λ l. b ∷ l) (without_comment-append line next (All-tail (λ c. (c ≢ 10) × (c ≢ 35)) b line h))

-- ---- physical lines

onto_first-append : (b : ℕ) (lines more : List Bytes) → 0 < length lines → onto_first b (lines ++ more) ≡ onto_first b lines ++ more
onto_first-append b [] more some = absurd (omega arith)
onto_first-append b (line ∷ lines) more some = refl

whole-lines : (lines text : Bytes) → physical_lines (lines ++ 10 ∷ text) ≡ physical_lines lines ++ physical_lines text
whole-lines [] text = refl
whole-lines (b ∷ lines) text = ap (λ parts. cond (b == 10) ([] ∷ parts) (onto_first b parts)) (whole-lines lines text) ∙ at_test (b == 10)
  where
    at_test : (t : Bool) → cond t ([] ∷ (physical_lines lines ++ physical_lines text)) (onto_first b (physical_lines lines ++ physical_lines text))
        ≡ cond t ([] ∷ physical_lines lines) (onto_first b (physical_lines lines)) ++ physical_lines text
    at_test true = refl
    at_test false = onto_first-append b (physical_lines lines) (physical_lines text) (omega (arith, length-slice_split (λ c. c == 10) lines))

onto_first-onto : (b : ℕ) (line : Bytes) (lines : List Bytes) → onto_first b (onto line lines) ≡ onto (b ∷ line) lines
onto_first-onto b line [] = refl
onto_first-onto b line (next ∷ lines) = refl

line-before : (line text : Bytes) → AllPlain line → physical_lines (line ++ text) ≡ onto line (physical_lines text)
unfolding AllPlain
line-before [] text h = onto_nothing (physical_lines text) (omega (arith, length-slice_split (λ c. c == 10) text))
  where
    onto_nothing : (lines : List Bytes) → 0 < length lines → lines ≡ onto [] lines
    onto_nothing [] some = absurd (omega arith)
    onto_nothing (next ∷ lines) some = refl
line-before (b ∷ line) text h =
    let plain = All-head (λ c. (c ≢ 10) × (c ≢ 35)) b line h in
    ap (λ (t : Bool). cond t ([] ∷ physical_lines (line ++ text)) (onto_first b (physical_lines (line ++ text)))) (ne_eqb b 10 plain.0)
    ∙ ap (onto_first b) (line-before line text (All-tail (λ c. (c ≢ 10) × (c ≢ 35)) b line h))
    ∙ onto_first-onto b line (physical_lines text)

-- ---- the law

blank_plain : (b : ℕ) → is_blank b ≡ true → (b ≢ 10) × (b ≢ 35)
blank_plain b e = (λ same. false≢true (ap is_blank (sym same) ∙ e), λ same. false≢true (ap is_blank (sym same) ∙ e))

texts-joined : (line blanks : Bytes) (lines : List Bytes) → 0 < length lines → AllPlain line → before_backslash line ≡ None → AllBlank blanks
    → texts ((line ++ 92 ∷ blanks) ∷ lines) ≡ texts (onto line lines)
unfolding texts AllPlain AllBlank
texts-joined line blanks [] some plain none blank = absurd (omega arith)
texts-joined line blanks (next ∷ lines) some plain none blank =
    let marked : Bytes = 92 ∷ blanks in
    let plain_blanks : AllPlain marked =
    All-cons (λ c. (c ≢ 10) × (c ≢ 35)) 92 blanks (λ e. omega (arith, e), λ e. omega (arith, e)) (All-weaker (λ b. is_blank b ≡ true) (λ c. (c ≢ 10) × (c ≢ 35)) blank_plain blanks blank) in
    let whole : without_comment (line ++ marked) ≡ line ++ marked =
    without_comment-append line marked plain ∙ ap (λ l. line ++ l) (ap without_comment (sym (append-nil marked)) ∙ without_comment-append marked [] plain_blanks ∙ append-nil marked) in
    let rest : List Bytes = text_before (without_comment next) (texts lines) in
    ap (λ l. text_before l rest) whole
    ∙ ap (λ cut. text_by cut (line ++ marked) rest) (cut_of (line ++ marked) line blanks 92 refl refl blank)
    ∙ onto-before line (without_comment next) (texts lines) none
    ∙ ap (λ l. text_before l (texts lines)) (sym (without_comment-append line next plain))

joined_lines : (line blanks after : Bytes) → AllPlain line → before_backslash line ≡ None → AllBlank blanks
    → texts (physical_lines (line ++ 92 ∷ (blanks ++ 10 ∷ after))) ≡ texts (physical_lines (line ++ after))
unfolding AllPlain AllBlank
joined_lines line blanks after plain none blank =
    let marked : Bytes = line ++ 92 ∷ blanks in
    let no_lf : All (λ b. (b == 10) ≡ false) marked =
    All-append (λ b. (b == 10) ≡ false) line (92 ∷ blanks) (All-weaker (λ b. (b ≢ 10) × (b ≢ 35)) (λ b. (b == 10) ≡ false) (λ b p. ne_eqb b 10 p.0) line plain)
    (All-cons (λ b. (b == 10) ≡ false) 92 blanks refl (All-weaker (λ b. is_blank b ≡ true) (λ b. (b == 10) ≡ false) (λ b e. ne_eqb b 10 (blank_plain b e).0) blanks blank)) in
    ap (λ text. texts (physical_lines text)) (sym (append_assoc line (92 ∷ blanks) (10 ∷ after)))
    ∙ ap texts (slice_split_at (λ b. b == 10) marked 10 after no_lf refl)
    ∙ texts-joined line blanks (physical_lines after) (omega (arith, length-slice_split (λ c. c == 10) after)) plain none blank
    ∙ ap texts (sym (line-before line after plain))

behind : (before some other : Bytes) → AreWholeLines before → texts (physical_lines some) ≡ texts (physical_lines other)
    → texts (physical_lines (before ++ some)) ≡ texts (physical_lines (before ++ other))
behind before some other (inl none) e =
    ap (λ l. texts (physical_lines (l ++ some))) none ∙ e ∙ ap (λ l. texts (physical_lines (l ++ other))) (sym none)
behind before some other (inr (lines, is)) e =
    let split : (text : Bytes) → physical_lines (before ++ text) ≡ physical_lines lines ++ physical_lines text =
    λ text. ap (λ l. physical_lines (l ++ text)) is ∙ ap physical_lines (append_assoc lines (10 ∷ []) text) ∙ whole-lines lines text in
    ap texts (split some) ∙ texts-behind (physical_lines lines) (physical_lines some) (physical_lines other) e ∙ ap texts (sym (split other))

pub joined : (before line blanks after : Bytes) → AreWholeLines before → All (λ b. (b ≢ 10) × (b ≢ 35)) line → before_backslash line ≡ None → All (λ b. is_blank b ≡ true) blanks
    → texts_of (logical_lines (before ++ (line ++ 92 ∷ (blanks ++ 10 ∷ after)))) ≡ texts_of (logical_lines (before ++ (line ++ after)))
unfolding logical_lines AllPlain AllBlank
joined before line blanks after whole plain none blank =
    texts-from 1 (physical_lines (before ++ (line ++ 92 ∷ (blanks ++ 10 ∷ after))))
    ∙ behind before (line ++ 92 ∷ (blanks ++ 10 ∷ after)) (line ++ after) whole (joined_lines line blanks after plain none blank)
    ∙ sym (texts-from 1 (physical_lines (before ++ (line ++ after))))
