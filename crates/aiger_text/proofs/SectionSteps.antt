-- The lines of a section, one line further.
use Rattle.std.proofs.Common.{◌≡◌, ℕ, zero, suc, ◌+◌, ◌-◌, ◌<◌, ◌≤◌, List, [], ◌∷◌, ◌++◌, length, get_or, drop, Option, Some, None, Result, Ok, Err, refl, ap, sym, ◌∙◌, append_assoc, arith}
use Rattle.std.proofs.lemmas.List.{append-nil, drop_all, drop_more, get_or-map, length-map}
use Rattle.std.specs.Borrow.{Bor}
use Rattle.semantics.specs.Texts.{Bytes}
use Rattle.text_words.specs.Slices.{texts}
use Rattle.aiger_semantics.specs.CircuitLines.{Refusal, wrong_line, put_before, all_read}

-- what was read so far, and what the lines behind say
abbrev pub put_all : {X : Type 0} → List X → Result (List X) Refusal → Result (List X) Refusal
put_all xs (Err refusal) = Err refusal
put_all xs (Ok more) = Ok (xs ++ more)

module _ {X : Type 0} (read : Bytes → Option X) (first count : ℕ) (lines : List Bytes) where
  -- what the lines behind the first k are read as
  abbrev pub rest_read : ℕ → Result (List X) Refusal
  rest_read k = all_read read (first + k) (count - k) (drop k lines)

  pub put-none : (r : Result (List X) Refusal) → put_all [] r ≡ r
  put-none (Err refusal) = refl
  put-none (Ok xs) = refl

  put-one : (xs : List X) (x : X) (r : Result (List X) Refusal) → put_all (xs ++ x ∷ []) r ≡ put_all xs (put_before x r)
  put-one xs x (Err refusal) = refl
  put-one xs x (Ok more) = ap Ok (append_assoc xs (x ∷ []) more)

  at_line : (k : ℕ) (line : Bytes) → k < count → k < length lines → line ≡ get_or lines k line
      → rest_read k ≡ elim (read line) [ None ↦ Err (wrong_line (first + k)) | Some x ↦ put_before x (rest_read (k + 1)) ]
  at_line k line low within is =
      let left : count - k ≡ suc (count - (k + 1)) = omega (arith, low) in
      let number : (first + k) + 1 ≡ first + (k + 1) = omega arith in
      ap (λ ls. all_read read (first + k) (count - k) ls) (drop_more lines k line within ∙ ap (λ w. w ∷ drop (k + 1) lines) (sym is))
      ∙ ap (λ n. all_read read (first + k) n (line ∷ drop (k + 1) lines)) left
      ∙ ap (λ n. elim (read line) [ None ↦ Err (wrong_line (first + k)) | Some x ↦ put_before x (all_read read n (count - (k + 1)) (drop (k + 1) lines)) ]) number

  pub read-next : (k : ℕ) (line : Bytes) (x : X) (xs : List X) (whole : Result (List X) Refusal) → k < count → k < length lines → line ≡ get_or lines k line → read line ≡ Some x
      → put_all xs (rest_read k) ≡ whole → put_all (xs ++ x ∷ []) (rest_read (k + 1)) ≡ whole
  read-next k line x xs whole low within is says same =
      put-one xs x (rest_read (k + 1))
      ∙ ap (put_all xs) (ap (λ found. elim found [ None ↦ Err (wrong_line (first + k)) | Some y ↦ put_before y (rest_read (k + 1)) ]) (sym says) ∙ sym (at_line k line low within is))
      ∙ same

  pub read-none : (k : ℕ) (line : Bytes) (xs : List X) (whole : Result (List X) Refusal) → k < count → k < length lines → line ≡ get_or lines k line → read line ≡ None
      → put_all xs (rest_read k) ≡ whole → whole ≡ Err (wrong_line (first + k))
  read-none k line xs whole low within is says same =
      sym same ∙ ap (put_all xs) (at_line k line low within is ∙ ap (λ found. elim found [ None ↦ Err (wrong_line (first + k)) | Some y ↦ put_before y (rest_read (k + 1)) ]) says)

  pub read-missing : (k : ℕ) (xs : List X) (whole : Result (List X) Refusal) → k < count → length lines ≤ k → put_all xs (rest_read k) ≡ whole → whole ≡ Err (wrong_line (first + k))
  read-missing k xs whole low past same =
      let left : count - k ≡ suc (count - (k + 1)) = omega (arith, low) in
      sym same
      ∙ ap (put_all xs) (ap (λ ls. all_read read (first + k) (count - k) ls) (drop_all k lines past) ∙ ap (λ n. all_read read (first + k) n []) left)

  pub read-end : (k : ℕ) (xs : List X) (whole : Result (List X) Refusal) → count ≤ k → put_all xs (rest_read k) ≡ whole → whole ≡ Ok xs
  read-end k xs whole past same =
      let left : count - k ≡ 0 = omega (arith, past) in
      sym same ∙ ap (λ n. put_all xs (all_read read (first + k) n (drop k lines))) left ∙ ap Ok (append-nil xs)

  pub read-start : put_all [] (rest_read 0) ≡ all_read read first count lines
  read-start =
      let start : first + 0 ≡ first = omega arith in
      let all : count - 0 ≡ count = omega arith in
      put-none (rest_read 0) ∙ ap (λ n. all_read read n (count - 0) lines) start ∙ ap (λ n. all_read read first n lines) all

-- a slice's bytes among the texts
pub text_at : (slices : List (Bor Bytes)) (i : ℕ) (d : Bor Bytes) → i < length slices → (get_or slices i d).now ≡ get_or (texts slices) i (get_or slices i d).now
text_at slices i d within = sym (get_or-map (λ r. r.now) slices i d (get_or slices i d).now within)

pub texts-count : (slices : List (Bor Bytes)) → length (texts slices) ≡ length slices
texts-count slices = length-map slices (λ s. s.now)

pub texts-drop : (k : ℕ) (slices : List (Bor Bytes)) → texts (drop k slices) ≡ drop k (texts slices)
texts-drop zero slices = refl
texts-drop (suc k) [] = refl
texts-drop (suc k) (s ∷ slices) = texts-drop k slices
