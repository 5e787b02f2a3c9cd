-- Numbers between blanks, one word further.
use Rattle.std.proofs.Common.{◌≡◌, ℕ, ◌+◌, ◌<◌, List, [], ◌∷◌, ◌++◌, length, get_or, drop, Option, Some, None, refl, ap, sym, ◌∙◌, append_assoc, arith}
use Rattle.std.specs.Option.{option_map}
use Rattle.std.proofs.lemmas.List.{append-nil, drop_all, drop_more}
use Rattle.semantics.specs.Texts.{Bytes}
use Rattle.aiger_semantics.specs.TextLines.{number_to, all_numbers}

-- the numbers so far, and those of the words behind
abbrev pub behind : List ℕ → Option (List ℕ) → Option (List ℕ)
behind numbers rest = option_map (λ more. numbers ++ more) rest

-- none so far
pub behind-none : (rest : Option (List ℕ)) → behind [] rest ≡ rest
behind-none None = refl
behind-none (Some more) = refl

behind-one : (numbers : List ℕ) (n : ℕ) (rest : Option (List ℕ)) → behind (numbers ++ n ∷ []) rest ≡ behind numbers (option_map (λ more. n ∷ more) rest)
behind-one numbers n None = refl
behind-one numbers n (Some more) = ap Some (append_assoc numbers (n ∷ []) more)

at_word : (words : List Bytes) (k : ℕ) (word : Bytes) → k < length words → word ≡ get_or words k word → drop k words ≡ word ∷ drop (k + 1) words
at_word words k word low is = drop_more words k word low ∙ ap (λ w. w ∷ drop (k + 1) words) (sym is)

-- one word further
pub numbers-next : (most : ℕ) (words : List Bytes) (k : ℕ) (word : Bytes) (n : ℕ) (numbers : List ℕ) (all : Option (List ℕ)) → k < length words → word ≡ get_or words k word
    → number_to most word ≡ Some n
    → behind numbers (all_numbers most (drop k words)) ≡ all → behind (numbers ++ n ∷ []) (all_numbers most (drop (k + 1) words)) ≡ all
numbers-next most words k word n numbers all low is reads same =
    behind-one numbers n (all_numbers most (drop (k + 1) words))
    ∙ ap (behind numbers) (ap (λ found. elim found [ None ↦ None | Some m ↦ option_map (λ more. m ∷ more) (all_numbers most (drop (k + 1) words)) ]) (sym reads) ∙ ap (all_numbers most)
    (sym (at_word words k word low is)))
    ∙ same

-- a word that is no number
pub numbers-none : (most : ℕ) (words : List Bytes) (k : ℕ) (word : Bytes) (numbers : List ℕ) (all : Option (List ℕ)) → k < length words → word ≡ get_or words k word → number_to most word ≡ None
    → behind numbers (all_numbers most (drop k words)) ≡ all → all ≡ None
numbers-none most words k word numbers all low is reads same =
    sym same ∙ ap (behind numbers) (ap (all_numbers most) (at_word words k word low is) ∙ ap
    (λ found. elim found [ None ↦ None | Some m ↦ option_map (λ more. m ∷ more) (all_numbers most (drop (k + 1) words)) ]) reads)

-- no word is left
pub numbers-end : (most : ℕ) (words : List Bytes) (k : ℕ) (numbers : List ℕ) (all : Option (List ℕ)) → k ≡ length words → behind numbers (all_numbers most (drop k words)) ≡ all → all ≡ Some numbers
numbers-end most words k numbers all done same =
    sym same ∙ ap (λ rest. behind numbers (all_numbers most rest)) (drop_all k words (omega (arith, done))) ∙ ap Some (append-nil numbers)
