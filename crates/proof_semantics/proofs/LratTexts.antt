-- A text is read exactly where it spells items.
use Rattle.std.proofs.Common.{◌≡◌, ℕ, ◌<◌, List, [], ◌∷◌, length, map, true, false, Bool, refl, ap, sym, ◌∙◌, Option, Some, None, Result, Ok, Err, arith}
use Rattle.std.specs.Prelude.{if◌then◌else◌, nat_lt}
use Rattle.std.specs.List.{list_all, take_while}
use Rattle.std.proofs.lemmas.Bool.{and_parts, lt-ltb, le-ltb, false≢true}
use Rattle.std.proofs.lemmas.List.Sums.{take_while-cons}
use Rattle.std.proofs.lemmas.List.Folds.{list_all-append}
use Rattle.semantics.specs.Texts.{Bytes}
use Rattle.proof_semantics.specs.declared.lrat_refusal.LratRefusal.{LratRefusal}
use Rattle.proof_semantics.specs.declared.lrat_refusal.LratRefusal.TheVariants.{BadByte}
use Rattle.proof_semantics.specs.Logs.{LogItem}
use Rattle.proof_semantics.specs.LratTokens.{is_blank, is_log_byte, ended_tokens}
use Rattle.proof_semantics.specs.LratMatching.{Stage, Outside, Begun, Literals, Hints, Deletion, Refused, stage_after_all, items_given}
use Rattle.proof_semantics.specs.LratReading.{good_part, whole_items, is_refused, stage_with_byte, stage_of, with_end, refusal_at_end, lrat_items}
use Rattle.proof_semantics.specs.LratGrammar.{SpelledItem, spelled_item}
use Rattle.proof_semantics.specs.LratLaws.{Spells, GrammarLaw}
use Rattle.proof_semantics.proofs.LratAccepted.{accepted}
use Rattle.proof_semantics.proofs.LratOnly.{only}

take_while_all : (p : ℕ → Bool) (xs : Bytes) → list_all p xs ≡ true → take_while p xs ≡ xs
take_while_all p [] h = refl
take_while_all p (x ∷ xs) h =
    let parts = and_parts (p x) (list_all p xs) h in
    take_while-cons p x xs ∙ rw parts.0 (ap (λ ys. x ∷ ys) (take_while_all p xs parts.1))

-- a bad byte ends the good part
take_while_short : (p : ℕ → Bool) (xs : Bytes) → list_all p xs ≡ false → length (take_while p xs) < length xs
take_while_short p [] h = absurd (false≢true (sym h))
take_while_short p (x ∷ xs) h = rw take_while-cons (at_test (take_while_short p xs) (p x) refl) where
  at_test : (list_all p xs ≡ false → length (take_while p xs) < length xs) → (t : Bool) → p x ≡ t → length (if t then x ∷ take_while p xs else []) < length (x ∷ xs)
  at_test rest true e = let more : list_all p xs ≡ false = rw e at h in omega (arith, rest more)
  at_test rest false e = omega arith

pub good_whole : (text : Bytes) → list_all is_log_byte text ≡ true → good_part text ≡ text
unfolding good_part
good_whole text h = take_while_all is_log_byte text h

pub good_short : (text : Bytes) → list_all is_log_byte text ≡ false → length (good_part text) < length text
unfolding good_part
good_short text h = take_while_short is_log_byte text h

pub good_end : (text : Bytes) → list_all is_log_byte text ≡ true → list_all is_log_byte (with_end text) ≡ true
unfolding is_log_byte is_blank
good_end text h = list_all-append is_log_byte text (10 ∷ []) ∙ rw h refl

good_before_end : (text : Bytes) → list_all is_log_byte (with_end text) ≡ true → list_all is_log_byte text ≡ true
good_before_end text h = (and_parts (list_all is_log_byte text) (list_all is_log_byte (10 ∷ [])) (sym (list_all-append is_log_byte text (10 ∷ [])) ∙ h)).0

-- without a bad byte the tokens alone decide
pub no_byte : (stage : Stage) (n : ℕ) → stage_with_byte stage n n ≡ stage
no_byte stage n = rw (le-ltb n n (omega arith)) (same (is_refused stage)) where
  same : (t : Bool) → (if t then stage else (if false then Refused (BadByte n) else stage)) ≡ stage
  same true = refl
  same false = refl

pub stage_of-good : (text : Bytes) → list_all is_log_byte text ≡ true → stage_of text ≡ stage_after_all Outside (ended_tokens text)
unfolding stage_of
stage_of-good text h = rw (good_whole text h) (no_byte (stage_after_all Outside (ended_tokens text)) (length text))

pub whole_items-good : (text : Bytes) → list_all is_log_byte text ≡ true → whole_items text ≡ items_given Outside (ended_tokens text)
unfolding whole_items
whole_items-good text h = rw (good_whole text h) refl

-- where a text ends outside, no bad byte stands in it, and its tokens end outside
outside_parts : (stage : Stage) (bad size : ℕ) → stage_with_byte stage bad size ≡ Outside → (stage ≡ Outside) × (nat_lt bad size ≡ false)
outside_parts stage bad size h = at_stage (is_refused stage) refl h where
  at_test : (t : Bool) → is_refused stage ≡ false → nat_lt bad size ≡ t → (if t then Refused (BadByte bad) else stage) ≡ Outside → (stage ≡ Outside) × (nat_lt bad size ≡ false)
  at_test true r e f = cc
  at_test false r e f = (f, e)

  at_stage : (t : Bool) → is_refused stage ≡ t → (if t then stage else (if nat_lt bad size then Refused (BadByte bad) else stage)) ≡ Outside → (stage ≡ Outside) × (nat_lt bad size ≡ false)
  at_stage true r f = absurd (false≢true (ap is_refused (sym f) ∙ r))
  at_stage false r f = at_test (nat_lt bad size) r refl f

pub outside_from : (stage : Stage) → refusal_at_end stage ≡ None → stage ≡ Outside
outside_from Outside h = refl
outside_from (Begun id) h = cc
outside_from (Literals id literals) h = cc
outside_from (Hints id literals hints) h = cc
outside_from (Deletion ids) h = cc
outside_from (Refused refusal) h = cc

good_from_outside : (text : Bytes) → stage_of text ≡ Outside → (b : Bool) → list_all is_log_byte text ≡ b → list_all is_log_byte text ≡ true
unfolding stage_of
good_from_outside text h true b = b
good_from_outside text h false b =
    let parts = outside_parts (stage_after_all Outside (ended_tokens (good_part text))) (length (good_part text)) (length text) h in
    absurd (false≢true (sym parts.1 ∙ lt-ltb (length (good_part text)) (length text) (good_short text b)))

pub items_from : (end : Option LratRefusal) (items log : List LogItem) → (elim end as (λ _. Result (List LogItem) LratRefusal) [ None ↦ Ok items | Some refusal ↦ Err refusal ]) ≡ Ok log
    → (end ≡ None) × (log ≡ items)
items_from None items log h = (refl, cc)
items_from (Some refusal) items log h = cc

pub items_at_end : (end : Option LratRefusal) (items log : List LogItem) → end ≡ None → items ≡ log
    → (elim end as (λ _. Result (List LogItem) LratRefusal) [ None ↦ Ok items | Some refusal ↦ Err refusal ]) ≡ Ok log
items_at_end None items log e same = ap (λ xs. Ok xs) same
items_at_end (Some refusal) items log e same = cc

accepted_text : (text : Bytes) (items : List SpelledItem) → Spells text items → lrat_items text ≡ Ok (map spelled_item items)
accepted_text text items s =
    let good = good_end text s.good in
    let r = accepted (ended_tokens (with_end text)) items s.formed s.words in
    items_at_end (refusal_at_end (stage_of (with_end text))) (whole_items (with_end text)) (map spelled_item items)
    (ap refusal_at_end (stage_of-good (with_end text) good ∙ r.0)) (whole_items-good (with_end text) good ∙ r.1)

only_text : (text : Bytes) (log : List LogItem) → lrat_items text ≡ Ok log → (items : List SpelledItem) × Spells text items × (log ≡ map spelled_item items)
only_text text log h =
    let parts = items_from (refusal_at_end (stage_of (with_end text))) (whole_items (with_end text)) log h in
    let outside = outside_from (stage_of (with_end text)) parts.0 in
    let good = good_from_outside (with_end text) outside (list_all is_log_byte (with_end text)) refl in
    let r = only (ended_tokens (with_end text)) (sym (stage_of-good (with_end text) good) ∙ outside) in
    (r.items, record { good = good_before_end text good; formed = r.are_spelled; words = r.words_are }, parts.1 ∙ whole_items-good (with_end text) good ∙ r.items_are)

pub grammar_law : GrammarLaw
grammar_law = record { accepted = accepted_text; only = only_text }
