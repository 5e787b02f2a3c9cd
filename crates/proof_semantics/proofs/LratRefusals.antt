-- What a text is refused for.
use Rattle.std.proofs.Common.{◌≡◌, ℕ, ◌^◌, ◌==◌, ◌&&◌, List, [], ◌∷◌, ◌++◌, length, true, false, Bool, subst, Option, Some, None, Result, Ok, Err, ◌⊎◌, inl, inr}
use Rattle.std.specs.Prelude.{if◌then◌else◌, nat_lt}
use Rattle.semantics.specs.Texts.{Bytes}
use Rattle.proof_semantics.specs.declared.lrat_refusal.LratRefusal.{LratRefusal}
use Rattle.proof_semantics.specs.declared.lrat_refusal.LratRefusal.TheVariants.{BadByte, Cut}
use Rattle.proof_semantics.specs.declared.lrat_word.LratWord.{LratWord}
use Rattle.proof_semantics.specs.declared.lrat_word.LratWord.TheVariants.{Letter, Number, Malformed}
use Rattle.proof_semantics.specs.Clauses.{Clause}
use Rattle.proof_semantics.specs.Logs.{LogItem}
use Rattle.proof_semantics.specs.LratTokens.{Token, ended_tokens, token_word}
use Rattle.proof_semantics.specs.LratMatching.{Stage, Outside, Begun, Literals, Hints, Deletion, Refused, bad_number, signed, after_literals, stage_after, stage_after_all}
use Rattle.proof_semantics.specs.LratReading.{good_part, whole_items, is_refused, stage_with_byte, stage_of, refusal_at, with_end, refusal_at_end}
use Rattle.proof_semantics.specs.LratLaws.{IsWithinText, LratRefusalLaw}

-- where a text is refused, it is for what stands in it
abbrev Tells : Stage → Type 0
Tells (Refused refusal) = IsWithinText refusal
Tells _ = Unit {0}

one_of : (b : Bool) (x y : Stage) → Tells x → Tells y → Tells (if b then x else y)
one_of true x y h k = h
one_of false x y h k = k

Tells-literals : (id : ℕ) (literals : Clause) (word : LratWord) (place : ℕ) → Tells (after_literals id literals word place)
Tells-literals id literals Letter place = tt
Tells-literals id literals Malformed place = tt
Tells-literals id literals (Number negative size) place =
    let more = Literals id (literals ++ signed negative size ∷ []) in
    one_of (size == 0) (Hints id literals []) (if nat_lt size (2 ^ 31) then more else bad_number place) tt (one_of (nat_lt size (2 ^ 31)) more (bad_number place) tt tt)

Tells-after : (stage : Stage) (word : LratWord) (place : ℕ) → Tells stage → Tells (stage_after stage word place)
Tells-after (Refused refusal) word place h = h
Tells-after Outside Letter place h = tt
Tells-after Outside Malformed place h = tt
Tells-after Outside (Number negative size) place h = one_of (negative && nat_lt 0 size) (bad_number place) (Begun size) tt tt
Tells-after (Begun id) Letter place h = tt
Tells-after (Begun id) Malformed place h = one_of (id == 0) (bad_number place) (bad_number place) tt tt
Tells-after (Begun id) (Number negative size) place h = one_of (id == 0) (bad_number place) (after_literals id [] (Number negative size) place) tt (Tells-literals id [] (Number negative size) place)
Tells-after (Literals id literals) word place h = Tells-literals id literals word place
Tells-after (Hints id literals hints) Letter place h = tt
Tells-after (Hints id literals hints) Malformed place h = tt
Tells-after (Hints id literals hints) (Number true size) place h = one_of (size == 0) Outside _ tt tt
Tells-after (Hints id literals hints) (Number false size) place h = one_of (size == 0) Outside _ tt tt
Tells-after (Deletion ids) Letter place h = tt
Tells-after (Deletion ids) Malformed place h = tt
Tells-after (Deletion ids) (Number true size) place h = one_of (size == 0) Outside _ tt tt
Tells-after (Deletion ids) (Number false size) place h = one_of (size == 0) Outside _ tt tt

Tells-all : (tokens : List Token) (stage : Stage) → Tells stage → Tells (stage_after_all stage tokens)
Tells-all [] stage h = h
Tells-all (t ∷ tokens) stage h = Tells-all tokens (stage_after stage (token_word t.bytes) t.place) (Tells-after stage (token_word t.bytes) t.place h)

Tells-byte : (stage : Stage) (bad size : ℕ) → Tells stage → Tells (stage_with_byte stage bad size)
Tells-byte stage bad size h = one_of (is_refused stage) stage (if nat_lt bad size then Refused (BadByte bad) else stage) h (one_of (nat_lt bad size) (Refused (BadByte bad)) stage tt h)

Tells-text : (text : Bytes) → Tells (stage_of text)
unfolding stage_of
Tells-text text = Tells-byte _ (length (good_part text)) (length text) (Tells-all (ended_tokens (good_part text)) Outside tt)

told : (stage : Stage) (refusal : LratRefusal) → Tells stage → refusal_at stage ≡ Some refusal → IsWithinText refusal
told (Refused other) refusal h e = let same : other ≡ refusal = cc in subst IsWithinText same h
told Outside refusal h e = cc
told (Begun id) refusal h e = cc
told (Literals id literals) refusal h e = cc
told (Hints id literals hints) refusal h e = cc
told (Deletion ids) refusal h e = cc

told_at_end : (stage : Stage) (refusal : LratRefusal) → Tells stage → refusal_at_end stage ≡ Some refusal → (refusal ≡ Cut) ⊎ IsWithinText refusal
told_at_end (Refused other) refusal h e = let same : other ≡ refusal = cc in inr (subst IsWithinText same h)
told_at_end Outside refusal h e = cc
told_at_end (Begun id) refusal h e = inl cc
told_at_end (Literals id literals) refusal h e = inl cc
told_at_end (Hints id literals hints) refusal h e = inl cc
told_at_end (Deletion ids) refusal h e = inl cc

refusal_from : (end : Option LratRefusal) (items : List LogItem) (refusal : LratRefusal) → (elim end as (λ _. Result (List LogItem) LratRefusal) [ None ↦ Ok items | Some r ↦ Err r ]) ≡ Err refusal
    → end ≡ Some refusal
refusal_from None items refusal h = cc
refusal_from (Some other) items refusal h = cc

pub refusal_law : LratRefusalLaw
refusal_law = record {
  within = λ text refusal e. told (stage_of text) refusal (Tells-text text) e;
  at_end = λ text refusal e.
      told_at_end (stage_of (with_end text)) refusal (Tells-text (with_end text)) (refusal_from (refusal_at_end (stage_of (with_end text))) (whole_items (with_end text)) refusal e);
}
