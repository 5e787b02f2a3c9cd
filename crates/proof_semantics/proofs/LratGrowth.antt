-- What is decided in a text stays decided, however the text goes on.
use Rattle.std.proofs.Common.{◌≡◌, ℕ, ◌+◌, ◌<◌, List, [], ◌∷◌, ◌++◌, length, true, false, Bool, refl, ap, sym, ◌∙◌, Option, Some, None, Ok, append_assoc, append-nil, length-append, arith}
use Rattle.std.specs.Prelude.{All, if◌then◌else◌}
use Rattle.std.specs.List.{list_all, slice_split, take_while}
use Rattle.std.proofs.lemmas.Bool.{lt-ltb, and_parts}
use Rattle.std.proofs.lemmas.List.Elements.{All-nil, All-cons, All-append}
use Rattle.std.proofs.lemmas.List.Splits.{slice_split_none, slice_split_at, length-slice_split}
use Rattle.std.proofs.lemmas.List.Sums.{take_while-cons}
use Rattle.semantics.specs.Texts.{Bytes}
use Rattle.proof_semantics.specs.declared.lrat_refusal.LratRefusal.{LratRefusal}
use Rattle.proof_semantics.specs.Logs.{LogItem}
use Rattle.proof_semantics.specs.LratTokens.{is_blank, is_log_byte, Token, token_at, ended, ended_tokens, token_word}
use Rattle.proof_semantics.specs.LratMatching.{Stage, Outside, Begun, Literals, Hints, Deletion, Refused, stage_after, item_given, stage_after_all, items_given}
use Rattle.proof_semantics.specs.LratReading.{good_part, whole_items, stage_with_byte, stage_of, refusal_at, lrat_refusal, with_end, refusal_at_end, lrat_items}
use Rattle.proof_semantics.specs.LratLaws.{GrowthLaw}
use Rattle.proof_semantics.proofs.LratTexts.{good_short, stage_of-good, whole_items-good, items_from}

-- a first part that a blank ends
pub ended_more : (place : ℕ) (part : Bytes) (parts : List Bytes) → 0 < length parts → ended place (part ∷ parts) ≡ token_at place part ++ ended (place + length part + 1) parts
ended_more place part [] h = absurd (omega arith)
ended_more place part (next ∷ parts) h = refl

-- the tokens of a text, in whose held bytes there is no blank, and then the tokens of more bytes
abbrev EndedFirst : ℕ → Bytes → Bytes → Bytes → Type 0
EndedFirst place held text more =
    (later : List Token) × (ended place (slice_split is_blank (held ++ (text ++ more))) ≡ ended place (slice_split is_blank (held ++ text)) ++ later)

at_blank : (place : ℕ) (held : Bytes) (c : ℕ) (cs more : Bytes) → All (λ x. is_blank x ≡ false) held → is_blank c ≡ true → EndedFirst (place + length held + 1) [] cs more
    → EndedFirst place held (c ∷ cs) more
at_blank place held c cs more plain b rest =
    let next = place + length held + 1 in
    let all = slice_split_at is_blank held c (cs ++ more) plain b in
    let first = slice_split_at is_blank held c cs plain b in
    let long = ended_more place held (slice_split is_blank (cs ++ more)) (omega (arith, length-slice_split is_blank (cs ++ more))) in
    let short = ended_more place held (slice_split is_blank cs) (omega (arith, length-slice_split is_blank cs)) in (
      rest.0,
      ap (ended place) all ∙ long ∙ ap (λ ts. token_at place held ++ ts) rest.1 ∙ sym (append_assoc (token_at place held) (ended next (slice_split is_blank cs)) rest.0)
          ∙ ap (λ ts. ts ++ rest.0) (sym (ap (ended place) first ∙ short)),
    )

at_other : (place : ℕ) (held : Bytes) (c : ℕ) (cs more : Bytes) → EndedFirst place (held ++ c ∷ []) cs more → EndedFirst place held (c ∷ cs) more
at_other place held c cs more rest =
    let all = append_assoc held (c ∷ []) (cs ++ more) in
    let first = append_assoc held (c ∷ []) cs in
    (rest.0, ap (λ t. ended place (slice_split is_blank t)) (sym all) ∙ rest.1 ∙ ap (λ t. ended place (slice_split is_blank t) ++ rest.0) first)

ended_first : (text : Bytes) (place : ℕ) (held more : Bytes) → All (λ x. is_blank x ≡ false) held → EndedFirst place held text more
ended_first [] place held more plain =
    let rest = ended place (slice_split is_blank (held ++ more)) in
    let first : slice_split is_blank (held ++ []) ≡ held ∷ [] = rw append-nil (slice_split_none is_blank held plain) in
    (rest, ap (λ ps. ended place ps ++ rest) (sym first))
ended_first (c ∷ cs) place held more plain =
    at_test (ended_first cs (place + length held + 1) [] more (All-nil (λ x. is_blank x ≡ false))) (λ plainer. ended_first cs place (held ++ c ∷ []) more plainer) (is_blank c) refl where
      at_test : EndedFirst (place + length held + 1) [] cs more → (All (λ x. is_blank x ≡ false) (held ++ c ∷ []) → EndedFirst place (held ++ c ∷ []) cs more)
          → (b : Bool) → is_blank c ≡ b → EndedFirst place held (c ∷ cs) more
      at_test blank other true b = at_blank place held c cs more plain b blank
      at_test blank other false b =
          at_other place held c cs more (other (All-append (λ x. is_blank x ≡ false) held (c ∷ []) plain (All-cons (λ x. is_blank x ≡ false) c [] b (All-nil (λ x. is_blank x ≡ false)))))

ended_tokens-append : (text more : Bytes) → (later : List Token) × (ended_tokens (text ++ more) ≡ ended_tokens text ++ later)
unfolding ended_tokens
ended_tokens-append text more = ended_first text 0 [] more (All-nil (λ x. is_blank x ≡ false))

stage_after_all-append : (stage : Stage) (ts us : List Token) → stage_after_all stage (ts ++ us) ≡ stage_after_all (stage_after_all stage ts) us
stage_after_all-append stage [] us = refl
stage_after_all-append stage (t ∷ ts) us = stage_after_all-append (stage_after stage (token_word t.bytes) t.place) ts us

items_given-append : (stage : Stage) (ts us : List Token) → items_given stage (ts ++ us) ≡ items_given stage ts ++ items_given (stage_after_all stage ts) us
items_given-append stage [] us = refl
items_given-append stage (t ∷ ts) us =
    let given = item_given stage (token_word t.bytes) in
    let next = stage_after stage (token_word t.bytes) t.place in
    ap (λ xs. given ++ xs) (items_given-append next ts us) ∙ sym (append_assoc given (items_given next ts) (items_given (stage_after_all next ts) us))

-- behind a refusal nothing changes
refused_stays : (refusal : LratRefusal) (ts : List Token) → (stage_after_all (Refused refusal) ts ≡ Refused refusal) × (items_given (Refused refusal) ts ≡ [])
refused_stays refusal [] = (refl, refl)
refused_stays refusal (t ∷ ts) = refused_stays refusal ts

refused_from : (stage : Stage) (refusal : LratRefusal) → refusal_at stage ≡ Some refusal → stage ≡ Refused refusal
refused_from (Refused other) refusal h = cc
refused_from Outside refusal h = cc
refused_from (Begun id) refusal h = cc
refused_from (Literals id literals) refusal h = cc
refused_from (Hints id literals hints) refusal h = cc
refused_from (Deletion ids) refusal h = cc

-- a good text goes on with the good part of what follows
take_while-append : (p : ℕ → Bool) (xs ys : Bytes) → list_all p xs ≡ true → take_while p (xs ++ ys) ≡ xs ++ take_while p ys
take_while-append p [] ys h = refl
take_while-append p (x ∷ xs) ys h =
    let parts = and_parts (p x) (list_all p xs) h in
    take_while-cons p x (xs ++ ys) ∙ rw parts.0 (ap (λ zs. x ∷ zs) (take_while-append p xs ys parts.1))

-- a bad byte ends it, whatever follows
take_while_same : (p : ℕ → Bool) (xs ys : Bytes) → list_all p xs ≡ false → take_while p (xs ++ ys) ≡ take_while p xs
take_while_same p [] ys h = cc
take_while_same p (x ∷ xs) ys h = take_while-cons p x (xs ++ ys) ∙ at_test (take_while_same p xs ys) (p x) refl ∙ sym (take_while-cons p x xs) where
  at_test : (list_all p xs ≡ false → take_while p (xs ++ ys) ≡ take_while p xs) → (t : Bool) → p x ≡ t
      → (if t then x ∷ take_while p (xs ++ ys) else []) ≡ (if t then x ∷ take_while p xs else [])
  at_test rest true e = let more : list_all p xs ≡ false = rw e at h in ap (λ zs. x ∷ zs) (rest more)
  at_test rest false e = refl

good_append : (text more : Bytes) → list_all is_log_byte text ≡ true → good_part (text ++ more) ≡ text ++ good_part more
unfolding good_part
good_append text more h = take_while-append is_log_byte text more h

good_same : (text more : Bytes) → list_all is_log_byte text ≡ false → good_part (text ++ more) ≡ good_part text
unfolding good_part
good_same text more h = take_while_same is_log_byte text more h

-- the items of a longer text
record GoesOn (text more : Bytes) : Type 0 where
  later : List LogItem
  items : whole_items (text ++ more) ≡ whole_items text ++ later
  refused : (refusal : LratRefusal) → lrat_refusal text ≡ Some refusal → (lrat_refusal (text ++ more) ≡ Some refusal) × (whole_items (text ++ more) ≡ whole_items text)

-- a token was refused, and what follows changes nothing
refused_first : (stage : Stage) (refusal : LratRefusal) (later : List Token) (bad size : ℕ) → stage ≡ Refused refusal
    → (stage_with_byte (stage_after_all stage later) bad size ≡ Refused refusal) × (items_given stage later ≡ [])
refused_first stage refusal later bad size e =
    let stays = refused_stays refusal later in
    (ap (λ (s : Stage). stage_with_byte (stage_after_all s later) bad size) e ∙ ap (λ (s : Stage). stage_with_byte s bad size) stays.0, ap (λ (s : Stage). items_given s later) e ∙ stays.1)

good_goes_on : (text more : Bytes) → list_all is_log_byte text ≡ true → GoesOn text more
unfolding whole_items stage_of
good_goes_on text more h =
    let part = good_part more in
    let same = good_append text more h in
    let tokens = ended_tokens-append text part in
    let stage = stage_after_all Outside (ended_tokens text) in
    let all : ended_tokens (good_part (text ++ more)) ≡ ended_tokens text ++ tokens.0 = ap ended_tokens same ∙ tokens.1 in
    let items : whole_items (text ++ more) ≡ whole_items text ++ items_given stage tokens.0 =
    ap (items_given Outside) all ∙ items_given-append Outside (ended_tokens text) tokens.0 ∙ ap (λ xs. xs ++ items_given stage tokens.0) (sym (whole_items-good text h)) in
    record {
      later = items_given stage tokens.0;
      items = items;
      refused = λ refusal r.
          let told = refused_from stage refusal (ap refusal_at (sym (stage_of-good text h)) ∙ r) in
          let first = refused_first stage refusal tokens.0 (length (good_part (text ++ more))) (length (text ++ more)) told in (
            ap (λ ts. refusal_at (stage_with_byte (stage_after_all Outside ts) (length (good_part (text ++ more))) (length (text ++ more)))) all
                ∙ ap (λ s. refusal_at (stage_with_byte s (length (good_part (text ++ more))) (length (text ++ more)))) (stage_after_all-append Outside (ended_tokens text) tokens.0)
                ∙ ap refusal_at first.0,
            items ∙ ap (λ xs. whole_items text ++ xs) first.1 ∙ append-nil (whole_items text),
          );
    }

-- behind a bad byte nothing is decided
later_byte : (stage : Stage) (bad n m : ℕ) → bad < n → bad < m → stage_with_byte stage bad n ≡ stage_with_byte stage bad m
later_byte stage bad n m h k = rw (lt-ltb bad n h, lt-ltb bad m k) refl

bad_goes_on : (text more : Bytes) → list_all is_log_byte text ≡ false → GoesOn text more
unfolding whole_items stage_of
bad_goes_on text more h =
    let same = good_same text more h in
    let short = good_short text h in
    let stage = stage_after_all Outside (ended_tokens (good_part text)) in
    let items : whole_items (text ++ more) ≡ whole_items text = ap (λ t. items_given Outside (ended_tokens t)) same in
    let stages : stage_of (text ++ more) ≡ stage_of text =
    ap (λ t. stage_with_byte (stage_after_all Outside (ended_tokens t)) (length t) (length (text ++ more))) same
    ∙ later_byte stage (length (good_part text)) (length (text ++ more)) (length text) (omega (arith, short, length-append text more)) short in
    record {
      later = [];
      items = items ∙ sym (append-nil (whole_items text));
      refused = λ refusal r. (ap refusal_at stages ∙ r, items);
    }

goes_on : (text more : Bytes) → GoesOn text more
goes_on text more = at_test (list_all is_log_byte text) refl where
  at_test : (b : Bool) → list_all is_log_byte text ≡ b → GoesOn text more
  at_test true b = good_goes_on text more b
  at_test false b = bad_goes_on text more b

not_refused : (stage : Stage) (refusal : LratRefusal) → refusal_at stage ≡ Some refusal → refusal_at_end stage ≡ None → ⊥
not_refused (Refused other) refusal r e = cc
not_refused Outside refusal r e = cc
not_refused (Begun id) refusal r e = cc
not_refused (Literals id literals) refusal r e = cc
not_refused (Hints id literals hints) refusal r e = cc
not_refused (Deletion ids) refusal r e = cc

none_from : (o : Option LratRefusal) → ((refusal : LratRefusal) → o ≡ Some refusal → ⊥) → o ≡ None
none_from None h = refl
none_from (Some refusal) h = absurd (h refusal refl)

read_before : (text more : Bytes) (log : List LogItem) → lrat_items (text ++ more) ≡ Ok log → (lrat_refusal text ≡ None) × ((later : List LogItem) × (log ≡ whole_items text ++ later))
read_before text more log h =
    let whole = append_assoc text more (10 ∷ []) in
    let parts = items_from (refusal_at_end (stage_of (with_end (text ++ more)))) (whole_items (with_end (text ++ more))) log h in
    let g = goes_on text (more ++ 10 ∷ []) in (
      none_from (lrat_refusal text) (λ refusal r. not_refused (stage_of (with_end (text ++ more))) refusal (ap lrat_refusal whole ∙ (g.refused refusal r).0) parts.0),
      (g.later, parts.1 ∙ ap whole_items whole ∙ g.items),
    )

pub growth_law : GrowthLaw
growth_law = record {
  items = λ text more. ((goes_on text more).later, (goes_on text more).items);
  refused = λ text more. (goes_on text more).refused;
  read = read_before;
}
