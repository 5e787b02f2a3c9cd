-- One line further in the reading of lines that are kept.
use Rattle.std.proofs.Common.{◌≡◌, ℕ, ◌+◌, ◌<◌, List, [], ◌∷◌, length, get_or, drop, Option, Some, None, Result, sym, ap, subst, ◌∙◌, arith}
use Rattle.std.proofs.lemmas.List.{drop_more, drop_all}
use Rattle.semantics.specs.Texts.{Bytes}
use Rattle.semantics.specs.Net.{NetValue}
use Rattle.blif_semantics.specs.Lines.{LogicalLine, joined_before, line_before, before_backslash, without_comment, logical_from}
use Rattle.blif_semantics.specs.Reading.{Refusal}
use Rattle.blif_text.specs.LogicalLines.{gone_on, after_begun}
use Rattle.blif_text.specs.declared.refusal.BlifRefusal.{BlifRefusal}
use Rattle.blif_text.specs.KeptLines.{KeptLines, Outcome, outcome, unless_wrong}
use Rattle.blif_text.specs.Refusals.{Tells}

-- a physical line without a backslash at its end is the last one of its logical line
line_ended : (begun : Option LogicalLine) (number : ℕ) (line : Bytes) (rest : List LogicalLine) → before_backslash line ≡ None
    → after_begun begun (line_before number line rest) ≡ gone_on begun number line ∷ rest
line_ended None number line rest none =
    ap (λ (o : Option Bytes). elim o [ None ↦ record { number = number; bytes = line } ∷ rest | Some bytes ↦ joined_before (record { number = number; bytes = bytes }) rest ]) none
line_ended (Some begun) number line rest none =
    ap (λ (o : Option Bytes). joined_before begun (elim o [ None ↦ record { number = number; bytes = line } ∷ rest | Some bytes ↦ joined_before (record { number = number; bytes = bytes }) rest ]))
    none

-- a logical line was refused
pub ended_told : (k : KeptLines) (begun : Option LogicalLine) (number : ℕ) (line : Bytes) (ended : LogicalLine) (told : BlifRefusal) → before_backslash line ≡ None → ended ≡ gone_on begun number line
    → ((rest : List LogicalLine) (answer : Result NetValue Refusal) → Tells told (unless_wrong (outcome k (ended ∷ rest)).wrong answer))
    → (rest : List LogicalLine) (answer : Result NetValue Refusal) → Tells told (unless_wrong (outcome k (after_begun begun (line_before number line rest))).wrong answer)
ended_told k begun number line ended told none is h rest answer =
    subst (λ lines. Tells told (unless_wrong (outcome k lines).wrong answer)) (ap (λ l. l ∷ rest) is ∙ sym (line_ended begun number line rest none)) (h rest answer)

-- a physical line was taken
pub outcome-next : (old new : KeptLines) (begun left : Option LogicalLine) (number k : ℕ) (parts : List Bytes) (line : Bytes) (all : Outcome) → k < length parts → line ≡ get_or parts k line
    → ((rest : List LogicalLine) → outcome new (after_begun left rest) ≡ outcome old (after_begun begun (line_before number (without_comment line) rest)))
    → outcome old (after_begun begun (logical_from number (drop k parts))) ≡ all
    → outcome new (after_begun left (logical_from (number + 1) (drop (k + 1) parts))) ≡ all
outcome-next old new begun left number k parts line all within is added same =
    let cut : drop k parts ≡ line ∷ drop (k + 1) parts = drop_more parts k line within ∙ ap (λ l. l ∷ drop (k + 1) parts) (sym is) in
    added (logical_from (number + 1) (drop (k + 1) parts))
    ∙ ap (λ ps. outcome old (after_begun begun (logical_from number ps))) (sym cut)
    ∙ same

-- a physical line was refused
pub outcome-told : (old : KeptLines) (begun : Option LogicalLine) (number k : ℕ) (parts : List Bytes) (line : Bytes) (all : Outcome) (told : BlifRefusal) → k < length parts
    → line ≡ get_or parts k line
    → ((rest : List LogicalLine) (answer : Result NetValue Refusal) → Tells told (unless_wrong (outcome old (after_begun begun (line_before number (without_comment line) rest))).wrong answer))
    → outcome old (after_begun begun (logical_from number (drop k parts))) ≡ all
    → (answer : Result NetValue Refusal) → Tells told (unless_wrong all.wrong answer)
outcome-told old begun number k parts line all told within is h same answer =
    let cut : drop k parts ≡ line ∷ drop (k + 1) parts = drop_more parts k line within ∙ ap (λ l. l ∷ drop (k + 1) parts) (sym is) in
    subst (λ o. Tells told (unless_wrong o.wrong answer))
    (ap (λ ps. outcome old (after_begun begun (logical_from number ps))) (sym cut) ∙ same)
    (h (logical_from (number + 1) (drop (k + 1) parts)) answer)

-- all physical lines were taken
pub outcome-end : (old : KeptLines) (begun : Option LogicalLine) (number k : ℕ) (parts : List Bytes) (all : Outcome) → k ≡ length parts
    → outcome old (after_begun begun (logical_from number (drop k parts))) ≡ all → outcome old (after_begun begun []) ≡ all
outcome-end old begun number k parts all is same =
    ap (λ ps. outcome old (after_begun begun (logical_from number ps))) (sym (drop_all k parts (omega (arith, is)))) ∙ same
