-- What the comparison of a text with a formula's says of it.
use Rattle.std.proofs.Common.{◌≡◌, ◌≢◌, ◌<◌, ℕ, min, Bool, true, false, [], ◌∷◌, ◌++◌, length, take, drop, refl, sym, ap, subst, ◌∙◌, inl, inr, append_assoc, length-append, arith}
use Rattle.std.specs.Prelude.{◌↔◌, IsTrue}
use Rattle.std.specs.Bool.{Decides}
use Rattle.std.proofs.lemmas.List.{append-nil, append_cancel_left, take-append-drop, take_min}
use Rattle.std.proofs.Math.Seq.{take-append_seam}
use Rattle.semantics.specs.Texts.{Bytes}
use Rattle.proof_semantics.specs.Formula.{Formula, dimacs_text}
use Rattle.file_reading.specs.Reading.{IsAllWanted}
use Rattle.bundle_texts.specs.FormulaStanding.{StandsAt, Stands}
use Rattle.bundle_texts.specs.declared.formula_check.FormulaCheck.TheInside.{Inside}

-- a piece was taken
stands_with : (is_next : Bool) (formula : Formula) (text piece rest : Bytes) → text ++ rest ≡ dimacs_text formula → IsTrue is_next ↔ (piece ≡ take (length piece) rest)
    → StandsAt is_next formula (text ++ piece) (drop (length piece) rest)
stands_with true formula text piece rest same next =
    append_assoc text piece (drop (length piece) rest)
    ∙ ap (λ front. text ++ (front ++ drop (length piece) rest)) (next.0 refl) ∙ ap (λ t. text ++ t) (take-append-drop (length piece) rest) ∙ same
stands_with false formula text piece rest same next = λ more is.
    let on : piece ++ more ≡ rest = append_cancel_left text (piece ++ more) rest (sym (append_assoc text piece more) ∙ is ∙ sym same) in
    let front : piece ≡ take (length piece) rest = sym (take-append_seam piece more) ∙ ap (take (length piece)) on in
    let yes : false ≡ true = next.1 front in
    cc

-- what the bytes that come next in the formula's text say of a piece
pub next_decides : (is_next : Bool) (piece rest next : Bytes) (count : ℕ) → Decides is_next (piece ≡ take count next) → count ≡ min (length piece) (length rest) → take count next ≡ take count rest
    → IsTrue is_next ↔ (piece ≡ take (length piece) rest)
next_decides is_next piece rest next count decides is given =
    let front : take count next ≡ take (length piece) rest = given ∙ ap (λ n. take n rest) is ∙ take_min (length piece) rest in
    ((λ h. decides.0 h ∙ front), λ h. decides.1 (h ∙ sym front))

differs_still : (formula : Formula) (text piece rest new : Bytes) → StandsAt false formula text rest → StandsAt false formula (text ++ piece) new
differs_still formula text piece rest new never more is = never (piece ++ more) (sym (append_assoc text piece more) ∙ is)

pub taken_next : (a mid : Inside) (bytes piece new : Bytes) (is_next : Bool) → mid ≡ record a { rest = new; is_same = is_next } → bytes ≡ mid.text.bytes ++ piece
    → StandsAt true a.formula.now a.text.bytes a.rest
    → IsTrue is_next ↔ (piece ≡ take (length piece) a.rest) → new ≡ drop (length piece) a.rest → StandsAt mid.is_same mid.formula.now bytes mid.rest
taken_next a mid bytes piece new is_next is text same next rest =
    let whole : bytes ≡ a.text.bytes ++ piece = text ∙ ap (λ (m : Inside). m.text.bytes ++ piece) is in
    let stands = stands_with is_next a.formula.now a.text.bytes piece a.rest same next in
    subst (λ (m : Inside). StandsAt m.is_same m.formula.now bytes m.rest) (sym is)
    (subst (λ r. StandsAt is_next a.formula.now bytes r) (sym rest) (subst (λ t. StandsAt is_next a.formula.now t (drop (length piece) a.rest)) (sym whole) stands))

pub taken_still : (a mid : Inside) (bytes piece : Bytes) → mid ≡ a → bytes ≡ mid.text.bytes ++ piece → a.is_same ≡ false → Stands a → StandsAt mid.is_same mid.formula.now bytes mid.rest
taken_still a mid bytes piece is text other stands =
    let never = subst (λ b. StandsAt b a.formula.now a.text.bytes a.rest) other stands in
    let whole : bytes ≡ a.text.bytes ++ piece = text ∙ ap (λ (m : Inside). m.text.bytes ++ piece) is in
    subst (λ (m : Inside). StandsAt m.is_same m.formula.now bytes m.rest) (sym is)
    (subst (λ b. StandsAt b a.formula.now bytes a.rest) (sym other)
    (subst (λ t. StandsAt false a.formula.now t a.rest) (sym whole) (differs_still a.formula.now a.text.bytes piece a.rest a.rest never)))

-- a text that differs is not the formula's, and none that goes on from it
pub differs : (formula : Formula) (text rest content : Bytes) (room : ℕ) → StandsAt false formula text rest → IsAllWanted content text room → content ≢ dimacs_text formula
differs formula text rest content room never (inl whole) is = never [] (append-nil text ∙ whole ∙ is)
differs formula text rest content room never (inr (none, front)) is =
    never (drop (length text) content) (ap (λ t. t ++ drop (length text) content) front ∙ take-append-drop (length text) content ∙ is)

-- a whole text that does not differ is the formula's where nothing is left
nothing_left : (text rest all : Bytes) (count : ℕ) → text ++ rest ≡ all → count ≡ min 1 (length rest) → (count ≡ 0) ↔ (text ≡ all)
nothing_left text [] all count same is = ((λ h. sym (append-nil text) ∙ same), (λ h. is))
nothing_left text (b ∷ rest) all count same is =
    ((λ h. absurd (omega (arith, h, is))), λ h. absurd (omega (arith, ap length h, ap length same, length-append text (b ∷ rest))))

pub same_ends : (formula : Formula) (text rest content : Bytes) (room count : ℕ) → text ++ rest ≡ dimacs_text formula → 0 < room → count ≡ min 1 (length rest) → IsAllWanted content text room
    → (count ≡ 0) ↔ (content ≡ dimacs_text formula)
same_ends formula text rest content room count same going is (inl whole) = subst (λ t. (count ≡ 0) ↔ (t ≡ dimacs_text formula)) whole (nothing_left text rest (dimacs_text formula) count same is)
same_ends formula text rest content room count same going is (inr (none, front)) = absurd (omega (arith, going, none))
