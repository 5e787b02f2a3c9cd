use Rattle.std.proofs.Common.{◌≡◌, ◌∙◌, ℕ, Bool, true, false, List, sym}
use Rattle.std.proofs.lemmas.Bool.Decides.{Decides-eqb}
use Rattle.std.proofs.lemmas.Slice.Eq.{slice_eq-Decides}
use Rattle.bundle_texts.proofs.ReportCuts.{other_line}
use Rattle.bundle_texts.proofs.report_reading.minimal.Goals as goal

-- texts that the test tells apart are different
differ : (text line : List ℕ) (same : Bool) → ((text ≡ line) → same ≡ true) → same ≡ false → text ≡ line → ⊥
differ text line same decides fails is = let bad : true ≡ false = sym (decides is) ∙ fails in cc

pub returns-then-eq : goal.returns-then-eq
returns-then-eq c =
    (slice_eq-Decides Decides-eqb c.args.text.now c.as_slice.result.now c.eq.result c.eq.ensures).0 c.if-eq.true ∙ c.as_slice.ensures

pub returns-then-eq-2 : goal.returns-then-eq-2
returns-then-eq-2 c =
    (slice_eq-Decides Decides-eqb c.args.text.now c.as_slice-else-eq.result.now c.eq-else-eq.result c.eq-else-eq.ensures).0 c.if-eq-2.true ∙ c.as_slice-else-eq.ensures

pub returns-else-eq-2 : goal.returns-else-eq-2
returns-else-eq-2 c =
    other_line c.args.text.now c.as_slice.result.now c.as_slice-else-eq.result.now c.as_slice.ensures c.as_slice-else-eq.ensures
    (differ c.args.text.now c.as_slice.result.now c.eq.result (slice_eq-Decides Decides-eqb c.args.text.now c.as_slice.result.now c.eq.result c.eq.ensures).1 c.if-eq.false)
    (differ c.args.text.now c.as_slice-else-eq.result.now c.eq-else-eq.result
    (slice_eq-Decides Decides-eqb c.args.text.now c.as_slice-else-eq.result.now c.eq-else-eq.result c.eq-else-eq.ensures).1 c.if-eq-2.false)
