use Rattle.std.proofs.Common.{◌≡◌, ℕ, Bool, List, [], ◌∷◌, ◌++◌, ◌∙◌, append_assoc}
use Rattle.std.specs.Prelude.{codes, decimal}
use Rattle.std.proofs.lemmas.List.{append-nil}
use Rattle.semantics.specs.Texts.{Bytes, bits_word, line_text, text_of}
use Rattle.job_semantics.specs.Report.{Report, report_of, version_word, metric_word, yes_word, report_text}
use Rattle.bundle_writing.proofs.report_writing.report.Goals as goal

-- eight texts, one after another
eight : (t a b c d e f g h : Bytes) → t ≡ [] → (((((((t ++ a) ++ b) ++ c) ++ d) ++ e) ++ f) ++ g) ++ h ≡ a ++ (b ++ (c ++ (d ++ (e ++ (f ++ (g ++ (h ++ [])))))))
eight t a b c d e f g h is = rw is (simp (append_assoc, append-nil))

-- the text grew line by line to the report
report_from : (r : Report) {t salsa metric bound maximum witness tables literals minimal version_is minimal_is : Bytes} {bits : List Bool} {a b c d : ℕ}
    → t ≡ [] → version_is ≡ version_word r.version → bits ≡ r.witness → a ≡ r.old_tables → b ≡ r.new_tables → c ≡ r.old_literals → d ≡ r.new_literals
    → minimal_is ≡ yes_word r.minimal
    → salsa ≡ t ++ line_text (codes "salsa" ∷ version_is ∷ [])
    → metric ≡ salsa ++ line_text (codes "metric" ∷ metric_word r.metric ∷ [])
    → bound ≡ metric ++ line_text (codes "bound" ∷ decimal r.bound ∷ [])
    → maximum ≡ bound ++ line_text (codes "maximum" ∷ decimal r.maximum ∷ [])
    → witness ≡ maximum ++ line_text (codes "witness" ∷ bits_word bits ∷ [])
    → tables ≡ witness ++ line_text (codes "tables" ∷ decimal a ∷ decimal b ∷ [])
    → literals ≡ tables ++ line_text (codes "literals" ∷ decimal c ∷ decimal d ∷ [])
    → minimal ≡ literals ++ line_text (codes "minimal" ∷ minimal_is ∷ [])
    → minimal ≡ report_text r
unfolding report_text text_of
report_from r {t = t} none version_is bits a b c d minimal_is e1 e2 e3 e4 e5 e6 e7 e8 =
    rw (e8, e7, e6, e5, e4, e3, e2, e1, version_is, bits, a, b, c, d, minimal_is) (eight t _ _ _ _ _ _ _ _ none)

pub returns : goal.returns
returns c =
    rw (← c.b.view_is)
    (report_from
    (report_of c.b.inside.version c.b.inside.metric c.b.inside.bound c.b.inside.maximum c.b.inside.witness c.b.inside.exact c.b.inside.approx c.b.inside.minimal)
    c.new-text.ensures c.version_word.ensures.word c.as_slice.ensures
    (c.into.ensures ∙ c.tables.ensures.value) (c.into-2.ensures ∙ c.tables-2.ensures.value) c.literals.ensures.value c.literals-2.ensures.value c.yes_word.ensures.word
    c.add_word.ensures.bytes c.add_metric.ensures.bytes c.add_number.ensures.bytes c.add_number-2.ensures.bytes c.add_witness.ensures.bytes
    c.add_numbers.ensures.bytes c.add_numbers-2.ensures.bytes c.add_word-2.ensures.bytes)
