use Rattle.std.proofs.Common.{◌≡◌, ◌<◌, ◌≤◌, ◌∙◌, ℕ, List, [], length, take, ap, sym, subst, inl, inr, refl, arith}
use Rattle.lane_bits.specs.Rows.{word_count}
use Rattle.lane_bits.specs.Patterns.{PatternSet, IsRowOf, vectors_in}
use Rattle.lane_bits.specs.Store.{AreRowsOf, row_at}
use Rattle.lane_bits.proofs.Bits.{row_bit-nil}
use Rattle.lane_bits.proofs.Store.{row-of}
use Rattle.lane_bits.proofs.patterns.Patterns.row.Goals as goal

module _ (inputs count input : ℕ) (rows here : List (List ℕ)) (set : PatternSet) (h : AreRowsOf inputs count rows)
    (is : ◌≡◌ {A = PatternSet} (record { inputs = inputs; vectors = vectors_in rows count }) set) (same : here ≡ rows) where
  held : (row words : List ℕ) (n : ℕ) → input < length here → row ≡ row_at here input → n ≡ word_count count → words ≡ take n row → IsRowOf set.vectors input words
  held row words n within at few e =
      subst (λ s. IsRowOf s.vectors input words) is
      (row-of inputs count rows h input (omega (arith, ap length same)) words (e ∙ (λ i. take (few i) ((at ∙ ap (λ r. row_at r input) same) i))))

  missing : input < set.inputs → length here ≤ input → IsRowOf set.vectors input []
  missing within past =
      elim h.each [
        | inl full ↦ absurd (omega (arith, full, ap length same, ap (λ s. s.inputs) is))
        | inr none ↦
            subst (λ s. IsRowOf s.vectors input []) is
            (subst (λ n. IsRowOf (vectors_in rows n) input []) (sym none.0) (record { words = refl; bits = row_bit-nil }))
      ]

pub returns-in-Some : goal.returns-in-Some
returns-in-Some c =
    let found = c.in-Some.ensures.lookup.3 in
    held c.self.inside.inputs c.self.inside.count c.args.input c.self.inside.rows.items c.deref.result.now c.args.self.now c.self.invariant c.self.view_is c.deref.ensures.value
    c.in-Some.row.now c.first_words.result.now c.word_count.result found.0 (found.1 []) c.word_count.ensures c.first_words.ensures

pub returns-in-None : goal.returns-in-None
returns-in-None c =
    missing c.self.inside.inputs c.self.inside.count c.args.input c.self.inside.rows.items c.deref.result.now c.args.self.now c.self.invariant c.self.view_is c.deref.ensures.value
    c.requires c.in-None.ensures.lookup.3
