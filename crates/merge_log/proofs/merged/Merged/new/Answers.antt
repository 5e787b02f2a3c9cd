use Rattle.std.proofs.Common.{◌≡◌, ℕ, zero, suc, ◌+◌, ◌-◌, ◌<◌, List, [], ◌∷◌, ◌++◌, length, get_or, refl, ap, ◌∙◌, inl, inr, arith, length-append}
use Rattle.std.specs.Prelude.{All}
use Rattle.std.proofs.lemmas.Bool.{cases_lt}
use Rattle.std.proofs.lemmas.List.{get_or_append_left, get_or-append_right}
use Rattle.std.proofs.lemmas.List.Elements.{All-push}
use Rattle.merge_log.proofs.merged.Merged.new.Goals as goal

single : (s n k : ℕ) → (n ≡ 0 → s ≡ k) → get_or (s ∷ []) n k ≡ k
single s zero k h = h refl
single s (suc n) k h = refl

alone_more : (xs : List ℕ) (s : ℕ) → length xs ≡ s → ((k : ℕ) → get_or xs k k ≡ k) → (k : ℕ) → get_or (xs ++ s ∷ []) k k ≡ k
alone_more xs s count alone k = elim (cases_lt k (length xs)) [
  | inl low ↦ get_or_append_left xs (s ∷ []) k k low ∙ alone k
  | inr high ↦ get_or-append_right xs (s ∷ []) (length xs) k k refl high ∙ single s (k - length xs) k (λ e. omega (arith, e, high, count))
]

pub loop-s-preserved : goal.loop-s-preserved
loop-s-preserved c =
    let xs = c.loop-s.firsts.items in
    let s = c.loop-s.s in
    rw c.in_ok-push.ensures.items
    (record {
      count = omega (arith, length-append xs (s ∷ []), c.loop-s.invariant.count);
      within = All-push (λ f. f < s + 1) xs s (λ k d low. omega (arith, c.loop-s.invariant.within k d low)) (omega arith);
      alone = alone_more xs s c.loop-s.invariant.count c.loop-s.invariant.alone;
    })

pub returns : goal.returns
returns c = record {
  count = omega (arith, c.loop-s.invariant.count, c.loop-s-test.false, c.loop-s.auto.s-end);
  alone = c.loop-s.invariant.alone;
}
