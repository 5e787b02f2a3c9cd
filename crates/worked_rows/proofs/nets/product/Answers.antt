use Rattle.std.proofs.Common.{◌≡◌, ◌≤◌, true, nat_le, List, [], ◌∷◌, length, refl, sym, subst, lit≤}
use Rattle.std.specs.List.{AllByRecursion, list_all}
use Rattle.std.proofs.lemmas.Bool.{and_parts, leb-true}
use Rattle.std.proofs.lemmas.List.Elements.{All-from_recursion}
use Rattle.std.proofs.lemmas.Result.{IfOk-weaker}
use Rattle.semantics.specs.Net.{TableValue, IsSmall}
use Rattle.quality_semantics.specs.Multiply.{multiplier, multiplier_net}
use Rattle.worked_rows.proofs.nets.product.Goals as goal

few_pins : (tables : List TableValue) → list_all (λ t. nat_le (length t.pins) 256) tables ≡ true → AllByRecursion (λ t. length t.pins ≤ 256) tables
few_pins [] few = tt
few_pins (t ∷ tables) few = let parts = and_parts _ _ few in (leb-true (length t.pins) 256 parts.0, few_pins tables parts.1)

small : IsSmall (multiplier_net 5)
unfolding multiplier
small = record {
  inputs = lit≤ tt;
  outputs = lit≤ tt;
  tables = lit≤ tt;
  table_pins = All-from_recursion (λ t. length t.pins ≤ 256) (multiplier_net 5).tables (few_pins (multiplier_net 5).tables refl);
  all_pins = lit≤ tt;
  all_rows = lit≤ tt;
}

pub returns : goal.returns
returns c = IfOk-weaker c.mul_net.result _ _ (λ n is. subst IsSmall (sym is) small) c.mul_net.ensures.net
