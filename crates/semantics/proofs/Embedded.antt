-- Tables that stand in a larger list keep their values there: its values, read through f, are consistent with the tables.
use Rattle.std.proofs.Common.{◌≡◌, ℕ, ◌+◌, ◌<◌, Bool, false, cond, not, List, [], ◌∷◌, ◌++◌, map, length, get_or, refl, ap, sym, ◌∙◌, arith}
use Rattle.std.specs.List.{list_any}
use Rattle.std.proofs.lemmas.List.{length-append, get_or_append_left, map-id}
use Rattle.semantics.specs.declared.mark.Mark.{Mark}
use Rattle.semantics.specs.Net.{TableValue, no_table, table_at, IsAcyclic}
use Rattle.semantics.specs.Value.{Assignment, row_matches, table_value, value_of}
use Rattle.semantics.proofs.Values.{value_law}
use Rattle.semantics.specs.Embedding.{StandsAt, IsEmbedded}

row_matches-map : (marks : List Mark) (f : ℕ → ℕ) (pins : List ℕ) (v : Assignment) → row_matches marks (map f pins) v ≡ row_matches marks pins (λ s. v (f s))
row_matches-map [] f pins v = refl
row_matches-map (m ∷ marks) f [] v = refl
row_matches-map (m ∷ marks) f (s ∷ pins) v = let rest = row_matches-map marks f pins v in cc

some_row-map : (rows : List (List Mark)) (f : ℕ → ℕ) (pins : List ℕ) (v : Assignment)
    → list_any (λ marks. row_matches marks (map f pins) v) rows ≡ list_any (λ marks. row_matches marks pins (λ s. v (f s))) rows
some_row-map [] f pins v = refl
some_row-map (marks ∷ rows) f pins v = let here = row_matches-map marks f pins v in let rest = some_row-map rows f pins v in cc

pub table_value-renamed : (f : ℕ → ℕ) (t u : TableValue) (v : Assignment) → u.pins ≡ map f t.pins → u.rows ≡ t.rows → u.plane ≡ t.plane → table_value u v ≡ table_value t (λ s. v (f s))
table_value-renamed f t u v pins rows plane =
    rw (pins, rows, plane) (ap (λ b. cond b t.plane (not t.plane)) (some_row-map t.rows f t.pins v))

pub embedded-values : (n : ℕ) (tables : List TableValue) (m : ℕ) (larger : List TableValue) (f : ℕ → ℕ) (x y : List Bool) → IsAcyclic n tables → IsAcyclic m larger → IsEmbedded n tables m larger f
    → ((i : ℕ) → i < n → get_or y i false ≡ value_of m larger x (f i)) → (s : ℕ) → s < n + length tables → value_of m larger x (f s) ≡ value_of n tables y s
embedded-values n tables m larger f x y acyclic acyclic' e inputs =
    let v : Assignment = value_of m larger x in
    (value_law n tables y acyclic).only (λ s. v (f s)) (record {
      input = λ s low. sym (inputs s low);
      table = λ i within.
          let at : StandsAt f (table_at tables i) m larger (f (n + i)) = e.table i within in
          ap v at.is
          ∙ (value_law m larger x acyclic').consistent.table at.place at.within
          ∙ table_value-renamed f (table_at tables i) (table_at larger at.place) v at.pins at.rows at.plane;
    })

pub appended-embedded : (n : ℕ) (tables more : List TableValue) → IsEmbedded n tables n (tables ++ more) (λ s. s)
appended-embedded n tables more = record {
  input = λ s low. omega arith;
  table = λ i within.
      let same : table_at (tables ++ more) i ≡ table_at tables i = get_or_append_left tables more no_table i within in
      record {
        place = i;
        is = refl;
        within = omega (arith, length-append tables more);
        pins = ap (λ t. t.pins) same ∙ sym (map-id (table_at tables i).pins);
        rows = ap (λ t. t.rows) same;
        plane = ap (λ t. t.plane) same;
      };
}

pub appended-values : (n : ℕ) (tables more : List TableValue) (x : List Bool) → IsAcyclic n tables → IsAcyclic n (tables ++ more) → (s : ℕ) → s < n + length tables
    → value_of n (tables ++ more) x s ≡ value_of n tables x s
appended-values n tables more x acyclic acyclic' =
    embedded-values n tables n (tables ++ more) (λ s. s) x x acyclic acyclic' (appended-embedded n tables more)
    (λ i low. sym ((value_law n (tables ++ more) x acyclic').consistent.input i low))
