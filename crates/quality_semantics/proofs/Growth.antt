-- How a network grows, and what fits it: each call begins with the network that it was given.
use Rattle.std.proofs.Common.{◌≡◌, ℕ, suc, ◌+◌, ◌<◌, ◌≤◌, Bool, true, false, List, [], ◌∷◌, ◌++◌, length, take, replicate, get_or, refl, ap, sym, subst, ◌∙◌, arith, length-append, add-zero, add-one}
use Rattle.std.proofs.lemmas.List.{take-take, length-take, get_or-take}
use Rattle.std.proofs.lemmas.List.Elements.{All-weaker}
use Rattle.std.proofs.Math.Seq.{take-length, take-append_seam}
use Rattle.semantics.specs.Net.{TableValue, no_table, table_at}
use Rattle.semantics.specs.Value.{Assignment, table_value, value_of, IsConsistent}
use Rattle.semantics.proofs.Order.{IsAcyclic-in_order}
use Rattle.semantics.proofs.Values.{value_law}
use Rattle.quality_semantics.specs.Forms.{Form, or2, xor2, xor3, maj, gt, grow, low, zero_form, one_form}
use Rattle.quality_semantics.specs.WordNets.{WordNetValue, signals, table_of, appended, started, BeginsWith, AreSignalsOf, IsWordNet}
use Rattle.quality_semantics.specs.Buses.{places, adders, add, comparators, greater, exceed, times_bits, not_zero_low, differences, growers, count_rows, at_least}
use Rattle.quality_semantics.specs.Laws.{Fits}
use Rattle.quality_semantics.proofs.Tables.{form_value}

-- what begins with W has as many tables and signals
begins_count : (W V : WordNetValue) → BeginsWith V W → length W.tables ≤ length V.tables
begins_count W V h = let e = ap length h.tables ∙ refl in omega (arith, length-take (length W.tables) V.tables, e)

pub begins_signals : (W V : WordNetValue) → BeginsWith V W → signals W ≤ signals V
begins_signals W V h = let more = begins_count W V h in omega (arith, more, h.inputs)

pub signals_kept : (W V : WordNetValue) (bus : List ℕ) → BeginsWith V W → AreSignalsOf W bus → AreSignalsOf V bus
signals_kept W V bus h within =
    let more = begins_signals W V h in
    All-weaker (λ s. s < signals W) (λ s. s < signals V) (λ s below. omega (arith, below, more)) bus within

pub begins_itself : (W : WordNetValue) → BeginsWith W W
begins_itself W = record { inputs = refl; tables = take-length W.tables }

pub begins_after : (W V U : WordNetValue) → BeginsWith U V → BeginsWith V W → BeginsWith U W
begins_after W V U h k =
    let few = begins_count W V k in
    record { inputs = h.inputs ∙ k.inputs; tables = sym (take-take (length W.tables) (length V.tables) U.tables few) ∙ ap (take (length W.tables)) h.tables ∙ k.tables }

pub begins_appended : (W : WordNetValue) (f : Form) → BeginsWith (appended W f) W
begins_appended W f = record { inputs = refl; tables = take-append_seam W.tables (table_of (length W.tables) f ∷ []) }

-- after one table more
pub begins_later : (W : WordNetValue) (f : Form) (V : WordNetValue) → BeginsWith V (appended W f) → BeginsWith V W
begins_later W f V h = begins_after W (appended W f) V h (begins_appended W f)

pub begins_adders : (W : WordNetValue) (c : ℕ) (ps : List (ℕ × ℕ)) → BeginsWith (adders W c ps).net W
begins_adders W c [] = begins_itself W
begins_adders W c (p ∷ ps) =
    let half = appended W (xor3 p.0 p.1 c) in
    begins_later W (xor3 p.0 p.1 c) _ (begins_later half (maj p.0 p.1 c) _ (begins_adders (appended half (maj p.0 p.1 c)) (signals half) ps))

pub begins_comparators : (W : WordNetValue) (g : ℕ) (ps : List (ℕ × ℕ)) → BeginsWith (comparators W g ps).net W
begins_comparators W g [] = begins_itself W
begins_comparators W g (p ∷ ps) = begins_later W (gt p.0 p.1 g) _ (begins_comparators (appended W (gt p.0 p.1 g)) (signals W) ps)

pub begins_add : (W : WordNetValue) (x y : List ℕ) → BeginsWith (add W x y).net W
begins_add W x y = begins_adders W W.inputs (places W.inputs x y)

pub begins_greater : (W : WordNetValue) (x y : List ℕ) → BeginsWith (greater W x y).net W
begins_greater W x y = begins_comparators W W.inputs (places W.inputs x y)

pub begins_times : (W : WordNetValue) (x : List ℕ) (bits : List Bool) → BeginsWith (times_bits W x bits).net W
begins_times W x [] = begins_itself W
begins_times W x (b ∷ []) = begins_itself W
begins_times W x (false ∷ (d ∷ bits)) = begins_times W x (d ∷ bits)
begins_times W x (true ∷ (d ∷ bits)) =
    let half = times_bits W x (d ∷ bits) in
    begins_after W half.net _ (begins_add half.net (half.net.inputs ∷ half.bus) x) (begins_times W x (d ∷ bits))

pub begins_low : (W : WordNetValue) (x : List ℕ) → BeginsWith (not_zero_low W x).net W
begins_low W [] = begins_itself W
begins_low W (x ∷ xs) = begins_appended W (low x xs)

pub begins_differences : (W : WordNetValue) (ps : List (ℕ × ℕ)) → BeginsWith (differences W ps).net W
begins_differences W [] = begins_itself W
begins_differences W (p ∷ ps) = begins_later W (xor2 p.0 p.1) _ (begins_differences (appended W (xor2 p.0 p.1)) ps)

pub begins_growers : (W : WordNetValue) (d q : ℕ) (ps : List ℕ) → BeginsWith (growers W d q ps).net W
begins_growers W d q [] = begins_itself W
begins_growers W d q (p ∷ ps) = begins_later W (grow p d q) _ (begins_growers (appended W (grow p d q)) d p ps)

pub begins_count_rows : (W : WordNetValue) (row ds : List ℕ) → BeginsWith (count_rows W row ds).net W
begins_count_rows W row [] = begins_itself W
begins_count_rows W row (d ∷ ds) =
    let next = growers W d (suc W.inputs) row in
    begins_after W next.net _ (begins_count_rows next.net next.bus ds) (begins_growers W d (suc W.inputs) row)

pub begins_exceed : (W : WordNetValue) (x y z : List ℕ) → BeginsWith (exceed W x y z).net W
begins_exceed W x y z =
    let s = add W y z in
    let p = greater s.net x s.bus in
    let t = add p.net x z in
    let q = greater t.net y t.bus in
    let last = begins_appended q.net (or2 p.signal q.signal) in
    begins_after W s.net _ (begins_after s.net p.net _ (begins_after p.net t.net _ (begins_after t.net q.net _ last (begins_greater t.net y t.bus)) (begins_add p.net x z))
    (begins_greater s.net x s.bus)) (begins_add W y z)

pub begins_at_least : (W : WordNetValue) (ds : List ℕ) (k : ℕ) → BeginsWith (at_least W ds k).net W
begins_at_least W ds k = begins_count_rows W (replicate k W.inputs) ds

-- what fits a network fits each with which it began
pub Fits-earlier : (v : Assignment) (W V : WordNetValue) → BeginsWith W V → Fits v W → Fits v V
Fits-earlier v W V b h = record {
  zero = subst (λ n. v n ≡ false) b.inputs h.zero;
  one = subst (λ n. v (suc n) ≡ true) b.inputs h.one;
  table = λ i within.
      let more = begins_count V W b in
      let same : table_at V.tables i ≡ table_at W.tables i = ap (λ ts. table_at ts i) (sym b.tables) ∙ get_or-take (length V.tables) W.tables i no_table within in
      subst (λ n. v (n + i) ≡ table_value (table_at W.tables i) v) b.inputs (h.table i (omega arith)) ∙ ap (λ t. table_value t v) (sym same);
}

pub get_or_newest : (ts : List TableValue) (t d : TableValue) → get_or (ts ++ t ∷ []) (length ts) d ≡ t
get_or_newest [] t d = refl
get_or_newest (s ∷ ts) t d = get_or_newest ts t d

-- the newest table has its value
pub Fits-newest : (v : Assignment) (W : WordNetValue) (f : Form) → Fits v (appended W f) → v (signals W) ≡ form_value f v
Fits-newest v W f h = h.table (length W.tables) (simp length-append (omega arith)) ∙ ap (λ t. table_value t v) (get_or_newest W.tables (table_of (length W.tables) f) no_table)

first_two : (ts : List TableValue) (a b : TableValue) → take 2 ts ≡ a ∷ b ∷ [] → (2 ≤ length ts) × (table_at ts 0 ≡ a) × (table_at ts 1 ≡ b)
first_two [] a b e = cc
first_two (s ∷ []) a b e = cc
first_two (s ∷ (t ∷ ts)) a b e = (omega arith, cc, cc)

-- a consistent assignment fits
Fits-consistent : (v : Assignment) (W : WordNetValue) (x : List Bool) → BeginsWith W (started W.inputs) → IsConsistent W.inputs W.tables x v → Fits v W
Fits-consistent v W x b h =
    let heads = first_two W.tables (table_of 0 zero_form) (table_of 1 one_form) b.tables in
    record {
      zero = rw add-zero at (h.table 0 (omega (arith, heads.0))) ∙ ap (λ t. table_value t v) heads.1;
      one = rw add-one at (h.table 1 (omega (arith, heads.0))) ∙ ap (λ t. table_value t v) heads.2;
      table = h.table;
    }

pub Fits-values : (W : WordNetValue) (x : List Bool) → IsWordNet W → BeginsWith W (started W.inputs) → Fits (value_of W.inputs W.tables x) W
Fits-values W x h b = Fits-consistent _ W x b (value_law W.inputs W.tables x (IsAcyclic-in_order W.inputs W.tables h.in_order)).consistent
