-- Each call on buses of a well-formed network leaves it well formed, and its result is signals of it.
use Rattle.std.proofs.Common.{◌≡◌, ◌≢◌, ℕ, zero, suc, ◌<◌, ◌≤◌, Bool, true, false, cond, List, [], ◌∷◌, length, replicate, map, All, refl, ap, arith, length-append, ⊎_elim}
use Rattle.std.specs.List.{AllByRecursion}
use Rattle.std.proofs.lemmas.Bool.{cases_eq}
use Rattle.std.proofs.lemmas.List.{get_or_append_left, length-replicate}
use Rattle.std.proofs.lemmas.List.Elements.{All-nil, All-cons, All-head, All-tail, All-replicate, All-get_or, All-from_recursion}
use Rattle.semantics.specs.declared.mark.Mark.{Mark}
use Rattle.semantics.specs.declared.mark.Mark.TheVariants.{Zero, Dash}
use Rattle.semantics.specs.Net.{TableValue, no_table, table_at}
use Rattle.quality_semantics.specs.Forms.{Form, form, or2, xor2, xor3, maj, gt, grow, low}
use Rattle.quality_semantics.specs.WordNets.{WordNetValue, signals, table_of, appended, started, AreSignalsOf, IsWordTable, IsWordNet}
use Rattle.quality_semantics.specs.Buses.{WithBus, WithSignal, places, adders, add, comparators, greater, exceed, binary, constant, times_bits, times, not_zero_low, differences, differ, growers}
use Rattle.quality_semantics.specs.Buses.{count_rows, at_least}
use Rattle.quality_semantics.proofs.Growth.{begins_signals, signals_kept, begins_appended, begins_adders, begins_add, begins_greater, begins_times, begins_differences, begins_growers}
use Rattle.quality_semantics.proofs.Growth.{begins_count_rows, get_or_newest}
use Rattle.quality_semantics.proofs.Counts.{length-count_rows}

pub record HasBus (r : WithBus) : Type 0 where
  pub net : IsWordNet r.net
  pub bus : AreSignalsOf r.net r.bus

pub record HasSignal (r : WithSignal) : Type 0 where
  pub net : IsWordNet r.net
  pub signal : r.signal < signals r.net

started_pins : (n m i : ℕ) → i < 2 → All (λ s. s < m) (table_at (started n).tables i).pins
started_pins n m zero h = All-nil _
started_pins n m (suc zero) h = All-nil _
started_pins n m (suc (suc i)) h = absurd (omega arith)

started_tables : (n i : ℕ) → i < 2 → IsWordTable i (table_at (started n).tables i)
started_tables n zero h = record { name = refl; widths = All-nil _; plane = refl }
started_tables n (suc zero) h = record { name = refl; widths = All-cons (λ (marks : List Mark). length marks ≡ 0) [] [] refl (All-nil _); plane = refl }
started_tables n (suc (suc i)) h = absurd (omega arith)

pub IsWordNet-started : (n : ℕ) → IsWordNet (started n)
IsWordNet-started n = record { room = omega arith; in_order = λ i within. started_pins n _ i within; formed = started_tables n }

pub IsWordNet-appended : (W : WordNetValue) (pins : List ℕ) (rows : List (List Mark)) → IsWordNet W → AreSignalsOf W pins → All (λ marks. length marks ≡ length pins) rows
    → IsWordNet (appended W (form pins rows))
IsWordNet-appended W pins rows h pins_in widths =
    let newest : TableValue = table_of (length W.tables) (form pins rows) in
    record {
      room = simp length-append (omega (arith, h.room));
      in_order = λ i within. ⊎_elim
          (λ (at : i ≡ length W.tables). rw (at, get_or_newest W.tables newest no_table) pins_in)
          (λ (other : i ≢ length W.tables). let before : i < length W.tables = omega (arith, length-append W.tables (newest ∷ [])) in
          rw (get_or_append_left W.tables (newest ∷ []) no_table i before) (h.in_order i before))
          (cases_eq i (length W.tables));
      formed = λ i within. ⊎_elim
          (λ (at : i ≡ length W.tables). rw (at, get_or_newest W.tables newest no_table) (record { name = refl; widths = widths; plane = refl }))
          (λ (other : i ≢ length W.tables). let before : i < length W.tables = omega (arith, length-append W.tables (newest ∷ [])) in
          rw (get_or_append_left W.tables (newest ∷ []) no_table i before) (h.formed i before))
          (cases_eq i (length W.tables));
    }

pub signals-appended : (W : WordNetValue) (f : Form) → signals (appended W f) ≡ suc (signals W)
signals-appended W f = simp length-append (omega arith)

pub two_in : (n a b : ℕ) → a < n → b < n → All (λ s. s < n) (a ∷ b ∷ [])
two_in n a b ha hb = All-from_recursion (λ s. s < n) (a ∷ b ∷ []) (ha, (hb, tt))

three_in : (n a b c : ℕ) → a < n → b < n → c < n → All (λ s. s < n) (a ∷ b ∷ c ∷ [])
three_in n a b c ha hb hc = All-from_recursion (λ s. s < n) (a ∷ b ∷ c ∷ []) (ha, (hb, (hc, tt)))

IsWordNet-xor3 : (W : WordNetValue) (x y c : ℕ) → IsWordNet W → x < signals W → y < signals W → c < signals W → IsWordNet (appended W (xor3 x y c))
IsWordNet-xor3 W x y c h hx hy hc = IsWordNet-appended W (xor3 x y c).pins (xor3 x y c).rows h (three_in _ x y c hx hy hc)
    (All-from_recursion (λ (marks : List Mark). length marks ≡ 3) (xor3 x y c).rows (refl, (refl, (refl, (refl, tt)))))

IsWordNet-maj : (W : WordNetValue) (x y c : ℕ) → IsWordNet W → x < signals W → y < signals W → c < signals W → IsWordNet (appended W (maj x y c))
IsWordNet-maj W x y c h hx hy hc = IsWordNet-appended W (maj x y c).pins (maj x y c).rows h (three_in _ x y c hx hy hc)
    (All-from_recursion (λ (marks : List Mark). length marks ≡ 3) (maj x y c).rows (refl, (refl, (refl, tt))))

IsWordNet-gt : (W : WordNetValue) (x y g : ℕ) → IsWordNet W → x < signals W → y < signals W → g < signals W → IsWordNet (appended W (gt x y g))
IsWordNet-gt W x y g h hx hy hg = IsWordNet-appended W (gt x y g).pins (gt x y g).rows h (three_in _ x y g hx hy hg)
    (All-from_recursion (λ (marks : List Mark). length marks ≡ 3) (gt x y g).rows (refl, (refl, (refl, tt))))

IsWordNet-grow : (W : WordNetValue) (p d q : ℕ) → IsWordNet W → p < signals W → d < signals W → q < signals W → IsWordNet (appended W (grow p d q))
IsWordNet-grow W p d q h hp hd hq = IsWordNet-appended W (grow p d q).pins (grow p d q).rows h (three_in _ p d q hp hd hq)
    (All-from_recursion (λ (marks : List Mark). length marks ≡ 3) (grow p d q).rows (refl, (refl, tt)))

IsWordNet-xor2 : (W : WordNetValue) (x y : ℕ) → IsWordNet W → x < signals W → y < signals W → IsWordNet (appended W (xor2 x y))
IsWordNet-xor2 W x y h hx hy = IsWordNet-appended W (xor2 x y).pins (xor2 x y).rows h (two_in _ x y hx hy)
    (All-from_recursion (λ (marks : List Mark). length marks ≡ 2) (xor2 x y).rows (refl, (refl, tt)))

pub IsWordNet-or2 : (W : WordNetValue) (x y : ℕ) → IsWordNet W → x < signals W → y < signals W → IsWordNet (appended W (or2 x y))
IsWordNet-or2 W x y h hx hy = IsWordNet-appended W (or2 x y).pins (or2 x y).rows h (two_in _ x y hx hy) (All-from_recursion (λ (marks : List Mark). length marks ≡ 2) (or2 x y).rows (refl, (refl, tt)))

pub low_widths : (x : ℕ) (xs : List ℕ) → All (λ marks. length marks ≡ length (x ∷ xs)) (low x xs).rows
low_widths x xs = All-from_recursion (λ (marks : List Mark). length marks ≡ suc (length xs)) (low x xs).rows
    (ap suc (length-replicate (length xs) Dash), (ap suc (length-replicate (length xs) Zero), tt))

-- both bits of each place are below n
ArePairsBelow : ℕ → List (ℕ × ℕ) → Type 0
ArePairsBelow n ps = AllByRecursion (λ p. (p.0 < n) × (p.1 < n)) ps

pairs_kept : (n m : ℕ) (ps : List (ℕ × ℕ)) → n ≤ m → ArePairsBelow n ps → ArePairsBelow m ps
unfolding ArePairsBelow
pairs_kept n m [] more h = tt
pairs_kept n m (p ∷ ps) more h = ((omega (arith, more, h.0.0), omega (arith, more, h.0.1)), pairs_kept n m ps more h.1)

places_below : (n z : ℕ) (x y : List ℕ) → z < n → All (λ s. s < n) x → All (λ s. s < n) y → ArePairsBelow n (places z x y)
unfolding ArePairsBelow
places_below n z [] [] hz hx hy = tt
places_below n z [] (b ∷ y) hz hx hy = ((hz, All-head (λ s. s < n) b y hy), places_below n z [] y hz hx (All-tail (λ s. s < n) b y hy))
places_below n z (a ∷ x) [] hz hx hy = ((All-head (λ s. s < n) a x hx, hz), places_below n z x [] hz (All-tail (λ s. s < n) a x hx) hy)
places_below n z (a ∷ x) (b ∷ y) hz hx hy = ((All-head (λ s. s < n) a x hx, All-head (λ s. s < n) b y hy), places_below n z x y hz (All-tail (λ s. s < n) a x hx) (All-tail (λ s. s < n) b y hy))

pub zero_below : (W : WordNetValue) → IsWordNet W → W.inputs < signals W
zero_below W h = let some = h.room in omega (arith, some)

one_below : (W : WordNetValue) → IsWordNet W → suc W.inputs < signals W
one_below W h = let some = h.room in omega (arith, some)

adders_formed : (W : WordNetValue) (c : ℕ) (ps : List (ℕ × ℕ)) → IsWordNet W → c < signals W → ArePairsBelow (signals W) ps → HasBus (adders W c ps)
unfolding ArePairsBelow
adders_formed W c [] h hc hps = record { net = h; bus = All-cons (λ s. s < signals W) c [] hc (All-nil _) }
adders_formed W c (p ∷ ps) h hc hps =
    let half = appended W (xor3 p.0 p.1 c) in
    let next = appended half (maj p.0 p.1 c) in
    let one = signals-appended W (xor3 p.0 p.1 c) in
    let two = signals-appended half (maj p.0 p.1 c) in
    let at_half = IsWordNet-xor3 W p.0 p.1 c h hps.0.0 hps.0.1 hc in
    let at_next = IsWordNet-maj half p.0 p.1 c at_half (omega (arith, one, hps.0.0)) (omega (arith, one, hps.0.1)) (omega (arith, one, hc)) in
    let rest = adders_formed next (signals half) ps at_next (omega (arith, two)) (pairs_kept (signals W) (signals next) ps (omega (arith, one, two)) hps.1) in
    let last = adders next (signals half) ps in
    let more = begins_signals next last.net (begins_adders next (signals half) ps) in
    record { net = rest.net; bus = All-cons (λ s. s < signals last.net) (signals W) last.bus (omega (arith, one, two, more)) rest.bus }

comparators_formed : (W : WordNetValue) (g : ℕ) (ps : List (ℕ × ℕ)) → IsWordNet W → g < signals W → ArePairsBelow (signals W) ps → HasSignal (comparators W g ps)
unfolding ArePairsBelow
comparators_formed W g [] h hg hps = record { net = h; signal = hg }
comparators_formed W g (p ∷ ps) h hg hps =
    let next = appended W (gt p.0 p.1 g) in
    let one = signals-appended W (gt p.0 p.1 g) in
    comparators_formed next (signals W) ps (IsWordNet-gt W p.0 p.1 g h hps.0.0 hps.0.1 hg) (omega (arith, one)) (pairs_kept (signals W) (signals next) ps (omega (arith, one)) hps.1)

pub add_formed : (W : WordNetValue) (x y : List ℕ) → IsWordNet W → AreSignalsOf W x → AreSignalsOf W y → HasBus (add W x y)
add_formed W x y h hx hy = adders_formed W W.inputs (places W.inputs x y) h (zero_below W h) (places_below (signals W) W.inputs x y (zero_below W h) hx hy)

pub greater_formed : (W : WordNetValue) (x y : List ℕ) → IsWordNet W → AreSignalsOf W x → AreSignalsOf W y → HasSignal (greater W x y)
greater_formed W x y h hx hy = comparators_formed W W.inputs (places W.inputs x y) h (zero_below W h) (places_below (signals W) W.inputs x y (zero_below W h) hx hy)

pub exceed_formed : (W : WordNetValue) (x y z : List ℕ) → IsWordNet W → AreSignalsOf W x → AreSignalsOf W y → AreSignalsOf W z → HasSignal (exceed W x y z)
exceed_formed W x y z h hx hy hz =
    let s = add W y z in
    let p = greater s.net x s.bus in
    let t = add p.net x z in
    let q = greater t.net y t.bus in
    let to_s = begins_add W y z in
    let to_p = begins_greater s.net x s.bus in
    let to_t = begins_add p.net x z in
    let to_q = begins_greater t.net y t.bus in
    let at_s = add_formed W y z h hy hz in
    let x_s = signals_kept W s.net x to_s hx in
    let at_p = greater_formed s.net x s.bus at_s.net x_s at_s.bus in
    let x_p = signals_kept s.net p.net x to_p x_s in
    let z_p = signals_kept s.net p.net z to_p (signals_kept W s.net z to_s hz) in
    let y_p = signals_kept s.net p.net y to_p (signals_kept W s.net y to_s hy) in
    let at_t = add_formed p.net x z at_p.net x_p z_p in
    let at_q = greater_formed t.net y t.bus at_t.net (signals_kept p.net t.net y to_t y_p) at_t.bus in
    let one = signals-appended q.net (or2 p.signal q.signal) in
    let more_t = begins_signals p.net t.net to_t in
    let more_q = begins_signals t.net q.net to_q in
    record { net = IsWordNet-or2 q.net p.signal q.signal at_q.net (omega (arith, at_p.signal, more_t, more_q)) at_q.signal; signal = omega (arith, one) }

bits_below : (n z : ℕ) (bits : List Bool) → suc z < n → All (λ s. s < n) (map (λ b. cond b (suc z) z) bits)
bits_below n z [] h = All-nil _
bits_below n z (true ∷ bits) h = All-cons (λ s. s < n) (suc z) _ h (bits_below n z bits h)
bits_below n z (false ∷ bits) h = All-cons (λ s. s < n) z _ (omega (arith, h)) (bits_below n z bits h)

pub constant_formed : (W : WordNetValue) (k : ℕ) → IsWordNet W → AreSignalsOf W (constant W k)
constant_formed W k h = bits_below (signals W) W.inputs (binary k) (one_below W h)

times_bits_formed : (W : WordNetValue) (x : List ℕ) (bits : List Bool) → IsWordNet W → AreSignalsOf W x → HasBus (times_bits W x bits)
times_bits_formed W x [] h hx = record { net = h; bus = All-nil _ }
times_bits_formed W x (false ∷ []) h hx = record { net = h; bus = All-nil _ }
times_bits_formed W x (true ∷ []) h hx = record { net = h; bus = hx }
times_bits_formed W x (false ∷ (d ∷ bits)) h hx =
    let half = times_bits W x (d ∷ bits) in
    let rest = times_bits_formed W x (d ∷ bits) h hx in
    record { net = rest.net; bus = All-cons (λ s. s < signals half.net) half.net.inputs half.bus (zero_below half.net rest.net) rest.bus }
times_bits_formed W x (true ∷ (d ∷ bits)) h hx =
    let half = times_bits W x (d ∷ bits) in
    let rest = times_bits_formed W x (d ∷ bits) h hx in
    add_formed half.net (half.net.inputs ∷ half.bus) x rest.net (All-cons (λ s. s < signals half.net) half.net.inputs half.bus (zero_below half.net rest.net) rest.bus)
    (signals_kept W half.net x (begins_times W x (d ∷ bits)) hx)

pub times_formed : (W : WordNetValue) (x : List ℕ) (k : ℕ) → IsWordNet W → AreSignalsOf W x → HasBus (times W x k)
times_formed W x k h hx = times_bits_formed W x (binary k) h hx

pub not_zero_formed : (W : WordNetValue) (x : List ℕ) → IsWordNet W → AreSignalsOf W x → HasBus (not_zero_low W x)
not_zero_formed W [] h hx = record { net = h; bus = All-nil _ }
not_zero_formed W (x ∷ xs) h hx =
    let next = appended W (low x xs) in
    let one = signals-appended W (low x xs) in
    record {
      net = IsWordNet-appended W (x ∷ xs) (low x xs).rows h hx (low_widths x xs);
      bus = All-cons (λ s. s < signals next) (signals W) xs (omega (arith, one)) (signals_kept W next xs (begins_appended W (low x xs)) (All-tail (λ s. s < signals W) x xs hx));
    }

differences_formed : (W : WordNetValue) (ps : List (ℕ × ℕ)) → IsWordNet W → ArePairsBelow (signals W) ps → HasBus (differences W ps)
unfolding ArePairsBelow
differences_formed W [] h hps = record { net = h; bus = All-nil _ }
differences_formed W (p ∷ ps) h hps =
    let next = appended W (xor2 p.0 p.1) in
    let one = signals-appended W (xor2 p.0 p.1) in
    let rest = differences_formed next ps (IsWordNet-xor2 W p.0 p.1 h hps.0.0 hps.0.1) (pairs_kept (signals W) (signals next) ps (omega (arith, one)) hps.1) in
    let last = differences next ps in
    let more = begins_signals next last.net (begins_differences next ps) in
    record { net = rest.net; bus = All-cons (λ s. s < signals last.net) (signals W) last.bus (omega (arith, one, more)) rest.bus }

pub differ_formed : (W : WordNetValue) (x y : List ℕ) → IsWordNet W → AreSignalsOf W x → AreSignalsOf W y → HasBus (differ W x y)
differ_formed W x y h hx hy = differences_formed W (places W.inputs x y) h (places_below (signals W) W.inputs x y (zero_below W h) hx hy)

growers_formed : (W : WordNetValue) (d q : ℕ) (ps : List ℕ) → IsWordNet W → d < signals W → q < signals W → AreSignalsOf W ps → HasBus (growers W d q ps)
growers_formed W d q [] h hd hq hps = record { net = h; bus = All-nil _ }
growers_formed W d q (p ∷ ps) h hd hq hps =
    let next = appended W (grow p d q) in
    let one = signals-appended W (grow p d q) in
    let hp : p < signals W = All-head (λ s. s < signals W) p ps hps in
    let rest = growers_formed next d p ps (IsWordNet-grow W p d q h hp hd hq) (omega (arith, one, hd)) (omega (arith, one, hp))
    (signals_kept W next ps (begins_appended W (grow p d q)) (All-tail (λ s. s < signals W) p ps hps)) in
    let last = growers next d p ps in
    let more = begins_signals next last.net (begins_growers next d p ps) in
    record { net = rest.net; bus = All-cons (λ s. s < signals last.net) (signals W) last.bus (omega (arith, one, more)) rest.bus }

count_rows_formed : (W : WordNetValue) (row ds : List ℕ) → IsWordNet W → AreSignalsOf W row → AreSignalsOf W ds → HasBus (count_rows W row ds)
count_rows_formed W row [] h hrow hds = record { net = h; bus = hrow }
count_rows_formed W row (d ∷ ds) h hrow hds =
    let next = growers W d (suc W.inputs) row in
    let rest = growers_formed W d (suc W.inputs) row h (All-head (λ s. s < signals W) d ds hds) (one_below W h) hrow in
    count_rows_formed next.net next.bus ds rest.net rest.bus (signals_kept W next.net ds (begins_growers W d (suc W.inputs) row) (All-tail (λ s. s < signals W) d ds hds))

pub at_least_formed : (W : WordNetValue) (ds : List ℕ) (k : ℕ) → IsWordNet W → AreSignalsOf W ds → HasSignal (at_least W ds k)
at_least_formed W ds zero h hds =
    let rest = count_rows_formed W [] ds h (All-nil _) hds in
    let more = begins_signals W (count_rows W [] ds).net (begins_count_rows W [] ds) in
    let here = one_below W h in
    record { net = rest.net; signal = omega (arith, here, more) }
at_least_formed W ds (suc k) h hds =
    let row = replicate (suc k) W.inputs in
    let last = count_rows W row ds in
    let rest = count_rows_formed W row ds h (All-replicate (λ s. s < signals W) (suc k) W.inputs (zero_below W h)) hds in
    let width = length-count_rows W row ds in
    record { net = rest.net; signal = All-get_or (λ s. s < signals last.net) last.bus k W.inputs (omega (arith, width, length-replicate (suc k) W.inputs)) rest.bus }
