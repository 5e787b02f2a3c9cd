-- What it is to turn over the sign of a bus.
use Rattle.std.proofs.Common.{◌≡◌, ℕ, zero, suc, ◌-◌, ◌^◌, ◌<◌, false, not, List, [], ◌∷◌, All, length, map, get_or, set, refl, ap, sym, ◌∙◌, arith}
use Rattle.std.specs.Prelude.{pos, ◌+ℤ◌}
use Rattle.std.proofs.lemmas.List.{length-map, map-set, get_or-map}
use Rattle.std.proofs.lemmas.List.Elements.{All-set, All-head, All-tail, All-from_recursion}
use Rattle.semantics.specs.declared.mark.Mark.{Mark}
use Rattle.semantics.specs.Value.{Assignment}
use Rattle.semantics.specs.Error.{number_of, sign_flipped, signed_number_of}
use Rattle.semantics.proofs.Signed.{flipped}
use Rattle.quality_semantics.specs.Forms.{inv}
use Rattle.quality_semantics.specs.WordNets.{WordNetValue, signals, appended, BeginsWith, AreSignalsOf, IsWordNet}
use Rattle.quality_semantics.specs.Buses.{flip_top}
use Rattle.quality_semantics.specs.Laws.{Fits, number}
use Rattle.quality_semantics.proofs.Tables.{inv_value}
use Rattle.quality_semantics.proofs.Growth.{begins_appended, signals_kept, Fits-newest}
use Rattle.quality_semantics.proofs.Formed.{HasBus, IsWordNet-appended, signals-appended, zero_below}

pub begins_flip_top : (W : WordNetValue) (x : List ℕ) → BeginsWith (flip_top W x).net W
begins_flip_top W x = begins_appended W (inv (get_or x (length x - 1) W.inputs))

-- an element of the list, or the default
below_at : (n d : ℕ) (xs : List ℕ) (i : ℕ) → d < n → All (λ s. s < n) xs → get_or xs i d < n
below_at n d [] i default h = default
below_at n d (x ∷ xs) zero default h = All-head (λ s. s < n) x xs h
below_at n d (x ∷ xs) (suc i) default h = below_at n d xs i default (All-tail (λ s. s < n) x xs h)

pub flip_top_formed : (W : WordNetValue) (x : List ℕ) → IsWordNet W → AreSignalsOf W x → HasBus (flip_top W x)
flip_top_formed W x h hx =
    let top : ℕ = get_or x (length x - 1) W.inputs in
    let next = appended W (inv top) in
    let top_in = All-from_recursion (λ s. s < signals W) (top ∷ []) (below_at (signals W) W.inputs x (length x - 1) (zero_below W h) hx, tt) in
    let one = signals-appended W (inv top) in
    record {
      net = IsWordNet-appended W (inv top).pins (inv top).rows h top_in (All-from_recursion (λ (marks : List Mark). length marks ≡ 1) (inv top).rows (refl, tt));
      bus = All-set (λ s. s < signals next) x (length x - 1) (signals W) (omega (arith, one)) (signals_kept W next x (begins_appended W (inv top)) hx);
    }

-- the bits are those of the bus, with the sign turned over
pub flip_top_bits : (v : Assignment) (W : WordNetValue) (x : List ℕ) → 0 < length x → Fits v (flip_top W x).net → map v (flip_top W x).bus ≡ sign_flipped (map v x)
flip_top_bits v W x some h =
    let top : ℕ = length x - 1 in
    let count : length (map v x) ≡ length x = length-map x v in
    let newest : v (signals W) ≡ not (v (get_or x top W.inputs)) = Fits-newest v W (inv (get_or x top W.inputs)) h ∙ inv_value v (get_or x top W.inputs) in
    let sign : get_or (map v x) top false ≡ v (get_or x top W.inputs) = get_or-map v x top W.inputs false (omega (arith, some)) in
    map-set v x top (signals W)
    ∙ ap (set (map v x) top) (newest ∙ ap not (sym sign))
    ∙ ap (λ n. set (map v x) (n - 1) (not (get_or (map v x) (n - 1) false))) (sym count)

pub flip_number : (v : Assignment) (W : WordNetValue) (x : List ℕ) → 0 < length x → Fits v (flip_top W x).net
    → pos (number v (flip_top W x).bus) ≡ signed_number_of (map v x) +ℤ pos (2 ^ (length x - 1))
flip_number v W x some h =
    let count : length (map v x) ≡ length x = length-map x v in
    ap (λ bits. pos (number_of bits)) (flip_top_bits v W x some h)
    ∙ flipped (map v x) (omega (arith, count, some))
    ∙ ap (λ n. signed_number_of (map v x) +ℤ pos (2 ^ (n - 1))) count
