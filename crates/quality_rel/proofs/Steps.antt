-- The steps of the network.
use Rattle.std.proofs.Common.{◌≡◌, ℕ, List, refl, ap, ◌∙◌}
use Rattle.quality_semantics.specs.WordNets.{WordNetValue}
use Rattle.quality_semantics.specs.Buses.{WithSignal, exceed, times, not_zero_low}
use Rattle.quality_semantics.specs.Quality.{relative_excess}

pub relative_from : (k : ℕ) (W M X Y Z : WordNetValue) (e a m x y z : List ℕ)
    → M ≡ (not_zero_low W e).net → m ≡ (not_zero_low W e).bus → X ≡ (times M e 1000000).net → x ≡ (times M e 1000000).bus
    → Y ≡ (times X a 1000000).net → y ≡ (times X a 1000000).bus → Z ≡ (times Y m k).net → z ≡ (times Y m k).bus → exceed Z x y z ≡ relative_excess W e a k
relative_from k W M X Y Z e a m x y z hM hm hX hx hY hy hZ hz = rw (hz, hZ, hy, hY, hx, hX, hm, hM) refl

-- so what the last step makes of the network and its signal
pub relative_net : (k : ℕ) (W M X Y Z E : WordNetValue) (e a m x y z : List ℕ)
    → M ≡ (not_zero_low W e).net → m ≡ (not_zero_low W e).bus → X ≡ (times M e 1000000).net → x ≡ (times M e 1000000).bus
    → Y ≡ (times X a 1000000).net → y ≡ (times X a 1000000).bus → Z ≡ (times Y m k).net → z ≡ (times Y m k).bus
    → E ≡ (exceed Z x y z).net → E ≡ (relative_excess W e a k).net
relative_net k W M X Y Z E e a m x y z hM hm hX hx hY hy hZ hz hE =
    hE ∙ ap (λ (r : WithSignal). r.net) (relative_from k W M X Y Z e a m x y z hM hm hX hx hY hy hZ hz)

pub relative_signal : (k : ℕ) (W M X Y Z : WordNetValue) (e a m x y z : List ℕ) (s : ℕ)
    → M ≡ (not_zero_low W e).net → m ≡ (not_zero_low W e).bus → X ≡ (times M e 1000000).net → x ≡ (times M e 1000000).bus
    → Y ≡ (times X a 1000000).net → y ≡ (times X a 1000000).bus → Z ≡ (times Y m k).net → z ≡ (times Y m k).bus
    → s ≡ (exceed Z x y z).signal → s ≡ (relative_excess W e a k).signal
relative_signal k W M X Y Z e a m x y z s hM hm hX hx hY hy hZ hz hs =
    hs ∙ ap (λ (r : WithSignal). r.signal) (relative_from k W M X Y Z e a m x y z hM hm hX hx hY hy hZ hz)
