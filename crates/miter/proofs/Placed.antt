-- Where signals stand in a joint net, and its lists of copies.
use Rattle.std.proofs.Common.{◌≡◌, subst, ℕ, suc, ◌+◌, ◌^◌, ◌<◌, ◌≤◌, ◌⊎◌, inl, inr, List, [], ◌∷◌, ◌++◌, map, length, drop, drop-cons, get_or, codes, refl, ap, sym, ◌∙◌, arith}
use Rattle.std.specs.List.{range_with_len}
use Rattle.std.proofs.Math.Path.{fun_ext}
use Rattle.std.proofs.lemmas.Bool.{cases_lt, lt-ltb, le-ltb}
use Rattle.std.proofs.lemmas.List.{append_assoc, length-append, length-map, map-id}
use Rattle.std.proofs.lemmas.List.FromFn.{get_or-range_with_len, length-range_with_len}
use Rattle.semantics.specs.Texts.{Bytes}
use Rattle.semantics.specs.Net.{TableValue, NetValue, no_table, table_at, input_count, table_count, signal_count, IsAcyclic, IsSound, HasSamePorts}
use Rattle.semantics.specs.declared.metric.Metric.{Metric}
use Rattle.net_core.specs.Built.{IsWired}
use Rattle.quality_semantics.specs.Quality.{quality, quality_net}
use Rattle.quality_semantics.specs.Joint.{numbered_name, copied_from, copied, moved, approximate_signal, both_outputs, quality_signal, joint_net}
use Rattle.quality_semantics.proofs.Joint.{joint_output, length-copied, length-both_copies, whole_length, joint_outputs, comparable}
use Rattle.quality_semantics.proofs.JointSound.{joint_sound}
use Rattle.miter.specs.Copies.{placed, copy_at, all_copies, joined, IsJoinable, TellsError}

-- ---- one more in a loop

rest_of : {X : Type 0} (xs : List X) (i : ℕ) (d : X) → i < length xs → drop i xs ≡ get_or xs i d ∷ drop (i + 1) xs
rest_of xs i d within = let next : suc i ≡ i + 1 = omega arith in drop-cons xs i d within ∙ ap (λ j. get_or xs i d ∷ drop j xs) next

pub mapped_more : (f : ℕ → ℕ) (xs : List ℕ) (i : ℕ) (so_far : List ℕ) → i < length xs → (so_far ++ f (get_or xs i 0) ∷ []) ++ map f (drop (i + 1) xs) ≡ so_far ++ map f (drop i xs)
mapped_more f xs i so_far within =
    append_assoc so_far (f (get_or xs i 0) ∷ []) (map f (drop (i + 1) xs)) ∙ ap (λ ys. so_far ++ map f ys) (sym (rest_of xs i 0 within))

pub copied_more : (letter : ℕ) (f : ℕ → ℕ) (tables : List TableValue) (i : ℕ) (so_far : List TableValue) → i < length tables
    → (so_far ++ copy_at i letter f (table_at tables i) ∷ []) ++ copied_from (i + 1) letter f (drop (i + 1) tables) ≡ so_far ++ copied_from i letter f (drop i tables)
copied_more letter f tables i so_far within =
    append_assoc so_far (copy_at i letter f (table_at tables i) ∷ []) (copied_from (i + 1) letter f (drop (i + 1) tables))
    ∙ ap (λ ts. so_far ++ copied_from i letter f ts) (sym (rest_of tables i no_table within))

-- ---- the inputs stand where they stood

range_at : (n s : ℕ) → s < n → get_or (range_with_len 0 n) s 0 ≡ s
range_at n s low = get_or-range_with_len 0 n s 0 low ∙ omega arith

placed_range : (n first : ℕ) → placed (range_with_len 0 n) first ≡ moved (λ i. i) n first
placed_range n first = fun_ext (λ s. at s (cases_lt s n))
  where
    at : (s : ℕ) → (s < n) ⊎ (n ≤ s) → placed (range_with_len 0 n) first s ≡ moved (λ i. i) n first s
    at s (inl low) = rw (length-range_with_len 0 n, lt-ltb s n low) (range_at n s low)
    at s (inr high) = rw (length-range_with_len 0 n, le-ltb s n high) refl

moved_own : (n : ℕ) → moved (λ i. i) n n ≡ (λ s. s)
moved_own n = fun_ext (λ s. at s (cases_lt s n))
  where
    at : (s : ℕ) → (s < n) ⊎ (n ≤ s) → moved (λ i. i) n n s ≡ s
    at s (inl low) = rw (lt-ltb s n low) refl
    at s (inr high) = rw (le-ltb s n high) (omega (arith, high))

placed_own : (n : ℕ) → placed (range_with_len 0 n) n ≡ (λ s. s)
placed_own n = placed_range n n ∙ moved_own n

-- ---- the parts

-- what the quality network reads
pub is_read : (N M : NetValue) (inputs read₀ read₁ read₂ : List ℕ) (own first : ℕ) → inputs ≡ range_with_len 0 (input_count N) → own ≡ input_count N → first ≡ input_count N + table_count N
    → read₀ ≡ [] → read₁ ≡ read₀ ++ map (placed inputs own) N.outputs → read₂ ≡ read₁ ++ map (placed inputs first) M.outputs → read₂ ≡ both_outputs N M
is_read N M inputs read₀ read₁ read₂ own first ei eo ef e₀ e₁ e₂ =
    rw (e₂, e₁, e₀, ei, eo, ef, placed_own (input_count N), placed_range (input_count N) (input_count N + table_count N), map-id N.outputs) refl

length-both : (N M : NetValue) → length N.outputs ≡ length M.outputs → length (both_outputs N M) ≡ length N.outputs + length N.outputs
length-both N M same = omega (arith, same, length-append N.outputs (map (approximate_signal N) M.outputs), length-map M.outputs (approximate_signal N))

pub placed_quality : (N M : NetValue) (read : List ℕ) (first : ℕ) → length N.outputs ≡ length M.outputs → read ≡ both_outputs N M → first ≡ input_count N + table_count N + table_count M
    → placed read first ≡ quality_signal N M
placed_quality N M read first same er ef =
    rw (er, ef) (ap (λ n. moved (λ i. get_or (both_outputs N M) i 0) n (input_count N + table_count N + table_count M)) (length-both N M same))

pub are_copies : (N M : NetValue) (more : List TableValue) (inputs read : List ℕ) (tables₀ tables₁ tables₂ tables₃ : List TableValue) (own first last : ℕ)
    → length N.outputs ≡ length M.outputs → inputs ≡ range_with_len 0 (input_count N) → own ≡ input_count N → first ≡ input_count N + table_count N → read ≡ both_outputs N M
    → last ≡ input_count N + table_count N + table_count M
    → tables₀ ≡ [] → tables₁ ≡ tables₀ ++ copied 101 (placed inputs own) N.tables → tables₂ ≡ tables₁ ++ copied 97 (placed inputs first) M.tables
    → tables₃ ≡ tables₂ ++ copied 113 (placed read last) more
    → tables₃ ≡ all_copies N M more
are_copies N M more inputs read tables₀ tables₁ tables₂ tables₃ own first last same ei eo ef er el e₀ e₁ e₂ e₃ =
    rw (e₃, placed_quality N M read last same er el, e₂, e₁, e₀, ei, eo, ef, placed_own (input_count N), placed_range (input_count N) (input_count N + table_count N))
    (append_assoc (copied 101 (λ s. s) N.tables) (copied 97 (approximate_signal N) M.tables) (copied 113 (quality_signal N M) more))

-- the parts make the joint net
pub is_joined : (N M Q : NetValue) (model : Bytes) (inputs : List Bytes) (tables : List TableValue) (outputs : List ℕ)
    → model ≡ codes "joint" → inputs ≡ map (numbered_name 120) (range_with_len 0 (input_count N)) → tables ≡ all_copies N M Q.tables → outputs ≡ map (quality_signal N M) Q.outputs
    → ◌≡◌ {A = NetValue} (record { model = model; inputs = inputs; tables = tables; outputs = outputs }) (joined N M Q)
unfolding joined
is_joined N M Q model inputs tables outputs em ei et eo = rw (em, ei, et, eo) refl

pub joined_is : (N M Q : NetValue) (metric : Metric) (w k : ℕ) → w ≡ length N.outputs → Q ≡ quality_net metric w k → joined N M Q ≡ joint_net N M metric k
unfolding joined joint_net
joined_is N M Q metric w k width eq = rw (eq, width) refl

pub joint_signals : (N M : NetValue) (metric : Metric) (k : ℕ) → signal_count (joint_net N M metric k) ≡ signal_count N + table_count M + table_count (quality_net metric (length N.outputs) k)
joint_signals N M metric k =
    omega (arith, whole_length N M metric k, length-both_copies N M, length-copied 113 (quality_signal N M) (quality metric (length N.outputs) k).net.tables)

pub is_joinable : (N M Q : NetValue) (metric : Metric) (w k : ℕ) → IsSound N → IsSound M → HasSamePorts N M → w ≡ length N.outputs → Q ≡ quality_net metric w k
    → signal_count N + table_count M + table_count Q < 2 ^ 31 → IsJoinable N M Q
is_joinable N M Q metric w k exact other ports width eq few =
    let e : joint_net N M metric k ≡ joined N M Q = sym (joined_is N M Q metric w k width eq) in
    let both = comparable N M exact other ports in
    let room : signal_count (joint_net N M metric k) < 2 ^ 31 = rw (joint_signals N M metric k, ← width, ← eq) few in
    let sound : IsSound (joint_net N M metric k) = joint_sound N M metric k both room in
    record {
      outputs = both.outputs;
      room = omega (arith, few);
      wired =
          subst IsWired e (
          record {
            names_differ = sound.names_differ;
            has_output = sound.has_output;
            outputs_are_signals = sound.outputs_are_signals;
            few_signals = room;
            few_outputs = rw (joint_outputs N M metric k) (omega arith);
          }
          );
      acyclic = subst (λ (P : NetValue). IsAcyclic (input_count P) P.tables) e sound.acyclic;
    }

pub tells_error : (metric : Metric) (N M : NetValue) (k : ℕ) (P : NetValue) → P ≡ joint_net N M metric k → IsSound N → IsSound M → HasSamePorts N M → TellsError metric N M k P
tells_error metric N M k P is exact other ports = rw is (joint_output N M metric k (comparable N M exact other ports))
