-- The steps that code makes one after another.
use Rattle.std.proofs.Common.{◌≡◌, ℕ, zero, suc, ◌+◌, ◌^◌, ◌<◌, ◌≤◌, Bool, true, false, List, [], ◌∷◌, map, length, get_or, replicate, refl, ap, sym, subst, ◌∙◌, inl, inr, arith}
use Rattle.std.specs.Prelude.{All}
use Rattle.std.proofs.lemmas.Bool.{cases_lt, false≢true}
use Rattle.std.proofs.lemmas.List.{length-map, length-replicate, get_or-replicate, get_or_past, get_or-map, ext_get_or}
use Rattle.std.proofs.lemmas.List.Elements.{All-map, All-weaker}
use Rattle.semantics.specs.Net.{TableValue, NetValue, no_table, table_at, input_count, table_count, IsTable, IsSound, signal_names, name_of}
use Rattle.semantics.specs.Renamed.{renamed}
use Rattle.chain_semantics.specs.Tidy.{IsReachedFrom, IsTidiedFrom}
use Rattle.chain_semantics.specs.Tidy.IsReachedFrom.{start, next}
use Rattle.chain_semantics.specs.TidyLaws.{KeepsNet}
use Rattle.chain_semantics.proofs.TidyMeasure.{tidy_measure}
use Rattle.chain_semantics.proofs.TidySteps.{good-step}
use Rattle.chain_semantics.proofs.TidyReached.{reached-keeps}
use Rattle.net_core.specs.Built.{IsBuilt, IsWired}
use Rattle.net_tidy.specs.declared.rule.Rule.{Rule}
use Rattle.net_tidy.specs.Rule.{made_by}
use Rattle.net_tidy.specs.Places.{DraftValue, kept, rank, signals_gone, dense, drafted, number_at, IsAtRest, IsFirstRuleIn}
use Rattle.net_tidy.proofs.Stepping.{step_by_rule}
use Rattle.net_tidy.proofs.Ranks.{place, kept_none, kept_map}
use Rattle.net_tidy.proofs.Dense.{AreEmpty, IsPacked, dense_is, rest_tidy}
use Rattle.net_tidy.proofs.Drafted.{IsStepped, repacked, sound_drafted, stepped}

-- where the draft stands
pub record IsUnderWay (N : NetValue) (D : DraftValue) : Type 0 where
  pub built : IsBuilt N
  pub reached : IsReachedFrom N (dense D)
  pub sound : IsSound D.net
  pub packed : IsPacked D (dense D).tables (dense D).outputs

place_none : (n k s : ℕ) → place (signals_gone n (replicate k false)) s ≡ s
place_none zero zero s = refl
place_none zero (suc k) zero = refl
place_none zero (suc k) (suc s) = ap suc (place_none zero k s)
place_none (suc n) k zero = refl
place_none (suc n) k (suc s) = ap suc (place_none n k s)

numbers_same : (f : ℕ → ℕ) → ((s : ℕ) → f s ≡ s) → (xs : List ℕ) → map f xs ≡ xs
numbers_same f h [] = refl
numbers_same f h (s ∷ xs) = let here = h s in let rest = numbers_same f h xs in cc

tables_same : (f : ℕ → ℕ) → ((s : ℕ) → f s ≡ s) → (ts : List TableValue) → map (renamed f) ts ≡ ts
tables_same f h [] = refl
tables_same f h (t ∷ ts) =
    let here : renamed f t ≡ t = ap (λ (pins : List ℕ). record t { pins = pins }) (numbers_same f h t.pins) in let rest = tables_same f h ts in cc

none_gone : (ts : List TableValue) → AreEmpty (replicate (length ts) false) ts
none_gone ts = record {
  none = λ i e. elim (cases_lt i (length ts)) [
    | inl low ↦ absurd (false≢true (sym (get_or-replicate (length ts) i false true low) ∙ e))
    | inr high ↦ ap (λ (t : TableValue). t.pins) (get_or_past ts i no_table high)
  ];
}

packed_first : (N : NetValue) → IsPacked (record { net = N; gone = replicate (table_count N) false }) N.tables N.outputs
packed_first N = record {
  count = length-replicate (table_count N) false;
  tables = kept_none (table_count N) N.tables
      ∙ sym (tables_same (place (signals_gone (input_count N) (replicate (table_count N) false))) (place_none (input_count N) (table_count N)) N.tables);
  outputs = sym (numbers_same (place (signals_gone (input_count N) (replicate (table_count N) false))) (place_none (input_count N) (table_count N)) N.outputs);
  empty = none_gone N.tables;
}

pub way_start : (N : NetValue) (D : DraftValue) → IsBuilt N → D ≡ record { net = N; gone = replicate (table_count N) false } → IsUnderWay N D
way_start N D built is =
    subst (IsUnderWay N) (sym is) (record {
      built = built;
      reached = subst (IsReachedFrom N) (sym (dense_is (record { net = N; gone = replicate (table_count N) false }) N.tables N.outputs (packed_first N))) start;
      sound = built.sound;
      packed = repacked (record { net = N; gone = replicate (table_count N) false }) N.tables N.outputs (packed_first N);
    })

pub way_sound : (N : NetValue) (D : DraftValue) → IsUnderWay N D → IsSound (dense D)
way_sound N D h = (reached-keeps N (dense D) h.built.sound h.reached).sound

pub way_next : (N : NetValue) (D E : DraftValue) (i : ℕ) (rule : Rule) → IsUnderWay N D → IsFirstRuleIn D i rule → E ≡ drafted D i rule → IsUnderWay N E
way_next N D E i rule h found is =
    let s : IsStepped D i rule = stepped D i rule h.packed (way_sound N D h) found in
    subst (IsUnderWay N) (sym is) (record {
      built = h.built;
      reached = subst (IsReachedFrom N) (sym s.made) (next h.reached (step_by_rule (dense D) (rank D.gone i) rule s.first));
      sound = sound_drafted D i rule h.sound found.within found.is;
      packed = s.packed;
    })

pub way_falls : (N : NetValue) (D E : DraftValue) (i : ℕ) (rule : Rule) → IsUnderWay N D → IsFirstRuleIn D i rule → E ≡ drafted D i rule → tidy_measure (dense E) < tidy_measure (dense D)
way_falls N D E i rule h found is =
    let s : IsStepped D i rule = stepped D i rule h.packed (way_sound N D h) found in
    let falls = (good-step (dense D) (made_by (dense D) (rank D.gone i) rule) (way_sound N D h) (step_by_rule (dense D) (rank D.gone i) rule s.first)).falls in
    subst (λ P. tidy_measure P < tidy_measure (dense D)) (sym (ap dense is ∙ s.made)) falls

pub way_few : (N : NetValue) (D : DraftValue) → IsUnderWay N D → length D.net.outputs < 2 ^ 31
way_few N D h =
    let keeps : KeepsNet N (dense D) = reached-keeps N (dense D) h.built.sound h.reached in
    omega (
      arith,
      h.built.few_outputs,
      sym (length-map N.outputs (name_of (signal_names N))) ∙ ap length keeps.ports.outputs ∙ length-map (dense D).outputs (name_of (signal_names (dense D))),
      length-map D.net.outputs (rank (signals_gone (input_count D.net) D.gone)),
    )

pub way_end : (N : NetValue) (D : DraftValue) (M : NetValue) → IsUnderWay N D → IsAtRest D → M ≡ dense D → IsTidiedFrom N M
way_end N D M h rest is =
    subst (IsTidiedFrom N) (sym is) (record {
      reached = h.reached;
      tidy = rest_tidy D (dense D).tables (dense D).outputs h.packed (way_sound N D h) rest;
    })

-- ---- the tables that are left, in code

pub formed_renamed : (f : ℕ → ℕ) (ts : List TableValue) → All IsTable ts → All IsTable (map (renamed f) ts)
formed_renamed f ts h =
    All-map IsTable (renamed f) ts
    (All-weaker IsTable (λ t. IsTable (renamed f t))
    (λ t formed. record {
      named = formed.named;
      widths = subst (λ k. All (λ marks. length marks ≡ k) t.rows) (sym (length-map t.pins f)) formed.widths;
      plane = formed.plane;
    }) ts h)

same_numbers : (f g : ℕ → ℕ) (bound : ℕ) → ((s : ℕ) → s < bound → f s ≡ g s) → (xs : List ℕ) → All (λ s. s < bound) xs → map f xs ≡ map g xs
same_numbers f g bound h xs all =
    ext_get_or 0 (map f xs) (map g xs) (length-map xs f ∙ sym (length-map xs g))
    (λ i low.
    let inside : i < length xs = omega (arith, low, length-map xs f) in
    get_or-map f xs i 0 0 inside ∙ h (get_or xs i 0) (all i 0 inside) ∙ sym (get_or-map g xs i 0 0 inside))

same_tables : (f g : ℕ → ℕ) (bound : ℕ) → ((s : ℕ) → s < bound → f s ≡ g s) → (ts : List TableValue) → All (λ t. All (λ s. s < bound) t.pins) ts → map (renamed f) ts ≡ map (renamed g) ts
same_tables f g bound h ts all =
    ext_get_or no_table (map (renamed f) ts) (map (renamed g) ts) (length-map ts (renamed f) ∙ sym (length-map ts (renamed g)))
    (λ i low.
    let inside : i < length ts = omega (arith, low, length-map ts (renamed f)) in
    get_or-map (renamed f) ts i no_table no_table inside
    ∙ ap (λ (pins : List ℕ). record (table_at ts i) { pins = pins }) (same_numbers f g bound h (table_at ts i).pins (all i no_table inside))
    ∙ sym (get_or-map (renamed g) ts i no_table no_table inside))

pub dense_parts : (D : DraftValue) (n : ℕ) (gone : List Bool) (numbers : List ℕ) (tables left : List TableValue) (outputs list : List ℕ) → IsSound D.net → length D.gone ≡ table_count D.net
    → n ≡ input_count D.net → gone ≡ D.gone
    → ((s : ℕ) → s < n + length gone → number_at numbers s ≡ rank (signals_gone n gone) s)
    → tables ≡ map (renamed (number_at numbers)) D.net.tables → left ≡ kept gone tables → outputs ≡ D.net.outputs → list ≡ map (number_at numbers) outputs
    → record { model = D.net.model; inputs = D.net.inputs; tables = left; outputs = list } ≡ dense D
dense_parts D n gone numbers tables left outputs list sound count inputs same numbered made is own named =
    let agree : (s : ℕ) → s < input_count D.net + table_count D.net → number_at numbers s ≡ rank (signals_gone (input_count D.net) D.gone) s =
    λ s low.
    numbered s (omega (arith, low, inputs, ap length same, count))
    ∙ ap (λ k. rank (signals_gone k gone) s) inputs ∙ ap (λ g. rank (signals_gone (input_count D.net) g) s) same in
    let one : left ≡ map (renamed (rank (signals_gone (input_count D.net) D.gone))) (kept D.gone D.net.tables) =
    is ∙ ap (kept gone) made ∙ ap (λ g. kept g (map (renamed (number_at numbers)) D.net.tables)) same
    ∙ ap (kept D.gone) (same_tables (number_at numbers) (rank (signals_gone (input_count D.net) D.gone)) (input_count D.net + table_count D.net) agree D.net.tables sound.pins_are_signals)
    ∙ kept_map (renamed (rank (signals_gone (input_count D.net) D.gone))) D.gone D.net.tables in
    let two : list ≡ map (rank (signals_gone (input_count D.net) D.gone)) D.net.outputs =
    named ∙ ap (map (number_at numbers)) own
    ∙ same_numbers (number_at numbers) (rank (signals_gone (input_count D.net) D.gone)) (input_count D.net + table_count D.net) agree D.net.outputs sound.outputs_are_signals in
    ap (λ (x : List TableValue). record { model = D.net.model; inputs = D.net.inputs; tables = x; outputs = list }) one
    ∙ ap (λ (x : List ℕ). record {
      model = D.net.model;
      inputs = D.net.inputs;
      tables = map (renamed (rank (signals_gone (input_count D.net) D.gone))) (kept D.gone D.net.tables);
      outputs = x;
    }) two

kept_short : {X : Type 0} (gone : List Bool) (xs : List X) → length (kept gone xs) ≤ length xs
kept_short [] xs = omega arith
kept_short (g ∷ gone) [] = omega arith
kept_short (true ∷ gone) (x ∷ xs) = let rest = kept_short gone xs in omega (arith, rest)
kept_short (false ∷ gone) (x ∷ xs) = let rest = kept_short gone xs in omega (arith, rest)

pub wired_from : (D : DraftValue) (M : NetValue) → M ≡ dense D → IsSound (dense D) → input_count D.net + table_count D.net < 2147483648 → length D.net.outputs < 2147483648 → IsWired M
wired_from D M is sound few few_outputs =
    subst IsWired (sym is) (record {
      names_differ = sound.names_differ;
      has_output = sound.has_output;
      outputs_are_signals = sound.outputs_are_signals;
      few_signals = omega (
        arith,
        few,
        length-map (kept D.gone D.net.tables) (renamed (rank (signals_gone (input_count D.net) D.gone))),
        kept_short D.gone D.net.tables,
      );
      few_outputs = omega (arith, few_outputs, length-map D.net.outputs (rank (signals_gone (input_count D.net) D.gone)));
    })
