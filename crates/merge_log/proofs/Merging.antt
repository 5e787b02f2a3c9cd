-- One table more, in the order of levels.
use Rattle.std.proofs.Common.{◌≡◌, ℕ, zero, suc, ◌+◌, ◌-◌, ◌<◌, ◌≤◌, List, [], ◌∷◌, ◌++◌, length, get_or, set, map, refl, ap, subst, sym, ◌∙◌, inl, inr, ◌⊎◌, arith, length-append, get_or-set_same}
use Rattle.std.proofs.Common.{get_or-set_other, Some}
use Rattle.std.specs.Prelude.{All, Contains, slice_get}
use Rattle.std.specs.List.{AllZip, AllByRecursion}
use Rattle.std.proofs.lemmas.Bool.{cases_lt, cases_eq}
use Rattle.std.proofs.lemmas.List.{length-set, length-map, get_or_append_left}
use Rattle.std.proofs.lemmas.Option.{get_or_from_slice_get}
use Rattle.std.proofs.lemmas.List.Elements.{All-append, recursion_from_All}
use Rattle.std.proofs.Math.Seq.{get_or-append_seam}
use Rattle.semantics.specs.Net.{NetValue, input_count, table_count, signal_count, no_table, table_at, IsTable, IsAcyclic}
use Rattle.semantics.proofs.Depends.{pin_is_signal}
use Rattle.proof_semantics.specs.Clauses.{Clause}
use Rattle.proof_semantics.specs.Formula.{goal_of}
use Rattle.proof_semantics.specs.Logs.{IsDerivation}
use Rattle.proof_semantics.specs.Conflicts.{added_clauses, clauses_with}
use Rattle.proof_semantics.specs.Merges.{IsPair}
use Rattle.proof_semantics.specs.Alike.{HaveSameForm, IsAlike}
use Rattle.proof_semantics.proofs.Alike.{alike-to_form, alike-from_form, alike-turned, alike-joined}
use Rattle.merge_log.specs.Chains.{first_of}
use Rattle.merge_log.specs.Ids.{HasId, AreMerged, forth, back}
use Rattle.merge_log.specs.Steps.{Adds}
use Rattle.merge_log.specs.Forms.{form_of}
use Rattle.merge_log.specs.Levels.{AreLevels, IsLevel}
use Rattle.merge_log.specs.Merging.{MergingValue, IsDone, IsFirstOfKind, IsMerging}
use Rattle.merge_log.proofs.Adding.{merged-more}
use Rattle.merge_log.proofs.FormsSame.{same_rows}
use Rattle.merge_log.proofs.LevelSteps.{alike-level, level-pin}

firsts_same : (f : ℕ → ℕ) (pins others : List ℕ) → map f pins ≡ map f others → AllZip (λ p q. f p ≡ f q) pins others
firsts_same f [] [] h = tt
firsts_same f [] (q ∷ others) h = cc
firsts_same f (p ∷ pins) [] h = cc
firsts_same f (p ∷ pins) (q ∷ others) h = (cc, firsts_same f pins others cc)

same_firsts : (f : ℕ → ℕ) (pins others : List ℕ) → AllZip (λ p q. f p ≡ f q) pins others → map f pins ≡ map f others
same_firsts f [] [] h = refl
same_firsts f [] (q ∷ others) h = absurd h
same_firsts f (p ∷ pins) [] h = absurd h
same_firsts f (p ∷ pins) (q ∷ others) h = let rest = same_firsts f pins others h.1 in cc (h.0, rest)

-- a relation of two lists, where the members are in both
zip_among : (R S : ℕ → ℕ → Type 0) (pins others : List ℕ) → ((p q : ℕ) → Contains pins p → Contains others q → R p q → S p q) → AllZip R pins others → AllZip S pins others
zip_among R S [] [] f h = tt
zip_among R S [] (q ∷ others) f h = absurd h
zip_among R S (p ∷ pins) [] f h = absurd h
zip_among R S (p ∷ pins) (q ∷ others) f h = (
  f p q (0, omega arith, refl) (0, omega arith, refl) h.0,
  zip_among R S pins others (λ a b c d. f a b (suc c.0, omega (arith, c.1), c.2) (suc d.0, omega (arith, d.1), d.2)) h.1,
)

map_among : (f g : ℕ → ℕ) (pins : List ℕ) → ((p : ℕ) → Contains pins p → f p ≡ g p) → map f pins ≡ map g pins
map_among f g [] same = refl
map_among f g (p ∷ pins) same =
    let here = same p (0, omega arith, refl) in
    let rest = map_among f g pins (λ q c. same q (suc c.0, omega (arith, c.1), c.2)) in
    cc (here, rest)

slice_get-append_left : {X : Type 0} (xs ys : List X) (k : ℕ) → k < length xs → slice_get (xs ++ ys) k ≡ slice_get xs k
slice_get-append_left [] ys k low = absurd (omega (arith, low))
slice_get-append_left (x ∷ xs) ys zero low = refl
slice_get-append_left (x ∷ xs) ys (suc k) low = slice_get-append_left xs ys k (omega (arith, low))

slice_get-append_seam : {X : Type 0} (xs : List X) (x : X) (ys : List X) → slice_get (xs ++ x ∷ ys) (length xs) ≡ Some x
slice_get-append_seam [] x ys = refl
slice_get-append_seam (y ∷ xs) x ys = slice_get-append_seam xs x ys

module _ (N : NetValue) (acyclic : IsAcyclic (input_count N) N.tables) (levels : List ℕ) (are : AreLevels (input_count N) N.tables levels) (level t : ℕ) where
  n : ℕ
  n = input_count N

  Like : ℕ → ℕ → Type 0
  Like = IsAlike (input_count N) N.tables

  Done : ℕ → Type 0
  Done = IsDone N levels level t

  pins_of : ℕ → List ℕ
  pins_of s = (table_at N.tables (s - input_count N)).pins

  -- ---- what is taken

  taken_next : (s : ℕ) → IsDone N levels level (suc t) s → Done s ⊎ ((s ≡ input_count N + t) × (get_or levels s 0 ≡ level))
  unfolding Done
  taken_next s (within, inl lower) = inl (within, inl lower)
  taken_next s (within, inr (here, before)) =
      elim (cases_lt s (input_count N + t)) [
        | inl earlier ↦ inl (within, inr (here, earlier))
        | inr last ↦ inr (omega (arith, before, last), here)
      ]

  still_taken : (s : ℕ) → Done s → IsDone N levels level (suc t) s
  unfolding Done
  still_taken s (within, inl lower) = (within, inl lower)
  still_taken s (within, inr (here, before)) = (within, inr (here, omega (arith, before)))

  -- the pins of a table at this level or a lower one are taken
  pin_taken : (s p : ℕ) → input_count N ≤ s → s < signal_count N → get_or levels s 0 ≤ level → Contains (pins_of s) p → Done p
  unfolding Done pins_of
  pin_taken s p high within low c =
      let i : ℕ = s - input_count N in
      let at : input_count N + i ≡ s = omega (arith, high) in
      let inside : p < signal_count N = pin_is_signal (input_count N) N.tables i p acyclic (omega (arith, within, high)) c in
      let below : get_or levels p 0 < get_or levels s 0 =
      level-pin (input_count N) N.tables i p (get_or levels s 0) (get_or levels p 0) c (subst (λ q. IsLevel (input_count N) N.tables q (get_or levels s 0)) (sym at) (are s within)) (are p inside) in
      (inside, inl (omega (arith, below, low)))

  done_level : (s : ℕ) → Done s → get_or levels s 0 ≤ level
  unfolding Done
  done_level s (within, inl lower) = omega (arith, lower)
  done_level s (within, inr (here, before)) = omega (arith, here)

  like_levels : (s u : ℕ) → s < signal_count N → u < signal_count N → Like s u → get_or levels s 0 ≡ get_or levels u 0
  unfolding Like
  like_levels s u low lower like = alike-level (input_count N) N.tables s u (get_or levels s 0) (get_or levels u 0) like (are s low) (are u lower)

  module _ (g : MergingValue) (h : IsMerging N levels level t g) where
    first : ℕ → ℕ
    first s = first_of g.merged s

    -- tables that are alike have one form
    like_forms : (s u : ℕ) → HaveSameForm (input_count N) N.tables (IsAlike (input_count N) N.tables) s u → get_or levels s 0 ≤ level → get_or levels u 0 ≤ level
        → form_of g.merged (table_at N.tables (s - input_count N)) ≡ form_of g.merged (table_at N.tables (u - input_count N))
    unfolding first Like Done pins_of
    like_forms s u form low lower =
        let firsts : map (first_of g.merged) (pins_of s) ≡ map (first_of g.merged) (pins_of u) =
        same_firsts (first_of g.merged) (pins_of s) (pins_of u)
        (zip_among (IsAlike (input_count N) N.tables) (λ p q. first_of g.merged p ≡ first_of g.merged q) (pins_of s) (pins_of u)
        (λ p q c d like. h.same p q (pin_taken s p form.s_table.0 form.s_table.1 low c) (pin_taken u q form.u_table.0 form.u_table.1 lower d) like) form.pins) in
        let plane = form.plane in
        let rows = form.rows in
        cc (firsts, plane, rows)

    -- the first signal that one was made equal to is taken too, and alone
    first_taken : (s : ℕ) → Done s → Done (first s)
    unfolding first Like Done
    first_taken s done =
        let low : first_of g.merged s ≤ s = h.earlier s done in
        let within : first_of g.merged s < signal_count N = omega (arith, low, done.0) in
        let same = like_levels s (first_of g.merged s) done.0 within (h.alike s done) in (
          within,
          elim done.1 [
            | inl lower ↦ inl (omega (arith, lower, same))
            | inr (here, before) ↦ inr (omega (arith, here, same), omega (arith, before, low))
          ],
        )

    first_alone : (s : ℕ) → Done s → first (first s) ≡ first s
    unfolding first Done
    first_alone s done = sym (h.same s (first s) done (first_taken s done) (h.alike s done))

    -- the form of a table that is taken stands among the forms
    StandsFor : ℕ → Type 0
    StandsFor u =
        (k : ℕ) × (k < length g.tables) × (slice_get g.forms k ≡ Some (form_of g.merged (table_at N.tables (u - input_count N))))
        × (input_count N + get_or g.tables k 0 ≡ first_of g.merged u)

    stands : (u : ℕ) → Done u → input_count N ≤ first_of g.merged u
        → form_of g.merged (table_at N.tables (first_of g.merged u - input_count N)) ≡ form_of g.merged (table_at N.tables (u - input_count N)) → StandsFor u
    unfolding first Done StandsFor
    stands u done high form =
        let v : ℕ = first_of g.merged u in
        let i : ℕ = v - input_count N in
        let at : v ≡ input_count N + i = omega (arith, high) in
        let v_done : IsDone N levels level t v = first_taken u done in
        let within : i < table_count N = omega (arith, v_done.0, high) in
        let found = h.all i within (subst (IsDone N levels level t) at v_done) (ap (first_of g.merged) (sym at) ∙ first_alone u done ∙ at) in
        let kind = h.kinds found.0 found.1 in
        (found.0, found.1, kind.form ∙ ap (λ j. Some (form_of g.merged (table_at N.tables j))) found.2 ∙ ap Some form, omega (arith, found.2, at))

    form_stands : (u : ℕ) → input_count N ≤ u → Done u → StandsFor u
    unfolding first Like Done
    form_stands u high done =
        let v_done : IsDone N levels level t (first_of g.merged u) = first_taken u done in
        elim (alike-to_form (input_count N) N.tables u (first_of g.merged u) (h.alike u done)) [
          | inl same ↦ stands u done (omega (arith, same, high)) (ap (λ x. form_of g.merged (table_at N.tables (x - input_count N))) (sym same))
          | inr form ↦ stands u done form.u_table.0 (sym (like_forms u (first_of g.merged u) form (done_level u done) (done_level (first_of g.merged u) v_done)))
        ]

    -- what is found of a table stays, where nothing that was taken is made equal anew
    kind_kept : (later : MergingValue) (k : ℕ) → k < length g.tables → get_or later.tables k 0 ≡ get_or g.tables k 0 → slice_get later.forms k ≡ slice_get g.forms k
        → ((s : ℕ) → Done s → first_of later.merged s ≡ first_of g.merged s) → IsFirstOfKind N levels level (suc t) later k
    unfolding Done first Like pins_of
    kind_kept later k low table form same =
        let kind = h.kinds k low in
        let i : ℕ = get_or g.tables k 0 in
        let s : ℕ = input_count N + i in
        let at : s - input_count N ≡ i = omega arith in
        let done : IsDone N levels level t s = kind.done in
        let pins : map (first_of g.merged) (table_at N.tables i).pins ≡ map (first_of later.merged) (table_at N.tables i).pins =
        map_among (first_of g.merged) (first_of later.merged) (table_at N.tables i).pins
        (λ p c. sym (same p (pin_taken s p (omega arith) done.0 (done_level s done) (subst (λ j. Contains (table_at N.tables j).pins p) (sym at) c)))) in
        record {
          table = subst (λ j. j < table_count N) (sym table) kind.table;
          done = subst (λ j. IsDone N levels level (suc t) (input_count N + j)) (sym table) (still_taken s done);
          alone = subst (λ j. first_of later.merged (input_count N + j) ≡ input_count N + j) (sym table) (same s done ∙ kind.alone);
          form = form ∙ kind.form ∙ cc pins ∙ ap (λ j. Some (form_of later.merged (table_at N.tables j))) (sym table);
        }

    module _ (within : t < table_count N) (here : get_or levels (input_count N + t) 0 ≡ level) where
      not_yet : Done (input_count N + t) → ⊥
      unfolding Done
      not_yet (low, inl lower) = omega (arith, lower, here)
      not_yet (low, inr (same, before)) = omega (arith, before)

      own_alone : first_of g.merged (input_count N + t) ≡ input_count N + t
      unfolding Done
      own_alone = h.alone (input_count N + t) not_yet

      own_taken : IsDone N levels level (suc t) (input_count N + t)
      own_taken = (omega (arith, within), inr (here, omega arith))

      table_here : (input_count N + t) - input_count N ≡ t
      table_here = omega arith

      -- ---- the first of its kind

      no_other : ¬ Contains g.forms (form_of g.merged (table_at N.tables t)) → (u : ℕ) → Done u → IsAlike (input_count N) N.tables (input_count N + t) u → ⊥
      unfolding Done StandsFor
      no_other new u done like =
          elim (alike-to_form (input_count N) N.tables (input_count N + t) u like) [
            | inl same ↦ not_yet (subst (IsDone N levels level t) (sym same) done)
            | inr form ↦
                let found = form_stands u form.u_table.0 done in
                let one = like_forms (input_count N + t) u form (omega (arith, here)) (done_level u done) in
                let is : slice_get g.forms found.0 ≡ Some (form_of g.merged (table_at N.tables t)) =
                found.2 ∙ ap Some (sym one ∙ ap (λ j. form_of g.merged (table_at N.tables j)) table_here) in
                new (found.0, omega (arith, found.1, h.forms_count), get_or_from_slice_get g.forms found.0 (form_of g.merged (table_at N.tables t)) (form_of g.merged (table_at N.tables t)) is)
          ]

      pub merging_new : (later : MergingValue) → later.log ≡ g.log → later.merged ≡ g.merged → later.forms ≡ g.forms ++ form_of g.merged (table_at N.tables t) ∷ []
          → later.tables ≡ g.tables ++ t ∷ [] → ¬ Contains g.forms (form_of g.merged (table_at N.tables t)) → IsMerging N levels level (suc t) later
      unfolding Done
      merging_new later log merged forms tables new =
          let firsts : (s : ℕ) → first_of later.merged s ≡ first_of g.merged s = λ s. ap (λ m. first_of m s) merged in
          let tables_more : length later.tables ≡ length g.tables + 1 = omega (arith, ap length tables, length-append g.tables (t ∷ [])) in
          let forms_more : length later.forms ≡ length g.forms + 1 = omega (arith, ap length forms, length-append g.forms (form_of g.merged (table_at N.tables t) ∷ [])) in
          let old_table : (k : ℕ) → k < length g.tables → get_or later.tables k 0 ≡ get_or g.tables k 0 =
          λ k low. ap (λ l. get_or l k 0) tables ∙ get_or_append_left g.tables (t ∷ []) 0 k low in
          let new_table : get_or later.tables (length g.tables) 0 ≡ t = ap (λ l. get_or l (length g.tables) 0) tables ∙ get_or-append_seam g.tables t [] 0 in
          let own_later : first_of later.merged (input_count N + t) ≡ input_count N + t = firsts (input_count N + t) ∙ own_alone in
          record {
            derivation = subst (IsDerivation (goal_of N)) (sym log) h.derivation;
            pairs = subst (λ l. All IsPair (added_clauses l)) (sym log) h.pairs;
            merged = subst (λ m. AreMerged (clauses_with (goal_of N).clauses later.log) m) (sym merged) (subst (λ l. AreMerged (clauses_with (goal_of N).clauses l) g.merged) (sym log) h.merged);
            behind = λ s other. omega (arith, h.behind s (λ e. other (firsts s ∙ e)), ap (λ m. get_or m.ids s 0) merged);
            count = ap (λ m. length m.firsts) merged ∙ h.count;
            alone = λ s not_done. firsts s ∙ h.alone s (λ done. not_done (still_taken s done));
            earlier = λ s done. elim (taken_next s done) [
              | inl old ↦ let low = h.earlier s old in omega (arith, low, firsts s)
              | inr is ↦ omega (arith, own_later, ap (first_of later.merged) is.0, is.0)
            ];
            alike = λ s done. elim (taken_next s done) [
              | inl old ↦ subst (IsAlike (input_count N) N.tables s) (sym (firsts s)) (h.alike s old)
              | inr is ↦ (0, is.0 ∙ sym own_later ∙ ap (first_of later.merged) (sym is.0))
            ];
            same = λ s u done done_u like. elim (taken_next s done) [
              | inl old ↦ elim (taken_next u done_u) [
                | inl old_u ↦ firsts s ∙ h.same s u old old_u like ∙ sym (firsts u)
                | inr is ↦ absurd (no_other new s old (subst (λ x. IsAlike (input_count N) N.tables x s) is.0 (alike-turned (input_count N) N.tables s u like)))
              ]
              | inr is ↦ elim (taken_next u done_u) [
                | inl old_u ↦ absurd (no_other new u old_u (subst (λ x. IsAlike (input_count N) N.tables x u) is.0 like))
                | inr is_u ↦ ap (first_of later.merged) (is.0 ∙ sym is_u.0)
              ]
            ];
            forms_count = omega (arith, h.forms_count, tables_more, forms_more);
            kinds = λ k low. elim (cases_lt k (length g.tables)) [
              | inl before ↦
                  kind_kept later k before (old_table k before)
                  (ap (λ l. slice_get l k) forms ∙ slice_get-append_left g.forms (form_of g.merged (table_at N.tables t) ∷ []) k (omega (arith, before, h.forms_count)))
                  (λ s done. firsts s)
              | inr last ↦
                  let at : k ≡ length g.tables = omega (arith, low, last, tables_more) in
                  let is : get_or later.tables k 0 ≡ t = ap (λ j. get_or later.tables j 0) at ∙ new_table in
                  record {
                    table = omega (arith, is, within);
                    done = subst (λ j. IsDone N levels level (suc t) (input_count N + j)) (sym is) own_taken;
                    alone = subst (λ j. first_of later.merged (input_count N + j) ≡ input_count N + j) (sym is) own_later;
                    form =
                        ap (λ l. slice_get l k) forms ∙ ap (slice_get (g.forms ++ form_of g.merged (table_at N.tables t) ∷ [])) (at ∙ sym h.forms_count)
                        ∙ slice_get-append_seam g.forms (form_of g.merged (table_at N.tables t)) [] ∙ ap (λ m. Some (form_of m (table_at N.tables t))) (sym merged)
                        ∙ ap (λ j. Some (form_of later.merged (table_at N.tables j))) (sym is);
                  }
            ];
            all = λ i low done alone. elim (taken_next (input_count N + i) done) [
              | inl old ↦
                  let found = h.all i low old (sym (firsts (input_count N + i)) ∙ alone) in
                  (found.0, omega (arith, found.1, tables_more), old_table found.0 found.1 ∙ found.2)
              | inr is ↦ (length g.tables, omega (arith, tables_more), new_table ∙ omega (arith, is.0))
            ];
          }

      -- ---- one that was found

      module _ (k : ℕ) (low : k < length g.tables) (found : slice_get g.forms k ≡ Some (form_of g.merged (table_at N.tables t))) (formed : All IsTable N.tables) where
        other : ℕ
        other = input_count N + get_or g.tables k 0

        forms_equal : form_of g.merged (table_at N.tables t) ≡ form_of g.merged (table_at N.tables (get_or g.tables k 0))
        forms_equal = let kind = h.kinds k low in let both = sym found ∙ kind.form in cc both

        width_of : (i : ℕ) → i < table_count N → AllByRecursion (λ marks. length marks ≡ length (table_at N.tables i).pins) (table_at N.tables i).rows
        width_of i inside = recursion_from_All (λ marks. length marks ≡ length (table_at N.tables i).pins) (table_at N.tables i).rows (formed i no_table inside).widths

        pub found_plane : (table_at N.tables t).plane ≡ (table_at N.tables (get_or g.tables k 0)).plane
        found_plane = ap (λ f. f.plane) forms_equal

        pub found_pins : AllZip (λ p q. first_of g.merged p ≡ first_of g.merged q) (table_at N.tables t).pins (table_at N.tables (get_or g.tables k 0)).pins
        found_pins = firsts_same (first_of g.merged) (table_at N.tables t).pins (table_at N.tables (get_or g.tables k 0)).pins (ap (λ f. f.pins) forms_equal)

        pub found_rows : (table_at N.tables t).rows ≡ (table_at N.tables (get_or g.tables k 0)).rows
        found_rows =
            let i : ℕ = get_or g.tables k 0 in
            let counts : length (table_at N.tables t).pins ≡ length (table_at N.tables i).pins =
            sym (length-map (table_at N.tables t).pins (first_of g.merged)) ∙ ap (λ f. length f.pins) forms_equal ∙ length-map (table_at N.tables i).pins (first_of g.merged) in
            same_rows (length (table_at N.tables i).pins) (table_at N.tables t).rows (table_at N.tables i).rows
            (subst (λ w. AllByRecursion (λ marks. length marks ≡ w) (table_at N.tables t).rows) counts (width_of t within)) (width_of i (h.kinds k low).table)
            (ap (λ f. f.rows) forms_equal) (ap (λ f. f.marks) forms_equal)

        found_like : IsAlike (input_count N) N.tables (input_count N + t) (input_count N + get_or g.tables k 0)
        unfolding Done pins_of Like
        found_like =
            let i : ℕ = get_or g.tables k 0 in
            let kind = h.kinds k low in
            let there : (input_count N + i) - input_count N ≡ i = omega arith in
            let pins : AllZip (IsAlike (input_count N) N.tables) (table_at N.tables t).pins (table_at N.tables i).pins =
            zip_among (λ p q. first_of g.merged p ≡ first_of g.merged q) (IsAlike (input_count N) N.tables) (table_at N.tables t).pins (table_at N.tables i).pins
            (λ p q c d same.
            let p_done = pin_taken (input_count N + t) p (omega arith) (omega (arith, within)) (omega (arith, here)) (subst (λ j. Contains (table_at N.tables j).pins p) (sym table_here) c) in
            let q_done = pin_taken (input_count N + i) q (omega arith) kind.done.0 (done_level (input_count N + i) kind.done) (subst (λ j. Contains (table_at N.tables j).pins q) (sym there) d) in
            alike-joined (input_count N) N.tables p (first_of g.merged p) q (h.alike p p_done)
            (subst (λ x. IsAlike (input_count N) N.tables x q) (sym same) (alike-turned (input_count N) N.tables q (first_of g.merged q) (h.alike q q_done)))) found_pins in
            alike-from_form (input_count N) N.tables (input_count N + t) (input_count N + i) (record {
              s_table = (omega arith, omega (arith, within));
              u_table = (omega arith, kind.done.0);
              plane = rw (table_here, there) found_plane;
              rows = rw (table_here, there) found_rows;
              pins = rw (table_here, there) pins;
            })

        pub found_earlier : input_count N + get_or g.tables k 0 < input_count N + t
        unfolding Done Like
        found_earlier =
            let kind = h.kinds k low in
            let same = like_levels (input_count N + t) (input_count N + get_or g.tables k 0) (omega (arith, within)) kind.done.0 found_like in
            elim kind.done.1 [ inl lower ↦ absurd (omega (arith, lower, same, here)) | inr before ↦ before.1 ]

        pub merging_found : (later : MergingValue) (id : ℕ) (clauses : List Clause) → later.forms ≡ g.forms → later.tables ≡ g.tables
            → later.merged ≡ record { firsts = set g.merged.firsts (input_count N + t) (input_count N + get_or g.tables k 0); ids = set g.merged.ids (input_count N + t) id }
            → length g.merged.ids ≡ length g.merged.firsts → length (goal_of N).clauses < id → Adds (goal_of N) g.log later.log clauses → All IsPair clauses
            → HasId (clauses_with (goal_of N).clauses later.log) id (forth (input_count N + t) (input_count N + get_or g.tables k 0))
            → HasId (clauses_with (goal_of N).clauses later.log) (suc id) (back (input_count N + t) (input_count N + get_or g.tables k 0)) → IsMerging N levels level (suc t) later
        unfolding Done Like
        merging_found later id clauses forms tables merged room past adds pairs has_forth has_back =
            let own : ℕ = input_count N + t in
            let v : ℕ = input_count N + get_or g.tables k 0 in
            let kind = h.kinds k low in
            let inside : own < length g.merged.firsts = omega (arith, within, h.count) in
            let own_first : first_of later.merged own ≡ v = ap (λ m. first_of m own) merged ∙ get_or-set_same g.merged.firsts own v own inside in
            let own_id : get_or later.merged.ids own 0 ≡ id = ap (λ m. get_or m.ids own 0) merged ∙ get_or-set_same g.merged.ids own id 0 (omega (arith, inside, room)) in
            let old_first : (s : ℕ) → (s ≡ own → ⊥) → first_of later.merged s ≡ first_of g.merged s =
            λ s ne. ap (λ m. first_of m s) merged ∙ get_or-set_other g.merged.firsts own s v s ne in
            let old_id : (s : ℕ) → (s ≡ own → ⊥) → get_or later.merged.ids s 0 ≡ get_or g.merged.ids s 0 =
            λ s ne. ap (λ m. get_or m.ids s 0) merged ∙ get_or-set_other g.merged.ids own s id 0 ne in
            let old_done : (s : ℕ) → IsDone N levels level t s → first_of later.merged s ≡ first_of g.merged s =
            λ s done. old_first s (λ e. not_yet (subst (IsDone N levels level t) e done)) in
            let all_merged : AreMerged (clauses_with (goal_of N).clauses later.log) g.merged = merged-more (goal_of N) g.log later.log clauses g.merged adds h.merged in
            let like_old : (u : ℕ) → IsDone N levels level t u → IsAlike (input_count N) N.tables own u → v ≡ first_of later.merged u =
            λ u done like.
            sym kind.alone ∙ h.same v u kind.done done (alike-joined (input_count N) N.tables v own u (alike-turned (input_count N) N.tables own v found_like) like) ∙ sym (old_done u done) in
            record {
              derivation = adds.derivation;
              pairs = subst (All IsPair) (sym adds.added) (All-append IsPair (added_clauses g.log) clauses h.pairs pairs);
              merged = λ s ne. elim (cases_eq s own) [
                | inl is ↦ rw (is, own_first, own_id) (has_forth, has_back)
                | inr apart ↦ rw (old_first s apart, old_id s apart) (all_merged s (λ e. ne (old_first s apart ∙ e)))
              ];
              behind = λ s ne. elim (cases_eq s own) [
                | inl is ↦ omega (arith, ap (λ x. get_or later.merged.ids x 0) is, own_id, past)
                | inr apart ↦ omega (arith, h.behind s (λ e. ne (old_first s apart ∙ e)), old_id s apart)
              ];
              count = ap (λ m. length m.firsts) merged ∙ length-set g.merged.firsts own v ∙ h.count;
              alone = λ s not_done.
                  old_first s (λ e. not_done (subst (IsDone N levels level (suc t)) (sym e) own_taken)) ∙ h.alone s (λ done. not_done (still_taken s done));
              earlier = λ s done. elim (taken_next s done) [
                | inl old ↦ let before = h.earlier s old in omega (arith, before, old_done s old)
                | inr is ↦ omega (arith, ap (first_of later.merged) is.0, own_first, is.0, found_earlier)
              ];
              alike = λ s done. elim (taken_next s done) [
                | inl old ↦ subst (IsAlike (input_count N) N.tables s) (sym (old_done s old)) (h.alike s old)
                | inr is ↦ subst (λ x. IsAlike (input_count N) N.tables x (first_of later.merged x)) (sym is.0) (subst (IsAlike (input_count N) N.tables own) (sym own_first) found_like)
              ];
              same = λ s u done done_u like. elim (taken_next s done) [
                | inl old ↦ elim (taken_next u done_u) [
                  | inl old_u ↦ old_done s old ∙ h.same s u old old_u like ∙ sym (old_done u old_u)
                  | inr is ↦
                      sym (like_old s old (subst (λ x. IsAlike (input_count N) N.tables x s) is.0 (alike-turned (input_count N) N.tables s u like))) ∙ sym own_first ∙ ap (first_of later.merged)
                      (sym is.0)
                ]
                | inr is ↦ elim (taken_next u done_u) [
                  | inl old_u ↦ ap (first_of later.merged) is.0 ∙ own_first ∙ like_old u old_u (subst (λ x. IsAlike (input_count N) N.tables x u) is.0 like)
                  | inr is_u ↦ ap (first_of later.merged) (is.0 ∙ sym is_u.0)
                ]
              ];
              forms_count = ap length forms ∙ h.forms_count ∙ sym (ap length tables);
              kinds = λ j inside_tables.
                  kind_kept later j (omega (arith, inside_tables, ap length tables)) (ap (λ l. get_or l j 0) tables) (ap (λ l. slice_get l j) forms) old_done;
              all = λ i inside_tables done alone. elim (taken_next (input_count N + i) done) [
                | inl old ↦
                    let there = h.all i inside_tables old (sym (old_done (input_count N + i) old) ∙ alone) in
                    (there.0, omega (arith, there.1, ap length tables), ap (λ l. get_or l there.0 0) tables ∙ there.2)
                | inr is ↦ absurd (omega (arith, ap (first_of later.merged) is.0, own_first, alone, is.0, found_earlier))
              ];
            }
