-- Readers of a signal that read another in its place, one after another.
use Rattle.std.proofs.Common.{◌≡◌, ℕ, zero, suc, ◌+◌, ◌-◌, ◌<◌, ◌≤◌, Bool, true, false, ◌||◌, cond, eqb, List, [], ◌∷◌, ◌++◌, map, length, get_or, set, take, refl, ap, sym, subst, ◌∙◌, inl, inr}
use Rattle.std.proofs.Common.{arith}
use Rattle.std.specs.Prelude.{◌⊎◌, All, Contains}
use Rattle.std.specs.List.{filter, remove}
use Rattle.std.proofs.lemmas.Bool.{cases_eq, cases_lt, eq-eqb, ne_eqb, false≢true, both_ways}
use Rattle.std.proofs.lemmas.List.{length-map, length-set, take_all, take_more, get_or-map, get_or_past, get_or_default, get_or-set_same, get_or-set_other, ext_get_or}
use Rattle.std.proofs.lemmas.List.Elements.{All-map, All-weaker}
use Rattle.std.proofs.lemmas.List.Folds.{list_any-append}
use Rattle.semantics.specs.declared.mark.Mark.{Mark}
use Rattle.semantics.specs.Net.{TableValue, no_table, table_at}
use Rattle.semantics.specs.Renamed.{redirect}
use Rattle.chain_semantics.specs.TidyRules.{has, is_read, reading_past, with_marks_turned, without_pin}
use Rattle.chain_semantics.proofs.TidyRows.{length-turned}
use Rattle.chain_semantics.proofs.TidyReading.{has-Contains, Contains-has, IsReadBy, read-by}
use Rattle.chain_semantics.proofs.TidyMapped.{IsImage, Contains-from_map}
use Rattle.chain_semantics.proofs.TidyBypass.{redirect-other}
use Rattle.net_tidy.specs.Flags.{IsDown}
use Rattle.net_tidy.specs.Readers.{list_at, IsWider, IsListed}
use Rattle.net_tidy.proofs.Passing.{past_aside}
use Rattle.net_tidy.proofs.Listing.{has-left, has-right, wider_set}

-- each table is as it was, and its place was not met, or it reads past the signal
pub record IsPast (from to : ℕ) (inverted : Bool) (old : List TableValue) (met : List ℕ) (new : List TableValue) : Type 0 where
  pub count : length new ≡ length old
  pub each : (j : ℕ) → ((table_at new j ≡ table_at old j) × (has met j ≡ false)) ⊎ ((table_at new j ≡ reading_past from to inverted (table_at old j)) × (has met j ≡ true))

none_left : (from to : ℕ) → (to ≡ from → ⊥) → (pins : List ℕ) → has (map (redirect from to) pins) from ≡ false
none_left from to ne [] = refl
none_left from to ne (p ∷ pins) =
    let rest = none_left from to ne pins in
    let here : eqb from (redirect from to p) ≡ false = elim (cases_eq p from) [
      | inl same ↦ ap (λ b. eqb from (cond b to p)) (eq-eqb p from same) ∙ ne_eqb from to (λ e. ne (sym e))
      | inr other ↦ ap (λ b. eqb from (cond b to p)) (ne_eqb p from other) ∙ ne_eqb from p (λ e. other (sym e))
    ] in
    cc

-- the second time nothing changes
past_twice : (from to : ℕ) (inverted : Bool) (t : TableValue) → (to ≡ from → ⊥) → reading_past from to inverted (reading_past from to inverted t) ≡ reading_past from to inverted t
past_twice from to inverted t ne = past_aside from to inverted (reading_past from to inverted t) (none_left from to ne t.pins)

abbrev pub IsWide : TableValue → Type 0
IsWide t = All (λ marks. length marks ≡ length t.pins) t.rows

turned_wide : (s : ℕ) (pins : List ℕ) (rows : List (List Mark)) (n : ℕ) → All (λ marks. length marks ≡ n) rows → All (λ marks. length marks ≡ n) (map (with_marks_turned s pins) rows)
turned_wide s pins rows n h =
    All-map (λ marks. length marks ≡ n) (with_marks_turned s pins) rows
    (All-weaker (λ marks. length marks ≡ n) (λ marks. length (with_marks_turned s pins marks) ≡ n) (λ marks w. length-turned s pins marks ∙ w) rows h)

past_wide : (from to : ℕ) (inverted : Bool) (t : TableValue) → IsWide t → IsWide (reading_past from to inverted t)
past_wide from to true t h = subst (λ n. All (λ marks. length marks ≡ n) (map (with_marks_turned from t.pins) t.rows)) (sym (length-map t.pins (redirect from to)))
    (turned_wide from t.pins t.rows (length t.pins) h)
past_wide from to false t h = subst (λ n. All (λ marks. length marks ≡ n) t.rows) (sym (length-map t.pins (redirect from to))) h

has_more : (met : List ℕ) (i j d : ℕ) → i < length met → has (take (i + 1) met) j ≡ (has (take i met) j || (eqb j (get_or met i d) || false))
has_more met i j d h = ap (λ l. has l j) (take_more met i d h) ∙ list_any-append (λ p. eqb j p) (take i met) (get_or met i d ∷ [])

or_none : (a : Bool) → (a || false) ≡ a
or_none true = refl
or_none false = refl

or_two : (a b : Bool) → b ≡ true → (a || (b || false)) ≡ true
or_two true true e = refl
or_two false true e = refl
or_two a false e = absurd (false≢true e)

unread_there : (pins places : List ℕ) (from j : ℕ) (b : Bool) → has pins from ≡ b → (has pins from ≡ true → has places j ≡ true) → has places j ≡ false → has pins from ≡ false
unread_there pins places from j true e listed none = absurd (both_ways (has places j) none (listed e))
unread_there pins places from j false e listed none = e

module _ (from to : ℕ) (inverted : Bool) (old : List TableValue) (places : List ℕ) where
  pub past_widths : (met : List ℕ) (now : List TableValue) → IsPast from to inverted old met now → All IsWide old → All IsWide now
  past_widths met now h wide = λ k d below.
      subst IsWide (get_or_default now k no_table d below)
      (elim (h.each k) [
        | inl stood ↦ subst IsWide (sym stood.0) (wide k no_table (omega (arith, below, h.count)))
        | inr past ↦ subst IsWide (sym past.0) (past_wide from to inverted (table_at old k) (wide k no_table (omega (arith, below, h.count))))
      ])

  module _ (now new : List TableValue) (i p : ℕ) (low : i < length places) (is : p ≡ get_or places i 0) (differ : to ≡ from → ⊥) (h : IsPast from to inverted old (take i places) now) where
    met_not : (j : ℕ) → (j ≡ p → ⊥) → has (take (i + 1) places) j ≡ has (take i places) j
    met_not j other =
        has_more places i j 0 low
        ∙ ap (λ b. has (take i places) j || (b || false)) (ne_eqb j (get_or places i 0) (λ e. other (e ∙ sym is)))
        ∙ or_none (has (take i places) j)

    met_here : (j : ℕ) → j ≡ p → has (take (i + 1) places) j ≡ true
    met_here j same = has_more places i j 0 low ∙ or_two (has (take i places) j) (eqb j (get_or places i 0)) (eq-eqb j (get_or places i 0) (same ∙ is))

    pub past_more : length new ≡ length now → table_at new p ≡ reading_past from to inverted (table_at now p) → ((j : ℕ) → (j ≡ p → ⊥) → table_at new j ≡ table_at now j)
        → IsPast from to inverted old (take (i + 1) places) new
    past_more count there others = record {
      count = count ∙ h.count;
      each = λ j. elim (cases_eq j p) [
        | inl same ↦
            let at : table_at new j ≡ reading_past from to inverted (table_at now j) =
            ap (table_at new) same ∙ there ∙ ap (λ k. reading_past from to inverted (table_at now k)) (sym same) in
            inr (
              elim (h.each j) [
                | inl stood ↦ at ∙ ap (reading_past from to inverted) stood.0
                | inr past ↦ at ∙ ap (reading_past from to inverted) past.0 ∙ past_twice from to inverted (table_at old j) differ
              ],
              met_here j same,
            )
        | inr other ↦ elim (h.each j) [
          | inl stood ↦ inl (others j other ∙ stood.0, met_not j other ∙ stood.1)
          | inr past ↦ inr (others j other ∙ past.0, met_not j other ∙ past.1)
        ]
      ];
    }

    pub down_more : (fn flags after : List Bool) → ((j : ℕ) → IsDown flags j → IsDown fn j × (has (take i places) j ≡ true → has (table_at old j).pins from ≡ false))
        → ((j : ℕ) → IsDown after j → IsDown flags j × (j ≡ p → has (table_at now j).pins from ≡ false))
        → (j : ℕ) → IsDown after j → IsDown fn j × (has (take (i + 1) places) j ≡ true → has (table_at old j).pins from ≡ false)
    down_more fn flags after before step j down =
        let last = step j down in
        let first = before j last.0 in (
          first.0,
          λ met. elim (cases_eq j p) [
            | inl same ↦ elim (h.each j) [
              | inl stood ↦ ap (λ (u : TableValue). has u.pins from) (sym stood.0) ∙ last.1 same
              | inr past ↦ first.1 past.1
            ]
            | inr other ↦ first.1 (sym (met_not j other) ∙ met)
          ],
        )

  pub past_all : (now : List TableValue) (i : ℕ) → length places ≤ i → IsPast from to inverted old (take i places) now
      → ((j : ℕ) → has (table_at old j).pins from ≡ true → has places j ≡ true) → now ≡ map (reading_past from to inverted) old
  past_all now i high h listed =
      ext_get_or no_table now (map (reading_past from to inverted) old) (h.count ∙ sym (length-map old (reading_past from to inverted)))
      (λ j below.
      elim (h.each j) [
        | inl stood ↦
            stood.0 ∙ sym (past_aside from to inverted (table_at old j)
            (unread_there (table_at old j).pins places from j (has (table_at old j).pins from) refl (listed j) (sym (ap (λ l. has l j) (take_all i places high)) ∙ stood.1)))
            ∙ sym (get_or-map (reading_past from to inverted) old j no_table no_table (omega (arith, below, h.count)))
        | inr past ↦ past.0 ∙ sym (get_or-map (reading_past from to inverted) old j no_table no_table (omega (arith, below, h.count)))
      ])

-- ---- lists of readers

pub listed_room : (tables : List TableValue) (lists : List (List ℕ)) (s : ℕ) → IsListed tables lists → is_read tables s ≡ true → s < length lists
listed_room tables lists s h r =
    let by : IsReadBy tables s = read-by tables s r in
    let listed : has (list_at lists s) by.place ≡ true = h.reader s by.place (Contains-has (table_at tables by.place).pins s by.pin) in
    elim (cases_lt s (length lists)) [
      | inl low ↦ low
      | inr high ↦ absurd (false≢true (sym (ap (λ l. has l by.place) (get_or_past lists s [] high)) ∙ listed))
    ]

pub listed_wider : (tables : List TableValue) (old new : List (List ℕ)) → IsListed tables old → IsWider old new → IsListed tables new
listed_wider tables old new h w = record { reader = λ s j e. w.keeps s j (h.reader s j e) }

or_tail : (a b : Bool) → b ≡ true → (a || b) ≡ true
or_tail true b f = refl
or_tail false b f = f

or_step : (a b c : Bool) → (b ≡ true → c ≡ true) → (a || b) ≡ true → (a || c) ≡ true
or_step true b c f g = refl
or_step false b c f g = f g

has-removed : (pins : List ℕ) (q s : ℕ) → has (remove pins q) s ≡ true → has pins s ≡ true
has-removed [] zero s e = e
has-removed [] (suc q) s e = e
has-removed (p ∷ pins) zero s e = or_tail (eqb s p) (has pins s) e
has-removed (p ∷ pins) (suc q) s e = or_step (eqb s p) (has (remove pins q) s) (has pins s) (has-removed pins q s) e

-- a pin is taken out
pub listed_removed : (tables : List TableValue) (lists : List (List ℕ)) (t q : ℕ) (element new : TableValue) → IsListed tables lists → t < length tables → element ≡ get_or tables t element
    → new ≡ without_pin q element → IsListed (set tables t new) lists
listed_removed tables lists t q element new h within at is = record {
  reader = λ s j e. elim (cases_eq j t) [
    | inl same ↦
        let now : has new.pins s ≡ true =
        ap (λ (u : TableValue). has u.pins s) (sym (get_or-set_same tables t new no_table within)) ∙ ap (λ k. has (table_at (set tables t new) k).pins s) (sym same) ∙ e in
        let before : has element.pins s ≡ true = has-removed element.pins q s (ap (λ (u : TableValue). has u.pins s) (sym is) ∙ now) in
        let stood : table_at tables j ≡ element = ap (table_at tables) same ∙ get_or_default tables t no_table element within ∙ sym at in
        h.reader s j (ap (λ (u : TableValue). has u.pins s) stood ∙ before)
    | inr other ↦ h.reader s j (ap (λ (u : TableValue). has u.pins s) (sym (get_or-set_other tables t j new no_table other)) ∙ e)
  ];
}

filter_at : (b : Bool) (x j : ℕ) (xs : List ℕ) → has xs j ≡ true → has (cond b (x ∷ xs) xs) j ≡ true
filter_at true x j xs e = or_tail (eqb j x) (has xs j) e
filter_at false x j xs e = e

has-filter : (p : ℕ → Bool) (xs : List ℕ) (j : ℕ) → has xs j ≡ true → p j ≡ true → has (filter p xs) j ≡ true
has-filter p [] j e f = e
has-filter p (x ∷ xs) j e f =
    elim (cases_eq j x) [
      | inl same ↦ ap (λ b. has (cond b (x ∷ filter p xs) (filter p xs)) j) (ap p (sym same) ∙ f) ∙ ap (λ b. b || has (filter p xs) j) (eq-eqb j x same)
      | inr other ↦ filter_at (p x) x j (filter p xs) (has-filter p xs j (sym (ap (λ b. b || has xs j) (ne_eqb j x other)) ∙ e) f)
    ]

-- one list is cut, and still holds the readers
listed_cut : (tables : List TableValue) (lists : List (List ℕ)) (s : ℕ) (new : List ℕ) → IsListed tables lists → s < length lists
    → ((j : ℕ) → has (list_at lists s) j ≡ true → has (table_at tables j).pins s ≡ true → has new j ≡ true) → IsListed tables (set lists s new)
listed_cut tables lists s new h room f = record {
  reader = λ u j e. elim (cases_eq u s) [
    | inl same ↦
        let reads : has (table_at tables j).pins s ≡ true = ap (has (table_at tables j).pins) (sym same) ∙ e in
        ap (λ k. has (list_at (set lists s new) k) j) same ∙ ap (λ l. has l j) (get_or-set_same lists s new [] room) ∙ f j (h.reader s j reads) reads
    | inr other ↦ ap (λ l. has l j) (get_or-set_other lists s u new [] other) ∙ h.reader u j e
  ];
}

pub listed_kept : (tables : List TableValue) (lists new : List (List ℕ)) (s : ℕ) → IsListed tables lists → s < length lists
    → new ≡ set lists s (filter (λ place. has (table_at tables place).pins s) (list_at lists s)) → IsListed tables new
listed_kept tables lists new s h room is =
    subst (IsListed tables) (sym is)
    (listed_cut tables lists s (filter (λ place. has (table_at tables place).pins s) (list_at lists s)) h room
    (λ j e reads. has-filter (λ place. has (table_at tables place).pins s) (list_at lists s) j e reads))

or_first : (a b : Bool) → b ≡ false → (a || (b || false)) ≡ true → a ≡ true
or_first true b f g = refl
or_first false true f g = absurd (false≢true (sym f))
or_first false false f g = g

has-front : (xs : List ℕ) (i j last : ℕ) → i + 1 ≡ length xs → last ≡ get_or xs i 0 → has xs j ≡ true → (j ≡ last → ⊥) → has (take i xs) j ≡ true
has-front xs i j last long is e other =
    let whole : has (take (i + 1) xs) j ≡ true = ap (λ l. has l j) (take_all (i + 1) xs (omega (arith, long))) ∙ e in
    let split = has_more xs i j 0 (omega (arith, long)) in
    or_first (has (take i xs) j) (eqb j (get_or xs i 0)) (ne_eqb j (get_or xs i 0) (λ f. other (f ∙ sym is))) (sym split ∙ whole)

-- the last that is listed does not read the signal
pub listed_popped : (tables : List TableValue) (lists new : List (List ℕ)) (s last i : ℕ) → IsListed tables lists → s < length lists → i + 1 ≡ length (list_at lists s)
    → last ≡ get_or (list_at lists s) i 0 → has (table_at tables last).pins s ≡ false → new ≡ set lists s (take (length (list_at lists s) - 1) (list_at lists s)) → IsListed tables new
listed_popped tables lists new s last i h room long is none made =
    subst (IsListed tables) (sym made)
    (listed_cut tables lists s (take (length (list_at lists s) - 1) (list_at lists s)) h room
    (λ j e reads.
    let place : length (list_at lists s) - 1 ≡ i = omega (arith, long) in
    ap (λ k. has (take k (list_at lists s)) j) place
    ∙ has-front (list_at lists s) i j last long is e (λ same. false≢true (sym none ∙ ap (λ k. has (table_at tables k).pins s) (sym same) ∙ reads))))

no_place : (xs : List ℕ) (j : ℕ) → length xs ≡ 0 → has xs j ≡ true → ⊥
no_place [] j e f = false≢true f
no_place (x ∷ xs) j e f = omega (arith, e)

none_read : (tables : List TableValue) (lists : List (List ℕ)) (s : ℕ) → IsListed tables lists → length (list_at lists s) ≡ 0 → (b : Bool) → is_read tables s ≡ b → is_read tables s ≡ false
none_read tables lists s h none true e =
    let by : IsReadBy tables s = read-by tables s e in
    absurd (no_place (list_at lists s) by.place none (h.reader s by.place (Contains-has (table_at tables by.place).pins s by.pin)))
none_read tables lists s h none false e = e

-- no place is listed any more
pub listed_none : (tables : List TableValue) (lists : List (List ℕ)) (s : ℕ) → IsListed tables lists → length (list_at lists s) ≡ 0 → is_read tables s ≡ false
listed_none tables lists s h none = none_read tables lists s h none (is_read tables s) refl

-- what reads past reads the other signal, or what it read before
record IsElsewhere (from to : ℕ) (pins : List ℕ) (s : ℕ) : Type 0 where
  pub other : s ≡ from → ⊥
  pub pin : (has pins s ≡ true) ⊎ ((s ≡ to) × (has pins from ≡ true))

elsewhere : (from to : ℕ) (pins : List ℕ) (s : ℕ) → (to ≡ from → ⊥) → has (map (redirect from to) pins) s ≡ true → IsElsewhere from to pins s
elsewhere from to pins s ne e =
    let image : IsImage (redirect from to) pins s = Contains-from_map (redirect from to) pins s (has-Contains (map (redirect from to) pins) s e) in
    elim (cases_eq image.of from) [
      | inl same ↦
          let is : s ≡ to = sym image.is ∙ ap (λ b. cond b to image.of) (eq-eqb image.of from same) in
          record { other = λ f. ne (sym is ∙ f); pin = inr (is, Contains-has pins from (subst (Contains pins) same image.inside)) }
      | inr other ↦
          let is : image.of ≡ s = sym (redirect-other from to image.of other) ∙ image.is in
          record { other = λ f. other (is ∙ f); pin = inl (Contains-has pins s (subst (Contains pins) is image.inside)) }
    ]

-- after a bypass
pub listed_past : (tables : List TableValue) (lists shared new : List (List ℕ)) (from to : ℕ) (inverted : Bool) → IsListed tables lists → from < length lists → to < length lists → (to ≡ from → ⊥)
    → shared ≡ set lists to (list_at lists to ++ list_at lists from) → new ≡ set shared from [] → IsListed (map (reading_past from to inverted) tables) new
listed_past tables lists shared new from to inverted h low room ne joined cleared = record {
  reader = λ s j e.
      elim (cases_lt j (length tables)) [
        | inl inside ↦
            let at : table_at (map (reading_past from to inverted) tables) j ≡ reading_past from to inverted (table_at tables j) =
            get_or-map (reading_past from to inverted) tables j no_table no_table inside in
            let past : IsElsewhere from to (table_at tables j).pins s = elsewhere from to (table_at tables j).pins s ne (ap (λ (u : TableValue). has u.pins s) (sym at) ∙ e) in
            ap (λ ls. has (list_at ls s) j) cleared ∙ ap (λ l. has l j) (get_or-set_other shared from s [] [] past.other)
            ∙ ap (λ ls. has (list_at ls s) j) joined
            ∙ elim past.pin [
              | inl before ↦
                  (wider_set lists to (list_at lists to ++ list_at lists from) room (λ k f. has-left (list_at lists to) (list_at lists from) k f)).keeps s j (h.reader s j before)
              | inr here ↦
                  ap (λ k. has (list_at (set lists to (list_at lists to ++ list_at lists from)) k) j) here.0
                  ∙ ap (λ l. has l j) (get_or-set_same lists to (list_at lists to ++ list_at lists from) [] room)
                  ∙ has-right (list_at lists to) (list_at lists from) j (h.reader from j here.1)
            ]
        | inr outside ↦
            let none : table_at (map (reading_past from to inverted) tables) j ≡ no_table =
            get_or_past (map (reading_past from to inverted) tables) j no_table (omega (arith, outside, length-map tables (reading_past from to inverted))) in
            absurd (false≢true (sym (ap (λ (u : TableValue). has u.pins s) none) ∙ e))
      ];
}

pub last_room : (lists : List (List ℕ)) (s : ℕ) → 0 < length (list_at lists s) → s < length lists
last_room lists s some =
    elim (cases_lt s (length lists)) [
      | inl low ↦ low
      | inr high ↦ absurd (omega (arith, some, ap length (get_or_past lists s [] high)))
    ]

-- ---- the readers, by the terms of the code

pub read_room : (tables value : List TableValue) (lists : List (List ℕ)) (s : ℕ) → IsListed tables lists → tables ≡ value → is_read value s ≡ true → s < length lists
read_room tables value lists s h same r = listed_room tables lists s h (ap (λ ts. is_read ts s) same ∙ r)

pub kept_room : (lists new : List (List ℕ)) (s u : ℕ) (cut : List ℕ) → u < length lists → new ≡ set lists s cut → u < length new
kept_room lists new s u cut room is = omega (arith, room, ap length is, length-set lists s cut)

pub listed_kept_in : (tables value seen : List TableValue) (lists new : List (List ℕ)) (s : ℕ) → IsListed tables lists → tables ≡ value → is_read value s ≡ true → seen ≡ tables
    → new ≡ set lists s (filter (λ place. has (table_at seen place).pins s) (list_at lists s)) → IsListed tables new
listed_kept_in tables value seen lists new s h same r all is =
    listed_kept tables lists new s h (read_room tables value lists s h same r) (is ∙ ap (λ ts. set lists s (filter (λ place. has (table_at ts place).pins s) (list_at lists s))) all)

pub listed_shared_in : (tables value seen after : List TableValue) (lists kept shared : List (List ℕ)) (found : List ℕ) (from to : ℕ) → IsListed tables lists → tables ≡ value
    → is_read value from ≡ true → is_read value to ≡ true → seen ≡ tables
    → kept ≡ set lists from (filter (λ place. has (table_at seen place).pins from) (list_at lists from)) → shared ≡ set kept to (list_at kept to ++ list_at kept from)
    → after ≡ tables → found ≡ list_at shared from → (j : ℕ) → has (table_at after j).pins from ≡ true → has found j ≡ true
listed_shared_in tables value seen after lists kept shared found from to h same r q all cut joined still is j e =
    let first : IsListed tables kept = listed_kept_in tables value seen lists kept from h same r all cut in
    let room : to < length kept = kept_room lists kept from to (filter (λ place. has (table_at seen place).pins from) (list_at lists from)) (read_room tables value lists to h same q) cut in
    let second : IsListed tables shared =
    listed_wider tables kept shared first
    (subst (IsWider kept) (sym joined) (wider_set kept to (list_at kept to ++ list_at kept from) room (λ k f. has-left (list_at kept to) (list_at kept from) k f))) in
    ap (λ l. has l j) is ∙ second.reader from j (ap (λ ts. has (table_at ts j).pins from) (sym still) ∙ e)
