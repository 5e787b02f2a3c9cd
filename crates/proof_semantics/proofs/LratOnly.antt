-- Words that are matched to the end of an item spell items.
use Rattle.std.proofs.Common.{◌≡◌, ℕ, zero, suc, ◌^◌, ◌==◌, ◌<◌, ◌⊎◌, inl, inr, List, [], ◌∷◌, ◌++◌, ◌&&◌, map, flat_map, true, false, Bool, refl, ap, sym, ◌∙◌, append_assoc, append-nil, arith}
use Rattle.std.specs.Prelude.{ℤ, if◌then◌else◌, nat_lt}
use Rattle.std.proofs.lemmas.Bool.{lt-ltb, ltb-true}
use Rattle.std.proofs.Math.Dec.{eqb-suc-zero}
use Rattle.proof_semantics.specs.declared.item.Item.TheVariants.{Add, Remove}
use Rattle.proof_semantics.specs.declared.lrat_refusal.LratRefusal.TheVariants.{Negative}
use Rattle.proof_semantics.specs.declared.lrat_word.LratWord.{LratWord}
use Rattle.proof_semantics.specs.declared.lrat_word.LratWord.TheVariants.{Letter, Number, Malformed}
use Rattle.proof_semantics.specs.Logs.{LogItem}
use Rattle.proof_semantics.specs.LratTokens.{Token, token_word}
use Rattle.proof_semantics.specs.LratMatching.{Stage, Outside, Begun, Literals, Hints, Deletion, Refused, signed, bad_number, stage_after, item_given, after_literals, stage_after_all, items_given}
use Rattle.proof_semantics.specs.LratGrammar.{SignedNumber, signed_word, plain_word, SpelledItem, addition, deletion, item_words, spelled_item, literal_of, AreLiteralSizes, ArePositive, AreSpelled}
use Rattle.proof_semantics.specs.LratGrammar.{token_words}

-- tokens whose words spell items, and that give these items
pub record Reads (ts : List Token) : Type 0 where
  pub items : List SpelledItem
  pub are_spelled : AreSpelled items
  pub words_are : token_words ts ≡ flat_map item_words items
  pub items_are : items_given Outside ts ≡ map spelled_item items

abbrev later_words : List SpelledItem → List LratWord
later_words items = flat_map item_words items

record Hinted (id : ℕ) (literals : List ℤ) (acc : List ℕ) (ts : List Token) : Type 0 where
  hints : List ℕ
  last_end : Bool
  items : List SpelledItem
  positive : ArePositive hints
  later : AreSpelled items
  words_are : token_words ts ≡ map plain_word hints ++ (Number last_end 0 ∷ later_words items)
  items_are : items_given (Hints id literals acc) ts ≡ Add (record { id = id; literals = literals; hints = acc ++ hints }) ∷ map spelled_item items

record Removed (acc : List ℕ) (ts : List Token) : Type 0 where
  ids : List ℕ
  last_end : Bool
  items : List SpelledItem
  positive : ArePositive ids
  later : AreSpelled items
  words_are : token_words ts ≡ map plain_word ids ++ (Number last_end 0 ∷ later_words items)
  items_are : items_given (Deletion acc) ts ≡ Remove (acc ++ ids) ∷ map spelled_item items

record Added (st : Stage) (id : ℕ) (acc : List ℤ) (ts : List Token) : Type 0 where
  literals : List SignedNumber
  first_end : Bool
  hints : List ℕ
  last_end : Bool
  items : List SpelledItem
  sizes : AreLiteralSizes literals
  positive : ArePositive hints
  later : AreSpelled items
  words_are : token_words ts ≡ map signed_word literals ++ (Number first_end 0 ∷ (map plain_word hints ++ (Number last_end 0 ∷ later_words items)))
  items_are : items_given st ts ≡ Add (record { id = id; literals = acc ++ map literal_of literals; hints = hints }) ∷ map spelled_item items

record Deleted (id : ℕ) (ts : List Token) : Type 0 where
  ids : List ℕ
  last_end : Bool
  items : List SpelledItem
  positive : ArePositive ids
  later : AreSpelled items
  words_are : token_words ts ≡ Letter ∷ (map plain_word ids ++ (Number last_end 0 ∷ later_words items))
  items_are : items_given (Begun id) ts ≡ Remove ids ∷ map spelled_item items

abbrev Sound : Stage → List Token → Type 0
Sound Outside ts = Reads ts
Sound (Begun id) ts = Deleted id ts ⊎ ((0 < id) × Added (Begun id) id [] ts)
Sound (Literals id acc) ts = Added (Literals id acc) id acc ts
Sound (Hints id literals hints) ts = Hinted id literals hints ts
Sound (Deletion acc) ts = Removed acc ts
Sound (Refused refusal) ts = ⊥

took : (st next : Stage) (t : Token) (ts : List Token) (w : LratWord) (items : List LogItem) → token_word t.bytes ≡ w → stage_after st w t.place ≡ next → item_given st w ≡ items
    → items_given st (t ∷ ts) ≡ items ++ items_given next ts
took st next t ts w items h s g =
    let m : stage_after st (token_word t.bytes) t.place ≡ next = ap (λ (u : LratWord). stage_after st u t.place) h ∙ s in
    ap (λ (xs : List LogItem). xs ++ items_given (stage_after st (token_word t.bytes) t.place) ts) (ap (item_given st) h ∙ g) ∙ ap (λ (u : Stage). items ++ items_given u ts) m

said : (t : Token) (ts : List Token) (w : LratWord) (ws : List LratWord) → token_word t.bytes ≡ w → token_words ts ≡ ws → token_words (t ∷ ts) ≡ w ∷ ws
said t ts w ws h e = cc

zero_from : (n : ℕ) → (n == 0) ≡ true → n ≡ 0
zero_from zero e = refl
zero_from (suc n) e = let f = eqb-suc-zero n in cc

positive_from : (n : ℕ) → (n == 0) ≡ false → 0 < n
positive_from zero e = cc
positive_from (suc n) e = omega arith

hints_number : (id : ℕ) (literals : List ℤ) (acc : List ℕ) (t : Token) (ts : List Token) (negative : Bool) (size : ℕ) → token_word t.bytes ≡ Number negative size → (b : Bool) → (size == 0) ≡ b
    → Sound (if b then Outside else (if negative then Refused (Negative id) else Hints id literals (acc ++ size ∷ []))) ts → Hinted id literals acc (t ∷ ts)
hints_number id literals acc t ts negative size h true b r =
    let st : Stage = Hints id literals acc in
    let k : Number negative size ≡ Number negative 0 = ap (λ n. Number negative n) (zero_from size b) in
    record {
      hints = [];
      last_end = negative;
      items = r.items;
      positive = tt;
      later = r.are_spelled;
      words_are = said t ts (Number negative 0) (later_words r.items) (h ∙ k) r.words_are;
      items_are = took st Outside t ts (Number negative 0) (Add (record { id = id; literals = literals; hints = acc }) ∷ []) (h ∙ k) refl refl ∙ rw (r.items_are, append-nil acc) refl;
    }
hints_number id literals acc t ts true size h false b r = absurd r
hints_number id literals acc t ts false size h false b r =
    let st : Stage = Hints id literals acc in
    let next : Stage = Hints id literals (acc ++ size ∷ []) in
    record {
      hints = size ∷ r.hints;
      last_end = r.last_end;
      items = r.items;
      positive = (positive_from size b, r.positive);
      later = r.later;
      words_are = said t ts (Number false size) _ h r.words_are;
      items_are = took st next t ts (Number false size) [] h (rw b refl) (rw b refl) ∙ r.items_are ∙ rw (append_assoc acc (size ∷ []) r.hints) refl;
    }

ids_number : (acc : List ℕ) (t : Token) (ts : List Token) (negative : Bool) (size : ℕ) → token_word t.bytes ≡ Number negative size → (b : Bool) → (size == 0) ≡ b
    → Sound (if b then Outside else (if negative then bad_number t.place else Deletion (acc ++ size ∷ []))) ts → Removed acc (t ∷ ts)
ids_number acc t ts negative size h true b r =
    let k : Number negative size ≡ Number negative 0 = ap (λ n. Number negative n) (zero_from size b) in
    record {
      ids = [];
      last_end = negative;
      items = r.items;
      positive = tt;
      later = r.are_spelled;
      words_are = said t ts (Number negative 0) (later_words r.items) (h ∙ k) r.words_are;
      items_are = took (Deletion acc) Outside t ts (Number negative 0) (Remove acc ∷ []) (h ∙ k) refl refl ∙ rw (r.items_are, append-nil acc) refl;
    }
ids_number acc t ts true size h false b r = absurd r
ids_number acc t ts false size h false b r =
    record {
      ids = size ∷ r.ids;
      last_end = r.last_end;
      items = r.items;
      positive = (positive_from size b, r.positive);
      later = r.later;
      words_are = said t ts (Number false size) _ h r.words_are;
      items_are = took (Deletion acc) (Deletion (acc ++ size ∷ [])) t ts (Number false size) [] h (rw b refl) (rw b refl) ∙ r.items_are ∙ rw (append_assoc acc (size ∷ []) r.ids) refl;
    }

-- a number after the literals so far, from a stage that takes it as they do
literals_number : (st : Stage) (id : ℕ) (acc : List ℤ) (t : Token) (ts : List Token) (negative : Bool) (size : ℕ) → token_word t.bytes ≡ Number negative size
    → stage_after st (Number negative size) t.place ≡ after_literals id acc (Number negative size) t.place → item_given st (Number negative size) ≡ [] → (b l : Bool) → (size == 0) ≡ b
    → nat_lt size (2 ^ 31) ≡ l → Sound (if b then Hints id acc [] else (if l then Literals id (acc ++ signed negative size ∷ []) else bad_number t.place)) ts → Added st id acc (t ∷ ts)
literals_number st id acc t ts negative size h s g true l b m r =
    let k : Number negative size ≡ Number negative 0 = ap (λ n. Number negative n) (zero_from size b) in
    record {
      literals = [];
      first_end = negative;
      hints = r.hints;
      last_end = r.last_end;
      items = r.items;
      sizes = tt;
      positive = r.positive;
      later = r.later;
      words_are = said t ts (Number negative 0) _ (h ∙ k) r.words_are;
      items_are = took st (Hints id acc []) t ts (Number negative size) [] h (s ∙ rw b refl) g ∙ r.items_are ∙ rw (append-nil acc) refl;
    }
literals_number st id acc t ts negative size h s g false false b m r = absurd r
literals_number st id acc t ts negative size h s g false true b m r =
    let v = signed negative size in
    record {
      literals = record { negative = negative; size = size } ∷ r.literals;
      first_end = r.first_end;
      hints = r.hints;
      last_end = r.last_end;
      items = r.items;
      sizes = (positive_from size b, ltb-true size (2 ^ 31) m, r.sizes);
      positive = r.positive;
      later = r.later;
      words_are = said t ts (Number negative size) _ h r.words_are;
      items_are = took st (Literals id (acc ++ v ∷ [])) t ts (Number negative size) [] h (s ∙ rw (b, m) refl) g ∙ r.items_are ∙ rw (append_assoc acc (v ∷ []) (map literal_of r.literals)) refl;
    }

begun_number : (id : ℕ) (t : Token) (ts : List Token) (negative : Bool) (size : ℕ) → token_word t.bytes ≡ Number negative size → (c : Bool) → (id == 0) ≡ c
    → Sound (if c then bad_number t.place else after_literals id [] (Number negative size) t.place) ts → (0 < id) × Added (Begun id) id [] (t ∷ ts)
begun_number id t ts negative size h true c r = absurd r
begun_number id t ts negative size h false c r = (positive_from id c, literals_number (Begun id) id [] t ts negative size h (rw c refl) refl (size == 0) (nat_lt size (2 ^ 31)) refl refl r)

begun_other : (id : ℕ) (place : ℕ) (ts : List Token) (c : Bool) → Sound (if c then bad_number place else bad_number place) ts → ⊥
begun_other id place ts true r = r
begun_other id place ts false r = r

outside_deleted : (negative : Bool) (size : ℕ) (t : Token) (ts : List Token) → token_word t.bytes ≡ Number negative size → (negative && nat_lt 0 size) ≡ false → Deleted size ts → Reads (t ∷ ts)
outside_deleted negative size t ts h b r =
    let lead : SignedNumber = record { negative = negative; size = size } in
    record {
      items = deletion lead r.ids r.last_end ∷ r.items;
      are_spelled = ((b, r.positive), r.later);
      words_are = said t ts (Number negative size) _ h r.words_are ∙ sym
          (ap (λ (ws : List LratWord). signed_word lead ∷ (Letter ∷ ws)) (append_assoc (map plain_word r.ids) (Number r.last_end 0 ∷ []) (later_words r.items)));
      items_are = took Outside (Begun size) t ts (Number negative size) [] h (rw b refl) refl ∙ r.items_are;
    }

outside_added : (negative : Bool) (size : ℕ) (t : Token) (ts : List Token) → token_word t.bytes ≡ Number negative size → (negative && nat_lt 0 size) ≡ false → 0 < size → Added (Begun size) size [] ts
    → Reads (t ∷ ts)
outside_added true size t ts h b p r = let f = lt-ltb 0 size p in cc
outside_added false size t ts h b p r =
    record {
      items = addition size r.literals r.first_end r.hints r.last_end ∷ r.items;
      are_spelled = ((p, r.sizes, r.positive), r.later);
      words_are = said t ts (Number false size) _ h r.words_are ∙ sym
          (ap (λ (ws : List LratWord). Number false size ∷ ws)
          (append_assoc (map signed_word r.literals) (Number r.first_end 0 ∷ (map plain_word r.hints ++ Number r.last_end 0 ∷ [])) (later_words r.items) ∙ ap
          (λ (ws : List LratWord). map signed_word r.literals ++ (Number r.first_end 0 ∷ ws)) (append_assoc (map plain_word r.hints) (Number r.last_end 0 ∷ []) (later_words r.items))));
      items_are = took Outside (Begun size) t ts (Number false size) [] h refl refl ∙ r.items_are;
    }

outside_number : (negative : Bool) (size : ℕ) (t : Token) (ts : List Token) → token_word t.bytes ≡ Number negative size → (b : Bool) → (negative && nat_lt 0 size) ≡ b
    → Sound (if b then bad_number t.place else Begun size) ts → Reads (t ∷ ts)
outside_number negative size t ts h true b r = absurd r
outside_number negative size t ts h false b (inl r) = outside_deleted negative size t ts h b r
outside_number negative size t ts h false b (inr r) = outside_added negative size t ts h b r.0 r.1

sound_step : (t : Token) (ts : List Token) (st : Stage) (w : LratWord) → token_word t.bytes ≡ w → Sound (stage_after st w t.place) ts → Sound st (t ∷ ts)
sound_step t ts Outside (Number negative size) h r = outside_number negative size t ts h (negative && nat_lt 0 size) refl r
sound_step t ts Outside Letter h r = absurd r
sound_step t ts Outside Malformed h r = absurd r
sound_step t ts (Begun id) (Number negative size) h r = inr (begun_number id t ts negative size h (id == 0) refl r)
sound_step t ts (Begun id) Letter h r = inl (record {
  ids = r.ids;
  last_end = r.last_end;
  items = r.items;
  positive = r.positive;
  later = r.later;
  words_are = said t ts Letter _ h r.words_are;
  items_are = took (Begun id) (Deletion []) t ts Letter [] h refl refl ∙ r.items_are;
})
sound_step t ts (Begun id) Malformed h r = absurd (begun_other id t.place ts (id == 0) r)
sound_step t ts (Literals id acc) (Number negative size) h r = literals_number (Literals id acc) id acc t ts negative size h refl refl (size == 0) (nat_lt size (2 ^ 31)) refl refl r
sound_step t ts (Literals id acc) Letter h r = absurd r
sound_step t ts (Literals id acc) Malformed h r = absurd r
sound_step t ts (Hints id literals hints) (Number negative size) h r = hints_number id literals hints t ts negative size h (size == 0) refl r
sound_step t ts (Hints id literals hints) Letter h r = absurd r
sound_step t ts (Hints id literals hints) Malformed h r = absurd r
sound_step t ts (Deletion acc) (Number negative size) h r = ids_number acc t ts negative size h (size == 0) refl r
sound_step t ts (Deletion acc) Letter h r = absurd r
sound_step t ts (Deletion acc) Malformed h r = absurd r
sound_step t ts (Refused refusal) w h r = r

sound_nil : (st : Stage) → st ≡ Outside → Sound st []
sound_nil Outside e = record { items = []; are_spelled = tt; words_are = refl; items_are = refl }
sound_nil (Begun id) e = cc
sound_nil (Literals id acc) e = cc
sound_nil (Hints id literals hints) e = cc
sound_nil (Deletion acc) e = cc
sound_nil (Refused refusal) e = cc

sound : (ts : List Token) (st : Stage) → stage_after_all st ts ≡ Outside → Sound st ts
sound [] st e = sound_nil st e
sound (t ∷ ts) st e = sound_step t ts st (token_word t.bytes) refl (sound ts (stage_after st (token_word t.bytes) t.place) e)

pub only : (ts : List Token) → stage_after_all Outside ts ≡ Outside → Reads ts
only ts e = sound ts Outside e
