use Rattle.std.proofs.Common.{◌≡◌, ◌<◌, ◌/◌, ◌∙◌, ℕ, Bool, List, [], All, length, get_or, ap, sym, subst, arith}
use Rattle.lane_bits.specs.Patterns.{PatternSet, vector_at, vectors_in}
use Rattle.lane_bits.specs.Store.{AreRowsOf}
use Rattle.lane_bits.proofs.Store.{length-vectors_in, vector-at, room_at, all_rows}
use Rattle.lane_bits.proofs.patterns.Patterns.get.Goals as goal

module _ (inputs count : ℕ) (rows here : List (List ℕ)) (set : PatternSet) (h : AreRowsOf inputs count rows)
    (is : ◌≡◌ {A = PatternSet} (record { inputs = inputs; vectors = vectors_in rows count }) set) (same : here ≡ rows) (p : ℕ) (within : p < length set.vectors) where
  below : p < count
  below = omega (arith, length-vectors_in rows count, ap (λ s. length s.vectors) is)

  width : (x : List Bool) → length x ≡ set.inputs → length x ≡ length here
  width x e = omega (arith, e, ap (λ s. s.inputs) is, all_rows inputs count rows h p below, ap length same)

  room : All (λ row. p / 64 < length row) here
  room = subst (All (λ row. p / 64 < length row)) (sym same) (room_at inputs count rows h p below)

  vector : (x : List Bool) → x ≡ vector_at here p → x ≡ get_or set.vectors p []
  vector x e = e ∙ ap (λ r. vector_at r p) same ∙ sym (vector-at rows count p below) ∙ ap (λ s. get_or s.vectors p []) is

pub get_bits-requires-clause-width : goal.get_bits-requires-clause-width
get_bits-requires-clause-width c =
    width c.self.inside.inputs c.self.inside.count c.self.inside.rows.items c.deref.result.now c.args.self.now c.self.invariant c.self.view_is c.deref.ensures.value c.args.i c.requires.within
    c.args.x.now c.requires.width

pub get_bits-requires-clause-room : goal.get_bits-requires-clause-room
get_bits-requires-clause-room c =
    room c.self.inside.inputs c.self.inside.count c.self.inside.rows.items c.deref.result.now c.args.self.now c.self.invariant c.self.view_is c.deref.ensures.value c.args.i c.requires.within

pub returns : goal.returns
returns c =
    vector c.self.inside.inputs c.self.inside.count c.self.inside.rows.items c.deref.result.now c.args.self.now c.self.invariant c.self.view_is c.deref.ensures.value c.args.i c.requires.within
    c.get_bits.new.x c.get_bits.ensures
