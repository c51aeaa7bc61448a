use Rattle.std.proofs.Common.{◌≡◌, ℕ, ◌+◌, ◌*◌, ◌<◌, slice_index, inl, inr, ◌∙◌, subst, arith}
use Rattle.std.proofs.lemmas.Bool.{cases_lt}
use Rattle.mls_field.proofs.Walks.{apart_rows}
use Rattle.mls_field.proofs.ends.clear_ends.Goals as goal

before_row : (r q places place : ℕ) → r < q → place < places → r * places + place < q * places
before_row r q places place h here = omega (arith, apart_rows r q places place 0 h here)

pub loop-plane-preserved : goal.loop-plane-preserved
loop-plane-preserved c =
    let q = c.loop-plane.plane in
    let places = c.args.places in
    let first = c.fill_column.ensures in
    let second = c.fill_column-in-loop-plane.ensures in
    record {
      least = λ plane place below here. elim (cases_lt plane q) [
        | inl low ↦ second.before _ (before_row (plane * 2) (q * 2 + 1) places place (omega (arith, low)) here) ∙ (first.before _ (before_row (plane * 2) (q * 2) places place (omega (arith, low)) here) ∙ c.loop-plane.invariant.least plane place low here)
        | inr not ↦ subst (λ (p : ℕ). slice_index c.fill_column-in-loop-plane.new.ends (p * 2 * places + place) ≡ 65535) (let e : q ≡ plane = omega (arith, below, not) in e) (second.before _ (before_row (q * 2) (q * 2 + 1) places place (omega arith) here) ∙ first.there place here)
      ];
      greatest = λ plane place below here. elim (cases_lt plane q) [
        | inl low ↦ second.before _ (before_row (plane * 2 + 1) (q * 2 + 1) places place (omega (arith, low)) here) ∙ (first.before _ (before_row (plane * 2 + 1) (q * 2) places place (omega (arith, low)) here) ∙ c.loop-plane.invariant.greatest plane place low here)
        | inr not ↦ subst (λ (p : ℕ). slice_index c.fill_column-in-loop-plane.new.ends ((p * 2 + 1) * places + place) ≡ 0) (let e : q ≡ plane = omega (arith, below, not) in e) (second.there place here)
      ];
    }
