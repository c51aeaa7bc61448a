use Rattle.std.proofs.Common.{◌≡◌, ℕ, ◌+◌, ◌*◌, ◌<◌, slice_index}
use Rattle.mls_field.proofs.ends.clear_ends.Given as goal

abbrev pub invariant-loop-plane : goal.invariant-loop-plane
invariant-loop-plane l = record {
  least : (plane place : ℕ) → plane < l.plane → place < l.places → slice_index l.ends ((plane * 2) * l.places + place) ≡ 65535;
  greatest : (plane place : ℕ) → plane < l.plane → place < l.places → slice_index l.ends ((plane * 2 + 1) * l.places + place) ≡ 0;
}
