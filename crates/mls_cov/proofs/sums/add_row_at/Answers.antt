use Rattle.std.proofs.Common.{◌≡◌, ℕ, ◌+◌, ◌*◌, ◌<◌, ◌≤◌, List, slice_index, arith}
use Rattle.mls_cov.specs.Steps.{Grew}
use Rattle.mls_cov.proofs.Bounds.{AddsRow, space_from_room, rules_more}
use Rattle.mls_cov.proofs.Rows.{holds_more}
use Rattle.mls_cov.proofs.sums.add_row_at.Goals as goal
use Rattle.mls_cov.proofs.sums.add_row_at.Goals.{After-add_samples}

-- the row's first two samples
at_places : (p at stride : ℕ) (old new samples : List ℕ) → ((i : ℕ) → slice_index samples i ≤ 65535) → (let a = slice_index samples at in let b = slice_index samples (at + stride) in Grew 0 old new a b (a * a) (b * b)) → ((k : ℕ) → k < p → let a = slice_index samples at in let b = slice_index samples (at + stride) in let c = slice_index samples (at + stride * (2 + k)) in Grew (4 + 4 * k) old new c (c * c) (a * c) (b * c)) → AddsRow p old new (λ j. slice_index samples (at + stride * j))
at_places p at stride old new samples small outputs columns =
    let first : at + stride * 0 ≡ at = omega arith in
    let second : at + stride * 1 ≡ at + stride = omega arith in
    record {
      samples = λ j. small (at + stride * j);
      outputs = rw (first, second) outputs;
      columns = λ k in_p. rw (first, second) (columns k in_p);
    }

added : (c : After-add_samples) → AddsRow c.args.parameters c.args.sums.now c.add_samples.new.sums (λ j. slice_index c.args.samples.now (c.args.at + c.args.stride * j))
added c = at_places c.args.parameters c.args.at c.args.stride _ _ c.args.samples.now (λ i. omega (arith, c.type_inv.samples i)) c.add_samples.ensures.outputs c.add_samples.ensures.columns

pub add_samples-requires-clause-space : goal.add_samples-requires-clause-space
add_samples-requires-clause-space c = space_from_room _ _ c.requires.room

pub returns-clause-rules : goal.returns-clause-rules
returns-clause-rules c = λ n h. rules_more n c.args.parameters _ _ _ (added (goal.at.returns-clause-rules c).After-add_samples) h

pub returns-clause-adds : goal.returns-clause-adds
returns-clause-adds c = λ row long same rows h. holds_more c.args.parameters _ _ _ row rows (added (goal.at.returns-clause-adds c).After-add_samples) long same h
