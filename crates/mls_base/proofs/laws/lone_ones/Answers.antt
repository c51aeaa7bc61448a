use Rattle.std.proofs.Common.{ap, ◌∙◌}
use Rattle.mls_model.specs.Blocks.{nth_span, meet, block}
use Rattle.mls_base.proofs.Spans.{span_of_one, meet_mesh, span_ordered, span_end}
use Rattle.mls_base.proofs.laws.lone_ones.Goals as goal

pub returns : goal.returns
returns c = record {
  rank = λ s one. ap (λ n. nth_span s.cells n 0) one ∙ span_of_one s.cells;
  client = λ s sizes one rank within.
      ap (λ n. meet (block s rank) (nth_span s.cells n 0)) one
      ∙ ap (λ mesh. meet (block s rank) mesh) (span_of_one s.cells)
      ∙ meet_mesh s.cells (block s rank) (span_ordered s.cells s.ranks rank sizes.some_ranks) (span_end s.cells s.ranks rank sizes.some_ranks within);
}
