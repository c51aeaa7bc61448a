use Rattle.std.proofs.Common.{ap, ◌∙◌}
use Rattle.mls_model.specs.ResultText.{rank_line, rank_lines}
use Rattle.mls_text.proofs.Writing.{line_out, line_failed, failed_writes}
use Rattle.mls_result.proofs.RankLines.{rank_more, rank_failed, ranks_all}
use Rattle.mls_result.proofs.ranks.put_ranks.Goals as goal

pub returns-in_err-put : goal.returns-in_err-put
unfolding rank_lines
returns-in_err-put g c =
    let same = c.rank_counts.ensures ∙ ap g.C.HasCounts.kept c.index-ranks-rank.is in
    let line = c.rank_line.ensures ∙ ap (λ n. rank_line c.loop-rank.rank n) same in
    failed_writes _ _ _ _ _ c.from_residual.ensures.1
    (rank_failed g.C.HasCounts.kept c.loop-rank.rank c.args.ranks.now c.index-ranks-rank.result _ _ _ _ c.loop-rank-test.true c.loop-rank.invariant (line_failed _ _ _ _ line c.in_err-put.ensures))

pub loop-rank-preserved : goal.loop-rank-preserved
loop-rank-preserved g c =
    let same = c.rank_counts.ensures ∙ ap g.C.HasCounts.kept c.index-ranks-rank.is in
    let line = c.rank_line.ensures ∙ ap (λ n. rank_line c.loop-rank.rank n) same in
    rank_more g.C.HasCounts.kept c.loop-rank.rank c.args.ranks.now c.index-ranks-rank.result _ _ _ _ c.loop-rank-test.true c.loop-rank.invariant (line_out _ _ _ _ line c.in_ok-put.ensures)

pub returns : goal.returns
unfolding rank_lines
returns g c = ranks_all g.C.HasCounts.kept c.loop-rank.rank c.args.ranks.now _ _ _ c.loop-rank-test.false c.loop-rank.invariant
