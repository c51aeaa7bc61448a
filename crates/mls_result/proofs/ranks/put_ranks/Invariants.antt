use Rattle.std.proofs.Common.{drop, map}
use Rattle.std.specs.List.{flat_map, enumerate_from}
use Rattle.mls_text.specs.Writing.{sink_seen}
use Rattle.mls_text.proofs.Writing.{IsFrontOut}
use Rattle.mls_result.proofs.RankLines.{line_of_rank}
use Rattle.mls_result.proofs.ranks.put_ranks.Given as goal

abbrev pub invariant-loop-rank : goal.invariant-loop-rank
invariant-loop-rank g l = IsFrontOut (flat_map line_of_rank (drop l.rank (enumerate_from 0 (map g.C.HasCounts.kept l.ranks)))) (flat_map line_of_rank (enumerate_from 0 (map g.C.HasCounts.kept l.ranks))) (sink_seen g.O.Sink.told g.O.Sink.faults g.O.Sink.sure l.fn.out) (sink_seen g.O.Sink.told g.O.Sink.faults g.O.Sink.sure l.out)
