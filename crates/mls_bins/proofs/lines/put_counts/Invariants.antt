use Rattle.std.proofs.Common.{◌*◌, drop}
use Rattle.std.specs.List.{flat_map, enumerate_from}
use Rattle.mls_text.specs.Writing.{sink_seen}
use Rattle.mls_text.proofs.Writing.{IsFrontOut}
use Rattle.mls_bins.specs.Words.{words_of}
use Rattle.mls_bins.proofs.lines.put_counts.Given as goal

abbrev pub invariant-loop-part : goal.invariant-loop-part
invariant-loop-part g l = IsFrontOut (flat_map words_of (drop (16 * l.part) (enumerate_from 0 l.counts))) (flat_map words_of (enumerate_from 0 l.counts)) (sink_seen g.O.Sink.told g.O.Sink.faults g.O.Sink.sure l.fn.out) (sink_seen g.O.Sink.told g.O.Sink.faults g.O.Sink.sure l.out)
