-- A piece that was gathered is told.
use Rattle.std.proofs.Common.{length}
use Rattle.std.specs.Io.Buffered.{writer_inner}
use Rattle.std.proofs.Math.Seq.{take-length}
use Rattle.mls_cli.proofs.Gathered.{told_more}
use Rattle.mls_cli.proofs.output.BufferedSinkSink.write.Goals as goal

pub returns-in-Ok-clause-written : goal.returns-in-Ok-clause-written
returns-in-Ok-clause-written g c =
    told_more g.W.Write.contents c.args.self.now.out c.write_all.new.self c.args.self.now.faults (length c.args.piece.now) c.args.piece.now
    (g.met.W.SteadyWriter.steady (writer_inner c.args.self.now.out) (writer_inner c.write_all.new.self)) c.in-Ok.ensures.bytes (take-length c.args.piece.now)
