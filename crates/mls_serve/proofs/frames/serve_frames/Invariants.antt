use Rattle.std.proofs.Common.{◌≡◌, ◌+◌, ◌*◌, ◌-◌, ◌≤◌, length}
use Rattle.mls_serve.specs.Readings.{most_bytes}
use Rattle.mls_serve.proofs.Steps.{SoFar}
use Rattle.mls_serve.proofs.frames.serve_frames.Given as goal

abbrev pub invariant-loop-events : goal.invariant-loop-events
invariant-loop-events g l = record {
  so_far : SoFar l.seat.rank l.seat.lane l.head l.events l.fn.feeder.rest
      (record { told = g.L.Link.told l.fn.link; faults = g.L.Link.faults l.fn.link; posts = g.P.Post.told l.fn.post; fed = l.fn.feeder })
      (record { told = g.L.Link.told l.link; faults = g.L.Link.faults l.link; posts = g.P.Post.told l.post; fed = l.feeder });
  few : l.feeder.offset + length l.feeder.rest ≤ l.head + most_bytes;
  enough : 5 * l.events + l.head ≤ l.feeder.offset;
  faults : g.P.Post.faults l.post ≡ g.P.Post.faults l.fn.post;
  ranks : g.P.Post.ranks l.post ≡ g.P.Post.ranks l.fn.post;
  lanes : g.P.Post.lanes l.post ≡ g.P.Post.lanes l.fn.post;
}

abbrev pub decreases-loop-events : goal.decreases-loop-events
decreases-loop-events g l = 2 * ((l.head + most_bytes) - (l.feeder.offset + length l.feeder.rest)) + length l.feeder.rest
