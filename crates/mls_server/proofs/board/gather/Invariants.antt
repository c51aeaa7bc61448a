use Rattle.std.proofs.Common.{◌≡◌, ◌+◌, ◌≤◌, vec_len, vec_capacity}
use Rattle.mls_server.specs.Lines.{AreLines}
use Rattle.mls_server.proofs.board.gather.Given as goal

abbrev pub invariant-loop-at : goal.invariant-loop-at
invariant-loop-at l =
    AreLines l.ranks (l.ranks + l.at) l.lines.items
    × (vec_len l.lines ≤ l.at)
    × (vec_capacity l.lines ≡ vec_capacity l.fn.lines)
