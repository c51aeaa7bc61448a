use Rattle.std.proofs.Common.{true, sym, ◌∙◌}
use Rattle.mls_ledger.specs.MarkSets.{is_marked, marked}
use Rattle.mls_frame.specs.Views.{piece_of}
use Rattle.mls_rank.proofs.Keeping.{keeps_unchanged, mark_at}
use Rattle.mls_rank.proofs.Waiting.{replay_outcome, replay_incomplete, waits_replay}
use Rattle.mls_rank.proofs.rank_core.RankCore.take_piece.Goals as goal

pub returns-then-has-clause-outcome : goal.returns-then-has-clause-outcome
returns-then-has-clause-outcome g c = λ pieces all kept.
    let core = c.args.self.now in
    let p = (piece_of c.args.piece.now) in
    replay_outcome core.shape core.rank pieces p
    (sym (kept.holds.marked p.group p.plane) ∙ mark_at (is_marked core.marks) c.has.result true c.group.result c.step.result p.group p.plane c.has.ensures c.group.ensures c.step.ensures c.if-has.true)

pub returns-then-has-clause-keeps : goal.returns-then-has-clause-keeps
returns-then-has-clause-keeps g c = λ pieces all kept.
    let core = c.args.self.now in
    let p = (piece_of c.args.piece.now) in
    let done = sym (kept.holds.marked p.group p.plane) ∙ mark_at (is_marked core.marks) c.has.result true c.group.result c.step.result p.group p.plane c.has.ensures c.group.ensures c.step.ensures c.if-has.true in
    record {
      holds = keeps_unchanged core.shape core.rank (is_marked core.marks) (marked core.marks) (g.F.RowFold.stands core.fold) pieces p (replay_incomplete core.shape core.rank pieces p done) kept.holds;
      waits = waits_replay core.shape core.rank core.pending pieces p done kept.waits;
    }
