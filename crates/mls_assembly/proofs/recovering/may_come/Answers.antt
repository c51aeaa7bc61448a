use Rattle.mls_ckpt.specs.States.{is_from, is_marked}
use Rattle.mls_ledger.specs.MarkRows.{rows_of}
use Rattle.mls_assembly.specs.Held.{key_at}
use Rattle.mls_assembly.proofs.TakingKeys.{may_pass}
use Rattle.mls_assembly.proofs.recovering.may_come.Goals as goal

pub returns-then-is_from : goal.returns-then-is_from
returns-then-is_from c =
    may_pass c.is_from.result (is_from (key_at c.args.least) (key_at c.args.key)) c.has-marked.result _ (is_marked (rows_of c.args.marks.now) (key_at c.args.key)) c.if-is_from.true c.is_from.ensures c.has-marked.ensures (c.valid.ensures.rows.marks (key_at c.args.key))
