use Rattle.std.proofs.Common.{refl, ◌∙◌}
use Rattle.mls_ledger.specs.MarkRows.{rows_of}
use Rattle.mls_resume.specs.Reads.{lists_of}
use Rattle.mls_resume.specs.Recut.{recut_of}
use Rattle.mls_resume.proofs.Whole.{whole_list}
use Rattle.mls_resume.proofs.cutting.recut_rank.Goals as goal

pub returns : goal.returns
returns c =
    let s = c.args.shape.now in
    let state = recut_of s c.args.old.now (rows_of c.args.marks.now) (lists_of c.args.parts.now) c.args.rank in
    c.finish.ensures
    ∙ whole_list s c.args.rank state _ c.put_head.new.out c.put_counts.new.out c.put.new.out c.put_part.new.out c.put_u32.new.self c.counts_of-counts.result
    c.new-out.ensures c.in_ok-put_head.ensures c.in_ok-put_counts.ensures c.counts_of-counts.ensures c.in_ok-put.ensures c.in_ok-put_part.ensures c.in_ok-put_u32.ensures.ok refl
