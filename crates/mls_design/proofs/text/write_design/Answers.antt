use Rattle.std.proofs.Common.{◌++◌}
use Rattle.mls_text.proofs.Writing.{first_failed, later_failed, line_writes, writes_after, failed_writes}
use Rattle.mls_design.specs.Lines.{title_words, all_lines, end_words}
use Rattle.mls_design.proofs.Texts.{whole_text}
use Rattle.mls_design.proofs.text.write_design.Goals as goal

pub returns-in_err-put_title : goal.returns-in_err-put_title
returns-in_err-put_title g c =
    let study = c.args.study.now in
    line_writes _ _ _ _ _ (whole_text study)
    (failed_writes _ _ _ _ _ c.from_residual.ensures.1 (first_failed title_words (all_lines study ++ end_words) _ _ c.in_err-put_title.ensures))

pub returns-in_err-put_groups : goal.returns-in_err-put_groups
returns-in_err-put_groups g c =
    let study = c.args.study.now in
    line_writes _ _ _ _ _ (whole_text study)
    (failed_writes _ _ _ _ _ c.from_residual-in_err-put_groups.ensures.1
    (later_failed title_words (all_lines study ++ end_words) _ _ _ c.in_ok-put_title.ensures (first_failed (all_lines study) end_words _ _ c.in_err-put_groups.ensures)))

pub returns : goal.returns
returns g c =
    let study = c.args.study.now in
    line_writes _ _ _ _ _ (whole_text study)
    (writes_after _ title_words (all_lines study ++ end_words) _ _ _ c.in_ok-put_title.ensures
    (writes_after _ (all_lines study) end_words _ _ _ c.in_ok-put_groups.ensures c.put_end.ensures))
