use Rattle.std.proofs.Common.{◌≡◌, arith, ap, sym, ◌∙◌, subst}
use Rattle.mls_model.specs.Studies.{Sizes, planes}
use Rattle.mls_resume.specs.Reads.{lists_of, AreLong}
use Rattle.mls_resume.specs.Recut.{recut_bytes, recut_of}
use Rattle.mls_ckpt.specs.Spellings.{spelled_state}
use Rattle.mls_ledger.specs.MarkRows.{rows_of}
use Rattle.mls_resume.proofs.Whole.{marks_are, list_is, parts_long}
use Rattle.mls_resume.proofs.Pieces.{list_more, lists_all}
use Rattle.mls_resume.proofs.Cut.{cut_read, cut_openings}
use Rattle.mls_resume.proofs.cutting.recut.Goals as goal

pub recut_rank-requires-clause-parts : goal.recut_rank-requires-clause-parts
recut_rank-requires-clause-parts c =
    let files = lists_of c.args.files.now in
    subst (λ l. AreLong c.args.old.now (lists_of l)) (sym c.as_slice.ensures.value) (parts_long c.args.old.now files (lists_of c.in_ok-marks.parts.items) c.in_ok-marks.ensures.parts)

pub loop-rank-preserved : goal.loop-rank-preserved
loop-rank-preserved c =
    let s = c.args.shape.now in
    let old = c.args.old.now in
    let files = lists_of c.args.files.now in
    let parts = lists_of c.in_ok-marks.parts.items in
    let m = c.in_ok-marks.marks in
    let groups = ap (λ (z : Sizes). z.groups) c.requires.study in
    let same = ap planes c.requires.study in
    let marks = marks_are s old files m groups same c.marks_are_tests.ensures.only c.valid-3.ensures.rows c.in_ok-marks.ensures.marks in
    let own = c.in_ok-list.ensures ∙ ap (λ l. spelled_state 3 s c.loop-rank.rank (recut_of s old (rows_of m) (lists_of l) c.loop-rank.rank)) c.as_slice.ensures.value in
    list_more (recut_bytes s old files) c.loop-rank.rank (lists_of c.loop-rank.lists.items) (lists_of c.push.new.lists.items) c.in_ok-list.list.items c.loop-rank.invariant c.in_ok-push.ensures
    (list_is s old files parts m c.loop-rank.rank c.in_ok-list.list.items marks c.in_ok-marks.ensures.parts own)

pub returns-clause-reads : goal.returns-clause-reads
returns-clause-reads c =
    let read = c.in_ok-marks.ensures.parts in
    cut_read c.args.shape.now c.args.old.now (lists_of c.args.files.now) c.requires.study c.valid.ensures c.valid-2.ensures c.blocks_partition.ensures c.rank_holds.ensures
    c.marks_are_tests.ensures.only c.marks_are_tests.ensures.valid c.saved_states_read_again.ensures read.valid read.common

pub returns-clause-openings : goal.returns-clause-openings
returns-clause-openings c =
    let s = c.args.shape.now in
    let old = c.args.old.now in
    let files = lists_of c.args.files.now in
    let end = c.ranks-rank-end.ensures.value in
    let ends : c.loop-rank.rank ≡ s.ranks = omega (arith, end, c.loop-rank-test.false, c.loop-rank.auto.rank-end) in
    cut_openings s old files (lists_of c.loop-rank.lists.items) (lists_all (recut_bytes s old files) c.loop-rank.rank s.ranks (lists_of c.loop-rank.lists.items) c.loop-rank.invariant ends) c.valid-2.ensures c.marks_are_tests.ensures.valid (returns-clause-reads c)
