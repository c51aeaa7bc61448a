-- The files of the old ranks, one after the other.
use Rattle.std.proofs.Common.{◌≡◌, ap, arith}
use Rattle.std.proofs.lemmas.Result.{err_from_is_err_and}
use Rattle.mls_resume.specs.Reads.{lists_of}
use Rattle.mls_cli.proofs.OpenLists.{all_files, all_read, files_begin, files_more, files_refused, files_wanting, none_read, one_more_read}
use Rattle.mls_cli.proofs.openings.load_files.Goals as goal

pub loop-rank-init : goal.loop-rank-init
loop-rank-init g c =
    let none = ap (λ l. lists_of l) c.new-lists.ensures.items in
    (files_begin c.args.old.now c.args.prefix.now _ c.new-lists.result none, none_read c.args.old.now (lists_of c.new-lists.result.items) none)

pub loop-rank-preserved : goal.loop-rank-preserved
loop-rank-preserved g c =
    let more = c.in_ok-keep.ensures.ok in (
      files_more c.args.old.now c.args.prefix.now c.loop-rank.rank _ _ _ c.loop-rank.lists c.keep.new.lists c.in_ok-bytes.bytes more c.loop-rank.invariant.0 c.in_ok-bytes.ensures.loads,
      one_more_read c.args.old.now c.loop-rank.rank (lists_of c.loop-rank.lists.items) (lists_of c.keep.new.lists.items) c.in_ok-bytes.bytes.items more c.loop-rank.invariant.1 c.in_ok-bytes.ensures.opening,
    )

pub returns-in_err-bytes-clause-loads : goal.returns-in_err-bytes-clause-loads
returns-in_err-bytes-clause-loads g c =
    let p = err_from_is_err_and c.from_residual.result c.from_residual.ensures.1 in
    rw (p.1, p.2) (files_refused c.args.old.now c.args.prefix.now c.loop-rank.rank c.args.old.now.ranks _ _ _ c.loop-rank.lists (λ b. b.items) _ (omega (arith, c.loop-rank-test.true, c.ranks-rank-end.ensures.value)) c.loop-rank.invariant.0 c.in_err-bytes.ensures.loads)

pub returns-in_err-keep-clause-loads : goal.returns-in_err-keep-clause-loads
returns-in_err-keep-clause-loads g c =
    let p = err_from_is_err_and c.from_residual-in_err-keep.result c.from_residual-in_err-keep.ensures.1 in
    rw (p.1, p.2, c.in_err-keep.ensures.err) (files_wanting c.args.old.now c.args.prefix.now c.loop-rank.rank c.args.old.now.ranks _ _ _ c.loop-rank.lists c.in_ok-bytes.bytes c.loop-rank.invariant.0 c.in_ok-bytes.ensures.loads)

pub returns-clause-loads : goal.returns-clause-loads
returns-clause-loads g c =
    let all : c.loop-rank.rank ≡ c.args.old.now.ranks = omega (arith, c.loop-rank-test.false, c.loop-rank.auto.rank-end, c.ranks-rank-end.ensures.value) in
    all_files c.args.old.now c.args.prefix.now c.loop-rank.rank _ _ c.loop-rank.lists all c.loop-rank.invariant.0

pub returns-clause-openings : goal.returns-clause-openings
returns-clause-openings g c = all_read c.args.old.now c.loop-rank.rank (lists_of c.loop-rank.lists.items) (omega (arith, c.loop-rank-test.false, c.loop-rank.auto.rank-end, c.ranks-rank-end.ensures.value)) c.loop-rank.invariant.1
