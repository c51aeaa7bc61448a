-- The lists are the old ranks' own where there are as many, else those that are cut from them.
use Rattle.std.proofs.Common.{arith}
use Rattle.mls_resume.specs.Reads.{lists_of}
use Rattle.mls_cli.proofs.OpenLists.{lists_cut, lists_kept, lists_refused}
use Rattle.mls_cli.proofs.openings.cut.Goals as goal

pub returns-then-ranks-clause-right : goal.returns-then-ranks-clause-right
returns-then-ranks-clause-right c = lists_kept c.args.shape.now c.args.old.now _ (omega (arith, c.if-ranks.true, c.ranks.ensures.value, c.ranks-2.ensures.value))

pub returns-in-Ok-clause-right : goal.returns-in-Ok-clause-right
returns-in-Ok-clause-right c =
    lists_cut c.args.shape.now c.args.old.now (lists_of c.args.files.items) (lists_of c.in-Ok.lists.items) (λ same. omega (arith, same, c.if-ranks.false, c.ranks.ensures.value, c.ranks-2.ensures.value)) (rw (c.as_slice.ensures.value) at c.in-Ok.ensures.ok)

pub returns-in-Err-Differ-clause-right : goal.returns-in-Err-Differ-clause-right
returns-in-Err-Differ-clause-right c =
    lists_refused c.args.shape.now c.args.old.now (lists_of c.args.files.items) c.in-Err-Differ.other c.in-Err-Differ.plane c.in-Err-Differ.group c.in-Err-Differ.first_has (λ same. omega (arith, same, c.if-ranks.false, c.ranks.ensures.value, c.ranks-2.ensures.value)) (rw (c.as_slice.ensures.value, c.in-Err-Differ.field-0-is) at c.in-Err-Differ.ensures.err)
