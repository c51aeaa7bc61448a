use Rattle.std.proofs.Common.{◌≡◌, [], ◌∷◌, ◌++◌, arith, ap, sym, ◌∙◌, subst}
use Rattle.mls_resume.specs.Reads.{lists_of, AreRead}
use Rattle.mls_resume.proofs.Whole.{read_one, read_more}
use Rattle.mls_resume.proofs.old_ranks.read_ranks.Goals as goal

pub loop-other-init : goal.loop-other-init
loop-other-init c =
    read_one c.args.old.now (lists_of c.args.files.now) (lists_of c.push.new.lists.items) c.in_ok-marks.part.items (c.in_ok-push.ensures ∙ ap (λ l. lists_of l ++ c.in_ok-marks.part.items ∷ []) c.in_ok-parts.ensures.items)
    c.in_ok-marks.ensures.part (sym c.in_ok-marks.part.ok.0 ∙ c.in_ok-marks.ensures.long) c.in_ok-marks.ensures.valid

pub loop-other-preserved : goal.loop-other-preserved
loop-other-preserved c =
    read_more c.args.old.now (lists_of c.args.files.now) (lists_of c.loop-other.parts.items) (lists_of c.push-in-loop-other.new.lists.items) c.loop-other.other c.in_ok-part.part.items c.loop-other.invariant c.in_ok-push-2.ensures
    c.in_ok-part.ensures.part (sym c.in_ok-part.part.ok.0 ∙ c.in_ok-part.ensures.long) c.in_ok-part.ensures.valid c.in_ok-part.ensures.common

pub returns-clause-parts : goal.returns-clause-parts
returns-clause-parts c =
    let s = c.args.old.now in
    let end = c.ranks-other-end.ensures.value in
    let some = c.valid.ensures.some_ranks in
    let ends : c.loop-other.other ≡ s.ranks = omega (arith, end, some, c.loop-other-test.false, c.loop-other.auto.other, c.loop-other.auto.other-end (omega (arith, end, some))) in
    subst (λ n. AreRead s (lists_of c.args.files.now) n (lists_of c.loop-other.parts.items)) ends c.loop-other.invariant
