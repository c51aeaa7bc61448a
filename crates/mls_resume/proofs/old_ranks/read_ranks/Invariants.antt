use Rattle.mls_resume.specs.Reads.{lists_of, AreRead}
use Rattle.mls_resume.proofs.old_ranks.read_ranks.Given as goal

abbrev pub invariant-loop-other : goal.invariant-loop-other
invariant-loop-other l = AreRead l.old (lists_of l.files) l.other (lists_of l.parts.items)
