use Rattle.std.proofs.Common.{refl}
use Rattle.mls_examples.proofs.assembly.blocks_and_parts.Goals as goal

pub returns-clause-blocks : goal.returns-clause-blocks
returns-clause-blocks c = refl

pub returns-clause-parts : goal.returns-clause-parts
returns-clause-parts c = refl

pub returns-clause-overlaps : goal.returns-clause-overlaps
returns-clause-overlaps c = refl

pub returns-clause-pairs : goal.returns-clause-pairs
returns-clause-pairs c = refl
