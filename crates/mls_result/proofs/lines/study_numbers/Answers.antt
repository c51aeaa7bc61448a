use Rattle.std.proofs.Common.{append_assoc}
use Rattle.std.proofs.lemmas.List.{append-nil}
use Rattle.mls_result.specs.Words.{study_numbers}
use Rattle.mls_result.proofs.lines.study_numbers.Goals as goal

pub returns-clause-text : goal.returns-clause-text
unfolding study_numbers
returns-clause-text c = rw (c.number-6.ensures.bytes, c.text-6.ensures.bytes, c.number-5.ensures.bytes, c.text-5.ensures.bytes, c.number-4.ensures.bytes, c.text-4.ensures.bytes, c.number-3.ensures.bytes, c.text-3.ensures.bytes, c.number-2.ensures.bytes, c.text-2.ensures.bytes, c.number.ensures.bytes, c.text.ensures.bytes, c.new-line.ensures) (simp (append_assoc, append-nil))
