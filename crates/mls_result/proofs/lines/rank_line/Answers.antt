use Rattle.std.proofs.Common.{append_assoc}
use Rattle.std.proofs.lemmas.List.{append-nil}
use Rattle.mls_model.specs.ResultText.{rank_line}
use Rattle.mls_result.specs.Words.{counts_start}
use Rattle.mls_result.proofs.lines.rank_line.Goals as goal

pub returns : goal.returns
unfolding rank_line counts_start
returns c = rw (c.text-6.ensures.bytes, c.number-6.ensures.bytes, c.text-5.ensures.bytes, c.number-5.ensures.bytes, c.text-4.ensures.bytes, c.number-4.ensures.bytes, c.text-3.ensures.bytes, c.number-3.ensures.bytes, c.text-2.ensures.bytes, c.number-2.ensures.bytes, c.text.ensures.bytes, c.number.ensures.bytes, c.counts_start-line.ensures.text) (simp (append_assoc, append-nil))
