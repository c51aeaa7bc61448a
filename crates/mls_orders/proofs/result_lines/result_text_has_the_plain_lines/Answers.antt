use Rattle.mls_orders.proofs.SameLines.{plain_parts}
use Rattle.mls_orders.proofs.result_lines.result_text_has_the_plain_lines.Goals as goal

pub returns : goal.returns
returns c = plain_parts
