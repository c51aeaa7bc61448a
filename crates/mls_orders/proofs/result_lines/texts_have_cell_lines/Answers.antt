use Rattle.mls_orders.proofs.SameLines.{text_parts, result_parts}
use Rattle.mls_orders.proofs.result_lines.texts_have_cell_lines.Goals as goal

pub returns : goal.returns
returns c = record { history = text_parts; result = result_parts }
