use Rattle.std.specs.Prelude.{negsuc}
use Rattle.std.specs.Fmt.{digits}
use Rattle.mls_model.specs.Indices.{rho6}
use Rattle.mls_model.specs.ResultText.{step_line, extrema_lines, exceed_lines}
use Rattle.mls_examples.specs.Largest.{most_signed_groups}
use Rattle.mls_examples.proofs.Equal.{cell_of_equal}
use Rattle.mls_examples.proofs.statistics.least_samples.Goals as goal

pub returns : goal.returns
unfolding digits rho6 step_line extrema_lines exceed_lines
returns c = record { cell = cell_of_equal most_signed_groups 65534 (negsuc 32767) }
