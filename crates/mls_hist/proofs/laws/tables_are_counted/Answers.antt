use Rattle.mls_hist.proofs.Entries.{bracket_of_rows}
use Rattle.mls_hist.proofs.Parts.{here, counts_of_rows}
use Rattle.mls_hist.proofs.laws.tables_are_counted.Goals as goal

pub returns : goal.returns
returns c h t plane place stands plane_in place_in =
    let inside = here h place place_in in
    record {
      counted = stands.counted plane place plane_in inside;
      counts = counts_of_rows h t plane place stands plane_in inside;
      brackets = λ j least most. bracket_of_rows h t plane place j stands plane_in inside least most;
    }
