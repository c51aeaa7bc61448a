-- The parts of the text of a study, from its history.
use Rattle.std.proofs.Common.{◌≡◌, List, ℕ, [], ◌<◌, ◌≤◌, Option, Some, None, sym, ap, arith}
use Rattle.mls_model.specs.Studies.{Sizes}
use Rattle.mls_model.specs.Blocks.{block, rank_of}
use Rattle.mls_model.specs.Histories.{LaneEvent}
use Rattle.mls_model.specs.AcceptedRows.{rows}
use Rattle.mls_base.proofs.Spans.{span_found, holder, holder_holds, holder_within, bounds}
use Rattle.mls_model.specs.ResultText.{history_rows, pieces_of}

-- the rows of a cell are those of the history of the rank whose block holds it
pub rows_are : (s : Sizes) (histories : ℕ → List LaneEvent) (rank plane x : ℕ) → rank_of s x ≡ Some rank → rows s rank plane x (pieces_of s rank (histories rank)) ≡ history_rows s histories plane x
rows_are s histories rank plane x is =
    ap (λ (o : Option ℕ). elim o [ None ↦ [] | Some r ↦ rows s r plane x (pieces_of s r (histories r)) ]) (sym is)

-- the rank whose block holds a cell, as it is worked out
pub holder_is_found : (s : Sizes) (x : ℕ) → 1 ≤ s.ranks → x < s.cells → rank_of s x ≡ Some (holder s.cells s.ranks x)
holder_is_found s x some here = (span_found s.cells s.ranks x (holder s.cells s.ranks x) some).1 (holder_within s.cells s.ranks x some here, holder_holds s.cells s.ranks x some (omega (arith, here)))

pub holder_bounds : (s : Sizes) (x : ℕ) → 1 ≤ s.ranks → x < s.cells → ((block s (holder s.cells s.ranks x)).first ≤ x) × (x < (block s (holder s.cells s.ranks x)).end)
holder_bounds s x some here = bounds (block s (holder s.cells s.ranks x)) x (holder_holds s.cells s.ranks x some (omega (arith, here)))

pub holder_within_ranks : (s : Sizes) (x : ℕ) → 1 ≤ s.ranks → x < s.cells → holder s.cells s.ranks x < s.ranks
holder_within_ranks s x some here = holder_within s.cells s.ranks x some here
