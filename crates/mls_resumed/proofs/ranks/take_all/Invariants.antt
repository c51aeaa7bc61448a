use Rattle.std.proofs.Common.{◌≡◌, ℕ, ◌+◌, ◌^◌, ◌≤◌, List}
use Rattle.mls_model.specs.Studies.{Sizes}
use Rattle.mls_book.specs.SavedRanks.{number_of, total_of}
use Rattle.mls_resumed.specs.GoingOn.{IsGoingOn, AreTaken}
use Rattle.mls_resumed.proofs.ranks.take_all.Given as goal

abbrev pub invariant-loop-place : goal.invariant-loop-place
invariant-loop-place g l = record {
  taken : AreTaken l.tape.lanes l.order l.place l.taken.items;
  number : number_of l.saved ≡ number_of l.fn.saved;
  total : total_of l.saved ≤ 2 ^ 62 + l.place;
  goes_on : (s : Sizes) (rank : ℕ) (opening : List ℕ) (entry : g.row.K.Denot) → IsGoingOn g.F.RowFold g.K.Keeper s rank opening l.tape.lanes l.order 0 entry l.fn.saved
      → IsGoingOn g.F.RowFold g.K.Keeper s rank opening l.tape.lanes l.order l.place entry l.saved;
}
