-- After the summary was written or a write failed, each keeper has run.
use Rattle.std.proofs.Common.{◌≡◌, ℕ, List, Result, Ok, Err, sym, subst}
use Rattle.std.specs.Prelude.{IfErr}
use Rattle.mls_model.specs.Studies.{Sizes}
use Rattle.mls_model.specs.Histories.{LaneEvent}
use Rattle.mls_model.specs.Standing.{Table}
use Rattle.mls_ckpt.specs.Reading.{Cursor, Read}
use Rattle.mls_book.specs.Keepers.{KeeperState, HaveRun}
use Rattle.mls_result.specs.declared.fault.FoldFault.{FoldFault}
use Rattle.mls_result.specs.declared.fault.FoldFault.TheVariants as fold
use Rattle.mls_replay.specs.Folding.{KeepersAfter}

pub written_keepers : {A : Type 0} (answer : Result A FoldFault) (part_of : Sizes → ℕ → Table → List ℕ) (part_at : Sizes → ℕ → List ℕ → Cursor → Read Cursor) (s : Sizes) (histories : ℕ → List LaneEvent) (old new : List KeeperState)
    → IfErr answer (λ fault. fault ≡ fold.WriteFault) → HaveRun part_of s histories s.ranks old new → KeepersAfter answer part_of part_at s histories old new
written_keepers (Ok x) part_of part_at s histories old new only ran = ran
written_keepers {A} (Err fault) part_of part_at s histories old new only ran = subst (λ f. KeepersAfter {A = A} (Err f) part_of part_at s histories old new) (sym only) ran
