-- What a feeder ends as, once the frame that it lent is gone.
use Rattle.std.specs.Prelude.{◌≡◌, ⊤}
use Rattle.std.specs.Borrow.{follows_so, MutBor, Fml}
use mathlib.Core.Option.{none}
use Rattle.mls_frame.specs.Feeding.{Fed}
use Rattle.mls_frame.specs.contracts.feeder.Feeder.{the_row}

abbrev pub EndsAs : MutBor Fed → Fed → Fml
EndsAs feeder fed = follows_so the_row the_row feeder.ghost_name none (λ _ _. ⊤) (λ last. last ≡ fed)
