-- Which groups are accepted, from the tape alone.
use Rattle.std.proofs.Common.{◌≡◌, ℕ, Bool, cond, List, IsPermutation, sym, ap, ◌∙◌}
use Rattle.mls_model.specs.Numbers.{times}
use Rattle.mls_model.specs.Studies.{Sizes}
use Rattle.mls_model.specs.Frames.{Piece}
use Rattle.mls_model.specs.Completion.{Key}
use Rattle.mls_model.specs.AcceptedRows.{accepted}
use Rattle.mls_laws.proofs.Completing.{accepted_completed, accepted_apart}
use Rattle.mls_orders.specs.OrderFree.{IsSettled, some_life_has_all}
use Rattle.mls_orders.proofs.WholeKeys.{completed_by_tape}
use Rattle.mls_orders.proofs.Counted.{once, permuted_by_times}

accepted_times : (s : Sizes) (rank plane g : ℕ) (pieces tape : List Piece) → IsPermutation pieces tape → ((key : Key) → IsSettled s rank tape key) → times g (accepted s rank plane pieces) ≡ cond (some_life_has_all s rank (record { group = g; plane = plane }) tape) 1 0
accepted_times s rank plane g pieces tape h settled =
    let key : Key = record { group = g; plane = plane } in
    once g (accepted s rank plane pieces) (accepted_apart s rank plane pieces)
    ∙ ap (λ (b : Bool). cond b 1 0) (accepted_completed s rank key pieces ∙ completed_by_tape s rank key pieces tape h (settled key))

pub accepted_permuted : (s : Sizes) (rank plane : ℕ) (xs ys tape : List Piece) → IsPermutation xs tape → IsPermutation ys tape → ((key : Key) → IsSettled s rank tape key) → IsPermutation (accepted s rank plane xs) (accepted s rank plane ys)
accepted_permuted s rank plane xs ys tape h k settled = permuted_by_times (accepted s rank plane xs) (accepted s rank plane ys) (λ g. accepted_times s rank plane g xs tape h settled ∙ sym (accepted_times s rank plane g ys tape k settled))
