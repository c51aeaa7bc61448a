-- The counts of a new rank.
use Rattle.std.proofs.Common.{◌≡◌, ℕ, ◌-◌, ◌*◌, List, ap, ◌∙◌}
use Rattle.std.specs.Prelude.{sum}
use Rattle.mls_model.specs.Studies.{Sizes}
use Rattle.mls_ckpt.specs.States.{marks_of_planes, overlapping}
use Rattle.mls_resume.specs.Recut.{taken_counts, recut_counts}

pub counts_are : (s : Sizes) (rank : ℕ) (marks : List (List ℕ)) (accepted others : ℕ) → accepted ≡ sum (marks_of_planes s marks) → others ≡ overlapping s rank - 1 → taken_counts accepted (accepted * others) ≡ recut_counts s rank marks
unfolding recut_counts
counts_are s rank marks accepted others total rest = ap (λ n. taken_counts n (n * others)) total ∙ ap (λ k. taken_counts (sum (marks_of_planes s marks)) (sum (marks_of_planes s marks) * k)) rest
