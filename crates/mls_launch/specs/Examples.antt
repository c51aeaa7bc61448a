-- Two small studies with a list of events each.
use Rattle.std.specs.Prelude.{ℕ, false, List, [], ◌∷◌, codes}
use Rattle.mls_model.specs.declared.launcher.Event.{Event}
use Rattle.mls_model.specs.declared.launcher.Event.TheVariants.{Tick, Beat, Done}
use Rattle.mls_model.specs.Numbers.{joined}
use Rattle.mls_model.specs.Studies.{Sizes}

-- one cell, step, parameter, rank and client
abbrev pub launch_sizes : (groups slots silence lives : ℕ) → Sizes
launch_sizes groups slots silence lives = record { cells = 1; steps = 1; groups = groups; parameters = 1; ranks = 1; clients = 1; slots = slots; silence = silence; lives = lives; thresholds = []; signed = false; fields = 1 }

abbrev pub three_groups_events : List Event
three_groups_events = Tick 0 ∷ Beat 0 1 8 ∷ Tick 11 ∷ Done 0 1 12 ∷ Tick 13 ∷ Tick 24 ∷ []

abbrev pub three_groups_text : List ℕ
three_groups_text =
    joined (codes "melissa-watch 1\n"
    ∷ codes "0 start 0 1\n0 start 1 1\n"
    ∷ codes "11 restart-rank 0\n11 restart 1 2\n"
    ∷ codes "13 start 2 1\n"
    ∷ codes "24 restart-rank 0\n24 giveup 1\n24 restart 2 2\n"
    ∷ codes "end running 1 waiting 0 finished 1 givenup 1\n"
    ∷ [])

abbrev pub strict_silence_events : List Event
strict_silence_events = Tick 3 ∷ Tick 8 ∷ Tick 9 ∷ []

abbrev pub strict_silence_text : List ℕ
strict_silence_text =
    joined (codes "melissa-watch 1\n"
    ∷ codes "3 start 0 1\n"
    ∷ codes "8 restart-rank 0\n"
    ∷ codes "9 giveup 0\n"
    ∷ codes "end running 0 waiting 0 finished 0 givenup 1\n"
    ∷ [])
