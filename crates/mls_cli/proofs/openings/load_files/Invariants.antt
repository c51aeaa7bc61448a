use Rattle.std.specs.Prelude.{ℕ, List, Ok}
use Rattle.std.specs.Global.{Vec}
use Rattle.mls_export.specs.Files.{seen}
use Rattle.mls_resume.specs.Reads.{lists_of}
use Rattle.mls_cli.specs.Refusals.{Loads}
use Rattle.mls_cli.specs.Resume.{right_files}
use Rattle.mls_cli.proofs.OpenLists.{AreRead}
use Rattle.mls_cli.proofs.openings.load_files.Given as goal

abbrev pub invariant-loop-rank : goal.invariant-loop-rank
invariant-loop-rank g l = Loads (λ (lists : Vec (Vec ℕ)). lists_of lists.items) (λ held. right_files l.old l.prefix held l.rank) (seen g.F.Files.held g.F.Files.sound g.F.Files.load_faults g.F.Files.save_faults l.fn.files) (seen g.F.Files.held g.F.Files.sound g.F.Files.load_faults g.F.Files.save_faults l.files) (Ok l.lists) × AreRead l.old l.rank (lists_of l.lists.items)
