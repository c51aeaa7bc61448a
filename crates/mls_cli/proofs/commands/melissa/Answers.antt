-- What the answer says of what is right.
use Rattle.std.proofs.Common.{map, string_bytes}
use Rattle.mls_cli.proofs.commands.melissa.Goals as goal
use Rattle.mls_cli.proofs.Exactness.{exact_carried, asked_carried, completed_carried}
use Rattle.mls_cli.proofs.PlainLines.{plain_carried}

pub returns-clause-refused : goal.returns-clause-refused
returns-clause-refused g c held told = exact_carried _ _ _ _ _ _ _ _ _ _ held c.run.ensures.carried told

pub returns-clause-sound : goal.returns-clause-sound
returns-clause-sound g c held told sound sure all takes = asked_carried _ _ _ _ _ _ _ _ _ _ held c.run.ensures.carried told sound sure all takes

pub returns-clause-complete : goal.returns-clause-complete
returns-clause-complete g c held told right sure full no_load no_save no_write none =
    completed_carried _ _ _ _ _ _ _ _ _ _ held c.run.ensures.carried told right sure full no_load no_save no_write none

pub returns-clause-orders : goal.returns-clause-orders
returns-clause-orders g c held told done = plain_carried c.no_rank_crashes.ensures.none_after_save c.result_text_has_the_plain_lines.ensures _ (map string_bytes c.args.words.now) _ _ _ _ _ _ _ held c.run.ensures.carried told done
