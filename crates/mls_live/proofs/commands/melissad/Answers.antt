-- What the answer says of what is right.
use Rattle.mls_live.proofs.commands.melissad.Goals as goal
use Rattle.mls_live.proofs.Tasks.{task_asked, task_exact, task_ran, task_sent, task_served, task_server}

pub returns-clause-refused : goal.returns-clause-refused
returns-clause-refused g c held told refusal is = task_exact _ _ _ _ _ _ _ _ _ _ refusal is (c.run.ensures.carried.right held told)

pub returns-clause-server : goal.returns-clause-server
returns-clause-server g c held told other before after was is = task_server _ _ _ _ _ _ _ _ _ before after _ other was is (c.run.ensures.carried.right held told)

pub returns-clause-sound : goal.returns-clause-sound
returns-clause-sound g c held told sound links enough = task_asked _ _ _ _ _ _ _ _ _ _ sound (λ x e. c.run.ensures.carried.surely held x told e) links enough (c.run.ensures.carried.right held told)

pub returns-clause-complete : goal.returns-clause-complete
returns-clause-complete g c held told right no_load no_door no_link before was all =
    task_sent _ _ _ _ _ _ _ _ _ before _ right (λ e. no_load (c.run.ensures.carried.read_fault e)) (λ e. no_door (c.run.ensures.carried.door_fault e)) (λ e. no_link (c.run.ensures.carried.link_fault e)) was all (c.run.ensures.carried.right held told)

pub returns-clause-complete_run : goal.returns-clause-complete_run
returns-clause-complete_run g c held told right no_load saves writes calm tell =
    task_ran _ _ _ _ _ _ _ _ _ _ right (λ e. no_load (c.run.ensures.carried.read_fault e)) saves writes calm tell (c.run.ensures.carried.right held told)

pub returns-clause-complete_serve : goal.returns-clause-complete_serve
returns-clause-complete_serve g c held told right no_load no_door writes calm tell =
    task_served _ _ _ _ _ _ _ _ _ _ right (λ e. no_load (c.run.ensures.carried.read_fault e)) (λ e. no_door (c.run.ensures.carried.door_fault e)) writes calm tell (c.run.ensures.carried.right held told)
