use Rattle.mls_examples.proofs.Computing.{of_bytes}
use Rattle.std.proofs.Common.{refl}
use Rattle.mls_examples.proofs.lanes.greetings.Goals as goal

pub returns-clause-hello : goal.returns-clause-hello
unfolding of_bytes
returns-clause-hello c = refl

pub returns-clause-welcome : goal.returns-clause-welcome
unfolding of_bytes
returns-clause-welcome c = refl

pub returns-clause-refuse : goal.returns-clause-refuse
unfolding of_bytes
returns-clause-refuse c = refl

pub returns-clause-hello_read : goal.returns-clause-hello_read
unfolding of_bytes
returns-clause-hello_read c = refl

pub returns-clause-welcome_read : goal.returns-clause-welcome_read
unfolding of_bytes
returns-clause-welcome_read c = refl

pub returns-clause-refuse_read : goal.returns-clause-refuse_read
unfolding of_bytes
returns-clause-refuse_read c = refl
