use Rattle.mls_examples.proofs.Computing.{of_events, of_texts}
use Rattle.mls_examples.proofs.Texts.{by_tests}
use Rattle.mls_examples.specs.Assembly.{first_client_first, second_client_first, two_clients, two_clients_lanes}
use Rattle.std.proofs.Common.{refl}
use Rattle.mls_examples.proofs.assembly.two_clients_in_each_order.Goals as goal

pub returns-clause-complete : goal.returns-clause-complete
unfolding of_events
returns-clause-complete c = (refl, refl)

pub returns-clause-first : goal.returns-clause-first
unfolding of_events
returns-clause-first c = refl

pub returns-clause-second : goal.returns-clause-second
unfolding of_events
returns-clause-second c = refl

pub returns-clause-first_text : goal.returns-clause-first_text
unfolding of_texts
returns-clause-first_text c = by_tests two_clients two_clients_lanes first_client_first

pub returns-clause-second_text : goal.returns-clause-second_text
unfolding of_texts
returns-clause-second_text c = by_tests two_clients two_clients_lanes second_client_first
